-- A walk as the code keeps it, and what it stands for.
use Rattle.inner_coder.specs.declared.convolution.Walk as kept
use Rattle.inner_coder.specs.Convolution.{Walk}

abbrev pub walk_of : kept.Walk → Walk
walk_of w = record { phase = w.phase; register = w.register }
