use Rattle.std.proofs.Common.{◌≡◌}
use Rattle.samples.specs.AnnexC.{number_of}
use Rattle.samples.proofs.annex_c.told.Given as goal

abbrev pub invariant-loop-symbol : goal.invariant-loop-symbol
invariant-loop-symbol l = l.number ≡ number_of l.cells l.cell l.place l.symbol
