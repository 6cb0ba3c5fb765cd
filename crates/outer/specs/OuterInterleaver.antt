-- The outer interleaver as a stage.
use Rattle.std.specs.Prelude.{ℕ, ◌+◌, [], ◌∷◌}
use Rattle.stage.specs.Model.{Model, Sending, Receiving, hushed}
use Rattle.holds.specs.Capped.{capped}
use Rattle.outer.specs.Branches.{new_branches, sending_depths, interleaved, new_arriving, restored}
use Rattle.stage.specs.Waiting.{listed}
use Rattle.outer.specs.Arrived.{arrived_heard}
use Rattle.outer.specs.declared.outer_interleaver.OuterInterleaver.{OuterInterleaver}

abbrev pub plus_2244 : ℕ → ℕ
plus_2244 m = m + 2244

abbrev pub outer_interleaver : Model
outer_interleaver = record {
  taken = 256;
  given = 256;
  size = 1;
  hold = capped plus_2244;
  sends = interleaved (new_branches sending_depths);
  hears = restored new_arriving;
}

abbrev pub interleaver_sending : OuterInterleaver → Sending
interleaver_sending s = record { waits = listed s.out; future = interleaved s.leaving }

abbrev pub interleaver_receiving : OuterInterleaver → Receiving
interleaver_receiving s = record {
  waits = arrived_heard (λ byte. byte ∷ []) s.arrived;
  future = λ ys. hushed (arrived_heard (λ byte. byte ∷ []) s.arrived).fault (restored (record { branches = s.arriving; count = s.count }) ys);
}
