-- Many units at once: a pass hands a side units from the front of an input, and takes waiting units into the front of an output. It goes on until a unit
-- waits that finds no room, or nothing waits and the input is used up or its next unit is too large. How far its input is ahead of its output is left open.
--   Gives M s s' output output' n     the first n units that wait in s go into the front of the output, whose other places stay; what is left is s'
--   Drains                            the same, and as many as wait and fit
--   Passes                            the same of the side that was handed the units used
use Rattle.std.specs.Prelude.{◌≡◌, ℕ, ◌<◌, ◌≤◌, List, [], ◌++◌, length, take, drop}
use Rattle.stage.specs.declared.Passed.{Passed}
use Rattle.stage.specs.Model.{Model, Sending, fed, ahead, some}
use Rattle.stage.specs.Rule.{Under}
use Rattle.stage.specs.Piled.{fitting}

pub record Gives (M : Model) (s s' : Sending) (output output' : List ℕ) (made : ℕ) : Type 0 where
  pub units : List ℕ
  pub made_is : length units ≡ made
  pub room : made ≤ length output
  pub side : s ≡ ahead units s'
  pub buffer : output' ≡ units ++ drop made output
  pub below : Under M.given units

pub record Drains (M : Model) (s s' : Sending) (output output' : List ℕ) (made : ℕ) : Type 0 where
  pub gives : Gives M s s' output output' made
  pub all_that_fit : made < length output → s'.waits ≡ []

pub record Passes (M : Model) (s s' : Sending) (input output output' : List ℕ) (p : Passed) : Type 0 where
  pub input_has : p.used ≤ length input
  pub fits : Under M.taken (take p.used input)
  pub drains : Drains M (fed s (take p.used input)) s' output output' p.made
  pub used_up : s'.waits ≡ [] → fitting M.taken (drop p.used input) ≡ []
  pub waits : p.waits ≡ some s'.waits
