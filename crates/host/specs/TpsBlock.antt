-- Whether a C program's call for a TPS block is refused, and what it leaves in the buffer.
use Rattle.std.specs.Prelude.{ℕ, List, Some, Ok, Err, Option, Result}
use Rattle.refusal.specs.declared.Refusal.{Refusal}
use Rattle.refusal.specs.Numbers.{number_of}
use Rattle.settings.specs.declared.Settings.{Settings}
use Rattle.tps.specs.Block as block

-- the record first, then frame and buffer
abbrev pub refused : Result Settings Refusal → ℕ → List ℕ → Option ℕ
refused (Err r) frame buffer = Some (number_of r)
refused (Ok s) frame buffer = block.refused frame buffer

abbrev pub after : Result Settings Refusal → ℕ → List ℕ → List ℕ
after (Err r) frame buffer = buffer
after (Ok s) frame buffer = block.after (block.refused frame buffer) s frame buffer
