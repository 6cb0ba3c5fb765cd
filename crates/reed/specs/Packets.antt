-- The call that protects a packet: its answer, and what the output then holds.
use Rattle.std.specs.Prelude.{ℕ, Bool, cond, ◌&&◌, List, ◌++◌, length, Ok, Err, Result, ◌==◌}
use Rattle.refusal.specs.declared.Refusal.{Refusal}
use Rattle.refusal.specs.declared.Refusal.TheVariants.{PacketLength}
use Rattle.reed.specs.Code.{remainder}

-- 188 bytes come in, and there is room for exactly 204
abbrev pub fits : List ℕ → List ℕ → Bool
fits packet output = length packet == 188 && length output == 204

abbrev pub answer : List ℕ → List ℕ → Result (Unit {0}) Refusal
answer packet output = cond (fits packet output) (Ok tt) (Err PacketLength)

abbrev pub written : List ℕ → List ℕ → List ℕ
written packet output = cond (fits packet output) (packet ++ remainder packet) output
