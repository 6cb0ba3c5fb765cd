-- What a code that was read stands for.
use Rattle.std.proofs.Common.{◌≡◌, ℕ, Some, Ok, Err, Result, arith}
use Rattle.std.specs.Result.{result_ok}

pub was_ok : {T E : Type 0} (r : Result T E) (x : T) → Some x ≡ result_ok r → Ok x ≡ r
was_ok (Ok y) x e = cc
was_ok (Err y) x e = let z : ◌≡◌ {A = ℕ} 0 1 = cc in absurd (omega arith)
