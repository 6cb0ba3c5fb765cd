-- A receiving side that does what a sending side does, with no fault.
use Rattle.std.specs.Prelude.{◌≡◌, ℕ, Bool, true, false, List, [], ◌∷◌, Some, None, Ok, refl}
use Rattle.std.proofs.Common.{ap, arith}
use Rattle.stage.specs.declared.Fault.{Fault}
use Rattle.stage.specs.Model.{Sending, clean, some, some_heard, offered, heard, heard_of, first, first_heard}
use Rattle.stage.specs.Rule.{Sends, Hears}

pub clean_hears : {f : List ℕ → List ℕ} → Sends f → Hears (λ ys. clean (f ys))
clean_hears s = record {
  none = ap clean s.none;
  grows = λ xs ys. let g = s.grows xs ys in (clean g.0, ap clean g.1);
}

pub no_fault : (P : Fault → Type 0) (f : Fault) → None ≡ Some f → P f
no_fault P f e = let z : ◌≡◌ {A = ℕ} 0 1 = cc in absurd (omega arith)

pub clean_some : (ws : List ℕ) → some_heard (clean ws) ≡ some ws
clean_some [] = refl
clean_some (w ∷ ws) = refl

pub clean_first : (ws : List ℕ) → first_heard (clean ws) ≡ Ok (first ws)
clean_first [] = refl
clean_first (w ∷ ws) = refl

pub heard_of_offered : (fits busy : Bool) (s : Sending) (u : ℕ) → heard fits busy (heard_of s) u ≡ heard_of (offered fits busy s u)
heard_of_offered false busy s u = refl
heard_of_offered true true s u = refl
heard_of_offered true false s u = refl
