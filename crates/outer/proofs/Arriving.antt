-- Whether something waits of what has arrived.
use Rattle.std.proofs.Common.{◌≡◌, ℕ, ◌<◌, List, [], ◌∷◌, length, drop, Some, None, Ok, Err, Option, Result, refl, ap}
use Rattle.std.proofs.lemmas.List.{drop_more}
use Rattle.stage.specs.declared.Fault.{Fault}
use Rattle.stage.specs.Model.{clean, some_heard}
use Rattle.outer.specs.Arrived.{arrived_heard}

-- of a packet some byte waits, so it is as if one did
pub some_arrived : (packet : List ℕ) (arrived : Result (Option ℕ) Fault) → ((at : ℕ) → arrived ≡ Ok (Some at) → at < length packet)
    → some_heard (arrived_heard (λ at. drop at packet) arrived) ≡ some_heard (arrived_heard (λ at. at ∷ []) arrived)
some_arrived packet (Ok None) h = refl
some_arrived packet (Ok (Some at)) h = ap (λ us. some_heard (clean us)) (drop_more packet at 0 (h at refl))
some_arrived packet (Err f) h = refl
