-- What every stage owes: the stage rule, with its law.
--   Alphabet n        n is 0, or a power of two from 2 to 256
--   Under n xs        every unit of xs is below n
--   Begins p w        p is the beginning of w
--   Sends f, Hears f  f is the future of a side: none for none, and the beginning of a list gives the beginning
--   Numbered n f      the fault's stage number is from 1 to n
--   Back M xs m h     the law's promise: h has no fault and is the first units of xs, all but at most hold m
--   Rule M            the stage with the model M keeps the rule
--   Same M N          the stages with the models M and N are the same
use Rattle.std.specs.Prelude.{◌≡◌, ℕ, ◌+◌, ◌-◌, ◌^◌, ◌<◌, ◌≤◌, ◌⊎◌, List, [], ◌++◌, length, take, Some, None}
use Rattle.std.specs.List.{AllByRecursion}
use Rattle.holds.specs.Capped.{most}
use Rattle.stage.specs.declared.Fault.{Fault}
use Rattle.stage.specs.Model.{Heard, Model, and_then, silence}

abbrev pub Alphabet : ℕ → Type 0
Alphabet n = (n ≡ 0) ⊎ ((k : ℕ) × (1 ≤ k) × (k ≤ 8) × (n ≡ 2 ^ k))

abbrev pub Under : ℕ → List ℕ → Type 0
Under n xs = AllByRecursion (λ x. x < n) xs

abbrev pub Begins {ℓ} : {A : Type ℓ} → List A → List A → Type ℓ
Begins {A} p w = (rest : List A) × (w ≡ p ++ rest)

abbrev pub BeginsHeard : Heard → Heard → Type 0
BeginsHeard p w = (rest : Heard) × (w ≡ and_then p rest)

pub record Sends (f : List ℕ → List ℕ) : Type 0 where
  pub none : f [] ≡ []
  pub grows : (xs ys : List ℕ) → Begins (f xs) (f (xs ++ ys))

pub record Hears (f : List ℕ → Heard) : Type 0 where
  pub none : f [] ≡ silence
  pub grows : (xs ys : List ℕ) → BeginsHeard (f xs) (f (xs ++ ys))

-- the list without its last m elements
abbrev pub without_last {ℓ} : {A : Type ℓ} → ℕ → List A → List A
without_last m ys = take (length ys - m) ys

abbrev pub Numbered : ℕ → Fault → Type 0
Numbered n f = (1 ≤ f.stage) × (f.stage ≤ n)

pub record Back (M : Model) (xs : List ℕ) (m : ℕ) (h : Heard) : Type 0 where
  pub clean : h.fault ≡ None
  pub begins : Begins h.units xs
  pub within : M.hold m < most → length xs ≤ length h.units + M.hold m

-- The law: a new stage sends xs, and a new receiving side hears all of that but the last m units.
pub record Rule (M : Model) : Type 0 where
  pub taken_is : Alphabet M.taken
  pub given_is : Alphabet M.given
  pub size_some : 1 ≤ M.size
  pub size_stops : M.size ≤ most
  pub hold_stops : (m : ℕ) → M.hold m ≤ most
  pub hold_grows : (m n : ℕ) → m ≤ n → M.hold m ≤ M.hold n
  pub hold_most : (m : ℕ) → most ≤ m → M.hold m ≡ most
  pub sends_grow : Sends M.sends
  pub hears_grow : Hears M.hears
  pub sends_under : (xs : List ℕ) → Under M.taken xs → Under M.given (M.sends xs)
  pub hears_under : (ys : List ℕ) → Under M.given ys → Under M.taken (M.hears ys).units
  pub faults_numbered : (ys : List ℕ) (f : Fault) → (M.hears ys).fault ≡ Some f → Numbered M.size f
  pub law : (xs : List ℕ) (m : ℕ) → Under M.taken xs → m ≤ length (M.sends xs)
      → Back M xs m (M.hears (without_last m (M.sends xs)))

-- equal taken, given, holds and new futures, on lists of units that the side takes
pub record Same (M N : Model) : Type 0 where
  pub same_taken : M.taken ≡ N.taken
  pub same_given : M.given ≡ N.given
  pub same_hold : (m : ℕ) → M.hold m ≡ N.hold m
  pub same_sends : (xs : List ℕ) → Under M.taken xs → M.sends xs ≡ N.sends xs
  pub same_hears : (ys : List ℕ) → Under M.given ys → M.hears ys ≡ N.hears ys
