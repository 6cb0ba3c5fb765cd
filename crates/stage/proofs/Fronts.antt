-- Lists that begin others, and lists of units below a number.
use Rattle.std.proofs.Common.{◌≡◌, ℕ, ◌-◌, ◌<◌, ◌≤◌, List, [], ◌∷◌, ◌++◌, length, take, drop, sym, refl, ap, ◌∙◌, subst, not-suc-le-zero, arith, length-append, take-append-drop}
use Rattle.std.specs.List.{AllByRecursion}
use Rattle.std.proofs.lemmas.List.{append-nil, append_assoc, take_at, drop_at}
use Rattle.std.proofs.ByRecursion.{All-weaker}
use Rattle.stage.specs.Rule.{Under, Begins, without_last}

module _ {A : Type 0} where
  pub begins_refl : (xs : List A) → Begins xs xs
  begins_refl xs = ([], sym (append-nil xs))

  pub begins_trans : (xs ys zs : List A) → Begins xs ys → Begins ys zs → Begins xs zs
  begins_trans xs ys zs p q =
      (p.0 ++ q.0, q.1 ∙ ap (λ (w : List A). w ++ q.0) p.1 ∙ append_assoc xs p.0 q.0)

  pub begins_length : (xs ys : List A) → Begins xs ys → length xs ≤ length ys
  begins_length xs ys p = omega (arith, length-append xs p.0, ap length p.1)

  pub begins_take : (xs ys : List A) → Begins xs ys → xs ≡ take (length xs) ys
  begins_take xs ys p = sym (ap (take (length xs)) p.1 ∙ take_at xs p.0 (length xs) refl)

  pub take_begins : (n : ℕ) (ys : List A) → Begins (take n ys) ys
  take_begins n ys = (drop n ys, sym (take-append-drop n ys))

  -- two beginnings of one list: the shorter begins the longer
  pub begins_both : (xs ys zs : List A) → Begins xs zs → Begins ys zs → length xs ≤ length ys → Begins xs ys
  begins_both [] ys zs p q h = (ys, refl)
  begins_both (x ∷ xs) [] zs p q h = absurd (not-suc-le-zero h)
  begins_both (x ∷ xs) (y ∷ ys) [] p q h = let z : ◌≡◌ {A = ℕ} 0 1 = cc p.1 in absurd (omega arith)
  begins_both (x ∷ xs) (y ∷ ys) (z ∷ zs) p q h =
      let e : x ≡ y = cc (p.1, q.1) in
      let p' : zs ≡ xs ++ p.0 = cc p.1 in
      let q' : zs ≡ ys ++ q.0 = cc q.1 in
      let r = begins_both xs ys zs (p.0, p') (q.0, q') (omega arith) in
      (r.0, cc r.1)

  -- of two beginnings of equal length there is one
  pub begins_same : (xs ys zs : List A) → Begins xs zs → Begins ys zs → length xs ≡ length ys → xs ≡ ys
  begins_same xs ys zs p q h = begins_take xs zs p ∙ ap (λ (n : ℕ). take n zs) h ∙ sym (begins_take ys zs q)

  -- two lists that are joined alike, whose first parts are as long
  pub split : (xs ys vs ws : List A) → length xs ≡ length ys → xs ++ vs ≡ ys ++ ws → (xs ≡ ys) × (vs ≡ ws)
  split xs ys vs ws h e = (
    sym (take_at xs vs (length xs) refl) ∙ ap (take (length xs)) e ∙ take_at ys ws (length xs) (sym h),
    sym (drop_at xs vs (length xs) refl) ∙ ap (drop (length xs)) e ∙ drop_at ys ws (length xs) (sym h),
  )

  pub all_left : (P : A → Type 0) (xs ys : List A) → AllByRecursion P (xs ++ ys) → AllByRecursion P xs
  all_left P [] ys h = tt
  all_left P (x ∷ xs) ys h = (h.0, all_left P xs ys h.1)

  pub all_right : (P : A → Type 0) (xs ys : List A) → AllByRecursion P (xs ++ ys) → AllByRecursion P ys
  all_right P [] ys h = h
  all_right P (x ∷ xs) ys h = all_right P xs ys h.1

  pub all_begins : (P : A → Type 0) (xs ys : List A) → Begins xs ys → AllByRecursion P ys → AllByRecursion P xs
  all_begins P xs ys p h = all_left P xs p.0 (subst (λ (w : List A). AllByRecursion P w) p.1 h)

  -- the beginning of a list is the list without its last few elements
  pub begins_without : (xs ys : List A) → Begins xs ys → xs ≡ without_last (length ys - length xs) ys
  begins_without xs ys p =
      let k = begins_length xs ys p in
      let e : length ys - (length ys - length xs) ≡ length xs = omega arith in
      begins_take xs ys p ∙ ap (λ (n : ℕ). take n ys) (sym e)

pub under_weaker : (m n : ℕ) → m ≤ n → (xs : List ℕ) → Under m xs → Under n xs
under_weaker m n h xs k = All-weaker (λ x. x < m) (λ x. x < n) (λ x b. omega arith) xs k
