-- What the branches hold, by places in the list of bytes that went in.
use Rattle.std.specs.Prelude.{◌≡◌, ℕ, zero, suc, ◌+◌, ◌-◌, ◌*◌, ◌%◌, ◌<◌, ◌≤◌, ◌≢◌, List, [], ◌∷◌, ◌++◌, map, length, get_or, drop, replicate, nat_le, slice_index, slice_index_or, slice_set, refl}
use Rattle.std.proofs.Common.{length-drop, append_assoc, inl, inr, sym, ap, ap₂, subst, ◌∙◌, arith}
use Rattle.std.proofs.lemmas.List.{get_or_append_left, get_or_at, get_or-drop, get_or-map, get_or-replicate, get_or-set_same, get_or-set_other, length-replicate, length-set, length-map, length_push}
use Rattle.std.proofs.lemmas.Bool.{cases_lt, cases_eq, cond-true, cond-false, le-leb, lt-leb}
use Rattle.outer.specs.Branches.{Branches, oldest, passed, passing, new_branches, interleaved}
use Rattle.outer.specs.Delays.{past}

pub past_read : (xs : List ℕ) (p d : ℕ) → d ≤ p → past xs p d ≡ slice_index xs (p - d)
past_read xs p d h = cond-true (nat_le d p) (slice_index xs (p - d)) 0 (le-leb d p h)

pub past-zero : (xs : List ℕ) (p d : ℕ) → p < d → past xs p d ≡ 0
past-zero xs p d h = cond-false (nat_le d p) (slice_index xs (p - d)) 0 (lt-leb d p h)

pub past_none : (p d : ℕ) → past [] p d ≡ 0
past_none p d =
    elim (cases_lt p d) [
      | inl l ↦ past-zero [] p d l
      | inr g ↦ past_read [] p d g
    ]

-- what comes later alters nothing
pub past_left : (us vs : List ℕ) (p d : ℕ) → p < d + length us → past (us ++ vs) p d ≡ past us p d
past_left us vs p d h =
    elim (cases_lt p d) [
      | inl l ↦ past-zero (us ++ vs) p d l ∙ sym (past-zero us p d l)
      | inr g ↦ past_read (us ++ vs) p d g ∙ get_or_append_left us vs 0 (p - d) (omega arith) ∙ sym (past_read us p d g)
    ]

pub past_at : (us vs : List ℕ) (x p d : ℕ) → p ≡ d + length us → past (us ++ x ∷ vs) p d ≡ x
past_at us vs x p d e = past_read (us ++ x ∷ vs) p d (omega arith) ∙ get_or_at us x vs 0 (p - d) (omega arith)

module _ (depth : ℕ → ℕ) where
  -- After the bytes us: the next place of each branch is one of the next twelve.
  pub record Holds (us : List ℕ) (qs : List (List ℕ)) : Type 0 where
    pub twelve : length qs ≡ 12
    pub long : (p : ℕ) → length us ≤ p → p < length us + 12 → length (slice_index_or qs (p % 12) []) ≡ depth (p % 12)
    pub entry : (p k : ℕ) → length us ≤ p → p < length us + 12 → k < depth (p % 12)
        → slice_index (slice_index_or qs (p % 12) []) k ≡ past us (p + 12 * k) (12 * depth (p % 12))

  module _ (us : List ℕ) (x : ℕ) (qs : List (List ℕ)) (h : Holds us qs) where
    abbrev t : ℕ
    t = length us

    abbrev j : ℕ
    j = t % 12

    abbrev q : List ℕ
    q = slice_index_or qs j []

    q_long : length q ≡ depth j
    q_long = h.long t (omega arith) (omega arith)

    pub leaves : oldest (q ++ x ∷ []) ≡ past (us ++ x ∷ []) t (12 * depth j)
    leaves =
        elim (cases_eq (depth j) 0) [
          | inl z ↦
              get_or_at q x [] 0 0 (q_long ∙ z)
              ∙ sym (past_at us [] x t (12 * depth j) (omega arith))
          | inr n ↦
              let some : 0 < depth j = omega arith in
              get_or_append_left q (x ∷ []) 0 0 (omega (arith, q_long))
              ∙ h.entry t 0 (omega arith) (omega arith) some
              ∙ ap (λ p. past us p (12 * depth j)) (omega arith)
              ∙ sym (past_left us (x ∷ []) t (12 * depth j) (omega arith))
        ]

    abbrev q' : List ℕ
    q' = drop 1 (q ++ x ∷ [])

    abbrev qs' : List (List ℕ)
    qs' = slice_set qs j q'

    -- the branch whose turn it was
    same : get_or qs' j [] ≡ q'
    same = get_or-set_same qs j q' [] (omega (arith, h.twelve))

    q'_long : length q' ≡ depth j
    q'_long = length-drop 1 (q ++ x ∷ []) ∙ omega (arith, length_push q x, q_long)

    q'_entry : (k : ℕ) → k < depth j → slice_index q' k ≡ past (us ++ x ∷ []) (t + 12 + 12 * k) (12 * depth j)
    q'_entry k l =
        get_or-drop 1 (q ++ x ∷ []) k 0
        ∙ (elim (cases_lt (1 + k) (depth j)) [
          | inl m ↦
              get_or_append_left q (x ∷ []) 0 (1 + k) (omega (arith, q_long))
              ∙ h.entry t (1 + k) (omega arith) (omega arith) m
              ∙ ap (λ p. past us p (12 * depth j)) (omega arith)
              ∙ sym (past_left us (x ∷ []) (t + 12 + 12 * k) (12 * depth j) (omega arith))
          | inr m ↦
              get_or_at q x [] 0 (1 + k) (omega (arith, q_long))
              ∙ sym (past_at us [] x (t + 12 + 12 * k) (12 * depth j) (omega arith))
        ])

    abbrev on : ℕ → Type 0
    on p = (length (slice_index_or qs' (p % 12) []) ≡ depth (p % 12))
        × ((k : ℕ) → k < depth (p % 12) → slice_index (slice_index_or qs' (p % 12) []) k ≡ past (us ++ x ∷ []) (p + 12 * k) (12 * depth (p % 12)))

    on_same : (p : ℕ) → p ≡ t + 12 → on p
    on_same p e =
        let r : p % 12 ≡ j = omega arith in
        let at : get_or qs' (p % 12) [] ≡ q' = ap (λ i. get_or qs' i []) r ∙ same in (
          ap length at ∙ q'_long ∙ ap depth (sym r),
          λ k l.
              ap (λ (w : List ℕ). slice_index w k) at
              ∙ q'_entry k (subst (λ i. k < depth i) r l)
              ∙ ap₂ (λ s i. past (us ++ x ∷ []) (s + 12 * k) (12 * depth i)) (sym e) (sym r),
        )

    on_other : (p : ℕ) → t < p → p < t + 12 → on p
    on_other p l m =
        let ne : p % 12 ≢ j = λ e. omega arith in
        let at : get_or qs' (p % 12) [] ≡ get_or qs (p % 12) [] = get_or-set_other qs j (p % 12) q' [] ne in (
          ap length at ∙ h.long p (omega arith) m,
          λ k n.
              ap (λ (w : List ℕ). slice_index w k) at
              ∙ h.entry p k (omega arith) m n
              ∙ sym (past_left us (x ∷ []) (p + 12 * k) (12 * depth (p % 12)) (omega arith)),
        )

    on_all : (p : ℕ) → length (us ++ x ∷ []) ≤ p → p < length (us ++ x ∷ []) + 12 → on p
    on_all p l m =
        let e : length (us ++ x ∷ []) ≡ t + 1 = length_push us x in
        elim (cases_eq p (t + 12)) [
          | inl s ↦ on_same p s
          | inr n ↦ on_other p (omega arith) (omega arith)
        ]

    pub goes_on : Holds (us ++ x ∷ []) qs'
    goes_on = record {
      twelve = length-set qs j q' ∙ h.twelve;
      long = λ p l m. (on_all p l m).0;
      entry = λ p k l m n. (on_all p l m).1 k n;
    }

  pub record Follows (us : List ℕ) (s : Branches) : Type 0 where
    pub turn_is : s.turn ≡ length us % 12
    pub holds : Holds us s.queues

  module _ (us : List ℕ) (x : ℕ) (s : Branches) (f : Follows us s) where
    pub passed_is : passed s x ≡ past (us ++ x ∷ []) (length us) (12 * depth (length us % 12))
    passed_is = ap (λ i. oldest (slice_index_or s.queues i [] ++ x ∷ [])) f.turn_is ∙ leaves us x s.queues f.holds

    pub follows_on : Follows (us ++ x ∷ []) (passing s x)
    follows_on = record {
      turn_is = let e = f.turn_is in omega (arith, length_push us x);
      holds = subst (λ i. Holds (us ++ x ∷ []) (slice_set s.queues i (drop 1 (slice_index_or s.queues i [] ++ x ∷ [])))) (sym f.turn_is) (goes_on us x s.queues f.holds);
    }

  -- each byte that leaves, by its place
  pub leaves_all : (us vs : List ℕ) (s : Branches) → Follows us s → (i : ℕ) → i < length vs
      → slice_index (interleaved s vs) i ≡ past (us ++ vs) (length us + i) (12 * depth ((length us + i) % 12))
  leaves_all us [] s f i l = absurd (omega arith)
  leaves_all us (x ∷ vs) s f zero l =
      passed_is us x s f
      ∙ sym (past_left (us ++ x ∷ []) vs (length us) (12 * depth (length us % 12)) (omega (arith, length_push us x)))
      ∙ ap₂ (λ w p. past w p (12 * depth (p % 12))) (append_assoc us (x ∷ []) vs) (omega arith)
  leaves_all us (x ∷ vs) s f (suc i) l =
      leaves_all (us ++ x ∷ []) vs (passing s x) (follows_on us x s f) i (omega arith)
      ∙ ap₂ (λ w p. past w p (12 * depth (p % 12))) (append_assoc us (x ∷ []) vs) (omega (arith, length_push us x))

abbrev zeros : ℕ → List ℕ
zeros d = replicate d 0

-- new branches hold nothing but zeros
pub follows_new : (ds : List ℕ) → length ds ≡ 12 → Follows (λ j. slice_index ds j) [] (new_branches ds)
unfolding new_branches
follows_new ds e = record {
  turn_is = refl;
  holds = record {
    twelve = length-map ds zeros ∙ e;
    long = λ p l m. ap length (at p) ∙ length-replicate (slice_index ds (p % 12)) 0;
    entry = λ p k l m n.
        ap (λ (w : List ℕ). slice_index w k) (at p) ∙ get_or-replicate (slice_index ds (p % 12)) k 0 0 n ∙ sym (past_none (p + 12 * k) (12 * slice_index ds (p % 12)));
  };
}
  where
    at : (p : ℕ) → slice_index_or (map zeros ds) (p % 12) [] ≡ zeros (slice_index ds (p % 12))
    at p = get_or-map zeros ds (p % 12) 0 [] (omega arith)

pub as_many : (s : Branches) (xs : List ℕ) → length (interleaved s xs) ≡ length xs
as_many s [] = refl
as_many s (x ∷ xs) = ap suc (as_many (passing s x) xs)
