-- The turns of a pass down a pile: the lower part is handed what is queued, and then the upper part gives more.
use Rattle.std.proofs.Common.{cond, ◌≡◌, ℕ, ◌+◌, ◌-◌, ◌<◌, ◌≤◌, true, false, not, List, [], ◌∷◌, length, take, drop, sym, refl, ap, ◌∙◌, subst, arith, length-drop}
use borrow.Rule.Slice.PartMut.{put_mid}
use Rattle.std.proofs.ByRecursion.{All-append}
use Rattle.std.proofs.lemmas.List.{drop-drop}
use Rattle.std.proofs.lemmas.Slice.{between_to_end}
use Rattle.std.proofs.lemmas.Bool.{le-leb}
use Rattle.stage.specs.declared.Passed.{Passed}
use Rattle.stage.specs.Model.{Model, Sending, fed, ahead, some}
use Rattle.stage.specs.Passing.{Gives, Passes}
use Rattle.stage.specs.Piled.{fits, fitting, piled, joined_sending}
use Rattle.stage.specs.Rule.{Sends, Under}
use Rattle.stage.proofs.Feeding.{fed-fed}
use Rattle.stage.proofs.Passing.{gives_of, gives_fed, gives_then, room_left, take_further}
use Rattle.stage.proofs.PassingDown.{gives_down, queued, quiet_down, some_first, less_to_come}
use Rattle.stage.proofs.Waits.{none_waits}

some_long : (us : List ℕ) → false ≡ not (some us) → 1 ≤ length us
some_long [] e = let z : ◌≡◌ {A = ℕ} 0 1 = cc in absurd (omega arith)
some_long (x ∷ us) e = omega arith

-- The input's rest is lent as a part.
module _ (input : List ℕ) (used n : ℕ) where
  rest_is : take (length input - used) (drop used input) ≡ drop used input
  rest_is = between_to_end input used (length input) (omega arith)

  pub within : used ≤ length input → n ≤ length (take (length input - used) (drop used input)) → used + n ≤ length input
  within h k = omega (arith, ap length rest_is, length-drop used input)

  pub all_below : (t : ℕ) → Under t (take used input) → Under t (take n (take (length input - used) (drop used input))) → Under t (take (used + n) input)
  all_below t a b = subst (Under t) (sym (take_further input used n)) (All-append (λ x. x < t) (take used input) _ a b)

  -- less is to come of the upper part, which has given some units us
  pub fewer : (u u₁ : Sending) (us : List ℕ) → Sends u.future → fed u (take n (take (length input - used) (drop used input))) ≡ ahead us u₁
      → false ≡ not (some us) → length (fed u₁ (drop (used + n) input)).waits < length (fed u (drop used input)).waits
  fewer u u₁ us su gave more =
      let e = less_to_come u u₁ us (drop used input) n su (ap (λ w. fed u (take n w)) (sym rest_is) ∙ gave) in
      omega (arith, e, some_long us more, ap (λ w. length (fed u₁ w).waits) (drop-drop n used input))

-- Parts that fit: the pile takes what the upper part takes and gives what the lower part gives.
module _ (m k : Model) (fit : m.given ≤ k.taken) where
  fitted : fits m k ≡ true
  fitted = le-leb m.given k.taken fit

  pub takes : m.taken ≡ (piled m k).taken
  takes = sym (ap (λ b. cond b m.taken 0) fitted)

  pub gives : k.given ≡ (piled m k).given
  gives = sym (ap (λ b. cond b k.given 0) fitted)

  -- The pile was J₀, and is now the parts u and l with q queued between them. The lower part passes, is then l₁, and leaves q₁.
  module _ (J₀ : Sending) (input : List ℕ) (used : ℕ) {out₀ out : List ℕ} {made : ℕ} (u l : Sending) (sl : Sends l.future) (q : List ℕ)
      (so_far : Gives (piled m k) (fed J₀ (take used input)) (joined_sending (ahead (fitting k.taken q) u) l) out₀ out made)
      (l₁ : Sending) {rest : List ℕ} (p : Passed) (low : Passes k l l₁ q (take (length out - made) (drop made out)) rest p)
      (q₁ : List ℕ) (left_is : q₁ ≡ drop p.used q) where
    abbrev left : List ℕ
    left = fitting k.taken q₁

    handed : Gives (piled m k) (fed J₀ (take used input)) (joined_sending (ahead left u) l₁) out₀ (put_mid made (length out - made) out rest) (made + p.made)
    handed =
        gives_of (piled m k) refl (ap (λ w. joined_sending (ahead (fitting k.taken w) u) l₁) (sym left_is))
        (gives_then (piled m k) so_far refl (gives_down (piled m k) k u l q p.used sl (sym gives) low.fits low.drains.gives))

    -- Something waits in the lower part.
    module _ (more : some l₁.waits ≡ true) where
      never : {X : Type 0} → l₁.waits ≡ [] → X
      never e = let z : ◌≡◌ {A = ℕ} 0 1 = cc (ap some e) in absurd (omega arith)

      pub stopped : used ≤ length input → Under m.taken (take used input)
          → Passes (piled m k) J₀ (joined_sending (ahead left u) l₁) input out₀ (put_mid made (length out - made) out rest)
          (record { used = used; made = made + p.made; waits = true })
      stopped h below = record {
        input_has = h;
        fits = subst (λ n. Under n (take used input)) takes below;
        drains = record { gives = handed; all_that_fit = λ room. never (low.drains.all_that_fit (room_left (piled m k) so_far p.made room)) };
        used_up = λ e. let z : ◌≡◌ {A = ℕ} 0 1 = cc (sym (ap some e) ∙ some_first l₁.waits _ more) in absurd (omega arith);
        waits = sym (some_first l₁.waits _ more);
      }

    -- Nothing does, and the upper part gives us for n further units.
    module _ (none : some l₁.waits ≡ false) (u₁ : Sending) (us : List ℕ) (n : ℕ) (s₀ : Sends J₀.future) (su : Sends u.future) (sl₁ : Sends l₁.future)
        (below : Under m.given us) (gave : fed u (take n (take (length input - used) (drop used input))) ≡ ahead us u₁) where
      idle : l₁.waits ≡ []
      idle = none_waits l₁.waits none

      pub turned : used ≤ length input
          → Gives (piled m k) (fed J₀ (take (used + n) input)) (joined_sending (ahead (fitting k.taken us) u₁) l₁) out₀ (put_mid made (length out - made) out rest) (made + p.made)
      turned h =
          let xs = take n (take (length input - used) (drop used input)) in
          gives_of (piled m k)
          (ap (fed J₀) (take_further input used n) ∙ sym (fed-fed J₀ s₀ (take used input) xs))
          (queued k m.given u u₁ l₁ q₁ us xs su sl₁ (ap (fitting k.taken) left_is ∙ low.used_up idle) fit below gave)
          (gives_fed (piled m k) xs handed)

      -- the upper part has nothing more to give
      pub finished : used + n ≤ length input → Under m.taken (take (used + n) input) → us ≡ [] → u₁.waits ≡ []
          → fitting m.taken (drop n (take (length input - used) (drop used input))) ≡ []
          → Passes (piled m k) J₀ (joined_sending (ahead (fitting k.taken us) u₁) l₁) input out₀ (put_mid made (length out - made) out rest)
          (record { used = used + n; made = made + p.made; waits = false })
      finished h under no_us no_u₁ up =
          let quiet = quiet_down u₁ l₁ (fitting k.taken us) sl₁ (ap (fitting k.taken) no_us) no_u₁ idle in
          let same : drop n (take (length input - used) (drop used input)) ≡ drop (used + n) input = ap (drop n) (rest_is input used n) ∙ drop-drop n used input in
          record {
            input_has = h;
            fits = subst (λ t. Under t (take (used + n) input)) takes under;
            drains = record { gives = turned (omega arith); all_that_fit = λ _. quiet };
            used_up = λ _. ap (λ t. fitting t (drop (used + n) input)) (sym takes) ∙ ap (fitting m.taken) (sym same) ∙ up;
            waits = sym (ap some quiet);
          }
