-- The inner code keeps the stage rule: each bit is back with its first unit.
use Rattle.std.specs.Prelude.{◌≡◌, ℕ, zero, suc, ◌+◌, ◌-◌, ◌/◌, ◌<◌, ◌≤◌, Bool, true, false, List, [], ◌∷◌, ◌++◌, length, take, Some, None, ◌==◌, refl}
use Rattle.std.proofs.Common.{lit≤, length-append, inr, sym, ap, subst, arith}
use Rattle.std.proofs.ByRecursion.{All-append}
use Rattle.std.proofs.lemmas.Bool.{cond_both, eq-eqb}
use Rattle.settings.specs.declared.rate.Rate.{Rate}
use Rattle.stage.specs.declared.Fault.{Fault}
use Rattle.stage.specs.Model.{Heard, clean, and_then, silence}
use Rattle.stage.specs.Rule.{Rule, Under, Begins, Numbered}
use Rattle.stage.specs.Faultless.{no_fault}
use Rattle.holds.proofs.Capped.{capped_stops, capped-most, capped_grows, capped_claims}
use Rattle.stage.proofs.Machine.{gives_sends, hears_from_hears, hears_from_faults}
use Rattle.inner_coder.specs.declared.puncturing.Sent.{Sent}
use Rattle.inner_coder.specs.declared.puncturing.Sent.TheVariants.{Both, X, Y}
use Rattle.inner_coder.specs.Puncturing.{sent_at}
use Rattle.inner_coder.specs.Convolution.{Walk, Hearing, y_of, shifted, emitted, coded, decoded, start, start_hearing, sends_one, walked, hears_one, hearing_after, hears_unit, agreement, differ, first_of, is_both}
use Rattle.inner_coder.specs.Coder.{inner_code}
use Rattle.inner_coder.specs.Taps.{first_tells}

abbrev hearing : Walk → Bool → Hearing
hearing w second = record { walk = w; second = second }

abbrev unit : ℕ → Heard
unit b = clean (b ∷ [])

-- n of the units that carry xs were heard, of `total`
record Gets (xs : List ℕ) (n total : ℕ) (h : Heard) : Type 0 where
  clean : h.fault ≡ None
  begins : Begins h.units xs
  within : length xs ≤ length h.units + (total - n)

more : (b : ℕ) (bs : List ℕ) (n n' total total' : ℕ) (h : Heard) → total' - n' ≡ total - n → Gets bs n total h
    → Gets (b ∷ bs) n' total' (and_then (unit b) h)
more b bs n n' total total' h e g = record {
  clean = g.clean;
  begins = (g.begins.0, ap (λ w. b ∷ w) g.begins.1);
  within = let w = g.within in omega arith;
}

-- a bit has at least one unit
emits : (sent : Sent) (r : ℕ) → 1 ≤ length (emitted sent r)
emits Both r = lit≤ tt
emits X r = lit≤ tt
emits Y r = lit≤ tt

module _ (rate : Rate) where
  longer : (w : Walk) (xs : List ℕ) → length xs ≤ length (coded rate w xs)
  longer w [] = omega arith
  longer w (b ∷ bs) =
      let e = emits (sent_at rate w.phase) (shifted w.register b) in
      let l = longer (walked rate w b) bs in
      simp length-append (omega arith)

  -- what is heard from the first unit of a bit on, by what is sent of it
  abbrev from : Sent → Walk → List ℕ → Heard
  from sent w [] = silence
  from sent w (u ∷ us) =
      and_then (unit (differ u (first_of sent (w.register / 2))))
      (decoded rate (hearing (walked rate w (differ u (first_of sent (w.register / 2)))) (is_both sent)) us)

  from_is : (w : Walk) (us : List ℕ) → from (sent_at rate w.phase) w us ≡ decoded rate (hearing w false) us
  from_is w [] = refl
  from_is w (u ∷ us) = refl

  -- nothing is heard
  none_heard : (w : Walk) (xs : List ℕ) → Gets xs 0 (length (coded rate w xs)) silence
  none_heard w xs = record { clean = refl; begins = (xs, refl); within = let l = longer w xs in omega arith }

  module _ (w : Walk) (b : ℕ) (bs : List ℕ) (small : w.register < 128) (bit : b < 2) (rest : (n : ℕ)
      → Gets bs n (length (coded rate (walked rate w b) bs)) (decoded rate (hearing (walked rate w b) false) (take n (coded rate (walked rate w b) bs)))) where
    abbrev ws : List ℕ
    ws = coded rate (walked rate w b) bs

    abbrev on : Bool → List ℕ → ℕ → Heard
    on second us d = and_then (unit d) (decoded rate (hearing (walked rate w d) second) us)

    tells : (sent : Sent) → differ (first_of sent (shifted w.register b)) (first_of sent (w.register / 2)) ≡ b
    tells sent = first_tells sent b (w.register / 2) bit (omega arith)

    by_sent : (sent : Sent) (n : ℕ)
        → Gets (b ∷ bs) (suc n) (length (emitted sent (shifted w.register b) ++ ws)) (from sent w (take (suc n) (emitted sent (shifted w.register b) ++ ws)))
    by_sent X n =
        subst (λ d. Gets (b ∷ bs) (suc n) (suc (length ws)) (on false (take n ws) d)) (sym (tells X))
        (more b bs n (suc n) (length ws) (suc (length ws)) _ (omega arith) (rest n))
    by_sent Y n =
        subst (λ d. Gets (b ∷ bs) (suc n) (suc (length ws)) (on false (take n ws) d)) (sym (tells Y))
        (more b bs n (suc n) (length ws) (suc (length ws)) _ (omega arith) (rest n))
    by_sent Both zero =
        subst (λ d. Gets (b ∷ bs) 1 (suc (suc (length ws))) (on true [] d)) (sym (tells Both))
        (record { clean = refl; begins = (bs, refl); within = let l = longer (walked rate w b) bs in omega arith })
    by_sent Both (suc n) =
        let y = y_of (shifted w.register b) in
        subst (λ d. Gets (b ∷ bs) (suc (suc n)) (suc (suc (length ws))) (on true (y ∷ take n ws) d)) (sym (tells Both))
        (subst (λ t. Gets (b ∷ bs) (suc (suc n)) (suc (suc (length ws)))
        (and_then (unit b) (and_then (agreement t) (decoded rate (hearing (walked rate w b) false) (take n ws)))))
        (sym (eq-eqb y y refl))
        (more b bs n (suc (suc n)) (length ws) (suc (suc (length ws))) _ (omega arith) (rest n)))

  gets : (w : Walk) (xs : List ℕ) (n : ℕ) → w.register < 128 → Under 2 xs
      → Gets xs n (length (coded rate w xs)) (decoded rate (hearing w false) (take n (coded rate w xs)))
  gets w [] zero small h = none_heard w []
  gets w [] (suc n) small h = record { clean = refl; begins = ([], refl); within = omega arith }
  gets w (b ∷ bs) zero small h = none_heard w (b ∷ bs)
  gets w (b ∷ bs) (suc n) small h =
      let bit : b < 2 = h.0 in
      subst (Gets (b ∷ bs) (suc n) (length (coded rate w (b ∷ bs)))) (from_is w (take (suc n) (coded rate w (b ∷ bs))))
      (by_sent w b bs small bit (λ k. gets (walked rate w b) bs k (omega arith) h.1) (sent_at rate w.phase) n)

  pub emitted_under : (sent : Sent) (r : ℕ) → Under 2 (emitted sent r)
  emitted_under Both r = (omega arith, (omega arith, tt))
  emitted_under X r = (omega arith, tt)
  emitted_under Y r = (omega arith, tt)

  sends_under : (w : Walk) (xs : List ℕ) → Under 2 (coded rate w xs)
  sends_under w [] = tt
  sends_under w (b ∷ bs) =
      All-append (λ x. x < 2) (emitted (sent_at rate w.phase) (shifted w.register b)) (coded rate (walked rate w b) bs)
      (emitted_under (sent_at rate w.phase) (shifted w.register b)) (sends_under (walked rate w b) bs)

  agreed_under : (t : Bool) (k : Heard) → Under 2 k.units → Under 2 (and_then (agreement t) k).units
  agreed_under true k h = h
  agreed_under false k h = tt

  then_under : (w : Walk) (second : Bool) (u : ℕ) (k : Heard) → Under 2 k.units → Under 2 (and_then (hears_unit rate w second u) k).units
  then_under w true u k h = agreed_under (u == y_of w.register) k h
  then_under w false u k h =
      (cond_both (u == first_of (sent_at rate w.phase) (w.register / 2)) 0 1 (λ d. d < 2) (λ e. omega arith) (λ e. omega arith), h)

  hears_under : (s : Hearing) (ys : List ℕ) → Under 2 (decoded rate s ys).units
  hears_under s [] = tt
  hears_under s (y ∷ ys) = then_under s.walk s.second y (decoded rate (hearing_after rate s y) ys) (hears_under (hearing_after rate s y) ys)

  agreed_numbered : (t : Bool) (f : Fault) → (agreement t).fault ≡ Some f → Numbered 1 f
  agreed_numbered true f e = no_fault (Numbered 1) f e
  agreed_numbered false f e = let n : 1 ≡ f.stage = cc in (omega arith, omega arith)

  unit_numbered : (w : Walk) (second : Bool) (u : ℕ) (f : Fault) → (hears_unit rate w second u).fault ≡ Some f → Numbered 1 f
  unit_numbered w true u f e = agreed_numbered (u == y_of w.register) f e
  unit_numbered w false u f e = no_fault (Numbered 1) f e

  pub coder_rule : Rule (inner_code rate)
  coder_rule = record {
    taken_is = inr (1, lit≤ tt, lit≤ tt, refl);
    given_is = inr (1, lit≤ tt, lit≤ tt, refl);
    size_some = lit≤ tt;
    size_stops = lit≤ tt;
    hold_stops = capped_stops (λ m. m);
    hold_grows = capped_grows (λ m. m) (λ m n h. h);
    hold_most = capped-most (λ m. m);
    sends_grow = gives_sends (sends_one rate) (walked rate) start;
    hears_grow = hears_from_hears (hears_one rate) (hearing_after rate) start_hearing;
    sends_under = λ xs h. sends_under start xs;
    hears_under = λ ys h. hears_under start_hearing ys;
    faults_numbered = hears_from_faults (hears_one rate) (hearing_after rate) (Numbered 1) (λ s u f e. unit_numbered s.walk s.second u f e) start_hearing;
    law = λ xs m h k.
        let g = gets start xs (length (coded rate start xs) - m) (omega arith) h in
        record { clean = g.clean; begins = g.begins; within = λ w. let l = g.within in omega (arith, capped_claims (λ m. m) m w) };
  }
