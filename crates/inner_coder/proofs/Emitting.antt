-- Bits are coded one after another into an output.
use Rattle.std.proofs.Common.{◌≡◌, ℕ, ◌+◌, ◌-◌, ◌<◌, ◌≤◌, true, false, not, List, [], ◌∷◌, ◌++◌, length, get_or, take, drop, sym, refl, ap, ◌∙◌, subst, arith, lit≤}
use borrow.Rule.Slice.PartMut.{put_mid}
use Rattle.std.proofs.ByRecursion.{All-push}
use Rattle.std.proofs.lemmas.List.{append-nil, take_more}
use Rattle.std.proofs.lemmas.Bool.{true≢false, lt-ltb}
use Rattle.settings.specs.declared.rate.Rate.{Rate}
use Rattle.stage.specs.Model.{Sending, fed, ahead, some, offered}
use Rattle.stage.specs.Passing.{Gives}
use Rattle.stage.specs.Rule.{Under}
use Rattle.stage.proofs.Feeding.{fed-fed}
use Rattle.stage.proofs.Machine.{gives_offered, gives_sends}
use Rattle.stage.proofs.Passing.{gives_of, gives_fed, gives_then, offered-fed}
use Rattle.inner_coder.specs.declared.puncturing.Sent.{Sent}
use Rattle.inner_coder.specs.declared.puncturing.Sent.TheVariants as sent
use Rattle.inner_coder.specs.declared.puncturing.Left.{Left}
use denote.Enum.Bare.{sameb}
use Rattle.inner_coder.specs.contracts.puncturing.Left.{the_type}
use Rattle.inner_coder.specs.declared.puncturing.Left.TheVariants.{Nothing, Both, X, Y}
use Rattle.inner_coder.specs.Puncturing.{sent_at}
use Rattle.inner_coder.specs.Convolution.{Walk, shifted, emitted, sends_one, walked}
use Rattle.inner_coder.specs.Coder.{inner_code, idle_at, units_left, sent_of}
use Rattle.inner_coder.specs.Coding.{emitted_under}

-- what the test for something left tells
pub none_left : (l : Left) → false ≡ not (sameb the_type l Nothing) → l ≡ Nothing
none_left Nothing e = refl
none_left Both e = absurd (true≢false (sym e))
none_left X e = absurd (true≢false (sym e))
none_left Y e = absurd (true≢false (sym e))

pub some_left : (l : Left) (r : ℕ) → true ≡ not (sameb the_type l Nothing) → some (units_left (sent_of l) r) ≡ true
some_left Nothing r e = absurd (true≢false e)
some_left Both r e = refl
some_left X r e = refl
some_left Y r e = refl

at_most_two : (what : Sent) (r : ℕ) → length (emitted what r) ≤ 2
at_most_two sent.Both r = lit≤ tt
at_most_two sent.X r = lit≤ tt
at_most_two sent.Y r = lit≤ tt

module _ (rate : Rate) where
  -- a bit leaves what is sent of it, and the next walk
  one_fed : (w : Walk) (b : ℕ) → b < 2 → fed (idle_at rate w) (b ∷ []) ≡ ahead (sends_one rate w b) (idle_at rate (walked rate w b))
  one_fed w b h =
      sym (offered-fed (idle_at rate w) b refl)
      ∙ ap (λ fits. offered fits false (idle_at rate w) b) (sym (lt-ltb b 2 h))
      ∙ gives_offered (sends_one rate) (walked rate) w b 2 h
      ∙ (λ i. record { waits = sym (append-nil (sends_one rate w b)) i; future = (idle_at rate (walked rate w b)).future })

  -- one bit more is coded into the rest of the output, which is lent as a part
  pub one_more : (w₀ w w' : Walk) (bits : List ℕ) (used : ℕ) {out₀ out part' : List ℕ} {made n : ℕ}
      → used < length bits → get_or bits used 0 < 2 → Under 2 (take used bits)
      → Gives (inner_code rate) (fed (idle_at rate w₀) (take used bits)) (idle_at rate w) out₀ out made
      → w' ≡ walked rate w (get_or bits used 0)
      → 2 ≤ length (take (length out - made) (drop made out))
      → n ≡ length (sends_one rate w (get_or bits used 0))
      → part' ≡ sends_one rate w (get_or bits used 0) ++ drop n (take (length out - made) (drop made out))
      → Under 2 (take (used + 1) bits)
      × Gives (inner_code rate) (fed (idle_at rate w₀) (take (used + 1) bits)) (idle_at rate w') out₀ (put_mid made (length out - made) out part') (made + n)
  one_more w₀ w w' bits used {out₀} {out} {part'} {made} {n} h bit below g on room count written =
      let M = inner_code rate in
      let b = get_or bits used 0 in
      let s : Sending = idle_at rate w₀ in
      let more : take (used + 1) bits ≡ take used bits ++ (b ∷ []) = take_more bits used 0 h in
      let k : Gives M (fed (idle_at rate w) (b ∷ [])) (idle_at rate w') (take (length out - made) (drop made out)) part' n =
      record {
        units = sends_one rate w b;
        made_is = sym count;
        room = omega (arith, at_most_two (sent_at rate w.phase) (shifted w.register b));
        side = one_fed w b bit ∙ ap (λ v. ahead (sends_one rate w b) (idle_at rate v)) (sym on);
        buffer = written;
        below = emitted_under rate (sent_at rate w.phase) (shifted w.register b);
      } in (
        subst (Under 2) (sym more) (All-push (λ x. x < 2) (take used bits) b below bit),
        gives_of M (ap (fed s) more ∙ sym (fed-fed s (gives_sends (sends_one rate) (walked rate) w₀) (take used bits) (b ∷ []))) refl
            (gives_then M (gives_fed M (b ∷ []) g) refl k),
      )
