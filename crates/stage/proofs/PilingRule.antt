-- A pile of stages that keep the rule keeps the rule.
use Rattle.std.proofs.Common.{◌≡◌, ℕ, zero, suc, ◌+◌, ◌-◌, ◌<◌, ◌≤◌, min, Bool, true, false, ltb, List, [], ◌∷◌, ◌++◌, length, take, Some, None, Option, sym, refl, ap, ◌∙◌, subst, subst₂, inl, inr, arith, length-append}
use Rattle.std.proofs.ByRecursion.{All-take}
use Rattle.std.proofs.lemmas.List.{append-nil, take_at}
use Rattle.std.proofs.lemmas.Bool.{cases_lt, leb-true, ltb-true, lt-ltb}
use Rattle.stage.specs.declared.Fault.{Fault}
use Rattle.stage.specs.Model.{Model, and_then, silence}
use Rattle.stage.specs.Rule.{Rule, Back, Under, Numbered}
use Rattle.holds.specs.Capped.{most}
use Rattle.stage.specs.Piled.{fits, fitting, keep_if, lifted, misfit_at, ending, or_misfit, hand_up, piled_if, piled}
use Rattle.stage.proofs.PilingDown.{composed}
use Rattle.stage.specs.Faultless.{no_fault}
use Rattle.stage.proofs.Fronts.{under_weaker}
use Rattle.stage.proofs.HandingUp.{hand_up_clean, hand_up_hears}
use Rattle.stage.proofs.Hearing.{hears, then_faults}

take_nothing : (n : ℕ) → take {A = ℕ} n [] ≡ []
take_nothing zero = refl
take_nothing (suc n) = refl

none_under : (xs : List ℕ) → Under 0 xs → xs ≡ []
none_under [] h = refl
none_under (x ∷ xs) h = absurd (omega (arith, h.0))

kept_under : (g u : ℕ) (us : List ℕ) (b : Bool) → ltb u g ≡ b → Under g us → Under g (keep_if b u us)
kept_under g u us true p h = (ltb-true u g p, h)
kept_under g u us false p h = tt

-- what fits is below
fitting_under : (g : ℕ) (us : List ℕ) → Under g (fitting g us)
fitting_under g [] = tt
fitting_under g (u ∷ us) = kept_under g u (fitting g us) (ltb u g) refl (fitting_under g us)

-- what is below fits
pub under_fitting : (size g : ℕ) (us : List ℕ) → Under g us → (fitting g us ≡ us) × (ending size g us None ≡ None)
under_fitting size g [] h = (refl, refl)
under_fitting size g (u ∷ us) h =
    let p = lt-ltb u g h.0 in
    let r = under_fitting size g us h.1 in
    (ap (λ b. keep_if b u (fitting g us)) p ∙ ap (λ t. u ∷ t) r.0, ap (λ b. or_misfit b size (ending size g us None)) p ∙ r.1)

-- what is handed up gives units that the pile takes
ended_under : (n : ℕ) (us : List ℕ) (o p : Option Fault) → Under n us → Under n (and_then (hears us o) (hears [] p)).units
ended_under n us (Some e) p h = h
ended_under n us None p h = subst (Under n) (sym (append-nil us)) h

-- a fault of the lower part that is numbered from 1 to n, or that of a unit which does not fit
module _ (size n g : ℕ) (some_up : 1 ≤ size) (stops : size ≤ most) where
  lifted_numbered : (o : Option Fault) → ((f : Fault) → o ≡ Some f → Numbered n f) → (f : Fault) → lifted size o ≡ Some f → Numbered (min (size + n) most) f
  lifted_numbered None h f e = no_fault (Numbered (min (size + n) most)) f e
  lifted_numbered (Some d) h f e =
      let p : ◌≡◌ {A = Fault} (record { stage = min (d.stage + size) most; cause = d.cause }) f = cc in
      let q = ap (λ (x : Fault). x.stage) p in
      let k = h d refl in
      (omega arith, omega arith)

  ending_numbered : (us : List ℕ) (o : Option Fault) → ((f : Fault) → o ≡ Some f → Numbered n f)
      → (f : Fault) → ending size g us o ≡ Some f → Numbered (min (size + n) most) f
  ending_numbered [] o h f e = lifted_numbered o h f e
  ending_numbered (u ∷ us) o h f e = by (ltb u g) (ending_numbered us o h f) e
    where
      by : (b : Bool) → (ending size g us o ≡ Some f → Numbered (min (size + n) most) f)
          → or_misfit b size (ending size g us o) ≡ Some f → Numbered (min (size + n) most) f
      by true r e = r e
      by false r e =
          let p : misfit_at size ≡ f = cc in
          let q = ap (λ (x : Fault). x.stage) p in
          (omega arith, omega arith)

numbered : {u l : Model} → Rule u → Rule l → (ys : List ℕ) (f : Fault)
    → (hand_up u.size u.given u.hears (l.hears ys)).fault ≡ Some f → Numbered (min (u.size + l.size) most) f
numbered {u} {l} ru rl ys f e =
    let good = fitting u.given (l.hears ys).units in
    let above : (f : Fault) → (u.hears good).fault ≡ Some f → Numbered (min (u.size + l.size) most) f =
    λ f e. let k = ru.faults_numbered good f e in (k.0, omega (arith, k.1, ru.size_stops)) in
    then_faults (Numbered (min (u.size + l.size) most)) (u.hears good) (hears [] (ending u.size u.given (l.hears ys).units (l.hears ys).fault)) above
    (ending_numbered u.size l.size u.given ru.size_some ru.size_stops (l.hears ys).units (l.hears ys).fault (rl.faults_numbered ys)) f e

module _ {u l : Model} (ru : Rule u) (rl : Rule l) (fit : u.given ≤ l.taken) where
  back : (xs : List ℕ) (m : ℕ) → Under u.taken xs → m ≤ length (l.sends (u.sends xs))
      → Back (piled_if true u l) xs m ((piled_if true u l).hears (take (length (l.sends (u.sends xs)) - m) (l.sends (u.sends xs))))
  back xs m h k =
      let ys = u.sends xs in
      let sent : Under u.given ys = ru.sends_under xs h in
      let t = l.hears (take (length (l.sends ys) - m) (l.sends ys)) in
      let low : Back l ys m t = rl.law ys m (under_weaker u.given l.taken fit ys sent) k in
      let rest = low.begins.0 in
      let split : ys ≡ t.units ++ rest = low.begins.1 in
      let sum : length ys ≡ length t.units + length rest = ap length split ∙ length-append t.units rest in
      let front : take (length ys - length rest) ys ≡ t.units =
      ap (take (length ys - length rest)) split ∙ take_at t.units rest (length ys - length rest) (omega arith) in
      let under : Under u.given t.units = subst (Under u.given) front (All-take (λ x. x < u.given) (length ys - length rest) ys sent) in
      let all = under_fitting u.size u.given t.units under in
      let high : Back u xs (length rest) (u.hears t.units) =
      subst (λ w. Back u xs (length rest) (u.hears w)) front (ru.law xs (length rest) h (omega arith)) in
      let up : hand_up u.size u.given u.hears t ≡ u.hears t.units =
      ap (λ o. hand_up u.size u.given u.hears (hears t.units o)) low.clean
      ∙ hand_up_clean u.size u.given ru.hears_grow t.units all.1
      ∙ ap u.hears all.0 in
      let within : u.hold (l.hold m) < most → length xs ≤ length (u.hears t.units).units + u.hold (l.hold m) =
      λ w. elim (cases_lt (l.hold m) most) [
        | inl a ↦
            let short : length rest ≤ l.hold m = omega (arith, low.within a) in
            let less = ru.hold_grows (length rest) (l.hold m) short in
            omega (arith, high.within (omega arith))
        | inr b ↦ absurd (omega (arith, ru.hold_most (l.hold m) b))
      ] in
      subst (Back (piled_if true u l) xs m) (sym up) (record { clean = high.clean; begins = high.begins; within = within })

  rule_fits : Rule (piled_if true u l)
  rule_fits = record {
    taken_is = ru.taken_is;
    given_is = rl.given_is;
    size_some = omega (arith, ru.size_some, rl.size_some);
    size_stops = omega arith;
    hold_stops = λ m. ru.hold_stops (l.hold m);
    hold_grows = λ m n h. ru.hold_grows (l.hold m) (l.hold n) (rl.hold_grows m n h);
    hold_most = λ m h. ru.hold_most (l.hold m) (omega (arith, rl.hold_most m h));
    sends_grow = composed ru.sends_grow rl.sends_grow;
    hears_grow = hand_up_hears u.size u.given ru.hears_grow rl.hears_grow;
    sends_under = λ xs h. rl.sends_under (u.sends xs) (under_weaker u.given l.taken fit (u.sends xs) (ru.sends_under xs h));
    hears_under = λ ys h.
        let good = fitting u.given (l.hears ys).units in
        ended_under u.taken (u.hears good).units (u.hears good).fault _ (ru.hears_under good (fitting_under u.given (l.hears ys).units));
    faults_numbered = numbered ru rl;
    law = back;
  }

-- Where the parts do not fit the pile takes and gives nothing, so it is only asked of the empty list.
rule_apart : {u l : Model} → Rule u → Rule l → Rule (piled_if false u l)
rule_apart {u} {l} ru rl =
    let f = composed ru.sends_grow rl.sends_grow in
    let g = hand_up_hears u.size u.given ru.hears_grow rl.hears_grow in
    record {
      taken_is = inl refl;
      given_is = inl refl;
      size_some = omega (arith, ru.size_some, rl.size_some);
      size_stops = omega arith;
      hold_stops = λ m. ru.hold_stops (l.hold m);
      hold_grows = λ m n h. ru.hold_grows (l.hold m) (l.hold n) (rl.hold_grows m n h);
      hold_most = λ m h. ru.hold_most (l.hold m) (omega (arith, rl.hold_most m h));
      sends_grow = f;
      hears_grow = g;
      sends_under = λ xs h. subst (Under 0) (sym (ap (piled_if false u l).sends (none_under xs h) ∙ f.none)) tt;
      hears_under = λ ys h. subst (Under 0) (sym (ap (λ ys. ((piled_if false u l).hears ys).units) (none_under ys h) ∙ ap (λ h. h.units) g.none)) tt;
      faults_numbered = numbered ru rl;
      law = λ xs m h k.
          let P : List ℕ → List ℕ → Type 0 = λ xs zs. Back (piled_if false u l) xs m ((piled_if false u l).hears (take (length zs - m) zs)) in
          let sent : l.sends (u.sends xs) ≡ [] = ap (piled_if false u l).sends (none_under xs h) ∙ f.none in
          let idle : Back (piled_if false u l) [] m silence = record { clean = refl; begins = ([], refl); within = λ w. omega arith } in
          subst₂ P (sym (none_under xs h)) (sym sent)
          (subst (Back (piled_if false u l) [] m) (sym (ap (piled_if false u l).hears (take_nothing (0 - m)) ∙ g.none)) idle);
    }

rule_if : {u l : Model} (b : Bool) → (b ≡ true → u.given ≤ l.taken) → Rule u → Rule l → Rule (piled_if b u l)
rule_if true h ru rl = rule_fits ru rl (h refl)
rule_if false h ru rl = rule_apart ru rl

pub piled_rule : {u l : Model} → Rule u → Rule l → Rule (piled u l)
piled_rule {u} {l} ru rl = rule_if (fits u l) (leb-true u.given l.taken) ru rl
