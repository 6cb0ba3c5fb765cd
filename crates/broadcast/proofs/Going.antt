-- A machine that answers by what was accepted goes exactly the successions.
use Rattle.std.proofs.Common.{◌≡◌, ℕ, List, [], ◌∷◌, ◌++◌, sym, refl, ap, ◌∙◌, subst, append_assoc, append-nil, arith}
use Rattle.std.specs.List.{AllByRecursion}
use Rattle.std.proofs.lemmas.List.{map-append}
use Rattle.broadcast.specs.Calls.{Event, calls_of, SuccessionBy}
use Rattle.broadcast.specs.Steps.{Outcome, event, run, state_after, Went}

-- nothing stands in an empty list
no_front : {X : Type 0} (before later : List X) (x : X) → [] ≡ before ++ (x ∷ later) → ⊥
no_front [] later x e = let z : ◌≡◌ {A = ℕ} 0 1 = cc in omega arith
no_front (b ∷ before) later x e = let z : ◌≡◌ {A = ℕ} 0 1 = cc in omega arith

state_push : {S C : Type 0} (step : S → C → Outcome S) (s : S) (cs : List C) (c : C)
    → state_after step s (cs ++ (c ∷ [])) ≡ (step (state_after step s cs) c).state
state_push step s [] c = refl
state_push step s (k ∷ cs) c = state_push step (step s k).state cs c

module _ {C : Type 0} (Follows : List (Event C) → Event C → Type 0) where
  -- the events of es follow, after those of pre
  abbrev Goes_on : List (Event C) → List (Event C) → Type 0
  Goes_on pre es = (before : List (Event C)) (e : Event C) (later : List (Event C)) → es ≡ before ++ (e ∷ later) → Follows (pre ++ before) e

  head_follows : (pre es : List (Event C)) (e : Event C) → Goes_on pre (e ∷ es) → Follows pre e
  head_follows pre es e k = subst (λ (w : List (Event C)). Follows w e) (append-nil pre) (k [] e es refl)

  rest_follows : (pre es : List (Event C)) (e : Event C) → Goes_on pre (e ∷ es) → Goes_on (pre ++ (e ∷ [])) es
  rest_follows pre es e k before x later q =
      subst (λ (w : List (Event C)). Follows w x) (sym (append_assoc pre (e ∷ []) before))
      (k (e ∷ before) x later (ap {B = List (Event C)} (λ (w : List (Event C)). e ∷ w) q))

  follows_push : (pre es : List (Event C)) (e : Event C) → Goes_on pre es → Follows (pre ++ es) e → Goes_on pre (es ++ (e ∷ []))
  follows_push pre [] e k f [] x later q = let y : e ≡ x = cc in subst (λ (w : Event C). Follows (pre ++ []) w) y f
  follows_push pre [] e k f (b ∷ before) x later q = let t : [] ≡ before ++ (x ∷ later) = cc in absurd (no_front before later x t)
  follows_push pre (d ∷ es) e k f [] x later q = let y : d ≡ x = cc in subst (λ (w : Event C). Follows (pre ++ []) w) y (k [] d es refl)
  follows_push pre (d ∷ es) e k f (b ∷ before) x later q =
      let y : d ≡ b = cc in
      let t : es ++ (e ∷ []) ≡ before ++ (x ∷ later) = cc in
      let g = subst (λ (w : List (Event C)). Follows w e) (sym (append_assoc pre (d ∷ []) es)) f in
      subst (λ (w : List (Event C)). Follows w x) (append_assoc pre (d ∷ []) before ∙ ap (λ (w : Event C). pre ++ (w ∷ before)) y)
      (follows_push (pre ++ (d ∷ [])) es e (rest_follows pre es d k) g before x later t)

  pub succession_none : SuccessionBy Follows []
  succession_none before e later q = absurd (no_front before later e q)

  pub succession_push : (es : List (Event C)) (e : Event C) → SuccessionBy Follows es → Follows es e → SuccessionBy Follows (es ++ (e ∷ []))
  succession_push es e k f = follows_push [] es e k f

  -- the events before one
  pub succession_front : (es before later : List (Event C)) → es ≡ before ++ later → SuccessionBy Follows es → SuccessionBy Follows before
  succession_front es before later q k first x rest p =
      k first x (rest ++ later) (q ∙ ap (λ (w : List (Event C)). w ++ later) p ∙ append_assoc first (x ∷ rest) later)

-- A machine that answers what follows; Inv is what is known of its state after a succession.
pub record Answering {C S : Type 0} (Follows : List (Event C) → Event C → Type 0) (step : S → C → Outcome S) (new : S) (Typed : C → Type 0)
    (Inv : List (Event C) → S → Type 0) : Type 0 where
  pub typed : (before : List (Event C)) (e : Event C) → Follows before e → Typed e.call
  pub starts : Inv [] new
  pub does : (before : List (Event C)) (s : S) (c : C) → Typed c → Inv before s → Follows before (event c (step s c))
  pub agrees : (before : List (Event C)) (s : S) (e : Event C) → Inv before s → Follows before e → event e.call (step s e.call) ≡ e
  pub goes : (before : List (Event C)) (s : S) (c : C) → Typed c → Inv before s → Inv (before ++ (event c (step s c) ∷ [])) (step s c).state

module _ {C S : Type 0} {Follows : List (Event C) → Event C → Type 0} {step : S → C → Outcome S} {new : S} {Typed : C → Type 0}
    {Inv : List (Event C) → S → Type 0} (g : Answering Follows step new Typed Inv)
  where
    run-from : (pre : List (Event C)) (s : S) (cs : List C) → AllByRecursion Typed cs → Inv pre s → SuccessionBy Follows pre → SuccessionBy Follows (pre ++ run step s cs)
    run-from pre s [] t i k = subst (SuccessionBy Follows) (sym (append-nil pre)) k
    run-from pre s (c ∷ cs) t i k =
        let e : Event C = event c (step s c) in
        subst (SuccessionBy Follows) (append_assoc pre (e ∷ []) (run step (step s c).state cs))
        (run-from (pre ++ (e ∷ [])) (step s c).state cs t.1 (g.goes pre s c t.0 i) (succession_push Follows pre e k (g.does pre s c t.0 i)))

    -- what the machine answers is a succession
    pub runs : (cs : List C) → AllByRecursion Typed cs → SuccessionBy Follows (run step new cs)
    runs cs t = run-from [] new cs t g.starts (succession_none Follows)

    only_from : (pre : List (Event C)) (s : S) (es : List (Event C)) → Inv pre s → Goes_on Follows pre es
        → (run step s (calls_of es) ≡ es) × Inv (pre ++ es) (state_after step s (calls_of es))
    only_from pre s [] i k = (refl, subst (λ (w : List (Event C)). Inv w s) (sym (append-nil pre)) i)
    only_from pre s (e ∷ es) i k =
        let f = head_follows Follows pre es e k in
        let q = g.agrees pre s e i f in
        let s' = (step s e.call).state in
        let j = subst (λ (w : Event C). Inv (pre ++ (w ∷ [])) s') q (g.goes pre s e.call (g.typed pre e f) i) in
        let r = only_from (pre ++ (e ∷ [])) s' es j (rest_follows Follows pre es e k) in (
          (λ n. q n ∷ r.0 n),
          subst (λ (w : List (Event C)). Inv w (state_after step s' (calls_of es))) (append_assoc pre (e ∷ []) es) r.1,
        )

    -- a succession is what the machine answers
    pub only : (es : List (Event C)) → SuccessionBy Follows es → run step new (calls_of es) ≡ es
    only es k = (only_from [] new es g.starts k).0

    pub known : (es : List (Event C)) → SuccessionBy Follows es → Inv es (state_after step new (calls_of es))
    known es k = (only_from [] new es g.starts k).1

    -- one call more
    continues : (es : List (Event C)) (s : S) (c : C) → Typed c → Went step new Follows es s
        → Went step new Follows (es ++ (event c (step s c) ∷ [])) (step s c).state
    continues es s c t w =
        let i = subst (Inv es) w.leads (known es w.in_order) in
        let e : Event C = event c (step s c) in
        record {
          in_order = succession_push Follows es e w.in_order (g.does es s c t i);
          leads =
              ap (state_after step new) (map-append (λ (x : Event C). x.call) es (e ∷ []))
              ∙ state_push step new (calls_of es) c
              ∙ ap (λ (x : S). (step x c).state) w.leads;
        }

    -- with an outcome that is the step's
    pub continues_by : (s : S) (c : C) (o : Outcome S) → Typed c → o ≡ step s c → (es : List (Event C)) → Went step new Follows es s
        → Went step new Follows (es ++ (event c o ∷ [])) o.state
    continues_by s c o t e es w =
        subst (λ (x : Outcome S). Went step new Follows (es ++ (event c x ∷ [])) x.state) (sym e) (continues es s c t w)
