-- A record is read exactly as the codes, and the settings, that it is written for.
use Rattle.std.proofs.Common.{◌≡◌, ℕ, ◌+◌, ◌*◌, ◌/◌, ◌%◌, ◌<◌, true, cond, ◌&&◌, ◌||◌, eqb, List, [], ◌∷◌, length, get_or, Some, None, Ok, Err, Option, sym, refl, ap, ◌∙◌, inl, inr, div-add-mod', arith, eqb-true}
use Rattle.std.specs.List.{AllByRecursion}
use Rattle.std.proofs.ByRecursion.{All-get_or}
use Rattle.std.proofs.lemmas.Slice.Eq.{text_from_reads}
use Rattle.std.proofs.lemmas.Bool.{cases_Bool, cond-true, cond-false, and_parts, or_cases}
use Rattle.refusal.specs.declared.Refusal.TheVariants.{RecordMalformed}
use Rattle.settings.specs.declared.Settings.{Settings}
use Rattle.settings.specs.declared.codes.Codes.{Codes}
use Rattle.settings.specs.Codes.{and_then, settings_codes, settings_read}
use Rattle.settings.specs.Record.{record_of, codes_in, identifier_part, headed, flagged, record_read, settings_from, RecordsStand}
use Rattle.settings.proofs.Reading.{accepted, codes_stand_lem}

-- what is written for codes is read as them
written : (m k r g : ℕ) (o : Option ℕ)
    → record_read (0 ∷ 8 ∷ 1 ∷ m ∷ k ∷ r ∷ g ∷ identifier_part o) ≡ Ok (record { mode = m; constellation = k; rate = r; guard = g; identifier = o })
written m k r g None = refl
written m k r g (Some n) = ap (λ i. Ok (record { mode = m; constellation = k; rate = r; guard = g; identifier = Some i })) (div-add-mod' n 256)

-- a good flag f, and the bytes h and l of the identifier, are what is written for the identifier that is read from them
part_is : (f h l : ℕ) → l < 256 → (eqb f 1 || (eqb f 0 && (eqb h 0 && eqb l 0))) ≡ true
    → identifier_part (cond (eqb f 0) None (Some (h * 256 + l))) ≡ f ∷ h ∷ l ∷ []
part_is f h l small t =
    elim (or_cases (eqb f 1) _ t) [
      | inl one ↦
          let f_is = eqb-true f 1 one in
          let high : (h * 256 + l) / 256 ≡ h = omega arith in
          let low : (h * 256 + l) % 256 ≡ l = omega arith in
          cc
      | inr none ↦
          let (off, rest) = and_parts (eqb f 0) _ none in
          let (high, low) = and_parts (eqb h 0) (eqb l 0) rest in
          cc (eqb-true f 0 off, eqb-true h 0 high, eqb-true l 0 low)
    ]

module _ (bs : List ℕ) (bytes : AllByRecursion (λ b. b < 256) bs) where
  whole : (headed bs && flagged bs) ≡ true → bs ≡ record_of (codes_in bs)
  whole t =
      let (head, flag) = and_parts (headed bs) (flagged bs) t in
      let (ten, rest) = and_parts (eqb (length bs) 10) _ head in
      let (high, rest₂) = and_parts (eqb (get_or bs 0 0) 0) _ rest in
      let (low, version) = and_parts (eqb (get_or bs 1 0) 8) (eqb (get_or bs 2 0) 1) rest₂ in
      let ten_is : length bs ≡ 10 = eqb-true (length bs) 10 ten in
      let last : get_or bs 9 0 < 256 = All-get_or (λ b. b < 256) bs 9 0 (omega arith) bytes in
      text_from_reads bs
      (0 ∷ 8 ∷ 1 ∷ get_or bs 3 0 ∷ get_or bs 4 0 ∷ get_or bs 5 0 ∷ get_or bs 6 0 ∷ get_or bs 7 0 ∷ get_or bs 8 0 ∷ get_or bs 9 0 ∷ [])
      ten_is (
        eqb-true (get_or bs 0 0) 0 high,
        (
          eqb-true (get_or bs 1 0) 8 low,
          (
            eqb-true (get_or bs 2 0) 1 version,
            (refl, (refl, (refl, (refl, (refl, (refl, (refl, tt))))))),
          ),
        ),
      )
      ∙ ap (λ p. 0 ∷ 8 ∷ 1 ∷ get_or bs 3 0 ∷ get_or bs 4 0 ∷ get_or bs 5 0 ∷ get_or bs 6 0 ∷ p)
      (sym (part_is (get_or bs 7 0) (get_or bs 8 0) (get_or bs 9 0) last flag))

  read_back : (c : Codes) → bs ≡ record_of c → record_read bs ≡ Ok c
  read_back c e = ap record_read e ∙ written c.mode c.constellation c.rate c.guard c.identifier

  read_is : (c : Codes) → record_read bs ≡ Ok c → bs ≡ record_of c
  read_is c e =
      elim (cases_Bool (headed bs && flagged bs)) [
        | inl t ↦
            let accepts : Ok (codes_in bs) ≡ Ok c = sym (cond-true _ _ _ t) ∙ e in
            let in_is : codes_in bs ≡ c = cc in
            whole t ∙ ap record_of in_is
        | inr f ↦
            let refuses : Err RecordMalformed ≡ Ok c = sym (cond-false _ _ _ f) ∙ e in
            let z : ◌≡◌ {A = ℕ} 0 1 = cc in absurd (omega arith)
      ]

  refused : ((c : Codes) → bs ≡ record_of c → ⊥) → record_read bs ≡ Err RecordMalformed
  refused h =
      elim (cases_Bool (headed bs && flagged bs)) [
        | inl t ↦ absurd (h (codes_in bs) (whole t))
        | inr f ↦ cond-false _ _ _ f
      ]

  settings_is : (s : Settings) → settings_from bs ≡ Ok s → bs ≡ record_of (settings_codes s)
  settings_is s e =
      let (c, c_is, s_is) = accepted (record_read bs) settings_read s e in
      read_is c c_is ∙ ap record_of (sym (codes_stand_lem.only c s s_is))

  settings_back : (s : Settings) → bs ≡ record_of (settings_codes s) → settings_from bs ≡ Ok s
  settings_back s e = ap (λ r. and_then r settings_read) (read_back (settings_codes s) e) ∙ codes_stand_lem.back s

pub records_stand_lem : RecordsStand
records_stand_lem = record {
  codes_back = λ bs c bytes. (read_is bs bytes c, read_back bs bytes c);
  settings_back = λ bs s bytes. (settings_is bs bytes s, settings_back bs bytes s);
  malformed = λ bs bytes h. ap (λ r. and_then r settings_read) (refused bs bytes h);
}
