-- Blocks tell their fields, and the fields of frames 1 and 2 the settings.
use Rattle.std.proofs.Common.{◌≡◌, ℕ, ◌/◌, ◌%◌, ◌^◌, ◌<◌, ◌≤◌, List, [], ◌∷◌, ◌++◌, map, length, get_or, take, drop, Some, None, Ok, Option, sym, refl, ap, ◌∙◌, subst, arith, lit<, lit≤}
use Rattle.std.specs.List.{AllByRecursion}
use Rattle.std.proofs.lemmas.List.{take_at, drop_at}
use Rattle.std.proofs.lemmas.Bool.{cond_both}
use Rattle.settings.specs.declared.Settings.{Settings}
use Rattle.settings.specs.declared.mode.Mode.{Mode}
use Rattle.settings.specs.declared.mode.Mode.TheVariants.{TwoK, EightK}
use Rattle.settings.specs.declared.constellation.Constellation.{Constellation}
use Rattle.settings.specs.declared.constellation.Constellation.TheVariants.{Qpsk, Qam16, Qam64}
use Rattle.settings.specs.declared.rate.Rate.{Rate}
use Rattle.settings.specs.declared.rate.Rate.TheVariants.{Half, TwoThirds, ThreeQuarters, FiveSixths, SevenEighths}
use Rattle.settings.specs.declared.guard.Guard.{Guard}
use Rattle.settings.specs.declared.guard.Guard.TheVariants.{ThirtySecond, Sixteenth, Eighth, Quarter}
use Rattle.settings.specs.Mode.{mode_code}
use Rattle.settings.specs.Constellation.{constellation_code}
use Rattle.settings.specs.Rate.{rate_code}
use Rattle.settings.specs.Guard.{guard_code}
use Rattle.settings.specs.Codes.{settings_codes, settings_read}
use Rattle.settings.proofs.Reading.{codes_stand_lem}
use Rattle.tps.specs.declared.field.Field.{Field}
use Rattle.tps.specs.Field.{bits, sent}
use Rattle.tps.specs.Protection.{parity}
use Rattle.tps.specs.Block.{odd, length_indicator, identifier_byte, fields, information, block, blocks}
use Rattle.tps.specs.Laws.{Identifier}
use Rattle.tps.proofs.Bits.{bits-length, bits-same}
use Rattle.tps.proofs.Writing.{no_field}

-- lists that are joined alike, whose first parts are as long
split : (xs ys vs ws : List ℕ) → length xs ≡ length ys → xs ++ vs ≡ ys ++ ws → (xs ≡ ys) × (vs ≡ ws)
split xs ys vs ws h e = (
  sym (take_at xs vs (length xs) refl) ∙ ap (take (length xs)) e ∙ take_at ys ws (length xs) (sym h),
  sym (drop_at xs vs (length xs) refl) ∙ ap (drop (length xs)) e ∙ drop_at ys ws (length xs) (sym h),
)

-- a number that its width has room for
abbrev Room : Field → Type 0
Room f = f.value < 2 ^ f.width

abbrev widths : List Field → List ℕ
widths = map (λ f. f.width)

same-fields : (fs gs : List Field) → widths fs ≡ widths gs → AllByRecursion Room fs → AllByRecursion Room gs → sent fs ≡ sent gs → fs ≡ gs
same-fields [] [] w a b e = refl
same-fields [] (g ∷ gs) w a b e = let z : ◌≡◌ {A = ℕ} 0 1 = cc (w) in absurd (omega arith)
same-fields (f ∷ fs) [] w a b e = let z : ◌≡◌ {A = ℕ} 0 1 = cc (w) in absurd (omega arith)
same-fields (f ∷ fs) (g ∷ gs) w a b e =
    let v : f.width ≡ g.width = cc (w) in
    let ws : widths fs ≡ widths gs = cc (w) in
    let p = split (bits f.width f.value) (bits g.width g.value) (sent fs) (sent gs) (bits-length f.width f.value ∙ v ∙ sym (bits-length g.width g.value)) e in
    let n : f.value ≡ g.value =
    bits-same f.width f.value g.value a.0 (subst (λ j. g.value < 2 ^ j) (sym v) b.0) (p.0 ∙ ap (λ j. bits j g.value) (sym v)) in
    let r = same-fields fs gs ws a.1 b.1 p.1 in
    λ i. record { width = v i; value = n i } ∷ r i

mode_room : (m : Mode) → mode_code m < 2 ^ 2
mode_room TwoK = lit< tt
mode_room EightK = lit< tt

constellation_room : (c : Constellation) → constellation_code c < 2 ^ 2
constellation_room Qpsk = lit< tt
constellation_room Qam16 = lit< tt
constellation_room Qam64 = lit< tt

rate_room : (r : Rate) → rate_code r < 2 ^ 3
rate_room Half = lit< tt
rate_room TwoThirds = lit< tt
rate_room ThreeQuarters = lit< tt
rate_room FiveSixths = lit< tt
rate_room SevenEighths = lit< tt

guard_room : (g : Guard) → guard_code g < 2 ^ 2
guard_room ThirtySecond = lit< tt
guard_room Sixteenth = lit< tt
guard_room Eighth = lit< tt
guard_room Quarter = lit< tt

indicator_room : (i : Option ℕ) → length_indicator i < 2 ^ 6
indicator_room None = lit< tt
indicator_room (Some i) = lit< tt

byte_room : (frame : ℕ) (i : Option ℕ) → Identifier i → identifier_byte frame i < 2 ^ 8
byte_room frame None h = lit< tt
byte_room frame (Some i) h = cond_both (odd frame) (i / 256) (i % 256) (λ v. v < 2 ^ 8) (λ e. omega arith) (λ e. omega arith)

fields-room : (s : Settings) (frame : ℕ) → Identifier s.identifier → frame ≤ 4 → AllByRecursion Room (fields s frame)
fields-room s frame h k = (
  cond_both (odd frame) 0b0011010111101110 0b1100101000010001 (λ v. v < 2 ^ 16) (λ e. lit< tt) (λ e. lit< tt),
  (
    indicator_room s.identifier,
    (
      omega arith,
      (
        constellation_room s.constellation,
        (
          lit< tt,
          (
            rate_room s.rate,
            (
              lit< tt,
              (
                guard_room s.guard,
                (
                  mode_room s.mode,
                  (
                    byte_room frame s.identifier h,
                    (
                      lit< tt,
                      tt,
                    ),
                  ),
                ),
              ),
            ),
          ),
        ),
      ),
    ),
  ),
)

fields_told : (s t : Settings) (frame : ℕ) → Identifier s.identifier → Identifier t.identifier → frame ≤ 4
    → block s frame ≡ block t frame → fields s frame ≡ fields t frame
unfolding block information
fields_told s t frame h k l e =
    same-fields (fields s frame) (fields t frame) refl (fields-room s frame h l) (fields-room t frame k l)
    (split (information s frame) (information t frame) (parity (information s frame)) (parity (information t frame)) refl e).0

identifier_told : (i j : Option ℕ) → Identifier i → Identifier j → length_indicator i ≡ length_indicator j
    → identifier_byte 1 i ≡ identifier_byte 1 j → identifier_byte 2 i ≡ identifier_byte 2 j → i ≡ j
identifier_told None None h k e a b = refl
identifier_told None (Some j) h k e a b = absurd (omega arith)
identifier_told (Some i) None h k e a b = absurd (omega arith)
identifier_told (Some i) (Some j) h k e a b = let same : i ≡ j = omega arith in ap Some same

pub settings_told : (s t : Settings) → Identifier s.identifier → Identifier t.identifier → blocks s ≡ blocks t → s ≡ t
settings_told s t h k e =
    let one = fields_told s t 1 h k (lit≤ tt) (cc (e)) in
    let two = fields_told s t 2 h k (lit≤ tt) (cc (e)) in
    let at : (n : ℕ) → (get_or (fields s 1) n no_field).value ≡ (get_or (fields t 1) n no_field).value = λ n. ap (λ fs. (get_or fs n no_field).value) one in
    let i = identifier_told s.identifier t.identifier h k (at 1) (at 9) (ap (λ fs. (get_or fs 9 no_field).value) two) in
    let codes : settings_codes s ≡ settings_codes t = λ j. record { mode = at 8 j; constellation = at 3 j; rate = at 5 j; guard = at 7 j; identifier = i j } in
    let same : Ok s ≡ Ok t = sym (codes_stand_lem.back s) ∙ ap settings_read codes ∙ codes_stand_lem.back t in
    cc (same)
