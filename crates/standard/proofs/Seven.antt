-- What the standard pile is, for every settings.
use Rattle.std.proofs.Common.{◌≡◌, ◌*◌, ◌^◌, Bool, true, ◌&&◌, ltb, refl}
use Rattle.std.proofs.lemmas.Bool.{ltb-true, and_parts}
use Rattle.settings.specs.declared.mode.Mode.{Mode}
use Rattle.settings.specs.declared.mode.Mode.TheVariants.{TwoK, EightK}
use Rattle.settings.specs.declared.constellation.Constellation.{Constellation}
use Rattle.settings.specs.declared.constellation.Constellation.TheVariants.{Qpsk, Qam16, Qam64}
use Rattle.settings.specs.declared.rate.Rate.{Rate}
use Rattle.settings.specs.declared.rate.Rate.TheVariants.{Half, TwoThirds, ThreeQuarters, FiveSixths, SevenEighths}
use Rattle.settings.specs.Constellation.{word_bits}
use Rattle.settings.specs.SuperFrame.{packets_by}
use Rattle.stage.specs.Rule.{Rule}
use Rattle.stage.proofs.PilingRule.{piled_rule}
use Rattle.dispersal.specs.Restoring.{dispersal_rule}
use Rattle.outer.specs.Protecting as protecting
use Rattle.outer.specs.Interleaving.{interleaver_rule}
use Rattle.outer.specs.Serializing.{serializer_rule}
use Rattle.inner_coder.specs.Coding as coding
use Rattle.inner_interleaver.specs.BitBlocks.{bit_rule}
use Rattle.inner_interleaver.specs.Symbols.{symbol_rule}
use Rattle.standard.specs.Pile.{model_for, StandardHolds}

-- words of v bits fit the symbol interleaver, so bytes go all the way
takes_at : (m : Mode) (c : Constellation) (r : Rate) → (model_for m c r).taken ≡ 256
unfolding model_for
takes_at m Qpsk r = refl
takes_at m Qam16 r = refl
takes_at m Qam64 r = refl

gives_at : (m : Mode) (c : Constellation) (r : Rate) → (model_for m c r).given ≡ 2 ^ word_bits c
unfolding model_for
gives_at m Qpsk r = refl
gives_at m Qam16 r = refl
gives_at m Qam64 r = refl

rule_at : (m : Mode) (c : Constellation) (r : Rate) → Rule (model_for m c r)
unfolding model_for
rule_at m c r =
    piled_rule dispersal_rule
    (piled_rule protecting.coder_rule
    (piled_rule interleaver_rule
    (piled_rule serializer_rule
    (piled_rule (coding.coder_rule r)
    (piled_rule (bit_rule c) (symbol_rule m c))))))

-- The hold is below a super-frame of packets, tested at each of the thirty settings.
abbrev room : Mode → Constellation → Rate → Bool
room m c r = ltb ((model_for m c r).hold 0) (188 * packets_by m c r)

abbrev at_rates : (Rate → Bool) → Bool
at_rates p = p Half && (p TwoThirds && (p ThreeQuarters && (p FiveSixths && p SevenEighths)))

abbrev at_constellations : (Constellation → Bool) → Bool
at_constellations p = p Qpsk && (p Qam16 && p Qam64)

abbrev at_modes : (Mode → Bool) → Bool
at_modes p = p TwoK && p EightK

rooms : at_modes (λ m. at_constellations (λ c. at_rates (room m c))) ≡ true
unfolding model_for
rooms = refl

each_rate : (p : Rate → Bool) → at_rates p ≡ true → (r : Rate) → p r ≡ true
each_rate p e r =
    let a = and_parts (p Half) (p TwoThirds && (p ThreeQuarters && (p FiveSixths && p SevenEighths))) e in
    let b = and_parts (p TwoThirds) (p ThreeQuarters && (p FiveSixths && p SevenEighths)) a.1 in
    let c = and_parts (p ThreeQuarters) (p FiveSixths && p SevenEighths) b.1 in
    let d = and_parts (p FiveSixths) (p SevenEighths) c.1 in
    elim r as (λ v. p v ≡ true) [ Half ↦ a.0 | TwoThirds ↦ b.0 | ThreeQuarters ↦ c.0 | FiveSixths ↦ d.0 | SevenEighths ↦ d.1 ]

each_constellation : (p : Constellation → Bool) → at_constellations p ≡ true → (c : Constellation) → p c ≡ true
each_constellation p e c =
    let a = and_parts (p Qpsk) (p Qam16 && p Qam64) e in
    let b = and_parts (p Qam16) (p Qam64) a.1 in
    elim c as (λ v. p v ≡ true) [ Qpsk ↦ a.0 | Qam16 ↦ b.0 | Qam64 ↦ b.1 ]

each_mode : (p : Mode → Bool) → at_modes p ≡ true → (m : Mode) → p m ≡ true
each_mode p e m = let a = and_parts (p TwoK) (p EightK) e in elim m as (λ v. p v ≡ true) [ TwoK ↦ a.0 | EightK ↦ a.1 ]

room_at : (m : Mode) (c : Constellation) (r : Rate) → room m c r ≡ true
room_at m c r = each_rate (room m c) (each_constellation (λ c. at_rates (room m c)) (each_mode (λ m. at_constellations (λ c. at_rates (room m c))) rooms m) c) r

pub standard_holds_lem : StandardHolds
unfolding model_for
standard_holds_lem s = record {
  takes_bytes = takes_at s.mode s.constellation s.rate;
  gives_words = gives_at s.mode s.constellation s.rate;
  of_seven = refl;
  rule = rule_at s.mode s.constellation s.rate;
  cells = λ bytes. refl;
  hold = λ m. refl;
  starts = ltb-true _ _ (room_at s.mode s.constellation s.rate);
}
