-- Packets and their bytes, and what start has checked.
use Rattle.std.proofs.Common.{◌≡◌, ℕ, ◌*◌, ◌<◌, ◌≤◌, Bool, true, false, not, ◌||◌, eqb, leb, List, [], ◌∷◌, length, get_or, replicate, None, Ok, Option, sym, refl, ap, mul-le-mul_left, div-le_self, arith, lit<, lit≤, length-append}
use Rattle.std.specs.List.{AllByRecursion}
use Rattle.std.proofs.lemmas.Bool.{eqb-true, leb-false, not-false, or_parts}
use Rattle.std.proofs.lemmas.List.Elements.{All-replicate, recursion_from_All}
use Rattle.std.proofs.ByRecursion.{All-append}
use Rattle.settings.specs.declared.mode.Mode.{Mode}
use Rattle.settings.specs.declared.mode.Mode.TheVariants.{TwoK, EightK}
use Rattle.settings.specs.declared.constellation.Constellation.{Constellation}
use Rattle.settings.specs.declared.constellation.Constellation.TheVariants.{Qpsk, Qam16, Qam64}
use Rattle.settings.specs.declared.rate.Rate.{Rate}
use Rattle.settings.specs.declared.rate.Rate.TheVariants.{Half, TwoThirds, ThreeQuarters, FiveSixths, SevenEighths}
use Rattle.settings.specs.Mode.{symbol_cells}
use Rattle.settings.specs.Constellation.{word_bits}
use Rattle.settings.specs.Rate.{rate_over, rate_under}
use Rattle.settings.proofs.Reading.{codes_stand_lem}
use Rattle.stage.specs.Model.{Model}
use Rattle.stage.specs.Rule.{Under}
use Rattle.settings.specs.declared.codes.Codes.{Codes}
use Rattle.settings.specs.declared.Settings.{Settings}
use Rattle.settings.specs.Codes.{settings_read}
use Rattle.settings.specs.SuperFrame.{super_frame_packets}
use Rattle.broadcast.specs.Calls.{check, bytes, null_packet, closing_packets, unfit_pile}

-- a packet that the line accepts
pub record Packet (p : List ℕ) : Type 0 where
  pub whole : length p ≡ 188
  pub sync : get_or p 0 0 ≡ 0x47
  pub units : Under 256 p

-- settings and a pile that start accepts
pub record Fit (M : Model) (s : Settings) : Type 0 where
  pub takes_bytes : M.taken ≡ 256
  pub holds_less : M.hold 0 < 188 * super_frame_packets s

pub check_none : (b : Bool) (n : ℕ) (rest : Option ℕ) → check b n rest ≡ None → (b ≡ false) × (rest ≡ None)
check_none true n rest e = let z : ◌≡◌ {A = ℕ} 0 1 = cc in absurd (omega arith)
check_none false n rest e = (refl, e)

pub fit_since : (M : Model) (s : Settings) → unfit_pile M s ≡ None → Fit M s
fit_since M s e =
    let p = check_none (not (eqb M.taken 256) || leb (188 * super_frame_packets s) (M.hold 0)) 36 None e in
    let q = or_parts (not (eqb M.taken 256)) (leb (188 * super_frame_packets s) (M.hold 0)) p.0 in
    record {
      takes_bytes = eqb-true M.taken 256 (not-false (eqb M.taken 256) q.0);
      holds_less = leb-false (188 * super_frame_packets s) (M.hold 0) q.1;
    }

pub read_identifier : (c : Codes) (s : Settings) → settings_read c ≡ Ok s → c.identifier ≡ s.identifier
read_identifier c s e = sym (ap (λ (x : Codes). x.identifier) (codes_stand_lem.only c s e))

-- a super-frame has some packets, and not too many to count

cells_most : (m : Mode) → symbol_cells m ≤ 6048
cells_most TwoK = lit≤ tt
cells_most EightK = lit≤ tt

bits_most : (k : Constellation) → word_bits k ≤ 6
bits_most Qpsk = lit≤ tt
bits_most Qam16 = lit≤ tt
bits_most Qam64 = lit≤ tt

over-most : (r : Rate) → rate_over r ≤ 7
over-most Half = lit≤ tt
over-most TwoThirds = lit≤ tt
over-most ThreeQuarters = lit≤ tt
over-most FiveSixths = lit≤ tt
over-most SevenEighths = lit≤ tt

pub packets_most : (s : Settings) → super_frame_packets s ≤ 254016
packets_most s =
    let n = symbol_cells s.mode in
    let v = word_bits s.constellation in
    let o = rate_over s.rate in
    let a : n * v ≤ n * 6 = mul-le-mul_left n (bits_most s.constellation) in
    let b : n * v * o ≤ n * v * 7 = mul-le-mul_left (n * v) (over-most s.rate) in
    let c : super_frame_packets s ≤ n * v * o = div-le_self (n * v * o) (6 * rate_under s.rate) in
    omega (arith, cells_most s.mode)

pub bytes_below : (ps : List (List ℕ)) → AllByRecursion Packet ps → Under 256 (bytes ps)
bytes_below [] h = tt
bytes_below (p ∷ ps) h = All-append (λ x. x < 256) p (bytes ps) h.0.units (bytes_below ps h.1)

pub bytes_length : {P : List ℕ → Type 0} → ((p : List ℕ) → P p → length p ≡ 188) → (ps : List (List ℕ)) → AllByRecursion P ps → length (bytes ps) ≡ 188 * length ps
bytes_length whole [] h = refl
bytes_length whole (p ∷ ps) h =
    let r = bytes_length whole ps h.1 in
    omega (arith, whole p h.0, length-append p (bytes ps))

all_replicate : {X : Type 0} (P : X → Type 0) (n : ℕ) (x : X) → P x → AllByRecursion P (replicate n x)
all_replicate P n x h = recursion_from_All P (replicate n x) (All-replicate P n x h)

null_is_packet : Packet null_packet
unfolding null_packet
null_is_packet = record {
  whole = refl;
  sync = refl;
  units = (lit< tt, (lit< tt, (lit< tt, (lit< tt, all_replicate (λ x. x < 256) 184 255 (lit< tt)))));
}

pub closing_are_packets : (s : Settings) → AllByRecursion Packet (closing_packets s)
closing_are_packets s = all_replicate Packet (super_frame_packets s) null_packet null_is_packet
