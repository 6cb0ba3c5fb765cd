-- Codes are read exactly as the settings whose codes they are.
use Rattle.std.proofs.Common.{◌≡◌, ℕ, Ok, Err, Result, sym, refl, ap, ◌∙◌, arith}
use Rattle.refusal.specs.declared.Refusal.{Refusal}
use Rattle.refusal.specs.declared.Refusal.TheVariants.{UnknownMode, UnknownConstellation, UnknownRate, UnknownGuard}
use Rattle.settings.specs.declared.Settings.{Settings}
use Rattle.settings.specs.declared.codes.Codes.{Codes}
use Rattle.settings.specs.declared.mode.Mode.TheVariants.{TwoK, EightK}
use Rattle.settings.specs.declared.constellation.Constellation.TheVariants.{Qpsk, Qam16, Qam64}
use Rattle.settings.specs.declared.rate.Rate.TheVariants.{Half, TwoThirds, ThreeQuarters, FiveSixths, SevenEighths}
use Rattle.settings.specs.declared.guard.Guard.TheVariants.{ThirtySecond, Sixteenth, Eighth, Quarter}
use Rattle.settings.specs.Coded.{Coded}
use Rattle.settings.specs.Codes.{and_then, settings_codes, settings_read, CodesStand}
use Rattle.settings.specs.Mode.{modes, mode_read, mode_code}
use Rattle.settings.specs.Constellation.{constellations, constellation_read, constellation_code}
use Rattle.settings.specs.Rate.{rates, rate_read, rate_code}
use Rattle.settings.specs.Guard.{guards, guard_read, guard_code}
use Rattle.settings.proofs.Tables.{coded}

-- what an accepted value went through
pub accepted : {X Y : Type 0} (r : Result X Refusal) (f : X → Result Y Refusal) (y : Y) → and_then r f ≡ Ok y
    → (x : X) × (r ≡ Ok x) × (f x ≡ Ok y)
accepted (Ok x) f y e = (x, refl, e)
accepted (Err r) f y e = let z : ◌≡◌ {A = ℕ} 0 1 = cc in absurd (omega arith)

mode_coded : Coded mode_code mode_read UnknownMode
mode_coded = coded mode_code modes UnknownMode (refl, (refl, tt)) (λ x. elim x as (λ v. mode_read (mode_code v) ≡ Ok v) [ TwoK ↦ refl | EightK ↦ refl ])

constellation_coded : Coded constellation_code constellation_read UnknownConstellation
constellation_coded =
    coded constellation_code constellations UnknownConstellation (refl, (refl, (refl, tt)))
    (λ x. elim x as (λ v. constellation_read (constellation_code v) ≡ Ok v) [ Qpsk ↦ refl | Qam16 ↦ refl | Qam64 ↦ refl ])

rate_coded : Coded rate_code rate_read UnknownRate
rate_coded =
    coded rate_code rates UnknownRate (refl, (refl, (refl, (refl, (refl, tt)))))
    (λ x. elim x as (λ v. rate_read (rate_code v) ≡ Ok v) [ Half ↦ refl | TwoThirds ↦ refl | ThreeQuarters ↦ refl | FiveSixths ↦ refl | SevenEighths ↦ refl ])

guard_coded : Coded guard_code guard_read UnknownGuard
guard_coded =
    coded guard_code guards UnknownGuard (refl, (refl, (refl, (refl, tt))))
    (λ x. elim x as (λ v. guard_read (guard_code v) ≡ Ok v) [ ThirtySecond ↦ refl | Sixteenth ↦ refl | Eighth ↦ refl | Quarter ↦ refl ])

back : (s : Settings) → settings_read (settings_codes s) ≡ Ok s
back s = rw (mode_coded.back s.mode, constellation_coded.back s.constellation, rate_coded.back s.rate, guard_coded.back s.guard)

only : (c : Codes) (s : Settings) → settings_read c ≡ Ok s → settings_codes s ≡ c
only c s e =
    let (m, m_is, e₁) = accepted (mode_read c.mode) _ s e in
    let (k, k_is, e₂) = accepted (constellation_read c.constellation) _ s e₁ in
    let (r, r_is, e₃) = accepted (rate_read c.rate) _ s e₂ in
    let (g, g_is, e₄) = accepted (guard_read c.guard) _ s e₃ in
    let s_is : record { mode = m; constellation = k; rate = r; guard = g; identifier = c.identifier } ≡ s = cc in
    ap settings_codes (sym s_is) ∙ (λ i. record {
      mode = mode_coded.only c.mode m m_is i;
      constellation = constellation_coded.only c.constellation k k_is i;
      rate = rate_coded.only c.rate r r_is i;
      guard = guard_coded.only c.guard g g_is i;
      identifier = c.identifier;
    })

pub codes_stand_lem : CodesStand
codes_stand_lem = record {
  modes = mode_coded;
  constellations = constellation_coded;
  rates = rate_coded;
  guards = guard_coded;
  back = back;
  only = only;
}
