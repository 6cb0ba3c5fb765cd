-- Settings and their codes.
use Rattle.std.specs.Prelude.{◌≡◌, Ok, Err, Result}
use Rattle.refusal.specs.declared.Refusal.{Refusal}
use Rattle.refusal.specs.declared.Refusal.TheVariants.{UnknownMode, UnknownConstellation, UnknownRate, UnknownGuard}
use Rattle.settings.specs.declared.Settings.{Settings}
use Rattle.settings.specs.declared.codes.Codes.{Codes}
use Rattle.settings.specs.Coded.{Coded}
use Rattle.settings.specs.Mode.{mode_read, mode_code}
use Rattle.settings.specs.Constellation.{constellation_read, constellation_code}
use Rattle.settings.specs.Rate.{rate_read, rate_code}
use Rattle.settings.specs.Guard.{guard_read, guard_code}

-- an accepted value goes on, and a refusal stays
abbrev pub and_then : {X Y : Type 0} → Result X Refusal → (X → Result Y Refusal) → Result Y Refusal
and_then (Ok x) f = f x
and_then (Err r) f = Err r

abbrev pub settings_codes : Settings → Codes
settings_codes s = record {
  mode = mode_code s.mode;
  constellation = constellation_code s.constellation;
  rate = rate_code s.rate;
  guard = guard_code s.guard;
  identifier = s.identifier;
}

-- the first unknown code refuses
abbrev pub settings_read : Codes → Result Settings Refusal
settings_read c =
    and_then (mode_read c.mode) (λ m.
    and_then (constellation_read c.constellation) (λ k.
    and_then (rate_read c.rate) (λ r.
    and_then (guard_read c.guard) (λ g.
    Ok (record { mode = m; constellation = k; rate = r; guard = g; identifier = c.identifier })))))

-- Each table gives a value for its code and refuses every other number; codes are read exactly as the settings whose codes they are.
pub record CodesStand : Type 0 where
  pub modes : Coded mode_code mode_read UnknownMode
  pub constellations : Coded constellation_code constellation_read UnknownConstellation
  pub rates : Coded rate_code rate_read UnknownRate
  pub guards : Coded guard_code guard_read UnknownGuard
  pub back : (s : Settings) → settings_read (settings_codes s) ≡ Ok s
  pub only : (c : Codes) (s : Settings) → settings_read c ≡ Ok s → settings_codes s ≡ c
