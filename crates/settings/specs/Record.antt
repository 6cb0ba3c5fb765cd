-- The settings record: what is written for codes, and which codes a list of bytes is read as.
use Rattle.std.specs.Prelude.{◌≡◌, ℕ, ◌+◌, ◌*◌, ◌/◌, ◌%◌, ◌<◌, Bool, cond, ◌&&◌, ◌||◌, ◌↔◌, List, [], ◌∷◌, length, Some, None, Ok, Err, Option, Result, ◌==◌, ◌≢◌, slice_index}
use Rattle.std.specs.List.{AllByRecursion}
use Rattle.refusal.specs.declared.Refusal.{Refusal}
use Rattle.refusal.specs.declared.Refusal.TheVariants.{RecordMalformed}
use Rattle.settings.specs.declared.Settings.{Settings}
use Rattle.settings.specs.declared.codes.Codes.{Codes}
use Rattle.settings.specs.Codes.{and_then, settings_codes, settings_read}

-- the flag, and the identifier's two bytes, the high one first
abbrev pub identifier_part : Option ℕ → List ℕ
identifier_part None = 0 ∷ 0 ∷ 0 ∷ []
identifier_part (Some n) = 1 ∷ n / 256 ∷ n % 256 ∷ []

-- the length of what follows it in two bytes, the version, and the codes
abbrev pub record_of : Codes → List ℕ
record_of c = 0 ∷ 8 ∷ 1 ∷ c.mode ∷ c.constellation ∷ c.rate ∷ c.guard ∷ identifier_part c.identifier

-- the codes that stand at their places
abbrev pub codes_in : List ℕ → Codes
codes_in bs = record {
  mode = slice_index bs 3;
  constellation = slice_index bs 4;
  rate = slice_index bs 5;
  guard = slice_index bs 6;
  identifier = cond (slice_index bs 7 == 0) None (Some (slice_index bs 8 * 256 + slice_index bs 9));
}

-- ten bytes, with the length and the version in front
abbrev pub headed : List ℕ → Bool
headed bs = length bs == 10 && (slice_index bs 0 == 0 && (slice_index bs 1 == 8 && slice_index bs 2 == 1))

-- a flag of 1, or a flag of 0 and no identifier
abbrev pub flagged : List ℕ → Bool
flagged bs = slice_index bs 7 == 1 || (slice_index bs 7 == 0 && (slice_index bs 8 == 0 && slice_index bs 9 == 0))

abbrev pub record_read : List ℕ → Result Codes Refusal
record_read bs = cond (headed bs && flagged bs) (Ok (codes_in bs)) (Err RecordMalformed)

abbrev pub settings_from : List ℕ → Result Settings Refusal
settings_from bs = and_then (record_read bs) settings_read

-- Codes and settings are read from exactly the bytes that are written for them, so a record has one meaning; all else is malformed.
pub record RecordsStand : Type 0 where
  pub codes_back : (bs : List ℕ) (c : Codes) → AllByRecursion (λ b. b < 256) bs → (record_read bs ≡ Ok c) ↔ (bs ≡ record_of c)
  pub settings_back : (bs : List ℕ) (s : Settings) → AllByRecursion (λ b. b < 256) bs → (settings_from bs ≡ Ok s) ↔ (bs ≡ record_of (settings_codes s))
  pub malformed : (bs : List ℕ) → AllByRecursion (λ b. b < 256) bs → ((c : Codes) → bs ≢ record_of c) → settings_from bs ≡ Err RecordMalformed
