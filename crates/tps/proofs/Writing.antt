-- A number is sent from its highest bit to its last, and fields one after another.
use Rattle.std.proofs.Common.{◌≡◌, ℕ, suc, ◌+◌, ◌-◌, ◌/◌, ◌%◌, ◌^◌, ◌<◌, ◌≤◌, List, [], ◌∷◌, ◌++◌, length, get_or, drop, sym, ap, ◌∙◌, pow-suc, arith, length-append}
use Rattle.std.proofs.Math.Nat.{div-div-eq-div-mul}
use Rattle.std.proofs.lemmas.List.{at_drop_more}
use Rattle.tps.specs.declared.field.Field.{Field}
use Rattle.tps.specs.Field.{bits, sent}
use Rattle.tps.proofs.Bits.{bits-length}

abbrev pub no_field : Field
no_field = record { width = 0; value = 0 }

-- one bit more of n than from the place k up
pub bits_more : (w n k : ℕ) → 0 < k → k ≤ w
    → bits (w - (k - 1)) (n / 2 ^ (k - 1)) ≡ bits (w - k) (n / 2 ^ k) ++ (n / 2 ^ (k - 1) % 2 ∷ [])
bits_more w n k h l =
    let m = k - 1 in
    let e : k ≡ suc m = omega arith in
    let one : w - m ≡ suc (w - k) = omega arith in
    let half : n / 2 ^ m / 2 ≡ n / 2 ^ k = div-div-eq-div-mul n (2 ^ m) 2 ∙ ap (λ v. n / v) (sym (pow-suc 2 m)) ∙ ap (λ j. n / 2 ^ j) (sym e) in
    ap (λ j. bits j (n / 2 ^ m)) one ∙ ap (λ v. bits (w - k) v ++ (n / 2 ^ m % 2 ∷ [])) half

-- where the first i fields are sent there is room for the next
pub sent-room : (done : List ℕ) (fs : List Field) (i : ℕ) → i < length fs → done ++ sent (drop i fs) ≡ sent fs
    → length done + (get_or fs i no_field).width ≤ length (sent fs)
sent-room done fs i h e =
    let f = get_or fs i no_field in
    omega (
      arith,
      ap length e,
      ap length (at_drop_more sent fs i no_field h),
      length-append done (sent (drop i fs)),
      length-append (bits f.width f.value) (sent (drop (i + 1) fs)),
      bits-length f.width f.value,
    )
