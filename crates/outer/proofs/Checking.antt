-- The byte that makes a block whole: its packet waits, or the fault.
use Rattle.std.proofs.Common.{◌≡◌, ℕ, ◌<◌, Bool, cond, ltb, List, [], ◌∷◌, ◌++◌, length, drop, None, Ok, Decides, Option, Result, sym, ap, ◌∙◌, ap₂, length-append, arith}
use Rattle.std.proofs.lemmas.Bool.{le-ltb}
use Rattle.std.proofs.lemmas.Bool.Decides.{same_from_decides}
use Rattle.reed.specs.Code.{Codeword}
use Rattle.stage.specs.declared.Fault.{Fault}
use Rattle.stage.specs.Model.{Heard, Receiving, silence, hushed, some_heard, heard}
use Rattle.stage.proofs.Machine.{hears_from_heard}
use Rattle.outer.specs.Arrived.{arrived_heard}
use Rattle.outer.specs.OuterCoder.{checked, decoded, vanishes, hears_block, gathered, restored_from, begun, coder_hearing}
use Rattle.outer.specs.Protecting.{codeword_decides}

abbrev side : Heard → List ℕ → Receiving
side w b = record { waits = w; future = λ ys. hushed w.fault (restored_from b ys) }

-- v says whether it is a codeword
pub heard_whole : (b whole held : List ℕ) (u : ℕ) (was is : Result (Option ℕ) Fault) (v : Bool) → u < 256 → was ≡ Ok None → whole ≡ b ++ u ∷ []
    → length whole ≡ 204 → Decides v (Codeword whole) → arrived_heard (λ at. drop at held) is ≡ checked v whole → begun held is ≡ []
    → coder_hearing held is ≡ heard (ltb u 256) (some_heard (arrived_heard (λ at. drop at b) was)) (coder_hearing b was) u
heard_whole b whole held u was is v fits idle pushed long d waits new =
    let last : ltb (length b) 203 ≡ ltb 203 203 = le-ltb (length b) 203 (omega (arith, long, ap length pushed, length-append b (u ∷ []))) in
    let out : checked v whole ≡ hears_block b u =
    ap (λ t. checked t whole) (same_from_decides v (vanishes 16 whole) d (codeword_decides whole long))
    ∙ ap decoded pushed
    ∙ sym (ap (λ t. cond t silence (decoded (b ++ u ∷ []))) last) in
    let next : [] ≡ gathered b u = sym (ap (λ t. cond t (b ++ u ∷ []) []) last) in
    ap₂ side (waits ∙ out) (new ∙ next)
    ∙ sym (hears_from_heard hears_block gathered b u 256 fits)
    ∙ sym (ap (λ (was : Result (Option ℕ) Fault). heard (ltb u 256) (some_heard (arrived_heard (λ at. drop at b) was)) (coder_hearing b was) u) idle)
