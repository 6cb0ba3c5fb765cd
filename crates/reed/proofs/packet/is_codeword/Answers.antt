use Rattle.std.proofs.Common.{◌≡◌, ℕ, ◌<◌, take, sym, ◌∙◌, arith}
use Rattle.reed.specs.Code.{remainder, Bytes}
use Rattle.reed.proofs.Codewords.{roots_from_parity, parity_from_roots}
use Rattle.reed.proofs.packet.is_codeword.Goals as goal
use Rattle.std.proofs.ByRecursion.{All-from_get_or}
use Rattle.std.proofs.lemmas.Slice.Eq.{slice_eq-Decides}
use Rattle.std.proofs.lemmas.List.{length-take-le, take_rest}
use Rattle.std.proofs.lemmas.Bool.Decides.{Decides-eqb}

pub slice_bounds-of-end : goal.slice_bounds-of-end
slice_bounds-of-end c = sym (length-take-le 188 c.args.block.now (omega arith))

pub returns : goal.returns
returns c =
    let b = c.args.block.now in
    let bytes : Bytes b = All-from_get_or (λ (x : ℕ). x < 256) b 0 (λ i h. omega (arith, (c.type_inv.block i).fits)) in
    let parity : c.as_slice.result.now ≡ remainder (take 188 b) = c.as_slice.ensures ∙ c.bytes.ensures ∙ c.of.ensures in
    let same = slice_eq-Decides Decides-eqb _ _ _ c.eq.ensures in (
      λ e. (c.if-block-ne204.false, roots_from_parity b (sym (take_rest b 188) ∙ sym (same.0 e) ∙ parity)),
      λ w. same.1 (parity ∙ sym (parity_from_roots b w.0 bytes w.1) ∙ sym (take_rest b 188)),
    )
