use Rattle.std.proofs.Common.{ℕ, cond, ◌&&◌, eqb, ◌++◌, sym, ◌∙◌, subst, ap₂, arith}
use Rattle.reed.specs.Code.{remainder, Codeword}
use Rattle.reed.proofs.Codewords.{put_both, protected_codeword}
use Rattle.reed.proofs.packet.protect.Goals as goal
use Rattle.std.proofs.lemmas.List.{length-take-le}

pub slice_bounds-copy_from_slice-end-2 : goal.slice_bounds-copy_from_slice-end-2
slice_bounds-copy_from_slice-end-2 c = sym (length-take-le 188 c.args.output.now (omega arith))

pub copy_from_slice-requires : goal.copy_from_slice-requires
copy_from_slice-requires c = length-take-le 188 c.args.output.now (omega arith) ∙ sym c.if-packet-ne188.false

pub returns-clause-output : goal.returns-clause-output
returns-clause-output c =
    let packet = c.args.packet.now in
    let old = c.args.output.now in
    put_both packet (remainder packet) old _ _ c.if-packet-ne188.false c.copy_from_slice.ensures.after (c.copy_from_slice-2.ensures.after ∙ c.bytes.ensures ∙ c.of.ensures)
    ∙ sym (ap₂ (λ (m n : ℕ). cond (eqb m 188 && eqb n 204) (packet ++ remainder packet) old) c.if-packet-ne188.false c.if-output-ne204.false)

pub returns-clause-code : goal.returns-clause-code
returns-clause-code c =
    let packet = c.args.packet.now in
    let old = c.args.output.now in
    λ _. subst Codeword
    (sym (put_both packet (remainder packet) old _ _ c.if-packet-ne188.false c.copy_from_slice.ensures.after (c.copy_from_slice-2.ensures.after ∙ c.bytes.ensures ∙ c.of.ensures)))
    (protected_codeword packet c.if-packet-ne188.false)
