use Rattle.std.proofs.Common.{rules, ◌≡◌, length, take, ap, ◌∙◌, arith}
use Rattle.std.proofs.lemmas.List.{take_all, length-take-le}
use Rattle.tps.proofs.Signalling.{block_length}
use Rattle.tps.proofs.block.write_block.Goals as goal

long : (c : goal.After-as_slice) → length c.as_slice.result.now ≡ 67
long c = ap length (c.as_slice.ensures.value ∙ c.block.ensures) ∙ block_length c.args.settings.now c.args.frame

pub slice_bounds-copy_from_slice-end-3 : goal.slice_bounds-copy_from_slice-end-3
slice_bounds-copy_from_slice-end-3 c = omega (arith, length-take-le 67 c.as_slice.result.now (omega (arith, long c)))

pub copy_from_slice-requires : goal.copy_from_slice-requires
copy_from_slice-requires c =
    omega (arith, length-take-le 67 c.args.buffer.now (omega arith), length-take-le 67 c.as_slice.result.now (omega (arith, long c)))

pub returns-clause-buffer : goal.returns-clause-buffer
returns-clause-buffer c =
    let long : length c.as_slice.result.now ≡ 67 = ap length (c.as_slice.ensures.value ∙ c.block.ensures) ∙ block_length c.args.settings.now c.args.frame in
    let whole : take 67 c.as_slice.result.now ≡ c.as_slice.result.now = take_all 67 _ (omega (arith, long)) in
    search rules
