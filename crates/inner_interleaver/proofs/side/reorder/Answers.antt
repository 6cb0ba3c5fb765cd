use Rattle.std.proofs.Common.{◌≡◌, ◌≤◌, ltb, ◌++◌, length, drop, ap, ◌∙◌, arith}
use Rattle.std.proofs.lemmas.Bool.{cond-false, le-ltb, or_from}
use Rattle.address.specs.Address.{addresses_of}
use Rattle.address.proofs.Address.{addresses_permute, words_fit}
use Rattle.permute.specs.Permuted.{permuted, short}
use Rattle.settings.specs.Mode.{symbol_cells}
use Rattle.inner_interleaver.proofs.side.reorder.Goals as goal

pub returns : goal.returns
returns c =
    let m = c.args.addresses.now.mode in
    let hs = addresses_of m in
    let words = c.args.words.now in
    let moved = c.args.moved.now in
    let front = permuted c.args.parity hs 0 words in
    let size : length hs ≡ symbol_cells m = (addresses_permute m).size in
    let from : length hs ≤ length words = omega (arith, size, c.requires) in
    let to : length hs ≤ length moved = omega (arith, size, words_fit m, c.told-moved) in
    c.permute.ensures.buffer 0
    ∙ cond-false (short hs words moved) moved (front ++ drop (length hs) moved)
    (or_from (ltb (length words) (length hs)) (ltb (length moved) (length hs)) (le-ltb (length words) (length hs) from) (le-ltb (length moved) (length hs) to))
    ∙ ap (λ n. front ++ drop n moved) size
