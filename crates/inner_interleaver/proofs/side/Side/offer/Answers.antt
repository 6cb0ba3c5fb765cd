use Rattle.std.proofs.Common.{◌≡◌, ℕ, ◌+◌, ◌^◌, ◌<◌, ◌≤◌, List, [], ◌∷◌, ◌++◌, length, get_or, take, drop, sym, ap, ap₂, ◌∙◌, subst, arith, length-append}
use Rattle.std.proofs.lemmas.Bool.{ltb-false}
use Rattle.std.proofs.lemmas.Nat.{pow_pos}
use Rattle.permute.specs.Parity.{opposite}
use Rattle.settings.specs.Constellation.{word_bits}
use Rattle.settings.specs.Mode.{symbol_cells}
use Rattle.stage.specs.Blocks.{block_sending}
use Rattle.inner_interleaver.specs.Symbols.{symbol_some}
use Rattle.inner_interleaver.specs.SymbolInterleaver.{encode}
use Rattle.inner_interleaver.proofs.SymbolSides.{turned, moved_below, push_below, one_more, whole}
use Rattle.inner_interleaver.proofs.side.Side.offer.Goals as goal
use Rattle.inner_interleaver.proofs.side.Side.offer.Goals.{After-reorder}

moved_is : (c : After-reorder) → c.reorder.new.moved ≡ turned c.args.self.now.parity (c.args.self.now.words.items ++ c.args.unit ∷ []) c.args.self.now.moved c.args.self.now.mode
moved_is c =
    let s = c.args.self.now in
    c.reorder.ensures ∙ ap₂ (λ w m. turned s.parity w s.moved m) (c.as_slice-words.ensures.value ∙ c.push.ensures.items) c.requires

pub invariant_of-self : goal.invariant_of-self
invariant_of-self c =
    let s = c.args.self.now in
    let t = 2 ^ word_bits s.constellation in
    let words = s.words.items ++ c.args.unit ∷ [] in
    let fits : c.args.unit < t = omega (arith, c.from.ensures, c.limit.ensures, c.if-from-limit.false) in
    let wide : symbol_cells s.mode ≤ length words = simp length-append (omega (arith, c.len.ensures.value, c.push.ensures.len, c.symbol-symbol.ensures, c.if-len-symbol.true)) in
    record {
      short = omega (arith, symbol_some s.mode, ap length c.clear.ensures);
      gathered = λ k. subst (λ w. get_or w k 0 < t) (sym c.clear.ensures) (pow_pos (word_bits s.constellation));
      waiting = subst (λ (w : List ℕ). (k : ℕ) → get_or w k 0 < t) (sym (moved_is (goal.at.invariant_of-self c).After-reorder))
          (moved_below s.mode t s.parity words s.moved wide (push_below t s.words.items c.args.unit s.gathered fits) s.waiting);
    }

pub returns-then-len-symbol-clause-side : goal.returns-then-len-symbol-clause-side
returns-then-len-symbol-clause-side c =
    let s = c.args.self.now in
    let n = symbol_cells s.mode in
    let t = 2 ^ word_bits s.constellation in
    let fits : c.args.unit < t = omega (arith, c.from.ensures, c.limit.ensures, c.if-from-limit.false) in
    let idle : n ≤ s.at = ltb-false s.at n (sym c.waits.ensures.place ∙ c.if-waits.false) in
    let full : length s.words.items + 1 ≡ n = omega (arith, c.len.ensures.value, c.push.ensures.len, c.symbol-symbol.ensures, c.if-len-symbol.true) in
    let moved = moved_is (goal.at.returns-then-len-symbol-clause-side c).After-reorder in
    (λ i. block_sending opposite (encode s.mode) n (drop 0 (take n (moved i))) (c.other-self.ensures i) (c.clear.ensures i))
    ∙ whole s.mode s.parity s.moved s.words.items s.at t c.args.unit (omega arith) fits idle full

pub returns-else-len-symbol-clause-side : goal.returns-else-len-symbol-clause-side
returns-else-len-symbol-clause-side c =
    let s = c.args.self.now in
    let n = symbol_cells s.mode in
    let t = 2 ^ word_bits s.constellation in
    let fits : c.args.unit < t = omega (arith, c.from.ensures, c.limit.ensures, c.if-from-limit.false) in
    let idle : n ≤ s.at = ltb-false s.at n (sym c.waits.ensures.place ∙ c.if-waits.false) in
    let short : length s.words.items + 1 < n = omega (arith, s.short, c.len.ensures.value, c.push.ensures.len, c.symbol-symbol.ensures, c.if-len-symbol.false) in
    ap (λ held. block_sending opposite (encode s.mode) n (drop s.at (take n s.moved)) s.parity held) c.push.ensures.items
    ∙ one_more s.mode s.parity s.moved s.words.items s.at t c.args.unit (omega arith) fits idle short
