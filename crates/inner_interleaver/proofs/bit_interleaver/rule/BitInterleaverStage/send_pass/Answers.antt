use Rattle.std.proofs.Common.{◌≡◌, ℕ, ◌*◌, ◌≤◌, true, [], sym, refl, ap, ◌∙◌, arith}
use Rattle.std.proofs.lemmas.Bool.{lt-ltb}
use Rattle.settings.specs.Constellation.{word_bits}
use Rattle.stage.specs.Model.{some}
use Rattle.stage.proofs.Blocks.{blocks_sends}
use Rattle.stage.proofs.Feeding.{fed_none}
use Rattle.stage.proofs.Passing.{gives_none, gives_of, drains_then}
use Rattle.stage.proofs.Waits.{some-rest, no_rest}
use Rattle.inner_interleaver.specs.Words.{words_of}
use Rattle.inner_interleaver.specs.BitInterleaver.{same, encode, bit_interleaving, sending_of}
use Rattle.inner_interleaver.specs.Digits.{length-words}
use Rattle.inner_interleaver.proofs.Gathered.{used_within, used_fits, gives_further, none_left}
use Rattle.inner_interleaver.proofs.bit_interleaver.rule.BitInterleaverStage.send_pass.Goals as goal

pub loop-self-init : goal.loop-self-init
loop-self-init c =
    let s = c.args.self.now in
    let k = s.constellation in
    let m = bit_interleaving k in
    (refl, refl, omega arith, tt, gives_of m (fed_none (sending_of s) (blocks_sends same (encode k) (126 * word_bits k) tt _)) refl (gives_none m (sending_of s) c.args.output.now))

pub loop-self-preserved : goal.loop-self-preserved
loop-self-preserved c =
    let inv = c.loop-self.invariant in
    let drained = c.send_drain-made.ensures in
    let got = c.gather-used.ensures in
    let s = c.args.self.now in
    let k = s.constellation in
    let m = bit_interleaving k in
    let input = c.args.input.now in
    let used = c.loop-self.used in
    let r = c.gather-used.result in
    let g = (drains_then m inv.4 inv.0 drained.drains).gives in (
      ap bit_interleaving got.fixed ∙ drained.fixed ∙ inv.0,
      got.other ∙ drained.other ∙ inv.1,
      used_within input used r inv.2 got.input_has,
      used_fits input used r 2 inv.3 got.fits,
      gives_further input used r m (sending_of s) (blocks_sends same (encode k) (126 * word_bits k) tt _) g got.side,
    )

pub returns-then-self-lt-WORDS : goal.returns-then-self-lt-WORDS
returns-then-self-lt-WORDS c =
    let inv = c.loop-self.invariant in
    let drained = c.send_drain-made.ensures in
    let m = bit_interleaving c.args.self.now.constellation in
    let s₁ = c.send_drain-made.new.self in
    let busy : some (sending_of s₁).waits ≡ true =
    some-rest (words_of s₁.constellation s₁.bits) 126 s₁.at (length-words s₁.constellation s₁.bits) ∙ lt-ltb s₁.at 126 c.if-self-lt-WORDS.true in
    record {
      fixed = drained.fixed ∙ inv.0;
      other = drained.other ∙ inv.1;
      passes = record {
        input_has = inv.2;
        fits = inv.3;
        drains = drains_then m inv.4 inv.0 drained.drains;
        used_up = λ e. let f = ap some e in let z : ◌≡◌ {A = ℕ} 0 1 = cc in absurd (omega arith);
        waits = sym busy;
      };
    }

pub returns-then-self-ge-WORDS : goal.returns-then-self-ge-WORDS
returns-then-self-ge-WORDS c =
    let inv = c.loop-self.invariant in
    let drained = c.send_drain-made.ensures in
    let got = c.gather-used.ensures in
    let s = c.args.self.now in
    let k = s.constellation in
    let m = bit_interleaving k in
    let input = c.args.input.now in
    let used = c.loop-self.used in
    let r = c.gather-used.result in
    let s₂ = c.gather-used.new.self in
    let g = (drains_then m inv.4 inv.0 drained.drains).gives in
    let past : 126 ≤ s₂.at = c.if-self-ge-WORDS.true in
    let idle : (sending_of s₂).waits ≡ [] = no_rest (words_of s₂.constellation s₂.bits) 126 s₂.at (length-words s₂.constellation s₂.bits) past in
    record {
      fixed = ap bit_interleaving got.fixed ∙ drained.fixed ∙ inv.0;
      other = got.other ∙ drained.other ∙ inv.1;
      passes = record {
        input_has = used_within input used r inv.2 got.input_has;
        fits = used_fits input used r 2 inv.3 got.fits;
        drains = record {
          gives = gives_further input used r m (sending_of s) (blocks_sends same (encode k) (126 * word_bits k) tt _) g got.side;
          all_that_fit = λ _. idle;
        };
        used_up = λ _. none_left input used r 2 (got.used_up past);
        waits = sym (ap some idle);
      };
    }
