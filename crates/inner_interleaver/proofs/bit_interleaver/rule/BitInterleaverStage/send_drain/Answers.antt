use Rattle.std.proofs.Common.{◌≡◌, ℕ, ◌+◌, ◌*◌, ◌<◌, ◌^◌, length, take, drop, sym, refl, ap, ◌∙◌, subst, arith}
use Rattle.settings.specs.Constellation.{word_bits}
use Rattle.stage.specs.Blocks.{block_sending}
use Rattle.stage.specs.Model.{Sending}
use Rattle.stage.specs.Passing.{Gives}
use Rattle.stage.proofs.Gathering.{next}
use Rattle.stage.proofs.Passing.{gives_none, gives_of, gives_more}
use Rattle.stage.proofs.Waits.{no_rest}
use Rattle.std.proofs.lemmas.List.{set-get_or}
use Rattle.inner_interleaver.specs.declared.bit_interleaver.BitInterleaver.{BitInterleaver}
use Rattle.inner_interleaver.specs.Words.{words_of, word_at}
use Rattle.inner_interleaver.specs.BitInterleaver.{same, encode, bit_interleaving, sending_of}
use Rattle.inner_interleaver.specs.Digits.{length-words, get_d_words}
use Rattle.inner_interleaver.proofs.bit_interleaver.rule.BitInterleaverStage.send_drain.Goals as goal

-- the words from the place n on wait
abbrev from : BitInterleaver → ℕ → Sending
from s n = block_sending same (encode s.constellation) (126 * word_bits s.constellation) (drop n (words_of s.constellation s.bits)) tt (take s.have s.bits)

pub loop-made-init : goal.loop-made-init
loop-made-init c =
    let s = c.args.self.now in
    let m = bit_interleaving s.constellation in
    let e : s.at ≡ s.at + 0 = omega arith in
    record { stays = refl; room = omega (arith, s.inside); gives = gives_of m refl (ap (from s) e) (gives_none m (sending_of s) c.args.output.now) }

pub loop-made-preserved : goal.loop-made-preserved
loop-made-preserved c =
    let s = c.args.self.now in
    let inv = c.loop-made.invariant in
    let k = s.constellation in
    let m = bit_interleaving k in
    let at = s.at + c.loop-made.made in
    let h : at < 126 = omega arith in
    let e : at + 1 ≡ s.at + (c.loop-made.made + 1) = omega arith in
    let is : c.word.result ≡ word_at k s.bits at = c.word.ensures.is ∙ ap (λ v. word_at v.constellation v.bits at) inv.stays in
    let small : c.word.result < 2 ^ word_bits k = subst (λ v. c.word.result < 2 ^ word_bits v.constellation) inv.stays c.word.ensures.small in
    let r = next same (encode k) (126 * word_bits k) 126 tt (words_of k s.bits) s.bits s.have at (length-words k s.bits) h
    c.word.result (get_d_words k s.bits at 0 h ∙ sym is) in
    record { stays = inv.stays; room = omega arith; gives = gives_of m refl (ap (from s) e) (gives_more m inv.gives (omega arith) (sym r.answers) small r.side) }

pub invariant_of-self-2-clause-inside : goal.invariant_of-self-2-clause-inside
invariant_of-self-2-clause-inside c = omega (arith, c.loop-made.invariant.room)

pub returns-then-first-made-ge-WORDS-clause-drains : goal.returns-then-first-made-ge-WORDS-clause-drains
returns-then-first-made-ge-WORDS-clause-drains c =
    let s = c.args.self.now in
    let k = s.constellation in
    let inv = c.loop-made.invariant in
    let e : s.at + c.loop-made.made ≡ 126 = omega (arith, inv.room) in
    record {
      gives = subst (λ o. Gives (bit_interleaving k) (sending_of s) (from c.loop-made.self 126) c.args.output.now o c.loop-made.made)
          (sym (set-get_or c.loop-made.output c.loop-made.made 0)) (gives_of (bit_interleaving k) refl (ap (from s) e ∙ ap (λ v. from v 126) (sym inv.stays)) inv.gives);
      all_that_fit = λ h. ap (λ v. drop 126 (words_of v.constellation v.bits)) inv.stays ∙ no_rest (words_of k s.bits) 126 126 (length-words k s.bits) (omega arith);
    }

pub returns-clause-drains : goal.returns-clause-drains
returns-clause-drains c =
    let s = c.args.self.now in
    let k = s.constellation in
    let inv = c.loop-made.invariant in
    let all : c.loop-made.made ≡ length c.loop-made.output = omega arith in
    let whole = subst (λ n. Gives (bit_interleaving k) (sending_of s) (from s (s.at + n)) c.args.output.now c.loop-made.output n) all inv.gives in
    record {
      gives = gives_of (bit_interleaving k) refl (ap (λ v. from v (s.at + length c.loop-made.output)) (sym inv.stays)) whole;
      all_that_fit = λ h. absurd (omega (arith, h));
    }
