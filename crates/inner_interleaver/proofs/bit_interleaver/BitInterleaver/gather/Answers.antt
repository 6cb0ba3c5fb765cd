use Rattle.std.proofs.Common.{◌≡◌, ◌+◌, refl, arith}
use Rattle.inner_interleaver.specs.Digits.{width_some}
use Rattle.inner_interleaver.proofs.Gathered.{Stored, bits-stored}
use Rattle.inner_interleaver.proofs.bit_interleaver.BitInterleaver.gather.Goals as goal
use Rattle.inner_interleaver.proofs.bit_interleaver.BitInterleaver.gather.Goals.{After-copy_bits-count}

stored : (c : After-copy_bits-count) → Stored c.args.self.now.constellation c.args.input.now c.args.self.now.bits c.copy_bits-count.new.room
    c.args.self.now.have c.args.self.now.at c.block-block.result c.copy_bits-count.result
stored c =
    let s = c.args.self.now in
    let got = c.copy_bits-count.ensures in
    bits-stored s.constellation c.args.input.now s.bits c.copy_bits-count.new.room s.have s.at c.block-block.result c.copy_bits-count.result
    (omega arith) s.small s.short c.requires c.block-block.ensures got.input_has got.fits got.copied

pub invariant_of-self : goal.invariant_of-self
invariant_of-self c = record {
  small = (stored (goal.at.invariant_of-self c).After-copy_bits-count).small;
  short = omega (arith, c.block-block.ensures);
  few = c.args.self.now.few;
  inside = c.args.self.now.inside;
}

pub invariant_of-self-else-self-count : goal.invariant_of-self-else-self-count
invariant_of-self-else-self-count c = record {
  small = (stored (goal.at.invariant_of-self-else-self-count c).After-copy_bits-count).small;
  short = omega (arith, width_some c.args.self.now.constellation);
  few = c.args.self.now.few;
  inside = omega arith;
}

pub returns-then-self-count : goal.returns-then-self-count
returns-then-self-count c =
    let got = c.copy_bits-count.ensures in
    let st = stored (goal.at.returns-then-self-count c).After-copy_bits-count in
    record {
      fixed = refl;
      other = refl;
      input_has = got.input_has;
      fits = got.fits;
      side = st.short (omega arith);
      some_used = λ h. absurd (omega (arith, c.requires));
      used_up = λ _. got.used_up (omega (arith, st.room_is));
    }

pub returns-else-self-count : goal.returns-else-self-count
returns-else-self-count c =
    let s = c.args.self.now in
    let got = c.copy_bits-count.ensures in
    let st = stored (goal.at.returns-else-self-count c).After-copy_bits-count in
    let full : s.have + c.copy_bits-count.result ≡ c.block-block.result = omega (arith, st.room_is, got.room_has, s.short, c.block-block.ensures, c.if-self-count.false) in
    record {
      fixed = refl;
      other = refl;
      input_has = got.input_has;
      fits = got.fits;
      side = st.whole full;
      some_used = λ _. omega (arith, s.short, c.block-block.ensures);
      used_up = λ h. absurd (omega arith);
    }
