-- Each value is computed, but for the parity of zeros and for the bytes that leave the outer interleaver, of any list.
use lib.Count.{ones}
use Rattle.std.proofs.Common.{◌≡◌, refl, ◌∙◌, arith}
use Rattle.dispersal.specs.Noise.{run, outputs, before, mask}
use Rattle.outer.specs.Interleaving.{leaves}
use Rattle.settings.specs.declared.constellation.Constellation.TheVariants.{Qpsk, Qam16, Qam64}
use Rattle.inner_interleaver.specs.Words.{words_of}
use Rattle.inner_interleaver.specs.BitBlocks.{one_block}
use Rattle.address.specs.Address.{addresses_of}
use Rattle.standard.specs.Pile.{model_for}
use Rattle.values.proofs.Zeros.{zeros-sent}
use Rattle.values.specs.Values.{zeros_but, BenchValues}

-- the words of one block, computed
qpsk : words_of Qpsk (zeros_but 252 1 1) ≡ zeros_but 126 63 1
unfolding words_of
qpsk = refl

qam16 : words_of Qam16 (zeros_but 504 1 1) ≡ zeros_but 126 21 2
unfolding words_of
qam16 = refl

qam64 : words_of Qam64 (zeros_but 756 5 1) ≡ zeros_but 126 42 1
unfolding words_of
qam64 = refl

pub bench_values_lem : BenchValues
unfolding run outputs before mask ones addresses_of model_for
bench_values_lem = record {
  dispersed = refl;
  protected = zeros-sent 187 refl;
  byte_0 = λ xs h. leaves.later xs 0 (omega arith);
  byte_1 = λ xs h. leaves.later xs 1 (omega arith);
  byte_203 = λ xs h. leaves.later xs 203 h;
  half = refl;
  three_quarters = refl;
  qpsk_bit = one_block Qpsk (zeros_but 252 1 1) refl ∙ qpsk;
  qam16_bit = one_block Qam16 (zeros_but 504 1 1) refl ∙ qam16;
  qam64_bit = one_block Qam64 (zeros_but 756 5 1) refl ∙ qam64;
  two_k = refl;
  eight_k = refl;
  packets = λ g i. refl;
  hold = λ g i. refl;
}
