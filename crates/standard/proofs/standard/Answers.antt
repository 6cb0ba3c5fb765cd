use Rattle.std.proofs.Common.{refl, ap}
use Rattle.dispersal.specs.EnergyDispersal.{energy_dispersal}
use Rattle.outer.specs.OuterCoder.{outer_coder}
use Rattle.outer.specs.OuterInterleaver.{outer_interleaver}
use Rattle.outer.specs.Serializer.{serializer}
use Rattle.inner_coder.specs.Coder.{inner_code}
use Rattle.inner_interleaver.specs.BitInterleaver.{bit_interleaving}
use Rattle.inner_interleaver.specs.SymbolInterleaver.{symbol_interleaving}
use Rattle.standard.specs.Pile.{model_for, words_for, coded_for, serialized_for, delayed_for, protected_for}
use Rattle.standard.proofs.standard.Goals as goal

pub returns : goal.returns
unfolding model_for
returns c =
    let s = c.args.settings.now in
    let m = s.mode in
    let k = s.constellation in
    let r = s.rate in
    c.over.ensures energy_dispersal (protected_for m k r)
    (record { model_is = refl; sends = c.new-4.ensures.sends; hears = c.new-4.ensures.hears })
    (c.over-protected.ensures outer_coder (delayed_for m k r)
    (record { model_is = refl; sends = c.new-3.ensures.sends; hears = c.new-3.ensures.hears })
    (c.over-delayed.ensures outer_interleaver (serialized_for m k r)
    (record { model_is = refl; sends = c.new-2.ensures.sends; hears = c.new-2.ensures.hears })
    (c.over-serialized.ensures serializer (coded_for m k r)
    (record { model_is = refl; sends = c.new.ensures.sends; hears = c.new.ensures.hears })
    (c.over-coded.ensures (inner_code r) (words_for m k)
    (record { model_is = c.of-2.ensures.model; sends = c.of-2.ensures.sends; hears = c.of-2.ensures.hears })
    (c.over-words.ensures (bit_interleaving k) (symbol_interleaving m k)
    (record { model_is = ap bit_interleaving c.of.ensures.model; sends = c.of.ensures.sends; hears = c.of.ensures.hears })
    (record { model_is = c.of-symbols.ensures.model; sends = c.of-symbols.ensures.sends; hears = c.of-symbols.ensures.hears }))))))
