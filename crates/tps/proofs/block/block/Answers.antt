use Rattle.std.proofs.Common.{◌≡◌, ◌<◌, ◌++◌, take, sym, ap, ◌∙◌, subst}
use Rattle.std.specs.List.{AllByRecursion}
use Rattle.tps.specs.Field.{bits}
use Rattle.tps.specs.Protection.{remainder_from}
use Rattle.tps.specs.Block.{information}
use Rattle.tps.proofs.Signalling.{spaced, spaced_binary, spaced_front, parity_sent}
use Rattle.tps.proofs.block.block.Goals as goal

pub remainder-parity-requires : goal.remainder-parity-requires
remainder-parity-requires c =
    let s = c.args.settings.now in
    let e = spaced s c.args.frame c.fields.ensures c.new.ensures c.send_all-bits.ensures c.send.ensures in
    subst (AllByRecursion (λ b. b < 2)) (sym (c.as_slice.ensures.value ∙ e)) (spaced_binary s c.args.frame)

pub returns : goal.returns
returns c =
    let s = c.args.settings.now in
    let n = c.args.frame in
    let e = spaced s n c.fields.ensures c.new.ensures c.send_all-bits.ensures c.send.ensures in
    let front : c.truncate.new.self.items ≡ information s n = c.truncate.ensures.items ∙ ap (take 53) e ∙ spaced_front s n in
    let parity : c.remainder-parity.result ≡ remainder_from 0 (information s n ++ bits 14 0) =
    c.remainder-parity.ensures ∙ ap (remainder_from 0) (c.as_slice.ensures.value ∙ e) in
    c.send-2.ensures
    ∙ ap (λ f. c.truncate.new.self.items ++ bits f.width f.value) c.new-2.ensures
    ∙ (λ i. front i ++ bits 14 (parity i))
    ∙ parity_sent s n
