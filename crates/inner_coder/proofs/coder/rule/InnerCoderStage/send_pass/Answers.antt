use Rattle.std.proofs.Common.{◌≡◌, true, take, sym, refl, ap, ◌∙◌, arith}
use Rattle.std.proofs.lemmas.Bool.{true≢false}
use Rattle.stage.specs.Model.{some}
use Rattle.stage.proofs.Feeding.{fed_none}
use Rattle.stage.proofs.Machine.{gives_sends}
use Rattle.stage.proofs.Passing.{gives_of, gives_fed, gives_then, passes_then}
use Rattle.inner_coder.specs.declared.puncturing.Left.TheVariants.{Nothing}
use Rattle.inner_coder.specs.Convolution.{coded, sends_one, walked}
use Rattle.inner_coder.specs.Coder.{inner_code, model_of, idle_at, sending_of, units_left, sent_of}
use Rattle.inner_coder.specs.Walks.{walk_of}
use Rattle.inner_coder.proofs.Emitting.{none_left, some_left}
use Rattle.inner_coder.proofs.coder.rule.InnerCoderStage.send_pass.Goals as goal

pub returns-then-ne : goal.returns-then-ne
returns-then-ne c =
    let s = c.args.self.now in
    let drained = c.send_drain-left.ensures in
    let s₁ = c.send_drain-left.new.self in
    let more : some (sending_of s₁).waits ≡ true = some_left s₁.waits s₁.sending.register c.if-ne.ensures in
    record {
      fixed = drained.fixed;
      other = drained.other;
      passes = record {
        input_has = omega arith;
        fits = tt;
        drains = record {
          gives = gives_of (model_of s) (fed_none (sending_of s) (gives_sends (sends_one s.sending.rate) (walked s.sending.rate) (walk_of s.sending))) refl drained.drains.gives;
          all_that_fit = drained.drains.all_that_fit;
        };
        used_up = λ e. absurd (true≢false (sym more ∙ ap some e));
        waits = sym more;
      };
    }

pub returns : goal.returns
returns c =
    let s = c.args.self.now in
    let drained = c.send_drain-left.ensures in
    let s₁ = c.send_drain-left.new.self in
    let went = c.encode-coded.ensures in
    let v = s₁.sending in
    let w = c.encode-coded.result.walk in
    let used = c.encode-coded.result.used in
    let rest = c.send_units-rest.ensures in
    let M = model_of s in
    let input = c.args.input.now in
    let none : s₁.waits ≡ Nothing = none_left s₁.waits c.if-ne.ensures in
    let before : sending_of s₁ ≡ idle_at v.rate (walk_of v) =
    λ i. record { waits = units_left (sent_of (none i)) v.register; future = coded v.rate (walk_of v) } in
    let after : idle_at v.rate (walk_of w) ≡ record { waits = units_left (sent_of s₁.waits) w.register; future = coded w.rate (walk_of w) } =
    λ i. record { waits = units_left (sent_of (sym none i)) w.register; future = coded (sym went.rate i) (walk_of w) } in
    let front = gives_fed M (take used input) (gives_of M refl before drained.drains.gives) in
    let done = gives_of M refl after (gives_then M front {N = model_of s₁} refl went.gives) in
    let coded : inner_code w.rate ≡ inner_code v.rate = ap inner_code went.rate in
    record {
      fixed = rest.fixed ∙ coded ∙ drained.fixed;
      other = rest.other ∙ drained.other;
      passes = passes_then M (sending_of s) input used c.send_units-rest.result (coded ∙ drained.fixed)
          (gives_sends (sends_one s.sending.rate) (walked s.sending.rate) (walk_of s.sending)) went.used went.fits done rest.passes;
    }
