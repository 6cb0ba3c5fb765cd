use Rattle.std.proofs.Common.{◌≡◌, ◌-◌, ◌≤◌, ◌++◌, length, get_or, take, drop, refl, ap, ◌∙◌, ap₂, subst, arith, length-drop, length-take}
use Rattle.stage.specs.Model.{fed}
use Rattle.stage.specs.Passing.{Gives}
use Rattle.stage.proofs.Feeding.{fed_none}
use Rattle.stage.proofs.Machine.{gives_sends}
use Rattle.stage.proofs.Passing.{gives_none, gives_of}
use Rattle.inner_coder.specs.Coder.{inner_code, idle_at}
use Rattle.inner_coder.specs.Convolution.{Walk, emitted, sends_one, walked}
use Rattle.inner_coder.specs.Puncturing.{sent_at}
use Rattle.inner_coder.specs.Walks.{walk_of}
use Rattle.inner_coder.proofs.Emitting.{one_more}
use Rattle.inner_coder.proofs.encoding.encode.Goals as goal

pub loop-used-init : goal.loop-used-init
loop-used-init c =
    let rate = c.args.walk.rate in
    let w = walk_of c.args.walk in
    let code = inner_code rate in (
      refl,
      omega arith,
      tt,
      gives_of code (fed_none (idle_at rate w) (gives_sends (sends_one rate) (walked rate) w)) refl (gives_none code (idle_at rate w) c.args.output.now),
    )

pub loop-used-preserved : goal.loop-used-preserved
loop-used-preserved c =
    let inv = c.loop-used.invariant in
    let rate = c.args.walk.rate in
    let w = walk_of c.loop-used.walk in
    let w' = walk_of c.shift.new.self in
    let input = c.args.input.now in
    let used = c.loop-used.used in
    let out = c.loop-used.output in
    let made = c.loop-used.made in
    let part = take (length out - made) (drop made out) in
    let b = get_or input used 0 in
    let room : 2 ≤ length part = simp (length-take, length-drop) (omega arith) in
    let on : w' ≡ walked rate w b = c.shift.ensures.walked ∙ ap (λ r. walked r w b) inv.0 in
    let emits : emitted c.sent-sent.result w'.register ≡ sends_one rate w b =
    ap₂ (λ sent (v : Walk). emitted sent v.register) (c.sent-sent.ensures ∙ ap (λ r. sent_at r w.phase) inv.0) on in
    let more = one_more rate (walk_of c.args.walk) w w' input used (omega arith) (omega arith) inv.2 inv.3 on room
    (c.emit-made.ensures.count ∙ ap length emits) (c.emit-made.ensures.written ∙ ap (λ us. us ++ drop c.emit-made.result part) emits) in (
      c.shift.ensures.rate ∙ inv.0,
      more.1.room,
      more.0,
      more.1,
    )

pub returns-clause-gives : goal.returns-clause-gives
returns-clause-gives c =
    let rate = c.args.walk.rate in
    let input = c.args.input.now in
    let all : c.loop-used.used ≡ length input = omega arith in
    subst (λ n. Gives (inner_code rate) (fed (idle_at rate (walk_of c.args.walk)) (take n input)) (idle_at rate (walk_of c.loop-used.walk)) c.args.output.now
    c.loop-used.output c.loop-used.made) all c.loop-used.invariant.3
