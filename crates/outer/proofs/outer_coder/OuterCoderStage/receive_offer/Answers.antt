use Rattle.std.proofs.Common.{◌≡◌, true, [], ◌∷◌, length, Some, None, Ok, Err, Decides, sym, refl, ap, ◌∙◌, subst, arith, rules}
use Rattle.std.proofs.lemmas.Bool.{lt-ltb}
use Rattle.reed.specs.Code.{Codeword}
use Rattle.stage.specs.Model.{some_heard, clean}
use Rattle.stage.proofs.Offers.{waiting}
use Rattle.outer.specs.Arrived.{arrived_heard}
use Rattle.outer.specs.OuterCoder.{checked, failed_root}
use Rattle.outer.proofs.Arriving.{some_arrived}
use Rattle.outer.proofs.Checking.{heard_whole}
use Rattle.outer.proofs.outer_coder.OuterCoderStage.receive_offer.Goals as goal

pub returns-then-not-matches-clause-answers : goal.returns-then-not-matches-clause-answers
returns-then-not-matches-clause-answers c =
    let s = c.args.self.now in
    let e : some_heard (arrived_heard (λ at. at ∷ []) s.arrived) ≡ true = search rules in
    waiting _ _ (lt-ltb c.args.unit 256 (omega arith)) (some_arrived s.block.items s.arrived s.within ∙ e)

pub returns-then-is_codeword-clause-side : goal.returns-then-is_codeword-clause-side
returns-then-is_codeword-clause-side c =
    let s = c.args.self.now in
    let whole = c.push.new.self.items in
    let idle : s.arrived ≡ Ok None = search rules in
    let full : length whole ≡ 204 = search rules in
    heard_whole s.block.items whole c.truncate.new.self.items c.args.unit s.arrived (Ok (Some 0)) c.is_codeword.result (omega arith) idle c.push.ensures.items full
    (subst (λ b. Decides c.is_codeword.result (Codeword b)) c.as_slice.ensures.value c.is_codeword.ensures)
    (ap clean c.truncate.ensures.items ∙ sym (ap (λ v. checked v whole) c.if-is_codeword.true)) refl

pub returns-else-is_codeword-clause-side : goal.returns-else-is_codeword-clause-side
returns-else-is_codeword-clause-side c =
    let s = c.args.self.now in
    let whole = c.push.new.self.items in
    let idle : s.arrived ≡ Ok None = search rules in
    let full : length whole ≡ 204 = search rules in
    heard_whole s.block.items whole whole c.args.unit s.arrived (Err failed_root) c.is_codeword.result (omega arith) idle c.push.ensures.items full
    (subst (λ b. Decides c.is_codeword.result (Codeword b)) c.as_slice.ensures.value c.is_codeword.ensures)
    (sym (ap (λ v. checked v whole) c.if-is_codeword.false)) refl
