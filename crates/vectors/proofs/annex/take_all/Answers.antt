use Rattle.std.proofs.Common.{◌≡◌, ℕ, ◌<◌, List, [], ◌∷◌, length, Some, sym, ap, arith}
use Rattle.stage.specs.Model.{first, others}
use Rattle.vectors.proofs.annex.take_all.Goals as goal

fewer : (ws : List ℕ) (w : ℕ) → first ws ≡ Some w → length (others ws) < length ws
fewer [] w e = let z : ◌≡◌ {A = ℕ} 0 1 = cc in absurd (omega arith)
fewer (x ∷ ws) w e = omega arith

pub loop-unit-smaller : goal.loop-unit-smaller
loop-unit-smaller g c =
    let left : length (g.S.Stage.sending c.send_take.new.self).waits ≡ length (others (g.S.Stage.sending c.loop-unit.stage).waits) = ap (λ s. length s.waits) c.in-Some.ensures.side in
    omega (arith, left, fewer (g.S.Stage.sending c.loop-unit.stage).waits c.in-Some.unit (sym c.in-Some.ensures.answers))
