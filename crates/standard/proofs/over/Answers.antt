use Rattle.standard.proofs.Making.{new_over}
use Rattle.standard.proofs.over.Goals as goal

pub returns : goal.returns
returns g c =
    let u = g.U.Stage in
    let l = g.L.Stage in
    λ M N m n. new_over u.model u.sending u.receiving l.model l.sending l.receiving c.args.upper c.args.lower c.new.result M N
    c.new.ensures.holds c.new.ensures.queued c.new.ensures.hears m n
