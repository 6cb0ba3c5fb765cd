use Rattle.std.proofs.Common.{[], ◌∷◌, ◌++◌, length, drop, sym, ap, ◌∙◌, subst}
use Rattle.reed.specs.Code.{Bytes}
use Rattle.reed.proofs.Registering.{bytes-sixteen, length-sixteen, sixteen_moved}
use Rattle.reed.proofs.parity.Parity.shift.Goals as goal

pub returns-clause-rest : goal.returns-clause-rest
returns-clause-rest c = sixteen_moved c.self.inside.register ∙ ap (λ bytes. drop 1 bytes ++ 0 ∷ []) c.self.view_is

pub returns-clause-sixteen : goal.returns-clause-sixteen
returns-clause-sixteen c = (sym (ap length c.self.view_is) ∙ length-sixteen _, length-sixteen _)

pub returns-clause-bytes : goal.returns-clause-bytes
returns-clause-bytes c = (subst Bytes c.self.view_is (bytes-sixteen _), bytes-sixteen _)
