use Rattle.std.proofs.Common.{arith}
use Rattle.address.proofs.Address.{table_permutes}
use Rattle.permute.proofs.Permuted.{answer, buffer}
use Rattle.permute.proofs.permute.Goals as goal

pub scatter-requires : goal.scatter-requires
scatter-requires g c = record { permutes = table_permutes _ _ c.list-table.ensures; from = omega arith; to = omega arith }

pub gather-requires : goal.gather-requires
gather-requires g c = record { permutes = table_permutes _ _ c.list-table.ensures; from = omega arith; to = omega arith }

pub returns-in-Even : goal.returns-in-Even
returns-in-Even g c =
    record {
      answer = answer _ _ c.list-table.ensures _ _ (omega arith) (omega arith);
      buffer = λ d.
          buffer _ _ c.list-table.ensures _ _ (omega arith) (omega arith) _ _ d c.scatter.new.to (table_permutes _ _ c.list-table.ensures) c.in-Even.is c.scatter.auto.to c.scatter.ensures.moved c.scatter.ensures.rest;
    }

pub returns-in-Odd : goal.returns-in-Odd
returns-in-Odd g c =
    record {
      answer = answer _ _ c.list-table.ensures _ _ (omega arith) (omega arith);
      buffer = λ d.
          buffer _ _ c.list-table.ensures _ _ (omega arith) (omega arith) _ _ d c.gather.new.to (table_permutes _ _ c.list-table.ensures) c.in-Odd.is c.gather.auto.to c.gather.ensures.moved c.gather.ensures.rest;
    }
