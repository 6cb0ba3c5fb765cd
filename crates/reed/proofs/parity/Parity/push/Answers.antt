use Rattle.std.proofs.Common.{◌*◌, ◌%◌, ◌^◌, [], ◌∷◌, ◌++◌, length, drop, sym, ap, ◌∙◌, ap₂, subst, arith}
use lib.Bits.{bit_xor, xor_lt}
use Rattle.reed.specs.Code.{taps, Bytes}
use Rattle.reed.specs.Field.{scaled, sums}
use Rattle.reed.proofs.Registering.{bytes_xor, bytes-sixteen, length-sixteen, sixteen_moved}
use Rattle.reed.proofs.parity.Parity.push.Goals as goal

pub invariant_of-self : goal.invariant_of-self
invariant_of-self c = xor_lt 128 ((c.self.inside.register * 256) % 2 ^ 128) c.row.result (omega arith) (omega arith)

pub returns : goal.returns
returns c =
    record {
      parity = bytes_xor 16 _ _
          ∙ ap₂ sums
          (sixteen_moved c.self.inside.register ∙ ap (λ bytes. drop 1 bytes ++ 0 ∷ []) c.self.view_is)
          (c.row.ensures ∙ ap (λ first. scaled (bit_xor c.args.byte first) taps) c.first.ensures);
      sixteen = (sym (ap length c.self.view_is) ∙ length-sixteen _, length-sixteen _);
      bytes = (subst Bytes c.self.view_is (bytes-sixteen _), bytes-sixteen _);
    }
