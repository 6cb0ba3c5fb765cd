-- The outer coder's one fault, where its struct can name it: a block is not zero at some root.
use Rattle.stage.specs.declared.Fault.{Fault}

abbrev pub failed_root : Fault
failed_root = record { stage = 1; cause = 2 }
