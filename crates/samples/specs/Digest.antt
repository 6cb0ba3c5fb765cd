-- FNV-1a with 64 bits.
use Rattle.std.specs.Prelude.{ℕ, ◌*◌, ◌%◌, ◌^◌, bit_xor}

abbrev pub basis : ℕ
basis = 0xCBF29CE484222325

abbrev pub mixed : ℕ → ℕ → ℕ
mixed d unit = bit_xor d unit * 0x100000001B3 % 2 ^ 64
