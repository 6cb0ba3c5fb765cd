-- Files of packets.
use Rattle.std.specs.Prelude.{ℕ, ◌*◌, ◌/◌, ◌%◌, cond, Some, None, Option, ◌==◌}

-- the packets in so many bytes, where they are whole super-frames of k packets
abbrev pub whole_packets : ℕ → ℕ → Option ℕ
whole_packets bytes k = cond (k == 0) None (cond (bytes % (188 * k) == 0) (Some (bytes / 188)) None)
