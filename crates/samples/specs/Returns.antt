-- Packets that come back, held to those that were sent.
use Rattle.std.specs.Prelude.{ℕ, ◌+◌, Bool, true, false, cond, List, Some, None, Option, nat_lt}
use Rattle.std.specs.Str.{bytes_eq}
use Rattle.samples.specs.declared.generator.Generator.{Generator}
use Rattle.samples.specs.declared.returns.Returns.{Returns}
use Rattle.samples.specs.Generator.{after, packet_from}

abbrev pub beginning : ℕ → ℕ → Returns
beginning seed sent = record { sent = sent; back = 0; next = Some (record { state = seed }) }

-- the next one, which is as it was or not
abbrev pub compared : Returns → Generator → Bool → Returns
compared r g true = record { sent = r.sent; back = r.back + 1; next = Some (record { state = after 187 g.state }) }
compared r g false = record { sent = r.sent; back = r.back; next = None }

abbrev pub held_to : Returns → Option Generator → List ℕ → Returns
held_to r None packet = r
held_to r (Some g) packet = cond (nat_lt r.back r.sent) (compared r g (bytes_eq packet (packet_from g.state))) r

-- none is looked at after the first that differs, nor after the last that was sent
abbrev pub held : Returns → List ℕ → Returns
held r packet = held_to r r.next packet
