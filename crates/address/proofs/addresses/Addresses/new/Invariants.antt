use Rattle.std.proofs.Common.{◌≡◌, ◌≤◌, ◌++◌, length, take}
use Rattle.address.specs.Address.{addresses_of}
use Rattle.address.specs.Generator.{addresses_left}
use Rattle.address.proofs.addresses.Addresses.new.Given as goal

-- what is in the table, and what the generator has yet to give
abbrev pub invariant-loop-q : goal.invariant-loop-q
invariant-loop-q l =
    goal.iterator-loop-q.can_next l.q-iterator
    × goal.iterator-loop-q.is_finite l.q-iterator
    × (take l.q-iterator.count l.table ++ addresses_left l.q-iterator.iter.mode l.q-iterator.iter.index l.q-iterator.iter.register ≡ addresses_of l.mode)
    × (length l.table ≡ 6048)
    × (l.q-iterator.count ≤ 6048)
