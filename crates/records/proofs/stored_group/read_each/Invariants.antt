use Rattle.std.proofs.Common.{◌≡◌, ◌++◌, map, length}
use Rattle.std.specs.Prelude.{flat_map}
use Rattle.std.specs.List.{AllByRecursion}
use Rattle.records.specs.Payload.{write_bytes, IsStorable}
use Rattle.records.specs.WriteOf.{write_of}
use Rattle.records.proofs.stored_group.read_each.Given as goal

-- the writes so far, and then the rest, are the bytes
abbrev pub invariant-loop : goal.invariant-loop
invariant-loop l = record {
  read : flat_map write_bytes (map write_of l.writes.items) ++ l.rest ≡ l.bytes;
  counted : length (map write_of l.writes.items) ≡ l.counter;
  storable : AllByRecursion IsStorable (map write_of l.writes.items);
}
