use Rattle.std.proofs.Common.{◌≡◌, ◌<◌, ◌^◌, ◌*◌, length, take}
use Rattle.std.specs.List.{AllByRecursion, flat_map}
use Rattle.ode_codec.specs.StoredRows.{u16}
use Rattle.ode_opening_tables.proofs.bytes.states_in.Given as goal

abbrev pub invariant-loop-place : goal.invariant-loop-place
invariant-loop-place l = record {
  states : flat_map u16 l.next ≡ take (2 * l.place) l.bytes;
  count : length l.next ≡ l.place;
  short : AllByRecursion (λ n. n < 2 ^ 16) l.next;
}
