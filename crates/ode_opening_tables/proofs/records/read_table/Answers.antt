use Rattle.std.proofs.Common.{◌≡◌, ◌<◌, ◌^◌, ℕ, List, Option, Some, sym, subst}
use Rattle.std.specs.Option.{IfSome}
use Rattle.ode_value.specs.Lengths.{piece_count}
use Rattle.ode_opening_tables.proofs.Pieces.{few_pieces}
use Rattle.ode_opening_tables.proofs.Under.{no_bytes_there, table_there}
use Rattle.ode_opening_tables.specs.Answers.{IsHeadOf, IsJoined, Joins, TableOf}
use Rattle.ode_opening_tables.proofs.records.read_table.Goals as goal

pub read_bytes-requires-clause-few : goal.read_bytes-requires-clause-few
read_bytes-requires-clause-few g c =
    let size : c.in_ok-states.field-0 ≡ Some (c.in-Some.states, c.in-Some.symbols) = cc (c.in-Some.is) in
    let small = subst (λ (o : Option (ℕ × ℕ)). IfSome o (λ s. (s.0 < 2 ^ 16) × (s.1 < 2 ^ 8))) size c.in_ok-states.ensures.small in
    subst (λ (n : ℕ). piece_count n < 2 ^ 16) (sym c.table_length-count.ensures) (few_pieces c.in-Some.states c.in-Some.symbols small.0 small.1)

pub returns-in_default-2-clause-meant : goal.returns-in_default-2-clause-meant
returns-in_default-2-clause-meant g c = λ entries holds.
    let class = c.args.place.class in
    let place = c.args.place.trigger in
    let size : c.in_ok-states.field-0 ≡ Some (c.in-Some.states, c.in-Some.symbols) = cc (c.in-Some.is) in
    let small = subst (λ (o : Option (ℕ × ℕ)). IfSome o (λ s. (s.0 < 2 ^ 16) × (s.1 < 2 ^ 8))) size c.in_ok-states.ensures.small in
    let head = subst (IsHeadOf entries class place) size (c.in_ok-states.ensures.meant entries holds) in
    let meant = c.in_ok-bytes.ensures.meant entries (c.in_ok-states.ensures.holds entries holds) in
    let none = subst (Joins entries class place c.table_length-count.result) c.in_default-2.is meant in
    no_bytes_there entries class place c.in-Some.states c.in-Some.symbols small.0 small.1 head
    (subst (λ (n : ℕ). (bytes : List ℕ) → IsJoined entries class place n bytes → ⊥) c.table_length-count.ensures none)

pub returns-clause-meant : goal.returns-clause-meant
returns-clause-meant g c = λ entries holds.
    let class = c.args.place.class in
    let place = c.args.place.trigger in
    let bytes = c.in-Some-2.bytes in
    let size : c.in_ok-states.field-0 ≡ Some (c.in-Some.states, c.in-Some.symbols) = cc (c.in-Some.is) in
    let small = subst (λ (o : Option (ℕ × ℕ)). IfSome o (λ s. (s.0 < 2 ^ 16) × (s.1 < 2 ^ 8))) size c.in_ok-states.ensures.small in
    let head = subst (IsHeadOf entries class place) size (c.in_ok-states.ensures.meant entries holds) in
    let meant = c.in_ok-bytes.ensures.meant entries (c.in_ok-states.ensures.holds entries holds) in
    let joined = subst (Joins entries class place c.table_length-count.result) c.in-Some-2.is meant in
    let own = subst (λ (xs : List ℕ). TableOf c.in-Some.states c.in-Some.symbols xs c.in_ok-table_in.field-0) c.as_slice.ensures c.in_ok-table_in.ensures in
    table_there entries class place c.in-Some.states c.in-Some.symbols small.0 small.1 head bytes c.in_ok-table_in.field-0
    (subst (λ (n : ℕ). IsJoined entries class place n bytes) c.table_length-count.ensures joined) own
