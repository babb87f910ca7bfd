use Rattle.std.proofs.Common.{◌≡◌, ◌<◌, ◌^◌, ◌*◌, ◌++◌, length, subst, arith}
use Rattle.std.specs.List.{flat_map}
use Rattle.ode_codec.specs.StoredRows.{u16}
use Rattle.ode_opening_tables.proofs.Spelled.{all_states, found_of, joined_parts, no_table}
use Rattle.ode_opening_tables.specs.Answers.{AreAnswers}
use Rattle.ode_opening_tables.proofs.bytes.table_in.Goals as goal

pub returns-in_default : goal.returns-in_default
returns-in_default c = λ t of.
    let front = c.split_at.result.0.now in
    let back = c.split_at.result.1.now in
    let next = c.in_ok-next.next in
    let split : c.args.bytes.now ≡ front ++ back = joined_parts _ c.args.bytes.now front back c.split_at.ensures.front c.split_at.ensures.back in
    let spelled : flat_map u16 next ≡ front = all_states _ next front c.in_ok-next.ensures.states c.split_at.ensures.front_len in
    let low : c.args.states < 2 ^ 16 = omega arith in
    let rows : c.from.result ≡ c.args.states = cc (c.from.ensures) in
    let columns : c.from-2.result ≡ c.args.symbols = cc (c.from-2.ensures) in
    let count : length next ≡ c.args.states * c.args.symbols = cc (c.in_ok-next.ensures.count, rows, columns) in
    no_table c.args.states c.args.symbols c.args.bytes.now front back next split spelled low c.in_ok-next.ensures.short count t of
    (subst (AreAnswers back) c.in_default.is c.in_ok-yes.ensures)

pub returns : goal.returns
returns c =
    let front = c.split_at.result.0.now in
    let back = c.split_at.result.1.now in
    let next = c.in_ok-next.next in
    let split : c.args.bytes.now ≡ front ++ back = joined_parts _ c.args.bytes.now front back c.split_at.ensures.front c.split_at.ensures.back in
    let spelled : flat_map u16 next ≡ front = all_states _ next front c.in_ok-next.ensures.states c.split_at.ensures.front_len in
    let low : c.args.states < 2 ^ 16 = omega arith in
    let rows : c.from.result ≡ c.args.states = cc (c.from.ensures) in
    let columns : c.from-2.result ≡ c.args.symbols = cc (c.from-2.ensures) in
    let count : length next ≡ c.args.states * c.args.symbols = cc (c.in_ok-next.ensures.count, rows, columns) in
    found_of c.args.states c.args.symbols c.args.bytes.now front back next split spelled low c.in_ok-next.ensures.short count c.in-Some.yes
    (subst (AreAnswers back) c.in-Some.is c.in_ok-yes.ensures) c.from_parts.result c.from_parts.ensures.some c.from_parts.ensures.whole c.from_parts.ensures.none
