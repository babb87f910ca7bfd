use Rattle.std.proofs.Common.{refl, sym, subst}
use Rattle.ode_value.specs.Tables.{Table}
use Rattle.ode_table.specs.Whole.{IsWhole}
use Rattle.ode_minimal.specs.Minimal.{AnswersAs, IsReached, IsMinimal}
use Rattle.ode_minimal.proofs.ShrinkLaws.{answers_as, is_reached, is_minimal, is_whole, is_small}
use Rattle.ode_minimal.proofs.shrinking.shrink.Goals as goal

pub unreachable-requires : goal.unreachable-requires
unreachable-requires c =
    let t = c.args.t.now in
    let kept = c.in_ok-kept.kept in
    let made : Table = record { states = c.len-states.result; symbols = c.symbols.result; next = kept.next; yes = c.in_ok-yes.yes } in
    let is = is_small t kept c.in_ok-kept.ensures made c.len-states.result c.symbols.result c.in_ok-yes.yes refl c.len-states.ensures c.symbols.ensures (rw c.as_slice-2.ensures at c.in_ok-yes.ensures) in
    c.from_parts.ensures.none c.in-None.is (subst (λ s. IsWhole s) (sym is) (is_whole t kept c.in_ok-kept.ensures))

pub returns-clause-answers : goal.returns-clause-answers
returns-clause-answers c =
    let t = c.args.t.now in
    let kept = c.in_ok-kept.kept in
    let is = is_small t kept c.in_ok-kept.ensures c.in-Some.small c.len-states.result c.symbols.result c.in_ok-yes.yes c.in-Some.ensures.some c.len-states.ensures c.symbols.ensures (rw c.as_slice-2.ensures at c.in_ok-yes.ensures) in
    subst (λ s. AnswersAs t s) (sym is) (answers_as t kept c.in_ok-kept.ensures)

pub returns-clause-reached : goal.returns-clause-reached
returns-clause-reached c =
    let t = c.args.t.now in
    let kept = c.in_ok-kept.kept in
    let is = is_small t kept c.in_ok-kept.ensures c.in-Some.small c.len-states.result c.symbols.result c.in_ok-yes.yes c.in-Some.ensures.some c.len-states.ensures c.symbols.ensures (rw c.as_slice-2.ensures at c.in_ok-yes.ensures) in
    subst (λ s. IsReached s) (sym is) (is_reached t kept c.in_ok-kept.ensures)

pub returns-clause-minimal : goal.returns-clause-minimal
returns-clause-minimal c =
    let t = c.args.t.now in
    let kept = c.in_ok-kept.kept in
    let is = is_small t kept c.in_ok-kept.ensures c.in-Some.small c.len-states.result c.symbols.result c.in_ok-yes.yes c.in-Some.ensures.some c.len-states.ensures c.symbols.ensures (rw c.as_slice-2.ensures at c.in_ok-yes.ensures) in
    subst (λ s. IsMinimal s) (sym is) (is_minimal t kept c.in_ok-kept.ensures)
