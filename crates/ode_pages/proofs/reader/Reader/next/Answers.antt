use Rattle.std.proofs.Common.{◌<◌, ◌∙◌, sym, arith}
use Rattle.ode_pages.proofs.Decoding.{begins_more, begins_none, none_left}
use Rattle.ode_pages.proofs.reader.Reader.next.Goals as goal

pub returns-then-self-eq0-clause-none : goal.returns-then-self-eq0-clause-none
returns-then-self-eq0-clause-none c = sym c.self.view_is ∙ none_left c.self.inside.left c.self.inside.bytes.now c.if-self-eq0.true

pub returns-in_err-row-clause-none : goal.returns-in_err-row-clause-none
returns-in_err-row-clause-none c =
    let some : 0 < c.self.inside.left = omega (arith, c.if-self-eq0.false) in
    absurd (begins_none c.self.inside.left c.self.inside.bytes.now some c.self.invariant c.in_err-row.ensures.none)

pub invariant_of-self : goal.invariant_of-self
invariant_of-self c =
    let row = c.in_ok-row.row in
    let some : 0 < c.self.inside.left = omega (arith, c.if-self-eq0.false) in
    (begins_more c.self.inside.left c.self.inside.bytes.now (row.key, row.value.now) row.rest.now some c.self.invariant c.in_ok-row.ensures.some.0 c.in_ok-row.ensures.some.1).1

pub returns-clause-some : goal.returns-clause-some
returns-clause-some c =
    let row = c.in_ok-row.row in
    let some : 0 < c.self.inside.left = omega (arith, c.if-self-eq0.false) in
    sym c.self.view_is
    ∙ (begins_more c.self.inside.left c.self.inside.bytes.now (row.key, row.value.now) row.rest.now some c.self.invariant c.in_ok-row.ensures.some.0 c.in_ok-row.ensures.some.1).0
