use Rattle.std.proofs.Common.{◌≡◌, [], subst, arith}
use Rattle.ode_script.specs.Left.{HasLeft}
use Rattle.ode_script.proofs.Chunks.{next_held, next_left}
use Rattle.ode_script.proofs.reader.Reader.peek.Goals as goal

pub returns-then-self-clause-byte : goal.returns-then-self-clause-byte
returns-then-self-clause-byte g c = λ rest left.
    let none : rest ≡ [] = c.in_ok-fill.ensures.end rest left c.if-self.true in
    (none, subst (HasLeft c.fill.new.self (g.S.Source.left c.fill.new.source)) none (c.in_ok-fill.ensures.rest rest left))

pub returns-then-is_full-clause-byte : goal.returns-then-is_full-clause-byte
returns-then-is_full-clause-byte g c = λ rest left.
    let next = next_left c.fill.new.self _ rest c.if-self.false (c.in_ok-fill.ensures.rest rest left) in
    (_, next.0, next.1)

pub returns-then-self-eq0-clause-byte : goal.returns-then-self-eq0-clause-byte
returns-then-self-eq0-clause-byte g c = λ rest left.
    let next = next_left c.fill.new.self _ rest c.if-self.false (c.in_ok-fill.ensures.rest rest left) in
    (_, next.0, next.1)

pub returns-clause-byte : goal.returns-clause-byte
returns-clause-byte g c = λ rest left. next_left c.fill.new.self _ rest c.if-self.false (c.in_ok-fill.ensures.rest rest left)

pub returns-clause-next : goal.returns-clause-next
returns-clause-next g c = next_held c.fill.new.self c.if-self.false (omega arith)
