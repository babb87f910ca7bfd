use Rattle.std.proofs.Common.{refl, ap, Err}
use Rattle.ode_gate.proofs.Counting.{open_from_counts}
use Rattle.ode_make.proofs.Slots.{bad_open, newer_open, none_open}
use Rattle.ode_make.proofs.make.has_open_slot.Goals as goal

pub returns-in-Ok-clause-is_open : goal.returns-in-Ok-clause-is_open
returns-in-Ok-clause-is_open g c image tells = (λ yes. open_from_counts image c.in-Ok.field-0 (c.in-Ok.ensures.found image tells), λ some. refl)

pub returns-in-Err-NoDatabase-clause-is_open : goal.returns-in-Err-NoDatabase-clause-is_open
returns-in-Err-NoDatabase-clause-is_open g c image tells =
    let none = c.in-Err-NoDatabase.ensures.no_database (ap Err c.in-Err-NoDatabase.field-0-is) image tells in
    (λ yes. absurd (cc (yes)), λ some. absurd (none_open image none some))

pub returns-in-Err-BadHeader-clause-is_open : goal.returns-in-Err-BadHeader-clause-is_open
returns-in-Err-BadHeader-clause-is_open g c image tells =
    let bad = c.in-Err-BadHeader.ensures.bad c.in-Err-BadHeader.field-0-0 (ap Err c.in-Err-BadHeader.field-0-is) image tells in
    (λ yes. bad_open image c.in-Err-BadHeader.field-0-0 bad.1, λ some. refl)

pub returns-in-Err-NewerFormat-clause-is_open : goal.returns-in-Err-NewerFormat-clause-is_open
returns-in-Err-NewerFormat-clause-is_open g c image tells =
    let newer = c.in-Err-NewerFormat.ensures.newer c.in-Err-NewerFormat.field-0-0 (ap Err c.in-Err-NewerFormat.field-0-is) image tells in
    (λ yes. newer_open image c.in-Err-NewerFormat.field-0-0 newer, λ some. refl)
