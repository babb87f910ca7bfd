use Rattle.std.proofs.Common.{rules, ◌≡◌, length, subst}
use Rattle.std.specs.Option.{IfSome}
use Rattle.std.specs.Prelude.{Option, Some}
use Rattle.ode_query.proofs.lookup.candidates.Goals as goal
use Rattle.ode_query.specs.Lookups.{IsLookup}
use Rattle.ode_query.specs.declared.lookup.Lookup.{Lookup}

pub returns-in-Some-clause-value : goal.returns-in-Some-clause-value
returns-in-Some-clause-value g c = λ base b test held reads is.
    let numbers = c.args.range.now.numbers in
    let there : c.args.range.now.lookup ≡ Some c.in-Some.lookup = search rules in
    c.look_up.ensures.value base b test numbers held reads is.rising
    (subst (λ (o : Option Lookup). IfSome o (IsLookup b test (length c.args.chosen.now) numbers)) there is.lookup)
