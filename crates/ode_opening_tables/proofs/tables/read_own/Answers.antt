use Rattle.std.proofs.Common.{◌<◌, ◌≤◌, List, length, ⊎_elim, refl, subst, ◌∙◌, arith}
use Rattle.std.proofs.lemmas.Result.{err_from_is_err_and}
use Rattle.ode_host.proofs.Moments.{looks_joined}
use Rattle.ode_value.specs.Classes.{Trigger}
use Rattle.ode_opening_tables.proofs.Gathering.{all_own, next_of, own_goes, own_stops, some_next, some_within}
use Rattle.ode_opening_tables.specs.Answers.{AreBehind}
use Rattle.ode_opening_tables.proofs.tables.read_own.Goals as goal

pub read_next-requires-clause-inside : goal.read_next-requires-clause-inside
read_next-requires-clause-inside g c =
    let less : c.loop-trigger.trigger < length c.args.class.now.triggers = omega (arith, c.len-trigger-end.ensures, c.loop-trigger-test.true) in
    some_within _ c.args.built.now (length c.loop-trigger.tables)
    (some_next c.args.class.now c.loop-trigger.trigger less c.args.built.now c.args.tables.now c.loop-trigger.tables c.loop-trigger.invariant.count c.requires.built)

pub returns-in_err-read_next-clause-meant : goal.returns-in_err-read_next-clause-meant
returns-in_err-read_next-clause-meant g c = λ entries holds.
    let p = err_from_is_err_and c.from_residual.result c.from_residual.ensures.1 in
    let class = c.args.class.now in
    let i = c.loop-trigger.trigger in
    let less : i < length class.triggers = omega (arith, c.len-trigger-end.ensures, c.loop-trigger-test.true) in
    let some = some_next class i less c.args.built.now c.args.tables.now c.loop-trigger.tables c.loop-trigger.invariant.count c.requires.built in
    let lacks = c.in_err-read_next.ensures.meant entries (next_of class i less) (c.loop-trigger.invariant.holds entries holds) refl refl some in
    rw (p.1, p.2)
    (own_stops entries class i less c.args.tables.now c.loop-trigger.tables (c.loop-trigger.invariant.read entries holds) c.read_next.new.tables c.in_err-read_next.field-0.0 lacks)

pub loop-trigger-preserved : goal.loop-trigger-preserved
loop-trigger-preserved g c =
    let class = c.args.class.now in
    let i = c.loop-trigger.trigger in
    let invariant = c.loop-trigger.invariant in
    let less : i < length class.triggers = omega (arith, c.len-trigger-end.ensures, c.loop-trigger-test.true) in
    record {
      live = c.in_ok-read_next.ensures.usable;
      looks = looks_joined _ _ _ invariant.looks c.in_ok-read_next.ensures.looks;
      faults = ⊎_elim (λ err. cc (err)) (λ same. same ∙ invariant.faults) c.in_ok-read_next.ensures.cause.calm;
      holds = λ entries holds. c.in_ok-read_next.ensures.holds entries (invariant.holds entries holds);
      count = omega (arith, c.in_ok-read_next.ensures.count, invariant.count);
      beside = λ beside. c.in_ok-read_next.ensures.beside (invariant.beside beside);
      read = λ entries holds.
          let some = some_next class i less c.args.built.now c.args.tables.now c.loop-trigger.tables invariant.count c.requires.built in
          own_goes entries class i less c.args.tables.now c.loop-trigger.tables (invariant.read entries holds) c.read_next.new.tables
          (c.in_ok-read_next.ensures.meant entries (next_of class i less) (invariant.holds entries holds) refl refl some);
    }

pub returns-clause-meant : goal.returns-clause-meant
returns-clause-meant g c = λ entries holds.
    let all : length c.args.class.now.triggers ≤ c.loop-trigger.trigger = omega (arith, c.len-trigger-end.ensures, c.loop-trigger-test.false) in
    subst (λ (ts : List Trigger). AreBehind entries ts c.args.tables.now c.loop-trigger.tables) (all_own c.args.class.now c.loop-trigger.trigger all)
    (c.loop-trigger.invariant.read entries holds)
