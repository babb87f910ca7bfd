use Rattle.std.proofs.Common.{◌≡◌, ℕ, Some, sym, subst}
use Rattle.ode_passes.specs.declared.cause.Cause.TheVariants as cause
use Rattle.ode_opening_tables.proofs.Compared.{has_table, none_agrees}
use Rattle.ode_opening_tables.specs.Answers.{Compares, TableFor, TableUnder}
use Rattle.ode_opening_tables.proofs.tables.read_stored.Goals as goal

pub returns-then-not-branch-clause-meant : goal.returns-then-not-branch-clause-meant
returns-then-not-branch-clause-meant g c = λ entries t holds class place means.
    let stored = c.in-Some.stored in
    let built = c.args.built.now in
    let under = subst (TableUnder entries c.args.place.class c.args.place.trigger) c.in-Some.is (c.in_ok-stored.ensures.meant entries holds) in
    let there : TableUnder entries t.class t.place (Some stored) =
    subst (λ (n : ℕ). TableUnder entries n t.place (Some stored)) (sym class) (subst (λ (n : ℕ). TableUnder entries c.args.place.class n (Some stored)) (sym place) under) in
    let never = subst (Compares stored built) c.if-not-branch.true c.in_ok-compare.ensures in
    let its : cause.Table c.args.place.class c.args.place.trigger ≡ cause.Table t.class t.place = cc (class, place) in
    subst (TableFor entries t) (sym c.without_table-then-not-branch.ensures) (none_agrees entries t c.one_table_is_stored.ensures stored built there means never, its)

pub returns-clause-meant : goal.returns-clause-meant
returns-clause-meant g c = λ entries t holds class place means.
    let stored = c.in-Some.stored in
    let built = c.args.built.now in
    let under = subst (TableUnder entries c.args.place.class c.args.place.trigger) c.in-Some.is (c.in_ok-stored.ensures.meant entries holds) in
    let there : TableUnder entries t.class t.place (Some stored) =
    subst (λ (n : ℕ). TableUnder entries n t.place (Some stored)) (sym class) (subst (λ (n : ℕ). TableUnder entries c.args.place.class n (Some stored)) (sym place) under) in
    let both = subst (Compares stored built) c.if-not-branch.false c.in_ok-compare.ensures in
    has_table entries t stored built there both.0 both.1 means
