use Rattle.std.proofs.Common.{◌≡◌, ◌<◌, ◌^◌, List, Result, Ok, Err, length, sym, subst}
use Rattle.std.specs.Prelude.{IfOk, OnOk}
use Rattle.ode_opening.specs.Building.{triggers_of}
use Rattle.ode_value.specs.Tables.{Table}
use Rattle.ode_value.specs.declared.class.Class.{Class}
use Rattle.ode_opening_tables.proofs.BuiltLaws.{built_from}
use Rattle.ode_opening_tables.proofs.Fitted.{all_aligned, all_fit, all_spared, few_counts}
use Rattle.ode_opening_tables.specs.Answers.{AreBeside, AreBuiltFrom}
use Rattle.ode_opening_tables.specs.Tables.{places_from}
use Rattle.ode_opening_tables.proofs.tables.read_tables.Goals as goal

-- what holds is so where something is answered
given : {R E P : Type 0} (r : Result R E) → P → OnOk r P
given (Ok x) p = p
given (Err e) p = tt

pub read_all-requires-clause-built : goal.read_all-requires-clause-built
read_all-requires-clause-built g c =
    let a = c.args.accepted.now in
    let own : AreBuiltFrom a.tables 0 (triggers_of a.classes) = built_from (triggers_of a.classes) a.tables a.alphabets c.requires.built.compiled in
    let here : AreBuiltFrom a.tables 0 (triggers_of c.as_slice.result.now) = subst (λ (cs : List Class). AreBuiltFrom a.tables 0 (triggers_of cs)) (sym c.as_slice.ensures.all) own in
    subst (λ (ts : List Table). AreBuiltFrom ts 0 (triggers_of c.as_slice.result.now)) (sym c.as_slice-built.ensures) here

pub returns-clause-fit : goal.returns-clause-fit
returns-clause-fit g c =
    let a = c.args.accepted.now in
    let few : length a.tables < 2 ^ 32 = subst (λ (ts : List Table). length ts < 2 ^ 32) c.as_slice-built.ensures c.in_ok-are_few.ensures in
    let maps = subst (λ (cs : List Class). IfOk c.read_all.result (λ r. r.1 ≡ places_from 0 cs)) c.as_slice.ensures.all c.read_all.ensures.maps in
    let beside = subst (λ (ts : List Table). IfOk c.read_all.result (λ r. AreBeside ts r.0)) c.as_slice-built.ensures c.read_all.ensures.beside in
    let count = subst (λ (cs : List Class). IfOk c.read_all.result (λ r. length r.0 ≡ length (triggers_of cs))) c.as_slice.ensures.all c.read_all.ensures.count in
    all_fit a c.requires.built c.as_slice.ensures.checked few c.read_all.result maps beside count

pub returns-clause-aligned : goal.returns-clause-aligned
returns-clause-aligned g c =
    let a = c.args.accepted.now in
    let count = subst (λ (cs : List Class). IfOk c.read_all.result (λ r. length r.0 ≡ length (triggers_of cs))) c.as_slice.ensures.all c.read_all.ensures.count in
    all_aligned a c.requires.built c.read_all.result count

pub returns-clause-spare : goal.returns-clause-spare
returns-clause-spare g c =
    let a = c.args.accepted.now in
    all_spared a c.requires.built c.read_all.result (subst (λ (ts : List Table). IfOk c.read_all.result (λ r. AreBeside ts r.0)) c.as_slice-built.ensures c.read_all.ensures.beside)

pub returns-clause-counted : goal.returns-clause-counted
returns-clause-counted g c =
    let a = c.args.accepted.now in
    let few : length a.tables < 2 ^ 32 = subst (λ (ts : List Table). length ts < 2 ^ 32) c.as_slice-built.ensures c.in_ok-are_few.ensures in
    given c.read_all.result (few_counts a c.requires.built few)
