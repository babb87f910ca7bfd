use Rattle.std.proofs.Common.{rules, Err, Ok, ◌≡◌, ◌∙◌, List, refl}
use Rattle.std.proofs.lemmas.Result.{err_from_is_err_and}
use Rattle.ode_change.proofs.Judged.{accepted_is, classes_checked, comes_changed, comes_refused, err_is, named_checked, not_both, ok_is, refused_is}
use Rattle.ode_change.proofs.changing.change.Goals as goal
use Rattle.ode_declare.proofs.TakeLaws.{damaged_as}
use Rattle.ode_evolve.specs.Evolving.{change_class}
use Rattle.ode_host.proofs.Moments.{joined}
use Rattle.ode_language.specs.Languages.{ode}
use Rattle.ode_machine.specs.Moments.{LeavesSettling}
use Rattle.ode_machine.specs.Refusals.{changed_in, declared_anew}
use Rattle.ode_machine.specs.Works.{changes_class}
use Rattle.ode_transact.proofs.BeginLaws.{still_left}
use Rattle.ode_transact.proofs.EndingLaws.{before_leaves, calls_as, fails_as, looks_leave, looks_then, none_rose}
use Rattle.ode_transact.proofs.LogLaws.{disk_looks}
use Rattle.ode_transact.specs.Output.{heard_of}
use Rattle.ode_transact.specs.Resting.{HoldsBy}
use Rattle.ode_value.specs.Answers.{checks}
use Rattle.ode_value.specs.Pasts.{lists}
use Rattle.ode_value.specs.Settling.{transaction}
use Rattle.ode_value.specs.Transactions.{Script}
use Rattle.ode_value.specs.Worlds.{Declared}
use Rattle.ode_value.specs.declared.reason.Refusal.{Refusal}

-- ---- what is known can't be read

pub returns-in_err-read-clause-any_moment : goal.returns-in_err-read-clause-any_moment
returns-in_err-read-clause-any_moment g c = λ w classes said well rest is behind printed.
    let s = heard_of c.args.output.now.quiet (transaction lists Script (changes_class lists classes c.args.change.now) w) in
    looks_leave _ _ (LeavesSettling (HoldsBy ode g.K.Keep.means) w s.0 said s.1)
    (before_leaves ode g.K.Keep.means rest.entries w s.0 said s.1 _ (g.met.K.Keep.stands c.args.rest.keeper c.args.host.now rest.entries rest.records) (g.met.H.Host.text_stands c.args.host.now) printed rest.world well.ones)
    c.read_known.ensures.looks

pub returns-in_err-read-clause-undamaged : goal.returns-in_err-read-clause-undamaged
returns-in_err-read-clause-undamaged g c =
    let p = err_from_is_err_and c.from_residual.result c.from_residual.ensures.1 in
    let same : c.from_residual.result ≡ Err c.in_err-read.field-0.0 = rw (p.1, p.2) refl in
    damaged_as c.read_known.result c.from_residual.result c.in_err-read.field-0.0 _ _ (search rules) same c.read_known.ensures.undamaged (λ damaged w well rest left fine. damaged w rest)

pub returns-in_err-read-clause-leaves : goal.returns-in_err-read-clause-leaves
returns-in_err-read-clause-leaves g c =
    let p = err_from_is_err_and c.from_residual.result c.from_residual.ensures.1 in
    let same : c.from_residual.result ≡ Err c.in_err-read.field-0.0 = rw (p.1, p.2) refl in
    fails_as c.read_known.result c.from_residual.result c.in_err-read.field-0.0 _ _ (search rules) same c.read_known.ensures.looks c.read_known.ensures.cause c.read_known.ensures.silent

-- ---- it can't be judged

pub returns-in_err-behind-clause-any_moment : goal.returns-in_err-behind-clause-any_moment
returns-in_err-behind-clause-any_moment g c = λ w classes said well rest is behind printed.
    let s = heard_of c.args.output.now.quiet (transaction lists Script (changes_class lists classes c.args.change.now) w) in
    looks_leave _ _ (LeavesSettling (HoldsBy ode g.K.Keep.means) w s.0 said s.1)
    (before_leaves ode g.K.Keep.means rest.entries w s.0 said s.1 _ (g.met.K.Keep.stands c.args.rest.keeper c.args.host.now rest.entries rest.records) (g.met.H.Host.text_stands c.args.host.now) printed rest.world well.ones)
    c.read_known.ensures.looks

pub returns-in_err-behind-clause-undamaged : goal.returns-in_err-behind-clause-undamaged
returns-in_err-behind-clause-undamaged g c =
    let p = err_from_is_err_and c.from_residual-in_err-behind.result c.from_residual-in_err-behind.ensures.1 in
    let same : c.from_residual-in_err-behind.result ≡ Err c.in_err-behind.field-0.0 = rw (p.1, p.2) refl in
    damaged_as c.changed.result c.from_residual-in_err-behind.result c.in_err-behind.field-0.0 _ _ (search rules) same c.changed.ensures.undamaged (λ damaged w well rest left fine.
    let known = c.in_ok-read.read.1 in
    damaged (named_checked w.bones c.args.change.now known.counters known.trees known.added (c.in_ok-read.ensures.known w rest)
    (c.changes_are_judged_class_by_class.ensures.judged ode w.bones c.args.change.now well.good.bones) (c.changes_are_behind.ensures c.requires.text.0 c.args.change.now c.requires.text.1 w well)))

-- ---- it is refused

pub returns-in-Err-clause-done : goal.returns-in-Err-clause-done
returns-in-Err-clause-done g c = λ w well rest.
    let known = c.in_ok-read.read.1 in
    let refused = refused_is w.bones c.args.change.now known.counters known.trees known.added (c.in_ok-read.ensures.known w rest)
    (c.changes_are_judged_class_by_class.ensures.judged ode w.bones c.args.change.now well.good.bones) c.in-Err.why (err_is c.in_ok-behind.field-0 c.in-Err.why (λ (why : Refusal). checks (change_class known.trees known.added c.args.change.now) ≡ Err why) c.in-Err.is c.in_ok-behind.ensures.refused) in
    comes_refused (changed_in ode w.bones c.args.change.now) c.in-Err.why _ _ refused (c.in_ok-read.ensures.rests w rest)

pub returns-in-Err-clause-counts : goal.returns-in-Err-clause-counts
returns-in-Err-clause-counts g c = λ w well rest.
    let known = c.in_ok-read.read.1 in
    let refused = refused_is w.bones c.args.change.now known.counters known.trees known.added (c.in_ok-read.ensures.known w rest)
    (c.changes_are_judged_class_by_class.ensures.judged ode w.bones c.args.change.now well.good.bones) c.in-Err.why (err_is c.in_ok-behind.field-0 c.in-Err.why (λ (why : Refusal). checks (change_class known.trees known.added c.args.change.now) ≡ Err why) c.in-Err.is c.in_ok-behind.ensures.refused) in
    comes_refused (changed_in ode w.bones c.args.change.now) c.in-Err.why _ _ refused refl

pub returns-in-Err-clause-logs : goal.returns-in-Err-clause-logs
returns-in-Err-clause-logs g c = λ w entries well rest disk.
    let known = c.in_ok-read.read.1 in
    let refused = refused_is w.bones c.args.change.now known.counters known.trees known.added (c.in_ok-read.ensures.known w rest)
    (c.changes_are_judged_class_by_class.ensures.judged ode w.bones c.args.change.now well.good.bones) c.in-Err.why (err_is c.in_ok-behind.field-0 c.in-Err.why (λ (why : Refusal). checks (change_class known.trees known.added c.args.change.now) ≡ Err why) c.in-Err.is c.in_ok-behind.ensures.refused) in
    comes_refused (changed_in ode w.bones c.args.change.now) c.in-Err.why _ _ refused refl

pub returns-in-Err-clause-any_moment : goal.returns-in-Err-clause-any_moment
returns-in-Err-clause-any_moment g c = λ w classes said well rest is behind printed.
    let known = c.in_ok-read.read.1 in
    let refused = refused_is w.bones c.args.change.now known.counters known.trees known.added (c.in_ok-read.ensures.known w rest)
    (c.changes_are_judged_class_by_class.ensures.judged ode w.bones c.args.change.now well.good.bones) c.in-Err.why (err_is c.in_ok-behind.field-0 c.in-Err.why (λ (why : Refusal). checks (change_class known.trees known.added c.args.change.now) ≡ Err why) c.in-Err.is c.in_ok-behind.ensures.refused) in
    not_both (changed_in ode w.bones c.args.change.now) classes c.in-Err.why is refused

-- ---- its fields are brought

pub returns-in_err-after-in-Ok-clause-declined : goal.returns-in_err-after-in-Ok-clause-declined
returns-in_err-after-in-Ok-clause-declined g c = λ w why rest is.
    let known = c.in_ok-read.read.1 in
    let judged = c.changes_are_judged_class_by_class.ensures.judged ode w.bones c.args.change.now rest.world.world.good.bones in
    not_both (changed_in ode w.bones c.args.change.now) _ why
    (accepted_is w.bones c.args.change.now known.counters known.trees known.added (c.in_ok-read.ensures.known w rest) judged c.in-Ok.behind.classes (ok_is c.in_ok-behind.field-0 c.in-Ok.behind (λ x. checks (change_class known.trees known.added c.args.change.now) ≡ Ok x.classes) c.in-Ok.is c.in_ok-behind.ensures.classes)) is

pub returns-in_err-after-in-Ok-clause-any_moment : goal.returns-in_err-after-in-Ok-clause-any_moment
returns-in_err-after-in-Ok-clause-any_moment g c = λ w classes said well rest is behind printed.
    let s = heard_of c.args.output.now.quiet (transaction lists Script (changes_class lists classes c.args.change.now) w) in
    let known = c.in_ok-read.read.1 in
    let knows = c.in_ok-read.ensures.known w rest in
    let judged = c.changes_are_judged_class_by_class.ensures.judged ode w.bones c.args.change.now well.good.bones in
    let checked = classes_checked w.bones c.args.change.now known.counters known.trees known.added knows judged c.in-Ok.behind.classes (ok_is c.in_ok-behind.field-0 c.in-Ok.behind (λ x. checks (change_class known.trees known.added c.args.change.now) ≡ Ok x.classes) c.in-Ok.is c.in_ok-behind.ensures.classes) classes is in
    let its = c.changes_are_behind.ensures c.requires.text.0 c.args.change.now c.requires.text.1 w well classes is in
    joined _ _ _ (LeavesSettling (HoldsBy ode g.K.Keep.means) w s.0 said s.1)
    (looks_leave _ _ (LeavesSettling (HoldsBy ode g.K.Keep.means) w s.0 said s.1)
    (before_leaves ode g.K.Keep.means rest.entries w s.0 said s.1 _ (g.met.K.Keep.stands c.args.rest.keeper c.args.host.now rest.entries rest.records) (g.met.H.Host.text_stands c.args.host.now) printed rest.world well.ones)
    c.read_known.ensures.looks)
    (c.bring_in.ensures.any_moment w classes said well (c.in_ok-read.ensures.rests w rest) knows its checked behind (c.read_known.ensures.looks.text ∙ printed))

pub returns-in_ok-after-in-Ok-clause-any_moment : goal.returns-in_ok-after-in-Ok-clause-any_moment
returns-in_ok-after-in-Ok-clause-any_moment g c = λ w classes said well rest is behind printed.
    let s = heard_of c.args.output.now.quiet (transaction lists Script (changes_class lists classes c.args.change.now) w) in
    let known = c.in_ok-read.read.1 in
    let knows = c.in_ok-read.ensures.known w rest in
    let judged = c.changes_are_judged_class_by_class.ensures.judged ode w.bones c.args.change.now well.good.bones in
    let checked = classes_checked w.bones c.args.change.now known.counters known.trees known.added knows judged c.in-Ok.behind.classes (ok_is c.in_ok-behind.field-0 c.in-Ok.behind (λ x. checks (change_class known.trees known.added c.args.change.now) ≡ Ok x.classes) c.in-Ok.is c.in_ok-behind.ensures.classes) classes is in
    let its = c.changes_are_behind.ensures c.requires.text.0 c.args.change.now c.requires.text.1 w well classes is in
    joined _ _ _ (LeavesSettling (HoldsBy ode g.K.Keep.means) w s.0 said s.1)
    (looks_leave _ _ (LeavesSettling (HoldsBy ode g.K.Keep.means) w s.0 said s.1)
    (before_leaves ode g.K.Keep.means rest.entries w s.0 said s.1 _ (g.met.K.Keep.stands c.args.rest.keeper c.args.host.now rest.entries rest.records) (g.met.H.Host.text_stands c.args.host.now) printed rest.world well.ones)
    c.read_known.ensures.looks)
    (c.bring_in.ensures.any_moment w classes said well (c.in_ok-read.ensures.rests w rest) knows its checked behind (c.read_known.ensures.looks.text ∙ printed))

pub returns-in_ok-after-in-Ok-clause-done : goal.returns-in_ok-after-in-Ok-clause-done
returns-in_ok-after-in-Ok-clause-done g c = λ w well rest.
    let known = c.in_ok-read.read.1 in
    let knows = c.in_ok-read.ensures.known w rest in
    let judged = c.changes_are_judged_class_by_class.ensures.judged ode w.bones c.args.change.now well.good.bones in
    let classes : List Declared = declared_anew c.in-Ok.behind.classes w.bones.classes in
    let is = accepted_is w.bones c.args.change.now known.counters known.trees known.added knows judged c.in-Ok.behind.classes (ok_is c.in_ok-behind.field-0 c.in-Ok.behind (λ x. checks (change_class known.trees known.added c.args.change.now) ≡ Ok x.classes) c.in-Ok.is c.in_ok-behind.ensures.classes) in
    let checked = classes_checked w.bones c.args.change.now known.counters known.trees known.added knows judged c.in-Ok.behind.classes (ok_is c.in_ok-behind.field-0 c.in-Ok.behind (λ x. checks (change_class known.trees known.added c.args.change.now) ≡ Ok x.classes) c.in-Ok.is c.in_ok-behind.ensures.classes) classes is in
    let its = c.changes_are_behind.ensures c.requires.text.0 c.args.change.now c.requires.text.1 w well classes is in
    comes_changed (changed_in ode w.bones c.args.change.now) classes _ _ is (λ behind.
    let made = c.in_ok-after-in-Ok.ensures.done w classes well (c.in_ok-read.ensures.rests w rest) knows its checked behind in
    (made.0, λ said told. made.1 said (c.read_known.ensures.looks.text ∙ told)))

pub returns-in_ok-after-in-Ok-clause-counts : goal.returns-in_ok-after-in-Ok-clause-counts
returns-in_ok-after-in-Ok-clause-counts g c = λ w well rest.
    let known = c.in_ok-read.read.1 in
    let knows = c.in_ok-read.ensures.known w rest in
    let judged = c.changes_are_judged_class_by_class.ensures.judged ode w.bones c.args.change.now well.good.bones in
    let classes : List Declared = declared_anew c.in-Ok.behind.classes w.bones.classes in
    let is = accepted_is w.bones c.args.change.now known.counters known.trees known.added knows judged c.in-Ok.behind.classes (ok_is c.in_ok-behind.field-0 c.in-Ok.behind (λ x. checks (change_class known.trees known.added c.args.change.now) ≡ Ok x.classes) c.in-Ok.is c.in_ok-behind.ensures.classes) in
    let checked = classes_checked w.bones c.args.change.now known.counters known.trees known.added knows judged c.in-Ok.behind.classes (ok_is c.in_ok-behind.field-0 c.in-Ok.behind (λ x. checks (change_class known.trees known.added c.args.change.now) ≡ Ok x.classes) c.in-Ok.is c.in_ok-behind.ensures.classes) classes is in
    let its = c.changes_are_behind.ensures c.requires.text.0 c.args.change.now c.requires.text.1 w well classes is in
    comes_changed (changed_in ode w.bones c.args.change.now) classes _ _ is (λ behind. c.in_ok-after-in-Ok.ensures.counts w classes well (c.in_ok-read.ensures.rests w rest) knows its checked behind)

pub returns-in_ok-after-in-Ok-clause-logs : goal.returns-in_ok-after-in-Ok-clause-logs
returns-in_ok-after-in-Ok-clause-logs g c = λ w entries well rest disk.
    let known = c.in_ok-read.read.1 in
    let knows = c.in_ok-read.ensures.known w rest in
    let judged = c.changes_are_judged_class_by_class.ensures.judged ode w.bones c.args.change.now well.good.bones in
    let classes : List Declared = declared_anew c.in-Ok.behind.classes w.bones.classes in
    let is = accepted_is w.bones c.args.change.now known.counters known.trees known.added knows judged c.in-Ok.behind.classes (ok_is c.in_ok-behind.field-0 c.in-Ok.behind (λ x. checks (change_class known.trees known.added c.args.change.now) ≡ Ok x.classes) c.in-Ok.is c.in_ok-behind.ensures.classes) in
    let checked = classes_checked w.bones c.args.change.now known.counters known.trees known.added knows judged c.in-Ok.behind.classes (ok_is c.in_ok-behind.field-0 c.in-Ok.behind (λ x. checks (change_class known.trees known.added c.args.change.now) ≡ Ok x.classes) c.in-Ok.is c.in_ok-behind.ensures.classes) classes is in
    let its = c.changes_are_behind.ensures c.requires.text.0 c.args.change.now c.requires.text.1 w well classes is in
    comes_changed (changed_in ode w.bones c.args.change.now) classes _ _ is (λ behind. c.in_ok-after-in-Ok.ensures.logs w classes entries well (c.in_ok-read.ensures.rests w rest) knows its checked
    (disk_looks g.K.Keep.means entries _ _ c.read_known.ensures.looks disk) behind)

pub returns-in_ok-after-in-Ok-clause-grown : goal.returns-in_ok-after-in-Ok-clause-grown
returns-in_ok-after-in-Ok-clause-grown g c = c.bring_in.ensures.grown

pub returns-in_err-after-in-Ok-clause-grown : goal.returns-in_err-after-in-Ok-clause-grown
returns-in_err-after-in-Ok-clause-grown g c = c.bring_in.ensures.grown

pub returns-in_err-after-in-Ok-clause-undamaged : goal.returns-in_err-after-in-Ok-clause-undamaged
returns-in_err-after-in-Ok-clause-undamaged g c =
    let p = err_from_is_err_and c.from_residual-in_err-after-in-Ok.result c.from_residual-in_err-after-in-Ok.ensures.1 in
    let same : c.from_residual-in_err-after-in-Ok.result ≡ Err c.in_err-after-in-Ok.field-0.0 = rw (p.1, p.2) refl in
    damaged_as c.bring_in.result c.from_residual-in_err-after-in-Ok.result c.in_err-after-in-Ok.field-0.0 _ _ (search rules) same c.bring_in.ensures.undamaged (λ damaged w well rest left fine.
    let known = c.in_ok-read.read.1 in
    let knows = c.in_ok-read.ensures.known w rest in
    let judged = c.changes_are_judged_class_by_class.ensures.judged ode w.bones c.args.change.now well.good.bones in
    let classes : List Declared = declared_anew c.in-Ok.behind.classes w.bones.classes in
    let is = accepted_is w.bones c.args.change.now known.counters known.trees known.added knows judged c.in-Ok.behind.classes (ok_is c.in_ok-behind.field-0 c.in-Ok.behind (λ x. checks (change_class known.trees known.added c.args.change.now) ≡ Ok x.classes) c.in-Ok.is c.in_ok-behind.ensures.classes) in
    let checked = classes_checked w.bones c.args.change.now known.counters known.trees known.added knows judged c.in-Ok.behind.classes (ok_is c.in_ok-behind.field-0 c.in-Ok.behind (λ x. checks (change_class known.trees known.added c.args.change.now) ≡ Ok x.classes) c.in-Ok.is c.in_ok-behind.ensures.classes) classes is in
    let its = c.changes_are_behind.ensures c.requires.text.0 c.args.change.now c.requires.text.1 w well classes is in
    damaged w classes well (c.in_ok-read.ensures.rests w rest) knows its checked (still_left w.bones.transaction left) (fine classes is))

pub returns-in_err-after-in-Ok-clause-leaves : goal.returns-in_err-after-in-Ok-clause-leaves
returns-in_err-after-in-Ok-clause-leaves g c =
    let p = err_from_is_err_and c.from_residual-in_err-after-in-Ok.result c.from_residual-in_err-after-in-Ok.ensures.1 in
    let same : c.from_residual-in_err-after-in-Ok.result ≡ Err c.in_err-after-in-Ok.field-0.0 = rw (p.1, p.2) refl in
    calls_as c.bring_in.result c.from_residual-in_err-after-in-Ok.result c.in_err-after-in-Ok.field-0.0 _ _ (search rules) same
    (looks_then _ _ _ _ _ c.read_known.ensures.looks (none_rose _ _ _ (λ failed. cc (failed)) c.in_ok-read.ensures.cause) c.bring_in.ensures.leaves)
