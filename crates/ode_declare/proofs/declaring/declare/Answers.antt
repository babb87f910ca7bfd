use Rattle.std.proofs.Common.{rules, Err, ◌≡◌, refl, subst, ◌∙◌}
use Rattle.ode_compile.specs.Answers.{Stops}
use Rattle.ode_compile.specs.Compiling.{compiled}
use Rattle.ode_declare.proofs.DeclareLaws.{declares_compiled, declares_made, declares_refused, declares_so, few_made, made_as, meant, none_refused, refuses_so}
use Rattle.std.proofs.lemmas.Result.{err_from_is_err_and}
use Rattle.ode_declare.proofs.TakeLaws.{classes_are, damaged_as}
use Rattle.ode_declare.proofs.declaring.declare.Goals as goal
use Rattle.ode_good_laws.proofs.GoodAgain.{good_classes}
use Rattle.ode_host.proofs.Calls.{host_calls_as, rose_none}
use Rattle.ode_host.proofs.Moments.{looks_none}
use Rattle.ode_language.specs.Languages.{ode}
use Rattle.ode_machine.specs.Moments.{LeavesSettling}
use Rattle.ode_machine.specs.Refusals.{declared_in}
use Rattle.ode_machine.specs.Works.{declares}
use Rattle.ode_transact.proofs.BeginLaws.{still_left}
use Rattle.ode_transact.proofs.EndingLaws.{before_leaves, calls_as, fails_apart, looks_fail, looks_leave}
use Rattle.ode_transact.specs.Output.{heard_of}
use Rattle.ode_transact.specs.Resting.{HoldsBy}
use Rattle.ode_transact.specs.declared.error.EngineError.TheVariants as engine
use Rattle.ode_value.specs.Pasts.{lists}
use Rattle.ode_value.specs.Settling.{transaction}
use Rattle.ode_value.specs.Transactions.{Script}
use Rattle.ode_value.specs.Worlds.{Declared}

pub bring_in-requires : goal.bring_in-requires
bring_in-requires g c = record {
  live = c.requires.live;
  fit = c.requires.fit;
  aligned = c.requires.aligned;
  checked = c.in-Ok.ensures.checked;
  compiled = c.in-Ok.ensures.tables;
  trees = c.in-Ok.ensures.counts;
  few = few_made c.args.rest.classes c.args.decl.now c.in-Ok.made c.in-Ok.ensures.answers c.in-Ok.ensures.text c.in-Ok.ensures.tables;
}

pub returns-in_err-after-in-Ok-clause-declined : goal.returns-in_err-after-in-Ok-clause-declined
returns-in_err-after-in-Ok-clause-declined g c = λ w why rest refused.
    let known = classes_are g.H.Host.view g.K.Keep.holds g.K.Keep.live ode w c.args.rest c.args.host.now rest in
    none_refused (declared_in ode w.bones c.args.decl.now) _ why (meant c.args.rest.classes c.args.decl.now c.in-Ok.made c.in-Ok.ensures.answers c.in-Ok.ensures.text w known) refused

pub returns-in_err-after-in-Ok-clause-any_moment : goal.returns-in_err-after-in-Ok-clause-any_moment
returns-in_err-after-in-Ok-clause-any_moment g c = λ w d said well text rest is few.
    let known = classes_are g.H.Host.view g.K.Keep.holds g.K.Keep.live ode w c.args.rest c.args.host.now rest in
    let made = made_as c.args.rest.classes c.args.decl.now c.in-Ok.made c.in-Ok.ensures.answers c.in-Ok.ensures.text w known c.language_has_sound_rules.ensures c.language_reads_well.ensures (good_classes ode w.bones well.good.bones) text (λ few. c.checked_classes_have_few_parts.ensures c.args.rest.classes (record { class = c.in-Ok.made.class; tree = c.args.decl.now }) c.as_slice-known.ensures.checked c.in-Ok.ensures.checked few) d is few in
    c.bring_in.ensures.any_moment ode w d said well rest made

pub returns-in_err-after-in-Ok-clause-leaves : goal.returns-in_err-after-in-Ok-clause-leaves
returns-in_err-after-in-Ok-clause-leaves g c =
    let p = err_from_is_err_and c.from_residual.result c.from_residual.ensures.1 in
    let same : c.from_residual.result ≡ Err c.in_err-after-in-Ok.field-0.0 = rw (p.1, p.2) refl in
    calls_as c.bring_in.result c.from_residual.result c.in_err-after-in-Ok.field-0.0 _ _ (search rules) same c.bring_in.ensures.leaves

pub returns-in_ok-after-in-Ok-clause-done : goal.returns-in_ok-after-in-Ok-clause-done
returns-in_ok-after-in-Ok-clause-done g c = λ w well text rest.
    let known = classes_are g.H.Host.view g.K.Keep.holds g.K.Keep.live ode w c.args.rest c.args.host.now rest in
    let own : Declared = record { class = c.in-Ok.made.class; tree = c.args.decl.now } in
    let is = meant c.args.rest.classes c.args.decl.now c.in-Ok.made c.in-Ok.ensures.answers c.in-Ok.ensures.text w known in
    declares_made g.H.Host.view g.K.Keep.holds g.K.Keep.live w c.args.decl.now c.in_ok-after-in-Ok.after c.args.output.now.quiet c.args.host.now c.bring_in.new.host own is
    (λ few.
    let made = made_as c.args.rest.classes c.args.decl.now c.in-Ok.made c.in-Ok.ensures.answers c.in-Ok.ensures.text w known c.language_has_sound_rules.ensures c.language_reads_well.ensures (good_classes ode w.bones well.good.bones) text (λ few. c.checked_classes_have_few_parts.ensures c.args.rest.classes own c.as_slice-known.ensures.checked c.in-Ok.ensures.checked few) own is few in
    c.in_ok-after-in-Ok.ensures.done ode w own well rest made)

pub returns-in_ok-after-in-Ok-clause-counts : goal.returns-in_ok-after-in-Ok-clause-counts
returns-in_ok-after-in-Ok-clause-counts g c = λ w well text rest.
    let known = classes_are g.H.Host.view g.K.Keep.holds g.K.Keep.live ode w c.args.rest c.args.host.now rest in
    let own : Declared = record { class = c.in-Ok.made.class; tree = c.args.decl.now } in
    let is = meant c.args.rest.classes c.args.decl.now c.in-Ok.made c.in-Ok.ensures.answers c.in-Ok.ensures.text w known in
    declares_so (declared_in ode w.bones c.args.decl.now) own _ _ is (λ few.
    let made = made_as c.args.rest.classes c.args.decl.now c.in-Ok.made c.in-Ok.ensures.answers c.in-Ok.ensures.text w known c.language_has_sound_rules.ensures c.language_reads_well.ensures (good_classes ode w.bones well.good.bones) text (λ few. c.checked_classes_have_few_parts.ensures c.args.rest.classes own c.as_slice-known.ensures.checked c.in-Ok.ensures.checked few) own is few in
    c.in_ok-after-in-Ok.ensures.counts ode w own well rest made)

pub returns-in_ok-after-in-Ok-clause-declined : goal.returns-in_ok-after-in-Ok-clause-declined
returns-in_ok-after-in-Ok-clause-declined g c = λ w why rest refused.
    let known = classes_are g.H.Host.view g.K.Keep.holds g.K.Keep.live ode w c.args.rest c.args.host.now rest in
    none_refused (declared_in ode w.bones c.args.decl.now) _ why (meant c.args.rest.classes c.args.decl.now c.in-Ok.made c.in-Ok.ensures.answers c.in-Ok.ensures.text w known) refused

pub returns-in_ok-after-in-Ok-clause-any_moment : goal.returns-in_ok-after-in-Ok-clause-any_moment
returns-in_ok-after-in-Ok-clause-any_moment g c = λ w d said well text rest is few.
    let known = classes_are g.H.Host.view g.K.Keep.holds g.K.Keep.live ode w c.args.rest c.args.host.now rest in
    let made = made_as c.args.rest.classes c.args.decl.now c.in-Ok.made c.in-Ok.ensures.answers c.in-Ok.ensures.text w known c.language_has_sound_rules.ensures c.language_reads_well.ensures (good_classes ode w.bones well.good.bones) text (λ few. c.checked_classes_have_few_parts.ensures c.args.rest.classes (record { class = c.in-Ok.made.class; tree = c.args.decl.now }) c.as_slice-known.ensures.checked c.in-Ok.ensures.checked few) d is few in
    c.bring_in.ensures.any_moment ode w d said well rest made

pub returns-in_ok-after-in-Ok-clause-leaves : goal.returns-in_ok-after-in-Ok-clause-leaves
returns-in_ok-after-in-Ok-clause-leaves g c =
    host_calls_as _ _ _ _ _ _ (λ failed. cc (failed)) (λ failed. cc (failed)) (λ failed. cc (failed)) (λ failed. cc (failed)) c.in_ok-after-in-Ok.ensures.leaves

pub returns-in-Err-Memory-clause-any_moment : goal.returns-in-Err-Memory-clause-any_moment
returns-in-Err-Memory-clause-any_moment g c = λ w d said well text rest is few behind printed.
    let s = heard_of c.args.output.now.quiet (transaction lists Script (declares d) w) in
    looks_leave _ _ (LeavesSettling (HoldsBy ode g.K.Keep.means) w s.0 said s.1)
    (before_leaves ode g.K.Keep.means rest.entries w s.0 said s.1 _ (g.met.K.Keep.stands c.args.rest.keeper c.args.host.now rest.entries rest.records) (g.met.H.Host.text_stands c.args.host.now) printed rest.world well.ones)
    (looks_none _)

pub returns-in-Err-Memory-clause-leaves : goal.returns-in-Err-Memory-clause-leaves
returns-in-Err-Memory-clause-leaves g c =
    fails_apart _ engine.Memory (g.H.Host.view c.args.host.now) (g.H.Host.view c.args.host.now) refl (λ is. cc (is)) (λ is. cc (is)) (looks_none _) refl

pub returns-in-Err-Refused-clause-done : goal.returns-in-Err-Refused-clause-done
returns-in-Err-Refused-clause-done g c = λ w well text rest.
    let known = classes_are g.H.Host.view g.K.Keep.holds g.K.Keep.live ode w c.args.rest c.args.host.now rest in
    let meant = compiled c.args.rest.classes c.args.decl.now in
    let stops : meant ≡ Err c.in-Err-Refused.why = subst (Stops meant) c.in-Err-Refused.field-0-is c.in-Err-Refused.ensures.answers in
    rw c.in-Err-Refused.field-0-is
    (declares_refused g.H.Host.view g.K.Keep.holds g.K.Keep.live w c.args.decl.now c.args.rest c.args.output.now.quiet c.args.host.now c.args.host.now c.in-Err-Refused.why
    (declares_compiled w.bones c.args.rest.classes c.args.decl.now known ∙ stops) rest)

pub returns-in-Err-Refused-clause-counts : goal.returns-in-Err-Refused-clause-counts
returns-in-Err-Refused-clause-counts g c = λ w well text rest.
    let known = classes_are g.H.Host.view g.K.Keep.holds g.K.Keep.live ode w c.args.rest c.args.host.now rest in
    let meant = compiled c.args.rest.classes c.args.decl.now in
    let stops : meant ≡ Err c.in-Err-Refused.why = subst (Stops meant) c.in-Err-Refused.field-0-is c.in-Err-Refused.ensures.answers in
    rw c.in-Err-Refused.field-0-is
    (refuses_so (declared_in ode w.bones c.args.decl.now) c.in-Err-Refused.why _ _ (declares_compiled w.bones c.args.rest.classes c.args.decl.now known ∙ stops) refl)

pub returns-in-Err-Refused-clause-any_moment : goal.returns-in-Err-Refused-clause-any_moment
returns-in-Err-Refused-clause-any_moment g c = λ w d said well text rest is few behind printed.
    let s = heard_of c.args.output.now.quiet (transaction lists Script (declares d) w) in
    looks_leave _ _ (LeavesSettling (HoldsBy ode g.K.Keep.means) w s.0 said s.1)
    (before_leaves ode g.K.Keep.means rest.entries w s.0 said s.1 _ (g.met.K.Keep.stands c.args.rest.keeper c.args.host.now rest.entries rest.records) (g.met.H.Host.text_stands c.args.host.now) printed rest.world well.ones)
    (looks_none _)

pub returns-in-Err-Refused-clause-leaves : goal.returns-in-Err-Refused-clause-leaves
returns-in-Err-Refused-clause-leaves g c =
    looks_fail _ (g.H.Host.view c.args.host.now) (g.H.Host.view c.args.host.now) (looks_none _) (rose_none _ _ (λ failed. cc (failed))) (λ failed. cc (failed))

pub returns-in_err-after-in-Ok-clause-undamaged : goal.returns-in_err-after-in-Ok-clause-undamaged
returns-in_err-after-in-Ok-clause-undamaged g c =
    let p = err_from_is_err_and c.from_residual.result c.from_residual.ensures.1 in
    let same : c.from_residual.result ≡ Err c.in_err-after-in-Ok.field-0.0 = rw (p.1, p.2) refl in
    damaged_as c.bring_in.result c.from_residual.result c.in_err-after-in-Ok.field-0.0 _ _ (search rules) same c.bring_in.ensures.undamaged (λ damaged w well text rest left accepted.
    let known = classes_are g.H.Host.view g.K.Keep.holds g.K.Keep.live ode w c.args.rest c.args.host.now rest in
    let own : Declared = record { class = c.in-Ok.made.class; tree = c.args.decl.now } in
    let is = meant c.args.rest.classes c.args.decl.now c.in-Ok.made c.in-Ok.ensures.answers c.in-Ok.ensures.text w known in
    let behind = accepted own is in
    let made = made_as c.args.rest.classes c.args.decl.now c.in-Ok.made c.in-Ok.ensures.answers c.in-Ok.ensures.text w known c.language_has_sound_rules.ensures c.language_reads_well.ensures (good_classes ode w.bones well.good.bones) text (λ few. c.checked_classes_have_few_parts.ensures c.args.rest.classes own c.as_slice-known.ensures.checked c.in-Ok.ensures.checked few) own is behind.0 in
    damaged ode w own well rest made (still_left w.bones.transaction left) behind.1)

pub returns-in_err-after-in-Ok-clause-grown : goal.returns-in_err-after-in-Ok-clause-grown
returns-in_err-after-in-Ok-clause-grown g c = c.bring_in.ensures.grown

pub returns-in_ok-after-in-Ok-clause-logs : goal.returns-in_ok-after-in-Ok-clause-logs
returns-in_ok-after-in-Ok-clause-logs g c = λ w entries well text rest disk.
    let known = classes_are g.H.Host.view g.K.Keep.holds g.K.Keep.live ode w c.args.rest c.args.host.now rest in
    let own : Declared = record { class = c.in-Ok.made.class; tree = c.args.decl.now } in
    let is = meant c.args.rest.classes c.args.decl.now c.in-Ok.made c.in-Ok.ensures.answers c.in-Ok.ensures.text w known in
    declares_so (declared_in ode w.bones c.args.decl.now) own _ _ is (λ few.
    let made = made_as c.args.rest.classes c.args.decl.now c.in-Ok.made c.in-Ok.ensures.answers c.in-Ok.ensures.text w known c.language_has_sound_rules.ensures c.language_reads_well.ensures (good_classes ode w.bones well.good.bones) text (λ few. c.checked_classes_have_few_parts.ensures c.args.rest.classes own c.as_slice-known.ensures.checked c.in-Ok.ensures.checked few) own is few in
    c.in_ok-after-in-Ok.ensures.logs ode w own entries well rest made disk)

pub returns-in_ok-after-in-Ok-clause-grown : goal.returns-in_ok-after-in-Ok-clause-grown
returns-in_ok-after-in-Ok-clause-grown g c = c.bring_in.ensures.grown

pub returns-in-Err-Refused-clause-logs : goal.returns-in-Err-Refused-clause-logs
returns-in-Err-Refused-clause-logs g c = λ w entries well text rest disk.
    let known = classes_are g.H.Host.view g.K.Keep.holds g.K.Keep.live ode w c.args.rest c.args.host.now rest in
    let meant = compiled c.args.rest.classes c.args.decl.now in
    let stops : meant ≡ Err c.in-Err-Refused.why = subst (Stops meant) c.in-Err-Refused.field-0-is c.in-Err-Refused.ensures.answers in
    rw c.in-Err-Refused.field-0-is
    (refuses_so (declared_in ode w.bones c.args.decl.now) c.in-Err-Refused.why _ _ (declares_compiled w.bones c.args.rest.classes c.args.decl.now known ∙ stops) refl)
