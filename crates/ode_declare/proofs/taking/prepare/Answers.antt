use Rattle.std.proofs.Common.{rules, Err, refl, ◌≡◌, ◌∙◌, ◌<◌, ◌≤◌, ◌+◌, ◌++◌, ◌^◌, ap, length, subst, sym}
use Rattle.std.proofs.lemmas.Result.{err_from_is_err_and}
use Rattle.ode_declare.proofs.TakeLaws.{agree_behind, calm_ok, classes_are, damaged_as, keeper_kept, parts_with_class, rose_behind}
use Rattle.ode_declare.proofs.taking.prepare.Goals as goal
use Rattle.ode_schema.specs.Parts.{AreAligned, AreFit, Parts}
use Rattle.ode_host.proofs.Moments.{looks_joined}
use Rattle.ode_overlay.specs.After.{stands_after}
use Rattle.ode_overlay.specs.Layers.{Layer}
use Rattle.ode_transact.proofs.DamageLaws.{memory_undamaged}
use Rattle.ode_transact.specs.Resting.{resting_parts}
use Rattle.ode_transact.specs.declared.error.EngineError.TheVariants as engine
use Rattle.ode_types.specs.Checked.{IsChecked}
use Rattle.ode_value.specs.Limits.{name_limit}
use Rattle.ode_value.specs.Texts.{class_line, committed_line}
use Rattle.ode_value.specs.declared.class.Class.{Class}

pub with_class-requires : goal.with_class-requires
with_class-requires g c =
    let same = ap resting_parts c.put_back.ensures ∙ c.in_ok-ctx.ensures.parts in
    record { checked = subst (λ (p : Parts). IsChecked p.classes c.args.made.class) (sym same) c.requires.checked }

pub returns-clause-settles : goal.returns-clause-settles
returns-clause-settles g c = λ l w d is taken.
    let begins = c.in_ok-ctx.ensures.beginning l w is tt in
    let joined = c.in_ok-gathered.ensures.joined in
    let same = ap resting_parts c.put_back.ensures ∙ c.in_ok-ctx.ensures.parts in
    let parts = parts_with_class c.put_back.result c.args.rest c.in_ok-after.after c.args.made c.args.bytes same c.in_ok-after.ensures.is in
    let there = g.met.K.Keep.stands c.args.rest.keeper c.args.host.now is.entries is.records in
    let checked = subst (IsChecked c.args.rest.classes) (sym taken.class) c.requires.checked in
    let agrees = c.programs_take_classes.ensures.agrees (resting_parts c.args.rest) w.bones.classes d c.args.made.tables c.args.made.alphabets
    (classes_are g.H.Host.view g.K.Keep.holds g.K.Keep.live l w c.args.rest c.args.host.now is) c.as_slice-known.ensures.checked c.requires.fit c.requires.aligned checked taken.declared.compiled in
    let short : length d.class.name ≤ name_limit = subst (λ (k : Class). length k.name ≤ name_limit) (sym taken.class) (search rules) in (
      c.declared_classes_settle.ensures l is.entries w is.world d c.args.made.tables c.args.made.alphabets c.args.changes joined.more c.in_ok-gathered.gathered.batch _ (g.met.K.Keep.rising there.0 is.entries there.2) taken.declared short taken.rows
          (λ at q. joined.stands at q ∙ ap (λ (x : Layer). stands_after x at q) begins.overlay) joined.both
          (agree_behind _ d c.args.made.tables c.args.made.alphabets (resting_parts c.args.rest) (resting_parts c.in_ok-after.after) c.args.made.class _ is.tables taken.class parts agrees),
      c.in_ok-gathered.ensures.number ∙ c.in_ok-number.ensures.is l is.entries w is.world begins.records,
      c.in_ok-gathered.ensures.text ∙ ap (λ n. class_line c.args.made.class.name ++ committed_line n) (c.in_ok-number.ensures.is l is.entries w is.world begins.records)
          ∙ ap (λ (k : Class). class_line k.name ++ committed_line w.bones.transaction) (sym taken.class),
    )

pub returns-clause-holds : goal.returns-clause-holds
returns-clause-holds g c = λ l w is.
    let begins = c.in_ok-ctx.ensures.beginning l w is tt in
    keeper_kept (λ k. g.K.Keep.holds k (g.H.Host.view c.transaction_number.new.host) is.entries) c.put_back.result _ c.in_ok-after.after c.args.made c.args.bytes c.put_back.ensures c.in_ok-after.ensures.is
    (c.in_ok-number.ensures.holds is.entries begins.records)

pub returns-clause-parts : goal.returns-clause-parts
returns-clause-parts g c =
    let same = ap resting_parts c.put_back.ensures ∙ c.in_ok-ctx.ensures.parts in
    parts_with_class c.put_back.result c.args.rest c.in_ok-after.after c.args.made c.args.bytes same c.in_ok-after.ensures.is

pub returns-clause-fit : goal.returns-clause-fit
returns-clause-fit g c =
    let p = resting_parts c.args.rest in
    let m = c.args.made in
    let same = ap resting_parts c.put_back.ensures ∙ c.in_ok-ctx.ensures.parts in
    let parts = parts_with_class c.put_back.result c.args.rest c.in_ok-after.after m c.args.bytes same c.in_ok-after.ensures.is in
    let few : length p.tables + length m.tables < 2 ^ 32 = subst (λ (q : Parts). length q.tables + length m.tables < 2 ^ 32) same c.in_ok-after.ensures.few in
    let takes = c.programs_take_classes.ensures in (
      subst AreFit (sym parts) (takes.fit p m.class m.tables m.alphabets c.requires.fit c.requires.aligned c.requires.checked c.requires.compiled few),
      subst AreAligned (sym parts) (takes.aligned p m.class m.tables m.alphabets c.requires.aligned c.requires.compiled),
    )

pub returns-in_err-number-clause-looks : goal.returns-in_err-number-clause-looks
returns-in_err-number-clause-looks g c = looks_joined _ _ _ c.begin.ensures.looks c.transaction_number.ensures.looks

pub returns-in_err-number-clause-cause : goal.returns-in_err-number-clause-cause
returns-in_err-number-clause-cause g c =
    let p = err_from_is_err_and c.from_residual-in_err-number.result c.from_residual-in_err-number.ensures.1 in
    let same : c.from_residual-in_err-number.result ≡ Err c.in_err-number.field-0.0 = rw (p.1, p.2) refl in
    rose_behind c.transaction_number.result c.from_residual-in_err-number.result c.in_err-number.field-0.0 _ _ _ (calm_ok c.in_ok-ctx.ctx _ _ c.in_ok-ctx.ensures.cause) (search rules) same c.transaction_number.ensures.cause

pub returns-in_err-gathered-clause-looks : goal.returns-in_err-gathered-clause-looks
returns-in_err-gathered-clause-looks g c = looks_joined _ _ _ c.begin.ensures.looks c.transaction_number.ensures.looks

pub returns-in_err-after-clause-looks : goal.returns-in_err-after-clause-looks
returns-in_err-after-clause-looks g c = looks_joined _ _ _ c.begin.ensures.looks c.transaction_number.ensures.looks

pub returns-clause-looks : goal.returns-clause-looks
returns-clause-looks g c = looks_joined _ _ _ c.begin.ensures.looks c.transaction_number.ensures.looks

pub returns-in_err-ctx-clause-undamaged : goal.returns-in_err-ctx-clause-undamaged
returns-in_err-ctx-clause-undamaged g c =
    let p = err_from_is_err_and c.from_residual.result c.from_residual.ensures.1 in
    let same : c.from_residual.result ≡ Err c.in_err-ctx.field-0.0 = rw (p.1, p.2) refl in
    damaged_as c.begin.result c.from_residual.result c.in_err-ctx.field-0.0 _ _ (search rules) same c.begin.ensures.undamaged (λ damaged l w is left few. damaged l w is tt left)

pub returns-in_err-number-clause-undamaged : goal.returns-in_err-number-clause-undamaged
returns-in_err-number-clause-undamaged g c =
    let p = err_from_is_err_and c.from_residual-in_err-number.result c.from_residual-in_err-number.ensures.1 in
    let same : c.from_residual-in_err-number.result ≡ Err c.in_err-number.field-0.0 = rw (p.1, p.2) refl in
    damaged_as c.transaction_number.result c.from_residual-in_err-number.result c.in_err-number.field-0.0 _ _ (search rules) same c.transaction_number.ensures.undamaged (λ damaged l w is left few.
    damaged l is.entries w is.world (c.in_ok-ctx.ensures.beginning l w is tt).records)

pub returns-in_err-gathered-clause-undamaged : goal.returns-in_err-gathered-clause-undamaged
returns-in_err-gathered-clause-undamaged g c =
    let p = err_from_is_err_and c.from_residual-in_err-gathered.result c.from_residual-in_err-gathered.ensures.1 in
    let same : c.from_residual-in_err-gathered.result ≡ Err c.in_err-gathered.field-0.0 = rw (p.1, p.2) refl in
    damaged_as c.gather.result c.from_residual-in_err-gathered.result c.in_err-gathered.field-0.0 _ _ (search rules) same c.gather.ensures.undamaged (λ damaged l w is left few.
    damaged is.world.world.stored.world (c.in_ok-ctx.ensures.beginning l w is tt).overlay few)

pub returns-in_err-after-clause-undamaged : goal.returns-in_err-after-clause-undamaged
returns-in_err-after-clause-undamaged g c =
    let p = err_from_is_err_and c.from_residual-in_err-after.result c.from_residual-in_err-after.ensures.1 in
    let same : c.from_residual-in_err-after.result ≡ Err engine.Memory = rw (p.1, p.2) refl in
    memory_undamaged c.from_residual-in_err-after.result _ same
