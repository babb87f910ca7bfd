use Rattle.std.proofs.Common.{◌+◌, ◌++◌, [], ◌∷◌, ℕ, List, length, take, drop, Err, ⊎_elim, sym, ap, subst, ◌∙◌, arith, length-append}
use Rattle.std.proofs.lemmas.Result.{err_from_is_err_and}
use Rattle.ode_host.proofs.Moments.{looks_joined}
use Rattle.ode_opening.specs.Building.{triggers_of}
use Rattle.ode_value.specs.Classes.{Trigger, own_triggers}
use Rattle.ode_opening_tables.proofs.Gathering.{built_own, decls_so_far, more_behind, no_more, places_so_far, reads_no_more, tells_none, triggers_so_far, triggers_split}
use Rattle.ode_opening_tables.specs.Answers.{AreBehind, ReadsTo}
use Rattle.ode_opening_tables.specs.Tables.{all_triggers, places_from}
use Rattle.ode_opening_tables.proofs.tables.read_all.Goals as goal

pub overflow_cast-len : goal.overflow_cast-len
overflow_cast-len g c = omega (arith, c.len.ensures, c.requires.small, no_more c.args.built.now c.loop-class.tables c.loop-class.invariant.beside)

pub read_own-requires-clause-built : goal.read_own-requires-clause-built
read_own-requires-clause-built g c =
    built_own c.args.classes.now c.loop-class.class-index c.class-item.result c.loop-class-test.true c.class-item.is c.args.built.now (length c.loop-class.tables) c.loop-class.invariant.count
    c.requires.built

pub returns-in_err-read_own-clause-meant : goal.returns-in_err-read_own-clause-meant
returns-in_err-read_own-clause-meant g c = λ entries holds.
    let p = err_from_is_err_and c.from_residual-in_err-read_own.result c.from_residual-in_err-read_own.ensures.1 in
    let classes = c.args.classes.now in
    let i = c.loop-class.class-index in
    let own = own_triggers c.class-item.result in
    let lacks = c.in_err-read_own.ensures.meant entries (c.loop-class.invariant.holds entries holds) in
    let all = reads_no_more entries (all_triggers (take i classes)) own (all_triggers (drop (i + 1) classes)) [] c.loop-class.tables c.read_own.new.tables c.in_err-read_own.field-0.0
    (c.loop-class.invariant.read entries holds) lacks in
    rw (p.1, p.2)
    (tells_none entries (all_triggers classes) [] c.read_own.new.tables c.in_err-read_own.field-0.0
    (subst (λ (ts : List Trigger). ReadsTo entries ts [] c.read_own.new.tables (Err c.in_err-read_own.field-0.0))
    (sym (triggers_split classes i c.class-item.result c.loop-class-test.true c.class-item.is)) all))

pub loop-class-preserved : goal.loop-class-preserved
loop-class-preserved g c =
    let classes = c.args.classes.now in
    let i = c.loop-class.class-index in
    let class = c.class-item.result in
    let inside = c.loop-class-test.true in
    let invariant = c.loop-class.invariant in
    record {
      live = c.in_ok-read_own.ensures.usable;
      looks = looks_joined _ _ _ invariant.looks c.in_ok-read_own.ensures.looks;
      faults = ⊎_elim (λ err. cc (err)) (λ same. same ∙ invariant.faults) c.in_ok-read_own.ensures.cause.calm;
      holds = λ entries holds. c.in_ok-read_own.ensures.holds entries (invariant.holds entries holds);
      count =
          omega (arith, c.in_ok-read_own.ensures.count, invariant.count, ap length (decls_so_far classes i class inside c.class-item.is), length-append (triggers_of (take i classes)) class.triggers);
      beside = c.in_ok-read_own.ensures.beside invariant.beside;
      maps =
          c.in_ok-push.ensures.ok
          ∙ ap (λ (xs : List ℕ). xs ++ c.len.result ∷ []) invariant.maps
          ∙ ap (λ (n : ℕ). places_from 0 (take i classes) ++ n ∷ []) (c.len.ensures ∙ invariant.count)
          ∙ sym (places_so_far classes i class inside c.class-item.is);
      read = λ entries holds.
          subst (λ (ts : List Trigger). AreBehind entries ts [] c.read_own.new.tables) (sym (triggers_so_far classes i class inside c.class-item.is))
          (more_behind entries (all_triggers (take i classes)) (own_triggers class) [] c.loop-class.tables c.read_own.new.tables (invariant.read entries holds)
          (c.in_ok-read_own.ensures.meant entries (invariant.holds entries holds)));
    }
