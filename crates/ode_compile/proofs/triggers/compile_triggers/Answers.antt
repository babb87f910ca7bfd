use Rattle.std.proofs.Common.{◌≡◌, ℕ, ◌+◌, List, [], ◌∷◌, ◌++◌, drop, take, ap, sym, ◌∙◌, subst}
use Rattle.std.proofs.lemmas.List.{drop_more, map-append, take_more}
use Rattle.std.proofs.lemmas.Result.{err_from_is_err_and}
use Rattle.ode_value.specs.ClassLimits.{limits_trigger, limits_triggers}
use Rattle.ode_value.specs.Symbols.{Alphabet}
use Rattle.ode_value.specs.Tables.{Table}
use Rattle.ode_value.specs.TreeCount.{tree_count}
use Rattle.ode_value.specs.declared.member.TriggerDecl.{TriggerDecl}
use Rattle.ode_compile.specs.Answers.{Stops}
use Rattle.ode_compile.specs.Compiling.{AreCompiled, tree_counts}
use Rattle.ode_compile.proofs.AnswerLaws.{stops_through}
use Rattle.ode_compile.proofs.TriggerLaws.{compiled_more, limits_next}
use Rattle.ode_compile.proofs.triggers.compile_triggers.Goals as goal

pub returns-in_err-table-clause-limits : goal.returns-in_err-table-clause-limits
returns-in_err-table-clause-limits c =
    let ts = c.args.triggers.now in
    let i = c.loop-trigger.trigger-index in
    let t = c.trigger-item.result in
    let split : drop i ts ≡ t ∷ drop (i + 1) ts = drop_more ts i t c.loop-trigger-test.true ∙ ap (λ (u : TriggerDecl). u ∷ drop (i + 1) ts) (sym c.trigger-item.is) in
    let p = err_from_is_err_and c.from_residual.result c.from_residual.ensures.1 in
    rw (p.1, p.2) (subst (λ m. Stops m c.in_err-table.field-0.0) (ap limits_triggers (sym split) ∙ c.loop-trigger.invariant.limits)
    (stops_through (limits_trigger t) (λ _. limits_triggers (drop (i + 1) ts)) c.in_err-table.field-0.0 c.in_err-table.ensures.limits))

pub loop-trigger-preserved : goal.loop-trigger-preserved
loop-trigger-preserved c =
    let ts = c.args.triggers.now in
    let i = c.loop-trigger.trigger-index in
    let t = c.trigger-item.result in
    let inside = c.loop-trigger-test.true in
    let split : drop i ts ≡ t ∷ drop (i + 1) ts = drop_more ts i t inside ∙ ap (λ (u : TriggerDecl). u ∷ drop (i + 1) ts) (sym c.trigger-item.is) in
    let taken : take (i + 1) ts ≡ take i ts ++ t ∷ [] = take_more ts i t inside ∙ ap (λ (u : TriggerDecl). take i ts ++ u ∷ []) (sym c.trigger-item.is) in
    let tables = c.loop-trigger.tables ++ c.in_ok-table.table ∷ [] in
    record {
      limits = sym (limits_next t (drop (i + 1) ts) c.in_ok-table.ensures.limits) ∙ ap limits_triggers (sym split) ∙ c.loop-trigger.invariant.limits;
      compiled =
          subst (λ (us : List TriggerDecl). AreCompiled us c.push.new.self c.push-in-loop-trigger.new.self) (sym taken)
          (subst (λ (xs : List Table). AreCompiled (take i ts ++ t ∷ []) xs c.push-in-loop-trigger.new.self) (sym c.in_ok-push.ensures.ok)
          (subst (λ (rows : List Alphabet). AreCompiled (take i ts ++ t ∷ []) tables rows) (sym c.in_ok-push-2.ensures.ok)
          (compiled_more (take i ts) c.loop-trigger.tables c.loop-trigger.alphabets t c.in_ok-table.table c.in_ok-table.alphabet c.loop-trigger.invariant.compiled c.in_ok-table.ensures.compiled)));
      counts =
          c.in_ok-push-3.ensures.ok
          ∙ ap (λ (ns : List ℕ). ns ++ c.in_ok-table.count ∷ []) c.loop-trigger.invariant.counts
          ∙ ap (λ n. tree_counts (take i ts) ++ n ∷ []) c.in_ok-table.ensures.count
          ∙ sym (map-append (λ (u : TriggerDecl). tree_count u.event) (take i ts) (t ∷ []))
          ∙ ap tree_counts (sym taken);
    }
