use Rattle.std.proofs.Common.{◌≡◌, ℕ, List, length, true, Ok, ap, sym, ◌∙◌, subst}
use Rattle.std.specs.List.{AllByRecursion}
use Rattle.std.proofs.lemmas.Result.{err_from_is_err_and}
use Rattle.ode_value.specs.ClassLimits.{limits_triggers}
use Rattle.ode_value.specs.Lengths.{class_records}
use Rattle.ode_value.specs.Numbers.{has_numbers}
use Rattle.ode_value.specs.Tables.{Table}
use Rattle.ode_value.specs.Weights.{record_count}
use Rattle.ode_value.specs.declared.member.TriggerDecl.{TriggerDecl}
use Rattle.ode_types.specs.Static.{check_grown}
use Rattle.ode_compile.specs.Compiling.{AreCompiled, counted_sizes, tree_counts}
use Rattle.ode_compile.proofs.AnswerLaws.{checked-ok, class_compiled, records_stop}
use Rattle.ode_compile.proofs.NumberLaws.{numbers_kept}
use Rattle.ode_compile.proofs.TriggerLaws.{counts_level, records_are}
use Rattle.ode_compile.proofs.compiling.build_class.Goals as goal

pub compile_triggers-requires : goal.compile_triggers-requires
compile_triggers-requires c =
    let known = c.args.known.now in
    let added = c.args.added.now in
    let d = c.args.decl.now in
    subst (λ (ts : List TriggerDecl). AllByRecursion (λ (t : TriggerDecl). has_numbers t.event ≡ true) ts) (sym c.as_slice.ensures)
    (numbers_kept known added d c.in_ok-class.class (checked-ok (check_grown known added d) c.in_ok-class.class c.in_ok-class.ensures) c.requires.numbers)

pub few_records-requires : goal.few_records-requires
few_records-requires c =
    let class = c.in_ok-class.class in
    let tables = c.in_ok-tables.tables in
    let counts = c.in_ok-tables.counts in
    let trees : counts ≡ tree_counts class.triggers = c.in_ok-tables.ensures.counts ∙ ap tree_counts c.as_slice.ensures in
    let all : AreCompiled class.triggers tables c.in_ok-tables.alphabets =
    subst (λ (ts : List TriggerDecl). AreCompiled ts tables c.in_ok-tables.alphabets) c.as_slice.ensures c.in_ok-tables.ensures.compiled in
    let level = counts_level class.triggers tables counts c.in_ok-tables.alphabets all trees in
    ap (λ (ns : List ℕ). length ns) c.as_slice-3.ensures ∙ level ∙ ap (λ (ts : List Table). length ts) (sym c.as_slice-4.ensures)

pub returns-in_err-few_records-clause-answers : goal.returns-in_err-few_records-clause-answers
returns-in_err-few_records-clause-answers c =
    let class = c.in_ok-class.class in
    let d = c.args.decl.now in
    let text = c.as_slice-2.result.now in
    let tables = c.in_ok-tables.tables in
    let counts = c.in_ok-tables.counts in
    let trees : counts ≡ tree_counts class.triggers = c.in_ok-tables.ensures.counts ∙ ap tree_counts c.as_slice.ensures in
    let count = class_records (length text) (counted_sizes c.as_slice-3.result.now c.as_slice-4.result.now) in
    let within : limits_triggers class.triggers ≡ Ok tt = ap limits_triggers (sym c.as_slice.ensures) ∙ c.in_ok-tables.ensures.limits in
    let all : AreCompiled class.triggers tables c.in_ok-tables.alphabets =
    subst (λ (ts : List TriggerDecl). AreCompiled ts tables c.in_ok-tables.alphabets) c.as_slice.ensures c.in_ok-tables.ensures.compiled in
    let counted : count ≡ record_count (record { class = class; tree = d }) =
    ap (λ (ns : List ℕ). class_records (length text) (counted_sizes ns c.as_slice-4.result.now)) c.as_slice-3.ensures
    ∙ ap (λ (ts : List Table). class_records (length text) (counted_sizes counts ts)) c.as_slice-4.ensures
    ∙ records_are class d text tables counts c.in_ok-tables.alphabets (c.as_slice-2.ensures ∙ c.in_ok-text.ensures) trees all in
    let p = err_from_is_err_and c.from_residual-in_err-few_records.result c.from_residual-in_err-few_records.ensures.1 in
    rw (p.1, p.2) (records_stop c.args.known.now c.args.added.now d class count c.in_err-few_records.field-0.0 c.in_ok-class.ensures within counted c.in_err-few_records.ensures)

pub returns-clause-answers : goal.returns-clause-answers
returns-clause-answers c =
    let class = c.in_ok-class.class in
    let d = c.args.decl.now in
    let text = c.as_slice-2.result.now in
    let tables = c.in_ok-tables.tables in
    let counts = c.in_ok-tables.counts in
    let trees : counts ≡ tree_counts class.triggers = c.in_ok-tables.ensures.counts ∙ ap tree_counts c.as_slice.ensures in
    let count = class_records (length text) (counted_sizes c.as_slice-3.result.now c.as_slice-4.result.now) in
    let within : limits_triggers class.triggers ≡ Ok tt = ap limits_triggers (sym c.as_slice.ensures) ∙ c.in_ok-tables.ensures.limits in
    let all : AreCompiled class.triggers tables c.in_ok-tables.alphabets =
    subst (λ (ts : List TriggerDecl). AreCompiled ts tables c.in_ok-tables.alphabets) c.as_slice.ensures c.in_ok-tables.ensures.compiled in
    let counted : count ≡ record_count (record { class = class; tree = d }) =
    ap (λ (ns : List ℕ). class_records (length text) (counted_sizes ns c.as_slice-4.result.now)) c.as_slice-3.ensures
    ∙ ap (λ (ts : List Table). class_records (length text) (counted_sizes counts ts)) c.as_slice-4.ensures
    ∙ records_are class d text tables counts c.in_ok-tables.alphabets (c.as_slice-2.ensures ∙ c.in_ok-text.ensures) trees all in
    class_compiled c.args.known.now c.args.added.now d class count c.in_ok-class.ensures within counted c.in_ok-few_records.ensures
