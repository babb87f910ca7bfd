-- What is answered of tables fits the classes, and what was built of them.
use Rattle.std.proofs.Common.{◌≡◌, ◌<◌, ◌^◌, ℕ, List, length, Result, Ok, Err, sym, ap, subst, ◌∙◌}
use Rattle.std.specs.Prelude.{IfOk}
use Rattle.std.proofs.lemmas.List.{length-map}
use Rattle.ode_class_records.specs.Weighing.{spare_beside}
use Rattle.ode_compile.proofs.TriggerLaws.{counts_level}
use Rattle.ode_opening.specs.Building.{AreBuilt, triggers_of}
use Rattle.ode_opening.specs.declared.accepted.Accepted.{Accepted}
use Rattle.ode_opening_tables.proofs.BuiltLaws.{alphabets_are, as_many, spare_is}
use Rattle.ode_opening_tables.proofs.Placing.{are_fit, are_numbered}
use Rattle.ode_opening_tables.specs.Answers.{AreBeside, parts_of}
use Rattle.ode_opening_tables.specs.Tables.{places_from, spare_in}
use Rattle.ode_passes.specs.declared.error.OpenError.{OpenError}
use Rattle.ode_schema.specs.Parts.{AreFit, trigger_count}
use Rattle.ode_value.specs.Symbols.{alphabet}
use Rattle.ode_types.specs.Checked.{AreChecked}
use Rattle.ode_value.specs.Tables.{Table}
use Rattle.ode_value.specs.declared.member.TriggerDecl.{TriggerDecl}

abbrev Answer : Type 0
Answer = Result (List Table × List ℕ) OpenError

module _ (a : Accepted) (built : AreBuilt a) where
  pub all_fit : AreChecked a.classes → length a.tables < 2 ^ 32 → (r : Answer) → IfOk r (λ x. x.1 ≡ places_from 0 a.classes) → IfOk r (λ x. AreBeside a.tables x.0)
      → IfOk r (λ x. length x.0 ≡ length (triggers_of a.classes)) → IfOk r (λ x. AreFit (parts_of a x))
  all_fit checked few (Ok x) maps beside count =
      let long = count ∙ sym (as_many (triggers_of a.classes) a.tables a.alphabets built.compiled) in
      subst (λ (ns : List ℕ). AreFit (parts_of a (x.0, ns))) (sym maps)
      (are_fit a.classes (are_numbered a.classes checked) a.tables x.0 a.alphabets built.compiled beside long few)
  all_fit checked few (Err e) maps beside count = tt

  pub all_spared : (r : Answer) → IfOk r (λ x. AreBeside a.tables x.0) → IfOk r (λ x. spare_beside a.counts x.0 ≡ spare_in (triggers_of a.classes) x.0)
  all_spared (Ok x) beside =
      ap (λ (ns : List ℕ). spare_beside ns x.0) built.counts ∙ spare_is (triggers_of a.classes) a.tables a.alphabets x.0 built.compiled beside
  all_spared (Err e) beside = tt

  -- as many counts as tables
  pub few_counts : length a.tables < 2 ^ 32 → length a.counts < 2 ^ 32
  few_counts few = subst (λ (n : ℕ). n < 2 ^ 32) (sym (counts_level (triggers_of a.classes) a.tables a.counts a.alphabets built.compiled built.counts)) few

  pub all_aligned : (r : Answer) → IfOk r (λ x. length x.0 ≡ length (triggers_of a.classes))
      → IfOk r (λ x. (length x.0 ≡ trigger_count a.classes) × (length a.alphabets ≡ length x.0))
  all_aligned (Ok x) count =
      let own = alphabets_are (triggers_of a.classes) a.tables a.alphabets built.compiled in
      (count, ap length own ∙ length-map (triggers_of a.classes) (λ (t : TriggerDecl). alphabet t.event) ∙ sym count)
  all_aligned (Err e) count = tt
