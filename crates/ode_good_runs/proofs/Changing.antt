-- A change of a class leaves a good world.
use Rattle.std.proofs.Common.{◌≡◌, ◌≤◌, ◌<◌, ◌+◌, ℕ, Bool, true, false, cond, List, length, refl, sym, ap, ◌∙◌, subst, arith}
use Rattle.std.specs.Prelude.{nat_le}
use Rattle.std.proofs.lemmas.Bool.Decides.{nat_tests}
use Rattle.ode_value.specs.declared.change.Change.{Change}
use Rattle.ode_value.specs.declared.reason.Reason.TheVariants.{Output, Space}
use Rattle.ode_value.specs.Acts.{Done, Aborted, ◌>>◌, go_on, does, needs, turns, with_line}
use Rattle.ode_value.specs.Changing.{changed_bones, changed_world}
use Rattle.ode_value.specs.Completing.{completes, goes_round, tests_all, weighs}
use Rattle.ode_value.specs.Keeping.{kept_bones}
use Rattle.ode_value.specs.Language.{Language, ListTx, ListWorld}
use Rattle.ode_value.specs.Limits.{budget_limit, cascade_limit, output_limit, transaction_limit, weight_limit}
use Rattle.ode_value.specs.Pasts.{lists}
use Rattle.ode_value.specs.Settling.{commit, posted, settle, transaction}
use Rattle.ode_value.specs.Texts.{changed_line}
use Rattle.ode_value.specs.Transactions.{Script, begun}
use Rattle.ode_value.specs.Weights.{weight}
use Rattle.ode_value.specs.Worlds.{Declared}
use Rattle.ode_machine.specs.Works.{changes_class}
use Rattle.ode_laws.proofs.WeightLaws.{kept_lighter}
use Rattle.ode_good_laws.specs.Well.{IsWell}
use Rattle.ode_good_laws.proofs.GoodAgain.{HaveClasses, good_classes}
use Rattle.ode_good_runs.proofs.Going.{IsFirst, begun_going, line_going, settles_well, well_first}

at_most : (m n : ℕ) → nat_le m n ≡ true → m ≤ n
at_most m n e = grind (arith, nat_tests)

test_at_most : (m n : ℕ) → m ≤ n → nat_le m n ≡ true
test_at_most m n less = grind (arith, nat_tests)

module _ (l : Language) (w : ListWorld) (h : IsWell l w) (left : w.bones.transaction < transaction_limit) (classes : List Declared) (c : Change)
    (good : weight (changed_bones w.bones c classes) ≤ weight_limit → IsWell l (changed_world lists classes c w)) where
  -- the world with the fields, and the transaction that has added them
  abbrev with_fields : ListWorld
  with_fields = changed_world lists classes c w

  abbrev line : List ℕ
  line = changed_line c.class

  abbrev changed : ListTx
  changed = record (with_line line (begun Script w)) { now = with_fields }

  old : IsFirst w
  old = well_first l w h

  old_classes : HaveClasses l w.bones.classes w.bones.added
  old_classes = good_classes l w.bones h.good.bones

  -- nothing was touched and nothing waits
  completes_changed : completes lists changed ≡ cond (nat_le (weight (kept_bones with_fields.bones)) weight_limit) (Done tt changed) (Aborted Space changed)
  unfolding completes goes_round tests_all weighs budget_limit cascade_limit
  completes_changed = refl

  same_commit : (commit lists changed).0 ≡ (commit lists (with_line line (begun Script with_fields))).0
  unfolding posted
  same_commit = refl

  -- what is left where there is room for the line, and the world isn't too heavy
  light_well : nat_le (length (begun Script w).text + length line) output_limit ≡ true → IsWell l with_fields → IsWell l (settle lists (completes lists changed)).0
  light_well fits well =
      let first = well_first l with_fields well in
      let less : weight (kept_bones with_fields.bones) ≤ weight_limit = omega (arith, kept_lighter with_fields.bones, well.good.bones.light) in
      let test : nat_le (weight (kept_bones with_fields.bones)) weight_limit ≡ true = test_at_most (weight (kept_bones with_fields.bones)) weight_limit less in
      subst (λ p. IsWell l (settle lists p).0) (sym (completes_changed ∙ ap (λ t. cond t (Done tt changed) (Aborted Space changed)) test))
      (subst (IsWell l) (sym same_commit)
      (settles_well with_fields first l (good_classes l with_fields.bones well.good.bones) left h.good.bones.clock (Done tt (with_line line (begun Script with_fields)))
      (line_going with_fields first (begun Script with_fields) (begun_going with_fields first) line fits) less))

  by_weight : nat_le (length (begun Script w).text + length line) output_limit ≡ true → (t : Bool) → nat_le (weight (changed_bones w.bones c classes)) weight_limit ≡ t
      → IsWell l (settle lists (go_on (go_on (needs Space (λ (x : ListTx). t) (with_line line (begun Script w))) (λ _. turns (changed_world lists classes c))) (λ _. completes lists))).0
  by_weight fits true light = light_well fits (good (at_most (weight (changed_bones w.bones c classes)) weight_limit light))
  by_weight fits false light =
      settles_well w old l old_classes left h.good.bones.clock (Aborted Space (with_line line (begun Script w))) (line_going w old (begun Script w) (begun_going w old) line fits) h.good.bones.light

  by_room : (t : Bool) → nat_le (length (begun Script w).text + length line) output_limit ≡ t
      → IsWell l (settle lists (go_on (go_on (go_on (needs Output (λ (x : ListTx). t) (begun Script w)) (λ _. does (with_line line)))
      (λ _. needs Space (λ (x : ListTx). nat_le (weight (changed_bones x.now.bones c classes)) weight_limit) >> turns (changed_world lists classes c))) (λ _. completes lists))).0
  by_room true fits = by_weight fits (nat_le (weight (changed_bones w.bones c classes)) weight_limit) refl
  by_room false fits = settles_well w old l old_classes left h.good.bones.clock (Aborted Output (begun Script w)) (begun_going w old) h.good.bones.light

  pub change_well : IsWell l (transaction lists Script (changes_class lists classes c) w).0
  unfolding transaction
  change_well = by_room (nat_le (length (begun Script w).text + length line) output_limit) refl
