-- How a change of a class settles.
use Rattle.std.proofs.Common.{◌≡◌, ◌≤◌, ◌<◌, ℕ, ◌+◌, Bool, true, false, cond, List, [], ◌∷◌, ◌++◌, map, length, refl, ap, ◌∙◌, arith, length-append}
use Rattle.std.specs.Prelude.{codes, nat_le}
use Rattle.std.specs.List.{filter, sum_by}
use Rattle.std.proofs.lemmas.Bool.Decides.{nat_tests}
use Rattle.ode_declared_laws.proofs.Settling.{all_there}
use Rattle.ode_laws.proofs.WeightLaws.{kept_lighter}
use Rattle.ode_machine.specs.Works.{changes_class}
use Rattle.ode_value.specs.Acts.{Aborted, Done, Outcome, ◌>>◌, does, go_on, needs, turns, with_line}
use Rattle.ode_value.specs.Changing.{changed_bones, changed_world}
use Rattle.ode_value.specs.Completing.{completes, goes_round, tests_all, weighs}
use Rattle.ode_value.specs.GoodWorlds.{IsGood}
use Rattle.ode_value.specs.Keeping.{is_there, kept_bones, kept_object}
use Rattle.ode_value.specs.Language.{Language, ListTx, ListWorld}
use Rattle.ode_value.specs.Lengths.{counters_length}
use Rattle.ode_value.specs.Limits.{budget_limit, cascade_limit, name_limit, output_limit, weight_limit}
use Rattle.ode_value.specs.Objects.{Histories, Starts}
use Rattle.ode_value.specs.Pasts.{lists}
use Rattle.ode_value.specs.Settling.{Settled, abort, commit, posted, settle, transaction}
use Rattle.ode_value.specs.Texts.{changed_line}
use Rattle.ode_value.specs.Transactions.{Script, begun}
use Rattle.ode_value.specs.Weights.{added_weight, class_weight, object_weight, weight}
use Rattle.ode_value.specs.Worlds.{Declared, Object}
use Rattle.ode_value.specs.declared.change.Change.{Change}
use Rattle.ode_value.specs.declared.reason.Reason.{Reason}
use Rattle.ode_value.specs.declared.reason.Reason.TheVariants.{Output, Space}

-- done, or aborted, by a test
abbrev tested : Reason → Bool → ListTx → Outcome Histories Starts (Unit {0})
tested reason t x = cond t (Done tt x) (Aborted reason x)

test_at_most : (m n : ℕ) → m ≤ n → nat_le m n ≡ true
test_at_most m n less = grind (arith, nat_tests)

test_above : (m n : ℕ) → n < m → nat_le m n ≡ false
test_above m n more = grind (arith, nat_tests)

module _ (w : ListWorld) (c : Change) (classes : List Declared) where
  abbrev line : List ℕ
  line = changed_line c.class

  line_short : length c.class ≤ name_limit → length line ≤ output_limit
  unfolding output_limit
  line_short short =
      let one = length-append (codes "changed ") c.class in
      let two = length-append (codes "changed " ++ c.class) (10 ∷ []) in
      omega (arith, short, one, two)

  abbrev printed : ListTx
  printed = with_line line (begun Script w)

  abbrev turned_tx : ListTx
  turned_tx = record printed { now = changed_world lists classes c w }

  abbrev fits : ListTx → Bool
  fits x = nat_le (weight (changed_bones x.now.bones c classes)) weight_limit

  -- its line has room, so that its weight decides
  abbrev weighed : Bool → Settled Histories Starts
  weighed t = settle lists (go_on (go_on (tested Space t printed) (λ _. turns (changed_world lists classes c))) (λ _. completes lists))

  abbrev roomed : Bool → Settled Histories Starts
  roomed t = settle lists
      (go_on (go_on (go_on (tested Output t (begun Script w)) (λ _. does (with_line line))) (λ _. needs Space fits >> turns (changed_world lists classes c)))
      (λ _. completes lists))

  is_weighed : length c.class ≤ name_limit → transaction lists Script (changes_class lists classes c) w ≡ weighed (nat_le (weight (changed_bones w.bones c classes)) weight_limit)
  unfolding transaction
  is_weighed short = ap roomed (test_at_most (length (begun Script w).text + length line) output_limit (let room = line_short short in omega (arith, room)))

  -- nothing was touched and nothing waits
  completes_turned : completes lists turned_tx ≡ tested Space (nat_le (weight (kept_bones (changed_bones w.bones c classes))) weight_limit) turned_tx
  unfolding completes goes_round tests_all weighs budget_limit cascade_limit
  completes_turned = refl

  same_commit : commit lists turned_tx ≡ commit lists (with_line line (begun Script (changed_world lists classes c w)))
  unfolding posted
  same_commit = refl

  pub change_settles_light : length c.class ≤ name_limit → weight (changed_bones w.bones c classes) ≤ weight_limit
      → transaction lists Script (changes_class lists classes c) w ≡ commit lists (with_line line (begun Script (changed_world lists classes c w)))
  change_settles_light short light =
      let less = kept_lighter (changed_bones w.bones c classes) in
      is_weighed short
      ∙ ap weighed (test_at_most (weight (changed_bones w.bones c classes)) weight_limit light)
      ∙ ap (settle lists) (completes_turned
      ∙ ap (λ (t : Bool). tested Space t turned_tx) (test_at_most (weight (kept_bones (changed_bones w.bones c classes))) weight_limit (omega (arith, less, light))))
      ∙ same_commit

  pub change_settles_heavy : length c.class ≤ name_limit → weight_limit < weight (changed_bones w.bones c classes)
      → transaction lists Script (changes_class lists classes c) w ≡ abort lists Space (with_line line (begun Script w))
  change_settles_heavy short heavy = is_weighed short ∙ ap weighed (test_above (weight (changed_bones w.bones c classes)) weight_limit heavy)

-- what a commit leaves of a good world that prints a line weighs as much
module _ (l : Language) (v : ListWorld) (good : IsGood l v) (text : List ℕ) where
  abbrev weighing : List Object → ℕ
  weighing os =
      counters_length (length v.bones.added) + sum_by class_weight v.bones.classes + sum_by (object_weight v.bones.classes) os + sum_by added_weight v.bones.added

  pub good_weighs : weight (commit lists (with_line text (begun Script v))).0.bones ≡ weight v.bones
  unfolding weight posted
  good_weighs =
      let there = all_there v.bones v.bones.objects good.bones.objects in
      ap (λ (os : List Object). weighing (map kept_object (filter is_there os))) there ∙ ap weighing there
