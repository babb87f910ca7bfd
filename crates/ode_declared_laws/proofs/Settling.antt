-- How the declaration of a class settles.
use Rattle.std.proofs.Common.{◌≡◌, ◌≤◌, ◌<◌, ℕ, ◌+◌, Bool, true, false, cond, List, [], ◌∷◌, ◌++◌, map, length, refl, ap, ◌∙◌, arith, length-append}
use Rattle.std.specs.Prelude.{codes, nat_le}
use Rattle.std.specs.List.{AllByRecursion, filter, sum_by}
use Rattle.std.proofs.lemmas.Bool.Decides.{nat_tests}
use Rattle.ode_class_laws.specs.Declaring.{bones_with, world_with}
use Rattle.ode_machine.specs.Works.{declares}
use Rattle.ode_run_laws.proofs.AlikeClasses.{completes_weighs, declared, more_classes, printable}
use Rattle.ode_value.specs.Acts.{Aborted, Done, does, go_on, with_line}
use Rattle.ode_value.specs.Completing.{completes}
use Rattle.ode_value.specs.GoodWorlds.{IsActivation, IsGood, IsObject}
use Rattle.ode_value.specs.Keeping.{is_active, is_there, kept_bones, kept_object}
use Rattle.ode_value.specs.Language.{Language, ListWorld}
use Rattle.ode_value.specs.Lengths.{counters_length}
use Rattle.ode_value.specs.Limits.{name_limit, output_limit, weight_limit}
use Rattle.ode_value.specs.Objects.{Activation, Histories, Starts}
use Rattle.ode_value.specs.Pasts.{lists}
use Rattle.ode_value.specs.Settling.{Settled, abort, commit, posted, settle, transaction}
use Rattle.ode_value.specs.Texts.{class_line}
use Rattle.ode_value.specs.Transactions.{Script, begun}
use Rattle.ode_value.specs.Weights.{added_weight, class_weight, object_weight, weight}
use Rattle.ode_value.specs.Worlds.{Bones, Declared, Object}
use Rattle.ode_value.specs.declared.reason.Reason.TheVariants.{Space}

-- ---- nothing of a good world ends in a settling

all_active : (b : Bones) (class : ℕ) (more : List Activation) → AllByRecursion (IsActivation b class) more → filter is_active more ≡ more
all_active b class [] all = refl
all_active b class (a ∷ more) all =
    ap (λ (t : Bool). cond t (a ∷ filter is_active more) (filter is_active more)) all.0.on ∙ ap (λ (rest : List Activation). a ∷ rest) (all_active b class more all.1)

pub all_there : (b : Bones) (os : List Object) → AllByRecursion (IsObject b) os → map kept_object (filter is_there os) ≡ os
all_there b [] all = refl
all_there b (o ∷ os) all =
    ap (λ (t : Bool). map kept_object (cond t (o ∷ filter is_there os) (filter is_there os))) all.0.live
    ∙ ap (λ (kept : List Activation). record o { activations = kept } ∷ map kept_object (filter is_there os)) (all_active b o.class o.activations all.0.activations)
    ∙ ap (λ (rest : List Object). o ∷ rest) (all_there b os all.1)

module _ (l : Language) (w : ListWorld) (c : Declared) (good : IsGood l w) where
  pub all_kept : weight (kept_bones (bones_with c w.bones)) ≡ weight (bones_with c w.bones)
  all_kept = ap (λ (os : List Object). weight (record w.bones { classes = w.bones.classes ++ c ∷ []; objects = os })) (all_there w.bones w.bones.objects good.bones.objects)

  abbrev line : List ℕ
  line = class_line c.class.name

  line_short : length c.class.name ≤ name_limit → length line ≤ output_limit
  unfolding output_limit
  line_short short =
      let one = length-append (codes "class ") c.class.name in
      let two = length-append (codes "class " ++ c.class.name) (10 ∷ []) in
      omega (arith, short, one, two)

  test_at_most : (m n : ℕ) → m ≤ n → nat_le m n ≡ true
  test_at_most m n less = grind (arith, nat_tests)

  test_above : (m n : ℕ) → n < m → nat_le m n ≡ false
  test_above m n more = grind (arith, nat_tests)

  -- its line has room, so that its weight decides
  abbrev weighed : Bool → Settled Histories Starts
  weighed t = settle lists (cond t (Done tt (with_line line (declared c w))) (Aborted Space (with_line line (declared c w))))

  is_weighed : length c.class.name ≤ name_limit → transaction lists Script (declares c) w ≡ weighed (nat_le (weight (kept_bones (more_classes c w.bones))) weight_limit)
  unfolding transaction
  is_weighed short =
      ap (λ (t : Bool). settle lists (go_on (go_on (printable t (declared c w)) (λ _. does (with_line line))) (λ _. completes lists)))
      (test_at_most (length (declared c w).text + length line) output_limit (let room = line_short short in omega (arith, room)))
      ∙ ap (settle lists) (completes_weighs lists c line w)

  same_commit : commit lists (with_line line (declared c w)) ≡ commit lists (with_line line (begun Script (world_with c w)))
  unfolding posted
  same_commit = refl

  same_abort : abort lists Space (with_line line (declared c w)) ≡ abort lists Space (with_line line (begun Script w))
  unfolding posted
  same_abort = refl

  -- the weight with the class, by the objects
  abbrev weighing : List Object → ℕ
  weighing os =
      counters_length (length w.bones.added) + sum_by class_weight (w.bones.classes ++ c ∷ []) + sum_by (object_weight (w.bones.classes ++ c ∷ [])) os
      + sum_by added_weight w.bones.added

  -- what a commit leaves weighs as much
  pub left_weighs : weight (commit lists (with_line line (begun Script (world_with c w)))).0.bones ≡ weight (bones_with c w.bones)
  unfolding weight posted
  left_weighs =
      let there = all_there w.bones w.bones.objects good.bones.objects in
      ap (λ (os : List Object). weighing (map kept_object (filter is_there os))) there ∙ ap weighing there

  pub settles_light : length c.class.name ≤ name_limit → weight (bones_with c w.bones) ≤ weight_limit → transaction lists Script (declares c) w ≡ commit lists (with_line line (begun Script (world_with c w)))
  settles_light short light =
      is_weighed short ∙ ap weighed (test_at_most (weight (kept_bones (more_classes c w.bones))) weight_limit (let same = all_kept in omega (arith, same, light))) ∙ same_commit

  pub settles_heavy : length c.class.name ≤ name_limit → weight_limit < weight (bones_with c w.bones) → transaction lists Script (declares c) w ≡ abort lists Space (with_line line (begun Script w))
  settles_heavy short heavy =
      is_weighed short ∙ ap weighed (test_above (weight (kept_bones (more_classes c w.bones))) weight_limit (let same = all_kept in omega (arith, same, heavy))) ∙ same_abort
