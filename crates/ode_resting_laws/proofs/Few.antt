-- Classes that are read and accepted have few fields, and their triggers few parameters.
use Rattle.std.proofs.Common.{◌≡◌, ℕ, ◌<◌, ◌≤◌, ◌^◌, List, [], ◌∷◌, ◌++◌, map, length, Ok, subst, arith}
use Rattle.std.specs.List.{AllByRecursion}
use Rattle.std.proofs.lemmas.List.{map-append}
use Rattle.ode_accepted_laws.proofs.Lines.{kept_all}
use Rattle.ode_heap_laws.specs.Few.{HasFewParams, HasFewParts}
use Rattle.ode_language.specs.Languages.{ode, statement_of}
use Rattle.ode_opened_laws.specs.WorldBases.{class_of}
use Rattle.ode_types.specs.Checked.{AreCheckedBehind}
use Rattle.ode_types.specs.Limits.{field_limit}
use Rattle.ode_types.specs.Static.{check_grown}
use Rattle.ode_value.specs.Changing.{added_to}
use Rattle.ode_value.specs.GoodWorlds.{AreClasses}
use Rattle.ode_value.specs.Worlds.{Declared}
use Rattle.ode_value.specs.declared.change.Added.{Added}
use Rattle.ode_value.specs.declared.class.Class.{Class}
use Rattle.ode_value.specs.declared.statement.ClassDecl.{ClassDecl}
use Rattle.ode_value.specs.declared.statement.Statement.TheVariants as statement

-- what is read and accepted has few parameters
abbrev pub HaveFewRead : Type 0
HaveFewRead = (piece : List ℕ) (d : ClassDecl) (known : List Class) (added : List Added) (c : Class) → statement_of piece ≡ Ok (statement.Class d) → check_grown known added d ≡ Ok c → AllByRecursion HasFewParams c.triggers

are_checked : (added : List Added) (earlier ds : List Declared) → AreClasses ode added earlier ds → AreCheckedBehind (map class_of earlier) (map class_of ds)
are_checked added earlier [] are = tt
are_checked added earlier (d ∷ ds) are = (
  record { tree = d.tree; added = added_to d.class.number added; checks = are.0.checked },
  subst (λ (cs : List Class). AreCheckedBehind cs (map class_of ds)) (map-append class_of earlier (d ∷ [])) (are_checked added (earlier ++ d ∷ []) ds are.1),
)

few_enough : (n : ℕ) → n ≤ field_limit → n < 2 ^ 15
unfolding field_limit
few_enough n few = omega arith

module _ (read : HaveFewRead) where
  few_parts : (added : List Added) (earlier ds : List Declared) → AreClasses ode added earlier ds → AllByRecursion (λ (c : Class). length c.fields ≤ field_limit) (map class_of ds) → AllByRecursion HasFewParts ds
  few_parts added earlier [] are few = tt
  few_parts added earlier (d ∷ ds) are few = (
    record { fields = few_enough (length d.class.fields) few.0; params = read _ d.tree (map class_of earlier) (added_to d.class.number added) d.class are.0.text are.0.checked },
    few_parts added (earlier ++ d ∷ []) ds are.1 few.1,
  )

  pub are_few : (added : List Added) (ds : List Declared) → AreClasses ode added [] ds → AllByRecursion HasFewParts ds
  are_few added ds are = few_parts added [] ds are (kept_all (map class_of ds) (are_checked added [] ds are)).few
