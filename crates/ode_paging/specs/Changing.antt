-- An index whose keys are made room for first.
use Rattle.std.specs.Prelude.{ℕ, List, [], ◌∷◌, Option, None, IsSome}
use Rattle.std.specs.BTreeMap.{is_at}
use Rattle.std.specs.List.{AllByRecursion}
use Rattle.std.specs.Map.{lookup}
use Rattle.std.specs.Option.{IfSome}
use Rattle.ode_value.specs.declared.key.Key.{Key}
use Rattle.ode_value.specs.Keys.{key_cmp}
use Rattle.ode_paging.specs.Indexing.{Leads}
use Rattle.ode_paging.specs.Making.{Moves}
use Rattle.ode_paging.specs.Replacing.{pointed}

-- a key that is to lead to a page leads to one
abbrev pub IsPresent : Leads → Key → Option ℕ → Type 0
IsPresent leads k page = IfSome page (λ _. IsSome (lookup (is_at (key_cmp k)) leads))

-- and each of those that move does
abbrev pub ArePresent : Moves → Leads → Type 0
ArePresent moves leads = AllByRecursion (λ m. IsPresent leads m.0 m.1) moves

-- these keys lead nowhere from then on
abbrev pub forgotten : List Key → Leads → Leads
forgotten [] leads = leads
forgotten (k ∷ ks) leads = forgotten ks (pointed leads k None)
