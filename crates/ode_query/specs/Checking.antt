-- The static rules of a query, and its literals.
use Rattle.std.specs.Prelude.{ℕ, List, Option, Some, None, Ok}
use Rattle.ode_asksyn.specs.declared.query.Query.{Query}
use Rattle.ode_types.specs.Checks.{Check, ◌>>=◌, each}
use Rattle.ode_types.specs.Literals.{query_literals}
use Rattle.ode_types.specs.Variables.{shown_checked, test_checked, variables_of}
use Rattle.ode_value.specs.declared.class.Class.{Class}
use Rattle.ode_value.specs.declared.value.Ref.{Ref}

-- what may be left out
abbrev pub where_there : {R S : Type 0} → (R → Check S) → Option R → Check (Option S)
where_there check None = Ok None
where_there check (Some r) = do
  s ← check r
  Ok (Some s)

-- the query with slots in place of its names, or the first rule that it breaks, in the order of the text
unfoldable pub check_query : List Class → List (Ref × ℕ) → Query → Check Query
check_query classes literals q = do
  variables ← variables_of classes q.over
  test ← where_there (test_checked classes literals variables) q.test
  by ← each (shown_checked classes literals variables) q.by
  show ← each (shown_checked classes literals variables) q.show
  Ok (record q { test = test; by = by; show = show })

-- its reference literals, in the order of the text
abbrev pub query_refs : Query → List Ref
query_refs q = query_literals q.test q.by q.show
