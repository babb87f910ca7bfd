-- A declaration, compiled: its checked class within the limits, and a table and an alphabet for each trigger.
use Rattle.std.specs.Prelude.{◌≡◌, ℕ, ◌≤◌, map, min, nat_lt, true, List, [], ◌∷◌}
use Rattle.std.specs.List.{AllByRecursion}
use Rattle.ode_value.specs.Answers.{Answer, ◌>>=◌, checks, refuses}
use Rattle.ode_value.specs.ClassLimits.{limits_class}
use Rattle.ode_value.specs.Limits.{class_limit, counted_symbols, state_limit, symbol_limit}
use Rattle.ode_value.specs.Numbers.{has_numbers}
use Rattle.ode_value.specs.Symbols.{Alphabet, symbol_count, alphabet}
use Rattle.ode_value.specs.Tables.{Means, Table}
use Rattle.ode_value.specs.TreeCount.{tree_count}
use Rattle.ode_value.specs.Worlds.{Declared}
use Rattle.ode_value.specs.declared.change.Added.{Added}
use Rattle.ode_value.specs.declared.class.Class.{Class}
use Rattle.ode_value.specs.declared.member.TriggerDecl.{TriggerDecl}
use Rattle.ode_value.specs.declared.reason.Refusal.TheVariants as refusal
use Rattle.ode_value.specs.declared.statement.ClassDecl.{ClassDecl}
use Rattle.ode_value.specs.declared.statement.Member.{Member}
use Rattle.ode_value.specs.declared.statement.Member.TheVariants as member
use Rattle.ode_minimal.specs.Minimal.{AnswersAs, IsMinimal, IsReached}
use Rattle.ode_table.specs.Whole.{IsWhole}
use Rattle.ode_types.specs.Static.{check_grown}

-- ---- which declarations

-- each number of a `choose` or an `every` in a trigger's event is in its range
abbrev pub HasNumbers : Member → Type 0
HasNumbers (member.Trigger t) = has_numbers t.event ≡ true
HasNumbers _ = Unit {0}

-- and so in all of a declaration, as in each tree that a text has
abbrev pub HaveNumbers : ClassDecl → Type 0
HaveNumbers d = AllByRecursion HasNumbers d.members

-- ---- what is answered

-- the checked class of a declaration with fields that were added to it, behind those that are known, within the limits; or the first
-- refusal
abbrev pub compiled_grown : List Class → List Added → ClassDecl → Answer Declared
compiled_grown known added d = do
  c ← checks (check_grown known added d)
  limits_class (record { class = c; tree = d })

-- the same of a class as it is declared
abbrev pub compiled : List Class → ClassDecl → Answer Declared
compiled known d = compiled_grown known [] d

-- the limits by one
abbrev pub few_symbols : TriggerDecl → Answer (Unit {0})
few_symbols t = refuses (nat_lt symbol_limit (symbol_count t.event)) (refusal.TooManySymbols t.name (min (symbol_count t.event) counted_symbols))

abbrev pub few_states : TriggerDecl → Answer (Unit {0})
few_states t = refuses (nat_lt state_limit (tree_count t.event)) (refusal.TooManyStates t.name)

abbrev pub few_records : ℕ → Answer (Unit {0})
few_records count = refuses (nat_lt class_limit count) (refusal.ClassTooLarge count)

-- ---- tables and alphabets

-- The table of a trigger fits together, means its event and has no more states than that has trees; its symbols are those of the event's
-- alphabet.
pub record IsCompiled (t : TriggerDecl) (table : Table) (rows : Alphabet) : Type 0 where
  pub whole : IsWhole table
  pub means : Means table t.event
  pub states : table.states ≤ tree_count t.event
  pub alphabet_is : rows ≡ alphabet t.event

-- as many of both as there are triggers, in order
abbrev pub AreCompiled : List TriggerDecl → List Table → List Alphabet → Type 0
AreCompiled [] [] [] = Unit {0}
AreCompiled (t ∷ ts) (table ∷ tables) (rows ∷ alphabets) = IsCompiled t table rows × AreCompiled ts tables alphabets
AreCompiled _ _ _ = ⊥

-- words lead to each state of a table, and no two of them are alike
pub record IsShrunk (table : Table) : Type 0 where
  pub reached : IsReached table
  pub minimal : IsMinimal table

-- the least table with the answers of another
pub record IsLeastOf (large small : Table) : Type 0 where
  pub answers : AnswersAs large small
  pub few : small.states ≤ large.states
  pub whole : IsWhole small
  pub shrunk : IsShrunk small

-- as many, in order
abbrev pub AreLeastOf : List Table → List Table → Type 0
AreLeastOf [] [] = Unit {0}
AreLeastOf (t ∷ ts) (small ∷ least) = IsLeastOf t small × AreLeastOf ts least
AreLeastOf _ _ = ⊥

-- the states and symbols of a table
abbrev pub size_of_table : Table → ℕ × ℕ
size_of_table t = (t.states, t.symbols)

-- the states and symbols with which tables count, each with the states beside it
abbrev pub counted_sizes : List ℕ → List Table → List (ℕ × ℕ)
counted_sizes (states ∷ counts) (t ∷ tables) = (states, t.symbols) ∷ counted_sizes counts tables
counted_sizes _ _ = []

-- how many trees the event of each trigger has
abbrev pub tree_counts : List TriggerDecl → List ℕ
tree_counts triggers = map (λ t. tree_count t.event) triggers
