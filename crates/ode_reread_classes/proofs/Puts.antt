-- Trees and heights with one more of a sort on top.
use Rattle.std.proofs.Common.{ℕ, Bool, List, ◌∷◌, Option}
use Rattle.ode_value.specs.declared.binding.Param.{Param}
use Rattle.ode_value.specs.declared.change.Change.{Change}
use Rattle.ode_value.specs.declared.event.Kind.{Kind}
use Rattle.ode_value.specs.declared.event.Mode.{Mode}
use Rattle.ode_value.specs.declared.statement.ClassDecl.{ClassDecl}
use Rattle.ode_value.specs.declared.statement.Expr.{Expr}
use Rattle.ode_value.specs.declared.statement.Member.{Member}
use Rattle.ode_value.specs.declared.statement.Rhs.{Rhs}
use Rattle.ode_value.specs.declared.statement.Sort.{Sort}
use Rattle.ode_value.specs.declared.statement.Statement.{Statement}
use Rattle.ode_value.specs.declared.statement.Stmt.{Stmt}
use Rattle.ode_reread.proofs.Both.{Both}

-- with a height
abbrev pub with_args : List Expr → ℕ → Both → Both
with_args xs n b =
    record {
      trees = record b.trees { args = xs ∷ b.trees.args };
      heights = record b.heights { plain = n ∷ b.heights.plain };
    }

abbrev pub with_sets : List (List ℕ × Expr) → ℕ → Both → Both
with_sets xs n b =
    record {
      trees = record b.trees { sets = xs ∷ b.trees.sets };
      heights = record b.heights { plain = n ∷ b.heights.plain };
    }

abbrev pub with_right : Rhs → ℕ → Both → Both
with_right r n b =
    record {
      trees = record b.trees { right_sides = r ∷ b.trees.right_sides };
      heights = record b.heights { plain = n ∷ b.heights.plain };
    }

abbrev pub with_stmt : Stmt → ℕ → Both → Both
with_stmt s n b =
    record {
      trees = record b.trees { statements = s ∷ b.trees.statements };
      heights = record b.heights { plain = n ∷ b.heights.plain };
    }

abbrev pub with_body : List Stmt → ℕ → Both → Both
with_body xs n b =
    record {
      trees = record b.trees { bodies = xs ∷ b.trees.bodies };
      heights = record b.heights { plain = n ∷ b.heights.plain };
    }

abbrev pub with_members : List Member → ℕ → Both → Both
with_members xs n b =
    record {
      trees = record b.trees { members = xs ∷ b.trees.members };
      heights = record b.heights { plain = n ∷ b.heights.plain };
    }

abbrev pub with_class : ClassDecl → ℕ → Both → Both
with_class c n b =
    record {
      trees = record b.trees { classes = c ∷ b.trees.classes };
      heights = record b.heights { plain = n ∷ b.heights.plain };
    }

abbrev pub with_script : Statement → ℕ → Both → Both
with_script s n b =
    record {
      trees = record b.trees { scripts = s ∷ b.trees.scripts };
      heights = record b.heights { plain = n ∷ b.heights.plain };
    }

-- and without
abbrev pub with_sort : Sort → Both → Both
with_sort s b = record { trees = record b.trees { sorts = s ∷ b.trees.sorts }; heights = b.heights }

abbrev pub with_params : List Param → Both → Both
with_params xs b = record { trees = record b.trees { params = xs ∷ b.trees.params }; heights = b.heights }

abbrev pub with_kinds : List Kind → Both → Both
with_kinds xs b = record { trees = record b.trees { kind_lists = xs ∷ b.trees.kind_lists }; heights = b.heights }

abbrev pub with_flag : Bool → Both → Both
with_flag f b = record { trees = record b.trees { flags = f ∷ b.trees.flags }; heights = b.heights }

abbrev pub with_mode : Mode → Both → Both
with_mode m b = record { trees = record b.trees { modes = m ∷ b.trees.modes }; heights = b.heights }

abbrev pub with_parent : Option (List ℕ) → Both → Both
with_parent p b = record { trees = record b.trees { parents = p ∷ b.trees.parents }; heights = b.heights }

abbrev pub with_change : Change → Both → Both
with_change c b = record { trees = record b.trees { changes = c ∷ b.trees.changes }; heights = b.heights }
