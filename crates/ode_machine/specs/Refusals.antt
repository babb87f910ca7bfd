-- Why a piece is refused: the first of these reasons, in this order.
use Rattle.std.specs.Prelude.{ℕ, ℤ, int_lt, List, [], ◌∷◌, map, length, Bool, true, false, cond, not, ◌&&◌, nat_lt, is_some, Option, Some, None, Ok, Err}
use Rattle.std.specs.Option.{ok_or}
use Rattle.ode_value.specs.declared.change.Change.{Change}
use Rattle.ode_value.specs.declared.class.Class.{Class}
use Rattle.ode_value.specs.declared.reason.Refusal.TheVariants as refusal
use Rattle.ode_value.specs.declared.statement.ClassDecl.{ClassDecl}
use Rattle.ode_value.specs.declared.statement.Statement.{Statement}
use Rattle.ode_value.specs.declared.statement.Statement.TheVariants as statement
use Rattle.ode_value.specs.declared.statement.Stmt.{Stmt}
use Rattle.ode_value.specs.declared.value.Ref.{Ref}
use Rattle.ode_value.specs.Worlds.{Declared, Position, Object, Bones}
use Rattle.ode_value.specs.Versions.{version_of}
use Rattle.ode_timer.specs.Due.{due}
use Rattle.ode_machine.specs.TimeRows.{time_rows}
use Rattle.ode_value.specs.Limits.{number_limit, due_limit}
use Rattle.ode_value.specs.Language.{Language}
use Rattle.ode_machine.specs.Sessions.{Session}
use Rattle.ode_value.specs.Answers.{Answer, ◌>>=◌, ◌>>◌, refuses, checks}
use Rattle.ode_value.specs.ClassLimits.{limits_class}
use Rattle.ode_value.specs.Denoting.{object_of}

-- `begin`, a class and the clock stand outside a transaction, `commit` and `abort` in one
abbrev pub place_of : Statement → Bool → Answer (Unit {0})
place_of statement.Begin inside = refuses inside refusal.InTransaction
place_of (statement.Class d) inside = refuses inside refusal.InTransaction
place_of (statement.Clock text) inside = refuses inside refusal.InTransaction
place_of statement.Commit inside = refuses (not inside) refusal.NoTransaction
place_of statement.Abort inside = refuses (not inside) refusal.NoTransaction
place_of statement.Empty inside = Ok tt
place_of (statement.Simple s) inside = Ok tt

-- a lone `;`
abbrev pub is_lone : Statement → Bool
is_lone statement.Empty = true
is_lone _ = false

-- a statement takes a number for a transaction
abbrev pub spends : Session → Statement → Bool
spends session s = not (is_some session.open_tx) && not (is_lone s)

-- a statement stands in its place, and a number is left where it takes one
abbrev pub placed : Session → Statement → Answer (Unit {0})
placed session s = do
  place_of s (is_some session.open_tx)
  refuses (spends session s && not (nat_lt session.world.bones.transaction number_limit)) refusal.NumbersSpent

-- a change of a class stands outside a transaction, and takes a number for one
abbrev pub placed_change : Session → Answer (Unit {0})
placed_change session = do
  refuses (is_some session.open_tx) refusal.InTransaction
  refuses (not (nat_lt session.world.bones.transaction number_limit)) refusal.NumbersSpent

-- the class of a literal, which denotes a version
abbrev pub class_behind : Ref → Option Object → Answer ℕ
class_behind r None = Err (refusal.NoObject r.object)
class_behind r (Some o) = cond (is_some (version_of r.version o.versions)) (Ok o.class) (Err (refusal.NoVersion r))

-- of each literal, with the first that denotes nothing refused
abbrev pub classes_behind : Bones → List Ref → Answer (List (Ref × ℕ))
classes_behind b [] = Ok []
classes_behind b (r ∷ rs) = do
  class ← class_behind r (object_of b r)
  classes ← classes_behind b rs
  Ok ((r, class) ∷ classes)

-- the checked classes
abbrev pub classes_in : Bones → List Class
classes_in b = map (λ (c : Declared). c.class) b.classes

-- a simple statement: its literals in the world now, then the static rules
abbrev pub checked_in : Language → Bones → Stmt → Answer Stmt
checked_in l b s = do
  classes ← classes_behind b (l.literals s)
  checks (l.checked (classes_in b) classes s)

-- a class: the static rules, and then the limits
abbrev pub declared_in : Language → Bones → ClassDecl → Answer Declared
declared_in l b d = do
  c ← checks (l.class_of (classes_in b) [] d)
  limits_class (record { class = c; tree = d })

-- the trees of the classes, and these classes as they were checked anew
abbrev pub trees_in : Bones → List ClassDecl
trees_in b = map (λ (c : Declared). c.tree) b.classes

abbrev pub declared_anew : List Class → List Declared → List Declared
declared_anew (c ∷ classes) (d ∷ more) = record d { class = c } ∷ declared_anew classes more
declared_anew _ _ = []

-- a change of a class: the classes with the fields that it adds
abbrev pub changed_in : Language → Bones → Change → Answer (List Declared)
changed_in l b c = do
  classes ← checks (l.changed (trees_in b) b.added c)
  Ok (declared_anew classes b.classes)

-- few clock events are due
abbrev pub few : List Position → Answer (List Position)
few ps = do
  refuses (nat_lt due_limit (length ps)) (refusal.TooManyDue (length ps))
  Ok ps

-- what is due up to an instant, which isn't before the clock's; nothing is where no clock was set
abbrev pub due_from : Bones → Option Position → ℤ → Answer (List Position)
due_from b None t = Ok []
due_from b (Some old) t = do
  refuses (int_lt t old.instant) refusal.ClockBack
  few (due (time_rows b) old t)

-- the clock: an instant, and what is due up to it
abbrev pub ticks_in : Language → Bones → List ℕ → Answer (ℤ × List Position)
ticks_in l b text = do
  t ← ok_or (l.instant_of text) refusal.BadInstant
  ps ← due_from b b.clock t
  Ok (t, ps)
