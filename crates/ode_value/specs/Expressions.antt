-- How statements take their values from expressions.
use Rattle.std.specs.Prelude.{ℕ, List, [], ◌∷◌, Bool, false, Option, Some, None}
use Rattle.ode_value.specs.declared.statement.Expr.{Expr}
use Rattle.ode_value.specs.declared.value.Ref.{Ref}
use Rattle.ode_value.specs.declared.value.Value.{Value}
use Rattle.ode_value.specs.declared.value.Value.TheVariants as value
use Rattle.ode_value.specs.Acts.{Act, Deed, ◌>>=◌, ◌>>◌, gives, nothing, sees, looks, found, computes}
use Rattle.ode_value.specs.Changes.{version}
use Rattle.ode_value.specs.Evaluation.{Frame, evaluate, looks_in}

-- the text that a value is
abbrev pub text_in : Value → List ℕ
text_in (value.Text t) = t
text_in _ = []

-- a value is true
abbrev pub is_true : Value → Bool
is_true (value.Bool b) = b
is_true _ = false

-- the reference that a value is
abbrev pub ref_in : Value → Option Ref
ref_in (value.Reference r) = Some r
ref_in _ = None

module _ {O A : Type 0} where
  -- the value of an expression
  abbrev pub evaluates : Expr → Frame → Act O A Value
  evaluates e frame = do
    ids ← sees (λ b. looks_in e b frame)
    looks ids
    computes (λ b. evaluate e b frame)

  -- whether a test is true
  abbrev pub holds : Expr → Frame → Act O A Bool
  holds e frame = do
    v ← evaluates e frame
    gives (is_true v)

  -- the values of several, from left to right
  abbrev pub evaluates_all : List Expr → Frame → Act O A (List Value)
  evaluates_all [] frame = gives []
  evaluates_all (e ∷ es) frame = do
    v ← evaluates e frame
    vs ← evaluates_all es frame
    gives (v ∷ vs)

  -- the values of fields that are set, by their names
  abbrev pub evaluates_sets : List (List ℕ × Expr) → Frame → Act O A (List (List ℕ × Value))
  evaluates_sets [] frame = gives []
  evaluates_sets (set ∷ sets) frame = do
    v ← evaluates set.1 frame
    vs ← evaluates_sets sets frame
    gives ((set.0, v) ∷ vs)

  -- a reference denotes a version
  abbrev pub denoting : Ref → Deed O A
  denoting r = do
    _ ← version r
    nothing

  -- the same, by a look at its object
  abbrev pub stands : Ref → Deed O A
  stands r = looks (r.object ∷ []) >> denoting r

  -- the reference that an expression gives; it denotes a version
  abbrev pub reference : Expr → Frame → Act O A Ref
  reference e frame = do
    v ← evaluates e frame
    r ← found (ref_in v)
    stands r
    gives r

  -- the reference that a call is made by: an expression's, or that of the body itself
  abbrev pub receiver : Option Expr → Frame → Act O A Ref
  receiver (Some e) frame = reference e frame
  receiver None frame = stands frame.this >> gives frame.this
