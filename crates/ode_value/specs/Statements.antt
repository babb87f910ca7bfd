-- What calls and the statements that touch objects do. Each touches by the level d, where the actions of its points run.
use Rattle.std.specs.Prelude.{ℕ, List, [], map, pos, Bool, ◌&&◌, Option, Some, None, is_some}
use Rattle.std.specs.List.{find}
use Rattle.std.specs.Option.{option_map_or, unwrap_or}
use Rattle.std.specs.Str.{bytes_eq}
use Rattle.ode_value.specs.declared.class.Field.{Field}
use Rattle.ode_value.specs.declared.event.Kind.TheVariants.{Create, Delete, NewVersion, DropVersion, Before, After}
use Rattle.ode_value.specs.declared.reason.Reason.TheVariants.{Depth}
use Rattle.ode_value.specs.declared.statement.Call.{Call}
use Rattle.ode_value.specs.declared.statement.Expr.{Expr}
use Rattle.ode_value.specs.declared.value.Ref.{Ref}
use Rattle.ode_value.specs.declared.value.Value.{Value}
use Rattle.ode_value.specs.declared.value.Value.TheVariants as value
use Rattle.ode_value.specs.Objects.{Activation}
use Rattle.ode_value.specs.Pasts.{Past}
use Rattle.ode_value.specs.Same.{same_value}
use Rattle.ode_value.specs.Worlds.{class_named}
use Rattle.ode_value.specs.Acts.{Act, Deed, ◌>>=◌, ◌>>◌, sees, finds, gives, nothing, when, aborts, each}
use Rattle.ode_value.specs.Changes.{object, class_of, lives}
use Rattle.ode_value.specs.Classes.{Trigger, method_named, trigger_named, initial_triggers, default_of}
use Rattle.ode_value.specs.Constraints.{tests_hard}
use Rattle.ode_value.specs.Evaluation.{Frame}
use Rattle.ode_value.specs.Expressions.{evaluates, evaluates_all, evaluates_sets, stands, reference, receiver}
use Rattle.ode_value.specs.Making.{makes, derives, spares, drops, removes, switches_on, switches_off}
use Rattle.ode_value.specs.Posting.{Body, posts, touches}
use Rattle.ode_value.specs.Denoting.{denotes}

-- one level deeper: how a body runs there, and the level of the actions at its points, where there is one
pub record Inner (O A : Type 0) : Type 0 where
  pub body : Body O A
  pub actions : Option (Body O A)

-- a field's first value: what it is set to, or its sort's default
abbrev pub first_value : List (List ℕ × Value) → Field → Value
first_value sets f = option_map_or (λ (s : List ℕ × Value). s.1) (find (λ (s : List ℕ × Value). bytes_eq s.0 f.name) sets) (default_of f.sort)

-- an activation is on and has this number
abbrev pub is_on : Value → Activation → Bool
is_on v a = a.on && same_value v (value.Int (pos a.number))

-- the reference to an object's current version
abbrev pub generic : ℕ → Ref
generic id = record { object = id; version = None }

module _ {O A : Type 0} (past : Past O A) where
  -- a call behind its body, where its reference still denotes a version
  abbrev pub calls_after : Option (Body O A) → Ref → List ℕ → List Value → Deed O A
  calls_after d r name args = tests_hard r >> posts past d r.object (After name) args

  -- the same, where it does
  unfoldable pub calls_behind : Option (Body O A) → Ref → List ℕ → List Value → Deed O A
  calls_behind d r name args = do
    still ← sees (λ b. is_some (denotes b r))
    when still (calls_after d r name args)

  -- a call at its level
  unfoldable pub calls_inside : Inner O A → Ref → List ℕ → List Value → Act O A Value
  calls_inside inner r name args = do
    touches past inner.actions r.object
    stands r
    posts past inner.actions r.object (Before name) args
    lives r.object
    class ← class_of r.object
    m ← finds (λ b. method_named b.classes class name)
    v ← inner.body m.body (record { this = r; locals = args })
    calls_behind inner.actions r name args
    gives (unwrap_or v (default_of m.result))

  -- a call one level deeper, where there is one
  abbrev pub calls_deeper : Option (Inner O A) → Ref → List ℕ → List Value → Act O A Value
  calls_deeper None r name args = aborts Depth
  calls_deeper (Some inner) r name args = calls_inside inner r name args

  -- a call
  abbrev pub calls : Option (Inner O A) → Call → Frame → Act O A Value
  calls inner c frame = do
    r ← receiver c.of frame
    args ← evaluates_all c.args frame
    calls_deeper inner r c.method args

  -- an initial trigger of a new object
  abbrev pub activates_initial : ℕ → Trigger → Deed O A
  activates_initial id t = do
    _ ← switches_on past id t []
    nothing

  -- a new object of a class by its name, with its initial activations
  unfoldable pub makes_named : List ℕ → List (List ℕ × Expr) → Frame → Act O A ℕ
  makes_named name sets frame = do
    given ← evaluates_sets sets frame
    c ← finds (λ b. class_named name b.classes)
    id ← makes past c.number (map (first_value given) c.fields)
    triggers ← sees (λ b. initial_triggers b.classes c.number)
    each (activates_initial id) triggers
    gives id

  -- `pnew`
  unfoldable pub creates : Option (Body O A) → List ℕ → List (List ℕ × Expr) → Frame → Act O A Value
  creates d name sets frame = do
    id ← makes_named name sets frame
    tests_hard (generic id)
    posts past d id Create []
    gives (value.Reference (generic id))

  -- `newversion`
  unfoldable pub copies : Option (Body O A) → Expr → Frame → Act O A Value
  copies d e frame = do
    r ← reference e frame
    touches past d r.object
    new ← derives r
    posts past d r.object NewVersion []
    gives (value.Reference new)

  -- `pdelete`
  unfoldable pub deletes : Option (Body O A) → Expr → Frame → Deed O A
  deletes d e frame = do
    r ← reference e frame
    touches past d r.object
    stands r
    posts past d r.object Delete []
    lives r.object
    removes r.object

  -- `delversion`: the version that is removed is the one that the reference denotes before the point
  unfoldable pub drops_version : Option (Body O A) → Expr → Frame → Deed O A
  drops_version d e frame = do
    r ← reference e frame
    touches past d r.object
    v ← spares r
    posts past d r.object DropVersion []
    drops v

  -- a new activation of the trigger of a name
  unfoldable pub switches_on_named : Ref → List ℕ → List Value → Act O A Value
  switches_on_named r name args = do
    o ← object r.object
    t ← finds (λ b. trigger_named b.classes o.class name)
    number ← switches_on past r.object t args
    gives (value.Int (pos number))

  -- `activate`
  abbrev pub activates : Option (Body O A) → Expr → List ℕ → List Expr → Frame → Act O A Value
  activates d of name args frame = do
    r ← reference of frame
    vs ← evaluates_all args frame
    touches past d r.object
    stands r
    switches_on_named r name vs

  -- the activation that was found, if one was, goes off
  abbrev pub switches_off_found : ℕ → Option Activation → Deed O A
  switches_off_found id None = nothing
  switches_off_found id (Some a) = switches_off id a

  -- the activation of a number goes off, where there is one that is on
  unfoldable pub switches_off_numbered : Ref → Value → Deed O A
  switches_off_numbered r v = do
    o ← object r.object
    switches_off_found r.object (find (is_on v) o.activations)

  -- `deactivate`
  unfoldable pub deactivates : Option (Body O A) → Expr → Expr → Frame → Deed O A
  deactivates d of e frame = do
    r ← reference of frame
    v ← evaluates e frame
    touches past d r.object
    stands r
    switches_off_numbered r v
