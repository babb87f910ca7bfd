-- The rules of objects, of their versions and activations, of the queue's entries and of the references in all these, one behind the
-- other.
use Rattle.std.specs.Prelude.{ℕ, List, Bool, true, false, nat_le, nat_lt, ◌==◌, ◌&&◌, ◌||◌, Option, Ok}
use Rattle.std.specs.Option.{is_some, option_map_or}
use Rattle.ode_codec.specs.declared.record.Counters.{Counters}
use Rattle.ode_codec.specs.declared.record.Record.{Record}
use Rattle.ode_codec.specs.declared.record.Record.TheVariants as of
use Rattle.ode_keep.specs.Entries.{Entries}
use Rattle.ode_passes.specs.Records.{record_in}
use Rattle.ode_passes.specs.Rules.{Ruled, ◌>>=◌, each, found, needs}
use Rattle.ode_passes.specs.Walking.{within}
use Rattle.ode_passes.specs.declared.cause.Cause.TheVariants as cause
use Rattle.ode_types.specs.Families.{class_numbered}
use Rattle.ode_value.specs.Keys.{activation_kind, entry_kind, object_kind, version_kind}
use Rattle.ode_value.specs.Limits.{queue_limit}
use Rattle.ode_value.specs.Records.{Row}
use Rattle.ode_value.specs.declared.class.Class.{Class}
use Rattle.ode_value.specs.declared.member.TriggerDecl.{TriggerDecl}
use Rattle.ode_value.specs.declared.value.Value.{Value}
use Rattle.ode_opening_objects.specs.Fitting.{born_param, fit_references, have_sorts, of_param, refer}
use Rattle.ode_opening_objects.specs.Heads.{has_version, head_in, of_object}
use Rattle.ode_opening_objects.specs.Triggers.{activation_keeps, at_most, entry_keeps, is_shared, trigger_under}
use Rattle.ode_opening_objects.specs.declared.head.Head.{Head}

-- ---- objects

-- an object has a number below the next one, a known class and at least one version
abbrev pub object_fits : ℕ → List Class → (ℕ → Bool) → Row → Head → Bool
object_fits next classes versions e h = nat_lt e.0.a next && (is_some (class_numbered classes h.class) && versions e.0.a)

abbrev pub object_head : ℕ → List Class → (ℕ → Bool) → Row → Ruled Head
object_head next classes versions e = do
  r ← record_in e
  h ← found (cause.Record e.0) (of_object r)
  _ ← needs (cause.Record e.0) (object_fits next classes versions e h)
  Ok h

abbrev pub object_keeps : ℕ → List Class → (ℕ → Bool) → Row → Ruled (Unit {0})
object_keeps next classes versions e = object_head next classes versions e >>= λ _. Ok tt

-- ---- versions

-- values have the sorts of the fields of a class
abbrev pub fields_fit : List Class → ℕ → ℕ → List Value → Bool
fields_fit classes number stamp values = option_map_or (λ (c : Class). have_sorts stamp c.fields values) (class_numbered classes number) false

-- A version has a number from 1 up to the last one of its object, a parent below its own number, and fields of its class's sorts. No version
-- has number 0, which says that there is no parent.
abbrev pub fits_head : List Class → ℕ → ℕ → ℕ → List Value → Head → Bool
fits_head classes number parent stamp fields h =
    nat_le 1 number && (nat_le number h.last && ((parent == 0 || nat_lt parent number) && fields_fit classes h.class stamp fields))

-- it has its object
abbrev pub version_fits : ℕ → List Class → (ℕ → Option Head) → Record → Bool
version_fits added classes heads (of.Version object number parent stamp fields) =
    nat_le stamp added && option_map_or (fits_head classes number parent stamp fields) (heads object) false
version_fits added classes heads _ = false

abbrev pub version_keeps : ℕ → List Class → (ℕ → Option Head) → Row → Ruled (Unit {0})
version_keeps added classes heads e = record_in e >>= λ r. needs (cause.Record e.0) (version_fits added classes heads r)

-- ---- references

module _ (next : ℕ) (classes : List Class) (heads : ℕ → Option Head) where
  -- the references in fields of a class fit
  abbrev pub references_in : ℕ → ℕ → List Value → Bool
  references_in number stamp values = option_map_or (λ (c : Class). fit_references next classes heads stamp c.fields values) (class_numbered classes number) true

  -- the references in arguments for a trigger fit
  abbrev pub args_refer : ℕ → ℕ → List Value → Bool
  args_refer class place args = option_map_or (λ (t : TriggerDecl). refer next classes heads 0 born_param of_param t.params args) (trigger_under classes class place) true

  -- the references of a version, of an activation or of an entry fit
  abbrev pub references_fit : Record → Bool
  references_fit (of.Version object number parent stamp fields) = option_map_or (λ (h : Head). references_in h.class stamp fields) (heads object) true
  references_fit (of.Activation a) = args_refer a.class a.trigger a.args
  references_fit (of.Entry number q) = args_refer q.class q.trigger q.args
  references_fit _ = true

  abbrev pub references_keep : Row → Ruled (Unit {0})
  references_keep e = record_in e >>= λ r. needs (cause.Record e.0) (references_fit r)

-- ---- all rules

-- all objects, then all versions, all activations, the queue, and all references; by whether some word leads to a state of a trigger's
-- table
unfoldable pub objects_keep : Counters → (ℕ → ℕ → ℕ → Bool) → List Class → Entries → Ruled (Unit {0})
objects_keep counters reached classes entries =
    let next : ℕ = counters.next_number in
    let objects : Entries = within object_kind object_kind entries in
    let versions : Entries = within version_kind version_kind entries in
    let activations : Entries = within activation_kind activation_kind entries in
    let heads : ℕ → Option Head = head_in objects in do
      _ ← each (object_keeps next classes (has_version versions)) objects
      _ ← each (version_keeps counters.added classes heads) versions
      _ ← each (activation_keeps next classes heads (is_shared activations) reached) activations
      _ ← at_most queue_limit (entry_keeps counters classes heads) (within entry_kind entry_kind entries)
      each (references_keep next classes heads) (within version_kind entry_kind entries)
