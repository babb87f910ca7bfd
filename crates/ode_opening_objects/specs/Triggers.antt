-- The rules of activations and of the queue's entries: what each asks of its trigger, its arguments and its numbers.
use Rattle.std.specs.Prelude.{ℕ, ◌+◌, ◌-◌, List, [], ◌∷◌, Bool, true, false, cond, not, nat_le, nat_lt, ◌==◌, ◌&&◌, Option, Some, None, Ok, Err, take, drop, slice_get}
use Rattle.std.specs.List.{list_any}
use Rattle.std.specs.Option.{is_none, option_and_then, option_map_or, option_map}
use Rattle.ode_codec.specs.declared.record.Activation.{Activation}
use Rattle.ode_codec.specs.declared.record.Counters.{Counters}
use Rattle.ode_codec.specs.declared.record.Entry.{Entry}
use Rattle.ode_codec.specs.declared.record.Record.{Record}
use Rattle.ode_codec.specs.declared.record.Record.TheVariants as of
use Rattle.ode_keep.specs.Entries.{Entries}
use Rattle.ode_passes.specs.Records.{record_in}
use Rattle.ode_passes.specs.Rules.{Ruled, ◌>>=◌, each, found, needs}
use Rattle.ode_passes.specs.declared.cause.Cause.TheVariants as cause
use Rattle.ode_types.specs.Families.{class_numbered}
use Rattle.ode_value.specs.Lengths.{values_length}
use Rattle.ode_value.specs.Limits.{args_limit, generation_limit}
use Rattle.ode_value.specs.Records.{Row}
use Rattle.ode_value.specs.Tables.{Table}
use Rattle.ode_value.specs.declared.class.Class.{Class}
use Rattle.ode_value.specs.declared.key.Key.{Key}
use Rattle.ode_value.specs.declared.member.TriggerDecl.{TriggerDecl}
use Rattle.ode_value.specs.declared.value.Value.{Value}
use Rattle.ode_walk.specs.Reaching.{is_reached}
use Rattle.ode_opening_objects.specs.Fitting.{born_param, descends, match_sorts, of_param}
use Rattle.ode_opening_objects.specs.declared.head.Head.{Head}

-- ---- triggers

-- a trigger by the class that declares it and its place there
abbrev pub trigger_under : List Class → ℕ → ℕ → Option TriggerDecl
trigger_under classes class place = option_and_then (λ (c : Class). slice_get c.triggers place) (class_numbered classes class)

-- arguments have the sorts of a trigger's parameters, and take few enough bytes
abbrev pub fit_trigger : List Value → TriggerDecl → Bool
fit_trigger args t = match_sorts 0 born_param of_param t.params args && nat_le (values_length args) args_limit

-- there is a trigger, and they fit it
abbrev pub have_trigger : List Class → ℕ → ℕ → List Value → Bool
have_trigger classes class place args = option_map_or (fit_trigger args) (trigger_under classes class place) false

-- ---- states

-- the place of a trigger's table: those of each class follow one another from a place on; no class has number 0
abbrev pub table_place : List ℕ → ℕ → ℕ → Option ℕ
table_place maps class place = cond (class == 0) None (option_map (λ first. first + place) (slice_get maps (class - 1)))

-- some word leads to this state of a trigger's table
abbrev pub is_reached_in : List Table → List ℕ → ℕ → ℕ → ℕ → Bool
is_reached_in tables maps class place state =
    option_map_or (λ t. is_reached t state) (option_and_then (slice_get tables) (table_place maps class place)) false

-- ---- activations

-- an activation has this number, among the records of activations; and two of them have it
abbrev pub has_number : Entries → ℕ → Bool
has_number es number = list_any (λ (e : Row). e.0.b == number) es

abbrev pub is_shared : Entries → ℕ → Bool
is_shared [] number = false
is_shared (e ∷ es) number = cond (e.0.b == number) (has_number es number) (is_shared es number)

abbrev pub of_activation : Record → Option Activation
of_activation (of.Activation a) = Some a
of_activation _ = None

-- a number was drawn, and neither an object nor another activation has it
abbrev pub is_own_number : ℕ → (ℕ → Option Head) → (ℕ → Bool) → ℕ → Bool
is_own_number next heads shared number = nat_lt number next && (is_none (heads number) && not (shared number))

module _ (next : ℕ) (classes : List Class) (heads : ℕ → Option Head) (shared : ℕ → Bool) where
  -- An activation has its object, and a trigger of the object's class or of an ancestor, whose parameters its arguments fit. Its number
  -- is its own.
  abbrev pub activation_fits : Activation → Bool
  activation_fits a =
      option_map_or (λ (h : Head). descends classes h.class a.class) (heads a.object) false
      && (have_trigger classes a.class a.trigger a.args && is_own_number next heads shared a.number)

  module _ (reached : ℕ → ℕ → ℕ → Bool) where
    -- and then some word leads to its state
    abbrev pub goes_on : Key → Activation → Ruled (Unit {0})
    goes_on k a = do
      _ ← needs (cause.Record k) (activation_fits a)
      needs (cause.State a.object a.number) (reached a.class a.trigger a.state)

    abbrev pub activation_keeps : Row → Ruled (Unit {0})
    activation_keeps e = do
      r ← record_in e
      a ← found (cause.Record e.0) (of_activation r)
      goes_on e.0 a

-- ---- the queue

-- it has a number that was drawn, and a generation
abbrev pub has_turn : Counters → ℕ → Entry → Bool
has_turn counters number q = nat_lt number counters.next_entry && (nat_le 1 q.generation && nat_le q.generation generation_limit)

module _ (counters : Counters) (classes : List Class) (heads : ℕ → Option Head) where
  -- An entry has its turn, a trigger whose parameters its arguments fit, and an object whose number was drawn. Where the object is there,
  -- its class or an ancestor declares the trigger.
  abbrev pub waits : ℕ → Entry → Bool
  waits number q =
      has_turn counters number q
      && (have_trigger classes q.class q.trigger q.args
      && (nat_lt q.object counters.next_number && option_map_or (λ (h : Head). descends classes h.class q.class) (heads q.object) true))

  abbrev pub entry_fits : Record → Bool
  entry_fits (of.Entry number q) = waits number q
  entry_fits _ = false

  abbrev pub entry_keeps : Row → Ruled (Unit {0})
  entry_keeps e = record_in e >>= λ r. needs (cause.Record e.0) (entry_fits r)

-- nothing is left
abbrev pub none_over : Entries → Ruled (Unit {0})
none_over [] = Ok tt
none_over (e ∷ es) = Err (cause.Record e.0)

-- so many keep a rule, and there are no more
abbrev pub at_most : ℕ → (Row → Ruled (Unit {0})) → Entries → Ruled (Unit {0})
at_most limit rule es = each rule (take limit es) >>= λ _. none_over (drop limit es)
