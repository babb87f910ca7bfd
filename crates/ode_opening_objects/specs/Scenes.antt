-- What passes over objects, versions, activations and entries go by, and what each record makes of it.
use Rattle.std.specs.Prelude.{ℕ, ◌-◌, List, [], ◌∷◌, Bool, nat_lt, Ok}
use Rattle.std.specs.BTreeMap.{insert_entry}
use Rattle.std.specs.Option.{option_map_or}
use Rattle.std.specs.Ordering.{nat_cmp}
use Rattle.ode_codec.specs.declared.record.Counters.{Counters}
use Rattle.ode_codec.specs.declared.record.Record.{Record}
use Rattle.ode_keep.specs.Entries.{Entries}
use Rattle.ode_passes.specs.Records.{record_in}
use Rattle.ode_passes.specs.Rules.{Ruled, ◌>>=◌, each, found, needs}
use Rattle.ode_passes.specs.Walking.{within}
use Rattle.ode_passes.specs.declared.cause.Cause.TheVariants as cause
use Rattle.ode_value.specs.Keys.{activation_kind, entry_kind, object_kind, version_kind}
use Rattle.ode_value.specs.Limits.{queue_limit}
use Rattle.ode_value.specs.Records.{Row}
use Rattle.ode_value.specs.declared.class.Class.{Class}
use Rattle.ode_value.specs.declared.key.Key.{Key}
use Rattle.ode_opening_objects.specs.Heads.{has_version, head_under, of_object}
use Rattle.ode_opening_objects.specs.Known.{Known}
use Rattle.ode_opening_objects.specs.Numbers.{at, has, is_twice, numbers_from}
use Rattle.ode_opening_objects.specs.Objects.{object_fits, object_head, object_keeps, references_fit, references_keep, version_fits}
use Rattle.ode_opening_objects.specs.States.{is_seen}
use Rattle.ode_opening_objects.specs.Triggers.{at_most, entry_fits, entry_keeps, goes_on, of_activation}
use Rattle.ode_opening_objects.specs.declared.head.Head.{Head}
use Rattle.ode_opening_objects.specs.declared.scene.Check.{Check}
use Rattle.ode_opening_objects.specs.declared.scene.Course.{Course}
use Rattle.ode_opening_objects.specs.declared.scene.Queue.{Queue}
use Rattle.ode_opening_objects.specs.declared.scene.Roll.{Roll}
use Rattle.ode_opening_objects.specs.declared.scene.Rule.{Rule}
use Rattle.ode_opening_objects.specs.declared.scene.Rule.TheVariants as rule
use Rattle.ode_opening_objects.specs.declared.states.States.{States}

-- ---- objects

-- what is known of an object that keeps its rule, by its record and by which objects have versions
abbrev pub object_read : Known → (ℕ → Bool) → Row → Record → Ruled Head
object_read s owned e r = do
  h ← found (cause.Record e.0) (of_object r)
  _ ← needs (cause.Record e.0) (object_fits s.counters.next_number s.classes owned e h)
  Ok h

abbrev pub known_more : Known → ℕ → Head → Known
known_more s id h = record s { heads = insert_entry nat_cmp s.heads id h }

-- an object more, where it keeps its rule
abbrev pub with_object : Roll → Row → Ruled Roll
with_object r e = object_head r.scene.counters.next_number r.scene.classes (has r.owners) e >>= λ h. Ok (record r { scene = known_more r.scene e.0.a h })

-- what the records of objects tell
abbrev pub with_head : List (ℕ × Head) → Row → List (ℕ × Head)
with_head heads e = option_map_or (λ h. insert_entry nat_cmp heads e.0.a h) (head_under e) heads

abbrev pub heads_from : List (ℕ × Head) → Entries → List (ℕ × Head)
heads_from heads [] = heads
heads_from heads (e ∷ es) = heads_from (with_head heads e) es

-- which objects have versions
abbrev pub versions_of : Entries → ℕ → Bool
versions_of entries id = has_version (within version_kind version_kind entries) id

-- ---- what each other record makes

-- a record keeps the rule of a pass
abbrev pub fits : Rule → Known → Key → Record → Ruled (Unit {0})
fits rule.Versions s k r = needs (cause.Record k) (version_fits s.counters.added s.classes (at s.heads) r)
fits rule.Activations s k r =
    found (cause.Record k) (of_activation r) >>= goes_on s.counters.next_number s.classes (at s.heads) (is_twice s.numbers) (is_seen s.states) k

abbrev pub keeps : Rule → Known → Row → Ruled (Unit {0})
keeps rule s e = record_in e >>= λ r. fits rule s e.0 r

-- the references in a record fit
abbrev pub refers : Known → Key → Record → Ruled (Unit {0})
refers s k r = needs (cause.Record k) (references_fit s.counters.next_number s.classes (at s.heads) r)

abbrev pub each_refers : Known → Entries → Ruled (Unit {0})
each_refers s es = each (references_keep s.counters.next_number s.classes (at s.heads)) es

-- a record more whose references may not fit
abbrev pub referred : Course → Key → Record → Course
referred c k r = record c { references = c.references >>= λ _. refers c.scene k r }

abbrev pub checked : Check → Row → Ruled Check
checked c e = do
  r ← record_in e
  _ ← fits c.rule c.course.scene e.0 r
  Ok (record c { course = referred c.course e.0 r })

-- an entry more of the queue, where it keeps its rule and there may be one more
abbrev pub turn : Known → Row → Ruled (Unit {0})
turn s e = entry_keeps s.counters s.classes (at s.heads) e

abbrev pub queued : Queue → Row → Ruled Queue
queued q e = do
  _ ← needs (cause.Record e.0) (nat_lt 0 q.left)
  r ← record_in e
  _ ← needs (cause.Record e.0) (entry_fits q.course.scene.counters q.course.scene.classes (at q.course.scene.heads) r)
  Ok (record { course = referred q.course e.0 r; left = q.left - 1 })

-- ---- what passes leave

-- records that keep a rule, and whose references may not fit
abbrev pub passed : Rule → Entries → Course → Ruled Course
passed r es c = each (keeps r c.scene) es >>= λ _. Ok (record c { references = c.references >>= λ _. each_refers c.scene es })

abbrev pub waited : Entries → Course → Ruled Course
waited es c = at_most queue_limit (turn c.scene) es >>= λ _. Ok (record c { references = c.references >>= λ _. each_refers c.scene es })

-- what is known of a database before its objects are
abbrev pub scene_in : Counters → List Class → States → Entries → Known
scene_in counters classes states entries = record {
  counters = counters;
  classes = classes;
  numbers = numbers_from [] (within activation_kind activation_kind entries);
  states = states;
  heads = [];
}

-- the objects, where they keep their rule
abbrev pub objects_kept : Entries → Known → Ruled Known
objects_kept entries s =
    let objects : Entries = within object_kind object_kind entries in
    each (object_keeps s.counters.next_number s.classes (versions_of entries)) objects >>= λ _. Ok (record s { heads = heads_from s.heads objects })

-- versions, activations and the queue, one behind the other, and then all references
abbrev pub scene_kept : Entries → Known → Ruled (Unit {0})
scene_kept entries s = do
  c ← passed rule.Versions (within version_kind version_kind entries) (record { scene = s; references = Ok tt })
  d ← passed rule.Activations (within activation_kind activation_kind entries) c
  f ← waited (within entry_kind entry_kind entries) d
  f.references
