-- Two machines side by side, and a relation between their transactions that each small change keeps.
use Rattle.std.proofs.Common.{◌≡◌, ℕ, suc, ◌+◌, Bool, true, false, List, length, map, Some, Ok, ap, sym, ◌∙◌}
use Rattle.std.specs.Prelude.{nat_lt, nat_le, slice_set}
use Rattle.std.specs.List.{AllByRecursion}
use Rattle.ode_value.specs.declared.event.Kind.{Kind}
use Rattle.ode_value.specs.declared.key.Key.{Key}
use Rattle.ode_value.specs.declared.value.Ref.{Ref}
use Rattle.ode_value.specs.declared.value.Value.{Value}
use Rattle.ode_value.specs.Acts.{Outcome, Done, Aborted, with_line, with_statement}
use Rattle.ode_value.specs.Changes.{key_count, holding, has_number}
use Rattle.ode_value.specs.Classes.{Trigger, triggers_of}
use Rattle.ode_value.specs.Denoting.{object_at, denoted}
use Rattle.ode_value.specs.Firings.{arises, both_lists}
use Rattle.ode_value.specs.Lengths.{values_length, version_size}
use Rattle.ode_value.specs.Limits.{budget_limit, output_limit, change_limit, cascade_limit, version_limit, value_limit, args_limit}
use Rattle.ode_value.specs.Making.{stamp_now, with_fields, without_version, derived_from, switched_off, with_new, with_active}
use Rattle.ode_value.specs.Pasts.{Past}
use Rattle.ode_value.specs.Posting.{has_room, with_deferred, with_entry}
use Rattle.ode_value.specs.Transactions.{Tx, Firing, touching, with_bones, footed}
use Rattle.ode_value.specs.Versions.{Version}
use Rattle.ode_value.specs.Worlds.{Declared, Object, World, with_object}
use Rattle.ode_value.specs.Footprints.{Footprint}

-- both outcomes are done with one answer, or aborted with one reason, and the transactions reached are related
abbrev pub EndsBy : {O A P B X : Type 0} → (done failed : Tx O A → Tx P B → Type 0) → Outcome O A X → Outcome P B X → Type 0
EndsBy done failed (Done r y) (Done s x) = (r ≡ s) × done y x
EndsBy done failed (Aborted r y) (Aborted s x) = (r ≡ s) × failed y x
EndsBy done failed (Done r y) (Aborted s x) = ⊥
EndsBy done failed (Aborted r y) (Done s x) = ⊥

-- what two transactions have in common, but for what is kept of pasts
pub record Same {O A P B : Type 0} (cs : List Declared) (y : Tx O A) (x : Tx P B) : Type 0 where
  pub bones : y.now.bones ≡ x.now.bones
  pub classes : x.now.bones.classes ≡ cs
  pub first : y.first.bones ≡ x.first.bones
  pub origin : y.origin ≡ x.origin
  pub touched : y.touched ≡ x.touched
  pub deferred : y.deferred ≡ x.deferred
  pub collected : y.collected ≡ x.collected
  pub gathered : y.gathered ≡ x.gathered
  pub text : y.text ≡ x.text
  pub run : y.run ≡ x.run
  pub keys : y.keys ≡ x.keys
  pub footprint : y.footprint ≡ x.footprint

-- what two transactions have in common that have the worlds of two that do
pub told : {O A P B : Type 0} (cs : List Declared) (y : Tx O A) (x : Tx P B) → Same cs y x → (v : Tx O A) (w : Tx P B) → v.now ≡ y.now → w.now ≡ x.now → v.first ≡ y.first → w.first ≡ x.first
    → v.origin ≡ w.origin → v.touched ≡ w.touched → v.deferred ≡ w.deferred → v.collected ≡ w.collected → v.gathered ≡ w.gathered → v.text ≡ w.text → v.run ≡ w.run → v.keys ≡ w.keys → v.footprint ≡ w.footprint → Same cs v w
told cs y x s v w vn wn vf wf origin touched deferred collected gathered text run keys footprint = record {
  bones = ap (λ z. z.bones) vn ∙ s.bones ∙ sym (ap (λ z. z.bones) wn);
  classes = ap (λ z. z.bones.classes) wn ∙ s.classes;
  first = ap (λ z. z.bones) vf ∙ s.first ∙ sym (ap (λ z. z.bones) wf);
  origin = origin;
  touched = touched;
  deferred = deferred;
  collected = collected;
  gathered = gathered;
  text = text;
  run = run;
  keys = keys;
  footprint = footprint;
}

-- a transaction has all in common with itself
pub same_self : {O A : Type 0} (cs : List Declared) (y x : Tx O A) → y ≡ x → x.now.bones.classes ≡ cs → Same cs y x
same_self cs y x is classes = record {
  bones = ap (λ z. z.now.bones) is;
  classes = classes;
  first = ap (λ z. z.first.bones) is;
  origin = ap (λ z. z.origin) is;
  touched = ap (λ z. z.touched) is;
  deferred = ap (λ z. z.deferred) is;
  collected = ap (λ z. z.collected) is;
  gathered = ap (λ z. z.gathered) is;
  text = ap (λ z. z.text) is;
  run = ap (λ z. z.run) is;
  keys = ap (λ z. z.keys) is;
  footprint = ap (λ z. z.footprint) is;
}

-- a transaction with a change of an object
abbrev pub altered : {O A : Type 0} → ℕ → (Object → Object) → Tx O A → Tx O A
altered id change = with_bones (λ b. record b { objects = with_object id change b.objects })

-- with a change of the world now
abbrev pub turned : {O A : Type 0} → (World O A → World O A) → Tx O A → Tx O A
turned f x = record x { now = f x.now }

-- the stamp of what it makes or sets now
abbrev pub stamp_in : {O A : Type 0} → Tx O A → ℕ
stamp_in x = stamp_now x.now.bones

-- the changes of an object
abbrev pub set_in : ℕ → Version → ℕ → Value → Object → Object
set_in stamp v place value o = record o { versions = map (with_fields stamp v.number (slice_set v.fields place value)) o.versions }

abbrev pub dropped_from : Version → Object → Object
dropped_from v o = record o { versions = without_version v.number o.versions }

abbrev pub removed : Object → Object
removed o = record o { live = false }

abbrev pub off_in : ℕ → Object → Object
off_in number o = record o { activations = map (switched_off number) o.activations }

-- The relation, with how many objects may still be touched in the statement that runs, and what keeps it.
pub record Sides (O A P B : Type 0) : Type 1 where
  pub past : Past O A
  pub other : Past P B
  pub classes : List Declared
  pub Known : Trigger → Type 0
  pub knows : (class : ℕ) → AllByRecursion Known (triggers_of classes class)
  pub Related : ℕ → Tx O A → Tx P B → Type 0
  pub same : (n : ℕ) (y : Tx O A) (x : Tx P B) → Related n y x → Same classes y x
  pub less : (n : ℕ) (y : Tx O A) (x : Tx P B) → Related (suc n) y x → Related n y x
  pub statement : (n : ℕ) (y : Tx O A) (x : Tx P B) → Related n y x → nat_lt x.run budget_limit ≡ true → Related (suc n) (with_statement y) (with_statement x)
  pub foot : (n : ℕ) (y : Tx O A) (x : Tx P B) (change : Footprint → Footprint) → Related n y x → Related n (footed change y) (footed change x)
  pub line : (n : ℕ) (y : Tx O A) (x : Tx P B) (line : List ℕ) → Related n y x → nat_le (length x.text + length line) output_limit ≡ true → Related n (with_line line y) (with_line line x)
  pub keys : (n : ℕ) (y : Tx O A) (x : Tx P B) (keys : List Key) → Related n y x → nat_le (key_count (holding keys x)) change_limit ≡ true → Related n (holding keys y) (holding keys x)
  pub touch : (n : ℕ) (y : Tx O A) (x : Tx P B) (id : ℕ) → Related (suc n) y x → Related n (touching id y) (touching id x)
  pub defer : (n : ℕ) (y : Tx O A) (x : Tx P B) (f : Firing) → Related n y x → nat_lt (length x.deferred) cascade_limit ≡ true → Related n (with_deferred f y) (with_deferred f x)
  pub collect : (n : ℕ) (y : Tx O A) (x : Tx P B) (independent : Bool) (f : Firing) → Related n y x → has_room x ≡ true → Related n (with_entry independent f y) (with_entry independent f x)
  pub set : (n : ℕ) (y : Tx O A) (x : Tx P B) (r : Ref) (v : Version) (place : ℕ) (value : Value) → Related n y x → denoted x.now.bones r ≡ Ok v → nat_le (version_size (stamp_in x) (slice_set v.fields place value)) value_limit ≡ true
      → Related n (altered r.object (set_in (stamp_in x) v place value) y) (altered r.object (set_in (stamp_in x) v place value) x)
  pub derive : (n : ℕ) (y : Tx O A) (x : Tx P B) (r : Ref) (v : Version) (o : Object) → Related n y x → denoted x.now.bones r ≡ Ok v → object_at x.now.bones r.object ≡ Some o → nat_lt o.last version_limit ≡ true → nat_le (version_size (stamp_in x) v.fields) value_limit ≡ true
      → Related n (altered o.id (derived_from (stamp_in x) v) y) (altered o.id (derived_from (stamp_in x) v) x)
  pub drop : (n : ℕ) (y : Tx O A) (x : Tx P B) (r : Ref) (v : Version) (o : Object) → Related n y x → denoted x.now.bones r ≡ Ok v → object_at x.now.bones r.object ≡ Some o → nat_lt 1 (length o.versions) ≡ true
      → Related n (altered o.id (dropped_from v) y) (altered o.id (dropped_from v) x)
  pub remove : (n : ℕ) (y : Tx O A) (x : Tx P B) (id : ℕ) → Related n y x → Related n (altered id removed y) (altered id removed x)
  pub off : (n : ℕ) (y : Tx O A) (x : Tx P B) (id number : ℕ) → Related n y x → Related n (altered id (off_in number) y) (altered id (off_in number) x)
  pub new : (n : ℕ) (y : Tx O A) (x : Tx P B) (class : ℕ) (fields : List Value) → Related n y x → has_number x.now.bones ≡ true → nat_le (version_size (stamp_in x) fields) value_limit ≡ true
      → Related n (turned (with_new past class fields) y) (turned (with_new other class fields) x)
  pub active : (n : ℕ) (y : Tx O A) (x : Tx P B) (id : ℕ) (t : Trigger) (args : List Value) → Related n y x → has_number x.now.bones ≡ true → nat_le (values_length args) args_limit ≡ true → Known t
      → Related n (turned (with_active past id t args) y) (turned (with_active other id t args) x)
  pub point : (n : ℕ) (y : Tx O A) (x : Tx P B) (id : ℕ) (kind : Kind) (args : List Value) → Related n y x
      → EndsBy (Related n) (Related n) (arises past (both_lists past) id kind args y) (arises other (both_lists other) id kind args x)
