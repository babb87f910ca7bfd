-- What each small change of one machine's transaction keeps, its acts keep.
use Rattle.std.proofs.Common.{◌≡◌, ℕ, suc, ◌+◌, Bool, true, List, length, Option, Some, None, Ok, refl, sym, ap, subst}
use Rattle.std.specs.Prelude.{nat_lt, nat_le, slice_set}
use Rattle.ode_value.specs.declared.event.Kind.{Kind}
use Rattle.ode_value.specs.declared.event.Point.{Point}
use Rattle.ode_value.specs.declared.key.Key.{Key}
use Rattle.ode_value.specs.declared.value.Ref.{Ref}
use Rattle.ode_value.specs.declared.value.Value.{Value}
use Rattle.ode_value.specs.Acts.{Outcome, Done, Aborted, Act, go_on, ◌>>=◌, ◌>>◌, gives, reads, turns, found, with_line, with_statement}
use Rattle.ode_value.specs.Changes.{key_count, holding, has_number, alters_object}
use Rattle.ode_value.specs.Classes.{Trigger, triggers_of}
use Rattle.ode_value.specs.Denoting.{object_at, denoted}
use Rattle.ode_value.specs.Firings.{new_point, object_after, both_lists, with_point, fired, arises}
use Rattle.ode_value.specs.Lengths.{values_length, version_size}
use Rattle.ode_value.specs.Limits.{budget_limit, output_limit, change_limit, cascade_limit, version_limit, value_limit, args_limit}
use Rattle.ode_value.specs.Making.{derived_from, with_new, with_active}
use Rattle.ode_value.specs.Pasts.{Past}
use Rattle.ode_value.specs.Posting.{has_room, with_deferred, with_entry}
use Rattle.ode_value.specs.Transactions.{Tx, Firing, touching, footed}
use Rattle.ode_value.specs.Versions.{Version}
use Rattle.ode_value.specs.Worlds.{Declared, Object}
use Rattle.ode_laws.proofs.Each.{all-of}
use Rattle.ode_laws.proofs.Sides.{EndsBy, Sides, altered, turned, stamp_in, set_in, dropped_from, removed, off_in, same_self}
use Rattle.ode_value.specs.Footprints.{Footprint}

-- What holds, with how many objects may still be touched in the statement that runs, and what keeps it.
pub record Keeps {O A : Type 0} (past : Past O A) (Holds : ℕ → Tx O A → Type 0) : Type 0 where
  pub less : (n : ℕ) (x : Tx O A) → Holds (suc n) x → Holds n x
  pub statement : (n : ℕ) (x : Tx O A) → Holds n x → nat_lt x.run budget_limit ≡ true → Holds (suc n) (with_statement x)
  pub foot : (n : ℕ) (x : Tx O A) (change : Footprint → Footprint) → Holds n x → Holds n (footed change x)
  pub line : (n : ℕ) (x : Tx O A) (line : List ℕ) → Holds n x → nat_le (length x.text + length line) output_limit ≡ true → Holds n (with_line line x)
  pub keys : (n : ℕ) (x : Tx O A) (keys : List Key) → Holds n x → nat_le (key_count (holding keys x)) change_limit ≡ true → Holds n (holding keys x)
  pub touch : (n : ℕ) (x : Tx O A) (id : ℕ) → Holds (suc n) x → Holds n (touching id x)
  pub defer : (n : ℕ) (x : Tx O A) (f : Firing) → Holds n x → nat_lt (length x.deferred) cascade_limit ≡ true → Holds n (with_deferred f x)
  pub collect : (n : ℕ) (x : Tx O A) (independent : Bool) (f : Firing) → Holds n x → has_room x ≡ true → Holds n (with_entry independent f x)
  pub set : (n : ℕ) (x : Tx O A) (r : Ref) (v : Version) (place : ℕ) (value : Value) → Holds n x → denoted x.now.bones r ≡ Ok v → nat_le (version_size (stamp_in x) (slice_set v.fields place value)) value_limit ≡ true
      → Holds n (altered r.object (set_in (stamp_in x) v place value) x)
  pub derive : (n : ℕ) (x : Tx O A) (r : Ref) (v : Version) (o : Object) → Holds n x → denoted x.now.bones r ≡ Ok v → object_at x.now.bones r.object ≡ Some o → nat_lt o.last version_limit ≡ true → nat_le (version_size (stamp_in x) v.fields) value_limit ≡ true
      → Holds n (altered o.id (derived_from (stamp_in x) v) x)
  pub drop : (n : ℕ) (x : Tx O A) (r : Ref) (v : Version) (o : Object) → Holds n x → denoted x.now.bones r ≡ Ok v → object_at x.now.bones r.object ≡ Some o → nat_lt 1 (length o.versions) ≡ true
      → Holds n (altered o.id (dropped_from v) x)
  pub remove : (n : ℕ) (x : Tx O A) (id : ℕ) → Holds n x → Holds n (altered id removed x)
  pub off : (n : ℕ) (x : Tx O A) (id number : ℕ) → Holds n x → Holds n (altered id (off_in number) x)
  pub new : (n : ℕ) (x : Tx O A) (class : ℕ) (fields : List Value) → Holds n x → has_number x.now.bones ≡ true → nat_le (version_size (stamp_in x) fields) value_limit ≡ true → Holds n (turned (with_new past class fields) x)
  pub active : (n : ℕ) (x : Tx O A) (id : ℕ) (t : Trigger) (args : List Value) → Holds n x → has_number x.now.bones ≡ true → nat_le (values_length args) args_limit ≡ true → Holds n (turned (with_active past id t args) x)
  pub point : (n : ℕ) (x : Tx O A) (id : ℕ) (p : Point) (o : Object) (firings : List Firing) → Holds n x → object_at x.now.bones id ≡ Some o
      → Holds n (altered id (object_after firings) (turned (with_point past (both_lists past) p o) x))

module _ {O A : Type 0} (past : Past O A) (Holds : ℕ → Tx O A → Type 0) (k : Keeps past Holds) (cs : List Declared) where
  -- one transaction, with its classes, of which it holds
  abbrev pub Alone : ℕ → Tx O A → Tx O A → Type 0
  Alone n y x = (y ≡ x) × (x.now.bones.classes ≡ cs) × Holds n x

  pub point_alone : (n : ℕ) (x : Tx O A) (id : ℕ) (kind : Kind) (args : List Value) → x.now.bones.classes ≡ cs → Holds n x
      → EndsBy (Alone n) (Alone n) (arises past (both_lists past) id kind args x) (arises past (both_lists past) id kind args x)
  point_alone n x id kind args is h = by_found (object_at x.now.bones id) refl where
    pointing : Object → Act O A (List Firing)
    pointing o =
        turns (with_point past (both_lists past) (new_point kind args o) o) >> (reads (λ z. fired past (both_lists past) o z.now) >>= λ firings. alters_object id (object_after firings) >> gives firings)

    by_found : (a : Option Object) → object_at x.now.bones id ≡ a → EndsBy (Alone n) (Alone n) (go_on (found a x) pointing) (go_on (found a x) pointing)
    by_found (Some o) there =
        (refl, (refl, is, k.point n x id (new_point kind args o) o (fired past (both_lists past) o (with_point past (both_lists past) (new_point kind args o) o x.now)) h there))
    by_found None there = (refl, (refl, is, h))

  abbrev pub alone : Sides O A O A
  alone = record {
    past = past;
    other = past;
    classes = cs;
    Known = λ t. Unit {0};
    knows = λ class. all-of (λ t. Unit {0}) (λ t. tt) (triggers_of cs class);
    Related = Alone;
    same = λ n y x r. same_self cs y x r.0 r.1;
    less = λ n y x r. (r.0, r.1, k.less n x r.2);
    statement = λ n y x r more. (ap with_statement r.0, r.1, k.statement n x r.2 more);
    foot = λ n y x change r. (ap (footed change) r.0, r.1, k.foot n x change r.2);
    line = λ n y x line r fits. (ap (with_line line) r.0, r.1, k.line n x line r.2 fits);
    keys = λ n y x keys r fits. (ap (holding keys) r.0, r.1, k.keys n x keys r.2 fits);
    touch = λ n y x id r. (ap (touching id) r.0, r.1, k.touch n x id r.2);
    defer = λ n y x f r more. (ap (with_deferred f) r.0, r.1, k.defer n x f r.2 more);
    collect = λ n y x independent f r room. (ap (with_entry independent f) r.0, r.1, k.collect n x independent f r.2 room);
    set = λ n y x r v place value h is small. (ap (altered r.object (set_in (stamp_in x) v place value)) h.0, h.1, k.set n x r v place value h.2 is small);
    derive = λ n y x r v o h is there more small. (ap (altered o.id (derived_from (stamp_in x) v)) h.0, h.1, k.derive n x r v o h.2 is there more small);
    drop = λ n y x r v o h is there more. (ap (altered o.id (dropped_from v)) h.0, h.1, k.drop n x r v o h.2 is there more);
    remove = λ n y x id r. (ap (altered id removed) r.0, r.1, k.remove n x id r.2);
    off = λ n y x id number r. (ap (altered id (off_in number)) r.0, r.1, k.off n x id number r.2);
    new = λ n y x class fields r left small. (ap (turned (with_new past class fields)) r.0, r.1, k.new n x class fields r.2 left small);
    active = λ n y x id t args r left short known. (ap (turned (with_active past id t args)) r.0, r.1, k.active n x id t args r.2 left short);
    point = λ n y x id kind args r.
        subst (λ z. EndsBy (Alone n) (Alone n) (arises past (both_lists past) id kind args z) (arises past (both_lists past) id kind args x)) (sym r.0) (point_alone n x id kind args r.1 r.2);
  }

-- what holds of the transaction that an act reached
abbrev pub Ended : {O A X : Type 0} → (done failed : Tx O A → Type 0) → Outcome O A X → Type 0
Ended done failed (Done r x) = done x
Ended done failed (Aborted r x) = failed x

pub ended : {O A X : Type 0} (done failed : Tx O A → Type 0) (D F : Tx O A → Tx O A → Type 0) → ((y x : Tx O A) → D y x → done x) → ((y x : Tx O A) → F y x → failed x)
    → (p : Outcome O A X) → EndsBy D F p p → Ended done failed p
ended done failed D F d f (Done r x) h = d x x h.1
ended done failed D F d f (Aborted r x) h = f x x h.1
