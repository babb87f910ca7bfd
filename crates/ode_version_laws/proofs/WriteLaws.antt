-- Fields of versions are set, in the overlay and in the machine.
use Rattle.std.proofs.Common.{◌≡◌, ℕ, List, [], ◌∷◌, true, map, Option, Some, Ok, Err, refl, sym, ap, subst, ◌∙◌}
use Rattle.std.specs.List.{slice_set}
use Rattle.ode_keep.specs.Entries.{Entries}
use Rattle.ode_laws.specs.Alike.{NumberTx}
use Rattle.ode_objects.proofs.Kept.{fields_room}
use Rattle.ode_objects.specs.Objects.{values_of, written}
use Rattle.ode_objects.specs.Values.{are_fields}
use Rattle.ode_objects.specs.declared.object.Object.{Object}
use Rattle.ode_objects.specs.declared.object.Version.{Version}
use Rattle.ode_objects.specs.declared.tracked.Tracked.{Tracked}
use Rattle.ode_overlay.specs.Answers.{Answer, ◌>>=◌}
use Rattle.ode_overlay.specs.Changing as calls
use Rattle.ode_overlay.specs.Changing.{fields_with, object_of, with_now, write, write_with}
use Rattle.ode_overlay.specs.Layers.{Layer, holding}
use Rattle.ode_overlay.specs.Reading.{not_null}
use Rattle.ode_overlay.specs.declared.error.OverlayError.{OverlayError}
use Rattle.ode_overlay.specs.declared.error.OverlayError.TheVariants.{TooLong}
use Rattle.ode_overlay_laws.proofs.AlteredLaws.{altered, altered_stands, has_found}
use Rattle.ode_overlay_laws.proofs.FollowingLaws.{as_well, asks_first, stamps_same}
use Rattle.ode_overlay_laws.proofs.KeySets.{version_part}
use Rattle.ode_overlay_laws.specs.Following.{Follows, reason_as}
use Rattle.ode_overlay_laws.specs.Standing.{IsIn, Stands, object_as, version_as}
use Rattle.ode_value.specs.Acts.{Act, Outcome, Aborted, ◌>>◌, gives}
use Rattle.ode_value.specs.Changes.{alters_object, changes, draws_none}
use Rattle.ode_value.specs.Denoting.{denoted}
use Rattle.ode_value.specs.Keys.{version_key}
use Rattle.ode_value.specs.Lengths.{version_size}
use Rattle.ode_value.specs.Making.{sets_field, stamp_now, with_fields}
use Rattle.ode_value.specs.Versions as versions
use Rattle.ode_value.specs.Worlds as worlds
use Rattle.ode_value.specs.declared.class.Class.{Class}
use Rattle.ode_value.specs.declared.key.Key.{Key}
use Rattle.ode_value.specs.declared.reason.Reason.{Reason}
use Rattle.ode_value.specs.declared.value.Ref.{Ref}
use Rattle.ode_value.specs.declared.value.Value.{Value}
use Rattle.ode_version_laws.proofs.PositionLaws.{written_same}
use Rattle.ode_version_laws.proofs.SpacedLaws.{altered_continues, answers_well, follows_spaced}
use Rattle.ode_version_laws.proofs.VersionLaws.{on_denoted}
use Rattle.ode_version_laws.specs.Denoting.{HasVersionsAt, IsRead}

-- the fields of a version, where a record can hold them
fields_set : (slot : ℕ) (value : Value) (v : Version) (x : Layer) → fields_with slot value v x ≡ calls.kept_now x (slice_set (values_of v.fields) slot value)
unfolding fields_with
fields_set slot value v x = refl

module _ (x : Layer) (y : NumberTx) (r : Ref) (slot : ℕ) (value : Value) (new : Option Tracked) (stands : Stands x y) (has : HasVersionsAt y r.object) where
  abbrev id : ℕ
  id = r.object

  abbrev stamp : ℕ
  stamp = x.first.added

  abbrev keys_by : ℕ → List Key
  keys_by number = version_key id number ∷ []

  abbrev set : List Value → List Value
  set fields = slice_set fields slot value

  abbrev held_by : Object → Version → ℕ × List Value → Answer (Unit {0} × Layer)
  held_by o v fields = holding (keys_by v.number) x >>= λ keys. Ok (tt, with_now id new (written v.number fields o) keys x)

  abbrev rest : Object → Version → Answer (Unit {0} × Layer)
  rest o v = fields_with slot value v x >>= held_by o v

  abbrev changed : ℕ → ℕ → List Value → worlds.Object → worlds.Object
  changed stamp number fields q = record q { versions = map (with_fields stamp number fields) q.versions }

  abbrev acts_by : ℕ → versions.Version → Act (Unit {0}) ℕ (Unit {0})
  acts_by stamp v = changes (keys_by v.number) (version_size stamp (set v.fields)) draws_none >> alters_object id (changed stamp v.number (set v.fields))

  abbrev acts : versions.Version → Act (Unit {0}) ℕ (Unit {0})
  acts v z = acts_by (stamp_now z.now.bones) v z

  abbrev Is : Answer (Unit {0} × Layer) → Outcome (Unit {0}) ℕ (Unit {0}) → Type 0
  Is = Follows y gives

  refused : (why : OverlayError) (reason : Reason) → reason_as why ≡ Some reason → Is (Err why) (Aborted reason y)
  refused why reason is = (reason, (is, refl))

  sets : (t : Tracked) (v : Version) → object_of new id x ≡ Some t → IsIn y.now id t.current → denoted y.now.bones r ≡ Ok (version_as v)
      → Follows y gives (rest t.current v) (acts (version_as v) y)
  sets t v is at denotes =
      let o = t.current in
      let fields = set (values_of v.fields) in
      as_well y gives (rest o v) (acts (version_as v) y) (acts_by stamp (version_as v) y) (ap (λ (s : ℕ). acts_by s (version_as v) y) (stamps_same x y stands))
      (answers_well y gives (rest o v) (calls.needs TooLong (are_fields stamp fields) >>= λ _. held_by o v (stamp, fields)) (acts_by stamp (version_as v) y)
      (ap (λ (a : Answer (ℕ × List Value)). a >>= held_by o v) (fields_set slot value v x) ∙ asks_first TooLong (are_fields stamp fields) (stamp, fields) (held_by o v))
      (follows_spaced x y (keys_by v.number) stands (version_part id v.number, tt) (version_size stamp fields) (are_fields stamp fields) true gives
      (λ keys. Ok (tt, with_now id new (written v.number (stamp, fields) o) keys x)) (alters_object id (changed stamp v.number fields)) (fields_room stamp fields) (
        altered id (changed stamp v.number fields) (keys_by v.number) y,
        (
          altered_stands x y id new o (written v.number (stamp, fields) o) (changed stamp v.number fields) (keys_by v.number) stands at (version_part id v.number, tt)
              (λ q. refl) (ap (λ (vs : List versions.Version). record (object_as id o) { versions = vs }) (written_same v.number 0 (stamp, fields) o.versions (has (object_as id o) at.object).rising)) refl,
          (altered_continues y id (changed stamp v.number fields) (keys_by v.number), refl),
        ),
      )))

  next : (t : Tracked) (v : Version) → object_of new id x ≡ Some t → IsIn y.now id t.current → t.current.live ≡ true → denoted y.now.bones r ≡ Ok (version_as v)
      → Is (rest t.current v) (acts (version_as v) y)
  next t v is at live denotes = sets t v is at denotes

pub writes_law : (classes : List Class) (base : Entries) (x : Layer) (y : NumberTx) (r : Ref) (slot : ℕ) (value : Value) → Stands x y → IsRead classes base x y r.object
    → HasVersionsAt y r.object → Follows y gives (write classes base r slot value x) (sets_field r slot value y)
unfolding write write_with
writes_law classes base x y r slot value stands found has =
    subst (λ (a : Answer (Option Tracked)). Follows y gives (not_null r >>= λ _. a >>= λ new. write_with new r slot value x) (sets_field r slot value y)) (sym found.read)
    (on_denoted y r (Follows y gives) (refused x y r slot value found.object stands has) (rest x y r slot value found.object stands has)
    (acts x y r slot value found.object stands has) (object_of found.object r.object x) (has_found x y r.object found.object stands found.is)
    (next x y r slot value found.object stands has))
