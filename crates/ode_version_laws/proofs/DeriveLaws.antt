-- Versions are derived, in the overlay and in the machine.
use Rattle.std.proofs.Common.{◌≡◌, ◌+◌, ℕ, List, [], ◌∷◌, nat_lt, true, Option, Some, Ok, refl, sym, ap, ◌∙◌}
use Rattle.std.proofs.lemmas.List.{map-append}
use Rattle.ode_keep.specs.Entries.{Entries}
use Rattle.ode_laws.specs.Alike.{NumberTx}
use Rattle.ode_objects.proofs.Kept.{fields_room}
use Rattle.ode_objects.specs.Objects.{derived, values_of}
use Rattle.ode_objects.specs.Values.{are_fields}
use Rattle.ode_objects.specs.declared.object.Fields.TheVariants.{Written}
use Rattle.ode_objects.specs.declared.object.Object.{Object}
use Rattle.ode_objects.specs.declared.object.Version.{Version}
use Rattle.ode_objects.specs.declared.tracked.Tracked.{Tracked}
use Rattle.ode_overlay.specs.Answers.{Answer, ◌>>=◌}
use Rattle.ode_overlay.specs.Changing as calls
use Rattle.ode_overlay.specs.Changing.{derive, derive_with, new_version, object_of, with_now}
use Rattle.ode_overlay.specs.Layers.{Layer, holding}
use Rattle.ode_overlay.specs.Reading.{not_null}
use Rattle.ode_overlay.specs.declared.error.OverlayError.TheVariants.{NoNumber, TooLong}
use Rattle.ode_overlay_laws.proofs.AlteredLaws.{altered, altered_stands, has_found}
use Rattle.ode_overlay_laws.proofs.FollowingLaws.{as_well, asks_first, finds_object, live_at, stamps_same}
use Rattle.ode_overlay_laws.proofs.KeySets.{object_part, version_part}
use Rattle.ode_overlay_laws.specs.Following.{Follows}
use Rattle.ode_overlay_laws.specs.Standing.{IsIn, Stands, object_as, version_as}
use Rattle.ode_value.specs.Acts.{Act, ◌>>◌, gives, go_on, prints}
use Rattle.ode_value.specs.Changes as machine
use Rattle.ode_value.specs.Changes.{alters_object, changes, draws_version}
use Rattle.ode_value.specs.Denoting.{denoted}
use Rattle.ode_value.specs.Keys.{object_key, version_key}
use Rattle.ode_value.specs.Lengths.{version_size}
use Rattle.ode_value.specs.Limits.{version_limit}
use Rattle.ode_value.specs.Making.{derived_from, derives, next_version, stamp_now}
use Rattle.ode_value.specs.Texts.{version_line}
use Rattle.ode_value.specs.Versions as versions
use Rattle.ode_value.specs.Worlds as worlds
use Rattle.ode_value.specs.declared.class.Class.{Class}
use Rattle.ode_value.specs.declared.key.Key.{Key}
use Rattle.ode_value.specs.declared.value.Ref.{Ref}
use Rattle.ode_value.specs.declared.value.Value.{Value}
use Rattle.ode_version_laws.proofs.SpacedLaws.{altered_continues, answers_well, follows_spaced}
use Rattle.ode_version_laws.proofs.VersionLaws.{follows_denoted}
use Rattle.ode_version_laws.specs.Denoting.{IsRead, tells_version}

-- one more version
pub derived_same : (id stamp : ℕ) (v : Version) (o : Object) → derived_from stamp (version_as v) (object_as id o) ≡ object_as id (derived v.number (stamp, values_of v.fields) o)
derived_same id stamp v o =
    ap (λ (vs : List versions.Version). record (object_as id o) { last = o.last + 1; versions = vs })
    (sym (map-append version_as o.versions (record { number = o.last + 1; parent = Some v.number; fields = Written (stamp, values_of v.fields) } ∷ [])))

module _ (x : Layer) (y : NumberTx) (r : Ref) (new : Option Tracked) (stands : Stands x y) where
  abbrev id : ℕ
  id = r.object

  abbrev stamp : ℕ
  stamp = x.first.added

  abbrev keys_by : Object → List Key
  keys_by o = object_key id ∷ version_key id (o.last + 1) ∷ []

  abbrev then_x : Object → Version → ℕ × List Value → List Key → Layer
  then_x o v fields keys = with_now id new (derived v.number fields o) keys x

  abbrev held_by : Object → Version → ℕ × List Value → Answer (Ref × Layer)
  held_by o v fields = do
    keys ← holding (keys_by o) x
    _ ← calls.needs NoNumber (nat_lt o.last version_limit)
    Ok (new_version r o, then_x o v fields keys)

  abbrev rest : Object → Version → Answer (Ref × Layer)
  rest o v = calls.kept_now x (values_of v.fields) >>= held_by o v

  abbrev change_by : ℕ → versions.Version → worlds.Object → Act (Unit {0}) ℕ Ref
  change_by stamp v q = alters_object q.id (derived_from stamp v) >> (prints (version_line (next_version q)) >> gives (next_version q))

  abbrev acts_by : ℕ → versions.Version → worlds.Object → Act (Unit {0}) ℕ Ref
  acts_by stamp v q = changes (object_key q.id ∷ version_key q.id (q.last + 1) ∷ []) (version_size stamp v.fields) (draws_version q) >> change_by stamp v q

  abbrev acts_on : versions.Version → worlds.Object → Act (Unit {0}) ℕ Ref
  acts_on v q z = acts_by (stamp_now z.now.bones) v q z

  abbrev acts : versions.Version → Act (Unit {0}) ℕ Ref
  acts v z = go_on (machine.object id z) (acts_on v)

  next : (t : Tracked) (v : Version) → object_of new id x ≡ Some t → IsIn y.now id t.current → t.current.live ≡ true → denoted y.now.bones r ≡ Ok (version_as v)
      → Follows y tells_version (rest t.current v) (acts (version_as v) y)
  next t v is at live one =
      let o = t.current in
      let fields = values_of v.fields in
      as_well y tells_version (rest o v) (acts (version_as v) y) (acts_by stamp (version_as v) (object_as id o) y)
      (finds_object y id (object_as id o) (acts_on (version_as v)) (live_at y id o at true live) ∙ ap (λ (s : ℕ). acts_by s (version_as v) (object_as id o) y) (stamps_same x y stands))
      (answers_well y tells_version (rest o v) (calls.needs TooLong (are_fields stamp fields) >>= λ _. held_by o v (stamp, fields)) (acts_by stamp (version_as v) (object_as id o) y)
      (asks_first TooLong (are_fields stamp fields) (stamp, fields) (held_by o v))
      (follows_spaced x y (keys_by o) stands (object_part id, (version_part id (o.last + 1), tt)) (version_size stamp fields) (are_fields stamp fields) (nat_lt o.last version_limit)
      tells_version (λ keys. Ok (new_version r o, then_x o v (stamp, fields) keys)) (change_by stamp (version_as v) (object_as id o)) (fields_room stamp fields) (
        altered id (derived_from stamp (version_as v)) (keys_by o) y,
        (
          altered_stands x y id new o (derived v.number (stamp, fields) o) (derived_from stamp (version_as v)) (keys_by o) stands at
              (object_part id, (version_part id (o.last + 1), tt)) (λ q. refl) (derived_same id stamp v o) refl,
          (altered_continues y id (derived_from stamp (version_as v)) (keys_by o), refl),
        ),
      )))

pub derives_law : (classes : List Class) (base : Entries) (x : Layer) (y : NumberTx) (r : Ref) → Stands x y → IsRead classes base x y r.object
    → Follows y tells_version (derive classes base r x) (derives r y)
unfolding derive derive_with
derives_law classes base x y r stands found =
    answers_well y tells_version (derive classes base r x) (not_null r >>= λ _. derive_with found.object r x) (derives r y) (ap (λ (a : Answer (Option Tracked)). not_null r >>= λ _. a >>= λ new. derive_with new r x) found.read)
    (follows_denoted y r tells_version (rest x y r found.object stands) (acts x y r found.object stands) (object_of found.object r.object x)
    (has_found x y r.object found.object stands found.is) (next x y r found.object stands))
