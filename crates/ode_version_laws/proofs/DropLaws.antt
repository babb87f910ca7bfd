-- Versions are removed, in the overlay and in the machine.
use Rattle.std.proofs.Common.{◌≡◌, ℕ, List, [], ◌∷◌, Bool, true, false, cond, length, nat_lt, Option, Some, Ok, refl, ap}
use Rattle.std.proofs.lemmas.List.{length-map}
use Rattle.ode_keep.specs.Entries.{Entries}
use Rattle.ode_laws.specs.Alike.{NumberTx}
use Rattle.ode_objects.specs.Objects.{without}
use Rattle.ode_objects.specs.declared.object.Object.{Object}
use Rattle.ode_objects.specs.declared.object.Version.{Version}
use Rattle.ode_objects.specs.declared.tracked.Tracked.{Tracked}
use Rattle.ode_overlay.specs.Answers.{Answer, ◌>>=◌}
use Rattle.ode_overlay.specs.Changing as calls
use Rattle.ode_overlay.specs.Changing.{drop_version, drop_with, object_of, with_now}
use Rattle.ode_overlay.specs.Layers.{Layer, holding}
use Rattle.ode_overlay.specs.Reading.{not_null}
use Rattle.ode_overlay.specs.declared.error.OverlayError.TheVariants as error
use Rattle.ode_overlay_laws.proofs.AlteredLaws.{altered, altered_stands, has_found}
use Rattle.ode_overlay_laws.proofs.FollowingLaws.{as_well, finds_object, follows_changes, live_at}
use Rattle.ode_overlay_laws.proofs.KeySets.{version_part}
use Rattle.ode_overlay_laws.proofs.ObjectLaws.{none_is_short}
use Rattle.ode_overlay_laws.specs.Following.{Follows}
use Rattle.ode_overlay_laws.specs.Standing.{IsIn, Stands, object_as, version_as}
use Rattle.ode_value.specs.Acts.{Act, Outcome, Done, Aborted, ◌>>◌, gives, go_on, needs}
use Rattle.ode_value.specs.Changes as machine
use Rattle.ode_value.specs.Changes.{alters_object, changes, draws_none}
use Rattle.ode_value.specs.Denoting.{denoted}
use Rattle.ode_value.specs.Keys.{version_key}
use Rattle.ode_value.specs.Making.{drops, without_version}
use Rattle.ode_value.specs.Versions as versions
use Rattle.ode_value.specs.Worlds as worlds
use Rattle.ode_value.specs.declared.class.Class.{Class}
use Rattle.ode_value.specs.declared.key.Key.{Key}
use Rattle.ode_value.specs.declared.reason.Reason.TheVariants as reason
use Rattle.ode_value.specs.declared.value.Ref.{Ref}
use Rattle.ode_version_laws.proofs.PositionLaws.{without_same}
use Rattle.ode_version_laws.proofs.SpacedLaws.{altered_continues, answers_well}
use Rattle.ode_version_laws.proofs.VersionLaws.{follows_denoted}
use Rattle.ode_version_laws.specs.Denoting.{HasVersionsAt, IsRead}

module _ (x : Layer) (y : NumberTx) (r : Ref) (new : Option Tracked) (stands : Stands x y) (has : HasVersionsAt y r.object) where
  abbrev id : ℕ
  id = r.object

  abbrev keys_by : ℕ → List Key
  keys_by number = version_key id number ∷ []

  abbrev then_x : Object → Version → List Key → Layer
  then_x o v keys = with_now id new (without v.number o) keys x

  abbrev held_by : Object → Version → Answer (Unit {0} × Layer)
  held_by o v = holding (keys_by v.number) x >>= λ keys. Ok (tt, then_x o v keys)

  abbrev rest : Object → Version → Answer (Unit {0} × Layer)
  rest o v = calls.needs (error.LastVersion id) (nat_lt 1 (length o.versions)) >>= λ _. held_by o v

  abbrev less : ℕ → worlds.Object → worlds.Object
  less number q = record q { versions = without_version number q.versions }

  abbrev change_by : ℕ → ℕ → Act (Unit {0}) ℕ (Unit {0})
  change_by n number = changes (version_key n number ∷ []) 0 draws_none >> alters_object n (less number)

  abbrev acts_on : versions.Version → worlds.Object → Act (Unit {0}) ℕ (Unit {0})
  acts_on v q = needs (reason.LastVersion q.id) (λ (z : NumberTx). nat_lt 1 (length q.versions)) >> change_by q.id v.number

  abbrev acts : versions.Version → Act (Unit {0}) ℕ (Unit {0})
  acts v z = go_on (machine.object id z) (acts_on v)

  -- by a test whether there are more versions
  abbrev tested_by : ℕ → Bool → Outcome (Unit {0}) ℕ (Unit {0})
  tested_by number b =
      let m : Outcome (Unit {0}) ℕ (Unit {0}) = cond b (Done tt y) (Aborted (reason.LastVersion id) y) in
      go_on m (λ _. change_by id number)

  by_more : (t : Tracked) (v : Version) → object_of new id x ≡ Some t → IsIn y.now id t.current → (b : Bool)
      → Follows y gives (calls.needs (error.LastVersion id) b >>= λ _. held_by t.current v) (tested_by v.number b)
  by_more t v is at true =
      let o = t.current in
      follows_changes x y (keys_by v.number) stands (version_part id v.number, tt) 0 gives (λ keys. Ok (tt, then_x o v keys)) (alters_object id (less v.number)) none_is_short (
        altered id (less v.number) (keys_by v.number) y,
        (
          altered_stands x y id new o (without v.number o) (less v.number) (keys_by v.number) stands at (version_part id v.number, tt) (λ q. refl)
              (ap (λ (vs : List versions.Version). record (object_as id o) { versions = vs }) (without_same v.number 0 o.versions (has (object_as id o) at.object).rising)) refl,
          (altered_continues y id (less v.number) (keys_by v.number), refl),
        ),
      )
  by_more t v is at false = (reason.LastVersion id, (refl, refl))

  next : (t : Tracked) (v : Version) → object_of new id x ≡ Some t → IsIn y.now id t.current → t.current.live ≡ true → denoted y.now.bones r ≡ Ok (version_as v)
      → Follows y gives (rest t.current v) (acts (version_as v) y)
  next t v is at live one =
      let o = t.current in
      as_well y gives (rest o v) (acts (version_as v) y) (acts_on (version_as v) (object_as id o) y) (finds_object y id (object_as id o) (acts_on (version_as v)) (live_at y id o at true live))
      (as_well y gives (rest o v) (acts_on (version_as v) (object_as id o) y) (tested_by v.number (nat_lt 1 (length o.versions)))
      (ap (λ (n : ℕ). tested_by v.number (nat_lt 1 n)) (length-map o.versions version_as)) (by_more t v is at (nat_lt 1 (length o.versions))))

pub drops_law : (classes : List Class) (base : Entries) (x : Layer) (y : NumberTx) (r : Ref) → Stands x y → IsRead classes base x y r.object → HasVersionsAt y r.object
    → Follows y gives (drop_version classes base r x) (drops r y)
unfolding drop_version drop_with
drops_law classes base x y r stands found has =
    answers_well y gives (drop_version classes base r x) (not_null r >>= λ _. drop_with found.object r x) (drops r y) (ap (λ (a : Answer (Option Tracked)). not_null r >>= λ _. a >>= λ new. drop_with new r x) found.read)
    (follows_denoted y r gives (rest x y r found.object stands has) (acts x y r found.object stands has) (object_of found.object r.object x)
    (has_found x y r.object found.object stands found.is) (next x y r found.object stands has))
