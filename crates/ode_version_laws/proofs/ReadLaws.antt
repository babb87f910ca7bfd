-- Objects and fields are seen in the overlay as in the machine.
use Rattle.std.proofs.Common.{◌≡◌, ◌==◌, ℕ, List, Bool, true, false, cond, map, ok_or, option_map, slice_get, Option, Some, None, Result, Ok, Err, refl, sym, ap, subst, ◌∙◌}
use Rattle.std.proofs.lemmas.Bool.{eqb-true}
use Rattle.std.specs.Option.{IsSome, option_and_then}
use Rattle.ode_heap.specs.Answering.{class_of, head_of_object}
use Rattle.ode_heap.specs.Answers as heap
use Rattle.ode_heap.specs.Answers.{Found, There}
use Rattle.ode_heap.specs.declared.object.ObjectHead.{ObjectHead}
use Rattle.ode_heap_laws.proofs.Classes.{same_numbered}
use Rattle.ode_keep.specs.Entries.{Entries}
use Rattle.ode_laws.specs.Alike.{NumberTx}
use Rattle.ode_objects.specs.Loading.{class_in, fields_in, there_at}
use Rattle.ode_objects.specs.Objects as objects
use Rattle.ode_objects.specs.Objects.{values_of}
use Rattle.ode_objects.specs.declared.object.Object.{Object}
use Rattle.ode_objects.specs.declared.object.Version.{Version}
use Rattle.ode_objects.specs.declared.tracked.Tracked.{Tracked}
use Rattle.ode_overlay.specs.Answers.{Answer, ◌>>=◌, from_records}
use Rattle.ode_overlay.specs.Layers.{Layer, tracked_at}
use Rattle.ode_overlay.specs.Reading as seen
use Rattle.ode_overlay.specs.Reading.{ReadsAs, head_at, object, or_else, read, read_at, read_below, read_now, shown, sound}
use Rattle.ode_overlay.specs.declared.error.OverlayError.TheVariants as error
use Rattle.ode_overlay_laws.proofs.FollowingLaws.{live_at}
use Rattle.ode_overlay_laws.specs.Standing.{IsIn, Stands, object_as, version_as}
use Rattle.ode_value.specs.Denoting.{denoted, if_live, object_at, object_numbered}
use Rattle.ode_value.specs.Evaluation.{field_of, with_version}
use Rattle.ode_value.specs.Keys.{object_key, version_key}
use Rattle.ode_value.specs.Masks.{value_at}
use Rattle.ode_value.specs.Versions as versions
use Rattle.ode_value.specs.Worlds as worlds
use Rattle.ode_value.specs.declared.arithmetic.Fault.{Fault}
use Rattle.ode_value.specs.declared.arithmetic.Fault.TheVariants as fault
use Rattle.ode_value.specs.declared.class.Class.{Class}
use Rattle.ode_value.specs.declared.value.Ref.{Ref}
use Rattle.ode_value.specs.declared.value.Value.{Value}
use Rattle.ode_version_laws.proofs.HeadLaws.{denoted_found, found_of, head_same, head_shown, head_sound}
use Rattle.ode_version_laws.proofs.VersionLaws.{gone_denotes, null_denotes, object_denotes, some_object, tracked_denotes}
use Rattle.ode_version_laws.specs.Denoting.{HasVersionsAt}
use Rattle.ode_version_laws.specs.Showing.{IsSettledAt, Shows, number_in, number_seen}
use Rattle.ode_versions.specs.Versions.{found, number_of}

-- ---- heads

module _ (base : Entries) (x : Layer) (y : NumberTx) (id : ℕ) (stands : Stands x y) (shows : Shows base y.first) (settled : IsSettledAt y.first id) (has : HasVersionsAt y id) where
  abbrev seen_now : Option worlds.Object → Answer (Option ObjectHead)
  seen_now o = Ok (option_map head_of_object o)

  tracked_head : (t : Tracked) → IsIn y.now id t.current → (b : Bool) → t.current.live ≡ b → shown id (cond b (Some (objects.head_of t.current)) None) ≡ seen_now (object_at y.now.bones id)
  tracked_head t at true live =
      ap (λ (h : ObjectHead). shown id (Some h)) (head_same id t.current)
      ∙ head_shown id (object_as id t.current) (has (object_as id t.current) at.object)
      ∙ sym (ap seen_now (live_at y id t.current at true live))
  tracked_head t at false dead = sym (ap seen_now (live_at y id t.current at false dead))

  first_head : (f : Option worlds.Object) → object_numbered id y.first.bones.objects ≡ f → object_numbered id y.now.bones.objects ≡ f
      → shown id (option_map head_of_object f) ≡ seen_now (object_at y.now.bones id)
  first_head None first now = sym (ap (λ (o : Option worlds.Object). seen_now (option_and_then if_live o)) now)
  first_head (Some o) first now =
      head_shown id o (has o now)
      ∙ sym (ap (λ (q : Option worlds.Object). seen_now (option_and_then if_live q)) now ∙ ap (λ (b : Bool). seen_now (cond b (Some o) None)) (settled o first).live)

  pub heads_law : object base id x ≡ Ok (option_map head_of_object (object_at y.now.bones id))
  unfolding object
  heads_law = by_tracked (tracked_at id x) refl where
    by_tracked : (f : Option Tracked) → tracked_at id x ≡ f → head_at base id f >>= shown id ≡ seen_now (object_at y.now.bones id)
    by_tracked (Some t) is = tracked_head t (stands.tracked id t is) t.current.live refl
    by_tracked None is =
        ap (λ (f : Found (Option ObjectHead)). from_records f >>= shown id) (shows.object id)
        ∙ first_head (object_numbered id y.first.bones.objects) refl (stands.others id is).object

-- ---- the version that a reference denotes

module _ (base : Entries) (x : Layer) (y : NumberTx) (r : Ref) (stands : Stands x y) (shows : Shows base y.first) (settled : IsSettledAt y.first r.object) (has : HasVersionsAt y r.object) where
  abbrev by_versions : ObjectHead → Answer ℕ
  by_versions h = or_else (error.NoVersion r) (found r.version h.versions)

  abbrev by_object : Option ObjectHead → Answer ℕ
  by_object h = or_else (error.NoObject r.object) h >>= by_versions

  abbrev Numbers : Answer ℕ → Type 0
  Numbers a = ReadsAs a (number_in (denoted y.now.bones r))

  by_version : (o : worlds.Object) → denoted y.now.bones r ≡ ok_or (versions.version_of r.version o.versions) (fault.NoVersion r) → (f : Option versions.Version)
      → versions.version_of r.version o.versions ≡ f → Numbers (or_else (error.NoVersion r) (option_map number_of f))
  by_version o denotes None is = ap number_in (denotes ∙ ap (λ (f : Option versions.Version). ok_or f (fault.NoVersion r)) is)
  by_version o denotes (Some v) is = ap number_in (denotes ∙ ap (λ (f : Option versions.Version). ok_or f (fault.NoVersion r)) is)

  by_live : (f : Option worlds.Object) → (r.object == 0) ≡ false → object_at y.now.bones r.object ≡ f → Numbers (by_object (option_map head_of_object f))
  by_live None some is = ap number_in (gone_denotes y.now.bones r is)
  by_live (Some o) some is =
      subst (λ (n : Option ℕ). Numbers (or_else (error.NoVersion r) n)) (sym (found_of r.version o))
      (by_version o (object_denotes y.now.bones r o some is) (versions.version_of r.version o.versions) refl)

  pub numbers_law : ReadsAs (number_seen base r x) (number_in (denoted y.now.bones r))
  numbers_law = by_null (r.object == 0) refl where
    by_null : (b : Bool) → (r.object == 0) ≡ b → Numbers (some_object b >>= λ _. object base r.object x >>= by_object)
    by_null true null = ap number_in (null_denotes y.now.bones r null) ∙ ap (λ (n : ℕ). Err (fault.NoObject n)) (eqb-true r.object 0 null)
    by_null false some =
        subst (λ (a : Answer (Option ObjectHead)). Numbers (a >>= by_object)) (sym (heads_law base x y r.object stands shows settled has))
        (by_live (object_at y.now.bones r.object) some refl)

-- ---- fields

module _ (base : Entries) (x : Layer) (y : NumberTx) (r : Ref) (slot : ℕ) (stands : Stands x y) (shows : Shows base y.first) (settled : IsSettledAt y.first r.object)
    (has : HasVersionsAt y r.object) where
  abbrev id : ℕ
  id = r.object

  abbrev classes : List Class
  classes = map class_of y.first.bones.classes

  abbrev by : Result versions.Version Fault → Result Value Fault
  by d = with_version d (λ v. value_at v.fields slot)

  abbrev Is : Answer Value → Result Value Fault → Type 0
  Is = ReadsAs

  reads_well : (a b : Answer Value) (m n : Result Value Fault) → a ≡ b → m ≡ n → Is b n → Is a m
  reads_well a b m n same alike reads = subst (λ (c : Answer Value). Is c m) (sym same) (subst (λ (o : Result Value Fault). Is b o) (sym alike) reads)

  slot_read : (v : versions.Version) → Is (seen.field_of slot v.fields) (value_at v.fields slot)
  slot_read v = by_value (slice_get v.fields slot) where
    by_value : (f : Option Value) → Is (or_else (error.NoObject 0) f) (ok_or f (fault.NoObject 0))
    by_value None = refl
    by_value (Some w) = refl

  gone : object_at y.now.bones id ≡ None → Is (Err (error.NoObject id)) (field_of y.now.bones slot r)
  gone none = ap by (gone_denotes y.now.bones r none)

  -- of an object that is tracked
  now_version : (o : Object) → denoted y.now.bones r ≡ ok_or (option_map version_as (objects.version_of r.version o.versions)) (fault.NoVersion r)
      → Is (or_else (error.NoVersion r) (objects.version_of r.version o.versions) >>= seen.field_in slot) (field_of y.now.bones slot r)
  now_version o denotes = by_version (objects.version_of r.version o.versions) refl where
    by_version : (f : Option Version) → objects.version_of r.version o.versions ≡ f → Is (or_else (error.NoVersion r) f >>= seen.field_in slot) (field_of y.now.bones slot r)
    by_version None is = ap by (denotes ∙ ap (λ (v : Option Version). ok_or (option_map version_as v) (fault.NoVersion r)) is)
    by_version (Some v) is =
        let one : denoted y.now.bones r ≡ Ok (version_as v) = denotes ∙ ap (λ (w : Option Version). ok_or (option_map version_as w) (fault.NoVersion r)) is in
        reads_well (seen.field_of slot (values_of v.fields)) (seen.field_of slot (values_of v.fields)) (field_of y.now.bones slot r) (value_at (values_of v.fields) slot) refl (ap by one)
        (slot_read (version_as v))

  now_object : (t : Tracked) → (r.object == 0) ≡ false → IsIn y.now id t.current → Is (read_now r slot t.current) (field_of y.now.bones slot r)
  unfolding read_now
  now_object t some at = by_live t.current.live refl where
    by_live : (b : Bool) → t.current.live ≡ b
        → Is (or_else (error.NoObject id) (cond b (Some t.current) None) >>= λ o. or_else (error.NoVersion r) (objects.version_of r.version o.versions) >>= seen.field_in slot) (field_of y.now.bones slot r)
    by_live true live = now_version t.current (tracked_denotes y r t.current some at live)
    by_live false dead = gone (live_at y id t.current at false dead)

  -- of one that isn't
  abbrev by_class : ℕ → Class → Answer Value
  by_class n class = from_records (fields_in base id n class) >>= seen.field_of slot

  abbrev by_number : worlds.Object → ℕ → Answer Value
  by_number o n = from_records (class_in classes id o.class) >>= by_class n

  abbrev by_sound : ObjectHead → Answer Value
  by_sound h = or_else (error.NoVersion r) (found r.version h.versions) >>= λ n. from_records (class_in classes id h.class) >>= by_class n

  abbrev by_head : Option ObjectHead → Answer Value
  by_head h = or_else (error.NoObject id) h >>= λ h. sound id h >>= by_sound

  first_version : (o : worlds.Object) (v : versions.Version) → object_numbered id y.first.bones.objects ≡ Some o → versions.version_numbered v.number o.versions ≡ Some v
      → by_number o v.number ≡ seen.field_of slot v.fields
  first_version o v first found = by_declared (worlds.class_numbered o.class y.first.bones.classes) refl (settled o first).class where
    by_declared : (f : Option Class) → worlds.class_numbered o.class y.first.bones.classes ≡ f → IsSome f → by_number o v.number ≡ seen.field_of slot v.fields
    by_declared None is some = absurd (cc)
    by_declared (Some c) is some =
        ap (λ (f : Option Class). from_records (there_at (object_key id) f) >>= by_class v.number) (same_numbered y.first.bones.classes o.class ∙ is)
        ∙ ap (λ (f : Found (Option (List Value))). from_records (heap.◌>>=◌ f (there_at (version_key id v.number))) >>= seen.field_of slot)
        (shows.version id v.number o c first is ∙ ap (λ (w : Option versions.Version). There (option_map (λ (u : versions.Version). u.fields) w)) found)

  first_object : (o : worlds.Object) → (r.object == 0) ≡ false → object_numbered id y.first.bones.objects ≡ Some o → object_numbered id y.now.bones.objects ≡ Some o
      → Is (by_sound (head_of_object o)) (field_of y.now.bones slot r)
  first_object o some first now =
      subst (λ (f : Option ℕ). Is (or_else (error.NoVersion r) f >>= by_number o) (field_of y.now.bones slot r)) (sym (found_of r.version o)) (by_version (versions.version_of r.version o.versions) refl) where
        is_at : object_at y.now.bones id ≡ Some o
        is_at = ap (option_and_then if_live) now ∙ ap (λ (b : Bool). cond b (Some o) None) (settled o first).live

        denotes : denoted y.now.bones r ≡ ok_or (versions.version_of r.version o.versions) (fault.NoVersion r)
        denotes = object_denotes y.now.bones r o some is_at

        by_version : (f : Option versions.Version) → versions.version_of r.version o.versions ≡ f → Is (or_else (error.NoVersion r) (option_map number_of f) >>= by_number o) (field_of y.now.bones slot r)
        by_version None is = ap by (denotes ∙ ap (λ (v : Option versions.Version). ok_or v (fault.NoVersion r)) is)
        by_version (Some v) is =
            let one : denoted y.now.bones r ≡ Ok v = denotes ∙ ap (λ (w : Option versions.Version). ok_or w (fault.NoVersion r)) is in
            reads_well (by_number o v.number) (seen.field_of slot v.fields) (field_of y.now.bones slot r) (value_at v.fields slot)
            (first_version o v first (denoted_found r.version o.versions v (has o now).rising is)) (ap by one) (slot_read v)

  first_read : (f : Option worlds.Object) → (r.object == 0) ≡ false → object_numbered id y.first.bones.objects ≡ f → object_numbered id y.now.bones.objects ≡ f
      → Is (by_head (option_map head_of_object f)) (field_of y.now.bones slot r)
  first_read None some first now = gone (ap (option_and_then if_live) now)
  first_read (Some o) some first now =
      reads_well (sound id (head_of_object o) >>= by_sound) (by_sound (head_of_object o)) (field_of y.now.bones slot r) (field_of y.now.bones slot r)
      (ap (λ (a : Answer ObjectHead). a >>= by_sound) (head_sound id o (has o now))) refl (first_object o some first now)

  by_tracked : (f : Option Tracked) → (r.object == 0) ≡ false → tracked_at id x ≡ f → Is (read_at classes base r slot f) (field_of y.now.bones slot r)
  unfolding read_below
  by_tracked (Some t) some is = now_object t some (stands.tracked id t is)
  by_tracked None some is =
      subst (λ (f : Found (Option ObjectHead)). Is (from_records f >>= by_head) (field_of y.now.bones slot r)) (sym (shows.object id))
      (first_read (object_numbered id y.first.bones.objects) some refl (stands.others id is).object)

  pub fields_law : ReadsAs (read classes base r slot x) (field_of y.now.bones slot r)
  unfolding read
  fields_law = by_null (r.object == 0) refl where
    by_null : (b : Bool) → (r.object == 0) ≡ b → Is (some_object b >>= λ _. read_at classes base r slot (tracked_at id x)) (field_of y.now.bones slot r)
    by_null true null = ap by (null_denotes y.now.bones r null) ∙ ap (λ (n : ℕ). Err (fault.NoObject n)) (eqb-true r.object 0 null)
    by_null false some = by_tracked (tracked_at id x) some refl
