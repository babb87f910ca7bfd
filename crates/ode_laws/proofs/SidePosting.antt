-- Two machines side by side: changes of objects, points, touches and firings.
use Rattle.std.proofs.Common.{◌≡◌, ℕ, suc, ◌+◌, Bool, true, false, cond, not, List, [], ◌∷◌, ◌++◌, length, Option, Some, None, refl, ap, ◌∙◌}
use Rattle.std.specs.Prelude.{nat_lt, nat_le, ◌&&◌, ◌==◌, slice_set}
use Rattle.std.specs.List.{list_any}
use Rattle.ode_value.specs.declared.event.Kind.{Kind}
use Rattle.ode_value.specs.declared.event.Kind.TheVariants.{TBegin}
use Rattle.ode_value.specs.declared.event.Mode.{Mode}
use Rattle.ode_value.specs.declared.event.Mode.TheVariants.{Immediate, Deferred, Dependent, Independent}
use Rattle.ode_value.specs.declared.key.Key.{Key}
use Rattle.ode_value.specs.declared.reason.Reason.TheVariants as reason
use Rattle.ode_value.specs.declared.statement.Stmt.{Stmt}
use Rattle.ode_value.specs.declared.value.Ref.{Ref}
use Rattle.ode_value.specs.declared.value.Value.{Value}
use Rattle.ode_value.specs.Acts.{Outcome, Done, Aborted, Act, Deed, ◌>>=◌, ◌>>◌, gives, nothing, needs, does, when, each, reads, sees, turns, prints, looks}
use Rattle.ode_value.specs.Changes.{holding, activation_keys, draws_none, changes, object, version, lives, alters_object, version_keys, draws_number, draws_version}
use Rattle.ode_value.specs.Classes.{Trigger, lists_kind}
use Rattle.ode_value.specs.Denoting.{object_at, denoted}
use Rattle.ode_value.specs.Evaluation.{Frame}
use Rattle.ode_value.specs.Firings.{arises, both_lists}
use Rattle.ode_value.specs.Keys.{object_key, version_key, activation_key}
use Rattle.ode_value.specs.Lengths.{values_length, version_size}
use Rattle.ode_value.specs.Limits.{cascade_limit, change_limit, generation_limit, queue_limit, number_limit, args_limit}
use Rattle.ode_value.specs.Making.{stamp_now, with_new, with_active, derived_from, next_version, pinned, sets_field, derives, spares, drops, removes, switches_off, makes, switches_on, sets_own}
use Rattle.ode_value.specs.Objects.{Activation}
use Rattle.ode_value.specs.Pasts.{Past}
use Rattle.ode_value.specs.Posting.{Body, frame_of, fired_text, dropped_text, waiting, enters, runs, with_deferred, defers, has_room, with_entry, collects, by_mode, treats, is_listed, is_touched, joins, posts_listed, posts, touches_first, touches}
use Rattle.ode_value.specs.Texts.{new_line, version_line, active_line}
use Rattle.ode_value.specs.Transactions.{Tx, Firing, Origin, generation_of, touching, drawing, queueing}
use Rattle.ode_value.specs.Versions.{Version}
use Rattle.ode_value.specs.Worlds.{Declared, Object, Bones}
use Rattle.ode_laws.proofs.Sides.{EndsBy, Same, Sides, altered, turned, stamp_in, set_in, dropped_from, removed, off_in}
use Rattle.ode_laws.proofs.SideActs.{Ends, Alike, lower, then_alike, next_alike, less_alike, done_alike, aborts_alike, reads_alike, sees_ends, sees_alike, finds_ends, computes_ends, needs_ends, needs_alike, cond_alike, when_alike, every_alike, prints_alike, changes_ends, changes_alike, object_alike, version_alike, lives_alike, looks_alike}
use Rattle.ode_value.specs.Footprints.{with_queue}

abbrev room_in : Origin → ℕ → ℕ → Bones → ℕ → Bool
room_in origin keys gathered first collected =
    nat_le (generation_of origin + 1) generation_limit
    && nat_lt (keys + gathered) change_limit
    && nat_le (length (waiting origin first.queue) + collected + 1) queue_limit
    && nat_lt (first.next_entry + collected) number_limit

-- both have room for a detached firing, or none has
pub room_by : {O A P B : Type 0} (cs : List Declared) (y : Tx O A) (x : Tx P B) → Same cs y x → has_room y ≡ has_room x
room_by cs y x h =
    ap (λ o. room_in o (length y.keys) y.gathered y.first.bones (length y.collected)) h.origin
    ∙ ap (λ k. room_in x.origin (length k) y.gathered y.first.bones (length y.collected)) h.keys
    ∙ ap (λ g. room_in x.origin (length x.keys) g y.first.bones (length y.collected)) h.gathered
    ∙ ap (λ b. room_in x.origin (length x.keys) x.gathered b (length y.collected)) h.first
    ∙ ap (λ c. room_in x.origin (length x.keys) x.gathered x.first.bones (length c)) h.collected

module _ {O A P B : Type 0} (s : Sides O A P B) where
  same_bones : (n : ℕ) (y : Tx O A) (x : Tx P B) → s.Related n y x → y.now.bones ≡ x.now.bones
  same_bones n y x r = (s.same n y x r).bones

  -- ---- changes of objects

  pub field_alike : (n : ℕ) (r : Ref) (place : ℕ) (value : Value) → Alike s n n (sets_field r place value) (sets_field r place value)
  field_alike n r place value y x h =
      computes_ends s n n (λ b. denoted b r) set_to set_to y x h (λ v is.
      sees_ends s n n stamp_now (stamped v) (stamped v) y x h
      (changes_ends s n n (keys_of v) (version_size (stamp_in x) (slice_set v.fields place value)) draws_none (put v (stamp_in x)) (put v (stamp_in x)) y x h (λ drawn small held.
      (refl, s.set n (holding (keys_of v) y) (holding (keys_of v) x) r v place value held is small))))
    where
      keys_of : Version → List Key
      keys_of v = version_key r.object v.number ∷ []

      put : {O A : Type 0} → Version → ℕ → Deed O A
      put v stamp = alters_object r.object (set_in stamp v place value)

      stamped : {O A : Type 0} → Version → ℕ → Deed O A
      stamped v stamp = changes (keys_of v) (version_size stamp (slice_set v.fields place value)) draws_none >> put v stamp

      set_to : {O A : Type 0} → Version → Deed O A
      set_to v = sees stamp_now >>= stamped v

  pub own_alike : (n : ℕ) (r : Ref) (place : ℕ) (value : Value) → Alike s n n (sets_own r place value) (sets_own r place value)
  own_alike n r place value =
      next_alike s n n n (looks (r.object ∷ [])) (looks (r.object ∷ [])) (looks_alike s n (r.object ∷ [])) (sets_field r place value) (sets_field r place value) (field_alike n r place value)

  pub derives_alike : (n : ℕ) (r : Ref) → Alike s n n (derives r) (derives r)
  derives_alike n r y x h =
      computes_ends s n n (λ b. denoted b r) derived derived y x h (λ v is.
      finds_ends s n n (λ b. object_at b r.object) (copied v) (copied v) y x h (λ o there.
      sees_ends s n n stamp_now (stamped v o) (stamped v o) y x h
      (changes_ends s n n (keys_of o) (version_size (stamp_in x) v.fields) (draws_version o) (put v o (stamp_in x)) (put v o (stamp_in x)) y x h (λ drawn small held.
      next_alike s n n n (prints (version_line (next_version o))) (prints (version_line (next_version o))) (prints_alike s n (version_line (next_version o)))
      (gives (next_version o)) (gives (next_version o)) (done_alike s n (next_version o))
      (altered o.id (derived_from (stamp_in x) v) (holding (keys_of o) y)) (altered o.id (derived_from (stamp_in x) v) (holding (keys_of o) x))
      (s.derive n (holding (keys_of o) y) (holding (keys_of o) x) r v o held is there drawn small)))))
    where
      keys_of : Object → List Key
      keys_of o = object_key o.id ∷ version_key o.id (o.last + 1) ∷ []

      put : {O A : Type 0} → Version → Object → ℕ → Act O A Ref
      put v o stamp = alters_object o.id (derived_from stamp v) >> (prints (version_line (next_version o)) >> gives (next_version o))

      stamped : {O A : Type 0} → Version → Object → ℕ → Act O A Ref
      stamped v o stamp = changes (keys_of o) (version_size stamp v.fields) (draws_version o) >> put v o stamp

      copied : {O A : Type 0} → Version → Object → Act O A Ref
      copied v o = sees stamp_now >>= stamped v o

      derived : {O A : Type 0} → Version → Act O A Ref
      derived v = object r.object >>= copied v

  pub spares_alike : (n : ℕ) (r : Ref) → Alike s n n (spares r) (spares r)
  spares_alike n r =
      then_alike s n n n (version r) (version r) (version_alike s n r) _ _ (λ v.
      then_alike s n n n (object r.object) (object r.object) (object_alike s n r.object) _ _ (λ o.
      next_alike s n n n (more o) (more o) (needs_alike s n (reason.LastVersion r.object) (λ z. nat_lt 1 (length o.versions)) (λ z. nat_lt 1 (length o.versions)) (λ y x h. refl)) _ _
      (done_alike s n (pinned r v.number))))
    where
      more : {O A : Type 0} → Object → Deed O A
      more o = needs (reason.LastVersion r.object) (λ z. nat_lt 1 (length o.versions))

  pub drops_alike : (n : ℕ) (r : Ref) → Alike s n n (drops r) (drops r)
  drops_alike n r y x h =
      computes_ends s n n (λ b. denoted b r) dropped dropped y x h (λ v is.
      finds_ends s n n (λ b. object_at b r.object) (cut v) (cut v) y x h (λ o there.
      needs_ends s n n (reason.LastVersion o.id) (λ z. nat_lt 1 (length o.versions)) (λ z. nat_lt 1 (length o.versions)) (changed v o) (changed v o) y x h refl (λ more.
      changes_ends s n n (version_key o.id v.number ∷ []) 0 draws_none (put v o) (put v o) y x h (λ drawn small held.
      (refl, s.drop n (holding (version_key o.id v.number ∷ []) y) (holding (version_key o.id v.number ∷ []) x) r v o held is there more)))))
    where
      put : {O A : Type 0} → Version → Object → Deed O A
      put v o = alters_object o.id (dropped_from v)

      changed : {O A : Type 0} → Version → Object → Deed O A
      changed v o = changes (version_key o.id v.number ∷ []) 0 draws_none >> put v o

      cut : {O A : Type 0} → Version → Object → Deed O A
      cut v o = needs (reason.LastVersion o.id) (λ z. nat_lt 1 (length o.versions)) >> changed v o

      dropped : {O A : Type 0} → Version → Deed O A
      dropped v = object r.object >>= cut v

  pub removes_alike : (n id : ℕ) → Alike s n n (removes id) (removes id)
  removes_alike n id y x h =
      finds_ends s n n (λ b. object_at b id) gone gone y x h (λ o there.
      changes_ends s n n (keys_of o) 0 draws_none (alters_object id removed) (alters_object id removed) y x h (λ drawn small held.
      (refl, s.remove n (holding (keys_of o) y) (holding (keys_of o) x) id held)))
    where
      keys_of : Object → List Key
      keys_of o = object_key id ∷ version_keys o ++ activation_keys o

      gone : {O A : Type 0} → Object → Deed O A
      gone o = changes (keys_of o) 0 draws_none >> alters_object id removed

  pub switches_off_alike : (n id : ℕ) (a : Activation) → Alike s n n (switches_off id a) (switches_off id a)
  switches_off_alike n id a y x h =
      changes_ends s n n (activation_key id a.number ∷ []) 0 draws_none (alters_object id (off_in a.number)) (alters_object id (off_in a.number)) y x h (λ drawn small held.
      (refl, s.off n (holding (activation_key id a.number ∷ []) y) (holding (activation_key id a.number ∷ []) x) id a.number held))

  pub makes_alike : (n class : ℕ) (fields : List Value) → Alike s (suc n) n (makes s.past class fields) (makes s.other class fields)
  makes_alike n class fields =
      sees_alike s (suc n) n (λ b. b.next) (making s.past) (making s.other) (λ id y x h.
      sees_ends s (suc n) n stamp_now (stamped s.past id) (stamped s.other id) y x h
      (changes_ends s (suc n) n (keys_of id) (version_size (stamp_in x) fields) draws_number (put s.past id) (put s.other id) y x h (λ drawn small held.
      next_alike s n n n (looks (id ∷ [])) (looks (id ∷ [])) (looks_alike s n (id ∷ [])) (told id) (told id)
      (next_alike s n n n (prints (new_line id)) (prints (new_line id)) (prints_alike s n (new_line id)) (gives id) (gives id) (done_alike s n id))
      (touching id (turned (with_new s.past class fields) (holding (keys_of id) (drawing true y)))) (touching id (turned (with_new s.other class fields) (holding (keys_of id) (drawing true x))))
      (s.touch n (turned (with_new s.past class fields) (holding (keys_of id) (drawing true y))) (turned (with_new s.other class fields) (holding (keys_of id) (drawing true x))) id
      (s.new (suc n) (holding (keys_of id) (drawing true y)) (holding (keys_of id) (drawing true x)) class fields held drawn small)))))
    where
      keys_of : ℕ → List Key
      keys_of id = object_key id ∷ version_key id 1 ∷ []

      told : {O A : Type 0} → ℕ → Act O A ℕ
      told id = prints (new_line id) >> gives id

      put : {O A : Type 0} → Past O A → ℕ → Act O A ℕ
      put past id = turns (with_new past class fields) >> (does (touching id) >> (looks (id ∷ []) >> told id))

      stamped : {O A : Type 0} → Past O A → ℕ → ℕ → Act O A ℕ
      stamped past id stamp = changes (keys_of id) (version_size stamp fields) draws_number >> put past id

      making : {O A : Type 0} → Past O A → ℕ → Act O A ℕ
      making past id = sees stamp_now >>= stamped past id

  pub switches_on_alike : (n id : ℕ) (t : Trigger) (args : List Value) → s.Known t
      → Alike s n n (switches_on s.past id t args) (switches_on s.other id t args)
  switches_on_alike n id t args known =
      sees_alike s n n (λ b. b.next) (switching s.past) (switching s.other) (λ number y x h.
      needs_ends s n n reason.Size (λ z. nat_le (values_length args) args_limit) (λ z. nat_le (values_length args) args_limit) (changed s.past number) (changed s.other number) y x h refl (λ short.
      changes_ends s n n (activation_key id number ∷ []) 0 draws_number (put s.past number) (put s.other number) y x h (λ drawn small held.
      next_alike s n n n (prints (active_line number)) (prints (active_line number)) (prints_alike s n (active_line number)) (gives number) (gives number) (done_alike s n number)
      (turned (with_active s.past id t args) (holding (activation_key id number ∷ []) (drawing true y))) (turned (with_active s.other id t args) (holding (activation_key id number ∷ []) (drawing true x)))
      (s.active n (holding (activation_key id number ∷ []) (drawing true y)) (holding (activation_key id number ∷ []) (drawing true x)) id t args held drawn short known))))
    where
      put : {O A : Type 0} → Past O A → ℕ → Act O A ℕ
      put past number = turns (with_active past id t args) >> (prints (active_line number) >> gives number)

      changed : {O A : Type 0} → Past O A → ℕ → Act O A ℕ
      changed past number = changes (activation_key id number ∷ []) 0 draws_number >> put past number

      switching : {O A : Type 0} → Past O A → ℕ → Act O A ℕ
      switching past number = needs reason.Size (λ z. nat_le (values_length args) args_limit) >> changed past number

  -- ---- firings

  -- two levels of actions
  abbrev pub Levels : Option (Body O A) → Option (Body P B) → Type 0
  Levels None None = Unit {0}
  Levels (Some f) (Some g) = (n : ℕ) (body : List Stmt) (frame : Frame) → Alike s n n (f body frame) (g body frame)
  Levels None (Some g) = ⊥
  Levels (Some f) None = ⊥

  pub enters_alike : (n : ℕ) (d : Option (Body O A)) (e : Option (Body P B)) → Levels d e → (body : List Stmt) (frame : Frame) → Alike s n n (enters d body frame) (enters e body frame)
  enters_alike n None None levels body frame = aborts_alike s (Option Value) n n reason.Depth
  enters_alike n (Some f) (Some g) levels body frame = levels n body frame
  enters_alike n None (Some g) levels body frame = absurd levels
  enters_alike n (Some f) None levels body frame = absurd levels

  pub runs_alike : (n : ℕ) (d : Option (Body O A)) (e : Option (Body P B)) → Levels d e → (f : Firing) → Alike s n n (runs d f) (runs e f)
  unfolding runs
  runs_alike n d e levels f =
      next_alike s n n n (prints (fired_text f)) (prints (fired_text f)) (prints_alike s n (fired_text f)) (lives f.object >> acts d) (lives f.object >> acts e)
      (next_alike s n n n (lives f.object) (lives f.object) (lives_alike s n f.object) (acts d) (acts e)
      (then_alike s n n n (enters d f.trigger.decl.action (frame_of f)) (enters e f.trigger.decl.action (frame_of f)) (enters_alike n d e levels f.trigger.decl.action (frame_of f)) (λ _. nothing) (λ _. nothing) (λ _. done_alike s n tt)))
    where
      acts : {O A : Type 0} → Option (Body O A) → Deed O A
      acts d = enters d f.trigger.decl.action (frame_of f) >>= λ _. nothing

  pub defers_alike : (n : ℕ) (f : Firing) → Alike s n n (defers f) (defers f)
  defers_alike n f y x r =
      needs_ends s n n reason.Cascade (λ z. nat_lt (length z.deferred) cascade_limit) (λ z. nat_lt (length z.deferred) cascade_limit) (does (with_deferred f)) (does (with_deferred f)) y x r
      (ap (λ d. nat_lt (length d) cascade_limit) (s.same n y x r).deferred) (λ more. (refl, s.defer n y x f r more))

  room_same : (n : ℕ) (y : Tx O A) (x : Tx P B) → s.Related n y x → has_room y ≡ has_room x
  room_same n y x r = room_by s.classes y x (s.same n y x r)

  pub collects_alike : (n : ℕ) (independent : Bool) (f : Firing) → Alike s n n (collects prints independent f) (collects prints independent f)
  collects_alike n independent f y x r = by_room (has_room y) (has_room x) (room_same n y x r) refl where
    queued : s.Related n (queueing y) (queueing x)
    queued = s.foot n y x with_queue r

    by_room : (b c : Bool) → b ≡ c → has_room x ≡ c
        → Ends s n (cond b (does (with_entry independent f)) (prints (dropped_text f)) (queueing y)) (cond c (does (with_entry independent f)) (prints (dropped_text f)) (queueing x))
    by_room true true e room = (refl, s.collect n (queueing y) (queueing x) independent f queued room)
    by_room false false e room = prints_alike s n (dropped_text f) (queueing y) (queueing x) queued
    by_room true false e room = absurd (cc)
    by_room false true e room = absurd (cc)

  mode_alike : (n : ℕ) (d : Option (Body O A)) (e : Option (Body P B)) → Levels d e → (f : Firing) (m : Mode) → Alike s n n (by_mode d f m) (by_mode e f m)
  mode_alike n d e levels f Immediate = runs_alike n d e levels f
  mode_alike n d e levels f Deferred = defers_alike n f
  mode_alike n d e levels f Dependent = collects_alike n false f
  mode_alike n d e levels f Independent = collects_alike n true f

  pub treats_alike : (n : ℕ) (d : Option (Body O A)) (e : Option (Body P B)) → Levels d e → (f : Firing) → Alike s n n (treats d f) (treats e f)
  unfolding treats
  treats_alike n d e levels f = mode_alike n d e levels f f.trigger.decl.mode

  -- ---- points and touches

  pub listed_alike : (n id : ℕ) (kind : Kind) → Alike s n n (is_listed id kind) (is_listed id kind)
  listed_alike n id kind y x r =
      finds_ends s n n (λ b. object_at b id) (λ o. sees (λ b. lists_kind b.classes o.class kind)) (λ o. sees (λ b. lists_kind b.classes o.class kind)) y x r
      (λ o there. (ap (λ b. lists_kind b.classes o.class kind) (same_bones n y x r), r))

  arises_alike : (n id : ℕ) (kind : Kind) (args : List Value) → Alike s n n (arises s.past (both_lists s.past) id kind args) (arises s.other (both_lists s.other) id kind args)
  arises_alike n id kind args y x r = eased (arises s.past (both_lists s.past) id kind args y) (arises s.other (both_lists s.other) id kind args x) (s.point n y x id kind args r) where
    eased : {X : Type 0} (p : Outcome O A X) (q : Outcome P B X) → EndsBy (s.Related n) (s.Related n) p q → Ends s n p q
    eased (Done r y) (Done t x) h = h
    eased (Aborted r y) (Aborted t x) h = (h.0, lower s n y x h.1)
    eased (Done r y) (Aborted t x) h = absurd h
    eased (Aborted r y) (Done t x) h = absurd h

  pub posts_alike : (n : ℕ) (d : Option (Body O A)) (e : Option (Body P B)) → Levels d e → (id : ℕ) (kind : Kind) (args : List Value)
      → Alike s n n (posts s.past d id kind args) (posts s.other e id kind args)
  unfolding posts
  posts_alike n d e levels id kind args =
      then_alike s n n n (is_listed id kind) (is_listed id kind) (listed_alike n id kind) (λ listed. when listed (posts_listed s.past d id kind args)) (λ listed. when listed (posts_listed s.other e id kind args)) (λ listed.
      when_alike s n listed (posts_listed s.past d id kind args) (posts_listed s.other e id kind args)
      (then_alike s n n n (arises s.past (both_lists s.past) id kind args) (arises s.other (both_lists s.other) id kind args) (arises_alike n id kind args) (each (treats d)) (each (treats e)) (λ firings.
      every_alike s n (treats d) (treats e) (treats_alike n d e levels) firings)))

  joins_alike : (n id : ℕ) → Alike s (suc n) n (joins id) (joins id)
  joins_alike n id =
      then_alike s (suc n) (suc n) n (object id) (object id) (object_alike s (suc n) id) (λ o. changes (activation_keys o) 0 draws_none >> does (touching id)) (λ o. changes (activation_keys o) 0 draws_none >> does (touching id)) (λ o.
      next_alike s (suc n) (suc n) n (changes (activation_keys o) 0 draws_none) (changes (activation_keys o) 0 draws_none) (changes_alike s (suc n) (activation_keys o) 0 draws_none)
      (does (touching id)) (does (touching id)) (λ y x r. (refl, s.touch n y x id r)))

  pub touches_alike : (n : ℕ) (d : Option (Body O A)) (e : Option (Body P B)) → Levels d e → (id : ℕ) → Alike s (suc n) n (touches s.past d id) (touches s.other e id)
  unfolding touches
  touches_alike n d e levels id =
      next_alike s (suc n) (suc n) n (lives id) (lives id) (lives_alike s (suc n) id)
      (reads (is_touched id) >>= λ touched. when (not touched) (touches_first s.past d id)) (reads (is_touched id) >>= λ touched. when (not touched) (touches_first s.other e id))
      (reads_alike s (suc n) n (is_touched id) (is_touched id) (λ y x r. ap (λ ids. list_any (λ i. i == id) ids) (s.same (suc n) y x r).touched)
      (λ touched. when (not touched) (touches_first s.past d id)) (λ touched. when (not touched) (touches_first s.other e id)) (λ touched.
      cond_alike s (suc n) n (not touched) (touches_first s.past d id) nothing (touches_first s.other e id) nothing
      (next_alike s (suc n) n n (joins id) (joins id) (joins_alike n id) (posts s.past d id TBegin []) (posts s.other e id TBegin []) (posts_alike n d e levels id TBegin []))
      (less_alike s n n nothing nothing (done_alike s n tt))))
