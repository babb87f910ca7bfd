-- Points, touches and firings come to the same.
use Rattle.std.proofs.Common.{◌≡◌, ℕ, ◌+◌, Bool, true, false, cond, not, List, [], length, Option, Some, None, refl, sym, ap, ◌∙◌, subst}
use Rattle.std.specs.Prelude.{◌==◌, ◌&&◌, nat_le, nat_lt}
use Rattle.std.specs.List.{list_any}
use Rattle.std.specs.Option.{option_map_or}
use Rattle.ode_footprint_laws.proofs.Depends.{Anything, Depends, Ends, aborts_in, cond_in, does_in, done_in, each_in, found_ends, map_in, needs_in, next_in, reads_in, then_in, when_in, weaken_in}
use Rattle.ode_footprint_laws.proofs.DependsMaking.{activations_keys, changes_ends, found_id}
use Rattle.ode_footprint_laws.proofs.DependsReading.{agreed_live, lives_in, object_in, prints_in}
use Rattle.ode_footprint_laws.proofs.Grows.{ListAct, ListDeed, changes_grow, found_grow, grown_self, grows_then, queue_grows}
use Rattle.ode_footprint_laws.proofs.Meets.{Meets, Steady}
use Rattle.ode_footprint_laws.specs.Agreeing.{Agree, IsAmong}
use Rattle.ode_footprint_laws.specs.Growing.{Grown}
use Rattle.ode_laws.proofs.AlikeWork.{after_gentle}
use Rattle.ode_laws.proofs.Sides.{turned}
use Rattle.ode_value.specs.declared.event.Kind.{Kind}
use Rattle.ode_value.specs.declared.event.Kind.TheVariants.{TBegin}
use Rattle.ode_value.specs.declared.event.Mode.{Mode}
use Rattle.ode_value.specs.declared.event.Mode.TheVariants.{Immediate, Deferred, Dependent, Independent}
use Rattle.ode_value.specs.declared.reason.Reason.TheVariants as reason
use Rattle.ode_value.specs.declared.statement.Stmt.{Stmt}
use Rattle.ode_value.specs.declared.value.Value.{Value}
use Rattle.ode_value.specs.Acts.{◌>>=◌, ◌>>◌, gives, nothing, needs, does, when, each, reads, sees, turns, prints}
use Rattle.ode_value.specs.Changes.{activation_keys, alters_object, changes, draws_none, holding, lives, object}
use Rattle.ode_value.specs.Classes.{lists_kind}
use Rattle.ode_value.specs.Denoting.{object_at}
use Rattle.ode_value.specs.Evaluation.{Frame}
use Rattle.ode_value.specs.Firings.{Place, arises, both_lists, fired, fired_in, new_point, object_after, with_point}
use Rattle.ode_value.specs.Footprints.{Footprint, with_queue}
use Rattle.ode_value.specs.Language.{ListTx}
use Rattle.ode_value.specs.Limits.{cascade_limit, change_limit, generation_limit, number_limit, queue_limit}
use Rattle.ode_value.specs.Objects.{Histories, Starts}
use Rattle.ode_value.specs.Pasts.{lists}
use Rattle.ode_value.specs.Posting.{Body, by_mode, collects, defers, dropped_text, enters, fired_text, frame_of, has_room, is_listed, is_touched, joins, posts, posts_listed, runs, touches, touches_first, treats, waiting, with_deferred, with_entry}
use Rattle.ode_value.specs.Transactions.{Firing, Origin, generation_of, queueing, touching}
use Rattle.ode_value.specs.Worlds.{Object, kept_at}

-- what the room for a detached firing is told by
abbrev room_in : Origin → (keys gathered waits collected next : ℕ) → Bool
room_in origin keys gathered waits collected next =
    nat_le (generation_of origin + 1) generation_limit
    && nat_lt (keys + gathered) change_limit
    && nat_le (waits + collected + 1) queue_limit
    && nat_lt (next + collected) number_limit

room_agreed : (f : Footprint) (y x : ListTx) → Agree f y x → f.queued ≡ true → has_room y ≡ has_room x
room_agreed f y x a queued =
    ap (λ o. room_in o (length y.keys) y.gathered (length (waiting o y.first.bones.queue)) (length y.collected) y.first.bones.next_entry) a.origin
    ∙ ap (λ k. room_in x.origin (length k) y.gathered (length (waiting x.origin y.first.bones.queue)) (length y.collected) y.first.bones.next_entry) a.keys
    ∙ ap (λ g. room_in x.origin (length x.keys) g (length (waiting x.origin y.first.bones.queue)) (length y.collected) y.first.bones.next_entry) a.gathered
    ∙ ap (λ w. room_in x.origin (length x.keys) x.gathered w (length y.collected) y.first.bones.next_entry) (a.first.waiting queued)
    ∙ ap (λ c. room_in x.origin (length x.keys) x.gathered (length (waiting x.origin x.first.bones.queue)) (length c) y.first.bones.next_entry) a.collected
    ∙ ap (λ n. room_in x.origin (length x.keys) x.gathered (length (waiting x.origin x.first.bones.queue)) (length x.collected) n) (a.first.next_entry queued)

module _ {f : Footprint} (m : Meets f) where
  -- a detached firing is collected, or dropped with a line that is said so
  pub collects_in : {Pre : Type 0} (says : List ℕ → ListDeed) → ((line : List ℕ) → Depends m (Unit {0}) Anything (says line)) → (independent : Bool) (g : Firing) → Depends m Pre Anything (collects says independent g)
  collects_in says said independent g =
      next_in m (does queueing) (reads has_room >>= chosen) (does_in m queueing (λ x. queue_grows x.footprint) (λ k y x h. m.foot y x with_queue h) queued_then) (λ k. k)
      (reads_in m has_room chosen (λ k y x a. room_agreed f y x a k.1) (λ room.
      cond_in m room (does (with_entry independent g)) (says (dropped_text g)) (does_in m (with_entry independent g) (λ x. grown_self x.footprint) (λ k y x h. m.collect y x independent g h k.1) (λ x reached. tt)) (weaken_in m (said (dropped_text g)) (λ k. tt))))
    where
      chosen : Bool → ListDeed
      chosen room = cond room (does (with_entry independent g)) (says (dropped_text g))

      queued_then : (x : ListTx) → Grown (queueing x).footprint f → f.queued ≡ true
      queued_then x reached = reached.queued refl

  pub listed_in : (id : ℕ) (kind : Kind) → Depends m (IsAmong id f.looked) Anything (is_listed id kind)
  listed_in id kind =
      then_in m (object id) (λ o. sees (λ b. lists_kind b.classes o.class kind)) (object_in m id) (λ k. k) (λ o.
      reads_in m (λ x. lists_kind x.now.bones.classes o.class kind) gives (λ k y x a. ap (λ cs. lists_kind cs o.class kind) a.now.classes) (λ l. done_in m l (λ k. tt)))

  -- a point arises, and the same firings are decided
  pub arises_in : (place : Place Histories Starts) (id : ℕ) (kind : Kind) (args : List Value) → Depends m (IsAmong id f.looked) Anything (arises lists place id kind args)
  arises_in place id kind args = record {
    grows = grows_then (object id) pointing (λ x. found_grow (object_at x.now.bones id) x) (λ o x. grown_self x.footprint);
    alike = λ among y x h reached.
        found_ends m Anything (object_at y.now.bones id) (object_at x.now.bones id) (agreed_live f y x (m.agree y x h) id among) pointing y x h reached (λ o there reached.
        pointed o y x (subst (λ n. IsAmong n f.looked) (sym (found_id x.now.bones id o there)) among) among (m.point y x place id (new_point kind args o) o h among there));
  }
    where
      pointed_by : Object → ListTx → ListTx
      pointed_by o = turned (with_point lists place (new_point kind args o) o)

      pointing : Object → ListAct (List Firing)
      pointing o =
          turns (with_point lists place (new_point kind args o) o) >> (reads (λ x. fired lists place o x.now) >>= λ firings. alters_object id (object_after firings) >> gives firings)

      altering : List Firing → ListAct (List Firing)
      altering firings = alters_object id (object_after firings) >> gives firings

      fired_same : (o : Object) (v w : ListTx) → IsAmong o.id f.looked → Agree f v w → fired lists place o v.now ≡ fired lists place o w.now
      fired_same o v w among a =
          ap (λ cs. option_map_or (fired_in lists place o cs) (kept_at o.id v.now.pasts) []) a.now.classes
          ∙ ap (λ k. option_map_or (fired_in lists place o w.now.bones.classes) k []) (a.now.objects o.id among).past

      pointed : (o : Object) (y x : ListTx) → IsAmong o.id f.looked → IsAmong id f.looked → m.Related (pointed_by o y) (pointed_by o x) → Ends m Anything (pointing o y) (pointing o x)
      pointed o y x itself among h =
          subst (λ fs. Ends m Anything (altering fs (pointed_by o y)) (pointing o x)) (sym (fired_same o (pointed_by o y) (pointed_by o x) itself (m.agree (pointed_by o y) (pointed_by o x) h)))
          (refl, tt, m.alter (pointed_by o y) (pointed_by o x) id (object_after (fired lists place o (pointed_by o x).now)) h among (after_gentle (fired lists place o (pointed_by o x).now)))

module _ {f : Footprint} (s : Steady f) where
  abbrev m' : Meets f
  m' = s.meets

  -- a level of actions
  abbrev pub Level : Option (Body Histories Starts) → Type 0
  Level None = Unit {0}
  Level (Some run) = (body : List Stmt) (frame : Frame) → Depends m' (Unit {0}) Anything (run body frame)

  enters_in : {Pre : Type 0} (d : Option (Body Histories Starts)) → Level d → (body : List Stmt) (frame : Frame) → Depends m' Pre Anything (enters d body frame)
  enters_in None level body frame = aborts_in m' reason.Depth
  enters_in (Some run) level body frame = weaken_in m' (level body frame) (λ k. tt)

  -- ---- firings

  pub runs_in : {Pre : Type 0} (d : Option (Body Histories Starts)) → Level d → (g : Firing) → Depends m' Pre Anything (runs d g)
  unfolding runs
  runs_in d level g =
      next_in m' (prints (fired_text g)) (lives g.object >> acts) (prints_in m' (fired_text g)) (λ k. k)
      (next_in m' (lives g.object) acts (lives_in m' g.object) (λ k. tt)
      (then_in m' (enters d g.trigger.decl.action (frame_of g)) (λ _. nothing) (enters_in d level g.trigger.decl.action (frame_of g)) (λ k. k) (λ v. done_in m' tt (λ k. tt))))
    where
      acts : ListDeed
      acts = enters d g.trigger.decl.action (frame_of g) >>= λ _. nothing

  defers_in : {Pre : Type 0} (g : Firing) → Depends m' Pre Anything (defers g)
  defers_in g =
      next_in m' (needs reason.Cascade (λ x. nat_lt (length x.deferred) cascade_limit)) (does (with_deferred g))
      (needs_in m' reason.Cascade (λ x. nat_lt (length x.deferred) cascade_limit) (λ k y x a. ap (λ d. nat_lt (length d) cascade_limit) a.deferred)) (λ k. k)
      (does_in m' (with_deferred g) (λ x. grown_self x.footprint) (λ k y x h. s.defer y x g h) (λ x reached. tt))

  mode_in : {Pre : Type 0} (d : Option (Body Histories Starts)) → Level d → (g : Firing) (mode : Mode) → Depends m' Pre Anything (by_mode d g mode)
  mode_in d level g Immediate = runs_in d level g
  mode_in d level g Deferred = defers_in g
  mode_in d level g Dependent = collects_in m' prints (prints_in m') false g
  mode_in d level g Independent = collects_in m' prints (prints_in m') true g

  treats_in : {Pre : Type 0} (d : Option (Body Histories Starts)) → Level d → (g : Firing) → Depends m' Pre Anything (treats d g)
  unfolding treats
  treats_in d level g = mode_in d level g g.trigger.decl.mode

  -- ---- points and touches

  pub posts_in : (d : Option (Body Histories Starts)) → Level d → (id : ℕ) (kind : Kind) (args : List Value) → Depends m' (IsAmong id f.looked) Anything (posts lists d id kind args)
  unfolding posts
  posts_in d level id kind args =
      then_in m' (is_listed id kind) (λ listed. when listed (posts_listed lists d id kind args)) (listed_in m' id kind) (λ k. k) (λ listed.
      when_in m' listed (posts_listed lists d id kind args)
      (then_in m' (arises lists (both_lists lists) id kind args) (each (treats d)) (arises_in m' (both_lists lists) id kind args) (λ k. k.0) (λ firings.
      each_in m' (treats d) (treats_in d level) firings)))

  joins_in : (id : ℕ) → Depends m' (IsAmong id f.looked) Anything (joins id)
  joins_in id = record {
    grows = grows_then (object id) joining (λ x. found_grow (object_at x.now.bones id) x) (λ o.
        grows_then (changes (activation_keys o) 0 draws_none) (λ _. does (touching id)) (changes_grow (activation_keys o) 0 draws_none) (λ u x. grown_self x.footprint));
    alike = λ among y x h reached.
        found_ends m' Anything (object_at y.now.bones id) (object_at x.now.bones id) (agreed_live f y x (m'.agree y x h) id among) joining y x h reached (λ o there reached.
        changes_ends s Anything (activation_keys o) 0 draws_none (does (touching id)) y x h refl reached (λ reached.
        (refl, tt, s.touch (holding (activation_keys o) y) (holding (activation_keys o) x) id (s.hold y x id o (activation_keys o) h among there (activations_keys o)) among)));
  }
    where
      joining : Object → ListDeed
      joining o = changes (activation_keys o) 0 draws_none >> does (touching id)

  first_touch_in : (d : Option (Body Histories Starts)) → Level d → (id : ℕ) → Depends m' (IsAmong id f.looked) Anything (touches_first lists d id)
  first_touch_in d level id = next_in m' (joins id) (posts lists d id TBegin []) (joins_in id) (λ among. among) (weaken_in m' (posts_in d level id TBegin []) (λ k. k.0))

  pub touches_in : {Pre : Type 0} (d : Option (Body Histories Starts)) → Level d → (id : ℕ) → Depends m' Pre (λ u. IsAmong id f.looked) (touches lists d id)
  unfolding touches
  touches_in d level id =
      next_in m' (lives id) (reads (is_touched id) >>= first) (lives_in m' id) (λ k. tt)
      (reads_in m' (is_touched id) first (λ k y x a. ap (λ ids. list_any (λ n. n == id) ids) a.touched) (λ touched.
      map_in m' (when_in m' (not touched) (touches_first lists d id) (first_touch_in d level id)) (λ k. k.1) (λ u k known. k.1)))
    where
      first : Bool → ListDeed
      first touched = when (not touched) (touches_first lists d id)
