-- Points, firings and touches of typed transactions.
use Rattle.std.proofs.Common.{◌≡◌, ℕ, ◌+◌, ◌<◌, ◌≤◌, ◌^◌, Bool, true, false, cond, not, List, [], ◌∷◌, length, ◌==◌, Option, Some, None, refl, sym, ap, ◌∙◌, subst, arith}
use Rattle.std.specs.Prelude.{nat_lt, ◌&&◌, is_some, slice_get}
use Rattle.std.specs.List.{AllByRecursion, AllZip, filter, find, flat_map}
use Rattle.std.specs.Option.{IfSome, IsSomeAnd, option_map_or}
use Rattle.std.proofs.lemmas.Bool.{and_parts, eqb-true}
use Rattle.std.proofs.lemmas.Option.{slice_get-map}
use Rattle.ode_value.specs.declared.binding.Param.{Param}
use Rattle.ode_value.specs.declared.event.Kind.{Kind}
use Rattle.ode_value.specs.declared.event.Kind.TheVariants.{TBegin}
use Rattle.ode_value.specs.declared.event.Mode.{Mode}
use Rattle.ode_value.specs.declared.event.Mode.TheVariants.{Immediate, Deferred, Dependent, Independent}
use Rattle.ode_value.specs.declared.reason.Reason.TheVariants as reason
use Rattle.ode_value.specs.declared.statement.Sort.{Sort}
use Rattle.ode_value.specs.declared.statement.Sort.TheVariants as sort
use Rattle.ode_value.specs.declared.statement.Stmt.{Stmt}
use Rattle.ode_value.specs.declared.value.Value.{Value}
use Rattle.ode_value.specs.Acts.{Act, Deed, ◌>>=◌, ◌>>◌, gives, nothing, does, when, each, reads, sees, turns, prints}
use Rattle.ode_value.specs.Changes.{holding, activation_keys, draws_none, changes, is_live, lives, alters_object, there}
use Rattle.ode_value.specs.Classes.{Trigger, triggers_of, trigger_at, lists_kind}
use Rattle.ode_value.specs.Denoting.{object_numbered, object_at}
use Rattle.ode_value.specs.Evaluation.{Frame}
use Rattle.ode_value.specs.Firings.{is_of, firing_of, object_after, Place, both_lists, with_point, is_firing, fired_by, fired_in, fired, new_point, arises}
use Rattle.ode_value.specs.Fitting.{FitsSort, FitTrigger, HaveTrigger, trigger_in}
use Rattle.ode_value.specs.Limits.{cascade_limit}
use Rattle.ode_value.specs.Objects.{Activation}
use Rattle.ode_value.specs.Pasts.{Past, Kept}
use Rattle.ode_value.specs.Posting.{Body, frame_of, entry_of, fired_text, dropped_text, enters, runs, with_deferred, defers, has_room, with_entry, collects, by_mode, treats, is_listed, is_touched, joins, posts_listed, posts, touches_first, touches}
use Rattle.ode_value.specs.Transactions.{Tx, Firing, Collected, generation_of, touching, looking, queueing}
use Rattle.ode_value.specs.Worlds.{Declared, Object, Bones, kept_at}
use Rattle.ode_laws.proofs.AlikePairs.{altered_bones, all_found}
use Rattle.ode_laws.proofs.Each.{all-append, all-map, all-then, all-passing, all-filter, all-find}
use Rattle.ode_laws.proofs.Rows.{at_numbered, numbered_id}
use Rattle.ode_laws.proofs.Sides.{altered, turned}
use Rattle.ode_sound_laws.specs.Typed.{IsTyped}
use Rattle.ode_sound_laws.specs.Fits.{all_alive, Fits, FitSlots, FitsFrame, FitsWorld, FitsEntry, FitsFiring, AreFit}
use Rattle.ode_types.specs.Kept.{Setting, member_setting, held, is_body}
use Rattle.ode_sound_laws.specs.Sound.{AreSound, IsTypedIn, IsSoundTrigger, activation_by, checked_classes}
use Rattle.ode_sound_laws.proofs.Basics.{some_and, and_some, map_some, same_some, found_same, zip_at}
use Rattle.ode_sound_laws.proofs.ExprLaws.{sort_fits, find_passes}
use Rattle.ode_sound_laws.proofs.FitLaws.{firing_follows}
use Rattle.ode_sound_laws.proofs.GrowLaws.{grows_itself, mild_grows, altered_fit, after_mild, after_fits}
use Rattle.ode_sound_laws.proofs.WalkActs.{Any, typed_as, typed_now, Ends, ends_then, ends_done, found_ends, needs_ends, when_ends, each_ends, changes_ends, prints_ends, foot_typed, look_typed}
use Rattle.ode_sound_laws.proofs.WalkMaking.{reference_fits}
use Rattle.ode_value.specs.Footprints.{with_queue}

-- ---- firings

pub all-flat : {X Y : Type 0} (P : X → Type 0) (Q : Y → Type 0) (f : X → List Y) → ((x : X) → P x → AllByRecursion Q (f x)) → (xs : List X) → AllByRecursion P xs → AllByRecursion Q (flat_map f xs)
all-flat P Q f each [] all = tt
all-flat P Q f each (x ∷ xs) all = all-append Q (f x) (flat_map f xs) (each x all.0) (all-flat P Q f each xs all.1)

-- an activation of a trigger is found by the trigger's place
pub trigger_same : (cs : List Declared) (n : ℕ) (t : Trigger) (a : Activation) → is_of t a ≡ true → trigger_in cs n a ≡ trigger_in cs n (activation_by t)
trigger_same cs n t a is =
    let parts = and_parts (a.class == t.class) (a.trigger == t.place) is in
    ap (λ c. find (λ (u : Trigger). (c == u.class) && (a.trigger == u.place)) (triggers_of cs n)) (eqb-true a.class t.class parts.0)
    ∙ ap (λ p. find (λ (u : Trigger). (t.class == u.class) && (p == u.place)) (triggers_of cs n)) (eqb-true a.trigger t.place parts.1)

module _ (b : Bones) (sound : AreSound b.classes) (fit : AreFit b) where
  firing_fits : (o : Object) → object_numbered o.id b.objects ≡ Some o → FitsWorld b o → (t : Trigger) → IsSoundTrigger b.classes o.class t → (a : Activation) → is_of t a ≡ true
      → HaveTrigger (all_alive b) a.args (trigger_in b.classes o.class a) → FitsFiring b (firing_of o t a)
  firing_fits o there world t is a of has = record {
    entry = record {
      trigger = subst (HaveTrigger (all_alive b) a.args) (sym is.at) (subst (HaveTrigger (all_alive b) a.args) (trigger_same b.classes o.class t a of ∙ is.found) has);
      drawn = world.number;
      object = λ p found.
          let same : o ≡ p = found_same (object_numbered o.id b.objects) o p there found in
          subst (λ (q : Object). IsSomeAnd (trigger_in b.classes q.class (activation_by t)) (λ u. Unit {0})) same (and_some (λ (u : Trigger). Unit {0}) (trigger_in b.classes o.class (activation_by t)) t is.found tt);
    };
    trigger = is.at;
  }

  pub fired_fit : {O A : Type 0} (past : Past O A) (place : Place O A) (o : Object) → object_numbered o.id b.objects ≡ Some o → (kept : Option (Kept O A)) → AllByRecursion (FitsFiring b) (option_map_or (fired_in past place o b.classes) kept [])
  fired_fit past place o there None = tt
  fired_fit past place o there (Some kept) =
      let world : FitsWorld b o = all_found (FitsWorld b) o.id b.objects fit.objects o there in
      all-flat (IsSoundTrigger b.classes o.class) (FitsFiring b) (fired_by past o kept) (λ t is.
      all-map (FitsFiring b) (firing_of o t) (filter (λ a. is_of t a && is_firing past kept t a) o.activations)
      (all-then (λ (a : Activation). HaveTrigger (all_alive b) a.args (trigger_in b.classes o.class a) × ((is_of t a && is_firing past kept t a) ≡ true)) (λ a. FitsFiring b (firing_of o t a))
      (λ a h. firing_fits o there world t is a (and_parts (is_of t a) (is_firing past kept t a) h.1).0 h.0) (filter (λ a. is_of t a && is_firing past kept t a) o.activations)
      (all-passing (λ (a : Activation). HaveTrigger (all_alive b) a.args (trigger_in b.classes o.class a)) (λ a. is_of t a && is_firing past kept t a) o.activations world.activations)))
      (filter place.sees (triggers_of b.classes o.class)) (all-filter (IsSoundTrigger b.classes o.class) place.sees (triggers_of b.classes o.class) (sound.triggers o.class))

  -- parameters and what they are given
  pub params_fit : (params : List Param) (args : List Value) → AllZip (λ (p : Param). FitsSort (all_alive b) p.sort) params args → FitSlots b (held params) args
  params_fit params args all place s e =
      let param = map_some (λ (p : Param). Some p.sort) (slice_get params place) (Some s) (sym (slice_get-map (λ (p : Param). Some p.sort) params place) ∙ e) in
      let value = zip_at (λ (p : Param). FitsSort (all_alive b) p.sort) params args all place param.0 param.1 in
      and_some (Fits b (Some s)) (slice_get args place) value.0 value.1 (subst (λ t. Fits b (Some t) value.0) (same_some param.0.sort s param.2) (sort_fits b param.0.sort value.0 value.2))

  -- where an action is typed
  pub record HasPlace (f : Firing) : Type 0 where
    pub at : Setting
    pub typed : is_body at f.trigger.decl.action ≡ true
    pub frame : FitsFrame b at (frame_of f)

  pub action_placed : (f : Firing) → FitsFiring b f → (o : Object) → object_at b f.object ≡ Some o → HasPlace f
  action_placed f h o there =
      let found : object_numbered f.object b.objects ≡ Some o = at_numbered b f.object o there in
      let known = some_and (λ (u : Trigger). Unit {0}) (trigger_in b.classes o.class (activation_by f.trigger)) (h.entry.object o found) in
      let is : IsSoundTrigger b.classes o.class known.0 = all-find (IsSoundTrigger b.classes o.class) (λ u. is_of u (activation_by f.trigger)) (triggers_of b.classes o.class) (sound.triggers o.class) known.0 known.1 in
      let parts = and_parts (f.trigger.class == known.0.class) (f.trigger.place == known.0.place) (find_passes (λ u. is_of u (activation_by f.trigger)) (triggers_of b.classes o.class) known.0 known.1) in
      let at : trigger_at b.classes f.trigger.class f.trigger.place ≡ Some known.0 =
      ap (λ c. trigger_at b.classes c f.trigger.place) (eqb-true f.trigger.class known.0.class parts.0) ∙ ap (trigger_at b.classes known.0.class) (eqb-true f.trigger.place known.0.place parts.1) ∙ is.at in
      let same : known.0 ≡ f.trigger = found_same (trigger_at b.classes f.trigger.class f.trigger.place) known.0 f.trigger at h.trigger in
      let action : IsTypedIn b.classes o.class f.trigger.decl.params sort.Void f.trigger.decl.action = subst (λ (t : Trigger). IsTypedIn b.classes o.class t.decl.params sort.Void t.decl.action) same is.action in
      let args : FitTrigger (all_alive b) f.args f.trigger = subst (HaveTrigger (all_alive b) f.args) h.trigger h.entry.trigger in
      record {
        at = member_setting (checked_classes b.classes) action.class f.trigger.decl.params sort.Void;
        typed = action.typed;
        frame = record {
          classes = refl;
          known = action.known;
          this = record {
            is = record { object = let one : f.object < b.next = h.entry.drawn in let two : b.next ≤ 2 ^ 62 = fit.next.bounded in omega arith; version = tt };
            drawn = h.entry.drawn;
            object = reference_fits b action.class.name (frame_of f).this o found (record { fits = action.above; version = tt });
          };
          slots = params_fit f.trigger.decl.params f.args args.sorts;
          literals = tt;
        };
      }

-- what a body returns
abbrev pub FitsResult : Sort → Bones → Option Value → Type 0
FitsResult result b v = IfSome v (Fits b (Some result))

live_found : (id : ℕ) (b : Bones) → is_some (object_at b id) ≡ true → (o : Object) × (object_at b id ≡ Some o)
live_found id b e = by_found (object_at b id) e where
  by_found : (m : Option Object) → is_some m ≡ true → (o : Object) × (m ≡ Some o)
  by_found (Some o) f = (o, refl)
  by_found None f = absurd (cc)

-- the firings of a point fit
abbrev pub Firings : Bones → List Firing → Type 0
Firings b fs = AllByRecursion (FitsFiring b) fs

module _ {O A : Type 0} where
  -- bodies run typed, and a level of actions
  abbrev pub BodyFits : Body O A → Type 0
  BodyFits run = (body : List Stmt) (at : Setting) → is_body at body ≡ true → (frame : Frame) (x : Tx O A) → IsTyped x → FitsFrame x.now.bones at frame → Ends x.now.bones (FitsResult at.result) (run body frame x)

  abbrev pub LevelFits : Option (Body O A) → Type 0
  LevelFits None = Unit {0}
  LevelFits (Some run) = BodyFits run

  enters_ends : (d : Option (Body O A)) → LevelFits d → (body : List Stmt) (at : Setting) → is_body at body ≡ true → (frame : Frame) (x : Tx O A) → IsTyped x → FitsFrame x.now.bones at frame → Ends x.now.bones (FitsResult at.result) (enters d body frame x)
  enters_ends None level body at typed frame x h fits = h
  enters_ends (Some run) level body at typed frame x h fits = level body at typed frame x h fits

  pub runs_ends : (d : Option (Body O A)) → LevelFits d → (f : Firing) (x : Tx O A) → IsTyped x → FitsFiring x.now.bones f → Ends x.now.bones (Any (Unit {0})) (runs d f x)
  unfolding runs
  runs_ends d level f x h fits =
      ends_then x.now.bones (Any (Unit {0})) (Any (Unit {0})) (prints (fired_text f) x) (prints_ends (fired_text f) x h) (λ u. lives f.object >> acts) (λ u y typed grows is.
      seen (looking (f.object ∷ []) y) (look_typed (f.object ∷ []) y typed) (firing_follows x.now.bones y.now.bones grows.follows f fits))
    where
      acts : Deed O A
      acts = enters d f.trigger.decl.action (frame_of f) >>= λ v. nothing

      seen : (y : Tx O A) → IsTyped y → FitsFiring y.now.bones f → Ends y.now.bones (Any (Unit {0})) ((there f.object >> acts) y)
      seen y typed fits =
          needs_ends y.now.bones (Any (Unit {0})) (is_live f.object y) (reason.NoObject f.object) y typed acts (λ live.
          let o = live_found f.object y.now.bones live in
          let place = action_placed y.now.bones typed.sound typed.now f fits o.0 o.1 in
          ends_then y.now.bones (FitsResult place.at.result) (Any (Unit {0})) (enters d f.trigger.decl.action (frame_of f) y)
          (enters_ends d level f.trigger.decl.action place.at place.typed (frame_of f) y typed place.frame) (λ v. nothing) (λ v z later more given. ends_done (Any (Unit {0})) tt z later tt))

  defers_ends : (f : Firing) (x : Tx O A) → IsTyped x → FitsFiring x.now.bones f → Ends x.now.bones (Any (Unit {0})) (defers f x)
  defers_ends f x h fits =
      needs_ends x.now.bones (Any (Unit {0})) (nat_lt (length x.deferred) cascade_limit) reason.Cascade x h (does (with_deferred f)) (λ more.
      (record { sound = h.sound; grows = h.grows; first = h.first; waiting = h.waiting; now = h.now; deferred = all-append (FitsFiring x.now.bones) x.deferred (f ∷ []) h.deferred (fits, tt); collected = h.collected }, grows_itself x.now.bones, tt))

  pub with_entry_typed : (independent : Bool) (f : Firing) (x : Tx O A) → IsTyped x → FitsFiring x.now.bones f → IsTyped (with_entry independent f x)
  with_entry_typed independent f x h fits =
      let new : Collected = record { entry = entry_of (generation_of x.origin + 1) f; independent = independent } in
      record {
        sound = h.sound;
        grows = h.grows;
        first = h.first;
        waiting = h.waiting;
        now = h.now;
        deferred = h.deferred;
        collected = all-append (λ (c : Collected). FitsEntry x.now.bones c.entry) x.collected (new ∷ []) h.collected
            (record { trigger = fits.entry.trigger; drawn = fits.entry.drawn; object = fits.entry.object }, tt);
      }

  collects_ends : (independent : Bool) (f : Firing) (x : Tx O A) → IsTyped x → FitsFiring x.now.bones f → Ends x.now.bones (Any (Unit {0})) (collects prints independent f x)
  collects_ends independent f x h fits = by_room (has_room x) where
    queued : IsTyped (queueing x)
    queued = foot_typed with_queue x h

    by_room : (t : Bool) → Ends x.now.bones (Any (Unit {0})) (cond t (does (with_entry independent f)) (prints (dropped_text f)) (queueing x))
    by_room true = (with_entry_typed independent f (queueing x) queued fits, grows_itself x.now.bones, tt)
    by_room false = prints_ends (dropped_text f) (queueing x) queued

  mode_ends : (d : Option (Body O A)) → LevelFits d → (f : Firing) (m : Mode) (x : Tx O A) → IsTyped x → FitsFiring x.now.bones f → Ends x.now.bones (Any (Unit {0})) (by_mode d f m x)
  mode_ends d level f Immediate x h fits = runs_ends d level f x h fits
  mode_ends d level f Deferred x h fits = defers_ends f x h fits
  mode_ends d level f Dependent x h fits = collects_ends false f x h fits
  mode_ends d level f Independent x h fits = collects_ends true f x h fits

  treats_ends : (d : Option (Body O A)) → LevelFits d → (f : Firing) (x : Tx O A) → IsTyped x → FitsFiring x.now.bones f → Ends x.now.bones (Any (Unit {0})) (treats d f x)
  unfolding treats
  treats_ends d level f x h fits = mode_ends d level f f.trigger.decl.mode x h fits

  -- ---- points

  module _ (past : Past O A) where
    pub arises_ends : (place : Place O A) (id : ℕ) (kind : Kind) (args : List Value) (x : Tx O A) → IsTyped x → Ends x.now.bones Firings (arises past place id kind args x)
    arises_ends place id kind args x h = found_ends x.now.bones Firings (object_at x.now.bones id) x h pointing at where
      pointing : Object → Act O A (List Firing)
      pointing o = turns (with_point past place (new_point kind args o) o) >> (reads (λ z. fired past place o z.now) >>= λ firings. alters_object id (object_after firings) >> gives firings)

      at : (o : Object) → object_at x.now.bones id ≡ Some o → Ends x.now.bones Firings (pointing o x)
      at o there =
          let y : Tx O A = turned (with_point past place (new_point kind args o) o) x in
          let number : o.id ≡ id = numbered_id id x.now.bones.objects o (at_numbered x.now.bones id o there) in
          let found : object_numbered o.id x.now.bones.objects ≡ Some o = ap (λ n. object_numbered n x.now.bones.objects) number ∙ at_numbered x.now.bones id o there in
          let fs = fired past place o y.now in
          let fit : AllByRecursion (FitsFiring x.now.bones) fs = fired_fit x.now.bones h.sound h.now past place o found (kept_at o.id y.now.pasts) in
          let grows = mild_grows x.now.bones id (object_after fs) (after_mild fs) in
          let typed : IsTyped (altered id (object_after fs) y) = typed_now x (altered id (object_after fs) y) h refl refl refl grows (altered_fit x.now.bones id (object_after fs) (after_mild fs) (after_fits fs) h.now) in
          (typed, grows, all-then (FitsFiring x.now.bones) (FitsFiring (altered_bones id (object_after fs) x.now.bones)) (firing_follows x.now.bones (altered_bones id (object_after fs) x.now.bones) grows.follows) fs fit)

    listed_ends : (id : ℕ) (kind : Kind) (x : Tx O A) → IsTyped x → Ends x.now.bones (Any Bool) (is_listed id kind x)
    listed_ends id kind x h = found_ends x.now.bones (Any Bool) (object_at x.now.bones id) x h (λ o. sees (λ b. lists_kind b.classes o.class kind)) (λ o there. (h, grows_itself x.now.bones, tt))

    pub posts_ends : (d : Option (Body O A)) → LevelFits d → (id : ℕ) (kind : Kind) (args : List Value) (x : Tx O A) → IsTyped x → Ends x.now.bones (Any (Unit {0})) (posts past d id kind args x)
    unfolding posts
    posts_ends d level id kind args x h =
        ends_then x.now.bones (Any Bool) (Any (Unit {0})) (is_listed id kind x) (listed_ends id kind x h) (λ listed. when listed (posts_listed past d id kind args)) (λ listed y typed grows is.
        when_ends listed (posts_listed past d id kind args) y typed (λ yes.
        ends_then y.now.bones Firings (Any (Unit {0})) (arises past (both_lists past) id kind args y) (arises_ends (both_lists past) id kind args y typed) (each (treats d)) (λ fs z later more fit.
        each_ends FitsFiring (λ b c f growing fits. firing_follows b c growing.follows f fits) (treats d) (λ f w is fits. treats_ends d level f w is fits) fs z later fit)))

    joins_ends : (id : ℕ) (x : Tx O A) → IsTyped x → Ends x.now.bones (Any (Unit {0})) (joins id x)
    joins_ends id x h =
        found_ends x.now.bones (Any (Unit {0})) (object_at x.now.bones id) x h (λ o. changes (activation_keys o) 0 draws_none >> does (touching id)) (λ o there.
        changes_ends x.now.bones (Any (Unit {0})) (activation_keys o) 0 draws_none x h (does (touching id)) (λ drawn held.
        (typed_as (holding (activation_keys o) x) (touching id (holding (activation_keys o) x)) held refl refl refl refl, grows_itself x.now.bones, tt)))

    pub touches_ends : (d : Option (Body O A)) → LevelFits d → (id : ℕ) (x : Tx O A) → IsTyped x → Ends x.now.bones (Any (Unit {0})) (touches past d id x)
    unfolding touches
    touches_ends d level id x h = seen (looking (id ∷ []) x) (look_typed (id ∷ []) x h) where
      first : Deed O A
      first = reads (is_touched id) >>= λ touched. when (not touched) (touches_first past d id)

      seen : (x : Tx O A) → IsTyped x → Ends x.now.bones (Any (Unit {0})) ((there id >> first) x)
      seen x h =
          needs_ends x.now.bones (Any (Unit {0})) (is_live id x) (reason.NoObject id) x h first (λ live.
          when_ends (not (is_touched id x)) (touches_first past d id) x h (λ yes.
          ends_then x.now.bones (Any (Unit {0})) (Any (Unit {0})) (joins id x) (joins_ends id x h) (λ u. posts past d id TBegin []) (λ u y typed grows is. posts_ends d level id TBegin [] y typed)))
