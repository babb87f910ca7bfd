-- Typed transactions leave worlds that fit, by commit and by abort.
use Rattle.std.proofs.Common.{◌≡◌, ℕ, ◌+◌, ◌<◌, ◌≤◌, ◌^◌, Bool, true, false, cond, not, List, [], ◌∷◌, map, ◌==◌, Option, Some, None, refl, sym, ap, ◌∙◌, subst, arith}
use Rattle.std.specs.List.{AllByRecursion, filter, find, enumerate_from}
use Rattle.std.specs.Option.{option_map_or}
use Rattle.std.proofs.lemmas.Bool.{eqb-true}
use Rattle.ode_value.specs.declared.event.Kind.{Kind}
use Rattle.ode_value.specs.declared.event.Kind.TheVariants.{TCommit, TAbort}
use Rattle.ode_value.specs.declared.reason.Reason.{Reason}
use Rattle.ode_value.specs.Acts.{Outcome, Done, Aborted, Act, Deed, go_on, ◌>>=◌, ◌>>◌, gives, does, when, each, reads, sees, found, turns, reached}
use Rattle.ode_value.specs.Changes.{is_live, alters_object}
use Rattle.ode_value.specs.Classes.{lists_kind}
use Rattle.ode_value.specs.Denoting.{object_numbered, object_at}
use Rattle.ode_value.specs.Firings.{Place, both_lists, whole_list, with_point, new_point, fired, object_after, arises}
use Rattle.ode_value.specs.Fitting.{HaveTrigger, trigger_in}
use Rattle.ode_value.specs.GoodWorlds.{RiseFrom}
use Rattle.ode_value.specs.Keeping.{is_active, is_there, kept_object, kept_bones, with_last}
use Rattle.ode_value.specs.Objects.{Activation}
use Rattle.ode_value.specs.Pasts.{Past}
use Rattle.ode_value.specs.Posting.{entry_of, has_room, with_entry, collects, is_listed, dropped_text, waiting}
use Rattle.ode_value.specs.Settling.{is_independent, entry_in, settled_bones, settled_world, says, arises_last, posts_last_listed, posts_last, posted, committed, commit, aborted, abort}
use Rattle.ode_value.specs.Transactions.{Tx, Firing, Collected, Origin, Script, Queue, Clock, generation_of, footed, looking, queueing}
use Rattle.ode_value.specs.Worlds.{Entry, Object, Bones, kept_at}
use Rattle.ode_laws.proofs.AlikePairs.{altered_bones, all_found}
use Rattle.ode_laws.proofs.Each.{all-append, all-map, all-then, all-filter, all-passing, all-of}
use Rattle.ode_laws.proofs.Numbers.{rise_filter, apart}
use Rattle.ode_laws.proofs.Rows.{id_of, at_numbered, numbered_id, numbered_find, find_rising}
use Rattle.ode_laws.proofs.Sides.{altered, turned}
use Rattle.ode_sound_laws.specs.Growing.{Follows}
use Rattle.ode_sound_laws.specs.Typed.{FitQueue, IsTyped, IsTypedWorld, IsWhole}
use Rattle.ode_sound_laws.specs.Fits.{all_alive, FitsVersion, FitsWorld, FitsEntry, FitsFiring, AreFit}
use Rattle.ode_sound_laws.specs.Sound.{AreSound}
use Rattle.ode_sound_laws.proofs.Basics.{same_some}
use Rattle.ode_sound_laws.proofs.FitLaws.{follows_itself, follows_on, object_follows, entry_follows, firing_follows}
use Rattle.ode_sound_laws.proofs.GrowLaws.{mild_grows, altered_fit, after_mild, after_fits}
use Rattle.ode_sound_laws.proofs.WalkPosting.{fired_fit, Firings}
use Rattle.ode_value.specs.Footprints.{Footprint, with_looks, with_queue}

-- ---- what is kept

-- of objects whose numbers rise, those that pass a test are found where they were
above_found : (low id : ℕ) (os : List Object) (o : Object) → RiseFrom low (map id_of os) → object_numbered id os ≡ Some o → low ≤ id
above_found low id [] o rise e = absurd (cc)
above_found low id (p ∷ os) o rise e = by_test (p.id == id) (eqb-true p.id id) e (above_found (p.id + 1) id os o rise.1) where
  by_test : (t : Bool) → (t ≡ true → p.id ≡ id) → cond t (Some p) (object_numbered id os) ≡ Some o → (object_numbered id os ≡ Some o → p.id + 1 ≤ id) → low ≤ id
  by_test true same f rest = let is : p.id ≡ id = same refl in let here : low ≤ p.id = rise.0 in omega arith
  by_test false same f rest = let later : p.id + 1 ≤ id = rest f in let here : low ≤ p.id = rise.0 in omega arith

filter_found : (p : Object → Bool) (low id : ℕ) (os : List Object) (o : Object) → RiseFrom low (map id_of os) → object_numbered id (filter p os) ≡ Some o → object_numbered id os ≡ Some o
filter_found p low id [] o rise e = absurd (cc)
filter_found p low id (q ∷ os) o rise e = by_test (p q) e (filter_found p (q.id + 1) id os o rise.1) (above_found (q.id + 1) id os o rise.1) where
  past_it : q.id < id → (q.id == id) ≡ false
  past_it less = apart q.id id less

  by_test : (t : Bool) → object_numbered id (cond t (q ∷ filter p os) (filter p os)) ≡ Some o → (object_numbered id (filter p os) ≡ Some o → object_numbered id os ≡ Some o) → (object_numbered id os ≡ Some o → q.id + 1 ≤ id)
      → cond (q.id == id) (Some q) (object_numbered id os) ≡ Some o
  by_test true f rest above = by_number (q.id == id) f where
    by_number : (c : Bool) → cond c (Some q) (object_numbered id (filter p os)) ≡ Some o → cond c (Some q) (object_numbered id os) ≡ Some o
    by_number true g = g
    by_number false g = rest g
  by_test false f rest above =
      let there : object_numbered id os ≡ Some o = rest f in
      let less : q.id + 1 ≤ id = above there in
      ap (λ c. cond c (Some q) (object_numbered id os)) (past_it (omega arith)) ∙ there

map_found : (f : Object → Object) → ((o : Object) → (f o).id ≡ o.id) → (id : ℕ) (os : List Object) (q : Object) → object_numbered id (map f os) ≡ Some q → (o : Object) × (object_numbered id os ≡ Some o) × (f o ≡ q)
map_found f same id [] q e = absurd (cc)
map_found f same id (o ∷ os) q e = by_test (o.id == id) (ap (λ n. cond (n == id) (Some (f o)) (object_numbered id (map f os))) (sym (same o)) ∙ e) (map_found f same id os q) where
  by_test : (t : Bool) → cond t (Some (f o)) (object_numbered id (map f os)) ≡ Some q → (object_numbered id (map f os) ≡ Some q → (p : Object) × (object_numbered id os ≡ Some p) × (f p ≡ q))
      → (p : Object) × (cond t (Some o) (object_numbered id os) ≡ Some p) × (f p ≡ q)
  by_test true g rest = (o, refl, same_some (f o) q g)
  by_test false g rest = rest g

kept_follows : (b : Bones) → RiseFrom 0 (map id_of b.objects) → Follows b (kept_bones b)
kept_follows b rise = record {
  classes = refl;
  added = refl;
  next = omega arith;
  objects = λ id less q e.
      let it = map_found kept_object (λ o. refl) id (filter is_there b.objects) q e in
      record {
        before = it.0;
        found = filter_found is_there 0 id b.objects it.0 rise it.1;
        class = ap (λ (o : Object). o.class) (sym it.2);
        last = subst (λ (o : Object). it.0.last ≤ o.last) it.2 (omega arith);
      };
}

kept_one : (c : Bones) (o : Object) → FitsWorld c o → FitsWorld c (kept_object o)
kept_one c o h = record { number = h.number; class = h.class; known = h.known; last = h.last; versions = h.versions; activations = all-filter (λ (a : Activation). HaveTrigger (all_alive c) a.args (trigger_in c.classes o.class a)) is_active o.activations h.activations }

ids_map : (f : Object → Object) → ((o : Object) → (f o).id ≡ o.id) → (os : List Object) → map id_of (map f os) ≡ map id_of os
ids_map f same [] = refl
ids_map f same (o ∷ os) = ap (λ n. n ∷ map id_of (map f os)) (same o) ∙ ap (λ ns. o.id ∷ ns) (ids_map f same os)

kept_fit : (b : Bones) → AreFit b → AreFit (kept_bones b)
kept_fit b fit =
    let c = kept_bones b in
    record {
      next = fit.next;
      rising = subst (RiseFrom 0) (sym (ids_map kept_object (λ o. refl) (filter is_there b.objects))) (rise_filter id_of is_there 0 b.objects fit.rising);
      born = fit.born;
      objects = all-map (FitsWorld c) kept_object (filter is_there b.objects)
          (all-filter (λ o. FitsWorld c (kept_object o)) is_there b.objects
          (all-then (FitsWorld b) (λ o. FitsWorld c (kept_object o)) (λ o h. kept_one c o (object_follows b c (kept_follows b fit.rising) o h)) b.objects fit.objects));
    }

-- ---- settling

waiting_fit : (b : Bones) (origin : Origin) (queue : List (ℕ × Entry)) → FitQueue b queue → FitQueue b (waiting origin queue)
waiting_fit b Script queue all = all
waiting_fit b (Queue number generation) queue all = all-filter (λ (q : ℕ × Entry). FitsEntry b q.1) (λ (q : ℕ × Entry). not (q.0 == number)) queue all
waiting_fit b (Clock position) queue all = all

collected_fit : (b : Bones) (n : ℕ) (cs : List Collected) → AllByRecursion (λ (c : Collected). FitsEntry b c.entry) cs → FitQueue b (enumerate_from n (map entry_in cs))
collected_fit b n [] all = tt
collected_fit b n (c ∷ cs) all = (all.0, collected_fit b (n + 1) cs all.1)

-- objects that are kept are whole
kept_whole : (os : List Object) → AllByRecursion IsWhole (map kept_object (filter is_there os))
kept_whole os =
    all-map IsWhole kept_object (filter is_there os)
    (all-then (λ (o : Object). Unit {0} × (is_there o ≡ true)) (λ o. IsWhole (kept_object o)) (λ o h. record {
      live = h.1;
      on = all-then (λ (a : Activation). Unit {0} × (is_active a ≡ true)) (λ (a : Activation). a.on ≡ true) (λ a g. g.1) (filter is_active o.activations)
          (all-passing (λ (a : Activation). Unit {0}) is_active o.activations (all-of (λ (a : Activation). Unit {0}) (λ a. tt) o.activations));
    }) (filter is_there os) (all-passing (λ (o : Object). Unit {0}) is_there os (all-of (λ (o : Object). Unit {0}) (λ o. tt) os)))

-- bones with the same classes, added fields, objects and next number
same_follows : (b c : Bones) → c.classes ≡ b.classes → c.added ≡ b.added → c.objects ≡ b.objects → c.next ≡ b.next → Follows b c
same_follows b c classes added objects next = record {
  classes = classes;
  added = added;
  next = omega arith;
  objects = λ id less o e. record { before = o; found = ap (object_numbered id) (sym objects) ∙ e; class = refl; last = omega arith };
}

-- the last version's number of an object of the first world is the one now
last_is : (now : Bones) (o q : Object) → object_numbered o.id now.objects ≡ Some q → (with_last now o).last ≡ q.last
last_is now o q e = ap (λ m. option_map_or (λ (p : Object). p.last) m o.last) e

-- an object with a last number that is no lower
later_last : (c : Bones) (o : Object) (last : ℕ) → o.last ≤ last → last < 2 ^ 32 → FitsWorld c o → FitsWorld c (record o { last = last })
later_last c o last less low h = record {
  number = h.number;
  class = h.class;
  known = h.known;
  last = low;
  versions = all-then (FitsVersion c h.class o.last) (FitsVersion c h.class last) (λ v is. record { some = is.some; number = let one : v.number ≤ o.last = is.number in omega arith; parent = is.parent; stamp = is.stamp; fields = is.fields; later = is.later }) o.versions h.versions;
  activations = h.activations;
}

-- each object is found by its number
all_numbered : (os : List Object) → RiseFrom 0 (map id_of os) → AllByRecursion (λ (o : Object). object_numbered o.id os ≡ Some o) os
all_numbered os rise =
    all-then (λ (o : Object). find (λ (p : Object). p.id == o.id) os ≡ Some o) (λ (o : Object). object_numbered o.id os ≡ Some o) (λ o e. numbered_find o.id os ∙ e) os (find_rising id_of 0 os rise)

pub both : {X : Type 0} (P Q : X → Type 0) (xs : List X) → AllByRecursion P xs → AllByRecursion Q xs → AllByRecursion (λ x. P x × Q x) xs
both P Q [] ps qs = tt
both P Q (y ∷ xs) ps qs = ((ps.0, qs.0), both P Q xs ps.1 qs.1)

module _ {O A : Type 0} where
  -- a transaction in settling, of which all fits
  pub record IsLast (x : Tx O A) : Type 0 where
    pub sound : AreSound x.now.bones.classes
    pub follows : Follows x.first.bones x.now.bones
    pub waiting : FitQueue x.first.bones x.first.bones.queue
    pub now : AreFit x.now.bones
    pub collected : AllByRecursion (λ (c : Collected). FitsEntry x.now.bones c.entry) x.collected

  last_now : (x y : Tx O A) → IsLast x → y.first ≡ x.first → y.collected ≡ x.collected → Follows x.now.bones y.now.bones → AreFit y.now.bones → IsLast y
  last_now x y h first collected follows fit = record {
    sound = subst AreSound (sym follows.classes) h.sound;
    follows = subst (λ w. Follows w.bones y.now.bones) (sym first) (follows_on x.first.bones x.now.bones y.now.bones h.follows follows);
    waiting = subst (λ w. FitQueue w.bones w.bones.queue) (sym first) h.waiting;
    now = fit;
    collected = subst (AllByRecursion (λ (c : Collected). FitsEntry y.now.bones c.entry)) (sym collected)
        (all-then (λ (c : Collected). FitsEntry x.now.bones c.entry) (λ (c : Collected). FitsEntry y.now.bones c.entry) (λ c. entry_follows x.now.bones y.now.bones follows c.entry) x.collected h.collected);
  }

  abbrev LastEnds : {X : Type 0} → Bones → (Bones → X → Type 0) → Outcome O A X → Type 0
  LastEnds b post (Done r y) = IsLast y × Follows b y.now.bones × post y.now.bones r
  LastEnds b post (Aborted reason y) = IsLast y × Follows b y.now.bones

  ends_from : {X : Type 0} (b c : Bones) → Follows b c → (post : Bones → X → Type 0) (o : Outcome O A X) → LastEnds c post o → LastEnds b post o
  ends_from b c follows post (Done r y) h = (h.0, follows_on b c y.now.bones follows h.1, h.2)
  ends_from b c follows post (Aborted reason y) h = (h.0, follows_on b c y.now.bones follows h.1)

  ends_then : {X Y : Type 0} (b : Bones) (mid : Bones → X → Type 0) (post : Bones → Y → Type 0) (o : Outcome O A X) → LastEnds b mid o → (f : X → Act O A Y)
      → ((r : X) (y : Tx O A) → IsLast y → Follows b y.now.bones → mid y.now.bones r → LastEnds y.now.bones post (f r y)) → LastEnds b post (go_on o f)
  ends_then b mid post (Done r y) h f rest = ends_from b y.now.bones h.1 post (f r y) (rest r y h.0 h.1 h.2)
  ends_then b mid post (Aborted reason y) h f rest = h

  reached_last : {X : Type 0} (b : Bones) (post : Bones → X → Type 0) (o : Outcome O A X) → LastEnds b post o → IsLast (reached o)
  reached_last b post (Done r y) h = h.0
  reached_last b post (Aborted reason y) h = h.0

  when_ends : (b : Bool) (deed : Deed O A) (x : Tx O A) → IsLast x → LastEnds x.now.bones (λ c u. Unit {0}) (deed x) → LastEnds x.now.bones (λ c u. Unit {0}) (when b deed x)
  when_ends true deed x h ends = ends
  when_ends false deed x h ends = (h, follows_itself x.now.bones, tt)

  -- with another footprint
  foot_last : (change : Footprint → Footprint) (x : Tx O A) → IsLast x → IsLast (footed change x)
  foot_last change x h = record { sound = h.sound; follows = h.follows; waiting = h.waiting; now = h.now; collected = h.collected }

  collects_ends : (f : Firing) (x : Tx O A) → IsLast x → FitsFiring x.now.bones f → LastEnds x.now.bones (λ c u. Unit {0}) (collects says true f x)
  collects_ends f x h fits = by_room (has_room x) where
    queued : IsLast (queueing x)
    queued = foot_last with_queue x h

    new : Collected
    new = record { entry = entry_of (generation_of x.origin + 1) f; independent = true }

    by_room : (t : Bool) → LastEnds x.now.bones (λ c u. Unit {0}) (cond t (does (with_entry true f)) (says (dropped_text f)) (queueing x))
    by_room true = (
      record {
        sound = h.sound;
        follows = h.follows;
        waiting = h.waiting;
        now = h.now;
        collected = all-append (λ (c : Collected). FitsEntry x.now.bones c.entry) x.collected (new ∷ []) h.collected (record { trigger = fits.entry.trigger; drawn = fits.entry.drawn; object = fits.entry.object }, tt);
      },
      follows_itself x.now.bones,
      tt,
    )
    by_room false = (record { sound = h.sound; follows = h.follows; waiting = h.waiting; now = h.now; collected = h.collected }, follows_itself x.now.bones, tt)

  each_collects : (fs : List Firing) (x : Tx O A) → IsLast x → AllByRecursion (FitsFiring x.now.bones) fs → LastEnds x.now.bones (λ c u. Unit {0}) (each (collects says true) fs x)
  each_collects [] x h all = (h, follows_itself x.now.bones, tt)
  each_collects (f ∷ fs) x h all =
      ends_then x.now.bones (λ c u. Unit {0}) (λ c u. Unit {0}) (collects says true f x) (collects_ends f x h all.0) (λ u. each (collects says true) fs) (λ u y last follows is.
      each_collects fs y last (all-then (FitsFiring x.now.bones) (FitsFiring y.now.bones) (firing_follows x.now.bones y.now.bones follows) fs all.1))

  module _ (past : Past O A) (place : Place O A) (kind : Kind) where
    arises_ends : (id : ℕ) (x : Tx O A) → IsLast x → LastEnds x.now.bones Firings (arises past place id kind [] x)
    arises_ends id x h = by_found (object_at x.now.bones id) refl where
      pointing : Object → Act O A (List Firing)
      pointing o = turns (with_point past place (new_point kind [] o) o) >> (reads (λ z. fired past place o z.now) >>= λ firings. alters_object id (object_after firings) >> gives firings)

      at : (o : Object) → object_at x.now.bones id ≡ Some o → LastEnds x.now.bones Firings (pointing o x)
      at o there =
          let y : Tx O A = turned (with_point past place (new_point kind [] o) o) x in
          let number : o.id ≡ id = numbered_id id x.now.bones.objects o (at_numbered x.now.bones id o there) in
          let found_it : object_numbered o.id x.now.bones.objects ≡ Some o = ap (λ n. object_numbered n x.now.bones.objects) number ∙ at_numbered x.now.bones id o there in
          let fs = fired past place o y.now in
          let fit : AllByRecursion (FitsFiring x.now.bones) fs = fired_fit x.now.bones h.sound h.now past place o found_it (kept_at o.id y.now.pasts) in
          let follows = (mild_grows x.now.bones id (object_after fs) (after_mild fs)).follows in
          let last : IsLast (altered id (object_after fs) y) = last_now x (altered id (object_after fs) y) h refl refl follows (altered_fit x.now.bones id (object_after fs) (after_mild fs) (after_fits fs) h.now) in
          (last, follows, all-then (FitsFiring x.now.bones) (FitsFiring (altered_bones id (object_after fs) x.now.bones)) (firing_follows x.now.bones (altered_bones id (object_after fs) x.now.bones) follows) fs fit)

      by_found : (m : Option Object) → object_at x.now.bones id ≡ m → LastEnds x.now.bones Firings (go_on (found m x) pointing)
      by_found (Some o) e = at o e
      by_found None e = (h, follows_itself x.now.bones)

    listed_ends : (id : ℕ) (x : Tx O A) → IsLast x → LastEnds x.now.bones (λ (c : Bones) (t : Bool). Unit {0}) (is_listed id kind x)
    listed_ends id x h = by_found (object_at x.now.bones id) where
      by_found : (m : Option Object) → LastEnds x.now.bones (λ (c : Bones) (t : Bool). Unit {0}) (go_on (found m x) (λ o. sees (λ b. lists_kind b.classes o.class kind)))
      by_found (Some o) = (h, follows_itself x.now.bones, tt)
      by_found None = (h, follows_itself x.now.bones)

    posts_ends : (id : ℕ) (x : Tx O A) → IsLast x → LastEnds x.now.bones (λ c u. Unit {0}) (posts_last past place kind id x)
    unfolding posts_last
    posts_ends id x h = seen (looking (id ∷ []) x) (foot_last (with_looks (id ∷ [])) x h) where
      seen : (x : Tx O A) → IsLast x → LastEnds x.now.bones (λ c u. Unit {0}) (when (is_live id x) (posts_last_listed past place kind id) x)
      seen x h =
          when_ends (is_live id x) (posts_last_listed past place kind id) x h
          (ends_then x.now.bones (λ (c : Bones) (t : Bool). Unit {0}) (λ c u. Unit {0}) (is_listed id kind x) (listed_ends id x h) (λ listed. when listed (arises_last past place kind id)) (λ listed y last follows is.
          when_ends listed (arises_last past place kind id) y last
          (ends_then y.now.bones Firings (λ c u. Unit {0}) (arises past place id kind [] y) (arises_ends id y last) (each (collects says true)) (λ fs z later more fit. each_collects fs z later fit))))

    all_posts : (ids : List ℕ) (x : Tx O A) → IsLast x → LastEnds x.now.bones (λ c u. Unit {0}) (each (posts_last past place kind) ids x)
    all_posts [] x h = (h, follows_itself x.now.bones, tt)
    all_posts (id ∷ ids) x h =
        ends_then x.now.bones (λ c u. Unit {0}) (λ c u. Unit {0}) (posts_last past place kind id x) (posts_ends id x h) (λ u. each (posts_last past place kind) ids) (λ u y last follows is. all_posts ids y last)

    pub posted_last : (x : Tx O A) → IsLast x → IsLast (posted past place kind x)
    unfolding posted
    posted_last x h = reached_last x.now.bones (λ c u. Unit {0}) (each (posts_last past place kind) x.touched x) (all_posts x.touched x h)

  -- ---- the world that is left

  settled_typed : (x : Tx O A) → IsLast x → IsTypedWorld (settled_world x).bones
  settled_typed x h =
      let k = kept_bones x.now.bones in
      let s = settled_bones x k in
      let kept = kept_follows x.now.bones h.now.rising in
      let same : Follows k s = same_follows k s refl refl refl refl in
      let all : Follows x.now.bones s = follows_on x.now.bones k s kept same in
      let fit = kept_fit x.now.bones h.now in
      record {
        sound = h.sound;
        fit = record { next = fit.next; rising = fit.rising; born = fit.born; objects = all-then (FitsWorld k) (FitsWorld s) (object_follows k s same) k.objects fit.objects };
        whole = kept_whole x.now.bones.objects;
        queue = all-append (λ (q : ℕ × Entry). FitsEntry s q.1) (waiting x.origin x.first.bones.queue) (enumerate_from x.first.bones.next_entry (map entry_in x.collected))
            (waiting_fit s x.origin x.first.bones.queue (all-then (λ (q : ℕ × Entry). FitsEntry x.first.bones q.1) (λ (q : ℕ × Entry). FitsEntry s q.1) (λ q. entry_follows x.first.bones s (follows_on x.first.bones x.now.bones s h.follows all) q.1) x.first.bones.queue h.waiting))
            (collected_fit s x.first.bones.next_entry x.collected (all-then (λ (c : Collected). FitsEntry x.now.bones c.entry) (λ (c : Collected). FitsEntry s c.entry) (λ c. entry_follows x.now.bones s all c.entry) x.collected h.collected));
      }

  module _ (past : Past O A) where
    committed_last : (x : Tx O A) → IsTyped x → IsLast (committed past x)
    committed_last x h =
        let k = kept_bones x.now.bones in
        let kept = kept_follows x.now.bones h.now.rising in
        record {
          sound = h.sound;
          follows = follows_on x.first.bones x.now.bones k h.grows.follows kept;
          waiting = h.waiting;
          now = kept_fit x.now.bones h.now;
          collected = all-then (λ (c : Collected). FitsEntry x.now.bones c.entry) (λ (c : Collected). FitsEntry k c.entry) (λ c. entry_follows x.now.bones k kept c.entry) x.collected h.collected;
        }

    pub commit_typed : (x : Tx O A) → IsTyped x → IsTypedWorld (commit past x).0.bones
    commit_typed x h = settled_typed (posted past (both_lists past) TCommit (committed past x)) (posted_last past (both_lists past) TCommit (committed past x) (committed_last x h))

    -- ---- what an abort leaves

    abbrev back_bones : Tx O A → Bones
    back_bones x = record x.first.bones { next = x.now.bones.next; objects = map (with_last x.now.bones) x.first.bones.objects }

    back_first : (x : Tx O A) → IsTyped x → Follows x.first.bones (back_bones x)
    back_first x h = record {
      classes = refl;
      added = refl;
      next = h.grows.follows.next;
      objects = λ id less q e.
          let it = map_found (with_last x.now.bones) (λ o. refl) id x.first.bones.objects q e in
          let number : it.0.id ≡ id = numbered_id id x.first.bones.objects it.0 it.1 in
          let still = h.grows.stays id it.0 it.1 in
          let last : (with_last x.now.bones it.0).last ≡ still.after.last = last_is x.now.bones it.0 still.after (ap (λ n. object_numbered n x.now.bones.objects) number ∙ still.found) in
          let more : it.0.last ≤ still.after.last = still.last in
          record {
            before = it.0;
            found = it.1;
            class = ap (λ (o : Object). o.class) (sym it.2);
            last = subst (λ (o : Object). it.0.last ≤ o.last) it.2 (subst (λ n. it.0.last ≤ n) (sym last) more);
          };
    }

    back_now : (x : Tx O A) → IsTyped x → Follows x.now.bones (back_bones x)
    back_now x h = record {
      classes = sym h.grows.follows.classes;
      added = sym h.grows.follows.added;
      next = omega arith;
      objects = λ id less q e.
          let it = map_found (with_last x.now.bones) (λ o. refl) id x.first.bones.objects q e in
          let number : it.0.id ≡ id = numbered_id id x.first.bones.objects it.0 it.1 in
          let still = h.grows.stays id it.0 it.1 in
          let last : (with_last x.now.bones it.0).last ≡ still.after.last = last_is x.now.bones it.0 still.after (ap (λ n. object_numbered n x.now.bones.objects) number ∙ still.found) in
          record {
            before = still.after;
            found = still.found;
            class = ap (λ (o : Object). o.class) (sym it.2) ∙ sym still.class;
            last = subst (λ (o : Object). still.after.last ≤ o.last) it.2 (subst (λ n. still.after.last ≤ n) (sym last) (omega arith));
          };
    }

    back_one : (x : Tx O A) → IsTyped x → (o : Object) → object_numbered o.id x.first.bones.objects ≡ Some o → FitsWorld x.first.bones o → FitsWorld (back_bones x) (with_last x.now.bones o)
    back_one x h o e fits =
        let still = h.grows.stays o.id o e in
        let last : (with_last x.now.bones o).last ≡ still.after.last = last_is x.now.bones o still.after still.found in
        let after : FitsWorld x.now.bones still.after = all_found (FitsWorld x.now.bones) o.id x.now.bones.objects h.now.objects still.after still.found in
        later_last (back_bones x) o (with_last x.now.bones o).last (subst (λ n. o.last ≤ n) (sym last) still.last) (subst (λ n. n < 2 ^ 32) (sym last) after.last)
        (object_follows x.first.bones (back_bones x) (back_first x h) o fits)

    back_fit : (x : Tx O A) → IsTyped x → AreFit (back_bones x)
    back_fit x h = record {
      next = h.now.next;
      rising = subst (RiseFrom 0) (sym (ids_map (with_last x.now.bones) (λ o. refl) x.first.bones.objects)) h.first.rising;
      born = h.first.born;
      objects = all-map (FitsWorld (back_bones x)) (with_last x.now.bones) x.first.bones.objects
          (all-then (λ (o : Object). (object_numbered o.id x.first.bones.objects ≡ Some o) × FitsWorld x.first.bones o) (λ o. FitsWorld (back_bones x) (with_last x.now.bones o)) (λ o g. back_one x h o g.0 g.1) x.first.bones.objects
          (both (λ (o : Object). object_numbered o.id x.first.bones.objects ≡ Some o) (FitsWorld x.first.bones) x.first.bones.objects (all_numbered x.first.bones.objects h.first.rising) h.first.objects));
    }

    aborted_last : (x : Tx O A) → IsTyped x → IsLast (aborted past x)
    aborted_last x h = record {
      sound = subst AreSound h.grows.follows.classes h.sound;
      follows = back_first x h;
      waiting = h.waiting;
      now = back_fit x h;
      collected = all-filter (λ (c : Collected). FitsEntry (back_bones x) c.entry) is_independent x.collected
          (all-then (λ (c : Collected). FitsEntry x.now.bones c.entry) (λ (c : Collected). FitsEntry (back_bones x) c.entry) (λ c. entry_follows x.now.bones (back_bones x) (back_now x h) c.entry) x.collected h.collected);
    }

    pub abort_typed : (reason : Reason) (x : Tx O A) → IsTyped x → IsTypedWorld (abort past reason x).0.bones
    abort_typed reason x h = settled_typed (posted past (whole_list past) TAbort (aborted past x)) (posted_last past (whole_list past) TAbort (aborted past x) (aborted_last x h))
