-- The last points of a settling: they look at the touched objects, draw nothing, and collect nothing without a mark.
use Rattle.std.proofs.Common.{◌≡◌, ℕ, Bool, true, false, cond, List, [], ◌∷◌, map, Option, Some, None, refl, sym, ap, ◌∙◌, subst}
use Rattle.std.proofs.lemmas.Bool.{eqb-true}
use Rattle.std.specs.BTreeSet.{insert_key}
use Rattle.std.specs.List.{list_any}
use Rattle.std.specs.Ordering.{match_ordering, nat_cmp}
use Rattle.std.specs.Prelude.{◌||◌, nat_eq}
use Rattle.std.specs.declared.cmp.Ordering.{Ordering}
use Rattle.std.specs.declared.cmp.Ordering.TheVariants.{Less, Equal, Greater}
use Rattle.ode_footprint_laws.proofs.Among.{Within, within_first, within_rest}
use Rattle.ode_footprint_laws.proofs.Grows.{ListAct, grown_self, grown_then, looks_grow, queue_grows}
use Rattle.ode_footprint_laws.specs.Agreeing.{IsAmong}
use Rattle.ode_footprint_laws.specs.Growing.{Grown}
use Rattle.ode_laws.proofs.AlikePairs.{ids_same}
use Rattle.ode_laws.proofs.Rows.{id_of}
use Rattle.ode_value.specs.declared.event.Kind.{Kind}
use Rattle.ode_value.specs.Acts.{Aborted, Done, Outcome, ◌>>=◌, ◌>>◌, does, each, found, gives, go_on, reached, reads, turns, when}
use Rattle.ode_value.specs.Changes.{alters_object, is_live}
use Rattle.ode_value.specs.Denoting.{object_at}
use Rattle.ode_value.specs.Classes.{lists_kind}
use Rattle.ode_value.specs.Firings.{Place, arises, fired, new_point, object_after, with_point}
use Rattle.ode_value.specs.Footprints.{with_looks, with_queue}
use Rattle.ode_value.specs.Language.{ListTx, ListWorld}
use Rattle.ode_value.specs.Objects.{Histories, Starts}
use Rattle.ode_value.specs.Pasts.{lists}
use Rattle.ode_value.specs.Posting.{collects, dropped_text, has_room, is_listed, with_entry}
use Rattle.ode_value.specs.Settling.{arises_last, posted, posts_last, posts_last_listed, says}
use Rattle.ode_value.specs.Transactions.{Firing, looking, queueing}
use Rattle.ode_value.specs.Worlds.{Object}

-- ---- a number that was looked at now, or before

either_now : (id n : ℕ) (xs all : List ℕ) → IsAmong n all → Within xs all → IsAmong id (insert_key nat_cmp xs n) → IsAmong id all
either_now id n [] all now before is = by_test (nat_eq id n) refl is where
  by_test : (b : Bool) → nat_eq id n ≡ b → (b || false) ≡ true → IsAmong id all
  by_test true e here = subst (λ i. IsAmong i all) (sym (eqb-true id n e)) now
  by_test false e here = absurd (cc)
either_now id n (x ∷ xs) all now before is = by_order (nat_cmp n x) is (either_now id n xs all now (within_rest x xs all before)) where
  by_test : (m : ℕ) (rest : List ℕ) → IsAmong m all → (IsAmong id rest → IsAmong id all) → (b : Bool) → nat_eq id m ≡ b → (b || list_any (nat_eq id) rest) ≡ true → IsAmong id all
  by_test m rest known more true e here = subst (λ i. IsAmong i all) (sym (eqb-true id m e)) known
  by_test m rest known more false e here = more here

  by_order : (o : Ordering) → IsAmong id (match_ordering o (n ∷ x ∷ xs) (x ∷ xs) (x ∷ insert_key nat_cmp xs n)) → (IsAmong id (insert_key nat_cmp xs n) → IsAmong id all) → IsAmong id all
  by_order Less here rest = by_test n (x ∷ xs) now (before id) (nat_eq id n) refl here
  by_order Equal here rest = before id here
  by_order Greater here rest = by_test x (insert_key nat_cmp xs n) (within_first x xs all before) rest (nat_eq id x) refl here

-- ---- what is kept from one transaction to another

pub record IsLast (all : List ℕ) (x z : ListTx) : Type 0 where
  pub first : z.first ≡ x.first
  pub origin : z.origin ≡ x.origin
  pub collected : z.footprint.queued ≡ false → z.collected ≡ x.collected
  pub ids : map id_of z.now.bones.objects ≡ map id_of x.now.bones.objects
  pub drew : z.footprint.drew ≡ x.footprint.drew
  pub within : Within z.footprint.looked all
  pub grown : Grown x.footprint z.footprint

module _ (all : List ℕ) (x : ListTx) where
  -- an act that keeps this
  abbrev Lasts : {R : Type 0} → Outcome Histories Starts R → Type 0
  Lasts p = IsLast all x (reached p)

  lasts_on : {R S : Type 0} (p : Outcome Histories Starts R) (h : R → ListTx → Outcome Histories Starts S) → Lasts p → ((r : R) (z : ListTx) → IsLast all x z → Lasts (h r z)) → Lasts (go_on p h)
  lasts_on (Done r z) h is rest = rest r z is
  lasts_on (Aborted r z) h is rest = is

  last_looked : (id : ℕ) → IsAmong id all → (z : ListTx) → IsLast all x z → IsLast all x (looking (id ∷ []) z)
  last_looked id known z is = record {
    first = is.first;
    origin = is.origin;
    collected = is.collected;
    ids = is.ids;
    drew = is.drew;
    within = λ i among. either_now i id z.footprint.looked all known is.within among;
    grown = grown_then x.footprint z.footprint (with_looks (id ∷ []) z.footprint) is.grown (looks_grow (id ∷ []) z.footprint);
  }

  -- with other worlds, and a longer text
  last_told : (z v : ListTx) → v.first ≡ z.first → v.origin ≡ z.origin → v.collected ≡ z.collected → v.footprint ≡ z.footprint → map id_of v.now.bones.objects ≡ map id_of z.now.bones.objects
      → IsLast all x z → IsLast all x v
  last_told z v first origin collected footprint ids is = record {
    first = first ∙ is.first;
    origin = origin ∙ is.origin;
    collected = λ none. collected ∙ is.collected (sym (ap (λ f. f.queued) footprint) ∙ none);
    ids = ids ∙ is.ids;
    drew = ap (λ f. f.drew) footprint ∙ is.drew;
    within = subst (λ f. Within f.looked all) (sym footprint) is.within;
    grown = subst (Grown x.footprint) (sym footprint) is.grown;
  }

  last_collects : (f : Firing) (z : ListTx) → IsLast all x z → Lasts (collects says true f z)
  last_collects f z is = by_room (has_room (queueing z)) where
    queued : (v : ListTx) → v.first ≡ z.first → v.origin ≡ z.origin → v.footprint ≡ with_queue z.footprint → v.now ≡ z.now → IsLast all x v
    queued v first origin footprint now = record {
      first = first ∙ is.first;
      origin = origin ∙ is.origin;
      collected = λ none. let clash : true ≡ false = sym (ap (λ g. g.queued) footprint) ∙ none in absurd (cc);
      ids = ap (λ (w : ListWorld). map id_of w.bones.objects) now ∙ is.ids;
      drew = ap (λ g. g.drew) footprint ∙ is.drew;
      within = subst (λ g. Within g.looked all) (sym footprint) is.within;
      grown = subst (Grown x.footprint) (sym footprint) (grown_then x.footprint z.footprint (with_queue z.footprint) is.grown (queue_grows z.footprint));
    }

    by_room : (b : Bool) → Lasts (cond b (does (with_entry true f)) (says (dropped_text f)) (queueing z))
    by_room true = queued (with_entry true f (queueing z)) refl refl refl refl
    by_room false = queued (reached (says (dropped_text f) (queueing z))) refl refl refl refl

  last_each : (firings : List Firing) (z : ListTx) → IsLast all x z → Lasts (each (collects says true) firings z)
  last_each [] z is = is
  last_each (f ∷ firings) z is = lasts_on (collects says true f z) (λ u. each (collects says true) firings) (last_collects f z is) (λ u v later. last_each firings v later)

  last_arises : (place : Place Histories Starts) (kind : Kind) (id : ℕ) (z : ListTx) → IsLast all x z → Lasts (arises lists place id kind [] z)
  last_arises place kind id z is = by_found (object_at z.now.bones id) where
    pointing : Object → ListAct (List Firing)
    pointing o =
        turns (with_point lists place (new_point kind [] o) o) >> (reads (λ v. fired lists place o v.now) >>= λ firings. alters_object id (object_after firings) >> gives firings)

    by_found : (o : Option Object) → Lasts (go_on (found o z) pointing)
    by_found None = is
    by_found (Some o) =
        last_told z (reached (pointing o z)) refl refl refl refl
        (ids_same id (object_after (fired lists place o (with_point lists place (new_point kind [] o) o z.now))) (λ p. refl) z.now.bones.objects) is

  last_posts : (place : Place Histories Starts) (kind : Kind) (id : ℕ) → IsAmong id all → (z : ListTx) → IsLast all x z → Lasts (posts_last lists place kind id z)
  unfolding posts_last
  last_posts place kind id known z is = by_live (is_live id y) (last_looked id known z is) where
    y : ListTx
    y = looking (id ∷ []) z

    firing : (v : ListTx) → IsLast all x v → Lasts (arises_last lists place kind id v)
    firing v is = lasts_on (arises lists place id kind [] v) (each (collects says true)) (last_arises place kind id v is) last_each

    by_listed : (b : Bool) (v : ListTx) → IsLast all x v → Lasts (when b (arises_last lists place kind id) v)
    by_listed true v is = firing v is
    by_listed false v is = is

    listed : (o : Option Object) (v : ListTx) → IsLast all x v → Lasts (go_on (found o v) (λ p u. Done (lists_kind u.now.bones.classes p.class kind) u))
    listed None v is = is
    listed (Some o) v is = is

    by_live : (b : Bool) → IsLast all x y → Lasts (when b (posts_last_listed lists place kind id) y)
    by_live false is = is
    by_live true is = lasts_on (is_listed id kind y) (λ b. when b (arises_last lists place kind id)) (listed (object_at y.now.bones id) y is) by_listed

  last_all : (place : Place Histories Starts) (kind : Kind) (ids : List ℕ) → Within ids all → (z : ListTx) → IsLast all x z → Lasts (each (posts_last lists place kind) ids z)
  last_all place kind [] within z is = is
  last_all place kind (id ∷ ids) within z is =
      lasts_on (posts_last lists place kind id z) (λ u. each (posts_last lists place kind) ids) (last_posts place kind id (within_first id ids all within) z is)
      (λ u v later. last_all place kind ids (within_rest id ids all within) v later)

pub posted_last : (place : Place Histories Starts) (kind : Kind) (x : ListTx) → Within x.touched x.footprint.looked → IsLast x.footprint.looked x (posted lists place kind x)
unfolding posted
posted_last place kind x within =
    last_all x.footprint.looked x place kind x.touched within x
    (record { first = refl; origin = refl; collected = λ none. refl; ids = refl; drew = refl; within = λ id among. among; grown = grown_self x.footprint })
