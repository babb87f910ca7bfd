-- Numbers of objects and activations stay apart.
use Rattle.std.proofs.Common.{◌≡◌, ℕ, ◌+◌, ◌<◌, ◌≤◌, true, List, [], ◌∷◌, ◌++◌, map, Option, Some, None, refl, sym, ap, ◌∙◌, subst, arith}
use Rattle.std.specs.Prelude.{nat_eq}
use Rattle.std.specs.List.{AllByRecursion, IsDistinct}
use Rattle.std.proofs.lemmas.List.{map-append}
use Rattle.ode_value.specs.declared.event.Kind.{Kind}
use Rattle.ode_value.specs.declared.event.Kind.TheVariants.{TCommit, TAbort}
use Rattle.ode_value.specs.declared.reason.Reason.{Reason}
use Rattle.ode_value.specs.declared.value.Value.{Value}
use Rattle.ode_value.specs.Acts.{Act, go_on, ◌>>=◌, ◌>>◌, gives, reads, turns, found, with_line, with_statement}
use Rattle.ode_value.specs.Changes.{holding, alters_object}
use Rattle.ode_value.specs.Classes.{Trigger}
use Rattle.ode_value.specs.Denoting.{object_at}
use Rattle.ode_value.specs.Firings.{new_point, object_after, Place, both_lists, whole_list, with_point, fired, arises}
use Rattle.ode_value.specs.GoodWorlds.{IsObject, IsActivation, IsGood, drawn_numbers}
use Rattle.ode_value.specs.Keeping.{kept_bones, with_last}
use Rattle.ode_value.specs.Language.{Language, ListWorld}
use Rattle.ode_value.specs.Making.{stamp_now, derived_from, object_with, with_activation}
use Rattle.ode_value.specs.Objects.{Activation}
use Rattle.ode_value.specs.Pasts.{Past}
use Rattle.ode_value.specs.Posting.{with_deferred, with_entry}
use Rattle.ode_value.specs.Settling.{clock_after, settled_world, posted, commit, abort, committed, aborted}
use Rattle.ode_value.specs.Transactions.{Tx, Firing, Origin, begun, touching, footed}
use Rattle.ode_value.specs.Worlds.{Declared, Object, Bones, World, with_object}
use Rattle.ode_laws.proofs.Alone.{Keeps}
use Rattle.ode_laws.proofs.AlikePairs.{IsGentle}
use Rattle.ode_laws.proofs.AlikeWork.{set_gentle, derived_gentle, dropped_gentle, removed_gentle, off_gentle, after_gentle}
use Rattle.ode_laws.proofs.Each.{all-append, all-then, all-map}
use Rattle.ode_laws.proofs.SideSettling.{Settlings, posted_related}
use Rattle.ode_laws.proofs.Sides.{EndsBy, same_self, altered, turned, stamp_in, set_in, dropped_from, removed, off_in}
use Rattle.ode_good_laws.specs.Distinct.{numbers_of, AreDistinct, HasDistinct}
use Rattle.ode_good_laws.proofs.Distincts.{all-numbers, same_numbers, map_numbers, more_numbers, inserted, with_last_one, kept_all, kept_distinct}

abbrev number_of : Activation → ℕ
number_of a = a.number

-- a gentle change keeps an object's numbers
gentle_numbers : (f : Object → Object) → IsGentle f → (o : Object) → drawn_numbers (f o) ≡ drawn_numbers o
gentle_numbers f g o = ap (λ acts. (f o).id ∷ map number_of acts) (g.activations o) ∙ ap (λ n. n ∷ map number_of (map (g.each o) o.activations)) (g.id o) ∙ ap (λ ns. o.id ∷ ns) (each_number o.activations) where
  each_number : (acts : List Activation) → map number_of (map (g.each o) acts) ≡ map number_of acts
  each_number [] = refl
  each_number (a ∷ acts) = ap (λ n. n ∷ map number_of (map (g.each o) acts)) (ap (λ (b : Activation). b.number) (g.same o a)) ∙ ap (λ ns. a.number ∷ ns) (each_number acts)

same_distinct : (b c : Bones) → numbers_of c.objects ≡ numbers_of b.objects → b.next ≤ c.next → AreDistinct b → AreDistinct c
same_distinct b c same more h = record {
  distinct = subst (IsDistinct nat_eq) (sym same) h.distinct;
  drawn = subst (AllByRecursion (λ n. n < c.next)) (sym same) (all-then (λ n. n < b.next) (λ n. n < c.next) (λ n less. let one : n < b.next = less in omega arith) (numbers_of b.objects) h.drawn);
}

kept_apart : (b : Bones) → AreDistinct b → AreDistinct (kept_bones b)
kept_apart b h = record { distinct = kept_distinct b.objects h.distinct; drawn = kept_all (λ n. n < b.next) b.objects h.drawn }

new_distinct : (b : Bones) (class : ℕ) (fields : List Value) → AreDistinct b → AreDistinct (record b { next = b.next + 1; objects = b.objects ++ object_with (stamp_now b) b.next class fields ∷ [] })
new_distinct b class fields h =
    let numbers : numbers_of (b.objects ++ object_with (stamp_now b) b.next class fields ∷ []) ≡ numbers_of b.objects ++ b.next ∷ [] = more_numbers b.objects (object_with (stamp_now b) b.next class fields ∷ []) in
    record {
      distinct = subst (IsDistinct nat_eq) (sym numbers) (with_last_one b.next (numbers_of b.objects) h.distinct h.drawn);
      drawn = subst (AllByRecursion (λ n. n < b.next + 1)) (sym numbers)
          (all-append (λ n. n < b.next + 1) (numbers_of b.objects) (b.next ∷ []) (all-then (λ n. n < b.next) (λ n. n < b.next + 1) (λ n less. let one : n < b.next = less in omega arith) (numbers_of b.objects) h.drawn) (omega arith, tt));
    }

active_numbers : (t : Trigger) (args : List Value) (n : ℕ) (o : Object) → drawn_numbers (with_activation t args n o) ≡ drawn_numbers o ++ n ∷ []
active_numbers t args n o = ap (λ ns. o.id ∷ ns) (map-append number_of o.activations (record { number = n; class = t.class; trigger = t.place; args = args; on = true } ∷ []))

active_distinct : (b : Bones) (id : ℕ) (t : Trigger) (args : List Value) → AreDistinct b → AreDistinct (record b { next = b.next + 1; objects = with_object id (with_activation t args b.next) b.objects })
active_distinct b id t args h = record {
  distinct = inserted b.next id (with_activation t args b.next) (active_numbers t args b.next) b.objects h.distinct h.drawn;
  drawn = all-numbers (λ n. n < b.next + 1) id (with_activation t args b.next)
      (λ o all. subst (AllByRecursion (λ n. n < b.next + 1)) (sym (active_numbers t args b.next o)) (all-append (λ n. n < b.next + 1) (drawn_numbers o) (b.next ∷ []) all (omega arith, tt))) b.objects
      (all-then (λ n. n < b.next) (λ n. n < b.next + 1) (λ n less. let one : n < b.next = less in omega arith) (numbers_of b.objects) h.drawn);
}

module _ {O A : Type 0} where
  gentle_distinct : (x : Tx O A) (id : ℕ) (f : Object → Object) → IsGentle f → HasDistinct x → HasDistinct (altered id f x)
  gentle_distinct x id f g h = record {
    first = h.first;
    now = same_distinct x.now.bones (record x.now.bones { objects = with_object id f x.now.bones.objects }) (same_numbers id f (gentle_numbers f g) x.now.bones.objects) (omega arith) h.now;
    next = h.next;
  }

  pub begun_distinct : (origin : Origin) (w : World O A) → AreDistinct w.bones → HasDistinct (begun origin w)
  begun_distinct origin w h = record { first = h; now = h; next = omega arith }

  module _ (past : Past O A) (w0 : World O A) (origin0 : Origin) where
    -- a transaction from a world, of an origin; it adds no field
    pub record Within (x : Tx O A) : Type 0 where
      pub first : x.first ≡ w0
      pub origin : x.origin ≡ origin0
      pub added : x.now.bones.added ≡ w0.bones.added
      pub distinct : HasDistinct x

    abbrev pub Withins : ℕ → Tx O A → Type 0
    Withins n x = Within x

    -- with the same numbers
    again : (x y : Tx O A) → Within x → y.first ≡ x.first → y.origin ≡ x.origin → y.now ≡ x.now → Within y
    again x y h first origin now = record {
      first = first ∙ h.first;
      origin = origin ∙ h.origin;
      added = ap (λ (w : World O A). w.bones.added) now ∙ h.added;
      distinct = record {
        first = subst (λ w. AreDistinct w.bones) (sym first) h.distinct.first;
        now = subst (λ w. AreDistinct w.bones) (sym now) h.distinct.now;
        next = subst (λ w. w.bones.next ≤ y.now.bones.next) (sym first) (subst (λ w. x.first.bones.next ≤ w.bones.next) (sym now) h.distinct.next);
      };
    }

    gentle_within : (x : Tx O A) (id : ℕ) (f : Object → Object) → IsGentle f → Within x → Within (altered id f x)
    gentle_within x id f g h = record { first = h.first; origin = h.origin; added = h.added; distinct = gentle_distinct x id f g h.distinct }

    pub within_keeps : Keeps past Withins
    within_keeps = record {
      less = λ n x h. h;
      statement = λ n x h more. again x (with_statement x) h refl refl refl;
      foot = λ n x change h. again x (footed change x) h refl refl refl;
      line = λ n x line h fits. again x (with_line line x) h refl refl refl;
      keys = λ n x keys h fits. again x (holding keys x) h refl refl refl;
      touch = λ n x id h. again x (touching id x) h refl refl refl;
      defer = λ n x f h more. again x (with_deferred f x) h refl refl refl;
      collect = λ n x independent f h room. again x (with_entry independent f x) h refl refl refl;
      set = λ n x r v place value h is small. gentle_within x r.object (set_in (stamp_in x) v place value) (set_gentle (stamp_in x) v place value) h;
      derive = λ n x r v o h is there more small. gentle_within x o.id (derived_from (stamp_in x) v) (derived_gentle (stamp_in x) v) h;
      drop = λ n x r v o h is there more. gentle_within x o.id (dropped_from v) (dropped_gentle v) h;
      remove = λ n x id h. gentle_within x id removed removed_gentle h;
      off = λ n x id number h. gentle_within x id (off_in number) (off_gentle number) h;
      new = λ n x class fields h left small. record {
        first = h.first;
        origin = h.origin;
        added = h.added;
        distinct = record { first = h.distinct.first; now = new_distinct x.now.bones class fields h.distinct.now; next = let one : x.first.bones.next ≤ x.now.bones.next = h.distinct.next in omega arith };
      };
      active = λ n x id t args h left short. record {
        first = h.first;
        origin = h.origin;
        added = h.added;
        distinct = record { first = h.distinct.first; now = active_distinct x.now.bones id t args h.distinct.now; next = let one : x.first.bones.next ≤ x.now.bones.next = h.distinct.next in omega arith };
      };
      point = λ n x id p o firings h there.
          gentle_within (turned (with_point past (both_lists past) p o) x) id (object_after firings) (after_gentle firings)
          (record { first = h.first; origin = h.origin; added = h.added; distinct = record { first = h.distinct.first; now = h.distinct.now; next = h.distinct.next } });
    }

    -- ---- settling

    abbrev Still : List Declared → Tx O A → Tx O A → Type 0
    Still cs y x = (y ≡ x) × (x.now.bones.classes ≡ cs) × Within x

    abbrev pointing : Place O A → ℕ → Kind → Object → Act O A (List Firing)
    pointing place id kind o =
        turns (with_point past place (new_point kind [] o) o) >> (reads (λ z. fired past place o z.now) >>= λ firings. alters_object id (object_after firings) >> gives firings)

    point_still : (place : Place O A) (cs : List Declared) (x : Tx O A) (id : ℕ) (kind : Kind) → x.now.bones.classes ≡ cs → Within x → EndsBy (Still cs) (Still cs) (arises past place id kind [] x) (arises past place id kind [] x)
    point_still place cs x id kind is h = by_found (object_at x.now.bones id) where
      by_found : (a : Option Object) → EndsBy (Still cs) (Still cs) (go_on (found a x) (pointing place id kind)) (go_on (found a x) (pointing place id kind))
      by_found (Some o) = (
        refl,
        (
          refl,
          is,
          gentle_within (turned (with_point past place (new_point kind [] o) o) x) id (object_after (fired past place o (with_point past place (new_point kind [] o) o x.now)))
              (after_gentle (fired past place o (with_point past place (new_point kind [] o) o x.now)))
              (record { first = h.first; origin = h.origin; added = h.added; distinct = record { first = h.distinct.first; now = h.distinct.now; next = h.distinct.next } }),
        ),
      )
      by_found None = (refl, (refl, is, h))

    abbrev lasting : Place O A → List Declared → Settlings O A O A
    lasting place cs = record {
      past = past;
      other = past;
      classes = cs;
      place = place;
      other_place = place;
      Related = Still cs;
      same = λ y x r. same_self cs y x r.0 r.1;
      foot = λ y x change r. (ap (footed change) r.0, r.1, again x (footed change x) r.2 refl refl refl);
      line = λ y x line r. (ap (with_line line) r.0, r.1, again x (with_line line x) r.2 refl refl refl);
      collect = λ y x f r room. (ap (with_entry true f) r.0, r.1, again x (with_entry true f x) r.2 refl refl refl);
      point = λ y x id kind r. subst (λ z. EndsBy (Still cs) (Still cs) (arises past place id kind [] z) (arises past place id kind [] x)) (sym r.0) (point_still place cs x id kind r.1 r.2);
    }

    last_still : (place : Place O A) (kind : Kind) (cs : List Declared) (x : Tx O A) → x.now.bones.classes ≡ cs → Within x → Still cs (posted past place kind x) (posted past place kind x)
    last_still place kind cs x is h = posted_related (lasting place cs) kind x x (refl, is, h)

    -- what is left: the first world's classes and added fields, the next number for a transaction, the clock where the origin leaves it
    pub record Leaves (b : Bones) : Type 0 where
      pub classes : b.classes ≡ w0.bones.classes
      pub added : b.added ≡ w0.bones.added
      pub transaction : b.transaction ≡ w0.bones.transaction + 1
      pub clock : b.clock ≡ clock_after origin0 w0.bones.clock
      pub distinct : AreDistinct b

    settled_leaves : (x : Tx O A) → x.now.bones.classes ≡ w0.bones.classes → Within x → Leaves (settled_world x).bones
    settled_leaves x is h =
        let k = kept_apart x.now.bones h.distinct.now in
        record {
          classes = is;
          added = h.added;
          transaction = ap (λ (w : World O A). w.bones.transaction + 1) h.first;
          clock = ap (λ (w : World O A). clock_after x.origin w.bones.clock) h.first ∙ ap (λ o. clock_after o w0.bones.clock) h.origin;
          distinct = record { distinct = k.distinct; drawn = k.drawn };
        }

    pub commit_leaves : (x : Tx O A) → x.now.bones.classes ≡ w0.bones.classes → Within x → Leaves (commit past x).0.bones
    commit_leaves x is h =
        let last = last_still (both_lists past) TCommit w0.bones.classes (committed past x) is
        (record { first = h.first; origin = h.origin; added = h.added; distinct = record { first = h.distinct.first; now = kept_apart x.now.bones h.distinct.now; next = h.distinct.next } }) in
        settled_leaves (posted past (both_lists past) TCommit (committed past x)) last.1 last.2

    pub abort_leaves : (reason : Reason) (x : Tx O A) → Within x → Leaves (abort past reason x).0.bones
    abort_leaves reason x h =
        let last = last_still (whole_list past) TAbort w0.bones.classes (aborted past x) (ap (λ (w : World O A). w.bones.classes) h.first) (record {
          first = h.first;
          origin = h.origin;
          added = ap (λ (w : World O A). w.bones.added) h.first;
          distinct = record {
            first = h.distinct.first;
            now = same_distinct x.first.bones (record x.first.bones { next = x.now.bones.next; objects = map (with_last x.now.bones) x.first.bones.objects }) (map_numbers (with_last x.now.bones) (λ o. refl) x.first.bones.objects) h.distinct.next h.distinct.first;
            next = h.distinct.next;
          };
        }) in
        settled_leaves (posted past (whole_list past) TAbort (aborted past x)) last.1 last.2

pub good_distinct : (l : Language) (w : ListWorld) → IsGood l w → AreDistinct w.bones
good_distinct l w good = record { distinct = good.bones.numbers; drawn = all_drawn w.bones.objects good.bones.objects } where
  all_drawn : (os : List Object) → AllByRecursion (IsObject w.bones) os → AllByRecursion (λ n. n < w.bones.next) (numbers_of os)
  all_drawn [] all = tt
  all_drawn (o ∷ os) all =
      all-append (λ n. n < w.bones.next) (drawn_numbers o) (numbers_of os)
      (all.0.number, all-map (λ n. n < w.bones.next) number_of o.activations (all-then (IsActivation w.bones o.class) (λ (a : Activation). a.number < w.bones.next) (λ a is. is.number) o.activations all.0.activations)) (all_drawn os all.1)
