-- A settled transaction leaves a world that isn't too heavy.
use Rattle.std.proofs.Common.{◌≡◌, ℕ, ◌+◌, ◌≤◌, Bool, true, false, cond, List, [], ◌∷◌, length, map, ◌==◌, Option, Some, None, refl, sym, ap, ◌∙◌, subst, arith}
use Rattle.std.specs.Prelude.{nat_le}
use Rattle.std.specs.List.{filter, sum_by}
use Rattle.std.proofs.lemmas.Bool.{leb-true}
use Rattle.std.proofs.lemmas.List.Sums.{sum_by-cons}
use Rattle.ode_value.specs.declared.event.Kind.{Kind}
use Rattle.ode_value.specs.declared.event.Kind.TheVariants.{TCommit, TAbort}
use Rattle.ode_value.specs.declared.reason.Reason.{Reason}
use Rattle.ode_value.specs.declared.reason.Reason.TheVariants.{Space}
use Rattle.ode_value.specs.Acts.{Outcome, Done, Aborted, Act, Deed, go_on, ◌>>=◌, ◌>>◌, gives, reads, turns, found, with_line}
use Rattle.ode_value.specs.Changes.{alters_object}
use Rattle.ode_value.specs.Completing.{completes, goes_round, tests_all, weighs, rounds}
use Rattle.ode_value.specs.Denoting.{object_at}
use Rattle.ode_value.specs.Fields.{fields_of}
use Rattle.ode_value.specs.Firings.{new_point, after_firings, object_after, Place, both_lists, whole_list, with_point, fired, arises}
use Rattle.ode_value.specs.Keeping.{is_active, is_there, kept_object, kept_bones, with_last}
use Rattle.ode_value.specs.Lengths.{counters_length, object_length}
use Rattle.ode_value.specs.Limits.{weight_limit}
use Rattle.ode_value.specs.Objects.{Activation}
use Rattle.ode_value.specs.Pasts.{Past}
use Rattle.ode_value.specs.Posting.{with_entry}
use Rattle.ode_value.specs.Settling.{settled_world, posted, commit, abort, committed, aborted}
use Rattle.ode_value.specs.Transactions.{Tx, Firing, footed}
use Rattle.ode_value.specs.Weights.{added_weight, class_weight, version_weight, activation_weight, object_weight, weight}
use Rattle.ode_value.specs.Worlds.{Declared, Object, Bones, with_object}
use Rattle.ode_laws.proofs.SideSettling.{Settlings, posted_related}
use Rattle.ode_laws.proofs.Sides.{EndsBy, same_self, altered, turned}

-- ---- sums

sum_filter : {X : Type 0} (f : X → ℕ) (p : X → Bool) (xs : List X) → sum_by f (filter p xs) ≤ sum_by f xs
sum_filter f p [] = omega arith
sum_filter {X} f p (x ∷ xs) = by_test (p x) (sum_filter f p xs) where
  by_test : (b : Bool) → sum_by f (filter p xs) ≤ sum_by f xs → sum_by f (cond b (x ∷ filter p xs) (filter p xs)) ≤ sum_by f (x ∷ xs)
  by_test true less = omega (arith, sum_by-cons f x xs, sum_by-cons f x (filter p xs))
  by_test false less = omega (arith, sum_by-cons f x xs)

sum_map : {X : Type 0} (f : X → ℕ) (g : X → X) → ((x : X) → f (g x) ≡ f x) → (xs : List X) → sum_by f (map g xs) ≡ sum_by f xs
sum_map f g same [] = refl
sum_map f g same (x ∷ xs) = sum_by-cons f (g x) (map g xs) ∙ ap (λ n. n + sum_by f (map g xs)) (same x) ∙ ap (λ n. f x + n) (sum_map f g same xs) ∙ sym (sum_by-cons f x xs)

sum_less : {X : Type 0} (f : X → ℕ) (g : X → X) → ((x : X) → f (g x) ≤ f x) → (xs : List X) → sum_by f (map g xs) ≤ sum_by f xs
sum_less f g less [] = omega arith
sum_less f g less (x ∷ xs) = let here : f (g x) ≤ f x = less x in let rest : sum_by f (map g xs) ≤ sum_by f xs = sum_less f g less xs in omega (arith, sum_by-cons f (g x) (map g xs), sum_by-cons f x xs)

sum_with : (f : Object → ℕ) (id : ℕ) (g : Object → Object) → ((o : Object) → f (g o) ≡ f o) → (os : List Object) → sum_by f (with_object id g os) ≡ sum_by f os
sum_with f id g same [] = refl
sum_with f id g same (o ∷ os) = by_test (o.id == id) (sum_with f id g same os) where
  by_test : (b : Bool) → sum_by f (with_object id g os) ≡ sum_by f os → sum_by f (cond b (g o ∷ os) (o ∷ with_object id g os)) ≡ sum_by f (o ∷ os)
  by_test true rest = sum_by-cons f (g o) os ∙ ap (λ n. n + sum_by f os) (same o) ∙ sym (sum_by-cons f o os)
  by_test false rest = sum_by-cons f o (with_object id g os) ∙ ap (λ n. f o + n) rest ∙ sym (sum_by-cons f o os)

-- ---- weights

after_weight : (classes : List Declared) (firings : List Firing) (o : Object) → object_weight classes (object_after firings o) ≡ object_weight classes o
after_weight classes firings o =
    ap (λ n. object_length + sum_by (version_weight (fields_of classes o.class)) o.versions + n) (sum_map activation_weight (after_firings firings) (λ a. refl) o.activations)

kept_weight : (classes : List Declared) (o : Object) → object_weight classes (kept_object o) ≤ object_weight classes o
kept_weight classes o = let less : sum_by activation_weight (filter is_active o.activations) ≤ sum_by activation_weight o.activations = sum_filter activation_weight is_active o.activations in omega arith

pub kept_lighter : (b : Bones) → weight (kept_bones b) ≤ weight b
unfolding weight
kept_lighter b =
    let less : sum_by (object_weight b.classes) (map kept_object (filter is_there b.objects)) ≤ sum_by (object_weight b.classes) (filter is_there b.objects) =
    sum_less (object_weight b.classes) kept_object (kept_weight b.classes) (filter is_there b.objects)
    in
    let fewer : sum_by (object_weight b.classes) (filter is_there b.objects) ≤ sum_by (object_weight b.classes) b.objects = sum_filter (object_weight b.classes) is_there b.objects in
    omega arith

after_lighter : (id : ℕ) (firings : List Firing) (b : Bones) → weight (record b { objects = with_object id (object_after firings) b.objects }) ≡ weight b
unfolding weight
after_lighter id firings b =
    ap (λ n. counters_length (length b.added) + sum_by class_weight b.classes + n + sum_by added_weight b.added)
    (sum_with (object_weight b.classes) id (object_after firings) (after_weight b.classes firings) b.objects)

-- what weighs takes of bones
same_weight : (b c : Bones) → b.classes ≡ c.classes → b.added ≡ c.added → b.objects ≡ c.objects → weight b ≡ weight c
unfolding weight
same_weight b c classes added objects =
    ap (λ cs. counters_length (length b.added) + sum_by class_weight cs + sum_by (object_weight cs) b.objects + sum_by added_weight b.added) classes
    ∙ ap (λ fs. counters_length (length fs) + sum_by class_weight c.classes + sum_by (object_weight c.classes) b.objects + sum_by added_weight fs) added
    ∙ ap (λ os. counters_length (length c.added) + sum_by class_weight c.classes + sum_by (object_weight c.classes) os + sum_by added_weight c.added) objects

last_lighter : (first now : Bones) → weight (record first { next = now.next; objects = map (with_last now) first.objects }) ≡ weight first
unfolding weight
last_lighter first now =
    ap (λ n. counters_length (length first.added) + sum_by class_weight first.classes + n + sum_by added_weight first.added)
    (sum_map (object_weight first.classes) (with_last now) (λ o. refl) first.objects)

-- ---- settling

module _ {O A : Type 0} (past : Past O A) where
  abbrev IsLight : Tx O A → Type 0
  IsLight x = weight x.now.bones ≤ weight_limit

  abbrev Still : List Declared → Tx O A → Tx O A → Type 0
  Still cs y x = (y ≡ x) × (x.now.bones.classes ≡ cs) × IsLight x

  abbrev pointing : Place O A → ℕ → Kind → Object → Act O A (List Firing)
  pointing place id kind o =
      turns (with_point past place (new_point kind [] o) o) >> (reads (λ z. fired past place o z.now) >>= λ firings. alters_object id (object_after firings) >> gives firings)

  point_still : (place : Place O A) (cs : List Declared) (x : Tx O A) (id : ℕ) (kind : Kind) → x.now.bones.classes ≡ cs → IsLight x → EndsBy (Still cs) (Still cs) (arises past place id kind [] x) (arises past place id kind [] x)
  point_still place cs x id kind is h = by_found (object_at x.now.bones id) where
    by_found : (a : Option Object) → EndsBy (Still cs) (Still cs) (go_on (found a x) (pointing place id kind)) (go_on (found a x) (pointing place id kind))
    by_found (Some o) =
        (refl, (refl, is, subst (λ n. n ≤ weight_limit) (sym (after_lighter id (fired past place o (with_point past place (new_point kind [] o) o x.now)) x.now.bones)) h))
    by_found None = (refl, (refl, is, h))

  abbrev lasting : Place O A → List Declared → Settlings O A O A
  lasting place cs = record {
    past = past;
    other = past;
    classes = cs;
    place = place;
    other_place = place;
    Related = Still cs;
    same = λ y x r. same_self cs y x r.0 r.1;
    foot = λ y x change r. (ap (footed change) r.0, r.1, r.2);
    line = λ y x line r. (ap (with_line line) r.0, r.1, r.2);
    collect = λ y x f r room. (ap (with_entry true f) r.0, r.1, r.2);
    point = λ y x id kind r. subst (λ z. EndsBy (Still cs) (Still cs) (arises past place id kind [] z) (arises past place id kind [] x)) (sym r.0) (point_still place cs x id kind r.1 r.2);
  }

  last_light : (place : Place O A) (kind : Kind) (x : Tx O A) → IsLight x → IsLight (posted past place kind x)
  last_light place kind x h = (posted_related (lasting place x.now.bones.classes) kind x x (refl, refl, h)).2

  settled_light : (x : Tx O A) → IsLight x → weight (settled_world x).bones ≤ weight_limit
  settled_light x h =
      let same : weight (settled_world x).bones ≡ weight (kept_bones x.now.bones) = same_weight (settled_world x).bones (kept_bones x.now.bones) refl refl refl in
      let less : weight (kept_bones x.now.bones) ≤ weight x.now.bones = kept_lighter x.now.bones in
      let light : weight x.now.bones ≤ weight_limit = h in
      omega arith

  pub commit_light : (x : Tx O A) → weight (kept_bones x.now.bones) ≤ weight_limit → weight (commit past x).0.bones ≤ weight_limit
  commit_light x h = settled_light (posted past (both_lists past) TCommit (committed past x)) (last_light (both_lists past) TCommit (committed past x) h)

  pub abort_light : (reason : Reason) (x : Tx O A) → weight x.first.bones ≤ weight_limit → weight (abort past reason x).0.bones ≤ weight_limit
  abort_light reason x h =
      settled_light (posted past (whole_list past) TAbort (aborted past x))
      (last_light (whole_list past) TAbort (aborted past x) (subst (λ n. n ≤ weight_limit) (sym (last_lighter x.first.bones x.now.bones)) h))

  abbrev weighing : Bool → Tx O A → Outcome O A (Unit {0})
  weighing b z = cond b (Done tt z) (Aborted Space z)

  -- completion that is done has weighed what is kept
  weighed : (z y : Tx O A) → weighs z ≡ Done tt y → weight (kept_bones y.now.bones) ≤ weight_limit
  unfolding weighs
  weighed z y is = by_test (nat_le (weight (kept_bones z.now.bones)) weight_limit) refl is where
    by_test : (b : Bool) → nat_le (weight (kept_bones z.now.bones)) weight_limit ≡ b → weighing b z ≡ Done tt y → weight (kept_bones y.now.bones) ≤ weight_limit
    by_test true e q = let it : z ≡ y = cc in subst (λ (t : Tx O A). weight (kept_bones t.now.bones) ≤ weight_limit) it (leb-true (weight (kept_bones z.now.bones)) weight_limit e)
    by_test false e q = absurd (cc)

  after_tests : (p : Outcome O A (Unit {0})) (y : Tx O A) → go_on p (λ _. weighs) ≡ Done tt y → weight (kept_bones y.now.bones) ≤ weight_limit
  after_tests (Done r z) y is = weighed z y is
  after_tests (Aborted r z) y is = absurd (cc)

  after_rounds : (p : Outcome O A (Unit {0})) (y : Tx O A) → go_on p (λ _. tests_all >> weighs) ≡ Done tt y → weight (kept_bones y.now.bones) ≤ weight_limit
  after_rounds (Done r z) y is = after_tests (tests_all z) y is
  after_rounds (Aborted r z) y is = absurd (cc)

  pub completion_light : (x y : Tx O A) → completes past x ≡ Done tt y → weight (kept_bones y.now.bones) ≤ weight_limit
  unfolding completes
  completion_light x y is = after_rounds (goes_round past (rounds x) 0 0 x) y is
