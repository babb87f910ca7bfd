-- Objects are made, in the overlay and in the machine.
use Rattle.std.proofs.Common.{◌≡◌, ◌+◌, ◌==◌, ℕ, List, [], ◌∷◌, ◌++◌, Bool, true, false, cond, Option, Some, None, Ok, Err, refl, sym, ap, subst, ◌∙◌, arith}
use Rattle.std.proofs.lemmas.Bool.{eq-eqb}
use Rattle.std.proofs.lemmas.Bool.Decides.{nat_tests}
use Rattle.std.proofs.lemmas.Cmp.{nat_cmp_total}
use Rattle.std.specs.Prelude.{◌&&◌, nat_le, nat_lt}
use Rattle.std.specs.BTreeMap.{is_at}
use Rattle.std.specs.List.{AllByRecursion, fold}
use Rattle.std.specs.Ordering.{nat_cmp}
use Rattle.ode_keep.proofs.Maps.{lookup_put}
use Rattle.ode_laws.proofs.Rows.{kept-append, numbered-append}
use Rattle.ode_laws.specs.Alike.{NumberTx}
use Rattle.ode_overlay.proofs.Objects.{fields_room}
use Rattle.ode_overlay.specs.Answers.{Answer, ◌>>=◌}
use Rattle.ode_overlay.specs.Changing as calls
use Rattle.ode_overlay.specs.declared.error.OverlayError.TheVariants as error
use Rattle.ode_overlay.specs.Changing.{create, created, next_number, now_tracked}
use Rattle.ode_overlay.specs.Layers.{Layer, few, holding, key_count, tracked_at}
use Rattle.ode_overlay.specs.Objects.{Object, Tracked, are_fields, made}
use Rattle.ode_overlay.specs.declared.error.OverlayError.TheVariants.{TooLong, TooManyChanges}
use Rattle.ode_overlay_laws.proofs.AlteredLaws.{at_same, now_current}
use Rattle.ode_overlay_laws.proofs.FollowingLaws.{as_drawing, asks_first, counts_same, stamps_same, tested}
use Rattle.ode_overlay_laws.proofs.KeySets.{IsPart, all_between, object_part, version_part}
use Rattle.ode_overlay_laws.specs.Following.{FollowsDrawing, IsNewNumber, tells_new}
use Rattle.ode_overlay_laws.specs.Standing.{IsAsAtFirst, IsIn, Stands, kept_as, object_as}
use Rattle.ode_value.specs.Acts.{Act, Outcome, Done, Aborted, ◌>>◌, does, go_on, needs, turns}
use Rattle.ode_value.specs.Changes as machine
use Rattle.ode_value.specs.Changes.{changes, draws_number, has_number, with_key}
use Rattle.ode_value.specs.Denoting.{object_numbered}
use Rattle.ode_value.specs.Footprints.{with_draw}
use Rattle.ode_value.specs.Keys.{object_key, version_key}
use Rattle.ode_value.specs.Lengths.{version_size}
use Rattle.ode_value.specs.Limits.{change_limit, number_limit, value_limit}
use Rattle.ode_value.specs.Making.{makes, object_with, stamp_now, with_new}
use Rattle.ode_value.specs.Pasts.{numbers}
use Rattle.ode_value.specs.Tables.{Table}
use Rattle.ode_value.specs.Transactions.{drawing, touching}
use Rattle.ode_value.specs.Worlds as worlds
use Rattle.ode_value.specs.Worlds.{kept_at}
use Rattle.ode_value.specs.declared.key.Key.{Key}
use Rattle.ode_value.specs.declared.reason.Reason.TheVariants as reason
use Rattle.ode_value.specs.declared.value.Value.{Value}

-- ---- one more behind the others

pub numbered_push : (id : ℕ) (os : List worlds.Object) (o : worlds.Object) → (o.id == id) ≡ true → object_numbered id os ≡ None → object_numbered id (os ++ o ∷ []) ≡ Some o
numbered_push id [] o is none = ap (λ b. cond b (Some o) None) is
numbered_push id (p ∷ os) o is none = by_test (p.id == id) none (numbered_push id os o is) where
  by_test : (b : Bool) → cond b (Some p) (object_numbered id os) ≡ None → (object_numbered id os ≡ None → object_numbered id (os ++ o ∷ []) ≡ Some o)
      → cond b (Some p) (object_numbered id (os ++ o ∷ [])) ≡ Some o
  by_test true e more = absurd (cc)
  by_test false e more = more e

numbered_past : (n : ℕ) (os : List worlds.Object) (o : worlds.Object) → (o.id == n) ≡ false → object_numbered n (os ++ o ∷ []) ≡ object_numbered n os
numbered_past n [] o is = ap (λ b. cond b (Some o) None) is
numbered_past n (p ∷ os) o is = ap (λ (m : Option worlds.Object). cond (p.id == n) (Some p) m) (numbered_past n os o is)

kept_push : {K : Type 0} (id : ℕ) (rows : List (ℕ × K)) (row : ℕ × K) → (row.0 == id) ≡ true → kept_at id rows ≡ None → kept_at id (rows ++ row ∷ []) ≡ Some row.1
kept_push id [] row is none = ap (λ b. cond b (Some row.1) None) is
kept_push {K} id (r ∷ rows) row is none = by_test (r.0 == id) none (kept_push id rows row is) where
  by_test : (b : Bool) → cond b (Some r.1) (kept_at id rows) ≡ None → (kept_at id rows ≡ None → kept_at id (rows ++ row ∷ []) ≡ Some row.1)
      → cond b (Some r.1) (kept_at id (rows ++ row ∷ [])) ≡ Some row.1
  by_test true e more = absurd (cc)
  by_test false e more = more e

kept_past : {K : Type 0} (n : ℕ) (rows : List (ℕ × K)) (row : ℕ × K) → (row.0 == n) ≡ false → kept_at n (rows ++ row ∷ []) ≡ kept_at n rows
kept_past n [] row is = ap (λ b. cond b (Some row.1) None) is
kept_past {K} n (r ∷ rows) row is = ap (λ (m : Option K). cond (r.0 == n) (Some r.1) m) (kept_past n rows row is)

-- ---- a change that draws a number

module _ (x : Layer) (y : NumberTx) (ks : List Key) (stands : Stands x y) (parts : AllByRecursion IsPart ks) where
  abbrev held : List Key
  held = fold with_key x.keys ks

  -- by a test of its size and its keys, and by one of the number
  abbrev drawn : {S : Type 0} → Act (Unit {0}) ℕ S → Bool → Outcome (Unit {0}) ℕ S
  drawn act b = go_on (go_on (tested y b) (λ _. does (drawing true) >> (needs reason.Space (λ (z : NumberTx). has_number z.now.bones) >> does (machine.holding ks)))) (λ _. act)

  abbrev spaced : {S : Type 0} → Act (Unit {0}) ℕ S → Bool → Outcome (Unit {0}) ℕ S
  spaced {S} act b =
      let m : Outcome (Unit {0}) ℕ (Unit {0}) = cond b (Done tt (drawing true y)) (Aborted reason.Space (drawing true y)) in
      go_on (go_on m (λ _. does (machine.holding ks))) (λ _. act)

  by_number : {R S : Type 0} (go : R → Act (Unit {0}) ℕ S) (rest : ℕ → Answer (R × Layer)) (act : Act (Unit {0}) ℕ S)
      → FollowsDrawing y go (rest x.next) (act (machine.holding ks (drawing true y))) → FollowsDrawing y go (next_number x >>= rest) (drawn act true)
  by_number {R} {S} go rest act next =
      subst (λ (b : Bool). FollowsDrawing y go (next_number x >>= rest) (spaced act b)) (sym (ap (λ n. nat_lt n number_limit) stands.next)) (by_room (nat_lt x.next number_limit)) where
        by_room : (b : Bool) → FollowsDrawing y go (cond b (Ok x.next) (Err error.NoNumber) >>= rest) (spaced act b)
        by_room true = next
        by_room false = (reason.Space, (refl, refl))

  pub follows_drawing : {R S : Type 0} (size : ℕ) (short : Bool) (go : R → Act (Unit {0}) ℕ S) (rest : List Key → ℕ → Answer (R × Layer)) (act : Act (Unit {0}) ℕ S)
      → short ≡ nat_le size value_limit → FollowsDrawing y go (rest held x.next) (act (machine.holding ks (drawing true y)))
      → FollowsDrawing y go (calls.needs TooLong short >>= λ _. holding ks x >>= λ keys. next_number x >>= rest keys) (go_on (changes ks size draws_number y) (λ _. act))
  unfolding holding
  follows_drawing {R} {S} size short go rest act same next =
      subst (λ (b : Bool). FollowsDrawing y go (calls.needs TooLong short >>= λ _. few held x >>= λ keys. next_number x >>= rest keys) (drawn act b)) (sym test) (by_tests short (nat_le (key_count held x) change_limit)) where
        test : (nat_le size value_limit && nat_le (machine.key_count (machine.holding ks y)) change_limit) ≡ (short && nat_le (key_count held x) change_limit)
        test =
            ap (λ s. s && nat_le (machine.key_count (machine.holding ks y)) change_limit) (sym same)
            ∙ ap (λ n. short && nat_le n change_limit) (counts_same x y ks stands parts)

        by_tests : (a b : Bool) → FollowsDrawing y go (calls.needs TooLong a >>= λ _. cond b (Ok held) (Err TooManyChanges) >>= λ keys. next_number x >>= rest keys) (drawn act (a && b))
        by_tests true true = by_number go (rest held) act next
        by_tests true false = (reason.Size, (refl, refl))
        by_tests false b = (reason.Size, (refl, refl))

-- ---- a new object

module _ (tables : ℕ → ℕ → Table) (class : ℕ) (fields : List Value) (x : Layer) (y : NumberTx) (stands : Stands x y) (fresh : IsNewNumber x y x.next) where
  abbrev id : ℕ
  id = x.next

  abbrev ks : List Key
  ks = object_key id ∷ version_key id 1 ∷ []

  -- the fields, with the stamp of what is made now
  abbrev stamped : ℕ × List Value
  stamped = (x.first.added, fields)

  abbrev then_x : Layer
  then_x = created class stamped (fold with_key x.keys ks) x

  abbrev then_y : NumberTx
  then_y = touching id (record (machine.holding ks (drawing true y)) { now = with_new (numbers tables) class fields y.now })

  abbrev tracked_then : Tracked
  tracked_then = now_tracked (made class stamped) (tracked_at id x)

  abbrev new_object : worlds.Object
  new_object = object_with (stamp_now y.now.bones) y.now.bones.next class fields

  is_new : (new_object.id == id) ≡ true
  is_new = ap (λ n. n == id) stands.next ∙ eq-eqb id id refl

  -- no other number is its
  other : (n : ℕ) → is_at (nat_cmp id) n ≡ false → (new_object.id == n) ≡ false
  other n at = ap (λ m. m == n) stands.next ∙ turned id n at where
    turned : (a b : ℕ) → is_at (nat_cmp a) b ≡ false → (a == b) ≡ false
    turned a b apart = grind (arith, nat_tests)

  here : IsIn then_y.now id (made class stamped)
  here = record {
    object =
        numbered_push id y.now.bones.objects new_object is_new fresh.object ∙ ap (λ n. Some (object_with (stamp_now y.now.bones) n class fields)) stands.next
        ∙ ap (λ s. Some (object_with s id class fields)) (stamps_same x y stands);
    kept = kept_push id y.now.pasts (y.now.bones.next, record { own = tt; activations = [] }) is_new fresh.kept;
  }

  tracked_in : (n : ℕ) (t : Tracked) (b : Bool) → is_at (nat_cmp id) n ≡ b → cond b (Some tracked_then) (tracked_at n x) ≡ Some t → IsIn then_y.now n t.current
  tracked_in n t true is e =
      let one : tracked_then ≡ t = cc in
      let current : made class stamped ≡ t.current = sym (now_current (made class stamped) (tracked_at id x)) ∙ ap (λ (u : Tracked). u.current) one in
      subst (λ m. IsIn then_y.now m t.current) (sym (at_same id n is)) (subst (λ (c : Object). IsIn then_y.now id c) current here)
  tracked_in n t false is e =
      let there = stands.tracked n t e in
      record {
        object = numbered-append n y.now.bones.objects (new_object ∷ []) (object_as n t.current) there.object;
        kept = kept-append n y.now.pasts ((y.now.bones.next, record { own = tt; activations = [] }) ∷ []) (kept_as t.current) there.kept;
      }

  others_in : (n : ℕ) (b : Bool) → is_at (nat_cmp id) n ≡ b → cond b (Some tracked_then) (tracked_at n x) ≡ None → IsAsAtFirst then_y.now then_y.first n
  others_in n true is e = absurd (cc)
  others_in n false is e =
      let there = stands.others n e in
      record {
        object = numbered_past n y.now.bones.objects new_object (other n is) ∙ there.object;
        kept = kept_past n y.now.pasts (y.now.bones.next, record { own = tt; activations = [] }) (other n is) ∙ there.kept;
      }

  made_stands : Stands then_x then_y
  made_stands = record {
    origin = stands.origin;
    counters = stands.counters;
    queued = stands.queued;
    next = ap (λ n. n + 1) stands.next;
    added = stands.added;
    tracked = λ n t is. tracked_in n t (is_at (nat_cmp id) n) refl (sym (lookup_put nat_cmp_total id tracked_then n x.objects) ∙ is);
    others = λ n is. others_in n (is_at (nat_cmp id) n) refl (sym (lookup_put nat_cmp_total id tracked_then n x.objects) ∙ is);
    touched = ap (λ (ns : List ℕ). ns ++ id ∷ []) stands.touched ∙ sym (ap (λ b. cond b x.touched (x.touched ++ id ∷ [])) fresh.touched);
    collected = stands.collected;
    gathered = stands.gathered;
    keys = ap (λ zs. fold with_key zs ks) stands.keys ∙ all_between x.origin ks (object_part id, (version_part id 1, tt)) x.keys;
    footprint = ap (with_draw true) stands.footprint;
  }

  -- what follows once the keys are held
  abbrev act_at : ℕ → Act (Unit {0}) ℕ ℕ
  act_at n = turns (with_new (numbers tables) class fields) >> (does (touching n) >> tells_new n)

  abbrev made_at : ℕ → ℕ → Outcome (Unit {0}) ℕ ℕ
  made_at stamp n = go_on (changes (object_key n ∷ version_key n 1 ∷ []) (version_size stamp fields) draws_number y) (λ _. act_at n)

  abbrev rest : ℕ × List Value → List Key → ℕ → Answer (ℕ × Layer)
  rest fields keys n = Ok (n, created class fields keys x)

  pub made_law : FollowsDrawing y tells_new (create class fields x) (makes (numbers tables) class fields y)
  unfolding create
  made_law =
      subst (λ (answer : Answer (ℕ × Layer)). FollowsDrawing y tells_new answer (makes (numbers tables) class fields y))
      (sym (asks_first TooLong (are_fields x.first.added fields) stamped (λ kept. holding ks x >>= λ keys. next_number x >>= rest kept keys)))
      (as_drawing y tells_new (calls.needs TooLong (are_fields x.first.added fields) >>= λ _. holding ks x >>= λ keys. next_number x >>= rest stamped keys) (makes (numbers tables) class fields y)
      (made_at x.first.added id) (ap (λ n. made_at (stamp_now y.now.bones) n) stands.next ∙ ap (λ s. made_at s id) (stamps_same x y stands))
      (follows_drawing x y ks stands (object_part id, (version_part id 1, tt)) (version_size x.first.added fields) (are_fields x.first.added fields) tells_new (rest stamped) (act_at id) (fields_room x.first.added fields)
      (then_y, (made_stands, (record { first = refl; bones = refl; deferred = refl; text = refl; run = refl }, refl)))))
