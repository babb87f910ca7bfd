-- An object is changed, and the keys of the records that differ are held.
use Rattle.std.proofs.Common.{◌≡◌, ◌==◌, ℕ, List, [], ◌∷◌, Bool, true, false, cond, Option, Some, None, Ok, Err, refl, sym, ap, subst, ◌∙◌, arith}
use Rattle.std.proofs.lemmas.Bool.{eqb-true}
use Rattle.std.proofs.lemmas.Bool.Decides.{nat_tests}
use Rattle.std.proofs.lemmas.Cmp.{nat_cmp_total}
use Rattle.std.specs.Prelude.{◌&&◌, ◌||◌, nat_le, nat_lt}
use Rattle.std.specs.BTreeMap.{is_at}
use Rattle.std.specs.List.{AllByRecursion, fold}
use Rattle.std.specs.Ordering.{nat_cmp}
use Rattle.ode_codec.specs.declared.record.Counters.{Counters}
use Rattle.ode_codec.specs.declared.record.Entry.{Entry}
use Rattle.ode_formed_laws.proofs.AmongLaws.{IsOf, all_more, among_all, not_among}
use Rattle.ode_formed_laws.proofs.SpelledLaws.{Bytes, spells_again}
use Rattle.ode_formed_laws.specs.Staying.{IsStored, StaysFormed}
use Rattle.ode_keep.proofs.Maps.{lookup_put}
use Rattle.ode_keep.specs.Entries.{Entries, value_under}
use Rattle.ode_objects.specs.Records.{object_becomes}
use Rattle.ode_objects.specs.Tracked.{as_first}
use Rattle.ode_objects.specs.Values.{are_args, are_fields}
use Rattle.ode_objects.specs.declared.object.Object.{Object}
use Rattle.ode_objects.specs.declared.tracked.First.{First}
use Rattle.ode_objects.specs.declared.tracked.First.TheVariants.{Same, Other, Absent}
use Rattle.ode_objects.specs.declared.tracked.Tracked.{Tracked}
use Rattle.ode_overlay.specs.After.{held_after, is_among, value_after}
use Rattle.ode_overlay.specs.Answers.{Answer, ◌>>=◌}
use Rattle.ode_overlay.specs.Changing.{kept_as, live_of, needs, next_number, now_tracked, object_of, with_now}
use Rattle.ode_overlay.specs.Layers.{Layer, begun, holding, key_count, queueing, tracked_at}
use Rattle.ode_overlay.specs.Records.{becomes, becomes_of}
use Rattle.ode_overlay.specs.Settling.{collect, has_room, with_entry}
use Rattle.ode_overlay.specs.declared.error.OverlayError.{OverlayError}
use Rattle.ode_overlay.specs.declared.error.OverlayError.TheVariants.{NoNumber, NoObject, TooLong, TooManyChanges}
use Rattle.ode_overlay.specs.declared.origin.Origin.{Origin}
use Rattle.ode_overlay_laws.proofs.AlteredLaws.{now_current}
use Rattle.ode_settling_laws.specs.Formed.{AreNewest, HasNewest, IsFormed, IsOwn, WereNewest, value_in}
use Rattle.ode_value.specs.Changes.{with_key}
use Rattle.ode_value.specs.Limits.{change_limit, number_limit}
use Rattle.ode_value.specs.Worlds.{Declared}
use Rattle.ode_value.specs.declared.key.Key.{Key}
use Rattle.ode_value.specs.declared.value.Value.{Value}

-- ---- calls that may be refused

module _ {R : Type 0} (classes : List Declared) (base : Entries) where
  pub by_few : (x : Layer) (ks : List Key) (rest : List Key → Answer (R × Layer)) → StaysFormed classes base (rest (fold with_key x.keys ks)) → StaysFormed classes base (holding ks x >>= rest)
  unfolding holding
  by_few x ks rest formed = by_test (nat_le (key_count (fold with_key x.keys ks) x) change_limit) where
    by_test : (b : Bool) → StaysFormed classes base (cond b (Ok (fold with_key x.keys ks)) (Err TooManyChanges) >>= rest)
    by_test true = formed
    by_test false = tt

  pub by_live : (id : ℕ) (f : Option Tracked) (rest : Object → Answer (R × Layer)) → ((t : Tracked) → f ≡ Some t → t.current.live ≡ true → StaysFormed classes base (rest t.current)) → StaysFormed classes base (live_of id f >>= rest)
  by_live id None rest formed = tt
  by_live id (Some t) rest formed = by_test t.current.live refl where
    by_test : (b : Bool) → t.current.live ≡ b → StaysFormed classes base (cond b (Ok t.current) (Err (NoObject id)) >>= rest)
    by_test true live = formed t refl live
    by_test false live = tt

  pub by_need : (why : OverlayError) (b : Bool) (rest : Unit {0} → Answer (R × Layer)) → StaysFormed classes base (rest tt) → StaysFormed classes base (needs why b >>= rest)
  by_need why true rest formed = formed
  by_need why false rest formed = tt

  pub by_kept : (stamp : ℕ) (fields : List Value) (rest : ℕ × List Value → Answer (R × Layer)) → StaysFormed classes base (rest (stamp, fields)) → StaysFormed classes base (kept_as stamp fields >>= rest)
  by_kept stamp fields rest formed = by_test (are_fields stamp fields) where
    by_test : (b : Bool) → StaysFormed classes base ((needs TooLong b >>= λ _. Ok (stamp, fields)) >>= rest)
    by_test true = formed
    by_test false = tt

  pub by_number : (x : Layer) (rest : ℕ → Answer (R × Layer)) → StaysFormed classes base (rest x.next) → StaysFormed classes base (next_number x >>= rest)
  by_number x rest formed = by_test (nat_lt x.next number_limit) where
    by_test : (b : Bool) → StaysFormed classes base (cond b (Ok x.next) (Err NoNumber) >>= rest)
    by_test true = formed
    by_test false = tt

-- ---- one object is this from now on

abbrev pub after_by : Layer → Key → Object → Bytes → Bytes
after_by x q o below = cond (is_among q x.keys) (value_after (object_becomes q o) below) below

module _ (classes : List Declared) (base : Entries) (x then : Layer) (id : ℕ) (o : Object) (ks : List Key) (formed : IsFormed classes base x) (own : AllByRecursion (IsOf id) ks) (keys : then.keys ≡ fold with_key x.keys ks)
    (first : then.first ≡ x.first) (here : (t : Tracked) → tracked_at id then ≡ Some t → (t.current ≡ o) × HasNewest x.first.added t) (others : (n : ℕ) → (n == id) ≡ false → tracked_at n then ≡ tracked_at n x)
    (unheld : (q : Key) → IsOwn q → q.a ≡ id → is_among q ks ≡ false → after_by x q o (value_under base q) ≡ value_in classes q o)
    (held : (q : Key) → IsOwn q → q.a ≡ id → is_among q ks ≡ true → value_after (object_becomes q o) (value_under base q) ≡ value_in classes q o) where
  among_then : (q : Key) → is_among q then.keys ≡ (is_among q ks || is_among q x.keys)
  among_then q = ap (is_among q) keys ∙ among_all q ks x.keys

  abbrev after_with : Key → Bool → Option Tracked → Bytes
  after_with q b f = cond b (value_after (becomes_of q f) (value_under base q)) (value_under base q)

  held_then : (y : Layer) (q : Key) → held_after y q (value_under base q) ≡ after_with q (is_among q y.keys) (tracked_at q.a y)
  unfolding becomes
  held_then y q = refl

  its : (q : Key) → IsOwn q → q.a ≡ id → (b : Bool) → is_among q ks ≡ b → cond (b || is_among q x.keys) (value_after (object_becomes q o) (value_under base q)) (value_under base q) ≡ value_in classes q o
  its q is at true among = held q is at among
  its q is at false among = unheld q is at among

  all_own : AllByRecursion (IsOf id) ks → AllByRecursion IsOwn ks
  all_own all = each ks all where
    each : (ls : List Key) → AllByRecursion (IsOf id) ls → AllByRecursion IsOwn ls
    each [] ls = tt
    each (k ∷ more) ls = (ls.0.0, each more ls.1)

  each_then : (n : ℕ) (t : Tracked) (q : Key) → tracked_at n then ≡ Some t → IsOwn q → q.a ≡ n → (b : Bool) → (n == id) ≡ b → held_after then q (value_under base q) ≡ value_in classes q t.current
  each_then n t q is own_q at true same =
      let number : n ≡ id = eqb-true n id same in
      let current : t.current ≡ o = (here t (ap (λ m. tracked_at m then) (sym number) ∙ is)).0 in
      held_then then q ∙ ap (λ m. after_with q (is_among q then.keys) (tracked_at m then)) at ∙ ap (after_with q (is_among q then.keys)) is
      ∙ ap (λ (c : Object). cond (is_among q then.keys) (value_after (object_becomes q c) (value_under base q)) (value_under base q)) current
      ∙ ap (λ b. cond b (value_after (object_becomes q o) (value_under base q)) (value_under base q)) (among_then q)
      ∙ its q own_q (at ∙ number) (is_among q ks) refl ∙ ap (value_in classes q) (sym current)
  each_then n t q is own_q at false differs =
      let was : tracked_at n x ≡ Some t = sym (others n differs) ∙ is in
      let out : is_among q ks ≡ false = not_among id ks q own (ap (λ m. m == id) at ∙ differs) in
      held_then then q ∙ ap (λ b. after_with q b (tracked_at q.a then)) (among_then q ∙ ap (λ b. b || is_among q x.keys) out)
      ∙ ap (λ m. after_with q (is_among q x.keys) (tracked_at m then)) at ∙ ap (after_with q (is_among q x.keys)) (others n differs)
      ∙ ap (λ m. after_with q (is_among q x.keys) (tracked_at m x)) (sym at) ∙ sym (held_then x q)
      ∙ formed.each n t q was own_q at

  newest_then : (n : ℕ) (t : Tracked) → tracked_at n then ≡ Some t → (b : Bool) → (n == id) ≡ b → HasNewest x.first.added t
  newest_then n t is true same = (here t (ap (λ m. tracked_at m then) (sym (eqb-true n id same)) ∙ is)).1
  newest_then n t is false differs = formed.newest n t (sym (others n differs) ∙ is)

  pub formed_then : IsFormed classes base then
  formed_then = record {
    keys = subst (AllByRecursion IsOwn) (sym keys) (all_more IsOwn ks x.keys (all_own own) formed.keys);
    each = λ n t q is own_q at. each_then n t q is own_q at (n == id) refl;
    newest = λ n t is. subst (λ (c : Counters). HasNewest c.added t) (sym first) (newest_then n t is (n == id) refl);
  }

-- ---- one that is put in the place of what there was

pub at_other : (id n : ℕ) → (n == id) ≡ false → is_at (nat_cmp id) n ≡ false
at_other id n out = grind (arith, nat_tests)

pub at_itself : (id : ℕ) → is_at (nat_cmp id) id ≡ true
at_itself id = grind (arith, nat_tests)

-- what was there stays what it was at first
now_newest : (stamp : ℕ) (o : Object) → AreNewest stamp o → (f : Option Tracked) → ((t : Tracked) → f ≡ Some t → HasNewest stamp t) → HasNewest stamp (now_tracked o f)
now_newest stamp o new None was = (new, tt)
now_newest stamp o new (Some t) was = (new, by_first t.first (was t refl)) where
  by_first : (f : First) → AreNewest stamp t.current × WereNewest stamp f → WereNewest stamp (as_first t.current f)
  by_first Same now = now.0
  by_first (Other first) now = now.1
  by_first Absent now = tt

pub put_here : (x : Layer) (id : ℕ) (new : Option Tracked) (o : Object) (keys : List Key) → ((u : Tracked) → object_of new id x ≡ Some u → HasNewest x.first.added u) → AreNewest x.first.added o
    → (t : Tracked) → tracked_at id (with_now id new o keys x) ≡ Some t → (t.current ≡ o) × HasNewest x.first.added t
put_here x id new o keys was newest t is =
    let found : Some (now_tracked o (object_of new id x)) ≡ Some t =
    sym (ap (λ b. cond b (Some (now_tracked o (object_of new id x))) (tracked_at id x)) (at_itself id)) ∙ sym (lookup_put nat_cmp_total id (now_tracked o (object_of new id x)) id x.objects) ∙ is in
    let one : now_tracked o (object_of new id x) ≡ t = cc in
    (ap (λ (u : Tracked). u.current) (sym one) ∙ now_current o (object_of new id x), subst (HasNewest x.first.added) one (now_newest x.first.added o newest (object_of new id x) was))

pub put_others : (x : Layer) (id : ℕ) (new : Option Tracked) (o : Object) (keys : List Key) (n : ℕ) → (n == id) ≡ false → tracked_at n (with_now id new o keys x) ≡ tracked_at n x
put_others x id new o keys n out =
    lookup_put nat_cmp_total id (now_tracked o (object_of new id x)) n x.objects ∙ ap (λ b. cond b (Some (now_tracked o (object_of new id x))) (tracked_at n x)) (at_other id n out)

-- ---- as it was

module _ (classes : List Declared) (base : Entries) (x : Layer) (id : ℕ) (new : Option Tracked) (formed : IsFormed classes base x) (read : IsStored classes base id new) where
  either : (q : Key) (o : Object) (b : Bool) → IsOwn q → value_under base q ≡ value_in classes q o → cond b (value_after (object_becomes q o) (value_under base q)) (value_under base q) ≡ value_in classes q o
  either q o true own is = spells_again classes q o (value_under base q) own is
  either q o false own is = is

  abbrev after_of : Key → Option Tracked → Bytes
  after_of q f = cond (is_among q x.keys) (value_after (becomes_of q f) (value_under base q)) (value_under base q)

  held_of : (q : Key) → held_after x q (value_under base q) ≡ after_of q (tracked_at q.a x)
  unfolding becomes
  held_of q = refl

  by_new : (f : Option Tracked) → new ≡ f → IsStored classes base id f → (t : Tracked) → object_of f id x ≡ Some t → (q : Key) → IsOwn q → q.a ≡ id → after_by x q t.current (value_under base q) ≡ value_in classes q t.current
  by_new None is read t found q own at =
      sym (held_of q ∙ ap (λ m. after_of q (tracked_at m x)) at ∙ ap (after_of q) found) ∙ formed.each id t q found own at
  by_new (Some u) is read t found q own at =
      let same : u ≡ t = cc in
      either q t.current (is_among q x.keys) own (read.0 q own at ∙ ap (λ (v : Tracked). value_in classes q v.current) same)

  -- behind the keys that are held stands what the object is
  pub was_formed : (t : Tracked) → object_of new id x ≡ Some t → (q : Key) → IsOwn q → q.a ≡ id → after_by x q t.current (value_under base q) ≡ value_in classes q t.current
  was_formed t found q own at = by_new new refl read t found q own at

  newest_by : (f : Option Tracked) → IsStored classes base id f → (t : Tracked) → object_of f id x ≡ Some t → HasNewest x.first.added t
  newest_by None is t found = formed.newest id t found
  newest_by (Some u) is t found = let same : u ≡ t = cc in subst (HasNewest x.first.added) same (is.1 x.first.added)

  -- and what of it was written has the newest stamp
  pub was_newest : (t : Tracked) → object_of new id x ≡ Some t → HasNewest x.first.added t
  was_newest = newest_by new read

-- ---- at the start

pub formed_begun : (classes : List Declared) (base : Entries) (counters : Counters) (queued : ℕ) (origin : Origin) → IsFormed classes base (begun counters queued origin)
formed_begun classes base counters queued origin = record { keys = tt; each = λ n t q is own at. absurd (cc is); newest = λ n t is. absurd (cc is) }

-- ---- a firing is collected

collected_stays : (classes : List Declared) (base : Entries) (x : Layer) (e : Entry) (independent : Bool) → IsFormed classes base x → (b : Bool) → IsFormed classes base (cond {A = Bool × Layer} b (true, with_entry e independent (queueing x)) (false, queueing x)).1
unfolding becomes
collected_stays classes base x e independent formed true = record { keys = formed.keys; each = formed.each; newest = formed.newest }
collected_stays classes base x e independent formed false = record { keys = formed.keys; each = formed.each; newest = formed.newest }

pub collect_stays : (classes : List Declared) (base : Entries) (x : Layer) (e : Entry) (independent : Bool) → IsFormed classes base x → IsFormed classes base (collect e independent x).1
unfolding collect
collect_stays classes base x e independent formed = collected_stays classes base x e independent formed (has_room x && are_args e.args)
