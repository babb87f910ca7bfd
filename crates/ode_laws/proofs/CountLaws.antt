-- Counters, queue and last versions stay in their ranges.
use Rattle.std.proofs.Common.{◌≡◌, ℕ, zero, suc, ◌+◌, ◌<◌, ◌≤◌, ◌^◌, Bool, true, false, cond, not, List, [], ◌∷◌, ◌++◌, map, length, ◌==◌, Option, Some, None, refl, sym, ap, ◌∙◌, subst, arith}
use Rattle.std.specs.Prelude.{nat_lt, nat_le, ◌&&◌}
use Rattle.std.specs.List.{AllByRecursion, filter, enumerate_from}
use Rattle.std.specs.Option.{option_map_or}
use Rattle.std.proofs.lemmas.Bool.{leb-true, ltb-true}
use Rattle.std.proofs.lemmas.List.{length-append, map-append}
use Rattle.ode_value.specs.declared.event.Kind.{Kind}
use Rattle.ode_value.specs.declared.event.Kind.TheVariants.{TCommit, TAbort}
use Rattle.ode_value.specs.declared.event.Point.{Point}
use Rattle.ode_value.specs.declared.reason.Reason.{Reason}
use Rattle.ode_value.specs.declared.statement.Stmt.{Stmt}
use Rattle.ode_value.specs.declared.value.Value.{Value}
use Rattle.ode_value.specs.Acts.{Outcome, Done, Aborted, Act, Deed, go_on, ◌>>=◌, ◌>>◌, gives, reads, turns, found, with_line, with_statement}
use Rattle.ode_value.specs.Changes.{key_count, has_number, holding, alters_object}
use Rattle.ode_value.specs.Classes.{Trigger}
use Rattle.ode_value.specs.Completing.{completes}
use Rattle.ode_value.specs.Denoting.{object_at, object_numbered}
use Rattle.ode_value.specs.Executing.{commands}
use Rattle.ode_value.specs.Firings.{new_point, object_after, Place, both_lists, whole_list, with_point, fired, arises}
use Rattle.ode_value.specs.GoodWorlds.{RiseFrom, IsNext}
use Rattle.ode_value.specs.Keeping.{is_there, kept_object, kept_bones, with_last}
use Rattle.ode_value.specs.Limits.{change_limit, number_limit, queue_limit, generation_limit, version_limit}
use Rattle.ode_value.specs.Making.{derived_from, object_with, with_activation, with_new, with_active}
use Rattle.ode_value.specs.Pasts.{Past}
use Rattle.ode_value.specs.Posting.{waiting, has_room, with_deferred, with_entry, entry_of}
use Rattle.ode_value.specs.Settling.{is_independent, entry_in, settled_bones, settled_world, posted, commit, abort, settle, committed, aborted}
use Rattle.ode_value.specs.Transactions.{Tx, Origin, Script, Queue, Clock, Firing, Collected, generation_of, begun, touching, footed}
use Rattle.ode_value.specs.Worlds.{Declared, Entry, Object, Bones, World, with_object}
use Rattle.ode_laws.specs.Counted.{IsWaiting, IsQueued, HasLast, AreCounted, CountsOn, StaysCounted}
use Rattle.ode_laws.proofs.Alone.{Keeps, Alone, alone}
use Rattle.ode_laws.proofs.AlikePairs.{all_with, all_found}
use Rattle.ode_laws.proofs.Each.{all-append, all-then, all-map, all-filter}
use Rattle.ode_laws.proofs.Numbers.{rise_filter, rise_lower}
use Rattle.ode_laws.proofs.Rows.{numbered_id, at_numbered}
use Rattle.ode_laws.proofs.SideCompleting.{completes_alike}
use Rattle.ode_laws.proofs.SideSettling.{Settlings, posted_related}
use Rattle.ode_laws.proofs.SideStatements.{commands_alike}
use Rattle.ode_laws.proofs.Sides.{EndsBy, Same, same_self, altered, turned, stamp_in, set_in, dropped_from, removed, off_in}

-- the object of a number changed
all_with_found : (P : Object → Type 0) (id : ℕ) (f : Object → Object) (o : Object) → P (f o) → (os : List Object) → object_numbered id os ≡ Some o → AllByRecursion P os → AllByRecursion P (with_object id f os)
all_with_found P id f o holds [] is all = tt
all_with_found P id f o holds (p ∷ os) is all = by_test (p.id == id) is (λ e. all_with_found P id f o holds os e all.1) where
  by_test : (b : Bool) → cond b (Some p) (object_numbered id os) ≡ Some o → (object_numbered id os ≡ Some o → AllByRecursion P (with_object id f os)) → AllByRecursion P (cond b (f p ∷ os) (p ∷ with_object id f os))
  by_test true e rest = let it : p ≡ o = cc in (subst (λ q. P (f q)) (sym it) holds, all.1)
  by_test false e rest = (all.0, rest e)

-- four tests
first_of : (a b c d : Bool) → (((a && b) && c) && d) ≡ true → a ≡ true
first_of true b c d e = refl
first_of false b c d e = absurd (cc)

third_of : (a b c d : Bool) → (((a && b) && c) && d) ≡ true → c ≡ true
third_of true true true d e = refl
third_of true true false d e = absurd (cc)
third_of true false c d e = absurd (cc)
third_of false b c d e = absurd (cc)

fourth_of : (a b c d : Bool) → (((a && b) && c) && d) ≡ true → d ≡ true
fourth_of true true true true e = refl
fourth_of true true true false e = absurd (cc)
fourth_of true true false d e = absurd (cc)
fourth_of true false c d e = absurd (cc)
fourth_of false b c d e = absurd (cc)

module _ {O A : Type 0} (x : Tx O A) (room : has_room x ≡ true) where
  abbrev t1 : Bool
  t1 = nat_le (generation_of x.origin + 1) generation_limit

  abbrev t2 : Bool
  t2 = nat_lt (key_count x) change_limit

  abbrev t3 : Bool
  t3 = nat_le (length (waiting x.origin x.first.bones.queue) + length x.collected + 1) queue_limit

  abbrev t4 : Bool
  t4 = nat_lt (x.first.bones.next_entry + length x.collected) number_limit

  pub room_generation : generation_of x.origin + 1 ≤ generation_limit
  room_generation = leb-true (generation_of x.origin + 1) generation_limit (first_of t1 t2 t3 t4 room)

  pub room_queue : length (waiting x.origin x.first.bones.queue) + length x.collected + 1 ≤ queue_limit
  room_queue = leb-true (length (waiting x.origin x.first.bones.queue) + length x.collected + 1) queue_limit (third_of t1 t2 t3 t4 room)

  pub room_numbers : x.first.bones.next_entry + length x.collected < number_limit
  room_numbers = ltb-true (x.first.bones.next_entry + length x.collected) number_limit (fourth_of t1 t2 t3 t4 room)

derived_last : (o : Object) → nat_lt o.last version_limit ≡ true → o.last + 1 < 2 ^ 32
unfolding version_limit
derived_last o more = let less : o.last < version_limit = ltb-true o.last version_limit more in omega arith

next_more : (next : ℕ) → IsNext number_limit next → nat_lt next number_limit ≡ true → IsNext number_limit (next + 1)
next_more next is left = record { some = omega arith; bounded = let less : next < number_limit = ltb-true next number_limit left in omega arith }

kept_lasts : (b : Bones) → AllByRecursion HasLast b.objects → AllByRecursion HasLast (kept_bones b).objects
kept_lasts b all = all-map HasLast kept_object (filter is_there b.objects) (all-filter HasLast is_there b.objects all)

module _ {O A : Type 0} where
  -- with what it collected
  more_collected : (x : Tx O A) (independent : Bool) (f : Firing) → CountsOn x → has_room x ≡ true → CountsOn (with_entry independent f x)
  more_collected x independent f h room =
      let new : Collected = record { entry = entry_of (generation_of x.origin + 1) f; independent = independent } in
      let free : length (waiting x.origin x.first.bones.queue) + length x.collected + 1 ≤ queue_limit = room_queue x room in
      let left : x.first.bones.next_entry + length x.collected < number_limit = room_numbers x room in
      record {
        first = h.first;
        next = h.next;
        lasts = h.lasts;
        room = omega (arith, length-append x.collected (new ∷ []));
        numbers = omega (arith, length-append x.collected (new ∷ []));
        collected = all-append (λ (c : Collected). IsWaiting c.entry) x.collected (new ∷ []) h.collected ((omega arith, room_generation x room), tt);
      }

  -- with a change of objects that leaves counters
  lasts_now : (x : Tx O A) (id : ℕ) (f : Object → Object) → AllByRecursion HasLast (with_object id f x.now.bones.objects) → CountsOn x → CountsOn (altered id f x)
  lasts_now x id f lasts h = record { first = h.first; next = h.next; lasts = lasts; room = h.room; numbers = h.numbers; collected = h.collected }

  same_lasts : (x : Tx O A) (id : ℕ) (f : Object → Object) → ((o : Object) → (f o).last ≡ o.last) → CountsOn x → CountsOn (altered id f x)
  same_lasts x id f same h = lasts_now x id f (all_with HasLast id f (λ o last. subst (λ n. n < 2 ^ 32) (sym (same o)) last) x.now.bones.objects h.lasts) h

  module _ (past : Past O A) where
    abbrev pub Counting : ℕ → Tx O A → Type 0
    Counting n x = CountsOn x

    again : (x y : Tx O A) → CountsOn x → y.first ≡ x.first → y.now ≡ x.now → y.origin ≡ x.origin → y.collected ≡ x.collected → CountsOn y
    again x y h first now origin collected = record {
      first = subst (λ w. AreCounted w.bones) (sym first) h.first;
      next = subst (λ w. IsNext number_limit w.bones.next) (sym now) h.next;
      lasts = subst (λ w. AllByRecursion HasLast w.bones.objects) (sym now) h.lasts;
      room = subst (λ w. length (waiting y.origin w.bones.queue) + length y.collected ≤ queue_limit) (sym first)
          (subst (λ o. length (waiting o x.first.bones.queue) + length y.collected ≤ queue_limit) (sym origin)
          (subst (λ c. length (waiting x.origin x.first.bones.queue) + length c ≤ queue_limit) (sym collected) h.room));
      numbers = subst (λ w. w.bones.next_entry + length y.collected ≤ number_limit) (sym first) (subst (λ c. x.first.bones.next_entry + length c ≤ number_limit) (sym collected) h.numbers);
      collected = subst (AllByRecursion (λ (c : Collected). IsWaiting c.entry)) (sym collected) h.collected;
    }

    pub counting_keeps : Keeps past Counting
    counting_keeps = record {
      less = λ n x h. h;
      statement = λ n x h more. again x (with_statement x) h refl refl refl refl;
      foot = λ n x change h. again x (footed change x) h refl refl refl refl;
      line = λ n x line h fits. again x (with_line line x) h refl refl refl refl;
      keys = λ n x keys h fits. again x (holding keys x) h refl refl refl refl;
      touch = λ n x id h. again x (touching id x) h refl refl refl refl;
      defer = λ n x f h more. again x (with_deferred f x) h refl refl refl refl;
      collect = λ n x independent f h room. more_collected x independent f h room;
      set = λ n x r v place value h is small. same_lasts x r.object (set_in (stamp_in x) v place value) (λ o. refl) h;
      derive = λ n x r v o h is there more small.
          lasts_now x o.id (derived_from (stamp_in x) v)
          (all_with_found HasLast o.id (derived_from (stamp_in x) v) o (derived_last o more) x.now.bones.objects
          (ap (λ m. object_numbered m x.now.bones.objects) (numbered_id r.object x.now.bones.objects o (at_numbered x.now.bones r.object o there)) ∙ at_numbered x.now.bones r.object o there) h.lasts) h;
      drop = λ n x r v o h is there more. same_lasts x o.id (dropped_from v) (λ q. refl) h;
      remove = λ n x id h. same_lasts x id removed (λ o. refl) h;
      off = λ n x id number h. same_lasts x id (off_in number) (λ o. refl) h;
      new = λ n x class fields h left small. record {
        first = h.first;
        next = next_more x.now.bones.next h.next left;
        lasts = all-append HasLast x.now.bones.objects (object_with (stamp_in x) x.now.bones.next class fields ∷ []) h.lasts (omega arith, tt);
        room = h.room;
        numbers = h.numbers;
        collected = h.collected;
      };
      active = λ n x id t args h left short. record {
        first = h.first;
        next = next_more x.now.bones.next h.next left;
        lasts = all_with HasLast id (with_activation t args x.now.bones.next) (λ o last. last) x.now.bones.objects h.lasts;
        room = h.room;
        numbers = h.numbers;
        collected = h.collected;
      };
      point = λ n x id p o firings h there.
          same_lasts (turned (with_point past (both_lists past) p o) x) id (object_after firings) (λ q. refl)
          (record { first = h.first; next = h.next; lasts = h.lasts; room = h.room; numbers = h.numbers; collected = h.collected });
    }

    abbrev Counted : List Declared → Tx O A → Tx O A → Type 0
    Counted cs y x = Alone past Counting counting_keeps cs 0 y x

    stays_by : {X : Type 0} (cs : List Declared) (p : Outcome O A X) → EndsBy (Counted cs) (Counted cs) p p → StaysCounted p
    stays_by cs (Done r x) h = h.1.2
    stays_by cs (Aborted r x) h = h.1.2

    pub statements_counted : (x : Tx O A) → CountsOn x → (s : Stmt) → StaysCounted (commands past s x)
    statements_counted x h s = stays_by x.now.bones.classes (commands past s x) (commands_alike (alone past Counting counting_keeps x.now.bones.classes) 0 s x x (refl, refl, h))

    pub completion_counted : (x : Tx O A) → CountsOn x → StaysCounted (completes past x)
    completion_counted x h = stays_by x.now.bones.classes (completes past x) (completes_alike (alone past Counting counting_keeps x.now.bones.classes) 0 x x (refl, refl, h))

-- ---- from the queue on, and back to it

filter_length : {X : Type 0} (p : X → Bool) (xs : List X) → length (filter p xs) ≤ length xs
filter_length p [] = omega arith
filter_length {X} p (x ∷ xs) = by_test (p x) (filter_length p xs) where
  by_test : (b : Bool) → length (filter p xs) ≤ length xs → length (cond b (x ∷ filter p xs) (filter p xs)) ≤ length (x ∷ xs)
  by_test true less = omega arith
  by_test false less = omega arith

abbrev number_in : ℕ × Entry → ℕ
number_in q = q.0

waiting_length : (origin : Origin) (queue : List (ℕ × Entry)) → length (waiting origin queue) ≤ length queue
waiting_length Script queue = omega arith
waiting_length (Queue number generation) queue = filter_length (λ (q : ℕ × Entry). not (q.0 == number)) queue
waiting_length (Clock position) queue = omega arith

waiting_rises : (origin : Origin) (queue : List (ℕ × Entry)) → RiseFrom 0 (map number_in queue) → RiseFrom 0 (map number_in (waiting origin queue))
waiting_rises Script queue rise = rise
waiting_rises (Queue number generation) queue rise = rise_filter number_in (λ (q : ℕ × Entry). not (q.0 == number)) 0 queue rise
waiting_rises (Clock position) queue rise = rise

waiting_all : (P : ℕ × Entry → Type 0) (origin : Origin) (queue : List (ℕ × Entry)) → AllByRecursion P queue → AllByRecursion P (waiting origin queue)
waiting_all P Script queue all = all
waiting_all P (Queue number generation) queue all = all-filter P (λ (q : ℕ × Entry). not (q.0 == number)) queue all
waiting_all P (Clock position) queue all = all

rise_append : (low n : ℕ) (xs ys : List ℕ) → low ≤ n → RiseFrom low xs → AllByRecursion (λ m. m < n) xs → RiseFrom n ys → RiseFrom low (xs ++ ys)
rise_append low n [] ys less rise below more = rise_lower low n ys less more
rise_append low n (x ∷ xs) ys less rise below more = let here : x < n = below.0 in (rise.0, rise_append (x + 1) n xs ys (omega arith) rise.1 below.1 more)

enumerated_rise : (n : ℕ) (es : List Entry) → RiseFrom n (map number_in (enumerate_from n es))
enumerated_rise n [] = tt
enumerated_rise n (e ∷ es) = (omega arith, enumerated_rise (n + 1) es)

enumerated_queued : (n : ℕ) (cs : List Collected) → AllByRecursion (λ (c : Collected). IsWaiting c.entry) cs → AllByRecursion (IsQueued (n + length cs)) (enumerate_from n (map entry_in cs))
enumerated_queued n [] all = tt
enumerated_queued n (c ∷ cs) all =
    let next : n + 1 + length cs ≡ n + length (c ∷ cs) = omega arith in
    ((omega arith, all.0), subst (λ m. AllByRecursion (IsQueued m) (enumerate_from (n + 1) (map entry_in cs))) next (enumerated_queued (n + 1) cs all.1))

enumerated_length : (n : ℕ) (cs : List Collected) → length (enumerate_from n (map entry_in cs)) ≡ length cs
enumerated_length n [] = refl
enumerated_length n (c ∷ cs) = ap suc (enumerated_length (n + 1) cs)

module _ {O A : Type 0} where
  pub begun_counted : (origin : Origin) (w : World O A) → AreCounted w.bones → CountsOn (begun origin w)
  begun_counted origin w h = record {
    first = h;
    next = h.next;
    lasts = h.lasts;
    room = let less : length (waiting origin w.bones.queue) ≤ length w.bones.queue = waiting_length origin w.bones.queue in let few : length w.bones.queue ≤ queue_limit = h.few in omega arith;
    numbers = let bounded : w.bones.next_entry ≤ number_limit = h.next_entry.bounded in omega arith;
    collected = tt;
  }

  pub settled_counted : (x : Tx O A) → CountsOn x → AreCounted (settled_world x).bones
  settled_counted x h = record {
    next = h.next;
    next_entry = record { some = let some : 1 ≤ x.first.bones.next_entry = h.first.next_entry.some in omega arith; bounded = h.numbers };
    few =
        let room : length (waiting x.origin x.first.bones.queue) + length x.collected ≤ queue_limit = h.room in
        omega (arith, length-append (waiting x.origin x.first.bones.queue) (enumerate_from x.first.bones.next_entry (map entry_in x.collected)), enumerated_length x.first.bones.next_entry x.collected);
    rising =
        subst (RiseFrom 0) (sym (map-append number_in (waiting x.origin x.first.bones.queue) (enumerate_from x.first.bones.next_entry (map entry_in x.collected))))
        (rise_append 0 x.first.bones.next_entry (map number_in (waiting x.origin x.first.bones.queue)) (map number_in (enumerate_from x.first.bones.next_entry (map entry_in x.collected))) (omega arith)
        (waiting_rises x.origin x.first.bones.queue h.first.rising)
        (all-map (λ m. m < x.first.bones.next_entry) number_in (waiting x.origin x.first.bones.queue)
        (all-then (IsQueued x.first.bones.next_entry) (λ (q : ℕ × Entry). q.0 < x.first.bones.next_entry) (λ q is. is.0) (waiting x.origin x.first.bones.queue) (waiting_all (IsQueued x.first.bones.next_entry) x.origin x.first.bones.queue h.first.queue)))
        (enumerated_rise x.first.bones.next_entry (map entry_in x.collected)));
    queue =
        all-append (IsQueued (x.first.bones.next_entry + length x.collected)) (waiting x.origin x.first.bones.queue) (enumerate_from x.first.bones.next_entry (map entry_in x.collected))
        (all-then (IsQueued x.first.bones.next_entry) (IsQueued (x.first.bones.next_entry + length x.collected)) (λ q is. (let low : q.0 < x.first.bones.next_entry = is.0 in omega arith, is.1)) (waiting x.origin x.first.bones.queue)
        (waiting_all (IsQueued x.first.bones.next_entry) x.origin x.first.bones.queue h.first.queue))
        (enumerated_queued x.first.bones.next_entry x.collected h.collected);
    lasts = kept_lasts x.now.bones h.lasts;
  }

  module _ (past : Past O A) where
    abbrev Still : List Declared → Tx O A → Tx O A → Type 0
    Still cs y x = (y ≡ x) × (x.now.bones.classes ≡ cs) × CountsOn x

    abbrev pointing : Place O A → ℕ → Kind → Object → Act O A (List Firing)
    pointing place id kind o =
        turns (with_point past place (new_point kind [] o) o) >> (reads (λ z. fired past place o z.now) >>= λ firings. alters_object id (object_after firings) >> gives firings)

    point_still : (place : Place O A) (cs : List Declared) (x : Tx O A) (id : ℕ) (kind : Kind) → x.now.bones.classes ≡ cs → CountsOn x → EndsBy (Still cs) (Still cs) (arises past place id kind [] x) (arises past place id kind [] x)
    point_still place cs x id kind is h = by_found (object_at x.now.bones id) where
      by_found : (a : Option Object) → EndsBy (Still cs) (Still cs) (go_on (found a x) (pointing place id kind)) (go_on (found a x) (pointing place id kind))
      by_found (Some o) = (
        refl,
        (
          refl,
          is,
          same_lasts (turned (with_point past place (new_point kind [] o) o) x) id (object_after (fired past place o (with_point past place (new_point kind [] o) o x.now))) (λ q. refl)
              (record { first = h.first; next = h.next; lasts = h.lasts; room = h.room; numbers = h.numbers; collected = h.collected }),
        ),
      )
      by_found None = (refl, (refl, is, h))

    abbrev lasting : Place O A → List Declared → Settlings O A O A
    lasting place cs = record {
      past = past;
      other = past;
      classes = cs;
      place = place;
      other_place = place;
      Related = Still cs;
      same = λ y x r. same_self cs y x r.0 r.1;
      foot = λ y x change r. (ap (footed change) r.0, r.1, again past x (footed change x) r.2 refl refl refl refl);
      line = λ y x line r. (ap (with_line line) r.0, r.1, again past x (with_line line x) r.2 refl refl refl refl);
      collect = λ y x f r room. (ap (with_entry true f) r.0, r.1, more_collected x true f r.2 room);
      point = λ y x id kind r. subst (λ z. EndsBy (Still cs) (Still cs) (arises past place id kind [] z) (arises past place id kind [] x)) (sym r.0) (point_still place cs x id kind r.1 r.2);
    }

    last_counted : (place : Place O A) (kind : Kind) (x : Tx O A) → CountsOn x → CountsOn (posted past place kind x)
    last_counted place kind x h = (posted_related (lasting place x.now.bones.classes) kind x x (refl, refl, h)).2

    pub commit_counted : (x : Tx O A) → CountsOn x → AreCounted (commit past x).0.bones
    commit_counted x h =
        settled_counted (posted past (both_lists past) TCommit (committed past x)) (last_counted (both_lists past) TCommit (committed past x)
        (record { first = h.first; next = h.next; lasts = kept_lasts x.now.bones h.lasts; room = h.room; numbers = h.numbers; collected = h.collected }))

    last_of : (now : Bones) → AllByRecursion HasLast now.objects → (o : Object) → HasLast o → HasLast (with_last now o)
    last_of now all o is = by_found (object_numbered o.id now.objects) (all_found HasLast o.id now.objects all) where
      by_found : (m : Option Object) → ((p : Object) → m ≡ Some p → HasLast p) → option_map_or (λ (p : Object). p.last) m o.last < 2 ^ 32
      by_found None known = is
      by_found (Some p) known = known p refl

    pub abort_counted : (reason : Reason) (x : Tx O A) → CountsOn x → AreCounted (abort past reason x).0.bones
    abort_counted reason x h =
        settled_counted (posted past (whole_list past) TAbort (aborted past x)) (last_counted (whole_list past) TAbort (aborted past x) (record {
          first = h.first;
          next = h.next;
          lasts = all-map HasLast (with_last x.now.bones) x.first.bones.objects (all-then HasLast (λ o. HasLast (with_last x.now.bones o)) (last_of x.now.bones h.lasts) x.first.bones.objects h.first.lasts);
          room =
              let less : length (filter is_independent x.collected) ≤ length x.collected = filter_length is_independent x.collected in
              let room : length (waiting x.origin x.first.bones.queue) + length x.collected ≤ queue_limit = h.room in omega arith;
          numbers =
              let less : length (filter is_independent x.collected) ≤ length x.collected = filter_length is_independent x.collected in
              let numbers : x.first.bones.next_entry + length x.collected ≤ number_limit = h.numbers in omega arith;
          collected = all-filter (λ (c : Collected). IsWaiting c.entry) is_independent x.collected h.collected;
        }))
