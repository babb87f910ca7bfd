-- Statements and completion keep a transaction within its limits, and go on from where they began; completion has enough rounds.
use Rattle.std.proofs.Common.{◌≡◌, ◌⊎◌, inl, inr, ℕ, zero, suc, ◌+◌, ◌-◌, ◌<◌, ◌≤◌, Bool, true, false, List, [], ◌∷◌, ◌++◌, length, Option, Some, None, refl, sym, ap, ◌∙◌, subst, arith}
use Rattle.std.specs.Prelude.{nat_lt, nat_le, slice_get, slice_index_or, ◌&&◌}
use Rattle.std.specs.List.{fold, Contains}
use Rattle.std.specs.Ordering.{match_ordering}
use Rattle.std.specs.declared.cmp.Ordering.{Ordering}
use Rattle.std.specs.declared.cmp.Ordering.TheVariants.{Less, Equal, Greater}
use Rattle.std.proofs.lemmas.Bool.{leb-true, ltb-true}
use Rattle.std.proofs.lemmas.List.{length-append, append_assoc, append-nil}
use Rattle.ode_value.specs.declared.key.Key.{Key}
use Rattle.ode_value.specs.declared.statement.Stmt.{Stmt}
use Rattle.ode_value.specs.Acts.{Outcome, Done, Aborted, Deed, go_on, with_statement}
use Rattle.ode_value.specs.Changes.{with_key, key_count, holding}
use Rattle.ode_value.specs.Completing.{rounds, posts_tcomplete, round, goes_round, completes}
use Rattle.ode_value.specs.Executing.{first_actions, commands}
use Rattle.ode_value.specs.Keys.{key_cmp}
use Rattle.ode_value.specs.Limits.{budget_limit, output_limit, change_limit, cascade_limit, generation_limit, queue_limit, number_limit}
use Rattle.ode_value.specs.Pasts.{Past}
use Rattle.ode_value.specs.Posting.{waiting, has_room, with_deferred, runs}
use Rattle.ode_value.specs.Transactions.{Tx, Origin, Script, Queue, Clock, Firing, generation_of, begun, touching}
use Rattle.ode_value.specs.Worlds.{World}
use Rattle.ode_laws.specs.Bounds.{IsBounded, GoesOn, StaysBounded}
use Rattle.ode_laws.proofs.Alone.{Keeps, Alone, alone, Ended}
use Rattle.ode_laws.proofs.Sides.{EndsBy}
use Rattle.ode_laws.proofs.SideStatements.{commands_alike}
use Rattle.ode_laws.proofs.SideCompleting.{tcomplete_alike, first_runs_alike, completes_alike}

-- ---- keys

contains_here : (x : Key) (xs : List Key) → Contains (x ∷ xs) x
contains_here x xs = (0, omega arith, refl)

contains_later : (y : Key) (xs : List Key) (x : Key) → Contains xs x → Contains (y ∷ xs) x
contains_later y xs x c = (suc c.0, (let here : c.0 < length xs = c.1 in omega arith), c.2)

contains_split : (y : Key) (xs : List Key) (x : Key) (k : ℕ) → k < length (y ∷ xs) → slice_index_or (y ∷ xs) k x ≡ x → (y ≡ x) ⊎ Contains xs x
contains_split y xs x zero less is = inl is
contains_split y xs x (suc k) less is = inr (k, omega arith, is)

with_key_keeps : (ls : List Key) (k j : Key) → Contains ls j → Contains (with_key ls k) j
with_key_keeps [] k j c = let none : c.0 < 0 = c.1 in absurd (omega arith)
with_key_keeps (l ∷ ls) k j c = by_order (key_cmp k l) (with_key_keeps ls k j) (contains_split l ls j c.0 c.1 c.2) where
  by_order : (o : Ordering) → (Contains ls j → Contains (with_key ls k) j) → (l ≡ j) ⊎ Contains ls j → Contains (match_ordering o (k ∷ l ∷ ls) (l ∷ ls) (l ∷ with_key ls k)) j
  by_order Less rest (inl is) = contains_later k (l ∷ ls) j (subst (Contains (l ∷ ls)) is (contains_here l ls))
  by_order Less rest (inr d) = contains_later k (l ∷ ls) j (contains_later l ls j d)
  by_order Equal rest (inl is) = subst (Contains (l ∷ ls)) is (contains_here l ls)
  by_order Equal rest (inr d) = contains_later l ls j d
  by_order Greater rest (inl is) = subst (Contains (l ∷ with_key ls k)) is (contains_here l (with_key ls k))
  by_order Greater rest (inr d) = contains_later l (with_key ls k) j (rest d)

keys_keep : (new ls : List Key) (j : Key) → Contains ls j → Contains (fold with_key ls new) j
keys_keep [] ls j c = c
keys_keep (k ∷ new) ls j c = keys_keep new (with_key ls k) j (with_key_keeps ls k j c)

-- what has room has room for one more key
second_of_left : (a b c d : Bool) → (((a && b) && c) && d) ≡ true → b ≡ true
second_of_left true true c d e = refl
second_of_left false b c d e = absurd (cc)
second_of_left true false c d e = absurd (cc)

pub room_for_key : {O A : Type 0} (x : Tx O A) → has_room x ≡ true → key_count x < change_limit
room_for_key x room =
    ltb-true (key_count x) change_limit
    (second_of_left (nat_le (generation_of x.origin + 1) generation_limit) (nat_lt (key_count x) change_limit) (nat_le (length (waiting x.origin x.first.bones.queue) + length x.collected + 1) queue_limit)
    (nat_lt (x.first.bones.next_entry + length x.collected) number_limit) room)

-- ---- from a transaction on

module _ {O A : Type 0} (past : Past O A) (old : Tx O A) where
  -- a statement's touch is paid by the statement
  pub record Bound (n : ℕ) (x : Tx O A) : Type 0 where
    pub bounded : IsBounded x
    pub on : GoesOn old x
    pub touched : length x.touched + n + old.run ≤ length old.touched + x.run
    pub more : length old.touched ≤ length x.touched

  same_again : (x : Tx O A) → GoesOn old x → (y : Tx O A) → y.first ≡ x.first → y.text ≡ x.text → y.keys ≡ x.keys → y.gathered ≡ x.gathered → GoesOn old y
  same_again x g y f t k e = record {
    first = f ∙ g.first;
    more = g.more;
    text = t ∙ g.text;
    keys = λ j c. subst (λ ks. Contains ks j) (sym k) (g.keys j c);
    gathered = subst (λ m. old.gathered ≤ m) (sym e) g.gathered;
  }

  pub bound_keeps : Keeps past Bound
  bound_keeps = record {
    less = λ n x b. record { bounded = b.bounded; on = b.on; touched = let here : length x.touched + suc n + old.run ≤ length old.touched + x.run = b.touched in omega arith; more = b.more };
    statement = λ n x b more. record {
      bounded = record { run = let here : x.run < budget_limit = ltb-true x.run budget_limit more in omega arith; text = b.bounded.text; keys = b.bounded.keys; deferred = b.bounded.deferred };
      on = same_again x b.on (with_statement x) refl refl refl refl;
      touched = let here : length x.touched + n + old.run ≤ length old.touched + x.run = b.touched in omega arith;
      more = b.more;
    };
    foot = λ n x change b. record { bounded = record { run = b.bounded.run; text = b.bounded.text; keys = b.bounded.keys; deferred = b.bounded.deferred }; on = record { first = b.on.first; more = b.on.more; text = b.on.text; keys = b.on.keys; gathered = b.on.gathered }; touched = b.touched; more = b.more };
    line = λ n x line b fits. record {
      bounded = record { run = b.bounded.run; text = let here : length x.text + length line ≤ output_limit = leb-true (length x.text + length line) output_limit fits in omega (arith, length-append x.text line); keys = b.bounded.keys; deferred = b.bounded.deferred };
      on = record { first = b.on.first; more = b.on.more ++ line; text = ap (λ t. t ++ line) b.on.text ∙ append_assoc old.text b.on.more line; keys = b.on.keys; gathered = b.on.gathered };
      touched = b.touched;
      more = b.more;
    };
    keys = λ n x keys b fits. record {
      bounded = record { run = b.bounded.run; text = b.bounded.text; keys = leb-true (key_count (holding keys x)) change_limit fits; deferred = b.bounded.deferred };
      on = record { first = b.on.first; more = b.on.more; text = b.on.text; keys = λ j c. keys_keep keys x.keys j (b.on.keys j c); gathered = b.on.gathered };
      touched = b.touched;
      more = b.more;
    };
    touch = λ n x id b. record {
      bounded = record { run = b.bounded.run; text = b.bounded.text; keys = b.bounded.keys; deferred = b.bounded.deferred };
      on = same_again x b.on (touching id x) refl refl refl refl;
      touched = let here : length x.touched + suc n + old.run ≤ length old.touched + x.run = b.touched in omega (arith, length-append x.touched (id ∷ []));
      more = let here : length old.touched ≤ length x.touched = b.more in omega (arith, length-append x.touched (id ∷ []));
    };
    defer = λ n x f b more. record {
      bounded = record {
        run = b.bounded.run;
        text = b.bounded.text;
        keys = b.bounded.keys;
        deferred = let here : length x.deferred < cascade_limit = ltb-true (length x.deferred) cascade_limit more in omega (arith, length-append x.deferred (f ∷ []));
      };
      on = same_again x b.on (with_deferred f x) refl refl refl refl;
      touched = b.touched;
      more = b.more;
    };
    collect = λ n x independent f b room. record {
      bounded = record { run = b.bounded.run; text = b.bounded.text; keys = let here : key_count x < change_limit = room_for_key x room in omega arith; deferred = b.bounded.deferred };
      on = record { first = b.on.first; more = b.on.more; text = b.on.text; keys = b.on.keys; gathered = let here : old.gathered ≤ x.gathered = b.on.gathered in omega arith };
      touched = b.touched;
      more = b.more;
    };
    set = λ n x r v place value b is small. record { bounded = record { run = b.bounded.run; text = b.bounded.text; keys = b.bounded.keys; deferred = b.bounded.deferred }; on = record { first = b.on.first; more = b.on.more; text = b.on.text; keys = b.on.keys; gathered = b.on.gathered }; touched = b.touched; more = b.more };
    derive = λ n x r v o b is there more small. record { bounded = record { run = b.bounded.run; text = b.bounded.text; keys = b.bounded.keys; deferred = b.bounded.deferred }; on = record { first = b.on.first; more = b.on.more; text = b.on.text; keys = b.on.keys; gathered = b.on.gathered }; touched = b.touched; more = b.more };
    drop = λ n x r v o b is there more. record { bounded = record { run = b.bounded.run; text = b.bounded.text; keys = b.bounded.keys; deferred = b.bounded.deferred }; on = record { first = b.on.first; more = b.on.more; text = b.on.text; keys = b.on.keys; gathered = b.on.gathered }; touched = b.touched; more = b.more };
    remove = λ n x id b. record { bounded = record { run = b.bounded.run; text = b.bounded.text; keys = b.bounded.keys; deferred = b.bounded.deferred }; on = record { first = b.on.first; more = b.on.more; text = b.on.text; keys = b.on.keys; gathered = b.on.gathered }; touched = b.touched; more = b.more };
    off = λ n x id number b. record { bounded = record { run = b.bounded.run; text = b.bounded.text; keys = b.bounded.keys; deferred = b.bounded.deferred }; on = record { first = b.on.first; more = b.on.more; text = b.on.text; keys = b.on.keys; gathered = b.on.gathered }; touched = b.touched; more = b.more };
    new = λ n x class fields b left small. record { bounded = record { run = b.bounded.run; text = b.bounded.text; keys = b.bounded.keys; deferred = b.bounded.deferred }; on = record { first = b.on.first; more = b.on.more; text = b.on.text; keys = b.on.keys; gathered = b.on.gathered }; touched = b.touched; more = b.more };
    active = λ n x id t args b left short. record { bounded = record { run = b.bounded.run; text = b.bounded.text; keys = b.bounded.keys; deferred = b.bounded.deferred }; on = record { first = b.on.first; more = b.on.more; text = b.on.text; keys = b.on.keys; gathered = b.on.gathered }; touched = b.touched; more = b.more };
    point = λ n x id p o firings b there. record { bounded = record { run = b.bounded.run; text = b.bounded.text; keys = b.bounded.keys; deferred = b.bounded.deferred }; on = record { first = b.on.first; more = b.on.more; text = b.on.text; keys = b.on.keys; gathered = b.on.gathered }; touched = b.touched; more = b.more };
  }

  pub itself : IsBounded old → Bound 0 old
  itself is = record {
    bounded = is;
    on = record { first = refl; more = []; text = sym (append-nil old.text); keys = λ j c. c; gathered = omega arith };
    touched = omega arith;
    more = omega arith;
  }

  stays_by : {X : Type 0} (p : Outcome O A X) → EndsBy (Alone past Bound bound_keeps old.now.bones.classes 0) (Alone past Bound bound_keeps old.now.bones.classes 0) p p → StaysBounded old p
  stays_by (Done r x) h = (h.1.2.bounded, h.1.2.on)
  stays_by (Aborted r x) h = (h.1.2.bounded, h.1.2.on)

  pub statements_bounded : IsBounded old → (s : Stmt) → StaysBounded old (commands past s old)
  statements_bounded is s = stays_by (commands past s old) (commands_alike (alone past Bound bound_keeps old.now.bones.classes) 0 s old old (refl, refl, itself is))

  pub completion_bounded : IsBounded old → StaysBounded old (completes past old)
  completion_bounded is = stays_by (completes past old) (completes_alike (alone past Bound bound_keeps old.now.bones.classes) 0 old old (refl, refl, itself is))

-- ---- rounds

get_within : {X : Type 0} (xs : List X) (i : ℕ) (x : X) → slice_get xs i ≡ Some x → i < length xs
get_within [] i x is = absurd (cc)
get_within (y ∷ xs) zero x is = omega arith
get_within (y ∷ xs) (suc i) x is = let here : i < length xs = get_within xs i x is in omega arith

get_past : {X : Type 0} (xs : List X) (i : ℕ) → length xs ≤ i → slice_get xs i ≡ None
get_past [] i less = refl
get_past (y ∷ xs) zero less = absurd (omega arith)
get_past (y ∷ xs) (suc i) less = get_past xs i (omega arith)

module _ {O A : Type 0} (past : Past O A) where
  -- what a round reaches is within its limits, and no more was touched than statements ran
  pub record Paid (old x : Tx O A) : Type 0 where
    pub bounded : IsBounded x
    pub touched : length x.touched + old.run ≤ length old.touched + x.run
    pub more : length old.touched ≤ length x.touched

  paid_by : (old : Tx O A) (p : Outcome O A (Unit {0})) → EndsBy (Alone past (Bound past old) (bound_keeps past old) old.now.bones.classes 0) (Alone past (Bound past old) (bound_keeps past old) old.now.bones.classes 0) p p
      → Ended (Paid old) (λ x. Unit {0}) p
  paid_by old (Done r x) h = let here : length x.touched + 0 + old.run ≤ length old.touched + x.run = h.1.2.touched in record { bounded = h.1.2.bounded; touched = omega arith; more = h.1.2.more }
  paid_by old (Aborted r x) h = tt

  posts_paid : (old : Tx O A) → IsBounded old → (id : ℕ) → Ended (Paid old) (λ x. Unit {0}) (posts_tcomplete past id old)
  posts_paid old is id = paid_by old (posts_tcomplete past id old) (tcomplete_alike (alone past (Bound past old) (bound_keeps past old) old.now.bones.classes) 0 id old old (refl, refl, itself past old is))

  runs_paid : (old : Tx O A) → IsBounded old → (f : Firing) → Ended (Paid old) (λ x. Unit {0}) (runs (first_actions past) f old)
  runs_paid old is f = paid_by old (runs (first_actions past) f old) (first_runs_alike (alone past (Bound past old) (bound_keeps past old) old.now.bones.classes) 0 f old old (refl, refl, itself past old is))

  -- after a round, two rests that do the same
  behind : (old : Tx O A) (p : Outcome O A (Unit {0})) → Ended (Paid old) (λ x. Unit {0}) p → (f g : Deed O A) → ((x : Tx O A) → Paid old x → f x ≡ g x) → go_on p (λ _. f) ≡ go_on p (λ _. g)
  behind old (Done r x) paid f g same = same x paid
  behind old (Aborted r x) paid f g same = refl

  rounds_by : (few more at ran : ℕ) (x : Tx O A) → IsBounded x → few ≤ more → (budget_limit - x.run) + (length x.touched - at) + (cascade_limit - ran) ≤ few → goes_round past more at ran x ≡ goes_round past few at ran x
  unfolding goes_round
  rounds_by zero zero at ran x is less enough = refl
  rounds_by zero (suc more) at ran x is less enough =
      let within : length x.deferred ≤ cascade_limit = is.deferred in
      ap (λ id. round past id (slice_get x.deferred ran) at ran (goes_round past more) x) (get_past x.touched at (omega arith))
      ∙ ap (λ f. round past None f at ran (goes_round past more) x) (get_past x.deferred ran (omega arith))
  rounds_by (suc few) zero at ran x is less enough = absurd (omega arith)
  rounds_by (suc few) (suc more) at ran x is less enough =
      by_id (slice_get x.touched at) refl (λ at' ran' z bounded enough'. rounds_by few more at' ran' z bounded (omega arith) enough')
    where
      by_firing : (f : Option Firing) → slice_get x.deferred ran ≡ f
          → ((at' ran' : ℕ) (z : Tx O A) → IsBounded z → (budget_limit - z.run) + (length z.touched - at') + (cascade_limit - ran') ≤ few → goes_round past more at' ran' z ≡ goes_round past few at' ran' z)
          → round past None f at ran (goes_round past more) x ≡ round past None f at ran (goes_round past few) x
      by_firing None e rest = refl
      by_firing (Some f) e rest =
          let here : ran < length x.deferred = get_within x.deferred ran f e in
          let within : length x.deferred ≤ cascade_limit = is.deferred in
          let left : ran < cascade_limit = omega arith in
          behind x (runs (first_actions past) f x) (runs_paid x is f) (goes_round past more at (suc ran)) (goes_round past few at (suc ran)) (λ z paid.
          let runs_up : z.run ≤ budget_limit = paid.bounded.run in
          let no_more : length z.touched + x.run ≤ length x.touched + z.run = paid.touched in
          let not_less : length x.touched ≤ length z.touched = paid.more in
          rest at (suc ran) z paid.bounded (omega arith))

      by_id : (id : Option ℕ) → slice_get x.touched at ≡ id
          → ((at' ran' : ℕ) (z : Tx O A) → IsBounded z → (budget_limit - z.run) + (length z.touched - at') + (cascade_limit - ran') ≤ few → goes_round past more at' ran' z ≡ goes_round past few at' ran' z)
          → round past id (slice_get x.deferred ran) at ran (goes_round past more) x ≡ round past id (slice_get x.deferred ran) at ran (goes_round past few) x
      by_id (Some id) e rest =
          let here : at < length x.touched = get_within x.touched at id e in
          behind x (posts_tcomplete past id x) (posts_paid x is id) (goes_round past more (suc at) ran) (goes_round past few (suc at) ran) (λ z paid.
          let runs_up : z.run ≤ budget_limit = paid.bounded.run in
          let no_more : length z.touched + x.run ≤ length x.touched + z.run = paid.touched in
          let not_less : length x.touched ≤ length z.touched = paid.more in
          rest (suc at) ran z paid.bounded (omega arith))
      by_id None e rest = by_firing (slice_get x.deferred ran) refl rest

  pub rounds_suffice : (x : Tx O A) → IsBounded x → (n : ℕ) → rounds x ≤ n → goes_round past n 0 0 x ≡ goes_round past (rounds x) 0 0 x
  rounds_suffice x is n less = rounds_by (rounds x) n 0 0 x is less (omega arith)

pub begun_bounded : {O A : Type 0} (origin : Origin) (w : World O A) → IsBounded (begun origin w)
unfolding output_limit change_limit
begun_bounded Script w = record { run = omega arith; text = omega arith; keys = omega arith; deferred = omega arith }
begun_bounded (Queue number generation) w = record { run = omega arith; text = omega arith; keys = omega arith; deferred = omega arith }
begun_bounded (Clock position) w = record { run = omega arith; text = omega arith; keys = omega arith; deferred = omega arith }
