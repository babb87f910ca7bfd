-- The queue behind a settling.
use Rattle.std.proofs.Common.{◌≡◌, ◌==◌, ℕ, ◌+◌, ◌<◌, ◌≤◌, List, [], ◌∷◌, ◌++◌, map, Bool, true, false, cond, not, Option, Some, None, refl, sym, ap, ◌∙◌, append_assoc, arith}
use Rattle.std.proofs.lemmas.Bool.Decides.{nat_tests}
use Rattle.std.proofs.lemmas.List.{map-append}
use Rattle.std.specs.BTreeMap.{is_at}
use Rattle.std.specs.List.{AllByRecursion, enumerate_from, filter}
use Rattle.ode_codec.specs.StoredRows.{entry_row}
use Rattle.ode_codec.specs.Spelling.{value_of}
use Rattle.ode_codec.specs.declared.record.Record.TheVariants as of
use Rattle.ode_heap.specs.Answering.{entry_of}
use Rattle.ode_keep.proofs.Keys.{key_total}
use Rattle.ode_keep.proofs.Maps.{back}
use Rattle.ode_keep.specs.Entries.{value_under}
use Rattle.ode_overlay.specs.After.{queued_after, ran_after}
use Rattle.ode_overlay.specs.Records.{entry_by}
use Rattle.ode_overlay.specs.declared.origin.Origin.{Origin}
use Rattle.ode_overlay.specs.declared.origin.Origin.TheVariants as from
use Rattle.ode_overlay.specs.declared.overlay.Collected.{Collected}
use Rattle.ode_overlay_laws.specs.Standing.{collected_as, origin_as}
use Rattle.ode_settling_laws.proofs.KindLaws.{or_else, or_none, value_append}
use Rattle.ode_value.specs.Keys.{entry_key, key_cmp}
use Rattle.ode_value.specs.Posting.{waiting}
use Rattle.ode_value.specs.Records.{Row}
use Rattle.ode_value.specs.Settling.{entry_in}
use Rattle.ode_value.specs.Worlds.{Entry}
use Rattle.ode_value.specs.declared.key.Key.{Key}

abbrev Value : Type 0
Value = Option (List ℕ)

abbrev Waiting : Type 0
Waiting = ℕ × Entry

abbrev stands : List Waiting → Key → Value
stands queue q = value_under (map entry_row queue) q

turned : (k q : Key) → is_at (key_cmp k) q ≡ is_at (key_cmp q) k
turned k q = back key_total k q

-- ---- the entry that ran

same_entry : (m n : ℕ) (q : Key) (b : Bool) → (m == n) ≡ b → is_at (key_cmp (entry_key n)) q ≡ true → is_at (key_cmp q) (entry_key m) ≡ b
same_entry m n q true is at = grind (arith, nat_tests)
same_entry m n q false is at = grind (arith, nat_tests)

module _ (number : ℕ) (q : Key) where
  abbrev stays : Waiting → Bool
  stays e = not (e.0 == number)

  gone : (queue : List Waiting) → is_at (key_cmp (entry_key number)) q ≡ true → stands (filter stays queue) q ≡ None
  gone [] at = refl
  gone (e ∷ queue) at = by_test (e.0 == number) refl (gone queue at) where
    by_test : (b : Bool) → (e.0 == number) ≡ b → stands (filter stays queue) q ≡ None → stands (cond (not b) (e ∷ filter stays queue) (filter stays queue)) q ≡ None
    by_test true is rest = rest
    by_test false is rest = ap (λ t. cond t (Some (entry_row e).1) (stands (filter stays queue) q)) (same_entry e.0 number q false is at) ∙ rest

  not_at : (m n : ℕ) (k : Key) → (m == n) ≡ true → is_at (key_cmp (entry_key n)) k ≡ false → is_at (key_cmp k) (entry_key m) ≡ false
  not_at m n k is out = grind (arith, nat_tests)

  left : (queue : List Waiting) → is_at (key_cmp (entry_key number)) q ≡ false → stands (filter stays queue) q ≡ stands queue q
  left [] out = refl
  left (e ∷ queue) out = by_test (e.0 == number) refl (left queue out) where
    by_test : (b : Bool) → (e.0 == number) ≡ b → stands (filter stays queue) q ≡ stands queue q
        → stands (cond (not b) (e ∷ filter stays queue) (filter stays queue)) q ≡ cond (is_at (key_cmp q) (entry_key e.0)) (Some (entry_row e).1) (stands queue q)
    by_test true is rest = rest ∙ sym (ap (λ t. cond t (Some (entry_row e).1) (stands queue q)) (not_at e.0 number q is out))
    by_test false is rest = ap (λ (v : Value). cond (is_at (key_cmp q) (entry_key e.0)) (Some (entry_row e).1) v) rest

  by_running : (queue : List Waiting) (b : Bool) → is_at (key_cmp (entry_key number)) q ≡ b → stands (filter stays queue) q ≡ cond b None (stands queue q)
  by_running queue true is = gone queue is
  by_running queue false is = left queue is

pub waiting_stands : (origin : Origin) (queue : List Waiting) (q : Key) → stands (waiting (origin_as origin) queue) q ≡ ran_after origin q (stands queue q)
waiting_stands (from.Entry number generation) queue q = by_running number q queue (is_at (key_cmp (entry_key number)) q) refl
waiting_stands from.Script queue q = refl
waiting_stands (from.Tick instant object place) queue q = refl
waiting_stands (from.Move instant) queue q = refl

-- ---- the collected firings

entry_spelled : (e : Waiting) → (entry_row e).1 ≡ value_of (of.Entry e.0 (entry_of e.1))
unfolding value_of
entry_spelled e = simp append_assoc

-- an entry of a lower number
past : (n m : ℕ) (q : Key) → n < m → is_at (key_cmp (entry_key n)) q ≡ true → is_at (key_cmp (entry_key m)) q ≡ false
past n m q less at = grind (arith, nat_tests)

none_later : (n m : ℕ) (cs : List Collected) (q : Key) (below : Value) → n < m → is_at (key_cmp (entry_key n)) q ≡ true → queued_after m cs q below ≡ below
none_later n m [] q below less at = refl
none_later n m (c ∷ more) q below less at =
    ap (λ t. queued_after (m + 1) more q (cond t (Some (value_of (of.Entry m (entry_by c)))) below)) (past n m q less at)
    ∙ none_later n (m + 1) more q below (omega arith) at

-- nothing stands under the keys of entries from this number on
abbrev pub NoneFrom : ℕ → Key → Value → Type 0
NoneFrom n q below = (m : ℕ) → n ≤ m → is_at (key_cmp (entry_key m)) q ≡ true → below ≡ None

abbrev numbered : ℕ → List Collected → List Waiting
numbered n cs = enumerate_from n (map entry_in (map collected_as cs))

pub collected_stands : (n : ℕ) (cs : List Collected) (q : Key) (below : Value) → NoneFrom n q below → queued_after n cs q below ≡ or_else below (stands (numbered n cs) q)
collected_stands n [] q below none = sym (or_none below)
collected_stands n (c ∷ more) q below none = by_test (is_at (key_cmp (entry_key n)) q) refl (collected_stands (n + 1) more q below (λ m up at. none m (omega arith) at)) where
  by_test : (b : Bool) → is_at (key_cmp (entry_key n)) q ≡ b → queued_after (n + 1) more q below ≡ or_else below (stands (numbered (n + 1) more) q) → queued_after (n + 1) more q (cond b (Some (value_of (of.Entry n (entry_by c)))) below)
      ≡ or_else below (cond (is_at (key_cmp q) (entry_key n)) (Some (entry_row (n, entry_in (collected_as c))).1) (stands (numbered (n + 1) more) q))
  by_test true at rest =
      none_later n (n + 1) more q (Some (value_of (of.Entry n (entry_by c)))) (omega arith) at
      ∙ ap (λ (v : List ℕ). Some v) (sym (entry_spelled (n, entry_in (collected_as c))))
      ∙ sym (ap (λ t. cond t (Some (entry_row (n, entry_in (collected_as c))).1) (stands (numbered (n + 1) more) q)) (sym (turned (entry_key n) q) ∙ at))
      ∙ sym (ap (λ (v : Value). or_else v (cond (is_at (key_cmp q) (entry_key n)) (Some (entry_row (n, entry_in (collected_as c))).1) (stands (numbered (n + 1) more) q))) (none n (omega arith) at))
  by_test false out rest =
      rest ∙ sym (ap (λ t. or_else below (cond t (Some (entry_row (n, entry_in (collected_as c))).1) (stands (numbered (n + 1) more) q))) (sym (turned (entry_key n) q) ∙ out))

-- ---- both

lower_entry : (m n : ℕ) (q : Key) → m < n → is_at (key_cmp (entry_key n)) q ≡ true → is_at (key_cmp q) (entry_key m) ≡ false
lower_entry m n q less at = grind (arith, nat_tests)

pub none_from : (next : ℕ) (queue : List Waiting) (q : Key) → AllByRecursion (λ (e : Waiting). e.0 < next) queue → NoneFrom next q (stands queue q)
none_from next [] q drawn m up at = refl
none_from next (e ∷ queue) q drawn m up at =
    let less : e.0 < next = drawn.0 in
    ap (λ t. cond t (Some (entry_row e).1) (stands queue q)) (lower_entry e.0 m q (omega arith) at) ∙ none_from next queue q drawn.1 m up at

without : (b : Bool) (v : Value) → v ≡ None → cond b None v ≡ None
without true v none = refl
without false v none = none

ran_none : (origin : Origin) (q : Key) (below : Value) → below ≡ None → ran_after origin q below ≡ None
ran_none (from.Entry number generation) q below none = without (is_at (key_cmp (entry_key number)) q) below none
ran_none from.Script q below none = none
ran_none (from.Tick instant object place) q below none = none
ran_none (from.Move instant) q below none = none

-- the queue without the entry that ran, and the collected ones behind it
pub queue_stands : (origin : Origin) (queue : List Waiting) (next : ℕ) (cs : List Collected) (q : Key) → AllByRecursion (λ (e : Waiting). e.0 < next) queue
    → queued_after next cs q (ran_after origin q (stands queue q)) ≡ stands (waiting (origin_as origin) queue ++ numbered next cs) q
queue_stands origin queue next cs q drawn =
    collected_stands next cs q (ran_after origin q (stands queue q)) (λ m up at. ran_none origin q (stands queue q) (none_from next queue q drawn m up at))
    ∙ ap (λ (v : Value). or_else v (stands (numbered next cs) q)) (sym (waiting_stands origin queue q))
    ∙ sym (value_append (map entry_row (waiting (origin_as origin) queue)) (map entry_row (numbered next cs)) q)
    ∙ ap (λ (es : List Row). value_under es q) (sym (map-append entry_row (waiting (origin_as origin) queue) (numbered next cs)))
