-- What a heap gives of the next object and of the entries of a stored database.
use Rattle.std.proofs.Common.{◌≡◌, ℕ, ◌-◌, ◌<◌, ◌^◌, min, length, List, [], ◌∷◌, map, Bool, true, false, cond, Option, Some, None, refl, sym, ap, subst, ◌∙◌, append_assoc, arith}
use Rattle.std.specs.Prelude.{nat_le}
use Rattle.std.specs.BTreeMap.{is_at}
use Rattle.std.specs.List.{AllByRecursion, find}
use Rattle.std.specs.Map.{keys_of}
use Rattle.std.specs.Option.{option_map}
use Rattle.std.proofs.lemmas.Bool.Decides.{nat_tests}
use Rattle.std.proofs.lemmas.List.{length-map}
use Rattle.std.proofs.lemmas.List.Sums.{length-filter}
use Rattle.ode_codec.specs.Spelling.{key_of, value_of}
use Rattle.ode_codec.specs.StoredRows.{Stored, entry_row, object_row, rows}
use Rattle.ode_codec.specs.declared.record.Record.{Record}
use Rattle.ode_codec.specs.declared.record.Record.TheVariants as of
use Rattle.ode_keep.specs.Entries.{Entries, count_of_kind, value_under}
use Rattle.ode_value.specs.Keys.{entry_key, entry_kind, key_cmp, object_key, object_kind}
use Rattle.ode_value.specs.Records.{Row}
use Rattle.ode_value.specs.Worlds.{Entry, Object}
use Rattle.ode_value.specs.declared.key.Key.{Key}
use Rattle.ode_heap.specs.Answers.{Found, ◌>>=◌}
use Rattle.ode_heap.specs.Answers.{There}
use Rattle.ode_heap.specs.Answering.{IsReadable, IsReadableEntry, entry_of, next_entry, next_object}
use Rattle.ode_heap.specs.Looking.{as_entry, decoded, entry_at, entry_from, entry_key_from, is_entry_from, is_object_from, object_from}
use Rattle.ode_heap.specs.Queue.{queued_in}
use Rattle.ode_heap.proofs.Numbered.{id_of}
use Rattle.ode_heap.proofs.OneKind.{found_of_kind, is_of_kind, value_of_kind}
use Rattle.ode_heap.proofs.Reading.{Again, looked, reads}
use Rattle.ode_heap.proofs.Sections.{entries_alone, objects_alone}

-- ---- the next object

abbrev number : Key → ℕ
number k = k.a

object_step : (o : Object) (b : Bool) (m : Option Key) (n : Option Object) → option_map number m ≡ option_map id_of n → option_map number (cond b (Some (object_key o.id)) m) ≡ option_map id_of (cond b (Some o) n)
object_step o true m n more = refl
object_step o false m n more = more

object_found : (os : List Object) (id : ℕ) → option_map number (find (is_object_from id) (keys_of (map object_row os))) ≡ option_map id_of (find (λ (o : Object). nat_le id o.id) os)
object_found [] id = refl
object_found (o ∷ os) id = object_step o (nat_le id o.id) (find (is_object_from id) (keys_of (map object_row os))) (find (λ (p : Object). nat_le id p.id) os) (object_found os id)

pub object_follows : (s : Stored) (id : ℕ) → object_from (rows s) id ≡ next_object s id
unfolding object_from
object_follows s id =
    ap (λ (o : Option Key). option_map number o) (found_of_kind object_kind (λ k. nat_le id k.a) (rows s))
    ∙ ap (λ (es : List Row). option_map number (find (is_object_from id) (keys_of es))) (objects_alone s)
    ∙ object_found s.world.bones.objects id

-- ---- the next entry

abbrev Waiting : Type 0
Waiting = ℕ × Entry

abbrev key_at : Waiting → Key
key_at q = entry_key q.0

abbrev is_from : ℕ → Waiting → Bool
is_from n q = nat_le n q.0

key_step : (q : Waiting) (b : Bool) (m : Option Key) (o : Option Waiting) → m ≡ option_map key_at o → cond b (Some (key_at q)) m ≡ option_map key_at (cond b (Some q) o)
key_step q true m o more = refl
key_step q false m o more = more

key_found : (qs : List Waiting) (n : ℕ) → find (is_entry_from n) (keys_of (map entry_row qs)) ≡ option_map key_at (find (is_from n) qs)
key_found [] n = refl
key_found (q ∷ qs) n = key_step q (nat_le n q.0) (find (is_entry_from n) (keys_of (map entry_row qs))) (find (is_from n) qs) (key_found qs n)

key_follows : (s : Stored) (n : ℕ) → entry_key_from (rows s) n ≡ option_map key_at (find (is_from n) s.world.bones.queue)
unfolding entry_key_from
key_follows s n =
    found_of_kind entry_kind (λ k. nat_le n k.a) (rows s)
    ∙ ap (λ (es : List Row). find (is_entry_from n) (keys_of es)) (entries_alone s)
    ∙ key_found s.world.bones.queue n

found_all : (P : Waiting → Type 0) (n : ℕ) (qs : List Waiting) (q : Waiting) → AllByRecursion P qs → find (is_from n) qs ≡ Some q → P q
found_all P n [] q all is = absurd (cc)
found_all P n (p ∷ ps) q all is = step (is_from n p) is (found_all P n ps q all.1)
  where
    step : (b : Bool) → cond b (Some p) (find (is_from n) ps) ≡ Some q → (find (is_from n) ps ≡ Some q → P q) → P q
    step true is more = let same : p ≡ q = cc in subst P same all.0
    step false is more = more is

found_is : (n : ℕ) (qs : List Waiting) (q : Waiting) → find (is_from n) qs ≡ Some q → is_from n q ≡ true
found_is n [] q is = absurd (cc)
found_is n (p ∷ ps) q is = step (is_from n p) refl is (found_is n ps q)
  where
    step : (b : Bool) → is_from n p ≡ b → cond b (Some p) (find (is_from n) ps) ≡ Some q → (find (is_from n) ps ≡ Some q → is_from n q ≡ true) → is_from n q ≡ true
    step true here is more = let same : p ≡ q = cc in subst (λ (r : Waiting). is_from n r ≡ true) same here
    step false here is more = more is

itself : (m : ℕ) → is_at (key_cmp (entry_key m)) (entry_key m) ≡ true
itself m = grind (arith, nat_tests)

lower : (n m l : ℕ) → nat_le n m ≡ true → nat_le n l ≡ false → is_at (key_cmp (entry_key m)) (entry_key l) ≡ false
lower n m l yes_ no_ = grind (arith, nat_tests)

value_found : (n : ℕ) (qs : List Waiting) (q : Waiting) → find (is_from n) qs ≡ Some q → value_under (map entry_row qs) (key_at q) ≡ Some (entry_row q).1
value_found n [] q is = absurd (cc)
value_found n (p ∷ ps) q is = step (is_from n p) refl is (value_found n ps q)
  where
    step : (b : Bool) → is_from n p ≡ b → cond b (Some p) (find (is_from n) ps) ≡ Some q → (find (is_from n) ps ≡ Some q → value_under (map entry_row ps) (key_at q) ≡ Some (entry_row q).1)
        → cond (is_at (key_cmp (key_at q)) (key_at p)) (Some (entry_row p).1) (value_under (map entry_row ps) (key_at q)) ≡ Some (entry_row q).1
    step true here is more =
        let same : p ≡ q = cc in
        subst (λ (r : Waiting). cond (is_at (key_cmp (key_at r)) (key_at p)) (Some (entry_row p).1) (value_under (map entry_row ps) (key_at r)) ≡ Some (entry_row r).1) same
        (ap (λ b. cond b (Some (entry_row p).1) (value_under (map entry_row ps) (key_at p))) (itself p.0))
    step false here is more =
        ap (λ b. cond b (Some (entry_row p).1) (value_under (map entry_row ps) (key_at q))) (lower n q.0 p.0 (found_is n ps q is) here) ∙ more is

entry_keyed : (q : Waiting) → key_at q ≡ key_of (of.Entry q.0 (entry_of q.1))
unfolding key_of
entry_keyed q = refl

entry_spelled : (q : Waiting) → (entry_row q).1 ≡ value_of (of.Entry q.0 (entry_of q.1))
unfolding value_of
entry_spelled q = simp append_assoc

pub entry_follows : Again → (s : Stored) (n : ℕ) → IsReadable s → entry_from (rows s) n ≡ There (next_entry s n)
unfolding entry_from
entry_follows again s n is = ap (entry_at (rows s)) (key_follows s n) ∙ by_entry (find (is_from n) s.world.bones.queue) refl
  where
    by_entry : (o : Option Waiting) → find (is_from n) s.world.bones.queue ≡ o → entry_at (rows s) (option_map key_at o) ≡ There (option_map (λ (q : Waiting). (q.0, entry_of q.1)) o)
    by_entry None none = refl
    by_entry (Some q) there =
        let value : value_under (rows s) (key_at q) ≡ Some (entry_row q).1 =
        value_of_kind (rows s) (key_at q) ∙ ap (λ (es : Entries). value_under es (key_at q)) (entries_alone s) ∙ value_found n s.world.bones.queue q there in
        let read : decoded (key_at q) (entry_row q).1 ≡ There (of.Entry q.0 (entry_of q.1)) =
        reads again (of.Entry q.0 (entry_of q.1)) (key_at q) (entry_row q).1 (found_all IsReadableEntry n s.world.bones.queue q is.queue there) (entry_keyed q) (entry_spelled q) in
        ap (λ (f : Found (Option Record)). f >>= as_entry (key_at q)) (looked (rows s) (key_at q) (entry_row q).1 (of.Entry q.0 (entry_of q.1)) value read)

-- ---- the count of the entries

pub entries_counted : (s : Stored) → IsReadable s → queued_in (rows s) ≡ length s.world.bones.queue
unfolding queued_in
entries_counted s is =
    let all : count_of_kind entry_kind (rows s) ≡ length s.world.bones.queue =
    sym (length-filter (is_of_kind entry_kind) (rows s)) ∙ ap (λ (es : List Row). length es) (entries_alone s) ∙ length-map s.world.bones.queue entry_row in
    ap (λ (n : ℕ). min n (2 ^ 32 - 1)) all ∙ few (length s.world.bones.queue) is.few
  where
    few : (n : ℕ) → n < 2 ^ 32 → min n (2 ^ 32 - 1) ≡ n
    few n less = omega arith
