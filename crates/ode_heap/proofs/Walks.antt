-- A loop that goes from each key of a block to the least one above it meets the whole block.
use Rattle.std.proofs.Common.{◌≡◌, ℕ, ◌+◌, ◌≤◌, List, [], ◌∷◌, Bool, true, false, cond, Option, Some, None, refl, sym, ap, subst, ◌∙◌, arith}
use Rattle.std.specs.BTreeMap.{is_at}
use Rattle.std.specs.List.{AllByRecursion}
use Rattle.std.specs.List.Sorted.{IsStrictlySortedBy}
use Rattle.std.specs.Map.{keys_of}
use Rattle.std.specs.Ordering.{is_le}
use Rattle.std.specs.declared.cmp.Ordering.TheVariants.{Less}
use Rattle.std.proofs.lemmas.Bool.Decides.{nat_tests}
use Rattle.std.proofs.lemmas.Cmp.{tied_itself}
use Rattle.std.proofs.lemmas.Option.{some_pair_parts}
use Rattle.std.specs.Ordering.{is_eq}
use Rattle.ode_keep.specs.Entries.{Entries, HasRisingKeys, least_from, value_under}
use Rattle.ode_keep.proofs.Keys.{key_total, same_key}
use Rattle.ode_keep.proofs.Least.{least_is}
use Rattle.ode_value.specs.Keys.{key, key_cmp}
use Rattle.ode_value.specs.Records.{Row}
use Rattle.ode_value.specs.declared.key.Key.{Key}
use Rattle.ode_heap.specs.Answers.{Found, ◌>>=◌}
use Rattle.ode_heap.specs.Answers.{There, Broken}
use Rattle.ode_codec.specs.declared.record.Record.{Record}
use Rattle.ode_heap.specs.Looking.{decoded, looked_at, looked_up}
use Rattle.ode_heap.specs.Walking.{block, collected, is_from, next_at, next_in, taken, with_key}

-- keys of a block
begins : (kind a n : ℕ) (k : Key) → is_from kind a n k ≡ true → is_le (key_cmp (key kind a n) k) ≡ true
begins kind a n k here = grind (arith, nat_tests)

over : (kind a n : ℕ) (k l : Key) → is_le (key_cmp (key kind a n) k) ≡ true → is_from kind a n k ≡ false → key_cmp k l ≡ Less → is_from kind a n l ≡ false
over kind a n k l le out less = grind (arith, nat_tests)

later : (kind a n : ℕ) (k l : Key) → is_from kind a n k ≡ true → key_cmp k l ≡ Less → (b : Bool) → is_from kind a (k.b + 1) l ≡ b → is_from kind a n l ≡ b
later kind a n k l here less true is = grind (arith, nat_tests)
later kind a n k l here less false is = grind (arith, nat_tests)

not_itself : (kind a : ℕ) (k : Key) → is_from kind a (k.b + 1) k ≡ false
not_itself kind a k = grind (arith, nat_tests)

below_both : (kind a n m : ℕ) (k : Key) → n ≤ m → is_from kind a n k ≡ false → is_from kind a m k ≡ false
below_both kind a n m k le out = grind (arith, nat_tests)

number_le : (kind a n : ℕ) (k : Key) → is_from kind a n k ≡ true → n ≤ k.b + 1
number_le kind a n k here = grind (arith, nat_tests)

module _ (X : Type 0) (take : Key → List ℕ → Found X) (kind a n : ℕ) where
  abbrev test : Key → Bool
  test = is_from kind a n

  abbrev turn : Row → Found (List X) → Found (List X)
  turn e more = take e.0 e.1 >>= λ x. more >>= λ xs. There (x ∷ xs)

  -- where no key is of the block
  none_of : (k : Key) (es : Entries) → is_le (key_cmp (key kind a n) k) ≡ true → test k ≡ false → AllByRecursion (λ l. key_cmp k l ≡ Less) (keys_of es) → collected test take es ≡ There []
  none_of k [] le out below = refl
  none_of k (e ∷ es) le out below =
      ap (λ b. cond b (turn e (collected test take es)) (collected test take es)) (over kind a n k e.0 le out below.0) ∙ none_of k es le out below.1

  done_step : (e : Row) (es : Entries) (found : Option Key) → AllByRecursion (λ l. key_cmp e.0 l ≡ Less) (keys_of es)
      → (least_from es (key kind a n) ≡ found → collected test take es ≡ There []) → ((k : Key) → found ≡ Some k → test k ≡ false)
      → (b : Bool) → is_le (key_cmp (key kind a n) e.0) ≡ b → (c : Bool) → test e.0 ≡ c → cond b (Some e.0) (least_from es (key kind a n)) ≡ found
      → cond c (turn e (collected test take es)) (collected test take es) ≡ There []
  done_step e es found below more out true le true here is = absurd (let no : test e.0 ≡ false = out e.0 (sym is) in cc)
  done_step e es found below more out true le false here is = none_of e.0 es le here below
  done_step e es found below more out false le true here is = absurd (let low : is_le (key_cmp (key kind a n) e.0) ≡ true = begins kind a n e.0 here in cc)
  done_step e es found below more out false le false here is = more is

  -- the least key at or above isn't of the block: nothing is left of it
  pub done : (es : Entries) (found : Option Key) → HasRisingKeys es → least_from es (key kind a n) ≡ found → ((k : Key) → found ≡ Some k → test k ≡ false) → collected test take es ≡ There []
  unfolding IsStrictlySortedBy
  done [] found rising least out = refl
  done (e ∷ es) found rising least out =
      done_step e es found rising.0 (λ is. done es found rising.1 is out) out (is_le (key_cmp (key kind a n) e.0)) refl (test e.0) refl least

  -- above a key of the block the block goes on with the next number
  goes_on : (k : Key) (es : Entries) → test k ≡ true → AllByRecursion (λ l. key_cmp k l ≡ Less) (keys_of es) → collected test take es ≡ collected (is_from kind a (k.b + 1)) take es
  goes_on k [] here below = refl
  goes_on k (e ∷ es) here below =
      ap (λ b. cond b (turn e (collected test take es)) (collected test take es)) (later kind a n k e.0 here below.0 (is_from kind a (k.b + 1) e.0) refl)
      ∙ ap (λ more. cond (is_from kind a (k.b + 1) e.0) (turn e more) more) (goes_on k es here below.1)

  abbrev next_of : Key → List ℕ → Entries → Found (List X)
  next_of k bytes es = take k bytes >>= λ x. collected (is_from kind a (k.b + 1)) take es >>= λ xs. There (x ∷ xs)

  next_here : (e : Row) (es : Entries) → test e.0 ≡ true → AllByRecursion (λ l. key_cmp e.0 l ≡ Less) (keys_of es)
      → turn e (collected test take es) ≡ take e.0 e.1 >>= λ x. cond (is_from kind a (e.0.b + 1) e.0) (turn e (collected (is_from kind a (e.0.b + 1)) take es)) (collected (is_from kind a (e.0.b + 1)) take es) >>= λ xs. There (x ∷ xs)
  next_here e es here below =
      ap (λ (more : Found (List X)). turn e more) (goes_on e.0 es here below)
      ∙ sym (ap (λ b. take e.0 e.1 >>= λ x. cond b (turn e (collected (is_from kind a (e.0.b + 1)) take es)) (collected (is_from kind a (e.0.b + 1)) take es) >>= λ xs. There (x ∷ xs)) (not_itself kind a e.0))

  abbrev NextIs : Key → List ℕ → Entries → Type 0
  NextIs k bytes es = collected test take es ≡ next_of k bytes es

  at_first : (k : Key) (bytes : List ℕ) (e : Row) (es : Entries) → AllByRecursion (λ l. key_cmp e.0 l ≡ Less) (keys_of es) → test k ≡ true → e.0 ≡ k → e.1 ≡ bytes → NextIs k bytes (e ∷ es)
  at_first k bytes e es below here same value =
      let here_first : test e.0 ≡ true = ap test same ∙ here in
      ap (λ b. cond b (turn e (collected test take es)) (collected test take es)) here_first
      ∙ next_here e es here_first below
      ∙ ap (λ (l : Key). next_of l e.1 (e ∷ es)) same
      ∙ ap (λ (v : List ℕ). next_of k v (e ∷ es)) value

  at_later : (k : Key) (bytes : List ℕ) (e : Row) (es : Entries) → test e.0 ≡ false → n ≤ k.b + 1 → NextIs k bytes es → NextIs k bytes (e ∷ es)
  at_later k bytes e es out le more =
      ap (λ b. cond b (turn e (collected test take es)) (collected test take es)) out ∙ more
      ∙ sym (ap (λ b. take k bytes >>= λ x. cond b (turn e (collected (is_from kind a (k.b + 1)) take es)) (collected (is_from kind a (k.b + 1)) take es) >>= λ xs. There (x ∷ xs)) (below_both kind a n (k.b + 1) e.0 le out))

  found_here : (k : Key) (bytes : List ℕ) (e : Row) (es : Entries) (b : Bool) → is_at (key_cmp k) e.0 ≡ b → b ≡ true → cond b (Some e.1) (value_under es k) ≡ Some bytes → e.1 ≡ bytes
  found_here k bytes e es true is yes_ h = cc
  found_here k bytes e es false is yes_ h = absurd (cc)

  found_later : (k : Key) (bytes : List ℕ) (e : Row) (es : Entries) (b : Bool) → (b ≡ true → ⊥) → cond b (Some e.1) (value_under es k) ≡ Some bytes → value_under es k ≡ Some bytes
  found_later k bytes e es true not_here h = absurd (not_here refl)
  found_later k bytes e es false not_here h = h

  next_step : (k : Key) (bytes : List ℕ) (e : Row) (es : Entries) → AllByRecursion (λ l. key_cmp e.0 l ≡ Less) (keys_of es) → test k ≡ true → value_under (e ∷ es) k ≡ Some bytes
      → (least_from es (key kind a n) ≡ Some k → value_under es k ≡ Some bytes → NextIs k bytes es)
      → (b : Bool) → is_le (key_cmp (key kind a n) e.0) ≡ b → cond b (Some e.0) (least_from es (key kind a n)) ≡ Some k → NextIs k bytes (e ∷ es)
  next_step k bytes e es below here value more true le is =
      let same : e.0 ≡ k = cc in
      let itself : is_at (key_cmp k) e.0 ≡ true = ap (λ (l : Key). is_at (key_cmp k) l) same ∙ ap is_eq (tied_itself key_total k) in
      at_first k bytes e es below here same (found_here k bytes e es (is_at (key_cmp k) e.0) refl itself value)
  next_step k bytes e es below here value more false le is =
      let low : is_le (key_cmp (key kind a n) k) ≡ true = begins kind a n k here in
      let out : test e.0 ≡ false = outside (test e.0) (λ there. let le_there : is_le (key_cmp (key kind a n) e.0) ≡ true = begins kind a n e.0 there in cc) in
      let apart : is_at (key_cmp k) e.0 ≡ true → ⊥ = λ at. let same : e.0 ≡ k = same_key k e.0 at in let le_k : is_le (key_cmp (key kind a n) k) ≡ false = ap (λ (l : Key). is_le (key_cmp (key kind a n) l)) (sym same) ∙ le in cc in
      at_later k bytes e es out (number_le kind a n k here) (more is (found_later k bytes e es (is_at (key_cmp k) e.0) apart value))
    where
      outside : (b : Bool) → (b ≡ true → ⊥) → b ≡ false
      outside true h = absurd (h refl)
      outside false h = refl

  -- the least key at or above is of the block: its record is taken, and the block goes on above it
  pub next : (k : Key) (bytes : List ℕ) (es : Entries) → HasRisingKeys es → least_from es (key kind a n) ≡ Some k → test k ≡ true → value_under es k ≡ Some bytes → NextIs k bytes es
  unfolding IsStrictlySortedBy
  next k bytes [] rising least here value = absurd (cc)
  next k bytes (e ∷ es) rising least here value =
      next_step k bytes e es rising.0 here value (λ is found. next k bytes es rising.1 is here found) (is_le (key_cmp (key kind a n) e.0)) refl least

-- ---- records of a block

module _ (X : Type 0) (form : Key → Record → Found X) (kind a n : ℕ) where
  abbrev start : Key
  start = key kind a n

  out_at : (entries : Entries) (k : Key) (b : Bool) → is_from kind a n k ≡ b → cond b (looked_up entries k >>= with_key k) (There None) ≡ There None → b ≡ false
  out_at entries k true is h = absurd (some_key (looked_up entries k) h)
    where
      some_key : (f : Found (Option Record)) → (f >>= with_key k) ≡ There None → ⊥
      some_key (There None) h = cc
      some_key (There (Some r)) h = cc
      some_key (Broken l) h = cc
  out_at entries k false is h = refl

  -- nothing is left of the block
  pub block_done : (entries : Entries) → HasRisingKeys entries → next_in entries start ≡ There None → block form kind a n entries ≡ There []
  unfolding next_in block
  block_done entries rising none = done X (taken form) kind a n entries (least_from entries start) rising refl (λ k is. out_of k (least_from entries start) is none)
    where
      out_of : (k : Key) (o : Option Key) → o ≡ Some k → next_at entries start o ≡ There None → is_from kind a n k ≡ false
      out_of k None is h = absurd (cc)
      out_of k (Some l) is h = let same : l ≡ k = cc in ap (is_from kind a n) (sym same) ∙ out_at entries l (is_from kind a n l) refl h

  stripped : (o p : Option (Key × Record)) → There o ≡ There p → o ≡ p
  stripped o p e = cc

  -- the first record of the block
  pub record Opened (entries : Entries) (k : Key) (r : Record) : Type 0 where
    pub least : least_from entries start ≡ Some k
    pub here : is_from kind a n k ≡ true
    pub bytes : List ℕ
    pub value : value_under entries k ≡ Some bytes
    pub decodes : decoded k bytes ≡ There r

  -- or the first that isn't one
  pub record Fails (entries : Entries) (k l : Key) : Type 0 where
    pub least : least_from entries start ≡ Some l
    pub here : is_from kind a n l ≡ true
    pub bytes : List ℕ
    pub value : value_under entries l ≡ Some bytes
    pub breaks : decoded l bytes ≡ Broken k

  open_decoded : (entries : Entries) (l k : Key) (bytes : List ℕ) (r : Record) → least_from entries start ≡ Some l → is_from kind a n l ≡ true → value_under entries l ≡ Some bytes
      → (f : Found Record) → decoded l bytes ≡ f → ((f >>= λ x. There (Some x)) >>= with_key l) ≡ There (Some (k, r)) → Opened entries k r
  open_decoded entries l k bytes r least here value (There x) is h =
      let same = some_pair_parts l k x r (stripped (Some (l, x)) (Some (k, r)) h) in
      subst (λ (m : Key). Opened entries m r) same.0 (record { least = least; here = here; bytes = bytes; value = value; decodes = is ∙ ap (λ (y : Record). There y) same.1 })
  open_decoded entries l k bytes r least here value (Broken m) is h = absurd (cc)

  open_value : (entries : Entries) (l k : Key) (r : Record) → least_from entries start ≡ Some l → is_from kind a n l ≡ true
      → (o : Option (List ℕ)) → value_under entries l ≡ o → (looked_at l o >>= with_key l) ≡ There (Some (k, r)) → Opened entries k r
  open_value entries l k r least here None is h = absurd (cc)
  open_value entries l k r least here (Some bytes) is h = open_decoded entries l k bytes r least here is (decoded l bytes) refl h

  open_test : (entries : Entries) (l k : Key) (r : Record) → least_from entries start ≡ Some l → (b : Bool) → is_from kind a n l ≡ b
      → cond b (looked_up entries l >>= with_key l) (There None) ≡ There (Some (k, r)) → Opened entries k r
  unfolding looked_up
  open_test entries l k r least true here h = open_value entries l k r least here (value_under entries l) refl h
  open_test entries l k r least false here h = absurd (cc)

  open_least : (entries : Entries) (k : Key) (r : Record) (o : Option Key) → least_from entries start ≡ o → next_at entries start o ≡ There (Some (k, r)) → Opened entries k r
  open_least entries k r None least h = absurd (cc)
  open_least entries k r (Some l) least h = open_test entries l k r least (is_from kind a n l) refl h

  pub opened : (entries : Entries) (k : Key) (r : Record) → next_in entries start ≡ There (Some (k, r)) → Opened entries k r
  unfolding next_in
  opened entries k r h = open_least entries k r (least_from entries start) refl h

  -- it is taken, and the block goes on above it
  pub block_next : (entries : Entries) (k : Key) (r : Record) → HasRisingKeys entries → next_in entries start ≡ There (Some (k, r))
      → block form kind a n entries ≡ (form k r >>= λ x. block form kind a (k.b + 1) entries >>= λ xs. There (x ∷ xs))
  unfolding block
  block_next entries k r rising h =
      let o = opened entries k r h in
      next X (taken form) kind a n k o.bytes entries rising o.least o.here o.value
      ∙ ap (λ (f : Found Record). (f >>= form k) >>= λ x. collected (is_from kind a (k.b + 1)) (taken form) entries >>= λ xs. There (x ∷ xs)) o.decodes

  abbrev broken : Key → Found Record
  broken q = Broken q

  abbrev broken_pair : Key → Found (Option (Key × Record))
  broken_pair q = Broken q

  rebroken : (m l : Key) → broken_pair m ≡ broken_pair l → m ≡ l
  rebroken m l e = cc

  fail_decoded : (entries : Entries) (l k : Key) (bytes : List ℕ) → least_from entries start ≡ Some l → is_from kind a n l ≡ true → value_under entries l ≡ Some bytes
      → (f : Found Record) → decoded l bytes ≡ f → ((f >>= λ x. There (Some x)) >>= with_key l) ≡ Broken k → Fails entries k l
  fail_decoded entries l k bytes least here value (There x) is h = absurd (cc)
  fail_decoded entries l k bytes least here value (Broken m) is h = record { least = least; here = here; bytes = bytes; value = value; breaks = is ∙ ap (λ (q : Key). broken q) (rebroken m k h) }

  fail_value : (entries : Entries) (l k : Key) → HasRisingKeys entries → least_from entries start ≡ Some l → is_from kind a n l ≡ true
      → (o : Option (List ℕ)) → value_under entries l ≡ o → (looked_at l o >>= with_key l) ≡ Broken k → Fails entries k l
  fail_value entries l k rising least here None is h = absurd (let some = (least_is entries start l rising least).stands in cc)
  fail_value entries l k rising least here (Some bytes) is h = fail_decoded entries l k bytes least here is (decoded l bytes) refl h

  abbrev Failing : Entries → Key → Type 0
  Failing entries k = (l : Key) × Fails entries k l

  fail_test : (entries : Entries) (l k : Key) → HasRisingKeys entries → least_from entries start ≡ Some l → (b : Bool) → is_from kind a n l ≡ b
      → cond b (looked_up entries l >>= with_key l) (There None) ≡ Broken k → Failing entries k
  unfolding looked_up
  fail_test entries l k rising least true here h = (l, fail_value entries l k rising least here (value_under entries l) refl h)
  fail_test entries l k rising least false here h = absurd (cc)

  fail_least : (entries : Entries) (k : Key) → HasRisingKeys entries → (o : Option Key) → least_from entries start ≡ o → next_at entries start o ≡ Broken k → Failing entries k
  fail_least entries k rising None least h = absurd (cc)
  fail_least entries k rising (Some l) least h = fail_test entries l k rising least (is_from kind a n l) refl h

  -- the block stops where a record isn't one
  pub block_breaks : (entries : Entries) (k : Key) → HasRisingKeys entries → next_in entries start ≡ Broken k → block form kind a n entries ≡ Broken k
  unfolding next_in block
  block_breaks entries k rising h =
      let f = fail_least entries k rising (least_from entries start) refl h in
      next X (taken form) kind a n f.0 f.1.bytes entries rising f.1.least f.1.here f.1.value
      ∙ ap (λ (g : Found Record). (g >>= form f.0) >>= λ x. collected (is_from kind a (f.0.b + 1)) (taken form) entries >>= λ xs. There (x ∷ xs)) f.1.breaks
