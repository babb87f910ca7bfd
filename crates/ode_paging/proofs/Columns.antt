-- A key in pages: which of them have a value under it, and what a change of one page makes of that.
use Rattle.std.proofs.Common.{◌≡◌, ◌≤◌, ℕ, zero, suc, ◌+◌, List, [], ◌∷◌, Bool, true, false, cond, length, Option, Some, None, refl, sym, ap, subst, ◌∙◌, arith}
use Rattle.std.specs.Prelude.{◌<◌, IsSome}
use Rattle.std.specs.BTreeMap.{is_at}
use Rattle.std.specs.List.{AllByRecursion}
use Rattle.std.specs.List.Sorted.{IsStrictlySortedBy}
use Rattle.std.specs.Map.{lookup, keys_of}
use Rattle.std.specs.Option.{is_some}
use Rattle.std.specs.Ordering.{is_eq}
use Rattle.std.proofs.lemmas.Cmp.{tied_itself}
use Rattle.ode_value.specs.declared.key.Key.{Key}
use Rattle.ode_value.specs.Keys.{key_cmp}
use Rattle.ode_value.specs.Records.{Row}
use Rattle.ode_keep.specs.Entries.{Entries, HasRisingKeys, changed, value_under}
use Rattle.ode_keep.proofs.Applying.{changed_at, changed_rising}
use Rattle.ode_keep.proofs.Keys.{distinct_keys, key_total, same_key}
use Rattle.ode_paging.specs.Gathering.{HaveNewKeys, gathered, joined}
use Rattle.ode_paging.specs.Indexing.{Leads, indexed, led}
use Rattle.ode_paging.specs.Replacing.{page_at, page_with, with_page}
use Rattle.ode_paging.proofs.Led.{joined_at, led_at, or_else}

pub or_none : {A : Type 0} (x : Option A) → or_else x None ≡ x
or_none None = refl
or_none (Some a) = refl

or_assoc : {A : Type 0} (x y z : Option A) → or_else (or_else x y) z ≡ or_else x (or_else y z)
or_assoc None y z = refl
or_assoc (Some a) y z = refl

here_at : {A : Type 0} (b : Bool) (later w found : Option A) → (b ≡ true → later ≡ None) → or_else later (cond b w found) ≡ cond b w (or_else later found)
here_at {A = A} true later w found none = ap (λ (r : Option A). or_else r w) (none refl)
here_at false later w found none = refl

later_at : {A : Type 0} (b : Bool) (w later found : Option A) → (b ≡ true → found ≡ None) → or_else (cond b w later) found ≡ cond b w (or_else later found)
later_at {A = A} true w later found none = ap (λ (r : Option A). or_else w r) (none refl) ∙ or_none w
later_at false w later found none = refl

-- the keys of each page rise
abbrev pub AreRising : List Entries → Type 0
AreRising pages = AllByRecursion (λ (es : Entries). HasRisingKeys es) pages

-- no page has a value under the key
abbrev pub Lacks : Key → List Entries → Type 0
Lacks k pages = AllByRecursion (λ (es : Entries). value_under es k ≡ None) pages

-- no page but that of this number has a value under the key
abbrev pub OnlyIn : Key → List Entries → ℕ → Type 0
OnlyIn k [] page = Unit {0}
OnlyIn k (es ∷ pages) zero = Lacks k pages
OnlyIn k (es ∷ pages) (suc page) = (value_under es k ≡ None) × OnlyIn k pages page

pub lacks_only : (k : Key) (pages : List Entries) (page : ℕ) → Lacks k pages → OnlyIn k pages page
lacks_only k [] page lacks = tt
lacks_only k (es ∷ pages) zero lacks = lacks.1
lacks_only k (es ∷ pages) (suc page) lacks = (lacks.0, lacks_only k pages page lacks.1)

-- What the last page with a value has, in the form of f.
module _ {X : Type 0} (f : ℕ → Option (List ℕ) → Option X) (none : (n : ℕ) → f n None ≡ None) where
  abbrev pub last_in : Key → ℕ → List Entries → Option X
  last_in q n [] = None
  last_in q n (es ∷ pages) = or_else (last_in q (n + 1) pages) (f n (value_under es q))

  pub none_in : (q : Key) (n : ℕ) (pages : List Entries) → Lacks q pages → last_in q n pages ≡ None
  none_in q n [] lacks = refl
  none_in q n (es ∷ pages) lacks = (λ i. or_else (none_in q (n + 1) pages lacks.1 i) (f n (lacks.0 i))) ∙ none n

  form_at : (n : ℕ) (b : Bool) (w v : Option (List ℕ)) → f n (cond b w v) ≡ cond b (f n w) (f n v)
  form_at n true w v = refl
  form_at n false w v = refl

  pub changed_in : (k : Key) (w : Option (List ℕ)) (q : Key) (n : ℕ) (pages : List Entries) (page : ℕ) → OnlyIn k pages page → page ≤ length pages
      → last_in q n (with_page pages page (changed (page_at pages page) k w)) ≡ cond (is_at (key_cmp k) q) (f (n + page) w) (last_in q n pages)
  changed_in k w q n [] page only within =
      let here : n ≡ n + page = omega (arith, within) in
      ap (λ (v : Option (List ℕ)). f n v) (changed_at [] k w q)
      ∙ form_at n (is_at (key_cmp k) q) w None
      ∙ (λ i. cond (is_at (key_cmp k) q) (f (here i) w) (none n i))
  changed_in k w q n (es ∷ pages) zero only within =
      let here : n ≡ n + 0 = omega arith in
      ap (λ (v : Option (List ℕ)). or_else (last_in q (n + 1) pages) (f n v)) (changed_at es k w q)
      ∙ ap (λ (v : Option X). or_else (last_in q (n + 1) pages) v) (form_at n (is_at (key_cmp k) q) w (value_under es q))
      ∙ here_at (is_at (key_cmp k) q) (last_in q (n + 1) pages) (f n w) (f n (value_under es q))
      (λ h. ap (λ (x : Key). last_in x (n + 1) pages) (same_key k q h) ∙ none_in k (n + 1) pages only)
      ∙ ap (λ (m : ℕ). cond (is_at (key_cmp k) q) (f m w) (last_in q n (es ∷ pages))) here
  changed_in k w q n (es ∷ pages) (suc page) only within =
      let there : n + 1 + page ≡ n + suc page = omega arith in
      ap (λ (r : Option X). or_else r (f n (value_under es q))) (changed_in k w q (n + 1) pages page only.1 (omega (arith, within)))
      ∙ later_at (is_at (key_cmp k) q) (f (n + 1 + page) w) (last_in q (n + 1) pages) (f n (value_under es q))
      (λ h. ap (λ (v : Option (List ℕ)). f n v) (ap (λ (x : Key). value_under es x) (same_key k q h) ∙ only.0) ∙ none n)
      ∙ ap (λ (m : ℕ). cond (is_at (key_cmp k) q) (f m w) (last_in q n (es ∷ pages))) there

-- the value that the last page with one has
abbrev pub value_in : Key → List Entries → Option (List ℕ)
value_in q pages = last_in (λ n v. v) (λ n. refl) q 0 pages

-- the number of that page
abbrev pub page_in : Key → ℕ → List Entries → Option ℕ
page_in q n pages = last_in page_with (λ n. refl) q n pages

pub gathered_at : (q : Key) (n : ℕ) (pages : List Entries) (entries : Entries) → AreRising pages
    → value_under (gathered entries pages) q ≡ or_else (last_in (λ n v. v) (λ n. refl) q n pages) (value_under entries q)
gathered_at q n [] entries rising = refl
gathered_at q n (es ∷ pages) entries rising =
    gathered_at q (n + 1) pages (joined entries es) rising.1
    ∙ ap (λ (v : Option (List ℕ)). or_else (last_in (λ n v. v) (λ n. refl) q (n + 1) pages) v) (joined_at q es entries (distinct_keys es rising.0))
    ∙ sym (or_assoc (last_in (λ n v. v) (λ n. refl) q (n + 1) pages) (value_under es q) (value_under entries q))

pub indexed_at : (q : Key) (n : ℕ) (pages : List Entries) (leads : Leads) → AreRising pages
    → lookup (is_at (key_cmp q)) (indexed n leads pages) ≡ or_else (page_in q n pages) (lookup (is_at (key_cmp q)) leads)
indexed_at q n [] leads rising = refl
indexed_at q n (es ∷ pages) leads rising =
    indexed_at q (n + 1) pages (led n leads es) rising.1
    ∙ ap (λ (p : Option ℕ). or_else (page_in q (n + 1) pages) p) (led_at q n es leads (distinct_keys es rising.0))
    ∙ sym (or_assoc (page_in q (n + 1) pages) (page_with n (value_under es q)) (lookup (is_at (key_cmp q)) leads))

-- Where only one page may have a value, the value is that one's.
pub value_only : (q : Key) (n : ℕ) (pages : List Entries) (page : ℕ) → OnlyIn q pages page → last_in (λ n v. v) (λ n. refl) q n pages ≡ value_under (page_at pages page) q
value_only q n [] page in_one = refl
value_only q n (es ∷ pages) zero in_one = ap (λ (r : Option (List ℕ)). or_else r (value_under es q)) (none_in (λ n v. v) (λ n. refl) q (n + 1) pages in_one)
value_only q n (es ∷ pages) (suc page) in_one =
    ap (λ (v : Option (List ℕ)). or_else (last_in (λ n v. v) (λ n. refl) q (n + 1) pages) v) in_one.0
    ∙ or_none (last_in (λ n v. v) (λ n. refl) q (n + 1) pages)
    ∙ value_only q (n + 1) pages page in_one.1

-- Of a key at most one of these has a value.
abbrev pub NewAt : Key → Option (List ℕ) → List Entries → Type 0
NewAt q found [] = Unit {0}
NewAt q found (es ∷ pages) = (IsSome (value_under es q) → found ≡ None) × NewAt q (or_else (value_under es q) found) pages

-- what every key has, a key with a value has
held_at : (P : Key → Type 0) (q : Key) (e : Row) (es : Entries) → P e.0 → (IsSome (value_under es q) → P q) → (b : Bool) → is_at (key_cmp q) e.0 ≡ b → IsSome (cond b (Some e.1) (value_under es q)) → P q
held_at P q e es here later true is some = subst P (same_key q e.0 is) here
held_at P q e es here later false is some = later some

held : (P : Key → Type 0) (q : Key) (es : Entries) → AllByRecursion P (keys_of es) → IsSome (value_under es q) → P q
held P q [] all some = absurd (cc)
held P q (e ∷ es) all some = held_at P q e es all.0 (held P q es all.1) (is_at (key_cmp q) e.0) refl some

itself : (q : Key) → is_at (key_cmp q) q ≡ true
itself q = ap is_eq (tied_itself key_total q)

some_later : (b : Bool) (v : List ℕ) (found : Option (List ℕ)) → IsSome found → IsSome (cond b (Some v) found)
some_later true v found some = refl
some_later false v found some = some

all_held : (P : Key → Type 0) (es : Entries) → ((q : Key) → IsSome (value_under es q) → P q) → AllByRecursion P (keys_of es)
all_held P [] each = tt
all_held P (e ∷ es) each = (
  each e.0 (ap (λ b. is_some (cond b (Some e.1) (value_under es e.0))) (itself e.0)),
  all_held P es (λ q some. each q (some_later (is_at (key_cmp q) e.0) e.1 (value_under es q) some)),
)

pub new_at : (q : Key) (pages : List Entries) (entries : Entries) → AreRising pages → HaveNewKeys entries pages → NewAt q (value_under entries q) pages
new_at q [] entries rising new = tt
new_at q (es ∷ pages) entries rising new = (
  λ some. held (λ k. lookup (is_at (key_cmp k)) entries ≡ None) q es new.0 some,
  subst (λ (f : Option (List ℕ)). NewAt q f pages) (joined_at q es entries (distinct_keys es rising.0)) (new_at q pages (joined entries es) rising.1 new.1),
)

pub new_from : (pages : List Entries) (entries : Entries) → AreRising pages → ((q : Key) → NewAt q (value_under entries q) pages) → HaveNewKeys entries pages
new_from [] entries rising each = tt
new_from (es ∷ pages) entries rising each = (
  all_held (λ k. lookup (is_at (key_cmp k)) entries ≡ None) es (λ q some. (each q).0 some),
  new_from pages (joined entries es) rising.1
      (λ q. subst (λ (f : Option (List ℕ)). NewAt q f pages) (sym (joined_at q es entries (distinct_keys es rising.0))) (each q).1),
)

no_value : (v : List ℕ) (x : Option (List ℕ)) → (IsSome x → Some v ≡ None) → x ≡ None
no_value v None new = refl
no_value v (Some u) new = absurd (cc (new refl))

lacks_from : (q : Key) (v : List ℕ) (pages : List Entries) → NewAt q (Some v) pages → Lacks q pages
lacks_from q v [] new = tt
lacks_from q v (es ∷ pages) new =
    let here : value_under es q ≡ None = no_value v (value_under es q) new.0 in
    (here, lacks_from q v pages (subst (λ (x : Option (List ℕ)). NewAt q (or_else x (Some v)) pages) here new.1))

lacks_new : (q : Key) (found : Option (List ℕ)) (pages : List Entries) → Lacks q pages → NewAt q found pages
lacks_new q found [] lacks = tt
lacks_new q found (es ∷ pages) lacks = (
  λ some. absurd (cc (some, lacks.0)),
  subst (λ (x : Option (List ℕ)). NewAt q (or_else x found) pages) (sym lacks.0) (lacks_new q found pages lacks.1),
)

-- a key that leads nowhere is in no page
nowhere_at : (n : ℕ) (x : Option (List ℕ)) (later : Option ℕ) → or_else later (page_with n x) ≡ None → (later ≡ None) × (x ≡ None)
nowhere_at n None None none = (refl, refl)
nowhere_at n (Some v) None none = absurd (cc (none))
nowhere_at n x (Some m) none = absurd (cc (none))

pub nowhere : (q : Key) (n : ℕ) (pages : List Entries) → page_in q n pages ≡ None → Lacks q pages
nowhere q n [] none = tt
nowhere q n (es ∷ pages) none =
    let both = nowhere_at n (value_under es q) (page_in q (n + 1) pages) none in
    (both.1, nowhere q (n + 1) pages both.0)

-- a key that leads to a page is in no other one
from_at : (n m : ℕ) (x : Option (List ℕ)) (later : Option ℕ) → ((p : ℕ) → later ≡ Some p → n + 1 ≤ p) → or_else later (page_with n x) ≡ Some m → n ≤ m
from_at n m None None bound found = absurd (cc (found))
from_at n m (Some v) None bound found = let same : n ≡ m = cc (found) in omega (arith, same)
from_at n m x (Some p) bound found = let same : p ≡ m = cc (found) in omega (arith, same, bound p refl)

from_first : (q : Key) (n m : ℕ) (pages : List Entries) → page_in q n pages ≡ Some m → n ≤ m
from_first q n m [] found = absurd (cc (found))
from_first q n m (es ∷ pages) found = from_at n m (value_under es q) (page_in q (n + 1) pages) (λ p is. from_first q (n + 1) p pages is) found

to_at : (n m more : ℕ) (x : Option (List ℕ)) (later : Option ℕ) → ((p : ℕ) → later ≡ Some p → p < n + 1 + more) → or_else later (page_with n x) ≡ Some m → m < n + 1 + more
to_at n m more None None bound found = absurd (cc (found))
to_at n m more (Some v) None bound found = let same : n ≡ m = cc (found) in omega (arith, same)
to_at n m more x (Some p) bound found = let same : p ≡ m = cc (found) in omega (arith, same, bound p refl)

pub to_last : (q : Key) (n m : ℕ) (pages : List Entries) → page_in q n pages ≡ Some m → m < n + length pages
to_last q n m [] found = absurd (cc (found))
to_last q n m (es ∷ pages) found =
    omega (arith, to_at n m (length pages) (value_under es q) (page_in q (n + 1) pages) (λ p is. to_last q (n + 1) p pages is) found)

only_at : (q : Key) (n page : ℕ) (es : Entries) (pages : List Entries) (x : Option (List ℕ)) → value_under es q ≡ x → NewAt q (or_else x None) pages
    → or_else (page_in q (n + 1) pages) (page_with n x) ≡ Some (n + page)
    → ((p : ℕ) → NewAt q None pages → page_in q (n + 1) pages ≡ Some (n + 1 + p) → OnlyIn q pages p) → OnlyIn q (es ∷ pages) page
only_at q n zero es pages None is new found more =
    let later : page_in q (n + 1) pages ≡ Some (n + 0) = sym (or_none (page_in q (n + 1) pages)) ∙ found in
    absurd (omega (arith, from_first q (n + 1) (n + 0) pages later))
only_at q n (suc page) es pages None is new found more =
    let there : n + suc page ≡ n + 1 + page = omega arith in
    (is, more page new (sym (or_none (page_in q (n + 1) pages)) ∙ found ∙ ap (λ (m : ℕ). Some m) there))
only_at q n zero es pages (Some v) is new found more = lacks_from q v pages new
only_at q n (suc page) es pages (Some v) is new found more =
    let none : page_in q (n + 1) pages ≡ None = none_in page_with (λ n. refl) q (n + 1) pages (lacks_from q v pages new) in
    let both : Some n ≡ Some (n + suc page) = ap (λ (r : Option ℕ). or_else r (Some n)) (sym none) ∙ found in
    let same : n ≡ n + suc page = cc (both) in
    absurd (omega (arith, same))

pub only : (q : Key) (n : ℕ) (pages : List Entries) (page : ℕ) → NewAt q None pages → page_in q n pages ≡ Some (n + page) → OnlyIn q pages page
only q n [] page new found = tt
only q n (es ∷ pages) page new found =
    only_at q n page es pages (value_under es q) refl new.1 found (λ p new_later found_later. only q (n + 1) pages p new_later found_later)

-- The changed page has no key of another.
module _ (k : Key) (w : Option (List ℕ)) (q : Key) where
  new_page : (b : Bool) → is_at (key_cmp k) q ≡ b → (found : Option (List ℕ)) → (is_at (key_cmp k) q ≡ true → found ≡ None) → IsSome (cond b w None) → found ≡ None
  new_page true is found none some = none is
  new_page false is found none some = absurd (cc (some))

  new_here : (b : Bool) → is_at (key_cmp k) q ≡ b → (found : Option (List ℕ)) (es : Entries) (pages : List Entries) → Lacks k pages → (is_at (key_cmp k) q ≡ true → found ≡ None)
      → NewAt q found (es ∷ pages) → (after : Option (List ℕ)) → after ≡ cond b w (value_under es q) → (IsSome after → found ≡ None) × NewAt q (or_else after found) pages
  new_here true is found es pages lacks none new after made =
      (λ some. none is, lacks_new q (or_else after found) pages (subst (λ (x : Key). Lacks x pages) (sym (same_key k q is)) lacks))
  new_here false is found es pages lacks none new after made = (
    λ some. new.0 (subst (λ (x : Option (List ℕ)). IsSome x) made some),
    subst (λ (x : Option (List ℕ)). NewAt q (or_else x found) pages) (sym made) new.1,
  )

  pub new_changed : (found : Option (List ℕ)) (pages : List Entries) (page : ℕ) → OnlyIn k pages page → (is_at (key_cmp k) q ≡ true → found ≡ None) → NewAt q found pages
      → NewAt q found (with_page pages page (changed (page_at pages page) k w))
  new_changed found [] page only none new = (
    λ some. new_page (is_at (key_cmp k) q) refl found none (subst (λ (x : Option (List ℕ)). IsSome x) (changed_at [] k w q) some),
    tt,
  )
  new_changed found (es ∷ pages) zero only none new =
      new_here (is_at (key_cmp k) q) refl found es pages only none new (value_under (changed es k w) q) (changed_at es k w q)
  new_changed found (es ∷ pages) (suc page) only none new = (
    new.0,
    new_changed (or_else (value_under es q) found) pages page only.1
        (λ h. (λ i. or_else ((ap (λ (x : Key). value_under es x) (same_key k q h) ∙ only.0) i) (none h i)))
        new.1,
  )

pub changed_pages : (k : Key) (w : Option (List ℕ)) (pages : List Entries) (page : ℕ) → AreRising pages → AreRising (with_page pages page (changed (page_at pages page) k w))
unfolding IsStrictlySortedBy
changed_pages k w [] page rising = (changed_rising [] k w tt, tt)
changed_pages k w (es ∷ pages) zero rising = (changed_rising es k w rising.0, rising.1)
changed_pages k w (es ∷ pages) (suc page) rising = (rising.0, changed_pages k w pages page rising.1)
