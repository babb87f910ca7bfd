-- The changes of a change of a class, applied to the records of a world.
use Rattle.std.proofs.Common.{◌≡◌, ◌<◌, ◌≤◌, ℕ, ◌+◌, Bool, true, false, cond, List, [], ◌∷◌, ◌++◌, length, map, Option, Some, refl, ap, sym, ◌∙◌, subst, arith, append_assoc}
use Rattle.std.specs.Prelude.{◌==◌}
use Rattle.std.specs.BTreeMap.{insert_entry}
use Rattle.std.specs.List.{AllByRecursion, enumerate_from, flat_map}
use Rattle.std.specs.List.Sorted.{IsStrictlySortedBy}
use Rattle.std.specs.Option.{IsSome}
use Rattle.std.specs.Ordering.{match_ordering}
use Rattle.std.specs.declared.cmp.Ordering.TheVariants.{Equal, Greater, Less}
use Rattle.std.proofs.lemmas.Bool.{eqb-true}
use Rattle.std.proofs.lemmas.Bool.Decides.{nat_tests}
use Rattle.std.proofs.lemmas.Grind.{flat_map-append}
use Rattle.std.proofs.lemmas.List.{append-nil, map-append}
use Rattle.std.proofs.lemmas.List.Elements.{filter-append}
use Rattle.ode_change_laws.specs.Rows.{rows_between}
use Rattle.ode_class_laws.proofs.Insertion.{Lower, Over, Under, between, under_lower}
use Rattle.ode_class_records.specs.Puts.{puts, with_rows}
use Rattle.ode_class_records.proofs.ClimbLaws.{Climbs, climbs_to, rising_behind}
use Rattle.ode_class_records.proofs.PutLaws.{rising_rows}
use Rattle.ode_codec.specs.StoredRows.{Stored, activation_row, activation_rows, added_row, entry_row, head_row, object_row, pieces_of, places_of, state_of, table_bytes, table_head, table_heads, table_pieces, table_row, table_rows, text_row, text_rows, version_rows}
use Rattle.ode_keep.specs.Entries.{Changes, Entries, HasRisingKeys, applied}
use Rattle.ode_laws.proofs.Each.{all-append, all-then}
use Rattle.ode_value.specs.Changing.{added_as, added_by, added_to}
use Rattle.ode_value.specs.Fields.{fields_of}
use Rattle.ode_value.specs.GoodWorlds.{AreAdded, RiseFrom}
use Rattle.ode_value.specs.Keys.{added_key, added_kind, counters_key, key, key_cmp}
use Rattle.ode_value.specs.Objects.{Activation}
use Rattle.ode_value.specs.PrintedClasses.{decl_text}
use Rattle.ode_value.specs.Records.{Row, version_row}
use Rattle.ode_value.specs.Worlds.{Declared, Object, class_numbered}
use Rattle.ode_value.specs.declared.change.Added.{Added}
use Rattle.ode_value.specs.declared.change.Change.{Change}
use Rattle.ode_value.specs.declared.key.Key.{Key}
use Rattle.ode_value.specs.declared.statement.Sort.{Sort}
use Rattle.ode_value.specs.declared.value.Value.{Value}

abbrev Entered : Type 0
Entered = List ℕ × Sort × Value

-- ---- the records of new fields rise

none-rise : HasRisingKeys (puts [])
unfolding IsStrictlySortedBy
none-rise = tt

module _ (classes : List Declared) (n : ℕ) where
  climb : (fs : List Entered) (first : ℕ) → Climbs added_kind n first (first + length fs) (map (added_row classes) (map (added_as n) (enumerate_from first fs)))
  climb [] first = omega arith
  climb (f ∷ fs) first = (
    refl,
    refl,
    omega arith,
    climbs_to added_kind n (first + 1) (first + 1 + length fs) (first + length (f ∷ fs)) (map (added_row classes) (map (added_as n) (enumerate_from (first + 1) fs))) (omega arith) (climb fs (first + 1)),
  )

  pub new-climb : (before : ℕ) (c : Change) → Climbs added_kind n (before + 1) (before + 1 + length c.fields) (map (added_row classes) (added_by n before c))
  new-climb before c = climb c.fields (before + 1)

  pub new-put : (before : ℕ) (c : Change) → with_rows (map (added_row classes) (added_by n before c)) [] ≡ puts (map (added_row classes) (added_by n before c))
  new-put before c =
      let rows = map (added_row classes) (added_by n before c) in
      rising_rows rows []
      (subst (λ (rs : List Row). HasRisingKeys (puts rs)) (append-nil rows) (rising_behind added_kind n (before + 1) (before + 1 + length c.fields) rows [] (new-climb before c) tt none-rise))

-- ---- the counters come first

abbrev IsAbove : Key × Option (List ℕ) → Type 0
IsAbove e = key_cmp counters_key e.0 ≡ Less

counters-below : (k : Key) → 1 < k.kind → key_cmp counters_key k ≡ Less
counters-below k less = grind (arith, nat_tests)

climbs-above : (n low high : ℕ) (rs : List Row) → Climbs added_kind n low high rs → AllByRecursion IsAbove (puts rs)
climbs-above n low high [] climbs = tt
climbs-above n low high (r ∷ rs) climbs = (counters-below r.0 (omega (arith, climbs.0)), climbs-above n (r.0.b + 1) high rs climbs.3)

put-first : (v : List ℕ) (cs : Changes) → AllByRecursion IsAbove cs → insert_entry key_cmp cs counters_key (Some v) ≡ (counters_key, Some v) ∷ cs
put-first v [] all = refl
put-first v (e ∷ cs) all =
    ap (λ o. match_ordering o ((counters_key, Some v) ∷ e ∷ cs) ((e.0, Some v) ∷ cs) (e ∷ insert_entry key_cmp cs counters_key (Some v))) all.0

pub counters-first : (n low high : ℕ) (v : List ℕ) (rs : List Row) → Climbs added_kind n low high rs → with_rows ((counters_key, v) ∷ []) (puts rs) ≡ puts ((counters_key, v) ∷ rs)
counters-first n low high v rs climbs = put-first v (puts rs) (climbs-above n low high rs climbs)

same-counters : key_cmp counters_key counters_key ≡ Equal
same-counters = refl

pub counters-replaced : (v w : List ℕ) (es : Entries) → insert_entry key_cmp ((counters_key, w) ∷ es) counters_key v ≡ (counters_key, v) ∷ es
counters-replaced v w es =
    ap (λ o. match_ordering o ((counters_key, v) ∷ (counters_key, w) ∷ es) ((counters_key, v) ∷ es) ((counters_key, w) ∷ insert_entry key_cmp es counters_key v)) same-counters

-- ---- what stands between counters and added fields is of lower kinds

abbrev IsLow : Row → Type 0
IsLow e = e.0.kind < added_kind

all-mapped : {X : Type 0} (row : X → Row) → ((x : X) → IsLow (row x)) → (xs : List X) → AllByRecursion IsLow (map row xs)
all-mapped row low [] = tt
all-mapped row low (x ∷ xs) = (low x, all-mapped row low xs)

all-flat : {X : Type 0} (rows : X → List Row) → ((x : X) → AllByRecursion IsLow (rows x)) → (xs : List X) → AllByRecursion IsLow (flat_map rows xs)
all-flat rows low [] = tt
all-flat rows low (x ∷ xs) = all-append IsLow (rows x) (flat_map rows xs) (low x) (all-flat rows low xs)

pub between-low : (s : Stored) → Lower added_kind (rows_between s)
between-low s =
    let b = s.world.bones in
    let heads = all-mapped head_row (λ d. omega arith) b.classes in
    let texts = all-flat text_rows (λ (d : Declared). all-mapped (text_row d.class.number) (λ p. omega arith) (pieces_of (decl_text d.tree))) b.classes in
    let tops = all-flat (table_heads s.tables) (λ (d : Declared). all-mapped (λ (place : ℕ). table_head d.class.number place (s.tables d.class.number place)) (λ place. omega arith) (places_of d)) b.classes in
    let cells = all-flat (table_rows s.tables)
    (λ (d : Declared). all-flat (λ (place : ℕ). table_pieces d.class.number place (s.tables d.class.number place))
    (λ place. all-mapped (table_row d.class.number place) (λ p. omega arith) (pieces_of (table_bytes (s.tables d.class.number place)))) (places_of d)) b.classes in
    let objects = all-mapped object_row (λ o. omega arith) b.objects in
    let versions = all-flat (version_rows b.classes) (λ (o : Object). all-mapped (version_row o.id (fields_of b.classes o.class)) (λ v. omega arith) o.versions) b.objects in
    let activations = all-flat (activation_rows s.world) (λ (o : Object). all-mapped (λ (a : Activation). activation_row o.id (state_of s.world o.id a.number) a) (λ a. omega arith) o.activations) b.objects in
    let entries = all-mapped entry_row (λ q. omega arith) b.queue in
    let C = map head_row b.classes in
    let T = flat_map text_rows b.classes in
    let H = flat_map (table_heads s.tables) b.classes in
    let P = flat_map (table_rows s.tables) b.classes in
    let O = map object_row b.objects in
    let V = flat_map (version_rows b.classes) b.objects in
    let A = flat_map (activation_rows s.world) b.objects in
    all-append IsLow (C ++ T ++ H ++ P ++ O ++ V ++ A) (map entry_row b.queue)
    (all-append IsLow (C ++ T ++ H ++ P ++ O ++ V) A
    (all-append IsLow (C ++ T ++ H ++ P ++ O) V
    (all-append IsLow (C ++ T ++ H ++ P) O (all-append IsLow (C ++ T ++ H) P (all-append IsLow (C ++ T) H (all-append IsLow C T heads texts) tops) cells) objects) versions) activations) entries

-- ---- the classes before and behind one

abbrev numbers : List Declared → List ℕ
numbers ds = map (λ (d : Declared). d.class.number) ds

record IsSplit (n : ℕ) (ds : List Declared) : Type 0 where
  front : List Declared
  here : Declared
  behind : List Declared
  is : front ++ here ∷ behind ≡ ds
  number : here.class.number ≡ n

split : (n : ℕ) (ds : List Declared) → IsSome (class_numbered n ds) → IsSplit n ds
split n [] some = absurd (cc (some))
split n (d ∷ ds) some = by (d.class.number == n) refl some (split n ds)
  where
    by : (t : Bool) → (d.class.number == n) ≡ t → IsSome (cond t (Some d.class) (class_numbered n ds)) → (IsSome (class_numbered n ds) → IsSplit n ds) → IsSplit n (d ∷ ds)
    by true here there rest = record { front = []; here = d; behind = ds; is = refl; number = eqb-true d.class.number n here }
    by false here there rest =
        let it = rest there in
        record { front = d ∷ it.front; here = it.here; behind = it.behind; is = ap (λ (xs : List Declared). d ∷ xs) it.is; number = it.number }

reaches : (low : ℕ) (front : List Declared) (d : Declared) (behind : List Declared) → RiseFrom low (numbers (front ++ d ∷ behind)) → low ≤ d.class.number
reaches low [] d behind rising = rising.0
reaches low (e ∷ front) d behind rising =
    let rest = reaches (e.class.number + 1) front d behind rising.1 in
    let first = rising.0 in
    omega (arith, rest, first)

fronts-lower : (low : ℕ) (front : List Declared) (d : Declared) (behind : List Declared) → RiseFrom low (numbers (front ++ d ∷ behind)) → AllByRecursion (λ (e : Declared). e.class.number < d.class.number) front
fronts-lower low [] d behind rising = tt
fronts-lower low (e ∷ front) d behind rising =
    let next = reaches (e.class.number + 1) front d behind rising.1 in
    (omega (arith, next), fronts-lower (e.class.number + 1) front d behind rising.1)

behind-rises : (low : ℕ) (front : List Declared) (d : Declared) (behind : List Declared) → RiseFrom low (numbers (front ++ d ∷ behind)) → RiseFrom (d.class.number + 1) (numbers behind)
behind-rises low [] d behind rising = rising.1
behind-rises low (e ∷ front) d behind rising = behind-rises (e.class.number + 1) front d behind rising.1

all-higher : (n low : ℕ) (ds : List Declared) → n < low → RiseFrom low (numbers ds) → AllByRecursion (λ (e : Declared). n < e.class.number) ds
all-higher n low [] less rising = tt
all-higher n low (e ∷ ds) less rising =
    let first = rising.0 in
    let here : n < e.class.number = omega (arith, less, first) in
    (here, all-higher n (e.class.number + 1) ds (omega (arith, here)) rising.1)

-- ---- the fields that were added to each

apart : (m n : ℕ) → m < n → (n == m) ≡ false
apart m n less = grind (arith, nat_tests)

apart-behind : (m n : ℕ) → n < m → (n == m) ≡ false
apart-behind m n less = grind (arith, nat_tests)

itself : (n : ℕ) → (n == n) ≡ true
itself n = grind (arith, nat_tests)

new-own : (n : ℕ) (xs : List (ℕ × Entered)) → added_to n (map (added_as n) xs) ≡ map (added_as n) xs
new-own n [] = refl
new-own n (x ∷ xs) =
    ap (λ (t : Bool). cond t (added_as n x ∷ added_to n (map (added_as n) xs)) (added_to n (map (added_as n) xs))) (itself n) ∙ ap (λ (more : List Added). added_as n x ∷ more) (new-own n xs)

new-others : (n m : ℕ) → (n == m) ≡ false → (xs : List (ℕ × Entered)) → added_to m (map (added_as n) xs) ≡ []
new-others n m other [] = refl
new-others n m other (x ∷ xs) = ap (λ (t : Bool). cond t (added_as n x ∷ added_to m (map (added_as n) xs)) (added_to m (map (added_as n) xs))) other ∙ new-others n m other xs

abbrev IsOwn : ℕ → ℕ → Added → Type 0
IsOwn n top a = (a.class ≡ n) × (a.birth < top)

own-low : (ds : List Declared) (n birth : ℕ) (added : List Added) → AreAdded ds birth added → AllByRecursion (IsOwn n (birth + length added)) (added_to n added)
own-low ds n birth [] are = tt
own-low ds n birth (a ∷ added) are =
    by (a.class == n) refl
    (all-then (IsOwn n (birth + 1 + length added)) (IsOwn n (birth + length (a ∷ added))) (λ x is. (is.0, (let low = is.1 in omega (arith, low)))) (added_to n added) (own-low ds n (birth + 1) added are.2))
  where
    by : (t : Bool) → (a.class == n) ≡ t → AllByRecursion (IsOwn n (birth + length (a ∷ added))) (added_to n added)
        → AllByRecursion (IsOwn n (birth + length (a ∷ added))) (cond t (a ∷ added_to n added) (added_to n added))
    by true is rest = ((eqb-true a.class n is, (let born : a.birth ≡ birth = are.0 in omega (arith, born))), rest)
    by false is rest = rest

greater-a : (n b m c : ℕ) → m < n → key_cmp (key added_kind n b) (added_key m c) ≡ Greater
greater-a n b m c less = grind (arith, nat_tests)

greater-b : (n b c : ℕ) → c < b → key_cmp (key added_kind n b) (added_key n c) ≡ Greater
greater-b n b c less = grind (arith, nat_tests)

less-a : (n b m c : ℕ) → n < m → key_cmp (key added_kind n b) (added_key m c) ≡ Less
less-a n b m c less = grind (arith, nat_tests)

module _ (classes : List Declared) where
  abbrev rows_to : List Added → Declared → List Row
  rows_to added d = map (added_row classes) (added_to d.class.number added)

  abbrev pub own_rows : List Declared → List Added → List Row
  own_rows ds added = flat_map (rows_to added) ds

  under-own : (n b m top : ℕ) (xs : List Added) → m < n → AllByRecursion (IsOwn m top) xs → Under (key added_kind n b) (map (added_row classes) xs)
  under-own n b m top [] less own = tt
  under-own n b m top (a ∷ xs) less own = (
    subst (λ (k : ℕ). key_cmp (key added_kind n b) (added_key k a.birth) ≡ Greater) (sym own.0.0) (greater-a n b m a.birth less),
    under-own n b m top xs less own.1,
  )

  under-same : (n b top : ℕ) (xs : List Added) → top ≤ b → AllByRecursion (IsOwn n top) xs → Under (key added_kind n b) (map (added_row classes) xs)
  under-same n b top [] most own = tt
  under-same n b top (a ∷ xs) most own =
      let low = own.0.1 in (
        subst (λ (k : ℕ). key_cmp (key added_kind n b) (added_key k a.birth) ≡ Greater) (sym own.0.0) (greater-b n b a.birth (omega (arith, low, most))),
        under-same n b top xs most own.1,
      )

  over-own : (n b m top : ℕ) (xs : List Added) → n < m → AllByRecursion (IsOwn m top) xs → Over (key added_kind n b) (map (added_row classes) xs)
  over-own n b m top [] less own = tt
  over-own n b m top (a ∷ xs) less own = (
    subst (λ (k : ℕ). key_cmp (key added_kind n b) (added_key k a.birth) ≡ Less) (sym own.0.0) (less-a n b m a.birth less),
    over-own n b m top xs less own.1,
  )

  module _ (known : List Declared) (added : List Added) (are : AreAdded known 1 added) (n : ℕ) where
    fronts-under : (b : ℕ) (ds : List Declared) → AllByRecursion (λ (e : Declared). e.class.number < n) ds → Under (key added_kind n b) (own_rows ds added)
    fronts-under b [] all = tt
    fronts-under b (d ∷ ds) all =
        all-append (λ (e : Row). key_cmp (key added_kind n b) e.0 ≡ Greater) (rows_to added d) (own_rows ds added)
        (under-own n b d.class.number (1 + length added) (added_to d.class.number added) all.0 (own-low known d.class.number 1 added are)) (fronts-under b ds all.1)

    behind-over : (b : ℕ) (ds : List Declared) → AllByRecursion (λ (e : Declared). n < e.class.number) ds → Over (key added_kind n b) (own_rows ds added)
    behind-over b [] all = tt
    behind-over b (d ∷ ds) all =
        all-append (λ (e : Row). key_cmp (key added_kind n b) e.0 ≡ Less) (rows_to added d) (own_rows ds added)
        (over-own n b d.class.number (1 + length added) (added_to d.class.number added) all.0 (own-low known d.class.number 1 added are)) (behind-over b ds all.1)

    module _ (xs : List (ℕ × Entered)) where
      abbrev new : List Added
      new = map (added_as n) xs

      abbrev then : List Added
      then = added ++ new

      same-apart : (d : Declared) → (n == d.class.number) ≡ false → rows_to then d ≡ rows_to added d
      same-apart d other =
          ap (map (added_row classes))
          (filter-append (λ (a : Added). a.class == d.class.number) added new
          ∙ ap (λ (more : List Added). added_to d.class.number added ++ more) (new-others n d.class.number other xs) ∙ append-nil (added_to d.class.number added))

      fronts-same : (ds : List Declared) → AllByRecursion (λ (e : Declared). e.class.number < n) ds → own_rows ds then ≡ own_rows ds added
      fronts-same [] all = refl
      fronts-same (d ∷ ds) all = λ i. same-apart d (apart d.class.number n all.0) i ++ fronts-same ds all.1 i

      behind-same : (ds : List Declared) → AllByRecursion (λ (e : Declared). n < e.class.number) ds → own_rows ds then ≡ own_rows ds added
      behind-same [] all = refl
      behind-same (d ∷ ds) all = λ i. same-apart d (apart-behind d.class.number n all.0) i ++ behind-same ds all.1 i

      own-more : (d : Declared) → d.class.number ≡ n → rows_to then d ≡ rows_to added d ++ map (added_row classes) new
      own-more d number =
          ap (map (added_row classes))
          (filter-append (λ (a : Added). a.class == d.class.number) added new
          ∙ ap (λ (more : List Added). added_to d.class.number added ++ more) (ap (λ (k : ℕ). added_to k new) number ∙ new-own n xs))
          ∙ map-append (added_row classes) (added_to d.class.number added) new

      -- they come behind those of their class
      placed : (es : Entries) (front : List Declared) (d : Declared) (behind : List Declared) (top : ℕ) → Lower added_kind es → d.class.number ≡ n → AllByRecursion (λ (e : Declared). e.class.number < n) front
          → AllByRecursion (λ (e : Declared). n < e.class.number) behind → Climbs added_kind n (length added + 1) top (map (added_row classes) new)
          → applied (puts (map (added_row classes) new)) (es ++ own_rows (front ++ d ∷ behind) added) ≡ es ++ own_rows (front ++ d ∷ behind) then
      placed es front d behind top lower number low high climbs =
          let rows : List Row = map (added_row classes) new in
          let F : List Row = own_rows front added in
          let D : List Row = rows_to added d in
          let B : List Row = own_rows behind added in
          let apart_now : es ++ own_rows (front ++ d ∷ behind) added ≡ (es ++ F ++ D) ++ B =
          ap (λ (rs : List Row). es ++ rs) (flat_map-append (rows_to added) front (d ∷ behind)) ∙ (let same : es ++ (F ++ (D ++ B)) ≡ (es ++ F ++ D) ++ B = simp append_assoc in same) in
          let below : (b : ℕ) → length added + 1 ≤ b → Under (key added_kind n b) (es ++ F ++ D) =
          λ b most.
          all-append (λ (e : Row). key_cmp (key added_kind n b) e.0 ≡ Greater) (es ++ F) D
          (all-append (λ (e : Row). key_cmp (key added_kind n b) e.0 ≡ Greater) es F (under_lower added_kind n b es lower) (fronts-under b front low))
          (under-same n b (1 + length added) (added_to d.class.number added) (omega (arith, most)) (subst (λ (k : ℕ). AllByRecursion (IsOwn k (1 + length added)) (added_to d.class.number added)) number (own-low known d.class.number 1 added are))) in
          let inserted = between added_kind n B (λ b. behind-over b behind high) (length added + 1) top rows (es ++ F ++ D) climbs below in
          let later : own_rows (front ++ d ∷ behind) then ≡ F ++ ((D ++ rows) ++ B) =
          flat_map-append (rows_to then) front (d ∷ behind) ∙ (λ i. fronts-same front low i ++ (own-more d number i ++ behind-same behind high i)) in
          let joined : (es ++ F ++ D) ++ (rows ++ B) ≡ es ++ (F ++ ((D ++ rows) ++ B)) = simp append_assoc in
          ap (applied (puts rows)) apart_now ∙ inserted ∙ joined ∙ ap (λ (rs : List Row). es ++ rs) (sym later)

-- The records of a change's fields come behind those of the class that gets them.
pub fields-inserted : (classes known : List Declared) (added : List Added) (n : ℕ) (c : Change) (es : Entries) → RiseFrom 0 (numbers classes) → IsSome (class_numbered n classes) → AreAdded known 1 added → Lower added_kind es
    → applied (puts (map (added_row classes) (added_by n (length added) c))) (es ++ own_rows classes classes added) ≡ es ++ own_rows classes classes (added ++ added_by n (length added) c)
fields-inserted classes known added n c es rising some are lower =
    let it = split n classes some in
    let rises : RiseFrom 0 (numbers (it.front ++ it.here ∷ it.behind)) = subst (λ (ds : List Declared). RiseFrom 0 (numbers ds)) (sym it.is) rising in
    let low : AllByRecursion (λ (e : Declared). e.class.number < n) it.front =
    subst (λ (k : ℕ). AllByRecursion (λ (e : Declared). e.class.number < k) it.front) it.number (fronts-lower 0 it.front it.here it.behind rises) in
    let high : AllByRecursion (λ (e : Declared). n < e.class.number) it.behind =
    all-higher n (it.here.class.number + 1) it.behind (let number = it.number in omega (arith, number)) (behind-rises 0 it.front it.here it.behind rises) in
    subst
    (λ (ds : List Declared). applied (puts (map (added_row classes) (added_by n (length added) c))) (es ++ own_rows classes ds added) ≡ es ++ own_rows classes ds (added ++ added_by n (length added) c))
    it.is
    (placed classes known added are n (enumerate_from (length added + 1) c.fields) es it.front it.here it.behind (length added + 1 + length c.fields) lower it.number low high (new-climb classes n (length added) c))
