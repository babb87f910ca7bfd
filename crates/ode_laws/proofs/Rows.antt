-- Three lists side by side: of things with numbers, and of two rows for each by its number.
use Rattle.std.proofs.Common.{◌≡◌, ◌≢◌, ◌⊎◌, ◌+◌, ◌<◌, ◌≤◌, arith, ℕ, inl, inr, Bool, true, false, cond, List, [], ◌∷◌, ◌++◌, map, ◌==◌, Option, Some, None, refl, sym, ap, ◌∙◌, subst}
use Rattle.std.proofs.lemmas.Bool.{eqb-true, eq-eqb}
use Rattle.std.proofs.lemmas.Bool.Decides.{eqb_tells}
use Rattle.std.specs.List.{AllByRecursion, find}
use Rattle.std.specs.Option.{option_map, option_and_then}
use Rattle.ode_value.specs.GoodWorlds.{RiseFrom}
use Rattle.ode_laws.proofs.Numbers.{apart}
use Rattle.ode_value.specs.Worlds.{Object, Bones, with_object, kept_at, with_kept}
use Rattle.ode_value.specs.Denoting.{object_numbered, object_at, if_live}

-- the object of a number is found as others are
pub numbered_find : (id : ℕ) (os : List Object) → object_numbered id os ≡ find (λ (o : Object). o.id == id) os
numbered_find id [] = refl
numbered_find id (o ∷ os) = ap (λ rest. cond (o.id == id) (Some o) rest) (numbered_find id os)

module _ {X K L : Type 0} (key : X → ℕ) (Q : X → K → L → Type 0) where
  abbrev pub Rows : List X → List (ℕ × K) → List (ℕ × L) → Type 0
  Rows [] [] [] = Unit {0}
  Rows (x ∷ xs) (k ∷ ks) (l ∷ ls) = (k.0 ≡ key x) × (l.0 ≡ key x) × Q x k.1 l.1 × Rows xs ks ls
  Rows _ _ _ = ⊥

  -- the rows of what is found
  pub record Found (x : X) (o : Option K) (p : Option L) : Type 0 where
    pub k : K
    pub l : L
    pub k_is : o ≡ Some k
    pub l_is : p ≡ Some l
    pub holds : Q x k l

  abbrev pub RowsOf : (id : ℕ) (x : X) (ks : List (ℕ × K)) (ls : List (ℕ × L)) → Type 0
  RowsOf id x ks ls = Found x (kept_at id ks) (kept_at id ls)

  pub rows_at : (id : ℕ) (xs : List X) (ks : List (ℕ × K)) (ls : List (ℕ × L)) → Rows xs ks ls → (x : X) → find (λ y. key y == id) xs ≡ Some x → RowsOf id x ks ls
  rows_at id [] ks ls rows x is = absurd (cc)
  rows_at id (y ∷ ys) (k ∷ ks) (l ∷ ls) rows x is =
      by_test (key y == id) (k.0 == id) (l.0 == id) (ap (λ n. n == id) (sym rows.0)) (ap (λ n. n == id) (sym rows.1)) is (rows_at id ys ks ls rows.3 x) where
        by_test : (b c d : Bool) → b ≡ c → b ≡ d → cond b (Some y) (find (λ z. key z == id) ys) ≡ Some x → (find (λ z. key z == id) ys ≡ Some x → RowsOf id x ks ls)
            → Found x (cond c (Some k.1) (kept_at id ks)) (cond d (Some l.1) (kept_at id ls))
        by_test true true true e f is rest = let same : y ≡ x = cc in record { k = k.1; l = l.1; k_is = refl; l_is = refl; holds = subst (λ z. Q z k.1 l.1) same rows.2 }
        by_test false false false e f is rest = rest is
        by_test true false d e f is rest = absurd (cc)
        by_test false true d e f is rest = absurd (cc)
        by_test true true false e f is rest = absurd (cc)
        by_test false false true e f is rest = absurd (cc)
  rows_at id (y ∷ ys) [] [] rows x is = absurd rows
  rows_at id (y ∷ ys) (k ∷ ks) [] rows x is = absurd rows
  rows_at id (y ∷ ys) [] (l ∷ ls) rows x is = absurd rows

  -- one more
  pub rows_more : (xs : List X) (ks : List (ℕ × K)) (ls : List (ℕ × L)) → Rows xs ks ls → (x : X) (k : K) (l : L) → Q x k l
      → Rows (xs ++ x ∷ []) (ks ++ (key x, k) ∷ []) (ls ++ (key x, l) ∷ [])
  rows_more [] [] [] rows x k l q = (refl, refl, q, tt)
  rows_more (y ∷ ys) (i ∷ ks) (j ∷ ls) rows x k l q = (rows.0, rows.1, rows.2, rows_more ys ks ls rows.3 x k l q)
  rows_more [] (i ∷ ks) ls rows x k l q = absurd rows
  rows_more [] [] (j ∷ ls) rows x k l q = absurd rows
  rows_more (y ∷ ys) [] ls rows x k l q = absurd rows
  rows_more (y ∷ ys) (i ∷ ks) [] rows x k l q = absurd rows

-- what follows of each
pub rows_then : {X K L : Type 0} (key : X → ℕ) (P Q : X → K → L → Type 0) → ((x : X) (k : K) (l : L) → P x k l → Q x k l)
    → (xs : List X) (ks : List (ℕ × K)) (ls : List (ℕ × L)) → Rows key P xs ks ls → Rows key Q xs ks ls
rows_then key P Q then [] [] [] rows = tt
rows_then key P Q then (x ∷ xs) (k ∷ ks) (l ∷ ls) rows = (rows.0, rows.1, then x k.1 l.1 rows.2, rows_then key P Q then xs ks ls rows.3)
rows_then key P Q then [] (k ∷ ks) ls rows = absurd rows
rows_then key P Q then [] [] (l ∷ ls) rows = absurd rows
rows_then key P Q then (x ∷ xs) [] ls rows = absurd rows
rows_then key P Q then (x ∷ xs) (k ∷ ks) [] rows = absurd rows

-- each changed, by itself
pub rows_map : {X K L X' K' L' : Type 0} (key : X → ℕ) (other : X' → ℕ) (P : X → K → L → Type 0) (Q : X' → K' → L' → Type 0) (f : X → X') (g : ℕ → K → K') (h : ℕ → L → L')
    → ((x : X) → other (f x) ≡ key x) → (xs : List X) (ks : List (ℕ × K)) (ls : List (ℕ × L)) → Rows key (λ x k l. P x k l × Q (f x) (g (key x) k) (h (key x) l)) xs ks ls
    → Rows other Q (map f xs) (map (λ (row : ℕ × K). (row.0, g row.0 row.1)) ks) (map (λ (row : ℕ × L). (row.0, h row.0 row.1)) ls)
rows_map key other P Q f g h same [] [] [] rows = tt
rows_map key other P Q f g h same (x ∷ xs) (k ∷ ks) (l ∷ ls) rows = (
  rows.0 ∙ sym (same x),
  rows.1 ∙ sym (same x),
  subst (λ n. Q (f x) (g n k.1) (h l.0 l.1)) (sym rows.0) (subst (λ n. Q (f x) (g (key x) k.1) (h n l.1)) (sym rows.1) rows.2.1),
  rows_map key other P Q f g h same xs ks ls rows.3,
)
rows_map key other P Q f g h same [] (k ∷ ks) ls rows = absurd rows
rows_map key other P Q f g h same [] [] (l ∷ ls) rows = absurd rows
rows_map key other P Q f g h same (x ∷ xs) [] ls rows = absurd rows
rows_map key other P Q f g h same (x ∷ xs) (k ∷ ks) [] rows = absurd rows

-- ---- objects

abbrev pub id_of : Object → ℕ
id_of o = o.id

module _ {K L : Type 0} (Q : Object → K → L → Type 0) where
  -- one object changed, with its rows
  pub rows_with : (id : ℕ) (f : Object → Object) (g : K → K) (h : L → L) → ((o : Object) → (f o).id ≡ o.id) → ((o : Object) (k : K) (l : L) → o.id ≡ id → Q o k l → Q (f o) (g k) (h l))
      → (os : List Object) (ks : List (ℕ × K)) (ls : List (ℕ × L)) → Rows id_of Q os ks ls → Rows id_of Q (with_object id f os) (with_kept id g ks) (with_kept id h ls)
  rows_with id f g h same change [] [] [] rows = tt
  rows_with id f g h same change (o ∷ os) (k ∷ ks) (l ∷ ls) rows =
      by_test (o.id == id) (k.0 == id) (l.0 == id) (ap (λ n. n == id) (sym rows.0)) (ap (λ n. n == id) (sym rows.1)) (eqb-true o.id id) (rows_with id f g h same change os ks ls rows.3)
    where
      by_test : (b c d : Bool) → b ≡ c → b ≡ d → (b ≡ true → o.id ≡ id) → Rows id_of Q (with_object id f os) (with_kept id g ks) (with_kept id h ls)
          → Rows id_of Q (cond b (f o ∷ os) (o ∷ with_object id f os)) (cond c ((k.0, g k.1) ∷ ks) (k ∷ with_kept id g ks)) (cond d ((l.0, h l.1) ∷ ls) (l ∷ with_kept id h ls))
      by_test true true true e f' is rest = (rows.0 ∙ sym (same o), rows.1 ∙ sym (same o), change o k.1 l.1 (is refl) rows.2, rows.3)
      by_test false false false e f' is rest = (rows.0, rows.1, rows.2, rest)
      by_test true false d e f' is rest = absurd (cc)
      by_test false true d e f' is rest = absurd (cc)
      by_test true true false e f' is rest = absurd (cc)
      by_test false false true e f' is rest = absurd (cc)
  rows_with id f g h same change [] (k ∷ ks) ls rows = absurd rows
  rows_with id f g h same change [] [] (l ∷ ls) rows = absurd rows
  rows_with id f g h same change (o ∷ os) [] ls rows = absurd rows
  rows_with id f g h same change (o ∷ os) (k ∷ ks) [] rows = absurd rows

  -- one object changed alone
  pub rows_altered : (id : ℕ) (f : Object → Object) → ((o : Object) → (f o).id ≡ o.id) → ((o : Object) (k : K) (l : L) → Q o k l → Q (f o) k l)
      → (os : List Object) (ks : List (ℕ × K)) (ls : List (ℕ × L)) → Rows id_of Q os ks ls → Rows id_of Q (with_object id f os) ks ls
  rows_altered id f same change [] [] [] rows = tt
  rows_altered id f same change (o ∷ os) (k ∷ ks) (l ∷ ls) rows = by_test (o.id == id) (rows_altered id f same change os ks ls rows.3) where
    by_test : (b : Bool) → Rows id_of Q (with_object id f os) ks ls → Rows id_of Q (cond b (f o ∷ os) (o ∷ with_object id f os)) (k ∷ ks) (l ∷ ls)
    by_test true rest = (rows.0 ∙ sym (same o), rows.1 ∙ sym (same o), change o k.1 l.1 rows.2, rows.3)
    by_test false rest = (rows.0, rows.1, rows.2, rest)
  rows_altered id f same change [] (k ∷ ks) ls rows = absurd rows
  rows_altered id f same change [] [] (l ∷ ls) rows = absurd rows
  rows_altered id f same change (o ∷ os) [] ls rows = absurd rows
  rows_altered id f same change (o ∷ os) (k ∷ ks) [] rows = absurd rows

-- ---- look-ups after changes

-- a test by a number that is tested itself
pub eq_swap : (a b : ℕ) → (a == b) ≡ (b == a)
eq_swap a b = by_both (eqb_tells a b) (eqb_tells b a) where
  by_both : ((a == b) ≡ true × (a ≡ b)) ⊎ ((a == b) ≡ false × (a ≢ b)) → ((b == a) ≡ true × (b ≡ a)) ⊎ ((b == a) ≡ false × (b ≢ a)) → (a == b) ≡ (b == a)
  by_both (inl p) (inl q) = p.0 ∙ sym q.0
  by_both (inr p) (inr q) = p.0 ∙ sym q.0
  by_both (inl p) (inr q) = absurd (q.1 (sym p.1))
  by_both (inr p) (inl q) = absurd (p.1 (sym q.1))

pub at_changed : (a n id : ℕ) (c : Bool) → (a == id) ≡ c → (a == n) ≡ true → (n == id) ≡ c
at_changed a n id c p q = ap (λ m. m == id) (sym (eqb-true a n q)) ∙ p

pub at_other : (a n id : ℕ) → (a == id) ≡ true → (a == n) ≡ false → (n == id) ≡ false
at_other a n id p q = ap (λ m. n == m) (sym (eqb-true a id p)) ∙ eq_swap n a ∙ q

pub find-with : (n id : ℕ) (f : Object → Object) → ((o : Object) → (f o).id ≡ o.id) → (os : List Object) (o : Object) → object_numbered n os ≡ Some o
    → object_numbered n (with_object id f os) ≡ Some (cond (n == id) (f o) o)
find-with n id f same [] o is = absurd (cc)
find-with n id f same (p ∷ os) o is = by_tests (p.id == id) (p.id == n) ((f p).id == n) refl refl (ap (λ m. m == n) (same p)) is (find-with n id f same os o) where
  by_tests : (a b c : Bool) → (p.id == id) ≡ a → (p.id == n) ≡ b → c ≡ (p.id == n) → cond b (Some p) (object_numbered n os) ≡ Some o
      → (object_numbered n os ≡ Some o → object_numbered n (with_object id f os) ≡ Some (cond (n == id) (f o) o))
      → object_numbered n (cond a (f p ∷ os) (p ∷ with_object id f os)) ≡ Some (cond (n == id) (f o) o)
  by_tests true true c e f' g is rest =
      let same_o : p ≡ o = cc in
      ap (λ t. cond t (Some (f p)) (object_numbered n os)) (ap (λ m. m == n) (same p) ∙ f') ∙ ap (λ q. Some (f q)) same_o ∙ sym (ap (λ t. Some (cond t (f o) o)) (at_changed p.id n id true e f'))
  by_tests true false c e f' g is rest =
      ap (λ t. cond t (Some (f p)) (object_numbered n os)) (ap (λ m. m == n) (same p) ∙ f') ∙ is ∙ sym (ap (λ t. Some (cond t (f o) o)) (at_other p.id n id e f'))
  by_tests false true c e f' g is rest =
      ap (λ t. cond t (Some p) (object_numbered n (with_object id f os))) f' ∙ is ∙ sym (ap (λ t. Some (cond t (f o) o)) (at_changed p.id n id false e f'))
  by_tests false false c e f' g is rest = ap (λ t. cond t (Some p) (object_numbered n (with_object id f os))) f' ∙ rest is

pub find-append : {X : Type 0} (p : X → Bool) (xs ys : List X) (x : X) → find p xs ≡ Some x → find p (xs ++ ys) ≡ Some x
find-append p [] ys x is = absurd (cc)
find-append p (y ∷ xs) ys x is = by_test (p y) is (find-append p xs ys x) where
  by_test : (b : Bool) → cond b (Some y) (find p xs) ≡ Some x → (find p xs ≡ Some x → find p (xs ++ ys) ≡ Some x) → cond b (Some y) (find p (xs ++ ys)) ≡ Some x
  by_test true e rest = e
  by_test false e rest = rest e

pub kept-append : {K : Type 0} (id : ℕ) (xs ys : List (ℕ × K)) (x : K) → kept_at id xs ≡ Some x → kept_at id (xs ++ ys) ≡ Some x
kept-append id [] ys x is = absurd (cc)
kept-append id (y ∷ xs) ys x is = by_test (y.0 == id) is (kept-append id xs ys x) where
  by_test : (b : Bool) → cond b (Some y.1) (kept_at id xs) ≡ Some x → (kept_at id xs ≡ Some x → kept_at id (xs ++ ys) ≡ Some x) → cond b (Some y.1) (kept_at id (xs ++ ys)) ≡ Some x
  by_test true e rest = e
  by_test false e rest = rest e

pub find-map : {X Y : Type 0} (p : X → Bool) (q : Y → Bool) (f : X → Y) → ((x : X) → q (f x) ≡ p x) → (xs : List X) → find q (map f xs) ≡ option_map f (find p xs)
find-map p q f same [] = refl
find-map p q f same (x ∷ xs) = by_test (p x) (q (f x)) (same x) (find-map p q f same xs) where
  by_test : (b c : Bool) → c ≡ b → find q (map f xs) ≡ option_map f (find p xs) → cond c (Some (f x)) (find q (map f xs)) ≡ option_map f (cond b (Some x) (find p xs))
  by_test true true e rest = refl
  by_test false false e rest = rest
  by_test true false e rest = absurd (cc)
  by_test false true e rest = absurd (cc)

pub kept-with : {K : Type 0} (n id : ℕ) (f : K → K) (rows : List (ℕ × K)) (k : K) → kept_at n rows ≡ Some k → kept_at n (with_kept id f rows) ≡ Some (cond (n == id) (f k) k)
kept-with n id f [] k is = absurd (cc)
kept-with {K} n id f (row ∷ rows) k is = by_tests (row.0 == id) (row.0 == n) refl refl is (kept-with n id f rows k) where
  by_tests : (a b : Bool) → (row.0 == id) ≡ a → (row.0 == n) ≡ b → cond b (Some row.1) (kept_at n rows) ≡ Some k
      → (kept_at n rows ≡ Some k → kept_at n (with_kept id f rows) ≡ Some (cond (n == id) (f k) k))
      → kept_at n (cond a ((row.0, f row.1) ∷ rows) (row ∷ with_kept id f rows)) ≡ Some (cond (n == id) (f k) k)
  by_tests true true e g is rest =
      ap (λ t. cond t (Some (f row.1)) (kept_at n rows)) g ∙ (let same : row.1 ≡ k = cc in ap (λ q. Some (f q)) same) ∙ sym (ap (λ t. Some (cond t (f k) k)) (at_changed row.0 n id true e g))
  by_tests true false e g is rest =
      ap (λ t. cond t (Some (f row.1)) (kept_at n rows)) g ∙ is ∙ sym (ap (λ t. Some (cond t (f k) k)) (at_other row.0 n id e g))
  by_tests false true e g is rest =
      ap (λ t. cond t (Some row.1) (kept_at n (with_kept id f rows))) g ∙ is ∙ sym (ap (λ t. Some (cond t (f k) k)) (at_changed row.0 n id false e g))
  by_tests false false e g is rest = ap (λ t. cond t (Some row.1) (kept_at n (with_kept id f rows))) g ∙ rest is

-- ---- rows of the same things

-- each thing changed in what its rows don't show
pub rows_left : {X K L : Type 0} (key : X → ℕ) (P Q : X → K → L → Type 0) (f : X → X) → ((x : X) → key (f x) ≡ key x) → ((x : X) (k : K) (l : L) → P x k l → Q (f x) k l)
    → (xs : List X) (ks : List (ℕ × K)) (ls : List (ℕ × L)) → Rows key P xs ks ls → Rows key Q (map f xs) ks ls
rows_left key P Q f same change [] [] [] rows = tt
rows_left key P Q f same change (x ∷ xs) (k ∷ ks) (l ∷ ls) rows = (rows.0 ∙ sym (same x), rows.1 ∙ sym (same x), change x k.1 l.1 rows.2, rows_left key P Q f same change xs ks ls rows.3)
rows_left key P Q f same change [] (k ∷ ks) ls rows = absurd rows
rows_left key P Q f same change [] [] (l ∷ ls) rows = absurd rows
rows_left key P Q f same change (x ∷ xs) [] ls rows = absurd rows
rows_left key P Q f same change (x ∷ xs) (k ∷ ks) [] rows = absurd rows

-- the rows changed, each by its number; of each thing something is known
pub rows_move : {X K L : Type 0} (key : X → ℕ) (N : X → Type 0) (P Q : X → K → L → Type 0) (g : ℕ × K → ℕ × K) (h : ℕ × L → ℕ × L) → ((k : ℕ × K) → (g k).0 ≡ k.0) → ((l : ℕ × L) → (h l).0 ≡ l.0)
    → ((x : X) (k : ℕ × K) (l : ℕ × L) → N x → k.0 ≡ key x → l.0 ≡ key x → P x k.1 l.1 → Q x (g k).1 (h l).1)
    → (xs : List X) (ks : List (ℕ × K)) (ls : List (ℕ × L)) → AllByRecursion N xs → Rows key P xs ks ls → Rows key Q xs (map g ks) (map h ls)
rows_move key N P Q g h gs hs change [] [] [] all rows = tt
rows_move key N P Q g h gs hs change (x ∷ xs) (k ∷ ks) (l ∷ ls) all rows =
    (gs k ∙ rows.0, hs l ∙ rows.1, change x k l all.0 rows.0 rows.1 rows.2, rows_move key N P Q g h gs hs change xs ks ls all.1 rows.3)
rows_move key N P Q g h gs hs change [] (k ∷ ks) ls all rows = absurd rows
rows_move key N P Q g h gs hs change [] [] (l ∷ ls) all rows = absurd rows
rows_move key N P Q g h gs hs change (x ∷ xs) [] ls all rows = absurd rows
rows_move key N P Q g h gs hs change (x ∷ xs) (k ∷ ks) [] all rows = absurd rows

-- the rows of the object of a number changed
pub rows_kept : {K L : Type 0} (Q : Object → K → L → Type 0) (id : ℕ) (o : Object) (g : K → K) (h : L → L) → ((k : K) (l : L) → Q o k l → Q o (g k) (h l))
    → (os : List Object) (ks : List (ℕ × K)) (ls : List (ℕ × L)) → object_numbered id os ≡ Some o → Rows id_of Q os ks ls → Rows id_of Q os (with_kept id g ks) (with_kept id h ls)
rows_kept Q id o g h change [] [] [] is rows = tt
rows_kept Q id o g h change (p ∷ os) (k ∷ ks) (l ∷ ls) is rows =
    by_test (p.id == id) (k.0 == id) (l.0 == id) (ap (λ n. n == id) (sym rows.0)) (ap (λ n. n == id) (sym rows.1)) is (λ e. rows_kept Q id o g h change os ks ls e rows.3)
  where
    by_test : (b c d : Bool) → b ≡ c → b ≡ d → cond b (Some p) (object_numbered id os) ≡ Some o → (object_numbered id os ≡ Some o → Rows id_of Q os (with_kept id g ks) (with_kept id h ls))
        → Rows id_of Q (p ∷ os) (cond c ((k.0, g k.1) ∷ ks) (k ∷ with_kept id g ks)) (cond d ((l.0, h l.1) ∷ ls) (l ∷ with_kept id h ls))
    by_test true true true e f q rest =
        let it : p ≡ o = cc in
        (rows.0, rows.1, subst (λ z. Q z (g k.1) (h l.1)) (sym it) (change k.1 l.1 (subst (λ z. Q z k.1 l.1) it rows.2)), rows.3)
    by_test false false false e f q rest = (rows.0, rows.1, rows.2, rest q)
    by_test true false d e f q rest = absurd (cc)
    by_test false true d e f q rest = absurd (cc)
    by_test true true false e f q rest = absurd (cc)
    by_test false false true e f q rest = absurd (cc)
rows_kept Q id o g h change [] (k ∷ ks) ls is rows = absurd rows
rows_kept Q id o g h change [] [] (l ∷ ls) is rows = absurd rows
rows_kept Q id o g h change (p ∷ os) [] ls is rows = absurd rows
rows_kept Q id o g h change (p ∷ os) (k ∷ ks) [] is rows = absurd rows

-- rows changed by a function that keeps their numbers
pub kept-map : {K : Type 0} (n : ℕ) (f : ℕ × K → ℕ × K) → ((row : ℕ × K) → (f row).0 ≡ row.0) → (rows : List (ℕ × K)) (k : K) → kept_at n rows ≡ Some k → kept_at n (map f rows) ≡ Some (f (n, k)).1
kept-map n f same [] k is = absurd (cc)
kept-map n f same (row ∷ rows) k is = by_test (row.0 == n) ((f row).0 == n) (ap (λ m. m == n) (sym (same row))) (eqb-true row.0 n) is (kept-map n f same rows k) where
  by_test : (b c : Bool) → b ≡ c → (b ≡ true → row.0 ≡ n) → cond b (Some row.1) (kept_at n rows) ≡ Some k → (kept_at n rows ≡ Some k → kept_at n (map f rows) ≡ Some (f (n, k)).1)
      → cond c (Some (f row).1) (kept_at n (map f rows)) ≡ Some (f (n, k)).1
  by_test true true e there q rest = let it : row.1 ≡ k = cc in ap (λ m. Some (f (m, row.1)).1) (there refl) ∙ ap (λ v. Some (f (n, v)).1) it
  by_test false false e there q rest = rest q
  by_test true false e there q rest = absurd (cc)
  by_test false true e there q rest = absurd (cc)

-- things whose numbers rise are found by them
pub find_rising : {X : Type 0} (number : X → ℕ) (low : ℕ) (xs : List X) → RiseFrom low (map number xs) → AllByRecursion (λ x. find (λ y. number y == number x) xs ≡ Some x) xs
find_rising number low [] rise = tt
find_rising {X} number low (x ∷ xs) rise = (
  ap (λ b. cond b (Some x) (find (λ y. number y == number x) xs)) (eq-eqb (number x) (number x) refl),
  behind xs (number x + 1) (omega arith) rise.1 (find_rising number (number x + 1) xs rise.1),
)
  where
    behind : (ys : List X) (from : ℕ) → number x < from → RiseFrom from (map number ys) → AllByRecursion (λ y. find (λ z. number z == number y) xs ≡ Some y) ys
        → AllByRecursion (λ y. find (λ z. number z == number y) (x ∷ xs) ≡ Some y) ys
    behind [] from less rises all = tt
    behind (y ∷ ys) from less rises all =
        let up : from ≤ number y = rises.0 in
        (ap (λ b. cond b (Some x) (find (λ z. number z == number y) xs)) (apart (number x) (number y) (omega arith)) ∙ all.0, behind ys (number y + 1) (omega arith) rises.1 all.1)

pub map_itself : {X : Type 0} (xs : List X) → map (λ x. x) xs ≡ xs
map_itself [] = refl
map_itself (x ∷ xs) = ap (λ ys. x ∷ ys) (map_itself xs)

-- the object found has the number
pub numbered_id : (id : ℕ) (os : List Object) (o : Object) → object_numbered id os ≡ Some o → o.id ≡ id
numbered_id id [] o is = absurd (cc)
numbered_id id (p ∷ os) o is = by_test (p.id == id) (eqb-true p.id id) is (numbered_id id os o) where
  by_test : (b : Bool) → (b ≡ true → p.id ≡ id) → cond b (Some p) (object_numbered id os) ≡ Some o → (object_numbered id os ≡ Some o → o.id ≡ id) → o.id ≡ id
  by_test true e q rest = let it : p ≡ o = cc in ap (λ (x : Object). x.id) (sym it) ∙ e refl
  by_test false e q rest = rest q

pub at_numbered : (b : Bones) (id : ℕ) (o : Object) → object_at b id ≡ Some o → object_numbered id b.objects ≡ Some o
at_numbered b id o is = by_found (object_numbered id b.objects) is where
  by_live : (p : Object) (l : Bool) → cond l (Some p) None ≡ Some o → Some p ≡ Some o
  by_live p true q = q
  by_live p false q = absurd (cc)

  by_found : (f : Option Object) → option_and_then if_live f ≡ Some o → f ≡ Some o
  by_found None q = absurd (cc)
  by_found (Some p) q = by_live p p.live q

pub numbered-append : (id : ℕ) (os more : List Object) (o : Object) → object_numbered id os ≡ Some o → object_numbered id (os ++ more) ≡ Some o
numbered-append id os more o is = numbered_find id (os ++ more) ∙ find-append (λ (p : Object). p.id == id) os more o (sym (numbered_find id os) ∙ is)
