-- The alphabets of classes, their places and their tables, gathered in order.
use Rattle.std.proofs.Common.{◌≡◌, ◌<◌, ◌≤◌, ◌^◌, ◌+◌, ◌∙◌, ℕ, zero, suc, List, [], ◌∷◌, ◌++◌, length, map, take, get_or, refl, ap, sym, subst, arith, length-append}
use Rattle.std.specs.List.{AllByRecursion, AllZip}
use Rattle.std.proofs.lemmas.List.{append_assoc, map-append, take_more}
use Rattle.ode_change.proofs.Over.{symbols_of, zip-behind}
use Rattle.ode_change.specs.Fitting.{HasFewSymbols, IsOver}
use Rattle.ode_opening.specs.Building.{triggers_of}
use Rattle.ode_opening_tables.proofs.Gathering.{decls_so_far, places_so_far}
use Rattle.ode_opening_tables.specs.Tables.{alphabets_of}
use Rattle.ode_schema.specs.Parts.{places_from}
use Rattle.ode_value.specs.Symbols.{Alphabet}
use Rattle.ode_value.specs.Tables.{Table}
use Rattle.ode_value.specs.declared.class.Class.{Class}
use Rattle.ode_value.specs.declared.member.TriggerDecl.{TriggerDecl}

pub taken_all : {X : Type 0} (i : ℕ) (xs : List X) → length xs ≤ i → take i xs ≡ xs
taken_all zero [] low = refl
taken_all zero (x ∷ xs) low = absurd (omega (arith, low))
taken_all (suc i) [] low = refl
taken_all (suc i) (x ∷ xs) low = ap (λ ys. x ∷ ys) (taken_all i xs (omega (arith, low)))

taken_more : {X : Type 0} (xs : List X) (i : ℕ) (x : X) → i < length xs → x ≡ get_or xs i x → take (i + 1) xs ≡ take i xs ++ x ∷ []
taken_more xs i x inside is = take_more xs i x inside ∙ ap (λ y. take i xs ++ y ∷ []) (sym is)

-- ---- alphabets

pub alphabets_next : (before old new : List Alphabet) (ts : List TriggerDecl) (i : ℕ) (t : TriggerDecl) (a : Alphabet) → i < length ts → t ≡ get_or ts i t → old ≡ before ++ map symbols_of (take i ts) → a ≡ symbols_of t → new ≡ old ++ a ∷ []
    → new ≡ before ++ map symbols_of (take (i + 1) ts)
alphabets_next before old new ts i t a inside is so made more =
    let rows : map symbols_of (take (i + 1) ts) ≡ map symbols_of (take i ts) ++ symbols_of t ∷ [] = ap (map symbols_of) (taken_more ts i t inside is) ∙ map-append symbols_of (take i ts) (t ∷ []) in
    more ∙ ap (λ (xs : List Alphabet). xs ++ a ∷ []) so ∙ ap (λ (x : Alphabet). (before ++ map symbols_of (take i ts)) ++ x ∷ []) made
    ∙ append_assoc before (map symbols_of (take i ts)) (symbols_of t ∷ []) ∙ ap (λ (xs : List Alphabet). before ++ xs) (sym rows)

pub alphabets_done : (before all : List Alphabet) (ts : List TriggerDecl) (i : ℕ) → length ts ≤ i → all ≡ before ++ map symbols_of (take i ts) → all ≡ before ++ map symbols_of ts
alphabets_done before all ts i low so = so ∙ ap (λ (us : List TriggerDecl). before ++ map symbols_of us) (taken_all i ts low)

pub classes_next : (old new : List Alphabet) (cs : List Class) (i : ℕ) (c : Class) → i < length cs → c ≡ get_or cs i c → old ≡ alphabets_of (take i cs) → new ≡ old ++ map symbols_of c.triggers → new ≡ alphabets_of (take (i + 1) cs)
classes_next old new cs i c inside is so more =
    let rows : alphabets_of (take (i + 1) cs) ≡ alphabets_of (take i cs) ++ map symbols_of c.triggers = ap (map symbols_of) (decls_so_far cs i c inside is) ∙ map-append symbols_of (triggers_of (take i cs)) c.triggers in
    more ∙ ap (λ (xs : List Alphabet). xs ++ map symbols_of c.triggers) so ∙ sym rows

pub classes_done : (all : List Alphabet) (cs : List Class) (i : ℕ) → length cs ≤ i → all ≡ alphabets_of (take i cs) → all ≡ alphabets_of cs
classes_done all cs i low so = so ∙ ap alphabets_of (taken_all i cs low)

-- ---- places

pub places_next : (old new : List ℕ) (place : ℕ) (cs : List Class) (i : ℕ) (c : Class) → i < length cs → c ≡ get_or cs i c → old ≡ places_from 0 (take i cs) → place ≡ length (triggers_of (take i cs)) → new ≡ old ++ place ∷ []
    → new ≡ places_from 0 (take (i + 1) cs)
places_next old new place cs i c inside is so count more =
    more ∙ ap (λ (ns : List ℕ). ns ++ place ∷ []) so ∙ ap (λ (n : ℕ). places_from 0 (take i cs) ++ n ∷ []) count ∙ sym (places_so_far cs i c inside is)

pub count_next : (place next : ℕ) (cs : List Class) (i : ℕ) (c : Class) → i < length cs → c ≡ get_or cs i c → place ≡ length (triggers_of (take i cs)) → next ≡ place + length c.triggers → next ≡ length (triggers_of (take (i + 1) cs))
count_next place next cs i c inside is count more =
    let all = ap length (decls_so_far cs i c inside is) in
    let both = length-append (triggers_of (take i cs)) c.triggers in
    omega (arith, count, more, all, both)

pub places_done : (all : List ℕ) (cs : List Class) (i : ℕ) → length cs ≤ i → all ≡ places_from 0 (take i cs) → all ≡ places_from 0 cs
places_done all cs i low so = so ∙ ap (places_from 0) (taken_all i cs low)

pub count_done : (place : ℕ) (cs : List Class) (i : ℕ) → length cs ≤ i → place ≡ length (triggers_of (take i cs)) → place < 2 ^ 32 → length (triggers_of cs) < 2 ^ 32
count_done place cs i low count few = subst (λ (n : ℕ). n < 2 ^ 32) (count ∙ ap (λ (ds : List Class). length (triggers_of ds)) (taken_all i cs low)) few

-- ---- tables

pub over_next : (xs : List Table) (ys : List Alphabet) (i : ℕ) (x : Table) (y : Alphabet) → i < length xs → i < length ys → x ≡ get_or xs i x → y ≡ get_or ys i y → AllZip IsOver (take i xs) (take i ys) → IsOver x y
    → AllZip IsOver (take (i + 1) xs) (take (i + 1) ys)
over_next xs ys i x y inside within at there so over =
    subst (λ (ts : List Table). AllZip IsOver ts (take (i + 1) ys)) (sym (taken_more xs i x inside at))
    (subst (λ (zs : List Alphabet). AllZip IsOver (take i xs ++ x ∷ []) zs) (sym (taken_more ys i y within there)) (zip-behind IsOver (take i xs) (x ∷ []) (take i ys) (y ∷ []) so (over, tt)))

pub over_at : (xs : List Table) (ys : List Alphabet) (i : ℕ) (x : Table) (y : Alphabet) → i < length xs → x ≡ get_or xs i x → y ≡ get_or ys i y → AllZip IsOver xs ys → IsOver x y
over_at [] ys i x y inside at there all = absurd (omega (arith, inside))
over_at (z ∷ xs) [] i x y inside at there all = absurd all
over_at (z ∷ xs) (a ∷ ys) zero x y inside at there all = subst (λ (b : Alphabet). IsOver x b) (sym there) (subst (λ (u : Table). IsOver u a) (sym at) all.0)
over_at (z ∷ xs) (a ∷ ys) (suc i) x y inside at there all = over_at xs ys i x y (omega (arith, inside)) at there all.1

pub over_done : (xs : List Table) (ys : List Alphabet) (i : ℕ) → length xs ≤ i → length xs ≡ length ys → AllZip IsOver (take i xs) (take i ys) → AllZip IsOver xs ys
over_done xs ys i low long so =
    let lower : length ys ≤ i = omega (arith, low, long) in
    subst (λ (ts : List Table). AllZip IsOver ts ys) (taken_all i xs low) (subst (λ (zs : List Alphabet). AllZip IsOver (take i xs) zs) (taken_all i ys lower) so)

-- ---- what all have, each has

front : {X : Type 0} (P : X → Type 0) (xs ys : List X) → AllByRecursion P (xs ++ ys) → AllByRecursion P xs
front P [] ys all = tt
front P (x ∷ xs) ys all = (all.0, front P xs ys all.1)

behind : {X : Type 0} (P : X → Type 0) (xs ys : List X) → AllByRecursion P (xs ++ ys) → AllByRecursion P ys
behind P [] ys all = all
behind P (x ∷ xs) ys all = behind P xs ys all.1

pub own_few : (cs : List Class) (i : ℕ) (c : Class) → i < length cs → c ≡ get_or cs i c → AllByRecursion HasFewSymbols (triggers_of cs) → AllByRecursion HasFewSymbols c.triggers
own_few [] i c inside is all = absurd (omega (arith, inside))
own_few (d ∷ cs) zero c inside is all = subst (λ (e : Class). AllByRecursion HasFewSymbols e.triggers) (sym is) (front HasFewSymbols d.triggers (triggers_of cs) all)
own_few (d ∷ cs) (suc i) c inside is all = own_few cs i c (omega (arith, inside)) is (behind HasFewSymbols d.triggers (triggers_of cs) all)
