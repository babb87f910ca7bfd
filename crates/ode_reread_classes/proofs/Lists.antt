-- Elements of a list, each behind the others.
use Rattle.std.proofs.Common.{◌≡◌, ◌≤◌, ℕ, max, true, List, [], ◌∷◌, ◌++◌, append_assoc, map, sym, ◌∙◌, ap, subst, arith, codes, refl}
use Rattle.std.specs.List.{flat_map}
use Rattle.ode_lex.specs.declared.token.Mark.TheVariants as mark
use Rattle.ode_relex.specs.Ends.{ends_mark, opens}
use Rattle.ode_value.specs.PrintedClasses.{in_braces}
use Rattle.std.proofs.lemmas.List.{append-nil}
use Rattle.ode_grammar.specs.declared.item.Item.{Item}
use Rattle.ode_terminals.specs.declared.seen.Place.{Place}
use Rattle.ode_syntax.specs.Kept.{Spelled}
use Rattle.ode_reread.proofs.Both.{Both}
use Rattle.ode_reread.proofs.Marked.{marked}
use Rattle.ode_reread.proofs.Prints.{regroup, Ds}
use Rattle.ode_reread.proofs.Spells.{ends, ends_marks, no_blank}
use Rattle.ode_reread_classes.proofs.Derivations.{from}
use Rattle.ode_reread_classes.proofs.Pieces.{blank, closing_mark, join, nothing, one_mark, Piece}

-- P holds of each
abbrev pub Each : {X : Type 0} → (X → Type 0) → List X → Type 0
Each P [] = Unit {0}
Each P (x ∷ xs) = P x × Each P xs

pub weaker : {X : Type 0} (P Q : X → Type 0) → ((x : X) → P x → Q x) → (xs : List X) → Each P xs → Each Q xs
weaker P Q f [] h = tt
weaker P Q f (x ∷ xs) h = (f x h.0, weaker P Q f xs h.1)

pub one_more : {X : Type 0} (P : X → Type 0) (xs : List X) (x : X) → Each P xs → P x → Each P (xs ++ x ∷ [])
one_more P [] x h p = (p, tt)
one_more P (y ∷ xs) x h p = (h.0, one_more P xs x h.1 p)

-- an element with what stands before it; behind others at a part it is one more of them
pub record Element {X : Type 0} (place : Place) (put : List X → ℕ → Both → Both) (part : Item) (before : List ℕ) (text : X → List ℕ) (n : ℕ) (x : X) : Type 0 where
  pub tokens : List Spelled
  pub low : ℕ
  pub no_higher : low ≤ n
  pub piece : Piece place ends (before ++ text x) tokens
  pub begins : (rest : List ℕ) → ends ((before ++ text x) ++ rest) ≡ true
  pub does : (done : List X) (k : ℕ) (items : List Item) (b : Both) (ts : List Spelled) (out : Both) → Ds (part ∷ items) (put (done ++ x ∷ []) (max k low) b) ts out
      → Ds (part ∷ items) (put done k b) (tokens ++ ts) out

pub record Elements {X : Type 0} (place : Place) (put : List X → ℕ → Both → Both) (part : Item) (before : List ℕ) (text : X → List ℕ) (n : ℕ) (xs : List X) : Type 0 where
  pub tokens : List Spelled
  pub low : ℕ
  pub no_higher : low ≤ n
  pub piece : Piece place ends (flat_map (λ t. before ++ t) (map text xs)) tokens
  pub begins : (rest : List ℕ) → ends rest ≡ true → ends (flat_map (λ t. before ++ t) (map text xs) ++ rest) ≡ true
  pub does : (done : List X) (k : ℕ) (items : List Item) (b : Both) (ts : List Spelled) (out : Both) → Ds (part ∷ items) (put (done ++ xs) (max k low) b) ts out
      → Ds (part ∷ items) (put done k b) (tokens ++ ts) out

none : {X : Type 0} (place : Place) (put : List X → ℕ → Both → Both) (part : Item) (before : List ℕ) (text : X → List ℕ) (n : ℕ)
    → Elements place put part before text n []
none place put part before text n = record {
  tokens = [];
  low = 0;
  no_higher = omega arith;
  piece = nothing place;
  begins = λ rest e. e;
  does = λ done k items b ts out d.
      let same : max k 0 ≡ k = omega arith in
      from (sym (ap (λ xs. put xs (max k 0) b) (append-nil done) ∙ ap (λ m. put done m b) same)) d;
}

more : {X : Type 0} (place : Place) (put : List X → ℕ → Both → Both) (part : Item) (before : List ℕ) (text : X → List ℕ) (n : ℕ) (x : X) (xs : List X)
    → Element place put part before text n x → Elements place put part before text n xs → Elements place put part before text n (x ∷ xs)
more place put part before text n x xs e r = let p = e.no_higher in let q = r.no_higher in record {
  tokens = e.tokens ++ r.tokens;
  low = max e.low r.low;
  no_higher = omega arith;
  piece = join e.piece r.piece r.begins;
  begins = λ rest f. subst (λ zs. ends zs ≡ true) (sym (append_assoc (before ++ text x) (flat_map (λ t. before ++ t) (map text xs)) rest))
      (e.begins (flat_map (λ t. before ++ t) (map text xs) ++ rest));
  does = λ done k items b ts out d.
      let same : max (max k e.low) r.low ≡ max k (max e.low r.low) = omega arith in
      let is = ap (λ zs. put zs (max (max k e.low) r.low) b) (append_assoc done (x ∷ []) xs) ∙ ap (λ m. put (done ++ x ∷ xs) m b) same in
      regroup e.tokens r.tokens ts (e.does done k items b (r.tokens ++ ts) out (r.does (done ++ x ∷ []) (max k e.low) items b ts out (from is d)));
}

pub elements : {X : Type 0} (place : Place) (put : List X → ℕ → Both → Both) (part : Item) (before : List ℕ) (text : X → List ℕ) (n : ℕ) (xs : List X)
    → Each (Element place put part before text n) xs → Elements place put part before text n xs
elements place put part before text n [] h = none place put part before text n
elements place put part before text n (x ∷ xs) h = more place put part before text n x xs h.0 (elements place put part before text n xs h.1)

-- ---- braces

braces : (texts : List (List ℕ)) → in_braces texts ≡ codes "{" ++ flat_map (λ t. codes " " ++ t) texts ++ codes " }"
braces [] = refl
braces (text ∷ texts) = refl

brace_begins : (texts : List (List ℕ)) (rest : List ℕ) → ends rest ≡ true → ends_mark (flat_map (λ t. codes " " ++ t) texts ++ rest) ≡ true
brace_begins [] rest e = ends_marks rest e
brace_begins (t ∷ texts) rest e = refl

-- elements in braces
pub braced : {X : Type 0} (place : Place) (put : List X → ℕ → Both → Both) (part : Item) (text : X → List ℕ) (n : ℕ) (xs : List X)
    → (r : Elements place put part (codes " ") text n xs) → Piece place ends (in_braces (map text xs)) (marked mark.OpenBrace ∷ (r.tokens ++ marked mark.CloseBrace ∷ []))
braced place put part text n xs r =
    subst (λ t. Piece place ends t (marked mark.OpenBrace ∷ (r.tokens ++ marked mark.CloseBrace ∷ []))) (sym (braces (map text xs)))
    (join (join (one_mark place mark.OpenBrace) r.piece (brace_begins (map text xs))) (join (blank place) (closing_mark place mark.CloseBrace) (λ rest x. refl)) (λ rest x. refl))

pub brace_opens : (texts : List (List ℕ)) (rest : List ℕ) → no_blank (in_braces texts ++ rest) ≡ true
brace_opens [] rest = refl
brace_opens (t ∷ texts) rest = refl

pub braces_open : (texts : List (List ℕ)) → opens (in_braces texts) ≡ true
braces_open [] = refl
braces_open (t ∷ texts) = refl
