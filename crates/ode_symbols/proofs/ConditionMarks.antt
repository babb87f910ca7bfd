-- The mark of a symbol, of conditions that are among those of the alphabet's expression.
use Rattle.std.proofs.Common.{◌≡◌, ℕ, Bool, true, List, [], ◌∷◌, ◌++◌, map, Ok, Err, Result, refl, ap, sym, ◌∙◌}
use Rattle.std.specs.Prelude.{◌&&◌, IfOk}
use Rattle.std.specs.List.{list_all}
use Rattle.std.specs.declared.alloc.AllocError.{AllocError}
use Rattle.std.proofs.lemmas.Bool.{and_parts}
use Rattle.ode_value.specs.declared.event.EventExpr.{EventExpr}
use Rattle.ode_value.specs.Marks.{Condition, Leaf, OfEvent, OfLeaf, among, composite_masks, conditions, leaves, spelled}
use Rattle.ode_value.specs.Symbols.{Alphabet, alphabet, mark_among, symbol_mark}
use Rattle.ode_symbols.specs.Alphabets.{are_conditions_of}

told : (of : EventExpr) (s : ℕ) (c : Condition) → among (conditions of) c ≡ true → mark_among (alphabet of) s c ≡ symbol_mark of s c
told of s c h = sym (ap (λ b. b && mark_among (alphabet of) s c) h)

told-each : {A : Type 0} (of : EventExpr) (s : ℕ) (f : A → Condition) (xs : List A) → list_all (λ x. among (conditions of) (f x)) xs ≡ true
    → map (λ x. mark_among (alphabet of) s (f x)) xs ≡ map (λ x. symbol_mark of s (f x)) xs
told-each of s f [] h = refl
told-each of s f (x ∷ xs) h =
    let both = and_parts (among (conditions of) (f x)) (list_all (λ y. among (conditions of) (f y)) xs) h in
    λ i. told of s (f x) both.0 i ∷ told-each of s f xs both.1 i

pub spelled-mark : (e of : EventExpr) (s : ℕ) (a : Alphabet) → a ≡ alphabet of → are_conditions_of e of ≡ true → spelled e (mark_among a s) ≡ spelled e (symbol_mark of s)
spelled-mark e of s a p h =
    let both = and_parts (list_all (λ (l : Leaf). among (conditions of) (OfLeaf l.0 l.1)) (leaves e)) (list_all (λ x. among (conditions of) (OfEvent x)) (composite_masks e)) h in
    ap (λ r. spelled e (mark_among r s)) p
    ∙ (λ i. told-each of s (λ (l : Leaf). OfLeaf l.0 l.1) (leaves e) both.0 i ++ told-each of s (λ x. OfEvent x) (composite_masks e) both.1 i)

-- a list that is right by an alphabet is right by the expression that it is of
pub by-expression : (r : Result (List Bool) AllocError) (e : EventExpr) (a : Alphabet) (s : ℕ) → IfOk r (λ mark. mark ≡ spelled e (mark_among a s))
    → IfOk r (λ mark. (of : EventExpr) → a ≡ alphabet of → are_conditions_of e of ≡ true → mark ≡ spelled e (symbol_mark of s))
by-expression (Ok mark) e a s h = λ of p q. h ∙ spelled-mark e of s a p q
by-expression (Err x) e a s h = tt
