-- What a record doesn't have of a version comes back as literals.
use Rattle.std.proofs.Common.{◌≡◌, ◌≤◌, ℕ, ◌+◌, List, [], ◌∷◌, ◌++◌, length, fold, Bool, true, false, cond, Some, Option, refl, sym, ap, ◌∙◌, append_assoc, arith}
use Rattle.std.specs.Prelude.{nat_lt, ◌||◌}
use Rattle.std.specs.List.{enumerate_from, insert}
use Rattle.std.specs.Option.{option_map_or}
use Rattle.std.proofs.lemmas.Bool.Decides.{nat_tests}
use Rattle.std.proofs.lemmas.List.{length-append}
use Rattle.std.proofs.lemmas.List.Edits.{insert-append_left, insert_end}
use Rattle.ode_value.specs.Fields.{HasLiterals, born_values, is_born}
use Rattle.ode_value.specs.declared.class.Field.{Field}
use Rattle.ode_value.specs.declared.value.Value.{Value}
use Rattle.ode_heap.specs.Looking.{literal_put, with_literals}

up_to : (n : ℕ) → n ≤ n
up_to n = omega arith

insert_between : (done rest : List Value) (v : Value) → insert (done ++ rest) (length done) v ≡ done ++ v ∷ rest
insert_between done rest v =
    insert-append_left done rest (length done) v (up_to (length done)) ∙ ap (λ (us : List Value). us ++ rest) (insert_end done v) ∙ append_assoc done (v ∷ []) rest

not_shorter : (done rest : List Value) → nat_lt (length (done ++ rest)) (length done) ≡ false
not_shorter done rest = let long : length (done ++ rest) ≡ length done + length rest = length-append done rest in grind (arith, nat_tests)

-- a field's value is there, or its literal is put at its place
put_back : (done rest : List Value) (f : Field) (v : Value) (b : Bool) → cond b (Unit {0}) (f.literal ≡ Some v)
    → cond (b || nat_lt (length (done ++ cond b (v ∷ rest) rest)) (length done)) (done ++ cond b (v ∷ rest) rest)
    (option_map_or (insert (done ++ cond b (v ∷ rest) rest) (length done)) f.literal (done ++ cond b (v ∷ rest) rest)) ≡ done ++ v ∷ rest
put_back done rest f v true is = refl
put_back done rest f v false is =
    ap (λ b. cond b (done ++ rest) (option_map_or (insert (done ++ rest) (length done)) f.literal (done ++ rest))) (not_shorter done rest)
    ∙ ap (λ (o : Option Value). option_map_or (insert (done ++ rest) (length done)) o (done ++ rest)) is ∙ insert_between done rest v

all_back : (stamp : ℕ) (done : List Value) (fs : List Field) (vs : List Value) → HasLiterals stamp fs vs
    → fold (literal_put stamp) (done ++ born_values stamp fs vs) (enumerate_from (length done) fs) ≡ done ++ vs
all_back stamp done [] [] all = refl
all_back stamp done [] (v ∷ vs) all = absurd all
all_back stamp done (f ∷ fs) [] all = absurd all
all_back stamp done (f ∷ fs) (v ∷ vs) all =
    ap (λ (us : List Value). fold (literal_put stamp) us (enumerate_from (length done + 1) fs))
    (put_back done (born_values stamp fs vs) f v (is_born stamp f) all.0 ∙ sym (append_assoc done (v ∷ []) (born_values stamp fs vs)))
    ∙ ap (λ n. fold (literal_put stamp) ((done ++ v ∷ []) ++ born_values stamp fs vs) (enumerate_from n fs)) (sym (length-append done (v ∷ [])))
    ∙ all_back stamp (done ++ v ∷ []) fs vs all.1 ∙ append_assoc done (v ∷ []) vs

pub literals_back : (stamp : ℕ) (fs : List Field) (vs : List Value) → HasLiterals stamp fs vs → with_literals stamp fs (born_values stamp fs vs) ≡ vs
unfolding with_literals
literals_back stamp fs vs all = all_back stamp [] fs vs all
