-- What stands on a stack, whose first element is on top.
use Rattle.std.specs.Prelude.{List, [], ◌∷◌}

-- the element on top, or this one where the stack is empty; and the others
abbrev pub top : {A : Type 0} → A → List A → A
top none [] = none
top none (x ∷ xs) = x

abbrev pub rest : {A : Type 0} → List A → List A
rest [] = []
rest (x ∷ xs) = xs
