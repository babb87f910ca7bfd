-- Lists in order.
use Rattle.std.specs.Ordering.{is_lt}
use Rattle.std.specs.Prelude.{List, [], ◌∷◌, Bool, cond}
use Rattle.ode_value.specs.declared.value.Value.{Value}
use Rattle.ode_index.specs.Order.{values_cmp}

-- before the first that isn't less, so that those that tie stay as they stood
abbrev pub put_sorted : {X : Type 0} → (X → X → Bool) → X → List X → List X
put_sorted lt x [] = x ∷ []
put_sorted lt x (y ∷ ys) = cond (lt y x) (y ∷ put_sorted lt x ys) (x ∷ y ∷ ys)

unfoldable pub sorted_by : {X : Type 0} → (X → X → Bool) → List X → List X
sorted_by lt [] = []
sorted_by lt (x ∷ xs) = put_sorted lt x (sorted_by lt xs)

-- rows by the values in front of them
abbrev pub row_less : {X : Type 0} → List Value × X → List Value × X → Bool
row_less row next = is_lt (values_cmp row.0 next.0)

abbrev pub sorted : {X : Type 0} → List (List Value × X) → List (List Value × X)
sorted rows = sorted_by row_less rows
