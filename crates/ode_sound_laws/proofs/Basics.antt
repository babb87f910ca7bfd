-- What follows from what is found.
use Rattle.std.proofs.Common.{◌≡◌, ℕ, zero, suc, Bool, true, false, cond, List, [], ◌∷◌, Option, Some, None, Result, Ok, Err, refl, sym, ap, ◌∙◌, subst}
use Rattle.std.specs.Prelude.{slice_get}
use Rattle.std.specs.List.{AllByRecursion, AllZip}
use Rattle.std.specs.Option.{IfSome, IsSomeAnd, option_map, option_and_then, ok_or}
use Rattle.ode_value.specs.declared.arithmetic.Fault.{Fault}
use Rattle.ode_value.specs.declared.value.Value.{Value}
use Rattle.ode_value.specs.Masks.{with_value}

pub if_some_at : {X : Type 0} (P : X → Type 0) (o : Option X) → IfSome o P → (x : X) → o ≡ Some x → P x
if_some_at P (Some y) h x e = let same : y ≡ x = cc in subst P same h
if_some_at P None h x e = absurd (cc)

pub if_some_from : {X : Type 0} (P : X → Type 0) (o : Option X) → ((x : X) → o ≡ Some x → P x) → IfSome o P
if_some_from P None f = tt
if_some_from P (Some x) f = f x refl

-- what is there, with what is known of it
pub some_and : {X : Type 0} (P : X → Type 0) (o : Option X) → IsSomeAnd o P → (x : X) × (o ≡ Some x) × P x
some_and P (Some x) h = (x, refl, h)
some_and P None h = absurd h

pub and_some : {X : Type 0} (P : X → Type 0) (o : Option X) (x : X) → o ≡ Some x → P x → IsSomeAnd o P
and_some P (Some y) x e h = let same : y ≡ x = cc in subst P (sym same) h
and_some P None x e h = absurd (cc)

pub then_some : {X Y : Type 0} (f : X → Option Y) (o : Option X) (y : Y) → option_and_then f o ≡ Some y → (x : X) × (o ≡ Some x) × (f x ≡ Some y)
then_some f (Some x) y e = (x, refl, e)
then_some f None y e = absurd (cc)

pub map_some : {X Y : Type 0} (f : X → Y) (o : Option X) (y : Y) → option_map f o ≡ Some y → (x : X) × (o ≡ Some x) × (f x ≡ y)
map_some f (Some x) y e = (x, refl, cc)
map_some f None y e = absurd (cc)

pub so_some : {X : Type 0} (b : Bool) (o : Option X) (x : X) → cond b o None ≡ Some x → (b ≡ true) × (o ≡ Some x)
so_some true o x e = (refl, e)
so_some false o x e = absurd (cc)

pub same_some : {X : Type 0} (x y : X) → Some x ≡ Some y → x ≡ y
same_some x y e = cc

pub same_ok : {X F : Type 0} (x y : X) → ◌≡◌ {A = Result X F} (Ok x) (Ok y) → x ≡ y
same_ok x y e = cc

pub or_ok : {X F : Type 0} (o : Option X) (f : F) (x : X) → ok_or o f ≡ Ok x → o ≡ Some x
or_ok (Some y) f x e = ap Some (same_ok y x e)
or_ok None f x e = absurd (cc)

-- a value, and then what is made of it
pub value_ok : (r : Result Value Fault) (next : Value → Result Value Fault) (u : Value) → with_value r next ≡ Ok u → (v : Value) × (r ≡ Ok v) × (next v ≡ Ok u)
value_ok (Ok v) next u e = (v, refl, e)
value_ok (Err fault) next u e = absurd (cc)

-- two lists, place by place
pub zip_at : {X Y : Type 0} (R : X → Y → Type 0) (xs : List X) (ys : List Y) → AllZip R xs ys → (place : ℕ) (x : X) → slice_get xs place ≡ Some x → (y : Y) × (slice_get ys place ≡ Some y) × R x y
zip_at R [] [] all place x e = absurd (cc)
zip_at R [] (y ∷ ys) all place x e = absurd all
zip_at R (z ∷ xs) [] all place x e = absurd all
zip_at R (z ∷ xs) (y ∷ ys) all zero x e = (y, refl, subst (λ w. R w y) (same_some z x e) all.0)
zip_at R (z ∷ xs) (y ∷ ys) all (suc place) x e = zip_at R xs ys all.1 place x e

pub all_at : {X : Type 0} (P : X → Type 0) (xs : List X) → AllByRecursion P xs → (place : ℕ) (x : X) → slice_get xs place ≡ Some x → P x
all_at P [] all place x e = absurd (cc)
all_at P (y ∷ xs) all zero x e = subst P (same_some y x e) all.0
all_at P (y ∷ xs) all (suc place) x e = all_at P xs all.1 place x e

-- two that can't be told apart by a look-up
pub found_same : {X : Type 0} (o : Option X) (x y : X) → o ≡ Some x → o ≡ Some y → x ≡ y
found_same o x y e f = same_some x y (sym e ∙ f)
