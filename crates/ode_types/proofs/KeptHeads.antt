-- What typing sees of the classes: all but what stands in their bodies.
use Rattle.std.proofs.Common.{◌≡◌, ℕ, List, [], ◌∷◌, ◌++◌, map, reverse, Bool, true, false, cond, Option, Some, None, refl, ap, sym, ◌∙◌, subst}
use Rattle.std.specs.Prelude.{◌&&◌, ◌||◌, ◌==◌, not}
use Rattle.std.specs.List.{find, flat_map, list_all, list_any}
use Rattle.std.specs.Option.{option_and_then, option_map, option_map_or, unwrap_or}
use Rattle.std.specs.Str.{bytes_eq}
use Rattle.std.proofs.lemmas.List.{map-append, reverse-append}
use Rattle.ode_value.specs.declared.binding.Param.{Param}
use Rattle.ode_value.specs.declared.class.Class.{Class}
use Rattle.ode_value.specs.declared.class.Field.{Field}
use Rattle.ode_value.specs.declared.event.EventExpr.TheVariants as event
use Rattle.ode_value.specs.declared.member.Constraint.{Constraint}
use Rattle.ode_value.specs.declared.member.Method.{Method}
use Rattle.ode_value.specs.declared.member.TriggerDecl.{TriggerDecl}
use Rattle.ode_value.specs.declared.statement.Expr.{Expr, roll-Expr, map-Expr, fold-roll-Expr, ind-Expr}
use Rattle.ode_value.specs.declared.statement.Expr.TheOpen as expr
use Rattle.ode_value.specs.declared.statement.Expr.TheVariants as checked
use Rattle.ode_value.specs.declared.statement.Rhs.{Rhs}
use Rattle.ode_value.specs.declared.statement.Rhs.TheVariants as rhs
use Rattle.ode_value.specs.declared.statement.Sort.{Sort}
use Rattle.ode_value.specs.declared.statement.Sort.TheVariants as sort
use Rattle.ode_value.specs.declared.value.Ref.{Ref}
use Rattle.ode_value.specs.declared.value.Value.{Value}
use Rattle.ode_value.specs.declared.value.Value.TheVariants as value
use Rattle.ode_value.specs.Same.{same_ref}
use Rattle.ode_types.specs.Families.{class_named, class_numbered, field_named, is_a, line_of, method_named, trigger_named, upward}
use Rattle.ode_types.specs.Kept.{Setting, Sorting, are_fit, field_sort, is_fit, is_ref, is_right, is_set, receiver_class, right_sort, sort_in, sorting_of}
use Rattle.ode_types.specs.Sorts.{binary_sort, class_of, fits, inherits, is_reference, unary_sort}
use Rattle.ode_types.specs.Typing.{literal_sort, value_sort, where_so}

-- ---- lists and options under a map

find-map : {X Y : Type 0} (f : X → Y) (p : Y → Bool) (xs : List X) → find p (map f xs) ≡ option_map f (find (λ x. p (f x)) xs)
find-map f p [] = refl
find-map f p (x ∷ xs) = by (p (f x)) (find-map f p xs) where
  by : (b : Bool) → find p (map f xs) ≡ option_map f (find (λ y. p (f y)) xs) → cond b (Some (f x)) (find p (map f xs)) ≡ option_map f (cond b (Some x) (find (λ y. p (f y)) xs))
  by true h = refl
  by false h = h

list_any-map : {X Y : Type 0} (f : X → Y) (p : Y → Bool) (xs : List X) → list_any p (map f xs) ≡ list_any (λ x. p (f x)) xs
list_any-map f p [] = refl
list_any-map f p (x ∷ xs) = ap (λ b. p (f x) || b) (list_any-map f p xs)

pub reverse-map : {X Y : Type 0} (f : X → Y) (xs : List X) → reverse (map f xs) ≡ map f (reverse xs)
reverse-map f [] = refl
reverse-map f (x ∷ xs) =
    reverse-append (f x ∷ []) (map f xs) ∙ ap (λ ys. ys ++ f x ∷ []) (reverse-map f xs) ∙ sym (map-append f (reverse xs) (x ∷ []))
    ∙ sym (ap (map f) (reverse-append (x ∷ []) xs))

flat_map-map : {X Y A B : Type 0} (f : X → Y) (g : Y → List B) (h : A → B) (k : X → List A) → ((x : X) → g (f x) ≡ map h (k x)) → (xs : List X) → flat_map g (map f xs) ≡ map h (flat_map k xs)
flat_map-map f g h k same [] = refl
flat_map-map f g h k same (x ∷ xs) =
    ap (λ ys. ys ++ flat_map g (map f xs)) (same x) ∙ ap (λ ys. map h (k x) ++ ys) (flat_map-map f g h k same xs) ∙ sym (map-append h (k x) (flat_map k xs))

pub then-same : {X Y : Type 0} (f g : X → Option Y) → ((x : X) → f x ≡ g x) → (o : Option X) → option_and_then f o ≡ option_and_then g o
then-same f g same None = refl
then-same f g same (Some x) = same x

pub or-same : {X Y : Type 0} (f g : X → Y) (y : Y) → ((x : X) → f x ≡ g x) → (o : Option X) → option_map_or f o y ≡ option_map_or g o y
or-same f g y same None = refl
or-same f g y same (Some x) = same x

pub all-same : {X : Type 0} (p q : X → Bool) → ((x : X) → p x ≡ q x) → (xs : List X) → list_all p xs ≡ list_all q xs
all-same p q same [] = refl
all-same p q same (x ∷ xs) = ap (λ b. b && list_all p xs) (same x) ∙ ap (λ b. q x && b) (all-same p q same xs)

-- ---- heads

-- what is seen of a class from outside its bodies
abbrev pub method_head : Method → Method
method_head m = record m { body = [] }

abbrev pub constraint_head : Constraint → Constraint
constraint_head x = record x { test = checked.This }

abbrev pub trigger_head : TriggerDecl → TriggerDecl
trigger_head t = record t { event = event.Any; action = [] }

abbrev pub head : Class → Class
head c = record c { methods = map method_head c.methods; constraints = map constraint_head c.constraints; triggers = map trigger_head c.triggers }

module _ (cs : List Class) where
  class_named-head : (name : List ℕ) → class_named (map head cs) name ≡ option_map head (class_named cs name)
  class_named-head name = find-map head (λ (c : Class). bytes_eq c.name name) cs

  class_numbered-head : (number : ℕ) → class_numbered (map head cs) number ≡ option_map head (class_numbered cs number)
  class_numbered-head number = find-map head (λ (c : Class). c.number == number) cs

upward-head : (number : ℕ) (cs : List Class) → upward number (map head cs) ≡ map head (upward number cs)
upward-head number [] = refl
upward-head number (c ∷ cs) = by (c.number == number) (upward-head (unwrap_or c.parent 0) cs) (upward-head number cs) where
  by : (b : Bool) → upward (unwrap_or c.parent 0) (map head cs) ≡ map head (upward (unwrap_or c.parent 0) cs) → upward number (map head cs) ≡ map head (upward number cs)
      → cond b (head c ∷ upward (unwrap_or c.parent 0) (map head cs)) (upward number (map head cs)) ≡ map head (cond b (c ∷ upward (unwrap_or c.parent 0) cs) (upward number cs))
  by true here past = ap (λ ds. head c ∷ ds) here
  by false here past = past

pub line_of-head : (cs : List Class) (c : Class) → line_of (map head cs) (head c) ≡ map head (line_of cs c)
line_of-head cs c = ap (λ ds. head c ∷ upward (unwrap_or c.parent 0) ds) (reverse-map head cs) ∙ ap (λ ds. head c ∷ ds) (upward-head (unwrap_or c.parent 0) (reverse cs))

pub method_named-head : (line : List Class) (name : List ℕ) → method_named (map head line) name ≡ option_map method_head (method_named line name)
method_named-head line name =
    ap (find (λ (m : Method). bytes_eq m.name name)) (flat_map-map head (λ (c : Class). c.methods) method_head (λ (c : Class). c.methods) (λ c. refl) line)
    ∙ find-map method_head (λ (m : Method). bytes_eq m.name name) (flat_map (λ (c : Class). c.methods) line)

trigger_named-head : (line : List Class) (name : List ℕ) → trigger_named (map head line) name ≡ option_map trigger_head (trigger_named line name)
trigger_named-head line name =
    ap (find (λ (t : TriggerDecl). bytes_eq t.name name)) (flat_map-map head (λ (c : Class). c.triggers) trigger_head (λ (c : Class). c.triggers) (λ c. refl) line)
    ∙ find-map trigger_head (λ (t : TriggerDecl). bytes_eq t.name name) (flat_map (λ (c : Class). c.triggers) line)

is_a-head : (cs : List Class) (c : Class) (name : List ℕ) → is_a (map head cs) (head c) name ≡ is_a cs c name
is_a-head cs c name = ap (list_any (λ (d : Class). bytes_eq d.name name)) (line_of-head cs c) ∙ list_any-map head (λ (d : Class). bytes_eq d.name name) (line_of cs c)

inherits-head : (cs : List Class) (sub name : List ℕ) → inherits (map head cs) sub name ≡ inherits cs sub name
inherits-head cs sub name =
    ap (λ (o : Option Class). option_map_or (λ (c : Class). is_a (map head cs) c name) o false) (class_named-head cs sub) ∙ by (class_named cs sub)
  where
    by : (o : Option Class) → option_map_or (λ (c : Class). is_a (map head cs) c name) (option_map head o) false ≡ option_map_or (λ (c : Class). is_a cs c name) o false
    by None = refl
    by (Some c) = is_a-head cs c name

pub fits-head : (cs : List Class) (t : Option Sort) (s : Sort) → fits (map head cs) t s ≡ fits cs t s
fits-head cs (Some (sort.Reference sub)) (sort.Reference name) = inherits-head cs sub name
fits-head cs None sort.Int = refl
fits-head cs None sort.Bool = refl
fits-head cs None sort.Text = refl
fits-head cs None sort.Void = refl
fits-head cs None (sort.Reference name) = refl
fits-head cs (Some sort.Int) sort.Int = refl
fits-head cs (Some sort.Int) sort.Bool = refl
fits-head cs (Some sort.Int) sort.Text = refl
fits-head cs (Some sort.Int) sort.Void = refl
fits-head cs (Some sort.Int) (sort.Reference name) = refl
fits-head cs (Some sort.Bool) s = refl
fits-head cs (Some sort.Text) s = refl
fits-head cs (Some sort.Void) s = refl
fits-head cs (Some (sort.Reference sub)) s = refl

class_of-head : (cs : List Class) (s : Option Sort) → class_of (map head cs) s ≡ option_map head (class_of cs s)
class_of-head cs None = refl
class_of-head cs (Some (sort.Reference name)) = class_named-head cs name
class_of-head cs (Some sort.Int) = refl
class_of-head cs (Some sort.Bool) = refl
class_of-head cs (Some sort.Text) = refl
class_of-head cs (Some sort.Void) = refl

field_sort-head : (c : Option Class) (place : ℕ) → field_sort (option_map head c) place ≡ field_sort c place
field_sort-head None place = refl
field_sort-head (Some c) place = refl

name_of-head : (c : Option Class) → option_map (λ (d : Class). Some (sort.Reference d.name)) (option_map head c) ≡ option_map (λ (d : Class). Some (sort.Reference d.name)) c
name_of-head None = refl
name_of-head (Some c) = refl

literal_sort-head : (cs : List Class) (literals : List (Ref × ℕ)) (r : Ref) → literal_sort (map head cs) literals r ≡ literal_sort cs literals r
literal_sort-head cs literals r = by (option_map (λ (l : Ref × ℕ). l.1) (find (λ (l : Ref × ℕ). same_ref l.0 r) literals)) where
  by : (n : Option ℕ) → option_map (λ (d : Class). Some (sort.Reference d.name)) (option_and_then (class_numbered (map head cs)) n) ≡ option_map (λ (d : Class). Some (sort.Reference d.name)) (option_and_then (class_numbered cs) n)
  by None = refl
  by (Some n) = ap (option_map (λ (d : Class). Some (sort.Reference d.name))) (class_numbered-head cs n) ∙ name_of-head (class_numbered cs n)

value_sort-head : (cs : List Class) (literals : List (Ref × ℕ)) (v : Value) → value_sort (map head cs) literals v ≡ value_sort cs literals v
value_sort-head cs literals (value.Int n) = refl
value_sort-head cs literals (value.Bool b) = refl
value_sort-head cs literals (value.Text t) = refl
value_sort-head cs literals (value.Reference r) = ap (cond (r.object == 0) _) (literal_sort-head cs literals r)

-- ---- a setting by heads alone

abbrev pub bare : Setting → Setting
bare at = record at { classes = map head at.classes; class = option_map head at.class }

-- what an induction shows of an expression
abbrev Sees : Expr → Type 0
Sees e = (at : Setting) → sort_in e (bare at) ≡ sort_in e at

abbrev Known : Type 0
Known = (e : Expr) × Sees e

abbrev expr_of : Known → Expr
expr_of x = x.0

level-bare : (y : expr.Expr-F Known) (at : Setting) → sorting_of (map-Expr Expr Sorting sort_in (map-Expr Known Expr expr_of y)) (bare at) ≡ sorting_of (map-Expr Expr Sorting sort_in (map-Expr Known Expr expr_of y)) at
level-bare (expr.Lit v) at = value_sort-head at.classes at.literals v
level-bare (expr.Name name) at = refl
level-bare (expr.Local place) at = refl
level-bare (expr.Own place) at = field_sort-head at.class place
level-bare expr.This at = ap (where_so (not at.is_plain)) (name_of-head at.class)
level-bare (expr.Field e name) at = refl
level-bare (expr.Slot e place) at =
    ap (λ o. where_so (not at.is_plain) (option_and_then (λ s. field_sort (class_of (map head at.classes) s) place) o)) (e.1 at)
    ∙ ap (where_so (not at.is_plain))
    (then-same (λ s. field_sort (class_of (map head at.classes) s) place) (λ s. field_sort (class_of at.classes s) place)
    (λ s. ap (λ (c : Option Class). field_sort c place) (class_of-head at.classes s) ∙ field_sort-head (class_of at.classes s) place) (sort_in e.0 at))
level-bare (expr.Version e) at = ap (λ o. where_so (not at.is_plain) (option_and_then (λ s. where_so (is_reference s) (Some s)) o)) (e.1 at)
level-bare (expr.Unary op e) at = ap (option_and_then (λ s. option_map (λ t. Some t) (unary_sort op s))) (e.1 at)
level-bare (expr.Binary op e f) at =
    ap (option_and_then (λ s. option_and_then (λ t. option_map (λ u. Some u) (binary_sort at.is_plain op s t)) (sort_in f.0 (bare at)))) (e.1 at)
    ∙ ap (λ o. option_and_then (λ s. option_and_then (λ t. option_map (λ u. Some u) (binary_sort at.is_plain op s t)) o) (sort_in e.0 at)) (f.1 at)

sort_in-roll : (d : expr.Expr-F Expr) → sort_in (roll-Expr d) ≡ sorting_of (map-Expr Expr Sorting sort_in d)
unfolding sort_in
sort_in-roll d = fold-roll-Expr Sorting sorting_of d

pub sort_in-bare : (e : Expr) → Sees e
sort_in-bare = ind-Expr Sees (λ x y q. subst (λ d. Sees (roll-Expr d)) q (here y)) where
  here : (y : expr.Expr-F Known) → Sees (roll-Expr (map-Expr Known Expr expr_of y))
  here y at =
      let d = map-Expr Known Expr expr_of y in
      ap (λ (s : Sorting). s (bare at)) (sort_in-roll d) ∙ level-bare y at ∙ sym (ap (λ (s : Sorting). s at) (sort_in-roll d))

-- ---- right sides

module _ (at : Setting) where
  pub is_fit-bare : (s : Sort) (e : Expr) → is_fit (bare at) s e ≡ is_fit at s e
  is_fit-bare s e =
      ap (λ o. option_map_or (λ t. fits (map head at.classes) t s) o false) (sort_in-bare e at)
      ∙ or-same (λ t. fits (map head at.classes) t s) (λ t. fits at.classes t s) false (λ t. fits-head at.classes t s) (sort_in e at)

  pub is_ref-bare : (e : Expr) → is_ref (bare at) e ≡ is_ref at e
  is_ref-bare e = ap (λ o. option_map_or is_reference o false) (sort_in-bare e at)

  are_fit-bare : (params : List Param) (es : List Expr) → are_fit (bare at) params es ≡ are_fit at params es
  are_fit-bare [] [] = refl
  are_fit-bare [] (e ∷ es) = refl
  are_fit-bare (p ∷ ps) [] = refl
  are_fit-bare (p ∷ ps) (e ∷ es) = ap (λ b. b && are_fit (bare at) ps es) (is_fit-bare p.sort e) ∙ ap (λ b. is_fit at p.sort e && b) (are_fit-bare ps es)

  receiver_class-bare : (of : Option Expr) → receiver_class (bare at) of ≡ option_map head (receiver_class at of)
  receiver_class-bare None = refl
  receiver_class-bare (Some e) = ap (option_and_then (class_of (map head at.classes))) (sort_in-bare e at) ∙ by (sort_in e at) where
    by : (o : Option (Option Sort)) → option_and_then (class_of (map head at.classes)) o ≡ option_map head (option_and_then (class_of at.classes) o)
    by None = refl
    by (Some s) = class_of-head at.classes s

  called-bare : (name : List ℕ) (c : Option Class) → option_and_then (λ (d : Class). method_named (line_of (map head at.classes) d) name) (option_map head c) ≡ option_map method_head (option_and_then (λ (d : Class). method_named (line_of at.classes d) name) c)
  called-bare name None = refl
  called-bare name (Some c) = ap (λ (l : List Class). method_named l name) (line_of-head at.classes c) ∙ method_named-head (line_of at.classes c) name

  triggered-bare : (name : List ℕ) (c : Option Class) → option_and_then (λ (d : Class). trigger_named (line_of (map head at.classes) d) name) (option_map head c) ≡ option_map trigger_head (option_and_then (λ (d : Class). trigger_named (line_of at.classes d) name) c)
  triggered-bare name None = refl
  triggered-bare name (Some c) = ap (λ (l : List Class). trigger_named l name) (line_of-head at.classes c) ∙ trigger_named-head (line_of at.classes c) name

  is_set-bare : (c : Class) (set : List ℕ × Expr) → is_set (bare at) (head c) set ≡ is_set at c set
  is_set-bare c set = or-same (λ (f : ℕ × Field). is_fit (bare at) f.1.sort set.1) (λ (f : ℕ × Field). is_fit at f.1.sort set.1) false (λ f. is_fit-bare f.1.sort set.1) (field_named c.fields set.0)

  pub right_sort-bare : (r : Rhs) → right_sort (bare at) r ≡ right_sort at r
  right_sort-bare (rhs.Plain e) = sort_in-bare e at
  right_sort-bare (rhs.Call c) =
      ap (λ o. option_and_then (λ (m : Method). where_so (are_fit (bare at) m.params c.args) (Some (Some m.result))) (option_and_then (λ (d : Class). method_named (line_of (map head at.classes) d) c.method) o)) (receiver_class-bare c.of)
      ∙ ap (option_and_then (λ (m : Method). where_so (are_fit (bare at) m.params c.args) (Some (Some m.result)))) (called-bare c.method (receiver_class at c.of))
      ∙ by (option_and_then (λ (d : Class). method_named (line_of at.classes d) c.method) (receiver_class at c.of))
    where
      by : (o : Option Method) → option_and_then (λ (m : Method). where_so (are_fit (bare at) m.params c.args) (Some (Some m.result))) (option_map method_head o) ≡ option_and_then (λ (m : Method). where_so (are_fit at m.params c.args) (Some (Some m.result))) o
      by None = refl
      by (Some m) = ap (λ b. where_so b (Some (Some m.result))) (are_fit-bare m.params c.args)
  right_sort-bare (rhs.New class sets) =
      ap (option_and_then (λ (c : Class). where_so (list_all (is_set (bare at) c) sets) (Some (Some (sort.Reference class))))) (class_named-head at.classes class) ∙ by (class_named at.classes class)
    where
      by : (o : Option Class) → option_and_then (λ (c : Class). where_so (list_all (is_set (bare at) c) sets) (Some (Some (sort.Reference class)))) (option_map head o) ≡ option_and_then (λ (c : Class). where_so (list_all (is_set at c) sets) (Some (Some (sort.Reference class)))) o
      by None = refl
      by (Some c) = ap (λ b. where_so b (Some (Some (sort.Reference class)))) (all-same (is_set (bare at) (head c)) (is_set at c) (is_set-bare c) sets)
  right_sort-bare (rhs.NewVersion e) = ap (λ b. where_so b (sort_in e (bare at))) (is_ref-bare e) ∙ ap (where_so (is_ref at e)) (sort_in-bare e at)
  right_sort-bare (rhs.Activate e trigger args) =
      ap (λ o. option_and_then (λ (t : TriggerDecl). where_so (are_fit (bare at) t.params args) (Some (Some sort.Int))) (option_and_then (λ (d : Class). trigger_named (line_of (map head at.classes) d) trigger) o)) (receiver_class-bare (Some e))
      ∙ ap (option_and_then (λ (t : TriggerDecl). where_so (are_fit (bare at) t.params args) (Some (Some sort.Int)))) (triggered-bare trigger (receiver_class at (Some e)))
      ∙ by (option_and_then (λ (d : Class). trigger_named (line_of at.classes d) trigger) (receiver_class at (Some e)))
    where
      by : (o : Option TriggerDecl) → option_and_then (λ (t : TriggerDecl). where_so (are_fit (bare at) t.params args) (Some (Some sort.Int))) (option_map trigger_head o) ≡ option_and_then (λ (t : TriggerDecl). where_so (are_fit at t.params args) (Some (Some sort.Int))) o
      by None = refl
      by (Some t) = ap (λ b. where_so b (Some (Some sort.Int))) (are_fit-bare t.params args)

  pub is_right-bare : (s : Sort) (r : Rhs) → is_right (bare at) s r ≡ is_right at s r
  is_right-bare s r =
      ap (λ o. option_map_or (λ t. fits (map head at.classes) t s) o false) (right_sort-bare r)
      ∙ or-same (λ t. fits (map head at.classes) t s) (λ t. fits at.classes t s) false (λ t. fits-head at.classes t s) (right_sort at r)

pub ruleset heads_keep = (right_sort-bare)
