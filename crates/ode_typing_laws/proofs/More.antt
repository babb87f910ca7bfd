-- What is typed stays typed behind one more class.
use Rattle.std.proofs.Common.{◌≡◌, ◌≤◌, ◌<◌, ℕ, ◌+◌, List, [], ◌∷◌, ◌++◌, map, reverse, Bool, true, false, cond, Option, Some, None, refl, ap, sym, ◌∙◌, subst, arith}
use Rattle.std.specs.Prelude.{◌&&◌, ◌==◌, not, is_none, is_some, slice_get}
use Rattle.std.specs.List.{AllByRecursion, find, list_all, list_any}
use Rattle.std.specs.Option.{option_and_then, option_map, option_map_or, option_or, unwrap_or}
use Rattle.std.specs.Str.{bytes_eq}
use Rattle.std.proofs.lemmas.List.{reverse-append}
use Rattle.std.proofs.lemmas.List.Folds.{find-append}
use Rattle.std.proofs.lemmas.Bool.Decides.{Decides-eqb}
use Rattle.ode_value.specs.declared.binding.Param.{Param}
use Rattle.ode_value.specs.declared.binding.Var.TheVariants as var
use Rattle.ode_value.specs.declared.class.Class.{Class}
use Rattle.ode_value.specs.declared.class.Field.{Field}
use Rattle.ode_value.specs.declared.member.Method.{Method}
use Rattle.ode_value.specs.declared.member.TriggerDecl.{TriggerDecl}
use Rattle.ode_value.specs.declared.statement.Expr.{Expr, roll-Expr, map-Expr, fold-roll-Expr, ind-Expr}
use Rattle.ode_value.specs.declared.statement.Expr.TheOpen as expr
use Rattle.ode_value.specs.declared.statement.Rhs.{Rhs}
use Rattle.ode_value.specs.declared.statement.Rhs.TheVariants as rhs
use Rattle.ode_value.specs.declared.statement.Sort.{Sort}
use Rattle.ode_value.specs.declared.statement.Sort.TheVariants as sort
use Rattle.ode_value.specs.declared.value.Ref.{Ref}
use Rattle.ode_value.specs.declared.value.Value.{Value}
use Rattle.ode_value.specs.declared.value.Value.TheVariants as value
use Rattle.ode_value.specs.Same.{same_ref}
use Rattle.ode_types.specs.Families.{class_named, class_numbered, field_named, is_a, line_of, method_named, trigger_named, upward}
use Rattle.ode_types.specs.Kept.{Setting, Sorting, are_fit, field_sort, is_fit, is_ref, is_right, is_set, receiver_class, right_sort, sort_in, sorting_of}
use Rattle.ode_types.specs.Sorts.{binary_sort, class_of, fits, inherits, is_reference, unary_sort}
use Rattle.ode_types.specs.Typing.{literal_sort, value_sort, where_so}

-- ---- what is found stays found, and what holds still holds

-- what one gives, the other gives
abbrev pub Stays : {X : Type 0} → Option X → Option X → Type 0
Stays {X} o p = (x : X) → o ≡ Some x → p ≡ Some x

abbrev pub Implies : Bool → Bool → Type 0
Implies b c = b ≡ true → c ≡ true

pub stays-same : {X : Type 0} (o : Option X) → Stays o o
stays-same o x h = h

pub then-stays : {X Y : Type 0} (f g : X → Option Y) (o p : Option X) → Stays o p → ((x : X) → Stays (f x) (g x)) → Stays (option_and_then f o) (option_and_then g p)
then-stays f g None p found next y h = absurd (cc)
then-stays f g (Some x) p found next y h = ap (option_and_then g) (found x refl) ∙ next x y h

pub map-stays : {X Y : Type 0} (f : X → Y) (o p : Option X) → Stays o p → Stays (option_map f o) (option_map f p)
map-stays f None p found y h = absurd (cc)
map-stays f (Some x) p found y h = ap (option_map f) (found x refl) ∙ h

pub where-stays : {X : Type 0} (b c : Bool) (o p : Option X) → Implies b c → Stays o p → Stays (where_so b o) (where_so c p)
where-stays false c o p holds found x h = absurd (cc)
where-stays true c o p holds found x h = ap (λ d. where_so d p) (holds refl) ∙ found x h

pub or-implies : {X : Type 0} (f g : X → Bool) (o p : Option X) → Stays o p → ((x : X) → Implies (f x) (g x)) → Implies (option_map_or f o false) (option_map_or g p false)
or-implies f g None p found next h = absurd (cc)
or-implies f g (Some x) p found next h = ap (λ q. option_map_or g q false) (found x refl) ∙ next x h

pub some-implies : {X : Type 0} (o p : Option X) → Stays o p → Implies (is_some o) (is_some p)
some-implies None p found h = absurd (cc)
some-implies (Some x) p found h = ap is_some (found x refl)

pub and-implies : (a b c d : Bool) → Implies a c → Implies b d → Implies (a && b) (c && d)
and-implies false b c d one two h = absurd (cc)
and-implies true b c d one two h = ap (λ x. x && d) (one refl) ∙ two h

pub all-implies : {X : Type 0} (p q : X → Bool) → ((x : X) → Implies (p x) (q x)) → (xs : List X) → Implies (list_all p xs) (list_all q xs)
all-implies p q each [] h = refl
all-implies p q each (x ∷ xs) h = and-implies (p x) (list_all p xs) (q x) (list_all q xs) (each x) (all-implies p q each xs) h

pub find_in : {X : Type 0} (P : X → Type 0) (p : X → Bool) (xs : List X) → AllByRecursion P xs → (x : X) → find p xs ≡ Some x → P x
find_in P p [] all x is = absurd (cc)
find_in P p (y ∷ ys) all x is = by_test (p y) is (λ e. find_in P p ys all.1 x e) where
  by_test : (b : Bool) → cond b (Some y) (find p ys) ≡ Some x → (find p ys ≡ Some x → P x) → P x
  by_test true e rest = let same : y ≡ x = cc in subst P same all.0
  by_test false e rest = rest e

-- ---- one more class

-- no class of the list is below the class of this number
abbrev pub IsNotBelow : ℕ → Class → Type 0
IsNotBelow number c = unwrap_or c.parent 0 ≡ number → ⊥

module _ (cs : List Class) (d : Class) (above : AllByRecursion (IsNotBelow d.number) cs) where
  -- the classes with the new one behind them
  abbrev pub more : List Class
  more = cs ++ d ∷ []

  found-stays : (p : Class → Bool) → Stays (find p cs) (find p more)
  found-stays p c h = find-append p cs (d ∷ []) ∙ ap (λ o. option_or o (find p (d ∷ []))) h

  class_named-stays : (name : List ℕ) → Stays (class_named cs name) (class_named more name)
  class_named-stays name = found-stays (λ (c : Class). bytes_eq c.name name)

  class_numbered-stays : (number : ℕ) → Stays (class_numbered cs number) (class_numbered more number)
  class_numbered-stays number = found-stays (λ (c : Class). c.number == number)

  pub line_of-more : (c : Class) → IsNotBelow d.number c → line_of more c ≡ line_of cs c
  line_of-more c other = ap (λ (l : List Class). c ∷ l) (ap (upward (unwrap_or c.parent 0)) (reverse-append cs (d ∷ [])) ∙ by (d.number == unwrap_or c.parent 0) refl) where
    by : (b : Bool) → (d.number == unwrap_or c.parent 0) ≡ b
        → cond b (d ∷ upward (unwrap_or d.parent 0) (reverse cs)) (upward (unwrap_or c.parent 0) (reverse cs)) ≡ upward (unwrap_or c.parent 0) (reverse cs)
    by true h = absurd (other (sym ((Decides-eqb d.number (unwrap_or c.parent 0)).0 h)))
    by false h = refl

  -- a class that is named is not below the new one
  named_above : (name : List ℕ) (c : Class) → class_named cs name ≡ Some c → IsNotBelow d.number c
  named_above name = find_in (IsNotBelow d.number) (λ (c : Class). bytes_eq c.name name) cs above

  inherits-implies : (sub name : List ℕ) → Implies (inherits cs sub name) (inherits more sub name)
  inherits-implies sub name h = by (class_named cs sub) refl h where
    by : (o : Option Class) → class_named cs sub ≡ o → option_map_or (λ (c : Class). is_a cs c name) o false ≡ true → inherits more sub name ≡ true
    by None is so = absurd (cc)
    by (Some c) is so =
        ap (λ (o : Option Class). option_map_or (λ (e : Class). is_a more e name) o false) (class_named-stays sub c is)
        ∙ ap (list_any (λ (e : Class). bytes_eq e.name name)) (line_of-more c (named_above sub c is)) ∙ so

  pub fits-implies : (t : Option Sort) (s : Sort) → Implies (fits cs t s) (fits more t s)
  fits-implies (Some (sort.Reference sub)) (sort.Reference name) h = inherits-implies sub name h
  fits-implies None sort.Int h = h
  fits-implies None sort.Bool h = h
  fits-implies None sort.Text h = h
  fits-implies None sort.Void h = h
  fits-implies None (sort.Reference name) h = h
  fits-implies (Some sort.Int) sort.Int h = h
  fits-implies (Some sort.Int) sort.Bool h = h
  fits-implies (Some sort.Int) sort.Text h = h
  fits-implies (Some sort.Int) sort.Void h = h
  fits-implies (Some sort.Int) (sort.Reference name) h = h
  fits-implies (Some sort.Bool) s h = h
  fits-implies (Some sort.Text) s h = h
  fits-implies (Some sort.Void) s h = h
  fits-implies (Some (sort.Reference sub)) s h = h

  class_of-stays : (s : Option Sort) → Stays (class_of cs s) (class_of more s)
  class_of-stays None c h = h
  class_of-stays (Some (sort.Reference name)) c h = class_named-stays name c h
  class_of-stays (Some sort.Int) c h = h
  class_of-stays (Some sort.Bool) c h = h
  class_of-stays (Some sort.Text) c h = h
  class_of-stays (Some sort.Void) c h = h

  class_of_above : (s : Option Sort) (c : Class) → class_of cs s ≡ Some c → IsNotBelow d.number c
  class_of_above None c h = absurd (cc)
  class_of_above (Some (sort.Reference name)) c h = named_above name c h
  class_of_above (Some sort.Int) c h = absurd (cc)
  class_of_above (Some sort.Bool) c h = absurd (cc)
  class_of_above (Some sort.Text) c h = absurd (cc)
  class_of_above (Some sort.Void) c h = absurd (cc)

  field_sort-stays : (c e : Option Class) → Stays c e → (place : ℕ) → Stays (field_sort c place) (field_sort e place)
  field_sort-stays c e found place =
      map-stays (λ (f : Field). Some f.sort) (option_and_then (λ (x : Class). slice_get x.fields place) c) (option_and_then (λ (x : Class). slice_get x.fields place) e)
      (then-stays (λ (x : Class). slice_get x.fields place) (λ (x : Class). slice_get x.fields place) c e found (λ x. stays-same (slice_get x.fields place)))

  literal_sort-stays : (literals : List (Ref × ℕ)) (r : Ref) → Stays (literal_sort cs literals r) (literal_sort more literals r)
  literal_sort-stays literals r =
      let numbers = option_map (λ (l : Ref × ℕ). l.1) (find (λ (l : Ref × ℕ). same_ref l.0 r) literals) in
      map-stays (λ (c : Class). Some (sort.Reference c.name)) (option_and_then (class_numbered cs) numbers) (option_and_then (class_numbered more) numbers)
      (then-stays (class_numbered cs) (class_numbered more) numbers numbers (stays-same numbers) class_numbered-stays)

  value_sort-stays : (literals : List (Ref × ℕ)) (v : Value) → Stays (value_sort cs literals v) (value_sort more literals v)
  value_sort-stays literals (value.Int n) s h = h
  value_sort-stays literals (value.Bool b) s h = h
  value_sort-stays literals (value.Text t) s h = h
  value_sort-stays literals (value.Reference r) s h = by (r.object == 0) h where
    by : (b : Bool) → cond b (where_so (is_none r.version) (Some None)) (literal_sort cs literals r) ≡ Some s → cond b (where_so (is_none r.version) (Some None)) (literal_sort more literals r) ≡ Some s
    by true so = so
    by false so = literal_sort-stays literals r s so

  -- ---- settings with these classes, and with one more

  abbrev pub old : Setting → Setting
  old at = record at { classes = cs }

  abbrev pub new : Setting → Setting
  new at = record at { classes = more }

  -- what an induction shows of an expression
  abbrev StaysIn : Expr → Type 0
  StaysIn e = (at : Setting) → Stays (sort_in e (old at)) (sort_in e (new at))

  abbrev Known : Type 0
  Known = (e : Expr) × StaysIn e

  abbrev expr_of : Known → Expr
  expr_of x = x.0

  level-stays : (y : expr.Expr-F Known) (at : Setting)
      → Stays (sorting_of (map-Expr Expr Sorting sort_in (map-Expr Known Expr expr_of y)) (old at)) (sorting_of (map-Expr Expr Sorting sort_in (map-Expr Known Expr expr_of y)) (new at))
  level-stays (expr.Lit v) at = value_sort-stays at.literals v
  level-stays (expr.Name name) at = λ s h. h
  level-stays (expr.Local place) at = λ s h. h
  level-stays (expr.Own place) at = λ s h. h
  level-stays expr.This at = λ s h. h
  level-stays (expr.Field e name) at = λ s h. h
  level-stays (expr.Slot e place) at =
      where-stays (not at.is_plain) (not at.is_plain) (option_and_then (λ s. field_sort (class_of cs s) place) (sort_in e.0 (old at))) (option_and_then (λ s. field_sort (class_of more s) place) (sort_in e.0 (new at)))
      (λ h. h)
      (then-stays (λ s. field_sort (class_of cs s) place) (λ s. field_sort (class_of more s) place) (sort_in e.0 (old at)) (sort_in e.0 (new at)) (e.1 at)
      (λ s. field_sort-stays (class_of cs s) (class_of more s) (class_of-stays s) place))
  level-stays (expr.Version e) at =
      where-stays (not at.is_plain) (not at.is_plain) (option_and_then (λ s. where_so (is_reference s) (Some s)) (sort_in e.0 (old at))) (option_and_then (λ s. where_so (is_reference s) (Some s)) (sort_in e.0 (new at)))
      (λ h. h)
      (then-stays (λ s. where_so (is_reference s) (Some s)) (λ s. where_so (is_reference s) (Some s)) (sort_in e.0 (old at)) (sort_in e.0 (new at)) (e.1 at) (λ s. stays-same (where_so (is_reference s) (Some s))))
  level-stays (expr.Unary op e) at =
      then-stays (λ s. option_map (λ t. Some t) (unary_sort op s)) (λ s. option_map (λ t. Some t) (unary_sort op s)) (sort_in e.0 (old at)) (sort_in e.0 (new at)) (e.1 at) (λ s. stays-same (option_map (λ t. Some t) (unary_sort op s)))
  level-stays (expr.Binary op e f) at =
      then-stays (λ s. option_and_then (λ t. option_map (λ u. Some u) (binary_sort at.is_plain op s t)) (sort_in f.0 (old at))) (λ s. option_and_then (λ t. option_map (λ u. Some u) (binary_sort at.is_plain op s t)) (sort_in f.0 (new at)))
      (sort_in e.0 (old at)) (sort_in e.0 (new at)) (e.1 at)
      (λ s. then-stays (λ t. option_map (λ u. Some u) (binary_sort at.is_plain op s t)) (λ t. option_map (λ u. Some u) (binary_sort at.is_plain op s t)) (sort_in f.0 (old at)) (sort_in f.0 (new at)) (f.1 at)
      (λ t. stays-same (option_map (λ u. Some u) (binary_sort at.is_plain op s t))))

  sort_in-roll : (e : expr.Expr-F Expr) → sort_in (roll-Expr e) ≡ sorting_of (map-Expr Expr Sorting sort_in e)
  unfolding sort_in
  sort_in-roll e = fold-roll-Expr Sorting sorting_of e

  pub sort_in-stays : (e : Expr) → StaysIn e
  sort_in-stays = ind-Expr StaysIn (λ x y q. subst (λ z. StaysIn (roll-Expr z)) q (here y)) where
    here : (y : expr.Expr-F Known) → StaysIn (roll-Expr (map-Expr Known Expr expr_of y))
    here y at s h =
        let e = map-Expr Known Expr expr_of y in
        ap (λ (f : Sorting). f (new at)) (sort_in-roll e) ∙ level-stays y at s (sym (ap (λ (f : Sorting). f (old at)) (sort_in-roll e)) ∙ h)

  -- ---- right sides

  module _ (at : Setting) (own : (c : Class) → at.class ≡ Some c → IsNotBelow d.number c) where
    pub is_fit-implies : (s : Sort) (e : Expr) → Implies (is_fit (old at) s e) (is_fit (new at) s e)
    is_fit-implies s e = or-implies (λ t. fits cs t s) (λ t. fits more t s) (sort_in e (old at)) (sort_in e (new at)) (sort_in-stays e at) (λ t. fits-implies t s)

    pub is_ref-implies : (e : Expr) → Implies (is_ref (old at) e) (is_ref (new at) e)
    is_ref-implies e = or-implies is_reference is_reference (sort_in e (old at)) (sort_in e (new at)) (sort_in-stays e at) (λ t h. h)

    are_fit-implies : (params : List Param) (es : List Expr) → Implies (are_fit (old at) params es) (are_fit (new at) params es)
    are_fit-implies [] [] h = h
    are_fit-implies [] (e ∷ es) h = h
    are_fit-implies (p ∷ ps) [] h = h
    are_fit-implies (p ∷ ps) (e ∷ es) h =
        and-implies (is_fit (old at) p.sort e) (are_fit (old at) ps es) (is_fit (new at) p.sort e) (are_fit (new at) ps es) (is_fit-implies p.sort e) (are_fit-implies ps es) h

    receiver-stays : (of : Option Expr) → Stays (receiver_class (old at) of) (receiver_class (new at) of)
    receiver-stays None = λ c h. h
    receiver-stays (Some e) = then-stays (class_of cs) (class_of more) (sort_in e (old at)) (sort_in e (new at)) (sort_in-stays e at) class_of-stays

    receiver_above : (of : Option Expr) (c : Class) → receiver_class (old at) of ≡ Some c → IsNotBelow d.number c
    receiver_above None c h = own c h
    receiver_above (Some e) c h = by (sort_in e (old at)) h where
      by : (o : Option (Option Sort)) → option_and_then (class_of cs) o ≡ Some c → IsNotBelow d.number c
      by None so = absurd (cc)
      by (Some s) so = class_of_above s c so

    -- what a class is asked for by its line
    asked-stays : {X : Type 0} (ask : List Class → Option X) (o p : Option Class) → Stays o p → ((c : Class) → o ≡ Some c → IsNotBelow d.number c)
        → Stays (option_and_then (λ (c : Class). ask (line_of cs c)) o) (option_and_then (λ (c : Class). ask (line_of more c)) p)
    asked-stays ask None p found below x h = absurd (cc)
    asked-stays ask (Some c) p found below x h =
        ap (option_and_then (λ (e : Class). ask (line_of more e))) (found c refl) ∙ ap ask (line_of-more c (below c refl)) ∙ h

    is_set-implies : (c : Class) (set : List ℕ × Expr) → Implies (is_set (old at) c set) (is_set (new at) c set)
    is_set-implies c set =
        or-implies (λ (f : ℕ × Field). is_fit (old at) f.1.sort set.1) (λ (f : ℕ × Field). is_fit (new at) f.1.sort set.1) (field_named c.fields set.0) (field_named c.fields set.0)
        (stays-same (field_named c.fields set.0)) (λ f. is_fit-implies f.1.sort set.1)

    pub right_sort-stays : (r : Rhs) → Stays (right_sort (old at) r) (right_sort (new at) r)
    right_sort-stays (rhs.Plain e) = sort_in-stays e at
    right_sort-stays (rhs.Call c) =
        then-stays (λ (m : Method). where_so (are_fit (old at) m.params c.args) (Some (Some m.result))) (λ (m : Method). where_so (are_fit (new at) m.params c.args) (Some (Some m.result)))
        (option_and_then (λ (e : Class). method_named (line_of cs e) c.method) (receiver_class (old at) c.of)) (option_and_then (λ (e : Class). method_named (line_of more e) c.method) (receiver_class (new at) c.of))
        (asked-stays (λ (l : List Class). method_named l c.method) (receiver_class (old at) c.of) (receiver_class (new at) c.of) (receiver-stays c.of) (receiver_above c.of))
        (λ m. where-stays (are_fit (old at) m.params c.args) (are_fit (new at) m.params c.args) (Some (Some m.result)) (Some (Some m.result)) (are_fit-implies m.params c.args) (stays-same (Some (Some m.result))))
    right_sort-stays (rhs.New class sets) =
        then-stays (λ (c : Class). where_so (list_all (is_set (old at) c) sets) (Some (Some (sort.Reference class)))) (λ (c : Class). where_so (list_all (is_set (new at) c) sets) (Some (Some (sort.Reference class))))
        (class_named cs class) (class_named more class) (class_named-stays class)
        (λ c. where-stays (list_all (is_set (old at) c) sets) (list_all (is_set (new at) c) sets) (Some (Some (sort.Reference class))) (Some (Some (sort.Reference class)))
        (all-implies (is_set (old at) c) (is_set (new at) c) (is_set-implies c) sets) (stays-same (Some (Some (sort.Reference class)))))
    right_sort-stays (rhs.NewVersion e) = where-stays (is_ref (old at) e) (is_ref (new at) e) (sort_in e (old at)) (sort_in e (new at)) (is_ref-implies e) (sort_in-stays e at)
    right_sort-stays (rhs.Activate e trigger args) =
        then-stays (λ (t : TriggerDecl). where_so (are_fit (old at) t.params args) (Some (Some sort.Int))) (λ (t : TriggerDecl). where_so (are_fit (new at) t.params args) (Some (Some sort.Int)))
        (option_and_then (λ (c : Class). trigger_named (line_of cs c) trigger) (receiver_class (old at) (Some e))) (option_and_then (λ (c : Class). trigger_named (line_of more c) trigger) (receiver_class (new at) (Some e)))
        (asked-stays (λ (l : List Class). trigger_named l trigger) (receiver_class (old at) (Some e)) (receiver_class (new at) (Some e)) (receiver-stays (Some e)) (receiver_above (Some e)))
        (λ t. where-stays (are_fit (old at) t.params args) (are_fit (new at) t.params args) (Some (Some sort.Int)) (Some (Some sort.Int)) (are_fit-implies t.params args) (stays-same (Some (Some sort.Int))))

    pub is_right-implies : (s : Sort) (r : Rhs) → Implies (is_right (old at) s r) (is_right (new at) s r)
    is_right-implies s r = or-implies (λ t. fits cs t s) (λ t. fits more t s) (right_sort (old at) r) (right_sort (new at) r) (right_sort-stays r) (λ t. fits-implies t s)

pub ruleset rights_stay = (right_sort-stays)
