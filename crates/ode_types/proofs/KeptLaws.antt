-- What a check gives is typed.
use Rattle.std.proofs.Common.{◌≡◌, ℕ, zero, suc, ◌-◌, List, [], ◌∷◌, length, take, Bool, true, false, cond, Option, Some, None, Ok, refl, ap, sym, ◌∙◌, subst}
use Rattle.std.specs.Prelude.{not, slice_get, position}
use Rattle.std.specs.List.{AllByRecursion, find}
use Rattle.std.specs.Option.{option_and_then, option_map, option_or}
use Rattle.std.specs.Str.{bytes_eq}
use Rattle.ode_value.specs.declared.binding.Param.{Param}
use Rattle.ode_value.specs.declared.binding.Var.{Var}
use Rattle.ode_value.specs.declared.binding.Var.TheVariants as var
use Rattle.ode_value.specs.declared.class.Class.{Class}
use Rattle.ode_value.specs.declared.class.Field.{Field}
use Rattle.ode_value.specs.declared.operator.BinOp.{BinOp}
use Rattle.ode_value.specs.declared.operator.UnOp.{UnOp}
use Rattle.ode_value.specs.declared.reason.CheckError.{CheckError}
use Rattle.ode_value.specs.declared.reason.CheckError.TheVariants.{UnknownName}
use Rattle.ode_value.specs.declared.statement.Expr.{Expr, out-Expr, roll-Expr, map-Expr, fold-roll-Expr, fold_out-Expr, ind-Expr, the_lemmas}
use Rattle.ode_value.specs.declared.statement.Expr.TheOpen as expr
use Rattle.ode_value.specs.declared.statement.Expr.TheVariants as checked
use Rattle.ode_value.specs.declared.statement.Sort.{Sort}
use Rattle.ode_value.specs.declared.statement.Sort.TheVariants as sort
use Rattle.ode_value.specs.declared.value.Value.{Value}
use Rattle.ode_types.specs.Checks.{Check, ◌>>=◌, needs, found}
use Rattle.ode_types.specs.Families.{field_named}
use Rattle.ode_types.specs.Kept.{Setting, Sorting, field_sort, sort_in, sorting_of}
use Rattle.ode_types.specs.Limits.{slot_limit}
use Rattle.ode_types.specs.Scopes.{Scope, local_named, meaning, own_meaning, wrong}
use Rattle.ode_types.specs.Sorts.{binary_sort, class_of, is_reference, unary_sort}
use Rattle.ode_types.specs.Typing.{Typing, binary_typed, field_of, field_typed, gives, literal, name_typed, slot, this_typed, typed, typing_of, unary_typed, value_sort, version_typed, where_so}
use Rattle.ode_types.specs.declared.checked.Typed.{Typed}
use Rattle.ode_types.proofs.CheckedClasses.{bind-ok, needs-ok}
use Rattle.ode_types.proofs.FamilyLaws.{field_named-place}

-- what is looked up and found
pub found-ok : {R : Type 0} (broken : CheckError) (o : Option R) (r : R) → found broken o ≡ Ok r → o ≡ Some r
found-ok broken (Some s) r h = let same : s ≡ r = cc in ap Some same
found-ok broken None r h = absurd (cc)

-- the setting of a scope, where the slots hold this
abbrev pub setting_of : Scope → List (Option Sort) → Setting
setting_of scope slots = record { classes = scope.classes; class = scope.class; result = scope.result; is_plain = scope.is_plain; literals = scope.literals; slots = slots }

-- a local's slot holds its sort
abbrev pub Holds : List (Option Sort) → ℕ × Param → Type 0
Holds slots l = slice_get slots l.0 ≡ Some (Some l.1.sort)

-- the slots hold what is seen in a scope
abbrev pub Sees : Scope → List (Option Sort) → Type 0
Sees scope slots = AllByRecursion (Holds slots) scope.seen

-- the slots are those of a scope
pub record Shows (scope : Scope) (slots : List (Option Sort)) : Type 0 where
  pub next : length slots ≡ scope.next
  pub seen : Sees scope slots

find_holds : {X : Type 0} (P : X → Type 0) (p : X → Bool) (xs : List X) → AllByRecursion P xs → (x : X) → find p xs ≡ Some x → P x
find_holds P p [] all x is = absurd (cc)
find_holds P p (y ∷ ys) all x is = by_test (p y) is (λ e. find_holds P p ys all.1 x e) where
  by_test : (b : Bool) → cond b (Some y) (find p ys) ≡ Some x → (find p ys ≡ Some x → P x) → P x
  by_test true e rest = let same : y ≡ x = cc in subst P same all.0
  by_test false e rest = rest e

slice_get_take : {X : Type 0} (n : ℕ) (xs : List X) (k : ℕ) (x : X) → slice_get (take n xs) k ≡ Some x → slice_get xs k ≡ Some x
slice_get_take zero [] k x h = h
slice_get_take (suc n) [] k x h = h
slice_get_take zero (y ∷ ys) k x h = absurd (cc)
slice_get_take (suc n) (y ∷ ys) zero x h = h
slice_get_take (suc n) (y ∷ ys) (suc k) x h = slice_get_take n ys k x h

-- a field stands at its slot
at_slot : (fields : List Field) (place : Option ℕ) (f : ℕ × Field) → option_and_then (λ k. option_map (λ (g : Field). (k, g)) (slice_get fields k)) place ≡ Some f → slice_get fields f.0 ≡ Some f.1
at_slot fields None f h = absurd (cc)
at_slot fields (Some k) f h = by (slice_get fields k) refl h where
  by : (o : Option Field) → slice_get fields k ≡ o → option_map (λ (g : Field). (k, g)) o ≡ Some f → slice_get fields f.0 ≡ Some f.1
  by None is so = absurd (cc)
  by (Some g) is so = let same : (k, g) ≡ f = cc in subst (λ (h : ℕ × Field). slice_get fields h.0 ≡ Some h.1) same is

pub field_slot : (fields : List Field) (name : List ℕ) (f : ℕ × Field) → field_named fields name ≡ Some f → slice_get fields f.0 ≡ Some f.1
field_slot fields name f h =
    slice_get_take (slot_limit - 0) fields f.0 f.1
    (at_slot (take (slot_limit - 0) fields) (position (λ (g : Field). bytes_eq g.name name) (take (slot_limit - 0) fields)) f (sym (field_named-place fields name) ∙ h))

-- ---- the sorts of expressions, by one level

pub sort_in_out : (e : Expr) → sort_in e ≡ sorting_of (map-Expr Expr Sorting sort_in (out-Expr e))
unfolding sort_in
sort_in_out e = fold_out-Expr Sorting sorting_of e

pub sort_in-Lit : (v : Value) (at : Setting) → sort_in (checked.Lit v) at ≡ value_sort at.classes at.literals v
sort_in-Lit v at = ap (λ (s : Sorting). s at) (sort_in_out (checked.Lit v)) ∙ simp the_lemmas

pub sort_in-Local : (place : ℕ) (at : Setting) → sort_in (checked.Local place) at ≡ option_map (λ s. Some s) (option_and_then (λ s. s) (slice_get at.slots place))
sort_in-Local place at = ap (λ (s : Sorting). s at) (sort_in_out (checked.Local place)) ∙ simp the_lemmas

pub sort_in-Own : (place : ℕ) (at : Setting) → sort_in (checked.Own place) at ≡ field_sort at.class place
sort_in-Own place at = ap (λ (s : Sorting). s at) (sort_in_out (checked.Own place)) ∙ simp the_lemmas

pub sort_in-This : (at : Setting) → sort_in checked.This at ≡ where_so (not at.is_plain) (option_map (λ (c : Class). Some (sort.Reference c.name)) at.class)
sort_in-This at = ap (λ (s : Sorting). s at) (sort_in_out checked.This) ∙ simp the_lemmas

pub sort_in-Slot : (e : Expr) (place : ℕ) (at : Setting) → sort_in (checked.Slot e place) at ≡ where_so (not at.is_plain) (option_and_then (λ s. field_sort (class_of at.classes s) place) (sort_in e at))
sort_in-Slot e place at = ap (λ (s : Sorting). s at) (sort_in_out (checked.Slot e place)) ∙ simp the_lemmas

pub sort_in-Version : (e : Expr) (at : Setting) → sort_in (checked.Version e) at ≡ where_so (not at.is_plain) (option_and_then (λ s. where_so (is_reference s) (Some s)) (sort_in e at))
sort_in-Version e at = ap (λ (s : Sorting). s at) (sort_in_out (checked.Version e)) ∙ simp the_lemmas

pub sort_in-Unary : (op : UnOp) (e : Expr) (at : Setting) → sort_in (checked.Unary op e) at ≡ option_and_then (λ s. option_map (λ t. Some t) (unary_sort op s)) (sort_in e at)
sort_in-Unary op e at = ap (λ (s : Sorting). s at) (sort_in_out (checked.Unary op e)) ∙ simp the_lemmas

pub sort_in-Binary : (op : BinOp) (e f : Expr) (at : Setting) → sort_in (checked.Binary op e f) at ≡ option_and_then (λ s. option_and_then (λ t. option_map (λ u. Some u) (binary_sort at.is_plain op s t)) (sort_in f at)) (sort_in e at)
sort_in-Binary op e f at = ap (λ (s : Sorting). s at) (sort_in_out (checked.Binary op e f)) ∙ simp the_lemmas

-- ---- what a check of an expression gives has the sort that it gives

-- what was given
abbrev given : Expr → Option Sort → Check Typed
given e s = Ok (record { expr = e; sort = s })

is_given : (e : Expr) (s : Option Sort) (t : Typed) (at : Setting) → given e s ≡ Ok t → sort_in e at ≡ Some s → sort_in t.expr at ≡ Some t.sort
is_given e s t at h is =
    let made : Typed = record { expr = e; sort = s } in
    let same : made ≡ t = cc in
    subst (λ (u : Typed). sort_in u.expr at ≡ Some u.sort) same is

module _ (scope : Scope) (slots : List (Option Sort)) (sees : Sees scope slots) where
  abbrev at : Setting
  at = setting_of scope slots

  literal_kept : (v : Value) (t : Typed) → literal v scope ≡ Ok t → sort_in t.expr at ≡ Some t.sort
  literal_kept v t h =
      let p = bind-ok (found (wrong scope) (value_sort scope.classes scope.literals v)) (λ s. Ok (record { expr = checked.Lit v; sort = s })) t h in
      is_given (checked.Lit v) p.0 t at p.2 (sort_in-Lit v at ∙ found-ok (wrong scope) (value_sort scope.classes scope.literals v) p.0 p.1)

  -- what a name means is a local in its slot, or a field in its own
  pub meaning_by : (P : Var × Sort → Type 0) → ((l : ℕ × Param) → Holds slots l → P (var.Local l.0, l.1.sort))
      → ((c : Class) (f : ℕ × Field) → scope.class ≡ Some c → slice_get c.fields f.0 ≡ Some f.1 → P (var.Own f.0, f.1.sort))
      → (name : List ℕ) (m : Var × Sort) → meaning scope name ≡ Some m → P m
  meaning_by P local own name m h = by_local (local_named scope.seen name) refl h where
    by_field : (c : Class) → scope.class ≡ Some c → (o : Option (ℕ × Field)) → field_named c.fields name ≡ o → option_map (λ (f : ℕ × Field). (var.Own f.0, f.1.sort)) o ≡ Some m → P m
    by_field c class None is so = absurd (cc)
    by_field c class (Some f) is so =
        let made : Var × Sort = (var.Own f.0, f.1.sort) in
        let same : made ≡ m = cc in
        subst P same (own c f class (field_slot c.fields name f is))

    none : (o : Option (ℕ × Field)) → field_named [] name ≡ o → option_map (λ (f : ℕ × Field). (var.Own f.0, f.1.sort)) o ≡ Some m → P m
    none None is so = absurd (cc)
    none (Some f) is so = let there = field_slot [] name f is in absurd (cc)

    by_class : (class : Option Class) → scope.class ≡ class → own_meaning class name ≡ Some m → P m
    by_class None is so = none (field_named [] name) refl so
    by_class (Some c) is so = by_field c is (field_named c.fields name) refl so

    by_local : (o : Option (ℕ × Param)) → local_named scope.seen name ≡ o → option_or (option_map (λ (p : ℕ × Param). (var.Local p.0, p.1.sort)) o) (own_meaning scope.class name) ≡ Some m → P m
    by_local None is so = by_class scope.class refl so
    by_local (Some l) is so =
        let made : Var × Sort = (var.Local l.0, l.1.sort) in
        let same : made ≡ m = cc in
        subst P same (local l (find_holds (Holds slots) (λ (p : ℕ × Param). bytes_eq p.1.name name) scope.seen sees l is))

  local_kept : (l : ℕ × Param) → Holds slots l → sort_in (checked.Local l.0) at ≡ Some (Some l.1.sort)
  local_kept l holds = sort_in-Local l.0 at ∙ ap (λ o. option_map (λ s. Some s) (option_and_then (λ s. s) o)) holds

  own_kept : (c : Class) (f : ℕ × Field) → scope.class ≡ Some c → slice_get c.fields f.0 ≡ Some f.1 → sort_in (checked.Own f.0) at ≡ Some (Some f.1.sort)
  own_kept c f class there = sort_in-Own f.0 at ∙ ap (λ (d : Option Class). field_sort d f.0) class ∙ ap (option_map (λ (g : Field). Some g.sort)) there

  meaning_kept : (name : List ℕ) (m : Var × Sort) → meaning scope name ≡ Some m → sort_in (slot m.0) at ≡ Some (Some m.1)
  meaning_kept name m h = meaning_by (λ n. sort_in (slot n.0) at ≡ Some (Some n.1)) local_kept own_kept name m h

  name_kept : (name : List ℕ) (t : Typed) → name_typed name scope ≡ Ok t → sort_in t.expr at ≡ Some t.sort
  name_kept name t h =
      let p = bind-ok (found (UnknownName name) (meaning scope name)) (λ m. gives (slot m.0) m.1) t h in
      is_given (slot p.0.0) (Some p.0.1) t at p.2 (meaning_kept name p.0 (found-ok (UnknownName name) (meaning scope name) p.0 p.1))

  this_kept : (t : Typed) → this_typed scope ≡ Ok t → sort_in t.expr at ≡ Some t.sort
  this_kept t h =
      let p = bind-ok (needs (wrong scope) (not scope.is_plain)) (λ _. found (wrong scope) scope.class >>= (λ c. gives checked.This (sort.Reference c.name))) t h in
      let q = bind-ok (found (wrong scope) scope.class) (λ c. gives checked.This (sort.Reference c.name)) t p.2 in
      let free : not scope.is_plain ≡ true = needs-ok (wrong scope) (not scope.is_plain) p.0 p.1 in
      let there : scope.class ≡ Some q.0 = found-ok (wrong scope) scope.class q.0 q.1 in
      is_given checked.This (Some (sort.Reference q.0.name)) t at q.2
      (sort_in-This at ∙ ap (λ b. where_so b (option_map (λ (c : Class). Some (sort.Reference c.name)) scope.class)) free ∙ ap (option_map (λ (c : Class). Some (sort.Reference c.name))) there)

  field_kept : (of : Typed) → sort_in of.expr at ≡ Some of.sort → (name : List ℕ) (t : Typed) → field_typed of name scope ≡ Ok t → sort_in t.expr at ≡ Some t.sort
  field_kept of kept name t h =
      let p = bind-ok (needs (wrong scope) (not scope.is_plain)) (λ _. found (wrong scope) (class_of scope.classes of.sort) >>= (λ c. field_of of.expr c name)) t h in
      let q = bind-ok (found (wrong scope) (class_of scope.classes of.sort)) (λ c. field_of of.expr c name) t p.2 in
      let r = bind-ok (found (UnknownName name) (field_named q.0.fields name)) (λ f. gives (checked.Slot of.expr f.0) f.1.sort) t q.2 in
      let free : not scope.is_plain ≡ true = needs-ok (wrong scope) (not scope.is_plain) p.0 p.1 in
      let class : class_of scope.classes of.sort ≡ Some q.0 = found-ok (wrong scope) (class_of scope.classes of.sort) q.0 q.1 in
      let there : slice_get q.0.fields r.0.0 ≡ Some r.0.1 = field_slot q.0.fields name r.0 (found-ok (UnknownName name) (field_named q.0.fields name) r.0 r.1) in
      is_given (checked.Slot of.expr r.0.0) (Some r.0.1.sort) t at r.2
      (sort_in-Slot of.expr r.0.0 at
      ∙ ap (λ b. where_so b (option_and_then (λ s. field_sort (class_of scope.classes s) r.0.0) (sort_in of.expr at))) free
      ∙ ap (option_and_then (λ s. field_sort (class_of scope.classes s) r.0.0)) kept
      ∙ ap (λ c. field_sort c r.0.0) class
      ∙ ap (option_map (λ (f : Field). Some f.sort)) there)

  version_kept : (of : Typed) → sort_in of.expr at ≡ Some of.sort → (t : Typed) → not scope.is_plain ≡ true → version_typed of scope ≡ Ok t → sort_in t.expr at ≡ Some t.sort
  version_kept of kept t free h =
      let p = bind-ok (needs (wrong scope) (is_reference of.sort)) (λ _. Ok (record { expr = checked.Version of.expr; sort = of.sort })) t h in
      let is : is_reference of.sort ≡ true = needs-ok (wrong scope) (is_reference of.sort) p.0 p.1 in
      is_given (checked.Version of.expr) of.sort t at p.2
      (sort_in-Version of.expr at
      ∙ ap (λ b. where_so b (option_and_then (λ s. where_so (is_reference s) (Some s)) (sort_in of.expr at))) free
      ∙ ap (option_and_then (λ s. where_so (is_reference s) (Some s))) kept
      ∙ ap (λ b. where_so b (Some of.sort)) is)

  unary_kept : (op : UnOp) (a : Typed) → sort_in a.expr at ≡ Some a.sort → (t : Typed) → unary_typed op a scope ≡ Ok t → sort_in t.expr at ≡ Some t.sort
  unary_kept op a kept t h =
      let p = bind-ok (found (wrong scope) (unary_sort op a.sort)) (λ s. gives (checked.Unary op a.expr) s) t h in
      is_given (checked.Unary op a.expr) (Some p.0) t at p.2
      (sort_in-Unary op a.expr at
      ∙ ap (option_and_then (λ s. option_map (λ t. Some t) (unary_sort op s))) kept
      ∙ ap (option_map (λ t. Some t)) (found-ok (wrong scope) (unary_sort op a.sort) p.0 p.1))

  binary_kept : (op : BinOp) (a b : Typed) → sort_in a.expr at ≡ Some a.sort → sort_in b.expr at ≡ Some b.sort → (t : Typed) → binary_typed op a b scope ≡ Ok t → sort_in t.expr at ≡ Some t.sort
  binary_kept op a b left right t h =
      let p = bind-ok (found (wrong scope) (binary_sort scope.is_plain op a.sort b.sort)) (λ s. gives (checked.Binary op a.expr b.expr) s) t h in
      is_given (checked.Binary op a.expr b.expr) (Some p.0) t at p.2
      (sort_in-Binary op a.expr b.expr at
      ∙ ap (option_and_then (λ s. option_and_then (λ t. option_map (λ u. Some u) (binary_sort scope.is_plain op s t)) (sort_in b.expr at))) left
      ∙ ap (option_and_then (λ t. option_map (λ u. Some u) (binary_sort scope.is_plain op a.sort t))) right
      ∙ ap (option_map (λ u. Some u)) (found-ok (wrong scope) (binary_sort scope.is_plain op a.sort b.sort) p.0 p.1))

-- what an induction shows of an expression
abbrev Keeps : Expr → Type 0
Keeps e = (scope : Scope) (slots : List (Option Sort)) → Sees scope slots → (t : Typed) → typed e scope ≡ Ok t → sort_in t.expr (setting_of scope slots) ≡ Some t.sort

abbrev Known : Type 0
Known = (e : Expr) × Keeps e

abbrev expr_of : Known → Expr
expr_of x = x.0

level_kept : (y : expr.Expr-F Known) (scope : Scope) (slots : List (Option Sort)) → Sees scope slots → (t : Typed)
    → typing_of (map-Expr Expr Typing typed (map-Expr Known Expr expr_of y)) scope ≡ Ok t → sort_in t.expr (setting_of scope slots) ≡ Some t.sort
level_kept (expr.Lit v) scope slots sees t h = literal_kept scope slots sees v t h
level_kept (expr.Name name) scope slots sees t h = name_kept scope slots sees name t h
level_kept expr.This scope slots sees t h = this_kept scope slots sees t h
level_kept (expr.Field e name) scope slots sees t h =
    let p = bind-ok (typed e.0 scope) (λ of. field_typed of name scope) t h in
    field_kept scope slots sees p.0 (e.1 scope slots sees p.0 p.1) name t p.2
level_kept (expr.Version e) scope slots sees t h =
    let p = bind-ok (needs (wrong scope) (not scope.is_plain)) (λ _. typed e.0 scope >>= (λ of. version_typed of scope)) t h in
    let q = bind-ok (typed e.0 scope) (λ of. version_typed of scope) t p.2 in
    version_kept scope slots sees q.0 (e.1 scope slots sees q.0 q.1) t (needs-ok (wrong scope) (not scope.is_plain) p.0 p.1) q.2
level_kept (expr.Unary op e) scope slots sees t h =
    let p = bind-ok (typed e.0 scope) (λ a. unary_typed op a scope) t h in
    unary_kept scope slots sees op p.0 (e.1 scope slots sees p.0 p.1) t p.2
level_kept (expr.Binary op e f) scope slots sees t h =
    let p = bind-ok (typed e.0 scope) (λ a. typed f.0 scope >>= (λ b. binary_typed op a b scope)) t h in
    let q = bind-ok (typed f.0 scope) (λ b. binary_typed op p.0 b scope) t p.2 in
    binary_kept scope slots sees op p.0 q.0 (e.1 scope slots sees p.0 p.1) (f.1 scope slots sees q.0 q.1) t q.2
level_kept _ scope slots sees t h = absurd (cc)

typed-roll : (d : expr.Expr-F Expr) → typed (roll-Expr d) ≡ typing_of (map-Expr Expr Typing typed d)
unfolding typed
typed-roll d = fold-roll-Expr Typing typing_of d

pub typed_kept : (e : Expr) → Keeps e
typed_kept = ind-Expr Keeps (λ x y q. subst (λ d. Keeps (roll-Expr d)) q (here y)) where
  here : (y : expr.Expr-F Known) → Keeps (roll-Expr (map-Expr Known Expr expr_of y))
  here y scope slots sees t h =
      level_kept y scope slots sees t (sym (ap (λ (c : Typing). c scope) (typed-roll (map-Expr Known Expr expr_of y))) ∙ h)

pub ruleset keeps = (typed_kept)
