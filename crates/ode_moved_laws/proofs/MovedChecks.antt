-- What is checked where the object's class has more fields at a place comes out with its places moved: plain expressions and events.
use Rattle.std.proofs.Common.{◌≡◌, ℕ, ◌++◌, List, true, Option, Some, None, Ok, refl, ap, sym, ◌∙◌, subst}
use Rattle.std.specs.Prelude.{not}
use Rattle.std.specs.Option.{option_map, option_or}
use Rattle.ode_value.specs.declared.binding.Param.{Param}
use Rattle.ode_value.specs.declared.binding.Var.{Var}
use Rattle.ode_value.specs.declared.binding.Var.TheVariants as var
use Rattle.ode_value.specs.declared.class.Field.{Field}
use Rattle.ode_value.specs.declared.event.EventExpr.{EventExpr, roll-EventExpr, map-EventExpr, fold-roll-EventExpr, ind-EventExpr}
use Rattle.ode_value.specs.declared.event.EventExpr.TheOpen as event
use Rattle.ode_value.specs.declared.event.EventExpr.TheVariants as made
use Rattle.ode_value.specs.declared.event.Kind.{Kind}
use Rattle.ode_value.specs.declared.operator.BinOp.{BinOp}
use Rattle.ode_value.specs.declared.operator.UnOp.{UnOp}
use Rattle.ode_value.specs.declared.reason.CheckError.TheVariants.{UnknownName}
use Rattle.ode_value.specs.declared.statement.Expr.{Expr, roll-Expr, map-Expr, fold-roll-Expr, ind-Expr}
use Rattle.ode_value.specs.declared.statement.Expr.TheOpen as expr
use Rattle.ode_value.specs.declared.statement.Expr.TheVariants as checked
use Rattle.ode_value.specs.declared.statement.Sort.{Sort}
use Rattle.ode_value.specs.declared.statement.Sort.TheVariants as sort
use Rattle.ode_value.specs.declared.value.Value.{Value}
use Rattle.ode_value.specs.Moving.{moved, moved_of, moved_expr, moved_event, with_masks, with_masks_of}
use Rattle.ode_types.specs.Checks.{Check, ◌>>=◌, ◌>>◌, found, needs}
use Rattle.ode_types.specs.Events.{Listing, event_params, is_listed, leaf_listed, listed, listing_of, mask, masked}
use Rattle.ode_types.specs.Limits.{in_slots}
use Rattle.ode_types.specs.Scopes.{Scope, local_named, meaning, own_field, own_meaning, plain_scope, with_params, wrong}
use Rattle.ode_types.specs.Sorts.{binary_sort, class_of, fits, unary_sort}
use Rattle.ode_types.specs.Typing.{Typing, binary_typed, field_of, field_typed, gives, literal, name_typed, slot, typed, typing_of, unary_typed, value_sort, version_typed, fitting}
use Rattle.ode_moved_laws.specs.Wider.{IsWider}
use Rattle.ode_types.proofs.CheckedClasses.{bind-ok, needs-ok}
use Rattle.ode_types.proofs.KeptLaws.{found-ok}

-- what a check of an expression gives: the expression and its sort
abbrev given_by : {X : Type 0} → (Expr → Scope → Check X) → Type 0
given_by {X} check = X

abbrev Typed : Type 0
Typed = given_by typed

-- what a check gives
abbrev given : Expr → Option Sort → Check Typed
given e s = Ok (record { expr = e; sort = s })

abbrev gave : Expr → Check Expr
gave e = Ok e

abbrev gave_event : EventExpr → Check EventExpr
gave_event e = Ok e

abbrev gave_mask : Option Expr → Check (Option Expr)
gave_mask o = Ok o

abbrev as_local : ℕ × Param → Var × Sort
as_local p = (var.Local p.0, p.1.sort)

abbrev as_own : ℕ × Field → Var × Sort
as_own f = (var.Own f.0, f.1.sort)

-- what isn't plain isn't checked in a plain scope
never_plain : {R : Type 0} (s : Scope) → s.is_plain ≡ true → (next : Check R) (r : R) → needs (wrong s) (not s.is_plain) >> next ≡ Ok r → ⊥
never_plain s plain next r h =
    let p = bind-ok (needs (wrong s) (not s.is_plain)) (λ _. next) r h in
    let no : not true ≡ true = subst (λ b. not b ≡ true) plain (needs-ok (wrong s) (not s.is_plain) p.0 p.1) in
    absurd (cc)

module _ (at more : ℕ) where
  -- ---- what is moved, by one level

  moved-roll : (d : expr.Expr-F Expr) → moved_expr at more (roll-Expr d) ≡ roll-Expr (moved_of at more (map-Expr Expr Expr (moved_expr at more) d))
  unfolding moved_expr
  moved-roll d = fold-roll-Expr Expr (λ x. roll-Expr (moved_of at more x)) d

  moved-lit : (v : Value) → moved_expr at more (checked.Lit v) ≡ checked.Lit v
  moved-lit v = ap (moved_expr at more) (sym (checked.rolls-Lit v)) ∙ moved-roll (expr.Lit v) ∙ checked.rolls-Lit v

  moved-unary : (op : UnOp) (e : Expr) → moved_expr at more (checked.Unary op e) ≡ checked.Unary op (moved_expr at more e)
  moved-unary op e = ap (moved_expr at more) (sym (checked.rolls-Unary op e)) ∙ moved-roll (expr.Unary op e) ∙ checked.rolls-Unary op (moved_expr at more e)

  moved-binary : (op : BinOp) (e f : Expr) → moved_expr at more (checked.Binary op e f) ≡ checked.Binary op (moved_expr at more e) (moved_expr at more f)
  moved-binary op e f =
      ap (moved_expr at more) (sym (checked.rolls-Binary op e f)) ∙ moved-roll (expr.Binary op e f) ∙ checked.rolls-Binary op (moved_expr at more e) (moved_expr at more f)

  abbrev moved_var : Var → Var
  moved_var (var.Own place) = var.Own (moved at more place)
  moved_var (var.Local place) = var.Local place
  moved_var (var.Name name) = var.Name name

  moved-slot : (v : Var) → moved_expr at more (slot v) ≡ slot (moved_var v)
  moved-slot (var.Local place) = ap (moved_expr at more) (sym (checked.rolls-Local place)) ∙ moved-roll (expr.Local place) ∙ checked.rolls-Local place
  moved-slot (var.Own place) = ap (moved_expr at more) (sym (checked.rolls-Own place)) ∙ moved-roll (expr.Own place) ∙ checked.rolls-Own (moved at more place)
  moved-slot (var.Name name) = ap (moved_expr at more) (sym (checked.rolls-Name name)) ∙ moved-roll (expr.Name name) ∙ checked.rolls-Name name

  abbrev moved_typed : Typed → Typed
  moved_typed x = record { expr = moved_expr at more x.expr; sort = x.sort }

  moved_is : (e f : Expr) (o : Option Sort) (x : Typed) → moved_expr at more e ≡ f → given e o ≡ Ok x → given f o ≡ Ok (moved_typed x)
  moved_is e f o x is h =
      let made : Typed = record { expr = e; sort = o } in
      let same : made ≡ x = cc in
      ap (λ (g : Expr). given g o) (sym is) ∙ ap (λ (y : Typed). given (moved_expr at more y.expr) y.sort) same

  -- ---- scopes

  plain_wider : (s t : Scope) → IsWider at more s t → IsWider at more (plain_scope s) (plain_scope t)
  plain_wider s t w = record { seen = w.seen; next = w.next; plain = refl; own = w.own; literals = w.literals; fits = w.fits; params = w.params; listed = w.listed }

  params_wider : (params : List Param) (s t : Scope) → IsWider at more s t → IsWider at more (with_params params s) (with_params params t)
  params_wider params s t w = record {
    seen = ap (λ seen. seen ++ in_slots t.next params) w.seen ∙ ap (λ next. s.seen ++ in_slots next params) w.next;
    next = w.next;
    plain = w.plain;
    own = w.own;
    literals = w.literals;
    fits = w.fits;
    params = w.params;
    listed = w.listed;
  }

  meaning_moved : (s t : Scope) → IsWider at more s t → (name : List ℕ) (m : Var × Sort) → meaning s name ≡ Some m → meaning t name ≡ Some (moved_var m.0, m.1)
  meaning_moved s t w name m h =
      ap (λ seen. option_or (option_map as_local (local_named seen name)) (own_meaning t.class name)) w.seen ∙ by_local (local_named s.seen name) h where
        by_own : (o : Option (ℕ × Field)) → own_field s.class name ≡ o → option_map as_own o ≡ Some m → own_meaning t.class name ≡ Some (moved_var m.0, m.1)
        by_own None is so = absurd (cc)
        by_own (Some f) is so =
            let same : as_own f ≡ m = cc in
            ap (option_map as_own) (w.own name f is) ∙ ap (λ (n : Var × Sort). Some (moved_var n.0, n.1)) same

        by_local : (o : Option (ℕ × Param)) → option_or (option_map as_local o) (own_meaning s.class name) ≡ Some m → option_or (option_map as_local o) (own_meaning t.class name) ≡ Some (moved_var m.0, m.1)
        by_local (Some l) so = let same : as_local l ≡ m = cc in ap (λ (n : Var × Sort). Some (moved_var n.0, n.1)) same
        by_local None so = by_own (own_field s.class name) refl so

  -- ---- plain expressions

  -- what an induction shows of an expression
  abbrev Moves : Expr → Type 0
  Moves e = (s t : Scope) → IsWider at more s t → s.is_plain ≡ true → (x : Typed) → typed e s ≡ Ok x → typed e t ≡ Ok (moved_typed x)

  abbrev Known : Type 0
  Known = (e : Expr) × Moves e

  abbrev expr_of : Known → Expr
  expr_of x = x.0

  typed-roll : (d : expr.Expr-F Expr) → typed (roll-Expr d) ≡ typing_of (map-Expr Expr Typing typed d)
  unfolding typed
  typed-roll d = fold-roll-Expr Typing typing_of d

  module _ (s t : Scope) (w : IsWider at more s t) (plain : s.is_plain ≡ true) where
    literal_moved : (v : Value) (x : Typed) → literal v s ≡ Ok x → literal v t ≡ Ok (moved_typed x)
    literal_moved v x h =
        let p = bind-ok (found (wrong s) (value_sort s.classes s.literals v)) (given (checked.Lit v)) x h in
        let there : value_sort t.classes t.literals v ≡ Some p.0 = w.literals v p.0 (found-ok (wrong s) (value_sort s.classes s.literals v) p.0 p.1) in
        ap (λ (o : Option (Option Sort)). found (wrong t) o >>= given (checked.Lit v)) there ∙ moved_is (checked.Lit v) (checked.Lit v) p.0 x (moved-lit v) p.2

    name_moved : (name : List ℕ) (x : Typed) → name_typed name s ≡ Ok x → name_typed name t ≡ Ok (moved_typed x)
    name_moved name x h =
        let p = bind-ok (found (UnknownName name) (meaning s name)) (λ m. gives (slot m.0) m.1) x h in
        let there : meaning t name ≡ Some (moved_var p.0.0, p.0.1) = meaning_moved s t w name p.0 (found-ok (UnknownName name) (meaning s name) p.0 p.1) in
        ap (λ (o : Option (Var × Sort)). found (UnknownName name) o >>= (λ m. gives (slot m.0) m.1)) there
        ∙ moved_is (slot p.0.0) (slot (moved_var p.0.0)) (Some p.0.1) x (moved-slot p.0.0) p.2

    unary_moved : (op : UnOp) (e : Known) (x : Typed) → typed e.0 s >>= (λ a. unary_typed op a s) ≡ Ok x → typed e.0 t >>= (λ a. unary_typed op a t) ≡ Ok (moved_typed x)
    unary_moved op e x h =
        let p = bind-ok (typed e.0 s) (λ a. unary_typed op a s) x h in
        let q = bind-ok (found (wrong s) (unary_sort op p.0.sort)) (gives (checked.Unary op p.0.expr)) x p.2 in
        let there : typed e.0 t ≡ Ok (moved_typed p.0) = e.1 s t w plain p.0 p.1 in
        ap (λ (c : Check Typed). c >>= (λ a. unary_typed op a t)) there
        ∙ ap (λ (o : Option Sort). found (wrong t) o >>= gives (checked.Unary op (moved_expr at more p.0.expr))) (found-ok (wrong s) (unary_sort op p.0.sort) q.0 q.1)
        ∙ moved_is (checked.Unary op p.0.expr) (checked.Unary op (moved_expr at more p.0.expr)) (Some q.0) x (moved-unary op p.0.expr) q.2

    binary_moved : (op : BinOp) (e f : Known) (x : Typed) → typed e.0 s >>= (λ a. typed f.0 s >>= (λ b. binary_typed op a b s)) ≡ Ok x
        → typed e.0 t >>= (λ a. typed f.0 t >>= (λ b. binary_typed op a b t)) ≡ Ok (moved_typed x)
    binary_moved op e f x h =
        let p = bind-ok (typed e.0 s) (λ a. typed f.0 s >>= (λ b. binary_typed op a b s)) x h in
        let q = bind-ok (typed f.0 s) (λ b. binary_typed op p.0 b s) x p.2 in
        let r = bind-ok (found (wrong s) (binary_sort s.is_plain op p.0.sort q.0.sort)) (gives (checked.Binary op p.0.expr q.0.expr)) x q.2 in
        let first : typed e.0 t ≡ Ok (moved_typed p.0) = e.1 s t w plain p.0 p.1 in
        let second : typed f.0 t ≡ Ok (moved_typed q.0) = f.1 s t w plain q.0 q.1 in
        let sorts : binary_sort t.is_plain op p.0.sort q.0.sort ≡ Some r.0 =
        ap (λ b. binary_sort b op p.0.sort q.0.sort) w.plain ∙ found-ok (wrong s) (binary_sort s.is_plain op p.0.sort q.0.sort) r.0 r.1 in
        ap (λ (c : Check Typed). c >>= (λ a. typed f.0 t >>= (λ b. binary_typed op a b t))) first
        ∙ ap (λ (c : Check Typed). c >>= (λ b. binary_typed op (moved_typed p.0) b t)) second
        ∙ ap (λ (o : Option Sort). found (wrong t) o >>= gives (checked.Binary op (moved_expr at more p.0.expr) (moved_expr at more q.0.expr))) sorts
        ∙ moved_is (checked.Binary op p.0.expr q.0.expr) (checked.Binary op (moved_expr at more p.0.expr) (moved_expr at more q.0.expr)) (Some r.0) x (moved-binary op p.0.expr q.0.expr) r.2

    level_moved : (y : expr.Expr-F Known) (x : Typed) → typing_of (map-Expr Expr Typing typed (map-Expr Known Expr expr_of y)) s ≡ Ok x
        → typing_of (map-Expr Expr Typing typed (map-Expr Known Expr expr_of y)) t ≡ Ok (moved_typed x)
    level_moved (expr.Lit v) x h = literal_moved v x h
    level_moved (expr.Name name) x h = name_moved name x h
    level_moved (expr.Local place) x h = absurd (cc)
    level_moved (expr.Own place) x h = absurd (cc)
    level_moved expr.This x h = absurd (never_plain s plain (found (wrong s) s.class >>= (λ c. gives checked.This (sort.Reference c.name))) x h)
    level_moved (expr.Slot e place) x h = absurd (cc)
    level_moved (expr.Version e) x h = absurd (never_plain s plain (typed e.0 s >>= (λ of. version_typed of s)) x h)
    level_moved (expr.Unary op e) x h = unary_moved op e x h
    level_moved (expr.Binary op e f) x h = binary_moved op e f x h
    level_moved (expr.Field e name) x h =
        let p = bind-ok (typed e.0 s) (λ of. field_typed of name s) x h in
        absurd (never_plain s plain (found (wrong s) (class_of s.classes p.0.sort) >>= (λ c. field_of p.0.expr c name)) x p.2)

  pub typed_moved : (e : Expr) → Moves e
  typed_moved = ind-Expr Moves (λ x y q. subst (λ d. Moves (roll-Expr d)) q (here y)) where
    here : (y : expr.Expr-F Known) → Moves (roll-Expr (map-Expr Known Expr expr_of y))
    here y s t w plain x h =
        let d = map-Expr Known Expr expr_of y in
        ap (λ (c : Typing). c t) (typed-roll d) ∙ level_moved s t w plain y x (sym (ap (λ (c : Typing). c s) (typed-roll d)) ∙ h)

  pub fitting_moved : (s t : Scope) → IsWider at more s t → s.is_plain ≡ true → (u : Sort) (e f : Expr) → fitting u e s ≡ Ok f → fitting u e t ≡ Ok (moved_expr at more f)
  unfolding fitting
  fitting_moved s t w plain u e f h =
      let p = bind-ok (typed e s) (λ x. needs (wrong s) (fits s.classes x.sort u) >> gave x.expr) f h in
      let q = bind-ok (needs (wrong s) (fits s.classes p.0.sort u)) (λ _. gave p.0.expr) f p.2 in
      let fit : fits t.classes p.0.sort u ≡ true = w.fits p.0.sort u (needs-ok (wrong s) (fits s.classes p.0.sort u) q.0 q.1) in
      let same : p.0.expr ≡ f = cc (q.2) in
      ap (λ (c : Check Typed). c >>= (λ x. needs (wrong t) (fits t.classes x.sort u) >> gave x.expr)) (typed_moved e s t w plain p.0 p.1)
      ∙ ap (λ b. needs (wrong t) b >> gave (moved_expr at more p.0.expr)) fit
      ∙ ap (λ (g : Expr). gave (moved_expr at more g)) same

  -- ---- events

  abbrev moves : EventExpr → EventExpr
  moves = moved_event at more

  event-roll : (d : event.EventExpr-F EventExpr) → moves (roll-EventExpr d) ≡ roll-EventExpr (with_masks_of (moved_expr at more) (map-EventExpr EventExpr EventExpr moves d))
  unfolding with_masks
  event-roll d = fold-roll-EventExpr EventExpr (λ x. roll-EventExpr (with_masks_of (moved_expr at more) x)) d

  moved-leaf : (k : Kind) (o : Option Expr) → moves (made.Leaf k o) ≡ made.Leaf k (option_map (moved_expr at more) o)
  moved-leaf k o = ap moves (sym (made.rolls-Leaf k o)) ∙ event-roll (event.Leaf k o) ∙ made.rolls-Leaf k (option_map (moved_expr at more) o)

  moved-any : moves made.Any ≡ made.Any
  moved-any = ap moves (sym made.rolls-Any) ∙ event-roll event.Any ∙ made.rolls-Any

  moved-first : moves made.First ≡ made.First
  moved-first = ap moves (sym made.rolls-First) ∙ event-roll event.First ∙ made.rolls-First

  moved-not : (e : EventExpr) → moves (made.Not e) ≡ made.Not (moves e)
  moved-not e = ap moves (sym (made.rolls-Not e)) ∙ event-roll (event.Not e) ∙ made.rolls-Not (moves e)

  moved-relplus : (e : EventExpr) → moves (made.RelPlus e) ≡ made.RelPlus (moves e)
  moved-relplus e = ap moves (sym (made.rolls-RelPlus e)) ∙ event-roll (event.RelPlus e) ∙ made.rolls-RelPlus (moves e)

  moved-choose : (n : ℕ) (e : EventExpr) → moves (made.Choose n e) ≡ made.Choose n (moves e)
  moved-choose n e = ap moves (sym (made.rolls-Choose n e)) ∙ event-roll (event.Choose n e) ∙ made.rolls-Choose n (moves e)

  moved-every : (n : ℕ) (e : EventExpr) → moves (made.Every n e) ≡ made.Every n (moves e)
  moved-every n e = ap moves (sym (made.rolls-Every n e)) ∙ event-roll (event.Every n e) ∙ made.rolls-Every n (moves e)

  moved-and : (e f : EventExpr) → moves (made.And e f) ≡ made.And (moves e) (moves f)
  moved-and e f = ap moves (sym (made.rolls-And e f)) ∙ event-roll (event.And e f) ∙ made.rolls-And (moves e) (moves f)

  moved-or : (e f : EventExpr) → moves (made.Or e f) ≡ made.Or (moves e) (moves f)
  moved-or e f = ap moves (sym (made.rolls-Or e f)) ∙ event-roll (event.Or e f) ∙ made.rolls-Or (moves e) (moves f)

  moved-relative : (e f : EventExpr) → moves (made.Relative e f) ≡ made.Relative (moves e) (moves f)
  moved-relative e f = ap moves (sym (made.rolls-Relative e f)) ∙ event-roll (event.Relative e f) ∙ made.rolls-Relative (moves e) (moves f)

  moved-prior : (e f : EventExpr) → moves (made.Prior e f) ≡ made.Prior (moves e) (moves f)
  moved-prior e f = ap moves (sym (made.rolls-Prior e f)) ∙ event-roll (event.Prior e f) ∙ made.rolls-Prior (moves e) (moves f)

  moved-sequence : (e f : EventExpr) → moves (made.Sequence e f) ≡ made.Sequence (moves e) (moves f)
  moved-sequence e f = ap moves (sym (made.rolls-Sequence e f)) ∙ event-roll (event.Sequence e f) ∙ made.rolls-Sequence (moves e) (moves f)

  moved-pipe : (e f : EventExpr) → moves (made.Pipe e f) ≡ made.Pipe (moves e) (moves f)
  moved-pipe e f = ap moves (sym (made.rolls-Pipe e f)) ∙ event-roll (event.Pipe e f) ∙ made.rolls-Pipe (moves e) (moves f)

  moved-fa : (e f g : EventExpr) → moves (made.Fa e f g) ≡ made.Fa (moves e) (moves f) (moves g)
  moved-fa e f g = ap moves (sym (made.rolls-Fa e f g)) ∙ event-roll (event.Fa e f g) ∙ made.rolls-Fa (moves e) (moves f) (moves g)

  moved-faabs : (e f g : EventExpr) → moves (made.FaAbs e f g) ≡ made.FaAbs (moves e) (moves f) (moves g)
  moved-faabs e f g = ap moves (sym (made.rolls-FaAbs e f g)) ∙ event-roll (event.FaAbs e f g) ∙ made.rolls-FaAbs (moves e) (moves f) (moves g)

  moved-masked : (e : EventExpr) (x : Expr) → moves (made.Masked e x) ≡ made.Masked (moves e) (moved_expr at more x)
  moved-masked e x = ap moves (sym (made.rolls-Masked e x)) ∙ event-roll (event.Masked e x) ∙ made.rolls-Masked (moves e) (moved_expr at more x)

  -- what an induction shows of an event
  abbrev MovesEvent : EventExpr → Type 0
  MovesEvent e = (s t : Scope) → IsWider at more s t → (f : EventExpr) → listed e s ≡ Ok f → listed e t ≡ Ok (moves f)

  abbrev KnownEvent : Type 0
  KnownEvent = (e : EventExpr) × MovesEvent e

  abbrev event_of : KnownEvent → EventExpr
  event_of x = x.0

  event_is : (e g f : EventExpr) → moves e ≡ g → gave_event e ≡ Ok f → gave_event g ≡ Ok (moves f)
  event_is e g f is h = let same : e ≡ f = cc in ap gave_event (sym is) ∙ ap (λ (x : EventExpr). gave_event (moves x)) same

  listed-roll : (d : event.EventExpr-F EventExpr) → listed (roll-EventExpr d) ≡ listing_of (map-EventExpr EventExpr Listing listed d)
  unfolding listed
  listed-roll d = fold-roll-EventExpr Listing listing_of d

  module _ (s t : Scope) (w : IsWider at more s t) where
    mask_moved : (k : Kind) (m o : Option Expr) → mask k m s ≡ Ok o → mask k m t ≡ Ok (option_map (moved_expr at more) o)
    unfolding mask
    mask_moved k None o h =
        let none : Option Expr = None in
        let same : none ≡ o = cc in
        ap (λ (n : Option Expr). gave_mask (option_map (moved_expr at more) n)) same
    mask_moved k (Some e) o h =
        let params = event_params s k in
        let inner : IsWider at more (plain_scope (with_params params s)) (plain_scope (with_params params t)) = plain_wider (with_params params s) (with_params params t) (params_wider params s t w) in
        let p = bind-ok (fitting sort.Bool e (plain_scope (with_params params s))) (λ x. gave_mask (Some x)) o h in
        let same : Some p.0 ≡ o = cc (p.2) in
        ap (λ (qs : List Param). fitting sort.Bool e (plain_scope (with_params qs t)) >>= (λ x. gave_mask (Some x))) (w.params k)
        ∙ ap (λ (c : Check Expr). c >>= (λ x. gave_mask (Some x))) (fitting_moved (plain_scope (with_params params s)) (plain_scope (with_params params t)) inner refl sort.Bool e p.0 p.1)
        ∙ ap (λ (n : Option Expr). gave_mask (option_map (moved_expr at more) n)) same

    leaf_moved : (k : Kind) (m : Option Expr) (f : EventExpr) → leaf_listed k m s ≡ Ok f → leaf_listed k m t ≡ Ok (moves f)
    unfolding leaf_listed
    leaf_moved k m f h =
        let p = bind-ok (needs (wrong s) (is_listed s k)) (λ _. mask k m s >>= (λ o. gave_event (made.Leaf k o))) f h in
        let q = bind-ok (mask k m s) (λ o. gave_event (made.Leaf k o)) f p.2 in
        let kind : is_listed t k ≡ true = w.listed k (needs-ok (wrong s) (is_listed s k) p.0 p.1) in
        ap (λ b. needs (wrong t) b >> (mask k m t >>= (λ o. gave_event (made.Leaf k o)))) kind
        ∙ ap (λ (c : Check (Option Expr)). c >>= (λ o. gave_event (made.Leaf k o))) (mask_moved k m q.0 q.1)
        ∙ event_is (made.Leaf k q.0) (made.Leaf k (option_map (moved_expr at more) q.0)) f (moved-leaf k q.0) q.2

    one_moved : (make : EventExpr → EventExpr) → ((x : EventExpr) → moves (make x) ≡ make (moves x)) → (e : KnownEvent) (f : EventExpr) → listed e.0 s >>= (λ a. gave_event (make a)) ≡ Ok f
        → listed e.0 t >>= (λ a. gave_event (make a)) ≡ Ok (moves f)
    one_moved make level e f h =
        let p = bind-ok (listed e.0 s) (λ a. gave_event (make a)) f h in
        ap (λ (c : Check EventExpr). c >>= (λ a. gave_event (make a))) (e.1 s t w p.0 p.1) ∙ event_is (make p.0) (make (moves p.0)) f (level p.0) p.2

    two_moved : (make : EventExpr → EventExpr → EventExpr) → ((x y : EventExpr) → moves (make x y) ≡ make (moves x) (moves y)) → (d e : KnownEvent) (f : EventExpr)
        → listed d.0 s >>= (λ a. listed e.0 s >>= (λ b. gave_event (make a b))) ≡ Ok f → listed d.0 t >>= (λ a. listed e.0 t >>= (λ b. gave_event (make a b))) ≡ Ok (moves f)
    two_moved make level d e f h =
        let p = bind-ok (listed d.0 s) (λ a. listed e.0 s >>= (λ b. gave_event (make a b))) f h in
        let q = bind-ok (listed e.0 s) (λ b. gave_event (make p.0 b)) f p.2 in
        ap (λ (c : Check EventExpr). c >>= (λ a. listed e.0 t >>= (λ b. gave_event (make a b)))) (d.1 s t w p.0 p.1)
        ∙ ap (λ (c : Check EventExpr). c >>= (λ b. gave_event (make (moves p.0) b))) (e.1 s t w q.0 q.1)
        ∙ event_is (make p.0 q.0) (make (moves p.0) (moves q.0)) f (level p.0 q.0) q.2

    three_moved : (make : EventExpr → EventExpr → EventExpr → EventExpr) → ((x y z : EventExpr) → moves (make x y z) ≡ make (moves x) (moves y) (moves z)) → (c d e : KnownEvent) (f : EventExpr)
        → listed c.0 s >>= (λ x. listed d.0 s >>= (λ y. listed e.0 s >>= (λ z. gave_event (make x y z)))) ≡ Ok f
        → listed c.0 t >>= (λ x. listed d.0 t >>= (λ y. listed e.0 t >>= (λ z. gave_event (make x y z)))) ≡ Ok (moves f)
    three_moved make level c d e f h =
        let p = bind-ok (listed c.0 s) (λ x. listed d.0 s >>= (λ y. listed e.0 s >>= (λ z. gave_event (make x y z)))) f h in
        let q = bind-ok (listed d.0 s) (λ y. listed e.0 s >>= (λ z. gave_event (make p.0 y z))) f p.2 in
        let r = bind-ok (listed e.0 s) (λ z. gave_event (make p.0 q.0 z)) f q.2 in
        ap (λ (k : Check EventExpr). k >>= (λ x. listed d.0 t >>= (λ y. listed e.0 t >>= (λ z. gave_event (make x y z))))) (c.1 s t w p.0 p.1)
        ∙ ap (λ (k : Check EventExpr). k >>= (λ y. listed e.0 t >>= (λ z. gave_event (make (moves p.0) y z)))) (d.1 s t w q.0 q.1)
        ∙ ap (λ (k : Check EventExpr). k >>= (λ z. gave_event (make (moves p.0) (moves q.0) z))) (e.1 s t w r.0 r.1)
        ∙ event_is (make p.0 q.0 r.0) (make (moves p.0) (moves q.0) (moves r.0)) f (level p.0 q.0 r.0) r.2

    masked_moved : (e : KnownEvent) (x : Expr) (f : EventExpr) → masked (listed e.0) x s ≡ Ok f → masked (listed e.0) x t ≡ Ok (moves f)
    unfolding masked
    masked_moved e x f h =
        let p = bind-ok (listed e.0 s) (λ a. fitting sort.Bool x (plain_scope s) >>= (λ y. gave_event (made.Masked a y))) f h in
        let q = bind-ok (fitting sort.Bool x (plain_scope s)) (λ y. gave_event (made.Masked p.0 y)) f p.2 in
        ap (λ (c : Check EventExpr). c >>= (λ a. fitting sort.Bool x (plain_scope t) >>= (λ y. gave_event (made.Masked a y)))) (e.1 s t w p.0 p.1)
        ∙ ap (λ (c : Check Expr). c >>= (λ y. gave_event (made.Masked (moves p.0) y))) (fitting_moved (plain_scope s) (plain_scope t) (plain_wider s t w) refl sort.Bool x q.0 q.1)
        ∙ event_is (made.Masked p.0 q.0) (made.Masked (moves p.0) (moved_expr at more q.0)) f (moved-masked p.0 q.0) q.2

    event_level : (y : event.EventExpr-F KnownEvent) (f : EventExpr) → listing_of (map-EventExpr EventExpr Listing listed (map-EventExpr KnownEvent EventExpr event_of y)) s ≡ Ok f
        → listing_of (map-EventExpr EventExpr Listing listed (map-EventExpr KnownEvent EventExpr event_of y)) t ≡ Ok (moves f)
    event_level (event.Leaf k m) f h = leaf_moved k m f h
    event_level event.Any f h = event_is made.Any made.Any f moved-any h
    event_level event.First f h = event_is made.First made.First f moved-first h
    event_level (event.Not e) f h = one_moved made.Not moved-not e f h
    event_level (event.And d e) f h = two_moved made.And moved-and d e f h
    event_level (event.Or d e) f h = two_moved made.Or moved-or d e f h
    event_level (event.Relative d e) f h = two_moved made.Relative moved-relative d e f h
    event_level (event.RelPlus e) f h = one_moved made.RelPlus moved-relplus e f h
    event_level (event.Prior d e) f h = two_moved made.Prior moved-prior d e f h
    event_level (event.Sequence d e) f h = two_moved made.Sequence moved-sequence d e f h
    event_level (event.Pipe d e) f h = two_moved made.Pipe moved-pipe d e f h
    event_level (event.Choose n e) f h = one_moved (made.Choose n) (moved-choose n) e f h
    event_level (event.Every n e) f h = one_moved (made.Every n) (moved-every n) e f h
    event_level (event.Fa c d e) f h = three_moved made.Fa moved-fa c d e f h
    event_level (event.FaAbs c d e) f h = three_moved made.FaAbs moved-faabs c d e f h
    event_level (event.Masked e x) f h = masked_moved e x f h

  pub listed_moved : (e : EventExpr) → MovesEvent e
  listed_moved = ind-EventExpr MovesEvent (λ x y q. subst (λ d. MovesEvent (roll-EventExpr d)) q (here y)) where
    here : (y : event.EventExpr-F KnownEvent) → MovesEvent (roll-EventExpr (map-EventExpr KnownEvent EventExpr event_of y))
    here y s t w f h =
        let d = map-EventExpr KnownEvent EventExpr event_of y in
        ap (λ (c : Listing). c t) (listed-roll d) ∙ event_level s t w y f (sym (ap (λ (c : Listing). c s) (listed-roll d)) ∙ h)
