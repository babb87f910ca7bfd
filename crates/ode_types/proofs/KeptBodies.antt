-- Bodies and events are typed by heads alone.
use Rattle.std.proofs.Common.{◌≡◌, ℕ, List, [], ◌∷◌, ◌++◌, length, map, Bool, true, false, Option, Some, None, refl, ap, sym, ◌∙◌, subst}
use Rattle.std.specs.Prelude.{◌==◌, ◌&&◌, not, is_some, slice_get}
use Rattle.std.specs.List.{list_any}
use Rattle.std.specs.Option.{option_and_then, option_map, option_map_or}
use Rattle.std.proofs.lemmas.List.{map-append}
use Rattle.ode_value.specs.declared.binding.Param.{Param}
use Rattle.ode_value.specs.declared.binding.Var.{Var}
use Rattle.ode_value.specs.declared.binding.Var.TheVariants as var
use Rattle.ode_value.specs.declared.class.Class.{Class}
use Rattle.ode_value.specs.declared.class.Field.{Field}
use Rattle.ode_value.specs.declared.event.EventExpr.{EventExpr, roll-EventExpr, map-EventExpr, fold-roll-EventExpr, ind-EventExpr}
use Rattle.ode_value.specs.declared.event.EventExpr.TheOpen as event
use Rattle.ode_value.specs.declared.event.Kind.{Kind}
use Rattle.ode_value.specs.declared.member.Constraint.{Constraint}
use Rattle.ode_value.specs.declared.member.Method.{Method}
use Rattle.ode_value.specs.declared.member.TriggerDecl.{TriggerDecl}
use Rattle.ode_value.specs.declared.statement.Expr.{Expr}
use Rattle.ode_value.specs.declared.statement.Rhs.{Rhs}
use Rattle.ode_value.specs.declared.statement.Sort.{Sort}
use Rattle.ode_value.specs.declared.statement.Sort.TheVariants as sort
use Rattle.ode_value.specs.declared.statement.Stmt.{Stmt, roll-Stmt, map-Stmt, fold-roll-Stmt, ind-Stmt}
use Rattle.ode_value.specs.declared.statement.Stmt.TheOpen as stmt
use Rattle.ode_value.specs.Same.{same_kind}
use Rattle.ode_types.specs.Events.{event_method_in, kind_method}
use Rattle.ode_types.specs.Families.{line_of, method_named}
use Rattle.ode_types.specs.Kept.{Setting, Slots, are_masks, are_masks_of, held, inner_slots, is_assigned, is_body, is_constraint, is_fit, is_leaf, is_mask, is_method, is_ref, is_right, is_trigger, let_slots, member_setting, plain_setting, slots_behind, slots_of, slots_through, with_slots, without_inner}
use Rattle.ode_types.specs.Sorts.{is_void, starting}
use Rattle.ode_types.specs.Typing.{where_so}
use Rattle.ode_types.proofs.KeptHeads.{bare, head, is_fit-bare, is_ref-bare, is_right-bare, line_of-head, method_head, method_named-head, or-same, right_sort-bare, then-same}

-- ---- statements

-- what an induction shows of a statement
abbrev Sees : Stmt → Type 0
Sees s = (at : Setting) → slots_behind s (bare at) ≡ slots_behind s at

abbrev Known : Type 0
Known = (s : Stmt) × Sees s

abbrev stmt_of : Known → Stmt
stmt_of x = x.0

through-bare : (ys : List Known) (at : Setting) → slots_through (map slots_behind (map stmt_of ys)) (bare at) ≡ slots_through (map slots_behind (map stmt_of ys)) at
through-bare [] at = refl
through-bare (y ∷ ys) at =
    ap (option_and_then (λ slots. slots_through (map slots_behind (map stmt_of ys)) (with_slots slots (bare at)))) (y.1 at)
    ∙ then-same (λ slots. slots_through (map slots_behind (map stmt_of ys)) (with_slots slots (bare at))) (λ slots. slots_through (map slots_behind (map stmt_of ys)) (with_slots slots at))
    (λ slots. through-bare ys (with_slots slots at)) (slots_behind y.0 at)

inner-bare : (ys : List Known) (at : Setting) → inner_slots (map slots_behind (map stmt_of ys)) (bare at) ≡ inner_slots (map slots_behind (map stmt_of ys)) at
inner-bare ys at = ap (option_map (without_inner at)) (through-bare ys at)

let-bare : (v : Var) (r : Rhs) (at : Setting) → let_slots v r (bare at) ≡ let_slots v r at
let-bare (var.Name name) r at = refl
let-bare (var.Own place) r at = refl
let-bare (var.Local place) r at = ap (λ o. where_so (place == length at.slots) (option_map (λ s. at.slots ++ Some s ∷ []) (option_and_then starting o))) (right_sort-bare at r)

assigned-bare : (v : Var) (r : Rhs) (at : Setting) → is_assigned v r (bare at) ≡ is_assigned v r at
assigned-bare (var.Name name) r at = refl
assigned-bare (var.Local place) r at = or-same (λ s. is_right (bare at) s r) (λ s. is_right at s r) false (λ s. is_right-bare at s r) (option_and_then (λ s. s) (slice_get at.slots place))
assigned-bare (var.Own place) r at = by at.class where
  by : (class : Option Class) → option_map_or (λ (f : Field). is_right (bare at) f.sort r) (option_and_then (λ (c : Class). slice_get c.fields place) (option_map head class)) false
      ≡ option_map_or (λ (f : Field). is_right at f.sort r) (option_and_then (λ (c : Class). slice_get c.fields place) class) false
  by None = refl
  by (Some c) = or-same (λ (f : Field). is_right (bare at) f.sort r) (λ (f : Field). is_right at f.sort r) false (λ f. is_right-bare at f.sort r) (slice_get c.fields place)

level-bare : (y : stmt.Stmt-F Known) (at : Setting) → slots_of (map-Stmt Stmt Slots slots_behind (map-Stmt Known Stmt stmt_of y)) (bare at) ≡ slots_of (map-Stmt Stmt Slots slots_behind (map-Stmt Known Stmt stmt_of y)) at
level-bare (stmt.Let v r) at = let-bare v r at
level-bare (stmt.Set v r) at = ap (λ b. where_so b (Some at.slots)) (assigned-bare v r at)
level-bare (stmt.Do r) at = ap (λ o. where_so (is_some o) (Some at.slots)) (right_sort-bare at r)
level-bare (stmt.If test first second) at =
    ap (λ b. where_so b (option_and_then (λ slots. inner_slots (map slots_behind (map stmt_of second)) (with_slots slots (bare at))) (inner_slots (map slots_behind (map stmt_of first)) (bare at)))) (is_fit-bare at sort.Bool test)
    ∙ ap (where_so (is_fit at sort.Bool test))
    (ap (option_and_then (λ slots. inner_slots (map slots_behind (map stmt_of second)) (with_slots slots (bare at)))) (inner-bare first at)
    ∙ then-same (λ slots. inner_slots (map slots_behind (map stmt_of second)) (with_slots slots (bare at))) (λ slots. inner_slots (map slots_behind (map stmt_of second)) (with_slots slots at))
    (λ slots. inner-bare second (with_slots slots at)) (inner_slots (map slots_behind (map stmt_of first)) at))
level-bare (stmt.Return None) at = refl
level-bare (stmt.Return (Some e)) at = ap (λ b. where_so b (Some at.slots)) (is_fit-bare at at.result e)
level-bare (stmt.Delete e) at = ap (λ b. where_so b (Some at.slots)) (is_ref-bare at e)
level-bare (stmt.DropVersion e) at = ap (λ b. where_so b (Some at.slots)) (is_ref-bare at e)
level-bare (stmt.Deactivate e f) at =
    ap (λ b. where_so (b && is_fit (bare at) sort.Int f) (Some at.slots)) (is_ref-bare at e) ∙ ap (λ b. where_so (is_ref at e && b) (Some at.slots)) (is_fit-bare at sort.Int f)
level-bare (stmt.Show r) at = ap (λ o. where_so (option_map_or (λ s. not (is_void s)) o false) (Some at.slots)) (right_sort-bare at r)
level-bare (stmt.Say e) at = ap (λ b. where_so b (Some at.slots)) (is_fit-bare at sort.Text e)
level-bare stmt.TAbort at = refl

slots_behind-roll : (d : stmt.Stmt-F Stmt) → slots_behind (roll-Stmt d) ≡ slots_of (map-Stmt Stmt Slots slots_behind d)
unfolding slots_behind
slots_behind-roll d = fold-roll-Stmt Slots slots_of d

pub slots_behind-bare : (s : Stmt) → Sees s
slots_behind-bare = ind-Stmt Sees (λ x y q. subst (λ d. Sees (roll-Stmt d)) q (here y)) where
  here : (y : stmt.Stmt-F Known) → Sees (roll-Stmt (map-Stmt Known Stmt stmt_of y))
  here y at =
      let d = map-Stmt Known Stmt stmt_of y in
      ap (λ (s : Slots). s (bare at)) (slots_behind-roll d) ∙ level-bare y at ∙ sym (ap (λ (s : Slots). s at) (slots_behind-roll d))

body-bare : (ss : List Stmt) (at : Setting) → slots_through (map slots_behind ss) (bare at) ≡ slots_through (map slots_behind ss) at
body-bare [] at = refl
body-bare (s ∷ ss) at =
    ap (option_and_then (λ slots. slots_through (map slots_behind ss) (with_slots slots (bare at)))) (slots_behind-bare s at)
    ∙ then-same (λ slots. slots_through (map slots_behind ss) (with_slots slots (bare at))) (λ slots. slots_through (map slots_behind ss) (with_slots slots at)) (λ slots. body-bare ss (with_slots slots at)) (slots_behind s at)

pub is_body-bare : (at : Setting) (ss : List Stmt) → is_body (bare at) ss ≡ is_body at ss
is_body-bare at ss = ap is_some (body-bare ss at)

-- ---- events

event_method-bare : (cs : List Class) (class : Option Class) (k : Kind) → event_method_in (map head cs) (option_map head class) k ≡ option_map method_head (event_method_in cs class k)
event_method-bare cs class k = by (kind_method k) class where
  by : (name : Option (List ℕ)) (c : Option Class) → option_and_then (λ n. option_and_then (λ (d : Class). method_named (line_of (map head cs) d) n) (option_map head c)) name
      ≡ option_map method_head (option_and_then (λ n. option_and_then (λ (d : Class). method_named (line_of cs d) n) c) name)
  by None c = refl
  by (Some n) None = refl
  by (Some n) (Some c) = ap (λ (l : List Class). method_named l n) (line_of-head cs c) ∙ method_named-head (line_of cs c) n

mask-bare : (at : Setting) (m : Option Method) (e : Expr) → is_mask (bare at) (option_map method_head m) e ≡ is_mask at m e
mask-bare at None e = is_fit-bare (plain_setting (with_slots (at.slots ++ held []) at)) sort.Bool e
mask-bare at (Some m) e = is_fit-bare (plain_setting (with_slots (at.slots ++ held m.params) at)) sort.Bool e

leaf-bare : (k : Kind) (test : Option Expr) (at : Setting) → is_leaf k test (bare at) ≡ is_leaf k test at
leaf-bare k test at = kinds at.class ∙ ap (λ b. option_map_or (λ (c : Class). list_any (same_kind k) c.kinds) at.class false && b) (tests test) where
  kinds : (c : Option Class) → (option_map_or (λ (d : Class). list_any (same_kind k) d.kinds) (option_map head c) false && option_map_or (is_mask (bare at) (event_method_in (map head at.classes) (option_map head at.class) k)) test true)
      ≡ (option_map_or (λ (d : Class). list_any (same_kind k) d.kinds) c false && option_map_or (is_mask (bare at) (event_method_in (map head at.classes) (option_map head at.class) k)) test true)
  kinds None = refl
  kinds (Some c) = refl

  tests : (o : Option Expr) → option_map_or (is_mask (bare at) (event_method_in (map head at.classes) (option_map head at.class) k)) o true ≡ option_map_or (is_mask at (event_method_in at.classes at.class k)) o true
  tests None = refl
  tests (Some e) = ap (λ (m : Option Method). is_mask (bare at) m e) (event_method-bare at.classes at.class k) ∙ mask-bare at (event_method_in at.classes at.class k) e

-- what an induction shows of an event expression
abbrev SeesEvent : EventExpr → Type 0
SeesEvent e = (at : Setting) → are_masks e (bare at) ≡ are_masks e at

abbrev KnownEvent : Type 0
KnownEvent = (e : EventExpr) × SeesEvent e

abbrev event_of : KnownEvent → EventExpr
event_of x = x.0

both-bare : (e f : KnownEvent) (at : Setting) → (are_masks e.0 (bare at) && are_masks f.0 (bare at)) ≡ (are_masks e.0 at && are_masks f.0 at)
both-bare e f at = ap (λ b. b && are_masks f.0 (bare at)) (e.1 at) ∙ ap (λ b. are_masks e.0 at && b) (f.1 at)

three-bare : (e f g : KnownEvent) (at : Setting)
    → (are_masks e.0 (bare at) && are_masks f.0 (bare at) && are_masks g.0 (bare at)) ≡ (are_masks e.0 at && are_masks f.0 at && are_masks g.0 at)
three-bare e f g at = ap (λ b. b && are_masks g.0 (bare at)) (both-bare e f at) ∙ ap (λ b. (are_masks e.0 at && are_masks f.0 at) && b) (g.1 at)

level-events : (y : event.EventExpr-F KnownEvent) (at : Setting)
    → are_masks_of (map-EventExpr EventExpr (Setting → Bool) are_masks (map-EventExpr KnownEvent EventExpr event_of y)) (bare at) ≡ are_masks_of (map-EventExpr EventExpr (Setting → Bool) are_masks (map-EventExpr KnownEvent EventExpr event_of y)) at
level-events (event.Leaf k test) at = leaf-bare k test at
level-events event.Any at = refl
level-events event.First at = refl
level-events (event.Not e) at = e.1 at
level-events (event.And e f) at = both-bare e f at
level-events (event.Or e f) at = both-bare e f at
level-events (event.Relative e f) at = both-bare e f at
level-events (event.RelPlus e) at = e.1 at
level-events (event.Prior e f) at = both-bare e f at
level-events (event.Sequence e f) at = both-bare e f at
level-events (event.Pipe e f) at = both-bare e f at
level-events (event.Choose n e) at = e.1 at
level-events (event.Every n e) at = e.1 at
level-events (event.Fa e f g) at = three-bare e f g at
level-events (event.FaAbs e f g) at = three-bare e f g at
level-events (event.Masked e x) at =
    ap (λ b. b && is_fit (plain_setting (bare at)) sort.Bool x) (e.1 at) ∙ ap (λ b. are_masks e.0 at && b) (is_fit-bare (plain_setting at) sort.Bool x)

are_masks-roll : (d : event.EventExpr-F EventExpr) → are_masks (roll-EventExpr d) ≡ are_masks_of (map-EventExpr EventExpr (Setting → Bool) are_masks d)
unfolding are_masks
are_masks-roll d = fold-roll-EventExpr (Setting → Bool) are_masks_of d

pub are_masks-bare : (e : EventExpr) → SeesEvent e
are_masks-bare = ind-EventExpr SeesEvent (λ x y q. subst (λ d. SeesEvent (roll-EventExpr d)) q (here y)) where
  here : (y : event.EventExpr-F KnownEvent) → SeesEvent (roll-EventExpr (map-EventExpr KnownEvent EventExpr event_of y))
  here y at =
      let d = map-EventExpr KnownEvent EventExpr event_of y in
      ap (λ (s : Setting → Bool). s (bare at)) (are_masks-roll d) ∙ level-events y at ∙ sym (ap (λ (s : Setting → Bool). s at) (are_masks-roll d))

-- ---- members, by two classes with the same head

module _ (known : List Class) (c d : Class) (same : head c ≡ head d) where
  abbrev at_member : Class → List Param → Sort → Setting
  at_member e params result = member_setting (known ++ e ∷ []) e params result

  bare-member : (params : List Param) (result : Sort) → bare (at_member c params result) ≡ bare (at_member d params result)
  bare-member params result =
      ap (λ (cs : List Class). member_setting cs (head c) params result) (map-append head known (c ∷ []))
      ∙ ap (λ (e : Class). member_setting (map head known ++ e ∷ []) e params result) same
      ∙ ap (λ (cs : List Class). member_setting cs (head d) params result) (sym (map-append head known (d ∷ [])))

  pub is_method-same : (m : Method) → is_method (known ++ c ∷ []) c m ≡ is_method (known ++ d ∷ []) d m
  is_method-same m =
      sym (is_body-bare (at_member c m.params m.result) m.body) ∙ ap (λ (at : Setting). is_body at m.body) (bare-member m.params m.result) ∙ is_body-bare (at_member d m.params m.result) m.body

  pub is_constraint-same : (x : Constraint) → is_constraint (known ++ c ∷ []) c x ≡ is_constraint (known ++ d ∷ []) d x
  is_constraint-same x =
      sym (is_fit-bare (plain_setting (at_member c [] sort.Void)) sort.Bool x.test)
      ∙ ap (λ (at : Setting). is_fit (plain_setting at) sort.Bool x.test) (bare-member [] sort.Void)
      ∙ is_fit-bare (plain_setting (at_member d [] sort.Void)) sort.Bool x.test

  pub is_trigger-same : (t : TriggerDecl) → is_trigger (known ++ c ∷ []) c t ≡ is_trigger (known ++ d ∷ []) d t
  is_trigger-same t =
      sym (both (at_member c t.params sort.Void)) ∙ ap (λ (at : Setting). are_masks t.event at && is_body at t.action) (bare-member t.params sort.Void) ∙ both (at_member d t.params sort.Void)
    where
      both : (at : Setting) → (are_masks t.event (bare at) && is_body (bare at) t.action) ≡ (are_masks t.event at && is_body at t.action)
      both at = ap (λ b. b && is_body (bare at) t.action) (are_masks-bare t.event at) ∙ ap (λ b. are_masks t.event at && b) (is_body-bare at t.action)

pub ruleset members_alike = (is_method-same, is_constraint-same, is_trigger-same)
