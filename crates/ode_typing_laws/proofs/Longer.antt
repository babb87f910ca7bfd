-- Bodies, events and classes that are typed stay so behind one more class.
use Rattle.std.proofs.Common.{◌≡◌, ◌≤◌, ◌<◌, ℕ, ◌+◌, List, [], ◌∷◌, ◌++◌, length, map, Bool, true, false, Option, Some, None, refl, ap, sym, ◌∙◌, subst}
use Rattle.std.specs.Prelude.{◌==◌, ◌&&◌, not, is_some, slice_get}
use Rattle.std.specs.List.{AllByRecursion, list_any}
use Rattle.std.specs.Option.{option_and_then, option_map, option_map_or}
use Rattle.ode_value.specs.declared.binding.Var.{Var}
use Rattle.ode_value.specs.declared.binding.Var.TheVariants as var
use Rattle.ode_value.specs.declared.class.Class.{Class}
use Rattle.ode_value.specs.declared.class.Field.{Field}
use Rattle.ode_value.specs.declared.event.EventExpr.{EventExpr, roll-EventExpr, map-EventExpr, fold-roll-EventExpr, ind-EventExpr}
use Rattle.ode_value.specs.declared.event.EventExpr.TheOpen as event
use Rattle.ode_value.specs.declared.event.Kind.{Kind}
use Rattle.ode_value.specs.declared.member.Constraint.{Constraint}
use Rattle.ode_value.specs.declared.member.Method.{Method}
use Rattle.ode_value.specs.declared.member.TriggerDecl.{TriggerDecl}
use Rattle.ode_value.specs.declared.statement.Expr.{Expr}
use Rattle.ode_value.specs.declared.statement.Rhs.{Rhs}
use Rattle.ode_value.specs.declared.statement.Sort.{Sort}
use Rattle.ode_value.specs.declared.statement.Sort.TheVariants as sort
use Rattle.ode_value.specs.declared.statement.Stmt.{Stmt, roll-Stmt, map-Stmt, fold-roll-Stmt, ind-Stmt}
use Rattle.ode_value.specs.declared.statement.Stmt.TheOpen as stmt
use Rattle.ode_value.specs.Same.{same_kind}
use Rattle.ode_types.specs.Events.{event_method_in, kind_method}
use Rattle.ode_types.specs.Families.{line_of, method_named}
use Rattle.ode_types.specs.Kept.{IsTypedClass, Setting, Slots, are_masks, are_masks_of, held, inner_slots, is_assigned, is_body, is_constraint, is_fit, is_leaf, is_mask, is_method, is_ref, is_right, is_trigger, let_slots, member_setting, plain_setting, right_sort, slots_behind, slots_of, slots_through, with_slots, without_inner}
use Rattle.ode_types.specs.Sorts.{is_void, starting}
use Rattle.ode_types.specs.Typing.{where_so}
use Rattle.ode_typing_laws.proofs.More.{Implies, IsNotBelow, Stays, all-implies, and-implies, is_fit-implies, is_ref-implies, is_right-implies, line_of-more, map-stays, more, new, old, or-implies, right_sort-stays, some-implies, stays-same, then-stays, where-stays}

module _ (cs : List Class) (d : Class) (above : AllByRecursion (IsNotBelow d.number) cs) where
  -- the class that `this` is of isn't below the new one
  abbrev Own : Setting → Type 0
  Own at = (c : Class) → at.class ≡ Some c → IsNotBelow d.number c

  abbrev before : Setting → Setting
  before at = old cs d above at

  abbrev behind : Setting → Setting
  behind at = new cs d above at

  -- ---- statements

  -- what an induction shows of a statement
  abbrev StaysIn : Stmt → Type 0
  StaysIn s = (at : Setting) → Own at → Stays (slots_behind s (before at)) (slots_behind s (behind at))

  abbrev Known : Type 0
  Known = (s : Stmt) × StaysIn s

  abbrev stmt_of : Known → Stmt
  stmt_of x = x.0

  through-stays : (ys : List Known) (at : Setting) → Own at → Stays (slots_through (map slots_behind (map stmt_of ys)) (before at)) (slots_through (map slots_behind (map stmt_of ys)) (behind at))
  through-stays [] at own = λ slots h. h
  through-stays (y ∷ ys) at own =
      then-stays (λ slots. slots_through (map slots_behind (map stmt_of ys)) (with_slots slots (before at))) (λ slots. slots_through (map slots_behind (map stmt_of ys)) (with_slots slots (behind at)))
      (slots_behind y.0 (before at)) (slots_behind y.0 (behind at)) (y.1 at own) (λ slots. through-stays ys (with_slots slots at) own)

  inner-stays : (ys : List Known) (at : Setting) → Own at → Stays (inner_slots (map slots_behind (map stmt_of ys)) (before at)) (inner_slots (map slots_behind (map stmt_of ys)) (behind at))
  inner-stays ys at own =
      map-stays (without_inner at) (slots_through (map slots_behind (map stmt_of ys)) (before at)) (slots_through (map slots_behind (map stmt_of ys)) (behind at)) (through-stays ys at own)

  let-stays : (v : Var) (r : Rhs) (at : Setting) → Own at → Stays (let_slots v r (before at)) (let_slots v r (behind at))
  let-stays (var.Name name) r at own = λ slots h. h
  let-stays (var.Own place) r at own = λ slots h. h
  let-stays (var.Local place) r at own =
      let added : Sort → List (Option Sort) = λ s. at.slots ++ Some s ∷ [] in
      where-stays (place == length at.slots) (place == length at.slots) (option_map added (option_and_then starting (right_sort (before at) r))) (option_map added (option_and_then starting (right_sort (behind at) r)))
      (λ h. h)
      (map-stays added (option_and_then starting (right_sort (before at) r)) (option_and_then starting (right_sort (behind at) r))
      (then-stays starting starting (right_sort (before at) r) (right_sort (behind at) r) (right_sort-stays cs d above at own r) (λ s. stays-same (starting s))))

  assigned-implies : (v : Var) (r : Rhs) (at : Setting) → Own at → Implies (is_assigned v r (before at)) (is_assigned v r (behind at))
  assigned-implies (var.Name name) r at own = λ h. h
  assigned-implies (var.Local place) r at own =
      let there = option_and_then (λ s. s) (slice_get at.slots place) in
      or-implies (λ s. is_right (before at) s r) (λ s. is_right (behind at) s r) there there (stays-same there) (λ s. is_right-implies cs d above at own s r)
  assigned-implies (var.Own place) r at own =
      let there = option_and_then (λ (c : Class). slice_get c.fields place) at.class in
      or-implies (λ (f : Field). is_right (before at) f.sort r) (λ (f : Field). is_right (behind at) f.sort r) there there (stays-same there) (λ f. is_right-implies cs d above at own f.sort r)

  -- the slots stay, where this holds
  kept-stays : (at : Setting) (b c : Bool) → Implies b c → Stays (where_so b (Some at.slots)) (where_so c (Some at.slots))
  kept-stays at b c so = where-stays b c (Some at.slots) (Some at.slots) so (stays-same (Some at.slots))

  level-stays : (y : stmt.Stmt-F Known) (at : Setting) → Own at
      → Stays (slots_of (map-Stmt Stmt Slots slots_behind (map-Stmt Known Stmt stmt_of y)) (before at)) (slots_of (map-Stmt Stmt Slots slots_behind (map-Stmt Known Stmt stmt_of y)) (behind at))
  level-stays (stmt.Let v r) at own = let-stays v r at own
  level-stays (stmt.Set v r) at own = kept-stays at (is_assigned v r (before at)) (is_assigned v r (behind at)) (assigned-implies v r at own)
  level-stays (stmt.Do r) at own =
      kept-stays at (is_some (right_sort (before at) r)) (is_some (right_sort (behind at) r)) (some-implies (right_sort (before at) r) (right_sort (behind at) r) (right_sort-stays cs d above at own r))
  level-stays (stmt.If test first second) at own =
      let firsts = map slots_behind (map stmt_of first) in
      let seconds = map slots_behind (map stmt_of second) in
      where-stays (is_fit (before at) sort.Bool test) (is_fit (behind at) sort.Bool test)
      (option_and_then (λ slots. inner_slots seconds (with_slots slots (before at))) (inner_slots firsts (before at))) (option_and_then (λ slots. inner_slots seconds (with_slots slots (behind at))) (inner_slots firsts (behind at)))
      (is_fit-implies cs d above at own sort.Bool test)
      (then-stays (λ slots. inner_slots seconds (with_slots slots (before at))) (λ slots. inner_slots seconds (with_slots slots (behind at))) (inner_slots firsts (before at)) (inner_slots firsts (behind at))
      (inner-stays first at own) (λ slots. inner-stays second (with_slots slots at) own))
  level-stays (stmt.Return None) at own = λ slots h. h
  level-stays (stmt.Return (Some e)) at own = kept-stays at (is_fit (before at) at.result e) (is_fit (behind at) at.result e) (is_fit-implies cs d above at own at.result e)
  level-stays (stmt.Delete e) at own = kept-stays at (is_ref (before at) e) (is_ref (behind at) e) (is_ref-implies cs d above at own e)
  level-stays (stmt.DropVersion e) at own = kept-stays at (is_ref (before at) e) (is_ref (behind at) e) (is_ref-implies cs d above at own e)
  level-stays (stmt.Deactivate e f) at own =
      kept-stays at (is_ref (before at) e && is_fit (before at) sort.Int f) (is_ref (behind at) e && is_fit (behind at) sort.Int f)
      (and-implies (is_ref (before at) e) (is_fit (before at) sort.Int f) (is_ref (behind at) e) (is_fit (behind at) sort.Int f) (is_ref-implies cs d above at own e) (is_fit-implies cs d above at own sort.Int f))
  level-stays (stmt.Show r) at own =
      let shown : Option Sort → Bool = λ s. not (is_void s) in
      kept-stays at (option_map_or shown (right_sort (before at) r) false) (option_map_or shown (right_sort (behind at) r) false)
      (or-implies shown shown (right_sort (before at) r) (right_sort (behind at) r) (right_sort-stays cs d above at own r) (λ s h. h))
  level-stays (stmt.Say e) at own = kept-stays at (is_fit (before at) sort.Text e) (is_fit (behind at) sort.Text e) (is_fit-implies cs d above at own sort.Text e)
  level-stays stmt.TAbort at own = λ slots h. h

  slots_behind-roll : (s : stmt.Stmt-F Stmt) → slots_behind (roll-Stmt s) ≡ slots_of (map-Stmt Stmt Slots slots_behind s)
  unfolding slots_behind
  slots_behind-roll s = fold-roll-Stmt Slots slots_of s

  pub slots_behind-stays : (s : Stmt) → StaysIn s
  slots_behind-stays = ind-Stmt StaysIn (λ x y q. subst (λ z. StaysIn (roll-Stmt z)) q (here y)) where
    here : (y : stmt.Stmt-F Known) → StaysIn (roll-Stmt (map-Stmt Known Stmt stmt_of y))
    here y at own slots h =
        let s = map-Stmt Known Stmt stmt_of y in
        ap (λ (f : Slots). f (behind at)) (slots_behind-roll s) ∙ level-stays y at own slots (sym (ap (λ (f : Slots). f (before at)) (slots_behind-roll s)) ∙ h)

  body-stays : (ss : List Stmt) (at : Setting) → Own at → Stays (slots_through (map slots_behind ss) (before at)) (slots_through (map slots_behind ss) (behind at))
  body-stays [] at own = λ slots h. h
  body-stays (s ∷ ss) at own =
      then-stays (λ slots. slots_through (map slots_behind ss) (with_slots slots (before at))) (λ slots. slots_through (map slots_behind ss) (with_slots slots (behind at)))
      (slots_behind s (before at)) (slots_behind s (behind at)) (slots_behind-stays s at own) (λ slots. body-stays ss (with_slots slots at) own)

  pub is_body-implies : (at : Setting) → Own at → (ss : List Stmt) → Implies (is_body (before at) ss) (is_body (behind at) ss)
  is_body-implies at own ss = some-implies (slots_through (map slots_behind ss) (before at)) (slots_through (map slots_behind ss) (behind at)) (body-stays ss at own)

  -- ---- events

  event_method-same : (class : Option Class) → ((c : Class) → class ≡ Some c → IsNotBelow d.number c) → (k : Kind) → event_method_in (more cs d above) class k ≡ event_method_in cs class k
  event_method-same class own k = by (kind_method k) class own where
    by : (name : Option (List ℕ)) (c : Option Class) → ((e : Class) → c ≡ Some e → IsNotBelow d.number e)
        → option_and_then (λ n. option_and_then (λ (e : Class). method_named (line_of (more cs d above) e) n) c) name ≡ option_and_then (λ n. option_and_then (λ (e : Class). method_named (line_of cs e) n) c) name
    by None c below = refl
    by (Some n) None below = refl
    by (Some n) (Some e) below = ap (λ (l : List Class). method_named l n) (line_of-more cs d above e (below e refl))

  leaf-implies : (k : Kind) (test : Option Expr) (at : Setting) → Own at → Implies (is_leaf k test (before at)) (is_leaf k test (behind at))
  leaf-implies k test at own =
      let kinds = option_map_or (λ (c : Class). list_any (same_kind k) c.kinds) at.class false in
      and-implies kinds (option_map_or (is_mask (before at) (event_method_in cs at.class k)) test true) kinds (option_map_or (is_mask (behind at) (event_method_in (more cs d above) at.class k)) test true)
      (λ h. h) (tests test)
    where
      tests : (o : Option Expr) → Implies (option_map_or (is_mask (before at) (event_method_in cs at.class k)) o true) (option_map_or (is_mask (behind at) (event_method_in (more cs d above) at.class k)) o true)
      tests None h = h
      tests (Some e) h =
          ap (λ (m : Option Method). is_mask (behind at) m e) (event_method-same at.class own k)
          ∙ is_fit-implies cs d above (plain_setting (with_slots (at.slots ++ held (option_map_or (λ (n : Method). n.params) (event_method_in cs at.class k) [])) at)) own sort.Bool e h

  -- what an induction shows of an event expression
  abbrev StaysEvent : EventExpr → Type 0
  StaysEvent e = (at : Setting) → Own at → Implies (are_masks e (before at)) (are_masks e (behind at))

  abbrev KnownEvent : Type 0
  KnownEvent = (e : EventExpr) × StaysEvent e

  abbrev event_of : KnownEvent → EventExpr
  event_of x = x.0

  both-imply : (e f : KnownEvent) (at : Setting) → Own at → Implies (are_masks e.0 (before at) && are_masks f.0 (before at)) (are_masks e.0 (behind at) && are_masks f.0 (behind at))
  both-imply e f at own = and-implies (are_masks e.0 (before at)) (are_masks f.0 (before at)) (are_masks e.0 (behind at)) (are_masks f.0 (behind at)) (e.1 at own) (f.1 at own)

  three-imply : (e f g : KnownEvent) (at : Setting) → Own at
      → Implies (are_masks e.0 (before at) && are_masks f.0 (before at) && are_masks g.0 (before at)) (are_masks e.0 (behind at) && are_masks f.0 (behind at) && are_masks g.0 (behind at))
  three-imply e f g at own =
      and-implies (are_masks e.0 (before at) && are_masks f.0 (before at)) (are_masks g.0 (before at)) (are_masks e.0 (behind at) && are_masks f.0 (behind at)) (are_masks g.0 (behind at)) (both-imply e f at own) (g.1 at own)

  level-events : (y : event.EventExpr-F KnownEvent) (at : Setting) → Own at
      → Implies (are_masks_of (map-EventExpr EventExpr (Setting → Bool) are_masks (map-EventExpr KnownEvent EventExpr event_of y)) (before at)) (are_masks_of (map-EventExpr EventExpr (Setting → Bool) are_masks (map-EventExpr KnownEvent EventExpr event_of y)) (behind at))
  level-events (event.Leaf k test) at own = leaf-implies k test at own
  level-events event.Any at own = λ h. h
  level-events event.First at own = λ h. h
  level-events (event.Not e) at own = e.1 at own
  level-events (event.And e f) at own = both-imply e f at own
  level-events (event.Or e f) at own = both-imply e f at own
  level-events (event.Relative e f) at own = both-imply e f at own
  level-events (event.RelPlus e) at own = e.1 at own
  level-events (event.Prior e f) at own = both-imply e f at own
  level-events (event.Sequence e f) at own = both-imply e f at own
  level-events (event.Pipe e f) at own = both-imply e f at own
  level-events (event.Choose n e) at own = e.1 at own
  level-events (event.Every n e) at own = e.1 at own
  level-events (event.Fa e f g) at own = three-imply e f g at own
  level-events (event.FaAbs e f g) at own = three-imply e f g at own
  level-events (event.Masked e x) at own =
      and-implies (are_masks e.0 (before at)) (is_fit (plain_setting (before at)) sort.Bool x) (are_masks e.0 (behind at)) (is_fit (plain_setting (behind at)) sort.Bool x) (e.1 at own)
      (is_fit-implies cs d above (plain_setting at) own sort.Bool x)

  are_masks-roll : (e : event.EventExpr-F EventExpr) → are_masks (roll-EventExpr e) ≡ are_masks_of (map-EventExpr EventExpr (Setting → Bool) are_masks e)
  unfolding are_masks
  are_masks-roll e = fold-roll-EventExpr (Setting → Bool) are_masks_of e

  are_masks-implies : (e : EventExpr) → StaysEvent e
  are_masks-implies = ind-EventExpr StaysEvent (λ x y q. subst (λ z. StaysEvent (roll-EventExpr z)) q (here y)) where
    here : (y : event.EventExpr-F KnownEvent) → StaysEvent (roll-EventExpr (map-EventExpr KnownEvent EventExpr event_of y))
    here y at own h =
        let e = map-EventExpr KnownEvent EventExpr event_of y in
        ap (λ (f : Setting → Bool). f (behind at)) (are_masks-roll e) ∙ level-events y at own (sym (ap (λ (f : Setting → Bool). f (before at)) (are_masks-roll e)) ∙ h)

  -- ---- classes

  module _ (c : Class) (other : IsNotBelow d.number c) where
    itself : (e : Class) → Some c ≡ Some e → IsNotBelow d.number e
    itself e h = let same : c ≡ e = cc in subst (IsNotBelow d.number) same other

    is_method-implies : (m : Method) → Implies (is_method cs c m) (is_method (more cs d above) c m)
    is_method-implies m = is_body-implies (member_setting cs c m.params m.result) itself m.body

    is_constraint-implies : (x : Constraint) → Implies (is_constraint cs c x) (is_constraint (more cs d above) c x)
    is_constraint-implies x = is_fit-implies cs d above (plain_setting (member_setting cs c [] sort.Void)) itself sort.Bool x.test

    is_trigger-implies : (t : TriggerDecl) → Implies (is_trigger cs c t) (is_trigger (more cs d above) c t)
    is_trigger-implies t =
        let at = member_setting cs c t.params sort.Void in
        and-implies (are_masks t.event (before at)) (is_body (before at) t.action) (are_masks t.event (behind at)) (is_body (behind at) t.action) (are_masks-implies t.event at itself) (is_body-implies at itself t.action)

    -- a class that is typed stays so
    pub stays_typed : IsTypedClass cs c → IsTypedClass (cs ++ d ∷ []) c
    stays_typed typed = record {
      methods = all-implies (is_method cs c) (is_method (more cs d above) c) is_method-implies c.methods typed.methods;
      constraints = all-implies (is_constraint cs c) (is_constraint (more cs d above) c) is_constraint-implies c.constraints typed.constraints;
      triggers = all-implies (is_trigger cs c) (is_trigger (more cs d above) c) is_trigger-implies c.triggers typed.triggers;
    }

pub ruleset classes_stay = (stays_typed)
