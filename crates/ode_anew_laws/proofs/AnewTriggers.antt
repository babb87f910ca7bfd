-- The triggers of a class that is checked anew are what they were, with the places in their masks moved, but for their actions.
use Rattle.std.proofs.Common.{◌≡◌, ◌≤◌, ℕ, List, [], ◌∷◌, ◌++◌, fold, length, Bool, true, false, Option, Some, None, Ok, refl, ap, sym, ◌∙◌, subst, append-nil, append_assoc}
use Rattle.std.specs.List.{AllZip, flat_map}
use Rattle.std.specs.Option.{option_map}
use Rattle.ode_value.specs.declared.change.Added.{Added}
use Rattle.ode_value.specs.declared.class.Class.{Class}
use Rattle.ode_value.specs.declared.class.Field.{Field}
use Rattle.ode_value.specs.declared.event.EventExpr.{EventExpr, roll-EventExpr, map-EventExpr, fold-roll-EventExpr, ind-EventExpr}
use Rattle.ode_value.specs.declared.event.EventExpr.TheOpen as event
use Rattle.ode_value.specs.declared.member.TriggerDecl.{TriggerDecl}
use Rattle.ode_value.specs.declared.statement.ClassDecl.{ClassDecl}
use Rattle.ode_value.specs.declared.statement.Expr.{Expr, roll-Expr, map-Expr, fold-roll-Expr, ind-Expr}
use Rattle.ode_value.specs.declared.statement.Expr.TheOpen as expr
use Rattle.ode_value.specs.declared.statement.Member.{Member}
use Rattle.ode_value.specs.declared.statement.Member.TheVariants as member
use Rattle.ode_value.specs.declared.statement.Sort.TheVariants as sort
use Rattle.ode_value.specs.Moving.{moved_event, moved_expr, moved_of, with_masks, with_masks_of}
use Rattle.ode_types.specs.Bodies.{body}
use Rattle.ode_types.specs.Checks.{Check, ◌>>=◌, each}
use Rattle.ode_types.specs.Declaring.{with_added, with_member}
use Rattle.ode_types.specs.Events.{listed}
use Rattle.ode_types.specs.Limits.{slot_limit}
use Rattle.ode_types.specs.Scopes.{member_scope}
use Rattle.ode_types.specs.Static.{checked_member, constraint_checked, method_checked, trigger_checked}
use Rattle.ode_types.proofs.CheckedClasses.{bind-ok, CameOf}
use Rattle.ode_accepted_laws.proofs.Members.{AreApart, begun}
use Rattle.ode_change_laws.specs.Moves.{IsAnew as IsTriggerAnew, event_where}
use Rattle.ode_moved_laws.proofs.MovedChecks.{listed_moved}
use Rattle.ode_anew_laws.specs.Anew.{AreAnew, IsAnew}
use Rattle.ode_anew_laws.proofs.AnewScopes.{moved_none, wider_elsewhere, wider_there}

-- ---- with no more fields nothing moves

module _ (at : ℕ) where
  abbrev StaysExpr : Expr → Type 0
  StaysExpr e = moved_expr at 0 e ≡ e

  abbrev KnownExpr : Type 0
  KnownExpr = (e : Expr) × StaysExpr e

  abbrev expr_of : KnownExpr → Expr
  expr_of x = x.0

  expr_roll : (d : expr.Expr-F Expr) → moved_expr at 0 (roll-Expr d) ≡ roll-Expr (moved_of at 0 (map-Expr Expr Expr (moved_expr at 0) d))
  unfolding moved_expr
  expr_roll d = fold-roll-Expr Expr (λ x. roll-Expr (moved_of at 0 x)) d

  expr_level : (y : expr.Expr-F KnownExpr) → moved_of at 0 (map-Expr Expr Expr (moved_expr at 0) (map-Expr KnownExpr Expr expr_of y)) ≡ map-Expr KnownExpr Expr expr_of y
  expr_level (expr.Lit v) = refl
  expr_level (expr.Name name) = refl
  expr_level (expr.Local place) = refl
  expr_level (expr.Own place) = ap (λ p. expr.Own p) (moved_none at place)
  expr_level expr.This = refl
  expr_level (expr.Slot e place) = ap (λ x. expr.Slot x place) e.1
  expr_level (expr.Version e) = ap (λ x. expr.Version x) e.1
  expr_level (expr.Unary op e) = ap (λ x. expr.Unary op x) e.1
  expr_level (expr.Binary op e f) = ap (λ x. expr.Binary op x (moved_expr at 0 f.0)) e.1 ∙ ap (λ x. expr.Binary op e.0 x) f.1
  expr_level (expr.Field e name) = ap (λ x. expr.Field x name) e.1

  expr_stays : (e : Expr) → StaysExpr e
  expr_stays = ind-Expr StaysExpr (λ x y q. subst (λ d. StaysExpr (roll-Expr d)) q (here y)) where
    here : (y : expr.Expr-F KnownExpr) → StaysExpr (roll-Expr (map-Expr KnownExpr Expr expr_of y))
    here y = expr_roll (map-Expr KnownExpr Expr expr_of y) ∙ ap roll-Expr (expr_level y)

  abbrev StaysEvent : EventExpr → Type 0
  StaysEvent e = moved_event at 0 e ≡ e

  abbrev KnownEvent : Type 0
  KnownEvent = (e : EventExpr) × StaysEvent e

  abbrev event_of : KnownEvent → EventExpr
  event_of x = x.0

  event_roll : (d : event.EventExpr-F EventExpr)
      → moved_event at 0 (roll-EventExpr d) ≡ roll-EventExpr (with_masks_of (moved_expr at 0) (map-EventExpr EventExpr EventExpr (moved_event at 0) d))
  unfolding with_masks
  event_roll d = fold-roll-EventExpr EventExpr (λ x. roll-EventExpr (with_masks_of (moved_expr at 0) x)) d

  mask_stays : (o : Option Expr) → option_map (moved_expr at 0) o ≡ o
  mask_stays None = refl
  mask_stays (Some e) = ap (λ x. Some x) (expr_stays e)

  event_level : (y : event.EventExpr-F KnownEvent)
      → with_masks_of (moved_expr at 0) (map-EventExpr EventExpr EventExpr (moved_event at 0) (map-EventExpr KnownEvent EventExpr event_of y)) ≡ map-EventExpr KnownEvent EventExpr event_of y
  event_level (event.Leaf k m) = ap (λ o. event.Leaf k o) (mask_stays m)
  event_level event.Any = refl
  event_level event.First = refl
  event_level (event.Not e) = ap (λ x. event.Not x) e.1
  event_level (event.And d e) = ap (λ x. event.And x (moved_event at 0 e.0)) d.1 ∙ ap (λ x. event.And d.0 x) e.1
  event_level (event.Or d e) = ap (λ x. event.Or x (moved_event at 0 e.0)) d.1 ∙ ap (λ x. event.Or d.0 x) e.1
  event_level (event.Relative d e) = ap (λ x. event.Relative x (moved_event at 0 e.0)) d.1 ∙ ap (λ x. event.Relative d.0 x) e.1
  event_level (event.RelPlus e) = ap (λ x. event.RelPlus x) e.1
  event_level (event.Prior d e) = ap (λ x. event.Prior x (moved_event at 0 e.0)) d.1 ∙ ap (λ x. event.Prior d.0 x) e.1
  event_level (event.Sequence d e) = ap (λ x. event.Sequence x (moved_event at 0 e.0)) d.1 ∙ ap (λ x. event.Sequence d.0 x) e.1
  event_level (event.Pipe d e) = ap (λ x. event.Pipe x (moved_event at 0 e.0)) d.1 ∙ ap (λ x. event.Pipe d.0 x) e.1
  event_level (event.Choose n e) = ap (λ x. event.Choose n x) e.1
  event_level (event.Every n e) = ap (λ x. event.Every n x) e.1
  event_level (event.Fa c d e) =
      ap (λ x. event.Fa x (moved_event at 0 d.0) (moved_event at 0 e.0)) c.1 ∙ ap (λ x. event.Fa c.0 x (moved_event at 0 e.0)) d.1 ∙ ap (λ x. event.Fa c.0 d.0 x) e.1
  event_level (event.FaAbs c d e) =
      ap (λ x. event.FaAbs x (moved_event at 0 d.0) (moved_event at 0 e.0)) c.1 ∙ ap (λ x. event.FaAbs c.0 x (moved_event at 0 e.0)) d.1 ∙ ap (λ x. event.FaAbs c.0 d.0 x) e.1
  event_level (event.Masked e m) = ap (λ x. event.Masked x (moved_expr at 0 m)) e.1 ∙ ap (λ x. event.Masked e.0 x) (expr_stays m)

  event_stays : (e : EventExpr) → StaysEvent e
  event_stays = ind-EventExpr StaysEvent (λ x y q. subst (λ d. StaysEvent (roll-EventExpr d)) q (here y)) where
    here : (y : event.EventExpr-F KnownEvent) → StaysEvent (roll-EventExpr (map-EventExpr KnownEvent EventExpr event_of y))
    here y = event_roll (map-EventExpr KnownEvent EventExpr event_of y) ∙ ap roll-EventExpr (event_level y)

-- ---- lists

zip_append : {X : Type 0} (R : X → X → Type 0) (xs us ys vs : List X) → AllZip R xs us → AllZip R ys vs → AllZip R (xs ++ ys) (us ++ vs)
zip_append R [] [] ys vs all more = more
zip_append R [] (u ∷ us) ys vs all more = absurd all
zip_append R (x ∷ xs) [] ys vs all more = absurd all
zip_append R (x ∷ xs) (u ∷ us) ys vs all more = (all.0, zip_append R xs us ys vs all.1 more)

abbrev triggers_in : Member → List TriggerDecl
triggers_in (member.Field name s) = []
triggers_in (member.Method m) = []
triggers_in (member.Constraint x) = []
triggers_in (member.Events kinds) = []
triggers_in (member.Trigger t) = t ∷ []

with_triggers : (c : Class) (m : Member) → (with_member c m).triggers ≡ c.triggers ++ triggers_in m
with_triggers c (member.Field name s) = sym (append-nil c.triggers)
with_triggers c (member.Method m) = sym (append-nil c.triggers)
with_triggers c (member.Constraint x) = sym (append-nil c.triggers)
with_triggers c (member.Events kinds) = sym (append-nil c.triggers)
with_triggers c (member.Trigger t) = refl

fold_triggers : (ms : List Member) (c : Class) → (fold with_member c ms).triggers ≡ c.triggers ++ flat_map triggers_in ms
fold_triggers [] c = sym (append-nil c.triggers)
fold_triggers (m ∷ ms) c =
    fold_triggers ms (with_member c m) ∙ ap (λ ts. ts ++ flat_map triggers_in ms) (with_triggers c m) ∙ append_assoc c.triggers (triggers_in m) (flat_map triggers_in ms)

grown_triggers : (added : List Added) (c : Class) → (fold with_added c added).triggers ≡ c.triggers
grown_triggers [] c = refl
grown_triggers (a ∷ added) c = grown_triggers added (with_added c a)

-- ---- one trigger, one member, all members

module _ (f : EventExpr → EventExpr) (cs ds : List Class) (c d : Class) (events : (t : TriggerDecl) (x y : EventExpr) → listed t.event (member_scope cs c t.name t.params sort.Void) ≡ Ok x → listed t.event (member_scope ds d t.name t.params sort.Void) ≡ Ok y → y ≡ f x) where
  abbrev Pairs : List TriggerDecl → List TriggerDecl → Type 0
  Pairs ts us = AllZip (IsTriggerAnew f) ts us

  one_anew : (t u v : TriggerDecl) → trigger_checked cs c t ≡ Ok u → trigger_checked ds d t ≡ Ok v → IsTriggerAnew f u v
  unfolding trigger_checked
  one_anew t u v h k =
      let old = member_scope cs c t.name t.params sort.Void in
      let new = member_scope ds d t.name t.params sort.Void in
      let p = bind-ok (listed t.event old) (λ e. body t.action old >>= (λ ss. Ok (record t { event = e; action = ss }))) u h in
      let q = bind-ok (body t.action old) (λ ss. Ok (record t { event = p.0; action = ss })) u p.2 in
      let r = bind-ok (listed t.event new) (λ e. body t.action new >>= (λ ss. Ok (record t { event = e; action = ss }))) v k in
      let s = bind-ok (body t.action new) (λ ss. Ok (record t { event = r.0; action = ss })) v r.2 in
      let first : TriggerDecl = record t { event = p.0; action = q.0 } in
      let second : TriggerDecl = record t { event = r.0; action = s.0 } in
      let one : first ≡ u = cc (q.2) in
      let two : second ≡ v = cc (s.2) in
      subst (λ x. IsTriggerAnew f x v) one
      (subst (IsTriggerAnew f first) two (record { name = refl; initial = refl; perpetual = refl; whole = refl; mode = refl; params = refl; event = events t p.0 r.0 p.1 r.1 }))

  no_pairs : (ts us : List TriggerDecl) → ts ≡ [] → us ≡ [] → Pairs ts us
  no_pairs ts us one two = subst (λ xs. Pairs xs us) (sym one) (subst (Pairs []) (sym two) tt)

  member_anew : (m n o : Member) → checked_member cs c m ≡ Ok n → checked_member ds d m ≡ Ok o → Pairs (triggers_in n) (triggers_in o)
  member_anew (member.Field name s) n o h k =
      let one : member.Field name s ≡ n = cc in
      let two : member.Field name s ≡ o = cc in
      no_pairs (triggers_in n) (triggers_in o) (ap triggers_in (sym one)) (ap triggers_in (sym two))
  member_anew (member.Method m) n o h k =
      let p = bind-ok (method_checked cs c m) (λ x. Ok (member.Method x)) n h in
      let q = bind-ok (method_checked ds d m) (λ x. Ok (member.Method x)) o k in
      let one : member.Method p.0 ≡ n = cc (p.2) in
      let two : member.Method q.0 ≡ o = cc (q.2) in
      no_pairs (triggers_in n) (triggers_in o) (ap triggers_in (sym one)) (ap triggers_in (sym two))
  member_anew (member.Constraint x) n o h k =
      let p = bind-ok (constraint_checked cs c x) (λ y. Ok (member.Constraint y)) n h in
      let q = bind-ok (constraint_checked ds d x) (λ y. Ok (member.Constraint y)) o k in
      let one : member.Constraint p.0 ≡ n = cc (p.2) in
      let two : member.Constraint q.0 ≡ o = cc (q.2) in
      no_pairs (triggers_in n) (triggers_in o) (ap triggers_in (sym one)) (ap triggers_in (sym two))
  member_anew (member.Events kinds) n o h k =
      let one : member.Events kinds ≡ n = cc in
      let two : member.Events kinds ≡ o = cc in
      no_pairs (triggers_in n) (triggers_in o) (ap triggers_in (sym one)) (ap triggers_in (sym two))
  member_anew (member.Trigger t) n o h k =
      let p = bind-ok (trigger_checked cs c t) (λ x. Ok (member.Trigger x)) n h in
      let q = bind-ok (trigger_checked ds d t) (λ x. Ok (member.Trigger x)) o k in
      let one : member.Trigger p.0 ≡ n = cc (p.2) in
      let two : member.Trigger q.0 ≡ o = cc (q.2) in
      subst (λ x. Pairs (triggers_in x) (triggers_in o)) one (subst (λ y. Pairs (p.0 ∷ []) (triggers_in y)) two (one_anew t p.0 q.0 p.1 q.1, tt))

  members_anew : (ms ns os : List Member) → each (checked_member cs c) ms ≡ Ok ns → each (checked_member ds d) ms ≡ Ok os → Pairs (flat_map triggers_in ns) (flat_map triggers_in os)
  members_anew [] ns os h k =
      let none : List Member = [] in
      let one : none ≡ ns = cc in
      let two : none ≡ os = cc in
      no_pairs (flat_map triggers_in ns) (flat_map triggers_in os) (ap (flat_map triggers_in) (sym one)) (ap (flat_map triggers_in) (sym two))
  members_anew (m ∷ ms) ns os h k =
      let p = bind-ok (checked_member cs c m) (λ x. each (checked_member cs c) ms >>= (λ xs. Ok (x ∷ xs))) ns h in
      let q = bind-ok (each (checked_member cs c) ms) (λ xs. Ok (p.0 ∷ xs)) ns p.2 in
      let r = bind-ok (checked_member ds d m) (λ x. each (checked_member ds d) ms >>= (λ xs. Ok (x ∷ xs))) os k in
      let s = bind-ok (each (checked_member ds d) ms) (λ xs. Ok (r.0 ∷ xs)) os r.2 in
      let one : p.0 ∷ q.0 ≡ ns = cc (q.2) in
      let two : r.0 ∷ s.0 ≡ os = cc (s.2) in
      subst (λ xs. Pairs (flat_map triggers_in xs) (flat_map triggers_in os)) one
      (subst (λ ys. Pairs (flat_map triggers_in (p.0 ∷ q.0)) (flat_map triggers_in ys)) two
      (zip_append (IsTriggerAnew f) (triggers_in p.0) (triggers_in r.0) (flat_map triggers_in q.0) (flat_map triggers_in s.0) (member_anew m p.0 r.0 p.1 r.1) (members_anew ms q.0 s.0 q.1 s.1)))

-- ---- a whole class

own_triggers : (known : List Class) (added : List Added) (d : ClassDecl) (c : Class) (came : CameOf known added d c) → c.triggers ≡ flat_map triggers_in came.members
own_triggers known added d c came =
    ap (λ (x : Class). x.triggers) (sym came.made) ∙ grown_triggers added (fold with_member came.start came.members) ∙ fold_triggers came.members came.start
    ∙ ap (λ (ts : List TriggerDecl). ts ++ flat_map triggers_in came.members) (begun known d came.start came.begun).triggers

pub triggers_anew : (f : EventExpr → EventExpr) (known others : List Class) (added more : List Added) (d : ClassDecl) (c e : Class) (one : CameOf known added d c) (two : CameOf others more d e)
    → ((t : TriggerDecl) (x y : EventExpr) → listed t.event (member_scope (known ++ one.draft ∷ []) one.draft t.name t.params sort.Void) ≡ Ok x
    → listed t.event (member_scope (others ++ two.draft ∷ []) two.draft t.name t.params sort.Void) ≡ Ok y → y ≡ f x)
    → AllZip (IsTriggerAnew f) c.triggers e.triggers
triggers_anew f known others added more d c e one two events =
    let pairs = members_anew f (known ++ one.draft ∷ []) (others ++ two.draft ∷ []) one.draft two.draft events d.members one.members two.members one.checked two.checked in
    subst (λ ts. AllZip (IsTriggerAnew f) ts e.triggers) (sym (own_triggers known added d c one))
    (subst (AllZip (IsTriggerAnew f) (flat_map triggers_in one.members)) (sym (own_triggers others more d e two)) pairs)

-- ---- events, by what their scopes see

gave_same : (x y : EventExpr) → ◌≡◌ {A = Check EventExpr} (Ok x) (Ok y) → y ≡ x
gave_same x y h = let same : x ≡ y = cc in sym same

module _ (at : ℕ) (new : List Field) (test : ℕ → Bool) (cs ds : List Class) (all : AreAnew at new test cs ds) (c d : Class) where
  pub events_there : IsAnew at new true c d → length c.fields ≤ slot_limit → length d.fields ≤ slot_limit → AreApart d.fields
      → (t : TriggerDecl) (x y : EventExpr) → listed t.event (member_scope cs c t.name t.params sort.Void) ≡ Ok x → listed t.event (member_scope ds d t.name t.params sort.Void) ≡ Ok y
      → y ≡ event_where at (length new) true x
  events_there a few many apart t x y h k =
      let wide = wider_there at new test cs ds all c d t.name t.params sort.Void a few many apart in
      let moved = listed_moved at (length new) t.event (member_scope cs c t.name t.params sort.Void) (member_scope ds d t.name t.params sort.Void) wide x h in
      gave_same (moved_event at (length new) x) y (sym moved ∙ k)

  pub events_elsewhere : IsAnew at new false c d
      → (t : TriggerDecl) (x y : EventExpr) → listed t.event (member_scope cs c t.name t.params sort.Void) ≡ Ok x → listed t.event (member_scope ds d t.name t.params sort.Void) ≡ Ok y
      → y ≡ event_where at (length new) false x
  events_elsewhere a t x y h k =
      let wide = wider_elsewhere at new test cs ds all c d t.name t.params sort.Void a in
      let moved = listed_moved at 0 t.event (member_scope cs c t.name t.params sort.Void) (member_scope ds d t.name t.params sort.Void) wide x h in
      gave_same (moved_event at 0 x) y (sym moved ∙ k) ∙ event_stays at x
