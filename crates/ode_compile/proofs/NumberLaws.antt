-- The second pass over a class keeps the numbers of its events.
use Rattle.std.proofs.Common.{◌≡◌, ℕ, List, [], ◌∷◌, ◌++◌, fold, Bool, true, Option, Ok, refl, ap, sym, ◌∙◌, subst}
use Rattle.std.specs.Prelude.{◌&&◌, is_none}
use Rattle.std.specs.List.{AllByRecursion}
use Rattle.ode_value.specs.Numbers.{has_numbers, in_range, numbers_of}
use Rattle.ode_value.specs.declared.change.Added.{Added}
use Rattle.ode_value.specs.declared.class.Class.{Class}
use Rattle.ode_value.specs.declared.event.EventExpr.{EventExpr, roll-EventExpr, map-EventExpr, fold-roll-EventExpr, ind-EventExpr, the_lemmas}
use Rattle.ode_value.specs.declared.event.EventExpr.TheOpen as event
use Rattle.ode_value.specs.declared.event.EventExpr.TheVariants as checked
use Rattle.ode_value.specs.declared.event.Kind.{Kind}
use Rattle.ode_value.specs.declared.member.TriggerDecl.{TriggerDecl}
use Rattle.ode_value.specs.declared.reason.CheckError.TheVariants.{Duplicate}
use Rattle.ode_value.specs.declared.statement.ClassDecl.{ClassDecl}
use Rattle.ode_value.specs.declared.statement.Expr.{Expr}
use Rattle.ode_value.specs.declared.statement.Member.{Member}
use Rattle.ode_value.specs.declared.statement.Member.TheVariants as member
use Rattle.ode_value.specs.declared.statement.Sort.TheVariants as sort
use Rattle.ode_value.proofs.LeafLaws.{numbers_out}
use Rattle.ode_types.specs.Bodies.{body}
use Rattle.ode_types.specs.Checks.{◌>>=◌, each, needs}
use Rattle.ode_types.specs.Declaring.{begins, numbered, parent_in, with_added, with_member, without_members}
use Rattle.ode_types.specs.Events.{Listing, is_listed, leaf_listed, listed, listing_of, mask, masked}
use Rattle.ode_types.specs.Families.{class_named}
use Rattle.ode_types.specs.Scopes.{Scope, member_scope, plain_scope, wrong}
use Rattle.ode_types.specs.Typing.{fitting}
use Rattle.ode_types.specs.Static.{check_grown, checked_member, constraint_checked, method_checked, trigger_checked}
use Rattle.ode_types.proofs.CheckedClasses.{bind-ok, came_of}
use Rattle.ode_types.proofs.KeptEvents.{all_more}
use Rattle.ode_compile.specs.Compiling.{HasNumbers, HaveNumbers}

-- ---- events by one level

numbers-roll : (d : event.EventExpr-F EventExpr) → has_numbers (roll-EventExpr d) ≡ numbers_of (map-EventExpr EventExpr Bool has_numbers d)
unfolding has_numbers
numbers-roll d = fold-roll-EventExpr Bool numbers_of d

listed-roll : (d : event.EventExpr-F EventExpr) → listed (roll-EventExpr d) ≡ listing_of (map-EventExpr EventExpr Listing listed d)
unfolding listed
listed-roll d = fold-roll-EventExpr Listing listing_of d

leaf-numbers : (k : Kind) (test : Option Expr) → has_numbers (checked.Leaf k test) ≡ true
leaf-numbers k test = numbers_out (checked.Leaf k test) ∙ simp the_lemmas

any-numbers : has_numbers checked.Any ≡ true
any-numbers = numbers_out checked.Any ∙ simp the_lemmas

first-numbers : has_numbers checked.First ≡ true
first-numbers = numbers_out checked.First ∙ simp the_lemmas

not-numbers : (e : EventExpr) → has_numbers (checked.Not e) ≡ has_numbers e
not-numbers e = numbers_out (checked.Not e) ∙ simp the_lemmas

choose-numbers : (n : ℕ) (e : EventExpr) → has_numbers (checked.Choose n e) ≡ (in_range n && has_numbers e)
choose-numbers n e = numbers_out (checked.Choose n e) ∙ simp the_lemmas

every-numbers : (n : ℕ) (e : EventExpr) → has_numbers (checked.Every n e) ≡ (in_range n && has_numbers e)
every-numbers n e = numbers_out (checked.Every n e) ∙ simp the_lemmas

and-numbers : (e f : EventExpr) → has_numbers (checked.And e f) ≡ (has_numbers e && has_numbers f)
and-numbers e f = numbers_out (checked.And e f) ∙ simp the_lemmas

or-numbers : (e f : EventExpr) → has_numbers (checked.Or e f) ≡ (has_numbers e && has_numbers f)
or-numbers e f = numbers_out (checked.Or e f) ∙ simp the_lemmas

relative-numbers : (e f : EventExpr) → has_numbers (checked.Relative e f) ≡ (has_numbers e && has_numbers f)
relative-numbers e f = numbers_out (checked.Relative e f) ∙ simp the_lemmas

prior-numbers : (e f : EventExpr) → has_numbers (checked.Prior e f) ≡ (has_numbers e && has_numbers f)
prior-numbers e f = numbers_out (checked.Prior e f) ∙ simp the_lemmas

sequence-numbers : (e f : EventExpr) → has_numbers (checked.Sequence e f) ≡ (has_numbers e && has_numbers f)
sequence-numbers e f = numbers_out (checked.Sequence e f) ∙ simp the_lemmas

fa-numbers : (e f g : EventExpr) → has_numbers (checked.Fa e f g) ≡ (has_numbers e && (has_numbers f && has_numbers g))
fa-numbers e f g = numbers_out (checked.Fa e f g) ∙ simp the_lemmas

faabs-numbers : (e f g : EventExpr) → has_numbers (checked.FaAbs e f g) ≡ (has_numbers e && (has_numbers f && has_numbers g))
faabs-numbers e f g = numbers_out (checked.FaAbs e f g) ∙ simp the_lemmas

relplus-numbers : (e : EventExpr) → has_numbers (checked.RelPlus e) ≡ has_numbers e
relplus-numbers e = numbers_out (checked.RelPlus e) ∙ simp the_lemmas

pipe-numbers : (e f : EventExpr) → has_numbers (checked.Pipe e f) ≡ (has_numbers e && has_numbers f)
pipe-numbers e f = numbers_out (checked.Pipe e f) ∙ simp the_lemmas

masked-numbers : (e : EventExpr) (x : Expr) → has_numbers (checked.Masked e x) ≡ has_numbers e
masked-numbers e x = numbers_out (checked.Masked e x) ∙ simp the_lemmas

-- ---- a check of an event expression keeps its numbers

-- what an induction shows of an event expression
abbrev Keeps : EventExpr → Type 0
Keeps e = (scope : Scope) (f : EventExpr) → listed e scope ≡ Ok f → has_numbers f ≡ has_numbers e

abbrev Known : Type 0
Known = (e : EventExpr) × Keeps e

abbrev event_of : Known → EventExpr
event_of x = x.0

module _ (scope : Scope) where
  leaf_kept : (k : Kind) (m : Option Expr) (f : EventExpr) → leaf_listed k m scope ≡ Ok f → has_numbers f ≡ true
  unfolding leaf_listed
  leaf_kept k m f h =
      let p = bind-ok (needs (wrong scope) (is_listed scope k)) (λ _. mask k m scope >>= (λ t. Ok (checked.Leaf k t))) f h in
      let q = bind-ok (mask k m scope) (λ t. Ok (checked.Leaf k t)) f p.2 in
      let same : checked.Leaf k q.0 ≡ f = cc (q.2) in
      ap has_numbers (sym same) ∙ leaf-numbers k q.0

  one_kept : (make : EventExpr → EventExpr) (of : Bool → Bool) → ((x : EventExpr) → has_numbers (make x) ≡ of (has_numbers x))
      → (e : Known) (f : EventExpr) → listed e.0 scope >>= (λ a. Ok (make a)) ≡ Ok f → has_numbers f ≡ of (has_numbers e.0)
  one_kept make of level e f h =
      let p = bind-ok (listed e.0 scope) (λ a. Ok (make a)) f h in
      let same : make p.0 ≡ f = cc (p.2) in
      ap has_numbers (sym same) ∙ level p.0 ∙ ap of (e.1 scope p.0 p.1)

  two_kept : (make : EventExpr → EventExpr → EventExpr) → ((x y : EventExpr) → has_numbers (make x y) ≡ (has_numbers x && has_numbers y))
      → (d e : Known) (f : EventExpr) → listed d.0 scope >>= (λ a. listed e.0 scope >>= (λ b. Ok (make a b))) ≡ Ok f → has_numbers f ≡ (has_numbers d.0 && has_numbers e.0)
  two_kept make level d e f h =
      let p = bind-ok (listed d.0 scope) (λ a. listed e.0 scope >>= (λ b. Ok (make a b))) f h in
      let q = bind-ok (listed e.0 scope) (λ b. Ok (make p.0 b)) f p.2 in
      let same : make p.0 q.0 ≡ f = cc (q.2) in
      ap has_numbers (sym same) ∙ level p.0 q.0 ∙ ap (λ b. b && has_numbers q.0) (d.1 scope p.0 p.1) ∙ ap (λ b. has_numbers d.0 && b) (e.1 scope q.0 q.1)

  masked_kept : (e : Known) (x : Expr) (f : EventExpr) → masked (listed e.0) x scope ≡ Ok f → has_numbers f ≡ has_numbers e.0
  unfolding masked
  masked_kept e x f h =
      let p = bind-ok (listed e.0 scope) (λ a. fitting sort.Bool x (plain_scope scope) >>= (λ y. Ok (checked.Masked a y))) f h in
      let q = bind-ok (fitting sort.Bool x (plain_scope scope)) (λ y. Ok (checked.Masked p.0 y)) f p.2 in
      let same : checked.Masked p.0 q.0 ≡ f = cc (q.2) in
      ap has_numbers (sym same) ∙ masked-numbers p.0 q.0 ∙ e.1 scope p.0 p.1

  three_kept : (make : EventExpr → EventExpr → EventExpr → EventExpr)
      → ((x y z : EventExpr) → has_numbers (make x y z) ≡ (has_numbers x && (has_numbers y && has_numbers z)))
      → (c d e : Known) (f : EventExpr) → listed c.0 scope >>= (λ x. listed d.0 scope >>= (λ y. listed e.0 scope >>= (λ z. Ok (make x y z)))) ≡ Ok f
      → has_numbers f ≡ (has_numbers c.0 && (has_numbers d.0 && has_numbers e.0))
  three_kept make level c d e f h =
      let p = bind-ok (listed c.0 scope) (λ x. listed d.0 scope >>= (λ y. listed e.0 scope >>= (λ z. Ok (make x y z)))) f h in
      let q = bind-ok (listed d.0 scope) (λ y. listed e.0 scope >>= (λ z. Ok (make p.0 y z))) f p.2 in
      let r = bind-ok (listed e.0 scope) (λ z. Ok (make p.0 q.0 z)) f q.2 in
      let same : make p.0 q.0 r.0 ≡ f = cc (r.2) in
      ap has_numbers (sym same) ∙ level p.0 q.0 r.0
      ∙ ap (λ b. b && (has_numbers q.0 && has_numbers r.0)) (c.1 scope p.0 p.1)
      ∙ ap (λ b. has_numbers c.0 && (b && has_numbers r.0)) (d.1 scope q.0 q.1)
      ∙ ap (λ b. has_numbers c.0 && (has_numbers d.0 && b)) (e.1 scope r.0 r.1)

level_kept : (y : event.EventExpr-F Known) (scope : Scope) (f : EventExpr)
    → listing_of (map-EventExpr EventExpr Listing listed (map-EventExpr Known EventExpr event_of y)) scope ≡ Ok f
    → has_numbers f ≡ numbers_of (map-EventExpr EventExpr Bool has_numbers (map-EventExpr Known EventExpr event_of y))
level_kept (event.Leaf k m) scope f h = leaf_kept scope k m f h
level_kept event.Any scope f h = let same : checked.Any ≡ f = cc in ap has_numbers (sym same) ∙ any-numbers
level_kept event.First scope f h = let same : checked.First ≡ f = cc in ap has_numbers (sym same) ∙ first-numbers
level_kept (event.Not e) scope f h = one_kept scope checked.Not (λ b. b) not-numbers e f h
level_kept (event.And d e) scope f h = two_kept scope checked.And and-numbers d e f h
level_kept (event.Or d e) scope f h = two_kept scope checked.Or or-numbers d e f h
level_kept (event.Relative d e) scope f h = two_kept scope checked.Relative relative-numbers d e f h
level_kept (event.Prior d e) scope f h = two_kept scope checked.Prior prior-numbers d e f h
level_kept (event.Sequence d e) scope f h = two_kept scope checked.Sequence sequence-numbers d e f h
level_kept (event.Choose n e) scope f h = one_kept scope (checked.Choose n) (λ b. in_range n && b) (choose-numbers n) e f h
level_kept (event.Every n e) scope f h = one_kept scope (checked.Every n) (λ b. in_range n && b) (every-numbers n) e f h
level_kept (event.Fa c d e) scope f h = three_kept scope checked.Fa fa-numbers c d e f h
level_kept (event.FaAbs c d e) scope f h = three_kept scope checked.FaAbs faabs-numbers c d e f h
level_kept (event.RelPlus e) scope f h = one_kept scope checked.RelPlus (λ b. b) relplus-numbers e f h
level_kept (event.Pipe d e) scope f h = two_kept scope checked.Pipe pipe-numbers d e f h
level_kept (event.Masked e x) scope f h = masked_kept scope e x f h

event_kept : (e : EventExpr) → Keeps e
event_kept = ind-EventExpr Keeps (λ x y q. subst (λ d. Keeps (roll-EventExpr d)) q (here y)) where
  here : (y : event.EventExpr-F Known) → Keeps (roll-EventExpr (map-EventExpr Known EventExpr event_of y))
  here y scope f h =
      level_kept y scope f (sym (ap (λ (c : Listing). c scope) (listed-roll (map-EventExpr Known EventExpr event_of y))) ∙ h)
      ∙ sym (numbers-roll (map-EventExpr Known EventExpr event_of y))

-- ---- the second pass

abbrev IsNumbered : TriggerDecl → Type 0
IsNumbered t = has_numbers t.event ≡ true

module _ (cs : List Class) (c : Class) where
  member_kept : (m n : Member) → checked_member cs c m ≡ Ok n → HasNumbers m → HasNumbers n
  unfolding trigger_checked
  member_kept (member.Field name s) n h has = let same : member.Field name s ≡ n = cc in subst HasNumbers same has
  member_kept (member.Method m) n h has =
      let p = bind-ok (method_checked cs c m) (λ x. Ok (member.Method x)) n h in
      let same : member.Method p.0 ≡ n = cc (p.2) in
      subst HasNumbers same tt
  member_kept (member.Constraint x) n h has =
      let p = bind-ok (constraint_checked cs c x) (λ y. Ok (member.Constraint y)) n h in
      let same : member.Constraint p.0 ≡ n = cc (p.2) in
      subst HasNumbers same tt
  member_kept (member.Events kinds) n h has = let same : member.Events kinds ≡ n = cc in subst HasNumbers same has
  member_kept (member.Trigger t) n h has =
      let scope = member_scope cs c t.name t.params sort.Void in
      let p = bind-ok (trigger_checked cs c t) (λ x. Ok (member.Trigger x)) n h in
      let q = bind-ok (listed t.event scope) (λ e. body t.action scope >>= (λ ss. Ok (record t { event = e; action = ss }))) p.0 p.1 in
      let r = bind-ok (body t.action scope) (λ ss. Ok (record t { event = q.0; action = ss })) p.0 q.2 in
      let made : TriggerDecl = record t { event = q.0; action = r.0 } in
      let one : made ≡ p.0 = cc (r.2) in
      let two : member.Trigger p.0 ≡ n = cc (p.2) in
      subst HasNumbers two (subst IsNumbered one (event_kept t.event scope q.0 q.1 ∙ has))

  members_kept : (ms ns : List Member) → each (checked_member cs c) ms ≡ Ok ns → AllByRecursion HasNumbers ms → AllByRecursion HasNumbers ns
  members_kept [] ns h all = let none : List Member = [] in let same : none ≡ ns = cc in subst (AllByRecursion HasNumbers) same tt
  members_kept (m ∷ ms) ns h all =
      let p = bind-ok (checked_member cs c m) (λ x. each (checked_member cs c) ms >>= (λ xs. Ok (x ∷ xs))) ns h in
      let q = bind-ok (each (checked_member cs c) ms) (λ xs. Ok (p.0 ∷ xs)) ns p.2 in
      let same : p.0 ∷ q.0 ≡ ns = cc (q.2) in
      subst (AllByRecursion HasNumbers) same (member_kept m p.0 p.1 all.0, members_kept ms q.0 q.1 all.1)

with_kept : (c : Class) (m : Member) → AllByRecursion IsNumbered c.triggers → HasNumbers m → AllByRecursion IsNumbered (with_member c m).triggers
with_kept c (member.Field name s) all has = all
with_kept c (member.Method m) all has = all
with_kept c (member.Constraint x) all has = all
with_kept c (member.Events kinds) all has = all
with_kept c (member.Trigger t) all has = all_more IsNumbered c.triggers (t ∷ []) all (has, tt)

all_with : (ms : List Member) (c : Class) → AllByRecursion IsNumbered c.triggers → AllByRecursion HasNumbers ms → AllByRecursion IsNumbered (fold with_member c ms).triggers
all_with [] c all has = all
all_with (m ∷ ms) c all has = all_with ms (with_member c m) (with_kept c m all has.0) has.1

begins_without : (known : List Class) (d : ClassDecl) (start : Class) → begins known d ≡ Ok start → AllByRecursion IsNumbered start.triggers
unfolding begins
begins_without known d start h =
    let first = bind-ok (needs (Duplicate d.name) (is_none (class_named known d.name))) (λ _. parent_in known d.parent >>= (λ parent. numbered known d.name >>= (λ number. Ok (without_members number d.name parent)))) start h in
    let second = bind-ok (parent_in known d.parent) (λ parent. numbered known d.name >>= (λ number. Ok (without_members number d.name parent))) start first.2 in
    let third = bind-ok (numbered known d.name) (λ number. Ok (without_members number d.name second.0)) start second.2 in
    let is : without_members third.0 d.name second.0 ≡ start = cc (third.2) in
    subst (λ (x : Class). AllByRecursion IsNumbered x.triggers) is tt

-- added fields are no triggers
pub grown_triggers : (added : List Added) (c : Class) → (fold with_added c added).triggers ≡ c.triggers
grown_triggers [] c = refl
grown_triggers (a ∷ added) c = grown_triggers added (with_added c a)

-- the triggers of a checked class have the numbers of its tree
pub numbers_kept : (known : List Class) (added : List Added) (d : ClassDecl) (c : Class) → check_grown known added d ≡ Ok c → HaveNumbers d
    → AllByRecursion (λ (t : TriggerDecl). has_numbers t.event ≡ true) c.triggers
numbers_kept known added d c h has =
    let came = came_of known added d c h in
    subst (AllByRecursion IsNumbered) (sym (grown_triggers added (fold with_member came.start came.members)) ∙ ap (λ (x : Class). x.triggers) came.made)
    (all_with came.members came.start (begins_without known d came.start came.begun) (members_kept (known ++ came.draft ∷ []) came.draft d.members came.members came.checked has))
