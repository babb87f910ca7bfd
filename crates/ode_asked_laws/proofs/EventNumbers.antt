-- A check of an event expression keeps its numbers.
use Rattle.std.proofs.Common.{◌≡◌, Bool, true, Option, Ok, ap, sym, ◌∙◌, subst}
use Rattle.std.specs.Prelude.{◌&&◌}
use Rattle.ode_types.proofs.CheckedClasses.{bind-ok}
use Rattle.ode_types.specs.Checks.{◌>>=◌, needs}
use Rattle.ode_types.specs.Events.{Listing, is_listed, leaf_listed, listed, listing_of, mask, masked}
use Rattle.ode_types.specs.Scopes.{Scope, plain_scope, wrong}
use Rattle.ode_types.specs.Typing.{fitting}
use Rattle.ode_value.proofs.LeafLaws.{numbers_out}
use Rattle.ode_value.specs.Numbers.{has_numbers, in_range, numbers_of}
use Rattle.ode_value.specs.declared.event.EventExpr.{EventExpr, roll-EventExpr, map-EventExpr, fold-roll-EventExpr, ind-EventExpr, the_lemmas}
use Rattle.ode_value.specs.declared.event.EventExpr.TheOpen as event
use Rattle.ode_value.specs.declared.event.EventExpr.TheVariants as checked
use Rattle.ode_value.specs.declared.event.Kind.{Kind}
use Rattle.ode_value.specs.declared.statement.Expr.{Expr}
use Rattle.ode_value.specs.declared.statement.Sort.TheVariants as sort

numbers_roll : (d : event.EventExpr-F EventExpr) → has_numbers (roll-EventExpr d) ≡ numbers_of (map-EventExpr EventExpr Bool has_numbers d)
unfolding has_numbers
numbers_roll d = fold-roll-EventExpr Bool numbers_of d

listed_roll : (d : event.EventExpr-F EventExpr) → listed (roll-EventExpr d) ≡ listing_of (map-EventExpr EventExpr Listing listed d)
unfolding listed
listed_roll d = fold-roll-EventExpr Listing listing_of d

-- what an induction shows of an event expression
abbrev pub Keeps : EventExpr → Type 0
Keeps e = (scope : Scope) (f : EventExpr) → listed e scope ≡ Ok f → has_numbers f ≡ has_numbers e

abbrev Known : Type 0
Known = (e : EventExpr) × Keeps e

abbrev event_of : Known → EventExpr
event_of x = x.0

module _ (scope : Scope) where
  leaf_kept : (k : Kind) (m : Option Expr) (f : EventExpr) → leaf_listed k m scope ≡ Ok f → has_numbers f ≡ true
  unfolding leaf_listed
  leaf_kept k m f h =
      let p = bind-ok (needs (wrong scope) (is_listed scope k)) (λ _. mask k m scope >>= (λ t. Ok (checked.Leaf k t))) f h in
      let q = bind-ok (mask k m scope) (λ t. Ok (checked.Leaf k t)) f p.2 in
      let same : checked.Leaf k q.0 ≡ f = cc (q.2) in
      ap has_numbers (sym same) ∙ numbers_out (checked.Leaf k q.0) ∙ simp the_lemmas

  one_kept : (make : EventExpr → EventExpr) (of : Bool → Bool) → ((x : EventExpr) → has_numbers (make x) ≡ of (has_numbers x))
      → (e : Known) (f : EventExpr) → listed e.0 scope >>= (λ a. Ok (make a)) ≡ Ok f → has_numbers f ≡ of (has_numbers e.0)
  one_kept make of level e f h =
      let p = bind-ok (listed e.0 scope) (λ a. Ok (make a)) f h in
      let same : make p.0 ≡ f = cc (p.2) in
      ap has_numbers (sym same) ∙ level p.0 ∙ ap of (e.1 scope p.0 p.1)

  two_kept : (make : EventExpr → EventExpr → EventExpr) → ((x y : EventExpr) → has_numbers (make x y) ≡ (has_numbers x && has_numbers y))
      → (d e : Known) (f : EventExpr) → listed d.0 scope >>= (λ a. listed e.0 scope >>= (λ b. Ok (make a b))) ≡ Ok f → has_numbers f ≡ (has_numbers d.0 && has_numbers e.0)
  two_kept make level d e f h =
      let p = bind-ok (listed d.0 scope) (λ a. listed e.0 scope >>= (λ b. Ok (make a b))) f h in
      let q = bind-ok (listed e.0 scope) (λ b. Ok (make p.0 b)) f p.2 in
      let same : make p.0 q.0 ≡ f = cc (q.2) in
      ap has_numbers (sym same) ∙ level p.0 q.0 ∙ ap (λ b. b && has_numbers q.0) (d.1 scope p.0 p.1) ∙ ap (λ b. has_numbers d.0 && b) (e.1 scope q.0 q.1)

  three_kept : (make : EventExpr → EventExpr → EventExpr → EventExpr)
      → ((x y z : EventExpr) → has_numbers (make x y z) ≡ (has_numbers x && (has_numbers y && has_numbers z)))
      → (c d e : Known) (f : EventExpr) → listed c.0 scope >>= (λ x. listed d.0 scope >>= (λ y. listed e.0 scope >>= (λ z. Ok (make x y z)))) ≡ Ok f
      → has_numbers f ≡ (has_numbers c.0 && (has_numbers d.0 && has_numbers e.0))
  three_kept make level c d e f h =
      let p = bind-ok (listed c.0 scope) (λ x. listed d.0 scope >>= (λ y. listed e.0 scope >>= (λ z. Ok (make x y z)))) f h in
      let q = bind-ok (listed d.0 scope) (λ y. listed e.0 scope >>= (λ z. Ok (make p.0 y z))) f p.2 in
      let r = bind-ok (listed e.0 scope) (λ z. Ok (make p.0 q.0 z)) f q.2 in
      let same : make p.0 q.0 r.0 ≡ f = cc (r.2) in
      ap has_numbers (sym same) ∙ level p.0 q.0 r.0
      ∙ ap (λ b. b && (has_numbers q.0 && has_numbers r.0)) (c.1 scope p.0 p.1)
      ∙ ap (λ b. has_numbers c.0 && (b && has_numbers r.0)) (d.1 scope q.0 q.1)
      ∙ ap (λ b. has_numbers c.0 && (has_numbers d.0 && b)) (e.1 scope r.0 r.1)

  masked_kept : (e : Known) (x : Expr) (f : EventExpr) → masked (listed e.0) x scope ≡ Ok f → has_numbers f ≡ has_numbers e.0
  unfolding masked
  masked_kept e x f h =
      let p = bind-ok (listed e.0 scope) (λ a. fitting sort.Bool x (plain_scope scope) >>= (λ y. Ok (checked.Masked a y))) f h in
      let q = bind-ok (fitting sort.Bool x (plain_scope scope)) (λ y. Ok (checked.Masked p.0 y)) f p.2 in
      let same : checked.Masked p.0 q.0 ≡ f = cc (q.2) in
      let level : has_numbers (checked.Masked p.0 q.0) ≡ has_numbers p.0 = numbers_out (checked.Masked p.0 q.0) ∙ simp the_lemmas in
      ap has_numbers (sym same) ∙ level ∙ e.1 scope p.0 p.1

-- by one level
level_kept : (y : event.EventExpr-F Known) (scope : Scope) (f : EventExpr)
    → listing_of (map-EventExpr EventExpr Listing listed (map-EventExpr Known EventExpr event_of y)) scope ≡ Ok f
    → has_numbers f ≡ numbers_of (map-EventExpr EventExpr Bool has_numbers (map-EventExpr Known EventExpr event_of y))
level_kept (event.Leaf k m) scope f h = leaf_kept scope k m f h
level_kept event.Any scope f h = let same : checked.Any ≡ f = cc in ap has_numbers (sym same) ∙ numbers_out checked.Any ∙ simp the_lemmas
level_kept event.First scope f h = let same : checked.First ≡ f = cc in ap has_numbers (sym same) ∙ numbers_out checked.First ∙ simp the_lemmas
level_kept (event.Not e) scope f h = one_kept scope checked.Not (λ b. b) (λ x. numbers_out (checked.Not x) ∙ simp the_lemmas) e f h
level_kept (event.RelPlus e) scope f h = one_kept scope checked.RelPlus (λ b. b) (λ x. numbers_out (checked.RelPlus x) ∙ simp the_lemmas) e f h
level_kept (event.Choose n e) scope f h = one_kept scope (checked.Choose n) (λ b. in_range n && b) (λ x. numbers_out (checked.Choose n x) ∙ simp the_lemmas) e f h
level_kept (event.Every n e) scope f h = one_kept scope (checked.Every n) (λ b. in_range n && b) (λ x. numbers_out (checked.Every n x) ∙ simp the_lemmas) e f h
level_kept (event.And d e) scope f h = two_kept scope checked.And (λ x y. numbers_out (checked.And x y) ∙ simp the_lemmas) d e f h
level_kept (event.Or d e) scope f h = two_kept scope checked.Or (λ x y. numbers_out (checked.Or x y) ∙ simp the_lemmas) d e f h
level_kept (event.Relative d e) scope f h = two_kept scope checked.Relative (λ x y. numbers_out (checked.Relative x y) ∙ simp the_lemmas) d e f h
level_kept (event.Prior d e) scope f h = two_kept scope checked.Prior (λ x y. numbers_out (checked.Prior x y) ∙ simp the_lemmas) d e f h
level_kept (event.Sequence d e) scope f h = two_kept scope checked.Sequence (λ x y. numbers_out (checked.Sequence x y) ∙ simp the_lemmas) d e f h
level_kept (event.Pipe d e) scope f h = two_kept scope checked.Pipe (λ x y. numbers_out (checked.Pipe x y) ∙ simp the_lemmas) d e f h
level_kept (event.Fa c d e) scope f h = three_kept scope checked.Fa (λ x y z. numbers_out (checked.Fa x y z) ∙ simp the_lemmas) c d e f h
level_kept (event.FaAbs c d e) scope f h = three_kept scope checked.FaAbs (λ x y z. numbers_out (checked.FaAbs x y z) ∙ simp the_lemmas) c d e f h
level_kept (event.Masked e x) scope f h = masked_kept scope e x f h

pub event_kept : (e : EventExpr) → Keeps e
event_kept = ind-EventExpr Keeps (λ x y q. subst (λ d. Keeps (roll-EventExpr d)) q (here y)) where
  here : (y : event.EventExpr-F Known) → Keeps (roll-EventExpr (map-EventExpr Known EventExpr event_of y))
  here y scope f h =
      level_kept y scope f (sym (ap (λ (c : Listing). c scope) (listed_roll (map-EventExpr Known EventExpr event_of y))) ∙ h)
      ∙ sym (numbers_roll (map-EventExpr Known EventExpr event_of y))
