-- What a check of an event expression gives has listed kinds and typed masks.
use Rattle.std.proofs.Common.{◌≡◌, ℕ, zero, suc, ◌+◌, ◌-◌, List, [], ◌∷◌, ◌++◌, length, take, Bool, true, false, Option, Some, None, Ok, refl, ap, sym, ◌∙◌, subst, append_assoc}
use Rattle.std.specs.Prelude.{◌&&◌, slice_get}
use Rattle.std.specs.List.{AllByRecursion, enumerate_from, list_any}
use Rattle.std.specs.Option.{option_map_or}
use Rattle.ode_value.specs.declared.binding.Param.{Param}
use Rattle.ode_value.specs.declared.class.Class.{Class}
use Rattle.ode_value.specs.declared.event.EventExpr.{EventExpr, out-EventExpr, roll-EventExpr, map-EventExpr, fold-roll-EventExpr, fold_out-EventExpr, ind-EventExpr, the_lemmas}
use Rattle.ode_value.specs.declared.event.EventExpr.TheOpen as event
use Rattle.ode_value.specs.declared.event.EventExpr.TheVariants as checked
use Rattle.ode_value.specs.declared.event.Kind.{Kind}
use Rattle.ode_value.specs.declared.statement.Expr.{Expr}
use Rattle.ode_value.specs.declared.statement.Sort.{Sort}
use Rattle.ode_value.specs.declared.statement.Sort.TheVariants as sort
use Rattle.ode_value.specs.Same.{same_kind}
use Rattle.ode_types.specs.Checks.{◌>>=◌, needs}
use Rattle.ode_types.specs.Events.{Listing, event_method_in, event_params, is_listed, leaf_listed, listed, listing_of, mask, masked}
use Rattle.ode_types.specs.Kept.{Setting, are_masks, are_masks_of, held, is_fit, is_leaf, is_mask, plain_setting}
use Rattle.ode_types.specs.Limits.{slot_limit}
use Rattle.ode_types.specs.Scopes.{Scope, plain_scope, with_params, wrong}
use Rattle.ode_types.specs.Typing.{fitting}
use Rattle.ode_types.proofs.CheckedClasses.{bind-ok, needs-ok}
use Rattle.ode_types.proofs.ClassLists.{length-more, slice_get-behind}
use Rattle.ode_types.proofs.KeptLaws.{Holds, Sees, Shows, setting_of}
use Rattle.ode_types.proofs.KeptRights.{both_true, fitting_kept}
use Rattle.ode_types.proofs.KeptStatements.{still_hold}

-- ---- parameters and their slots

-- parameters hold their sorts in the slots behind those that are there
pub held_behind : (params : List Param) (front : List (Option Sort)) (place n : ℕ) → place ≡ length front → AllByRecursion (Holds (front ++ held params)) (enumerate_from place (take n params))
held_behind [] front place zero is = tt
held_behind [] front place (suc n) is = tt
held_behind (p ∷ ps) front place zero is = tt
held_behind (p ∷ ps) front place (suc n) is =
    let here : slice_get (front ++ Some p.sort ∷ held ps) place ≡ Some (Some p.sort) =
    ap (slice_get (front ++ Some p.sort ∷ held ps)) is ∙ slice_get-behind (λ _. true) front (Some p.sort) (held ps) in
    let longer : place + 1 ≡ length (front ++ Some p.sort ∷ []) = ap (λ m. m + 1) is ∙ sym (length-more (λ _. true) (Some p.sort) front) in
    let rest : AllByRecursion (Holds (front ++ Some p.sort ∷ held ps)) (enumerate_from (place + 1) (take n ps)) =
    subst (λ (slots : List (Option Sort)). AllByRecursion (Holds slots) (enumerate_from (place + 1) (take n ps))) (append_assoc front (Some p.sort ∷ []) (held ps))
    (held_behind ps (front ++ Some p.sort ∷ []) (place + 1) n longer) in
    (here, rest)

pub length_held : (params : List Param) → length (held params) ≡ length params
length_held [] = refl
length_held (p ∷ ps) = ap suc (length_held ps)

pub all_more : {X : Type 0} (P : X → Type 0) (xs ys : List X) → AllByRecursion P xs → AllByRecursion P ys → AllByRecursion P (xs ++ ys)
all_more P [] ys p q = q
all_more P (x ∷ xs) ys p q = (p.0, all_more P xs ys p.1 q)

-- what a mask sees
sees_more : (scope : Scope) (slots : List (Option Sort)) → Shows scope slots → (params : List Param) → Sees (with_params params scope) (slots ++ held params)
sees_more scope slots shows params =
    all_more (Holds (slots ++ held params)) scope.seen (enumerate_from scope.next (take (slot_limit - scope.next) params))
    (still_hold slots (held params) scope.seen shows.seen) (held_behind params slots scope.next (slot_limit - scope.next) (sym shows.next))

-- ---- events by one level

are_masks_out : (e : EventExpr) → are_masks e ≡ are_masks_of (map-EventExpr EventExpr (Setting → Bool) are_masks (out-EventExpr e))
unfolding are_masks
are_masks_out e = fold_out-EventExpr (Setting → Bool) are_masks_of e

module _ (at : Setting) where
  leaf-masks : (k : Kind) (test : Option Expr) → are_masks (checked.Leaf k test) at ≡ is_leaf k test at
  leaf-masks k test = ap (λ (s : Setting → Bool). s at) (are_masks_out (checked.Leaf k test)) ∙ simp the_lemmas

  any-masks : are_masks checked.Any at ≡ true
  any-masks = ap (λ (s : Setting → Bool). s at) (are_masks_out checked.Any) ∙ simp the_lemmas

  first-masks : are_masks checked.First at ≡ true
  first-masks = ap (λ (s : Setting → Bool). s at) (are_masks_out checked.First) ∙ simp the_lemmas

  not-masks : (e : EventExpr) → are_masks (checked.Not e) at ≡ are_masks e at
  not-masks e = ap (λ (s : Setting → Bool). s at) (are_masks_out (checked.Not e)) ∙ simp the_lemmas

  choose-masks : (n : ℕ) (e : EventExpr) → are_masks (checked.Choose n e) at ≡ are_masks e at
  choose-masks n e = ap (λ (s : Setting → Bool). s at) (are_masks_out (checked.Choose n e)) ∙ simp the_lemmas

  every-masks : (n : ℕ) (e : EventExpr) → are_masks (checked.Every n e) at ≡ are_masks e at
  every-masks n e = ap (λ (s : Setting → Bool). s at) (are_masks_out (checked.Every n e)) ∙ simp the_lemmas

  and-masks : (e f : EventExpr) → are_masks (checked.And e f) at ≡ (are_masks e at && are_masks f at)
  and-masks e f = ap (λ (s : Setting → Bool). s at) (are_masks_out (checked.And e f)) ∙ simp the_lemmas

  or-masks : (e f : EventExpr) → are_masks (checked.Or e f) at ≡ (are_masks e at && are_masks f at)
  or-masks e f = ap (λ (s : Setting → Bool). s at) (are_masks_out (checked.Or e f)) ∙ simp the_lemmas

  relative-masks : (e f : EventExpr) → are_masks (checked.Relative e f) at ≡ (are_masks e at && are_masks f at)
  relative-masks e f = ap (λ (s : Setting → Bool). s at) (are_masks_out (checked.Relative e f)) ∙ simp the_lemmas

  prior-masks : (e f : EventExpr) → are_masks (checked.Prior e f) at ≡ (are_masks e at && are_masks f at)
  prior-masks e f = ap (λ (s : Setting → Bool). s at) (are_masks_out (checked.Prior e f)) ∙ simp the_lemmas

  sequence-masks : (e f : EventExpr) → are_masks (checked.Sequence e f) at ≡ (are_masks e at && are_masks f at)
  sequence-masks e f = ap (λ (s : Setting → Bool). s at) (are_masks_out (checked.Sequence e f)) ∙ simp the_lemmas

  fa-masks : (e f g : EventExpr) → are_masks (checked.Fa e f g) at ≡ (are_masks e at && are_masks f at && are_masks g at)
  fa-masks e f g = ap (λ (s : Setting → Bool). s at) (are_masks_out (checked.Fa e f g)) ∙ simp the_lemmas

  faabs-masks : (e f g : EventExpr) → are_masks (checked.FaAbs e f g) at ≡ (are_masks e at && are_masks f at && are_masks g at)
  faabs-masks e f g = ap (λ (s : Setting → Bool). s at) (are_masks_out (checked.FaAbs e f g)) ∙ simp the_lemmas

  relplus-masks : (e : EventExpr) → are_masks (checked.RelPlus e) at ≡ are_masks e at
  relplus-masks e = ap (λ (s : Setting → Bool). s at) (are_masks_out (checked.RelPlus e)) ∙ simp the_lemmas

  pipe-masks : (e f : EventExpr) → are_masks (checked.Pipe e f) at ≡ (are_masks e at && are_masks f at)
  pipe-masks e f = ap (λ (s : Setting → Bool). s at) (are_masks_out (checked.Pipe e f)) ∙ simp the_lemmas

  masked-masks : (e : EventExpr) (x : Expr) → are_masks (checked.Masked e x) at ≡ (are_masks e at && is_fit (plain_setting at) sort.Bool x)
  masked-masks e x = ap (λ (s : Setting → Bool). s at) (are_masks_out (checked.Masked e x)) ∙ simp the_lemmas

-- ---- what a check gives

-- what an induction shows of an event expression
abbrev Keeps : EventExpr → Type 0
Keeps e = (scope : Scope) (slots : List (Option Sort)) → Shows scope slots → (f : EventExpr) → listed e scope ≡ Ok f → are_masks f (setting_of scope slots) ≡ true

abbrev Known : Type 0
Known = (e : EventExpr) × Keeps e

abbrev event_of : Known → EventExpr
event_of x = x.0

module _ (scope : Scope) (slots : List (Option Sort)) (shows : Shows scope slots) where
  abbrev at : Setting
  at = setting_of scope slots

  mask_kept : (k : Kind) (m t : Option Expr) → mask k m scope ≡ Ok t → option_map_or (is_mask at (event_method_in scope.classes scope.class k)) t true ≡ true
  unfolding mask
  mask_kept k None t h =
      let none : Option Expr = None in
      let same : none ≡ t = cc in
      subst (λ (o : Option Expr). option_map_or (is_mask at (event_method_in scope.classes scope.class k)) o true ≡ true) same refl
  mask_kept k (Some e) t h =
      let params = event_params scope k in
      let inner = plain_scope (with_params params scope) in
      let p = bind-ok (fitting sort.Bool e inner) (λ x. Ok (Some x)) t h in
      let same : Some p.0 ≡ t = cc (p.2) in
      subst (λ (o : Option Expr). option_map_or (is_mask at (event_method_in scope.classes scope.class k)) o true ≡ true) same
      (fitting_kept inner (slots ++ held params) (sees_more scope slots shows params) sort.Bool e p.0 p.1)

  leaf_kept : (k : Kind) (m : Option Expr) (f : EventExpr) → leaf_listed k m scope ≡ Ok f → are_masks f at ≡ true
  unfolding leaf_listed
  leaf_kept k m f h =
      let p = bind-ok (needs (wrong scope) (is_listed scope k)) (λ _. mask k m scope >>= (λ t. Ok (checked.Leaf k t))) f h in
      let q = bind-ok (mask k m scope) (λ t. Ok (checked.Leaf k t)) f p.2 in
      let same : checked.Leaf k q.0 ≡ f = cc (q.2) in
      let kind : is_listed scope k ≡ true = needs-ok (wrong scope) (is_listed scope k) p.0 p.1 in
      subst (λ (x : EventExpr). are_masks x at ≡ true) same
      (leaf-masks at k q.0 ∙ both_true (option_map_or (λ (c : Class). list_any (same_kind k) c.kinds) scope.class false) (option_map_or (is_mask at (event_method_in scope.classes scope.class k)) q.0 true) kind (mask_kept k m q.0 q.1))

  one_kept : (make : EventExpr → EventExpr) → ((x : EventExpr) → are_masks (make x) at ≡ are_masks x at) → (e : Known) (f : EventExpr) → listed e.0 scope >>= (λ a. Ok (make a)) ≡ Ok f → are_masks f at ≡ true
  one_kept make level e f h =
      let p = bind-ok (listed e.0 scope) (λ a. Ok (make a)) f h in
      let same : make p.0 ≡ f = cc (p.2) in
      subst (λ (x : EventExpr). are_masks x at ≡ true) same (level p.0 ∙ e.1 scope slots shows p.0 p.1)

  two_kept : (make : EventExpr → EventExpr → EventExpr) → ((x y : EventExpr) → are_masks (make x y) at ≡ (are_masks x at && are_masks y at))
      → (d e : Known) (f : EventExpr) → listed d.0 scope >>= (λ a. listed e.0 scope >>= (λ b. Ok (make a b))) ≡ Ok f → are_masks f at ≡ true
  two_kept make level d e f h =
      let p = bind-ok (listed d.0 scope) (λ a. listed e.0 scope >>= (λ b. Ok (make a b))) f h in
      let q = bind-ok (listed e.0 scope) (λ b. Ok (make p.0 b)) f p.2 in
      let same : make p.0 q.0 ≡ f = cc (q.2) in
      subst (λ (x : EventExpr). are_masks x at ≡ true) same
      (level p.0 q.0 ∙ both_true (are_masks p.0 at) (are_masks q.0 at) (d.1 scope slots shows p.0 p.1) (e.1 scope slots shows q.0 q.1))

  three_kept : (make : EventExpr → EventExpr → EventExpr → EventExpr) → ((x y z : EventExpr) → are_masks (make x y z) at ≡ (are_masks x at && are_masks y at && are_masks z at))
      → (c d e : Known) (f : EventExpr) → listed c.0 scope >>= (λ x. listed d.0 scope >>= (λ y. listed e.0 scope >>= (λ z. Ok (make x y z)))) ≡ Ok f → are_masks f at ≡ true
  three_kept make level c d e f h =
      let p = bind-ok (listed c.0 scope) (λ x. listed d.0 scope >>= (λ y. listed e.0 scope >>= (λ z. Ok (make x y z)))) f h in
      let q = bind-ok (listed d.0 scope) (λ y. listed e.0 scope >>= (λ z. Ok (make p.0 y z))) f p.2 in
      let r = bind-ok (listed e.0 scope) (λ z. Ok (make p.0 q.0 z)) f q.2 in
      let same : make p.0 q.0 r.0 ≡ f = cc (r.2) in
      subst (λ (x : EventExpr). are_masks x at ≡ true) same
      (level p.0 q.0 r.0
      ∙ both_true (are_masks p.0 at && are_masks q.0 at) (are_masks r.0 at)
      (both_true (are_masks p.0 at) (are_masks q.0 at) (c.1 scope slots shows p.0 p.1) (d.1 scope slots shows q.0 q.1)) (e.1 scope slots shows r.0 r.1))

  masked_kept : (e : Known) (x : Expr) (f : EventExpr) → masked (listed e.0) x scope ≡ Ok f → are_masks f at ≡ true
  unfolding masked
  masked_kept e x f h =
      let p = bind-ok (listed e.0 scope) (λ a. fitting sort.Bool x (plain_scope scope) >>= (λ y. Ok (checked.Masked a y))) f h in
      let q = bind-ok (fitting sort.Bool x (plain_scope scope)) (λ y. Ok (checked.Masked p.0 y)) f p.2 in
      let same : checked.Masked p.0 q.0 ≡ f = cc (q.2) in
      subst (λ (z : EventExpr). are_masks z at ≡ true) same
      (masked-masks at p.0 q.0
      ∙ both_true (are_masks p.0 at) (is_fit (plain_setting at) sort.Bool q.0) (e.1 scope slots shows p.0 p.1)
      (fitting_kept (plain_scope scope) slots shows.seen sort.Bool x q.0 q.1))

level_kept : (y : event.EventExpr-F Known) (scope : Scope) (slots : List (Option Sort)) → Shows scope slots → (f : EventExpr)
    → listing_of (map-EventExpr EventExpr Listing listed (map-EventExpr Known EventExpr event_of y)) scope ≡ Ok f → are_masks f (setting_of scope slots) ≡ true
level_kept (event.Leaf k m) scope slots shows f h = leaf_kept scope slots shows k m f h
level_kept event.Any scope slots shows f h =
    let same : checked.Any ≡ f = cc in
    subst (λ (x : EventExpr). are_masks x (setting_of scope slots) ≡ true) same (any-masks (setting_of scope slots))
level_kept event.First scope slots shows f h =
    let same : checked.First ≡ f = cc in
    subst (λ (x : EventExpr). are_masks x (setting_of scope slots) ≡ true) same (first-masks (setting_of scope slots))
level_kept (event.Not e) scope slots shows f h = one_kept scope slots shows checked.Not (not-masks (setting_of scope slots)) e f h
level_kept (event.And d e) scope slots shows f h = two_kept scope slots shows checked.And (and-masks (setting_of scope slots)) d e f h
level_kept (event.Or d e) scope slots shows f h = two_kept scope slots shows checked.Or (or-masks (setting_of scope slots)) d e f h
level_kept (event.Relative d e) scope slots shows f h = two_kept scope slots shows checked.Relative (relative-masks (setting_of scope slots)) d e f h
level_kept (event.Prior d e) scope slots shows f h = two_kept scope slots shows checked.Prior (prior-masks (setting_of scope slots)) d e f h
level_kept (event.Sequence d e) scope slots shows f h = two_kept scope slots shows checked.Sequence (sequence-masks (setting_of scope slots)) d e f h
level_kept (event.Choose n e) scope slots shows f h = one_kept scope slots shows (checked.Choose n) (choose-masks (setting_of scope slots) n) e f h
level_kept (event.Every n e) scope slots shows f h = one_kept scope slots shows (checked.Every n) (every-masks (setting_of scope slots) n) e f h
level_kept (event.Fa c d e) scope slots shows f h = three_kept scope slots shows checked.Fa (fa-masks (setting_of scope slots)) c d e f h
level_kept (event.FaAbs c d e) scope slots shows f h = three_kept scope slots shows checked.FaAbs (faabs-masks (setting_of scope slots)) c d e f h
level_kept (event.RelPlus e) scope slots shows f h = one_kept scope slots shows checked.RelPlus (relplus-masks (setting_of scope slots)) e f h
level_kept (event.Pipe d e) scope slots shows f h = two_kept scope slots shows checked.Pipe (pipe-masks (setting_of scope slots)) d e f h
level_kept (event.Masked e x) scope slots shows f h = masked_kept scope slots shows e x f h

listed-roll : (d : event.EventExpr-F EventExpr) → listed (roll-EventExpr d) ≡ listing_of (map-EventExpr EventExpr Listing listed d)
unfolding listed
listed-roll d = fold-roll-EventExpr Listing listing_of d

pub event_kept : (e : EventExpr) → Keeps e
event_kept = ind-EventExpr Keeps (λ x y q. subst (λ d. Keeps (roll-EventExpr d)) q (here y)) where
  here : (y : event.EventExpr-F Known) → Keeps (roll-EventExpr (map-EventExpr Known EventExpr event_of y))
  here y scope slots shows f h =
      level_kept y scope slots shows f (sym (ap (λ (c : Listing). c scope) (listed-roll (map-EventExpr Known EventExpr event_of y))) ∙ h)
