-- The masks of a class name its own fields alone: where a class that inherits from it gets fields, they stay as they are.
use Rattle.std.proofs.Common.{◌≡◌, ◌<◌, ◌≤◌, ℕ, zero, suc, ◌+◌, ◌-◌, List, [], ◌∷◌, ◌++◌, length, take, Bool, true, false, cond, Some, Ok, refl, ap, sym, ◌∙◌, subst, arith}
use Rattle.std.specs.List.{AllByRecursion, AllZip, enumerate_from, find}
use Rattle.std.specs.Str.{bytes_eq}
use Rattle.ode_value.specs.declared.binding.Param.{Param}
use Rattle.ode_value.specs.declared.change.Added.{Added}
use Rattle.ode_value.specs.declared.class.Class.{Class}
use Rattle.ode_value.specs.declared.class.Field.{Field}
use Rattle.ode_value.specs.declared.event.EventExpr.{EventExpr}
use Rattle.ode_value.specs.declared.member.TriggerDecl.{TriggerDecl}
use Rattle.ode_value.specs.declared.statement.ClassDecl.{ClassDecl}
use Rattle.ode_value.specs.declared.statement.Sort.TheVariants as sort
use Rattle.ode_value.specs.Moving.{moved, moved_event}
use Rattle.ode_types.specs.Checks.{Check}
use Rattle.ode_types.specs.Events.{listed}
use Rattle.ode_types.specs.Families.{field_named}
use Rattle.ode_types.specs.Limits.{slot_limit}
use Rattle.ode_types.specs.Scopes.{member_scope}
use Rattle.ode_types.specs.Static.{check_grown}
use Rattle.ode_types.proofs.CheckedClasses.{came_of}
use Rattle.ode_change_laws.specs.Moves.{IsAnew as IsTriggerAnew}
use Rattle.ode_moved_laws.specs.Wider.{IsWider}
use Rattle.ode_moved_laws.proofs.MovedChecks.{listed_moved}
use Rattle.ode_anew_laws.proofs.AnewClasses.{draft_head}
use Rattle.ode_anew_laws.proofs.AnewTriggers.{triggers_anew}

-- a place before the new ones
moved_low : (at more p : ℕ) → p < at → moved at more p ≡ p
moved_low zero more p less = absurd (omega (arith, less))
moved_low (suc at) more zero less = refl
moved_low (suc at) more (suc p) less = ap suc (moved_low at more p (omega (arith, less)))

-- a name's place is one of the fields
place_low : (k : ℕ) (fields : List Field) (name : List ℕ) (f : ℕ × Field) → find (λ (g : ℕ × Field). bytes_eq g.1.name name) (enumerate_from k fields) ≡ Some f → f.0 < k + length fields
place_low k [] name f h = absurd (cc (h))
place_low k (g ∷ fields) name f h = by (bytes_eq g.name name) h (place_low (k + 1) fields name f)
  where
    by : (t : Bool) → cond t (Some (k, g)) (find (λ (x : ℕ × Field). bytes_eq x.1.name name) (enumerate_from (k + 1) fields)) ≡ Some f
        → (find (λ (x : ℕ × Field). bytes_eq x.1.name name) (enumerate_from (k + 1) fields) ≡ Some f → f.0 < k + 1 + length fields) → f.0 < k + length (g ∷ fields)
    by true is rest =
        let it : (k, g) ≡ f = cc (is) in
        let here : k ≡ f.0 = ap (λ (x : ℕ × Field). x.0) it in
        omega (arith, here)
    by false is rest = let low = rest is in omega (arith, low)

taken_low : {X : Type 0} (n : ℕ) (xs : List X) → length (take n xs) ≤ length xs
taken_low zero xs = omega arith
taken_low (suc n) [] = omega arith
taken_low (suc n) (x ∷ xs) = let rest = taken_low n xs in omega (arith, rest)

named_low : (fields : List Field) (name : List ℕ) (f : ℕ × Field) → field_named fields name ≡ Some f → f.0 < length fields
named_low fields name f h =
    let low = place_low 0 (take (slot_limit - 0) fields) name f h in
    let few = taken_low (slot_limit - 0) fields in
    omega (arith, low, few)

module _ (at more : ℕ) (cs : List Class) (c : Class) (few : length c.fields ≤ at) where
  -- what stands in the class sees its fields where they are
  same_wider : (name : List ℕ) (params : List Param) → let s = member_scope cs c name params sort.Void in IsWider at more s s
  same_wider name params = record {
    seen = refl;
    next = refl;
    plain = refl;
    own = λ field f h. h ∙ (λ i. Some (sym (moved_low at more f.0 (omega (arith, few, named_low c.fields field f h))) i, f.1));
    literals = λ v o h. h;
    fits = λ o u h. h;
    params = λ k. refl;
    listed = λ k h. h;
  }

  gave : (x y : EventExpr) → ◌≡◌ {A = Check EventExpr} (Ok x) (Ok y) → x ≡ y
  gave x y h = cc (h)

  same_event : (t : TriggerDecl) (x y : EventExpr) → listed t.event (member_scope cs c t.name t.params sort.Void) ≡ Ok x → listed t.event (member_scope cs c t.name t.params sort.Void) ≡ Ok y
      → y ≡ moved_event at more x
  same_event t x y h k =
      let s = member_scope cs c t.name t.params sort.Void in
      gave y (moved_event at more x) (sym k ∙ listed_moved at more t.event s s (same_wider t.name t.params) x h)

stay_all : (f : EventExpr → EventExpr) (ts : List TriggerDecl) → AllZip (IsTriggerAnew f) ts ts → AllByRecursion (λ (t : TriggerDecl). f t.event ≡ t.event) ts
stay_all f [] all = tt
stay_all f (t ∷ ts) all = (sym all.0.event, stay_all f ts all.1)

-- the masks of a class that was accepted, at a place behind its fields
pub low_masks : (at more : ℕ) (known : List Class) (added : List Added) (d : ClassDecl) (c : Class) → check_grown known added d ≡ Ok c → length c.fields ≤ at
    → AllByRecursion (λ (t : TriggerDecl). moved_event at more t.event ≡ t.event) c.triggers
low_masks at more known added d c h few =
    let came = came_of known added d c h in
    let draft : length came.draft.fields ≤ at = subst (λ (fs : List Field). length fs ≤ at) (ap (λ (x : Class). x.fields) (sym (draft_head known added d c came))) few in
    stay_all (moved_event at more) c.triggers
    (triggers_anew (moved_event at more) known known added added d c c came came (same_event at more (known ++ came.draft ∷ []) came.draft draft))
