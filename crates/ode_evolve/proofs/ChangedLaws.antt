-- What a change that is accepted has: its class, fields that fit, and classes that are accepted anew, each with its added fields.
use Rattle.std.proofs.Common.{◌≡◌, ℕ, ◌+◌, List, [], ◌∷◌, ◌++◌, length, take, true, Some, Ok, sym, ◌∙◌, subst, append-nil, append_assoc}
use Rattle.std.specs.List.{AllByRecursion}
use Rattle.ode_value.specs.declared.change.Added.{Added}
use Rattle.ode_value.specs.declared.change.Change.{Change}
use Rattle.ode_value.specs.declared.class.Class.{Class}
use Rattle.ode_value.specs.declared.reason.CheckError.TheVariants.{UnknownName, WrongSort}
use Rattle.ode_value.specs.declared.statement.ClassDecl.{ClassDecl}
use Rattle.ode_value.specs.declared.statement.Sort.{Sort}
use Rattle.ode_value.specs.declared.value.Value.{Value}
use Rattle.ode_value.specs.Changing.{added_by, added_to}
use Rattle.ode_types.specs.Checks.{◌>>◌, found, needs, through}
use Rattle.ode_types.specs.Static.{check_grown}
use Rattle.ode_types.proofs.CheckedClasses.{bind-ok, needs-ok}
use Rattle.ode_types.proofs.KeptLaws.{found-ok}
use Rattle.ode_evolve.specs.Evolving.{change_class, declares_next, is_literal, knows_class, knows_field, place_named}

-- a new field: the class in its sort is among these, and its literal is one of its sort
pub record IsNew (seen : List ClassDecl) (f : List ℕ × Sort × Value) : Type 0 where
  pub known : knows_class seen f.1 ≡ Ok tt
  pub literal : is_literal f.1 f.2 ≡ true

-- each class is what its tree comes to behind those before it, with the fields that were added to it
abbrev pub AreGrown : List Added → List Class → List ClassDecl → List Class → Type 0
AreGrown added known [] [] = Unit {0}
AreGrown added known [] (c ∷ cs) = ⊥
AreGrown added known (d ∷ decls) [] = ⊥
AreGrown added known (d ∷ decls) (c ∷ cs) = (check_grown known (added_to (length known + 1) added) d ≡ Ok c) × AreGrown added (known ++ c ∷ []) decls cs

pub record IsChanged (decls : List ClassDecl) (added : List Added) (c : Change) (classes : List Class) : Type 0 where
  pub place : ℕ
  pub found : place_named decls c.class ≡ Some place
  pub fields : AllByRecursion (IsNew (take (place + 1) decls)) c.fields
  pub grown : AreGrown (added ++ added_by (place + 1) (length added) c) [] decls classes

-- ---- the fields

new_field : (seen : List ClassDecl) (f : List ℕ × Sort × Value) (u v : Unit {0}) → knows_field seen u f ≡ Ok v → IsNew seen f
new_field seen f u v h =
    let p = bind-ok (knows_class seen f.1) (λ _. needs (WrongSort f.0) (is_literal f.1 f.2)) v h in
    record { known = p.1; literal = needs-ok (WrongSort f.0) (is_literal f.1 f.2) v p.2 }

new_fields : (seen : List ClassDecl) (fs : List (List ℕ × Sort × Value)) (u v : Unit {0}) → through (knows_field seen) u fs ≡ Ok v → AllByRecursion (IsNew seen) fs
new_fields seen [] u v h = tt
new_fields seen (f ∷ fs) u v h =
    let p = bind-ok (knows_field seen u f) (λ w. through (knows_field seen) w fs) v h in
    (new_field seen f u p.0 p.1, new_fields seen fs p.0 v p.2)

-- ---- the classes

-- those behind the ones that are known
record GrownBehind (added : List Added) (known : List Class) (decls : List ClassDecl) (all : List Class) : Type 0 where
  classes : List Class
  is : known ++ classes ≡ all
  grown : AreGrown added known decls classes

all_grown : (added : List Added) (decls : List ClassDecl) (known all : List Class) → through (declares_next added) known decls ≡ Ok all → GrownBehind added known decls all
all_grown added [] known all h = let same : known ≡ all = cc in record { classes = []; is = append-nil known ∙ same; grown = tt }
all_grown added (d ∷ decls) known all h =
    let p = bind-ok (declares_next added known d) (λ next. through (declares_next added) next decls) all h in
    let q = bind-ok (check_grown known (added_to (length known + 1) added) d) (λ c. Ok (known ++ c ∷ [])) p.0 p.1 in
    let next : known ++ q.0 ∷ [] ≡ p.0 = cc (q.2) in
    let more : GrownBehind added (known ++ q.0 ∷ []) decls all = subst (λ ks. GrownBehind added ks decls all) (sym next) (all_grown added decls p.0 all p.2) in
    record { classes = q.0 ∷ more.classes; is = sym (append_assoc known (q.0 ∷ []) more.classes) ∙ more.is; grown = (q.1, more.grown) }

-- ---- the whole

pub changed_is : (decls : List ClassDecl) (added : List Added) (c : Change) (classes : List Class) → change_class decls added c ≡ Ok classes → IsChanged decls added c classes
unfolding change_class
changed_is decls added c classes h =
    let all : ℕ → List Added = λ place. added ++ added_by (place + 1) (length added) c in
    let first = bind-ok (found (UnknownName c.class) (place_named decls c.class))
    (λ place. through (knows_field (take (place + 1) decls)) tt c.fields >> through (declares_next (all place)) [] decls) classes h in
    let place = first.0 in
    let second = bind-ok (through (knows_field (take (place + 1) decls)) tt c.fields) (λ _. through (declares_next (all place)) [] decls) classes first.2 in
    let behind = all_grown (all place) decls [] classes second.2 in
    record {
      place = place;
      found = found-ok (UnknownName c.class) (place_named decls c.class) place first.1;
      fields = new_fields (take (place + 1) decls) c.fields tt second.0 second.1;
      grown = subst (AreGrown (all place) [] decls) behind.is behind.grown;
    }
