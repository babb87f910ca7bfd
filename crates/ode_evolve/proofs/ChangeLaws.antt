-- What a change comes to where its class is at a place: what its fields come to, and then all classes anew.
use Rattle.std.proofs.Common.{◌≡◌, ℕ, ◌+◌, List, [], ◌++◌, length, take, Some, Ok, Err, sym, ap, ◌∙◌, subst}
use Rattle.ode_value.specs.declared.change.Added.{Added}
use Rattle.ode_value.specs.declared.change.Change.{Change}
use Rattle.ode_value.specs.declared.class.Class.{Class}
use Rattle.ode_value.specs.declared.reason.CheckError.TheVariants.{UnknownName}
use Rattle.ode_value.specs.declared.statement.ClassDecl.{ClassDecl}
use Rattle.ode_value.specs.declared.statement.Sort.{Sort}
use Rattle.ode_value.specs.declared.value.Value.{Value}
use Rattle.ode_value.specs.Changing.{added_by}
use Rattle.ode_types.specs.Answers.{Answers, Leaves}
use Rattle.ode_types.specs.Checks.{Check, ◌>>=◌, ◌>>◌, found, through}
use Rattle.ode_types.specs.declared.stop.CheckStop.{CheckStop}
use Rattle.ode_types.proofs.TypingLaws.{stops_leaving}
use Rattle.ode_evolve.specs.Evolving.{change_class, declares_next, knows_field, place_named}

module _ (decls : List ClassDecl) (added : List Added) (c : Change) (place : ℕ) (at_place : place_named decls c.class ≡ Some place) where
  abbrev fields_check : Check (Unit {0})
  fields_check = through (knows_field (take (place + 1) decls)) tt c.fields

  abbrev classes_check : Check (List Class)
  classes_check = through (declares_next (added ++ added_by (place + 1) (length added) c)) [] decls

  begun : change_class decls added c ≡ (fields_check >> classes_check)
  unfolding change_class
  begun =
      ap (λ o. found (UnknownName c.class) o >>= (λ p. through (knows_field (take (p + 1) decls)) tt c.fields >> through (declares_next (added ++ added_by (p + 1) (length added) c)) [] decls)) at_place

  -- of the code's lists
  fields_are : (written seen : List ClassDecl) (fields : List (List ℕ × Sort × Value)) → written ≡ decls → seen ≡ take (place + 1) written → fields ≡ c.fields
      → through (knows_field seen) tt fields ≡ fields_check
  fields_are written seen fields all up_to same =
      ap (λ ds. through (knows_field ds) tt fields) (up_to ∙ ap (take (place + 1)) all) ∙ ap (λ fs. through (knows_field (take (place + 1) decls)) tt fs) same

  classes_are : (written : List ClassDecl) (known : List Class) (whole all : List Added) (number : ℕ) → written ≡ decls → known ≡ [] → whole ≡ all
      → all ≡ added ++ added_by number (length added) c → number ≡ place + 1 → through (declares_next whole) known written ≡ classes_check
  classes_are written known whole all number is none same grown counted =
      ap (λ ds. through (declares_next whole) known ds) is ∙ ap (λ ks. through (declares_next whole) ks decls) none
      ∙ ap (λ xs. through (declares_next xs) [] decls) (same ∙ grown ∙ ap (λ n. added ++ added_by n (length added) c) counted)

  -- what stops the fields stops the change
  pub fields_stop : (written seen : List ClassDecl) (fields : List (List ℕ × Sort × Value)) → written ≡ decls → seen ≡ take (place + 1) written → fields ≡ c.fields
      → (s : CheckStop) → Leaves {S = Unit {0}} (through (knows_field seen) tt fields) tt (Err s) → Answers {T = List Class} (change_class decls added c) (Err s)
  fields_stop written seen fields all up_to same s h =
      subst (λ m. Answers {T = List Class} m (Err s)) (sym begun)
      (stops_leaving fields_check (λ _. classes_check) tt s (subst (λ m. Leaves {S = Unit {0}} m tt (Err s)) (fields_are written seen fields all up_to same) h))

  -- and where they are right, it is what the classes come to
  pub classes_next : (written seen : List ClassDecl) (fields : List (List ℕ × Sort × Value)) → written ≡ decls → seen ≡ take (place + 1) written → fields ≡ c.fields
      → through (knows_field seen) tt fields ≡ Ok tt
      → (known : List Class) (whole all : List Added) (number : ℕ) → known ≡ [] → whole ≡ all → all ≡ added ++ added_by number (length added) c → number ≡ place + 1
      → through (declares_next whole) known written ≡ change_class decls added c
  classes_next written seen fields is up_to same right known whole all number none among grown counted =
      classes_are written known whole all number is none among grown counted
      ∙ sym (begun ∙ ap (λ m. m >> classes_check) (sym (fields_are written seen fields is up_to same) ∙ right))
