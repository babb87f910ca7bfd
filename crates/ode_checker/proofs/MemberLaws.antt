-- Where a member of a class stands.
use Rattle.std.proofs.Common.{◌≡◌, ℕ, List, [], ◌∷◌, ◌++◌, length, false, Some, Result, Ok, Err, ap, sym, ◌∙◌, subst}
use Rattle.std.specs.Prelude.{IfOk}
use Rattle.std.specs.Option.{option_copied}
use Rattle.ode_value.specs.declared.binding.Param.{Param}
use Rattle.ode_value.specs.declared.change.Added.{Added}
use Rattle.ode_value.specs.declared.class.Class.{Class}
use Rattle.ode_value.specs.declared.statement.ClassDecl.{ClassDecl}
use Rattle.ode_value.specs.declared.statement.Sort.{Sort}
use Rattle.ode_types.specs.Answers.{Answers}
use Rattle.ode_types.specs.Checks.{Check, ◌>>=◌}
use Rattle.ode_types.specs.Declaring.{begins, declared}
use Rattle.ode_types.specs.Kept.{IsTypedClass}
use Rattle.ode_types.specs.Limits.{in_slots}
use Rattle.ode_types.specs.Scopes.{member_scope}
use Rattle.ode_typing.specs.Places.{scope_of}
use Rattle.ode_types.specs.Static.{check_grown, completed}
use Rattle.ode_typing.specs.declared.place.Locals.{Locals}
use Rattle.ode_typing.specs.declared.place.Place.{Place}
use Rattle.ode_types.specs.declared.stop.CheckStop.{CheckStop}
use Rattle.ode_types.proofs.KeptClasses.{typed_class}

pub scope_is : (place : Place) (locals : Locals) (classes : List Class) (c : Class) (name : List ℕ) (params : List Param) (result : Sort)
    → place.known ≡ classes → option_copied place.class ≡ Some c → place.member.now ≡ name → place.result.now ≡ result → place.is_plain ≡ false → place.literals.now ≡ []
    → locals.seen ≡ in_slots 0 params → locals.next ≡ length params → scope_of place locals ≡ member_scope classes c name params result
scope_is place locals classes c name params result known class member returned plain literals seen next =
    λ i. record {
      classes = known i;
      class = class i;
      member = member i;
      seen = seen i;
      next = next i;
      result = returned i;
      is_plain = plain i;
      literals = literals i;
    }

-- both passes, one behind the other
module _ (known : List Class) (added : List Added) (d : ClassDecl) where
  both : (start draft : Class) → begins known d ≡ Ok start → declared known d added start ≡ Ok draft → check_grown known added d ≡ completed (known ++ draft ∷ []) draft d added start
  unfolding check_grown
  both start draft first second =
      ap (λ (m : Check Class). m >>= (λ s. declared known d added s >>= (λ e. completed (known ++ e ∷ []) e d added s))) first
      ∙ ap (λ (m : Check Class). m >>= (λ e. completed (known ++ e ∷ []) e d added start)) second

  pub class_answered : (start draft : Class) (r : Result Class CheckStop) → begins known d ≡ Ok start → declared known d added start ≡ Ok draft
      → Answers (completed (known ++ draft ∷ []) draft d added start) r → Answers (check_grown known added d) r
  class_answered start draft r first second h = subst (λ (m : Check Class). Answers m r) (sym (both start draft first second)) h

  typed_answer : (r : Result Class CheckStop) → Answers (check_grown known added d) r → IfOk r (λ c. IsTypedClass (known ++ c ∷ []) c)
  typed_answer (Ok c) h = typed_class known added d c h
  typed_answer (Err e) h = tt

  pub class_typed : (start draft : Class) (r : Result Class CheckStop) → begins known d ≡ Ok start → declared known d added start ≡ Ok draft
      → Answers (completed (known ++ draft ∷ []) draft d added start) r → IfOk r (λ c. IsTypedClass (known ++ c ∷ []) c)
  class_typed start draft r first second h = typed_answer r (class_answered start draft r first second h)
