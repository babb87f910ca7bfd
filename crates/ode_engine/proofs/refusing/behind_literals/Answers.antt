use Rattle.std.proofs.Common.{◌∙◌, List, subst}
use Rattle.ode_engine.specs.Refusing.{Answers}
use Rattle.ode_machine.specs.Refusals.{classes_behind}
use Rattle.ode_value.specs.declared.value.Ref.{Ref}
use Rattle.ode_engine.proofs.refusing.behind_literals.Goals as goal

pub returns-clause-answers : goal.returns-clause-answers
returns-clause-answers g c l w t runs =
    subst (λ (refs : List Ref). Answers c.classes_behind.result (classes_behind t.now.bones refs)) (c.as_slice.ensures ∙ c.in_ok-refs.ensures) (c.classes_behind.ensures.answers l w t runs)
