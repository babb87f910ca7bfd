use Rattle.std.proofs.Common.{◌≡◌, ◌++◌, ◌∷◌, [], Ok, ap, sym, ◌∙◌, subst}
use Rattle.ode_value.specs.declared.class.Class.{Class}
use Rattle.ode_types.specs.Answers.{Answers}
use Rattle.ode_types.specs.Declaring.{declared}
use Rattle.ode_types.specs.Static.{completed}
use Rattle.ode_checker.proofs.MemberLaws.{class_typed}
use Rattle.ode_checker.proofs.members.check_grown.Goals as goal

pub returns-clause-typed : goal.returns-clause-typed
returns-clause-typed c =
    let draft : declared c.args.known.now c.args.decl.now c.args.added.now c.in_ok-start.start ≡ Ok c.in_ok-draft.draft =
    ap (declared c.args.known.now c.args.decl.now c.args.added.now) (sym c.get-before.ensures) ∙ c.in_ok-draft.ensures in
    class_typed c.args.known.now c.args.added.now c.args.decl.now c.in_ok-start.start c.in_ok-draft.draft c.completed.result c.in_ok-start.ensures draft
    (subst (λ (d : Class). Answers {T = Class} (completed (c.args.known.now ++ d ∷ []) d c.args.decl.now c.args.added.now c.in_ok-start.start) c.completed.result) c.get-seen.ensures c.completed.ensures)
