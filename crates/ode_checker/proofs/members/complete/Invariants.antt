use Rattle.std.proofs.Common.{◌≡◌, ◌++◌, ◌∷◌, [], drop}
use Rattle.ode_types.specs.Declaring.{with_member}
use Rattle.ode_types.specs.Static.{checked_member}
use Rattle.ode_types.proofs.TurnLaws.{added}
use Rattle.ode_checker.proofs.members.complete.Given as goal

abbrev pub invariant-loop-member : goal.invariant-loop-member
invariant-loop-member l =
    added (checked_member (l.known ++ l.draft ∷ []) l.draft) with_member l.initial.class l.member-items
    ≡ added (checked_member (l.known ++ l.draft ∷ []) l.draft) with_member l.class (drop l.member-index l.member-items)
