use Rattle.std.proofs.Common.{◌≡◌, ◌∙◌, ◌++◌, ⊎_elim, List, ℕ, Some, inl, inr, sym, subst}
use Rattle.ode_host.proofs.Moments.{print_leaves}
use Rattle.ode_host.specs.Host.{LeavesCut, LeavesOnly}
use Rattle.ode_trace.proofs.EngineLaws.{stands_printed}
use Rattle.ode_ends.specs.Statuses.{IsEnding}
use Rattle.ode_begin.proofs.Leaving.{line_leaves}
use Rattle.ode_top.proofs.top.say_counts.Goals as goal

pub end_with-requires : goal.end_with-requires
end_with-requires g c = λ is. subst IsEnding is c.requires

pub returns-in-Ok-clause-status : goal.returns-in-Ok-clause-status
returns-in-Ok-clause-status g c = ⊎_elim (λ same. inl same) (λ cut. inr (inr cut)) c.end_with.ensures.status

pub returns-in-Ok-clause-said : goal.returns-in-Ok-clause-said
returns-in-Ok-clause-said g c = λ same text said.
    subst (λ (l : List ℕ). (g.H.Host.view c.end_with.new.host).text ≡ Some (text ++ l)) (c.as_slice.ensures ∙ c.in-Ok.ensures.line)
    (c.end_with.ensures.printed (λ cut. subst IsEnding (sym same ∙ cut) c.requires) text said)

pub returns-in-Ok-clause-stands : goal.returns-in-Ok-clause-stands
returns-in-Ok-clause-stands g c = λ file stands. stands_printed _ file _ _ c.end_with.ensures.prints stands

pub returns-in-Ok-clause-any_moment : goal.returns-in-Ok-clause-any_moment
returns-in-Ok-clause-any_moment g c = λ file text stands said.
    subst (λ (l : List ℕ). LeavesOnly (g.H.Host.view c.args.host.now) (g.H.Host.view c.end_with.new.host) (LeavesCut file text l)) (c.as_slice.ensures ∙ c.in-Ok.ensures.line)
    (print_leaves c.as_slice.result.now file text (g.H.Host.view c.args.host.now) (g.H.Host.view c.end_with.new.host) (g.met.H.Host.text_stands c.args.host.now) stands said c.end_with.ensures.prints)

pub returns-in-Ok-clause-leaves : goal.returns-in-Ok-clause-leaves
returns-in-Ok-clause-leaves g c = line_leaves c.args.status c.end_with.result _ _ _ c.end_with.ensures.status c.end_with.ensures.prints c.end_with.ensures.cause (λ is. subst IsEnding is c.requires)

pub returns-in-Err-clause-said : goal.returns-in-Err-clause-said
returns-in-Err-clause-said g c = λ same text said. absurd (subst IsEnding (sym same) c.requires)
