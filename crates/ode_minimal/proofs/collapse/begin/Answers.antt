use Rattle.std.proofs.Common.{◌<◌, ◌^◌, ◌∙◌, ap, subst}
use Rattle.ode_minimal.specs.declared.collapse.Collapse.{Collapse}
use Rattle.ode_minimal.proofs.CollapseLaws.{collapse_begin, none_of}
use Rattle.ode_minimal.proofs.collapse.begin.Goals as goal

pub returns : goal.returns
returns c =
    let t = c.args.t.now in
    let empty : Collapse = record { states = c.new.result; numbers = c.in_ok-numbers.numbers; next = c.new-2.result } in
    collapse_begin t (subst (λ n. n < 2 ^ 16) c.states.ensures.value c.states.type_inv) (subst (λ n. 0 < n) c.states.ensures.value c.states.ensures.some)
    empty c.number.new.kept c.in_ok-number.field-0 c.new.ensures (c.in_ok-numbers.ensures ∙ ap none_of c.states.ensures.value) c.new-2.ensures c.in_ok-number.ensures
