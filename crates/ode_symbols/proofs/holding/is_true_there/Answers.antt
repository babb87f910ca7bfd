use Rattle.std.proofs.Common.{List, append-nil, ap, ◌∙◌}
use Rattle.ode_value.specs.declared.value.Value.{Value}
use Rattle.ode_value.specs.Masks.{is_true, plain}
use Rattle.ode_symbols.proofs.holding.is_true_there.Goals as goal

pub returns : goal.returns
returns c =
    c.is_true.ensures ∙ ap (λ (locals : List Value). is_true (plain c.args.mask.now (record { locals = locals; own = c.args.own.now }))) (append-nil c.args.params.now)
