use Rattle.std.proofs.Common.{◌∙◌, ℕ, ap, arith}
use Rattle.ode_transact.proofs.OutputLaws.{counted_most}
use Rattle.ode_transact.proofs.output.Output.count.Goals as goal
use Rattle.ode_transact.specs.declared.output.Output.{Output}

pub returns : goal.returns
returns c =
    let count : ℕ → Output = λ n. record { quiet = c.args.self.now.quiet; counted = n } in
    ap count (c.saturating_add-self.ensures ∙ counted_most c.args.self.now.counted c.args.text.now (omega (arith, c.saturating_add-self.auto)))
