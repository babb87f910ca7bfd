use Rattle.std.proofs.Common.{◌≡◌, ◌∙◌, append_assoc, arith}
use Rattle.ode_value.specs.Texts.{line}
use Rattle.ode_gen.specs.Generating.{call_text}
use Rattle.ode_gen.proofs.generation.put_given_up.Goals as goal

pub returns : goal.returns
returns c =
    let spelled : c.as_bytes.result.now ≡ line (call_text 2 c.args.amount) = c.as_bytes.ensures.value ∙ c.in_ok-line.ensures.ok ∙ simp append_assoc in
    grind (arith, spelled)
