use Rattle.std.proofs.Common.{◌≡◌, ◌∙◌, append_assoc}
use Rattle.ode_gen.specs.Generating.{gen_line}
use Rattle.ode_gen.proofs.generation.gen_line.Goals as goal

pub returns : goal.returns
returns c =
    let spelled : c.in_ok-line.line.bytes.items ≡ gen_line c.args.number c.args.pieces c.args.settled c.args.refused c.args.bytes = c.in_ok-line.ensures.ok ∙ simp append_assoc in
    record { line = cc (spelled, c.into_bytes.ensures.value, c.from_vec.ensures) }
