use Rattle.std.proofs.Common.{◌∙◌, ap}
use Rattle.ode_questions.specs.Versions.{is_denoted}
use Rattle.ode_questions.proofs.LiteralLaws.{denoted_behind, undenoted_behind}
use Rattle.ode_questions.proofs.literals.class_in.Goals as goal

pub returns-then-is_denoted-clause-says : goal.returns-then-is_denoted-clause-says
returns-then-is_denoted-clause-says c o same = denoted_behind c.args.of c.args.head.now o c.is_denoted.result same (c.is_denoted.ensures ∙ ap (is_denoted c.args.of.version) c.as_slice.ensures) c.if-is_denoted.true

pub returns-else-is_denoted-clause-says : goal.returns-else-is_denoted-clause-says
returns-else-is_denoted-clause-says c o same = undenoted_behind c.args.of c.args.head.now o c.is_denoted.result same (c.is_denoted.ensures ∙ ap (is_denoted c.args.of.version) c.as_slice.ensures) c.if-is_denoted.false
