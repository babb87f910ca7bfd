use Rattle.std.proofs.Common.{◌≡◌, nat_eq, refl, ap, ◌∙◌}
use denote.Enum.Declared.{tag_of}
use Rattle.ode_grammar.specs.contracts.terminal.Terminal.{the_type}
use Rattle.ode_grammar.specs.declared.terminal.Terminal.{Terminal}
use Rattle.ode_grammar.specs.declared.terminal.Terminal.TheVariants as terminal
use Rattle.ode_grammar.specs.Terminals.{number}
use Rattle.ode_grammar.proofs.terminal.Terminal.is.Goals as goal

tag_number : (k : Terminal) → tag_of the_type k ≡ number k
tag_number terminal.Leaf = refl
tag_number other = refl

pub returns : goal.returns
returns c = ap (λ n. nat_eq n (tag_of the_type c.args.other)) (tag_number c.args.self) ∙ ap (nat_eq (number c.args.self)) (tag_number c.args.other)
