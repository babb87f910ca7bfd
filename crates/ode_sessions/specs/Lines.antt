-- The line of a step, by its answer.
use Rattle.std.specs.Prelude.{ℕ, List, Option, Some, None}
use Rattle.ode_machine.specs.Conversation.{busy_line}
use Rattle.ode_steps.specs.declared.answer.Answer.{Answer}
use Rattle.ode_steps.specs.declared.answer.Answer.TheVariants as answers
use Rattle.ode_value.specs.Texts.{refused_line}

-- of one that is refused or put off; what settled prints its own text
abbrev pub answer_line : ℕ → Answer → Option (List ℕ)
answer_line at (answers.Refused why) = Some (refused_line at why)
answer_line at (answers.Busy session on) = Some (busy_line at session on)
answer_line at answers.Accepted = None
answer_line at (answers.Settled count) = None
