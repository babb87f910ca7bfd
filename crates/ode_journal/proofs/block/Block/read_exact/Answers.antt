use Rattle.std.proofs.Common.{◌∙◌, ℕ, ap, arith, drop, length, take}
use Rattle.std.proofs.lemmas.Bool.{OnTrue_at, OnTrue_from}
use Rattle.ode_journal.proofs.Ahead.{joined_read}
use Rattle.ode_journal.proofs.block.Block.read_exact.Goals as goal

pub returns-clause-bytes : goal.returns-clause-bytes
returns-clause-bytes g c = OnTrue_from c.in_ok-whole.whole _ (λ yes file reads.
    joined_read c.copy-have.result (length c.copy-have.new.to) c.args.at c.read_rest.new.to file (omega (arith, c.copy-have.ensures.bound, c.copy-have.auto.to))
    (c.read_rest.ensures.before ∙ c.copy-have.ensures.bytes file reads.ahead)
    (OnTrue_at yes c.in_ok-whole.ensures.bytes file reads.tells) ∙ ap (λ (k : ℕ). take k (drop c.args.at file)) c.copy-have.auto.to)
