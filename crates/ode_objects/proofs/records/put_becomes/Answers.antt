use Rattle.std.proofs.Common.{rules, ◌≡◌, sym, subst}
use Rattle.ode_objects.specs.Records.{AreShort, put_becomes}
use Rattle.ode_objects.proofs.ShortValues.{on_ok, short_becomes}
use Rattle.ode_objects.proofs.records.put_becomes.Goals as goal

pub returns-in_ok-value-in-Is-clause-short : goal.returns-in_ok-value-in-Is-clause-short
returns-in_ok-value-in-Is-clause-short c = λ short.
    on_ok c.put.result (search rules)
    (λ (e : c.put.new.self ≡ put_becomes c.args.key c.args.becomes c.args.batch.now). subst AreShort (sym e) (short_becomes c.args.key c.args.becomes c.args.batch.now c.requires short))

pub returns-in-Goes-clause-short : goal.returns-in-Goes-clause-short
returns-in-Goes-clause-short c = λ short.
    on_ok c.remove.result (search rules)
    (λ (e : c.remove.new.self ≡ put_becomes c.args.key c.args.becomes c.args.batch.now). subst AreShort (sym e) (short_becomes c.args.key c.args.becomes c.args.batch.now c.requires short))
