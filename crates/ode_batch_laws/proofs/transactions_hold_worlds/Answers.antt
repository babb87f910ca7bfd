use Rattle.std.proofs.Common.{sym, subst}
use Rattle.ode_laws.specs.Numbered.{AreNumbered}
use Rattle.ode_batch_laws.proofs.PostedLaws.{aborted_holds, committed_holds}
use Rattle.ode_batch_laws.proofs.transactions_hold_worlds.Goals as goal

pub returns-clause-commit : goal.returns-clause-commit
returns-clause-commit c = λ l base changes v x y t held rising first runs stands formed made good.
    committed_holds l base changes v x y t held rising first runs formed made stands (c.transactions_settle_alike.ensures.commit held.stored.tables y t runs)
    (c.commits_may_clean_last.ensures held.stored.tables y (subst AreNumbered (sym runs.now.stands.bones) runs.now.numbered)) good

pub returns-clause-abort : goal.returns-clause-abort
returns-clause-abort c = λ l base changes v x reason y t held rising first runs stands formed made good.
    aborted_holds l base changes v x y t held rising first runs formed made reason stands (c.transactions_settle_alike.ensures.abort held.stored.tables reason y t runs) good
