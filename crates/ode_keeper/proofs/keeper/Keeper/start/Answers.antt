use Rattle.std.proofs.lemmas.Result.{IfOk-weaker}
use Rattle.ode_keeper.proofs.Started.{exact_journal, exact_page, exact_starts}
use Rattle.ode_keeper.proofs.keeper.Keeper.start.Goals as goal

pub returns-clause-whole : goal.returns-clause-whole
returns-clause-whole g c file entries tells has =
    exact_starts c.args.header.now file c.read.result (λ at is. c.read.ensures.bad_journal at is file tells) (λ page is. c.read.ensures.bad_page page is file tells) entries has

pub returns-clause-broken_journal : goal.returns-clause-broken_journal
returns-clause-broken_journal g c file at tells is =
    exact_journal c.args.header.now file c.read.result (λ at is. c.read.ensures.bad_journal at is file tells) (λ page is. c.read.ensures.bad_page page is file tells)
    (IfOk-weaker c.read.result _ _ (λ keeper found. found file tells) c.read.ensures.found) at is

pub returns-clause-broken_page : goal.returns-clause-broken_page
returns-clause-broken_page g c file page tells is =
    exact_page c.args.header.now file c.read.result (λ at is. c.read.ensures.bad_journal at is file tells) (λ page is. c.read.ensures.bad_page page is file tells)
    (IfOk-weaker c.read.result _ _ (λ keeper found. found file tells) c.read.ensures.found) page is
