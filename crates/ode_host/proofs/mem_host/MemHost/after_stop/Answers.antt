use Rattle.std.proofs.Common.{◌≡◌, ◌∙◌, List, ℕ, length, sym, subst, rules}
use Rattle.std.proofs.lemmas.Result.{IfOk-weaker}
use Rattle.ode_host.specs.Mem.{IsFresh, disk_of}
use Rattle.ode_host.specs.Replay.{LeftAt}
use Rattle.ode_host.specs.Tears.{torn_image}
use Rattle.ode_host.proofs.Tearing.{torn_left}
use Rattle.ode_host.proofs.mem_host.MemHost.after_stop.Goals as goal

pub returns-clause-left : goal.returns-clause-left
returns-clause-left c =
    let host = c.args.self in
    let calls = host.tape.calls.items in
    let torn = c.match-self.torn in
    let image : c.in_ok-image.image.items ≡ torn_image torn (disk_of host).synced (disk_of host).pending = search rules in
    let left = torn_left torn host.tape.start.items host.tape.image.items host.tape.text.items calls host.tape.kept in
    IfOk-weaker c.new-3.result (IsFresh c.in_ok-image.image.items) _
    (λ next fresh. subst (λ (l : List ℕ). LeftAt host.tape.start.items calls (length calls) l host.tape.text.items) (sym (fresh.reads ∙ image)) left)
    c.new-3.ensures.fresh
