use Rattle.std.proofs.Common.{◌≤◌, ◌+◌, length, refl, arith}
use Rattle.ode_host.specs.Host.{written_over}
use Rattle.ode_host.proofs.Moments.{joined, weaker}
use Rattle.ode_journal.proofs.Appending.{first, second, both, puts_both}
use Rattle.ode_journal.proofs.journal.Journal.append.Goals as goal

pub returns-in_err-write_synced-clause-any_moment :
    goal.returns-in_err-write_synced-clause-any_moment
returns-in_err-write_synced-clause-any_moment g c start file frames is =
    let bytes = c.as_bytes-bytes.result.now in
    let room : c.args.self.now.at + 1 + length bytes ≤ c.args.self.now.end = omega arith in
    weaker _ _ _ _ (first start frames file c.args.self.now (g.H.Host.view c.args.host.now) is c.args.frame.now.payload bytes c.as_bytes-bytes.ensures room)
    (c.write_synced.ensures.any_moment file is.stands)

pub returns-in_err-write_synced-2-clause-any_moment :
    goal.returns-in_err-write_synced-2-clause-any_moment
returns-in_err-write_synced-2-clause-any_moment g c start file frames is =
    let bytes = c.as_bytes-bytes.result.now in
    let payload = c.args.frame.now.payload in
    let old = g.H.Host.view c.args.host.now in
    let mid = g.H.Host.view c.write_synced.new.host in
    let room : c.args.self.now.at + 1 + length bytes ≤ c.args.self.now.end = omega arith in
    let staged = c.in_ok-write_synced.ensures.stands file is.stands.tells in
    joined _ _ _ _
    (weaker _ _ _ _ (first start frames file c.args.self.now old is payload bytes c.as_bytes-bytes.ensures room) (c.write_synced.ensures.any_moment file is.stands))
    (weaker _ _ _ _ (second start frames file c.args.self.now old is payload bytes c.as_bytes-bytes.ensures room mid c.write_synced.ensures.puts.text)
    (c.write_synced-2.ensures.any_moment (written_over file (c.args.self.now.at + 1) bytes) staged))

pub returns-clause-any_moment : goal.returns-clause-any_moment
returns-clause-any_moment g c start file frames is =
    let bytes = c.as_bytes-bytes.result.now in
    let payload = c.args.frame.now.payload in
    let old = g.H.Host.view c.args.host.now in
    let mid = g.H.Host.view c.write_synced.new.host in
    let room : c.args.self.now.at + 1 + length bytes ≤ c.args.self.now.end = omega arith in
    let staged = c.in_ok-write_synced.ensures.stands file is.stands.tells in
    joined _ _ _ _
    (weaker _ _ _ _ (first start frames file c.args.self.now old is payload bytes c.as_bytes-bytes.ensures room) (c.write_synced.ensures.any_moment file is.stands))
    (weaker _ _ _ _ (second start frames file c.args.self.now old is payload bytes c.as_bytes-bytes.ensures room mid c.write_synced.ensures.puts.text)
    (c.write_synced-2.ensures.any_moment (written_over file (c.args.self.now.at + 1) bytes) staged))

pub returns-clause-acknowledged : goal.returns-clause-acknowledged
returns-clause-acknowledged g c start file frames is =
    let bytes = c.as_bytes-bytes.result.now in
    let payload = c.args.frame.now.payload in
    let room : c.args.self.now.at + 1 + length bytes ≤ c.args.self.now.end = omega arith in
    let staged = c.in_ok-write_synced.ensures.stands file is.stands.tells in
    both start frames file c.args.self.now (g.H.Host.view c.args.host.now) is payload bytes c.as_bytes-bytes.ensures room (g.H.Host.view c.write_synced-2.new.host)
    (c.args.self.now.at + length bytes) refl
    (c.in_ok-write_synced-2.ensures.stands (written_over file (c.args.self.now.at + 1) bytes) staged.tells)

pub returns-clause-puts : goal.returns-clause-puts
returns-clause-puts g c = puts_both c.args.frame.now.payload c.as_bytes-bytes.result.now _ _ _ c.as_bytes-bytes.ensures c.write_synced.ensures.puts c.write_synced-2.ensures.puts
