use Rattle.std.proofs.Common.{ℕ, subst}
use Rattle.std.proofs.lemmas.Result.{on_ok_weaker}
use Rattle.ode_host.proofs.Moments.{joined, weaker}
use Rattle.ode_host.specs.Host.{LeavesOnly}
use Rattle.ode_keep.specs.Keeping.{LeavesOldOrNew}
use Rattle.ode_paging.specs.Meaning.{PagesMeanIn}
use Rattle.ode_pagemap.specs.Holding.{format_of}
use Rattle.ode_pagemap.specs.Laws.{stands_law}
use Rattle.ode_pagemap.proofs.Committed.{looked}
use Rattle.ode_pagemap.proofs.Framing.{text_back}
use Rattle.ode_pagemap.proofs.Least.{all_least}
use Rattle.ode_pagemap.proofs.map.PageMap.commit.Goals as goal

pub returns-in-Ok-clause-fits : goal.returns-in-Ok-clause-fits
returns-in-Ok-clause-fits g c = on_ok_weaker c.write_out.result (λ done entries h. (c.in-Ok.ensures.ready entries h).within) c.write_out.ensures.done

pub returns-in-Ok-clause-any_moment : goal.returns-in-Ok-clause-any_moment
returns-in-Ok-clause-any_moment g c entries h =
    let old = g.H.Host.view c.args.host.now in
    let mid = g.H.Host.view c.prepare.new.host in
    let new = g.H.Host.view c.write_out.new.host in
    let batch = c.args.batch.now in
    let format = format_of c.args.self.now in
    let stands = stands_law c.args.self.now old entries h in
    let looks = c.in-Ok.ensures.looks in
    joined old mid new (LeavesOldOrNew (PagesMeanIn format) entries batch old)
    (looked format stands.0 old mid entries batch (g.met.H.Host.text_stands c.args.host.now) stands.1 stands.2 looks)
    (weaker mid new (LeavesOldOrNew (PagesMeanIn format) entries batch mid) (LeavesOldOrNew (PagesMeanIn format) entries batch old) (text_back format entries batch old mid looks.text)
    (subst (λ (f : ℕ). LeavesOnly mid new (LeavesOldOrNew (PagesMeanIn f) entries batch mid)) c.prepare.ensures.format
    (c.write_out.ensures.any_moment batch entries (c.in-Ok.ensures.ready entries h))))

pub returns-in-Err-DiskFault-clause-any_moment : goal.returns-in-Err-DiskFault-clause-any_moment
returns-in-Err-DiskFault-clause-any_moment g c entries h =
    let old = g.H.Host.view c.args.host.now in
    let stands = stands_law c.args.self.now old entries h in
    looked (format_of c.args.self.now) stands.0 old (g.H.Host.view c.prepare.new.host) entries c.args.batch.now (g.met.H.Host.text_stands c.args.host.now) stands.1 stands.2 c.prepare.ensures.looks

pub returns-in-Err-clause-any_moment : goal.returns-in-Err-clause-any_moment
returns-in-Err-clause-any_moment g c entries h =
    let old = g.H.Host.view c.args.host.now in
    let stands = stands_law c.args.self.now old entries h in
    looked (format_of c.args.self.now) stands.0 old (g.H.Host.view c.prepare.new.host) entries c.args.batch.now (g.met.H.Host.text_stands c.args.host.now) stands.1 stands.2 c.prepare.ensures.looks

pub returns-in-Ok-clause-writes : goal.returns-in-Ok-clause-writes
returns-in-Ok-clause-writes g c =
    all_least c.args.self.now c.prepare.new.self c.args.batch.now (g.H.Host.view c.args.host.now) (g.H.Host.view c.prepare.new.host) (g.H.Host.view c.write_out.new.host)
    c.in-Ok.ready c.in-Ok.ensures.least c.in-Ok.ensures.stay.0 c.in-Ok.ensures.stay.1 c.in-Ok.ensures.looks c.write_out.result c.write_out.ensures.region c.write_out.ensures.puts c.write_out.ensures.most
