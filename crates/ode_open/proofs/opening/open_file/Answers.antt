use Rattle.std.proofs.Common.{◌≡◌, Err, ap, inr, refl, subst}
use Rattle.std.proofs.lemmas.Result.{err_from_is_err_and}
use Rattle.ode_host.proofs.Moments.{looks_joined, stands_looks, tells_looks}
use Rattle.ode_keep.specs.Entries.{AreBytes}
use Rattle.ode_keeper.proofs.Fitting.{map_fits}
use Rattle.ode_keeper.proofs.Held.{means_map, one_held}
use Rattle.ode_open.proofs.AllBytes.{all_bytes}
use Rattle.ode_open.proofs.Refusing.{is_opened, why_header, why_records, why_start}
use Rattle.ode_open.proofs.opening.open_file.Goals as goal

pub returns-in_err-header-clause-answer : goal.returns-in_err-header-clause-answer
returns-in_err-header-clause-answer g c = λ image stands.
    let p = err_from_is_err_and c.from_residual.result c.from_residual.ensures.1 in
    rw (p.1, p.2) (why_header image c.in_err-header.field-0.0 (c.in_err-header.ensures.answer image stands.tells))

pub returns-in_err-keeper-clause-answer : goal.returns-in_err-keeper-clause-answer
returns-in_err-keeper-clause-answer g c = λ image stands.
    let p = err_from_is_err_and c.from_residual-in_err-keeper.result c.from_residual-in_err-keeper.ensures.1 in
    let tells = tells_looks image _ _ c.read_header.ensures.looks stands.tells in
    rw (p.1, p.2)
    (why_start image c.in_ok-header.header (c.in_ok-header.ensures.found image stands.tells) c.in_err-keeper.field-0.0
    (λ at is. c.in_err-keeper.ensures.bad_journal at (ap Err is) image tells) (λ page is. c.in_err-keeper.ensures.bad_page page (ap Err is) image tells))

pub returns-in_err-base-clause-answer : goal.returns-in_err-base-clause-answer
returns-in_err-base-clause-answer g c = λ image stands.
    let p = err_from_is_err_and c.from_residual-in_err-base.result c.from_residual-in_err-base.ensures.1 in
    let header = c.in_ok-header.header in
    let counts = c.in_ok-header.ensures.found image stands.tells in
    let found = c.in_ok-keeper.ensures.found image (tells_looks image _ _ c.read_header.ensures.looks stands.tells) in
    let holds = c.in_ok-keeper.ensures.holds image found.0 (stands_looks image _ _ c.read_header.ensures.looks stands) counts found.1 in
    rw (p.1, p.2) (why_records image header counts found.0 found.1 c.in_err-base.field-0.0 (c.in_err-base.ensures.meant found.0 holds))

pub returns-clause-answer : goal.returns-clause-answer
returns-clause-answer g c = λ image stands.
    let header = c.in_ok-header.header in
    let counts = c.in_ok-header.ensures.found image stands.tells in
    let found = c.in_ok-keeper.ensures.found image (tells_looks image _ _ c.read_header.ensures.looks stands.tells) in
    let holds = c.in_ok-keeper.ensures.holds image found.0 (stands_looks image _ _ c.read_header.ensures.looks stands) counts found.1 in
    inr (is_opened image header counts found.0 found.1 c.in_ok-base.base (c.in_ok-base.ensures.meant found.0 holds))

pub returns-clause-keeper : goal.returns-clause-keeper
returns-clause-keeper g c = λ image stands.
    let counts = c.in_ok-header.ensures.found image stands.tells in
    let found = c.in_ok-keeper.ensures.found image (tells_looks image _ _ c.read_header.ensures.looks stands.tells) in
    let holds = c.in_ok-keeper.ensures.holds image found.0 (stands_looks image _ _ c.read_header.ensures.looks stands) counts found.1 in
    (found.0, means_map c.in_ok-header.header image found.0 counts found.1, c.in_ok-base.ensures.holds found.0 holds, c.in_ok-base.ensures.meant found.0 holds)

pub returns-clause-bytes : goal.returns-clause-bytes
returns-clause-bytes g c = λ image stands entries own.
    let counts = c.in_ok-header.ensures.found image stands.tells in
    let found = c.in_ok-keeper.ensures.found image (tells_looks image _ _ c.read_header.ensures.looks stands.tells) in
    let holds = c.in_ok-keeper.ensures.holds image found.0 (stands_looks image _ _ c.read_header.ensures.looks stands) counts found.1 in
    let same : found.0 ≡ entries = one_held c.open_records.new.keeper (g.H.Host.view c.open_records.new.host) found.0 entries (c.in_ok-base.ensures.holds found.0 holds) own in
    subst AreBytes same (all_bytes found.0 (map_fits c.in_ok-header.header image found.0 found.1) (c.in_ok-base.ensures.bytes found.0 holds))

pub returns-clause-format : goal.returns-clause-format
returns-clause-format g c = λ image stands.
    record { header = c.in_ok-header.header; counts = c.in_ok-header.ensures.found image stands.tells; is = refl }

pub returns-clause-looks : goal.returns-clause-looks
returns-clause-looks g c = looks_joined _ _ _ c.in_ok-header.ensures.looks (looks_joined _ _ _ c.in_ok-keeper.ensures.looks c.in_ok-base.ensures.looks)
