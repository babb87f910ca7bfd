use Rattle.std.proofs.Common.{rules, ◌≡◌, Err, refl}
use Rattle.std.proofs.lemmas.Result.{err_from_is_err_and}
use Rattle.ode_declare.proofs.TakeLaws.{damaged_as}
use Rattle.ode_transact.proofs.FrontLaws.{rest_reads_on}
use Rattle.ode_change.proofs.reading.read_known.Goals as goal

pub returns-clause-known : goal.returns-clause-known
returns-clause-known g c = λ w rest. c.in_ok-read.ensures.known rest.entries w rest.world rest.records

pub returns-clause-rests : goal.returns-clause-rests
returns-clause-rests g c = λ w rest.
    rest_reads_on g.H.Host.view g.K.Keep.holds g.K.Keep.live _ w c.args.rest c.in_ok-read.read.0 c.in_ok-read.read.0 c.args.host.now c.read_in.new.host rest c.in_ok-read.ensures.usable
    (c.in_ok-read.ensures.holds rest.entries w rest.world rest.records) refl

pub returns-in_err-read-clause-undamaged : goal.returns-in_err-read-clause-undamaged
returns-in_err-read-clause-undamaged g c =
    let p = err_from_is_err_and c.from_residual.result c.from_residual.ensures.1 in
    let same : c.from_residual.result ≡ Err c.in_err-read.field-0.0 = rw (p.1, p.2) refl in
    damaged_as c.read_in.result c.from_residual.result c.in_err-read.field-0.0 _ _ (search rules) same c.read_in.ensures.undamaged (λ damaged w rest. damaged rest.entries w rest.world rest.records)
