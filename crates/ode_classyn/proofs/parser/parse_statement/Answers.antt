use Rattle.std.proofs.Common.{◌∙◌, ap}
use Rattle.std.proofs.lemmas.Result.{err_from_is_err_and}
use Rattle.ode_grammar.specs.declared.reader.Start.TheVariants.{Statement}
use Rattle.ode_terminals.specs.Seen.{place_of}
use Rattle.ode_classyn.proofs.Causes.{unparsed_at}
use Rattle.ode_classyn.proofs.parser.parse_statement.Goals as goal

pub returns-in_err-made-clause-err : goal.returns-in_err-made-clause-err
returns-in_err-made-clause-err c =
    let p = err_from_is_err_and c.from_residual-in_err-made.result c.from_residual-in_err-made.ensures.1 in
    let seen = c.as_slice-2.ensures in
    let place = c.place_of-place.ensures ∙ ap (place_of c.args.text.now) c.as_slice.ensures in
    rw (p.1, p.2) (unparsed_at Statement place_of c.place_of-place.result c.args.text.now c.in_ok-found.found c.as_slice-2.result.now c.in_err-made.field-0.0 c.in_ok-found.ensures.ok place seen c.in_err-made.ensures.err)
