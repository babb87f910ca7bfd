use Rattle.std.proofs.Common.{List, ℕ, refl, subst}
use Rattle.ode_gate.specs.declared.places.TheConstants.{FORMAT}
use Rattle.ode_host.proofs.Moments.{tells_looks}
use Rattle.ode_paging.specs.Meaning.{PagesMeanIn}
use Rattle.ode_make.specs.Making.{first_frame, first_rows}
use Rattle.ode_make.proofs.Making.{initialised, initialised_means, made}
use Rattle.ode_make.proofs.Telling.{tells_one}
use Rattle.ode_make.proofs.make.initialise.Goals as goal

pub returns-clause-made : goal.returns-clause-made
returns-clause-made g c file tells =
    let looked = tells_looks file _ _ c.is_in_use.ensures.looks tells in (
      made first_frame file refl,
      c.in_ok-write_header.ensures.done _ (c.in_ok-write_frame.ensures.done file looked),
      initialised first_frame file refl,
    )

pub returns-clause-means : goal.returns-clause-means
returns-clause-means g c file image tells told =
    let made_is = returns-clause-made g c file tells in
    subst (λ (l : List ℕ). PagesMeanIn FORMAT l first_rows) (tells_one _ made_is.0 image made_is.1.tells told) (initialised_means file made_is.0 made_is.2)

pub returns-clause-refused : goal.returns-clause-refused
returns-clause-refused g c file tells in_use =
    let yes = (c.in_ok-is_in_use.ensures.in_use file tells).1 in_use in
    let no = c.if-branch.false in
    cc (yes, no)

pub returns-in_err-write_frame-clause-spared : goal.returns-in_err-write_frame-clause-spared
returns-in_err-write_frame-clause-spared g c file tells in_use =
    let yes = (c.in_ok-is_in_use.ensures.in_use file tells).1 in_use in
    let no = c.if-branch.false in
    cc (yes, no)

pub returns-in_err-write_header-clause-spared : goal.returns-in_err-write_header-clause-spared
returns-in_err-write_header-clause-spared g c file tells in_use =
    let yes = (c.in_ok-is_in_use.ensures.in_use file tells).1 in_use in
    let no = c.if-branch.false in
    cc (yes, no)

pub returns-clause-spared : goal.returns-clause-spared
returns-clause-spared g c file tells in_use =
    let yes = (c.in_ok-is_in_use.ensures.in_use file tells).1 in_use in
    let no = c.if-branch.false in
    cc (yes, no)
