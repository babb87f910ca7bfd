use Rattle.std.proofs.Common.{List, Option, ℕ, subst}
use Rattle.std.specs.Option.{IfSome}
use Rattle.ode_gate.specs.Headers.{IsOfPages}
use Rattle.ode_host.specs.Host.{Tells}
use Rattle.ode_keep.specs.Entries.{Entries}
use Rattle.ode_paging.specs.Standing.{HasPage}
use Rattle.ode_paging.proofs.Handled.{none_of}
use Rattle.ode_paging.proofs.hand.page_of_file.Goals as goal

pub returns-clause-page : goal.returns-clause-page
returns-clause-page g c = λ file tells.
    subst
    (λ (o : Option Entries). IfSome o (λ entries. IsOfPages c.args.header.now → (file : List ℕ) → Tells (g.H.Host.view c.args.host.now) file
    → HasPage c.args.header.now c.args.images.now file c.args.page entries))
    c.in-Some.is c.in_ok-entries.ensures.some c.requires file tells

pub returns-in_default-clause-damaged : goal.returns-in_default-clause-damaged
returns-in_default-clause-damaged g c = none_of c.in_ok-entries.field-0 c.in_default.not-Some c.in_ok-entries.ensures.none c.requires
