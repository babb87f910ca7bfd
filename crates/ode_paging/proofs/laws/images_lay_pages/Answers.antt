use Rattle.ode_paging.proofs.Laid.{laid_count, laid_pages}
use Rattle.ode_paging.proofs.laws.images_lay_pages.Goals as goal

pub returns-clause-stand : goal.returns-clause-stand
returns-clause-stand c header file images over hand count pages now covers stand are rising = laid_pages header file images over hand count pages now covers stand are rising

pub returns-clause-many : goal.returns-clause-many
returns-clause-many c header file images over hand count pages now covers stand are rising many =
    laid_count header file images over hand count pages now covers stand are rising many
