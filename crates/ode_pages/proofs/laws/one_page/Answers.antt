use Rattle.std.proofs.Common.{refl}
use Rattle.ode_pages.specs.Pages.{page_bytes}
use Rattle.ode_pages.proofs.Decoding.{same_entries}
use Rattle.ode_pages.proofs.laws.one_page.Goals as goal

pub returns : goal.returns
returns c size entries others first second same =
    same_entries size entries others (page_bytes size entries) (record { spelled = refl; fits = first }) (record { spelled = same; fits = second })
