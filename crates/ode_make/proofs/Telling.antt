-- What the disk reads as.
use Rattle.std.proofs.Common.{◌≡◌, IsTrue, ℕ, List, Some, sym, ◌∙◌, subst}
use Rattle.ode_host.specs.View.{View}
use Rattle.ode_host.specs.Host.{Keeps, Tells, Wrote, written_over}

pub wrote_tells : (at : ℕ) (bytes file : List ℕ) (old new : View) → Keeps old new → Wrote at bytes old new → Tells old file → Tells new (written_over file at bytes)
wrote_tells at bytes file old new keeps wrote tells = record { honest = subst IsTrue (sym keeps.honest) tells.honest; image = wrote file tells }

pub tells_one : (view : View) (a b : List ℕ) → Tells view a → Tells view b → a ≡ b
tells_one view a b first second =
    let both : Some a ≡ Some b = sym first.image ∙ second.image in
    cc (both)
