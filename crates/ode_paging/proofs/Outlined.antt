-- What a plan has that was made of pages in hand.
use Rattle.std.proofs.Common.{◌≡◌, ℕ, List, ◌∙◌}
use Rattle.ode_gate.specs.declared.header.Header.{Header}
use Rattle.ode_host.specs.View.{View}
use Rattle.ode_keep.specs.Entries.{Changes, Entries}
use Rattle.ode_paging.specs.declared.hand.Hand.{Hand}
use Rattle.ode_paging.specs.declared.planning.Plan.{Plan}
use Rattle.ode_paging.specs.Images.{HasRisingPages, Image}
use Rattle.ode_paging.specs.Imaging.{AreImages}
use Rattle.ode_paging.specs.Making.{AreMade}
use Rattle.ode_paging.specs.Planning.{IsPlanned}
use Rattle.ode_paging.specs.Standing.{HavePages}
use Rattle.ode_paging.proofs.Laid.{laid_count, laid_pages}

pub planned : (view : View) (header : Header) (images : List Image) (file : List ℕ) (pages : List Entries) (changes : Changes) (hand : Hand) (plan : Plan) → HavePages header images file 0 pages
    → AreMade view header images hand pages changes plan.moves.items → AreImages hand.pages.entries plan.images → HasRisingPages plan.images → plan.count ≡ hand.count
    → IsPlanned header images file pages changes plan
planned view header images file pages changes hand plan stand made are rising count = record {
  now = made.after;
  stand = laid_pages header file images plan.images hand.pages.entries hand.count pages made.after made.has.covers stand are rising;
  count = count ∙ made.has.covers.many;
  many = laid_count header file images plan.images hand.pages.entries hand.count pages made.after made.has.covers stand are rising;
  are = made.are;
  entries = made.entries;
  leads = made.leads;
}
