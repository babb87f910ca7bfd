use Rattle.std.proofs.Common.{Some, ap, ◌∙◌, arith}
use Rattle.ode_keep.specs.Entries.{Entries, changed}
use Rattle.ode_paging.proofs.Handed.{new_page}
use Rattle.ode_paging.proofs.hand.Hand.put_in_new.Goals as goal

pub returns-clause-put : goal.returns-clause-put
returns-clause-put c = λ pages now covers. (
  omega (arith, covers.many),
  new_page c.args.self.now.pages.entries c.take.new.self.pages.entries c.args.self.now.count c.take.new.self.count pages now c.args.self.now.count covers c.in_ok-take.ensures.many
      (λ (es : Entries). changed es c.args.key (Some c.args.value.now)) c.put.new.self covers.many
      (c.in-Ok.ensures.ok ∙ ap (λ (es : Entries). changed es c.args.key (Some c.args.value.now)) c.empty-entries.ensures) c.in_ok-take.ensures.taken,
)
