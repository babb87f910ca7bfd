use Rattle.std.proofs.Common.{length}
use Rattle.ode_pages.proofs.Paging.{taken}
use Rattle.ode_pages.proofs.edits.take_entry.Goals as goal

pub returns : goal.returns
returns c entries key page place many =
    taken (length c.args.bytes.now) entries key c.args.place c.args.bytes.now page place c.args.count c.take_out.new.bytes c.put_over.new.to
    c.take_out.ensures (rw c.to_be_bytes.ensures at c.put_over.ensures) many
