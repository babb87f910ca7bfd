use Rattle.std.proofs.Common.{refl}
use Rattle.ode_cutting.proofs.Cuts.{image_put}
use Rattle.ode_cutting.proofs.cutting.put_image.Goals as goal

pub returns : goal.returns
returns c es many is =
    image_put c.args.images.now.items c.put_u32.new.to.items c.put_u16.new.to.items c.put_u16-2.new.to.items c.extend_from_slice.new.self.items c.args.page _ c.args.rows c.args.bytes.now es
    c.in_ok-put_u32.ensures.ok c.in_ok-put_u16.ensures.ok c.in_ok-put_u16-2.ensures.ok c.in_ok-extend_from_slice.ensures.items refl many is
