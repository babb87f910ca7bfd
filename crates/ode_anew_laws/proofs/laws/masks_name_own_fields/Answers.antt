use Rattle.ode_anew_laws.proofs.LowMasks.{low_masks}
use Rattle.ode_anew_laws.proofs.laws.masks_name_own_fields.Goals as goal

pub returns : goal.returns
returns c at more known added d class checks few = low_masks at more known added d class checks few
