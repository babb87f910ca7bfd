use Rattle.ode_key_laws.proofs.RewoundLaws.{at_hand}
use Rattle.ode_key_laws.proofs.touched_objects_are_at_hand.Goals as goal

pub returns : goal.returns
returns c = at_hand
