use Rattle.ode_value.proofs.BornLaws.{all_born}
use Rattle.ode_value.proofs.laws.born_fields_are_all.Goals as goal

pub returns : goal.returns
returns c b stamp fs vs all fit = all_born _ stamp fs vs all fit
