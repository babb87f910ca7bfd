use Rattle.ode_accepted_laws.proofs.Lines.{kept_all}
use Rattle.ode_anew_laws.proofs.AnewChecked.{class_anew}
use Rattle.ode_anew_laws.proofs.laws.classes_come_out_anew.Goals as goal

pub returns : goal.returns
returns c at new test known others checked other_checked anew d own then old young way first second =
    class_anew at new test known others anew (kept_all known checked).fields (kept_all others other_checked).fields d own then old young way first second
