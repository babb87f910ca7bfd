use Rattle.std.proofs.Common.{◌≡◌, reverse, vec_len}
use Rattle.ode_paging.specs.Changing.{forgotten}
use Rattle.ode_paging.proofs.changing.undo.Given as goal

abbrev pub invariant-loop-key : goal.invariant-loop-key
invariant-loop-key l = forgotten (reverse l.added.items) l.leads.entries ≡ forgotten (reverse l.initial.added.items) l.initial.leads.entries

abbrev pub decreases-loop-key : goal.decreases-loop-key
decreases-loop-key l = vec_len l.added
