use Rattle.std.proofs.Common.{◌+◌, sym, subst}
use Rattle.ode_act_laws.proofs.ShownLaws.{line_alone}
use Rattle.ode_known_laws.proofs.KnownLaws.{collected_known, ordered_now}
use Rattle.ode_known_laws.proofs.firings.collections_known.Goals as goal
use Rattle.ode_overlay.specs.Layers.{generation_of}
use Rattle.ode_overlay_laws.specs.Following.{entry_by}
use Rattle.ode_value.specs.Acts.{prints}
use Rattle.ode_value.specs.Settling.{says}
use Rattle.ode_value.specs.Transactions.{queueing}
use Rattle.ode_view_laws.specs.Ordering.{IsOrdered}
use Rattle.ode_view_laws.specs.Viewing.{running}

pub returns-clause-running : goal.returns-clause-running
returns-clause-running c = λ classes first beside base x known independent f kept.
    let e = entry_by (generation_of x.origin + 1) f in
    let ordered = ordered_now classes first beside base x known in
    let law = c.collections_show.ensures classes first beside x known.viewed prints (λ line. subst IsOrdered (sym (line_alone line (queueing (running classes first x beside)))) ordered) independent f kept in
    (law.0, collected_known base first x known e independent law.1 (c.changes_stay_formed.ensures.collect first.bones.classes base x e independent known.formed) (c.calls_keep_keys.ensures.collect first x e independent known.keys))

pub returns-clause-settling : goal.returns-clause-settling
returns-clause-settling c = λ classes first beside base x known independent f kept.
    let e = entry_by (generation_of x.origin + 1) f in
    let ordered = ordered_now classes first beside base x known in
    let law = c.collections_show.ensures classes first beside x known.viewed says (λ line. ordered) independent f kept in
    (law.0, collected_known base first x known e independent law.1 (c.changes_stay_formed.ensures.collect first.bones.classes base x e independent known.formed) (c.calls_keep_keys.ensures.collect first x e independent known.keys))
