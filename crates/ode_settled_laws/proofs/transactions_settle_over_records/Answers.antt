use Rattle.std.proofs.Common.{◌∙◌, refl, sym, ap, subst}
use Rattle.ode_overlay_laws.specs.Standing.{Stands}
use Rattle.ode_settled_laws.proofs.OverLaws.{settled_over}
use Rattle.ode_settled_laws.proofs.transactions_settle_over_records.Goals as goal
use Rattle.ode_value.specs.Pasts.{lists, numbers}
use Rattle.ode_value.specs.Settling.{abort, commit, ends_with}
use Rattle.ode_value.specs.Texts.{aborted_line, committed_line}
use Rattle.ode_view_laws.specs.Viewing.{running}
use Rattle.ode_laws.specs.Numbered.{AreNumbered}

pub returns-clause-commit : goal.returns-clause-commit
returns-clause-commit c = λ l base changes v held x now old new t rising runs is over remembers numbered formed made.
    let first = held.world.stored.world in
    let tables = held.world.stored.tables in
    let y = running first.bones.classes first x old in
    let seen = c.overlays_have_views.ensures.stands first.bones.classes first now new over in
    let stands = subst (Stands now) is seen in
    let settled = c.held_worlds_are_shown.ensures.settled l base v held in
    let view = running first.bones.classes first now new in
    settled_over l base v held now new committed_line (commit lists t) (commit (numbers tables) y) (c.transactions_settle_alike.ensures.commit tables y t runs)
    (c.commits_may_clean_last.ensures tables y (subst AreNumbered (sym runs.now.stands.bones) runs.now.numbered) ∙ ap (ends_with (committed_line first.bones.transaction)) (sym is)) _
    (c.transactions_hold_worlds.ensures.commit l base changes v now y t held.world rising refl runs stands formed made)
    (c.growths_are_the_worlds.ensures now view seen remembers settled numbered) (c.changed_objects_weighed_less.ensures now view seen remembers settled numbered)

pub returns-clause-abort : goal.returns-clause-abort
returns-clause-abort c = λ l base changes v held x now old new reason t rising runs is over remembers numbered formed made.
    let first = held.world.stored.world in
    let tables = held.world.stored.tables in
    let y = running first.bones.classes first x old in
    let seen = c.overlays_have_views.ensures.stands first.bones.classes first now new over in
    let stands = subst (Stands now) is seen in
    let settled = c.held_worlds_are_shown.ensures.settled l base v held in
    let view = running first.bones.classes first now new in
    settled_over l base v held now new (λ n. aborted_line n reason) (abort lists reason t) (abort (numbers tables) reason y) (c.transactions_settle_alike.ensures.abort tables reason y t runs)
    (ap (ends_with (aborted_line first.bones.transaction reason)) (sym is)) _
    (c.transactions_hold_worlds.ensures.abort l base changes v now reason y t held.world rising refl runs stands formed made)
    (c.growths_are_the_worlds.ensures now view seen remembers settled numbered) (c.changed_objects_weighed_less.ensures now view seen remembers settled numbered)
