use Rattle.std.proofs.Common.{◌≡◌, refl, subst, sym}
use Rattle.ode_class_laws.proofs.Stands.{as_many}
use Rattle.ode_class_laws.specs.Declaring.{stored_with, world_with}
use Rattle.ode_codec.specs.Standing.{HoldsWorld}
use Rattle.ode_codec.specs.StoredRows.{Stored}
use Rattle.ode_declared_laws.proofs.Holding.{declared_over, held_with, line_runs, none_posted, said, stands_with, untouched, view}
use Rattle.ode_declared_laws.proofs.Settling.{left_weighs, settles_light}
use Rattle.ode_declared_laws.proofs.declared_classes_settle.Goals as goal
use Rattle.ode_declared_laws.specs.Declared.{DeclaredOver}
use Rattle.ode_keep.proofs.Applying.{applied_rising}
use Rattle.ode_keep.specs.Entries.{Changes, applied}
use Rattle.ode_overlay.specs.declared.origin.Origin.TheVariants as from
use Rattle.ode_overlay_laws.specs.Standing.{Stands}
use Rattle.ode_value.specs.Acts.{with_line}
use Rattle.ode_value.specs.Texts.{class_line}
use Rattle.ode_value.specs.Transactions.{Script, begun}

pub returns : goal.returns
returns c = λ l base w held d own alphabets rows rest all tables rising is short are_rows stands both agree.
    let s : Stored = held.world.stored in
    let by = (stored_with d own s).tables in
    let rows_are = are_rows by (c.declared_classes_are_stored.ensures.own s d own (as_many d.class.triggers own alphabets is.compiled)) in
    let it = c.declared_classes_are_held.ensures l base w held.world d own alphabets is.is is.compiled is.light in
    let whole = subst (λ (cs : Changes). (after : HoldsWorld l (applied cs base) (world_with d w)) × (after.stored ≡ stored_with d own s)) (sym rows_are) it in
    let after = whole.0 in
    let first = after.stored.world in
    let v = world_with d w in
    let line = class_line d.class.name in
    let known = c.transactions_begin_known.ensures from.Script (applied rows base) first (held_with l base w held d own is.few rows rest all rising after whole.1) in
    let runs = c.acts_run_alike.ensures.begun after.stored.tables Script first v (record { stands = after.stands; numbered = c.good_worlds_are_numbered.ensures l v after.good }) in
    let viewed = c.transactions_begin_with_views.ensures.view from.Script first in
    let over = c.overlays_have_views.ensures.stands first.bones.classes first (untouched first) (said line) known.viewed.over in
    let holds =
    c.transactions_hold_worlds.ensures.commit l (applied rows base) rest v (untouched first) (view after.stored.tables first v line) (with_line line (begun Script v)) after (applied_rising rows base rising) refl
    (line_runs after.stored.tables first v line viewed runs)
    (subst (Stands (untouched first)) (sym (none_posted after.stored.tables first v line)) over)
    known.formed
    (stands_with l base w held d own is.few rows rest all rising after whole.1 stands) in
    subst (DeclaredOver l tables (applied all base) w d) (sym (settles_light l w d held.world.good short is.light))
    (declared_over l base w held d own is.few rows rest all rising after whole.1 tables agree (λ records u h. c.tables_may_differ.ensures l records u h tables) both holds (left_weighs l w d held.world.good))
