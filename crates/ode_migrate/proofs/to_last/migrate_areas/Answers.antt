use Rattle.std.proofs.Common.{◌∙◌, List, ℕ, arith, inl, subst, sym}
use Rattle.std.proofs.lemmas.Result.{err_from_is_err_and}
use Rattle.ode_gate.specs.declared.header.Header.{Header}
use Rattle.ode_host.proofs.Moments.{joined, weaker}
use Rattle.ode_keep.specs.Snapshots.{IsSnapshot}
use Rattle.ode_migrate.specs.Migrating.{StandInOne}
use Rattle.ode_migrate.proofs.Migrating.{areas_leave, held_in_one, held_spelled, looks_leave, never_changed, not_kept}
use Rattle.ode_migrate.proofs.Staging.{text_back}
use Rattle.ode_migrate.proofs.to_last.migrate_areas.Goals as goal

-- ---- the file is read

pub start-requires-clause-areas : goal.start-requires-clause-areas
start-requires-clause-areas g c = c.requires.areas.layout

pub returns-in_err-areas-clause-any_moment : goal.returns-in_err-areas-clause-any_moment
returns-in_err-areas-clause-any_moment g c file entries stands counts has =
    let old = g.H.Host.view c.args.host.now in
    let mid = g.H.Host.view c.start.new.host in
    looks_leave old mid file entries (g.met.H.Host.text_stands c.args.host.now) stands (inl (record { header = c.args.header.now; counts = counts; areas = c.requires.areas; has = has })) c.start.ensures.looks

pub returns-then-bytes-gt-MAX_MOVED_BYTES-clause-any_moment : goal.returns-then-bytes-gt-MAX_MOVED_BYTES-clause-any_moment
returns-then-bytes-gt-MAX_MOVED_BYTES-clause-any_moment g c file entries stands counts has =
    let old = g.H.Host.view c.args.host.now in
    let mid = g.H.Host.view c.start.new.host in
    looks_leave old mid file entries (g.met.H.Host.text_stands c.args.host.now) stands (inl (record { header = c.args.header.now; counts = counts; areas = c.requires.areas; has = has })) c.start.ensures.looks

pub returns-in_err-snapshot-clause-any_moment : goal.returns-in_err-snapshot-clause-any_moment
returns-in_err-snapshot-clause-any_moment g c file entries stands counts has =
    let old = g.H.Host.view c.args.host.now in
    let mid = g.H.Host.view c.start.new.host in
    looks_leave old mid file entries (g.met.H.Host.text_stands c.args.host.now) stands (inl (record { header = c.args.header.now; counts = counts; areas = c.requires.areas; has = has })) c.start.ensures.looks

pub returns-in_err-frame-clause-any_moment : goal.returns-in_err-frame-clause-any_moment
returns-in_err-frame-clause-any_moment g c file entries stands counts has =
    let old = g.H.Host.view c.args.host.now in
    let mid = g.H.Host.view c.start.new.host in
    looks_leave old mid file entries (g.met.H.Host.text_stands c.args.host.now) stands (inl (record { header = c.args.header.now; counts = counts; areas = c.requires.areas; has = has })) c.start.ensures.looks

pub returns-in_default-clause-any_moment : goal.returns-in_default-clause-any_moment
returns-in_default-clause-any_moment g c file entries stands counts has =
    let old = g.H.Host.view c.args.host.now in
    let mid = g.H.Host.view c.start.new.host in
    looks_leave old mid file entries (g.met.H.Host.text_stands c.args.host.now) stands (inl (record { header = c.args.header.now; counts = counts; areas = c.requires.areas; has = has })) c.start.ensures.looks

pub returns-in_err-areas-clause-same : goal.returns-in_err-areas-clause-same
returns-in_err-areas-clause-same g c =
    let p = err_from_is_err_and c.from_residual.result c.from_residual.ensures.1 in
    rw (p.1, p.2) (λ at is file entries stands counts has fit. never_changed c.in_err-areas.field-0.0 (c.in_err-areas.ensures.whole file entries stands.tells has) at (cc (is)))

pub returns-then-bytes-gt-MAX_MOVED_BYTES-clause-same : goal.returns-then-bytes-gt-MAX_MOVED_BYTES-clause-same
returns-then-bytes-gt-MAX_MOVED_BYTES-clause-same g c at is file entries stands counts has fit =
    absurd (omega (arith, c.if-bytes-gt-MAX_MOVED_BYTES.true, c.bytes-bytes.ensures, c.in_ok-areas.ensures.bytes file entries stands.tells has, fit.within))

pub returns-in_default-clause-same : goal.returns-in_default-clause-same
returns-in_default-clause-same g c at is file entries stands counts has fit =
    let holds = c.in_ok-areas.ensures.holds file entries stands counts has in
    let spelled = subst (λ (l : List ℕ). IsSnapshot entries l) (sym c.deref.ensures.value) (held_spelled c.in_ok-areas.areas (g.H.Host.view c.start.new.host) entries c.in_ok-snapshot.snapshot.items holds c.in_ok-snapshot.ensures) in
    (rw c.in_default.is at c.in_ok-frame.ensures.long) entries spelled fit

-- ---- the records move

pub returns-in_err-move_to_one-clause-any_moment : goal.returns-in_err-move_to_one-clause-any_moment
returns-in_err-move_to_one-clause-any_moment g c file entries stands counts has =
    let old = g.H.Host.view c.args.host.now in
    let mid = g.H.Host.view c.start.new.host in
    let holds = c.in_ok-areas.ensures.holds file entries stands counts has in
    joined _ _ _ _
    (looks_leave old mid file entries (g.met.H.Host.text_stands c.args.host.now) stands (inl (record { header = c.args.header.now; counts = counts; areas = c.requires.areas; has = has })) c.start.ensures.looks)
    (weaker _ _ _ _ (areas_leave entries old mid c.start.ensures.looks.text) (c.move_to_one.ensures.any_moment entries holds))

pub returns-in_err-move_to_one-clause-same : goal.returns-in_err-move_to_one-clause-same
returns-in_err-move_to_one-clause-same g c =
    let p = err_from_is_err_and c.from_residual-in_err-move_to_one.result c.from_residual-in_err-move_to_one.ensures.1 in
    rw (p.1, p.2) (λ at is file entries stands counts has fit. not_kept (Unit {0}) c.in_err-move_to_one.field-0.0 c.in_err-move_to_one.ensures.not_too_large c.in_err-move_to_one.ensures.not_damaged at (cc (is)))

-- ---- they become pages

pub returns-in_err-move_to_pages-clause-any_moment : goal.returns-in_err-move_to_pages-clause-any_moment
returns-in_err-move_to_pages-clause-any_moment g c file entries stands counts has =
    let old = g.H.Host.view c.args.host.now in
    let mid = g.H.Host.view c.start.new.host in
    let far = g.H.Host.view c.move_to_one.new.host in
    let holds = c.in_ok-areas.ensures.holds file entries stands counts has in
    let spelled = subst (λ (l : List ℕ). IsSnapshot entries l) (sym c.deref.ensures.value) (held_spelled c.in_ok-areas.areas mid entries c.in_ok-snapshot.snapshot.items holds c.in_ok-snapshot.ensures) in
    let cut = (rw c.in-Some.is at c.in_ok-frame.ensures.pages) entries spelled in
    let moved = c.in_ok-move_to_one.ensures.moved entries holds in
    let one = subst (λ (h : Header). StandInOne h entries far) (sym c.header.ensures) (held_in_one c.move_to_one.new.self far entries moved.0 moved.1) in
    joined _ _ _ _
    (looks_leave old mid file entries (g.met.H.Host.text_stands c.args.host.now) stands (inl (record { header = c.args.header.now; counts = counts; areas = c.requires.areas; has = has })) c.start.ensures.looks)
    (joined _ _ _ _ (weaker _ _ _ _ (areas_leave entries old mid c.start.ensures.looks.text) (c.move_to_one.ensures.any_moment entries holds))
    (weaker _ _ _ _ (text_back entries old far (c.move_to_one.ensures.leaves.text ∙ c.start.ensures.looks.text)) (c.move_to_pages.ensures.any_moment entries one cut)))

pub returns-clause-any_moment : goal.returns-clause-any_moment
returns-clause-any_moment g c file entries stands counts has =
    let old = g.H.Host.view c.args.host.now in
    let mid = g.H.Host.view c.start.new.host in
    let far = g.H.Host.view c.move_to_one.new.host in
    let holds = c.in_ok-areas.ensures.holds file entries stands counts has in
    let spelled = subst (λ (l : List ℕ). IsSnapshot entries l) (sym c.deref.ensures.value) (held_spelled c.in_ok-areas.areas mid entries c.in_ok-snapshot.snapshot.items holds c.in_ok-snapshot.ensures) in
    let cut = (rw c.in-Some.is at c.in_ok-frame.ensures.pages) entries spelled in
    let moved = c.in_ok-move_to_one.ensures.moved entries holds in
    let one = subst (λ (h : Header). StandInOne h entries far) (sym c.header.ensures) (held_in_one c.move_to_one.new.self far entries moved.0 moved.1) in
    joined _ _ _ _
    (looks_leave old mid file entries (g.met.H.Host.text_stands c.args.host.now) stands (inl (record { header = c.args.header.now; counts = counts; areas = c.requires.areas; has = has })) c.start.ensures.looks)
    (joined _ _ _ _ (weaker _ _ _ _ (areas_leave entries old mid c.start.ensures.looks.text) (c.move_to_one.ensures.any_moment entries holds))
    (weaker _ _ _ _ (text_back entries old far (c.move_to_one.ensures.leaves.text ∙ c.start.ensures.looks.text)) (c.move_to_pages.ensures.any_moment entries one cut)))

pub returns-clause-migrated : goal.returns-clause-migrated
returns-clause-migrated g c file entries stands counts has =
    let mid = g.H.Host.view c.start.new.host in
    let far = g.H.Host.view c.move_to_one.new.host in
    let holds = c.in_ok-areas.ensures.holds file entries stands counts has in
    let spelled = subst (λ (l : List ℕ). IsSnapshot entries l) (sym c.deref.ensures.value) (held_spelled c.in_ok-areas.areas mid entries c.in_ok-snapshot.snapshot.items holds c.in_ok-snapshot.ensures) in
    let cut = (rw c.in-Some.is at c.in_ok-frame.ensures.pages) entries spelled in
    let moved = c.in_ok-move_to_one.ensures.moved entries holds in
    let one = subst (λ (h : Header). StandInOne h entries far) (sym c.header.ensures) (held_in_one c.move_to_one.new.self far entries moved.0 moved.1) in
    c.in_ok-move_to_pages.ensures.moved entries one cut
