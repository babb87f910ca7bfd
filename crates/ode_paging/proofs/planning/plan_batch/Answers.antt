use Rattle.std.proofs.Common.{List, ℕ, ap, arith, length, refl, rules, sym, ◌∙◌}
use Rattle.std.specs.Map.{keys_of}
use Rattle.ode_keep.specs.Entries.{Entries}
use Rattle.ode_paging.proofs.Handled.{damaged_of}
use Rattle.ode_paging.proofs.Imaged.{are_keys, are_length, are_short, rooms_keys}
use Rattle.ode_paging.proofs.Outlined.{planned}
use Rattle.ode_paging.proofs.planning.plan_batch.Goals as goal

pub returns-in_err-moves-clause-damaged : goal.returns-in_err-moves-clause-damaged
returns-in_err-moves-clause-damaged g c =
    damaged_of _ _ c.make_changes.result c.from_residual.result c.in_err-moves.field-0.0 (search rules) (search rules) c.make_changes.ensures.damaged
    (λ bad file pages tells stand are many same. bad pages are same (record { file = file; tells = tells; stand = stand; covers = c.new-hand.ensures.covers pages many }))

pub frame_of-requires-clause-few : goal.frame_of-requires-clause-few
frame_of-requires-clause-few g c =
    omega (
      arith,
      are_length c.make_changes.new.hand.pages.entries c.in_ok-images.images c.in_ok-images.ensures,
      c.in_ok-moves.ensures.few,
      ap (λ (l : List (ℕ × Entries)). length l) c.new-hand.ensures.empty,
      c.requires.few,
    )

pub frame_of-requires-clause-short : goal.frame_of-requires-clause-short
frame_of-requires-clause-short g c = are_short c.make_changes.new.hand.pages.entries c.in_ok-images.images c.in_ok-images.ensures

pub returns-clause-planned : goal.returns-clause-planned
returns-clause-planned g c = λ file pages tells stand are many same.
    planned (g.H.Host.view c.make_changes.new.host) c.args.source.header.now c.args.source.images.now file pages c.args.batch.now c.make_changes.new.hand _ stand
    (c.in_ok-moves.ensures.made pages are same (record { file = file; tells = tells; stand = stand; covers = c.new-hand.ensures.covers pages many }))
    c.in_ok-images.ensures c.in_ok-frame.ensures.payload.rising refl

pub returns-clause-counted : goal.returns-clause-counted
returns-clause-counted g c = λ file pages tells stand are many same is.
    c.in_ok-moves.ensures.counted pages are same (record { file = file; tells = tells; stand = stand; covers = c.new-hand.ensures.covers pages many }) is

pub returns-clause-rooms : goal.returns-clause-rooms
returns-clause-rooms g c =
    ap (λ (l : List (ℕ × ℕ)). keys_of l) c.in_ok-rooms.ensures ∙ rooms_keys c.make_changes.new.hand.pages.entries
    ∙ sym (are_keys c.make_changes.new.hand.pages.entries c.in_ok-images.images c.in_ok-images.ensures)

pub returns-clause-few_images : goal.returns-clause-few_images
returns-clause-few_images g c =
    omega (
      arith,
      are_length c.make_changes.new.hand.pages.entries c.in_ok-images.images c.in_ok-images.ensures,
      c.in_ok-moves.ensures.few,
      ap (λ (l : List (ℕ × Entries)). length l) c.new-hand.ensures.empty,
      c.requires.few,
    )

pub returns-clause-two_each : goal.returns-clause-two_each
returns-clause-two_each g c =
    omega (
      arith,
      are_length c.make_changes.new.hand.pages.entries c.in_ok-images.images c.in_ok-images.ensures,
      c.in_ok-moves.ensures.few,
      ap (λ (l : List (ℕ × Entries)). length l) c.new-hand.ensures.empty,
    )
