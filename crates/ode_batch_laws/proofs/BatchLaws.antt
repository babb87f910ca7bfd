-- The records behind a batch hold the world that is left.
use Rattle.std.proofs.Common.{◌≡◌, List, ◌∷◌, refl, sym, ap, subst, ◌∙◌}
use Rattle.ode_batch_laws.proofs.ClimbLaws.{Climb}
use Rattle.ode_batch_laws.proofs.RowLaws.{front_climbs, rows_rise}
use Rattle.ode_codec.specs.Standing.{HoldsWorld, StandsAs}
use Rattle.ode_codec.specs.StoredRows.{Stored, counters_row, rows}
use Rattle.ode_keep.proofs.Applying.{applied_rising}
use Rattle.ode_keep.proofs.SameMaps.{same_map}
use Rattle.ode_keep.specs.Entries.{Changes, Entries, HasRisingKeys, applied, value_under}
use Rattle.ode_laws.specs.Alike.{NumberTx, NumberWorld}
use Rattle.ode_laws.specs.Numbered.{AreNumbered}
use Rattle.ode_overlay.specs.After.{stands_after}
use Rattle.ode_overlay.specs.Layers.{Layer}
use Rattle.ode_overlay_laws.specs.Standing.{Stands}
use Rattle.ode_settling_laws.proofs.KindLaws.{class_rows}
use Rattle.ode_settling_laws.proofs.SettledLaws.{settled_held}
use Rattle.ode_settling_laws.specs.Formed.{IsFormed}
use Rattle.ode_value.specs.GoodWorlds.{AreBones, IsGood}
use Rattle.ode_value.specs.Language.{Language, ListWorld}
use Rattle.ode_value.specs.Settling.{settled_world}
use Rattle.ode_value.specs.Worlds.{Declared}
use Rattle.ode_value.specs.declared.key.Key.{Key}

pub batch_holds : (l : Language) (base : Entries) (changes : Changes) (v w : ListWorld) (x : Layer) (y : NumberTx) (held : HoldsWorld l base v) → HasRisingKeys base
    → y.first ≡ held.stored.world → Stands x y → AreNumbered y.now.bones → y.now.bones.classes ≡ y.first.bones.classes → IsFormed held.stored.world.bones.classes base x
    → ((q : Key) → value_under (applied changes base) q ≡ stands_after x base q)
    → StandsAs held.stored.tables (settled_world y) w → IsGood l w → (after : HoldsWorld l (applied changes base) w) × (after.stored.tables ≡ held.stored.tables)
batch_holds l base changes v w x y held rising first stands numbered classes formed made left good =
    let s = held.stored in
    let after : Stored = record { world = settled_world y; tables = s.tables } in
    let front : Climb (counters_row (settled_world y).bones ∷ class_rows s.tables s.world.bones.classes) = front_climbs s (subst HasRisingKeys held.rows rising) in
    let bones : AreBones l (settled_world y).bones = subst (AreBones l) (sym left.bones) good.bones in
    let rises : HasRisingKeys (rows after) =
    rows_rise l after bones numbered.classes
    (subst (λ (cs : List Declared). Climb (counters_row (settled_world y).bones ∷ class_rows s.tables cs)) (sym (classes ∙ ap (λ (u : NumberWorld). u.bones.classes) first)) front) in (
      record {
        stored = after;
        rows = same_map (applied changes base) (rows after) (applied_rising changes base rising) rises
            (λ q. made q ∙ settled_held l base v x y held first stands numbered classes bones formed q);
        stands = left;
        good = good;
      },
      refl,
    )
