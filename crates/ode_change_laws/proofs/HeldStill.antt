-- The records behind a change and its transaction hold the world that it leaves.
use Rattle.std.proofs.Common.{◌≡◌, List, [], ◌∷◌, refl, sym, ap, subst, ◌∙◌}
use Rattle.std.specs.List.{AllByRecursion}
use Rattle.ode_change_laws.proofs.RowsStill.{rows-still}
use Rattle.ode_change_laws.proofs.StandingStill.{stands-anew}
use Rattle.ode_change_laws.specs.Moves.{AreBehind, AreWatched, HasValues, IsFound}
use Rattle.ode_change_laws.specs.Rows.{bones_passed, rows_behind, rows_between, world_passed}
use Rattle.ode_codec.specs.Standing.{HoldsWorld, StandsAs}
use Rattle.ode_codec.specs.StoredRows.{Stored, counters_row}
use Rattle.ode_value.specs.declared.change.Change.{Change}
use Rattle.ode_value.specs.Changing.{changed_bones, changed_world}
use Rattle.ode_value.specs.GoodWorlds.{IsGood}
use Rattle.ode_value.specs.Language.{Language, ListWorld}
use Rattle.ode_value.specs.Pasts.{lists, numbers}
use Rattle.ode_value.specs.Records.{Row}
use Rattle.ode_value.specs.Worlds.{Bones, Declared}

abbrev behind_first : List Row → List Row
behind_first [] = []
behind_first (r ∷ more) = more

pub holds-anew : (l : Language) (s : Stored) (w : ListWorld) (c : Change) (classes : List Declared) → StandsAs s.tables s.world w
    → AreBehind w.bones c classes → AllByRecursion (IsFound w.bones c classes) w.bones.objects → AllByRecursion (AreWatched w.bones c classes) w.bones.objects
    → AllByRecursion (HasValues w.bones c classes) w.bones.objects → IsGood l (world_passed (changed_world lists classes c w))
    → (after : HoldsWorld l (rows_behind (bones_passed (changed_bones w.bones c classes)) (rows_between s)) (world_passed (changed_world lists classes c w))) × (after.stored.tables ≡ s.tables)
holds-anew l s w c classes stands behind found watched has good =
    let same : w.bones ≡ s.world.bones = sym stands.bones in
    let it = stands-anew s w c classes stands behind found watched in
    let kept = rows-still s c classes (subst (λ (b : Bones). AreBehind b c classes) same behind) (subst (λ (b : Bones). AllByRecursion (HasValues b c classes) b.objects) same has) in (
      record {
        stored = record { world = world_passed (changed_world (numbers s.tables) classes c s.world); tables = s.tables };
        rows = ap (λ (b : Bones). rows_behind (bones_passed (changed_bones b c classes)) (rows_between s)) same
            ∙ sym (ap (λ (rs : List Row). counters_row (bones_passed (changed_bones s.world.bones c classes)) ∷ behind_first rs) kept);
        stands = record { bones = ap bones_passed it.bones; mean = it.mean; pasts = it.pasts; within = it.within };
        good = good;
      },
      refl,
    )
