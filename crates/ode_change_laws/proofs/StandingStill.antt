-- Where a class gets fields, the stored database with the same tables and state numbers stands for the changed world.
use Rattle.std.proofs.Common.{List, map, ap, sym, subst}
use Rattle.std.specs.List.{AllByRecursion}
use Rattle.ode_codec.specs.Standing.{ArePasts, StandsAs}
use Rattle.ode_codec.specs.StoredRows.{Stored}
use Rattle.ode_value.specs.declared.change.Change.{Change}
use Rattle.ode_value.specs.Changing.{changed_bones, changed_object, changed_past, changed_place, changed_world}
use Rattle.ode_value.specs.Classes.{is_a}
use Rattle.ode_value.specs.Language.{ListWorld}
use Rattle.ode_value.specs.Pasts.{lists, numbers}
use Rattle.ode_value.specs.Worlds.{Declared}
use Rattle.ode_change_laws.specs.Moves.{AreBehind, AreWatched, IsFound, new_fields}
use Rattle.ode_change_laws.proofs.MovedPasts.{classes-anew, numbers-stay, pasts-anew, within-anew}

pub stands-anew : (s : Stored) (w : ListWorld) (c : Change) (classes : List Declared) → StandsAs s.tables s.world w
    → AreBehind w.bones c classes → AllByRecursion (IsFound w.bones c classes) w.bones.objects → AllByRecursion (AreWatched w.bones c classes) w.bones.objects
    → StandsAs s.tables (changed_world (numbers s.tables) classes c s.world) (changed_world lists classes c w)
stands-anew s w c classes stands behind found watched =
    let b = w.bones in
    record {
      bones = ap (λ x. changed_bones x c classes) stands.bones;
      mean = classes-anew (changed_place b c) (new_fields b c classes) s.tables (λ number. is_a b.classes number c.class) b.classes classes behind stands.mean;
      pasts = subst (λ rows. ArePasts s.tables classes (map (changed_object b c) b.objects) rows (map (changed_past lists classes c b) w.pasts))
          (sym (numbers-stay s.tables s.world.bones c classes s.world.pasts))
          (pasts-anew s.tables b c classes b.objects s.world.pasts w.pasts found watched stands.within stands.pasts);
      within = within-anew s.tables b c classes b.objects w.pasts stands.within;
    }
