use Rattle.std.proofs.Common.{Err, Ok, inr, refl}
use Rattle.std.specs.Prelude.{◌==◌}
use Rattle.ode_gate.specs.declared.places.TheConstants.{FIRST_FORMAT}
use Rattle.ode_keeper.proofs.Held.{meant_map}
use Rattle.ode_open.proofs.One.{one_opening}
use Rattle.ode_resting_laws.specs.Showing.{world_base}
use Rattle.ode_file_laws.proofs.files_of_worlds_are_opened.Goals as goal

pub returns-clause-opened : goal.returns-clause-opened
returns-clause-opened c = λ image entries w means holds ones fits.
    let under = meant_map image entries means in
    inr (inr (inr (record {
      header = under.0;
      counts = under.1;
      entries = entries;
      has = under.2;
      opened = Ok (world_base holds.stored.tables w.bones);
      are =
          c.held_worlds_are_opened.ensures (under.0.format == FIRST_FORMAT) entries w
          (record { world = holds; few = c.read_classes_have_few_parts.ensures w.bones.added w.bones.classes holds.good.bones.classes }) ones (fits under.0 under.1);
      is = refl;
    })))

pub returns-clause-unbroken : goal.returns-clause-unbroken
returns-clause-unbroken c = λ image entries w means holds ones fits error to.
    let two =
    one_opening c.records_are_opened_to_one_thing.ensures image (Ok (world_base holds.stored.tables w.bones)) (Err error) (returns-clause-opened c image entries w means holds ones fits) to in
    cc (two)
