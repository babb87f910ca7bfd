use Rattle.std.proofs.Common.{ap}
use Rattle.ode_known_laws.proofs.KnownLaws.{footed_known}
use Rattle.ode_run.proofs.looked.contexts_look.Goals as goal
use Rattle.ode_value.specs.Footprints.{with_looks}
use Rattle.ode_view_laws.specs.Viewing.{world_now}

pub returns : goal.returns
unfolding world_now
returns g c = λ l w ctx host x ids r.
    let state = r.context.state in
    record {
      entries = r.entries;
      world = r.world;
      context = record {
        state = record {
          usable = state.usable;
          records = state.records;
          known = footed_known r.entries r.world.world.stored.world ctx.overlay (with_looks ids ctx.overlay.footprint) state.known;
          budget = state.budget;
          bytes = state.bytes;
        };
        classes = r.context.classes;
      };
      tables = r.tables;
      fit = r.fit;
      runs = record {
        first = r.runs.first;
        now = r.runs.now;
        classes = r.runs.classes;
        next = r.runs.next;
        stays = r.runs.stays;
        origin = r.runs.origin;
        touched = r.runs.touched;
        deferred = r.runs.deferred;
        collected = r.runs.collected;
        gathered = r.runs.gathered;
        text = r.runs.text;
        run = r.runs.run;
        keys = r.runs.keys;
        footprint = ap (with_looks ids) r.runs.footprint;
      };
      first = r.first;
    }
