-- A transaction that only prints a line.
use Rattle.std.proofs.Common.{◌≡◌, List, ℕ, Bool}
use Rattle.ode_host.specs.View.{View}
use Rattle.ode_keep.specs.Entries.{Entries}
use Rattle.ode_transact.specs.Contexts.{ContextRuns, Ctx}
use Rattle.ode_value.specs.Acts.{with_line}
use Rattle.ode_value.specs.Language.{Language, ListWorld}
use Rattle.ode_value.specs.Transactions.{Script, begun}

module _ {H K : Type 0} (seen : H → View) (held : K → View → Entries → Type 0) (live : K → Bool) where
  -- its context, which has nothing but the line
  pub says_line : (l : Language) (w : ListWorld) (ctx : Ctx K) (host : H) (text line : List ℕ) → text ≡ line → ContextRuns seen held live l w ctx host (begun Script w)
      → ContextRuns seen held live l w (record ctx { text = text }) host (with_line line (begun Script w))
  says_line l w ctx host text line same is = record {
    entries = is.entries;
    world = is.world;
    context = record {
      state = record {
        usable = is.context.state.usable;
        records = is.context.state.records;
        known = is.context.state.known;
        budget = is.context.state.budget;
        bytes = is.context.state.bytes;
      };
      classes = is.context.classes;
    };
    tables = is.tables;
    fit = is.fit;
    runs = record {
      first = is.runs.first;
      now = is.runs.now;
      classes = is.runs.classes;
      next = is.runs.next;
      stays = is.runs.stays;
      origin = is.runs.origin;
      touched = is.runs.touched;
      deferred = is.runs.deferred;
      collected = is.runs.collected;
      gathered = is.runs.gathered;
      text = same;
      run = is.runs.run;
      keys = is.runs.keys;
      footprint = is.runs.footprint;
    };
    first = is.first;
  }
