-- A context goes back to its file.
use Rattle.std.proofs.Common.{◌≡◌, ◌∙◌, ℕ, List, Bool, Option, ap, sym}
use Rattle.ode_engine.specs.Refusing.{back}
use Rattle.ode_heap_laws.specs.Few.{HoldsCounted}
use Rattle.ode_host.specs.View.{View}
use Rattle.ode_keep.specs.Entries.{Changes, Entries}
use Rattle.ode_transact.specs.Contexts.{ContextRuns, IsContext, parts_of, tables_of, Ctx}
use Rattle.ode_schema.specs.Parts.{AreFit, Parts, table_by}
use Rattle.ode_transact.specs.Preparing.{IsPrepared}
use Rattle.ode_transact.specs.Resting.{IsAtRest}
use Rattle.ode_value.specs.Language.{Language, ListTx, ListWorld}
use Rattle.ode_value.specs.declared.reason.Reason.{Reason}

module _ {H K : Type 0} (seen : H → View) (held : K → View → Entries → Type 0) (live : K → Bool) (l : Language) where
  back_rests : (w : ListWorld) (entries : Entries) (world : HoldsCounted l entries w) (ctx : Ctx K) (host : H) → IsContext seen held live entries world.world.stored.world ctx host
      → world.world.stored.tables ≡ tables_of ctx → AreFit (parts_of ctx) → IsAtRest seen held live l w (back ctx) host
  back_rests w entries world ctx host is tables fit = record {
    entries = entries;
    world = world;
    usable = is.state.usable;
    records = is.state.records;
    classes = is.classes;
    tables = tables;
    fit = fit;
    bytes = is.state.bytes;
  }

  -- of a transaction that runs
  pub runs_back : (w : ListWorld) (ctx : Ctx K) (host : H) (x : ListTx) → ContextRuns seen held live l w ctx host x → IsAtRest seen held live l w (back ctx) host
  runs_back w ctx host x runs = back_rests w runs.entries runs.world ctx host runs.context runs.tables runs.fit

  -- of one that was to settle
  pub prepared_back : (w : ListWorld) (x : ListTx) (ending : Option Reason) (number : ℕ) (line : List ℕ) (batch : Changes) (ctx : Ctx K) (host : H) → IsPrepared seen held live l w x ending number line batch ctx host → AreFit (parts_of ctx)
      → IsAtRest seen held live l w (back ctx) host
  prepared_back w x ending number line batch ctx host is fit =
      back_rests w is.runs.entries is.runs.world ctx host is.context (is.runs.tables ∙ ap (λ (p : Parts). table_by p.tables p.maps) (sym is.parts)) fit
