-- What a context stands for.
use Rattle.std.specs.Prelude.{◌≡◌, ◌≤◌, ℕ, List, [], Bool, true, Result, Ok, Err, IsErrOf}
use Rattle.ode_host.specs.Causes.{RoseIf}
use Rattle.ode_host.specs.Host.{Looks}
use Rattle.ode_heap_laws.specs.Few.{HoldsCounted}
use Rattle.ode_host.specs.View.{View}
use Rattle.ode_interpreter.specs.Seen.{Leaves}
use Rattle.ode_interpreter.specs.declared.stop.Stop.{Stop}
use Rattle.ode_interpreter.specs.declared.stop.Stop.TheVariants as stop
use Rattle.ode_keep.specs.Entries.{Entries}
use Rattle.ode_known_laws.specs.Knowing.{IsKnown, declared_in}
use Rattle.ode_laws.specs.Alike.{NumberTx, NumberWorld, RunsAs}
use Rattle.ode_overlay.specs.Layers.{Layer}
use Rattle.ode_overlay.specs.declared.origin.Origin.{Origin}
use Rattle.ode_run.specs.Knowing.{IsSound, beside}
use Rattle.ode_run.specs.declared.context.Ctx.{Ctx}
use Rattle.ode_schema.specs.Parts.{AreFit, Parts, table_by}
use Rattle.ode_states.specs.declared.fired.Fired.{Fired}
use Rattle.ode_value.specs.Acts.{Outcome, Done, Aborted}
use Rattle.ode_value.specs.Language.{Language, ListTx, ListWorld}
use Rattle.ode_value.specs.Limits.{budget_limit}
use Rattle.ode_value.specs.Objects.{Histories, Starts}
use Rattle.ode_value.specs.Tables.{Table}
use Rattle.ode_value.specs.Weights.{weight}
use Rattle.ode_view_laws.specs.Viewing.{began_over, running}

-- ---- the parts of a context

-- the program: its classes, with the tables and alphabets of their triggers
abbrev pub parts_of : {K : Type 0} → Ctx K → Parts
parts_of ctx = record { classes = ctx.classes; tables = ctx.tables; alphabets = ctx.alphabets; maps = ctx.maps }

-- the table of each trigger
abbrev pub tables_in : Parts → ℕ → ℕ → Table
tables_in p = table_by p.tables p.maps

abbrev pub tables_of : {K : Type 0} → Ctx K → ℕ → ℕ → Table
tables_of ctx = tables_in (parts_of ctx)

-- the transaction over state numbers, over the world at its start
abbrev pub tx_over : NumberWorld → Layer → List (ℕ × Fired) → List ℕ → ℕ → NumberTx
tx_over first x deferred text left = running first.bones.classes first x (beside first deferred text left)

abbrev pub tx_of : {K : Type 0} → NumberWorld → Ctx K → NumberTx
tx_of first ctx = tx_over first ctx.overlay ctx.deferred ctx.text ctx.budget

-- ---- what is known of it

-- The keeper may be used and holds the records, which show the world that the overlay began with and that has this weight.
pub record IsOpen (held : Entries → Type 0) (live : Bool) (x : Layer) (left size : ℕ) (entries : Entries) (first : NumberWorld) : Type 0 where
  pub usable : live ≡ true
  pub records : held entries
  pub known : IsKnown entries first x
  pub budget : left ≤ budget_limit
  pub bytes : size ≡ weight first.bones

module _ {H K : Type 0} (seen : H → View) (held : K → View → Entries → Type 0) (live : K → Bool) where
  module _ (entries : Entries) (first : NumberWorld) where
    -- a context is open over records that show the world at its start, with the classes of that world
    pub record IsContext (ctx : Ctx K) (host : H) : Type 0 where
      pub state : IsOpen (held ctx.heap (seen host)) (live ctx.heap) ctx.overlay ctx.budget ctx.bytes entries first
      pub classes : ctx.classes ≡ declared_in first

    -- at the start of a transaction
    pub record IsBeginning (origin : Origin) (ctx : Ctx K) (host : H) : Type 0 where
      pub usable : live ctx.heap ≡ true
      pub records : held ctx.heap (seen host) entries
      pub classes : ctx.classes ≡ declared_in first
      pub overlay : ctx.overlay ≡ began_over origin first
      pub deferred : ctx.deferred ≡ []
      pub text : ctx.text ≡ []
      pub budget : ctx.budget ≡ budget_limit
      pub bytes : ctx.bytes ≡ weight first.bones

  -- A context's keeper holds records that hold this world over lists of points, its tables are those of the records and fit its classes, and
  -- what it stands for runs as this transaction, which began with the world.
  pub record ContextRuns (l : Language) (w : ListWorld) (ctx : Ctx K) (host : H) (t : ListTx) : Type 0 where
    pub entries : Entries
    pub world : HoldsCounted l entries w
    pub context : IsContext entries world.world.stored.world ctx host
    pub tables : world.world.stored.tables ≡ tables_of ctx
    pub fit : AreFit (parts_of ctx)
    pub runs : RunsAs (tables_of ctx) (tx_of world.world.stored.world ctx) t
    pub first : t.first ≡ w

-- ---- what a call leaves

-- the context, unless the disk failed: no record is damaged; the host only looked, and the disk failed exactly where that is the stop
pub record LeavesOpen {R : Type 0} (result : Result R Stop) (context : Type 0) (before after : View) : Type 0 where
  pub stays : Leaves result context IsSound
  pub looks : Looks before after
  pub faults : RoseIf (IsErrOf result stop.DiskFault) before.disk_faults after.disk_faults

-- a call ended as an act over lists: with the same answer or reason, and this holds of what the act reached
abbrev pub EndsWhere : {R : Type 0} → Result R Stop → (ListTx → Type 0) → Outcome Histories Starts R → Type 0
EndsWhere (Ok v) P (Done answer x) = (v ≡ answer) × P x
EndsWhere (Ok v) P (Aborted reason x) = ⊥
EndsWhere (Err (stop.Abort why)) P (Done answer x) = ⊥
EndsWhere (Err (stop.Abort why)) P (Aborted reason x) = (why ≡ reason) × P x
EndsWhere (Err stop.Memory) P outcome = Unit {0}
EndsWhere (Err stop.DiskFault) P outcome = Unit {0}
EndsWhere (Err (stop.Damaged key)) P outcome = Unit {0}
