-- A transaction that is to settle, before anything of it is written.
use Rattle.std.specs.Prelude.{◌≡◌, ℕ, List, Bool, Option}
use Rattle.ode_keep.specs.Entries.{Changes, Entries, applied}
use Rattle.ode_host.specs.View.{View}
use Rattle.ode_overlay.specs.Settling.{growth_told}
use Rattle.ode_run.specs.Contexts.{ContextRuns, IsContext, parts_of, tables_of}
pub use Rattle.ode_run.specs.Ending.{ended_by}
use Rattle.ode_run.specs.Ending.{SettledOver}
use Rattle.ode_run.specs.declared.context.Ctx.{Ctx}
use Rattle.ode_transact.specs.Ending.{line_of}
use Rattle.ode_transact.specs.Working.{settled_by}
use Rattle.ode_value.specs.Language.{Language, ListTx, ListWorld}
use Rattle.ode_value.specs.Pasts.{lists}
use Rattle.ode_value.specs.Settling.{ended}
use Rattle.ode_value.specs.declared.reason.Reason.{Reason}

module _ {H K : Type 0} (seen : H → View) (held : K → View → Entries → Type 0) (live : K → Bool) where
  -- Its context ran as this transaction, over records of the world before; with these changes they hold the one behind. The context still
  -- stands for the world before, and its overlay looked at and met what the settling did. The number and the last line are the transaction's.
  pub record IsPrepared (l : Language) (w : ListWorld) (t : ListTx) (ending : Option Reason) (number : ℕ) (line : List ℕ) (batch : Changes) (ctx : Ctx K) (host : H) : Type 0 where
    pub ran : Ctx K
    pub there : H
    pub runs : ContextRuns seen held live l w ran there t
    pub context : IsContext seen held live runs.entries runs.world.world.stored.world ctx host
    pub over : SettledOver l (tables_of ran) w (growth_told ctx.classes ctx.overlay) (applied batch runs.entries) ctx.text (line_of w.bones.transaction ending) (settled_by ending t)
    pub parts : parts_of ctx ≡ parts_of ran
    pub numbered : number ≡ w.bones.transaction
    pub lined : line ≡ line_of w.bones.transaction ending
    pub met : ctx.overlay.footprint ≡ (ended lists (ended_by ending t)).footprint
