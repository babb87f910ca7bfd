-- A file at rest: where a transaction begins over it, and where one leaves it.
use Rattle.std.proofs.Common.{◌≡◌, ◌∙◌, List, [], map, Bool, true, ap, sym, ℕ}
use Rattle.ode_transact.specs.Resting.{HoldsBy, IsAtRest, resting_parts, resting_tables}
use Rattle.ode_transact.specs.Settling.{Meaning}
use Rattle.ode_opened.specs.declared.opened.Opened.{Opened}
use Rattle.ode_heap.specs.Answering.{class_of}
use Rattle.ode_heap_laws.specs.Few.{HoldsCounted}
use Rattle.ode_host.specs.View.{View}
use Rattle.ode_keep.specs.Entries.{Entries}
use Rattle.ode_overlay.specs.declared.origin.Origin.{Origin}
use Rattle.ode_run.specs.Contexts.{IsBeginning, parts_of}
use Rattle.ode_run.specs.Ending.{IsHeldBy}
use Rattle.ode_run.specs.declared.context.Ctx.{Ctx}
use Rattle.ode_schema.specs.Parts.{AreFit, Parts}
use Rattle.ode_sound_laws.specs.Typed.{AreFromOne}
use Rattle.ode_value.specs.Language.{Language, ListWorld}
use Rattle.ode_value.specs.Limits.{budget_limit}
use Rattle.ode_value.specs.Weights.{weight}
use Rattle.ode_value.specs.Worlds.{Bones}
use Rattle.ode_view_laws.specs.Viewing.{began_over}

-- an image that stands for records that hold a world
pub image_holds : (l : Language) (means : Meaning) (image : List ℕ) (entries : Entries) (w : ListWorld) → means image entries → HoldsCounted l entries w → AreFromOne w.bones → HoldsBy l means image w
image_holds l means image entries w are held ones = record { entries = entries; are = are; world = held.world; ones = ones }

module _ {H K : Type 0} (seen : H → View) (held : K → View → Entries → Type 0) (live : K → Bool) where
  -- what a settled transaction leaves: the records hold its world by the same tables, and the classes are those of before
  pub rests : (l : Language) (entries : Entries) (w : ListWorld) (o : Opened K) (host : H) → (is : IsHeldBy l (resting_tables o) entries w) → live o.keeper ≡ true → held o.keeper (seen host) entries
      → o.classes ≡ map class_of w.bones.classes → AreFit (resting_parts o) → o.bytes ≡ weight w.bones → IsAtRest seen held live l w o host
  rests l entries w o host is usable records classes fit bytes =
      let same : is.held.world.stored.world.bones ≡ w.bones = is.held.world.stands.bones in
      record {
        entries = entries;
        world = is.held;
        usable = usable;
        records = records;
        classes = classes ∙ ap (λ (b : Bones). map class_of b.classes) (sym same);
        tables = is.by;
        fit = fit;
        bytes = bytes ∙ ap weight (sym same);
      }

  -- the context of a transaction that begins over it
  pub begins_over : (l : Language) (w : ListWorld) (o : Opened K) (old new : H) (rest : IsAtRest seen held live l w o old) (origin : Origin) (ctx : Ctx K) → live ctx.heap ≡ true → held ctx.heap (seen new) rest.entries
      → parts_of ctx ≡ resting_parts o → ctx.overlay ≡ began_over origin rest.world.world.stored.world → ctx.deferred ≡ [] → ctx.text ≡ [] → ctx.budget ≡ budget_limit → ctx.bytes ≡ o.bytes
      → IsBeginning seen held live rest.entries rest.world.world.stored.world origin ctx new
  begins_over l w o old new rest origin ctx usable records parts overlay deferred text budget bytes = record {
    usable = usable;
    records = records;
    classes = ap (λ (p : Parts). p.classes) parts ∙ rest.classes;
    overlay = overlay;
    deferred = deferred;
    text = text;
    budget = budget;
    bytes = bytes ∙ rest.bytes;
  }
