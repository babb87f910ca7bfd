-- What the declaration of a class leaves over records.
use Rattle.std.proofs.Common.{◌≡◌, ℕ, List, [], ◌∷◌, ◌++◌, refl, sym, ap, ◌∙◌, subst}
use Rattle.std.specs.List.{AllByRecursion}
use Rattle.ode_class_laws.specs.Declaring.{bones_with, stored_with, tables_with, world_with}
use Rattle.ode_codec.specs.Standing.{HoldsWorld}
use Rattle.ode_codec.specs.StoredRows.{Stored}
use Rattle.ode_heap_laws.specs.Few.{HasFewParts, HoldsCounted}
use Rattle.ode_keep.proofs.Applying.{applied_rising}
use Rattle.ode_keep.proofs.SameMaps.{same_map}
use Rattle.ode_known_laws.specs.Knowing.{IsHeld}
use Rattle.ode_keep.specs.Entries.{Changes, Entries, HasRisingKeys, applied, value_under}
use Rattle.ode_declared_laws.specs.Declared.{DeclaredOver}
use Rattle.ode_settled_laws.specs.Holding.{IsHeldBy}
use Rattle.ode_laws.specs.Alike.{AgreesOn, NumberTx, NumberWorld, RunsAs}
use Rattle.ode_overlay.specs.After.{stands_after}
use Rattle.ode_overlay.specs.Layers.{Layer}
use Rattle.ode_overlay.specs.declared.origin.Origin.TheVariants as from
use Rattle.ode_value.specs.Acts.{with_line}
use Rattle.ode_value.specs.Firings.{both_lists}
use Rattle.ode_value.specs.GoodWorlds.{IsGood}
use Rattle.ode_value.specs.Language.{Language, ListWorld}
use Rattle.ode_value.specs.Objects.{Histories, Starts}
use Rattle.ode_value.specs.Pasts.{lists, numbers}
use Rattle.ode_value.specs.Settling.{Settled, commit, posted}
use Rattle.ode_value.specs.Tables.{Table}
use Rattle.ode_value.specs.Texts.{class_line, committed_line}
use Rattle.ode_value.specs.Transactions.{Script, begun}
use Rattle.ode_value.specs.Weights.{weight}
use Rattle.ode_value.specs.Worlds.{Declared}
use Rattle.ode_value.specs.declared.event.Kind.TheVariants.{TCommit}
use Rattle.ode_value.specs.declared.key.Key.{Key}
use Rattle.ode_view_laws.specs.Viewing.{Beside, began_over, nothing_beside, running}

-- changes that are other ones, one behind the other
pub both_applied : (rows rest all : Changes) (base : Entries) → HasRisingKeys base → ((at : Entries) (q : Key) → value_under (applied all at) q ≡ value_under (applied rest (applied rows at)) q)
    → applied all base ≡ applied rest (applied rows base)
both_applied rows rest all base rising same =
    same_map (applied all base) (applied rest (applied rows base)) (applied_rising all base rising) (applied_rising rest (applied rows base) (applied_rising rows base rising)) (same base)

-- what a transaction has beside its overlay that printed this
abbrev pub said : List ℕ → Beside
said line = record { deferred = []; text = line; run = 0 }

-- the overlay of a transaction that only printed a line
abbrev pub untouched : NumberWorld → Layer
untouched first = began_over from.Script first

module _ (tables : ℕ → ℕ → Table) (first : NumberWorld) (w : ListWorld) (line : List ℕ) where
  abbrev pub view : NumberTx
  view = running first.bones.classes first (untouched first) (said line)

  -- it runs as that over lists
  pub line_runs : running first.bones.classes first (untouched first) nothing_beside ≡ begun Script first → RunsAs tables (begun Script first) (begun Script w) → RunsAs tables view (with_line line (begun Script w))
  line_runs is runs =
      let begins : RunsAs tables (running first.bones.classes first (untouched first) nothing_beside) (begun Script w) = subst (λ (y : NumberTx). RunsAs tables y (begun Script w)) (sym is) runs in
      record {
        first = begins.first;
        now = begins.now;
        classes = begins.classes;
        next = begins.next;
        stays = begins.stays;
        origin = begins.origin;
        touched = begins.touched;
        deferred = begins.deferred;
        collected = begins.collected;
        gathered = begins.gathered;
        text = refl;
        run = begins.run;
        keys = begins.keys;
        footprint = begins.footprint;
      }

  -- no object was touched, so no point arises behind it
  pub none_posted : posted (numbers tables) (both_lists (numbers tables)) TCommit view ≡ view
  unfolding posted
  none_posted = refl

module _ (w : ListWorld) (line : List ℕ) where
  abbrev pub left : ListWorld
  left = (commit lists (with_line line (begun Script w))).0

  pub left_classes : left.bones.classes ≡ w.bones.classes
  unfolding posted
  left_classes = refl

  pub left_text : (commit lists (with_line line (begun Script w))).1 ≡ line ++ committed_line w.bones.transaction
  unfolding posted
  left_text = refl

all_few : (ds : List Declared) (d : Declared) → AllByRecursion HasFewParts ds → HasFewParts d → AllByRecursion HasFewParts (ds ++ d ∷ [])
all_few [] d all here = (here, tt)
all_few (e ∷ ds) d all here = (all.0, all_few ds d all.1 here)

-- Over the records with a class, those behind its transaction hold what it leaves, by any tables that are the stored ones for each trigger.
module _ (l : Language) (base : Entries) (w : ListWorld) (held : HoldsCounted l base w) (c : Declared) (own : List Table) (few : HasFewParts c) (rows rest all : Changes) (rising : HasRisingKeys base)
    (after : HoldsWorld l (applied rows base) (world_with c w)) (same : after.stored ≡ stored_with c own held.world.stored) where
  abbrev line : List ℕ
  line = class_line c.class.name

  abbrev pub settled : Settled Histories Starts
  settled = commit lists (with_line line (begun Script (world_with c w)))

  -- the records hold the world with the class
  pub held_with : IsHeld (applied rows base) after.stored.world
  held_with = record { language = l; world = world_with c w; held = record { world = after; few = all_few w.bones.classes c held.few few }; is = refl }

  -- the overlay is that of the transaction that begins with the class
  overlay_is : untouched after.stored.world ≡ untouched held.world.stored.world
  overlay_is = ap (λ (s : Stored). untouched s.world) same

  pub stands_with : ((at : Entries) (q : Key) → value_under (applied rest at) q ≡ stands_after (untouched held.world.stored.world) at q)
      → (q : Key) → value_under (applied rest (applied rows base)) q ≡ stands_after (untouched after.stored.world) (applied rows base) q
  stands_with stands = λ q. stands (applied rows base) q ∙ ap (λ (x : Layer). stands_after x (applied rows base) q) (sym overlay_is)

  module _ (tables : ℕ → ℕ → Table) (agree : AllByRecursion (AgreesOn (tables_with c.class.number own held.world.stored.tables) tables) (w.bones.classes ++ c ∷ []))
      (differ : (records : Entries) (v : ListWorld) (h : HoldsCounted l records v) → AllByRecursion (AgreesOn h.world.stored.tables tables) v.bones.classes → IsHeldBy l tables records v) where
    held_left : (h : HoldsWorld l (applied rest (applied rows base)) settled.0) → h.stored.tables ≡ after.stored.tables → IsHeldBy l tables (applied rest (applied rows base)) settled.0
    held_left h by =
        let classes : w.bones.classes ++ c ∷ [] ≡ settled.0.bones.classes = sym (left_classes (world_with c w) line) in
        let stored : tables_with c.class.number own held.world.stored.tables ≡ h.stored.tables = sym (by ∙ ap (λ (s : Stored). s.tables) same) in
        differ (applied rest (applied rows base)) settled.0
        (record { world = h; few = subst (AllByRecursion HasFewParts) classes (all_few w.bones.classes c held.few few) })
        (subst (λ (ts : ℕ → ℕ → Table). AllByRecursion (AgreesOn ts tables) settled.0.bones.classes) stored
        (subst (AllByRecursion (AgreesOn (tables_with c.class.number own held.world.stored.tables) tables)) classes agree))

    pub declared_over : ((at : Entries) (q : Key) → value_under (applied all at) q ≡ value_under (applied rest (applied rows at)) q)
        → (IsGood l settled.0 → (h : HoldsWorld l (applied rest (applied rows base)) settled.0) × (h.stored.tables ≡ after.stored.tables))
        → weight settled.0.bones ≡ weight (bones_with c w.bones) → DeclaredOver l tables (applied all base) w c settled
    declared_over both holds weighs = record {
      prints = left_text (world_with c w) line;
      classes = left_classes (world_with c w) line;
      weighs = weighs;
      holds = λ good. let h = holds good in
          subst (λ (records : Entries). IsHeldBy l tables records settled.0) (sym (both_applied rows rest all base rising both)) (held_left h.0 h.1);
    }
