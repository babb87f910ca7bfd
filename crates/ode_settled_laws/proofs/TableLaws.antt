-- The rows of a stored database read the tables of declared triggers alone.
use Rattle.std.proofs.Common.{◌≡◌, ℕ, ◌+◌, List, [], ◌∷◌, ◌++◌, map, length, refl, sym, ap, subst, ◌∙◌}
use Rattle.std.specs.List.{AllByRecursion, enumerate_from, flat_map, range_with_len}
use Rattle.ode_codec.specs.Standing.{StandsAs}
use Rattle.ode_codec.specs.StoredRows.{activation_rows, added_rows, counters_row, entry_row, head_row, object_row, places_of, rows, table_head, table_heads, table_pieces, table_rows, text_rows, version_rows}
use Rattle.ode_heap_laws.specs.Few.{HoldsCounted}
use Rattle.ode_laws.specs.Alike.{AgreesOn, NumberWorld}
use Rattle.ode_settled_laws.specs.Holding.{IsHeldBy}
use Rattle.ode_value.specs.Classes.{Trigger, trigger_of}
use Rattle.ode_value.specs.Language.{Language, ListWorld}
use Rattle.ode_value.specs.Records.{Row}
use Rattle.ode_value.specs.Tables.{Table}
use Rattle.ode_value.specs.Worlds.{Bones, Declared}
use Rattle.ode_value.specs.declared.member.TriggerDecl.{TriggerDecl}

module _ (tables other : ℕ → ℕ → Table) where
  -- the same table at a place of a class
  abbrev SameAt : ℕ → ℕ → Type 0
  SameAt class place = other class place ≡ tables class place

  same_places : (class n : ℕ) (ts : List TriggerDecl) → AllByRecursion (λ (t : Trigger). SameAt t.class t.place) (map (trigger_of class) (enumerate_from n ts)) → AllByRecursion (SameAt class) (range_with_len n (length ts))
  same_places class n [] same = tt
  same_places class n (t ∷ ts) same = (same.0, same_places class (n + 1) ts same.1)

  same_heads : (class : ℕ) (ps : List ℕ) → AllByRecursion (SameAt class) ps → map (λ place. table_head class place (other class place)) ps ≡ map (λ place. table_head class place (tables class place)) ps
  same_heads class [] same = refl
  same_heads class (p ∷ ps) same =
      ap (λ t. table_head class p t ∷ map (λ place. table_head class place (other class place)) ps) same.0
      ∙ ap (λ rs. table_head class p (tables class p) ∷ rs) (same_heads class ps same.1)

  same_pieces : (class : ℕ) (ps : List ℕ) → AllByRecursion (SameAt class) ps
      → flat_map (λ place. table_pieces class place (other class place)) ps ≡ flat_map (λ place. table_pieces class place (tables class place)) ps
  same_pieces class [] same = refl
  same_pieces class (p ∷ ps) same =
      ap (λ t. table_pieces class p t ++ flat_map (λ place. table_pieces class place (other class place)) ps) same.0
      ∙ ap (λ rs. table_pieces class p (tables class p) ++ rs) (same_pieces class ps same.1)

  class_heads : (cs : List Declared) → AllByRecursion (AgreesOn tables other) cs → flat_map (table_heads other) cs ≡ flat_map (table_heads tables) cs
  class_heads [] agree = refl
  class_heads (c ∷ cs) agree =
      ap (λ rs. rs ++ flat_map (table_heads other) cs) (same_heads c.class.number (places_of c) (same_places c.class.number 0 c.class.triggers agree.0))
      ∙ ap (λ rs. table_heads tables c ++ rs) (class_heads cs agree.1)

  class_tables : (cs : List Declared) → AllByRecursion (AgreesOn tables other) cs → flat_map (table_rows other) cs ≡ flat_map (table_rows tables) cs
  class_tables [] agree = refl
  class_tables (c ∷ cs) agree =
      ap (λ rs. rs ++ flat_map (table_rows other) cs) (same_pieces c.class.number (places_of c) (same_places c.class.number 0 c.class.triggers agree.0))
      ∙ ap (λ rs. table_rows tables c ++ rs) (class_tables cs agree.1)

  same_rows : (w : NumberWorld) → AllByRecursion (AgreesOn tables other) w.bones.classes → rows (record { world = w; tables = tables }) ≡ rows (record { world = w; tables = other })
  same_rows w agree =
      let b = w.bones in
      ap (λ hs. counters_row b ∷ map head_row b.classes ++ flat_map text_rows b.classes ++ hs ++ flat_map (table_rows tables) b.classes
      ++ map object_row b.objects ++ flat_map (version_rows b.classes) b.objects ++ flat_map (activation_rows w) b.objects ++ map entry_row b.queue ++ flat_map (added_rows b) b.classes) (sym (class_heads b.classes agree))
      ∙ ap (λ ts. counters_row b ∷ map head_row b.classes ++ flat_map text_rows b.classes ++ flat_map (table_heads other) b.classes ++ ts
      ++ map object_row b.objects ++ flat_map (version_rows b.classes) b.objects ++ flat_map (activation_rows w) b.objects ++ map entry_row b.queue ++ flat_map (added_rows b) b.classes) (sym (class_tables b.classes agree))

pub held_by : (l : Language) (records : List Row) (w : ListWorld) (held : HoldsCounted l records w) (tables : ℕ → ℕ → Table) → AllByRecursion (AgreesOn held.world.stored.tables tables) w.bones.classes
    → StandsAs tables held.world.stored.world w → IsHeldBy l tables records w
held_by l records w held tables agree stands =
    let s = held.world.stored in
    let here : AllByRecursion (AgreesOn s.tables tables) s.world.bones.classes = subst (λ (b : Bones). AllByRecursion (AgreesOn s.tables tables) b.classes) (sym held.world.stands.bones) agree in
    record {
      held = record {
        world = record {
          stored = record { world = s.world; tables = tables };
          rows = held.world.rows ∙ same_rows s.tables tables s.world here;
          stands = stands;
          good = held.world.good;
        };
        few = held.few;
      };
      by = refl;
    }
