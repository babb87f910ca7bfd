-- The tables of an opened world are those that are stored, trigger by trigger.
use Rattle.std.proofs.Common.{◌≡◌, ℕ, suc, ◌+◌, List, [], ◌∷◌, map, Option, Some, refl, ap, subst, ◌∙◌, arith}
use Rattle.std.specs.Prelude.{slice_get, slice_index_or}
use Rattle.std.specs.List.{AllByRecursion, enumerate_from}
use Rattle.std.specs.Option.{option_map, option_map_or}
use Rattle.std.proofs.lemmas.Option.{get_or_from_slice_get}
use Rattle.ode_laws.specs.Alike.{AgreesOn}
use Rattle.ode_opened_laws.proofs.Placed.{IsPlacedIn, all_placed}
use Rattle.ode_opened_laws.specs.WorldBases.{class_of, stored_tables}
use Rattle.ode_opening_tables.specs.Tables.{places_from}
use Rattle.ode_schema.specs.Parts.{table_by, table_place}
use Rattle.ode_states.specs.Advance.{no_table}
use Rattle.ode_value.specs.Classes.{Trigger, trigger_of}
use Rattle.ode_value.specs.GoodWorlds.{AreClasses}
use Rattle.ode_value.specs.Language.{Language}
use Rattle.ode_value.specs.Tables.{Table}
use Rattle.ode_value.specs.Worlds.{Declared}
use Rattle.ode_value.specs.declared.change.Added.{Added}
use Rattle.ode_value.specs.declared.member.TriggerDecl.{TriggerDecl}

module _ (tables : ℕ → ℕ → Table) (all : List Table) (maps : List ℕ) where
  abbrev SameAt : ℕ → ℕ → Type 0
  SameAt class place = table_by all maps class place ≡ tables class place

  same_at : (d : Declared) → IsPlacedIn tables all maps d → (place : ℕ) (t : TriggerDecl) → slice_get d.class.triggers place ≡ Some t → SameAt d.class.number place
  same_at d is place t has =
      let at : table_place maps (suc is.before) place ≡ Some (is.first + place) = ap (option_map (λ first. first + place)) is.is in
      ap (λ (n : ℕ). table_by all maps n place) is.number
      ∙ ap (λ (o : Option ℕ). option_map_or (λ n. slice_index_or all n no_table) o no_table) at
      ∙ get_or_from_slice_get all (is.first + place) (tables d.class.number place) no_table (is.each place t has)

  same_from : (class n : ℕ) (ts : List TriggerDecl) → ((k : ℕ) (t : TriggerDecl) → slice_get ts k ≡ Some t → SameAt class (n + k))
      → AllByRecursion (λ (t : Trigger). SameAt t.class t.place) (map (trigger_of class) (enumerate_from n ts))
  same_from class n [] each = tt
  same_from class n (t ∷ ts) each = (
    let here : n + 0 ≡ n = omega arith in subst (SameAt class) here (each 0 t refl),
    same_from class (n + 1) ts (λ k u is. let next : n + suc k ≡ n + 1 + k = omega arith in subst (SameAt class) next (each (suc k) u is)),
  )

  all_agree : (ds : List Declared) → AllByRecursion (IsPlacedIn tables all maps) ds → AllByRecursion (AgreesOn tables (table_by all maps)) ds
  all_agree [] placed = tt
  all_agree (d ∷ ds) placed = (
    same_from d.class.number 0 d.class.triggers (λ k t is. let none : k ≡ 0 + k = omega arith in subst (SameAt d.class.number) none (same_at d placed.0 k t is)),
    all_agree ds placed.1,
  )

pub tables_agree : (l : Language) (added : List Added) (tables : ℕ → ℕ → Table) (ds : List Declared) → AreClasses l added [] ds
    → AllByRecursion (AgreesOn tables (table_by (stored_tables tables ds) (places_from 0 (map class_of ds)))) ds
tables_agree l added tables ds are = all_agree tables (stored_tables tables ds) (places_from 0 (map class_of ds)) ds (all_placed tables l added ds are)
