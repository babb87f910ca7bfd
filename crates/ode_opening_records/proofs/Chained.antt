-- All rules, one behind the other: what records are opened to, by the first rule that is broken.
use Rattle.std.proofs.Common.{◌≡◌, ℕ, ◌+◌, List, [], Bool, Ok, Err, sym, ap, subst, ◌∙◌}
use Rattle.ode_codec.specs.declared.record.Counters.{Counters}
use Rattle.ode_keep.specs.Entries.{Entries}
use Rattle.ode_language.specs.Languages.{ode}
use Rattle.ode_opening.specs.Accepting.{Accepts}
use Rattle.ode_opening.specs.Building.{AreBuilt, triggers_of}
use Rattle.ode_opening.specs.Classes.{classes_in}
use Rattle.ode_opening.specs.declared.accepted.Accepted.{Accepted}
use Rattle.ode_opening_objects.specs.Objects.{objects_keep}
use Rattle.ode_opening_objects.specs.Triggers.{is_reached_in}
use Rattle.ode_opening_tables.proofs.BuiltLaws.{alphabets_are}
use Rattle.ode_opening_tables.specs.Answers.{Tells}
use Rattle.ode_opening_tables.specs.Tables.{TablesIn, all_triggers, places_from, spare_in}
use Rattle.ode_passes.specs.Answers.{Answers}
use Rattle.ode_passes.specs.Rules.{Ruled, ◌>>=◌}
use Rattle.ode_passes.specs.Tally.{is_light, tally_in}
use Rattle.ode_passes.specs.declared.cause.Cause.{Cause}
use Rattle.ode_passes.specs.declared.error.OpenError.{OpenError}
use Rattle.ode_passes.specs.declared.error.OpenError.TheVariants as error
use Rattle.ode_value.specs.Tables.{Table}
use Rattle.ode_value.specs.declared.class.Class.{Class}
use Rattle.ode_opening_records.specs.Answers.{Opens}
use Rattle.ode_opening_records.specs.Reading.{AreOpened, base_of, opened_by}
use Rattle.ode_opening_records.specs.declared.base.Base.{Base}

abbrev Tally : Type 0
Tally = Counters × ℕ

module _ (first : Bool) (entries : Entries) where
  abbrev own_rules : Tally → List Class → List Table → Ruled Base
  own_rules t cs own = objects_keep t.0 (is_reached_in own (places_from 0 cs)) cs entries >>= λ _. is_light first t.1 >>= λ _. Ok (base_of cs own t.1)

  -- never both
  given_not_broken : {X : Type 0} (m : Ruled X) (x : X) (why : Cause) → m ≡ Ok x → m ≡ Err why → ⊥
  given_not_broken m x why given broken = cc (given, broken)

  same_given : {X : Type 0} (m : Ruled X) (x y : X) → m ≡ Ok x → m ≡ Ok y → x ≡ y
  same_given m x y one other = cc (one, other)

  tally_stops : (why : Cause) → tally_in first entries ≡ Err why → AreOpened first ode entries (Err why)
  unfolding opened_by
  tally_stops why broken = record {
    tables = Ok [];
    come_to = λ t classes given read. absurd (given_not_broken (tally_in first entries) t why given broken);
    is = sym (ap (λ m. m >>= λ t. classes_in ode t.0.added entries >>= λ cs. own_rules t cs []) broken);
  }

  module _ (t : Tally) (tally : tally_in first entries ≡ Ok t) where
    -- what is tallied is one thing
    again : (u : Tally) → tally_in first entries ≡ Ok u → u ≡ t
    again u given = same_given (tally_in first entries) u t given tally

    classes_stop : (why : Cause) → classes_in ode t.0.added entries ≡ Err why → AreOpened first ode entries (Err why)
    unfolding opened_by
    classes_stop why broken = record {
      tables = Ok [];
      come_to = λ u classes given read.
          absurd (given_not_broken (classes_in ode u.0.added entries) classes why read (ap (λ (v : Tally). classes_in ode v.0.added entries) (again u given) ∙ broken));
      is = sym (ap (λ m. m >>= λ t. classes_in ode t.0.added entries >>= λ cs. own_rules t cs []) tally ∙ ap (λ m. m >>= λ cs. own_rules t cs []) broken);
    }

    module _ (classes : List Class) (read : classes_in ode t.0.added entries ≡ Ok classes) where
      -- what the rule comes to, by these classes
      comes : (tables : Ruled (List Table)) → TablesIn entries (all_triggers classes) tables → (u : Tally) (cs : List Class) → tally_in first entries ≡ Ok u
          → classes_in ode u.0.added entries ≡ Ok cs → TablesIn entries (all_triggers cs) tables
      comes tables is u cs given other =
          let there : classes_in ode t.0.added entries ≡ Ok cs = ap (λ (v : Tally). classes_in ode v.0.added entries) (sym (again u given)) ∙ other in
          subst (λ (ds : List Class). TablesIn entries (all_triggers ds) tables) (same_given (classes_in ode t.0.added entries) classes cs read there) is

      behind : (tables : Ruled (List Table)) → opened_by first ode tables entries ≡ (tables >>= λ own. own_rules t classes own)
      unfolding opened_by
      behind tables =
          ap (λ m. m >>= λ u. classes_in ode u.0.added entries >>= λ cs. tables >>= λ own. own_rules u cs own) tally
          ∙ ap (λ m. m >>= λ cs. tables >>= λ own. own_rules t cs own) read

      tables_stop : (why : Cause) → TablesIn entries (all_triggers classes) (Err why) → AreOpened first ode entries (Err why)
      tables_stop why broken = record { tables = Err why; come_to = comes (Err why) broken; is = sym (behind (Err why)) }

      module _ (own : List Table) (have : TablesIn entries (all_triggers classes) (Ok own)) where
        abbrev objects : Ruled (Unit {0})
        objects = objects_keep t.0 (is_reached_in own (places_from 0 classes)) classes entries

        abbrev light : Ruled Base
        light = is_light first t.1 >>= λ _. Ok (base_of classes own t.1)

        objects_stop : (why : Cause) → objects ≡ Err why → AreOpened first ode entries (Err why)
        objects_stop why broken = record { tables = Ok own; come_to = comes (Ok own) have; is = sym (behind (Ok own) ∙ ap (λ m. m >>= λ _. light) broken) }

        light_stops : (why : Cause) → objects ≡ Ok tt → is_light first t.1 ≡ Err why → AreOpened first ode entries (Err why)
        light_stops why kept heavy = record {
          tables = Ok own;
          come_to = comes (Ok own) have;
          is = sym (behind (Ok own) ∙ ap (λ m. m >>= λ _. light) kept ∙ ap (λ m. m >>= λ _. Ok (base_of classes own t.1)) heavy);
        }

        all_kept : objects ≡ Ok tt → is_light first t.1 ≡ Ok tt → AreOpened first ode entries (Ok (base_of classes own t.1))
        all_kept kept few = record {
          tables = Ok own;
          come_to = comes (Ok own) have;
          is = sym (behind (Ok own) ∙ ap (λ m. m >>= λ _. light) kept ∙ ap (λ m. m >>= λ _. Ok (base_of classes own t.1)) few);
        }

-- ---- the same of the calls, one a rule

module _ (first : Bool) (entries : Entries) where
  pub tally_fails : (e : OpenError) → Answers {X = Tally} (tally_in first entries) (Err e) → Opens first ode entries (Err e)
  tally_fails (error.BadFile why) said = tally_stops first entries why said
  tally_fails error.DiskFault said = tt
  tally_fails error.Memory said = tt

  module _ (t : Tally) (tally : tally_in first entries ≡ Ok t) where
    pub classes_fail : (e : OpenError) → Accepts (classes_in ode t.0.added entries) (Err e) → Opens first ode entries (Err e)
    classes_fail (error.BadFile why) said = classes_stop first entries t tally why said
    classes_fail error.DiskFault said = tt
    classes_fail error.Memory said = tt

    module _ (classes : List Class) (read : classes_in ode t.0.added entries ≡ Ok classes) where
      pub tables_fail : (e : OpenError) → Tells entries (all_triggers classes) (Err e) → Opens first ode entries (Err e)
      tables_fail (error.BadFile why) said = tables_stop first entries t tally classes read why said
      tables_fail error.DiskFault said = tt
      tables_fail error.Memory said = tt

      -- by any places of tables that are those of the classes
      abbrev objects_by : List Table → List ℕ → Ruled (Unit {0})
      objects_by own maps = objects_keep t.0 (is_reached_in own maps) classes entries

      module _ (own : List Table) (have : TablesIn entries (all_triggers classes) (Ok own)) (maps : List ℕ) (places : maps ≡ places_from 0 classes) where
        pub objects_fail : (e : OpenError) → Answers {X = Unit {0}} (objects_by own maps) (Err e) → Opens first ode entries (Err e)
        objects_fail (error.BadFile why) said = objects_stop first entries t tally classes read own have why (sym (ap (objects_by own) places) ∙ said)
        objects_fail error.DiskFault said = tt
        objects_fail error.Memory said = tt

        pub light_fails : objects_by own maps ≡ Ok tt → (why : Cause) → is_light first t.1 ≡ Err why → Opens first ode entries (Err (error.BadFile why))
        light_fails kept why heavy = light_stops first entries t tally classes read own have why (sym (ap (objects_by own) places) ∙ kept) heavy

        pub all_opens : objects_by own maps ≡ Ok tt → is_light first t.1 ≡ Ok tt → AreOpened first ode entries (Ok (base_of classes own t.1))
        all_opens kept few = all_kept first entries t tally classes read own have (sym (ap (objects_by own) places) ∙ kept) few

-- what is handed on is what was meant
pub base_is : (a : Accepted) (tables : List Table) (maps : List ℕ) (bytes spare : ℕ) → AreBuilt a → maps ≡ places_from 0 a.classes → spare ≡ spare_in (triggers_of a.classes) tables
    → record { classes = a.classes; tables = tables; alphabets = a.alphabets; maps = maps; bytes = bytes + spare } ≡ base_of a.classes tables bytes
base_is a tables maps bytes spare built places more =
    let alphabets = alphabets_are (triggers_of a.classes) a.tables a.alphabets built.compiled in
    cc (alphabets, places, more)
