-- Records are opened to one thing alone.
use Rattle.std.proofs.Common.{◌≡◌, ℕ, List, Bool, Ok, Err, refl, sym, ap, ◌∙◌}
use Rattle.ode_codec.specs.declared.record.Counters.{Counters}
use Rattle.ode_keep.specs.Entries.{Entries}
use Rattle.ode_opening.specs.Classes.{classes_in}
use Rattle.ode_opening_objects.specs.Objects.{objects_keep}
use Rattle.ode_opening_objects.specs.Triggers.{is_reached_in}
use Rattle.ode_opening_tables.specs.Tables.{TablesIn, all_triggers, places_from}
use Rattle.ode_passes.specs.Rules.{Ruled, ◌>>=◌}
use Rattle.ode_passes.specs.Tally.{is_light, tally_in}
use Rattle.ode_passes.specs.declared.cause.Cause.{Cause}
use Rattle.ode_value.specs.Classes.{Trigger}
use Rattle.ode_value.specs.Language.{Language}
use Rattle.ode_value.specs.Tables.{Table}
use Rattle.ode_value.specs.declared.class.Class.{Class}
use Rattle.ode_opening_records.specs.Reading.{AreOpened, base_of, opened_by}
use Rattle.ode_opening_records.specs.declared.base.Base.{Base}

-- the rule on tables comes to one thing
abbrev pub TablesOnce : Type 0
TablesOnce = (entries : Entries) (triggers : List Trigger) (found other : Ruled (List Table)) → TablesIn entries triggers found → TablesIn entries triggers other → found ≡ other

module _ (once : TablesOnce) (first : Bool) (l : Language) (entries : Entries) where
  -- what stands behind the classes, and behind the tally
  abbrev behind_classes : Ruled (List Table) → Counters × ℕ → List Class → Ruled Base
  behind_classes tables t cs =
      tables >>= λ own. objects_keep t.0 (is_reached_in own (places_from 0 cs)) cs entries >>= λ _. is_light first t.1 >>= λ _. Ok (base_of cs own t.1)

  abbrev behind_tally : Ruled (List Table) → Counters × ℕ → Ruled Base
  behind_tally tables t = classes_in l t.0.added entries >>= behind_classes tables t

  -- where records aren't tallied, or their classes break a rule, the tables don't matter
  untallied : (tables : Ruled (List Table)) (why : Cause) → tally_in first entries ≡ Err why → opened_by first l tables entries ≡ Err why
  unfolding opened_by
  untallied tables why is = ap (λ m. m >>= behind_tally tables) is

  undeclared : (tables : Ruled (List Table)) (why : Cause) (t : Counters × ℕ) → tally_in first entries ≡ Ok t → classes_in l t.0.added entries ≡ Err why → opened_by first l tables entries ≡ Err why
  unfolding opened_by
  undeclared tables why t tally is = ap (λ m. m >>= behind_tally tables) tally ∙ ap (λ m. m >>= behind_classes tables t) is

  pub one_thing : (opened other : Ruled Base) → AreOpened first l entries opened → AreOpened first l entries other → opened ≡ other
  one_thing opened other one two = by (tally_in first entries) refl
    where
      read_by : (t : Counters × ℕ) → tally_in first entries ≡ Ok t → (n : Ruled (List Class)) → classes_in l t.0.added entries ≡ n → opened ≡ other
      read_by t tally (Err why) broken = one.is ∙ undeclared one.tables why t tally broken ∙ sym (undeclared two.tables why t tally broken) ∙ sym two.is
      read_by t tally (Ok classes) read =
          one.is
          ∙ ap (λ (tables : Ruled (List Table)). opened_by first l tables entries)
          (once entries (all_triggers classes) one.tables two.tables (one.come_to t classes tally read) (two.come_to t classes tally read))
          ∙ sym two.is

      by : (m : Ruled (Counters × ℕ)) → tally_in first entries ≡ m → opened ≡ other
      by (Err why) broken = one.is ∙ untallied one.tables why broken ∙ sym (untallied two.tables why broken) ∙ sym two.is
      by (Ok t) tally = read_by t tally (classes_in l t.0.added entries) refl
