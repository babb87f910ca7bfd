-- The file behind a change whose fields were taken in.
use Rattle.std.proofs.Common.{◌≡◌, ◌∙◌, ◌+◌, ◌++◌, ℕ, List, length, map, Bool, IsTrue, Result, Ok, Err, ap, sym, subst}
use Rattle.std.specs.Prelude.{IfOk}
use Rattle.ode_change.proofs.Over.{places-stay}
use Rattle.ode_change.specs.Changing.{IsTaken}
use Rattle.ode_change_laws.specs.Behind.{IsBehind}
use Rattle.ode_changed_laws.specs.Changed.{ChangedOver}
use Rattle.ode_changed_laws.specs.Records.{fields_put, new_in, with_counters}
use Rattle.ode_codec.specs.declared.record.Counters.{Counters}
use Rattle.ode_declare.proofs.TakeLaws.{classes_are}
use Rattle.ode_schema.specs.Parts.{AreAligned, AreFit, Parts, places_from, table_by}
use Rattle.ode_heap.specs.Answering.{class_of, counters_of}
use Rattle.ode_host.specs.View.{View}
use Rattle.ode_keep.specs.Entries.{Changes, Entries, applied}
use Rattle.ode_opened.specs.declared.opened.Opened.{Opened}
use Rattle.ode_settled_laws.specs.Holding.{IsHeldBy}
use Rattle.ode_transact.proofs.RestLaws.{rests}
use Rattle.ode_transact.specs.Resting.{IsAtRest, resting_parts, resting_tables}
use Rattle.ode_transact.specs.declared.error.EngineError.{EngineError}
use Rattle.ode_value.specs.Changing.{changed_bones}
use Rattle.ode_value.specs.GoodWorlds.{IsGood}
use Rattle.ode_value.specs.Language.{Language, ListWorld}
use Rattle.ode_value.specs.Objects.{Histories, Starts}
use Rattle.ode_value.specs.Settling.{Settled}
use Rattle.ode_value.specs.Tables.{Table}
use Rattle.ode_value.specs.Texts.{changed_line, committed_line}
use Rattle.ode_value.specs.Weights.{weight}
use Rattle.ode_value.specs.Worlds.{Declared}
use Rattle.ode_value.specs.declared.change.Change.{Change}
use Rattle.ode_value.specs.declared.class.Class.{Class}

-- the changes and the text of a change whose fields are taken in
module _ (l : Language) (w : ListWorld) (c : Change) (classes : List Declared) (counters : Counters) (checked : List Class) (added : ℕ) (batch : Changes) (bytes : ℕ) (is : IsTaken l w c classes counters checked added batch bytes) where
  pub changes_taken : (all : Changes) → all ≡ with_counters counters added batch
      → all ≡ with_counters (counters_of w.bones) (length w.bones.added + length c.fields) (fields_put (map class_of classes) (new_in (map class_of classes) (length w.bones.added) c))
  changes_taken all put =
      let own : batch ≡ fields_put (map class_of classes) (new_in (map class_of classes) (length w.bones.added) c) =
      is.batch ∙ ap (λ (cs : List Class). fields_put cs (new_in cs (length w.bones.added) c)) is.classes in
      put ∙ (λ i. with_counters (is.counters i) (is.added i) (own i))

  pub text_taken : (text : List ℕ) → text ≡ changed_line c.class ++ committed_line counters.next_transaction → text ≡ changed_line c.class ++ committed_line w.bones.transaction
  text_taken text said = said ∙ ap (λ (k : Counters). changed_line c.class ++ committed_line k.next_transaction) is.counters

  -- what its transaction leaves, by the changes that were gathered
  pub taken_over : (tables : ℕ → ℕ → Table) (base : Entries) (s : Settled Histories Starts) (all : Changes) → all ≡ with_counters counters added batch
      → ChangedOver l tables (applied (with_counters (counters_of w.bones) (length w.bones.added + length c.fields) (fields_put (map class_of classes) (new_in (map class_of classes) (length w.bones.added) c))) base) w c classes s
      → ChangedOver l tables (applied all base) w c classes s
  taken_over tables base s all put over = subst (λ (cs : Changes). ChangedOver l tables (applied cs base) w c classes s) (sym (changes_taken all put)) over

module _ {H K : Type 0} (seen : H → View) (held : K → View → Entries → Type 0) (live : K → Bool) (l : Language) (w : ListWorld) (c : Change) (classes : List Declared) (rest prepared : Opened K) (old host : H)
    (is : IsAtRest seen held live l w rest old) (aligned : AreAligned (resting_parts rest)) (behind : IsBehind l w.bones c classes)
    (checked : prepared.classes ≡ map class_of classes) (tables : prepared.tables ≡ rest.tables) (maps : prepared.maps ≡ places_from 0 prepared.classes) where
  -- each table stands where it stood
  tables_stay : resting_tables rest ≡ resting_tables prepared
  tables_stay =
      let places : rest.maps ≡ prepared.maps =
      aligned.places ∙ ap (places_from 0) (classes_are seen held live l w rest old is) ∙ sym (places-stay l w.bones c classes behind) ∙ ap (places_from 0) (sym checked) ∙ sym maps in
      λ i. table_by (sym tables i) (places i)

  -- the file behind it
  pub taken_rests : (result : Result (Opened K) EngineError) (changes : Changes) (s : Settled Histories Starts) → ChangedOver l is.world.world.stored.tables (applied changes is.entries) w c classes s → IsGood l s.0
      → prepared.bytes ≡ weight (changed_bones w.bones c classes) → held prepared.keeper (seen old) is.entries → AreFit (resting_parts prepared)
      → IfOk result (λ after. (resting_parts after ≡ resting_parts prepared) × (after.bytes ≡ prepared.bytes))
      → IfOk result (λ after. (es : Entries) → held prepared.keeper (seen old) es → held after.keeper (seen host) (applied changes es))
      → IfOk result (λ after. IsTrue (live after.keeper)) → IfOk result (λ after. IsAtRest seen held live l s.0 after host)
  taken_rests (Err why) changes s over good weighs here fit same done usable = tt
  taken_rests (Ok after) changes s over good weighs here fit same done usable =
      let by = over.holds good in
      let stay : is.world.world.stored.tables ≡ resting_tables after =
      is.tables ∙ tables_stay ∙ ap (λ (p : Parts). table_by p.tables p.maps) (sym same.0) in
      rests seen held live l (applied changes is.entries) s.0 after host (subst (λ (ts : ℕ → ℕ → Table). IsHeldBy l ts (applied changes is.entries) s.0) stay by) usable (done is.entries here)
      (ap (λ (p : Parts). p.classes) same.0 ∙ checked ∙ ap (map class_of) (sym over.classes))
      (subst AreFit (sym same.0) fit)
      (same.1 ∙ weighs ∙ sym over.weighs)
