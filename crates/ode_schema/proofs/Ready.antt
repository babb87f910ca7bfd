-- An activation whose table stands at its trigger's place goes on by that table.
use Rattle.std.proofs.Common.{◌≡◌, Some, ap, sym, ◌∙◌}
use Rattle.std.specs.Prelude.{slice_get, slice_index_or}
use Rattle.std.specs.Option.{option_map_or}
use Rattle.std.proofs.lemmas.Option.{get_or_from_slice_get}
use Rattle.ode_value.specs.declared.member.TriggerDecl.{TriggerDecl}
use Rattle.ode_value.specs.Symbols.{alphabet}
use Rattle.ode_types.specs.declared.running.Running.{Running}
use Rattle.ode_states.specs.Advance.{alphabet_of, no_alphabet, no_table, table_of}
use Rattle.ode_schema.specs.Parts.{AreFit, IsFit, Parts, table_by, table_place, trigger_under}

module _ (p : Parts) (fit : AreFit p) (a : Running) (t : TriggerDecl) (there : trigger_under p.classes a.class a.trigger ≡ Some t) (at : table_place p.maps a.class a.trigger ≡ Some a.table) where
  it : IsFit p a.class a.trigger t
  it = fit a.class a.trigger t there

  same : it.at ≡ a.table
  same = let first = it.is in cc (first, at)

  has_table : slice_get p.tables a.table ≡ Some it.table
  has_table = ap (slice_get p.tables) (sym same) ∙ it.has_table

  has_alphabet : slice_get p.alphabets a.table ≡ Some (alphabet t.event)
  has_alphabet = ap (slice_get p.alphabets) (sym same) ∙ it.has_alphabet

  table_is : table_of p.tables a ≡ it.table
  table_is = get_or_from_slice_get p.tables a.table it.table no_table has_table

  pub alphabet_is : alphabet_of p.alphabets a ≡ alphabet t.event
  alphabet_is = get_or_from_slice_get p.alphabets a.table (alphabet t.event) no_alphabet has_alphabet

  pub table_by_place : table_of p.tables a ≡ table_by p.tables p.maps a.class a.trigger
  table_by_place = sym (ap (λ o. option_map_or (λ n. slice_index_or p.tables n no_table) o no_table) at)
