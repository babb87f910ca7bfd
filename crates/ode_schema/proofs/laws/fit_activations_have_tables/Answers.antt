use Rattle.ode_schema.proofs.Ready.{alphabet_is, table_by_place}
use Rattle.ode_schema.proofs.laws.fit_activations_have_tables.Goals as goal

pub returns : goal.returns
returns c = record {
  table = λ p a t fit there at. table_by_place p fit a t there at;
  alphabet = λ p a t fit there at. alphabet_is p fit a t there at;
}
