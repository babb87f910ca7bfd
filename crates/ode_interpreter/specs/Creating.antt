-- A new object, whole.
use Rattle.std.specs.Prelude.{ℕ, List}
use Rattle.ode_value.specs.Acts.{Act, ◌>>=◌, ◌>>◌, each, gives, sees}
use Rattle.ode_value.specs.Classes.{initial_triggers}
use Rattle.ode_value.specs.Making.{makes}
use Rattle.ode_value.specs.Pasts.{Past}
use Rattle.ode_value.specs.Statements.{activates_initial}
use Rattle.ode_value.specs.declared.value.Value.{Value}

-- a new object of a class, with an activation of each of its initial triggers
unfoldable pub makes_active : {O A : Type 0} → Past O A → ℕ → List Value → Act O A ℕ
makes_active past class fields = do
  id ← makes past class fields
  triggers ← sees (λ b. initial_triggers b.classes class)
  each (activates_initial past id) triggers
  gives id
