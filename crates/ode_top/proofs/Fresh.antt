-- The fresh database.
use Rattle.std.proofs.Common.{ℕ, List, [], refl}
use Rattle.ode_gate.specs.declared.places.TheConstants.{FORMAT}
use Rattle.ode_language.specs.Languages.{ode}
use Rattle.ode_make.specs.Making.{first_rows}
use Rattle.ode_paging.specs.Meaning.{PagesMeanIn}
use Rattle.ode_value.specs.GoodWorlds.{IsGood}
use Rattle.ode_value.specs.Tables.{Table}
use Rattle.ode_value.specs.Worlds.{empty_world}
use Rattle.ode_begin.proofs.Holding.{pages_hold}
use Rattle.ode_begin.specs.Holds.{Holds}

-- it has no trigger, so any tables serve
no_table : Table
no_table = record { states = 0; symbols = 0; next = []; yes = [] }

pub fresh_holds : IsGood ode empty_world → (image : List ℕ) → PagesMeanIn FORMAT image first_rows → Holds image empty_world
fresh_holds good image means = pages_hold image empty_world (record {
  entries = first_rows;
  are = means;
  world = record {
    stored = record { world = empty_world; tables = λ class place. no_table };
    rows = refl;
    stands = record { bones = refl; mean = tt; pasts = tt; within = tt };
    good = good;
  };
  ones = tt;
})
