-- A touch, up to the point that the first one posts.
use Rattle.std.specs.Prelude.{ℕ, [], ◌∷◌, Bool, true, false, cond}
use Rattle.ode_value.specs.Acts.{Act, ◌>>=◌, ◌>>◌, gives, looks, reads}
use Rattle.ode_value.specs.Changes.{there}
use Rattle.ode_value.specs.Posting.{is_touched, joins}

-- an object that is there joins the touched ones, where it isn't among them; whether it does
abbrev pub joins_there : {O A : Type 0} → ℕ → Act O A Bool
joins_there id = do
  there id
  touched ← reads (is_touched id)
  cond touched (gives false) (joins id >> gives true)

-- the same, by a look at it
abbrev pub joins_first : {O A : Type 0} → ℕ → Act O A Bool
joins_first id = looks (id ∷ []) >> joins_there id
