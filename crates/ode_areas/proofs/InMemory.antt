-- Records in memory: the first of those from a key on.
use Rattle.std.proofs.Common.{◌≡◌, ◌∷◌, [], Bool, true, false, cond, List, Option, Some, refl, ap, ◌∙◌}
use Rattle.std.specs.List.{filter, find, slice_get}
use Rattle.std.specs.Map.{keys_of}
use Rattle.std.specs.Option.{option_map}
use Rattle.std.specs.Ordering.{is_le}
use Rattle.ode_value.specs.declared.key.Key.{Key}
use Rattle.ode_value.specs.Keys.{key_cmp}
use Rattle.ode_keep.specs.Entries.{Entries, StartsOf, entries_from, least_from}
use Rattle.ode_records.proofs.Firsts.{first_of}

module _ {K X : Type 0} (p : K → Bool) where
  first_at : (e : K × X) (rest : List (K × X)) (found : Option K) (b : Bool) → option_map (λ e. e.0) (slice_get rest 0) ≡ found
      → option_map (λ e. e.0) (slice_get (cond b (e ∷ rest) rest) 0) ≡ cond b (Some e.0) found
  first_at e rest found true more = refl
  first_at e rest found false more = more

  -- the first of the entries that pass has the first key that passes
  first_passing : (es : List (K × X)) → option_map (λ e. e.0) (slice_get (filter (λ e. p e.0) es) 0) ≡ find p (keys_of es)
  first_passing [] = refl
  first_passing (e ∷ es) = first_at e (filter (λ e. p e.0) es) (find p (keys_of es)) (p e.0) (first_passing es)

-- the first of some records from a key on has the least key from there on
pub least_of : (es rows : Entries) (k : Key) → StartsOf rows (entries_from es k) → option_map (λ e. e.0) (slice_get rows 0) ≡ least_from es k
least_of es rows k starts = ap (option_map (λ e. e.0)) (first_of rows (entries_from es k) starts) ∙ first_passing (λ q. is_le (key_cmp k q)) es
