-- What is noted of the states of tables.
use Rattle.std.proofs.Common.{◌≡◌, ℕ, zero, suc, ◌+◌, ◌<◌, List, [], ◌∷◌, ◌++◌, length, get_or, take, Bool, false, Option, Some, None, refl, sym, ap, subst, ◌∙◌}
use Rattle.std.specs.Prelude.{slice_get, slice_index_or}
use Rattle.std.specs.List.{AllZip}
use Rattle.std.specs.Option.{option_and_then, option_map_or}
use Rattle.std.proofs.lemmas.List.{take_more}
use Rattle.ode_value.specs.Tables.{Table}
use Rattle.ode_walk.specs.Reaching.{is_reached}
use Rattle.ode_opening_objects.specs.States.{is_flagged, is_seen}
use Rattle.ode_opening_objects.specs.Triggers.{is_reached_in, table_place}
use Rattle.ode_opening_objects.specs.declared.states.States.{States}

-- what is noted of one table
abbrev pub IsNoted : List Bool → Table → Type 0
IsNoted flags t = (q : ℕ) → slice_index_or flags q false ≡ is_reached t q

zip_push : {A B : Type 0} (R : A → B → Type 0) (xs : List A) (ys : List B) (x : A) (y : B) → AllZip R xs ys → R x y → AllZip R (xs ++ x ∷ []) (ys ++ y ∷ [])
zip_push R [] [] x y all one = (one, tt)
zip_push R [] (z ∷ ys) x y all one = absurd all
zip_push R (z ∷ xs) [] x y all one = absurd all
zip_push R (v ∷ xs) (z ∷ ys) x y all one = (all.0, zip_push R xs ys x y all.1 one)

pub noted_more : (seen : List (List Bool)) (tables : List Table) (i : ℕ) (flags : List Bool) (d : Table) → i < length tables → AllZip IsNoted seen (take i tables) → IsNoted flags (get_or tables i d)
    → AllZip IsNoted (seen ++ flags ∷ []) (take (i + 1) tables)
noted_more seen tables i flags d inside all one =
    subst (AllZip IsNoted (seen ++ flags ∷ [])) (sym (take_more tables i d inside)) (zip_push IsNoted seen (take i tables) flags (get_or tables i d) all one)

pub noted_tells : (seen : List (List Bool)) (tables : List Table) → AllZip IsNoted seen tables → (at q : ℕ) → is_flagged seen at q ≡ option_map_or (λ t. is_reached t q) (slice_get tables at) false
noted_tells [] [] all zero q = refl
noted_tells [] [] all (suc n) q = refl
noted_tells [] (t ∷ tables) all n q = absurd all
noted_tells (flags ∷ seen) [] all n q = absurd all
noted_tells (flags ∷ seen) (t ∷ tables) all zero q = all.0 q
noted_tells (flags ∷ seen) (t ∷ tables) all (suc n) q = noted_tells seen tables all.1 n q

pub states_tell : (s : States) (tables : List Table) (maps : List ℕ) → s.maps ≡ maps
    → ((at q : ℕ) → is_flagged s.seen at q ≡ option_map_or (λ t. is_reached t q) (slice_get tables at) false)
    → (class place q : ℕ) → is_seen s class place q ≡ is_reached_in tables maps class place q
states_tell s tables maps same tells class place q =
    ap (λ (ms : List ℕ). option_map_or (λ at. is_flagged s.seen at q) (table_place ms class place) false) same ∙ by (table_place maps class place)
  where
    by : (o : Option ℕ) → option_map_or (λ at. is_flagged s.seen at q) o false ≡ option_map_or (λ t. is_reached t q) (option_and_then (slice_get tables) o) false
    by None = refl
    by (Some n) = tells n q
