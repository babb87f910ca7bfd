-- The places of the tables of declared triggers.
use Rattle.std.proofs.Common.{◌≡◌, ◌≤◌, ◌<◌, ℕ, zero, suc, ◌+◌, ◌-◌, ◌^◌, List, length, get_or, Option, Some, None, refl, ap, sym, ◌∙◌, subst, arith}
use Rattle.std.specs.Prelude.{slice_get, slice_index_or}
use Rattle.std.specs.Option.{IsSome, option_map, option_map_or}
use Rattle.std.proofs.lemmas.Option.{get_or_from_slice_get, slice_get_within}
use Rattle.ode_value.specs.declared.member.TriggerDecl.{TriggerDecl}
use Rattle.ode_value.specs.Tables.{Table}
use Rattle.ode_states.specs.Advance.{no_table}
use Rattle.ode_schema.specs.Parts.{AreFit, IsFit, Parts, table_by, table_place, trigger_under}

-- what a place is made of
pub record IsPlace (maps : List ℕ) (class place at : ℕ) : Type 0 where
  pub some : 1 ≤ class
  pub within : class - 1 < length maps
  pub sum : get_or maps (class - 1) 0 + place ≡ at

place_parts : (maps : List ℕ) (class place at : ℕ) → table_place maps class place ≡ Some at → IsPlace maps class place at
place_parts maps zero place at is = absurd (cc)
place_parts maps (suc n) place at is = by (slice_get maps n) refl is where
  by : (o : Option ℕ) → slice_get maps n ≡ o → option_map (λ first. first + place) o ≡ Some at → IsPlace maps (suc n) place at
  by None there e = absurd (cc)
  by (Some first) there e =
      let sum : first + place ≡ at = cc in
      let within : n < length maps = slice_get_within maps n first there in
      let before : suc n - 1 ≡ n = omega arith in
      let read : get_or maps n 0 ≡ first = get_or_from_slice_get maps n first 0 there in
      record {
        some = omega arith;
        within = omega arith;
        sum = ap (λ m. get_or maps m 0 + place) before ∙ ap (λ m. m + place) read ∙ sum;
      }

module _ (p : Parts) (fit : AreFit p) (class place : ℕ) where
  fit_by : (o : Option TriggerDecl) → trigger_under p.classes class place ≡ o → IsSome o → (t : TriggerDecl) × IsFit p class place t
  fit_by None is some = absurd (cc)
  fit_by (Some t) is some = (t, fit class place t is)

  -- what a declared trigger has
  pub fit_at : IsSome (trigger_under p.classes class place) → (t : TriggerDecl) × IsFit p class place t
  fit_at some = fit_by (trigger_under p.classes class place) refl some

  pub place_at : IsSome (trigger_under p.classes class place) → (at : ℕ) × (table_place p.maps class place ≡ Some at) × (at < 2 ^ 32) × IsPlace p.maps class place at
  place_at some =
      let it = (fit_at some).1 in
      (it.at, it.is, it.small, place_parts p.maps class place it.at it.is)

  same_at : (m n : ℕ) (o : Option ℕ) → Some m ≡ o → o ≡ Some n → n ≡ m
  same_at m n o first second = cc

  pub table_within : IsSome (trigger_under p.classes class place) → (n : ℕ) → Some n ≡ table_place p.maps class place → n < length p.tables
  table_within some n is =
      let it = (fit_at some).1 in
      subst (λ m. m < length p.tables) (same_at n it.at (table_place p.maps class place) is it.is) (slice_get_within p.tables it.at it.table it.has_table)

  pub table_found : IsSome (trigger_under p.classes class place) → (n : ℕ) (r : Table) → Some n ≡ table_place p.maps class place → r ≡ get_or p.tables n r → r ≡ table_by p.tables p.maps class place
  table_found some n r is read =
      let it = (fit_at some).1 in
      let there : slice_get p.tables n ≡ Some it.table = ap (slice_get p.tables) (sym (same_at n it.at (table_place p.maps class place) is it.is)) ∙ it.has_table in
      read ∙ get_or_from_slice_get p.tables n it.table r there ∙ sym (get_or_from_slice_get p.tables n it.table no_table there)
      ∙ ap (λ o. option_map_or (λ m. slice_index_or p.tables m no_table) o no_table) is
