-- What a query is answered, by what its parts come to.
use Rattle.std.proofs.Common.{◌≡◌, ◌∙◌, ◌<◌, ◌≤◌, ℕ, List, length, map, Bool, true, false, cond, Result, Ok, Err, sym, ap, arith}
use Rattle.std.proofs.lemmas.Bool.Decides.{nat_tests}
use Rattle.std.specs.Prelude.{nat_lt}
use Rattle.ode_asksyn.specs.declared.query.Query.{Query}
use Rattle.ode_index.specs.Sorting.{sorted}
use Rattle.ode_query.proofs.InstanceLaws.{are_lists}
use Rattle.ode_query.specs.Answers.{IsAnswer, Says}
use Rattle.ode_query.specs.Rows.{all_instances, combination_count, combinations, in_order, product, rows, rows_from}
use Rattle.ode_query.specs.Texts.{Output, TooManyRows, Unanswered, answered, combination_limit, fits, short}
use Rattle.ode_query.specs.declared.answering.TheConstants.{COMBINATION_LIMIT}
use Rattle.ode_query.specs.declared.error.QueryError.{QueryError}
use Rattle.ode_query.specs.declared.error.QueryError.TheVariants as error
use Rattle.ode_query.specs.declared.row.Row.{Row}
use Rattle.ode_value.specs.Worlds.{Bones}
use Rattle.ode_value.specs.declared.arithmetic.Fault.{Fault}
use Rattle.ode_value.specs.declared.value.Value.{Value}

is_above : (m n : ℕ) → m < n → nat_lt m n ≡ true
is_above m n less = grind (arith, nat_tests)

is_low : (m n : ℕ) → n ≤ m → nat_lt m n ≡ false
is_low m n low = grind (arith, nat_tests)

-- the code's limit is the one that is meant
over_limit : (count : ℕ) → COMBINATION_LIMIT < count → combination_limit < count
unfolding combination_limit
over_limit count above = above

in_limit : (count : ℕ) → count ≤ COMBINATION_LIMIT → count ≤ combination_limit
unfolding combination_limit
in_limit count few = few

-- what stops a part that can't be refused says nothing
pub stops : {X : Type 0} (x : X) (why : QueryError) (meant : Result (List Row) Unanswered) → Says {X = X} (Ok x) (Err why) → IsAnswer meant (Err why)
stops x error.Memory meant says = tt
stops x (error.TooManyRows count) meant says = absurd says
stops x (error.Fault fault) meant says = absurd (cc (says))
stops x error.Output meant says = absurd says
stops x error.DiskFault meant says = tt
stops x (error.Damaged key) meant says = absurd says

module _ (b : Bones) (q : Query) (lists : List (List ℕ)) (count : ℕ) (are : are_lists (all_instances b q) ≡ are_lists lists) (counted : count ≡ product (map (λ (ns : List ℕ). length ns) lists)) where
  same : all_instances b q ≡ lists
  same = cc (are)

  counts : combination_count b q ≡ count
  unfolding combination_count
  counts = ap (λ (all : List (List ℕ)). product (map (λ (ns : List ℕ). length ns) all)) same ∙ sym counted

  pub too_many : COMBINATION_LIMIT < count → answered b q ≡ Err (TooManyRows count)
  unfolding answered
  too_many above =
      ap (λ (n : ℕ). cond (nat_lt combination_limit n) (Err (TooManyRows n)) (short (rows b q))) counts
      ∙ ap (λ (t : Bool). cond t (Err (TooManyRows count)) (short (rows b q))) (is_above combination_limit count (over_limit count above))

  -- where they aren't too many
  module _ (few : count ≤ COMBINATION_LIMIT) where
    goes_on : answered b q ≡ short (in_order (rows_from b q (combinations lists)))
    unfolding answered rows
    goes_on =
        ap (λ (n : ℕ). cond (nat_lt combination_limit n) (Err (TooManyRows n)) (short (rows b q))) counts
        ∙ ap (λ (t : Bool). cond t (Err (TooManyRows count)) (short (rows b q))) (is_low combination_limit count (in_limit count few))
        ∙ ap (λ (all : List (List ℕ)). short (in_order (rows_from b q (combinations all)))) same

    pub rows_stop : (why : QueryError) → Says (rows_from b q (combinations lists)) (Err why) → IsAnswer (answered b q) (Err why)
    rows_stop error.Memory says = tt
    rows_stop (error.TooManyRows n) says = absurd says
    rows_stop (error.Fault fault) says = goes_on ∙ ap (λ (r : Result (List (List Value × Row)) Fault). short (in_order r)) says
    rows_stop error.Output says = absurd says
    rows_stop error.DiskFault says = tt
    rows_stop (error.Damaged key) says = absurd says

    module _ (keyed : List (List Value × Row)) (ordered : List Row) (found : rows_from b q (combinations lists) ≡ Ok keyed) (sorts : ordered ≡ map (λ (r : List Value × Row). r.1) (sorted keyed)) where
      shown : answered b q ≡ short (Ok ordered)
      shown = goes_on ∙ ap (λ (r : Result (List (List Value × Row)) Fault). short (in_order r)) found ∙ ap (λ (rs : List Row). short (Ok rs)) (sym sorts)

      pub answers : true ≡ fits ordered → answered b q ≡ Ok ordered
      answers short_enough = shown ∙ ap (λ (t : Bool). cond t (Ok ordered) (Err Output)) (sym short_enough)

      pub too_long : false ≡ fits ordered → answered b q ≡ Err Output
      too_long long = shown ∙ ap (λ (t : Bool). cond t (Ok ordered) (Err Output)) (sym long)
