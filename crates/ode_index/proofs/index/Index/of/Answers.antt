use Rattle.std.proofs.Common.{rules, of_calls, subst, sym, ◌∙◌, List, ℕ}
use Rattle.std.proofs.lemmas.Fn.{always_returns_same}
use Rattle.std.specs.List.Sorted.{IsPermutation, IsSortedByKey}
use Rattle.ode_value.specs.declared.value.Value.{Value}
use Rattle.ode_index.specs.Numbers.{value_of}
use Rattle.ode_index.specs.Order.{value_cmp}
use Rattle.ode_index.proofs.Finding.{less, ranked}
use Rattle.ode_index.proofs.index.Index.of.Goals as goal

pub returns : goal.returns
returns c =
    let copied = c.in_ok-copy.ensures ∙ c.as_slice.ensures in
    let up : IsSortedByKey value_of value_cmp c.sort_by.new.self.items =
    c.in_ok-sort_by.ensures.sorted less ranked (always_returns_same _ _ _ (λ a r q k. search (rules, of_calls))) in
    record {
      same = subst (λ (l : List (Value × ℕ)). IsPermutation l c.from_vec-rows.result) copied
          (subst (λ (l : List (Value × ℕ)). IsPermutation c.in_ok-copy.copy.items l) (sym c.from_vec-rows.ensures) c.in_ok-sort_by.ensures.permutation);
      sorted = subst (λ (l : List (Value × ℕ)). IsSortedByKey value_of value_cmp l) (sym c.from_vec-rows.ensures) up;
    }
