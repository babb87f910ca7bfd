use Rattle.std.proofs.Common.{eqb, map, subst, sym, ◌≡◌, ◌∙◌, List, ℕ}
use Rattle.std.proofs.lemmas.List.Filters.{dedup_is}
use Rattle.std.proofs.lemmas.List.Kept.{Contains-dedup_nat, Contains-from_dedup}
use Rattle.std.proofs.lemmas.List.Sorted.{Contains-permutation, IsPermutation-sym}
use Rattle.std.proofs.lemmas.Map.Keys.{IsStrictlyIncreasing-dedup}
use Rattle.std.specs.List.{Contains, dedup}
use Rattle.std.specs.List.Sorted.{IsPermutation, IsSortedByKey, IsStrictlyIncreasing}
use Rattle.ode_value.specs.declared.value.Value.{Value}
use Rattle.ode_index.specs.Numbers.{number_of, value_of, IsBeside}
use Rattle.ode_index.specs.Order.{value_cmp}
use Rattle.ode_index.proofs.index.Index.find.Goals as goal

pub returns : goal.returns
returns c = λ rows of.
    let v = c.args.v.now in
    let all = c.as_slice.result.now in
    let same = c.rows_of.result.now in
    let sorted = c.sort_unstable.new.self.items in
    let up : IsSortedByKey value_of value_cmp all = subst (λ (l : List (Value × ℕ)). IsSortedByKey value_of value_cmp l) (sym c.as_slice.ensures) of.sorted in
    let moved : IsPermutation rows all = subst (λ (l : List (Value × ℕ)). IsPermutation rows l) (sym c.as_slice.ensures) of.same in
    let beside : IsBeside v all same = c.rows_of.ensures up in
    let shuffled : IsPermutation (map number_of same) sorted = subst (λ (l : List ℕ). IsPermutation l sorted) c.in_ok-numbers.ensures c.sort_unstable.ensures.permutation in
    let left : c.from_vec.result ≡ dedup eqb sorted = c.from_vec.ensures ∙ dedup_is eqb sorted c.dedup.new.self.items c.dedup.ensures.filtered in
    record {
      rising = subst IsStrictlyIncreasing (sym left) (IsStrictlyIncreasing-dedup sorted c.sort_unstable.ensures.sorted);
      are = λ n. (
        (λ in_left.
            let in_sorted = Contains-from_dedup eqb sorted n (subst (λ (l : List ℕ). Contains l n) left in_left) in
            let in_same = Contains-permutation sorted (map number_of same) n (IsPermutation-sym (map number_of same) sorted shuffled) in_sorted in
            Contains-permutation all rows (v, n) (IsPermutation-sym rows all moved) ((beside n).0 in_same)),
        (λ in_rows.
            let in_same = (beside n).1 (Contains-permutation rows all (v, n) moved in_rows) in
            let in_sorted = Contains-permutation (map number_of same) sorted n shuffled in_same in
            subst (λ (l : List ℕ). Contains l n) (sym left) (Contains-dedup_nat sorted n in_sorted)),
      );
    }
