use Rattle.std.proofs.Common.{◌≡◌, ℕ, List, Ok, Err, sym, subst, ◌∙◌, arith}
use Rattle.std.specs.BTreeSet.{insert_key}
use Rattle.std.specs.List.Sorted.{IsBinarySearchResult}
use Rattle.std.specs.Ordering.{nat_cmp}
use Rattle.ode_value.specs.GoodWorlds.{RiseFrom}
use Rattle.ode_overlay.proofs.Looks.{joined_rises, look_again, look_joins, placed, there_already}
use Rattle.ode_overlay.proofs.overlay.Overlay.look.Goals as goal

pub invariant_of-self-in-Err : goal.invariant_of-self-in-Err
invariant_of-self-in-Err c =
    let was = c.self.inside.looked in
    let gap = subst (λ (l : List ℕ). IsBinarySearchResult (λ y. nat_cmp y c.args.id) l (Err c.in-Err.at)) c.as_slice.ensures c.in-Err.ensures.position in
    let is : c.insert.new.self ≡ insert_key nat_cmp was c.args.id = c.in_ok-insert-in-Err.ensures.ok ∙ placed was c.args.id c.in-Err.at c.self.invariant.looked gap in
    record {
      first = c.self.invariant.first;
      transaction = c.self.invariant.transaction;
      next = c.self.invariant.next;
      entries = c.self.invariant.entries;
      keys = c.self.invariant.keys;
      gathered = c.self.invariant.gathered;
      looked = subst (RiseFrom 0) (sym is) (joined_rises was 0 c.args.id (omega arith) c.self.invariant.looked);
    }

pub returns-in-Ok-clause-ok : goal.returns-in-Ok-clause-ok
returns-in-Ok-clause-ok c =
    let found = subst (λ (l : List ℕ). IsBinarySearchResult (λ y. nat_cmp y c.args.id) l (Ok c.in-Ok.field-0)) c.as_slice.ensures c.in-Ok.ensures.position in
    look_again _ c.args.self.now c.args.id c.self.view_is (there_already c.self.inside.looked c.args.id c.in-Ok.field-0 c.self.invariant.looked found)

pub returns-in_ok-insert-in-Err-clause-ok : goal.returns-in_ok-insert-in-Err-clause-ok
returns-in_ok-insert-in-Err-clause-ok c =
    let gap = subst (λ (l : List ℕ). IsBinarySearchResult (λ y. nat_cmp y c.args.id) l (Err c.in-Err.at)) c.as_slice.ensures c.in-Err.ensures.position in
    look_joins _ c.args.self.now c.args.id c.insert.new.self c.self.view_is (c.in_ok-insert-in-Err.ensures.ok ∙ placed c.self.inside.looked c.args.id c.in-Err.at c.self.invariant.looked gap)
