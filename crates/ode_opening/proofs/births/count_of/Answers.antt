use Rattle.std.proofs.Common.{◌≡◌, ◌+◌, ◌∷◌, List, length, drop, true, false, sym, ap, ◌∙◌, arith}
use Rattle.std.specs.Prelude.{◌==◌}
use Rattle.std.proofs.lemmas.Bool.Decides.{nat_tests}
use Rattle.std.proofs.lemmas.List.{drop_more}
use Rattle.ode_value.specs.declared.change.Added.{Added}
use Rattle.ode_opening.specs.Births.{front_of}
use Rattle.ode_opening.proofs.Listing.{front_done, front_ends, front_on}
use Rattle.ode_opening.proofs.births.count_of.Goals as goal

pub returns-then-field-class-clause-count : goal.returns-then-field-class-clause-count
returns-then-field-class-clause-count c =
    let added = c.args.added.now in
    let i = c.loop-count.count in
    let a = c.index-added-count.result in
    let split : drop i added ≡ a ∷ drop (i + 1) added = drop_more added i a c.loop-count-test.true ∙ ap (λ (x : Added). x ∷ drop (i + 1) added) (sym c.index-added-count.is) in
    let other : (a.class == c.args.class) ≡ false = grind (arith, nat_tests, c.if-field-class.true) in
    sym (front_ends c.args.class i a (drop (i + 1) added) (length (front_of c.args.class added)) (c.loop-count.invariant ∙ ap (λ (xs : List Added). i + length (front_of c.args.class xs)) split) other)

pub loop-count-preserved : goal.loop-count-preserved
loop-count-preserved c =
    let added = c.args.added.now in
    let i = c.loop-count.count in
    let a = c.index-added-count.result in
    let split : drop i added ≡ a ∷ drop (i + 1) added = drop_more added i a c.loop-count-test.true ∙ ap (λ (x : Added). x ∷ drop (i + 1) added) (sym c.index-added-count.is) in
    let own : (a.class == c.args.class) ≡ true = grind (arith, nat_tests, c.if-field-class.false) in
    front_on c.args.class i a (drop (i + 1) added) (length (front_of c.args.class added)) (c.loop-count.invariant ∙ ap (λ (xs : List Added). i + length (front_of c.args.class xs)) split) own

pub returns-clause-count : goal.returns-clause-count
returns-clause-count c = front_done c.args.class c.loop-count.count c.args.added.now (length (front_of c.args.class c.args.added.now)) (omega arith) c.loop-count.invariant (omega arith)
