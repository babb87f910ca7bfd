use Rattle.std.proofs.Common.{◌≡◌, ◌+◌, ◌++◌, ◌∷◌, [], ℕ, List, length, take, sym, ap, subst, ◌∙◌, arith}
use Rattle.std.specs.BTreeMap.{is_at}
use Rattle.std.specs.Map.{lookup}
use Rattle.std.specs.Ordering.{nat_cmp}
use Rattle.std.proofs.lemmas.List.{length-take-le, take_more}
use Rattle.ode_passes.specs.Records.{Found}
use Rattle.ode_opening.specs.Births.{AreBirthsOf}
use Rattle.ode_opening.proofs.BirthLaws.{births_more}
use Rattle.ode_opening.proofs.births.births_of.Goals as goal

pub loop-place-init : goal.loop-place-init
loop-place-init c = λ birth. ap (λ (es : List (ℕ × ℕ)). lookup (is_at (nat_cmp birth)) es) c.new-births.ensures.empty

pub loop-place-preserved : goal.loop-place-preserved
loop-place-preserved c =
    let records = c.args.records.now in
    let i = c.loop-place.place in
    let item = c.index-records-place.result in
    let taken : take (i + 1) records ≡ take i records ++ item ∷ [] =
    take_more records i item c.loop-place-test.true ∙ ap (λ f. take i records ++ f ∷ []) (sym c.index-records-place.is) in
    let long : i ≡ length (take i records) = sym (length-take-le i records (omega arith)) in
    subst (λ (fs : Found). AreBirthsOf fs c.note.new.births) (sym taken)
    (births_more (take i records) item i c.loop-place.births c.note.new.births long c.loop-place.invariant c.in_ok-note.ensures)
