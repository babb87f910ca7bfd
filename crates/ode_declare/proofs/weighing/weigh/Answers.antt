use Rattle.std.proofs.Common.{◌≡◌, ◌<◌, ◌^◌, ◌∙◌, ℕ, List, ap, arith, length, subst, sym}
use Rattle.ode_class_records.proofs.PieceLaws.{few_parts}
use Rattle.ode_class_records.specs.Weighing.{spare_beside}
use Rattle.ode_declare.proofs.WeighLaws.{few_changes, stored_same}
use Rattle.ode_declare.proofs.weighing.weigh.Goals as goal

pub spare-more-requires : goal.spare-more-requires
spare-more-requires c =
    let m = c.args.made.now in
    let few = few_parts (length m.text) m.tables c.requires.few in
    subst (λ (ns : List ℕ). length ns < 2 ^ 32) (sym c.as_slice-3.ensures) (omega (arith, few.tables, c.requires.level))

pub returns-clause-rows : goal.returns-clause-rows
returns-clause-rows c = λ by d is.
    let m = c.args.made.now in
    c.in_ok-changes.ensures.rows by d (stored_same by d m.class m.text _ m.tables _ c.as_slice.ensures c.as_slice-2.ensures is)

pub returns-clause-bytes : goal.returns-clause-bytes
returns-clause-bytes c =
    let m = c.args.made.now in
    let more : c.spare-more.result ≡ spare_beside m.counts m.tables =
    c.spare-more.ensures.spare ∙ ap (λ (ns : List ℕ). spare_beside ns c.as_slice-4.result.now) c.as_slice-3.ensures ∙ ap (spare_beside m.counts) c.as_slice-4.ensures in
    omega (arith, more, c.bytes_put.ensures, c.saturating_add.ensures, c.saturating_add-bytes.ensures)

pub returns-clause-few : goal.returns-clause-few
returns-clause-few c =
    let m = c.args.made.now in
    few_changes m.text _ m.tables _ _ c.as_slice.ensures c.as_slice-2.ensures c.in_ok-changes.ensures.count c.requires.few
