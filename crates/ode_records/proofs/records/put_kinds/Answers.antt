use Rattle.std.proofs.Common.{◌++◌, List, ap, sym, ◌∙◌, append-nil}
use Rattle.std.proofs.lemmas.List.{drop_all}
use Rattle.ode_keep.specs.Entries.{Entries}
use Rattle.ode_value.specs.Records.{snapshot}
use Rattle.ode_records.specs.Kinds.{all_of}
use Rattle.ode_records.proofs.Spelling.{kind_more}
use Rattle.ode_records.proofs.records.put_kinds.Goals as goal

pub loop-chunks-preserved : goal.loop-chunks-preserved
loop-chunks-preserved c fits =
    let so_far = c.loop-chunks.invariant fits in
    kind_more c.args.kinds.now c.loop-chunks.chunks-index c.chunks-item.result c.chunks-item.is c.loop-chunks-test.true so_far.0
    c.loop-chunks.bytes.items c.put_rows.new.bytes.items _ c.in_ok-put_rows.ensures so_far.1

pub returns : goal.returns
returns c fits =
    let bytes = c.loop-chunks.bytes.items in
    sym (append-nil bytes)
    ∙ ap (λ (l : List Entries). bytes ++ snapshot (all_of l)) (sym (drop_all c.loop-chunks.chunks-index c.args.kinds.now c.loop-chunks-test.false))
    ∙ (c.loop-chunks.invariant fits).1
