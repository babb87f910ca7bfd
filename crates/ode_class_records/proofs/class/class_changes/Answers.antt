use Rattle.std.proofs.Common.{[], ◌∷◌, length, ap, sym, ◌∙◌, subst, arith}
use Rattle.std.proofs.lemmas.List.{length-map}
use Rattle.ode_keep.specs.ShortValues.{HasShortValues}
use Rattle.ode_class_records.specs.ClassRows.{class_head, own_rows}
use Rattle.ode_class_records.specs.Puts.{put_of, puts, with_rows}
use Rattle.ode_class_records.proofs.PieceLaws.{few_parts}
use Rattle.ode_class_records.proofs.RowLaws.{all_put, own_is_stored, rows_count, rows_short}
use Rattle.ode_class_records.proofs.class.class_changes.Goals as goal

pub overflow_cast-text : goal.overflow_cast-text
overflow_cast-text c = omega (arith, (few_parts (length c.args.text.now) c.args.tables.now c.requires.few).text_fits)

pub overflow_cast-tables : goal.overflow_cast-tables
overflow_cast-tables c = omega (arith, (few_parts (length c.args.text.now) c.args.tables.now c.requires.few).tables)

pub put_pieces-requires : goal.put_pieces-requires
put_pieces-requires c = (few_parts (length c.args.text.now) c.args.tables.now c.requires.few).pieces

pub put_table_heads-requires : goal.put_table_heads-requires
put_table_heads-requires c = (few_parts (length c.args.text.now) c.args.tables.now c.requires.few).tables

pub put_tables-requires : goal.put_tables-requires
put_tables-requires c = (few_parts (length c.args.text.now) c.args.tables.now c.requires.few).tables

pub returns-clause-rows : goal.returns-clause-rows
returns-clause-rows c = λ by d is.
    let class = c.args.class.now in
    let text = c.args.text.now in
    let ts = c.args.tables.now in
    all_put class text ts c.in_ok-put_tables.ensures.sized c.put_head.new.batch c.put_pieces.new.batch c.put_table_heads.new.batch c.put_tables.new.batch
    (c.in_ok-put_head.ensures ∙ ap (with_rows (class_head class (length text) (length ts) ∷ [])) c.new-batch.ensures)
    c.in_ok-put_pieces.ensures c.in_ok-put_table_heads.ensures c.in_ok-put_tables.ensures.rows
    ∙ ap puts (own_is_stored by d class text ts is)

pub returns-clause-count : goal.returns-clause-count
returns-clause-count c =
    let class = c.args.class.now in
    let text = c.args.text.now in
    let ts = c.args.tables.now in
    ap (λ cs. length cs)
    (all_put class text ts c.in_ok-put_tables.ensures.sized c.put_head.new.batch c.put_pieces.new.batch c.put_table_heads.new.batch c.put_tables.new.batch
    (c.in_ok-put_head.ensures ∙ ap (with_rows (class_head class (length text) (length ts) ∷ [])) c.new-batch.ensures)
    c.in_ok-put_pieces.ensures c.in_ok-put_table_heads.ensures c.in_ok-put_tables.ensures.rows)
    ∙ length-map (own_rows class text ts) put_of ∙ rows_count class text ts c.in_ok-put_tables.ensures.sized

pub returns-clause-short : goal.returns-clause-short
returns-clause-short c =
    let class = c.args.class.now in
    let text = c.args.text.now in
    let ts = c.args.tables.now in
    subst HasShortValues
    (sym (all_put class text ts c.in_ok-put_tables.ensures.sized c.put_head.new.batch c.put_pieces.new.batch c.put_table_heads.new.batch c.put_tables.new.batch
    (c.in_ok-put_head.ensures ∙ ap (with_rows (class_head class (length text) (length ts) ∷ [])) c.new-batch.ensures)
    c.in_ok-put_pieces.ensures c.in_ok-put_table_heads.ensures c.in_ok-put_tables.ensures.rows))
    (rows_short class text ts c.as_bytes-name.ensures.name)
