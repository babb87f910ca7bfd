use Rattle.std.proofs.Common.{arith}
use Rattle.ode_change.proofs.Putting.{field_short, fields_done, fields_next, put_short}
use Rattle.ode_changed_laws.specs.Records.{added_row_by}
use Rattle.ode_good_runs.specs.Reading.{IsReadValue}
use Rattle.ode_opening_tables.proofs.Gathering.{all_at}
use Rattle.ode_value.specs.declared.change.Added.{Added}
use Rattle.ode_change.proofs.records.added_changes.Goals as goal

pub loop-field-preserved : goal.loop-field-preserved
loop-field-preserved c =
    let classes = c.args.classes.now in
    let field = c.field-item.result in
    let read = all_at (λ (a : Added). IsReadValue a.value) c.args.added.now c.loop-field.field-index field c.requires.read c.loop-field-test.true c.field-item.is in
    record {
      rows = fields_next classes c.args.added.now c.loop-field.field-index field c.loop-field.batch c.put_added.new.batch c.loop-field-test.true c.field-item.is c.loop-field.invariant.rows
          c.in_ok-put_added.ensures.is;
      short = put_short (added_row_by classes field) c.loop-field.batch c.put_added.new.batch c.in_ok-put_added.ensures.is (field_short classes field c.in_ok-put_added.ensures.name read)
          c.loop-field.invariant.short;
    }

pub returns-clause-is : goal.returns-clause-is
returns-clause-is c = fields_done c.args.classes.now c.args.added.now c.loop-field.field-index c.loop-field.batch (omega (arith, c.loop-field-test.false)) c.loop-field.invariant.rows
