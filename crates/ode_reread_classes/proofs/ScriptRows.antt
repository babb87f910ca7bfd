-- What the rows of statements of scripts do.
use Rattle.std.proofs.Common.{◌≡◌, true, List, [], ◌∷◌, ◌++◌, Some, refl, sym, ◌∙◌, ap}
use Rattle.ode_grammar.specs.declared.item.Action.TheVariants as action
use Rattle.ode_grammar.specs.declared.item.Item.{Item}
use Rattle.ode_grammar.specs.declared.item.Item.TheVariants as item
use Rattle.ode_grammar.specs.declared.item.Part.TheVariants as part
use Rattle.ode_grammar.specs.declared.terminal.Terminal.{Terminal}
use Rattle.ode_grammar.specs.declared.terminal.Terminal.TheVariants as terminal
use Rattle.ode_grammar.specs.Grammar.{row_of}
use Rattle.ode_grammar.specs.Statements.{class_rest, dotted_call}
use Rattle.ode_grammar.proofs.Follows.{IfRow}
use Rattle.ode_heights.specs.Heights.{raised}
use Rattle.ode_terminals.specs.declared.seen.Place.{Place}
use Rattle.ode_value.specs.declared.statement.Statement.TheVariants as statement
use Rattle.ode_value.specs.declared.statement.Stmt.TheVariants as stmt
use Rattle.ode_syntax.specs.Built.{built, built_right_side, built_statement, built_event, built_kind, built_class, built_member, built_script, clock_text}
use Rattle.ode_syntax.specs.Kept.{kept_as, leaf_of}
use Rattle.ode_reread.proofs.Both.{Both, make}
use Rattle.ode_reread_classes.proofs.Chains.{alone, leaf_front, pair_front, version_front}
use Rattle.ode_reread_classes.proofs.Does.{AddsOwned, AddsScript, Does, Raises, RowDoes}
use Rattle.ode_reread_classes.proofs.MemberRows.{declared}
use Rattle.ode_reread_classes.proofs.Parts.{is_do}
use Rattle.ode_reread_classes.proofs.Puts.{with_stmt}
use Rattle.ode_reread_classes.proofs.SideForms.{done, script_simple}
use Rattle.ode_reread_classes.proofs.SideRows.{activate_changes, atom_called, name_front, newversion_changes, pnew_changes, Called, Changed}
use Rattle.ode_reread_classes.proofs.StatementRows.{call_right, deactivation, expression_said}
use Rattle.ode_reread_classes.proofs.Statements.{deactivate_good, delete_good, do_alone, drop_version_good, say_good, show_alone, GoodAlone}

-- a simple statement, and no more
alone_made : (place : Place) (b d w : Both) → Raises with_stmt (GoodAlone place) b d → Does place alone d w → AddsScript place b w
unfolding built built_right_side built_statement built_event built_kind built_class built_member built_script raised
alone_made place b d w s l = record { x = statement.Simple s.x; n = s.n; good = s.good; is = sym l ∙ ap (make action.Simple) s.is }

said_after : (place : Place) → RowDoes place part.Statement terminal.Say (item.Part part.Expr ∷ item.Token terminal.Semi ∷ item.Build action.Say ∷ alone)
unfolding kept_as built built_right_side built_statement raised
said_after place kd bytes s b w l =
    let r = expression_said place action.Say stmt.Say (λ e h c. refl) (GoodAlone place) (say_good script_simple place) alone b w l in
    alone_made place b r.0 w r.1 r.2

deleted_after : (place : Place) → RowDoes place part.Statement terminal.PDelete (item.Part part.Expr ∷ item.Token terminal.Semi ∷ item.Build action.Delete ∷ alone)
unfolding kept_as built built_right_side built_statement raised
deleted_after place kd bytes s b w l =
    let r = expression_said place action.Delete stmt.Delete (λ e h c. refl) (GoodAlone place) (delete_good script_simple place) alone b w l in
    alone_made place b r.0 w r.1 r.2

dropped_after : (place : Place) → RowDoes place part.Statement terminal.DropVersion (item.Part part.Expr ∷ item.Token terminal.Semi ∷ item.Build action.DropVersion ∷ alone)
unfolding kept_as built built_right_side built_statement raised
dropped_after place kd bytes s b w l =
    let r = expression_said place action.DropVersion stmt.DropVersion (λ e h c. refl) (GoodAlone place) (drop_version_good script_simple place) alone b w l in
    alone_made place b r.0 w r.1 r.2

deactivated_after : (place : Place)
    → RowDoes place part.Statement terminal.Deactivate
    (item.Part part.Expr ∷ item.Token terminal.Comma ∷ item.Part part.Expr ∷ item.Token terminal.Semi ∷ item.Build action.Deactivate ∷ alone)
unfolding kept_as
deactivated_after place kd bytes s b w l =
    let r = deactivation place (GoodAlone place) (deactivate_good script_simple place) alone b w l in
    alone_made place b r.0 w r.1 r.2

show_after : (place : Place) → RowDoes place part.Statement terminal.Show (item.Part part.ScriptRhs ∷ item.Build action.Show ∷ alone)
unfolding kept_as built built_right_side built_statement raised
show_after place kd bytes s b w l =
    let r = l.1.1 in
    alone_made place b (make action.Show l.0) w (record { x = stmt.Show r.x; n = r.n; good = show_alone place r.n r.x r.good.1 r.good.0; is = ap (make action.Show) r.is }) l.2

-- what stands alone, and its semicolon
done_alone : (place : Place) (b d w : Both) → (r : AddsOwned place b d) → is_do r.x ≡ true → Does place (done alone) d w → AddsScript place b w
unfolding kept_as built built_right_side built_statement raised
done_alone place b d w r o l =
    alone_made place b (make action.Do d) w (record { x = stmt.Do r.x; n = r.n; good = do_alone place r.n r.x o r.good.1 r.good.0; is = ap (make action.Do) r.is }) l.3

changed_alone : (place : Place) (b w : Both) → Changed place (done alone) b w → AddsScript place b w
changed_alone place b w c = done_alone place b c.mid w c.right c.is_do c.behind

abbrev called_done : List Item
called_done = item.Build action.Call ∷ done alone

called_alone : (place : Place) (b w : Both) → Called place called_done b w → AddsScript place b w
called_alone place b w c =
    let r = call_right place b c.mid c.call in
    done_alone place b (make action.Call c.mid) w r.right r.is_do c.behind

call_after : (place : Place) (k : Terminal) (pre : List Item) → row_of part.Unary k ≡ Some (pre ++ item.Part part.Dots ∷ [])
    → RowDoes place part.Statement k (pre ++ (dotted_call ++ called_done))
call_after place k pre e kd bytes s b w l = called_alone place b w (atom_called place k pre called_done e kd bytes s b w l)

-- ---- the other statements of scripts

class_after : (place : Place) → RowDoes place part.Statement terminal.Class (class_rest ++ item.Token terminal.Semi ∷ item.Build action.Declare ∷ [])
unfolding kept_as built built_right_side built_statement built_event built_kind built_class built_member built_script raised
class_after place kd bytes s b w l =
    let r = declared place (item.Token terminal.Semi ∷ item.Build action.Declare ∷ []) b w l in
    let c = r.class in
    record { x = statement.Class c.x; n = c.n; good = c.good; is = sym r.behind.3 ∙ ap (make action.Declare) c.is }

begin_after : (place : Place) → RowDoes place part.Statement terminal.Begin (item.Token terminal.Semi ∷ item.Build action.Begin ∷ [])
unfolding kept_as built built_right_side built_statement built_event built_kind built_class built_member built_script raised
begin_after place kd bytes s b w l = record { x = statement.Begin; n = 0; good = tt; is = sym l.3 }

commit_after : (place : Place) → RowDoes place part.Statement terminal.Commit (item.Token terminal.Semi ∷ item.Build action.Commit ∷ [])
unfolding kept_as built built_right_side built_statement built_event built_kind built_class built_member built_script raised
commit_after place kd bytes s b w l = record { x = statement.Commit; n = 0; good = tt; is = sym l.3 }

abort_after : (place : Place) → RowDoes place part.Statement terminal.Abort (item.Token terminal.Semi ∷ item.Build action.Abort ∷ [])
unfolding kept_as built built_right_side built_statement built_event built_kind built_class built_member built_script raised
abort_after place kd bytes s b w l = record { x = statement.Abort; n = 0; good = tt; is = sym l.3 }

empty_after : (place : Place) → RowDoes place part.Statement terminal.Semi (item.Build action.Empty ∷ [])
unfolding kept_as built built_right_side built_statement built_event built_kind built_class built_member built_script raised
empty_after place kd bytes s b w l = record { x = statement.Empty; n = 0; good = tt; is = sym l }

clock_after : (place : Place) → RowDoes place part.Statement terminal.Clock (item.Part part.ClockText ∷ item.Token terminal.Semi ∷ item.Build action.Clock ∷ [])
unfolding kept_as built built_right_side built_statement built_event built_kind built_class built_member built_script raised
clock_after place kd bytes s b w l = let t = l.1.1 in record { x = statement.Clock (clock_text t.0); n = 0; good = tt; is = sym l.2.3 ∙ ap (make action.Clock) t.1 }

pub clock_text_rows : (place : Place) (k : Terminal) → IfRow (RowDoes place part.ClockText k) (row_of part.ClockText k)
unfolding row_of kept_as
clock_text_rows place terminal.Text = λ kd bytes s b w l. (leaf_of kd bytes, sym l)
clock_text_rows place terminal.Instant = λ kd bytes s b w l. (leaf_of kd bytes, sym l)
clock_text_rows place other = tt

pub statement_rows : (place : Place) (k : Terminal) → IfRow (RowDoes place part.Statement k) (row_of part.Statement k)
unfolding row_of
statement_rows place terminal.Class = class_after place
statement_rows place terminal.Begin = begin_after place
statement_rows place terminal.Commit = commit_after place
statement_rows place terminal.Abort = abort_after place
statement_rows place terminal.Clock = clock_after place
statement_rows place terminal.Semi = empty_after place
statement_rows place terminal.Show = show_after place
statement_rows place terminal.Say = said_after place
statement_rows place terminal.PDelete = deleted_after place
statement_rows place terminal.DropVersion = dropped_after place
statement_rows place terminal.Deactivate = deactivated_after place
statement_rows place terminal.PNew = λ kd bytes s b w l. changed_alone place b w (pnew_changes place (done alone) kd bytes b w l)
statement_rows place terminal.NewVersion = λ kd bytes s b w l. changed_alone place b w (newversion_changes place (done alone) kd bytes b w l)
statement_rows place terminal.Activate = λ kd bytes s b w l. changed_alone place b w (activate_changes place (done alone) kd bytes b w l)
statement_rows place terminal.Leaf = call_after place terminal.Leaf leaf_front refl
statement_rows place terminal.Number = call_after place terminal.Number leaf_front refl
statement_rows place terminal.Seconds = call_after place terminal.Seconds leaf_front refl
statement_rows place terminal.Count = call_after place terminal.Count leaf_front refl
statement_rows place terminal.Text = call_after place terminal.Text leaf_front refl
statement_rows place terminal.Instant = call_after place terminal.Instant leaf_front refl
statement_rows place terminal.OpenParen = call_after place terminal.OpenParen pair_front refl
statement_rows place terminal.Version = call_after place terminal.Version version_front refl
statement_rows place terminal.Name = call_after place terminal.Name name_front refl
statement_rows place other = tt
