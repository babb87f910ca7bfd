use Rattle.std.proofs.Common.{◌∙◌, List, ap, subst, sym, ℕ}
use Rattle.ode_host.proofs.Calls.{looks_spares, rose_none, spares_joined}
use Rattle.ode_host.proofs.Moments.{looks_none}
use Rattle.ode_script.specs.Cutting.{Then, pieces}
use Rattle.ode_script.specs.Left.{HasPieces}
use Rattle.ode_questions.specs.Saying.{said}
use Rattle.ode_questions.proofs.ScriptLaws.{answered_end, answered_error, answered_stop, begun, end_calls, end_possible, end_reads, error_calls, error_possible, error_reads, no_calls, no_misses, one_more, quiet_on, stop_calls, stop_possible, stop_reads, stop_sound}
use Rattle.ode_questions.proofs.scripts.answer_script.Goals as goal

pub pieces-init : goal.pieces-init
pieces-init g c = record {
  so_far = λ lang entries w bytes text given told held kept known.
      (pieces bytes, subst (λ o. HasPieces c.new-reader.result o (pieces bytes)) (sym given) (c.new-reader.ensures.pieces bytes), begun c.args.asked w.bones (pieces bytes) text (g.H.Host.view c.args.host.now) told);
  holds = λ lang entries w held kept known. kept;
  live = c.requires.live;
  spares = looks_spares _ _ (looks_none (g.H.Host.view c.args.host.now));
  quiet = no_calls (g.H.Host.view c.args.host.now);
  reads_on = c.new-reader.ensures.live;
  reads = rose_none ⊥ (g.S.Source.faults c.args.script.now) (λ none. none);
}

pub pieces-preserved : goal.pieces-preserved
pieces-preserved g c = record {
  so_far = λ lang entries w bytes text given told held kept known.
      let so_far = c.pieces.invariant.so_far lang entries w bytes text given told held kept known in
      let taken = rw c.in-Ok-Statement.field-0-is at (c.in-Ok-Statement.ensures.piece so_far.0 so_far.1) in
      let is = taken.1 ∙ ap (λ (p : List ℕ). Then c.in-Ok-Statement.line p taken.0) (sym c.as_slice.ensures) in
      let over = c.in-Ok.ensures.over lang entries w held (c.pieces.invariant.holds lang entries w held kept known) known in
      (taken.0, taken.2, one_more c.args.asked w.bones (pieces bytes) text so_far.0 c.pieces.refused (g.H.Host.view c.pieces.host) so_far.2 c.in-Ok-Statement.line c.as_slice.result.now taken.0 c.in-Ok.now c.either-refused.result (g.H.Host.view c.say_piece.new.host) is c.either-refused.ensures over.prints);
  holds = λ lang entries w held kept known. (c.in-Ok.ensures.over lang entries w held (c.pieces.invariant.holds lang entries w held kept known) known).keeps;
  live = c.in-Ok.ensures.usable;
  spares = spares_joined _ _ _ c.pieces.invariant.quiet.keeps c.pieces.invariant.spares c.in-Ok.ensures.spares;
  quiet = quiet_on c.in-Ok.now _ _ _ c.pieces.invariant.quiet c.in-Ok.ensures.leaves;
  reads_on = c.in-Ok-Statement.ensures.live;
  reads = no_misses _ _ _ _ c.pieces.invariant.reads c.in-Ok-Statement.ensures.cause;
}

-- ---- the end of the script

pub returns-in-Ok-End-clause-answered : goal.returns-in-Ok-End-clause-answered
returns-in-Ok-End-clause-answered g c lang entries w bytes text given told held kept known =
    let so_far = c.pieces.invariant.so_far lang entries w bytes text given told held kept known in
    let ended = rw c.in-Ok-End.field-0-is at (c.in-Ok-End.ensures.piece so_far.0 so_far.1) in
    rw c.status_at_end.ensures (answered_end c.args.asked w.bones bytes text so_far.0 c.pieces.refused (g.H.Host.view c.pieces.host) so_far.2 (g.S.Source.left c.read_statement.new.source) ended.0 ended.1)

pub returns-in-Ok-End-clause-statuses : goal.returns-in-Ok-End-clause-statuses
returns-in-Ok-End-clause-statuses g c = rw c.status_at_end.ensures (end_possible c.pieces.refused)

pub returns-in-Ok-End-clause-spares : goal.returns-in-Ok-End-clause-spares
returns-in-Ok-End-clause-spares g c = c.pieces.invariant.spares

pub returns-in-Ok-End-clause-leaves : goal.returns-in-Ok-End-clause-leaves
returns-in-Ok-End-clause-leaves g c = rw c.status_at_end.ensures (end_calls _ _ c.pieces.invariant.quiet c.pieces.refused)

pub returns-in-Ok-End-clause-reads : goal.returns-in-Ok-End-clause-reads
returns-in-Ok-End-clause-reads g c = rw c.status_at_end.ensures (end_reads _ _ (no_misses _ _ _ _ c.pieces.invariant.reads c.in-Ok-End.ensures.cause) c.pieces.refused)

-- ---- an error of the script

pub returns-in-Err-clause-answered : goal.returns-in-Err-clause-answered
returns-in-Err-clause-answered g c lang entries w bytes text given told held kept known =
    let so_far = c.pieces.invariant.so_far lang entries w bytes text given told held kept known in
    rw c.status_of_script.ensures (answered_error c.args.asked w.bones bytes text so_far.0 c.pieces.refused (g.H.Host.view c.pieces.host) so_far.2 (g.S.Source.left c.read_statement.new.source) c.in-Err.error (c.in-Err.ensures.piece so_far.0 so_far.1))

pub returns-in-Err-clause-statuses : goal.returns-in-Err-clause-statuses
returns-in-Err-clause-statuses g c = rw c.status_of_script.ensures (error_possible c.in-Err.error)

pub returns-in-Err-clause-spares : goal.returns-in-Err-clause-spares
returns-in-Err-clause-spares g c = c.pieces.invariant.spares

pub returns-in-Err-clause-leaves : goal.returns-in-Err-clause-leaves
returns-in-Err-clause-leaves g c = rw c.status_of_script.ensures (error_calls _ _ c.pieces.invariant.quiet c.in-Err.error)

pub returns-in-Err-clause-reads : goal.returns-in-Err-clause-reads
returns-in-Err-clause-reads g c = rw c.status_of_script.ensures (error_reads c.in-Err.error _ _ _ c.pieces.invariant.reads c.in-Err.ensures.cause)

-- ---- a piece that isn't answered

pub returns-in-Err-say_piece-clause-answered : goal.returns-in-Err-say_piece-clause-answered
returns-in-Err-say_piece-clause-answered g c lang entries w bytes text given told held kept known =
    let so_far = c.pieces.invariant.so_far lang entries w bytes text given told held kept known in
    let taken = rw c.in-Ok-Statement.field-0-is at (c.in-Ok-Statement.ensures.piece so_far.0 so_far.1) in
    let is = taken.1 ∙ ap (λ (p : List ℕ). Then c.in-Ok-Statement.line p taken.0) (sym c.as_slice.ensures) in
    let over = c.in-Err-say_piece.ensures.over lang entries w held (c.pieces.invariant.holds lang entries w held kept known) known in
    rw c.ended_by.ensures (answered_stop c.args.asked w.bones bytes text so_far.0 c.pieces.refused (g.H.Host.view c.pieces.host) so_far.2 _ c.in-Ok-Statement.line c.as_slice.result.now taken.0 c.in-Err-say_piece.stop (g.H.Host.view c.say_piece.new.host) is over.prints)

pub returns-in-Err-say_piece-clause-sound : goal.returns-in-Err-say_piece-clause-sound
returns-in-Err-say_piece-clause-sound g c lang entries w held kept known =
    let over = c.in-Err-say_piece.ensures.over lang entries w held (c.pieces.invariant.holds lang entries w held kept known) known in
    rw c.ended_by.ensures (stop_sound c.in-Err-say_piece.stop (said c.args.asked w.bones c.in-Ok-Statement.line c.as_slice.result.now) _ _ over.prints)

pub returns-in-Err-say_piece-clause-statuses : goal.returns-in-Err-say_piece-clause-statuses
returns-in-Err-say_piece-clause-statuses g c = rw c.ended_by.ensures (stop_possible c.in-Err-say_piece.stop)

pub returns-in-Err-say_piece-clause-spares : goal.returns-in-Err-say_piece-clause-spares
returns-in-Err-say_piece-clause-spares g c = spares_joined _ _ _ c.pieces.invariant.quiet.keeps c.pieces.invariant.spares c.in-Err-say_piece.ensures.spares

pub returns-in-Err-say_piece-clause-leaves : goal.returns-in-Err-say_piece-clause-leaves
returns-in-Err-say_piece-clause-leaves g c = rw c.ended_by.ensures (stop_calls c.in-Err-say_piece.stop _ _ _ c.pieces.invariant.quiet c.in-Err-say_piece.ensures.leaves)

pub returns-in-Err-say_piece-clause-reads : goal.returns-in-Err-say_piece-clause-reads
returns-in-Err-say_piece-clause-reads g c = rw c.ended_by.ensures (stop_reads _ _ (no_misses _ _ _ _ c.pieces.invariant.reads c.in-Ok-Statement.ensures.cause) c.in-Err-say_piece.stop)
