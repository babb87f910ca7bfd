use Rattle.std.proofs.Common.{◌≡◌, ◌∙◌, ◌++◌, ℕ, List, Bool, Err, ap, subst, sym}
use Rattle.ode_engine.specs.Serving.{session_after}
use Rattle.ode_host.proofs.Calls.{host_calls_as, rose_as, rose_none, rose_on}
use Rattle.ode_host.proofs.Moments.{started}
use Rattle.ode_host.specs.declared.status.Status.{Status}
use Rattle.ode_language.specs.Languages.{ode}
use Rattle.ode_machine.specs.Commands.{command}
use Rattle.ode_script.specs.Cutting.{End, Then, pieces}
use Rattle.ode_script.specs.Left.{HasPieces}
use Rattle.ode_script.specs.declared.reader.ScriptError.TheVariants as script
use Rattle.ode_transact.specs.Logging.{behind}
use Rattle.ode_ends.specs.Endings.{LeavesNothing}
use Rattle.ode_trace.specs.Shipping.{IsShippedSoFar, ShipsOn, shipped}
use Rattle.ode_ends.specs.Statuses.{IsEnding, IsRunStatus, status_in, status_of_script}
use Rattle.ode_ends.proofs.CallLaws.{answer_quiet, error_stated, no_calls, told_behind}
use Rattle.ode_trace.proofs.ShipLaws.{disk_of, end_ships, ended_leaves, error_ships, piece_leaves, piece_ships}
use Rattle.ode_ends.proofs.StatusLaws.{ended_is, end_leaves, engine_answers, engine_no_end, engine_no_read, script_no_disk, script_no_print, script_read, script_runs}
use Rattle.ode_trace.proofs.shipping.ship_pieces.Goals as goal

pub pieces-init : goal.pieces-init
pieces-init g c = record {
  whole = λ w entries all script text told runs. (pieces script, subst (λ o. HasPieces c.new-reader.result o (pieces script)) (sym told) (c.new-reader.ensures.pieces script), runs);
  moments = λ w entries all script text told runs. started (g.H.Host.view c.args.host.now) (IsShippedSoFar g.K.Keep.means all w entries text);
  stands = λ session stands. (session, stands);
  leaves = no_calls ⊥ ⊥ (g.H.Host.view c.args.host.now) (λ none. none) (λ none. none);
  live = c.requires.live;
  empty = c.requires.empty;
  quiet = c.requires.quiet;
  reads_on = c.new-reader.ensures.live;
  reads = rose_none ⊥ (g.S.Source.faults c.args.source.now) (λ none. none);
}

-- A step of the run: what a stop leaves of its piece is what it leaves of the whole.
pub pieces-preserved : goal.pieces-preserved
pieces-preserved g c = record {
  whole = λ w entries all script text told runs.
      let so_far = c.pieces.invariant.whole w entries all script text told runs in
      let taken = rw c.in-Ok-Statement.field-0-is at (c.in-Ok-Statement.ensures.piece so_far.0 so_far.1) in
      let is = taken.1 ∙ ap (λ (p : List ℕ). Then c.in-Ok-Statement.field-0-1 p taken.0) (sym c.as_slice.ensures) in
      let ships = c.in-Ok.ensures.ships so_far.2.session (behind entries so_far.2.frames) so_far.2.stands so_far.2.disk in
      let next =
      piece_ships g.H.Host.view g.K.Keep.holds g.K.Keep.live g.K.Keep.means g.met.K.Keep.stands g.met.K.Keep.stays (pieces script) all w entries text so_far.0 c.pieces.refused c.pieces.engine c.pieces.host so_far.2 c.in-Ok-Statement.field-0-1 c.as_slice.result.now taken.0 is
      c.in-Ok.now c.ship_piece.new.engine c.ship_piece.new.host (c.in-Ok.ensures.refused so_far.2.session so_far.2.stands) ships in (
        taken.0,
        taken.2,
        subst (λ (b : Bool). ShipsOn g.H.Host.view g.K.Keep.holds g.K.Keep.live g.K.Keep.means (pieces script) all w entries text taken.0 b c.ship_piece.new.engine c.ship_piece.new.host) (sym c.either-refused.ensures) next,
      );
  moments = λ w entries all script text told runs.
      let so_far = c.pieces.invariant.whole w entries all script text told runs in
      let taken = rw c.in-Ok-Statement.field-0-is at (c.in-Ok-Statement.ensures.piece so_far.0 so_far.1) in
      let is = taken.1 ∙ ap (λ (p : List ℕ). Then c.in-Ok-Statement.field-0-1 p taken.0) (sym c.as_slice.ensures) in
      piece_leaves g.H.Host.view g.K.Keep.holds g.K.Keep.live g.K.Keep.means g.met.K.Keep.stands g.met.K.Keep.stays (pieces script) all w entries text so_far.0 c.pieces.refused c.pieces.engine c.pieces.host so_far.2 c.in-Ok-Statement.field-0-1 c.as_slice.result.now taken.0 is
      _ c.ship_piece.new.engine c.ship_piece.new.host (g.H.Host.view c.args.host.now) (c.in-Ok.ensures.ships so_far.2.session (behind entries so_far.2.frames) so_far.2.stands so_far.2.disk)
      (c.pieces.invariant.moments w entries all script text told runs);
  stands = λ session stands.
      let now = c.pieces.invariant.stands session stands in
      let there = disk_of g.H.Host.view g.K.Keep.holds g.K.Keep.live g.K.Keep.means g.met.K.Keep.stands g.met.K.Keep.stays now.0 c.pieces.engine c.pieces.host now.1 in
      (session_after now.0 (command ode now.0 c.as_slice.result.now), (c.in-Ok.ensures.ships now.0 there.0 now.1 there.1).stands);
  leaves = told_behind ⊥ ⊥ _ _ _ c.pieces.invariant.leaves (answer_quiet c.in-Ok.now _ _ c.in-Ok.ensures.leaves);
  live = c.in-Ok.ensures.live;
  empty = c.in-Ok.ensures.empty;
  quiet = c.in-Ok.ensures.quiet;
  reads_on = c.in-Ok-Statement.ensures.live;
  reads = rose_on ⊥ ⊥ _ _ _ (λ none. none) c.pieces.invariant.reads (rose_as _ ⊥ _ _ (λ is. cc (is)) absurd c.in-Ok-Statement.ensures.cause);
}

-- ---- the end of the input

pub returns-in-Ok-End-clause-shipped : goal.returns-in-Ok-End-clause-shipped
returns-in-Ok-End-clause-shipped g c w entries all script text told runs is_ending =
    let so_far = c.pieces.invariant.whole w entries all script text told runs in
    let now = so_far.2 in
    let ended = rw c.in-Ok-End.field-0-is at (c.in-Ok-End.ensures.piece so_far.0 so_far.1) in
    let stated = c.ship_end.ensures.stated is_ending in
    let left = g.S.Source.left c.read_statement.new.source in
    end_ships g.H.Host.view g.K.Keep.holds g.K.Keep.live g.K.Keep.means g.met.K.Keep.stands g.met.K.Keep.stays (pieces script) all w entries text so_far.0 c.pieces.refused c.pieces.engine c.pieces.host so_far.2 left (g.H.Host.view c.ship_end.new.host) (status_in c.ship_end.result)
    ended.0 stated (subst (λ (s : Status). LeavesNothing s left) (sym stated) (end_leaves c.pieces.refused left ended.1))
    (c.ship_end.ensures.ends now.session (behind entries now.frames) now.stands now.disk is_ending)

pub returns-in-Ok-End-clause-any_moment : goal.returns-in-Ok-End-clause-any_moment
returns-in-Ok-End-clause-any_moment g c w entries all script text told runs =
    let so_far = c.pieces.invariant.whole w entries all script text told runs in
    let now = so_far.2 in
    let ended = rw c.in-Ok-End.field-0-is at (c.in-Ok-End.ensures.piece so_far.0 so_far.1) in
    ended_leaves g.H.Host.view g.K.Keep.holds g.K.Keep.live g.K.Keep.means g.met.K.Keep.stands g.met.K.Keep.stays (pieces script) all w entries text so_far.0 c.pieces.refused c.pieces.engine c.pieces.host so_far.2 End (g.H.Host.view c.args.host.now) (g.H.Host.view c.ship_end.new.host) ended.0
    (c.pieces.invariant.moments w entries all script text told runs)
    (c.ship_end.ensures.any_moment now.session (behind entries now.frames) (text ++ shipped now.frames) now.stands now.disk now.printed)

pub returns-in-Ok-End-clause-leaves : goal.returns-in-Ok-End-clause-leaves
returns-in-Ok-End-clause-leaves g c = told_behind _ _ _ _ _ c.pieces.invariant.leaves c.ship_end.ensures.leaves

pub returns-in-Ok-End-clause-answers : goal.returns-in-Ok-End-clause-answers
returns-in-Ok-End-clause-answers g c session stands =
    let now = c.pieces.invariant.stands session stands in
    c.ship_end.ensures.answers now.0 now.1

pub returns-in-Ok-End-clause-reads : goal.returns-in-Ok-End-clause-reads
returns-in-Ok-End-clause-reads g c =
    rose_on ⊥ _ _ _ _ (λ none. none) c.pieces.invariant.reads (rose_as _ _ _ _ (λ is. cc (is)) (λ is. absurd (c.ship_end.ensures.reads is)) c.in-Ok-End.ensures.cause)

-- ---- an error of the script

pub returns-in-Err-clause-shipped : goal.returns-in-Err-clause-shipped
returns-in-Err-clause-shipped g c w entries all script text told runs is_ending =
    let so_far = c.pieces.invariant.whole w entries all script text told runs in
    error_ships g.H.Host.view g.K.Keep.holds g.K.Keep.live g.K.Keep.means g.met.K.Keep.stands g.met.K.Keep.stays (pieces script) all w entries text so_far.0 c.pieces.refused c.pieces.engine c.pieces.host so_far.2 (g.S.Source.left c.read_statement.new.source)
    c.status_of_script.result c.in-Err.error (c.in-Err.ensures.piece so_far.0 so_far.1) c.status_of_script.ensures is_ending

pub returns-in-Err-clause-leaves : goal.returns-in-Err-clause-leaves
returns-in-Err-clause-leaves g c =
    host_calls_as ⊥ ⊥ _ _ _ _ absurd (λ is. script_no_disk c.in-Err.error (sym c.status_of_script.ensures ∙ is)) absurd (λ is. script_no_print c.in-Err.error (sym c.status_of_script.ensures ∙ is)) c.pieces.invariant.leaves

pub returns-in-Err-clause-answers : goal.returns-in-Err-clause-answers
returns-in-Err-clause-answers g c session stands = subst IsRunStatus (sym c.status_of_script.ensures) (script_runs c.in-Err.error)

pub returns-in-Err-clause-reads : goal.returns-in-Err-clause-reads
returns-in-Err-clause-reads g c =
    rose_on ⊥ _ _ _ _ (λ none. none) c.pieces.invariant.reads
    (rose_as _ _ _ _ (λ is. let e : c.in-Err.error ≡ script.ReadFault = cc (is) in c.status_of_script.ensures ∙ ap status_of_script e) (λ is. ap Err (script_read c.in-Err.error (sym c.status_of_script.ensures ∙ is))) c.in-Err.ensures.cause)

-- ---- a piece that isn't shipped

pub returns-in-Err-ship_piece-clause-shipped : goal.returns-in-Err-ship_piece-clause-shipped
returns-in-Err-ship_piece-clause-shipped g c w entries all script text told runs is_ending =
    absurd (engine_no_end c.in-Err-ship_piece.error (subst IsEnding (ended_is c.ended_by.result c.in-Err-ship_piece.error c.ended_by.ensures) is_ending))

pub returns-in-Err-ship_piece-clause-any_moment : goal.returns-in-Err-ship_piece-clause-any_moment
returns-in-Err-ship_piece-clause-any_moment g c w entries all script text told runs =
    let so_far = c.pieces.invariant.whole w entries all script text told runs in
    let taken = rw c.in-Ok-Statement.field-0-is at (c.in-Ok-Statement.ensures.piece so_far.0 so_far.1) in
    let is = taken.1 ∙ ap (λ (p : List ℕ). Then c.in-Ok-Statement.field-0-1 p taken.0) (sym c.as_slice.ensures) in
    piece_leaves g.H.Host.view g.K.Keep.holds g.K.Keep.live g.K.Keep.means g.met.K.Keep.stands g.met.K.Keep.stays (pieces script) all w entries text so_far.0 c.pieces.refused c.pieces.engine c.pieces.host so_far.2 c.in-Ok-Statement.field-0-1 c.as_slice.result.now taken.0 is
    _ c.ship_piece.new.engine c.ship_piece.new.host (g.H.Host.view c.args.host.now) (c.in-Err-ship_piece.ensures.ships so_far.2.session (behind entries so_far.2.frames) so_far.2.stands so_far.2.disk)
    (c.pieces.invariant.moments w entries all script text told runs)

pub returns-in-Err-ship_piece-clause-leaves : goal.returns-in-Err-ship_piece-clause-leaves
returns-in-Err-ship_piece-clause-leaves g c =
    rw (ended_is c.ended_by.result c.in-Err-ship_piece.error c.ended_by.ensures) (told_behind _ _ _ _ _ c.pieces.invariant.leaves (error_stated Bool c.in-Err-ship_piece.error _ _ c.in-Err-ship_piece.ensures.leaves))

pub returns-in-Err-ship_piece-clause-answers : goal.returns-in-Err-ship_piece-clause-answers
returns-in-Err-ship_piece-clause-answers g c session stands =
    let now = c.pieces.invariant.stands session stands in
    let there = disk_of g.H.Host.view g.K.Keep.holds g.K.Keep.live g.K.Keep.means g.met.K.Keep.stands g.met.K.Keep.stays now.0 c.pieces.engine c.pieces.host now.1 in
    subst IsRunStatus (sym (ended_is c.ended_by.result c.in-Err-ship_piece.error c.ended_by.ensures)) (engine_answers Bool c.in-Err-ship_piece.error (c.in-Err-ship_piece.ensures.ships now.0 there.0 now.1 there.1).sound)

pub returns-in-Err-ship_piece-clause-reads : goal.returns-in-Err-ship_piece-clause-reads
returns-in-Err-ship_piece-clause-reads g c =
    rose_on ⊥ _ _ _ _ (λ none. none) c.pieces.invariant.reads
    (rose_as _ _ _ _ (λ is. cc (is)) (λ is. absurd (engine_no_read c.in-Err-ship_piece.error (sym (ended_is c.ended_by.result c.in-Err-ship_piece.error c.ended_by.ensures) ∙ is))) c.in-Ok-Statement.ensures.cause)
