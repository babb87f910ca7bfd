use Rattle.std.proofs.Common.{Err, ◌≡◌, ◌||◌, Bool, ℕ, List, ap, sym, subst, ◌∙◌}
use Rattle.ode_host.proofs.Calls.{host_calls_as, rose_as, rose_none, rose_on}
use Rattle.ode_host.proofs.Moments.{started}
use Rattle.ode_host.specs.Host.{LeavesOnly}
use Rattle.ode_host.specs.declared.status.Status.{Status}
use Rattle.ode_language.specs.Languages.{ode}
use Rattle.ode_machine.specs.Conversation.{pieces_items, spoken_stretch}
use Rattle.ode_machine.specs.Interleaving.{finish}
use Rattle.ode_machine.specs.Moments.{IsAfterSome}
use Rattle.ode_machine.specs.Runs.{Item}
use Rattle.ode_script.specs.Cutting.{End, Pieces, Then, pieces}
use Rattle.ode_script.specs.Left.{HasPieces}
use Rattle.ode_script.specs.declared.reader.ScriptError.TheVariants as script
use Rattle.ode_sessions.proofs.RunLaws.{ended_ran, error_ran, goes_further, none_refused, pieces_ended}
use Rattle.ode_sessions.proofs.RunsLaws.{runs_leaves, runs_next}
use Rattle.ode_sessions.proofs.SessionLaws.{ends_now, goes_on}
use Rattle.ode_sessions.specs.Running.{SpeaksSoFar}
use Rattle.ode_sessions.specs.Speaking.{spoken}
use Rattle.ode_ends.proofs.CallLaws.{answer_quiet, error_stated, no_calls, told_behind}
use Rattle.ode_ends.proofs.StatusLaws.{ended_is, end_leaves, engine_answers, engine_no_end, engine_no_read, script_no_disk, script_no_print, script_read, script_runs}
use Rattle.ode_ends.specs.Endings.{LeavesNothing}
use Rattle.ode_ends.specs.Statuses.{IsEnding, IsRunStatus, status_in, status_of_script}
use Rattle.ode_transact.specs.Items.{items_of}
use Rattle.ode_transact.specs.Resting.{HoldsBy}
use Rattle.ode_sessions.proofs.run.run_pieces.Goals as goal
use Rattle.ode_sessions.proofs.run.run_pieces.Goals.{then-refused, else-refused}

pub pieces-init : goal.pieces-init
pieces-init g c = record {
  whole = λ w all script text told runs. (pieces script, subst (λ o. HasPieces c.new-reader.result o (pieces script)) (sym told) (c.new-reader.ensures.pieces script), runs);
  moments = λ w all script text told runs. started (g.H.Host.view c.args.host.now) (IsAfterSome (HoldsBy ode g.K.Keep.means) all w text);
  stands = λ m stands. (m, stands);
  leaves = no_calls ⊥ ⊥ (g.H.Host.view c.args.host.now) (λ none. none) (λ none. none);
  live = c.requires.live;
  reads_on = c.new-reader.ensures.live;
  reads = rose_none ⊥ (g.S.Source.faults c.args.source.now) (λ none. none);
}

-- A step of the run: what a stop leaves of its piece is what it leaves of the whole.
pub pieces-preserved : goal.pieces-preserved
pieces-preserved g c = record {
  whole = λ w all script text told runs.
      let so_far = c.pieces.invariant.whole w all script text told runs in
      let taken = rw c.in-Ok-Statement.field-0-is at (c.in-Ok-Statement.ensures.piece so_far.0 so_far.1) in
      let is = taken.1 ∙ ap (λ (p : List ℕ). Then c.in-Ok-Statement.line p taken.0) (sym c.as_slice.ensures) in
      let both : c.if-refused.refused ≡ (c.pieces.refused || c.in-Ok.was) = elim c.if-refused.branch [
        | then-refused w ↦ w.refused-is ∙ w.if-refused.true ∙ ap (λ (b : Bool). b || c.in-Ok.was) (sym w.if-refused.true)
        | else-refused w ↦ w.refused-is ∙ ap (λ (b : Bool). b || c.in-Ok.was) (sym w.if-refused.false)
      ] in (
        taken.0,
        taken.2,
        subst (λ (b : Bool). SpeaksSoFar g.H.Host.view g.K.Keep.holds g.K.Keep.live (pieces script) all w text taken.0 c.carry_out.new.sessions c.carry_out.new.host b) (sym both)
            (runs_next g.H.Host.view g.K.Keep.holds g.K.Keep.live g.K.Keep.means (pieces script) all w text so_far.0 c.pieces.sessions c.pieces.host c.pieces.refused so_far.2 c.in-Ok-Statement.line c.as_slice.result.now taken.0 is
            (goes_on g.H.Host.view g.K.Keep.holds g.K.Keep.live g.K.Keep.means g.met.K.Keep.stands g.met.K.Keep.stays so_far.2.now c.pieces.sessions c.pieces.host so_far.2.speaks.stands)
            c.in-Ok.was c.carry_out.new.sessions c.carry_out.new.host (c.in-Ok.ensures.carries so_far.2.now so_far.2.speaks.stands)),
      );
  moments = λ w all script text told runs.
      let so_far = c.pieces.invariant.whole w all script text told runs in
      let taken = rw c.in-Ok-Statement.field-0-is at (c.in-Ok-Statement.ensures.piece so_far.0 so_far.1) in
      let is = taken.1 ∙ ap (λ (p : List ℕ). Then c.in-Ok-Statement.line p taken.0) (sym c.as_slice.ensures) in
      runs_leaves g.H.Host.view g.K.Keep.holds g.K.Keep.live g.K.Keep.means (pieces script) all w text so_far.0 c.pieces.sessions c.pieces.host c.pieces.refused so_far.2 c.in-Ok-Statement.line c.as_slice.result.now taken.0 is
      _ c.carry_out.new.sessions c.carry_out.new.host (g.H.Host.view c.args.host.now) (c.in-Ok.ensures.carries so_far.2.now so_far.2.speaks.stands)
      (c.pieces.invariant.moments w all script text told runs);
  stands = λ m stands.
      let now = c.pieces.invariant.stands m stands in
      ((spoken_stretch ode spoken now.0 c.in-Ok-Statement.line (spoken c.as_slice.result.now)).0, (c.in-Ok.ensures.carries now.0 now.1).stands);
  leaves = told_behind ⊥ ⊥ _ _ _ c.pieces.invariant.leaves (answer_quiet c.in-Ok.was _ _ c.in-Ok.ensures.leaves);
  live = c.in-Ok.ensures.live;
  reads_on = c.in-Ok-Statement.ensures.live;
  reads = rose_on ⊥ ⊥ _ _ _ (λ none. none) c.pieces.invariant.reads (rose_as _ ⊥ _ _ (λ is. cc (is)) absurd c.in-Ok-Statement.ensures.cause);
}

-- ---- the end of the input

pub returns-in-Ok-End-clause-ran : goal.returns-in-Ok-End-clause-ran
returns-in-Ok-End-clause-ran g c = λ w all script text told runs is_ending.
    let so_far = c.pieces.invariant.whole w all script text told runs in
    let now = so_far.2 in
    let ended = rw c.in-Ok-End.field-0-is at (c.in-Ok-End.ensures.piece so_far.0 so_far.1) in
    let stated = c.end_script.ensures.stated is_ending in
    let left = g.S.Source.left c.read_statement.new.source in
    ended_ran (pieces script) all w text so_far.0 now.now now.text c.pieces.refused now.so_far g.K.Keep.means End left (g.H.Host.view c.end_script.new.host) (status_in c.end_script.result)
    ended.0 (none_refused (finish now.now)) stated
    (subst (λ (s : Status). LeavesNothing s left) (sym stated) (end_leaves c.pieces.refused left ended.1))
    (c.end_script.ensures.ends now.now now.text now.speaks is_ending)

pub returns-in-Ok-End-clause-any_moment : goal.returns-in-Ok-End-clause-any_moment
returns-in-Ok-End-clause-any_moment g c = λ w all script text told runs.
    let so_far = c.pieces.invariant.whole w all script text told runs in
    let now = so_far.2 in
    let ended = rw c.in-Ok-End.field-0-is at (c.in-Ok-End.ensures.piece so_far.0 so_far.1) in
    let items : pieces_items ode spoken so_far.0 now.now ≡ items_of (finish now.now) =
    ap (λ (p : Pieces). pieces_items ode spoken p now.now) ended.0 ∙ pieces_ended End now.now in
    goes_further (pieces script) all w text so_far.0 now.now now.text c.pieces.refused now.so_far (HoldsBy ode g.K.Keep.means) _ _ _
    (c.pieces.invariant.moments w all script text told runs)
    (subst (λ (l : List Item). LeavesOnly (g.H.Host.view c.pieces.host) (g.H.Host.view c.end_script.new.host) (IsAfterSome (HoldsBy ode g.K.Keep.means) l now.now.world now.text)) (sym items)
    (c.end_script.ensures.any_moment now.now now.text now.speaks))

pub returns-in-Ok-End-clause-leaves : goal.returns-in-Ok-End-clause-leaves
returns-in-Ok-End-clause-leaves g c = told_behind _ _ _ _ _ c.pieces.invariant.leaves c.end_script.ensures.leaves

pub returns-in-Ok-End-clause-answers : goal.returns-in-Ok-End-clause-answers
returns-in-Ok-End-clause-answers g c m stands =
    let now = c.pieces.invariant.stands m stands in
    c.end_script.ensures.answers now.0 now.1

pub returns-in-Ok-End-clause-reads : goal.returns-in-Ok-End-clause-reads
returns-in-Ok-End-clause-reads g c =
    rose_on ⊥ _ _ _ _ (λ none. none) c.pieces.invariant.reads (rose_as _ _ _ _ (λ is. cc (is)) (λ is. absurd (c.end_script.ensures.reads is)) c.in-Ok-End.ensures.cause)

-- ---- an error of the script

pub returns-in-Err-clause-ran : goal.returns-in-Err-clause-ran
returns-in-Err-clause-ran g c = λ w all script text told runs is_ending.
    let so_far = c.pieces.invariant.whole w all script text told runs in
    let now = so_far.2 in
    error_ran (pieces script) all w text so_far.0 now.now now.text c.pieces.refused now.so_far g.K.Keep.means (g.S.Source.left c.read_statement.new.source) (g.H.Host.view c.pieces.host)
    c.status_of_script.result c.in-Err.error (c.in-Err.ensures.piece so_far.0 so_far.1) c.status_of_script.ensures is_ending
    (ends_now g.H.Host.view g.K.Keep.holds g.K.Keep.live g.K.Keep.means g.met.K.Keep.stands g.met.K.Keep.stays now.now c.pieces.sessions c.pieces.host now.text now.speaks.stands now.speaks.printed)

pub returns-in-Err-clause-leaves : goal.returns-in-Err-clause-leaves
returns-in-Err-clause-leaves g c =
    host_calls_as ⊥ ⊥ _ _ _ _ absurd (λ is. script_no_disk c.in-Err.error (sym c.status_of_script.ensures ∙ is)) absurd (λ is. script_no_print c.in-Err.error (sym c.status_of_script.ensures ∙ is)) c.pieces.invariant.leaves

pub returns-in-Err-clause-answers : goal.returns-in-Err-clause-answers
returns-in-Err-clause-answers g c m stands = subst IsRunStatus (sym c.status_of_script.ensures) (script_runs c.in-Err.error)

pub returns-in-Err-clause-reads : goal.returns-in-Err-clause-reads
returns-in-Err-clause-reads g c =
    rose_on ⊥ _ _ _ _ (λ none. none) c.pieces.invariant.reads
    (rose_as _ _ _ _ (λ is. let e : c.in-Err.error ≡ script.ReadFault = cc (is) in c.status_of_script.ensures ∙ ap status_of_script e) (λ is. ap Err (script_read c.in-Err.error (sym c.status_of_script.ensures ∙ is))) c.in-Err.ensures.cause)

-- ---- a piece at which the sessions don't answer

pub returns-in-Err-carry_out-clause-ran : goal.returns-in-Err-carry_out-clause-ran
returns-in-Err-carry_out-clause-ran g c w all script text told runs is_ending =
    absurd (engine_no_end c.in-Err-carry_out.error (subst IsEnding (ended_is c.ended_by.result c.in-Err-carry_out.error c.ended_by.ensures) is_ending))

pub returns-in-Err-carry_out-clause-any_moment : goal.returns-in-Err-carry_out-clause-any_moment
returns-in-Err-carry_out-clause-any_moment g c w all script text told runs =
    let so_far = c.pieces.invariant.whole w all script text told runs in
    let taken = rw c.in-Ok-Statement.field-0-is at (c.in-Ok-Statement.ensures.piece so_far.0 so_far.1) in
    let is = taken.1 ∙ ap (λ (p : List ℕ). Then c.in-Ok-Statement.line p taken.0) (sym c.as_slice.ensures) in
    runs_leaves g.H.Host.view g.K.Keep.holds g.K.Keep.live g.K.Keep.means (pieces script) all w text so_far.0 c.pieces.sessions c.pieces.host c.pieces.refused so_far.2 c.in-Ok-Statement.line c.as_slice.result.now taken.0 is
    _ c.carry_out.new.sessions c.carry_out.new.host (g.H.Host.view c.args.host.now) (c.in-Err-carry_out.ensures.carries so_far.2.now so_far.2.speaks.stands)
    (c.pieces.invariant.moments w all script text told runs)

pub returns-in-Err-carry_out-clause-leaves : goal.returns-in-Err-carry_out-clause-leaves
returns-in-Err-carry_out-clause-leaves g c =
    rw (ended_is c.ended_by.result c.in-Err-carry_out.error c.ended_by.ensures) (told_behind _ _ _ _ _ c.pieces.invariant.leaves (error_stated Bool c.in-Err-carry_out.error _ _ c.in-Err-carry_out.ensures.leaves))

pub returns-in-Err-carry_out-clause-answers : goal.returns-in-Err-carry_out-clause-answers
returns-in-Err-carry_out-clause-answers g c m stands =
    let now = c.pieces.invariant.stands m stands in
    subst IsRunStatus (sym (ended_is c.ended_by.result c.in-Err-carry_out.error c.ended_by.ensures)) (engine_answers Bool c.in-Err-carry_out.error (c.in-Err-carry_out.ensures.carries now.0 now.1).sound)

pub returns-in-Err-carry_out-clause-reads : goal.returns-in-Err-carry_out-clause-reads
returns-in-Err-carry_out-clause-reads g c =
    rose_on ⊥ _ _ _ _ (λ none. none) c.pieces.invariant.reads
    (rose_as _ _ _ _ (λ is. cc (is)) (λ is. absurd (engine_no_read c.in-Err-carry_out.error (sym (ended_is c.ended_by.result c.in-Err-carry_out.error c.ended_by.ensures) ∙ is))) c.in-Ok-Statement.ensures.cause)
