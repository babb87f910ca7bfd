use Rattle.std.proofs.Common.{Err, ◌≡◌, ℕ, List, ap, sym, subst, ◌∙◌}
use Rattle.ode_host.proofs.Calls.{host_calls_as, rose_as, rose_none, rose_on}
use Rattle.ode_host.proofs.Moments.{started}
use Rattle.ode_host.specs.Host.{LeavesOnly}
use Rattle.ode_host.specs.declared.status.Status.{Status}
use Rattle.ode_language.specs.Languages.{ode}
use Rattle.ode_machine.specs.Moments.{IsAfterSome}
use Rattle.ode_machine.specs.Runs.{Item, ending_items, final, piece_stretch, pieces_items}
use Rattle.ode_script.specs.Cutting.{End, Then, pieces}
use Rattle.ode_script.specs.Left.{HasPieces}
use Rattle.ode_script.specs.declared.reader.ScriptError.TheVariants as script
use Rattle.ode_transact.specs.Resting.{HoldsBy}
use Rattle.ode_trace.specs.Hearing.{heard_items}
use Rattle.ode_ends.specs.Endings.{LeavesNothing}
use Rattle.ode_ends.specs.Statuses.{IsEnding, IsRunStatus, status_in, status_of_script}
use Rattle.ode_trace.specs.Tallies.{was_refused}
use Rattle.ode_ends.proofs.CallLaws.{answer_quiet, error_stated, no_calls, told_behind}
use Rattle.ode_trace.proofs.EngineLaws.{ends_now}
use Rattle.ode_trace.proofs.HearingLaws.{ends_as, moments_as}
use Rattle.ode_trace.proofs.MachineLaws.{pieces_ended}
use Rattle.ode_trace.proofs.RunLaws.{ended_counts, ended_ran, error_counts, error_ran, goes_further}
use Rattle.ode_trace.proofs.RunsLaws.{runs_leaves, runs_next}
use Rattle.ode_ends.proofs.StatusLaws.{ended_is, end_leaves, engine_answers, engine_no_end, engine_no_read, script_no_disk, script_no_print, script_read, script_runs}
use Rattle.ode_trace.proofs.run.run_pieces.Goals as goal

pub pieces-init : goal.pieces-init
pieces-init g c = record {
  whole = λ quiet w all script text told runs. (pieces script, subst (λ o. HasPieces c.new-reader.result o (pieces script)) (sym told) (c.new-reader.ensures.pieces script), runs);
  moments = λ quiet w all script text told runs. started (g.H.Host.view c.args.host.now) (IsAfterSome (HoldsBy ode g.K.Keep.means) (heard_items quiet all) w text);
  stands = λ session stands. (session, stands);
  leaves = no_calls ⊥ ⊥ (g.H.Host.view c.args.host.now) (λ none. none) (λ none. none);
  live = c.requires.live;
  reads_on = c.new-reader.ensures.live;
  reads = rose_none ⊥ (g.S.Source.faults c.args.source.now) (λ none. none);
}

-- A step of the run: what a stop leaves of its piece is what it leaves of the whole.
pub pieces-preserved : goal.pieces-preserved
pieces-preserved g c = record {
  whole = λ quiet w all script text told runs.
      let so_far = c.pieces.invariant.whole quiet w all script text told runs in
      let taken = rw c.in-Ok-Statement.field-0-is at (c.in-Ok-Statement.ensures.piece so_far.0 so_far.1) in
      let is = taken.1 ∙ ap (λ (p : List ℕ). Then c.in-Ok-Statement.line p taken.0) (sym c.as_slice.ensures) in (
        taken.0,
        taken.2,
        runs_next g.H.Host.view g.K.Keep.holds g.K.Keep.live g.K.Keep.means quiet (pieces script) all w text so_far.0 c.pieces.engine c.pieces.host c.pieces.tally so_far.2 c.in-Ok-Statement.line c.as_slice.result.now taken.0 is
            c.carry_out.new.engine c.carry_out.new.host c.carry_out.new.tally c.in-Ok.ensures.quiet (c.in-Ok.ensures.carries so_far.2.session so_far.2.serves.stands),
      );
  moments = λ quiet w all script text told runs.
      let so_far = c.pieces.invariant.whole quiet w all script text told runs in
      let taken = rw c.in-Ok-Statement.field-0-is at (c.in-Ok-Statement.ensures.piece so_far.0 so_far.1) in
      let is = taken.1 ∙ ap (λ (p : List ℕ). Then c.in-Ok-Statement.line p taken.0) (sym c.as_slice.ensures) in
      runs_leaves g.H.Host.view g.K.Keep.holds g.K.Keep.live g.K.Keep.means quiet (pieces script) all w text so_far.0 c.pieces.engine c.pieces.host c.pieces.tally so_far.2 c.in-Ok-Statement.line c.as_slice.result.now taken.0 is
      _ c.carry_out.new.engine c.carry_out.new.host c.carry_out.new.tally (g.H.Host.view c.args.host.now) (c.in-Ok.ensures.carries so_far.2.session so_far.2.serves.stands)
      (c.pieces.invariant.moments quiet w all script text told runs);
  stands = λ session stands.
      let now = c.pieces.invariant.stands session stands in
      ((piece_stretch ode now.0 c.in-Ok-Statement.line c.as_slice.result.now).0, (c.in-Ok.ensures.carries now.0 now.1).stands);
  leaves = told_behind ⊥ ⊥ _ _ _ c.pieces.invariant.leaves (answer_quiet tt _ _ c.in-Ok.ensures.leaves);
  live = c.in-Ok.ensures.live;
  reads_on = c.in-Ok-Statement.ensures.live;
  reads = rose_on ⊥ ⊥ _ _ _ (λ none. none) c.pieces.invariant.reads (rose_as _ ⊥ _ _ (λ is. cc (is)) absurd c.in-Ok-Statement.ensures.cause);
}

-- ---- the end of the input

pub returns-in-Ok-End-clause-ran : goal.returns-in-Ok-End-clause-ran
returns-in-Ok-End-clause-ran g c = λ quiet w all script text told runs is_ending.
    let so_far = c.pieces.invariant.whole quiet w all script text told runs in
    let now = so_far.2 in
    let ended = rw c.in-Ok-End.field-0-is at (c.in-Ok-End.ensures.piece so_far.0 so_far.1) in
    let stated = c.end_script.ensures.stated is_ending in
    let left = g.S.Source.left c.read_statement.new.source in
    ended_ran quiet (pieces script) all w text so_far.0 now.session now.text c.pieces.tally c.pieces.engine.counted now.so_far g.K.Keep.means End left (g.H.Host.view c.end_script.new.host) (status_in c.end_script.result)
    c.end_script.new.tally c.end_script.new.engine.counted ended.0 stated
    (ended_counts quiet (pieces script) all w text so_far.0 now.session now.text c.pieces.tally c.pieces.engine.counted now.so_far End c.end_script.new.tally c.end_script.new.engine.counted ended.0
    (c.end_script.ensures.counts now.session now.serves.stands is_ending now.so_far.taken now.so_far.before now.so_far.counts))
    (subst (λ (s : Status). LeavesNothing s left) (sym stated) (end_leaves (was_refused c.end_script.new.tally) left ended.1))
    (ends_as g.K.Keep.means (g.H.Host.view c.end_script.new.host) (final now.session.world (ending_items ode now.session End)) now.text (ending_items ode now.session End) c.pieces.engine.quiet quiet now.volume
    (c.end_script.ensures.ends now.session now.text now.serves is_ending))

pub returns-in-Ok-End-clause-counts : goal.returns-in-Ok-End-clause-counts
returns-in-Ok-End-clause-counts g c = λ quiet w all script text told runs is_ending.
    let so_far = c.pieces.invariant.whole quiet w all script text told runs in
    let now = so_far.2 in
    let ended = rw c.in-Ok-End.field-0-is at (c.in-Ok-End.ensures.piece so_far.0 so_far.1) in
    ended_counts quiet (pieces script) all w text so_far.0 now.session now.text c.pieces.tally c.pieces.engine.counted now.so_far End c.end_script.new.tally c.end_script.new.engine.counted ended.0
    (c.end_script.ensures.counts now.session now.serves.stands is_ending now.so_far.taken now.so_far.before now.so_far.counts)

pub returns-in-Ok-End-clause-any_moment : goal.returns-in-Ok-End-clause-any_moment
returns-in-Ok-End-clause-any_moment g c = λ quiet w all script text told runs.
    let so_far = c.pieces.invariant.whole quiet w all script text told runs in
    let now = so_far.2 in
    let ended = rw c.in-Ok-End.field-0-is at (c.in-Ok-End.ensures.piece so_far.0 so_far.1) in
    let items : heard_items quiet (pieces_items ode so_far.0 now.session) ≡ heard_items quiet (ending_items ode now.session End) =
    ap (λ p. heard_items quiet (pieces_items ode p now.session)) ended.0 ∙ ap (heard_items quiet) (pieces_ended ode End now.session) in
    goes_further quiet (pieces script) all w text so_far.0 now.session now.text c.pieces.tally c.pieces.engine.counted now.so_far (HoldsBy ode g.K.Keep.means) _ _ _
    (c.pieces.invariant.moments quiet w all script text told runs)
    (subst (λ (l : List Item). LeavesOnly (g.H.Host.view c.pieces.host) (g.H.Host.view c.end_script.new.host) (IsAfterSome (HoldsBy ode g.K.Keep.means) l now.session.world now.text)) (sym items)
    (moments_as (HoldsBy ode g.K.Keep.means) (ending_items ode now.session End) now.session.world now.text _ _ c.pieces.engine.quiet quiet now.volume (c.end_script.ensures.any_moment now.session now.text now.serves)))

pub returns-in-Ok-End-clause-leaves : goal.returns-in-Ok-End-clause-leaves
returns-in-Ok-End-clause-leaves g c = told_behind _ _ _ _ _ c.pieces.invariant.leaves c.end_script.ensures.leaves

pub returns-in-Ok-End-clause-answers : goal.returns-in-Ok-End-clause-answers
returns-in-Ok-End-clause-answers g c session stands =
    let now = c.pieces.invariant.stands session stands in
    c.end_script.ensures.answers now.0 now.1

pub returns-in-Ok-End-clause-reads : goal.returns-in-Ok-End-clause-reads
returns-in-Ok-End-clause-reads g c =
    rose_on ⊥ _ _ _ _ (λ none. none) c.pieces.invariant.reads (rose_as _ _ _ _ (λ is. cc (is)) (λ is. absurd (c.end_script.ensures.reads is)) c.in-Ok-End.ensures.cause)

-- ---- an error of the script

pub returns-in-Err-clause-ran : goal.returns-in-Err-clause-ran
returns-in-Err-clause-ran g c = λ quiet w all script text told runs is_ending.
    let so_far = c.pieces.invariant.whole quiet w all script text told runs in
    let now = so_far.2 in
    error_ran quiet (pieces script) all w text so_far.0 now.session now.text c.pieces.tally c.pieces.engine.counted now.so_far g.K.Keep.means (g.S.Source.left c.read_statement.new.source) (g.H.Host.view c.pieces.host)
    c.status_of_script.result c.in-Err.error (c.in-Err.ensures.piece so_far.0 so_far.1) c.status_of_script.ensures is_ending
    (ends_now g.H.Host.view g.K.Keep.holds g.K.Keep.live g.K.Keep.means g.met.K.Keep.stands g.met.K.Keep.stays now.session c.pieces.engine c.pieces.host now.text now.serves.stands now.serves.printed)

pub returns-in-Err-clause-counts : goal.returns-in-Err-clause-counts
returns-in-Err-clause-counts g c = λ quiet w all script text told runs is_ending.
    let so_far = c.pieces.invariant.whole quiet w all script text told runs in
    let now = so_far.2 in
    error_counts quiet (pieces script) all w text so_far.0 now.session now.text c.pieces.tally c.pieces.engine.counted now.so_far c.in-Err.error (c.in-Err.ensures.piece so_far.0 so_far.1)
    (subst IsEnding c.status_of_script.ensures is_ending)

pub returns-in-Err-clause-leaves : goal.returns-in-Err-clause-leaves
returns-in-Err-clause-leaves g c =
    host_calls_as ⊥ ⊥ _ _ _ _ absurd (λ is. script_no_disk c.in-Err.error (sym c.status_of_script.ensures ∙ is)) absurd (λ is. script_no_print c.in-Err.error (sym c.status_of_script.ensures ∙ is)) c.pieces.invariant.leaves

pub returns-in-Err-clause-answers : goal.returns-in-Err-clause-answers
returns-in-Err-clause-answers g c session stands = subst IsRunStatus (sym c.status_of_script.ensures) (script_runs c.in-Err.error)

pub returns-in-Err-clause-reads : goal.returns-in-Err-clause-reads
returns-in-Err-clause-reads g c =
    rose_on ⊥ _ _ _ _ (λ none. none) c.pieces.invariant.reads
    (rose_as _ _ _ _ (λ is. let e : c.in-Err.error ≡ script.ReadFault = cc (is) in c.status_of_script.ensures ∙ ap status_of_script e) (λ is. ap Err (script_read c.in-Err.error (sym c.status_of_script.ensures ∙ is))) c.in-Err.ensures.cause)

-- ---- a piece at which the engine doesn't answer

pub returns-in-Err-carry_out-clause-ran : goal.returns-in-Err-carry_out-clause-ran
returns-in-Err-carry_out-clause-ran g c quiet w all script text told runs is_ending =
    absurd (engine_no_end c.in-Err-carry_out.error (subst IsEnding (ended_is c.ended_by.result c.in-Err-carry_out.error c.ended_by.ensures) is_ending))

pub returns-in-Err-carry_out-clause-counts : goal.returns-in-Err-carry_out-clause-counts
returns-in-Err-carry_out-clause-counts g c quiet w all script text told runs is_ending =
    absurd (engine_no_end c.in-Err-carry_out.error (subst IsEnding (ended_is c.ended_by.result c.in-Err-carry_out.error c.ended_by.ensures) is_ending))

pub returns-in-Err-carry_out-clause-any_moment : goal.returns-in-Err-carry_out-clause-any_moment
returns-in-Err-carry_out-clause-any_moment g c quiet w all script text told runs =
    let so_far = c.pieces.invariant.whole quiet w all script text told runs in
    let taken = rw c.in-Ok-Statement.field-0-is at (c.in-Ok-Statement.ensures.piece so_far.0 so_far.1) in
    let is = taken.1 ∙ ap (λ (p : List ℕ). Then c.in-Ok-Statement.line p taken.0) (sym c.as_slice.ensures) in
    runs_leaves g.H.Host.view g.K.Keep.holds g.K.Keep.live g.K.Keep.means quiet (pieces script) all w text so_far.0 c.pieces.engine c.pieces.host c.pieces.tally so_far.2 c.in-Ok-Statement.line c.as_slice.result.now taken.0 is
    _ c.carry_out.new.engine c.carry_out.new.host c.carry_out.new.tally (g.H.Host.view c.args.host.now) (c.in-Err-carry_out.ensures.carries so_far.2.session so_far.2.serves.stands)
    (c.pieces.invariant.moments quiet w all script text told runs)

pub returns-in-Err-carry_out-clause-leaves : goal.returns-in-Err-carry_out-clause-leaves
returns-in-Err-carry_out-clause-leaves g c =
    rw (ended_is c.ended_by.result c.in-Err-carry_out.error c.ended_by.ensures) (told_behind _ _ _ _ _ c.pieces.invariant.leaves (error_stated (Unit {0}) c.in-Err-carry_out.error _ _ c.in-Err-carry_out.ensures.leaves))

pub returns-in-Err-carry_out-clause-answers : goal.returns-in-Err-carry_out-clause-answers
returns-in-Err-carry_out-clause-answers g c session stands =
    let now = c.pieces.invariant.stands session stands in
    subst IsRunStatus (sym (ended_is c.ended_by.result c.in-Err-carry_out.error c.ended_by.ensures)) (engine_answers (Unit {0}) c.in-Err-carry_out.error (c.in-Err-carry_out.ensures.carries now.0 now.1).sound)

pub returns-in-Err-carry_out-clause-reads : goal.returns-in-Err-carry_out-clause-reads
returns-in-Err-carry_out-clause-reads g c =
    rose_on ⊥ _ _ _ _ (λ none. none) c.pieces.invariant.reads
    (rose_as _ _ _ _ (λ is. cc (is)) (λ is. absurd (engine_no_read c.in-Err-carry_out.error (sym (ended_is c.ended_by.result c.in-Err-carry_out.error c.ended_by.ensures) ∙ is))) c.in-Ok-Statement.ensures.cause)
