-- A script's transaction from a well world: what holds of it however far it came, and what it leaves.
use Rattle.std.proofs.Common.{◌≡◌, ◌<◌, ℕ, false, List, [], ◌∷◌, map, Result, Ok, Err, refl, sym, ap, ◌∙◌, subst, arith}
use Rattle.std.specs.List.{AllByRecursion, filter}
use Rattle.ode_language.specs.Texts.{HasText}
use Rattle.ode_footprint_laws.proofs.Among.{Within}
use Rattle.ode_footprint_laws.proofs.FootprintLaws.{command_collects, command_stays, command_touches, completion_collects, completion_drawn, completion_grows, completion_stays, completion_touches, posted_stays, statement_drawn, statements_grow}
use Rattle.ode_footprint_laws.proofs.Grows.{looks_grow}
use Rattle.ode_footprint_laws.proofs.StayLaws.{resting_self}
use Rattle.ode_footprint_laws.specs.Agreeing.{reached_footprint}
use Rattle.ode_footprint_laws.specs.Fresh.{AreDrawn}
use Rattle.ode_footprint_laws.specs.Growing.{Grown}
use Rattle.ode_footprint_laws.specs.Staying.{StaysBut}
use Rattle.ode_good_laws.proofs.GoodAgain.{drain_well, good_classes}
use Rattle.ode_good_laws.specs.Well.{IsWell}
use Rattle.ode_good_runs.proofs.Going.{Goes, IsGoing, begun_going, commits_well as going_commits, completion_goes, foot_going, settles_well, statement_goes, well_first}
use Rattle.ode_good_runs.proofs.GoodRuns.{carried_alone}
use Rattle.ode_good_runs.proofs.Literals.{literals_fit, then_ok}
use Rattle.ode_interleaved_laws.proofs.Again.{begun_drawn}
use Rattle.ode_interleaved_laws.proofs.LastLaws.{IsLast, posted_last}
use Rattle.ode_interleaved_laws.proofs.SettledLaws.{HasEnded}
use Rattle.ode_interleaved_laws.proofs.KeepLaws.{grown_none, kept_stays, rewound_stays, stays_more, stays_then}
use Rattle.ode_language.specs.Languages.{ode}
use Rattle.ode_language_laws.proofs.LanguageRuns.{reads_well, sound_rules}
use Rattle.ode_laws.proofs.GoodNumbers.{good_numbered}
use Rattle.ode_laws.proofs.KeptRows.{kept_numbered}
use Rattle.ode_laws.proofs.Rows.{id_of}
use Rattle.ode_machine.specs.Commands.{Step, carried}
use Rattle.ode_machine.specs.Refusals.{checked_in, classes_behind, classes_in, place_of}
use Rattle.ode_machine.specs.Sessions.{closed}
use Rattle.ode_sound_laws.specs.Sound.{checked_classes}
use Rattle.ode_value.specs.declared.event.Kind.{Kind}
use Rattle.ode_value.specs.declared.event.Kind.TheVariants.{TAbort, TCommit}
use Rattle.ode_value.specs.declared.reason.CheckError.{CheckError}
use Rattle.ode_value.specs.declared.reason.Reason.{Reason}
use Rattle.ode_value.specs.declared.statement.Statement.{Statement}
use Rattle.ode_value.specs.declared.statement.Statement.TheVariants as statement
use Rattle.ode_value.specs.declared.statement.Stmt.{Stmt}
use Rattle.ode_value.specs.Acts.{Aborted, Done, Outcome, reached}
use Rattle.ode_value.specs.Answers.{checks}
use Rattle.ode_value.specs.Completing.{completes}
use Rattle.ode_value.specs.Draining.{drain, world_after}
use Rattle.ode_value.specs.Executing.{commands}
use Rattle.ode_value.specs.Firings.{Place, both_lists, whole_list}
use Rattle.ode_value.specs.Footprints.{with_looks}
use Rattle.ode_value.specs.GoodWorlds.{RiseFrom}
use Rattle.ode_value.specs.Keeping.{rewound_world, with_last}
use Rattle.ode_value.specs.Language.{ListTx, ListWorld, Settlings}
use Rattle.ode_value.specs.Limits.{drain_limit, number_limit, transaction_limit}
use Rattle.ode_value.specs.Objects.{Histories, Starts}
use Rattle.ode_value.specs.Pasts.{lists}
use Rattle.ode_value.specs.Settling.{Settled, aborted, committed, ended, is_independent, posted, settle, settled_world}
use Rattle.ode_value.specs.Transactions.{Script, begun, looking}
use Rattle.ode_value.specs.Worlds.{Bones, Object}

-- ---- worlds

last_well : (w : ListWorld) (settled : Settlings) → IsWell ode w → AllByRecursion (λ (s : Settled Histories Starts). IsWell ode s.0) settled → IsWell ode (world_after w settled)
last_well w [] well all = well
last_well w (s ∷ settled) well all = last_well s.0 settled all.0 all.1

pub drained_well : (w : ListWorld) → IsWell ode w → IsWell ode (world_after w (drain lists drain_limit w))
drained_well w well = last_well w (drain lists drain_limit w) well (drain_well ode drain_limit w well)

room : (w : ListWorld) → w.bones.transaction < number_limit → w.bones.transaction < transaction_limit
room w less = omega (arith, less)

-- what was checked passed the static rules
check_passed : (r : Result Stmt CheckError) (c : Stmt) → checks r ≡ Ok c → r ≡ Ok c
check_passed (Ok s) c is = cc (is)
check_passed (Err error) c is = absurd (cc (is))

module _ (w : ListWorld) (well : IsWell ode w) where
  -- its touched objects were looked at, and what it didn't look at is as it was
  pub record IsComing (x : ListTx) : Type 0 where
    pub going : IsGoing w (well_first ode w well) x
    pub drawn : AreDrawn x
    pub stays : StaysBut x.footprint w x.now
    pub collected : x.footprint.queued ≡ false → x.collected ≡ []
    pub touched : Within x.touched x.footprint.looked

  -- done or aborted
  abbrev pub Comes : Outcome Histories Starts (Unit {0}) → Type 0
  Comes (Done r x) = IsComing x
  Comes (Aborted r x) = IsComing x

  pub begun_coming : IsComing (begun Script w)
  begun_coming = record {
    going = begun_going w (well_first ode w well);
    drawn = begun_drawn w (good_numbered ode w well.good);
    stays = (resting_self (begun Script w).footprint (begun Script w)).1;
    collected = λ none. refl;
    touched = λ id none. none;
  }

  pub looked_coming : (x : ListTx) → IsComing x → (ids : List ℕ) → IsComing (looking ids x)
  looked_coming x c ids = record {
    going = foot_going w (well_first ode w well) x c.going (with_looks ids);
    drawn = record { numbered = c.drawn.numbered; keys = c.drawn.keys };
    stays = stays_more x.footprint (with_looks ids x.footprint) w x.now (looks_grow ids x.footprint) c.stays;
    collected = c.collected;
    touched = λ id among. (looks_grow ids x.footprint).looked id (c.touched id among);
  }

  -- what an act comes to that keeps all this
  comes_by : (x : ListTx) → IsComing x → (p : Outcome Histories Starts (Unit {0})) → Goes w (well_first ode w well) p → AreDrawn (reached p) → Grown x.footprint (reached_footprint p) → StaysBut (reached_footprint p) x.now (reached p).now
      → ((reached_footprint p).queued ≡ false → (reached p).collected ≡ x.collected) → Within (reached p).touched (reached_footprint p).looked → Comes p
  comes_by x c (Done r z) goes drawn grown stays collected touched = record {
    going = goes;
    drawn = drawn;
    stays = stays_then z.footprint w x.now z.now (stays_more x.footprint z.footprint w x.now grown c.stays) stays;
    collected = λ none. collected none ∙ c.collected (grown_none x.footprint z.footprint grown none);
    touched = touched;
  }
  comes_by x c (Aborted r z) goes drawn grown stays collected touched = record {
    going = goes;
    drawn = drawn;
    stays = stays_then z.footprint w x.now z.now (stays_more x.footprint z.footprint w x.now grown c.stays) stays;
    collected = λ none. collected none ∙ c.collected (grown_none x.footprint z.footprint grown none);
    touched = touched;
  }

  pub statement_comes : (x : ListTx) → IsComing x → (read s : Stmt) → HasText ode (statement.Simple read) → checked_in ode x.now.bones read ≡ Ok s → Comes (commands lists s x)
  statement_comes x c read s text checked =
      let parts = then_ok (classes_behind x.now.bones (ode.literals read)) (λ classes. checks (ode.checked (classes_in x.now.bones) classes read)) s checked in
      comes_by x c (commands lists s x)
      (statement_goes w (well_first ode w well) x c.going parts.0 (literals_fit x.now.bones c.going.typed.now (ode.literals read) (reads_well.literals text.0 read text.1) parts.0 parts.1) s
      (sound_rules.checked (checked_classes x.now.bones.classes) parts.0 read s (check_passed (ode.checked (classes_in x.now.bones) parts.0 read) s parts.2)))
      (statement_drawn s x c.drawn) (statements_grow s x) (command_stays s x) (command_collects s x) (command_touches s x c.touched)

  pub completion_comes : (x : ListTx) → IsComing x → Comes (completes lists x)
  completion_comes x c =
      comes_by x c (completes lists x) (completion_goes w (well_first ode w well) x c.going) (completion_drawn x c.drawn) (completion_grows x) (completion_stays x) (completion_collects x) (completion_touches x c.touched)

  -- ---- what it leaves

  pub commit_well : w.bones.transaction < number_limit → (x : ListTx) → IsComing x → IsWell ode (settle lists (completes lists x)).0
  commit_well less x c = going_commits w (well_first ode w well) ode (good_classes ode w.bones well.good.bones) (room w less) well.good.bones.clock well.good.bones.light x c.going

  pub abort_well : w.bones.transaction < number_limit → (reason : Reason) (x : ListTx) → IsComing x → IsWell ode (settle lists (Aborted reason x)).0
  abort_well less reason x c = settles_well w (well_first ode w well) ode (good_classes ode w.bones well.good.bones) (room w less) well.good.bones.clock (Aborted reason x) c.going well.good.bones.light

  first_of : (x : ListTx) → IsComing x → x.first ≡ w
  first_of x c = c.going.kept.within.first

  -- behind the last points of a world that stays so, and that a settling keeps then
  behind_last : (place : Place Histories Starts) (kind : Kind) (z : ListTx) → RiseFrom 0 (map id_of z.now.bones.objects) → IsLast z.footprint.looked z (posted lists place kind z) → StaysBut z.footprint w z.now
      → StaysBut (posted lists place kind z).footprint w (settled_world (posted lists place kind z))
  behind_last place kind z rising last stays =
      let e = posted lists place kind z in
      let then = stays_then e.footprint w z.now e.now (stays_more z.footprint e.footprint w z.now last.grown stays) (posted_stays place kind z) in
      let kept = kept_stays ode w well.good e.footprint e.now then (subst (RiseFrom 0) (sym last.ids) rising) in
      record {
        classes = kept.classes;
        added = kept.added;
        objects = λ id none. record { object = (kept.objects id none).object; past = (kept.objects id none).past };
        next = kept.next;
      }

  -- a commit, behind its last points
  pub done_ended : (x : ListTx) → IsComing x → HasEnded w (Done tt x)
  done_ended x c =
      let last = posted_last (both_lists lists) TCommit (committed lists x) c.touched in
      record {
        first = last.first ∙ first_of x c;
        origin = last.origin ∙ c.going.kept.within.origin;
        collected = λ none. last.collected none ∙ c.collected (grown_none x.footprint (ended lists (Done tt x)).footprint last.grown none);
        stays =
            behind_last (both_lists lists) TCommit (committed lists x) (kept_numbered x.now.bones c.drawn.numbered).rising last
            (kept_stays ode w well.good x.footprint x.now c.stays c.drawn.numbered.rising);
      }

  last_ids : (now : Bones) (os : List Object) → map id_of (map (with_last now) os) ≡ map id_of os
  last_ids now [] = refl
  last_ids now (o ∷ os) = ap (λ ns. o.id ∷ ns) (last_ids now os)

  -- an abort, and it looked at nothing new and drew nothing
  pub aborted_last : (x : ListTx) → IsComing x → IsLast x.footprint.looked (aborted lists x) (posted lists (whole_list lists) TAbort (aborted lists x))
  aborted_last x c = posted_last (whole_list lists) TAbort (aborted lists x) c.touched

  pub aborted_ended : (reason : Reason) (x : ListTx) → IsComing x → HasEnded w (Aborted reason x)
  aborted_ended reason x c =
      let last = aborted_last x c in
      record {
        first = last.first ∙ first_of x c;
        origin = last.origin ∙ c.going.kept.within.origin;
        collected = λ none. last.collected none ∙ ap (filter is_independent) (c.collected (grown_none x.footprint (ended lists (Aborted reason x)).footprint last.grown none));
        stays =
            behind_last (whole_list lists) TAbort (aborted lists x)
            (subst (λ (v : ListWorld). RiseFrom 0 (map id_of (map (with_last x.now.bones) v.bones.objects))) (sym (first_of x c)) (subst (RiseFrom 0) (sym (last_ids x.now.bones w.bones.objects)) well.good.bones.rising)) last
            (subst (λ (v : ListWorld). StaysBut x.footprint w (rewound_world lists v x.now)) (sym (first_of x c)) (rewound_stays ode w well.good x.footprint x.now c.stays));
      }

  pub ended_so : (p : Outcome Histories Starts (Unit {0})) → Comes p → HasEnded w p
  ended_so (Done u x) c = done_ended x c
  ended_so (Aborted reason x) c = aborted_ended reason x c

  -- a class or a clock command
  pub alone_well : w.bones.transaction < number_limit → (s : Statement) → HasText ode s → place_of s false ≡ Ok tt → (step : Step) → carried ode (closed w) s ≡ Ok step → IsWell ode (world_after w step.1)
  alone_well less s text outside step is = last_well w step.1 well (carried_alone ode sound_rules reads_well w well less text.0 s text.1 outside step is)
