-- What the questions of a script come to over a file that was opened.
use Rattle.std.proofs.Common.{◌≡◌, ◌∙◌, ℕ, List, Option, Some, Ok, ap, map}
use Rattle.std.specs.Prelude.{◌==◌}
use Rattle.ode_gate.specs.declared.places.TheConstants.{FIRST_FORMAT}
use Rattle.ode_heap.specs.Answering.{class_of}
use Rattle.ode_host.proofs.Calls.{looks_spares, spares_joined}
use Rattle.ode_host.proofs.Moments.{tells_looks}
use Rattle.ode_host.specs.Host.{Looks, Spares, Tells}
use Rattle.ode_host.specs.View.{View}
use Rattle.ode_host.specs.declared.status.Status.{Status}
use Rattle.ode_host.specs.declared.status.Status.TheVariants as status
use Rattle.ode_keep.specs.Entries.{Entries}
use Rattle.ode_keeper.specs.Files.{FileMeans}
use Rattle.ode_keeper.specs.Holding.{KeeperHolds, is_live}
use Rattle.ode_keeper.specs.declared.keeper.Keeper.{Keeper}
use Rattle.ode_language.specs.Languages.{ode}
use Rattle.ode_open.specs.Opening.{base_in}
use Rattle.ode_opened.specs.declared.opened.Opened.{Opened}
use Rattle.ode_opening_records.specs.Reading.{AreOpened}
use Rattle.ode_questions.specs.Answers.{IsAnswered, IsPossible}
use Rattle.ode_questions.specs.declared.asked.Asked.{Asked}
use Rattle.ode_ends.specs.Resting.{IsAtRest}
use Rattle.ode_ends.specs.Statuses.{IsEnding, IsRunStatus}
use Rattle.ode_value.specs.Language.{ListWorld}
use Rattle.ode_value.specs.Worlds.{Bones}
use Rattle.ode_top.specs.Answers.{AreAnswered, AreAnsweredInPart}
use Rattle.ode_top.specs.Claims.{Questions}
use Rattle.ode_begin.specs.Holds.{Holds}
use Rattle.ode_top.specs.Opening.{OpensAsIs}
use Rattle.ode_begin.specs.Stops.{IsCut}

-- a script of questions ends as a run does
pub run_status : (s : Status) → IsPossible (Ok s) → IsRunStatus s
run_status status.Ok possible = tt
run_status status.Refused possible = tt
run_status status.DiskFault possible = tt
run_status status.ReadFault possible = tt
run_status status.WriteFault possible = tt
run_status status.Memory possible = tt
run_status status.LongStatement possible = tt
run_status status.LongScript possible = tt
run_status status.Usage possible = absurd possible
run_status status.BadFile possible = absurd possible

-- an opened file has the classes of the world that it is at rest in
pub classes_shown : {H : Type 0} (seen : H → View) (w : ListWorld) (o : Opened Keeper) (host : H) → IsAtRest seen KeeperHolds is_live ode w o host → o.classes ≡ map class_of w.bones.classes
classes_shown seen w o host rests = rests.classes ∙ ap (λ (b : Bones). map class_of b.classes) rests.world.world.stands.bones

-- A file that stays was asked.
module _ (asked : Asked) (script image text : List ℕ) (w : ListWorld) (left : Option (List ℕ)) (view : View) (tells : Tells view image) where
  -- the script ended by itself
  pub all_answered : (s : Status) → IsEnding s → IsAnswered asked w.bones script text left view (Ok s) → AreAnswered asked script image w text left view s
  all_answered status.Ok ending said = record { stated = said.0.stated; tells = tells; printed = said.0.printed; nothing = said.1 }
  all_answered status.Refused ending said = record { stated = said.0.stated; tells = tells; printed = said.0.printed; nothing = said.1 }
  all_answered status.LongStatement ending said = record { stated = said.stated; tells = tells; printed = said.printed; nothing = tt }
  all_answered status.LongScript ending said = record { stated = said.stated; tells = tells; printed = said.printed; nothing = tt }
  all_answered status.DiskFault ending said = absurd ending
  all_answered status.ReadFault ending said = absurd ending
  all_answered status.WriteFault ending said = absurd ending
  all_answered status.Memory ending said = absurd ending
  all_answered status.Usage ending said = absurd ending
  all_answered status.BadFile ending said = absurd ending

  -- it was cut short
  pub part_answered : (s : Status) → IsCut s → IsAnswered asked w.bones script text left view (Ok s) → AreAnsweredInPart asked script image w text view
  part_answered status.DiskFault cut said = record { tells = tells; front = said }
  part_answered status.ReadFault cut said = record { tells = tells; front = said }
  part_answered status.WriteFault cut said = record { tells = tells; front = said }
  part_answered status.Memory cut said = record { tells = tells; front = said }
  part_answered status.Ok cut said = absurd cut
  part_answered status.Refused cut said = absurd cut
  part_answered status.LongStatement cut said = absurd cut
  part_answered status.LongScript cut said = absurd cut
  part_answered status.Usage cut said = absurd cut
  part_answered status.BadFile cut said = absurd cut

-- A file was opened as it is, and asked.
module _ (asked : Asked) (script after : Option (List ℕ)) (old mid new : View) (result : Status) (looks : Looks old mid) (o : Opened Keeper)
    (kept : (image : List ℕ) → Tells old image
    → (entries : Entries) × FileMeans image entries × KeeperHolds o.keeper mid entries × AreOpened (o.format == FIRST_FORMAT) ode entries (Ok (base_in o))) where
  opens : (image : List ℕ) (w : ListWorld) → Tells old image → Holds image w → OpensAsIs image w o mid
  opens image w tells holds =
      let there = kept image tells in
      record { tells = tells_looks image old mid looks tells; holds = holds.held; entries = there.0; means = there.1; kept = there.2; opened = there.3 }

  pub questions_opened : ((image : List ℕ) (w : ListWorld) (bytes text : List ℕ) → script ≡ Some bytes → OpensAsIs image w o mid → mid.text ≡ Some text → IsEnding result
      → AreAnswered asked bytes image w text after new result)
      → ((image : List ℕ) (w : ListWorld) (bytes text : List ℕ) → script ≡ Some bytes → OpensAsIs image w o mid → mid.text ≡ Some text → IsCut result
      → AreAnsweredInPart asked bytes image w text new)
      → ((image : List ℕ) (w : ListWorld) → OpensAsIs image w o mid → IsRunStatus result)
      → Spares mid new → Questions asked script after old new result
  questions_opened answered cut answers spares = record {
    answered = λ bytes image text w finds ending. answered image w bytes text finds.given (opens image w finds.tells finds.holds) (looks.text ∙ finds.said) ending;
    cut = λ bytes image text w finds cut_off. cut image w bytes text finds.given (opens image w finds.tells finds.holds) (looks.text ∙ finds.said) cut_off;
    answers = λ image w tells holds. answers image w (opens image w tells holds);
    spares = spares_joined old mid new looks.keeps (looks_spares old mid looks) spares;
  }
