-- What is read through an overlay isn't damaged.
use Rattle.std.proofs.Common.{◌≡◌, Some, Result, Err, subst}
use Rattle.ode_expr.specs.declared.stop.EvalStop.TheVariants as eval
use Rattle.ode_overlay.specs.Answers.{Answer, Answers}
use Rattle.ode_overlay.specs.Reading.{ReadsAs}
use Rattle.ode_overlay.specs.declared.error.OverlayError.{OverlayError}
use Rattle.ode_overlay.specs.declared.error.OverlayError.TheVariants as error
use Rattle.ode_run_frame.specs.Knowing.{IsSound}
use Rattle.ode_run_frame.specs.Reads.{stop_of}
use Rattle.ode_run_frame.specs.declared.unread.Unread.{Unread}
use Rattle.ode_run_frame.specs.declared.unread.Unread.TheVariants as unread
use Rattle.ode_value.specs.declared.arithmetic.Fault.{Fault}

module _ {V : Type 0} (answer : Answer V) (meant : Result V Fault) (reads : ReadsAs answer meant) (stop : Unread) where
  refused : (why : OverlayError) → answer ≡ Err why → ReadsAs (Err why) meant
  refused why is = subst (λ (a : Answer V). ReadsAs a meant) is reads

  pub stops_sound : (why : OverlayError) → Answers {A = V} (Err why) answer → stop_of why ≡ eval.Frame stop → IsSound (Some stop)
  stops_sound error.Memory answers is = absurd (cc is)
  stops_sound error.DiskFault answers is = let same : unread.DiskFault ≡ stop = cc is in subst (λ (s : Unread). IsSound (Some s)) same tt
  stops_sound (error.Damaged key) answers is = absurd (refused (error.Damaged key) answers)
  stops_sound (error.NoObject id) answers is = absurd (cc is)
  stops_sound (error.NoVersion r) answers is = absurd (cc is)
  stops_sound (error.LastVersion id) answers is = absurd (refused (error.LastVersion id) answers)
  stops_sound error.TooManyChanges answers is = absurd (refused error.TooManyChanges answers)
  stops_sound error.TooLong answers is = absurd (refused error.TooLong answers)
  stops_sound error.NoNumber answers is = absurd (refused error.NoNumber answers)
