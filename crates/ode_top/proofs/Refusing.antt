-- What a call that only looks does where the file isn't opened.
use Rattle.std.proofs.Common.{◌≡◌, ◌⊎◌, ◌∙◌, ◌++◌, append-nil, ap, inl, inr, List, ℕ, Option, Some, Err, refl, sym, subst}
use Rattle.ode_begin.proofs.Calling.{tells_same}
use Rattle.ode_begin.proofs.Refusing.{broken, inside, loud, outside_as, refused_as, refused_idle, refused_status, still_as}
use Rattle.ode_begin.specs.Answers.{EndsFor, IsNoRun, IsSilent, SaidFront, why_line}
use Rattle.ode_begin.specs.Holds.{Holds}
use Rattle.ode_host.proofs.Moments.{tells_looks}
use Rattle.ode_host.specs.Causes.{RoseIf}
use Rattle.ode_host.specs.Host.{Looks, Prints, Tells}
use Rattle.ode_host.specs.View.{View}
use Rattle.ode_host.specs.declared.status.Status.{Status}
use Rattle.ode_host.specs.declared.status.Status.TheVariants as status
use Rattle.ode_open.specs.Opening.{IsFromOutside, IsOpenedTo}
use Rattle.ode_open.specs.declared.error.OpenError.{OpenError}
use Rattle.ode_questions.specs.declared.asked.Asked.{Asked}
use Rattle.ode_ends.specs.Statuses.{IsEnding, IsRunStatus}
use Rattle.ode_value.specs.Language.{ListWorld}
use Rattle.ode_top.specs.Answers.{AreAnsweredInPart, IsInspectStatus}
use Rattle.ode_top.specs.Claims.{Inspects, Questions}
use Rattle.ode_top.specs.declared.call.Mode.{Mode}

-- A file wasn't opened, for this reason. It was only looked at, and what is said is why.
module _ {H : Type 0} (seen : H → View) (old : View) (mid new : H) (why : OpenError) (result : Status) (ends : EndsFor why result) (still : IsSilent result → new ≡ mid)
    (prints : (IsSilent result → ⊥) → Prints (why_line why) (seen mid) (seen new))
    (rose : RoseIf (result ≡ status.WriteFault) (seen mid).print_faults (seen new).print_faults)
    (printed : result ≡ status.BadFile → (text : List ℕ) → (seen mid).text ≡ Some text → (seen new).text ≡ Some (text ++ why_line why))
    (cut : result ≡ status.WriteFault → (text : List ℕ) → (seen mid).text ≡ Some text → SaidFront (why_line why) text (seen new))
    (looks : Looks old (seen mid)) (answer : (image : List ℕ) → Tells old image → IsFromOutside why ⊎ IsOpenedTo image (Err why)) where
  pub refused_questions : (asked : Asked) (script : Option (List ℕ)) → ((image : List ℕ) (w : ListWorld) → Tells old image → Holds image w → IsFromOutside why)
      → Questions asked script script old (seen new) result
  refused_questions asked script outside = record {
    answered = λ bytes image text w finds ending. absurd (refused_as (λ s. IsEnding s → ⊥) (λ no. no) (λ no. no) (λ no. no) (λ no. no) why result ends ending);
    cut = λ bytes image text w finds cut_off.
        still_as seen old mid new why result ends still (λ (v : View). AreAnsweredInPart asked bytes image w text v)
        (record { tells = tells_looks image old (seen mid) looks finds.tells; front = (0, looks.text ∙ finds.said ∙ ap Some (sym (append-nil text))) })
        (outside_as IsSilent tt tt why result (outside image w finds.tells finds.holds) ends);
    answers = λ image w tells holds. outside_as IsRunStatus tt tt why result (outside image w tells holds) ends;
    spares = (refused_idle seen old mid new why result ends still prints rose printed cut looks answer).spares;
  }

  pub refused_inspects : (mode : Mode) → Inspects mode old (seen new) result
  refused_inspects mode = record {
    said = λ is image text tells before. absurd (subst IsNoRun is (refused_status why result ends));
    bad_file = λ is image text tells before. record {
      tells = tells_same image (seen mid) (seen new) (prints (loud seen old mid new why result ends still prints rose printed cut (inl is))).keeps (prints (loud seen old mid new why result ends still prints rose printed cut (inl is))).image (tells_looks image old (seen mid) looks tells);
      said = why_line why;
      reason = (why, broken seen old mid new why result ends still prints rose printed cut looks answer (inside why result ends (inl is)) image tells, refl);
      printed = printed is text (looks.text ∙ before);
    };
    cut = λ is image text tells before. record {
      said = why_line why;
      reason = inr (why, broken seen old mid new why result ends still prints rose printed cut looks answer (inside why result ends (inr is)) image tells, refl);
      front = cut is text (looks.text ∙ before);
    };
    keeps = λ image tells none is. none (why, broken seen old mid new why result ends still prints rose printed cut looks answer (inside why result ends (inl is)) image tells);
    breaks = λ image tells breaks ok. subst IsNoRun ok (refused_status why result ends);
    answers = refused_as IsInspectStatus tt tt tt tt why result ends;
    idle = (refused_idle seen old mid new why result ends still prints rose printed cut looks answer);
  }
