use Rattle.std.proofs.Common.{◌≡◌, ◌∙◌, ⊎_elim, Err, IsErr, ap, inl, inr, refl, subst, sym}
use Rattle.std.specs.Prelude.{codes}
use Rattle.ode_host.specs.declared.status.Status.TheVariants as status
use Rattle.ode_value.specs.Texts.{line}
use Rattle.ode_host.proofs.Calls.{disk_host, host_calls_on}
use Rattle.ode_top.specs.Answers.{IsInitStatus}
use Rattle.ode_begin.proofs.Calling.{tells_same}
use Rattle.ode_begin.proofs.Leaving.{idle_looks, idle_on, line_idle, line_leaves, never_silent}
use Rattle.ode_language.specs.Languages.{ode}
use Rattle.ode_top.proofs.Fresh.{fresh_holds}
use Rattle.ode_host.proofs.Moments.{stands_print, tells_looks}
use Rattle.ode_top.proofs.running.init.Goals as goal

pub returns-in-Ok-clause-claims : goal.returns-in-Ok-clause-claims
returns-in-Ok-clause-claims g c = record {
  made = λ ok file text told said.
      let made = c.in-Ok.ensures.made file told in
      record {
        image = made.0;
        stands = stands_print _ made.0 text _ _ (g.met.H.Host.text_stands c.initialise.new.host) made.1 (c.initialise.ensures.leaves.text ∙ said) c.end_with.ensures.prints;
        made = made.2;
        holds = fresh_holds (c.runs_stay_good.ensures.fresh ode c.language_has_sound_rules.ensures).good made.0 (c.in-Ok.ensures.means file made.0 told made.1.tells);
        printed = c.end_with.ensures.printed (λ (cut : c.end_with.result ≡ status.WriteFault). cc) text (c.initialise.ensures.leaves.text ∙ said);
      };
  exists = λ is file text told said. absurd (⊎_elim (λ same. cc (same, is)) (λ cut. cc (cut, is)) c.end_with.ensures.status);
  in_use = λ file told in_use ok. let failed = subst IsErr c.in-Ok.is (c.initialise.ensures.refused file told in_use) in cc;
  init = ⊎_elim (λ same. subst IsInitStatus (sym same) tt) (λ cut. subst IsInitStatus (sym cut) tt) c.end_with.ensures.status;
  init_cut = λ is file text told said. record {
    said = line (codes "ready");
    reason = inr (λ in_use. let failed = subst IsErr c.in-Ok.is (c.initialise.ensures.refused file told in_use) in cc, refl);
    front = c.end_with.ensures.cut is text (c.initialise.ensures.leaves.text ∙ said);
  };
  spared = λ file told in_use. let failed = subst IsErr c.in-Ok.is (c.initialise.ensures.refused file told in_use) in absurd (cc (failed));
  silent = λ silent. absurd (never_silent status.Ok c.end_with.result (λ loud. loud) c.end_with.ensures.status silent);
}

pub returns-in-Ok-clause-leaves : goal.returns-in-Ok-clause-leaves
returns-in-Ok-clause-leaves g c =
    host_calls_on ⊥ ⊥ _ _ _ _ _ (λ none. none) (λ none. none)
    (disk_host _ ⊥ ⊥ _ _ (λ is. cc (is)) absurd (λ none. none) c.in-Ok.ensures.leaves)
    (line_leaves status.Ok c.end_with.result _ _ _ c.end_with.ensures.status c.end_with.ensures.prints c.end_with.ensures.cause (λ is. cc (is)))

pub returns-in-Err-FileExists-clause-claims : goal.returns-in-Err-FileExists-clause-claims
returns-in-Err-FileExists-clause-claims g c = record {
  made = λ is file text told said. absurd (⊎_elim (λ same. cc (same, is)) (λ cut. cc (cut, is)) c.end_with-in-Err-FileExists.ensures.status);
  exists = λ is file text told said.
      let looks = c.in-Err-FileExists.ensures.looks (ap Err c.in-Err-FileExists.field-0-is) in
      record {
        in_use = c.in-Err-FileExists.ensures.exists (ap Err c.in-Err-FileExists.field-0-is) file told;
        tells = tells_same file _ _ c.end_with-in-Err-FileExists.ensures.prints.keeps c.end_with-in-Err-FileExists.ensures.prints.image (tells_looks file _ _ looks told);
        printed = c.end_with-in-Err-FileExists.ensures.printed (λ (cut : c.end_with-in-Err-FileExists.result ≡ status.WriteFault). cc) text (c.initialise.ensures.leaves.text ∙ said);
      };
  in_use = λ file told in_use ok. ⊎_elim (λ same. cc (same, ok)) (λ cut. cc (cut, ok)) c.end_with-in-Err-FileExists.ensures.status;
  init = ⊎_elim (λ same. subst IsInitStatus (sym same) tt) (λ cut. subst IsInitStatus (sym cut) tt) c.end_with-in-Err-FileExists.ensures.status;
  init_cut = λ is file text told said. record {
    said = line (codes "file exists");
    reason = inl (c.in-Err-FileExists.ensures.exists (ap Err c.in-Err-FileExists.field-0-is) file told, refl);
    front = c.end_with-in-Err-FileExists.ensures.cut is text (c.initialise.ensures.leaves.text ∙ said);
  };
  spared = λ file told in_use.
      idle_on c.end_with-in-Err-FileExists.result _ _ _ (c.initialise.ensures.spared file told in_use)
      (line_idle status.BadFile c.end_with-in-Err-FileExists.result _ _ _ c.end_with-in-Err-FileExists.ensures.status c.end_with-in-Err-FileExists.ensures.prints c.end_with-in-Err-FileExists.ensures.cause (λ loud. loud));
  silent = λ silent. absurd (never_silent status.BadFile c.end_with-in-Err-FileExists.result (λ loud. loud) c.end_with-in-Err-FileExists.ensures.status silent);
}

pub returns-in-Err-FileExists-clause-leaves : goal.returns-in-Err-FileExists-clause-leaves
returns-in-Err-FileExists-clause-leaves g c =
    host_calls_on ⊥ ⊥ _ _ _ _ _ (λ none. none) (λ none. none)
    (disk_host _ ⊥ ⊥ _ _ (λ is. let e = rw c.in-Err-FileExists.field-0-is at is in cc (e)) absurd (λ none. none) c.in-Err-FileExists.ensures.leaves)
    (line_leaves status.BadFile c.end_with-in-Err-FileExists.result _ _ _ c.end_with-in-Err-FileExists.ensures.status c.end_with-in-Err-FileExists.ensures.prints c.end_with-in-Err-FileExists.ensures.cause (λ is. cc (is)))

pub returns-in-Err-DiskFault-clause-claims : goal.returns-in-Err-DiskFault-clause-claims
returns-in-Err-DiskFault-clause-claims g c = record {
  made = λ is file text told said. cc (is);
  exists = λ is file text told said. cc (is);
  in_use = λ file told in_use ok. cc (ok);
  init = tt;
  init_cut = λ is file text told said. cc (is);
  spared = λ file told in_use. idle_looks status.DiskFault _ _ (c.initialise.ensures.spared file told in_use);
  silent = λ silent. c.initialise.ensures.leaves.text;
}

pub returns-in-Err-DiskFault-clause-leaves : goal.returns-in-Err-DiskFault-clause-leaves
returns-in-Err-DiskFault-clause-leaves g c =
    disk_host _ _ _ _ _ (λ is. refl) (λ is. ap Err c.in-Err-DiskFault.field-0-is) (λ is. cc (is)) c.in-Err-DiskFault.ensures.leaves
