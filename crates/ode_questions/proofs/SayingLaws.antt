-- What is said of a piece, and printed.
use Rattle.std.proofs.Common.{◌≡◌, ◌∙◌, Bool, List, None, Result, Some, Ok, Err, IsTrue, ◌++◌, ℕ, ap, refl, subst, sym, take}
use Rattle.std.specs.Prelude.{IsErrOf}
use Rattle.ode_host.proofs.Calls.{disk_host, host_calls_as, host_calls_on, looks_calls, print_host}
use Rattle.ode_host.proofs.Moments.{now_from}
use Rattle.ode_host.specs.Causes.{RoseIf}
use Rattle.ode_host.specs.Host.{CutPrint, HostCalls, Looks, MayHavePrinted, Printed, Prints as HostPrints, Stands}
use Rattle.ode_host.specs.View.{View}
use Rattle.ode_run_frame.specs.Knowing.{Since}
use Rattle.ode_questions.specs.Saying.{Told, said_of}
use Rattle.ode_questions.specs.Steps.{AnswersOver, PrintsOver, Says, stopped_by}
use Rattle.ode_questions.specs.declared.saying.Said.{Said}
use Rattle.ode_questions.specs.declared.stop.Stop.{Stop}
use Rattle.ode_questions.specs.declared.stop.Stop.TheVariants as stop
use Rattle.ode_questions.specs.declared.turned.Turned.{Turned}
use Rattle.ode_questions.specs.declared.turned.Turned.TheVariants as turned

-- a print leaves the file that stands, whatever was printed before
pub stands_printed : (piece file : List ℕ) (old new : View) → HostPrints piece old new → Stands file old → Stands file new
stands_printed piece file old new prints stands = record {
  tells = record { honest = subst IsTrue (sym prints.keeps.honest) stands.tells.honest; image = prints.image ∙ stands.tells.image };
  only = now_from (CutPrint piece) old new (λ c o. c ≡ file) prints.time stands.only (λ d e c o left cut. cut.0 ∙ stands.only d e left);
}

module _ (at : ℕ) (meant : Told (List ℕ)) (holds : Type 0) where
  -- it is said
  pub is_said : (r : Result (List ℕ) Turned) (said : Said) → AnswersOver meant r holds → Says at r (Ok said) → (said ≡ said_of at meant) × holds
  is_said (Ok text) said over says = let same : said ≡ said_of at (Ok text) = cc (says) in (same ∙ ap (said_of at) (sym over.says), over.keeps)
  is_said (Err (turned.Refused why)) said over says = (says ∙ ap (said_of at) (sym over.says), over.keeps)
  is_said (Err turned.Memory) said over says = absurd (cc (says))
  is_said (Err turned.DiskFault) said over says = absurd (cc (says))
  is_said (Err (turned.Damaged key)) said over says = absurd (cc (says))

  module _ (old new : View) (same : new.text ≡ old.text) where
    by_memory : (s : Stop) → s ≡ stop.Memory → PrintsOver (said_of at meant) (Err s) holds old new
    by_memory s is = subst (λ (t : Stop). PrintsOver (said_of at meant) (Err t) holds old new) (sym is) (record { prints = same; keeps = tt })

    -- it isn't, and nothing is printed
    pub unsaid : (r : Result (List ℕ) Turned) (s : Stop) → AnswersOver meant r holds → Says at r (Err s) → PrintsOver (said_of at meant) (Err s) holds old new
    unsaid (Ok text) s over says = absurd (cc (says))
    unsaid (Err (turned.Refused why)) s over says = by_memory s says
    unsaid (Err turned.Memory) s over says = let is : s ≡ stop.Memory = cc (says) in by_memory s is
    unsaid (Err turned.DiskFault) s over says =
        let is : s ≡ stop.DiskFault = cc (says) in
        subst (λ (t : Stop). PrintsOver (said_of at meant) (Err t) holds old new) (sym is) (record { prints = same; keeps = tt })
    unsaid (Err (turned.Damaged key)) s over says = absurd over.sound

-- ---- the host

module _ (at : ℕ) (a b : View) (live : Bool) where
  pub said_since : (r : Result (List ℕ) Turned) (said : Said) → Since a b live (stopped_by r) → Says at r (Ok said) → Since a b live None
  said_since (Ok text) said since says = since
  said_since (Err (turned.Refused why)) said since says = since
  said_since (Err turned.Memory) said since says = since
  said_since (Err turned.DiskFault) said since says = absurd (cc (says))
  said_since (Err (turned.Damaged key)) said since says = absurd (cc (says))

  -- the faults that an error tells
  abbrev Tells : Stop → Type 0
  Tells s = HostCalls (IsErrOf {T = Bool} (Err s) stop.DiskFault) (IsErrOf {T = Bool} (Err s) stop.WriteFault) a b

  by_looks : (F G P : Type 0) → (F → G) → (G → F) → (P → ⊥) → Looks a b → RoseIf F a.disk_faults b.disk_faults → HostCalls G P a b
  by_looks F G P to back none looks rose = disk_host F G P a b to back none (looks_calls F a b looks rose)

  memory_leaves : (s : Stop) → s ≡ stop.Memory → Since a b live None → Tells s
  memory_leaves s is since = subst Tells (sym is) (by_looks _ _ _ (λ fault. cc (fault)) (λ fault. cc (fault)) (λ fault. cc (fault)) since.looks since.faults)

  pub unsaid_leaves : (r : Result (List ℕ) Turned) (s : Stop) → Since a b live (stopped_by r) → Says at r (Err s) → Tells s
  unsaid_leaves (Ok text) s since says = absurd (cc (says))
  unsaid_leaves (Err (turned.Refused why)) s since says = memory_leaves s says since
  unsaid_leaves (Err turned.Memory) s since says = let is : s ≡ stop.Memory = cc (says) in memory_leaves s is since
  unsaid_leaves (Err turned.DiskFault) s since says =
      let is : s ≡ stop.DiskFault = cc (says) in
      subst Tells (sym is) (by_looks _ _ _ (λ fault. refl) (λ fault. refl) (λ fault. cc (fault)) since.looks since.faults)
  unsaid_leaves (Err (turned.Damaged key)) s since says =
      let is : s ≡ stop.Damaged key = cc (says) in
      subst Tells (sym is) (by_looks _ _ _ (λ fault. cc (fault)) (λ fault. cc (fault)) (λ fault. cc (fault)) since.looks since.faults)

-- a print behind calls that only looked
pub print_leaves : (a b c : View) (live : Bool) (piece : List ℕ) (F P Q : Type 0) → (F → ⊥) → (P → Q) → (Q → P) → Since a b live None → HostPrints piece b c → RoseIf P b.print_faults c.print_faults → HostCalls F Q a c
print_leaves a b c live piece F P Q none to back since prints rose =
    host_calls_on ⊥ ⊥ F Q a b c (λ n. n) (λ n. n)
    (disk_host _ ⊥ ⊥ a b (λ fault. cc (fault)) absurd (λ n. n) (looks_calls _ a b since.looks since.faults))
    (host_calls_as F P F Q b c (λ f. f) (λ f. f) to back (print_host F P piece b c none prints rose))

module _ (at : ℕ) (meant : Told (List ℕ)) (said : Said) (piece : List ℕ) (a b c : View) (same : b.text ≡ a.text) (is : said ≡ said_of at meant) (its : piece ≡ said.text) where
  its_text : piece ≡ (said_of at meant).text
  its_text = its ∙ ap (λ (s : Said). s.text) is

  pub said_prints : (holds : Type 0) → holds → Printed piece b c → PrintsOver (said_of at meant) (Ok said.refused) holds a c
  said_prints holds keeps printed = record {
    prints = (ap (λ (s : Said). s.refused) is, λ text told. printed text (same ∙ told) ∙ ap (λ (l : List ℕ). Some (text ++ l)) its_text);
    keeps = keeps;
  }

  pub cut_prints : (holds : Type 0) → MayHavePrinted piece b c → PrintsOver (said_of at meant) (Err stop.WriteFault) holds a c
  cut_prints holds cut = record {
    prints = λ text told. let front = cut text (same ∙ told) in (front.0, front.1 ∙ ap (λ (l : List ℕ). Some (text ++ take front.0 l)) its_text);
    keeps = tt;
  }
