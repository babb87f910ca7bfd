-- What a run leaves of a host, whatever it answers.
use Rattle.std.proofs.Common.{◌≡◌, ◌⊎◌, ◌∙◌, ⊎_elim, List, ℕ, Some, refl, sym, subst}
use Rattle.std.specs.Prelude.{IsSome}
use Rattle.ode_host.specs.declared.status.Status.{Status}
use Rattle.ode_host.specs.declared.status.Status.TheVariants as status
use Rattle.ode_host.specs.Causes.{RoseIf}
use Rattle.ode_host.specs.Host.{HostCalls, Keeps, Looks, Prints}
use Rattle.ode_host.specs.View.{View}
use Rattle.ode_host.proofs.Calls.{looks_spares, print_host, print_spares, spares_joined}
use Rattle.ode_begin.specs.Answers.{IsIdle, IsSilent}
use Rattle.ode_begin.proofs.Calling.{some_of}

-- what is told of the text stays told
pub told_by : (a b : View) → Keeps a b → (text : List ℕ) → a.text ≡ Some text → (out : List ℕ) × (b.text ≡ Some out)
told_by a b keeps text said = some_of b.text (keeps.printed (subst IsSome (sym said) refl))

-- a status with a line, or a fault of its print, isn't silent
pub never_silent : (said result : Status) → (IsSilent said → ⊥) → (result ≡ said) ⊎ (result ≡ status.WriteFault) → IsSilent result → ⊥
never_silent said result loud ends silent = ⊎_elim (λ (same : result ≡ said). loud (subst IsSilent same silent)) (λ (cut : result ≡ status.WriteFault). subst IsSilent cut silent) ends

-- A line was printed that ends with this status or with the fault of a print.
module _ (said result : Status) (piece : List ℕ) (a b : View)
    (ends : (result ≡ said) ⊎ (result ≡ status.WriteFault)) (prints : Prints piece a b)
    (rose : RoseIf (result ≡ status.WriteFault) a.print_faults b.print_faults) where
  pub line_leaves : (said ≡ status.DiskFault → ⊥) → HostCalls (result ≡ status.DiskFault) (result ≡ status.WriteFault) a b
  line_leaves other =
      print_host (result ≡ status.DiskFault) (result ≡ status.WriteFault) piece a b
      (λ is. ⊎_elim (λ (same : result ≡ said). other (sym same ∙ is)) (λ (cut : result ≡ status.WriteFault). cc (cut, is)) ends) prints rose

  pub line_idle : (IsSilent said → ⊥) → IsIdle result a b
  line_idle loud = record {
    spares = print_spares piece a b prints;
    silent = λ silent. absurd (never_silent said result loud ends silent);
  }

-- a call that only looked, and then one that was idle
pub idle_on : (s : Status) (a b c : View) → Looks a b → IsIdle s b c → IsIdle s a c
idle_on s a b c looks idle = record {
  spares = spares_joined a b c looks.keeps (looks_spares a b looks) idle.spares;
  silent = λ silent. idle.silent silent ∙ looks.text;
}

-- a call that only looked
pub idle_looks : (s : Status) (a b : View) → Looks a b → IsIdle s a b
idle_looks s a b looks = record { spares = looks_spares a b looks; silent = λ silent. looks.text }
