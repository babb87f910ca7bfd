-- What calls of a host leave, one after another.
use Rattle.std.proofs.Common.{◌≡◌, ◌<◌, ◌≤◌, ◌⊎◌, ◌∙◌, ⊎_elim, inl, inr, min, ℕ, List, refl, sym, subst, arith}
use Rattle.std.proofs.lemmas.Bool.{cases_lt}
use Rattle.ode_host.specs.Causes.{RoseIf}
use Rattle.ode_host.specs.Host.{Step, Elapses, Nothing, CutPrint, Keeps, Looks, Prints, DiskCalls, HostCalls, Spares}
use Rattle.ode_host.specs.View.{View}
use Rattle.ode_host.proofs.Moments.{keeps_joined}

-- nothing was called
pub rose_none : (F : Type 0) (n : ℕ) → (F → ⊥) → RoseIf F n n
rose_none F n none = record { later = omega arith; rose = λ f. absurd (none f); calm = inr refl }

-- after calls of which none failed
pub rose_on : (E F : Type 0) (a b c : ℕ) → (E → ⊥) → RoseIf E a b → RoseIf F b c → RoseIf F a c
rose_on E F a b c none first second =
    let same : b ≡ a = ⊎_elim (λ e. absurd (none e)) (λ is. is) first.calm in
    subst (λ (n : ℕ). RoseIf F n c) same second

-- the same answer in other words
pub rose_as : (F G : Type 0) (b n : ℕ) → (F → G) → (G → F) → RoseIf F b n → RoseIf G b n
rose_as F G b n to back counts = record { later = counts.later; rose = λ g. counts.rose (back g); calm = ⊎_elim (λ f. inl (to f)) inr counts.calm }

pub looks_calls : (F : Type 0) (a b : View) → Looks a b → RoseIf F a.disk_faults b.disk_faults → DiskCalls F a b
looks_calls F a b looks counts = record { keeps = looks.keeps; text = looks.text; print_faults = looks.print_faults; disk_faults = counts }

-- calls of the disk are calls of the host
pub disk_host : (F G P : Type 0) (a b : View) → (F → G) → (G → F) → (P → ⊥) → DiskCalls F a b → HostCalls G P a b
disk_host F G P a b to back none calls = record {
  keeps = calls.keeps;
  disk_faults = rose_as F G a.disk_faults b.disk_faults to back calls.disk_faults;
  print_faults = subst (λ (n : ℕ). RoseIf P a.print_faults n) (sym calls.print_faults) (rose_none P a.print_faults none);
}

pub print_host : (F P : Type 0) (piece : List ℕ) (a b : View) → (F → ⊥) → Prints piece a b → RoseIf P a.print_faults b.print_faults → HostCalls F P a b
print_host F P piece a b none prints counts = record {
  keeps = prints.keeps;
  disk_faults = subst (λ (n : ℕ). RoseIf F a.disk_faults n) (sym prints.disk_faults) (rose_none F a.disk_faults none);
  print_faults = counts;
}

pub host_calls_on : (D E F P : Type 0) (a b c : View) → (D → ⊥) → (E → ⊥) → HostCalls D E a b → HostCalls F P b c → HostCalls F P a c
host_calls_on D E F P a b c no_disk no_print first second = record {
  keeps = keeps_joined a b c first.keeps second.keeps;
  disk_faults = rose_on D F a.disk_faults b.disk_faults c.disk_faults no_disk first.disk_faults second.disk_faults;
  print_faults = rose_on E P a.print_faults b.print_faults c.print_faults no_print first.print_faults second.print_faults;
}

pub host_calls_as : (F P G Q : Type 0) (a b : View) → (F → G) → (G → F) → (P → Q) → (Q → P) → HostCalls F P a b → HostCalls G Q a b
host_calls_as F P G Q a b to back on off calls = record {
  keeps = calls.keeps;
  disk_faults = rose_as F G a.disk_faults b.disk_faults to back calls.disk_faults;
  print_faults = rose_as P Q a.print_faults b.print_faults on off calls.print_faults;
}

-- a step that leaves the image as it was
module _ (step : Step) (a b : View) (time : Elapses step a b) (same : (d e c o : List ℕ) → step d e c o → c ≡ d) where
  still : (t : ℕ) (c o : List ℕ) → t ≤ b.moment → b.left t c o → (e : List ℕ) × a.left (min t a.moment) c e
  still t c o up_to left = ⊎_elim
      (λ (beyond : a.moment < t).
      let from = time.steps t c o beyond up_to left in
      let is : a.moment ≡ min t a.moment = omega arith in
      (from.1, subst (λ (k : ℕ). a.left k c from.1) is (subst (λ (f : List ℕ). a.left a.moment f from.1) (sym (same from.0 from.1 c o from.3)) from.2)))
      (λ (within : t ≤ a.moment).
      let is : t ≡ min t a.moment = omega arith in
      (o, subst (λ (k : ℕ). a.left k c o) is (time.keeps t c o within left)))
      (cases_lt a.moment t)

pub looks_spares : (a b : View) → Looks a b → Spares a b
looks_spares a b looks = record {
  later = looks.time.later;
  image = looks.image;
  written = looks.written;
  stops = still Nothing a b looks.time (λ d e c o step. step.0);
}

pub print_spares : (piece : List ℕ) (a b : View) → Prints piece a b → Spares a b
print_spares piece a b prints = record {
  later = prints.time.later;
  image = prints.image;
  written = prints.written;
  stops = still (CutPrint piece) a b prints.time (λ d e c o step. step.0);
}

pub spares_joined : (a b c : View) → Keeps a b → Spares a b → Spares b c → Spares a c
spares_joined a b c keeps first second = record {
  later = omega (arith, first.later, second.later);
  image = second.image ∙ first.image;
  written = λ some. second.written (keeps.told some) ∙ first.written some;
  stops = λ t f o up_to left.
      let last = second.stops t f o up_to left in
      let before = first.stops (min t b.moment) f last.0 (omega arith) last.1 in
      let is : min (min t b.moment) a.moment ≡ min t a.moment = omega (arith, first.later) in
      (before.0, subst (λ (k : ℕ). a.left k f before.0) is before.1);
}
