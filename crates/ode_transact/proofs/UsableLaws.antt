-- A context's keeper and the host's faults, over calls one after another.
use Rattle.std.proofs.Common.{◌≡◌, Bool, true, Result, Ok, Err, ap, subst, sym}
use Rattle.std.specs.Prelude.{IsErrOf}
use Rattle.ode_host.proofs.Calls.{rose_as, rose_none, rose_on}
use Rattle.ode_host.proofs.Moments.{looks_joined, looks_none}
use Rattle.ode_host.specs.View.{View}
use Rattle.ode_interpreter.specs.Seen.{Leaves}
use Rattle.ode_interpreter.specs.declared.stop.Stop.{Stop}
use Rattle.ode_interpreter.specs.declared.stop.Stop.TheVariants as stop
use Rattle.ode_run.specs.Serving.{LeavesUsable}
use Rattle.ode_value.specs.declared.reason.Reason.{Reason}

abbrev gave : {R : Type 0} → R → Result R Stop
gave v = Ok v

abbrev erred : (R : Type 0) → Stop → Result R Stop
erred R why = Err why

-- ---- where nothing is called

still : {R : Type 0} (result : Result R Stop) (live : Bool) (v : View) → Leaves result (live ≡ true) (λ why. Unit {0}) → (IsErrOf result stop.DiskFault → ⊥) → LeavesUsable result live v v
still result live v usable none = record { usable = usable; looks = looks_none v; faults = rose_none (IsErrOf result stop.DiskFault) v.disk_faults none }

pub done_usable : {R : Type 0} (answer : R) (live : Bool) (v : View) → live ≡ true → LeavesUsable {R = R} (Ok answer) live v v
done_usable {R} answer live v usable = still (gave {R = R} answer) live v usable (λ failed. cc failed)

pub aborted_usable : (R : Type 0) (why : Reason) (live : Bool) (v : View) → live ≡ true → LeavesUsable (erred R (stop.Abort why)) live v v
aborted_usable R why live v usable = still (erred R (stop.Abort why)) live v usable (λ failed. cc failed)

-- want of memory
pub wanted_usable : {R : Type 0} (result : Result R Stop) (live : Bool) (v : View) → result ≡ Err stop.Memory → live ≡ true → LeavesUsable result live v v
wanted_usable {R} result live v is usable = subst (λ (r : Result R Stop). LeavesUsable r live v v) (sym is) (still (erred R stop.Memory) live v usable (λ failed. cc failed))

-- ---- one after another

same_fault : (R S : Type 0) (why : Stop) → erred R why ≡ Err stop.DiskFault → erred S why ≡ Err stop.DiskFault
same_fault R S why failed = let same : why ≡ stop.DiskFault = cc failed in ap (λ (s : Stop). erred S s) same

stays_so : (R S : Type 0) (why : Stop) (live : Bool) → Leaves (erred R why) (live ≡ true) (λ why. Unit {0}) → Leaves (erred S why) (live ≡ true) (λ why. Unit {0})
stays_so R S (stop.Abort why) live usable = usable
stays_so R S stop.Memory live usable = usable
stays_so R S stop.DiskFault live usable = tt
stays_so R S (stop.Damaged key) live usable = tt

-- a stop on the way
pub stops_usable : (R S : Type 0) (result : Result S Stop) (why : Stop) → result ≡ Err why → (live : Bool) (a b : View) → LeavesUsable (erred R why) live a b → LeavesUsable result live a b
stops_usable R S result why is live a b left = subst (λ (r : Result S Stop). LeavesUsable r live a b) (sym is) (record {
  usable = stays_so R S why live left.usable;
  looks = left.looks;
  faults = rose_as (erred R why ≡ Err stop.DiskFault) (erred S why ≡ Err stop.DiskFault) a.disk_faults b.disk_faults (same_fault R S why) (same_fault S R why) left.faults;
})

-- a call behind one that was done
pub then_usable : {Q S : Type 0} (v : Q) (result : Result S Stop) (mid live : Bool) (a b c : View) → LeavesUsable (gave v) mid a b → (mid ≡ true → LeavesUsable result live b c) → LeavesUsable result live a c
then_usable v result mid live a b c first second =
    let left = second first.usable in
    record {
      usable = left.usable;
      looks = looks_joined a b c first.looks left.looks;
      faults = rose_on (gave v ≡ Err stop.DiskFault) (result ≡ Err stop.DiskFault) a.disk_faults b.disk_faults c.disk_faults (λ failed. cc failed) first.faults left.faults;
    }
