-- What is told of a pass over records that stopped.
use Rattle.std.proofs.Common.{◌≡◌, ℕ, List, length, Result, Ok, Err, refl, ap, sym, ◌∙◌}
use Rattle.std.specs.Prelude.{IsErrOf}
use Rattle.ode_change.specs.Errors.{pass_error}
use Rattle.ode_changed_laws.specs.Known.{IsKnown, class_by_class}
use Rattle.ode_codec.specs.declared.record.Counters.{Counters}
use Rattle.ode_heap.specs.Answering.{counters_of}
use Rattle.ode_host.proofs.Calls.{rose_as}
use Rattle.ode_host.specs.Causes.{RoseIf}
use Rattle.ode_keep.specs.Entries.{Entries}
use Rattle.ode_machine.specs.Refusals as machine
use Rattle.ode_passes.specs.Answers.{Answers}
use Rattle.ode_passes.specs.Rules.{Ruled}
use Rattle.ode_passes.specs.declared.error.OpenError.{OpenError}
use Rattle.ode_passes.specs.declared.error.OpenError.TheVariants as error
use Rattle.ode_transact.specs.Errors.{OnDamaged}
use Rattle.ode_transact.specs.declared.error.EngineError.{EngineError}
use Rattle.ode_transact.specs.declared.error.EngineError.TheVariants as engine
use Rattle.ode_value.specs.Worlds.{Bones}
use Rattle.ode_value.specs.declared.change.Added.{Added}
use Rattle.ode_value.specs.declared.statement.ClassDecl.{ClassDecl}

abbrev stopped : (X : Type 0) → OpenError → Result X OpenError
stopped X e = Err e

abbrev failed : (R : Type 0) → EngineError → Result R EngineError
failed R why = Err why

-- no record is damaged where all rules hold
pub none_damaged : (R X : Type 0) (e : OpenError) (Holds : Entries → Type 0) (meant : Entries → Ruled X) → ((entries : Entries) → Holds entries → Answers (meant entries) (stopped X e))
    → OnDamaged (failed R (pass_error e)) ((entries : Entries) (x : X) → Holds entries → meant entries ≡ Ok x → ⊥)
none_damaged R X error.Memory Holds meant answers = tt
none_damaged R X error.DiskFault Holds meant answers = tt
none_damaged R X (error.BadFile why) Holds meant answers = λ entries x holds is. cc (answers entries holds, is)

fault_told : (R X : Type 0) (e : OpenError) → IsErrOf (stopped X e) error.DiskFault → IsErrOf (failed R (pass_error e)) engine.DiskFault
fault_told R X error.Memory is = absurd (cc (is))
fault_told R X error.DiskFault is = refl
fault_told R X (error.BadFile why) is = absurd (cc (is))

fault_was : (R X : Type 0) (e : OpenError) → IsErrOf (failed R (pass_error e)) engine.DiskFault → IsErrOf (stopped X e) error.DiskFault
fault_was R X error.Memory is = absurd (cc (is))
fault_was R X error.DiskFault is = refl
fault_was R X (error.BadFile why) is = absurd (cc (is))

pub pass_rose : (R X : Type 0) (e : OpenError) (a b : ℕ) → RoseIf (IsErrOf (stopped X e) error.DiskFault) a b → RoseIf (IsErrOf (failed R (pass_error e)) engine.DiskFault) a b
pass_rose R X e a b rose = rose_as (IsErrOf (stopped X e) error.DiskFault) (IsErrOf (failed R (pass_error e)) engine.DiskFault) a b (fault_told R X e) (fault_was R X e) rose

pub pass_silent : (R : Type 0) (e : OpenError) → IsErrOf (failed R (pass_error e)) engine.WriteFault → ⊥
pass_silent R error.Memory is = cc (is)
pass_silent R error.DiskFault is = cc (is)
pass_silent R (error.BadFile why) is = cc (is)

-- ---- what is known

abbrev Trees : Type 0
Trees = List ClassDecl × List Added

abbrev given : Trees → Ruled Trees
given p = Ok p

-- the counters say how many fields there are, and the records which
pub known_is : (b : Bones) (counters own : Counters) (meant : ℕ → Ruled Trees) (trees : List ClassDecl) (added : List Added) → counters ≡ counters_of b → own ≡ counters → meant counters.added ≡ Ok (trees, added)
    → meant (length b.added) ≡ Ok (machine.trees_in b, class_by_class b) → IsKnown b own trees added
known_is b counters own meant trees added counted same read says =
    let both : given (trees, added) ≡ given (machine.trees_in b, class_by_class b) = sym read ∙ ap (λ (k : Counters). meant k.added) counted ∙ says in
    let pairs : (trees, added) ≡ (machine.trees_in b, class_by_class b) = cc (both) in
    record { counters = same ∙ counted; trees = ap (λ (p : Trees). p.0) pairs; added = ap (λ (p : Trees). p.1) pairs }
