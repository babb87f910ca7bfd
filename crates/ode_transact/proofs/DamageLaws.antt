-- What is said of a damaged record, in other words.
use Rattle.std.proofs.Common.{◌≡◌, ◌<◌, ◌≤◌, ℕ, Result, Ok, Err, arith, subst, sym}
use Rattle.ode_heap.specs.Answers as heap_answers
use Rattle.ode_heap.specs.Staging.{OnTooLarge}
use Rattle.ode_heap.specs.declared.error.HeapError.{HeapError}
use Rattle.ode_heap.specs.declared.error.HeapError.TheVariants as heap
use Rattle.ode_interpreter.specs.Seen.{Leaves}
use Rattle.ode_interpreter.specs.declared.stop.Stop.{Stop}
use Rattle.ode_interpreter.specs.declared.stop.Stop.TheVariants as stop
use Rattle.ode_keep.specs.Entries.{Changes, Entries, applied, record_bytes}
use Rattle.ode_keep.specs.declared.limits.TheConstants.{MAX_PAGED_BYTES}
use Rattle.ode_run.specs.Knowing.{IsSound}
use Rattle.ode_transact.specs.Errors.{OnDamaged, error_of, fault_of}
use Rattle.ode_transact.specs.declared.error.EngineError.{EngineError}
use Rattle.ode_transact.specs.declared.error.EngineError.TheVariants as engine
use Rattle.ode_value.specs.declared.key.Key.{Key}

abbrev failed : (R : Type 0) → EngineError → Result R EngineError
failed R why = Err why

abbrev stopped : (R : Type 0) → Stop → Result R Stop
stopped R s = Err s

-- what follows from it
pub damaged_so : {R : Type 0} (result : Result R EngineError) (P Q : Type 0) → (P → Q) → OnDamaged result P → OnDamaged result Q
damaged_so (Ok v) P Q so damaged = tt
damaged_so (Err engine.Memory) P Q so damaged = tt
damaged_so (Err engine.DiskFault) P Q so damaged = tt
damaged_so (Err engine.WriteFault) P Q so damaged = tt
damaged_so (Err (engine.Damaged key)) P Q so damaged = so damaged

-- want of memory is none
pub memory_undamaged : {R : Type 0} (result : Result R EngineError) (P : Type 0) → result ≡ Err engine.Memory → OnDamaged result P
memory_undamaged {R} result P is = subst (λ (r : Result R EngineError). OnDamaged r P) (sym is) tt

-- what a stop leaves is sound
pub sound_stop : (R : Type 0) (s : Stop) (context : Type 0) → Leaves (stopped R s) context IsSound → IsSound s
sound_stop R (stop.Abort why) context stays = tt
sound_stop R stop.Memory context stays = tt
sound_stop R stop.DiskFault context stays = stays
sound_stop R (stop.Damaged key) context stays = stays

-- nor is a fault of a context that is sound
by_fault : (R : Type 0) (s : Stop) (P : Type 0) → ((IsSound s → ⊥) → P) → OnDamaged (failed R (fault_of s)) P
by_fault R (stop.Abort why) P so = tt
by_fault R stop.Memory P so = tt
by_fault R stop.DiskFault P so = tt
by_fault R (stop.Damaged key) P so = so (λ none. none)

pub fault_undamaged : (R : Type 0) (why : EngineError) (s : Stop) → why ≡ fault_of s → (P : Type 0) → ((IsSound s → ⊥) → P) → OnDamaged (failed R why) P
fault_undamaged R why s is P so = subst (λ (e : EngineError). OnDamaged (failed R e) P) (sym is) (by_fault R s P so)

-- a batch that leaves no more than each keeper takes isn't too large for one
pub staged_undamaged : (R S : Type 0) (why : HeapError) (holds : Entries → Type 0) (batch : Changes) (most : ℕ) (first : Key) → MAX_PAGED_BYTES ≤ most
    → OnTooLarge {A = S} (Err why) (λ total. (entries : Entries) → holds entries → (total ≡ record_bytes (applied batch entries)) × (most < total))
    → heap_answers.OnDamaged {A = S} (Err why) (λ key. (key ≡ first) × ((entries : Entries) → holds entries → ⊥))
    → OnDamaged (failed R (error_of why)) ((entries : Entries) → holds entries → record_bytes (applied batch entries) ≤ MAX_PAGED_BYTES → ⊥)
staged_undamaged R S heap.Memory holds batch most first roomy large damaged = tt
staged_undamaged R S heap.DiskFault holds batch most first roomy large damaged = tt
staged_undamaged R S (heap.TooLarge total) holds batch most first roomy large damaged =
    λ entries held light. let over = large entries held in absurd (omega (arith, over.0, over.1, roomy, light))
staged_undamaged R S (heap.Damaged key) holds batch most first roomy large damaged = λ entries held light. damaged.1 entries held
