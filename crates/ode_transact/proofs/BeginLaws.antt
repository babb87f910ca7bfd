-- A transaction begins over records that hold a world.
use Rattle.std.proofs.Common.{◌≡◌, ◌∙◌, ◌<◌, ◌≤◌, ◌^◌, ℕ, List, ◌∷◌, length, ◌-◌, Bool, true, false, Option, Some, None, Result, Ok, Err, pos, arith, cond, ap, refl, subst, sym}
use Rattle.std.specs.Prelude.{IfErr, is_some}
use Rattle.std.specs.Option.{option_map_or}
use Rattle.ode_codec.specs.Rules.{IsClock, IsKeptCounters}
use Rattle.ode_codec.specs.declared.record.Counters.{Counters}
use Rattle.ode_heap.specs.Answering.{counters_of}
use Rattle.ode_heap.specs.Answers.{Answers, Found, There}
use Rattle.ode_heap.specs.Staging.{OnTooLarge}
use Rattle.ode_heap.specs.declared.error.HeapError.{HeapError}
use Rattle.ode_heap.specs.declared.error.HeapError.TheVariants as heap
use Rattle.ode_heap_laws.specs.Few.{HoldsCounted}
use Rattle.ode_keep.specs.Entries.{Entries}
use Rattle.ode_overlay.specs.Layers as layers
use Rattle.ode_overlay.specs.declared.origin.Origin.{Origin}
use Rattle.ode_overlay.specs.declared.origin.Origin.TheVariants as from
use Rattle.ode_overlay_laws.specs.Standing.{origin_as}
use Rattle.ode_transact.specs.Beginning.{comes_from_entry}
use Rattle.ode_transact.specs.Errors.{OnDamaged, error_of}
use Rattle.ode_transact.specs.Working.{IsFromFront}
use Rattle.ode_transact.specs.declared.error.EngineError.{EngineError}
use Rattle.ode_transact.specs.declared.error.EngineError.TheVariants as engine
use Rattle.ode_value.specs.GoodWorlds.{IsGood}
use Rattle.ode_value.specs.Language.{Language, ListWorld}
use Rattle.ode_value.specs.Limits.{number_limit, queue_limit, transaction_limit}
use Rattle.ode_value.specs.Posting.{waiting}
use Rattle.ode_value.specs.Transactions.{Queue}
use Rattle.ode_value.specs.Worlds.{Bones, Entry, Position}
use Rattle.ode_value.specs.declared.key.Key.{Key}
use Rattle.ode_view_laws.specs.Viewing.{began_over}

-- while the front entry of a good world's queue runs, those behind it wait
abbrev pub Fronts : Type 0
Fronts = (l : Language) (w : ListWorld) → IsGood l w → (q : ℕ × Entry) (more : List (ℕ × Entry)) (generation : ℕ) → w.bones.queue ≡ q ∷ more → waiting (Queue q.0 generation) w.bones.queue ≡ more

one_less : (queue more : List (ℕ × Entry)) (q : ℕ × Entry) → queue ≡ q ∷ more → length queue - 1 ≡ length more
one_less queue more q is = let same : length queue ≡ length (q ∷ more) = ap (λ (es : List (ℕ × Entry)). length es) is in omega (arith, same)

-- so many wait
pub waits_are : (l : Language) (w : ListWorld) → IsGood l w → Fronts → (origin : Origin) → IsFromFront origin w
    → cond (comes_from_entry origin) (length w.bones.queue - 1) (length w.bones.queue) ≡ length (waiting (origin_as origin) w.bones.queue)
waits_are l w good fronts from.Script front = refl
waits_are l w good fronts (from.Entry number generation) front =
    one_less w.bones.queue front.1 (number, front.0) front.2 ∙ sym (ap (λ (es : List (ℕ × Entry)). length es) (fronts l w good (number, front.0) front.1 generation front.2))
waits_are l w good fronts (from.Tick instant object place) front = refl
waits_are l w good fronts (from.Move instant) front = refl

-- ---- the overlay

-- its counters and its entries are those of the world
pub began : (l : Language) (entries : Entries) (w : ListWorld) (held : HoldsCounted l entries w) (origin : Origin) (counters : Counters) (queued : ℕ) → counters ≡ counters_of w.bones → queued ≡ length w.bones.queue → Fronts
    → IsFromFront origin w → layers.begun counters (cond (comes_from_entry origin) (queued - 1) queued) origin ≡ began_over origin held.world.stored.world
began l entries w held origin counters queued same_counters same_queue fronts front =
    ap (λ (c : Counters). layers.begun c (cond (comes_from_entry origin) (queued - 1) queued) origin) same_counters
    ∙ ap (λ (n : ℕ). layers.begun (counters_of w.bones) (cond (comes_from_entry origin) (n - 1) n) origin) same_queue
    ∙ ap (λ (n : ℕ). layers.begun (counters_of w.bones) n origin) (waits_are l w held.world.good fronts origin front)
    ∙ ap (λ (b : Bones). layers.begun (counters_of b) (length (waiting (origin_as origin) b.queue)) origin) (sym held.world.stands.bones)

-- those of a good world are kept
clock_is : (c : Option Position) → IsClock (is_some c) (option_map_or (λ (p : Position). p.instant) c (pos 0)) (option_map_or (λ (p : Position). p.object) c 0) (option_map_or (λ (p : Position). p.place) c 0)
clock_is None = (refl, refl, refl)
clock_is (Some p) = tt

counters_are_kept : (l : Language) (w : ListWorld) → IsGood l w → IsKeptCounters (counters_of w.bones)
counters_are_kept l w good = record {
  next_number = (good.bones.next.some, good.bones.next.bounded);
  next_transaction = (good.bones.transaction.some, good.bones.transaction.bounded);
  next_entry = (good.bones.next_entry.some, good.bones.next_entry.bounded);
  clock = clock_is w.bones.clock;
}

no_more : (b : Bool) (n : ℕ) → n ≤ queue_limit → cond b (n - 1) n ≤ queue_limit
no_more true n few = let less : n - 1 ≤ n = omega arith in let most : n ≤ queue_limit = few in omega (arith, less, most)
no_more false n few = few

-- over it no transaction is refused, where a number is left
pub not_refused : (l : Language) (w : ListWorld) (origin : Origin) (counters : Counters) (queued : ℕ) → IsGood l w → counters ≡ counters_of w.bones → queued ≡ length w.bones.queue → w.bones.transaction < transaction_limit
    → (IsKeptCounters counters → counters.next_transaction < transaction_limit → cond (comes_from_entry origin) (queued - 1) queued ≤ queue_limit → ⊥) → ⊥
not_refused l w origin counters queued good same_counters same_queue left refused =
    refused (subst IsKeptCounters (sym same_counters) (counters_are_kept l w good)) (subst (λ (c : Counters). c.next_transaction < transaction_limit) (sym same_counters) left)
    (subst (λ (n : ℕ). cond (comes_from_entry origin) (n - 1) n ≤ queue_limit) (sym same_queue) (no_more (comes_from_entry origin) (length w.bones.queue) good.bones.few))

-- where one is left for an entry of the queue, one is left
pub still_left : (number : ℕ) → number < number_limit → number < transaction_limit
still_left number left = let below : number < 2 ^ 62 = left in omega (arith, below)

-- ---- errors

abbrev failed : (R : Type 0) → EngineError → Result R EngineError
failed R why = Err why

abbrev missed : (R : Type 0) → HeapError → Result R HeapError
missed R why = Err why

-- a refusal is damage
pub damage_at : {R : Type 0} (result : Result R EngineError) (key : Key) (P Q : Type 0) → (Q → P) → IfErr result (λ why. why ≡ engine.Damaged key) → IfErr result (λ why. Q) → OnDamaged result P
damage_at (Ok v) key P Q so at refused = tt
damage_at (Err engine.Memory) key P Q so at refused = tt
damage_at (Err engine.DiskFault) key P Q so at refused = tt
damage_at (Err engine.WriteFault) key P Q so at refused = tt
damage_at (Err (engine.Damaged k)) key P Q so at refused = so refused

damaged_so : (R S : Type 0) (why : EngineError) (P Q : Type 0) → (P → Q) → OnDamaged (failed R why) P → OnDamaged (failed S why) Q
damaged_so R S engine.Memory P Q so damaged = tt
damaged_so R S engine.DiskFault P Q so damaged = tt
damaged_so R S engine.WriteFault P Q so damaged = tt
damaged_so R S (engine.Damaged key) P Q so damaged = so damaged

-- damage on the way
pub damaged_before : (R S : Type 0) (result : Result S EngineError) (why : EngineError) → result ≡ Err why → (P Q : Type 0) → (P → Q) → OnDamaged (failed R why) P → OnDamaged result Q
damaged_before R S result why is P Q so damaged = subst (λ (r : Result S EngineError). OnDamaged r Q) (sym is) (damaged_so R S why P Q so damaged)

-- what is there isn't damaged
heap_undamaged : (R S : Type 0) (why : HeapError) (P : Type 0) → OnTooLarge (missed R why) (λ total. ⊥) → ((key : Key) → why ≡ heap.Damaged key → P) → OnDamaged (failed S (error_of why)) P
heap_undamaged R S heap.Memory P large broken = tt
heap_undamaged R S heap.DiskFault P large broken = tt
heap_undamaged R S (heap.TooLarge total) P large broken = absurd large
heap_undamaged R S (heap.Damaged key) P large broken = broken key refl

pub undamaged_there : (R S : Type 0) (result : Result S EngineError) (why : HeapError) → result ≡ Err (error_of why) → (P : Type 0) → OnTooLarge (missed R why) (λ total. ⊥) → ((key : Key) → why ≡ heap.Damaged key → P) → OnDamaged result P
undamaged_there R S result why is P large broken = subst (λ (r : Result S EngineError). OnDamaged r P) (sym is) (heap_undamaged R S why P large broken)

pub there_unbroken : {R : Type 0} (result : Result R HeapError) (found : Found R) (v : R) (key : Key) → Answers result found → found ≡ There v → result ≡ Err (heap.Damaged key) → ⊥
there_unbroken (Ok x) found v key answers there is = cc is
there_unbroken (Err heap.Memory) found v key answers there is = cc is
there_unbroken (Err heap.DiskFault) found v key answers there is = cc is
there_unbroken (Err (heap.TooLarge total)) found v key answers there is = answers
there_unbroken (Err (heap.Damaged k)) found v key answers there is = cc (answers, there)

-- what is answered is what is there
pub there_is : {R : Type 0} (v : R) (found : Found R) (value : R) → Answers (Ok v) found → found ≡ There value → v ≡ value
there_is v found value answers there = cc (answers, there)
