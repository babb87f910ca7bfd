-- One call more in a list of calls: what a stop may leave then.
use Rattle.std.specs.Prelude.{◌≡◌, ◌<◌, ◌≤◌, ℕ, ◌+◌, List, [], ◌∷◌, ◌++◌, length, take, Vec, refl, ◌⊎◌, Result, Ok, Err, OnOk, OnErr}
use Rattle.std.specs.declared.alloc.Global.{Global}
use Rattle.std.proofs.Common.{zero, suc, ◌-◌, sym, ◌∙◌, ap, subst, inl, inr, arith, length-append}
use Rattle.std.proofs.lemmas.List.{take_all, take-append-le, append-nil}
use Rattle.std.proofs.Math.Seq.{take-append-add}
use Rattle.ode_host.specs.Host.{Step, TornWrite, CutPrint, Nothing, written_over}
use Rattle.ode_host.specs.declared.call.Call.{Call}
use Rattle.ode_host.specs.declared.call.Call.TheVariants.{Write, Sync, Begin, End}
use Rattle.ode_host.specs.MemLaws.{IsSound, after_sound, after_all}
use Rattle.ode_host.specs.Replay.{HostState, step, after, first, Leaves, LeftAt, IsTape, Passes}

pub after-append : (calls more : List Call) (s : HostState) → after (calls ++ more) s ≡ after more (after calls s)
after-append [] more s = refl
after-append (call ∷ calls) more s = after-append calls more (step s call)

-- a pair comes of one that s leaves
abbrev pub From : Step → HostState → List ℕ → List ℕ → Type 0
From st s c o = (d : List ℕ) × (e : List ℕ) × Leaves s d e × st d e c o

-- what a stop leaves after one call more
Leaves-write : (s : HostState) (at : ℕ) (bytes : Vec ℕ Global) (c o : List ℕ) → Leaves (step s (Write at bytes)) c o → From (TornWrite at (length bytes.items)) s c o
Leaves-write s at bytes c o left = (left.disk.0, o, record { disk = left.disk.1; printed = left.printed }, (left.disk.2, refl))

Leaves-sync : (s : HostState) → IsSound s → (c o : List ℕ) → Leaves (step s Sync) c o → From Nothing s c o
Leaves-sync s sound c o left = (s.disk.image, o, record { disk = sound; printed = left.printed }, (left.disk, refl))

module _ (start : List ℕ) (calls more : List Call) where
  front_same : (t : ℕ) → t ≤ length calls → after (take t (calls ++ more)) (first start) ≡ after (take t calls) (first start)
  front_same t le = ap (λ (l : List Call). after l (first start)) (take-append-le t calls more le)

  left_keeps : (t : ℕ) (c o : List ℕ) → t ≤ length calls → LeftAt start (calls ++ more) t c o → LeftAt start calls t c o
  left_keeps t c o le left = record { reached = le; leaves = subst (λ (s : HostState). Leaves s c o) (front_same t le) left.leaves }

  left_stays : (t : ℕ) (c o : List ℕ) → t ≤ length calls → LeftAt start calls t c o → LeftAt start (calls ++ more) t c o
  left_stays t c o le left = record {
    reached = omega (arith, le, length-append calls more);
    leaves = subst (λ (s : HostState). Leaves s c o) (sym (front_same t le)) left.leaves;
  }

  abbrev s : HostState
  s = after calls (first start)

  left_now : (c o : List ℕ) → Leaves s c o → LeftAt start calls (length calls) c o
  left_now c o left = record { reached = omega arith; leaves = subst (λ (s : HostState). Leaves s c o) (sym (after_all start calls)) left }

  passes : (st : Step) → ((k : ℕ) (c o : List ℕ) → 0 < k → k ≤ length more → Leaves (after (take k more) s) c o → From st s c o) → Passes st start calls (calls ++ more)
  passes st each = record {
    later = omega (arith, length-append calls more);
    keeps = left_keeps;
    stays = left_stays;
    steps = λ t c o above up_to left.
        let k = t - length calls in
        let is : t ≡ length calls + k = omega arith in
        let within : k ≤ length more = omega (arith, up_to, length-append calls more) in
        let taken : take t (calls ++ more) ≡ calls ++ take k more = ap (λ (n : ℕ). take n (calls ++ more)) is ∙ take-append-add calls more k in
        let then : after (take t (calls ++ more)) (first start) ≡ after (take k more) s = ap (λ (l : List Call). after l (first start)) taken ∙ after-append calls (take k more) (first start) in
        let from = each k c o (omega arith) within (subst (λ (s : HostState). Leaves s c o) then left.leaves) in
        (from.0, from.1, left_now from.0 from.1 from.2, from.3);
  }

pub passes_write : (start : List ℕ) (calls : List Call) (at : ℕ) (bytes : Vec ℕ Global) → Passes (TornWrite at (length bytes.items)) start calls (calls ++ Write at bytes ∷ [])
passes_write start calls at bytes = passes start calls (Write at bytes ∷ []) (TornWrite at (length bytes.items)) each
  where
    each : (k : ℕ) (c o : List ℕ) → 0 < k → k ≤ 1 → Leaves (after (take k (Write at bytes ∷ [])) (after calls (first start))) c o → From (TornWrite at (length bytes.items)) (after calls (first start)) c o
    each zero c o above up_to left = absurd (omega arith)
    each (suc zero) c o above up_to left = Leaves-write (after calls (first start)) at bytes c o left
    each (suc (suc k)) c o above up_to left = absurd (omega arith)

pub passes_sync : (start : List ℕ) (calls : List Call) → Passes Nothing start calls (calls ++ Sync ∷ [])
passes_sync start calls = passes start calls (Sync ∷ []) Nothing each
  where
    each : (k : ℕ) (c o : List ℕ) → 0 < k → k ≤ 1 → Leaves (after (take k (Sync ∷ [])) (after calls (first start))) c o → From Nothing (after calls (first start)) c o
    each zero c o above up_to left = absurd (omega arith)
    each (suc zero) c o above up_to left = Leaves-sync (after calls (first start)) (after_sound calls (first start) refl) c o left
    each (suc (suc k)) c o above up_to left = absurd (omega arith)

-- a print, while it goes on and when it is done
pub passes_print : (start : List ℕ) (calls : List Call) (piece : Vec ℕ Global) → Passes (CutPrint piece.items) start calls (calls ++ Begin piece ∷ End ∷ [])
passes_print start calls piece = passes start calls (Begin piece ∷ End ∷ []) (CutPrint piece.items) each
  where
    each : (k : ℕ) (c o : List ℕ) → 0 < k → k ≤ 2 → Leaves (after (take k (Begin piece ∷ End ∷ [])) (after calls (first start))) c o → From (CutPrint piece.items) (after calls (first start)) c o
    each zero c o above up_to left = absurd (omega arith)
    each (suc zero) c o above up_to left =
        let s = after calls (first start) in
        (c, s.text, record { disk = left.disk; printed = (0, sym (append-nil s.text)) }, (refl, left.printed.0, left.printed.1))
    each (suc (suc zero)) c o above up_to left =
        let s = after calls (first start) in
        let none : take left.printed.0 [] ≡ [] = take_all {A = ℕ} left.printed.0 [] (omega arith) in
        let all : o ≡ s.text ++ piece.items = left.printed.1 ∙ ap (λ (l : List ℕ). s.text ++ piece.items ++ l) none ∙ append-nil (s.text ++ piece.items) in (
          c,
          s.text,
          record { disk = left.disk; printed = (0, sym (append-nil s.text)) },
          (refl, length piece.items, all ∙ ap (λ (l : List ℕ). s.text ++ l) (sym (take_all (length piece.items) piece.items (omega arith)))),
        )
    each (suc (suc (suc k))) c o above up_to left = absurd (omega arith)

pub passes_to : (st : Step) (start : List ℕ) (old new more : List Call) → new ≡ more → Passes st start old more → Passes st start old new
passes_to st start old new more is run = subst (λ (l : List Call). Passes st start old l) (sym is) run

-- the state that one call more leads to
pub after_push : (start : List ℕ) (calls new : List Call) (call : Call) → new ≡ calls ++ call ∷ [] → after new (first start) ≡ step (after calls (first start)) call
after_push start calls new call is = ap (λ (l : List Call). after l (first start)) is ∙ after-append calls (call ∷ []) (first start)

pub after_print : (start : List ℕ) (calls new : List Call) (piece : Vec ℕ Global) → new ≡ calls ++ Begin piece ∷ End ∷ [] → after new (first start) ≡ step (step (after calls (first start)) (Begin piece)) End
after_print start calls new piece is = ap (λ (l : List Call). after l (first start)) is ∙ after-append calls (Begin piece ∷ End ∷ []) (first start)

-- how what a tape keeps true goes on with each call
pub tape_write : (start image text from next : List ℕ) (calls new : List Call) (at : ℕ) (bytes : Vec ℕ Global) → IsTape start image text calls
    → bytes.items ≡ from → new ≡ calls ++ Write at bytes ∷ [] → next ≡ written_over image at from → IsTape start next text new
tape_write start image text from next calls new at bytes is same more written =
    let then = after_push start calls new (Write at bytes) more in
    record {
      reads = written ∙ ap (λ (l : List ℕ). written_over l at from) is.reads ∙ ap (λ (l : List ℕ). written_over (after calls (first start)).disk.image at l) (sym same) ∙ sym (ap (λ (s : HostState). s.disk.image) then);
      prints = is.prints ∙ sym (ap (λ (s : HostState). s.text) then);
      rests = ap (λ (s : HostState). s.printing) then ∙ is.rests;
    }

pub tape_sync : (start image text : List ℕ) (calls new : List Call) → IsTape start image text calls → new ≡ calls ++ Sync ∷ [] → IsTape start image text new
tape_sync start image text calls new is more =
    let then = after_push start calls new Sync more in
    record {
      reads = is.reads ∙ sym (ap (λ (s : HostState). s.disk.image) then);
      prints = is.prints ∙ sym (ap (λ (s : HostState). s.text) then);
      rests = ap (λ (s : HostState). s.printing) then ∙ is.rests;
    }

pub tape_print : (start image text next from : List ℕ) (calls new : List Call) (piece : Vec ℕ Global) → IsTape start image text calls
    → piece.items ≡ from → new ≡ calls ++ Begin piece ∷ End ∷ [] → next ≡ text ++ from → IsTape start image next new
tape_print start image text next from calls new piece is same more said =
    let then = after_print start calls new piece more in
    record {
      reads = is.reads ∙ sym (ap (λ (s : HostState). s.disk.image) then);
      prints = said ∙ ap (λ (l : List ℕ). l ++ from) is.prints ∙ ap (λ (l : List ℕ). (after calls (first start)).text ++ l) (sym same) ∙ sym (ap (λ (s : HostState). s.text) then);
      rests = ap (λ (s : HostState). s.printing) then;
    }

pub tape_same : (start image text next : List ℕ) (calls new : List Call) → IsTape start image text calls → new ≡ calls → next ≡ image → IsTape start next text new
tape_same start image text next calls new is same_calls same_image =
    subst (λ (l : List Call). IsTape start next text l) (sym same_calls) (subst (λ (l : List ℕ). IsTape start l text calls) (sym same_image) is)

-- after a sync a stop leaves what a read gives
pub tape_synced : (start image text : List ℕ) (calls new : List Call) → IsTape start image text calls → new ≡ calls ++ Sync ∷ [] → (c o : List ℕ) → LeftAt start new (length new) c o → c ≡ image
tape_synced start image text calls new is more c o left =
    let now = subst (λ (s : HostState). Leaves s c o) (after_all start new ∙ after_push start calls new Sync more) left.leaves in
    now.disk ∙ sym is.reads

pub ok_or_err : {T E A B : Type 0} (r : Result T E) → OnOk r A → OnErr r B → A ⊎ B
ok_or_err (Ok x) a b = inl a
ok_or_err (Err e) a b = inr b
