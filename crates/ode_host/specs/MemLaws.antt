-- The laws of a host, of a host in memory.
use Rattle.std.specs.Prelude.{◌≡◌, ℕ, List, [], ◌∷◌, ◌++◌, length, take, Some, refl}
use Rattle.std.proofs.Common.{ap, sym, subst, ◌∙◌, arith}
use Rattle.std.proofs.lemmas.List.{take_all, append-nil}
use Rattle.ode_host.specs.declared.call.Call.{Call}
use Rattle.ode_host.specs.declared.call.Call.TheVariants.{Write, Sync, Begin, End}
use Rattle.ode_host.specs.declared.mem_host.MemHost.{MemHost}
use Rattle.ode_host.specs.Disk.{MayHold}
use Rattle.ode_host.specs.Host.{Tells}
use Rattle.ode_host.specs.Mem.{mem_view, image_of, text_of}
use Rattle.ode_host.specs.Replay.{HostState, step, after, first, Leaves, LeftAt, IsTape}
use Rattle.ode_host.specs.Writing.{written-torn}

-- the image as it reads is one that a stop may leave
abbrev pub IsSound : HostState → Type 0
IsSound s = MayHold s.disk.synced s.disk.pending s.disk.image

step_sound : (call : Call) (s : HostState) → IsSound s → IsSound (step s call)
step_sound (Write at bytes) s sound = (s.disk.image, sound, written-torn at bytes.items s.disk.image)
step_sound Sync s sound = refl
step_sound (Begin piece) s sound = sound
step_sound End s sound = sound

pub after_sound : (calls : List Call) (s : HostState) → IsSound s → IsSound (after calls s)
after_sound [] s sound = sound
after_sound (call ∷ calls) s sound = after_sound calls (step s call) (step_sound call s sound)

-- after all of the calls
pub after_all : (start : List ℕ) (calls : List Call) → after (take (length calls) calls) (first start) ≡ after calls (first start)
after_all start calls = ap (λ (l : List Call). after l (first start)) (take_all (length calls) calls (omega arith))

module _ (start image text : List ℕ) (calls : List Call) (is : IsTape start image text calls) where
  abbrev s : HostState
  s = after calls (first start)

  -- what a stop now leaves printed is what was printed
  pub tape_text : (c o : List ℕ) → LeftAt start calls (length calls) c o → text ≡ o
  tape_text c o left =
      let now = subst (λ (s : HostState). Leaves s c o) (after_all start calls) left.leaves in
      let none : take now.printed.0 s.printing ≡ [] = ap (λ (l : List ℕ). take now.printed.0 l) is.rests ∙ take_all {A = ℕ} now.printed.0 [] (omega arith) in
      is.prints ∙ sym (now.printed.1 ∙ ap (λ (l : List ℕ). s.text ++ l) none ∙ append-nil s.text)

  -- it may leave the disk as it reads
  pub tape_stays : LeftAt start calls (length calls) image text
  tape_stays =
      let now : Leaves s image text = record {
        disk = subst (λ (l : List ℕ). MayHold s.disk.synced s.disk.pending l) (sym is.reads) (after_sound calls (first start) refl);
        printed = (0, is.prints ∙ sym (append-nil s.text));
      } in
      record { reached = omega arith; leaves = subst (λ (s : HostState). Leaves s image text) (sym (after_all start calls)) now }

pub text_law : (m : MemHost) (c o : List ℕ) → LeftAt m.tape.start.items m.tape.calls.items (length m.tape.calls.items) c o → Some (text_of m) ≡ Some o
text_law m c o left = ap Some (tape_text m.tape.start.items (image_of m) (text_of m) m.tape.calls.items m.tape.kept c o left)

pub stays_law : (m : MemHost) (file text : List ℕ) → Tells (mem_view m) file → Some (text_of m) ≡ Some text
    → LeftAt m.tape.start.items m.tape.calls.items (length m.tape.calls.items) file text
stays_law m file text tells said =
    let image : image_of m ≡ file = cc (tells.image) in
    let out : text_of m ≡ text = cc (said) in
    let now = tape_stays m.tape.start.items (image_of m) (text_of m) m.tape.calls.items m.tape.kept in
    subst (λ (l : List ℕ). LeftAt m.tape.start.items m.tape.calls.items (length m.tape.calls.items) l text) image
    (subst (λ (l : List ℕ). LeftAt m.tape.start.items m.tape.calls.items (length m.tape.calls.items) (image_of m) l) out now)
