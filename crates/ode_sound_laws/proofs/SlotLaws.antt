-- Locals and the slots that hold them.
use Rattle.std.proofs.Common.{◌≡◌, ℕ, zero, suc, ◌<◌, Bool, true, false, List, [], ◌∷◌, ◌++◌, length, replicate, ◌==◌, Option, Some, None, refl, sym, ap, ◌∙◌, subst, arith, append-nil, append_assoc, ◌⊎◌, inl, inr}
use Rattle.std.specs.Prelude.{slice_get}
use Rattle.std.specs.Option.{IsSomeAnd}
use Rattle.std.proofs.lemmas.Bool.{eqb-true, eq-eqb, true≢false}
use Rattle.std.proofs.lemmas.Option.{slice_get_within}
use Rattle.ode_value.specs.declared.statement.Sort.{Sort}
use Rattle.ode_value.specs.declared.value.Value.{Value}
use Rattle.ode_value.specs.Evaluation.{Frame, set_at}
use Rattle.ode_value.specs.Worlds.{Bones}
use Rattle.ode_sound_laws.specs.Fits.{Fits, FitSlots, FitsFrame}
use Rattle.ode_types.specs.Kept.{Setting, with_slots}
use Rattle.ode_sound_laws.proofs.Basics.{some_and, and_some, same_some}

set_same : (n : ℕ) (v : Value) (l : List Value) → slice_get (set_at n v l) n ≡ Some v
set_same zero v [] = refl
set_same zero v (w ∷ ws) = refl
set_same (suc n) v [] = set_same n v []
set_same (suc n) v (w ∷ ws) = set_same n v ws

set_other : (n m : ℕ) (v w : Value) (l : List Value) → (n ≡ m → ⊥) → slice_get l m ≡ Some w → slice_get (set_at n v l) m ≡ Some w
set_other n m v w [] other e = absurd (cc)
set_other zero zero v w (u ∷ us) other e = absurd (other refl)
set_other zero (suc m) v w (u ∷ us) other e = e
set_other (suc n) zero v w (u ∷ us) other e = e
set_other (suc n) (suc m) v w (u ∷ us) other e = set_other n m v w us (λ same. other (ap suc same)) e

-- a list that begins with another
pub record IsPrefix (xs ys : List (Option Sort)) : Type 0 where
  pub more : List (Option Sort)
  pub is : ys ≡ xs ++ more

pub prefix_itself : (xs : List (Option Sort)) → IsPrefix xs xs
prefix_itself xs = record { more = []; is = sym (append-nil xs) }

pub prefix_on : (xs ys zs : List (Option Sort)) → IsPrefix xs ys → IsPrefix ys zs → IsPrefix xs zs
prefix_on xs ys zs p q = record { more = p.more ++ q.more; is = q.is ∙ ap (λ l. l ++ q.more) p.is ∙ append_assoc xs p.more q.more }

pub get_left : (xs ys : List (Option Sort)) (p : ℕ) (s : Option Sort) → slice_get xs p ≡ Some s → slice_get (xs ++ ys) p ≡ Some s
get_left [] ys p s e = absurd (cc)
get_left (x ∷ xs) ys zero s e = e
get_left (x ∷ xs) ys (suc p) s e = get_left xs ys p s e

no_some : (n p : ℕ) (s : Sort) → slice_get (replicate n None) p ≡ Some (Some s) → ⊥
no_some zero p s e = cc
no_some (suc n) zero s e = cc
no_some (suc n) (suc p) s e = no_some n p s e

append_some : (xs ys : List (Option Sort)) (p : ℕ) (s : Sort) → slice_get (xs ++ ys) p ≡ Some (Some s) → ((q : ℕ) (t : Sort) → slice_get ys q ≡ Some (Some t) → ⊥) → slice_get xs p ≡ Some (Some s)
append_some [] ys p s e none = absurd (none p s e)
append_some (x ∷ xs) ys zero s e none = e
append_some (x ∷ xs) ys (suc p) s e none = append_some xs ys p s e none

-- behind a body only what was there before it is read
pub narrow : (b : Bones) (xs m : List (Option Sort)) (n : ℕ) (locals : List Value) → IsPrefix xs m → FitSlots b m locals → FitSlots b (xs ++ replicate n None) locals
narrow b xs m n locals prefix fits place s e =
    fits place s (subst (λ l. slice_get l place ≡ Some (Some s)) (sym prefix.is) (get_left xs prefix.more place (Some s) (append_some xs (replicate n None) place s e (no_some n))))

last_or : (xs : List (Option Sort)) (y z : Option Sort) (p : ℕ) → slice_get (xs ++ y ∷ []) p ≡ Some z → (slice_get xs p ≡ Some z) ⊎ ((p ≡ length xs) × (y ≡ z))
last_or [] y z zero e = inr (refl, same_some y z e)
last_or [] y z (suc p) e = absurd (cc)
last_or (x ∷ xs) y z zero e = inl e
last_or (x ∷ xs) y z (suc p) e = by_rest (last_or xs y z p e) where
  by_rest : (slice_get xs p ≡ Some z) ⊎ ((p ≡ length xs) × (y ≡ z)) → (slice_get xs p ≡ Some z) ⊎ ((suc p ≡ length (x ∷ xs)) × (y ≡ z))
  by_rest (inl f) = inl f
  by_rest (inr f) = inr (ap suc f.0, f.1)

-- a local is made
pub new_slots : (b : Bones) (slots : List (Option Sort)) (locals : List Value) (s : Sort) (v : Value) → Fits b (Some s) v → FitSlots b slots locals → FitSlots b (slots ++ Some s ∷ []) (set_at (length slots) v locals)
new_slots b slots locals s v is fits place t e = by_place (last_or slots (Some s) (Some t) place e) where
  by_place : (slice_get slots place ≡ Some (Some t)) ⊎ ((place ≡ length slots) × (Some s ≡ Some t)) → IsSomeAnd (slice_get (set_at (length slots) v locals) place) (Fits b (Some t))
  by_place (inl f) =
      let old = some_and (Fits b (Some t)) (slice_get locals place) (fits place t f) in
      let less : place < length slots = slice_get_within slots place (Some t) f in
      and_some (Fits b (Some t)) (slice_get (set_at (length slots) v locals) place) old.0 (set_other (length slots) place v old.0 locals (λ same. omega arith) old.1) old.2
  by_place (inr f) =
      and_some (Fits b (Some t)) (slice_get (set_at (length slots) v locals) place) v (ap (slice_get (set_at (length slots) v locals)) f.0 ∙ set_same (length slots) v locals)
      (subst (λ u. Fits b u v) f.1 is)

apart : (n m : ℕ) → n ≡ m → (n == m) ≡ false → ⊥
apart n m same e = true≢false (sym (eq-eqb n m same) ∙ e)

-- a local is set
pub set_slots : (b : Bones) (slots : List (Option Sort)) (locals : List Value) (n : ℕ) (s : Sort) (v : Value) → slice_get slots n ≡ Some (Some s) → Fits b (Some s) v → FitSlots b slots locals → FitSlots b slots (set_at n v locals)
set_slots b slots locals n s v slot is fits place t e = by_test (n == place) refl where
  by_test : (c : Bool) → (n == place) ≡ c → IsSomeAnd (slice_get (set_at n v locals) place) (Fits b (Some t))
  by_test true f =
      let same : n ≡ place = eqb-true n place f in
      let sorts : s ≡ t = same_some s t (same_some (Some s) (Some t) (sym slot ∙ ap (slice_get slots) same ∙ e)) in
      and_some (Fits b (Some t)) (slice_get (set_at n v locals) place) v (ap (slice_get (set_at n v locals)) (sym same) ∙ set_same n v locals) (subst (λ u. Fits b (Some u) v) sorts is)
  by_test false f =
      let old = some_and (Fits b (Some t)) (slice_get locals place) (fits place t e) in
      and_some (Fits b (Some t)) (slice_get (set_at n v locals) place) old.0 (set_other n place v old.0 locals (λ same. absurd (apart n place same f)) old.1) old.2

-- a frame with other slots
pub with_frame : (b : Bones) (at : Setting) (slots others : List (Option Sort)) (frame : Frame) (locals : List Value) → FitsFrame b (with_slots slots at) frame → FitSlots b others locals → FitsFrame b (with_slots others at) (record frame { locals = locals })
with_frame b at slots others frame locals h fits = record { classes = h.classes; known = h.known; this = h.this; slots = fits; literals = h.literals }
