-- The line from a class up, step by step, and the same from the farthest ancestor down.
use Rattle.std.proofs.Common.{◌≡◌, ◌≤◌, ◌<◌, ℕ, zero, suc, ◌+◌, ◌-◌, List, [], ◌∷◌, ◌++◌, length, reverse, take, Bool, true, false, cond, Option, Some, None, refl, ap, sym, ◌∙◌, arith}
use Rattle.std.specs.Prelude.{◌==◌, slice_get}
use Rattle.std.specs.Option.{unwrap_or}
use Rattle.std.proofs.Math.Seq.{take-length}
use Rattle.std.proofs.lemmas.List.{append-nil, length-reverse, reverse-append}
use Rattle.std.proofs.lemmas.Option.{slice_get_within}
use Rattle.ode_value.specs.declared.class.Class.{Class}
use Rattle.ode_types.specs.Checked.{AreChecked}
use Rattle.ode_types.specs.Families.{class_numbered, line_of, upward}
use Rattle.ode_types.proofs.LineLaws.{upward-above, upward-from, upward-zero}
use Rattle.ode_types.proofs.Places.{numbered-at}
use Rattle.ode_schema.specs.Cursors.{headed}
use Rattle.ode_schema.proofs.Placed.{are_numbered, at_place, before, few_triggers, place_of}

-- past the end of a list
past : {X : Type 0} (xs : List X) (k : ℕ) → slice_get xs k ≡ None → length xs ≤ k
past [] k h = omega arith
past (x ∷ xs) zero h = absurd (cc)
past (x ∷ xs) (suc k) h = let rest : length xs ≤ k = past xs k h in omega arith

-- a line is no longer than the list
shorter : (b : Bool) (n m : ℕ) (c : Class) (up rest : List Class) → length up ≤ n → length rest ≤ n → length (cond b (c ∷ up) rest) ≤ suc n
shorter true n m c up rest less more = omega arith
shorter false n m c up rest less more = omega arith

upward_short : (n : ℕ) (cs : List Class) → length (upward n cs) ≤ length cs
upward_short n [] = omega arith
upward_short n (c ∷ cs) = shorter (c.number == n) (length cs) n c (upward (unwrap_or c.parent 0) cs) (upward n cs) (upward_short (unwrap_or c.parent 0) cs) (upward_short n cs)

module _ (cs : List Class) (checked : AreChecked cs) where
  -- a line is the same among the first of the classes, where they go up to its number
  pub same_line : (n k l : ℕ) → n ≤ k → n ≤ l → upward n (reverse (take k cs)) ≡ upward n (reverse (take l cs))
  same_line zero k l lk ll = upward-zero cs (are_numbered cs checked) k ∙ sym (upward-zero cs (are_numbered cs checked) l)
  same_line (suc p) k l lk ll =
      upward-from cs (are_numbered cs checked) k p (slice_get cs p) refl (omega arith) ∙ sym (upward-from cs (are_numbered cs checked) l p (slice_get cs p) refl (omega arith))

  whole : (n : ℕ) → upward n (reverse cs) ≡ upward n (reverse (take (length cs) cs))
  whole n = ap (λ (l : List Class). upward n (reverse l)) (sym (take-length cs))

  -- a line among those up to its number is the line among all
  pub line_below : (n k : ℕ) → n ≤ k → k ≤ length cs → upward n (reverse (take k cs)) ≡ upward n (reverse cs)
  line_below n k less few = same_line n k (length cs) less (omega arith) ∙ sym (whole n)

  pub line_ends : (n : ℕ) → class_numbered cs n ≡ None → upward n (reverse cs) ≡ []
  line_ends zero found = whole 0 ∙ upward-zero cs (are_numbered cs checked) (length cs)
  line_ends (suc p) found =
      let none : slice_get cs p ≡ None = numbered-at cs (suc p) p (are_numbered cs checked) (omega arith) (omega arith) ∙ found in
      whole (suc p) ∙ upward-above cs (are_numbered cs checked) (length cs) p (past cs p none)

  pub line_goes : (n : ℕ) (c : Class) → class_numbered cs n ≡ Some c → upward n (reverse cs) ≡ c ∷ upward (unwrap_or c.parent 0) (reverse cs)
  line_goes n c found =
      let at = place_of cs checked n c found in
      let p = at.0 in
      let within : p < length cs = slice_get_within cs p c at.2 in
      let behind = at_place cs checked p c at.2 in
      let low : unwrap_or c.parent 0 ≤ p = omega (arith, behind.parent, before cs checked p c at.2) in
      ap (λ m. upward m (reverse cs)) at.1 ∙ whole (suc p)
      ∙ upward-from cs (are_numbered cs checked) (length cs) p (Some c) at.2 within
      ∙ ap (λ (l : List Class). c ∷ l) (line_below (unwrap_or c.parent 0) p low (omega arith))

  -- the line of a class, behind those that are known
  pub line_known : (n : ℕ) (c : Class) (known : List Class) → known ≡ cs ++ [] → class_numbered cs n ≡ Some c → line_of known c ≡ upward n (reverse cs)
  line_known n c known is found = ap (λ (l : List Class). line_of l c) (is ∙ append-nil cs) ∙ sym (line_goes n c found)

  pub line_short : (n : ℕ) → length (upward n (reverse cs)) ≤ length cs
  line_short n = let short : length (upward n (reverse cs)) ≤ length (reverse cs) = upward_short n (reverse cs) in omega (arith, short, length-reverse cs)

-- ---- from the farthest ancestor down

-- one more of the first of a list, from its end
pub down_goes : {X : Type 0} (l : List X) (k : ℕ) (x : X) → slice_get l k ≡ Some x → reverse (take (suc k) l) ≡ x ∷ reverse (take k l)
down_goes l k x at = ap reverse (more l k x at) ∙ reverse-append (take k l) (x ∷ []) where
  more : {X : Type 0} (l : List X) (k : ℕ) (x : X) → slice_get l k ≡ Some x → take (suc k) l ≡ take k l ++ x ∷ []
  more [] k x at = absurd (cc)
  more (y ∷ l) zero x at = let same : y ≡ x = cc in ap (λ z. z ∷ []) same
  more (y ∷ l) (suc k) x at = ap (λ m. y ∷ m) (more l k x at)

pub down_by : {X : Type 0} (l : List X) (k : ℕ) (o : Option X) → slice_get l k ≡ o → k < length l → reverse (take (suc k) l) ≡ headed o (reverse (take k l))
down_by l k None at within = let less : length l ≤ k = past l k at in absurd (omega arith)
down_by l k (Some x) at within = down_goes l k x at

-- the element that heads a list
head_at : {X : Type 0} (o : Option X) (rest : List X) → slice_get (headed o rest) 0 ≡ o
head_at None rest = refl
head_at (Some x) rest = refl

-- ---- some classes passed

module _ {X : Type 0} (xs ys : List X) where
  pub nth_ends : (at passed : ℕ) → ((m : ℕ) → slice_get xs (passed + m) ≡ slice_get ys m) → ys ≡ [] → passed < at → slice_get xs at ≡ None
  nth_ends at passed rest none less =
      let m : ℕ = at - passed in
      let whole : at ≡ passed + m = omega arith in
      ap (slice_get xs) whole ∙ rest m ∙ ap (λ (l : List X). slice_get l m) none

  pub nth_goes : (zs : List X) (x : X) (passed : ℕ) → ((m : ℕ) → slice_get xs (passed + m) ≡ slice_get ys m) → ys ≡ x ∷ zs → (m : ℕ) → slice_get xs (passed + 1 + m) ≡ slice_get zs m
  nth_goes zs x passed rest is m =
      let next : passed + 1 + m ≡ passed + suc m = omega arith in
      ap (slice_get xs) next ∙ rest (suc m) ∙ ap (λ (l : List X). slice_get l (suc m)) is

  pub nth_is : (zs : List X) (o : Option X) (at passed : ℕ) → ((m : ℕ) → slice_get xs (passed + m) ≡ slice_get ys m) → ys ≡ headed o zs → passed ≡ at → o ≡ slice_get xs at
  nth_is zs o at passed rest is end =
      let whole : passed + 0 ≡ at = omega arith in
      sym (head_at o zs) ∙ ap (λ (l : List X). slice_get l 0) (sym is) ∙ sym (rest 0) ∙ ap (slice_get xs) whole

pub ruleset lines = (line_ends, line_goes, few_triggers)

pub ruleset families = (down_by)
