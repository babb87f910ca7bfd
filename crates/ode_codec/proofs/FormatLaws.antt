-- What is read from the front of bytes is spelled there, and what is spelled is read again.
use Rattle.std.proofs.Common.{◌≡◌, ℕ, ℤ, Fits, zero, suc, ◌+◌, ◌^◌, ◌<◌, ◌≤◌, Bool, true, false, cond, ltb, List, [], ◌∷◌, ◌++◌, length, get_or, take, drop, Option, Some, None, refl, sym, ap, subst, ◌∙◌, append_assoc, arith, inl, inr}
use Rattle.std.specs.Prelude.{FitsSigned, nat_lt, ◌==◌}
use Rattle.std.specs.Int.{Width, w16, w32, w64, byte_len, from_be_bytes, to_be_bytes, cast_signed, cast_unsigned}
use Rattle.std.proofs.lemmas.Bool.{cases_lt, ltb-false, le-ltb}
use Rattle.std.proofs.lemmas.Bool.Decides.{nat_tests}
use Rattle.std.proofs.lemmas.Int.{of_z-to_z, to_z-of_z}
use Rattle.std.proofs.Math.Facts.{Fits-of_z}
use borrow.Author.Gap.{read_sfits}
use Rattle.std.proofs.lemmas.List.{take_at, drop_at, take-append-drop, length-append, length-take, get_or-drop, get_or-take, get_or_past, nil_from_length, append-nil}
use Rattle.std.proofs.lemmas.Nat.{be_bytes_2, be_bytes_4, be_bytes_8, from_be_bytes-to_be_bytes_2, from_be_bytes-to_be_bytes_4, from_be_bytes-to_be_bytes_8}
use Rattle.ode_codec.specs.Formats.{◌>>=◌, both, byte_in, ended, fit, holding, int_in, number_in, some_in, truth_in, truth_of}
use Rattle.ode_codec.specs.Spelling.{truth}
use Rattle.ode_value.specs.Records.{stamp_bytes}

abbrev pub IsBytes : List ℕ → Type 0
IsBytes bytes = (i : ℕ) → get_or bytes i 0 < 256

pub fits-drop : (n : ℕ) (bytes : List ℕ) → IsBytes bytes → IsBytes (drop n bytes)
fits-drop n bytes h i = rw get_or-drop (h (n + i))

fits-take : (n : ℕ) (bytes : List ℕ) → IsBytes bytes → IsBytes (take n bytes)
fits-take n bytes h i =
    elim (cases_lt i n) [
      | inl lt ↦ rw (get_or-take n bytes i 0 lt) (h i)
      | inr le ↦ rw (get_or_past (take n bytes) i 0 (omega (arith, length-take n bytes))) (omega arith)
    ]

-- ---- steps that may fail

pub bind_some : {A B : Type 0} (o : Option A) (next : A → Option B) (y : B) → (o >>= next) ≡ Some y → (x : A) × (o ≡ Some x) × (next x ≡ Some y)
bind_some (Some x) next y e = (x, refl, e)
bind_some None next y e = absurd cc

abbrev one : {A : Type 0} → A → Option A
one x = Some x

pub same : {A : Type 0} (x y : A) → one x ≡ one y → x ≡ y
same x y e = cc

pub held : (b : Bool) (u : Unit {0}) → holding b ≡ Some u → b ≡ true
held true u e = refl
held false u e = absurd cc

pub none_left : (bytes : List ℕ) (u : Unit {0}) → ended bytes ≡ Some u → bytes ≡ []
none_left bytes u e = let zero : (length bytes == 0) ≡ true = held (length bytes == 0) u e in nil_from_length bytes (grind (arith, nat_tests))

fit_by : (b : Bool) (n m : ℕ) → cond b (Some n) None ≡ Some m → (b ≡ true) × (n ≡ m)
fit_by true n m e = (refl, cc)
fit_by false n m e = absurd cc

pub fit_is : (limit n m : ℕ) → fit limit n ≡ Some m → (n < limit) × (n ≡ m)
fit_is limit n m e = let parts = fit_by (nat_lt n limit) n m e in let less : nat_lt n limit ≡ true = parts.0 in (grind (arith, nat_tests), parts.1)

pub fit_again : (limit n : ℕ) → n < limit → fit limit n ≡ Some n
fit_again limit n lt = let less : nat_lt n limit ≡ true = grind (arith, nat_tests) in ap (λ b. cond b (Some n) None) less

-- ---- formats

pub record Takes (bytes text rest : List ℕ) : Type 0 where
  pub parts : bytes ≡ text ++ rest
  pub fits : IsBytes rest

pub record IsFormat (X : Type 0) (spell : X → List ℕ) (read : List ℕ → Option (X × List ℕ)) (Fits : X → Type 0) : Type 0 where
  pub takes : (bytes : List ℕ) (x : X × List ℕ) → IsBytes bytes → read bytes ≡ Some x → Takes bytes (spell x.0) x.1 × Fits x.0
  pub again : (x : X) (rest : List ℕ) → Fits x → read (spell x ++ rest) ≡ Some (x, rest)

-- one format behind another
module _ (X Y : Type 0) (sx : X → List ℕ) (sy : Y → List ℕ) (rx : List ℕ → Option (X × List ℕ)) (ry : List ℕ → Option (Y × List ℕ)) (Fx : X → Type 0) (Fy : Y → Type 0) (first : IsFormat X sx rx Fx) (second : IsFormat Y sy ry Fy) where
  abbrev pub spell_both : X × Y → List ℕ
  spell_both p = sx p.0 ++ sy p.1

  abbrev pub FitBoth : X × Y → Type 0
  FitBoth p = Fx p.0 × Fy p.1

  both_takes : (bytes : List ℕ) (x : (X × Y) × List ℕ) → IsBytes bytes → both rx ry bytes ≡ Some x → Takes bytes (spell_both x.0) x.1 × FitBoth x.0
  both_takes bytes x fits e =
      let a = bind_some (rx bytes) (λ a. ry a.1 >>= λ b. Some ((a.0, b.0), b.1)) x e in
      let b = bind_some (ry a.0.1) (λ b. Some ((a.0.0, b.0), b.1)) x a.2 in
      let front = first.takes bytes a.0 fits a.1 in
      let back = second.takes a.0.1 b.0 front.0.fits b.1 in
      let made : (X × Y) × List ℕ = ((a.0.0, b.0.0), b.0.1) in
      let whole : bytes ≡ (sx a.0.0 ++ sy b.0.0) ++ b.0.1 = front.0.parts ∙ ap (λ (t : List ℕ). sx a.0.0 ++ t) back.0.parts ∙ sym (append_assoc (sx a.0.0) (sy b.0.0) b.0.1) in
      subst (λ (y : (X × Y) × List ℕ). Takes bytes (spell_both y.0) y.1 × FitBoth y.0) (same made x b.2) (record { parts = whole; fits = back.0.fits }, (front.1, back.1))

  both_again : (x : X × Y) (rest : List ℕ) → FitBoth x → both rx ry (spell_both x ++ rest) ≡ Some (x, rest)
  both_again x rest fits =
      ap (both rx ry) (append_assoc (sx x.0) (sy x.1) rest)
      ∙ ap (λ o. o >>= λ (a : X × List ℕ). ry a.1 >>= λ b. Some ((a.0, b.0), b.1)) (first.again x.0 (sy x.1 ++ rest) fits.0)
      ∙ ap (λ o. o >>= λ (b : Y × List ℕ). Some ((x.0, b.0), b.1)) (second.again x.1 rest fits.1)

  pub both_format : IsFormat (X × Y) spell_both (both rx ry) FitBoth
  both_format = record { takes = both_takes; again = both_again }

-- all of the bytes, and then another step
module _ (X R : Type 0) (spell : X → List ℕ) (read : List ℕ → Option (X × List ℕ)) (Fits : X → Type 0) (format : IsFormat X spell read Fits) (last : X → Option R) where
  abbrev pub whole : List ℕ → Option R
  whole bytes = read bytes >>= λ x. ended x.1 >>= λ _. last x.0

  pub whole_takes : (bytes : List ℕ) (r : R) → IsBytes bytes → whole bytes ≡ Some r → (x : X) × (bytes ≡ spell x) × Fits x × (last x ≡ Some r)
  whole_takes bytes r fits e =
      let a = bind_some (read bytes) (λ x. ended x.1 >>= λ _. last x.0) r e in
      let b = bind_some (ended a.0.1) (λ _. last a.0.0) r a.2 in
      let front = format.takes bytes a.0 fits a.1 in
      (a.0.0, front.0.parts ∙ ap (λ (t : List ℕ). spell a.0.0 ++ t) (none_left a.0.1 b.0 b.1) ∙ append-nil (spell a.0.0), front.1, b.2)

  pub whole_again : (x : X) → Fits x → whole (spell x) ≡ last x
  whole_again x fits =
      ap whole (sym (append-nil (spell x))) ∙ ap (λ o. o >>= λ (y : X × List ℕ). ended y.1 >>= λ _. last y.0) (format.again x [] fits)

-- ---- numbers

module _ (w : Width) (limit : ℕ) (len : (n : ℕ) → length (to_be_bytes w n) ≡ byte_len w) (back : (bytes : List ℕ) → length bytes ≡ byte_len w → IsBytes bytes → to_be_bytes w (from_be_bytes w bytes) ≡ bytes) (again : (n : ℕ) → n < limit → from_be_bytes w (to_be_bytes w n) ≡ n) (below : (bytes : List ℕ) → IsBytes bytes → from_be_bytes w bytes < limit) where
  short_by : {A : Type 0} (b : Bool) (x y : A) → cond b None (Some x) ≡ Some y → (b ≡ false) × (x ≡ y)
  short_by true x y e = absurd cc
  short_by false x y e = (refl, cc)

  number_takes : (bytes : List ℕ) (x : ℕ × List ℕ) → IsBytes bytes → number_in w bytes ≡ Some x → Takes bytes (to_be_bytes w x.0) x.1 × (x.0 < limit)
  number_takes bytes x fits e =
      let front : List ℕ = take (byte_len w) bytes in
      let made : ℕ × List ℕ = (from_be_bytes w front, drop (byte_len w) bytes) in
      let g = short_by (ltb (length bytes) (byte_len w)) made x e in
      let long : byte_len w ≤ length bytes = ltb-false _ _ g.0 in
      let spelled : to_be_bytes w (from_be_bytes w front) ≡ front = back front (omega (arith, length-take (byte_len w) bytes)) (fits-take (byte_len w) bytes fits) in
      let parts : bytes ≡ to_be_bytes w (from_be_bytes w front) ++ drop (byte_len w) bytes = sym (take-append-drop (byte_len w) bytes) ∙ ap (λ (t : List ℕ). t ++ drop (byte_len w) bytes) (sym spelled) in
      subst (λ (y : ℕ × List ℕ). Takes bytes (to_be_bytes w y.0) y.1 × (y.0 < limit)) g.1
      (record { parts = parts; fits = fits-drop (byte_len w) bytes fits }, below front (fits-take (byte_len w) bytes fits))

  number_again : (n : ℕ) (rest : List ℕ) → n < limit → number_in w (to_be_bytes w n ++ rest) ≡ Some (n, rest)
  number_again n rest lt =
      let size = len n in
      let long : ltb (length (to_be_bytes w n ++ rest)) (byte_len w) ≡ false = le-ltb _ _ (omega (arith, length-append (to_be_bytes w n) rest)) in
      rw (long, take_at (to_be_bytes w n) rest (byte_len w) size, drop_at (to_be_bytes w n) rest (byte_len w) size, again n lt) refl

  pub number_format : IsFormat ℕ (to_be_bytes w) (number_in w) (λ n. n < limit)
  number_format = record { takes = number_takes; again = number_again }

pub format16 : IsFormat ℕ (to_be_bytes w16) (number_in w16) (λ n. n < 2 ^ 16)
format16 = number_format w16 (2 ^ 16) (λ n. refl) (λ bytes len fits. be_bytes_2 bytes _ len fits refl) (λ n lt. from_be_bytes-to_be_bytes_2 n lt) (λ bytes fits. omega (arith, fits 0, fits 1))

pub format32 : IsFormat ℕ (to_be_bytes w32) (number_in w32) (λ n. n < 2 ^ 32)
format32 = number_format w32 (2 ^ 32) (λ n. refl) (λ bytes len fits. be_bytes_4 bytes _ len fits refl) (λ n lt. from_be_bytes-to_be_bytes_4 n lt) (λ bytes fits. omega (arith, fits 0, fits 1, fits 2, fits 3))

pub format64 : IsFormat ℕ (to_be_bytes w64) (number_in w64) (λ n. n < 2 ^ 64)
format64 = number_format w64 (2 ^ 64) (λ n. refl) (λ bytes len fits. be_bytes_8 bytes _ len fits refl) (λ n lt. from_be_bytes-to_be_bytes_8 n lt)
    (λ bytes fits. omega (arith, fits 0, fits 1, fits 2, fits 3, fits 4, fits 5, fits 6, fits 7))

-- ---- a number above 0, and one that isn't spelled where it is 0

some_by : (b : Bool) (x y : ℕ × List ℕ) → cond b None (Some x) ≡ Some y → (b ≡ false) × (x ≡ y)
some_by true x y e = absurd cc
some_by false x y e = (refl, cc)

some_takes : (bytes : List ℕ) (x : ℕ × List ℕ) → IsBytes bytes → some_in bytes ≡ Some x → Takes bytes (to_be_bytes w32 x.0) x.1 × ((0 < x.0) × (x.0 < 2 ^ 32))
unfolding some_in
some_takes bytes x fits e =
    let a = bind_some (number_in w32 bytes) (λ n. cond (n.0 == 0) None (Some n)) x e in
    let g = some_by (a.0.0 == 0) a.0 x a.2 in
    let front = format32.takes bytes a.0 fits a.1 in
    let zero : (a.0.0 == 0) ≡ false = g.0 in
    let some : 0 < a.0.0 = grind (arith, nat_tests) in
    subst (λ (y : ℕ × List ℕ). Takes bytes (to_be_bytes w32 y.0) y.1 × ((0 < y.0) × (y.0 < 2 ^ 32))) g.1 (front.0, (some, front.1))

some_again : (n : ℕ) (rest : List ℕ) → (0 < n) × (n < 2 ^ 32) → some_in (to_be_bytes w32 n ++ rest) ≡ Some (n, rest)
unfolding some_in
some_again n rest fits =
    let some : 0 < n = fits.0 in
    let zero : (n == 0) ≡ false = grind (arith, nat_tests) in
    let made : ℕ × List ℕ = (n, rest) in
    ap (λ o. o >>= λ (m : ℕ × List ℕ). cond (m.0 == 0) None (Some m)) (format32.again n rest fits.1)
    ∙ ap (λ b. cond b None (Some made)) zero

pub some_format : IsFormat ℕ (to_be_bytes w32) some_in (λ n. (0 < n) × (n < 2 ^ 32))
some_format = record { takes = some_takes; again = some_again }

pub stamp_some : (n : ℕ) → 0 < n → stamp_bytes n ≡ to_be_bytes w32 n
stamp_some zero some = absurd (omega (arith, some))
stamp_some (suc n) some = refl

-- ---- one byte

abbrev pub spell_byte : ℕ → List ℕ
spell_byte n = n ∷ []

byte_takes : (bytes : List ℕ) (x : ℕ × List ℕ) → IsBytes bytes → byte_in bytes ≡ Some x → Takes bytes (spell_byte x.0) x.1 × (x.0 < 2 ^ 8)
byte_takes [] x fits e = absurd cc
byte_takes (b ∷ bytes) x fits e =
    let made : ℕ × List ℕ = (b, bytes) in
    subst (λ (y : ℕ × List ℕ). Takes (b ∷ bytes) (spell_byte y.0) y.1 × (y.0 < 2 ^ 8)) (same made x e) (record { parts = refl; fits = λ i. fits (suc i) }, fits 0)

pub format8 : IsFormat ℕ spell_byte byte_in (λ n. n < 2 ^ 8)
format8 = record { takes = byte_takes; again = λ n rest lt. refl }

truth_is : (b : ℕ) (t : Bool) → truth_of b ≡ Some t → truth t ≡ spell_byte b
truth_is b t e = by (b == 0) (b == 1) refl refl e
  where
    by : (p q : Bool) → (b == 0) ≡ p → (b == 1) ≡ q → cond p (Some false) (cond q (Some true) None) ≡ Some t → truth t ≡ spell_byte b
    by true q zero_is one_is h = let is : b ≡ 0 = grind (arith, nat_tests) in ap (λ u. truth u) (sym (same false t h)) ∙ ap spell_byte (sym is)
    by false true zero_is one_is h = let is : b ≡ 1 = grind (arith, nat_tests) in ap (λ u. truth u) (sym (same true t h)) ∙ ap spell_byte (sym is)
    by false false zero_is one_is h = absurd cc

truth_takes : (bytes : List ℕ) (x : Bool × List ℕ) → IsBytes bytes → truth_in bytes ≡ Some x → Takes bytes (truth x.0) x.1 × Unit {0}
truth_takes bytes x fits e =
    let a = bind_some (byte_in bytes) (λ b. truth_of b.0 >>= λ t. Some (t, b.1)) x e in
    let b = bind_some (truth_of a.0.0) (λ t. Some (t, a.0.1)) x a.2 in
    let front = byte_takes bytes a.0 fits a.1 in
    let made : Bool × List ℕ = (b.0, a.0.1) in
    subst (λ (y : Bool × List ℕ). Takes bytes (truth y.0) y.1 × Unit {0}) (same made x b.2)
    (record { parts = front.0.parts ∙ ap (λ (t : List ℕ). t ++ a.0.1) (sym (truth_is a.0.0 b.0 b.1)); fits = front.0.fits }, tt)

truth_again : (t : Bool) (rest : List ℕ) → Unit {0} → truth_in (truth t ++ rest) ≡ Some (t, rest)
truth_again true rest u = refl
truth_again false rest u = refl

pub truth_format : IsFormat Bool truth truth_in (λ t. Unit {0})
truth_format = record { takes = truth_takes; again = truth_again }

-- ---- numbers with a sign

abbrev pub spell_int : ℤ → List ℕ
spell_int n = to_be_bytes w64 (cast_unsigned w64 n)

int_takes : (bytes : List ℕ) (x : ℤ × List ℕ) → IsBytes bytes → int_in bytes ≡ Some x → Takes bytes (spell_int x.0) x.1 × FitsSigned w64 x.0
int_takes bytes x fits e =
    let a = bind_some (number_in w64 bytes) (λ n. Some (cast_signed w64 n.0, n.1)) x e in
    let front = format64.takes bytes a.0 fits a.1 in
    let made : ℤ × List ℕ = (cast_signed w64 a.0.0, a.0.1) in
    let back : cast_unsigned w64 (cast_signed w64 a.0.0) ≡ a.0.0 = of_z-to_z w64 a.0.0 front.1 in
    subst (λ (y : ℤ × List ℕ). Takes bytes (spell_int y.0) y.1 × FitsSigned w64 y.0) (same made x a.2)
    (record { parts = front.0.parts ∙ ap (λ (n : ℕ). to_be_bytes w64 n ++ a.0.1) (sym back); fits = front.0.fits }, read_sfits w64 a.0.0)

below64 : {n : ℕ} → Fits w64 n → n < 2 ^ 64
below64 fits = omega arith

int_again : (n : ℤ) (rest : List ℕ) → FitsSigned w64 n → int_in (spell_int n ++ rest) ≡ Some (n, rest)
int_again n rest fits =
    ap (λ o. o >>= λ (m : ℕ × List ℕ). Some (cast_signed w64 m.0, m.1)) (format64.again (cast_unsigned w64 n) rest (below64 (Fits-of_z fits)))
    ∙ ap (λ (m : ℤ). Some (m, rest)) (to_z-of_z w64 n fits)

pub int_format : IsFormat ℤ spell_int int_in (FitsSigned w64)
int_format = record { takes = int_takes; again = int_again }
