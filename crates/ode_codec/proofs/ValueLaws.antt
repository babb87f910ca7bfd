-- Values are read as they are spelled.
use Rattle.std.proofs.Common.{◌≡◌, ℕ, ℤ, zero, suc, ◌+◌, ◌%◌, ◌^◌, ◌<◌, ◌≤◌, Bool, true, false, cond, List, [], ◌∷◌, ◌++◌, length, take, drop, Option, Some, None, refl, sym, ap, subst, ◌∙◌, append_assoc, arith}
use Rattle.std.specs.Prelude.{FitsSigned, IfSome, nat_lt, nat_le, ◌==◌, ◌&&◌, position}
use Rattle.std.specs.Int.{w16, w32, w64, to_be_bytes, cast_unsigned}
use Rattle.std.specs.List.{AllByRecursion}
use Rattle.std.specs.Option.{is_none, unwrap_or}
use Rattle.std.proofs.lemmas.Bool.{ltb-false, le-ltb}
use Rattle.std.proofs.lemmas.Bool.Decides.{nat_tests}
use Rattle.std.proofs.lemmas.List.{take_at, drop_at, take-append-drop, length-append, length-take}
use Rattle.std.proofs.lemmas.List.Concat.{flat_map-cons}
use Rattle.ode_value.specs.Limits.{text_limit}
use Rattle.ode_value.specs.Records.{spelled_value, stamp_bytes, stamped_count}
use Rattle.ode_value.specs.Text.{IsText, is_bad_byte, is_text}
use Rattle.ode_value.specs.declared.value.Ref.{Ref}
use Rattle.ode_value.specs.declared.value.Value.{Value}
use Rattle.ode_value.specs.declared.value.Value.TheVariants as value
use Rattle.ode_codec.specs.Formats.{◌>>=◌, byte_in, int_in, number_in, part_of, some_in, truth_in}
use Rattle.ode_codec.specs.Rules.{AreInRange, AreKept, InRange, IsKeptValue}
use Rattle.ode_codec.specs.Spelling.{values}
use Rattle.ode_codec.specs.Values.{args_in, content_in, fields_in, reference_in, reference_of, stamp_in, text_in, value_in, values_in}
use Rattle.ode_codec.proofs.FormatLaws.{IsBytes, IsFormat, Takes, bind_some, fits-drop, format8, format16, format32, format64, int_format, same, some_format, spell_byte, stamp_some, truth_format}

-- ---- a part behind its length

choice : {A : Type 0} (b : Bool) (x y : A) → cond b (Some x) None ≡ Some y → (b ≡ true) × (x ≡ y)
choice true x y e = (refl, cc)
choice false x y e = absurd cc

none_choice : {A : Type 0} (b : Bool) (o : Option A) (y : A) → cond b None o ≡ Some y → (b ≡ false) × (o ≡ Some y)
none_choice true o y e = absurd cc
none_choice false o y e = (refl, e)

module _ (test : List ℕ → Bool) (spell : ℕ → List ℕ) (count : List ℕ → Option (ℕ × List ℕ)) (limit : ℕ) (format : IsFormat ℕ spell count (λ n. n < limit)) where
  abbrev pub part_in : List ℕ → Option (List ℕ × List ℕ)
  part_in bytes = count bytes >>= λ n. part_of test n.0 n.1

  abbrev pub spell_part : List ℕ → List ℕ
  spell_part part = spell (length part) ++ part

  abbrev pub FitsPart : List ℕ → Type 0
  FitsPart part = (test part ≡ true) × (length part < limit)

  part_takes : (bytes : List ℕ) (x : List ℕ × List ℕ) → IsBytes bytes → part_in bytes ≡ Some x → Takes bytes (spell_part x.0) x.1 × FitsPart x.0
  part_takes bytes x fits e =
      let a = bind_some (count bytes) (λ n. part_of test n.0 n.1) x e in
      let n = a.0.0 in
      let rest = a.0.1 in
      let made : List ℕ × List ℕ = (take n rest, drop n rest) in
      let g = none_choice (nat_lt (length rest) n) (cond (test (take n rest)) (Some made) None) x a.2 in
      let h = choice (test (take n rest)) made x g.1 in
      let front = format.takes bytes a.0 fits a.1 in
      let long : n ≤ length rest = ltb-false _ _ g.0 in
      let size : length (take n rest) ≡ n = omega (arith, length-take n rest) in
      let whole : bytes ≡ spell_part (take n rest) ++ drop n rest =
      front.0.parts ∙ ap (λ (t : List ℕ). spell n ++ t) (sym (take-append-drop n rest))
      ∙ sym (append_assoc (spell n) (take n rest) (drop n rest))
      ∙ ap (λ (k : ℕ). (spell k ++ take n rest) ++ drop n rest) (sym size) in
      subst (λ (y : List ℕ × List ℕ). Takes bytes (spell_part y.0) y.1 × FitsPart y.0) h.1
      (record { parts = whole; fits = fits-drop n rest front.0.fits }, (h.0, omega (arith, front.1)))

  part_again : (part rest : List ℕ) → FitsPart part → part_in (spell_part part ++ rest) ≡ Some (part, rest)
  part_again part rest fits =
      let long : nat_lt (length (part ++ rest)) (length part) ≡ false = le-ltb _ _ (omega (arith, length-append part rest)) in
      let passes : test part ≡ true = fits.0 in
      ap part_in (append_assoc (spell (length part)) part rest)
      ∙ ap (λ o. o >>= λ (n : ℕ × List ℕ). part_of test n.0 n.1) (format.again (length part) (part ++ rest) fits.1)
      ∙ rw (long, take_at part rest (length part) refl, drop_at part rest (length part) refl, passes) refl

  pub part_format : IsFormat (List ℕ) spell_part part_in FitsPart
  part_format = record { takes = part_takes; again = part_again }

-- ---- texts

pub both_true : (a b : Bool) → (a && b) ≡ true → (a ≡ true) × (b ≡ true)
both_true true b h = (refl, h)
both_true false b h = absurd cc

pub none_there : (o : Option ℕ) → is_none o ≡ true → o ≡ None
none_there None h = refl
none_there (Some n) h = absurd cc

text_is : (bytes : List ℕ) → is_text bytes ≡ true → IsText bytes
text_is bytes h =
    let parts = both_true (nat_le (length bytes) text_limit) (is_none (position is_bad_byte bytes)) h in
    let short : nat_le (length bytes) text_limit ≡ true = parts.0 in
    record { short = grind (arith, nat_tests); each = none_there (position is_bad_byte bytes) parts.1 }

text_passes : (bytes : List ℕ) → IsText bytes → is_text bytes ≡ true
text_passes bytes is =
    let le : length bytes ≤ text_limit = is.short in
    let short : nat_le (length bytes) text_limit ≡ true = grind (arith, nat_tests) in
    ap (λ b. b && is_none (position is_bad_byte bytes)) short ∙ ap (λ (o : Option ℕ). is_none o) is.each

abbrev spell_text : List ℕ → List ℕ
spell_text t = to_be_bytes w16 (length t) ++ t

pub text_format : IsFormat (List ℕ) spell_text text_in IsText
unfolding text_in
text_format =
    let part = part_format is_text (to_be_bytes w16) (number_in w16) (2 ^ 16) format16 in
    record {
      takes = λ bytes x fits e. let t = part.takes bytes x fits e in (t.0, text_is x.0 t.1.0);
      again = λ t rest is. part.again t rest (text_passes t is, omega (arith, is.short));
    }

-- ---- references

abbrev FitsRef : Ref → Type 0
FitsRef r = InRange (value.Reference r) × IsKeptValue (value.Reference r)

abbrev spell_ref : Ref → List ℕ
spell_ref r = to_be_bytes w64 r.object ++ to_be_bytes w32 (unwrap_or r.version 0)

record MadeRef (object version : ℕ) (r : Ref) : Type 0 where
  pub object_is : object ≡ r.object
  pub version_is : version ≡ unwrap_or r.version 0
  pub fits : object < 2 ^ 64 → version < 2 ^ 32 → FitsRef r

made_ref : (object version : ℕ) (r : Ref) → reference_of object version ≡ Some r → MadeRef object version r
made_ref object version r e = by (version == 0) (object == 0) refl refl e
  where
    by : (p q : Bool) → (version == 0) ≡ p → (object == 0) ≡ q → cond p (Some (record { object = object; version = None })) (cond q None (Some (record { object = object; version = Some version }))) ≡ Some r → MadeRef object version r
    by true q vp op h =
        let zero_is : version ≡ 0 = grind (arith, nat_tests) in
        let made : Ref = record { object = object; version = None } in
        subst (λ (s : Ref). MadeRef object version s) (same made r h) (record { object_is = refl; version_is = zero_is; fits = λ lt _. ((lt, tt), tt) })
    by false true vp op h = absurd cc
    by false false vp op h =
        let some : 0 < object = grind (arith, nat_tests) in
        let some_version : 0 < version = grind (arith, nat_tests) in
        let made : Ref = record { object = object; version = Some version } in
        subst (λ (s : Ref). MadeRef object version s) (same made r h) (record { object_is = refl; version_is = refl; fits = λ lt low. ((lt, low), (some, some_version)) })

reference_takes : (bytes : List ℕ) (x : Ref × List ℕ) → IsBytes bytes → reference_in bytes ≡ Some x → Takes bytes (spell_ref x.0) x.1 × FitsRef x.0
unfolding reference_in
reference_takes bytes x fits e =
    let a = bind_some (number_in w64 bytes) (λ o. number_in w32 o.1 >>= λ v. reference_of o.0 v.0 >>= λ r. Some (r, v.1)) x e in
    let b = bind_some (number_in w32 a.0.1) (λ v. reference_of a.0.0 v.0 >>= λ r. Some (r, v.1)) x a.2 in
    let c = bind_some (reference_of a.0.0 b.0.0) (λ r. Some (r, b.0.1)) x b.2 in
    let front = format64.takes bytes a.0 fits a.1 in
    let back = format32.takes a.0.1 b.0 front.0.fits b.1 in
    let is = made_ref a.0.0 b.0.0 c.0 c.1 in
    let made : Ref × List ℕ = (c.0, b.0.1) in
    let whole : bytes ≡ spell_ref c.0 ++ b.0.1 =
    front.0.parts ∙ ap (λ (t : List ℕ). to_be_bytes w64 a.0.0 ++ t) back.0.parts ∙ sym (append_assoc (to_be_bytes w64 a.0.0) (to_be_bytes w32 b.0.0) b.0.1)
    ∙ ap (λ (n : ℕ). (to_be_bytes w64 n ++ to_be_bytes w32 b.0.0) ++ b.0.1) is.object_is
    ∙ ap (λ (n : ℕ). (to_be_bytes w64 c.0.object ++ to_be_bytes w32 n) ++ b.0.1) is.version_is in
    subst (λ (y : Ref × List ℕ). Takes bytes (spell_ref y.0) y.1 × FitsRef y.0) (same made x c.2) (record { parts = whole; fits = back.0.fits }, is.fits front.1 back.1)

of_none : (object : ℕ) → reference_of object 0 ≡ Some (record { object = object; version = None })
of_none object = refl

of_some : (object version : ℕ) → 0 < object → 0 < version → reference_of object version ≡ Some (record { object = object; version = Some version })
of_some object version some some_version =
    let p : (version == 0) ≡ false = grind (arith, nat_tests) in
    let q : (object == 0) ≡ false = grind (arith, nat_tests) in
    rw (p, q) refl

ref_of : (object : ℕ) (version : Option ℕ) → IfSome version (λ v. (0 < object) × (0 < v)) → reference_of object (unwrap_or version 0) ≡ Some (record { object = object; version = version })
ref_of object None kept = of_none object
ref_of object (Some v) kept = of_some object v kept.0 kept.1

version_low : (version : Option ℕ) → IfSome version (λ v. v < 2 ^ 32) → unwrap_or version 0 < 2 ^ 32
version_low None low = omega arith
version_low (Some v) low = low

reference_again : (r : Ref) (rest : List ℕ) → FitsRef r → reference_in (spell_ref r ++ rest) ≡ Some (r, rest)
unfolding reference_in
reference_again r rest fits =
    let v = unwrap_or r.version 0 in
    ap reference_in (append_assoc (to_be_bytes w64 r.object) (to_be_bytes w32 v) rest)
    ∙ ap (λ x. x >>= λ (o : ℕ × List ℕ). number_in w32 o.1 >>= λ v. reference_of o.0 v.0 >>= λ r. Some (r, v.1)) (format64.again r.object (to_be_bytes w32 v ++ rest) fits.0.0)
    ∙ ap (λ x. x >>= λ (w : ℕ × List ℕ). reference_of r.object w.0 >>= λ r. Some (r, w.1)) (format32.again v rest (version_low r.version fits.0.1))
    ∙ ap (λ x. x >>= λ (s : Ref). Some (s, rest)) (ref_of r.object r.version fits.1)

-- ---- values

abbrev pub FitsValue : Value → Type 0
FitsValue v = InRange v × IsKeptValue v

content_of : {X : Type 0} (spell : X → List ℕ) (read : List ℕ → Option (X × List ℕ)) (Fits : X → Type 0) → IsFormat X spell read Fits → (tag : ℕ) (make : X → Value) → ((x : X) → spelled_value (make x) ≡ tag ∷ spell x) → ((x : X) → Fits x → FitsValue (make x))
    → (bytes : List ℕ) (y : Value × List ℕ) → IsBytes bytes → (read bytes >>= λ x. Some (make x.0, x.1)) ≡ Some y → Takes (tag ∷ bytes) (spelled_value y.0) y.1 × FitsValue y.0
content_of {X} spell read Fits format tag make spelled fit bytes y fits e =
    let a = bind_some (read bytes) (λ x. Some (make x.0, x.1)) y e in
    let front = format.takes bytes a.0 fits a.1 in
    let made : Value × List ℕ = (make a.0.0, a.0.1) in
    subst (λ (z : Value × List ℕ). Takes (tag ∷ bytes) (spelled_value z.0) z.1 × FitsValue z.0) (same made y a.2)
    (record { parts = ap (λ (t : List ℕ). tag ∷ t) front.0.parts ∙ ap (λ (t : List ℕ). t ++ a.0.1) (sym (spelled a.0.0)); fits = front.0.fits }, fit a.0.0 front.1)

reference_format : IsFormat Ref spell_ref reference_in FitsRef
reference_format = record { takes = reference_takes; again = reference_again }

content_takes : (tag : ℕ) (bytes : List ℕ) (y : Value × List ℕ) → IsBytes bytes → content_in tag bytes ≡ Some y → Takes (tag ∷ bytes) (spelled_value y.0) y.1 × FitsValue y.0
unfolding content_in
content_takes tag bytes y fits e = by (tag == 0) (tag == 1) (tag == 2) (tag == 3) refl refl refl refl e
  where
    under : (n : ℕ) → n ≡ tag → Takes (n ∷ bytes) (spelled_value y.0) y.1 × FitsValue y.0 → Takes (tag ∷ bytes) (spelled_value y.0) y.1 × FitsValue y.0
    under n is t = subst (λ (k : ℕ). Takes (k ∷ bytes) (spelled_value y.0) y.1 × FitsValue y.0) is t

    by : (p q r s : Bool) → (tag == 0) ≡ p → (tag == 1) ≡ q → (tag == 2) ≡ r → (tag == 3) ≡ s
        → cond p (int_in bytes >>= λ n. Some (value.Int n.0, n.1)) (cond q (truth_in bytes >>= λ b. Some (value.Bool b.0, b.1)) (cond r (text_in bytes >>= λ t. Some (value.Text t.0, t.1)) (cond s (reference_in bytes >>= λ r. Some (value.Reference r.0, r.1)) None))) ≡ Some y
        → Takes (tag ∷ bytes) (spelled_value y.0) y.1 × FitsValue y.0
    by true q r s a b c d h =
        let is : 0 ≡ tag = grind (arith, nat_tests) in
        under 0 is (content_of (λ n. to_be_bytes w64 (cast_unsigned w64 n)) int_in (FitsSigned w64) int_format 0 (λ n. value.Int n) (λ n. refl) (λ n f. (f, tt)) bytes y fits h)
    by false true r s a b c d h =
        let is : 1 ≡ tag = grind (arith, nat_tests) in
        under 1 is (content_of (λ (t : Bool). spell_byte (cond t 1 0)) truth_in (λ t. Unit {0}) truth_format 1 (λ t. value.Bool t) (λ t. refl) (λ t f. (tt, tt)) bytes y fits h)
    by false false true s a b c d h =
        let is : 2 ≡ tag = grind (arith, nat_tests) in
        under 2 is (content_of spell_text text_in IsText text_format 2 (λ t. value.Text t) (λ t. refl) (λ t f. (f, tt)) bytes y fits h)
    by false false false true a b c d h =
        let is : 3 ≡ tag = grind (arith, nat_tests) in
        under 3 is (content_of spell_ref reference_in FitsRef reference_format 3 (λ r. value.Reference r) (λ r. refl) (λ r f. f) bytes y fits h)
    by false false false false a b c d h = absurd cc

value_takes : (bytes : List ℕ) (y : Value × List ℕ) → IsBytes bytes → value_in bytes ≡ Some y → Takes bytes (spelled_value y.0) y.1 × FitsValue y.0
unfolding value_in
value_takes [] y fits e = absurd cc
value_takes (tag ∷ bytes) y fits e = content_takes tag bytes y (λ i. fits (suc i)) e

value_again : (v : Value) (rest : List ℕ) → FitsValue v → value_in (spelled_value v ++ rest) ≡ Some (v, rest)
unfolding value_in content_in
value_again (value.Int n) rest fits = ap (λ x. x >>= λ (m : ℤ × List ℕ). Some (value.Int m.0, m.1)) (int_format.again n rest fits.0)
value_again (value.Bool b) rest fits = ap (λ x. x >>= λ (t : Bool × List ℕ). Some (value.Bool t.0, t.1)) (truth_format.again b rest tt)
value_again (value.Text t) rest fits = ap (λ x. x >>= λ (s : List ℕ × List ℕ). Some (value.Text s.0, s.1)) (text_format.again t rest fits.0)
value_again (value.Reference r) rest fits = ap (λ x. x >>= λ (s : Ref × List ℕ). Some (value.Reference s.0, s.1)) (reference_again r rest fits)

pub value_format : IsFormat Value spelled_value value_in FitsValue
value_format = record { takes = value_takes; again = value_again }

-- ---- values one behind the other

abbrev pub FitValues : List Value → Type 0
FitValues vs = AllByRecursion FitsValue vs

values_take : (n : ℕ) (bytes : List ℕ) (x : List Value × List ℕ) → IsBytes bytes → values_in n bytes ≡ Some x → Takes bytes (values x.0) x.1 × (length x.0 ≡ n) × FitValues x.0
unfolding values_in
values_take zero bytes x fits e =
    let made : List Value × List ℕ = ([], bytes) in
    subst (λ (y : List Value × List ℕ). Takes bytes (values y.0) y.1 × (length y.0 ≡ 0) × FitValues y.0) (same made x e) (record { parts = refl; fits = fits }, refl, tt)
values_take (suc n) bytes x fits e =
    let a = bind_some (value_in bytes) (λ first. values_in n first.1 >>= λ others. Some (first.0 ∷ others.0, others.1)) x e in
    let b = bind_some (values_in n a.0.1) (λ others. Some (a.0.0 ∷ others.0, others.1)) x a.2 in
    let front = value_takes bytes a.0 fits a.1 in
    let back = values_take n a.0.1 b.0 front.0.fits b.1 in
    let made : List Value × List ℕ = (a.0.0 ∷ b.0.0, b.0.1) in
    let whole : bytes ≡ (spelled_value a.0.0 ++ values b.0.0) ++ b.0.1 =
    front.0.parts ∙ ap (λ (t : List ℕ). spelled_value a.0.0 ++ t) back.0.parts ∙ sym (append_assoc (spelled_value a.0.0) (values b.0.0) b.0.1) in
    subst (λ (y : List Value × List ℕ). Takes bytes (values y.0) y.1 × (length y.0 ≡ suc n) × FitValues y.0) (same made x b.2)
    (record { parts = whole ∙ ap (λ (t : List ℕ). t ++ b.0.1) (sym (flat_map-cons spelled_value a.0.0 b.0.0)); fits = back.0.fits }, ap suc back.1, (front.1, back.2))

values_again : (vs : List Value) (rest : List ℕ) → FitValues vs → values_in (length vs) (values vs ++ rest) ≡ Some (vs, rest)
unfolding values_in
values_again [] rest fits = refl
values_again (v ∷ vs) rest fits =
    let regrouped : values (v ∷ vs) ++ rest ≡ spelled_value v ++ (values vs ++ rest) = ap (λ (t : List ℕ). t ++ rest) (flat_map-cons spelled_value v vs) ∙ append_assoc (spelled_value v) (values vs) rest in
    ap (values_in (suc (length vs))) regrouped
    ∙ ap (λ x. x >>= λ (first : Value × List ℕ). values_in (length vs) first.1 >>= λ others. Some (first.0 ∷ others.0, others.1)) (value_again v (values vs ++ rest) fits.0)
    ∙ ap (λ x. x >>= λ (others : List Value × List ℕ). Some (v ∷ others.0, others.1)) (values_again vs rest fits.1)

module _ (spell : ℕ → List ℕ) (count : List ℕ → Option (ℕ × List ℕ)) (limit : ℕ) (format : IsFormat ℕ spell count (λ n. n < limit)) where
  abbrev pub counted_in : List ℕ → Option (List Value × List ℕ)
  counted_in bytes = count bytes >>= λ n. values_in n.0 n.1

  abbrev pub spell_counted : List Value → List ℕ
  spell_counted vs = spell (length vs) ++ values vs

  abbrev pub FitCounted : List Value → Type 0
  FitCounted vs = (length vs < limit) × FitValues vs

  counted_takes : (bytes : List ℕ) (x : List Value × List ℕ) → IsBytes bytes → counted_in bytes ≡ Some x → Takes bytes (spell_counted x.0) x.1 × FitCounted x.0
  counted_takes bytes x fits e =
      let a = bind_some (count bytes) (λ n. values_in n.0 n.1) x e in
      let front = format.takes bytes a.0 fits a.1 in
      let back = values_take a.0.0 a.0.1 x front.0.fits a.2 in
      let whole : bytes ≡ spell_counted x.0 ++ x.1 =
      front.0.parts ∙ ap (λ (t : List ℕ). spell a.0.0 ++ t) back.0.parts ∙ sym (append_assoc (spell a.0.0) (values x.0) x.1)
      ∙ ap (λ (n : ℕ). (spell n ++ values x.0) ++ x.1) (sym back.1) in
      (record { parts = whole; fits = back.0.fits }, (subst (λ (n : ℕ). n < limit) (sym back.1) front.1, back.2))

  counted_again : (vs : List Value) (rest : List ℕ) → FitCounted vs → counted_in (spell_counted vs ++ rest) ≡ Some (vs, rest)
  counted_again vs rest fits =
      ap counted_in (append_assoc (spell (length vs)) (values vs) rest)
      ∙ ap (λ x. x >>= λ (n : ℕ × List ℕ). values_in n.0 n.1) (format.again (length vs) (values vs ++ rest) fits.0)
      ∙ values_again vs rest fits.1

  pub counted_format : IsFormat (List Value) spell_counted counted_in FitCounted
  counted_format = record { takes = counted_takes; again = counted_again }

-- ---- fields behind a stamp

stamped_some : (n count : ℕ) → 0 < n → stamped_count n count ≡ count + 2 ^ 15
stamped_some zero count some = absurd (omega (arith, some))
stamped_some (suc n) count some = refl

stamped_low : (n count : ℕ) → count < 2 ^ 15 → stamped_count n count < 2 ^ 16
stamped_low zero count low = omega arith
stamped_low (suc n) count low = omega arith

stamped_back : (n count : ℕ) → count < 2 ^ 15 → stamped_count n count % 2 ^ 15 ≡ count
stamped_back zero count low = omega arith
stamped_back (suc n) count low = omega arith

abbrev IsStamp : ℕ → List ℕ → ℕ × List ℕ → Type 0
IsStamp count bytes x = Takes bytes (stamp_bytes x.0) x.1 × (x.0 < 2 ^ 32) × (stamped_count x.0 (count % 2 ^ 15) ≡ count)

stamp_takes : (count : ℕ) (bytes : List ℕ) (x : ℕ × List ℕ) → count < 2 ^ 16 → IsBytes bytes → stamp_in count bytes ≡ Some x → IsStamp count bytes x
unfolding stamp_in
stamp_takes count bytes x low fits e = by (nat_lt count (2 ^ 15)) refl e
  where
    made : ℕ × List ℕ
    made = (0, bytes)

    by : (b : Bool) → nat_lt count (2 ^ 15) ≡ b → cond b (Some made) (some_in bytes) ≡ Some x → IsStamp count bytes x
    by true is h =
        let small : count < 2 ^ 15 = grind (arith, nat_tests) in
        let same_count : count % 2 ^ 15 ≡ count = omega arith in
        subst (IsStamp count bytes) (same made x h) (record { parts = refl; fits = fits }, omega arith, same_count)
    by false is h =
        let large : 2 ^ 15 ≤ count = grind (arith, nat_tests) in
        let front = some_format.takes bytes x fits h in
        let together : count % 2 ^ 15 + 2 ^ 15 ≡ count = omega arith in
        (subst (λ (t : List ℕ). Takes bytes t x.1) (sym (stamp_some x.0 front.1.0)) front.0, front.1.1, stamped_some x.0 (count % 2 ^ 15) front.1.0 ∙ together)

stamp_again : (stamp count : ℕ) (rest : List ℕ) → stamp < 2 ^ 32 → count < 2 ^ 15 → stamp_in (stamped_count stamp count) (stamp_bytes stamp ++ rest) ≡ Some (stamp, rest)
unfolding stamp_in
stamp_again zero count rest low few =
    let small : nat_lt count (2 ^ 15) ≡ true = grind (arith, nat_tests) in
    let made : ℕ × List ℕ = (0, rest) in
    ap (λ b. cond b (Some made) (some_in rest)) small
stamp_again (suc n) count rest low few =
    let large : nat_lt (count + 2 ^ 15) (2 ^ 15) ≡ false = grind (arith, nat_tests) in
    let bytes : List ℕ = to_be_bytes w32 (suc n) ++ rest in
    let none : ℕ × List ℕ = (0, bytes) in
    ap (λ b. cond b (Some none) (some_in bytes)) large ∙ some_format.again (suc n) rest (omega arith, low)

abbrev pub spell_fields : ℕ × List Value → List ℕ
spell_fields p = to_be_bytes w16 (stamped_count p.0 (length p.1)) ++ (stamp_bytes p.0 ++ values p.1)

abbrev pub FitFields : ℕ × List Value → Type 0
FitFields p = (p.0 < 2 ^ 32) × ((length p.1 < 2 ^ 15) × FitValues p.1)

fields_take : (bytes : List ℕ) (x : (ℕ × List Value) × List ℕ) → IsBytes bytes → fields_in bytes ≡ Some x → Takes bytes (spell_fields x.0) x.1 × FitFields x.0
unfolding fields_in
fields_take bytes x fits e =
    let a = bind_some (number_in w16 bytes) (λ n. stamp_in n.0 n.1 >>= λ stamp. values_in (n.0 % 2 ^ 15) stamp.1 >>= λ fields. Some ((stamp.0, fields.0), fields.1)) x e in
    let b = bind_some (stamp_in a.0.0 a.0.1) (λ stamp. values_in (a.0.0 % 2 ^ 15) stamp.1 >>= λ fields. Some ((stamp.0, fields.0), fields.1)) x a.2 in
    let c = bind_some (values_in (a.0.0 % 2 ^ 15) b.0.1) (λ fields. Some ((b.0.0, fields.0), fields.1)) x b.2 in
    let count = format16.takes bytes a.0 fits a.1 in
    let stamp = stamp_takes a.0.0 a.0.1 b.0 count.1 count.0.fits b.1 in
    let back = values_take (a.0.0 % 2 ^ 15) b.0.1 c.0 stamp.0.fits c.1 in
    let made : (ℕ × List Value) × List ℕ = ((b.0.0, c.0.0), c.0.1) in
    let counted_so : stamped_count b.0.0 (length c.0.0) ≡ a.0.0 = ap (stamped_count b.0.0) back.1 ∙ stamp.2 in
    let few : length c.0.0 < 2 ^ 15 = let is : length c.0.0 ≡ a.0.0 % 2 ^ 15 = back.1 in omega arith in
    let whole : bytes ≡ spell_fields (b.0.0, c.0.0) ++ c.0.1 =
    count.0.parts
    ∙ ap (λ (t : List ℕ). to_be_bytes w16 a.0.0 ++ t) (stamp.0.parts ∙ ap (λ (t : List ℕ). stamp_bytes b.0.0 ++ t) back.0.parts ∙ sym (append_assoc (stamp_bytes b.0.0) (values c.0.0) c.0.1))
    ∙ sym (append_assoc (to_be_bytes w16 a.0.0) (stamp_bytes b.0.0 ++ values c.0.0) c.0.1)
    ∙ ap (λ (n : ℕ). (to_be_bytes w16 n ++ (stamp_bytes b.0.0 ++ values c.0.0)) ++ c.0.1) (sym counted_so) in
    subst (λ (y : (ℕ × List Value) × List ℕ). Takes bytes (spell_fields y.0) y.1 × FitFields y.0) (same made x c.2)
    (record { parts = whole; fits = back.0.fits }, (stamp.1, (few, back.2)))

fields_again : (p : ℕ × List Value) (rest : List ℕ) → FitFields p → fields_in (spell_fields p ++ rest) ≡ Some (p, rest)
unfolding fields_in
fields_again p rest fits =
    let n : ℕ = stamped_count p.0 (length p.1) in
    let tail : List ℕ = values p.1 ++ rest in
    ap fields_in (append_assoc (to_be_bytes w16 n) (stamp_bytes p.0 ++ values p.1) rest ∙ ap (λ (t : List ℕ). to_be_bytes w16 n ++ t) (append_assoc (stamp_bytes p.0) (values p.1) rest))
    ∙ ap (λ o. o >>= λ (m : ℕ × List ℕ). stamp_in m.0 m.1 >>= λ stamp. values_in (m.0 % 2 ^ 15) stamp.1 >>= λ f. Some ((stamp.0, f.0), f.1)) (format16.again n (stamp_bytes p.0 ++ tail) (stamped_low p.0 (length p.1) fits.1.0))
    ∙ ap (λ o. o >>= λ (stamp : ℕ × List ℕ). values_in (n % 2 ^ 15) stamp.1 >>= λ f. Some ((stamp.0, f.0), f.1)) (stamp_again p.0 (length p.1) tail fits.0 fits.1.0)
    ∙ ap (λ (m : ℕ). values_in m tail >>= λ f. Some ((p.0, f.0), f.1)) (stamped_back p.0 (length p.1) fits.1.0)
    ∙ ap (λ o. o >>= λ (f : List Value × List ℕ). Some ((p.0, f.0), f.1)) (values_again p.1 rest fits.1.1)

pub fields_format : IsFormat (ℕ × List Value) spell_fields fields_in FitFields
fields_format = record { takes = fields_take; again = fields_again }

-- a count of arguments
abbrev pub spell_count : ℕ → List ℕ
spell_count n = spell_byte (n % 2 ^ 8)

count_same : (n : ℕ) → n < 2 ^ 8 → spell_count n ≡ spell_byte n
count_same n low = let same : n % 2 ^ 8 ≡ n = omega (arith, low) in ap spell_byte same

format_count : IsFormat ℕ spell_count byte_in (λ n. n < 2 ^ 8)
format_count = record {
  takes = λ bytes x are is.
      let took = format8.takes bytes x are is in
      (subst (λ (s : List ℕ). Takes bytes s x.1) (sym (count_same x.0 took.1)) took.0, took.1);
  again = λ n rest low. ap (λ (s : List ℕ). byte_in (s ++ rest)) (count_same n low) ∙ format8.again n rest low;
}

abbrev pub spell_args : List Value → List ℕ
spell_args vs = spell_count (length vs) ++ values vs

abbrev pub FitArgs : List Value → Type 0
FitArgs vs = (length vs < 2 ^ 8) × FitValues vs

pub args_format : IsFormat (List Value) spell_args args_in FitArgs
unfolding args_in
args_format = counted_format spell_count byte_in (2 ^ 8) format_count

-- both halves of what values keep
pub in_range : (vs : List Value) → FitValues vs → AreInRange vs
in_range [] fits = tt
in_range (v ∷ vs) fits = (fits.0.0, in_range vs fits.1)

pub are_kept : (vs : List Value) → FitValues vs → AreKept vs
are_kept [] fits = tt
are_kept (v ∷ vs) fits = (fits.0.1, are_kept vs fits.1)

pub fit_values : (vs : List Value) → AreInRange vs → AreKept vs → FitValues vs
fit_values [] ranges kept = tt
fit_values (v ∷ vs) ranges kept = ((ranges.0, kept.0), fit_values vs ranges.1 kept.1)
