-- A typed expression never reads what isn't there: where its fault is that of object 0, it follows null.
use Rattle.std.proofs.Common.{◌≡◌, ◌⊎◌, inl, inr, ◌||◌, ℕ, zero, Bool, true, false, cond, not, List, ◌++◌, length, Option, Some, None, Result, Ok, Err, refl, sym, ap, ◌∙◌, subst}
use Rattle.std.specs.Prelude.{ℤ, pos, negsuc, int_le, ◌&&◌, nat_le, ◌+ℤ◌, ◌-ℤ◌, ◌*ℤ◌, int_div, int_rem, slice_get}
use Rattle.std.specs.Cmp.Lexicographic.{slice_cmp}
use Rattle.std.specs.Option.{option_map, option_and_then, ok_or}
use Rattle.std.specs.Ordering.{nat_cmp, int_cmp, int_eq}
use Rattle.std.specs.declared.cmp.Ordering.{Ordering}
use Rattle.std.proofs.lemmas.Bool.{and_parts}
use Rattle.ode_value.specs.declared.arithmetic.Fault.{Fault}
use Rattle.ode_value.specs.declared.arithmetic.Fault.TheVariants.{Overflow, DivideByZero, NoObject, NoVersion}
use Rattle.ode_value.specs.declared.class.Class.{Class}
use Rattle.ode_value.specs.declared.class.Field.{Field}
use Rattle.ode_value.specs.declared.operator.BinOp.{BinOp}
use Rattle.ode_value.specs.declared.operator.BinOp.TheVariants.{Add, Sub, Mul, Div, Rem, Eq, Ne, Lt, Le, Gt, Ge, And, Or}
use Rattle.ode_value.specs.declared.operator.UnOp.{UnOp}
use Rattle.ode_value.specs.declared.operator.UnOp.TheVariants.{Minus, Not}
use Rattle.ode_value.specs.declared.statement.Expr.{Expr, roll-Expr, fold-roll-Expr, map-Expr, ind-Expr}
use Rattle.ode_value.specs.declared.statement.Expr.TheOpen as expr
use Rattle.ode_value.specs.declared.statement.Expr.TheVariants as checked
use Rattle.ode_value.specs.declared.statement.Sort.{Sort}
use Rattle.ode_value.specs.declared.statement.Sort.TheVariants as sort
use Rattle.ode_value.specs.declared.value.Ref.{Ref}
use Rattle.ode_value.specs.declared.value.Value.{Value}
use Rattle.ode_value.specs.declared.value.Value.TheVariants as value
use Rattle.ode_value.specs.Arithmetic.{within, by, is_arithmetic, int_result}
use Rattle.ode_value.specs.Denoting.{object_of, version_in, denoted}
use Rattle.ode_value.specs.Evaluation.{Frame, joined, combined, with_version, field_of, version_reference, at_ref, Evaluation, evaluation_of, evaluate}
use Rattle.ode_value.specs.Fitting.{FitsRef, FitsSort}
use Rattle.ode_value.specs.Limits.{text_limit}
use Rattle.ode_value.specs.Masks.{value_at, with_value, side}
use Rattle.ode_value.specs.Operators.{truth, int_value, compared, matched, unary_value, binary_value}
use Rattle.ode_value.specs.Same.{same_bool, same_ref}
use Rattle.ode_value.specs.Versions.{Version, version_of}
use Rattle.ode_value.specs.Worlds.{Object, Bones}
use Rattle.ode_types.specs.Sorts.{class_of, is_reference, is_of, are_of, are_ordered, are_equated, where_fit, unary_sort, binary_sort}
use Rattle.ode_sound_laws.specs.Fits.{all_alive, Fits, AreFit, IsReadable}
use Rattle.ode_types.specs.Kept.{Setting, Sorting, field_sort, sorting_of, sort_in}
use Rattle.ode_types.specs.Typing.{where_so}
use Rattle.ode_sound_laws.specs.Nulls.{FollowsNull, own, slot, version, in_slot, in_version, in_operand, in_first, in_second}
use Rattle.ode_sound_laws.specs.Sound.{AreSound, IsKnown}
use Rattle.ode_sound_laws.proofs.Basics.{if_some_at, some_and, then_some, map_some, so_some, zip_at}
use Rattle.ode_sound_laws.proofs.ExprLaws.{of_sort, fit_where, sort_class, field_at, denotes_fit, expr_fits}

-- ---- faults

-- not the fault of object 0
abbrev pub IsSound : Result Value Fault → Type 0
IsSound (Err (NoObject zero)) = ⊥
IsSound _ = Unit {0}

-- a result, or one of two faults
within_sound : (z : ℤ) → IsSound (int_value (within z))
within_sound z = by_test (int_le (negsuc 9223372036854775807) z && int_le z (pos 9223372036854775807)) where
  by_test : (t : Bool) → IsSound (int_value (cond t (Ok z) (Err Overflow)))
  by_test true = tt
  by_test false = tt

by_sound : (d z : ℤ) → IsSound (int_value (by d z))
by_sound d z = by_test (int_eq d (pos 0)) where
  by_test : (t : Bool) → IsSound (int_value (cond t (Err DivideByZero) (within z)))
  by_test true = tt
  by_test false = within_sound z

result_sound : (op : BinOp) (a b : ℤ) → IsSound (int_value (int_result op a b))
result_sound Add a b = within_sound (a +ℤ b)
result_sound Sub a b = within_sound (a -ℤ b)
result_sound Mul a b = within_sound (a *ℤ b)
result_sound Div a b = by_sound b (int_div a b)
result_sound _ a b = by_sound b (int_rem a b)

unary_sound : (b : Bones) (op : UnOp) (s : Option Sort) (t : Sort) → unary_sort op s ≡ Some t → (v : Value) → Fits b s v → IsSound (unary_value op v)
unary_sound b Minus s t e v h = by_value v (subst (λ w. Fits b w v) (of_sort sort.Int s (fit_where (is_of sort.Int s) sort.Int t e).0) h) where
  by_value : (v : Value) → Fits b (Some sort.Int) v → IsSound (unary_value Minus v)
  by_value (value.Int n) h = result_sound Sub (pos 0) n
  by_value _ h = absurd h
unary_sound b Not s t e v h = by_value v (subst (λ w. Fits b w v) (of_sort sort.Bool s (fit_where (is_of sort.Bool s) sort.Bool t e).0) h) where
  by_value : (v : Value) → Fits b (Some sort.Bool) v → IsSound (unary_value Not v)
  by_value (value.Bool n) h = tt
  by_value _ h = absurd h

module _ (b : Bones) (s t : Option Sort) (v w : Value) (one : Fits b s v) (two : Fits b t w) where
  both_of : (x : Sort) → are_of x s t ≡ true → Fits b (Some x) v × Fits b (Some x) w
  both_of x e =
      let parts = and_parts (is_of x s) (is_of x t) e in
      (subst (λ z. Fits b z v) (of_sort x s parts.0) one, subst (λ z. Fits b z w) (of_sort x t parts.1) two)

-- operands of one sort
ints_sound : (b : Bones) (op : BinOp) → is_arithmetic op ≡ true → (v w : Value) → Fits b (Some sort.Int) v → Fits b (Some sort.Int) w → IsSound (binary_value op v w)
ints_sound b op is (value.Int m) (value.Int n) one two = subst (λ t. IsSound (cond t (int_value (int_result op m n)) (compared op (int_cmp m n)))) (sym is) (result_sound op m n)
ints_sound b op is (value.Int m) _ one two = absurd two
ints_sound b op is _ w one two = absurd one

texts_sound : (b : Bones) (op : BinOp) → ((order : Ordering) → IsSound (compared op order)) → (v w : Value) → Fits b (Some sort.Text) v → Fits b (Some sort.Text) w → IsSound (binary_value op v w)
texts_sound b op does (value.Text m) (value.Text n) one two = does (slice_cmp nat_cmp m n)
texts_sound b op does (value.Text m) _ one two = absurd two
texts_sound b op does _ w one two = absurd one

orders_sound : (b : Bones) (op : BinOp) → is_arithmetic op ≡ false → ((order : Ordering) → IsSound (compared op order)) → (v w : Value) → Fits b (Some sort.Int) v → Fits b (Some sort.Int) w → IsSound (binary_value op v w)
orders_sound b op is does (value.Int m) (value.Int n) one two = subst (λ t. IsSound (cond t (int_value (int_result op m n)) (compared op (int_cmp m n)))) (sym is) (does (int_cmp m n))
orders_sound b op is does (value.Int m) _ one two = absurd two
orders_sound b op is does _ w one two = absurd one

bools_sound : (b : Bones) (op : BinOp) → ((same : Bool) → IsSound (matched op same)) → (v w : Value) → Fits b (Some sort.Bool) v → Fits b (Some sort.Bool) w → IsSound (binary_value op v w)
bools_sound b op does (value.Bool m) (value.Bool n) one two = does (same_bool m n)
bools_sound b op does (value.Bool m) _ one two = absurd two
bools_sound b op does _ w one two = absurd one

-- a reference, or null
abbrev IsRefValue : Value → Type 0
IsRefValue (value.Reference r) = Unit {0}
IsRefValue _ = ⊥

ref_value : (b : Bones) (s : Option Sort) → is_reference s ≡ true → (v : Value) → Fits b s v → IsRefValue v
ref_value b None is (value.Reference r) h = tt
ref_value b None is _ h = absurd h
ref_value b (Some (sort.Reference name)) is (value.Reference r) h = tt
ref_value b (Some (sort.Reference name)) is _ h = absurd h
ref_value b (Some sort.Int) is v h = absurd (cc)
ref_value b (Some sort.Bool) is v h = absurd (cc)
ref_value b (Some sort.Text) is v h = absurd (cc)
ref_value b (Some sort.Void) is v h = absurd (cc)

refs_sound : (op : BinOp) → ((same : Bool) → IsSound (matched op same)) → (v w : Value) → IsRefValue v → IsRefValue w → IsSound (binary_value op v w)
refs_sound op does (value.Reference r) (value.Reference q) one two = does (same_ref r q)
refs_sound op does (value.Reference r) _ one two = absurd two
refs_sound op does _ w one two = absurd one

either : (x y : Bool) → (x || y) ≡ true → (x ≡ true) ⊎ (y ≡ true)
either true y e = inl refl
either false y e = inr e

module _ (b : Bones) (s t : Option Sort) (v w : Value) (one : Fits b s v) (two : Fits b t w) where
  ordered_sound : (op : BinOp) → is_arithmetic op ≡ false → ((order : Ordering) → IsSound (compared op order)) → are_ordered s t ≡ true → IsSound (binary_value op v w)
  ordered_sound op is does e = by_or (either (are_of sort.Int s t) (are_of sort.Text s t) e) where
    by_or : (are_of sort.Int s t ≡ true) ⊎ (are_of sort.Text s t ≡ true) → IsSound (binary_value op v w)
    by_or (inl f) = let both = both_of b s t v w one two sort.Int f in orders_sound b op is does v w both.0 both.1
    by_or (inr f) = let both = both_of b s t v w one two sort.Text f in texts_sound b op does v w both.0 both.1

  equated_sound : (op : BinOp) → is_arithmetic op ≡ false → ((order : Ordering) → IsSound (compared op order)) → ((same : Bool) → IsSound (matched op same)) → are_equated s t ≡ true → IsSound (binary_value op v w)
  equated_sound op is does matches e = by_or (either (are_ordered s t || are_of sort.Bool s t) (is_reference s && is_reference t) e) where
    by_bool : (are_ordered s t ≡ true) ⊎ (are_of sort.Bool s t ≡ true) → IsSound (binary_value op v w)
    by_bool (inl f) = ordered_sound op is does f
    by_bool (inr f) = let both = both_of b s t v w one two sort.Bool f in bools_sound b op matches v w both.0 both.1

    by_or : ((are_ordered s t || are_of sort.Bool s t) ≡ true) ⊎ ((is_reference s && is_reference t) ≡ true) → IsSound (binary_value op v w)
    by_or (inl f) = by_bool (either (are_ordered s t) (are_of sort.Bool s t) f)
    by_or (inr f) = let parts = and_parts (is_reference s) (is_reference t) f in refs_sound op matches v w (ref_value b s parts.0 v one) (ref_value b t parts.1 w two)

  arithmetic_sound : (op : BinOp) (x : Sort) → is_arithmetic op ≡ true → where_fit (are_of sort.Int s t) sort.Int ≡ Some x → IsSound (binary_value op v w)
  arithmetic_sound op x is e = let both = both_of b s t v w one two sort.Int (fit_where (are_of sort.Int s t) sort.Int x e).0 in ints_sound b op is v w both.0 both.1

  joined_sound : (text : List ℕ) → IsSound (joined text)
  joined_sound text = by_test (nat_le (length text) text_limit) where
    by_test : (t : Bool) → IsSound (cond t (Ok (value.Text text)) (Err Overflow))
    by_test true = tt
    by_test false = tt

  add_sound : (plain : Bool) (x : Sort) → binary_sort plain Add s t ≡ Some x → IsSound (combined Add v w)
  add_sound plain x e = by_test (are_of sort.Text s t && not plain) refl e where
    texts : (v w : Value) → Fits b (Some sort.Text) v → Fits b (Some sort.Text) w → IsSound (combined Add v w)
    texts (value.Text m) (value.Text n) f g = joined_sound (m ++ n)
    texts (value.Text m) _ f g = absurd g
    texts _ w f g = absurd f

    ints : (v w : Value) → Fits b (Some sort.Int) v → Fits b (Some sort.Int) w → IsSound (combined Add v w)
    ints (value.Int m) (value.Int n) f g = result_sound Add m n
    ints (value.Int m) _ f g = absurd g
    ints _ w f g = absurd f

    by_test : (c : Bool) → (are_of sort.Text s t && not plain) ≡ c → cond c (Some sort.Text) (where_fit (are_of sort.Int s t) sort.Int) ≡ Some x → IsSound (combined Add v w)
    by_test true is g = let both = both_of b s t v w one two sort.Text (and_parts (are_of sort.Text s t) (not plain) is).0 in texts v w both.0 both.1
    by_test false is g = let both = both_of b s t v w one two sort.Int (fit_where (are_of sort.Int s t) sort.Int x g).0 in ints v w both.0 both.1

  combined_sound : (plain : Bool) (op : BinOp) (x : Sort) → binary_sort plain op s t ≡ Some x → (op ≡ And → ⊥) → (op ≡ Or → ⊥) → IsSound (combined op v w)
  combined_sound plain Add x e no_and no_or = add_sound plain x e
  combined_sound plain Sub x e no_and no_or = arithmetic_sound Sub x refl e
  combined_sound plain Mul x e no_and no_or = arithmetic_sound Mul x refl e
  combined_sound plain Div x e no_and no_or = arithmetic_sound Div x refl e
  combined_sound plain Rem x e no_and no_or = arithmetic_sound Rem x refl e
  combined_sound plain Eq x e no_and no_or = equated_sound Eq refl (λ order. tt) (λ same. tt) (fit_where (are_equated s t) sort.Bool x e).0
  combined_sound plain Ne x e no_and no_or = equated_sound Ne refl (λ order. tt) (λ same. tt) (fit_where (are_equated s t) sort.Bool x e).0
  combined_sound plain Lt x e no_and no_or = ordered_sound Lt refl (λ order. tt) (fit_where (are_ordered s t) sort.Bool x e).0
  combined_sound plain Le x e no_and no_or = ordered_sound Le refl (λ order. tt) (fit_where (are_ordered s t) sort.Bool x e).0
  combined_sound plain Gt x e no_and no_or = ordered_sound Gt refl (λ order. tt) (fit_where (are_ordered s t) sort.Bool x e).0
  combined_sound plain Ge x e no_and no_or = ordered_sound Ge refl (λ order. tt) (fit_where (are_ordered s t) sort.Bool x e).0
  combined_sound plain And x e no_and no_or = absurd (no_and refl)
  combined_sound plain Or x e no_and no_or = absurd (no_or refl)

unsound : (r : Result Value Fault) → IsSound r → r ≡ Err (NoObject 0) → ⊥
unsound r h e = subst IsSound e h

-- ---- look-ups

value_bad : (r : Result Value Fault) (next : Value → Result Value Fault) (f : Fault) → with_value r next ≡ Err f → (r ≡ Err f) ⊎ ((v : Value) × (r ≡ Ok v) × (next v ≡ Err f))
value_bad (Ok v) next f e = inr (v, refl, e)
value_bad (Err g) next f e = inl e

object_zero : (m n : ℕ) → ◌≡◌ {A = Result Value Fault} (Err (NoObject m)) (Err (NoObject n)) → m ≡ n
object_zero m n e = cc

-- a version that there isn't, of null alone
denoted_bad : (b : Bones) (r : Ref) (next : Version → Result Value Fault) → with_version (denoted b r) next ≡ Err (NoObject 0) → (r.object ≡ 0) ⊎ ((v : Version) × (denoted b r ≡ Ok v) × (next v ≡ Err (NoObject 0)))
denoted_bad b r next e = by_object (object_of b r) refl e where
  by_version : (o : Object) → object_of b r ≡ Some o → (m : Option Version) → version_of r.version o.versions ≡ m → with_version (ok_or m (NoVersion r)) next ≡ Err (NoObject 0)
      → (r.object ≡ 0) ⊎ ((v : Version) × (denoted b r ≡ Ok v) × (next v ≡ Err (NoObject 0)))
  by_version o is (Some v) at f = inr (v, ap (version_in r) is ∙ ap (λ m. ok_or m (NoVersion r)) at, f)
  by_version o is None at f = absurd (cc)

  by_object : (m : Option Object) → object_of b r ≡ m → with_version (version_in r m) next ≡ Err (NoObject 0) → (r.object ≡ 0) ⊎ ((v : Version) × (denoted b r ≡ Ok v) × (next v ≡ Err (NoObject 0)))
  by_object (Some o) is f = by_version o is (version_of r.version o.versions) refl f
  by_object None is f = inl (object_zero r.object 0 f)

value_there : (values : List Value) (place : ℕ) (v : Value) → slice_get values place ≡ Some v → value_at values place ≡ Err (NoObject 0) → ⊥
value_there values place v e f = ok_not_err (sym (ap (λ m. ok_or m (NoObject 0)) e) ∙ f) where
  ok_not_err : ◌≡◌ {A = Result Value Fault} (Ok v) (Err (NoObject 0)) → ⊥
  ok_not_err g = cc

module _ (b : Bones) (sound : AreSound b.classes) (fit : AreFit b) where
  field_bad : (c : Class) → IsKnown b.classes c → (r : Ref) → FitsRef (all_alive b) c.name r → (place : ℕ) (f : Field) → slice_get c.fields place ≡ Some f → field_of b place r ≡ Err (NoObject 0) → r.object ≡ 0
  field_bad c known r h place f at e = by_case (denoted_bad b r (λ v. value_at v.fields place) e) where
    by_case : (r.object ≡ 0) ⊎ ((v : Version) × (denoted b r ≡ Ok v) × (value_at v.fields place ≡ Err (NoObject 0))) → r.object ≡ 0
    by_case (inl z) = z
    by_case (inr g) =
        let d = denotes_fit b sound fit c.name r h g.0 g.1 in
        let field : slice_get d.fits.class.fields place ≡ Some f = sound.fields d.object.class c d.fits.class known d.is d.fits.known place f at in
        let value = zip_at (λ (k : Field). FitsSort (all_alive b) k.sort) d.fits.class.fields g.0.fields d.version.fields place f field in
        absurd (value_there g.0.fields place value.0 value.1 g.2)

  version_bad : (r : Ref) → version_reference b r ≡ Err (NoObject 0) → r.object ≡ 0
  version_bad r e = by_case (denoted_bad b r (λ v. Ok (value.Reference (record { object = r.object; version = Some v.number }))) e) where
    by_case : (r.object ≡ 0) ⊎ ((v : Version) × (denoted b r ≡ Ok v) × (Ok (value.Reference (record { object = r.object; version = Some v.number })) ≡ Err (NoObject 0))) → r.object ≡ 0
    by_case (inl z) = z
    by_case (inr g) = absurd (not_err g.0 g.2) where
      not_err : (v : Version) → ◌≡◌ {A = Result Value Fault} (Ok (value.Reference (record { object = r.object; version = Some v.number }))) (Err (NoObject 0)) → ⊥
      not_err v f = cc

-- ---- expressions

abbrev Claim : Expr → Type 0
Claim e = (b : Bones) (at : Setting) (frame : Frame) → IsReadable b at frame → (s : Option Sort) → sort_in e at ≡ Some s → evaluate e b frame ≡ Err (NoObject 0) → FollowsNull b frame e

abbrev Level : expr.Expr-F Expr → Type 0
Level d = (b : Bones) (at : Setting) (frame : Frame) → IsReadable b at frame → (s : Option Sort) → sorting_of (map-Expr Expr Sorting sort_in d) at ≡ Some s
    → evaluation_of (map-Expr Expr Evaluation evaluate d) b frame ≡ Err (NoObject 0) → FollowsNull b frame (roll-Expr d)

via : (d : expr.Expr-F Expr) → Level d → Claim (roll-Expr d)
unfolding sort_in evaluate
via d level b at frame h s typed is =
    level b at frame h s (ap (λ f. f at) (sym (fold-roll-Expr Sorting sorting_of d)) ∙ typed) (ap (λ f. f b frame) (sym (fold-roll-Expr Evaluation evaluation_of d)) ∙ is)

slot_bad : (b : Bones) (frame : Frame) (e : Expr) (place : ℕ) (sound : AreSound b.classes) (fit : AreFit b) (c : Class) → IsKnown b.classes c → (f : Field) → slice_get c.fields place ≡ Some f → (v : Value) → Fits b (Some (sort.Reference c.name)) v
    → evaluate e b frame ≡ Ok v → at_ref (field_of b place) v ≡ Err (NoObject 0) → FollowsNull b frame (checked.Slot e place)
slot_bad b frame e place sound fit c known f at (value.Reference r) h is bad = slot e place r is (field_bad b sound fit c known r h place f at bad)
slot_bad b frame e place sound fit c known f at _ h is bad = absurd h

version_of_bad : (b : Bones) (frame : Frame) (e : Expr) (sound : AreSound b.classes) (fit : AreFit b) (v : Value) → IsRefValue v → evaluate e b frame ≡ Ok v → at_ref (version_reference b) v ≡ Err (NoObject 0) → FollowsNull b frame (checked.Version e)
version_of_bad b frame e sound fit (value.Reference r) h is bad = version e r is (version_bad b sound fit r bad)
version_of_bad b frame e sound fit _ h is bad = absurd h

ok_bad : (v : Value) → ◌≡◌ {A = Result Value Fault} (Ok v) (Err (NoObject 0)) → ⊥
ok_bad v e = cc

parts : (y : expr.Expr-F ((e : Expr) × Claim e)) → Level (map-Expr ((e : Expr) × Claim e) Expr (λ p. p.0) y)
parts (expr.Lit v) b at frame h s typed is = absurd (ok_bad v is)
parts (expr.Local place) b at frame h s typed is =
    let it = map_some (λ (t : Sort). Some t) (option_and_then (λ t. t) (slice_get at.slots place)) s typed in
    let slot_is = then_some (λ (t : Option Sort). t) (slice_get at.slots place) it.0 it.1 in
    let fits = some_and (Fits b (Some it.0)) (slice_get frame.locals place) (h.here.slots place it.0 (slot_is.1 ∙ ap Some slot_is.2)) in
    absurd (value_there frame.locals place fits.0 fits.1 is)
parts (expr.Own place) b at frame h s typed is =
    let it = field_at at.class place s typed in
    let known : IsKnown b.classes it.0 = if_some_at (IsKnown b.classes) at.class h.here.known it.0 it.2 in
    let this : FitsRef (all_alive b) it.0.name frame.this = if_some_at (λ (c : Class). FitsRef (all_alive b) c.name frame.this) at.class h.here.this it.0 it.2 in
    subst (FollowsNull b frame) (sym (checked.rolls-Own place)) (own place (field_bad b h.sound h.fit it.0 known frame.this this place it.1 it.3 is))
parts expr.This b at frame h s typed is = absurd (ok_bad (value.Reference frame.this) is)
parts (expr.Slot e place) b at frame h s typed is =
    let so = so_some (not at.is_plain) (option_and_then (λ t. field_sort (class_of at.classes t) place) (sort_in e.0 at)) s typed in
    let of = then_some (λ t. field_sort (class_of at.classes t) place) (sort_in e.0 at) s so.1 in
    let field = field_at (class_of at.classes of.0) place s of.2 in
    let class = sort_class b h.sound of.0 field.0 (subst (λ cs. class_of cs of.0 ≡ Some field.0) h.here.classes field.2) in
    subst (FollowsNull b frame) (sym (checked.rolls-Slot e.0 place)) (by_case of.0 of.1 field.0 class.0 class.1 field.1 field.3 (value_bad (evaluate e.0 b frame) (at_ref (field_of b place)) (NoObject 0) is))
  where
    by_case : (t : Option Sort) → sort_in e.0 at ≡ Some t → (c : Class) → IsKnown b.classes c → t ≡ Some (sort.Reference c.name) → (f : Field) → slice_get c.fields place ≡ Some f
        → (evaluate e.0 b frame ≡ Err (NoObject 0)) ⊎ ((v : Value) × (evaluate e.0 b frame ≡ Ok v) × (at_ref (field_of b place) v ≡ Err (NoObject 0))) → FollowsNull b frame (checked.Slot e.0 place)
    by_case t sorts c known class f at_it (inl g) = in_slot e.0 place (e.1 b at frame h t sorts g)
    by_case t sorts c known class f at_it (inr g) = slot_bad b frame e.0 place h.sound h.fit c known f at_it g.0 (subst (λ u. Fits b u g.0) class (expr_fits e.0 b at frame h t sorts g.0 g.1)) g.1 g.2
parts (expr.Version e) b at frame h s typed is =
    let so = so_some (not at.is_plain) (option_and_then (λ t. where_so (is_reference t) (Some t)) (sort_in e.0 at)) s typed in
    let of = then_some (λ t. where_so (is_reference t) (Some t)) (sort_in e.0 at) s so.1 in
    let reference = so_some (is_reference of.0) (Some of.0) s of.2 in
    subst (FollowsNull b frame) (sym (checked.rolls-Version e.0)) (by_case of.0 of.1 reference.0 (value_bad (evaluate e.0 b frame) (at_ref (version_reference b)) (NoObject 0) is))
  where
    by_case : (t : Option Sort) → sort_in e.0 at ≡ Some t → is_reference t ≡ true → (evaluate e.0 b frame ≡ Err (NoObject 0)) ⊎ ((v : Value) × (evaluate e.0 b frame ≡ Ok v) × (at_ref (version_reference b) v ≡ Err (NoObject 0)))
        → FollowsNull b frame (checked.Version e.0)
    by_case t sorts reference (inl g) = in_version e.0 (e.1 b at frame h t sorts g)
    by_case t sorts reference (inr g) = version_of_bad b frame e.0 h.sound h.fit g.0 (ref_value b t reference g.0 (expr_fits e.0 b at frame h t sorts g.0 g.1)) g.1 g.2
parts (expr.Unary op e) b at frame h s typed is =
    let of = then_some (λ t. option_map (λ (x : Sort). Some x) (unary_sort op t)) (sort_in e.0 at) s typed in
    let it = map_some (λ (x : Sort). Some x) (unary_sort op of.0) s of.2 in
    subst (FollowsNull b frame) (sym (checked.rolls-Unary op e.0)) (by_case of.0 of.1 it.0 it.1 (value_bad (evaluate e.0 b frame) (unary_value op) (NoObject 0) is))
  where
    by_case : (t : Option Sort) → sort_in e.0 at ≡ Some t → (x : Sort) → unary_sort op t ≡ Some x → (evaluate e.0 b frame ≡ Err (NoObject 0)) ⊎ ((v : Value) × (evaluate e.0 b frame ≡ Ok v) × (unary_value op v ≡ Err (NoObject 0)))
        → FollowsNull b frame (checked.Unary op e.0)
    by_case t sorts x sort_is (inl g) = in_operand op e.0 (e.1 b at frame h t sorts g)
    by_case t sorts x sort_is (inr g) = absurd (unsound (unary_value op g.0) (unary_sound b op t x sort_is g.0 (expr_fits e.0 b at frame h t sorts g.0 g.1)) g.2)
parts (expr.Binary op e f) b at frame h s typed is =
    let of = then_some (λ t. option_and_then (λ w. option_map (λ (x : Sort). Some x) (binary_sort at.is_plain op t w)) (sort_in f.0 at)) (sort_in e.0 at) s typed in
    let to = then_some (λ w. option_map (λ (x : Sort). Some x) (binary_sort at.is_plain op of.0 w)) (sort_in f.0 at) s of.2 in
    let it = map_some (λ (x : Sort). Some x) (binary_sort at.is_plain op of.0 to.0) s to.2 in
    subst (FollowsNull b frame) (sym (checked.rolls-Binary op e.0 f.0)) (by_op op it.0 of.0 to.0 of.1 to.1 it.1 is)
  where
    the_second : (op : BinOp) (t w : Option Sort) → sort_in e.0 at ≡ Some t → sort_in f.0 at ≡ Some w → (v : Value) → evaluate e.0 b frame ≡ Ok v → ((z : Value) → evaluate f.0 b frame ≡ Ok z → IsSound (combined op v z))
        → with_value (evaluate f.0 b frame) (combined op v) ≡ Err (NoObject 0) → FollowsNull b frame (checked.Binary op e.0 f.0)
    the_second op t w one two v is_v sound g = by_case (value_bad (evaluate f.0 b frame) (combined op v) (NoObject 0) g) where
      by_case : (evaluate f.0 b frame ≡ Err (NoObject 0)) ⊎ ((z : Value) × (evaluate f.0 b frame ≡ Ok z) × (combined op v z ≡ Err (NoObject 0))) → FollowsNull b frame (checked.Binary op e.0 f.0)
      by_case (inl k) = in_second op e.0 f.0 (f.1 b at frame h w two k)
      by_case (inr k) = absurd (unsound (combined op v k.0) (sound k.0 k.1) k.2)

    plainly : (op : BinOp) → (op ≡ And → ⊥) → (op ≡ Or → ⊥) → (x : Sort) (t w : Option Sort) → sort_in e.0 at ≡ Some t → sort_in f.0 at ≡ Some w → binary_sort at.is_plain op t w ≡ Some x
        → with_value (evaluate e.0 b frame) (λ v. with_value (evaluate f.0 b frame) (combined op v)) ≡ Err (NoObject 0) → FollowsNull b frame (checked.Binary op e.0 f.0)
    plainly op no_and no_or x t w one two sorts g = by_case (value_bad (evaluate e.0 b frame) (λ v. with_value (evaluate f.0 b frame) (combined op v)) (NoObject 0) g) where
      by_case : (evaluate e.0 b frame ≡ Err (NoObject 0)) ⊎ ((v : Value) × (evaluate e.0 b frame ≡ Ok v) × (with_value (evaluate f.0 b frame) (combined op v) ≡ Err (NoObject 0))) → FollowsNull b frame (checked.Binary op e.0 f.0)
      by_case (inl k) = in_first op e.0 f.0 (e.1 b at frame h t one k)
      by_case (inr k) =
          the_second op t w one two k.0 k.1 (λ z is_z. combined_sound b t w k.0 z (expr_fits e.0 b at frame h t one k.0 k.1) (expr_fits f.0 b at frame h w two z is_z) at.is_plain op x sorts no_and no_or) k.2

    sided : (op : BinOp) (t w : Option Sort) → sort_in e.0 at ≡ Some t → sort_in f.0 at ≡ Some w → are_of sort.Bool t w ≡ true → (first second : Result Value Fault)
        → ((first ≡ Err (NoObject 0)) → FollowsNull b frame (checked.Binary op e.0 f.0)) → ((second ≡ Err (NoObject 0)) → FollowsNull b frame (checked.Binary op e.0 f.0))
        → with_value (evaluate e.0 b frame) (λ v. side v first second) ≡ Err (NoObject 0) → FollowsNull b frame (checked.Binary op e.0 f.0)
    sided op t w one two are first second left right g = by_case (value_bad (evaluate e.0 b frame) (λ v. side v first second) (NoObject 0) g) where
      by_value : (v : Value) → Fits b (Some sort.Bool) v → side v first second ≡ Err (NoObject 0) → FollowsNull b frame (checked.Binary op e.0 f.0)
      by_value (value.Bool true) fits k = left k
      by_value (value.Bool false) fits k = right k
      by_value (value.Int n) fits k = absurd fits
      by_value (value.Text n) fits k = absurd fits
      by_value (value.Reference n) fits k = absurd fits

      by_case : (evaluate e.0 b frame ≡ Err (NoObject 0)) ⊎ ((v : Value) × (evaluate e.0 b frame ≡ Ok v) × (side v first second ≡ Err (NoObject 0))) → FollowsNull b frame (checked.Binary op e.0 f.0)
      by_case (inl k) = in_first op e.0 f.0 (e.1 b at frame h t one k)
      by_case (inr k) =
          by_value k.0 (subst (λ u. Fits b u k.0) (of_sort sort.Bool t (and_parts (is_of sort.Bool t) (is_of sort.Bool w) are).0) (expr_fits e.0 b at frame h t one k.0 k.1)) k.2

    by_op : (op : BinOp) (x : Sort) (t w : Option Sort) → sort_in e.0 at ≡ Some t → sort_in f.0 at ≡ Some w → binary_sort at.is_plain op t w ≡ Some x
        → evaluation_of (expr.Binary op (evaluate e.0) (evaluate f.0)) b frame ≡ Err (NoObject 0) → FollowsNull b frame (checked.Binary op e.0 f.0)
    by_op And x t w one two sorts g =
        sided And t w one two (fit_where (are_of sort.Bool t w) sort.Bool x sorts).0 (evaluate f.0 b frame) (truth false) (λ k. in_second And e.0 f.0 (f.1 b at frame h w two k)) (λ k. absurd (ok_bad (value.Bool false) k)) g
    by_op Or x t w one two sorts g =
        sided Or t w one two (fit_where (are_of sort.Bool t w) sort.Bool x sorts).0 (truth true) (evaluate f.0 b frame) (λ k. absurd (ok_bad (value.Bool true) k)) (λ k. in_second Or e.0 f.0 (f.1 b at frame h w two k)) g
    by_op Add x t w one two sorts g = plainly Add (λ k. cc) (λ k. cc) x t w one two sorts g
    by_op Sub x t w one two sorts g = plainly Sub (λ k. cc) (λ k. cc) x t w one two sorts g
    by_op Mul x t w one two sorts g = plainly Mul (λ k. cc) (λ k. cc) x t w one two sorts g
    by_op Div x t w one two sorts g = plainly Div (λ k. cc) (λ k. cc) x t w one two sorts g
    by_op Rem x t w one two sorts g = plainly Rem (λ k. cc) (λ k. cc) x t w one two sorts g
    by_op Eq x t w one two sorts g = plainly Eq (λ k. cc) (λ k. cc) x t w one two sorts g
    by_op Ne x t w one two sorts g = plainly Ne (λ k. cc) (λ k. cc) x t w one two sorts g
    by_op Lt x t w one two sorts g = plainly Lt (λ k. cc) (λ k. cc) x t w one two sorts g
    by_op Le x t w one two sorts g = plainly Le (λ k. cc) (λ k. cc) x t w one two sorts g
    by_op Gt x t w one two sorts g = plainly Gt (λ k. cc) (λ k. cc) x t w one two sorts g
    by_op Ge x t w one two sorts g = plainly Ge (λ k. cc) (λ k. cc) x t w one two sorts g
parts (expr.Name name) b at frame h s typed is = absurd (cc)
parts (expr.Field e name) b at frame h s typed is = absurd (cc)

pub nulls_alone : (e : Expr) → Claim e
nulls_alone = ind-Expr Claim (λ x y is. subst (λ d. Claim (roll-Expr d)) is (via (map-Expr ((e : Expr) × Claim e) Expr (λ p. p.0) y) (parts y)))
