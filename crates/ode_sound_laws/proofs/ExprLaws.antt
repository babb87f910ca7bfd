-- The value of a typed expression fits its sort.
use Rattle.std.proofs.Common.{◌≡◌, ℕ, zero, suc, ◌<◌, ◌≤◌, ◌^◌, Bool, true, false, cond, not, List, [], ◌∷◌, ◌==◌, Option, Some, None, Result, Ok, Err, refl, sym, ap, ◌∙◌, subst, arith}
use Rattle.std.specs.Prelude.{◌&&◌, is_none, slice_get}
use Rattle.std.specs.List.{AllByRecursion, find}
use Rattle.std.specs.Option.{option_map, option_and_then}
use Rattle.std.proofs.lemmas.Bool.{and_parts}
use Rattle.std.proofs.lemmas.Slice.Eq.{bytes_eq-Decides}
use Rattle.std.proofs.lemmas.Bool.Decides.{Decides-eqb}
use Rattle.ode_value.specs.declared.arithmetic.Fault.{Fault}
use Rattle.ode_value.specs.declared.arithmetic.Fault.TheVariants.{NoObject, NoVersion}
use Rattle.ode_value.specs.declared.class.Class.{Class}
use Rattle.ode_value.specs.declared.class.Field.{Field}
use Rattle.ode_value.specs.declared.operator.BinOp.{BinOp}
use Rattle.ode_value.specs.declared.operator.BinOp.TheVariants.{Add, Sub, Mul, Div, Rem, Eq, Ne, Lt, Le, Gt, Ge, And, Or}
use Rattle.ode_value.specs.declared.operator.UnOp.{UnOp}
use Rattle.ode_value.specs.declared.operator.UnOp.TheVariants.{Minus, Not}
use Rattle.ode_value.specs.declared.statement.Expr.{Expr, roll-Expr, fold-roll-Expr, map-Expr, ind-Expr}
use Rattle.ode_value.specs.declared.statement.Expr.TheOpen as expr
use Rattle.ode_value.specs.declared.statement.Sort.{Sort}
use Rattle.ode_value.specs.declared.statement.Sort.TheVariants as sort
use Rattle.ode_value.specs.declared.value.Ref.{Ref}
use Rattle.ode_value.specs.declared.value.Value.{Value}
use Rattle.ode_value.specs.declared.value.Value.TheVariants as value
use Rattle.ode_value.specs.Arithmetic.{is_arithmetic}
use Rattle.ode_value.specs.Classes.{is_a}
use Rattle.ode_value.specs.Denoting.{object_numbered, object_at, object_of, version_in, denoted}
use Rattle.ode_value.specs.Evaluation.{Frame, combined, field_of, version_reference, with_version, at_ref, Evaluation, evaluation_of, evaluate}
use Rattle.ode_value.specs.Fitting.{FitsObject, FitsRef, FitsSort}
use Rattle.ode_value.specs.Masks.{value_at, with_value, side}
use Rattle.ode_value.specs.Operators.{truth, unary_value, binary_value}
use Rattle.ode_value.specs.Same.{same_ref, same_sort, same_version}
use Rattle.ode_value.specs.Versions.{Version, version_numbered, newest, version_of}
use Rattle.ode_value.specs.Worlds.{Object, Bones}
use Rattle.ode_types.specs.Families as families
use Rattle.ode_types.specs.Sorts.{class_of, is_reference, is_of, are_of, where_fit, unary_sort, binary_sort, are_equated, are_ordered}
use Rattle.ode_laws.proofs.AlikePairs.{all_found}
use Rattle.ode_laws.proofs.Each.{all-find}
use Rattle.ode_laws.proofs.Rows.{at_numbered}
use Rattle.ode_sound_laws.specs.Fits.{alive, all_alive, IsNull, Fits, FitsLiteral, FitsVersion, FitsWorld, AreFit, IsReadable}
use Rattle.ode_types.specs.Kept.{Setting, Sorting, field_sort, sorting_of, sort_in}
use Rattle.ode_types.specs.Typing.{where_so, is_int, is_text, literal_class, value_sort}
use Rattle.ode_sound_laws.specs.Sound.{AreSound, IsKnown, checked_classes}
use Rattle.ode_sound_laws.proofs.Basics.{if_some_at, if_some_from, some_and, then_some, map_some, so_some, same_some, same_ok, or_ok, value_ok, zip_at, found_same}
use Rattle.ode_sound_laws.proofs.FitLaws.{alive_of, of_live}
use Rattle.ode_sound_laws.proofs.ValueLaws.{is_int_fits, IsInt, IsBool, IsTextValue, minus_fits, not_fits, sum_fits, test_fits, joined_fits, is_text_fits}

-- ---- sorts

pub sort_same : (s t : Sort) → same_sort s t ≡ true → s ≡ t
sort_same sort.Int sort.Int e = refl
sort_same sort.Bool sort.Bool e = refl
sort_same sort.Text sort.Text e = refl
sort_same (sort.Reference m) (sort.Reference n) e = ap sort.Reference ((bytes_eq-Decides m n).0 e)
sort_same sort.Void sort.Void e = refl
sort_same _ _ e = absurd (cc)

pub of_sort : (s : Sort) (a : Option Sort) → is_of s a ≡ true → a ≡ Some s
of_sort s (Some t) e = ap Some (sym (sort_same s t e))
of_sort s None e = absurd (cc)

-- what fits a sort fits it, void or not
pub sort_fits : (b : Bones) (s : Sort) (v : Value) → FitsSort (all_alive b) s v → Fits b (Some s) v
sort_fits b sort.Int v h = h
sort_fits b sort.Bool v h = h
sort_fits b sort.Text v h = h
sort_fits b (sort.Reference name) v h = h
sort_fits b sort.Void v h = tt

int_in : (b : Bones) (v : Value) → Fits b (Some sort.Int) v → IsInt v
int_in b (value.Int n) h = h
int_in b _ h = absurd h

bool_in : (b : Bones) (v : Value) → Fits b (Some sort.Bool) v → IsBool v
bool_in b (value.Bool t) h = h
bool_in b _ h = absurd h

text_in : (b : Bones) (v : Value) → Fits b (Some sort.Text) v → IsTextValue v
text_in b (value.Text t) h = h
text_in b _ h = absurd h

pub int_fits : (b : Bones) (v : Value) → IsInt v → Fits b (Some sort.Int) v
int_fits b (value.Int n) h = h
int_fits b _ h = absurd h

pub bool_fits : (b : Bones) (v : Value) → IsBool v → Fits b (Some sort.Bool) v
bool_fits b (value.Bool n) h = h
bool_fits b _ h = absurd h

text_fits : (b : Bones) (v : Value) → IsTextValue v → Fits b (Some sort.Text) v
text_fits b (value.Text n) h = h
text_fits b _ h = absurd h

-- ---- what a reference denotes

version_ok : (r : Ref) (o : Option Object) (v : Version) → version_in r o ≡ Ok v → (p : Object) × (o ≡ Some p) × (version_of r.version p.versions ≡ Some v)
version_ok r (Some p) v e = (p, refl, or_ok (version_of r.version p.versions) (NoVersion r) v e)
version_ok r None v e = absurd (cc)

-- the object, which is live, and its version
pub denoted_ok : (b : Bones) (r : Ref) (v : Version) → denoted b r ≡ Ok v
    → (p : Object) × ((r.object == 0) ≡ false) × (object_at b r.object ≡ Some p) × (object_numbered r.object b.objects ≡ Some p) × (version_of r.version p.versions ≡ Some v)
denoted_ok b r v e =
    let it = version_ok r (object_of b r) v e in
    let live = of_live b r it.0 it.1 in
    (it.0, live.0, live.1, at_numbered b r.object it.0 live.1, it.2)

numbered_all : (P : Version → Type 0) (number : ℕ) (vs : List Version) → AllByRecursion P vs → (v : Version) → version_numbered number vs ≡ Some v → P v
numbered_all P number [] all v e = absurd (cc)
numbered_all P number (w ∷ vs) all v e = by_test (w.number == number) e (numbered_all P number vs all.1 v) where
  by_test : (t : Bool) → cond t (Some w) (version_numbered number vs) ≡ Some v → (version_numbered number vs ≡ Some v → P v) → P v
  by_test true f rest = subst P (same_some w v f) all.0
  by_test false f rest = rest f

newest_all : (P : Version → Type 0) (vs : List Version) → AllByRecursion P vs → (v : Version) → newest vs ≡ Some v → P v
newest_all P [] all v e = absurd (cc)
newest_all P (w ∷ []) all v e = subst P (same_some w v e) all.0
newest_all P (w ∷ u ∷ vs) all v e = newest_all P (u ∷ vs) all.1 v e

pub version_all : (P : Version → Type 0) (number : Option ℕ) (vs : List Version) → AllByRecursion P vs → (v : Version) → version_of number vs ≡ Some v → P v
version_all P None vs all v e = newest_all P vs all v e
version_all P (Some number) vs all v e = numbered_all P number vs all v e

with_ok : (r : Result Version Fault) (next : Version → Result Value Fault) (u : Value) → with_version r next ≡ Ok u → (v : Version) × (r ≡ Ok v) × (next v ≡ Ok u)
with_ok (Ok v) next u e = (v, refl, e)
with_ok (Err fault) next u e = absurd (cc)

module _ (b : Bones) (sound : AreSound b.classes) (fit : AreFit b) where
  -- the version that a reference to one of a class denotes: the object fits the class, and the version fits the object's
  pub record Denotes (class : List ℕ) (r : Ref) (v : Version) : Type 0 where
    pub object : Object
    pub some : (r.object == 0) ≡ false
    pub at : object_at b r.object ≡ Some object
    pub found : object_numbered r.object b.objects ≡ Some object
    pub fits : FitsWorld b object
    pub is : is_a b.classes object.class class ≡ true
    pub of : version_of r.version object.versions ≡ Some v
    pub version : FitsVersion b fits.class object.last v

  pub denotes_fit : (class : List ℕ) (r : Ref) → FitsRef (all_alive b) class r → (v : Version) → denoted b r ≡ Ok v → Denotes class r v
  denotes_fit class r h v e =
      let it = denoted_ok b r v e in
      let fits : FitsWorld b it.0 = all_found (FitsWorld b) r.object b.objects fit.objects it.0 it.3 in
      let of_class : FitsObject (all_alive b) class r (alive it.0) = if_some_at (FitsObject (all_alive b) class r) (object_of (all_alive b) r) h.object (alive it.0) (alive_of b r it.0 it.1 it.3) in
      record {
        object = it.0;
        some = it.1;
        at = it.2;
        found = it.3;
        fits = fits;
        is = of_class.fits;
        of = it.4;
        version = version_all (FitsVersion b fits.class it.0.last) r.version it.0.versions fits.versions v it.4;
      }

  -- a field of what a reference denotes
  pub field_fits : (c : Class) → IsKnown b.classes c → (r : Ref) → FitsRef (all_alive b) c.name r → (place : ℕ) (f : Field) → slice_get c.fields place ≡ Some f → (u : Value) → field_of b place r ≡ Ok u
      → Fits b (Some f.sort) u
  field_fits c known r h place f at u e =
      let it = with_ok (denoted b r) (λ v. value_at v.fields place) u e in
      let d = denotes_fit c.name r h it.0 it.1 in
      let field : slice_get d.fits.class.fields place ≡ Some f = sound.fields d.object.class c d.fits.class known d.is d.fits.known place f at in
      let value = zip_at (λ (g : Field). FitsSort (all_alive b) g.sort) d.fits.class.fields it.0.fields d.version.fields place f field in
      let same : value.0 ≡ u = same_some value.0 u (sym value.1 ∙ or_ok (slice_get it.0.fields place) (NoObject 0) u it.2) in
      subst (Fits b (Some f.sort)) same (sort_fits b f.sort value.0 value.2)

  -- the reference to the version
  pub version_fits : (class : List ℕ) (r : Ref) → FitsRef (all_alive b) class r → (u : Value) → version_reference b r ≡ Ok u → Fits b (Some (sort.Reference class)) u
  version_fits class r h u e =
      let it = with_ok (denoted b r) (λ v. Ok (value.Reference (record { object = r.object; version = Some v.number }))) u e in
      let d = denotes_fit class r h it.0 it.1 in
      subst (Fits b (Some (sort.Reference class))) (same_ok (value.Reference (record { object = r.object; version = Some it.0.number })) u it.2) (record {
        is = record {
          object = h.is.object;
          version = (not_zero r.object d.some, d.version.some, let low : it.0.number ≤ d.object.last = d.version.number in let high : d.object.last < 2 ^ 32 = d.fits.last in omega arith);
        };
        drawn = h.drawn;
        object = if_some_from (FitsObject (all_alive b) class (record { object = r.object; version = Some it.0.number })) (object_of (all_alive b) r) (λ o there.
            let was = if_some_at (FitsObject (all_alive b) class r) (object_of (all_alive b) r) h.object o there in
            let same : alive d.object ≡ o = found_same (object_of (all_alive b) r) (alive d.object) o (alive_of b r d.object d.some d.found) there in
            record { fits = was.fits; version = subst (λ (p : Object). it.0.number ≤ p.last) same d.version.number });
      })
    where
      not_zero : (n : ℕ) → (n == 0) ≡ false → 0 < n
      not_zero zero z = absurd (cc)
      not_zero (suc n) z = omega arith

  null_denotes : (r : Ref) (v : Version) → IsNull r → denoted b r ≡ Ok v → ⊥
  null_denotes r v null e = let it = denoted_ok b r v e in absurd (cc)

-- ---- one level

some_ok : {X : Type 0} (s : X) (o : Option X) → option_map (λ (x : X). Some x) o ≡ Some (Some s) → o ≡ Some s
some_ok s (Some x) e = ap Some (same_some x s (same_some (Some x) (Some s) e))
some_ok s None e = absurd (cc)

pub fit_where : (b : Bool) (s : Sort) (t : Sort) → where_fit b s ≡ Some t → (b ≡ true) × (s ≡ t)
fit_where true s t e = (refl, same_some s t e)
fit_where false s t e = absurd (cc)

ref_same : (r l : Ref) → same_ref l r ≡ true → l ≡ r
ref_same r l e =
    let parts = and_parts (l.object == r.object) (same_version l.version r.version) e in
    let version : l.version ≡ r.version = versions_same l.version r.version parts.1 in
    ap (λ n. record { object = n; version = l.version }) ((Decides-eqb l.object r.object).0 parts.0) ∙ ap (λ v. record { object = r.object; version = v }) version
  where
    versions_same : (m n : Option ℕ) → same_version m n ≡ true → m ≡ n
    versions_same None None f = refl
    versions_same (Some m) (Some n) f = ap Some ((Decides-eqb m n).0 f)
    versions_same None (Some n) f = absurd (cc)
    versions_same (Some m) None f = absurd (cc)

pub find_passes : {X : Type 0} (p : X → Bool) (xs : List X) (x : X) → find p xs ≡ Some x → p x ≡ true
find_passes p [] x e = absurd (cc)
find_passes p (y ∷ ys) x e = by_test (p y) refl e (find_passes p ys x) where
  by_test : (t : Bool) → p y ≡ t → cond t (Some y) (find p ys) ≡ Some x → (find p ys ≡ Some x → p x ≡ true) → p x ≡ true
  by_test true is f rest = subst (λ z. p z ≡ true) (same_some y x f) is
  by_test false is f rest = rest f

-- a literal that is known
literal_fits : (b : Bones) (at : Setting) (frame : Frame) → IsReadable b at frame → (r : Ref) → (r.object == 0) ≡ false → (c : Class) → literal_class at.classes at.literals r ≡ Some c → FitsRef (all_alive b) c.name r
literal_fits b at frame h r some c e =
    let number = then_some (families.class_numbered at.classes) (option_map (λ (l : Ref × ℕ). l.1) (find (λ (l : Ref × ℕ). same_ref l.0 r) at.literals)) c e in
    let literal = map_some (λ (l : Ref × ℕ). l.1) (find (λ (l : Ref × ℕ). same_ref l.0 r) at.literals) number.0 number.1 in
    let fits : FitsLiteral b literal.0 = all-find (FitsLiteral b) (λ (l : Ref × ℕ). same_ref l.0 r) at.literals h.here.literals literal.0 literal.1 in
    let same : literal.0.0 ≡ r = ref_same r literal.0.0 (find_passes (λ (l : Ref × ℕ). same_ref l.0 r) at.literals literal.0 literal.1) in
    let known = h.sound.numbered number.0 c (subst (λ cs. families.class_numbered cs number.0 ≡ Some c) h.here.classes number.2) in
    subst (FitsRef (all_alive b) c.name) same (record {
      is = fits.is;
      drawn = fits.drawn;
      object = if_some_from (FitsObject (all_alive b) c.name literal.0.0) (object_of (all_alive b) literal.0.0) (λ o there.
          let old = if_some_at (λ (p : Object). (p.class ≡ literal.0.1) × _) (object_of (all_alive b) literal.0.0) fits.object o there in
          let class : o.class ≡ c.number = old.0 ∙ literal.2 ∙ sym known.1 in
          record { fits = ap (λ n. is_a b.classes n c.name) class ∙ h.sound.itself c known.0; version = old.1 });
    })

none_is : {X : Type 0} (o : Option X) → is_none o ≡ true → o ≡ None
none_is None e = refl
none_is (Some x) e = absurd (cc)

value_fits : (b : Bones) (at : Setting) (frame : Frame) → IsReadable b at frame → (v : Value) (s : Option Sort) → value_sort at.classes at.literals v ≡ Some s → Fits b s v
value_fits b at frame h (value.Int n) s e =
    let it = so_some (is_int n) (Some (Some sort.Int)) s e in
    subst (λ t. Fits b t (value.Int n)) (same_some (Some sort.Int) s it.1) (is_int_fits n it.0)
value_fits b at frame h (value.Bool t) s e = subst (λ u. Fits b u (value.Bool t)) (same_some (Some sort.Bool) s e) tt
value_fits b at frame h (value.Text t) s e =
    let it = so_some (is_text t) (Some (Some sort.Text)) s e in
    subst (λ u. Fits b u (value.Text t)) (same_some (Some sort.Text) s it.1) (is_text_fits t it.0)
value_fits b at frame h (value.Reference r) s e = by_test (r.object == 0) refl e where
  by_test : (z : Bool) → (r.object == 0) ≡ z
      → cond z (where_so (is_none r.version) (Some None)) (option_map (λ (c : Class). Some (sort.Reference c.name)) (literal_class at.classes at.literals r)) ≡ Some s → Fits b s (value.Reference r)
  by_test true z f =
      let it = so_some (is_none r.version) (Some None) s f in
      subst (λ u. Fits b u (value.Reference r)) (same_some None s it.1) (record { object = (Decides-eqb r.object 0).0 z; version = none_is r.version it.0 })
  by_test false z f =
      let it = map_some (λ (c : Class). Some (sort.Reference c.name)) (literal_class at.classes at.literals r) s f in
      subst (λ u. Fits b u (value.Reference r)) it.2 (literal_fits b at frame h r z it.0 it.1)

abbrev Level : expr.Expr-F Expr → Type 0
Level d = (b : Bones) (at : Setting) (frame : Frame) → IsReadable b at frame → (s : Option Sort) → sorting_of (map-Expr Expr Sorting sort_in d) at ≡ Some s
    → (u : Value) → evaluation_of (map-Expr Expr Evaluation evaluate d) b frame ≡ Ok u → Fits b s u

abbrev Claim : Expr → Type 0
Claim e = (b : Bones) (at : Setting) (frame : Frame) → IsReadable b at frame → (s : Option Sort) → sort_in e at ≡ Some s → (u : Value) → evaluate e b frame ≡ Ok u → Fits b s u

via : (d : expr.Expr-F Expr) → Level d → Claim (roll-Expr d)
unfolding sort_in evaluate
via d level b at frame h s typed u is =
    level b at frame h s (ap (λ f. f at) (sym (fold-roll-Expr Sorting sorting_of d)) ∙ typed) u (ap (λ f. f b frame) (sym (fold-roll-Expr Evaluation evaluation_of d)) ∙ is)

-- the reference of a typed receiver, and its class
abbrev HasClass : Bones → List ℕ → Value → Type 0
HasClass b class (value.Reference r) = FitsRef (all_alive b) class r
HasClass b class _ = ⊥

class_in : (b : Bones) (class : List ℕ) (v : Value) → Fits b (Some (sort.Reference class)) v → HasClass b class v
class_in b class (value.Reference r) h = h
class_in b class _ h = absurd h

-- the class of a reference's sort is known, and has its name
pub sort_class : (b : Bones) (sound : AreSound b.classes) (s : Option Sort) (c : Class) → class_of (checked_classes b.classes) s ≡ Some c → IsKnown b.classes c × (s ≡ Some (sort.Reference c.name))
sort_class b sound (Some (sort.Reference name)) c e = let it = sound.named name c e in (it.0, ap (λ n. Some (sort.Reference n)) (sym it.1))
sort_class b sound None c e = absurd (cc)
sort_class b sound (Some sort.Int) c e = absurd (cc)
sort_class b sound (Some sort.Bool) c e = absurd (cc)
sort_class b sound (Some sort.Text) c e = absurd (cc)
sort_class b sound (Some sort.Void) c e = absurd (cc)

-- the field at a place of the class of a sort
pub field_at : (class : Option Class) (place : ℕ) (s : Option Sort) → field_sort class place ≡ Some s → (c : Class) × (f : Field) × (class ≡ Some c) × (slice_get c.fields place ≡ Some f) × (Some f.sort ≡ s)
field_at class place s e =
    let field = map_some (λ (f : Field). Some f.sort) (option_and_then (λ (c : Class). slice_get c.fields place) class) s e in
    let of = then_some (λ (c : Class). slice_get c.fields place) class field.0 field.1 in
    (of.0, field.0, of.1, of.2, field.2)

-- what is read of a reference
at_class : (b : Bones) (class : List ℕ) (next : Ref → Result Value Fault) (s : Option Sort) (v u : Value) → HasClass b class v → ((r : Ref) → FitsRef (all_alive b) class r → next r ≡ Ok u → Fits b s u) → at_ref next v ≡ Ok u → Fits b s u
at_class b class next s (value.Reference r) u h read e = read r h e
at_class b class next s _ u h read e = absurd h

-- the version of a reference, or of null
versions_fit : (b : Bones) → AreSound b.classes → AreFit b → (s : Option Sort) → is_reference s ≡ true → (v u : Value) → Fits b s v → at_ref (version_reference b) v ≡ Ok u → Fits b s u
versions_fit b sound fit None is (value.Reference r) u h e = let it = with_ok (denoted b r) (λ v. Ok (value.Reference (record { object = r.object; version = Some v.number }))) u e in absurd (null_denotes b sound fit r it.0 h it.1)
versions_fit b sound fit None is _ u h e = absurd h
versions_fit b sound fit (Some (sort.Reference class)) is v u h e = at_class b class (version_reference b) (Some (sort.Reference class)) v u (class_in b class v h) (λ r fits f. version_fits b sound fit class r fits u f) e
versions_fit b sound fit (Some sort.Int) is v u h e = absurd (cc)
versions_fit b sound fit (Some sort.Bool) is v u h e = absurd (cc)
versions_fit b sound fit (Some sort.Text) is v u h e = absurd (cc)
versions_fit b sound fit (Some sort.Void) is v u h e = absurd (cc)

-- operators
unary_fits : (b : Bones) (op : UnOp) (s : Option Sort) (t : Sort) → unary_sort op s ≡ Some t → (v u : Value) → Fits b s v → unary_value op v ≡ Ok u → Fits b (Some t) u
unary_fits b Minus s t e v u h is =
    let it = fit_where (is_of sort.Int s) sort.Int t e in
    subst (λ w. Fits b (Some w) u) it.1 (int_fits b u (by_value v (int_in b v (subst (λ w. Fits b w v) (of_sort sort.Int s it.0) h)) is))
  where
    by_value : (v : Value) → IsInt v → unary_value Minus v ≡ Ok u → IsInt u
    by_value (value.Int n) g f = minus_fits n u f
    by_value _ g f = absurd g
unary_fits b Not s t e v u h is =
    let it = fit_where (is_of sort.Bool s) sort.Bool t e in
    subst (λ w. Fits b (Some w) u) it.1 (bool_fits b u (by_value v (bool_in b v (subst (λ w. Fits b w v) (of_sort sort.Bool s it.0) h)) is))
  where
    by_value : (v : Value) → IsBool v → unary_value Not v ≡ Ok u → IsBool u
    by_value (value.Bool n) g f = not_fits n u f
    by_value _ g f = absurd g

module _ (b : Bones) (s t : Option Sort) (v w u : Value) (fits : Fits b s v) (fit : Fits b t w) where
  both_of : (x : Sort) → are_of x s t ≡ true → Fits b (Some x) v × Fits b (Some x) w
  both_of x e =
      let parts = and_parts (is_of x s) (is_of x t) e in
      (subst (λ z. Fits b z v) (of_sort x s parts.0) fits, subst (λ z. Fits b z w) (of_sort x t parts.1) fit)

  sums : (op : BinOp) (x y : Value) → is_arithmetic op ≡ true → IsInt x → IsInt y → binary_value op x y ≡ Ok u → IsInt u
  sums op (value.Int m) (value.Int n) is f g e = sum_fits op is m n u e
  sums op (value.Int m) _ is f g e = absurd g
  sums op _ y is f g e = absurd f

  sums_fit : (op : BinOp) (x : Sort) → is_arithmetic op ≡ true → where_fit (are_of sort.Int s t) sort.Int ≡ Some x → binary_value op v w ≡ Ok u → Fits b (Some x) u
  sums_fit op x is e f =
      let it = fit_where (are_of sort.Int s t) sort.Int x e in
      let ints = both_of sort.Int it.0 in
      subst (λ z. Fits b (Some z) u) it.1 (int_fits b u (sums op v w is (int_in b v ints.0) (int_in b w ints.1) f))

  tests_fit : (op : BinOp) (x : Sort) (c : Bool) → is_arithmetic op ≡ false → where_fit c sort.Bool ≡ Some x → binary_value op v w ≡ Ok u → Fits b (Some x) u
  tests_fit op x c is e f = let it = fit_where c sort.Bool x e in subst (λ z. Fits b (Some z) u) it.1 (bool_fits b u (test_fits op is v w u f))

  joins : (x y : Value) → IsTextValue x → IsTextValue y → combined Add x y ≡ Ok u → IsTextValue u
  joins (value.Text m) (value.Text n) f g e = joined_fits m n u f g e
  joins (value.Text m) _ f g e = absurd g
  joins _ y f g e = absurd f

  adds : (x y : Value) → IsInt x → IsInt y → combined Add x y ≡ Ok u → IsInt u
  adds (value.Int m) (value.Int n) f g e = sum_fits Add refl m n u e
  adds (value.Int m) _ f g e = absurd g
  adds _ y f g e = absurd f

  adds_fit : (plain : Bool) (x : Sort) → binary_sort plain Add s t ≡ Some x → combined Add v w ≡ Ok u → Fits b (Some x) u
  adds_fit plain x e f = by_test (are_of sort.Text s t && not plain) refl e where
    by_test : (c : Bool) → (are_of sort.Text s t && not plain) ≡ c → cond c (Some sort.Text) (where_fit (are_of sort.Int s t) sort.Int) ≡ Some x → Fits b (Some x) u
    by_test true is g =
        let texts = both_of sort.Text (and_parts (are_of sort.Text s t) (not plain) is).0 in
        subst (λ z. Fits b (Some z) u) (same_some sort.Text x g) (text_fits b u (joins v w (text_in b v texts.0) (text_in b w texts.1) f))
    by_test false is g =
        let it = fit_where (are_of sort.Int s t) sort.Int x g in
        let ints = both_of sort.Int it.0 in
        subst (λ z. Fits b (Some z) u) it.1 (int_fits b u (adds v w (int_in b v ints.0) (int_in b w ints.1) f))

  combined_fits : (plain : Bool) (op : BinOp) (x : Sort) → binary_sort plain op s t ≡ Some x → combined op v w ≡ Ok u → Fits b (Some x) u
  combined_fits plain Add x e f = adds_fit plain x e f
  combined_fits plain Sub x e f = sums_fit Sub x refl e f
  combined_fits plain Mul x e f = sums_fit Mul x refl e f
  combined_fits plain Div x e f = sums_fit Div x refl e f
  combined_fits plain Rem x e f = sums_fit Rem x refl e f
  combined_fits plain Eq x e f = tests_fit Eq x (are_equated s t) refl e f
  combined_fits plain Ne x e f = tests_fit Ne x (are_equated s t) refl e f
  combined_fits plain Lt x e f = tests_fit Lt x (are_ordered s t) refl e f
  combined_fits plain Le x e f = tests_fit Le x (are_ordered s t) refl e f
  combined_fits plain Gt x e f = tests_fit Gt x (are_ordered s t) refl e f
  combined_fits plain Ge x e f = tests_fit Ge x (are_ordered s t) refl e f
  combined_fits plain And x e f = tests_fit And x (are_of sort.Bool s t) refl e f
  combined_fits plain Or x e f = tests_fit Or x (are_of sort.Bool s t) refl e f

-- one side or the other
side_fits : (b : Bones) (v u : Value) (first second : Result Value Fault) → (first ≡ Ok u → IsBool u) → (second ≡ Ok u → IsBool u) → side v first second ≡ Ok u → IsBool u
side_fits b (value.Bool true) u first second f g e = f e
side_fits b (value.Bool false) u first second f g e = g e
side_fits b (value.Int n) u first second f g e = absurd (cc)
side_fits b (value.Text n) u first second f g e = absurd (cc)
side_fits b (value.Reference n) u first second f g e = absurd (cc)

parts : (y : expr.Expr-F ((e : Expr) × Claim e)) → Level (map-Expr ((e : Expr) × Claim e) Expr (λ p. p.0) y)
parts (expr.Lit v) b at frame h s typed u is = subst (Fits b s) (same_ok v u is) (value_fits b at frame h v s typed)
parts (expr.Local place) b at frame h s typed u is =
    let it = map_some (λ (t : Sort). Some t) (option_and_then (λ t. t) (slice_get at.slots place)) s typed in
    let slot = then_some (λ (t : Option Sort). t) (slice_get at.slots place) it.0 it.1 in
    let fits = some_and (Fits b (Some it.0)) (slice_get frame.locals place) (h.here.slots place it.0 (slot.1 ∙ ap Some slot.2)) in
    let same : fits.0 ≡ u = same_some fits.0 u (sym fits.1 ∙ or_ok (slice_get frame.locals place) (NoObject 0) u is) in
    subst (λ t. Fits b t u) it.2 (subst (Fits b (Some it.0)) same fits.2)
parts (expr.Own place) b at frame h s typed u is =
    let it = field_at at.class place s typed in
    let known : IsKnown b.classes it.0 = if_some_at (IsKnown b.classes) at.class h.here.known it.0 it.2 in
    let this : FitsRef (all_alive b) it.0.name frame.this = if_some_at (λ (c : Class). FitsRef (all_alive b) c.name frame.this) at.class h.here.this it.0 it.2 in
    subst (λ t. Fits b t u) it.4 (field_fits b h.sound h.fit it.0 known frame.this this place it.1 it.3 u is)
parts expr.This b at frame h s typed u is =
    let so = so_some (not at.is_plain) (option_map (λ (c : Class). Some (sort.Reference c.name)) at.class) s typed in
    let it = map_some (λ (c : Class). Some (sort.Reference c.name)) at.class s so.1 in
    let this : FitsRef (all_alive b) it.0.name frame.this = if_some_at (λ (c : Class). FitsRef (all_alive b) c.name frame.this) at.class h.here.this it.0 it.1 in
    subst (λ t. Fits b t u) it.2 (subst (Fits b (Some (sort.Reference it.0.name))) (same_ok (value.Reference frame.this) u is) this)
parts (expr.Slot e place) b at frame h s typed u is =
    let so = so_some (not at.is_plain) (option_and_then (λ t. field_sort (class_of at.classes t) place) (sort_in e.0 at)) s typed in
    let of = then_some (λ t. field_sort (class_of at.classes t) place) (sort_in e.0 at) s so.1 in
    let field = field_at (class_of at.classes of.0) place s of.2 in
    let class = sort_class b h.sound of.0 field.0 (subst (λ cs. class_of cs of.0 ≡ Some field.0) h.here.classes field.2) in
    let v = value_ok (evaluate e.0 b frame) (at_ref (field_of b place)) u is in
    let fits : Fits b (Some (sort.Reference field.0.name)) v.0 = subst (λ t. Fits b t v.0) class.1 (e.1 b at frame h of.0 of.1 v.0 v.1) in
    at_class b field.0.name (field_of b place) s v.0 u (class_in b field.0.name v.0 fits)
    (λ r g f. subst (λ t. Fits b t u) field.4 (field_fits b h.sound h.fit field.0 class.0 r g place field.1 field.3 u f)) v.2
parts (expr.Version e) b at frame h s typed u is =
    let so = so_some (not at.is_plain) (option_and_then (λ t. where_so (is_reference t) (Some t)) (sort_in e.0 at)) s typed in
    let of = then_some (λ t. where_so (is_reference t) (Some t)) (sort_in e.0 at) s so.1 in
    let reference = so_some (is_reference of.0) (Some of.0) s of.2 in
    let v = value_ok (evaluate e.0 b frame) (at_ref (version_reference b)) u is in
    subst (λ t. Fits b t u) (same_some of.0 s reference.1) (versions_fit b h.sound h.fit of.0 reference.0 v.0 u (e.1 b at frame h of.0 of.1 v.0 v.1) v.2)
parts (expr.Unary op e) b at frame h s typed u is =
    let of = then_some (λ t. option_map (λ (x : Sort). Some x) (unary_sort op t)) (sort_in e.0 at) s typed in
    let it = map_some (λ (x : Sort). Some x) (unary_sort op of.0) s of.2 in
    let v = value_ok (evaluate e.0 b frame) (unary_value op) u is in
    subst (λ t. Fits b t u) it.2 (unary_fits b op of.0 it.0 it.1 v.0 u (e.1 b at frame h of.0 of.1 v.0 v.1) v.2)
parts (expr.Binary op e f) b at frame h s typed u is =
    let of = then_some (λ t. option_and_then (λ w. option_map (λ (x : Sort). Some x) (binary_sort at.is_plain op t w)) (sort_in f.0 at)) (sort_in e.0 at) s typed in
    let to = then_some (λ w. option_map (λ (x : Sort). Some x) (binary_sort at.is_plain op of.0 w)) (sort_in f.0 at) s of.2 in
    let it = map_some (λ (x : Sort). Some x) (binary_sort at.is_plain op of.0 to.0) s to.2 in
    subst (λ t. Fits b t u) it.2 (by_op op it.0 of.0 to.0 of.1 to.1 it.1 is)
  where
    plainly : (op : BinOp) (x : Sort) (t w : Option Sort) → sort_in e.0 at ≡ Some t → sort_in f.0 at ≡ Some w → binary_sort at.is_plain op t w ≡ Some x
        → with_value (evaluate e.0 b frame) (λ v. with_value (evaluate f.0 b frame) (combined op v)) ≡ Ok u → Fits b (Some x) u
    plainly op x t w one two sorts is =
        let v = value_ok (evaluate e.0 b frame) (λ v. with_value (evaluate f.0 b frame) (combined op v)) u is in
        let z = value_ok (evaluate f.0 b frame) (combined op v.0) u v.2 in
        combined_fits b t w v.0 z.0 u (e.1 b at frame h t one v.0 v.1) (f.1 b at frame h w two z.0 z.1) at.is_plain op x sorts z.2

    by_op : (op : BinOp) (x : Sort) (t w : Option Sort) → sort_in e.0 at ≡ Some t → sort_in f.0 at ≡ Some w → binary_sort at.is_plain op t w ≡ Some x
        → evaluation_of (expr.Binary op (evaluate e.0) (evaluate f.0)) b frame ≡ Ok u → Fits b (Some x) u
    by_op And x t w one two sorts is =
        let it = fit_where (are_of sort.Bool t w) sort.Bool x sorts in
        let bool = of_sort sort.Bool w (and_parts (is_of sort.Bool t) (is_of sort.Bool w) it.0).1 in
        let v = value_ok (evaluate e.0 b frame) (λ v. side v (evaluate f.0 b frame) (truth false)) u is in
        subst (λ y. Fits b (Some y) u) it.1
        (bool_fits b u (side_fits b v.0 u (evaluate f.0 b frame) (truth false) (λ g. bool_in b u (subst (λ y. Fits b y u) bool (f.1 b at frame h w two u g))) (λ g. subst IsBool (same_ok (value.Bool false) u g) tt) v.2))
    by_op Or x t w one two sorts is =
        let it = fit_where (are_of sort.Bool t w) sort.Bool x sorts in
        let bool = of_sort sort.Bool w (and_parts (is_of sort.Bool t) (is_of sort.Bool w) it.0).1 in
        let v = value_ok (evaluate e.0 b frame) (λ v. side v (truth true) (evaluate f.0 b frame)) u is in
        subst (λ y. Fits b (Some y) u) it.1
        (bool_fits b u (side_fits b v.0 u (truth true) (evaluate f.0 b frame) (λ g. subst IsBool (same_ok (value.Bool true) u g) tt) (λ g. bool_in b u (subst (λ y. Fits b y u) bool (f.1 b at frame h w two u g))) v.2))
    by_op Add x t w one two sorts is = plainly Add x t w one two sorts is
    by_op Sub x t w one two sorts is = plainly Sub x t w one two sorts is
    by_op Mul x t w one two sorts is = plainly Mul x t w one two sorts is
    by_op Div x t w one two sorts is = plainly Div x t w one two sorts is
    by_op Rem x t w one two sorts is = plainly Rem x t w one two sorts is
    by_op Eq x t w one two sorts is = plainly Eq x t w one two sorts is
    by_op Ne x t w one two sorts is = plainly Ne x t w one two sorts is
    by_op Lt x t w one two sorts is = plainly Lt x t w one two sorts is
    by_op Le x t w one two sorts is = plainly Le x t w one two sorts is
    by_op Gt x t w one two sorts is = plainly Gt x t w one two sorts is
    by_op Ge x t w one two sorts is = plainly Ge x t w one two sorts is
parts (expr.Name name) b at frame h s typed u is = absurd (cc)
parts (expr.Field e name) b at frame h s typed u is = absurd (cc)

pub expr_fits : (e : Expr) → Claim e
expr_fits = ind-Expr Claim (λ x y is. subst (λ d. Claim (roll-Expr d)) is (via (map-Expr ((e : Expr) × Claim e) Expr (λ p. p.0) y) (parts y)))
