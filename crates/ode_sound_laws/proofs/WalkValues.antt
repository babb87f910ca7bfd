-- Values, arguments and references that typed transactions compute.
use Rattle.std.proofs.Common.{◌≡◌, ℕ, zero, suc, ◌≤◌, Bool, true, false, cond, List, [], ◌∷◌, map, ◌==◌, Option, Some, None, Result, Ok, Err, refl, sym, ap, ◌∙◌, subst, arith}
use Rattle.std.specs.Prelude.{slice_get}
use Rattle.std.specs.List.{AllByRecursion, AllZip, find, list_all}
use Rattle.std.specs.Option.{option_map_or}
use Rattle.std.proofs.lemmas.Bool.{and_parts}
use Rattle.std.proofs.lemmas.Slice.Eq.{bytes_eq-Decides}
use Rattle.std.specs.Str.{bytes_eq}
use Rattle.ode_value.specs.declared.arithmetic.Fault.{Fault}
use Rattle.ode_value.specs.declared.binding.Param.{Param}
use Rattle.ode_value.specs.declared.class.Class.{Class}
use Rattle.ode_value.specs.declared.class.Field.{Field}
use Rattle.ode_value.specs.declared.statement.Expr.{Expr}
use Rattle.ode_value.specs.declared.statement.Sort.{Sort}
use Rattle.ode_value.specs.declared.statement.Sort.TheVariants as sort
use Rattle.ode_value.specs.declared.value.Ref.{Ref}
use Rattle.ode_value.specs.declared.value.Value.{Value}
use Rattle.ode_value.specs.declared.value.Value.TheVariants as value
use Rattle.ode_value.specs.Acts.{go_on, ◌>>=◌, ◌>>◌, gives, nothing, found, valued}
use Rattle.ode_value.specs.Classes.{null, default_of}
use Rattle.ode_value.specs.Denoting.{object_of, denoted}
use Rattle.ode_value.specs.Evaluation.{Frame, evaluate, looks_in}
use Rattle.ode_value.specs.Expressions.{ref_in, evaluates, evaluates_all, evaluates_sets, stands, reference, receiver}
use Rattle.ode_value.specs.Fitting.{FitsObject, FitsRef, FitsSort, FitFields}
use Rattle.ode_value.specs.Statements.{first_value}
use Rattle.ode_value.specs.Transactions.{Tx, looking}
use Rattle.ode_value.specs.Versions.{Version}
use Rattle.ode_value.specs.Worlds.{Bones}
use Rattle.ode_types.specs.Families.{field_named}
use Rattle.ode_types.specs.Sorts.{inherits, fits as is_fitting, class_of, is_reference}
use Rattle.ode_sound_laws.specs.Growing.{Grows}
use Rattle.ode_sound_laws.specs.Typed.{IsTyped}
use Rattle.ode_sound_laws.specs.Fits.{all_alive, IsNull, Fits, FitsFrame, AreFit, IsReadable}
use Rattle.ode_types.specs.Kept.{Setting, sort_in, is_fit, is_ref, are_fit, is_set, receiver_class}
use Rattle.ode_sound_laws.specs.Sound.{AreSound, IsKnown, IsFieldSort, checked_classes}
use Rattle.ode_sound_laws.proofs.Basics.{if_some_at, if_some_from, then_some, same_some, found_same}
use Rattle.ode_sound_laws.proofs.ExprLaws.{sort_same, denoted_ok, sort_class, expr_fits, find_passes}
use Rattle.ode_sound_laws.proofs.FitLaws.{fits_follows, frame_follows, ref_follows}
use Rattle.ode_sound_laws.proofs.GrowLaws.{grows_itself}
use Rattle.ode_sound_laws.proofs.WalkActs.{Ends, ends_then, ends_as, ends_done, found_ends, look_typed}
use Rattle.ode_value.specs.Changes.{version}

-- ---- sorts that fit others

-- null fits each class
pub null_fits : (b : Bones) → AreFit b → (class : List ℕ) → FitsRef (all_alive b) class (record { object = 0; version = None })
null_fits b fit class = record { is = record { object = omega arith; version = tt }; drawn = let first : 1 ≤ b.next = fit.next.some in omega arith; object = tt }

is_null : (r : Ref) → IsNull r → record { object = 0; version = None } ≡ r
is_null r null = (λ i. record { object = sym null.object i; version = sym null.version i })

ref_inherits : (b : Bones) → AreSound b.classes → (sub name : List ℕ) → inherits (checked_classes b.classes) sub name ≡ true → (r : Ref) → FitsRef (all_alive b) sub r → FitsRef (all_alive b) name r
ref_inherits b sound sub name is r h = record {
  is = h.is;
  drawn = h.drawn;
  object = if_some_from (FitsObject (all_alive b) name r) (object_of (all_alive b) r) (λ o there.
      let old = if_some_at (FitsObject (all_alive b) sub r) (object_of (all_alive b) r) h.object o there in
      record { fits = sound.inherited o.class sub name old.fits is; version = old.version });
}

pub sort_fits_as : (b : Bones) → AreSound b.classes → AreFit b → (t : Option Sort) (s : Sort) → is_fitting (checked_classes b.classes) t s ≡ true → (v : Value) → Fits b t v → Fits b (Some s) v
sort_fits_as b sound fit None (sort.Reference name) is (value.Reference r) h = subst (FitsRef (all_alive b) name) (is_null r h) (null_fits b fit name)
sort_fits_as b sound fit None s is (value.Reference r) h = absurd (cc)
sort_fits_as b sound fit None s is _ h = absurd h
sort_fits_as b sound fit (Some (sort.Reference sub)) (sort.Reference name) is (value.Reference r) h = ref_inherits b sound sub name is r h
sort_fits_as b sound fit (Some (sort.Reference sub)) (sort.Reference name) is _ h = absurd h
sort_fits_as b sound fit (Some (sort.Reference sub)) s is v h = absurd (cc)
sort_fits_as b sound fit (Some sort.Int) s is v h = subst (λ w. Fits b (Some w) v) (sort_same sort.Int s is) h
sort_fits_as b sound fit (Some sort.Bool) s is v h = subst (λ w. Fits b (Some w) v) (sort_same sort.Bool s is) h
sort_fits_as b sound fit (Some sort.Text) s is v h = subst (λ w. Fits b (Some w) v) (sort_same sort.Text s is) h
sort_fits_as b sound fit (Some sort.Void) s is v h = subst (λ w. Fits b (Some w) v) (sort_same sort.Void s is) h

-- a sort that isn't void
pub strictly : (b : Bones) (s : Sort) (v : Value) → IsFieldSort s → Fits b (Some s) v → FitsSort (all_alive b) s v
strictly b sort.Int v is h = h
strictly b sort.Bool v is h = h
strictly b sort.Text v is h = h
strictly b (sort.Reference name) v is h = h
strictly b sort.Void v is h = absurd is

-- what a field or a result is without a value
pub default_fits : (b : Bones) → AreFit b → (s : Sort) → Fits b (Some s) (default_of s)
default_fits b fit sort.Int = record { sfits = omega arith }
default_fits b fit sort.Bool = tt
default_fits b fit sort.Text = record { short = omega arith; each = refl }
default_fits b fit (sort.Reference name) = null_fits b fit name
default_fits b fit sort.Void = tt

pub fit_sort : (at : Setting) (s : Sort) (e : Expr) → is_fit at s e ≡ true → (t : Option Sort) × (sort_in e at ≡ Some t) × (is_fitting at.classes t s ≡ true)
fit_sort at s e is = by_sort (sort_in e at) is where
  by_sort : (m : Option (Option Sort)) → option_map_or (λ t. is_fitting at.classes t s) m false ≡ true → (t : Option Sort) × (m ≡ Some t) × (is_fitting at.classes t s ≡ true)
  by_sort (Some t) f = (t, refl, f)
  by_sort None f = absurd (cc)

pub ref_sort : (at : Setting) (e : Expr) → is_ref at e ≡ true → (t : Option Sort) × (sort_in e at ≡ Some t) × (is_reference t ≡ true)
ref_sort at e is = by_sort (sort_in e at) is where
  by_sort : (m : Option (Option Sort)) → option_map_or is_reference m false ≡ true → (t : Option Sort) × (m ≡ Some t) × (is_reference t ≡ true)
  by_sort (Some t) f = (t, refl, f)
  by_sort None f = absurd (cc)

-- ---- fields that are set

-- a field's name, and a value that fits it
pub record IsSetting (c : Class) (b : Bones) (s : List ℕ × Value) : Type 0 where
  pub place : ℕ
  pub field : Field
  pub named : field_named c.fields s.0 ≡ Some (place, field)
  pub fits : Fits b (Some field.sort) s.1

zip_map : (R : Field → Value → Type 0) (g : Field → Value) (fields : List Field) → ((place : ℕ) (f : Field) → slice_get fields place ≡ Some f → R f (g f)) → AllZip R fields (map g fields)
zip_map R g [] each = tt
zip_map R g (f ∷ fields) each = (each zero f refl, zip_map R g fields (λ place h e. each (suc place) h e))

find_all : {X : Type 0} (P : X → Type 0) (p : X → Bool) (xs : List X) → AllByRecursion P xs → (x : X) → find p xs ≡ Some x → P x
find_all P p [] all x e = absurd (cc)
find_all P p (y ∷ ys) all x e = by_test (p y) e (find_all P p ys all.1 x) where
  by_test : (t : Bool) → cond t (Some y) (find p ys) ≡ Some x → (find p ys ≡ Some x → P x) → P x
  by_test true f rest = subst P (same_some y x f) all.0
  by_test false f rest = rest f

abbrev is_setting_of : Field → List ℕ × Value → Bool
is_setting_of f s = bytes_eq s.0 f.name

pub settings_fit : (b : Bones) → AreSound b.classes → AreFit b → (c : Class) → IsKnown b.classes c → (given : List (List ℕ × Value)) → AllByRecursion (IsSetting c b) given
    → FitFields (all_alive b) c.fields (map (first_value given) c.fields)
settings_fit b sound fit c known given all = zip_map (λ (f : Field). FitsSort (all_alive b) f.sort) (first_value given) c.fields (λ place f at.
    let strict : IsFieldSort f.sort = all_sorts c.fields (sound.sorts c known) place f at in
    strictly b f.sort (first_value given f) strict (first place f at (find (is_setting_of f) given) refl))
  where
    all_sorts : (fields : List Field) → AllByRecursion (λ (f : Field). IsFieldSort f.sort) fields → (place : ℕ) (f : Field) → slice_get fields place ≡ Some f → IsFieldSort f.sort
    all_sorts [] every place f e = absurd (cc)
    all_sorts (g ∷ fields) every zero f e = subst (λ (h : Field). IsFieldSort h.sort) (same_some g f e) every.0
    all_sorts (g ∷ fields) every (suc place) f e = all_sorts fields every.1 place f e

    first : (place : ℕ) (f : Field) → slice_get c.fields place ≡ Some f → (m : Option (List ℕ × Value)) → find (is_setting_of f) given ≡ m → Fits b (Some f.sort) (option_map_or (λ (s : List ℕ × Value). s.1) m (default_of f.sort))
    first place f at None e = default_fits b fit f.sort
    first place f at (Some s) e =
        let set : IsSetting c b s = find_all (IsSetting c b) (is_setting_of f) given all s e in
        let name : s.0 ≡ f.name = (bytes_eq-Decides s.0 f.name).0 (find_passes (is_setting_of f) given s e) in
        let same : (place, f) ≡ (set.place, set.field) = found_same (field_named c.fields f.name) (place, f) (set.place, set.field) (sound.apart c known place f at) (ap (field_named c.fields) (sym name) ∙ set.named) in
        subst (λ (g : Field). Fits b (Some g.sort) s.1) (sym (ap (λ (p : ℕ × Field). p.1) same)) set.fits

-- ---- what expressions give

-- a reference of a class, which isn't null
pub record IsAt (class : List ℕ) (b : Bones) (r : Ref) : Type 0 where
  pub fits : FitsRef (all_alive b) class r
  pub some : (r.object == 0) ≡ false

pub at_later : (class : List ℕ) (b c : Bones) (r : Ref) → Grows b c → IsAt class b r → IsAt class c r
at_later class b c r grows h = record { fits = ref_follows b c grows.follows class r h.fits; some = h.some }

-- references of one sort are of one class
abbrev name_of : Sort → List ℕ
name_of (sort.Reference k) = k
name_of _ = []

names : (m n : List ℕ) → Some (sort.Reference m) ≡ Some (sort.Reference n) → m ≡ n
names m n e = ap name_of (same_some (sort.Reference m) (sort.Reference n) e)

-- a reference of this sort
pub record IsOf (s : Option Sort) (b : Bones) (r : Ref) : Type 0 where
  pub class : List ℕ
  pub of : s ≡ Some (sort.Reference class)
  pub is : IsAt class b r

abbrev pub FitArgs : List Param → Bones → List Value → Type 0
FitArgs params b args = AllZip (λ (p : Param). Fits b (Some p.sort)) params args

pub args_later : (params : List Param) (args : List Value) (b c : Bones) → Grows b c → FitArgs params b args → FitArgs params c args
args_later [] [] b c grows h = tt
args_later [] (v ∷ vs) b c grows h = h
args_later (p ∷ ps) [] b c grows h = h
args_later (p ∷ ps) (v ∷ vs) b c grows h = (fits_follows b c grows.follows (Some p.sort) v h.0, args_later ps vs b c grows h.1)

pub args_strict : (b : Bones) (params : List Param) (args : List Value) → AllByRecursion (λ (p : Param). IsFieldSort p.sort) params → FitArgs params b args → AllZip (λ (p : Param). FitsSort (all_alive b) p.sort) params args
args_strict b [] [] all h = tt
args_strict b [] (v ∷ vs) all h = h
args_strict b (p ∷ ps) [] all h = h
args_strict b (p ∷ ps) (v ∷ vs) all h = (strictly b p.sort v all.0 h.0, args_strict b ps vs all.1 h.1)

-- a field that is set
set_field : (at : Setting) (c : Class) (set : List ℕ × Expr) → is_set at c set ≡ true → (f : ℕ × Field) × (field_named c.fields set.0 ≡ Some f) × (is_fit at f.1.sort set.1 ≡ true)
set_field at c set is = by_field (field_named c.fields set.0) is where
  by_field : (m : Option (ℕ × Field)) → option_map_or (λ (f : ℕ × Field). is_fit at f.1.sort set.1) m false ≡ true → (f : ℕ × Field) × (m ≡ Some f) × (is_fit at f.1.sort set.1 ≡ true)
  by_field (Some f) g = (f, refl, g)
  by_field None g = absurd (cc)

setting_later : (c : Class) (s : List ℕ × Value) (b d : Bones) → Grows b d → IsSetting c b s → IsSetting c d s
setting_later c s b d grows h = record { place = h.place; field = h.field; named = h.named; fits = fits_follows b d grows.follows (Some h.field.sort) s.1 h.fits }

-- a reference
ref_of : (b : Bones) (s : Option Sort) (v : Value) (r : Ref) → is_reference s ≡ true → Fits b s v → ref_in v ≡ Some r → (r.object == 0) ≡ false → IsOf s b r
ref_of b (Some (sort.Reference class)) (value.Reference q) r is h e some =
    let same : q ≡ r = same_some q r e in
    record { class = class; of = refl; is = record { fits = subst (FitsRef (all_alive b) class) same h; some = some } }
ref_of b None (value.Reference q) r is h e some =
    let same : q ≡ r = same_some q r e in
    let zero_is : r.object ≡ 0 = ap (λ (p : Ref). p.object) (sym same) ∙ h.object in
    absurd (no_zero r.object zero_is some)
  where
    no_zero : (n : ℕ) → n ≡ 0 → (n == 0) ≡ false → ⊥
    no_zero zero z f = cc
    no_zero (suc n) z f = omega arith
ref_of b (Some (sort.Reference class)) _ r is h e some = absurd h
ref_of b None _ r is h e some = absurd h
ref_of b (Some sort.Int) v r is h e some = absurd (cc)
ref_of b (Some sort.Bool) v r is h e some = absurd (cc)
ref_of b (Some sort.Text) v r is h e some = absurd (cc)
ref_of b (Some sort.Void) v r is h e some = absurd (cc)

is_later : (s : Option Sort) (b c : Bones) (r : Ref) → Grows b c → IsOf s b r → IsOf s c r
is_later s b c r grows h = record { class = h.class; of = h.of; is = at_later h.class b c r grows h.is }

module _ {O A : Type 0} where
  pub value_ends : {X : Type 0} (post : Bones → X → Type 0) (v : Result X Fault) (x : Tx O A) → IsTyped x → ((r : X) → v ≡ Ok r → post x.now.bones r) → Ends x.now.bones post (valued v x)
  value_ends post (Ok r) x h is = (h, grows_itself x.now.bones, is r refl)
  value_ends post (Err fault) x h is = h

  denoted_ends : (r : Ref) (x : Tx O A) → IsTyped x → Ends x.now.bones (λ b u. (r.object == 0) ≡ false) (go_on (version r x) (λ v. nothing))
  denoted_ends r x h = by_denoted (denoted x.now.bones r) refl where
    by_denoted : (m : Result Version Fault) → denoted x.now.bones r ≡ m → Ends x.now.bones (λ b u. (r.object == 0) ≡ false) (go_on (valued m x) (λ v. nothing))
    by_denoted (Ok v) e = (h, grows_itself x.now.bones, (denoted_ok x.now.bones r v e).1)
    by_denoted (Err fault) e = h

  pub stands_ends : (r : Ref) (x : Tx O A) → IsTyped x → Ends x.now.bones (λ b u. (r.object == 0) ≡ false) (stands r x)
  stands_ends r x h = denoted_ends r (looking (r.object ∷ []) x) (look_typed (r.object ∷ []) x h)

  module _ (at : Setting) (frame : Frame) where
    -- behind what an expression looks at
    abbrev looked : Expr → Tx O A → Tx O A
    looked e x = looking (looks_in e x.now.bones frame) x

    looked_typed : (e : Expr) (x : Tx O A) → IsTyped x → IsTyped (looked e x)
    looked_typed e x h = look_typed (looks_in e x.now.bones frame) x h

    readable : (x : Tx O A) → IsTyped x → FitsFrame x.now.bones at frame → IsReadable x.now.bones at frame
    readable x h fits = record { sound = h.sound; fit = h.now; here = fits }

    pub evaluates_ends : (e : Expr) (s : Option Sort) → sort_in e at ≡ Some s → (x : Tx O A) → IsTyped x → FitsFrame x.now.bones at frame → Ends x.now.bones (λ b v. Fits b s v) (evaluates e frame x)
    evaluates_ends e s typed x h fits = value_ends (λ b v. Fits b s v) (evaluate e x.now.bones frame) (looked e x) (looked_typed e x h) (λ v is. expr_fits e x.now.bones at frame (readable x h fits) s typed v is)

    pub fitting_ends : (e : Expr) (s : Sort) → is_fit at s e ≡ true → (x : Tx O A) → IsTyped x → FitsFrame x.now.bones at frame → Ends x.now.bones (λ b v. Fits b (Some s) v) (evaluates e frame x)
    fitting_ends e s is x h fits =
        let t = fit_sort at s e is in
        value_ends (λ b v. Fits b (Some s) v) (evaluate e x.now.bones frame) (looked e x) (looked_typed e x h) (λ v ok.
        sort_fits_as x.now.bones h.sound h.now t.0 s (subst (λ cs. is_fitting cs t.0 s ≡ true) fits.classes t.2) v (expr_fits e x.now.bones at frame (readable x h fits) t.0 t.1 v ok))

    pub all_ends : (params : List Param) (es : List Expr) → are_fit at params es ≡ true → (x : Tx O A) → IsTyped x → FitsFrame x.now.bones at frame → Ends x.now.bones (FitArgs params) (evaluates_all es frame x)
    all_ends [] [] is x h fits = (h, grows_itself x.now.bones, tt)
    all_ends [] (e ∷ es) is x h fits = absurd (cc)
    all_ends (p ∷ ps) [] is x h fits = absurd (cc)
    all_ends (p ∷ ps) (e ∷ es) is x h fits =
        let parts = and_parts (is_fit at p.sort e) (are_fit at ps es) is in
        ends_then x.now.bones (λ b v. Fits b (Some p.sort) v) (FitArgs (p ∷ ps)) (evaluates e frame x) (fitting_ends e p.sort parts.0 x h fits) (λ v. evaluates_all es frame >>= λ vs. gives (v ∷ vs)) (λ v y typed grows one.
        ends_then y.now.bones (FitArgs ps) (FitArgs (p ∷ ps)) (evaluates_all es frame y) (all_ends ps es parts.1 y typed (frame_follows x.now.bones y.now.bones grows.follows at frame fits)) (λ vs. gives (v ∷ vs)) (λ vs z later more rest.
        ends_done (FitArgs (p ∷ ps)) (v ∷ vs) z later (fits_follows y.now.bones z.now.bones more.follows (Some p.sort) v one, rest)))

    pub sets_ends : (c : Class) (sets : List (List ℕ × Expr)) → list_all (is_set at c) sets ≡ true → (x : Tx O A) → IsTyped x → FitsFrame x.now.bones at frame
        → Ends x.now.bones (λ b given. AllByRecursion (IsSetting c b) given) (evaluates_sets sets frame x)
    sets_ends c [] is x h fits = (h, grows_itself x.now.bones, tt)
    sets_ends c (set ∷ sets) is x h fits =
        let parts = and_parts (is_set at c set) (list_all (is_set at c) sets) is in
        let field = set_field at c set parts.0 in
        ends_then x.now.bones (λ b v. Fits b (Some field.0.1.sort) v) (λ b given. AllByRecursion (IsSetting c b) given) (evaluates set.1 frame x) (fitting_ends set.1 field.0.1.sort field.2 x h fits) (λ v. evaluates_sets sets frame >>= λ vs. gives ((set.0, v) ∷ vs)) (λ v y typed grows one.
        ends_then y.now.bones (λ b given. AllByRecursion (IsSetting c b) given) (λ b given. AllByRecursion (IsSetting c b) given) (evaluates_sets sets frame y) (sets_ends c sets parts.1 y typed (frame_follows x.now.bones y.now.bones grows.follows at frame fits)) (λ vs. gives ((set.0, v) ∷ vs)) (λ vs z later more rest.
        ends_done (λ b given. AllByRecursion (IsSetting c b) given) ((set.0, v) ∷ vs) z later
        (record { place = field.0.0; field = field.0.1; named = field.1; fits = fits_follows y.now.bones z.now.bones more.follows (Some field.0.1.sort) v one }, rest)))

    pub reference_ends : (e : Expr) (s : Option Sort) → sort_in e at ≡ Some s → is_reference s ≡ true → (x : Tx O A) → IsTyped x → FitsFrame x.now.bones at frame → Ends x.now.bones (IsOf s) (reference e frame x)
    reference_ends e s typed is x h fits =
        ends_then x.now.bones (λ b v. Fits b s v) (IsOf s) (evaluates e frame x) (evaluates_ends e s typed x h fits) (λ v. found (ref_in v) >>= λ r. stands r >> gives r) (λ v y later grows one.
        found_ends y.now.bones (IsOf s) (ref_in v) y later (λ r. stands r >> gives r) (λ r ref.
        ends_then y.now.bones (λ b u. (r.object == 0) ≡ false) (IsOf s) (stands r y) (stands_ends r y later) (λ u. gives r) (λ u z last more some.
        ends_done (IsOf s) r z last (is_later s y.now.bones z.now.bones r more (ref_of y.now.bones s v r is one ref some)))))

    -- the receiver of a call
    pub receiver_ends : (of : Option Expr) (c : Class) → receiver_class at of ≡ Some c → (x : Tx O A) → IsTyped x → FitsFrame x.now.bones at frame
        → Ends x.now.bones (λ b r. IsKnown b.classes c × IsAt c.name b r) (receiver of frame x)
    receiver_ends None c is x h fits =
        ends_then x.now.bones (λ b u. (frame.this.object == 0) ≡ false) (λ b r. IsKnown b.classes c × IsAt c.name b r) (stands frame.this x) (stands_ends frame.this x h) (λ u. gives frame.this) (λ u y typed grows some.
        let later = frame_follows x.now.bones y.now.bones grows.follows at frame fits in
        ends_done (λ b r. IsKnown b.classes c × IsAt c.name b r) frame.this y typed
        (if_some_at (IsKnown y.now.bones.classes) at.class later.known c is, record { fits = if_some_at (λ (d : Class). FitsRef (all_alive y.now.bones) d.name frame.this) at.class later.this c is; some = some }))
    receiver_ends (Some e) c is x h fits =
        let of = then_some (class_of at.classes) (sort_in e at) c is in
        let class = sort_class x.now.bones h.sound of.0 c (subst (λ cs. class_of cs of.0 ≡ Some c) fits.classes of.2) in
        let reference_is : is_reference of.0 ≡ true = ap is_reference class.1 in
        ends_as x.now.bones (IsOf of.0) (λ b r. IsKnown b.classes c × IsAt c.name b r) (reference e frame x) (reference_ends e of.0 of.1 reference_is x h fits) (λ b r grows it.
        let name : it.class ≡ c.name = names it.class c.name (sym it.of ∙ class.1) in
        (subst (λ cs. IsKnown cs c) (sym grows.follows.classes) class.0, subst (λ n. IsAt n b r) name it.is))
