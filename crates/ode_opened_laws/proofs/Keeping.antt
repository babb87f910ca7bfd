-- The objects of a good world, their versions and the references in these keep the rules of an opening.
use Rattle.std.proofs.Common.{◌≡◌, ℕ, ◌<◌, ◌≤◌, List, [], ◌∷◌, ◌++◌, map, length, Bool, true, false, cond, Option, Some, None, Ok, Err, refl, ap, subst, ◌∙◌, arith}
use Rattle.std.specs.Prelude.{◌==◌, ◌||◌, ◌&&◌, nat_le, nat_lt}
use Rattle.std.specs.List.{AllByRecursion, flat_map}
use Rattle.std.specs.Option.{IfSome, IsSome, is_some, option_and_then, option_map, option_map_or, unwrap_or}
use Rattle.std.proofs.lemmas.Bool.Decides.{nat_tests}
use Rattle.ode_codec.specs.Rules.{IsRecord}
use Rattle.ode_codec.specs.declared.record.Record.{Record}
use Rattle.ode_codec.specs.Sorts.{has_sort}
use Rattle.ode_codec.specs.StoredRows.{object_row, version_rows}
use Rattle.ode_heap.proofs.Sorts.{sort_of}
use Rattle.ode_heap.specs.Answering.{IsReadableObject, IsReadableVersion}
use Rattle.ode_keep.specs.Entries.{Entries}
use Rattle.ode_opening_laws.specs.Holding.{class_of}
use Rattle.ode_opening_laws.proofs.Decoding.{Again}
use Rattle.ode_opening_laws.proofs.Each.{all_then}
use Rattle.ode_opening_objects.specs.Fitting.{fit_references, fits_object, fits_reference, fits_sort, have_sorts, inherits, is_drawn}
use Rattle.ode_opening_objects.specs.Heads.{has_version, head_in, of_object}
use Rattle.ode_opening_objects.specs.Objects.{fields_fit, fits_head, object_fits, object_keeps, references_fit, references_in, references_keep, version_fits, version_keeps}
use Rattle.ode_opening_objects.specs.declared.head.Head.{Head}
use Rattle.ode_passes.specs.Rules.{Ruled, ◌>>=◌, each, found, needs}
use Rattle.ode_passes.specs.declared.cause.Cause.TheVariants as cause
use Rattle.ode_sound_laws.specs.Typed.{AreFromOne}
use Rattle.ode_types.specs.Families as families
use Rattle.ode_value.specs.Denoting.{if_live, object_at, object_numbered}
use Rattle.ode_value.specs.Fields.{born_values, fields_of, is_born}
use Rattle.ode_value.specs.Fitting.{FitFields, FitsObject, FitsRef, FitsSort, IsDrawn}
use Rattle.ode_value.specs.GoodWorlds.{AreBones, IsObject, IsVersion}
use Rattle.ode_value.specs.Language.{Language}
use Rattle.ode_value.specs.Records.{Row, version_row}
use Rattle.ode_value.specs.Versions.{Version}
use Rattle.ode_value.specs.Worlds.{Bones, Declared, Object, World, class_numbered}
use Rattle.ode_value.specs.declared.class.Class.{Class}
use Rattle.ode_value.specs.declared.class.Field.{Field}
use Rattle.ode_value.specs.declared.statement.Sort.{Sort}
use Rattle.ode_value.specs.declared.statement.Sort.TheVariants as sort
use Rattle.ode_value.specs.declared.value.Ref.{Ref}
use Rattle.ode_value.specs.declared.value.Value.{Value}
use Rattle.ode_value.specs.declared.value.Value.TheVariants as value
use Rattle.ode_opened_laws.proofs.Climbing.{is_inherited}
use Rattle.ode_opened_laws.proofs.Telling.{have_versions, head_of, heads_tell, object_reads, object_record, own_numbers, version_reads}

-- ---- one behind the other

each_step : {X : Type 0} (rule : X → Ruled (Unit {0})) (xs ys : List X) → (each rule xs ≡ Ok tt → each rule (xs ++ ys) ≡ Ok tt)
    → (m : Ruled (Unit {0})) → (m >>= λ _. each rule xs) ≡ Ok tt → (m >>= λ _. each rule (xs ++ ys)) ≡ Ok tt
each_step rule xs ys more (Ok u) ran = more ran
each_step rule xs ys more (Err e) ran = absurd (cc)

pub each_append : {X : Type 0} (rule : X → Ruled (Unit {0})) (xs ys : List X) → each rule xs ≡ Ok tt → each rule ys ≡ Ok tt → each rule (xs ++ ys) ≡ Ok tt
each_append rule [] ys one other = other
each_append rule (x ∷ xs) ys one other = each_step rule xs ys (λ ran. each_append rule xs ys ran other) (rule x) one

pub each_map : {X Y : Type 0} (rule : Y → Ruled (Unit {0})) (f : X → Y) (xs : List X) → AllByRecursion (λ x. rule (f x) ≡ Ok tt) xs → each rule (map f xs) ≡ Ok tt
each_map rule f [] all = refl
each_map rule f (x ∷ xs) all = ap (λ (m : Ruled (Unit {0})). m >>= λ _. each rule (map f xs)) all.0 ∙ each_map rule f xs all.1

pub each_flat : {X Y : Type 0} (rule : Y → Ruled (Unit {0})) (f : X → List Y) (xs : List X) → AllByRecursion (λ x. each rule (f x) ≡ Ok tt) xs → each rule (flat_map f xs) ≡ Ok tt
each_flat rule f [] all = refl
each_flat rule f (x ∷ xs) all = each_append rule (f x) (flat_map f xs) all.0 (each_flat rule f xs all.1)

-- ---- tests

pub less : (m n : ℕ) → m < n → nat_lt m n ≡ true
less m n is = grind (arith, nat_tests)

pub upto : (m n : ℕ) → m ≤ n → nat_le m n ≡ true
upto m n is = grind (arith, nat_tests)

pub both : (a b : Bool) → a ≡ true → b ≡ true → a && b ≡ true
both true b one other = other
both false b one other = absurd (cc)

pub or_right : (a b : Bool) → b ≡ true → a || b ≡ true
or_right true b is = refl
or_right false b is = is

pub same_numbered : (ds : List Declared) (n : ℕ) → families.class_numbered (map class_of ds) n ≡ class_numbered n ds
same_numbered [] n = refl
same_numbered (d ∷ ds) n = ap (λ (o : Option Class). cond (d.class.number == n) (Some d.class) o) (same_numbered ds n)

parent_below : (parent : Option ℕ) (n : ℕ) → IfSome parent (λ p. (0 < p) × (p < n)) → (unwrap_or parent 0 == 0) || nat_lt (unwrap_or parent 0) n ≡ true
parent_below None n is = refl
parent_below (Some p) n is = or_right (p == 0) (nat_lt p n) (less p n is.1)

pub numbered_all : (P : Object → Type 0) (os : List Object) (id : ℕ) (o : Object) → AllByRecursion P os → object_numbered id os ≡ Some o → P o
numbered_all P [] id o all is = absurd (cc)
numbered_all P (p ∷ ps) id o all is = by (λ there. numbered_all P ps id o all.1 there) (p.id == id) is
  where
    by : (object_numbered id ps ≡ Some o → P o) → (b : Bool) → cond b (Some p) (object_numbered id ps) ≡ Some o → P o
    by rest true there = let same : p ≡ o = cc in subst P same all.0
    by rest false there = rest there

-- ---- values

-- a field that came later has no value in the record
sorts_skip : (stamp : ℕ) (f : Field) (fs : List Field) (vs : List Value) → is_born stamp f ≡ false → have_sorts stamp (f ∷ fs) vs ≡ have_sorts stamp fs vs
sorts_skip stamp f fs [] later = ap (λ t. cond t false (have_sorts stamp fs [])) later
sorts_skip stamp f fs (v ∷ vs) later = ap (λ t. cond t (has_sort f.sort v && have_sorts stamp fs vs) (have_sorts stamp fs (v ∷ vs))) later

sorts_step : (b : Bones) (stamp : ℕ) (f : Field) (fs : List Field) (v : Value) (vs : List Value) → FitsSort b f.sort v → have_sorts stamp fs vs ≡ true
    → (t : Bool) → is_born stamp f ≡ t → have_sorts stamp (f ∷ fs) (cond t (v ∷ vs) vs) ≡ true
sorts_step b stamp f fs v vs fits more true born =
    ap (λ t. cond t (has_sort f.sort v && have_sorts stamp fs vs) (have_sorts stamp fs (v ∷ vs))) born
    ∙ both (has_sort f.sort v) (have_sorts stamp fs vs) (sort_of b f.sort v fits) more
sorts_step b stamp f fs v vs fits more false later = sorts_skip stamp f fs vs later ∙ more

sorts_of : (b : Bones) (stamp : ℕ) (fs : List Field) (vs : List Value) → FitFields b fs vs → have_sorts stamp fs (born_values stamp fs vs) ≡ true
sorts_of b stamp [] [] fit = refl
sorts_of b stamp [] (v ∷ vs) fit = absurd fit
sorts_of b stamp (f ∷ fs) [] fit = absurd fit
sorts_of b stamp (f ∷ fs) (v ∷ vs) fit = sorts_step b stamp f fs v (born_values stamp fs vs) fit.0 (sorts_of b stamp fs vs fit.1) (is_born stamp f) refl

-- ---- a good world

module _ (l : Language) (w : World (Unit {0}) ℕ) (are : AreBones l w.bones) (again : Again) where
  abbrev b : Bones
  b = w.bones

  abbrev classes : List Class
  classes = map class_of b.classes

  abbrev objects : Entries
  objects = map object_row b.objects

  abbrev versions : Entries
  versions = flat_map (version_rows b.classes) b.objects

  -- the fields of an object's class
  abbrev own_fields : Object → List Field
  own_fields o = fields_of b.classes o.class

  abbrev heads : ℕ → Option Head
  heads = head_in objects

  module _ (reads : AllByRecursion (IsReadableObject w) b.objects) (ones : AreFromOne b) where
    pub tells : (id : ℕ) → heads id ≡ option_map head_of (object_numbered id b.objects)
    tells id = heads_tell again b.objects 0 id are.rising (all_then (IsReadableObject w) (λ o. IsRecord (object_record o)) (λ o is. is.spells) b.objects reads)

    -- ---- references

    drawn : (last : ℕ) (version : Option ℕ) → IsDrawn last version → is_drawn last version ≡ true
    drawn last None is = refl
    drawn last (Some v) is = upto v last is

    fitting : (class : List ℕ) (version : Option ℕ) (o : Object) → (r : Ref) → r.version ≡ version → FitsObject b class r o → fits_object classes class version (head_of o) ≡ true
    fitting class version o r same fits =
        both (inherits classes o.class class) (is_drawn o.last version) (is_inherited l b.added b.classes o.class class are.classes fits.fits)
        (drawn o.last version (subst (IsDrawn o.last) same fits.version))

    live_fits : (class : List ℕ) (r : Ref) (g : Option Object) → object_numbered r.object b.objects ≡ g → IfSome (option_and_then if_live g) (FitsObject b class r)
        → option_map_or (fits_object classes class r.version) (option_map head_of g) true ≡ true
    live_fits class r None there fits = refl
    live_fits class r (Some o) there fits =
        let live : o.live ≡ true = numbered_all (λ (p : Object). p.live ≡ true) b.objects r.object o (all_then (IsObject b) (λ (p : Object). p.live ≡ true) (λ p is. is.live) b.objects are.objects) there in
        fitting class r.version o r refl (subst (λ t. IfSome (cond t (Some o) None) (FitsObject b class r)) live fits)

    pub reference_fits : (class : List ℕ) (r : Ref) → FitsRef b class r → fits_reference b.next classes heads class r ≡ true
    reference_fits class r fits = by (r.object == 0) fits.object
      where
        found_fits : IfSome (object_at b r.object) (FitsObject b class r) → option_map_or (fits_object classes class r.version) (heads r.object) true ≡ true
        found_fits object =
            ap (λ (g : Option Head). option_map_or (fits_object classes class r.version) g true) (tells r.object)
            ∙ live_fits class r (object_numbered r.object b.objects) refl object

        by : (t : Bool) → IfSome (cond t None (object_at b r.object)) (FitsObject b class r)
            → t || (nat_lt r.object b.next && option_map_or (fits_object classes class r.version) (heads r.object) true) ≡ true
        by true object = refl
        by false object =
            both (nat_lt r.object b.next) (option_map_or (fits_object classes class r.version) (heads r.object) true) (less r.object b.next fits.drawn) (found_fits object)

    pub value_fits : (s : Sort) (v : Value) → FitsSort b s v → fits_sort b.next classes heads s v ≡ true
    value_fits (sort.Reference class) (value.Reference r) fits = reference_fits class r fits
    value_fits (sort.Reference class) (value.Int n) fits = refl
    value_fits (sort.Reference class) (value.Bool t) fits = refl
    value_fits (sort.Reference class) (value.Text t) fits = refl
    value_fits sort.Int v fits = refl
    value_fits sort.Bool v fits = refl
    value_fits sort.Text v fits = refl
    value_fits sort.Void v fits = refl

    refers_skip : (stamp : ℕ) (f : Field) (fs : List Field) (vs : List Value) → is_born stamp f ≡ false → fit_references b.next classes heads stamp fs vs ≡ true
        → fit_references b.next classes heads stamp (f ∷ fs) vs ≡ true
    refers_skip stamp f fs [] later is = refl
    refers_skip stamp f fs (v ∷ vs) later is =
        ap (λ t. cond t (fits_sort b.next classes heads f.sort v && fit_references b.next classes heads stamp fs vs) (fit_references b.next classes heads stamp fs (v ∷ vs))) later ∙ is

    refers_step : (stamp : ℕ) (f : Field) (fs : List Field) (v : Value) (vs : List Value) → FitsSort b f.sort v → fit_references b.next classes heads stamp fs vs ≡ true
        → (t : Bool) → is_born stamp f ≡ t → fit_references b.next classes heads stamp (f ∷ fs) (cond t (v ∷ vs) vs) ≡ true
    refers_step stamp f fs v vs fits more true born =
        ap (λ t. cond t (fits_sort b.next classes heads f.sort v && fit_references b.next classes heads stamp fs vs) (fit_references b.next classes heads stamp fs (v ∷ vs))) born
        ∙ both (fits_sort b.next classes heads f.sort v) (fit_references b.next classes heads stamp fs vs) (value_fits f.sort v fits) more
    refers_step stamp f fs v vs fits more false later = refers_skip stamp f fs vs later more

    values_fit : (stamp : ℕ) (fs : List Field) (vs : List Value) → FitFields b fs vs → fit_references b.next classes heads stamp fs (born_values stamp fs vs) ≡ true
    values_fit stamp [] [] fit = refl
    values_fit stamp [] (v ∷ vs) fit = refl
    values_fit stamp (f ∷ fs) [] fit = refl
    values_fit stamp (f ∷ fs) (v ∷ vs) fit = refers_step stamp f fs v (born_values stamp fs vs) fit.0 (values_fit stamp fs vs fit.1) (is_born stamp f) refl

    -- ---- an object

    -- all that is known of an object
    pub record IsTold (o : Object) : Type 0 where
      pub is : IsObject b o
      pub reads_it : IsReadableObject w o
      pub own : object_numbered o.id b.objects ≡ Some o
      pub has : has_version versions o.id ≡ true
      pub some : AllByRecursion (λ (v : Version). 0 < v.number) o.versions

    all_told : (os : List Object) → AllByRecursion (IsObject b) os → AllByRecursion (IsReadableObject w) os → AllByRecursion (λ (o : Object). object_numbered o.id b.objects ≡ Some o) os
        → AllByRecursion (λ (o : Object). has_version versions o.id ≡ true) os → AllByRecursion (λ (o : Object). AllByRecursion (λ (v : Version). 0 < v.number) o.versions) os
        → AllByRecursion IsTold os
    all_told [] one two three four five = tt
    all_told (o ∷ os) one two three four five =
        (record { is = one.0; reads_it = two.0; own = three.0; has = four.0; some = five.0 }, all_told os one.1 two.1 three.1 four.1 five.1)

    pub told : AllByRecursion IsTold b.objects
    told =
        all_told b.objects are.objects reads (own_numbers b.objects 0 are.rising)
        (have_versions b.classes b.objects (all_then (IsObject b) (λ (o : Object). 0 < length o.versions) (λ o is. is.some) b.objects are.objects)) ones

    pub head_told : (o : Object) → IsTold o → heads o.id ≡ Some (head_of o)
    head_told o it = tells o.id ∙ ap (option_map head_of) it.own

    pub known : (o : Object) → IsTold o → is_some (families.class_numbered classes o.class) ≡ true
    known o it = ap is_some (same_numbered b.classes o.class) ∙ by (class_numbered o.class b.classes) it.is.class
      where
        by : (g : Option Class) → IsSome g → is_some g ≡ true
        by None some = absurd (cc)
        by (Some c) some = refl

    object_kept : (o : Object) → IsTold o → object_keeps b.next classes (has_version versions) (object_row o) ≡ Ok tt
    object_kept o it =
        let why = cause.Record (object_row o).0 in
        let test : object_fits b.next classes (has_version versions) (object_row o) (head_of o) ≡ true =
        both (nat_lt o.id b.next) (is_some (families.class_numbered classes o.class) && has_version versions o.id) (less o.id b.next it.is.number)
        (both (is_some (families.class_numbered classes o.class)) (has_version versions o.id) (known o it) it.has) in
        ap (λ (g : Option Record). (found why g >>= λ r. found why (of_object r) >>= λ h. needs why (object_fits b.next classes (has_version versions) (object_row o) h) >>= λ _. Ok h) >>= λ _. Ok tt)
        (object_reads again o it.reads_it.spells)
        ∙ ap (λ t. (needs why t >>= λ _. Ok (head_of o)) >>= λ _. Ok tt) test

    pub objects_kept : each (object_keeps b.next classes (has_version versions)) objects ≡ Ok tt
    objects_kept = each_map (object_keeps b.next classes (has_version versions)) object_row b.objects (all_then IsTold (λ o. object_keeps b.next classes (has_version versions) (object_row o) ≡ Ok tt) object_kept b.objects told)

    -- ---- its versions

    record IsOwn (o : Object) (c : Class) (v : Version) : Type 0 where
      is : IsVersion b c o.last v
      reads_it : IsReadableVersion o.id (own_fields o) v
      some : 0 < v.number

    own_versions : (o : Object) (c : Class) (vs : List Version) → AllByRecursion (IsVersion b c o.last) vs → AllByRecursion (IsReadableVersion o.id (own_fields o)) vs
        → AllByRecursion (λ (v : Version). 0 < v.number) vs → AllByRecursion (IsOwn o c) vs
    own_versions o c [] one two three = tt
    own_versions o c (v ∷ vs) one two three = (record { is = one.0; reads_it = two.0; some = three.0 }, own_versions o c vs one.1 two.1 three.1)

    -- the values that its record has
    abbrev born_of : Object → Version → List Value
    born_of o v = born_values v.stamp (own_fields o) v.fields

    abbrev added : ℕ
    added = length b.added

    module _ (o : Object) (it : IsTold o) (c : Class) (at : class_numbered o.class b.classes ≡ Some c) where
      class_at : families.class_numbered classes o.class ≡ Some c
      class_at = same_numbered b.classes o.class ∙ at

      fields_at : own_fields o ≡ c.fields
      fields_at = ap (λ (g : Option Class). option_map_or (λ (d : Class). d.fields) g []) at

      version_kept : (v : Version) → IsOwn o c v → version_keeps added classes heads (version_row o.id (own_fields o) v) ≡ Ok tt
      version_kept v own =
          let why = cause.Record (version_row o.id (own_fields o) v).0 in
          let number = v.number in
          let parent = unwrap_or v.parent 0 in
          let values : List Value = born_of o v in
          let fields : fields_fit classes o.class v.stamp values ≡ true =
          ap (λ (g : Option Class). option_map_or (λ (d : Class). have_sorts v.stamp d.fields values) g false) class_at
          ∙ ap (λ (fs : List Field). have_sorts v.stamp c.fields (born_values v.stamp fs v.fields)) fields_at ∙ sorts_of b v.stamp c.fields v.fields own.is.fields in
          let test : fits_head classes number parent v.stamp values (head_of o) ≡ true =
          both (nat_le 1 number) (nat_le number o.last && (((parent == 0) || nat_lt parent number) && fields_fit classes o.class v.stamp values)) (upto 1 number (omega (arith, own.some)))
          (both (nat_le number o.last) (((parent == 0) || nat_lt parent number) && fields_fit classes o.class v.stamp values) (upto number o.last own.is.number)
          (both ((parent == 0) || nat_lt parent number) (fields_fit classes o.class v.stamp values) (parent_below v.parent number own.is.parent) fields)) in
          ap (λ (g : Option Record). found why g >>= λ r. needs why (version_fits added classes heads r)) (version_reads again o.id (own_fields o) v own.reads_it.spells)
          ∙ ap (λ (g : Option Head). needs why (nat_le v.stamp added && option_map_or (fits_head classes number parent v.stamp values) g false)) (head_told o it)
          ∙ ap (needs why) (both (nat_le v.stamp added) (fits_head classes number parent v.stamp values (head_of o)) (upto v.stamp added own.is.stamp) test)

      references_kept : (v : Version) → IsOwn o c v → references_keep b.next classes heads (version_row o.id (own_fields o) v) ≡ Ok tt
      references_kept v own =
          let why = cause.Record (version_row o.id (own_fields o) v).0 in
          let values : List Value = born_of o v in
          let test : references_in b.next classes heads o.class v.stamp values ≡ true =
          ap (λ (g : Option Class). option_map_or (λ (d : Class). fit_references b.next classes heads v.stamp d.fields values) g true) class_at
          ∙ ap (λ (fs : List Field). fit_references b.next classes heads v.stamp c.fields (born_values v.stamp fs v.fields)) fields_at ∙ values_fit v.stamp c.fields v.fields own.is.fields in
          ap (λ (g : Option Record). found why g >>= λ r. needs why (references_fit b.next classes heads r)) (version_reads again o.id (own_fields o) v own.reads_it.spells)
          ∙ ap (λ (g : Option Head). needs why (option_map_or (λ (h : Head). references_in b.next classes heads h.class v.stamp values) g true)) (head_told o it)
          ∙ ap (needs why) test

    module _ (rule : Row → Ruled (Unit {0}))
        (one : (o : Object) (it : IsTold o) (c : Class) (at : class_numbered o.class b.classes ≡ Some c) (v : Version) → IsOwn o c v → rule (version_row o.id (own_fields o) v) ≡ Ok tt) where
      own_kept : (o : Object) → IsTold o → (g : Option Class) → class_numbered o.class b.classes ≡ g → IsSome g → IfSome g (λ c. AllByRecursion (IsVersion b c o.last) o.versions)
          → each rule (version_rows b.classes o) ≡ Ok tt
      own_kept o it None at some fit = absurd (cc)
      own_kept o it (Some c) at some fit =
          each_map rule (version_row o.id (own_fields o)) o.versions
          (all_then (IsOwn o c) (λ v. rule (version_row o.id (own_fields o) v) ≡ Ok tt) (one o it c at) o.versions (own_versions o c o.versions fit it.reads_it.versions it.some))

      all_kept : each rule versions ≡ Ok tt
      all_kept =
          each_flat rule (version_rows b.classes) b.objects
          (all_then IsTold (λ o. each rule (version_rows b.classes o) ≡ Ok tt) (λ o it. own_kept o it (class_numbered o.class b.classes) refl it.is.class it.is.versions) b.objects told)

    pub versions_kept : each (version_keeps added classes heads) versions ≡ Ok tt
    versions_kept = all_kept (version_keeps added classes heads) version_kept

    pub all_references_kept : each (references_keep b.next classes heads) versions ≡ Ok tt
    all_references_kept = all_kept (references_keep b.next classes heads) references_kept
