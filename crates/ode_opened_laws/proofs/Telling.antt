-- What the records of a world's objects tell an opening.
use Rattle.std.proofs.Common.{◌≡◌, ℕ, ◌+◌, ◌<◌, ◌≤◌, List, [], ◌∷◌, ◌++◌, map, length, Bool, true, false, cond, Option, Some, None, refl, ap, subst, ◌∙◌, append_assoc, arith}
use Rattle.std.specs.Prelude.{◌==◌, ◌||◌}
use Rattle.std.specs.List.{AllByRecursion, flat_map, list_any}
use Rattle.std.specs.Option.{option_and_then, option_map, option_or, unwrap_or}
use Rattle.std.proofs.lemmas.Bool.Decides.{nat_tests}
use Rattle.ode_codec.specs.Reading.{record_under}
use Rattle.ode_codec.specs.Rules.{IsRecord}
use Rattle.ode_codec.specs.Spelling.{key_of, value_of}
use Rattle.ode_codec.specs.StoredRows.{activation_row, entry_row, object_row, state_of, version_rows}
use Rattle.ode_codec.specs.declared.record.Record.{Record}
use Rattle.ode_codec.specs.declared.record.Record.TheVariants as of
use Rattle.ode_heap.specs.Answering.{IsReadableEntry, entry_of, with_state}
use Rattle.ode_keep.specs.Entries.{Entries}
use Rattle.ode_opening_laws.proofs.Decoding.{Again, decodes_one}
use Rattle.ode_opening_objects.specs.Heads.{has_version, head_in, head_under, of_object}
use Rattle.ode_opening_objects.specs.declared.head.Head.{Head}
use Rattle.ode_value.specs.Denoting.{object_numbered}
use Rattle.ode_value.specs.Fields.{born_values, fields_of}
use Rattle.ode_value.specs.GoodWorlds.{RiseFrom}
use Rattle.ode_value.specs.Keys.{activation_key, entry_key, object_key, version_key}
use Rattle.ode_value.specs.Objects.{Activation}
use Rattle.ode_value.specs.Records.{Row, version_row}
use Rattle.ode_value.specs.Versions.{Version}
use Rattle.ode_value.specs.Worlds.{Declared, Entry, Object, World}
use Rattle.ode_value.specs.declared.class.Field.{Field}

abbrev pub object_record : Object → Record
object_record o = of.Object o.id o.class o.last

-- a version, by the fields of its class
abbrev pub version_record : ℕ → List Field → Version → Record
version_record id fields v = of.Version id v.number (unwrap_or v.parent 0) v.stamp (born_values v.stamp fields v.fields)

abbrev pub head_of : Object → Head
head_of o = record { class = o.class; last = o.last }

-- ---- records

object_keyed : (o : Object) → object_key o.id ≡ key_of (object_record o)
unfolding key_of
object_keyed o = refl

object_spelled : (o : Object) → (object_row o).1 ≡ value_of (object_record o)
unfolding value_of
object_spelled o = refl

pub object_reads : Again → (o : Object) → IsRecord (object_record o) → record_under (object_row o).0 (object_row o).1 ≡ Some (object_record o)
object_reads again o is = decodes_one again (object_record o) (object_row o).0 (object_row o).1 is (object_keyed o) (object_spelled o)

version_keyed : (id : ℕ) (fields : List Field) (v : Version) → version_key id v.number ≡ key_of (version_record id fields v)
unfolding key_of
version_keyed id fields v = refl

version_spelled : (id : ℕ) (fields : List Field) (v : Version) → (version_row id fields v).1 ≡ value_of (version_record id fields v)
unfolding value_of
version_spelled id fields v = refl

pub version_reads : Again → (id : ℕ) (fields : List Field) (v : Version) → IsRecord (version_record id fields v)
    → record_under (version_row id fields v).0 (version_row id fields v).1 ≡ Some (version_record id fields v)
version_reads again id fields v is =
    let row = version_row id fields v in
    decodes_one again (version_record id fields v) row.0 row.1 is (version_keyed id fields v) (version_spelled id fields v)

-- an activation with its state number, and an entry
abbrev pub activation_record : World (Unit {0}) ℕ → ℕ → Activation → Record
activation_record w id a = of.Activation (with_state w id a)

abbrev pub entry_record : ℕ × Entry → Record
entry_record q = of.Entry q.0 (entry_of q.1)

activation_keyed : (w : World (Unit {0}) ℕ) (id : ℕ) (a : Activation) → activation_key id a.number ≡ key_of (activation_record w id a)
unfolding key_of
activation_keyed w id a = refl

activation_spelled : (w : World (Unit {0}) ℕ) (id : ℕ) (a : Activation) → (activation_row id (state_of w id a.number) a).1 ≡ value_of (activation_record w id a)
unfolding value_of
activation_spelled w id a = simp append_assoc

pub activation_reads : Again → (w : World (Unit {0}) ℕ) (id : ℕ) (a : Activation) → IsRecord (activation_record w id a)
    → record_under (activation_row id (state_of w id a.number) a).0 (activation_row id (state_of w id a.number) a).1 ≡ Some (activation_record w id a)
activation_reads again w id a is =
    let row = activation_row id (state_of w id a.number) a in
    decodes_one again (activation_record w id a) row.0 row.1 is (activation_keyed w id a) (activation_spelled w id a)

entry_keyed : (q : ℕ × Entry) → entry_key q.0 ≡ key_of (entry_record q)
unfolding key_of
entry_keyed q = refl

entry_spelled : (q : ℕ × Entry) → (entry_row q).1 ≡ value_of (entry_record q)
unfolding value_of
entry_spelled q = simp append_assoc

pub entry_reads : Again → (q : ℕ × Entry) → IsReadableEntry q → record_under (entry_row q).0 (entry_row q).1 ≡ Some (entry_record q)
entry_reads again q is = decodes_one again (entry_record q) (entry_row q).0 (entry_row q).1 is (entry_keyed q) (entry_spelled q)

-- ---- numbers

it : (n : ℕ) → (n == n) ≡ true
it n = grind (arith, nat_tests)

before : (m n : ℕ) → m < n → (m == n) ≡ false
before m n less = grind (arith, nat_tests)

behind : (m n : ℕ) → n < m → (m == n) ≡ false
behind m n less = grind (arith, nat_tests)

abbrev pub numbers : List Object → List ℕ
numbers os = map (λ (o : Object). o.id) os

above : (low : ℕ) (os : List Object) → RiseFrom low (numbers os) → AllByRecursion (λ (o : Object). low ≤ o.id) os
above low [] rising = tt
above low (o ∷ os) rising =
    let least : low ≤ o.id = rising.0 in
    (least, more os (above (o.id + 1) os rising.1))
  where
    more : (os : List Object) → AllByRecursion (λ (p : Object). o.id + 1 ≤ p.id) os → AllByRecursion (λ (p : Object). low ≤ p.id) os
    more [] all = tt
    more (p ∷ ps) all = let far : o.id + 1 ≤ p.id = all.0 in let near : low ≤ o.id = rising.0 in (omega arith, more ps all.1)

-- ---- the objects by their numbers

none_later : (os : List Object) (id : ℕ) → AllByRecursion (λ (o : Object). id + 1 ≤ o.id) os → head_in (map object_row os) id ≡ None
none_later [] id all = refl
none_later (o ∷ os) id all =
    let far : id + 1 ≤ o.id = all.0 in
    ap (λ (g : Option Head). option_or g (cond (o.id == id) (head_under (object_row o)) None)) (none_later os id all.1)
    ∙ ap (λ b. option_or None (cond b (head_under (object_row o)) None)) (behind o.id id (omega arith))

module _ (again : Again) where
  head_tells : (o : Object) → IsRecord (object_record o) → head_under (object_row o) ≡ Some (head_of o)
  head_tells o is = ap (option_and_then of_object) (object_reads again o is)

  head_step : (o : Object) (os : List Object) (id : ℕ) → IsRecord (object_record o) → RiseFrom (o.id + 1) (numbers os)
      → head_in (map object_row os) id ≡ option_map head_of (object_numbered id os)
      → (b : Bool) → (o.id == id) ≡ b → option_or (head_in (map object_row os) id) (cond b (head_under (object_row o)) None) ≡ option_map head_of (cond b (Some o) (object_numbered id os))
  head_step o os id is rising more true test =
      let same : o.id ≡ id = grind (arith, nat_tests) in
      let later : AllByRecursion (λ (p : Object). id + 1 ≤ p.id) os = subst (λ (n : ℕ). AllByRecursion (λ (p : Object). n + 1 ≤ p.id) os) same (above (o.id + 1) os rising) in
      ap (λ (g : Option Head). option_or g (head_under (object_row o))) (none_later os id later) ∙ head_tells o is
  head_step o os id is rising more false test = ap (λ (g : Option Head). option_or g None) more ∙ by (object_numbered id os)
    where
      by : (g : Option Object) → option_or (option_map head_of g) None ≡ option_map head_of g
      by None = refl
      by (Some p) = refl

  pub heads_tell : (os : List Object) (low id : ℕ) → RiseFrom low (numbers os) → AllByRecursion (λ (o : Object). IsRecord (object_record o)) os
      → head_in (map object_row os) id ≡ option_map head_of (object_numbered id os)
  heads_tell [] low id rising all = refl
  heads_tell (o ∷ os) low id rising all = head_step o os id all.0 rising.1 (heads_tell os (o.id + 1) id rising.1 all.1) (o.id == id) refl

-- each object is the one of its number
own_later : (o : Object) (os ps : List Object) → AllByRecursion (λ (p : Object). o.id + 1 ≤ p.id) ps → AllByRecursion (λ (p : Object). object_numbered p.id os ≡ Some p) ps
    → AllByRecursion (λ (p : Object). object_numbered p.id (o ∷ os) ≡ Some p) ps
own_later o os [] far all = tt
own_later o os (p ∷ ps) far all =
    let later : o.id + 1 ≤ p.id = far.0 in
    (ap (λ b. cond b (Some o) (object_numbered p.id os)) (before o.id p.id (omega arith)) ∙ all.0, own_later o os ps far.1 all.1)

pub own_numbers : (os : List Object) (low : ℕ) → RiseFrom low (numbers os) → AllByRecursion (λ (o : Object). object_numbered o.id os ≡ Some o) os
own_numbers [] low rising = tt
own_numbers (o ∷ os) low rising =
    (ap (λ b. cond b (Some o) (object_numbered o.id os)) (it o.id), own_later o os os (above (o.id + 1) os rising.1) (own_numbers os (o.id + 1) rising.1))

-- ---- their versions

any_behind : (p : Row → Bool) (es ds : Entries) → list_any p ds ≡ true → list_any p (es ++ ds) ≡ true
any_behind p [] ds is = is
any_behind p (e ∷ es) ds is = or_right (p e) (list_any p (es ++ ds)) (any_behind p es ds is)
  where
    or_right : (a b : Bool) → b ≡ true → a || b ≡ true
    or_right true b here = refl
    or_right false b here = here

own_version : (fields : List Field) (o : Object) (vs : List Version) (more : Entries) → 0 < length vs → list_any (λ (e : Row). e.0.a == o.id) (map (version_row o.id fields) vs ++ more) ≡ true
own_version fields o [] more some = absurd (omega arith)
own_version fields o (v ∷ vs) more some = ap (λ b. b || list_any (λ (e : Row). e.0.a == o.id) (map (version_row o.id fields) vs ++ more)) (it o.id)

module _ (cs : List Declared) where
  some_later : (o : Object) (os ps : List Object) → AllByRecursion (λ (p : Object). has_version (flat_map (version_rows cs) os) p.id ≡ true) ps
      → AllByRecursion (λ (p : Object). has_version (flat_map (version_rows cs) (o ∷ os)) p.id ≡ true) ps
  some_later o os [] all = tt
  some_later o os (p ∷ ps) all = (any_behind (λ (e : Row). e.0.a == p.id) (version_rows cs o) (flat_map (version_rows cs) os) all.0, some_later o os ps all.1)

  pub have_versions : (os : List Object) → AllByRecursion (λ (o : Object). 0 < length o.versions) os → AllByRecursion (λ (o : Object). has_version (flat_map (version_rows cs) os) o.id ≡ true) os
  have_versions [] all = tt
  have_versions (o ∷ os) all = (own_version (fields_of cs o.class) o o.versions (flat_map (version_rows cs) os) all.0, some_later o os os (have_versions os all.1))
