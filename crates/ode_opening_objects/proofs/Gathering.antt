-- What passes gather of the numbers of activations, of the objects that have versions, and of objects.
use Rattle.std.proofs.Common.{◌≡◌, ℕ, List, [], ◌∷◌, Bool, true, false, cond, Option, Some, None, Ok, Err, refl, sym, ap, ◌∙◌, arith}
use Rattle.std.specs.Prelude.{◌==◌, ◌||◌}
use Rattle.std.specs.BTreeMap.{insert_entry, is_at}
use Rattle.std.specs.Option.{is_some, option_and_then, option_map_or, option_or, unwrap_or}
use Rattle.std.specs.Ordering.{nat_cmp}
use Rattle.std.proofs.lemmas.Bool.{eqb-true}
use Rattle.std.proofs.lemmas.Bool.Decides.{nat_tests}
use Rattle.std.proofs.lemmas.Cmp.{nat_cmp_total}
use Rattle.ode_codec.specs.Reading.{record_under}
use Rattle.ode_codec.specs.declared.record.Record.{Record}
use Rattle.ode_keep.proofs.Maps.{lookup_put}
use Rattle.ode_keep.specs.Entries.{Entries}
use Rattle.ode_passes.specs.Answers.{Answers, Leaves}
use Rattle.ode_passes.specs.Rules.{Ruled, ◌>>=◌, each, found, needs, through}
use Rattle.ode_passes.specs.Walking.{within}
use Rattle.ode_passes.specs.declared.cause.Cause.TheVariants as cause
use Rattle.ode_passes.specs.declared.error.OpenError.{OpenError}
use Rattle.ode_passes.specs.declared.error.OpenError.TheVariants as error
use Rattle.ode_value.specs.Keys.{object_kind, version_kind}
use Rattle.ode_value.specs.Records.{Row}
use Rattle.ode_value.specs.declared.class.Class.{Class}
use Rattle.ode_opening_objects.specs.Heads.{has_version, head_in, head_under, of_object}
use Rattle.ode_opening_objects.specs.Known.{Known}
use Rattle.ode_opening_objects.specs.Numbers.{at, has, is_twice, numbers_from, owners_from, with_number, with_owner}
use Rattle.ode_opening_objects.specs.Objects.{object_fits, object_head, object_keeps}
use Rattle.ode_opening_objects.specs.Scenes.{heads_from, known_more, objects_kept, with_head, with_object}
use Rattle.ode_opening_objects.specs.Triggers.{has_number, is_shared}
use Rattle.ode_opening_objects.specs.declared.head.Head.{Head}
use Rattle.ode_opening_objects.specs.declared.scene.Roll.{Roll}

-- ---- what a map has

same_test : (k q : ℕ) → is_at (nat_cmp k) q ≡ (k == q)
same_test k q = grind (arith, nat_tests)

at_put : {X : Type 0} (xs : List (ℕ × X)) (k : ℕ) (x : X) (id : ℕ) → at (insert_entry nat_cmp xs k x) id ≡ cond (k == id) (Some x) (at xs id)
at_put xs k x id = lookup_put nat_cmp_total k x id xs ∙ ap (λ b. cond b (Some x) (at xs id)) (same_test k id)

-- ---- activations

pub numbers_through : (ns : List (ℕ × Bool)) (es : Entries) → through (λ numbers e. Ok (with_number numbers e)) ns es ≡ Ok (numbers_from ns es)
numbers_through ns [] = refl
numbers_through ns (e ∷ es) = numbers_through (with_number ns e) es

pub numbers_stop : (ns : List (ℕ × Bool)) (es : Entries) (s all : List (ℕ × Bool)) (e : OpenError) → Leaves {X = Unit {0}} (through (λ numbers e. Ok (with_number numbers e)) ns es) s (Err e) → Answers (Ok all) (Err e)
numbers_stop ns es s all (error.BadFile why) ran = absurd (let goes = numbers_through ns es in cc (goes, ran))
numbers_stop ns es s all error.DiskFault ran = tt
numbers_stop ns es s all error.Memory ran = tt

-- whether a number is there twice, by what was noted of it, whether it comes again, and whether it comes twice
abbrev told : Option Bool → Bool → Bool → Bool
told o again twice = cond (is_some o) (unwrap_or o false || again) twice

told_on : (b : Bool) (o p : Option Bool) (again twice : Bool) → (b ≡ true → p ≡ o) → told (cond b (Some (is_some p)) o) again twice ≡ told o (b || again) (cond b again twice)
told_on false o p again twice same = refl
told_on true o p again twice same = ap (λ (q : Option Bool). told (Some (is_some q)) again twice) (same refl) ∙ by o
  where
    by : (q : Option Bool) → told (Some (is_some q)) again twice ≡ told q true again
    by None = refl
    by (Some true) = refl
    by (Some false) = refl

told_end : (o : Option Bool) → unwrap_or o false ≡ told o false false
told_end None = refl
told_end (Some true) = refl
told_end (Some false) = refl

twice_from : (es : Entries) (ns : List (ℕ × Bool)) (n : ℕ) → is_twice (numbers_from ns es) n ≡ told (at ns n) (has_number es n) (is_shared es n)
twice_from [] ns n = told_end (at ns n)
twice_from (e ∷ es) ns n =
    twice_from es (with_number ns e) n
    ∙ ap (λ (o : Option Bool). told o (has_number es n) (is_shared es n)) (at_put ns e.0.b (is_some (at ns e.0.b)) n)
    ∙ told_on (e.0.b == n) (at ns n) (at ns e.0.b) (has_number es n) (is_shared es n) (λ same. ap (at ns) (eqb-true e.0.b n same))

-- the same numbers are shared
pub numbers_are : (es : Entries) → is_twice (numbers_from [] es) ≡ is_shared es
numbers_are es = λ i n. twice_from es [] n i

-- ---- objects that have versions

pub owners_through : (os : List (ℕ × Unit {0})) (es : Entries) → through (λ owners e. Ok (with_owner owners e)) os es ≡ Ok (owners_from os es)
owners_through os [] = refl
owners_through os (e ∷ es) = owners_through (with_owner os e) es

pub owners_stop : (os : List (ℕ × Unit {0})) (es : Entries) (s all : List (ℕ × Unit {0})) (e : OpenError) → Leaves {X = Unit {0}} (through (λ owners e. Ok (with_owner owners e)) os es) s (Err e) → Answers (Ok all) (Err e)
owners_stop os es s all (error.BadFile why) ran = absurd (let goes = owners_through os es in cc (goes, ran))
owners_stop os es s all error.DiskFault ran = tt
owners_stop os es s all error.Memory ran = tt

some_there : (b : Bool) (o : Option (Unit {0})) → is_some (cond b (Some tt) o) ≡ b || is_some o
some_there true o = refl
some_there false o = refl

swapped : (a b c : Bool) → a || (b || c) ≡ (b || a) || c
swapped true true c = refl
swapped true false c = refl
swapped false true c = refl
swapped false false c = refl

among_from : (es : Entries) (os : List (ℕ × Unit {0})) (id : ℕ) → has (owners_from os es) id ≡ has_version es id || has os id
among_from [] os id = refl
among_from (e ∷ es) os id =
    among_from es (with_owner os e) id
    ∙ ap (λ (o : Option (Unit {0})). has_version es id || is_some o) (at_put os e.0.a tt id)
    ∙ ap (λ b. has_version es id || b) (some_there (e.0.a == id) (at os id))
    ∙ swapped (has_version es id) (e.0.a == id) (has os id)

or_false : (b : Bool) → b || false ≡ b
or_false true = refl
or_false false = refl

-- the same objects have versions
pub owners_are : (es : Entries) → has (owners_from [] es) ≡ has_version es
owners_are es = λ i id. (among_from es [] id ∙ or_false (has_version es id)) i

-- ---- objects

at_with : (heads : List (ℕ × Head)) (e : Row) (id : ℕ) → at (with_head heads e) id ≡ option_or (cond (e.0.a == id) (head_under e) None) (at heads id)
at_with heads e id = by (head_under e)
  where
    by_test : (b : Bool) (h : Head) (o : Option Head) → cond b (Some h) o ≡ option_or (cond b (Some h) None) o
    by_test true h o = refl
    by_test false h o = refl

    none_at : (b : Bool) (o : Option Head) → o ≡ option_or (cond b None None) o
    none_at true o = refl
    none_at false o = refl

    by : (g : Option Head) → at (option_map_or (λ h. insert_entry nat_cmp heads e.0.a h) g heads) id ≡ option_or (cond (e.0.a == id) g None) (at heads id)
    by None = none_at (e.0.a == id) (at heads id)
    by (Some h) = at_put heads e.0.a h id ∙ by_test (e.0.a == id) h (at heads id)

or_or : (a b c : Option Head) → option_or a (option_or b c) ≡ option_or (option_or a b) c
or_or None b c = refl
or_or (Some h) b c = refl

at_from : (es : Entries) (heads : List (ℕ × Head)) (id : ℕ) → at (heads_from heads es) id ≡ option_or (head_in es id) (at heads id)
at_from [] heads id = refl
at_from (e ∷ es) heads id =
    at_from es (with_head heads e) id
    ∙ ap (option_or (head_in es id)) (at_with heads e id)
    ∙ or_or (head_in es id) (cond (e.0.a == id) (head_under e) None) (at heads id)

or_none : (o : Option Head) → option_or o None ≡ o
or_none None = refl
or_none (Some h) = refl

-- the same objects are there
pub heads_are : (es : Entries) → at (heads_from [] es) ≡ head_in es
heads_are es = λ i id. (at_from es [] id ∙ or_none (head_in es id)) i

-- ---- objects that keep their rule

module _ (next : ℕ) (classes : List Class) (owned : ℕ → Bool) where
  -- what is asked of an object that was read
  abbrev asked : Row → Head → Ruled Head
  asked e h = needs (cause.Record e.0) (object_fits next classes owned e h) >>= λ _. Ok h

  abbrev read_as : Row → Option Head → Ruled Head
  read_as e g = found (cause.Record e.0) g >>= asked e

  head_kept : (e : Row) (g : Option Head) (h : Head) → read_as e g ≡ Ok h → g ≡ Some h
  head_kept e None h is = absurd (cc)
  head_kept e (Some g) h is = by (object_fits next classes owned e g) is
    where
      by : (b : Bool) → (needs (cause.Record e.0) b >>= λ _. Ok g) ≡ Ok h → Some g ≡ Some h
      by true ok = cc
      by false ok = absurd (cc)

  head_read : (e : Row) (o : Option Record) (h : Head) → (found (cause.Record e.0) o >>= λ r. read_as e (of_object r)) ≡ Ok h → option_and_then of_object o ≡ Some h
  head_read e None h is = absurd (cc)
  head_read e (Some r) h is = head_kept e (of_object r) h is

  -- what is known of an object that keeps its rule is what its record tells
  is_head : (e : Row) (h : Head) → object_head next classes owned e ≡ Ok h → head_under e ≡ Some h
  is_head e h is = head_read e (record_under e.0 e.1) h is

-- what is asked of an object, by what is read of it
abbrev asks : Ruled Head → Ruled (Unit {0})
asks m = m >>= λ _. Ok tt

abbrev each_keeps : Roll → Entries → Ruled (Unit {0})
each_keeps r es = each (object_keeps r.scene.counters.next_number r.scene.classes (has r.owners)) es

abbrev with_all : Roll → List (ℕ × Head) → Roll
with_all r heads = record r { scene = record r.scene { heads = heads } }

gathered_by : (e : Row) (es : Entries) (r : Roll) → ((t : Roll) → through with_object t es ≡ (each_keeps t es >>= λ _. Ok (with_all t (heads_from t.scene.heads es))))
    → (m : Ruled Head) → object_head r.scene.counters.next_number r.scene.classes (has r.owners) e ≡ m
    → ((m >>= λ h. Ok (record r { scene = known_more r.scene e.0.a h })) >>= λ t. through with_object t es)
    ≡ ((asks m >>= λ _. each_keeps r es) >>= λ _. Ok (with_all r (heads_from (with_head r.scene.heads e) es)))
gathered_by e es r again (Err why) is = refl
gathered_by e es r again (Ok h) is =
    let known : with_head r.scene.heads e ≡ insert_entry nat_cmp r.scene.heads e.0.a h =
    ap (λ (g : Option Head). option_map_or (λ h. insert_entry nat_cmp r.scene.heads e.0.a h) g r.scene.heads) (is_head r.scene.counters.next_number r.scene.classes (has r.owners) e h is) in
    again (record r { scene = known_more r.scene e.0.a h })
    ∙ ap (λ (hs : List (ℕ × Head)). each_keeps r es >>= λ _. Ok (with_all r (heads_from hs es))) (sym known)

gathered : (es : Entries) (r : Roll) → through with_object r es ≡ (each_keeps r es >>= λ _. Ok (with_all r (heads_from r.scene.heads es)))
gathered [] r = refl
gathered (e ∷ es) r = gathered_by e es r (gathered es) (object_head r.scene.counters.next_number r.scene.classes (has r.owners) e) refl

scene_of : (a : Ruled (Unit {0})) (r : Roll) → ((a >>= λ _. Ok r) >>= λ t. Ok t.scene) ≡ (a >>= λ _. Ok r.scene)
scene_of (Ok u) r = refl
scene_of (Err why) r = refl

-- what a database's objects with versions are
abbrev pub owners_in : Entries → List (ℕ × Unit {0})
owners_in entries = owners_from [] (within version_kind version_kind entries)

-- the pass over objects leaves what is known of them
pub objects_scene : (entries : Entries) (s : Known)
    → (through with_object (record { scene = s; owners = owners_in entries }) (within object_kind object_kind entries) >>= λ r. Ok r.scene) ≡ objects_kept entries s
objects_scene entries s =
    let objects = within object_kind object_kind entries in
    let r : Roll = record { scene = s; owners = owners_in entries } in
    ap (λ (m : Ruled Roll). m >>= λ t. Ok t.scene) (gathered objects r)
    ∙ scene_of (each_keeps r objects) (with_all r (heads_from s.heads objects))
    ∙ ap (λ (owned : ℕ → Bool). each (object_keeps s.counters.next_number s.classes owned) objects >>= λ _. Ok (record s { heads = heads_from s.heads objects }))
    (owners_are (within version_kind version_kind entries))

pub objects_go : (entries : Entries) (s : Known) (r : Roll) → through with_object (record { scene = s; owners = owners_in entries }) (within object_kind object_kind entries) ≡ Ok r → objects_kept entries s ≡ Ok r.scene
objects_go entries s r ran = sym (objects_scene entries s) ∙ ap (λ m. m >>= λ t. Ok t.scene) ran

pub objects_stop : (entries : Entries) (s : Known) (r : Roll) (e : OpenError) → Leaves {X = Unit {0}} (through with_object (record { scene = s; owners = owners_in entries }) (within object_kind object_kind entries)) r (Err e)
    → Answers (objects_kept entries s) (Err e)
objects_stop entries s r (error.BadFile why) ran = sym (objects_scene entries s) ∙ ap (λ m. m >>= λ t. Ok t.scene) ran
objects_stop entries s r error.DiskFault ran = tt
objects_stop entries s r error.Memory ran = tt
