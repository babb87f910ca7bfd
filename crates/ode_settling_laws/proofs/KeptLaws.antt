-- What a settling keeps of a world, by numbers.
use Rattle.std.proofs.Common.{◌≡◌, ◌==◌, ℕ, ◌+◌, ◌<◌, ◌≤◌, List, [], ◌∷◌, map, Bool, true, false, cond, Option, Some, None, refl, sym, ap, ◌∙◌, arith}
use Rattle.std.proofs.lemmas.Bool.{eqb-true}
use Rattle.std.proofs.lemmas.Bool.Decides.{nat_tests}
use Rattle.std.specs.List.{AllByRecursion, cons_option, filter, filter_map}
use Rattle.std.specs.Option.{option_and_then, option_map, unwrap_or}
use Rattle.ode_codec.specs.StoredRows.{state_in}
use Rattle.ode_laws.proofs.Rows.{id_of}
use Rattle.ode_value.specs.Denoting.{object_at, object_numbered}
use Rattle.ode_laws.proofs.Each.{all-then}
use Rattle.ode_value.specs.GoodWorlds.{IsActivation, IsObject, RiseFrom}
use Rattle.ode_value.specs.Keeping.{has_activation, is_active, is_there, kept_object, kept_past, kept_row}
use Rattle.ode_value.specs.Objects.{Activation}
use Rattle.ode_value.specs.Pasts.{Kept}
use Rattle.ode_value.specs.Worlds.{Bones, Object, kept_at}

abbrev pub NumberKept : Type 0
NumberKept = Kept (Unit {0}) ℕ

-- ---- objects

-- an object as it is kept, where it is live
abbrev pub kept_live : Object → Option Object
kept_live o = cond o.live (Some (kept_object o)) None

is_same : (a b : ℕ) → (a == b) ≡ true → a ≡ b
is_same a b is = grind (arith, nat_tests)

is_above : (a b low : ℕ) → a < low → low ≤ b → (b == a) ≡ false
is_above a b low less up = grind (arith, nat_tests)

none_numbered : (os : List Object) (id low : ℕ) → id < low → RiseFrom low (map id_of os) → object_numbered id os ≡ None
none_numbered [] id low less rise = refl
none_numbered (o ∷ os) id low less rise =
    let up : low ≤ o.id = rise.0 in
    ap (λ b. cond b (Some o) (object_numbered id os)) (is_above id o.id low less up) ∙ none_numbered os id (o.id + 1) (omega arith) rise.1

pub kept_numbered : (id low : ℕ) (os : List Object) → RiseFrom low (map id_of os) → object_numbered id (map kept_object (filter is_there os)) ≡ option_and_then kept_live (object_numbered id os)
kept_numbered id low [] rise = refl
kept_numbered id low (o ∷ os) rise = by_tests o.live (o.id == id) refl (kept_numbered id (o.id + 1) os rise.1) where
  none : (o.id == id) ≡ true → object_numbered id (map kept_object (filter is_there os)) ≡ option_and_then kept_live (object_numbered id os) → object_numbered id (map kept_object (filter is_there os)) ≡ None
  none is more =
      let same : o.id ≡ id = is_same o.id id is in
      more ∙ ap (option_and_then kept_live) (none_numbered os id (o.id + 1) (omega arith) rise.1)

  by_tests : (live b : Bool) → (o.id == id) ≡ b → object_numbered id (map kept_object (filter is_there os)) ≡ option_and_then kept_live (object_numbered id os)
      → object_numbered id (map kept_object (cond live (record o { live = live } ∷ filter is_there os) (filter is_there os)))
      ≡ option_and_then kept_live (cond b (Some (record o { live = live })) (object_numbered id os))
  by_tests true true is more = ap (λ t. cond t (Some (kept_object (record o { live = true }))) (object_numbered id (map kept_object (filter is_there os)))) is
  by_tests false true is more = none is more
  by_tests true false is more = ap (λ t. cond t (Some (kept_object (record o { live = true }))) (object_numbered id (map kept_object (filter is_there os)))) is ∙ more
  by_tests false false is more = more

-- ---- what is kept beside them

abbrev pub kept_by : Bones → ℕ → NumberKept → Option NumberKept
kept_by b id k = option_map (λ (o : Object). kept_past k o) (object_at b id)

none_kept : (b : Bones) (id : ℕ) (m : Option NumberKept) → object_at b id ≡ None → option_and_then (kept_by b id) m ≡ None
none_kept b id None none = refl
none_kept b id (Some k) none = ap (λ (f : Option Object). option_map (λ (o : Object). kept_past k o) f) none

pub kept_rows : (b : Bones) (id : ℕ) (rows : List (ℕ × NumberKept)) → kept_at id (filter_map (kept_row b) rows) ≡ option_and_then (kept_by b id) (kept_at id rows)
kept_rows b id [] = refl
kept_rows b id (row ∷ rows) = by_tests (row.0 == id) refl (object_at b row.0) refl (kept_rows b id rows) where
  by_tests : (t : Bool) → (row.0 == id) ≡ t → (f : Option Object) → object_at b row.0 ≡ f → kept_at id (filter_map (kept_row b) rows) ≡ option_and_then (kept_by b id) (kept_at id rows)
      → kept_at id (cons_option (option_map (λ (o : Object). (row.0, kept_past row.1 o)) f) (filter_map (kept_row b) rows)) ≡ option_and_then (kept_by b id) (cond t (Some row.1) (kept_at id rows))
  by_tests true is (Some o) there more =
      ap (λ u. cond u (Some (kept_past row.1 o)) (kept_at id (filter_map (kept_row b) rows))) is
      ∙ sym (ap (λ (f : Option Object). option_map (λ (p : Object). kept_past row.1 p) f) (ap (object_at b) (sym (eqb-true row.0 id is)) ∙ there))
  by_tests true is None there more =
      let none : object_at b id ≡ None = ap (object_at b) (sym (eqb-true row.0 id is)) ∙ there in
      more ∙ none_kept b id (kept_at id rows) none ∙ sym (none_kept b id (Some row.1) none)
  by_tests false is (Some o) there more = ap (λ u. cond u (Some (kept_past row.1 o)) (kept_at id (filter_map (kept_row b) rows))) is ∙ more
  by_tests false is None there more = more

none_either : (b : Bool) (m : Option ℕ) → m ≡ None → m ≡ cond b m None
none_either true m is = refl
none_either false m is = is

-- rows that are chosen by their numbers
pub kept_chosen : (n : ℕ) (g : ℕ → Bool) (rows : List (ℕ × ℕ)) → kept_at n (filter (λ (row : ℕ × ℕ). g row.0) rows) ≡ cond (g n) (kept_at n rows) None
kept_chosen n g [] = none_either (g n) None refl
kept_chosen n g (row ∷ rows) = by_tests (row.0 == n) refl (g row.0) refl (kept_chosen n g rows) where
  by_tests : (t : Bool) → (row.0 == n) ≡ t → (u : Bool) → g row.0 ≡ u → kept_at n (filter (λ (r : ℕ × ℕ). g r.0) rows) ≡ cond (g n) (kept_at n rows) None
      → kept_at n (cond u (row ∷ filter (λ (r : ℕ × ℕ). g r.0) rows) (filter (λ (r : ℕ × ℕ). g r.0) rows)) ≡ cond (g n) (cond t (Some row.1) (kept_at n rows)) None
  by_tests true is true goes more =
      ap (λ v. cond v (Some row.1) (kept_at n (filter (λ (r : ℕ × ℕ). g r.0) rows))) is
      ∙ sym (ap (λ v. cond v (Some row.1) None) (ap g (sym (eqb-true row.0 n is)) ∙ goes))
  by_tests true is false goes more =
      let out : g n ≡ false = ap g (sym (eqb-true row.0 n is)) ∙ goes in
      more ∙ ap (λ v. cond v (kept_at n rows) None) out ∙ sym (ap (λ v. cond v (Some row.1) None) out)
  by_tests false is true goes more = ap (λ v. cond v (Some row.1) (kept_at n (filter (λ (r : ℕ × ℕ). g r.0) rows))) is ∙ more
  by_tests false is false goes more = more

-- the state number of an activation that an object has
pub same_state : (k : NumberKept) (o : Object) (n : ℕ) → has_activation o n ≡ true → state_in n (kept_past k o) ≡ state_in n k
same_state k o n has = ap (λ (m : Option ℕ). unwrap_or m 0) (kept_chosen n (has_activation o) k.activations ∙ ap (λ v. cond v (kept_at n k.activations) None) has)

-- ---- the first world

all_active : (acts : List Activation) → AllByRecursion (λ (a : Activation). a.on ≡ true) acts → filter is_active acts ≡ acts
all_active [] all = refl
all_active (a ∷ acts) all = ap (λ v. cond v (a ∷ filter is_active acts) (filter is_active acts)) all.0 ∙ ap (λ (more : List Activation). a ∷ more) (all_active acts all.1)

-- a good object is kept as it is
pub good_kept : (b : Bones) (o : Object) → IsObject b o → kept_live o ≡ Some o
good_kept b o is =
    ap (λ v. cond v (Some (kept_object o)) None) is.live
    ∙ ap (λ (acts : List Activation). Some (record o { activations = acts }))
    (all_active o.activations (all-then (IsActivation b o.class) (λ (a : Activation). a.on ≡ true) (λ a its. its.on) o.activations is.activations))
