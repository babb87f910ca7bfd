-- Constraints are tested on the versions that the machine has.
use Rattle.std.proofs.Common.{◌≡◌, ◌<◌, ◌==◌, ◌-◌, ℕ, suc, Bool, true, false, cond, List, [], ◌∷◌, length, map, Result, Option, Some, None, Ok, Err, refl, sym, ap, subst, ◌∙◌, arith}
use Rattle.std.specs.Prelude.{IfErr, slice_get}
use Rattle.std.specs.List.{find}
use Rattle.std.specs.Option.{ok_or, option_map}
use Rattle.std.proofs.lemmas.Bool.Decides.{nat_tests}
use Rattle.ode_interpreter.specs.Seen.{Ends, Leaves}
use Rattle.ode_interpreter.specs.declared.stop.Stop.{Stop}
use Rattle.ode_interpreter.specs.declared.stop.Stop.TheVariants as stop
use Rattle.ode_laws.specs.Alike.{NumberTx}
use Rattle.ode_objects.specs.Objects.{is_numbered, last_of, version_of}
use Rattle.ode_objects.specs.declared.object.Object.{Object}
use Rattle.ode_objects.specs.declared.object.Version.{Version}
use Rattle.ode_overlay_laws.specs.Standing.{object_as, version_as}
use Rattle.ode_run.specs.Testing.{IsCalm}
use Rattle.ode_symbols.specs.Alphabets.{truth_of}
use Rattle.ode_value.specs.Acts.{Act, Done, Aborted, Outcome, each, found, go_on, sees, valued, ◌>>=◌}
use Rattle.ode_value.specs.Changes.{object}
use Rattle.ode_value.specs.Classes.{constraints_of}
use Rattle.ode_value.specs.Constraints.{judges, tests, tests_hard}
use Rattle.ode_value.specs.Denoting.{denoted, if_live, object_at, version_in}
use Rattle.ode_value.specs.Evaluation.{reason_of}
use Rattle.ode_value.specs.Masks.{plain}
use Rattle.ode_value.specs.Versions as versions
use Rattle.ode_value.specs.Worlds as worlds
use Rattle.ode_value.specs.declared.arithmetic.Fault.{Fault}
use Rattle.ode_value.specs.declared.arithmetic.Fault.TheVariants as fault
use Rattle.ode_value.specs.declared.member.Constraint.{Constraint}
use Rattle.ode_value.specs.declared.reason.Reason.TheVariants as reason
use Rattle.ode_value.specs.declared.value.Ref.{Ref}
use Rattle.ode_value.specs.declared.value.Value.{Value}
use Rattle.ode_value.specs.declared.value.Value.TheVariants as value

abbrev Told : Type 0
Told = Outcome (Unit {0}) ℕ (Unit {0})

-- ---- one constraint

judged_true : (c : Constraint) (y : NumberTx) (r : Result Value Fault) → truth_of r ≡ Ok true → judges c r y ≡ Done tt y
judged_true c y (Ok (value.Bool true)) is = refl
judged_true c y (Ok (value.Bool false)) is = absurd (cc is)
judged_true c y (Ok (value.Int n)) is = absurd (cc is)
judged_true c y (Ok (value.Text t)) is = absurd (cc is)
judged_true c y (Ok (value.Reference r)) is = absurd (cc is)
judged_true c y (Err why) is = absurd (cc is)

judged_false : (c : Constraint) (y : NumberTx) (r : Result Value Fault) → truth_of r ≡ Ok false → judges c r y ≡ Aborted (reason.Constraint c.name) y
judged_false c y (Ok (value.Bool true)) is = absurd (cc is)
judged_false c y (Ok (value.Bool false)) is = refl
judged_false c y (Ok (value.Int n)) is = refl
judged_false c y (Ok (value.Text t)) is = refl
judged_false c y (Ok (value.Reference r)) is = refl
judged_false c y (Err why) is = absurd (cc is)

judged_fault : (c : Constraint) (y : NumberTx) (why : Fault) (r : Result Value Fault) → truth_of r ≡ Err why → judges c r y ≡ Aborted (reason_of why) y
judged_fault c y why (Ok (value.Bool b)) is = absurd (cc is)
judged_fault c y why (Ok (value.Int n)) is = absurd (cc is)
judged_fault c y why (Ok (value.Text t)) is = absurd (cc is)
judged_fault c y why (Ok (value.Reference r)) is = absurd (cc is)
judged_fault c y why (Err fault) is = let e : fault ≡ why = cc is in ap (λ (f : Fault). Aborted (reason_of f) y) e

module _ (c : Constraint) (fields : List Value) (v : versions.Version) (y : NumberTx) (same : v.fields ≡ fields) where
  abbrev meant : List Value → Result Value Fault
  meant own = plain c.test (record { locals = []; own = own })

  same_fields : tests v c y ≡ judges c (meant fields) y
  same_fields = ap (λ own. judges c (meant own) y) same

  pub holds : truth_of (meant fields) ≡ Ok true → tests v c y ≡ Done tt y
  holds is = same_fields ∙ judged_true c y (meant fields) is

  pub breaks : truth_of (meant fields) ≡ Ok false → tests v c y ≡ Aborted (reason.Constraint c.name) y
  breaks is = same_fields ∙ judged_false c y (meant fields) is

  pub faults : (why : Fault) → truth_of (meant fields) ≡ Err why → tests v c y ≡ Aborted (reason_of why) y
  faults why is = same_fields ∙ judged_fault c y why (meant fields) is

-- ---- what tests leave

-- where nothing was asked of the disk, all is as it was
pub calm_left : {R : Type 0} (result : Result R Stop) (kept : Type 0) (failed : Stop → Type 0) → IfErr result IsCalm → kept → Leaves result kept failed
calm_left (Ok v) kept failed calm is = is
calm_left (Err (stop.Abort why)) kept failed calm is = is
calm_left (Err stop.Memory) kept failed calm is = is
calm_left (Err stop.DiskFault) kept failed calm is = absurd calm
calm_left (Err (stop.Damaged key)) kept failed calm is = absurd calm

-- ---- the version that a reference denotes

newest_same : (vs : List Version) → versions.newest (map version_as vs) ≡ option_map version_as (last_of vs)
newest_same [] = refl
newest_same (v ∷ []) = refl
newest_same (v ∷ w ∷ vs) =
    let further : suc (length (w ∷ vs) - 1) ≡ length (v ∷ w ∷ vs) - 1 = omega arith in
    newest_same (w ∷ vs) ∙ ap (λ (i : ℕ). option_map version_as (slice_get (v ∷ w ∷ vs) i)) further

numbered_same : (n : ℕ) (vs : List Version) → versions.version_numbered n (map version_as vs) ≡ option_map version_as (find (is_numbered n) vs)
numbered_same n [] = refl
numbered_same n (v ∷ vs) = by_test (v.number == n) (numbered_same n vs) where
  by_test : (b : Bool) → versions.version_numbered n (map version_as vs) ≡ option_map version_as (find (is_numbered n) vs)
      → cond b (Some (version_as v)) (versions.version_numbered n (map version_as vs)) ≡ option_map version_as (cond b (Some v) (find (is_numbered n) vs))
  by_test true rest = refl
  by_test false rest = rest

version_same : (number : Option ℕ) (vs : List Version) → versions.version_of number (map version_as vs) ≡ option_map version_as (version_of number vs)
version_same None vs = newest_same vs
version_same (Some n) vs = numbered_same n vs

module _ (r : Ref) (y : NumberTx) where
  abbrev Hard : Type 0
  Hard = Option worlds.Object

  -- the constraints of an object, and then their tests
  abbrev tests_of : versions.Version → worlds.Object → Act (Unit {0}) ℕ (Unit {0})
  tests_of v o = sees (λ b. constraints_of false b.classes o.class) >>= each (tests v)

  abbrev goes_on : versions.Version → Act (Unit {0}) ℕ (Unit {0})
  goes_on v = object r.object >>= tests_of v

  no_denoted : (why : Fault) → denoted y.now.bones r ≡ Err why → tests_hard r y ≡ Aborted (reason_of why) y
  no_denoted why is = ap (λ (d : Result versions.Version Fault). go_on (valued d y) goes_on) is

  one_denoted : (v : versions.Version) (o : worlds.Object) → denoted y.now.bones r ≡ Ok v → object_at y.now.bones r.object ≡ Some o
      → tests_hard r y ≡ each (tests v) (constraints_of false y.now.bones.classes o.class) y
  one_denoted v o is there = ap (λ (d : Result versions.Version Fault). go_on (valued d y) goes_on) is ∙ ap (λ (at : Hard). go_on (found at y) (tests_of v)) there

  by_null : (b : Bool) → (r.object == 0) ≡ b → denoted y.now.bones r ≡ version_in r (cond b None (object_at y.now.bones r.object))
  by_null b is = ap (λ (t : Bool). version_in r (cond t None (object_at y.now.bones r.object))) is

  pub null_tested : r.object ≡ 0 → tests_hard r y ≡ Aborted (reason.NoObject 0) y
  null_tested is =
      let test : (r.object == 0) ≡ true = grind (arith, nat_tests) in
      no_denoted (fault.NoObject r.object) (by_null true test) ∙ ap (λ n. Aborted (reason.NoObject n) y) is

  module _ (some : 0 < r.object) where
    by_object : (at : Hard) → object_at y.now.bones r.object ≡ at → denoted y.now.bones r ≡ version_in r at
    by_object at is =
        let test : (r.object == 0) ≡ false = grind (arith, nat_tests) in
        by_null false test ∙ ap (version_in r) is

    pub none_tested : object_at y.now.bones r.object ≡ None → tests_hard r y ≡ Aborted (reason.NoObject r.object) y
    none_tested is = no_denoted (fault.NoObject r.object) (by_object None is)

    module _ (o : Object) (there : object_at y.now.bones r.object ≡ if_live (object_as r.object o)) where
      by_life : (b : Bool) → o.live ≡ b → object_at y.now.bones r.object ≡ cond b (Some (object_as r.object o)) None
      by_life b is = there ∙ ap (λ l. cond l (Some (object_as r.object o)) None) is

      by_version : o.live ≡ true → (v : Option Version) → version_of r.version o.versions ≡ v → denoted y.now.bones r ≡ ok_or (option_map version_as v) (fault.NoVersion r)
      by_version live v is =
          by_object (Some (object_as r.object o)) (by_life true live)
          ∙ ap (λ w. ok_or w (fault.NoVersion r)) (version_same r.version o.versions ∙ ap (option_map version_as) is)

      pub gone_tested : o.live ≡ false → tests_hard r y ≡ Aborted (reason.NoObject r.object) y
      gone_tested dead = none_tested (by_life false dead)

      pub no_version_tested : o.live ≡ true → version_of r.version o.versions ≡ None → tests_hard r y ≡ Aborted (reason.NoVersion r) y
      no_version_tested live is = no_denoted (fault.NoVersion r) (by_version live None is)

      pub version_tested : (v : Version) (result : Result (Unit {0}) Stop) → o.live ≡ true → version_of r.version o.versions ≡ Some v
          → Ends result y (each (tests (version_as v)) (constraints_of false y.now.bones.classes o.class) y) → Ends result y (tests_hard r y)
      version_tested v result live is ends =
          subst (Ends result y) (sym (one_denoted (version_as v) (object_as r.object o) (by_version live (Some v) is) (by_life true live))) ends
