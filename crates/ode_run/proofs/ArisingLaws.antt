-- Points, as a running transaction has them.
use Rattle.std.proofs.Common.{◌≡◌, ◌-◌, ℕ, suc, List, [], ◌∷◌, map, length, Result, option_map, Option, Some, None, Ok, Err, refl, sym, ap, subst, ◌∙◌, arith}
use Rattle.std.proofs.lemmas.Bool.Decides.{nat_tests}
use Rattle.std.proofs.lemmas.List.Elements.{recursion_from_All}
use Rattle.std.specs.Prelude.{◌==◌, ◌||◌, Bool, IfOk, cond, false, nat_eq, slice_get, true}
use Rattle.std.specs.List.{All, AllByRecursion, list_any}
use Rattle.std.specs.Option.{IsSome, option_map_or}
use Rattle.ode_arising_laws.specs.Arising.{AllGo, HasShortArgs, IsGoing, firing_by}
use Rattle.ode_interpreter.specs.Seen.{EndsBy, IsFault}
use Rattle.ode_interpreter.specs.declared.firing.Firing as code
use Rattle.ode_interpreter.specs.declared.stop.Stop.{Stop}
use Rattle.ode_interpreter.specs.declared.stop.Stop.TheVariants as stop
use Rattle.ode_laws.proofs.Each.{all-then}
use Rattle.ode_laws.specs.Alike.{NumberTx}
use Rattle.ode_objects.proofs.Kept.{args_room}
use Rattle.ode_objects.specs.Objects.{last_of, values_of}
use Rattle.ode_objects.specs.Values.{are_args}
use Rattle.ode_objects.specs.declared.object.Object.{Object}
use Rattle.ode_objects.specs.declared.object.Version.{Version}
use Rattle.ode_overlay.specs.Answers.{Answer, Answers}
use Rattle.ode_overlay.specs.declared.error.OverlayError.{OverlayError}
use Rattle.ode_overlay.specs.declared.error.OverlayError.TheVariants as error
use Rattle.ode_overlay_laws.specs.Standing.{object_as, version_as}
use Rattle.ode_run.specs.Stopping.{read}
use Rattle.ode_schema.specs.Parts.{Parts}
use Rattle.ode_states.specs.declared.fired.Fired.{Fired}
use Rattle.ode_types.specs.declared.running.Running.{Running}
use Rattle.ode_value.specs.Acts.{Outcome, Done}
use Rattle.ode_value.specs.Firings.{current_fields}
use Rattle.ode_value.specs.Transactions.{Firing}
use Rattle.ode_value.specs.Versions as versions
use Rattle.ode_value.specs.declared.key.Key.{Key}

-- ---- the fields of a current version

newest_same : (vs : List Version) → versions.newest (map version_as vs) ≡ option_map version_as (last_of vs)
newest_same [] = refl
newest_same (v ∷ []) = refl
newest_same (v ∷ w ∷ vs) =
    let further : suc (length (w ∷ vs) - 1) ≡ length (v ∷ w ∷ vs) - 1 = omega arith in
    newest_same (w ∷ vs) ∙ ap (λ (i : ℕ). option_map version_as (slice_get (v ∷ w ∷ vs) i)) further

pub fields_of : (o : Object) (v : Version) → Some v ≡ last_of o.versions → values_of v.fields ≡ current_fields (object_as 0 o)
fields_of o v is = sym (ap (λ (f : Option versions.Version). option_map_or (λ (w : versions.Version). w.fields) f []) (newest_same o.versions ∙ ap (option_map version_as) (sym is)))

pub no_fields : (o : Object) → None ≡ last_of o.versions → [] ≡ current_fields (object_as 0 o)
no_fields o is = sym (ap (λ (f : Option versions.Version). option_map_or (λ (w : versions.Version). w.fields) f []) (newest_same o.versions ∙ ap (option_map version_as) (sym is)))

-- ---- what is read

pub read_gives : {R : Type 0} (result : Result R OverlayError) (answer : Answer R) → Answers result answer → IfOk (read result) (λ v. answer ≡ Ok v)
read_gives (Ok v) answer gives = gives
read_gives (Err why) answer gives = tt

-- those that go on
pub read_going : (p : Parts) (class : ℕ) (result : Result (List Running) OverlayError) (answer : Answer (List Running)) → Answers result answer → AllGo p class answer
    → IfOk (read result) (AllByRecursion (IsGoing p class))
read_going p class (Ok there) answer gives all = subst (AllGo p class) gives all
read_going p class (Err why) answer gives all = tt

pub none_damaged : (p : Parts) (class : ℕ) (answer : Answer (List Running)) → AllGo p class answer → (key : Key) → answer ≡ Err (error.Damaged key) → ⊥
none_damaged p class answer all key is = subst (AllGo p class) is all

-- those with short arguments
pub read_short : (result : Result (List Running) OverlayError) → IfOk result (All (λ (a : Running). are_args a.args ≡ true)) → IfOk (read result) (AllByRecursion HasShortArgs)
read_short (Ok there) all =
    all-then (λ (a : Running). are_args a.args ≡ true) HasShortArgs (λ a is. sym (args_room a.args) ∙ is) there (recursion_from_All (λ (a : Running). are_args a.args ≡ true) there all)
read_short (Err why) all = tt

-- ---- how a point ends

pub fault_ends : {R S : Type 0} (says : S → R) (why : Stop) (z : NumberTx) (o : Outcome (Unit {0}) ℕ R) → IsFault why → EndsBy says (Err why) z o
fault_ends says stop.Memory z o fault = tt
fault_ends says stop.DiskFault z o fault = tt
fault_ends says (stop.Damaged key) z o fault = tt
fault_ends says (stop.Abort why) z o fault = absurd fault

-- ---- the object of a point

pub record IsLive (f : Option Object) : Type 0 where
  pub object : Object
  pub found : f ≡ Some object

pub some_live : (f : Option Object) → IsSome f → IsLive f
some_live None is = absurd (cc is)
some_live (Some o) is = record { object = o; found = refl }

-- ---- a point, as it is told

pub arises_so : (says : code.Firing → Firing) (id : ℕ) (fired fires : List Fired) (firings : List code.Firing) (outcome : Outcome (Unit {0}) ℕ (List Firing)) (z : NumberTx)
    → outcome ≡ Done (map says (map (firing_by id) fires)) z → fired ≡ fires → firings ≡ map (firing_by id) fired → outcome ≡ Done (map says firings) z
arises_so says id fired fires firings outcome z is same told =
    is ∙ ap (λ (fs : List Fired). Done (map says (map (firing_by id) fs)) z) (sym same) ∙ ap (λ (fs : List code.Firing). Done (map says fs) z) (sym told)

-- one of two, by a test
pub by_either : {X : Type 0} (P : X → Type 0) (b : Bool) (x y : X) → (b ≡ true → P x) → (b ≡ false → P y) → P (cond b x y)
by_either P true x y first second = first refl
by_either P false x y first second = second refl

-- ---- touched objects, in the machine and in the overlay

same_test : (n id : ℕ) → (n == id) ≡ nat_eq id n
same_test n id = grind (arith, nat_tests)

touched_in : (id : ℕ) (ns : List ℕ) → list_any (λ n. n == id) ns ≡ list_any (nat_eq id) ns
touched_in id [] = refl
touched_in id (n ∷ ns) = ap (λ b. b || list_any (λ m. m == id) ns) (same_test n id) ∙ ap (λ b. nat_eq id n || b) (touched_in id ns)

pub touched_same : (id : ℕ) (ns : List ℕ) → list_any (λ n. n == id) ns ≡ true → list_any (nat_eq id) ns ≡ true
touched_same id ns touched = sym (touched_in id ns) ∙ touched
