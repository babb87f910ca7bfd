-- The version that a reference denotes, in the overlay and in the machine.
use Rattle.std.proofs.Common.{◌≡◌, ◌-◌, ◌==◌, ℕ, suc, List, [], ◌∷◌, Bool, true, false, cond, map, length, slice_get, find, option_map, ok_or, Option, Some, None, Result, Ok, Err, refl, sym, ap, subst, ◌∙◌, arith}
use Rattle.std.proofs.lemmas.Bool.{eqb-true}
use Rattle.std.specs.Option.{option_and_then}
use Rattle.ode_laws.specs.Alike.{NumberTx}
use Rattle.ode_objects.specs.Objects.{is_numbered, last_of, version_of}
use Rattle.ode_objects.specs.declared.object.Object.{Object}
use Rattle.ode_objects.specs.declared.object.Version.{Version}
use Rattle.ode_objects.specs.declared.tracked.Tracked.{Tracked}
use Rattle.ode_overlay.specs.Answers.{Answer, ◌>>=◌}
use Rattle.ode_overlay.specs.Changing.{denoted_in, live_of}
use Rattle.ode_overlay.specs.Layers.{Layer}
use Rattle.ode_overlay.specs.Reading.{not_null, or_else}
use Rattle.ode_overlay.specs.declared.error.OverlayError.{OverlayError}
use Rattle.ode_overlay.specs.declared.error.OverlayError.TheVariants as error
use Rattle.ode_overlay_laws.proofs.AlteredLaws.{Has}
use Rattle.ode_overlay_laws.proofs.FollowingLaws.{live_at}
use Rattle.ode_overlay_laws.specs.Following.{Follows, reason_as}
use Rattle.ode_overlay_laws.specs.Standing.{IsIn, object_as, version_as}
use Rattle.ode_value.specs.Acts.{Act, Outcome, Aborted, go_on, valued}
use Rattle.ode_value.specs.Changes as machine
use Rattle.ode_value.specs.Denoting.{denoted, if_live, object_at, version_in}
use Rattle.ode_value.specs.Versions as versions
use Rattle.ode_value.specs.Worlds as worlds
use Rattle.ode_value.specs.Worlds.{Bones}
use Rattle.ode_value.specs.declared.arithmetic.Fault.{Fault}
use Rattle.ode_value.specs.declared.arithmetic.Fault.TheVariants as fault
use Rattle.ode_value.specs.declared.reason.Reason.{Reason}
use Rattle.ode_value.specs.declared.reason.Reason.TheVariants as reason
use Rattle.ode_value.specs.declared.value.Ref.{Ref}

-- ---- among the versions of an object

newest_same : (vs : List Version) → versions.newest (map version_as vs) ≡ option_map version_as (last_of vs)
newest_same [] = refl
newest_same (v ∷ []) = refl
newest_same (v ∷ w ∷ vs) =
    let further : suc (length (w ∷ vs) - 1) ≡ length (v ∷ w ∷ vs) - 1 = omega arith in
    newest_same (w ∷ vs) ∙ ap (λ (i : ℕ). option_map version_as (slice_get (v ∷ w ∷ vs) i)) further

numbered_same : (n : ℕ) (vs : List Version) → versions.version_numbered n (map version_as vs) ≡ option_map version_as (find (is_numbered n) vs)
numbered_same n [] = refl
numbered_same n (v ∷ vs) = by_test (v.number == n) (numbered_same n vs) where
  by_test : (b : Bool) → versions.version_numbered n (map version_as vs) ≡ option_map version_as (find (is_numbered n) vs)
      → cond b (Some (version_as v)) (versions.version_numbered n (map version_as vs)) ≡ option_map version_as (cond b (Some v) (find (is_numbered n) vs))
  by_test true rest = refl
  by_test false rest = rest

pub version_same : (number : Option ℕ) (vs : List Version) → versions.version_of number (map version_as vs) ≡ option_map version_as (version_of number vs)
version_same None vs = newest_same vs
version_same (Some n) vs = numbered_same n vs

-- ---- in a world

pub null_denotes : (b : Bones) (r : Ref) → (r.object == 0) ≡ true → denoted b r ≡ Err (fault.NoObject r.object)
null_denotes b r null = ap (λ (t : Bool). version_in r (cond t None (object_at b r.object))) null

pub gone_denotes : (b : Bones) (r : Ref) → object_at b r.object ≡ None → denoted b r ≡ Err (fault.NoObject r.object)
gone_denotes b r gone = ap (λ (o : Option worlds.Object). version_in r (cond (r.object == 0) None o)) gone ∙ by_null (r.object == 0) where
  by_null : (t : Bool) → version_in r (cond t None None) ≡ Err (fault.NoObject r.object)
  by_null true = refl
  by_null false = refl

pub object_denotes : (b : Bones) (r : Ref) (o : worlds.Object) → (r.object == 0) ≡ false → object_at b r.object ≡ Some o
    → denoted b r ≡ ok_or (versions.version_of r.version o.versions) (fault.NoVersion r)
object_denotes b r o some is = ap (λ (t : Bool). version_in r (cond t None (object_at b r.object))) some ∙ ap (version_in r) is

-- what an object has that the overlay has too
pub tracked_denotes : (y : NumberTx) (r : Ref) (o : Object) → (r.object == 0) ≡ false → IsIn y.now r.object o → o.live ≡ true
    → denoted y.now.bones r ≡ ok_or (option_map version_as (version_of r.version o.versions)) (fault.NoVersion r)
tracked_denotes y r o some at live =
    object_denotes y.now.bones r (object_as r.object o) some (live_at y r.object o at true live)
    ∙ ap (λ (v : Option versions.Version). ok_or v (fault.NoVersion r)) (version_same r.version o.versions)

-- what is answered to null
abbrev pub some_object : Bool → Answer (Unit {0})
some_object null = cond null (Err (error.NoObject 0)) (Ok tt)

-- ---- an act on the version that a reference denotes

-- J judges an answer beside an outcome: a refusal for a reason beside the abort for it
module _ {R S : Type 0} (y : NumberTx) (r : Ref) (J : Answer (R × Layer) → Outcome (Unit {0}) ℕ S → Type 0)
    (refused : (why : OverlayError) (reason : Reason) → reason_as why ≡ Some reason → J (Err why) (Aborted reason y))
    (rest : Object → Version → Answer (R × Layer)) (act : versions.Version → Act (Unit {0}) ℕ S) where
  abbrev on_object : Object → Answer (R × Layer)
  on_object o = denoted_in r o >>= rest o

  abbrev by : Result versions.Version Fault → Outcome (Unit {0}) ℕ S
  by d = go_on (valued d y) act

  -- what follows where it denotes one
  abbrev pub Next : Option Tracked → Type 0
  Next f = (t : Tracked) (v : Version) → f ≡ Some t → IsIn y.now r.object t.current → t.current.live ≡ true → denoted y.now.bones r ≡ Ok (version_as v)
      → J (rest t.current v) (act (version_as v) y)

  -- by what is denoted
  judged : (a : Answer (R × Layer)) (d : Result versions.Version Fault) → denoted y.now.bones r ≡ d → J a (by d) → J a (by (denoted y.now.bones r))
  judged a d is judgement = subst (λ (e : Result versions.Version Fault). J a (by e)) (sym is) judgement

  gone : object_at y.now.bones r.object ≡ None → J (Err (error.NoObject r.object)) (by (denoted y.now.bones r))
  gone none =
      judged (Err (error.NoObject r.object)) (Err (fault.NoObject r.object)) (gone_denotes y.now.bones r none) (refused (error.NoObject r.object) (reason.NoObject r.object) refl)

  here : (t : Tracked) → (r.object == 0) ≡ false → IsIn y.now r.object t.current → t.current.live ≡ true
      → ((v : Version) → denoted y.now.bones r ≡ Ok (version_as v) → J (rest t.current v) (act (version_as v) y))
      → J (on_object t.current) (by (denoted y.now.bones r))
  here t some at live next = by_version (version_of r.version t.current.versions) refl where
    denotes : denoted y.now.bones r ≡ ok_or (option_map version_as (version_of r.version t.current.versions)) (fault.NoVersion r)
    denotes = tracked_denotes y r t.current some at live

    by_version : (f : Option Version) → version_of r.version t.current.versions ≡ f → J (or_else (error.NoVersion r) f >>= rest t.current) (by (denoted y.now.bones r))
    by_version None is =
        judged (Err (error.NoVersion r)) (Err (fault.NoVersion r)) (denotes ∙ ap (λ (v : Option Version). ok_or (option_map version_as v) (fault.NoVersion r)) is)
        (refused (error.NoVersion r) (reason.NoVersion r) refl)
    by_version (Some v) is =
        let one : denoted y.now.bones r ≡ Ok (version_as v) = denotes ∙ ap (λ (w : Option Version). ok_or (option_map version_as w) (fault.NoVersion r)) is in
        judged (rest t.current v) (Ok (version_as v)) one (next v one)

  found : (f : Option Tracked) → Has y r.object f → (r.object == 0) ≡ false → Next f → J (live_of r.object f >>= on_object) (by (denoted y.now.bones r))
  found None has some next = gone (ap (λ (o : Option worlds.Object). option_and_then if_live o) has)
  found (Some t) has some next = by_live t.current.live refl where
    by_live : (b : Bool) → t.current.live ≡ b → J (cond b (Ok t.current) (Err (error.NoObject r.object)) >>= on_object) (by (denoted y.now.bones r))
    by_live true live = here t some has live (λ v one. next t v refl has live one)
    by_live false dead = gone (live_at y r.object t.current has false dead)

  pub on_denoted : (f : Option Tracked) → Has y r.object f → Next f → J (not_null r >>= λ _. live_of r.object f >>= on_object) (go_on (machine.version r y) act)
  on_denoted f has next = by_null (r.object == 0) refl where
    by_null : (b : Bool) → (r.object == 0) ≡ b → J (some_object b >>= λ _. live_of r.object f >>= on_object) (by (denoted y.now.bones r))
    by_null true null =
        judged (Err (error.NoObject 0)) (Err (fault.NoObject r.object)) (null_denotes y.now.bones r null)
        (refused (error.NoObject 0) (reason.NoObject r.object) (ap (λ (n : ℕ). Some (reason.NoObject n)) (sym (eqb-true r.object 0 null))))
    by_null false some = found f has some next

pub follows_denoted : {R S : Type 0} (y : NumberTx) (r : Ref) (go : R → Act (Unit {0}) ℕ S) (rest : Object → Version → Answer (R × Layer)) (act : versions.Version → Act (Unit {0}) ℕ S)
    (f : Option Tracked) → Has y r.object f → Next y r (Follows y go) (λ why reason is. (reason, (is, refl))) rest act f
    → Follows y go (not_null r >>= λ _. live_of r.object f >>= λ o. denoted_in r o >>= rest o) (go_on (machine.version r y) act)
follows_denoted y r go rest act f has next = on_denoted y r (Follows y go) (λ why reason is. (reason, (is, refl))) rest act f has next
