-- Objects that an overlay has whole, or that are read whole, are those that the machine has.
use Rattle.std.proofs.Common.{◌≡◌, ℕ, zero, suc, Bool, true, false, List, [], ◌∷◌, Result, Option, Some, None, Ok, Err, cond, get_or, refl, sym, ap, subst, ◌∙◌, arith}
use Rattle.std.specs.Prelude.{IfOk, ◌||◌, nat_eq, nat_le, slice_get}
use Rattle.std.specs.List.{All, fold, list_any}
use Rattle.std.specs.Option.{option_and_then, option_map}
use Rattle.std.proofs.lemmas.Bool.Decides.{nat_tests}
use Rattle.std.proofs.lemmas.Option.{slice_get-get_or}
use Rattle.ode_arising_laws.specs.Arising.{HoldsKeys}
use Rattle.ode_keep.specs.Entries.{Entries}
use Rattle.ode_laws.specs.Alike.{NumberTx}
use Rattle.ode_objects.specs.Loading.{whole_in}
use Rattle.ode_objects.specs.Objects.{activation_keys, with_states}
use Rattle.ode_objects.specs.Tracked.{read_object}
use Rattle.ode_objects.specs.declared.object.Object.{Object}
use Rattle.ode_objects.specs.declared.tracked.Tracked.{Tracked}
use Rattle.ode_overlay.specs.Answers.{Answer, Answers, from_records, ◌>>=◌}
use Rattle.ode_overlay.specs.Changing.{fresh, fresh_at, object_of, put_acts, put_of, put_with, with_now}
use Rattle.ode_overlay.specs.Layers.{Layer, holding, key_count, tracked_at}
use Rattle.ode_overlay.specs.declared.error.OverlayError.{OverlayError}
use Rattle.ode_overlay.specs.declared.error.OverlayError.TheVariants.{Damaged, TooManyChanges}
use Rattle.ode_overlay_laws.specs.Standing.{IsFresh, Stands, object_as}
use Rattle.ode_run.specs.Stopping.{read}
use Rattle.ode_run.specs.Testing.{current_at, seen_as}
use Rattle.ode_types.specs.declared.running.Running.{Running}
use Rattle.ode_value.specs.Changes.{with_key}
use Rattle.ode_value.specs.Denoting.{if_live, object_at}
use Rattle.ode_value.specs.Limits.{change_limit}
use Rattle.ode_value.specs.declared.class.Class.{Class}
use Rattle.ode_value.specs.declared.key.Key.{Key}
use Rattle.ode_version_laws.specs.Denoting.{IsRead}

-- ---- objects that are tracked

pub at_hand : (x : Layer) (y : NumberTx) (id : ℕ) → Stands x y → (tracked_at id x ≡ None → object_at y.now.bones id ≡ None) → object_at y.now.bones id ≡ current_at id x
at_hand x y id stands gone = by_tracked (tracked_at id x) refl where
  by_tracked : (t : Option Tracked) → tracked_at id x ≡ t → object_at y.now.bones id ≡ seen_as id (option_map (λ (t : Tracked). t.current) t)
  by_tracked None is = gone is
  by_tracked (Some t) is = ap (option_and_then if_live) (stands.tracked id t is).object

pub tracked_seen : (x : Layer) (y : NumberTx) (id : ℕ) (t : Tracked) → Stands x y → tracked_at id x ≡ Some t → object_at y.now.bones id ≡ if_live (object_as id t.current)
tracked_seen x y id t stands is = ap (option_and_then if_live) (stands.tracked id t is).object

-- what is touched is tracked, where it is there
either : (a b : Bool) → b ≡ true → (a || b) ≡ true
either true b is = refl
either false b is = is

among : (ids : List ℕ) (at id : ℕ) → slice_get ids at ≡ Some id → list_any (nat_eq id) ids ≡ true
among [] at id is = absurd (cc is)
among (i ∷ ids) zero id is =
    let e : id ≡ i = cc is in
    let test : nat_eq id i ≡ true = grind (arith, nat_tests) in
    ap (λ b. b || list_any (nat_eq id) ids) test
among (i ∷ ids) (suc at) id is = either (nat_eq id i) (list_any (nat_eq id) ids) (among ids at id is)

pub touched_at_hand : (x : Layer) (y : NumberTx) → Stands x y → HoldsKeys y.first x → All (λ id. object_at y.now.bones id ≡ current_at id x) x.touched
touched_at_hand x y stands keys at d less =
    let id = get_or x.touched at d in
    at_hand x y id stands (λ none. ap (option_and_then if_live) ((stands.others id none).object ∙ (keys.gone id (among x.touched at id (slice_get-get_or x.touched at d less)) none).object))

-- ---- objects that aren't

same_ok : (f g : Option Tracked) (a : Answer (Option Tracked)) → a ≡ Ok f → a ≡ Ok g → f ≡ g
same_ok f g a is too = cc (is, too)

pub whole_seen : (classes : List Class) (base : Entries) (x : Layer) (y : NumberTx) (id : ℕ) (result : Result (Option Object) OverlayError) → IsRead classes base x y id → tracked_at id x ≡ None
    → Answers result (from_records (whole_in classes base id)) → IfOk (read result) (λ found. object_at y.now.bones id ≡ seen_as id found)
unfolding fresh
whole_seen classes base x y id (Err why) reads none gives = tt
whole_seen classes base x y id (Ok found) reads none gives = by_found found fresh_now where
  fresh_now : IsFresh x y id (option_map read_object found)
  fresh_now =
      let is : fresh classes base id x ≡ Ok (option_map read_object found) =
      ap (fresh_at classes base id) none ∙ ap (λ (a : Answer (Option Object)). a >>= λ o. Ok (option_map read_object o)) gives in
      let same : reads.object ≡ option_map read_object found = same_ok reads.object (option_map read_object found) (fresh classes base id x) reads.read is in
      subst (IsFresh x y id) same reads.is

  by_found : (o : Option Object) → IsFresh x y id (option_map read_object o) → object_at y.now.bones id ≡ seen_as id o
  by_found None gone = ap (option_and_then if_live) (gone none)
  by_found (Some o) is = ap (option_and_then if_live) is.object

-- what is read of one isn't damaged
pub whole_there : (classes : List Class) (base : Entries) (x : Layer) (y : NumberTx) (id : ℕ) → IsRead classes base x y id → tracked_at id x ≡ None → (key : Key)
    → from_records (whole_in classes base id) ≡ Err (Damaged key) → ⊥
unfolding fresh
whole_there classes base x y id reads none key is =
    let broken : fresh classes base id x ≡ Err (Damaged key) = ap (fresh_at classes base id) none ∙ ap (λ (a : Answer (Option Object)). a >>= λ o. Ok (option_map read_object o)) is in
    cc (reads.read, broken)

-- keys that are held aren't damaged
holds_keys : (keys : List Key) (x : Layer) (key : Key) → holding keys x ≡ Err (Damaged key) → ⊥
unfolding holding
holds_keys keys x key is = by_room (nat_le (key_count (fold with_key x.keys keys) x) change_limit) is where
  by_room : (b : Bool) → cond b (Ok (fold with_key x.keys keys)) (Err TooManyChanges) ≡ Err (Damaged key) → ⊥
  by_room true e = cc e
  by_room false e = cc e

-- what takes over states
pub puts_sound : (classes : List Class) (base : Entries) (x : Layer) (y : NumberTx) (id : ℕ) (rs : List Running) → IsRead classes base x y id → (key : Key) → put_acts classes base id rs x ≡ Err (Damaged key) → ⊥
unfolding put_acts put_with
puts_sound classes base x y id rs reads key is =
    by_object (object_of reads.object id x) (ap (λ (a : Answer (Option Tracked)). a >>= λ new. put_with new id rs x) (sym reads.read) ∙ is) where
      by_keys : (t : Tracked) (keys : Answer (List Key)) → ((k : Key) → keys ≡ Err (Damaged k) → ⊥) → ◌>>=◌ {B = Unit {0} × Layer} keys (λ ks. Ok (tt, with_now id reads.object (with_states rs t.current) ks x)) ≡ Err (Damaged key) → ⊥
      by_keys t (Ok ks) held e = cc e
      by_keys t (Err why) held e = let same : why ≡ Damaged key = cc e in held key (ap (λ (w : OverlayError). Err w) same)

      by_object : (o : Option Tracked) → put_of reads.object id rs o x ≡ Err (Damaged key) → ⊥
      by_object None e = cc e
      by_object (Some t) e = by_keys t (holding (activation_keys id t.current.activations) x) (λ k held. holds_keys (activation_keys id t.current.activations) x k held) e
