-- Activations go on, in the overlay and in the machine.
use Rattle.std.proofs.Common.{◌≡◌, ℕ, ◌+◌, List, [], ◌∷◌, Bool, true, false, cond, pos, Option, Some, Ok, Err, refl, sym, ap, ◌∙◌}
use Rattle.std.proofs.lemmas.List.{map-append}
use Rattle.std.specs.Prelude.{nat_le, is_some}
use Rattle.std.specs.List.{AllByRecursion, fold}
use Rattle.ode_activation_laws.proofs.ChangedLaws.{others_now, tracked_now}
use Rattle.ode_activation_laws.specs.Switching.{tells_active, tells_line, tells_value}
use Rattle.ode_laws.specs.Alike.{NumberTx}
use Rattle.ode_objects.specs.Objects.{activated, new_active}
use Rattle.ode_objects.proofs.Kept.{args_room}
use Rattle.ode_objects.specs.Values.{are_args}
use Rattle.ode_objects.specs.declared.object.Active.{Active}
use Rattle.ode_objects.specs.declared.object.Object.{Object}
use Rattle.ode_objects.specs.declared.tracked.Tracked.{Tracked}
use Rattle.ode_overlay.specs.Answers.{Answer, ◌>>=◌}
use Rattle.ode_overlay.specs.Changing as calls
use Rattle.ode_overlay.specs.Changing.{activate_with, next_drawn, next_number, object_of, with_now}
use Rattle.ode_overlay.specs.Layers.{Layer, holding}
use Rattle.ode_overlay.specs.declared.error.OverlayError.TheVariants.{TooLong}
use Rattle.ode_overlay_laws.proofs.AlteredLaws.{has_found}
use Rattle.ode_overlay_laws.proofs.FollowingLaws.{as_drawing, draws_live}
use Rattle.ode_overlay_laws.proofs.KeySets.{IsPart, activation_part, all_between}
use Rattle.ode_overlay_laws.proofs.MakingLaws.{follows_drawing}
use Rattle.ode_overlay_laws.proofs.ObjectLaws.{none_is_short}
use Rattle.ode_overlay_laws.specs.Following.{FollowsDrawing, on_live}
use Rattle.ode_overlay_laws.specs.Standing.{IsFresh, IsIn, Stands, active_as, kept_as, object_as}
use Rattle.ode_value.specs.Acts.{Act, Outcome, Done, Aborted, ◌>>◌, gives, go_on, found, nothing, prints, turns}
use Rattle.ode_value.specs.Changes as machine
use Rattle.ode_value.specs.Changes.{changes, draws_number, with_key}
use Rattle.ode_value.specs.Classes.{Trigger, trigger_named}
use Rattle.ode_value.specs.Denoting.{object_at}
use Rattle.ode_value.specs.Footprints.{with_draw}
use Rattle.ode_value.specs.Keys.{activation_key}
use Rattle.ode_value.specs.Lengths.{values_length}
use Rattle.ode_value.specs.Limits.{args_limit}
use Rattle.ode_value.specs.Making.{switches_on, with_activation, with_active, with_past}
use Rattle.ode_value.specs.Objects as objects
use Rattle.ode_value.specs.Pasts.{numbers}
use Rattle.ode_value.specs.Statements.{activates_initial, switches_on_named}
use Rattle.ode_value.specs.Tables.{Table}
use Rattle.ode_value.specs.Texts.{active_line}
use Rattle.ode_value.specs.Transactions.{drawing}
use Rattle.ode_value.specs.Worlds as worlds
use Rattle.ode_value.specs.declared.key.Key.{Key}
use Rattle.ode_value.specs.declared.reason.Reason.TheVariants as reason
use Rattle.ode_value.specs.declared.value.Ref.{Ref}
use Rattle.ode_value.specs.declared.value.Value.{Value}
use Rattle.ode_value.specs.declared.value.Value.TheVariants as value

-- ---- an activation of a trigger

module _ (tables : ℕ → ℕ → Table) (t : Trigger) (args : List Value) (x : Layer) (y : NumberTx) (id : ℕ) (new : Option Tracked) (stands : Stands x y) (fresh : IsFresh x y id new) where
  abbrev ks : List Key
  ks = activation_key id x.next ∷ []

  parts : AllByRecursion IsPart ks
  parts = (activation_part id x.next, tt)

  abbrev active : Active
  active = new_active x.next t.class t.place args

  abbrev then_x : Object → Layer
  then_x o = next_drawn (with_now id new (activated active o) (fold with_key x.keys ks) x)

  abbrev then_y : NumberTx
  then_y = record (machine.holding ks (drawing true y)) { now = with_active (numbers tables) id t args y.now }

  -- the object has one more, and a state number for it
  becomes : (o : Object) → with_activation t args y.now.bones.next (object_as id o) ≡ object_as id (activated active o)
  becomes o =
      ap (λ n. with_activation t args n (object_as id o)) stands.next
      ∙ ap (λ (more : List objects.Activation). record (object_as id o) { activations = more }) (sym (map-append active_as o.activations (active ∷ [])))

  kept_too : (o : Object) → with_past (numbers tables) y.now.bones.next (kept_as o) ≡ kept_as (activated active o)
  kept_too o =
      ap (λ n. with_past (numbers tables) n (kept_as o)) stands.next
      ∙ ap (λ (rows : List (ℕ × ℕ)). record (kept_as o) { activations = rows }) (sym (map-append (λ (a : Active). (a.number, a.state)) o.activations (active ∷ [])))

  then_stands : (o : Object) → IsIn y.now id o → Stands (then_x o) then_y
  then_stands o at =
      let g = with_activation t args y.now.bones.next in
      let h = with_past (numbers tables) y.now.bones.next in
      record {
        origin = stands.origin;
        counters = stands.counters;
        queued = stands.queued;
        next = ap (λ n. n + 1) stands.next;
        added = stands.added;
        tracked = tracked_now x y id new o (activated active o) g h then_y.now stands at (λ q. refl) (becomes o) (kept_too o) refl refl;
        others = others_now x y id new o (activated active o) g h then_y.now stands at (λ q. refl) (becomes o) (kept_too o) refl refl;
        touched = stands.touched;
        collected = stands.collected;
        gathered = stands.gathered;
        keys = ap (λ zs. fold with_key zs ks) stands.keys ∙ all_between x.origin ks parts x.keys;
        footprint = ap (with_draw true) stands.footprint;
      }

  -- what follows once the keys are held
  abbrev act_at : ℕ → Act (Unit {0}) ℕ ℕ
  act_at n = turns (with_active (numbers tables) id t args) >> tells_active n

  abbrev machine_at : ℕ → Bool → Outcome (Unit {0}) ℕ ℕ
  machine_at n b =
      let m : Outcome (Unit {0}) ℕ (Unit {0}) = cond b (Done tt y) (Aborted reason.Size y) in
      go_on m (λ _. changes (activation_key id n ∷ []) 0 draws_number >> act_at n)

  abbrev drawn : Object → Bool → Answer (ℕ × Layer)
  drawn o b = calls.needs TooLong b >>= λ _. holding ks x >>= λ keys. next_number x >>= λ number. Ok (number, next_drawn (with_now id new (activated (new_active number t.class t.place args) o) keys x))

  by_short : (o : Object) → IsIn y.now id o → (b : Bool) → FollowsDrawing y tells_active (drawn o b) (machine_at x.next b)
  by_short o at true =
      follows_drawing x y ks stands parts 0 true tells_active (λ keys number. Ok (number, next_drawn (with_now id new (activated (new_active number t.class t.place args) o) keys x)))
      (act_at x.next) (sym none_is_short) (then_y, (then_stands o at, (record { first = refl; bones = refl; deferred = refl; text = refl; run = refl }, refl)))
  by_short o at false = (reason.Size, (refl, refl))

  pub switched_on : FollowsDrawing y tells_active (activate_with new id t.class t.place args x) (on_live id (switches_on (numbers tables) id t args) y)
  unfolding activate_with
  switched_on =
      draws_live y id tells_active (switches_on (numbers tables) id t args) (λ o. drawn o (are_args args)) (object_of new id x) (has_found x y id new stands fresh)
      (λ (tracked : Tracked) is at live.
      as_drawing y tells_active (drawn tracked.current (are_args args)) (switches_on (numbers tables) id t args y) (machine_at x.next (are_args args))
      (ap (λ n. machine_at n (nat_le (values_length args) args_limit)) stands.next ∙ ap (machine_at x.next) (sym (args_room args))) (by_short tracked.current at (are_args args)))

-- ---- what goes on behind it

follows_on : {R S T : Type 0} (y : NumberTx) (next : R → Act (Unit {0}) ℕ S) (answer : Answer (R × Layer)) (m : Outcome (Unit {0}) ℕ S) (f : S → Act (Unit {0}) ℕ T)
    → FollowsDrawing y next answer m → FollowsDrawing y (λ r z. go_on (next r z) f) answer (go_on m f)
follows_on {R} {S} {T} y next (Ok done) m f follows = (follows.0, (follows.1.0, (follows.1.1.0, ap (λ (o : Outcome (Unit {0}) ℕ S). go_on o f) follows.1.1.1)))
follows_on {R} {S} {T} y next (Err why) m f follows = (follows.0, (follows.1.0, ap (λ (o : Outcome (Unit {0}) ℕ S). go_on o f) follows.1.1))

-- the same acts go on behind it
follows_as : {R S : Type 0} (y : NumberTx) (next more : R → Act (Unit {0}) ℕ S) (answer : Answer (R × Layer)) (m n : Outcome (Unit {0}) ℕ S) → ((r : R) (z : NumberTx) → next r z ≡ more r z) → n ≡ m
    → FollowsDrawing y next answer m → FollowsDrawing y more answer n
follows_as y next more (Ok done) m n same is follows = (follows.0, (follows.1.0, (follows.1.1.0, is ∙ follows.1.1.1 ∙ same done.0 follows.0)))
follows_as y next more (Err why) m n same is follows = (follows.0, (follows.1.0, is ∙ follows.1.1))

in_turn : {R S T : Type 0} (m : Outcome (Unit {0}) ℕ R) (f : R → Act (Unit {0}) ℕ S) (g : S → Act (Unit {0}) ℕ T) → go_on (go_on m f) g ≡ go_on m (λ r z. go_on (f r z) g)
in_turn (Done r z) f g = refl
in_turn (Aborted why z) f g = refl

unanswered : {R : Type 0} (m : Outcome (Unit {0}) ℕ (Unit {0})) (r : R) → go_on (go_on m (λ _. gives r)) (λ _. nothing) ≡ m
unanswered (Done u z) r = refl
unanswered (Aborted why z) r = refl

-- an initial trigger of a new object
pub initially_on : (tables : ℕ → ℕ → Table) (t : Trigger) (x : Layer) (y : NumberTx) (id : ℕ) (new : Option Tracked) → Stands x y → IsFresh x y id new
    → FollowsDrawing y tells_line (activate_with new id t.class t.place [] x) (on_live id (activates_initial (numbers tables) id t) y)
initially_on tables t x y id new stands fresh =
    follows_as y (λ (n : ℕ) z. go_on (tells_active n z) (λ _. nothing)) tells_line (activate_with new id t.class t.place [] x)
    (go_on (on_live id (switches_on (numbers tables) id t []) y) (λ _. nothing)) (on_live id (activates_initial (numbers tables) id t) y)
    (λ (n : ℕ) (z : NumberTx). unanswered (prints (active_line n) z) n)
    (sym (in_turn (machine.there id y) (λ _. switches_on (numbers tables) id t []) (λ _. nothing)))
    (follows_on y tells_active (activate_with new id t.class t.place [] x) (on_live id (switches_on (numbers tables) id t []) y) (λ _. nothing)
    (switched_on tables t [] x y id new stands fresh))

-- ---- a trigger by its name

pub there : {R : Type 0} (y : NumberTx) (id : ℕ) (act : Act (Unit {0}) ℕ R) (f : Option worlds.Object) → object_at y.now.bones id ≡ f → is_some f ≡ true → on_live id act y ≡ act y
there y id act f is some = ap (λ (g : Option worlds.Object). go_on (cond (is_some g) (Done tt y) (Aborted (reason.NoObject id) y)) (λ _. act)) is
    ∙ ap (λ b. go_on (cond b (Done tt y) (Aborted (reason.NoObject id) y)) (λ _. act)) some

module _ (tables : ℕ → ℕ → Table) (o : worlds.Object) (name : List ℕ) (t : Trigger) (args : List Value) (x : Layer) (y : NumberTx) (r : Ref) (new : Option Tracked) (stands : Stands x y)
    (fresh : IsFresh x y r.object new) where
  abbrev on : Trigger → Act (Unit {0}) ℕ ℕ
  on u = switches_on (numbers tables) r.object u args

  abbrev valued : ℕ → Act (Unit {0}) ℕ Value
  valued n = gives (value.Int (pos n))

  abbrev on_by : Option Trigger → Outcome (Unit {0}) ℕ Value
  on_by f = go_on (found f y) (λ u z. go_on (on u z) valued)

  abbrev named_in : worlds.Object → Act (Unit {0}) ℕ Value
  named_in p z = go_on (found (trigger_named z.now.bones.classes p.class name) z) (λ u w. go_on (on u w) valued)

  pub named_on : object_at y.now.bones r.object ≡ Some o → trigger_named y.now.bones.classes o.class name ≡ Some t
      → FollowsDrawing y tells_value (activate_with new r.object t.class t.place args x) (switches_on_named (numbers tables) r name args y)
  unfolding switches_on_named
  named_on at named =
      follows_as y (λ (n : ℕ) z. go_on (tells_active n z) valued) tells_value (activate_with new r.object t.class t.place args x) (go_on (on_live r.object (on t) y) valued)
      (switches_on_named (numbers tables) r name args y)
      (λ (n : ℕ) (z : NumberTx). in_turn (prints (active_line n) z) (λ _. gives n) valued)
      (ap (λ (f : Option worlds.Object). go_on (found f y) named_in) at ∙ ap on_by named ∙ ap (λ (m : Outcome (Unit {0}) ℕ ℕ). go_on m valued) (sym (there y r.object (on t) (Some o) at refl)))
      (follows_on y tells_active (activate_with new r.object t.class t.place args x) (on_live r.object (on t) y) valued
      (switched_on tables t args x y r.object new stands fresh))
