-- Points arise, in the overlay and in the machine.
use Rattle.std.proofs.Common.{◌≡◌, ℕ, List, [], Bool, true, false, cond, map, Option, Some, None, Ok, refl, sym, ap, ◌∙◌}
use Rattle.std.proofs.lemmas.Bool.{eq-eqb}
use Rattle.std.specs.Option.{option_map_or}
use Rattle.ode_activation_laws.proofs.ChangedLaws.{NumberKept, others_now, tracked_now}
use Rattle.ode_point_laws.proofs.RunningLaws.{AreRunning, are_running, same_rows, state_row, taken_activations, taken_rows}
use Rattle.ode_point_laws.proofs.WholeLaws.{whole_ends, whole_fires, whole_states}
use Rattle.ode_point_laws.specs.Points.{Arises, HoldsActivations, all_behind, all_fired, point_of, sees_whole, whole_behind, whole_fired}
use Rattle.ode_keep.specs.Entries.{Entries}
use Rattle.ode_laws.proofs.Rows.{kept-with}
use Rattle.ode_laws.specs.Alike.{NumberTx, NumberWorld}
use Rattle.ode_objects.specs.Objects.{taken_over, with_states}
use Rattle.ode_objects.specs.declared.tracked.Tracked.{Tracked}
use Rattle.ode_overlay.specs.Answers.{Answer, ◌>>=◌}
use Rattle.ode_overlay.specs.Changing.{fresh, fresh_at, put_acts, put_of, put_with, with_now}
use Rattle.ode_overlay.specs.Layers.{Layer, tracked_at}
use Rattle.ode_overlay.specs.Reading.{acts, actives_at, running_from}
use Rattle.ode_overlay_laws.proofs.FollowingLaws.{finds_object, live_at}
use Rattle.ode_overlay_laws.specs.Standing.{IsIn, Stands, active_as, kept_as, object_as}
use Rattle.ode_states.proofs.EndLaws.{numbers_end}
use Rattle.ode_states.proofs.MachineLaws.{numbers_fire, numbers_go_on}
use Rattle.ode_states.specs.Advance.{advanced}
use Rattle.ode_states.specs.Machine.{AreOf, activation_of, checked, fired_as, row_of, state_of}
use Rattle.ode_states.specs.declared.fired.Fired.{Fired}
use Rattle.ode_types.specs.declared.running.Running.{Running}
use Rattle.ode_value.specs.Acts.{Act, Done}
use Rattle.ode_value.specs.Firings.{Place, arises, both_lists, fired, fired_in, grown_past, new_point, object_after, whole_list, with_point}
use Rattle.ode_value.specs.Objects as objects
use Rattle.ode_value.specs.Pasts.{numbers}
use Rattle.ode_value.specs.Symbols.{Alphabet}
use Rattle.ode_value.specs.Tables.{Table}
use Rattle.ode_value.specs.Transactions.{Firing, with_bones}
use Rattle.ode_value.specs.Worlds as worlds
use Rattle.ode_value.specs.Worlds.{with_object}
use Rattle.ode_value.specs.declared.class.Class.{Class}
use Rattle.ode_value.specs.declared.event.Kind.{Kind}
use Rattle.ode_value.specs.declared.event.Point.{Point}
use Rattle.ode_value.specs.declared.key.Key.{Key}
use Rattle.ode_value.specs.declared.value.Value.{Value}

module _ (by : ℕ → ℕ → Table) (place : Place (Unit {0}) ℕ) (kind : Kind) (args : List Value) (x : Layer) (y : NumberTx) (id : ℕ) (t : Tracked) (stands : Stands x y)
    (is : tracked_at id x ≡ Some t) (live : t.current.live ≡ true) where
  abbrev o : worlds.Object
  o = object_as id t.current

  abbrev p : Point
  p = point_of id t.current kind args

  abbrev grow : NumberKept → NumberKept
  grow = grown_past (numbers by) place p y.now.bones.classes o

  abbrev pub kept_then : NumberKept
  kept_then = grow (kept_as t.current)

  abbrev pub firings : List Firing
  firings = fired_in (numbers by) place o y.now.bones.classes kept_then

  abbrev grown_world : NumberWorld
  grown_world = with_point (numbers by) place p o y.now

  abbrev end_by : List Firing → NumberTx
  end_by fs = with_bones (λ b. record b { objects = with_object id (object_after fs) b.objects }) (record y { now = grown_world })

  at : IsIn y.now id t.current
  at = stands.tracked id t is

  fired_is : fired (numbers by) place o grown_world ≡ firings
  fired_is =
      ap (λ (k : Option NumberKept). option_map_or (fired_in (numbers by) place o y.now.bones.classes) k [])
      (kept-with id id grow y.now.pasts (kept_as t.current) at.kept ∙ ap (λ b. Some (cond b kept_then (kept_as t.current))) (eq-eqb id id refl))

  -- the rest of what arises
  abbrev arises_in : worlds.Object → Act (Unit {0}) ℕ (List Firing)
  arises_in q z =
      let grown = record z { now = with_point (numbers by) place (new_point kind args q) q z.now } in
      let fs = fired (numbers by) place q grown.now in
      Done fs (with_bones (λ b. record b { objects = with_object id (object_after fs) b.objects }) grown)

  arises_so : arises (numbers by) place id kind args y ≡ Done firings (end_by firings)
  arises_so = finds_object y id o arises_in (live_at y id t.current at true live) ∙ ap (λ fs. Done fs (end_by fs)) fired_is

  module _ (behind : List Running) where
    abbrev then_x : Layer
    then_x = with_now id None (with_states behind t.current) x.keys x

    put_so : (classes : List Class) (base : Entries) → HoldsActivations id t.current x → put_acts classes base id behind x ≡ Ok (tt, then_x)
    unfolding put_acts fresh put_with
    put_so classes base holds =
        ap (λ (f : Option Tracked). fresh_at classes base id f >>= λ new. put_with new id behind x) is
        ∙ ap (λ (f : Option Tracked). put_of None id behind f x) is
        ∙ ap (λ (a : Answer (List Key)). a >>= λ keys. Ok (tt, with_now id None (with_states behind t.current) keys x)) holds

    pub arises_as : (classes : List Class) (base : Entries) (fired_there : List Fired) → HoldsActivations id t.current x → place.grow tt p ≡ tt
        → kept_then.activations ≡ map (row_of state_of) behind → (object_after firings o).activations ≡ map activation_of behind
        → map state_row (taken_over behind t.current.activations) ≡ map (row_of state_of) behind → map active_as (taken_over behind t.current.activations) ≡ map activation_of behind
        → map fired_as firings ≡ fired_there → Arises y fired_there (put_acts classes base id behind x) (arises (numbers by) place id kind args y)
    arises_as classes base fired_there holds own states ends rows taken same = record {
      x = then_x;
      y = end_by firings;
      firings = firings;
      put_back = put_so classes base holds;
      arises = arises_so;
      same = same;
      continues = record { first = refl; bones = refl; deferred = refl; text = refl; run = refl };
      stands = record {
        origin = stands.origin;
        counters = stands.counters;
        queued = stands.queued;
        next = stands.next;
        added = stands.added;
        tracked = tracked_now x y id None t.current (with_states behind t.current) (object_after firings) grow (end_by firings).now stands at (λ q. refl) becomes kept refl refl;
        others = others_now x y id None t.current (with_states behind t.current) (object_after firings) grow (end_by firings).now stands at (λ q. refl) becomes kept refl refl;
        touched = stands.touched;
        collected = stands.collected;
        gathered = stands.gathered;
        keys = stands.keys;
        footprint = stands.footprint;
      };
    } where
      becomes : object_after firings o ≡ object_as id (with_states behind t.current)
      becomes = ap (λ (acts : List objects.Activation). record o { activations = acts }) (ends ∙ sym taken)

      kept : kept_then ≡ kept_as (with_states behind t.current)
      kept = λ i. record { own = own i; activations = (states ∙ sym rows) i }

-- what the overlay gives of a tracked object
pub gives_running : (classes : List Class) (base : Entries) (maps : List ℕ) (x : Layer) (id : ℕ) (t : Tracked) (running : List Running) → tracked_at id x ≡ Some t → acts classes base id maps x ≡ Ok running
    → AreRunning t.current.activations running
unfolding acts
gives_running classes base maps x id t running is given =
    are_running maps id t.current.activations running (sym (ap (λ (f : Option Tracked). actives_at classes base id f >>= running_from maps id []) is) ∙ given)

pub all_arise : (by : ℕ → ℕ → Table) (tables : List Table) (alphabets : List Alphabet) (maps : List ℕ) (classes : List Class) (base : Entries) (kind : Kind) (args : List Value)
    (x : Layer) (y : NumberTx) (id : ℕ) (t : Tracked) (running : List Running) → Stands x y → tracked_at id x ≡ Some t → t.current.live ≡ true → HoldsActivations id t.current x
    → acts classes base id maps x ≡ Ok running → AreOf by tables alphabets y.now.bones.classes (object_as id t.current) running
    → Arises y (all_fired tables alphabets y.now.bones.classes (point_of id t.current kind args) running)
    (put_acts classes base id (all_behind tables alphabets y.now.bones.classes (point_of id t.current kind args) running) x)
    (arises (numbers by) (both_lists (numbers by)) id kind args y)
all_arise by tables alphabets maps classes base kind args x y id t running stands is live holds given are =
    let declared = y.now.bones.classes in
    let o = object_as id t.current in
    let p = point_of id t.current kind args in
    let its = gives_running classes base maps x id t running is given in
    let rows = same_rows t.current.activations running its in
    let on = advanced tables alphabets (checked declared) p in
    arises_as by (both_lists (numbers by)) kind args x y id t stands is live (all_behind tables alphabets declared p running) classes base (all_fired tables alphabets declared p running) holds refl
    (numbers_go_on by tables alphabets declared p o running are (kept_as t.current) rows)
    (numbers_end by tables alphabets declared p o running are (kept_as t.current) rows)
    (taken_rows on (λ r. refl) t.current.activations running its)
    (taken_activations on (λ r. refl) t.current.activations running its)
    (numbers_fire by tables alphabets declared p o running are (kept_as t.current) rows)

pub whole_arise : (by : ℕ → ℕ → Table) (tables : List Table) (alphabets : List Alphabet) (maps : List ℕ) (classes : List Class) (base : Entries) (kind : Kind) (args : List Value)
    (x : Layer) (y : NumberTx) (id : ℕ) (t : Tracked) (running : List Running) → Stands x y → tracked_at id x ≡ Some t → t.current.live ≡ true → HoldsActivations id t.current x
    → acts classes base id maps x ≡ Ok running → AreOf by tables alphabets y.now.bones.classes (object_as id t.current) running
    → Arises y (whole_fired tables alphabets y.now.bones.classes (point_of id t.current kind args) running)
    (put_acts classes base id (whole_behind tables alphabets y.now.bones.classes (point_of id t.current kind args) running) x)
    (arises (numbers by) (whole_list (numbers by)) id kind args y)
whole_arise by tables alphabets maps classes base kind args x y id t running stands is live holds given are =
    let declared = y.now.bones.classes in
    let o = object_as id t.current in
    let p = point_of id t.current kind args in
    let its = gives_running classes base maps x id t running is given in
    let rows = same_rows t.current.activations running its in
    let on = advanced tables alphabets (checked declared) p in
    let one : Running → Running = λ a. cond (sees_whole (checked declared) a) (on a) a in
    arises_as by (whole_list (numbers by)) kind args x y id t stands is live (whole_behind tables alphabets declared p running) classes base (whole_fired tables alphabets declared p running) holds refl
    (whole_states by tables alphabets declared p o running are (kept_as t.current) rows)
    (whole_ends by tables alphabets declared p o running are (kept_as t.current) rows)
    (taken_rows one (λ r. keeps_by r (on r) (sees_whole (checked declared) r) refl) t.current.activations running its)
    (taken_activations one (λ r. keeps_by r (on r) (sees_whole (checked declared) r) refl) t.current.activations running its)
    (whole_fires by tables alphabets declared p o running are (kept_as t.current) rows) where
      keeps_by : (r s : Running) (b : Bool) → s ≡ record r { state = s.state; on = s.on } → cond b s r ≡ record r { state = (cond b s r).state; on = (cond b s r).on }
      keeps_by r s true same = same
      keeps_by r s false same = refl
