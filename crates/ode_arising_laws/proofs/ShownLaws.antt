-- Points of touched objects, on the view.
use Rattle.std.proofs.Common.{◌≡◌, ℕ, List, [], ◌∷◌, map, Bool, true, false, cond, Option, Some, None, Ok, Err, refl, sym, ap, subst, ◌∙◌}
use Rattle.std.specs.Prelude.{nat_le}
use Rattle.std.specs.List.{AllByRecursion}
use Rattle.std.specs.Option.{option_and_then}
use Rattle.ode_arising_laws.proofs.FiringLaws.{arisen, firings_by, none_arise}
use Rattle.ode_arising_laws.proofs.HadLaws.{there_by}
use Rattle.ode_arising_laws.specs.Arising.{IsGoing, firing_by, live_in}
use Rattle.ode_interpreter.specs.Seen.{firing}
use Rattle.ode_keep.specs.Entries.{Entries}
use Rattle.ode_key_laws.proofs.PlaceLaws.{none_more}
use Rattle.ode_key_laws.specs.Keys.{HoldsKeys}
use Rattle.ode_laws.proofs.AlikePairs.{all_found}
use Rattle.ode_laws.proofs.Each.{all-then}
use Rattle.ode_laws.specs.Alike.{NumberTx, NumberWorld}
use Rattle.ode_laws.specs.Numbered.{AreNumbered, HasNumbers}
use Rattle.ode_objects.specs.Objects.{activation_keys, with_states}
use Rattle.ode_objects.specs.declared.object.Active.{Active}
use Rattle.ode_objects.specs.declared.object.Object.{Object}
use Rattle.ode_objects.specs.declared.tracked.Tracked.{Tracked}
use Rattle.ode_overlay.specs.Answers.{Answer, ◌>>=◌}
use Rattle.ode_overlay.specs.Changing.{fresh, fresh_at, put_acts, put_of, put_with, with_now}
use Rattle.ode_overlay.specs.Layers.{Layer, few, holding, is_touched, key_count, tracked_at}
use Rattle.ode_overlay.specs.Reading.{acts, if_live}
use Rattle.ode_overlay.specs.declared.error.OverlayError.TheVariants.{TooManyChanges}
use Rattle.ode_overlay_laws.specs.Standing.{Stands, active_as, object_as}
use Rattle.ode_point_laws.proofs.PointLaws.{all_arise, gives_running, whole_arise}
use Rattle.ode_point_laws.proofs.RunningLaws.{AreRunning}
use Rattle.ode_point_laws.specs.Points.{Arises, HoldsActivations, all_behind, all_fired, point_of, whole_behind, whole_fired}
use Rattle.ode_schema.proofs.Agree.{rise_by}
use Rattle.ode_schema.specs.Parts.{Parts, table_by, trigger_of}
use Rattle.ode_states.specs.Machine.{AreOf, IsOf, activation_of, checked}
use Rattle.ode_states.specs.declared.fired.Fired.{Fired}
use Rattle.ode_types.specs.Checked.{AreChecked}
use Rattle.ode_types.specs.declared.running.Running.{Running}
use Rattle.ode_value.specs.Acts.{Aborted, Done}
use Rattle.ode_value.specs.Denoting as machine
use Rattle.ode_value.specs.Denoting.{object_at}
use Rattle.ode_value.specs.Firings.{Place, arises, both_lists, whole_list}
use Rattle.ode_value.specs.GoodWorlds.{RiseFrom}
use Rattle.ode_value.specs.Limits.{change_limit}
use Rattle.ode_value.specs.Objects.{Activation}
use Rattle.ode_value.specs.Pasts.{numbers}
use Rattle.ode_value.specs.Tables.{Table}
use Rattle.ode_value.specs.Transactions.{Firing}
use Rattle.ode_value.specs.Worlds as worlds
use Rattle.ode_value.specs.Worlds.{Declared}
use Rattle.ode_value.specs.declared.event.Kind.{Kind}
use Rattle.ode_value.specs.declared.key.Key.{Key}
use Rattle.ode_value.specs.declared.reason.Reason.TheVariants.{NoObject}
use Rattle.ode_value.specs.declared.value.Value.{Value}
use Rattle.ode_view_laws.proofs.ShowLaws.{ordered_by}
use Rattle.ode_view_laws.proofs.ViewLaws.{continued_view, view_stands}
use Rattle.ode_view_laws.specs.Ordering.{IsOrdered}
use Rattle.ode_view_laws.specs.Showing.{IsViewed}
use Rattle.ode_view_laws.specs.Viewing.{Beside, running, world_now}

-- ---- activations, as the machine has them

same_activations : (own : List Active) (there : List Running) → AreRunning own there → map active_as own ≡ map activation_of there
same_activations [] [] are = refl
same_activations (a ∷ own) (r ∷ there) are =
    ap (λ (q : Running). activation_of q ∷ map active_as own) (sym are.0.1) ∙ ap (λ (rest : List Activation). activation_of r ∷ rest) (same_activations own there are.1)
same_activations [] (r ∷ there) are = absurd are
same_activations (a ∷ own) [] are = absurd are

numbers_same : (there : List Running) → map (λ (a : Activation). a.number) (map activation_of there) ≡ map (λ (r : Running). r.id) there
numbers_same [] = refl
numbers_same (r ∷ there) = ap (λ (ns : List ℕ). r.id ∷ ns) (numbers_same there)

abbrev left_in : Layer → Answer (Unit {0} × Layer) → Layer
left_in other (Ok done) = done.1
left_in other (Err why) = other

same_left : (put : Answer (Unit {0} × Layer)) (a b : Layer) → put ≡ Ok (tt, a) → put ≡ Ok (tt, b) → a ≡ b
same_left put a b one two = ap (λ (q : Answer (Unit {0} × Layer)). left_in a q) (sym one ∙ two)

module _ (classes : List Declared) (first : NumberWorld) (beside : Beside) (x : Layer) (viewed : IsViewed first x) (holds : HoldsKeys first x) where
  abbrev y : NumberTx
  y = running classes first x beside

  abbrev view : Layer → NumberTx
  view now = running classes first now beside

  stands : Stands x y
  stands = view_stands classes first x beside viewed.over

  ordered : IsOrdered y.now
  ordered = ordered_by first.bones.classes classes first x viewed.now

  -- ---- where the overlay hasn't the object

  not_there : (id : ℕ) → is_touched id x ≡ true → live_in id x ≡ None → object_at y.now.bones id ≡ None
  not_there id touched none = by_tracked (tracked_at id x) refl none where
    by_live : (t : Tracked) (b : Bool) → t.current.live ≡ b → cond b (Some t.current) None ≡ None → machine.if_live (object_as id t.current) ≡ None
    by_live t true live e = absurd (cc e)
    by_live t false live e = ap (λ b. cond b (Some (object_as id t.current)) None) live

    by_tracked : (f : Option Tracked) → tracked_at id x ≡ f → option_and_then (λ (t : Tracked). if_live t.current) f ≡ None → object_at y.now.bones id ≡ None
    by_tracked None found e = ap (option_and_then machine.if_live) ((stands.others id found).object ∙ (holds.gone id touched found).object)
    by_tracked (Some t) found e = ap (option_and_then machine.if_live) (stands.tracked id t found).object ∙ by_live t t.current.live refl e

  pub none_shows : (p : Parts) (place : Place (Unit {0}) ℕ) (id : ℕ) (kind : Kind) (args : List Value) → is_touched id x ≡ true → live_in id x ≡ None
      → arises (numbers (table_by p.tables p.maps)) place id kind args y ≡ Aborted (NoObject 0) y
  none_shows p place id kind args touched none = none_arise (table_by p.tables p.maps) place id kind args y (not_there id touched none)

  -- ---- where it has

  module _ (numbered : AreNumbered (world_now first.bones.classes first x).bones) (p : Parts) (checks : AreChecked p.classes) (are : checked classes ≡ p.classes)
      (base : Entries) (id : ℕ) (kind : Kind) (args : List Value) (t : Tracked) (there : List Running) (touched : is_touched id x ≡ true) (found : tracked_at id x ≡ Some t)
      (live : t.current.live ≡ true) (given : acts p.classes base id p.maps x ≡ Ok there) (going : AllByRecursion (IsGoing p t.current.class) there) where
    abbrev by : ℕ → ℕ → Table
    by = table_by p.tables p.maps

    abbrev o : worlds.Object
    o = object_as id t.current

    has_object : object_at y.now.bones id ≡ Some o
    has_object = ap (option_and_then machine.if_live) (stands.tracked id t found).object ∙ ap (λ b. cond b (Some o) None) live

    has_numbers : HasNumbers (world_now first.bones.classes first x).bones.next o
    has_numbers =
        all_found (HasNumbers (world_now first.bones.classes first x).bones.next) id (world_now first.bones.classes first x).bones.objects numbered.objects o
        ((view_stands first.bones.classes first x beside viewed.over).tracked id t found).object

    same_acts : o.activations ≡ map activation_of there
    same_acts = same_activations t.current.activations there (gives_running p.classes base p.maps x id t there found given)

    are_of : AreOf by p.tables p.alphabets classes o there
    unfolding world_now
    are_of = record {
      each = all-then (IsGoing p t.current.class) (IsOf by p.tables p.alphabets classes o.class) (λ a goes. goes.of classes are) there going;
      activations = same_acts;
      rising = subst (RiseFrom 0) (ap (map (λ (a : Activation). a.number)) same_acts ∙ numbers_same there) has_numbers.rising;
      rising_classes = rise_by p.classes classes are checks;
    }

    -- its keys are held, where its activations can be put back
    module _ (rs : List Running) (left : Layer) (put : put_acts p.classes base id rs x ≡ Ok (tt, left)) where
      abbrev put_by : Answer (List Key) → Answer (Unit {0} × Layer)
      put_by a = a >>= λ keys. Ok (tt, with_now id None (with_states rs t.current) keys x)

      put_so : put_by (holding (activation_keys id t.current.activations) x) ≡ Ok (tt, left)
      unfolding put_acts fresh put_with
      put_so =
          sym (ap (λ (f : Option Tracked). fresh_at p.classes base id f >>= λ new. put_with new id rs x) found ∙ ap (λ (f : Option Tracked). put_of None id rs f x) found) ∙ put

      same_keys : holding (activation_keys id t.current.activations) x ≡ few x.keys x
      unfolding holding
      same_keys = ap (λ keys. few keys x) (none_more (activation_keys id t.current.activations) x.keys (holds.now id touched t found))

      abbrev roomy : Bool → Answer (List Key)
      roomy b = cond b (Ok x.keys) (Err TooManyChanges)

      by_room : (b : Bool) → put_by (roomy b) ≡ Ok (tt, left) → roomy b ≡ Ok x.keys
      by_room true is = refl
      by_room false is = absurd (cc is)

      held : HoldsActivations id t.current x
      held = same_keys ∙ by_room (nat_le (key_count x.keys x) change_limit) (sym (ap put_by same_keys) ∙ put_so)

    by_law : (place : Place (Unit {0}) ℕ) (fired : List Fired) (put : Answer (Unit {0} × Layer)) (left : Layer) → put ≡ Ok (tt, left) → Arises y fired put (arises (numbers by) place id kind args y)
        → arises (numbers by) place id kind args y ≡ Done (map (firing (trigger_of p.classes)) (map (firing_by id) fired)) (view left)
    unfolding world_now
    by_law place fired put left is law =
        let known = arisen by place id kind args y o has_object refl (rise_by p.classes classes are checks) ordered law.firings law.y law.arises in
        let told = firings_by p.classes classes are id law.firings fired law.same known.firings_are in
        let one = continued_view classes first x beside viewed.began law.x law.y law.stands known.ordered law.continues in
        let end = same_left put law.x left law.put_back is in
        law.arises ∙ ap (λ (fs : List Firing). Done fs law.y) told
        ∙ ap (λ (z : NumberTx). Done (map (firing (trigger_of p.classes)) (map (firing_by id) fired)) z) (one ∙ ap view end)

    both_by : (left : Layer) → put_acts p.classes base id (all_behind p.tables p.alphabets classes (point_of id t.current kind args) there) x ≡ Ok (tt, left)
        → arises (numbers by) (both_lists (numbers by)) id kind args y
        ≡ Done (map (firing (trigger_of p.classes)) (map (firing_by id) (all_fired p.tables p.alphabets classes (point_of id t.current kind args) there))) (view left)
    unfolding world_now
    both_by left put =
        let behind = all_behind p.tables p.alphabets classes (point_of id t.current kind args) there in
        by_law (both_lists (numbers by)) (all_fired p.tables p.alphabets classes (point_of id t.current kind args) there) (put_acts p.classes base id behind x) left put
        (all_arise by p.tables p.alphabets p.maps p.classes base kind args x y id t there stands found live (held behind left put) given are_of)

    whole_by : (left : Layer) → put_acts p.classes base id (whole_behind p.tables p.alphabets classes (point_of id t.current kind args) there) x ≡ Ok (tt, left)
        → arises (numbers by) (whole_list (numbers by)) id kind args y
        ≡ Done (map (firing (trigger_of p.classes)) (map (firing_by id) (whole_fired p.tables p.alphabets classes (point_of id t.current kind args) there))) (view left)
    unfolding world_now
    whole_by left put =
        let behind = whole_behind p.tables p.alphabets classes (point_of id t.current kind args) there in
        by_law (whole_list (numbers by)) (whole_fired p.tables p.alphabets classes (point_of id t.current kind args) there) (put_acts p.classes base id behind x) left put
        (whole_arise by p.tables p.alphabets p.maps p.classes base kind args x y id t there stands found live (held behind left put) given are_of)

  pub both_show : AreNumbered (world_now first.bones.classes first x).bones → (p : Parts) → AreChecked p.classes → checked classes ≡ p.classes
      → (base : Entries) (id : ℕ) (kind : Kind) (args : List Value) (o : Object) (there : List Running) → is_touched id x ≡ true → live_in id x ≡ Some o → acts p.classes base id p.maps x ≡ Ok there
      → AllByRecursion (IsGoing p o.class) there → (left : Layer) → put_acts p.classes base id (all_behind p.tables p.alphabets classes (point_of id o kind args) there) x ≡ Ok (tt, left)
      → arises (numbers (table_by p.tables p.maps)) (both_lists (numbers (table_by p.tables p.maps))) id kind args y
      ≡ Done (map (firing (trigger_of p.classes)) (map (firing_by id) (all_fired p.tables p.alphabets classes (point_of id o kind args) there))) (view left)
  both_show numbered p checks are base id kind args o there touched is given going left =
      let at = there_by id x o is in
      subst (λ (c : Object). put_acts p.classes base id (all_behind p.tables p.alphabets classes (point_of id c kind args) there) x ≡ Ok (tt, left)
      → arises (numbers (table_by p.tables p.maps)) (both_lists (numbers (table_by p.tables p.maps))) id kind args y
      ≡ Done (map (firing (trigger_of p.classes)) (map (firing_by id) (all_fired p.tables p.alphabets classes (point_of id c kind args) there))) (view left))
      at.current
      (both_by numbered p checks are base id kind args at.tracked there touched at.found at.live given (subst (λ (c : Object). AllByRecursion (IsGoing p c.class) there) (sym at.current) going) left)

  pub whole_show : AreNumbered (world_now first.bones.classes first x).bones → (p : Parts) → AreChecked p.classes → checked classes ≡ p.classes
      → (base : Entries) (id : ℕ) (kind : Kind) (args : List Value) (o : Object) (there : List Running) → is_touched id x ≡ true → live_in id x ≡ Some o → acts p.classes base id p.maps x ≡ Ok there
      → AllByRecursion (IsGoing p o.class) there → (left : Layer) → put_acts p.classes base id (whole_behind p.tables p.alphabets classes (point_of id o kind args) there) x ≡ Ok (tt, left)
      → arises (numbers (table_by p.tables p.maps)) (whole_list (numbers (table_by p.tables p.maps))) id kind args y
      ≡ Done (map (firing (trigger_of p.classes)) (map (firing_by id) (whole_fired p.tables p.alphabets classes (point_of id o kind args) there))) (view left)
  whole_show numbered p checks are base id kind args o there touched is given going left =
      let at = there_by id x o is in
      subst (λ (c : Object). put_acts p.classes base id (whole_behind p.tables p.alphabets classes (point_of id c kind args) there) x ≡ Ok (tt, left)
      → arises (numbers (table_by p.tables p.maps)) (whole_list (numbers (table_by p.tables p.maps))) id kind args y
      ≡ Done (map (firing (trigger_of p.classes)) (map (firing_by id) (whole_fired p.tables p.alphabets classes (point_of id c kind args) there))) (view left))
      at.current
      (whole_by numbered p checks are base id kind args at.tracked there touched at.found at.live given (subst (λ (c : Object). AllByRecursion (IsGoing p c.class) there) (sym at.current) going) left)
