-- The activations that an overlay has of an object that is there go on.
use Rattle.std.proofs.Common.{◌≡◌, ℕ, Bool, true, false, cond, [], Option, Some, None, refl, sym, subst}
use Rattle.std.specs.Option.{option_and_then}
use Rattle.ode_arising_laws.proofs.GoingLaws.{all_go}
use Rattle.ode_arising_laws.specs.Arising.{AllGo, live_in}
use Rattle.ode_keep.specs.Entries.{Entries}
use Rattle.ode_laws.specs.Alike.{NumberWorld}
use Rattle.ode_object_laws.specs.Objects.{HasTriggers, HaveTriggers}
use Rattle.ode_objects.specs.declared.object.Object.{Object}
use Rattle.ode_objects.specs.declared.tracked.Tracked.{Tracked}
use Rattle.ode_overlay.specs.Answers.{◌>>=◌}
use Rattle.ode_overlay.specs.Layers.{Layer, tracked_at}
use Rattle.ode_overlay.specs.Reading.{acts, actives_at, if_live, running_from}
use Rattle.ode_overlay_laws.specs.Standing.{object_as}
use Rattle.ode_schema.specs.Parts.{AreFit, Parts}
use Rattle.ode_states.specs.Machine.{checked}
use Rattle.ode_types.specs.Checked.{AreChecked}
use Rattle.ode_view_laws.proofs.ViewLaws.{view_stands}
use Rattle.ode_view_laws.specs.Showing.{IsViewed}
use Rattle.ode_view_laws.specs.Viewing.{nothing_beside, world_now}

-- ---- a tracked object that is there

pub record IsThere (id : ℕ) (x : Layer) (o : Object) : Type 0 where
  pub tracked : Tracked
  pub found : tracked_at id x ≡ Some tracked
  pub current : tracked.current ≡ o
  pub live : tracked.current.live ≡ true

pub there_by : (id : ℕ) (x : Layer) (o : Object) → live_in id x ≡ Some o → IsThere id x o
there_by id x o is = by_tracked (tracked_at id x) refl is where
  by_live : (t : Tracked) → tracked_at id x ≡ Some t → (b : Bool) → t.current.live ≡ b → cond b (Some t.current) None ≡ Some o → IsThere id x o
  by_live t found true live e = record { tracked = t; found = found; current = cc e; live = live }
  by_live t found false live e = absurd (cc e)

  by_tracked : (f : Option Tracked) → tracked_at id x ≡ f → option_and_then (λ (t : Tracked). if_live t.current) f ≡ Some o → IsThere id x o
  by_tracked None found e = absurd (cc e)
  by_tracked (Some t) found e = by_live t found t.current.live refl e

-- ---- its activations

module _ (first : NumberWorld) (x : Layer) (viewed : IsViewed first x) (have : HaveTriggers first.bones.classes (world_now first.bones.classes first x).bones) where
  -- a tracked object has its triggers in the view
  has_triggers : (id : ℕ) (t : Tracked) → tracked_at id x ≡ Some t → HasTriggers first.bones.classes (object_as id t.current)
  has_triggers id t found = have id (object_as id t.current) ((view_stands first.bones.classes first x nothing_beside viewed.over).tracked id t found).object

  module _ (p : Parts) (fit : AreFit p) (checks : AreChecked p.classes) (came : checked first.bones.classes ≡ p.classes) (base : Entries) where
    tracked_go : (id : ℕ) (t : Tracked) → tracked_at id x ≡ Some t → AllGo p t.current.class (acts p.classes base id p.maps x)
    unfolding acts
    tracked_go id t found =
        subst (λ (f : Option Tracked). AllGo p t.current.class (actives_at p.classes base id f >>= running_from p.maps id [])) (sym found)
        (all_go p fit checks first.bones.classes came t.current.class id [] t.current.activations tt (has_triggers id t found))

    pub live_go : (id : ℕ) (o : Object) → live_in id x ≡ Some o → AllGo p o.class (acts p.classes base id p.maps x)
    live_go id o is =
        let there = there_by id x o is in
        subst (λ (c : Object). AllGo p c.class (acts p.classes base id p.maps x)) there.current (tracked_go id there.tracked there.found)
