-- What is known of an overlay over records that hold a world.
use Rattle.std.specs.Prelude.{◌≡◌, List, map, Ok, Err}
use Rattle.ode_heap.specs.Answering.{class_of}
use Rattle.ode_heap_laws.specs.Few.{HoldsCounted}
use Rattle.ode_keep.specs.Entries.{Entries}
use Rattle.ode_key_laws.specs.Keys.{HoldsKeys}
use Rattle.ode_laws.specs.Alike.{NumberWorld}
use Rattle.ode_object_laws.specs.Objects.{HaveTriggers}
use Rattle.ode_overlay.specs.Answers.{Answer}
use Rattle.ode_overlay.specs.Layers.{Layer}
use Rattle.ode_settling_laws.specs.Formed.{IsFormed}
use Rattle.ode_value.specs.Language.{Language, ListWorld}
use Rattle.ode_value.specs.declared.class.Class.{Class}
use Rattle.ode_version_laws.specs.Denoting.{HaveVersions}
use Rattle.ode_version_laws.specs.Growing.{GoesOnNumbered}
use Rattle.ode_version_laws.specs.Remembering.{Remembers}
use Rattle.ode_view_laws.specs.Showing.{IsViewed}
use Rattle.ode_view_laws.specs.Viewing.{nothing_beside, running, world_now}

-- records hold a good world over lists, for which this world over state numbers stands
pub record IsHeld (base : Entries) (first : NumberWorld) : Type 0 where
  pub language : Language
  pub world : ListWorld
  pub held : HoldsCounted language base world
  pub is : first ≡ held.world.stored.world

-- The records hold the world that the overlay began with. The overlay has a view and remembers what its objects were; each object of the
-- world now has versions, the numbers of its parts tell them apart, and its class has the triggers of its activations. The keys that the
-- overlay holds are those of all records that it changes, and of the activations of touched objects.
pub record IsKnown (base : Entries) (first : NumberWorld) (x : Layer) : Type 0 where
  pub held : IsHeld base first
  pub viewed : IsViewed first x
  pub remembers : Remembers x.objects first
  pub versions : HaveVersions (world_now first.bones.classes first x).bones
  pub numbered : GoesOnNumbered (running first.bones.classes first x nothing_beside)
  pub formed : IsFormed first.bones.classes base x
  pub keys : HoldsKeys first x
  pub triggers : HaveTriggers first.bones.classes (world_now first.bones.classes first x).bones

-- where a call is done, it goes on
abbrev pub StaysKnown : {R : Type 0} → Entries → NumberWorld → Answer (R × Layer) → Type 0
StaysKnown base first (Ok done) = IsKnown base first done.1
StaysKnown base first (Err why) = Unit {0}

-- the classes that a world declares
abbrev pub declared_in : NumberWorld → List Class
declared_in w = map class_of w.bones.classes
