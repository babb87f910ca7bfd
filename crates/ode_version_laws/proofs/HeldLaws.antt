-- Records that hold a world show it.
use Rattle.std.proofs.Common.{◌≡◌, ℕ, List, option_map, Some, sym, ap, subst, ◌∙◌}
use Rattle.ode_heap.specs.Answering.{head_of_object}
use Rattle.ode_heap.specs.Answers.{There}
use Rattle.ode_heap.specs.Looking.{version_in}
use Rattle.ode_heap.specs.Objects.{object_in}
use Rattle.ode_heap_laws.specs.Few.{HoldsCounted}
use Rattle.ode_value.specs.Denoting.{object_numbered}
use Rattle.ode_value.specs.Language.{Language, ListWorld}
use Rattle.ode_value.specs.Records.{Row}
use Rattle.ode_value.specs.Versions.{Version, version_numbered}
use Rattle.ode_value.specs.Worlds.{Bones, Object, class_numbered}
use Rattle.ode_value.specs.declared.class.Class.{Class}
use Rattle.ode_version_laws.proofs.SettledLaws.{settled_law}
use Rattle.ode_version_laws.specs.Showing.{AreSettled, Shows}

-- what holds of the bones holds of those of the stored world
in_stored : (l : Language) (records : List Row) (w : ListWorld) (held : HoldsCounted l records w) (P : Bones → Type 0) → P w.bones → P held.world.stored.world.bones
in_stored l records w held P is = subst P (sym held.world.stands.bones) is

-- the clauses of the heap's law
pub shows_law : ((l : Language) (records : List Row) (w : ListWorld) (id : ℕ) → HoldsCounted l records w → object_in records id ≡ There (option_map head_of_object (object_numbered id w.bones.objects)))
    → ((l : Language) (records : List Row) (w : ListWorld) (id number : ℕ) (o : Object) (class : Class) → HoldsCounted l records w → object_numbered id w.bones.objects ≡ Some o
    → class_numbered o.class w.bones.classes ≡ Some class → version_in records id number class ≡ There (option_map (λ (v : Version). v.fields) (version_numbered number o.versions)))
    → (l : Language) (records : List Row) (w : ListWorld) (held : HoldsCounted l records w) → Shows records held.world.stored.world
shows_law objects versions l records w held = record {
  object = λ id. in_stored l records w held (λ b. object_in records id ≡ There (option_map head_of_object (object_numbered id b.objects))) (objects l records w id held);
  version = λ id number o class is its.
      versions l records w id number o class held (ap (λ (b : Bones). object_numbered id b.objects) (sym held.world.stands.bones) ∙ is) (ap (λ (b : Bones). class_numbered o.class b.classes) (sym held.world.stands.bones) ∙ its);
}

pub held_settled : (l : Language) (records : List Row) (w : ListWorld) (held : HoldsCounted l records w) → AreSettled held.world.stored.world
held_settled l records w held = settled_law l held.world.stored.tables held.world.stored.world w held.world.good held.world.stands
