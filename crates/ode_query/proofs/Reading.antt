-- Through what nothing has changed a world is read.
use Rattle.std.proofs.Common.{◌≡◌, ℕ, List, [], map, refl, sym, ap, subst}
use Rattle.std.specs.BTreeMap.{is_at}
use Rattle.std.specs.Map.{lookup}
use Rattle.std.specs.Ordering.{nat_cmp}
use Rattle.ode_expr.specs.Answers.{number_of}
use Rattle.ode_heap.specs.Answering.{class_of}
use Rattle.ode_heap_laws.specs.Few.{HoldsCounted}
use Rattle.ode_keep.specs.Entries.{Entries}
use Rattle.ode_known_laws.specs.Knowing.{IsHeld, IsKnown, declared_in}
use Rattle.ode_laws.specs.Alike.{NumberWorld}
use Rattle.ode_overlay.specs.Answers.{◌>>=◌}
use Rattle.ode_overlay.specs.Layers.{Layer}
use Rattle.ode_overlay.specs.Reading.{ReadsAs, head_at, not_null, object, or_else, read, read_at, shown}
use Rattle.ode_overlay.specs.declared.error.OverlayError.TheVariants.{NoObject}
use Rattle.ode_overlay.specs.declared.origin.Origin.{Origin}
use Rattle.ode_overlay.specs.declared.origin.Origin.TheVariants.{Script}
use Rattle.ode_run_frame.specs.Reads.{Reads, number_in, number_read}
use Rattle.ode_value.specs.Evaluation.{field_of}
use Rattle.ode_value.specs.Language.{Language, ListWorld}
use Rattle.ode_value.specs.Worlds.{Bones, Declared}
use Rattle.ode_value.specs.declared.class.Class.{Class}
use Rattle.ode_value.specs.declared.value.Ref.{Ref}
use Rattle.ode_view_laws.specs.Viewing.{Beside, began_over, nothing_beside, running, world_now}

-- what is read lies at the objects alone
module _ (base : Entries) (x y : Layer) (same : x.objects ≡ y.objects) where
  field_alike : (classes : List Class) (r : Ref) (slot : ℕ) → read classes base r slot x ≡ read classes base r slot y
  unfolding read
  field_alike classes r slot = ap (λ os. not_null r >>= λ _. read_at classes base r slot (lookup (is_at (nat_cmp r.object)) os)) same

  object_alike : (id : ℕ) → object base id x ≡ object base id y
  unfolding object
  object_alike id = ap (λ os. head_at base id (lookup (is_at (nat_cmp id)) os) >>= shown id) same

  number_alike : (r : Ref) → number_read base r x ≡ number_read base r y
  unfolding number_read
  number_alike r = ap (λ found. not_null r >>= λ _. found >>= λ head. or_else (NoObject r.object) head >>= λ head. number_in r head) (object_alike r.object)

  reads_alike : (classes : List Class) (b : Bones) → Reads classes base x b → Reads classes base y b
  reads_alike classes b reads = record {
    field = λ r slot. subst (λ found. ReadsAs found (field_of b slot r)) (field_alike classes r slot) (reads.field r slot);
    number = λ r. subst (λ found. ReadsAs found (number_of b r)) (number_alike r) (reads.number r);
  }

-- where a transaction that begins with it reads it
pub world_read : (first : NumberWorld) (b : Bones) (classes : List Class) (base : Entries) (x : Layer) → first.bones ≡ b → classes ≡ map class_of b.classes → x.objects ≡ []
    → Reads (declared_in first) base (began_over Script first) (running first.bones.classes first (began_over Script first) nothing_beside).now.bones → Reads classes base x b
unfolding world_now
world_read first b classes base x bones declared none reads =
    reads_alike base (began_over Script first) x (sym none) classes b
    (subst (λ (cs : List Class). Reads cs base (began_over Script first) b) (sym declared)
    (subst (λ (c : Bones). Reads (map class_of c.classes) base (began_over Script first) c) bones reads))

-- so it is read where records hold it
abbrev Begins : Type 0
Begins = (origin : Origin) (base : Entries) (w : NumberWorld) → IsHeld base w → IsKnown base w (began_over origin w)

abbrev Shows : Type 0
Shows = (classes : List Declared) (first : NumberWorld) (beside : Beside) (base : Entries) (x : Layer) → IsKnown base first x → Reads (declared_in first) base x (running classes first x beside).now.bones

pub held_read : Begins → Shows → (l : Language) (entries : Entries) (w : ListWorld) → HoldsCounted l entries w → (classes : List Class) → classes ≡ map class_of w.bones.classes → (x : Layer) → x.objects ≡ [] → Reads classes entries x w.bones
held_read begins shows l entries w held classes declared x none =
    let first : NumberWorld = held.world.stored.world in
    let known = begins Script entries first (record { language = l; world = w; held = held; is = refl }) in
    world_read first w.bones classes entries x held.world.stands.bones declared none (shows first.bones.classes first nothing_beside entries (began_over Script first) known)
