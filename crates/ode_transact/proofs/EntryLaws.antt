-- Entries and positions of the clock, over the classes of a context.
use Rattle.std.proofs.Common.{◌≡◌, ◌∙◌, ℕ, Bool, true, false, List, [], cond, Option, Some, None, ap, refl, sym}
use Rattle.std.specs.Prelude.{is_some, slice_get}
use Rattle.std.specs.Option.{option_and_then, option_map, option_map_or, unwrap_or}
use Rattle.ode_heap.specs.Answering.{head_of_object}
use Rattle.ode_heap.specs.declared.object.ObjectHead.{ObjectHead}
use Rattle.ode_host.specs.View.{View}
use Rattle.ode_keep.specs.Entries.{Entries}
use Rattle.ode_machine.specs.TimeRows.{kinds_of}
use Rattle.ode_run.specs.Contexts.{ContextRuns}
use Rattle.ode_run.specs.Knowing.{deferred_as}
use Rattle.ode_run.specs.declared.context.Ctx.{Ctx}
use Rattle.ode_schema.proofs.Agree.{numbered_by, trigger_by}
use Rattle.ode_schema.specs.Parts.{no_trigger, trigger_under}
use Rattle.ode_states.specs.Machine.{checked}
use Rattle.ode_transact.specs.Going.{fires, posts_kind, posts_place}
use Rattle.ode_types.specs.Families.{class_numbered}
use Rattle.ode_value.specs.Acts.{Deed, Outcome, Done, Aborted, ◌>>=◌, found, go_on}
use Rattle.ode_value.specs.Changes.{object}
use Rattle.ode_value.specs.Classes as machine
use Rattle.ode_value.specs.Denoting.{object_at}
use Rattle.ode_value.specs.Draining.{firing_in}
use Rattle.ode_value.specs.Executing.{first_actions}
use Rattle.ode_value.specs.Language.{Language, ListTx, ListWorld}
use Rattle.ode_value.specs.Objects.{Histories, Starts}
use Rattle.ode_value.specs.Pasts.{lists}
use Rattle.ode_value.specs.Posting.{posts, runs}
use Rattle.ode_value.specs.Worlds as worlds
use Rattle.ode_value.specs.Worlds.{Bones, Entry, Object}
use Rattle.ode_value.specs.declared.class.Class.{Class}
use Rattle.ode_value.specs.declared.event.Kind.{Kind}
use Rattle.ode_value.specs.declared.member.TriggerDecl.{TriggerDecl}
use Rattle.ode_value.specs.declared.reason.Reason.TheVariants.{NoObject}

-- the classes of a context are those of the world now
pub classes_now : {H K : Type 0} (seen : H → View) (held : K → View → Entries → Type 0) (live : K → Bool) (l : Language) (w : ListWorld) (ctx : Ctx K) (h : H) (x : ListTx) → ContextRuns seen held live l w ctx h x
    → checked x.now.bones.classes ≡ ctx.classes
classes_now seen held live l w ctx h x is =
    ap checked (is.runs.classes ∙ ap (λ (v : ListWorld). v.bones.classes) is.first ∙ sym (ap (λ (b : Bones). b.classes) is.world.world.stands.bones)) ∙ sym is.context.classes

-- ---- entries

module _ (cs : List Class) (x : ListTx) (are : checked x.now.bones.classes ≡ cs) (e : Entry) where
  -- where its trigger isn't declared, it aborts
  pub fires_none : trigger_under cs e.class e.trigger ≡ None → fires lists e x ≡ Aborted (NoObject 0) x
  fires_none none =
      let gone : machine.trigger_at x.now.bones.classes e.class e.trigger ≡ None =
      sym (trigger_by cs x.now.bones.classes are e.class e.trigger) ∙ ap (option_map (λ t. machine.trigger_of e.class (e.trigger, t))) none in
      ap (λ (t : Option machine.Trigger). go_on (found t x) (λ t. runs (first_actions lists) (firing_in e t))) gone

  -- where it is, its action runs
  pub fires_some : (t : TriggerDecl) → trigger_under cs e.class e.trigger ≡ Some t
      → fires lists e x ≡ runs (first_actions lists) (deferred_as cs (e.object, record { activation = 0; class = e.class; trigger = e.trigger; args = e.args })) x
  fires_some t is =
      let there : machine.trigger_at x.now.bones.classes e.class e.trigger ≡ Some (machine.trigger_of e.class (e.trigger, t)) =
      sym (trigger_by cs x.now.bones.classes are e.class e.trigger) ∙ ap (option_map (λ t. machine.trigger_of e.class (e.trigger, t))) is in
      ap (λ (t : Option machine.Trigger). go_on (found t x) (λ t. runs (first_actions lists) (firing_in e t))) there
      ∙ ap (λ (t : TriggerDecl). runs (first_actions lists) (firing_in e (machine.trigger_of e.class (e.trigger, t))) x) (sym (ap (λ (o : Option TriggerDecl). unwrap_or o no_trigger) is))

-- ---- positions

abbrev there_or : ℕ → ListTx → Option Object → Outcome Histories Starts (Unit {0})
there_or id x o = cond (is_some o) (Done tt x) (Aborted (NoObject id) x)

abbrev by_class : (id place : ℕ) → Object → Deed Histories Starts
by_class id place o = posts_kind lists id place o.class

-- the object is there
pub object_there : (id place : ℕ) (x : ListTx) (head : ObjectHead) → Some head ≡ option_map head_of_object (object_at x.now.bones id) → posts_place lists id place x ≡ posts_kind lists id place head.class x
object_there id place x head is = by_object (object_at x.now.bones id) refl is where
  by_object : (o : Option Object) → object_at x.now.bones id ≡ o → Some head ≡ option_map head_of_object o → posts_place lists id place x ≡ posts_kind lists id place head.class x
  by_object None at is = absurd (cc is)
  by_object (Some o) at is =
      let same : head ≡ head_of_object o = cc is in
      ap (λ (q : Option Object). go_on (there_or id x q) (λ _. object id >>= by_class id place)) at
      ∙ ap (λ (q : Option Object). go_on (found q x) (by_class id place)) at
      ∙ ap (λ (h : ObjectHead). posts_kind lists id place h.class x) (sym same)

-- or it isn't
pub object_gone : (id place : ℕ) (x : ListTx) → None ≡ option_map head_of_object (object_at x.now.bones id) → posts_place lists id place x ≡ Aborted (NoObject id) x
object_gone id place x is = by_object (object_at x.now.bones id) refl is where
  by_object : (o : Option Object) → object_at x.now.bones id ≡ o → None ≡ option_map head_of_object o → posts_place lists id place x ≡ Aborted (NoObject id) x
  by_object None at is = ap (λ (q : Option Object). go_on (there_or id x q) (λ _. object id >>= by_class id place)) at
  by_object (Some o) at is = absurd (cc is)

-- ---- kinds

kind_in : (o : Option Class) (place : ℕ) → slice_get (option_map_or (λ (c : Class). c.kinds) o []) place ≡ option_and_then (λ (c : Class). slice_get c.kinds place) o
kind_in None place = refl
kind_in (Some c) place = refl

-- the kind at its place
pub kind_there : (cs : List Class) (x : ListTx) → checked x.now.bones.classes ≡ cs → (id place class : ℕ) (kind : Option Kind) → kind ≡ option_and_then (λ (c : Class). slice_get c.kinds place) (class_numbered cs class)
    → posts_kind lists id place class x ≡ go_on (found kind x) (λ kind. posts lists (first_actions lists) id kind [])
kind_there cs x are id place class kind is =
    let found_there : slice_get (kinds_of x.now.bones.classes class) place ≡ kind =
    kind_in (worlds.class_numbered class x.now.bones.classes) place
    ∙ ap (option_and_then (λ (c : Class). slice_get c.kinds place)) (sym (numbered_by cs x.now.bones.classes are class))
    ∙ sym is in
    ap (λ (k : Option Kind). go_on (found k x) (λ kind. posts lists (first_actions lists) id kind [])) found_there

-- ---- options

pub none_of : {X : Type 0} (o : Option X) → is_some o ≡ false → o ≡ None
none_of None is = refl
none_of (Some x) is = absurd (cc is)

pub some_of : {X : Type 0} (o : Option X) → is_some o ≡ true → (x : X) × (o ≡ Some x)
some_of None is = absurd (cc is)
some_of (Some x) is = (x, refl)
