-- What fits a world fits one that follows it.
use Rattle.std.proofs.Common.{◌≡◌, ℕ, ◌<◌, ◌≤◌, Bool, true, false, cond, List, [], ◌∷◌, length, map, ◌==◌, Option, Some, None, refl, sym, ap, ◌∙◌, subst, arith}
use Rattle.std.specs.Prelude.{IsTrue, slice_get}
use Rattle.std.specs.Option.{IsSomeAnd, option_map, option_and_then}
use Rattle.ode_value.specs.declared.binding.Param.{Param}
use Rattle.ode_value.specs.declared.class.Class.{Class}
use Rattle.ode_value.specs.declared.class.Field.{Field}
use Rattle.ode_value.specs.declared.statement.Sort.{Sort}
use Rattle.ode_value.specs.declared.statement.Sort.TheVariants as sort
use Rattle.ode_value.specs.declared.value.Ref.{Ref}
use Rattle.ode_value.specs.declared.value.Value.{Value}
use Rattle.ode_value.specs.declared.value.Value.TheVariants as value
use Rattle.ode_value.specs.Classes.{Trigger, is_a, trigger_at}
use Rattle.ode_value.specs.Denoting.{object_numbered, if_live, object_at, object_of}
use Rattle.ode_value.specs.Evaluation.{Frame}
use Rattle.ode_value.specs.Fitting.{IsDrawn, FitsObject, FitsRef, FitsSort, FitFields, HaveTrigger, trigger_in}
use Rattle.ode_value.specs.GoodWorlds.{activation_of}
use Rattle.ode_value.specs.Objects.{Activation}
use Rattle.ode_value.specs.Posting.{entry_of}
use Rattle.ode_value.specs.Transactions.{Firing}
use Rattle.ode_value.specs.Versions.{Version}
use Rattle.ode_value.specs.Worlds.{Entry, Object, Bones, class_numbered}
use Rattle.ode_laws.proofs.AlikePairs.{zip_then}
use Rattle.ode_laws.proofs.Each.{all-then}
use Rattle.ode_sound_laws.specs.Fits.{alive, all_alive, Fits, FitSlots, FitsLiteral, FitsFrame, FitsVersion, FitsWorld, FitsEntry, FitsFiring}
use Rattle.ode_sound_laws.specs.Growing.{Follows}
use Rattle.ode_types.specs.Kept.{Setting}
use Rattle.ode_sound_laws.specs.Sound.{IsKnown, checked_classes}
use Rattle.ode_sound_laws.proofs.Basics.{if_some_at, if_some_from, some_and, and_some}

-- ---- as if nothing were removed

alive_numbered : (id : ℕ) (os : List Object) → object_numbered id (map alive os) ≡ option_map alive (object_numbered id os)
alive_numbered id [] = refl
alive_numbered id (o ∷ os) = by_test (o.id == id) (alive_numbered id os) where
  by_test : (t : Bool) → object_numbered id (map alive os) ≡ option_map alive (object_numbered id os)
      → cond t (Some (alive o)) (object_numbered id (map alive os)) ≡ option_map alive (cond t (Some o) (object_numbered id os))
  by_test true rest = refl
  by_test false rest = rest

live_alive : (m : Option Object) → option_and_then if_live (option_map alive m) ≡ option_map alive m
live_alive None = refl
live_alive (Some o) = refl

alive_at : (b : Bones) (id : ℕ) → object_at (all_alive b) id ≡ option_map alive (object_numbered id b.objects)
alive_at b id = ap (option_and_then if_live) (alive_numbered id b.objects) ∙ live_alive (object_numbered id b.objects)

pub found_alive : (b : Bones) (id : ℕ) (o : Object) → object_at (all_alive b) id ≡ Some o → (p : Object) × (object_numbered id b.objects ≡ Some p) × (alive p ≡ o)
found_alive b id o e = by_found (object_numbered id b.objects) (sym (alive_at b id) ∙ e) where
  by_found : (m : Option Object) → option_map alive m ≡ Some o → (p : Object) × (m ≡ Some p) × (alive p ≡ o)
  by_found (Some p) f = (p, refl, cc)
  by_found None f = absurd (cc)

pub alive_found : (b : Bones) (id : ℕ) (p : Object) → object_numbered id b.objects ≡ Some p → object_at (all_alive b) id ≡ Some (alive p)
alive_found b id p e = alive_at b id ∙ ap (option_map alive) e

-- the object behind a reference
pub of_alive : (b : Bones) (r : Ref) (o : Object) → object_of (all_alive b) r ≡ Some o → (p : Object) × ((r.object == 0) ≡ false) × (object_numbered r.object b.objects ≡ Some p) × (alive p ≡ o)
of_alive b r o e = by_test (r.object == 0) refl e where
  by_test : (t : Bool) → (r.object == 0) ≡ t → cond t None (object_at (all_alive b) r.object) ≡ Some o → (p : Object) × ((r.object == 0) ≡ false) × (object_numbered r.object b.objects ≡ Some p) × (alive p ≡ o)
  by_test true z f = absurd (cc)
  by_test false z f = let it = found_alive b r.object o f in (it.0, z, it.1, it.2)

pub alive_of : (b : Bones) (r : Ref) (p : Object) → (r.object == 0) ≡ false → object_numbered r.object b.objects ≡ Some p → object_of (all_alive b) r ≡ Some (alive p)
alive_of b r p z e = ap (λ t. cond t None (object_at (all_alive b) r.object)) z ∙ alive_found b r.object p e

-- what is live is there
pub of_live : (b : Bones) (r : Ref) (o : Object) → object_of b r ≡ Some o → ((r.object == 0) ≡ false) × (object_at b r.object ≡ Some o)
of_live b r o e = by_test (r.object == 0) refl e where
  by_test : (t : Bool) → (r.object == 0) ≡ t → cond t None (object_at b r.object) ≡ Some o → ((r.object == 0) ≡ false) × (object_at b r.object ≡ Some o)
  by_test true z f = absurd (cc)
  by_test false z f = (z, f)

-- ---- worlds that follow

pub follows_itself : (b : Bones) → Follows b b
follows_itself b = record { classes = refl; added = refl; next = omega arith; objects = λ id less o e. record { before = o; found = e; class = refl; last = omega arith } }

pub follows_on : (b c d : Bones) → Follows b c → Follows c d → Follows b d
follows_on b c d f g = record {
  classes = g.classes ∙ f.classes;
  added = g.added ∙ f.added;
  next = let one : b.next ≤ c.next = f.next in let two : c.next ≤ d.next = g.next in omega arith;
  objects = λ id less o e.
      let one : b.next ≤ c.next = f.next in
      let was = g.objects id (omega arith) o e in
      let first = f.objects id less was.before was.found in
      let low : first.before.last ≤ was.before.last = first.last in
      let high : was.before.last ≤ o.last = was.last in
      record { before = first.before; found = first.found; class = was.class ∙ first.class; last = omega arith };
}

drawn_later : (v : Option ℕ) (last more : ℕ) → last ≤ more → IsDrawn last v → IsDrawn more v
drawn_later None last more less h = tt
drawn_later (Some n) last more less h = let drawn : n ≤ last = h in omega arith

module _ (b c : Bones) (f : Follows b c) where
  pub ref_follows : (class : List ℕ) (r : Ref) → FitsRef (all_alive b) class r → FitsRef (all_alive c) class r
  ref_follows class r h = record {
    is = h.is;
    drawn = let one : r.object < b.next = h.drawn in let two : b.next ≤ c.next = f.next in omega arith;
    object = if_some_from (FitsObject (all_alive c) class r) (object_of (all_alive c) r) (λ o e.
        let it = of_alive c r o e in
        let was = f.objects r.object h.drawn it.0 it.2 in
        let old : FitsObject (all_alive b) class r (alive was.before) = if_some_at (FitsObject (all_alive b) class r) (object_of (all_alive b) r) h.object (alive was.before) (alive_of b r was.before it.1 was.found) in
        subst (FitsObject (all_alive c) class r) it.3 (record {
          fits = subst (λ cs. IsTrue (is_a cs it.0.class class)) (sym f.classes) (subst (λ n. IsTrue (is_a b.classes n class)) (sym was.class) old.fits);
          version = drawn_later r.version was.before.last it.0.last was.last old.version;
        }));
  }

  pub sort_follows : (s : Sort) (v : Value) → FitsSort (all_alive b) s v → FitsSort (all_alive c) s v
  sort_follows sort.Int (value.Int n) h = h
  sort_follows sort.Bool (value.Bool t) h = h
  sort_follows sort.Text (value.Text t) h = h
  sort_follows (sort.Reference class) (value.Reference r) h = ref_follows class r h
  sort_follows _ _ h = absurd h

  pub fits_follows : (s : Option Sort) (v : Value) → Fits b s v → Fits c s v
  fits_follows None (value.Reference r) h = h
  fits_follows None _ h = absurd h
  fits_follows (Some sort.Void) v h = tt
  fits_follows (Some sort.Int) v h = sort_follows sort.Int v h
  fits_follows (Some sort.Bool) v h = sort_follows sort.Bool v h
  fits_follows (Some sort.Text) v h = sort_follows sort.Text v h
  fits_follows (Some (sort.Reference class)) v h = sort_follows (sort.Reference class) v h

  pub fields_follow : (fields : List Field) (values : List Value) → FitFields (all_alive b) fields values → FitFields (all_alive c) fields values
  fields_follow fields values h = zip_then (λ (g : Field). FitsSort (all_alive b) g.sort) (λ (g : Field). FitsSort (all_alive c) g.sort) (λ g v fits. sort_follows g.sort v fits) fields values h

  pub args_follow : (args : List Value) (t : Option Trigger) → HaveTrigger (all_alive b) args t → HaveTrigger (all_alive c) args t
  args_follow args None h = h
  args_follow args (Some t) h = record {
    sorts = zip_then (λ (p : Param). FitsSort (all_alive b) p.sort) (λ (p : Param). FitsSort (all_alive c) p.sort) (λ p v fits. sort_follows p.sort v fits) t.decl.params args h.sorts;
    short = h.short;
  }

  pub slots_follow : (slots : List (Option Sort)) (locals : List Value) → FitSlots b slots locals → FitSlots c slots locals
  slots_follow slots locals h place s e =
      let it = some_and (Fits b (Some s)) (slice_get locals place) (h place s e) in
      and_some (Fits c (Some s)) (slice_get locals place) it.0 it.1 (fits_follows (Some s) it.0 it.2)

  literal_follows : (l : Ref × ℕ) → FitsLiteral b l → FitsLiteral c l
  literal_follows l h = record {
    is = h.is;
    drawn = let one : l.0.object < b.next = h.drawn in let two : b.next ≤ c.next = f.next in omega arith;
    object = if_some_from (λ (o : Object). (o.class ≡ l.1) × IsDrawn o.last l.0.version) (object_of (all_alive c) l.0) (λ o e.
        let it = of_alive c l.0 o e in
        let was = f.objects l.0.object h.drawn it.0 it.2 in
        let old = if_some_at (λ (p : Object). (p.class ≡ l.1) × IsDrawn p.last l.0.version) (object_of (all_alive b) l.0) h.object (alive was.before) (alive_of b l.0 was.before it.1 was.found) in
        subst (λ (p : Object). (p.class ≡ l.1) × IsDrawn p.last l.0.version) it.3 (was.class ∙ old.0, drawn_later l.0.version was.before.last it.0.last was.last old.1));
  }

  known_follows : (class : Class) → IsKnown b.classes class → IsKnown c.classes class
  known_follows class h = subst (λ cs. IsKnown cs class) (sym f.classes) h

  pub frame_follows : (at : Setting) (frame : Frame) → FitsFrame b at frame → FitsFrame c at frame
  frame_follows at frame h = record {
    classes = h.classes ∙ ap checked_classes (sym f.classes);
    known = if_some_from (IsKnown c.classes) at.class (λ class e. known_follows class (if_some_at (IsKnown b.classes) at.class h.known class e));
    this = if_some_from (λ (class : Class). FitsRef (all_alive c) class.name frame.this) at.class (λ class e.
        ref_follows class.name frame.this (if_some_at (λ (d : Class). FitsRef (all_alive b) d.name frame.this) at.class h.this class e));
    slots = slots_follow at.slots frame.locals h.slots;
    literals = all-then (FitsLiteral b) (FitsLiteral c) literal_follows at.literals h.literals;
  }

  version_follows : (class : Class) (last : ℕ) (v : Version) → FitsVersion b class last v → FitsVersion c class last v
  version_follows class last v h = record { some = h.some; number = h.number; parent = h.parent; stamp = subst (λ fs. v.stamp ≤ length fs) (sym f.added) h.stamp; fields = fields_follow class.fields v.fields h.fields; later = h.later }

  pub object_follows : (o : Object) → FitsWorld b o → FitsWorld c o
  object_follows o h = record {
    number = let one : o.id < b.next = h.number in let two : b.next ≤ c.next = f.next in omega arith;
    class = h.class;
    known = ap (class_numbered o.class) f.classes ∙ h.known;
    last = h.last;
    versions = all-then (FitsVersion b h.class o.last) (FitsVersion c h.class o.last) (version_follows h.class o.last) o.versions h.versions;
    activations = all-then (λ (a : Activation). HaveTrigger (all_alive b) a.args (trigger_in b.classes o.class a)) (λ (a : Activation). HaveTrigger (all_alive c) a.args (trigger_in c.classes o.class a))
        (λ a fits. subst (λ cs. HaveTrigger (all_alive c) a.args (trigger_in cs o.class a)) (sym f.classes) (args_follow a.args (trigger_in b.classes o.class a) fits)) o.activations h.activations;
  }

  pub entry_follows : (e : Entry) → FitsEntry b e → FitsEntry c e
  entry_follows e h = record {
    trigger = subst (λ cs. HaveTrigger (all_alive c) e.args (trigger_at cs e.class e.trigger)) (sym f.classes) (args_follow e.args (trigger_at b.classes e.class e.trigger) h.trigger);
    drawn = let one : e.object < b.next = h.drawn in let two : b.next ≤ c.next = f.next in omega arith;
    object = λ o there.
        let was = f.objects e.object h.drawn o there in
        subst (λ cs. IsSomeAnd (trigger_in cs o.class (activation_of e)) (λ t. Unit {0})) (sym f.classes)
        (subst (λ n. IsSomeAnd (trigger_in b.classes n (activation_of e)) (λ t. Unit {0})) (sym was.class) (h.object was.before was.found));
  }

  pub firing_follows : (g : Firing) → FitsFiring b g → FitsFiring c g
  firing_follows g h = record { entry = entry_follows (entry_of 0 g) h.entry; trigger = ap (λ cs. trigger_at cs g.trigger.class g.trigger.place) f.classes ∙ h.trigger }
