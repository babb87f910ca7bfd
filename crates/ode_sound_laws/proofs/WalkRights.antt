-- Right sides and the statements that touch objects, in typed transactions.
use Rattle.std.proofs.Common.{◌≡◌, ℕ, ◌<◌, ◌≤◌, ◌^◌, true, false, List, [], map, ◌==◌, Option, Some, None, sym, ap, ◌∙◌, subst, arith}
use Rattle.std.specs.Prelude.{pos}
use Rattle.std.specs.List.{AllByRecursion, AllZip, find, list_all}
use Rattle.std.specs.Option.{option_and_then}
use Rattle.std.specs.Str.{bytes_eq}
use Rattle.ode_value.specs.declared.binding.Param.{Param}
use Rattle.ode_value.specs.declared.class.Class.{Class}
use Rattle.ode_value.specs.declared.event.Kind.TheVariants.{Create, Delete, NewVersion, DropVersion}
use Rattle.ode_value.specs.declared.member.Method.{Method}
use Rattle.ode_value.specs.declared.member.TriggerDecl.{TriggerDecl}
use Rattle.ode_value.specs.declared.statement.Call.{Call}
use Rattle.ode_value.specs.declared.statement.Expr.{Expr}
use Rattle.ode_value.specs.declared.statement.Rhs.{Rhs}
use Rattle.ode_value.specs.declared.statement.Rhs.TheVariants as rhs
use Rattle.ode_value.specs.declared.statement.Sort.{Sort}
use Rattle.ode_value.specs.declared.statement.Sort.TheVariants as sort
use Rattle.ode_value.specs.declared.value.Ref.{Ref}
use Rattle.ode_value.specs.declared.value.Value.{Value}
use Rattle.ode_value.specs.declared.value.Value.TheVariants as value
use Rattle.ode_value.specs.Acts.{Act, Deed, ◌>>=◌, ◌>>◌, gives, nothing, each, sees, finds}
use Rattle.ode_value.specs.Changes.{lives}
use Rattle.ode_value.specs.Classes.{Trigger, trigger_named, initial_triggers, triggers_of}
use Rattle.ode_value.specs.Constraints.{tests_hard}
use Rattle.ode_value.specs.Denoting.{object_numbered, object_at}
use Rattle.ode_value.specs.Evaluation.{Frame}
use Rattle.ode_value.specs.Executing.{actions_of, right}
use Rattle.ode_value.specs.Expressions.{evaluates, evaluates_all, evaluates_sets, stands, reference, receiver}
use Rattle.ode_value.specs.Fitting.{FitsRef, FitsSort}
use Rattle.ode_value.specs.Making.{makes, derives, spares, drops, removes, switches_on}
use Rattle.ode_value.specs.Objects.{Activation}
use Rattle.ode_value.specs.Pasts.{Past}
use Rattle.ode_value.specs.Posting.{Body, posts, touches}
use Rattle.ode_value.specs.Statements.{Inner, first_value, is_on, generic, calls_deeper, calls, activates_initial, makes_named, creates, copies, deletes, drops_version, switches_on_named, activates, switches_off_found, switches_off_numbered, deactivates}
use Rattle.ode_value.specs.Transactions.{Tx}
use Rattle.ode_value.specs.Worlds as worlds
use Rattle.ode_value.specs.Worlds.{Object, Bones}
use Rattle.ode_types.specs.Families as families
use Rattle.ode_types.specs.Families.{line_of}
use Rattle.ode_types.specs.Sorts.{is_reference}
use Rattle.ode_laws.proofs.Each.{all-passing, all-then, all-find}
use Rattle.ode_laws.proofs.Rows.{at_numbered}
use Rattle.ode_sound_laws.specs.Growing.{Grows}
use Rattle.ode_sound_laws.specs.Typed.{IsTyped}
use Rattle.ode_sound_laws.specs.Fits.{all_alive, Fits, FitsFrame, AreFit}
use Rattle.ode_types.specs.Kept.{Setting, sort_in, is_fit, is_ref, are_fit, is_set, receiver_class, right_sort}
use Rattle.ode_types.specs.Typing.{where_so}
use Rattle.ode_sound_laws.specs.Sound.{IsKnown, IsSoundTrigger, Inherits, checked_classes}
use Rattle.ode_sound_laws.proofs.Basics.{then_some, so_some, same_some, found_same}
use Rattle.ode_sound_laws.proofs.FitLaws.{frame_follows, ref_follows}
use Rattle.ode_sound_laws.proofs.GrowLaws.{grows_itself, grows_on}
use Rattle.ode_sound_laws.proofs.WalkActs.{Any, Ends, ends_then, ends_as, ends_done, found_ends, each_ends, spares_ends, drops_ends, removes_ends, switches_off_ends}
use Rattle.ode_sound_laws.proofs.WalkCalls.{named_class, above, DeeperFits, hard_ends, lives_ends, inside_ends}
use Rattle.ode_sound_laws.proofs.WalkMaking.{FitsIn, IsBelow, IsNew, new_later, new_fits, derives_ends, makes_ends, switches_on_ends}
use Rattle.ode_sound_laws.proofs.WalkPosting.{LevelFits, posts_ends, touches_ends}
use Rattle.ode_sound_laws.proofs.WalkValues.{IsSetting, settings_fit, IsAt, at_later, IsOf, FitArgs, args_later, args_strict, ref_sort, stands_ends, evaluates_ends, fitting_ends, all_ends, sets_ends, reference_ends, receiver_ends}

-- an initial trigger of a new object's class, which has no parameters
pub record IsInitial (id : ℕ) (b : Bones) (t : Trigger) : Type 0 where
  pub object : Object
  pub found : object_numbered id b.objects ≡ Some object
  pub sound : IsSoundTrigger b.classes object.class t
  pub params : t.decl.params ≡ []

initial_later : (id : ℕ) (b d : Bones) (t : Trigger) → Grows b d → IsInitial id b t → IsInitial id d t
initial_later id b d t grows h =
    let still = grows.stays id h.object h.found in
    record {
      object = still.after;
      found = still.found;
      sound = subst (λ n. IsSoundTrigger d.classes n t) (sym still.class) (subst (λ cs. IsSoundTrigger cs h.object.class t) (sym grows.follows.classes) h.sound);
      params = h.params;
    }

-- a value of an int
pub number_fits : (b : Bones) → AreFit b → (n : ℕ) → n < b.next → Fits b (Some sort.Int) (value.Int (pos n))
number_fits b fit n less = record { sfits = let high : b.next ≤ 2 ^ 62 = fit.next.bounded in omega arith }

module _ {O A : Type 0} (past : Past O A) where
  -- ---- `pnew`

  initial_ends : (id : ℕ) (t : Trigger) (x : Tx O A) → IsTyped x → IsInitial id x.now.bones t → Ends x.now.bones (Any (Unit {0})) (activates_initial past id t x)
  initial_ends id t x h is =
      ends_then x.now.bones IsBelow (Any (Unit {0})) (switches_on past id t [] x)
      (switches_on_ends past id t [] is.object x h is.found is.sound (subst (λ ps. AllZip (λ (p : Param). FitsSort (all_alive x.now.bones) p.sort) ps []) (sym is.params) tt)) (λ n. nothing) (λ n y typed grows below. ends_done (Any (Unit {0})) tt y typed tt)

  named_ends : (at : Setting) (frame : Frame) (class : List ℕ) (sets : List (List ℕ × Expr)) (c : Class) → families.class_named at.classes class ≡ Some c → list_all (is_set at c) sets ≡ true → (x : Tx O A) → IsTyped x → FitsFrame x.now.bones at frame
      → Ends x.now.bones (λ b id. IsKnown b.classes c × IsNew c b id) (makes_named past class sets frame x)
  unfolding makes_named
  named_ends at frame class sets c named are x h fits =
      ends_then x.now.bones (λ b given. AllByRecursion (IsSetting c b) given) Fine (evaluates_sets sets frame x) (sets_ends at frame c sets are x h fits) of_given (λ given y h1 g1 settings.
      found_ends y.now.bones Fine (worlds.class_named class y.now.bones.classes) y h1 (of_class given) (λ d e.
      let later = frame_follows x.now.bones y.now.bones g1.follows at frame fits in
      let same : d ≡ c = found_same (worlds.class_named class y.now.bones.classes) d c e (named_class class y.now.bones.classes ∙ subst (λ cs. families.class_named cs class ≡ Some c) later.classes named) in
      let known : IsKnown y.now.bones.classes c = (h1.sound.named class c (subst (λ cs. families.class_named cs class ≡ Some c) later.classes named)).0 in
      subst (λ k. Ends y.now.bones Fine (of_class given k y)) (sym same)
      (ends_then y.now.bones (IsNew c) Fine (makes past c.number (map (first_value given) c.fields) y) (makes_ends past c (map (first_value given) c.fields) y h1 known (settings_fit y.now.bones h1.sound h1.now c known given settings)) (activated c) (λ id z h2 g2 new.
      ends_then z.now.bones (Any (Unit {0})) Fine (each (activates_initial past id) (initial_triggers z.now.bones.classes c.number) z)
      (each_ends (IsInitial id) (λ b d t grows is. initial_later id b d t grows is) (activates_initial past id) (λ t w typed is. initial_ends id t w typed is) (initial_triggers z.now.bones.classes c.number) z h2 (initials z h2 id new))
      (λ u. gives id) (λ u w h3 g3 is3.
      ends_done Fine id w h3 (subst (λ cs. IsKnown cs c) (sym (g3.follows.classes ∙ g2.follows.classes)) known, new_later c z.now.bones w.now.bones id g3 new))))))
    where
      Fine : Bones → ℕ → Type 0
      Fine b id = IsKnown b.classes c × IsNew c b id

      activated : Class → ℕ → Act O A ℕ
      activated k id = sees (λ b. initial_triggers b.classes k.number) >>= λ triggers. each (activates_initial past id) triggers >> gives id

      of_class : List (List ℕ × Value) → Class → Act O A ℕ
      of_class given k = makes past k.number (map (first_value given) k.fields) >>= activated k

      of_given : List (List ℕ × Value) → Act O A ℕ
      of_given given = finds (λ b. worlds.class_named class b.classes) >>= of_class given

      initials : (z : Tx O A) → IsTyped z → (id : ℕ) → IsNew c z.now.bones id → AllByRecursion (IsInitial id z.now.bones) (initial_triggers z.now.bones.classes c.number)
      initials z h2 id new =
          all-then (λ (t : Trigger). IsSoundTrigger z.now.bones.classes c.number t × (t.decl.initial ≡ true)) (IsInitial id z.now.bones) (λ t is. record {
            object = new.object;
            found = new.found;
            sound = subst (λ n. IsSoundTrigger z.now.bones.classes n t) (sym new.class) is.0;
            params = is.0.initial is.1;
          }) (initial_triggers z.now.bones.classes c.number)
          (all-passing (IsSoundTrigger z.now.bones.classes c.number) (λ (t : Trigger). t.decl.initial) (triggers_of z.now.bones.classes c.number) (h2.sound.triggers c.number))

  creates_ends : (d : Option (Body O A)) → LevelFits d → (at : Setting) (frame : Frame) (class : List ℕ) (sets : List (List ℕ × Expr)) (c : Class) → families.class_named at.classes class ≡ Some c → c.name ≡ class → list_all (is_set at c) sets ≡ true
      → (x : Tx O A) → IsTyped x → FitsFrame x.now.bones at frame → Ends x.now.bones (λ b v. Fits b (Some (sort.Reference class)) v) (creates past d class sets frame x)
  unfolding creates
  creates_ends d level at frame class sets c named name are x h fits =
      ends_then x.now.bones (λ b id. IsKnown b.classes c × IsNew c b id) Fine (makes_named past class sets frame x) (named_ends at frame class sets c named are x h fits) tested (λ id y h1 g1 new.
      ends_then y.now.bones (Any (Unit {0})) Fine (tests_hard (generic id) y) (hard_ends (generic id) y h1) (λ u. posts past d id Create [] >> gives (value.Reference (generic id))) (λ u z h2 g2 is2.
      ends_then z.now.bones (Any (Unit {0})) Fine (posts past d id Create [] z) (posts_ends past d level id Create [] z h2) (λ u. gives (value.Reference (generic id))) (λ u w h3 g3 is3.
      let grows = grows_on y.now.bones z.now.bones w.now.bones g2 g3 in
      ends_done Fine (value.Reference (generic id)) w h3
      (subst (λ n. FitsRef (all_alive w.now.bones) n (generic id)) name
      (new_fits c w.now.bones id h3.sound h3.now (subst (λ cs. IsKnown cs c) (sym grows.follows.classes) new.0) (new_later c y.now.bones w.now.bones id grows new.1))))))
    where
      Fine : Bones → Value → Type 0
      Fine b v = Fits b (Some (sort.Reference class)) v

      tested : ℕ → Act O A Value
      tested id = tests_hard (generic id) >> (posts past d id Create [] >> gives (value.Reference (generic id)))

  -- ---- statements on a reference

  copies_ends : (d : Option (Body O A)) → LevelFits d → (at : Setting) (frame : Frame) (e : Expr) (s : Option Sort) → sort_in e at ≡ Some s → is_reference s ≡ true → (x : Tx O A) → IsTyped x → FitsFrame x.now.bones at frame
      → Ends x.now.bones (λ b v. Fits b s v) (copies past d e frame x)
  unfolding copies
  copies_ends d level at frame e s typed is x h fits =
      ends_then x.now.bones (IsOf s) Fine (reference e frame x) (reference_ends at frame e s typed is x h fits) touched (λ r y h1 g1 of.
      ends_then y.now.bones (Any (Unit {0})) Fine (touches past d r.object y) (touches_ends past d level r.object y h1) (λ u. copied r) (λ u z h2 g2 is2.
      ends_then z.now.bones (FitsIn of.class) Fine (derives r z) (derives_ends of.class r z h2 (at_later of.class y.now.bones z.now.bones r g2 of.is).fits) (posted r) (λ new w h3 g3 fit.
      ends_then w.now.bones (Any (Unit {0})) Fine (posts past d r.object NewVersion [] w) (posts_ends past d level r.object NewVersion [] w h3) (λ u. gives (value.Reference new)) (λ u v h4 g4 is4.
      ends_done Fine (value.Reference new) v h4 (subst (λ t. Fits v.now.bones t (value.Reference new)) (sym of.of) (ref_follows w.now.bones v.now.bones g4.follows of.class new fit))))))
    where
      Fine : Bones → Value → Type 0
      Fine b v = Fits b s v

      posted : Ref → Ref → Act O A Value
      posted r new = posts past d r.object NewVersion [] >> gives (value.Reference new)

      copied : Ref → Act O A Value
      copied r = derives r >>= posted r

      touched : Ref → Act O A Value
      touched r = touches past d r.object >> copied r

  pub deletes_ends : (d : Option (Body O A)) → LevelFits d → (at : Setting) (frame : Frame) (e : Expr) → is_ref at e ≡ true → (x : Tx O A) → IsTyped x → FitsFrame x.now.bones at frame → Ends x.now.bones (Any (Unit {0})) (deletes past d e frame x)
  unfolding deletes
  deletes_ends d level at frame e is x h fits =
      let of = ref_sort at e is in
      ends_then x.now.bones (IsOf of.0) (Any (Unit {0})) (reference e frame x) (reference_ends at frame e of.0 of.1 of.2 x h fits) touched (λ r y h1 g1 is1.
      ends_then y.now.bones (Any (Unit {0})) (Any (Unit {0})) (touches past d r.object y) (touches_ends past d level r.object y h1) (λ u. stands r >> posted r) (λ u z h2 g2 is2.
      ends_then z.now.bones (λ b u. (r.object == 0) ≡ false) (Any (Unit {0})) (stands r z) (stands_ends r z h2) (λ u. posted r) (λ u w h3 g3 is3.
      ends_then w.now.bones (Any (Unit {0})) (Any (Unit {0})) (posts past d r.object Delete [] w) (posts_ends past d level r.object Delete [] w h3) (λ u. lives r.object >> removes r.object) (λ u v h4 g4 is4.
      ends_then v.now.bones (Any (Unit {0})) (Any (Unit {0})) (lives r.object v) (lives_ends r.object v h4) (λ u. removes r.object) (λ u t h5 g5 is5. removes_ends r.object t h5)))))
    where
      posted : Ref → Deed O A
      posted r = posts past d r.object Delete [] >> (lives r.object >> removes r.object)

      touched : Ref → Deed O A
      touched r = touches past d r.object >> (stands r >> posted r)

  pub drops_version_ends : (d : Option (Body O A)) → LevelFits d → (at : Setting) (frame : Frame) (e : Expr) → is_ref at e ≡ true → (x : Tx O A) → IsTyped x → FitsFrame x.now.bones at frame → Ends x.now.bones (Any (Unit {0})) (drops_version past d e frame x)
  unfolding drops_version
  drops_version_ends d level at frame e is x h fits =
      let of = ref_sort at e is in
      ends_then x.now.bones (IsOf of.0) (Any (Unit {0})) (reference e frame x) (reference_ends at frame e of.0 of.1 of.2 x h fits) touched (λ r y h1 g1 is1.
      ends_then y.now.bones (Any (Unit {0})) (Any (Unit {0})) (touches past d r.object y) (touches_ends past d level r.object y h1) (λ u. spared r) (λ u z h2 g2 is2.
      ends_then z.now.bones (Any Ref) (Any (Unit {0})) (spares r z) (spares_ends r z h2) (posted r) (λ v w h3 g3 is3.
      ends_then w.now.bones (Any (Unit {0})) (Any (Unit {0})) (posts past d r.object DropVersion [] w) (posts_ends past d level r.object DropVersion [] w h3) (λ u. drops v) (λ u t h4 g4 is4. drops_ends v t h4))))
    where
      posted : Ref → Ref → Deed O A
      posted r v = posts past d r.object DropVersion [] >> drops v

      spared : Ref → Deed O A
      spared r = spares r >>= posted r

      touched : Ref → Deed O A
      touched r = touches past d r.object >> spared r

  off_found_ends : (id : ℕ) (a : Option Activation) (x : Tx O A) → IsTyped x → Ends x.now.bones (Any (Unit {0})) (switches_off_found past id a x)
  off_found_ends id None x h = (h, grows_itself x.now.bones, tt)
  off_found_ends id (Some a) x h = switches_off_ends id a x h

  off_numbered_ends : (r : Ref) (v : Value) (x : Tx O A) → IsTyped x → Ends x.now.bones (Any (Unit {0})) (switches_off_numbered past r v x)
  unfolding switches_off_numbered
  off_numbered_ends r v x h =
      found_ends x.now.bones (Any (Unit {0})) (object_at x.now.bones r.object) x h (λ o. switches_off_found past r.object (find (is_on v) o.activations)) (λ o there. off_found_ends r.object (find (is_on v) o.activations) x h)

  pub deactivates_ends : (d : Option (Body O A)) → LevelFits d → (at : Setting) (frame : Frame) (e f : Expr) → is_ref at e ≡ true → is_fit at sort.Int f ≡ true → (x : Tx O A) → IsTyped x → FitsFrame x.now.bones at frame
      → Ends x.now.bones (Any (Unit {0})) (deactivates past d e f frame x)
  unfolding deactivates
  deactivates_ends d level at frame e f is int x h fits =
      let of = ref_sort at e is in
      ends_then x.now.bones (IsOf of.0) (Any (Unit {0})) (reference e frame x) (reference_ends at frame e of.0 of.1 of.2 x h fits) (λ r. evaluates f frame >>= λ v. touched r v) (λ r y h1 g1 is1.
      ends_then y.now.bones (λ b v. Fits b (Some sort.Int) v) (Any (Unit {0})) (evaluates f frame y) (fitting_ends at frame f sort.Int int y h1 (frame_follows x.now.bones y.now.bones g1.follows at frame fits)) (λ v. touched r v) (λ v z h2 g2 is2.
      ends_then z.now.bones (Any (Unit {0})) (Any (Unit {0})) (touches past d r.object z) (touches_ends past d level r.object z h2) (λ u. stands r >> switches_off_numbered past r v) (λ u w h3 g3 is3.
      ends_then w.now.bones (λ b u. (r.object == 0) ≡ false) (Any (Unit {0})) (stands r w) (stands_ends r w h3) (λ u. switches_off_numbered past r v) (λ u t h4 g4 is4. off_numbered_ends r v t h4))))
    where
      touched : Ref → Value → Deed O A
      touched r v = touches past d r.object >> (stands r >> switches_off_numbered past r v)

  -- ---- `activate`

  on_named_ends : (c : Class) (r : Ref) (name : List ℕ) (t : TriggerDecl) (args : List Value) (x : Tx O A) → IsTyped x → IsKnown x.now.bones.classes c → IsAt c.name x.now.bones r
      → families.trigger_named (line_of (checked_classes x.now.bones.classes) c) name ≡ Some t → FitArgs t.params x.now.bones args → Ends x.now.bones (λ b v. Fits b (Some sort.Int) v) (switches_on_named past r name args x)
  unfolding switches_on_named
  on_named_ends c r name t args x h known at named given =
      found_ends x.now.bones Fine (object_at x.now.bones r.object) x h of_object (λ o there.
      found_ends x.now.bones Fine (trigger_named x.now.bones.classes o.class name) x h of_trigger (λ u e.
      let it : Inherits x.now.bones.classes o.class name t = h.sound.activated o.class c known (above c.name x.now.bones r at o there) name t named in
      let same : it.trigger ≡ u = found_same (trigger_named x.now.bones.classes o.class name) it.trigger u it.found e in
      let decl : t ≡ u.decl = sym it.same ∙ ap (λ (k : Trigger). k.decl) same in
      let sound : IsSoundTrigger x.now.bones.classes o.class u = all-find (IsSoundTrigger x.now.bones.classes o.class) (λ (k : Trigger). bytes_eq k.decl.name name) (triggers_of x.now.bones.classes o.class) (h.sound.triggers o.class) u e in
      ends_then x.now.bones IsBelow Fine (switches_on past r.object u args x)
      (switches_on_ends past r.object u args o x h (at_numbered x.now.bones r.object o there) sound (args_strict x.now.bones u.decl.params args sound.sorts (subst (λ (k : TriggerDecl). FitArgs k.params x.now.bones args) decl given)))
      (λ n. gives (value.Int (pos n))) (λ n y typed grows below. ends_done Fine (value.Int (pos n)) y typed (number_fits y.now.bones typed.now n below))))
    where
      Fine : Bones → Value → Type 0
      Fine b v = Fits b (Some sort.Int) v

      of_trigger : Trigger → Act O A Value
      of_trigger u = switches_on past r.object u args >>= λ n. gives (value.Int (pos n))

      of_object : Object → Act O A Value
      of_object o = finds (λ b. trigger_named b.classes o.class name) >>= of_trigger

  activates_ends : (d : Option (Body O A)) → LevelFits d → (at : Setting) (frame : Frame) (of : Expr) (name : List ℕ) (args : List Expr) (c : Class) (t : TriggerDecl) → receiver_class at (Some of) ≡ Some c
      → families.trigger_named (line_of at.classes c) name ≡ Some t → are_fit at t.params args ≡ true → (x : Tx O A) → IsTyped x → FitsFrame x.now.bones at frame → Ends x.now.bones (λ b v. Fits b (Some sort.Int) v) (activates past d of name args frame x)
  activates_ends d level at frame of name args c t class named are x h fits =
      ends_then x.now.bones (λ b r. IsKnown b.classes c × IsAt c.name b r) Fine (reference of frame x) (receiver_ends at frame (Some of) c class x h fits) (λ r. evaluates_all args frame >>= λ vs. touched r vs) (λ r y h1 g1 is1.
      let here = frame_follows x.now.bones y.now.bones g1.follows at frame fits in
      ends_then y.now.bones (FitArgs t.params) Fine (evaluates_all args frame y) (all_ends at frame t.params args are y h1 here) (λ vs. touched r vs) (λ vs z h2 g2 given.
      ends_then z.now.bones (Any (Unit {0})) Fine (touches past d r.object z) (touches_ends past d level r.object z h2) (λ u. stands r >> switches_on_named past r name vs) (λ u w h3 g3 is3.
      ends_then w.now.bones (λ b u. (r.object == 0) ≡ false) Fine (stands r w) (stands_ends r w h3) (λ u. switches_on_named past r name vs) (λ u q h4 g4 is4.
      let grows = grows_on z.now.bones w.now.bones q.now.bones g3 g4 in
      let all = grows_on y.now.bones z.now.bones q.now.bones g2 grows in
      on_named_ends c r name t vs q h4 (subst (λ cs. IsKnown cs c) (sym all.follows.classes) is1.0) (at_later c.name y.now.bones q.now.bones r all is1.1)
      (subst (λ cs. families.trigger_named (line_of cs c) name ≡ Some t) (here.classes ∙ ap checked_classes (sym all.follows.classes)) named) (args_later t.params vs z.now.bones q.now.bones grows given)))))
    where
      Fine : Bones → Value → Type 0
      Fine b v = Fits b (Some sort.Int) v

      touched : Ref → List Value → Act O A Value
      touched r vs = touches past d r.object >> (stands r >> switches_on_named past r name vs)

  -- ---- calls

  deeper_ends : (inner : Option (Inner O A)) → DeeperFits inner → (c : Class) (name : List ℕ) (m : Method) (r : Ref) (args : List Value) (x : Tx O A) → IsTyped x → IsKnown x.now.bones.classes c
      → families.method_named (line_of (checked_classes x.now.bones.classes) c) name ≡ Some m → IsAt c.name x.now.bones r → FitArgs m.params x.now.bones args → Ends x.now.bones (λ b v. Fits b (Some m.result) v) (calls_deeper past inner r name args x)
  deeper_ends None fits c name m r args x h known named at given = h
  deeper_ends (Some inner) fits c name m r args x h known named at given = inside_ends past inner fits c name m r args x h known named at given

  calls_ends : (inner : Option (Inner O A)) → DeeperFits inner → (at : Setting) (frame : Frame) (call : Call) (c : Class) (m : Method) → receiver_class at call.of ≡ Some c → families.method_named (line_of at.classes c) call.method ≡ Some m
      → are_fit at m.params call.args ≡ true → (x : Tx O A) → IsTyped x → FitsFrame x.now.bones at frame → Ends x.now.bones (λ b v. Fits b (Some m.result) v) (calls past inner call frame x)
  calls_ends inner deep at frame call c m class named are x h fits =
      ends_then x.now.bones (λ b r. IsKnown b.classes c × IsAt c.name b r) (λ b v. Fits b (Some m.result) v) (receiver call.of frame x) (receiver_ends at frame call.of c class x h fits) (λ r. evaluates_all call.args frame >>= λ vs. calls_deeper past inner r call.method vs) (λ r y h1 g1 is1.
      let here = frame_follows x.now.bones y.now.bones g1.follows at frame fits in
      ends_then y.now.bones (FitArgs m.params) (λ b v. Fits b (Some m.result) v) (evaluates_all call.args frame y) (all_ends at frame m.params call.args are y h1 here) (λ vs. calls_deeper past inner r call.method vs) (λ vs z h2 g2 given.
      deeper_ends inner deep c call.method m r vs z h2 (subst (λ cs. IsKnown cs c) (sym g2.follows.classes) is1.0)
      (subst (λ cs. families.method_named (line_of cs c) call.method ≡ Some m) (here.classes ∙ ap checked_classes (sym g2.follows.classes)) named) (at_later c.name y.now.bones z.now.bones r g2 is1.1) given))

  -- ---- right sides

  pub actions_fit : (inner : Option (Inner O A)) → DeeperFits inner → LevelFits (actions_of inner)
  actions_fit None deep = tt
  actions_fit (Some inner) deep = deep.body

  pub right_ends : (inner : Option (Inner O A)) → DeeperFits inner → (at : Setting) (frame : Frame) (r : Rhs) (s : Option Sort) → right_sort at r ≡ Some s → (x : Tx O A) → IsTyped x → FitsFrame x.now.bones at frame
      → Ends x.now.bones (λ b v. Fits b s v) (right past inner r frame x)
  unfolding right
  right_ends inner deep at frame (rhs.Plain e) s typed x h fits = evaluates_ends at frame e s typed x h fits
  right_ends inner deep at frame (rhs.Call call) s typed x h fits =
      let method = then_some (λ (m : Method). where_so (are_fit at m.params call.args) (Some (Some m.result))) (option_and_then (λ (d : Class). families.method_named (line_of at.classes d) call.method) (receiver_class at call.of)) s typed in
      let class = then_some (λ (d : Class). families.method_named (line_of at.classes d) call.method) (receiver_class at call.of) method.0 method.1 in
      let args = so_some (are_fit at method.0.params call.args) (Some (Some method.0.result)) s method.2 in
      ends_as x.now.bones (λ b v. Fits b (Some method.0.result) v) (λ b v. Fits b s v) (calls past inner call frame x) (calls_ends inner deep at frame call class.0 method.0 class.1 class.2 args.0 x h fits)
      (λ b v grows is. subst (λ t. Fits b t v) (same_some (Some method.0.result) s args.1) is)
  right_ends inner deep at frame (rhs.New class sets) s typed x h fits =
      let c = then_some (λ (c : Class). where_so (list_all (is_set at c) sets) (Some (Some (sort.Reference class)))) (families.class_named at.classes class) s typed in
      let are = so_some (list_all (is_set at c.0) sets) (Some (Some (sort.Reference class))) s c.2 in
      let name : c.0.name ≡ class = (h.sound.named class c.0 (subst (λ cs. families.class_named cs class ≡ Some c.0) fits.classes c.1)).1 in
      ends_as x.now.bones (λ b v. Fits b (Some (sort.Reference class)) v) (λ b v. Fits b s v) (creates past (actions_of inner) class sets frame x)
      (creates_ends (actions_of inner) (actions_fit inner deep) at frame class sets c.0 c.1 name are.0 x h fits) (λ b v grows is. subst (λ t. Fits b t v) (same_some (Some (sort.Reference class)) s are.1) is)
  right_ends inner deep at frame (rhs.NewVersion e) s typed x h fits =
      let so = so_some (is_ref at e) (sort_in e at) s typed in
      let of = ref_sort at e so.0 in
      let same : of.0 ≡ s = found_same (sort_in e at) of.0 s of.1 so.1 in
      copies_ends (actions_of inner) (actions_fit inner deep) at frame e s so.1 (subst (λ t. is_reference t ≡ true) same of.2) x h fits
  right_ends inner deep at frame (rhs.Activate of name args) s typed x h fits =
      let trigger = then_some (λ (t : TriggerDecl). where_so (are_fit at t.params args) (Some (Some sort.Int))) (option_and_then (λ (d : Class). families.trigger_named (line_of at.classes d) name) (receiver_class at (Some of))) s typed in
      let class = then_some (λ (d : Class). families.trigger_named (line_of at.classes d) name) (receiver_class at (Some of)) trigger.0 trigger.1 in
      let are = so_some (are_fit at trigger.0.params args) (Some (Some sort.Int)) s trigger.2 in
      ends_as x.now.bones (λ b v. Fits b (Some sort.Int) v) (λ b v. Fits b s v) (activates past (actions_of inner) of name args frame x)
      (activates_ends (actions_of inner) (actions_fit inner deep) at frame of name args class.0 trigger.0 class.1 class.2 are.0 x h fits) (λ b v grows is. subst (λ t. Fits b t v) (same_some (Some sort.Int) s are.1) is)
