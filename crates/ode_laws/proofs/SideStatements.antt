-- Two machines side by side: calls, statements and levels of bodies.
use Rattle.std.proofs.Common.{◌≡◌, ℕ, zero, suc, List, [], ◌∷◌, map, Option, Some, None, sym, ap, ◌∙◌, subst}
use Rattle.std.specs.Prelude.{is_some, pos}
use Rattle.std.specs.List.{find}
use Rattle.std.specs.Option.{unwrap_or}
use Rattle.std.specs.Str.{bytes_eq}
use Rattle.ode_value.specs.declared.binding.Var.{Var}
use Rattle.ode_value.specs.declared.binding.Var.TheVariants as var
use Rattle.ode_value.specs.declared.class.Class.{Class}
use Rattle.ode_value.specs.declared.event.Kind.TheVariants.{Create, Delete, NewVersion, DropVersion, Before, After}
use Rattle.ode_value.specs.declared.reason.Reason.TheVariants.{Depth, Asked}
use Rattle.ode_value.specs.declared.statement.Call.{Call}
use Rattle.ode_value.specs.declared.statement.Expr.{Expr}
use Rattle.ode_value.specs.declared.statement.Rhs.{Rhs}
use Rattle.ode_value.specs.declared.statement.Rhs.TheVariants as rhs
use Rattle.ode_value.specs.declared.statement.Stmt.{Stmt, fold-roll-Stmt, roll-Stmt, map-Stmt, ind-Stmt}
use Rattle.ode_value.specs.declared.statement.Stmt.TheOpen as stmt
use Rattle.ode_value.specs.declared.value.Ref.{Ref}
use Rattle.ode_value.specs.declared.value.Value.{Value}
use Rattle.ode_value.specs.declared.value.Value.TheVariants as value
use Rattle.ode_value.specs.Acts.{Deed, ◌>>=◌, ◌>>◌, gives, nothing, finds, when, each, sees, prints, counts}
use Rattle.ode_value.specs.Changes.{object, class_of, lives}
use Rattle.ode_value.specs.Classes.{Trigger, triggers_of, initial_triggers, trigger_named, method_named, default_of, null}
use Rattle.ode_value.specs.Constraints.{tests_hard}
use Rattle.ode_value.specs.Denoting.{denotes}
use Rattle.ode_value.specs.Evaluation.{Frame, no_frame, with_local}
use Rattle.ode_value.specs.Executing.{Flow, Goes, Gives, returned, Doing, actions_of, goes, follows, in_turn, sets, right, counted_doing, execute, executes, deeper, outermost, first_actions, commands}
use Rattle.ode_value.specs.Expressions.{evaluates, evaluates_all, evaluates_sets, holds, stands, reference, receiver, text_in}
use Rattle.ode_value.specs.Limits.{depth_limit}
use Rattle.ode_value.specs.Making.{makes, derives, spares, switches_on, sets_own}
use Rattle.ode_value.specs.Objects.{Activation}
use Rattle.ode_value.specs.Posting.{Body, posts, touches}
use Rattle.ode_value.specs.Statements.{Inner, first_value, is_on, generic, calls_after, calls_behind, calls_inside, calls_deeper, calls, activates_initial, makes_named, creates, copies, deletes, drops_version, switches_on_named, activates, switches_off_found, switches_off_numbered, deactivates}
use Rattle.ode_value.specs.Texts.{value_line, said_line}
use Rattle.ode_value.specs.Worlds.{Declared, Object, class_named}
use Rattle.ode_laws.proofs.Each.{all-filter, all-find}
use Rattle.ode_laws.proofs.Sides.{Sides}
use Rattle.ode_laws.proofs.SideActs.{Ends, Alike, then_alike, next_alike, less_alike, done_alike, aborts_alike, sees_alike, finds_alike, finds_ends, cond_alike, when_alike, each_alike, prints_alike, counts_alike, object_alike, class_alike, lives_alike, evaluates_alike, holds_alike, all_alike, sets_alike, stands_alike, reference_alike, receiver_alike, hard_alike}
use Rattle.ode_laws.proofs.SidePosting.{own_alike, derives_alike, spares_alike, drops_alike, removes_alike, switches_off_alike, makes_alike, switches_on_alike, Levels, posts_alike, touches_alike}

module _ {O A P B : Type 0} (s : Sides O A P B) where
  -- two levels of bodies
  abbrev pub Inners : Option (Inner O A) → Option (Inner P B) → Type 0
  Inners None None = Unit {0}
  Inners (Some f) (Some g) = ((n : ℕ) (body : List Stmt) (frame : Frame) → Alike s n n (f.body body frame) (g.body body frame)) × Levels s f.actions g.actions
  Inners None (Some g) = ⊥
  Inners (Some f) None = ⊥

  pub actions_alike : (d : Option (Inner O A)) (e : Option (Inner P B)) → Inners d e → Levels s (actions_of d) (actions_of e)
  actions_alike None None inners = tt
  actions_alike (Some f) (Some g) inners = inners.0
  actions_alike None (Some g) inners = absurd inners
  actions_alike (Some f) None inners = absurd inners

  -- ---- calls

  behind_alike : (n : ℕ) (d : Option (Body O A)) (e : Option (Body P B)) → Levels s d e → (r : Ref) (name : List ℕ) (args : List Value)
      → Alike s n n (calls_behind s.past d r name args) (calls_behind s.other e r name args)
  unfolding calls_behind
  behind_alike n d e levels r name args =
      sees_alike s n n (λ b. is_some (denotes b r)) (λ still. when still (calls_after s.past d r name args)) (λ still. when still (calls_after s.other e r name args)) (λ still.
      when_alike s n still (calls_after s.past d r name args) (calls_after s.other e r name args)
      (next_alike s n n n (tests_hard r) (tests_hard r) (hard_alike s n r) (posts s.past d r.object (After name) args) (posts s.other e r.object (After name) args) (posts_alike s n d e levels r.object (After name) args)))

  inside_alike : (n : ℕ) (f : Inner O A) (g : Inner P B) → Inners (Some f) (Some g) → (r : Ref) (name : List ℕ) (args : List Value)
      → Alike s (suc n) n (calls_inside s.past f r name args) (calls_inside s.other g r name args)
  unfolding calls_inside
  inside_alike n f g inners r name args =
      next_alike s (suc n) n n (touches s.past f.actions r.object) (touches s.other g.actions r.object) (touches_alike s n f.actions g.actions inners.1 r.object) _ _
      (next_alike s n n n (stands r) (stands r) (stands_alike s n r) _ _
      (next_alike s n n n (posts s.past f.actions r.object (Before name) args) (posts s.other g.actions r.object (Before name) args) (posts_alike s n f.actions g.actions inners.1 r.object (Before name) args) _ _
      (next_alike s n n n (lives r.object) (lives r.object) (lives_alike s n r.object) _ _
      (then_alike s n n n (class_of r.object) (class_of r.object) (class_alike s n r.object) _ _ (λ class.
      finds_alike s n n (λ b. method_named b.classes class name) _ _ (λ m.
      then_alike s n n n (f.body m.body (record { this = r; locals = args })) (g.body m.body (record { this = r; locals = args })) (inners.0 n m.body (record { this = r; locals = args })) _ _ (λ v.
      next_alike s n n n (calls_behind s.past f.actions r name args) (calls_behind s.other g.actions r name args) (behind_alike n f.actions g.actions inners.1 r name args) _ _
      (done_alike s n (unwrap_or v (default_of m.result))))))))))

  deeper_alike : (n : ℕ) (d : Option (Inner O A)) (e : Option (Inner P B)) → Inners d e → (r : Ref) (name : List ℕ) (args : List Value)
      → Alike s (suc n) n (calls_deeper s.past d r name args) (calls_deeper s.other e r name args)
  deeper_alike n None None inners r name args = aborts_alike s Value (suc n) n Depth
  deeper_alike n (Some f) (Some g) inners r name args = inside_alike n f g inners r name args
  deeper_alike n None (Some g) inners r name args = absurd inners
  deeper_alike n (Some f) None inners r name args = absurd inners

  calls_alike : (n : ℕ) (d : Option (Inner O A)) (e : Option (Inner P B)) → Inners d e → (c : Call) (frame : Frame) → Alike s (suc n) n (calls s.past d c frame) (calls s.other e c frame)
  calls_alike n d e inners c frame =
      then_alike s (suc n) (suc n) n (receiver c.of frame) (receiver c.of frame) (receiver_alike s (suc n) c.of frame) _ _ (λ r.
      then_alike s (suc n) (suc n) n (evaluates_all c.args frame) (evaluates_all c.args frame) (all_alike s (suc n) c.args frame) _ _ (λ args.
      deeper_alike n d e inners r c.method args))

  -- ---- what touches objects

  initial_alike : (n id : ℕ) (t : Trigger) → s.Known t → Alike s n n (activates_initial s.past id t) (activates_initial s.other id t)
  initial_alike n id t known =
      then_alike s n n n (switches_on s.past id t []) (switches_on s.other id t []) (switches_on_alike s n id t [] known) (λ _. nothing) (λ _. nothing) (λ _. done_alike s n tt)

  makes_named_alike : (n : ℕ) (name : List ℕ) (given : List (List ℕ × Expr)) (frame : Frame) → Alike s (suc n) n (makes_named s.past name given frame) (makes_named s.other name given frame)
  unfolding makes_named
  makes_named_alike n name given frame =
      then_alike s (suc n) (suc n) n (evaluates_sets given frame) (evaluates_sets given frame) (sets_alike s (suc n) given frame) _ _ (λ values.
      finds_alike s (suc n) n (λ b. class_named name b.classes) _ _ (λ c.
      then_alike s (suc n) n n (makes s.past c.number (map (first_value values) c.fields)) (makes s.other c.number (map (first_value values) c.fields)) (makes_alike s n c.number (map (first_value values) c.fields)) _ _ (λ id.
      activates_each c id)))
    where
      activates_each : (c : Class) (id : ℕ)
          → Alike s n n (sees (λ b. initial_triggers b.classes c.number) >>= λ triggers. each (activates_initial s.past id) triggers >> gives id)
          (sees (λ b. initial_triggers b.classes c.number) >>= λ triggers. each (activates_initial s.other id) triggers >> gives id)
      activates_each c id y x r =
          sees_known (y.now.bones.classes) (x.now.bones.classes) (ap (λ b. b.classes) (s.same n y x r).bones ∙ (s.same n y x r).classes) (s.same n y x r).classes
        where
          sees_known : (cs ds : List Declared) → cs ≡ s.classes → ds ≡ s.classes
              → Ends s n ((each (activates_initial s.past id) (initial_triggers cs c.number) >> gives id) y) ((each (activates_initial s.other id) (initial_triggers ds c.number) >> gives id) x)
          sees_known cs ds e f =
              subst (λ l. Ends s n ((each (activates_initial s.past id) (initial_triggers l c.number) >> gives id) y) ((each (activates_initial s.other id) (initial_triggers ds c.number) >> gives id) x)) (sym e)
              (subst (λ l. Ends s n ((each (activates_initial s.past id) (initial_triggers s.classes c.number) >> gives id) y) ((each (activates_initial s.other id) (initial_triggers l c.number) >> gives id) x)) (sym f)
              (next_alike s n n n (each (activates_initial s.past id) (initial_triggers s.classes c.number)) (each (activates_initial s.other id) (initial_triggers s.classes c.number))
              (each_alike s s.Known n (activates_initial s.past id) (activates_initial s.other id) (initial_alike n id) (initial_triggers s.classes c.number) (all-filter s.Known (λ (t : Trigger). t.decl.initial) (triggers_of s.classes c.number) (s.knows c.number)))
              (gives id) (gives id) (done_alike s n id) y x r))

  creates_alike : (n : ℕ) (d : Option (Body O A)) (e : Option (Body P B)) → Levels s d e → (name : List ℕ) (given : List (List ℕ × Expr)) (frame : Frame)
      → Alike s (suc n) n (creates s.past d name given frame) (creates s.other e name given frame)
  unfolding creates
  creates_alike n d e levels name given frame =
      then_alike s (suc n) n n (makes_named s.past name given frame) (makes_named s.other name given frame) (makes_named_alike n name given frame) _ _ (λ id.
      next_alike s n n n (tests_hard (generic id)) (tests_hard (generic id)) (hard_alike s n (generic id)) _ _
      (next_alike s n n n (posts s.past d id Create []) (posts s.other e id Create []) (posts_alike s n d e levels id Create []) _ _
      (done_alike s n (value.Reference (generic id)))))

  copies_alike : (n : ℕ) (d : Option (Body O A)) (e : Option (Body P B)) → Levels s d e → (of : Expr) (frame : Frame) → Alike s (suc n) n (copies s.past d of frame) (copies s.other e of frame)
  unfolding copies
  copies_alike n d e levels of frame =
      then_alike s (suc n) (suc n) n (reference of frame) (reference of frame) (reference_alike s (suc n) of frame) _ _ (λ r.
      next_alike s (suc n) n n (touches s.past d r.object) (touches s.other e r.object) (touches_alike s n d e levels r.object) _ _
      (then_alike s n n n (derives r) (derives r) (derives_alike s n r) _ _ (λ new.
      next_alike s n n n (posts s.past d r.object NewVersion []) (posts s.other e r.object NewVersion []) (posts_alike s n d e levels r.object NewVersion []) _ _
      (done_alike s n (value.Reference new)))))

  deletes_alike : (n : ℕ) (d : Option (Body O A)) (e : Option (Body P B)) → Levels s d e → (of : Expr) (frame : Frame) → Alike s (suc n) n (deletes s.past d of frame) (deletes s.other e of frame)
  unfolding deletes
  deletes_alike n d e levels of frame =
      then_alike s (suc n) (suc n) n (reference of frame) (reference of frame) (reference_alike s (suc n) of frame) _ _ (λ r.
      next_alike s (suc n) n n (touches s.past d r.object) (touches s.other e r.object) (touches_alike s n d e levels r.object) _ _
      (next_alike s n n n (stands r) (stands r) (stands_alike s n r) _ _
      (next_alike s n n n (posts s.past d r.object Delete []) (posts s.other e r.object Delete []) (posts_alike s n d e levels r.object Delete []) _ _
      (next_alike s n n n (lives r.object) (lives r.object) (lives_alike s n r.object) _ _ (removes_alike s n r.object)))))

  drops_version_alike : (n : ℕ) (d : Option (Body O A)) (e : Option (Body P B)) → Levels s d e → (of : Expr) (frame : Frame) → Alike s (suc n) n (drops_version s.past d of frame) (drops_version s.other e of frame)
  unfolding drops_version
  drops_version_alike n d e levels of frame =
      then_alike s (suc n) (suc n) n (reference of frame) (reference of frame) (reference_alike s (suc n) of frame) _ _ (λ r.
      next_alike s (suc n) n n (touches s.past d r.object) (touches s.other e r.object) (touches_alike s n d e levels r.object) _ _
      (then_alike s n n n (spares r) (spares r) (spares_alike s n r) _ _ (λ v.
      next_alike s n n n (posts s.past d r.object DropVersion []) (posts s.other e r.object DropVersion []) (posts_alike s n d e levels r.object DropVersion []) _ _ (drops_alike s n v))))

  named_alike : (n : ℕ) (r : Ref) (name : List ℕ) (args : List Value) → Alike s n n (switches_on_named s.past r name args) (switches_on_named s.other r name args)
  unfolding switches_on_named
  named_alike n r name args =
      then_alike s n n n (object r.object) (object r.object) (object_alike s n r.object) _ _ (λ o. known o)
    where
      known : (o : Object)
          → Alike s n n (finds (λ b. trigger_named b.classes o.class name) >>= λ t. switches_on s.past r.object t args >>= λ number. gives (value.Int (pos number)))
          (finds (λ b. trigger_named b.classes o.class name) >>= λ t. switches_on s.other r.object t args >>= λ number. gives (value.Int (pos number)))
      known o y x h =
          finds_ends s n n (λ b. trigger_named b.classes o.class name) _ _ y x h (λ t is.
          then_alike s n n n (switches_on s.past r.object t args) (switches_on s.other r.object t args)
          (switches_on_alike s n r.object t args (all-find s.Known (λ (t : Trigger). bytes_eq t.decl.name name) (triggers_of s.classes o.class) (s.knows o.class) t (ap (λ cs. trigger_named cs o.class name) (sym (s.same n y x h).classes) ∙ is))) (λ number. gives (value.Int (pos number))) (λ number. gives (value.Int (pos number))) (λ number. done_alike s n (value.Int (pos number))) y x h)

  activates_alike : (n : ℕ) (d : Option (Body O A)) (e : Option (Body P B)) → Levels s d e → (of : Expr) (trigger : List ℕ) (args : List Expr) (frame : Frame)
      → Alike s (suc n) n (activates s.past d of trigger args frame) (activates s.other e of trigger args frame)
  activates_alike n d e levels of trigger args frame =
      then_alike s (suc n) (suc n) n (reference of frame) (reference of frame) (reference_alike s (suc n) of frame) _ _ (λ r.
      then_alike s (suc n) (suc n) n (evaluates_all args frame) (evaluates_all args frame) (all_alike s (suc n) args frame) _ _ (λ vs.
      next_alike s (suc n) n n (touches s.past d r.object) (touches s.other e r.object) (touches_alike s n d e levels r.object) _ _
      (next_alike s n n n (stands r) (stands r) (stands_alike s n r) _ _ (named_alike n r trigger vs))))

  found_off_alike : (n id : ℕ) (a : Option Activation) → Alike s n n (switches_off_found s.past id a) (switches_off_found s.other id a)
  found_off_alike n id None = done_alike s n tt
  found_off_alike n id (Some a) = switches_off_alike s n id a

  off_numbered_alike : (n : ℕ) (r : Ref) (v : Value) → Alike s n n (switches_off_numbered s.past r v) (switches_off_numbered s.other r v)
  unfolding switches_off_numbered
  off_numbered_alike n r v =
      then_alike s n n n (object r.object) (object r.object) (object_alike s n r.object) _ _ (λ o. found_off_alike n r.object (find (is_on v) o.activations))

  deactivates_alike : (n : ℕ) (d : Option (Body O A)) (e : Option (Body P B)) → Levels s d e → (of number : Expr) (frame : Frame)
      → Alike s (suc n) n (deactivates s.past d of number frame) (deactivates s.other e of number frame)
  unfolding deactivates
  deactivates_alike n d e levels of number frame =
      then_alike s (suc n) (suc n) n (reference of frame) (reference of frame) (reference_alike s (suc n) of frame) _ _ (λ r.
      then_alike s (suc n) (suc n) n (evaluates number frame) (evaluates number frame) (evaluates_alike s (suc n) number frame) _ _ (λ v.
      next_alike s (suc n) n n (touches s.past d r.object) (touches s.other e r.object) (touches_alike s n d e levels r.object) _ _
      (next_alike s n n n (stands r) (stands r) (stands_alike s n r) _ _ (off_numbered_alike n r v))))

  -- ---- statements

  -- what two statements do, from whatever may still be touched on
  abbrev Doings : Doing O A → Doing P B → Type 0
  Doings f g = (n : ℕ) (frame : Frame) → Alike s n n (f frame) (g frame)

  follows_alike : (f : Doing O A) (g : Doing P B) → Doings f g → (n : ℕ) (flow : Flow) → Alike s n n (follows f flow) (follows g flow)
  follows_alike f g are n (Goes frame) = are n frame
  follows_alike f g are n (Gives v) = done_alike s n (Gives v)

  goes_alike : (n m : ℕ) (a : Deed O A) (b : Deed P B) → Alike s n m a b → (frame : Frame) → Alike s n m (goes a frame) (goes b frame)
  goes_alike n m a b are frame = next_alike s n m m a b are (gives (Goes frame)) (gives (Goes frame)) (done_alike s m (Goes frame))

  var_alike : (n : ℕ) (v : Var) (w : Value) (frame : Frame) → Alike s n n (sets v w frame) (sets v w frame)
  var_alike n (var.Local place) w frame = done_alike s n (Goes (with_local place w frame))
  var_alike n (var.Own place) w frame = goes_alike n n (sets_own frame.this place w) (sets_own frame.this place w) (own_alike s n frame.this place w) frame
  var_alike n (var.Name name) w frame = done_alike s n (Goes frame)

  module _ (d : Option (Inner O A)) (e : Option (Inner P B)) (inners : Inners d e) where
    levels : Levels s (actions_of d) (actions_of e)
    levels = actions_alike d e inners

    right_alike : (n : ℕ) (r : Rhs) (frame : Frame) → Alike s (suc n) n (right s.past d r frame) (right s.other e r frame)
    unfolding right
    right_alike n (rhs.Plain x) frame = less_alike s n n (evaluates x frame) (evaluates x frame) (evaluates_alike s n x frame)
    right_alike n (rhs.Call c) frame = calls_alike n d e inners c frame
    right_alike n (rhs.New class given) frame = creates_alike n (actions_of d) (actions_of e) levels class given frame
    right_alike n (rhs.NewVersion x) frame = copies_alike n (actions_of d) (actions_of e) levels x frame
    right_alike n (rhs.Activate of trigger args) frame = activates_alike n (actions_of d) (actions_of e) levels of trigger args frame

    abbrev Claim : Stmt → Type 0
    Claim t = Doings (execute s.past d t) (execute s.other e t)

    counted : (f : Doing O A) (g : Doing P B) → ((n : ℕ) (frame : Frame) → Alike s (suc n) n (f frame) (g frame)) → Doings (λ frame. counts >> f frame) (λ frame. counts >> g frame)
    counted f g are n frame = next_alike s n (suc n) n counts counts (counts_alike s n) (f frame) (g frame) (are n frame)

    via : (t : stmt.Stmt-F Stmt) → Doings (counted_doing s.past d (map-Stmt Stmt (Doing O A) (execute s.past d) t)) (counted_doing s.other e (map-Stmt Stmt (Doing P B) (execute s.other e) t)) → Claim (roll-Stmt t)
    unfolding execute
    via t are n frame y x r =
        subst (λ f. Ends s n (f frame y) (execute s.other e (roll-Stmt t) frame x)) (sym (fold-roll-Stmt (Doing O A) (counted_doing s.past d) t))
        (subst (λ f. Ends s n (counted_doing s.past d (map-Stmt Stmt (Doing O A) (execute s.past d) t) frame y) (f frame x)) (sym (fold-roll-Stmt (Doing P B) (counted_doing s.other e) t)) (are n frame y x r))

    turns_alike : (ts : List ((t : Stmt) × Claim t)) → Doings (in_turn (map (execute s.past d) (map (λ p. p.0) ts))) (in_turn (map (execute s.other e) (map (λ p. p.0) ts)))
    turns_alike [] n frame = done_alike s n (Goes frame)
    turns_alike (t ∷ ts) n frame =
        then_alike s n n n (execute s.past d t.0 frame) (execute s.other e t.0 frame) (t.1 n frame) _ _ (λ flow. follows_alike _ _ (turns_alike ts) n flow)

    parts : (t : stmt.Stmt-F ((u : Stmt) × Claim u)) → Claim (roll-Stmt (map-Stmt ((u : Stmt) × Claim u) Stmt (λ p. p.0) t))
    parts (stmt.Let v r) = via (stmt.Let v r) (counted _ _ (λ n frame. then_alike s (suc n) n n (right s.past d r frame) (right s.other e r frame) (right_alike n r frame) _ _ (λ w. var_alike n v w frame)))
    parts (stmt.Set v r) = via (stmt.Set v r) (counted _ _ (λ n frame. then_alike s (suc n) n n (right s.past d r frame) (right s.other e r frame) (right_alike n r frame) _ _ (λ w. var_alike n v w frame)))
    parts (stmt.Do r) = via (stmt.Do r) (counted _ _ (λ n frame. then_alike s (suc n) n n (right s.past d r frame) (right s.other e r frame) (right_alike n r frame) _ _ (λ w. done_alike s n (Goes frame))))
    parts (stmt.If test first second) =
        via (stmt.If test (map (λ p. p.0) first) (map (λ p. p.0) second)) (counted _ _ (λ n frame.
        then_alike s (suc n) n n (holds test frame) (holds test frame) (less_alike s n n (holds test frame) (holds test frame) (holds_alike s n test frame)) _ _ (λ b.
        cond_alike s n n b _ _ _ _ (turns_alike first n frame) (turns_alike second n frame))))
    parts (stmt.Return (Some x)) = via (stmt.Return (Some x)) (counted _ _ (λ n frame. then_alike s (suc n) n n (evaluates x frame) (evaluates x frame) (less_alike s n n (evaluates x frame) (evaluates x frame) (evaluates_alike s n x frame)) _ _ (λ v. done_alike s n (Gives v))))
    parts (stmt.Return None) = via (stmt.Return None) (counted _ _ (λ n frame. less_alike s n n (gives (Gives null)) (gives (Gives null)) (done_alike s n (Gives null))))
    parts (stmt.Delete x) = via (stmt.Delete x) (counted _ _ (λ n frame. goes_alike (suc n) n _ _ (deletes_alike n (actions_of d) (actions_of e) levels x frame) frame))
    parts (stmt.DropVersion x) = via (stmt.DropVersion x) (counted _ _ (λ n frame. goes_alike (suc n) n _ _ (drops_version_alike n (actions_of d) (actions_of e) levels x frame) frame))
    parts (stmt.Deactivate of x) = via (stmt.Deactivate of x) (counted _ _ (λ n frame. goes_alike (suc n) n _ _ (deactivates_alike n (actions_of d) (actions_of e) levels of x frame) frame))
    parts (stmt.Show r) = via (stmt.Show r) (counted _ _ (λ n frame. then_alike s (suc n) n n (right s.past d r frame) (right s.other e r frame) (right_alike n r frame) _ _ (λ w. goes_alike n n (prints (value_line w)) (prints (value_line w)) (prints_alike s n (value_line w)) frame)))
    parts (stmt.Say x) = via (stmt.Say x) (counted _ _ (λ n frame. then_alike s (suc n) n n (evaluates x frame) (evaluates x frame) (less_alike s n n (evaluates x frame) (evaluates x frame) (evaluates_alike s n x frame)) _ _ (λ v. goes_alike n n (prints (said_line (text_in v))) (prints (said_line (text_in v))) (prints_alike s n (said_line (text_in v))) frame)))
    parts stmt.TAbort = via stmt.TAbort (counted _ _ (λ n frame. aborts_alike s Flow (suc n) n Asked))

    pub execute_alike : (t : Stmt) → Claim t
    execute_alike = ind-Stmt Claim (λ x y is. subst (λ t. Claim (roll-Stmt t)) is (parts y))

    body_alike : (body : List Stmt) → Doings (in_turn (map (execute s.past d) body)) (in_turn (map (execute s.other e) body))
    body_alike [] n frame = done_alike s n (Goes frame)
    body_alike (t ∷ ts) n frame =
        then_alike s n n n (execute s.past d t frame) (execute s.other e t frame) (execute_alike t n frame) _ _ (λ flow. follows_alike _ _ (body_alike ts) n flow)

    pub executes_alike : (n : ℕ) (body : List Stmt) (frame : Frame) → Alike s n n (executes s.past d body frame) (executes s.other e body frame)
    unfolding executes
    executes_alike n body frame =
        then_alike s n n n (in_turn (map (execute s.past d) body) frame) (in_turn (map (execute s.other e) body) frame) (body_alike body n frame) _ _ (λ flow. done_alike s n (returned flow))

  -- ---- levels

  pub levels_alike : (left : ℕ) → Inners (deeper s.past left) (deeper s.other left)
  unfolding deeper
  levels_alike zero = tt
  levels_alike (suc left) =
      (executes_alike (deeper s.past left) (deeper s.other left) (levels_alike left), actions_alike (deeper s.past left) (deeper s.other left) (levels_alike left))

  pub outermost_alike : Inners (outermost s.past) (outermost s.other)
  unfolding outermost
  outermost_alike = levels_alike depth_limit

  pub first_alike : Levels s (first_actions s.past) (first_actions s.other)
  first_alike = actions_alike (outermost s.past) (outermost s.other) outermost_alike

  -- a script's own statement
  pub commands_alike : (n : ℕ) (t : Stmt) → Alike s n n (commands s.past t) (commands s.other t)
  commands_alike n t =
      then_alike s n n n (execute s.past (outermost s.past) t no_frame) (execute s.other (outermost s.other) t no_frame)
      (execute_alike (outermost s.past) (outermost s.other) outermost_alike t n no_frame) _ _ (λ _. done_alike s n tt)
