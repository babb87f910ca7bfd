-- Calls, statements and levels of bodies come to the same.
use Rattle.std.proofs.Common.{ℕ, zero, suc, cond, List, [], ◌∷◌, map, Option, Some, None, sym, ap, subst}
use Rattle.std.specs.Prelude.{◌==◌, is_some, nat_lt, pos}
use Rattle.std.specs.Option.{option_and_then, unwrap_or}
use Rattle.ode_footprint_laws.proofs.Depends.{Anything, Depends, aborts_in, cond_in, does_in, done_in, each_in, finds_in, needs_in, next_in, reads_in, then_in, weaken_in, when_in}
use Rattle.ode_footprint_laws.proofs.DependsMaking.{derives_in, drops_in, makes_in, off_numbered_in, own_in, removes_in, spares_in, switches_on_in}
use Rattle.ode_footprint_laws.proofs.DependsPosting.{Level, posts_in, touches_in}
use Rattle.ode_footprint_laws.proofs.DependsReading.{agreed_live, all_in, class_in, evaluates_in, hard_in, holds_in, lives_in, object_in, prints_in, receiver_in, reference_in, sets_in, stands_in}
use Rattle.ode_footprint_laws.proofs.Grows.{ListAct, ListDeed, grown_self}
use Rattle.ode_footprint_laws.proofs.Meets.{Meets, Steady}
use Rattle.ode_footprint_laws.specs.Agreeing.{IsAmong}
use Rattle.ode_value.specs.declared.binding.Var.{Var}
use Rattle.ode_value.specs.declared.binding.Var.TheVariants as var
use Rattle.ode_value.specs.declared.event.Kind.TheVariants.{Create, Delete, NewVersion, DropVersion, Before, After}
use Rattle.ode_value.specs.declared.reason.Reason.TheVariants as reason
use Rattle.ode_value.specs.declared.statement.Call.{Call}
use Rattle.ode_value.specs.declared.statement.Expr.{Expr}
use Rattle.ode_value.specs.declared.statement.Rhs.{Rhs}
use Rattle.ode_value.specs.declared.statement.Rhs.TheVariants as rhs
use Rattle.ode_value.specs.declared.statement.Stmt.{Stmt, fold-roll-Stmt, roll-Stmt, map-Stmt, ind-Stmt}
use Rattle.ode_value.specs.declared.statement.Stmt.TheOpen as stmt
use Rattle.ode_value.specs.declared.value.Ref.{Ref}
use Rattle.ode_value.specs.declared.value.Value.{Value}
use Rattle.ode_value.specs.declared.value.Value.TheVariants as value
use Rattle.ode_value.specs.Acts.{◌>>=◌, ◌>>◌, gives, nothing, needs, does, finds, when, each, sees, prints, counts, with_statement}
use Rattle.ode_value.specs.Changes.{object, class_of, lives}
use Rattle.ode_value.specs.Classes.{Trigger, default_of, initial_triggers, method_named, null, trigger_named}
use Rattle.ode_value.specs.Constraints.{tests_hard}
use Rattle.ode_value.specs.Denoting.{denotes}
use Rattle.ode_value.specs.Evaluation.{Frame, no_frame, with_local}
use Rattle.ode_value.specs.Executing.{Doing, Flow, Goes, Gives, actions_of, commands, counted_doing, deeper, execute, executes, first_actions, follows, goes, in_turn, outermost, returned, right, sets}
use Rattle.ode_value.specs.Expressions.{evaluates, evaluates_all, evaluates_sets, holds, receiver, reference, stands, text_in}
use Rattle.ode_value.specs.Footprints.{Footprint}
use Rattle.ode_value.specs.Limits.{budget_limit, depth_limit}
use Rattle.ode_value.specs.Making.{derives, drops, makes, removes, sets_own, spares, switches_on}
use Rattle.ode_value.specs.Objects.{Histories, Starts}
use Rattle.ode_value.specs.Pasts.{lists}
use Rattle.ode_value.specs.Posting.{Body, posts, touches}
use Rattle.ode_value.specs.Statements.{Inner, activates, activates_initial, calls, calls_after, calls_behind, calls_deeper, calls_inside, copies, creates, deactivates, deletes, drops_version, first_value, generic, makes_named, switches_off_numbered, switches_on_named}
use Rattle.ode_value.specs.Texts.{said_line, value_line}
use Rattle.ode_value.specs.Versions.{version_of}
use Rattle.ode_value.specs.Worlds.{Object, class_named}

module _ {f : Footprint} (s : Steady f) where
  abbrev m : Meets f
  m = s.meets

  abbrev Plain : {X : Type 0} → ListAct X → Type 0
  Plain a = Depends m (Unit {0}) Anything a

  counts_in : {Pre : Type 0} → Depends m Pre Anything counts
  counts_in =
      next_in m (needs reason.Budget (λ x. nat_lt x.run budget_limit)) (does with_statement) (needs_in m reason.Budget (λ x. nat_lt x.run budget_limit) (λ k y x a. ap (λ run. nat_lt run budget_limit) a.run)) (λ k. k)
      (does_in m with_statement (λ x. grown_self x.footprint) (λ k y x h. s.statement y x h) (λ x reached. tt))

  -- two levels of bodies
  abbrev pub Inners : Option (Inner Histories Starts) → Type 0
  Inners None = Unit {0}
  Inners (Some inner) = ((body : List Stmt) (frame : Frame) → Plain (inner.body body frame)) × Level s inner.actions

  actions_in : (d : Option (Inner Histories Starts)) → Inners d → Level s (actions_of d)
  actions_in None inners = tt
  actions_in (Some inner) inners = inners.0

  -- ---- calls

  behind_in : (d : Option (Body Histories Starts)) → Level s d → (r : Ref) (name : List ℕ) (args : List Value) → Depends m (IsAmong r.object f.looked) Anything (calls_behind lists d r name args)
  unfolding calls_behind
  behind_in d level r name args =
      reads_in m (λ x. is_some (denotes x.now.bones r)) (λ still. when still (calls_after lists d r name args))
      (λ among y x a. ap (λ (o : Option Object). is_some (option_and_then (λ (p : Object). version_of r.version p.versions) (cond (r.object == 0) None o))) (agreed_live f y x a r.object among)) (λ still.
      when_in m still (calls_after lists d r name args)
      (next_in m (tests_hard r) (posts lists d r.object (After name) args) (hard_in m r) (λ k. k) (weaken_in m (posts_in s d level r.object (After name) args) (λ k. k.0))))

  inside_in : (inner : Inner Histories Starts) → Inners (Some inner) → (r : Ref) (name : List ℕ) (args : List Value) → Plain (calls_inside lists inner r name args)
  unfolding calls_inside
  inside_in inner inners r name args =
      next_in m (touches lists inner.actions r.object) _ (touches_in s inner.actions inners.1 r.object) (λ k. k)
      (next_in m (stands r) _ (stands_in m r) (λ k. k)
      (next_in m (posts lists inner.actions r.object (Before name) args) _ (posts_in s inner.actions inners.1 r.object (Before name) args) (λ k. k.1)
      (next_in m (lives r.object) _ (lives_in m r.object) (λ k. tt)
      (then_in m (class_of r.object) _ (class_in m r.object) (λ k. k.1) (λ class.
      then_in m (finds (λ b. method_named b.classes class name)) _ (finds_in m (λ b. method_named b.classes class name) (λ k y x a. ap (λ cs. method_named cs class name) a.now.classes)) (λ k. k) (λ method.
      then_in m (inner.body method.body (record { this = r; locals = args })) _ (inners.0 method.body (record { this = r; locals = args })) (λ k. tt) (λ v.
      next_in m (calls_behind lists inner.actions r name args) _ (behind_in inner.actions inners.1 r name args) (λ k. k.0.0.0.1)
      (done_in m (unwrap_or v (default_of method.result)) (λ k. tt)))))))))

  deeper_in : (d : Option (Inner Histories Starts)) → Inners d → (r : Ref) (name : List ℕ) (args : List Value) → Plain (calls_deeper lists d r name args)
  deeper_in None inners r name args = aborts_in m reason.Depth
  deeper_in (Some inner) inners r name args = inside_in inner inners r name args

  calls_in : (d : Option (Inner Histories Starts)) → Inners d → (c : Call) (frame : Frame) → Plain (calls lists d c frame)
  calls_in d inners c frame =
      then_in m (receiver c.of frame) _ (receiver_in m c.of frame) (λ k. k) (λ r.
      then_in m (evaluates_all c.args frame) _ (all_in m c.args frame) (λ k. k) (λ args.
      weaken_in m (deeper_in d inners r c.method args) (λ k. tt)))

  -- ---- what touches objects

  initial_in : (id : ℕ) (t : Trigger) → Depends m (IsAmong id f.looked) Anything (activates_initial lists id t)
  initial_in id t = then_in m (switches_on lists id t []) (λ _. nothing) (switches_on_in s id t []) (λ k. k) (λ n. done_in m tt (λ k. tt))

  makes_named_in : (name : List ℕ) (given : List (List ℕ × Expr)) (frame : Frame) → Depends m (Unit {0}) (λ id. IsAmong id f.looked) (makes_named lists name given frame)
  unfolding makes_named
  makes_named_in name given frame =
      then_in m (evaluates_sets given frame) _ (sets_in m given frame) (λ k. k) (λ values.
      then_in m (finds (λ b. class_named name b.classes)) _ (finds_in m (λ b. class_named name b.classes) (λ k y x a. ap (λ cs. class_named name cs) a.now.classes)) (λ k. k) (λ c.
      then_in m (makes lists c.number (map (first_value values) c.fields)) (λ id. sees (λ b. initial_triggers b.classes c.number) >>= activates_each id) (makes_in s c.number (map (first_value values) c.fields)) (λ k. k) (λ id.
      reads_in m (λ x. initial_triggers x.now.bones.classes c.number) (activates_each id) (λ k y x a. ap (λ cs. initial_triggers cs c.number) a.now.classes) (λ triggers.
      next_in m (each (activates_initial lists id) triggers) (gives id) (each_in m (activates_initial lists id) (initial_in id) triggers) (λ k. k.1) (done_in m id (λ k. k.0.1))))))
    where
      activates_each : ℕ → List Trigger → ListAct ℕ
      activates_each id triggers = each (activates_initial lists id) triggers >> gives id

  creates_in : (d : Option (Body Histories Starts)) → Level s d → (name : List ℕ) (given : List (List ℕ × Expr)) (frame : Frame) → Plain (creates lists d name given frame)
  unfolding creates
  creates_in d level name given frame =
      then_in m (makes_named lists name given frame) _ (makes_named_in name given frame) (λ k. k) (λ id.
      next_in m (tests_hard (generic id)) _ (hard_in m (generic id)) (λ k. k.1)
      (next_in m (posts lists d id Create []) _ (posts_in s d level id Create []) (λ k. k.0.1)
      (done_in m (value.Reference (generic id)) (λ k. tt))))

  copies_in : (d : Option (Body Histories Starts)) → Level s d → (of : Expr) (frame : Frame) → Plain (copies lists d of frame)
  unfolding copies
  copies_in d level of frame =
      then_in m (reference of frame) _ (reference_in m of frame) (λ k. k) (λ r.
      next_in m (touches lists d r.object) _ (touches_in s d level r.object) (λ k. k)
      (then_in m (derives r) _ (derives_in s r) (λ k. k.1) (λ new.
      next_in m (posts lists d r.object NewVersion []) _ (posts_in s d level r.object NewVersion []) (λ k. k.0.1)
      (done_in m (value.Reference new) (λ k. tt)))))

  deletes_in : (d : Option (Body Histories Starts)) → Level s d → (of : Expr) (frame : Frame) → Plain (deletes lists d of frame)
  unfolding deletes
  deletes_in d level of frame =
      then_in m (reference of frame) _ (reference_in m of frame) (λ k. k) (λ r.
      next_in m (touches lists d r.object) _ (touches_in s d level r.object) (λ k. k)
      (next_in m (stands r) _ (stands_in m r) (λ k. k)
      (next_in m (posts lists d r.object Delete []) _ (posts_in s d level r.object Delete []) (λ k. k.1)
      (next_in m (lives r.object) (removes r.object) (lives_in m r.object) (λ k. tt) (weaken_in m (removes_in s r.object) (λ k. k.1))))))

  drops_version_in : (d : Option (Body Histories Starts)) → Level s d → (of : Expr) (frame : Frame) → Plain (drops_version lists d of frame)
  unfolding drops_version
  drops_version_in d level of frame =
      then_in m (reference of frame) _ (reference_in m of frame) (λ k. k) (λ r.
      next_in m (touches lists d r.object) _ (touches_in s d level r.object) (λ k. k)
      (then_in m (spares r) _ (spares_in s r) (λ k. k.1) (λ v.
      next_in m (posts lists d r.object DropVersion []) (drops v) (posts_in s d level r.object DropVersion []) (λ k. k.0.1)
      (weaken_in m (drops_in s v) (λ k. subst (λ n. IsAmong n f.looked) (sym k.0.1) k.0.0.1)))))

  named_in : (r : Ref) (name : List ℕ) (args : List Value) → Depends m (IsAmong r.object f.looked) Anything (switches_on_named lists r name args)
  unfolding switches_on_named
  named_in r name args =
      then_in m (object r.object) _ (object_in m r.object) (λ k. k) (λ o.
      then_in m (finds (λ b. trigger_named b.classes o.class name)) _ (finds_in m (λ b. trigger_named b.classes o.class name) (λ k y x a. ap (λ cs. trigger_named cs o.class name) a.now.classes)) (λ k. k) (λ t.
      then_in m (switches_on lists r.object t args) (λ number. gives (value.Int (pos number))) (switches_on_in s r.object t args) (λ k. k.0.0) (λ number. done_in m (value.Int (pos number)) (λ k. tt))))

  activates_in : (d : Option (Body Histories Starts)) → Level s d → (of : Expr) (trigger : List ℕ) (args : List Expr) (frame : Frame) → Plain (activates lists d of trigger args frame)
  activates_in d level of trigger args frame =
      then_in m (reference of frame) _ (reference_in m of frame) (λ k. k) (λ r.
      then_in m (evaluates_all args frame) _ (all_in m args frame) (λ k. k) (λ vs.
      next_in m (touches lists d r.object) _ (touches_in s d level r.object) (λ k. k)
      (next_in m (stands r) (switches_on_named lists r trigger vs) (stands_in m r) (λ k. k) (weaken_in m (named_in r trigger vs) (λ k. k.1)))))

  deactivates_in : (d : Option (Body Histories Starts)) → Level s d → (of number : Expr) (frame : Frame) → Plain (deactivates lists d of number frame)
  unfolding deactivates
  deactivates_in d level of number frame =
      then_in m (reference of frame) _ (reference_in m of frame) (λ k. k) (λ r.
      then_in m (evaluates number frame) _ (evaluates_in m number frame) (λ k. k) (λ v.
      next_in m (touches lists d r.object) _ (touches_in s d level r.object) (λ k. k)
      (next_in m (stands r) (switches_off_numbered lists r v) (stands_in m r) (λ k. k) (weaken_in m (off_numbered_in s r v) (λ k. k.1)))))

  -- ---- statements

  -- what a statement does, with whatever frame
  abbrev Does : Doing Histories Starts → Type 0
  Does g = (frame : Frame) → Plain (g frame)

  follows_in : (g : Doing Histories Starts) → Does g → (flow : Flow) → Plain (follows g flow)
  follows_in g are (Goes frame) = are frame
  follows_in g are (Gives v) = done_in m (Gives v) (λ k. tt)

  goes_in : (a : ListDeed) → Plain a → Does (goes a)
  goes_in a are frame = next_in m a (gives (Goes frame)) are (λ k. k) (done_in m (Goes frame) (λ k. tt))

  var_in : (v : Var) (w : Value) (frame : Frame) → Plain (sets v w frame)
  var_in (var.Local place) w frame = done_in m (Goes (with_local place w frame)) (λ k. tt)
  var_in (var.Own place) w frame = goes_in (sets_own frame.this place w) (own_in s frame.this place w) frame
  var_in (var.Name name) w frame = done_in m (Goes frame) (λ k. tt)

  module _ (d : Option (Inner Histories Starts)) (inners : Inners d) where
    level : Level s (actions_of d)
    level = actions_in d inners

    right_in : (r : Rhs) (frame : Frame) → Plain (right lists d r frame)
    unfolding right
    right_in (rhs.Plain x) frame = evaluates_in m x frame
    right_in (rhs.Call c) frame = calls_in d inners c frame
    right_in (rhs.New class given) frame = creates_in (actions_of d) level class given frame
    right_in (rhs.NewVersion x) frame = copies_in (actions_of d) level x frame
    right_in (rhs.Activate of trigger args) frame = activates_in (actions_of d) level of trigger args frame

    abbrev Claim : Stmt → Type 0
    Claim t = Does (execute lists d t)

    abbrev Executed : stmt.Stmt-F Stmt → Type 0
    Executed t = Does (counted_doing lists d (map-Stmt Stmt (Doing Histories Starts) (execute lists d) t))

    counted : (g : Doing Histories Starts) → Does g → Does (λ frame. counts >> g frame)
    counted g are frame = next_in m counts (g frame) counts_in (λ k. k) (weaken_in m (are frame) (λ k. tt))

    via : (t : stmt.Stmt-F Stmt) → Executed t → Claim (roll-Stmt t)
    unfolding execute
    via t are frame = subst (λ g. Plain (g frame)) (sym (fold-roll-Stmt (Doing Histories Starts) (counted_doing lists d) t)) (are frame)

    turns_in : (ts : List ((t : Stmt) × Claim t)) → Does (in_turn (map (execute lists d) (map (λ p. p.0) ts)))
    turns_in [] frame = done_in m (Goes frame) (λ k. tt)
    turns_in (t ∷ ts) frame = then_in m (execute lists d t.0 frame) _ (t.1 frame) (λ k. k) (λ flow. weaken_in m (follows_in _ (turns_in ts) flow) (λ k. tt))

    -- what follows from a value
    valued_in : {X : Type 0} (a : ListAct Value) (h : Value → ListAct X) → Plain a → ((v : Value) → Plain (h v)) → Plain (a >>= h)
    valued_in a h first rest = then_in m a h first (λ k. k) (λ v. weaken_in m (rest v) (λ k. tt))

    parts : (t : stmt.Stmt-F ((u : Stmt) × Claim u)) → Claim (roll-Stmt (map-Stmt ((u : Stmt) × Claim u) Stmt (λ p. p.0) t))
    parts (stmt.Let v r) = via (stmt.Let v r) (counted _ (λ frame. valued_in (right lists d r frame) _ (right_in r frame) (λ w. var_in v w frame)))
    parts (stmt.Set v r) = via (stmt.Set v r) (counted _ (λ frame. valued_in (right lists d r frame) _ (right_in r frame) (λ w. var_in v w frame)))
    parts (stmt.Do r) = via (stmt.Do r) (counted _ (λ frame. valued_in (right lists d r frame) _ (right_in r frame) (λ w. done_in m (Goes frame) (λ k. tt))))
    parts (stmt.If test first second) =
        via (stmt.If test (map (λ p. p.0) first) (map (λ p. p.0) second)) (counted _ (λ frame.
        then_in m (holds test frame) _ (holds_in m test frame) (λ k. k) (λ b. weaken_in m (cond_in m b _ _ (turns_in first frame) (turns_in second frame)) (λ k. tt))))
    parts (stmt.Return (Some x)) = via (stmt.Return (Some x)) (counted _ (λ frame. valued_in (evaluates x frame) _ (evaluates_in m x frame) (λ v. done_in m (Gives v) (λ k. tt))))
    parts (stmt.Return None) = via (stmt.Return None) (counted _ (λ frame. done_in m (Gives null) (λ k. tt)))
    parts (stmt.Delete x) = via (stmt.Delete x) (counted _ (λ frame. goes_in _ (deletes_in (actions_of d) level x frame) frame))
    parts (stmt.DropVersion x) = via (stmt.DropVersion x) (counted _ (λ frame. goes_in _ (drops_version_in (actions_of d) level x frame) frame))
    parts (stmt.Deactivate of x) = via (stmt.Deactivate of x) (counted _ (λ frame. goes_in _ (deactivates_in (actions_of d) level of x frame) frame))
    parts (stmt.Show r) = via (stmt.Show r) (counted _ (λ frame. valued_in (right lists d r frame) _ (right_in r frame) (λ w. goes_in (prints (value_line w)) (prints_in m (value_line w)) frame)))
    parts (stmt.Say x) = via (stmt.Say x) (counted _ (λ frame. valued_in (evaluates x frame) _ (evaluates_in m x frame) (λ v. goes_in (prints (said_line (text_in v))) (prints_in m (said_line (text_in v))) frame)))
    parts stmt.TAbort = via stmt.TAbort (counted _ (λ frame. aborts_in m reason.Asked))

    pub execute_in : (t : Stmt) → Claim t
    execute_in = ind-Stmt Claim (λ x y is. subst (λ t. Claim (roll-Stmt t)) is (parts y))

    body_in : (body : List Stmt) → Does (in_turn (map (execute lists d) body))
    body_in [] frame = done_in m (Goes frame) (λ k. tt)
    body_in (t ∷ ts) frame = then_in m (execute lists d t frame) _ (execute_in t frame) (λ k. k) (λ flow. weaken_in m (follows_in _ (body_in ts) flow) (λ k. tt))

    executes_in : (body : List Stmt) (frame : Frame) → Plain (executes lists d body frame)
    unfolding executes
    executes_in body frame = then_in m (in_turn (map (execute lists d) body) frame) _ (body_in body frame) (λ k. k) (λ flow. done_in m (returned flow) (λ k. tt))

  -- ---- levels

  levels_in : (left : ℕ) → Inners (deeper lists left)
  unfolding deeper
  levels_in zero = tt
  levels_in (suc left) = (executes_in (deeper lists left) (levels_in left), actions_in (deeper lists left) (levels_in left))

  pub outermost_in : Inners (outermost lists)
  unfolding outermost
  outermost_in = levels_in depth_limit

  pub first_in : Level s (first_actions lists)
  first_in = actions_in (outermost lists) outermost_in

  -- a script's own statement
  pub commands_in : (t : Stmt) → Plain (commands lists t)
  commands_in t = then_in m (execute lists (outermost lists) t no_frame) _ (execute_in (outermost lists) outermost_in t no_frame) (λ k. k) (λ flow. done_in m tt (λ k. tt))
