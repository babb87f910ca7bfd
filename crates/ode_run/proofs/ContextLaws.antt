-- A context that is lent to a transaction, and what comes back.
use Rattle.std.proofs.Common.{◌≡◌, ◌⊎◌, ◌-◌, ◌≤◌, ℕ, Bool, List, [], Result, Ok, Err, refl, sym, ap, subst, ◌∙◌, inl, inr, arith}
use Rattle.ode_heap_laws.specs.Few.{HoldsCounted}
use Rattle.ode_host.proofs.Moments.{looks_none}
use Rattle.ode_host.specs.Causes.{RoseIf}
use Rattle.ode_host.specs.Host.{Looks}
use Rattle.ode_host.specs.View.{View}
use Rattle.ode_interpreter.specs.Seen.{Ends, Leaves, with_classes}
use Rattle.ode_interpreter.specs.declared.stop.Stop.{Stop}
use Rattle.ode_interpreter.specs.declared.stop.Stop.TheVariants as stop
use Rattle.ode_keep.specs.Entries.{Entries}
use Rattle.ode_known_laws.specs.Knowing.{IsKnown, declared_in}
use Rattle.ode_laws.proofs.Alone.{Ended}
use Rattle.ode_laws.specs.Alike.{EndsAs, NumberTx, NumberWorld, RunAlike, RunsAs}
use Rattle.ode_overlay.specs.Layers.{Layer}
use Rattle.ode_overlay.specs.declared.origin.Origin.{Origin}
use Rattle.ode_overlay_laws.specs.Standing.{origin_as}
use Rattle.ode_run.proofs.EndLaws.{same_view}
use Rattle.ode_run.proofs.FirstLaws.{StaysFirst}
use Rattle.ode_run.specs.Contexts.{ContextRuns, EndsWhere, IsBeginning, IsContext, IsOpen, LeavesOpen, parts_of, tables_in, tables_of, tx_of, tx_over}
use Rattle.ode_run.specs.Knowing.{Fails, IsRunning, IsSound, Known, Knows, Lent, tx}
use Rattle.ode_run.specs.declared.context.Ctx.{Ctx}
use Rattle.ode_run.specs.declared.work.Work.{Work}
use Rattle.ode_schema.specs.Parts.{AreFit, Parts}
use Rattle.ode_states.specs.Machine.{checked}
use Rattle.ode_states.specs.declared.fired.Fired.{Fired}
use Rattle.ode_value.specs.Acts.{Act, Outcome, Done, Aborted}
use Rattle.ode_value.specs.Language.{Language, ListTx, ListWorld}
use Rattle.ode_value.specs.Limits.{budget_limit}
use Rattle.ode_value.specs.Objects.{Histories, Starts}
use Rattle.ode_value.specs.Tables.{Table}
use Rattle.ode_value.specs.Transactions.{begun}
use Rattle.ode_view_laws.specs.Viewing.{began_over, nothing_beside, running, world_now}

-- what is known at first
abbrev pub known_of : {H K : Type 0} → Work H K → Entries → NumberWorld → Known H
known_of w entries first = record {
  heap = w.heap.ghost_name;
  overlay = w.overlay.ghost_name;
  deferred = w.deferred.ghost_name;
  text = w.text.ghost_name;
  budget = w.budget.ghost_name;
  host = w.host.ghost_name;
  began = w.host.now;
  entries = entries;
  first = first;
}

-- where it ends with what it was lent, these are what comes back
pub record IsReturned {H K : Type 0} (w w' : Work H K) (q : K) (x : Layer) (ds : List (ℕ × Fired)) (bytes : List ℕ) (left : ℕ) (h : H) : Type 0 where
  pub heap : w.heap.ghost_name ≡ w'.heap.ghost_name → q ≡ w'.heap.now
  pub overlay : w.overlay.ghost_name ≡ w'.overlay.ghost_name → x ≡ w'.overlay.now
  pub deferred : w.deferred.ghost_name ≡ w'.deferred.ghost_name → ds ≡ w'.deferred.now
  pub text : w.text.ghost_name ≡ w'.text.ghost_name → bytes ≡ w'.text.now
  pub budget : w.budget.ghost_name ≡ w'.budget.ghost_name → left ≡ w'.budget.now
  pub host : w.host.ghost_name ≡ w'.host.ghost_name → h ≡ w'.host.now

-- what a call knows of its program and of the transaction
abbrev pub IsActing : {H K R : Type 0} → (H → View) → (K → View → Entries → Type 0) → (K → Bool) → Work H K → Work H K → Parts → Result R Stop → Act (Unit {0}) ℕ R → Type 0
IsActing {H} seen held live w w' p result act = (k : Known H) → checked k.first.bones.classes ≡ p.classes → Knows seen held live w p k
    → Ends result (with_classes k.first.bones.classes (tx k.first.bones.classes k w')) (act (with_classes k.first.bones.classes (tx k.first.bones.classes k w)))

abbrev pub IsKept : {H K R : Type 0} → (H → View) → (K → View → Entries → Type 0) → (K → Bool) → Work H K → Work H K → Parts → Result R Stop → Type 0
IsKept {H} seen held live w w' p result = (k : Known H) → Knows seen held live w p k → Leaves result (Knows seen held live w' p k) (Fails seen w' k)

module _ {H K : Type 0} (seen : H → View) (held : K → View → Entries → Type 0) (live : K → Bool) where
  abbrev Open : Work H K → Entries → NumberWorld → Type 0
  Open w entries first = IsOpen (held w.heap.now (seen w.host.now)) (live w.heap.now) w.overlay.now w.budget.now w.bytes entries first

  pub begins : (w : Work H K) (p : Parts) (entries : Entries) (first : NumberWorld) → p.classes ≡ declared_in first → Open w entries first → Knows seen held live w p (known_of w entries first)
  begins w p entries first classes state = record {
    lent = record { heap = refl; overlay = refl; deferred = refl; text = refl; budget = refl; host = refl };
    runs = record { usable = state.usable; records = state.records; looks = looks_none (seen w.host.now); faults = refl; known = state.known; budget = state.budget; bytes = state.bytes };
    classes = classes;
  }

  lent_left : {R : Type 0} (result : Result R Stop) (w' : Work H K) (p : Parts) (k : Known H) → Leaves result (Knows seen held live w' p k) (Fails seen w' k) → Lent k w'
  lent_left (Ok v) w' p k left = left.lent
  lent_left (Err (stop.Abort why)) w' p k left = left.lent
  lent_left (Err stop.Memory) w' p k left = left.lent
  lent_left (Err stop.DiskFault) w' p k left = left.lent
  lent_left (Err (stop.Damaged key)) w' p k left = left.lent

  -- ---- what an act of the transaction is of the context

  module _ (w w' : Work H K) (p : Parts) (q : K) (x : Layer) (deferred : List (ℕ × Fired)) (text : List ℕ) (left : ℕ) (h : H) (back : IsReturned w w' q x deferred text left h) where
    pub acts_over : {R : Type 0} (result : Result R Stop) (act : Act (Unit {0}) ℕ R) → IsActing seen held live w w' p result act → IsKept seen held live w w' p result
        → (entries : Entries) (first : NumberWorld) → p.classes ≡ declared_in first → Open w entries first
        → Ends result (tx_over first x deferred text left) (act (tx_over first w.overlay.now w.deferred.now w.text.now w.budget.now))
    unfolding world_now
    acts_over {R} result act acts kept entries first classes state =
        let k = known_of w entries first in
        let knows = begins w p entries first classes state in
        let lent = lent_left result w' p k (kept k knows) in
        let ends : Ends result (tx first.bones.classes k w') (act (tx first.bones.classes k w)) = acts k (sym classes) knows in
        subst (λ (y : NumberTx). Ends result y (act (tx first.bones.classes k w)))
        (same_view first.bones.classes first w'.overlay.now x w'.deferred.now deferred w'.text.now text w'.budget.now left
        (back.overlay (sym lent.overlay)) (back.deferred (sym lent.deferred)) (back.text (sym lent.text)) (back.budget (sym lent.budget))) ends

    -- what came back, in place of what was left
    module _ (entries : Entries) (first : NumberWorld) (lent : Lent (known_of w entries first) w') where
      abbrev Reopened : Type 0
      Reopened = IsOpen (held q (seen h)) (live q) x left w.bytes entries first

      reopened : IsOpen (held w'.heap.now (seen w'.host.now)) (live w'.heap.now) w'.overlay.now w'.budget.now w.bytes entries first → Reopened
      reopened state =
          subst (λ (c : ℕ). IsOpen (held q (seen h)) (live q) x c w.bytes entries first) (sym (back.budget (sym lent.budget)))
          (subst (λ (l : Layer). IsOpen (held q (seen h)) (live q) l w'.budget.now w.bytes entries first) (sym (back.overlay (sym lent.overlay)))
          (subst (λ (n : H). IsOpen (held q (seen n)) (live q) w'.overlay.now w'.budget.now w.bytes entries first) (sym (back.host (sym lent.host)))
          (subst (λ (m : K). IsOpen (held m (seen w'.host.now)) (live m) w'.overlay.now w'.budget.now w.bytes entries first) (sym (back.heap (sym lent.heap))) state)))

      looked : Looks (seen w.host.now) (seen w'.host.now) → Looks (seen w.host.now) (seen h)
      looked looks = subst (λ (n : H). Looks (seen w.host.now) (seen n)) (sym (back.host (sym lent.host))) looks

      rose : (failed : Type 0) → RoseIf failed (seen w.host.now).disk_faults (seen w'.host.now).disk_faults → RoseIf failed (seen w.host.now).disk_faults (seen h).disk_faults
      rose failed faults = subst (λ (n : H). RoseIf failed (seen w.host.now).disk_faults (seen n).disk_faults) (sym (back.host (sym lent.host))) faults

      -- where it goes on
      goes_on : {R : Type 0} (result : Result R Stop) → (result ≡ Err stop.DiskFault → ⊥) → Open w entries first → IsRunning seen held live w' (known_of w entries first)
          → (Reopened → Leaves result Reopened IsSound) → LeavesOpen result Reopened (seen w.host.now) (seen h)
      goes_on result other state runs stays = record {
        stays = stays (reopened (record { usable = runs.usable; records = runs.records; known = runs.known; budget = runs.budget; bytes = state.bytes }));
        looks = looked runs.looks;
        faults = rose (result ≡ Err stop.DiskFault) (record { later = runs.looks.keeps.disk_faults; rose = λ e. absurd (other e); calm = inr runs.faults });
      }

      -- where it doesn't
      ends_here : {R : Type 0} (result : Result R Stop) (why : Stop) → result ≡ Err why → Fails seen w' (known_of w entries first) why → Leaves result Reopened IsSound
          → LeavesOpen result Reopened (seen w.host.now) (seen h)
      ends_here result why is fails stays = record {
        stays = stays;
        looks = looked fails.failed.looks;
        faults = rose (result ≡ Err stop.DiskFault) (record {
          later = fails.failed.faults.later;
          rose = λ e. let both : why ≡ stop.DiskFault = cc in fails.failed.faults.rose both;
          calm = calm_too fails.failed.faults.calm;
        });
      } where
        calm_too : (why ≡ stop.DiskFault) ⊎ ((seen w'.host.now).disk_faults ≡ (seen w.host.now).disk_faults) → (result ≡ Err stop.DiskFault) ⊎ ((seen w'.host.now).disk_faults ≡ (seen w.host.now).disk_faults)
        calm_too (inl at_fault) = inl (subst (λ (s : Stop). result ≡ Err s) at_fault is)
        calm_too (inr same) = inr same

      leaves_by : {R : Type 0} (result : Result R Stop) → Open w entries first → Leaves result (Knows seen held live w' p (known_of w entries first)) (Fails seen w' (known_of w entries first))
          → LeavesOpen result Reopened (seen w.host.now) (seen h)
      leaves_by (Ok v) state left = goes_on (Ok v) (λ e. absurd (cc e)) state left.runs (λ s. s)
      leaves_by (Err (stop.Abort why)) state left = goes_on (Err (stop.Abort why)) (λ e. absurd (cc e)) state left.runs (λ s. s)
      leaves_by (Err stop.Memory) state left = goes_on (Err stop.Memory) (λ e. absurd (cc e)) state left.runs (λ s. s)
      leaves_by (Err stop.DiskFault) state left = ends_here (Err stop.DiskFault) stop.DiskFault refl left tt
      leaves_by (Err (stop.Damaged key)) state left = absurd left.failed.sound

    pub leaves_over : {R : Type 0} (result : Result R Stop) → IsKept seen held live w w' p result → (entries : Entries) (first : NumberWorld) → p.classes ≡ declared_in first → Open w entries first
        → LeavesOpen result (IsOpen (held q (seen h)) (live q) x left w.bytes entries first) (seen w.host.now) (seen h)
    leaves_over result kept entries first classes state =
        let k = known_of w entries first in
        let after = kept k (begins w p entries first classes state) in
        leaves_by entries first (lent_left result w' p k after) result state after

-- ---- over lists of points

ends_where : {R : Type 0} (tables : ℕ → ℕ → Table) (result : Result R Stop) (P Q : ListTx → Type 0) (y : NumberTx) (outcome : Outcome (Unit {0}) ℕ R) (lists : Outcome Histories Starts R)
    → Ends result y outcome → EndsAs tables outcome lists → Ended Q Q lists → Leaves result ((x : ListTx) → RunsAs tables y x → Q x → P x) IsSound → EndsWhere result P lists
ends_where {R} tables (Ok v) P Q y outcome lists ends alike keeps next = by_lists lists (subst (λ (o : Outcome (Unit {0}) ℕ R). EndsAs tables o lists) ends alike) keeps where
  by_lists : (lists : Outcome Histories Starts R) → EndsAs tables (Done v y) lists → Ended Q Q lists → EndsWhere (Ok v) P lists
  by_lists (Done answer x) alike keeps = (alike.0, next x alike.1 keeps)
  by_lists (Aborted reason x) alike keeps = alike
ends_where {R} tables (Err (stop.Abort why)) P Q y outcome lists ends alike keeps next = by_lists lists (subst (λ (o : Outcome (Unit {0}) ℕ R). EndsAs tables o lists) ends alike) keeps where
  by_lists : (lists : Outcome Histories Starts R) → EndsAs {R = R} tables (Aborted why y) lists → Ended Q Q lists → EndsWhere {R = R} (Err (stop.Abort why)) P lists
  by_lists (Done answer x) alike keeps = alike
  by_lists (Aborted reason x) alike keeps = (alike.0, next x alike.1 keeps)
ends_where tables (Err stop.Memory) P Q y outcome lists ends alike keeps next = tt
ends_where tables (Err stop.DiskFault) P Q y outcome lists ends alike keeps next = tt
ends_where tables (Err (stop.Damaged key)) P Q y outcome lists ends alike keeps next = tt

leaves_so : {R : Type 0} (result : Result R Stop) (A B : Type 0) → (A → B) → Leaves result A IsSound → Leaves result B IsSound
leaves_so (Ok v) A B so left = so left
leaves_so (Err (stop.Abort why)) A B so left = so left
leaves_so (Err stop.Memory) A B so left = so left
leaves_so (Err stop.DiskFault) A B so left = tt
leaves_so (Err (stop.Damaged key)) A B so left = left

module _ {H K : Type 0} (seen : H → View) (held : K → View → Entries → Type 0) (live : K → Bool) (entries : Entries) (first : NumberWorld) where
  -- with the same program the context stays one
  pub stays_context : {R : Type 0} (result : Result R Stop) (before : View) (ctx ctx' : Ctx K) (host host' : H) → IsContext seen held live entries first ctx host → ctx'.classes ≡ ctx.classes → ctx'.bytes ≡ ctx.bytes
      → LeavesOpen result (IsOpen (held ctx'.heap (seen host')) (live ctx'.heap) ctx'.overlay ctx'.budget ctx.bytes entries first) before (seen host')
      → LeavesOpen result (IsContext seen held live entries first ctx' host') before (seen host')
  stays_context result before ctx ctx' host host' context same bytes left = record {
    stays = leaves_so result (IsOpen (held ctx'.heap (seen host')) (live ctx'.heap) ctx'.overlay ctx'.budget ctx.bytes entries first) (IsContext seen held live entries first ctx' host') (λ state. record {
      state = subst (λ (n : ℕ). IsOpen (held ctx'.heap (seen host')) (live ctx'.heap) ctx'.overlay ctx'.budget n entries first) (sym bytes) state;
      classes = same ∙ context.classes;
    }) left.stays;
    looks = left.looks;
    faults = left.faults;
  }

module _ {H K : Type 0} (seen : H → View) (held : K → View → Entries → Type 0) (live : K → Bool) (l : Language) (w : ListWorld) where
  pub runs_on : {R : Type 0} (result : Result R Stop) (before : View) (ctx ctx' : Ctx K) (host host' : H) (x : ListTx) (act : Act (Unit {0}) ℕ R) (lists : Act Histories Starts R)
      (is : ContextRuns seen held live l w ctx host x) → RunAlike (tables_of ctx) act lists → StaysFirst x (lists x) → parts_of ctx' ≡ parts_of ctx
      → Ends result (tx_of is.world.world.stored.world ctx') (act (tx_of is.world.world.stored.world ctx))
      → LeavesOpen result (IsContext seen held live is.entries is.world.world.stored.world ctx' host') before (seen host')
      → EndsWhere result (ContextRuns seen held live l w ctx' host') (lists x)
  runs_on {R} result before ctx ctx' host host' x act lists is alike keeps same ends left =
      let first = is.world.world.stored.world in
      ends_where (tables_of ctx) result (ContextRuns seen held live l w ctx' host') (λ (z : ListTx). z.first ≡ x.first) (tx_of first ctx') (act (tx_of first ctx)) (lists x) ends (alike (tx_of first ctx) x is.runs) keeps
      (leaves_so result (IsContext seen held live is.entries first ctx' host')
      ((z : ListTx) → RunsAs (tables_of ctx) (tx_of first ctx') z → z.first ≡ x.first → ContextRuns seen held live l w ctx' host' z) (λ context z runs stays. record {
        entries = is.entries;
        world = is.world;
        context = context;
        tables = is.tables ∙ ap tables_in (sym same);
        fit = subst (λ (p : Parts). AreFit p) (sym same) is.fit;
        runs = subst (λ (p : Parts). RunsAs (tables_in p) (tx_of first ctx') z) (sym same) runs;
        first = stays ∙ is.first;
      }) left.stays)

-- where nothing was done
pub unchanged : {R : Type 0} (C : Type 0) (before : View) → C → LeavesOpen {R = R} (Err stop.Memory) C before before
unchanged C before context = record {
  stays = context;
  looks = looks_none before;
  faults = record { later = omega arith; rose = λ e. absurd (cc e); calm = inr refl };
}

-- ---- at the start

module _ {H K : Type 0} (seen : H → View) (held : K → View → Entries → Type 0) (live : K → Bool) (entries : Entries) (first : NumberWorld) (origin : Origin) (ctx : Ctx K) (host : H)
    (begins : IsBeginning seen held live entries first origin ctx host) where
  few : ctx.budget ≤ budget_limit
  few = let is : ctx.budget ≡ budget_limit = begins.budget in omega (arith, is)

  none : budget_limit - budget_limit ≡ 0
  none = omega arith

  pub begins_open : IsKnown entries first (began_over origin first) → IsContext seen held live entries first ctx host
  begins_open known = record {
    state = record {
      usable = begins.usable;
      records = begins.records;
      known = subst (IsKnown entries first) (sym begins.overlay) known;
      budget = few;
      bytes = begins.bytes;
    };
    classes = begins.classes;
  }

  pub begins_as : running first.bones.classes first (began_over origin first) nothing_beside ≡ begun (origin_as origin) first → tx_of first ctx ≡ begun (origin_as origin) first
  begins_as view =
      sym (same_view first.bones.classes first (began_over origin first) ctx.overlay [] ctx.deferred [] ctx.text budget_limit ctx.budget begins.overlay begins.deferred begins.text begins.budget)
      ∙ ap (λ (n : ℕ). running first.bones.classes first (began_over origin first) (record { deferred = []; text = []; run = n })) none ∙ view

pub begins_running : {H K : Type 0} (seen : H → View) (held : K → View → Entries → Type 0) (live : K → Bool) (l : Language) (entries : Entries) (w : ListWorld) (origin : Origin) (ctx : Ctx K) (host : H)
    (world : HoldsCounted l entries w) → IsKnown entries world.world.stored.world (began_over origin world.world.stored.world)
    → running world.world.stored.world.bones.classes world.world.stored.world (began_over origin world.world.stored.world) nothing_beside ≡ begun (origin_as origin) world.world.stored.world
    → RunsAs (tables_of ctx) (begun (origin_as origin) world.world.stored.world) (begun (origin_as origin) w) → world.world.stored.tables ≡ tables_of ctx → AreFit (parts_of ctx)
    → IsBeginning seen held live entries world.world.stored.world origin ctx host → ContextRuns seen held live l w ctx host (begun (origin_as origin) w)
begins_running seen held live l entries w origin ctx host world known view runs tables fit begins = record {
  entries = entries;
  world = world;
  context = begins_open seen held live entries world.world.stored.world origin ctx host begins known;
  tables = tables;
  fit = fit;
  runs = subst (λ (y : NumberTx). RunsAs (tables_of ctx) y (begun (origin_as origin) w)) (sym (begins_as seen held live entries world.world.stored.world origin ctx host begins view)) runs;
  first = refl;
}
