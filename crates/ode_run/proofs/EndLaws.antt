-- A call of the overlay that does what an act does ends as the act does.
use Rattle.std.proofs.Common.{◌≡◌, ◌⊎◌, IsErrOf, ℕ, Bool, true, List, Result, Option, Some, None, Ok, Err, refl, sym, ap, subst, ◌∙◌, inl, inr}
use Rattle.std.specs.Prelude.{IfErr, IfOk, OnErr, is_some}
use Rattle.std.specs.Option.{option_map}
use Rattle.ode_heap.specs.Answering.{head_of_object}
use Rattle.ode_heap.specs.declared.object.ObjectHead.{ObjectHead}
use Rattle.ode_interpreter.specs.Seen.{Ends}
use Rattle.ode_interpreter.specs.declared.stop.Stop.{Stop}
use Rattle.ode_interpreter.specs.declared.stop.Stop.TheVariants as stop
use Rattle.ode_interpreter.specs.Seen as interpreter
use Rattle.ode_expr.specs.Answers as expr
use Rattle.ode_expr.specs.declared.stop.EvalStop.{EvalStop}
use Rattle.ode_expr.specs.declared.stop.EvalStop.TheVariants as eval
use Rattle.ode_run_frame.specs.Knowing.{Behind, Keeps}
use Rattle.ode_run_frame.specs.declared.unread.Unread.{Unread}
use Rattle.ode_run_frame.specs.declared.unread.Unread.TheVariants as unread
use Rattle.ode_value.specs.declared.arithmetic.Fault.{Fault}
use Rattle.ode_value.specs.declared.statement.Expr.{Expr}
use Rattle.ode_value.specs.declared.value.Value.{Value}
use Rattle.ode_host.specs.Causes.{Rose, RoseIf}
use Rattle.ode_host.specs.Host.{Looks}
use Rattle.ode_host.specs.View.{View}
use Rattle.ode_host.proofs.Moments.{looks_joined}
use Rattle.ode_keep.specs.Entries.{Entries}
use Rattle.ode_known_laws.proofs.KnownLaws.{footed_known}
use Rattle.ode_known_laws.specs.Knowing.{IsKnown, StaysKnown}
use Rattle.ode_laws.specs.Alike.{NumberTx, NumberWorld}
use Rattle.ode_overlay.specs.Answers.{Answer, Answers, Leaves, UnlessFault, is_usable}
use Rattle.ode_overlay.specs.Changing.{left_by}
use Rattle.ode_overlay.specs.Layers.{Layer}
use Rattle.ode_overlay.specs.declared.error.OverlayError.{OverlayError}
use Rattle.ode_overlay.specs.declared.error.OverlayError.TheVariants as error
use Rattle.ode_run.specs.Knowing.{Failed, Holds, Known, beside}
use Rattle.ode_run.specs.Stopping.{ended, read, read_as, valued_as}
use Rattle.ode_run.specs.Telling.{EndsThen, calm}
use Rattle.ode_value.specs.Acts.{Act, Outcome, Done, Aborted, found, gives, go_on, looks, valued}
use Rattle.ode_value.specs.Changes.{class_of, is_live}
use Rattle.ode_value.specs.Denoting.{object_at}
use Rattle.ode_value.specs.Evaluation.{Frame, evaluate, looks_in}
use Rattle.ode_value.specs.Expressions.{evaluates}
use Rattle.ode_value.specs.Footprints.{with_draw}
use Rattle.ode_value.specs.Transactions.{looking}
use Rattle.ode_value.specs.Worlds.{Declared, Object}
use Rattle.ode_value.specs.declared.reason.Reason.TheVariants as reason
use Rattle.ode_value.specs.declared.key.Key.{Key}
use Rattle.ode_value.specs.declared.reason.Reason.{Reason}
use Rattle.ode_states.specs.declared.fired.Fired.{Fired}
use Rattle.ode_view_laws.specs.Showing.{Shows, ShowsDrawing}
use Rattle.ode_view_laws.specs.Viewing.{running}

-- refused with this reason
refused : {R : Type 0} (view : Layer → NumberTx) (x x' : Layer) (r s : Reason) (outcome : Outcome (Unit {0}) ℕ R) → x' ≡ x → Some s ≡ Some r → outcome ≡ Aborted r (view x) → outcome ≡ Aborted s (view x')
refused view x x' r s outcome same is ends = ends ∙ ap (λ q. Aborted q (view x)) (sym (cc is)) ∙ ap (λ l. Aborted s (view l)) (sym same)

pub shown_ends : {R : Type 0} (view : Layer → NumberTx) (x x' : Layer) (result : Result R OverlayError) (answer : Answer (R × Layer)) (outcome : Outcome (Unit {0}) ℕ R)
    → Leaves result x' answer → OnErr result (x' ≡ x) → Shows view gives x answer outcome → Ends (ended result) (view x') outcome
shown_ends {R} view x x' (Ok v) answer outcome leaves same shows = subst (λ a. Shows view gives x a outcome) leaves shows
shown_ends {R} view x x' (Err error.Memory) answer outcome leaves same shows = tt
shown_ends {R} view x x' (Err error.DiskFault) answer outcome leaves same shows = tt
shown_ends {R} view x x' (Err (error.Damaged key)) answer outcome leaves same shows = tt
shown_ends {R} view x x' (Err (error.NoObject id)) answer outcome leaves same shows =
    let s = subst (λ a. Shows view gives x a outcome) leaves shows in refused view x x' s.0 _ outcome same s.1.0 s.1.1
shown_ends {R} view x x' (Err (error.NoVersion r)) answer outcome leaves same shows =
    let s = subst (λ a. Shows view gives x a outcome) leaves shows in refused view x x' s.0 _ outcome same s.1.0 s.1.1
shown_ends {R} view x x' (Err (error.LastVersion id)) answer outcome leaves same shows =
    let s = subst (λ a. Shows view gives x a outcome) leaves shows in refused view x x' s.0 _ outcome same s.1.0 s.1.1
shown_ends {R} view x x' (Err error.TooManyChanges) answer outcome leaves same shows =
    let s = subst (λ a. Shows view gives x a outcome) leaves shows in refused view x x' s.0 _ outcome same s.1.0 s.1.1
shown_ends {R} view x x' (Err error.TooLong) answer outcome leaves same shows =
    let s = subst (λ a. Shows view gives x a outcome) leaves shows in refused view x x' s.0 _ outcome same s.1.0 s.1.1
shown_ends {R} view x x' (Err error.NoNumber) answer outcome leaves same shows =
    let s = subst (λ a. Shows view gives x a outcome) leaves shows in refused view x x' s.0 _ outcome same s.1.0 s.1.1

pub shown_then : {R S : Type 0} (next : R → Act (Unit {0}) ℕ S) (view : Layer → NumberTx) (x x' : Layer) (result : Result R OverlayError) (answer : Answer (R × Layer)) (outcome : Outcome (Unit {0}) ℕ S)
    → Leaves result x' answer → OnErr result (x' ≡ x) → Shows view next x answer outcome → EndsThen next (ended result) (view x') outcome
shown_then {R} {S} next view x x' (Ok v) answer outcome leaves same shows = subst (λ a. Shows view next x a outcome) leaves shows
shown_then {R} {S} next view x x' (Err error.Memory) answer outcome leaves same shows = tt
shown_then {R} {S} next view x x' (Err error.DiskFault) answer outcome leaves same shows = tt
shown_then {R} {S} next view x x' (Err (error.Damaged key)) answer outcome leaves same shows = tt
shown_then {R} {S} next view x x' (Err (error.NoObject id)) answer outcome leaves same shows =
    let s = subst (λ a. Shows view next x a outcome) leaves shows in refused view x x' s.0 _ outcome same s.1.0 s.1.1
shown_then {R} {S} next view x x' (Err (error.NoVersion r)) answer outcome leaves same shows =
    let s = subst (λ a. Shows view next x a outcome) leaves shows in refused view x x' s.0 _ outcome same s.1.0 s.1.1
shown_then {R} {S} next view x x' (Err (error.LastVersion id)) answer outcome leaves same shows =
    let s = subst (λ a. Shows view next x a outcome) leaves shows in refused view x x' s.0 _ outcome same s.1.0 s.1.1
shown_then {R} {S} next view x x' (Err error.TooManyChanges) answer outcome leaves same shows =
    let s = subst (λ a. Shows view next x a outcome) leaves shows in refused view x x' s.0 _ outcome same s.1.0 s.1.1
shown_then {R} {S} next view x x' (Err error.TooLong) answer outcome leaves same shows =
    let s = subst (λ a. Shows view next x a outcome) leaves shows in refused view x x' s.0 _ outcome same s.1.0 s.1.1
shown_then {R} {S} next view x x' (Err error.NoNumber) answer outcome leaves same shows =
    let s = subst (λ a. Shows view next x a outcome) leaves shows in refused view x x' s.0 _ outcome same s.1.0 s.1.1

-- a call that asks nothing of the disk
pub calm_then : {R S : Type 0} (next : R → Act (Unit {0}) ℕ S) (view : Layer → NumberTx) (x x' : Layer) (result : Result R OverlayError) (answer : Answer (R × Layer)) (outcome : Outcome (Unit {0}) ℕ S)
    → Leaves result x' answer → OnErr result (x' ≡ x) → Shows view next x answer outcome → EndsThen next (ended (calm result)) (view x') outcome
calm_then next view x x' (Err error.DiskFault) answer outcome leaves same shows = tt
calm_then next view x x' (Ok v) answer outcome leaves same shows = shown_then next view x x' (Ok v) answer outcome leaves same shows
calm_then next view x x' (Err error.Memory) answer outcome leaves same shows = shown_then next view x x' (Err error.Memory) answer outcome leaves same shows
calm_then next view x x' (Err (error.Damaged key)) answer outcome leaves same shows = shown_then next view x x' (Err (error.Damaged key)) answer outcome leaves same shows
calm_then next view x x' (Err (error.NoObject id)) answer outcome leaves same shows = shown_then next view x x' (Err (error.NoObject id)) answer outcome leaves same shows
calm_then next view x x' (Err (error.NoVersion r)) answer outcome leaves same shows = shown_then next view x x' (Err (error.NoVersion r)) answer outcome leaves same shows
calm_then next view x x' (Err (error.LastVersion id)) answer outcome leaves same shows = shown_then next view x x' (Err (error.LastVersion id)) answer outcome leaves same shows
calm_then next view x x' (Err error.TooManyChanges) answer outcome leaves same shows = shown_then next view x x' (Err error.TooManyChanges) answer outcome leaves same shows
calm_then next view x x' (Err error.TooLong) answer outcome leaves same shows = shown_then next view x x' (Err error.TooLong) answer outcome leaves same shows
calm_then next view x x' (Err error.NoNumber) answer outcome leaves same shows = shown_then next view x x' (Err error.NoNumber) answer outcome leaves same shows

-- the same of a call that draws a number: where none was left, that is marked
pub drawn_then : {R S : Type 0} (next : R → Act (Unit {0}) ℕ S) (view : Layer → NumberTx) (x x' : Layer) (result : Result R OverlayError) (answer : Answer (R × Layer)) (outcome : Outcome (Unit {0}) ℕ S)
    → Leaves result x' answer → IfErr result (λ why. x' ≡ left_by why x) → ShowsDrawing view next x answer outcome → EndsThen next (ended result) (view x') outcome
drawn_then {R} {S} next view x x' (Ok v) answer outcome leaves same shows = subst (λ a. ShowsDrawing view next x a outcome) leaves shows
drawn_then {R} {S} next view x x' (Err error.Memory) answer outcome leaves same shows = tt
drawn_then {R} {S} next view x x' (Err error.DiskFault) answer outcome leaves same shows = tt
drawn_then {R} {S} next view x x' (Err (error.Damaged key)) answer outcome leaves same shows = tt
drawn_then {R} {S} next view x x' (Err (error.NoObject id)) answer outcome leaves same shows =
    let s = subst (λ a. ShowsDrawing view next x a outcome) leaves shows in refused view (left_by (error.NoObject id) x) x' s.0 _ outcome same s.1.0 s.1.1
drawn_then {R} {S} next view x x' (Err (error.NoVersion r)) answer outcome leaves same shows =
    let s = subst (λ a. ShowsDrawing view next x a outcome) leaves shows in refused view (left_by (error.NoVersion r) x) x' s.0 _ outcome same s.1.0 s.1.1
drawn_then {R} {S} next view x x' (Err (error.LastVersion id)) answer outcome leaves same shows =
    let s = subst (λ a. ShowsDrawing view next x a outcome) leaves shows in refused view (left_by (error.LastVersion id) x) x' s.0 _ outcome same s.1.0 s.1.1
drawn_then {R} {S} next view x x' (Err error.TooManyChanges) answer outcome leaves same shows =
    let s = subst (λ a. ShowsDrawing view next x a outcome) leaves shows in refused view (left_by error.TooManyChanges x) x' s.0 _ outcome same s.1.0 s.1.1
drawn_then {R} {S} next view x x' (Err error.TooLong) answer outcome leaves same shows =
    let s = subst (λ a. ShowsDrawing view next x a outcome) leaves shows in refused view (left_by error.TooLong x) x' s.0 _ outcome same s.1.0 s.1.1
drawn_then {R} {S} next view x x' (Err error.NoNumber) answer outcome leaves same shows =
    let s = subst (λ a. ShowsDrawing view next x a outcome) leaves shows in refused view (left_by error.NoNumber x) x' s.0 _ outcome same s.1.0 s.1.1

-- one that asks nothing of the disk
pub calm_drawn : {R S : Type 0} (next : R → Act (Unit {0}) ℕ S) (view : Layer → NumberTx) (x x' : Layer) (result : Result R OverlayError) (answer : Answer (R × Layer)) (outcome : Outcome (Unit {0}) ℕ S)
    → Leaves result x' answer → IfErr result (λ why. x' ≡ left_by why x) → ShowsDrawing view next x answer outcome → EndsThen next (ended (calm result)) (view x') outcome
calm_drawn next view x x' (Err error.DiskFault) answer outcome leaves same shows = tt
calm_drawn next view x x' (Ok v) answer outcome leaves same shows = drawn_then next view x x' (Ok v) answer outcome leaves same shows
calm_drawn next view x x' (Err error.Memory) answer outcome leaves same shows = drawn_then next view x x' (Err error.Memory) answer outcome leaves same shows
calm_drawn next view x x' (Err (error.Damaged key)) answer outcome leaves same shows = drawn_then next view x x' (Err (error.Damaged key)) answer outcome leaves same shows
calm_drawn next view x x' (Err (error.NoObject id)) answer outcome leaves same shows = drawn_then next view x x' (Err (error.NoObject id)) answer outcome leaves same shows
calm_drawn next view x x' (Err (error.NoVersion r)) answer outcome leaves same shows = drawn_then next view x x' (Err (error.NoVersion r)) answer outcome leaves same shows
calm_drawn next view x x' (Err (error.LastVersion id)) answer outcome leaves same shows = drawn_then next view x x' (Err (error.LastVersion id)) answer outcome leaves same shows
calm_drawn next view x x' (Err error.TooManyChanges) answer outcome leaves same shows = drawn_then next view x x' (Err error.TooManyChanges) answer outcome leaves same shows
calm_drawn next view x x' (Err error.TooLong) answer outcome leaves same shows = drawn_then next view x x' (Err error.TooLong) answer outcome leaves same shows
calm_drawn next view x x' (Err error.NoNumber) answer outcome leaves same shows = drawn_then next view x x' (Err error.NoNumber) answer outcome leaves same shows

-- what is known of the overlay that a call leaves
pub known_left : {R : Type 0} (base : Entries) (first : NumberWorld) (x x' : Layer) (result : Result R OverlayError) (answer : Answer (R × Layer)) → Leaves result x' answer → OnErr result (x' ≡ x)
    → IsKnown base first x → StaysKnown base first answer → IsKnown base first x'
known_left base first x x' (Ok v) answer leaves same known stays = subst (StaysKnown base first) leaves stays
known_left base first x x' (Err why) answer leaves same known stays = subst (IsKnown base first) (sym same) known

known_by : (why : OverlayError) (base : Entries) (first : NumberWorld) (x : Layer) → IsKnown base first x → IsKnown base first (left_by why x)
known_by error.NoNumber base first x known = footed_known base first x (with_draw true x.footprint) known
known_by error.Memory base first x known = known
known_by error.DiskFault base first x known = known
known_by (error.Damaged key) base first x known = known
known_by (error.NoObject id) base first x known = known
known_by (error.NoVersion r) base first x known = known
known_by (error.LastVersion id) base first x known = known
known_by error.TooManyChanges base first x known = known
known_by error.TooLong base first x known = known

pub known_drawn : {R : Type 0} (base : Entries) (first : NumberWorld) (x x' : Layer) (result : Result R OverlayError) (answer : Answer (R × Layer)) → Leaves result x' answer → IfErr result (λ why. x' ≡ left_by why x)
    → IsKnown base first x → StaysKnown base first answer → IsKnown base first x'
known_drawn base first x x' (Ok v) answer leaves same known stays = subst (StaysKnown base first) leaves stays
known_drawn base first x x' (Err why) answer leaves same known stays = subst (IsKnown base first) (sym same) (known_by why base first x known)

-- ---- what a call leaves

-- it names no key as damaged
abbrev pub IsSoundCall : {R : Type 0} → Result R OverlayError → Type 0
IsSoundCall result = (key : Key) → result ≡ Err (error.Damaged key) → ⊥

-- so it is where it does what an act does
pub shown_sound : {R S : Type 0} (next : R → Act (Unit {0}) ℕ S) (view : Layer → NumberTx) (x x' : Layer) (result : Result R OverlayError) (answer : Answer (R × Layer)) (outcome : Outcome (Unit {0}) ℕ S)
    → Leaves result x' answer → Shows view next x answer outcome → IsSoundCall result
shown_sound {R} {S} next view x x' result answer outcome leaves shows key is =
    let names : answer ≡ Err (error.Damaged key) = subst (λ (r : Result R OverlayError). Leaves r x' answer) is leaves in
    let s = subst (λ a. Shows view next x a outcome) names shows in
    cc s.1.0

pub drawn_sound : {R S : Type 0} (next : R → Act (Unit {0}) ℕ S) (view : Layer → NumberTx) (x x' : Layer) (result : Result R OverlayError) (answer : Answer (R × Layer)) (outcome : Outcome (Unit {0}) ℕ S)
    → Leaves result x' answer → ShowsDrawing view next x answer outcome → IsSoundCall result
drawn_sound {R} {S} next view x x' result answer outcome leaves shows key is =
    let names : answer ≡ Err (error.Damaged key) = subst (λ (r : Result R OverlayError). Leaves r x' answer) is leaves in
    let s = subst (λ a. ShowsDrawing view next x a outcome) names shows in
    cc s.1.0

-- and where its answer is never that one
pub read_sound : {R : Type 0} (result : Result R OverlayError) (answer : Answer R) → Answers result answer → ((key : Key) → answer ≡ Err (error.Damaged key) → ⊥) → IsSoundCall result
read_sound {R} result answer gives never key is = never key (subst (λ (r : Result R OverlayError). Answers r answer) is gives)

module _ {H K : Type 0} (seen : H → View) (held : K → View → Entries → Type 0) (live : K → Bool) where
  module _ (h h' : H) (q q' : K) (x x' : Layer) (left bytes : ℕ) (k : Known H) (holds : Holds seen (held q (seen h)) (live q) h x left bytes k) (looks : Looks (seen h) (seen h')) where
    abbrev After : Type 0
    After = Holds seen (held q' (seen h')) (live q') h' x' left bytes k

    looked : Looks (seen k.began) (seen h')
    looked = looks_joined (seen k.began) (seen h) (seen h') holds.looks looks

    goes_on : live q' ≡ true → held q' (seen h') k.entries → (seen h').disk_faults ≡ (seen h).disk_faults → IsKnown k.entries k.first x' → After
    goes_on usable records calm known = record {
      usable = usable;
      records = records;
      looks = looked;
      faults = calm ∙ holds.faults;
      known = known;
      budget = holds.budget;
      bytes = holds.bytes;
    }

    no_fault : {R : Type 0} (result : Result R OverlayError) → (result ≡ Err error.DiskFault → ⊥) → RoseIf (IsErrOf result error.DiskFault) (seen h).disk_faults (seen h').disk_faults
        → (seen h').disk_faults ≡ (seen h).disk_faults
    no_fault result other cause = by_calm cause.calm where
      by_calm : (result ≡ Err error.DiskFault) ⊎ ((seen h').disk_faults ≡ (seen h).disk_faults) → (seen h').disk_faults ≡ (seen h).disk_faults
      by_calm (inl is) = absurd (other is)
      by_calm (inr same) = same

    faulted : {R : Type 0} (result : Result R OverlayError) → result ≡ Err error.DiskFault → RoseIf (IsErrOf result error.DiskFault) (seen h).disk_faults (seen h').disk_faults
        → Failed seen h' k stop.DiskFault
    faulted result is cause = record {
      sound = tt;
      looks = looked;
      faults = record {
        later = looked.keeps.disk_faults;
        rose = λ e. subst (λ n. Rose n (seen h').disk_faults) holds.faults (cause.rose is);
        calm = inl refl;
      };
    }

    pub call_leaves : {R : Type 0} (result : Result R OverlayError) → IsSoundCall result → IsKnown k.entries k.first x' → UnlessFault result ((base : Entries) → held q (seen h) base → held q' (seen h') base)
        → live q' ≡ is_usable result → RoseIf (IsErrOf result error.DiskFault) (seen h).disk_faults (seen h').disk_faults → interpreter.Leaves (ended result) After (Failed seen h' k)
    call_leaves (Ok v) sound known keeps usable cause = goes_on usable (keeps k.entries holds.records) (no_fault (Ok v) (λ is. absurd (cc is)) cause) known
    call_leaves (Err error.DiskFault) sound known keeps usable cause = faulted (Err error.DiskFault) refl cause
    call_leaves (Err (error.Damaged key)) sound known keeps usable cause = absurd (sound key refl)
    call_leaves (Err error.Memory) sound known keeps usable cause = goes_on usable (keeps k.entries holds.records) (no_fault (Err error.Memory) (λ is. absurd (cc is)) cause) known
    call_leaves (Err (error.NoObject id)) sound known keeps usable cause = goes_on usable (keeps k.entries holds.records) (no_fault (Err (error.NoObject id)) (λ is. absurd (cc is)) cause) known
    call_leaves (Err (error.NoVersion r)) sound known keeps usable cause = goes_on usable (keeps k.entries holds.records) (no_fault (Err (error.NoVersion r)) (λ is. absurd (cc is)) cause) known
    call_leaves (Err (error.LastVersion id)) sound known keeps usable cause = goes_on usable (keeps k.entries holds.records) (no_fault (Err (error.LastVersion id)) (λ is. absurd (cc is)) cause) known
    call_leaves (Err error.TooManyChanges) sound known keeps usable cause = goes_on usable (keeps k.entries holds.records) (no_fault (Err error.TooManyChanges) (λ is. absurd (cc is)) cause) known
    call_leaves (Err error.TooLong) sound known keeps usable cause = goes_on usable (keeps k.entries holds.records) (no_fault (Err error.TooLong) (λ is. absurd (cc is)) cause) known
    call_leaves (Err error.NoNumber) sound known keeps usable cause = goes_on usable (keeps k.entries holds.records) (no_fault (Err error.NoNumber) (λ is. absurd (cc is)) cause) known

    pub reading_leaves : {R : Type 0} (result : Result R OverlayError) → IsSoundCall result → IsKnown k.entries k.first x' → UnlessFault result ((base : Entries) → held q (seen h) base → held q' (seen h') base)
        → live q' ≡ is_usable result → RoseIf (IsErrOf result error.DiskFault) (seen h).disk_faults (seen h').disk_faults → interpreter.Leaves (read result) After (Failed seen h' k)
    reading_leaves (Ok v) sound known keeps usable cause = call_leaves (Ok v) sound known keeps usable cause
    reading_leaves (Err error.DiskFault) sound known keeps usable cause = call_leaves (Err error.DiskFault) sound known keeps usable cause
    reading_leaves (Err (error.Damaged key)) sound known keeps usable cause = call_leaves (Err (error.Damaged key)) sound known keeps usable cause
    reading_leaves (Err error.Memory) sound known keeps usable cause = call_leaves (Err error.Memory) sound known keeps usable cause
    reading_leaves (Err (error.NoObject id)) sound known keeps usable cause = call_leaves (Err (error.NoObject id)) sound known keeps usable cause
    reading_leaves (Err (error.NoVersion r)) sound known keeps usable cause = call_leaves (Err (error.NoVersion r)) sound known keeps usable cause
    reading_leaves (Err (error.LastVersion id)) sound known keeps usable cause = call_leaves (Err (error.LastVersion id)) sound known keeps usable cause
    reading_leaves (Err error.TooManyChanges) sound known keeps usable cause = call_leaves (Err error.TooManyChanges) sound known keeps usable cause
    reading_leaves (Err error.TooLong) sound known keeps usable cause = call_leaves (Err error.TooLong) sound known keeps usable cause
    reading_leaves (Err error.NoNumber) sound known keeps usable cause = call_leaves (Err error.NoNumber) sound known keeps usable cause

-- ---- what is read

-- what a call reads is known
pub read_is : {R : Type 0} (result : Result R OverlayError) (answer : Answer R) (value : R) → Answers result answer → answer ≡ Ok value → IfOk (read result) (λ v. v ≡ value)
read_is (Ok v) answer value gives is = let e : Ok v ≡ Ok value = sym gives ∙ is in cc e
read_is (Err why) answer value gives is = tt

-- whether an object is there, and its class
pub live_is : (y : NumberTx) (id : ℕ) (head : Option ObjectHead) → head ≡ option_map head_of_object (object_at y.now.bones id) → is_live id y ≡ is_some head
live_is y id head is = by_object (object_at y.now.bones id) ∙ sym (ap is_some is) where
  by_object : (o : Option Object) → is_some o ≡ is_some (option_map head_of_object o)
  by_object None = refl
  by_object (Some o) = refl

pub class_is : (y : NumberTx) (id : ℕ) (head : ObjectHead) → Some head ≡ option_map head_of_object (object_at y.now.bones id) → class_of id y ≡ Done head.class y
class_is y id head is = by_object (object_at y.now.bones id) is where
  by_object : (o : Option Object) → Some head ≡ option_map head_of_object o → go_on (found o y) (λ q. gives q.class) ≡ Done head.class y
  by_object None is = absurd (cc is)
  by_object (Some o) is = let e : head ≡ head_of_object o = cc is in ap (λ (h : ObjectHead). Done h.class y) (sym e)

pub no_class : (y : NumberTx) (id : ℕ) → None ≡ option_map head_of_object (object_at y.now.bones id) → class_of id y ≡ Aborted (reason.NoObject 0) y
no_class y id is = by_object (object_at y.now.bones id) is where
  by_object : (o : Option Object) → None ≡ option_map head_of_object o → go_on (found o y) (λ q. gives q.class) ≡ Aborted (reason.NoObject 0) y
  by_object None is = refl
  by_object (Some o) is = absurd (cc is)

-- where a call is stopped by a fault, and so another one
pub stopped_too : {R S : Type 0} (result : Result S Stop) (other : Result R Stop) (why : Stop) (z : NumberTx) (o : Outcome (Unit {0}) ℕ R) → IfErr result interpreter.IsFault → result ≡ Err why → other ≡ Err why → Ends other z o
stopped_too {R} {S} result other why z o fault is same =
    subst (λ (r : Result R Stop). Ends r z o) (sym same) (by_stop why (subst (λ (r : Result S Stop). IfErr r interpreter.IsFault) is fault)) where
      by_stop : (why : Stop) → interpreter.IsFault why → Ends {R = R} (Err why) z o
      by_stop (stop.Abort reason) f = absurd f
      by_stop stop.Memory f = tt
      by_stop stop.DiskFault f = tt
      by_stop (stop.Damaged key) f = tt

-- ---- what an evaluation leaves

pub judged_is : (meant : Result Value Fault) (result : Result Value (EvalStop Unread)) (were ids : List ℕ) → expr.Answers meant result → expr.LookedAs result were ids
    → IfOk (read_as result) (λ (v : Result Value Fault). (meant ≡ v) × (were ≡ ids))
judged_is meant (Ok v) were ids is too = (is, too)
judged_is meant (Err (eval.Fault fault)) were ids is too = (is, too)
judged_is meant (Err eval.Memory) were ids is too = tt
judged_is meant (Err (eval.Frame unread.DiskFault)) were ids is too = tt
judged_is meant (Err (eval.Frame (unread.Damaged key))) were ids is too = tt

value_ends : (value : Result Value Fault) (y : NumberTx) → Ends (valued_as value) y (valued value y)
value_ends (Ok v) y = refl
value_ends (Err fault) y = refl

-- behind what an expression looks at
pub evaluated : (e : Expr) (frame : Frame) (y w z : NumberTx) (value : Result Value Fault) (ids : List ℕ) (result : Result Value Stop) → y ≡ w → evaluate e y.now.bones frame ≡ value → ids ≡ looks_in e y.now.bones frame
    → looks ids w ≡ Done tt z → result ≡ valued_as value → Ends result z (evaluates e frame y)
evaluated e frame y w z value ids result same meant looked done is =
    let seen : looking ids w ≡ z = cc done in
    subst (λ (r : Result Value Stop). Ends r z (evaluates e frame y)) (sym is)
    (subst (λ (v : Result Value Fault). Ends (valued_as value) z (valued v (looking (looks_in e y.now.bones frame) y))) (sym meant)
    (subst (λ (ns : List ℕ). Ends (valued_as value) z (valued value (looking ns y))) looked
    (subst (λ (q : NumberTx). Ends (valued_as value) z (valued value (looking ids q))) (sym same)
    (subst (λ (q : NumberTx). Ends (valued_as value) z (valued value q)) (sym seen) (value_ends value z)))))

module _ {H K : Type 0} (seen : H → View) (held : K → View → Entries → Type 0) (live : K → Bool) where
  module _ (h h' : H) (q q' : K) (x : Layer) (left bytes : ℕ) (k : Known H) (holds : Holds seen (held q (seen h)) (live q) h x left bytes k) where
    abbrev Still : Type 0
    Still = Holds seen (held q' (seen h')) (live q') h' x left bytes k

    abbrev Left : Option Unread → Type 0
    Left s = Behind (seen h) (seen h') (held q' (seen h')) (live q') s k.entries

    calm_at : (s : Option Unread) → (s ≡ Some unread.DiskFault → ⊥) → Left s → (seen h').disk_faults ≡ (seen h).disk_faults
    calm_at s other behind = by_calm behind.faults.calm where
      by_calm : (s ≡ Some unread.DiskFault) ⊎ ((seen h').disk_faults ≡ (seen h).disk_faults) → (seen h').disk_faults ≡ (seen h).disk_faults
      by_calm (inl is) = absurd (other is)
      by_calm (inr same) = same

    still_at : (s : Option Unread) → (s ≡ Some unread.DiskFault → ⊥) → Keeps (held q' (seen h')) (live q') k.entries → Left s → Still
    still_at s other keeps behind = record {
      usable = keeps.usable;
      records = keeps.records;
      looks = looks_joined (seen k.began) (seen h) (seen h') holds.looks behind.looks;
      faults = calm_at s other behind ∙ holds.faults;
      known = holds.known;
      budget = holds.budget;
      bytes = holds.bytes;
    }

    still : Left None → Still
    still behind = still_at None (λ is. absurd (cc is)) behind.keeps behind

    pub evaluation_leaves : (result : Result Value (EvalStop Unread)) → Left (expr.stopped_by result None) → interpreter.Leaves (read_as result) Still (Failed seen h' k)
    evaluation_leaves (Ok v) behind = still behind
    evaluation_leaves (Err (eval.Fault fault)) behind = still behind
    evaluation_leaves (Err eval.Memory) behind = still behind
    evaluation_leaves (Err (eval.Frame unread.DiskFault)) behind =
        let looked = looks_joined (seen k.began) (seen h) (seen h') holds.looks behind.looks in
        record {
          sound = tt;
          looks = looked;
          faults = record { later = looked.keeps.disk_faults; rose = λ e. subst (λ n. Rose n (seen h').disk_faults) holds.faults (behind.faults.rose refl); calm = inl refl };
        }
    evaluation_leaves (Err (eval.Frame (unread.Damaged key))) behind = absurd behind.sound

-- where nothing changed, the view is the same
pub same_view : (all : List Declared) (first : NumberWorld) (x x' : Layer) (ds ds' : List (ℕ × Fired)) (text text' : List ℕ) (left left' : ℕ) → x' ≡ x → ds' ≡ ds → text' ≡ text → left' ≡ left
    → running all first x (beside first ds text left) ≡ running all first x' (beside first ds' text' left')
same_view all first x x' ds ds' text text' left left' e1 e2 e3 e4 =
    ap (λ q. running all first q (beside first ds text left)) (sym e1)
    ∙ ap (λ q. running all first x' (beside first q text left)) (sym e2)
    ∙ ap (λ q. running all first x' (beside first ds' q left)) (sym e3)
    ∙ ap (λ q. running all first x' (beside first ds' text' q)) (sym e4)

-- ---- what a call leaves that asks nothing of the disk

module _ {H K : Type 0} (seen : H → View) (held : K → View → Entries → Type 0) (live : K → Bool) where
  moved : (h h' : H) (q q' : K) (x x' : Layer) (left bytes : ℕ) (k : Known H) → q' ≡ q → h' ≡ h → Holds seen (held q (seen h)) (live q) h x left bytes k → IsKnown k.entries k.first x'
      → Holds seen (held q' (seen h')) (live q') h' x' left bytes k
  moved h h' q q' x x' left bytes k same_heap same_host holds known =
      let there = subst (λ p. Holds seen (held p (seen h')) (live p) h' x left bytes k) (sym same_heap) (subst (λ n. Holds seen (held q (seen n)) (live q) n x left bytes k) (sym same_host) holds) in
      record { usable = there.usable; records = there.records; looks = there.looks; faults = there.faults; known = known; budget = there.budget; bytes = there.bytes }

  pub calm_leaves : {R : Type 0} (h h' : H) (q q' : K) (x x' : Layer) (left bytes : ℕ) (k : Known H) (result : Result R OverlayError) → IsSoundCall result → q' ≡ q → h' ≡ h → Holds seen (held q (seen h)) (live q) h x left bytes k
      → IsKnown k.entries k.first x' → interpreter.Leaves (ended (calm result)) (Holds seen (held q' (seen h')) (live q') h' x' left bytes k) (Failed seen h' k)
  calm_leaves h h' q q' x x' left bytes k (Ok v) sound e1 e2 holds known = moved h h' q q' x x' left bytes k e1 e2 holds known
  calm_leaves h h' q q' x x' left bytes k (Err error.Memory) sound e1 e2 holds known = moved h h' q q' x x' left bytes k e1 e2 holds known
  calm_leaves h h' q q' x x' left bytes k (Err error.DiskFault) sound e1 e2 holds known = moved h h' q q' x x' left bytes k e1 e2 holds known
  calm_leaves h h' q q' x x' left bytes k (Err (error.NoObject id)) sound e1 e2 holds known = moved h h' q q' x x' left bytes k e1 e2 holds known
  calm_leaves h h' q q' x x' left bytes k (Err (error.NoVersion r)) sound e1 e2 holds known = moved h h' q q' x x' left bytes k e1 e2 holds known
  calm_leaves h h' q q' x x' left bytes k (Err (error.LastVersion id)) sound e1 e2 holds known = moved h h' q q' x x' left bytes k e1 e2 holds known
  calm_leaves h h' q q' x x' left bytes k (Err error.TooManyChanges) sound e1 e2 holds known = moved h h' q q' x x' left bytes k e1 e2 holds known
  calm_leaves h h' q q' x x' left bytes k (Err error.TooLong) sound e1 e2 holds known = moved h h' q q' x x' left bytes k e1 e2 holds known
  calm_leaves h h' q q' x x' left bytes k (Err error.NoNumber) sound e1 e2 holds known = moved h h' q q' x x' left bytes k e1 e2 holds known
  calm_leaves h h' q q' x x' left bytes k (Err (error.Damaged key)) sound e1 e2 holds known = absurd (sound key refl)
