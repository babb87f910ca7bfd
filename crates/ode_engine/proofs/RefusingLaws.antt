-- How a statement is checked, literal by literal.
use Rattle.std.proofs.Common.{◌≡◌, ◌∙◌, ◌+◌, ◌<◌, ◌==◌, ℕ, Bool, false, cond, List, [], ◌∷◌, ◌++◌, drop, get_or, length, map, Result, None, Ok, Err, ap, append-nil, append_assoc, refl, subst, sym}
use Rattle.std.proofs.lemmas.List.{drop_more}
use Rattle.std.specs.Prelude.{IsErrOf}
use Rattle.ode_engine.proofs.FaultLaws.{fault_disk, fault_silent}
use Rattle.ode_engine.proofs.ServeLaws.{AreQuiet, quiet_by}
use Rattle.ode_engine.specs.Refusing.{Answers, IsUndamaged, KeepsChecked, LeavesChecked}
use Rattle.ode_engine.specs.declared.refusing.Turned.{Turned}
use Rattle.ode_engine.specs.declared.refusing.Turned.TheVariants as turned
use Rattle.ode_host.proofs.Calls.{host_calls_on, rose_as, rose_on}
use Rattle.ode_host.proofs.Moments.{looks_joined}
use Rattle.ode_host.specs.Causes.{RoseIf}
use Rattle.ode_host.specs.Host.{Looks}
use Rattle.ode_host.specs.View.{View}
use Rattle.ode_interpreter.specs.declared.stop.Stop.{Stop}
use Rattle.ode_interpreter.specs.declared.stop.Stop.TheVariants as stop
use Rattle.ode_transact.specs.Contexts.{declared_in}
use Rattle.ode_language.specs.Languages.{ode}
use Rattle.ode_laws.specs.Alike.{NumberTx, RunsAs}
use Rattle.ode_machine.specs.Refusals.{checked_in, class_behind, classes_behind, classes_in}
use Rattle.ode_transact.specs.Errors.{fault_of}
use Rattle.ode_transact.specs.declared.error.EngineError.{EngineError}
use Rattle.ode_transact.specs.declared.error.EngineError.TheVariants as error
use Rattle.ode_types.specs.Literals.{literals}
use Rattle.ode_types.specs.Static.{check_statement}
use Rattle.ode_value.specs.Answers.{Answer, ◌>>=◌, checks}
use Rattle.ode_value.specs.Denoting.{object_at, object_of}
use Rattle.ode_value.specs.Language.{ListTx}
use Rattle.ode_value.specs.Tables.{Table}
use Rattle.ode_value.specs.Worlds.{Bones, Declared}
use Rattle.ode_value.specs.declared.class.Class.{Class}
use Rattle.ode_value.specs.declared.reason.Refusal.{Refusal}
use Rattle.ode_value.specs.declared.statement.Stmt.{Stmt}
use Rattle.ode_value.specs.declared.value.Ref.{Ref}

-- ---- a literal

-- but null
pub object_is : (b : Bones) (r : Ref) → (r.object == 0) ≡ false → object_of b r ≡ object_at b r.object
object_is b r is = ap (λ (test : Bool). cond test None (object_at b r.object)) is

-- ---- what a check leaves

pub leaves_ok : {R : Type 0} (v : R) (context : Type 0) (a b : View) → AreQuiet a b → context → LeavesChecked (Ok v) context a b
leaves_ok v context a b quiet stays = record {
  stays = stays;
  looks = quiet.0;
  faults = rose_as ⊥ (Ok v ≡ Err (turned.Stopped error.DiskFault)) a.disk_faults b.disk_faults absurd (λ is. cc (is)) quiet.1.disk_faults;
  silent = λ is. cc (is);
}

pub leaves_refused : {R : Type 0} (why : Refusal) (context : Type 0) (a b : View) → AreQuiet a b → context → LeavesChecked {R = R} (Err (turned.Refused why)) context a b
leaves_refused why context a b quiet stays = record {
  stays = stays;
  looks = quiet.0;
  faults = rose_as ⊥ (Err (turned.Refused why) ≡ Err (turned.Stopped error.DiskFault)) a.disk_faults b.disk_faults absurd (λ is. cc (is)) quiet.1.disk_faults;
  silent = λ is. cc (is);
}

pub leaves_memory : {R : Type 0} (context : Type 0) (a b : View) → AreQuiet a b → LeavesChecked {R = R} (Err (turned.Stopped error.Memory)) context a b
leaves_memory context a b quiet = record {
  stays = tt;
  looks = quiet.0;
  faults = rose_as ⊥ (Err (turned.Stopped error.Memory) ≡ Err (turned.Stopped error.DiskFault)) a.disk_faults b.disk_faults absurd (λ is. cc (is)) quiet.1.disk_faults;
  silent = λ is. cc (is);
}

pub leaves_fault : {R : Type 0} (F : Type 0) (why : Stop) (context : Type 0) (a b : View) → (F → why ≡ stop.DiskFault) → (why ≡ stop.DiskFault → F) → Looks a b → RoseIf F a.disk_faults b.disk_faults
    → LeavesChecked {R = R} (Err (turned.Stopped (fault_of why))) context a b
leaves_fault F why context a b to back looks rose = record {
  stays = tt;
  looks = looks;
  faults = rose_as F (Err (turned.Stopped (fault_of why)) ≡ Err (turned.Stopped error.DiskFault)) a.disk_faults b.disk_faults (λ f. ap (λ (s : Stop). Err (turned.Stopped (fault_of s))) (to f)) (λ is. back (fault_disk why (cc (is)))) rose;
  silent = λ is. fault_silent why (cc (is));
}

-- behind calls that only looked, and told no fault
pub leaves_behind : {R S : Type 0} (t : Turned) (context : Type 0) (a b c : View) → AreQuiet a b → LeavesChecked {R = R} (Err t) context b c → LeavesChecked {R = S} (Err t) context a c
leaves_behind {R = R} {S = S} t context a b c quiet leaves = record {
  stays = leaves.stays;
  looks = looks_joined a b c quiet.0 leaves.looks;
  faults = rose_on ⊥ _ a.disk_faults b.disk_faults c.disk_faults (λ none. none) quiet.1.disk_faults
      (rose_as _ _ b.disk_faults c.disk_faults (λ is. ap Err (same_turned t (turned.Stopped error.DiskFault) is)) (λ is. ap Err (same_turned t (turned.Stopped error.DiskFault) is)) leaves.faults);
  silent = λ is. leaves.silent (ap Err (same_turned t (turned.Stopped error.WriteFault) is));
} where
  same_turned : {T : Type 0} (t u : Turned) → ◌≡◌ {A = Result T Turned} (Err t) (Err u) → t ≡ u
  same_turned t u is = cc (is)

pub quiet_on : {R : Type 0} (v : R) (context : Type 0) (a b c : View) → AreQuiet a b → LeavesChecked (Ok v) context b c → AreQuiet a c
quiet_on v context a b c quiet leaves =
    let more : AreQuiet b c = quiet_by (Ok v ≡ Err (turned.Stopped error.DiskFault)) b c (λ is. cc (is)) leaves.looks leaves.faults in
    (looks_joined a b c quiet.0 more.0, host_calls_on ⊥ ⊥ ⊥ ⊥ a b c (λ none. none) (λ none. none) quiet.1 more.1)

-- ---- over records that hold a world

pub keeps_ok : {R : Type 0} (v : R) (context : Type 0) → context → KeepsChecked (Ok v) context
keeps_ok v context stays = record { stays = stays; sound = λ e is. absurd (cc (is)) }

pub keeps_refused : {R : Type 0} (why : Refusal) (context : Type 0) → context → KeepsChecked {R = R} (Err (turned.Refused why)) context
keeps_refused why context stays = record { stays = stays; sound = λ e is. absurd (cc (is)) }

pub keeps_stopped : {R : Type 0} (by : EngineError) (context : Type 0) → IsUndamaged by → KeepsChecked {R = R} (Err (turned.Stopped by)) context
keeps_stopped by context sound = record { stays = tt; sound = λ e is. subst IsUndamaged (same_error by e is) sound } where
  same_error : {T : Type 0} (a b : EngineError) → ◌≡◌ {A = Result T Turned} (Err (turned.Stopped a)) (Err (turned.Stopped b)) → a ≡ b
  same_error a b is = cc (is)

-- as the answer of another call
pub keeps_as : {R S : Type 0} (t : Turned) (context : Type 0) → KeepsChecked {R = R} (Err t) context → KeepsChecked {R = S} (Err t) context
keeps_as (turned.Refused why) context keeps = keeps_refused why context keeps.stays
keeps_as (turned.Stopped by) context keeps = keeps_stopped by context (keeps.sound by refl)

-- the static rules end by no error but want of memory
pub keeps_rules : {R : Type 0} (result : Result R Turned) (context : Type 0) → context → ((e : EngineError) → IsErrOf result (turned.Stopped e) → e ≡ error.Memory) → KeepsChecked result context
keeps_rules (Ok v) context stays calm = keeps_ok v context stays
keeps_rules (Err (turned.Refused why)) context stays calm = keeps_refused why context stays
keeps_rules {R = R} (Err (turned.Stopped e)) context stays calm = subst (λ (by : EngineError). KeepsChecked {R = R} (Err (turned.Stopped by)) context) (sym (calm e refl)) (keeps_stopped error.Memory context tt)

-- ---- the literals in order

-- what comes behind some classes
abbrev pub with_more : List (Ref × ℕ) → Answer (List (Ref × ℕ)) → Answer (List (Ref × ℕ))
with_more classes more = more >>= (λ rest. Ok (classes ++ rest))

pub none_more : (answer : Answer (List (Ref × ℕ))) → answer ≡ with_more [] answer
none_more (Ok classes) = refl
none_more (Err why) = refl

one_more : (r : Ref) (class : ℕ) (classes : List (Ref × ℕ)) (more : Answer (List (Ref × ℕ))) → with_more classes (more >>= (λ rest. Ok ((r, class) ∷ rest))) ≡ with_more (classes ++ (r, class) ∷ []) more
one_more r class classes (Ok rest) = ap Ok (sym (append_assoc classes ((r, class) ∷ []) rest))
one_more r class classes (Err why) = refl

next_class : (b : Bones) (r : Ref) (refs : List Ref) (class : ℕ) (classes : List (Ref × ℕ)) → class_behind r (object_of b r) ≡ Ok class
    → with_more classes (classes_behind b (r ∷ refs)) ≡ with_more (classes ++ (r, class) ∷ []) (classes_behind b refs)
next_class b r refs class classes is =
    ap (λ (a : Answer ℕ). with_more classes (a >>= (λ c. classes_behind b refs >>= (λ rest. Ok ((r, c) ∷ rest))))) is ∙ one_more r class classes (classes_behind b refs)

no_class : (b : Bones) (r : Ref) (refs : List Ref) (why : Refusal) (classes : List (Ref × ℕ)) → class_behind r (object_of b r) ≡ Err why → with_more classes (classes_behind b (r ∷ refs)) ≡ Err why
no_class b r refs why classes is = ap (λ (a : Answer ℕ). with_more classes (a >>= (λ c. classes_behind b refs >>= (λ rest. Ok ((r, c) ∷ rest))))) is

-- those of what is left, by its first
left_by : (b : Bones) (refs : List Ref) (i : ℕ) (none : Ref) (classes : List (Ref × ℕ)) → i < length refs
    → with_more classes (classes_behind b (drop i refs)) ≡ with_more classes (classes_behind b (get_or refs i none ∷ drop (i + 1) refs))
left_by b refs i none classes inside = ap (λ (rs : List Ref). with_more classes (classes_behind b rs)) (drop_more refs i none inside)

turned_at : (b : Bones) (r : Ref) (refs : List Ref) (classes : List (Ref × ℕ)) (turned' : Turned) (whole : Answer (List (Ref × ℕ))) → whole ≡ with_more classes (classes_behind b (r ∷ refs))
    → Answers {R = ℕ} (Err turned') (class_behind r (object_of b r)) → Answers {R = List (Ref × ℕ)} (Err turned') whole
turned_at b r refs classes (turned.Refused why) whole is at = is ∙ no_class b r refs why classes at
turned_at b r refs classes (turned.Stopped error) whole is at = tt

-- one of them is turned down
pub turned_next : (b : Bones) (refs : List Ref) (i : ℕ) (none : Ref) (classes : List (Ref × ℕ)) (turned' : Turned) (whole : Answer (List (Ref × ℕ))) → i < length refs → whole ≡ with_more classes (classes_behind b (drop i refs))
    → Answers {R = ℕ} (Err turned') (class_behind (get_or refs i none) (object_of b (get_or refs i none))) → Answers {R = List (Ref × ℕ)} (Err turned') whole
turned_next b refs i none classes turned' whole inside is at =
    turned_at b (get_or refs i none) (drop (i + 1) refs) classes turned' whole (is ∙ left_by b refs i none classes inside) at

-- one of them has a class
pub class_next : (b : Bones) (refs : List Ref) (i : ℕ) (none : Ref) (class : ℕ) (classes more : List (Ref × ℕ)) (whole : Answer (List (Ref × ℕ))) → i < length refs → whole ≡ with_more classes (classes_behind b (drop i refs))
    → class_behind (get_or refs i none) (object_of b (get_or refs i none)) ≡ Ok class → more ≡ classes ++ (get_or refs i none, class) ∷ [] → whole ≡ with_more more (classes_behind b (drop (i + 1) refs))
class_next b refs i none class classes more whole inside is at pushed =
    is ∙ left_by b refs i none classes inside ∙ next_class b (get_or refs i none) (drop (i + 1) refs) class classes at
    ∙ ap (λ (cs : List (Ref × ℕ)). with_more cs (classes_behind b (drop (i + 1) refs))) (sym pushed)

-- none is left
pub none_left : (b : Bones) (refs : List Ref) (classes : List (Ref × ℕ)) (whole : Answer (List (Ref × ℕ))) → whole ≡ with_more classes (classes_behind b refs) → refs ≡ [] → whole ≡ Ok classes
none_left b refs classes whole is none = is ∙ ap (λ (rs : List Ref). with_more classes (classes_behind b rs)) none ∙ ap Ok (append-nil classes)

-- ---- the static rules

-- a statement with these literals
abbrev by_literals : Bones → Stmt → Answer (List (Ref × ℕ)) → Answer Stmt
by_literals b s classes = classes >>= (λ cs. checks (check_statement (classes_in b) cs s))

-- one of its literals is turned down
pub literal_turned : (b : Bones) (s : Stmt) (refs : List Ref) (turned' : Turned) → refs ≡ literals s → Answers {R = List (Ref × ℕ)} (Err turned') (classes_behind b refs) → Answers {R = Stmt} (Err turned') (checked_in ode b s)
literal_turned b s refs (turned.Refused why) are at = ap (λ (rs : List Ref). by_literals b s (classes_behind b rs)) (sym are) ∙ ap (by_literals b s) at
literal_turned b s refs (turned.Stopped error) are at = tt

-- they denote classes, so the rules answer
pub checked_by_rules : (b : Bones) (s : Stmt) (refs : List Ref) (classes : List (Ref × ℕ)) (known : List Class) (result : Result Stmt Turned) → refs ≡ literals s → classes_behind b refs ≡ Ok classes → known ≡ classes_in b
    → Answers result (checks (check_statement known classes s)) → Answers result (checked_in ode b s)
checked_by_rules b s refs classes known result are at same answers =
    subst (Answers result)
    (ap (λ (ks : List Class). checks (check_statement ks classes s)) same ∙ sym (ap (by_literals b s) at) ∙ ap (λ (rs : List Ref). by_literals b s (classes_behind b rs)) are)
    answers

-- they end by no error but want of memory, and touch nothing
pub leaves_rules : {R : Type 0} (result : Result R Turned) (context : Type 0) (a b : View) → AreQuiet a b → context → ((e : EngineError) → IsErrOf result (turned.Stopped e) → e ≡ error.Memory) → LeavesChecked result context a b
leaves_rules (Ok v) context a b quiet stays calm = leaves_ok v context a b quiet stays
leaves_rules (Err (turned.Refused why)) context a b quiet stays calm = leaves_refused why context a b quiet stays
leaves_rules {R = R} (Err (turned.Stopped e)) context a b quiet stays calm =
    subst (λ (by : EngineError). LeavesChecked {R = R} (Err (turned.Stopped by)) context a b) (sym (calm e refl)) (leaves_memory context a b quiet)

-- the classes that a context knows
pub classes_now : (tables : ℕ → ℕ → Table) (y : NumberTx) (x : ListTx) → RunsAs tables y x → declared_in y.first ≡ classes_in x.now.bones
classes_now tables y x runs = ap classes_in runs.first.stands.bones ∙ ap (λ (cs : List Declared). map (λ (c : Declared). c.class) cs) (sym runs.classes)
