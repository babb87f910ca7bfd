-- How one step of a piece follows another.
use Rattle.std.proofs.Common.{◌≡◌, Bool, Option, Result, None, Ok, Err, ap, refl, subst, sym, true}
use Rattle.std.specs.Prelude.{IsErrOf}
use Rattle.ode_heap.specs.Answers.{Answers as Finds, Found, There, UnlessFault, is_usable}
use Rattle.ode_heap.specs.declared.error.HeapError.{HeapError}
use Rattle.ode_heap.specs.declared.error.HeapError.TheVariants as heap
use Rattle.ode_host.proofs.Calls.{rose_as, rose_none, rose_on}
use Rattle.ode_host.proofs.Moments.{looks_joined, looks_none}
use Rattle.ode_host.specs.Causes.{RoseIf}
use Rattle.ode_host.specs.Host.{Looks}
use Rattle.ode_host.specs.View.{View}
use Rattle.ode_keep.specs.Entries.{Entries}
use Rattle.ode_language.specs.Answers.{Answers as Reads}
use Rattle.ode_language.specs.declared.reading.ReadStop.{ReadStop}
use Rattle.ode_language.specs.declared.reading.ReadStop.TheVariants as read
use Rattle.ode_run_frame.specs.Knowing.{IsSound, Since, Until}
use Rattle.ode_run_frame.specs.declared.unread.Unread.{Unread}
use Rattle.ode_types.specs.Answers.{Answers as Checks}
use Rattle.ode_types.specs.Checks.{Check}
use Rattle.ode_types.specs.declared.stop.CheckStop.{CheckStop}
use Rattle.ode_types.specs.declared.stop.CheckStop.TheVariants as check
use Rattle.ode_value.specs.Answers.{Answer, checks}
use Rattle.ode_questions.specs.Saying.{Told, ◌>>=◌, refusing}
use Rattle.ode_questions.specs.Steps.{Answers, AnswersOver, stopped_by, turned_by_check, turned_by_heap, turned_by_reading, unread_by}
use Rattle.ode_questions.specs.declared.turned.Turned.{Turned}
use Rattle.ode_questions.specs.declared.turned.Turned.TheVariants as turned
use Rattle.ode_questions.specs.declared.turned.Why.{Why}

-- ---- what is meant

pub answers_then : {A B : Type 0} (m : Told A) (f : A → Told B) (x : A) (result : Result B Turned) → m ≡ Ok x → Answers (f x) result → Answers (m >>= f) result
answers_then m f x result is answers = subst (λ r. Answers r result) (sym (ap (λ r. r >>= f) is)) answers

pub answers_turned : {A B : Type 0} (m : Told A) (f : A → Told B) (t : Turned) → Answers {R = A} m (Err t) → Answers {R = B} (m >>= f) (Err t)
answers_turned m f (turned.Refused why) is = ap (λ r. r >>= f) is
answers_turned m f turned.Memory is = tt
answers_turned m f turned.DiskFault is = tt
answers_turned m f (turned.Damaged key) is = tt

pub over_ok : {R : Type 0} (m : Told R) (r : R) (holds : Type 0) → m ≡ Ok r → holds → AnswersOver m (Ok r) holds
over_ok m r holds is keeps = record { says = is; sound = tt; keeps = keeps }

pub over_refused : {R : Type 0} (m : Told R) (why : Why) (holds : Type 0) → m ≡ Err why → holds → AnswersOver {R = R} m (Err (turned.Refused why)) holds
over_refused m why holds is keeps = record { says = is; sound = tt; keeps = keeps }

pub over_memory : {R : Type 0} (m : Told R) (holds : Type 0) → holds → AnswersOver {R = R} m (Err turned.Memory) holds
over_memory m holds keeps = record { says = tt; sound = tt; keeps = keeps }

pub over_calm : {R : Type 0} (m : Told R) (result : Result R Turned) (holds : Type 0) → Answers m result → stopped_by result ≡ None → holds → AnswersOver m result holds
over_calm m result holds answers calm keeps = record {
  says = answers;
  sound = subst IsSound (sym calm) tt;
  keeps = subst (λ (s : Option Unread). Until s holds) (sym calm) keeps;
}

pub over_then : {A B : Type 0} (m : Told A) (f : A → Told B) (x : A) (result : Result B Turned) (holds : Type 0) → m ≡ Ok x → AnswersOver (f x) result holds → AnswersOver (m >>= f) result holds
over_then m f x result holds is over = record { says = answers_then m f x result is over.says; sound = over.sound; keeps = over.keeps }

pub over_turned : {A B : Type 0} (m : Told A) (f : A → Told B) (t : Turned) (holds : Type 0) → AnswersOver {R = A} m (Err t) holds → AnswersOver {R = B} (m >>= f) (Err t) holds
over_turned m f t holds over = record { says = answers_turned m f t over.says; sound = over.sound; keeps = over.keeps }

-- ---- refusals

pub refusing_ok : {R : Type 0} (a : Answer R) (r : R) → refusing a ≡ Ok r → a ≡ Ok r
refusing_ok (Ok s) r is = let same : s ≡ r = cc (is) in ap Ok same
refusing_ok (Err refusal) r is = absurd (cc (is))

pub read_refused : {R : Type 0} (m : Answer R) (stop : ReadStop) → Reads {R = R} m (Err stop) → Answers {R = R} (refusing m) (Err (turned_by_reading stop))
read_refused m read.Memory is = tt
read_refused m (read.Refused refusal) is = ap refusing is

pub read_calm : (stop : ReadStop) → unread_by (turned_by_reading stop) ≡ None
read_calm read.Memory = refl
read_calm (read.Refused refusal) = refl

abbrev pub checking : {R : Type 0} → Check R → Told R
checking m = refusing (checks m)

pub check_refused : {R : Type 0} (m : Check R) (stop : CheckStop) → Checks {T = R} m (Err stop) → Answers {R = R} (checking m) (Err (turned_by_check stop))
check_refused m check.Memory is = tt
check_refused m (check.Broken broken) is = ap checking is

pub check_calm : (stop : CheckStop) → unread_by (turned_by_check stop) ≡ None
check_calm check.Memory = refl
check_calm (check.Broken broken) = refl

-- ---- the host and the heap

pub since_none : (v : View) (live : Bool) → live ≡ true → Since v v live None
since_none v live is = record { looks = looks_none v; faults = rose_none _ v.disk_faults (λ is. cc (is)); usable = is }

pub since_on : (a b c : View) (was live : Bool) (stopped : Option Unread) → Since a b was None → Since b c live stopped → Since a c live stopped
since_on a b c was live stopped first second = record {
  looks = looks_joined a b c first.looks second.looks;
  faults = rose_on _ _ a.disk_faults b.disk_faults c.disk_faults (λ is. cc (is)) first.faults second.faults;
  usable = second.usable;
}

-- nothing more was called
pub since_calm : (a b : View) (live : Bool) (stopped : Option Unread) → stopped ≡ None → Since a b live None → Since a b live stopped
since_calm a b live stopped calm since = subst (λ (s : Option Unread). Since a b live s) (sym calm) since

module _ {X : Type 0} (a b : View) (live : Bool) (looks : Looks a b) where
  pub heap_found : (x : X) → live ≡ is_usable {X = X} (Ok x) → RoseIf (IsErrOf {T = X} (Ok x) heap.DiskFault) a.disk_faults b.disk_faults → Since a b live None
  heap_found x is rose = record { looks = looks; faults = rose_as _ _ a.disk_faults b.disk_faults (λ is. cc (is)) (λ is. cc (is)) rose; usable = is }

  pub heap_since : (e : HeapError) → live ≡ is_usable {X = X} (Err e) → RoseIf (IsErrOf {T = X} (Err e) heap.DiskFault) a.disk_faults b.disk_faults → Since a b live (unread_by (turned_by_heap e))
  heap_since heap.Memory is rose = record { looks = looks; faults = rose_as _ _ a.disk_faults b.disk_faults (λ is. cc (is)) (λ is. cc (is)) rose; usable = is }
  heap_since heap.DiskFault is rose = record { looks = looks; faults = rose_as _ _ a.disk_faults b.disk_faults (λ is. refl) (λ is. refl) rose; usable = tt }
  heap_since (heap.TooLarge total) is rose = record { looks = looks; faults = rose_as _ _ a.disk_faults b.disk_faults (λ is. cc (is)) (λ is. cc (is)) rose; usable = is }
  heap_since (heap.Damaged key) is rose = record { looks = looks; faults = rose_as _ _ a.disk_faults b.disk_faults (λ is. cc (is)) (λ is. cc (is)) rose; usable = is }

-- what is found is what is there
pub found_there : {X : Type 0} (x : X) (found : Found X) (y : X) → Finds {X = X} (Ok x) found → found ≡ There y → x ≡ y
found_there x found y finds there = cc (finds, there)

-- what holds at each error but a fault of the disk
pub heap_unless : (X : Type 0) (A B : Entries → Type 0) (e : HeapError) → UnlessFault {X = X} (Err e) ((entries : Entries) → A entries → B entries) → (entries : Entries) → A entries → UnlessFault {X = X} (Err e) (B entries)
heap_unless X A B heap.Memory holds entries kept = let all : (entries : Entries) → A entries → B entries = holds in all entries kept
heap_unless X A B heap.DiskFault holds entries kept = tt
heap_unless X A B (heap.TooLarge total) holds entries kept = let all : (entries : Entries) → A entries → B entries = holds in all entries kept
heap_unless X A B (heap.Damaged key) holds entries kept = let all : (entries : Entries) → A entries → B entries = holds in all entries kept

-- where the records have what is looked for, no error says that they are damaged
pub heap_over : {X R : Type 0} (m : Told R) (e : HeapError) (found : Found X) (x : X) (holds : Type 0) → Finds {X = X} (Err e) found → found ≡ There x → UnlessFault {X = X} (Err e) holds
    → AnswersOver {R = R} m (Err (turned_by_heap e)) holds
heap_over m heap.Memory found x holds finds there keeps = record { says = tt; sound = tt; keeps = keeps }
heap_over m heap.DiskFault found x holds finds there keeps = record { says = tt; sound = tt; keeps = tt }
heap_over m (heap.TooLarge total) found x holds finds there keeps = absurd finds
heap_over m (heap.Damaged key) found x holds finds there keeps = absurd (cc (finds, there))
