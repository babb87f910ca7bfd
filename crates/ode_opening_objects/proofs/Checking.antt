-- Passes that ask something of each record, one behind the other, and carry along the first reference that doesn't fit.
use Rattle.std.proofs.Common.{◌≡◌, ℕ, zero, suc, ◌-◌, List, [], ◌∷◌, Bool, true, Option, Result, Ok, Err, refl, sym, ap, subst, ◌∙◌, arith}
use Rattle.std.specs.Prelude.{nat_lt, take, drop}
use Rattle.std.proofs.lemmas.Bool.{lt-ltb}
use Rattle.ode_codec.specs.declared.record.Counters.{Counters}
use Rattle.ode_codec.specs.declared.record.Record.{Record}
use Rattle.ode_keep.specs.Entries.{Entries, HasRisingKeys}
use Rattle.ode_passes.specs.Answers.{Answers, Leaves}
use Rattle.ode_passes.specs.Records.{record_in}
use Rattle.ode_passes.specs.Rules.{Ruled, ◌>>=◌, each, needs, through}
use Rattle.ode_passes.specs.Walking.{within}
use Rattle.ode_passes.specs.declared.cause.Cause.TheVariants as cause
use Rattle.ode_passes.specs.declared.error.OpenError.{OpenError}
use Rattle.ode_passes.specs.declared.error.OpenError.TheVariants as error
use Rattle.ode_value.specs.Keys.{activation_kind, entry_kind, object_kind, version_kind}
use Rattle.ode_value.specs.Limits.{queue_limit}
use Rattle.ode_value.specs.Records.{Row}
use Rattle.ode_value.specs.declared.class.Class.{Class}
use Rattle.ode_value.specs.declared.key.Key.{Key}
use Rattle.ode_opening_objects.specs.Heads.{head_in}
use Rattle.ode_opening_objects.specs.Known.{Known}
use Rattle.ode_opening_objects.specs.Numbers.{at, is_twice}
use Rattle.ode_opening_objects.specs.Objects.{object_keeps, objects_keep, references_keep, version_keeps}
use Rattle.ode_opening_objects.specs.Scenes.{checked, each_refers, fits, heads_from, keeps, objects_kept, passed, queued, referred, refers, scene_in, scene_kept, turn, versions_of}
use Rattle.ode_opening_objects.specs.States.{is_seen}
use Rattle.ode_opening_objects.specs.Triggers.{activation_keeps, at_most, entry_fits, entry_keeps, is_shared, none_over}
use Rattle.ode_opening_objects.specs.declared.head.Head.{Head}
use Rattle.ode_opening_objects.specs.declared.scene.Check.{Check}
use Rattle.ode_opening_objects.specs.declared.scene.Course.{Course}
use Rattle.ode_opening_objects.specs.declared.scene.Queue.{Queue}
use Rattle.ode_opening_objects.specs.declared.scene.Rule.TheVariants as rule
use Rattle.ode_opening_objects.specs.declared.states.States.{States}
use Rattle.ode_opening_objects.proofs.Gathering.{heads_are, numbers_are}
use Rattle.ode_opening_objects.proofs.Parts.{by_kinds}

-- ---- one rule behind another

together : (a b c : Ruled (Unit {0})) → ((a >>= λ _. b) >>= λ _. c) ≡ (a >>= λ _. (b >>= λ _. c))
together (Ok u) b c = refl
together (Err e) b c = refl

ended : (a : Ruled (Unit {0})) → (a >>= λ _. Ok tt) ≡ a
ended (Ok u) = refl
ended (Err e) = refl

-- a rule's scene goes on as it is
carried : {X : Type 0} (a : Ruled (Unit {0})) (s : Known) (next : Known → Ruled X) → ((a >>= λ _. Ok s) >>= next) ≡ (a >>= λ _. next s)
carried (Ok u) s next = refl
carried (Err e) s next = refl

-- ---- one pass

abbrev on : Check → Key → Record → Check
on c k r = record c { course = referred c.course k r }

abbrev Passes : Entries → Check → Type 0
Passes es c = (through checked c es >>= λ d. Ok d.course) ≡ passed c.rule es c.course

fits_step : (m : Ruled (Unit {0})) (c : Check) (k : Key) (r : Record) (es : Entries) → Passes es (on c k r)
    → (((m >>= λ _. Ok (on c k r)) >>= λ d. through checked d es) >>= λ d. Ok d.course)
    ≡ ((m >>= λ _. each (keeps c.rule c.course.scene) es)
    >>= λ _. Ok (record c.course { references = c.course.references >>= λ _. (refers c.course.scene k r >>= λ _. each_refers c.course.scene es) }))
fits_step (Ok u) c k r es more =
    more
    ∙ ap (λ (m : Ruled (Unit {0})). each (keeps c.rule c.course.scene) es >>= λ _. Ok (record c.course { references = m }))
    (together c.course.references (refers c.course.scene k r) (each_refers c.course.scene es))
fits_step (Err e) c k r es more = refl

record_step : (m : Ruled Record) (c : Check) (k : Key) (es : Entries) → ((r : Record) → Passes es (on c k r))
    → (((m >>= λ r. fits c.rule c.course.scene k r >>= λ _. Ok (on c k r)) >>= λ d. through checked d es) >>= λ d. Ok d.course)
    ≡ (((m >>= λ r. fits c.rule c.course.scene k r) >>= λ _. each (keeps c.rule c.course.scene) es)
    >>= λ _. Ok (record c.course { references = c.course.references >>= λ _. ((m >>= λ r. refers c.course.scene k r) >>= λ _. each_refers c.course.scene es) }))
record_step (Ok r) c k es more = fits_step (fits c.rule c.course.scene k r) c k r es (more r)
record_step (Err e) c k es more = refl

pub checked_course : (es : Entries) (c : Check) → Passes es c
checked_course [] c = ap (λ (m : Ruled (Unit {0})). Ok (record c.course { references = m })) (sym (ended c.course.references))
checked_course (e ∷ es) c = record_step (record_in e) c e.0 es (λ r. checked_course es (on c e.0 r))

pub check_goes : (es : Entries) (c d : Check) → through checked c es ≡ Ok d → passed c.rule es c.course ≡ Ok d.course
check_goes es c d ran = sym (checked_course es c) ∙ ap (λ m. m >>= λ t. Ok t.course) ran

pub check_stops : (es : Entries) (c d : Check) (e : OpenError) → Leaves {X = Unit {0}} (through checked c es) d (Err e) → Answers (passed c.rule es c.course) (Err e)
check_stops es c d (error.BadFile why) ran = sym (checked_course es c) ∙ ap (λ m. m >>= λ t. Ok t.course) ran
check_stops es c d error.DiskFault ran = tt
check_stops es c d error.Memory ran = tt

-- ---- the queue

abbrev Waits : Entries → ℕ → Course → Type 0
Waits es n c =
    (through queued (record { course = c; left = n }) es >>= λ p. Ok p.course)
    ≡ (at_most n (turn c.scene) es >>= λ _. Ok (record c { references = c.references >>= λ _. each_refers c.scene es }))

abbrev turned : Course → Key → ℕ → Record → Ruled Queue
turned c k n r = needs (cause.Record k) (entry_fits c.scene.counters c.scene.classes (at c.scene.heads) r) >>= λ _. Ok (record { course = referred c k r; left = n })

turn_step : (m : Ruled (Unit {0})) (c : Course) (k : Key) (r : Record) (n : ℕ) (es : Entries) → Waits es n (referred c k r)
    → (((m >>= λ _. Ok (record { course = referred c k r; left = n })) >>= λ p. through queued p es) >>= λ p. Ok p.course)
    ≡ (((m >>= λ _. each (turn c.scene) (take n es)) >>= λ _. none_over (drop n es))
    >>= λ _. Ok (record c { references = c.references >>= λ _. (refers c.scene k r >>= λ _. each_refers c.scene es) }))
turn_step (Ok u) c k r n es more =
    more
    ∙ ap (λ (m : Ruled (Unit {0})). at_most n (turn c.scene) es >>= λ _. Ok (record c { references = m }))
    (together c.references (refers c.scene k r) (each_refers c.scene es))
turn_step (Err e) c k r n es more = refl

turn_record : (m : Ruled Record) (c : Course) (k : Key) (n : ℕ) (es : Entries) → ((r : Record) → Waits es n (referred c k r))
    → (((m >>= turned c k n) >>= λ p. through queued p es) >>= λ p. Ok p.course)
    ≡ ((((m >>= λ r. needs (cause.Record k) (entry_fits c.scene.counters c.scene.classes (at c.scene.heads) r)) >>= λ _. each (turn c.scene) (take n es)) >>= λ _. none_over (drop n es))
    >>= λ _. Ok (record c { references = c.references >>= λ _. ((m >>= λ r. refers c.scene k r) >>= λ _. each_refers c.scene es) }))
turn_record (Ok r) c k n es more = turn_step (needs (cause.Record k) (entry_fits c.scene.counters c.scene.classes (at c.scene.heads) r)) c k r n es (more r)
turn_record (Err e) c k n es more = refl

queue_turn : (n : ℕ) (c : Course) (e : Row) → queued (record { course = c; left = suc n }) e ≡ (record_in e >>= turned c e.0 n)
queue_turn n c e =
    let some : nat_lt 0 (suc n) ≡ true = lt-ltb 0 (suc n) (omega arith) in
    let one : suc n - 1 ≡ n = omega arith in
    ap (λ (b : Bool). needs (cause.Record e.0) b >>= λ _. (record_in e >>= turned c e.0 (suc n - 1))) some
    ∙ ap (λ (left : ℕ). record_in e >>= turned c e.0 left) one

pub queue_course : (es : Entries) (left : ℕ) (c : Course) → Waits es left c
queue_course [] zero c = ap (λ (m : Ruled (Unit {0})). Ok (record c { references = m })) (sym (ended c.references))
queue_course [] (suc n) c = ap (λ (m : Ruled (Unit {0})). Ok (record c { references = m })) (sym (ended c.references))
queue_course (e ∷ es) zero c = refl
queue_course (e ∷ es) (suc n) c =
    ap (λ (m : Ruled Queue). (m >>= λ p. through queued p es) >>= λ p. Ok p.course) (queue_turn n c e)
    ∙ turn_record (record_in e) c e.0 n es (λ r. queue_course es n (referred c e.0 r))

abbrev queue_left : Entries → ℕ → Course → Ruled Course
queue_left es left c = at_most left (turn c.scene) es >>= λ _. Ok (record c { references = c.references >>= λ _. each_refers c.scene es })

pub queue_goes : (es : Entries) (left : ℕ) (c : Course) (q : Queue) → through queued (record { course = c; left = left }) es ≡ Ok q → queue_left es left c ≡ Ok q.course
queue_goes es left c q ran = sym (queue_course es left c) ∙ ap (λ m. m >>= λ p. Ok p.course) ran

pub queue_stops : (es : Entries) (left : ℕ) (c : Course) (q : Queue) (e : OpenError) → Leaves {X = Unit {0}} (through queued (record { course = c; left = left }) es) q (Err e)
    → Answers (queue_left es left c) (Err e)
queue_stops es left c q (error.BadFile why) ran = sym (queue_course es left c) ∙ ap (λ m. m >>= λ p. Ok p.course) ran
queue_stops es left c q error.DiskFault ran = tt
queue_stops es left c q error.Memory ran = tt

-- ---- all passes

-- rules of three passes, and what these carry along
module _ (s : Known) (second third : Known → Ruled (Unit {0})) (first_refers : Ruled (Unit {0})) (second_refers third_refers : Known → Ruled (Unit {0})) where
  abbrev last : Course → Ruled (Unit {0})
  last d = (third d.scene >>= λ _. Ok (record d { references = d.references >>= λ _. third_refers d.scene })) >>= λ f. f.references

  abbrev later : Course → Ruled (Unit {0})
  later c = (second c.scene >>= λ _. Ok (record c { references = c.references >>= λ _. second_refers c.scene })) >>= last

  by_third : (m : Ruled (Unit {0})) (references : Ruled (Unit {0})) → ((m >>= λ _. Ok (record { scene = s; references = references >>= λ _. third_refers s })) >>= λ (f : Course). f.references)
      ≡ (m >>= λ _. (references >>= λ _. third_refers s))
  by_third (Ok u) references = refl
  by_third (Err e) references = refl

  by_second : (m : Ruled (Unit {0})) → ((m >>= λ _. Ok (record { scene = s; references = first_refers >>= λ _. second_refers s })) >>= last)
      ≡ (m >>= λ _. (third s >>= λ _. (first_refers >>= λ _. (second_refers s >>= λ _. third_refers s))))
  by_second (Ok u) =
      by_third (third s) (first_refers >>= λ _. second_refers s)
      ∙ ap (λ (m : Ruled (Unit {0})). third s >>= λ _. m) (together first_refers (second_refers s) (third_refers s))
  by_second (Err e) = refl

  by_first : (m : Ruled (Unit {0})) → ((m >>= λ _. Ok (record { scene = s; references = first_refers })) >>= later)
      ≡ (m >>= λ _. (second s >>= λ _. (third s >>= λ _. (first_refers >>= λ _. (second_refers s >>= λ _. third_refers s)))))
  by_first (Ok u) = by_second (second s)
  by_first (Err e) = refl

module _ (entries : Entries) (s : Known) where
  abbrev versions : Entries
  versions = within version_kind version_kind entries

  abbrev activations : Entries
  activations = within activation_kind activation_kind entries

  abbrev queue : Entries
  queue = within entry_kind entry_kind entries

  -- the passes as the program makes them come to their rules, one behind the other
  kept_in_rules : scene_kept entries s
      ≡ (each (keeps rule.Versions s) versions >>= λ _. (each (keeps rule.Activations s) activations >>= λ _. (at_most queue_limit (turn s) queue
      >>= λ _. (each_refers s versions >>= λ _. (each_refers s activations >>= λ _. each_refers s queue)))))
  kept_in_rules =
      by_first s (λ t. each (keeps rule.Activations t) activations) (λ t. at_most queue_limit (turn t) queue) (each_refers s versions) (λ t. each_refers t activations)
      (λ t. each_refers t queue) (each (keeps rule.Versions s) versions)

module _ (counters : Counters) (reached : ℕ → ℕ → ℕ → Bool) (classes : List Class) (states : States) (same : (class place state : ℕ) → is_seen states class place state ≡ reached class place state)
    (entries : Entries) (rising : HasRisingKeys entries) where
  abbrev next : ℕ
  next = counters.next_number

  abbrev objects : Entries
  objects = within object_kind object_kind entries

  abbrev known : Known
  known = scene_in counters classes states entries

  -- and by the objects
  abbrev known_then : Known
  known_then = record known { heads = heads_from [] objects }

  abbrev A : Ruled (Unit {0})
  A = each (object_keeps next classes (versions_of entries)) objects

  -- by the objects, by what the records of activations tell, by the tables, and by the references
  abbrev ruled : (ℕ → Option Head) → (ℕ → Bool) → (ℕ → ℕ → ℕ → Bool) → Ruled (Unit {0}) → Ruled (Unit {0})
  ruled heads shared seen references =
      A >>= λ _. (each (version_keeps counters.added classes heads) (within version_kind version_kind entries)
      >>= λ _. (each (activation_keeps next classes heads shared seen) (within activation_kind activation_kind entries)
      >>= λ _. (at_most queue_limit (entry_keeps counters classes heads) (within entry_kind entry_kind entries)
      >>= λ _. references)))

  -- the references by kinds of records, and all of them
  abbrev part_refers : (ℕ → Option Head) → ℕ → Ruled (Unit {0})
  part_refers heads kind = each (references_keep next classes heads) (within kind kind entries)

  abbrev parts_refer : (ℕ → Option Head) → Ruled (Unit {0})
  parts_refer heads = part_refers heads version_kind >>= λ _. (part_refers heads activation_kind >>= λ _. part_refers heads entry_kind)

  abbrev all_refer : Ruled (Unit {0})
  all_refer = each (references_keep next classes (head_in objects)) (within version_kind entry_kind entries)

  pub in_passes : (objects_kept entries known >>= λ s. scene_kept entries s) ≡ objects_keep counters reached classes entries
  unfolding objects_keep
  in_passes =
      carried A known_then (λ s. scene_kept entries s)
      ∙ ap (λ (m : Ruled (Unit {0})). A >>= λ _. m) (kept_in_rules entries known_then)
      ∙ ap (λ (heads : ℕ → Option Head). ruled heads (is_twice known.numbers) (is_seen states) (parts_refer heads)) (heads_are objects)
      ∙ ap (ruled (head_in objects) (is_twice known.numbers) (is_seen states)) (sym (by_kinds (references_keep next classes (head_in objects)) entries rising))
      ∙ ap (λ (shared : ℕ → Bool). ruled (head_in objects) shared (is_seen states) all_refer) (numbers_are (within activation_kind activation_kind entries))
      ∙ ap (λ (seen : ℕ → ℕ → ℕ → Bool). ruled (head_in objects) (is_shared (within activation_kind activation_kind entries)) seen all_refer) (λ i class place state. same class place state i)

-- ---- one pass behind another

module _ {X Y : Type 0} (m : Ruled X) (x : X) (next : X → Ruled Y) (is : m ≡ Ok x) where
  pub next_is : (r : Result Y OpenError) → Answers {X = Y} (next x) r → Answers {X = Y} (m >>= next) r
  next_is r answers = subst (λ (n : Ruled X). Answers {X = Y} (n >>= next) r) (sym is) answers
