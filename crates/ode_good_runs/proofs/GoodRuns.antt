-- Each world of a run is good.
use Rattle.std.proofs.Common.{◌≡◌, ◌*◌, ℕ, ◌+◌, ◌^◌, Bool, true, false, cond, List, [], ◌∷◌, ◌++◌, map, length, Option, Some, None, Result, Ok, Err, refl, sym, ap, ◌∙◌, subst, ◌<◌, ◌≤◌, arith}
use Rattle.std.specs.Prelude.{ℤ, ◌&&◌, ◌==◌, int_lt, is_some, nat_lt, not, FitsSigned}
use Rattle.std.specs.Int.{w64}
use Rattle.std.specs.List.{AllByRecursion, sum_by}
use Rattle.std.proofs.lemmas.List.Sums.{sum_by-cons}
use Rattle.std.specs.Option.{IfSome, ok_or, option_map_or}
use Rattle.std.proofs.lemmas.Bool.{ltb-true}
use Rattle.std.proofs.lemmas.Bool.Decides.{nat_tests}
use Rattle.ode_value.specs.declared.change.Change.{Change}
use Rattle.ode_value.specs.declared.class.Class.{Class}
use Rattle.ode_value.specs.declared.reason.CheckError.{CheckError}
use Rattle.ode_value.specs.declared.reason.Reason.TheVariants.{Asked, End}
use Rattle.ode_value.specs.declared.reason.Refusal.TheVariants as refusal
use Rattle.ode_value.specs.declared.statement.ClassDecl.{ClassDecl}
use Rattle.ode_value.specs.declared.statement.Statement.{Statement}
use Rattle.ode_value.specs.declared.statement.Statement.TheVariants as statement
use Rattle.ode_value.specs.declared.statement.Stmt.{Stmt}
use Rattle.ode_value.specs.declared.value.Ref.{Ref}
use Rattle.ode_value.specs.Acts.{Outcome, Done, Aborted}
use Rattle.ode_value.specs.Answers.{Answer, checks, refuses}
use Rattle.ode_value.specs.Draining.{drain, with_drain, world_after}
use Rattle.ode_value.specs.Executing.{commands}
use Rattle.ode_value.specs.GoodWorlds.{IsGood, IsObject, IsPosition}
use Rattle.ode_value.specs.Language.{ListWorld, ListTx, Settlings, Language}
use Rattle.ode_value.specs.Limits.{drain_limit, due_limit, number_limit, transaction_limit, weight_limit}
use Rattle.ode_value.specs.Objects.{Histories, Starts}
use Rattle.ode_value.specs.Pasts.{lists}
use Rattle.ode_value.specs.References.{IsRef}
use Rattle.ode_value.specs.Settling.{Settled, abort, transaction}
use Rattle.ode_value.specs.Transactions.{Script}
use Rattle.ode_value.specs.Worlds.{Bones, Declared, Object, Position, class_numbered}
use Rattle.ode_machine.specs.Commands.{Step, after, settles, bones_now, goes_on, does_simple, ends_open, commits, does_change, does_class, does_clock, carried, changes, command, finish, read_piece}
use Rattle.ode_machine.specs.Refusals.{changed_in, classes_behind, classes_in, checked_in, declared_in, due_from, few, is_lone, place_of, placed, placed_change, spends, ticks_in}
use Rattle.ode_machine.specs.Sessions.{Session, closed}
use Rattle.ode_machine.specs.TimeRows.{kinds_of, time_row, time_rows}
use Rattle.ode_machine.specs.Works.{changes_class, declares, clock_run}
use Rattle.ode_script.specs.Cutting.{Ending, Pieces, Then, Ended, pieces}
use Rattle.ode_script.specs.Cutting as cutting
use Rattle.ode_timer.specs.declared.clock.TimeRow.{TimeRow}
use Rattle.ode_timer.specs.Due.{behind, due}
use Rattle.ode_machine.specs.Runs.{Item, item_of, answered, followed_by, ending_items, pieces_items, trace, worlds}
use Rattle.ode_value.specs.Lengths.{key_length, piece_count, record_length}
use Rattle.ode_value.specs.PrintedClasses.{decl_text}
use Rattle.ode_value.specs.Weights.{class_weight, object_weight, trigger_weight, weight}
use Rattle.ode_accepted_laws.specs.Languages.{HasSoundRules, text_size}
use Rattle.ode_laws.proofs.Each.{all-append, all-map, all-then}
use Rattle.ode_run_laws.proofs.JoinLaws.{worlds_join}
use Rattle.ode_sound_laws.specs.Sound.{checked_classes}
use Rattle.ode_good_laws.specs.Changed.{HasSoundChanges}
use Rattle.ode_good_laws.specs.Well.{IsWell}
use Rattle.ode_good_laws.proofs.ClockRuns.{clock_well}
use Rattle.ode_good_laws.proofs.GoodAgain.{drain_well, good_classes, statement_well}
use Rattle.ode_good_runs.specs.Reading.{ReadsWell}
use Rattle.ode_good_runs.proofs.Changing.{change_well}
use Rattle.ode_good_runs.proofs.Declaring.{class_well, classes_accepted, declared_is}
use Rattle.ode_good_runs.proofs.DueLaws.{FitsRow, behind_fits, due_few, due_fits, kind_count}
use Rattle.ode_good_runs.proofs.Going.{Goes, IsFirst, IsGoing, begun_going, commits_well, settles_well, statement_goes, well_first}
use Rattle.ode_good_runs.proofs.Literals.{literals_fit, then_answer, then_ok, ok_same}

-- ---- the texts of classes are part of a world's weight

text_weight : (c : Declared) → text_size c ≤ class_weight c
text_weight c = part (length (decl_text c.tree)) (record_length (11 + length c.class.name)) (key_length * piece_count (length (decl_text c.tree))) (sum_by trigger_weight c.class.triggers) where
  part : (n a b s : ℕ) → n ≤ a + (b + n) + s
  part n a b s = omega arith

texts_weight : (cs : List Declared) → sum_by text_size cs ≤ sum_by class_weight cs
texts_weight [] = omega arith
texts_weight (c ∷ cs) =
    let one : sum_by text_size (c ∷ cs) ≡ text_size c + sum_by text_size cs = sum_by-cons text_size c cs in
    let two : sum_by class_weight (c ∷ cs) ≡ class_weight c + sum_by class_weight cs = sum_by-cons class_weight c cs in
    omega (arith, one, two, text_weight c, texts_weight cs)

texts_light : (b : Bones) → sum_by text_size b.classes ≤ weight b
unfolding weight
texts_light b = let less = texts_weight b.classes in omega (arith, less)

-- each object is part of it
objects_weight : (classes : List Declared) (os : List Object) → length os ≤ sum_by (object_weight classes) os
objects_weight classes [] = omega arith
objects_weight classes (o ∷ os) =
    let whole : sum_by (object_weight classes) (o ∷ os) ≡ object_weight classes o + sum_by (object_weight classes) os = sum_by-cons (object_weight classes) o os in
    let some : 1 ≤ object_weight classes o = omega arith in
    omega (arith, whole, some, objects_weight classes os)

objects_light : (b : Bones) → length b.objects ≤ weight b
unfolding weight
objects_light b = let less = objects_weight b.classes b.objects in omega (arith, less)

module _ (l : Language) (rules : HasSoundRules l) (reads : ReadsWell l) where
  abbrev AllWell : Settlings → Type 0
  AllWell settled = AllByRecursion (λ (s : Settled Histories Starts). IsWell l s.0) settled

  -- a number is left for a transaction
  abbrev HasRoom : ListWorld → Type 0
  HasRoom w = w.bones.transaction < transaction_limit

  -- ---- sessions

  -- an open transaction goes on from its world, with a number
  record IsOpened (w : ListWorld) (well : IsWell l w) (x : ListTx) : Type 0 where
    going : IsGoing w (well_first l w well) x
    left : HasRoom w

  abbrev IsOpen : (w : ListWorld) → IsWell l w → Option ListTx → Type 0
  IsOpen w well None = Unit {0}
  IsOpen w well (Some x) = IsOpened w well x

  record IsFine (s : Session) : Type 0 where
    world : IsWell l s.world
    open_tx : IsOpen s.world world s.open_tx

  -- a step: what it settles is good, and so is the session behind it
  record GoesWell (step : Step) : Type 0 where
    all : AllWell step.1
    fine : IsFine step.0

  after_well : (w : ListWorld) (settled : Settlings) → IsWell l w → AllWell settled → GoesWell (after w settled)
  after_well w settled h all = record { all = all; fine = record { world = last w settled h all; open_tx = tt } } where
    last : (v : ListWorld) (rest : Settlings) → IsWell l v → AllWell rest → IsWell l (world_after v rest)
    last v [] h all = h
    last v (s ∷ rest) h all = last s.0 rest all.0 all.1

  step_well : (t : Settled Histories Starts) → IsWell l t.0 → GoesWell (settles t)
  step_well t h = after_well t.0 (with_drain lists drain_limit t) h (h, drain_well l drain_limit t.0 h)

  -- an open transaction ends
  ends_well : (s : Session) → (fine : IsFine s) → (how : ListTx → Settled Histories Starts) → ((x : ListTx) → IsOpened s.world fine.world x → IsWell l (how x).0) → GoesWell (ends_open s s.open_tx how)
  ends_well s fine how well = by_open s.open_tx fine.open_tx where
    by_open : (o : Option ListTx) → IsOpen s.world fine.world o → GoesWell (ends_open s o how)
    by_open None goes = record { all = tt; fine = fine }
    by_open (Some x) goes = step_well (how x) (well x goes)

  abort_well : (w : ListWorld) (well : IsWell l w) → HasRoom w → (reason : _) (x : ListTx) → IsGoing w (well_first l w well) x → IsWell l (abort lists reason x).0
  abort_well w well left reason x going = settles_well w (well_first l w well) l (good_classes l w.bones well.good.bones) left well.good.bones.clock (Aborted reason x) going well.good.bones.light

  commit_well : (w : ListWorld) (well : IsWell l w) (x : ListTx) → IsOpened w well x → IsWell l (commits x).0
  commit_well w well x opened_tx = commits_well w (well_first l w well) l (good_classes l w.bones well.good.bones) opened_tx.left well.good.bones.clock well.good.bones.light x opened_tx.going

  -- a statement in it
  goes_well : (w : ListWorld) (well : IsWell l w) → HasRoom w → (p : Outcome Histories Starts (Unit {0})) → Goes w (well_first l w well) p → GoesWell (goes_on w p)
  goes_well w well left (Done r x) goes = record { all = tt; fine = record { world = well; open_tx = record { going = goes; left = left } } }
  goes_well w well left (Aborted r x) goes = step_well (abort lists r x) (abort_well w well left r x goes)

  abbrev AnswersWell : Answer Step → Type 0
  AnswersWell (Ok step) = GoesWell step
  AnswersWell (Err refusal) = Unit {0}

  -- ---- simple statements

  -- a statement that is checked by the classes of the literals that it names
  checked_well : (s : Session) (o : Option ListTx) (t : Stmt)
      → ((literals : List (Ref × ℕ)) (c : Stmt) → classes_behind (bones_now s o) (l.literals t) ≡ Ok literals → l.checked (classes_in (bones_now s o)) literals t ≡ Ok c → GoesWell (does_simple s o c))
      → AnswersWell (then_answer (checked_in l (bones_now s o) t) (λ c. Ok (does_simple s o c)))
  checked_well s o t well = by_literals (classes_behind (bones_now s o) (l.literals t)) refl where
    by_check : (literals : List (Ref × ℕ)) → classes_behind (bones_now s o) (l.literals t) ≡ Ok literals → (r : Result Stmt CheckError) → l.checked (classes_in (bones_now s o)) literals t ≡ r
        → AnswersWell (then_answer (checks r) (λ c. Ok (does_simple s o c)))
    by_check literals behind (Ok c) e = well literals c behind e
    by_check literals behind (Err error) e = tt

    by_literals : (a : Answer (List (Ref × ℕ))) → classes_behind (bones_now s o) (l.literals t) ≡ a
        → AnswersWell (then_answer (then_answer a (λ literals. checks (l.checked (classes_in (bones_now s o)) literals t))) (λ c. Ok (does_simple s o c)))
    by_literals (Ok literals) e = by_check literals e (l.checked (classes_in (bones_now s o)) literals t) refl
    by_literals (Err refusal) e = tt

  simple_well : (s : Session) → IsFine s → (s.open_tx ≡ None → HasRoom s.world) → (t : Stmt) → AllByRecursion IsRef (l.literals t) → AnswersWell (then_answer (checked_in l (bones_now s s.open_tx) t) (λ c. Ok (does_simple s s.open_tx c)))
  simple_well s fine room t refs = by_open s.open_tx refl fine.open_tx where
    first : IsFirst s.world
    first = well_first l s.world fine.world

    by_open : (o : Option ListTx) → s.open_tx ≡ o → IsOpen s.world fine.world o → AnswersWell (then_answer (checked_in l (bones_now s o) t) (λ c. Ok (does_simple s o c)))
    by_open None is goes = checked_well s None t (λ literals c behind checked.
        step_well (transaction lists Script (commands lists c) s.world)
        (statement_well l s.world fine.world (room is) literals (literals_fit s.world.bones first.typed.fit (l.literals t) refs literals behind) c (rules.checked (checked_classes s.world.bones.classes) literals t c checked)))
    by_open (Some x) is goes = checked_well s (Some x) t (λ literals c behind checked.
        goes_well s.world fine.world goes.left (commands lists c x)
        (statement_goes s.world first x goes.going literals (literals_fit x.now.bones goes.going.typed.now (l.literals t) refs literals behind) c (rules.checked (checked_classes x.now.bones.classes) literals t c checked)))

  -- ---- the clock

  -- a class lists no more kinds than a world may weigh bytes
  kinds_light : (w : ListWorld) → IsGood l w → AllByRecursion (λ (c : Declared). length c.class.kinds ≤ weight_limit) w.bones.classes
  kinds_light w h =
      all-then (λ (c : Declared). length c.class.kinds ≤ sum_by text_size w.bones.classes) (λ (c : Declared). length c.class.kinds ≤ weight_limit) (λ c few. omega (arith, few, texts_light w.bones, h.bones.light)) w.bones.classes
      (rules.kinds w.bones.added w.bones.classes (classes_accepted l w.bones.added [] w.bones.classes h.bones.classes))

  few_kinds : (n : ℕ) (cs : List Declared) → AllByRecursion (λ (c : Declared). length c.class.kinds ≤ weight_limit) cs → length (kinds_of cs n) ≤ weight_limit
  few_kinds n [] all = omega arith
  few_kinds n (c ∷ cs) all = by_number (c.class.number == n) all.0 (few_kinds n cs all.1) where
    by_number : (b : Bool) → length c.class.kinds ≤ weight_limit → length (kinds_of cs n) ≤ weight_limit → length (option_map_or (λ (k : Class). k.kinds) (cond b (Some c.class) (class_numbered n cs)) []) ≤ weight_limit
    by_number true one rest = one
    by_number false one rest = rest

  pub time_fits : (w : ListWorld) → IsGood l w → AllByRecursion FitsRow (time_rows w.bones)
  time_fits w h = all-map FitsRow (time_row w.bones.classes) w.bones.objects (all-then (IsObject w.bones) (λ (o : Object). FitsRow (time_row w.bones.classes o)) row w.bones.objects h.bones.objects) where
    below : (o : Object) → o.id < w.bones.next → o.id < 2 ^ 64
    below o less = omega (arith, less, h.bones.next.bounded)

    row : (o : Object) → IsObject w.bones o → FitsRow (time_row w.bones.classes o)
    row o is = let few = few_kinds o.class w.bones.classes (kinds_light w h) in record { object = below o is.number; places = omega (arith, few) }

  -- ---- a counter of 128 bits counts all that is due

  rows_few : (cs : List Declared) → AllByRecursion (λ (c : Declared). length c.class.kinds ≤ weight_limit) cs → (os : List Object) → kind_count (map (time_row cs) os) ≤ weight_limit * length os
  rows_few cs all [] = omega arith
  rows_few cs all (o ∷ os) =
      let whole : kind_count (map (time_row cs) (o ∷ os)) ≡ length (kinds_of cs o.class) + kind_count (map (time_row cs) os) = sum_by-cons (λ (row : TimeRow). length row.kinds) (time_row cs o) (map (time_row cs) os) in
      omega (arith, whole, few_kinds o.class cs all, rows_few cs all os)

  pub due_counts : (w : ListWorld) → IsGood l w → (old : Position) → IsPosition old → (t : ℤ) → FitsSigned w64 t → length (due (time_rows w.bones) old t) < 2 ^ 128
  due_counts w h old is t fits =
      let objects = objects_light w.bones in
      let kinds = rows_few w.bones.classes (kinds_light w h) w.bones.objects in
      due_few (time_rows w.bones) (omega (arith, objects, kinds, h.bones.light)) old is t fits

  -- what is due up to an instant: few positions, in their range
  pub record AreDue (ps : List Position) : Type 0 where
    pub few : length ps ≤ due_limit
    pub fit : AllByRecursion IsPosition ps

  due_of : (w : ListWorld) → IsWell l w → (t : ℤ) → FitsSigned w64 t → (ps : List Position) → due_from w.bones w.bones.clock t ≡ Ok ps → AreDue ps
  due_of w h t fits ps e = by_clock w.bones.clock h.good.bones.clock e where
    none : AreDue []
    none = record { few = omega arith; fit = tt }

    few_are : (n : ℕ) → nat_lt due_limit n ≡ false → n ≤ due_limit
    few_are n e = grind (arith, nat_tests)

    by_few : (qs : List Position) → AllByRecursion IsPosition qs → (b : Bool) → nat_lt due_limit (length qs) ≡ b → then_answer (refuses b (refusal.TooManyDue (length qs))) (λ u. Ok qs) ≡ Ok ps → AreDue ps
    by_few qs all true many f = absurd (cc)
    by_few qs all false many f = subst AreDue (ok_same qs ps f) (record { few = few_are (length qs) many; fit = all })

    by_order : (old : Position) → IsPosition old → (b : Bool) → then_answer (refuses b refusal.ClockBack) (λ u. few (due (time_rows w.bones) old t)) ≡ Ok ps → AreDue ps
    by_order old is true f = absurd (cc)
    by_order old is false f =
        let qs = due (time_rows w.bones) old t in
        by_few qs (due_fits (time_rows w.bones) (time_fits w h.good) old is t fits) (nat_lt due_limit (length qs)) refl f

    by_clock : (o : Option Position) → IfSome o IsPosition → due_from w.bones o t ≡ Ok ps → AreDue ps
    by_clock None is f = subst AreDue (ok_same [] ps f) none
    by_clock (Some old) is f = by_order old is (int_lt t old.instant) f

  pub ticks_of : (w : ListWorld) → IsWell l w → (text : List ℕ) (r : ℤ × List Position) → ticks_in l w.bones text ≡ Ok r → FitsSigned w64 r.0 × AreDue r.1
  ticks_of w h text r e =
      let instant = then_ok (ok_or (l.instant_of text) refusal.BadInstant) (λ t. then_answer (due_from w.bones w.bones.clock t) (λ ps. Ok (t, ps))) r e in
      let ps = then_ok (due_from w.bones w.bones.clock instant.0) (λ qs. Ok (instant.0, qs)) r instant.2 in
      let fits : FitsSigned w64 instant.0 = reads.instants text instant.0 (some_instant (l.instant_of text) instant.0 instant.1) in
      subst (λ (q : ℤ × List Position). FitsSigned w64 q.0 × AreDue q.1) (ok_same (instant.0, ps.0) r ps.2) (fits, due_of w h instant.0 fits ps.0 ps.1)
    where
      some_instant : (o : Option ℤ) (t : ℤ) → ok_or o refusal.BadInstant ≡ Ok t → o ≡ Some t
      some_instant (Some s) t f = ap Some (ok_same s t f)
      some_instant None t f = absurd (cc)

  pub clock_limits : (n : ℕ) → n ≤ due_limit → number_limit + n < transaction_limit
  unfolding due_limit
  clock_limits n less = omega (arith, less)

  pub clock_room : (t n : ℕ) → t < number_limit → n ≤ due_limit → t + n < transaction_limit
  clock_room t n less few = omega (arith, less, few, clock_limits n few)

  clock_steps : (s : Session) → IsFine s → s.world.bones.transaction < number_limit → (text : List ℕ) (a : Answer (ℤ × List Position)) → ticks_in l s.world.bones text ≡ a → AnswersWell (then_answer a (λ t. Ok (does_clock s.world t)))
  clock_steps s fine less text (Ok t) e =
      let are = ticks_of s.world fine.world text t e in
      after_well s.world (clock_run lists t.1 (behind t.0) drain_limit s.world) fine.world
      (clock_well l t.1 (behind t.0) are.1.fit (behind_fits t.0 are.0) (clock_limits (length t.1) are.1.few) drain_limit s.world fine.world (clock_room s.world.bones.transaction (length t.1) less are.1.few))
  clock_steps s fine less text (Err refusal) e = tt

  -- ---- commands

  more_room : (w : ListWorld) → w.bones.transaction < number_limit → HasRoom w
  more_room w less = omega (arith, less)

  -- a statement that was placed
  record IsPlaced (s : Session) (t : Statement) : Type 0 where
    number : spends s t ≡ true → s.world.bones.transaction < number_limit
    unit : Unit {0}
    outside : place_of t (is_some s.open_tx) ≡ Ok unit

  placed_is : (s : Session) (t : Statement) (u : Unit {0}) → placed s t ≡ Ok u → IsPlaced s t
  placed_is s t u e =
      let place = then_ok (place_of t (is_some s.open_tx)) (λ _. refuses (spends s t && not (nat_lt s.world.bones.transaction number_limit)) refusal.NumbersSpent) u e in
      record { number = by_number (spends s t) (nat_lt s.world.bones.transaction number_limit) refl place.2; unit = place.0; outside = place.1 }
    where
      by_number : (a b : Bool) → nat_lt s.world.bones.transaction number_limit ≡ b → refuses (a && not b) refusal.NumbersSpent ≡ Ok u → a ≡ true → s.world.bones.transaction < number_limit
      by_number a true is f spent = ltb-true s.world.bones.transaction number_limit is
      by_number true false is f spent = absurd (cc)
      by_number false false is f spent = absurd (cc)

  -- outside a transaction
  is_outside : (o : Option ListTx) (u : Unit {0}) → refuses (is_some o) refusal.InTransaction ≡ Ok u → o ≡ None
  is_outside None u e = refl
  is_outside (Some x) u e = absurd (cc)

  number_outside : (s : Session) (t : Statement) → s.open_tx ≡ None → is_lone t ≡ false → IsPlaced s t → s.world.bones.transaction < number_limit
  number_outside s t none lone place = place.number (ap (λ o. not (is_some o) && not (is_lone t)) none ∙ ap (λ b. not b) lone)

  class_steps : (s : Session) → IsFine s → HasRoom s.world → (piece : List ℕ) (d : ClassDecl) → l.statement_of piece ≡ Ok (statement.Class d) → (a : Answer Declared) → declared_in l s.world.bones d ≡ a
      → AnswersWell (then_answer a (λ c. Ok (does_class s.world c)))
  class_steps s fine left piece d read (Ok c) e = step_well (transaction lists Script (declares c) s.world) (class_well l rules s.world fine.world left c (declared_is l rules reads piece d read s.world.bones c (good_classes l s.world.bones fine.world.good.bones) e))
  class_steps s fine left piece d read (Err refusal) e = tt

  carried_well : (s : Session) → IsFine s → (piece : List ℕ) (t : Statement) → l.statement_of piece ≡ Ok t → IsPlaced s t → AnswersWell (carried l s t)
  carried_well s fine piece statement.Empty e place = record { all = tt; fine = fine }
  carried_well s fine piece statement.Begin e place =
      let none = is_outside s.open_tx place.unit place.outside in
      record { all = tt; fine = record { world = fine.world; open_tx = record { going = begun_going s.world (well_first l s.world fine.world); left = more_room s.world (number_outside s statement.Begin none refl place) } } }
  carried_well s fine piece statement.Commit e place = ends_well s fine commits (λ x opened_tx. commit_well s.world fine.world x opened_tx)
  carried_well s fine piece statement.Abort e place = ends_well s fine (abort lists Asked) (λ x opened_tx. abort_well s.world fine.world opened_tx.left Asked x opened_tx.going)
  carried_well s fine piece (statement.Class d) e place =
      let none = is_outside s.open_tx place.unit place.outside in
      class_steps s fine (more_room s.world (number_outside s (statement.Class d) none refl place)) piece d e (declared_in l s.world.bones d) refl
  carried_well s fine piece (statement.Clock text) e place =
      let none = is_outside s.open_tx place.unit place.outside in
      clock_steps s fine (number_outside s (statement.Clock text) none refl place) text (ticks_in l s.world.bones text) refl
  carried_well s fine piece (statement.Simple t) e place =
      simple_well s fine (λ none. more_room s.world (number_outside s (statement.Simple t) none refl place)) t (reads.literals piece t e)

  -- by itself, over a world
  pub carried_alone : (w : ListWorld) → IsWell l w → w.bones.transaction < number_limit → (piece : List ℕ) (t : Statement) → l.statement_of piece ≡ Ok t → place_of t false ≡ Ok tt
      → (step : Step) → carried l (closed w) t ≡ Ok step → AllWell step.1
  carried_alone w h less piece t read outside step is =
      by_answer (carried l (closed w) t) (carried_well (closed w) (record { world = h; open_tx = tt }) piece t read (record { number = λ spent. less; unit = tt; outside = outside })) is
    where
      by_answer : (a : Answer Step) → AnswersWell a → a ≡ Ok step → AllWell step.1
      by_answer (Ok s) goes e = let same : s ≡ step = cc in subst (λ (q : Step). AllWell q.1) same goes.all
      by_answer (Err why) goes e = absurd (cc)

  -- a change of a class, which takes a number
  change_number : (s : Session) (u : Unit {0}) → placed_change s ≡ Ok u → s.world.bones.transaction < number_limit
  change_number s u e =
      let outside = then_ok (refuses (is_some s.open_tx) refusal.InTransaction) (λ _. refuses (not (nat_lt s.world.bones.transaction number_limit)) refusal.NumbersSpent) u e in
      by_number (nat_lt s.world.bones.transaction number_limit) refl outside.2
    where
      by_number : (b : Bool) → nat_lt s.world.bones.transaction number_limit ≡ b → refuses (not b) refusal.NumbersSpent ≡ Ok u → s.world.bones.transaction < number_limit
      by_number true is f = ltb-true s.world.bones.transaction number_limit is
      by_number false is f = absurd (cc)

  module _ (changing : HasSoundChanges l) where
    change_steps : (s : Session) → IsFine s → HasRoom s.world → (piece : List ℕ) (c : Change) → l.change_of piece ≡ Some (Ok c) → (a : Answer (List Declared)) → changed_in l s.world.bones c ≡ a
        → AnswersWell (then_answer a (λ classes. Ok (does_change s.world classes c)))
    change_steps s fine left piece c read (Ok classes) e =
        step_well (transaction lists Script (changes_class lists classes c) s.world) (change_well l s.world fine.world left classes c (changing.changed piece c read s.world fine.world classes e))
    change_steps s fine left piece c read (Err refusal) e = tt

    changes_well : (s : Session) → IsFine s → (piece : List ℕ) (c : Change) → l.change_of piece ≡ Some (Ok c) → AnswersWell (changes l s c)
    changes_well s fine piece c read = by_place (placed_change s) refl where
      by_place : (a : Answer (Unit {0})) → placed_change s ≡ a → AnswersWell (then_answer a (λ u. then_answer (changed_in l s.world.bones c) (λ classes. Ok (does_change s.world classes c))))
      by_place (Ok u) is = change_steps s fine (more_room s.world (change_number s u is)) piece c read (changed_in l s.world.bones c) refl
      by_place (Err refusal) is = tt

    command_well : (s : Session) → IsFine s → (piece : List ℕ) → AnswersWell (command l s piece)
    command_well s fine piece = by_read (l.change_of piece) refl where
      by_place : (t : Statement) → l.statement_of piece ≡ Ok t → (a : Answer (Unit {0})) → placed s t ≡ a → AnswersWell (then_answer a (λ u. carried l s t))
      by_place t e (Ok u) is = carried_well s fine piece t e (placed_is s t u is)
      by_place t e (Err refusal) is = tt

      by_statement : (a : Answer Statement) → l.statement_of piece ≡ a → AnswersWell (then_answer a (λ t. then_answer (placed s t) (λ u. carried l s t)))
      by_statement (Ok t) e = by_place t e (placed s t) refl
      by_statement (Err refusal) e = tt

      by_read : (o : Option (Answer Change)) → l.change_of piece ≡ o → AnswersWell (read_piece l s piece o)
      by_read None e = by_statement (l.statement_of piece) refl
      by_read (Some (Ok c)) e = changes_well s fine piece c e
      by_read (Some (Err refusal)) e = tt

    -- ---- runs

    abbrev AllWorlds : List ListWorld → Type 0
    AllWorlds ws = AllByRecursion (IsWell l) ws

    worlds_of : (settled : Settlings) → AllWell settled → AllWorlds (worlds (map item_of settled))
    worlds_of [] all = tt
    worlds_of (s ∷ settled) all = (all.0, worlds_of settled all.1)

    items_well : (settled : Settlings) (items : List Item) → AllWell settled → AllWorlds (worlds items) → AllWorlds (worlds (map item_of settled ++ items))
    items_well settled items all rest = subst AllWorlds (sym (worlds_join (map item_of settled) items)) (all-append (IsWell l) (worlds (map item_of settled)) (worlds items) (worlds_of settled all) rest)

    ending_well : (s : Session) → IsFine s → (ending : Ending) → AllWorlds (worlds (ending_items l s ending))
    ending_well s fine cutting.End = worlds_of (finish s).1 (ends_well s fine (abort lists End) (λ x opened_tx. abort_well s.world fine.world opened_tx.left End x opened_tx.going)).all
    ending_well s fine cutting.LongStatement = tt
    ending_well s fine cutting.LongScript = tt

    pieces_well : (ps : Pieces) (s : Session) → IsFine s → AllWorlds (worlds (pieces_items l ps s))
    unfolding pieces_items
    pieces_well (Ended ending) s fine = ending_well s fine ending
    pieces_well (Then line text rest) s fine = by_answer (command l s text) (command_well s fine text) (pieces_well rest) where
      by_answer : (a : Answer Step) → AnswersWell a → ((t : Session) → IsFine t → AllWorlds (worlds (pieces_items l rest t))) → AllWorlds (worlds (followed_by l (answered s line a) (pieces_items l rest)))
      by_answer (Err refusal) well later = later s fine
      by_answer (Ok step) well later = items_well step.1 (pieces_items l rest step.0) well.all (later step.0 well.fine)

    pub run_well : (w : ListWorld) → IsWell l w → (script : List ℕ) → AllWorlds (worlds (trace l w script))
    run_well w h script =
        let opening = after_well w (drain lists drain_limit w) h (drain_well l drain_limit w h) in
        items_well (drain lists drain_limit w) (pieces_items l (pieces script) (closed (world_after w (drain lists drain_limit w)))) opening.all
        (pieces_well (pieces script) (closed (world_after w (drain lists drain_limit w))) opening.fine)
