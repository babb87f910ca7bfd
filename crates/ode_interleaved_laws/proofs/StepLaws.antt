-- Behind each step the open sessions stay apart, each with its statements done.
use Rattle.std.proofs.Common.{◌≡◌, ◌+◌, ◌<◌, ◌≤◌, ℕ, suc, Bool, true, false, cond, List, [], ◌∷◌, ◌++◌, length, Option, Some, None, Ok, Err, refl, sym, ap, ◌∙◌, subst, arith}
use Rattle.std.proofs.lemmas.Bool.{ltb-true}
use Rattle.std.specs.List.{AllByRecursion}
use Rattle.std.specs.Prelude.{is_some, not}
use Rattle.ode_language.specs.Texts.{HasText}
use Rattle.ode_good_laws.specs.Well.{IsWell}
use Rattle.ode_interleaved_laws.proofs.ComingLaws.{Comes, IsComing, abort_well, alone_well, begun_coming, commit_well, completion_comes, ended_so, looked_coming, statement_comes}
use Rattle.ode_interleaved_laws.proofs.GoingLaws.{none_open, others_go_on}
use Rattle.ode_interleaved_laws.proofs.HolderLaws.{IsFree, none_holds}
use Rattle.ode_interleaved_laws.proofs.OpenLaws.{others_apart, others_fewer, others_none, others_other, others_rise, with_all, with_apart, with_one_more, with_rise}
use Rattle.ode_interleaved_laws.proofs.SettledLaws.{HasEnded}
use Rattle.ode_interleaved_laws.specs.Meeting.{AreApart, AreDone, AreLeft, IsInterleaved, IsOpenOver, IsTaken}
use Rattle.ode_language.specs.Languages.{ode}
use Rattle.ode_laws.proofs.Each.{all-filter, all-find}
use Rattle.ode_machine.specs.Commands.{Step, carried}
use Rattle.ode_machine.specs.Interleaving.{Alone, Ends, Goes, Holder, Interleaved, Open, Rests, Stays, Taken, Trial, Turns, behind, footprint_of, has_number, holder, in_place, is_alone, is_session, literal_objects, others_of, replies, replies_alone, replies_to, session_of, step, takes, trial_open, tries, tries_answer, tries_in, unless_held, view, with_open}
use Rattle.ode_machine.specs.Refusals.{checked_in, place_of}
use Rattle.ode_machine.specs.Sessions.{closed}
use Rattle.ode_value.specs.declared.reason.Reason.{Reason}
use Rattle.ode_value.specs.declared.reason.Reason.TheVariants.{Asked}
use Rattle.ode_value.specs.declared.reason.Refusal.TheVariants as refusal
use Rattle.ode_value.specs.declared.statement.Statement.{Statement}
use Rattle.ode_value.specs.declared.statement.Statement.TheVariants as statement
use Rattle.ode_value.specs.declared.statement.Stmt.{Stmt}
use Rattle.ode_value.specs.Acts.{Aborted, Done, Outcome, each, go_on, reached}
use Rattle.ode_value.specs.Answers.{Answer}
use Rattle.ode_value.specs.Completing.{completes}
use Rattle.ode_value.specs.Draining.{world_after}
use Rattle.ode_value.specs.Executing.{commands}
use Rattle.ode_value.specs.Language.{ListTx, ListWorld, Settlings}
use Rattle.ode_value.specs.Limits.{number_limit}
use Rattle.ode_value.specs.Objects.{Histories, Starts}
use Rattle.ode_value.specs.Pasts.{lists}
use Rattle.ode_value.specs.Settling.{ended, settle}
use Rattle.ode_value.specs.Transactions.{Script, begun, looking}

-- ---- statements that are all done

pub run_done : (x : ListTx) (taken : List Taken) (z : ListTx) → AreDone ode x taken z → each takes taken x ≡ Done tt z
run_done x [] z done = ap (Done tt) (sym done)
run_done x (t ∷ more) z done = ap (λ (p : Outcome Histories Starts (Unit {0})). go_on p (λ u. each takes more)) done.2 ∙ run_done done.0 more z done.3

done_more : (x : ListTx) (taken : List Taken) (y : ListTx) → AreDone ode x taken y → (t : Taken) (z : ListTx) → IsTaken ode y t → commands lists t.checked (looking t.literals y) ≡ Done tt z → AreDone ode x (taken ++ t ∷ []) z
done_more x [] y done t z taken is =
    (z, subst (λ (v : ListTx). IsTaken ode v t) done taken, subst (λ (v : ListTx). commands lists t.checked (looking t.literals v) ≡ Done tt z) done is, refl)
done_more x (s ∷ more) y done t z taken is = (done.0, done.1, done.2, done_more done.0 more y done.3 t z taken is)

-- ---- numbers that are left

left_of : (t : ℕ) (os : List Open) → t + length os ≤ number_limit → AreLeft t os
left_of t [] less = tt
left_of t (o ∷ os) less = less

left_is : (t n : ℕ) (os : List Open) (o : Open) → session_of n os ≡ Some o → AreLeft t os → t + length os ≤ number_limit
left_is t n [] o is left = absurd (cc)
left_is t n (p ∷ os) o is left = left

-- sums of which one part is one more
sum_up : (t a limit : ℕ) → t + a < limit → t + suc a ≤ limit
sum_up t a limit less = omega arith

sum_on : (t a limit : ℕ) → t + suc a ≤ limit → t + 1 + a ≤ limit
sum_on t a limit less = omega arith

sum_less : (t a limit : ℕ) → t + suc a ≤ limit → t < limit
sum_less t a limit less = omega arith

module _ (m : Interleaved) (is : IsInterleaved ode m) where
  abbrev w : ListWorld
  w = m.world

  done_coming : (x : ListTx) (taken : List Taken) (z : ListTx) → AreDone ode x taken z → IsComing w is.well x → IsComing w is.well z
  done_coming x [] z done coming = subst (IsComing w is.well) (sym done) coming
  done_coming x (t ∷ more) z done coming =
      done_coming done.0 more z done.3
      (subst (Comes w is.well) done.2 (statement_comes w is.well (looking t.literals x) (looked_coming w is.well x coming t.literals) done.1.read t.checked done.1.text done.1.checked))

  -- an open session's transaction
  pub open_coming : (o : Open) → (over : IsOpenOver ode w o) → IsComing w is.well over.reached
  open_coming o over = done_coming (begun Script w) o.taken over.reached over.done (begun_coming w is.well)

  pub view_is : (o : Open) → (over : IsOpenOver ode w o) → view w (Some o) ≡ over.reached
  view_is o over = ap reached (run_done (begun Script w) o.taken over.reached over.done)

  pub open_found : (n : ℕ) (o : Open) → session_of n m.sessions ≡ Some o → IsOpenOver ode w o
  open_found n o e = all-find (IsOpenOver ode w) (is_session n) m.sessions is.sessions o e

  module _ (n : ℕ) where
    abbrev own : Option Open
    own = session_of n m.sessions

    abbrev others : List Open
    others = others_of n m.sessions

    -- a number is left for a transaction of its own, where its session isn't open
    abbrev HasPlace : Type 0
    HasPlace = own ≡ None → w.bones.transaction + length m.sessions < number_limit

    pub place_open : (o : Open) → own ≡ Some o → HasPlace
    place_open o e none = let clash : Some o ≡ None = sym e ∙ none in absurd (cc)

    one_left : HasPlace → w.bones.transaction + suc (length others) ≤ number_limit
    one_left place = by_own own refl where
      by_own : (o : Option Open) → own ≡ o → w.bones.transaction + suc (length others) ≤ number_limit
      by_own (Some o) e = subst (λ k. w.bones.transaction + k ≤ number_limit) (sym (others_fewer n 0 m.sessions is.rising o e)) (left_is w.bones.transaction n m.sessions o e is.numbers)
      by_own None e =
          subst (λ k. w.bones.transaction + suc k ≤ number_limit) (sym (ap length (others_none n m.sessions e))) (sum_up w.bones.transaction (length m.sessions) number_limit (place e))

    pub less_left : HasPlace → w.bones.transaction < number_limit
    less_left place = sum_less w.bones.transaction (length others) number_limit (one_left place)

    -- what is known of what a step came to by itself
    abbrev pub IsTried : Trial → Type 0
    IsTried (Stays taken x) = AreDone ode (begun Script w) taken x × HasPlace
    IsTried (Ends p) = HasEnded w p × IsWell ode (settle lists p).0 × HasPlace
    IsTried (Turns why x) = Unit {0}
    IsTried (Alone answer) = (s : Step) → answer ≡ Ok s → IsWell ode (world_after w s.1)
    IsTried Rests = Unit {0}

    -- ---- what the trials are

    pub commits_so : HasPlace → (x : ListTx) → IsComing w is.well x → IsTried (Ends (completes lists x))
    commits_so place x coming = (ended_so w is.well (completes lists x) (completion_comes w is.well x coming), commit_well w is.well (less_left place) x coming, place)

    pub aborts_so : HasPlace → (reason : Reason) (x : ListTx) → IsComing w is.well x → IsTried (Ends (Aborted reason x))
    aborts_so place reason x coming = (ended_so w is.well (Aborted reason x) coming, abort_well w is.well (less_left place) reason x coming, place)

    -- a transaction of its own, by what its statement came to
    whole_tried : HasPlace → (p : Outcome Histories Starts (Unit {0})) → Comes w is.well p → IsTried (Ends (go_on p (λ u. completes lists)))
    whole_tried place (Done u x) coming = commits_so place x coming
    whole_tried place (Aborted reason x) coming = aborts_so place reason x coming

    -- a number is left where a statement takes one
    by_number : (b : Bool) → has_number m ≡ b → (t : Trial) → (HasPlace → IsTried t) → (why : Trial) → IsTried why → IsTried (cond (not b) why t)
    by_number true e t then why turned = then (λ none. ltb-true (w.bones.transaction + length m.sessions) number_limit e)
    by_number false e t then why turned = turned

    number_then : (t : Trial) → (HasPlace → IsTried t) → (why : Trial) → IsTried why → IsTried (cond (not (has_number m)) why t)
    number_then t then why turned = by_number (has_number m) refl t then why turned

    closed_simple : HasPlace → (s : Stmt) → HasText ode (statement.Simple s) → (a : Answer Stmt) → checked_in ode (looking (literal_objects ode s) (begun Script w)).now.bones s ≡ a
        → IsTried (tries_answer ode None (literal_objects ode s) (looking (literal_objects ode s) (begun Script w)) a)
    closed_simple place s text (Err why) e = tt
    closed_simple place s text (Ok c) e =
        let x = looking (literal_objects ode s) (begun Script w) in
        whole_tried place (commands lists c x) (statement_comes w is.well x (looked_coming w is.well (begun Script w) (begun_coming w is.well) (literal_objects ode s)) s c text e)

    closed_tried : (s : Statement) → HasText ode s → (u : Unit {0}) → place_of s false ≡ Ok u → IsTried (tries ode m None s)
    closed_tried statement.Empty text u placed = tt
    closed_tried statement.Begin text u placed = number_then (Stays [] (begun Script w)) (λ place. (refl, place)) (Turns refusal.NumbersSpent (begun Script w)) tt
    closed_tried statement.Commit text u placed = absurd (cc)
    closed_tried statement.Abort text u placed = absurd (cc)
    closed_tried (statement.Class d) text u placed =
        number_then (Alone (carried ode (closed w) (statement.Class d))) (λ place. alone_well w is.well (less_left place) (statement.Class d) text refl) (Turns refusal.NumbersSpent (begun Script w)) tt
    closed_tried (statement.Clock t) text u placed =
        number_then (Alone (carried ode (closed w) (statement.Clock t))) (λ place. alone_well w is.well (less_left place) (statement.Clock t) text refl) (Turns refusal.NumbersSpent (begun Script w)) tt
    closed_tried (statement.Simple s) text u placed =
        let x = looking (literal_objects ode s) (begun Script w) in
        number_then (tries_answer ode None (literal_objects ode s) x (checked_in ode x.now.bones s)) (λ place. closed_simple place s text (checked_in ode x.now.bones s) refl) (Turns refusal.NumbersSpent x) tt

    module _ (o : Open) (e : own ≡ Some o) (over : IsOpenOver ode w o) where
      abbrev z : ListTx
      z = over.reached

      coming : IsComing w is.well z
      coming = open_coming o over

      -- a statement in it that was checked
      inside : (t : Taken) → IsTaken ode z t → (p : Outcome Histories Starts (Unit {0})) → commands lists t.checked (looking t.literals z) ≡ p → Comes w is.well p → IsTried (trial_open (o.taken ++ t ∷ []) p)
      inside t taken (Done u x) is_done comes = (done_more (begun Script w) o.taken z over.done t x taken is_done, place_open o e)
      inside t taken (Aborted reason x) is_aborted comes = aborts_so (place_open o e) reason x comes

      open_simple : (s : Stmt) → HasText ode (statement.Simple s) → (a : Answer Stmt) → checked_in ode (looking (literal_objects ode s) z).now.bones s ≡ a
          → IsTried (tries_answer ode (Some o) (literal_objects ode s) (looking (literal_objects ode s) z) a)
      open_simple s text (Err why) checked = tt
      open_simple s text (Ok c) checked =
          let x = looking (literal_objects ode s) z in
          inside (record { literals = literal_objects ode s; checked = c }) (record { read = s; text = text; literals = refl; checked = checked }) (commands lists c x) refl
          (statement_comes w is.well x (looked_coming w is.well z coming (literal_objects ode s)) s c text checked)

      open_tried_on : (s : Statement) → HasText ode s → (u : Unit {0}) → place_of s true ≡ Ok u → IsTried (tries_in ode w (Some o) false z s)
      open_tried_on statement.Empty text u placed = (over.done, place_open o e)
      open_tried_on statement.Begin text u placed = absurd (cc)
      open_tried_on statement.Commit text u placed = commits_so (place_open o e) z coming
      open_tried_on statement.Abort text u placed = aborts_so (place_open o e) Asked z coming
      open_tried_on (statement.Class d) text u placed = absurd (cc)
      open_tried_on (statement.Clock t) text u placed = absurd (cc)
      open_tried_on (statement.Simple s) text u placed = open_simple s text (checked_in ode (looking (literal_objects ode s) z).now.bones s) refl

      open_tried : (s : Statement) → HasText ode s → (u : Unit {0}) → place_of s true ≡ Ok u → IsTried (tries ode m (Some o) s)
      open_tried s text u placed = subst (λ (x : ListTx). IsTried (tries_in ode w (Some o) false x s)) (sym (view_is o over)) (open_tried_on s text u placed)

    pub tried : (a : Option Open) → own ≡ a → (s : Statement) → HasText ode s → (u : Unit {0}) → place_of s (is_some a) ≡ Ok u → IsTried (tries ode m a s)
    tried None e s text u placed = closed_tried s text u placed
    tried (Some o) e s text u placed = open_tried o e (open_found n o e) s text u placed

    -- ---- what follows where nobody holds what the step needs

    goes_now : (a b : Interleaved) (s t : Settlings) → Goes a s ≡ Goes b t → a ≡ b
    goes_now a b s t e = cc

    abbrev opened_by : List Taken → ListTx → Open
    opened_by taken x = record { session = n; taken = taken; held = x.footprint }

    opens_so : (taken : List Taken) (x : ListTx) → AreDone ode (begun Script w) taken x → HasPlace → AllByRecursion (λ (o : Open). AreApart x.footprint o.held) others
        → IsInterleaved ode (record { world = w; sessions = with_open (opened_by taken x) others })
    opens_so taken x done place apart = record {
      well = is.well;
      numbers =
          left_of w.bones.transaction (with_open (opened_by taken x) others)
          (subst (λ k. w.bones.transaction + k ≤ number_limit) (sym (with_one_more (opened_by taken x) others)) (one_left place));
      rising = with_rise (opened_by taken x) 0 others (omega arith) (others_other n m.sessions) (others_rise n 0 m.sessions is.rising);
      sessions =
          with_all (IsOpenOver ode w) (opened_by taken x) others
          (record { reached = x; done = done; held = refl; drawn = (done_coming (begun Script w) taken x done (begun_coming w is.well)).drawn })
          (all-filter (IsOpenOver ode w) (λ o. not (is_session n o)) m.sessions is.sessions);
      apart = with_apart (opened_by taken x) others apart (others_apart n m.sessions is.apart);
    }

    pub ends_so : (p : Outcome Histories Starts (Unit {0})) → IsTried (Ends p) → AllByRecursion (λ (o : Open). AreApart (ended lists p).footprint o.held) others
        → IsInterleaved ode (record { world = world_after w (behind others (settle lists p)); sessions = others })
    ends_so p known apart =
        others_go_on w is.well p known.0 known.1 others apart (all-filter (IsOpenOver ode w) (λ o. not (is_session n o)) m.sessions is.sessions) (others_rise n 0 m.sessions is.rising)
        (others_apart n m.sessions is.apart) (left_of (w.bones.transaction + 1) others (sum_on w.bones.transaction (length others) number_limit (one_left known.2)))

    alone_so : (answer : Answer Step) → IsTried (Alone answer) → (now : Interleaved) (settled : Settlings) → replies_alone w answer ≡ Goes now settled → IsInterleaved ode now
    alone_so (Err why) known now settled e = absurd (cc)
    alone_so (Ok s) known now settled e =
        subst (IsInterleaved ode) (goes_now (record { world = world_after w s.1; sessions = [] }) now s.1 settled e) (none_open (world_after w s.1) (known s refl))

    replied : (t : Trial) → IsTried t → (alone : Bool) → IsFree alone (footprint_of t) others → (now : Interleaved) (settled : Settlings) → replies m n t ≡ Goes now settled → IsInterleaved ode now
    replied (Stays taken x) known alone free now settled e =
        subst (IsInterleaved ode) (goes_now (record { world = w; sessions = with_open (opened_by taken x) others }) now [] settled e) (opens_so taken x known.0 known.1 free.apart)
    replied (Ends p) known alone free now settled e =
        subst (IsInterleaved ode) (goes_now (record { world = world_after w (behind others (settle lists p)); sessions = others }) now (behind others (settle lists p)) settled e)
        (ends_so p known free.apart)
    replied (Turns why x) known alone free now settled e = absurd (cc)
    replied (Alone answer) known alone free now settled e = alone_so answer known now settled e
    replied Rests known alone free now settled e = subst (IsInterleaved ode) (goes_now m now [] settled e) is

    pub stays_apart : (s : Statement) (now : Interleaved) (settled : Settlings) → HasText ode s → step ode m n s ≡ Goes now settled → IsInterleaved ode now
    stays_apart s now settled text e = by_place (place_of s (is_some own)) refl e where
      t : Trial
      t = tries ode m own s

      by_holder : IsTried t → (h : Option Holder) → holder (is_alone s) (footprint_of t) others ≡ h → unless_held h (replies m n t) ≡ Goes now settled → IsInterleaved ode now
      by_holder known None free goes = replied t known (is_alone s) (none_holds (is_alone s) (footprint_of t) others free) now settled goes
      by_holder known (Some h) held goes = absurd (cc)

      by_place : (a : Answer (Unit {0})) → place_of s (is_some own) ≡ a → in_place a (replies_to m n (is_alone s) t) ≡ Goes now settled → IsInterleaved ode now
      by_place (Ok u) placed goes = by_holder (tried own refl s text u placed) (holder (is_alone s) (footprint_of t) others) refl goes
      by_place (Err why) placed goes = absurd (cc)
