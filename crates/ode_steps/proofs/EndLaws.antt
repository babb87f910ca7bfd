-- The end of the input: an open session that may end is aborted, and then the next one.
use Rattle.std.proofs.Common.{◌≡◌, ◌∙◌, ◌+◌, ◌<◌, ◌≤◌, ℕ, zero, suc, Bool, true, false, cond, List, [], ◌∷◌, ◌++◌, length, map, Option, Some, None, Result, Ok, Err, ap, append-nil, arith, inl, inr, refl, subst, sym}
use Rattle.std.proofs.lemmas.Bool.{cases_lt, eq-eqb}
use Rattle.std.proofs.lemmas.List.{length-map}
use Rattle.std.proofs.lemmas.Option.{slice_get-map, slice_get_within}
use Rattle.std.specs.List.{find, slice_get}
use Rattle.std.specs.Option.{option_map}
use Rattle.std.specs.Prelude.{is_some, not}
use Rattle.ode_language.specs.Texts.{HasText}
use Rattle.ode_good_laws.specs.Well.{IsWell}
use Rattle.ode_holders.specs.Opens.{open_as, opens_as}
use Rattle.ode_holders.specs.declared.opens.Open as code
use Rattle.ode_host.proofs.Moments.{joined, started}
use Rattle.ode_host.specs.Host.{LeavesOnly}
use Rattle.ode_host.specs.View.{View}
use Rattle.ode_interleaved_laws.proofs.ComingLaws.{IsComing}
use Rattle.ode_interleaved_laws.proofs.HolderLaws.{none_holds}
use Rattle.ode_interleaved_laws.proofs.OpenLaws.{number_of}
use Rattle.ode_interleaved_laws.proofs.StepLaws.{IsTried, aborts_so, commits_so, ends_so, open_coming, open_found, place_open, tried, view_is}
use Rattle.ode_interleaved_laws.specs.Meeting.{IsInterleaved, IsOpenOver}
use Rattle.ode_keep.specs.Entries.{Entries}
use Rattle.ode_language.specs.Languages.{ode}
use Rattle.ode_laws.proofs.Numbers.{apart}
use Rattle.ode_machine.specs.Interleaving.{Alone, Busy, Ends, Goes, Holder, Interleaved, Open, Reply, Rests, Stays, Trial, Turns, behind, footprint_of, holder, last_trial, may_end, others_of, replies_to, session_of, settles_last, tries, view, without}
use Rattle.ode_machine.specs.Moments.{IsAfterSome}
use Rattle.ode_machine.specs.Refusals.{place_of}
use Rattle.ode_machine.specs.Runs.{Item}
use Rattle.ode_opened.specs.declared.opened.Opened.{Opened}
use Rattle.ode_steps.proofs.ReplyLaws.{busy_reply, free_reply}
use Rattle.ode_steps.specs.Serving.{EndsOne, EndsWell, Serves, StandsIn, UnlessSettled, after_reply, counted}
use Rattle.ode_steps.specs.declared.answer.Answer.{Answer}
use Rattle.ode_steps.specs.declared.answer.Answer.TheVariants as answer
use Rattle.ode_transact.specs.Items.{items_of}
use Rattle.ode_transact.specs.Resting.{HoldsBy}
use Rattle.ode_transact.specs.Settling.{Meaning}
use Rattle.ode_transact.specs.declared.error.EngineError.{EngineError}
use Rattle.ode_value.specs.Acts.{Aborted}
use Rattle.ode_value.specs.Completing.{completes}
use Rattle.ode_value.specs.GoodWorlds.{RiseFrom}
use Rattle.ode_value.specs.Language.{ListTx}
use Rattle.ode_value.specs.Objects.{Histories, Starts}
use Rattle.ode_value.specs.Pasts.{lists}
use Rattle.ode_value.specs.Settling.{Settled, settle}
use Rattle.ode_value.specs.declared.reason.Reason.{Reason}
use Rattle.ode_value.specs.declared.reason.Reason.TheVariants.{End}
use Rattle.ode_value.specs.declared.statement.Statement.{Statement}

-- ---- sessions at their places

above : (i low : ℕ) (os : List Open) → RiseFrom low (map number_of os) → (o : Open) → slice_get os i ≡ Some o → low ≤ o.session
above i low [] rise o at = absurd (cc)
above zero low (q ∷ os) rise o at = let same : q ≡ o = cc in subst (λ (s : Open). low ≤ s.session) same rise.0
above (suc i) low (q ∷ os) rise o at = let more = above i (q.session + 1) os rise.1 o at in let here : low ≤ q.session = rise.0 in omega (arith, more, here)

-- that at a place is the open one of its number
pub session_at : (i low : ℕ) (os : List Open) → RiseFrom low (map number_of os) → (o : Open) → slice_get os i ≡ Some o → session_of o.session os ≡ Some o
session_at i low [] rise o at = absurd (cc)
session_at zero low (q ∷ os) rise o at =
    let same : q ≡ o = cc in
    subst (λ (s : Open). session_of s.session (q ∷ os) ≡ Some s) same (ap (λ (b : Bool). cond b (Some q) (session_of q.session os)) (eq-eqb q.session q.session refl))
session_at (suc i) low (q ∷ os) rise o at =
    let more = above i (q.session + 1) os rise.1 o at in
    ap (λ (b : Bool). cond b (Some q) (session_of o.session os)) (apart q.session o.session (omega (arith, more))) ∙ session_at i (q.session + 1) os rise.1 o at

-- by the code's list of them
pub there_is : (os : List code.Open) (ps : List Open) (i : ℕ) (o : code.Open) → opens_as os ≡ ps → slice_get os i ≡ Some o → slice_get ps i ≡ Some (open_as o)
there_is os ps i o same is = ap (λ (qs : List Open). slice_get qs i) (sym same) ∙ slice_get-map open_as os i ∙ ap (option_map open_as) is

length_is : (os : List code.Open) (ps : List Open) → opens_as os ≡ ps → length ps ≡ length os
length_is os ps same = ap (λ (qs : List Open). length qs) (sym same) ∙ length-map os open_as

pub all_are : (os : List code.Open) (ps : List Open) (at : ℕ) → opens_as os ≡ ps → length os ≤ at → length ps ≤ at
all_are os ps at same all = let count = length_is os ps same in omega (arith, count, all)

pub less_as : (os : List code.Open) (ps : List Open) (at : ℕ) → opens_as os ≡ ps → at < length os → at < length ps
less_as os ps at same less = let count = length_is os ps same in omega (arith, count, less)

-- as many as before, where nothing settled
pub same_few : (a : Answer) (was now first : List code.Open) → ((count : ℕ) → a ≡ answer.Settled count → ⊥) → UnlessSettled a (now ≡ was) → length was ≡ length first → length now ≡ length first
same_few (answer.Settled count) was now first never same few = absurd (never count refl)
same_few answer.Accepted was now first never same few = ap (λ (os : List code.Open). length os) same ∙ few
same_few (answer.Refused why) was now first never same few = ap (λ (os : List code.Open). length os) same ∙ few
same_few (answer.Busy session what) was now first never same few = ap (λ (os : List code.Open). length os) same ∙ few

-- the first that passes is found
pub found_first : (p : Open → Bool) (os : List Open) (at : ℕ) (o : Open) → slice_get os at ≡ Some o → p o ≡ true → ((i : ℕ) (q : Open) → i < at → slice_get os i ≡ Some q → p q ≡ false) → find p os ≡ Some o
found_first p [] at o there passes before = absurd (cc)
found_first p (q ∷ os) zero o there passes before =
    let same : q ≡ o = cc in
    subst (λ (s : Open). p s ≡ true → find p (q ∷ os) ≡ Some s) same (λ is. ap (λ (b : Bool). cond b (Some q) (find p os)) is) passes
found_first p (q ∷ os) (suc at) o there passes before =
    ap (λ (b : Bool). cond b (Some q) (find p os)) (before 0 q (omega arith) refl) ∙ found_first p os at o there passes (λ i s less is. before (suc i) s (omega (arith, less)) is)

none_first : (p : Open → Bool) (os : List Open) → ((i : ℕ) (q : Open) → slice_get os i ≡ Some q → p q ≡ false) → find p os ≡ None
none_first p [] fails = refl
none_first p (q ∷ os) fails = ap (λ (b : Bool). cond b (Some q) (find p os)) (fails 0 q refl) ∙ none_first p os (λ i s is. fails (suc i) s is)

-- ---- the end of an open session

module _ (m : Interleaved) (is : IsInterleaved ode m) (n : ℕ) (o : Open) (at : session_of n m.sessions ≡ Some o) where
  abbrev pub last : ListTx
  last = view m.world (Some o)

  pub coming : IsComing m.world is.well last
  coming =
      let over : IsOpenOver ode m.world o = open_found m is n o at in
      subst (IsComing m.world is.well) (sym (view_is m is o over)) (open_coming m is o over)

  -- it is aborted for a reason
  module _ (why : Reason) where
    abbrev trial : Trial
    trial = Ends (Aborted why last)

    known : IsTried m is n trial
    known = aborts_so m is n (place_open m is n o at) why last coming

    pub end_well : IsWell ode (settle lists (Aborted why last)).0
    end_well = known.1

    pub end_goes : IsInterleaved ode (after_reply m (replies_to m n false trial))
    end_goes = by_holder (holder false (footprint_of trial) (others_of n m.sessions)) refl where
      by_holder : (found : Option Holder) → holder false (footprint_of trial) (others_of n m.sessions) ≡ found → IsInterleaved ode (after_reply m (replies_to m n false trial))
      by_holder (Some h) e = subst (λ (reply : Reply). IsInterleaved ode (after_reply m reply)) (sym (busy_reply m n false trial h e)) is
      by_holder None e =
          subst (λ (reply : Reply). IsInterleaved ode (after_reply m reply)) (sym (free_reply m n false trial e))
          (ends_so m is n (Aborted why last) known (none_holds false (footprint_of trial) (others_of n m.sessions) e).apart)

  -- it is committed
  pub commit_well : IsWell ode (settle lists (completes lists last)).0
  commit_well = (commits_so m is n (place_open m is n o at) last coming).1

-- a statement that stands in its place: where its transaction ends, that leaves a well world
pub tried_well : (m : Interleaved) (is : IsInterleaved ode m) (n : ℕ) (s : Statement) → HasText ode s → place_of s (is_some (session_of n m.sessions)) ≡ Ok tt → EndsWell ode (tries ode m (session_of n m.sessions) s)
tried_well m is n s text placed = by_trial (tries ode m (session_of n m.sessions) s) (tried m is n (session_of n m.sessions) refl s text tt placed) where
  by_trial : (t : Trial) → IsTried m is n t → EndsWell ode t
  by_trial (Ends outcome) known = known.1
  by_trial (Stays taken x) known = tt
  by_trial (Turns why x) known = tt
  by_trial (Alone answer) known = tt
  by_trial Rests known = tt

-- ---- what an answer says

counted_is : (k count : ℕ) → counted k (answer.Settled count) → count ≡ k
counted_is zero count is = absurd (cc)
counted_is (suc k) count is = cc

some_settled : (others : List Open) (s : Settled Histories Starts) (a : Answer) → counted (length (behind others s)) a → ((count : ℕ) → a ≡ answer.Settled count → ⊥) → ⊥
some_settled [] s a is never = never (length (behind [] s)) is
some_settled (o ∷ os) s a is never = never 1 is

module _ {H K : Type 0} (seen : H → View) (held : K → View → Entries → Type 0) (live : K → Bool) (means : Meaning) where
  -- The first so many sessions may not end, and nothing was done yet.
  pub record HasPassed (m : Interleaved) (at : ℕ) (rest : Opened K) (sessions : List code.Open) (old new : H) : Type 0 where
    pub here : StandsIn seen held live ode m rest sessions new
    pub passed : (i : ℕ) (o : Open) → i < at → slice_get m.sessions i ≡ Some o → may_end m o ≡ false
    pub text : (said : List ℕ) → (seen old).text ≡ Some said → (seen new).text ≡ Some said
    pub moments : (said : List ℕ) (more : List Item) → (seen old).text ≡ Some said → LeavesOnly (seen old) (seen new) (IsAfterSome (HoldsBy ode means) more m.world said)

  pub none_passed : (m : Interleaved) (rest : Opened K) (sessions : List code.Open) (host : H) → StandsIn seen held live ode m rest sessions host → HasPassed m 0 rest sessions host host
  none_passed m rest sessions host here = record {
    here = here;
    passed = λ i o less is. absurd (omega (arith, less));
    text = λ said is. is;
    moments = λ said more is. started (seen host) (IsAfterSome (HoldsBy ode means) more m.world said);
  }

  module _ (m : Interleaved) (law : (o : Open) (more : List Open) → m.sessions ≡ o ∷ more → (p : Open) × (find (may_end m) m.sessions ≡ Some p)) where
    none_open : find (may_end m) m.sessions ≡ None → m.sessions ≡ []
    none_open none = by m.sessions refl where
      by : (os : List Open) → m.sessions ≡ os → m.sessions ≡ []
      by [] e = e
      by (o ∷ more) e = let it = law o more e in let clash : Some it.0 ≡ None = sym it.1 ∙ none in absurd (cc)

    -- no session is left that may end
    pub all_passed : (at : ℕ) (rest : Opened K) (sessions : List code.Open) (old new : H) → HasPassed m at rest sessions old new → length m.sessions ≤ at
        → EndsOne seen held live means ode m (find (may_end m) m.sessions) (Ok (rest, 0)) sessions old new
    all_passed at rest sessions old new so all =
        let none : find (may_end m) m.sessions ≡ None =
        none_first (may_end m) m.sessions (λ i q is. let within = slice_get_within m.sessions i q is in so.passed i q (omega (arith, within, all)) is) in
        subst (λ (found : Option Open). EndsOne seen held live means ode m found (Ok (rest, 0)) sessions old new) (sym none) (none_open none)

    module _ (at : ℕ) (rest : Opened K) (sessions : List code.Open) (old mid : H) (so : HasPassed m at rest sessions old mid) (o : Open) (there : slice_get m.sessions at ≡ Some o) where
      abbrev others : List Open
      others = others_of o.session m.sessions

      abbrev found : Option Holder
      found = holder false (footprint_of (last_trial m o)) others

      abbrev reply : Reply
      reply = replies_to m o.session false (last_trial m o)

      abbrev Served : Reply → Result (Opened K × Answer) EngineError → List code.Open → H → Type 0
      Served r result after new = Serves seen held live means ode m r result after mid new

      abbrev Ended : Option Open → Result (Opened K × ℕ) EngineError → List code.Open → H → Type 0
      Ended p result after new = EndsOne seen held live means ode m p result after old new

      -- it may end, and is the first of those
      may : found ≡ None → may_end m o ≡ true
      may e = ap (λ (h : Option Holder). not (is_some h)) e

      first : found ≡ None → find (may_end m) m.sessions ≡ Some o
      first e = found_first (may_end m) m.sessions at o there (may e) so.passed

      goes : found ≡ None → reply ≡ Goes (without m o (settles_last m o)) (settles_last m o)
      goes e = free_reply m o.session false (last_trial m o) e

      busy : (h : Holder) → found ≡ Some h → reply ≡ Busy h.0 h.1
      busy h e = busy_reply m o.session false (last_trial m o) h e

      -- it has ended
      pub one_ended : (rest' : Opened K) (count : ℕ) (after : List code.Open) (new : H) → Served reply (Ok (rest', answer.Settled count)) after new → Ended (find (may_end m) m.sessions) (Ok (rest', count)) after new
      one_ended rest' count after new serves = by_holder found refl where
        by_holder : (a : Option Holder) → found ≡ a → Ended (find (may_end m) m.sessions) (Ok (rest', count)) after new
        by_holder (Some h) e =
            let it : Served (Busy h.0 h.1) (Ok (rest', answer.Settled count)) after new = subst (λ (r : Reply). Served r (Ok (rest', answer.Settled count)) after new) (busy h e) serves in
            let clash : answer.Settled count ≡ answer.Busy h.0 h.1 = it.answers in
            absurd (cc)
        by_holder None e =
            let it = subst (λ (r : Reply). Served r (Ok (rest', answer.Settled count)) after new) (goes e) serves in
            subst (λ (p : Option Open). Ended p (Ok (rest', count)) after new) (sym (first e))
            (record {
              counts = counted_is (length (settles_last m o)) count it.answers;
              stands = it.stands;
              printed = λ said is. it.printed said (so.text said is);
              any_moment = λ said more is.
                  joined (seen old) (seen mid) (seen new) (IsAfterSome (HoldsBy ode means) (items_of (settles_last m o) ++ more) m.world said) (so.moments said (items_of (settles_last m o) ++ more) is) (it.any_moment said more (so.text said is));
              sound = tt;
            })

      -- it may not end
      pub one_passed : (rest' : Opened K) (a : Answer) (after : List code.Open) (new : H) → ((count : ℕ) → a ≡ answer.Settled count → ⊥) → Served reply (Ok (rest', a)) after new → HasPassed m (at + 1) rest' after old new
      one_passed rest' a after new unsettled serves = by_holder found refl where
        by_holder : (b : Option Holder) → found ≡ b → HasPassed m (at + 1) rest' after old new
        by_holder None e =
            let it = subst (λ (r : Reply). Served r (Ok (rest', a)) after new) (goes e) serves in
            absurd (some_settled others (settle lists (Aborted End (view m.world (Some o)))) a it.answers unsettled)
        by_holder (Some h) e =
            let it = subst (λ (r : Reply). Served r (Ok (rest', a)) after new) (busy h e) serves in
            let fails : may_end m o ≡ false = ap (λ (g : Option Holder). not (is_some g)) e in
            record {
              here = it.stands;
              passed = λ i q less is.
                  elim (cases_lt i at) [
                    | inl under ↦ so.passed i q under is
                    | inr over ↦
                        let same : at ≡ i = omega (arith, less, over) in
                        let one : o ≡ q = one_of (sym there ∙ subst (λ (j : ℕ). slice_get m.sessions at ≡ slice_get m.sessions j) same refl ∙ is) in
                        subst (λ (s : Open). may_end m s ≡ false) one fails
                  ];
              text = λ said is. it.printed said (so.text said is) ∙ ap Some (append-nil said);
              moments = λ said more is. joined (seen old) (seen mid) (seen new) (IsAfterSome (HoldsBy ode means) more m.world said) (so.moments said more is) (it.any_moment said more (so.text said is));
            }
          where
            one_of : {X : Type 0} → {x y : X} → Some x ≡ Some y → x ≡ y
            one_of is = cc

      -- an error on the way
      pub one_failed : (e : EngineError) (after : List code.Open) (new : H) → Served reply (Err e) after new → Ended (find (may_end m) m.sessions) (Err e) after new
      one_failed e after new serves = by_found (find (may_end m) m.sessions) refl where
        moments : (p : Open) → find (may_end m) m.sessions ≡ Some p → (b : Option Holder) → found ≡ b → (said : List ℕ) (more : List Item) → (seen mid).text ≡ Some said
            → LeavesOnly (seen mid) (seen new) (IsAfterSome (HoldsBy ode means) (items_of (settles_last m p) ++ more) m.world said)
        moments p is None at said more told =
            let it = subst (λ (r : Reply). Served r (Err e) after new) (goes at) serves in
            let same : o ≡ p = one_of (sym (first at) ∙ is) in
            subst (λ (q : Open). LeavesOnly (seen mid) (seen new) (IsAfterSome (HoldsBy ode means) (items_of (settles_last m q) ++ more) m.world said)) same (it.any_moment said more told)
          where
            one_of : {x y : Open} → Some x ≡ Some y → x ≡ y
            one_of is = cc
        moments p is (Some h) at said more told =
            (subst (λ (r : Reply). Served r (Err e) after new) (busy h at) serves).any_moment said (items_of (settles_last m p) ++ more) told

        by_found : (a : Option Open) → find (may_end m) m.sessions ≡ a → Ended a (Err e) after new
        by_found None is = none_open is
        by_found (Some p) is = record {
          counts = tt;
          stands = tt;
          printed = tt;
          any_moment = λ said more told.
              joined (seen old) (seen mid) (seen new) (IsAfterSome (HoldsBy ode means) (items_of (settles_last m p) ++ more) m.world said) (so.moments said (items_of (settles_last m p) ++ more) told) (moments p is found refl said more (so.text said told));
          sound = serves.sound;
        }
