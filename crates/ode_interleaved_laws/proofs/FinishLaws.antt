-- The end of the input: of open sessions one may end, and what they settle is what whole transactions do.
use Rattle.std.proofs.Common.{◌≡◌, true, false, cond, List, [], ◌∷◌, ◌++◌, Option, Some, None, refl, sym, ap, ◌∙◌, subst}
use Rattle.std.proofs.lemmas.Bool.{eq-eqb}
use Rattle.std.proofs.lemmas.List.{append_assoc}
use Rattle.std.specs.List.{AllByRecursion, find}
use Rattle.std.specs.Prelude.{is_some, not}
use Rattle.ode_footprint_laws.specs.Agreeing.{IsAmong}
use Rattle.ode_good_laws.specs.Well.{IsWell}
use Rattle.ode_interleaved_laws.proofs.ComingLaws.{IsComing, aborted_last}
use Rattle.ode_interleaved_laws.proofs.HolderLaws.{find_none, found_at, none_clashes, none_holds, none_true}
use Rattle.ode_interleaved_laws.proofs.OpenLaws.{others_apart_from}
use Rattle.ode_interleaved_laws.proofs.SerialLaws.{aborted_by}
use Rattle.ode_interleaved_laws.proofs.StepLaws.{aborts_so, ends_so, open_coming, open_found, place_open, view_is}
use Rattle.ode_interleaved_laws.specs.Meeting.{AreApart, IsInterleaved, IsOpenOver}
use Rattle.ode_interleaved_laws.specs.Serial.{AbortsBy, Transaction, Whole, drains_of, runs_serially, runs_whole, serial_ends, serial_found}
use Rattle.ode_language.specs.Languages.{ode}
use Rattle.ode_laws.proofs.Each.{all-filter, all-find}
use Rattle.ode_machine.specs.Interleaving.{Holder, Interleaved, Open, behind, ends_found, finishes, footprint_of, holder, is_session, last_trial, may_end, others_of, session_of, settles_last, view, without}
use Rattle.ode_value.specs.declared.reason.Reason.TheVariants.{End}
use Rattle.ode_value.specs.Acts.{Aborted}
use Rattle.ode_value.specs.Draining.{world_after}
use Rattle.ode_value.specs.Language.{ListTx, ListWorld, Settlings}
use Rattle.ode_value.specs.Pasts.{lists}
use Rattle.ode_value.specs.Settling.{settle}

-- ---- worlds and serial lists one behind the other

pub after_both : (w : ListWorld) (a b : Settlings) → world_after w (a ++ b) ≡ world_after (world_after w a) b
after_both w [] b = refl
after_both w (s ∷ a) b = after_both s.0 a b

pub serial_both : (w : ListWorld) (a b : List Whole) → runs_serially ode w (a ++ b) ≡ runs_serially ode w a ++ runs_serially ode (world_after w (runs_serially ode w a)) b
serial_both w [] b = refl
serial_both w (s ∷ a) b =
    let first = runs_whole ode w s in
    ap (λ rest. first ++ rest) (serial_both (world_after w first) a b)
    ∙ ap (λ v. first ++ (runs_serially ode (world_after w first) a ++ runs_serially ode v b)) (sym (after_both w first (runs_serially ode (world_after w first) a)))
    ∙ sym (append_assoc first (runs_serially ode (world_after w first) a) (runs_serially ode (world_after w (first ++ runs_serially ode (world_after w first) a)) b))

-- ---- an open session that may end

not_some : (h : Option Holder) → not (is_some h) ≡ true → h ≡ None
not_some None is = refl
not_some (Some h) is = absurd (cc)

module _ (m : Interleaved) (is : IsInterleaved ode m) where
  -- an open session, found by its number
  module _ (o : Open) (at : session_of o.session m.sessions ≡ Some o) where
    over : IsOpenOver ode m.world o
    over = open_found m is o.session o at

    coming : IsComing m.world is.well over.reached
    coming = open_coming m is o over

    abbrev last : ListTx
    last = view m.world (Some o)

    last_coming : IsComing m.world is.well last
    last_coming = subst (IsComing m.world is.well) (sym (view_is m is o over)) coming

    -- behind its end the others go on
    ended_apart : may_end m o ≡ true → IsInterleaved ode (without m o (settles_last m o))
    ended_apart may =
        ends_so m is o.session (Aborted End last) (aborts_so m is o.session (place_open m is o.session o at) End last last_coming)
        (none_holds false (footprint_of (last_trial m o)) (others_of o.session m.sessions) (not_some (holder false (footprint_of (last_trial m o)) (others_of o.session m.sessions)) may)).apart

    -- it looks at nothing but what its session holds, and draws no number more
    held_by : last.footprint ≡ o.held
    held_by = ap (λ (x : ListTx). x.footprint) (view_is m is o over) ∙ over.held

    ends_apart : (others : List Open) → AllByRecursion (λ (p : Open). AreApart o.held p.held) others → AllByRecursion (λ (p : Open). p.held.queued ≡ false) others
        → AllByRecursion (λ (p : Open). AreApart (footprint_of (last_trial m o)) p.held) others
    ends_apart [] apart none = tt
    ends_apart (p ∷ others) apart none =
        let it = aborted_last m.world is.well last last_coming in (
          record {
            objects = λ id one two. apart.0.objects id (subst (λ f. IsAmong id f.looked) held_by (it.within id one)) two;
            numbers = λ one two. apart.0.numbers (ap (λ f. f.drew) (sym held_by) ∙ sym it.drew ∙ one) two;
            queue = λ one two. let clash : true ≡ false = sym two ∙ none.0 in absurd (cc);
          },
          ends_apart others apart.1 none.1,
        )

    may_end_so : AllByRecursion (λ (p : Open). p.held.queued ≡ false) (others_of o.session m.sessions) → may_end m o ≡ true
    may_end_so none =
        ap (λ h. not (is_some h)) (none_clashes (footprint_of (last_trial m o)) (others_of o.session m.sessions)
        (ends_apart (others_of o.session m.sessions) (others_apart_from o.session m.sessions is.apart o at) none))

  -- ---- one may end

  is_there : (o : Open) → session_of o.session m.sessions ≡ Some o → may_end m o ≡ true → (p : Open) × (find (may_end m) m.sessions ≡ Some p)
  is_there o at may = by_found (find (may_end m) m.sessions) refl where
    by_found : (a : Option Open) → find (may_end m) m.sessions ≡ a → (p : Open) × (find (may_end m) m.sessions ≡ Some p)
    by_found (Some p) e = (p, e)
    by_found None e =
        let fails : may_end m o ≡ false = all-find (λ (q : Open). may_end m q ≡ false) (is_session o.session) m.sessions (find_none (may_end m) m.sessions e) o at in
        let clash : true ≡ false = sym may ∙ fails in
        absurd (cc)

  -- who holds the queue, where one does
  queue_alone : (o : Open) (others : List Open) → o.held.queued ≡ true → AllByRecursion (λ (p : Open). AreApart o.held p.held) others → AllByRecursion (λ (p : Open). p.held.queued ≡ false) others
  queue_alone o [] queued apart = tt
  queue_alone o (p ∷ others) queued apart = (none_true p.held.queued (λ is. apart.0.queue queued is), queue_alone o others queued apart.1)

  pub one_may_end : (o : Open) (more : List Open) → m.sessions ≡ o ∷ more → (p : Open) × (find (may_end m) m.sessions ≡ Some p)
  one_may_end o more are = by_queue (find (λ (p : Open). p.held.queued) m.sessions) refl where
    first : session_of o.session m.sessions ≡ Some o
    first = ap (session_of o.session) are ∙ ap (λ b. cond b (Some o) (session_of o.session more)) (eq-eqb o.session o.session refl)

    by_queue : (a : Option Open) → find (λ (p : Open). p.held.queued) m.sessions ≡ a → (p : Open) × (find (may_end m) m.sessions ≡ Some p)
    by_queue (Some q) e =
        let it = found_at (λ (p : Open). p.held.queued) 0 m.sessions is.rising q e in
        is_there q it.at (may_end_so q it.at (queue_alone q (others_of q.session m.sessions) it.passes (others_apart_from q.session m.sessions is.apart q it.at)))
    by_queue None e =
        is_there o first (may_end_so o first
        (all-filter (λ (p : Open). p.held.queued ≡ false) (λ p. not (is_session o.session p)) m.sessions (find_none (λ (p : Open). p.held.queued) m.sessions e)))

-- ---- the whole end

-- behind the end of one session
abbrev rest_of : Interleaved → Open → Interleaved
rest_of m p = without m p (settles_last m p)

found_apart : (m : Interleaved) → IsInterleaved ode m → (p : Open) → find (may_end m) m.sessions ≡ Some p → IsInterleaved ode (rest_of m p)
found_apart m is p e = let it = found_at (may_end m) 0 m.sessions is.rising p e in ended_apart m is p it.at it.passes

pub finish_well : (n : List Open) (m : Interleaved) → IsInterleaved ode m → IsWell ode (world_after m.world (finishes n m))
finish_well [] m is = is.well
finish_well (o ∷ more) m is = by_found (find (may_end m) m.sessions) refl (finish_well more) where
  by_found : (a : Option Open) → find (may_end m) m.sessions ≡ a → ((k : Interleaved) → IsInterleaved ode k → IsWell ode (world_after k.world (finishes more k)))
      → IsWell ode (world_after m.world (ends_found m a (finishes more)))
  by_found None e rest = is.well
  by_found (Some p) e rest =
      subst (IsWell ode) (sym (after_both m.world (settles_last m p) (finishes more (rest_of m p)))) (rest (rest_of m p) (found_apart m is p e))

ending_serial : (m : Interleaved) (is : IsInterleaved ode m) (p : Open) → session_of p.session m.sessions ≡ Some p
    → runs_serially ode m.world (Transaction p.taken (AbortsBy End) ∷ drains_of (others_of p.session m.sessions)) ≡ settles_last m p
ending_serial m is p at =
    aborted_by m is p.session p at (over m is p at) End
    ∙ ap (λ (x : ListTx). behind (others_of p.session m.sessions) (settle lists (Aborted End x))) (sym (view_is m is p (over m is p at)))

pub finish_serial : (n : List Open) (m : Interleaved) → IsInterleaved ode m → finishes n m ≡ runs_serially ode m.world (serial_ends n m)
finish_serial [] m is = refl
finish_serial (o ∷ more) m is = by_found (find (may_end m) m.sessions) refl (finish_serial more) where
  by_found : (a : Option Open) → find (may_end m) m.sessions ≡ a → ((k : Interleaved) → IsInterleaved ode k → finishes more k ≡ runs_serially ode k.world (serial_ends more k))
      → ends_found m a (finishes more) ≡ runs_serially ode m.world (serial_found m a (serial_ends more))
  by_found None e rest = refl
  by_found (Some p) e rest =
      ap (λ (s : Settlings). settles_last m p ++ s) (rest (rest_of m p) (found_apart m is p e))
      ∙ ap (λ (s : Settlings). s ++ runs_serially ode (world_after m.world s) (serial_ends more (rest_of m p))) (sym (ending_serial m is p (found_at (may_end m) 0 m.sessions is.rising p e).at))
      ∙ sym (serial_both m.world (Transaction p.taken (AbortsBy End) ∷ drains_of (others_of p.session m.sessions)) (serial_ends more (rest_of m p)))
