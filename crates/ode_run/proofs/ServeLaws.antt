-- What a call leaves of the keeper and of the host, where nothing is known of the records.
use Rattle.std.specs.Prelude.{IfErr}
use Rattle.std.proofs.Common.{◌≡◌, ◌⊎◌, IsErrOf, ℕ, Bool, true, List, [], Result, Option, Some, None, Ok, Err, refl, sym, ap, subst, ◌∙◌, inl, inr}
use Rattle.ode_expr.specs.Answers.{stopped_by}
use Rattle.ode_expr.specs.declared.stop.EvalStop.{EvalStop}
use Rattle.ode_expr.specs.declared.stop.EvalStop.TheVariants as eval
use Rattle.ode_host.proofs.Moments.{looks_joined, looks_none}
use Rattle.ode_host.specs.Causes.{Rose, RoseIf}
use Rattle.ode_host.specs.Host.{Looks}
use Rattle.ode_host.specs.View.{View}
use Rattle.ode_interpreter.specs.Seen.{Leaves}
use Rattle.ode_interpreter.specs.declared.stop.Stop.{Stop}
use Rattle.ode_interpreter.specs.declared.stop.Stop.TheVariants as stop
use Rattle.ode_overlay.specs.Answers.{is_usable}
use Rattle.ode_overlay.specs.Layers.{Layer}
use Rattle.ode_overlay.specs.declared.error.OverlayError.{OverlayError}
use Rattle.ode_overlay.specs.declared.error.OverlayError.TheVariants as error
use Rattle.ode_run.proofs.ContextLaws.{IsReturned, known_of}
use Rattle.ode_run.specs.Knowing.{Known, Lent}
use Rattle.ode_run.specs.Serving.{GoesOn, Halts, IsServing, LeavesUsable, Serves, Stops}
use Rattle.ode_run.specs.Stopping.{ended, read, read_as}
use Rattle.ode_run.specs.Telling.{calm}
use Rattle.ode_run.specs.declared.context.Ctx.{Ctx}
use Rattle.ode_run.specs.declared.work.Work.{Work}
use Rattle.ode_run_frame.specs.Knowing.{Since}
use Rattle.ode_run_frame.specs.declared.unread.Unread.{Unread}
use Rattle.ode_run_frame.specs.declared.unread.Unread.TheVariants as unread
use Rattle.ode_overlay.specs.Rewinding.{rewind}
use Rattle.ode_states.specs.declared.fired.Fired.{Fired}
use Rattle.ode_value.specs.Worlds.{empty_world}
use Rattle.ode_value.specs.declared.arithmetic.Fault.{Fault}
use Rattle.ode_value.specs.declared.key.Key.{Key}
use Rattle.ode_value.specs.declared.value.Value.{Value}

-- ---- a call of the overlay, by what it says of the keeper and of the host

module _ (began before after : View) (live live' : Bool) (serves : Serves live began before) (looks : Looks before after) where
  looked : Looks began after
  looked = looks_joined began before after serves.looks looks

  goes_on : live' ≡ true → after.disk_faults ≡ before.disk_faults → Serves live' began after
  goes_on usable same = record { usable = usable; looks = looked; faults = same ∙ serves.faults }

  faulted : Rose before.disk_faults after.disk_faults → Stops began after stop.DiskFault
  faulted rose = record {
    looks = looked;
    faults = record { later = looked.keeps.disk_faults; rose = λ e. subst (λ n. Rose n after.disk_faults) serves.faults rose; calm = inl refl };
  }

  damaged : (key : Key) → after.disk_faults ≡ before.disk_faults → Stops began after (stop.Damaged key)
  damaged key same = record {
    looks = looked;
    faults = record { later = looked.keeps.disk_faults; rose = λ e. absurd (cc e); calm = inr (same ∙ serves.faults) };
  }

  -- no fault, where the answer is none
  same_faults : (failed : Type 0) → (failed → ⊥) → RoseIf failed before.disk_faults after.disk_faults → after.disk_faults ≡ before.disk_faults
  same_faults failed other cause = by_calm cause.calm where
    by_calm : failed ⊎ (after.disk_faults ≡ before.disk_faults) → after.disk_faults ≡ before.disk_faults
    by_calm (inl is) = absurd (other is)
    by_calm (inr same) = same

  none : {R : Type 0} (result : Result R OverlayError) → (result ≡ Err error.DiskFault → ⊥) → RoseIf (IsErrOf result error.DiskFault) before.disk_faults after.disk_faults → after.disk_faults ≡ before.disk_faults
  none result other cause = same_faults (IsErrOf result error.DiskFault) other cause

  pub serves_ended : {R : Type 0} (result : Result R OverlayError) → live' ≡ is_usable result → RoseIf (IsErrOf result error.DiskFault) before.disk_faults after.disk_faults
      → Leaves (ended result) (Serves live' began after) (Stops began after)
  serves_ended (Ok v) usable cause = goes_on usable (none (Ok v) (λ is. absurd (cc is)) cause)
  serves_ended (Err error.DiskFault) usable cause = faulted (cause.rose refl)
  serves_ended (Err (error.Damaged key)) usable cause = damaged key (none (Err (error.Damaged key)) (λ is. absurd (cc is)) cause)
  serves_ended (Err error.Memory) usable cause = goes_on usable (none (Err error.Memory) (λ is. absurd (cc is)) cause)
  serves_ended (Err (error.NoObject id)) usable cause = goes_on usable (none (Err (error.NoObject id)) (λ is. absurd (cc is)) cause)
  serves_ended (Err (error.NoVersion r)) usable cause = goes_on usable (none (Err (error.NoVersion r)) (λ is. absurd (cc is)) cause)
  serves_ended (Err (error.LastVersion id)) usable cause = goes_on usable (none (Err (error.LastVersion id)) (λ is. absurd (cc is)) cause)
  serves_ended (Err error.TooManyChanges) usable cause = goes_on usable (none (Err error.TooManyChanges) (λ is. absurd (cc is)) cause)
  serves_ended (Err error.TooLong) usable cause = goes_on usable (none (Err error.TooLong) (λ is. absurd (cc is)) cause)
  serves_ended (Err error.NoNumber) usable cause = goes_on usable (none (Err error.NoNumber) (λ is. absurd (cc is)) cause)

  pub serves_read : {R : Type 0} (result : Result R OverlayError) → live' ≡ is_usable result → RoseIf (IsErrOf result error.DiskFault) before.disk_faults after.disk_faults
      → Leaves (read result) (Serves live' began after) (Stops began after)
  serves_read (Ok v) usable cause = serves_ended (Ok v) usable cause
  serves_read (Err error.DiskFault) usable cause = serves_ended (Err error.DiskFault) usable cause
  serves_read (Err (error.Damaged key)) usable cause = serves_ended (Err (error.Damaged key)) usable cause
  serves_read (Err error.Memory) usable cause = serves_ended (Err error.Memory) usable cause
  serves_read (Err (error.NoObject id)) usable cause = serves_ended (Err (error.NoObject id)) usable cause
  serves_read (Err (error.NoVersion r)) usable cause = serves_ended (Err (error.NoVersion r)) usable cause
  serves_read (Err (error.LastVersion id)) usable cause = serves_ended (Err (error.LastVersion id)) usable cause
  serves_read (Err error.TooManyChanges) usable cause = serves_ended (Err error.TooManyChanges) usable cause
  serves_read (Err error.TooLong) usable cause = serves_ended (Err error.TooLong) usable cause
  serves_read (Err error.NoNumber) usable cause = serves_ended (Err error.NoNumber) usable cause

  -- a call of the context that ends so
  pub call_serves : {R : Type 0} (result : Result R OverlayError) (answer : Result R Stop) → answer ≡ ended result → live' ≡ is_usable result → RoseIf (IsErrOf result error.DiskFault) before.disk_faults after.disk_faults
      → Leaves answer (Serves live' began after) (Stops began after)
  call_serves {R} result answer is usable cause = subst (λ (r : Result R Stop). Leaves r (Serves live' began after) (Stops began after)) (sym is) (serves_ended result usable cause)

  pub reading_serves : {R : Type 0} (result : Result R OverlayError) (answer : Result R Stop) → answer ≡ read result → live' ≡ is_usable result → RoseIf (IsErrOf result error.DiskFault) before.disk_faults after.disk_faults
      → Leaves answer (Serves live' began after) (Stops began after)
  reading_serves {R} result answer is usable cause = subst (λ (r : Result R Stop). Leaves r (Serves live' began after) (Stops began after)) (sym is) (serves_read result usable cause)

-- an evaluation
module _ (began before after : View) (live live' : Bool) (serves : Serves live began before) where
  abbrev Left : Option Unread → Type 0
  Left s = Since before after live' s

  calm_at : (s : Option Unread) → (s ≡ Some unread.DiskFault → ⊥) → Left s → after.disk_faults ≡ before.disk_faults
  calm_at s other left = same_faults began before after live live' serves left.looks (s ≡ Some unread.DiskFault) other left.faults

  still : Left None → Serves live' began after
  still left = goes_on began before after live live' serves left.looks left.usable (calm_at None (λ is. absurd (cc is)) left)

  pub serves_evaluated : (result : Result Value (EvalStop Unread)) → Left (stopped_by result None) → Leaves (read_as result) (Serves live' began after) (Stops began after)
  serves_evaluated (Ok v) left = still left
  serves_evaluated (Err (eval.Fault fault)) left = still left
  serves_evaluated (Err eval.Memory) left = still left
  serves_evaluated (Err (eval.Frame unread.DiskFault)) left = faulted began before after live live' serves left.looks (left.faults.rose refl)
  serves_evaluated (Err (eval.Frame (unread.Damaged key))) left =
      damaged began before after live live' serves left.looks key (calm_at (Some (unread.Damaged key)) (λ is. absurd (cc is)) left)

  pub evaluation_serves : (result : Result Value (EvalStop Unread)) (answer : Result (Result Value Fault) Stop) → answer ≡ read_as result → Left (stopped_by result None) → Leaves answer (Serves live' began after) (Stops began after)
  evaluation_serves result answer is left = subst (λ (r : Result (Result Value Fault) Stop). Leaves r (Serves live' began after) (Stops began after)) (sym is) (serves_evaluated result left)

-- ---- where the host wasn't asked

module _ (live : Bool) (began now : View) (serves : Serves live began now) where
  pub damaged_here : (key : Key) → Stops began now (stop.Damaged key)
  damaged_here key = record { looks = serves.looks; faults = record { later = serves.looks.keeps.disk_faults; rose = λ e. absurd (cc e); calm = inr serves.faults } }

  pub serves_calm : {R : Type 0} (result : Result R OverlayError) → Leaves (ended (calm result)) (Serves live began now) (Stops began now)
  serves_calm (Ok v) = serves
  serves_calm (Err error.Memory) = serves
  serves_calm (Err error.DiskFault) = serves
  serves_calm (Err (error.Damaged key)) = damaged_here key
  serves_calm (Err (error.NoObject id)) = serves
  serves_calm (Err (error.NoVersion r)) = serves
  serves_calm (Err (error.LastVersion id)) = serves
  serves_calm (Err error.TooManyChanges) = serves
  serves_calm (Err error.TooLong) = serves
  serves_calm (Err error.NoNumber) = serves

-- a making, which asks nothing of the disk
pub making_serves : {H K R : Type 0} (seen : H → View) (live : K → Bool) (began : View) (h h' : H) (q q' : K) (result : Result R OverlayError) (answer : Result R Stop) → answer ≡ ended (calm result) → q' ≡ q → h' ≡ h
    → Serves (live q) began (seen h) → Leaves answer (Serves (live q') began (seen h')) (Stops began (seen h'))
making_serves {H} {K} {R} seen live began h h' q q' result answer is same_heap same_host serves =
    subst (λ (r : Result R Stop). Leaves r (Serves (live q') began (seen h')) (Stops began (seen h'))) (sym is)
    (serves_calm (live q') began (seen h') (subst (λ (p : K). Serves (live p) began (seen h')) (sym same_heap) (subst (λ (n : H). Serves (live q) began (seen n)) (sym same_host) serves)) result)

-- ---- of a transaction

module _ {H K : Type 0} (seen : H → View) (live : K → Bool) where
  -- behind an act, where it still has what it was lent
  pub goes_behind : {R : Type 0} (result : Result R Stop) (w w' : Work H K) (k : Known H) → GoesOn seen live w k → (Lent k w → Lent k w')
      → (IsServing seen live k.began w → Leaves result (IsServing seen live k.began w') (Stops (seen k.began) (seen w'.host.now))) → Leaves result (GoesOn seen live w' k) (Halts seen w' k)
  goes_behind {R} result w w' k before lent serves = by_result result (serves before.serves) where
    by_result : (r : Result R Stop) → Leaves r (IsServing seen live k.began w') (Stops (seen k.began) (seen w'.host.now)) → Leaves r (GoesOn seen live w' k) (Halts seen w' k)
    by_result (Ok v) left = record { lent = lent before.lent; serves = left }
    by_result (Err (stop.Abort why)) left = record { lent = lent before.lent; serves = left }
    by_result (Err stop.Memory) left = record { lent = lent before.lent; serves = left }
    by_result (Err stop.DiskFault) left = record { lent = lent before.lent; stops = left }
    by_result (Err (stop.Damaged key)) left = record { lent = lent before.lent; stops = left }

  -- what a call does of it, whatever it began with
  abbrev pub IsLeft : {R : Type 0} → Work H K → Work H K → Result R Stop → Type 0
  IsLeft w w' result = (k : Known H) → GoesOn seen live w k → Leaves result (GoesOn seen live w' k) (Halts seen w' k)

  begins : (w : Work H K) → live w.heap.now ≡ true → GoesOn seen live w (known_of w [] empty_world)
  begins w usable = record {
    lent = record { heap = refl; overlay = refl; deferred = refl; text = refl; budget = refl; host = refl };
    serves = record { usable = usable; looks = looks_none (seen w.host.now); faults = refl };
  }

  lent_left : {R : Type 0} (result : Result R Stop) (w' : Work H K) (k : Known H) → Leaves result (GoesOn seen live w' k) (Halts seen w' k) → Lent k w'
  lent_left (Ok v) w' k left = left.lent
  lent_left (Err (stop.Abort why)) w' k left = left.lent
  lent_left (Err stop.Memory) w' k left = left.lent
  lent_left (Err stop.DiskFault) w' k left = left.lent
  lent_left (Err (stop.Damaged key)) w' k left = left.lent

  module _ {R : Type 0} (before after : View) where
    -- where it goes on
    serves_so : (result : Result R Stop) (l : Bool) → (result ≡ Err stop.DiskFault → ⊥) → Serves l before after → (l ≡ true → Leaves result (l ≡ true) (λ why. Unit {0})) → LeavesUsable result l before after
    serves_so result l other serves stays = record {
      usable = stays serves.usable;
      looks = serves.looks;
      faults = record { later = serves.looks.keeps.disk_faults; rose = λ e. absurd (other e); calm = inr serves.faults };
    }

    -- where it doesn't
    stops_so : (result : Result R Stop) (why : Stop) (l : Bool) → result ≡ Err why → Stops before after why → Leaves result (l ≡ true) (λ s. Unit {0}) → LeavesUsable result l before after
    stops_so result why l is stops stays = record {
      usable = stays;
      looks = stops.looks;
      faults = record {
        later = stops.faults.later;
        rose = λ e. let both : why ≡ stop.DiskFault = cc in stops.faults.rose both;
        calm = calm_too stops.faults.calm;
      };
    } where
      calm_too : (why ≡ stop.DiskFault) ⊎ (after.disk_faults ≡ before.disk_faults) → (result ≡ Err stop.DiskFault) ⊎ (after.disk_faults ≡ before.disk_faults)
      calm_too (inl at_fault) = inl (subst (λ (s : Stop). result ≡ Err s) at_fault is)
      calm_too (inr same) = inr same

    leaves_so : (result : Result R Stop) (l : Bool) → Leaves result (Serves l before after) (Stops before after) → LeavesUsable result l before after
    leaves_so (Ok v) l left = serves_so (Ok v) l (λ e. absurd (cc e)) left (λ s. s)
    leaves_so (Err (stop.Abort why)) l left = serves_so (Err (stop.Abort why)) l (λ e. absurd (cc e)) left (λ s. s)
    leaves_so (Err stop.Memory) l left = serves_so (Err stop.Memory) l (λ e. absurd (cc e)) left (λ s. s)
    leaves_so (Err stop.DiskFault) l left = stops_so (Err stop.DiskFault) stop.DiskFault l refl left tt
    leaves_so (Err (stop.Damaged key)) l left = stops_so (Err (stop.Damaged key)) (stop.Damaged key) l refl left tt

  -- of the context, with what comes back
  module _ (w w' : Work H K) (q : K) (x : Layer) (deferred : List (ℕ × Fired)) (text : List ℕ) (left : ℕ) (h : H) (back : IsReturned w w' q x deferred text left h) where
    plain_left : {R : Type 0} (result : Result R Stop) (k : Known H) → Leaves result (GoesOn seen live w' k) (Halts seen w' k)
        → Leaves result (Serves (live w'.heap.now) (seen k.began) (seen w'.host.now)) (Stops (seen k.began) (seen w'.host.now))
    plain_left (Ok v) k left = left.serves
    plain_left (Err (stop.Abort why)) k left = left.serves
    plain_left (Err stop.Memory) k left = left.serves
    plain_left (Err stop.DiskFault) k left = left.stops
    plain_left (Err (stop.Damaged key)) k left = left.stops

    pub serves_over : {R : Type 0} (result : Result R Stop) → IsLeft w w' result → live w.heap.now ≡ true → LeavesUsable result (live q) (seen w.host.now) (seen h)
    serves_over result does usable =
        let k = known_of w [] empty_world in
        let after = does k (begins w usable) in
        let lent = lent_left result w' k after in
        subst (λ (n : H). LeavesUsable result (live q) (seen w.host.now) (seen n)) (sym (back.host (sym lent.host)))
        (subst (λ (m : K). LeavesUsable result (live m) (seen w.host.now) (seen w'.host.now)) (sym (back.heap (sym lent.heap)))
        (leaves_so (seen w.host.now) (seen w'.host.now) result (live w'.heap.now) (plain_left result k after)))

-- ---- by what a call before it left

module _ (live : Bool) (before after : View) where
  -- it ended for the same reason
  pub usable_too : {R S : Type 0} (result : Result R Stop) (fails : Result S Stop) (why : Stop) → result ≡ Err why → fails ≡ Err why → LeavesUsable result live before after → LeavesUsable fails live before after
  usable_too {R} {S} result fails why is so left = record {
    usable = subst (λ (f : Result S Stop). Leaves f (live ≡ true) (λ s. Unit {0})) (sym so) (by_stop why (subst (λ (r : Result R Stop). Leaves r (live ≡ true) (λ s. Unit {0})) is left.usable));
    looks = left.looks;
    faults = record { later = left.faults.later; rose = λ e. let same : why ≡ stop.DiskFault = cc (sym so ∙ e) in left.faults.rose (is ∙ ap (λ (t : Stop). Err t) same); calm = by_calm left.faults.calm };
  } where
    by_stop : (why : Stop) → Leaves {R = R} (Err why) (live ≡ true) (λ s. Unit {0}) → Leaves {R = S} (Err why) (live ≡ true) (λ s. Unit {0})
    by_stop (stop.Abort reason) stays = stays
    by_stop stop.Memory stays = stays
    by_stop stop.DiskFault stays = stays
    by_stop (stop.Damaged key) stays = stays

    by_calm : (result ≡ Err stop.DiskFault) ⊎ (after.disk_faults ≡ before.disk_faults) → (fails ≡ Err stop.DiskFault) ⊎ (after.disk_faults ≡ before.disk_faults)
    by_calm (inl e) = let same : why ≡ stop.DiskFault = cc (sym is ∙ e) in inl (so ∙ ap (λ (t : Stop). Err t) same)
    by_calm (inr same) = inr same

  -- that one was done, and this one ends for want of memory at most
  pub usable_behind : {R S : Type 0} (v : R) (result : Result S Stop) → IfErr result (λ why. why ≡ stop.Memory) → LeavesUsable (Ok v) live before after → LeavesUsable result live before after
  usable_behind {R} {S} v result memory left = record {
    usable = by_result result memory left.usable;
    looks = left.looks;
    faults = record { later = left.faults.later; rose = λ is. absurd (other result memory is); calm = by_calm left.faults.calm };
  } where
    other : (result : Result S Stop) → IfErr result (λ why. why ≡ stop.Memory) → result ≡ Err stop.DiskFault → ⊥
    other (Ok s) memory is = cc is
    other (Err why) memory is = let e : why ≡ stop.DiskFault = cc is in cc (sym memory ∙ e)

    by_result : (result : Result S Stop) → IfErr result (λ why. why ≡ stop.Memory) → live ≡ true → Leaves result (live ≡ true) (λ s. Unit {0})
    by_result (Ok s) memory stays = stays
    by_result (Err (stop.Abort reason)) memory stays = stays
    by_result (Err stop.Memory) memory stays = stays
    by_result (Err stop.DiskFault) memory stays = tt
    by_result (Err (stop.Damaged key)) memory stays = tt

    by_calm : (Ok v ≡ Err stop.DiskFault) ⊎ (after.disk_faults ≡ before.disk_faults) → (result ≡ Err stop.DiskFault) ⊎ (after.disk_faults ≡ before.disk_faults)
    by_calm (inl is) = absurd (cc is)
    by_calm (inr same) = inr same

-- what was done was taken back before, of which neither the keeper nor the host knows
pub usable_taken : {H K R : Type 0} (seen : H → View) (live : K → Bool) (host back_host : H) → back_host ≡ host → (ctx back : Ctx K) → back ≡ record ctx { overlay = rewind ctx.classes ctx.overlay }
    → (result : Result R Stop) (l : Bool) (after : View) → live ctx.heap ≡ true → (live back.heap ≡ true → LeavesUsable result l (seen back_host) after) → LeavesUsable result l (seen host) after
usable_taken {H} {K} seen live host back_host same ctx back taken result l after usable leaves =
    let kept : back.heap ≡ ctx.heap = ap (λ (c : Ctx K). c.heap) taken in
    subst (λ (h : H). LeavesUsable result l (seen h) after) same (leaves (subst (λ (q : K). live q ≡ true) (sym kept) usable))
