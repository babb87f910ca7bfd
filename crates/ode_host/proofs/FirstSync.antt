-- How a run goes on from its first sync.
use Rattle.std.proofs.Common.{◌≡◌, ◌<◌, ◌≤◌, ◌+◌, min, ⊎_elim, inl, inr, ℕ, List, sym, subst, arith}
use Rattle.std.proofs.lemmas.Bool.{cases_lt}
use Rattle.ode_host.specs.FirstSync.{SyncedRun}
use Rattle.ode_host.specs.Host.{Elapses, LeavesOnly, Nothing, Only}
use Rattle.ode_host.specs.View.{View}

module _ (old mid : View) (time : Elapses Nothing old mid) where
  -- up to the end of a sync a stop leaves what it might have left at the start
  at_start : (t : ℕ) (c o : List ℕ) → t ≤ mid.moment → mid.left t c o → old.left (min t old.moment) c o
  at_start t c o up_to left = ⊎_elim
      (λ (beyond : old.moment < t).
      let from = time.steps t c o beyond up_to left in
      let is : old.moment ≡ min t old.moment = omega arith in
      subst (λ (k : ℕ). old.left k c o) is (subst (λ (f : List ℕ). old.left old.moment f o) (sym from.3.0) (subst (λ (s : List ℕ). old.left old.moment from.0 s) (sym from.3.1) from.2)))
      (λ (within : t ≤ old.moment).
      let is : t ≡ min t old.moment = omega arith in
      subst (λ (k : ℕ). old.left k c o) is (time.keeps t c o within left))
      (cases_lt old.moment t)

  -- the sync failed, and the run ended
  pub never_synced : (image : List ℕ) (failed : Type 0) (P : List ℕ → List ℕ → Type 0) → failed → SyncedRun old mid image failed P
  never_synced image failed P is_so = record {
    since = mid.moment + 1;
    later = omega (arith, time.later);
    within = inl is_so;
    before = λ t c o below up_to left. at_start t c o up_to left;
    stands = λ c o reached left. absurd (omega arith);
    each = λ t c o above up_to left. absurd (omega arith);
  }

  -- behind the sync a stop leaves what has P, then and as the run goes on
  pub synced_run : (new : View) (image : List ℕ) (failed : Type 0) (P : List ℕ → List ℕ → Type 0) → Only image mid → LeavesOnly mid new P
      → ((c o : List ℕ) → mid.left mid.moment c o → P c o) → SyncedRun old new image failed P
  synced_run new image failed P only run now = record {
    since = mid.moment;
    later = time.later;
    within = inr run.later;
    stands = λ c o reached left. only c o (run.keeps mid.moment c o (omega arith) left);
    before = λ t c o below up_to left. at_start t c o (omega (arith, below)) (run.keeps t c o (omega (arith, below)) left);
    each = λ t c o above up_to left. ⊎_elim
        (λ (beyond : mid.moment < t). run.each t c o beyond up_to left)
        (λ (within : t ≤ mid.moment).
        let is : t ≡ mid.moment = omega arith in
        now c o (subst (λ (k : ℕ). mid.left k c o) is (run.keeps t c o within left)))
        (cases_lt mid.moment t);
  }
