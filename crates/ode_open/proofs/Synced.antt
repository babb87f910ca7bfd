-- What a stop leaves of an opening, which begins with a sync and only looks behind it, and how a run goes on from there.
use Rattle.std.proofs.Common.{◌≡◌, ◌<◌, ◌≤◌, ◌∙◌, ⊎_elim, inl, inr, ℕ, List, Some, sym, arith}
use Rattle.std.proofs.lemmas.Bool.{cases_lt}
use Rattle.ode_host.specs.FirstSync.{SyncedRun}
use Rattle.ode_host.specs.Host.{LeavesOnly, Looks, Only, Stands, Tells}
use Rattle.ode_host.specs.View.{View}
use Rattle.ode_host.proofs.FirstSync.{synced_run}
use Rattle.ode_host.proofs.Moments.{looks_on, stands_looks, started, tells_looks}
use Rattle.ode_open.specs.Opening.{Stays}

module _ (old mid new : View) (image : List ℕ) (tells : Tells old image) (first : Looks old mid) (only : Only image mid) (behind : Looks mid new) where
  -- behind the sync a stop leaves the file
  pub stands_behind : Stands image new
  stands_behind = stands_looks image mid new behind (record { tells = tells_looks image old mid first tells; only = only })

  module _ (text : List ℕ) (said : old.text ≡ Some text) (text_stands : (c o : List ℕ) → mid.left mid.moment c o → mid.text ≡ Some o) where
    now : (c o : List ℕ) → mid.left mid.moment c o → Stays image text c o
    now c o left =
        let same : Some o ≡ Some text = sym (text_stands c o left) ∙ (first.text ∙ said) in
        (only c o left, cc (same))

    -- and the text
    pub stays_behind : (failed : Type 0) → SyncedRun old new image failed (Stays image text)
    stays_behind failed = synced_run old mid first.time new image failed (Stays image text) only (looks_on mid mid new (Stays image text) (started mid (Stays image text)) now behind) now

-- ---- a run that goes on

module _ (old mid : View) (image : List ℕ) (failed other : Type 0) (P Q : List ℕ → List ℕ → Type 0) (so : (c o : List ℕ) → P c o → Q c o) (run : SyncedRun old mid image failed P) where
  -- the same in other words
  pub synced_as : (failed → other) → SyncedRun old mid image other Q
  synced_as to = record {
    since = run.since;
    later = run.later;
    within = ⊎_elim (λ (is : failed). inl (to is)) (λ (up : run.since ≤ mid.moment). inr up) run.within;
    before = run.before;
    stands = run.stands;
    each = λ t c o above up_to left. so c o (run.each t c o above up_to left);
  }

  -- where it didn't fail, what comes behind it goes on from its sync
  pub synced_on : (failed → ⊥) → (new : View) → LeavesOnly mid new Q → SyncedRun old new image other Q
  synced_on none new more = by (⊎_elim (λ (is : failed). absurd (none is)) (λ (up : run.since ≤ mid.moment). up) run.within)
    where
      by : run.since ≤ mid.moment → SyncedRun old new image other Q
      by reached = record {
        since = run.since;
        later = run.later;
        within = inr (omega (arith, reached, more.later));
        before = λ t c o below up_to left. run.before t c o below (omega (arith, below, reached)) (more.keeps t c o (omega (arith, below, reached)) left);
        stands = λ c o up_to left. run.stands c o reached (more.keeps run.since c o reached left);
        each = λ t c o above up_to left. ⊎_elim
            (λ (beyond : mid.moment < t). more.each t c o beyond up_to left)
            (λ (within : t ≤ mid.moment). so c o (run.each t c o above within (more.keeps t c o within left)))
            (cases_lt mid.moment t);
      }
