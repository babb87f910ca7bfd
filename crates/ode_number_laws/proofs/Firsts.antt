-- A transaction's first world stays, and its settling takes the number after that world's.
use Rattle.std.proofs.Common.{◌≡◌, ◌+◌, ◌++◌, ℕ, Bool, true, false, cond, length, List, [], ◌∷◌, refl, ap, ◌∙◌}
use Rattle.std.specs.Prelude.{nat_le}
use Rattle.ode_number_laws.proofs.Lasting.{posted_stays}
use Rattle.ode_laws.proofs.Alone.{Alone, Keeps, alone}
use Rattle.ode_laws.proofs.SideCompleting.{completes_alike, entry_alike}
use Rattle.ode_laws.proofs.SideStatements.{commands_alike}
use Rattle.ode_laws.proofs.Sides.{EndsBy}
use Rattle.ode_machine.specs.Works.{changes_class, declares, ticks}
use Rattle.ode_run_laws.proofs.Ticks.{ticks_alike}
use Rattle.ode_value.specs.Acts.{◌>>◌, Aborted, Deed, Done, Outcome, does, go_on, needs, turns, with_line}
use Rattle.ode_value.specs.Changing.{changed_bones, changed_world}
use Rattle.ode_value.specs.Completing.{completes}
use Rattle.ode_value.specs.Draining.{runs_entry}
use Rattle.ode_value.specs.Executing.{commands}
use Rattle.ode_value.specs.Firings.{both_lists, whole_list}
use Rattle.ode_value.specs.Language.{ListTx, ListWorld}
use Rattle.ode_value.specs.Limits.{output_limit, weight_limit}
use Rattle.ode_value.specs.Objects.{Histories, Starts}
use Rattle.ode_value.specs.Pasts.{lists}
use Rattle.ode_value.specs.Settling.{abort, aborted, commit, committed, settle, transaction}
use Rattle.ode_value.specs.Texts.{changed_line, class_line}
use Rattle.ode_value.specs.Transactions.{Origin, begun, with_bones}
use Rattle.ode_value.specs.Weights.{weight}
use Rattle.ode_value.specs.Worlds.{Declared, Entry, Position}
use Rattle.ode_value.specs.declared.change.Change.{Change}
use Rattle.ode_value.specs.declared.event.Kind.TheVariants.{TAbort, TCommit}
use Rattle.ode_value.specs.declared.reason.Reason.{Reason}
use Rattle.ode_value.specs.declared.reason.Reason.TheVariants.{Output, Space}
use Rattle.ode_value.specs.declared.statement.Stmt.{Stmt}

-- ---- settling

pub commit_number : (x : ListTx) → (commit lists x).0.bones.transaction ≡ x.first.bones.transaction + 1
commit_number x =
    ap (λ (w : ListWorld). w.bones.transaction + 1)
    (posted_stays lists (both_lists lists) (committed lists x).now.bones.classes x.first TCommit (committed lists x) (refl, refl)).1

pub abort_number : (reason : Reason) (x : ListTx) → (abort lists reason x).0.bones.transaction ≡ x.first.bones.transaction + 1
abort_number reason x =
    ap (λ (w : ListWorld). w.bones.transaction + 1)
    (posted_stays lists (whole_list lists) (aborted lists x).now.bones.classes x.first TAbort (aborted lists x) (refl, refl)).1

module _ (w : ListWorld) where
  -- it began with this world
  abbrev pub Began : ListTx → Type 0
  Began x = x.first ≡ w

  -- what an act reached
  abbrev pub StillBegan : {R : Type 0} → Outcome Histories Starts R → Type 0
  StillBegan (Done answer x) = Began x
  StillBegan (Aborted reason x) = Began x

  abbrev Beginning : ℕ → ListTx → Type 0
  Beginning n x = Began x

  keeps : Keeps lists Beginning
  keeps = record {
    less = λ n x h. h;
    statement = λ n x h more. h;
    foot = λ n x change h. h;
    line = λ n x line h fits. h;
    keys = λ n x keys h fits. h;
    touch = λ n x id h. h;
    defer = λ n x f h more. h;
    collect = λ n x independent f h room. h;
    set = λ n x r v place value h is small. h;
    derive = λ n x r v o h is there more small. h;
    drop = λ n x r v o h is there more. h;
    remove = λ n x id h. h;
    off = λ n x id number h. h;
    new = λ n x class fields h left small. h;
    active = λ n x id t args h left short. h;
    point = λ n x id p o firings h there. h;
  }

  abbrev One : List Declared → ListTx → ListTx → Type 0
  One cs y x = Alone lists Beginning keeps cs 0 y x

  stays_by : {R : Type 0} (cs : List Declared) (p : Outcome Histories Starts R) → EndsBy (One cs) (One cs) p p → StillBegan p
  stays_by cs (Done r x) h = h.1.2
  stays_by cs (Aborted r x) h = h.1.2

  pub statement_began : (x : ListTx) → Began x → (s : Stmt) → StillBegan (commands lists s x)
  statement_began x h s = stays_by x.now.bones.classes (commands lists s x) (commands_alike (alone lists Beginning keeps x.now.bones.classes) 0 s x x (refl, refl, h))

  pub completion_began : (x : ListTx) → Began x → StillBegan (completes lists x)
  completion_began x h = stays_by x.now.bones.classes (completes lists x) (completes_alike (alone lists Beginning keeps x.now.bones.classes) 0 x x (refl, refl, h))

  pub ticks_began : (x : ListTx) → Began x → (p : Position) → StillBegan (ticks lists p x)
  ticks_began x h p = stays_by x.now.bones.classes (ticks lists p x) (ticks_alike (alone lists Beginning keeps x.now.bones.classes) p x x (refl, refl, h))

  pub entry_began : (x : ListTx) → Began x → (e : Entry) → StillBegan (runs_entry lists e x)
  entry_began x h e = stays_by x.now.bones.classes (runs_entry lists e x) (entry_alike (alone lists Beginning keeps x.now.bones.classes) 0 e x x (refl, refl, h))

  -- a test of which the outcome is known
  abbrev tested : Bool → Reason → ListTx → Outcome Histories Starts (Unit {0})
  tested b reason x = cond b (Done tt x) (Aborted reason x)

  tested_began : (b : Bool) (reason : Reason) (x : ListTx) (next : Deed Histories Starts) → Began x → StillBegan (next x) → StillBegan (go_on (tested b reason x) (λ u. next))
  tested_began true reason x next h later = later
  tested_began false reason x next h later = h

  pub declares_began : (x : ListTx) → Began x → (c : Declared) → StillBegan (declares c x)
  declares_began x h c =
      let y = with_bones (λ b. record b { classes = b.classes ++ c ∷ [] }) x in
      tested_began (nat_le (length y.text + length (class_line c.class.name)) output_limit) Output y (does (with_line (class_line c.class.name))) h h

  -- a line that is printed
  abbrev printing : Bool → Reason → List ℕ → ListTx → Outcome Histories Starts (Unit {0})
  printing b reason line x = go_on (tested b reason x) (λ u. does (with_line line))

  printed_began : (b : Bool) (reason : Reason) (line : List ℕ) (x : ListTx) (next : Deed Histories Starts) → Began x → ((z : ListTx) → Began z → StillBegan (next z))
      → StillBegan (go_on (printing b reason line x) (λ u. next))
  printed_began true reason line x next h later = later (with_line line x) h
  printed_began false reason line x next h later = h

  pub changes_began : (x : ListTx) → Began x → (classes : List Declared) (c : Change) → StillBegan (changes_class lists classes c x)
  changes_began x h classes c =
      printed_began (nat_le (length x.text + length (changed_line c.class)) output_limit) Output (changed_line c.class) x
      (needs Space (λ y. nat_le (weight (changed_bones y.now.bones c classes)) weight_limit) >> turns (changed_world lists classes c)) h
      (λ z began. tested_began (nat_le (weight (changed_bones z.now.bones c classes)) weight_limit) Space z (turns (changed_world lists classes c)) began began)

  -- ---- a whole transaction

  settle_number : (p : Outcome Histories Starts (Unit {0})) → StillBegan p → (settle lists p).0.bones.transaction ≡ w.bones.transaction + 1
  settle_number (Done answer x) h = commit_number x ∙ ap (λ (v : ListWorld). v.bones.transaction + 1) h
  settle_number (Aborted reason x) h = abort_number reason x ∙ ap (λ (v : ListWorld). v.bones.transaction + 1) h

  then_completes : (p : Outcome Histories Starts (Unit {0})) → StillBegan p → StillBegan (go_on p (λ u. completes lists))
  then_completes (Done answer x) h = completion_began x h
  then_completes (Aborted reason x) h = h

  pub transaction_number : (origin : Origin) (work : Deed Histories Starts) → StillBegan (work (begun origin w)) → (transaction lists origin work w).0.bones.transaction ≡ w.bones.transaction + 1
  unfolding transaction
  transaction_number origin work h = settle_number (go_on (work (begun origin w)) (λ u. completes lists)) (then_completes (work (begun origin w)) h)

  -- an open transaction that ends
  pub commits_number : (x : ListTx) → Began x → (settle lists (completes lists x)).0.bones.transaction ≡ w.bones.transaction + 1
  commits_number x h = settle_number (completes lists x) (completion_began x h)

  pub aborts_number : (reason : Reason) (x : ListTx) → Began x → (abort lists reason x).0.bones.transaction ≡ w.bones.transaction + 1
  aborts_number reason x h = abort_number reason x ∙ ap (λ (v : ListWorld). v.bones.transaction + 1) h
