-- What a run is to the call of the program.
use Rattle.std.proofs.Common.{◌≡◌, ◌<◌, ◌≤◌, ◌⊎◌, ⊎_elim, List, ℕ, Option, Some, None, IsSome, IsTrue, refl, sym, ◌∙◌, subst, arith}
use Rattle.std.proofs.lemmas.Bool.{cases_lt}
use Rattle.std.specs.Prelude.{◌≢◌}
use Rattle.ode_gate.specs.declared.places.TheConstants.{FORMAT}
use Rattle.ode_host.proofs.Moments.{weaker}
use Rattle.ode_host.specs.Host.{Keeps, LeavesOnly, Tells}
use Rattle.ode_host.specs.View.{View}
use Rattle.ode_host.specs.declared.status.Status.{Status}
use Rattle.ode_host.specs.declared.status.Status.TheVariants as status
use Rattle.ode_machine.proofs.MomentLaws.{at_start}
use Rattle.ode_machine.specs.Moments.{IsAfterSome}
use Rattle.ode_machine.specs.Runs.{Item, final, world_at}
use Rattle.ode_paging.specs.Meaning.{PagesMeanIn}
use Rattle.ode_script.specs.Cutting.{Ending}
use Rattle.ode_ends.specs.Endings.{RanAs}
use Rattle.ode_ends.specs.Statuses.{IsRunStatus}
use Rattle.ode_value.specs.Language.{ListWorld}
use Rattle.ode_begin.specs.Answers.{IsRunOf}
use Rattle.ode_begin.proofs.Holding.{pages_hold}
use Rattle.ode_begin.specs.Holds.{Holds, HoldsInPages}
use Rattle.ode_begin.specs.Stops.{CutShort}

-- a run has ended as the machine's, and what its keeper holds stands on the disk
pub run_of : (items : List Item) (ending : Ending) (w : ListWorld) (text : List ℕ) (left : Option (List ℕ)) (view : View) (status : Status)
    → RanAs (PagesMeanIn FORMAT) items ending w text left view status → IsRunOf items ending w text left view status
run_of items ending w text left view status ran = record {
  stated = ran.stated;
  ends = record {
    image = ran.ends.image;
    stands = ran.ends.stands;
    holds = pages_hold ran.ends.image (final w items) ran.ends.holds;
    printed = ran.ends.printed;
  };
  nothing = ran.nothing;
}

-- a run of a script is never answered with the usage
pub never_usage : (s : Status) → IsRunStatus s ⊎ (s ≡ status.BadFile) → s ≢ status.Usage
never_usage s which is = ⊎_elim
    (λ (run : IsRunStatus s). subst IsRunStatus is run)
    (λ bad. let no : status.BadFile ≡ status.Usage = sym bad ∙ is in cc (no))
    which

-- what no run of a world is answered with
pub never_bad : (s : Status) → IsRunStatus s → s ≡ status.BadFile → ⊥
never_bad s run is = subst IsRunStatus is run

pub some_of : {A : Type 0} (o : Option A) → IsSome o → (x : A) × (o ≡ Some x)
some_of None is = absurd (cc (is))
some_of (Some x) is = (x, refl)

-- what a host tells it tells behind more calls
pub still_tells : (old new : View) → Keeps old new → (image : List ℕ) → Tells old image → (file : List ℕ) × Tells new file
still_tells old new keeps image tells =
    let there = some_of new.image (keeps.told (subst (λ (o : Option (List ℕ)). IsSome o) (sym tells.image) refl)) in
    (there.0, record { honest = subst IsTrue (sym keeps.honest) tells.honest; image = there.1 })

-- What the disk reads as at the end of a run, and what is printed by then, is what a stop there leaves.
pub at_exit : (P : List ℕ → List ℕ → Type 0) (old new : View) → ((file out : List ℕ) → Tells new file → new.text ≡ Some out → new.left new.moment file out)
    → LeavesOnly old new P → ((c o : List ℕ) → old.left old.moment c o → P c o) → (file out : List ℕ) → Tells new file → new.text ≡ Some out → P file out
at_exit P old new may_stay run now file out tells said =
    let left = may_stay file out tells said in
    ⊎_elim
    (λ (beyond : old.moment < new.moment). run.each new.moment file out beyond (omega arith) left)
    (λ (within : new.moment ≤ old.moment).
    let is : new.moment ≡ old.moment = omega (arith, run.later) in
    now file out (subst (λ (t : ℕ). old.left t file out) is (run.keeps new.moment file out within left)))
    (cases_lt old.moment new.moment)

pub exit_cut : (items : List Item) (w : ListWorld) (text image : List ℕ) (old new : View) → ((file out : List ℕ) → Tells new file → new.text ≡ Some out → new.left new.moment file out)
    → Tells old image → Keeps old new → (out : List ℕ) → new.text ≡ Some out → LeavesOnly old new (IsAfterSome Holds items w text)
    → ((c o : List ℕ) → old.left old.moment c o → IsAfterSome Holds items w text c o) → CutShort items w text new
exit_cut items w text image old new may_stay tells keeps out said run now =
    let there = still_tells old new keeps image tells in
    record {
      image = there.0;
      out = out;
      tells = there.1;
      said = said;
      moment = at_exit (IsAfterSome Holds items w text) old new may_stay run now there.0 out there.1 said;
    }

-- nothing was done but what leaves the world
pub none_cut : (items : List Item) (w : ListWorld) (text image : List ℕ) (view : View) → Tells view image → Holds image w → view.text ≡ Some text → CutShort items w text view
none_cut items w text image view tells holds said = record { image = image; out = text; tells = tells; said = said; moment = at_start Holds items w text image holds }

-- a moment of a run over pages is one of a run
pub after_some : (items : List Item) (w : ListWorld) (text image out : List ℕ) → IsAfterSome HoldsInPages items w text image out → IsAfterSome Holds items w text image out
after_some items w text image out some = record {
  settled = some.settled;
  held = pages_hold image (world_at some.settled w items) some.held;
  front = some.front;
  rest = some.rest;
  is_front = some.is_front;
  printed = some.printed;
}

pub leaves_after : (items : List Item) (w : ListWorld) (text : List ℕ) (old new : View) → LeavesOnly old new (IsAfterSome HoldsInPages items w text) → LeavesOnly old new (IsAfterSome Holds items w text)
leaves_after items w text old new run = weaker old new (IsAfterSome HoldsInPages items w text) (IsAfterSome Holds items w text) (λ c o some. after_some items w text c o some) run

-- a call that leaves the image leaves what is told
pub tells_same : (file : List ℕ) (old new : View) → Keeps old new → new.image ≡ old.image → Tells old file → Tells new file
tells_same file old new keeps image tells = record { honest = subst IsTrue (sym keeps.honest) tells.honest; image = image ∙ tells.image }
