-- How a run of host calls goes on.
use Rattle.std.proofs.Common.{◌≡◌, ◌<◌, ◌≤◌, min, ⊎_elim, ℕ, List, ◌++◌, IsTrue, length, take, Some, refl, sym, ◌∙◌, ap, subst, arith}
use Rattle.std.proofs.lemmas.List.{take_all}
use Rattle.std.proofs.lemmas.Bool.{cases_lt}
use Rattle.ode_host.specs.View.{View}
use Rattle.ode_host.specs.Host.{Step, Elapses, LeavesOnly, Stands, Tells, Only, Keeps, Writes, Wrote, Looks, Prints, Nothing, Torn, TornWrite, CutPrint, LeavesTorn, LeavesCut, written_over}

-- before the first call
pub started : (v : View) (P : List ℕ → List ℕ → Type 0) → LeavesOnly v v P
started v P = record { later = omega arith; keeps = λ t c o le left. left; each = λ t c o above up_to left. absurd (omega arith) }

-- one run after another
pub joined : (old mid new : View) (P : List ℕ → List ℕ → Type 0) → LeavesOnly old mid P → LeavesOnly mid new P → LeavesOnly old new P
joined old mid new P first second = record {
  later = omega (arith, first.later, second.later);
  keeps = λ t c o le left. first.keeps t c o le (second.keeps t c o (omega (arith, first.later)) left);
  each = λ t c o above up_to left. ⊎_elim (λ beyond. second.each t c o beyond up_to left) (λ within. first.each t c o above within (second.keeps t c o within left)) (cases_lt mid.moment t);
}

-- one call, after which a stop leaves what has P
pub one_call : (step : Step) (old new : View) (P : List ℕ → List ℕ → Type 0) → Elapses step old new
    → ((d e c o : List ℕ) → old.left old.moment d e → step d e c o → P c o) → LeavesOnly old new P
one_call step old new P time here = record {
  later = time.later;
  keeps = time.keeps;
  each = λ t c o above up_to left. let from = time.steps t c o above up_to left in here from.0 from.1 c o from.2 from.3;
}

pub goes_on : (step : Step) (old mid new : View) (P : List ℕ → List ℕ → Type 0) → LeavesOnly old mid P → Elapses step mid new
    → ((d e c o : List ℕ) → mid.left mid.moment d e → step d e c o → P c o) → LeavesOnly old new P
goes_on step old mid new P so_far time here = joined old mid new P so_far (one_call step mid new P time here)

-- what a stop leaves after a call comes of what it left before
pub now_from : (step : Step) (old new : View) (P : List ℕ → List ℕ → Type 0) → Elapses step old new
    → ((c o : List ℕ) → old.left old.moment c o → P c o) → ((d e c o : List ℕ) → old.left old.moment d e → step d e c o → P c o) → (c o : List ℕ) → new.left new.moment c o → P c o
now_from step old new P time before here c o left = ⊎_elim
    (λ beyond. let from = time.steps new.moment c o beyond (omega arith) left in here from.0 from.1 c o from.2 from.3)
    (λ within. before c o (let is : new.moment ≡ old.moment = omega (arith, time.later) in subst (λ (t : ℕ). old.left t c o) is (time.keeps new.moment c o within left)))
    (cases_lt old.moment new.moment)

pub weaker : (old new : View) (P Q : List ℕ → List ℕ → Type 0) → ((c o : List ℕ) → P c o → Q c o) → LeavesOnly old new P → LeavesOnly old new Q
weaker old new P Q so run = record { later = run.later; keeps = run.keeps; each = λ t c o above up_to left. so c o (run.each t c o above up_to left) }

-- A write over a file that stands.
module _ (at : ℕ) (bytes file : List ℕ) (old new : View)
    (text_stands : (c o : List ℕ) → old.left old.moment c o → old.text ≡ Some o)
    (stands : Stands file old) (writes : Writes at bytes old new) where
  here : (d e c o : List ℕ) → old.left old.moment d e → TornWrite at (length bytes) d e c o → LeavesTorn at (length bytes) file old c o
  here d e c o left torn = (
    let is : d ≡ file = stands.only d e left in subst (λ (f : List ℕ). Torn at (length bytes) f c) is torn.0,
    text_stands d e left ∙ ap Some (sym torn.1),
  )

  pub write_leaves : LeavesOnly old new (LeavesTorn at (length bytes) file old)
  write_leaves = one_call (TornWrite at (length bytes)) old new (LeavesTorn at (length bytes) file old) writes.time here

-- a call that neither writes nor prints, after some that left only what has P
pub looks_on : (old mid new : View) (P : List ℕ → List ℕ → Type 0) → LeavesOnly old mid P → ((c o : List ℕ) → mid.left mid.moment c o → P c o) → Looks mid new → LeavesOnly old new P
looks_on old mid new P so_far now looks =
    goes_on Nothing old mid new P so_far looks.time
    (λ d e c o left same. subst (λ (f : List ℕ). P f o) (sym same.0) (subst (λ (s : List ℕ). P d s) (sym same.1) (now d e left)))

pub torn-same : (at n : ℕ) (file : List ℕ) → Torn at n file file
torn-same at n file = record {
  before = ⊎_elim
      (λ (short : at < length file). let is : min at (length file) ≡ at = omega arith in ap (λ (k : ℕ). take k file) is)
      (λ (long : length file ≤ at). take_all (min at (length file)) file (omega arith) ∙ sym (take_all at file long))
      (cases_lt at (length file));
  after = refl;
  no_shorter = omega arith;
  no_longer = omega arith;
}

-- the same at the moment after the write
pub write_leaves_now : (at : ℕ) (bytes file : List ℕ) (old new : View) → ((c o : List ℕ) → old.left old.moment c o → old.text ≡ Some o)
    → Stands file old → Writes at bytes old new → (c o : List ℕ) → new.left new.moment c o → LeavesTorn at (length bytes) file old c o
write_leaves_now at bytes file old new text_stands stands writes c o left =
    now_from (TornWrite at (length bytes)) old new (LeavesTorn at (length bytes) file old) writes.time
    (λ c o was. (let is : c ≡ file = stands.only c o was in subst (λ (f : List ℕ). Torn at (length bytes) file f) (sym is) (torn-same at (length bytes) file), text_stands c o was))
    (here at bytes file old new text_stands stands writes) c o left

tells_kept : (file : List ℕ) (old new : View) → Keeps old new → Tells old file → (next : List ℕ) → new.image ≡ Some next → Tells new next
tells_kept file old new keeps tells next is = record { honest = subst IsTrue (sym keeps.honest) tells.honest; image = is }

-- a write and a sync leave the bytes on the disk
pub wrote_stands : (at : ℕ) (bytes file : List ℕ) (old mid new : View) → Tells old file → Writes at bytes old mid → Wrote at bytes old mid → Looks mid new
    → ((f : List ℕ) → Tells mid f → Only f new) → Stands (written_over file at bytes) new
wrote_stands at bytes file old mid new tells writes wrote looks durable =
    let in_mid : Tells mid (written_over file at bytes) = tells_kept file old mid writes.keeps tells (written_over file at bytes) (wrote file tells) in
    record {
      tells = tells_kept (written_over file at bytes) mid new looks.keeps in_mid (written_over file at bytes) (looks.image ∙ in_mid.image);
      only = durable (written_over file at bytes) in_mid;
    }

-- two calls that neither write nor print are as one
pub keeps_joined : (a b c : View) → Keeps a b → Keeps b c → Keeps a c
keeps_joined a b c first second = record {
  honest = second.honest ∙ first.honest;
  told = λ some. second.told (first.told some);
  printed = λ some. second.printed (first.printed some);
  disk_faults = omega (arith, first.disk_faults, second.disk_faults);
  print_faults = omega (arith, first.print_faults, second.print_faults);
}

nothing_back : (a b : View) → Elapses Nothing a b → (c o : List ℕ) → b.left b.moment c o → a.left a.moment c o
nothing_back a b time = now_from Nothing a b (a.left a.moment) time (λ c o was. was)
    (λ d e c o was same. subst (λ (f : List ℕ). a.left a.moment f o) (sym same.0) (subst (λ (s : List ℕ). a.left a.moment d s) (sym same.1) was))

pub looks_joined : (a b c : View) → Looks a b → Looks b c → Looks a c
looks_joined a b c first second = record {
  keeps = keeps_joined a b c first.keeps second.keeps;
  image = second.image ∙ first.image;
  text = second.text ∙ first.text;
  time = record {
    later = omega (arith, first.time.later, second.time.later);
    keeps = λ t f o le left. first.time.keeps t f o le (second.time.keeps t f o (omega (arith, first.time.later)) left);
    stays = λ t f o le left. second.time.stays t f o (omega (arith, first.time.later)) (first.time.stays t f o le left);
    steps = λ t f o above up_to left. ⊎_elim
        (λ (beyond : b.moment < t).
        let from = second.time.steps t f o beyond up_to left in
        (from.0, from.1, nothing_back a b first.time from.0 from.1 from.2, from.3))
        (λ (within : t ≤ b.moment). first.time.steps t f o above within (second.time.keeps t f o within left))
        (cases_lt b.moment t);
  };
  written = λ some. second.written (first.keeps.told some) ∙ first.written some;
  print_faults = second.print_faults ∙ first.print_faults;
}

pub looks_none : (v : View) → Looks v v
looks_none v = record {
  keeps = record { honest = refl; told = λ some. some; printed = λ some. some; disk_faults = omega arith; print_faults = omega arith };
  image = refl;
  text = refl;
  time = record {
    later = omega arith;
    keeps = λ t f o le left. left;
    stays = λ t f o le left. left;
    steps = λ t f o above up_to left. absurd (omega arith);
  };
  written = λ some. refl;
  print_faults = refl;
}

-- what stands still stands after them
pub stands_looks : (file : List ℕ) (a b : View) → Looks a b → Stands file a → Stands file b
stands_looks file a b looks stands = record {
  tells = tells_kept file a b looks.keeps stands.tells file (looks.image ∙ stands.tells.image);
  only = λ c o left. stands.only c o (nothing_back a b looks.time c o left);
}

pub tells_looks : (file : List ℕ) (a b : View) → Looks a b → Tells a file → Tells b file
tells_looks file a b looks tells = tells_kept file a b looks.keeps tells file (looks.image ∙ tells.image)

-- A print over a file that stands.
module _ (piece file text : List ℕ) (old new : View)
    (text_stands : (c o : List ℕ) → old.left old.moment c o → old.text ≡ Some o)
    (stands : Stands file old) (said : old.text ≡ Some text) (prints : Prints piece old new) where
  print_here : (d e c o : List ℕ) → old.left old.moment d e → CutPrint piece d e c o → LeavesCut file text piece c o
  print_here d e c o left cut =
      let was : Some text ≡ Some e = sym said ∙ text_stands d e left in
      let same : text ≡ e = cc (was) in
      (cut.0 ∙ stands.only d e left, cut.1, cut.2 ∙ ap (λ (l : List ℕ). l ++ take cut.1 piece) (sym same))

  pub print_leaves : LeavesOnly old new (LeavesCut file text piece)
  print_leaves = one_call (CutPrint piece) old new (LeavesCut file text piece) prints.time print_here

  pub stands_print : Stands file new
  stands_print = record {
    tells = tells_kept file old new prints.keeps stands.tells file (prints.image ∙ stands.tells.image);
    only = now_from (CutPrint piece) old new (λ c o. c ≡ file) prints.time stands.only (λ d e c o left cut. cut.0 ∙ stands.only d e left);
  }
