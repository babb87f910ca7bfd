-- Images that are written to the places of their pages, one after another.
use Rattle.std.proofs.Common.{◌≡◌, ◌≤◌, ◌<◌, ◌⊎◌, inl, inr, ⊎_elim, ℕ, ◌+◌, ◌-◌, ◌*◌, List, [], ◌∷◌, ◌++◌, IsTrue, Some, length, take, drop, replicate, refl, sym, ◌∙◌, ap, subst, arith, length-append}
use Rattle.std.proofs.lemmas.Cmp.{ranked}
use Rattle.std.proofs.lemmas.List.{drop-replicate, length-replicate, take_at}
use Rattle.std.proofs.lemmas.Map.Keys.{sorted_head}
use Rattle.std.specs.List.{AllByRecursion}
use Rattle.std.specs.List.Sorted.{IsStrictlySortedBy}
use Rattle.std.specs.Map.{keys_of}
use Rattle.std.specs.Ordering.{nat_cmp}
use Rattle.std.specs.declared.cmp.Ordering.TheVariants.{Less}
use Rattle.ode_gate.specs.declared.places.TheConstants.{PAGE_LEN}
use Rattle.ode_host.specs.Host.{Elapses, LeavesOnly, Puts, Stands, Tells, Torn, TornWrite, Wrote, written_over}
use Rattle.ode_host.specs.View.{View}
use Rattle.ode_host.proofs.Bytes.{length-written_over, torn_apart, written-torn, wrote_here}
use Rattle.ode_host.proofs.Moments.{goes_on, keeps_joined, now_from, started}
use Rattle.ode_paging.specs.Images.{HasRisingPages, Image, IsShortImage}
use Rattle.ode_paging.specs.Standing.{filled}
use Rattle.ode_pagemap.specs.Placing.{ArePlaced, IsSameBeside, LeavesBeside, TouchesNone, in_place, place_at}

pub length-filled : (used : List ℕ) → length used ≤ PAGE_LEN → length (filled used) ≡ PAGE_LEN
length-filled used short = omega (arith, length-append used (replicate (PAGE_LEN - length used) 0), length-replicate {A = ℕ} (PAGE_LEN - length used) 0)

-- a page of zeros with these bytes written over its front
pub filled_over : (used to : List ℕ) → to ≡ used ++ drop (0 + length used) (replicate PAGE_LEN 0) → to ≡ filled used
filled_over used to made =
    let here : 0 + length used ≡ length used = omega arith in
    made ∙ ap (λ (n : ℕ). used ++ drop n (replicate PAGE_LEN 0)) here ∙ ap (λ (l : List ℕ). used ++ l) (drop-replicate (length used) PAGE_LEN 0)

pub same_beside : (images : List Image) (file : List ℕ) → IsSameBeside images file file
same_beside images file = record { no_shorter = omega arith; same = λ at n within none. refl }

-- the bytes lie in front of a page's place or behind it
abbrev pub Misses : ℕ → ℕ → ℕ → Type 0
Misses at n page = (at + n ≤ place_at page) ⊎ (place_at page + PAGE_LEN ≤ at)

missed : (at n page : ℕ) (file c : List ℕ) → Torn (place_at page) PAGE_LEN file c → at + n ≤ length file → Misses at n page → take n (drop at c) ≡ take n (drop at file)
missed at n page file c torn within misses =
    torn_apart (place_at page) PAGE_LEN at n file c torn
    (⊎_elim (λ (before : at + n ≤ place_at page). inl (before, within)) (λ (behind : place_at page + PAGE_LEN ≤ at). inr behind) misses)

-- a torn write to the place of one of the pages
pub beside_torn : (images : List Image) (page : ℕ) (file d c : List ℕ) → ((at n : ℕ) → TouchesNone at n images → Misses at n page) → IsSameBeside images file d → Torn (place_at page) PAGE_LEN d c
    → IsSameBeside images file c
beside_torn images page file d c among beside torn = record {
  no_shorter = omega (arith, beside.no_shorter, torn.no_shorter);
  same = λ at n within none. missed at n page d c torn (omega (arith, within, beside.no_shorter)) (among at n none) ∙ beside.same at n within none;
}

-- the places of the pages behind the first lie behind its place
all_behind : (page : ℕ) (images : List Image) → AllByRecursion (λ k. nat_cmp page k ≡ Less) (keys_of images) → TouchesNone (place_at page) PAGE_LEN images
all_behind page [] above = tt
all_behind page (i ∷ images) above =
    let less : page < i.0 = ranked page i.0 Less (sym above.0) in
    (inl (omega (arith, less)), all_behind page images above.1)

module _ (i : Image) (left : List Image) (c : List ℕ) (short : length i.1 ≤ PAGE_LEN) where
  abbrev written : List ℕ
  written = written_over c (place_at i.0) (filled i.1)

  written_torn : Torn (place_at i.0) PAGE_LEN c written
  written_torn = subst (λ (n : ℕ). Torn (place_at i.0) n c written) (length-filled i.1 short) (written-torn (place_at i.0) (filled i.1) c)

  written_here : in_place written i.0 ≡ filled i.1
  written_here =
      ap (λ (l : List ℕ). take PAGE_LEN l) (wrote_here (place_at i.0) (filled i.1) c)
      ∙ take_at (filled i.1) (drop (place_at i.0 + length (filled i.1)) c) PAGE_LEN (length-filled i.1 short)

  -- an image more
  pub placed_one : HasRisingPages (i ∷ left) → (next : List ℕ) → ArePlaced left written next → ArePlaced (i ∷ left) c next
  placed_one rising next placed = record {
    beside = record {
      no_shorter = omega (arith, placed.beside.no_shorter, written_torn.no_shorter);
      same = λ at n within none.
          placed.beside.same at n (omega (arith, within, written_torn.no_shorter)) none.1 ∙ missed at n i.0 c written written_torn within none.0;
    };
    each = (
      placed.beside.same (place_at i.0) PAGE_LEN (omega (arith, length-written_over (place_at i.0) (filled i.1) c, length-filled i.1 short))
          (all_behind i.0 left (sorted_head nat_cmp i.0 (keys_of left) rising))
          ∙ written_here,
      placed.each,
    );
  }

pub placed_none : (c : List ℕ) → ArePlaced [] c c
placed_none c = record { beside = same_beside [] c; each = tt }

pub rising_behind : (i : Image) (left : List Image) → HasRisingPages (i ∷ left) → HasRisingPages left
unfolding IsStrictlySortedBy
rising_behind i left rising = rising.1

-- puts of some bytes, and then of more
pub puts_joined : (m n : ℕ) (old mid new : View) → Puts m old mid → Puts n mid new → Puts (m + n) old new
puts_joined m n old mid new first second = record {
  keeps = keeps_joined old mid new first.keeps second.keeps;
  text = second.text ∙ first.text;
  written = λ some. omega (arith, first.written some, second.written (first.keeps.told some));
  fetched = λ some. second.fetched (first.keeps.told some) ∙ first.fetched some;
  print_faults = second.print_faults ∙ first.print_faults;
}

pub puts_none : (v : View) → Puts 0 v v
puts_none v = record {
  keeps = record { honest = refl; told = λ some. some; printed = λ some. some; disk_faults = omega arith; print_faults = omega arith };
  text = refl;
  written = λ some. omega arith;
  fetched = λ some. refl;
  print_faults = refl;
}

-- Of these images some were written, and these are left.
pub record ArePlacing (images left : List Image) (old new : View) : Type 0 where
  pub placed : (file : List ℕ) → Tells old file → AllByRecursion IsShortImage images → (c : List ℕ) × Tells new c × ((next : List ℕ) → ArePlaced left c next → ArePlaced images file next)
  pub short : AllByRecursion IsShortImage images → AllByRecursion IsShortImage left
  pub rising : HasRisingPages left
  pub part : (at n : ℕ) → TouchesNone at n images → TouchesNone at n left
  pub any_moment : (file : List ℕ) → Stands file old → LeavesOnly old new (LeavesBeside images file old)
  pub now : (file : List ℕ) → Stands file old → (c o : List ℕ) → new.left new.moment c o → LeavesBeside images file old c o
  pub few : length left ≤ length images
  pub puts : Puts (PAGE_LEN * (length images - length left)) old new

pub placing_none : (images : List Image) (view : View) → ((c o : List ℕ) → view.left view.moment c o → view.text ≡ Some o) → HasRisingPages images → ArePlacing images images view view
placing_none images view text_stands rising =
    let none : 0 ≡ PAGE_LEN * (length images - length images) = omega arith in
    record {
      placed = λ file tells short. (file, tells, λ next are. are);
      short = λ short. short;
      rising = rising;
      part = λ at n none. none;
      any_moment = λ file stands. started view (LeavesBeside images file view);
      now = λ file stands c o left. record { beside = subst (λ (l : List ℕ). IsSameBeside images file l) (sym (stands.only c o left)) (same_beside images file); text = text_stands c o left };
      few = omega arith;
      puts = subst (λ (n : ℕ). Puts n view view) none (puts_none view);
    }

module _ (i : Image) (images left : List Image) (old mid new : View) (so_far : ArePlacing images (i ∷ left) old mid) (time : Elapses (TornWrite (place_at i.0) PAGE_LEN) mid new) where
  module _ (file : List ℕ) (stands : Stands file old) where
    here : (d e c o : List ℕ) → mid.left mid.moment d e → TornWrite (place_at i.0) PAGE_LEN d e c o → LeavesBeside images file old c o
    here d e c o left_here step =
        let was = so_far.now file stands d e left_here in
        record {
          beside = beside_torn images i.0 file d c (λ at n none. (so_far.part at n none).0) was.beside step.0;
          text = was.text ∙ ap Some (sym step.1);
        }

    -- a stop while one more is written
    pub more_moments : LeavesOnly old new (LeavesBeside images file old)
    more_moments = goes_on (TornWrite (place_at i.0) PAGE_LEN) old mid new (LeavesBeside images file old) (so_far.any_moment file stands) time here

    pub more_now : (c o : List ℕ) → new.left new.moment c o → LeavesBeside images file old c o
    more_now = now_from (TornWrite (place_at i.0) PAGE_LEN) mid new (LeavesBeside images file old) time (so_far.now file stands) here

  -- and when it is written
  pub placing_more : (length i.1 ≤ PAGE_LEN → Wrote (place_at i.0) (filled i.1) mid new) → Puts PAGE_LEN mid new → ArePlacing images left old new
  placing_more wrote put =
      let few : length (i ∷ left) ≤ length images = so_far.few in
      let bytes : PAGE_LEN * (length images - length (i ∷ left)) + PAGE_LEN ≡ PAGE_LEN * (length images - length left) = omega (arith, few) in
      record {
        placed = λ file tells short.
            let was = so_far.placed file tells short in
            let own : length i.1 ≤ PAGE_LEN = (so_far.short short).0 in
            let told : Tells new (written_over was.0 (place_at i.0) (filled i.1)) =
            record { honest = subst IsTrue (sym put.keeps.honest) was.1.honest; image = wrote own was.0 was.1 } in
            (written_over was.0 (place_at i.0) (filled i.1), told, λ next are. was.2 next (placed_one i left was.0 own so_far.rising next are));
        short = λ short. (so_far.short short).1;
        rising = rising_behind i left so_far.rising;
        part = λ at n none. (so_far.part at n none).1;
        any_moment = more_moments;
        now = more_now;
        few = omega (arith, few);
        puts = subst (λ (n : ℕ). Puts n old new) bytes (puts_joined (PAGE_LEN * (length images - length (i ∷ left))) PAGE_LEN old mid new so_far.puts put);
      }

-- all images are in their places
pub all_placed : (images : List Image) (old new : View) → ArePlacing images [] old new → (file : List ℕ) → Tells old file → AllByRecursion IsShortImage images
    → (next : List ℕ) × Tells new next × ArePlaced images file next
all_placed images old new done file tells short = let was = done.placed file tells short in (was.0, was.1, was.2 was.0 (placed_none was.0))
