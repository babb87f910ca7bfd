-- What the calls of a commit leave of the pages in hand.
use Rattle.std.proofs.Common.{◌≡◌, ◌<◌, ◌≤◌, max, ℕ, ◌+◌, List, Bool, true, false, Option, Some, None, Result, Ok, Err, IfOk, OnOk, length, refl, sym, ap, subst, ◌∙◌, arith}
use Rattle.std.specs.BTreeMap.{insert_entry}
use Rattle.std.specs.Bool.{OnFalse, OnTrue}
use Rattle.std.specs.Option.{IfNone, is_some}
use Rattle.std.specs.Ordering.{nat_cmp}
use Rattle.std.specs.Result.{is_err, is_ok}
use Rattle.ode_gate.specs.declared.header.Header.{Header}
use Rattle.ode_host.proofs.Moments.{tells_looks}
use Rattle.ode_host.specs.Host.{Looks, Tells}
use Rattle.ode_host.specs.View.{View}
use Rattle.ode_value.specs.declared.key.Key.{Key}
use Rattle.ode_keep.specs.declared.error.KeepError.{KeepError}
use Rattle.ode_keep.specs.declared.error.KeepError.TheVariants.{Memory, DiskFault, TooLarge, Damaged}
use Rattle.ode_keep.specs.Entries.{Entries}
use Rattle.ode_keep.specs.Keeping.{OnDamaged}
use Rattle.ode_paging.specs.declared.hand.Hand.{Hand}
use Rattle.ode_paging.specs.Hands.{Covers, HasInHand, MakesChange, StaysSame, entries_of}
use Rattle.ode_paging.specs.Images.{Image}
use Rattle.ode_paging.specs.OneMap.{one_page}
use Rattle.ode_paging.specs.Replacing.{page_at, page_changed, with_page}
use Rattle.ode_paging.specs.Standing.{HasPage}
use Rattle.ode_paging.proofs.Handed.{brought, brought_changed, not_in_hand, page_stands}

pub none_of : {A P : Type 0} (o : Option A) → ((x : A) → o ≡ Some x → ⊥) → IfNone o P → P
none_of None other none = none
none_of (Some x) other none = absurd (other x refl)

pub absent : {A : Type 0} (b : Bool) (o : Option A) → b ≡ is_some o → b ≡ false → o ≡ None
absent b None told off = refl
absent b (Some x) told off = absurd (cc (told, off))

pub told_ok : {T E : Type 0} {P Q : Type 0} (b : Bool) (r : Result T E) → b ≡ is_ok r → (P → Q) → OnOk r P → OnTrue b Q
told_ok true (Ok x) told to ok = to ok
told_ok true (Err e) told to ok = absurd (cc (told))
told_ok false r told to ok = tt

pub not_err : {T E : Type 0} {P : Type 0} (b : Bool) (r : Result T E) → b ≡ is_err r → b ≡ false → OnOk r P → P
not_err b (Ok x) told off ok = ok
not_err b (Err e) told off ok = absurd (cc (told, off))

pub told_true : {P : Type 0} (b : Bool) → b ≡ true → OnTrue b P → P
told_true true told was = was
told_true false told was = absurd (cc (told))

pub told_false : {P : Type 0} (b : Bool) → b ≡ false → OnFalse b P → P
told_false true told was = absurd (cc (told))
told_false false told was = was

damaged_as : (R S : Type 0) {P Q : Type 0} (e : KeepError) → (P → Q) → OnDamaged {A = R} (Err e) P → OnDamaged {A = S} (Err e) Q
damaged_as R S Memory to was = tt
damaged_as R S DiskFault to was = tt
damaged_as R S (TooLarge total) to was = tt
damaged_as R S (Damaged page) to was = to was

-- what an error says of one answer it says of another
pub damaged_by : (R S : Type 0) {P Q : Type 0} (result : Result S KeepError) (e : KeepError) → result ≡ Err e → OnDamaged {A = R} (Err e) P → (P → Q) → OnDamaged {A = S} result Q
damaged_by R S {Q = Q} result e is was to = subst (λ (r : Result S KeepError). OnDamaged r Q) (sym is) (damaged_as R S e to was)

-- and so where the call's whole answer is known
pub damaged_of : (R S : Type 0) {P Q : Type 0} (first : Result R KeepError) (result : Result S KeepError) (e : KeepError) → first ≡ Err e → result ≡ Err e → OnDamaged first P → (P → Q) → OnDamaged result Q
damaged_of R S {P = P} first result e was is damaged to = damaged_by R S result e is (subst (λ (r : Result R KeepError). OnDamaged r P) was damaged) to

pub damaged_more : (S : Type 0) {P Q : Type 0} (result : Result S KeepError) → OnDamaged result P → (P → Q) → OnDamaged result Q
damaged_more S (Ok x) was to = tt
damaged_more S (Err e) was to = damaged_as S S e to was

pub if_ok : {T E : Type 0} {P Q : T → Type 0} (r : Result T E) → IfOk r P → ((x : T) → P x → Q x) → IfOk r Q
if_ok (Ok x) was to = to x was
if_ok (Err e) was to = tt

module _ (view : View) (header : Header) (images : List Image) (old : Hand) where
  module _ (page : ℕ) (none : entries_of old.pages.entries page ≡ None) where
    none_there : ((file : List ℕ) (entries : Entries) → Tells view file → HasPage header images file page entries → ⊥) → (pages now : List Entries) → page < length now
        → HasInHand view header images old pages now → ⊥
    none_there bad pages now within has =
        bad has.file (page_at pages page) has.tells
        (page_stands header images has.file pages page has.stand (not_in_hand old.pages.entries old.count pages now page has.covers none within).0)

    -- where a page of the file has another form, the file doesn't have these pages
    pub damaged_hand : (R S : Type 0) (result : Result S KeepError) (e : KeepError) → result ≡ Err e
        → OnDamaged {A = R} (Err e) ((file : List ℕ) (entries : Entries) → Tells view file → HasPage header images file page entries → ⊥)
        → OnDamaged {A = S} result ((pages now : List Entries) → page < length now → HasInHand view header images old pages now → ⊥)
    damaged_hand R S result e is was = damaged_by R S result e is was none_there

    pub damaged_room : (R S : Type 0) (result : Result S KeepError) (e : KeepError) → result ≡ Err e → page < old.count
        → OnDamaged {A = R} (Err e) ((file : List ℕ) (entries : Entries) → Tells view file → HasPage header images file page entries → ⊥)
        → OnDamaged {A = S} result ((pages now : List Entries) → HasInHand view header images old pages now → ⊥)
    damaged_room R S result e is within was =
        damaged_by R S result e is was (λ bad pages now has. none_there bad pages now (omega (arith, within, has.covers.many)) has)

  -- A page of the file was read.
  module _ (next : View) (new : Hand) (page : ℕ) (looks : Looks view next) (es : Entries) (read : (file : List ℕ) → Tells view file → HasPage header images file page es)
      (none : entries_of old.pages.entries page ≡ None) (many : new.count ≡ max old.count (page + 1)) where
    own : (pages now : List Entries) → HasInHand view header images old pages now → page < length now → es ≡ page_at pages page
    own pages now has within =
        one_page header images has.file page es (page_at pages page) (read has.file has.tells)
        (page_stands header images has.file pages page has.stand (not_in_hand old.pages.entries old.count pages now page has.covers none within).0)

    looked : (pages now after : List Entries) → HasInHand view header images old pages now → Covers new pages after → HasInHand next header images new pages after
    looked pages now after has covers = record { file = has.file; tells = tells_looks has.file view next looks has.tells; stand = has.stand; covers = covers }

    pub brought_hand : new.pages.entries ≡ insert_entry nat_cmp old.pages.entries page es → (pages now : List Entries) → page < length now → HasInHand view header images old pages now
        → HasInHand next header images new pages now
    brought_hand made pages now within has =
        looked pages now now has
        (brought old.pages.entries new.pages.entries old.count new.count pages now page has.covers many none within
        (made ∙ ap (λ (x : Entries). insert_entry nat_cmp old.pages.entries page x) (own pages now has within)))

    pub put_hand : (f : Entries → Entries) (after : Entries) → after ≡ f es → new.pages.entries ≡ insert_entry nat_cmp old.pages.entries page after → (pages now : List Entries)
        → page < length now → HasInHand view header images old pages now → (page ≤ length now) × HasInHand next header images new pages (with_page now page (f (page_at now page)))
    put_hand f after changed made pages now within has = (
      omega (arith, within),
      looked pages now (with_page now page (f (page_at now page))) has
          (brought_changed old.pages.entries new.pages.entries old.count new.count pages now page has.covers many f after none within (changed ∙ ap f (own pages now has within)) made),
    )

  -- Nothing was read.
  module _ (new : Hand) (pages now : List Entries) (has : HasInHand view header images old pages now) where
    pub changed_in_hand : (page : ℕ) (k : Key) (value : Option (List ℕ)) → MakesChange old new page k value
        → (page ≤ length now) × HasInHand view header images new pages (page_changed now page k value)
    changed_in_hand page k value change =
        let made = change pages now has.covers in (made.0, record { file = has.file; tells = has.tells; stand = has.stand; covers = made.1 })

    pub same_in_hand : StaysSame old new → HasInHand view header images new pages now
    same_in_hand same = record { file = has.file; tells = has.tells; stand = has.stand; covers = same pages now has.covers }
