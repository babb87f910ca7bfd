-- Changes that are read one after another into a batch.
use Rattle.std.proofs.Common.{◌≡◌, ◌<◌, ◌≤◌, ◌^◌, ℕ, ◌+◌, List, [], ◌∷◌, ◌++◌, false, length, Option, Some, None, refl, sym, ◌∙◌, ap, subst, arith}
use Rattle.std.specs.Prelude.{◌==◌}
use Rattle.std.specs.BTreeMap.{insert_entry}
use Rattle.std.specs.Int.{w32, to_be_bytes}
use Rattle.ode_host.proofs.Determinacy.{AreFirstOnce}
use Rattle.ode_value.specs.Keys.{key_cmp}
use Rattle.ode_value.specs.declared.key.Key.{Key}
use Rattle.ode_keep.proofs.Counted.{AreTakenInTurn, all_taken, none_taken, not_other, nothing_left, one_more_taken}
use Rattle.ode_keep.proofs.Firsts.{same_change_first}
use Rattle.ode_keep.proofs.Keys.{key_total}
use Rattle.ode_keep.specs.Entries.{Changes}
use Rattle.ode_keep.specs.Payloads.{change_bytes}
use Rattle.ode_keep.specs.Rising.{MayFollow, above_all, inserted_last}
use Rattle.ode_keep.specs.declared.limits.TheConstants.{MAX_CHANGES}
use Rattle.ode_ship.specs.Frames.{IsShipped}
use Rattle.ode_ship.specs.Payloads.{AreShipped}

abbrev pub Change : Type 0
Change = Key × Option (List ℕ)

pub none_left : (l : List ℕ) → (length l == 0) ≡ false → length l ≡ 0 → ⊥
none_left [] is none = absurd (cc (is))
none_left (x ∷ l) is none = absurd (omega (arith, none))

-- all of them are in the batch
abbrev pub all_in : Changes → Changes → Changes
all_in changes old = changes

pub once : AreFirstOnce change_bytes IsShipped
once c d rest more fits_c fits_d same = same_change_first c d rest more fits_c.fits fits_d.fits same

-- of these bytes a batch was read, the last change under this key, and this is left
abbrev pub IsRead : List ℕ → ℕ → ℕ → Changes → List ℕ → Option Key → Type 0
IsRead bytes count taken batch rest last = AreTakenInTurn change_bytes IsShipped key_cmp all_in bytes count taken [] batch rest last

pub none_read : (bytes : List ℕ) (count : ℕ) (batch : Changes) (rest : List ℕ) → batch ≡ [] → bytes ≡ to_be_bytes w32 count ++ rest → IsRead bytes count 0 batch rest None
none_read bytes count batch rest empty split =
    subst (λ (l : Changes). IsRead bytes count 0 l rest None) (sym empty) (none_taken change_bytes IsShipped key_cmp all_in bytes count [] rest refl split)

module _ (bytes : List ℕ) (count taken : ℕ) (batch : Changes) (rest : List ℕ) (last : Option Key) (is : IsRead bytes count taken batch rest last) where
  pub read_more : (c : Change) (more : List ℕ) (next : Changes) → IsShipped c → MayFollow key_cmp last c.0 → rest ≡ change_bytes c ++ more
      → next ≡ insert_entry key_cmp batch c.0 c.1 → taken < count → IsRead bytes count (taken + 1) next more (Some c.0)
  read_more c more next fits after begins put room =
      let above = subst (λ (l : Option Key). MayFollow key_cmp l c.0) is.last_is after in
      one_more_taken change_bytes IsShipped key_cmp all_in bytes count taken [] batch rest last is key_total c more next fits after begins
      (put ∙ ap (λ (l : Changes). insert_entry key_cmp l c.0 c.1) is.state ∙ inserted_last key_total is.done c.0 c.1 (above_all key_total is.done c.0 is.rising above)) room

  -- no change of the form comes next, where one is missing
  pub not_shipped : count < 2 ^ 32 → taken < count → ((c : Change) (more : List ℕ) → IsShipped c → MayFollow key_cmp last c.0 → rest ≡ change_bytes c ++ more → ⊥)
      → (changes : Changes) → AreShipped changes bytes → ⊥
  not_shipped fit room none changes form =
      not_other change_bytes IsShipped key_cmp all_in bytes count taken [] batch rest last is once fit changes form.spelled room none

  -- all are read where no byte is left
  pub read_all : count ≤ MAX_CHANGES → taken ≡ count → rest ≡ [] → AreShipped batch bytes
  read_all few whole empty =
      let spelled = all_taken change_bytes IsShipped key_cmp all_in bytes count taken [] batch rest last is (omega (arith, few)) whole empty in
      subst (λ (l : Changes). AreShipped l bytes) (sym is.state) (record { spelled = spelled; few = omega (arith, few, whole, is.many) })

  pub not_all : count < 2 ^ 32 → taken ≡ count → (length rest ≡ 0 → ⊥) → (changes : Changes) → AreShipped changes bytes → ⊥
  not_all fit whole some changes form =
      some (nothing_left change_bytes IsShipped key_cmp all_in bytes count taken [] batch rest last is once fit changes form.spelled whole)
