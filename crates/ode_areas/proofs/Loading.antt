-- Records and changes that are read one after another.
use Rattle.std.proofs.Common.{◌≡◌, ◌<◌, ℕ, ◌+◌, ◌-◌, List, [], ◌∷◌, ◌++◌, length, Option, Some, None, refl, sym, ◌∙◌, ap, subst, arith, length-append}
use Rattle.std.specs.List.Sorted.{IsStrictlySortedBy}
use Rattle.ode_value.specs.declared.key.Key.{Key}
use Rattle.ode_value.specs.Records.{Row, row_bytes, snapshot}
use Rattle.ode_keep.specs.Entries.{Changes, Entries, applied, changed}
use Rattle.ode_value.specs.Keys.{key_cmp}
use Rattle.ode_keep.proofs.Keys.{key_total}
use Rattle.ode_keep.specs.Snapshots.{FitsRow, FitsSnapshot, IsBrokenSnapshot}
use Rattle.ode_keep.specs.Payloads.{FitsChange, change_bytes}
use Rattle.ode_keep.proofs.Counted.{AreTakenInTurn, one_more_taken, spelled_push}
use Rattle.ode_keep.proofs.Lists.{all_behind, all_push}
use Rattle.ode_keep.specs.Rising.{MayFollow, above_all, follows, inserted_last, last_of, last_of-push, rising_push}

-- Of a snapshot these records were read, the last of them under this key, and this is left.
pub record IsRead (bytes : List ℕ) (map : Entries) (rest : List ℕ) (last : Option Key) (at : ℕ) : Type 0 where
  pub split : bytes ≡ snapshot map ++ rest
  pub fits : FitsSnapshot map
  pub last_is : last ≡ last_of None map
  pub place : at ≡ length (snapshot map)

pub read_none : (bytes : List ℕ) (map : Entries) → map ≡ [] → IsRead bytes map bytes None 0
unfolding IsStrictlySortedBy
read_none bytes map empty = subst (λ (l : Entries). IsRead bytes l bytes None 0) (sym empty) (record { split = refl; fits = record { rows = tt; rising = tt }; last_is = refl; place = refl })

module _ (bytes : List ℕ) (map : Entries) (rest : List ℕ) (last : Option Key) (at : ℕ) (is : IsRead bytes map rest last at) where
  pub read_more : (r : Row) (more : List ℕ) (next : Entries) → FitsRow r → MayFollow key_cmp last r.0 → rest ≡ row_bytes r ++ more → next ≡ changed map r.0 (Some r.1)
      → IsRead bytes next more (Some r.0) (length bytes - length more)
  read_more r more next fits after begins put =
      let above = subst (λ (l : Option Key). MayFollow key_cmp l r.0) is.last_is after in
      let now : map ++ r ∷ [] ≡ next = sym (put ∙ inserted_last key_total map r.0 r.1 (above_all key_total map r.0 is.fits.rising above)) in
      let split : bytes ≡ snapshot (map ++ r ∷ []) ++ more = is.split ∙ ap (λ (l : List ℕ). snapshot map ++ l) begins ∙ sym (spelled_push row_bytes map r more) in
      subst (λ (l : Entries). IsRead bytes l more (Some r.0) (length bytes - length more)) now (record {
        split = split;
        fits = record { rows = all_push FitsRow map r is.fits.rows fits; rising = rising_push key_total map r is.fits.rising above };
        last_is = sym (last_of-push None map r);
        place = omega (arith, ap length split, length-append (snapshot (map ++ r ∷ [])) more);
      })

  pub read_broken : (size : ℕ) → at < size → ((r : Row) (more : List ℕ) → FitsRow r → MayFollow key_cmp last r.0 → rest ≡ row_bytes r ++ more → ⊥) → IsBrokenSnapshot size at bytes
  read_broken size within none = record {
    front = map;
    behind = rest;
    split = is.split;
    fits = is.fits;
    place = is.place;
    within = within;
    bad = λ r more begins fits.
        none r more (all_behind FitsRow map (r ∷ []) fits.rows).0
        (subst (λ (l : Option Key). MayFollow key_cmp l r.0) (sym is.last_is) (follows key_cmp map r [] fits.rising)) begins;
  }

-- of a payload these changes were read and made
abbrev pub IsMade : List ℕ → ℕ → ℕ → Entries → Entries → List ℕ → Option Key → Type 0
IsMade = AreTakenInTurn change_bytes FitsChange key_cmp applied

pub applied-push : (cs : Changes) (c : Key × Option (List ℕ)) (entries : Entries) → applied (cs ++ c ∷ []) entries ≡ changed (applied cs entries) c.0 c.1
applied-push [] c entries = refl
applied-push (d ∷ cs) c entries = applied-push cs c (changed entries d.0 d.1)

module _ (payload : List ℕ) (count made : ℕ) (old map : Entries) (rest : List ℕ) (last : Option Key) (is : IsMade payload count made old map rest last) where
  pub made_more : (c : Key × Option (List ℕ)) (more : List ℕ) (next : Entries) → FitsChange c → MayFollow key_cmp last c.0 → rest ≡ change_bytes c ++ more → next ≡ changed map c.0 c.1
      → made < count → IsMade payload count (made + 1) old next more (Some c.0)
  made_more c more next fits after begins change =
      one_more_taken change_bytes FitsChange key_cmp applied payload count made old map rest last is key_total c more next fits after begins
      (change ∙ ap (λ (m : Entries). changed m c.0 c.1) is.state ∙ sym (applied-push is.done c old))
