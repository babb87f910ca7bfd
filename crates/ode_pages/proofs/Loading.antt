-- Entries that are read one after another.
use Rattle.std.proofs.Common.{◌≡◌, ◌<◌, ℕ, ◌+◌, ⊎_elim, List, [], ◌∷◌, ◌++◌, length, Option, Some, None, refl, sym, ◌∙◌, ap, subst, arith, append_assoc, length-append}
use Rattle.std.proofs.lemmas.List.{flat_map_more}
use Rattle.std.specs.List.Sorted.{IsStrictlySortedBy}
use Rattle.ode_value.specs.declared.key.Key.{Key}
use Rattle.ode_value.specs.Keys.{key_cmp}
use Rattle.ode_value.specs.Records.{Row, row_bytes, snapshot}
use Rattle.ode_host.proofs.Determinacy.{IsAhead, NextSpelled, Reads, forked, spelled_once, spelled_reads}
use Rattle.ode_keep.specs.Entries.{Entries, HasRisingKeys}
use Rattle.ode_keep.specs.Rising.{MayFollow, follows, last_of, last_of-push, rising_push}
use Rattle.ode_keep.specs.Snapshots.{FitsRow, FitsSnapshot}
use Rattle.ode_keep.proofs.Firsts.{same_row_first}
use Rattle.ode_keep.proofs.Keys.{key_total}
use Rattle.ode_keep.proofs.Lists.{all_push}

-- So many entries were read from these bytes, the last of them under this key, and this is left.
pub record AreRead (bytes : List ℕ) (many : ℕ) (rest : List ℕ) (last : Option Key) : Type 0 where
  pub front : Entries
  pub split : bytes ≡ snapshot front ++ rest
  pub fits : FitsSnapshot front
  pub last_is : last ≡ last_of None front
  pub many_are : many ≡ length front

pub read_none : (bytes : List ℕ) → AreRead bytes 0 bytes None
unfolding IsStrictlySortedBy
read_none bytes = record { front = []; split = refl; fits = record { rows = tt; rising = tt }; last_is = refl; many_are = refl }

module _ (bytes : List ℕ) (many : ℕ) (rest : List ℕ) (last : Option Key) (is : AreRead bytes many rest last) where
  pub read_more : (r : Row) (more : List ℕ) → FitsRow r → MayFollow key_cmp last r.0 → rest ≡ row_bytes r ++ more → AreRead bytes (many + 1) more (Some r.0)
  read_more r more fits after begins = record {
    front = is.front ++ r ∷ [];
    split =
        is.split ∙ ap (λ (l : List ℕ). snapshot is.front ++ l) begins
        ∙ sym (ap (λ (l : List ℕ). l ++ more) (sym (flat_map_more row_bytes [] is.front r)) ∙ append_assoc (snapshot is.front) (row_bytes r) more);
    fits = record {
      rows = all_push FitsRow is.front r is.fits.rows fits;
      rising = rising_push key_total is.front r is.fits.rising (subst (λ (l : Option Key). MayFollow key_cmp l r.0) is.last_is after);
    };
    last_is = sym (last_of-push None is.front r);
    many_are = omega (arith, is.many_are, length-append is.front (r ∷ []));
  }

  module _ (es : Entries) (behind : List ℕ) (fits : FitsSnapshot es) (spelled : bytes ≡ snapshot es ++ behind) (within : many < length es)
      (none : (r : Row) (more : List ℕ) → FitsRow r → MayFollow key_cmp last r.0 → rest ≡ row_bytes r ++ more → ⊥) where
    one_more : (others : Entries) → es ≡ is.front ++ others → Reads (NextSpelled row_bytes FitsRow) rest others behind → ⊥
    one_more [] pieces reads = absurd (omega (arith, within, is.many_are, ap (λ (l : Entries). length l) pieces, length-append is.front []))
    one_more (r ∷ others) pieces reads =
        none r reads.0 reads.1.0
        (subst (λ (l : Option Key). MayFollow key_cmp l r.0) (sym is.last_is) (follows key_cmp is.front r others (subst (λ (l : Entries). HasRisingKeys l) pieces fits.rising)))
        reads.1.1

    -- where more entries are spelled, one of them is next
    pub not_other : ⊥
    not_other = ⊎_elim
        (λ (ahead : IsAhead (NextSpelled row_bytes FitsRow) is.front rest es behind). one_more ahead.others ahead.items ahead.reads)
        (λ (ahead : IsAhead (NextSpelled row_bytes FitsRow) es behind is.front rest).
        absurd (omega (arith, within, is.many_are, ap (λ (l : Entries). length l) ahead.items, length-append es ahead.others)))
        (forked (NextSpelled row_bytes FitsRow) (spelled_once row_bytes FitsRow same_row_first) is.front es (snapshot is.front ++ rest) rest behind
        (spelled_reads row_bytes FitsRow is.front rest is.fits.rows)
        (subst (λ (l : List ℕ). Reads (NextSpelled row_bytes FitsRow) l es behind) (sym spelled ∙ is.split) (spelled_reads row_bytes FitsRow es behind fits.rows)))
