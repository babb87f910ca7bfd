-- Records that are read one behind the other, up to where a page is full.
use Rattle.std.proofs.Common.{◌≡◌, ◌<◌, ◌+◌, ◌-◌, ℕ, List, [], ◌∷◌, ◌++◌, length, refl, sym, ap, subst, ◌∙◌, arith, append_assoc, length-append}
use Rattle.std.proofs.lemmas.List.Concat.{flat_map-append}
use Rattle.std.specs.List.{AllByRecursion}
use Rattle.ode_keep.specs.Entries.{Entries}
use Rattle.ode_keep.specs.Snapshots.{FitsRow}
use Rattle.ode_keep.proofs.Firsts.{same_row_first}
use Rattle.ode_keep.proofs.Lists.{all_behind}
use Rattle.ode_value.specs.Records.{Row, row_bytes, snapshot}
use Rattle.ode_cutting.specs.Cutting.{IsFront, first_length}
use Rattle.ode_cutting.specs.declared.front.Front.{Front}
use Rattle.ode_cutting.specs.declared.front.TheConstants.{PAGE_ROOM}

-- these are at the front, and these bytes of the others are left
pub record IsReadTo (entries : Entries) (it : Front) (rest : List ℕ) : Type 0 where
  pub front : Entries
  pub left : Entries
  pub split : entries ≡ front ++ left
  pub rows : it.rows ≡ length front
  pub bytes : it.bytes ≡ length (snapshot front)
  pub rest_is : rest ≡ snapshot left

-- the records that spell bytes begin with the one that the bytes begin with
pub first_left : (left : Entries) (r : Row) (rest more : List ℕ) → AllByRecursion FitsRow left → FitsRow r → rest ≡ snapshot left → rest ≡ row_bytes r ++ more
    → (others : Entries) × (left ≡ r ∷ others) × (more ≡ snapshot others)
first_left [] r rest more all fits is begins = let none : [] ≡ row_bytes r ++ more = sym is ∙ begins in absurd (omega (arith, ap length none))
first_left (e ∷ es) r rest more all fits is begins =
    let one = same_row_first e r (snapshot es) more all.0 fits (sym is ∙ begins) in
    (es, ap (λ (x : Row). x ∷ es) one.0, sym one.1)

-- there are none where the bytes begin with none
pub none_left : (left : Entries) (rest : List ℕ) → AllByRecursion FitsRow left → rest ≡ snapshot left → ((r : Row) (more : List ℕ) → FitsRow r → rest ≡ row_bytes r ++ more → ⊥) → left ≡ []
none_left [] rest all is none = refl
none_left (e ∷ es) rest all is none = absurd (none e (snapshot es) all.0 is)

module _ (entries : Entries) (it : Front) (rest : List ℕ) (is : IsReadTo entries it rest) (fits : AllByRecursion FitsRow entries) where
  left_fit : AllByRecursion FitsRow is.left
  left_fit = all_behind FitsRow is.front is.left (subst (λ (l : Entries). AllByRecursion FitsRow l) is.split fits)

  module _ (r : Row) (more : List ℕ) (row : FitsRow r) (begins : rest ≡ row_bytes r ++ more) where
    its_first : (others : Entries) × (is.left ≡ r ∷ others) × (more ≡ snapshot others)
    its_first = first_left is.left r rest more left_fit row is.rest_is begins

    pub read_further : (next : Front) → next.rows ≡ it.rows + 1 → next.bytes ≡ length (snapshot entries) - length more → IsReadTo entries next more
    read_further next rows bytes =
        let now = its_first in
        let front = is.front ++ r ∷ [] in
        let split : entries ≡ front ++ now.0 = is.split ∙ ap (λ (l : Entries). is.front ++ l) now.1 ∙ sym (append_assoc is.front (r ∷ []) now.0) in
        let spelled : snapshot entries ≡ snapshot front ++ snapshot now.0 = ap snapshot split ∙ flat_map-append row_bytes front now.0 in
        record {
          front = front;
          left = now.0;
          split = split;
          rows = omega (arith, rows, is.rows, length-append is.front (r ∷ []));
          bytes = omega (arith, bytes, ap length spelled, length-append (snapshot front) (snapshot now.0), ap length now.2);
          rest_is = now.2;
        }

    -- where the next one isn't at the front, the page has no room for it
    pub front_full : PAGE_ROOM < length (snapshot entries) - length more → IsFront entries it
    front_full full =
        let now = its_first in
        let spelled : snapshot entries ≡ snapshot is.front ++ snapshot is.left = ap snapshot is.split ∙ flat_map-append row_bytes is.front is.left in
        let here : snapshot is.left ≡ row_bytes r ++ more = sym is.rest_is ∙ begins in
        let first : first_length is.left ≡ length (row_bytes r) = ap first_length now.1 in
        record {
          front = is.front;
          left = is.left;
          split = is.split;
          rows = is.rows;
          bytes = is.bytes;
          most =
              omega (
                arith,
                full,
                first,
                is.bytes,
                ap length spelled,
                length-append (snapshot is.front) (snapshot is.left),
                ap length here,
                length-append (row_bytes r) more,
              );
        }

  -- and where there is none left, all are
  pub front_all : ((r : Row) (more : List ℕ) → FitsRow r → rest ≡ row_bytes r ++ more → ⊥) → IsFront entries it
  front_all none =
      let first : first_length is.left ≡ PAGE_ROOM + 1 = ap first_length (none_left is.left rest left_fit is.rest_is none) in
      record { front = is.front; left = is.left; split = is.split; rows = is.rows; bytes = is.bytes; most = omega (arith, first) }
