-- Pages in memory.
use Rattle.std.proofs.Common.{◌≡◌, ◌<◌, ◌≤◌, ◌^◌, ℕ, ◌+◌, ◌-◌, List, [], ◌++◌, Option, Some, None, length, take, drop, refl, sym, ap, subst, ◌∙◌, arith, length-append}
use Rattle.std.proofs.lemmas.List.{append_cancel_left, length-drop, length-replicate, replicate-append-replicate, take-append-drop}
use Rattle.std.specs.Prelude.{◌↔◌, IsTrue, IsSome, not, nat_eq}
use Rattle.std.specs.Int.{w16, to_be_bytes}
use Rattle.std.specs.List.Sorted.{IsStrictlySortedBy}
use Rattle.ode_value.specs.Records.{snapshot}
use Rattle.ode_value.specs.declared.key.Key.{Key}
use Rattle.ode_keep.specs.Entries.{Entries, changed, value_under}
use Rattle.ode_keep.specs.Snapshots.{FitsSnapshot}
use Rattle.ode_pages.specs.Holding.{HoldsPage}
use Rattle.ode_pages.specs.Pages.{IsPage, entries_need, entry_need, need_of, room_in, room_under}
use Rattle.ode_pages.specs.Parts.{IsEntryPlace}
use Rattle.ode_pages.specs.declared.place.Place.{Place}
use Rattle.ode_pages.specs.Readings.{entries_at}
use Rattle.ode_pages.specs.declared.layout.TheConstants.{COUNT_LEN, MAX_SIZE, MIN_SIZE}
use Rattle.ode_pages.proofs.Decoding.{entries_first, page_entries}
use Rattle.ode_pages.proofs.Moving.{zeros}
use Rattle.ode_pages.proofs.Paging.{length-page, length-snapshot}
use Rattle.ode_pages.proofs.Parting.{count_of, count_under, each_needs, length_put, length_removed, lengths, need_put, need_removed, need_under, needs}

there_at : (found : Option (List ℕ)) → IsTrue (not (nat_eq (count_of found) 0)) ↔ IsSome found
there_at None = (λ h. h, λ h. h)
there_at (Some v) = (λ h. h, λ h. h)

module _ (size : ℕ) (least : MIN_SIZE ≤ size) (most : size ≤ MAX_SIZE) where
  -- a page is kept so
  pub kept : (es : Entries) (bytes : List ℕ) (count end : ℕ) → IsPage size es bytes → count ≡ length es → end ≡ COUNT_LEN + entries_need es
      → (entries_at count (drop COUNT_LEN bytes) ≡ es) × HoldsPage size (entries_at count (drop COUNT_LEN bytes)) bytes count end
  kept es bytes count end page many ends =
      let same : entries_at count (drop COUNT_LEN bytes) ≡ es = ap (λ (n : ℕ). entries_at n (drop COUNT_LEN bytes)) many ∙ page_entries size es bytes page in
      (same, subst (λ (l : Entries). HoldsPage size l bytes count end) (sym same) (record { page = page; many = many; ends = ends; least = least; most = most }))

  empty_page : IsPage size [] (zeros size)
  unfolding IsStrictlySortedBy
  empty_page =
      let whole : size ≡ 2 + (size - 2) = omega arith in
      record {
        spelled = ap zeros whole ∙ sym (replicate-append-replicate 2 (size - 2) 0);
        fits = record { few = omega arith; rows = tt; rising = tt; room = omega arith };
      }

  pub kept_empty : HoldsPage size (entries_at 0 (drop COUNT_LEN (zeros size))) (zeros size) 0 COUNT_LEN
  kept_empty = (kept [] (zeros size) 0 COUNT_LEN empty_page refl refl).1

  -- what was read of bytes that are a page
  module _ (bytes : List ℕ) (long : length bytes ≡ size) (count : ℕ) (counts : to_be_bytes w16 count ≡ take 2 bytes) where
    module _ (es : Entries) (rest : List ℕ) (fits : FitsSnapshot es) (many : length es ≡ count) (split : drop COUNT_LEN bytes ≡ snapshot es ++ rest) where
      parts : size ≡ COUNT_LEN + (entries_need es + length rest)
      parts = omega (arith, long, least, ap (λ (l : List ℕ). length l) split, length-drop COUNT_LEN bytes, length-append (snapshot es) rest, length-snapshot es)

      read_page : rest ≡ zeros (length rest) → IsPage size es bytes
      read_page none = record {
        spelled =
            sym (take-append-drop 2 bytes) ∙ ap (λ (l : List ℕ). l ++ drop COUNT_LEN bytes) (sym counts)
            ∙ ap (λ (n : ℕ). to_be_bytes w16 n ++ drop COUNT_LEN bytes) (sym many)
            ∙ ap (λ (l : List ℕ). to_be_bytes w16 (length es) ++ l) (split ∙ ap (λ (l : List ℕ). snapshot es ++ l) (none ∙ ap zeros (omega (arith, parts))));
        fits = record { few = omega (arith, each_needs es, parts, most); rows = fits.rows; rising = fits.rising; room = omega (arith, parts) };
      }

      pub kept_read : rest ≡ zeros (length rest) → HoldsPage size (entries_at count (drop COUNT_LEN bytes)) bytes count (size - length rest)
      kept_read none = (kept es bytes count (size - length rest) (read_page none) (sym many) (omega (arith, parts))).1

      -- behind the entries of a page stand zeros
      pub zeros_behind : (others : Entries) → IsPage size others bytes → count ≡ length others → rest ≡ zeros (length rest)
      zeros_behind others page is =
          let spelled : drop COUNT_LEN bytes ≡ snapshot others ++ zeros (room_in size others) = ap (λ (l : List ℕ). drop COUNT_LEN l) page.spelled in
          let same : es ≡ others =
          sym (entries_first es rest fits.rows) ∙ ap (λ (l : List ℕ). entries_at (length es) l) (sym split)
          ∙ ap (λ (n : ℕ). entries_at n (drop COUNT_LEN bytes)) (many ∙ is) ∙ page_entries size others bytes page in
          let behind : rest ≡ zeros (room_in size others) =
          append_cancel_left (snapshot es) rest (zeros (room_in size others))
          (sym split ∙ spelled ∙ ap (λ (l : Entries). snapshot l ++ zeros (room_in size others)) (sym same)) in
          let wide : length rest ≡ room_in size others = ap (λ (l : List ℕ). length l) behind ∙ length-replicate {A = ℕ} (room_in size others) 0 in
          behind ∙ ap zeros (sym wide)

-- an edit at the place of a key
module _ {size : ℕ} {shown es : Entries} {bytes : List ℕ} {count end : ℕ} {k : Key} {place : Place} (inside : HoldsPage size shown bytes count end) (same : shown ≡ es) (at : IsEntryPlace es k place) where
  is : HoldsPage size es bytes count end
  is = subst (λ (l : Entries). HoldsPage size l bytes count end) same inside

  pub same_size : length bytes ≡ size
  same_size = length-page size es bytes is.page

  pub count_within : place.count ≤ count
  count_within = omega (arith, at.count, is.many, lengths k es)

  pub end_within : place.end ≤ length bytes
  end_within = omega (arith, at.start, at.end, needs k es, is.page.fits.room, same_size)

  pub gap_within : place.end - place.start ≤ end
  gap_within = omega (arith, at.start, at.end, is.ends, needs k es)

  pub gap_is : place.end - place.start ≡ need_of (value_under es k)
  gap_is = omega (arith, at.end, need_under k es is.page.fits.rising)

  pub there : IsTrue (not (nat_eq place.count 0)) ↔ IsSome (value_under es k)
  there = subst (λ (n : ℕ). IsTrue (not (nat_eq n 0)) ↔ IsSome (value_under es k)) (sym (at.count ∙ count_under k es is.page.fits.rising)) (there_at (value_under es k))

  pub one_more : count - place.count + 1 < 2 ^ 16
  one_more = omega (arith, is.many, each_needs es, is.page.fits.room, is.most)

  pub gap_small : place.end - place.start ≤ MAX_SIZE
  gap_small = omega (arith, gap_within, is.ends, is.page.fits.room, is.most)

  -- the entry is gone
  pub kept_removed : (new : List ℕ) → (IsPage (length bytes) es bytes → IsEntryPlace es k place → count - place.count ≡ length (changed es k None) → IsPage (length bytes) (changed es k None) new)
      → (entries_at (count - place.count) (drop COUNT_LEN new) ≡ changed es k None)
      × HoldsPage size (entries_at (count - place.count) (drop COUNT_LEN new)) new (count - place.count) (end - (place.end - place.start))
  kept_removed new made =
      let rising = is.page.fits.rising in
      let many : count - place.count ≡ length (changed es k None) = omega (arith, length_removed k es rising, at.count, is.many) in
      let ends : end - (place.end - place.start) ≡ COUNT_LEN + entries_need (changed es k None) = omega (arith, need_removed k es rising, at.end, is.ends) in
      let page : IsPage size (changed es k None) new =
      subst (λ (n : ℕ). IsPage n (changed es k None) new) same_size (made (subst (λ (n : ℕ). IsPage n es bytes) (sym same_size) is.page) at many) in
      kept size is.least is.most (changed es k None) new (count - place.count) (end - (place.end - place.start)) page many ends

  module _ (v : List ℕ) (enough : entry_need v ≤ room_under size es k) where
    pub room_within : place.start + entry_need v ≤ length bytes
    room_within = omega (arith, enough, at.start, at.end, gap_is, needs k es, is.page.fits.room, same_size)

    -- the value is put
    pub kept_put : (new : List ℕ)
        → (IsPage (length bytes) es bytes → IsEntryPlace es k place → entry_need v ≤ room_under (length bytes) es k → count - place.count + 1 ≡ length (changed es k (Some v)) → IsPage (length bytes) (changed es k (Some v)) new)
        → (entries_at (count - place.count + 1) (drop COUNT_LEN new) ≡ changed es k (Some v))
        × HoldsPage size (entries_at (count - place.count + 1) (drop COUNT_LEN new)) new (count - place.count + 1) (end - (place.end - place.start) + entry_need v)
    kept_put new made =
        let many : count - place.count + 1 ≡ length (changed es k (Some v)) = omega (arith, length_put k es v, at.count, is.many, count_within) in
        let ends : end - (place.end - place.start) + entry_need v ≡ COUNT_LEN + entries_need (changed es k (Some v)) = omega (arith, need_put k es v, at.end, is.ends, gap_within) in
        let page : IsPage size (changed es k (Some v)) new =
        subst (λ (n : ℕ). IsPage n (changed es k (Some v)) new) same_size
        (made (subst (λ (n : ℕ). IsPage n es bytes) (sym same_size) is.page) at (subst (λ (n : ℕ). entry_need v ≤ room_under n es k) (sym same_size) enough) many) in
        kept size is.least is.most (changed es k (Some v)) new (count - place.count + 1) (end - (place.end - place.start) + entry_need v) page many ends
