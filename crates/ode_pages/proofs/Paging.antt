-- What edits make of a page.
use Rattle.std.proofs.Common.{◌≡◌, ◌<◌, ◌≤◌, ◌^◌, ℕ, ◌+◌, ◌-◌, List, [], ◌∷◌, ◌++◌, length, take, drop, Some, None, refl, sym, ap, subst, ◌∙◌, arith, append_assoc, length-append}
use Rattle.std.proofs.lemmas.List.{length-replicate}
use Rattle.std.proofs.lemmas.List.Concat.{flat_map-append}
use Rattle.std.specs.Int.{w16, to_be_bytes}
use Rattle.std.specs.List.{AllByRecursion}
use Rattle.ode_value.specs.declared.key.Key.{Key}
use Rattle.ode_value.specs.Records.{key_bytes, row_bytes, snapshot}
use Rattle.ode_keep.specs.Entries.{Entries, changed}
use Rattle.ode_keep.specs.Snapshots.{FitsKey, FitsRow}
use Rattle.ode_keep.proofs.Applying.{changed_rising}
use Rattle.ode_keep.proofs.Lists.{all_behind, all_front}
use Rattle.ode_pages.specs.Pages.{IsPage, entries_need, entry_need, room_in, room_under}
use Rattle.ode_pages.specs.Parts.{IsEntryPlace, above, at_key, below}
use Rattle.ode_pages.specs.declared.layout.TheConstants.{MAX_SIZE}
use Rattle.ode_pages.specs.declared.place.Place.{Place}
use Rattle.ode_pages.proofs.Moving.{counted, put_between, taken_out, zeros}
use Rattle.ode_pages.proofs.Parting.{each_needs, length_removed, need_put, need_removed, need_under, needs, parts, put_parts, removed_parts}

pub length-snapshot : (es : Entries) → length (snapshot es) ≡ entries_need es
length-snapshot [] = refl
length-snapshot (e ∷ es) = omega (arith, length-append (row_bytes e) (snapshot es), length-append (key_bytes e.0) e.1, length-snapshot es)

-- a page has all its bytes
pub length-page : (size : ℕ) (es : Entries) (bytes : List ℕ) → IsPage size es bytes → length bytes ≡ size
length-page size es bytes page =
    ap (λ (l : List ℕ). length l) page.spelled
    ∙ omega (arith, page.fits.room, length-append (snapshot es) (zeros (room_in size es)), length-snapshot es, length-replicate {A = ℕ} (room_in size es) 0)

all_both : (es fs : Entries) → AllByRecursion FitsRow es → AllByRecursion FitsRow fs → AllByRecursion FitsRow (es ++ fs)
all_both [] fs first second = second
all_both (e ∷ es) fs first second = (first.0, all_both es fs first.1 second)

apart : (c b m a z : List ℕ) → c ++ ((b ++ (m ++ a)) ++ z) ≡ (c ++ b) ++ (m ++ (a ++ z))
apart c b m a z = simp append_assoc

together : (head v b a z : List ℕ) → b ++ (head ++ ((v ++ a) ++ z)) ≡ (b ++ ((head ++ v) ++ a)) ++ z
together head v b a z = simp append_assoc

-- an edit that leaves entries in front and behind as they were
module _ (size : ℕ) (es : Entries) (k : Key) (place : Place) (old : List ℕ) (page : IsPage size es old) (is : IsEntryPlace es k place) where
  front : List ℕ
  front = to_be_bytes w16 (length es) ++ snapshot (below es k)

  length-front : length front ≡ place.start
  unfolding front
  length-front = omega (arith, is.start, length-snapshot (below es k))

  length-with : place.start + length (snapshot (at_key es k)) ≡ place.end
  length-with = omega (arith, is.end, length-snapshot (at_key es k))

  split : old ≡ front ++ (snapshot (at_key es k) ++ (snapshot (above es k) ++ zeros (room_in size es)))
  unfolding front
  split =
      page.spelled
      ∙ ap (λ (l : List ℕ). to_be_bytes w16 (length es) ++ (l ++ zeros (room_in size es)))
      (ap (λ (l : Entries). snapshot l) (parts k es)
      ∙ flat_map-append row_bytes (below es k) (at_key es k ++ above es k)
      ∙ ap (λ (l : List ℕ). snapshot (below es k) ++ l) (flat_map-append row_bytes (at_key es k) (above es k)))
      ∙ apart (to_be_bytes w16 (length es)) (snapshot (below es k)) (snapshot (at_key es k)) (snapshot (above es k)) (zeros (room_in size es))

  room : ℕ
  room = room_in size es + length (snapshot (at_key es k))

  room_is : room ≡ room_in size es + entries_need (at_key es k)
  unfolding room
  room_is = ap (λ (n : ℕ). room_in size es + n) (length-snapshot (at_key es k))

  closed : (one : List ℕ) → one ≡ take place.start old ++ (drop place.end old ++ zeros (place.end - place.start)) → one ≡ front ++ (snapshot (above es k) ++ zeros room)
  unfolding room
  closed one made =
      made ∙ ap (λ (l : List ℕ). take place.start l ++ (drop place.end l ++ zeros (place.end - place.start))) split
      ∙ taken_out front (snapshot (at_key es k)) (snapshot (above es k)) (room_in size es) place.start place.end length-front length-with

  rows_front : AllByRecursion FitsRow (below es k)
  rows_front = all_front FitsRow (below es k) (at_key es k ++ above es k) (subst (λ (l : Entries). AllByRecursion FitsRow l) (parts k es) page.fits.rows)

  rows_behind : AllByRecursion FitsRow (above es k)
  rows_behind = all_behind FitsRow (at_key es k) (above es k) (all_behind FitsRow (below es k) (at_key es k ++ above es k) (subst (λ (l : Entries). AllByRecursion FitsRow l) (parts k es) page.fits.rows))

  -- the number in front of the bytes behind it
  numbered : (count : ℕ) (last new rest : List ℕ) → last ≡ front ++ rest → new ≡ take 0 last ++ to_be_bytes w16 count ++ drop 2 last
      → new ≡ to_be_bytes w16 count ++ (snapshot (below es k) ++ rest)
  unfolding front
  numbered count last new rest so_far made =
      let here : last ≡ to_be_bytes w16 (length es) ++ (snapshot (below es k) ++ rest) = so_far ∙ append_assoc (to_be_bytes w16 (length es)) (snapshot (below es k)) rest in
      made ∙ ap (λ (l : List ℕ). take 0 l ++ to_be_bytes w16 count ++ drop 2 l) here ∙ counted (length es) count (snapshot (below es k) ++ rest)

  -- where an entry is taken out of its place, the page has the others
  pub taken : (count : ℕ) (one new : List ℕ) → one ≡ take place.start old ++ (drop place.end old ++ zeros (place.end - place.start))
      → new ≡ take 0 one ++ to_be_bytes w16 count ++ drop 2 one → count ≡ length (changed es k None) → IsPage size (changed es k None) new
  taken count one new first second many =
      let left : changed es k None ≡ below es k ++ above es k = removed_parts k es page.fits.rising in
      let spell : snapshot (changed es k None) ≡ snapshot (below es k) ++ snapshot (above es k) =
      ap (λ (l : Entries). snapshot l) left ∙ flat_map-append row_bytes (below es k) (above es k) in
      let need = need_removed k es page.fits.rising in
      let free : room ≡ room_in size (changed es k None) = room_is ∙ omega (arith, need, page.fits.room) in
      record {
        spelled =
            numbered count one new (snapshot (above es k) ++ zeros room) (closed one first) second
            ∙ ap (λ (n : ℕ). to_be_bytes w16 n ++ (snapshot (below es k) ++ (snapshot (above es k) ++ zeros room))) many
            ∙ ap (λ (l : List ℕ). to_be_bytes w16 (length (changed es k None)) ++ l)
            (sym (append_assoc (snapshot (below es k)) (snapshot (above es k)) (zeros room))
            ∙ ap (λ (l : List ℕ). l ++ zeros room) (sym spell)
            ∙ ap (λ (n : ℕ). snapshot (changed es k None) ++ zeros n) free);
        fits = record {
          few = omega (arith, length_removed k es page.fits.rising, page.fits.few);
          rows = subst (λ (l : Entries). AllByRecursion FitsRow l) (sym left) (all_both (below es k) (above es k) rows_front rows_behind);
          rising = changed_rising es k None page.fits.rising;
          room = omega (arith, need, page.fits.room);
        };
      }

  -- where a value is put in its place, the page has it between the others
  module _ (v : List ℕ) (small : size ≤ MAX_SIZE) (fits : FitsKey k) (short : length v < 2 ^ 16) (enough : entry_need v ≤ room_under size es k) where
    enough_free : entry_need v ≤ room
    enough_free = omega (arith, enough, room_is, need_under k es page.fits.rising)

    whole : size ≡ place.start + (length (snapshot (above es k)) + room)
    whole = omega (arith, room_is, page.fits.room, needs k es, is.start, length-snapshot (above es k))

    abbrev head : List ℕ
    head = key_bytes k ++ to_be_bytes w16 (length v)

    opened : (one two three : List ℕ) → one ≡ front ++ (snapshot (above es k) ++ zeros room)
        → two ≡ take place.start one ++ (v ++ take (size - (place.start + length v)) (drop place.start one))
        → three ≡ take place.start two ++ (head ++ take (size - (place.start + length head)) (drop place.start two))
        → three ≡ front ++ (head ++ ((v ++ snapshot (above es k)) ++ zeros (room - length v - length head)))
    opened one two three closed first second =
        let behind = snapshot (above es k) in
        let there : two ≡ front ++ ((v ++ behind) ++ zeros (room - length v)) =
        first ∙ ap (λ (l : List ℕ). take place.start l ++ (v ++ take (size - (place.start + length v)) (drop place.start l))) closed
        ∙ put_between front v behind room place.start size length-front (omega (arith, enough_free)) whole
        ∙ ap (λ (l : List ℕ). front ++ l) (sym (append_assoc v behind (zeros (room - length v)))) in
        second ∙ ap (λ (l : List ℕ). take place.start l ++ (head ++ take (size - (place.start + length head)) (drop place.start l))) there
        ∙ put_between front head (v ++ behind) (room - length v) place.start size length-front (omega (arith, enough_free)) (omega (arith, whole, enough_free, length-append v behind))

    pub put : (count : ℕ) (one two three new : List ℕ) → one ≡ take place.start old ++ (drop place.end old ++ zeros (place.end - place.start))
        → two ≡ take place.start one ++ (v ++ take (size - (place.start + length v)) (drop place.start one))
        → three ≡ take place.start two ++ (head ++ take (size - (place.start + length head)) (drop place.start two))
        → new ≡ take 0 three ++ to_be_bytes w16 count ++ drop 2 three → count ≡ length (changed es k (Some v)) → IsPage size (changed es k (Some v)) new
    put count one two three new first second third fourth many =
        let behind = snapshot (above es k) in
        let left : changed es k (Some v) ≡ below es k ++ (k, v) ∷ above es k = put_parts k es v in
        let spell : snapshot (changed es k (Some v)) ≡ snapshot (below es k) ++ ((head ++ v) ++ behind) =
        ap (λ (l : Entries). snapshot l) left ∙ flat_map-append row_bytes (below es k) ((k, v) ∷ above es k) in
        let need = need_put k es v in
        let free : room - length v - length head ≡ room_in size (changed es k (Some v)) = omega (arith, need, room_is, page.fits.room, enough_free) in
        let rest = head ++ ((v ++ behind) ++ zeros (room - length v - length head)) in
        record {
          spelled =
              numbered count three new rest (opened one two three (closed one first) second third) fourth
              ∙ ap (λ (n : ℕ). to_be_bytes w16 n ++ (snapshot (below es k) ++ rest)) many
              ∙ ap (λ (l : List ℕ). to_be_bytes w16 (length (changed es k (Some v))) ++ l)
              (together head v (snapshot (below es k)) behind (zeros (room - length v - length head))
              ∙ ap (λ (l : List ℕ). l ++ zeros (room - length v - length head)) (sym spell)
              ∙ ap (λ (n : ℕ). snapshot (changed es k (Some v)) ++ zeros n) free);
          fits = record {
            few = omega (arith, each_needs (changed es k (Some v)), need, enough_free, room_is, page.fits.room, small);
            rows = subst (λ (l : Entries). AllByRecursion FitsRow l) (sym left) (all_both (below es k) ((k, v) ∷ above es k) rows_front (record { key = fits; value = short }, rows_behind));
            rising = changed_rising es k (Some v) page.fits.rising;
            room = omega (arith, need, enough_free, room_is, page.fits.room);
          };
        }
