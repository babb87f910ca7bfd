-- What the writes of a new file make of what was there.
use Rattle.std.proofs.Common.{◌≡◌, ◌≢◌, ◌<◌, ◌≤◌, ◌⊎◌, inl, inr, ⊎_elim, ℕ, ◌+◌, max, List, [], ◌∷◌, ◌++◌, length, take, drop, get_or, replicate, Some, None, refl, subst, sym, ◌∙◌, ap, arith, append_assoc, length-append}
use Rattle.std.specs.Prelude.{slice_get}
use Rattle.std.specs.Int.{w16, to_be_bytes}
use Rattle.std.specs.List.Sorted.{IsStrictlySortedBy}
use Rattle.std.proofs.lemmas.List.{take_at, take-append-drop, drop_at, drop-drop}
use Rattle.std.proofs.lemmas.Bool.{cases_lt}
use Rattle.std.proofs.lemmas.Bool.Decides.{nat_tests}
use Rattle.std.proofs.lemmas.Option.{slice_get-get_or}
use Rattle.ode_host.specs.Host.{written_over}
use Rattle.ode_host.proofs.Bytes.{length-written_over, torn_outside, written-torn, wrote_here}
use Rattle.ode_gate.specs.declared.header.Header.{Header}
use Rattle.ode_gate.specs.declared.gate.TheConstants.{OPEN, SHUT}
use Rattle.ode_gate.specs.Headers.{IsHeader, IsOfPages, header_bytes}
use Rattle.ode_gate.specs.Slots.{Counts, Spells, open_body, slot_at}
use Rattle.ode_gate.proofs.Spelling.{length-header_bytes}
use Rattle.ode_gate.specs.declared.places.TheConstants.{FORMAT, HEADER_LEN, PAGE_LEN, REGION_0, REGION_1, SLOT_LEN, SLOT_STEP}
use Rattle.ode_journal.specs.Frames.{IsJournal}
use Rattle.ode_keep.specs.Entries.{Entries, HasRisingKeys}
use Rattle.ode_pages.specs.Pages.{IsPage, room_in}
use Rattle.ode_paging.specs.Images.{HasRisingPages, Image, IsPayload}
use Rattle.ode_paging.specs.Meaning.{HasImages, HasMap, PagesMeanIn}
use Rattle.ode_paging.specs.Standing.{filled}
use Rattle.ode_value.specs.Records.{snapshot}
use Rattle.ode_make.specs.Making.{IsInitialised, IsElsewhere, first_frame, first_header, first_image, first_payload, first_rows, made_end}
use Rattle.ode_make.proofs.Ranges.{wrote_elsewhere, wrote_one, get_from_drop, drop_from_get}
use Rattle.ode_make.specs.declared.make.TheConstants.{FIRST_LEN}

-- an open gate and a header's bytes
spells_slot : (h : Header) (place : ℕ) (image rest : List ℕ) → drop place image ≡ (OPEN ∷ header_bytes h) ++ rest → Spells (slot_at place image) h
spells_slot h place image rest split =
    ap (λ (l : List ℕ). open_body (take SLOT_LEN l)) split
    ∙ ap open_body (take_at (OPEN ∷ header_bytes h) rest SLOT_LEN (omega (arith, length-header_bytes h)))

-- a gate that isn't open
shut_slot : (place gate : ℕ) (image rest : List ℕ) → gate ≢ OPEN → drop place image ≡ gate ∷ rest → open_body (slot_at place image) ≡ None
shut_slot place gate image rest shut split = ap (λ (l : List ℕ). open_body (take SLOT_LEN l)) split ∙ shut_first gate (take HEADER_LEN rest) shut
  where
    shut_first : (gate : ℕ) (body : List ℕ) → gate ≢ OPEN → open_body (gate ∷ body) ≡ None
    shut_first gate body shut = grind (arith, nat_tests)

module _ (frame file : List ℕ) (whole : length frame ≡ FIRST_LEN) where
  abbrev shut : List ℕ
  shut = written_over file SLOT_STEP (SHUT ∷ [])

  abbrev with_frame : List ℕ
  with_frame = written_over shut REGION_0 (frame ++ SHUT ∷ [])

  abbrev spelled : List ℕ
  spelled = written_over with_frame 1 (header_bytes first_header)

  abbrev pub made : List ℕ
  made = written_over spelled 0 (OPEN ∷ [])

  long_written : length (frame ++ SHUT ∷ []) ≡ FIRST_LEN + 1
  long_written = omega (arith, length-append frame (SHUT ∷ []), whole)

  long_shut : length shut ≡ max (length file) (SLOT_STEP + 1)
  long_shut = length-written_over SLOT_STEP (SHUT ∷ []) file

  long_with_frame : length with_frame ≡ max (length file) made_end
  long_with_frame = omega (arith, length-written_over REGION_0 (frame ++ SHUT ∷ []) shut, long_written, long_shut)

  long_spelled : length spelled ≡ max (length file) made_end
  long_spelled = omega (arith, length-written_over 1 (header_bytes first_header) with_frame, length-header_bytes first_header, long_with_frame)

  long_made : length made ≡ max (length file) made_end
  long_made = omega (arith, length-written_over 0 (OPEN ∷ []) spelled, long_spelled)

  past : (place : ℕ) → SLOT_LEN ≤ place → drop place made ≡ drop place with_frame
  past place le =
      torn_outside 0 1 place spelled made (omega arith) (written-torn 0 (OPEN ∷ []) spelled)
      ∙ torn_outside 1 (length (header_bytes first_header)) place with_frame spelled (omega (arith, length-header_bytes first_header)) (written-torn 1 (header_bytes first_header) with_frame)

  -- the frame and the gate behind it
  stand : drop REGION_0 made ≡ frame ++ 0 ∷ drop (REGION_0 + length (frame ++ SHUT ∷ [])) shut
  stand = past REGION_0 (omega arith) ∙ wrote_here REGION_0 (frame ++ SHUT ∷ []) shut ∙ append_assoc frame (SHUT ∷ []) (drop (REGION_0 + length (frame ++ SHUT ∷ [])) shut)

  -- a byte past the first slot outside the frame and the gates at its ends
  elsewhere : (i : ℕ) → SLOT_LEN ≤ i → (i < REGION_0) ⊎ (made_end ≤ i) → i < length shut → get_or made i 0 ≡ get_or shut i 0
  elsewhere i le outside within =
      wrote_elsewhere spelled 0 (OPEN ∷ []) i (inr (omega arith)) (omega (arith, long_spelled, long_shut))
      ∙ wrote_elsewhere with_frame 1 (header_bytes first_header) i (inr (omega (arith, length-header_bytes first_header))) (omega (arith, long_with_frame, long_shut))
      ∙ wrote_elsewhere shut REGION_0 (frame ++ SHUT ∷ []) i (⊎_elim (λ (b : i < REGION_0). inl b) (λ (p : made_end ≤ i). inr (omega (arith, long_written))) outside) within

  kept : (i : ℕ) → i < length file → IsElsewhere i → slice_get made i ≡ slice_get file i
  kept i within outside =
      let second : (i < SLOT_STEP) ⊎ (SLOT_STEP + 1 ≤ i) = ⊎_elim (λ (b : i < SLOT_STEP). inl b) (λ (p : SLOT_STEP ≤ i). inr (omega (arith, outside.1))) (cases_lt i SLOT_STEP) in
      slice_get-get_or made i 0 (omega (arith, long_made))
      ∙ ap Some (elsewhere i outside.0 outside.2 (omega (arith, long_shut)) ∙ wrote_elsewhere file SLOT_STEP (SHUT ∷ []) i second within)
      ∙ sym (slice_get-get_or file i 0 within)

  pub initialised : IsInitialised frame file made
  initialised = record {
    long = long_made;
    slot = spells_slot first_header 0 made (drop (1 + length (header_bytes first_header)) with_frame)
        (wrote_one spelled 0 OPEN ∙ ap (λ (l : List ℕ). OPEN ∷ l) (wrote_here 1 (header_bytes first_header) with_frame));
    other_slot = (
      0,
      slice_get-get_or made SLOT_STEP 0 (omega (arith, long_made))
          ∙ ap Some (elsewhere SLOT_STEP (omega arith) (inl (omega arith)) (omega (arith, long_shut)))
          ∙ sym (slice_get-get_or shut SLOT_STEP 0 (omega (arith, long_shut)))
          ∙ get_from_drop shut SLOT_STEP 0 _ (wrote_one file SLOT_STEP 0),
      omega arith,
    );
    stands =
        ap (λ (l : List ℕ). take FIRST_LEN l) stand
        ∙ take_at frame (0 ∷ drop (REGION_0 + length (frame ++ SHUT ∷ [])) shut) FIRST_LEN whole;
    gate =
        let rest = drop (REGION_0 + length (frame ++ SHUT ∷ [])) shut in
        let behind : drop (REGION_0 + FIRST_LEN) made ≡ 0 ∷ rest = sym (drop-drop FIRST_LEN REGION_0 made) ∙ ap (λ (l : List ℕ). drop FIRST_LEN l) stand ∙ drop_at frame (0 ∷ rest) FIRST_LEN whole in
        (0, get_from_drop made (REGION_0 + FIRST_LEN) 0 rest behind, omega arith);
    rest = kept;
  }

-- the one record of a fresh database stands in order, and so does its one page
one_rises : (es : Entries) → es ≡ first_rows → HasRisingKeys es
unfolding IsStrictlySortedBy
one_rises es is = subst HasRisingKeys (sym is) (tt, tt)

page_rises : (images : List Image) → images ≡ first_image ∷ [] → HasRisingPages images
unfolding IsStrictlySortedBy
page_rises images is = subst HasRisingPages (sym is) (tt, tt)

first_pages : IsOfPages first_header
first_pages = record { format = (omega arith, omega arith); layout = refl; region = inl (refl, refl); body = refl; pages = omega arith }

first_rules : IsHeader first_header
first_rules = record { generation = (omega arith, omega arith); layout = inr first_pages }

first_fits : IsPayload (first_image ∷ []) first_payload
first_fits = record {
  spelled = refl;
  few = omega arith;
  each = (record { page = omega arith; used = omega arith }, tt);
  rising = page_rises (first_image ∷ []) refl;
}

-- page 0 of a fresh database
first_page : IsPage PAGE_LEN first_rows (filled first_image.1)
first_page = record {
  spelled = append_assoc (to_be_bytes w16 (length first_rows)) (snapshot first_rows) (replicate (room_in PAGE_LEN first_rows) 0);
  fits = record {
    few = omega arith;
    rows = (record { key = record { kind = omega arith; a = omega arith; b = omega arith }; value = omega arith }, tt);
    rising = one_rises first_rows refl;
    room = omega arith;
  };
}

-- a file that was just made stands for the records of the fresh database
module _ (file image : List ℕ) (is : IsInitialised first_frame file image) where
  first_counts : Counts image first_header
  first_counts = record {
    slot = omega arith;
    leads = record {
      holds = record { spells = is.slot; rules = first_rules };
      over = inl (shut_slot SLOT_STEP is.other_slot.0 image (drop (SLOT_STEP + 1) image) is.other_slot.2 (drop_from_get image SLOT_STEP is.other_slot.0 is.other_slot.1));
    };
  }

  -- the frame, and what stands behind it
  frame_first : drop REGION_0 image ≡ first_frame ++ drop (REGION_0 + FIRST_LEN) image
  frame_first =
      sym (take-append-drop FIRST_LEN (drop REGION_0 image))
      ∙ ap (λ (l : List ℕ). l ++ drop FIRST_LEN (drop REGION_0 image)) is.stands
      ∙ ap (λ (l : List ℕ). first_frame ++ l) (drop-drop FIRST_LEN REGION_0 image)

  one_frame : IsJournal REGION_0 REGION_1 (first_payload ∷ []) image
  one_frame = record {
    has = record { stand = frame_first; short = (omega arith, tt); within = omega arith };
    shut = record { within = omega arith; gate = is.gate.0; shut = is.gate.2; stands = drop_from_get image (REGION_0 + FIRST_LEN) is.gate.0 is.gate.1 };
  }

  one_image : HasImages first_header image (first_image ∷ [])
  one_image = record {
    frames = first_payload ∷ [];
    journal = one_frame;
    overlays = (first_image ∷ []) ∷ [];
    payloads = (first_fits, tt);
    laid = refl;
  }

  one_page : HasMap first_header image first_rows
  one_page = record {
    images = first_image ∷ [];
    over = one_image;
    pages = first_rows ∷ [];
    count = refl;
    each = (record { bytes = filled first_image.1; stands = refl; form = first_page }, tt);
    apart = ((refl, tt), tt);
    map = refl;
  }

  pub initialised_means : PagesMeanIn FORMAT image first_rows
  initialised_means = record { means = record { header = first_header; counts = first_counts; pages = first_pages; has = one_page }; is = refl }
