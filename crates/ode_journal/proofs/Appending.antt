-- What a stop leaves in each of the two steps of an append.
use Rattle.std.proofs.Common.{◌≡◌, ◌≢◌, ◌≤◌, ◌<◌, inl, inr, ⊎_elim, ℕ, ◌+◌, List, [], ◌∷◌, ◌++◌, length, get_or, take, drop, refl, sym, ◌∙◌, ap, subst, arith, append_assoc, length-append, length-take, length-drop, take-append-drop}
use Rattle.std.proofs.lemmas.Bool.{cases_eq}
use Rattle.std.proofs.lemmas.List.{take_at, drop_at}
use Rattle.ode_host.specs.View.{View}
use Rattle.ode_host.specs.Host.{Stands, LeavesTorn, Puts, written_over}
use Rattle.ode_host.proofs.Moments.{keeps_joined}
use Rattle.ode_host.proofs.Bytes.{written-torn, torn_outside}
use Rattle.ode_gate.proofs.Gates.{torn_behind, wrote_behind, torn_gate, wrote_gate}
use Rattle.ode_gate.specs.declared.gate.TheConstants.{OPEN}
use Rattle.ode_journal.specs.declared.journal.Journal.{Journal}
use Rattle.ode_journal.specs.Appends.{JournalStands, IsBeforeOrAfter, SameOutside, need_of}
use Rattle.ode_journal.specs.Filling.{IsFrame}
use Rattle.ode_journal.specs.Frames.{framed, spelled, AreShort, gate_behind, IsJournal}
use Rattle.ode_journal.proofs.Frames.{spelled-push, gate_behind-push, short-push}
use Rattle.ode_journal.specs.declared.frame.TheConstants.{LENGTH_LEN}

-- an open gate before the bytes of a frame adds it
pushed : (front : List ℕ) (frames : List (List ℕ)) (payload rest : List ℕ) → (front ++ spelled frames) ++ OPEN ∷ ((framed payload ++ 0 ∷ []) ++ rest) ≡ (front ++ spelled (frames ++ payload ∷ [])) ++ 0 ∷ rest
pushed front frames payload rest =
    ap (λ (l : List ℕ). (front ++ spelled frames) ++ OPEN ∷ l) (append_assoc (framed payload) (0 ∷ []) rest)
    ∙ sym (append_assoc (front ++ spelled frames) (OPEN ∷ framed payload) (0 ∷ rest))
    ∙ ap (λ (l : List ℕ). l ++ 0 ∷ rest) (append_assoc front (spelled frames) (OPEN ∷ framed payload) ∙ ap (λ (l : List ℕ). front ++ l) (sym (spelled-push frames payload)))

-- a file that splits so is a journal behind its front
module _ (end : ℕ) (front : List ℕ) (frames : List (List ℕ)) (gate : ℕ) (behind file : List ℕ) (split : file ≡ (front ++ spelled frames) ++ gate ∷ behind) where
  abbrev start : ℕ
  start = length front

  from_start : file ≡ front ++ (spelled frames ++ gate ∷ behind)
  from_start = split ∙ append_assoc front (spelled frames) (gate ∷ behind)

  at_gate : drop (gate_behind start frames) file ≡ gate ∷ behind
  at_gate = ap (λ (l : List ℕ). drop (gate_behind start frames) l) split ∙ drop_at (front ++ spelled frames) (gate ∷ behind) (gate_behind start frames) (length-append front (spelled frames))

  past_gate : drop (gate_behind start frames + 1) file ≡ behind
  past_gate =
      ap (λ (l : List ℕ). drop (gate_behind start frames + 1) l) (split ∙ sym (append_assoc (front ++ spelled frames) (gate ∷ []) behind))
      ∙ drop_at ((front ++ spelled frames) ++ gate ∷ []) behind (gate_behind start frames + 1) (omega (arith, length-append (front ++ spelled frames) (gate ∷ []), length-append front (spelled frames)))

  pub front_is : take start file ≡ front
  front_is = ap (λ (l : List ℕ). take start l) from_start ∙ take_at front (spelled frames ++ gate ∷ behind) start refl

  pub journal_from : AreShort frames → gate ≢ OPEN → gate_behind start frames < end → IsJournal start end frames file
  journal_from short shut within = record {
    has = record {
      stand =
          ap (λ (l : List ℕ). drop start l) from_start ∙ drop_at front (spelled frames ++ gate ∷ behind) start refl
          ∙ ap (λ (l : List ℕ). spelled frames ++ l) (sym at_gate);
      short = short;
      within = omega (arith, within);
    };
    shut = record {
      within = within;
      gate = gate;
      shut = shut;
      stands = at_gate ∙ ap (λ (l : List ℕ). gate ∷ l) (sym past_gate);
    };
  }

-- a journal splits its file so
module _ (start end : ℕ) (frames : List (List ℕ)) (file : List ℕ) (is : IsJournal start end frames file) where
  pub starts_inside : length (take start file) ≡ start
  starts_inside = omega (arith, ap length is.shut.stands, length-drop (gate_behind start frames) file, length-take start file)

  pub split_journal : file ≡ (take start file ++ spelled frames) ++ is.shut.gate ∷ drop (gate_behind start frames + 1) file
  split_journal =
      sym (take-append-drop start file) ∙ ap (λ (l : List ℕ). take start file ++ l) (is.has.stand ∙ ap (λ (l : List ℕ). spelled frames ++ l) is.shut.stands)
      ∙ sym (append_assoc (take start file) (spelled frames) (is.shut.gate ∷ drop (gate_behind start frames + 1) file))

-- a file that splits behind the front of another
module _ (start end : ℕ) (front : List ℕ) (is_start : length front ≡ start) (frames : List (List ℕ)) (gate : ℕ) (behind file : List ℕ) (split : file ≡ (front ++ spelled frames) ++ gate ∷ behind) where
  pub is_journal : AreShort frames → gate ≢ OPEN → gate_behind start frames < end → IsJournal start end frames file
  is_journal short shut within =
      subst (λ (k : ℕ). IsJournal k end frames file) is_start (journal_from end front frames gate behind file split short shut (omega (arith, within, is_start)))

  pub same_front : take start file ≡ front
  same_front = ap (λ (k : ℕ). take k file) (sym is_start) ∙ front_is end front frames gate behind file split

frame_size : (payload frame : List ℕ) → IsFrame payload frame → length frame ≡ length payload + (LENGTH_LEN + 1)
frame_size payload frame is = omega (arith, ap length is.bytes_are, length-append (framed payload) (0 ∷ []))

module _ (start : ℕ) (frames : List (List ℕ)) (file : List ℕ) (journal : Journal) (old : View) (is : JournalStands start frames file journal old)
    (payload frame : List ℕ) (is_frame : IsFrame payload frame) (room : journal.at + 1 + length frame ≤ journal.end) where
  abbrev at : ℕ
  at = journal.at

  abbrev end : ℕ
  end = journal.end

  abbrev front : List ℕ
  front = take start file

  abbrev so_far : List ℕ
  so_far = front ++ spelled frames

  abbrev gate : ℕ
  gate = is.has.shut.gate

  abbrev behind : List ℕ
  behind = drop (gate_behind start frames + 1) file

  abbrev staged : List ℕ
  staged = written_over file (at + 1) frame

  abbrev rest : List ℕ
  rest = drop (at + 1 + length frame) file

  is_start : length front ≡ start
  is_start = starts_inside start end frames file is.has

  split : file ≡ so_far ++ gate ∷ behind
  split = split_journal start end frames file is.has

  is_at : at ≡ length so_far
  is_at = omega (arith, is.place, is_start, length-append front (spelled frames))

  within : gate_behind start frames < end
  within = omega (arith, is.place, room)

  size : length frame ≡ length payload + (LENGTH_LEN + 1)
  size = frame_size payload frame is_frame

  is_staged : staged ≡ so_far ++ gate ∷ (frame ++ rest)
  is_staged = wrote_behind so_far at is_at gate behind file split frame

  staged_behind : drop end staged ≡ drop end file
  staged_behind = torn_outside (at + 1) (length frame) end file staged room (written-torn (at + 1) frame file)

  is_pushed : so_far ++ OPEN ∷ (frame ++ rest) ≡ (front ++ spelled (frames ++ payload ∷ [])) ++ 0 ∷ rest
  is_pushed = ap (λ (l : List ℕ). so_far ++ OPEN ∷ (l ++ rest)) is_frame.bytes_are ∙ pushed front frames payload rest

  shut_zero : 0 ≢ OPEN
  shut_zero = omega arith

  longer_within : gate_behind start (frames ++ payload ∷ []) < end
  longer_within = omega (arith, is.place, room, size, gate_behind-push start frames payload)

  longer_short : AreShort (frames ++ payload ∷ [])
  longer_short = short-push frames payload is.has.has.short is_frame.short

  -- behind the gate
  pub first : (c o : List ℕ) → LeavesTorn (at + 1) (length frame) file old c o → IsBeforeOrAfter start end frames payload file old c o
  first c o left =
      let same : c ≡ so_far ++ gate ∷ drop (at + 1) c = torn_behind so_far at is_at gate behind file split (length frame) c left.0 in
      record {
        whole = inl (is_journal start end front is_start frames gate (drop (at + 1) c) c same is.has.has.short is.has.shut.shut within);
        outside = record {
          before = same_front start end front is_start frames gate (drop (at + 1) c) c same;
          behind = torn_outside (at + 1) (length frame) end file c room left.0;
        };
        text = left.1;
      }

  -- the gate
  pub second : (mid : View) → mid.text ≡ old.text → (c o : List ℕ) → LeavesTorn at 1 staged mid c o → IsBeforeOrAfter start end frames payload file old c o
  second mid same c o left =
      let new = get_or c at 0 in
      let split_now : c ≡ so_far ++ new ∷ (frame ++ rest) = torn_gate so_far at is_at gate (frame ++ rest) staged is_staged c left.0 in
      record {
        whole = ⊎_elim
            (λ (opened : new ≡ OPEN).
            inr (is_journal start end front is_start (frames ++ payload ∷ []) 0 rest c (split_now ∙ ap (λ (g : ℕ). so_far ++ g ∷ (frame ++ rest)) opened ∙ is_pushed) longer_short shut_zero longer_within))
            (λ (shut : new ≢ OPEN). inl (is_journal start end front is_start frames new (frame ++ rest) c split_now is.has.has.short shut within))
            (cases_eq new OPEN);
        outside = record {
          before = same_front start end front is_start frames new (frame ++ rest) c split_now;
          behind = torn_outside at 1 end staged c (omega arith) left.0 ∙ staged_behind;
        };
        text = sym same ∙ left.1;
      }

  abbrev next : List ℕ
  next = written_over staged at (OPEN ∷ [])

  is_next : next ≡ (front ++ spelled (frames ++ payload ∷ [])) ++ 0 ∷ rest
  is_next = wrote_gate so_far at is_at gate (frame ++ rest) staged is_staged OPEN ∙ is_pushed

  -- both
  pub both : (new : View) (now : ℕ) → now ≡ at + length frame → Stands next new
      → (f : List ℕ) × JournalStands start (frames ++ payload ∷ []) f (record { at = now; end = end }) new × SameOutside start end file f
  both new now is_now stands = (
    next,
    record {
      stands = stands;
      has = is_journal start end front is_start (frames ++ payload ∷ []) 0 rest next is_next longer_short shut_zero longer_within;
      place = omega (arith, is.place, is_now, size, gate_behind-push start frames payload);
    },
    record {
      before = same_front start end front is_start (frames ++ payload ∷ []) 0 rest next is_next;
      behind = torn_outside at 1 end staged next (omega arith) (written-torn at (OPEN ∷ []) staged) ∙ staged_behind;
    },
  )

-- what the two writes put, as one
pub puts_both : (payload frame : List ℕ) (old mid new : View) → IsFrame payload frame → Puts (length frame) old mid → Puts 1 mid new → Puts (need_of payload) old new
puts_both payload frame old mid new is first second = record {
  keeps = keeps_joined old mid new first.keeps second.keeps;
  text = second.text ∙ first.text;
  written = λ some. omega (arith, frame_size payload frame is, first.written some, second.written (first.keeps.told some));
  fetched = λ some. second.fetched (first.keeps.told some) ∙ first.fetched some;
  print_faults = second.print_faults ∙ first.print_faults;
}
