-- Frames that are read or added one after another.
use Rattle.std.proofs.Common.{◌≡◌, ◌≤◌, ◌<◌, ◌^◌, ℕ, ◌+◌, List, [], ◌∷◌, ◌++◌, length, take, drop, sym, ◌∙◌, ap, subst, arith, append_assoc, length-append, take-append-drop}
use Rattle.std.proofs.lemmas.List.{append-nil, drop_at, drop-drop}
use Rattle.std.specs.Int.{w32, to_be_bytes}
use Rattle.ode_gate.specs.declared.gate.TheConstants.{OPEN}
use Rattle.ode_journal.specs.Frames.{framed, spelled, AreShort, gate_behind, HasGate, IsShut, IsFramed, IsBad, HasFrames, IsJournal, IsBroken}
use Rattle.ode_journal.specs.declared.frame.TheConstants.{FRAME_HEAD, LENGTH_LEN}

pub spelled-push : (frames : List (List ℕ)) (payload : List ℕ) → spelled (frames ++ payload ∷ []) ≡ spelled frames ++ OPEN ∷ framed payload
spelled-push [] payload = ap (λ (l : List ℕ). OPEN ∷ l) (append-nil (framed payload))
spelled-push (first ∷ frames) payload =
    ap (λ (l : List ℕ). OPEN ∷ (framed first ++ l)) (spelled-push frames payload)
    ∙ ap (λ (l : List ℕ). OPEN ∷ l) (sym (append_assoc (framed first) (spelled frames) (OPEN ∷ framed payload)))

pub gate_behind-push : (start : ℕ) (frames : List (List ℕ)) (payload : List ℕ) → gate_behind start (frames ++ payload ∷ []) ≡ gate_behind start frames + FRAME_HEAD + length payload
gate_behind-push start frames payload = omega (arith, ap length (spelled-push frames payload), length-append (spelled frames) (OPEN ∷ framed payload))

pub short-push : (frames : List (List ℕ)) (payload : List ℕ) → AreShort frames → length payload < 2 ^ 32 → AreShort (frames ++ payload ∷ [])
short-push [] payload short fits = (fits, tt)
short-push (first ∷ frames) payload short fits = (short.0, short-push frames payload short.1 fits)

-- none are read yet
pub no_frames : (start end : ℕ) (file : List ℕ) → HasFrames start end [] file
no_frames start end file =
    let here : start ≡ gate_behind start [] = omega arith in
    record {
      stand = ap (λ (k : ℕ). drop k file) here;
      short = tt;
      within = omega arith;
    }

-- one frame more is read
pub one_more : (start end : ℕ) (frames : List (List ℕ)) (payload file : List ℕ) → HasFrames start end frames file → IsFramed end (gate_behind start frames) payload file
    → HasFrames start end (frames ++ payload ∷ []) file
one_more start end frames payload file has next =
    let at = gate_behind start frames in
    let rest = drop (at + FRAME_HEAD + length payload) file in
    record {
      stand =
          has.stand ∙ ap (λ (l : List ℕ). spelled frames ++ l) next.stands
          ∙ sym (append_assoc (spelled frames) (OPEN ∷ framed payload) rest)
          ∙ ap (λ (l : List ℕ). l ++ rest) (sym (spelled-push frames payload))
          ∙ ap (λ (k : ℕ). spelled (frames ++ payload ∷ []) ++ drop k file) (sym (gate_behind-push start frames payload));
      short = short-push frames payload has.short next.short;
      within = omega (arith, next.within, gate_behind-push start frames payload);
    }

-- frames that were read, and then a gate that is shut
pub frames_and_gate : (start end at : ℕ) (frames : List (List ℕ)) (file : List ℕ) → HasFrames start end frames file → at ≡ gate_behind start frames
    → IsShut end at file → IsJournal start end frames file
frames_and_gate start end at frames file has here shut = record {
  has = has;
  shut = subst (λ (k : ℕ). IsShut end k file) here shut;
}

-- frames that were read, and then what is bad
pub broken_at : (start end at : ℕ) (frames : List (List ℕ)) (file : List ℕ) → HasFrames start end frames file → at ≡ gate_behind start frames
    → (place : ℕ) → place ≡ at → IsBad end at file → IsBroken start end place file
broken_at start end at frames file has here place same bad = record {
  frames = frames;
  has = has;
  place = same ∙ here;
  bad = subst (λ (k : ℕ). IsBad end k file) (sym same) bad;
}

-- the first of some frames, and the others behind it
module _ (start end : ℕ) (frames : List (List ℕ)) (payload file : List ℕ) (has : HasFrames start end (payload ∷ frames) file) where
  abbrev next : ℕ
  next = start + FRAME_HEAD + length payload

  abbrev rest : List ℕ
  rest = drop (gate_behind start (payload ∷ frames)) file

  same_end : gate_behind start (payload ∷ frames) ≡ gate_behind next frames
  same_end = omega (arith, length-append (framed payload) (spelled frames))

  whole : drop start file ≡ (OPEN ∷ framed payload) ++ (spelled frames ++ rest)
  whole = has.stand ∙ append_assoc (OPEN ∷ framed payload) (spelled frames) rest

  behind : drop next file ≡ spelled frames ++ rest
  behind =
      let place : start + (FRAME_HEAD + length payload) ≡ next = omega arith in
      ap (λ (k : ℕ). drop k file) (sym place) ∙ sym (drop-drop (FRAME_HEAD + length payload) start file) ∙ ap (λ (l : List ℕ). drop (FRAME_HEAD + length payload) l) whole
      ∙ drop_at (OPEN ∷ framed payload) (spelled frames ++ rest) (FRAME_HEAD + length payload) (omega arith)

  pub first_frame : IsFramed end start payload file
  first_frame = record {
    within = omega (arith, has.within, same_end);
    short = has.short.0;
    stands = whole ∙ ap (λ (l : List ℕ). (OPEN ∷ framed payload) ++ l) (sym behind);
  }

  pub other_frames : HasFrames next end frames file
  other_frames = record {
    stand = behind ∙ ap (λ (k : ℕ). spelled frames ++ drop k file) same_end;
    short = has.short.1;
    within = omega (arith, has.within, same_end);
  }

-- a gate, a length and a payload that were read one after another are a frame
pub frame_whole : (end at n : ℕ) (file payload : List ℕ) → HasGate at OPEN file → take LENGTH_LEN (drop (at + 1) file) ≡ to_be_bytes w32 n
    → payload ≡ take n (drop (at + FRAME_HEAD) file) → length payload ≡ n → n < 2 ^ 32 → at + FRAME_HEAD + n ≤ end → IsFramed end at payload file
frame_whole end at n file payload gate spelled_length read long short within =
    let five : at + 1 + LENGTH_LEN ≡ at + FRAME_HEAD = omega arith in
    let behind : drop (at + 1) file ≡ to_be_bytes w32 n ++ drop (at + FRAME_HEAD) file
    = sym (take-append-drop LENGTH_LEN (drop (at + 1) file)) ∙ ap (λ (l : List ℕ). l ++ drop LENGTH_LEN (drop (at + 1) file)) spelled_length
    ∙ ap (λ (l : List ℕ). to_be_bytes w32 n ++ l) (drop-drop LENGTH_LEN (at + 1) file ∙ ap (λ (k : ℕ). drop k file) five) in
    let last : drop (at + FRAME_HEAD) file ≡ payload ++ drop (at + FRAME_HEAD + length payload) file
    = sym (take-append-drop n (drop (at + FRAME_HEAD) file)) ∙ ap (λ (l : List ℕ). l ++ drop n (drop (at + FRAME_HEAD) file)) (sym read)
    ∙ ap (λ (l : List ℕ). payload ++ l) (drop-drop n (at + FRAME_HEAD) file ∙ ap (λ (k : ℕ). drop (at + FRAME_HEAD + k) file) (sym long)) in
    record {
      within = omega (arith, within, long);
      short = omega (arith, short, long);
      stands =
          gate ∙ ap (λ (l : List ℕ). OPEN ∷ l) (behind ∙ ap (λ (l : List ℕ). to_be_bytes w32 n ++ l) last)
          ∙ ap (λ (k : ℕ). OPEN ∷ (to_be_bytes w32 k ++ (payload ++ drop (at + FRAME_HEAD + length payload) file))) (sym long)
          ∙ ap (λ (l : List ℕ). OPEN ∷ l) (sym (append_assoc (to_be_bytes w32 (length payload)) payload (drop (at + FRAME_HEAD + length payload) file)));
    }
