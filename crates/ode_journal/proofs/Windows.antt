-- A journal rests on its frames and its last gate.
use Rattle.std.proofs.Common.{◌≡◌, ◌≢◌, ◌≤◌, ◌<◌, ℕ, ◌+◌, List, [], ◌∷◌, ◌++◌, length, take, drop, refl, sym, ◌∙◌, ap, arith, append_assoc, length-append, length-take, length-drop, take-append-drop}
use Rattle.std.proofs.lemmas.List.{take_at}
use Rattle.ode_gate.specs.declared.gate.TheConstants.{OPEN}
use Rattle.ode_journal.specs.Frames.{AreShort, IsJournal, gate_behind, spelled}
use Rattle.ode_journal.proofs.Appending.{is_journal}

-- frames and a shut gate from a place on are a journal
pub journal_spelled : (start end : ℕ) (frames : List (List ℕ)) (gate : ℕ) (behind c : List ℕ) → drop start c ≡ spelled frames ++ gate ∷ behind
    → AreShort frames → gate ≢ OPEN → gate_behind start frames < end → IsJournal start end frames c
journal_spelled start end frames gate behind c stand short shut within =
    let long : length (take start c) ≡ start =
    omega (arith, length-take start c, ap length stand, length-drop start c, length-append (spelled frames) (gate ∷ behind)) in
    let split : c ≡ (take start c ++ spelled frames) ++ gate ∷ behind =
    sym (take-append-drop start c) ∙ ap (λ (l : List ℕ). take start c ++ l) stand ∙ sym (append_assoc (take start c) (spelled frames) (gate ∷ behind)) in
    is_journal start end (take start c) long frames gate behind c split short shut within

module _ (start end : ℕ) (frames : List (List ℕ)) (file c : List ℕ) (is : IsJournal start end frames file) where
  abbrev pub gate : ℕ
  gate = is.shut.gate

  abbrev pub size : ℕ
  size = length (spelled frames ++ gate ∷ [])

  pub size_is : size ≡ length (spelled frames) + 1
  size_is = omega (arith, length-append (spelled frames) (gate ∷ []))

  reads : drop start file ≡ (spelled frames ++ gate ∷ []) ++ drop (gate_behind start frames + 1) file
  reads =
      is.has.stand ∙ ap (λ (l : List ℕ). spelled frames ++ l) is.shut.stands
      ∙ sym (append_assoc (spelled frames) (gate ∷ []) (drop (gate_behind start frames + 1) file))

  -- it stands in each file that has the same bytes there
  pub journal_window : take size (drop start c) ≡ take size (drop start file) → IsJournal start end frames c
  journal_window same =
      let front : take size (drop start c) ≡ spelled frames ++ gate ∷ [] =
      same ∙ ap (λ (l : List ℕ). take size l) reads
      ∙ take_at (spelled frames ++ gate ∷ []) (drop (gate_behind start frames + 1) file) size refl in
      let stand : drop start c ≡ spelled frames ++ gate ∷ drop size (drop start c) =
      sym (take-append-drop size (drop start c)) ∙ ap (λ (l : List ℕ). l ++ drop size (drop start c)) front
      ∙ append_assoc (spelled frames) (gate ∷ []) (drop size (drop start c)) in
      journal_spelled start end frames gate (drop size (drop start c)) c stand is.has.short is.shut.shut is.shut.within

  -- the last gate stands within the file
  pub gate_inside : gate_behind start frames + 1 ≤ length file
  gate_inside = omega (arith, ap length is.shut.stands, length-drop (gate_behind start frames) file)
