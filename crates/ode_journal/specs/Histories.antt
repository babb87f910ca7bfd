-- What the payloads of a journal's frames say, one by one, and what they make of a state.
use Rattle.std.specs.Prelude.{◌≡◌, ◌⊎◌, ℕ, List, [], ◌∷◌}
use Rattle.ode_journal.specs.Frames.{HasFrames, IsBad, IsFramed, IsJournal, gate_behind}
use Rattle.ode_journal.specs.declared.journal.Journal.{Journal}

-- after all these, the first of them first
abbrev pub in_turn : {X S : Type 0} → (X → S → S) → List X → S → S
in_turn step [] state = state
in_turn step (x ∷ xs) state = in_turn step xs (step x state)

-- the frames are the payloads of these, one by one
abbrev pub ArePayloads : {X : Type 0} → (X → List ℕ → Type 0) → List X → List (List ℕ) → Type 0
ArePayloads IsPayload [] [] = Unit {0}
ArePayloads IsPayload (x ∷ xs) (payload ∷ frames) = IsPayload x payload × ArePayloads IsPayload xs frames
ArePayloads IsPayload _ _ = ⊥

-- from `start` on this journal stands, and the steps that its frames are the payloads of make the new state of the old
pub record IsReplayed {X S : Type 0} (IsPayload : X → List ℕ → Type 0) (step : X → S → S) (start end : ℕ) (old new : S) (journal : Journal) (file : List ℕ) : Type 0 where
  pub frames : List (List ℕ)
  pub stands : IsJournal start end frames file
  pub steps : List X
  pub payloads : ArePayloads IsPayload steps frames
  pub state : new ≡ in_turn step steps old
  pub behind : journal ≡ record { at = gate_behind start frames; end = end }

-- a whole frame stands at this place, and its payload has another form
pub record IsMalformed {X : Type 0} (IsPayload : X → List ℕ → Type 0) (end at : ℕ) (file : List ℕ) : Type 0 where
  pub payload : List ℕ
  pub stands : IsFramed end at payload file
  pub other : (x : X) → IsPayload x payload → ⊥

-- from `start` on some frames of their form, and then at this place one that is bad
pub record IsBadFrom {X : Type 0} (IsPayload : X → List ℕ → Type 0) (start end at : ℕ) (file : List ℕ) : Type 0 where
  pub frames : List (List ℕ)
  pub has : HasFrames start end frames file
  pub steps : List X
  pub payloads : ArePayloads IsPayload steps frames
  pub place : at ≡ gate_behind start frames
  pub bad : IsBad end at file ⊎ IsMalformed IsPayload end at file
