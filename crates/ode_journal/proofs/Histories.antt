-- The payloads of frames are read one after another, and in one way.
use Rattle.std.proofs.Common.{◌≡◌, inl, inr, ⊎_elim, ℕ, ◌+◌, List, [], ◌∷◌, ◌++◌, length, refl, sym, ◌∙◌, ap, subst, arith}
use Rattle.std.specs.Prelude.{◌⊎◌}
use Rattle.std.specs.List.{AllByRecursion}
use Rattle.ode_journal.specs.Frames.{HasFrames, IsBad, IsFramed, IsJournal, IsShut, gate_behind}
use Rattle.ode_journal.specs.Histories.{ArePayloads, IsBadFrom, IsMalformed, IsReplayed, in_turn}
use Rattle.ode_journal.specs.declared.frame.TheConstants.{FRAME_HEAD}
use Rattle.ode_journal.proofs.Frames.{gate_behind-push, no_frames, one_more}
use Rattle.ode_journal.proofs.Unique.{NoneHas, bad_stops, framed_unique, frames_unique, shut_not_bad, shut_stops}

pub in_turn-push : {X S : Type 0} (step : X → S → S) (xs : List X) (x : X) (state : S) → in_turn step (xs ++ x ∷ []) state ≡ step x (in_turn step xs state)
in_turn-push step [] x state = refl
in_turn-push step (y ∷ xs) x state = in_turn-push step xs x (step y state)

-- what a payload says
module _ {X : Type 0} (IsPayload : X → List ℕ → Type 0) where
  pub payloads_push : (xs : List X) (frames : List (List ℕ)) (x : X) (payload : List ℕ) → ArePayloads IsPayload xs frames → IsPayload x payload
      → ArePayloads IsPayload (xs ++ x ∷ []) (frames ++ payload ∷ [])
  payloads_push [] [] x payload are is = (is, tt)
  payloads_push [] (f ∷ frames) x payload are is = absurd are
  payloads_push (y ∷ xs) [] x payload are is = absurd are
  payloads_push (y ∷ xs) (f ∷ frames) x payload are is = (are.0, payloads_push xs frames x payload are.1 is)

  -- where each payload says one thing at most, so do all
  pub one_history : ((x y : X) (payload : List ℕ) → IsPayload x payload → IsPayload y payload → x ≡ y) → (a b : List X) (frames : List (List ℕ))
      → ArePayloads IsPayload a frames → ArePayloads IsPayload b frames → a ≡ b
  one_history once [] [] [] first second = refl
  one_history once [] (y ∷ b) [] first second = absurd second
  one_history once (x ∷ a) b [] first second = absurd first
  one_history once [] b (p ∷ frames) first second = absurd first
  one_history once (x ∷ a) [] (p ∷ frames) first second = absurd second
  one_history once (x ∷ a) (y ∷ b) (p ∷ frames) first second =
      ap (λ (z : X). z ∷ a) (once x y p first.0 second.0) ∙ ap (λ (l : List X). y ∷ l) (one_history once a b frames first.1 second.1)

  -- Frames of their form, up to a place where none stands.
  HasForm : List ℕ → Type 0
  HasForm payload = (x : X) × IsPayload x payload

  formed : (xs : List X) (frames : List (List ℕ)) → ArePayloads IsPayload xs frames → AllByRecursion HasForm frames
  unfolding HasForm
  formed [] [] are = tt
  formed [] (p ∷ frames) are = absurd are
  formed (x ∷ xs) [] are = absurd are
  formed (x ∷ xs) (p ∷ frames) are = ((x, are.0), formed xs frames are.1)

  module _ (end : ℕ) (file : List ℕ) where
    abbrev NoneAt : ℕ → Type 0
    NoneAt at = NoneHas HasForm end file at

    none_shut : (at : ℕ) → IsShut end at file → NoneAt at
    none_shut at shut payload framed_is form = shut_stops end at file shut payload framed_is

    none_bad : (at : ℕ) → IsBad end at file ⊎ IsMalformed IsPayload end at file → NoneAt at
    unfolding HasForm
    none_bad at bad payload framed_is form = ⊎_elim
        (λ (is : IsBad end at file). bad_stops end at file is payload framed_is)
        (λ (is : IsMalformed IsPayload end at file). is.other form.0 (subst (λ (l : List ℕ). IsPayload form.0 l) (framed_unique end at payload is.payload file framed_is is.stands) form.1))
        bad

    module _ (start : ℕ) where
      none_from : (at : ℕ) (is : IsBadFrom IsPayload start end at file) → NoneAt (gate_behind start is.frames)
      none_from at is = subst (λ (k : ℕ). NoneAt k) is.place (none_bad at is.bad)

      pub one_bad : (p q : ℕ) → IsBadFrom IsPayload start end p file → IsBadFrom IsPayload start end q file → p ≡ q
      one_bad p q first second =
          let same = frames_unique HasForm end file first.frames second.frames start first.has second.has (formed first.steps first.frames first.payloads) (formed second.steps second.frames second.payloads)
          (none_from p first) (none_from q second) in
          first.place ∙ ap (λ (l : List (List ℕ)). gate_behind start l) same ∙ sym second.place

      pub journal_not_bad : (frames : List (List ℕ)) (xs : List X) (at : ℕ) → IsJournal start end frames file → ArePayloads IsPayload xs frames → IsBadFrom IsPayload start end at file → ⊥
      journal_not_bad frames xs at is are bad =
          let same = frames_unique HasForm end file frames bad.frames start is.has bad.has (formed xs frames are) (formed bad.steps bad.frames bad.payloads) (none_shut (gate_behind start frames) is.shut) (none_from at bad) in
          let here : gate_behind start frames ≡ at = ap (λ (l : List (List ℕ)). gate_behind start l) same ∙ sym bad.place in
          let shut : IsShut end at file = subst (λ (k : ℕ). IsShut end k file) here is.shut in
          ⊎_elim
          (λ (is_bad : IsBad end at file). shut_not_bad end at file shut is_bad)
          (λ (is_bad : IsMalformed IsPayload end at file). shut_stops end at file shut is_bad.payload is_bad.stands)
          bad.bad

  -- ---- one frame behind the other

  module _ {S : Type 0} (step : X → S → S) where
    -- so far these frames, up to this place
    pub record IsSoFar (start end at : ℕ) (old new : S) (file : List ℕ) : Type 0 where
      pub frames : List (List ℕ)
      pub has : HasFrames start end frames file
      pub steps : List X
      pub payloads : ArePayloads IsPayload steps frames
      pub state : new ≡ in_turn step steps old
      pub place : at ≡ gate_behind start frames

    pub none_yet : (start end : ℕ) (state : S) (file : List ℕ) → IsSoFar start end start state state file
    none_yet start end state file = record { frames = []; has = no_frames start end file; steps = []; payloads = tt; state = refl; place = omega arith }

    module _ (start end at : ℕ) (old new : S) (file : List ℕ) (so_far : IsSoFar start end at old new file) where
      pub one_frame : (payload : List ℕ) (x : X) (next : S) → IsFramed end at payload file → IsPayload x payload → next ≡ step x new
          → IsSoFar start end (at + (FRAME_HEAD + length payload)) old next file
      one_frame payload x next stands form made = record {
        frames = so_far.frames ++ payload ∷ [];
        has = one_more start end so_far.frames payload file so_far.has (subst (λ (k : ℕ). IsFramed end k payload file) so_far.place stands);
        steps = so_far.steps ++ x ∷ [];
        payloads = payloads_push so_far.steps so_far.frames x payload so_far.payloads form;
        state = made ∙ ap (step x) so_far.state ∙ sym (in_turn-push step so_far.steps x old);
        place = omega (arith, so_far.place, gate_behind-push start so_far.frames payload);
      }

      pub all_frames : IsShut end at file → IsReplayed IsPayload step start end old new (record { at = at; end = end }) file
      all_frames shut = record {
        frames = so_far.frames;
        stands = record { has = so_far.has; shut = subst (λ (k : ℕ). IsShut end k file) so_far.place shut };
        steps = so_far.steps;
        payloads = so_far.payloads;
        state = so_far.state;
        behind = ap (λ (k : ℕ). record { at = k; end = end }) so_far.place;
      }

      pub bad_frame : IsBad end at file → IsBadFrom IsPayload start end at file
      bad_frame bad = record { frames = so_far.frames; has = so_far.has; steps = so_far.steps; payloads = so_far.payloads; place = so_far.place; bad = inl bad }

      pub bad_payload : IsMalformed IsPayload end at file → IsBadFrom IsPayload start end at file
      bad_payload bad = record { frames = so_far.frames; has = so_far.has; steps = so_far.steps; payloads = so_far.payloads; place = so_far.place; bad = inr bad }
