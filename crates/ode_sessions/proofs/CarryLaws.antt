-- What a piece comes to: a step by its answer, which is the machine's reply, and a piece that says none.
use Rattle.std.proofs.Common.{◌≡◌, ◌∙◌, ℕ, zero, suc, List, [], ◌∷◌, ◌++◌, Bool, true, false, Option, Result, Some, None, Ok, Err, ap, append-nil, length, refl, subst, sym}
use Rattle.std.specs.Prelude.{IfOk, OnOk}
use Rattle.ode_host.specs.Host.{LeavesCut, LeavesOnly, Printed, Stands}
use Rattle.ode_host.specs.View.{View}
use Rattle.ode_keep.specs.Entries.{Entries}
use Rattle.ode_language.specs.Languages.{ode}
use Rattle.ode_machine.specs.Conversation.{NoSession, Says, Spoken, Unread, busy_line, reply_stretch}
use Rattle.ode_machine.specs.Interleaving.{Busy, Goes, Interleaved, Reply, Refuses}
use Rattle.ode_machine.specs.Moments.{IsAfterSome}
use Rattle.ode_machine.specs.Runs.{Item}
use Rattle.ode_machine.specs.Runs.{Refuses as refused}
use Rattle.ode_sessions.proofs.RunLaws.{none_refused}
use Rattle.ode_sessions.proofs.SessionLaws.{line_carries}
use Rattle.ode_sessions.specs.Lines.{answer_line}
use Rattle.ode_sessions.specs.Running.{SpeaksPiece}
use Rattle.ode_sessions.specs.Speaking.{IsSpoken}
use Rattle.ode_sessions.specs.declared.speaking.Spoken.TheVariants as said
use Rattle.ode_steps.specs.Serving.{IsReply, StandsFor, after_reply, counted, settlings}
use Rattle.ode_steps.specs.declared.answer.Answer.{Answer}
use Rattle.ode_steps.specs.declared.sessions.Sessions.{Sessions}
use Rattle.ode_ends.proofs.ItemLaws.{texts_are}
use Rattle.ode_transact.specs.Errors.{OnDamaged}
use Rattle.ode_transact.specs.Items.{items_of, texts_of}
use Rattle.ode_transact.specs.Resting.{HoldsBy}
use Rattle.ode_transact.specs.Settling.{Meaning}
use Rattle.ode_transact.specs.declared.error.EngineError.{EngineError}
use Rattle.ode_value.specs.Texts.{refused_line}
use Rattle.ode_value.specs.declared.reason.Refusal.{Refusal}
use Rattle.ode_value.specs.declared.statement.Statement.{Statement}

-- ---- what was said

pub says_is : (t : Spoken) (n : ℕ) (s : Statement) → IsSpoken (said.Says n s) t → t ≡ Says n s
says_is (Says session statement) n s is = ap (λ (k : ℕ). Says k statement) (sym is.0) ∙ ap (λ (u : Statement). Says n u) (sym is.1)
says_is NoSession n s is = absurd is
says_is (Unread why) n s is = absurd is

pub no_session_is : (t : Spoken) → IsSpoken said.NoSession t → t ≡ NoSession
no_session_is (Says session statement) is = absurd is
no_session_is NoSession is = refl
no_session_is (Unread why) is = absurd is

pub unread_is : (t : Spoken) (why : Refusal) → IsSpoken (said.Unread why) t → t ≡ Unread why
unread_is (Says session statement) why is = absurd is
unread_is NoSession why is = absurd is
unread_is (Unread other) why is = ap (λ (w : Refusal). Unread w) (sym is)

-- ---- the line of an answer

line_as : (at : ℕ) (a b : Answer) (line : Option (List ℕ)) → line ≡ answer_line at a → a ≡ b → line ≡ answer_line at b
line_as at a b line told is = told ∙ ap (answer_line at) is

none_counted : (at n : ℕ) (a : Answer) (line : Option (List ℕ)) → line ≡ answer_line at a → counted n a → line ≡ None
none_counted at zero a line told is = line_as at a _ line told is
none_counted at (suc n) a line told is = line_as at a _ line told is

module _ {H K : Type 0} (seen : H → View) (held : K → View → Entries → Type 0) (live : K → Bool) (means : Meaning) (m : Interleaved) (s : Sessions K) (old new : H) where
  -- what a step says of the machine's reply
  pub record Stepped (r : Reply) : Type 0 where
    pub stands : StandsFor seen held live ode (after_reply m r) s new
    pub printed : Printed (texts_of (settlings r)) (seen old) (seen new)
    pub any_moment : (said : List ℕ) (more : List Item) → (seen old).text ≡ Some said
        → LeavesOnly (seen old) (seen new) (IsAfterSome (HoldsBy ode means) (items_of (settlings r) ++ more) m.world said)

  -- it settled, or was accepted
  pub went_carries : (at : ℕ) (r : Reply) (a : Answer) → IsReply a r → None ≡ answer_line at a → Stepped r → SpeaksPiece seen held live means m (reply_stretch m at r) (Ok false) s old new
  went_carries at (Refuses why) a is none step =
      let no : None ≡ Some (refused_line at why) = line_as at a _ None none is in
      absurd (cc (no))
  went_carries at (Busy session what) a is none step =
      let no : None ≡ Some (busy_line at session what) = line_as at a _ None none is in
      absurd (cc (no))
  went_carries at (Goes now settled) a is none step = record {
    answers = sym (none_refused settled);
    stands = step.stands;
    printed = subst (λ (t : List ℕ). Printed t (seen old) (seen new)) (texts_are settled) step.printed;
    any_moment = step.any_moment;
    sound = tt;
  }

  -- it stopped
  stopped_moments : (at : ℕ) (r : Reply)
      → ((said : List ℕ) (more : List Item) → (seen old).text ≡ Some said → LeavesOnly (seen old) (seen new) (IsAfterSome (HoldsBy ode means) (items_of (settlings r) ++ more) m.world said))
      → (said : List ℕ) (more : List Item) → (seen old).text ≡ Some said
      → LeavesOnly (seen old) (seen new) (IsAfterSome (HoldsBy ode means) ((reply_stretch m at r).1 ++ more) m.world said)
  stopped_moments at (Refuses why) left text more told = left text (refused (refused_line at why) ∷ more) told
  stopped_moments at (Busy session what) left text more told = left text (refused (busy_line at session what) ∷ more) told
  stopped_moments at (Goes now settled) left text more told = left text more told

  pub stopped_carries : (at : ℕ) (r : Reply) (e : EngineError)
      → ((said : List ℕ) (more : List Item) → (seen old).text ≡ Some said → LeavesOnly (seen old) (seen new) (IsAfterSome (HoldsBy ode means) (items_of (settlings r) ++ more) m.world said))
      → OnDamaged {R = Bool} (Err e) ⊥ → SpeaksPiece seen held live means m (reply_stretch m at r) (Err e) s old new
  stopped_carries at r e left sound = record { answers = tt; stands = tt; printed = tt; any_moment = stopped_moments at r left; sound = sound }

-- It is refused or put off: its line is printed, or it isn't.
module _ {H K : Type 0} (seen : H → View) (held : K → View → Entries → Type 0) (live : K → Bool) (means : Meaning)
    (stands : (keeper : K) (host : H) (entries : Entries) → held keeper (seen host) entries → (file : List ℕ) × Stands file (seen host) × means file entries)
    (stays : (keeper : K) (old new : H) (entries : Entries) → held keeper (seen old) entries → ((file : List ℕ) → Stands file (seen old) → Stands file (seen new)) → held keeper (seen new) entries)
    (m : Interleaved) (at : ℕ) (line : List ℕ) (s : Sessions K) (old mid new : H) (result : Result Bool EngineError)
    (cut : (file text : List ℕ) → Stands file (seen mid) → (seen mid).text ≡ Some text → LeavesOnly (seen mid) (seen new) (LeavesCut file text line))
    (answers : IfOk result (λ was. was ≡ true)) (printed : OnOk result (Printed line (seen mid) (seen new))) (stays_there : (file : List ℕ) → Stands file (seen mid) → Stands file (seen new)) (sound : OnDamaged result ⊥) where
  one_line : (is : StandsFor seen held live ode m s mid) → Printed [] (seen old) (seen mid)
      → ((said : List ℕ) (more : List Item) → (seen old).text ≡ Some said → LeavesOnly (seen old) (seen mid) (IsAfterSome (HoldsBy ode means) more m.world said))
      → (other : List ℕ) → Some line ≡ Some other → SpeaksPiece seen held live means m (m, refused other ∷ []) result s old new
  one_line is none before other same =
      let same_line : line ≡ other = cc (same) in
      subst (λ (l : List ℕ). SpeaksPiece seen held live means m (m, refused l ∷ []) result s old new) same_line
      (line_carries seen held live means stands stays m line s old mid new is (λ text told. none text told ∙ ap Some (append-nil text)) before cut result answers printed stays_there sound)

  pub put_off_carries : (r : Reply) (a : Answer) → IsReply a r → Some line ≡ answer_line at a → Stepped seen held live means m s old mid r
      → SpeaksPiece seen held live means m (reply_stretch m at r) result s old new
  put_off_carries (Refuses why) a is told step = one_line step.stands step.printed step.any_moment (refused_line at why) (line_as at a _ (Some line) told is)
  put_off_carries (Busy session what) a is told step = one_line step.stands step.printed step.any_moment (busy_line at session what) (line_as at a _ (Some line) told is)
  put_off_carries (Goes now settled) a is told step =
      let no : Some line ≡ None = none_counted at (length settled) a (Some line) told is in
      absurd (cc (no))
