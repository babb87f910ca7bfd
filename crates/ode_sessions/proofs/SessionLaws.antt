-- What sessions stand for over a host, and what they leave where a piece isn't carried out.
use Rattle.std.proofs.Common.{◌≡◌, ◌∙◌, ℕ, List, [], ◌∷◌, ◌++◌, Bool, true, Option, Result, Some, None, Ok, Err, ap, append-nil, refl, subst, sym}
use Rattle.std.specs.Prelude.{IfOk, OnOk}
use Rattle.ode_holders.specs.declared.opens.Open.{Open}
use Rattle.ode_host.proofs.Moments.{joined, started}
use Rattle.ode_host.specs.Host.{LeavesCut, LeavesOnly, Printed, Stands}
use Rattle.ode_host.specs.View.{View}
use Rattle.ode_interleaved_laws.specs.Meeting.{IsInterleaved}
use Rattle.ode_keep.specs.Entries.{Entries}
use Rattle.ode_language.specs.Languages.{ode}
use Rattle.ode_machine.proofs.MomentLaws.{refusal_leaves}
use Rattle.ode_machine.specs.Conversation.{Stretch, resting}
use Rattle.ode_machine.specs.Interleaving.{Interleaved, finish}
use Rattle.ode_machine.specs.Moments.{IsAfterSome}
use Rattle.ode_machine.specs.Runs.{Item, Refuses, final, text_of}
use Rattle.ode_opened.specs.declared.opened.Opened.{Opened}
use Rattle.ode_schema.specs.Parts.{AreAligned, AreFit}
use Rattle.ode_ends.proofs.ItemLaws.{world_is}
use Rattle.ode_sessions.specs.Running.{SpeaksPiece}
use Rattle.ode_steps.specs.Serving.{IsLive, IsThere, StandsBy, StandsFor, StandsIn, closed_behind}
use Rattle.ode_steps.specs.declared.sessions.Sessions.{Sessions}
use Rattle.ode_ends.specs.Endings.{EndsWith}
use Rattle.ode_transact.specs.Errors.{OnDamaged}
use Rattle.ode_transact.specs.Items.{items_of}
use Rattle.ode_transact.specs.Resting.{HoldsBy, IsAtRest, resting_parts}
use Rattle.ode_transact.specs.Settling.{Meaning}
use Rattle.ode_transact.specs.declared.error.EngineError.{EngineError}
use Rattle.ode_transact.specs.declared.error.EngineError.TheVariants as error
use Rattle.ode_value.specs.Language.{ListWorld}

module _ {H K : Type 0} (seen : H → View) (held : K → View → Entries → Type 0) (live : K → Bool) (means : Meaning)
    (stands : (keeper : K) (host : H) (entries : Entries) → held keeper (seen host) entries → (file : List ℕ) × Stands file (seen host) × means file entries)
    (stays : (keeper : K) (old new : H) (entries : Entries) → held keeper (seen old) entries → ((file : List ℕ) → Stands file (seen old) → Stands file (seen new)) → held keeper (seen new) entries) where
  abbrev For : Interleaved → Sessions K → H → Type 0
  For = StandsFor seen held live ode

  -- ---- what is held now

  goes_by : (m : Interleaved) (rest : Option (Opened K)) (sessions : List Open) (host : H) → StandsBy seen held live ode m rest sessions host → IsInterleaved ode m
  goes_by m None sessions host is = absurd is
  goes_by m (Some o) sessions host is = is.goes_on

  pub goes_on : (m : Interleaved) (s : Sessions K) (host : H) → For m s host → IsInterleaved ode m
  goes_on m s host is = goes_by m s.rest s.sessions host is

  held_by : (m : Interleaved) (rest : Option (Opened K)) (sessions : List Open) (host : H) → StandsBy seen held live ode m rest sessions host
      → (file : List ℕ) × Stands file (seen host) × HoldsBy ode means file m.world
  held_by m None sessions host is = absurd is
  held_by m (Some o) sessions host is =
      let there = stands o.keeper host is.rests.entries is.rests.records in
      (there.0, there.1, record { entries = is.rests.entries; are = there.2; world = is.rests.world.world; ones = is.goes_on.well.ones })

  pub now_holds : (m : Interleaved) (s : Sessions K) (host : H) → For m s host → (file : List ℕ) × Stands file (seen host) × HoldsBy ode means file m.world
  now_holds m s host is = held_by m s.rest s.sessions host is

  pub ends_now : (m : Interleaved) (s : Sessions K) (host : H) (text : List ℕ) → For m s host → (seen host).text ≡ Some text → EndsWith means (seen host) m.world text
  ends_now m s host text is said =
      let there = now_holds m s host is in
      record { image = there.0; stands = there.1; holds = there.2; printed = said }

  -- ---- they still stand for them behind calls that leave the disk alone

  kept_by : (m : Interleaved) (rest : Option (Opened K)) (sessions : List Open) (old new : H) → ((file : List ℕ) → Stands file (seen old) → Stands file (seen new))
      → StandsBy seen held live ode m rest sessions old → StandsBy seen held live ode m rest sessions new
  kept_by m None sessions old new same is = absurd is
  kept_by m (Some o) sessions old new same is = record {
    goes_on = is.goes_on;
    rests = record {
      entries = is.rests.entries;
      world = is.rests.world;
      usable = is.rests.usable;
      records = stays o.keeper old new is.rests.entries is.rests.records same;
      classes = is.rests.classes;
      tables = is.rests.tables;
      fit = is.rests.fit;
      bytes = is.rests.bytes;
    };
    same = is.same;
  }

  pub still_stands : (m : Interleaved) (s : Sessions K) (old new : H) → ((file : List ℕ) → Stands file (seen old) → Stands file (seen new)) → For m s old → For m s new
  still_stands m s old new same is = kept_by m s.rest s.sessions old new same is

  -- ---- at the start

  pub started_stands : (w : ListWorld) (o : Opened K) (s : Sessions K) (host : H) → s.rest ≡ Some o → s.sessions ≡ [] → IsInterleaved ode (resting w) → IsAtRest seen held live ode w o host → For (resting w) s host
  started_stands w o s host rest none good rests =
      subst (λ (r : Option (Opened K)). StandsBy seen held live ode (resting w) r s.sessions host) (sym rest)
      (subst (λ (l : List Open). StandsIn seen held live ode (resting w) o l host) (sym none) (record { goes_on = good; rests = rests; same = refl }))

  pub started_live : (o : Opened K) (s : Sessions K) → s.live ≡ true → s.rest ≡ Some o → live o.keeper ≡ true → AreFit (resting_parts o) → AreAligned (resting_parts o) → IsLive live s
  started_live o s lives rest usable fit aligned = record {
    lives = lives;
    there = subst (λ (r : Option (Opened K)). IsThere live r) (sym rest) (usable, fit, aligned);
  }

  -- ---- a piece that isn't carried out

  -- for want of memory
  pub uncalled_carries : (m : Interleaved) (stretch : Stretch) (s : Sessions K) (host : H) → SpeaksPiece seen held live means m stretch (Err error.Memory) s host host
  uncalled_carries m stretch s host = record {
    answers = tt;
    stands = tt;
    printed = tt;
    any_moment = λ said more told. started (seen host) (IsAfterSome (HoldsBy ode means) (stretch.1 ++ more) m.world said);
    sound = tt;
  }

  -- Behind calls that left all as it was a line is printed, or it isn't.
  module _ (m : Interleaved) (line : List ℕ) (s : Sessions K) (old mid new : H) (is : For m s mid)
      (same : (said : List ℕ) → (seen old).text ≡ Some said → (seen mid).text ≡ Some said)
      (before : (said : List ℕ) (more : List Item) → (seen old).text ≡ Some said → LeavesOnly (seen old) (seen mid) (IsAfterSome (HoldsBy ode means) more m.world said))
      (cut : (file text : List ℕ) → Stands file (seen mid) → (seen mid).text ≡ Some text → LeavesOnly (seen mid) (seen new) (LeavesCut file text line)) where
    line_moments : (said : List ℕ) (more : List Item) → (seen old).text ≡ Some said → LeavesOnly (seen old) (seen new) (IsAfterSome (HoldsBy ode means) (Refuses line ∷ more) m.world said)
    line_moments said more told =
        let there = now_holds m s mid is in
        joined (seen old) (seen mid) (seen new) (IsAfterSome (HoldsBy ode means) (Refuses line ∷ more) m.world said)
        (before said (Refuses line ∷ more) told)
        (refusal_leaves (HoldsBy ode means) line more m.world there.0 said (seen mid) (seen new) there.2 (cut there.0 said there.1 (same said told)))

    pub line_carries : (result : Result Bool EngineError) → IfOk result (λ was. was ≡ true) → OnOk result (Printed line (seen mid) (seen new)) → ((file : List ℕ) → Stands file (seen mid) → Stands file (seen new))
        → OnDamaged result ⊥ → SpeaksPiece seen held live means m (m, Refuses line ∷ []) result s old new
    line_carries (Ok was) answers printed stays_there sound = record {
      answers = answers;
      stands = still_stands m s mid new stays_there is;
      printed = λ text told. printed text (same text told) ∙ ap (λ (l : List ℕ). Some (text ++ l)) (sym (append-nil line));
      any_moment = line_moments;
      sound = tt;
    }
    line_carries (Err e) answers printed stays_there sound = record { answers = tt; stands = tt; printed = tt; any_moment = line_moments; sound = sound }

  -- the line of a piece that calls nothing before
  pub first_line_carries : (m : Interleaved) (line : List ℕ) (s : Sessions K) (old new : H) → For m s old
      → ((file text : List ℕ) → Stands file (seen old) → (seen old).text ≡ Some text → LeavesOnly (seen old) (seen new) (LeavesCut file text line))
      → (result : Result Bool EngineError) → IfOk result (λ was. was ≡ true) → OnOk result (Printed line (seen old) (seen new)) → ((file : List ℕ) → Stands file (seen old) → Stands file (seen new))
      → OnDamaged result ⊥ → SpeaksPiece seen held live means m (m, Refuses line ∷ []) result s old new
  first_line_carries m line s old new is cut result answers printed stays_there sound =
      line_carries m line s old old new is (λ said told. told) (λ said more told. started (seen old) (IsAfterSome (HoldsBy ode means) more m.world said)) cut result answers printed stays_there sound

  -- ---- the end of the input

  pub finished_ends : (m : Interleaved) (text : List ℕ) (s : Sessions K) (host : H) → For (closed_behind m (finish m)) s host → (seen host).text ≡ Some (text ++ text_of (items_of (finish m)))
      → EndsWith means (seen host) (final m.world (items_of (finish m))) (text ++ text_of (items_of (finish m)))
  finished_ends m text s host is told =
      subst (λ (u : ListWorld). EndsWith means (seen host) u (text ++ text_of (items_of (finish m)))) (sym (world_is m.world (finish m)))
      (ends_now (closed_behind m (finish m)) s host (text ++ text_of (items_of (finish m))) is told)
