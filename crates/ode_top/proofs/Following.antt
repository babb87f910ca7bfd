-- A stream that is followed over a file.
use Rattle.std.proofs.Common.{◌≡◌, ◌⊎◌, ◌∙◌, ⊎_elim, inl, inr, ℕ, List, [], Option, Some, ap, refl, subst, sym, take}
use Rattle.ode_codec.specs.Standing.{HoldsWorld}
use Rattle.ode_gate.specs.declared.places.TheConstants.{FORMAT}
use Rattle.ode_host.proofs.Moments.{joined, started, weaker}
use Rattle.ode_host.specs.Host.{DiskCalls, Keeps, LeavesCut, LeavesOnly, Stands, Tells}
use Rattle.ode_host.specs.View.{View}
use Rattle.ode_host.specs.declared.status.Status.{Status}
use Rattle.ode_host.specs.declared.status.Status.TheVariants as status
use Rattle.ode_keep.specs.Entries.{Entries}
use Rattle.ode_keep.specs.declared.limits.TheConstants.{MAX_PAGED_BYTES}
use Rattle.ode_keeper.specs.Files.{FileMeans}
use Rattle.ode_language.specs.Languages.{ode}
use Rattle.ode_open.proofs.Synced.{synced_as, synced_on}
use Rattle.ode_open.specs.Opening.{IsFromOutside}
use Rattle.ode_open.specs.declared.error.OpenError.{OpenError}
use Rattle.ode_open.specs.declared.error.OpenError.TheVariants as why_not
use Rattle.ode_opened.specs.declared.opened.Opened.{Opened}
use Rattle.ode_pagemap.specs.Holding.{LastHold}
use Rattle.ode_pagemap.specs.Laws.{last_stands_law, one_map_law}
use Rattle.ode_pagemap.specs.declared.map.PageMap.{PageMap}
use Rattle.ode_paging.specs.Meaning.{PagesMeanIn}
use Rattle.ode_standby.specs.Courses.{Course}
use Rattle.ode_standby.specs.Following.{Follows}
use Rattle.ode_standby.specs.Taking.{IsBehindNext, LeavesSome, Stops, TookSome}
use Rattle.ode_standby.specs.declared.error.ShipError.{ShipError}
use Rattle.ode_standby.specs.declared.error.ShipError.TheVariants as error
use Rattle.ode_standby.specs.declared.following.Followed.{Followed}
use Rattle.ode_standby.specs.declared.following.Followed.TheVariants.{Ended, Long, ReadFault, Stopped}
use Rattle.ode_value.specs.Language.{ListWorld}
use Rattle.ode_value.specs.Limits.{script_limit}
use Rattle.ode_value.specs.declared.key.Key.{Key}
use Rattle.ode_begin.specs.Answers.{EndsFor, IsSilent}
use Rattle.ode_top.specs.Following.{FollowsStream, IsFollowEnding, IsFollowStatus, IsFollowed, IsFollowedSoFar, IsSaidSoFar, Says, from_world, said_of, status_of}
use Rattle.ode_begin.specs.Holds.{Holds}
use Rattle.ode_begin.specs.Opening.{OpensTo}
use Rattle.ode_begin.specs.Stops.{IsCut, StaysIn}
use Rattle.ode_begin.proofs.Holding.{tells_one}
use Rattle.ode_begin.proofs.Refusing.{fault_to, outside_as, outside_or}
use Rattle.ode_begin.proofs.Reopening.{LeftIn, StopsIn}
use Rattle.ode_ends.specs.Resting.{DiskHas}
use Rattle.ode_top.proofs.Shipping.{cut_opened, cut_unopened}

-- ---- what following came to

-- a record was damaged
abbrev pub IsDamaged : Followed → Type 0
IsDamaged (Stopped (error.Damaged key)) = Unit {0}
IsDamaged _ = ⊥

pub ways : (f : Followed) → IsFollowEnding (status_of f) ⊎ (IsCut (status_of f) ⊎ IsDamaged f)
ways (Ended applied skipped rest) = inl tt
ways Long = inl tt
ways ReadFault = inr (inl tt)
ways (Stopped error.Memory) = inr (inl tt)
ways (Stopped error.DiskFault) = inr (inl tt)
ways (Stopped (error.Damaged key)) = inr (inr tt)
ways (Stopped (error.BadFrame at)) = inl tt
ways (Stopped (error.Gap found next)) = inl tt
ways (Stopped (error.TooLarge total)) = inl tt

pub sound_status : (f : Followed) → ((key : Key) → f ≡ Stopped (error.Damaged key) → ⊥) → IsFollowStatus (status_of f)
sound_status (Ended applied skipped rest) sound = tt
sound_status Long sound = tt
sound_status ReadFault sound = tt
sound_status (Stopped error.Memory) sound = tt
sound_status (Stopped error.DiskFault) sound = tt
sound_status (Stopped (error.Damaged key)) sound = absurd (sound key refl)
sound_status (Stopped (error.BadFrame at)) sound = tt
sound_status (Stopped (error.Gap found next)) sound = tt
sound_status (Stopped (error.TooLarge total)) sound = tt

-- ---- what it led to

took_some : (most : ℕ) (c : Course) (bytes : List ℕ) (P Q : Entries → Type 0) → ((es : Entries) → P es → Q es) → TookSome most c bytes P → TookSome most c bytes Q
took_some most c bytes P Q to took = record { rest = took.rest; reached = took.reached; leads = took.leads; holds = to took.reached.entries took.holds }

stops_at : (most : ℕ) (c : Course) (bytes : List ℕ) (P Q : Entries → Type 0) (e : ShipError) → ((es : Entries) → P es → Q es) → Stops most c bytes P e → Stops most c bytes Q e
stops_at most c bytes P Q e to at = record { reached = at.reached; is = at.is; holds = to at.reached.entries at.holds }

-- what is known of its records may be weakened
pub follows_as : (most : ℕ) (c : Course) (bytes : List ℕ) (left : Option (List ℕ)) (P Q : Entries → Type 0) → ((es : Entries) → P es → Q es)
    → (f : Followed) → Follows most c bytes P left f → Follows most c bytes Q left f
follows_as most c bytes left P Q to (Ended applied skipped rest) took = record {
  reached = took.reached;
  begun = took.begun;
  is = took.is;
  applied_is = took.applied_is;
  skipped_is = took.skipped_is;
  rest_is = took.rest_is;
  holds = to took.reached.entries took.holds;
  short = took.short;
  nothing = took.nothing;
}
follows_as most c bytes left P Q to Long took =
    record { reached = took.reached; begun = took.begun; is = took.is; holds = to took.reached.entries took.holds; long = took.long }
follows_as most c bytes left P Q to ReadFault took = took_some most c bytes P Q to took
follows_as most c bytes left P Q to (Stopped error.Memory) took = took_some most c bytes P Q to took
follows_as most c bytes left P Q to (Stopped error.DiskFault) took = took
follows_as most c bytes left P Q to (Stopped (error.Damaged key)) took = took
follows_as most c bytes left P Q to (Stopped (error.BadFrame at)) took = stops_at most c (take script_limit bytes) P Q (error.BadFrame at) to took
follows_as most c bytes left P Q to (Stopped (error.Gap found next)) took = stops_at most c (take script_limit bytes) P Q (error.Gap found next) to took
follows_as most c bytes left P Q to (Stopped (error.TooLarge total)) took = stops_at most c (take script_limit bytes) P Q (error.TooLarge total) to took

-- some records are held where it was followed
some_held : (most : ℕ) (c : Course) (bytes : List ℕ) (left : Option (List ℕ)) (P : Entries → Type 0) (f : Followed) → Follows most c bytes P left f
    → IsFollowEnding (status_of f) → (es : Entries) × P es
some_held most c bytes left P (Ended applied skipped rest) took ending = (took.reached.entries, took.holds)
some_held most c bytes left P Long took ending = (took.reached.entries, took.holds)
some_held most c bytes left P ReadFault took ending = absurd ending
some_held most c bytes left P (Stopped error.Memory) took ending = absurd ending
some_held most c bytes left P (Stopped error.DiskFault) took ending = absurd ending
some_held most c bytes left P (Stopped (error.Damaged key)) took ending = absurd ending
some_held most c bytes left P (Stopped (error.BadFrame at)) took ending = (took.reached.entries, took.holds)
some_held most c bytes left P (Stopped (error.Gap found next)) took ending = (took.reached.entries, took.holds)
some_held most c bytes left P (Stopped (error.TooLarge total)) took ending = (took.reached.entries, took.holds)

never_damaged : (most : ℕ) (c : Course) (bytes : List ℕ) (left : Option (List ℕ)) (P : Entries → Type 0) (f : Followed) → Follows most c bytes P left f → IsDamaged f → ⊥
never_damaged most c bytes left P (Ended applied skipped rest) took is = is
never_damaged most c bytes left P Long took is = is
never_damaged most c bytes left P ReadFault took is = is
never_damaged most c bytes left P (Stopped error.Memory) took is = is
never_damaged most c bytes left P (Stopped error.DiskFault) took is = is
never_damaged most c bytes left P (Stopped (error.Damaged key)) took is = took
never_damaged most c bytes left P (Stopped (error.BadFrame at)) took is = is
never_damaged most c bytes left P (Stopped (error.Gap found next)) took is = is
never_damaged most c bytes left P (Stopped (error.TooLarge total)) took is = is

-- ---- a file that was opened

module _ (w : ListWorld) (o : Opened PageMap) (view : View) (opens : OpensTo w o view) (entries : Entries) (disk : DiskHas (PagesMeanIn FORMAT) entries view) where
  abbrev standing : (file : List ℕ) × Stands file view × PagesMeanIn FORMAT file opens.entries
  standing = last_stands_law o.keeper view opens.entries opens.kept

  -- the records that the disk has are those that its keeper holds
  same_records : opens.entries ≡ entries
  same_records =
      one_map_law FORMAT disk.0 opens.entries entries (subst (λ (file : List ℕ). PagesMeanIn FORMAT file opens.entries) (tells_one view standing.0 disk.0 standing.1.tells disk.1.tells) standing.2) disk.2

  pub kept_in : LastHold o.keeper view entries
  kept_in = subst (λ (es : Entries). LastHold o.keeper view es) same_records opens.kept

  -- and they hold the world
  pub world_in : HoldsWorld ode entries w
  world_in =
      subst (λ (es : Entries). HoldsWorld ode es w) (one_map_law FORMAT opens.image opens.holds.entries opens.entries opens.holds.are opens.means ∙ same_records) opens.holds.world

-- ---- a stream that was followed

-- a file of pages is a file
in_files : (stream : List ℕ) (c : Course) (old : View) (image out : List ℕ) → LeavesSome (PagesMeanIn FORMAT) MAX_PAGED_BYTES c stream old image out
    → LeavesSome FileMeans MAX_PAGED_BYTES c stream old image out
in_files stream c old image out some = record {
  rest = some.rest;
  reached = some.reached;
  leads = some.leads;
  whole = ⊎_elim
      (λ (here : PagesMeanIn FORMAT image some.reached.entries). inl (inr here.means))
      (λ (next : IsBehindNext (PagesMeanIn FORMAT) some.reached some.rest image).
      inr (record { frame = next.frame; behind = next.behind; split = next.split; next = next.next; whole = inr next.whole.means }))
      some.whole;
  text = some.text;
}

-- a keeper's records stand on the disk, behind a line too
stand_behind : {H : Type 0} (seen : H → View) (f : Followed) (mid new : H) (result : Status) → Says seen f mid new result → (keeper : PageMap) (es : Entries) → LastHold keeper (seen mid) es
    → DiskHas (PagesMeanIn FORMAT) es (seen new)
stand_behind seen f mid new result says keeper es held =
    let there = last_stands_law keeper (seen mid) es held in
    (there.0, says.stands there.0 there.1, there.2)

module _ {H : Type 0} (seen : H → View) (stream : List ℕ) (c : Course) (left : Option (List ℕ)) (keeper : PageMap) (f : Followed) (mid new : H) (result : Status) (says : Says seen f mid new result)
    (followed : Follows MAX_PAGED_BYTES c stream (λ es. LastHold keeper (seen mid) es) left f) where
  pub all_followed : (text : List ℕ) → (seen mid).text ≡ Some text → IsFollowEnding result → IsFollowed stream c text left (seen new) result
  all_followed text told ending =
      let same : result ≡ status_of f =
      ⊎_elim (λ is. is) (λ other. absurd (⊎_elim (λ (none : result ≡ status.Memory). subst IsFollowEnding none ending) (λ (cut : result ≡ status.WriteFault). subst IsFollowEnding cut ending) other)) says.ends in
      record {
        followed = f;
        is = follows_as MAX_PAGED_BYTES c stream left (λ es. LastHold keeper (seen mid) es) (λ es. DiskHas (PagesMeanIn FORMAT) es (seen new)) (stand_behind seen f mid new result says keeper) f followed;
        stated = same;
        printed = says.printed same ending text told;
      }

  -- a front of its line is said
  said_so_far : IsFollowEnding (status_of f) → (old : View) (text : List ℕ) → old.text ≡ Some text → (seen mid).text ≡ Some text → LeavesOnly (seen mid) (seen new) (IsFollowedSoFar stream c old)
  said_so_far ending old text before told =
      let some = some_held MAX_PAGED_BYTES c stream left (λ es. LastHold keeper (seen mid) es) f followed ending in
      let there = last_stands_law keeper (seen mid) some.0 some.1 in
      let files : (es : Entries) → LastHold keeper (seen mid) es → FileMeans there.0 es = λ es held.
      let here = last_stands_law keeper (seen mid) es held in
      subst (λ (file : List ℕ). FileMeans file es) (tells_one (seen mid) here.0 there.0 here.1.tells there.1.tells) (inr here.2.means) in
      weaker (seen mid) (seen new) (LeavesCut there.0 text (said_of f)) (IsFollowedSoFar stream c old)
      (λ q out cut.
      inr (record {
        followed = f;
        ending = ending;
        left = left;
        is = subst (λ (file : List ℕ). Follows MAX_PAGED_BYTES c stream (λ es. FileMeans file es) left f) (sym cut.0)
            (follows_as MAX_PAGED_BYTES c stream left (λ es. LastHold keeper (seen mid) es) (λ es. FileMeans there.0 es) files f followed);
        text = text;
        before = before;
        front = cut.1;
        printed = cut.2;
      }))
      (says.any_moment ending there.0 text there.1 told)

  pub followed_so_far : (old : View) (text : List ℕ) → old.text ≡ Some text → (seen mid).text ≡ Some text → LeavesOnly old (seen mid) (LeavesSome (PagesMeanIn FORMAT) MAX_PAGED_BYTES c stream old)
      → LeavesOnly old (seen new) (IsFollowedSoFar stream c old)
  followed_so_far old text before told amid =
      joined old (seen mid) (seen new) (IsFollowedSoFar stream c old)
      (weaker old (seen mid) (LeavesSome (PagesMeanIn FORMAT) MAX_PAGED_BYTES c stream old) (IsFollowedSoFar stream c old) (λ q out some. inl (in_files stream c old q out some)) amid)
      (⊎_elim (λ (ending : IsFollowEnding (status_of f)). said_so_far ending old text before told)
      (λ other. ⊎_elim
      (λ (cut : IsCut (status_of f)). subst (λ (h : H). LeavesOnly (seen mid) (seen h) (IsFollowedSoFar stream c old)) (sym (says.still cut).1) (started (seen mid) (IsFollowedSoFar stream c old)))
      (λ (bad : IsDamaged f). absurd (never_damaged MAX_PAGED_BYTES c stream left (λ es. LastHold keeper (seen mid) es) f followed bad)) other)
      (ways f))

-- it ends as the stream does, by a fault, or for want of memory
pub follow_status : {H : Type 0} (seen : H → View) (f : Followed) (old new : H) (result : Status) → Says seen f old new result → ((key : Key) → f ≡ Stopped (error.Damaged key) → ⊥) → IsFollowStatus result
follow_status seen f old new result says sound = ⊎_elim
    (λ (is : result ≡ status_of f). subst IsFollowStatus (sym is) (sound_status f sound))
    (λ other.
    ⊎_elim (λ (none : result ≡ status.Memory). subst IsFollowStatus (sym none) tt) (λ (cut : result ≡ status.WriteFault). subst IsFollowStatus (sym cut) tt) other)
    says.ends

-- ---- the claims

-- nothing was taken yet
follows_here : (stream : List ℕ) (w : ListWorld) (entries : Entries) (text : List ℕ) (old : View) → old.text ≡ Some text → (image out : List ℕ) → StaysIn w entries text image out
    → IsFollowedSoFar stream (from_world entries w) old image out
follows_here stream w entries text old said image out stays = inl (record {
  rest = stream;
  reached = from_world entries w;
  leads = record { frames = []; split = record { spelled = refl; form = tt }; ends = refl };
  whole = inl stays.1;
  text = said ∙ ap Some (sym stays.0.1);
})

-- the same text was printed before
text_before : (stream : List ℕ) (c : Course) (old mid : View) → mid.text ≡ old.text → (image out : List ℕ) → IsFollowedSoFar stream c mid image out → IsFollowedSoFar stream c old image out
text_before stream c old mid same image out moment = ⊎_elim
    (λ (some : LeavesSome FileMeans MAX_PAGED_BYTES c stream mid image out).
    inl (record { rest = some.rest; reached = some.reached; leads = some.leads; whole = some.whole; text = sym same ∙ some.text }))
    (λ (said : IsSaidSoFar stream c mid image out).
    inr (record {
      followed = said.followed;
      ending = said.ending;
      left = said.left;
      is = said.is;
      text = said.text;
      before = sym same ∙ said.before;
      front = said.front;
      printed = said.printed;
    }))
    moment

-- no file was met that holds a world
follows_absent : (before after : Option (List ℕ)) (old new : View) (result : Status) → ((image : List ℕ) (w : ListWorld) → Tells old image → Holds image w → ⊥)
    → FollowsStream before after old new result
follows_absent before after old new result none = record {
  followed = λ stream image text w entries finds means ending. absurd (none image w finds.tells finds.holds);
  cut = λ stream image text w entries finds means cut. absurd (none image w finds.tells finds.holds);
  stops = λ stream image text w entries finds means. absurd (none image w finds.tells finds.holds);
  answers = λ image w tells holds. absurd (none image w tells holds);
}

module _ (script : Option (List ℕ)) (old mid : View) (failed : Type 0) (calls : DiskCalls failed old mid) (stops : StopsIn old mid failed) where
  -- the file wasn't opened, and nothing came behind it
  follows_unopened : (result : Status) → (failed → result ≡ status.DiskFault) → (IsFollowEnding result → ⊥) → IsFollowStatus result → LeftIn old mid → FollowsStream script script old mid result
  follows_unopened result to no_end possible left = record {
    followed = λ stream image text w entries finds means ending. absurd (no_end ending);
    cut = λ stream image text w entries finds means cut.
        cut_unopened (IsFollowedSoFar stream (from_world entries w) old) old mid image text calls.keeps finds.tells (calls.text ∙ finds.said)
        (λ file now.
        let there = left image text file w entries finds.tells finds.holds means finds.said now in
        follows_here stream w entries text old finds.said file text ((there.0, refl), there.1));
    stops = λ stream image text w entries finds means.
        synced_as old mid image failed (result ≡ status.DiskFault) (StaysIn w entries text) (IsFollowedSoFar stream (from_world entries w) old)
        (follows_here stream w entries text old finds.said) (stops image text w entries finds.tells finds.holds means finds.said) to;
    answers = λ image w tells holds. possible;
  }

  -- it was, and a stream was followed
  pub follows_opened : (o : Opened PageMap) → ((image : List ℕ) (w : ListWorld) → Tells old image → Holds image w → OpensTo w o mid)
      → ((image : List ℕ) (w : ListWorld) (entries : Entries) → Tells old image → Holds image w → FileMeans image entries → DiskHas (PagesMeanIn FORMAT) entries mid)
      → (failed → ⊥) → (new : View) (after : Option (List ℕ)) (result : Status)
      → ((file out : List ℕ) → Tells new file → new.text ≡ Some out → new.left new.moment file out) → Keeps mid new
      → ((w : ListWorld) (stream text : List ℕ) (entries : Entries) → script ≡ Some stream → OpensTo w o mid → mid.text ≡ Some text → DiskHas (PagesMeanIn FORMAT) entries mid
      → IsFollowEnding result → IsFollowed stream (from_world entries w) text after new result)
      → ((w : ListWorld) (stream text : List ℕ) (entries : Entries) → script ≡ Some stream → OpensTo w o mid → mid.text ≡ Some text → DiskHas (PagesMeanIn FORMAT) entries mid
      → LeavesOnly mid new (IsFollowedSoFar stream (from_world entries w) mid))
      → ((w : ListWorld) → OpensTo w o mid → IsFollowStatus result)
      → FollowsStream script after old new result
  follows_opened o opens disk none new after result may_stay keeps followed any_moment answers = record {
    followed = λ stream image text w entries finds means ending.
        followed w stream text entries finds.given (opens image w finds.tells finds.holds) (calls.text ∙ finds.said) (disk image w entries finds.tells finds.holds means) ending;
    cut = λ stream image text w entries finds means cut.
        cut_opened (IsFollowedSoFar stream (from_world entries w) old) (StaysIn w entries text) old mid new image text failed (follows_here stream w entries text old finds.said)
        (stops image text w entries finds.tells finds.holds means finds.said) none may_stay calls.keeps keeps finds.tells (calls.text ∙ finds.said)
        (weaker mid new (IsFollowedSoFar stream (from_world entries w) mid) (IsFollowedSoFar stream (from_world entries w) old) (text_before stream (from_world entries w) old mid calls.text)
        (any_moment w stream text entries finds.given (opens image w finds.tells finds.holds) (calls.text ∙ finds.said) (disk image w entries finds.tells finds.holds means)));
    stops = λ stream image text w entries finds means.
        synced_on old mid image failed (result ≡ status.DiskFault) (StaysIn w entries text) (IsFollowedSoFar stream (from_world entries w) old)
        (follows_here stream w entries text old finds.said) (stops image text w entries finds.tells finds.holds means finds.said) none new
        (weaker mid new (IsFollowedSoFar stream (from_world entries w) mid) (IsFollowedSoFar stream (from_world entries w) old) (text_before stream (from_world entries w) old mid calls.text)
        (any_moment w stream text entries finds.given (opens image w finds.tells finds.holds) (calls.text ∙ finds.said) (disk image w entries finds.tells finds.holds means)));
    answers = λ image w tells holds. answers w (opens image w tells holds);
  }

-- The file wasn't opened, for this reason.
pub follows_refused : {H : Type 0} (seen : H → View) (old : View) (mid new : H) (why : OpenError) (result : Status) → EndsFor why result → (IsSilent result → new ≡ mid)
    → (failed : Type 0) → DiskCalls failed old (seen mid) → (script : Option (List ℕ)) → StopsIn old (seen mid) failed → (failed → why ≡ why_not.DiskFault)
    → ((image : List ℕ) (w : ListWorld) → Tells old image → Holds image w → IsFromOutside why) → LeftIn old (seen mid) → FollowsStream script script old (seen new) result
follows_refused seen old mid new why result ends still failed calls script stops to outside left = ⊎_elim
    (λ (is : IsFromOutside why).
    subst (λ h. FollowsStream script script old (seen h) result) (sym (still (outside_as IsSilent tt tt why result is ends)))
    (follows_unopened script old (seen mid) failed calls stops result (λ f. fault_to why result ends (to f))
    (outside_as (λ s. IsFollowEnding s → ⊥) (λ ending. ending) (λ ending. ending) why result is ends)
    (outside_as IsFollowStatus tt tt why result is ends) left))
    (λ (within : IsFromOutside why → ⊥). follows_absent script script old (seen new) result (λ image w tells holds. within (outside image w tells holds)))
    (outside_or why)
