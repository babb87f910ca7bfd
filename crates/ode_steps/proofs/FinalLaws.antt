-- The end of the input: what the ends of all open sessions come to.
use Rattle.std.proofs.Common.{◌≡◌, ◌∙◌, ◌+◌, ◌<◌, ◌≤◌, ℕ, suc, Bool, List, [], ◌∷◌, ◌++◌, length, Option, Some, None, Result, Ok, Err, ap, append-nil, append_assoc, arith, refl, subst, sym}
use Rattle.std.proofs.lemmas.Grind.{flat_map-append}
use Rattle.std.proofs.lemmas.List.{length-append, map-append}
use Rattle.std.specs.List.{find}
use Rattle.ode_interleaved_laws.proofs.FinishLaws.{after_both}
use Rattle.ode_engine.specs.Refusing.{IsUndamaged}
use Rattle.ode_holders.specs.declared.opens.Open as code
use Rattle.ode_host.proofs.Moments.{started}
use Rattle.ode_host.specs.Host.{LeavesOnly, Printed}
use Rattle.ode_host.specs.View.{View}
use Rattle.ode_interleaved_laws.proofs.HolderLaws.{found_at}
use Rattle.ode_interleaved_laws.proofs.OpenLaws.{others_fewer}
use Rattle.ode_keep.specs.Entries.{Entries}
use Rattle.ode_language.specs.Languages.{ode}
use Rattle.ode_machine.proofs.MomentLaws.{runs_on}
use Rattle.ode_machine.specs.Interleaving.{Interleaved, Open, ends_found, finish, finishes, may_end, others_of, settles_last, without}
use Rattle.ode_machine.specs.Moments.{IsAfterSome}
use Rattle.ode_machine.specs.Runs.{Item, final, item_of, text_of}
use Rattle.ode_opened.specs.declared.opened.Opened.{Opened}
use Rattle.ode_steps.specs.Serving.{EndsOne, Settles, StandsIn, closed_behind}
use Rattle.ode_transact.proofs.JoinLaws.{final_is, text_is}
use Rattle.ode_transact.specs.Items.{items_of, texts_of}
use Rattle.ode_transact.specs.Resting.{HoldsBy}
use Rattle.ode_transact.specs.Settling.{Meaning}
use Rattle.ode_transact.specs.declared.error.EngineError.{EngineError}
use Rattle.ode_value.specs.Draining.{world_after}
use Rattle.ode_value.specs.Language.{ListWorld, Settlings}
use Rattle.ode_value.specs.Objects.{Histories, Starts}
use Rattle.ode_value.specs.Settling.{Settled}

-- ---- settled ones behind others

items_both : (a b : Settlings) (more : List Item) → items_of (a ++ b) ++ more ≡ items_of a ++ (items_of b ++ more)
items_both a b more = ap (λ (items : List Item). items ++ more) (map-append item_of a b) ∙ append_assoc (items_of a) (items_of b) more

texts_both : (a b : Settlings) → texts_of (a ++ b) ≡ texts_of a ++ texts_of b
texts_both a b = flat_map-append (λ (s : Settled Histories Starts). s.1) a b

printed_both : (a b : Settlings) (old mid new : View) → Printed (texts_of a) old mid → Printed (texts_of b) mid new → Printed (texts_of (a ++ b)) old new
printed_both a b old mid new first second text is =
    second (text ++ texts_of a) (first text is) ∙ ap (λ (out : List ℕ). Some out) (append_assoc text (texts_of a) (texts_of b) ∙ ap (λ (rest : List ℕ). text ++ rest) (sym (texts_both a b)))

none_left : (os : List Open) → length os ≡ 0 → os ≡ []
none_left [] is = refl
none_left (o ∷ os) is = absurd (cc)

less_by_one : (a b c n : ℕ) → suc a ≡ b → suc c ≡ b → a ≡ c
less_by_one a b c n one two = omega (arith, one, two)

module _ {H K : Type 0} (seen : H → View) (held : K → View → Entries → Type 0) (live : K → Bool) (means : Meaning) where
  -- So many sessions have ended, and this is settled.
  pub record HaveEnded (m : Interleaved) (ended : ℕ) (rest : Opened K) (sessions : List code.Open) (old new : H) : Type 0 where
    pub now : Interleaved
    pub done : Settlings
    pub left : List Open
    pub here : StandsIn seen held live ode now rest sessions new
    pub whole : finish m ≡ done ++ finishes left now
    pub few : length left ≡ length now.sessions
    pub place : length left + ended ≡ length m.sessions
    pub world : now.world ≡ world_after m.world done
    pub printed : Printed (texts_of done) (seen old) (seen new)
    pub moments : (said : List ℕ) (more : List Item) → (seen old).text ≡ Some said → LeavesOnly (seen old) (seen new) (IsAfterSome (HoldsBy ode means) (items_of done ++ more) m.world said)

  -- with the count of it
  pub record AreCounted (m : Interleaved) (ended : ℕ) (rest : Opened K) (sessions : List code.Open) (count : ℕ) (old new : H) : Type 0 where
    pub so : HaveEnded m ended rest sessions old new
    pub counts : count ≡ length so.done

  abbrev none_ended : (m : Interleaved) (rest : Opened K) (sessions : List code.Open) (host : H) → StandsIn seen held live ode m rest sessions host → HaveEnded m 0 rest sessions host host
  none_ended m rest sessions host here = record {
    now = m;
    done = [];
    left = m.sessions;
    here = here;
    whole = refl;
    few = refl;
    place = omega arith;
    world = refl;
    printed = λ text is. is ∙ ap Some (sym (append-nil text));
    moments = λ said more is. started (seen host) (IsAfterSome (HoldsBy ode means) more m.world said);
  }

  pub none_counted : (m : Interleaved) (rest : Opened K) (sessions : List code.Open) (host : H) → StandsIn seen held live ode m rest sessions host → AreCounted m 0 rest sessions 0 host host
  none_counted m rest sessions host here = record { so = none_ended m rest sessions host here; counts = refl }

  module _ (m : Interleaved) (ended : ℕ) (rest : Opened K) (sessions : List code.Open) (old mid : H) (so : HaveEnded m ended rest sessions old mid) where
    abbrev now : Interleaved
    now = so.now

    -- what a stop leaves of what is settled, and then of these
    moments_on : (settled : Settlings) (more : List Item) (new : H) (said : List ℕ) → (seen old).text ≡ Some said
        → ((told : List ℕ) → (seen mid).text ≡ Some told → LeavesOnly (seen mid) (seen new) (IsAfterSome (HoldsBy ode means) (items_of settled ++ more) now.world told))
        → LeavesOnly (seen old) (seen new) (IsAfterSome (HoldsBy ode means) (items_of (so.done ++ settled) ++ more) m.world said)
    moments_on settled more new said is run =
        let items : List Item = items_of settled ++ more in
        let one : LeavesOnly (seen mid) (seen new) (IsAfterSome (HoldsBy ode means) items now.world (said ++ texts_of so.done)) = run (said ++ texts_of so.done) (so.printed said is) in
        let two : LeavesOnly (seen mid) (seen new) (IsAfterSome (HoldsBy ode means) items (final m.world (items_of so.done)) (said ++ texts_of so.done)) =
        subst (λ (w : ListWorld). LeavesOnly (seen mid) (seen new) (IsAfterSome (HoldsBy ode means) items w (said ++ texts_of so.done))) (so.world ∙ sym (final_is m.world so.done)) one in
        let three : LeavesOnly (seen mid) (seen new) (IsAfterSome (HoldsBy ode means) items (final m.world (items_of so.done)) (said ++ text_of (items_of so.done))) =
        subst (λ (t : List ℕ). LeavesOnly (seen mid) (seen new) (IsAfterSome (HoldsBy ode means) items (final m.world (items_of so.done)) (said ++ t))) (sym (text_is so.done)) two in
        subst (λ (all : List Item). LeavesOnly (seen old) (seen new) (IsAfterSome (HoldsBy ode means) all m.world said)) (sym (items_both so.done settled more))
        (runs_on (HoldsBy ode means) (items_of so.done) items m.world said (seen old) (seen mid) (seen new) (so.moments said items is) three)

    -- one more ends
    module _ (less : ended < length m.sessions) where
      abbrev found : Option Open
      found = find (may_end now) now.sessions

      abbrev Ends : Option Open → Result (Opened K × ℕ) EngineError → List code.Open → H → Type 0
      Ends p result after new = EndsOne seen held live means ode now p result after mid new

      -- there is one
      none_found : (left : List Open) → length left ≡ length now.sessions → length left + ended ≡ length m.sessions → now.sessions ≡ [] → ⊥
      none_found left few place none =
          let nothing : length now.sessions ≡ 0 = ap (λ (os : List Open). length os) none in
          omega (arith, less, few, place, nothing)

      -- what it and the others behind it settle
      whole_by : (left : List Open) → so.left ≡ left → length left + ended ≡ length m.sessions → (p : Open) → found ≡ Some p
          → (more : List Open) × (finish m ≡ so.done ++ (settles_last now p ++ finishes more (without now p (settles_last now p)))) × (suc (length more) ≡ length left)
      whole_by [] same place p at = absurd (omega (arith, less, place))
      whole_by (o ∷ more) same place p at = (
        more,
        so.whole ∙ ap (λ (os : List Open). so.done ++ finishes os now) same ∙ ap (λ (a : Option Open). so.done ++ ends_found now a (finishes more)) at,
        refl,
      )

      whole_with : (p : Open) → found ≡ Some p
          → (more : List Open) × (finish m ≡ so.done ++ (settles_last now p ++ finishes more (without now p (settles_last now p)))) × (suc (length more) ≡ length so.left)
      whole_with p at = whole_by so.left refl so.place p at

      ends_on : (p : Open) → found ≡ Some p → (rest' : Opened K) (after : List code.Open) (new : H) → StandsIn seen held live ode (without now p (settles_last now p)) rest' after new
          → Printed (texts_of (settles_last now p)) (seen mid) (seen new)
          → ((said : List ℕ) (more : List Item) → (seen mid).text ≡ Some said → LeavesOnly (seen mid) (seen new) (IsAfterSome (HoldsBy ode means) (items_of (settles_last now p) ++ more) now.world said))
          → HaveEnded m (ended + 1) rest' after old new
      ends_on p at rest' after new here printed moments =
          let settled : Settlings = settles_last now p in
          let it = whole_with p at in
          let fewer : suc (length (others_of p.session now.sessions)) ≡ length now.sessions =
          others_fewer p.session 0 now.sessions so.here.goes_on.rising p (found_at (may_end now) 0 now.sessions so.here.goes_on.rising p at).at in
          let place = so.place in
          let one = it.2 in
          record {
            now = without now p settled;
            done = so.done ++ settled;
            left = it.0;
            here = here;
            whole = it.1 ∙ sym (append_assoc so.done settled (finishes it.0 (without now p settled)));
            few = less_by_one (length it.0) (length so.left) (length (others_of p.session now.sessions)) 0 it.2 (fewer ∙ sym so.few);
            place = omega (arith, place, one);
            world = ap (λ (w : ListWorld). world_after w settled) so.world ∙ sym (after_both m.world so.done settled);
            printed = printed_both so.done settled (seen old) (seen mid) (seen new) so.printed printed;
            moments = λ said more is. moments_on settled more new said is (λ told at'. moments told more at');
          }

      -- it was counted too
      pub counts_on : (a : Option Open) → found ≡ a → (rest' : Opened K) (count more : ℕ) (after : List code.Open) (new : H) → count ≡ length so.done → Ends a (Ok (rest', more)) after new
          → AreCounted m (ended + 1) rest' after (count + more) old new
      unfolding ends_on
      counts_on None at rest' count more after new counts ends = absurd (none_found so.left so.few so.place ends)
      counts_on (Some p) at rest' count more after new counts ends = record {
        so = ends_on p at rest' after new ends.stands ends.printed ends.any_moment;
        counts = (let two = ends.counts in let both = length-append so.done (settles_last now p) in omega (arith, counts, two, both));
      }

      -- an error on the way
      pub fails_on : (a : Option Open) → found ≡ a → (e : EngineError) (after : List code.Open) (new : H) → Ends a (Err e) after new → Settles seen held live means ode m (finish m) (Err e) after old new
      fails_on None at e after new ends = absurd (none_found so.left so.few so.place ends)
      fails_on (Some p) at e after new ends =
          let it = whole_with p at in
          let settled : Settlings = settles_last now p in
          let behind : Settlings = finishes it.0 (without now p settled) in
          record {
            counts = tt;
            stands = tt;
            printed = tt;
            any_moment = λ said more is.
                subst (λ (all : Settlings). LeavesOnly (seen old) (seen new) (IsAfterSome (HoldsBy ode means) (items_of all ++ more) m.world said)) (sym it.1)
                (moments_on (settled ++ behind) more new said is
                (λ told at'. subst (λ (items : List Item). LeavesOnly (seen mid) (seen new) (IsAfterSome (HoldsBy ode means) items now.world told)) (sym (items_both settled behind more)) (ends.any_moment told (items_of behind ++ more) at')));
            sound = ends.sound;
          }

      -- or behind it
      pub stops_on : (a : Option Open) → found ≡ a → (rest' : Opened K) (count : ℕ) (e : EngineError) (after : List code.Open) (new : H) → IsUndamaged e → Ends a (Ok (rest', count)) after new
          → Settles seen held live means ode m (finish m) (Err e) after old new
      stops_on None at rest' count e after new sound ends = absurd (none_found so.left so.few so.place ends)
      stops_on (Some p) at rest' count e after new sound ends =
          fails_on (Some p) at e after new (record { counts = tt; stands = tt; printed = tt; any_moment = ends.any_moment; sound = sound })

    -- all have ended
    pub all_ended : (count : ℕ) → count ≡ length so.done → length m.sessions ≤ ended → Settles seen held live means ode m (finish m) (Ok (rest, count)) sessions old mid
    all_ended count counts all =
        let place = so.place in
        let few = so.few in
        let left : so.left ≡ [] = none_left so.left (omega (arith, place, all)) in
        let sessions' : now.sessions ≡ [] = none_left now.sessions (omega (arith, place, all, few)) in
        let whole : finish m ≡ so.done = so.whole ∙ ap (λ (os : List Open). so.done ++ finishes os now) left ∙ append-nil so.done in
        let same : now ≡ closed_behind m so.done = ap (λ (w : ListWorld). record { world = w; sessions = now.sessions }) so.world ∙ ap (λ (os : List Open). record { world = world_after m.world so.done; sessions = os }) sessions' in
        subst (λ (settled : Settlings). Settles seen held live means ode m settled (Ok (rest, count)) sessions old mid) (sym whole)
        (record {
          counts = counts;
          stands = subst (λ (k : Interleaved). StandsIn seen held live ode k rest sessions mid) same so.here;
          printed = so.printed;
          any_moment = so.moments;
          sound = tt;
        })
