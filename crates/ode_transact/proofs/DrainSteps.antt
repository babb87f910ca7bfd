-- A drain on its way, over a file at rest.
use Rattle.std.proofs.Common.{◌≡◌, ◌<◌, ◌≤◌, ◌+◌, ◌-◌, ◌++◌, ◌∙◌, ℕ, List, [], ◌∷◌, length, Bool, Option, Some, append-nil, ap, arith, refl, subst, sym}
use Rattle.std.specs.List.{AllByRecursion}
use Rattle.ode_codec.specs.declared.record.Entry as stored
use Rattle.ode_host.proofs.Calls.{host_calls_on, rose_none}
use Rattle.ode_host.proofs.Moments.{looks_none, looks_on, started}
use Rattle.ode_host.specs.Host.{HostCalls, LeavesOnly, Looks, Printed, Stands}
use Rattle.ode_host.specs.View.{View}
use Rattle.ode_keep.specs.Entries.{Entries}
use Rattle.ode_machine.proofs.MomentLaws.{at_start, behind}
use Rattle.ode_machine.specs.Moments.{IsAfterSome, LeavesSettling}
use Rattle.ode_machine.specs.Runs.{Item, final, item_of, text_of}
use Rattle.ode_opened.specs.declared.opened.Opened.{Opened}
use Rattle.ode_transact.proofs.DrainLaws.{all_drained, drained_no_more, nothing_drained, one_more_drained}
use Rattle.ode_transact.proofs.EndingLaws.{looks_then}
use Rattle.ode_transact.proofs.FrontLaws.{IsFront, front_leaves_well}
use Rattle.ode_transact.proofs.JoinLaws.{final_is, moments_join, printed_join, text_is, texts_join}
use Rattle.ode_transact.proofs.OutputLaws.{all_heard_append, counting_append, counting_none, world_heard}
use Rattle.ode_transact.proofs.RestLaws.{image_holds}
use Rattle.ode_transact.proofs.Settles.{same_text}
use Rattle.ode_transact.specs.Drained.{IsDrained}
use Rattle.ode_transact.specs.Items.{items_of, texts_of}
use Rattle.ode_transact.specs.Logging.{Kept, Logs}
use Rattle.ode_transact.specs.Output.{all_heard, counting, heard, heard_of}
use Rattle.ode_transact.specs.Resting.{HoldsBy, IsAtRest}
use Rattle.ode_transact.specs.Settling.{Meaning}
use Rattle.ode_transact.specs.Working.{entry_of}
use Rattle.ode_transact.specs.declared.output.Output.{Output}
use Rattle.ode_good_laws.specs.Well.{IsWell}
use Rattle.ode_value.specs.Draining.{drain, entry_settled, runs_entry, world_after}
use Rattle.ode_value.specs.Language.{Language, ListWorld, Settlings}
use Rattle.ode_value.specs.Objects.{Histories, Starts}
use Rattle.ode_value.specs.Pasts.{lists}
use Rattle.ode_value.specs.Settling.{Settled, transaction}
use Rattle.ode_value.specs.Transactions.{Queue}

-- the transaction of an entry as a record has it
abbrev pub settled_entry : ListWorld → ℕ → stored.Entry → Settled Histories Starts
settled_entry w number entry = transaction lists (Queue number entry.generation) (runs_entry lists (entry_of entry)) w

-- is that of the front
pub front_settles : (w : ListWorld) (number : ℕ) (entry : stored.Entry) (front : IsFront w number entry) → settled_entry w number entry ≡ entry_settled lists w (number, front.e)
front_settles w number entry front = ap (λ (x : stored.Entry). settled_entry w number x) front.same

-- and leaves a good world
pub front_well : (l : Language) (w : ListWorld) (number : ℕ) (entry : stored.Entry) (front : IsFront w number entry) → ((most : ℕ) → AllByRecursion (λ (s : Settled Histories Starts). IsWell l s.0) (drain lists most w)) → IsWell l (settled_entry w number entry).0
front_well l w number entry front well =
    subst (λ (s : Settled Histories Starts). IsWell l s.0) (sym (front_settles w number entry front)) (front_leaves_well l w (number, front.e) front.more well front.front front.left)

items_more : (settled rest : Settlings) (more : List Item) → items_of (settled ++ rest) ++ more ≡ items_of settled ++ (items_of rest ++ more)
items_more [] rest more = refl
items_more (s ∷ settled) rest more = ap (λ (items : List Item). item_of s ∷ items) (items_more settled rest more)

-- with what is heard of them
pub heard_more : (quiet : Bool) (settled rest : Settlings) (more : List Item) → items_of (all_heard quiet (settled ++ rest)) ++ more ≡ items_of (all_heard quiet settled) ++ (items_of (all_heard quiet rest) ++ more)
heard_more quiet settled rest more = ap (λ (all : Settlings). items_of all ++ more) (all_heard_append quiet settled rest) ∙ items_more (all_heard quiet settled) (all_heard quiet rest) more

pub calls_none : (v : View) → HostCalls ⊥ ⊥ v v
calls_none v = record {
  keeps = (looks_none v).keeps;
  disk_faults = rose_none ⊥ v.disk_faults (λ none. none);
  print_faults = rose_none ⊥ v.print_faults (λ none. none);
}

-- and then the host only looked
pub calls_look : (before mid now : View) → HostCalls ⊥ ⊥ before mid → Looks mid now → now.disk_faults ≡ mid.disk_faults → HostCalls ⊥ ⊥ before now
calls_look before mid now calls looks calm = host_calls_on ⊥ ⊥ ⊥ ⊥ before mid now (λ none. none) (λ none. none) calls (looks_then ⊥ ⊥ mid now now looks calm (calls_none now))

module _ {H K : Type 0} (seen : H → View) (held : K → View → Entries → Type 0) (live : K → Bool) (means : Meaning) where
  -- So many entries ran over the file that there was before: it holds the world that they left, what is heard of their texts is printed,
  -- these are counted, and no stop so far left anything else.
  pub record HasDrained (l : Language) (w : ListWorld) (o : Opened K) (before after : H) (first last : Output) (most ran : ℕ) : Type 0 where
    pub now : ListWorld
    pub settled : Settlings
    pub well : IsWell l now
    pub rest : IsAtRest seen held live l now o after
    pub is : IsDrained most ran w now settled
    pub printed : Printed (texts_of (all_heard first.quiet settled)) (seen before) (seen after)
    pub counts : last ≡ counting first (texts_of settled)
    pub moments : (said : List ℕ) (more : List Item) → (seen before).text ≡ Some said → LeavesOnly (seen before) (seen after) (IsAfterSome (HoldsBy l means) (items_of (all_heard first.quiet settled) ++ more) w said)

  -- with what was kept of them
  pub record HasLogged (l : Language) (w : ListWorld) (o : Opened K) (before after : H) (first last : Output) (most ran : ℕ) (entries : Entries) (old new : Option (List Kept)) : Type 0 where
    pub so : HasDrained l w o before after first last most ran
    pub logs : Logs means l w entries so.settled old new (seen after)

  -- none yet
  pub drain_starts : (l : Language) (w : ListWorld) (o : Opened K) (host : H) (output : Output) (most : ℕ) → IsWell l w → IsAtRest seen held live l w o host → HasDrained l w o host host output output most 0
  drain_starts l w o host output most well rest = record {
    now = w;
    settled = [];
    well = well;
    rest = rest;
    is = nothing_drained most w;
    printed = λ text said. said ∙ ap (λ (t : List ℕ). Some t) (sym (append-nil text));
    counts = counting_none output;
    moments = λ said more printed. started (seen host) (IsAfterSome (HoldsBy l means) more w said);
  }

  pub logged_starts : (l : Language) (w : ListWorld) (o : Opened K) (host : H) (output : Output) (most : ℕ) → IsWell l w → IsAtRest seen held live l w o host → (entries : Entries) (log : Option (List Kept))
      → Logs means l w entries [] log log (seen host) → HasLogged l w o host host output output most 0 entries log log
  unfolding drain_starts
  logged_starts l w o host output most well rest entries log logs = record { so = drain_starts l w o host output most well rest; logs = logs }

  module _ (stands : (k : K) (h : H) (entries : Entries) → held k (seen h) entries → (file : List ℕ) × Stands file (seen h) × means file entries)
      (text_stands : (h : H) (c o : List ℕ) → (seen h).left (seen h).moment c o → (seen h).text ≡ Some o) where
    module _ (l : Language) (w : ListWorld) (o : Opened K) (before after : H) (first last : Output) (most ran : ℕ) (so : HasDrained l w o before after first last most ran) where
      -- what is heard of them
      abbrev heard_so : Settlings
      heard_so = all_heard first.quiet so.settled

      -- the output is as quiet as it was
      as_quiet : last.quiet ≡ first.quiet
      as_quiet = ap (λ (output : Output). output.quiet) so.counts

      -- what a stop leaves now
      now_left : (said : List ℕ) (more : List Item) → (seen before).text ≡ Some said → (c out : List ℕ) → (seen after).left (seen after).moment c out → IsAfterSome (HoldsBy l means) (items_of heard_so ++ more) w said c out
      now_left said more printed c out left =
          let there = stands o.keeper after so.rest.entries so.rest.records in
          let image : HoldsBy l means c so.now = image_holds l means c so.rest.entries so.now (subst (λ (f : List ℕ). means f so.rest.entries) (sym (there.1.only c out left)) there.2) so.rest.world so.well.ones in
          let text : out ≡ said ++ texts_of heard_so = same_text out (said ++ texts_of heard_so) (sym (text_stands after c out left) ∙ so.printed said printed) in
          let world : final w (items_of heard_so) ≡ so.now = final_is w heard_so ∙ world_heard first.quiet w so.settled ∙ so.is.world in
          let here : IsAfterSome (HoldsBy l means) more (final w (items_of heard_so)) out c out =
          at_start (HoldsBy l means) more (final w (items_of heard_so)) out c (subst (λ (v : ListWorld). HoldsBy l means c v) (sym world) image) in
          let text_until : out ≡ said ++ text_of (items_of heard_so) = text ∙ ap (λ (t : List ℕ). said ++ t) (sym (text_is heard_so)) in
          behind (HoldsBy l means) (items_of heard_so) more w said c out
          (subst (λ (t : List ℕ). IsAfterSome (HoldsBy l means) more (final w (items_of heard_so)) t c out) text_until here)

      -- the host only looked, and the file holds the same
      pub moments_on : (mid : H) → Looks (seen after) (seen mid) → (said : List ℕ) (more : List Item) → (seen before).text ≡ Some said → LeavesOnly (seen before) (seen mid) (IsAfterSome (HoldsBy l means) (items_of heard_so ++ more) w said)
      moments_on mid looks said more printed =
          looks_on (seen before) (seen after) (seen mid) (IsAfterSome (HoldsBy l means) (items_of heard_so ++ more) w said) (so.moments said more printed) (now_left said more printed) looks

      abbrev pub drain_looks : (p : Opened K) (mid : H) → Looks (seen after) (seen mid) → IsAtRest seen held live l so.now p mid → HasDrained l w p before mid first last most ran
      drain_looks p mid looks rest = record {
        now = so.now;
        settled = so.settled;
        well = so.well;
        rest = rest;
        is = so.is;
        printed = λ text said. looks.text ∙ so.printed text said;
        counts = so.counts;
        moments = moments_on mid looks;
      }

      -- as moments of the whole drain
      whole : (said : List ℕ) (more : List Item) (mid : View)
          → LeavesOnly (seen before) mid (IsAfterSome (HoldsBy l means) (items_of heard_so ++ (items_of (all_heard first.quiet (drain lists (most - ran) so.now)) ++ more)) w said)
          → LeavesOnly (seen before) mid (IsAfterSome (HoldsBy l means) (items_of (all_heard first.quiet (drain lists most w)) ++ more) w said)
      whole said more mid run =
          subst (λ (items : List Item). LeavesOnly (seen before) mid (IsAfterSome (HoldsBy l means) items w said))
          (sym (ap (λ (all : Settlings). items_of (all_heard first.quiet all) ++ more) so.is.whole ∙ heard_more first.quiet so.settled (drain lists (most - ran) so.now) more)) run

      pub drain_left : (mid : H) → Looks (seen after) (seen mid) → (said : List ℕ) (more : List Item) → (seen before).text ≡ Some said
          → LeavesOnly (seen before) (seen mid) (IsAfterSome (HoldsBy l means) (items_of (all_heard first.quiet (drain lists most w)) ++ more) w said)
      drain_left mid looks said more printed = whole said more (seen mid) (moments_on mid looks said (items_of (all_heard first.quiet (drain lists (most - ran) so.now)) ++ more) printed)

      -- one more entry runs
      module _ (number : ℕ) (entry : stored.Entry) (front : IsFront so.now number entry) (less : ran < most) (new : View) where
        abbrev pub one : Settled Histories Starts
        one = settled_entry so.now number entry

        one_is : one ≡ entry_settled lists so.now (number, front.e)
        one_is = front_settles so.now number entry front

        drained : IsDrained most (ran + 1) w one.0 (so.settled ++ one ∷ [])
        drained = subst (λ (s : Settled Histories Starts). IsDrained most (ran + 1) w s.0 (so.settled ++ s ∷ [])) (sym one_is) (one_more_drained most ran w so.now so.settled (number, front.e) front.more less so.is front.front front.left)

        -- what is heard of them, and of it
        heard_both : all_heard first.quiet (so.settled ++ one ∷ []) ≡ heard_so ++ heard_of first.quiet one ∷ []
        heard_both = all_heard_append first.quiet so.settled (one ∷ [])

        moved : (said : List ℕ) (more : List Item) → (seen before).text ≡ Some said
            → ((text : List ℕ) → (seen after).text ≡ Some text → LeavesOnly (seen after) new (LeavesSettling (HoldsBy l means) so.now one.0 text (heard last.quiet one.1)))
            → LeavesOnly (seen before) new (IsAfterSome (HoldsBy l means) (items_of (all_heard first.quiet (so.settled ++ one ∷ [])) ++ more) w said)
        moved said more printed run =
            let text : List ℕ = said ++ texts_of heard_so in
            let here : LeavesOnly (seen after) new (LeavesSettling (HoldsBy l means) so.now one.0 text (heard first.quiet one.1)) =
            subst (λ (quiet : Bool). LeavesOnly (seen after) new (LeavesSettling (HoldsBy l means) so.now one.0 text (heard quiet one.1))) as_quiet (run text (so.printed said printed)) in
            subst (λ (all : Settlings). LeavesOnly (seen before) new (IsAfterSome (HoldsBy l means) (items_of all ++ more) w said)) (sym heard_both)
            (moments_join (HoldsBy l means) heard_so (heard_of first.quiet one) more w so.now said (seen before) (seen after) new (world_heard first.quiet w so.settled ∙ so.is.world)
            (λ items. so.moments said items printed) here)

        -- what a stop leaves of it
        pub one_left : (said : List ℕ) (more : List Item) → (seen before).text ≡ Some said
            → ((text : List ℕ) → (seen after).text ≡ Some text → LeavesOnly (seen after) new (LeavesSettling (HoldsBy l means) so.now one.0 text (heard last.quiet one.1)))
            → LeavesOnly (seen before) new (IsAfterSome (HoldsBy l means) (items_of (all_heard first.quiet (drain lists most w)) ++ more) w said)
        one_left said more printed run =
            subst (λ (items : List Item). LeavesOnly (seen before) new (IsAfterSome (HoldsBy l means) items w said))
            (sym (ap (λ (all : Settlings). items_of (all_heard first.quiet all) ++ more) drained.whole ∙ heard_more first.quiet (so.settled ++ one ∷ []) (drain lists (most - (ran + 1)) one.0) more))
            (moved said (items_of (all_heard first.quiet (drain lists (most - (ran + 1)) one.0)) ++ more) printed run)

        -- and what is heard and counted of it
        one_printed : Printed (heard last.quiet one.1) (seen after) new → Printed (texts_of (all_heard first.quiet (so.settled ++ one ∷ []))) (seen before) new
        one_printed printed =
            subst (λ (all : Settlings). Printed (texts_of all) (seen before) new) (sym heard_both)
            (printed_join heard_so (heard_of first.quiet one) (seen before) (seen after) new so.printed (subst (λ (quiet : Bool). Printed (heard quiet one.1) (seen after) new) as_quiet printed))

        one_counts : (behind : Output) → behind ≡ counting last one.1 → behind ≡ counting first (texts_of (so.settled ++ one ∷ []))
        one_counts behind counts =
            counts ∙ ap (λ (output : Output). counting output one.1) so.counts ∙ counting_append first (texts_of so.settled) one.1
            ∙ ap (λ (text : List ℕ). counting first text) (sym (texts_join so.settled one))

      -- and is done
      pub drain_goes : (number : ℕ) (entry : stored.Entry) (front : IsFront so.now number entry) → ran < most → (p : Opened K) (end : H) (output : Output) → IsWell l (settled_entry so.now number entry).0
          → IsAtRest seen held live l (settled_entry so.now number entry).0 p end → Printed (heard last.quiet (settled_entry so.now number entry).1) (seen after) (seen end)
          → output ≡ counting last (settled_entry so.now number entry).1
          → ((text : List ℕ) → (seen after).text ≡ Some text → LeavesOnly (seen after) (seen end) (LeavesSettling (HoldsBy l means) so.now (settled_entry so.now number entry).0 text (heard last.quiet (settled_entry so.now number entry).1)))
          → HasDrained l w p before end first output most (ran + 1)
      drain_goes number entry front less p end output well rest printed counts run = record {
        now = (settled_entry so.now number entry).0;
        settled = so.settled ++ settled_entry so.now number entry ∷ [];
        well = well;
        rest = rest;
        is = drained number entry front less (seen end);
        printed = one_printed number entry front less (seen end) printed;
        counts = one_counts number entry front less (seen end) output counts;
        moments = λ said more is. moved number entry front less (seen end) said more is run;
      }

      -- and what was kept of them
      pub logged_goes : (number : ℕ) (entry : stored.Entry) (front : IsFront so.now number entry) → ran < most → (p : Opened K) (end : H) (output : Output) → IsWell l (settled_entry so.now number entry).0
          → IsAtRest seen held live l (settled_entry so.now number entry).0 p end → Printed (heard last.quiet (settled_entry so.now number entry).1) (seen after) (seen end)
          → output ≡ counting last (settled_entry so.now number entry).1
          → ((text : List ℕ) → (seen after).text ≡ Some text → LeavesOnly (seen after) (seen end) (LeavesSettling (HoldsBy l means) so.now (settled_entry so.now number entry).0 text (heard last.quiet (settled_entry so.now number entry).1)))
          → (entries : Entries) (old new : Option (List Kept)) → Logs means l w entries (so.settled ++ settled_entry so.now number entry ∷ []) old new (seen end)
          → HasLogged l w p before end first output most (ran + 1) entries old new
      unfolding drain_goes
      logged_goes number entry front less p end output well rest printed counts run entries old new logs = record { so = drain_goes number entry front less p end output well rest printed counts run; logs = logs }

  -- where none is left to run, or nothing runs, that is the whole drain
  pub drain_ends : (l : Language) (w : ListWorld) (o : Opened K) (before after : H) (first last : Output) (most ran : ℕ) (so : HasDrained l w o before after first last most ran) → drain lists (most - ran) so.now ≡ []
      → IsAtRest seen held live l (world_after w (drain lists most w)) o after × (ran ≡ length (drain lists most w)) × Printed (texts_of (all_heard first.quiet (drain lists most w))) (seen before) (seen after)
  drain_ends l w o before after first last most ran so none =
      let all : drain lists most w ≡ so.settled = all_drained most ran w so.now so.settled so.is none in (
        subst (λ (v : ListWorld). IsAtRest seen held live l v o after) (sym (ap (λ (s : Settlings). world_after w s) all ∙ so.is.world)) so.rest,
        sym (ap (λ (s : Settlings). length s) all ∙ so.is.count),
        subst (λ (s : Settlings). Printed (texts_of (all_heard first.quiet s)) (seen before) (seen after)) (sym all) so.printed,
      )

  -- and all of it is counted
  pub drain_counts : (l : Language) (w : ListWorld) (o : Opened K) (before after : H) (first last : Output) (most ran : ℕ) (so : HasDrained l w o before after first last most ran) → drain lists (most - ran) so.now ≡ []
      → last ≡ counting first (texts_of (drain lists most w))
  drain_counts l w o before after first last most ran so none =
      so.counts ∙ ap (λ (s : Settlings). counting first (texts_of s)) (sym (all_drained most ran w so.now so.settled so.is none))

  -- and what was kept is that of all
  pub drain_logs : (l : Language) (w : ListWorld) (o : Opened K) (before after : H) (first last : Output) (most ran : ℕ) (so : HasDrained l w o before after first last most ran) → drain lists (most - ran) so.now ≡ []
      → (entries : Entries) (old new : Option (List Kept)) (view : View) → Logs means l w entries so.settled old new view → Logs means l w entries (drain lists most w) old new view
  drain_logs l w o before after first last most ran so none entries old new view logs =
      subst (λ (s : Settlings). Logs means l w entries s old new view) (sym (all_drained most ran w so.now so.settled so.is none)) logs

-- so many ran as may
pub drained_all : (most ran : ℕ) (w : ListWorld) → most ≤ ran → drain lists (most - ran) w ≡ []
drained_all most ran w all = let none : most - ran ≡ 0 = omega (arith, all) in ap (λ (n : ℕ). drain lists n w) none ∙ drained_no_more w
