-- Frames of settled transactions, one behind the other.
use Rattle.std.proofs.Common.{◌≡◌, ◌<◌, ◌∙◌, ◌+◌, ◌||◌, ℕ, zero, suc, List, [], ◌∷◌, ◌++◌, Bool, true, false, Some, add-suc, add-zero, append-nil, append_assoc, ap, arith, drop, drop-cons, get_or, length, length-append, refl, subst, sym, take, take-append-drop}
use Rattle.std.proofs.Math.Seq.{take-append-add}
use Rattle.std.proofs.lemmas.Grind.{flat_map-append}
use Rattle.std.specs.List.{AllByRecursion}
use Rattle.ode_host.proofs.Moments.{joined, started, weaker}
use Rattle.ode_host.specs.Host.{LeavesCut, LeavesOnly, Printed, Stands}
use Rattle.ode_host.specs.View.{View}
use Rattle.ode_keep.specs.Entries.{Entries, applied}
use Rattle.ode_language.specs.Languages.{ode}
use Rattle.ode_machine.specs.Moments.{IsAfterSome}
use Rattle.ode_machine.specs.Runs.{Item, Refuses, Settles, any_refused, final, text_of, text_until, world_at}
use Rattle.ode_run_laws.specs.Settled.{settled_of}
use Rattle.ode_ship.specs.Frames.{FitsFrame, frame_bytes}
use Rattle.ode_trace.proofs.HearingLaws.{heard_join, nothing_heard}
use Rattle.ode_trace.specs.Hearing.{heard_items}
use Rattle.ode_trace.specs.Shipping.{IsShippedSoFar, LeavesFrames, shipped}
use Rattle.ode_transact.proofs.LogLaws.{kept_append}
use Rattle.ode_transact.specs.Items.{items_of}
use Rattle.ode_transact.specs.Logging.{AreKept, IsBounded, Kept, behind}
use Rattle.ode_transact.specs.Resting.{HoldsBy}
use Rattle.ode_transact.specs.Settling.{Meaning}
use Rattle.ode_value.specs.Draining.{world_after}
use Rattle.ode_value.specs.Language.{ListWorld, Settlings}

-- ---- what items settle

pub settled_items : (settled : Settlings) → settled_of (items_of settled) ≡ settled
settled_items [] = refl
settled_items (s ∷ settled) = ap (λ (rest : Settlings). s ∷ rest) (settled_items settled)

pub settled_join : (items more : List Item) → settled_of (items ++ more) ≡ settled_of items ++ settled_of more
settled_join [] more = refl
settled_join (Refuses line ∷ items) more = settled_join items more
settled_join (Settles w text ∷ items) more = ap (λ (rest : Settlings). (w, text) ∷ rest) (settled_join items more)

pub world_settled : (w : ListWorld) (items : List Item) → world_after w (settled_of items) ≡ final w items
world_settled w [] = refl
world_settled w (Refuses line ∷ items) = world_settled w items
world_settled w (Settles v text ∷ items) = world_settled v items

-- none of them is a refusal
pub none_refused : (settled : Settlings) → any_refused (items_of settled) ≡ false
none_refused [] = refl
none_refused (s ∷ settled) = none_refused settled

pub refused_join : (items more : List Item) → any_refused (items ++ more) ≡ (any_refused items || any_refused more)
refused_join [] more = refl
refused_join (Refuses line ∷ items) more = refl
refused_join (Settles w text ∷ items) more = refused_join items more

-- ---- worlds on the way

none_yet : (w : ListWorld) (items : List Item) → world_at 0 w items ≡ w
none_yet w [] = refl
none_yet w (Refuses line ∷ items) = none_yet w items
none_yet w (Settles v text ∷ items) = refl

-- that behind all of some transactions
all_settled : (w : ListWorld) (settled : Settlings) (more : List Item) → world_at (length settled) w (items_of settled ++ more) ≡ final w (items_of settled)
all_settled w [] more = none_yet w more
all_settled w (s ∷ settled) more = all_settled s.0 settled more

-- and behind some more
some_more : (k : ℕ) (w : ListWorld) (before items : List Item) → world_at (k + length (settled_of before)) w (before ++ items) ≡ world_at k (final w before) items
some_more k w [] items = ap (λ (n : ℕ). world_at n w items) (add-zero k)
some_more k w (Refuses line ∷ before) items = some_more k w before items
some_more k w (Settles v text ∷ before) items =
    ap (λ (n : ℕ). world_at n w (Settles v text ∷ (before ++ items))) (add-suc k (length (settled_of before))) ∙ some_more k v before items

-- those of a quiet run, of which nothing is heard
world_heard : (k : ℕ) (w : ListWorld) (items : List Item) → world_at k w (heard_items true items) ≡ world_at k w items
world_heard k w [] = refl
world_heard k w (Refuses line ∷ items) = world_heard k w items
world_heard zero w (Settles v text ∷ items) = refl
world_heard (suc k) w (Settles v text ∷ items) = world_heard k v items

silent_until : (k : ℕ) (items : List Item) → text_until k (heard_items true items) ≡ []
silent_until k [] = refl
silent_until k (Refuses line ∷ items) = silent_until k items
silent_until zero (Settles v text ∷ items) = refl
silent_until (suc k) (Settles v text ∷ items) = silent_until k items

no_front : (front rest : List ℕ) → front ++ rest ≡ [] → front ≡ []
no_front [] rest is = refl
no_front (b ∷ front) rest is = absurd (cc (is))

-- ---- frames

pub kept_long : (w : ListWorld) (entries : Entries) (settled : Settlings) (frames : List Kept) → AreKept ode w entries settled frames → length frames ≡ length settled
kept_long w entries [] [] kept = refl
kept_long w entries [] (k ∷ frames) kept = absurd kept
kept_long w entries (s ∷ settled) [] kept = absurd kept
kept_long w entries (s ∷ settled) (k ∷ frames) kept = ap suc (kept_long s.0 (applied k.1 entries) settled frames kept.2)

-- the first of them are kept of as many transactions
kept_front : (w : ListWorld) (entries : Entries) (settled more : Settlings) (made rest : List Kept) → AreKept ode w entries settled (made ++ rest)
    → AreKept ode w entries (take (length made) (settled ++ more)) made
kept_front w entries settled more [] rest kept = tt
kept_front w entries [] more (k ∷ made) rest kept = absurd kept
kept_front w entries (s ∷ settled) more (k ∷ made) rest kept = (kept.0, kept.1, kept_front s.0 (applied k.1 entries) settled more made rest kept.2)

pub fit_join : (frames more : List Kept) → AllByRecursion FitsFrame frames → AllByRecursion FitsFrame more → AllByRecursion FitsFrame (frames ++ more)
fit_join [] more first second = second
fit_join (k ∷ frames) more first second = (first.0, fit_join frames more first.1 second)

pub shipped_join : (frames more : List Kept) → shipped (frames ++ more) ≡ shipped frames ++ shipped more
shipped_join frames more = flat_map-append frame_bytes frames more

-- a front of what comes behind a text
cut_behind : (file text front piece c o : List ℕ) → LeavesCut file (text ++ front) piece c o → LeavesCut file text (front ++ piece) c o
cut_behind file text front piece c o came = (
  came.0,
  length front + came.1,
  came.2 ∙ append_assoc text front (take came.1 piece) ∙ ap (λ (l : List ℕ). text ++ l) (sym (take-append-add front piece came.1)),
)

-- Some of these frames were made and printed, and these are left.
pub record ArePrinting (kept left : List Kept) (old new : View) : Type 0 where
  pub bounded : AllByRecursion IsBounded left
  pub made : List Kept
  pub split : kept ≡ made ++ left
  pub fit : AllByRecursion FitsFrame made
  pub printed : Printed (shipped made) old new
  pub moments : (file text : List ℕ) → Stands file old → old.text ≡ Some text → LeavesOnly old new (LeavesFrames file text kept)
  pub stands : (file : List ℕ) → Stands file old → Stands file new

pub printing_none : (kept : List Kept) (v : View) → AllByRecursion IsBounded kept → ArePrinting kept kept v v
printing_none kept v bounded = record {
  bounded = bounded;
  made = [];
  split = refl;
  fit = tt;
  printed = λ text told. told ∙ ap Some (sym (append-nil text));
  moments = λ file text stands told. started v (LeavesFrames file text kept);
  stands = λ file stands. stands;
}

-- the next one, which fits, is printed, or a front of it
module _ (kept left : List Kept) (k : Kept) (old mid new : View) (so_far : ArePrinting kept (k ∷ left) old mid) (fits : FitsFrame k)
    (cut : (file text : List ℕ) → Stands file mid → mid.text ≡ Some text → LeavesOnly mid new (LeavesCut file text (frame_bytes k))) where
  abbrev more : List Kept
  more = so_far.made ++ (k ∷ [])

  more_split : kept ≡ more ++ left
  more_split = so_far.split ∙ sym (append_assoc so_far.made (k ∷ []) left)

  more_fit : AllByRecursion FitsFrame more
  more_fit = fit_join so_far.made (k ∷ []) so_far.fit (fits, tt)

  more_shipped : shipped so_far.made ++ frame_bytes k ≡ shipped more
  more_shipped = ap (λ (l : List ℕ). shipped so_far.made ++ l) (sym (append-nil (frame_bytes k))) ∙ sym (shipped_join so_far.made (k ∷ []))

  printing_here : (file text c o : List ℕ) → LeavesCut file (text ++ shipped so_far.made) (frame_bytes k) c o → LeavesFrames file text kept c o
  printing_here file text c o came = record {
    made = more;
    rest = left;
    split = more_split;
    fit = more_fit;
    cut = subst (λ (l : List ℕ). LeavesCut file text l c o) more_shipped (cut_behind file text (shipped so_far.made) (frame_bytes k) c o came);
  }

  pub printing_cut : (file text : List ℕ) → Stands file old → old.text ≡ Some text → LeavesOnly old new (LeavesFrames file text kept)
  printing_cut file text stands told =
      joined old mid new (LeavesFrames file text kept) (so_far.moments file text stands told)
      (weaker mid new (LeavesCut file (text ++ shipped so_far.made) (frame_bytes k)) (LeavesFrames file text kept) (printing_here file text)
      (cut file (text ++ shipped so_far.made) (so_far.stands file stands) (so_far.printed text told)))

  pub printing_more : Printed (frame_bytes k) mid new → ((file : List ℕ) → Stands file mid → Stands file new) → ArePrinting kept left old new
  printing_more printed same = record {
    bounded = so_far.bounded.1;
    made = more;
    split = more_split;
    fit = more_fit;
    printed = λ text told.
        printed (text ++ shipped so_far.made) (so_far.printed text told)
        ∙ ap Some (append_assoc text (shipped so_far.made) (frame_bytes k) ∙ ap (λ (l : List ℕ). text ++ l) more_shipped);
    moments = printing_cut;
    stands = λ file stands. same file (so_far.stands file stands);
  }

-- all of them
all_made : (kept left : List Kept) (old new : View) → left ≡ [] → (so_far : ArePrinting kept left old new) → so_far.made ≡ kept
all_made kept left old new none so_far = sym (so_far.split ∙ ap (λ (l : List Kept). so_far.made ++ l) none ∙ append-nil so_far.made)

pub printing_all : (kept left : List Kept) (old new : View) → left ≡ [] → ArePrinting kept left old new → Printed (shipped kept) old new
printing_all kept left old new none so_far text told = so_far.printed text told ∙ ap (λ (l : List Kept). Some (text ++ shipped l)) (all_made kept left old new none so_far)

pub printing_fits : (kept left : List Kept) (old new : View) → left ≡ [] → ArePrinting kept left old new → AllByRecursion FitsFrame kept
printing_fits kept left old new none so_far = subst (λ (l : List Kept). AllByRecursion FitsFrame l) (all_made kept left old new none so_far) so_far.fit

-- the one at a place
pub next_kept : (kept : List Kept) (i : ℕ) (k : Kept) → i < length kept → k ≡ get_or kept i k → drop i kept ≡ k ∷ drop (i + 1) kept
next_kept kept i k inside is =
    let next : suc i ≡ i + 1 = omega arith in
    drop-cons kept i k inside ∙ ap (λ (x : Kept). x ∷ drop (suc i) kept) (sym is) ∙ ap (λ (n : ℕ). k ∷ drop n kept) next

-- ---- moments of a run

module _ (means : Meaning) where
  -- the engine settles, and nothing of it is printed yet
  quiet_moment : (items : List Item) (w : ListWorld) (entries : Entries) (said image out : List ℕ) → IsAfterSome (HoldsBy ode means) (heard_items true items) w said image out
      → IsShippedSoFar means items w entries said image out
  quiet_moment items w entries said image out some =
      let none : some.front ≡ [] = no_front some.front some.rest (sym some.is_front ∙ silent_until some.settled items) in
      record {
        settled = some.settled;
        held = subst (λ (v : ListWorld). HoldsBy ode means image v) (world_heard some.settled w items) some.held;
        frames = [];
        few = omega arith;
        kept = tt;
        fit = tt;
        front = [];
        rest = [];
        is_front = refl;
        printed = some.printed ∙ ap (λ (l : List ℕ). said ++ l) none;
      }

  -- the frames of what settled are printed in part
  printing_moment : (settled : Settlings) (frames : List Kept) (more : List Item) (w : ListWorld) (entries : Entries) (file said image out : List ℕ) → AreKept ode w entries settled frames
      → HoldsBy ode means file (final w (items_of settled)) → LeavesFrames file said frames image out → IsShippedSoFar means (items_of settled ++ more) w entries said image out
  printing_moment settled frames more w entries file said image out kept held left =
      let long : length frames ≡ length settled = kept_long w entries settled frames kept in
      let count : length frames ≡ length left.made + length left.rest = ap (λ (l : List Kept). length l) left.split ∙ length-append left.made left.rest in
      let all : settled_of (items_of settled ++ more) ≡ settled ++ settled_of more = settled_join (items_of settled) more ∙ ap (λ (l : Settlings). l ++ settled_of more) (settled_items settled) in
      record {
        settled = length settled;
        held = subst (λ (f : List ℕ). HoldsBy ode means f (world_at (length settled) w (items_of settled ++ more))) (sym left.cut.0)
            (subst (λ (v : ListWorld). HoldsBy ode means file v) (sym (all_settled w settled more)) held);
        frames = left.made;
        few = omega (arith, long, count);
        kept = subst (λ (l : Settlings). AreKept ode w entries (take (length left.made) l) left.made) (sym all)
            (kept_front w entries settled (settled_of more) left.made left.rest (subst (λ (l : List Kept). AreKept ode w entries settled l) left.split kept));
        fit = left.fit;
        front = take left.cut.1 (shipped left.made);
        rest = drop left.cut.1 (shipped left.made);
        is_front = sym (take-append-drop left.cut.1 (shipped left.made));
        printed = left.cut.2;
      }

  -- behind what was shipped before
  pub moment_behind : (before items : List Item) (w : ListWorld) (entries : Entries) (frames : List Kept) (text image out : List ℕ) → AreKept ode w entries (settled_of before) frames
      → AllByRecursion FitsFrame frames → IsShippedSoFar means items (final w before) (behind entries frames) (text ++ shipped frames) image out → IsShippedSoFar means (before ++ items) w entries text image out
  moment_behind before items w entries frames text image out kept fit some =
      let first : Settlings = settled_of before in
      let more : Settlings = settled_of items in
      let long : length frames ≡ length first = kept_long w entries first frames kept in
      let count : length (frames ++ some.frames) ≡ length first + length some.frames = length-append frames some.frames ∙ ap (λ (n : ℕ). n + length some.frames) long in
      let these : take (length (frames ++ some.frames)) (settled_of (before ++ items)) ≡ first ++ take (length some.frames) more =
      ap (λ (l : Settlings). take (length (frames ++ some.frames)) l) (settled_join before items) ∙ ap (λ (n : ℕ). take n (first ++ more)) count ∙ take-append-add first more (length some.frames) in
      record {
        settled = some.settled + length first;
        held = subst (λ (v : ListWorld). HoldsBy ode means image v) (sym (some_more some.settled w before items)) some.held;
        frames = frames ++ some.frames;
        few = omega (arith, count, some.few);
        kept = subst (λ (l : Settlings). AreKept ode w entries l (frames ++ some.frames)) (sym these)
            (kept_append means ode w entries first (take (length some.frames) more) frames some.frames kept
            (subst (λ (v : ListWorld). AreKept ode v (behind entries frames) (take (length some.frames) more) some.frames) (sym (world_settled w before)) some.kept));
        fit = fit_join frames some.frames fit some.fit;
        front = shipped frames ++ some.front;
        rest = some.rest;
        is_front = shipped_join frames some.frames ∙ ap (λ (l : List ℕ). shipped frames ++ l) some.is_front ∙ sym (append_assoc (shipped frames) some.front some.rest);
        printed = some.printed ∙ append_assoc text (shipped frames) some.front;
      }

  -- ---- a call of a quiet engine, and what ships behind it

  pub quiet_leaves : (quiet : Bool) (settled : Settlings) (more : List Item) (w : ListWorld) (entries : Entries) (said : List ℕ) (old new : View) → quiet ≡ true
      → LeavesOnly old new (IsAfterSome (HoldsBy ode means) (heard_items quiet (items_of settled) ++ heard_items quiet more) w said) → LeavesOnly old new (IsShippedSoFar means (items_of settled ++ more) w entries said)
  quiet_leaves quiet settled more w entries said old new is run =
      weaker old new (IsAfterSome (HoldsBy ode means) (heard_items true (items_of settled ++ more)) w said) (IsShippedSoFar means (items_of settled ++ more) w entries said)
      (λ c o left. quiet_moment (items_of settled ++ more) w entries said c o left)
      (subst (λ (l : List Item). LeavesOnly old new (IsAfterSome (HoldsBy ode means) l w said)) (sym (heard_join true (items_of settled) more))
      (subst (λ (q : Bool). LeavesOnly old new (IsAfterSome (HoldsBy ode means) (heard_items q (items_of settled) ++ heard_items q more) w said)) is run))

  pub printing_leaves : (settled : Settlings) (frames : List Kept) (more : List Item) (w : ListWorld) (entries : Entries) (file said : List ℕ) (old new : View) → AreKept ode w entries settled frames
      → HoldsBy ode means file (final w (items_of settled)) → LeavesOnly old new (LeavesFrames file said frames) → LeavesOnly old new (IsShippedSoFar means (items_of settled ++ more) w entries said)
  printing_leaves settled frames more w entries file said old new kept held run =
      weaker old new (LeavesFrames file said frames) (IsShippedSoFar means (items_of settled ++ more) w entries said) (λ c o left. printing_moment settled frames more w entries file said c o kept held left) run

-- it prints nothing
pub quiet_text : (quiet : Bool) (settled : Settlings) (old new : View) → quiet ≡ true → Printed (text_of (heard_items quiet (items_of settled))) old new → Printed [] old new
quiet_text quiet settled old new is printed =
    subst (λ (text : List ℕ). Printed text old new) (nothing_heard (items_of settled)) (subst (λ (q : Bool). Printed (text_of (heard_items q (items_of settled))) old new) is printed)
