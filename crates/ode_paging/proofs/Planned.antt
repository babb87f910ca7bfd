-- The changes of a batch, made one after another, and what the records count after them.
use Rattle.std.proofs.Common.{◌≡◌, ◌+◌, List, ℕ, [], ◌∷◌, ◌++◌, cond, Option, refl, sym, ap, subst, ◌∙◌, arith}
use Rattle.std.proofs.lemmas.List.{append-nil}
use Rattle.std.specs.BTreeMap.{is_at}
use Rattle.std.specs.List.{AllByRecursion}
use Rattle.std.specs.List.Sorted.{IsStrictlySortedBy}
use Rattle.std.specs.Map.{lookup, keys_of}
use Rattle.std.specs.Ordering.{is_eq}
use Rattle.std.specs.declared.cmp.Ordering.{Ordering}
use Rattle.std.specs.declared.cmp.Ordering.TheVariants.{Less}
use Rattle.ode_gate.specs.declared.header.Header.{Header}
use Rattle.ode_host.specs.View.{View}
use Rattle.ode_value.specs.declared.key.Key.{Key}
use Rattle.ode_value.specs.Keys.{entry_kind, key_cmp}
use Rattle.ode_keep.specs.Entries.{Changes, Entries, HasRisingKeys, applied, changed, count_of_kind, value_under}
use Rattle.ode_keep.specs.Growth.{bytes_of, one_of_kind}
use Rattle.ode_keep.proofs.Counts.{applied_counts}
use Rattle.ode_paging.specs.declared.hand.Hand.{Hand}
use Rattle.ode_paging.specs.Gathering.{gathered}
use Rattle.ode_paging.specs.Hands.{HasInHand}
use Rattle.ode_paging.specs.Images.{Image}
use Rattle.ode_paging.specs.Indexing.{Leads, indexed}
use Rattle.ode_paging.specs.Making.{AreMade, IsMade, Moves, all_pointed}
use Rattle.ode_paging.specs.declared.making.Change.{Change}
use Rattle.ode_paging.specs.declared.planning.Counts.{Counts}
use Rattle.ode_paging.specs.Planning.{IsCountOf}
use Rattle.ode_paging.specs.Replacing.{ArePages, pointed}
use Rattle.ode_paging.proofs.Replaced.{all_rising, leads_rising, pointed_at}

-- a key leads in both where it leads in the other
abbrev LeadAlike : Leads → Leads → Key → Type 0
LeadAlike leads others k = lookup (is_at (key_cmp k)) leads ≡ lookup (is_at (key_cmp k)) others

-- Some changes of all are made, and this is left. The keys of what is left lead where they led. What the records counted was
-- changed too.
pub record AreMadeSoFar (view : View) (header : Header) (images : List Image) (hand : Hand) (before counts : Counts) (pages : List Entries) (all rest : Changes) (moves : Moves) : Type 0 where
  pub now : List Entries
  pub has : HasInHand view header images hand pages now
  pub are : ArePages now
  pub entries : applied rest (gathered [] now) ≡ applied all (gathered [] pages)
  pub leads : indexed 0 [] now ≡ all_pointed moves (indexed 0 [] pages)
  pub later : AllByRecursion (λ (k : Key). LeadAlike (indexed 0 [] now) (indexed 0 [] pages) k) (keys_of rest)
  pub counted : IsCountOf before (gathered [] pages) → IsCountOf counts (gathered [] now)

all_pointed_push : (moves : Moves) (leads : Leads) (k : Key) (page : Option ℕ) → all_pointed (moves ++ (k, page) ∷ []) leads ≡ pointed (all_pointed moves leads) k page
all_pointed_push [] leads k page = refl
all_pointed_push (m ∷ moves) leads k page = all_pointed_push moves (pointed leads m.0 m.1) k page

same_leads : (ks : List Key) (leads : Leads) → AllByRecursion (λ (k : Key). LeadAlike leads leads k) ks
same_leads [] leads = tt
same_leads (k ∷ ks) leads = (refl, same_leads ks leads)

-- keys above another lead where they led
still_alike : (ks : List Key) (leads after others : Leads) (k : Key) (page : Option ℕ) → HasRisingKeys leads → after ≡ pointed leads k page → AllByRecursion (λ (y : Key). key_cmp k y ≡ Less) ks
    → AllByRecursion (λ (q : Key). LeadAlike leads others q) ks → AllByRecursion (λ (q : Key). LeadAlike after others q) ks
still_alike [] leads after others k page rising made above alike = tt
still_alike (q ∷ ks) leads after others k page rising made above alike = (
  ap (λ (l : Leads). lookup (is_at (key_cmp q)) l) made
      ∙ pointed_at leads k page q rising
      ∙ ap (λ (r : Ordering). cond (is_eq r) page (lookup (is_at (key_cmp q)) leads)) above.0
      ∙ alike.0,
  still_alike ks leads after others k page rising made above.1 alike.1,
)

-- the keys of the moves and of what is left are those of all
pub keys_none : (moves : Moves) (rest all : Changes) → moves ≡ [] → rest ≡ all → keys_of moves ++ keys_of rest ≡ keys_of all
keys_none moves rest all none same = (λ i. keys_of (none i) ++ keys_of (same i))

keys_push : (moves : Moves) (k : Key) (page : Option ℕ) (ks : List Key) → keys_of (moves ++ (k, page) ∷ []) ++ ks ≡ keys_of moves ++ k ∷ ks
keys_push [] k page ks = refl
keys_push (m ∷ moves) k page ks = ap (λ (l : List Key). m.0 ∷ l) (keys_push moves k page ks)

pub keys_more : (moves after : Moves) (rest next : Changes) (k : Key) (value : Option (List ℕ)) (page : Option ℕ) (all : Changes) → keys_of moves ++ keys_of rest ≡ keys_of all
    → rest ≡ (k, value) ∷ next → after ≡ moves ++ (k, page) ∷ [] → keys_of after ++ keys_of next ≡ keys_of all
keys_more moves after rest next k value page all so_far first made =
    ap (λ (m : Moves). keys_of m ++ keys_of next) made ∙ keys_push moves k page (keys_of next)
    ∙ ap (λ (cs : Changes). keys_of moves ++ keys_of cs) (sym first) ∙ so_far

pub keys_all : (moves : Moves) (rest all : Changes) → keys_of moves ++ keys_of rest ≡ keys_of all → rest ≡ [] → keys_of moves ≡ keys_of all
keys_all moves rest all so_far none = sym (append-nil (keys_of moves)) ∙ ap (λ (cs : Changes). keys_of moves ++ keys_of cs) (sym none) ∙ so_far

-- the keys of what is left still rise
pub still_rising : (rest : Changes) (c : Key × Option (List ℕ)) (next : Changes) → rest ≡ c ∷ next → HasRisingKeys rest → HasRisingKeys next
unfolding IsStrictlySortedBy
still_rising rest c next first rising = (subst (λ (cs : Changes). HasRisingKeys cs) first rising).1

-- one change adds the entry of the queue that it puts, and takes away the one that stood there
pub entry_changes : (entries : Entries) (k : Key) (value : Option (List ℕ)) → HasRisingKeys entries
    → count_of_kind entry_kind (changed entries k value) + one_of_kind entry_kind k (value_under entries k) ≡ count_of_kind entry_kind entries + one_of_kind entry_kind k value
unfolding IsStrictlySortedBy
entry_changes entries k value rising = omega (arith, applied_counts entry_kind ((k, value) ∷ []) entries (tt, tt) rising)

-- what the records count once a change was made
abbrev Counted : Counts → Counts → Key → Change → Type 0
Counted before after k change =
    (entries : Entries) (value : Option (List ℕ)) → HasRisingKeys entries → change.taken ≡ bytes_of (value_under entries k) → change.put ≡ bytes_of value
    → IsCountOf before entries → IsCountOf after (changed entries k value)

module _ (header : Header) (images : List Image) (before : Counts) (pages : List Entries) (all : Changes) where
  pub none_made : (view : View) (hand : Hand) (rest : Changes) (moves : Moves) → rest ≡ all → moves ≡ [] → ArePages pages → HasInHand view header images hand pages pages
      → AreMadeSoFar view header images hand before before pages all rest moves
  none_made view hand rest moves same none are has = record {
    now = pages;
    has = has;
    are = are;
    entries = ap (λ (cs : Changes). applied cs (gathered [] pages)) same;
    leads = ap (λ (m : Moves). all_pointed m (indexed 0 [] pages)) (sym none);
    later = same_leads (keys_of rest) (indexed 0 [] pages);
    counted = λ is. is;
  }

  module _ (view : View) (hand : Hand) (counts : Counts) (rest : Changes) (moves : Moves) (so_far : AreMadeSoFar view header images hand before counts pages all rest moves)
      (k : Key) (value : Option (List ℕ)) (next : Changes) (first : rest ≡ (k, value) ∷ next) where
    -- where the next key leads
    pub next_leads : (index : Leads) (led : Option ℕ) → index ≡ indexed 0 [] pages → led ≡ lookup (is_at (key_cmp k)) index → led ≡ lookup (is_at (key_cmp k)) (indexed 0 [] so_far.now)
    next_leads index led same is =
        let later = subst (λ (cs : Changes). AllByRecursion (λ (q : Key). LeadAlike (indexed 0 [] so_far.now) (indexed 0 [] pages) q) (keys_of cs)) first so_far.later in
        is ∙ ap (λ (l : Leads). lookup (is_at (key_cmp k)) l) same ∙ sym later.0

    pub one_made : (after_view : View) (after_hand : Hand) (after : Counts) (change : Change) (made_moves : Moves) → HasRisingKeys rest
        → IsMade after_view header images after_hand pages so_far.now k value change.page → made_moves ≡ moves ++ (k, change.page) ∷ []
        → change.taken ≡ bytes_of (value_under (gathered [] so_far.now) k) → change.put ≡ bytes_of value → Counted counts after k change
        → AreMadeSoFar after_view header images after_hand before after pages all next made_moves
    unfolding IsStrictlySortedBy
    one_made after_view after_hand after change made_moves rising made noted taken put counting =
        let order = subst (λ (cs : Changes). HasRisingKeys cs) first rising in
        let later = subst (λ (cs : Changes). AllByRecursion (λ (q : Key). LeadAlike (indexed 0 [] so_far.now) (indexed 0 [] pages) q) (keys_of cs)) first so_far.later in
        record {
          now = made.after;
          has = made.has;
          are = made.are;
          entries = ap (λ (es : Entries). applied next es) made.entries ∙ ap (λ (cs : Changes). applied cs (gathered [] so_far.now)) (sym first) ∙ so_far.entries;
          leads = made.leads ∙ ap (λ (l : Leads). pointed l k change.page) so_far.leads ∙ sym (all_pointed_push moves (indexed 0 [] pages) k change.page)
              ∙ ap (λ (m : Moves). all_pointed m (indexed 0 [] pages)) (sym noted);
          later = still_alike (keys_of next) (indexed 0 [] so_far.now) (indexed 0 [] made.after) (indexed 0 [] pages) k change.page (leads_rising so_far.now so_far.are.rising) made.leads order.0 later.1;
          counted = λ is.
              subst (λ (es : Entries). IsCountOf after es) (sym made.entries) (counting (gathered [] so_far.now) value (all_rising so_far.now so_far.are.rising) taken put (so_far.counted is));
        }

  pub all_made : (view : View) (hand : Hand) (counts : Counts) (rest : Changes) (moves : Moves) → AreMadeSoFar view header images hand before counts pages all rest moves → rest ≡ []
      → AreMade view header images hand pages all moves
  all_made view hand counts rest moves so_far none = record {
    after = so_far.now;
    has = so_far.has;
    are = so_far.are;
    entries = ap (λ (cs : Changes). applied cs (gathered [] so_far.now)) (sym none) ∙ so_far.entries;
    leads = so_far.leads;
  }

  pub all_counted : (view : View) (hand : Hand) (counts : Counts) (rest : Changes) (moves : Moves) → AreMadeSoFar view header images hand before counts pages all rest moves → rest ≡ []
      → IsCountOf before (gathered [] pages) → IsCountOf counts (applied all (gathered [] pages))
  unfolding all_made
  all_counted view hand counts rest moves so_far none is =
      subst (λ (es : Entries). IsCountOf counts es) (all_made view hand counts rest moves so_far none).entries (so_far.counted is)
