-- The front of the queue, over a file at rest.
use Rattle.std.proofs.Common.{◌≡◌, ◌<◌, ◌≤◌, ◌^◌, ◌∙◌, ℕ, List, [], ◌∷◌, Bool, true, false, Option, Some, None, arith, ap, cond, refl, subst, sym}
use Rattle.std.specs.Prelude.{nat_le, nat_lt}
use Rattle.std.proofs.lemmas.Bool.Decides.{nat_tests}
use Rattle.std.specs.List.{AllByRecursion, find}
use Rattle.std.specs.Option.{IfSome, option_map}
use Rattle.ode_codec.specs.declared.record.Entry as stored
use Rattle.ode_heap.specs.Answering.{entry_of}
use Rattle.ode_heap.specs.Answers.{Found, There}
use Rattle.ode_host.specs.View.{View}
use Rattle.ode_keep.specs.Entries.{Entries}
use Rattle.ode_opened.specs.declared.opened.Opened.{Opened}
use Rattle.ode_transact.proofs.DrainLaws.{drained_empty, drained_numberless, drained_one}
use Rattle.ode_transact.specs.Draining.{front_of}
use Rattle.ode_transact.specs.Resting.{IsAtRest}
use Rattle.ode_good_laws.specs.Well.{IsWell}
use Rattle.ode_value.specs.Draining.{drain, entry_settled}
use Rattle.ode_value.specs.GoodWorlds.{IsEntry, IsGood}
use Rattle.ode_value.specs.Language.{Language, ListWorld}
use Rattle.ode_value.specs.Limits.{generation_limit, number_limit}
use Rattle.ode_value.specs.Objects.{Histories, Starts}
use Rattle.ode_value.specs.Pasts.{lists}
use Rattle.ode_value.specs.Settling.{Settled}
use Rattle.ode_value.specs.Worlds.{Bones, Entry}

from_zero : (n : ℕ) → nat_le 0 n ≡ true
from_zero n = grind (arith, nat_tests)

-- the first entry from 0 on is the front
pub front_found : (queue : List (ℕ × Entry)) → option_map (λ (q : ℕ × Entry). (q.0, entry_of q.1)) (find (λ (q : ℕ × Entry). nat_le 0 q.0) queue) ≡ front_of queue
front_found [] = refl
front_found (q ∷ queue) = ap (λ (b : Bool). option_map (λ (q : ℕ × Entry). (q.0, entry_of q.1)) (cond b (Some q) (find (λ (q : ℕ × Entry). nat_le 0 q.0) queue))) (from_zero q.0)

pub front_is : (found : Found (Option (ℕ × stored.Entry))) (answer : Option (ℕ × stored.Entry)) (queue : List (ℕ × Entry)) → found ≡ There answer
    → found ≡ There (option_map (λ (q : ℕ × Entry). (q.0, entry_of q.1)) (find (λ (q : ℕ × Entry). nat_le 0 q.0) queue)) → answer ≡ front_of queue
front_is found answer queue answered shown =
    let both : There answer ≡ There (option_map (λ (q : ℕ × Entry). (q.0, entry_of q.1)) (find (λ (q : ℕ × Entry). nat_le 0 q.0) queue)) = sym answered ∙ shown in
    let same : answer ≡ option_map (λ (q : ℕ × Entry). (q.0, entry_of q.1)) (find (λ (q : ℕ × Entry). nat_le 0 q.0) queue) = cc (both) in
    same ∙ front_found queue

-- its generation, in a good world
pub front_known : (b : Bones) (queue : List (ℕ × Entry)) → AllByRecursion (IsEntry b) queue → IfSome (front_of queue) (λ q. (1 ≤ q.1.generation) × (q.1.generation ≤ generation_limit))
front_known b [] all = tt
front_known b (q ∷ queue) all = all.0.generation

-- the transaction of the front leaves a good world, as those of a drain do
pub front_leaves_well : (l : Language) (w : ListWorld) (q : ℕ × Entry) (more : List (ℕ × Entry)) → ((most : ℕ) → AllByRecursion (λ (s : Settled Histories Starts). IsWell l s.0) (drain lists most w))
    → w.bones.queue ≡ q ∷ more → nat_lt w.bones.transaction number_limit ≡ true → IsWell l (entry_settled lists w q).0
front_leaves_well l w q more well front left =
    (subst (λ (settled : List (Settled Histories Starts)). AllByRecursion (λ (s : Settled Histories Starts). IsWell l s.0) settled) (drained_one 0 w q more front left) (well 1)).0

-- what runs next, where something does
pub record IsFront (w : ListWorld) (number : ℕ) (entry : stored.Entry) : Type 0 where
  pub e : Entry
  pub more : List (ℕ × Entry)
  pub front : w.bones.queue ≡ (number, e) ∷ more
  pub same : entry ≡ entry_of e
  pub left : nat_lt w.bones.transaction number_limit ≡ true

front_of_some : (w : ListWorld) (number : ℕ) (entry : stored.Entry) (queue : List (ℕ × Entry)) → w.bones.queue ≡ queue → nat_lt w.bones.transaction number_limit ≡ true → Some (number, entry) ≡ front_of queue → IsFront w number entry
front_of_some w number entry [] is left found = absurd (cc (found))
front_of_some w number entry (q ∷ queue) is left found =
    let both : (number, entry) ≡ (q.0, entry_of q.1) = cc (found) in
    let n : number ≡ q.0 = ap (λ (r : ℕ × stored.Entry). r.0) both in
    record { e = q.1; more = queue; front = is ∙ ap (λ (m : ℕ). (m, q.1) ∷ queue) (sym n); same = ap (λ (r : ℕ × stored.Entry). r.1) both; left = left }

some_next : (w : ListWorld) (number : ℕ) (entry : stored.Entry) (left : Bool) → nat_lt w.bones.transaction number_limit ≡ left → Some (number, entry) ≡ cond left (front_of w.bones.queue) None → IsFront w number entry
some_next w number entry true is found = front_of_some w number entry w.bones.queue refl is found
some_next w number entry false is found = absurd (cc (found))

pub next_runs : (w : ListWorld) (number : ℕ) (entry : stored.Entry) → Some (number, entry) ≡ cond (nat_lt w.bones.transaction number_limit) (front_of w.bones.queue) None → IsFront w number entry
next_runs w number entry found = some_next w number entry (nat_lt w.bones.transaction number_limit) refl found

-- and where nothing does
none_of_front : (queue : List (ℕ × Entry)) → None ≡ front_of queue → queue ≡ []
none_of_front [] none = refl
none_of_front (q ∷ queue) none = absurd (cc (none))

none_next : (w : ListWorld) (most : ℕ) (left : Bool) → nat_lt w.bones.transaction number_limit ≡ left → None ≡ cond left (front_of w.bones.queue) None → drain lists most w ≡ []
none_next w most true is none = drained_empty most w (none_of_front w.bones.queue none)
none_next w most false is none = drained_numberless most w is

pub no_next : (w : ListWorld) (most : ℕ) → None ≡ cond (nat_lt w.bones.transaction number_limit) (front_of w.bones.queue) None → drain lists most w ≡ []
no_next w most none = none_next w most (nat_lt w.bones.transaction number_limit) refl none

-- ---- by the number that was read

-- a number is left for it
pub front_left : (w : ListWorld) (number : ℕ) (entry : stored.Entry) → IsFront w number entry → w.bones.transaction < number_limit
front_left w number entry front = let left = front.left in grind (arith, nat_tests, left)

not_left : (number n : ℕ) → 2 ^ 62 ≤ number → number ≡ n → nat_lt n number_limit ≡ false
not_left number n past is = grind (arith, nat_tests, past, is)

is_left : (number n : ℕ) → number < 2 ^ 62 → number ≡ n → nat_lt n number_limit ≡ true
is_left number n less is = grind (arith, nat_tests, less, is)

pub none_left : (w : ListWorld) (number : ℕ) → 2 ^ 62 ≤ number → number ≡ w.bones.transaction → None ≡ cond (nat_lt w.bones.transaction number_limit) (front_of w.bones.queue) None
none_left w number past is = sym (ap (λ (b : Bool). cond b (front_of w.bones.queue) None) (not_left number w.bones.transaction past is))

pub some_left : (w : ListWorld) (number : ℕ) (answer : Option (ℕ × stored.Entry)) → number < 2 ^ 62 → number ≡ w.bones.transaction → answer ≡ front_of w.bones.queue
    → answer ≡ cond (nat_lt w.bones.transaction number_limit) (front_of w.bones.queue) None
some_left w number answer less is front = front ∙ sym (ap (λ (b : Bool). cond b (front_of w.bones.queue) None) (is_left number w.bones.transaction less is))

-- the front passes for what was found
pub front_passes : (l : Language) (w : ListWorld) (found : Option (ℕ × stored.Entry)) → IsGood l w → found ≡ front_of w.bones.queue → IfSome found (λ q. (1 ≤ q.1.generation) × (q.1.generation ≤ generation_limit))
front_passes l w found good is =
    subst (λ (f : Option (ℕ × stored.Entry)). IfSome f (λ q. (1 ≤ q.1.generation) × (q.1.generation ≤ generation_limit))) (sym is) (front_known w.bones w.bones.queue good.bones.queue)

-- ---- over a file at rest

module _ {H K : Type 0} (seen : H → View) (held : K → View → Entries → Type 0) (live : K → Bool) where
  -- the heap over its keeper holds the same
  pub heap_holds : (l : Language) (w : ListWorld) (o : Opened K) (heap : K) (old : H) (rest : IsAtRest seen held live l w o old) → heap ≡ o.keeper → held heap (seen old) rest.entries
  heap_holds l w o heap old rest is = subst (λ (k : K). held k (seen old) rest.entries) (sym is) rest.records

  -- its keeper was read
  pub rest_reads_on : (l : Language) (w : ListWorld) (o : Opened K) (now keeper : K) (old new : H) (rest : IsAtRest seen held live l w o old) → live now ≡ true → held now (seen new) rest.entries → keeper ≡ now
      → IsAtRest seen held live l w (record o { keeper = keeper }) new
  rest_reads_on l w o now keeper old new rest usable records is = record {
    entries = rest.entries;
    world = rest.world;
    usable = ap live is ∙ usable;
    records = subst (λ (k : K). held k (seen new) rest.entries) (sym is) records;
    classes = rest.classes;
    tables = rest.tables;
    fit = rest.fit;
    bytes = rest.bytes;
  }
