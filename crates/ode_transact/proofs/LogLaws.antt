-- What is kept of settled transactions, one behind the other.
use Rattle.std.proofs.Common.{◌≡◌, ◌∙◌, ◌++◌, ℕ, List, [], ◌∷◌, Option, Some, None, Result, Ok, Err, append-nil, append_assoc, ap, refl, subst, sym}
use Rattle.std.specs.List.{AllByRecursion}
use Rattle.std.specs.Prelude.{IfOk, OnOk}
use Rattle.ode_host.proofs.Moments.{stands_looks}
use Rattle.ode_host.specs.Host.{Looks, Stands}
use Rattle.ode_host.specs.View.{View}
use Rattle.ode_keep.specs.Entries.{Changes, Entries, applied}
use Rattle.ode_transact.specs.Logging.{AreKept, AreOf, DiskHas, HasGrown, IsBounded, Kept, Logs, behind, logged}
use Rattle.ode_transact.specs.Settling.{Meaning}
use Rattle.ode_transact.specs.declared.error.EngineError.{EngineError}
use Rattle.ode_value.specs.Draining.{world_after}
use Rattle.ode_value.specs.Language.{Language, ListWorld, Settlings}

-- ---- a log

pub logged_none : (log : Option (List Kept)) → log ≡ logged log []
logged_none None = refl
logged_none (Some kept) = ap (λ (ks : List Kept). Some ks) (sym (append-nil kept))

pub logged_append : (log : Option (List Kept)) (a b : List Kept) → logged (logged log a) b ≡ logged log (a ++ b)
logged_append None a b = refl
logged_append (Some kept) a b = ap (λ (ks : List Kept). Some ks) (append_assoc kept a b)

all_append : (a b : List Kept) → AllByRecursion IsBounded a → AllByRecursion IsBounded b → AllByRecursion IsBounded (a ++ b)
all_append [] b first second = second
all_append (k ∷ a) b first second = (first.0, all_append a b first.1 second)

-- it has grown by nothing, by one batch, or twice
pub grown_none : (log : Option (List Kept)) → HasGrown log log
grown_none log = record { news = []; grown = logged_none log; bounded = tt }

pub grown_same : (old new : Option (List Kept)) → new ≡ old → HasGrown old new
grown_same old new is = subst (λ (log : Option (List Kept)). HasGrown old log) (sym is) (grown_none old)

pub grown_one : (old new : Option (List Kept)) (k : Kept) → new ≡ logged old (k ∷ []) → IsBounded k → HasGrown old new
grown_one old new k is bounded = record { news = k ∷ []; grown = is; bounded = (bounded, tt) }

pub grown_then : (a b c : Option (List Kept)) → HasGrown a b → HasGrown b c → HasGrown a c
grown_then a b c first second = record {
  news = first.news ++ second.news;
  grown = second.grown ∙ ap (λ (log : Option (List Kept)). logged log second.news) first.grown ∙ logged_append a first.news second.news;
  bounded = all_append first.news second.news first.bounded second.bounded;
}

-- ---- the records of a disk

-- there are no others, where an image stands for one map
same_file : (f g : List ℕ) (view : View) → Stands f view → Stands g view → f ≡ g
same_file f g view a b = let is : Some f ≡ Some g = sym a.tells.image ∙ b.tells.image in cc (is)

pub one_disk : (means : Meaning) → ((image : List ℕ) (entries others : Entries) → means image entries → means image others → entries ≡ others)
    → (view : View) (a b : Entries) → DiskHas means a view → DiskHas means b view → a ≡ b
one_disk means one view a b (file, stands, are) (other, also, are_too) =
    one other a b (subst (λ (f : List ℕ). means f a) (same_file file other view stands also) are) are_too

-- calls that only look leave them
pub disk_looks : (means : Meaning) (entries : Entries) (old new : View) → Looks old new → DiskHas means entries old → DiskHas means entries new
disk_looks means entries old new looks (file, stands, are) = (file, stands_looks file old new looks stands, are)

-- ---- what calls keep

module _ (means : Meaning) (l : Language) where
  -- nothing settled
  pub logs_none : (w : ListWorld) (entries : Entries) (log : Option (List Kept)) (view : View) → DiskHas means entries view → Logs means l w entries [] log log view
  logs_none w entries log view disk = record { news = []; grown = logged_none log; kept = tt; disk = disk }

  -- one transaction
  pub logs_one : (w v : ListWorld) (text : List ℕ) (entries : Entries) (number : ℕ) (changes : Changes) (old new : Option (List Kept)) (view : View) → new ≡ logged old ((number, changes) ∷ []) → number ≡ w.bones.transaction
      → AreOf l (applied changes entries) v → DiskHas means (applied changes entries) view → Logs means l w entries ((v, text) ∷ []) old new view
  logs_one w v text entries number changes old new view is numbered holds disk = record { news = (number, changes) ∷ []; grown = is; kept = (numbered, holds, tt); disk = disk }

  pub kept_append : (w : ListWorld) (entries : Entries) (settled more : Settlings) (a b : List Kept) → AreKept l w entries settled a → AreKept l (world_after w settled) (behind entries a) more b → AreKept l w entries (settled ++ more) (a ++ b)
  kept_append w entries [] more [] b first second = second
  kept_append w entries [] more (k ∷ a) b first second = absurd first
  kept_append w entries (s ∷ settled) more [] b first second = absurd first
  kept_append w entries (s ∷ settled) more (k ∷ a) b first second = (first.0, first.1, kept_append s.0 (applied k.1 entries) settled more a b first.2 second)

  pub behind_append : (entries : Entries) (a b : List Kept) → behind entries (a ++ b) ≡ behind (behind entries a) b
  behind_append entries [] b = refl
  behind_append entries (k ∷ a) b = behind_append (applied k.1 entries) a b

  -- and more behind it
  pub logs_then : (w : ListWorld) (entries : Entries) (settled more : Settlings) (a b c : Option (List Kept)) (mid new : View) (first : Logs means l w entries settled a b mid)
      → Logs means l (world_after w settled) (behind entries first.news) more b c new → Logs means l w entries (settled ++ more) a c new
  logs_then w entries settled more a b c mid new first second = record {
    news = first.news ++ second.news;
    grown = second.grown ∙ ap (λ (log : Option (List Kept)). logged log second.news) first.grown ∙ logged_append a first.news second.news;
    kept = kept_append w entries settled more first.news second.news first.kept second.kept;
    disk = subst (λ (m : Entries). DiskHas means m new) (sym (behind_append entries first.news second.news)) second.disk;
  }

  -- calls that only look
  pub logs_looks : (w : ListWorld) (entries : Entries) (settled : Settlings) (old log : Option (List Kept)) (before after : View) → Looks before after → Logs means l w entries settled old log before → Logs means l w entries settled old log after
  logs_looks w entries settled old log before after looks logs = record { news = logs.news; grown = logs.grown; kept = logs.kept; disk = disk_looks means (behind entries logs.news) before after looks logs.disk }

  -- one more, from the world that they left
  pub logs_more : (w now : ListWorld) (entries : Entries) (settled more : Settlings) (a b c : Option (List Kept)) (mid new : View) → world_after w settled ≡ now → Logs means l w entries settled a b mid
      → ((m : Entries) → DiskHas means m mid → Logs means l now m more b c new) → Logs means l w entries (settled ++ more) a c new
  logs_more w now entries settled more a b c mid new is first second =
      logs_then w entries settled more a b c mid new first
      (subst (λ (v : ListWorld). Logs means l v (behind entries first.news) more b c new) (sym is) (second (behind entries first.news) first.disk))

  pub logs_on : {R : Type 0} (result : Result R EngineError) (w : ListWorld) (entries : Entries) (settled more : Settlings) (a b c : Option (List Kept)) (mid new : View) → Logs means l w entries settled a b mid
      → ((m : Entries) → DiskHas means m mid → OnOk result (Logs means l (world_after w settled) m more b c new)) → OnOk result (Logs means l w entries (settled ++ more) a c new)
  logs_on (Ok done) w entries settled more a b c mid new first second = logs_then w entries settled more a b c mid new first (second (behind entries first.news) first.disk)
  logs_on (Err why) w entries settled more a b c mid new first second = tt

-- a settling in other words
pub logs_as : {R S : Type 0} (result : Result R EngineError) (P : S → Type 0) (a b : S) → a ≡ b → OnOk result (P a) → OnOk result (P b)
logs_as (Ok done) P a b is holds = subst P is holds
logs_as (Err why) P a b is holds = tt

-- ---- a transaction that ends

module _ {H K : Type 0} (seen : H → View) (held : K → View → Entries → Type 0) (means : Meaning)
    (stands : (k : K) (h : H) (entries : Entries) → held k (seen h) entries → (file : List ℕ) × Stands file (seen h) × means file entries)
    (one : (image : List ℕ) (entries others : Entries) → means image entries → means image others → entries ≡ others) where
  -- a keeper holds what the disk has
  pub held_disk : (keeper : K) (host : H) (a b : Entries) → held keeper (seen host) a → DiskHas means b (seen host) → a ≡ b
  held_disk keeper host a b holds disk = one_disk means one (seen host) a b (stands keeper host a holds) disk

  -- the changes of one transaction, over a keeper that held these records and holds those behind them
  pub logs_settled : {R : Type 0} (keeper_of : R → K) (result : Result R EngineError) (l : Language) (w v : ListWorld) (text : List ℕ) (entries records : Entries) (number : ℕ) (changes : Changes)
      (old new : Option (List Kept)) (host : H) → records ≡ entries → number ≡ w.bones.transaction → AreOf l (applied changes records) v
      → OnOk result (new ≡ logged old ((number, changes) ∷ [])) → IfOk result (λ r. held (keeper_of r) (seen host) (applied changes records))
      → OnOk result (Logs means l w entries ((v, text) ∷ []) old new (seen host))
  logs_settled keeper_of (Ok r) l w v text entries records number changes old new host same numbered holds kept keeps =
      subst (λ (m : Entries). Logs means l w m ((v, text) ∷ []) old new (seen host)) same
      (logs_one means l w v text records number changes old new (seen host) kept numbered holds (stands (keeper_of r) host (applied changes records) keeps))
  logs_settled keeper_of (Err why) l w v text entries records number changes old new host same numbered holds kept keeps = tt
