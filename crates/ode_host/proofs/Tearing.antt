-- What a stop leaves of calls that no sync follows.
use Rattle.std.proofs.Common.{◌≡◌, ◌≢◌, ◌≤◌, ◌<◌, ℕ, ◌+◌, ◌-◌, zero, suc, List, [], ◌∷◌, ◌++◌, length, get_or, take, drop, replicate, nat_lt, if◌then◌else◌, true, false, refl, sym, ◌∙◌, ap, subst, arith, length-take, length-drop}
use Rattle.std.proofs.lemmas.List.{take_all, take_more, length-replicate, take-append-drop, append-nil}
use Rattle.ode_host.specs.declared.call.Call.{Call}
use Rattle.ode_host.specs.declared.call.Call.TheVariants.{Write, Sync, Begin, End}
use Rattle.ode_host.specs.declared.stop.Torn.{Torn}
use Rattle.ode_host.specs.declared.stop.Torn.TheVariants.{Nothing, Whole, Front, Fill}
use Rattle.ode_host.specs.Disk.{MayHold}
use Rattle.ode_host.specs.Host.{Torn as IsTorn, written_over}
use Rattle.ode_host.specs.MemLaws.{after_all}
use Rattle.ode_host.specs.Pending.{IsLastSync, Tears}
use Rattle.ode_host.specs.Replay.{HostState, step, after, first, disk_after, Leaves, LeftAt, IsTape}
use Rattle.ode_host.specs.Tears.{torn_over, torn_behind, torn_image, pending_bytes}
use Rattle.ode_host.specs.Writing.{written-torn, torn_outside}
use Rattle.ode_host.proofs.Moments.{torn-same}
use Rattle.ode_host.proofs.Taping.{after-append}

-- the state after one call more
pub after_next : (calls : List Call) (i : ℕ) (call : Call) (s : HostState) → i < length calls → get_or calls i End ≡ call → after (take (i + 1) calls) s ≡ step (after (take i calls) s) call
after_next calls i call s within is =
    ap (λ (l : List Call). after l s) (take_more calls i End within ∙ ap (λ (c : Call). take i calls ++ c ∷ []) is)
    ∙ after-append (take i calls) (call ∷ []) s

-- a write of fewer bytes is one of the torn writes of more
torn_wider : (at m n : ℕ) (old new : List ℕ) → m ≤ n → IsTorn at m old new → IsTorn at n old new
torn_wider at m n old new le torn = record {
  before = torn.before;
  after = torn_outside at m (at + n) old new (omega arith) torn;
  no_shorter = torn.no_shorter;
  no_longer = omega (arith, le, torn.no_longer);
}

-- what stays of a write is one of what a stop may leave of it
torn_allowed : (torn : Torn) (image : List ℕ) (at : ℕ) (bytes : List ℕ) → IsTorn at (length bytes) image (torn_over torn image (at, bytes))
torn_allowed Nothing image at bytes = torn-same at (length bytes) image
torn_allowed Whole image at bytes = written-torn at bytes image
torn_allowed (Front n) image at bytes =
    let wrote = written_over image at (take n bytes) in
    elim (nat_lt 0 n) as (λ is_some. IsTorn at (length bytes) image (if is_some then wrote else image)) [
      | true ↦ torn_wider at (length (take n bytes)) (length bytes) image wrote (omega (arith, length-take n bytes)) (written-torn at (take n bytes) image)
      | false ↦ torn-same at (length bytes) image
    ]
torn_allowed (Fill byte) image at bytes =
    torn_wider at (length (replicate (length bytes) byte)) (length bytes) image (written_over image at (replicate (length bytes) byte)) (omega (arith, length-replicate {A = ℕ} (length bytes) byte)) (written-torn at (replicate (length bytes) byte) image)

-- so is what stays of all that are pending
pub torn_held : (torn : Torn) (synced : List ℕ) (pending : List (ℕ × List ℕ)) → MayHold synced pending (torn_image torn synced pending)
torn_held torn synced [] = refl
torn_held torn synced (write ∷ pending) =
    (torn_image torn synced pending, torn_held torn synced pending, torn_allowed (torn_behind torn (pending_bytes pending)) (torn_image torn synced pending) write.0 write.1)

-- behind some bytes and some more
torn_behind-torn_behind : (torn : Torn) (m n : ℕ) → torn_behind (torn_behind torn m) n ≡ torn_behind torn (m + n)
torn_behind-torn_behind Nothing m n = refl
torn_behind-torn_behind Whole m n = refl
torn_behind-torn_behind (Front k) m n = ap Front (omega arith)
torn_behind-torn_behind (Fill byte) m n = refl

-- one call more is torn
abbrev pub IsTornBy : Torn → HostState → Torn → List ℕ → Type 0
IsTornBy torn s rest held = (held ≡ torn_image torn s.disk.synced s.disk.pending) × (rest ≡ torn_behind torn (pending_bytes s.disk.pending))

pub torn_next : (torn rest next : Torn) (s : HostState) (call : Call) (old new : List ℕ) → call ≢ Sync → IsTornBy torn s rest old → Tears call rest next old new → IsTornBy torn (step s call) next new
torn_next torn rest next s (Write at bytes) old new quiet is tears = (
  tears.0 ∙ ap (λ (l : List ℕ). torn_over rest l (at, bytes.items)) is.0 ∙ ap (λ (t : Torn). torn_over t (torn_image torn s.disk.synced s.disk.pending) (at, bytes.items)) is.1,
  tears.1 ∙ ap (λ (t : Torn). torn_behind t (length bytes.items)) is.1 ∙ torn_behind-torn_behind torn (pending_bytes s.disk.pending) (length bytes.items),
)
torn_next torn rest next s Sync old new quiet is tears = absurd (quiet refl)
torn_next torn rest next s (Begin piece) old new quiet is tears = (tears.0 ∙ is.0, tears.1 ∙ is.1)
torn_next torn rest next s End old new quiet is tears = (tears.0 ∙ is.0, tears.1 ∙ is.1)

-- just behind the last sync nothing is pending
pub last_settled : (start : List ℕ) (calls : List Call) (last : ℕ) → IsLastSync last calls
    → ((disk_after start (take last calls)).pending ≡ []) × ((disk_after start (take last calls)).synced ≡ (disk_after start (take last calls)).image)
last_settled start calls zero is = (refl, refl)
last_settled start calls (suc k) is =
    let here : get_or calls k End ≡ Sync = ap (λ (n : ℕ). get_or calls n End) (let e : k ≡ suc k - 1 = omega arith in e) ∙ is.behind (omega arith) in
    let now = ap (λ (n : ℕ). after (take n calls) (first start)) (let e : suc k ≡ k + 1 = omega arith in e) ∙ after_next calls k Sync (first start) (omega (arith, is.within)) here in
    (ap (λ (s : HostState). s.disk.pending) now, ap (λ (s : HostState). s.disk.synced) now ∙ sym (ap (λ (s : HostState). s.disk.image) now))

-- the calls up to a place and those behind it
pub after_split : (calls : List Call) (place : ℕ) (s : HostState) → after (take (length calls - place) (drop place calls)) (after (take place calls) s) ≡ after calls s
after_split calls place s =
    ap (λ (l : List Call). after l (after (take place calls) s)) (take_all (length calls - place) (drop place calls) (omega (arith, length-drop place calls)))
    ∙ sym (after-append (take place calls) (drop place calls) s) ∙ ap (λ (l : List Call). after l s) (take-append-drop place calls)

-- what a plan leaves is one of what a stop may leave
pub torn_left : (torn : Torn) (start image text : List ℕ) (calls : List Call) → IsTape start image text calls
    → LeftAt start calls (length calls) (torn_image torn (disk_after start calls).synced (disk_after start calls).pending) text
torn_left torn start image text calls is =
    let s = after calls (first start) in
    let held = torn_image torn s.disk.synced s.disk.pending in
    let now : Leaves s held text = record { disk = torn_held torn s.disk.synced s.disk.pending; printed = (0, is.prints ∙ sym (append-nil s.text)) } in
    record { reached = omega arith; leaves = subst (λ (s : HostState). Leaves s held text) (sym (after_all start calls)) now }
