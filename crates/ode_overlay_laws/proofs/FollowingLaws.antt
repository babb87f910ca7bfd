-- Acts that follow one another, in the overlay and in the machine.
use Rattle.std.proofs.Common.{◌≡◌, ℕ, List, ◌∷◌, ◌++◌, Bool, true, false, cond, length, Option, Some, None, Ok, Err, refl, sym, ap, subst, ◌∙◌, arith}
use Rattle.std.specs.Prelude.{◌&&◌, nat_le, is_some}
use Rattle.std.specs.List.{AllByRecursion, fold}
use Rattle.std.specs.Option.{option_and_then}
use Rattle.ode_codec.specs.declared.record.Counters.{Counters}
use Rattle.ode_laws.specs.Alike.{NumberTx}
use Rattle.ode_overlay.specs.Answers.{Answer, ◌>>=◌}
use Rattle.ode_overlay.specs.Changing as calls
use Rattle.ode_overlay.specs.Changing.{live_of}
use Rattle.ode_overlay.specs.Layers.{Layer, few, holding, key_count}
use Rattle.ode_overlay.specs.Objects.{Object, Tracked}
use Rattle.ode_overlay.specs.declared.error.OverlayError.{OverlayError}
use Rattle.ode_overlay.specs.declared.error.OverlayError.TheVariants.{NoObject, TooManyChanges}
use Rattle.ode_overlay_laws.proofs.AlteredLaws.{Has}
use Rattle.ode_overlay_laws.proofs.KeySets.{IsPart, all_between, counted_between}
use Rattle.ode_overlay_laws.specs.Following.{Follows, FollowsDrawing, on_live}
use Rattle.ode_overlay_laws.specs.Standing.{IsIn, Stands, last_keys, object_as}
use Rattle.ode_value.specs.Acts.{Act, Outcome, Done, Aborted, ◌>>◌, does, go_on, found, needs}
use Rattle.ode_value.specs.Changes as machine
use Rattle.ode_value.specs.Changes.{changes, draws_none, is_live, with_key}
use Rattle.ode_value.specs.Denoting.{if_live, object_at}
use Rattle.ode_value.specs.Keys.{counters_key}
use Rattle.ode_value.specs.Limits.{change_limit, value_limit}
use Rattle.ode_value.specs.Making.{stamp_now}
use Rattle.ode_value.specs.Transactions.{drawing}
use Rattle.ode_value.specs.Worlds as worlds
use Rattle.ode_value.specs.declared.key.Key.{Key}
use Rattle.ode_value.specs.declared.reason.Reason.TheVariants as reason

-- ---- an object that is there

gone : {R : Type 0} (y : NumberTx) (id : ℕ) (act : Act (Unit {0}) ℕ R) (b : Bool) → is_live id y ≡ b
    → on_live id act y ≡ cond b (act y) (Aborted (reason.NoObject id) y)
gone y id act true e = ap (λ b. go_on (cond b (Done tt y) (Aborted (reason.NoObject id) y)) (λ _. act)) e
gone y id act false e = ap (λ b. go_on (cond b (Done tt y) (Aborted (reason.NoObject id) y)) (λ _. act)) e

pub live_at : (y : NumberTx) (id : ℕ) (o : Object) → IsIn y.now id o → (b : Bool) → o.live ≡ b → object_at y.now.bones id ≡ cond b (Some (object_as id o)) None
live_at y id o at b e = ap (λ (q : Option worlds.Object). option_and_then if_live q) at.object ∙ ap (λ c. cond c (Some (object_as id o)) None) e

-- what goes on as another act does
pub as_well : {R S : Type 0} (y : NumberTx) (go : R → Act (Unit {0}) ℕ S) (answer : Answer (R × Layer)) (m n : Outcome (Unit {0}) ℕ S) → m ≡ n → Follows y go answer n → Follows y go answer m
as_well {R} {S} y go answer m n same follows = subst (λ (o : Outcome (Unit {0}) ℕ S). Follows y go answer o) (sym same) follows

pub as_drawing : {R S : Type 0} (y : NumberTx) (go : R → Act (Unit {0}) ℕ S) (answer : Answer (R × Layer)) (m n : Outcome (Unit {0}) ℕ S) → m ≡ n → FollowsDrawing y go answer n → FollowsDrawing y go answer m
as_drawing {R} {S} y go answer m n same follows = subst (λ (o : Outcome (Unit {0}) ℕ S). FollowsDrawing y go answer o) (sym same) follows

pub follows_live : {R S : Type 0} (y : NumberTx) (id : ℕ) (go : R → Act (Unit {0}) ℕ S) (act : Act (Unit {0}) ℕ S) (rest : Object → Answer (R × Layer)) (f : Option Tracked) → Has y id f
    → ((t : Tracked) → f ≡ Some t → IsIn y.now id t.current → t.current.live ≡ true → Follows y go (rest t.current) (act y))
    → Follows y go (live_of id f >>= rest) (on_live id act y)
follows_live {R} {S} y id go act rest None has next =
    (reason.NoObject id, (refl, gone y id act false (ap (λ (q : Option worlds.Object). is_some (option_and_then if_live q)) has)))
follows_live {R} {S} y id go act rest (Some t) has next = by_live t.current.live refl where
  by_live : (b : Bool) → t.current.live ≡ b → Follows y go (cond b (Ok t.current) (Err (NoObject id)) >>= rest) (on_live id act y)
  by_live true e = as_well y go (rest t.current) (on_live id act y) (act y) (gone y id act true (ap is_some (live_at y id t.current has true e))) (next t refl has e)
  by_live false e = (reason.NoObject id, (refl, gone y id act false (ap is_some (live_at y id t.current has false e))))

-- the same of a call that draws a number
pub draws_live : {R S : Type 0} (y : NumberTx) (id : ℕ) (go : R → Act (Unit {0}) ℕ S) (act : Act (Unit {0}) ℕ S) (rest : Object → Answer (R × Layer)) (f : Option Tracked) → Has y id f
    → ((t : Tracked) → f ≡ Some t → IsIn y.now id t.current → t.current.live ≡ true → FollowsDrawing y go (rest t.current) (act y))
    → FollowsDrawing y go (live_of id f >>= rest) (on_live id act y)
draws_live {R} {S} y id go act rest None has next =
    (reason.NoObject id, (refl, gone y id act false (ap (λ (q : Option worlds.Object). is_some (option_and_then if_live q)) has)))
draws_live {R} {S} y id go act rest (Some t) has next = by_live t.current.live refl where
  by_live : (b : Bool) → t.current.live ≡ b → FollowsDrawing y go (cond b (Ok t.current) (Err (NoObject id)) >>= rest) (on_live id act y)
  by_live true e = as_drawing y go (rest t.current) (on_live id act y) (act y) (gone y id act true (ap is_some (live_at y id t.current has true e))) (next t refl has e)
  by_live false e = (reason.NoObject id, (refl, gone y id act false (ap is_some (live_at y id t.current has false e))))

-- an act that finds its object
pub finds_object : {R : Type 0} (y : NumberTx) (id : ℕ) (q : worlds.Object) (next : worlds.Object → Act (Unit {0}) ℕ R) → object_at y.now.bones id ≡ Some q
    → go_on (machine.object id y) next ≡ next q y
finds_object y id q next is = ap (λ (r : Option worlds.Object). go_on (found r y) next) is

-- ---- fields that are kept

-- the stamp of what is made or set now is that of the overlay's counters
pub stamps_same : (x : Layer) (y : NumberTx) → Stands x y → stamp_now y.now.bones ≡ x.first.added
stamps_same x y stands = ap length stands.added ∙ sym (ap (λ (c : Counters). c.added) stands.counters)

-- what a test asks for comes first
pub asks_first : {A B : Type 0} (why : OverlayError) (b : Bool) (a : A) (next : A → Answer B) → (calls.needs why b >>= λ _. Ok a) >>= next ≡ calls.needs why b >>= λ _. next a
asks_first why true a next = refl
asks_first why false a next = refl

-- ---- keys that are held

-- a change whose size fits or doesn't, and what follows
abbrev pub tested : NumberTx → Bool → Outcome (Unit {0}) ℕ (Unit {0})
tested y b = cond b (Done tt y) (Aborted reason.Size y)

abbrev sized : {S : Type 0} → NumberTx → List Key → Act (Unit {0}) ℕ S → Bool → Outcome (Unit {0}) ℕ S
sized y ks act b =
    go_on (go_on (tested y b) (λ _. does (drawing false) >> (needs reason.Space (λ (z : NumberTx). draws_none.left z.now.bones) >> does (machine.holding ks)))) (λ _. act)

module _ (x : Layer) (y : NumberTx) (ks : List Key) (stands : Stands x y) (parts : AllByRecursion IsPart ks) where
  pub counts_same : machine.key_count (machine.holding ks y) ≡ key_count (fold with_key x.keys ks) x
  counts_same =
      let keys : fold with_key y.keys ks ≡ counters_key ∷ (fold with_key x.keys ks ++ last_keys x.origin) = ap (λ zs. fold with_key zs ks) stands.keys ∙ all_between x.origin ks parts x.keys in
      omega (arith, ap length keys, counted_between x.origin (fold with_key x.keys ks), stands.gathered)

  pub follows_changes : {R S : Type 0} (size : ℕ) (go : R → Act (Unit {0}) ℕ S) (rest : List Key → Answer (R × Layer)) (act : Act (Unit {0}) ℕ S) → nat_le size value_limit ≡ true
      → Follows y go (rest (fold with_key x.keys ks)) (act (machine.holding ks y))
      → Follows y go (holding ks x >>= rest) (go_on (changes ks size draws_none y) (λ _. act))
  unfolding holding
  follows_changes {R} {S} size go rest act short next =
      subst (λ s. Follows y go (few (fold with_key x.keys ks) x >>= rest) (sized y ks act s)) (sym test) (by_room (nat_le (key_count (fold with_key x.keys ks) x) change_limit)) where
        test : (nat_le size value_limit && nat_le (machine.key_count (machine.holding ks y)) change_limit) ≡ nat_le (key_count (fold with_key x.keys ks) x) change_limit
        test = ap (λ s. s && nat_le (machine.key_count (machine.holding ks y)) change_limit) short ∙ ap (λ n. nat_le n change_limit) counts_same

        by_room : (b : Bool) → Follows y go (cond b (Ok (fold with_key x.keys ks)) (Err TooManyChanges) >>= rest) (sized y ks act b)
        by_room true = next
        by_room false = (reason.Size, (refl, refl))
