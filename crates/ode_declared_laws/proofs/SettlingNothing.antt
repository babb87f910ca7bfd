-- What the commit of nothing leaves of a good world: all of it, behind one more transaction.
use Rattle.std.proofs.Common.{◌≡◌, ℕ, ◌+◌, ◌==◌, Bool, true, false, cond, List, [], ◌∷◌, ◌++◌, Option, Some, None, refl, sym, ap, ◌∙◌, arith}
use Rattle.std.specs.Prelude.{◌||◌}
use Rattle.std.specs.List.{AllByRecursion, AllZip, cons_option, filter, filter_map, find, list_any}
use Rattle.std.specs.Option.{option_and_then, option_map}
use Rattle.std.proofs.lemmas.Bool.{eq-eqb}
use Rattle.std.proofs.lemmas.List.{append-nil}
use Rattle.ode_declared_laws.proofs.Settling.{all_there}
use Rattle.ode_laws.proofs.Rows.{find_rising, id_of, numbered_find}
use Rattle.ode_value.specs.Acts.{with_line}
use Rattle.ode_value.specs.Denoting.{if_live, object_at}
use Rattle.ode_value.specs.GoodWorlds.{IsGood, IsObject, IsPast, IsStart}
use Rattle.ode_value.specs.Keeping.{has_activation, kept_bones, kept_past, kept_row, kept_world}
use Rattle.ode_value.specs.Language.{Language, ListWorld}
use Rattle.ode_value.specs.Objects.{Activation, Histories, Starts}
use Rattle.ode_value.specs.Pasts.{Kept, lists}
use Rattle.ode_value.specs.Settling.{Settled, commit, posted}
use Rattle.ode_value.specs.Texts.{committed_line}
use Rattle.ode_value.specs.Transactions.{Script, begun}
use Rattle.ode_value.specs.Worlds.{Bones, Entry, Object}

-- an activation's number is among those of its object
either : (t u : Bool) → u ≡ true → (t || u) ≡ true
either true u is = refl
either false u is = is

kept_starts : (h : Histories) (o : Object) (acts : List Activation) (rows : List (ℕ × Starts)) → ((n : ℕ) → list_any (λ (a : Activation). a.number == n) acts ≡ true → has_activation o n ≡ true)
    → AllZip (IsStart h) acts rows → filter (λ (row : ℕ × Starts). has_activation o row.0) rows ≡ rows
kept_starts h o [] [] among zip = refl
kept_starts h o (a ∷ acts) (row ∷ rows) among zip =
    let here : has_activation o row.0 ≡ true =
    among row.0 (ap (λ (t : Bool). t || list_any (λ (b : Activation). b.number == row.0) acts) (eq-eqb a.number row.0 (sym zip.0.number))) in
    let rest : filter (λ (r : ℕ × Starts). has_activation o r.0) rows ≡ rows =
    kept_starts h o acts rows (λ n has. among n (either (a.number == n) (list_any (λ (b : Activation). b.number == n) acts) has)) zip.1 in
    ap (λ (t : Bool). cond t (row ∷ filter (λ (r : ℕ × Starts). has_activation o r.0) rows) (filter (λ (r : ℕ × Starts). has_activation o r.0) rows)) here
    ∙ ap (λ (rs : List (ℕ × Starts)). row ∷ rs) rest
kept_starts h o [] (row ∷ rows) among zip = absurd zip
kept_starts h o (a ∷ acts) [] among zip = absurd zip

all_at : (b : Bones) (os : List Object) → AllByRecursion (IsObject b) os → AllByRecursion (λ (o : Object). find (λ (q : Object). q.id == o.id) b.objects ≡ Some o) os
    → AllByRecursion (λ (o : Object). object_at b o.id ≡ Some o) os
all_at b [] live found = tt
all_at b (o ∷ os) live found = (
  ap (option_and_then if_live) (numbered_find o.id b.objects ∙ found.0) ∙ ap (λ (t : Bool). cond t (Some o) None) live.0.live,
  all_at b os live.1 found.1,
)

rows_stay : (b : Bones) (os : List Object) (rows : List (ℕ × Kept Histories Starts)) → AllByRecursion (λ (o : Object). object_at b o.id ≡ Some o) os → AllZip IsPast os rows → filter_map (kept_row b) rows ≡ rows
rows_stay b [] [] all zip = refl
rows_stay b (o ∷ os) (row ∷ rows) all zip =
    let there : object_at b row.0 ≡ Some o = ap (object_at b) zip.0.number ∙ all.0 in
    let starts : filter (λ (r : ℕ × Starts). has_activation o r.0) row.1.activations ≡ row.1.activations = kept_starts row.1.own o o.activations row.1.activations (λ n has. has) zip.0.starts in
    ap (λ (m : Option Object). cons_option (option_map (λ (p : Object). (row.0, kept_past row.1 p)) m) (filter_map (kept_row b) rows)) there
    ∙ ap (λ (acts : List (ℕ × Starts)). (row.0, record row.1 { activations = acts }) ∷ filter_map (kept_row b) rows) starts
    ∙ ap (λ (rest : List (ℕ × Kept Histories Starts)). row ∷ rest) (rows_stay b os rows all.1 zip.1)
rows_stay b [] (row ∷ rows) all zip = absurd zip
rows_stay b (o ∷ os) [] all zip = absurd zip

-- behind one more transaction
abbrev pub passed : ListWorld → ListWorld
passed v = record v { bones = record v.bones { transaction = v.bones.transaction + 1 } }

module _ (l : Language) (v : ListWorld) (good : IsGood l v) where
  bones_stay : kept_bones v.bones ≡ v.bones
  bones_stay = ap (λ (os : List Object). record v.bones { objects = os }) (all_there v.bones v.bones.objects good.bones.objects)

  pub world_stays : kept_world v ≡ v
  world_stays =
      ap (λ (b : Bones). record v { bones = b; pasts = filter_map (kept_row b) v.pasts }) bones_stay
      ∙ ap (λ (rows : List (ℕ × Kept Histories Starts)). record v { pasts = rows })
      (rows_stay v.bones v.bones.objects v.pasts (all_at v.bones v.bones.objects good.bones.objects (find_rising id_of 0 v.bones.objects good.bones.rising)) good.pasts)

  -- a world with its next transaction, with a queue and a next entry
  abbrev ended : ListWorld → List (ℕ × Entry) → ℕ → ListWorld
  ended w queue next = record w { bones = record w.bones { transaction = v.bones.transaction + 1; queue = queue; next_entry = next; clock = v.bones.clock } }

  abbrev printing : List ℕ → ListWorld → Settled Histories Starts
  printing text w = (w, text ++ committed_line v.bones.transaction)

  pub commits_nothing : (text : List ℕ) → commit lists (with_line text (begun Script v)) ≡ (passed v, text ++ committed_line v.bones.transaction)
  unfolding posted
  commits_nothing text =
      let same : v.bones.next_entry + 0 ≡ v.bones.next_entry = omega arith in
      ap (λ (w : ListWorld). printing text (ended (kept_world w) (v.bones.queue ++ []) (v.bones.next_entry + 0))) world_stays
      ∙ ap (λ (w : ListWorld). printing text (ended w (v.bones.queue ++ []) (v.bones.next_entry + 0))) world_stays
      ∙ ap (λ (queue : List (ℕ × Entry)). printing text (ended v queue (v.bones.next_entry + 0))) (append-nil v.bones.queue)
      ∙ ap (λ (next : ℕ). printing text (ended v v.bones.queue next)) same
