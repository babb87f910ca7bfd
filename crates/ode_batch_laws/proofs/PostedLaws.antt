-- What the last points of a transaction leave as it was.
use Rattle.std.proofs.Common.{◌≡◌, ℕ, ◌<◌, ◌≤◌, true, List, [], ◌∷◌, map, Option, Some, None, refl, sym, ap, subst, ◌∙◌, arith}
use Rattle.ode_batch_laws.proofs.BatchLaws.{batch_holds}
use Rattle.ode_codec.specs.Standing.{HoldsWorld, StandsAs}
use Rattle.ode_commit_laws.proofs.CleanLast.{posted_same}
use Rattle.ode_keep.specs.Entries.{Changes, Entries, HasRisingKeys, applied, value_under}
use Rattle.ode_laws.proofs.Each.{all-map, all-then}
use Rattle.ode_laws.proofs.Rows.{id_of}
use Rattle.ode_laws.proofs.SideSettling.{Settlings, posted_related}
use Rattle.ode_laws.proofs.Sides.{EndsBy, same_self}
use Rattle.ode_laws.specs.Alike.{NumberTx, RunsAs, SettledAs}
use Rattle.ode_laws.specs.Numbered.{AreNumbered, HasNumbers}
use Rattle.ode_overlay.specs.After.{stands_after}
use Rattle.ode_overlay.specs.Layers.{Layer}
use Rattle.ode_overlay_laws.specs.Standing.{Stands}
use Rattle.ode_settling_laws.specs.Formed.{IsFormed}
use Rattle.ode_value.specs.Acts.{Act, found, go_on, with_line}
use Rattle.ode_value.specs.Acts.{◌>>=◌, ◌>>◌, gives, reads, turns}
use Rattle.ode_value.specs.Changes.{alters_object}
use Rattle.ode_value.specs.Denoting.{object_at}
use Rattle.ode_value.specs.Firings.{Place, arises, both_lists, fired, new_point, object_after, whole_list, with_point}
use Rattle.ode_value.specs.GoodWorlds.{IsGood, RiseFrom}
use Rattle.ode_value.specs.Keeping.{with_last}
use Rattle.ode_value.specs.Language.{Language, ListTx, ListWorld}
use Rattle.ode_value.specs.Objects.{Activation}
use Rattle.ode_value.specs.Pasts.{Past, lists, numbers}
use Rattle.ode_value.specs.Posting.{with_entry}
use Rattle.ode_value.specs.Settling.{Settled, abort, aborted, commit, posted, settled}
use Rattle.ode_value.specs.Tables.{Table}
use Rattle.ode_value.specs.Texts.{committed_line}
use Rattle.ode_value.specs.Transactions.{Firing, Tx, footed}
use Rattle.ode_value.specs.Worlds.{Bones, Declared, Object, World}
use Rattle.ode_value.specs.declared.event.Kind.{Kind}
use Rattle.ode_value.specs.declared.event.Kind.TheVariants.{TAbort, TCommit}
use Rattle.ode_value.specs.declared.key.Key.{Key}
use Rattle.ode_value.specs.declared.reason.Reason.{Reason}

-- ---- the first world and the classes

module _ {O A : Type 0} (past : Past O A) (place : Place O A) (cs : List Declared) (first : World O A) where
  -- it has these classes and began with this world
  abbrev Stays : Tx O A → Type 0
  Stays x = (x.now.bones.classes ≡ cs) × (x.first ≡ first)

  abbrev Alone : Tx O A → Tx O A → Type 0
  Alone y x = (y ≡ x) × Stays x

  abbrev pointing : ℕ → Kind → Object → Act O A (List Firing)
  pointing id kind o =
      turns (with_point past place (new_point kind [] o) o) >> (reads (λ z. fired past place o z.now) >>= λ firings. alters_object id (object_after firings) >> gives firings)

  point_stays : (x : Tx O A) (id : ℕ) (kind : Kind) → Stays x → EndsBy Alone Alone (arises past place id kind [] x) (arises past place id kind [] x)
  point_stays x id kind is = by_found (object_at x.now.bones id) where
    by_found : (a : Option Object) → EndsBy Alone Alone (go_on (found a x) (pointing id kind)) (go_on (found a x) (pointing id kind))
    by_found (Some o) = (refl, (refl, is))
    by_found None = (refl, (refl, is))

  abbrev staying : Settlings O A O A
  staying = record {
    past = past;
    other = past;
    classes = cs;
    place = place;
    other_place = place;
    Related = Alone;
    same = λ y x r. same_self cs y x r.0 r.1.0;
    foot = λ y x change r. (ap (footed change) r.0, r.1);
    line = λ y x line r. (ap (with_line line) r.0, r.1);
    collect = λ y x f r room. (ap (with_entry true f) r.0, r.1);
    point = λ y x id kind r. subst (λ z. EndsBy Alone Alone (arises past place id kind [] z) (arises past place id kind [] x)) (sym r.0) (point_stays x id kind r.1);
  }

  pub posted_stays : (kind : Kind) (x : Tx O A) → Stays x → Stays (posted past place kind x)
  posted_stays kind x is = (posted_related staying kind x x (refl, is)).1

-- and its parts have numbers
pub posted_numbered : {O A : Type 0} (past : Past O A) (place : Place O A) (kind : Kind) (x : Tx O A) → AreNumbered x.now.bones → AreNumbered (posted past place kind x).now.bones
posted_numbered past place kind x numbered = (posted_same past place kind x x (record { same = refl; numbered = numbered; numbered_too = numbered })).numbered

-- ---- the world that an abort leaves

last_ids : (now : Bones) (os : List Object) → map id_of (map (with_last now) os) ≡ map id_of os
last_ids now [] = refl
last_ids now (o ∷ os) = ap (λ ns. o.id ∷ ns) (last_ids now os)

rewound_numbered : (next : ℕ) (first now : Bones) → first.next ≤ next → AreNumbered first → AreNumbered (record first { next = next; objects = map (with_last now) first.objects })
rewound_numbered next first now most numbered = record {
  classes = numbered.classes;
  rising = subst (RiseFrom 0) (sym (last_ids now first.objects)) numbered.rising;
  objects = all-map (HasNumbers next) (with_last now) first.objects
      (all-then (HasNumbers first.next) (λ o. HasNumbers next (with_last now o)) (λ o its. record {
        drawn = let here : o.id < first.next = its.drawn in omega arith;
        rising = its.rising;
        activations = all-then (λ (a : Activation). a.number < first.next) (λ (a : Activation). a.number < next) (λ a below. omega arith) o.activations its.activations;
      }) first.objects numbered.objects);
}

-- ---- both ends

module _ (l : Language) (base : Entries) (changes : Changes) (v : ListWorld) (x : Layer) (y : NumberTx) (t : ListTx) (held : HoldsWorld l base v) (rising : HasRisingKeys base)
    (first : y.first ≡ held.stored.world) (runs : RunsAs held.stored.tables y t) (formed : IsFormed held.stored.world.bones.classes base x) (made : (q : Key) → value_under (applied changes base) q ≡ stands_after x base q) where
  abbrev tables : ℕ → ℕ → Table
  tables = held.stored.tables

  now_numbered : AreNumbered y.now.bones
  now_numbered = subst AreNumbered (sym runs.now.stands.bones) runs.now.numbered

  first_numbered : AreNumbered y.first.bones
  first_numbered = subst AreNumbered (sym runs.first.stands.bones) runs.first.numbered

  same_classes : y.now.bones.classes ≡ y.first.bones.classes
  same_classes = ap (λ (b : Bones). b.classes) runs.now.stands.bones ∙ runs.classes ∙ sym (ap (λ (b : Bones). b.classes) runs.first.stands.bones)

  drawn : y.first.bones.next ≤ y.now.bones.next
  drawn = subst (λ (b : Bones). b.next ≤ y.now.bones.next) (sym runs.first.stands.bones) (subst (λ (b : Bones). t.first.bones.next ≤ b.next) (sym runs.now.stands.bones) runs.next)

  pub committed_holds : Stands x (posted (numbers tables) (both_lists (numbers tables)) TCommit y) → SettledAs tables (commit (numbers tables) y) (commit lists t)
      → commit (numbers tables) y ≡ settled (numbers tables) (both_lists (numbers tables)) TCommit (committed_line y.first.bones.transaction) y
      → IsGood l (commit lists t).0 → (after : HoldsWorld l (applied changes base) (commit lists t).0) × (after.stored.tables ≡ held.stored.tables)
  committed_holds stands alike last good =
      let z = posted (numbers tables) (both_lists (numbers tables)) TCommit y in
      let stays = posted_stays (numbers tables) (both_lists (numbers tables)) y.first.bones.classes y.first TCommit y (same_classes, refl) in
      batch_holds l base changes v (commit lists t).0 x z held rising (stays.1 ∙ first) stands (posted_numbered (numbers tables) (both_lists (numbers tables)) TCommit y now_numbered)
      (stays.0 ∙ sym (ap (λ (w : World (Unit {0}) ℕ). w.bones.classes) stays.1)) formed made
      (subst (λ (end : Settled (Unit {0}) ℕ). StandsAs tables end.0 (commit lists t).0) last alike.world.stands) good

  pub aborted_holds : (reason : Reason) → Stands x (posted (numbers tables) (whole_list (numbers tables)) TAbort (aborted (numbers tables) y))
      → SettledAs tables (abort (numbers tables) reason y) (abort lists reason t) → IsGood l (abort lists reason t).0
      → (after : HoldsWorld l (applied changes base) (abort lists reason t).0) × (after.stored.tables ≡ held.stored.tables)
  aborted_holds reason stands alike good =
      let z = posted (numbers tables) (whole_list (numbers tables)) TAbort (aborted (numbers tables) y) in
      let stays = posted_stays (numbers tables) (whole_list (numbers tables)) y.first.bones.classes y.first TAbort (aborted (numbers tables) y) (refl, refl) in
      batch_holds l base changes v (abort lists reason t).0 x z held rising (stays.1 ∙ first) stands
      (posted_numbered (numbers tables) (whole_list (numbers tables)) TAbort (aborted (numbers tables) y) (rewound_numbered y.now.bones.next y.first.bones y.now.bones drawn first_numbered))
      (stays.0 ∙ sym (ap (λ (w : World (Unit {0}) ℕ). w.bones.classes) stays.1)) formed made alike.world.stands good
