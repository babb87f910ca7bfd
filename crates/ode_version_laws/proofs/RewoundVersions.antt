-- Objects have versions behind an abort.
use Rattle.std.proofs.Common.{◌≡◌, ◌≤◌, ℕ, option_map, Option, Some, None, refl, sym, ap, subst, ◌∙◌, le_trans, le_of_eq}
use Rattle.std.specs.Option.{option_map_or}
use Rattle.ode_laws.proofs.Each.{all-then}
use Rattle.ode_laws.proofs.Rows.{numbered_id}
use Rattle.ode_laws.specs.Alike.{NumberTx}
use Rattle.ode_objects.specs.declared.object.Object.{Object}
use Rattle.ode_objects.specs.declared.tracked.First.{First}
use Rattle.ode_objects.specs.declared.tracked.First.TheVariants.{Same, Other, Absent}
use Rattle.ode_objects.specs.declared.tracked.Tracked.{Tracked}
use Rattle.ode_overlay.specs.Layers.{Layer, tracked_at}
use Rattle.ode_overlay_laws.specs.Standing.{IsIn, Stands, object_as}
use Rattle.ode_value.specs.Denoting.{object_numbered}
use Rattle.ode_value.specs.Keeping.{with_last}
use Rattle.ode_value.specs.Pasts.{numbers}
use Rattle.ode_value.specs.Settling.{aborted}
use Rattle.ode_value.specs.Tables.{Table}
use Rattle.ode_value.specs.Versions as versions
use Rattle.ode_value.specs.Worlds as worlds
use Rattle.ode_version_laws.proofs.RewoundRows.{numbered_left}
use Rattle.ode_version_laws.specs.Denoting.{HasVersions, HaveVersions}
use Rattle.ode_version_laws.specs.Remembering.{Remembers, WasFirst}

-- a later last number
later_has : (o : worlds.Object) (n : ℕ) → o.last ≤ n → HasVersions o → HasVersions (record o { last = n })
later_has o n more has = record {
  some = has.some;
  rising = has.rising;
  last = all-then (λ (v : versions.Version). v.number ≤ o.last) (λ (v : versions.Version). v.number ≤ n) (λ v below. le_trans below more) o.versions has.last;
}

module _ (tables : ℕ → ℕ → Table) (x : Layer) (y : NumberTx) (stands : Stands x y) (remembers : Remembers x.objects y.first) (have : HaveVersions y.first.bones) where
  abbrev last_now : worlds.Object → ℕ
  last_now o = option_map_or (λ (p : worlds.Object). p.last) (object_numbered o.id y.now.bones.objects) o.last

  now_at : (id : ℕ) (o p : worlds.Object) → o.id ≡ id → object_numbered id y.now.bones.objects ≡ Some p → last_now o ≡ p.last
  now_at id o p is now = ap (λ (f : Option worlds.Object). option_map_or (λ (q : worlds.Object). q.last) f o.last) (ap (λ (n : ℕ). object_numbered n y.now.bones.objects) is ∙ now)

  -- of an object of the first world
  tracked_rises : (id : ℕ) (o : worlds.Object) → o.id ≡ id → object_numbered id y.first.bones.objects ≡ Some o → (now : Object) (f : First) → IsIn y.now id now → WasFirst y.first id now f → o.last ≤ last_now o
  tracked_rises id o is first now Same at was =
      let there : object_numbered id y.first.bones.objects ≡ Some (object_as id now) = was.object in
      let same : o ≡ object_as id now = cc (there, first) in
      le_of_eq (ap (λ (p : worlds.Object). p.last) same ∙ sym (now_at id o (object_as id now) is at.object))
  tracked_rises id o is first now (Other p) at was =
      let there : object_numbered id y.first.bones.objects ≡ Some (object_as id p) = was.is.object in
      let same : o ≡ object_as id p = cc (there, first) in
      le_trans (le_of_eq (ap (λ (q : worlds.Object). q.last) same)) (le_trans was.last (le_of_eq (sym (now_at id o (object_as id now) is at.object))))
  tracked_rises id o is first now Absent at was = let none : object_numbered id y.first.bones.objects ≡ None = was.object in absurd (cc (none, first))

  last_rises : (id : ℕ) (o : worlds.Object) → object_numbered id y.first.bones.objects ≡ Some o → o.last ≤ last_now o
  last_rises id o first = by_tracked (tracked_at id x) refl where
    is : o.id ≡ id
    is = numbered_id id y.first.bones.objects o first

    by_tracked : (f : Option Tracked) → tracked_at id x ≡ f → o.last ≤ last_now o
    by_tracked (Some t) at = tracked_rises id o is first t.current t.first (stands.tracked id t at) (remembers.first id t at)
    by_tracked None at = le_of_eq (sym (now_at id o o is ((stands.others id at).object ∙ first)))

  pub rewound_versions : HaveVersions (aborted (numbers tables) y).now.bones
  rewound_versions id q is = by_first (object_numbered id y.first.bones.objects) refl (sym (numbered_left id y.now.bones y.first.bones.objects) ∙ is) where
    by_first : (f : Option worlds.Object) → object_numbered id y.first.bones.objects ≡ f → option_map (with_last y.now.bones) f ≡ Some q → HasVersions q
    by_first None first left = absurd (cc)
    by_first (Some o) first left =
        let same : with_last y.now.bones o ≡ q = cc in
        subst HasVersions same (later_has o (last_now o) (last_rises id o first) (have id o first))
