-- What is known behind what an abort takes back.
use Rattle.std.proofs.Common.{◌≡◌, ◌<◌, ◌≤◌, ℕ, List, [], ◌∷◌, map, refl, sym, ap, subst, ◌∙◌, arith, le_refl}
use Rattle.ode_keep.specs.Entries.{Entries}
use Rattle.ode_key_laws.specs.Keys.{HoldsKeys}
use Rattle.ode_known_laws.proofs.KnownLaws.{goes_numbered}
use Rattle.ode_known_laws.specs.Knowing.{IsKnown, declared_in}
use Rattle.ode_laws.proofs.Each.{all-map, all-then}
use Rattle.ode_laws.specs.Alike.{NumberTx, NumberWorld}
use Rattle.ode_object_laws.specs.Objects.{HaveNumbers, HaveTriggers}
use Rattle.ode_overlay.specs.Layers.{Layer}
use Rattle.ode_overlay.specs.Rewinding.{rewind}
use Rattle.ode_overlay_laws.specs.Following.{Continues}
use Rattle.ode_overlay_laws.specs.Standing.{Stands}
use Rattle.ode_settling_laws.specs.Formed.{IsFormed}
use Rattle.ode_value.specs.GoodWorlds.{RiseFrom}
use Rattle.ode_value.specs.Keeping.{rewound_row, rewound_world, with_last}
use Rattle.ode_value.specs.Pasts.{Kept, numbers}
use Rattle.ode_value.specs.Settling.{aborted}
use Rattle.ode_value.specs.Tables.{Table}
use Rattle.ode_value.specs.Worlds.{Bones, Declared, Object}
use Rattle.ode_version_laws.specs.Denoting.{HaveVersions}
use Rattle.ode_version_laws.specs.Remembering.{Remembers}
use Rattle.ode_view_laws.proofs.DrawnLaws.{AreDrawn}
use Rattle.ode_view_laws.proofs.ShowLaws.{viewed_then}
use Rattle.ode_view_laws.specs.Ordering.{IsOrdered, number_of, row_number}
use Rattle.ode_view_laws.specs.Showing.{IsViewed}
use Rattle.ode_view_laws.specs.Viewing.{Beside, running, world_now}

-- ---- the order of what is left

same_ids : (now : Bones) (os : List Object) → map number_of (map (with_last now) os) ≡ map number_of os
same_ids now [] = refl
same_ids now (o ∷ os) = ap (λ (ns : List ℕ). o.id ∷ ns) (same_ids now os)

module _ (tables : ℕ → ℕ → Table) (first now : NumberWorld) where
  same_rows : (rows : List (ℕ × Kept (Unit {0}) ℕ)) → map row_number (map (rewound_row (numbers tables) first now) rows) ≡ map row_number rows
  same_rows [] = refl
  same_rows (row ∷ rows) = ap (λ (ns : List ℕ). row.0 ∷ ns) (same_rows rows)

  left_ordered : IsOrdered first → first.bones.next ≤ now.bones.next → IsOrdered (rewound_world (numbers tables) first now)
  left_ordered ordered up = record {
    rising = subst (RiseFrom 0) (sym (same_ids now.bones first.bones.objects)) ordered.rising;
    drawn =
        all-map (λ (o : Object). o.id < now.bones.next) (with_last now.bones) first.bones.objects
        (all-then (λ (o : Object). o.id < first.bones.next) (λ (o : Object). o.id < now.bones.next) (λ o less. let here : o.id < first.bones.next = less in omega (arith, up)) first.bones.objects ordered.drawn);
    rows = same_rows first.pasts ∙ ordered.rows ∙ sym (same_ids now.bones first.bones.objects);
  }

-- ---- its view

left_drawn : (x : Layer) (first : NumberWorld) → AreDrawn x → AreDrawn (rewind (declared_in first) x)
unfolding rewind
left_drawn x first drawn = drawn

module _ (tables : ℕ → ℕ → Table) (first : NumberWorld) (beside : Beside) (base : Entries) (x : Layer) (known : IsKnown base first x) where
  abbrev classes : List Declared
  classes = first.bones.classes

  abbrev y : NumberTx
  y = running classes first x beside

  abbrev left : Layer
  left = rewind (declared_in first) x

  left_continues : Continues y (aborted (numbers tables) y)
  unfolding world_now
  left_continues = record { first = refl; bones = refl; deferred = refl; text = refl; run = refl }

  pub more_drawn : y.first.bones.next ≤ y.now.bones.next
  unfolding world_now
  more_drawn = known.numbered.next

  pub left_viewed : Stands left (aborted (numbers tables) y) → (aborted (numbers tables) y ≡ running classes first left beside) × IsViewed first left
  left_viewed stands =
      viewed_then classes first beside x left (aborted (numbers tables) y) known.viewed (left_drawn x first known.viewed.touched) stands left_continues
      (left_ordered tables first y.now known.viewed.began more_drawn)

  next_left : (world_now classes first x).bones.next ≤ (world_now classes first left).bones.next
  unfolding world_now rewind
  next_left = le_refl x.next

  pub left_known : (aborted (numbers tables) y ≡ running classes first left beside) × IsViewed first left → Remembers left.objects first
      → HaveVersions (aborted (numbers tables) y).now.bones → HaveNumbers (aborted (numbers tables) y).now.bones
      → HaveTriggers classes (aborted (numbers tables) y).now.bones → IsFormed classes base left → HoldsKeys first left → IsKnown base first left
  left_known viewed remembers versions has triggers formed keys = record {
    held = known.held;
    viewed = viewed.1;
    remembers = remembers;
    versions = subst (λ (z : NumberTx). HaveVersions z.now.bones) viewed.0 versions;
    numbered = goes_numbered first x left known.numbered viewed.1 (subst (λ (z : NumberTx). HaveNumbers z.now.bones) viewed.0 has) next_left;
    formed = formed;
    keys = keys;
    triggers = subst (λ (z : NumberTx). HaveTriggers classes z.now.bones) viewed.0 triggers;
  }

-- by whatever classes the view is
pub left_by : (tables : ℕ → ℕ → Table) (all other : List Declared) (first : NumberWorld) (x : Layer) (beside : Beside)
    → aborted (numbers tables) (running all first x beside) ≡ aborted (numbers tables) (running other first x beside)
unfolding world_now
left_by tables all other first x beside = refl
