-- What objects were is remembered over changes.
use Rattle.std.proofs.Common.{◌≡◌, ◌≤◌, ℕ, List, [], Bool, true, false, cond, Option, Some, None, refl, sym, subst, ◌∙◌, le_trans}
use Rattle.std.proofs.lemmas.Cmp.{nat_cmp_total}
use Rattle.std.specs.BTreeMap.{insert_entry, is_at}
use Rattle.std.specs.List.Sorted.{IsStrictlySortedBy}
use Rattle.std.specs.Map.{lookup}
use Rattle.std.specs.Ordering.{nat_cmp}
use Rattle.ode_keep.proofs.Maps.{lookup_put, rising_put}
use Rattle.ode_laws.specs.Alike.{NumberWorld}
use Rattle.ode_objects.specs.Tracked.{as_first}
use Rattle.ode_objects.specs.declared.object.Object.{Object}
use Rattle.ode_objects.specs.declared.tracked.First.{First}
use Rattle.ode_objects.specs.declared.tracked.First.TheVariants.{Same, Other, Absent}
use Rattle.ode_objects.specs.declared.tracked.Tracked.{Tracked}
use Rattle.ode_overlay.specs.Changing.{either, now_tracked, put_new, put_now}
use Rattle.ode_overlay_laws.proofs.AlteredLaws.{at_same}
use Rattle.ode_version_laws.specs.Remembering.{IsKnown, NeverFalls, Remembers, WasFirst}

pub remembers_none : (w : NumberWorld) → Remembers [] w
unfolding IsStrictlySortedBy
remembers_none w = record { rising = tt; first = λ id t is. absurd (cc) }

module _ (w : NumberWorld) (objects : List (ℕ × Tracked)) (id : ℕ) (remembers : Remembers objects w) where
  -- one more, or another in its place
  pub remembers_put : (t : Tracked) → WasFirst w id t.current t.first → Remembers (insert_entry nat_cmp objects id t) w
  remembers_put t was = record {
    rising = rising_put nat_cmp_total id t objects remembers.rising;
    first = λ n u is. by_test n u (is_at (nat_cmp id) n) refl (sym (lookup_put nat_cmp_total id t n objects) ∙ is);
  }
    where
      by_test : (n : ℕ) (u : Tracked) (b : Bool) → is_at (nat_cmp id) n ≡ b → cond b (Some t) (lookup (is_at (nat_cmp n)) objects) ≡ Some u → WasFirst w n u.current u.first
      by_test n u true at e =
          let one : t ≡ u = cc in
          subst (λ m. WasFirst w m u.current u.first) (sym (at_same id n at)) (subst (λ (v : Tracked). WasFirst w id v.current v.first) one was)
      by_test n u false at e = remembers.first n u e

  -- a change leaves what was
  was_first : (now was : Object) (f : First) → was.last ≤ now.last → WasFirst w id was f → WasFirst w id now (as_first was f)
  was_first now was Same rises is = record { is = is; last = rises }
  was_first now was (Other o) rises is = record { is = is.is; last = le_trans is.last rises }
  was_first now was Absent rises is = is

  was_known : (now : Object) (f : Option Tracked) → NeverFalls f now → IsKnown w id f → let t = now_tracked now f in WasFirst w id t.current t.first
  was_known now None rises known = known
  was_known now (Some t) rises known = was_first now t.current t.first rises known

  pub remembers_changed : (new : Option Tracked) (now : Object) → let f = either new (lookup (is_at (nat_cmp id)) objects) in IsKnown w id f → NeverFalls f now → Remembers (put_now id new now objects) w
  remembers_changed new now known rises =
      remembers_put (now_tracked now (either new (lookup (is_at (nat_cmp id)) objects))) (was_known now (either new (lookup (is_at (nat_cmp id)) objects)) rises known)

  pub remembers_read : (new : Option Tracked) → IsKnown w id (either new (lookup (is_at (nat_cmp id)) objects)) → Remembers (put_new id new objects) w
  remembers_read None known = remembers
  remembers_read (Some t) known = remembers_put t known

pub changed_law : (w : NumberWorld) (objects : List (ℕ × Tracked)) (id : ℕ) (new : Option Tracked) (now : Object) → Remembers objects w
    → IsKnown w id (either new (lookup (is_at (nat_cmp id)) objects)) → NeverFalls (either new (lookup (is_at (nat_cmp id)) objects)) now → Remembers (put_now id new now objects) w
changed_law w objects id new now remembers known rises = remembers_changed w objects id remembers new now known rises

pub read_law : (w : NumberWorld) (objects : List (ℕ × Tracked)) (id : ℕ) (new : Option Tracked) → Remembers objects w
    → IsKnown w id (either new (lookup (is_at (nat_cmp id)) objects)) → Remembers (put_new id new objects) w
read_law w objects id new remembers known = remembers_read w objects id remembers new known
