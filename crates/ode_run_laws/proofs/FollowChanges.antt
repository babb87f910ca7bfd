-- The world behind a change of a class follows the one before it: numbers stay.
use Rattle.std.proofs.Common.{ℕ, ◌+◌, ◌<◌, ◌≤◌, Bool, true, false, cond, List, map, length, refl, sym, subst, arith}
use Rattle.std.specs.Prelude.{nat_le}
use Rattle.std.specs.List.{AllByRecursion}
use Rattle.ode_value.specs.declared.change.Change.{Change}
use Rattle.ode_value.specs.declared.reason.Reason.TheVariants.{Output, Space}
use Rattle.ode_value.specs.Acts.{◌>>◌, go_on, does, needs, turns, with_line}
use Rattle.ode_value.specs.Changing.{changed_bones, changed_object, changed_place, changed_world, gets, literals_of, version_with}
use Rattle.ode_value.specs.Completing.{completes}
use Rattle.ode_value.specs.GoodWorlds.{RiseFrom}
use Rattle.ode_value.specs.Language.{ListWorld, ListTx}
use Rattle.ode_value.specs.Limits.{output_limit, weight_limit}
use Rattle.ode_value.specs.Pasts.{lists}
use Rattle.ode_value.specs.Settling.{settle, transaction}
use Rattle.ode_value.specs.Texts.{changed_line}
use Rattle.ode_value.specs.Transactions.{Script, begun}
use Rattle.ode_value.specs.Versions.{Version}
use Rattle.ode_value.specs.Weights.{weight}
use Rattle.ode_value.specs.Worlds.{Declared, Object, Bones}
use Rattle.ode_machine.specs.Stability.{FollowsObject}
use Rattle.ode_machine.specs.Works.{changes_class}
use Rattle.ode_laws.specs.Numbered.{HasNumbers}
use Rattle.ode_laws.proofs.Each.{all-map, all-then}
use Rattle.ode_laws.proofs.Rows.{id_of}
use Rattle.ode_laws.proofs.SideCompleting.{completes_alike}
use Rattle.ode_run_laws.specs.Orders.{HasVersions, IsOrdered}
use Rattle.ode_run_laws.proofs.FollowLaws.{Following, follows_by}
use Rattle.ode_run_laws.proofs.FollowSettling.{IsSettled, abort_follows, begun_follows, followed, settle_follows}
use Rattle.ode_run_laws.proofs.OrderlyLaws.{all_same, mapped_some, numbers_same, version_of_number}

-- ---- an object

module _ (b : Bones) (c : Change) where
  abbrev filled : Version → Version
  filled v = version_with (changed_place b c) (literals_of c) v

  abbrev changed : Object → Object
  changed o = changed_object b c o

  versions_stay : (o : Object) (P : ℕ → Type 0) → AllByRecursion (λ (v : Version). P v.number) o.versions → AllByRecursion (λ (v : Version). P v.number) (changed o).versions
  versions_stay o P all = by_class (gets b c o) where
    by_class : (t : Bool) → AllByRecursion (λ (v : Version). P v.number) (cond t (map filled o.versions) o.versions)
    by_class true = all_same version_of_number filled (λ v. refl) P o.versions all
    by_class false = all

  changed_some : (o : Object) → 0 < length o.versions → 0 < length (changed o).versions
  changed_some o some = by_class (gets b c o) where
    by_class : (t : Bool) → 0 < length (cond t (map filled o.versions) o.versions)
    by_class true = mapped_some filled o.versions some
    by_class false = some

  changed_rise : (o : Object) → RiseFrom 0 (map version_of_number o.versions) → RiseFrom 0 (map version_of_number (changed o).versions)
  changed_rise o rise = by_class (gets b c o) where
    by_class : (t : Bool) → RiseFrom 0 (map version_of_number (cond t (map filled o.versions) o.versions))
    by_class true = subst (RiseFrom 0) (sym (numbers_same version_of_number filled (λ v. refl) o.versions)) rise
    by_class false = rise

  changed_versions : (o : Object) → HasVersions o → HasVersions (changed o)
  changed_versions o h = record { some = changed_some o h.some; rising = changed_rise o h.rising; drawn = versions_stay o (λ n. n ≤ o.last) h.drawn }

  changed_numbers : (next : ℕ) (o : Object) → HasNumbers next o → HasNumbers next (changed o)
  changed_numbers next o h = record { drawn = h.drawn; rising = h.rising; activations = h.activations }

-- ---- the transaction

module _ (classes : List Declared) (c : Change) (w : ListWorld) (ordered : IsOrdered w.bones) where
  abbrev line : List ℕ
  line = changed_line c.class

  abbrev printed : ListTx
  printed = with_line line (begun Script w)

  abbrev turned_tx : ListTx
  turned_tx = record printed { now = changed_world lists classes c w }

  abbrev fits : ListTx → Bool
  fits x = nat_le (weight (changed_bones x.now.bones c classes)) weight_limit

  abbrev Held : ListTx → Type 0
  Held x = Following w.bones lists ordered.numbered.objects 0 x

  begun_held : Held (begun Script w)
  begun_held = begun_follows lists w.bones ordered 0 Script w refl

  printed_held : Held printed
  printed_held = record { first = begun_held.first; next = begun_held.next; objects = begun_held.objects; numbered = begun_held.numbered; versions = begun_held.versions }

  all_changed : (P : Object → Type 0) → ((o : Object) → P o → P (changed w.bones c o)) → AllByRecursion P w.bones.objects → AllByRecursion P (map (changed w.bones c) w.bones.objects)
  all_changed P stays all = all-map P (changed w.bones c) w.bones.objects (all-then P (λ o. P (changed w.bones c o)) stays w.bones.objects all)

  turned_held : Held turned_tx
  turned_held = record {
    first = begun_held.first;
    next = begun_held.next;
    objects = all_changed (FollowsObject w.bones)
        (λ o. follows_by w.bones o (changed w.bones c o) refl refl (omega arith) (λ P new all. versions_stay w.bones c o P all) (λ P new all. all)) begun_held.objects;
    numbered = record {
      classes = tt;
      rising = subst (RiseFrom 0) (sym (numbers_same id_of (changed w.bones c) (λ o. refl) w.bones.objects)) begun_held.numbered.rising;
      objects = all_changed (HasNumbers w.bones.next) (changed_numbers w.bones c w.bones.next) begun_held.numbered.objects;
    };
    versions = all_changed HasVersions (changed_versions w.bones c) begun_held.versions;
  }

  by_space : (b : Bool) → IsSettled w.bones (settle lists (go_on (go_on (needs Space (λ (x : ListTx). b) printed) (λ _. turns (changed_world lists classes c))) (λ _. completes lists))).0.bones
  by_space true =
      settle_follows lists w.bones ordered classes (completes lists turned_tx) (completes_alike (followed lists w.bones ordered classes) 0 turned_tx turned_tx (refl, refl, turned_held))
  by_space false = abort_follows lists w.bones ordered Space printed printed_held

  by_room : (b : Bool) → IsSettled w.bones (settle lists
      (go_on (go_on (go_on (needs Output (λ (x : ListTx). b) (begun Script w)) (λ _. does (with_line line))) (λ _. needs Space fits >> turns (changed_world lists classes c)))
      (λ _. completes lists))).0.bones
  by_room true = by_space (fits printed)
  by_room false = abort_follows lists w.bones ordered Output (begun Script w) begun_held

  pub change_settled : IsSettled w.bones (transaction lists Script (changes_class lists classes c) w).0.bones
  unfolding transaction
  change_settled = by_room (nat_le (length (begun Script w).text + length line) output_limit)
