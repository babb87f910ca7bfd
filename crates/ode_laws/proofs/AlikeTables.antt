-- Worlds stay alike by other tables that are the same for all declared triggers.
use Rattle.std.proofs.Common.{◌≡◌, ◌≤◌, ℕ, List, [], ◌∷◌, Option, Some, None, refl, sym, ap, ◌∙◌, subst}
use Rattle.std.specs.List.{AllByRecursion, AllZip}
use Rattle.std.specs.Option.{option_map}
use Rattle.ode_value.specs.Classes.{Trigger, own_triggers, trigger_at, watch_of}
use Rattle.ode_value.specs.Firings.{watch_by}
use Rattle.ode_value.specs.GoodWorlds.{IsPast}
use Rattle.ode_value.specs.Language.{ListWorld}
use Rattle.ode_value.specs.Marks.{marks}
use Rattle.ode_value.specs.Objects.{Activation, Histories, Starts, view_of}
use Rattle.ode_value.specs.Pasts.{Kept, Watch}
use Rattle.ode_value.specs.Tables.{Table, Means, Stands}
use Rattle.ode_value.specs.TreeCount.{tree_count}
use Rattle.ode_value.specs.Worlds.{Declared, Object}
use Rattle.ode_codec.specs.Standing.{IsWhole, IsTableOf, HasTables, ArePasts}
use Rattle.ode_laws.specs.Alike.{NumberWorld, IsAlike, AgreesOn}
use Rattle.ode_laws.proofs.AlikeRows.{number_of, Sees, Stays, Object3, Pasts3, rows_of_pasts, pasts_of_rows}
use Rattle.ode_laws.proofs.Numbers.{all-at}
use Rattle.ode_laws.proofs.Rows.{id_of, rows_then}

-- what holds of two, of each
both_all : {X : Type 0} (P Q R : X → Type 0) → ((x : X) → P x → Q x → R x) → (xs : List X) → AllByRecursion P xs → AllByRecursion Q xs → AllByRecursion R xs
both_all P Q R then [] all more = tt
both_all P Q R then (x ∷ xs) all more = (then x all.0 more.0, both_all P Q R then xs all.1 more.1)

module _ (tables other : ℕ → ℕ → Table) (classes : List Declared) (agree : AllByRecursion (AgreesOn tables other) classes) where
  abbrev SameTable : Trigger → Type 0
  SameTable t = other t.class t.place ≡ tables t.class t.place

  table_is : (t : Trigger) → SameTable t → IsTableOf tables t → IsTableOf other t
  table_is t same is = record {
    whole = subst IsWhole (sym same) is.whole;
    small = subst (λ u. u.states ≤ tree_count t.decl.event) (sym same) is.small;
    means = subst (λ u. Means u t.decl.event) (sym same) is.means;
  }

  mean_by : AllByRecursion (HasTables tables) classes → AllByRecursion (HasTables other) classes
  mean_by mean =
      both_all (AgreesOn tables other) (HasTables tables) (HasTables other)
      (λ d same has. both_all SameTable (IsTableOf tables) (IsTableOf other) table_is (own_triggers d.class) same has) classes agree mean

  sees_by : (h : Histories) (a : Activation) (state : ℕ) (start : Starts) → Stays tables classes h a state start → Stays other classes h a state start
  sees_by h a state start s = by_trigger (trigger_at classes a.class a.trigger) refl s.sees where
    by_trigger : (o : Option Trigger) → trigger_at classes a.class a.trigger ≡ o → Sees tables classes h start state (option_map (λ t. watch_of t a.args) o) → Stays other classes h a state start
    by_trigger None e seen = absurd seen
    by_trigger (Some t) e seen =
        let same : other t.class t.place ≡ tables t.class t.place = all-at SameTable classes agree a.class a.trigger t e in
        record {
          within = s.within;
          sees =
              subst (λ o. Sees other classes h start state (option_map (λ u. watch_of u a.args) o)) (sym e)
              (subst (λ u. Stands u state t.decl.event (marks t.decl.event a.args (view_of t.decl.whole h start))) (sym same) seen);
        }

  pasts_by : (os : List Object) (ks : List (ℕ × Kept (Unit {0}) ℕ)) (ls : List (ℕ × Kept Histories Starts)) → Pasts3 tables classes os ks ls → Pasts3 other classes os ks ls
  pasts_by = rows_then id_of (Object3 tables classes) (Object3 other classes)
      (λ o k l rows. rows_then number_of (Stays tables classes l.own) (Stays other classes l.own) (λ a state start s. sees_by l.own a state start s) o.activations k.activations l.activations rows)

pub alike_by : (tables other : ℕ → ℕ → Table) (v : NumberWorld) (w : ListWorld) → IsAlike tables v w → AllByRecursion (AgreesOn tables other) w.bones.classes → IsAlike other v w
alike_by tables other v w alike agree =
    let parts : ArePasts other w.bones.classes w.bones.objects v.pasts w.pasts × AllZip IsPast w.bones.objects w.pasts =
    pasts_of_rows other w.bones.classes w.bones.objects v.pasts w.pasts
    (pasts_by tables other w.bones.classes agree w.bones.objects v.pasts w.pasts (rows_of_pasts tables w.bones.classes w.bones.objects v.pasts w.pasts alike.stands.pasts alike.stands.within)) in
    record {
      stands = record { bones = alike.stands.bones; mean = mean_by tables other w.bones.classes agree alike.stands.mean; pasts = parts.0; within = parts.1 };
      numbered = alike.numbered;
    }
