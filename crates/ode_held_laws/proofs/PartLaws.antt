-- The versions and the activations of an object are read whole.
use Rattle.std.proofs.Common.{◌≡◌, ◌==◌, ◌≤◌, ℕ, List, [], ◌∷◌, ◌++◌, Bool, true, cond, map, Option, Some, None, refl, sym, ap, ◌∙◌, append_assoc, append-nil, arith}
use Rattle.std.proofs.lemmas.Bool.Decides.{nat_tests}
use Rattle.std.specs.Prelude.{nat_le}
use Rattle.std.specs.List.{AllByRecursion, find}
use Rattle.ode_heap.specs.Answering.{stamped_of, with_state}
use Rattle.ode_heap.specs.Answers.{Found, ◌>>=◌}
use Rattle.ode_heap.specs.Answers.{There, Broken}
use Rattle.ode_heap.specs.declared.fields.Stamped.{Stamped}
use Rattle.ode_keep.specs.Entries.{Entries}
use Rattle.ode_laws.proofs.Rows.{find_rising}
use Rattle.ode_laws.specs.Alike.{NumberWorld}
use Rattle.ode_objects.specs.Loading.{active_read, actives_from, stamped_fields, version_read, versions_from}
use Rattle.ode_objects.specs.Values.{are_args}
use Rattle.ode_objects.specs.declared.object.Active.{Active}
use Rattle.ode_objects.specs.declared.object.Version as objects
use Rattle.ode_overlay_laws.specs.Standing.{active_as, version_as}
use Rattle.ode_value.specs.Classes.{Trigger}
use Rattle.ode_value.specs.Fitting.{HaveTrigger, trigger_in}
use Rattle.ode_value.specs.GoodWorlds.{IsActivation, RiseFrom}
use Rattle.ode_value.specs.Keys.{activation_key}
use Rattle.ode_value.specs.Lengths.{values_length}
use Rattle.ode_value.specs.Limits.{args_limit}
use Rattle.ode_value.specs.Objects.{Activation}
use Rattle.ode_value.specs.Versions.{Version, version_numbered}
use Rattle.ode_value.specs.Worlds.{Bones}
use Rattle.ode_value.specs.declared.class.Class.{Class}
use Rattle.ode_value.specs.declared.value.Value.{Value}
use Rattle.ode_versions.specs.Versions.{listed}

-- ---- versions

abbrev pub read_version : Version → objects.Version
read_version v = version_read (listed v) (stamped_of v)

-- its fields and its stamp are found by its number
abbrev pub IsFoundIn : Entries → ℕ → Class → Version → Type 0
IsFoundIn base id class v = stamped_fields base id v.number class ≡ There (stamped_of v)

pub versions_read : (base : Entries) (id : ℕ) (class : Class) (done : List objects.Version) (vs : List Version) → AllByRecursion (IsFoundIn base id class) vs
    → versions_from base id class done (map listed vs) ≡ There (done ++ map read_version vs)
versions_read base id class done [] all = ap (λ (us : List objects.Version). There us) (sym (append-nil done))
versions_read base id class done (v ∷ vs) all =
    ap (λ (f : Found Stamped). f >>= λ s. versions_from base id class (done ++ version_read (listed v) s ∷ []) (map listed vs)) all.0
    ∙ versions_read base id class (done ++ read_version v ∷ []) vs all.1
    ∙ ap (λ (us : List objects.Version). There us) (append_assoc done (read_version v ∷ []) (map read_version vs))

pub versions_again : (vs : List Version) → map version_as (map read_version vs) ≡ vs
versions_again [] = refl
versions_again (v ∷ vs) = ap (λ (us : List Version). v ∷ us) (versions_again vs)

numbered_find : (n : ℕ) (vs : List Version) → version_numbered n vs ≡ find (λ (v : Version). v.number == n) vs
numbered_find n [] = refl
numbered_find n (v ∷ vs) = ap (λ (rest : Option Version). cond (v.number == n) (Some v) rest) (numbered_find n vs)

-- versions whose numbers rise are found by them
pub numbered_each : (vs : List Version) → RiseFrom 0 (map (λ (v : Version). v.number) vs) → AllByRecursion (λ v. version_numbered v.number vs ≡ Some v) vs
numbered_each vs rising = each vs (find_rising (λ (v : Version). v.number) 0 vs rising) where
  each : (us : List Version) → AllByRecursion (λ u. find (λ (v : Version). v.number == u.number) vs ≡ Some u) us → AllByRecursion (λ u. version_numbered u.number vs ≡ Some u) us
  each [] all = tt
  each (u ∷ us) all = (numbered_find u.number vs ∙ all.0, each us all.1)

-- ---- activations

is_most : (a b : ℕ) → a ≤ b → nat_le a b ≡ true
is_most a b most = grind (arith, nat_tests)

short_args : (b : Bones) (args : List Value) (t : Option Trigger) → HaveTrigger b args t → values_length args ≤ args_limit
short_args b args None have = absurd have
short_args b args (Some t) have = have.short

-- a record has room for the arguments of one that fits
pub args_fit : (b : Bones) (class : ℕ) (a : Activation) → IsActivation b class a → are_args a.args ≡ true
unfolding are_args
args_fit b class a is = is_most (values_length a.args) args_limit (short_args b a.args (trigger_in b.classes class a) is.trigger)

module _ (w : NumberWorld) (id : ℕ) where
  abbrev pub read_active : Activation → Active
  read_active a = active_read (with_state w id a)

  pub actives_read : (done : List Active) (acts : List Activation) → AllByRecursion (λ (a : Activation). are_args a.args ≡ true) acts
      → actives_from done (map (with_state w id) acts) ≡ There (done ++ map read_active acts)
  actives_read done [] all = ap (λ (bs : List Active). There bs) (sym (append-nil done))
  actives_read done (a ∷ acts) all =
      ap (λ (b : Bool). (cond b (There (read_active a)) (Broken (activation_key id a.number))) >>= λ c. actives_from (done ++ c ∷ []) (map (with_state w id) acts)) all.0
      ∙ actives_read (done ++ read_active a ∷ []) acts all.1
      ∙ ap (λ (bs : List Active). There bs) (append_assoc done (read_active a ∷ []) (map read_active acts))

  pub actives_again : (acts : List Activation) → AllByRecursion (λ (a : Activation). a.on ≡ true) acts → map active_as (map read_active acts) ≡ acts
  actives_again [] all = refl
  actives_again (a ∷ acts) all =
      ap (λ on. record { number = a.number; class = a.class; trigger = a.trigger; args = a.args; on = on } ∷ map active_as (map read_active acts)) (sym all.0)
      ∙ ap (λ (bs : List Activation). a ∷ bs) (actives_again acts all.1)
