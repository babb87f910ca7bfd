-- Transactions that agree on a footprint, with drawn numbers: statements keep them so.
use Rattle.std.proofs.Common.{◌≡◌, ℕ, suc, ◌+◌, ◌<◌, List, length, Some, refl, sym, ap, ◌∙◌, subst, arith}
use Rattle.std.specs.List.{AllByRecursion, fold}
use Rattle.ode_footprint_laws.proofs.AgreeLaws.{agree_collect, agree_defer, agree_foot, agree_hold, agree_line, agree_statement, agree_touch, agree_turned, agreeing, on_active, on_new}
use Rattle.ode_footprint_laws.proofs.DependsReading.{agreed_live}
use Rattle.ode_footprint_laws.proofs.KeyCounts.{active_more, all_held, drawn_more, two_more}
use Rattle.ode_footprint_laws.proofs.Meets.{AreKeysOf, Meets, Steady, active_keys, new_keys}
use Rattle.ode_footprint_laws.specs.Agreeing.{Agree}
use Rattle.ode_footprint_laws.specs.Fresh.{AreDrawn, IsDrawnKey}
use Rattle.ode_laws.proofs.AlikePairs.{IsGentle, active_numbered, all_found, gentle_numbered, new_numbered}
use Rattle.ode_laws.proofs.Each.{all-then}
use Rattle.ode_laws.proofs.Rows.{at_numbered}
use Rattle.ode_laws.proofs.Sides.{altered, turned}
use Rattle.ode_laws.specs.Numbered.{AreNumbered, HasNumbers}
use Rattle.ode_value.specs.declared.key.Key.{Key}
use Rattle.ode_value.specs.declared.value.Value.{Value}
use Rattle.ode_value.specs.Acts.{with_line, with_statement}
use Rattle.ode_value.specs.Changes.{holding, key_count, with_key}
use Rattle.ode_value.specs.Classes.{Trigger}
use Rattle.ode_value.specs.Denoting.{object_at}
use Rattle.ode_value.specs.Firings.{with_point}
use Rattle.ode_value.specs.Footprints.{Footprint}
use Rattle.ode_value.specs.Language.{ListTx}
use Rattle.ode_value.specs.Making.{with_active, with_new}
use Rattle.ode_value.specs.Pasts.{lists}
use Rattle.ode_value.specs.Posting.{with_deferred, with_entry}
use Rattle.ode_value.specs.Transactions.{footed, touching}
use Rattle.ode_value.specs.Worlds.{Bones, Object}

-- ---- one transaction

-- with the same bones and keys
pub same_drawn : (x z : ListTx) → z.now.bones ≡ x.now.bones → z.keys ≡ x.keys → AreDrawn x → AreDrawn z
same_drawn x z bones keys d = record {
  numbered = subst AreNumbered (sym bones) d.numbered;
  keys = subst (λ (b : Bones). AllByRecursion (IsDrawnKey b.next) z.keys) (sym bones) (subst (AllByRecursion (IsDrawnKey x.now.bones.next)) (sym keys) d.keys);
}

pub alter_drawn : (x : ListTx) (id : ℕ) (change : Object → Object) → IsGentle change → AreDrawn x → AreDrawn (altered id change x)
alter_drawn x id change gentle d = record { numbered = gentle_numbered id change gentle x.now.bones d.numbered; keys = d.keys }

pub hold_drawn : (x : ListTx) (id : ℕ) (o : Object) (keys : List Key) → object_at x.now.bones id ≡ Some o → AreKeysOf o keys → AreDrawn x → AreDrawn (holding keys x)
hold_drawn x id o keys there of d = record {
  numbered = d.numbered;
  keys =
      all_held (IsDrawnKey x.now.bones.next) keys x.keys d.keys
      (of x.now.bones.next (all_found (HasNumbers x.now.bones.next) id x.now.bones.objects d.numbered.objects o (at_numbered x.now.bones id o there)));
}

-- keys that were drawn, with one more number drawn and these keys of it
more_drawn : (x : ListTx) (keys : List Key) → AllByRecursion (IsDrawnKey (x.now.bones.next + 1)) keys → AreDrawn x → AllByRecursion (IsDrawnKey (x.now.bones.next + 1)) (fold with_key x.keys keys)
more_drawn x keys all d =
    all_held (IsDrawnKey (x.now.bones.next + 1)) keys x.keys
    (all-then (IsDrawnKey x.now.bones.next) (IsDrawnKey (x.now.bones.next + 1)) (drawn_more x.now.bones.next (x.now.bones.next + 1) (omega arith)) x.keys d.keys) all

-- whatever keys are held that are those of the next number
pub new_drawn : (x : ListTx) (next class : ℕ) (fields : List Value) → next ≡ x.now.bones.next → AreDrawn x → AreDrawn (turned (with_new lists class fields) (holding (new_keys next) x))
new_drawn x next class fields is d = record {
  numbered = new_numbered x.now.bones class fields d.numbered;
  keys = let below : next < x.now.bones.next + 1 = omega arith in more_drawn x (new_keys next) (below, (below, tt)) d;
}

pub active_drawn : (x : ListTx) (id next : ℕ) (t : Trigger) (args : List Value) → next ≡ x.now.bones.next → AreDrawn x → AreDrawn (turned (with_active lists id t args) (holding (active_keys id next) x))
active_drawn x id next t args is d = record {
  numbered = active_numbered x.now.bones id t args d.numbered;
  keys = let below : next < x.now.bones.next + 1 = omega arith in more_drawn x (active_keys id next) (below, tt) d;
}

-- ---- two that agree

module _ (f : Footprint) where
  abbrev pub Both : ListTx → ListTx → Type 0
  Both y x = Agree f y x × AreDrawn y × AreDrawn x

  abbrev pub meeting : Meets f
  meeting = record {
    Related = Both;
    agree = λ y x b. b.0;
    foot = λ y x change b. (agree_foot f y x change b.0, same_drawn y (footed change y) refl refl b.1, same_drawn x (footed change x) refl refl b.2);
    line = λ y x line b. (agree_line f y x line b.0, same_drawn y (with_line line y) refl refl b.1, same_drawn x (with_line line x) refl refl b.2);
    collect = λ y x independent g b queued.
        (agree_collect f y x independent g b.0, same_drawn y (with_entry independent g y) refl refl b.1, same_drawn x (with_entry independent g x) refl refl b.2);
    point = λ y x place id p o b among there.
        ((agreeing f).point y x place id p o b.0 among there, same_drawn y (turned (with_point lists place p o) y) refl refl b.1, same_drawn x (turned (with_point lists place p o) x) refl refl b.2);
    alter = λ y x id change b among gentle. ((agreeing f).alter y x id change b.0 among gentle, alter_drawn y id change gentle b.1, alter_drawn x id change gentle b.2);
  }

  pub new_count_same : (y x : ListTx) → Both y x → key_count (holding (new_keys y.now.bones.next) y) ≡ key_count (holding (new_keys x.now.bones.next) x)
  new_count_same y x b =
      ap (λ n. n + y.gathered) (two_more y.now.bones.next y.keys b.1.keys)
      ∙ ap (λ ks. suc (suc (length ks)) + y.gathered) b.0.keys
      ∙ ap (λ g. suc (suc (length x.keys)) + g) b.0.gathered
      ∙ sym (ap (λ n. n + x.gathered) (two_more x.now.bones.next x.keys b.2.keys))

  pub active_count_same : (y x : ListTx) (id : ℕ) → Both y x → key_count (holding (active_keys id y.now.bones.next) y) ≡ key_count (holding (active_keys id x.now.bones.next) x)
  active_count_same y x id b =
      ap (λ n. n + y.gathered) (active_more id y.now.bones.next y.keys b.1.keys)
      ∙ ap (λ ks. suc (length ks) + y.gathered) b.0.keys
      ∙ ap (λ g. suc (length x.keys) + g) b.0.gathered
      ∙ sym (ap (λ n. n + x.gathered) (active_more id x.now.bones.next x.keys b.2.keys))

  abbrev pub drawn : Steady f
  drawn = record {
    meets = meeting;
    statement = λ y x b. (agree_statement f y x b.0, same_drawn y (with_statement y) refl refl b.1, same_drawn x (with_statement x) refl refl b.2);
    touch = λ y x id b among. (agree_touch f y x id b.0, same_drawn y (touching id y) refl refl b.1, same_drawn x (touching id x) refl refl b.2);
    defer = λ y x g b. (agree_defer f y x g b.0, same_drawn y (with_deferred g y) refl refl b.1, same_drawn x (with_deferred g x) refl refl b.2);
    hold = λ y x id o keys b among there of.
        (agree_hold f y x keys b.0, hold_drawn y id o keys (agreed_live f y x b.0 id among ∙ there) of b.1, hold_drawn x id o keys there of b.2);
    new = λ y x class fields b drew among.
        let id = x.now.bones.next in (
          agree_turned f (holding (new_keys id) y) (holding (new_keys id) x) (with_new lists class fields) (with_new lists class fields) (agree_hold f y x (new_keys id) b.0) (on_new f y.now x.now class fields drew b.0.now),
          new_drawn y id class fields (sym (b.0.now.next drew)) b.1,
          new_drawn x id class fields refl b.2,
        );
    active = λ y x id t args b drew among.
        let number = x.now.bones.next in (
          agree_turned f (holding (active_keys id number) y) (holding (active_keys id number) x) (with_active lists id t args) (with_active lists id t args) (agree_hold f y x (active_keys id number) b.0) (on_active f y.now x.now id t args drew b.0.now),
          active_drawn y id number t args (sym (b.0.now.next drew)) b.1,
          active_drawn x id number t args refl b.2,
        );
    new_count = new_count_same;
    active_count = active_count_same;
  }
