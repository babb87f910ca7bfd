-- What an abort takes back, and what a point finds.
use Rattle.std.proofs.Common.{◌≡◌, ◌≤◌, ℕ, List, true, cond, Option, Some, None, Ok, Err, refl, sym, ap, subst, ◌∙◌, arith}
use Rattle.std.proofs.lemmas.Bool.Decides.{nat_tests}
use Rattle.std.specs.Prelude.{[], map, nat_le}
use Rattle.std.specs.BTreeMap.{is_at}
use Rattle.std.specs.Map.{lookup}
use Rattle.std.specs.Option.{option_and_then}
use Rattle.std.specs.Ordering.{nat_cmp}
use Rattle.ode_key_laws.proofs.NumberLaws.{fewer_held, more_held, no_more, rewound_numbers}
use Rattle.ode_key_laws.proofs.PlaceLaws.{none_more}
use Rattle.ode_key_laws.specs.Keys.{AreHeld, Grows, HoldsKeys, IsAtHand}
use Rattle.ode_laws.specs.Alike.{NumberTx, NumberWorld}
use Rattle.ode_objects.specs.Objects.{activation_keys}
use Rattle.ode_objects.specs.Rewinding.{rewound, rewound_active, rewound_by, rewound_object}
use Rattle.ode_objects.specs.declared.object.Object.{Object}
use Rattle.ode_objects.specs.declared.tracked.First.{First}
use Rattle.ode_objects.specs.declared.tracked.First.TheVariants.{Same, Other, Absent}
use Rattle.ode_objects.specs.declared.tracked.Tracked.{Tracked}
use Rattle.ode_overlay.specs.Layers.{Layer, few, holding, is_touched, key_count, tracked_at}
use Rattle.ode_overlay.specs.Rewinding.{rewind, rewound_from}
use Rattle.ode_overlay.specs.declared.error.OverlayError.TheVariants.{TooManyChanges}
use Rattle.ode_overlay_laws.specs.Standing.{Stands, object_as}
use Rattle.ode_point_laws.specs.Points.{HoldsActivations}
use Rattle.ode_value.specs.Denoting.{object_numbered}
use Rattle.ode_value.specs.Limits.{change_limit}
use Rattle.ode_value.specs.Worlds as worlds
use Rattle.ode_value.specs.declared.class.Class.{Class}
use Rattle.ode_version_laws.proofs.TrackedMaps.{rewound_at}
use Rattle.ode_version_laws.specs.Remembering.{IsOutside, Remembers, WasFirst}

-- ---- an abort

module _ (first : NumberWorld) (classes : List Class) (x : Layer) (remembers : Remembers x.objects first) (holds : HoldsKeys first x) where
  abbrev now_of : ℕ → Tracked → Type 0
  now_of id u = AreHeld id x.keys u.current.activations

  now_by : (id : ℕ) (t u : Tracked) (f : First) → t.first ≡ f → is_touched id x ≡ true → tracked_at id x ≡ Some t → rewound_by classes t.current f ≡ Some u → now_of id u
  now_by id t u Same is touched found left = let one : record { first = Same; current = t.current } ≡ u = cc in subst (now_of id) one (holds.now id touched t found)
  now_by id t u (Other o) is touched found left =
      let one : record { first = Other o; current = rewound_object classes o t.current } ≡ u = cc in
      let acts = map (rewound_active classes t.current.activations) o.activations in
      subst (now_of id) one (more_held id x.keys o.activations acts [] (no_more o.activations acts (rewound_numbers classes t.current.activations o.activations))
      (fewer_held id x.keys o t.current (holds.grown id t found o is) (holds.now id touched t found)) tt)
  now_by id t u Absent is touched found left = absurd (cc)

  grown_by : (t u : Tracked) (f : First) → rewound_by classes t.current f ≡ Some u → (o : Object) → u.first ≡ Other o → Grows o u.current
  grown_by t u Same left o other =
      let one : record { first = Same; current = t.current } ≡ u = cc in absurd (let differs = ap (λ (v : Tracked). v.first) one ∙ other in cc differs)
  grown_by t u (Other q) left o other =
      let one : record { first = Other q; current = rewound_object classes q t.current } ≡ u = cc in
      let acts = map (rewound_active classes t.current.activations) q.activations in
      let both : Other q ≡ Other o = ap (λ (v : Tracked). v.first) one ∙ other in
      let same : q ≡ o = cc in
      subst (λ (v : Tracked). Grows o v.current) one
      (subst (λ (c : Object). Grows c (rewound_object classes q t.current)) same (record { more = []; is = no_more q.activations acts (rewound_numbers classes t.current.activations q.activations) }))
  grown_by t u Absent left o other = absurd (cc)

  gone_by : (id : ℕ) (t : Tracked) (f : First) → t.first ≡ f → tracked_at id x ≡ Some t → rewound_by classes t.current f ≡ None → IsOutside first id
  gone_by id t Same is found left = absurd (cc)
  gone_by id t (Other o) is found left = absurd (cc)
  gone_by id t Absent is found left = subst (WasFirst first id t.current) is (remembers.first id t found)

  -- by what was tracked
  by_back : (P : Tracked → Type 0) (id : ℕ) (u : Tracked) → ((t : Tracked) → tracked_at id x ≡ Some t → rewound classes t ≡ Some u → P u)
      → (f : Option Tracked) → tracked_at id x ≡ f → option_and_then (rewound classes) f ≡ Some u → P u
  by_back P id u each None found left = absurd (cc)
  by_back P id u each (Some t) found left = each t found left

  by_gone : (id : ℕ) → is_touched id x ≡ true → (f : Option Tracked) → tracked_at id x ≡ f → option_and_then (rewound classes) f ≡ None → IsOutside first id
  by_gone id touched None found left = holds.gone id touched found
  by_gone id touched (Some t) found left = gone_by id t t.first refl found left

  abbrev at : ℕ → Option Tracked
  at id = lookup (is_at (nat_cmp id)) (rewound_from classes [] x.objects)

  back_is : (id : ℕ) (f : Option Tracked) → at id ≡ f → option_and_then (rewound classes) (tracked_at id x) ≡ f
  back_is id f is = sym (rewound_at classes id x.objects remembers.rising) ∙ is

  pub rewind_holds : HoldsKeys first (rewind classes x)
  unfolding rewind
  rewind_holds = record {
    now = λ id touched u is. by_back (now_of id) id u (λ t found left. now_by id t u t.first refl touched found left) (tracked_at id x) refl (back_is id (Some u) is);
    grown = λ id u is o other. by_back (λ (v : Tracked). Grows o v.current) id u (λ t found left. grown_by t u t.first left o other) (tracked_at id x) refl (back_is id (Some u) is);
    gone = λ id touched is. by_gone id touched (tracked_at id x) refl (back_is id None is);
  }

-- ---- a point

is_most : (a b : ℕ) → a ≤ b → nat_le a b ≡ true
is_most a b most = grind (arith, nat_tests)

pub held_for_points : (x : Layer) (id : ℕ) (o : Object) → key_count x.keys x ≤ change_limit → AreHeld id x.keys o.activations → HoldsActivations id o x
unfolding holding
held_for_points x id o most held =
    ap (λ keys. few keys x) (none_more (activation_keys id o.activations) x.keys held) ∙ ap (λ b. cond b (Ok x.keys) (Err TooManyChanges)) (is_most (key_count x.keys x) change_limit most)

pub at_hand : (x : Layer) (y : NumberTx) (id : ℕ) (o : worlds.Object) → Stands x y → HoldsKeys y.first x → key_count x.keys x ≤ change_limit → is_touched id x ≡ true
    → object_numbered id y.now.bones.objects ≡ Some o → IsAtHand x id o
at_hand x y id o stands holds most touched there = by_tracked (tracked_at id x) refl where
  by_tracked : (f : Option Tracked) → tracked_at id x ≡ f → IsAtHand x id o
  by_tracked None found =
      let gone = (holds.gone id touched found).object in
      let same = (stands.others id found).object in
      absurd (let differs = sym there ∙ same ∙ gone in cc differs)
  by_tracked (Some t) found =
      let is = (stands.tracked id t found).object in
      let both : Some (object_as id t.current) ≡ Some o = sym is ∙ there in
      let same : object_as id t.current ≡ o = cc in
      record { tracked = t; found = found; same = same; keys = held_for_points x id t.current most (holds.now id touched t found) }
