-- Of records in the order of their kinds, those from one kind to another.
use Rattle.std.proofs.Common.{◌≡◌, ℕ, ◌<◌, ◌≤◌, ◌^◌, [], ◌∷◌, ◌++◌, true, false, cond, refl, ap, ◌∙◌, arith}
use Rattle.std.specs.List.{AllByRecursion}
use Rattle.std.proofs.lemmas.Bool.Decides.{nat_tests}
use Rattle.std.proofs.lemmas.List.{append-nil}
use Rattle.std.proofs.lemmas.List.Elements.{filter-append}
use Rattle.ode_keep.specs.Entries.{Entries}
use Rattle.ode_passes.specs.Walking.{is_from, within}
use Rattle.ode_value.specs.Keys.{activation_kind, entry_kind, key, object_kind, version_kind}
use Rattle.ode_value.specs.Records.{Row}
use Rattle.ode_value.specs.declared.key.Key.{Key}

-- a record of one of these kinds, whose numbers fit
pub record IsOf (low high : ℕ) (e : Row) : Type 0 where
  pub least : low ≤ e.0.kind
  pub most : e.0.kind ≤ high
  pub a : e.0.a < 2 ^ 64
  pub b : e.0.b < 2 ^ 64

abbrev pub AreOf : ℕ → ℕ → Entries → Type 0
AreOf low high es = AllByRecursion (IsOf low high) es

passes : (first last : ℕ) (k : Key) → first ≤ k.kind → k.kind ≤ last → k.a < 2 ^ 64 → k.b < 2 ^ 64 → is_from (key first 0 0) last k ≡ true
passes first last k low high a b = grind (arith, nat_tests)

before : (first last : ℕ) (k : Key) → k.kind < first → is_from (key first 0 0) last k ≡ false
before first last k low = grind (arith, nat_tests)

behind : (first last : ℕ) (k : Key) → last < k.kind → is_from (key first 0 0) last k ≡ false
behind first last k high = grind (arith, nat_tests)

module _ (first last low high : ℕ) where
  abbrev kept : Entries → Entries
  kept es = within first last es

  pub all_within : (es : Entries) → AreOf low high es → first ≤ low → high ≤ last → kept es ≡ es
  all_within [] all from upto = refl
  all_within (e ∷ es) all from upto =
      let least = all.0.least in
      let most = all.0.most in
      let is : is_from (key first 0 0) last e.0 ≡ true = passes first last e.0 (omega arith) (omega arith) all.0.a all.0.b in
      ap (λ b. cond b (e ∷ kept es) (kept es)) is ∙ ap (λ (more : Entries). e ∷ more) (all_within es all.1 from upto)

  pub none_below : (es : Entries) → AreOf low high es → high < first → kept es ≡ []
  none_below [] all less = refl
  none_below (e ∷ es) all less =
      let most = all.0.most in
      ap (λ b. cond b (e ∷ kept es) (kept es)) (before first last e.0 (omega arith)) ∙ none_below es all.1 less

  pub none_above : (es : Entries) → AreOf low high es → last < low → kept es ≡ []
  none_above [] all more = refl
  none_above (e ∷ es) all more =
      let least = all.0.least in
      ap (λ b. cond b (e ∷ kept es) (kept es)) (behind first last e.0 (omega arith)) ∙ none_above es all.1 more

both_within : (first last : ℕ) (es ds fs gs : Entries) → within first last es ≡ fs → within first last ds ≡ gs → within first last (es ++ ds) ≡ fs ++ gs
both_within first last es ds fs gs one other =
    filter-append (λ (e : Row). is_from (key first 0 0) last e.0) es ds ∙ ap (λ (xs : Entries). xs ++ within first last ds) one ∙ ap (λ (xs : Entries). fs ++ xs) other

-- those behind are of none of these kinds
then_none : (first last : ℕ) (es ds fs : Entries) → within first last es ≡ fs → within first last ds ≡ [] → within first last (es ++ ds) ≡ fs
then_none first last es ds fs one none = both_within first last es ds fs [] one none ∙ append-nil fs

-- ---- a record, records of the kinds of classes, and of each later kind

-- what stands of which kinds among them
pub record AreSorted (c : Row) (cs os vs acts qs fs : Entries) : Type 0 where
  pub whole : within 0 255 (c ∷ cs ++ os ++ vs ++ acts ++ qs ++ fs) ≡ c ∷ cs ++ os ++ vs ++ acts ++ qs ++ fs
  pub objects : within object_kind object_kind (c ∷ cs ++ os ++ vs ++ acts ++ qs ++ fs) ≡ os
  pub versions : within version_kind version_kind (c ∷ cs ++ os ++ vs ++ acts ++ qs ++ fs) ≡ vs
  pub activations : within activation_kind activation_kind (c ∷ cs ++ os ++ vs ++ acts ++ qs ++ fs) ≡ acts
  pub queue : within entry_kind entry_kind (c ∷ cs ++ os ++ vs ++ acts ++ qs ++ fs) ≡ qs
  pub references : within version_kind entry_kind (c ∷ cs ++ os ++ vs ++ acts ++ qs ++ fs) ≡ vs ++ acts ++ qs

module _ (c : Row) (cs os vs acts qs fs : Entries) (one : AreOf 1 1 (c ∷ [])) (classes : AreOf 2 5 cs) (objects : AreOf 6 6 os) (versions : AreOf 7 7 vs) (activations : AreOf 8 8 acts)
    (queue : AreOf 9 9 qs) (fields : AreOf 10 10 fs) where
  abbrev to_queue : Entries
  to_queue = c ∷ cs ++ os ++ vs ++ acts ++ qs

  abbrev all_kinds : Entries
  all_kinds = to_queue ++ fs

  -- added fields are of no other kind
  up_to_queue : (first last : ℕ) (es : Entries) → last < 10 → within first last to_queue ≡ es → within first last all_kinds ≡ es
  up_to_queue first last es before is = then_none first last to_queue fs es is (none_above first last 10 10 fs fields before)

  whole : within 0 255 all_kinds ≡ all_kinds
  whole =
      let to_classes = both_within 0 255 (c ∷ []) cs (c ∷ []) cs (all_within 0 255 1 1 (c ∷ []) one (omega arith) (omega arith)) (all_within 0 255 2 5 cs classes (omega arith) (omega arith)) in
      let to_objects = both_within 0 255 (c ∷ cs) os (c ∷ cs) os to_classes (all_within 0 255 6 6 os objects (omega arith) (omega arith)) in
      let to_versions = both_within 0 255 (c ∷ cs ++ os) vs (c ∷ cs ++ os) vs to_objects (all_within 0 255 7 7 vs versions (omega arith) (omega arith)) in
      let to_acts = both_within 0 255 (c ∷ cs ++ os ++ vs) acts (c ∷ cs ++ os ++ vs) acts to_versions (all_within 0 255 8 8 acts activations (omega arith) (omega arith)) in
      let to_all = both_within 0 255 (c ∷ cs ++ os ++ vs ++ acts) qs (c ∷ cs ++ os ++ vs ++ acts) qs to_acts (all_within 0 255 9 9 qs queue (omega arith) (omega arith)) in
      both_within 0 255 to_queue fs to_queue fs to_all (all_within 0 255 10 10 fs fields (omega arith) (omega arith))

  -- of the kinds from an object's on
  module _ (first last : ℕ) (from : 5 < first) where
    none_of_classes : within first last (c ∷ cs) ≡ []
    none_of_classes = both_within first last (c ∷ []) cs [] [] (none_below first last 1 1 (c ∷ []) one (omega (arith, from))) (none_below first last 2 5 cs classes (omega (arith, from)))

    from_objects : (ds : Entries) → within first last os ≡ ds → within first last (c ∷ cs ++ os) ≡ ds
    from_objects ds is = both_within first last (c ∷ cs) os [] ds none_of_classes is

    from_versions : (ds : Entries) → 6 < first → within first last vs ≡ ds → within first last (c ∷ cs ++ os ++ vs) ≡ ds
    from_versions ds later is = both_within first last (c ∷ cs ++ os) vs [] ds (from_objects [] (none_below first last 6 6 os objects later)) is

    from_activations : (ds : Entries) → 7 < first → within first last acts ≡ ds → within first last (c ∷ cs ++ os ++ vs ++ acts) ≡ ds
    from_activations ds later is =
        both_within first last (c ∷ cs ++ os ++ vs) acts [] ds (from_versions [] (omega (arith, later)) (none_below first last 7 7 vs versions later)) is

  objects_are : within 6 6 all_kinds ≡ os
  objects_are =
      let own = from_objects 6 6 (omega arith) os (all_within 6 6 6 6 os objects (omega arith) (omega arith)) in
      let to_versions = then_none 6 6 (c ∷ cs ++ os) vs os own (none_above 6 6 7 7 vs versions (omega arith)) in
      let to_acts = then_none 6 6 (c ∷ cs ++ os ++ vs) acts os to_versions (none_above 6 6 8 8 acts activations (omega arith)) in
      up_to_queue 6 6 os (omega arith) (then_none 6 6 (c ∷ cs ++ os ++ vs ++ acts) qs os to_acts (none_above 6 6 9 9 qs queue (omega arith)))

  versions_are : within 7 7 all_kinds ≡ vs
  versions_are =
      let own = from_versions 7 7 (omega arith) vs (omega arith) (all_within 7 7 7 7 vs versions (omega arith) (omega arith)) in
      let to_acts = then_none 7 7 (c ∷ cs ++ os ++ vs) acts vs own (none_above 7 7 8 8 acts activations (omega arith)) in
      up_to_queue 7 7 vs (omega arith) (then_none 7 7 (c ∷ cs ++ os ++ vs ++ acts) qs vs to_acts (none_above 7 7 9 9 qs queue (omega arith)))

  activations_are : within 8 8 all_kinds ≡ acts
  activations_are =
      let own = from_activations 8 8 (omega arith) acts (omega arith) (all_within 8 8 8 8 acts activations (omega arith) (omega arith)) in
      up_to_queue 8 8 acts (omega arith) (then_none 8 8 (c ∷ cs ++ os ++ vs ++ acts) qs acts own (none_above 8 8 9 9 qs queue (omega arith)))

  queue_is : within 9 9 all_kinds ≡ qs
  queue_is =
      up_to_queue 9 9 qs (omega arith)
      (both_within 9 9 (c ∷ cs ++ os ++ vs ++ acts) qs [] qs (from_activations 9 9 (omega arith) [] (omega arith) (none_below 9 9 8 8 acts activations (omega arith)))
      (all_within 9 9 9 9 qs queue (omega arith) (omega arith)))

  with_references : within 7 9 all_kinds ≡ vs ++ acts ++ qs
  with_references =
      let own = from_versions 7 9 (omega arith) vs (omega arith) (all_within 7 9 7 7 vs versions (omega arith) (omega arith)) in
      let to_acts = both_within 7 9 (c ∷ cs ++ os ++ vs) acts vs acts own (all_within 7 9 8 8 acts activations (omega arith) (omega arith)) in
      up_to_queue 7 9 (vs ++ acts ++ qs) (omega arith) (both_within 7 9 (c ∷ cs ++ os ++ vs ++ acts) qs (vs ++ acts) qs to_acts (all_within 7 9 9 9 qs queue (omega arith) (omega arith)))

  pub are_sorted : AreSorted c cs os vs acts qs fs
  are_sorted = record { whole = whole; objects = objects_are; versions = versions_are; activations = activations_are; queue = queue_is; references = with_references }
