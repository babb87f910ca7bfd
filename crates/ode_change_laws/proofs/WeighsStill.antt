-- What a world weighs in which a class gets fields: the records of the fields more, and what the counters take for their number.
use Rattle.std.proofs.Common.{◌≡◌, ◌≤◌, ℕ, ◌+◌, Bool, true, false, cond, List, [], ◌∷◌, length, map, refl, ap, ◌∙◌, arith}
use Rattle.std.specs.List.{AllByRecursion, AllZip, sum_by}
use Rattle.std.proofs.lemmas.List.Sums.{sum_by-append, sum_by-cons}
use Rattle.ode_value.specs.declared.change.Change.{Change}
use Rattle.ode_value.specs.declared.class.Field.{Field}
use Rattle.ode_value.specs.declared.event.EventExpr.{EventExpr}
use Rattle.ode_value.specs.declared.member.TriggerDecl.{TriggerDecl}
use Rattle.ode_value.specs.Changing.{added_by, changed_bones, changed_number, changed_object, changed_place, gets, literals_of, version_with}
use Rattle.ode_value.specs.Classes.{is_a}
use Rattle.ode_value.specs.Fields.{fields_of}
use Rattle.ode_value.specs.Lengths.{class_length, counters_length, object_length, trigger_length, version_length}
use Rattle.ode_value.specs.PrintedClasses.{decl_text}
use Rattle.ode_value.specs.Symbols.{symbol_count}
use Rattle.ode_value.specs.Versions.{Version}
use Rattle.ode_value.specs.Weights.{activation_weight, added_weight, class_weight, object_weight, trigger_weight, version_weight, weight}
use Rattle.ode_value.specs.Worlds.{Bones, Declared, Object}
use Rattle.ode_value.proofs.MovedEvents.{count-stays}
use Rattle.ode_change_laws.specs.Moves.{AreAnew, AreBehind, HasValues, IsAnew, IsClassAnew, event_where, fields_where, new_fields}
use Rattle.ode_change_laws.proofs.BornStill.{born-still, news}
use Rattle.ode_change_laws.proofs.MovedPasts.{trees-where}
use Rattle.ode_change_laws.proofs.RowsStill.{fields-anew}

-- ---- classes

module _ (at : ℕ) (new : List Field) where
  symbols-where : (gets : Bool) (e : EventExpr) → symbol_count (event_where at (length new) gets e) ≡ symbol_count e
  symbols-where true e = count-stays at (length new) e
  symbols-where false e = refl

  trigger-weighs : (gets : Bool) (t u : TriggerDecl) → IsAnew (event_where at (length new) gets) t u → trigger_weight u ≡ trigger_weight t
  trigger-weighs gets t u is =
      ap (λ e. trigger_weight (record t { event = e })) is.event ∙ (λ i. trigger_length (trees-where at new gets t.event i) (symbols-where gets t.event i))

  triggers-weigh : (gets : Bool) (ts us : List TriggerDecl) → AllZip (IsAnew (event_where at (length new) gets)) ts us → sum_by trigger_weight us ≡ sum_by trigger_weight ts
  triggers-weigh gets [] [] all = refl
  triggers-weigh gets [] (u ∷ us) all = absurd all
  triggers-weigh gets (t ∷ ts) [] all = absurd all
  triggers-weigh gets (t ∷ ts) (u ∷ us) all =
      let first = trigger-weighs gets t u all.0 in
      let rest = triggers-weigh gets ts us all.1 in
      omega (arith, first, rest, sum_by-cons trigger_weight u us, sum_by-cons trigger_weight t ts)

  class-weighs : (gets : Bool) (c d : Declared) → IsClassAnew at new gets c d → class_weight d ≡ class_weight c
  class-weighs gets c d is =
      let triggers = triggers-weigh gets c.class.triggers d.class.triggers is.triggers in
      λ i. class_length (is.name i) (length (decl_text (is.tree i))) + triggers i

  classes-weigh : (test : ℕ → Bool) (cs ds : List Declared) → AreAnew at new test cs ds → sum_by class_weight ds ≡ sum_by class_weight cs
  classes-weigh test [] [] all = refl
  classes-weigh test [] (d ∷ ds) all = absurd all
  classes-weigh test (c ∷ cs) [] all = absurd all
  classes-weigh test (c ∷ cs) (d ∷ ds) all =
      let first = class-weighs (test c.class.number) c d all.0 in
      let rest = classes-weigh test cs ds all.1 in
      omega (arith, first, rest, sum_by-cons class_weight d ds, sum_by-cons class_weight c cs)

-- ---- objects

module _ (b : Bones) (c : Change) (classes : List Declared) where
  abbrev at : ℕ
  at = changed_place b c

  abbrev new : List Field
  new = new_fields b c classes

  version-weighs : (fields : List Field) (v : Version) → v.stamp ≤ length b.added → length v.fields ≡ length fields
      → version_weight (fields_where at new true fields) (version_with at (literals_of c) v) ≡ version_weight fields v
  version-weighs fields v stamp same = ap (version_length v.stamp) (born-still v.stamp at new (literals_of c) (news (changed_number b c) v.stamp (length b.added) c stamp) fields v.fields same)

  versions-weigh : (fields : List Field) (vs : List Version) → AllByRecursion (λ (v : Version). v.stamp ≤ length b.added) vs → AllByRecursion (λ (v : Version). length v.fields ≡ length fields) vs
      → sum_by (version_weight (fields_where at new true fields)) (map (version_with at (literals_of c)) vs) ≡ sum_by (version_weight fields) vs
  versions-weigh fields [] stamps values = refl
  versions-weigh fields (v ∷ vs) stamps values =
      let first = version-weighs fields v stamps.0 values.0 in
      let rest = versions-weigh fields vs stamps.1 values.1 in
      omega (
        arith,
        first,
        rest,
        sum_by-cons (version_weight (fields_where at new true fields)) (version_with at (literals_of c) v) (map (version_with at (literals_of c)) vs),
        sum_by-cons (version_weight fields) v vs,
      )

  versions-where : (t : Bool) (fields : List Field) (vs : List Version) → AllByRecursion (λ (v : Version). v.stamp ≤ length b.added) vs → AllByRecursion (λ (v : Version). length v.fields ≡ length fields) vs
      → sum_by (version_weight (fields_where at new t fields)) (cond t (map (version_with at (literals_of c)) vs) vs) ≡ sum_by (version_weight fields) vs
  versions-where true fields vs stamps values = versions-weigh fields vs stamps values
  versions-where false fields vs stamps values = refl

  object-weighs : (o : Object) → AreBehind b c classes → HasValues b c classes o → object_weight classes (changed_object b c o) ≡ object_weight b.classes o
  object-weighs o behind has =
      ap (λ n. object_length + n + sum_by activation_weight o.activations)
      (ap (λ fields. sum_by (version_weight fields) (changed_object b c o).versions) (fields-anew at new (λ number. is_a b.classes number c.class) o.class b.classes classes behind has.class)
      ∙ versions-where (gets b c o) (fields_of b.classes o.class) o.versions has.stamps has.values)

  objects-weigh : (os : List Object) → AreBehind b c classes → AllByRecursion (HasValues b c classes) os
      → sum_by (object_weight classes) (map (changed_object b c) os) ≡ sum_by (object_weight b.classes) os
  objects-weigh [] behind has = refl
  objects-weigh (o ∷ os) behind has =
      let first = object-weighs o behind has.0 in
      let rest = objects-weigh os behind has.1 in
      omega (
        arith,
        first,
        rest,
        sum_by-cons (object_weight classes) (changed_object b c o) (map (changed_object b c) os),
        sum_by-cons (object_weight b.classes) o os,
      )

pub weighs-anew : (b : Bones) (c : Change) (classes : List Declared) → AreBehind b c classes → AllByRecursion (HasValues b c classes) b.objects
    → weight (changed_bones b c classes) + counters_length (length b.added)
    ≡ weight b + counters_length (length (changed_bones b c classes).added) + sum_by added_weight (added_by (changed_number b c) (length b.added) c)
unfolding weight
weighs-anew b c classes behind has =
    let new = added_by (changed_number b c) (length b.added) c in
    let known = classes-weigh (changed_place b c) (new_fields b c classes) (λ number. is_a b.classes number c.class) b.classes classes behind in
    let objects = objects-weigh b c classes b.objects behind has in
    let added = sum_by-append added_weight b.added new in
    omega (arith, known, objects, added)
