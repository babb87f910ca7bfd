-- All classes behind a change: each is anew, and they are good ones.
use Rattle.std.proofs.Common.{◌≡◌, ◌<◌, ◌≤◌, ◌^◌, ℕ, ◌+◌, min, List, [], ◌∷◌, ◌++◌, map, length, Bool, true, false, Ok, Err, refl, ap, sym, ◌∙◌, subst, arith, length-append}
use Rattle.std.specs.Prelude.{◌==◌, nat_lt}
use Rattle.std.specs.List.{AllByRecursion, AllZip}
use Rattle.std.proofs.lemmas.List.{length-map, map-append}
use Rattle.std.proofs.lemmas.List.Elements.{AllZip-push}
use Rattle.ode_value.specs.declared.change.Added.{Added}
use Rattle.ode_value.specs.declared.class.Class.{Class}
use Rattle.ode_value.specs.declared.class.Field.{Field}
use Rattle.ode_value.specs.declared.event.EventExpr.{EventExpr}
use Rattle.ode_value.specs.declared.member.TriggerDecl.{TriggerDecl}
use Rattle.ode_value.specs.declared.reason.Refusal.TheVariants as refusal
use Rattle.ode_value.specs.Answers.{Answer, ◌>>◌, refuses}
use Rattle.ode_value.specs.Changing.{added_to}
use Rattle.ode_value.specs.ClassLimits.{limits_class, limits_trigger, limits_triggers}
use Rattle.ode_value.specs.Fields.{AreBorn}
use Rattle.ode_value.specs.GoodWorlds.{AreAdded, AreClasses, IsClass}
use Rattle.ode_value.specs.Lengths.{class_records}
use Rattle.ode_value.specs.Limits.{class_limit, counted_symbols, state_limit, symbol_limit}
use Rattle.ode_value.specs.PrintedClasses.{decl_text}
use Rattle.ode_value.specs.Symbols.{symbol_count}
use Rattle.ode_value.specs.TreeCount.{tree_count}
use Rattle.ode_value.specs.Weights.{record_count, table_size}
use Rattle.ode_value.specs.Worlds.{Declared}
use Rattle.ode_value.proofs.MovedEvents.{count-stays}
use Rattle.ode_types.specs.Checked.{AreCheckedBehind}
use Rattle.ode_types.specs.Static.{check_grown}
use Rattle.ode_laws.proofs.Each.{all-append, all-filter}
use Rattle.ode_sound_laws.specs.Sound.{checked_classes}
use Rattle.ode_accepted_laws.specs.Languages.{WasAdded}
use Rattle.ode_accepted_laws.proofs.FieldLaws.{checked_born}
use Rattle.ode_accepted_laws.proofs.Members.{AreFields, accepted}
use Rattle.ode_anew_laws.specs.Anew.{AreAnew, IsAnew, Way}
use Rattle.ode_anew_laws.proofs.AnewChecked.{HaveFields, class_anew}
use Rattle.ode_change_laws.specs.Moves.{AreAnew as AreDeclaredAnew, IsAnew as IsTriggerAnew, event_where}
use Rattle.ode_change_laws.proofs.MovedTables.{trees-moved}
use Rattle.ode_evolve.proofs.ChangedLaws.{AreGrown}
use Rattle.ode_language.specs.Languages.{ode}
use Rattle.ode_machine.specs.Refusals.{declared_anew}

-- ---- good classes were checked one behind the other

pub classes_checked : (added : List Added) (earlier ds : List Declared) → AreClasses ode added earlier ds → AreCheckedBehind (checked_classes earlier) (checked_classes ds)
classes_checked added earlier [] all = tt
classes_checked added earlier (d ∷ ds) all = (
  record { tree = d.tree; added = added_to d.class.number added; checks = all.0.checked },
  subst (λ known. AreCheckedBehind known (checked_classes ds)) (map-append (λ (e : Declared). e.class) earlier (d ∷ [])) (classes_checked added (earlier ++ d ∷ []) ds all.1),
)

-- births are no higher than there are added fields
pub births_low : (cs : List Declared) (birth stamp : ℕ) (added : List Added) → AreAdded cs birth added → birth + length added ≤ stamp + 1 → AllByRecursion (WasAdded stamp) added
births_low cs birth stamp [] all low = tt
births_low cs birth stamp (a ∷ added) all low =
    let here : a.birth ≡ birth = all.0 in
    (omega (arith, here, low), births_low cs (birth + 1) stamp added all.2 (omega (arith, low)))

-- ---- limits

module _ (at more : ℕ) (gets : Bool) where
  symbols_stay : (g : Bool) (e : EventExpr) → symbol_count (event_where at more g e) ≡ symbol_count e
  symbols_stay true e = count-stays at more e
  symbols_stay false e = refl

  trees_stay : (g : Bool) (e : EventExpr) → tree_count (event_where at more g e) ≡ tree_count e
  trees_stay true e = trees-moved at more e
  trees_stay false e = refl

  abbrev Pairs : List TriggerDecl → List TriggerDecl → Type 0
  Pairs ts us = AllZip (IsTriggerAnew (event_where at more gets)) ts us

  abbrev limits_by : List ℕ → ℕ → ℕ → Answer (Unit {0})
  limits_by name symbols states =
      refuses (nat_lt symbol_limit symbols) (refusal.TooManySymbols name (min symbols counted_symbols)) >> refuses (nat_lt state_limit states) (refusal.TooManyStates name)

  limits_one : (t u : TriggerDecl) → IsTriggerAnew (event_where at more gets) t u → limits_trigger u ≡ limits_trigger t
  limits_one t u a =
      ap (λ name. limits_by name (symbol_count u.event) (tree_count u.event)) a.name
      ∙ ap (λ n. limits_by t.name n (tree_count u.event)) (ap symbol_count a.event ∙ symbols_stay gets t.event)
      ∙ ap (λ n. limits_by t.name (symbol_count t.event) n) (ap tree_count a.event ∙ trees_stay gets t.event)

  limits_all : (ts us : List TriggerDecl) → Pairs ts us → limits_triggers us ≡ limits_triggers ts
  limits_all [] [] all = refl
  limits_all [] (u ∷ us) all = absurd all
  limits_all (t ∷ ts) [] all = absurd all
  limits_all (t ∷ ts) (u ∷ us) all = ap (λ a. a >> limits_triggers us) (limits_one t u all.0) ∙ ap (λ a. limits_trigger t >> a) (limits_all ts us all.1)

  sizes_all : (ts us : List TriggerDecl) → Pairs ts us → map table_size us ≡ map table_size ts
  sizes_all [] [] all = refl
  sizes_all [] (u ∷ us) all = absurd all
  sizes_all (t ∷ ts) [] all = absurd all
  sizes_all (t ∷ ts) (u ∷ us) all =
      ap (λ n. (n, symbol_count u.event) ∷ map table_size us) (ap tree_count all.0.event ∙ trees_stay gets t.event)
      ∙ ap (λ n. (tree_count t.event, n) ∷ map table_size us) (ap symbol_count all.0.event ∙ symbols_stay gets t.event)
      ∙ ap (λ ns. table_size t ∷ ns) (sizes_all ts us all.1)

  same_records : (d : Declared) (e : Class) → Pairs d.class.triggers e.triggers → record_count (record d { class = e }) ≡ record_count d
  unfolding record_count
  same_records d e pairs = ap (class_records (length (decl_text d.tree))) (sizes_all d.class.triggers e.triggers pairs)

  passed : (a b : Answer (Unit {0})) (x y : Declared) → (a >> (b >> Ok x)) ≡ Ok x → (a >> (b >> Ok y)) ≡ Ok y
  passed (Ok u) (Ok v) x y h = refl
  passed (Ok u) (Err e) x y h = absurd (cc)
  passed (Err e) b x y h = absurd (cc)

  limits_stay : (d : Declared) (e : Class) → Pairs d.class.triggers e.triggers → limits_class d ≡ Ok d → limits_class (record d { class = e }) ≡ Ok (record d { class = e })
  limits_stay d e pairs h =
      let then : Declared = record d { class = e } in
      let few : ℕ → Answer (Unit {0}) = λ n. refuses (nat_lt class_limit n) (refusal.ClassTooLarge n) in
      ap (λ a. a >> (few (record_count then) >> Ok then)) (limits_all d.class.triggers e.triggers pairs)
      ∙ ap (λ n. limits_triggers d.class.triggers >> (few n >> Ok then)) (same_records d e pairs)
      ∙ passed (limits_triggers d.class.triggers) (few (record_count d)) d then h

-- ---- one behind the other

module _ (at : ℕ) (new : List Field) (test : ℕ → Bool) (old then : List Added) (was : AllByRecursion (WasAdded (length then)) then) where
  abbrev HasWay : Declared → Type 0
  HasWay d = Way at new test (added_to d.class.number old) (added_to d.class.number then) d.class

  -- what is known of the classes before
  pub record Before (earlier others : List Declared) : Type 0 where
    pub anew : AreAnew at new test (checked_classes earlier) (checked_classes others)
    pub count : length others ≡ length earlier
    pub fields : HaveFields (checked_classes earlier)
    pub others_fields : HaveFields (checked_classes others)
    pub born : AllByRecursion (AreBorn (length then)) (checked_classes others)

  pub record Behind (others ds : List Declared) (cs : List Class) : Type 0 where
    pub anew : AreDeclaredAnew at new test ds (declared_anew cs ds)
    pub good : AreClasses ode then others (declared_anew cs ds)

  pub grow : (earlier others ds : List Declared) (cs : List Class) → AreClasses ode old earlier ds → AllByRecursion HasWay ds → AreGrown then (checked_classes others) (map (λ (d : Declared). d.tree) ds) cs
      → Before earlier others → Behind others ds cs
  grow earlier others [] [] all ways grown before = record { anew = tt; good = tt }
  grow earlier others [] (e ∷ cs) all ways grown before = absurd grown
  grow earlier others (d ∷ ds) [] all ways grown before = absurd grown
  grow earlier others (d ∷ ds) (e ∷ cs) all ways grown before =
      let one = all.0 in
      let known = checked_classes earlier in
      let knew = checked_classes others in
      let young : Declared = record d { class = e } in
      let long : length knew ≡ length others = length-map others (λ (x : Declared). x.class) in
      let same : length knew + 1 ≡ d.class.number = let number : d.class.number ≡ length earlier + 1 = one.number in let count : length others ≡ length earlier = before.count in omega (arith, long, number, count) in
      let checked : check_grown knew (added_to d.class.number then) d.tree ≡ Ok e = subst (λ n. check_grown knew (added_to n then) d.tree ≡ Ok e) same grown.0 in
      let here = class_anew at new test known knew before.anew before.fields before.others_fields d.tree (added_to d.class.number old) (added_to d.class.number then) d.class e ways.0 one.checked checked in
      let number : e.number ≡ d.class.number = here.class.number in
      let own : AllByRecursion (WasAdded (length then)) (added_to d.class.number then) = all-filter (WasAdded (length then)) (λ (a : Added). a.class == d.class.number) then was in
      let born : AreBorn (length then) e = checked_born (length then) knew (added_to d.class.number then) d.tree e before.born own checked in
      let class : IsClass ode then others young = record {
        number = number ∙ sym same ∙ ap (λ n. n + 1) long;
        low = subst (λ n. n < 2 ^ 32) (sym number) one.low;
        text = one.text;
        checked = subst (λ n. check_grown knew (added_to n then) d.tree ≡ Ok e) (sym number) checked;
        limits = limits_stay at (length new) (test d.class.number) d e here.triggers one.limits;
        fields = born;
      } in
      let first : AreFields d.class.fields = (accepted known before.fields d.class (record { tree = d.tree; added = added_to d.class.number old; checks = one.checked })).has.fields in
      let second : AreFields e.fields = (accepted knew before.others_fields e (record { tree = d.tree; added = added_to d.class.number then; checks = checked })).has.fields in
      let split : checked_classes (earlier ++ d ∷ []) ≡ known ++ d.class ∷ [] = map-append (λ (x : Declared). x.class) earlier (d ∷ []) in
      let splits : checked_classes (others ++ young ∷ []) ≡ knew ++ e ∷ [] = map-append (λ (x : Declared). x.class) others (young ∷ []) in
      let next : Before (earlier ++ d ∷ []) (others ++ young ∷ []) = record {
        anew =
            subst (λ xs. AreAnew at new test xs (checked_classes (others ++ young ∷ []))) (sym split)
            (subst (AreAnew at new test (known ++ d.class ∷ [])) (sym splits) (AllZip-push (λ (x y : Class). IsAnew at new (test x.number) x y) known knew d.class e before.anew here.class));
        count = length-append others (young ∷ []) ∙ ap (λ n. n + 1) before.count ∙ sym (length-append earlier (d ∷ []));
        fields = subst HaveFields (sym split) (all-append (λ (x : Class). AreFields x.fields) known (d.class ∷ []) before.fields (first, tt));
        others_fields = subst HaveFields (sym splits) (all-append (λ (x : Class). AreFields x.fields) knew (e ∷ []) before.others_fields (second, tt));
        born = subst (AllByRecursion (AreBorn (length then))) (sym splits) (all-append (AreBorn (length then)) knew (e ∷ []) before.born (born, tt));
      } in
      let rest = grow (earlier ++ d ∷ []) (others ++ young ∷ []) ds cs all.1 ways.1 (subst (λ ks. AreGrown then ks (map (λ (x : Declared). x.tree) ds) cs) (sym splits) grown.1) next in
      record {
        anew = (
          record { tree = refl; number = number; name = here.class.name; parent = here.class.parent; kinds = here.class.kinds; fields = here.class.fields; triggers = here.triggers },
          rest.anew,
        );
        good = (class, rest.good);
      }
