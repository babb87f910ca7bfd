-- The tables of a file at rest are tables of the classes behind a change: no mask that there is reads a new field.
use Rattle.std.proofs.Common.{◌≡◌, ◌<◌, ◌≤◌, ℕ, zero, suc, ◌+◌, ◌-◌, Bool, true, false, List, [], ◌∷◌, ◌++◌, length, map, Some, refl, ap, sym, ◌∙◌, subst, arith}
use Rattle.std.specs.Prelude.{nat_lt, slice_get}
use Rattle.std.specs.List.{AllByRecursion, AllZip}
use Rattle.std.specs.Option.{option_and_then, option_map}
use Rattle.std.proofs.lemmas.Bool.Decides.{nat_tests}
use Rattle.std.proofs.lemmas.List.{length-map}
use Rattle.ode_change.specs.Fitting.{AreOver, HasFewSymbols, IsOver}
use Rattle.ode_change_laws.specs.Behind.{IsBehind}
use Rattle.ode_change_laws.specs.Moves.{AreAnew, IsAnew, event_where, new_fields}
use Rattle.ode_changed_laws.proofs.FewParts.{IsLimited, triggers_limited}
use Rattle.ode_schema.specs.Parts.{AreAligned, AreFit, Parts, places_from, table_place}
use Rattle.ode_heap.specs.Answering.{class_of}
use Rattle.ode_laws.proofs.Each.{all-append, all-then}
use Rattle.ode_opening.specs.Building.{triggers_of}
use Rattle.ode_opening_tables.proofs.Placing.{are_numbered, get_right}
use Rattle.ode_opening_tables.specs.Tables.{alphabets_of}
use Rattle.ode_types.proofs.Places.{numbered-at}
use Rattle.ode_types.specs.Checked.{AreChecked}
use Rattle.ode_types.specs.Families.{class_numbered}
use Rattle.ode_types.specs.Indexed.{AreNumbered}
use Rattle.ode_value.proofs.MovedEvents.{count-stays}
use Rattle.ode_value.specs.Changing.{changed_place}
use Rattle.ode_value.specs.Classes.{is_a}
use Rattle.ode_value.specs.GoodWorlds.{AreClasses}
use Rattle.ode_value.specs.Language.{Language}
use Rattle.ode_value.specs.Symbols.{Alphabet, alphabet, symbol_count}
use Rattle.ode_value.specs.Tables.{Table}
use Rattle.ode_value.specs.Worlds.{Bones, Declared}
use Rattle.ode_value.specs.declared.change.Added.{Added}
use Rattle.ode_value.specs.declared.change.Change.{Change}
use Rattle.ode_value.specs.declared.class.Class.{Class}
use Rattle.ode_value.specs.declared.class.Field.{Field}
use Rattle.ode_value.specs.declared.event.EventExpr.{EventExpr}
use Rattle.ode_value.specs.declared.member.TriggerDecl.{TriggerDecl}

abbrev pub symbols_of : TriggerDecl → Alphabet
symbols_of t = alphabet t.event

-- ---- lists place by place

zip-index : {X Y : Type 0} (R : X → Y → Type 0) (xs : List X) (ys : List Y) → length xs ≡ length ys → ((k : ℕ) (y : Y) → slice_get ys k ≡ Some y → (x : X) × (slice_get xs k ≡ Some x) × R x y) → AllZip R xs ys
zip-index R [] [] long at = tt
zip-index R [] (y ∷ ys) long at = absurd (omega (arith, long))
zip-index R (x ∷ xs) [] long at = absurd (omega (arith, long))
zip-index R (x ∷ xs) (y ∷ ys) long at =
    let it = at 0 y refl in
    let same : x ≡ it.0 = cc (it.1) in
    (subst (λ v. R v y) (sym same) it.2, zip-index R xs ys (omega (arith, long)) (λ k z is. at (suc k) z is))

unmapped : {Y Z : Type 0} (f : Y → Z) (ys : List Y) (k : ℕ) (z : Z) → slice_get (map f ys) k ≡ Some z → (y : Y) × (slice_get ys k ≡ Some y) × (f y ≡ z)
unmapped f [] k z is = absurd (cc)
unmapped f (y ∷ ys) zero z is = let same : f y ≡ z = cc (is) in (y, refl, same)
unmapped f (y ∷ ys) (suc k) z is = unmapped f ys k z is

get-front : {X : Type 0} (xs ys : List X) (k : ℕ) → k < length xs → slice_get (xs ++ ys) k ≡ slice_get xs k
get-front [] ys k within = absurd (omega (arith, within))
get-front (x ∷ xs) ys zero within = refl
get-front (x ∷ xs) ys (suc k) within = get-front xs ys k (omega (arith, within))

-- ---- where a trigger among all stands

record FoundAt (cs : List Class) (first k : ℕ) (t : TriggerDecl) : Type 0 where
  n : ℕ
  place : ℕ
  class : Class
  is : slice_get cs n ≡ Some class
  trigger : slice_get class.triggers place ≡ Some t
  start : ℕ
  map_is : slice_get (places_from first cs) n ≡ Some (first + start)
  sum : start + place ≡ k

found-at : (cs : List Class) (first k : ℕ) (t : TriggerDecl) → slice_get (triggers_of cs) k ≡ Some t → FoundAt cs first k t
found-at [] first k t is = absurd (cc)
found-at (c ∷ cs) first k t is = by (nat_lt k (length c.triggers)) refl (λ m. found-at cs (first + length c.triggers) m t)
  where
    by : (b : Bool) → nat_lt k (length c.triggers) ≡ b → ((m : ℕ) → slice_get (triggers_of cs) m ≡ Some t → FoundAt cs (first + length c.triggers) m t) → FoundAt (c ∷ cs) first k t
    by true low rest =
        let within : k < length c.triggers = grind (arith, nat_tests, low) in
        let none : first ≡ first + 0 = omega arith in
        let zero_more : 0 + k ≡ k = omega arith in
        record { n = 0; place = k; class = c; is = refl; trigger = sym (get-front c.triggers (triggers_of cs) k within) ∙ is; start = 0; map_is = ap Some none; sum = zero_more }
    by false high rest =
        let least : length c.triggers ≤ k = grind (arith, nat_tests, high) in
        let m : ℕ = k - length c.triggers in
        let split : length c.triggers + m ≡ k = omega (arith, least) in
        let it = rest m (sym (get_right c.triggers (triggers_of cs) m) ∙ ap (slice_get (c.triggers ++ triggers_of cs)) split ∙ is) in
        let moved : first + length c.triggers + it.start ≡ first + (length c.triggers + it.start) = omega arith in
        let sum = it.sum in
        record {
          n = suc it.n;
          place = it.place;
          class = it.class;
          is = it.is;
          trigger = it.trigger;
          start = length c.triggers + it.start;
          map_is = it.map_is ∙ ap Some moved;
          sum = omega (arith, sum, split);
        }

-- ---- the tables of a file

module _ (p : Parts) (fit : AreFit p) (aligned : AreAligned p) (checked : AreChecked p.classes) where
  numbered : AreNumbered p.classes
  numbered = are_numbered p.classes checked

  over-at : (k : ℕ) (a : Alphabet) → slice_get (alphabets_of p.classes) k ≡ Some a → (table : Table) × (slice_get p.tables k ≡ Some table) × IsOver table a
  over-at k a is =
      let one = unmapped symbols_of (triggers_of p.classes) k a is in
      let t : TriggerDecl = one.0 in
      let it = found-at p.classes 0 k t one.1 in
      let spot : it.n ≡ suc it.n - 1 = omega arith in
      let there : class_numbered p.classes (suc it.n) ≡ Some it.class = sym (numbered-at p.classes (suc it.n) it.n numbered (omega arith) spot) ∙ it.is in
      let has = fit (suc it.n) it.place t (ap (option_and_then (λ (c : Class). slice_get c.triggers it.place)) there ∙ it.trigger) in
      let sum = it.sum in
      let at : table_place p.maps (suc it.n) it.place ≡ Some k =
      ap (λ (maps : List ℕ). table_place maps (suc it.n) it.place) aligned.places ∙ ap (option_map (λ f. f + it.place)) it.map_is ∙ (let same : 0 + it.start + it.place ≡ k = omega (arith, sum) in ap Some same) in
      let same : has.at ≡ k = cc (has.is, at) in
      (has.table, ap (slice_get p.tables) (sym same) ∙ has.has_table, subst (IsOver has.table) one.2 has.symbols)

  pub old-over : AllZip IsOver p.tables (alphabets_of p.classes)
  old-over = zip-index IsOver p.tables (alphabets_of p.classes) (aligned.tables ∙ sym (length-map (triggers_of p.classes) symbols_of)) over-at

-- ---- the classes behind a change

abbrev IsLike : TriggerDecl → TriggerDecl → Type 0
IsLike t u = symbol_count u.event ≡ symbol_count t.event

pub zip-behind : {X Y : Type 0} (R : X → Y → Type 0) (xs zs : List X) (ys ws : List Y) → AllZip R xs ys → AllZip R zs ws → AllZip R (xs ++ zs) (ys ++ ws)
zip-behind R [] zs [] ws one other = other
zip-behind R [] zs (y ∷ ys) ws one other = absurd one
zip-behind R (x ∷ xs) zs [] ws one other = absurd one
zip-behind R (x ∷ xs) zs (y ∷ ys) ws one other = (one.0, zip-behind R xs zs ys ws one.1 other)

like-where : (at more : ℕ) (gets : Bool) (e : EventExpr) → symbol_count (event_where at more gets e) ≡ symbol_count e
like-where at more true e = count-stays at more e
like-where at more false e = refl

module _ (at : ℕ) (new : List Field) where
  own-like : (gets : Bool) (ts us : List TriggerDecl) → AllZip (IsAnew (event_where at (length new) gets)) ts us → AllZip IsLike ts us
  own-like gets [] [] all = tt
  own-like gets [] (u ∷ us) all = absurd all
  own-like gets (t ∷ ts) [] all = absurd all
  own-like gets (t ∷ ts) (u ∷ us) all = (ap symbol_count all.0.event ∙ like-where at (length new) gets t.event, own-like gets ts us all.1)

  all-like : (test : ℕ → Bool) (cs ds : List Declared) → AreAnew at new test cs ds → AllZip IsLike (triggers_of (map class_of cs)) (triggers_of (map class_of ds))
  all-like test [] [] all = tt
  all-like test [] (d ∷ ds) all = absurd all
  all-like test (c ∷ cs) [] all = absurd all
  all-like test (c ∷ cs) (d ∷ ds) all =
      zip-behind IsLike c.class.triggers (triggers_of (map class_of cs)) d.class.triggers (triggers_of (map class_of ds)) (own-like (test c.class.number) c.class.triggers d.class.triggers all.0.triggers)
      (all-like test cs ds all.1)

  as-many : (ts us : List TriggerDecl) → AllZip IsLike ts us → length us ≡ length ts
  as-many [] [] all = refl
  as-many [] (u ∷ us) all = absurd all
  as-many (t ∷ ts) [] all = absurd all
  as-many (t ∷ ts) (u ∷ us) all = ap suc (as-many ts us all.1)

  places-like : (test : ℕ → Bool) (first : ℕ) (cs ds : List Declared) → AreAnew at new test cs ds → places_from first (map class_of ds) ≡ places_from first (map class_of cs)
  places-like test first [] [] all = refl
  places-like test first [] (d ∷ ds) all = absurd all
  places-like test first (c ∷ cs) [] all = absurd all
  places-like test first (c ∷ cs) (d ∷ ds) all =
      let many = as-many c.class.triggers d.class.triggers (own-like (test c.class.number) c.class.triggers d.class.triggers all.0.triggers) in
      ap (λ (n : ℕ). first ∷ places_from (first + n) (map class_of ds)) many ∙ ap (λ (ns : List ℕ). first ∷ ns) (places-like test (first + length c.class.triggers) cs ds all.1)

over-like : (tables : List Table) (ts us : List TriggerDecl) → AllZip IsOver tables (map symbols_of ts) → AllZip IsLike ts us → AllZip IsOver tables (map symbols_of us)
over-like [] [] [] over like = tt
over-like [] [] (u ∷ us) over like = absurd like
over-like [] (t ∷ ts) us over like = absurd over
over-like (x ∷ tables) [] us over like = absurd over
over-like (x ∷ tables) (t ∷ ts) [] over like = absurd like
over-like (x ∷ tables) (t ∷ ts) (u ∷ us) over like = (over.0 ∙ sym like.0, over-like tables ts us over.1 like.1)

few-symbols : (l : Language) (added : List Added) (earlier ds : List Declared) → AreClasses l added earlier ds → AllByRecursion HasFewSymbols (triggers_of (map class_of ds))
few-symbols l added earlier [] classes = tt
few-symbols l added earlier (d ∷ ds) classes =
    all-append HasFewSymbols d.class.triggers (triggers_of (map class_of ds))
    (all-then IsLimited HasFewSymbols (λ t is. is.symbols) d.class.triggers (triggers_limited d classes.0.limits)) (few-symbols l added (earlier ++ d ∷ []) ds classes.1)

module _ (l : Language) (b : Bones) (c : Change) (classes : List Declared) (is : IsBehind l b c classes) where
  abbrev test_of : ℕ → Bool
  test_of n = is_a b.classes n c.class

  pub places-stay : places_from 0 (map class_of classes) ≡ places_from 0 (map class_of b.classes)
  places-stay = places-like (changed_place b c) (new_fields b c classes) test_of 0 b.classes classes is.behind

  -- a file's tables are those of the classes behind it
  pub all-over : (p : Parts) → AreFit p → AreAligned p → AreChecked p.classes → p.classes ≡ map class_of b.classes → (others : List Class) → others ≡ map class_of classes → AreOver p.tables others
  all-over p fit aligned checked old others new =
      let before : AllZip IsOver p.tables (map symbols_of (triggers_of (map class_of b.classes))) =
      subst (λ (cs : List Class). AllZip IsOver p.tables (alphabets_of cs)) old (old-over p fit aligned checked) in
      let behind : AreOver p.tables (map class_of classes) = record {
        few = few-symbols l _ [] classes is.good;
        are = over-like p.tables (triggers_of (map class_of b.classes)) (triggers_of (map class_of classes)) before
            (all-like (changed_place b c) (new_fields b c classes) test_of b.classes classes is.behind);
      } in
      subst (AreOver p.tables) (sym new) behind
