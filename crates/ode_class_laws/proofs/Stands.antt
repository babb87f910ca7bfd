-- State numbers stand for views with one more class and its tables.
use Rattle.std.proofs.Common.{◌≡◌, ◌<◌, ◌≤◌, ℕ, suc, ◌+◌, List, [], ◌∷◌, ◌++◌, length, map, Option, Some, None, refl, sym, ap, ◌∙◌, subst, arith}
use Rattle.std.specs.Prelude.{EachIndex, slice_get, slice_index}
use Rattle.std.specs.List.{AllByRecursion, AllZip, enumerate_from, range_with_len}
use Rattle.std.specs.Option.{option_and_then, option_map}
use Rattle.ode_codec.specs.Standing.{ArePasts, HasTables, IsTableOf, IsWhole, StandsAs}
use Rattle.ode_compile.specs.Compiling.{AreCompiled, IsCompiled}
use Rattle.ode_laws.specs.Alike.{AgreesOn, IsAlike, NumberWorld}
use Rattle.ode_laws.specs.Numbered.{AreNumbered}
use Rattle.ode_laws.proofs.AlikeRows.{Object3, Pasts3, Sees, Stays, number_of, pasts_of_rows, rows_of_pasts}
use Rattle.ode_laws.proofs.AlikeTables.{alike_by}
use Rattle.ode_laws.proofs.Each.{all-append}
use Rattle.ode_laws.proofs.Rows.{id_of, rows_then}
use Rattle.ode_table.specs.Whole.{IsWhole as IsWholeTable}
use Rattle.ode_value.specs.declared.class.Class.{Class}
use Rattle.ode_value.specs.declared.member.TriggerDecl.{TriggerDecl}
use Rattle.ode_value.specs.Classes.{Trigger, trigger_of, watch_of}
use Rattle.ode_value.specs.Firings.{watch_by}
use Rattle.ode_value.specs.GoodWorlds.{IsPast}
use Rattle.ode_value.specs.Language.{ListWorld}
use Rattle.ode_value.specs.Objects.{Activation, Histories, Starts}
use Rattle.ode_value.specs.Pasts.{Kept, Watch}
use Rattle.ode_value.specs.Symbols.{Alphabet}
use Rattle.ode_value.specs.Tables.{Means, Table}
use Rattle.ode_value.specs.TreeCount.{tree_count}
use Rattle.ode_value.specs.Worlds.{Declared, Object, class_numbered}
use Rattle.ode_class_laws.specs.Declaring.{AreBefore, bones_with, tables_with, world_with}
use Rattle.ode_class_laws.proofs.GoodLaws.{found_more}
use Rattle.ode_class_laws.proofs.StoredLaws.{other_table, own_tables}

-- ---- the class's own tables

each_below : (xs : List ℕ) (limit : ℕ) → EachIndex xs (λ k. slice_index xs k < limit) → AllByRecursion (λ q. q < limit) xs
each_below [] limit each = tt
each_below (x ∷ xs) limit each = (each 0 (omega arith), each_below xs limit (λ k less. each (suc k) (omega (arith, less))))

whole_table : (t : Table) → IsWholeTable t → IsWhole t
whole_table t is = record { some = is.some; next = is.rows; in_range = each_below t.next t.states is.numbers; yes = is.answers }

module _ (by : ℕ → ℕ → Table) (class : ℕ) where
  table_of : (place : ℕ) (t : TriggerDecl) (table : Table) (rows : Alphabet) → by class place ≡ table → IsCompiled t table rows → IsTableOf by (trigger_of class (place, t))
  table_of place t table rows is made = record {
    whole = subst IsWhole (sym is) (whole_table table made.whole);
    small = subst (λ u. u.states ≤ tree_count t.event) (sym is) made.states;
    means = subst (λ u. Means u t.event) (sym is) made.means;
  }

  tables_from : (first : ℕ) (ts : List TriggerDecl) (own : List Table) (alphabets : List Alphabet) → AreCompiled ts own alphabets
      → map (by class) (range_with_len first (length ts)) ≡ own → AllByRecursion (IsTableOf by) (map (trigger_of class) (enumerate_from first ts))
  tables_from first [] own alphabets all same = tt
  tables_from first (t ∷ ts) [] alphabets all same = absurd all
  tables_from first (t ∷ ts) (x ∷ xs) [] all same = absurd all
  tables_from first (t ∷ ts) (x ∷ xs) (rows ∷ more) all same =
      let here : by class first ≡ x = cc in
      let rest : map (by class) (range_with_len (first + 1) (length ts)) ≡ xs = cc in
      (table_of first t x rows here all.0, tables_from (first + 1) ts xs more all.1 rest)

pub as_many : (ts : List TriggerDecl) (own : List Table) (alphabets : List Alphabet) → AreCompiled ts own alphabets → length own ≡ length ts
as_many [] [] alphabets all = refl
as_many [] (x ∷ xs) alphabets all = absurd all
as_many (t ∷ ts) [] alphabets all = absurd all
as_many (t ∷ ts) (x ∷ xs) [] all = absurd all
as_many (t ∷ ts) (x ∷ xs) (rows ∷ more) all = ap suc (as_many ts xs more all.1)

pub own_mean : (c : Declared) (own : List Table) (alphabets : List Alphabet) (tables : ℕ → ℕ → Table) → AreCompiled c.class.triggers own alphabets
    → HasTables (tables_with c.class.number own tables) c
own_mean c own alphabets tables all =
    tables_from (tables_with c.class.number own tables) c.class.number 0 c.class.triggers own alphabets all
    (own_tables c own tables (as_many c.class.triggers own alphabets all))

-- ---- those of the others

agrees_at : (class : ℕ) (own : List Table) (tables : ℕ → ℕ → Table) (number : ℕ) → number < class → (ts : List (ℕ × TriggerDecl))
    → AllByRecursion (λ (t : Trigger). tables_with class own tables t.class t.place ≡ tables t.class t.place) (map (trigger_of number) ts)
agrees_at class own tables number less [] = tt
agrees_at class own tables number less (t ∷ ts) = (other_table class own tables number t.0 less, agrees_at class own tables number less ts)

all_agree : (class : ℕ) (own : List Table) (tables : ℕ → ℕ → Table) (cs : List Declared) → AreBefore class cs → AllByRecursion (AgreesOn tables (tables_with class own tables)) cs
all_agree class own tables [] before = tt
all_agree class own tables (d ∷ cs) before = (agrees_at class own tables d.class.number before.0 (enumerate_from 0 d.class.triggers), all_agree class own tables cs before.1)

-- ---- more classes

-- what an activation watches for, by the class that is found
abbrev watching : Activation → Option Class → Option Watch
watching a o = option_map (λ t. watch_of t a.args) (option_map (λ t. trigger_of a.class (a.trigger, t)) (option_and_then (λ (c : Class). slice_get c.triggers a.trigger) o))

watch_more : (cs more : List Declared) (a : Activation) (w : Watch) → watch_by cs a ≡ Some w → watch_by (cs ++ more) a ≡ Some w
watch_more cs more a w is = by_class (class_numbered a.class cs) (found_more a.class cs more) is where
  by_class : (o : Option Class) → ((k : Class) → o ≡ Some k → class_numbered a.class (cs ++ more) ≡ Some k) → watching a o ≡ Some w → watching a (class_numbered a.class (cs ++ more)) ≡ Some w
  by_class None known e = absurd (cc)
  by_class (Some k) known e = ap (watching a) (known k refl) ∙ e

module _ (tables : ℕ → ℕ → Table) (cs more : List Declared) where
  stays_more : (h : Histories) (a : Activation) (state : ℕ) (start : Starts) → Stays tables cs h a state start → Stays tables (cs ++ more) h a state start
  stays_more h a state start s = by_watch (watch_by cs a) refl s.sees where
    by_watch : (o : Option Watch) → watch_by cs a ≡ o → Sees tables cs h start state o → Stays tables (cs ++ more) h a state start
    by_watch None e seen = absurd seen
    by_watch (Some w) e seen = record { within = s.within; sees = subst (Sees tables (cs ++ more) h start state) (sym (watch_more cs more a w e)) seen }

  pasts_more : (os : List Object) (ks : List (ℕ × Kept (Unit {0}) ℕ)) (ls : List (ℕ × Kept Histories Starts)) → Pasts3 tables cs os ks ls → Pasts3 tables (cs ++ more) os ks ls
  pasts_more = rows_then id_of (Object3 tables cs) (Object3 tables (cs ++ more))
      (λ o k l rows. rows_then number_of (Stays tables cs l.own) (Stays tables (cs ++ more) l.own) (λ a state start s. stays_more l.own a state start s) o.activations k.activations l.activations rows)

pub stands_with : (tables : ℕ → ℕ → Table) (v : NumberWorld) (w : ListWorld) (c : Declared) (own : List Table) (alphabets : List Alphabet)
    → StandsAs tables v w → AreNumbered w.bones → AreBefore c.class.number w.bones.classes → AreCompiled c.class.triggers own alphabets
    → StandsAs (tables_with c.class.number own tables) (world_with c v) (world_with c w)
stands_with tables v w c own alphabets stands numbered before made =
    let cs = w.bones.classes in
    let os = w.bones.objects in
    let by : ℕ → ℕ → Table = tables_with c.class.number own tables in
    let alike : IsAlike by v w = alike_by tables by v w (record { stands = stands; numbered = numbered }) (all_agree c.class.number own tables cs before) in
    let parts : ArePasts by (cs ++ c ∷ []) os v.pasts w.pasts × AllZip IsPast os w.pasts =
    pasts_of_rows by (cs ++ c ∷ []) os v.pasts w.pasts
    (pasts_more by cs (c ∷ []) os v.pasts w.pasts (rows_of_pasts by cs os v.pasts w.pasts alike.stands.pasts alike.stands.within)) in
    record {
      bones = ap (bones_with c) stands.bones;
      mean = all-append (HasTables by) cs (c ∷ []) alike.stands.mean (own_mean c own alphabets tables made, tt);
      pasts = parts.0;
      within = parts.1;
    }
