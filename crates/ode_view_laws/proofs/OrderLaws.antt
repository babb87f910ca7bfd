-- A world's numbers go on rising, and its rows go on being those of its objects.
use Rattle.std.proofs.Common.{◌≡◌, ℕ, ◌+◌, ◌<◌, ◌≤◌, Bool, true, false, cond, List, [], ◌∷◌, ◌++◌, map, ◌==◌, Option, Some, None, refl, sym, ap, ◌∙◌, subst, arith}
use Rattle.std.specs.Prelude.{pos}
use Rattle.std.specs.List.{find}
use Rattle.std.proofs.lemmas.List.{map-append}
use Rattle.ode_laws.proofs.AlikePairs.{all_with, ids_same}
use Rattle.ode_laws.proofs.Alone.{Keeps, alone}
use Rattle.ode_laws.proofs.Each.{all-append, all-map, all-then}
use Rattle.ode_laws.proofs.Numbers.{rise_more}
use Rattle.ode_laws.proofs.SideActs.{Alike, Ends, changes_alike, done_alike, finds_ends, next_alike, object_alike, then_alike}
use Rattle.ode_laws.proofs.SidePosting.{derives_alike, drops_alike, field_alike, makes_alike, removes_alike, switches_off_alike, switches_on_alike}
use Rattle.ode_laws.proofs.Sides.{Sides, altered}
use Rattle.ode_laws.specs.Alike.{NumberTx, NumberWorld}
use Rattle.ode_value.specs.declared.event.Kind.{Kind}
use Rattle.ode_value.specs.declared.value.Ref.{Ref}
use Rattle.ode_value.specs.declared.value.Value.{Value}
use Rattle.ode_value.specs.declared.value.Value.TheVariants as value
use Rattle.ode_value.specs.Acts.{Act, Outcome, Done, Aborted, does, gives, nothing, reached}
use Rattle.ode_value.specs.Changes.{activation_keys, changes, draws_none, object}
use Rattle.ode_value.specs.Classes.{Trigger, trigger_named}
use Rattle.ode_value.specs.Firings.{arises, both_lists, grown_past}
use Rattle.ode_value.specs.GoodWorlds.{RiseFrom}
use Rattle.ode_value.specs.Making.{makes, derives, drops, object_with, removes, sets_field, stamp_now, switches_on, with_new, with_past}
use Rattle.ode_value.specs.Objects.{Activation}
use Rattle.ode_value.specs.Pasts.{Kept, numbers}
use Rattle.ode_value.specs.Posting.{joins}
use Rattle.ode_value.specs.Statements.{activates_initial, is_on, switches_off_found, switches_off_numbered, switches_on_named}
use Rattle.ode_value.specs.Tables.{Table}
use Rattle.ode_value.specs.Transactions.{touching}
use Rattle.ode_value.specs.Worlds.{Declared, Object, with_kept, with_object}
use Rattle.ode_view_laws.specs.Ordering.{IsOrdered, number_of, row_number}

abbrev Row : Type 0
Row = ℕ × Kept (Unit {0}) ℕ

rows_same : (id : ℕ) (f : Kept (Unit {0}) ℕ → Kept (Unit {0}) ℕ) (rows : List Row) → map row_number (with_kept id f rows) ≡ map row_number rows
rows_same id f [] = refl
rows_same id f (row ∷ rows) = by_test (row.0 == id) (rows_same id f rows) where
  by_test : (b : Bool) → map row_number (with_kept id f rows) ≡ map row_number rows → map row_number (cond b ((row.0, f row.1) ∷ rows) (row ∷ with_kept id f rows)) ≡ row.0 ∷ map row_number rows
  by_test true rest = refl
  by_test false rest = ap (λ (ns : List ℕ). row.0 ∷ ns) rest

abbrev Drawn : ℕ → Object → Type 0
Drawn next o = o.id < next

-- a change of an object and of what is kept of one
pub changed : (w : NumberWorld) (id next : ℕ) (f : Object → Object) → ((o : Object) → (f o).id ≡ o.id) → (at : ℕ) (g : Kept (Unit {0}) ℕ → Kept (Unit {0}) ℕ) → w.bones.next ≤ next → IsOrdered w
    → IsOrdered (record { bones = record w.bones { objects = with_object id f w.bones.objects; next = next }; pasts = with_kept at g w.pasts })
changed w id next f same at g more h = record {
  rising = subst (RiseFrom 0) (sym (ids_same id f same w.bones.objects)) h.rising;
  drawn =
      all-then (Drawn w.bones.next) (Drawn next) (λ o less. let below : o.id < w.bones.next = less in omega (arith, below, more)) (with_object id f w.bones.objects)
      (all_with (Drawn w.bones.next) id f (λ o less. subst (λ n. n < w.bones.next) (sym (same o)) less) w.bones.objects h.drawn);
  rows = rows_same at g w.pasts ∙ h.rows ∙ sym (ids_same id f same w.bones.objects);
}

altered_ordered : (y : NumberTx) (id : ℕ) (f : Object → Object) → ((o : Object) → (f o).id ≡ o.id) → IsOrdered y.now → IsOrdered (altered id f y).now
altered_ordered y id f same h = record {
  rising = subst (RiseFrom 0) (sym (ids_same id f same y.now.bones.objects)) h.rising;
  drawn = all_with (Drawn y.now.bones.next) id f (λ o less. subst (λ n. n < y.now.bones.next) (sym (same o)) less) y.now.bones.objects h.drawn;
  rows = h.rows ∙ sym (ids_same id f same y.now.bones.objects);
}

module _ (tables : ℕ → ℕ → Table) where
  made_ordered : (w : NumberWorld) (class : ℕ) (fields : List Value) → IsOrdered w → IsOrdered (with_new (numbers tables) class fields w)
  made_ordered w class fields h =
      let new = object_with (stamp_now w.bones) w.bones.next class fields in
      let row : Row = (w.bones.next, record { own = tt; activations = [] }) in
      record {
        rising =
            subst (RiseFrom 0) (sym (map-append number_of w.bones.objects (new ∷ [])))
            (rise_more 0 w.bones.next (map number_of w.bones.objects) (omega arith) h.rising (all-map (λ n. n < w.bones.next) number_of w.bones.objects h.drawn));
        drawn =
            all-append (Drawn (w.bones.next + 1)) w.bones.objects (new ∷ [])
            (all-then (Drawn w.bones.next) (Drawn (w.bones.next + 1)) (λ o less. let below : o.id < w.bones.next = less in omega (arith, below)) w.bones.objects h.drawn) (omega arith, tt);
        rows =
            map-append row_number w.pasts (row ∷ []) ∙ ap (λ (ns : List ℕ). ns ++ w.bones.next ∷ []) h.rows
            ∙ sym (map-append number_of w.bones.objects (new ∷ []));
      }

  abbrev pub Ordering : ℕ → NumberTx → Type 0
  Ordering n y = IsOrdered y.now

  pub ordering_keeps : Keeps (numbers tables) Ordering
  ordering_keeps = record {
    less = λ n x h. h;
    statement = λ n x h more. h;
    foot = λ n x change h. h;
    line = λ n x line h fits. h;
    keys = λ n x keys h fits. h;
    touch = λ n x id h. h;
    defer = λ n x f h more. h;
    collect = λ n x independent f h room. h;
    set = λ n x r v place value h is small. altered_ordered x r.object _ (λ o. refl) h;
    derive = λ n x r v o h is there more small. altered_ordered x o.id _ (λ q. refl) h;
    drop = λ n x r v o h is there more. altered_ordered x o.id _ (λ q. refl) h;
    remove = λ n x id h. altered_ordered x id _ (λ o. refl) h;
    off = λ n x id number h. altered_ordered x id _ (λ o. refl) h;
    new = λ n x class fields h left small. made_ordered x.now class fields h;
    active = λ n x id t args h left short. changed x.now id (x.now.bones.next + 1) _ (λ o. refl) id (with_past (numbers tables) x.now.bones.next) (omega arith) h;
    point = λ n x id p o firings h there.
        changed x.now id x.now.bones.next _ (λ q. refl) o.id (grown_past (numbers tables) (both_lists (numbers tables)) p x.now.bones.classes o) (omega arith) h;
  }

  abbrev pub side : List Declared → Sides (Unit {0}) ℕ (Unit {0}) ℕ
  side cs = alone (numbers tables) Ordering ordering_keeps cs

  ends_ordered : {X : Type 0} (cs : List Declared) (p : Outcome (Unit {0}) ℕ X) → Ends (side cs) 0 p p → IsOrdered (reached p).now
  ends_ordered cs (Done r y) h = h.1.2
  ends_ordered cs (Aborted r y) h = h.1.2

  abbrev pub KeepsOrder : {X : Type 0} → Act (Unit {0}) ℕ X → Type 0
  KeepsOrder a = (y : NumberTx) → IsOrdered y.now → IsOrdered (reached (a y)).now

  pub keeps_order : {X : Type 0} (n : ℕ) (a : Act (Unit {0}) ℕ X) → ((cs : List Declared) → Alike (side cs) n 0 a a) → KeepsOrder a
  keeps_order n a alike y h = let cs = y.now.bones.classes in ends_ordered cs (a y) (alike cs y y (refl, refl, h))

  -- ---- the acts of a transaction

  sets_tidy : (r : Ref) (place : ℕ) (v : Value) → KeepsOrder (sets_field r place v)
  sets_tidy r place v = keeps_order 0 (sets_field r place v) (λ cs. field_alike (side cs) 0 r place v)

  derives_tidy : (r : Ref) → KeepsOrder (derives r)
  derives_tidy r = keeps_order 0 (derives r) (λ cs. derives_alike (side cs) 0 r)

  drops_tidy : (r : Ref) → KeepsOrder (drops r)
  drops_tidy r = keeps_order 0 (drops r) (λ cs. drops_alike (side cs) 0 r)

  removes_tidy : (id : ℕ) → KeepsOrder (removes id)
  removes_tidy id = keeps_order 0 (removes id) (λ cs. removes_alike (side cs) 0 id)

  pub makes_tidy : (class : ℕ) (fields : List Value) → KeepsOrder (makes (numbers tables) class fields)
  makes_tidy class fields = keeps_order 1 (makes (numbers tables) class fields) (λ cs. makes_alike (side cs) 0 class fields)

  joins_tidy : (id : ℕ) → KeepsOrder (joins id)
  joins_tidy id =
      keeps_order 1 (joins id) (λ cs.
      then_alike (side cs) 1 1 0 (object id) (object id) (object_alike (side cs) 1 id) _ _ (λ o.
      next_alike (side cs) 1 1 0 (changes (activation_keys o) 0 draws_none) (changes (activation_keys o) 0 draws_none) (changes_alike (side cs) 1 (activation_keys o) 0 draws_none)
      (does (touching id)) (does (touching id)) (λ y x r. (refl, (side cs).touch 0 y x id r))))

  pub initial_tidy : (id : ℕ) (t : Trigger) → KeepsOrder (activates_initial (numbers tables) id t)
  initial_tidy id t =
      keeps_order 0 (activates_initial (numbers tables) id t) (λ cs.
      then_alike (side cs) 0 0 0 (switches_on (numbers tables) id t []) (switches_on (numbers tables) id t []) (switches_on_alike (side cs) 0 id t [] tt) (λ _. nothing) (λ _. nothing) (λ _. done_alike (side cs) 0 tt))

  pub named_tidy : (r : Ref) (name : List ℕ) (args : List Value) → KeepsOrder (switches_on_named (numbers tables) r name args)
  unfolding switches_on_named
  named_tidy r name args =
      keeps_order 0 (switches_on_named (numbers tables) r name args) (λ cs.
      then_alike (side cs) 0 0 0 (object r.object) (object r.object) (object_alike (side cs) 0 r.object) _ _ (λ o y x h.
      finds_ends (side cs) 0 0 (λ b. trigger_named b.classes o.class name) _ _ y x h (λ t is.
      then_alike (side cs) 0 0 0 (switches_on (numbers tables) r.object t args) (switches_on (numbers tables) r.object t args) (switches_on_alike (side cs) 0 r.object t args tt)
      (λ number. gives (value.Int (pos number))) (λ number. gives (value.Int (pos number))) (λ number. done_alike (side cs) 0 (value.Int (pos number))) y x h)))

  pub off_tidy : (r : Ref) (v : Value) → KeepsOrder (switches_off_numbered (numbers tables) r v)
  unfolding switches_off_numbered
  off_tidy r v =
      keeps_order 0 (switches_off_numbered (numbers tables) r v) (λ cs.
      then_alike (side cs) 0 0 0 (object r.object) (object r.object) (object_alike (side cs) 0 r.object) _ _ (λ o. by_found cs (find (is_on v) o.activations)))
    where
      by_found : (cs : List Declared) (a : Option Activation) → Alike (side cs) 0 0 (switches_off_found (numbers tables) r.object a) (switches_off_found (numbers tables) r.object a)
      by_found cs None = done_alike (side cs) 0 tt
      by_found cs (Some a) = switches_off_alike (side cs) 0 r.object a

  pub arises_tidy : (id : ℕ) (kind : Kind) (args : List Value) → KeepsOrder (arises (numbers tables) (both_lists (numbers tables)) id kind args)
  arises_tidy id kind args =
      keeps_order 0 (arises (numbers tables) (both_lists (numbers tables)) id kind args) (λ cs y x r. (side cs).point 0 y x id kind args r)

-- ---- those that ask for no table

no_tables : ℕ → ℕ → Table
no_tables class trigger = record { states = 0; symbols = 0; next = []; yes = [] }

pub set_tidy : (r : Ref) (place : ℕ) (v : Value) (y : NumberTx) → IsOrdered y.now → IsOrdered (reached (sets_field r place v y)).now
set_tidy = sets_tidy no_tables

pub derive_tidy : (r : Ref) (y : NumberTx) → IsOrdered y.now → IsOrdered (reached (derives r y)).now
derive_tidy = derives_tidy no_tables

pub drop_tidy : (r : Ref) (y : NumberTx) → IsOrdered y.now → IsOrdered (reached (drops r y)).now
drop_tidy = drops_tidy no_tables

pub remove_tidy : (id : ℕ) (y : NumberTx) → IsOrdered y.now → IsOrdered (reached (removes id y)).now
remove_tidy = removes_tidy no_tables

pub join_tidy : (id : ℕ) (y : NumberTx) → IsOrdered y.now → IsOrdered (reached (joins id y)).now
join_tidy = joins_tidy no_tables
