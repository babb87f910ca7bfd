-- Two worlds, over numbers and over lists, that stay alike over each change.
use Rattle.std.proofs.Common.{◌≡◌, ℕ, ◌+◌, ◌<◌, ◌≤◌, Bool, true, false, cond, List, [], ◌∷◌, ◌++◌, map, ◌==◌, Option, Some, None, refl, sym, ap, ◌∙◌, subst, arith}
use Rattle.std.specs.List.{AllByRecursion, AllZip, find}
use Rattle.std.specs.Option.{option_map, option_map_or}
use Rattle.std.proofs.lemmas.Bool.{eq-eqb}
use Rattle.std.proofs.lemmas.List.{map-append}
use Rattle.ode_value.specs.declared.event.Point.{Point}
use Rattle.ode_value.specs.declared.value.Value.{Value}
use Rattle.ode_value.specs.Classes.{Trigger, watch_of}
use Rattle.ode_value.specs.Denoting.{object_numbered}
use Rattle.ode_value.specs.Firings.{watch_by, watch_at, Place, grown_past, fired_in}
use Rattle.ode_value.specs.GoodWorlds.{RiseFrom}
use Rattle.ode_value.specs.Making.{drawn, stamp_now, object_with, with_activation, with_past}
use Rattle.ode_value.specs.Objects.{Activation, Histories, Starts, new_starts}
use Rattle.ode_value.specs.Pasts.{Kept, Watch, lists, numbers}
use Rattle.ode_value.specs.Tables.{Table}
use Rattle.ode_value.specs.Worlds.{Declared, Object, Bones, World, with_object, kept_at, with_kept}
use Rattle.ode_value.proofs.PastLaws.{begin_stands}
use Rattle.ode_codec.specs.Standing.{HasTables}
use Rattle.ode_laws.specs.Alike.{StaysActive, StaysIn}
use Rattle.ode_laws.specs.Numbered.{HasNumbers, AreNumbered}
use Rattle.ode_laws.proofs.AlikeRows.{fired_alike, number_of, Sees, Stays, Object3, Pasts3, Places, past_grown, watch_means}
use Rattle.ode_laws.proofs.Each.{all-append, all-then, all-map}
use Rattle.ode_laws.proofs.Numbers.{IsPlaced, rise_more}
use Rattle.ode_laws.proofs.Rows.{Rows, id_of, Found, rows_at, numbered_find, rows_left, rows_more, rows_altered, rows_with, rows_kept, find-with, find-append, find-map, kept-append, kept-with, kept-map, numbered-append}

-- ---- changes of an object that keep its number, and its activations but for which are on

pub record IsGentle (f : Object → Object) : Type 0 where
  pub id : (o : Object) → (f o).id ≡ o.id
  pub each : Object → Activation → Activation
  pub activations : (o : Object) → (f o).activations ≡ map (each o) o.activations
  pub same : (o : Object) (a : Activation) → record (each o a) { on = a.on } ≡ a

same_number : (f : Object → Object) (g : IsGentle f) (o : Object) (a : Activation) → (g.each o a).number ≡ a.number
same_number f g o a = ap (λ (b : Activation). b.number) (g.same o a)

map_numbers : (number : Activation → ℕ) (e : Activation → Activation) → ((a : Activation) → number (e a) ≡ number a) → (acts : List Activation) → map number (map e acts) ≡ map number acts
map_numbers number e same [] = refl
map_numbers number e same (a ∷ acts) = ap (λ n. n ∷ map number (map e acts)) (same a) ∙ ap (λ ns. number a ∷ ns) (map_numbers number e same acts)

all_numbers : (P : ℕ → Type 0) (e : Activation → Activation) → ((a : Activation) → (e a).number ≡ a.number) → (acts : List Activation)
    → AllByRecursion (λ (a : Activation). P a.number) acts → AllByRecursion (λ (a : Activation). P a.number) (map e acts)
all_numbers P e same [] all = tt
all_numbers P e same (a ∷ acts) all = (subst P (sym (same a)) all.0, all_numbers P e same acts all.1)

gentle_numbers : (f : Object → Object) (g : IsGentle f) (next : ℕ) (o : Object) → HasNumbers next o → HasNumbers next (f o)
gentle_numbers f g next o h = record {
  drawn = subst (λ n. n < next) (sym (g.id o)) h.drawn;
  rising = subst (λ acts. RiseFrom 0 (map number_of acts)) (sym (g.activations o)) (subst (RiseFrom 0) (sym (map_numbers number_of (g.each o) (same_number f g o) o.activations)) h.rising);
  activations = subst (AllByRecursion (λ (a : Activation). a.number < next)) (sym (g.activations o)) (all_numbers (λ n. n < next) (g.each o) (same_number f g o) o.activations h.activations);
}

pub ids_same : (id : ℕ) (f : Object → Object) → ((o : Object) → (f o).id ≡ o.id) → (os : List Object) → map id_of (with_object id f os) ≡ map id_of os
ids_same id f same [] = refl
ids_same id f same (o ∷ os) = by_test (o.id == id) (ids_same id f same os) where
  by_test : (b : Bool) → map id_of (with_object id f os) ≡ map id_of os → map id_of (cond b (f o ∷ os) (o ∷ with_object id f os)) ≡ o.id ∷ map id_of os
  by_test true rest = ap (λ n. n ∷ map id_of os) (same o)
  by_test false rest = ap (λ ns. o.id ∷ ns) rest

pub all_with : (P : Object → Type 0) (id : ℕ) (f : Object → Object) → ((o : Object) → P o → P (f o)) → (os : List Object) → AllByRecursion P os → AllByRecursion P (with_object id f os)
all_with P id f keeps [] all = tt
all_with P id f keeps (o ∷ os) all = by_test (o.id == id) (all_with P id f keeps os all.1) where
  by_test : (b : Bool) → AllByRecursion P (with_object id f os) → AllByRecursion P (cond b (f o ∷ os) (o ∷ with_object id f os))
  by_test true rest = (keeps o all.0, all.1)
  by_test false rest = (all.0, rest)

abbrev pub altered_bones : ℕ → (Object → Object) → Bones → Bones
altered_bones id f b = record b { objects = with_object id f b.objects }

pub gentle_numbered : (id : ℕ) (f : Object → Object) → IsGentle f → (b : Bones) → AreNumbered b → AreNumbered (altered_bones id f b)
gentle_numbered id f g b n = record {
  classes = n.classes;
  rising = subst (RiseFrom 0) (sym (ids_same id f g.id b.objects)) n.rising;
  objects = all_with (HasNumbers b.next) id f (gentle_numbers f g b.next) b.objects n.objects;
}

-- ---- what stays of the first world

pub zip_then : {X Y : Type 0} (P Q : X → Y → Type 0) → ((x : X) (y : Y) → P x y → Q x y) → (xs : List X) (ys : List Y) → AllZip P xs ys → AllZip Q xs ys
zip_then P Q then [] [] zip = tt
zip_then P Q then (x ∷ xs) (y ∷ ys) zip = (then x y zip.0, zip_then P Q then xs ys zip.1)
zip_then P Q then [] (y ∷ ys) zip = absurd zip
zip_then P Q then (x ∷ xs) [] zip = absurd zip

gentle_active : (f : Object → Object) (g : IsGentle f) (p : Object) (kept : Kept Histories Starts) (a : Activation) (row : ℕ × Starts) → StaysActive p kept a row → StaysActive (f p) kept a row
gentle_active f g p kept a row s = record {
  now = g.each p s.now;
  found =
      ap (find (λ (b : Activation). b.number == a.number)) (g.activations p)
      ∙ find-map (λ (b : Activation). b.number == a.number) (λ (b : Activation). b.number == a.number) (g.each p) (λ b. ap (λ n. n == a.number) (same_number f g p b)) p.activations
      ∙ ap (option_map (g.each p)) s.found;
  same = ap (λ (b : Activation). record b { on = a.on }) (g.same p s.now) ∙ s.same;
  start = s.start;
}

pub gentle_stays : (id : ℕ) (f : Object → Object) → IsGentle f → (w : World Histories Starts) (o : Object) (row : ℕ × Kept Histories Starts)
    → StaysIn w o row → StaysIn (record w { bones = altered_bones id f w.bones }) o row
gentle_stays id f g w o row s = record {
  object = cond (o.id == id) (f s.object) s.object;
  found = find-with o.id id f g.id w.bones.objects s.object s.found;
  past = s.past;
  kept = s.kept;
  activations = by_test (o.id == id);
}
  where
    by_test : (b : Bool) → AllZip (StaysActive (cond b (f s.object) s.object) s.past) o.activations row.1.activations
    by_test true = zip_then (StaysActive s.object s.past) (StaysActive (f s.object) s.past) (gentle_active f g s.object s.past) o.activations row.1.activations s.activations
    by_test false = s.activations

-- a new object
pub new_stays : (w : World Histories Starts) (bones : Bones) (new : Object) (past : ℕ × Kept Histories Starts) → bones.objects ≡ w.bones.objects ++ new ∷ [] → (o : Object) (row : ℕ × Kept Histories Starts)
    → StaysIn w o row → StaysIn (record { bones = bones; pasts = w.pasts ++ past ∷ [] }) o row
new_stays w bones new past is o row s = record {
  object = s.object;
  found = ap (object_numbered o.id) is ∙ numbered-append o.id w.bones.objects (new ∷ []) s.object s.found;
  past = s.past;
  kept = kept-append o.id w.pasts (past ∷ []) s.past s.kept;
  activations = s.activations;
}

-- a new activation
active_stays : (t : Trigger) (args : List Value) (next : ℕ) (start : Starts) (p : Object) (kept : Kept Histories Starts) (a : Activation) (row : ℕ × Starts)
    → StaysActive p kept a row → StaysActive (with_activation t args next p) (record kept { activations = kept.activations ++ (next, start) ∷ [] }) a row
active_stays t args next start p kept a row s = record {
  now = s.now;
  found = find-append (λ (b : Activation). b.number == a.number) p.activations (record { number = next; class = t.class; trigger = t.place; args = args; on = true } ∷ []) s.now s.found;
  same = s.same;
  start = kept-append a.number kept.activations ((next, start) ∷ []) row.1 s.start;
}

pub with_active_stays : (w : World Histories Starts) (bones : Bones) (id next : ℕ) (t : Trigger) (args : List Value) (begin : Histories → Starts) → bones.objects ≡ with_object id (with_activation t args next) w.bones.objects
    → (o : Object) (row : ℕ × Kept Histories Starts)
    → StaysIn w o row → StaysIn (record { bones = bones; pasts = with_kept id (λ (kept : Kept Histories Starts). record kept { activations = kept.activations ++ (next, begin kept.own) ∷ [] }) w.pasts }) o row
with_active_stays w bones id next t args begin is o row s = record {
  object = cond (o.id == id) (with_activation t args next s.object) s.object;
  found = ap (object_numbered o.id) is ∙ find-with o.id id (with_activation t args next) (λ p. refl) w.bones.objects s.object s.found;
  past = cond (o.id == id) (more s.past) s.past;
  kept = kept-with o.id id more w.pasts s.past s.kept;
  activations = by_test (o.id == id);
}
  where
    more : Kept Histories Starts → Kept Histories Starts
    more kept = record kept { activations = kept.activations ++ (next, begin kept.own) ∷ [] }

    by_test : (b : Bool) → AllZip (StaysActive (cond b (with_activation t args next s.object) s.object) (cond b (more s.past) s.past)) o.activations row.1.activations
    by_test true =
        zip_then (StaysActive s.object s.past) (StaysActive (with_activation t args next s.object) (more s.past)) (active_stays t args next (begin s.past.own) s.object s.past) o.activations row.1.activations s.activations
    by_test false = s.activations

-- a point of an object
module _ (l : Place Histories Starts) (stays : (w : Watch) (start : Starts) (p : Point) → l.step p w start ≡ start) (p : Point) (cs : List Declared) (o : Object) where
  step_same : (v : Option Watch) (start : Starts) → option_map_or (λ w. l.step p w start) v start ≡ start
  step_same None start = refl
  step_same (Some w) start = stays w start p

  point_active : (q : Object) (kept : Kept Histories Starts) (a : Activation) (row : ℕ × Starts) → StaysActive q kept a row → StaysActive q (grown_past lists l p cs o kept) a row
  point_active q kept a row s = record {
    now = s.now;
    found = s.found;
    same = s.same;
    start =
        kept-map a.number (λ (r : ℕ × Starts). (r.0, option_map_or (λ w. l.step p w r.1) (watch_at cs o r.0) r.1)) (λ r. refl) kept.activations row.1 s.start
        ∙ ap (λ t. Some t) (step_same (watch_at cs o a.number) row.1);
  }

  pub point_stays : (w : World Histories Starts) (id : ℕ) (q : Object) (row : ℕ × Kept Histories Starts) → StaysIn w q row → StaysIn (record w { pasts = with_kept id (grown_past lists l p cs o) w.pasts }) q row
  point_stays w id q row s = record {
    object = s.object;
    found = s.found;
    past = cond (q.id == id) (grown_past lists l p cs o s.past) s.past;
    kept = kept-with q.id id (grown_past lists l p cs o) w.pasts s.past s.kept;
    activations = by_test (q.id == id);
  }
    where
      by_test : (b : Bool) → AllZip (StaysActive s.object (cond b (grown_past lists l p cs o s.past) s.past)) q.activations row.1.activations
      by_test true = zip_then (StaysActive s.object s.past) (StaysActive s.object (grown_past lists l p cs o s.past)) (point_active s.object s.past) q.activations row.1.activations s.activations
      by_test false = s.activations

-- ---- pairs of worlds

pub all_found : (P : Object → Type 0) (id : ℕ) (os : List Object) → AllByRecursion P os → (o : Object) → object_numbered id os ≡ Some o → P o
all_found P id [] all o is = absurd (cc)
all_found P id (p ∷ os) all o is = by_test (p.id == id) is (all_found P id os all.1 o) where
  by_test : (b : Bool) → cond b (Some p) (object_numbered id os) ≡ Some o → (object_numbered id os ≡ Some o → P o) → P o
  by_test true e rest = let it : p ≡ o = cc in subst P it all.0
  by_test false e rest = rest e

more_numbers : (low next : ℕ) → low ≤ next → (o : Object) → HasNumbers low o → HasNumbers next o
more_numbers low next less o h = record {
  drawn = let here : o.id < low = h.drawn in omega arith;
  rising = h.rising;
  activations = all-then (λ (a : Activation). a.number < low) (λ (a : Activation). a.number < next) (λ a below. omega arith) o.activations h.activations;
}

all_with_then : (P Q : Object → Type 0) (id : ℕ) (f : Object → Object) → ((o : Object) → P o → Q (f o)) → ((o : Object) → P o → Q o) → (os : List Object) → AllByRecursion P os → AllByRecursion Q (with_object id f os)
all_with_then P Q id f keeps rest [] all = tt
all_with_then P Q id f keeps rest (o ∷ os) all = by_test (o.id == id) (all_with_then P Q id f keeps rest os all.1) where
  by_test : (b : Bool) → AllByRecursion Q (with_object id f os) → AllByRecursion Q (cond b (f o ∷ os) (o ∷ with_object id f os))
  by_test true more = (keeps o all.0, all-then P Q rest os all.1)
  by_test false more = (rest o all.0, more)

pub new_numbered : (b : Bones) (class : ℕ) (fields : List Value) → AreNumbered b → AreNumbered (drawn (record b { objects = b.objects ++ object_with (stamp_now b) b.next class fields ∷ [] }))
new_numbered b class fields n = record {
  classes = n.classes;
  rising =
      subst (RiseFrom 0) (sym (map-append id_of b.objects (object_with (stamp_now b) b.next class fields ∷ [])))
      (rise_more 0 b.next (map id_of b.objects) (omega arith) n.rising
      (all-map (λ m. m < b.next) id_of b.objects (all-then (HasNumbers b.next) (λ (o : Object). o.id < b.next) (λ o h. h.drawn) b.objects n.objects)));
  objects =
      all-append (HasNumbers (b.next + 1)) b.objects (object_with (stamp_now b) b.next class fields ∷ [])
      (all-then (HasNumbers b.next) (HasNumbers (b.next + 1)) (more_numbers b.next (b.next + 1) (omega arith)) b.objects n.objects)
      (record { drawn = omega arith; rising = tt; activations = tt }, tt);
}

active_numbers : (t : Trigger) (args : List Value) (next : ℕ) (o : Object) → HasNumbers next o → HasNumbers (next + 1) (with_activation t args next o)
active_numbers t args next o h = record {
  drawn = let here : o.id < next = h.drawn in omega arith;
  rising =
      subst (RiseFrom 0) (sym (map-append number_of o.activations (record { number = next; class = t.class; trigger = t.place; args = args; on = true } ∷ [])))
      (rise_more 0 next (map number_of o.activations) (omega arith) h.rising (all-map (λ m. m < next) number_of o.activations h.activations));
  activations =
      all-append (λ (a : Activation). a.number < next + 1) o.activations (record { number = next; class = t.class; trigger = t.place; args = args; on = true } ∷ [])
      (all-then (λ (a : Activation). a.number < next) (λ (a : Activation). a.number < next + 1) (λ a below. omega arith) o.activations h.activations) (omega arith, tt);
}

pub active_numbered : (b : Bones) (id : ℕ) (t : Trigger) (args : List Value) → AreNumbered b → AreNumbered (drawn (record b { objects = with_object id (with_activation t args b.next) b.objects }))
active_numbered b id t args n = record {
  classes = n.classes;
  rising = subst (RiseFrom 0) (sym (ids_same id (with_activation t args b.next) (λ o. refl) b.objects)) n.rising;
  objects =
      all_with_then (HasNumbers b.next) (HasNumbers (b.next + 1)) id (with_activation t args b.next) (active_numbers t args b.next)
      (more_numbers b.next (b.next + 1) (omega arith)) b.objects n.objects;
}

module _ (tables : ℕ → ℕ → Table) (classes : List Declared) where
  -- the objects with their pasts, and numbers that tell them apart
  pub record Pair (b : Bones) (ks : List (ℕ × Kept (Unit {0}) ℕ)) (ls : List (ℕ × Kept Histories Starts)) : Type 0 where
    pub rows : Pasts3 tables classes b.objects ks ls
    pub numbered : AreNumbered b

  gentle_sees : (f : Object → Object) (g : IsGentle f) (o : Object) (h : Histories) (a : Activation) (state : ℕ) (start : Starts) → Stays tables classes h a state start → Stays tables classes h (g.each o a) state start
  gentle_sees f g o h a state start s =
      let same : watch_by classes (g.each o a) ≡ watch_by classes a = ap (watch_by classes) (g.same o a) in
      record { within = s.within; sees = subst (Sees tables classes h start state) (sym same) s.sees }

  pub gentle_object : (f : Object → Object) (g : IsGentle f) (o : Object) (k : Kept (Unit {0}) ℕ) (l : Kept Histories Starts) → Object3 tables classes o k l → Object3 tables classes (f o) k l
  gentle_object f g o k l rows =
      subst (λ acts. Rows number_of (Stays tables classes l.own) acts k.activations l.activations) (sym (g.activations o))
      (rows_left number_of (Stays tables classes l.own) (Stays tables classes l.own) (g.each o) (same_number f g o) (gentle_sees f g o l.own) o.activations k.activations l.activations rows)

  pub gentle_pair : (id : ℕ) (f : Object → Object) → IsGentle f → (b : Bones) (ks : List (ℕ × Kept (Unit {0}) ℕ)) (ls : List (ℕ × Kept Histories Starts)) → Pair b ks ls → Pair (altered_bones id f b) ks ls
  gentle_pair id f g b ks ls pair = record {
    rows = rows_altered (Object3 tables classes) id f g.id (gentle_object f g) b.objects ks ls pair.rows;
    numbered = gentle_numbered id f g b pair.numbered;
  }

  pub new_pair : (b : Bones) (class : ℕ) (fields : List Value) (ks : List (ℕ × Kept (Unit {0}) ℕ)) (ls : List (ℕ × Kept Histories Starts)) → Pair b ks ls
      → Pair (drawn (record b { objects = b.objects ++ object_with (stamp_now b) b.next class fields ∷ [] }))
      (ks ++ (b.next, record { own = tt; activations = [] }) ∷ []) (ls ++ (b.next, record { own = lists.empty; activations = [] }) ∷ [])
  new_pair b class fields ks ls pair = record {
    rows = rows_more id_of (Object3 tables classes) b.objects ks ls pair.rows (object_with (stamp_now b) b.next class fields) (record { own = tt; activations = [] }) (record { own = lists.empty; activations = [] }) tt;
    numbered = new_numbered b class fields pair.numbered;
  }

  module _ (mean : AllByRecursion (HasTables tables) classes) where
    begins : (t : Trigger) → IsPlaced classes t → (args : List Value) (number : ℕ) (h : Histories)
        → Stays tables classes h (record { number = number; class = t.class; trigger = t.place; args = args; on = true }) 0 (new_starts h)
    begins t placed args number h =
        let new : Activation = record { number = number; class = t.class; trigger = t.place; args = args; on = true } in
        let is : watch_by classes new ≡ Some (watch_of t args) = ap (option_map (λ u. watch_of u args)) placed in
        record {
          within = record { whole = omega arith; committed = omega arith };
          sees = subst (Sees tables classes h (new_starts h) 0) (sym is) (begin_stands tables (watch_of t args) (watch_means tables classes mean new (watch_of t args) is) h);
        }

    pub active_pair : (b : Bones) (id : ℕ) (t : Trigger) → IsPlaced classes t → (args : List Value) (ks : List (ℕ × Kept (Unit {0}) ℕ)) (ls : List (ℕ × Kept Histories Starts)) → Pair b ks ls
        → Pair (drawn (record b { objects = with_object id (with_activation t args b.next) b.objects }))
        (with_kept id (with_past (numbers tables) b.next) ks) (with_kept id (with_past lists b.next) ls)
    active_pair b id t placed args ks ls pair = record {
      rows =
          rows_with (Object3 tables classes) id (with_activation t args b.next) (with_past (numbers tables) b.next) (with_past lists b.next) (λ o. refl)
          (λ o k l is rows. rows_more number_of (Stays tables classes l.own) o.activations k.activations l.activations rows
          (record { number = b.next; class = t.class; trigger = t.place; args = args; on = true }) 0 (new_starts l.own) (begins t placed args b.next l.own))
          b.objects ks ls pair.rows;
      numbered = active_numbered b id t args pair.numbered;
    }

    module _ (k : Place (Unit {0}) ℕ) (l : Place Histories Starts) (places : Places tables classes mean k l) (p : Point) where
      pub point_pair : (b : Bones) (o : Object) → object_numbered o.id b.objects ≡ Some o → (ks : List (ℕ × Kept (Unit {0}) ℕ)) (ls : List (ℕ × Kept Histories Starts)) → Pair b ks ls
          → Pair b (with_kept o.id (grown_past (numbers tables) k p classes o) ks) (with_kept o.id (grown_past lists l p classes o) ls)
      point_pair b o found ks ls pair = record {
        rows =
            rows_kept (Object3 tables classes) o.id o (grown_past (numbers tables) k p classes o) (grown_past lists l p classes o)
            (past_grown tables classes mean k l places p o (all_found (HasNumbers b.next) o.id b.objects pair.numbered.objects o found).rising) b.objects ks ls found pair.rows;
        numbered = pair.numbered;
      }

      -- both worlds decide the same firings
      pub fired_pair : RiseFrom 0 (map (λ (d : Declared). d.class.number) classes)
          → (b : Bones) (o : Object) → object_numbered o.id b.objects ≡ Some o → (ks : List (ℕ × Kept (Unit {0}) ℕ)) (ls : List (ℕ × Kept Histories Starts)) → Pair b ks ls
          → option_map_or (fired_in (numbers tables) k o classes) (kept_at o.id (with_kept o.id (grown_past (numbers tables) k p classes o) ks)) []
          ≡ option_map_or (fired_in lists l o classes) (kept_at o.id (with_kept o.id (grown_past lists l p classes o) ls)) []
      fired_pair rising b o found ks ls pair =
          let at : Found id_of (Object3 tables classes) o (kept_at o.id ks) (kept_at o.id ls) = rows_at id_of (Object3 tables classes) o.id b.objects ks ls pair.rows o (sym (numbered_find o.id b.objects) ∙ found) in
          let self : (o.id == o.id) ≡ true = eq-eqb o.id o.id refl in
          ap (λ s. option_map_or (fired_in (numbers tables) k o classes) s [])
          (kept-with o.id o.id (grown_past (numbers tables) k p classes o) ks at.k at.k_is ∙ ap (λ c. Some (cond c (grown_past (numbers tables) k p classes o at.k) at.k)) self)
          ∙ fired_alike tables classes mean k l places p o (all_found (HasNumbers b.next) o.id b.objects pair.numbered.objects o found).rising at.k at.l at.holds rising
          ∙ sym (ap (λ s. option_map_or (fired_in lists l o classes) s [])
          (kept-with o.id o.id (grown_past lists l p classes o) ls at.l at.l_is ∙ ap (λ c. Some (cond c (grown_past lists l p classes o at.l) at.l)) self))
