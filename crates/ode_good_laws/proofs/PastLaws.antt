-- The starts of activations' views stay within the lists of points.
use Rattle.std.proofs.Common.{◌≡◌, ℕ, ◌<◌, ◌≤◌, Bool, true, false, cond, List, [], ◌∷◌, ◌++◌, map, length, ◌==◌, Option, Some, None, refl, sym, ap, ◌∙◌, subst, arith}
use Rattle.std.specs.List.{AllByRecursion, AllZip, filter, find, filter_map, cons_option}
use Rattle.std.specs.Option.{option_map, option_map_or, unwrap_or}
use Rattle.std.proofs.lemmas.List.{length-append}
use Rattle.ode_value.specs.declared.event.Kind.{Kind}
use Rattle.ode_value.specs.declared.event.Kind.TheVariants.{TCommit, TAbort}
use Rattle.ode_value.specs.declared.event.Point.{Point}
use Rattle.ode_value.specs.declared.reason.Reason.{Reason}
use Rattle.ode_value.specs.declared.value.Value.{Value}
use Rattle.ode_value.specs.Acts.{Act, go_on, ◌>>=◌, ◌>>◌, gives, reads, turns, found, with_line, with_statement}
use Rattle.ode_value.specs.Changes.{holding, alters_object}
use Rattle.ode_value.specs.Classes.{Trigger}
use Rattle.ode_value.specs.Denoting.{object_at}
use Rattle.ode_value.specs.Firings.{new_point, object_after, changed_row, watch_at, Place, both_lists, whole_list, grown_past, with_point, fired, arises}
use Rattle.ode_value.specs.GoodWorlds.{RiseFrom, IsStart, IsPast}
use Rattle.ode_value.specs.Keeping.{is_active, is_there, has_activation, kept_object, kept_bones, kept_past, kept_row, kept_world, with_last, back, rewound_past, rewound_row}
use Rattle.ode_value.specs.Language.{ListWorld, ListTx}
use Rattle.ode_value.specs.Making.{derived_from, object_with, with_activation, with_past, with_new, with_active}
use Rattle.ode_value.specs.Objects.{Activation, Histories, Starts, IsWithin}
use Rattle.ode_value.specs.Pasts.{Kept, Watch, lists}
use Rattle.ode_value.specs.Posting.{with_deferred, with_entry}
use Rattle.ode_value.specs.Settling.{settled_world, posted, commit, abort, committed, aborted}
use Rattle.ode_value.specs.Transactions.{Firing, Origin, begun, touching, footed}
use Rattle.ode_value.specs.Worlds.{Declared, Object, Bones, kept_at, with_kept, with_object}
use Rattle.ode_laws.specs.Numbered.{HasNumbers, AreNumbered}
use Rattle.ode_laws.proofs.Alone.{Keeps}
use Rattle.ode_laws.proofs.AlikePairs.{IsGentle, gentle_numbered, new_numbered, active_numbered}
use Rattle.ode_laws.proofs.AlikeRows.{number_of}
use Rattle.ode_laws.proofs.AlikeWork.{set_gentle, derived_gentle, dropped_gentle, removed_gentle, off_gentle, after_gentle}
use Rattle.ode_laws.proofs.Each.{all-then, all-map}
use Rattle.ode_laws.proofs.KeptRows.{IsKept, all_kept, any_on, kept_numbered}
use Rattle.ode_laws.proofs.Rows.{id_of, find_rising, kept-append, kept-with}
use Rattle.ode_laws.proofs.SideSettling.{Settlings, posted_related}
use Rattle.ode_laws.proofs.Sides.{EndsBy, same_self, altered, turned, stamp_in, set_in, dropped_from, removed, off_in}

abbrev Row : Type 0
Row = ℕ × Kept Histories Starts

abbrev StartRow : Type 0
StartRow = ℕ × Starts

-- each object has its row
abbrev pub HavePasts : List Object → List Row → Type 0
HavePasts os rows = AllZip IsPast os rows

-- ---- two lists, place by place

zip_objects : (id : ℕ) (f : Object → Object) → ((o : Object) (row : Row) → IsPast o row → IsPast (f o) row) → (os : List Object) (rows : List Row) → HavePasts os rows → HavePasts (with_object id f os) rows
zip_objects id f keeps [] [] h = tt
zip_objects id f keeps [] (row ∷ rows) h = absurd h
zip_objects id f keeps (o ∷ os) [] h = absurd h
zip_objects id f keeps (o ∷ os) (row ∷ rows) h = by_test (o.id == id) (zip_objects id f keeps os rows h.1) where
  by_test : (t : Bool) → HavePasts (with_object id f os) rows → HavePasts (cond t (f o ∷ os) (o ∷ with_object id f os)) (row ∷ rows)
  by_test true rest = (keeps o row h.0, h.1)
  by_test false rest = (h.0, rest)

zip_mapped : (f : Object → Object) (g : Row → Row) (P : Object → Row → Type 0) → ((o : Object) (row : Row) → P o row → IsPast (f o) (g row)) → (os : List Object) (rows : List Row) → AllZip P os rows → HavePasts (map f os) (map g rows)
zip_mapped f g P keeps [] [] h = tt
zip_mapped f g P keeps [] (row ∷ rows) h = absurd h
zip_mapped f g P keeps (o ∷ os) [] h = absurd h
zip_mapped f g P keeps (o ∷ os) (row ∷ rows) h = (keeps o row h.0, zip_mapped f g P keeps os rows h.1)

zip_with : (Q : Row → Type 0) (os : List Object) (rows : List Row) → HavePasts os rows → AllByRecursion Q rows → AllZip (λ (o : Object) (row : Row). IsPast o row × Q row) os rows
zip_with Q [] [] h all = tt
zip_with Q [] (row ∷ rows) h all = absurd h
zip_with Q (o ∷ os) [] h all = absurd h
zip_with Q (o ∷ os) (row ∷ rows) h all = ((h.0, all.0), zip_with Q os rows h.1 all.1)

zip_kept_rows : (id : ℕ) (g : Kept Histories Starts → Kept Histories Starts) → ((o : Object) (row : Row) → IsPast o row → IsPast o (row.0, g row.1)) → (os : List Object) (rows : List Row) → HavePasts os rows → HavePasts os (with_kept id g rows)
zip_kept_rows id g keeps [] [] h = tt
zip_kept_rows id g keeps [] (row ∷ rows) h = absurd h
zip_kept_rows id g keeps (o ∷ os) [] h = absurd h
zip_kept_rows id g keeps (o ∷ os) (row ∷ rows) h = by_test (row.0 == id) (zip_kept_rows id g keeps os rows h.1) where
  by_test : (t : Bool) → HavePasts os (with_kept id g rows) → HavePasts (o ∷ os) (cond t ((row.0, g row.1) ∷ rows) (row ∷ with_kept id g rows))
  by_test true rest = (keeps o row h.0, h.1)
  by_test false rest = (h.0, rest)

-- both are changed by one number
zip_both : (id : ℕ) (f : Object → Object) (g : Kept Histories Starts → Kept Histories Starts) → ((o : Object) (row : Row) → IsPast o row → IsPast (f o) (row.0, g row.1)) → (os : List Object) (rows : List Row) → HavePasts os rows
    → HavePasts (with_object id f os) (with_kept id g rows)
zip_both id f g keeps [] [] h = tt
zip_both id f g keeps [] (row ∷ rows) h = absurd h
zip_both id f g keeps (o ∷ os) [] h = absurd h
zip_both id f g keeps (o ∷ os) (row ∷ rows) h = by_tests (o.id == id) (row.0 == id) (ap (λ n. n == id) h.0.number) (zip_both id f g keeps os rows h.1) where
  by_tests : (s t : Bool) → t ≡ s → HavePasts (with_object id f os) (with_kept id g rows)
      → HavePasts (cond s (f o ∷ os) (o ∷ with_object id f os)) (cond t ((row.0, g row.1) ∷ rows) (row ∷ with_kept id g rows))
  by_tests true true e rest = (keeps o row h.0, h.1)
  by_tests false false e rest = (h.0, rest)
  by_tests true false e rest = absurd (cc)
  by_tests false true e rest = absurd (cc)

zip_end : {X Y : Type 0} (R : X → Y → Type 0) (xs : List X) (ys : List Y) (x : X) (y : Y) → AllZip R xs ys → R x y → AllZip R (xs ++ x ∷ []) (ys ++ y ∷ [])
zip_end R [] [] x y h is = (is, tt)
zip_end R [] (z ∷ ys) x y h is = absurd h
zip_end R (z ∷ xs) [] x y h is = absurd h
zip_end R (z ∷ xs) (w ∷ ys) x y h is = (h.0, zip_end R xs ys x y h.1 is)

-- ---- starts

starts_mapped : (h : Histories) (g : Activation → Activation) → ((a : Activation) → (g a).number ≡ a.number) → (acts : List Activation) (rows : List StartRow) → AllZip (IsStart h) acts rows → AllZip (IsStart h) (map g acts) rows
starts_mapped h g same [] [] all = tt
starts_mapped h g same [] (row ∷ rows) all = absurd all
starts_mapped h g same (a ∷ acts) [] all = absurd all
starts_mapped h g same (a ∷ acts) (row ∷ rows) all = (record { number = all.0.number ∙ sym (same a); within = all.0.within }, starts_mapped h g same acts rows all.1)

-- a history that is at least as long in each list
pub record IsLonger (h k : Histories) : Type 0 where
  pub whole : length h.whole ≤ length k.whole
  pub committed : length h.committed ≤ length k.committed

within_longer : (h k : Histories) (start : Starts) → IsLonger h k → IsWithin start h → IsWithin start k
within_longer h k start longer is = record {
  whole = let one : start.whole ≤ length h.whole = is.whole in let two : length h.whole ≤ length k.whole = longer.whole in omega arith;
  committed = let one : start.committed ≤ length h.committed = is.committed in let two : length h.committed ≤ length k.committed = longer.committed in omega arith;
}

-- a row whose start is left as it is
row_same : (change : ℕ → Watch → Starts → Starts) → ((n : ℕ) (w : Watch) (s : Starts) → change n w s ≡ s) → (watch : ℕ → Option Watch) (row : StartRow) → (changed_row change watch row).1 ≡ row.1
row_same change same watch row = by_watch (watch row.0) where
  by_watch : (m : Option Watch) → option_map_or (λ w. change row.0 w row.1) m row.1 ≡ row.1
  by_watch None = refl
  by_watch (Some w) = same row.0 w row.1

starts_changed : (h k : Histories) → IsLonger h k → (change : ℕ → Watch → Starts → Starts) → ((n : ℕ) (w : Watch) (s : Starts) → change n w s ≡ s) → (watch : ℕ → Option Watch) (acts : List Activation) (rows : List StartRow) → AllZip (IsStart h) acts rows
    → AllZip (IsStart k) acts (map (changed_row change watch) rows)
starts_changed h k longer change same watch [] [] all = tt
starts_changed h k longer change same watch [] (row ∷ rows) all = absurd all
starts_changed h k longer change same watch (a ∷ acts) [] all = absurd all
starts_changed h k longer change same watch (a ∷ acts) (row ∷ rows) all = (
  record { number = all.0.number; within = subst (λ s. IsWithin s k) (sym (row_same change same watch row)) (within_longer h k row.1 longer all.0.within) },
  starts_changed h k longer change same watch acts rows all.1,
)

starts_filtered : (h : Histories) (p : Activation → Bool) (t : ℕ → Bool) (acts : List Activation) (rows : List StartRow) → AllByRecursion (λ (a : Activation). t a.number ≡ p a) acts → AllZip (IsStart h) acts rows
    → AllZip (IsStart h) (filter p acts) (filter (λ (row : StartRow). t row.0) rows)
starts_filtered h p t [] [] same all = tt
starts_filtered h p t [] (row ∷ rows) same all = absurd all
starts_filtered h p t (a ∷ acts) [] same all = absurd all
starts_filtered h p t (a ∷ acts) (row ∷ rows) same all = by_tests (p a) (t row.0) (ap t all.0.number ∙ same.0) (starts_filtered h p t acts rows same.1 all.1) where
  by_tests : (x y : Bool) → y ≡ x → AllZip (IsStart h) (filter p acts) (filter (λ (r : StartRow). t r.0) rows)
      → AllZip (IsStart h) (cond x (a ∷ filter p acts) (filter p acts)) (cond y (row ∷ filter (λ (r : StartRow). t r.0) rows) (filter (λ (r : StartRow). t r.0) rows))
  by_tests true true e rest = (all.0, rest)
  by_tests false false e rest = rest
  by_tests true false e rest = absurd (cc)
  by_tests false true e rest = absurd (cc)

-- ---- objects

gentle_past : (f : Object → Object) → IsGentle f → (o : Object) (row : Row) → IsPast o row → IsPast (f o) row
gentle_past f g o row h = record {
  number = h.number ∙ sym (g.id o);
  starts = subst (λ acts. AllZip (IsStart row.1.own) acts row.1.activations) (sym (g.activations o))
      (starts_mapped row.1.own (g.each o) (λ a. ap (λ (b : Activation). b.number) (g.same o a)) o.activations row.1.activations h.starts);
}

-- a place that leaves starts and takes no point away
pub record IsPlain (place : Place Histories Starts) : Type 0 where
  pub grow : (h : Histories) (p : Point) → IsLonger h (place.grow h p)
  pub step : (p : Point) (w : Watch) (s : Starts) → place.step p w s ≡ s

both_plain : IsPlain (both_lists lists)
both_plain = record {
  grow = λ h p. record { whole = omega (arith, length-append h.whole (p ∷ [])); committed = omega (arith, length-append h.committed (p ∷ [])) };
  step = λ p w s. refl;
}

whole_plain : IsPlain (whole_list lists)
whole_plain = record { grow = λ h p. record { whole = omega (arith, length-append h.whole (p ∷ [])); committed = omega arith }; step = λ p w s. refl }

point_past : (place : Place Histories Starts) → IsPlain place → (p : Point) (classes : List Declared) (q : Object) (o : Object) (row : Row) → IsPast o row → IsPast o (row.0, grown_past lists place p classes q row.1)
point_past place plain p classes q o row h = record {
  number = h.number;
  starts = starts_changed row.1.own (place.grow row.1.own p) (plain.grow row.1.own p) (λ n. place.step p) (λ n w s. plain.step p w s) (watch_at classes q) o.activations row.1.activations h.starts;
}

active_past : (t : Trigger) (args : List Value) (next : ℕ) (o : Object) (row : Row) → IsPast o row → IsPast (with_activation t args next o) (row.0, with_past lists next row.1)
active_past t args next o row h = record {
  number = h.number;
  starts = zip_end (IsStart row.1.own) o.activations row.1.activations (record { number = next; class = t.class; trigger = t.place; args = args; on = true }) (next, lists.begin row.1.own) h.starts
      (record { number = refl; within = record { whole = omega arith; committed = omega arith } });
}

-- ---- what is kept

kept_past_is : (o : Object) → RiseFrom 0 (map number_of o.activations) → (row : Row) → IsPast o row → IsPast (kept_object o) (row.0, kept_past row.1 (kept_object o))
kept_past_is o rise row h = record {
  number = h.number;
  starts = starts_filtered row.1.own is_active (has_activation (kept_object o)) o.activations row.1.activations (any_on 0 o.activations rise) h.starts;
}

kept_pasts : (b : Bones) (next : ℕ) (os : List Object) (rows : List Row) → AllByRecursion (IsKept b) os → AllByRecursion (HasNumbers next) os → HavePasts os rows
    → HavePasts (map kept_object (filter is_there os)) (filter_map (kept_row b) rows)
kept_pasts b next [] [] kept numbered h = tt
kept_pasts b next [] (row ∷ rows) kept numbered h = absurd h
kept_pasts b next (o ∷ os) [] kept numbered h = absurd h
kept_pasts b next (o ∷ os) (row ∷ rows) kept numbered h =
    subst (λ m. HavePasts (map kept_object (filter is_there (o ∷ os))) (cons_option (option_map (λ p. (row.0, kept_past row.1 p)) m) (filter_map (kept_row b) rows))) (sym (ap (object_at b) h.0.number ∙ kept.0))
    (by_live o.live (kept_pasts b next os rows kept.1 numbered.1 h.1))
  where
    by_live : (t : Bool) → HavePasts (map kept_object (filter is_there os)) (filter_map (kept_row b) rows)
        → HavePasts (map kept_object (cond t (o ∷ filter is_there os) (filter is_there os))) (cons_option (option_map (λ p. (row.0, kept_past row.1 p)) (cond t (Some (kept_object o)) None)) (filter_map (kept_row b) rows))
    by_live true rest = (kept_past_is o numbered.0.rising row h.0, rest)
    by_live false rest = rest

kept_world_pasts : (w : ListWorld) → AreNumbered w.bones → HavePasts w.bones.objects w.pasts → HavePasts (kept_world w).bones.objects (kept_world w).pasts
kept_world_pasts w numbered h = kept_pasts (kept_bones w.bones) w.bones.next w.bones.objects w.pasts (all_kept w.bones numbered.rising) numbered.objects h

-- ---- rows of the first world

-- what is kept of an object now is at least as long in all points
pub record HasLonger (pasts : List Row) (row : Row) : Type 0 where
  pub past : Kept Histories Starts
  pub kept : kept_at row.0 pasts ≡ Some past
  pub longer : length row.1.own.whole ≤ length past.own.whole

longer_more : (pasts : List Row) (new : Row) (row : Row) → HasLonger pasts row → HasLonger (pasts ++ new ∷ []) row
longer_more pasts new row h = record { past = h.past; kept = kept-append row.0 pasts (new ∷ []) h.past h.kept; longer = h.longer }

longer_with : (id : ℕ) (g : Kept Histories Starts → Kept Histories Starts) → ((k : Kept Histories Starts) → length k.own.whole ≤ length (g k).own.whole) → (pasts : List Row) (row : Row) → HasLonger pasts row → HasLonger (with_kept id g pasts) row
longer_with id g more pasts row h = by_test (row.0 == id) (kept-with row.0 id g pasts h.past h.kept) where
  by_test : (t : Bool) → kept_at row.0 (with_kept id g pasts) ≡ Some (cond t (g h.past) h.past) → HasLonger (with_kept id g pasts) row
  by_test true e = record { past = g h.past; kept = e; longer = let one : length row.1.own.whole ≤ length h.past.own.whole = h.longer in let two : length h.past.own.whole ≤ length (g h.past).own.whole = more h.past in omega arith }
  by_test false e = record { past = h.past; kept = e; longer = h.longer }

abbrev row_number : Row → ℕ
row_number row = row.0

row_ids : (os : List Object) (rows : List Row) → HavePasts os rows → map row_number rows ≡ map id_of os
row_ids [] [] h = refl
row_ids [] (row ∷ rows) h = absurd h
row_ids (o ∷ os) [] h = absurd h
row_ids (o ∷ os) (row ∷ rows) h = ap (λ n. n ∷ map row_number rows) h.0.number ∙ ap (λ ns. o.id ∷ ns) (row_ids os rows h.1)

kept_find : (id : ℕ) (rows : List Row) → kept_at id rows ≡ option_map (λ (row : Row). row.1) (find (λ (row : Row). row.0 == id) rows)
kept_find id [] = refl
kept_find id (row ∷ rows) = by_test (row.0 == id) (kept_find id rows) where
  by_test : (t : Bool) → kept_at id rows ≡ option_map (λ (r : Row). r.1) (find (λ (r : Row). r.0 == id) rows)
      → cond t (Some row.1) (kept_at id rows) ≡ option_map (λ (r : Row). r.1) (cond t (Some row) (find (λ (r : Row). r.0 == id) rows))
  by_test true rest = refl
  by_test false rest = rest

itself_longer : (w : ListWorld) → AreNumbered w.bones → HavePasts w.bones.objects w.pasts → AllByRecursion (HasLonger w.pasts) w.pasts
itself_longer w numbered h =
    all-then (λ (row : Row). find (λ (r : Row). r.0 == row.0) w.pasts ≡ Some row) (HasLonger w.pasts) (λ row e. record { past = row.1; kept = kept_find row.0 w.pasts ∙ ap (option_map (λ (r : Row). r.1)) e; longer = omega arith }) w.pasts
    (find_rising row_number 0 w.pasts (subst (RiseFrom 0) (sym (row_ids w.bones.objects w.pasts h)) numbered.rising))

-- ---- transactions

pub record KeepsPasts (x : ListTx) : Type 0 where
  pub first_numbered : AreNumbered x.first.bones
  pub numbered : AreNumbered x.now.bones
  pub first : HavePasts x.first.bones.objects x.first.pasts
  pub now : HavePasts x.now.bones.objects x.now.pasts
  pub longer : AllByRecursion (HasLonger x.now.pasts) x.first.pasts

pub begun_pasts : (origin : Origin) (w : ListWorld) → AreNumbered w.bones → HavePasts w.bones.objects w.pasts → KeepsPasts (begun origin w)
begun_pasts origin w numbered h = record { first_numbered = numbered; numbered = numbered; first = h; now = h; longer = itself_longer w numbered h }

again : (x y : ListTx) → KeepsPasts x → y.first ≡ x.first → y.now ≡ x.now → KeepsPasts y
again x y h first now = record {
  first_numbered = subst (λ (w : ListWorld). AreNumbered w.bones) (sym first) h.first_numbered;
  numbered = subst (λ (w : ListWorld). AreNumbered w.bones) (sym now) h.numbered;
  first = subst (λ (w : ListWorld). HavePasts w.bones.objects w.pasts) (sym first) h.first;
  now = subst (λ (w : ListWorld). HavePasts w.bones.objects w.pasts) (sym now) h.now;
  longer = subst (λ (w : ListWorld). AllByRecursion (HasLonger y.now.pasts) w.pasts) (sym first) (subst (λ (w : ListWorld). AllByRecursion (HasLonger w.pasts) x.first.pasts) (sym now) h.longer);
}

gentle_pasts : (x : ListTx) (id : ℕ) (f : Object → Object) → IsGentle f → KeepsPasts x → KeepsPasts (altered id f x)
gentle_pasts x id f g h = record {
  first_numbered = h.first_numbered;
  numbered = gentle_numbered id f g x.now.bones h.numbered;
  first = h.first;
  now = zip_objects id f (gentle_past f g) x.now.bones.objects x.now.pasts h.now;
  longer = h.longer;
}

new_pasts : (x : ListTx) (class : ℕ) (fields : List Value) → KeepsPasts x → KeepsPasts (turned (with_new lists class fields) x)
new_pasts x class fields h = record {
  first_numbered = h.first_numbered;
  numbered = new_numbered x.now.bones class fields h.numbered;
  first = h.first;
  now = zip_end IsPast x.now.bones.objects x.now.pasts (object_with (stamp_in x) x.now.bones.next class fields) (x.now.bones.next, record { own = lists.empty; activations = [] }) h.now (record { number = refl; starts = tt });
  longer = all-then (HasLonger x.now.pasts) (HasLonger (x.now.pasts ++ (x.now.bones.next, record { own = lists.empty; activations = [] }) ∷ [])) (longer_more x.now.pasts (x.now.bones.next, record { own = lists.empty; activations = [] })) x.first.pasts h.longer;
}

active_pasts : (x : ListTx) (id : ℕ) (t : Trigger) (args : List Value) → KeepsPasts x → KeepsPasts (turned (with_active lists id t args) x)
active_pasts x id t args h = record {
  first_numbered = h.first_numbered;
  numbered = active_numbered x.now.bones id t args h.numbered;
  first = h.first;
  now = zip_both id (with_activation t args x.now.bones.next) (with_past lists x.now.bones.next) (active_past t args x.now.bones.next) x.now.bones.objects x.now.pasts h.now;
  longer = all-then (HasLonger x.now.pasts) (HasLonger (with_kept id (with_past lists x.now.bones.next) x.now.pasts)) (longer_with id (with_past lists x.now.bones.next) (λ k. omega arith) x.now.pasts) x.first.pasts h.longer;
}

point_pasts : (place : Place Histories Starts) → IsPlain place → (x : ListTx) (p : Point) (o : Object) → KeepsPasts x → KeepsPasts (turned (with_point lists place p o) x)
point_pasts place plain x p o h = record {
  first_numbered = h.first_numbered;
  numbered = h.numbered;
  first = h.first;
  now = zip_kept_rows o.id (grown_past lists place p x.now.bones.classes o) (point_past place plain p x.now.bones.classes o) x.now.bones.objects x.now.pasts h.now;
  longer = all-then (HasLonger x.now.pasts) (HasLonger (with_kept o.id (grown_past lists place p x.now.bones.classes o) x.now.pasts))
      (longer_with o.id (grown_past lists place p x.now.bones.classes o) (λ k. (plain.grow k.own p).whole) x.now.pasts) x.first.pasts h.longer;
}

abbrev pub Pastings : ℕ → ListTx → Type 0
Pastings n x = KeepsPasts x

pub pasts_keep : Keeps lists Pastings
pasts_keep = record {
  less = λ n x h. h;
  statement = λ n x h more. again x (with_statement x) h refl refl;
  foot = λ n x change h. again x (footed change x) h refl refl;
  line = λ n x line h fits. again x (with_line line x) h refl refl;
  keys = λ n x keys h fits. again x (holding keys x) h refl refl;
  touch = λ n x id h. again x (touching id x) h refl refl;
  defer = λ n x f h more. again x (with_deferred f x) h refl refl;
  collect = λ n x independent f h room. again x (with_entry independent f x) h refl refl;
  set = λ n x r v place value h is small. gentle_pasts x r.object (set_in (stamp_in x) v place value) (set_gentle (stamp_in x) v place value) h;
  derive = λ n x r v o h is there more small. gentle_pasts x o.id (derived_from (stamp_in x) v) (derived_gentle (stamp_in x) v) h;
  drop = λ n x r v o h is there more. gentle_pasts x o.id (dropped_from v) (dropped_gentle v) h;
  remove = λ n x id h. gentle_pasts x id removed removed_gentle h;
  off = λ n x id number h. gentle_pasts x id (off_in number) (off_gentle number) h;
  new = λ n x class fields h left small. new_pasts x class fields h;
  active = λ n x id t args h left short. active_pasts x id t args h;
  point = λ n x id p o firings h there. gentle_pasts (turned (with_point lists (both_lists lists) p o) x) id (object_after firings) (after_gentle firings) (point_pasts (both_lists lists) both_plain x p o h);
}

-- ---- settling

-- in settling there is nothing to go back to
pub record LastPasts (x : ListTx) : Type 0 where
  pub numbered : AreNumbered x.now.bones
  pub now : HavePasts x.now.bones.objects x.now.pasts

abbrev Still : List Declared → ListTx → ListTx → Type 0
Still cs y x = (y ≡ x) × (x.now.bones.classes ≡ cs) × LastPasts x

abbrev pointing : Place Histories Starts → ℕ → Kind → Object → Act Histories Starts (List Firing)
pointing place id kind o =
    turns (with_point lists place (new_point kind [] o) o) >> (reads (λ z. fired lists place o z.now) >>= λ firings. alters_object id (object_after firings) >> gives firings)

module _ (place : Place Histories Starts) (plain : IsPlain place) (cs : List Declared) where
  point_still : (x : ListTx) (id : ℕ) (kind : Kind) → x.now.bones.classes ≡ cs → LastPasts x → EndsBy (Still cs) (Still cs) (arises lists place id kind [] x) (arises lists place id kind [] x)
  point_still x id kind is h = by_found (object_at x.now.bones id) where
    after : (o : Object) (fs : List Firing) → LastPasts (altered id (object_after fs) (turned (with_point lists place (new_point kind [] o) o) x))
    after o fs = record {
      numbered = gentle_numbered id (object_after fs) (after_gentle fs) x.now.bones h.numbered;
      now = zip_objects id (object_after fs) (gentle_past (object_after fs) (after_gentle fs)) x.now.bones.objects (with_kept o.id (grown_past lists place (new_point kind [] o) x.now.bones.classes o) x.now.pasts)
          (zip_kept_rows o.id (grown_past lists place (new_point kind [] o) x.now.bones.classes o) (point_past place plain (new_point kind [] o) x.now.bones.classes o) x.now.bones.objects x.now.pasts h.now);
    }

    by_found : (a : Option Object) → EndsBy (Still cs) (Still cs) (go_on (found a x) (pointing place id kind)) (go_on (found a x) (pointing place id kind))
    by_found (Some o) = (refl, (refl, is, after o (fired lists place o (with_point lists place (new_point kind [] o) o x.now))))
    by_found None = (refl, (refl, is, h))

  abbrev lasting : Settlings Histories Starts Histories Starts
  lasting = record {
    past = lists;
    other = lists;
    classes = cs;
    place = place;
    other_place = place;
    Related = Still cs;
    same = λ y x r. same_self cs y x r.0 r.1;
    foot = λ y x change r. (ap (footed change) r.0, r.1, record { numbered = r.2.numbered; now = r.2.now });
    line = λ y x line r. (ap (with_line line) r.0, r.1, record { numbered = r.2.numbered; now = r.2.now });
    collect = λ y x f r room. (ap (with_entry true f) r.0, r.1, record { numbered = r.2.numbered; now = r.2.now });
    point = λ y x id kind r. subst (λ z. EndsBy (Still cs) (Still cs) (arises lists place id kind [] z) (arises lists place id kind [] x)) (sym r.0) (point_still x id kind r.1 r.2);
  }

last_pasts : (place : Place Histories Starts) → IsPlain place → (kind : Kind) (x : ListTx) → LastPasts x → LastPasts (posted lists place kind x)
last_pasts place plain kind x h = (posted_related (lasting place plain x.now.bones.classes) kind x x (refl, refl, h)).2

settled_pasts : (x : ListTx) → LastPasts x → HavePasts (settled_world x).bones.objects (settled_world x).pasts
settled_pasts x h = kept_world_pasts x.now h.numbered h.now

pub commit_pasts : (x : ListTx) → KeepsPasts x → HavePasts (commit lists x).0.bones.objects (commit lists x).0.pasts
commit_pasts x h =
    settled_pasts (posted lists (both_lists lists) TCommit (committed lists x)) (last_pasts (both_lists lists) both_plain TCommit (committed lists x)
    (record { numbered = kept_numbered x.now.bones h.numbered; now = kept_world_pasts x.now h.numbered h.now }))

-- ---- what an abort leaves

back_past : (first now : ListWorld) (o : Object) (row : Row) → IsPast o row × HasLonger now.pasts row → IsPast (with_last now.bones o) (rewound_row lists first now row)
back_past first now o row h =
    subst (λ m. IsPast (with_last now.bones o) (row.0, option_map_or (rewound_past lists first.bones.classes row.1 (unwrap_or m row.1)) (object_at first.bones row.0) row.1)) (sym h.1.kept) (by_object (object_at first.bones row.0))
  where
    by_object : (m : Option Object) → IsPast (with_last now.bones o) (row.0, option_map_or (rewound_past lists first.bones.classes row.1 h.1.past) m row.1)
    by_object None = record { number = h.0.number; starts = h.0.starts }
    by_object (Some p) = record {
      number = h.0.number;
      starts = starts_changed row.1.own (record { whole = h.1.past.own.whole; committed = row.1.own.committed }) (record { whole = h.1.longer; committed = omega arith }) (back lists h.1.past.activations) (λ n w s. refl) (watch_at first.bones.classes p)
          o.activations row.1.activations h.0.starts;
    }

last_ids : (now : Bones) (os : List Object) → map id_of (map (with_last now) os) ≡ map id_of os
last_ids now [] = refl
last_ids now (o ∷ os) = ap (λ ns. o.id ∷ ns) (last_ids now os)

more_numbers : (low next : ℕ) → low ≤ next → (now : Bones) (o : Object) → HasNumbers low o → HasNumbers next (with_last now o)
more_numbers low next less now o h = record {
  drawn = let here : o.id < low = h.drawn in omega arith;
  rising = h.rising;
  activations = all-then (λ (a : Activation). a.number < low) (λ (a : Activation). a.number < next) (λ a below. let one : a.number < low = below in omega arith) o.activations h.activations;
}

pub abort_pasts : (reason : Reason) (x : ListTx) → KeepsPasts x → x.first.bones.next ≤ x.now.bones.next → HavePasts (abort lists reason x).0.bones.objects (abort lists reason x).0.pasts
abort_pasts reason x h less =
    settled_pasts (posted lists (whole_list lists) TAbort (aborted lists x)) (last_pasts (whole_list lists) whole_plain TAbort (aborted lists x) (record {
      numbered = record {
        classes = h.first_numbered.classes;
        rising = subst (RiseFrom 0) (sym (last_ids x.now.bones x.first.bones.objects)) h.first_numbered.rising;
        objects = all-map (HasNumbers x.now.bones.next) (with_last x.now.bones) x.first.bones.objects
            (all-then (HasNumbers x.first.bones.next) (λ o. HasNumbers x.now.bones.next (with_last x.now.bones o)) (more_numbers x.first.bones.next x.now.bones.next less x.now.bones) x.first.bones.objects h.first_numbered.objects);
      };
      now = zip_mapped (with_last x.now.bones) (rewound_row lists x.first x.now) (λ (o : Object) (row : Row). IsPast o row × HasLonger x.now.pasts row) (back_past x.first x.now) x.first.bones.objects x.first.pasts
          (zip_with (HasLonger x.now.pasts) x.first.bones.objects x.first.pasts h.first h.longer);
    }))
