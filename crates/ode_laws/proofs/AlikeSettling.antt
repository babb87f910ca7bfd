-- Transactions over numbers and over lists settle alike.
use Rattle.std.proofs.Common.{◌≡◌, ℕ, zero, suc, ◌+◌, ◌<◌, ◌≤◌, Bool, true, false, cond, List, [], ◌∷◌, ◌++◌, map, length, ◌==◌, Some, refl, sym, ap, ◌∙◌, subst, arith}
use Rattle.std.specs.Prelude.{nat_lt}
use Rattle.std.specs.List.{AllByRecursion, AllZip, find, filter, filter_map, enumerate_from}
use Rattle.std.proofs.lemmas.Bool.{eq-eqb}
use Rattle.ode_value.specs.declared.event.Kind.{Kind}
use Rattle.ode_value.specs.declared.event.Kind.TheVariants.{TCommit, TAbort}
use Rattle.ode_value.specs.declared.reason.Reason.{Reason}
use Rattle.ode_value.specs.declared.statement.Stmt.{Stmt}
use Rattle.ode_value.specs.declared.value.Value.{Value}
use Rattle.ode_value.specs.Acts.{Outcome, Done, Aborted, Act, Deed, go_on, ◌>>◌, with_line}
use Rattle.ode_value.specs.Completing.{completes}
use Rattle.ode_value.specs.Draining.{runs_entry, entry_settled, front, drain}
use Rattle.ode_value.specs.Executing.{first_actions, commands}
use Rattle.ode_value.specs.Firings.{Place, both_lists, whole_list}
use Rattle.ode_value.specs.GoodWorlds.{RiseFrom, IsStart, IsPast}
use Rattle.ode_value.specs.Keeping.{kept_bones, kept_row, with_last}
use Rattle.ode_value.specs.Language.{ListWorld, ListTx}
use Rattle.ode_value.specs.Limits.{number_limit}
use Rattle.ode_value.specs.Objects.{Activation, Histories, Starts}
use Rattle.ode_value.specs.Pasts.{Kept, lists, numbers}
use Rattle.ode_value.specs.Posting.{with_entry, entry_of, waiting, posts, touches, runs}
use Rattle.ode_value.specs.Settling.{Settled, is_independent, entry_in, clock_after, settled_bones, settled_world, ends_with, posted, settled, commit, abort, settle, committed, aborted, transaction}
use Rattle.ode_value.specs.Tables.{Table}
use Rattle.ode_value.specs.Texts.{committed_line, aborted_line}
use Rattle.ode_value.specs.Transactions.{Origin, Queue, Firing, Collected, generation_of, begun, footed}
use Rattle.ode_value.specs.Worlds.{Declared, Object, Bones, Entry, kept_at}
use Rattle.ode_codec.specs.Standing.{HasTables, ArePasts}
use Rattle.ode_laws.specs.Alike.{NumberWorld, NumberTx, IsAlike, StaysActive, StaysIn, RunsAs, EndsAs, RunAlike, SettledAs}
use Rattle.ode_laws.specs.Numbered.{HasNumbers, AreNumbered}
use Rattle.ode_laws.proofs.Sides.{EndsBy, Same, told, Sides}
use Rattle.ode_laws.proofs.SideActs.{Alike, next_alike}
use Rattle.ode_laws.proofs.SideStatements.{commands_alike, first_alike}
use Rattle.ode_laws.proofs.SideCompleting.{completes_alike, entry_alike, first_runs_alike}
use Rattle.ode_laws.proofs.SidePosting.{posts_alike, touches_alike}
use Rattle.ode_laws.proofs.SideSettling.{Settlings, posted_related}
use Rattle.ode_laws.proofs.AlikeRows.{number_of, Places, both_places, whole_places, rows_of_pasts, pasts_of_rows}
use Rattle.ode_laws.proofs.AlikePairs.{Pair}
use Rattle.ode_laws.proofs.AlikeWork.{Held, point_held, StaysAll, Work, work}
use Rattle.ode_laws.proofs.KeptRows.{kept_pair, rewound_pair}
use Rattle.ode_laws.proofs.Numbers.{apart}
use Rattle.ode_laws.proofs.Rows.{id_of, find_rising, numbered_find}

-- ---- the first world stays where nothing has changed yet

-- second rows are found by rising numbers
kept_rising : {X L : Type 0} (key : X → ℕ) (low : ℕ) (xs : List X) (ls : List (ℕ × L)) → RiseFrom low (map key xs) → AllZip (λ x (l : ℕ × L). l.0 ≡ key x) xs ls
    → AllZip (λ x (l : ℕ × L). kept_at (key x) ls ≡ Some l.1) xs ls
kept_rising key low [] [] rise zip = tt
kept_rising {X} {L} key low (x ∷ xs) (l ∷ ls) rise zip = (
  ap (λ b. cond b (Some l.1) (kept_at (key x) ls)) (ap (λ n. n == key x) zip.0 ∙ eq-eqb (key x) (key x) refl),
  behind xs ls (key x + 1) (omega arith) rise.1 (kept_rising key (key x + 1) xs ls rise.1 zip.1),
)
  where
    behind : (ys : List X) (ms : List (ℕ × L)) (from : ℕ) → key x < from → RiseFrom from (map key ys) → AllZip (λ y (m : ℕ × L). kept_at (key y) ls ≡ Some m.1) ys ms
        → AllZip (λ y (m : ℕ × L). kept_at (key y) (l ∷ ls) ≡ Some m.1) ys ms
    behind [] [] from less rises all = tt
    behind (y ∷ ys) (m ∷ ms) from less rises all =
        let up : from ≤ key y = rises.0 in
        (ap (λ b. cond b (Some l.1) (kept_at (key y) ls)) (ap (λ n. n == key y) zip.0 ∙ apart (key x) (key y) (omega arith)) ∙ all.0, behind ys ms (key y + 1) (omega arith) rises.1 all.1)
    behind [] (m ∷ ms) from less rises all = absurd all
    behind (y ∷ ys) [] from less rises all = absurd all
kept_rising key low [] (l ∷ ls) rise zip = absurd zip
kept_rising key low (x ∷ xs) [] rise zip = absurd zip

zip_all : {X Y : Type 0} (P : X → Type 0) (Q S R : X → Y → Type 0) → ((x : X) (y : Y) → P x → Q x y → S x y → R x y) → (xs : List X) (ys : List Y) → AllByRecursion P xs → AllZip Q xs ys → AllZip S xs ys → AllZip R xs ys
zip_all P Q S R then [] [] all zip more = tt
zip_all P Q S R then (x ∷ xs) (y ∷ ys) all zip more = (then x y all.0 zip.0 more.0, zip_all P Q S R then xs ys all.1 zip.1 more.1)
zip_all P Q S R then [] (y ∷ ys) all zip more = absurd zip
zip_all P Q S R then (x ∷ xs) [] all zip more = absurd zip

zip_map : {X Y : Type 0} (Q R : X → Y → Type 0) → ((x : X) (y : Y) → Q x y → R x y) → (xs : List X) (ys : List Y) → AllZip Q xs ys → AllZip R xs ys
zip_map Q R then [] [] zip = tt
zip_map Q R then (x ∷ xs) (y ∷ ys) zip = (then x y zip.0, zip_map Q R then xs ys zip.1)
zip_map Q R then [] (y ∷ ys) zip = absurd zip
zip_map Q R then (x ∷ xs) [] zip = absurd zip

all_both : {X : Type 0} (P Q : X → Type 0) (xs : List X) → AllByRecursion P xs → AllByRecursion Q xs → AllByRecursion (λ x. P x × Q x) xs
all_both P Q [] all more = tt
all_both P Q (x ∷ xs) all more = ((all.0, more.0), all_both P Q xs all.1 more.1)

itself_active : (o : Object) → RiseFrom 0 (map number_of o.activations) → (kept : Kept Histories Starts) → AllZip (IsStart kept.own) o.activations kept.activations → AllZip (StaysActive o kept) o.activations kept.activations
itself_active o rise kept starts =
    zip_all (λ (a : Activation). find (λ (b : Activation). b.number == a.number) o.activations ≡ Some a) (IsStart kept.own) (λ (a : Activation) (l : ℕ × Starts). kept_at a.number kept.activations ≡ Some l.1) (StaysActive o kept)
    (λ a l found start at. record { now = a; found = found; same = refl; start = at }) o.activations kept.activations
    (find_rising number_of 0 o.activations rise) starts
    (kept_rising number_of 0 o.activations kept.activations rise (zip_map (IsStart kept.own) (λ (a : Activation) (l : ℕ × Starts). l.0 ≡ a.number) (λ a l s. s.number) o.activations kept.activations starts))

pub itself_stays : (w : ListWorld) → AreNumbered w.bones → AllZip IsPast w.bones.objects w.pasts → AllZip (StaysIn w) w.bones.objects w.pasts
itself_stays w n past =
    zip_all (λ (o : Object). (find (λ (q : Object). q.id == o.id) w.bones.objects ≡ Some o) × HasNumbers w.bones.next o) IsPast (λ (o : Object) (l : ℕ × Kept Histories Starts). kept_at o.id w.pasts ≡ Some l.1) (StaysIn w)
    (λ o l own is at. record { object = o; found = numbered_find o.id w.bones.objects ∙ own.0; past = l.1; kept = at; activations = itself_active o own.1.rising l.1 is.starts })
    w.bones.objects w.pasts
    (all_both (λ (o : Object). find (λ (q : Object). q.id == o.id) w.bones.objects ≡ Some o) (HasNumbers w.bones.next) w.bones.objects (find_rising id_of 0 w.bones.objects n.rising) n.objects) past
    (kept_rising id_of 0 w.bones.objects w.pasts n.rising (zip_map IsPast (λ (o : Object) (l : ℕ × Kept Histories Starts). l.0 ≡ o.id) (λ o l s. s.number) w.bones.objects w.pasts past))

-- ---- to the relation of the work, and back

pub pair_of : (tables : ℕ → ℕ → Table) (classes : List Declared) (v : NumberWorld) (w : ListWorld) → w.bones.classes ≡ classes → IsAlike tables v w → Pair tables classes w.bones v.pasts w.pasts
pair_of tables classes v w is alike = record {
  rows = rows_of_pasts tables classes w.bones.objects v.pasts w.pasts (subst (λ cs. ArePasts tables cs w.bones.objects v.pasts w.pasts) is alike.stands.pasts) alike.stands.within;
  numbered = alike.numbered;
}

pub alike_of : (tables : ℕ → ℕ → Table) (classes : List Declared) → AllByRecursion (HasTables tables) classes → (v : NumberWorld) (w : ListWorld) → v.bones ≡ w.bones → w.bones.classes ≡ classes → Pair tables classes w.bones v.pasts w.pasts → IsAlike tables v w
alike_of tables classes mean v w bones is pair =
    let parts : ArePasts tables classes w.bones.objects v.pasts w.pasts × AllZip IsPast w.bones.objects w.pasts = pasts_of_rows tables classes w.bones.objects v.pasts w.pasts pair.rows in
    record {
      stands = record {
        bones = bones;
        mean = subst (AllByRecursion (HasTables tables)) (sym is) mean;
        pasts = subst (λ cs. ArePasts tables cs w.bones.objects v.pasts w.pasts) (sym is) parts.0;
        within = parts.1;
      };
      numbered = pair.numbered;
    }

module _ (tables : ℕ → ℕ → Table) (cs : List Declared) (mean : AllByRecursion (HasTables tables) cs) (rising : RiseFrom 0 (map (λ (d : Declared). d.class.number) cs)) (v0 : NumberWorld) (w0 : ListWorld) where
  -- ---- settling

  abbrev pub Still : ListWorld → Type 0
  Still w = Unit {0}

  abbrev Last : NumberTx → ListTx → Type 0
  Last y x = Held tables cs mean rising v0 w0 Still y x

  last_again : (y : NumberTx) (x : ListTx) → Last y x → (v : NumberTx) (w : ListTx) → v.first ≡ y.first → w.first ≡ x.first → v.now ≡ y.now → w.now ≡ x.now → Same cs v w → Last v w
  last_again y x h v w fy fx ny nx same = record {
    same = same;
    pair = subst (λ n. Pair tables cs n.bones v.now.pasts n.pasts) (sym nx) (subst (λ n. Pair tables cs x.now.bones n.pasts x.now.pasts) (sym ny) h.pair);
    first_y = fy ∙ h.first_y;
    first_x = fx ∙ h.first_x;
    hold = tt;
  }

  collect_same : (y : NumberTx) (x : ListTx) (f : Firing) → Same cs y x → Same cs (with_entry true f y) (with_entry true f x)
  collect_same y x f s =
      told cs y x s (with_entry true f y) (with_entry true f x) refl refl refl refl s.origin s.touched s.deferred
      (ap (λ e. e ++ record { entry = entry_of (generation_of y.origin + 1) f; independent = true } ∷ []) s.collected
      ∙ ap (λ g. x.collected ++ record { entry = entry_of (generation_of g + 1) f; independent = true } ∷ []) s.origin)
      (ap (λ g. g + 1) s.gathered) s.text s.run s.keys s.footprint

  abbrev settling : (k : Place (Unit {0}) ℕ) (l : Place Histories Starts) → Places tables cs mean k l → Settlings (Unit {0}) ℕ Histories Starts
  settling k l places = record {
    past = numbers tables;
    other = lists;
    classes = cs;
    place = k;
    other_place = l;
    Related = Last;
    same = λ y x h. h.same;
    foot = λ y x change h. last_again y x h (footed change y) (footed change x) refl refl refl refl (told cs y x h.same (footed change y) (footed change x) refl refl refl refl h.same.origin h.same.touched h.same.deferred h.same.collected h.same.gathered h.same.text h.same.run h.same.keys (ap change h.same.footprint));
    line = λ y x line h. last_again y x h (with_line line y) (with_line line x) refl refl refl refl (told cs y x h.same (with_line line y) (with_line line x) refl refl refl refl h.same.origin h.same.touched h.same.deferred h.same.collected h.same.gathered (ap (λ t. t ++ line) h.same.text) h.same.run h.same.keys h.same.footprint);
    collect = λ y x f h room. last_again y x h (with_entry true f y) (with_entry true f x) refl refl refl refl (collect_same y x f h.same);
    point = λ y x id kind h.
        point_held tables cs mean rising v0 w0 Still (λ w id f g u. tt) k l places (λ w p ds o u. tt) y x id kind [] h;
  }

  -- bones of two settled transactions
  bones_settled : (y : NumberTx) (x : ListTx) → Same cs y x → (b : Bones) → settled_bones y b ≡ settled_bones x b
  bones_settled y x s b =
      let made : Bones → Origin → List Collected → Bones = λ f o c. record b {
        transaction = f.transaction + 1;
        queue = waiting o f.queue ++ enumerate_from f.next_entry (map entry_in c);
        next_entry = f.next_entry + length c;
        clock = clock_after o f.clock;
      } in
      ap (λ f. made f y.origin y.collected) s.first ∙ ap (λ o. made x.first.bones o y.collected) s.origin ∙ ap (λ c. made x.first.bones x.origin c) s.collected

  ends_alike : (line : List ℕ) (y : NumberTx) (x : ListTx) → Last y x → SettledAs tables (ends_with line y) (ends_with line x)
  ends_alike line y x h = record {
    world = alike_of tables cs mean (settled_world y) (settled_world x)
        (bones_settled y x h.same (kept_bones y.now.bones) ∙ ap (λ b. settled_bones x (kept_bones b)) h.same.bones) h.same.classes
        (subst (λ b. Pair tables cs (settled_bones x (kept_bones x.now.bones)) (filter_map (kept_row (kept_bones b)) y.now.pasts) (filter_map (kept_row (kept_bones x.now.bones)) x.now.pasts)) (sym h.same.bones)
        (settled_pair (kept_pair tables cs x.now.bones y.now.pasts x.now.pasts h.pair)));
    text = ap (λ t. t ++ line) h.same.text;
  }
    where
      settled_pair : {ks : List (ℕ × Kept (Unit {0}) ℕ)} {ls : List (ℕ × Kept Histories Starts)} → Pair tables cs (kept_bones x.now.bones) ks ls → Pair tables cs (settled_bones x (kept_bones x.now.bones)) ks ls
      settled_pair p = record { rows = p.rows; numbered = record { classes = p.numbered.classes; rising = p.numbered.rising; objects = p.numbered.objects } }

  settled_alike : (k : Place (Unit {0}) ℕ) (l : Place Histories Starts) → Places tables cs mean k l → (kind : Kind) (line : List ℕ) (y : NumberTx) (x : ListTx) → Last y x
      → SettledAs tables (settled (numbers tables) k kind line y) (settled lists l kind line x)
  settled_alike k l places kind line y x h =
      ends_alike line (posted (numbers tables) k kind y) (posted lists l kind x) (posted_related (settling k l places) kind y x h)

  pub commits_by : (Hold : ListWorld → Type 0) (y : NumberTx) (x : ListTx) → Held tables cs mean rising v0 w0 Hold y x → SettledAs tables (commit (numbers tables) y) (commit lists x)
  commits_by Hold y x h =
      subst (λ n. SettledAs tables (settled (numbers tables) (both_lists (numbers tables)) TCommit (committed_line n) (committed (numbers tables) y)) (commit lists x)) (sym (ap (λ (b : Bones). b.transaction) h.same.first))
      (settled_alike (both_lists (numbers tables)) (both_lists lists) (both_places tables cs mean) TCommit (committed_line x.first.bones.transaction) (committed (numbers tables) y) (committed lists x) (record {
        same = record {
          bones = ap kept_bones h.same.bones;
          classes = h.same.classes;
          first = h.same.first;
          origin = h.same.origin;
          touched = h.same.touched;
          deferred = h.same.deferred;
          collected = h.same.collected;
          gathered = h.same.gathered;
          text = h.same.text;
          run = h.same.run;
          keys = h.same.keys;
          footprint = h.same.footprint;
        };
        pair =
            subst (λ b. Pair tables cs (kept_bones x.now.bones) (filter_map (kept_row (kept_bones b)) y.now.pasts) (filter_map (kept_row (kept_bones x.now.bones)) x.now.pasts)) (sym h.same.bones)
            (kept_pair tables cs x.now.bones y.now.pasts x.now.pasts h.pair);
        first_y = h.first_y;
        first_x = h.first_x;
        hold = tt;
      }))

module _ (tables : ℕ → ℕ → Table) (v0 : NumberWorld) (w0 : ListWorld) (alike : IsAlike tables v0 w0) where
  abbrev cs : List Declared
  cs = w0.bones.classes

  abbrev TheWork : NumberTx → ListTx → Type 0
  TheWork y x = Work tables cs alike.stands.mean alike.numbered.classes v0 w0 y x

  abbrev pub the_work : Sides (Unit {0}) ℕ Histories Starts
  the_work = work tables cs alike.stands.mean alike.numbered.classes v0 w0

  -- a transaction that runs as another
  work_of : (y : NumberTx) (x : ListTx) → y.first ≡ v0 → x.first ≡ w0 → RunsAs tables y x → TheWork y x
  work_of y x fy fx r = record {
    same = record {
      bones = r.now.stands.bones;
      classes = r.classes ∙ ap (λ (w : ListWorld). w.bones.classes) fx;
      first = r.first.stands.bones;
      origin = r.origin;
      touched = r.touched;
      deferred = r.deferred;
      collected = r.collected;
      gathered = r.gathered;
      text = r.text;
      run = r.run;
      keys = r.keys;
      footprint = r.footprint;
    };
    pair = pair_of tables cs y.now x.now (r.classes ∙ ap (λ (w : ListWorld). w.bones.classes) fx) r.now;
    first_y = fy;
    first_x = fx;
    hold = record {
      all = subst (λ (w : ListWorld). AllZip (StaysIn x.now) w.bones.objects w.pasts) fx r.stays;
      next = subst (λ (w : ListWorld). w.bones.next ≤ x.now.bones.next) fx r.next;
    };
  }

  runs_of : (y : NumberTx) (x : ListTx) → TheWork y x → RunsAs tables y x
  runs_of y x h = record {
    first = subst (λ v. IsAlike tables v x.first) (sym h.first_y) (subst (IsAlike tables v0) (sym h.first_x) alike);
    now = alike_of tables cs alike.stands.mean y.now x.now h.same.bones h.same.classes h.pair;
    classes = h.same.classes ∙ sym (ap (λ (w : ListWorld). w.bones.classes) h.first_x);
    next = subst (λ (w : ListWorld). w.bones.next ≤ x.now.bones.next) (sym h.first_x) h.hold.next;
    stays = subst (λ (w : ListWorld). AllZip (StaysIn x.now) w.bones.objects w.pasts) (sym h.first_x) h.hold.all;
    origin = h.same.origin;
    touched = h.same.touched;
    deferred = h.same.deferred;
    collected = h.same.collected;
    gathered = h.same.gathered;
    text = h.same.text;
    run = h.same.run;
    keys = h.same.keys;
    footprint = h.same.footprint;
  }

  ends_of : {X : Type 0} (p : Outcome (Unit {0}) ℕ X) (q : Outcome Histories Starts X) → EndsBy TheWork TheWork p q → EndsAs tables p q
  ends_of (Done r y) (Done t x) h = (h.0, runs_of y x h.1)
  ends_of (Aborted r y) (Aborted t x) h = (h.0, runs_of y x h.1)
  ends_of (Done r y) (Aborted t x) h = absurd h
  ends_of (Aborted r y) (Done t x) h = absurd h

  abbrev back_bones : Bones → Bones → Bones
  back_bones first now = record first { next = now.next; objects = map (with_last now) first.objects }

  -- an abort, whatever the classes now are
  pub aborts_by : (reason : Reason) (ds : List Declared) (y : NumberTx) (x : ListTx) → Same ds y x → Pair tables cs x.now.bones y.now.pasts x.now.pasts → y.first ≡ v0 → x.first ≡ w0
      → AllZip (StaysIn x.now) w0.bones.objects w0.pasts → w0.bones.next ≤ x.now.bones.next → SettledAs tables (abort (numbers tables) reason y) (abort lists reason x)
  aborts_by reason ds y x same pair first_y first_x all next =
      subst (λ n. SettledAs tables (settled (numbers tables) (whole_list (numbers tables)) TAbort (aborted_line n reason) (aborted (numbers tables) y)) (abort lists reason x)) (sym (ap (λ (b : Bones). b.transaction) same.first))
      (settled_alike tables cs alike.stands.mean alike.numbered.classes v0 w0 (whole_list (numbers tables)) (whole_list lists) (whole_places tables cs alike.stands.mean) TAbort (aborted_line x.first.bones.transaction reason) (aborted (numbers tables) y) (aborted lists x) (record {
        same = record {
          bones = ap (λ f. back_bones f y.now.bones) same.first ∙ ap (λ n. back_bones x.first.bones n) same.bones;
          classes = first_classes;
          first = same.first;
          origin = same.origin;
          touched = same.touched;
          deferred = same.deferred;
          collected = ap (filter is_independent) same.collected;
          gathered = same.gathered;
          text = same.text;
          run = same.run;
          keys = same.keys;
          footprint = same.footprint;
        };
        pair =
            rewound_pair tables cs alike.stands.mean y.first y.now x.first x.now same.first first_classes first_pair pair
            (subst (λ (w : ListWorld). AllZip (StaysIn x.now) w.bones.objects w.pasts) (sym first_x) all) (subst (λ (w : ListWorld). w.bones.next ≤ x.now.bones.next) (sym first_x) next);
        first_y = first_y;
        first_x = first_x;
        hold = tt;
      }))
    where
      first_classes : x.first.bones.classes ≡ cs
      first_classes = ap (λ (w : ListWorld). w.bones.classes) first_x

      first_pair : Pair tables cs x.first.bones y.first.pasts x.first.pasts
      first_pair =
          subst (λ (v : NumberWorld). Pair tables cs x.first.bones v.pasts x.first.pasts) (sym first_y)
          (subst (λ (w : ListWorld). Pair tables cs w.bones v0.pasts w.pasts) (sym first_x) (pair_of tables cs v0 w0 refl alike))

  pub aborts_alike : (reason : Reason) (y : NumberTx) (x : ListTx) → TheWork y x → SettledAs tables (abort (numbers tables) reason y) (abort lists reason x)
  aborts_alike reason y x h = aborts_by reason cs y x h.same h.pair h.first_y h.first_x h.hold.all h.hold.next

  pub commits_alike : (y : NumberTx) (x : ListTx) → TheWork y x → SettledAs tables (commit (numbers tables) y) (commit lists x)
  commits_alike y x h = commits_by tables cs alike.stands.mean alike.numbered.classes v0 w0 (StaysAll tables cs alike.stands.mean alike.numbered.classes v0 w0) y x h

  pub settles_alike : (p : Outcome (Unit {0}) ℕ (Unit {0})) (q : Outcome Histories Starts (Unit {0})) → EndsBy TheWork TheWork p q → SettledAs tables (settle (numbers tables) p) (settle lists q)
  settles_alike (Done r y) (Done t x) h = commits_alike y x h.1
  settles_alike (Aborted r y) (Aborted t x) h =
      subst (λ u. SettledAs tables (abort (numbers tables) u y) (abort lists t x)) (sym h.0) (aborts_alike t y x h.1)
  settles_alike (Done r y) (Aborted t x) h = absurd h
  settles_alike (Aborted r y) (Done t x) h = absurd h

  -- ---- a whole transaction

  begun_work : (origin : Origin) → TheWork (begun origin v0) (begun origin w0)
  begun_work origin = record {
    same = record {
      bones = alike.stands.bones;
      classes = refl;
      first = alike.stands.bones;
      origin = refl;
      touched = refl;
      deferred = refl;
      collected = refl;
      gathered = refl;
      text = refl;
      run = refl;
      keys = refl;
      footprint = refl;
    };
    pair = pair_of tables cs v0 w0 refl alike;
    first_y = refl;
    first_x = refl;
    hold = record { all = itself_stays w0 alike.numbered alike.stands.within; next = omega arith };
  }

  pub transaction_alike : (origin : Origin) (n : ℕ) (a : Deed (Unit {0}) ℕ) (b : Deed Histories Starts) → Alike the_work n 0 a b → SettledAs tables (transaction (numbers tables) origin a v0) (transaction lists origin b w0)
  unfolding transaction
  transaction_alike origin n a b are =
      settles_alike ((a >> completes (numbers tables)) (begun origin v0)) ((b >> completes lists) (begun origin w0))
      (next_alike the_work n 0 0 a b are (completes (numbers tables)) (completes lists) (completes_alike the_work 0) (begun origin v0) (begun origin w0) (begun_work origin))

  pub entry_settles : (q : ℕ × Entry) → SettledAs tables (entry_settled (numbers tables) v0 q) (entry_settled lists w0 q)
  entry_settles q = transaction_alike (Queue q.0 q.1.generation) 1 (runs_entry (numbers tables) q.1) (runs_entry lists q.1) (entry_alike the_work 0 q.1)

  pub script_settles : (origin : Origin) (s : Stmt) → SettledAs tables (transaction (numbers tables) origin (commands (numbers tables) s) v0) (transaction lists origin (commands lists s) w0)
  script_settles origin s = transaction_alike origin 0 (commands (numbers tables) s) (commands lists s) (commands_alike the_work 0 s)

-- ---- what the laws say

module _ (tables : ℕ → ℕ → Table) where
  -- an act of an open transaction
  act_runs : {X : Type 0} (a : Act (Unit {0}) ℕ X) (b : Act Histories Starts X) → ((v0 : NumberWorld) (w0 : ListWorld) (alike : IsAlike tables v0 w0) → Alike (the_work tables v0 w0 alike) 0 0 a b)
      → (y : NumberTx) (x : ListTx) → RunsAs tables y x → EndsAs tables (a y) (b x)
  act_runs a b are y x r = ends_of tables y.first x.first r.first (a y) (b x) (are y.first x.first r.first y x (work_of tables y.first x.first r.first y x refl refl r))

  pub statements_run : (s : Stmt) (y : NumberTx) (x : ListTx) → RunsAs tables y x → EndsAs tables (commands (numbers tables) s y) (commands lists s x)
  statements_run s = act_runs (commands (numbers tables) s) (commands lists s) (λ v0 w0 alike. commands_alike (the_work tables v0 w0 alike) 0 s)

  pub completions_run : (y : NumberTx) (x : ListTx) → RunsAs tables y x → EndsAs tables (completes (numbers tables) y) (completes lists x)
  completions_run = act_runs (completes (numbers tables)) (completes lists) (λ v0 w0 alike. completes_alike (the_work tables v0 w0 alike) 0)

  pub commits_run : (y : NumberTx) (x : ListTx) → RunsAs tables y x → SettledAs tables (commit (numbers tables) y) (commit lists x)
  commits_run y x r = commits_alike tables y.first x.first r.first y x (work_of tables y.first x.first r.first y x refl refl r)

  pub aborts_run : (reason : Reason) (y : NumberTx) (x : ListTx) → RunsAs tables y x → SettledAs tables (abort (numbers tables) reason y) (abort lists reason x)
  aborts_run reason y x r = aborts_alike tables y.first x.first r.first reason y x (work_of tables y.first x.first r.first y x refl refl r)

  pub begun_runs : (origin : Origin) (v : NumberWorld) (w : ListWorld) → IsAlike tables v w → RunsAs tables (begun origin v) (begun origin w)
  begun_runs origin v w alike = runs_of tables v w alike (begun origin v) (begun origin w) (begun_work tables v w alike origin)

  front_alike : (queue : List (ℕ × Entry)) (other : List (ℕ × Entry)) → queue ≡ other → (v : NumberWorld) (w : ListWorld) → IsAlike tables v w → (rest : Settled (Unit {0}) ℕ → List (Settled (Unit {0}) ℕ)) (more : Settled Histories Starts → List (Settled Histories Starts))
      → ((s : Settled (Unit {0}) ℕ) (t : Settled Histories Starts) → SettledAs tables s t → AllZip (SettledAs tables) (rest s) (more t))
      → AllZip (SettledAs tables) (front (numbers tables) queue v rest) (front lists other w more)
  front_alike queue other e v w alike rest more are =
      subst (λ qs. AllZip (SettledAs tables) (front (numbers tables) qs v rest) (front lists other w more)) (sym e) (same_front other) where
        same_front : (qs : List (ℕ × Entry)) → AllZip (SettledAs tables) (front (numbers tables) qs v rest) (front lists qs w more)
        same_front [] = tt
        same_front (q ∷ qs) =
            subst (λ n. AllZip (SettledAs tables) (cond (nat_lt n number_limit) (rest (entry_settled (numbers tables) v q)) []) (cond (nat_lt w.bones.transaction number_limit) (more (entry_settled lists w q)) []))
            (sym (ap (λ (b : Bones). b.transaction) alike.stands.bones)) (by_test (nat_lt w.bones.transaction number_limit))
          where
            by_test : (b : Bool) → AllZip (SettledAs tables) (cond b (rest (entry_settled (numbers tables) v q)) []) (cond b (more (entry_settled lists w q)) [])
            by_test true = are (entry_settled (numbers tables) v q) (entry_settled lists w q) (entry_settles tables v w alike q)
            by_test false = tt

  pub drains_run : (most : ℕ) (v : NumberWorld) (w : ListWorld) → IsAlike tables v w → AllZip (SettledAs tables) (drain (numbers tables) most v) (drain lists most w)
  unfolding drain
  drains_run zero v w alike = tt
  drains_run (suc most) v w alike =
      front_alike v.bones.queue w.bones.queue (ap (λ (b : Bones). b.queue) alike.stands.bones) v w alike (λ s. s ∷ drain (numbers tables) most s.0) (λ s. s ∷ drain lists most s.0)
      (λ s t settled. (settled, drains_run most s.0 t.0 settled.world))

  -- acts that follow one another
  go_runs : {X Y : Type 0} (p : Outcome (Unit {0}) ℕ X) (q : Outcome Histories Starts X) → EndsAs tables p q → (f : X → Act (Unit {0}) ℕ Y) (g : X → Act Histories Starts Y) → ((r : X) → RunAlike tables (f r) (g r)) → EndsAs tables (go_on p f) (go_on q g)
  go_runs (Done r y) (Done t x) h f g rest = subst (λ u. EndsAs tables (f r y) (g u x)) h.0 (rest r y x h.1)
  go_runs (Aborted r y) (Aborted t x) h f g rest = h
  go_runs (Done r y) (Aborted t x) h f g rest = absurd h
  go_runs (Aborted r y) (Done t x) h f g rest = absurd h

  pub next_runs : (a : Deed (Unit {0}) ℕ) (b : Deed Histories Starts) → RunAlike tables a b → (f : Deed (Unit {0}) ℕ) (g : Deed Histories Starts) → RunAlike tables f g → RunAlike tables (a >> f) (b >> g)
  next_runs a b are f g more y x r = go_runs (a y) (b x) (are y x r) (λ _. f) (λ _. g) (λ _. more)

  pub settles_run : (p : Outcome (Unit {0}) ℕ (Unit {0})) (q : Outcome Histories Starts (Unit {0})) → EndsAs tables p q → SettledAs tables (settle (numbers tables) p) (settle lists q)
  settles_run (Done r y) (Done t x) h = commits_run y x h.1
  settles_run (Aborted r y) (Aborted t x) h = subst (λ u. SettledAs tables (abort (numbers tables) u y) (abort lists t x)) (sym h.0) (aborts_run t y x h.1)
  settles_run (Done r y) (Aborted t x) h = absurd h
  settles_run (Aborted r y) (Done t x) h = absurd h

  pub transactions_run : (origin : Origin) (a : Deed (Unit {0}) ℕ) (b : Deed Histories Starts) → RunAlike tables a b → (v : NumberWorld) (w : ListWorld) → IsAlike tables v w
      → SettledAs tables (transaction (numbers tables) origin a v) (transaction lists origin b w)
  unfolding transaction
  transactions_run origin a b are v w alike =
      settles_run ((a >> completes (numbers tables)) (begun origin v)) ((b >> completes lists) (begun origin w))
      (next_runs a b are (completes (numbers tables)) (completes lists) completions_run (begun origin v) (begun origin w) (begun_runs origin v w alike))

  pub firings_run : (f : Firing) → RunAlike tables (runs (first_actions (numbers tables)) f) (runs (first_actions lists) f)
  firings_run f = act_runs (runs (first_actions (numbers tables)) f) (runs (first_actions lists) f) (λ v0 w0 alike. first_runs_alike (the_work tables v0 w0 alike) 0 f)

  pub points_run : (id : ℕ) (kind : Kind) (args : List Value) → RunAlike tables (posts (numbers tables) (first_actions (numbers tables)) id kind args) (posts lists (first_actions lists) id kind args)
  points_run id kind args =
      act_runs (posts (numbers tables) (first_actions (numbers tables)) id kind args) (posts lists (first_actions lists) id kind args)
      (λ v0 w0 alike. posts_alike (the_work tables v0 w0 alike) 0 (first_actions (numbers tables)) (first_actions lists) (first_alike (the_work tables v0 w0 alike)) id kind args)

  pub touches_run : (id : ℕ) → RunAlike tables (touches (numbers tables) (first_actions (numbers tables)) id) (touches lists (first_actions lists) id)
  touches_run id y x r =
      ends_of tables y.first x.first r.first (touches (numbers tables) (first_actions (numbers tables)) id y) (touches lists (first_actions lists) id x)
      (touches_alike (the_work tables y.first x.first r.first) 0 (first_actions (numbers tables)) (first_actions lists) (first_alike (the_work tables y.first x.first r.first)) id y x
      (work_of tables y.first x.first r.first y x refl refl r))
