-- What a commit and an abort keep of rows.
use Rattle.std.proofs.Common.{◌≡◌, ◌≢◌, ◌⊎◌, inl, inr, ℕ, ◌+◌, ◌<◌, ◌≤◌, Bool, true, false, cond, List, [], ◌∷◌, map, ◌==◌, Option, Some, None, refl, sym, ap, ◌∙◌, subst, arith}
use Rattle.std.specs.Prelude.{◌||◌}
use Rattle.std.specs.List.{AllByRecursion, AllZip, find, filter, filter_map, list_any, cons_option}
use Rattle.std.specs.Option.{option_map, option_map_or, option_and_then, unwrap_or}
use Rattle.std.proofs.lemmas.Bool.{eq-eqb}
use Rattle.std.proofs.lemmas.Bool.Decides.{eqb_tells}
use Rattle.ode_value.specs.Denoting.{object_numbered, object_at, if_live}
use Rattle.ode_value.specs.Firings.{watch_by, watch_at, changed_row}
use Rattle.ode_value.specs.GoodWorlds.{RiseFrom}
use Rattle.ode_value.specs.Keeping.{is_active, is_there, has_activation, kept_object, kept_bones, with_last, kept_past, kept_row, back, rewound_past, rewound_row}
use Rattle.ode_value.specs.Language.{ListWorld}
use Rattle.ode_value.specs.Objects.{Activation, Histories, Starts, IsWithin, rewound}
use Rattle.ode_value.specs.Pasts.{Kept, Watch, lists, numbers, StandsFor}
use Rattle.ode_value.specs.Tables.{Table}
use Rattle.ode_value.specs.Worlds.{Declared, Object, Bones, kept_at}
use Rattle.ode_value.proofs.PastLaws.{back_stands}
use Rattle.ode_codec.specs.Standing.{HasTables}
use Rattle.ode_laws.specs.Alike.{NumberWorld, StaysActive, StaysIn}
use Rattle.ode_laws.specs.Numbered.{HasNumbers, AreNumbered}
use Rattle.ode_laws.proofs.AlikePairs.{Pair}
use Rattle.ode_laws.proofs.AlikeRows.{number_of, Sees, Stays, Object3, Pasts3, watch_means}
use Rattle.ode_laws.proofs.Each.{all-filter, all-map, all-then}
use Rattle.ode_laws.proofs.Numbers.{apart, rise_filter}
use Rattle.ode_laws.proofs.Rows.{Rows, id_of, Found, rows_at, rows_left, find_rising, numbered_find}

apart_back_by : (a b : ℕ) → ((b == a) ≡ true × (b ≡ a)) ⊎ ((b == a) ≡ false × (b ≢ a)) → a < b → (b == a) ≡ false
apart_back_by a b (inl p) less = let same : b ≡ a = p.1 in absurd (omega arith)
apart_back_by a b (inr p) less = p.0

apart_back : (a b : ℕ) → a < b → (b == a) ≡ false
apart_back a b less = apart_back_by a b (eqb_tells b a) less

-- ---- rows of some things

pub rows_filter : {X K L : Type 0} (key : X → ℕ) (Q : X → K → L → Type 0) (p : X → Bool) (t : ℕ → Bool) (xs : List X) (ks : List (ℕ × K)) (ls : List (ℕ × L)) → AllByRecursion (λ x. t (key x) ≡ p x) xs
    → Rows key Q xs ks ls → Rows key Q (filter p xs) (filter (λ (row : ℕ × K). t row.0) ks) (filter (λ (row : ℕ × L). t row.0) ls)
rows_filter key Q p t [] [] [] all rows = tt
rows_filter {X} {K} {L} key Q p t (x ∷ xs) (k ∷ ks) (l ∷ ls) all rows =
    by_test (p x) (t k.0) (t l.0) (sym all.0 ∙ ap t (sym rows.0)) (sym all.0 ∙ ap t (sym rows.1)) (rows_filter key Q p t xs ks ls all.1 rows.3)
  where
    by_test : (b c d : Bool) → b ≡ c → b ≡ d → Rows key Q (filter p xs) (filter (λ (row : ℕ × K). t row.0) ks) (filter (λ (row : ℕ × L). t row.0) ls)
        → Rows key Q (cond b (x ∷ filter p xs) (filter p xs)) (cond c (k ∷ filter (λ (row : ℕ × K). t row.0) ks) (filter (λ (row : ℕ × K). t row.0) ks)) (cond d (l ∷ filter (λ (row : ℕ × L). t row.0) ls) (filter (λ (row : ℕ × L). t row.0) ls))
    by_test true true true e f rest = (rows.0, rows.1, rows.2, rest)
    by_test false false false e f rest = rest
    by_test true false d e f rest = absurd (cc)
    by_test false true d e f rest = absurd (cc)
    by_test true true false e f rest = absurd (cc)
    by_test false false true e f rest = absurd (cc)
rows_filter key Q p t [] (k ∷ ks) ls all rows = absurd rows
rows_filter key Q p t [] [] (l ∷ ls) all rows = absurd rows
rows_filter key Q p t (x ∷ xs) [] ls all rows = absurd rows
rows_filter key Q p t (x ∷ xs) (k ∷ ks) [] all rows = absurd rows

-- rows changed, where more is known of the things and their second rows
pub rows_move_zip : {X K L : Type 0} (key : X → ℕ) (N : X → Type 0) (Z : X → ℕ × L → Type 0) (P Q : X → K → L → Type 0) (g : ℕ × K → ℕ × K) (h : ℕ × L → ℕ × L) → ((k : ℕ × K) → (g k).0 ≡ k.0) → ((l : ℕ × L) → (h l).0 ≡ l.0)
    → ((x : X) (k : ℕ × K) (l : ℕ × L) → N x → Z x l → k.0 ≡ key x → l.0 ≡ key x → P x k.1 l.1 → Q x (g k).1 (h l).1)
    → (xs : List X) (ks : List (ℕ × K)) (ls : List (ℕ × L)) → AllByRecursion N xs → AllZip Z xs ls → Rows key P xs ks ls → Rows key Q xs (map g ks) (map h ls)
rows_move_zip key N Z P Q g h gs hs change [] [] [] all zip rows = tt
rows_move_zip key N Z P Q g h gs hs change (x ∷ xs) (k ∷ ks) (l ∷ ls) all zip rows =
    (gs k ∙ rows.0, hs l ∙ rows.1, change x k l all.0 zip.0 rows.0 rows.1 rows.2, rows_move_zip key N Z P Q g h gs hs change xs ks ls all.1 zip.1 rows.3)
rows_move_zip key N Z P Q g h gs hs change [] (k ∷ ks) ls all zip rows = absurd rows
rows_move_zip key N Z P Q g h gs hs change [] [] (l ∷ ls) all zip rows = absurd rows
rows_move_zip key N Z P Q g h gs hs change (x ∷ xs) [] ls all zip rows = absurd rows
rows_move_zip key N Z P Q g h gs hs change (x ∷ xs) (k ∷ ks) [] all zip rows = absurd rows

-- ---- activations that are on

none_on : (n from : ℕ) → n < from → (acts : List Activation) → RiseFrom from (map number_of acts) → list_any (λ (b : Activation). b.number == n) (filter is_active acts) ≡ false
none_on n from less [] rise = refl
none_on n from less (a ∷ acts) rise = let up : from ≤ a.number = rise.0 in by_test a.on (none_on n (a.number + 1) (omega arith) acts rise.1) (let differs : n < a.number = omega arith in differs) where
  by_test : (b : Bool) → list_any (λ (c : Activation). c.number == n) (filter is_active acts) ≡ false → n < a.number → list_any (λ (c : Activation). c.number == n) (cond b (a ∷ filter is_active acts) (filter is_active acts)) ≡ false
  by_test true rest differs = ap (λ t. t || list_any (λ (c : Activation). c.number == n) (filter is_active acts)) (apart_back n a.number differs) ∙ rest
  by_test false rest differs = rest

-- an activation is among those that are on where it is on
pub any_on : (low : ℕ) (acts : List Activation) → RiseFrom low (map number_of acts) → AllByRecursion (λ (a : Activation). list_any (λ (b : Activation). b.number == a.number) (filter is_active acts) ≡ a.on) acts
any_on low [] rise = tt
any_on low (a ∷ acts) rise = (here a.on refl (none_on a.number (a.number + 1) (omega arith) acts rise.1), behind acts (a.number + 1) (omega arith) rise.1 (any_on (a.number + 1) acts rise.1)) where
  here : (b : Bool) → a.on ≡ b → list_any (λ (c : Activation). c.number == a.number) (filter is_active acts) ≡ false
      → list_any (λ (c : Activation). c.number == a.number) (cond b (a ∷ filter is_active acts) (filter is_active acts)) ≡ b
  here true e none = ap (λ t. t || list_any (λ (c : Activation). c.number == a.number) (filter is_active acts)) (eq-eqb a.number a.number refl)
  here false e none = none

  behind : (more : List Activation) (from : ℕ) → a.number < from → RiseFrom from (map number_of more) → AllByRecursion (λ (q : Activation). list_any (λ (b : Activation). b.number == q.number) (filter is_active acts) ≡ q.on) more
      → AllByRecursion (λ (q : Activation). list_any (λ (b : Activation). b.number == q.number) (filter is_active (a ∷ acts)) ≡ q.on) more
  behind [] from less rises all = tt
  behind (q ∷ more) from less rises all =
      let up : from ≤ q.number = rises.0 in
      (skipped a.on q (omega arith) ∙ all.0, behind more (q.number + 1) (omega arith) rises.1 all.1)
    where
      skipped : (b : Bool) (c : Activation) → a.number < c.number
          → list_any (λ (d : Activation). d.number == c.number) (cond b (a ∷ filter is_active acts) (filter is_active acts)) ≡ list_any (λ (d : Activation). d.number == c.number) (filter is_active acts)
      skipped true c differs = ap (λ t. t || list_any (λ (d : Activation). d.number == c.number) (filter is_active acts)) (apart a.number c.number differs)
      skipped false c differs = refl

-- ---- objects that are there

none_there : (n from : ℕ) → n < from → (os : List Object) → RiseFrom from (map id_of os) → object_numbered n (map kept_object (filter is_there os)) ≡ None
none_there n from less [] rise = refl
none_there n from less (o ∷ os) rise = let up : from ≤ o.id = rise.0 in by_test o.live (none_there n (o.id + 1) (omega arith) os rise.1) (let differs : n < o.id = omega arith in differs) where
  by_test : (b : Bool) → object_numbered n (map kept_object (filter is_there os)) ≡ None → n < o.id → object_numbered n (map kept_object (cond b (o ∷ filter is_there os) (filter is_there os))) ≡ None
  by_test true rest differs = ap (λ t. cond t (Some (kept_object o)) (object_numbered n (map kept_object (filter is_there os)))) (apart_back n o.id differs) ∙ rest
  by_test false rest differs = rest

-- an object is kept where it is live
abbrev pub IsKept : Bones → Object → Type 0
IsKept b o = object_at b o.id ≡ cond o.live (Some (kept_object o)) None

numbered_kept : (low : ℕ) (os : List Object) → RiseFrom low (map id_of os) → AllByRecursion (λ (o : Object). object_numbered o.id (map kept_object (filter is_there os)) ≡ cond o.live (Some (kept_object o)) None) os
numbered_kept low [] rise = tt
numbered_kept low (o ∷ os) rise = (here o.live (none_there o.id (o.id + 1) (omega arith) os rise.1), behind os (o.id + 1) (omega arith) rise.1 (numbered_kept (o.id + 1) os rise.1)) where
  here : (b : Bool) → object_numbered o.id (map kept_object (filter is_there os)) ≡ None → object_numbered o.id (map kept_object (cond b (o ∷ filter is_there os) (filter is_there os))) ≡ cond b (Some (kept_object o)) None
  here true none = ap (λ t. cond t (Some (kept_object o)) (object_numbered o.id (map kept_object (filter is_there os)))) (eq-eqb o.id o.id refl)
  here false none = none

  behind : (more : List Object) (from : ℕ) → o.id < from → RiseFrom from (map id_of more) → AllByRecursion (λ (q : Object). object_numbered q.id (map kept_object (filter is_there os)) ≡ cond q.live (Some (kept_object q)) None) more
      → AllByRecursion (λ (q : Object). object_numbered q.id (map kept_object (filter is_there (o ∷ os))) ≡ cond q.live (Some (kept_object q)) None) more
  behind [] from less rises all = tt
  behind (q ∷ more) from less rises all =
      let up : from ≤ q.id = rises.0 in
      (skipped o.live q (omega arith) ∙ all.0, behind more (q.id + 1) (omega arith) rises.1 all.1)
    where
      skipped : (b : Bool) (c : Object) → o.id < c.id
          → object_numbered c.id (map kept_object (cond b (o ∷ filter is_there os) (filter is_there os))) ≡ object_numbered c.id (map kept_object (filter is_there os))
      skipped true c differs = ap (λ t. cond t (Some (kept_object o)) (object_numbered c.id (map kept_object (filter is_there os)))) (apart o.id c.id differs)
      skipped false c differs = refl

pub all_kept : (b : Bones) → RiseFrom 0 (map id_of b.objects) → AllByRecursion (IsKept (kept_bones b)) b.objects
all_kept b rise =
    all-then (λ (o : Object). object_numbered o.id (map kept_object (filter is_there b.objects)) ≡ cond o.live (Some (kept_object o)) None) (IsKept (kept_bones b)) (λ o is. ap (option_and_then if_live) is ∙ live o o.live refl)
    b.objects (numbered_kept 0 b.objects rise)
  where
    live : (o : Object) (l : Bool) → o.live ≡ l → option_and_then if_live (cond l (Some (kept_object o)) None) ≡ cond l (Some (kept_object o)) None
    live o true e = ap (λ t. cond t (Some (kept_object o)) None) e
    live o false e = refl

kept_ids : (os : List Object) → map id_of (map kept_object os) ≡ map id_of os
kept_ids [] = refl
kept_ids (o ∷ os) = ap (λ ns. o.id ∷ ns) (kept_ids os)

kept_numbers : (next : ℕ) (o : Object) → HasNumbers next o → HasNumbers next (kept_object o)
kept_numbers next o h = record {
  drawn = h.drawn;
  rising = rise_filter number_of is_active 0 o.activations h.rising;
  activations = all-filter (λ (a : Activation). a.number < next) is_active o.activations h.activations;
}

pub kept_numbered : (b : Bones) → AreNumbered b → AreNumbered (kept_bones b)
kept_numbered b n = record {
  classes = n.classes;
  rising = subst (RiseFrom 0) (sym (kept_ids (filter is_there b.objects))) (rise_filter id_of is_there 0 b.objects n.rising);
  objects =
      all-map (HasNumbers b.next) kept_object (filter is_there b.objects)
      (all-filter (λ o. HasNumbers b.next (kept_object o)) is_there b.objects (all-then (HasNumbers b.next) (λ o. HasNumbers b.next (kept_object o)) (kept_numbers b.next) b.objects n.objects));
}

module _ (tables : ℕ → ℕ → Table) (classes : List Declared) where
  kept_object3 : (o : Object) → RiseFrom 0 (map number_of o.activations) → (k : Kept (Unit {0}) ℕ) (l : Kept Histories Starts) → Object3 tables classes o k l
      → Object3 tables classes (kept_object o) (kept_past k (kept_object o)) (kept_past l (kept_object o))
  kept_object3 o rise k l rows =
      rows_filter number_of (Stays tables classes l.own) is_active (has_activation (kept_object o)) o.activations k.activations l.activations (any_on 0 o.activations rise) rows

  kept_rows : (b : Bones) (next : ℕ) (os : List Object) (ks : List (ℕ × Kept (Unit {0}) ℕ)) (ls : List (ℕ × Kept Histories Starts)) → AllByRecursion (IsKept b) os → AllByRecursion (HasNumbers next) os
      → Pasts3 tables classes os ks ls → Pasts3 tables classes (map kept_object (filter is_there os)) (filter_map (kept_row b) ks) (filter_map (kept_row b) ls)
  kept_rows b next [] [] [] kept numbered rows = tt
  kept_rows b next (o ∷ os) (k ∷ ks) (l ∷ ls) kept numbered rows =
      subst (λ m. Pasts3 tables classes (map kept_object (filter is_there (o ∷ os))) (cons_option (option_map (λ p. (k.0, kept_past k.1 p)) m) (filter_map (kept_row b) ks)) (filter_map (kept_row b) (l ∷ ls))) (sym (ap (object_at b) rows.0 ∙ kept.0))
      (subst (λ m. Pasts3 tables classes (map kept_object (filter is_there (o ∷ os))) (cons_option (option_map (λ p. (k.0, kept_past k.1 p)) (cond o.live (Some (kept_object o)) None)) (filter_map (kept_row b) ks))
      (cons_option (option_map (λ p. (l.0, kept_past l.1 p)) m) (filter_map (kept_row b) ls))) (sym (ap (object_at b) rows.1 ∙ kept.0))
      (by_live o.live (kept_rows b next os ks ls kept.1 numbered.1 rows.3)))
    where
      by_live : (t : Bool) → Pasts3 tables classes (map kept_object (filter is_there os)) (filter_map (kept_row b) ks) (filter_map (kept_row b) ls)
          → Pasts3 tables classes (map kept_object (cond t (o ∷ filter is_there os) (filter is_there os)))
          (cons_option (option_map (λ p. (k.0, kept_past k.1 p)) (cond t (Some (kept_object o)) None)) (filter_map (kept_row b) ks))
          (cons_option (option_map (λ p. (l.0, kept_past l.1 p)) (cond t (Some (kept_object o)) None)) (filter_map (kept_row b) ls))
      by_live true rest = (rows.0, rows.1, kept_object3 o numbered.0.rising k.1 l.1 rows.2, rest)
      by_live false rest = rest
  kept_rows b next [] (k ∷ ks) ls kept numbered rows = absurd rows
  kept_rows b next [] [] (l ∷ ls) kept numbered rows = absurd rows
  kept_rows b next (o ∷ os) [] ls kept numbered rows = absurd rows
  kept_rows b next (o ∷ os) (k ∷ ks) [] kept numbered rows = absurd rows

  -- what a commit keeps
  pub kept_pair : (b : Bones) (ks : List (ℕ × Kept (Unit {0}) ℕ)) (ls : List (ℕ × Kept Histories Starts)) → Pair tables classes b ks ls
      → Pair tables classes (kept_bones b) (filter_map (kept_row (kept_bones b)) ks) (filter_map (kept_row (kept_bones b)) ls)
  kept_pair b ks ls pair = record {
    rows = kept_rows (kept_bones b) b.next b.objects ks ls (all_kept b pair.numbered.rising) pair.numbered.objects pair.rows;
    numbered = kept_numbered b pair.numbered;
  }

  -- ---- what an abort keeps

  module _ (mean : AllByRecursion (HasTables tables) classes) where
    module _ (o : Object) (rising : RiseFrom 0 (map number_of o.activations)) (p : Object) (k kn : Kept (Unit {0}) ℕ) (l kl : Kept Histories Starts) (now : Object3 tables classes p kn kl) where
      abbrev IsFound : Activation → Type 0
      IsFound a = find (λ (b : Activation). b.number == a.number) o.activations ≡ Some a

      abbrev number_back : ℕ × ℕ → ℕ × ℕ
      number_back = changed_row (back (numbers tables) kn.activations) (watch_at classes o)

      abbrev start_back : ℕ × Starts → ℕ × Starts
      start_back = changed_row (back lists kl.activations) (watch_at classes o)

      moved_back : (a : Activation) (row : ℕ × ℕ) (start : ℕ × Starts) → IsFound a → StaysActive p kl a start → row.0 ≡ a.number → start.0 ≡ a.number
          → Stays tables classes l.own a row.1 start.1 → Stays tables classes (rewound l.own kl.own) a (number_back row).1 (start_back start).1
      moved_back a row start is z e f s = by_watch (watch_by classes a) refl s.sees where
        at_now : Found number_of (Stays tables classes kl.own) z.now (kept_at a.number kn.activations) (kept_at a.number kl.activations)
        at_now = rows_at number_of (Stays tables classes kl.own) a.number p.activations kn.activations kl.activations now z.now z.found

        one_start : at_now.l ≡ start.1
        one_start = let both : Some at_now.l ≡ Some start.1 = sym at_now.l_is ∙ z.start in cc

        one_watch : watch_by classes z.now ≡ watch_by classes a
        one_watch = ap (watch_by classes) z.same

        within : IsWithin start.1 (rewound l.own kl.own)
        within = record { whole = (subst (λ t. IsWithin t kl.own) one_start at_now.holds.within).whole; committed = s.within.committed }

        at : (n : ℕ) → n ≡ a.number → watch_at classes o n ≡ watch_by classes a
        at n q = ap (λ m. watch_at classes o m) q ∙ ap (λ b. option_and_then (watch_by classes) b) is

        by_watch : (v : Option Watch) → watch_by classes a ≡ v → Sees tables classes l.own start.1 row.1 v → Stays tables classes (rewound l.own kl.own) a (number_back row).1 (start_back start).1
        by_watch None q seen = absurd seen
        by_watch (Some w) q seen =
            subst (λ v. Stays tables classes (rewound l.own kl.own) a (option_map_or (λ u. back (numbers tables) kn.activations row.0 u row.1) v row.1) (start_back start).1) (sym (at row.0 e ∙ q))
            (subst (λ v. Stays tables classes (rewound l.own kl.own) a (back (numbers tables) kn.activations row.0 w row.1) (option_map_or (λ u. back lists kl.activations start.0 u start.1) v start.1)) (sym (at start.0 f ∙ q))
            (subst (λ m. Stays tables classes (rewound l.own kl.own) a (cond w.whole (unwrap_or m row.1) row.1) start.1) (sym (ap (λ n. kept_at n kn.activations) e ∙ at_now.k_is))
            (record {
              within = within;
              sees =
                  subst (Sees tables classes (rewound l.own kl.own) start.1 (cond w.whole at_now.k row.1)) (sym q)
                  (back_stands tables w (watch_means tables classes mean a w q) l.own kl.own start.1 row.1 at_now.k seen
                  (subst (λ t. StandsFor tables w kl.own t at_now.k) one_start (subst (Sees tables classes kl.own at_now.l at_now.k) (one_watch ∙ q) at_now.holds.sees)));
            })))

      object_back : AllZip (StaysActive p kl) o.activations l.activations → Object3 tables classes o k l → Object3 tables classes o (rewound_past (numbers tables) classes k kn o) (rewound_past lists classes l kl o)
      object_back zip rows =
          rows_move_zip number_of IsFound (StaysActive p kl) (Stays tables classes l.own) (Stays tables classes (rewound l.own kl.own)) number_back start_back (λ row. refl) (λ row. refl) moved_back
          o.activations k.activations l.activations (find_rising number_of 0 o.activations rising) zip rows

    -- by the first world and the world now
    module _ (v v' : NumberWorld) (w w' : ListWorld) (bones : v.bones ≡ w.bones) (is : w.bones.classes ≡ classes) where
      abbrev IsOwn : Object → Type 0
      IsOwn o = (object_numbered o.id w.bones.objects ≡ Some o) × HasNumbers w.bones.next o

      live_of : (o : Object) (id : ℕ) → id ≡ o.id → object_numbered o.id w.bones.objects ≡ Some o → object_at w.bones id ≡ cond o.live (Some o) None
      live_of o id e found = ap (object_at w.bones) e ∙ ap (option_and_then if_live) found

      rewound_object : Pair tables classes w'.bones v'.pasts w'.pasts → (o : Object) (k : ℕ × Kept (Unit {0}) ℕ) (l : ℕ × Kept Histories Starts) → IsOwn o → StaysIn w' o l → k.0 ≡ o.id → l.0 ≡ o.id
          → Object3 tables classes o k.1 l.1 → Object3 tables classes o (rewound_row (numbers tables) v v' k).1 (rewound_row lists w w' l).1
      rewound_object now o k l own z e f rows =
          subst (λ m. Object3 tables classes o (option_map_or (rewound_past (numbers tables) v.bones.classes k.1 (unwrap_or (kept_at k.0 v'.pasts) k.1)) m k.1) (rewound_row lists w w' l).1)
          (sym (ap (λ b. object_at b k.0) bones ∙ live_of o k.0 e own.0))
          (subst (λ m. Object3 tables classes o (option_map_or (rewound_past (numbers tables) v.bones.classes k.1 (unwrap_or (kept_at k.0 v'.pasts) k.1)) (cond o.live (Some o) None) k.1)
          (option_map_or (rewound_past lists w.bones.classes l.1 (unwrap_or (kept_at l.0 w'.pasts) l.1)) m l.1)) (sym (live_of o l.0 f own.0))
          (by_live o.live))
        where
          at_now : Found id_of (Object3 tables classes) z.object (kept_at o.id v'.pasts) (kept_at o.id w'.pasts)
          at_now = rows_at id_of (Object3 tables classes) o.id w'.bones.objects v'.pasts w'.pasts now.rows z.object (sym (numbered_find o.id w'.bones.objects) ∙ z.found)

          one_past : at_now.l ≡ z.past
          one_past = let both : Some at_now.l ≡ Some z.past = sym at_now.l_is ∙ z.kept in cc

          live_back : Object3 tables classes o (rewound_past (numbers tables) classes k.1 at_now.k o) (rewound_past lists classes l.1 z.past o)
          live_back = object_back o own.1.rising z.object k.1 at_now.k l.1 z.past (subst (Object3 tables classes z.object at_now.k) one_past at_now.holds) z.activations rows

          by_live : (t : Bool) → Object3 tables classes o (option_map_or (rewound_past (numbers tables) v.bones.classes k.1 (unwrap_or (kept_at k.0 v'.pasts) k.1)) (cond t (Some o) None) k.1)
              (option_map_or (rewound_past lists w.bones.classes l.1 (unwrap_or (kept_at l.0 w'.pasts) l.1)) (cond t (Some o) None) l.1)
          by_live false = rows
          by_live true =
              subst (λ cs. Object3 tables classes o (rewound_past (numbers tables) cs k.1 (unwrap_or (kept_at k.0 v'.pasts) k.1) o) (rewound_past lists w.bones.classes l.1 (unwrap_or (kept_at l.0 w'.pasts) l.1) o))
              (sym (ap (λ (b : Bones). b.classes) bones ∙ is))
              (subst (λ cs. Object3 tables classes o (rewound_past (numbers tables) classes k.1 (unwrap_or (kept_at k.0 v'.pasts) k.1) o) (rewound_past lists cs l.1 (unwrap_or (kept_at l.0 w'.pasts) l.1) o)) (sym is)
              (subst (λ m. Object3 tables classes o (rewound_past (numbers tables) classes k.1 (unwrap_or m k.1) o) (rewound_past lists classes l.1 (unwrap_or (kept_at l.0 w'.pasts) l.1) o)) (sym (ap (λ n. kept_at n v'.pasts) e ∙ at_now.k_is))
              (subst (λ m. Object3 tables classes o (rewound_past (numbers tables) classes k.1 at_now.k o) (rewound_past lists classes l.1 (unwrap_or m l.1) o)) (sym (ap (λ n. kept_at n w'.pasts) f ∙ z.kept))
              live_back)))

      last_ids : (now : Bones) (os : List Object) → map id_of (map (with_last now) os) ≡ map id_of os
      last_ids now [] = refl
      last_ids now (o ∷ os) = ap (λ ns. o.id ∷ ns) (last_ids now os)

      more_numbers : (next : ℕ) → w.bones.next ≤ next → (now : Bones) (o : Object) → HasNumbers w.bones.next o → HasNumbers next (with_last now o)
      more_numbers next less now o h = record {
        drawn = let here : o.id < w.bones.next = h.drawn in omega arith;
        rising = h.rising;
        activations = all-then (λ (a : Activation). a.number < w.bones.next) (λ (a : Activation). a.number < next) (λ a below. omega arith) o.activations h.activations;
      }

      own_all : AreNumbered w.bones → AllByRecursion IsOwn w.bones.objects
      own_all n = both w.bones.objects (find_rising id_of 0 w.bones.objects n.rising) n.objects where
        both : (os : List Object) → AllByRecursion (λ o. find (λ (q : Object). q.id == o.id) w.bones.objects ≡ Some o) os → AllByRecursion (HasNumbers w.bones.next) os → AllByRecursion IsOwn os
        both [] found numbered = tt
        both (o ∷ os) found numbered = ((numbered_find o.id w.bones.objects ∙ found.0, numbered.0), both os found.1 numbered.1)

      pub rewound_pair : Pair tables classes w.bones v.pasts w.pasts → Pair tables classes w'.bones v'.pasts w'.pasts → AllZip (StaysIn w') w.bones.objects w.pasts → w.bones.next ≤ w'.bones.next
          → Pair tables classes (record w.bones { next = w'.bones.next; objects = map (with_last w'.bones) w.bones.objects }) (map (rewound_row (numbers tables) v v') v.pasts) (map (rewound_row lists w w') w.pasts)
      rewound_pair first now stays less = record {
        rows =
            rows_left id_of (Object3 tables classes) (Object3 tables classes) (with_last w'.bones) (λ o. refl) (λ o k l rows. rows) w.bones.objects (map (rewound_row (numbers tables) v v') v.pasts) (map (rewound_row lists w w') w.pasts)
            (rows_move_zip id_of IsOwn (StaysIn w') (Object3 tables classes) (Object3 tables classes) (rewound_row (numbers tables) v v') (rewound_row lists w w') (λ k. refl) (λ l. refl) (rewound_object now)
            w.bones.objects v.pasts w.pasts (own_all first.numbered) stays first.rows);
        numbered = record {
          classes = first.numbered.classes;
          rising = subst (RiseFrom 0) (sym (last_ids w'.bones w.bones.objects)) first.numbered.rising;
          objects =
              all-map (HasNumbers w'.bones.next) (with_last w'.bones) w.bones.objects
              (all-then (HasNumbers w.bones.next) (λ o. HasNumbers w'.bones.next (with_last w'.bones o)) (more_numbers w'.bones.next less w'.bones) w.bones.objects first.numbered.objects);
        };
      }
