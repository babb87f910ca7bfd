-- A class that is declared brings its tables, and the worlds stay alike.
use Rattle.std.proofs.Common.{◌≡◌, ℕ, ◌+◌, Bool, true, false, cond, List, [], ◌∷◌, ◌++◌, map, length, ◌==◌, Option, Some, None, refl, sym, ap, ◌∙◌, subst, arith}
use Rattle.std.specs.Prelude.{nat_le, slice_get}
use Rattle.std.specs.List.{AllByRecursion, AllZip}
use Rattle.std.specs.Option.{option_map, option_and_then}
use Rattle.ode_value.specs.declared.class.Class.{Class}
use Rattle.ode_value.specs.declared.reason.Reason.TheVariants.{Output, Space}
use Rattle.ode_value.specs.Acts.{Outcome, Done, Aborted, go_on, does, with_line}
use Rattle.ode_value.specs.Classes.{trigger_of, watch_of}
use Rattle.ode_value.specs.Completing.{completes, goes_round, tests_all, weighs}
use Rattle.ode_value.specs.Firings.{watch_by}
use Rattle.ode_value.specs.GoodWorlds.{RiseFrom}
use Rattle.ode_value.specs.Keeping.{kept_bones}
use Rattle.ode_value.specs.Language.{ListWorld}
use Rattle.ode_value.specs.Limits.{budget_limit, cascade_limit, output_limit, weight_limit}
use Rattle.ode_value.specs.Objects.{Activation, Histories, Starts}
use Rattle.ode_value.specs.Pasts.{Past, Kept, Watch, lists, numbers}
use Rattle.ode_value.specs.Settling.{settle, transaction}
use Rattle.ode_value.specs.Tables.{Table}
use Rattle.ode_value.specs.Transactions.{Tx, Script, begun}
use Rattle.ode_value.specs.Weights.{weight}
use Rattle.ode_value.specs.Worlds.{Declared, Object, Bones, World, class_numbered}
use Rattle.ode_value.specs.Texts.{class_line}
use Rattle.ode_codec.specs.Standing.{HasTables}
use Rattle.ode_machine.specs.Works.{declares}
use Rattle.ode_laws.specs.Alike.{NumberWorld, IsAlike, StaysIn, SettledAs}
use Rattle.ode_laws.specs.Numbered.{AreNumbered}
use Rattle.ode_laws.proofs.Sides.{Same}
use Rattle.ode_laws.proofs.AlikePairs.{Pair, zip_then}
use Rattle.ode_laws.proofs.AlikeRows.{number_of, Sees, Stays, Object3, Pasts3}
use Rattle.ode_laws.proofs.AlikeSettling.{pair_of, itself_stays, Still, commits_by, aborts_by}
use Rattle.ode_laws.proofs.Each.{all-append}
use Rattle.ode_laws.proofs.Rows.{id_of, rows_then}

pub more_found : (n : ℕ) (cs more : List Declared) (k : Class) → class_numbered n cs ≡ Some k → class_numbered n (cs ++ more) ≡ Some k
more_found n [] more k is = absurd (cc)
more_found n (c ∷ cs) more k is = by_test (c.class.number == n) is (more_found n cs more k) where
  by_test : (b : Bool) → cond b (Some c.class) (class_numbered n cs) ≡ Some k → (class_numbered n cs ≡ Some k → class_numbered n (cs ++ more) ≡ Some k) → cond b (Some c.class) (class_numbered n (cs ++ more)) ≡ Some k
  by_test true e rest = e
  by_test false e rest = rest e

-- what an activation watches for, by the class that is found
abbrev watching : Activation → Option Class → Option Watch
watching a o = option_map (λ t. watch_of t a.args) (option_map (λ t. trigger_of a.class (a.trigger, t)) (option_and_then (λ (c : Class). slice_get c.triggers a.trigger) o))

watch_more : (cs more : List Declared) (a : Activation) (w : Watch) → watch_by cs a ≡ Some w → watch_by (cs ++ more) a ≡ Some w
watch_more cs more a w is = by_class (class_numbered a.class cs) (more_found a.class cs more) is where
  by_class : (o : Option Class) → ((k : Class) → o ≡ Some k → class_numbered a.class (cs ++ more) ≡ Some k) → watching a o ≡ Some w → watching a (class_numbered a.class (cs ++ more)) ≡ Some w
  by_class None known e = absurd (cc)
  by_class (Some k) known e = ap (watching a) (known k refl) ∙ e

module _ (tables : ℕ → ℕ → Table) (cs more : List Declared) where
  stays_more : (h : Histories) (a : Activation) (state : ℕ) (start : Starts) → Stays tables cs h a state start → Stays tables (cs ++ more) h a state start
  stays_more h a state start s = by_watch (watch_by cs a) refl s.sees where
    by_watch : (o : Option Watch) → watch_by cs a ≡ o → Sees tables cs h start state o → Stays tables (cs ++ more) h a state start
    by_watch None e seen = absurd seen
    by_watch (Some w) e seen = record { within = s.within; sees = subst (Sees tables (cs ++ more) h start state) (sym (watch_more cs more a w e)) seen }

  pasts_more : (os : List Object) (ks : List (ℕ × Kept (Unit {0}) ℕ)) (ls : List (ℕ × Kept Histories Starts)) → Pasts3 tables cs os ks ls → Pasts3 tables (cs ++ more) os ks ls
  pasts_more = rows_then id_of (Object3 tables cs) (Object3 tables (cs ++ more))
      (λ o k l rows. rows_then number_of (Stays tables cs l.own) (Stays tables (cs ++ more) l.own) (λ a state start s. stays_more l.own a state start s) o.activations k.activations l.activations rows)

abbrev pub more_classes : Declared → Bones → Bones
more_classes c b = record b { classes = b.classes ++ c ∷ [] }

abbrev pub declared : {O A : Type 0} → Declared → World O A → Tx O A
declared c w = record (begun Script w) { now = record w { bones = more_classes c w.bones } }

abbrev pub printable : {O A : Type 0} → Bool → Tx O A → Outcome O A (Unit {0})
printable b x = cond b (Done tt x) (Aborted Output x)

-- nothing was touched and nothing waits
pub completes_weighs : {O A : Type 0} (past : Past O A) (c : Declared) (line : List ℕ) (w : World O A)
    → completes past (with_line line (declared c w)) ≡ cond (nat_le (weight (kept_bones (more_classes c w.bones))) weight_limit) (Done tt (with_line line (declared c w))) (Aborted Space (with_line line (declared c w)))
unfolding completes goes_round tests_all weighs budget_limit cascade_limit
completes_weighs past c line w = refl

module _ (tables : ℕ → ℕ → Table) (v : NumberWorld) (w : ListWorld) (alike : IsAlike tables v w) (c : Declared) (has : HasTables tables c) (rising : RiseFrom 0 (map (λ (d : Declared). d.class.number) (w.bones.classes ++ c ∷ []))) where
  abbrev line : List ℕ
  line = class_line c.class.name

  abbrev after : List Declared
  after = w.bones.classes ++ c ∷ []

  mean : AllByRecursion (HasTables tables) after
  mean = all-append (HasTables tables) w.bones.classes (c ∷ []) alike.stands.mean (has, tt)

  numbered : AreNumbered (more_classes c w.bones)
  numbered = record { classes = rising; rising = alike.numbered.rising; objects = alike.numbered.objects }

  same_with : (text : List ℕ) → Same after (with_line text (declared c v)) (with_line text (declared c w))
  same_with text = record {
    bones = ap (more_classes c) alike.stands.bones;
    classes = refl;
    first = alike.stands.bones;
    origin = refl;
    touched = refl;
    deferred = refl;
    collected = refl;
    gathered = refl;
    text = refl;
    run = refl;
    keys = refl;
    footprint = refl;
  }

  same_declared : Same after (declared c v) (declared c w)
  same_declared = record {
    bones = ap (more_classes c) alike.stands.bones;
    classes = refl;
    first = alike.stands.bones;
    origin = refl;
    touched = refl;
    deferred = refl;
    collected = refl;
    gathered = refl;
    text = refl;
    run = refl;
    keys = refl;
    footprint = refl;
  }

  pair_old : Pair tables w.bones.classes (more_classes c w.bones) v.pasts w.pasts
  pair_old = record { rows = (pair_of tables w.bones.classes v w refl alike).rows; numbered = numbered }

  pair_new : Pair tables after (more_classes c w.bones) v.pasts w.pasts
  pair_new = record { rows = pasts_more tables w.bones.classes (c ∷ []) w.bones.objects v.pasts w.pasts pair_old.rows; numbered = numbered }

  stays : AllZip (StaysIn (declared c w).now) w.bones.objects w.pasts
  stays = zip_then (StaysIn w) (StaysIn (declared c w).now) (λ o row s. record { object = s.object; found = s.found; past = s.past; kept = s.kept; activations = s.activations }) w.bones.objects w.pasts (itself_stays w alike.numbered alike.stands.within)

  by_weight : (b : Bool) → SettledAs tables (settle (numbers tables) (cond b (Done tt (with_line line (declared c v))) (Aborted Space (with_line line (declared c v))))) (settle lists (cond b (Done tt (with_line line (declared c w))) (Aborted Space (with_line line (declared c w)))))
  by_weight true =
      commits_by tables after mean rising v w (Still tables after mean rising v w) (with_line line (declared c v)) (with_line line (declared c w))
      (record { same = same_with line; pair = pair_new; first_y = refl; first_x = refl; hold = tt })
  by_weight false = aborts_by tables v w alike Space after (with_line line (declared c v)) (with_line line (declared c w)) (same_with line) pair_old refl refl stays (omega arith)

  completed : SettledAs tables (settle (numbers tables) (completes (numbers tables) (with_line line (declared c v)))) (settle lists (completes lists (with_line line (declared c w))))
  completed =
      subst (λ p. SettledAs tables (settle (numbers tables) p) (settle lists (completes lists (with_line line (declared c w))))) (sym (completes_weighs (numbers tables) c line v))
      (subst (λ q. SettledAs tables (settle (numbers tables) (cond (nat_le (weight (kept_bones (more_classes c v.bones))) weight_limit) (Done tt (with_line line (declared c v))) (Aborted Space (with_line line (declared c v))))) (settle lists q)) (sym (completes_weighs lists c line w))
      (subst (λ t. SettledAs tables (settle (numbers tables) (cond t (Done tt (with_line line (declared c v))) (Aborted Space (with_line line (declared c v))))) (settle lists (cond (nat_le (weight (kept_bones (more_classes c w.bones))) weight_limit) (Done tt (with_line line (declared c w))) (Aborted Space (with_line line (declared c w))))))
      (sym (ap (λ b. nat_le (weight (kept_bones (more_classes c b))) weight_limit) alike.stands.bones)) (by_weight (nat_le (weight (kept_bones (more_classes c w.bones))) weight_limit))))

  pub class_settles : SettledAs tables (transaction (numbers tables) Script (declares c) v) (transaction lists Script (declares c) w)
  unfolding transaction
  class_settles = by_room (nat_le (length (declared c w).text + length line) output_limit) where
    by_room : (b : Bool) → SettledAs tables
        (settle (numbers tables) (go_on (go_on (printable b (declared c v)) (λ _. does (with_line line))) (λ _. completes (numbers tables))))
        (settle lists (go_on (go_on (printable b (declared c w)) (λ _. does (with_line line))) (λ _. completes lists)))
    by_room true = completed
    by_room false = aborts_by tables v w alike Output after (declared c v) (declared c w) same_declared pair_old refl refl stays (omega arith)
