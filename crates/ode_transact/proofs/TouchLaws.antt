-- A touched object stays touched.
use Rattle.std.proofs.Common.{◌≡◌, ℕ, Bool, true, false, List, [], ◌∷◌, ◌++◌, Option, Some, None, cond, ap, refl, arith}
use Rattle.std.specs.Prelude.{◌==◌, ◌||◌, not}
use Rattle.std.specs.List.{list_any}
use Rattle.std.proofs.lemmas.Bool.Decides.{nat_tests}
use Rattle.ode_laws.proofs.Alone.{Alone, Ended, Keeps, alone, ended}
use Rattle.ode_laws.proofs.SidePosting.{posts_alike}
use Rattle.ode_laws.proofs.SideStatements.{first_alike}
use Rattle.ode_laws.proofs.Sides.{Sides}
use Rattle.ode_value.specs.Acts.{Outcome, Done, Aborted, ◌>>=◌, ◌>>◌, does, found, go_on, reads, when}
use Rattle.ode_value.specs.Changes.{activation_keys, changes, draws_none, is_live}
use Rattle.ode_value.specs.Denoting.{object_at}
use Rattle.ode_value.specs.Executing.{first_actions}
use Rattle.ode_value.specs.Language.{ListTx}
use Rattle.ode_value.specs.Objects.{Histories, Starts}
use Rattle.ode_value.specs.Pasts.{lists}
use Rattle.ode_value.specs.Posting.{is_touched, joins, posts, touches, touches_first}
use Rattle.ode_value.specs.Transactions.{looking, touching}
use Rattle.ode_value.specs.Worlds.{Object}
use Rattle.ode_value.specs.declared.event.Kind.TheVariants.{TBegin}
use Rattle.ode_value.specs.declared.reason.Reason.TheVariants.{NoObject}

either : (b c d : Bool) → (c ≡ true → d ≡ true) → (b || c) ≡ true → (b || d) ≡ true
either true c d so is = refl
either false c d so is = so is

or_that : (b c : Bool) → c ≡ true → (b || c) ≡ true
or_that true c is = refl
or_that false c is = is

one_more : (id : ℕ) (ids more : List ℕ) → list_any (λ (n : ℕ). n == id) ids ≡ true → list_any (λ (n : ℕ). n == id) (ids ++ more) ≡ true
one_more id [] more is = absurd (cc is)
one_more id (n ∷ ids) more is = either (n == id) (list_any (λ (m : ℕ). m == id) ids) (list_any (λ (m : ℕ). m == id) (ids ++ more)) (one_more id ids more) is

itself_last : (id : ℕ) (ids : List ℕ) → list_any (λ (n : ℕ). n == id) (ids ++ id ∷ []) ≡ true
itself_last id [] = let same : (id == id) ≡ true = grind (arith, nat_tests) in ap (λ (b : Bool). b || false) same
itself_last id (n ∷ ids) = or_that (n == id) (list_any (λ (m : ℕ). m == id) (ids ++ id ∷ [])) (itself_last id ids)

module _ (id : ℕ) where
  abbrev Touched : ℕ → ListTx → Type 0
  Touched n z = is_touched id z ≡ true

  touched_keeps : Keeps lists Touched
  touched_keeps = record {
    less = λ n z h. h;
    statement = λ n z h more. h;
    foot = λ n z change h. h;
    line = λ n z line h fits. h;
    keys = λ n z keys h fits. h;
    touch = λ n z other h. one_more id z.touched (other ∷ []) h;
    defer = λ n z f h room. h;
    collect = λ n z independent f h room. h;
    set = λ n z r v place value h is small. h;
    derive = λ n z r v o h is there more small. h;
    drop = λ n z r v o h is there more. h;
    remove = λ n z other h. h;
    off = λ n z other number h. h;
    new = λ n z class fields h left small. h;
    active = λ n z other t args h left short. h;
    point = λ n z other p o firings h there. h;
  }

  -- of what an act that is done reached
  abbrev pub Reaches : {X : Type 0} → Outcome Histories Starts X → Type 0
  Reaches outcome = Ended (λ (z : ListTx). is_touched id z ≡ true) (λ (z : ListTx). Unit {0}) outcome

  posted : (y : ListTx) → is_touched id y ≡ true → Reaches (posts lists (first_actions lists) id TBegin [] y)
  posted y is =
      let itself : Sides Histories Starts Histories Starts = alone lists Touched touched_keeps y.now.bones.classes in
      let Still : ListTx → ListTx → Type 0 = Alone lists Touched touched_keeps y.now.bones.classes 0 in
      ended (λ (z : ListTx). is_touched id z ≡ true) (λ (z : ListTx). Unit {0}) Still Still (λ z x s. s.2) (λ z x s. tt) (posts lists (first_actions lists) id TBegin [] y)
      (posts_alike itself 0 (first_actions lists) (first_actions lists) (first_alike itself) id TBegin [] y y (refl, refl, is))

  then_touched : (p : Outcome Histories Starts (Unit {0})) → Reaches (go_on p (λ _. does (touching id)))
  then_touched (Done answer y) = itself_last id y.touched
  then_touched (Aborted reason y) = tt

  joined : (x : ListTx) → Reaches (joins id x)
  joined x = by_object (object_at x.now.bones id) where
    by_object : (o : Option Object) → Reaches (go_on (found o x) (λ o. changes (activation_keys o) 0 draws_none >> does (touching id)))
    by_object None = tt
    by_object (Some o) = then_touched (changes (activation_keys o) 0 draws_none x)

  then_posted : (p : Outcome Histories Starts (Unit {0})) → Reaches p → Reaches (go_on p (λ _. posts lists (first_actions lists) id TBegin []))
  then_posted (Done answer y) is = posted y is
  then_posted (Aborted reason y) is = tt

  abbrev Lives : ListTx → Bool → Outcome Histories Starts (Unit {0})
  Lives x b = cond b (Done tt x) (Aborted (NoObject id) x)

  -- behind a touch
  pub touch_reaches : (x : ListTx) → Reaches (touches lists (first_actions lists) id x)
  unfolding touches
  touch_reaches x = by_live (is_live id seen) where
    seen : ListTx
    seen = looking (id ∷ []) x

    by_touched : (b : Bool) → is_touched id seen ≡ b → Reaches (when (not b) (touches_first lists (first_actions lists) id) seen)
    by_touched true is = is
    by_touched false is = then_posted (joins id seen) (joined seen)

    by_live : (b : Bool) → Reaches (go_on (Lives seen b) (λ _. reads (is_touched id) >>= λ touched. when (not touched) (touches_first lists (first_actions lists) id)))
    by_live true = by_touched (is_touched id seen) refl
    by_live false = tt
