-- Acts that come to the same in two transactions that agree on what they reach, one after the other.
use Rattle.std.proofs.Common.{◌≡◌, ℕ, Bool, true, false, cond, List, [], ◌∷◌, Option, Some, None, Result, Ok, Err, refl, sym, ap, subst}
use Rattle.std.specs.Prelude.{nat_eq}
use Rattle.ode_footprint_laws.proofs.Among.{Within, among_looked, either_left, itself}
use Rattle.ode_footprint_laws.proofs.Grows.{ListAct, ListDeed, Grows, grown_self, grown_then, grows_on, grows_then, found_grow, looks_grow, needs_grow, tested, valued_grow}
use Rattle.ode_footprint_laws.proofs.Meets.{Meets}
use Rattle.ode_footprint_laws.specs.Agreeing.{Agree, IsAmong, reached_footprint}
use Rattle.ode_footprint_laws.specs.Growing.{Grown}
use Rattle.ode_value.specs.declared.arithmetic.Fault.{Fault}
use Rattle.ode_value.specs.declared.reason.Reason.{Reason}
use Rattle.ode_value.specs.Acts.{Outcome, Done, Aborted, go_on, ◌>>=◌, ◌>>◌, gives, nothing, aborts, needs, does, when, each, reads, found, finds, valued, computes, looks}
use Rattle.ode_value.specs.Evaluation.{reason_of}
use Rattle.ode_value.specs.Footprints.{Footprint, with_looks}
use Rattle.ode_value.specs.Language.{ListTx}
use Rattle.ode_value.specs.Objects.{Histories, Starts}
use Rattle.ode_value.specs.Transactions.{looking}
use Rattle.ode_value.specs.Worlds.{Bones}

-- nothing is known of an answer
abbrev pub Anything : {X : Type 0} → X → Type 0
Anything r = Unit {0}

module _ {f : Footprint} (m : Meets f) where
  -- both are done with one answer, of which this is known, or aborted with one reason, and the transactions reached are related
  abbrev pub Ends : {X : Type 0} → (X → Type 0) → Outcome Histories Starts X → Outcome Histories Starts X → Type 0
  Ends P (Done r y) (Done s x) = (r ≡ s) × P s × m.Related y x
  Ends P (Aborted r y) (Aborted s x) = (r ≡ s) × m.Related y x
  Ends P (Done r y) (Aborted s x) = ⊥
  Ends P (Aborted r y) (Done s x) = ⊥

  -- the footprint holds what was reached
  abbrev pub Reached : {X : Type 0} → Outcome Histories Starts X → Type 0
  Reached p = Grown (reached_footprint p) f

  -- An act that, where this is known before it, comes to the same in related transactions, and this is known behind it.
  pub record Depends {X : Type 0} (Pre : Type 0) (P : X → Type 0) (a : ListAct X) : Type 0 where
    pub grows : Grows a
    pub alike : Pre → (y x : ListTx) → m.Related y x → Reached (a x) → Ends P (a y) (a x)

  -- ---- acts in a row

  go_on_in : {X Y : Type 0} (P : X → Type 0) (Q : Y → Type 0) (p q : Outcome Histories Starts X) (h : X → ListAct Y) → Ends P p q
      → ((r : X) → P r → (y x : ListTx) → m.Related y x → Reached (h r x) → Ends Q (h r y) (h r x)) → Reached (go_on q h) → Ends Q (go_on p h) (go_on q h)
  go_on_in P Q (Done r y) (Done t x) h ends rest reached = subst (λ u. Ends Q (h u y) (h t x)) (sym ends.0) (rest t ends.1 y x ends.2 reached)
  go_on_in P Q (Aborted r y) (Aborted t x) h ends rest reached = ends
  go_on_in P Q (Done r y) (Aborted t x) h ends rest reached = absurd ends
  go_on_in P Q (Aborted r y) (Done t x) h ends rest reached = absurd ends

  pub then_in : {X Y Pre A : Type 0} {P : X → Type 0} {Q : Y → Type 0} (a : ListAct X) (h : X → ListAct Y) → Depends A P a → (Pre → A) → ((r : X) → Depends (Pre × P r) Q (h r)) → Depends Pre Q (a >>= h)
  then_in {P = P} {Q = Q} a h first pre rest = record {
    grows = grows_then a h first.grows (λ r. (rest r).grows);
    alike = λ k y x r reached.
        go_on_in P Q (a y) (a x) h (first.alike (pre k) y x r (grown_then (reached_footprint (a x)) (reached_footprint (go_on (a x) h)) f (grows_on (a x) h (λ t. (rest t).grows)) reached))
        (λ t known. (rest t).alike (k, known)) reached;
  }

  pub next_in : {Y Pre A B : Type 0} {Q : Y → Type 0} (a : ListDeed) (b : ListAct Y) → Depends A (λ u. B) a → (Pre → A) → Depends (Pre × B) Q b → Depends Pre Q (a >> b)
  next_in a b first pre rest = then_in a (λ u. b) first pre (λ u. rest)

  mapped : {X : Type 0} (P Q : X → Type 0) (p q : Outcome Histories Starts X) → ((r : X) → P r → Q r) → Ends P p q → Ends Q p q
  mapped P Q (Done r y) (Done t x) then ends = (ends.0, then t ends.1, ends.2)
  mapped P Q (Aborted r y) (Aborted t x) then ends = ends
  mapped P Q (Done r y) (Aborted t x) then ends = absurd ends
  mapped P Q (Aborted r y) (Done t x) then ends = absurd ends

  -- with more known before it, and what follows behind it
  pub map_in : {X Pre A : Type 0} {P Q : X → Type 0} {a : ListAct X} → Depends A P a → (Pre → A) → ((r : X) → Pre → P r → Q r) → Depends Pre Q a
  map_in {P = P} {Q = Q} {a = a} first pre then = record {
    grows = first.grows;
    alike = λ k y x r reached. mapped P Q (a y) (a x) (λ t. then t k) (first.alike (pre k) y x r reached);
  }

  pub weaken_in : {X Pre A : Type 0} {P : X → Type 0} {a : ListAct X} → Depends A P a → (Pre → A) → Depends Pre P a
  weaken_in first pre = record { grows = first.grows; alike = λ k. first.alike (pre k) }

  pub done_in : {X Pre : Type 0} {Q : X → Type 0} (r : X) → (Pre → Q r) → Depends Pre Q (gives r)
  done_in r known = record { grows = λ x. grown_self x.footprint; alike = λ k y x h reached. (refl, known k, h) }

  pub nothing_in : {Pre : Type 0} → Depends Pre Anything nothing
  nothing_in = done_in tt (λ k. tt)

  pub aborts_in : {X Pre : Type 0} {Q : X → Type 0} (reason : Reason) → Depends Pre Q (aborts reason)
  aborts_in reason = record { grows = λ x. grown_self x.footprint; alike = λ k y x h reached. (refl, h) }

  pub does_in : {Pre B : Type 0} (g : ListTx → ListTx) → ((x : ListTx) → Grown x.footprint (g x).footprint) → (Pre → (y x : ListTx) → m.Related y x → m.Related (g y) (g x))
      → ((x : ListTx) → Grown (g x).footprint f → B) → Depends Pre (λ u. B) (does g)
  does_in g grows keeps tells = record { grows = grows; alike = λ k y x h reached. (refl, tells x reached, keeps k y x h) }

  pub cond_in : {X Pre : Type 0} {Q : X → Type 0} (b : Bool) (g h : ListAct X) → Depends Pre Q g → Depends Pre Q h → Depends Pre Q (cond b g h)
  cond_in true g h first second = first
  cond_in false g h first second = second

  pub when_in : {Pre : Type 0} (b : Bool) (g : ListDeed) → Depends Pre Anything g → Depends Pre Anything (when b g)
  when_in b g first = cond_in b g nothing first nothing_in

  pub each_in : {X Pre : Type 0} (g : X → ListDeed) → ((r : X) → Depends Pre Anything (g r)) → (rs : List X) → Depends Pre Anything (each g rs)
  each_in g are [] = nothing_in
  each_in g are (r ∷ rs) = next_in (g r) (each g rs) (are r) (λ k. k) (weaken_in (each_in g are rs) (λ k. k.0))

  -- ---- what is read, found, computed and tested

  -- what is read is the same
  pub reads_in : {X Y Pre : Type 0} {Q : Y → Type 0} (g : ListTx → X) (h : X → ListAct Y) → (Pre → (y x : ListTx) → Agree f y x → g y ≡ g x) → ((r : X) → Depends Pre Q (h r)) → Depends Pre Q (reads g >>= h)
  reads_in {Q = Q} g h same rest = record {
    grows = λ x. (rest (g x)).grows x;
    alike = λ k y x r reached. subst (λ u. Ends Q (h u y) (h (g x) x)) (sym (same k y x (m.agree y x r))) ((rest (g x)).alike k y x r reached);
  }

  found_one : {X : Type 0} (o : Option X) (y x : ListTx) → m.Related y x → Ends (λ r. o ≡ Some r) (found o y) (found o x)
  found_one (Some a) y x h = (refl, refl, h)
  found_one None y x h = (refl, h)

  pub found_in : {X Pre : Type 0} (o : Option X) → Depends Pre (λ r. o ≡ Some r) (found o)
  found_in o = record { grows = found_grow o; alike = λ k y x h reached. found_one o y x h }

  found_plain : {X : Type 0} (o : Option X) (y x : ListTx) → m.Related y x → Ends Anything (found o y) (found o x)
  found_plain (Some a) y x h = (refl, tt, h)
  found_plain None y x h = (refl, h)

  pub finds_in : {X Pre : Type 0} (g : Bones → Option X) → (Pre → (y x : ListTx) → Agree f y x → g y.now.bones ≡ g x.now.bones) → Depends Pre Anything (finds g)
  finds_in g same = record {
    grows = λ x. found_grow (g x.now.bones) x;
    alike = λ k y x h reached. subst (λ o. Ends Anything (found o y) (found (g x.now.bones) x)) (sym (same k y x (m.agree y x h))) (found_plain (g x.now.bones) y x h);
  }

  pub valued_plain : {X : Type 0} (v : Result X Fault) (y x : ListTx) → m.Related y x → Ends Anything (valued v y) (valued v x)
  valued_plain (Ok a) y x h = (refl, tt, h)
  valued_plain (Err fault) y x h = (refl, h)

  pub computes_in : {X Pre : Type 0} (g : Bones → Result X Fault) → (Pre → (y x : ListTx) → Agree f y x → g y.now.bones ≡ g x.now.bones) → Depends Pre Anything (computes g)
  computes_in g same = record {
    grows = λ x. valued_grow (g x.now.bones) x;
    alike = λ k y x h reached. subst (λ o. Ends Anything (valued o y) (valued (g x.now.bones) x)) (sym (same k y x (m.agree y x h))) (valued_plain (g x.now.bones) y x h);
  }

  pub needs_in : {Pre : Type 0} (reason : Reason) (p : ListTx → Bool) → (Pre → (y x : ListTx) → Agree f y x → p y ≡ p x) → Depends Pre Anything (needs reason p)
  needs_in {Pre} reason p same = record {
    grows = needs_grow reason p;
    alike = λ k y x h reached. subst (λ b. Ends Anything (tested b reason y) (tested (p x) reason x)) (sym (same k y x (m.agree y x h))) (by_test (p x) y x h);
  }
    where
      by_test : (b : Bool) (y x : ListTx) → m.Related y x → Ends Anything (tested b reason y) (tested b reason x)
      by_test true y x h = (refl, tt, h)
      by_test false y x h = (refl, h)

  -- ---- looks

  pub looked_in : (ids : List ℕ) → Depends (Unit {0}) (λ u. Within ids f.looked) (looks ids)
  looked_in ids =
      does_in (looking ids) (λ x. looks_grow ids x.footprint) (λ k y x h. m.foot y x (with_looks ids) h)
      (λ x reached id is. reached.looked id (among_looked ids id x.footprint.looked is))

  pub one_in : (id : ℕ) → Depends (Unit {0}) (λ u. IsAmong id f.looked) (looks (id ∷ []))
  one_in id = map_in (looked_in (id ∷ [])) (λ k. k) (λ u k within. within id (either_left (nat_eq id id) false (itself id)))

  -- ---- what is known of the transactions where only some acts are alike

  pub sees_ends : {X Y : Type 0} (Q : Y → Type 0) (g : Bones → X) (h : X → ListAct Y) (y x : ListTx) → g y.now.bones ≡ g x.now.bones → Ends Q (h (g x.now.bones) y) (h (g x.now.bones) x) → Ends Q (h (g y.now.bones) y) (h (g x.now.bones) x)
  sees_ends Q g h y x same ends = subst (λ u. Ends Q (h u y) (h (g x.now.bones) x)) (sym same) ends

  pub found_ends : {X Y : Type 0} (Q : Y → Type 0) (o p : Option X) → o ≡ p → (h : X → ListAct Y) (y x : ListTx) → m.Related y x → Reached (go_on (found p x) h)
      → ((r : X) → p ≡ Some r → Reached (h r x) → Ends Q (h r y) (h r x)) → Ends Q (go_on (found o y) h) (go_on (found p x) h)
  found_ends Q (Some a) (Some b) e h y x r reached rest = let same : a ≡ b = cc in subst (λ c. Ends Q (h c y) (h b x)) (sym same) (rest b refl reached)
  found_ends Q None None e h y x r reached rest = (refl, r)
  found_ends Q (Some a) None e h y x r reached rest = absurd (cc)
  found_ends Q None (Some b) e h y x r reached rest = absurd (cc)

  pub valued_ends : {X Y : Type 0} (Q : Y → Type 0) (o p : Result X Fault) → o ≡ p → (h : X → ListAct Y) (y x : ListTx) → m.Related y x → Reached (go_on (valued p x) h)
      → ((r : X) → p ≡ Ok r → Reached (h r x) → Ends Q (h r y) (h r x)) → Ends Q (go_on (valued o y) h) (go_on (valued p x) h)
  valued_ends Q (Ok a) (Ok b) e h y x r reached rest = let same : a ≡ b = cc in subst (λ c. Ends Q (h c y) (h b x)) (sym same) (rest b refl reached)
  valued_ends Q (Err a) (Err b) e h y x r reached rest = let same : a ≡ b = cc in (ap reason_of same, r)
  valued_ends Q (Ok a) (Err b) e h y x r reached rest = absurd (cc)
  valued_ends Q (Err a) (Ok b) e h y x r reached rest = absurd (cc)

  pub needs_ends : {Y : Type 0} (Q : Y → Type 0) (reason : Reason) (b c : Bool) → b ≡ c → (h : ListAct Y) (y x : ListTx) → m.Related y x → Reached (go_on (tested c reason x) (λ _. h))
      → (c ≡ true → Reached (h x) → Ends Q (h y) (h x)) → Ends Q (go_on (tested b reason y) (λ _. h)) (go_on (tested c reason x) (λ _. h))
  needs_ends Q reason true true e h y x r reached rest = rest refl reached
  needs_ends Q reason false false e h y x r reached rest = (refl, r)
  needs_ends Q reason true false e h y x r reached rest = absurd (cc)
  needs_ends Q reason false true e h y x r reached rest = absurd (cc)

  -- two tests, and then what follows both
  pub tests_ends : {Y : Type 0} (Q : Y → Type 0) (reason : Reason) (b c : Bool) → b ≡ c → (g : ListDeed) (h : ListAct Y) (y x : ListTx) → m.Related y x → Reached (go_on (go_on (tested c reason x) (λ _. g)) (λ _. h))
      → (c ≡ true → Reached (go_on (g x) (λ _. h)) → Ends Q (go_on (g y) (λ _. h)) (go_on (g x) (λ _. h)))
      → Ends Q (go_on (go_on (tested b reason y) (λ _. g)) (λ _. h)) (go_on (go_on (tested c reason x) (λ _. g)) (λ _. h))
  tests_ends Q reason true true e g h y x r reached rest = rest refl reached
  tests_ends Q reason false false e g h y x r reached rest = (refl, r)
  tests_ends Q reason true false e g h y x r reached rest = absurd (cc)
  tests_ends Q reason false true e g h y x r reached rest = absurd (cc)
