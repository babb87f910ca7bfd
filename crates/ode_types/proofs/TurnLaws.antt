-- Checks in turn, as a loop makes them.
use Rattle.std.proofs.Common.{◌≡◌, ℕ, zero, suc, ◌+◌, ◌-◌, ◌<◌, ◌≤◌, List, [], ◌∷◌, ◌++◌, length, drop, take, fold, get_or, Some, None, Ok, Err, true, false, refl, ap, sym, ◌∙◌, arith, append_assoc, length-drop}
use Rattle.std.proofs.lemmas.Bool.Decides.{nat_tests}
use Rattle.std.proofs.lemmas.List.{append-nil}
use Rattle.std.specs.Prelude.{◌==◌}
use Rattle.std.proofs.Math.Seq.{take-append_seam}
use Rattle.std.specs.List.{slice_get}
use Rattle.ode_types.specs.Answers.{Answers, AnswersWith, Leaves}
use Rattle.ode_types.specs.Checks.{Check, ◌>>=◌, each, in_turn, through}
use Rattle.ode_types.specs.declared.stop.CheckStop.{CheckStop}
use Rattle.ode_types.specs.declared.stop.CheckStop.TheVariants as stop

-- what is left behind a place
pub drop_there : {X : Type 0} (xs : List X) (i : ℕ) (x : X) → slice_get xs i ≡ Some x → drop i xs ≡ x ∷ drop (i + 1) xs
drop_there [] i x h = absurd (cc)
drop_there (y ∷ ys) zero x h = let is : y ≡ x = cc in ap (λ z. z ∷ ys) is
drop_there (y ∷ ys) (suc i) x h = let next : suc (i + 1) ≡ suc i + 1 = omega arith in drop_there ys i x h ∙ ap (λ n. x ∷ drop n (y ∷ ys)) next

pub drop_none : {X : Type 0} (xs : List X) (i : ℕ) → slice_get xs i ≡ None → drop i xs ≡ []
drop_none [] zero h = refl
drop_none [] (suc i) h = refl
drop_none (y ∷ ys) zero h = absurd (cc)
drop_none (y ∷ ys) (suc i) h = drop_none ys i h

pub drop_at : {X : Type 0} (xs : List X) (i : ℕ) (d : X) → i < length xs → drop i xs ≡ get_or xs i d ∷ drop (i + 1) xs
drop_at [] i d h = absurd (omega arith)
drop_at (y ∷ ys) zero d h = refl
drop_at (y ∷ ys) (suc i) d h = let next : suc (i + 1) ≡ suc i + 1 = omega arith in drop_at ys i d (omega arith) ∙ ap (λ n. get_or ys i d ∷ drop n (y ∷ ys)) next

-- what was seen before is still seen first
pub kept_more : {X : Type 0} (old : List X) (x : X) (new : List X) → new ≡ old ++ x ∷ [] → take (length old) new ≡ old
kept_more old x new is = ap (take (length old)) is ∙ take-append_seam old (x ∷ [])

pub drop_all : {X : Type 0} (xs : List X) (i : ℕ) → length xs ≤ i → drop i xs ≡ []
drop_all [] zero h = refl
drop_all [] (suc i) h = refl
drop_all (r ∷ rs) zero h = absurd (omega arith)
drop_all (r ∷ rs) (suc i) h = drop_all rs i (omega arith)

-- whether something is left
pub none_left : {X : Type 0} (xs : List X) (i : ℕ) → length xs ≤ i → (length (drop i xs) == 0) ≡ true
none_left xs i h = ap (λ ys. length ys == 0) (drop_all xs i h)

pub some_left : {X : Type 0} (xs : List X) (i : ℕ) → i < length xs → (length (drop i xs) == 0) ≡ false
some_left xs i h = let e : length (drop i xs) ≡ length xs - i = length-drop i xs in grind (arith, nat_tests)

-- what was checked before, and what is checked from here on
abbrev pub prepended : {S T : Type 0} → List S → Check (List S × T) → Check (List S × T)
prepended ss check = check >>= (λ r. Ok (ss ++ r.0, r.1))

module _ {R S T : Type 0} (check : T → R → Check (S × T)) where
  prepended-more : (ss : List S) (s : S) (rest : Check (List S × T)) → prepended ss (rest >>= (λ r. Ok (s ∷ r.0, r.1))) ≡ prepended (ss ++ s ∷ []) rest
  prepended-more ss s (Ok r) = ap (λ xs. Ok (xs, r.1)) (sym (append_assoc ss (s ∷ []) r.0))
  prepended-more ss s (Err e) = refl

  pub turn-start : (t : T) (rs : List R) → in_turn check t rs ≡ prepended [] (in_turn check t (drop 0 rs))
  turn-start t rs = by (in_turn check t rs) where
    by : (m : Check (List S × T)) → m ≡ prepended [] m
    by (Ok r) = refl
    by (Err e) = refl

  pub turn-step : (all : Check (List S × T)) (ss : List S) (t u : T) (rs : List R) (i : ℕ) (r : R) (s : S) → i < length rs → r ≡ get_or rs i r
      → all ≡ prepended ss (in_turn check t (drop i rs)) → check t r ≡ Ok (s, u) → all ≡ prepended (ss ++ s ∷ []) (in_turn check u (drop (i + 1) rs))
  turn-step all ss t u rs i r s low is so ok =
      so ∙ ap (λ xs. prepended ss (in_turn check t xs)) (drop_at rs i r low ∙ ap (λ x. x ∷ drop (i + 1) rs) (sym is))
      ∙ ap (λ m. prepended ss (m >>= (λ p. in_turn check p.1 (drop (i + 1) rs) >>= (λ q. Ok (p.0 ∷ q.0, q.1))))) ok
      ∙ prepended-more ss s (in_turn check u (drop (i + 1) rs))

  pub turn-stop : (all : Check (List S × T)) (ss : List S) (t : T) (rs : List R) (i : ℕ) (r : R) (e : CheckStop) → i < length rs → r ≡ get_or rs i r
      → all ≡ prepended ss (in_turn check t (drop i rs)) → Answers {T = S × T} (check t r) (Err e) → Answers {T = List S × T} all (Err e)
  turn-stop all ss t rs i r stop.Memory low is so h = tt
  turn-stop all ss t rs i r (stop.Broken e) low is so h =
      so ∙ ap (λ xs. prepended ss (in_turn check t xs)) (drop_at rs i r low ∙ ap (λ x. x ∷ drop (i + 1) rs) (sym is))
      ∙ ap (λ m. prepended ss (m >>= (λ p. in_turn check p.1 (drop (i + 1) rs) >>= (λ q. Ok (p.0 ∷ q.0, q.1))))) h

  pub turn-end : (all : Check (List S × T)) (ss : List S) (t : T) (rs : List R) (i : ℕ) → length rs ≤ i → all ≡ prepended ss (in_turn check t (drop i rs)) → all ≡ Ok (ss, t)
  turn-end all ss t rs i low so = so ∙ ap (λ xs. prepended ss (in_turn check t xs)) (drop_all rs i low) ∙ ap (λ xs. Ok (xs, t)) (append-nil ss)

  -- what stops one stops all, and what comes behind
  pub turn-stops : {U : Type 0} (all : Check (List S × T)) (next : List S × T → Check U) (ss : List S) (t u : T) (rs : List R) (i : ℕ) (r : R) (e : CheckStop) → i < length rs → r ≡ get_or rs i r
      → all ≡ prepended ss (in_turn check t (drop i rs)) → AnswersWith {T = S} {S = T} (check t r) u (Err e) → Answers {T = U} (all >>= next) (Err e)
  turn-stops all next ss t u rs i r stop.Memory low is so h = tt
  turn-stops all next ss t u rs i r (stop.Broken e) low is so h = ap (λ m. m >>= next) (turn-stop all ss t rs i r (stop.Broken e) low is so h)

  -- the same of a check that leaves something
  pub turn-stops-with : {U V : Type 0} (all : Check (List S × T)) (next : List S × T → Check (U × V)) (ss : List S) (t u : T) (v : V) (rs : List R) (i : ℕ) (r : R) (e : CheckStop) → i < length rs → r ≡ get_or rs i r
      → all ≡ prepended ss (in_turn check t (drop i rs)) → AnswersWith {T = S} {S = T} (check t r) u (Err e) → AnswersWith {T = U} {S = V} (all >>= next) v (Err e)
  turn-stops-with all next ss t u v rs i r stop.Memory low is so h = tt
  turn-stops-with all next ss t u v rs i r (stop.Broken e) low is so h = ap (λ m. m >>= next) (turn-stop all ss t rs i r (stop.Broken e) low is so h)

-- what is known so far, as a loop changes it
module _ {R S : Type 0} (check : S → R → Check S) where
  pub through-stops : {U : Type 0} (all : Check S) (next : S → Check U) (s t : S) (rs : List R) (i : ℕ) (r : R) (e : CheckStop) → i < length rs → r ≡ get_or rs i r → all ≡ through check s (drop i rs)
      → Leaves {S = S} (check s r) t (Err e) → Answers {T = U} (all >>= next) (Err e)
  through-stops all next s t rs i r stop.Memory low is so h = tt
  through-stops all next s t rs i r (stop.Broken e) low is so h =
      ap (λ m. m >>= next)
      (so ∙ ap (through check s) (drop_at rs i r low ∙ ap (λ x. x ∷ drop (i + 1) rs) (sym is)) ∙ ap (λ m. m >>= (λ u. through check u (drop (i + 1) rs))) h)

  pub through-stop : (all : Check S) (s t u : S) (rs : List R) (i : ℕ) (r : R) (e : CheckStop) → i < length rs → r ≡ get_or rs i r → all ≡ through check s (drop i rs)
      → Leaves {S = S} (check s r) t (Err e) → Leaves {S = S} all u (Err e)
  through-stop all s t u rs i r stop.Memory low is so h = tt
  through-stop all s t u rs i r (stop.Broken e) low is so h =
      so ∙ ap (through check s) (drop_at rs i r low ∙ ap (λ x. x ∷ drop (i + 1) rs) (sym is)) ∙ ap (λ m. m >>= (λ u. through check u (drop (i + 1) rs))) h

  pub through-end : (all : Check S) (s : S) (rs : List R) (i : ℕ) → length rs ≤ i → all ≡ through check s (drop i rs) → all ≡ Ok s
  through-end all s rs i low so = so ∙ ap (through check s) (drop_all rs i low)

-- checked members, which are added to what there is
module _ {R S T : Type 0} (check : R → Check S) (add : T → S → T) where
  -- all behind what there is
  abbrev pub added : T → List R → Check T
  added t rs = each check rs >>= (λ ss. Ok (fold add t ss))

  added-next : (t : T) (s : S) (rest : Check (List S)) → (rest >>= (λ ss. Ok (s ∷ ss))) >>= (λ ss. Ok (fold add t ss)) ≡ rest >>= (λ ss. Ok (fold add (add t s) ss))
  added-next t s (Ok ss) = refl
  added-next t s (Err e) = refl

  -- the next one, and those behind it
  pub added-cons : (t : T) (r : R) (rs : List R) (s : S) → check r ≡ Ok s → added t (r ∷ rs) ≡ added (add t s) rs
  added-cons t r rs s ok = ap (λ m. (m >>= (λ x. each check rs >>= (λ xs. Ok (x ∷ xs)))) >>= (λ ss. Ok (fold add t ss))) ok ∙ added-next t s (each check rs)

  pub added-step : (all : Check T) (t : T) (rs : List R) (i : ℕ) (r : R) (s : S) → i < length rs → r ≡ get_or rs i r → all ≡ added t (drop i rs) → check r ≡ Ok s → all ≡ added (add t s) (drop (i + 1) rs)
  added-step all t rs i r s low is so ok = so ∙ ap (added t) (drop_at rs i r low ∙ ap (λ x. x ∷ drop (i + 1) rs) (sym is)) ∙ added-cons t r (drop (i + 1) rs) s ok

  pub added-stop : (all : Check T) (t : T) (rs : List R) (i : ℕ) (r : R) (e : CheckStop) → i < length rs → r ≡ get_or rs i r → all ≡ added t (drop i rs) → Answers {T = S} (check r) (Err e) → Answers {T = T} all (Err e)
  added-stop all t rs i r stop.Memory low is so h = tt
  added-stop all t rs i r (stop.Broken e) low is so h =
      so ∙ ap (added t) (drop_at rs i r low ∙ ap (λ x. x ∷ drop (i + 1) rs) (sym is))
      ∙ ap (λ m. (m >>= (λ x. each check (drop (i + 1) rs) >>= (λ xs. Ok (x ∷ xs)))) >>= (λ ss. Ok (fold add t ss))) h

  pub added-leaves : (all : Check T) (t u : T) (rs : List R) (i : ℕ) (r : R) (e : CheckStop) → i < length rs → r ≡ get_or rs i r → all ≡ added t (drop i rs) → Answers {T = S} (check r) (Err e) → Leaves {S = T} all u (Err e)
  added-leaves all t u rs i r stop.Memory low is so h = tt
  added-leaves all t u rs i r (stop.Broken e) low is so h = added-stop all t rs i r (stop.Broken e) low is so h

  pub added-end : (all : Check T) (t : T) (rs : List R) (i : ℕ) → length rs ≤ i → all ≡ added t (drop i rs) → all ≡ Ok t
  added-end all t rs i low so = so ∙ ap (added t) (drop_all rs i low)
