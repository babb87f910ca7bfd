-- Acts of two machines side by side, one after the other, and those that read and print.
use Rattle.std.proofs.Common.{◌≡◌, ℕ, zero, suc, ◌+◌, Bool, true, false, cond, List, [], ◌∷◌, length, Option, Some, None, Result, Ok, Err, refl, sym, ap, ◌∙◌, subst}
use Rattle.std.specs.Prelude.{nat_lt, nat_le, ◌&&◌, is_some}
use Rattle.std.specs.List.{AllByRecursion, fold}
use Rattle.ode_value.specs.declared.arithmetic.Fault.{Fault}
use Rattle.ode_value.specs.declared.key.Key.{Key}
use Rattle.ode_value.specs.declared.member.Constraint.{Constraint}
use Rattle.ode_value.specs.declared.reason.Reason.{Reason}
use Rattle.ode_value.specs.declared.reason.Reason.TheVariants as reason
use Rattle.ode_value.specs.declared.statement.Expr.{Expr}
use Rattle.ode_value.specs.declared.value.Ref.{Ref}
use Rattle.ode_value.specs.declared.value.Value.{Value}
use Rattle.ode_value.specs.declared.value.Value.TheVariants as value
use Rattle.ode_value.specs.Acts.{Outcome, Done, Aborted, Act, Deed, go_on, ◌>>=◌, ◌>>◌, gives, nothing, aborts, needs, does, when, each, reads, sees, found, finds, valued, computes, prints, counts, with_line, with_statement, looks}
use Rattle.ode_value.specs.Changes.{with_key, key_count, holding, changes, object, class_of, is_live, lives, version, Draw, there, asks_live}
use Rattle.ode_value.specs.Constraints.{judges, tests, tests_hard, tests_version, tests_soft}
use Rattle.ode_value.specs.Classes.{constraints_of}
use Rattle.ode_value.specs.Denoting.{object_at, denoted}
use Rattle.ode_value.specs.Evaluation.{Frame, evaluate, reason_of, looks_in}
use Rattle.ode_value.specs.Expressions.{denoting, is_true, ref_in, evaluates, holds, evaluates_all, evaluates_sets, stands, reference, receiver}
use Rattle.ode_value.specs.Limits.{budget_limit, output_limit, change_limit, value_limit}
use Rattle.ode_value.specs.Masks.{plain}
use Rattle.ode_value.specs.Transactions.{Tx, footed, drawing}
use Rattle.ode_value.specs.Versions.{Version}
use Rattle.ode_value.specs.Worlds.{Object, Bones}
use Rattle.ode_laws.proofs.Sides.{EndsBy, Sides}
use Rattle.ode_value.specs.Footprints.{Footprint, with_looks, with_draw}

-- a test of which the outcome is known
abbrev tested : {O A : Type 0} → Bool → Reason → Tx O A → Outcome O A (Unit {0})
tested b reason x = cond b (Done tt x) (Aborted reason x)

module _ {O A P B : Type 0} (s : Sides O A P B) where
  -- outcomes, with so many touches left where they are done
  abbrev pub Ends : {X : Type 0} → ℕ → Outcome O A X → Outcome P B X → Type 0
  Ends n p q = EndsBy (s.Related n) (s.Related 0) p q

  -- two acts, from so many touches to so many
  abbrev pub Alike : {X : Type 0} → (n m : ℕ) → Act O A X → Act P B X → Type 0
  Alike n m a b = (y : Tx O A) (x : Tx P B) → s.Related n y x → Ends m (a y) (b x)

  pub lower : (n : ℕ) (y : Tx O A) (x : Tx P B) → s.Related n y x → s.Related 0 y x
  lower zero y x r = r
  lower (suc n) y x r = lower n y x (s.less n y x r)

  pub go_alike : {X Y : Type 0} (m k : ℕ) (p : Outcome O A X) (q : Outcome P B X) → Ends m p q
      → (f : X → Act O A Y) (g : X → Act P B Y) → ((r : X) → Alike m k (f r) (g r)) → Ends k (go_on p f) (go_on q g)
  go_alike m k (Done r y) (Done t x) h f g rest = subst (λ u. Ends k (f r y) (g u x)) h.0 (rest r y x h.1)
  go_alike m k (Aborted r y) (Aborted t x) h f g rest = h
  go_alike m k (Done r y) (Aborted t x) h f g rest = absurd h
  go_alike m k (Aborted r y) (Done t x) h f g rest = absurd h

  -- one act, and then what follows from its answer
  pub then_alike : {X Y : Type 0} (n m k : ℕ) (a : Act O A X) (b : Act P B X) → Alike n m a b
      → (f : X → Act O A Y) (g : X → Act P B Y) → ((r : X) → Alike m k (f r) (g r)) → Alike n k (a >>= f) (b >>= g)
  then_alike n m k a b are f g rest y x r = go_alike m k (a y) (b x) (are y x r) f g rest

  pub next_alike : {Y : Type 0} (n m k : ℕ) (a : Deed O A) (b : Deed P B) → Alike n m a b
      → (f : Act O A Y) (g : Act P B Y) → Alike m k f g → Alike n k (a >> f) (b >> g)
  next_alike n m k a b are f g rest y x r = go_alike m k (a y) (b x) (are y x r) (λ _. f) (λ _. g) (λ _. rest)

  -- with fewer touches from the start
  pub less_alike : {X : Type 0} (n m : ℕ) (a : Act O A X) (b : Act P B X) → Alike n m a b → Alike (suc n) m a b
  less_alike n m a b are y x r = are y x (s.less n y x r)

  pub done_alike : {X : Type 0} (n : ℕ) (answer : X) → Alike n n (gives answer) (gives answer)
  done_alike n answer y x r = (refl, r)

  pub aborts_alike : (X : Type 0) (n m : ℕ) (reason : Reason) → Alike n m (aborts {R = X} reason) (aborts {R = X} reason)
  aborts_alike X n m reason y x r = (refl, lower n y x r)

  -- what is read is the same
  pub reads_alike : {X Y : Type 0} (n k : ℕ) (f : Tx O A → X) (g : Tx P B → X) → ((y : Tx O A) (x : Tx P B) → s.Related n y x → f y ≡ g x)
      → (next : X → Act O A Y) (other : X → Act P B Y) → ((r : X) → Alike n k (next r) (other r)) → Alike n k (reads f >>= next) (reads g >>= other)
  reads_alike n k f g same next other rest y x r = subst (λ u. Ends k (next (f y) y) (other u x)) (same y x r) (rest (f y) y x r)

  bones_same : (n : ℕ) (y : Tx O A) (x : Tx P B) → s.Related n y x → y.now.bones ≡ x.now.bones
  bones_same n y x r = (s.same n y x r).bones

  pub sees_ends : {X Y : Type 0} (n k : ℕ) (f : Bones → X) (next : X → Act O A Y) (other : X → Act P B Y) (y : Tx O A) (x : Tx P B) → s.Related n y x
      → Ends k (next (f x.now.bones) y) (other (f x.now.bones) x) → Ends k ((sees f >>= next) y) ((sees f >>= other) x)
  sees_ends n k f next other y x r rest = subst (λ u. Ends k (next u y) (other (f x.now.bones) x)) (sym (ap f (bones_same n y x r))) rest

  pub sees_alike : {X Y : Type 0} (n k : ℕ) (f : Bones → X)
      → (next : X → Act O A Y) (other : X → Act P B Y) → ((r : X) → Alike n k (next r) (other r)) → Alike n k (sees f >>= next) (sees f >>= other)
  sees_alike n k f next other rest y x r = sees_ends n k f next other y x r (rest (f x.now.bones) y x r)

  -- what is found, with what is known of it
  pub found_ends : {X Y : Type 0} (n k : ℕ) (o p : Option X) → o ≡ p → (next : X → Act O A Y) (other : X → Act P B Y) (y : Tx O A) (x : Tx P B) → s.Related n y x
      → ((r : X) → p ≡ Some r → Ends k (next r y) (other r x)) → Ends k (go_on (found o y) next) (go_on (found p x) other)
  found_ends n k (Some a) (Some b) e next other y x r rest = let same : a ≡ b = cc in subst (λ c. Ends k (next c y) (other b x)) (sym same) (rest b refl)
  found_ends n k None None e next other y x r rest = (refl, lower n y x r)
  found_ends n k (Some a) None e next other y x r rest = absurd (cc)
  found_ends n k None (Some b) e next other y x r rest = absurd (cc)

  pub finds_ends : {X Y : Type 0} (n k : ℕ) (f : Bones → Option X) (next : X → Act O A Y) (other : X → Act P B Y) (y : Tx O A) (x : Tx P B) → s.Related n y x
      → ((r : X) → f x.now.bones ≡ Some r → Ends k (next r y) (other r x)) → Ends k ((finds f >>= next) y) ((finds f >>= other) x)
  finds_ends n k f next other y x r rest = found_ends n k (f y.now.bones) (f x.now.bones) (ap f (bones_same n y x r)) next other y x r rest

  pub finds_alike : {X Y : Type 0} (n k : ℕ) (f : Bones → Option X) (next : X → Act O A Y) (other : X → Act P B Y)
      → ((r : X) → Alike n k (next r) (other r)) → Alike n k (finds f >>= next) (finds f >>= other)
  finds_alike n k f next other rest y x r = finds_ends n k f next other y x r (λ a is. rest a y x r)

  -- what is computed, with what is known of it
  valued_ends : {X Y : Type 0} (n k : ℕ) (o p : Result X Fault) → o ≡ p → (next : X → Act O A Y) (other : X → Act P B Y) (y : Tx O A) (x : Tx P B) → s.Related n y x
      → ((r : X) → p ≡ Ok r → Ends k (next r y) (other r x)) → Ends k (go_on (valued o y) next) (go_on (valued p x) other)
  valued_ends n k (Ok a) (Ok b) e next other y x r rest = let same : a ≡ b = cc in subst (λ c. Ends k (next c y) (other b x)) (sym same) (rest b refl)
  valued_ends n k (Err f) (Err g) e next other y x r rest = let same : f ≡ g = cc in (ap reason_of same, lower n y x r)
  valued_ends n k (Ok a) (Err g) e next other y x r rest = absurd (cc)
  valued_ends n k (Err f) (Ok b) e next other y x r rest = absurd (cc)

  pub computes_ends : {X Y : Type 0} (n k : ℕ) (f : Bones → Result X Fault) (next : X → Act O A Y) (other : X → Act P B Y) (y : Tx O A) (x : Tx P B) → s.Related n y x
      → ((r : X) → f x.now.bones ≡ Ok r → Ends k (next r y) (other r x)) → Ends k ((computes f >>= next) y) ((computes f >>= other) x)
  computes_ends n k f next other y x r rest = valued_ends n k (f y.now.bones) (f x.now.bones) (ap f (bones_same n y x r)) next other y x r rest

  pub computes_then : {X Y : Type 0} (n k : ℕ) (f : Bones → Result X Fault) (next : X → Act O A Y) (other : X → Act P B Y)
      → ((r : X) → Alike n k (next r) (other r)) → Alike n k (computes f >>= next) (computes f >>= other)
  computes_then n k f next other rest y x r = computes_ends n k f next other y x r (λ a is. rest a y x r)

  -- a test, with what is known where it holds
  needs_by : {Y : Type 0} (n k : ℕ) (b c : Bool) → b ≡ c → (reason : Reason) (f : Act O A Y) (g : Act P B Y) (y : Tx O A) (x : Tx P B) → s.Related n y x
      → (c ≡ true → Ends k (f y) (g x)) → Ends k (go_on (tested b reason y) (λ _. f)) (go_on (tested c reason x) (λ _. g))
  needs_by n k true true e reason f g y x r rest = rest refl
  needs_by n k false false e reason f g y x r rest = (refl, lower n y x r)
  needs_by n k true false e reason f g y x r rest = absurd (cc)
  needs_by n k false true e reason f g y x r rest = absurd (cc)

  pub needs_ends : {Y : Type 0} (n k : ℕ) (reason : Reason) (p : Tx O A → Bool) (q : Tx P B → Bool) (next : Act O A Y) (other : Act P B Y) (y : Tx O A) (x : Tx P B) → s.Related n y x
      → p y ≡ q x → (q x ≡ true → Ends k (next y) (other x)) → Ends k ((needs reason p >> next) y) ((needs reason q >> other) x)
  needs_ends n k reason p q next other y x r same rest = needs_by n k (p y) (q x) same reason next other y x r rest

  pub needs_alike : (n : ℕ) (reason : Reason) (p : Tx O A → Bool) (q : Tx P B → Bool) → ((y : Tx O A) (x : Tx P B) → s.Related n y x → p y ≡ q x) → Alike n n (needs reason p) (needs reason q)
  needs_alike n reason p q same y x r = by_test (p y) (q x) (same y x r) where
    by_test : (b c : Bool) → b ≡ c → Ends n (tested b reason y) (tested c reason x)
    by_test true true e = (refl, r)
    by_test false false e = (refl, lower n y x r)
    by_test true false e = absurd (cc)
    by_test false true e = absurd (cc)

  pub cond_alike : {X : Type 0} (n m : ℕ) (b : Bool) (f f' : Act O A X) (g g' : Act P B X) → Alike n m f g → Alike n m f' g' → Alike n m (cond b f f') (cond b g g')
  cond_alike n m true f f' g g' are others = are
  cond_alike n m false f f' g g' are others = others

  pub when_alike : (n : ℕ) (b : Bool) (f : Deed O A) (g : Deed P B) → Alike n n f g → Alike n n (when b f) (when b g)
  when_alike n b f g are = cond_alike n n b f nothing g nothing are (done_alike n tt)

  -- a deed for each member, of which something is known
  pub each_alike : {X : Type 0} (Q : X → Type 0) (n : ℕ) (f : X → Deed O A) (g : X → Deed P B) → ((r : X) → Q r → Alike n n (f r) (g r))
      → (rs : List X) → AllByRecursion Q rs → Alike n n (each f rs) (each g rs)
  each_alike Q n f g are [] all = done_alike n tt
  each_alike Q n f g are (r ∷ rs) all = next_alike n n n (f r) (g r) (are r all.0) (each f rs) (each g rs) (each_alike Q n f g are rs all.1)

  pub every_alike : {X : Type 0} (n : ℕ) (f : X → Deed O A) (g : X → Deed P B) → ((r : X) → Alike n n (f r) (g r)) → (rs : List X) → Alike n n (each f rs) (each g rs)
  every_alike n f g are [] = done_alike n tt
  every_alike n f g are (r ∷ rs) = next_alike n n n (f r) (g r) (are r) (each f rs) (each g rs) (every_alike n f g are rs)

  -- ---- footprints

  pub foot_alike : (n : ℕ) (change : Footprint → Footprint) → Alike n n (does (footed change)) (does (footed change))
  foot_alike n change y x r = (refl, s.foot n y x change r)

  pub looks_alike : (n : ℕ) (ids : List ℕ) → Alike n n (looks ids) (looks ids)
  looks_alike n ids = foot_alike n (with_looks ids)

  -- ---- lines, statements and keys

  pub prints_alike : (n : ℕ) (line : List ℕ) → Alike n n (prints line) (prints line)
  prints_alike n line y x r =
      needs_ends n n reason.Output (λ z. nat_le (length z.text + length line) output_limit) (λ z. nat_le (length z.text + length line) output_limit)
      (does (with_line line)) (does (with_line line)) y x r (ap (λ text. nat_le (length text + length line) output_limit) (s.same n y x r).text) (λ fits. (refl, s.line n y x line r fits))

  pub counts_alike : (n : ℕ) → Alike n (suc n) counts counts
  counts_alike n y x r =
      needs_ends n (suc n) reason.Budget (λ z. nat_lt z.run budget_limit) (λ z. nat_lt z.run budget_limit)
      (does with_statement) (does with_statement) y x r (ap (λ run. nat_lt run budget_limit) (s.same n y x r).run) (λ more. (refl, s.statement n y x r more))

  -- two tests, and then what knows of both
  tests_by : {Y : Type 0} (n k : ℕ) (b c : Bool) → b ≡ c → (reason : Reason) (f : Deed O A) (g : Deed P B) (next : Act O A Y) (other : Act P B Y) (y : Tx O A) (x : Tx P B) → s.Related n y x
      → (c ≡ true → Ends k (go_on (f y) (λ _. next)) (go_on (g x) (λ _. other)))
      → Ends k (go_on (go_on (tested b reason y) (λ _. f)) (λ _. next)) (go_on (go_on (tested c reason x) (λ _. g)) (λ _. other))
  tests_by n k true true e reason f g next other y x r rest = rest refl
  tests_by n k false false e reason f g next other y x r rest = (refl, lower n y x r)
  tests_by n k true false e reason f g next other y x r rest = absurd (cc)
  tests_by n k false true e reason f g next other y x r rest = absurd (cc)

  count_same : (n : ℕ) (y : Tx O A) (x : Tx P B) (keys : List Key) → s.Related n y x → key_count (holding keys y) ≡ key_count (holding keys x)
  count_same n y x keys r =
      ap (λ ks. length (fold with_key ks keys) + y.gathered) (s.same n y x r).keys ∙ ap (λ g. length (fold with_key x.keys keys) + g) (s.same n y x r).gathered

  fits_limit : (a b : Bool) → (a && b) ≡ true → b ≡ true
  fits_limit true b e = e
  fits_limit false b e = absurd (cc)

  fits_size : (a b : Bool) → (a && b) ≡ true → a ≡ true
  fits_size true b e = refl
  fits_size false b e = absurd (cc)

  abbrev fits : {O A : Type 0} → ℕ → List Key → Tx O A → Bool
  fits size keys x = nat_le size value_limit && nat_le (key_count (holding keys x)) change_limit

  -- a change is asked for, and what comes behind it knows that it found its number
  pub changes_ends : {Y : Type 0} (n k : ℕ) (keys : List Key) (size : ℕ) (draw : Draw) (next : Act O A Y) (other : Act P B Y) (y : Tx O A) (x : Tx P B) → s.Related n y x
      → (draw.left x.now.bones ≡ true → nat_le size value_limit ≡ true → s.Related n (holding keys (drawing draw.number y)) (holding keys (drawing draw.number x))
      → Ends k (next (holding keys (drawing draw.number y))) (other (holding keys (drawing draw.number x))))
      → Ends k ((changes keys size draw >> next) y) ((changes keys size draw >> other) x)
  changes_ends n k keys size draw next other y x r rest =
      tests_by n k (fits size keys y) (fits size keys x) (ap (λ c. nat_le size value_limit && nat_le c change_limit) (count_same n y x keys r)) reason.Size spaced spaced next other y x r (λ small.
      tests_by n k (draw.left y.now.bones) (draw.left x.now.bones) (ap draw.left (bones_same n y x r)) reason.Space (does (holding keys)) (does (holding keys)) next other (drawing draw.number y) (drawing draw.number x) drawn (λ left.
      rest left (fits_size (nat_le size value_limit) (nat_le (key_count (holding keys x)) change_limit) small)
      (s.keys n (drawing draw.number y) (drawing draw.number x) keys drawn (fits_limit (nat_le size value_limit) (nat_le (key_count (holding keys x)) change_limit) small))))
    where
      spaced : {O A : Type 0} → Deed O A
      spaced = does (drawing draw.number) >> (needs reason.Space (λ z. draw.left z.now.bones) >> does (holding keys))

      drawn : s.Related n (drawing draw.number y) (drawing draw.number x)
      drawn = s.foot n y x (with_draw draw.number) r

  pub changes_alike : (n : ℕ) (keys : List Key) (size : ℕ) (draw : Draw) → Alike n n (changes keys size draw) (changes keys size draw)
  changes_alike n keys size draw y x r =
      needs_ends n n reason.Size (fits size keys) (fits size keys) spaced spaced y x r
      (ap (λ c. nat_le size value_limit && nat_le c change_limit) (count_same n y x keys r)) (λ small.
      needs_ends n n reason.Space (λ z. draw.left z.now.bones) (λ z. draw.left z.now.bones) (does (holding keys)) (does (holding keys)) (drawing draw.number y) (drawing draw.number x) drawn (ap draw.left (bones_same n y x r)) (λ left.
      (refl, s.keys n (drawing draw.number y) (drawing draw.number x) keys drawn (fits_limit (nat_le size value_limit) (nat_le (key_count (holding keys x)) change_limit) small))))
    where
      spaced : {O A : Type 0} → Deed O A
      spaced = does (drawing draw.number) >> (needs reason.Space (λ z. draw.left z.now.bones) >> does (holding keys))

      drawn : s.Related n (drawing draw.number y) (drawing draw.number x)
      drawn = s.foot n y x (with_draw draw.number) r

  -- ---- what reads the bones alone

  pub object_alike : (n : ℕ) (id : ℕ) → Alike n n (object id) (object id)
  object_alike n id y x r = only (object_at y.now.bones id) (object_at x.now.bones id) (ap (λ b. object_at b id) (bones_same n y x r)) where
    only : (o p : Option Object) → o ≡ p → Ends n (found o y) (found p x)
    only (Some a) (Some b) e = let same : a ≡ b = cc in (same, r)
    only None None e = (refl, lower n y x r)
    only (Some a) None e = absurd (cc)
    only None (Some b) e = absurd (cc)

  pub class_alike : (n : ℕ) (id : ℕ) → Alike n n (class_of id) (class_of id)
  class_alike n id = then_alike n n n (object id) (object id) (object_alike n id) (λ o. gives o.class) (λ o. gives o.class) (λ o. done_alike n o.class)

  pub computes_alike : {X : Type 0} (n : ℕ) (f : Bones → Result X Fault) → Alike n n (computes f) (computes f)
  computes_alike {X} n f y x r = only (f y.now.bones) (f x.now.bones) (ap f (bones_same n y x r)) where
    only : (o p : Result X Fault) → o ≡ p → Ends n (valued o y) (valued p x)
    only (Ok a) (Ok b) e = let same : a ≡ b = cc in (same, r)
    only (Err a) (Err b) e = let same : a ≡ b = cc in (ap reason_of same, lower n y x r)
    only (Ok a) (Err b) e = absurd (cc)
    only (Err a) (Ok b) e = absurd (cc)

  pub version_alike : (n : ℕ) (r : Ref) → Alike n n (version r) (version r)
  version_alike n r = computes_alike n (λ b. denoted b r)

  live_same : (n id : ℕ) (y : Tx O A) (x : Tx P B) → s.Related n y x → is_live id y ≡ is_live id x
  live_same n id y x r = ap (λ b. is_some (object_at b id)) (bones_same n y x r)

  pub there_alike : (n id : ℕ) → Alike n n (there id) (there id)
  there_alike n id = needs_alike n (reason.NoObject id) (is_live id) (is_live id) (live_same n id)

  pub lives_alike : (n id : ℕ) → Alike n n (lives id) (lives id)
  lives_alike n id = next_alike n n n (looks (id ∷ [])) (looks (id ∷ [])) (looks_alike n (id ∷ [])) (there id) (there id) (there_alike n id)

  pub asks_alike : (n id : ℕ) → Alike n n (asks_live id) (asks_live id)
  asks_alike n id =
      next_alike n n n (looks (id ∷ [])) (looks (id ∷ [])) (looks_alike n (id ∷ [])) (reads (is_live id)) (reads (is_live id)) (λ y x r. (live_same n id y x r, r))

  pub evaluates_alike : (n : ℕ) (e : Expr) (frame : Frame) → Alike n n (evaluates e frame) (evaluates e frame)
  evaluates_alike n e frame =
      sees_alike n n (λ b. looks_in e b frame) seen seen (λ ids.
      next_alike n n n (looks ids) (looks ids) (looks_alike n ids) value value (computes_alike n (λ b. evaluate e b frame)))
    where
      value : {O A : Type 0} → Act O A Value
      value = computes (λ b. evaluate e b frame)

      seen : {O A : Type 0} → List ℕ → Act O A Value
      seen ids = looks ids >> value

  pub holds_alike : (n : ℕ) (e : Expr) (frame : Frame) → Alike n n (holds e frame) (holds e frame)
  holds_alike n e frame = then_alike n n n (evaluates e frame) (evaluates e frame) (evaluates_alike n e frame) (λ v. gives (is_true v)) (λ v. gives (is_true v)) (λ v. done_alike n (is_true v))

  pub all_alike : (n : ℕ) (es : List Expr) (frame : Frame) → Alike n n (evaluates_all es frame) (evaluates_all es frame)
  all_alike n [] frame = done_alike n []
  all_alike n (e ∷ es) frame =
      then_alike n n n (evaluates e frame) (evaluates e frame) (evaluates_alike n e frame) (λ v. evaluates_all es frame >>= λ vs. gives (v ∷ vs)) (λ v. evaluates_all es frame >>= λ vs. gives (v ∷ vs)) (λ v.
      then_alike n n n (evaluates_all es frame) (evaluates_all es frame) (all_alike n es frame) (λ vs. gives (v ∷ vs)) (λ vs. gives (v ∷ vs)) (λ vs. done_alike n (v ∷ vs)))

  pub sets_alike : (n : ℕ) (es : List (List ℕ × Expr)) (frame : Frame) → Alike n n (evaluates_sets es frame) (evaluates_sets es frame)
  sets_alike n [] frame = done_alike n []
  sets_alike n (e ∷ es) frame =
      then_alike n n n (evaluates e.1 frame) (evaluates e.1 frame) (evaluates_alike n e.1 frame)
      (λ v. evaluates_sets es frame >>= λ vs. gives ((e.0, v) ∷ vs)) (λ v. evaluates_sets es frame >>= λ vs. gives ((e.0, v) ∷ vs)) (λ v.
      then_alike n n n (evaluates_sets es frame) (evaluates_sets es frame) (sets_alike n es frame) (λ vs. gives ((e.0, v) ∷ vs)) (λ vs. gives ((e.0, v) ∷ vs)) (λ vs. done_alike n ((e.0, v) ∷ vs)))

  pub stands_alike : (n : ℕ) (r : Ref) → Alike n n (stands r) (stands r)
  stands_alike n r =
      next_alike n n n (looks (r.object ∷ [])) (looks (r.object ∷ [])) (looks_alike n (r.object ∷ [])) (denoting r) (denoting r)
      (then_alike n n n (version r) (version r) (version_alike n r) (λ _. nothing) (λ _. nothing) (λ _. done_alike n tt))

  pub reference_alike : (n : ℕ) (e : Expr) (frame : Frame) → Alike n n (reference e frame) (reference e frame)
  reference_alike n e frame =
      then_alike n n n (evaluates e frame) (evaluates e frame) (evaluates_alike n e frame) (λ v. found (ref_in v) >>= λ r. stands r >> gives r) (λ v. found (ref_in v) >>= λ r. stands r >> gives r)
      (λ v y x h. found_ends n n (ref_in v) (ref_in v) refl (λ r. stands r >> gives r) (λ r. stands r >> gives r) y x h
      (λ r is. next_alike n n n (stands r) (stands r) (stands_alike n r) (gives r) (gives r) (done_alike n r) y x h))

  pub receiver_alike : (n : ℕ) (of : Option Expr) (frame : Frame) → Alike n n (receiver of frame) (receiver of frame)
  receiver_alike n (Some e) frame = reference_alike n e frame
  receiver_alike n None frame = next_alike n n n (stands frame.this) (stands frame.this) (stands_alike n frame.this) (gives frame.this) (gives frame.this) (done_alike n frame.this)

  -- ---- constraints

  judges_alike : (n : ℕ) (c : Constraint) (v : Result Value Fault) → Alike n n (judges c v) (judges c v)
  judges_alike n c (Ok (value.Bool true)) y x r = (refl, r)
  judges_alike n c (Ok (value.Bool false)) y x r = (refl, lower n y x r)
  judges_alike n c (Ok (value.Int i)) y x r = (refl, lower n y x r)
  judges_alike n c (Ok (value.Text t)) y x r = (refl, lower n y x r)
  judges_alike n c (Ok (value.Reference q)) y x r = (refl, lower n y x r)
  judges_alike n c (Err fault) y x r = (refl, lower n y x r)

  tests_alike : (n : ℕ) (v : Version) (cs : List Constraint) → Alike n n (each (tests v) cs) (each (tests v) cs)
  tests_alike n v = every_alike n (tests v) (tests v) (λ c. judges_alike n c (plain c.test (record { locals = []; own = v.fields })))

  pub hard_alike : (n : ℕ) (r : Ref) → Alike n n (tests_hard r) (tests_hard r)
  hard_alike n r =
      computes_then n n (λ b. denoted b r) (λ v. object r.object >>= λ o. sees (λ b. constraints_of false b.classes o.class) >>= each (tests v)) (λ v. object r.object >>= λ o. sees (λ b. constraints_of false b.classes o.class) >>= each (tests v)) (λ v.
      then_alike n n n (object r.object) (object r.object) (object_alike n r.object) (λ o. sees (λ b. constraints_of false b.classes o.class) >>= each (tests v)) (λ o. sees (λ b. constraints_of false b.classes o.class) >>= each (tests v)) (λ o.
      sees_alike n n (λ b. constraints_of false b.classes o.class) (each (tests v)) (each (tests v)) (tests_alike n v)))

  pub soft_alike : (n : ℕ) (o : Object) → Alike n n (tests_soft o) (tests_soft o)
  soft_alike n o = every_alike n (tests_version o) (tests_version o)
      (λ v. sees_alike n n (λ b. constraints_of true b.classes o.class) (each (tests v)) (each (tests v)) (tests_alike n v)) o.versions
