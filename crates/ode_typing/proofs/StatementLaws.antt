-- Statements by one level.
use Rattle.std.proofs.Common.{◌≡◌, ℕ, List, [], ◌∷◌, map, Result, Ok, Err, refl, ap, sym, ◌∙◌, subst}
use Rattle.ode_value.specs.declared.binding.Param.{Param}
use Rattle.ode_value.specs.declared.statement.Expr.{Expr}
use Rattle.ode_value.specs.declared.statement.Sort.TheVariants as sort
use Rattle.ode_value.specs.declared.statement.Stmt.TheVariants as stmt
use Rattle.ode_value.specs.declared.statement.Stmt.{Stmt, out-Stmt, map-Stmt, fold_out-Stmt, the_lemmas}
use Rattle.ode_types.specs.Answers.{Answers, AnswersWith}
use Rattle.ode_types.specs.Bodies.{Checking, body_checked, checks, checking_of, follow, inner, next_checked}
use Rattle.ode_types.specs.Checks.{Check, ◌>>=◌, in_turn}
use Rattle.ode_types.specs.Scopes.{Scope, behind}
use Rattle.ode_typing.specs.Places.{scope_of}
use Rattle.ode_typing.specs.declared.place.Locals.{Locals}
use Rattle.ode_typing.specs.declared.place.Place.{Place}
use Rattle.ode_types.specs.Typing.{fitting}
use Rattle.ode_types.specs.declared.stop.CheckStop.{CheckStop}
use Rattle.ode_types.specs.declared.stop.CheckStop.TheVariants as stop
use Rattle.ode_types.proofs.TypingLaws.{stops_with, stops_behind}

-- what a check gives besides what it leaves
pub first_of : {S T : Type 0} (meant : Check (S × T)) (t : T) (r : Result S CheckStop) → AnswersWith meant t r → Answers (meant >>= (λ p. Ok p.0)) r
first_of meant t (Ok s) h = ap (λ m. m >>= (λ p. Ok p.0)) h
first_of meant t (Err (stop.Broken e)) h = ap (λ m. m >>= (λ p. Ok p.0)) h
first_of meant t (Err stop.Memory) h = tt

pub checks_out : (s : Stmt) → checks s ≡ checking_of (map-Stmt Stmt Checking checks (out-Stmt s))
unfolding checks
checks_out s = fold_out-Stmt Checking checking_of s

-- a statement before those behind it
abbrev in_front : Stmt → List Stmt × Scope → Check (List Stmt × Scope)
in_front s rest = Ok (s ∷ rest.0, rest.1)

-- a body by its statements
turns : (ss : List Stmt) (scope : Scope) → in_turn follow scope (map checks ss) ≡ in_turn next_checked scope ss
turns [] scope = refl
turns (s ∷ ss) scope = by (checks s scope) (λ next. turns ss next) where
  by : (m : Check (Stmt × Scope)) → ((next : Scope) → in_turn follow next (map checks ss) ≡ in_turn next_checked next ss)
      → m >>= (λ p. in_turn follow p.1 (map checks ss) >>= in_front p.0) ≡ m >>= (λ p. in_turn next_checked p.1 ss >>= in_front p.0)
  by (Ok p) rest = ap (λ m. m >>= in_front p.0) (rest p.1)
  by (Err e) rest = refl

-- a body, without its locals
abbrev pub behind_body : Scope → List Stmt × Scope → Check (List Stmt × Scope)
behind_body scope r = Ok (r.0, behind r.1 scope)

pub inner-body : (ss : List Stmt) (scope : Scope) → inner (map checks ss) scope ≡ body_checked ss scope
unfolding inner body_checked
inner-body ss scope = ap (λ m. m >>= behind_body scope) (turns ss scope)

-- what a body leaves
pub behind-forget : (place : Place) (old last new : Locals) → new.seen ≡ old.seen → new.next ≡ last.next → behind (scope_of place last) (scope_of place old) ≡ scope_of place new
behind-forget place old last new seen next =
    ap (λ (s : List (ℕ × Param)). scope_of place (record { seen = s; next = last.next })) (sym seen)
    ∙ ap (λ (n : ℕ). scope_of place (record { seen = new.seen; next = n })) (sym next)

-- what was checked, with what is left behind it
pub made-with : (t : Stmt) (scope : Scope) (r : Result Stmt CheckStop) → Answers {T = Stmt} (Ok t) r → AnswersWith {T = Stmt} {S = Scope} (Ok (t, scope)) scope r
made-with t scope (Ok x) h = ap (λ m. m >>= (λ (y : Stmt). Ok (y, scope))) h
made-with t scope (Err (stop.Broken e)) h = ap (λ m. m >>= (λ (y : Stmt). Ok (y, scope))) h
made-with t scope (Err stop.Memory) h = tt

-- an `if` by its parts
abbrev done : Expr → List Stmt → List Stmt × Scope → Check (Stmt × Scope)
done test first second = Ok (stmt.If test first second.0, second.1)

abbrev behind_first : List Stmt → Expr → List Stmt × Scope → Check (Stmt × Scope)
behind_first second test first = body_checked second first.1 >>= done test first.0

abbrev behind_test : List Stmt → List Stmt → Scope → Expr → Check (Stmt × Scope)
behind_test first second scope test = body_checked first scope >>= behind_first second test

checks-If : (s : Stmt) (test : Expr) (first second : List Stmt) (scope : Scope) → s ≡ stmt.If test first second → checks s scope ≡ fitting sort.Bool test scope >>= behind_test first second scope
checks-If s test first second scope is =
    ap (λ (x : Stmt). checks x scope) is ∙ ap (λ (c : Checking). c scope) (checks_out (stmt.If test first second)) ∙ simp (the_lemmas, inner-body)

module _ (s : Stmt) (test t : Expr) (first second : List Stmt) (scope : Scope) (is : s ≡ stmt.If test first second) (fits : fitting sort.Bool test scope ≡ Ok t) where
  if-tested : checks s scope ≡ behind_test first second scope t
  if-tested = checks-If s test first second scope is ∙ ap (λ m. m >>= behind_test first second scope) fits

  pub if-first : (b : List Stmt) (u v : Scope) (e : CheckStop) → b ≡ first → AnswersWith {T = List Stmt} {S = Scope} (body_checked b scope) u (Err e) → AnswersWith {T = Stmt} {S = Scope} (checks s scope) v (Err e)
  if-first b u v stop.Memory same h = tt
  if-first b u v (stop.Broken e) same h = if-tested ∙ ap (λ (x : List Stmt). body_checked x scope >>= behind_first second t) (sym same) ∙ ap (λ m. m >>= behind_first second t) h

  module _ (b c xs : List Stmt) (u : Scope) (same : b ≡ first) (ok : body_checked b scope ≡ Ok (xs, u)) (also : c ≡ second) where
    if-both : checks s scope ≡ body_checked c u >>= done t xs
    if-both =
        if-tested ∙ ap (λ (x : List Stmt). body_checked x scope >>= behind_first second t) (sym same) ∙ ap (λ m. m >>= behind_first second t) ok
        ∙ ap (λ (x : List Stmt). body_checked x u >>= done t xs) (sym also)

    pub if-second : (v w : Scope) (e : CheckStop) → AnswersWith {T = List Stmt} {S = Scope} (body_checked c u) v (Err e) → AnswersWith {T = Stmt} {S = Scope} (checks s scope) w (Err e)
    if-second v w stop.Memory h = tt
    if-second v w (stop.Broken e) h = if-both ∙ ap (λ m. m >>= done t xs) h

    pub if-made : (ys : List Stmt) (v : Scope) (x : Expr) → x ≡ t → body_checked c u ≡ Ok (ys, v) → (r : Result Stmt CheckStop) → Answers {T = Stmt} (Ok (stmt.If x xs ys)) r → AnswersWith {T = Stmt} {S = Scope} (checks s scope) v r
    if-made ys v x is h r made =
        subst (λ m. AnswersWith {T = Stmt} {S = Scope} m v r) (sym (if-both ∙ ap (λ m. m >>= done t xs) h))
        (made-with (stmt.If t xs ys) v r (subst (λ (y : Expr). Answers {T = Stmt} (Ok (stmt.If y xs ys)) r) is made))

pub ruleset statements = (the_lemmas, checks_out, inner-body, stops_with, stops_behind)
