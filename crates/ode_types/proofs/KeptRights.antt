-- What a check of a right side gives has the sort that it gives.
use Rattle.std.proofs.Common.{◌≡◌, ℕ, List, [], ◌∷◌, ◌++◌, length, Bool, true, false, Option, Some, None, Ok, Err, refl, ap, sym, ◌∙◌, subst, arith}
use Rattle.std.specs.Prelude.{◌==◌, ◌&&◌, not}
use Rattle.std.specs.List.{list_all, list_any}
use Rattle.std.specs.Option.{option_and_then, option_map_or}
use Rattle.std.specs.Str.{bytes_eq}
use Rattle.std.proofs.lemmas.Bool.Decides.{Decides-eqb}
use Rattle.ode_value.specs.declared.binding.Param.{Param}
use Rattle.ode_value.specs.declared.class.Class.{Class}
use Rattle.ode_value.specs.declared.class.Field.{Field}
use Rattle.ode_value.specs.declared.member.Method.{Method}
use Rattle.ode_value.specs.declared.member.TriggerDecl.{TriggerDecl}
use Rattle.ode_value.specs.declared.reason.CheckError.TheVariants.{UnknownName}
use Rattle.ode_value.specs.declared.statement.Call.{Call}
use Rattle.ode_value.specs.declared.statement.Expr.{Expr}
use Rattle.ode_value.specs.declared.statement.Rhs.{Rhs}
use Rattle.ode_value.specs.declared.statement.Rhs.TheVariants as rhs
use Rattle.ode_value.specs.declared.statement.Sort.{Sort}
use Rattle.ode_value.specs.declared.statement.Sort.TheVariants as sort
use Rattle.ode_types.specs.Checks.{Check, ◌>>=◌, ◌>>◌, needs, found, in_turn}
use Rattle.ode_types.specs.Families.{class_named, field_named, line_of, method_named, trigger_named}
use Rattle.ode_types.specs.Kept.{Setting, are_fit, is_fit, is_ref, is_set, receiver_class, right_sort, sort_in}
use Rattle.ode_types.specs.Rights.{activated, argument, arguments, call_from, call_of, made, made_of, method_call, next_setting, right, setting, settings, trigger_activated, yields}
use Rattle.ode_types.specs.Scopes.{Scope, wrong}
use Rattle.ode_types.specs.Sorts.{class_of, fits, is_reference}
use Rattle.ode_types.specs.Typing.{fitting, reference, typed, where_so}
use Rattle.ode_types.specs.declared.checked.Right.{Right}
use Rattle.ode_types.specs.declared.checked.Typed.{Typed}
use Rattle.ode_types.proofs.CheckedClasses.{bind-ok, needs-ok}
use Rattle.ode_types.proofs.KeptLaws.{Sees, found-ok, setting_of, typed_kept}

-- what was given
abbrev given : Rhs → Option Sort → Check Right
given r s = Ok (record { rhs = r; sort = s })

is_right_given : (r : Rhs) (s : Option Sort) (t : Right) (at : Setting) → given r s ≡ Ok t → right_sort at r ≡ Some s → right_sort at t.rhs ≡ Some t.sort
is_right_given r s t at h is =
    let made : Right = record { rhs = r; sort = s } in
    let same : made ≡ t = cc in
    subst (λ (u : Right). right_sort at u.rhs ≡ Some u.sort) same is

pub both_true : (a b : Bool) → a ≡ true → b ≡ true → (a && b) ≡ true
both_true a b p q = ap (λ x. x && b) p ∙ q

not_none : {X : Type 0} (x : X) (xs : List X) → (length (x ∷ xs) == 0) ≡ true → ⊥
not_none x xs h = let same : length (x ∷ xs) ≡ 0 = (Decides-eqb (length (x ∷ xs)) 0).0 h in omega arith

module _ (scope : Scope) (slots : List (Option Sort)) (sees : Sees scope slots) where
  abbrev at : Setting
  at = setting_of scope slots

  pub fitting_kept : (s : Sort) (e x : Expr) → fitting s e scope ≡ Ok x → is_fit at s x ≡ true
  unfolding fitting
  fitting_kept s e x h =
      let p = bind-ok (typed e scope) (λ t. needs (wrong scope) (fits scope.classes t.sort s) >> Ok t.expr) x h in
      let q = bind-ok (needs (wrong scope) (fits scope.classes p.0.sort s)) (λ _. Ok p.0.expr) x p.2 in
      let same : p.0.expr ≡ x = cc (q.2) in
      subst (λ (y : Expr). is_fit at s y ≡ true) same
      (ap (λ o. option_map_or (λ t. fits scope.classes t s) o false) (typed_kept e scope slots sees p.0 p.1) ∙ needs-ok (wrong scope) (fits scope.classes p.0.sort s) q.0 q.1)

  reference_parts : (e : Expr) (t : Typed) → reference e scope ≡ Ok t → (typed e scope ≡ Ok t) × (is_reference t.sort ≡ true)
  unfolding reference
  reference_parts e t h =
      let p = bind-ok (typed e scope) (λ u. needs (wrong scope) (is_reference u.sort) >> Ok u) t h in
      let q = bind-ok (needs (wrong scope) (is_reference p.0.sort)) (λ _. Ok p.0) t p.2 in
      let same : p.0 ≡ t = cc (q.2) in
      (p.1 ∙ ap Ok same, ap (λ (u : Typed). is_reference u.sort) (sym same) ∙ needs-ok (wrong scope) (is_reference p.0.sort) q.0 q.1)

  pub reference_kept : (e : Expr) (t : Typed) → reference e scope ≡ Ok t → sort_in t.expr at ≡ Some t.sort
  reference_kept e t h = typed_kept e scope slots sees t (reference_parts e t h).0

  pub reference_is : (e : Expr) (t : Typed) → reference e scope ≡ Ok t → is_ref at t.expr ≡ true
  reference_is e t h = ap (λ o. option_map_or is_reference o false) (reference_kept e t h) ∙ (reference_parts e t h).1

  -- ---- arguments and fields

  all_fit : (args : List Expr) (params : List Param) (r : List Expr × List Param) → in_turn (argument scope) params args ≡ Ok r → (length r.1 == 0) ≡ true → are_fit at params r.0 ≡ true
  all_fit [] [] r h none = let same : [] ≡ r.0 = ap (λ (m : Check (List Expr × List Param)). elim m as (λ _. List Expr) [ Ok x ↦ x.0 | Err x ↦ [] ]) h in subst (λ (es : List Expr). are_fit at [] es ≡ true) same refl
  all_fit [] (p ∷ ps) r h none =
      let same : p ∷ ps ≡ r.1 = ap (λ (m : Check (List Expr × List Param)). elim m as (λ _. List Param) [ Ok x ↦ x.1 | Err x ↦ p ∷ ps ]) h in
      absurd (not_none p ps (ap (λ (l : List Param). length l == 0) same ∙ none))
  all_fit (e ∷ es) [] r h none =
      let p = bind-ok (argument scope [] e) (λ x. in_turn (argument scope) x.1 es >>= (λ y. Ok (x.0 ∷ y.0, y.1))) r h in
      let q = bind-ok (typed e scope) (λ _. Err (wrong scope)) p.0 p.1 in
      absurd (cc (q.2))
  all_fit (e ∷ es) (a ∷ ps) r h none =
      let p = bind-ok (argument scope (a ∷ ps) e) (λ x. in_turn (argument scope) x.1 es >>= (λ y. Ok (x.0 ∷ y.0, y.1))) r h in
      let q = bind-ok (fitting a.sort e scope) (λ x. Ok (x, ps)) p.0 p.1 in
      let u = bind-ok (in_turn (argument scope) p.0.1 es) (λ y. Ok (p.0.0 ∷ y.0, y.1)) r p.2 in
      let here : (q.0, ps) ≡ p.0 = cc (q.2) in
      let all : (p.0.0 ∷ u.0.0, u.0.1) ≡ r = cc (u.2) in
      let rest : are_fit at ps u.0.0 ≡ true =
      all_fit es ps u.0 (ap (λ (x : Expr × List Param). in_turn (argument scope) x.1 es) here ∙ u.1) (ap (λ (x : List Expr × List Param). length x.1 == 0) all ∙ none) in
      let first : is_fit at a.sort p.0.0 ≡ true = ap (λ (x : Expr × List Param). is_fit at a.sort x.0) (sym here) ∙ fitting_kept a.sort e q.0 q.1 in
      ap (λ (x : List Expr × List Param). are_fit at (a ∷ ps) x.0) (sym all) ∙ both_true (is_fit at a.sort p.0.0) (are_fit at ps u.0.0) first rest

  arguments_kept : (params : List Param) (args es : List Expr) → arguments scope params args ≡ Ok es → are_fit at params es ≡ true
  unfolding arguments
  arguments_kept params args es h =
      let p = bind-ok (in_turn (argument scope) params args) (λ r. needs (wrong scope) (length r.1 == 0) >> Ok r.0) es h in
      let q = bind-ok (needs (wrong scope) (length p.0.1 == 0)) (λ _. Ok p.0.0) es p.2 in
      let same : p.0.0 ≡ es = cc (q.2) in
      subst (λ (xs : List Expr). are_fit at params xs ≡ true) same (all_fit args params p.0 p.1 (needs-ok (wrong scope) (length p.0.1 == 0) q.0 q.1))

  setting_kept : (c : Class) (before : List (List ℕ × Expr)) (set s : List ℕ × Expr) → setting scope c before set ≡ Ok s → is_set at c s ≡ true
  unfolding setting
  setting_kept c before set s h =
      let broken = not (list_any (λ (x : List ℕ × Expr). bytes_eq x.0 set.0) before) in
      let p = bind-ok (found (UnknownName set.0) (field_named c.fields set.0)) (λ f. needs (wrong scope) broken >> (fitting f.1.sort set.1 scope >>= (λ x. Ok (set.0, x)))) s h in
      let q = bind-ok (needs (wrong scope) broken) (λ _. fitting p.0.1.sort set.1 scope >>= (λ x. Ok (set.0, x))) s p.2 in
      let u = bind-ok (fitting p.0.1.sort set.1 scope) (λ x. Ok (set.0, x)) s q.2 in
      let same : (set.0, u.0) ≡ s = cc (u.2) in
      subst (λ (x : List ℕ × Expr). is_set at c x ≡ true) same
      (ap (λ o. option_map_or (λ (f : ℕ × Field). is_fit at f.1.sort u.0) o false) (found-ok (UnknownName set.0) (field_named c.fields set.0) p.0 p.1) ∙ fitting_kept p.0.1.sort set.1 u.0 u.1)

  all_set : (c : Class) (sets before : List (List ℕ × Expr)) (r : List (List ℕ × Expr) × List (List ℕ × Expr)) → in_turn (next_setting scope c) before sets ≡ Ok r → list_all (is_set at c) r.0 ≡ true
  all_set c [] before r h =
      let made : List (List ℕ × Expr) × List (List ℕ × Expr) = ([], before) in
      let same : made ≡ r = cc in
      subst (λ (x : List (List ℕ × Expr) × List (List ℕ × Expr)). list_all (is_set at c) x.0 ≡ true) same refl
  all_set c (set ∷ sets) before r h =
      let p = bind-ok (next_setting scope c before set) (λ x. in_turn (next_setting scope c) x.1 sets >>= (λ y. Ok (x.0 ∷ y.0, y.1))) r h in
      let q = bind-ok (setting scope c before set) (λ s. Ok (s, before ++ s ∷ [])) p.0 p.1 in
      let u = bind-ok (in_turn (next_setting scope c) p.0.1 sets) (λ y. Ok (p.0.0 ∷ y.0, y.1)) r p.2 in
      let here : (q.0, before ++ q.0 ∷ []) ≡ p.0 = cc (q.2) in
      let all : (p.0.0 ∷ u.0.0, u.0.1) ≡ r = cc (u.2) in
      let first : is_set at c p.0.0 ≡ true = ap (λ (x : (List ℕ × Expr) × List (List ℕ × Expr)). is_set at c x.0) (sym here) ∙ setting_kept c before set q.0 q.1 in
      ap (λ (x : List (List ℕ × Expr) × List (List ℕ × Expr)). list_all (is_set at c) x.0) (sym all)
      ∙ both_true (is_set at c p.0.0) (list_all (is_set at c) u.0.0) first (all_set c sets p.0.1 u.0 u.1)

  settings_kept : (c : Class) (sets ss : List (List ℕ × Expr)) → settings scope c sets ≡ Ok ss → list_all (is_set at c) ss ≡ true
  unfolding settings
  settings_kept c sets ss h =
      let p = bind-ok (in_turn (next_setting scope c) [] sets) (λ r. Ok r.0) ss h in
      let same : p.0.0 ≡ ss = cc (p.2) in
      subst (λ (xs : List (List ℕ × Expr)). list_all (is_set at c) xs ≡ true) same (all_set c sets [] p.0 p.1)

  -- ---- right sides

  call_kept : (of : Option Expr) (class : Option Class) (call : Call) (r : Right) → receiver_class at of ≡ class → call_of of class call scope ≡ Ok r → right_sort at r.rhs ≡ Some r.sort
  unfolding call_of method_call
  call_kept of class call r is h =
      let p = bind-ok (found (wrong scope) class) (λ c. found (UnknownName call.method) (method_named (line_of scope.classes c) call.method) >>= (λ m. method_call of m call scope)) r h in
      let q = bind-ok (found (UnknownName call.method) (method_named (line_of scope.classes p.0) call.method)) (λ m. method_call of m call scope) r p.2 in
      let u = bind-ok (arguments scope q.0.params call.args) (λ args. yields (rhs.Call (record { of = of; method = call.method; args = args })) q.0.result) r q.2 in
      let method : method_named (line_of scope.classes p.0) call.method ≡ Some q.0 = found-ok (UnknownName call.method) (method_named (line_of scope.classes p.0) call.method) q.0 q.1 in
      is_right_given (rhs.Call (record { of = of; method = call.method; args = u.0 })) (Some q.0.result) r at u.2
      (ap (λ (o : Option Class). option_and_then (λ (m : Method). where_so (are_fit at m.params u.0) (Some (Some m.result))) (option_and_then (λ (d : Class). method_named (line_of scope.classes d) call.method) o)) (is ∙ found-ok (wrong scope) class p.0 p.1)
      ∙ ap (option_and_then (λ (m : Method). where_so (are_fit at m.params u.0) (Some (Some m.result)))) method
      ∙ ap (λ b. where_so b (Some (Some q.0.result))) (arguments_kept q.0.params call.args u.0 u.1))

  from_kept : (of : Option Expr) (call : Call) (r : Right) → call_from of call scope ≡ Ok r → right_sort at r.rhs ≡ Some r.sort
  from_kept None call r h = call_kept None scope.class call r refl h
  from_kept (Some e) call r h =
      let p = bind-ok (typed e scope) (λ t. call_of (Some t.expr) (class_of scope.classes t.sort) call scope) r h in
      call_kept (Some p.0.expr) (class_of scope.classes p.0.sort) call r (ap (option_and_then (class_of scope.classes)) (typed_kept e scope slots sees p.0 p.1)) p.2

  made_kept : (class : List ℕ) (fields : List (List ℕ × Expr)) (r : Right) → made class fields scope ≡ Ok r → right_sort at r.rhs ≡ Some r.sort
  unfolding made made_of
  made_kept class fields r h =
      let p = bind-ok (found (UnknownName class) (class_named scope.classes class)) (λ c. made_of c class fields scope) r h in
      let q = bind-ok (settings scope p.0 fields) (λ sets. yields (rhs.New class sets) (sort.Reference class)) r p.2 in
      is_right_given (rhs.New class q.0) (Some (sort.Reference class)) r at q.2
      (ap (option_and_then (λ (c : Class). where_so (list_all (is_set at c) q.0) (Some (Some (sort.Reference class))))) (found-ok (UnknownName class) (class_named scope.classes class) p.0 p.1)
      ∙ ap (λ b. where_so b (Some (Some (sort.Reference class)))) (settings_kept p.0 fields q.0 q.1))

  activated_kept : (of : Typed) (trigger : List ℕ) (given : List Expr) (r : Right) → sort_in of.expr at ≡ Some of.sort → activated of trigger given scope ≡ Ok r → right_sort at r.rhs ≡ Some r.sort
  unfolding activated trigger_activated
  activated_kept of trigger given r kept h =
      let p = bind-ok (found (wrong scope) (class_of scope.classes of.sort)) (λ c. found (UnknownName trigger) (trigger_named (line_of scope.classes c) trigger) >>= (λ t. trigger_activated of.expr t trigger given scope)) r h in
      let q = bind-ok (found (UnknownName trigger) (trigger_named (line_of scope.classes p.0) trigger)) (λ t. trigger_activated of.expr t trigger given scope) r p.2 in
      let u = bind-ok (arguments scope q.0.params given) (λ args. yields (rhs.Activate of.expr trigger args) sort.Int) r q.2 in
      let there : trigger_named (line_of scope.classes p.0) trigger ≡ Some q.0 = found-ok (UnknownName trigger) (trigger_named (line_of scope.classes p.0) trigger) q.0 q.1 in
      is_right_given (rhs.Activate of.expr trigger u.0) (Some sort.Int) r at u.2
      (ap (λ (o : Option Class). option_and_then (λ (t : TriggerDecl). where_so (are_fit at t.params u.0) (Some (Some sort.Int))) (option_and_then (λ (d : Class). trigger_named (line_of scope.classes d) trigger) o))
      (ap (option_and_then (class_of scope.classes)) kept ∙ found-ok (wrong scope) (class_of scope.classes of.sort) p.0 p.1)
      ∙ ap (option_and_then (λ (t : TriggerDecl). where_so (are_fit at t.params u.0) (Some (Some sort.Int)))) there
      ∙ ap (λ b. where_so b (Some (Some sort.Int))) (arguments_kept q.0.params given u.0 u.1))

  pub right_kept : (x : Rhs) (r : Right) → right x scope ≡ Ok r → right_sort at r.rhs ≡ Some r.sort
  unfolding right
  right_kept (rhs.Plain e) r h =
      let p = bind-ok (typed e scope) (λ t. Ok (record { rhs = rhs.Plain t.expr; sort = t.sort })) r h in
      is_right_given (rhs.Plain p.0.expr) p.0.sort r at p.2 (typed_kept e scope slots sees p.0 p.1)
  right_kept (rhs.Call call) r h = from_kept call.of call r h
  right_kept (rhs.New class fields) r h = made_kept class fields r h
  right_kept (rhs.NewVersion e) r h =
      let p = bind-ok (reference e scope) (λ t. Ok (record { rhs = rhs.NewVersion t.expr; sort = t.sort })) r h in
      is_right_given (rhs.NewVersion p.0.expr) p.0.sort r at p.2
      (ap (λ b. where_so b (sort_in p.0.expr at)) (reference_is e p.0 p.1) ∙ reference_kept e p.0 p.1)
  right_kept (rhs.Activate e trigger given) r h =
      let p = bind-ok (typed e scope) (λ t. activated t trigger given scope) r h in
      activated_kept p.0 trigger given r (typed_kept e scope slots sees p.0 p.1) p.2

pub ruleset rights_keep = (right_kept)
