-- What a check of a statement gives is typed, and the slots behind it are those of the scope that it leaves.
use Rattle.std.proofs.Common.{◌≡◌, ◌≤◌, ℕ, zero, suc, ◌+◌, ◌-◌, List, [], ◌∷◌, ◌++◌, length, map, Bool, true, false, Option, Some, None, Ok, refl, ap, sym, ◌∙◌, subst, arith, length-append}
use Rattle.std.specs.Prelude.{◌==◌, ◌&&◌, not, nat_lt, is_some, replicate, slice_get}
use Rattle.std.specs.List.{AllByRecursion}
use Rattle.std.specs.Option.{option_and_then, option_map, option_map_or}
use Rattle.std.proofs.lemmas.Bool.Decides.{nat_tests}
use Rattle.ode_value.specs.declared.binding.Param.{Param}
use Rattle.ode_value.specs.declared.binding.Var.{Var}
use Rattle.ode_value.specs.declared.binding.Var.TheVariants as var
use Rattle.ode_value.specs.declared.class.Class.{Class}
use Rattle.ode_value.specs.declared.class.Field.{Field}
use Rattle.ode_value.specs.declared.reason.CheckError.TheVariants.{Duplicate, UnknownName}
use Rattle.ode_value.specs.declared.statement.Expr.{Expr}
use Rattle.ode_value.specs.declared.statement.Rhs.{Rhs}
use Rattle.ode_value.specs.declared.statement.Sort.{Sort}
use Rattle.ode_value.specs.declared.statement.Sort.TheVariants as sort
use Rattle.ode_value.specs.declared.statement.Stmt.{Stmt, out-Stmt, roll-Stmt, map-Stmt, fold-roll-Stmt, fold_out-Stmt, ind-Stmt, the_lemmas}
use Rattle.ode_value.specs.declared.statement.Stmt.TheOpen as stmt
use Rattle.ode_value.specs.declared.statement.Stmt.TheVariants as checked
use Rattle.ode_value.specs.declared.value.Ref.{Ref}
use Rattle.ode_types.specs.Bodies.{Checking, checks, checking_of, deactivate_checked, follow, inner, keeps, let_checked, return_checked, set_checked, show_checked}
use Rattle.ode_types.specs.Checks.{Check, ◌>>=◌, ◌>>◌, needs, found, in_turn}
use Rattle.ode_types.specs.Kept.{IsTypedStatement, Setting, Slots, inner_slots, is_assigned, is_fit, is_ref, is_right, keeps_slots, let_slots, right_sort, script_setting, slots_behind, slots_of, slots_through, with_slots, without_inner}
use Rattle.ode_types.specs.Limits.{slot_limit}
use Rattle.ode_types.specs.Rights.{right}
use Rattle.ode_types.specs.Scopes.{Scope, behind, is_seen, meaning, with_local, wrong}
use Rattle.ode_types.specs.Sorts.{fits, is_void, starting}
use Rattle.ode_types.specs.Static.{check_statement, script_scope}
use Rattle.ode_types.specs.Typing.{fitting, reference, where_so}
use Rattle.ode_types.specs.declared.checked.Right.{Right}
use Rattle.ode_types.proofs.CheckedClasses.{bind-ok, needs-ok}
use Rattle.ode_types.proofs.KeptLaws.{Holds, Shows, found-ok, meaning_by, setting_of}
use Rattle.ode_types.proofs.KeptRights.{fitting_kept, reference_is, right_kept}

-- ---- statements by one level

pub slots_behind_out : (s : Stmt) → slots_behind s ≡ slots_of (map-Stmt Stmt Slots slots_behind (out-Stmt s))
unfolding slots_behind
slots_behind_out s = fold_out-Stmt Slots slots_of s

pub slots_behind-Let : (v : Var) (r : Rhs) (at : Setting) → slots_behind (checked.Let v r) at ≡ let_slots v r at
slots_behind-Let v r at = ap (λ (s : Slots). s at) (slots_behind_out (checked.Let v r)) ∙ simp the_lemmas

pub slots_behind-Set : (v : Var) (r : Rhs) (at : Setting) → slots_behind (checked.Set v r) at ≡ keeps_slots (is_assigned v r at) at
slots_behind-Set v r at = ap (λ (s : Slots). s at) (slots_behind_out (checked.Set v r)) ∙ simp the_lemmas

pub slots_behind-Do : (r : Rhs) (at : Setting) → slots_behind (checked.Do r) at ≡ keeps_slots (is_some (right_sort at r)) at
slots_behind-Do r at = ap (λ (s : Slots). s at) (slots_behind_out (checked.Do r)) ∙ simp the_lemmas

pub slots_behind-If : (test : Expr) (first second : List Stmt) (at : Setting) → slots_behind (checked.If test first second) at
    ≡ where_so (is_fit at sort.Bool test) (option_and_then (λ slots. inner_slots (map slots_behind second) (with_slots slots at)) (inner_slots (map slots_behind first) at))
slots_behind-If test first second at = ap (λ (s : Slots). s at) (slots_behind_out (checked.If test first second)) ∙ simp the_lemmas

pub slots_behind-Return_none : (at : Setting) → slots_behind (checked.Return None) at ≡ keeps_slots (is_void (Some at.result)) at
slots_behind-Return_none at = ap (λ (s : Slots). s at) (slots_behind_out (checked.Return None)) ∙ simp the_lemmas

pub slots_behind-Return_some : (e : Expr) (at : Setting) → slots_behind (checked.Return (Some e)) at ≡ keeps_slots (is_fit at at.result e) at
slots_behind-Return_some e at = ap (λ (s : Slots). s at) (slots_behind_out (checked.Return (Some e))) ∙ simp the_lemmas

pub slots_behind-Delete : (e : Expr) (at : Setting) → slots_behind (checked.Delete e) at ≡ keeps_slots (is_ref at e) at
slots_behind-Delete e at = ap (λ (s : Slots). s at) (slots_behind_out (checked.Delete e)) ∙ simp the_lemmas

pub slots_behind-DropVersion : (e : Expr) (at : Setting) → slots_behind (checked.DropVersion e) at ≡ keeps_slots (is_ref at e) at
slots_behind-DropVersion e at = ap (λ (s : Slots). s at) (slots_behind_out (checked.DropVersion e)) ∙ simp the_lemmas

pub slots_behind-Deactivate : (e f : Expr) (at : Setting) → slots_behind (checked.Deactivate e f) at ≡ keeps_slots (is_ref at e && is_fit at sort.Int f) at
slots_behind-Deactivate e f at = ap (λ (s : Slots). s at) (slots_behind_out (checked.Deactivate e f)) ∙ simp the_lemmas

pub slots_behind-Show : (r : Rhs) (at : Setting) → slots_behind (checked.Show r) at ≡ keeps_slots (option_map_or (λ s. not (is_void s)) (right_sort at r) false) at
slots_behind-Show r at = ap (λ (s : Slots). s at) (slots_behind_out (checked.Show r)) ∙ simp the_lemmas

pub slots_behind-Say : (e : Expr) (at : Setting) → slots_behind (checked.Say e) at ≡ keeps_slots (is_fit at sort.Text e) at
slots_behind-Say e at = ap (λ (s : Slots). s at) (slots_behind_out (checked.Say e)) ∙ simp the_lemmas

pub slots_behind-TAbort : (at : Setting) → slots_behind checked.TAbort at ≡ Some at.slots
slots_behind-TAbort at = ap (λ (s : Slots). s at) (slots_behind_out checked.TAbort) ∙ simp the_lemmas

-- ---- slots that grow

slice_get_more : {X : Type 0} (xs ys : List X) (k : ℕ) (x : X) → slice_get xs k ≡ Some x → slice_get (xs ++ ys) k ≡ Some x
slice_get_more [] ys k x h = absurd (cc)
slice_get_more (z ∷ zs) ys zero x h = h
slice_get_more (z ∷ zs) ys (suc k) x h = slice_get_more zs ys k x h

slice_get_last : {X : Type 0} (xs : List X) (x : X) → slice_get (xs ++ x ∷ []) (length xs) ≡ Some x
slice_get_last [] x = refl
slice_get_last (y ∷ ys) x = slice_get_last ys x

pub still_hold : (slots more : List (Option Sort)) (seen : List (ℕ × Param)) → AllByRecursion (Holds slots) seen → AllByRecursion (Holds (slots ++ more)) seen
still_hold slots more [] all = tt
still_hold slots more (l ∷ seen) all = (slice_get_more slots more l.0 (Some l.1.sort) all.0, still_hold slots more seen all.1)

one_more : (slots : List (Option Sort)) (seen : List (ℕ × Param)) (l : ℕ × Param) → AllByRecursion (Holds slots) seen → Holds slots l → AllByRecursion (Holds slots) (seen ++ l ∷ [])
one_more slots [] l all here = (here, tt)
one_more slots (m ∷ seen) l all here = (all.0, one_more slots seen l all.1 here)

length_replicate : {X : Type 0} (n : ℕ) (x : X) → length (replicate n x) ≡ n
length_replicate zero x = refl
length_replicate (suc n) x = ap suc (length_replicate n x)

-- ---- what a check leaves

-- the slots behind a statement or a body, as a check leaves them
pub record Settles (scope last : Scope) (slots : List (Option Sort)) (found : Option (List (Option Sort))) : Type 0 where
  pub after : List (Option Sort)
  pub typed : found ≡ Some after
  pub shows : Shows last after
  pub more : length slots ≤ length after
  pub same : (ss : List (Option Sort)) → setting_of last ss ≡ setting_of scope ss

-- what leaves the scope as it is
stays : (scope : Scope) (slots : List (Option Sort)) → Shows scope slots → (found : Option (List (Option Sort))) (so : Bool)
    → found ≡ keeps_slots so (setting_of scope slots) → so ≡ true → Settles scope scope slots found
stays scope slots shows found so is holds = record {
  after = slots;
  typed = is ∙ ap (λ b. where_so b (Some slots)) holds;
  shows = shows;
  more = omega arith;
  same = λ ss. refl;
}

-- the same of what was given
given_stays : (scope : Scope) (slots : List (Option Sort)) → Shows scope slots → (t : Stmt) (r : Stmt × Scope) (so : Bool)
    → (t, scope) ≡ r → slots_behind t (setting_of scope slots) ≡ keeps_slots so (setting_of scope slots) → so ≡ true → Settles scope r.1 slots (slots_behind r.0 (setting_of scope slots))
given_stays scope slots shows t r so same is holds =
    subst (λ (x : Stmt × Scope). Settles scope x.1 slots (slots_behind x.0 (setting_of scope slots))) same (stays scope slots shows (slots_behind t (setting_of scope slots)) so is holds)

module _ (scope : Scope) (slots : List (Option Sort)) (shows : Shows scope slots) where
  abbrev at : Setting
  at = setting_of scope slots

  -- what a statement's check gave
  abbrev Settled : Stmt × Scope → Type 0
  Settled r = Settles scope r.1 slots (slots_behind r.0 at)

  let_settles : (v : Var) (x : Rhs) (r : Stmt × Scope) → let_checked v x scope ≡ Ok r → Settled r
  unfolding let_checked
  let_settles (var.Local place) x r h = absurd (cc)
  let_settles (var.Own place) x r h = absurd (cc)
  let_settles (var.Name name) x r h =
      let fresh = not (is_seen scope name) in
      let low = nat_lt scope.next slot_limit in
      let p = bind-ok (needs (Duplicate name) fresh) (λ _. right x scope >>= (λ y. found (wrong scope) (starting y.sort) >>= (λ s. needs (wrong scope) low >> Ok (checked.Let (var.Local scope.next) y.rhs, with_local name s scope)))) r h in
      let q = bind-ok (right x scope) (λ y. found (wrong scope) (starting y.sort) >>= (λ s. needs (wrong scope) low >> Ok (checked.Let (var.Local scope.next) y.rhs, with_local name s scope))) r p.2 in
      let u = bind-ok (found (wrong scope) (starting q.0.sort)) (λ s. needs (wrong scope) low >> Ok (checked.Let (var.Local scope.next) q.0.rhs, with_local name s scope)) r q.2 in
      let w = bind-ok (needs (wrong scope) low) (λ _. Ok (checked.Let (var.Local scope.next) q.0.rhs, with_local name u.0 scope)) r u.2 in
      let same : (checked.Let (var.Local scope.next) q.0.rhs, with_local name u.0 scope) ≡ r = cc (w.2) in
      let after : List (Option Sort) = slots ++ Some u.0 ∷ [] in
      let place : (scope.next == length slots) ≡ true = ap (λ n. scope.next == n) shows.next ∙ grind (arith, nat_tests) in
      let starts : option_and_then starting (right_sort at q.0.rhs) ≡ Some u.0 = ap (option_and_then starting) (right_kept scope slots shows.seen x q.0 q.1) ∙ found-ok (wrong scope) (starting q.0.sort) u.0 u.1 in
      let there : slice_get after scope.next ≡ Some (Some u.0) = ap (slice_get after) (sym shows.next) ∙ slice_get_last slots (Some u.0) in
      subst Settled same
      (record {
        after = after;
        typed = slots_behind-Let (var.Local scope.next) q.0.rhs at ∙ ap (λ b. where_so b (option_map (λ s. slots ++ Some s ∷ []) (option_and_then starting (right_sort at q.0.rhs)))) place ∙ ap (option_map (λ s. slots ++ Some s ∷ [])) starts;
        shows = record {
          next = length-append slots (Some u.0 ∷ []) ∙ ap (λ n. n + 1) shows.next;
          seen = one_more after scope.seen (scope.next, record { name = name; sort = u.0 }) (still_hold slots (Some u.0 ∷ []) scope.seen shows.seen) there;
        };
        more = omega (arith, length-append slots (Some u.0 ∷ []));
        same = λ ss. refl;
      })

  -- what is set is there, and what is right for it
  assigned : (y : Right) → right_sort at y.rhs ≡ Some y.sort → (name : List ℕ) (m : Var × Sort) → meaning scope name ≡ Some m → fits scope.classes y.sort m.1 ≡ true → is_assigned m.0 y.rhs at ≡ true
  assigned y kept name m means = meaning_by scope slots shows.seen (λ n. fits scope.classes y.sort n.1 ≡ true → is_assigned n.0 y.rhs at ≡ true) local own name m means where
    is : (s : Sort) → fits scope.classes y.sort s ≡ true → is_right at s y.rhs ≡ true
    is s fit = ap (λ o. option_map_or (λ t. fits scope.classes t s) o false) kept ∙ fit

    local : (l : ℕ × Param) → Holds slots l → fits scope.classes y.sort l.1.sort ≡ true → is_assigned (var.Local l.0) y.rhs at ≡ true
    local l holds fit = ap (λ o. option_map_or (λ s. is_right at s y.rhs) (option_and_then (λ s. s) o) false) holds ∙ is l.1.sort fit

    own : (c : Class) (f : ℕ × Field) → scope.class ≡ Some c → slice_get c.fields f.0 ≡ Some f.1 → fits scope.classes y.sort f.1.sort ≡ true → is_assigned (var.Own f.0) y.rhs at ≡ true
    own c f class there fit =
        ap (λ (d : Option Class). option_map_or (λ (g : Field). is_right at g.sort y.rhs) (option_and_then (λ (e : Class). slice_get e.fields f.0) d) false) class
        ∙ ap (λ o. option_map_or (λ (g : Field). is_right at g.sort y.rhs) o false) there ∙ is f.1.sort fit

  set_settles : (v : Var) (x : Rhs) (r : Stmt × Scope) → set_checked v x scope ≡ Ok r → Settled r
  unfolding set_checked
  set_settles (var.Local place) x r h = absurd (cc)
  set_settles (var.Own place) x r h = absurd (cc)
  set_settles (var.Name name) x r h =
      let p = bind-ok (found (UnknownName name) (meaning scope name)) (λ m. right x scope >>= (λ y. needs (wrong scope) (fits scope.classes y.sort m.1) >> Ok (checked.Set m.0 y.rhs, scope))) r h in
      let q = bind-ok (right x scope) (λ y. needs (wrong scope) (fits scope.classes y.sort p.0.1) >> Ok (checked.Set p.0.0 y.rhs, scope)) r p.2 in
      let u = bind-ok (needs (wrong scope) (fits scope.classes q.0.sort p.0.1)) (λ _. Ok (checked.Set p.0.0 q.0.rhs, scope)) r q.2 in
      given_stays scope slots shows (checked.Set p.0.0 q.0.rhs) r (is_assigned p.0.0 q.0.rhs at) (cc (u.2)) (slots_behind-Set p.0.0 q.0.rhs at)
      (assigned q.0 (right_kept scope slots shows.seen x q.0 q.1) name p.0 (found-ok (UnknownName name) (meaning scope name) p.0 p.1) (needs-ok (wrong scope) (fits scope.classes q.0.sort p.0.1) u.0 u.1))

  do_settles : (x : Rhs) (r : Stmt × Scope) → right x scope >>= (λ y. Ok (checked.Do y.rhs, scope)) ≡ Ok r → Settled r
  do_settles x r h =
      let p = bind-ok (right x scope) (λ y. Ok (checked.Do y.rhs, scope)) r h in
      given_stays scope slots shows (checked.Do p.0.rhs) r (is_some (right_sort at p.0.rhs)) (cc (p.2)) (slots_behind-Do p.0.rhs at) (ap is_some (right_kept scope slots shows.seen x p.0 p.1))

  -- what a check of a statement that leaves the scope gave
  kept_parts : (check : Scope → Check Stmt) (r : Stmt × Scope) → keeps check scope ≡ Ok r → (t : Stmt) × (check scope ≡ Ok t) × ((t, scope) ≡ r)
  kept_parts check r h =
      let p = bind-ok (check scope) (λ s. Ok (s, scope)) r h in
      (p.0, p.1, cc (p.2))

  return_settles : (e : Option Expr) (r : Stmt × Scope) → keeps (return_checked e) scope ≡ Ok r → Settled r
  unfolding return_checked
  return_settles None r h =
      let p = kept_parts (return_checked None) r h in
      let q = bind-ok (needs (wrong scope) (is_void (Some scope.result))) (λ _. Ok (checked.Return None)) p.0 p.1 in
      let same : checked.Return None ≡ p.0 = cc (q.2) in
      given_stays scope slots shows (checked.Return None) r (is_void (Some scope.result)) (ap (λ t. (t, scope)) same ∙ p.2) (slots_behind-Return_none at) (needs-ok (wrong scope) (is_void (Some scope.result)) q.0 q.1)
  return_settles (Some e) r h =
      let p = kept_parts (return_checked (Some e)) r h in
      let q = bind-ok (fitting scope.result e scope) (λ v. Ok (checked.Return (Some v))) p.0 p.1 in
      let same : checked.Return (Some q.0) ≡ p.0 = cc (q.2) in
      given_stays scope slots shows (checked.Return (Some q.0)) r (is_fit at scope.result q.0) (ap (λ t. (t, scope)) same ∙ p.2) (slots_behind-Return_some q.0 at) (fitting_kept scope slots shows.seen scope.result e q.0 q.1)

  delete_settles : (e : Expr) (r : Stmt × Scope) → reference e scope >>= (λ t. Ok (checked.Delete t.expr, scope)) ≡ Ok r → Settled r
  delete_settles e r h =
      let p = bind-ok (reference e scope) (λ t. Ok (checked.Delete t.expr, scope)) r h in
      given_stays scope slots shows (checked.Delete p.0.expr) r (is_ref at p.0.expr) (cc (p.2)) (slots_behind-Delete p.0.expr at) (reference_is scope slots shows.seen e p.0 p.1)

  drop_settles : (e : Expr) (r : Stmt × Scope) → reference e scope >>= (λ t. Ok (checked.DropVersion t.expr, scope)) ≡ Ok r → Settled r
  drop_settles e r h =
      let p = bind-ok (reference e scope) (λ t. Ok (checked.DropVersion t.expr, scope)) r h in
      given_stays scope slots shows (checked.DropVersion p.0.expr) r (is_ref at p.0.expr) (cc (p.2)) (slots_behind-DropVersion p.0.expr at) (reference_is scope slots shows.seen e p.0 p.1)

  deactivate_settles : (e f : Expr) (r : Stmt × Scope) → keeps (deactivate_checked e f) scope ≡ Ok r → Settled r
  unfolding deactivate_checked
  deactivate_settles e f r h =
      let p = kept_parts (deactivate_checked e f) r h in
      let q = bind-ok (reference e scope) (λ t. fitting sort.Int f scope >>= (λ n. Ok (checked.Deactivate t.expr n))) p.0 p.1 in
      let u = bind-ok (fitting sort.Int f scope) (λ n. Ok (checked.Deactivate q.0.expr n)) p.0 q.2 in
      let same : checked.Deactivate q.0.expr u.0 ≡ p.0 = cc (u.2) in
      given_stays scope slots shows (checked.Deactivate q.0.expr u.0) r (is_ref at q.0.expr && is_fit at sort.Int u.0) (ap (λ t. (t, scope)) same ∙ p.2) (slots_behind-Deactivate q.0.expr u.0 at)
      (ap (λ b. b && is_fit at sort.Int u.0) (reference_is scope slots shows.seen e q.0 q.1) ∙ fitting_kept scope slots shows.seen sort.Int f u.0 u.1)

  show_settles : (x : Rhs) (r : Stmt × Scope) → keeps (show_checked x) scope ≡ Ok r → Settled r
  unfolding show_checked
  show_settles x r h =
      let p = kept_parts (show_checked x) r h in
      let q = bind-ok (right x scope) (λ y. needs (wrong scope) (not (is_void y.sort)) >> Ok (checked.Show y.rhs)) p.0 p.1 in
      let u = bind-ok (needs (wrong scope) (not (is_void q.0.sort))) (λ _. Ok (checked.Show q.0.rhs)) p.0 q.2 in
      let same : checked.Show q.0.rhs ≡ p.0 = cc (u.2) in
      given_stays scope slots shows (checked.Show q.0.rhs) r (option_map_or (λ s. not (is_void s)) (right_sort at q.0.rhs) false) (ap (λ t. (t, scope)) same ∙ p.2) (slots_behind-Show q.0.rhs at)
      (ap (λ o. option_map_or (λ s. not (is_void s)) o false) (right_kept scope slots shows.seen x q.0 q.1) ∙ needs-ok (wrong scope) (not (is_void q.0.sort)) u.0 u.1)

  say_settles : (e : Expr) (r : Stmt × Scope) → fitting sort.Text e scope >>= (λ t. Ok (checked.Say t, scope)) ≡ Ok r → Settled r
  say_settles e r h =
      let p = bind-ok (fitting sort.Text e scope) (λ t. Ok (checked.Say t, scope)) r h in
      given_stays scope slots shows (checked.Say p.0) r (is_fit at sort.Text p.0) (cc (p.2)) (slots_behind-Say p.0 at) (fitting_kept scope slots shows.seen sort.Text e p.0 p.1)

  abort_settles : (r : Stmt × Scope) → (checked.TAbort, scope) ≡ r → Settled r
  abort_settles r same = given_stays scope slots shows checked.TAbort r true same (slots_behind-TAbort at) refl

-- what an induction shows of a statement
abbrev KeepsAll : Stmt → Type 0
KeepsAll s = (scope : Scope) (slots : List (Option Sort)) → Shows scope slots → (r : Stmt × Scope) → checks s scope ≡ Ok r → Settles scope r.1 slots (slots_behind r.0 (setting_of scope slots))

abbrev Known : Type 0
Known = (s : Stmt) × KeepsAll s

abbrev stmt_of : Known → Stmt
stmt_of x = x.0

-- the statements of a body
body_settles : (ys : List Known) (scope : Scope) (slots : List (Option Sort)) → Shows scope slots → (r : List Stmt × Scope) → in_turn follow scope (map checks (map stmt_of ys)) ≡ Ok r
    → Settles scope r.1 slots (slots_through (map slots_behind r.0) (setting_of scope slots))
body_settles [] scope slots shows r h =
    let made : List Stmt × Scope = ([], scope) in
    let same : made ≡ r = cc in
    subst (λ (x : List Stmt × Scope). Settles scope x.1 slots (slots_through (map slots_behind x.0) (setting_of scope slots))) same
    (record { after = slots; typed = refl; shows = shows; more = omega arith; same = λ ss. refl })
body_settles (y ∷ ys) scope slots shows r h =
    let p = bind-ok (checks y.0 scope) (λ x. in_turn follow x.1 (map checks (map stmt_of ys)) >>= (λ z. Ok (x.0 ∷ z.0, z.1))) r h in
    let q = bind-ok (in_turn follow p.0.1 (map checks (map stmt_of ys))) (λ z. Ok (p.0.0 ∷ z.0, z.1)) r p.2 in
    let same : (p.0.0 ∷ q.0.0, q.0.1) ≡ r = cc (q.2) in
    let here = y.1 scope slots shows p.0 p.1 in
    let rest = body_settles ys p.0.1 here.after here.shows q.0 q.1 in
    subst (λ (x : List Stmt × Scope). Settles scope x.1 slots (slots_through (map slots_behind x.0) (setting_of scope slots))) same
    (record {
      after = rest.after;
      typed = ap (option_and_then (λ ss. slots_through (map slots_behind q.0.0) (with_slots ss (setting_of scope slots)))) here.typed ∙ ap (slots_through (map slots_behind q.0.0)) (sym (here.same here.after)) ∙ rest.typed;
      shows = rest.shows;
      more = omega (arith, here.more, rest.more);
      same = λ ss. rest.same ss ∙ here.same ss;
    })

inner_settles : (ys : List Known) (scope : Scope) (slots : List (Option Sort)) → Shows scope slots → (r : List Stmt × Scope) → inner (map checks (map stmt_of ys)) scope ≡ Ok r
    → Settles scope r.1 slots (inner_slots (map slots_behind r.0) (setting_of scope slots))
unfolding inner
inner_settles ys scope slots shows r h =
    let p = bind-ok (in_turn follow scope (map checks (map stmt_of ys))) (λ x. Ok (x.0, behind x.1 scope)) r h in
    let same : (p.0.0, behind p.0.1 scope) ≡ r = cc (p.2) in
    let all = body_settles ys scope slots shows p.0 p.1 in
    let more : List (Option Sort) = replicate (length all.after - length slots) None in
    let long : length (slots ++ more) ≡ length all.after = length-append slots more ∙ omega (arith, all.more, length_replicate {X = Option Sort} (length all.after - length slots) None) in
    subst (λ (x : List Stmt × Scope). Settles scope x.1 slots (inner_slots (map slots_behind x.0) (setting_of scope slots))) same
    (record {
      after = slots ++ more;
      typed = ap (option_map (without_inner (setting_of scope slots))) all.typed;
      shows = record { next = long ∙ all.shows.next; seen = still_hold slots more scope.seen shows.seen };
      more = omega (arith, long, all.more);
      same = λ ss. refl;
    })

if_settles : (test : Expr) (first second : List Known) (scope : Scope) (slots : List (Option Sort)) → Shows scope slots → (r : Stmt × Scope)
    → fitting sort.Bool test scope >>= (λ t. inner (map checks (map stmt_of first)) scope >>= (λ x. inner (map checks (map stmt_of second)) x.1 >>= (λ y. Ok (checked.If t x.0 y.0, y.1)))) ≡ Ok r
    → Settles scope r.1 slots (slots_behind r.0 (setting_of scope slots))
if_settles test first second scope slots shows r h =
    let p = bind-ok (fitting sort.Bool test scope) (λ t. inner (map checks (map stmt_of first)) scope >>= (λ x. inner (map checks (map stmt_of second)) x.1 >>= (λ y. Ok (checked.If t x.0 y.0, y.1)))) r h in
    let q = bind-ok (inner (map checks (map stmt_of first)) scope) (λ x. inner (map checks (map stmt_of second)) x.1 >>= (λ y. Ok (checked.If p.0 x.0 y.0, y.1))) r p.2 in
    let u = bind-ok (inner (map checks (map stmt_of second)) q.0.1) (λ y. Ok (checked.If p.0 q.0.0 y.0, y.1)) r q.2 in
    let same : (checked.If p.0 q.0.0 u.0.0, u.0.1) ≡ r = cc (u.2) in
    let one = inner_settles first scope slots shows q.0 q.1 in
    let two = inner_settles second q.0.1 one.after one.shows u.0 u.1 in
    subst (λ (x : Stmt × Scope). Settles scope x.1 slots (slots_behind x.0 (setting_of scope slots))) same
    (record {
      after = two.after;
      typed =
          slots_behind-If p.0 q.0.0 u.0.0 (setting_of scope slots)
          ∙ ap (λ b. where_so b (option_and_then (λ ss. inner_slots (map slots_behind u.0.0) (with_slots ss (setting_of scope slots))) (inner_slots (map slots_behind q.0.0) (setting_of scope slots)))) (fitting_kept scope slots shows.seen sort.Bool test p.0 p.1)
          ∙ ap (option_and_then (λ ss. inner_slots (map slots_behind u.0.0) (with_slots ss (setting_of scope slots)))) one.typed
          ∙ ap (inner_slots (map slots_behind u.0.0)) (sym (one.same one.after))
          ∙ two.typed;
      shows = two.shows;
      more = omega (arith, one.more, two.more);
      same = λ ss. two.same ss ∙ one.same ss;
    })

level_settles : (y : stmt.Stmt-F Known) (scope : Scope) (slots : List (Option Sort)) → Shows scope slots → (r : Stmt × Scope)
    → checking_of (map-Stmt Stmt Checking checks (map-Stmt Known Stmt stmt_of y)) scope ≡ Ok r → Settles scope r.1 slots (slots_behind r.0 (setting_of scope slots))
level_settles (stmt.Let v x) scope slots shows r h = let_settles scope slots shows v x r h
level_settles (stmt.Set v x) scope slots shows r h = set_settles scope slots shows v x r h
level_settles (stmt.Do x) scope slots shows r h = do_settles scope slots shows x r h
level_settles (stmt.If test first second) scope slots shows r h = if_settles test first second scope slots shows r h
level_settles (stmt.Return e) scope slots shows r h = return_settles scope slots shows e r h
level_settles (stmt.Delete e) scope slots shows r h = delete_settles scope slots shows e r h
level_settles (stmt.DropVersion e) scope slots shows r h = drop_settles scope slots shows e r h
level_settles (stmt.Deactivate e f) scope slots shows r h = deactivate_settles scope slots shows e f r h
level_settles (stmt.Show x) scope slots shows r h = show_settles scope slots shows x r h
level_settles (stmt.Say e) scope slots shows r h = say_settles scope slots shows e r h
level_settles stmt.TAbort scope slots shows r h = abort_settles scope slots shows r (cc)

checks-roll : (d : stmt.Stmt-F Stmt) → checks (roll-Stmt d) ≡ checking_of (map-Stmt Stmt Checking checks d)
unfolding checks
checks-roll d = fold-roll-Stmt Checking checking_of d

pub statement_settles : (s : Stmt) → KeepsAll s
statement_settles = ind-Stmt KeepsAll (λ x y q. subst (λ d. KeepsAll (roll-Stmt d)) q (here y)) where
  here : (y : stmt.Stmt-F Known) → KeepsAll (roll-Stmt (map-Stmt Known Stmt stmt_of y))
  here y scope slots shows r h =
      level_settles y scope slots shows r (sym (ap (λ (c : Checking). c scope) (checks-roll (map-Stmt Known Stmt stmt_of y))) ∙ h)

-- ---- a statement of a script

pub typed_statement : (classes : List Class) (literals : List (Ref × ℕ)) (s t : Stmt) → check_statement classes literals s ≡ Ok t → IsTypedStatement classes literals t
unfolding check_statement
typed_statement classes literals s t h =
    let scope = script_scope classes literals in
    let p = bind-ok (checks s scope) (λ r. Ok r.0) t h in
    let same : p.0.0 ≡ t = cc (p.2) in
    let all = statement_settles s scope [] (record { next = refl; seen = tt }) p.0 p.1 in
    ap (λ (x : Stmt). is_some (slots_behind x (script_setting classes literals))) (sym same) ∙ ap is_some all.typed

pub ruleset statements_keep = (typed_statement)
