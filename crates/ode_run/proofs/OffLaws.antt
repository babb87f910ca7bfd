-- What goes off or away, by whether its object is there.
use Rattle.std.proofs.Common.{◌≡◌, ℕ, Bool, true, false, cond, List, [], ◌∷◌, Result, Option, Some, None, refl, sym, ap, subst, ◌∙◌}
use Rattle.std.specs.Prelude.{◌&&◌, is_some, pos}
use Rattle.std.specs.List.{find}
use Rattle.ode_interpreter.specs.Seen.{Ends}
use Rattle.ode_interpreter.specs.declared.stop.Stop.{Stop}
use Rattle.ode_laws.specs.Alike.{NumberTx}
use Rattle.ode_overlay_laws.specs.Following.{on_live}
use Rattle.ode_value.specs.Acts.{Act, Outcome, Done, Aborted, found, go_on, reads}
use Rattle.ode_value.specs.Changes.{is_live}
use Rattle.ode_value.specs.Denoting.{object_at}
use Rattle.ode_value.specs.Making.{removes}
use Rattle.ode_value.specs.Objects.{Activation}
use Rattle.ode_value.specs.Pasts.{numbers}
use Rattle.ode_value.specs.Same.{same_value}
use Rattle.ode_value.specs.Statements.{is_on, switches_off_found, switches_off_numbered}
use Rattle.ode_value.specs.Tables.{Table}
use Rattle.ode_value.specs.Worlds.{Object}
use Rattle.ode_value.specs.declared.reason.Reason.TheVariants as reason
use Rattle.ode_value.specs.declared.value.Ref.{Ref}
use Rattle.ode_value.specs.declared.value.Value.{Value}
use Rattle.ode_value.specs.declared.value.Value.TheVariants as value

-- ---- an act on an object that is there

abbrev asked : ℕ → NumberTx → Bool → Outcome (Unit {0}) ℕ (Unit {0})
asked id y b = cond b (Done tt y) (Aborted (reason.NoObject id) y)

by_test : {R : Type 0} (act : Act (Unit {0}) ℕ R) (id : ℕ) (y : NumberTx) (b : Bool) → is_live id y ≡ b → on_live id act y ≡ go_on (asked id y b) (λ _. act)
by_test act id y b is = ap (λ t. go_on (asked id y t) (λ _. act)) is

-- where it is, the act alone
pub on_same : {R : Type 0} (act : Act (Unit {0}) ℕ R) (id : ℕ) (y y' : NumberTx) → reads (is_live id) y ≡ Done true y' → on_live id act y' ≡ act y
on_same act id y y' is =
    let e : is_live id y ≡ true = cc is in
    let same : y ≡ y' = cc is in
    ap (on_live id act) (sym same) ∙ by_test act id y true e

pub on_one : {R : Type 0} (act : Act (Unit {0}) ℕ R) (id : ℕ) (y y' z : NumberTx) (result : Result R Stop) → reads (is_live id) y ≡ Done true y' → Ends result z (on_live id act y') → Ends result z (act y)
on_one {R} act id y y' z result is ends = subst (λ (o : Outcome (Unit {0}) ℕ R). Ends result z o) (on_same act id y y' is) ends

pub on_none : {R : Type 0} (next : Object → Act (Unit {0}) ℕ R) (id : ℕ) (y y' : NumberTx) → reads (is_live id) y ≡ Done false y' → go_on (found (object_at y.now.bones id) y) next ≡ Aborted (reason.NoObject 0) y'
on_none {R} next id y y' is =
    let e : is_some (object_at y.now.bones id) ≡ false = cc is in
    let same : y ≡ y' = cc is in
    by_cases (object_at y.now.bones id) e ∙ ap (λ (q : NumberTx). Aborted (reason.NoObject 0) q) same
  where
    by_cases : (o : Option Object) → is_some o ≡ false → go_on (found o y) next ≡ Aborted (reason.NoObject 0) y
    by_cases None e = refl
    by_cases (Some o) e = absurd (cc e)

-- ---- removal

pub removed : (id : ℕ) (y y' z : NumberTx) (result : Result (Unit {0}) Stop) → reads (is_live id) y ≡ Done true y' → Ends result z (on_live id (removes id) y') → Ends result z (removes id y)
removed id y y' z result is ends = on_one (removes id) id y y' z result is ends

pub not_removed : (id : ℕ) (y y' : NumberTx) → reads (is_live id) y ≡ Done false y' → removes id y ≡ Aborted (reason.NoObject 0) y'
not_removed id y y' is = on_none _ id y y' is

-- ---- activations

pub went_off : (tables : ℕ → ℕ → Table) (r : Ref) (v : Value) (y y' z : NumberTx) (result : Result (Unit {0}) Stop) → reads (is_live r.object) y ≡ Done true y'
    → Ends result z (on_live r.object (switches_off_numbered (numbers tables) r v) y') → Ends result z (switches_off_numbered (numbers tables) r v y)
went_off tables r v y y' z result is ends = on_one (switches_off_numbered (numbers tables) r v) r.object y y' z result is ends

pub off_by_value : (tables : ℕ → ℕ → Table) (r : Ref) (v w : Value) (y z : NumberTx) (result : Result (Unit {0}) Stop) → v ≡ w → Ends result z (switches_off_numbered (numbers tables) r w y)
    → Ends result z (switches_off_numbered (numbers tables) r v y)
off_by_value tables r v w y z result same ends = subst (λ (u : Value). Ends result z (switches_off_numbered (numbers tables) r u y)) (sym same) ends

pub not_off : (tables : ℕ → ℕ → Table) (r : Ref) (v : Value) (y y' : NumberTx) → reads (is_live r.object) y ≡ Done false y' → switches_off_numbered (numbers tables) r v y ≡ Aborted (reason.NoObject 0) y'
unfolding switches_off_numbered
not_off tables r v y y' is = on_none _ r.object y y' is

none_on : (v : Value) → ((n : ℕ) → same_value v (value.Int (pos n)) ≡ false) → (acts : List Activation) → find (is_on v) acts ≡ None
none_on v other [] = refl
none_on v other (a ∷ acts) = ap (λ b. cond (a.on && b) (Some a) (find (is_on v) acts)) (other a.number) ∙ by_on a.on ∙ none_on v other acts where
  by_on : (b : Bool) → cond (b && false) (Some a) (find (is_on v) acts) ≡ find (is_on v) acts
  by_on true = refl
  by_on false = refl

pub none_went_off : (tables : ℕ → ℕ → Table) (r : Ref) (v : Value) (found_number : Option ℕ) (y y' : NumberTx) → (found_number ≡ None → (n : ℕ) → same_value v (value.Int (pos n)) ≡ false) → found_number ≡ None
    → reads (is_live r.object) y ≡ Done true y' → switches_off_numbered (numbers tables) r v y ≡ Done tt y'
unfolding switches_off_numbered
none_went_off tables r v found_number y y' other none is =
    let e : is_some (object_at y.now.bones r.object) ≡ true = cc is in
    let same : y ≡ y' = cc is in
    by_cases (object_at y.now.bones r.object) e ∙ ap (λ (q : NumberTx). Done tt q) same
  where
    by_cases : (o : Option Object) → is_some o ≡ true → go_on (found o y) (λ q. switches_off_found (numbers tables) r.object (find (is_on v) q.activations)) ≡ Done tt y
    by_cases None e = absurd (cc e)
    by_cases (Some o) e = ap (λ (a : Option Activation). switches_off_found (numbers tables) r.object a y) (none_on v (other none) o.activations)
