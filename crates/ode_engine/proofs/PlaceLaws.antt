-- Where a statement stands, and what it is answered there.
use Rattle.std.proofs.Common.{◌≡◌, ◌∙◌, ◌<◌, ◌≤◌, ℕ, List, Bool, true, false, Ok, Err, ap, arith, refl}
use Rattle.std.specs.Prelude.{◌&&◌, nat_lt, not}
use Rattle.std.proofs.lemmas.Bool.Decides.{nat_tests}
use Rattle.ode_engine.specs.Serving.{answer_to, answer_to_change}
use Rattle.ode_language.specs.Languages.{ode}
use Rattle.ode_machine.specs.Commands.{Step, carried, changes}
use Rattle.ode_machine.specs.Refusals.{is_lone, place_of}
use Rattle.ode_machine.specs.Sessions.{closed, opened}
use Rattle.ode_value.specs.Answers.{Answer, ◌>>◌, refuses}
use Rattle.ode_value.specs.Language.{ListTx, ListWorld}
use Rattle.ode_value.specs.Limits.{number_limit}
use Rattle.ode_value.specs.declared.change.Change.{Change}
use Rattle.ode_value.specs.declared.reason.Refusal.{Refusal}
use Rattle.ode_value.specs.declared.reason.Refusal.TheVariants as refusal
use Rattle.ode_value.specs.declared.statement.ClassDecl.{ClassDecl}
use Rattle.ode_value.specs.declared.statement.Statement.{Statement}
use Rattle.ode_value.specs.declared.statement.Statement.TheVariants as statement
use Rattle.ode_value.specs.declared.statement.Stmt.{Stmt}

-- ---- an answer by its place, and by whether a number is left

abbrev by_parts : Answer (Unit {0}) → Bool → Bool → Answer Step → Answer Step
by_parts place spent left next = (place >> refuses (spent && not left) refusal.NumbersSpent) >> next

pub misplaced_inside : (w : ListWorld) (t : ListTx) (s : Statement) (why : Refusal) → place_of s true ≡ Err why → answer_to ode (opened w t) s ≡ Err why
misplaced_inside w t s why is = ap (λ (p : Answer (Unit {0})). by_parts p (false && not (is_lone s)) (nat_lt w.bones.transaction number_limit) (carried ode (opened w t) s)) is

pub misplaced_outside : (w : ListWorld) (s : Statement) (why : Refusal) → place_of s false ≡ Err why → answer_to ode (closed w) s ≡ Err why
misplaced_outside w s why is = ap (λ (p : Answer (Unit {0})). by_parts p (true && not (is_lone s)) (nat_lt w.bones.transaction number_limit) (carried ode (closed w) s)) is

pub no_lone : (lone : Bool) → not lone ≡ true → lone ≡ false
no_lone false is = refl
no_lone true is = absurd (cc (is))

pub lone_empty : (s : Statement) → not (is_lone s) ≡ false → s ≡ statement.Empty
lone_empty statement.Empty is = refl
lone_empty statement.Begin is = absurd (cc (is))
lone_empty statement.Commit is = absurd (cc (is))
lone_empty statement.Abort is = absurd (cc (is))
lone_empty (statement.Class d) is = absurd (cc (is))
lone_empty (statement.Clock text) is = absurd (cc (is))
lone_empty (statement.Simple t) is = absurd (cc (is))

-- with no number left
pub spent_outside : (w : ListWorld) (s : Statement) → place_of s false ≡ Ok tt → is_lone s ≡ false → number_limit ≤ w.bones.transaction → answer_to ode (closed w) s ≡ Err refusal.NumbersSpent
spent_outside w s place lone none =
    let left : nat_lt w.bones.transaction number_limit ≡ false = grind (arith, nat_tests) in
    ap (λ (p : Answer (Unit {0})). by_parts p (true && not (is_lone s)) (nat_lt w.bones.transaction number_limit) (carried ode (closed w) s)) place
    ∙ ap (λ (b : Bool). by_parts (Ok tt) (true && not b) (nat_lt w.bones.transaction number_limit) (carried ode (closed w) s)) lone
    ∙ ap (λ (b : Bool). by_parts (Ok tt) true b (carried ode (closed w) s)) left

-- with one left
pub placed_outside : (w : ListWorld) (s : Statement) → place_of s false ≡ Ok tt → w.bones.transaction < number_limit → answer_to ode (closed w) s ≡ carried ode (closed w) s
placed_outside w s place less =
    let left : nat_lt w.bones.transaction number_limit ≡ true = grind (arith, nat_tests) in
    ap (λ (p : Answer (Unit {0})). by_parts p (true && not (is_lone s)) (nat_lt w.bones.transaction number_limit) (carried ode (closed w) s)) place
    ∙ ap (λ (b : Bool). by_parts (Ok tt) (true && not (is_lone s)) b (carried ode (closed w) s)) left
    ∙ none_spent (is_lone s) (carried ode (closed w) s)
  where
    none_spent : (b : Bool) (next : Answer Step) → by_parts (Ok tt) (true && not b) true next ≡ next
    none_spent true next = refl
    none_spent false next = refl

-- ---- a change of a class

abbrev change_by_parts : Bool → Answer Step → Answer Step
change_by_parts left next = (refuses false refusal.InTransaction >> refuses (not left) refusal.NumbersSpent) >> next

pub spent_change : (w : ListWorld) (c : Change) → number_limit ≤ w.bones.transaction → changes ode (closed w) c ≡ Err refusal.NumbersSpent
spent_change w c none =
    let left : nat_lt w.bones.transaction number_limit ≡ false = grind (arith, nat_tests) in
    ap (λ (b : Bool). change_by_parts b (answer_to_change ode w c)) left

pub placed_change_is : (w : ListWorld) (c : Change) → w.bones.transaction < number_limit → changes ode (closed w) c ≡ answer_to_change ode w c
placed_change_is w c less =
    let left : nat_lt w.bones.transaction number_limit ≡ true = grind (arith, nat_tests) in
    ap (λ (b : Bool). change_by_parts b (answer_to_change ode w c)) left

pub change_inside : (w : ListWorld) (t : ListTx) (c : Change) → changes ode (opened w t) c ≡ Err refusal.InTransaction
change_inside w t c = refl

-- ---- what is left of a match

pub place_ok : (place : Answer (Unit {0})) → ((why : Refusal) → place ≡ Err why → ⊥) → place ≡ Ok tt
place_ok (Ok tt) none = refl
place_ok (Err why) none = absurd (none why refl)

pub empty_inside : (s : Statement) → place_of s true ≡ Ok tt → (s ≡ statement.Commit → ⊥) → (s ≡ statement.Abort → ⊥) → ((t : Stmt) → s ≡ statement.Simple t → ⊥) → s ≡ statement.Empty
empty_inside statement.Empty place commit abort simple = refl
empty_inside statement.Begin place commit abort simple = absurd (cc (place))
empty_inside statement.Commit place commit abort simple = absurd (commit refl)
empty_inside statement.Abort place commit abort simple = absurd (abort refl)
empty_inside (statement.Class d) place commit abort simple = absurd (cc (place))
empty_inside (statement.Clock text) place commit abort simple = absurd (cc (place))
empty_inside (statement.Simple t) place commit abort simple = absurd (simple t refl)

pub empty_outside : (s : Statement) → place_of s false ≡ Ok tt → (s ≡ statement.Begin → ⊥) → ((d : ClassDecl) → s ≡ statement.Class d → ⊥) → ((text : List ℕ) → s ≡ statement.Clock text → ⊥) → ((t : Stmt) → s ≡ statement.Simple t → ⊥)
    → s ≡ statement.Empty
empty_outside statement.Empty place begins class clock simple = refl
empty_outside statement.Begin place begins class clock simple = absurd (begins refl)
empty_outside statement.Commit place begins class clock simple = absurd (cc (place))
empty_outside statement.Abort place begins class clock simple = absurd (cc (place))
empty_outside (statement.Class d) place begins class clock simple = absurd (class d refl)
empty_outside (statement.Clock text) place begins class clock simple = absurd (clock text refl)
empty_outside (statement.Simple t) place begins class clock simple = absurd (simple t refl)
