-- What a step comes to on its session's view, by the calls that it is made of.
use Rattle.std.proofs.Common.{◌≡◌, ◌∙◌, ◌<◌, ◌+◌, ◌++◌, ℕ, List, [], ◌∷◌, Bool, true, false, cond, drop, get_or, length, Option, Some, None, Ok, Err, ap, refl, subst, sym}
use Rattle.std.proofs.lemmas.List.{drop_more}
use Rattle.std.specs.Prelude.{is_some}
use Rattle.ode_holders.specs.Opens.{taken_all, taken_as}
use Rattle.ode_holders.specs.declared.opens.Taken as code_taken
use Rattle.ode_interleaved_laws.specs.Serial.{taken_of}
use Rattle.ode_interpreter.specs.declared.stop.Stop.TheVariants as stop
use Rattle.ode_language.specs.Languages.{ode}
use Rattle.ode_machine.specs.Interleaving.{Ends, Open, Taken, Trial, Turns, literal_objects, takes, trial_open, tries_answer, tries_checked, tries_simple}
use Rattle.ode_machine.specs.Refusals.{checked_in}
use Rattle.ode_overlay.specs.Layers.{Layer, looking as looking_over}
use Rattle.ode_transact.specs.Contexts.{EndsWhere, Ctx}
use Rattle.ode_steps.specs.Trying.{TakenAs, TriedAs, whole_deed}
use Rattle.ode_steps.specs.declared.trying.Tried.TheVariants as tried
use Rattle.ode_transact.specs.Working.{EndedAs}
use Rattle.ode_value.specs.Acts.{Aborted, Done, Outcome, each, go_on, reached}
use Rattle.ode_value.specs.Answers.{Answer}
use Rattle.ode_value.specs.Executing.{commands}
use Rattle.ode_value.specs.Language.{ListTx}
use Rattle.ode_value.specs.Objects.{Histories, Starts}
use Rattle.ode_value.specs.Pasts.{lists}
use Rattle.ode_value.specs.Transactions.{looking}
use Rattle.ode_value.specs.declared.reason.Reason.{Reason}
use Rattle.ode_value.specs.declared.reason.Refusal.TheVariants as refusal
use Rattle.ode_value.specs.declared.statement.Stmt.{Stmt}

abbrev Ended : Type 0
Ended = Outcome Histories Starts (Unit {0})

-- ---- looks

-- the next of these objects is looked at
pub look_next : {K : Type 0} (ctx : Ctx K) (layer : Layer) (ids : List ℕ) (i none : ℕ) → i < length ids → layer ≡ looking_over (get_or ids i none ∷ []) ctx.overlay
    → record ctx { overlay = looking_over (drop (i + 1) ids) layer } ≡ record ctx { overlay = looking_over (drop i ids) ctx.overlay }
look_next ctx layer ids i none inside is =
    ap (λ (o : Layer). record ctx { overlay = looking_over (drop (i + 1) ids) o }) is
    ∙ ap (λ (xs : List ℕ). record ctx { overlay = looking_over xs ctx.overlay }) (sym (drop_more ids i none inside))

-- none is left
pub look_done : {K : Type 0} (ctx whole : Ctx K) (ids : List ℕ) → record ctx { overlay = looking_over ids ctx.overlay } ≡ whole → ids ≡ [] → ctx ≡ whole
look_done ctx whole ids is none = ap (λ (xs : List ℕ). record ctx { overlay = looking_over xs ctx.overlay }) (sym none) ∙ is

-- a context that looked at these objects
pub looked_runs : {K : Type 0} (P : Ctx K → Type 0) (old new : Ctx K) (ids among : List ℕ) → among ≡ ids → new ≡ record old { overlay = looking_over among old.overlay } → P (record old { overlay = looking_over ids old.overlay }) → P new
looked_runs P old new ids among same is holds = subst P (sym (is ∙ ap (λ (xs : List ℕ). record old { overlay = looking_over xs old.overlay }) same)) holds

-- ---- statements that are done again

-- one that was done, or aborted
pub done_again : (P : ListTx → Type 0) (o : Ended) → EndsWhere (Ok tt) P o → TakenAs true P o
done_again P (Done answer x) ends = ends.1
done_again P (Aborted reason x) ends = absurd ends

pub fell_again : (P : ListTx → Type 0) (why : Reason) (o : Ended) → EndsWhere (Err (stop.Abort why)) P o → TakenAs false P o
fell_again P why (Done answer x) ends = absurd ends
fell_again P why (Aborted reason x) ends = ends.1

-- behind one that was done the others are left
abbrev LeadsTo : (ListTx → Type 0) → List Taken → ListTx → Type 0
LeadsTo P taken z = (x : ListTx) × P x × (reached (each takes taken x) ≡ z)

leads_on : (P : ListTx → Type 0) (more : List Taken) (z : ListTx) (o : Ended) → TakenAs true P o → reached (go_on o (λ _. each takes more)) ≡ z → LeadsTo P more z
leads_on P more z (Done answer x) is leads = (x, is, leads)
leads_on P more z (Aborted reason x) is leads = absurd is

stays_at : (P : ListTx → Type 0) (more : List Taken) (z : ListTx) (o : Ended) → TakenAs false P o → reached (go_on o (λ _. each takes more)) ≡ z → P z
stays_at P more z (Done answer x) is leads = absurd is
stays_at P more z (Aborted reason x) is leads = subst P leads is

-- those of what is left, by the first
left_by : (taken : List code_taken.Taken) (i : ℕ) (one : code_taken.Taken) (x z : ListTx) → i < length taken → one ≡ get_or taken i one → reached (each takes (taken_all (drop i taken)) x) ≡ z
    → reached (go_on (takes (taken_as one) x) (λ _. each takes (taken_all (drop (i + 1) taken)))) ≡ z
left_by taken i one x z inside at leads =
    let split : drop i taken ≡ one ∷ drop (i + 1) taken = drop_more taken i one inside ∙ ap (λ (t : code_taken.Taken). t ∷ drop (i + 1) taken) (sym at) in
    ap (λ (ts : List code_taken.Taken). reached (each takes (taken_all ts) x)) (sym split) ∙ leads

pub again_next : (P : ListTx → Type 0) (taken : List code_taken.Taken) (i : ℕ) (one : code_taken.Taken) (done : Bool) (x z : ListTx) → i < length taken → one ≡ get_or taken i one
    → reached (each takes (taken_all (drop i taken)) x) ≡ z → done ≡ true → TakenAs done P (takes (taken_as one) x) → LeadsTo P (taken_all (drop (i + 1) taken)) z
again_next P taken i one done x z inside at leads is told =
    leads_on P (taken_all (drop (i + 1) taken)) z (takes (taken_as one) x) (subst (λ (b : Bool). TakenAs b P (takes (taken_as one) x)) is told) (left_by taken i one x z inside at leads)

pub again_fell : (P : ListTx → Type 0) (taken : List code_taken.Taken) (i : ℕ) (one : code_taken.Taken) (done : Bool) (x z : ListTx) → i < length taken → one ≡ get_or taken i one
    → reached (each takes (taken_all (drop i taken)) x) ≡ z → done ≡ false → TakenAs done P (takes (taken_as one) x) → P z
again_fell P taken i one done x z inside at leads is told =
    stays_at P (taken_all (drop (i + 1) taken)) z (takes (taken_as one) x) (subst (λ (b : Bool). TakenAs b P (takes (taken_as one) x)) is told) (left_by taken i one x z inside at leads)

-- none is left
pub again_all : (P : ListTx → Type 0) (taken : List code_taken.Taken) (x z : ListTx) → P x → reached (each takes (taken_all taken) x) ≡ z → taken ≡ [] → P z
again_all P taken x z is leads none = subst P (ap (λ (ts : List code_taken.Taken). reached (each takes (taken_all ts) x)) (sym none) ∙ leads) is

-- ---- what was tried

module _ {K : Type 0} (before : List Taken) (runs : Ctx K → ListTx → Type 0) where
  -- a statement of an open session was done
  pub stays_open : (ctx : Ctx K) (taken : code_taken.Taken) (o : Ended) → EndsWhere (Ok tt) (runs ctx) o → TriedAs before runs (tried.Stays ctx taken) (trial_open (before ++ taken_as taken ∷ []) o)
  stays_open ctx taken (Done answer x) ends = (refl, ends.1)
  stays_open ctx taken (Aborted reason x) ends = absurd ends

  -- a transaction ended
  pub tried_ends : (ctx : Ctx K) (ending : Option Reason) (o : Ended) → EndedAs ending (runs ctx) o → TriedAs before runs (tried.Ends ctx ending) (Ends o)
  tried_ends ctx None (Done answer x) ends = ends
  tried_ends ctx None (Aborted reason x) ends = absurd ends
  tried_ends ctx (Some why) (Done answer x) ends = absurd ends
  tried_ends ctx (Some why) (Aborted reason x) ends = ends

-- a checked statement of an open session, or a whole transaction
pub tries_open : (own : Option Open) → is_some own ≡ true → (literals : List ℕ) (x : ListTx) (c : Stmt)
    → trial_open (taken_of own ++ record { literals = literals; checked = c } ∷ []) (commands lists c x) ≡ tries_checked ode own literals x c
tries_open None is literals x c = absurd (cc (is))
tries_open (Some o) is literals x c = refl

pub tries_whole : (own : Option Open) → is_some own ≡ false → (literals : List ℕ) (x : ListTx) (c : Stmt) → Ends (whole_deed c x) ≡ tries_checked ode own literals x c
tries_whole None is literals x c = refl
tries_whole (Some o) is literals x c = absurd (cc (is))

-- ---- a simple statement

-- by the static rules
abbrev tries_by : Option Open → Stmt → ListTx → Trial
tries_by own s x = tries_answer ode own (literal_objects ode s) (looking (literal_objects ode s) x) (checked_in ode x.now.bones s)

-- no number is left
pub tries_spent : (own : Option Open) (spent : Bool) (s : Stmt) (x : ListTx) → spent ≡ true → Turns refusal.NumbersSpent (looking (literal_objects ode s) x) ≡ tries_simple ode own spent s x
tries_spent own spent s x is = ap (λ (b : Bool). cond b (Turns refusal.NumbersSpent (looking (literal_objects ode s) x)) (tries_by own s x)) (sym is)

-- it was checked, or is refused
pub tries_rules : (own : Option Open) (spent : Bool) (s : Stmt) (x : ListTx) (answer : Answer Stmt) → spent ≡ false → checked_in ode x.now.bones s ≡ answer
    → tries_answer ode own (literal_objects ode s) (looking (literal_objects ode s) x) answer ≡ tries_simple ode own spent s x
tries_rules own spent s x answer is checked =
    ap (λ (a : Answer Stmt). tries_answer ode own (literal_objects ode s) (looking (literal_objects ode s) x) a) (sym checked)
    ∙ ap (λ (b : Bool). cond b (Turns refusal.NumbersSpent (looking (literal_objects ode s) x)) (tries_by own s x)) (sym is)
