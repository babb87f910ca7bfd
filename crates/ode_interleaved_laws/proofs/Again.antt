-- A session's statements are all done again on another world that agrees with this one on what they looked at, drew and queued.
use Rattle.std.proofs.Common.{◌≡◌, List, [], ◌∷◌, map, cond, ◌==◌, Option, None, Ok, refl, sym, ap, ◌∙◌, subst}
use Rattle.ode_footprint_laws.proofs.Among.{Within, among_looked, within_first, within_rest}
use Rattle.ode_footprint_laws.proofs.Depends.{Anything, Ends}
use Rattle.ode_footprint_laws.proofs.DependsReading.{agreed_live}
use Rattle.ode_footprint_laws.proofs.DependsStatements.{commands_in}
use Rattle.ode_footprint_laws.proofs.DrawnLaws.{Both, drawn}
use Rattle.ode_footprint_laws.proofs.FootprintLaws.{statements_grow}
use Rattle.ode_footprint_laws.proofs.Grows.{grown_self, grown_then, looks_grow}
use Rattle.ode_footprint_laws.specs.Agreeing.{Agree, AgreeAtFirst, IsAmong, reached_footprint}
use Rattle.ode_footprint_laws.specs.Fresh.{AreDrawn}
use Rattle.ode_footprint_laws.specs.Growing.{Grown}
use Rattle.ode_interleaved_laws.specs.Meeting.{AreDone, IsOpenOver, IsTaken}
use Rattle.ode_laws.specs.Numbered.{AreNumbered}
use Rattle.ode_machine.specs.Interleaving.{Open, Taken, literal_objects}
use Rattle.ode_machine.specs.Refusals.{checked_in, class_behind, classes_behind, classes_in}
use Rattle.ode_value.specs.Acts.{Outcome, Done, Aborted}
use Rattle.ode_value.specs.Answers.{◌>>=◌, checks}
use Rattle.ode_value.specs.Denoting.{object_of}
use Rattle.ode_value.specs.Executing.{commands}
use Rattle.ode_value.specs.Footprints.{Footprint, with_looks}
use Rattle.ode_value.specs.Language.{Language, ListTx, ListWorld}
use Rattle.ode_value.specs.Objects.{Histories, Starts}
use Rattle.ode_value.specs.Pasts.{lists}
use Rattle.ode_value.specs.Transactions.{Script, begun, looking}
use Rattle.ode_value.specs.Worlds.{Declared, Object}
use Rattle.ode_value.specs.declared.statement.Stmt.{Stmt}
use Rattle.ode_value.specs.declared.value.Ref.{Ref}

-- a transaction at its start, on a world whose numbers were drawn
pub begun_drawn : (w : ListWorld) → AreNumbered w.bones → AreDrawn (begun Script w)
begun_drawn w numbered = record { numbered = numbered; keys = (tt, tt) }

begun_agree : (f : Footprint) (v w : ListWorld) → AgreeAtFirst f Script v w → Agree f (begun Script v) (begun Script w)
begun_agree f v w first = record {
  first = first;
  now = first.worlds;
  origin = refl;
  touched = refl;
  deferred = refl;
  collected = refl;
  gathered = refl;
  text = refl;
  run = refl;
  keys = refl;
  footprint = refl;
}

module _ (l : Language) where
  -- ---- the literals denote the same, and the static rules take them so

  classes_same : (f : Footprint) (y x : ListTx) → Agree f y x → (rs : List Ref) → Within (map (λ (r : Ref). r.object) rs) f.looked → classes_behind y.now.bones rs ≡ classes_behind x.now.bones rs
  classes_same f y x a [] within = refl
  classes_same f y x a (r ∷ rs) within =
      ap (λ (o : Option Object). class_behind r (cond (r.object == 0) None o) >>= λ class. classes_behind y.now.bones rs >>= λ classes. Ok ((r, class) ∷ classes))
      (agreed_live f y x a r.object (within_first r.object (map (λ (q : Ref). q.object) rs) f.looked within))
      ∙ ap (λ rest. class_behind r (object_of x.now.bones r) >>= λ class. rest >>= λ classes. Ok ((r, class) ∷ classes))
      (classes_same f y x a rs (within_rest r.object (map (λ (q : Ref). q.object) rs) f.looked within))

  checked_same : (f : Footprint) (y x : ListTx) → Agree f y x → (s : Stmt) → Within (literal_objects l s) f.looked → checked_in l y.now.bones s ≡ checked_in l x.now.bones s
  checked_same f y x a s within =
      ap (λ behind. behind >>= λ classes. checks (l.checked (classes_in y.now.bones) classes s)) (classes_same f y x a (l.literals s) within)
      ∙ ap (λ cs. classes_behind x.now.bones (l.literals s) >>= λ classes. checks (l.checked (map (λ (c : Declared). c.class) cs) classes s)) a.now.classes

  -- ---- a statement that was taken

  -- what it looked at, drew and queued, its literals included
  abbrev IsStep : ListTx → Taken → ListTx → Type 0
  IsStep x t z = commands lists t.checked (looking t.literals x) ≡ Done tt z

  step_grows : (x z : ListTx) (t : Taken) → IsStep x t z → Grown (with_looks t.literals x.footprint) z.footprint
  step_grows x z t is =
      subst (λ (o : Outcome Histories Starts (Unit {0})). Grown (with_looks t.literals x.footprint) (reached_footprint o)) is (statements_grow t.checked (looking t.literals x))

  done_grows : (taken : List Taken) (x z : ListTx) → AreDone l x taken z → Grown x.footprint z.footprint
  done_grows [] x z done = subst (λ (w : ListTx). Grown x.footprint w.footprint) (sym done) (grown_self x.footprint)
  done_grows (t ∷ more) x z done =
      let y = done.0 in
      grown_then x.footprint y.footprint z.footprint
      (grown_then x.footprint (with_looks t.literals x.footprint) y.footprint (looks_grow t.literals x.footprint) (step_grows x y t done.2)) (done_grows more y z done.3)

  taken_again : (f : Footprint) (y x z : ListTx) (t : Taken) → Agree f y x → Grown z.footprint f → IsStep x t z → IsTaken l x t → IsTaken l y t
  taken_again f y x z t a within is taken = record {
    read = taken.read;
    text = taken.text;
    literals = taken.literals;
    checked = checked_same f y x a taken.read literals_within ∙ taken.checked;
  }
    where
      literals_within : Within (literal_objects l taken.read) f.looked
      literals_within id among =
          within.looked id ((step_grows x z t is).looked id (among_looked t.literals id x.footprint.looked (subst (λ ids. IsAmong id ids) (sym taken.literals) among)))

  -- ---- all of them

  -- what comes of the same statements in the other transaction
  pub record DoneAgain (f : Footprint) (y : ListTx) (taken : List Taken) (z : ListTx) : Type 0 where
    pub reached : ListTx
    pub done : AreDone l y taken reached
    pub both : Both f reached z

  pub done_again : (f : Footprint) (taken : List Taken) (y x z : ListTx) → Grown z.footprint f → Both f y x → AreDone l x taken z → DoneAgain f y taken z
  done_again f [] y x z within both done = record { reached = y; done = refl; both = subst (Both f y) (sym done) both }
  done_again f (t ∷ more) y x z within both done =
      let w = done.0 in
      let known : Grown w.footprint f = grown_then w.footprint z.footprint f (done_grows more w z done.3) within in
      by_end w (commands lists t.checked (looking t.literals y)) refl (taken_again f y x w t both.0 known done.2 done.1)
      (subst (Ends (drawn f).meets Anything (commands lists t.checked (looking t.literals y))) done.2
      ((commands_in (drawn f) t.checked).alike tt (looking t.literals y) (looking t.literals x) ((drawn f).meets.foot y x (with_looks t.literals) both)
      (subst (λ (o : Outcome Histories Starts (Unit {0})). Grown (reached_footprint o) f) (sym done.2) known)))
      (λ v again. done_again f more v w z within again done.3)
    where
      by_end : (w : ListTx) (p : Outcome Histories Starts (Unit {0})) → commands lists t.checked (looking t.literals y) ≡ p → IsTaken l y t → Ends (drawn f).meets Anything p (Done tt w)
          → ((v : ListTx) → Both f v w → DoneAgain f v more z) → DoneAgain f y (t ∷ more) z
      by_end w (Done r v) is taken ends rest =
          let it = rest v ends.2 in
          record { reached = it.reached; done = (v, taken, is ∙ ap (λ u. Done u v) ends.0, it.done); both = it.both }
      by_end w (Aborted r v) is taken ends rest = absurd ends

  -- a session that is open over a world is so over another one that agrees with it on what the session holds
  pub open_again : (w v : ListWorld) (o : Open) → AreNumbered w.bones → AreNumbered v.bones → AgreeAtFirst o.held Script v w → IsOpenOver l w o → IsOpenOver l v o
  open_again w v o numbered_w numbered_v agree is =
      let it = done_again o.held o.taken (begun Script v) (begun Script w) is.reached (subst (Grown is.reached.footprint) is.held (grown_self is.reached.footprint))
      (begun_agree o.held v w agree, begun_drawn v numbered_v, begun_drawn w numbered_w) is.done in
      record { reached = it.reached; done = it.done; held = it.both.0.footprint ∙ is.held; drawn = it.both.1 }
