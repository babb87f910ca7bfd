-- Statements, bodies and levels of typed transactions.
use Rattle.std.proofs.Common.{◌≡◌, ℕ, zero, suc, Bool, true, false, cond, not, List, [], ◌∷◌, ◌++◌, map, length, replicate, ◌-◌, ◌==◌, Option, Some, None, refl, sym, ap, ◌∙◌, subst}
use Rattle.std.specs.Prelude.{◌&&◌, is_some, slice_get}
use Rattle.std.specs.List.{AllByRecursion}
use Rattle.std.specs.Option.{option_map, option_map_or, option_and_then}
use Rattle.std.proofs.lemmas.Bool.{and_parts, eqb-true}
use Rattle.ode_value.specs.declared.binding.Var.{Var}
use Rattle.ode_value.specs.declared.binding.Var.TheVariants as var
use Rattle.ode_value.specs.declared.class.Class.{Class}
use Rattle.ode_value.specs.declared.class.Field.{Field}
use Rattle.ode_value.specs.declared.statement.Expr.{Expr}
use Rattle.ode_value.specs.declared.statement.Rhs.{Rhs}
use Rattle.ode_value.specs.declared.statement.Sort.{Sort}
use Rattle.ode_value.specs.declared.statement.Sort.TheVariants as sort
use Rattle.ode_value.specs.declared.statement.Stmt.{Stmt, roll-Stmt, fold-roll-Stmt, map-Stmt, ind-Stmt}
use Rattle.ode_value.specs.declared.statement.Stmt.TheOpen as stmt
use Rattle.ode_value.specs.declared.value.Ref.{Ref}
use Rattle.ode_value.specs.declared.value.Value.{Value}
use Rattle.ode_value.specs.Acts.{Outcome, Done, Aborted, Act, Deed, ◌>>=◌, ◌>>◌, gives, nothing, prints, counts}
use Rattle.ode_value.specs.Classes.{null}
use Rattle.ode_value.specs.Evaluation.{Frame, no_frame, with_local, set_at}
use Rattle.ode_value.specs.Executing.{Flow, Goes, Gives, returned, Doing, actions_of, goes, follows, in_turn, sets, right, doing, counted_doing, execute, executes, level, deeper, outermost, first_actions, commands}
use Rattle.ode_value.specs.Expressions.{evaluates, holds, is_true, text_in}
use Rattle.ode_value.specs.Fitting.{FitsRef}
use Rattle.ode_value.specs.Limits.{depth_limit}
use Rattle.ode_value.specs.Making.{sets_own}
use Rattle.ode_value.specs.Pasts.{Past}
use Rattle.ode_value.specs.Statements.{Inner, deletes, drops_version, deactivates}
use Rattle.ode_value.specs.Texts.{value_line, said_line}
use Rattle.ode_value.specs.Transactions.{Tx, looking}
use Rattle.ode_value.specs.Worlds.{Bones}
use Rattle.ode_types.specs.Sorts.{fits as is_fitting, is_void, starting}
use Rattle.ode_sound_laws.specs.Growing.{Grows}
use Rattle.ode_sound_laws.specs.Typed.{IsTyped}
use Rattle.ode_sound_laws.specs.Fits.{all_alive, Fits, FitSlots, FitsLiteral, FitsFrame}
use Rattle.ode_types.specs.Kept.{Setting, with_slots, is_fit, is_ref, right_sort, is_right, Slots, without_inner, slots_through, inner_slots, let_slots, is_assigned, keeps_slots, slots_of, slots_behind, script_setting, IsTypedStatement}
use Rattle.ode_sound_laws.specs.Sound.{IsKnown, IsFieldSort, checked_classes}
use Rattle.ode_sound_laws.proofs.Basics.{if_some_at, then_some, map_some, so_some, same_some}
use Rattle.ode_sound_laws.proofs.FitLaws.{frame_follows}
use Rattle.ode_sound_laws.proofs.GrowLaws.{grows_itself}
use Rattle.ode_sound_laws.proofs.SlotLaws.{IsPrefix, prefix_itself, prefix_on, narrow, new_slots, set_slots, with_frame}
use Rattle.ode_sound_laws.proofs.WalkActs.{Any, Ends, ends_then, ends_done, prints_ends, counts_ends, field_ends, look_typed}
use Rattle.ode_sound_laws.proofs.WalkCalls.{DeeperFits}
use Rattle.ode_sound_laws.proofs.WalkPosting.{FitsResult, BodyFits, LevelFits}
use Rattle.ode_sound_laws.proofs.WalkRights.{deletes_ends, drops_version_ends, deactivates_ends, actions_fit, right_ends}
use Rattle.ode_sound_laws.proofs.WalkValues.{sort_fits_as, strictly, fitting_ends}

-- what follows a statement fits: the frame has the slots behind it, or the value that the body returns fits its result
abbrev pub FitsFlow : Setting → List (Option Sort) → Bones → Flow → Type 0
FitsFlow at slots b (Goes frame) = FitsFrame b (with_slots slots at) frame
FitsFlow at slots b (Gives v) = Fits b (Some at.result) v

-- a right side that fits a sort
right_as : (at : Setting) (s : Sort) (r : Rhs) → is_right at s r ≡ true → (t : Option Sort) × (right_sort at r ≡ Some t) × (is_fitting at.classes t s ≡ true)
right_as at s r is = by_sort (right_sort at r) is where
  by_sort : (m : Option (Option Sort)) → option_map_or (λ t. is_fitting at.classes t s) m false ≡ true → (t : Option Sort) × (m ≡ Some t) × (is_fitting at.classes t s ≡ true)
  by_sort (Some t) f = (t, refl, f)
  by_sort None f = absurd (cc)

map_or_true : {X : Type 0} (p : X → Bool) (m : Option X) → option_map_or p m false ≡ true → (x : X) × (m ≡ Some x) × (p x ≡ true)
map_or_true p (Some x) e = (x, refl, e)
map_or_true p None e = absurd (cc)

-- what a `let` starts with
started : (t : Option Sort) (s : Sort) → starting t ≡ Some s → t ≡ Some s
started t s e = by_void (is_void t) e where
  by_void : (c : Bool) → cond c None t ≡ Some s → t ≡ Some s
  by_void true f = absurd (cc)
  by_void false f = f

pub void_result : (b : Bones) (s : Sort) → is_void (Some s) ≡ true → Fits b (Some s) null
void_result b sort.Void is = tt
void_result b sort.Int is = absurd (cc)
void_result b sort.Bool is = absurd (cc)
void_result b sort.Text is = absurd (cc)
void_result b (sort.Reference name) is = absurd (cc)

some_is : {X : Type 0} (m : Option X) → is_some m ≡ true → (x : X) × (m ≡ Some x)
some_is (Some x) e = (x, refl)
some_is None e = absurd (cc)

fields_at : (fields : List Field) → AllByRecursion (λ (f : Field). IsFieldSort f.sort) fields → (place : ℕ) (f : Field) → slice_get fields place ≡ Some f → IsFieldSort f.sort
fields_at [] every place f e = absurd (cc)
fields_at (g ∷ fields) every zero f e = subst (λ (h : Field). IsFieldSort h.sort) (same_some g f e) every.0
fields_at (g ∷ fields) every (suc place) f e = fields_at fields every.1 place f e

module _ {O A : Type 0} where
  -- what an act gives, by the transaction that it reaches
  ends_so : {X : Type 0} (b : Bones) (mid post : Bones → X → Type 0) (o : Outcome O A X) → Ends b mid o → ((y : Tx O A) (r : X) → IsTyped y → Grows b y.now.bones → mid y.now.bones r → post y.now.bones r) → Ends b post o
  ends_so b mid post (Done r y) h so = (h.0, h.1, so y r h.0 h.1 h.2)
  ends_so b mid post (Aborted reason y) h so = h

  -- what a statement does where it is typed, and the slots behind it
  abbrev pub Does : Setting → List (Option Sort) → Doing O A → Type 0
  Does at slots doing = (frame : Frame) (x : Tx O A) → IsTyped x → FitsFrame x.now.bones at frame → Ends x.now.bones (FitsFlow at slots) (doing frame x)

  follows_ends : (at : Setting) (mid slots : List (Option Sort)) (rest : Doing O A) → Does (with_slots mid at) slots rest → (flow : Flow) (y : Tx O A) → IsTyped y → FitsFlow at mid y.now.bones flow → Ends y.now.bones (FitsFlow at slots) (follows rest flow y)
  follows_ends at mid slots rest does (Goes frame) y h fits = does frame y h fits
  follows_ends at mid slots rest does (Gives v) y h fits = (h, grows_itself y.now.bones, fits)

  -- the frame stays
  goes_ends : (at : Setting) (frame : Frame) (deed : Deed O A) (x : Tx O A) → FitsFrame x.now.bones at frame → Ends x.now.bones (Any (Unit {0})) (deed x) → Ends x.now.bones (FitsFlow at at.slots) (goes deed frame x)
  goes_ends at frame deed x fits ends =
      ends_then x.now.bones (Any (Unit {0})) (FitsFlow at at.slots) (deed x) ends (λ u. gives (Goes frame)) (λ u y h grows is. ends_done (FitsFlow at at.slots) (Goes frame) y h (frame_follows x.now.bones y.now.bones grows.follows at frame fits))

  counted : (at : Setting) (slots : List (Option Sort)) (doing : Doing O A) → Does at slots doing → Does at slots (λ frame. counts >> doing frame)
  counted at slots doing does frame x h fits =
      ends_then x.now.bones (Any (Unit {0})) (FitsFlow at slots) (counts x) (counts_ends x h) (λ u. doing frame) (λ u y typed grows is. does frame y typed (frame_follows x.now.bones y.now.bones grows.follows at frame fits))

  -- a statement that leaves the slots
  kept : (at : Setting) (slots : List (Option Sort)) (so : Bool) (doing : Doing O A) → keeps_slots so at ≡ Some slots → (so ≡ true → Does at at.slots doing) → IsPrefix at.slots slots × Does at slots doing
  kept at slots so doing e does =
      let it = so_some so (Some at.slots) slots e in
      let same : at.slots ≡ slots = same_some at.slots slots it.1 in
      (subst (IsPrefix at.slots) same (prefix_itself at.slots), subst (λ l. Does at l doing) same (does it.0))

  module _ (past : Past O A) (d : Option (Inner O A)) (deep : DeeperFits d) where
    -- a right side that fits a sort, and then what is done with it
    then_right : (at : Setting) (slots : List (Option Sort)) (r : Rhs) (t : Option Sort) → right_sort at r ≡ Some t → (next : Value → Frame → Act O A Flow)
        → ((v : Value) (frame : Frame) (y : Tx O A) → IsTyped y → FitsFrame y.now.bones at frame → Fits y.now.bones t v → Ends y.now.bones (FitsFlow at slots) (next v frame y)) → Does at slots (λ frame. right past d r frame >>= λ v. next v frame)
    then_right at slots r t typed next rest frame x h fits =
        ends_then x.now.bones (λ b v. Fits b t v) (FitsFlow at slots) (right past d r frame x) (right_ends past d deep at frame r t typed x h fits) (λ v. next v frame) (λ v y h1 grows is.
        rest v frame y h1 (frame_follows x.now.bones y.now.bones grows.follows at frame fits) is)

    -- what is set
    assigned : (at : Setting) (v : Var) (r : Rhs) → is_assigned v r at ≡ true → Does at at.slots (λ frame. right past d r frame >>= λ w. sets v w frame)
    assigned at (var.Local place) r is =
        let slot = map_or_true (λ s. is_right at s r) (option_and_then (λ s. s) (slice_get at.slots place)) is in
        let found = then_some (λ s. s) (slice_get at.slots place) slot.0 slot.1 in
        let t = right_as at slot.0 r slot.2 in
        then_right at at.slots r t.0 t.1 (λ w frame. sets (var.Local place) w frame) (λ w frame y h fits value.
        ends_done (FitsFlow at at.slots) (Goes (with_local place w frame)) y h
        (with_frame y.now.bones at at.slots at.slots frame (set_at place w frame.locals) fits
        (set_slots y.now.bones at.slots frame.locals place slot.0 w (found.1 ∙ ap Some found.2) (sort_fits_as y.now.bones h.sound h.now t.0 slot.0 (subst (λ cs. is_fitting cs t.0 slot.0 ≡ true) fits.classes t.2) w value) fits.slots)))
    assigned at (var.Own place) r is =
        let field = map_or_true (λ (f : Field). is_right at f.sort r) (option_and_then (λ (c : Class). slice_get c.fields place) at.class) is in
        let class = then_some (λ (c : Class). slice_get c.fields place) at.class field.0 field.1 in
        let t = right_as at field.0.sort r field.2 in
        then_right at at.slots r t.0 t.1 (λ w frame. sets (var.Own place) w frame) (λ w frame y h fits value.
        let known : IsKnown y.now.bones.classes class.0 = if_some_at (IsKnown y.now.bones.classes) at.class fits.known class.0 class.1 in
        let this : FitsRef (all_alive y.now.bones) class.0.name frame.this = if_some_at (λ (c : Class). FitsRef (all_alive y.now.bones) c.name frame.this) at.class fits.this class.0 class.1 in
        goes_ends at frame (sets_own frame.this place w) y fits
        (field_ends frame.this place w class.0 field.0 (looking (frame.this.object ∷ []) y) (look_typed (frame.this.object ∷ []) y h) known this class.2
        (strictly y.now.bones field.0.sort w (fields_at class.0.fields (h.sound.sorts class.0 known) place field.0 class.2) (sort_fits_as y.now.bones h.sound h.now t.0 field.0.sort (subst (λ cs. is_fitting cs t.0 field.0.sort ≡ true) fits.classes t.2) w value))))
    assigned at (var.Name name) r is = absurd (cc)

    -- a local that is made
    made : (at : Setting) (slots : List (Option Sort)) (v : Var) (r : Rhs) → let_slots v r at ≡ Some slots → IsPrefix at.slots slots × Does at slots (λ frame. right past d r frame >>= λ w. sets v w frame)
    made at slots (var.Local place) r e =
        let so = so_some (place == length at.slots) (option_map (λ s. at.slots ++ Some s ∷ []) (option_and_then starting (right_sort at r))) slots e in
        let s = map_some (λ (s : Sort). at.slots ++ Some s ∷ []) (option_and_then starting (right_sort at r)) slots so.1 in
        let t = then_some starting (right_sort at r) s.0 s.1 in
        let place_is : place ≡ length at.slots = eqb-true place (length at.slots) so.0 in (
          record { more = Some s.0 ∷ []; is = sym s.2 },
          subst (λ l. Does at l (λ frame. right past d r frame >>= λ w. sets (var.Local place) w frame)) s.2
              (then_right at (at.slots ++ Some s.0 ∷ []) r t.0 t.1 (λ w frame. sets (var.Local place) w frame) (λ w frame y h fits value.
              ends_done (FitsFlow at (at.slots ++ Some s.0 ∷ [])) (Goes (with_local place w frame)) y h
              (with_frame y.now.bones at at.slots (at.slots ++ Some s.0 ∷ []) frame (set_at place w frame.locals) fits
              (subst (λ n. FitSlots y.now.bones (at.slots ++ Some s.0 ∷ []) (set_at n w frame.locals)) (sym place_is)
              (new_slots y.now.bones at.slots frame.locals s.0 w (subst (λ u. Fits y.now.bones u w) (started t.0 s.0 t.2) value) fits.slots))))),
        )
    made at slots (var.Own place) r e = absurd (cc)
    made at slots (var.Name name) r e = absurd (cc)

    abbrev Claim : Stmt → Type 0
    Claim t = (at : Setting) (slots : List (Option Sort)) → slots_behind t at ≡ Some slots → IsPrefix at.slots slots × Does at slots (execute past d t)

    abbrev Level : stmt.Stmt-F Stmt → Type 0
    Level t = (at : Setting) (slots : List (Option Sort)) → slots_of (map-Stmt Stmt Slots slots_behind t) at ≡ Some slots → IsPrefix at.slots slots × Does at slots (doing past d (map-Stmt Stmt (Doing O A) (execute past d) t))

    via : (t : stmt.Stmt-F Stmt) → Level t → Claim (roll-Stmt t)
    unfolding slots_behind execute
    via t level at slots e =
        let it = level at slots (ap (λ f. f at) (sym (fold-roll-Stmt Slots slots_of t)) ∙ e) in (
          it.0,
          λ frame x h fits. subst (λ f. Ends x.now.bones (FitsFlow at slots) (f frame x)) (sym (fold-roll-Stmt (Doing O A) (counted_doing past d) t))
              (counted at slots (doing past d (map-Stmt Stmt (Doing O A) (execute past d) t)) it.1 frame x h fits),
        )

    turns : (ts : List ((t : Stmt) × Claim t)) (at : Setting) (slots : List (Option Sort)) → slots_through (map slots_behind (map (λ p. p.0) ts)) at ≡ Some slots
        → IsPrefix at.slots slots × Does at slots (in_turn (map (execute past d) (map (λ p. p.0) ts)))
    turns [] at slots e =
        let same : at.slots ≡ slots = same_some at.slots slots e in
        (subst (IsPrefix at.slots) same (prefix_itself at.slots), λ frame x h fits. ends_done (FitsFlow at slots) (Goes frame) x h (subst (λ l. FitsFrame x.now.bones (with_slots l at) frame) same fits))
    turns (t ∷ ts) at slots e =
        let mid = then_some (λ l. slots_through (map slots_behind (map (λ p. p.0) ts)) (with_slots l at)) (slots_behind t.0 at) slots e in
        let one = t.1 at mid.0 mid.1 in
        let two = turns ts (with_slots mid.0 at) slots mid.2 in (
          prefix_on at.slots mid.0 slots one.0 two.0,
          λ frame x h fits.
              ends_then x.now.bones (FitsFlow at mid.0) (FitsFlow at slots) (execute past d t.0 frame x) (one.1 frame x h fits) (follows (in_turn (map (execute past d) (map (λ p. p.0) ts)))) (λ flow y typed grows is.
              follows_ends at mid.0 slots (in_turn (map (execute past d) (map (λ p. p.0) ts))) two.1 flow y typed is),
        )

    -- a body inside, of which the locals aren't read behind it
    inner : (ts : List ((t : Stmt) × Claim t)) (at : Setting) (slots : List (Option Sort)) → inner_slots (map slots_behind (map (λ p. p.0) ts)) at ≡ Some slots
        → (n : ℕ) × (slots ≡ at.slots ++ replicate n None) × Does at slots (in_turn (map (execute past d) (map (λ p. p.0) ts)))
    inner ts at slots e =
        let it = map_some (without_inner at) (slots_through (map slots_behind (map (λ p. p.0) ts)) at) slots e in
        let body = turns ts at it.0 it.1 in (
          length it.0 - length at.slots,
          sym it.2,
          subst (λ l. Does at l (in_turn (map (execute past d) (map (λ p. p.0) ts)))) it.2 (λ frame x h fits.
              ends_so x.now.bones (FitsFlow at it.0) (FitsFlow at (without_inner at it.0)) (in_turn (map (execute past d) (map (λ p. p.0) ts)) frame x) (body.1 frame x h fits) (λ y flow typed grows is.
              narrowed at it.0 body.0 y flow is)),
        )
      where
        narrowed : (at : Setting) (m : List (Option Sort)) → IsPrefix at.slots m → (y : Tx O A) (flow : Flow) → FitsFlow at m y.now.bones flow → FitsFlow at (without_inner at m) y.now.bones flow
        narrowed at m prefix y (Goes frame) is = with_frame y.now.bones at m (without_inner at m) frame frame.locals is (narrow y.now.bones at.slots m (length m - length at.slots) frame.locals prefix is.slots)
        narrowed at m prefix y (Gives v) is = is

    -- one of two bodies, with the slots of both
    branches : (test : Expr) (first second : List ((t : Stmt) × Claim t)) → Level (stmt.If test (map (λ p. p.0) first) (map (λ p. p.0) second))
    branches test first second at slots e =
        let so = so_some (is_fit at sort.Bool test) (option_and_then (λ l. inner_slots (map slots_behind (map (λ p. p.0) second)) (with_slots l at)) (inner_slots (map slots_behind (map (λ p. p.0) first)) at)) slots e in
        let mid = then_some (λ l. inner_slots (map slots_behind (map (λ p. p.0) second)) (with_slots l at)) (inner_slots (map slots_behind (map (λ p. p.0) first)) at) slots so.1 in
        let one = inner first at mid.0 mid.1 in
        let two = inner second (with_slots mid.0 at) slots mid.2 in
        let prefix : IsPrefix at.slots slots = prefix_on at.slots mid.0 slots (record { more = replicate one.0 None; is = one.1 }) (record { more = replicate two.0 None; is = two.1 }) in (
          prefix,
          λ frame x h fits.
              ends_then x.now.bones (Any Bool) (FitsFlow at slots) (holds test frame x) (tested at frame so.0 x h fits) (λ t. chosen t frame) (λ t y typed grows is.
              by_test at mid.0 slots one two t frame y typed (frame_follows x.now.bones y.now.bones grows.follows at frame fits)),
        )
      where
        the_first : Doing O A
        the_first = in_turn (map (execute past d) (map (λ p. p.0) first))

        the_second : Doing O A
        the_second = in_turn (map (execute past d) (map (λ p. p.0) second))

        tested : (at : Setting) (frame : Frame) → is_fit at sort.Bool test ≡ true → (x : Tx O A) → IsTyped x → FitsFrame x.now.bones at frame → Ends x.now.bones (Any Bool) (holds test frame x)
        tested at frame so x h fits =
            ends_then x.now.bones (λ b v. Fits b (Some sort.Bool) v) (Any Bool) (evaluates test frame x) (fitting_ends at frame test sort.Bool so x h fits) (λ v. gives (is_true v)) (λ v y typed grows is. ends_done (Any Bool) (is_true v) y typed tt)

        chosen : Bool → Doing O A
        chosen t frame = cond t (the_first frame) (the_second frame)

        wider : (at : Setting) (mid slots : List (Option Sort)) (n : ℕ) → slots ≡ mid ++ replicate n None → (y : Tx O A) (flow : Flow) → FitsFlow at mid y.now.bones flow → FitsFlow at slots y.now.bones flow
        wider at mid slots n e y (Goes frame) is =
            with_frame y.now.bones at mid slots frame frame.locals is (subst (λ l. FitSlots y.now.bones l frame.locals) (sym e) (narrow y.now.bones mid mid n frame.locals (prefix_itself mid) is.slots))
        wider at mid slots n e y (Gives v) is = is

        by_test : (at : Setting) (mid slots : List (Option Sort)) → (n : ℕ) × (mid ≡ at.slots ++ replicate n None) × Does at mid the_first → (m : ℕ) × (slots ≡ mid ++ replicate m None) × Does (with_slots mid at) slots the_second
            → (t : Bool) → Does at slots (chosen t)
        by_test at mid slots one two true frame y h fits =
            ends_so y.now.bones (FitsFlow at mid) (FitsFlow at slots) (the_first frame y) (one.2 frame y h fits) (λ z flow typed grows is. wider at mid slots two.0 two.1 z flow is)
        by_test at mid slots one two false frame y h fits =
            two.2 frame y h (with_frame y.now.bones at at.slots mid frame frame.locals fits (subst (λ l. FitSlots y.now.bones l frame.locals) (sym one.1) (narrow y.now.bones at.slots at.slots one.0 frame.locals (prefix_itself at.slots) fits.slots)))

    parts : (t : stmt.Stmt-F ((u : Stmt) × Claim u)) → Level (map-Stmt ((u : Stmt) × Claim u) Stmt (λ p. p.0) t)
    parts (stmt.Let v r) at slots e = made at slots v r e
    parts (stmt.Set v r) at slots e = kept at slots (is_assigned v r at) (λ frame. right past d r frame >>= λ w. sets v w frame) e (λ so. assigned at v r so)
    parts (stmt.Do r) at slots e = kept at slots (is_some (right_sort at r)) (λ frame. right past d r frame >>= λ w. gives (Goes frame)) e (λ so.
        let t = some_is (right_sort at r) so in
        then_right at at.slots r t.0 t.1 (λ w frame. gives (Goes frame)) (λ w frame y h fits value. ends_done (FitsFlow at at.slots) (Goes frame) y h fits))
    parts (stmt.If test first second) at slots e = branches test first second at slots e
    parts (stmt.Return (Some x)) at slots e = kept at slots (is_fit at at.result x) (λ frame. evaluates x frame >>= λ v. gives (Gives v)) e (λ so frame y h fits.
        ends_then y.now.bones (λ b v. Fits b (Some at.result) v) (FitsFlow at at.slots) (evaluates x frame y) (fitting_ends at frame x at.result so y h fits) (λ v. gives (Gives v)) (λ v z typed grows is. ends_done (FitsFlow at at.slots) (Gives v) z typed is))
    parts (stmt.Return None) at slots e = kept at slots (is_void (Some at.result)) (λ frame. gives (Gives null)) e (λ so frame y h fits. ends_done (FitsFlow at at.slots) (Gives null) y h (void_result y.now.bones at.result so))
    parts (stmt.Delete x) at slots e = kept at slots (is_ref at x) (λ frame. goes (deletes past (actions_of d) x frame) frame) e (λ so frame y h fits.
        goes_ends at frame (deletes past (actions_of d) x frame) y fits (deletes_ends past (actions_of d) (actions_fit past d deep) at frame x so y h fits))
    parts (stmt.DropVersion x) at slots e = kept at slots (is_ref at x) (λ frame. goes (drops_version past (actions_of d) x frame) frame) e (λ so frame y h fits.
        goes_ends at frame (drops_version past (actions_of d) x frame) y fits (drops_version_ends past (actions_of d) (actions_fit past d deep) at frame x so y h fits))
    parts (stmt.Deactivate x z) at slots e = kept at slots (is_ref at x && is_fit at sort.Int z) (λ frame. goes (deactivates past (actions_of d) x z frame) frame) e (λ so frame y h fits.
        let both = and_parts (is_ref at x) (is_fit at sort.Int z) so in
        goes_ends at frame (deactivates past (actions_of d) x z frame) y fits (deactivates_ends past (actions_of d) (actions_fit past d deep) at frame x z both.0 both.1 y h fits))
    parts (stmt.Show r) at slots e = kept at slots (option_map_or (λ s. not (is_void s)) (right_sort at r) false) (λ frame. right past d r frame >>= λ w. goes (prints (value_line w)) frame) e (λ so.
        let t = map_or_true (λ s. not (is_void s)) (right_sort at r) so in
        then_right at at.slots r t.0 t.1 (λ w frame. goes (prints (value_line w)) frame) (λ w frame y h fits value. goes_ends at frame (prints (value_line w)) y fits (prints_ends (value_line w) y h)))
    parts (stmt.Say x) at slots e = kept at slots (is_fit at sort.Text x) (λ frame. evaluates x frame >>= λ v. goes (prints (said_line (text_in v))) frame) e (λ so frame y h fits.
        ends_then y.now.bones (λ b v. Fits b (Some sort.Text) v) (FitsFlow at at.slots) (evaluates x frame y) (fitting_ends at frame x sort.Text so y h fits) (λ v. goes (prints (said_line (text_in v))) frame) (λ v z typed grows is.
        goes_ends at frame (prints (said_line (text_in v))) z (frame_follows y.now.bones z.now.bones grows.follows at frame fits) (prints_ends (said_line (text_in v)) z typed)))
    parts stmt.TAbort at slots e =
        let same : at.slots ≡ slots = same_some at.slots slots e in
        (subst (IsPrefix at.slots) same (prefix_itself at.slots), λ frame y h fits. h)

    pub execute_ends : (t : Stmt) → Claim t
    execute_ends = ind-Stmt Claim (λ x y is. subst (λ t. Claim (roll-Stmt t)) is (via (map-Stmt ((u : Stmt) × Claim u) Stmt (λ p. p.0) y) (parts y)))

    claimed : List Stmt → List ((t : Stmt) × Claim t)
    claimed [] = []
    claimed (t ∷ ts) = (t, execute_ends t) ∷ claimed ts

    of_claimed : (ts : List Stmt) → map (λ p. p.0) (claimed ts) ≡ ts
    unfolding claimed
    of_claimed [] = refl
    of_claimed (t ∷ ts) = ap (λ us. t ∷ us) (of_claimed ts)

    body_ends : (body : List Stmt) (at : Setting) (slots : List (Option Sort)) → slots_through (map slots_behind body) at ≡ Some slots → Does at slots (in_turn (map (execute past d) body))
    body_ends body at slots e =
        subst (λ ts. Does at slots (in_turn (map (execute past d) ts))) (of_claimed body) (turns (claimed body) at slots (ap (λ ts. slots_through (map slots_behind ts) at) (of_claimed body) ∙ e)).1

    result_of : (at : Setting) (slots : List (Option Sort)) (b : Bones) (flow : Flow) → FitsFlow at slots b flow → FitsResult at.result b (returned flow)
    result_of at slots b (Goes frame) is = tt
    result_of at slots b (Gives v) is = is

    pub executes_ends : BodyFits (executes past d)
    unfolding executes
    executes_ends body at typed frame x h fits =
        let slots = some_is (slots_through (map slots_behind body) at) typed in
        ends_then x.now.bones (FitsFlow at slots.0) (FitsResult at.result) (in_turn (map (execute past d) body) frame x) (body_ends body at slots.0 slots.1 frame x h fits) (λ flow. gives (returned flow)) (λ flow y later grows is.
        ends_done (FitsResult at.result) (returned flow) y later (result_of at slots.0 y.now.bones flow is))

  -- ---- levels

  module _ (past : Past O A) where
    pub deeper_fits : (n : ℕ) → DeeperFits (deeper past n)
    unfolding deeper
    deeper_fits zero = tt
    deeper_fits (suc n) = record { body = executes_ends past (deeper past n) (deeper_fits n); actions = actions_fit past (deeper past n) (deeper_fits n) }

    pub outermost_fits : DeeperFits (outermost past)
    unfolding outermost
    outermost_fits = deeper_fits depth_limit

    pub first_fits : LevelFits (first_actions past)
    first_fits = actions_fit past (outermost past) outermost_fits

    -- a script's own statement
    pub commands_ends : (literals : List (Ref × ℕ)) (s : Stmt) (x : Tx O A) → IsTyped x → IsTypedStatement (checked_classes x.now.bones.classes) literals s → AllByRecursion (FitsLiteral x.now.bones) literals
        → Ends x.now.bones (Any (Unit {0})) (commands past s x)
    commands_ends literals s x h typed known =
        let at = script_setting (checked_classes x.now.bones.classes) literals in
        let slots = some_is (slots_behind s at) typed in
        let fits : FitsFrame x.now.bones at no_frame = record { classes = refl; known = tt; this = tt; slots = λ place t e. absurd (cc); literals = known } in
        ends_then x.now.bones (FitsFlow at slots.0) (Any (Unit {0})) (execute past (outermost past) s no_frame x) ((execute_ends past (outermost past) outermost_fits s at slots.0 slots.1).1 no_frame x h fits) (λ flow. nothing) (λ flow y later grows is.
        ends_done (Any (Unit {0})) tt y later tt)
