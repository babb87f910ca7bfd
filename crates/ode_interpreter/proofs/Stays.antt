-- Touched objects stay touched, whatever an act does; and what the acts that touch an object leave.
use Rattle.std.proofs.Common.{◌≡◌, ℕ, zero, suc, Bool, true, false, cond, List, [], ◌∷◌, ◌++◌, ◌||◌, map, ◌==◌, Option, Some, None, refl, sym, ◌∙◌, subst}
use Rattle.std.specs.Prelude.{is_some, slice_get, slice_index_or}
use Rattle.std.specs.List.{All, list_any}
use Rattle.std.proofs.lemmas.Bool.{eq-eqb}
use Rattle.std.proofs.lemmas.List.Folds.{list_any-append, list_any_at}
use Rattle.ode_laws.proofs.Alone.{Keeps, alone}
use Rattle.ode_laws.proofs.SideActs.{Alike, Ends, class_alike, done_alike, hard_alike, lives_alike, prints_alike, stands_alike, then_alike}
use Rattle.ode_laws.proofs.SidePosting.{derives_alike, listed_alike, posts_alike, spares_alike, switches_on_alike}
use Rattle.ode_laws.proofs.SideStatements.{actions_alike, executes_alike, levels_alike}
use Rattle.ode_laws.proofs.Sides.{Sides, turned}
use Rattle.ode_value.specs.declared.class.Class.{Class}
use Rattle.ode_value.specs.declared.event.Kind.{Kind}
use Rattle.ode_value.specs.declared.event.Kind.TheVariants.{TBegin}
use Rattle.ode_value.specs.declared.key.Key.{Key}
use Rattle.ode_value.specs.declared.member.Method.{Method}
use Rattle.ode_value.specs.declared.statement.Expr.{Expr}
use Rattle.ode_value.specs.declared.statement.Stmt.{Stmt}
use Rattle.ode_value.specs.declared.value.Ref.{Ref}
use Rattle.ode_value.specs.declared.value.Value.{Value}
use Rattle.ode_value.specs.Acts.{Act, Outcome, Done, Aborted, go_on, ◌>>=◌, ◌>>◌, does, each, finds, found, gives, looks, nothing, prints, reads, sees, turns, when}
use Rattle.ode_value.specs.Changes.{activation_keys, alters_object, changes, class_of, draws_none, draws_number, is_live, lives, object}
use Rattle.ode_value.specs.Classes.{Trigger, initial_triggers, method_named}
use Rattle.ode_value.specs.Constraints.{tests_hard}
use Rattle.ode_value.specs.Denoting.{denotes, object_at}
use Rattle.ode_value.specs.Evaluation.{Frame}
use Rattle.ode_value.specs.Executing.{actions_of, deeper, executes}
use Rattle.ode_value.specs.Expressions.{evaluates_sets, stands}
use Rattle.ode_value.specs.Firings.{Place, arises, with_point, new_point, fired, object_after}
use Rattle.ode_value.specs.Keys.{object_key, version_key}
use Rattle.ode_value.specs.Lengths.{version_size}
use Rattle.ode_value.specs.Making.{stamp_now, derives, makes, spares, switches_on, with_new}
use Rattle.ode_value.specs.Pasts.{Past, numbers}
use Rattle.ode_value.specs.Posting.{collects, dropped_text, has_room, is_listed, is_touched, joins, posts, touches, with_entry}
use Rattle.ode_value.specs.Settling.{arises_last, posts_last, posts_last_listed, says}
use Rattle.ode_value.specs.Statements.{activates_initial, first_value, makes_named}
use Rattle.ode_value.specs.Tables.{Table}
use Rattle.ode_value.specs.Texts.{new_line}
use Rattle.ode_value.specs.Transactions.{Firing, Tx, looking, queueing, touching}
use Rattle.ode_value.specs.Worlds.{Declared, Object, class_named}
use Rattle.ode_interpreter.proofs.Fronts.{found_method}
use Rattle.ode_interpreter.proofs.Touches.{touch_is}
use Rattle.ode_interpreter.specs.Seen.{NumberTx}
use Rattle.ode_interpreter.specs.Touching.{joins_first}

-- ---- lists of touched objects

or_left : (a b : Bool) → a ≡ true → (a || b) ≡ true
or_left true b h = refl
or_left false b h = absurd (cc)

or_right : (a b : Bool) → b ≡ true → (a || b) ≡ true
or_right true b h = refl
or_right false b h = h

is_self : (id : ℕ) → (id == id) ≡ true
is_self id = eq-eqb id id refl

module _ (id : ℕ) where
  abbrev among : List ℕ → Bool
  among ids = list_any (λ n. n == id) ids

  still_among : (other : ℕ) (ids : List ℕ) → among ids ≡ true → among (ids ++ other ∷ []) ≡ true
  still_among other ids h = list_any-append (λ n. n == id) ids (other ∷ []) ∙ or_left (among ids) (among (other ∷ [])) h

  last_among : (ids : List ℕ) → among (ids ++ id ∷ []) ≡ true
  last_among ids = list_any-append (λ n. n == id) ids (id ∷ []) ∙ or_right (among ids) (among (id ∷ [])) (or_left (id == id) false (is_self id))

  -- what stands at a place of a list is among its members
  pub at_among : (ids : List ℕ) (at : ℕ) → slice_get ids at ≡ Some id → among ids ≡ true
  at_among [] zero h = absurd (cc)
  at_among [] (suc at) h = absurd (cc)
  at_among (n ∷ ns) zero h = let same : n ≡ id = cc in or_left (n == id) (among ns) (eq-eqb n id same)
  at_among (n ∷ ns) (suc at) h = or_right (n == id) (among ns) (at_among ns at h)

-- each member of a list is among its members
among_all : (ids : List ℕ) → All (λ id. among id ids ≡ true) ids
among_all ids k d less = list_any_at (λ n. n == slice_index_or ids k d) ids k d less (is_self (slice_index_or ids k d))

-- so is each touched object, and the one that was touched at a place
pub all_touched : (ids : List ℕ) (x y : NumberTx) → reads (λ z. z.touched) x ≡ Done ids y → All (λ id. is_touched id y ≡ true) ids
all_touched ids x y is = let same : ids ≡ y.touched = cc in subst (λ us. All (λ id. among id us ≡ true) ids) same (among_all ids)

pub at_touched : (at id : ℕ) (found : Option ℕ) (x y : NumberTx) → reads (λ z. slice_get z.touched at) x ≡ Done found y → found ≡ Some id → is_touched id y ≡ true
at_touched at id found x y is some = let there : slice_get y.touched at ≡ Some id = cc in at_among id y.touched at there

-- what holds of all touched objects where they were read
pub of_touched : (Q : List ℕ → NumberTx → Type 0) (ids us : List ℕ) (x y : NumberTx) → reads (λ z. z.touched) x ≡ Done ids y → us ≡ ids → Q us y → Q x.touched x
of_touched Q ids us x y is same h =
    let listed : x.touched ≡ us = cc in
    let there : x ≡ y = cc in
    subst (λ vs. Q vs x) (sym listed) (subst (Q us) (sym there) h)

-- whether a reference denotes a version is read alone
pub denotes_stays : (id : ℕ) (r : Ref) (still : Bool) (x y : NumberTx) → sees (λ b. is_some (denotes b r)) x ≡ Done still y → is_touched id x ≡ true → is_touched id y ≡ true
denotes_stays id r still x y is h = let same : x ≡ y = cc in subst (λ z. is_touched id z ≡ true) same h

-- ---- what an act leads to, where it is done

abbrev Leads : {O A X : Type 0} → (X → Tx O A → Type 0) → Outcome O A X → Type 0
Leads P (Done r x) = P r x
Leads P (Aborted why x) = Unit {0}

leads_on : {O A X Y : Type 0} (P : X → Tx O A → Type 0) (Q : Y → Tx O A → Type 0) (o : Outcome O A X) (next : X → Act O A Y)
    → Leads P o → ((r : X) (x : Tx O A) → P r x → Leads Q (next r x)) → Leads Q (go_on o next)
leads_on P Q (Done r x) next h rest = rest r x h
leads_on P Q (Aborted why x) next h rest = tt

abbrev Any : {O A X : Type 0} → X → Tx O A → Type 0
Any r x = Unit {0}

any : {O A X : Type 0} (o : Outcome O A X) → Leads Any o
any (Done r x) = tt
any (Aborted why x) = tt

led : {O A X : Type 0} (P : X → Tx O A → Type 0) (o : Outcome O A X) (r : X) (x : Tx O A) → o ≡ Done r x → Leads P o → P r x
led P o r x is h = subst (Leads P) is h

-- ---- touched objects

module _ {O A : Type 0} (past : Past O A) (id : ℕ) where
  abbrev IsTouched : Tx O A → Type 0
  IsTouched x = is_touched id x ≡ true

  touched_keeps : Keeps past (λ n x. IsTouched x)
  touched_keeps = record {
    less = λ n x h. h;
    statement = λ n x h more. h;
    foot = λ n x change h. h;
    line = λ n x line h fits. h;
    keys = λ n x keys h fits. h;
    touch = λ n x other h. still_among id other x.touched h;
    defer = λ n x f h more. h;
    collect = λ n x independent f h room. h;
    set = λ n x r v place value h is small. h;
    derive = λ n x r v o h is there more small. h;
    drop = λ n x r v o h is there more. h;
    remove = λ n x other h. h;
    off = λ n x other number h. h;
    new = λ n x class fields h left small. h;
    active = λ n x other t args h left short. h;
    point = λ n x other p o firings h there. h;
  }

  abbrev side : List Declared → Sides O A O A
  side cs = alone past (λ n x. IsTouched x) touched_keeps cs

  -- it is touched behind an act that is done, whatever the answer
  abbrev Still : {X : Type 0} → Outcome O A X → Type 0
  Still o = Leads (λ r x. IsTouched x) o

  still_by : {X : Type 0} (cs : List Declared) (m : ℕ) (o : Outcome O A X) → Ends (side cs) m o o → Still o
  still_by cs m (Done r x) h = h.1.2
  still_by cs m (Aborted why x) h = tt

  still : {X : Type 0} (n m : ℕ) (a : Act O A X) → ((cs : List Declared) → Alike (side cs) n m a a) → (x : Tx O A) → IsTouched x → Still (a x)
  still n m a alike x h = let cs = x.now.bones.classes in still_by cs m (a x) (alike cs x x (refl, refl, h))

  stays : {X : Type 0} (n m : ℕ) (a : Act O A X) → ((cs : List Declared) → Alike (side cs) n m a a) → (r : X) (x y : Tx O A) → a x ≡ Done r y → IsTouched x → IsTouched y
  stays n m a alike r x y is h = led (λ _ z. IsTouched z) (a x) r y is (still n m a alike x h)

  -- a point and its firings
  posts_still : (n : ℕ) (on : ℕ) (kind : Kind) (args : List Value) (x : Tx O A) → IsTouched x → Still (posts past (actions_of (deeper past n)) on kind args x)
  posts_still n on kind args =
      still 0 0 (posts past (actions_of (deeper past n)) on kind args) (λ cs.
      posts_alike (side cs) 0 (actions_of (deeper past n)) (actions_of (deeper past n)) (actions_alike (side cs) (deeper past n) (deeper past n) (levels_alike (side cs) n)) on kind args)

  pub post_stays : (n : ℕ) (on : ℕ) (kind : Kind) (args : List Value) (x y : Tx O A) → posts past (actions_of (deeper past n)) on kind args x ≡ Done tt y → IsTouched x → IsTouched y
  post_stays n on kind args x y is h = led (λ _ z. IsTouched z) (posts past (actions_of (deeper past n)) on kind args x) tt y is (posts_still n on kind args x h)

  -- a body
  pub body_stays : (n : ℕ) (body : List Stmt) (frame : Frame) (v : Option Value) (x y : Tx O A) → executes past (deeper past n) body frame x ≡ Done v y → IsTouched x → IsTouched y
  body_stays n body frame v x y =
      stays 0 0 (executes past (deeper past n) body frame) (λ cs. executes_alike (side cs) (deeper past n) (deeper past n) (levels_alike (side cs) n) 0 body frame) v x y

  -- what reads the transaction alone
  stand_stays_by : (r : Ref) (x y : Tx O A) → stands r x ≡ Done tt y → IsTouched x → IsTouched y
  stand_stays_by r x y = stays 0 0 (stands r) (λ cs. stands_alike (side cs) 0 r) tt x y

  live_stays_by : (on : ℕ) (x y : Tx O A) → lives on x ≡ Done tt y → IsTouched x → IsTouched y
  live_stays_by on x y = stays 0 0 (lives on) (λ cs. lives_alike (side cs) 0 on) tt x y

  class_stays_by : (on class : ℕ) (x y : Tx O A) → class_of on x ≡ Done class y → IsTouched x → IsTouched y
  class_stays_by on class x y = stays 0 0 (class_of on) (λ cs. class_alike (side cs) 0 on) class x y

  method_stays_by : (on : ℕ) (name : List ℕ) (m : Method) (x y : Tx O A) → found_method on name x ≡ Done m y → IsTouched x → IsTouched y
  method_stays_by on name m x y is h =
      led (λ _ z. IsTouched z) (found_method on name x) m y is
      (leads_on (λ _ z. IsTouched z) (λ _ z. IsTouched z) (lives on x) (λ _. class_of on >>= finding) (still 0 0 (lives on) (λ cs. lives_alike (side cs) 0 on) x h) (λ _ z there.
      leads_on (λ _ z. IsTouched z) (λ _ z. IsTouched z) (class_of on z) finding (still 0 0 (class_of on) (λ cs. class_alike (side cs) 0 on) z there) (λ class w so.
      found_still (method_named w.now.bones.classes class name) w so))) where
        finding : ℕ → Act O A Method
        finding class = finds (λ b. method_named b.classes class name)

        found_still : (o : Option Method) (w : Tx O A) → IsTouched w → Leads (λ _ z. IsTouched z) (found o w)
        found_still None w so = tt
        found_still (Some c) w so = so

  listed_stays_by : (on : ℕ) (kind : Kind) (listed : Bool) (x y : Tx O A) → is_listed on kind x ≡ Done listed y → IsTouched x → IsTouched y
  listed_stays_by on kind listed x y = stays 0 0 (is_listed on kind) (λ cs. listed_alike (side cs) 0 on kind) listed x y

  hard_stays_by : (r : Ref) (x y : Tx O A) → tests_hard r x ≡ Done tt y → IsTouched x → IsTouched y
  hard_stays_by r x y = stays 0 0 (tests_hard r) (λ cs. hard_alike (side cs) 0 r) tt x y

  spare_stays_by : (r v : Ref) (x y : Tx O A) → spares r x ≡ Done v y → IsTouched x → IsTouched y
  spare_stays_by r v x y = stays 0 0 (spares r) (λ cs. spares_alike (side cs) 0 r) v x y

  -- a new version
  derive_stays_by : (r v : Ref) (x y : Tx O A) → derives r x ≡ Done v y → IsTouched x → IsTouched y
  derive_stays_by r v x y = stays 0 0 (derives r) (λ cs. derives_alike (side cs) 0 r) v x y

  -- an initial activation
  initial_still : (on : ℕ) (t : Trigger) (x : Tx O A) → IsTouched x → Still (activates_initial past on t x)
  initial_still on t =
      still 0 0 (activates_initial past on t) (λ cs.
      then_alike (side cs) 0 0 0 (switches_on past on t []) (switches_on past on t []) (switches_on_alike (side cs) 0 on t [] tt) (λ _. nothing) (λ _. nothing) (λ _. done_alike (side cs) 0 tt))

  each_still : {X : Type 0} (a : X → Act O A (Unit {0})) → ((r : X) (x : Tx O A) → IsTouched x → Still (a r x)) → (rs : List X) (x : Tx O A) → IsTouched x → Still (each a rs x)
  each_still a are [] x h = h
  each_still a are (r ∷ rs) x h = leads_on (λ _ z. IsTouched z) (λ _ z. IsTouched z) (a r x) (λ _. each a rs) (are r x h) (λ _ z there. each_still a are rs z there)

  -- a line
  pub line_still : (line : List ℕ) (x : Tx O A) → IsTouched x → Still (prints line x)
  line_still line = still 0 0 (prints line) (λ cs. prints_alike (side cs) 0 line)

  -- a point of a settling
  module _ (place : Place O A) where
    collect_still : (f : Firing) (x : Tx O A) → IsTouched x → Still (collects says true f x)
    collect_still f x h = by_room (has_room x) where
      by_room : (room : Bool) → Still (cond room (does (with_entry true f)) (says (dropped_text f)) (queueing x))
      by_room true = h
      by_room false = h

    arises_still : (on : ℕ) (kind : Kind) (x : Tx O A) → IsTouched x → Still (arises past place on kind [] x)
    arises_still on kind x h = by_found (object_at x.now.bones on) where
      pointing : Object → Act O A (List Firing)
      pointing o =
          turns (with_point past place (new_point kind [] o) o) >> (reads (λ z. fired past place o z.now) >>= λ firings. alters_object on (object_after firings) >> gives firings)

      by_found : (a : Option Object) → Still (go_on (found a x) pointing)
      by_found (Some o) = h
      by_found None = tt

    last_still : (on : ℕ) (kind : Kind) (x : Tx O A) → IsTouched x → Still (arises_last past place kind on x)
    last_still on kind x h =
        leads_on (λ _ z. IsTouched z) (λ _ z. IsTouched z) (arises past place on kind [] x) (each (collects says true)) (arises_still on kind x h)
        (λ firings z there. each_still (collects says true) collect_still firings z there)

    when_still : (b : Bool) (a : Act O A (Unit {0})) → ((x : Tx O A) → IsTouched x → Still (a x)) → (x : Tx O A) → IsTouched x → Still (when b a x)
    when_still true a are x h = are x h
    when_still false a are x h = h

    pub last_stays : (on : ℕ) (kind : Kind) (x y : Tx O A) → posts_last past place kind on x ≡ Done tt y → IsTouched x → IsTouched y
    unfolding posts_last
    last_stays on kind x y is h =
        let seen = looking (on ∷ []) x in
        led (λ _ z. IsTouched z) (posts_last past place kind on x) tt y is
        (when_still (is_live on seen) (posts_last_listed past place kind on) (λ v there.
        leads_on (λ _ z. IsTouched z) (λ _ z. IsTouched z) (is_listed on kind v) (λ listed. when listed (arises_last past place kind on))
        (still 0 0 (is_listed on kind) (λ cs. listed_alike (side cs) 0 on kind) v there)
        (λ listed z so. when_still listed (arises_last past place kind on) (last_still on kind) z so)) seen h)

-- ---- those that ask for no table

no_tables : ℕ → ℕ → Table
no_tables class trigger = record { states = 0; symbols = 0; next = []; yes = [] }

pub stand_stays : (id : ℕ) (r : Ref) (x y : NumberTx) → stands r x ≡ Done tt y → is_touched id x ≡ true → is_touched id y ≡ true
stand_stays id = stand_stays_by (numbers no_tables) id

pub live_stays : (id on : ℕ) (x y : NumberTx) → lives on x ≡ Done tt y → is_touched id x ≡ true → is_touched id y ≡ true
live_stays id = live_stays_by (numbers no_tables) id

pub class_stays : (id on class : ℕ) (x y : NumberTx) → class_of on x ≡ Done class y → is_touched id x ≡ true → is_touched id y ≡ true
class_stays id = class_stays_by (numbers no_tables) id

pub method_stays : (id on : ℕ) (name : List ℕ) (m : Method) (x y : NumberTx) → found_method on name x ≡ Done m y → is_touched id x ≡ true → is_touched id y ≡ true
method_stays id = method_stays_by (numbers no_tables) id

pub hard_stays : (id : ℕ) (r : Ref) (x y : NumberTx) → tests_hard r x ≡ Done tt y → is_touched id x ≡ true → is_touched id y ≡ true
hard_stays id = hard_stays_by (numbers no_tables) id

pub spare_stays : (id : ℕ) (r v : Ref) (x y : NumberTx) → spares r x ≡ Done v y → is_touched id x ≡ true → is_touched id y ≡ true
spare_stays id = spare_stays_by (numbers no_tables) id

pub derive_stays : (id : ℕ) (r v : Ref) (x y : NumberTx) → derives r x ≡ Done v y → is_touched id x ≡ true → is_touched id y ≡ true
derive_stays id = derive_stays_by (numbers no_tables) id

-- ---- the acts that touch an object

module _ {O A : Type 0} (id : ℕ) where
  joins_to : (x : Tx O A) → Leads (λ _ y. is_touched id y ≡ true) (joins id x)
  joins_to x =
      leads_on Any (λ _ y. is_touched id y ≡ true) (object id x) (λ o. changes (activation_keys o) 0 draws_none >> does (touching id)) (any (object id x)) (λ o z _.
      leads_on Any (λ _ y. is_touched id y ≡ true) (changes (activation_keys o) 0 draws_none z) (λ _. does (touching id)) (any (changes (activation_keys o) 0 draws_none z)) (λ _ w _. last_among id w.touched))

  abbrev joining : Act O A Bool
  joining = reads (is_touched id) >>= λ touched. cond touched (gives false) (joins id >> gives true)

  first_to : (x : Tx O A) → Leads (λ _ y. is_touched id y ≡ true) (joins_first id x)
  first_to x =
      leads_on Any (λ _ y. is_touched id y ≡ true) (lives id x) (λ _. joining) (any (lives id x)) (λ _ z _. by_touched z (is_touched id z) refl) where
        by_touched : (z : Tx O A) (b : Bool) → is_touched id z ≡ b → Leads (λ _ y. is_touched id y ≡ true) (cond b (gives false) (joins id >> gives true) z)
        by_touched z true is = is
        by_touched z false is = leads_on (λ _ y. is_touched id y ≡ true) (λ _ y. is_touched id y ≡ true) (joins id z) (λ _. gives true) (joins_to z) (λ _ w h. h)

  -- an object that joins, or is among the touched ones
  pub joins_touch : (b : Bool) (x y : Tx O A) → joins_first id x ≡ Done b y → is_touched id y ≡ true
  joins_touch b x y is = led (λ _ z. is_touched id z ≡ true) (joins_first id x) b y is (first_to x)

module _ {O A : Type 0} (past : Past O A) where
  -- one that was touched
  pub touches_touch : (n id : ℕ) (x y : Tx O A) → touches past (actions_of (deeper past n)) id x ≡ Done tt y → is_touched id y ≡ true
  touches_touch n id x y is =
      led (λ _ z. is_touched id z ≡ true) (go_on (joins_first id x) behind) tt y (sym (touch_is past (actions_of (deeper past n)) id x) ∙ is)
      (leads_on (λ _ z. is_touched id z ≡ true) (λ _ z. is_touched id z ≡ true) (joins_first id x) behind (first_to id x) by_first) where
        behind : Bool → Act O A (Unit {0})
        behind first = when first (posts past (actions_of (deeper past n)) id TBegin [])

        by_first : (first : Bool) (z : Tx O A) → is_touched id z ≡ true → Leads (λ _ y. is_touched id y ≡ true) (behind first z)
        by_first true z h = posts_still past id n id TBegin [] z h
        by_first false z h = h

  made : (class : ℕ) (fields : List Value) (x : Tx O A) → Leads (λ id y. is_touched id y ≡ true) (makes past class fields x)
  made class fields x =
      let id = x.now.bones.next in
      let keys : List Key = object_key id ∷ version_key id 1 ∷ [] in
      let size : ℕ = version_size (stamp_now x.now.bones) fields in
      leads_on Any (λ (i : ℕ) y. is_touched i y ≡ true) (changes keys size draws_number x) put (any (changes keys size draws_number x)) (λ _ z _.
      leads_on (λ _ y. is_touched id y ≡ true) (λ (i : ℕ) y. is_touched i y ≡ true) (prints (new_line id) (looking (id ∷ []) (touching id (turned (with_new past class fields) z)))) (λ _. gives id)
      (line_still past id (new_line id) (looking (id ∷ []) (touching id (turned (with_new past class fields) z))) (last_among id z.touched)) (λ _ w h. h)) where
        put : Unit {0} → Act O A ℕ
        put _ = let id = x.now.bones.next in turns (with_new past class fields) >> (does (touching id) >> (looks (id ∷ []) >> (prints (new_line id) >> gives id)))

  initials_still : (id class : ℕ) (x : Tx O A) → is_touched id x ≡ true
      → Leads (λ (i : ℕ) y. is_touched i y ≡ true) ((sees (λ b. initial_triggers b.classes class) >>= λ triggers. each (activates_initial past id) triggers >> gives id) x)
  initials_still id class x h =
      leads_on (λ _ y. is_touched id y ≡ true) (λ (i : ℕ) y. is_touched i y ≡ true) (each (activates_initial past id) (initial_triggers x.now.bones.classes class) x) (λ _. gives id)
      (each_still past id (activates_initial past id) (initial_still past id id) (initial_triggers x.now.bones.classes class) x h) (λ _ w there. there)

  -- an object that was made
  pub makes_touch : (name : List ℕ) (sets : List (List ℕ × Expr)) (frame : Frame) (id : ℕ) (x y : Tx O A) → makes_named past name sets frame x ≡ Done id y → is_touched id y ≡ true
  unfolding makes_named
  makes_touch name sets frame id x y is =
      led (λ (i : ℕ) z. is_touched i z ≡ true) (makes_named past name sets frame x) id y is
      (leads_on Any (λ (i : ℕ) z. is_touched i z ≡ true) (evaluates_sets sets frame x) making (any (evaluates_sets sets frame x)) (λ given z _.
      leads_on Any (λ (i : ℕ) w. is_touched i w ≡ true) (finds (λ b. class_named name b.classes) z) (of_class given) (any (finds (λ b. class_named name b.classes) z)) (λ c v _.
      leads_on (λ (i : ℕ) w. is_touched i w ≡ true) (λ (i : ℕ) w. is_touched i w ≡ true) (makes past c.number (map (first_value given) c.fields) v) (starting c)
      (made c.number (map (first_value given) c.fields) v) (λ i w h. initials_still i c.number w h)))) where
        starting : Class → ℕ → Act O A ℕ
        starting c i = sees (λ b. initial_triggers b.classes c.number) >>= λ triggers. each (activates_initial past i) triggers >> gives i

        of_class : List (List ℕ × Value) → Class → Act O A ℕ
        of_class given c = makes past c.number (map (first_value given) c.fields) >>= starting c

        making : List (List ℕ × Value) → Act O A ℕ
        making given = finds (λ b. class_named name b.classes) >>= of_class given
