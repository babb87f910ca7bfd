-- Calls and the statements that touch objects, in typed transactions.
use Rattle.std.proofs.Common.{◌≡◌, ℕ, zero, suc, Bool, true, false, cond, List, [], ◌∷◌, ◌==◌, Option, Some, None, Result, Ok, Err, refl, sym, ap, ◌∙◌, subst}
use Rattle.std.specs.Prelude.{is_some}
use Rattle.std.specs.List.{AllByRecursion, AllZip}
use Rattle.std.specs.Option.{IfSome, unwrap_or}
use Rattle.std.specs.Str.{bytes_eq}
use Rattle.ode_value.specs.declared.binding.Param.{Param}
use Rattle.ode_value.specs.declared.class.Class.{Class}
use Rattle.ode_value.specs.declared.event.Kind.TheVariants.{Before, After}
use Rattle.ode_value.specs.declared.member.Constraint.{Constraint}
use Rattle.ode_value.specs.declared.member.Method.{Method}
use Rattle.ode_value.specs.declared.reason.Reason.TheVariants as reason
use Rattle.ode_value.specs.declared.statement.Sort.{Sort}
use Rattle.ode_value.specs.declared.arithmetic.Fault.{Fault}
use Rattle.ode_value.specs.declared.value.Ref.{Ref}
use Rattle.ode_value.specs.declared.value.Value.{Value}
use Rattle.ode_value.specs.declared.value.Value.TheVariants as value
use Rattle.ode_value.specs.Acts.{Done, Aborted, Act, Deed, go_on, ◌>>=◌, ◌>>◌, gives, each, sees, found, finds, valued}
use Rattle.ode_value.specs.Changes.{object, class_of, is_live, lives, there}
use Rattle.ode_value.specs.Classes as machine
use Rattle.ode_value.specs.Classes.{is_a, method_named, default_of}
use Rattle.ode_value.specs.Constraints.{judges, tests, tests_hard, tests_version, tests_soft}
use Rattle.ode_value.specs.Denoting.{object_at, object_of, denotes, denoted}
use Rattle.ode_value.specs.Expressions.{stands}
use Rattle.ode_value.specs.Fitting.{FitsObject}
use Rattle.ode_value.specs.Masks.{plain}
use Rattle.ode_value.specs.Pasts.{Past}
use Rattle.ode_value.specs.Posting.{Body, posts, touches}
use Rattle.ode_value.specs.Statements.{Inner, calls_after, calls_behind, calls_inside}
use Rattle.ode_value.specs.Transactions.{Tx, looking}
use Rattle.ode_value.specs.Versions.{Version}
use Rattle.ode_value.specs.Worlds as worlds
use Rattle.ode_value.specs.Worlds.{Declared, Object, Bones}
use Rattle.ode_types.specs.Families as families
use Rattle.ode_types.specs.Families.{line_of}
use Rattle.ode_laws.proofs.Rows.{at_numbered}
use Rattle.ode_sound_laws.specs.Growing.{Grows}
use Rattle.ode_sound_laws.specs.Typed.{IsTyped}
use Rattle.ode_sound_laws.specs.Fits.{alive, all_alive, Fits, FitSlots, FitsFrame, AreFit}
use Rattle.ode_types.specs.Kept.{member_setting, held}
use Rattle.ode_sound_laws.specs.Sound.{IsKnown, IsTypedIn, Redefines, checked_classes}
use Rattle.ode_sound_laws.proofs.Basics.{if_some_at, same_some, found_same}
use Rattle.ode_sound_laws.proofs.FitLaws.{alive_of, fits_follows}
use Rattle.ode_sound_laws.proofs.GrowLaws.{grows_itself, grows_on}
use Rattle.ode_sound_laws.proofs.WalkActs.{Any, Ends, ends_then, ends_done, when_ends, each_ends, look_typed}
use Rattle.ode_sound_laws.proofs.WalkMaking.{reference_fits}
use Rattle.ode_sound_laws.proofs.WalkPosting.{FitsResult, BodyFits, LevelFits, posts_ends, touches_ends}
use Rattle.ode_sound_laws.proofs.WalkValues.{default_fits, IsAt, at_later, FitArgs, args_later, stands_ends}

-- the class of a name, in the machine's words and in those of the checks
pub named_class : (name : List ℕ) (cs : List Declared) → worlds.class_named name cs ≡ families.class_named (checked_classes cs) name
named_class name [] = refl
named_class name (d ∷ cs) = ap (λ rest. cond (bytes_eq d.class.name name) (Some d.class) rest) (named_class name cs)

-- the object of a class behind a reference
pub above : (class : List ℕ) (b : Bones) (r : Ref) → IsAt class b r → (o : Object) → object_at b r.object ≡ Some o → is_a b.classes o.class class ≡ true
above class b r h o there =
    let fits : FitsObject (all_alive b) class r (alive o) = if_some_at (FitsObject (all_alive b) class r) (object_of (all_alive b) r) h.fits.object (alive o) (alive_of b r o h.some (at_numbered b r.object o there)) in
    fits.fits

-- a reference fits each class from which its object inherits
class_ref : (b : Bones) (name class : List ℕ) (r : Ref) (o : Object) → object_at b r.object ≡ Some o → IsAt name b r → is_a b.classes o.class class ≡ true → IfSome (object_of (all_alive b) r) (FitsObject (all_alive b) class r)
class_ref b name class r o there h is =
    let old : FitsObject (all_alive b) name r (alive o) = if_some_at (FitsObject (all_alive b) name r) (object_of (all_alive b) r) h.fits.object (alive o) (alive_of b r o h.some (at_numbered b r.object o there)) in
    reference_fits b class r o (at_numbered b r.object o there) (record { fits = is; version = old.version })

-- arguments stand in the slots of parameters of the same sorts
params_slots : (b : Bones) (params others : List Param) (args : List Value) → AllZip (λ (p q : Param). q.sort ≡ p.sort) params others → FitArgs params b args → FitSlots b (held others) args
params_slots b [] [] args same given place s e = absurd (cc)
params_slots b [] (q ∷ qs) args same given place s e = absurd same
params_slots b (p ∷ ps) [] args same given place s e = absurd same
params_slots b (p ∷ ps) (q ∷ qs) [] same given place s e = absurd given
params_slots b (p ∷ ps) (q ∷ qs) (v ∷ vs) same given zero s e =
    let sort_of : q.sort ≡ s = same_some q.sort s (same_some (Some q.sort) (Some s) e) in
    subst (λ t. Fits b (Some t) v) (sym same.0 ∙ sort_of) given.0
params_slots b (p ∷ ps) (q ∷ qs) (v ∷ vs) same given (suc place) s e = params_slots b ps qs vs same.1 given.1 place s e

-- ---- tests of constraints change nothing

-- nothing is asked of the members
all_none : (X : Type 0) (b : Bones) (xs : List X) → AllByRecursion (Any X b) xs
all_none X b [] = tt
all_none X b (x ∷ xs) = (tt, all_none X b xs)

module _ {O A : Type 0} where
  judges_ends : (c : Constraint) (v : Result Value Fault) (x : Tx O A) → IsTyped x → Ends x.now.bones (Any (Unit {0})) (judges c v x)
  judges_ends c (Ok (value.Bool true)) x h = (h, grows_itself x.now.bones, tt)
  judges_ends c (Ok (value.Bool false)) x h = h
  judges_ends c (Ok (value.Int n)) x h = h
  judges_ends c (Ok (value.Text t)) x h = h
  judges_ends c (Ok (value.Reference r)) x h = h
  judges_ends c (Err fault) x h = h

  pub each_any : {X : Type 0} (deed : X → Deed O A) → ((r : X) (y : Tx O A) → IsTyped y → Ends y.now.bones (Any (Unit {0})) (deed r y)) → (rs : List X) (x : Tx O A) → IsTyped x → Ends x.now.bones (Any (Unit {0})) (each deed rs x)
  each_any {X} deed ends rs x h = each_ends (Any X) (λ b c r grows q. tt) deed (λ r y typed q. ends r y typed) rs x h (all_none X x.now.bones rs)

  tests_ends : (v : Version) (c : Constraint) (x : Tx O A) → IsTyped x → Ends x.now.bones (Any (Unit {0})) (tests v c x)
  tests_ends v c x h = judges_ends c (plain c.test (record { locals = []; own = v.fields })) x h

  pub hard_ends : (r : Ref) (x : Tx O A) → IsTyped x → Ends x.now.bones (Any (Unit {0})) (tests_hard r x)
  hard_ends r x h = by_denoted (denoted x.now.bones r) where
    by_object : (v : Version) (m : Option Object) → Ends x.now.bones (Any (Unit {0})) (go_on (found m x) (λ o. sees (λ b. machine.constraints_of false b.classes o.class) >>= λ hard. each (tests v) hard))
    by_object v (Some o) = each_any (tests v) (tests_ends v) (machine.constraints_of false x.now.bones.classes o.class) x h
    by_object v None = h

    by_denoted : (m : Result Version Fault) → Ends x.now.bones (Any (Unit {0})) (go_on (valued m x) (λ v. object r.object >>= λ o. sees (λ b. machine.constraints_of false b.classes o.class) >>= λ hard. each (tests v) hard))
    by_denoted (Ok v) = by_object v (object_at x.now.bones r.object)
    by_denoted (Err fault) = h

  pub soft_ends : (o : Object) (x : Tx O A) → IsTyped x → Ends x.now.bones (Any (Unit {0})) (tests_soft o x)
  soft_ends o x h = each_any (tests_version o) (λ v y typed. each_any (tests v) (tests_ends v) (machine.constraints_of true y.now.bones.classes o.class) y typed) o.versions x h

  pub there_ends : (id : ℕ) (x : Tx O A) → IsTyped x → Ends x.now.bones (Any (Unit {0})) (there id x)
  there_ends id x h = by_test (is_live id x) where
    by_test : (t : Bool) → Ends x.now.bones (Any (Unit {0})) (cond t (Done tt x) (Aborted (reason.NoObject id) x))
    by_test true = (h, grows_itself x.now.bones, tt)
    by_test false = h

  pub lives_ends : (id : ℕ) (x : Tx O A) → IsTyped x → Ends x.now.bones (Any (Unit {0})) (lives id x)
  lives_ends id x h = there_ends id (looking (id ∷ []) x) (look_typed (id ∷ []) x h)

  -- ---- levels

  -- one level deeper, bodies run typed
  pub record InnerFits (inner : Inner O A) : Type 0 where
    pub body : BodyFits inner.body
    pub actions : LevelFits inner.actions

  abbrev pub DeeperFits : Option (Inner O A) → Type 0
  DeeperFits None = Unit {0}
  DeeperFits (Some inner) = InnerFits inner

  module _ (past : Past O A) where
    -- ---- calls

    behind_ends : (d : Option (Body O A)) → LevelFits d → (r : Ref) (name : List ℕ) (args : List Value) (x : Tx O A) → IsTyped x → Ends x.now.bones (Any (Unit {0})) (calls_behind past d r name args x)
    unfolding calls_behind
    behind_ends d level r name args x h =
        when_ends (is_some (denotes x.now.bones r)) (calls_after past d r name args) x h (λ still.
        ends_then x.now.bones (Any (Unit {0})) (Any (Unit {0})) (tests_hard r x) (hard_ends r x h) (λ u. posts past d r.object (After name) args) (λ u y typed grows is. posts_ends past d level r.object (After name) args y typed))

    pub inside_ends : (inner : Inner O A) → InnerFits inner → (c : Class) (name : List ℕ) (m : Method) (r : Ref) (args : List Value) (x : Tx O A) → IsTyped x → IsKnown x.now.bones.classes c
        → families.method_named (line_of (checked_classes x.now.bones.classes) c) name ≡ Some m → IsAt c.name x.now.bones r → FitArgs m.params x.now.bones args → Ends x.now.bones (λ b v. Fits b (Some m.result) v) (calls_inside past inner r name args x)
    unfolding calls_inside
    inside_ends inner fits c name m r args x h known named at given =
        ends_then x.now.bones (Any (Unit {0})) Fine (touches past inner.actions r.object x) (touches_ends past inner.actions fits.actions r.object x h) (λ u. stands r >> before) (λ u y1 h1 g1 is1.
        ends_then y1.now.bones (λ b u. (r.object == 0) ≡ false) Fine (stands r y1) (stands_ends r y1 h1) (λ u. before) (λ u y2 h2 g2 is2.
        ends_then y2.now.bones (Any (Unit {0})) Fine (posts past inner.actions r.object (Before name) args y2) (posts_ends past inner.actions fits.actions r.object (Before name) args y2 h2) (λ u. lives r.object >> inside) (λ u y3 h3 g3 is3.
        ends_then y3.now.bones (Any (Unit {0})) Fine (lives r.object y3) (lives_ends r.object y3 h3) (λ u. inside) (λ u y4 h4 g4 is4.
        in_class y4 h4 (grows_on x.now.bones y1.now.bones y4.now.bones g1 (grows_on y1.now.bones y2.now.bones y4.now.bones g2 (grows_on y2.now.bones y3.now.bones y4.now.bones g3 g4)))))))
      where
        Fine : Bones → Value → Type 0
        Fine b v = Fits b (Some m.result) v

        runs_method : Method → Act O A Value
        runs_method n = inner.body n.body (record { this = r; locals = args }) >>= λ v. calls_behind past inner.actions r name args >> gives (unwrap_or v (default_of n.result))

        inside : Act O A Value
        inside = class_of r.object >>= λ class. finds (λ b. method_named b.classes class name) >>= runs_method

        before : Act O A Value
        before = posts past inner.actions r.object (Before name) args >> (lives r.object >> inside)

        result_of : (b : Bones) → AreFit b → (n : Method) (v : Option Value) → n.result ≡ m.result → FitsResult n.result b v → Fine b (unwrap_or v (default_of n.result))
        result_of b fit n (Some v) same is = subst (λ s. Fits b (Some s) v) same is
        result_of b fit n None same is = subst (λ s. Fits b (Some s) (default_of n.result)) same (default_fits b fit n.result)

        result_later : (s : Sort) (b d : Bones) (v : Option Value) → Grows b d → FitsResult s b v → FitsResult s d v
        result_later s b d None grows is = tt
        result_later s b d (Some v) grows is = fits_follows b d grows.follows (Some s) v is

        runs : (y : Tx O A) → IsTyped y → Grows x.now.bones y.now.bones → (o : Object) → object_at y.now.bones r.object ≡ Some o → (n : Method) → method_named y.now.bones.classes o.class name ≡ Some n → Ends y.now.bones Fine (runs_method n y)
        runs y h1 g1 o there n is =
            let class : IsKnown y.now.bones.classes c = subst (λ cs. IsKnown cs c) (sym g1.follows.classes) known in
            let here : IsAt c.name y.now.bones r = at_later c.name x.now.bones y.now.bones r g1 at in
            let line : families.method_named (line_of (checked_classes y.now.bones.classes) c) name ≡ Some m = ap (λ cs. families.method_named (line_of (checked_classes cs) c) name) g1.follows.classes ∙ named in
            let re : Redefines y.now.bones.classes o.class name m = h1.sound.methods o.class c class (above c.name y.now.bones r here o there) name m line in
            let same : re.method ≡ n = found_same (method_named y.now.bones.classes o.class name) re.method n re.found is in
            let body : IsTypedIn y.now.bones.classes o.class n.params n.result n.body = subst (λ (k : Method). IsTypedIn y.now.bones.classes o.class k.params k.result k.body) same re.body in
            let result : n.result ≡ m.result = subst (λ (k : Method). k.result ≡ m.result) same re.result in
            let params : AllZip (λ (p q : Param). q.sort ≡ p.sort) m.params n.params = subst (λ (k : Method). AllZip (λ (p q : Param). q.sort ≡ p.sort) m.params k.params) same re.params in
            let frame : FitsFrame y.now.bones (member_setting (checked_classes y.now.bones.classes) body.class n.params n.result) (record { this = r; locals = args }) = record {
              classes = refl;
              known = body.known;
              this = record { is = here.fits.is; drawn = here.fits.drawn; object = class_ref y.now.bones c.name body.class.name r o there here body.above };
              slots = params_slots y.now.bones m.params n.params args params (args_later m.params args x.now.bones y.now.bones g1 given);
              literals = tt;
            } in
            ends_then y.now.bones (FitsResult n.result) Fine (inner.body n.body (record { this = r; locals = args }) y) (fits.body n.body (member_setting (checked_classes y.now.bones.classes) body.class n.params n.result) body.typed (record { this = r; locals = args }) y h1 frame)
            (λ v. calls_behind past inner.actions r name args >> gives (unwrap_or v (default_of n.result))) (λ v z h2 g2 returned.
            ends_then z.now.bones (Any (Unit {0})) Fine (calls_behind past inner.actions r name args z) (behind_ends inner.actions fits.actions r name args z h2) (λ u. gives (unwrap_or v (default_of n.result))) (λ u w h3 g3 is3.
            ends_done Fine (unwrap_or v (default_of n.result)) w h3 (result_of w.now.bones h3.now n v result (result_later n.result z.now.bones w.now.bones v g3 returned))))

        in_class : (y : Tx O A) → IsTyped y → Grows x.now.bones y.now.bones → Ends y.now.bones Fine (inside y)
        in_class y h1 g1 = by_object (object_at y.now.bones r.object) refl where
          by_method : (o : Object) → object_at y.now.bones r.object ≡ Some o → (k : Option Method) → method_named y.now.bones.classes o.class name ≡ k → Ends y.now.bones Fine (go_on (found k y) runs_method)
          by_method o there (Some n) e = runs y h1 g1 o there n e
          by_method o there None e = h1

          by_object : (k : Option Object) → object_at y.now.bones r.object ≡ k
              → Ends y.now.bones Fine (go_on (go_on (found k y) (λ o. gives o.class)) (λ class. finds (λ b. method_named b.classes class name) >>= runs_method))
          by_object (Some o) e = by_method o e (method_named y.now.bones.classes o.class name) refl
          by_object None e = h1
