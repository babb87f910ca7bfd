-- Acts that read and print come to the same: expressions, references and the tests of constraints.
use Rattle.std.proofs.Common.{◌≡◌, ℕ, ◌+◌, true, false, List, [], ◌∷◌, length, Option, Some, None, Result, Ok, Err, sym, ap, subst}
use Rattle.std.specs.Prelude.{nat_le, is_some}
use Rattle.ode_footprint_laws.proofs.Among.{among_looked}
use Rattle.ode_footprint_laws.proofs.Depends.{Anything, Depends, Ends, aborts_in, computes_in, does_in, done_in, each_in, finds_in, found_in, map_in, needs_in, next_in, nothing_in, one_in, reads_in, then_in, valued_plain}
use Rattle.ode_footprint_laws.proofs.Grows.{grown_self, grown_then, looks_grow, valued_grow}
use Rattle.ode_footprint_laws.proofs.Looking.{SameObjects, denoted_same, evaluate_same, live_same}
use Rattle.ode_footprint_laws.proofs.Meets.{Meets}
use Rattle.ode_footprint_laws.specs.Agreeing.{Agree, IsAmong, reached_footprint}
use Rattle.ode_value.specs.declared.member.Constraint.{Constraint}
use Rattle.ode_value.specs.declared.reason.Reason.TheVariants as reason
use Rattle.ode_value.specs.declared.statement.Expr.{Expr}
use Rattle.ode_value.specs.declared.value.Ref.{Ref}
use Rattle.ode_value.specs.declared.value.Value.{Value}
use Rattle.ode_value.specs.declared.value.Value.TheVariants as value
use Rattle.ode_value.specs.declared.arithmetic.Fault.{Fault}
use Rattle.ode_value.specs.Acts.{Outcome, ◌>>=◌, ◌>>◌, gives, nothing, needs, does, each, reads, sees, found, valued, prints, with_line, looks}
use Rattle.ode_value.specs.Changes.{object, class_of, is_live, lives, version, there, asks_live}
use Rattle.ode_value.specs.Classes.{constraints_of}
use Rattle.ode_value.specs.Constraints.{judges, tests, tests_hard, tests_version, tests_soft}
use Rattle.ode_value.specs.Denoting.{denoted, object_at}
use Rattle.ode_value.specs.Evaluation.{Frame, evaluate, looks_in, reason_of}
use Rattle.ode_value.specs.Expressions.{denoting, evaluates, evaluates_all, evaluates_sets, holds, is_true, receiver, ref_in, reference, stands}
use Rattle.ode_value.specs.Footprints.{Footprint, with_looks}
use Rattle.ode_value.specs.Language.{ListTx}
use Rattle.ode_value.specs.Limits.{output_limit}
use Rattle.ode_value.specs.Masks.{plain}
use Rattle.ode_value.specs.Objects.{Histories, Starts}
use Rattle.ode_value.specs.Transactions.{looking}
use Rattle.ode_value.specs.Versions.{Version}
use Rattle.ode_value.specs.Worlds.{Object}

pub agreed_objects : (f : Footprint) (y x : ListTx) → Agree f y x → SameObjects f.looked y.now.bones x.now.bones
agreed_objects f y x a id among = (a.now.objects id among).object

pub agreed_live : (f : Footprint) (y x : ListTx) → Agree f y x → (id : ℕ) → IsAmong id f.looked → object_at y.now.bones id ≡ object_at x.now.bones id
agreed_live f y x a = live_same f.looked y.now.bones x.now.bones (agreed_objects f y x a)

pub agreed_version : (f : Footprint) (y x : ListTx) → Agree f y x → (r : Ref) → IsAmong r.object f.looked → denoted y.now.bones r ≡ denoted x.now.bones r
agreed_version f y x a = denoted_same f.looked y.now.bones x.now.bones (agreed_objects f y x a)

module _ {f : Footprint} (m : Meets f) where
  -- ---- lines

  pub line_in : {Pre : Type 0} (line : List ℕ) → Depends m Pre Anything (does (with_line line))
  line_in line = does_in m (with_line line) (λ x. grown_self x.footprint) (λ k y x h. m.line y x line h) (λ x reached. tt)

  pub prints_in : {Pre : Type 0} (line : List ℕ) → Depends m Pre Anything (prints line)
  prints_in line =
      next_in m (needs reason.Output (λ x. nat_le (length x.text + length line) output_limit)) (does (with_line line))
      (needs_in m reason.Output (λ x. nat_le (length x.text + length line) output_limit) (λ k y x a. ap (λ text. nat_le (length text + length line) output_limit) a.text)) (λ k. k) (line_in line)

  -- ---- objects

  pub object_in : (id : ℕ) → Depends m (IsAmong id f.looked) Anything (object id)
  object_in id = finds_in m (λ b. object_at b id) (λ among y x a. agreed_live f y x a id among)

  pub class_in : (id : ℕ) → Depends m (IsAmong id f.looked) Anything (class_of id)
  class_in id = then_in m (object id) (λ o. gives o.class) (object_in id) (λ k. k) (λ o. done_in m o.class (λ k. tt))

  pub version_in : (r : Ref) → Depends m (IsAmong r.object f.looked) Anything (version r)
  version_in r = computes_in m (λ b. denoted b r) (λ among y x a. agreed_version f y x a r among)

  pub live_agreed : (id : ℕ) → IsAmong id f.looked → (y x : ListTx) → Agree f y x → is_live id y ≡ is_live id x
  live_agreed id among y x a = ap is_some (agreed_live f y x a id among)

  there_in : (id : ℕ) → Depends m (IsAmong id f.looked) Anything (there id)
  there_in id = needs_in m (reason.NoObject id) (is_live id) (λ among y x a. live_agreed id among y x a)

  pub lives_in : (id : ℕ) → Depends m (Unit {0}) (λ u. IsAmong id f.looked) (lives id)
  lives_in id = next_in m (looks (id ∷ [])) (there id) (one_in m id) (λ k. k) (map_in m (there_in id) (λ k. k.1) (λ u k known. k.1))

  pub asks_in : (id : ℕ) → Depends m (Unit {0}) (λ b. IsAmong id f.looked) (asks_live id)
  asks_in id =
      next_in m (looks (id ∷ [])) (reads (is_live id)) (one_in m id) (λ k. k)
      (reads_in m (is_live id) gives (λ k y x a. live_agreed id k.1 y x a) (λ b. done_in m b (λ k. k.1)))

  -- ---- expressions

  pub evaluates_in : {Pre : Type 0} (e : Expr) (frame : Frame) → Depends m Pre Anything (evaluates e frame)
  evaluates_in e frame = record {
    grows = λ x. grown_then x.footprint (with_looks (looks_in e x.now.bones frame) x.footprint) (reached_footprint (ends_at x (evaluate e x.now.bones frame))) (looks_grow (looks_in e x.now.bones frame) x.footprint)
        (valued_grow (evaluate e x.now.bones frame) (looking (looks_in e x.now.bones frame) x));
    alike = λ k y x h reached.
        let a = m.agree y x h in
        let ids = looks_in e x.now.bones frame in
        let known = grown_then (with_looks ids x.footprint) (reached_footprint (ends_at x (evaluate e x.now.bones frame))) f (valued_grow (evaluate e x.now.bones frame) (looking ids x)) reached in
        let it = evaluate_same f.looked x.now.bones y.now.bones (λ id among. sym (agreed_objects f y x a id among)) e frame (λ id is. known.looked id (among_looked ids id x.footprint.looked is)) in
        subst (λ v. Ends m Anything (valued v (looking (looks_in e y.now.bones frame) y)) (ends_at x (evaluate e x.now.bones frame))) it.0
        (subst (λ is. Ends m Anything (valued (evaluate e x.now.bones frame) (looking is y)) (ends_at x (evaluate e x.now.bones frame))) it.1
        (valued_plain m (evaluate e x.now.bones frame) (looking ids y) (looking ids x) (m.foot y x (with_looks ids) h)));
  }
    where
      ends_at : ListTx → Result Value Fault → Outcome Histories Starts Value
      ends_at x v = valued v (looking (looks_in e x.now.bones frame) x)

  pub holds_in : {Pre : Type 0} (e : Expr) (frame : Frame) → Depends m Pre Anything (holds e frame)
  holds_in e frame = then_in m (evaluates e frame) (λ v. gives (is_true v)) (evaluates_in e frame) (λ k. k) (λ v. done_in m (is_true v) (λ k. tt))

  pub all_in : {Pre : Type 0} (es : List Expr) (frame : Frame) → Depends m Pre Anything (evaluates_all es frame)
  all_in [] frame = done_in m [] (λ k. tt)
  all_in (e ∷ es) frame =
      then_in m (evaluates e frame) (λ v. evaluates_all es frame >>= λ vs. gives (v ∷ vs)) (evaluates_in e frame) (λ k. k) (λ v.
      then_in m (evaluates_all es frame) (λ vs. gives (v ∷ vs)) (all_in es frame) (λ k. k) (λ vs. done_in m (v ∷ vs) (λ k. tt)))

  pub sets_in : {Pre : Type 0} (es : List (List ℕ × Expr)) (frame : Frame) → Depends m Pre Anything (evaluates_sets es frame)
  sets_in [] frame = done_in m [] (λ k. tt)
  sets_in (e ∷ es) frame =
      then_in m (evaluates e.1 frame) (λ v. evaluates_sets es frame >>= λ vs. gives ((e.0, v) ∷ vs)) (evaluates_in e.1 frame) (λ k. k) (λ v.
      then_in m (evaluates_sets es frame) (λ vs. gives ((e.0, v) ∷ vs)) (sets_in es frame) (λ k. k) (λ vs. done_in m ((e.0, v) ∷ vs) (λ k. tt)))

  -- ---- references: their objects are looked at

  pub stands_in : {Pre : Type 0} (r : Ref) → Depends m Pre (λ u. IsAmong r.object f.looked) (stands r)
  stands_in r =
      next_in m (looks (r.object ∷ [])) (denoting r) (one_in m r.object) (λ k. tt)
      (then_in m (version r) (λ _. nothing) (version_in r) (λ k. k.1) (λ v. done_in m tt (λ k. k.0.1)))

  pub reference_in : {Pre : Type 0} (e : Expr) (frame : Frame) → Depends m Pre (λ (r : Ref). IsAmong r.object f.looked) (reference e frame)
  reference_in e frame =
      then_in m (evaluates e frame) (λ v. found (ref_in v) >>= λ r. stands r >> gives r) (evaluates_in e frame) (λ k. k) (λ v.
      then_in m (found (ref_in v)) (λ r. stands r >> gives r) (found_in m (ref_in v)) (λ k. k) (λ r.
      next_in m (stands r) (gives r) (stands_in r) (λ k. k) (done_in m r (λ k. k.1))))

  pub receiver_in : {Pre : Type 0} (of : Option Expr) (frame : Frame) → Depends m Pre (λ (r : Ref). IsAmong r.object f.looked) (receiver of frame)
  receiver_in (Some e) frame = reference_in e frame
  receiver_in None frame = next_in m (stands frame.this) (gives frame.this) (stands_in frame.this) (λ k. k) (done_in m frame.this (λ k. k.1))

  -- ---- constraints

  judges_in : {Pre : Type 0} (c : Constraint) (v : Result Value Fault) → Depends m Pre Anything (judges c v)
  judges_in c (Ok (value.Bool true)) = nothing_in m
  judges_in c (Ok (value.Bool false)) = aborts_in m (reason.Constraint c.name)
  judges_in c (Ok (value.Int i)) = aborts_in m (reason.Constraint c.name)
  judges_in c (Ok (value.Text t)) = aborts_in m (reason.Constraint c.name)
  judges_in c (Ok (value.Reference q)) = aborts_in m (reason.Constraint c.name)
  judges_in c (Err fault) = aborts_in m (reason_of fault)

  tests_in : {Pre : Type 0} (v : Version) (cs : List Constraint) → Depends m Pre Anything (each (tests v) cs)
  tests_in v cs = each_in m (tests v) (λ c. judges_in c (plain c.test (record { locals = []; own = v.fields }))) cs

  pub hard_in : (r : Ref) → Depends m (IsAmong r.object f.looked) Anything (tests_hard r)
  hard_in r =
      then_in m (version r) (λ v. object r.object >>= λ o. sees (λ b. constraints_of false b.classes o.class) >>= each (tests v)) (version_in r) (λ k. k) (λ v.
      then_in m (object r.object) (λ o. sees (λ b. constraints_of false b.classes o.class) >>= each (tests v)) (object_in r.object) (λ k. k.0) (λ o.
      reads_in m (λ x. constraints_of false x.now.bones.classes o.class) (each (tests v)) (λ k y x a. ap (λ cs. constraints_of false cs o.class) a.now.classes) (tests_in v)))

  pub soft_in : {Pre : Type 0} (o : Object) → Depends m Pre Anything (tests_soft o)
  soft_in o =
      each_in m (tests_version o)
      (λ v. reads_in m (λ x. constraints_of true x.now.bones.classes o.class) (each (tests v)) (λ k y x a. ap (λ cs. constraints_of true cs o.class) a.now.classes) (tests_in v)) o.versions
