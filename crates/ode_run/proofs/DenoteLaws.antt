-- What a reference denotes, by the head of its object.
use Rattle.std.proofs.Common.{◌≡◌, ◌≤◌, ◌<◌, ◌==◌, ℕ, Bool, true, false, cond, List, Result, Option, Some, None, Ok, Err, refl, sym, ap, subst, ◌∙◌, arith}
use Rattle.std.specs.Prelude.{is_some, length, nat_lt}
use Rattle.std.specs.Option.{option_and_then, option_map, ok_or}
use Rattle.std.proofs.lemmas.Bool.Decides.{nat_tests}
use Rattle.std.proofs.lemmas.List.{length-map}
use Rattle.ode_expr.specs.Answers.{number_in, number_of}
use Rattle.ode_heap.specs.Answering.{head_of_object}
use Rattle.ode_heap.specs.declared.object.ObjectHead.{ObjectHead}
use Rattle.ode_interpreter.specs.Seen.{Ends}
use Rattle.ode_interpreter.specs.declared.stop.Stop.{Stop}
use Rattle.ode_interpreter.specs.declared.stop.Stop.TheVariants as stop
use Rattle.ode_laws.specs.Alike.{NumberTx, NumberWorld}
use Rattle.ode_overlay.specs.Layers.{Layer}
use Rattle.ode_value.specs.Acts.{Outcome, Done, Aborted, ◌>>=◌, ◌>>◌, computes, found, gives, go_on, needs, nothing, reached, sees, valued}
use Rattle.ode_value.specs.Changes.{class_of, object}
use Rattle.ode_value.specs.Classes.{lists_kind}
use Rattle.ode_value.specs.Denoting.{denoted, denotes, object_at, object_of, version_in}
use Rattle.ode_value.specs.Evaluation.{reason_of}
use Rattle.ode_value.specs.Expressions.{denoting}
use Rattle.ode_value.specs.Making.{pinned, spares}
use Rattle.ode_value.specs.Posting.{is_listed}
use Rattle.ode_value.specs.Versions.{Version, version_of}
use Rattle.ode_value.specs.Worlds.{Declared, Object}
use Rattle.ode_value.specs.declared.arithmetic.Fault.{Fault}
use Rattle.ode_value.specs.declared.arithmetic.Fault.TheVariants as fault
use Rattle.ode_value.specs.declared.event.Kind.{Kind}
use Rattle.ode_value.specs.declared.reason.Reason.{Reason}
use Rattle.ode_value.specs.declared.reason.Reason.TheVariants as reason
use Rattle.ode_value.specs.declared.value.Ref.{Ref}
use Rattle.ode_versions.specs.Versions.{listed}
use Rattle.ode_view_laws.specs.Viewing.{Beside, running, world_now}

-- ---- the number of a version

abbrev number_as : NumberTx → Ref → Option Object → Outcome (Unit {0}) ℕ ℕ
number_as y r o = valued (number_in (version_in r o)) y

-- as the head of an object has it
abbrev counted : NumberTx → Ref → Option ℕ → Outcome (Unit {0}) ℕ ℕ
counted y r (Some n) = Done n y
counted y r None = Aborted (reason.NoVersion r) y

by_null : (y : NumberTx) (r : Ref) (b : Bool) → (r.object == 0) ≡ b → computes (λ b. number_of b r) y ≡ number_as y r (cond b None (object_at y.now.bones r.object))
by_null y r b is = ap (λ t. number_as y r (cond t None (object_at y.now.bones r.object))) is

of_null : (y : NumberTx) (r : Ref) → r.object ≡ 0 → computes (λ b. number_of b r) y ≡ Aborted (reason.NoObject 0) y
of_null y r is =
    let test : (r.object == 0) ≡ true = grind (arith, nat_tests) in
    by_null y r true test ∙ ap (λ n. Aborted (reason.NoObject n) y) is

by_object : (y : NumberTx) (r : Ref) → 0 < r.object → computes (λ b. number_of b r) y ≡ number_as y r (object_at y.now.bones r.object)
by_object y r some =
    let test : (r.object == 0) ≡ false = grind (arith, nat_tests) in
    by_null y r false test

of_none : (y : NumberTx) (r : Ref) → 0 < r.object → None ≡ option_map head_of_object (object_at y.now.bones r.object) → computes (λ b. number_of b r) y ≡ Aborted (reason.NoObject r.object) y
of_none y r some is = by_object y r some ∙ by_cases (object_at y.now.bones r.object) is where
  by_cases : (o : Option Object) → None ≡ option_map head_of_object o → number_as y r o ≡ Aborted (reason.NoObject r.object) y
  by_cases None is = refl
  by_cases (Some o) is = absurd (cc is)

by_version : (y : NumberTx) (r : Ref) (v : Option Version) → valued (number_in (ok_or v (fault.NoVersion r))) y ≡ counted y r (option_map (λ (v : Version). v.number) v)
by_version y r None = refl
by_version y r (Some v) = refl

by_head : (y : NumberTx) (r : Ref) (head : ObjectHead) (number : Option ℕ) → 0 < r.object → Some head ≡ option_map head_of_object (object_at y.now.bones r.object)
    → ((o : Object) → head ≡ head_of_object o → number ≡ option_map (λ (v : Version). v.number) (version_of r.version o.versions)) → computes (λ b. number_of b r) y ≡ counted y r number
by_head y r head number some is found = by_object y r some ∙ by_cases (object_at y.now.bones r.object) is where
  by_cases : (o : Option Object) → Some head ≡ option_map head_of_object o → number_as y r o ≡ counted y r number
  by_cases None is = absurd (cc is)
  by_cases (Some o) is = let e : head ≡ head_of_object o = cc is in by_version y r (version_of r.version o.versions) ∙ ap (counted y r) (sym (found o e))

of_version : (y : NumberTx) (r : Ref) (head : ObjectHead) (number : Option ℕ) (n : ℕ) → 0 < r.object → Some head ≡ option_map head_of_object (object_at y.now.bones r.object)
    → ((o : Object) → head ≡ head_of_object o → number ≡ option_map (λ (v : Version). v.number) (version_of r.version o.versions)) → number ≡ Some n → computes (λ b. number_of b r) y ≡ Done n y
of_version y r head number n some is found e = by_head y r head number some is found ∙ ap (counted y r) e

of_no_version : (y : NumberTx) (r : Ref) (head : ObjectHead) (number : Option ℕ) → 0 < r.object → Some head ≡ option_map head_of_object (object_at y.now.bones r.object)
    → ((o : Object) → head ≡ head_of_object o → number ≡ option_map (λ (v : Version). v.number) (version_of r.version o.versions)) → number ≡ None → computes (λ b. number_of b r) y ≡ Aborted (reason.NoVersion r) y
of_no_version y r head number some is found e = by_head y r head number some is found ∙ ap (counted y r) e

-- ---- whether there is one

same_act : (y : NumberTx) (d : Result Version Fault) → go_on (valued d y) (λ _. nothing) ≡ go_on (valued (number_in d) y) (λ _. nothing)
same_act y (Ok v) = refl
same_act y (Err why) = refl

stands_as : (y : NumberTx) (r : Ref) (o : Outcome (Unit {0}) ℕ ℕ) → computes (λ b. number_of b r) y ≡ o → denoting r y ≡ go_on o (λ _. nothing)
stands_as y r o is = same_act y (denoted y.now.bones r) ∙ ap (λ q. go_on q (λ _. nothing)) is

pub stands_null : (y : NumberTx) (r : Ref) → r.object ≡ 0 → denoting r y ≡ Aborted (reason.NoObject 0) y
stands_null y r is = stands_as y r (Aborted (reason.NoObject 0) y) (of_null y r is)

pub no_object : (y : NumberTx) (r : Ref) → 0 < r.object → None ≡ option_map head_of_object (object_at y.now.bones r.object) → denoting r y ≡ Aborted (reason.NoObject r.object) y
no_object y r some is = stands_as y r (Aborted (reason.NoObject r.object) y) (of_none y r some is)

module _ (y : NumberTx) (r : Ref) (head : ObjectHead) (number : Option ℕ) (some : 0 < r.object) (there : Some head ≡ option_map head_of_object (object_at y.now.bones r.object))
    (named : (o : Object) → head ≡ head_of_object o → number ≡ option_map (λ (v : Version). v.number) (version_of r.version o.versions)) where
  pub stood : (n : ℕ) → number ≡ Some n → denoting r y ≡ Done tt y
  stood n is = stands_as y r (Done n y) (of_version y r head number n some there named is)

  pub no_version : number ≡ None → denoting r y ≡ Aborted (reason.NoVersion r) y
  no_version is = stands_as y r (Aborted (reason.NoVersion r) y) (of_no_version y r head number some there named is)

-- the transaction is the same, and this it is
abbrev sees_so : NumberTx → Bool → Outcome (Unit {0}) ℕ Bool
sees_so y b = Done b y

abbrev is_denoted : Result Version Fault → Bool
is_denoted (Ok v) = true
is_denoted (Err why) = false

denoted_is : (y : NumberTx) (r : Ref) → is_some (denotes y.now.bones r) ≡ is_denoted (denoted y.now.bones r)
denoted_is y r = by_cases (object_of y.now.bones r) where
  by_found : (v : Option Version) → is_some v ≡ is_denoted (ok_or v (fault.NoVersion r))
  by_found None = refl
  by_found (Some v) = refl

  by_cases : (o : Option Object) → is_some (option_and_then (λ (o : Object). version_of r.version o.versions) o) ≡ is_denoted (version_in r o)
  by_cases None = refl
  by_cases (Some o) = by_found (version_of r.version o.versions)

number_done : (y z : NumberTx) (n : ℕ) (d : Result Version Fault) → valued (number_in d) y ≡ Done n z → sees_so y (is_denoted d) ≡ Done true z
number_done y z n (Ok v) is = ap (λ o. go_on o (λ _. sees (λ _. true))) is
number_done y z n (Err why) is = absurd (cc is)

number_aborted : (y z : NumberTx) (why : Reason) (d : Result Version Fault) → valued (number_in d) y ≡ Aborted why z → sees_so y (is_denoted d) ≡ Done false z
number_aborted y z why (Ok v) is = absurd (cc is)
number_aborted y z why (Err fault) is = ap (λ o. Done false (reached o)) is

sees_one : (y z : NumberTx) (r : Ref) (n : ℕ) → computes (λ b. number_of b r) y ≡ Done n z → sees (λ b. is_some (denotes b r)) y ≡ Done true z
sees_one y z r n is = ap (sees_so y) (denoted_is y r) ∙ number_done y z n (denoted y.now.bones r) is

sees_none : (y z : NumberTx) (r : Ref) (why : Reason) → computes (λ b. number_of b r) y ≡ Aborted why z → sees (λ b. is_some (denotes b r)) y ≡ Done false z
sees_none y z r why is = ap (sees_so y) (denoted_is y r) ∙ number_aborted y z why (denoted y.now.bones r) is

pub denotes_null : (y : NumberTx) (r : Ref) → r.object ≡ 0 → sees (λ b. is_some (denotes b r)) y ≡ Done false y
denotes_null y r is = sees_none y y r (reason.NoObject 0) (of_null y r is)

pub denotes_no_object : (y : NumberTx) (r : Ref) → 0 < r.object → None ≡ option_map head_of_object (object_at y.now.bones r.object) → sees (λ b. is_some (denotes b r)) y ≡ Done false y
denotes_no_object y r some is = sees_none y y r (reason.NoObject r.object) (of_none y r some is)

-- whether a number was found
module _ (y : NumberTx) (r : Ref) (head : ObjectHead) (number : Option ℕ) (some : 0 < r.object) (there : Some head ≡ option_map head_of_object (object_at y.now.bones r.object))
    (named : (o : Object) → head ≡ head_of_object o → number ≡ option_map (λ (v : Version). v.number) (version_of r.version o.versions)) where
  pub denotes_as : sees (λ b. is_some (denotes b r)) y ≡ Done (is_some number) y
  denotes_as = by_number number refl where
    by_number : (n : Option ℕ) → number ≡ n → sees (λ b. is_some (denotes b r)) y ≡ Done (is_some n) y
    by_number (Some n) is = sees_one y y r n (of_version y r head number n some there named is)
    by_number None is = sees_none y y r (reason.NoVersion r) (of_no_version y r head number some there named is)

-- ---- a version that isn't the only one

module _ (y : NumberTx) (r : Ref) where
  -- behind the version, by its object
  abbrev spared_of : Option Object → Version → Outcome (Unit {0}) ℕ Ref
  spared_of o v = go_on (found o y) (λ q. needs (reason.LastVersion r.object) (λ _. nat_lt 1 (length q.versions)) >> gives (pinned r v.number))

  abbrev spared_as : Option Object → Result Version Fault → Outcome (Unit {0}) ℕ Ref
  spared_as o (Ok v) = spared_of o v
  spared_as o (Err why) = Aborted (reason_of why) y

  spares_by : (d : Result Version Fault)
      → go_on (valued d y) (λ v. object r.object >>= λ o. needs (reason.LastVersion r.object) (λ _. nat_lt 1 (length o.versions)) >> gives (pinned r v.number)) ≡ spared_as (object_at y.now.bones r.object) d
  spares_by (Ok v) = refl
  spares_by (Err why) = refl

  spares_test : (b : Bool) → (r.object == 0) ≡ b → spares r y ≡ spared_as (object_at y.now.bones r.object) (version_in r (cond b None (object_at y.now.bones r.object)))
  spares_test b is = spares_by (denoted y.now.bones r) ∙ ap (λ t. spared_as (object_at y.now.bones r.object) (version_in r (cond t None (object_at y.now.bones r.object)))) is

  pub spares_null : r.object ≡ 0 → spares r y ≡ Aborted (reason.NoObject 0) y
  spares_null is =
      let test : (r.object == 0) ≡ true = grind (arith, nat_tests) in
      spares_test true test ∙ ap (λ n. Aborted (reason.NoObject n) y) is

  spares_some : 0 < r.object → spares r y ≡ spared_as (object_at y.now.bones r.object) (version_in r (object_at y.now.bones r.object))
  spares_some some =
      let test : (r.object == 0) ≡ false = grind (arith, nat_tests) in
      spares_test false test

  pub spared_no_object : 0 < r.object → None ≡ option_map head_of_object (object_at y.now.bones r.object) → spares r y ≡ Aborted (reason.NoObject r.object) y
  spared_no_object some is = spares_some some ∙ by_cases (object_at y.now.bones r.object) is where
    by_cases : (o : Option Object) → None ≡ option_map head_of_object o → spared_as o (version_in r o) ≡ Aborted (reason.NoObject r.object) y
    by_cases None is = refl
    by_cases (Some o) is = absurd (cc is)

  -- by the number of the version, and how many there are
  abbrev counted_by : ℕ → Bool → Outcome (Unit {0}) ℕ Ref
  counted_by n b = cond b (Done (pinned r n) y) (Aborted (reason.LastVersion r.object) y)

  abbrev spared_count : Option ℕ → ℕ → Outcome (Unit {0}) ℕ Ref
  spared_count (Some n) many = counted_by n (nat_lt 1 many)
  spared_count None many = Aborted (reason.NoVersion r) y

  abbrev tested : Bool → Outcome (Unit {0}) ℕ (Unit {0})
  tested b = cond b (Done tt y) (Aborted (reason.LastVersion r.object) y)

  by_more : (n : ℕ) (b : Bool) → go_on (tested b) (λ _. gives (pinned r n)) ≡ counted_by n b
  by_more n true = refl
  by_more n false = refl

  by_spare : (o : Object) (v : Option Version) → spared_as (Some o) (ok_or v (fault.NoVersion r)) ≡ spared_count (option_map (λ (v : Version). v.number) v) (length o.versions)
  by_spare o None = refl
  by_spare o (Some v) = by_more v.number (nat_lt 1 (length o.versions))

module _ (y : NumberTx) (r : Ref) (head : ObjectHead) (number : Option ℕ) (some : 0 < r.object) (there : Some head ≡ option_map head_of_object (object_at y.now.bones r.object))
    (named : (o : Object) → head ≡ head_of_object o → number ≡ option_map (λ (v : Version). v.number) (version_of r.version o.versions)) where
  spares_so : spares r y ≡ spared_count y r number (length head.versions.versions)
  spares_so = spares_some y r some ∙ by_cases (object_at y.now.bones r.object) there where
    by_cases : (o : Option Object) → Some head ≡ option_map head_of_object o → spared_as y r o (version_in r o) ≡ spared_count y r number (length head.versions.versions)
    by_cases None is = absurd (cc is)
    by_cases (Some o) is =
        let e : head ≡ head_of_object o = cc is in
        let many : length head.versions.versions ≡ length o.versions = ap (λ (h : ObjectHead). length h.versions.versions) e ∙ length-map o.versions listed in
        by_spare y r o (version_of r.version o.versions) ∙ ap (λ m. spared_count y r m (length o.versions)) (sym (named o e)) ∙ ap (spared_count y r number) (sym many)

  pub spared : (n : ℕ) → number ≡ Some n → 1 < length head.versions.versions → spares r y ≡ Done (pinned r n) y
  spared n is more =
      let test : nat_lt 1 (length head.versions.versions) ≡ true = grind (arith, nat_tests) in
      spares_so ∙ ap (λ m. spared_count y r m (length head.versions.versions)) is ∙ ap (counted_by y r n) test

  pub spared_last : (n : ℕ) → number ≡ Some n → length head.versions.versions ≤ 1 → spares r y ≡ Aborted (reason.LastVersion r.object) y
  spared_last n is few =
      let test : nat_lt 1 (length head.versions.versions) ≡ false = grind (arith, nat_tests) in
      spares_so ∙ ap (λ m. spared_count y r m (length head.versions.versions)) is ∙ ap (counted_by y r n) test

  pub spared_no_version : number ≡ None → spares r y ≡ Aborted (reason.NoVersion r) y
  spared_no_version is = spares_so ∙ ap (λ m. spared_count y r m (length head.versions.versions)) is

-- ---- what a class lists

module _ (all : List Declared) (first : NumberWorld) (x : Layer) (b : Beside) (id : ℕ) (kind : Kind) where
  abbrev y : NumberTx
  y = running all first x b

  abbrev asked : Option Object → Outcome (Unit {0}) ℕ Bool
  asked o = go_on (found o y) (λ q. sees (λ b. lists_kind b.classes q.class kind))

  abbrev classed : Option Object → Outcome (Unit {0}) ℕ ℕ
  classed o = go_on (found o y) (λ q. gives q.class)

  pub listed_is : (class : ℕ) (z : NumberTx) (listed : Bool) → class_of id y ≡ Done class z → listed ≡ lists_kind all class kind → is_listed id kind y ≡ Done listed z
  unfolding world_now
  listed_is class z listed is same = by_object (object_at y.now.bones id) is where
    by_object : (o : Option Object) → classed o ≡ Done class z → asked o ≡ Done listed z
    by_object None is = absurd (cc is)
    by_object (Some o) is =
        let e : o.class ≡ class = cc is in
        let still : y ≡ z = cc is in
        ap (λ (c : ℕ). Done (lists_kind all c kind) y) e ∙ ap (λ t. Done t y) (sym same) ∙ ap (Done listed) still

  pub not_listed : (why : Stop) (z : NumberTx) (result : Result ℕ Stop) → result ≡ Err why → Ends result z (class_of id y) → Ends {R = Bool} (Err why) z (is_listed id kind y)
  not_listed stop.Memory z result e ends = tt
  not_listed stop.DiskFault z result e ends = tt
  not_listed (stop.Damaged key) z result e ends = tt
  not_listed (stop.Abort why) z result e ends = by_object (object_at y.now.bones id) (subst (λ (q : Result ℕ Stop). Ends q z (class_of id y)) e ends) where
    by_object : (o : Option Object) → classed o ≡ Aborted why z → asked o ≡ Aborted why z
    by_object None is = ap (λ o. go_on o (λ _. sees (λ _. true))) is
    by_object (Some o) is = absurd (cc is)
