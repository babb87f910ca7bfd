-- The classes of a query's literals, one by one.
use Rattle.std.proofs.Common.{◌≡◌, ◌∙◌, ◌==◌, ◌||◌, ◌+◌, ◌<◌, ℕ, List, [], ◌∷◌, ◌++◌, Bool, true, false, Option, Some, None, Ok, Err, Result, append-nil, append_assoc, ap, arith, cond, drop, get_or, length, map, not, refl, suc, sym}
use Rattle.std.specs.List.{AllByRecursion}
use Rattle.std.specs.Option.{is_some, option_and_then, option_map}
use Rattle.std.proofs.lemmas.Bool.Decides.{nat_tests}
use Rattle.std.proofs.lemmas.List.{drop_more}
use Rattle.ode_heap.specs.Answering.{head_of_object}
use Rattle.ode_heap.specs.declared.object.ObjectHead.{ObjectHead}
use Rattle.ode_machine.specs.Refusals.{class_behind, classes_behind}
use Rattle.ode_value.specs.Answers.{Answer, ◌>>=◌}
use Rattle.ode_value.specs.Denoting.{if_live, object_at, object_numbered, object_of}
use Rattle.ode_value.specs.GoodWorlds.{IsObject}
use Rattle.ode_value.specs.Versions as whole
use Rattle.ode_value.specs.Versions.{newest, version_numbered, version_of}
use Rattle.ode_value.specs.Worlds.{Bones, Object}
use Rattle.ode_value.specs.declared.reason.Refusal.TheVariants as refusal
use Rattle.ode_value.specs.declared.value.Ref.{Ref}
use Rattle.ode_versions.specs.Versions.{has_number, listed}
use Rattle.ode_versions.specs.declared.list.Version.{Version}
use Rattle.ode_questions.proofs.StepLaws.{refusing_ok}
use Rattle.ode_questions.specs.Saying.{refusing}
use Rattle.ode_questions.specs.Steps.{Answers, AnswersOver}
use Rattle.ode_questions.specs.Versions.{is_denoted}
use Rattle.ode_questions.specs.declared.turned.Turned.{Turned}
use Rattle.ode_questions.specs.declared.turned.Turned.TheVariants as turned
use Rattle.ode_questions.specs.declared.turned.Why.{Why}
use Rattle.ode_questions.specs.declared.turned.Why.TheVariants.{Refusal}

-- ---- versions

some_numbered : (number : ℕ) (vs : List whole.Version) → has_number number (map listed vs) ≡ is_some (version_numbered number vs)
some_numbered number [] = refl
some_numbered number (v ∷ vs) = by_test (v.number == number) (some_numbered number vs)
  where
    by_test : (b : Bool) → has_number number (map listed vs) ≡ is_some (version_numbered number vs) → (b || has_number number (map listed vs)) ≡ is_some (cond b (Some v) (version_numbered number vs))
    by_test true rest = refl
    by_test false rest = rest

some_newest : (v : whole.Version) (vs : List whole.Version) → true ≡ is_some (newest (v ∷ vs))
some_newest v [] = refl
some_newest v (w ∷ vs) = some_newest w vs

not_empty : (n : ℕ) → not (suc n == 0) ≡ true
not_empty n = let some : (suc n == 0) ≡ false = grind (arith, nat_tests) in ap not some

denoted : (version : Option ℕ) (vs : List whole.Version) → is_denoted version (map listed vs) ≡ is_some (version_of version vs)
denoted (Some number) vs = some_numbered number vs
denoted None [] = refl
denoted None (v ∷ vs) = not_empty (length (map listed vs)) ∙ some_newest v vs

pub denotes : (version : Option ℕ) (versions : List Version) (vs : List whole.Version) → versions ≡ map listed vs → is_denoted version versions ≡ is_some (version_of version vs)
denotes version versions vs are = ap (is_denoted version) are ∙ denoted version vs

-- ---- one literal

pub none_behind : (r : Ref) (o : Option Object) → None ≡ option_map head_of_object o → refusing (class_behind r o) ≡ Err (Refusal (refusal.NoObject r.object))
none_behind r None is = refl
none_behind r (Some o) is = absurd (cc (is))

pub some_behind : (r : Ref) (head : ObjectHead) (o : Option Object) (result : Result ℕ Turned) → Some head ≡ option_map head_of_object o
    → ((p : Object) → head ≡ head_of_object p → Answers (refusing (class_behind r (Some p))) result) → Answers (refusing (class_behind r o)) result
some_behind r head None result is there = absurd (cc (is))
some_behind r head (Some o) result is there = let same : head ≡ head_of_object o = cc (is) in there o same

-- whether a version of it is denoted
told : (r : Ref) (head : ObjectHead) (o : Object) (denoted' : Bool) → head ≡ head_of_object o → denoted' ≡ is_denoted r.version head.versions.versions → denoted' ≡ is_some (version_of r.version o.versions)
told r head o denoted' same is = is ∙ denotes r.version head.versions.versions o.versions (ap (λ (h : ObjectHead). h.versions.versions) same)

by_version : (r : Ref) (o : Object) (b : Bool) → b ≡ is_some (version_of r.version o.versions) → refusing (class_behind r (Some o)) ≡ refusing (cond b (Ok o.class) (Err (refusal.NoVersion r)))
by_version r o b is = ap (λ (c : Bool). refusing (cond c (Ok o.class) (Err (refusal.NoVersion r)))) (sym is)

-- it is, so the class is the object's; or it isn't
pub denoted_behind : (r : Ref) (head : ObjectHead) (o : Object) (b : Bool) → head ≡ head_of_object o → b ≡ is_denoted r.version head.versions.versions → b ≡ true → refusing (class_behind r (Some o)) ≡ Ok head.class
denoted_behind r head o b same is holds =
    by_version r o b (told r head o b same is) ∙ ap (λ (c : Bool). refusing (cond c (Ok o.class) (Err (refusal.NoVersion r)))) holds ∙ ap (λ (h : ObjectHead). Ok h.class) (sym same)

pub undenoted_behind : (r : Ref) (head : ObjectHead) (o : Object) (b : Bool) → head ≡ head_of_object o → b ≡ is_denoted r.version head.versions.versions → b ≡ false
    → refusing (class_behind r (Some o)) ≡ Err (Refusal (refusal.NoVersion r))
undenoted_behind r head o b same is fails =
    by_version r o b (told r head o b same is) ∙ ap (λ (c : Bool). refusing (cond c (Ok o.class) (Err (refusal.NoVersion r)))) fails

-- null has no object
pub null_behind : (b : Bones) (r : Ref) → r.object ≡ 0 → refusing (class_behind r (object_of b r)) ≡ Err (Refusal (refusal.NoObject 0))
null_behind b r is =
    let null : (r.object == 0) ≡ true = grind (arith, nat_tests) in
    ap (λ (test : Bool). refusing (class_behind r (cond test None (object_at b r.object)))) null ∙ ap (λ (n : ℕ). Err (Refusal (refusal.NoObject n))) is

-- each object of a good world is live
live_found : (b : Bones) (os : List Object) (id : ℕ) → AllByRecursion (IsObject b) os → option_and_then if_live (object_numbered id os) ≡ object_numbered id os
live_found b [] id all = refl
live_found b (o ∷ os) id all = by_test (o.id == id) (live_found b os id all.1)
  where
    by_test : (test : Bool) → option_and_then if_live (object_numbered id os) ≡ object_numbered id os → option_and_then if_live (cond test (Some o) (object_numbered id os)) ≡ cond test (Some o) (object_numbered id os)
    by_test true rest = ap (λ (l : Bool). cond l (Some o) None) all.0.live
    by_test false rest = rest

pub object_behind : (b : Bones) (r : Ref) → AllByRecursion (IsObject b) b.objects → (r.object == 0) ≡ false → object_of b r ≡ object_numbered r.object b.objects
object_behind b r all some = ap (λ (test : Bool). cond test None (object_at b r.object)) some ∙ live_found b b.objects r.object all

-- ---- in their order

-- what comes behind some classes
abbrev pub with_more : List (Ref × ℕ) → Answer (List (Ref × ℕ)) → Answer (List (Ref × ℕ))
with_more classes more = more >>= (λ rest. Ok (classes ++ rest))

pub none_more : (answer : Answer (List (Ref × ℕ))) → answer ≡ with_more [] answer
none_more (Ok classes) = refl
none_more (Err why) = refl

one_more : (r : Ref) (class : ℕ) (classes : List (Ref × ℕ)) (more : Answer (List (Ref × ℕ))) → with_more classes (more >>= (λ rest. Ok ((r, class) ∷ rest))) ≡ with_more (classes ++ (r, class) ∷ []) more
one_more r class classes (Ok rest) = ap Ok (sym (append_assoc classes ((r, class) ∷ []) rest))
one_more r class classes (Err why) = refl

-- the class of one, and those of the rest, behind some classes
abbrev then_more : Bones → Ref → List Ref → List (Ref × ℕ) → Answer ℕ → Answer (List (Ref × ℕ))
then_more b r refs classes a = with_more classes (a >>= (λ c. classes_behind b refs >>= (λ rest. Ok ((r, c) ∷ rest))))

-- those of what is left, by its first
left_by : (b : Bones) (refs : List Ref) (i : ℕ) (none : Ref) (classes : List (Ref × ℕ)) → i < length refs
    → with_more classes (classes_behind b (drop i refs)) ≡ with_more classes (classes_behind b (get_or refs i none ∷ drop (i + 1) refs))
left_by b refs i none classes inside = ap (λ (rs : List Ref). with_more classes (classes_behind b rs)) (drop_more refs i none inside)

-- one of them has a class
pub class_next : (b : Bones) (refs : List Ref) (i : ℕ) (none : Ref) (class : ℕ) (classes more : List (Ref × ℕ)) (whole : Answer (List (Ref × ℕ))) → i < length refs → whole ≡ with_more classes (classes_behind b (drop i refs))
    → refusing (class_behind (get_or refs i none) (object_of b (get_or refs i none))) ≡ Ok class → more ≡ classes ++ (get_or refs i none, class) ∷ [] → whole ≡ with_more more (classes_behind b (drop (i + 1) refs))
class_next b refs i none class classes more whole inside is at pushed =
    let r : Ref = get_or refs i none in
    is ∙ left_by b refs i none classes inside ∙ ap (then_more b r (drop (i + 1) refs) classes) (refusing_ok (class_behind r (object_of b r)) class at)
    ∙ one_more r class classes (classes_behind b (drop (i + 1) refs)) ∙ ap (λ (cs : List (Ref × ℕ)). with_more cs (classes_behind b (drop (i + 1) refs))) (sym pushed)

-- one of them is refused
refused_more : (b : Bones) (r : Ref) (refs : List Ref) (classes : List (Ref × ℕ)) (a : Answer ℕ) (why : Why) → refusing a ≡ Err why → refusing (then_more b r refs classes a) ≡ Err why
refused_more b r refs classes (Ok class) why is = absurd (cc (is))
refused_more b r refs classes (Err refusal) why is = let same : Refusal refusal ≡ why = cc (is) in ap Err same

turned_at : (b : Bones) (r : Ref) (refs : List Ref) (classes : List (Ref × ℕ)) (t : Turned) (whole : Answer (List (Ref × ℕ))) → whole ≡ with_more classes (classes_behind b (r ∷ refs))
    → Answers {R = ℕ} (refusing (class_behind r (object_of b r))) (Err t) → Answers {R = List (Ref × ℕ)} (refusing whole) (Err t)
turned_at b r refs classes (turned.Refused why) whole is at = ap refusing is ∙ refused_more b r refs classes (class_behind r (object_of b r)) why at
turned_at b r refs classes turned.Memory whole is at = tt
turned_at b r refs classes turned.DiskFault whole is at = tt
turned_at b r refs classes (turned.Damaged key) whole is at = tt

pub turned_next : (b : Bones) (refs : List Ref) (i : ℕ) (none : Ref) (classes : List (Ref × ℕ)) (t : Turned) (whole : Answer (List (Ref × ℕ))) (holds : Type 0) → i < length refs → whole ≡ with_more classes (classes_behind b (drop i refs))
    → AnswersOver {R = ℕ} (refusing (class_behind (get_or refs i none) (object_of b (get_or refs i none)))) (Err t) holds → AnswersOver {R = List (Ref × ℕ)} (refusing whole) (Err t) holds
turned_next b refs i none classes t whole holds inside is over = record {
  says = turned_at b (get_or refs i none) (drop (i + 1) refs) classes t whole (is ∙ left_by b refs i none classes inside) over.says;
  sound = over.sound;
  keeps = over.keeps;
}

-- none is left
pub none_left : (b : Bones) (refs : List Ref) (classes : List (Ref × ℕ)) (whole : Answer (List (Ref × ℕ))) → whole ≡ with_more classes (classes_behind b refs) → refs ≡ [] → refusing whole ≡ Ok classes
none_left b refs classes whole is none = ap refusing (is ∙ ap (λ (rs : List Ref). with_more classes (classes_behind b rs)) none) ∙ ap Ok (append-nil classes)
