-- What the machine answers a change, by what was read of the records.
use Rattle.std.proofs.Common.{◌≡◌, ◌∙◌, ◌++◌, List, [], ◌∷◌, map, Some, None, Result, Ok, Err, refl, ap, sym, subst}
use Rattle.std.specs.Option.{IsSome}
use Rattle.std.specs.Prelude.{IfErr, IfOk}
use Rattle.ode_change.specs.Changing.{Changes}
use Rattle.ode_change_laws.specs.Behind.{IsBehind}
use Rattle.ode_change_laws.specs.Moves.{new_fields}
use Rattle.ode_change_laws.proofs.PlainClasses.{all-plain-anew, named-same}
use Rattle.ode_changed_laws.specs.Known.{IsKnown, class_by_class}
use Rattle.ode_changed_laws.proofs.Same.{named-checked}
use Rattle.ode_codec.specs.declared.record.Counters.{Counters}
use Rattle.ode_evolve.proofs.ChangedLaws.{AreGrown, changed_is}
use Rattle.ode_evolve.specs.Evolving.{change_class}
use Rattle.ode_heap.specs.Answering.{class_of}
use Rattle.ode_language.specs.Languages.{ode}
use Rattle.ode_machine.specs.Refusals.{changed_in, declared_anew, trees_in}
use Rattle.ode_types.specs.Families as checked
use Rattle.ode_value.specs.Answers.{Answer, ◌>>=◌, checks}
use Rattle.ode_value.specs.Changing.{changed_place}
use Rattle.ode_value.specs.Classes.{is_a}
use Rattle.ode_value.specs.Worlds.{Bones, Declared, class_named}
use Rattle.ode_value.specs.declared.change.Added.{Added}
use Rattle.ode_value.specs.declared.change.Change.{Change}
use Rattle.ode_value.specs.declared.class.Class.{Class}
use Rattle.ode_value.specs.declared.reason.CheckError.{CheckError}
use Rattle.ode_value.specs.declared.reason.Refusal.{Refusal}
use Rattle.ode_value.specs.declared.statement.ClassDecl.{ClassDecl}

-- ---- the classes anew

regrown : (added : List Added) (known : List Class) (ds : List Declared) (cs : List Class) → AreGrown added known (map (λ (d : Declared). d.tree) ds) cs → map class_of (declared_anew cs ds) ≡ cs
regrown added known [] [] all = refl
regrown added known [] (c ∷ cs) all = absurd all
regrown added known (d ∷ ds) [] all = absurd all
regrown added known (d ∷ ds) (c ∷ cs) all = ap (λ (more : List Class). c ∷ more) (regrown added (known ++ c ∷ []) ds cs all.1)

abbrev Judged : Type 0
Judged = Result (List Class) CheckError

abbrev answer_by : List Declared → Answer (List Class) → Answer (List Declared)
answer_by ds a = a >>= λ cs. Ok (declared_anew cs ds)

given : (m : Judged) (cs : List Class) → checks m ≡ Ok cs → m ≡ Ok cs
given (Ok ds) cs is = let same : ds ≡ cs = cc (is) in ap (λ (x : List Class). Ok x) same
given (Err why) cs is = absurd (cc (is))

accepted_in : (ds : List Declared) (a : Answer (List Class)) (cs : List Class) (classes : List Declared) → a ≡ Ok cs → answer_by ds a ≡ Ok classes → declared_anew cs ds ≡ classes
accepted_in ds (Ok es) cs classes one other =
    let same : es ≡ cs = cc (one) in
    let made : declared_anew es ds ≡ classes = cc (other) in
    ap (λ (x : List Class). declared_anew x ds) (sym same) ∙ made
accepted_in ds (Err why) cs classes one other = absurd (cc (one))

refused_in : (ds : List Declared) (a : Answer (List Class)) (why : Refusal) → answer_by ds a ≡ Err why → a ≡ Err why
refused_in ds (Ok es) why is = absurd (cc (is))
refused_in ds (Err said) why is = let same : said ≡ why = cc (is) in ap (λ (x : Refusal). Err x) same

module _ (b : Bones) (c : Change) (counters : Counters) (trees : List ClassDecl) (added : List Added) (known : IsKnown b counters trees added)
    (judged : change_class (trees_in b) (class_by_class b) c ≡ change_class (trees_in b) b.added c) where
  -- it is judged as in the machine
  same_judged : change_class trees added c ≡ change_class (trees_in b) b.added c
  same_judged = ap (λ (ts : List ClassDecl). change_class ts added c) known.trees ∙ ap (λ (xs : List Added). change_class (trees_in b) xs c) known.added ∙ judged

  answer_is : changed_in ode b c ≡ answer_by b.classes (checks (change_class trees added c))
  answer_is = ap (λ (m : Judged). answer_by b.classes (checks m)) (sym same_judged)

  pub accepted_is : (cs : List Class) → checks (change_class trees added c) ≡ Ok cs → changed_in ode b c ≡ Ok (declared_anew cs b.classes)
  accepted_is cs is = answer_is ∙ ap (answer_by b.classes) is

  pub refused_is : (why : Refusal) → checks (change_class trees added c) ≡ Err why → changed_in ode b c ≡ Err why
  refused_is why is = answer_is ∙ ap (answer_by b.classes) is

  pub was_refused : (why : Refusal) → changed_in ode b c ≡ Err why → checks (change_class trees added c) ≡ Err why
  was_refused why is = refused_in b.classes (checks (change_class trees added c)) why (sym answer_is ∙ is)

  -- the classes that were checked are those of the machine
  pub classes_checked : (cs : List Class) → checks (change_class trees added c) ≡ Ok cs → (classes : List Declared) → changed_in ode b c ≡ Ok classes → cs ≡ map class_of classes
  classes_checked cs is classes accepted =
      let whole = given (change_class trees added c) cs is in
      let grown = (changed_is (trees_in b) b.added c cs (sym same_judged ∙ whole)).grown in
      let made = accepted_in b.classes (checks (change_class trees added c)) cs classes is (sym answer_is ∙ accepted) in
      sym (regrown _ [] b.classes cs grown) ∙ ap (map class_of) made

  -- so the changed class is among them
  pub named_checked : ((classes : List Declared) → changed_in ode b c ≡ Ok classes → IsBehind ode b c classes) → (cs : List Class) → checks (change_class trees added c) ≡ Ok cs → IsSome (checked.class_named cs c.class)
  named_checked behind cs is =
      let classes = declared_anew cs b.classes in
      let accepted = accepted_is cs is in
      let its = behind classes accepted in
      let same = all-plain-anew (changed_place b c) (new_fields b c classes) (λ n. is_a b.classes n c.class) b.classes classes its.behind in
      let there : IsSome (class_named c.class classes) = named-same b.classes classes same c.class its.named in
      subst (λ (ks : List Class). IsSome (checked.class_named ks c.class)) (sym (classes_checked cs is classes accepted)) (subst IsSome (sym (named-checked classes c.class)) there)

-- ---- how it is answered

pub comes_refused : (a : Answer (List Declared)) (why : Refusal) (unchanged : Type 0) (changed : List Declared → Type 0) → a ≡ Err why → unchanged → Changes a (Some why) unchanged changed
comes_refused a why unchanged changed is stays = subst (λ (x : Answer (List Declared)). Changes x (Some why) unchanged changed) (sym is) (refl, stays)

pub comes_changed : (a : Answer (List Declared)) (classes : List Declared) (unchanged : Type 0) (changed : List Declared → Type 0) → a ≡ Ok classes → changed classes → Changes a None unchanged changed
comes_changed a classes unchanged changed is done = subst (λ (x : Answer (List Declared)). Changes x None unchanged changed) (sym is) done

-- both can't be
pub not_both : {X : Type 0} (a : Answer (List Declared)) (classes : List Declared) (why : Refusal) → a ≡ Ok classes → a ≡ Err why → X
not_both a classes why is refused = absurd (cc (is, refused))

-- what is told of an answer, where it is this one
pub ok_is : {A E : Type 0} (r : Result A E) (x : A) (P : A → Type 0) → r ≡ Ok x → IfOk r P → P x
ok_is {A} {E} r x P is told = subst (λ (a : Result A E). IfOk a P) is told

pub err_is : {A E : Type 0} (r : Result A E) (e : E) (P : E → Type 0) → r ≡ Err e → IfErr r P → P e
err_is {A} {E} r e P is told = subst (λ (a : Result A E). IfErr a P) is told
