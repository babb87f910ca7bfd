-- What stands in a class that is checked anew sees what it saw, with the places of its fields moved.
use Rattle.std.proofs.Common.{◌≡◌, ◌≤◌, ℕ, zero, suc, ◌+◌, ◌-◌, List, [], ◌∷◌, ◌++◌, map, length, take, reverse, slice_get, Bool, true, false, cond, Option, Some, None, refl, ap, sym, ◌∙◌, subst, arith}
use Rattle.std.specs.Prelude.{◌==◌, ◌||◌}
use Rattle.std.specs.List.{AllZip, enumerate_from, find, flat_map, list_any}
use Rattle.std.specs.Option.{option_and_then, option_map_or, unwrap_or}
use Rattle.std.specs.Str.{bytes_eq}
use Rattle.std.proofs.lemmas.List.{map-append, reverse-append}
use Rattle.std.proofs.lemmas.List.Elements.{AllZip-push}
use Rattle.std.proofs.lemmas.Slice.Eq.{bytes_eq-Decides}
use Rattle.ode_value.specs.declared.binding.Param.{Param}
use Rattle.ode_value.specs.declared.class.Class.{Class}
use Rattle.ode_value.specs.declared.class.Field.{Field}
use Rattle.ode_value.specs.declared.event.Kind.{Kind}
use Rattle.ode_value.specs.declared.member.Method.{Method}
use Rattle.ode_value.specs.declared.statement.Sort.{Sort}
use Rattle.ode_value.specs.declared.statement.Sort.TheVariants as sort
use Rattle.ode_value.specs.declared.value.Value.{Value}
use Rattle.ode_value.specs.declared.value.Value.TheVariants as value
use Rattle.ode_value.specs.Fields.{put_in}
use Rattle.ode_value.specs.Moving.{moved}
use Rattle.ode_value.specs.Same.{same_kind}
use Rattle.ode_types.specs.Events.{event_method_in, kind_method}
use Rattle.ode_types.specs.Families.{ancestors_of, class_named, field_named, is_a, line_of, method_named, upward}
use Rattle.ode_types.specs.Limits.{slot_limit}
use Rattle.ode_types.specs.Scopes.{member_scope}
use Rattle.ode_types.specs.Sorts.{fits}
use Rattle.ode_types.specs.Typing.{value_sort}
use Rattle.ode_types.proofs.KeptHeads.{method_head}
use Rattle.ode_accepted_laws.proofs.Members.{AreApart, first_named}
use Rattle.ode_moved_laws.specs.Wider.{IsWider}
use Rattle.ode_anew_laws.specs.Anew.{AreAnew, IsAnew}
use Rattle.ode_anew_laws.proofs.AnewClasses.{PairAnew, named_pair}

-- ---- the values at the places

behind_gets : {X : Type 0} (new xs : List X) (i : ℕ) → slice_get (new ++ xs) (length new + i) ≡ slice_get xs i
behind_gets [] xs i = let here : 0 + i ≡ i = omega arith in ap (slice_get xs) here
behind_gets (n ∷ new) xs i = let here : length (n ∷ new) + i ≡ suc (length new + i) = omega arith in ap (slice_get (n ∷ (new ++ xs))) here ∙ behind_gets new xs i

moved_gets : {X : Type 0} (at : ℕ) (new xs : List X) (i : ℕ) → slice_get (put_in at new xs) (moved at (length new) i) ≡ slice_get xs i
moved_gets zero new xs i = behind_gets new xs i
moved_gets (suc at) new [] i = refl
moved_gets (suc at) new (x ∷ xs) zero = refl
moved_gets (suc at) new (x ∷ xs) (suc i) = moved_gets at new xs i

pub moved_none : (at p : ℕ) → moved at 0 p ≡ p
moved_none zero p = let here : 0 + p ≡ p = omega arith in here
moved_none (suc at) zero = refl
moved_none (suc at) (suc p) = ap suc (moved_none at p)

-- ---- a field by its name

abbrev has_name : List ℕ → ℕ × Field → Bool
has_name name f = bytes_eq f.1.name name

-- where the first one of a name stands
record FoundAt (k : ℕ) (fields : List Field) (name : List ℕ) (f : ℕ × Field) : Type 0 where
  place : ℕ
  is : f.0 ≡ k + place
  there : slice_get fields place ≡ Some f.1
  named : f.1.name ≡ name

found_at : (k : ℕ) (fields : List Field) (name : List ℕ) (f : ℕ × Field) → find (has_name name) (enumerate_from k fields) ≡ Some f → FoundAt k fields name f
found_at k [] name f h = absurd (cc)
found_at k (g ∷ fields) name f h = by_name (bytes_eq g.name name) (λ is. (bytes_eq-Decides g.name name).0 is) h (found_at (k + 1) fields name f) where
  by_name : (b : Bool) → (b ≡ true → g.name ≡ name) → cond b (Some (k, g)) (find (has_name name) (enumerate_from (k + 1) fields)) ≡ Some f
      → (find (has_name name) (enumerate_from (k + 1) fields) ≡ Some f → FoundAt (k + 1) fields name f) → FoundAt k (g ∷ fields) name f
  by_name true same is rest =
      let here : k ≡ k + 0 = omega arith in
      let it : (k, g) ≡ f = cc in
      subst (FoundAt k (g ∷ fields) name) it (record { place = 0; is = here; there = refl; named = same refl })
  by_name false same is rest =
      let r = rest is in
      let place : f.0 ≡ k + 1 + r.place = r.is in
      record { place = suc r.place; is = omega (arith, place); there = r.there; named = r.named }

all_taken : {X : Type 0} (n : ℕ) (xs : List X) → length xs ≤ n → take n xs ≡ xs
all_taken zero [] few = refl
all_taken zero (x ∷ xs) few = absurd (omega (arith, few))
all_taken (suc n) [] few = refl
all_taken (suc n) (x ∷ xs) few = ap (λ ys. x ∷ ys) (all_taken n xs (omega (arith, few)))

slots_are : (fields : List Field) → length fields ≤ slot_limit → (name : List ℕ) → field_named fields name ≡ first_named fields name
slots_are fields few name = let within : length fields ≤ slot_limit - 0 = omega (arith, few) in ap (λ fs. find (has_name name) (enumerate_from 0 fs)) (all_taken (slot_limit - 0) fields within)

-- ---- lines of classes

-- what is seen of a class in a line
record IsSeen (c d : Class) : Type 0 where
  name : d.name ≡ c.name
  methods : map method_head d.methods ≡ map method_head c.methods

zip_reverse : (R : Class → Class → Type 0) (xs ys : List Class) → AllZip R xs ys → AllZip R (reverse xs) (reverse ys)
zip_reverse R [] [] all = all
zip_reverse R [] (y ∷ ys) all = absurd all
zip_reverse R (x ∷ xs) [] all = absurd all
zip_reverse R (x ∷ xs) (y ∷ ys) all =
    subst (λ zs. AllZip R zs (reverse (y ∷ ys))) (sym (reverse-append (x ∷ []) xs))
    (subst (AllZip R (reverse xs ++ x ∷ [])) (sym (reverse-append (y ∷ []) ys)) (AllZip-push R (reverse xs) (reverse ys) x y (zip_reverse R xs ys all.1) all.0))

module _ (at : ℕ) (new : List Field) (test : ℕ → Bool) where
  seen_of : (gets : Bool) (c d : Class) → IsAnew at new gets c d → IsSeen c d
  seen_of gets c d a = record { name = a.name; methods = a.methods }

  up_anew : (cs ds : List Class) → AreAnew at new test cs ds → (n : ℕ) → AllZip IsSeen (upward n cs) (upward n ds)
  up_anew [] [] all n = tt
  up_anew [] (d ∷ ds) all n = absurd all
  up_anew (c ∷ cs) [] all n = absurd all
  up_anew (c ∷ cs) (d ∷ ds) all n =
      subst (λ m. AllZip IsSeen (upward n (c ∷ cs)) (cond (m == n) (d ∷ upward (unwrap_or d.parent 0) ds) (upward n ds))) (sym all.0.number)
      (subst (λ p. AllZip IsSeen (upward n (c ∷ cs)) (cond (c.number == n) (d ∷ upward (unwrap_or p 0) ds) (upward n ds))) (sym all.0.parent)
      (by_number (c.number == n) (up_anew cs ds all.1 (unwrap_or c.parent 0)) (up_anew cs ds all.1 n))) where
        by_number : (b : Bool) → AllZip IsSeen (upward (unwrap_or c.parent 0) cs) (upward (unwrap_or c.parent 0) ds) → AllZip IsSeen (upward n cs) (upward n ds)
            → AllZip IsSeen (cond b (c ∷ upward (unwrap_or c.parent 0) cs) (upward n cs)) (cond b (d ∷ upward (unwrap_or c.parent 0) ds) (upward n ds))
        by_number true above rest = (seen_of (test c.number) c d all.0, above)
        by_number false above rest = rest

  line_anew : (cs ds : List Class) → AreAnew at new test cs ds → (gets : Bool) (c d : Class) → IsAnew at new gets c d → AllZip IsSeen (line_of cs c) (line_of ds d)
  line_anew cs ds all gets c d a =
      let up = up_anew (reverse cs) (reverse ds) (zip_reverse (λ (x y : Class). IsAnew at new (test x.number) x y) cs ds all) (unwrap_or c.parent 0) in
      (seen_of gets c d a, subst (λ p. AllZip IsSeen (ancestors_of cs c) (upward (unwrap_or p 0) (reverse ds))) (sym a.parent) up)

any_named : (xs ys : List Class) → AllZip IsSeen xs ys → (name : List ℕ) → list_any (λ (e : Class). bytes_eq e.name name) ys ≡ list_any (λ (e : Class). bytes_eq e.name name) xs
any_named [] [] all name = refl
any_named [] (y ∷ ys) all name = absurd all
any_named (x ∷ xs) [] all name = absurd all
any_named (x ∷ xs) (y ∷ ys) all name =
    ap (λ n. bytes_eq n name || list_any (λ (e : Class). bytes_eq e.name name) ys) all.0.name ∙ ap (λ b. bytes_eq x.name name || b) (any_named xs ys all.1 name)

abbrev methods_in : List Class → List Method
methods_in line = flat_map (λ (e : Class). e.methods) line

all_methods : (xs ys : List Class) → AllZip IsSeen xs ys → map method_head (methods_in ys) ≡ map method_head (methods_in xs)
all_methods [] [] all = refl
all_methods [] (y ∷ ys) all = absurd all
all_methods (x ∷ xs) [] all = absurd all
all_methods (x ∷ xs) (y ∷ ys) all =
    map-append method_head y.methods (methods_in ys) ∙ ap (λ ms. ms ++ map method_head (methods_in ys)) all.0.methods ∙ ap (λ ms. map method_head x.methods ++ ms) (all_methods xs ys all.1)
    ∙ sym (map-append method_head x.methods (methods_in xs))

abbrev params_of : Option Method → List Param
params_of o = option_map_or (λ (m : Method). m.params) o []

-- a method's parameters are seen in its head
head_params : (ms : List Method) (name : List ℕ) → params_of (find (λ (m : Method). bytes_eq m.name name) (map method_head ms)) ≡ params_of (find (λ (m : Method). bytes_eq m.name name) ms)
head_params [] name = refl
head_params (m ∷ ms) name = by_name (bytes_eq m.name name) (head_params ms name) where
  by_name : (b : Bool) → params_of (find (λ (n : Method). bytes_eq n.name name) (map method_head ms)) ≡ params_of (find (λ (n : Method). bytes_eq n.name name) ms)
      → params_of (cond b (Some (method_head m)) (find (λ (n : Method). bytes_eq n.name name) (map method_head ms))) ≡ params_of (cond b (Some m) (find (λ (n : Method). bytes_eq n.name name) ms))
  by_name true rest = refl
  by_name false rest = rest

same_params : (xs ys : List Class) → AllZip IsSeen xs ys → (name : List ℕ) → params_of (method_named ys name) ≡ params_of (method_named xs name)
same_params xs ys all name =
    sym (head_params (methods_in ys) name) ∙ ap (λ ms. params_of (find (λ (m : Method). bytes_eq m.name name) ms)) (all_methods xs ys all) ∙ head_params (methods_in xs) name

-- ---- the scopes of members

module _ (at : ℕ) (new : List Field) (test : ℕ → Bool) (cs ds : List Class) (all : AreAnew at new test cs ds) (gets : Bool) (c d : Class) (a : IsAnew at new gets c d) where
  fits_anew : (o : Option Sort) (u : Sort) → fits cs o u ≡ true → fits ds o u ≡ true
  fits_anew None u h = h
  fits_anew (Some (sort.Reference sub)) (sort.Reference name) h = by_pair (class_named cs sub) (class_named ds sub) (named_pair at new test cs ds all sub) h where
    by_pair : (p q : Option Class) → PairAnew at new test p q → option_map_or (λ (e : Class). is_a cs e name) p false ≡ true → option_map_or (λ (e : Class). is_a ds e name) q false ≡ true
    by_pair None None pair is = is
    by_pair None (Some y) pair is = absurd pair
    by_pair (Some x) None pair is = absurd pair
    by_pair (Some x) (Some y) pair is = any_named (line_of cs x) (line_of ds y) (line_anew at new test cs ds all (test x.number) x y pair) name ∙ is
  fits_anew (Some (sort.Reference sub)) sort.Int h = h
  fits_anew (Some (sort.Reference sub)) sort.Bool h = h
  fits_anew (Some (sort.Reference sub)) sort.Text h = h
  fits_anew (Some (sort.Reference sub)) sort.Void h = h
  fits_anew (Some sort.Int) u h = h
  fits_anew (Some sort.Bool) u h = h
  fits_anew (Some sort.Text) u h = h
  fits_anew (Some sort.Void) u h = h

  literals_anew : (v : Value) (o : Option (Option Sort)) → value_sort cs [] v ≡ o → value_sort ds [] v ≡ o
  literals_anew (value.Int n) o h = h
  literals_anew (value.Bool b) o h = h
  literals_anew (value.Text t) o h = h
  literals_anew (value.Reference r) o h = h

  params_anew : (k : Kind) → params_of (event_method_in ds (Some d) k) ≡ params_of (event_method_in cs (Some c) k)
  params_anew k = by_kind (kind_method k) where
    by_kind : (o : Option (List ℕ)) → params_of (option_and_then (λ name. method_named (line_of ds d) name) o) ≡ params_of (option_and_then (λ name. method_named (line_of cs c) name) o)
    by_kind None = refl
    by_kind (Some name) = same_params (line_of cs c) (line_of ds d) (line_anew at new test cs ds all gets c d a) name

  listed_anew : (k : Kind) → list_any (same_kind k) c.kinds ≡ true → list_any (same_kind k) d.kinds ≡ true
  listed_anew k h = ap (list_any (same_kind k)) a.kinds ∙ h

module _ (at : ℕ) (new : List Field) (test : ℕ → Bool) (cs ds : List Class) (all : AreAnew at new test cs ds) (c d : Class) (name : List ℕ) (params : List Param) (result : Sort) where
  -- where the class gets the fields
  pub wider_there : IsAnew at new true c d → length c.fields ≤ slot_limit → length d.fields ≤ slot_limit → AreApart d.fields
      → IsWider at (length new) (member_scope cs c name params result) (member_scope ds d name params result)
  wider_there a few many apart = record {
    seen = refl;
    next = refl;
    plain = refl;
    own = own;
    literals = λ v o. literals_anew at new test cs ds all true c d a v (Some o);
    fits = fits_anew at new test cs ds all true c d a;
    params = params_anew at new test cs ds all true c d a;
    listed = listed_anew at new test cs ds all true c d a;
  }
    where
      own : (field : List ℕ) (f : ℕ × Field) → field_named c.fields field ≡ Some f → field_named d.fields field ≡ Some (moved at (length new) f.0, f.1)
      own field f h =
          let found = found_at 0 c.fields field f (sym (slots_are c.fields few field) ∙ h) in
          let place : f.0 ≡ found.place = let is : f.0 ≡ 0 + found.place = found.is in omega (arith, is) in
          let there : slice_get d.fields (moved at (length new) f.0) ≡ Some f.1 =
          ap (λ (fs : List Field). slice_get fs (moved at (length new) f.0)) a.fields ∙ moved_gets at new c.fields f.0 ∙ ap (slice_get c.fields) place ∙ found.there in
          slots_are d.fields many field ∙ ap (first_named d.fields) (sym found.named) ∙ apart (moved at (length new) f.0) f.1 there

  -- and where it doesn't
  pub wider_elsewhere : IsAnew at new false c d → IsWider at 0 (member_scope cs c name params result) (member_scope ds d name params result)
  wider_elsewhere a = record {
    seen = refl;
    next = refl;
    plain = refl;
    own = λ field f h. ap (λ (fs : List Field). field_named fs field) a.fields ∙ h ∙ ap (λ n. Some (n, f.1)) (sym (moved_none at f.0));
    literals = λ v o. literals_anew at new test cs ds all false c d a v (Some o);
    fits = fits_anew at new test cs ds all false c d a;
    params = params_anew at new test cs ds all false c d a;
    listed = listed_anew at new test cs ds all false c d a;
  }
