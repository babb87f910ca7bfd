-- Classes that are checked anew, of which some have new fields at a place: they are what they were, but for these and for their bodies.
use Rattle.std.proofs.Common.{◌≡◌, ◌≤◌, ℕ, zero, suc, ◌+◌, List, [], ◌∷◌, ◌++◌, fold, map, length, Bool, true, false, Option, Some, None, Ok, refl, ap, sym, ◌∙◌, subst, arith, append-nil, append_assoc, length-append}
use Rattle.std.specs.Prelude.{is_none, cond, nat_lt}
use Rattle.std.specs.Option.{option_map, option_map_or}
use Rattle.std.specs.Str.{bytes_eq}
use Rattle.std.proofs.lemmas.Bool.{false≢true}
use Rattle.std.proofs.lemmas.List.{map-append}
use Rattle.ode_value.specs.declared.change.Added.{Added}
use Rattle.ode_value.specs.declared.class.Class.{Class}
use Rattle.ode_value.specs.declared.class.Field.{Field}
use Rattle.ode_value.specs.declared.event.Kind.{Kind}
use Rattle.ode_value.specs.declared.member.Method.{Method}
use Rattle.ode_value.specs.declared.reason.CheckError.TheVariants.{Duplicate, TooMany, UnknownName}
use Rattle.ode_value.specs.declared.statement.ClassDecl.{ClassDecl}
use Rattle.ode_value.specs.declared.statement.Member.{Member}
use Rattle.ode_value.specs.declared.statement.Member.TheVariants as member
use Rattle.ode_value.specs.Fields.{field_of, put_in}
use Rattle.ode_types.specs.Checks.{◌>>=◌, found, needs}
use Rattle.ode_types.specs.Declaring.{begins, numbered, parent_in, with_added, with_member, without_members}
use Rattle.ode_types.specs.Families.{class_named}
use Rattle.ode_types.specs.Limits.{classes_limit}
use Rattle.ode_types.proofs.CheckedClasses.{bind-ok, CameOf}
use Rattle.ode_types.proofs.KeptClasses.{all-heads, declared-adds, head-fold, head-grown}
use Rattle.ode_types.proofs.KeptHeads.{head, method_head}
use Rattle.ode_types.proofs.KeptLaws.{found-ok}
use Rattle.ode_change_laws.specs.Moves.{fields_where}
use Rattle.ode_anew_laws.specs.Anew.{AreAnew, IsAnew}

-- ---- fields with new ones at a place

put_more : {X : Type 0} (at : ℕ) (new xs more : List X) → at ≤ length xs → put_in at new xs ++ more ≡ put_in at new (xs ++ more)
put_more zero new xs more low = append_assoc new xs more
put_more (suc at) new [] more low = absurd (omega (arith, low))
put_more (suc at) new (x ∷ xs) more low = ap (λ zs. x ∷ zs) (put_more at new xs more (omega (arith, low)))

put_end : {X : Type 0} (new xs : List X) → put_in (length xs) new xs ≡ xs ++ new
put_end new [] = append-nil new
put_end new (x ∷ xs) = ap (λ zs. x ∷ zs) (put_end new xs)

-- what added fields change
grown_is : (added : List Added) (c : Class) → fold with_added c added ≡ record c { fields = c.fields ++ map field_of added }
grown_is [] c = ap (λ (fs : List Field). record c { fields = fs }) (sym (append-nil c.fields))
grown_is (a ∷ added) c = grown_is added (with_added c a) ∙ ap (λ (fs : List Field). record c { fields = fs }) (append_assoc c.fields (field_of a ∷ []) (map field_of added))

-- the class behind the second pass has the head of the one behind the first
pub draft_head : (known : List Class) (added : List Added) (d : ClassDecl) (c : Class) (came : CameOf known added d c) → head came.draft ≡ head c
draft_head known added d c came =
    let start = came.start in
    let draft = came.draft in
    let ms = came.members in
    ap head (sym (declared-adds known d added start draft came.drafted)) ∙ head-grown added (fold with_member start d.members)
    ∙ ap (λ (x : Class). fold with_added x added)
    (head-fold d.members start ∙ ap (fold with_member (head start)) (sym (all-heads (known ++ draft ∷ []) draft d.members ms came.checked)) ∙ sym (head-fold ms start))
    ∙ sym (head-grown added (fold with_member start ms)) ∙ ap head came.made

module _ (at : ℕ) (new : List Field) where
  -- the same of what both are
  as_both : (gets : Bool) (c e d f : Class) → c ≡ e → d ≡ f → IsAnew at new gets c d → IsAnew at new gets e f
  as_both gets c e d f one two a = subst (λ x. IsAnew at new gets x f) one (subst (λ y. IsAnew at new gets c y) two a)

  where_more : (gets : Bool) (fields more : List Field) → (gets ≡ true → at ≤ length fields) → fields_where at new gets fields ++ more ≡ fields_where at new gets (fields ++ more)
  where_more false fields more low = refl
  where_more true fields more low = put_more at new fields more (low refl)

  -- with more fields behind both
  with_fields : (gets : Bool) (c d : Class) (more : List Field) → IsAnew at new gets c d → IsAnew at new gets (record c { fields = c.fields ++ more }) (record d { fields = d.fields ++ more })
  with_fields gets c d more a = record {
    number = a.number;
    name = a.name;
    parent = a.parent;
    kinds = a.kinds;
    fields = ap (λ (fs : List Field). fs ++ more) a.fields ∙ where_more gets c.fields more a.place;
    place = λ is. let low : at ≤ length c.fields = a.place is in omega (arith, low, length-append c.fields more);
    methods = a.methods;
  }

  -- with one member more
  with_one : (gets : Bool) (c d : Class) (m : Member) → IsAnew at new gets c d → IsAnew at new gets (with_member c m) (with_member d m)
  with_one gets c d (member.Field name s) a = with_fields gets c d (record { name = name; sort = s; birth = 0; literal = None } ∷ []) a
  with_one gets c d (member.Method m) a = record {
    number = a.number;
    name = a.name;
    parent = a.parent;
    kinds = a.kinds;
    fields = a.fields;
    place = a.place;
    methods = map-append method_head d.methods (m ∷ []) ∙ ap (λ (ms : List Method). ms ++ method_head m ∷ []) a.methods ∙ sym (map-append method_head c.methods (m ∷ []));
  }
  with_one gets c d (member.Constraint x) a = record { number = a.number; name = a.name; parent = a.parent; kinds = a.kinds; fields = a.fields; place = a.place; methods = a.methods }
  with_one gets c d (member.Events kinds) a =
      record { number = a.number; name = a.name; parent = a.parent; kinds = ap (λ (ks : List Kind). ks ++ kinds) a.kinds; fields = a.fields; place = a.place; methods = a.methods }
  with_one gets c d (member.Trigger t) a = record { number = a.number; name = a.name; parent = a.parent; kinds = a.kinds; fields = a.fields; place = a.place; methods = a.methods }

  with_all : (gets : Bool) (ms : List Member) (c d : Class) → IsAnew at new gets c d → IsAnew at new gets (fold with_member c ms) (fold with_member d ms)
  with_all gets [] c d a = a
  with_all gets (m ∷ ms) c d a = with_all gets ms (with_member c m) (with_member d m) (with_one gets c d m a)

  -- with the same added fields
  with_grown : (gets : Bool) (added : List Added) (c d : Class) → IsAnew at new gets c d → IsAnew at new gets (fold with_added c added) (fold with_added d added)
  with_grown gets added c d a =
      as_both gets (record c { fields = c.fields ++ map field_of added }) (fold with_added c added) (record d { fields = d.fields ++ map field_of added }) (fold with_added d added)
      (sym (grown_is added c)) (sym (grown_is added d)) (with_fields gets c d (map field_of added) a)

  -- the changed class itself: it gets the new fields behind all of its own
  with_new : (own more : List Added) (c d : Class) → map field_of more ≡ new → at ≡ length (c.fields ++ map field_of own) → IsAnew at new false c d
      → IsAnew at new true (fold with_added c own) (fold with_added d (own ++ more))
  with_new own more c d is here a =
      as_both true (record c { fields = c.fields ++ map field_of own }) (fold with_added c own) (record d { fields = d.fields ++ map field_of (own ++ more) }) (fold with_added d (own ++ more))
      (sym (grown_is own c)) (sym (grown_is (own ++ more) d)) (record {
        number = a.number;
        name = a.name;
        parent = a.parent;
        kinds = a.kinds;
        fields = behind;
        place = λ e. omega (arith, here);
        methods = a.methods;
      })
    where
      behind : d.fields ++ map field_of (own ++ more) ≡ put_in at new (c.fields ++ map field_of own)
      behind =
          ap (λ (fs : List Field). fs ++ map field_of (own ++ more)) a.fields
          ∙ ap (λ (fs : List Field). c.fields ++ fs) (map-append field_of own more ∙ ap (λ (fs : List Field). map field_of own ++ fs) is)
          ∙ sym (append_assoc c.fields (map field_of own) new)
          ∙ sym (put_end new (c.fields ++ map field_of own)) ∙ ap (λ n. put_in n new (c.fields ++ map field_of own)) (sym here)

  -- by what is seen of both
  pub by_heads : (gets : Bool) (c e d f : Class) → head c ≡ head e → head d ≡ head f → IsAnew at new gets c d → IsAnew at new gets e f
  by_heads gets c e d f one two a = record {
    number = sym (ap (λ (x : Class). x.number) two) ∙ a.number ∙ ap (λ (x : Class). x.number) one;
    name = sym (ap (λ (x : Class). x.name) two) ∙ a.name ∙ ap (λ (x : Class). x.name) one;
    parent = sym (ap (λ (x : Class). x.parent) two) ∙ a.parent ∙ ap (λ (x : Class). x.parent) one;
    kinds = sym (ap (λ (x : Class). x.kinds) two) ∙ a.kinds ∙ ap (λ (x : Class). x.kinds) one;
    fields = sym (ap (λ (x : Class). x.fields) two) ∙ a.fields ∙ ap (λ (x : Class). fields_where at new gets x.fields) one;
    place = λ is. subst (λ (fs : List Field). at ≤ length fs) (ap (λ (x : Class). x.fields) one) (a.place is);
    methods = sym (ap (λ (x : Class). x.methods) two) ∙ a.methods ∙ ap (λ (x : Class). x.methods) one;
  }

  -- ---- the classes that are known

  module _ (test : ℕ → Bool) where
    -- what is found in both
    abbrev pub PairAnew : Option Class → Option Class → Type 0
    PairAnew None None = Unit {0}
    PairAnew None (Some d) = ⊥
    PairAnew (Some c) None = ⊥
    PairAnew (Some c) (Some d) = IsAnew at new (test c.number) c d

    abbrev pub parent_gets : Option Class → Bool
    parent_gets o = option_map_or (λ (p : Class). test p.number) o false

    same_count : (cs ds : List Class) → AreAnew at new test cs ds → length ds ≡ length cs
    same_count [] [] all = refl
    same_count [] (d ∷ ds) all = absurd all
    same_count (c ∷ cs) [] all = absurd all
    same_count (c ∷ cs) (d ∷ ds) all = ap suc (same_count cs ds all.1)

    pub named_pair : (cs ds : List Class) → AreAnew at new test cs ds → (name : List ℕ) → PairAnew (class_named cs name) (class_named ds name)
    named_pair [] [] all name = tt
    named_pair [] (d ∷ ds) all name = absurd all
    named_pair (c ∷ cs) [] all name = absurd all
    named_pair (c ∷ cs) (d ∷ ds) all name =
        subst (λ n. PairAnew (class_named (c ∷ cs) name) (cond (bytes_eq n name) (Some d) (class_named ds name))) (sym all.0.name) (by_name (bytes_eq c.name name) (named_pair cs ds all.1 name)) where
          by_name : (b : Bool) → PairAnew (class_named cs name) (class_named ds name) → PairAnew (cond b (Some c) (class_named cs name)) (cond b (Some d) (class_named ds name))
          by_name true rest = all.0
          by_name false rest = rest

    parent_pair : (cs ds : List Class) → AreAnew at new test cs ds → (name : Option (List ℕ)) (p q : Option Class) → parent_in cs name ≡ Ok p → parent_in ds name ≡ Ok q → PairAnew p q
    parent_pair cs ds all None p q one two =
        let none : Option Class = None in
        let first : none ≡ p = cc in
        let second : none ≡ q = cc in
        subst (λ o. PairAnew o q) first (subst (PairAnew none) second tt)
    parent_pair cs ds all (Some name) p q one two =
        let first = bind-ok (found (UnknownName name) (class_named cs name)) (λ c. Ok (Some c)) p one in
        let second = bind-ok (found (UnknownName name) (class_named ds name)) (λ c. Ok (Some c)) q two in
        let here : Some first.0 ≡ p = cc (first.2) in
        let there : Some second.0 ≡ q = cc (second.2) in
        let pair = subst (λ o. PairAnew o (class_named ds name)) (found-ok (UnknownName name) (class_named cs name) first.0 first.1) (named_pair cs ds all name) in
        let both = subst (PairAnew (Some first.0)) (found-ok (UnknownName name) (class_named ds name) second.0 second.1) pair in
        subst (λ o. PairAnew o q) here (subst (PairAnew (Some first.0)) there both)

    -- a class without members of its own
    bare : (number : ℕ) (name : List ℕ) (p q : Option Class) → PairAnew p q → IsAnew at new (parent_gets p) (without_members number name p) (without_members number name q)
    bare number name None None pair = record { number = refl; name = refl; parent = refl; kinds = refl; fields = refl; place = λ is. absurd (false≢true is); methods = refl }
    bare number name None (Some d) pair = absurd pair
    bare number name (Some c) None pair = absurd pair
    bare number name (Some c) (Some d) pair =
        record { number = refl; name = refl; parent = ap (λ n. Some n) pair.number; kinds = pair.kinds; fields = pair.fields; place = pair.place; methods = refl }

    -- how both begin, with the parent
    pub record BeginAnew (known : List Class) (d : ClassDecl) (start other : Class) : Type 0 where
      pub parent : Option Class
      pub there : parent_in known d.parent ≡ Ok parent
      pub number : start.parent ≡ option_map (λ (p : Class). p.number) parent
      pub anew : IsAnew at new (parent_gets parent) start other

    begin_anew : (cs ds : List Class) → AreAnew at new test cs ds → (d : ClassDecl) (start other : Class) → begins cs d ≡ Ok start → begins ds d ≡ Ok other → BeginAnew cs d start other
    unfolding begins
    begin_anew cs ds all d start other one two =
        let first = bind-ok (needs (Duplicate d.name) (is_none (class_named cs d.name))) (λ _. parent_in cs d.parent >>= (λ parent. numbered cs d.name >>= (λ number. Ok (without_members number d.name parent)))) start one in
        let second = bind-ok (parent_in cs d.parent) (λ parent. numbered cs d.name >>= (λ number. Ok (without_members number d.name parent))) start first.2 in
        let third = bind-ok (numbered cs d.name) (λ number. Ok (without_members number d.name second.0)) start second.2 in
        let next = bind-ok (needs (TooMany d.name) (nat_lt (length cs) classes_limit)) (λ _. Ok (length cs + 1)) third.0 third.1 in
        let primo = bind-ok (needs (Duplicate d.name) (is_none (class_named ds d.name))) (λ _. parent_in ds d.parent >>= (λ parent. numbered ds d.name >>= (λ number. Ok (without_members number d.name parent)))) other two in
        let secondo = bind-ok (parent_in ds d.parent) (λ parent. numbered ds d.name >>= (λ number. Ok (without_members number d.name parent))) other primo.2 in
        let terzo = bind-ok (numbered ds d.name) (λ number. Ok (without_members number d.name secondo.0)) other secondo.2 in
        let other_next = bind-ok (needs (TooMany d.name) (nat_lt (length ds) classes_limit)) (λ _. Ok (length ds + 1)) terzo.0 terzo.1 in
        let is : without_members third.0 d.name second.0 ≡ start = cc (third.2) in
        let too : without_members terzo.0 d.name secondo.0 ≡ other = cc (terzo.2) in
        let counted : length cs + 1 ≡ third.0 = cc (next.2) in
        let counted_too : length ds + 1 ≡ terzo.0 = cc (other_next.2) in
        let same : third.0 ≡ terzo.0 = sym counted ∙ sym (ap (λ n. n + 1) (same_count cs ds all)) ∙ counted_too in
        let pair = parent_pair cs ds all d.parent second.0 secondo.0 second.1 secondo.1 in
        let both = subst (λ n. IsAnew at new (parent_gets second.0) (without_members third.0 d.name second.0) (without_members n d.name secondo.0)) same (bare third.0 d.name second.0 secondo.0 pair) in
        record { parent = second.0; there = second.1; number = ap (λ (x : Class). x.parent) (sym is); anew = as_both (parent_gets second.0) (without_members third.0 d.name second.0) start (without_members terzo.0 d.name secondo.0) other is too both }

    -- ---- a class that is checked anew

    module _ (cs ds : List Class) (all : AreAnew at new test cs ds) (d : ClassDecl) where
      -- one to which nothing is added that wasn't before: it gets the fields where its parent does
      pub drafts_anew : (added : List Added) (c e : Class) (one : CameOf cs added d c) (two : CameOf ds added d e)
          → (b : BeginAnew cs d one.start two.start) × IsAnew at new (parent_gets b.parent) one.draft two.draft
      drafts_anew added c e one two =
          let b = begin_anew cs ds all d one.start two.start one.begun two.begun in
          let gets = parent_gets b.parent in
          let members = with_grown gets added (fold with_member one.start d.members) (fold with_member two.start d.members) (with_all gets d.members one.start two.start b.anew) in (
            b,
            as_both gets (fold with_added (fold with_member one.start d.members) added) one.draft (fold with_added (fold with_member two.start d.members) added) two.draft
                (declared-adds cs d added one.start one.draft one.drafted) (declared-adds ds d added two.start two.draft two.drafted) members,
          )

      -- the changed class itself, whose parent gets none
      pub changed_anew : (own more : List Added) (c e : Class) (one : CameOf cs own d c) (two : CameOf ds (own ++ more) d e) → map field_of more ≡ new → at ≡ length c.fields
          → ((b : BeginAnew cs d one.start two.start) → parent_gets b.parent ≡ false) → IsAnew at new true one.draft two.draft
      changed_anew own more c e one two is here none =
          let b = begin_anew cs ds all d one.start two.start one.begun two.begun in
          let first : Class = fold with_member one.start d.members in
          let second : Class = fold with_member two.start d.members in
          let members : IsAnew at new false first second = with_all false d.members one.start two.start (subst (λ g. IsAnew at new g one.start two.start) (none b) b.anew) in
          let draft = declared-adds cs d own one.start one.draft one.drafted in
          let long : at ≡ length (first.fields ++ map field_of own) =
          here ∙ ap (λ (x : Class). length x.fields) (sym (draft_head cs own d c one) ∙ ap head (sym draft ∙ grown_is own first)) in
          as_both true (fold with_added first own) one.draft (fold with_added second (own ++ more)) two.draft draft (declared-adds ds d (own ++ more) two.start two.draft two.drafted)
          (with_new own more first second is long members)
