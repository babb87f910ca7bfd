-- Two checks of a class, of which the second is behind a change: what comes out is anew, its triggers too.
use Rattle.std.proofs.Common.{◌≡◌, ◌≤◌, ℕ, List, [], ◌∷◌, ◌++◌, fold, length, Bool, true, false, Option, Some, None, Ok, refl, ap, sym, ◌∙◌, subst, arith}
use Rattle.std.specs.List.{AllByRecursion}
use Rattle.std.specs.Option.{option_map}
use Rattle.std.proofs.lemmas.List.Elements.{AllZip-push}
use Rattle.ode_value.specs.declared.change.Added.{Added}
use Rattle.ode_value.specs.declared.class.Class.{Class}
use Rattle.ode_value.specs.declared.class.Field.{Field}
use Rattle.ode_value.specs.declared.event.EventExpr.{EventExpr}
use Rattle.ode_value.specs.declared.member.TriggerDecl.{TriggerDecl}
use Rattle.ode_value.specs.declared.statement.ClassDecl.{ClassDecl}
use Rattle.ode_value.specs.declared.statement.Member.{Member}
use Rattle.ode_value.specs.declared.statement.Member.TheVariants as member
use Rattle.ode_value.specs.declared.statement.Sort.TheVariants as sort
use Rattle.ode_types.specs.Declaring.{with_added, with_member}
use Rattle.ode_types.specs.Events.{listed}
use Rattle.ode_types.specs.Limits.{field_limit, slot_limit}
use Rattle.ode_types.specs.Scopes.{member_scope}
use Rattle.ode_types.specs.Static.{check_grown}
use Rattle.ode_types.proofs.CheckedClasses.{came_of, CameOf}
use Rattle.ode_types.proofs.KeptHeads.{head}
use Rattle.ode_accepted_laws.proofs.Members.{accepted, AreApart, AreFields}
use Rattle.ode_change_laws.specs.Moves.{event_where}
use Rattle.ode_anew_laws.specs.Anew.{AreAnew, Changed, IsAnew, IsCheckedAnew, Same, Way, flag_of}
use Rattle.ode_anew_laws.proofs.AnewClasses.{BeginAnew, by_heads, changed_anew, draft_head, drafts_anew, parent_gets}
use Rattle.ode_anew_laws.proofs.AnewTriggers.{events_elsewhere, events_there, triggers_anew}

-- ---- parents

member_parent : (c : Class) (m : Member) → (with_member c m).parent ≡ c.parent
member_parent c (member.Field name s) = refl
member_parent c (member.Method m) = refl
member_parent c (member.Constraint x) = refl
member_parent c (member.Events kinds) = refl
member_parent c (member.Trigger t) = refl

members_parent : (ms : List Member) (c : Class) → (fold with_member c ms).parent ≡ c.parent
members_parent [] c = refl
members_parent (m ∷ ms) c = members_parent ms (with_member c m) ∙ member_parent c m

grown_parent : (added : List Added) (c : Class) → (fold with_added c added).parent ≡ c.parent
grown_parent [] c = refl
grown_parent (a ∷ added) c = grown_parent added (with_added c a)

kept_parent : (known : List Class) (added : List Added) (d : ClassDecl) (c : Class) (came : CameOf known added d c) → c.parent ≡ came.start.parent
kept_parent known added d c came =
    ap (λ (x : Class). x.parent) (sym came.made) ∙ grown_parent added (fold with_member came.start came.members) ∙ members_parent came.members came.start

-- ---- fields

abbrev pub HaveFields : List Class → Type 0
HaveFields cs = AllByRecursion (λ (c : Class). AreFields c.fields) cs

in_fields : field_limit ≤ slot_limit
unfolding field_limit slot_limit
in_fields = omega arith

record HasFields (c : Class) : Type 0 where
  few : length c.fields ≤ slot_limit
  apart : AreApart c.fields

has_fields : (known : List Class) (added : List Added) (d : ClassDecl) (c : Class) → HaveFields known → check_grown known added d ≡ Ok c → HasFields c
has_fields known added d c all h =
    let is = accepted known all c (record { tree = d; added = added; checks = h }) in
    let few : length c.fields ≤ slot_limit = let low : length c.fields ≤ field_limit = is.few in omega (arith, low, in_fields) in
    record { few = few; apart = is.has.fields.apart few }

-- ---- one class

module _ (at : ℕ) (new : List Field) (test : ℕ → Bool) where
  module _ (known others : List Class) (all : AreAnew at new test known others) (fields : HaveFields known) (more_fields : HaveFields others) (d : ClassDecl) where
    parent_flag : (own : List Added) (c : Class) (one : CameOf known own d c) (other : Class) (b : BeginAnew at new test known d one.start other) → parent_gets at new test b.parent ≡ flag_of test c.parent
    parent_flag own c one other b = by_parent b.parent ∙ ap (flag_of test) (sym b.number) ∙ ap (flag_of test) (sym (kept_parent known own d c one)) where
      by_parent : (p : Option Class) → parent_gets at new test p ≡ flag_of test (option_map (λ (x : Class). x.number) p)
      by_parent None = refl
      by_parent (Some p) = refl

    -- by the drafts of both
    by_drafts : (own then : List Added) (c e : Class) (h : check_grown known own d ≡ Ok c) (k : check_grown others then d ≡ Ok e) (one : CameOf known own d c) (two : CameOf others then d e)
        → IsAnew at new (test c.number) one.draft two.draft → IsCheckedAnew at new test c e
    by_drafts own then c e h k one two a = record {
      class = by_heads at new (test c.number) one.draft c two.draft e first second a;
      triggers = triggers_anew (event_where at (length new) (test c.number)) known others own then d c e one two (by_gets (test c.number) same a);
    }
      where
        first : head one.draft ≡ head c
        first = draft_head known own d c one

        second : head two.draft ≡ head e
        second = draft_head others then d e two

        old : HasFields c
        old = has_fields known own d c fields h

        young : HasFields e
        young = has_fields others then d e more_fields k

        same : test one.draft.number ≡ test c.number
        same = ap (λ (x : Class). test x.number) first

        by_gets : (gets : Bool) → test one.draft.number ≡ gets → IsAnew at new gets one.draft two.draft
            → (t : TriggerDecl) (x y : EventExpr) → listed t.event (member_scope (known ++ one.draft ∷ []) one.draft t.name t.params sort.Void) ≡ Ok x
            → listed t.event (member_scope (others ++ two.draft ∷ []) two.draft t.name t.params sort.Void) ≡ Ok y → y ≡ event_where at (length new) gets x
        by_gets true is b =
            events_there at new test (known ++ one.draft ∷ []) (others ++ two.draft ∷ [])
            (AllZip-push (λ (x y : Class). IsAnew at new (test x.number) x y) known others one.draft two.draft all (subst (λ g. IsAnew at new g one.draft two.draft) (sym is) b)) one.draft two.draft b
            (subst (λ (fs : List Field). length fs ≤ slot_limit) (ap (λ (x : Class). x.fields) (sym first)) old.few)
            (subst (λ (fs : List Field). length fs ≤ slot_limit) (ap (λ (x : Class). x.fields) (sym second)) young.few)
            (subst AreApart (ap (λ (x : Class). x.fields) (sym second)) young.apart)
        by_gets false is b =
            events_elsewhere at new test (known ++ one.draft ∷ []) (others ++ two.draft ∷ [])
            (AllZip-push (λ (x y : Class). IsAnew at new (test x.number) x y) known others one.draft two.draft all (subst (λ g. IsAnew at new g one.draft two.draft) (sym is) b)) one.draft two.draft b

    same_anew : (own : List Added) (c e : Class) → test c.number ≡ flag_of test c.parent → check_grown known own d ≡ Ok c → check_grown others own d ≡ Ok e → IsCheckedAnew at new test c e
    same_anew own c e gets h k =
        let one = came_of known own d c h in
        let two = came_of others own d e k in
        let drafts = drafts_anew at new test known others all d own c e one two in
        let flag = parent_flag own c one two.start drafts.0 ∙ sym gets in
        by_drafts own own c e h k one two (subst (λ g. IsAnew at new g one.draft two.draft) flag drafts.1)

    pub class_anew : (own then : List Added) (c e : Class) → Way at new test own then c → check_grown known own d ≡ Ok c → check_grown others then d ≡ Ok e → IsCheckedAnew at new test c e
    class_anew own then c e (Same is gets) h k = same_anew own c e gets h (subst (λ added. check_grown others added d ≡ Ok e) is k)
    class_anew own then c e (Changed more is fresh here gets none) h k =
        let again : check_grown others (own ++ more) d ≡ Ok e = subst (λ added. check_grown others added d ≡ Ok e) is k in
        let one = came_of known own d c h in
        let two = came_of others (own ++ more) d e again in
        let drafts = changed_anew at new test known others all d own more c e one two fresh here (λ b. parent_flag own c one two.start b ∙ none) in
        by_drafts own (own ++ more) c e h again one two (subst (λ g. IsAnew at new g one.draft two.draft) (sym gets) drafts)
