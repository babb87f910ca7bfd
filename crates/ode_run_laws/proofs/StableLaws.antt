-- References are stable over worlds of which each follows the one before it.
use Rattle.std.proofs.Common.{◌≡◌, ◌⊎◌, inl, inr, ℕ, ◌<◌, ◌≤◌, Bool, true, false, cond, List, [], ◌∷◌, length, ◌==◌, Option, Some, None, refl, sym, ap, ◌∙◌, subst, arith}
use Rattle.std.specs.List.{AllByRecursion}
use Rattle.std.specs.Option.{IfNone, MatchOption, option_and_then}
use Rattle.std.proofs.lemmas.Bool.{eqb-true}
use Rattle.ode_value.specs.declared.value.Ref.{Ref}
use Rattle.ode_value.specs.Denoting.{object_numbered, object_at, if_live, denotes}
use Rattle.ode_value.specs.Versions.{Version, version_numbered, newest, version_of}
use Rattle.ode_value.specs.Worlds.{Object, Bones}
use Rattle.ode_machine.specs.Stability.{SameVersion, IsGone, IsHeld, IsStableFor, IsOldVersion, StaysObject, IsOldActivation, AreActivations, FollowsObject, Follows, EachFollows, IsStable}
use Rattle.ode_laws.specs.Numbered.{HasNumbers}
use Rattle.ode_laws.proofs.AlikePairs.{all_found}
use Rattle.ode_laws.proofs.Rows.{numbered_id}
use Rattle.ode_run_laws.specs.Orders.{HasVersions, IsOrdered}

-- what holds of each version holds of the one of a number
all_version : (P : Version → Type 0) (n : ℕ) (vs : List Version) → AllByRecursion P vs → (v : Version) → version_numbered n vs ≡ Some v → P v × (v.number ≡ n)
all_version P n [] all v is = absurd (cc)
all_version P n (w ∷ vs) all v is = by_test (w.number == n) (eqb-true w.number n) is (all_version P n vs all.1 v) where
  by_test : (b : Bool) → (b ≡ true → w.number ≡ n) → cond b (Some w) (version_numbered n vs) ≡ Some v → (version_numbered n vs ≡ Some v → P v × (v.number ≡ n)) → P v × (v.number ≡ n)
  by_test true same e rest = let it : w ≡ v = cc in (subst P it all.0, ap (λ (x : Version). x.number) (sym it) ∙ same refl)
  by_test false same e rest = rest e

-- why a reference denotes nothing, and never will again
pub record IsLost (r : Ref) (b : Bones) (o : Object) : Type 0 where
  pub found : object_numbered r.object b.objects ≡ Some o
  pub number : ℕ
  pub named : r.version ≡ Some number
  pub drawn : number ≤ o.last
  pub absent : version_numbered number o.versions ≡ None

abbrev Lost : Ref → Bones → Type 0
Lost r b = (r.object < b.next) × ((object_numbered r.object b.objects ≡ None) ⊎ ((o : Object) × IsLost r b o))

lost_absent : (r : Ref) (b : Bones) → object_numbered r.object b.objects ≡ None → denotes b r ≡ None
lost_absent r b none = by_null (r.object == 0) where
  by_null : (t : Bool) → option_and_then (λ (o : Object). version_of r.version o.versions) (cond t None (object_at b r.object)) ≡ None
  by_null true = refl
  by_null false = ap (λ m. option_and_then (λ (o : Object). version_of r.version o.versions) (option_and_then if_live m)) none

lost_version : (r : Ref) (b : Bones) (o : Object) → IsLost r b o → denotes b r ≡ None
lost_version r b o lost = by_null (r.object == 0) where
  by_live : (l : Bool) → option_and_then (λ (p : Object). version_of r.version p.versions) (cond l (Some o) None) ≡ None
  by_live true = ap (λ n. version_of n o.versions) lost.named ∙ lost.absent
  by_live false = refl

  by_null : (t : Bool) → option_and_then (λ (p : Object). version_of r.version p.versions) (cond t None (object_at b r.object)) ≡ None
  by_null true = refl
  by_null false = ap (λ m. option_and_then (λ (p : Object). version_of r.version p.versions) (option_and_then if_live m)) lost.found ∙ by_live o.live

lost_denotes : (r : Ref) (b : Bones) → Lost r b → denotes b r ≡ None
lost_denotes r b (less, inl none) = lost_absent r b none
lost_denotes r b (less, inr (o, lost)) = lost_version r b o lost

-- an object that follows one of a world is that object, or its number is new
follows_old : (b : Bones) (p o : Object) (n : ℕ) → p.id ≡ n → object_numbered n b.objects ≡ Some o → FollowsObject b p → StaysObject o p
follows_old b p o n is found f = by_found (object_numbered p.id b.objects) (ap (λ m. object_numbered m b.objects) is ∙ found) f where
  by_found : (m : Option Object) → m ≡ Some o → MatchOption m ((b.next ≤ p.id) × AreActivations b.next p.activations) (λ q. StaysObject q p × AllByRecursion (IsOldActivation b.next q) p.activations) → StaysObject o p
  by_found None e g = absurd (cc)
  by_found (Some q) e g = let it : q ≡ o = cc in subst (λ z. StaysObject z p) it g.0

follows_new : (b : Bones) (p : Object) (n : ℕ) → p.id ≡ n → object_numbered n b.objects ≡ None → FollowsObject b p → b.next ≤ n
follows_new b p n is none f = by_found (object_numbered p.id b.objects) (ap (λ m. object_numbered m b.objects) is ∙ none) f where
  by_found : (m : Option Object) → m ≡ None → MatchOption m ((b.next ≤ p.id) × AreActivations b.next p.activations) (λ q. StaysObject q p × AllByRecursion (IsOldActivation b.next q) p.activations) → b.next ≤ n
  by_found None e g = let up : b.next ≤ p.id = g.0 in omega arith
  by_found (Some q) e g = absurd (cc)

old_absent : (o p : Object) (n : ℕ) → n ≤ o.last → version_numbered n o.versions ≡ None → AllByRecursion (IsOldVersion o o.last) p.versions → version_numbered n p.versions ≡ None
old_absent o p n drawn none all = by_found (version_numbered n p.versions) refl where
  by_old : (v : Version) (m : Option Version) → m ≡ None → IfNone m (o.last < v.number) → o.last < v.number
  by_old v None e above = above
  by_old v (Some w) e above = absurd (cc)

  by_found : (m : Option Version) → version_numbered n p.versions ≡ m → m ≡ None
  by_found None e = refl
  by_found (Some v) e =
      let old : IfNone (version_numbered v.number o.versions) (o.last < v.number) × (v.number ≡ n) = all_version (IsOldVersion o o.last) n p.versions all v e in
      let above : o.last < v.number = by_old v (version_numbered v.number o.versions) (ap (λ m. version_numbered m o.versions) old.1 ∙ none) old.0 in
      let same : v.number ≡ n = old.1 in
      absurd (omega arith)

-- what is lost stays lost
lost_next : (r : Ref) (b c : Bones) → Follows b c → Lost r b → Lost r c
lost_next r b c f lost = (omega arith, by_now (object_numbered r.object c.objects) refl lost.1) where
  by_now : (m : Option Object) → object_numbered r.object c.objects ≡ m → (object_numbered r.object b.objects ≡ None) ⊎ ((o : Object) × IsLost r b o) → (object_numbered r.object c.objects ≡ None) ⊎ ((o : Object) × IsLost r c o)
  by_now None e was = inl e
  by_now (Some p) e (inl none) =
      let new : b.next ≤ r.object = follows_new b p r.object (numbered_id r.object c.objects p e) none (all_found (FollowsObject b) r.object c.objects f.objects p e) in
      let old : r.object < b.next = lost.0 in
      absurd (omega arith)
  by_now (Some p) e (inr (o, was)) =
      let stays : StaysObject o p = follows_old b p o r.object (numbered_id r.object c.objects p e) was.found (all_found (FollowsObject b) r.object c.objects f.objects p e) in
      inr (
        p,
        record {
          found = e;
          number = was.number;
          named = was.named;
          drawn = let drawn : was.number ≤ o.last = was.drawn in let up : o.last ≤ p.last = stays.last in omega arith;
          absent = old_absent o p was.number was.drawn was.absent stays.versions;
        },
      )

gone : (r : Ref) (b : Bones) (cs : List Bones) → EachFollows b cs → Lost r b → IsGone r cs
gone r b [] follows lost = tt
gone r b (c ∷ cs) follows lost = let next : Lost r c = lost_next r b c follows.0 lost in (lost_denotes r c next, gone r c cs follows.1 next)

-- ---- a reference that denotes

pub record IsThere (r : Ref) (b : Bones) (v : Version) : Type 0 where
  pub object : Object
  pub found : object_numbered r.object b.objects ≡ Some object
  pub version : version_of r.version object.versions ≡ Some v
  pub real : (r.object == 0) ≡ false

there : (r : Ref) (b : Bones) (v : Version) → denotes b r ≡ Some v → IsThere r b v
there r b v is = by_null (r.object == 0) refl is where
  by_object : (m : Option Object) → object_numbered r.object b.objects ≡ m → (r.object == 0) ≡ false → option_and_then (λ (o : Object). version_of r.version o.versions) (option_and_then if_live m) ≡ Some v → IsThere r b v
  by_object None e real q = absurd (cc)
  by_object (Some o) e real q = by_live o.live q where
    by_live : (l : Bool) → option_and_then (λ (p : Object). version_of r.version p.versions) (cond l (Some o) None) ≡ Some v → IsThere r b v
    by_live true q = record { object = o; found = e; version = q; real = real }
    by_live false q = absurd (cc)

  by_null : (t : Bool) → (r.object == 0) ≡ t → option_and_then (λ (o : Object). version_of r.version o.versions) (cond t None (object_at b r.object)) ≡ Some v → IsThere r b v
  by_null true e q = absurd (cc)
  by_null false e q = by_object (object_numbered r.object b.objects) refl e q

same_version : (n : Option ℕ) (vs : List Version) (v : Version) → version_of n vs ≡ Some v → SameVersion n v
same_version None vs v is = tt
same_version (Some n) vs v is = (all_version (λ w. Unit {0}) n vs (every vs) v is).1 where
  every : (ws : List Version) → AllByRecursion (λ w. Unit {0}) ws
  every [] = tt
  every (w ∷ ws) = (tt, every ws)

newest_some : (vs : List Version) → 0 < length vs → newest vs ≡ None → ⊥
newest_some [] less is = omega arith
newest_some (v ∷ []) less is = cc
newest_some (v ∷ w ∷ vs) less is = newest_some (w ∷ vs) (omega arith) is

-- one that denoted and does so no more is lost
loses : (r : Ref) (b c : Bones) (v : Version) → IsOrdered b → IsOrdered c → Follows b c → denotes b r ≡ Some v → denotes c r ≡ None → Lost r c
loses r b c v before after f is none = (drawn_now, by_now (object_numbered r.object c.objects) refl) where
  was : IsThere r b v
  was = there r b v is

  old_drawn : r.object < b.next
  old_drawn =
      let id : was.object.id ≡ r.object = numbered_id r.object b.objects was.object was.found in
      let drawn : was.object.id < b.next = (all_found (HasNumbers b.next) r.object b.objects before.numbered.objects was.object was.found).drawn in
      omega arith

  up : b.next ≤ c.next
  up = f.next

  drawn_now : r.object < c.next
  drawn_now = omega (arith, old_drawn, up)

  by_name : (p : Object) → object_numbered r.object c.objects ≡ Some p → version_of r.version p.versions ≡ None → (n : Option ℕ) → r.version ≡ n → (object_numbered r.object c.objects ≡ None) ⊎ ((o : Object) × IsLost r c o)
  by_name p e lost None named =
      absurd (newest_some p.versions (all_found HasVersions r.object c.objects after.versions p e).some (ap (λ m. version_of m p.versions) (sym named) ∙ lost))
  by_name p e lost (Some n) named =
      let stays : StaysObject was.object p = follows_old b p was.object r.object (numbered_id r.object c.objects p e) was.found (all_found (FollowsObject b) r.object c.objects f.objects p e) in
      let old : (v.number ≤ was.object.last) × (v.number ≡ n) =
      all_version (λ (w : Version). w.number ≤ was.object.last) n was.object.versions (all_found HasVersions r.object b.objects before.versions was.object was.found).drawn v (ap (λ m. version_of m was.object.versions) (sym named) ∙ was.version) in
      let low : v.number ≤ was.object.last = old.0 in
      let same : v.number ≡ n = old.1 in
      let rest : was.object.last ≤ p.last = stays.last in
      inr (p, record { found = e; number = n; named = named; drawn = omega arith; absent = ap (λ m. version_of m p.versions) (sym named) ∙ lost })

  by_live : (p : Object) → p.live ≡ true → option_and_then (λ (o : Object). version_of r.version o.versions) (cond p.live (Some p) None) ≡ None → version_of r.version p.versions ≡ None
  by_live p live q = ap (λ l. option_and_then (λ (o : Object). version_of r.version o.versions) (cond l (Some p) None)) (sym live) ∙ q

  by_now : (m : Option Object) → object_numbered r.object c.objects ≡ m → (object_numbered r.object c.objects ≡ None) ⊎ ((o : Object) × IsLost r c o)
  by_now None e = inl e
  by_now (Some p) e =
      by_name p e
      (by_live p (all_found (λ (o : Object). o.live ≡ true) r.object c.objects after.live p e)
      (sym (ap (λ m. option_and_then (λ (o : Object). version_of r.version o.versions) (option_and_then if_live m)) e)
      ∙ sym (ap (λ t. option_and_then (λ (o : Object). version_of r.version o.versions) (cond t None (object_at c r.object))) was.real) ∙ none))
      r.version refl

-- ---- the law

abbrev AreOrdered : List Bones → Type 0
AreOrdered bs = AllByRecursion IsOrdered bs

held : (r : Ref) (b : Bones) (cs : List Bones) (v : Version) → IsOrdered b → AreOrdered cs → EachFollows b cs → denotes b r ≡ Some v → IsHeld r (b ∷ cs)
held r b [] v ordered rest follows is =
    subst (λ m. MatchOption m (IsGone r []) (λ w. SameVersion r.version w × IsHeld r [])) (sym is) (same_version r.version (there r b v is).object.versions v (there r b v is).version, tt)
held r b (c ∷ cs) v ordered rest follows is =
    subst (λ m. MatchOption m (IsGone r (c ∷ cs)) (λ w. SameVersion r.version w × IsHeld r (c ∷ cs))) (sym is)
    (same_version r.version (there r b v is).object.versions v (there r b v is).version, by_now (denotes c r) refl (λ w e. held r c cs w rest.0 rest.1 follows.1 e))
  where
    by_now : (m : Option Version) → denotes c r ≡ m → ((w : Version) → denotes c r ≡ Some w → IsHeld r (c ∷ cs)) → IsHeld r (c ∷ cs)
    by_now None e later = subst (λ m. MatchOption m (IsGone r cs) (λ w. SameVersion r.version w × IsHeld r cs)) (sym e) (gone r c cs follows.1 (loses r b c v ordered rest.0 follows.0 is e))
    by_now (Some w) e later = later w e

stable_for : (r : Ref) (b : Bones) (cs : List Bones) → IsOrdered b → AreOrdered cs → EachFollows b cs → IsStableFor r (b ∷ cs)
stable_for r b [] ordered rest follows = by_now (denotes b r) refl where
  by_now : (m : Option Version) → denotes b r ≡ m → IsStableFor r (b ∷ [])
  by_now None e = subst (λ m. MatchOption m (IsStableFor r []) (λ v. IsHeld r (b ∷ []))) (sym e) tt
  by_now (Some v) e = subst (λ m. MatchOption m (IsStableFor r []) (λ w. IsHeld r (b ∷ []))) (sym e) (held r b [] v ordered rest follows e)
stable_for r b (c ∷ cs) ordered rest follows = by_now (denotes b r) refl (stable_for r c cs rest.0 rest.1 follows.1) where
  by_now : (m : Option Version) → denotes b r ≡ m → IsStableFor r (c ∷ cs) → IsStableFor r (b ∷ c ∷ cs)
  by_now None e later = subst (λ m. MatchOption m (IsStableFor r (c ∷ cs)) (λ v. IsHeld r (b ∷ c ∷ cs))) (sym e) later
  by_now (Some v) e later = subst (λ m. MatchOption m (IsStableFor r (c ∷ cs)) (λ w. IsHeld r (b ∷ c ∷ cs))) (sym e) (held r b (c ∷ cs) v ordered rest follows e)

pub stable : (b : Bones) (cs : List Bones) → IsOrdered b → AreOrdered cs → EachFollows b cs → IsStable b cs
stable b cs ordered rest follows = record { references = λ r. stable_for r b cs ordered rest follows; numbers = follows }
