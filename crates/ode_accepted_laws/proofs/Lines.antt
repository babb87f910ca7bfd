-- Classes that were checked one behind the other: their names and numbers tell them apart, and each continues its ancestors.
use Rattle.std.proofs.Common.{◌≡◌, ◌≤◌, ◌<◌, ℕ, ◌+◌, List, [], ◌∷◌, ◌++◌, length, reverse, Bool, true, false, cond, ◌==◌, Option, Some, None, refl, ap, sym, ◌∙◌, subst, arith, append-nil, append_assoc}
use Rattle.std.specs.List.{AllByRecursion}
use Rattle.std.specs.Option.{IfSome, option_map, option_or, unwrap_or}
use Rattle.std.specs.Str.{bytes_eq}
use Rattle.std.proofs.lemmas.Bool.{eqb-true, eq-eqb}
use Rattle.std.proofs.lemmas.List.{length-append, reverse-append}
use Rattle.std.proofs.lemmas.List.Folds.{find-append}
use Rattle.ode_value.specs.declared.class.Class.{Class}
use Rattle.ode_types.specs.Checked.{AreChecked, AreCheckedBehind, IsChecked}
use Rattle.ode_types.specs.Families.{class_named, class_numbered, line_of, upward}
use Rattle.ode_types.specs.Limits.{field_limit}
use Rattle.ode_types.proofs.CheckedClasses.{checked-next}
use Rattle.ode_laws.proofs.Each.{all-append, all-find, all-then}
use Rattle.ode_laws.proofs.Rows as rows
use Rattle.ode_accepted_laws.proofs.Lists.{all-reverse, find-none, name_itself}
use Rattle.ode_accepted_laws.proofs.Members.{AreFields, Begins, IsAccepted, IsFresh, IsParent, IsShaped, accepted, fields_of}

-- ---- lines

-- two numbers, tested
other_number : (m n : ℕ) → (m ≡ n → ⊥) → (m == n) ≡ false
other_number m n other = by_test (m == n) (eqb-true m n) where
  by_test : (b : Bool) → (b ≡ true → m ≡ n) → b ≡ false
  by_test true same = absurd (other (same refl))
  by_test false same = refl

-- of a list with one class more
upward_other : (n : ℕ) (cs : List Class) (c : Class) → (c.number ≡ n → ⊥) → upward n (reverse (cs ++ c ∷ [])) ≡ upward n (reverse cs)
upward_other n cs c other =
    ap (upward n) (reverse-append cs (c ∷ []))
    ∙ ap (λ b. cond b (c ∷ upward (unwrap_or c.parent 0) (reverse cs)) (upward n (reverse cs))) (other_number c.number n other)

upward_last : (cs : List Class) (c : Class) → upward c.number (reverse (cs ++ c ∷ [])) ≡ c ∷ upward (unwrap_or c.parent 0) (reverse cs)
upward_last cs c =
    ap (upward c.number) (reverse-append cs (c ∷ []))
    ∙ ap (λ b. cond b (c ∷ upward (unwrap_or c.parent 0) (reverse cs)) (upward c.number (reverse cs))) (eq-eqb c.number c.number refl)

-- the first class of a line has its number
pub upward_number : (n : ℕ) (ds : List Class) (e : Class) (rest : List Class) → upward n ds ≡ e ∷ rest → e.number ≡ n
upward_number n [] e rest h = absurd (cc)
upward_number n (d ∷ ds) e rest h = by_test (d.number == n) (eqb-true d.number n) h (upward_number n ds e rest) where
  by_test : (b : Bool) → (b ≡ true → d.number ≡ n) → cond b (d ∷ upward (unwrap_or d.parent 0) ds) (upward n ds) ≡ e ∷ rest → (upward n ds ≡ e ∷ rest → e.number ≡ n) → e.number ≡ n
  by_test true same f past = let is : d ≡ e = cc in sym (ap (λ (x : Class). x.number) is) ∙ same refl
  by_test false same f past = past f

-- there is none of a number that no class has
upward_none : (n : ℕ) (ds : List Class) → AllByRecursion (λ (d : Class). d.number ≡ n → ⊥) ds → upward n ds ≡ []
upward_none n [] all = refl
upward_none n (d ∷ ds) all = ap (λ b. cond b (d ∷ upward (unwrap_or d.parent 0) ds) (upward n ds)) (other_number d.number n all.0) ∙ upward_none n ds all.1

pub all-upward : (P : Class → Type 0) (n : ℕ) (ds : List Class) → AllByRecursion P ds → AllByRecursion P (upward n ds)
all-upward P n [] all = tt
all-upward P n (d ∷ ds) all = by_test (d.number == n) (all-upward P (unwrap_or d.parent 0) ds all.1) (all-upward P n ds all.1) where
  by_test : (b : Bool) → AllByRecursion P (upward (unwrap_or d.parent 0) ds) → AllByRecursion P (upward n ds) → AllByRecursion P (cond b (d ∷ upward (unwrap_or d.parent 0) ds) (upward n ds))
  by_test true here past = (all.0, here)
  by_test false here past = past

-- ---- a class behind its ancestors

-- the fields begin with those of the parent
abbrev pub Inherits : List Class → Class → Type 0
Inherits [] c = Unit {0}
Inherits (p ∷ above) c = Begins p.fields c.fields

-- what its ancestors have, and members of its own
pub record Continues (above : List Class) (c : Class) : Type 0 where
  pub fields : Inherits above c
  pub methods : AllByRecursion (IsShaped above) c.methods
  pub triggers : AllByRecursion (IsFresh above) c.triggers
  pub numbers : AllByRecursion (λ (e : Class). e.number < c.number) above

-- each class of a line, behind those above it
abbrev pub IsLine : List Class → Type 0
IsLine [] = Unit {0}
IsLine (c ∷ above) = Continues above c × IsLine above

-- the same of classes with the latest first, each behind its ancestors
abbrev pub IsFamily : List Class → Type 0
IsFamily [] = Unit {0}
IsFamily (c ∷ earlier) = Continues (upward (unwrap_or c.parent 0) earlier) c × IsFamily earlier

pub line_from : (n : ℕ) (ds : List Class) → IsFamily ds → IsLine (upward n ds)
line_from n [] family = tt
line_from n (d ∷ ds) family = by_test (d.number == n) (line_from (unwrap_or d.parent 0) ds family.1) (line_from n ds family.1) where
  by_test : (b : Bool) → IsLine (upward (unwrap_or d.parent 0) ds) → IsLine (upward n ds) → IsLine (cond b (d ∷ upward (unwrap_or d.parent 0) ds) (upward n ds))
  by_test true here past = (family.0, here)
  by_test false here past = past

-- ---- classes one behind the other

-- a class is the one of its name and the one of its number, which leads to its line
pub record IsPlaced (cs : List Class) (c : Class) : Type 0 where
  pub named : class_named cs c.name ≡ Some c
  pub numbered : class_numbered cs c.number ≡ Some c
  pub line : upward c.number (reverse cs) ≡ line_of cs c

-- numbers begin at 1, and neither the class's nor its parent's is above this one
pub record IsLow (n : ℕ) (c : Class) : Type 0 where
  pub some : 1 ≤ c.number
  pub number : c.number ≤ n
  pub parent : unwrap_or c.parent 0 ≤ n

pub record AreKept (cs : List Class) : Type 0 where
  pub low : AllByRecursion (IsLow (length cs)) cs
  pub placed : AllByRecursion (IsPlaced cs) cs
  pub fields : AllByRecursion (λ (c : Class). AreFields c.fields) cs
  pub few : AllByRecursion (λ (c : Class). length c.fields ≤ field_limit) cs
  pub family : IsFamily (reverse cs)

module _ (known : List Class) (kept : AreKept known) (c : Class) (is : IsChecked known c) where
  accepts : IsAccepted known c
  accepts = accepted known kept.fields c is

  next : c.number ≡ length known + 1
  next = (checked-next known c is).number

  abbrev above : List Class
  above = upward (unwrap_or c.parent 0) (reverse known)

  abbrev more : List Class
  more = known ++ c ∷ []

  parent_low : unwrap_or c.parent 0 ≤ length known
  parent_low = subst (λ p. unwrap_or p 0 ≤ length known) (sym accepts.number) (by_parent accepts.parent accepts.there) where
    by_parent : (p : Option Class) → IfSome p (IsParent known) → unwrap_or (option_map (λ (e : Class). e.number) p) 0 ≤ length known
    by_parent None there = omega arith
    by_parent (Some p) there = (all-find (IsLow (length known)) (λ (e : Class). bytes_eq e.name there.0) known kept.low p there.1).number

  inherits : Inherits above c
  inherits = by_parent accepts.parent accepts.there accepts.number accepts.has.begins where
    by_parent : (p : Option Class) → IfSome p (IsParent known) → c.parent ≡ option_map (λ (e : Class). e.number) p → Begins (fields_of p) c.fields → Inherits above c
    by_parent None there number begins =
        let none : upward 0 (reverse known) ≡ [] =
        upward_none 0 (reverse known) (all-reverse (λ (e : Class). e.number ≡ 0 → ⊥) known (all-then (IsLow (length known)) (λ (e : Class). e.number ≡ 0 → ⊥) (λ e low zero. absurd (omega (arith, low.some, zero))) known kept.low)) in
        subst (λ line. Inherits line c) (sym (ap (λ o. upward (unwrap_or o 0) (reverse known)) number ∙ none)) tt
    by_parent (Some p) there number begins =
        let placed = all-find (IsPlaced known) (λ (e : Class). bytes_eq e.name there.0) known kept.placed p there.1 in
        subst (λ line. Inherits line c) (sym (ap (λ o. upward (unwrap_or o 0) (reverse known)) number ∙ placed.line)) begins

  lower : AllByRecursion (λ (e : Class). e.number < c.number) known
  lower = all-then (IsLow (length known)) (λ (e : Class). e.number < c.number) (λ e low. omega (arith, low.number, next)) known kept.low

  continues : Continues above c
  continues = record {
    fields = inherits;
    methods = accepts.has.methods;
    triggers = accepts.has.triggers;
    numbers = all-upward (λ (e : Class). e.number < c.number) (unwrap_or c.parent 0) (reverse known) (all-reverse (λ (e : Class). e.number < c.number) known lower);
  }

  -- the earlier ones stay in their places
  still_placed : (e : Class) → IsLow (length known) e → IsPlaced known e → IsPlaced more e
  still_placed e low placed = record {
    named = rows.find-append (λ (d : Class). bytes_eq d.name e.name) known (c ∷ []) e placed.named;
    numbered = rows.find-append (λ (d : Class). d.number == e.number) known (c ∷ []) e placed.numbered;
    line =
        upward_other e.number known c (λ same. absurd (omega (arith, next, low.number, same))) ∙ placed.line
        ∙ sym (ap (λ line. e ∷ line) (upward_other (unwrap_or e.parent 0) known c (λ same. absurd (omega (arith, next, low.parent, same)))));
  }

  all_still : (es : List Class) → AllByRecursion (IsLow (length known)) es → AllByRecursion (IsPlaced known) es → AllByRecursion (IsPlaced more) es
  all_still [] low placed = tt
  all_still (e ∷ es) low placed = (still_placed e low.0 placed.0, all_still es low.1 placed.1)

  new_placed : IsPlaced more c
  new_placed = record {
    named =
        find-append (λ (d : Class). bytes_eq d.name c.name) known (c ∷ [])
        ∙ ap (λ o. option_or o (cond (bytes_eq c.name c.name) (Some c) None)) (checked-next known c is).fresh
        ∙ ap (λ b. cond b (Some c) None) (name_itself c.name);
    numbered =
        find-append (λ (d : Class). d.number == c.number) known (c ∷ [])
        ∙ ap (λ o. option_or o (cond (c.number == c.number) (Some c) None))
        (find-none (λ (d : Class). d.number == c.number) known
        (all-then (λ (e : Class). e.number < c.number) (λ (e : Class). (e.number == c.number) ≡ false) (λ e less. other_number e.number c.number (λ same. absurd (omega (arith, less, same)))) known lower))
        ∙ ap (λ b. cond b (Some c) None) (eq-eqb c.number c.number refl);
    line = upward_last known c ∙ sym (ap (λ line. c ∷ line) (upward_other (unwrap_or c.parent 0) known c (λ same. absurd (omega (arith, next, parent_low, same)))));
  }

  kept_more : AreKept more
  kept_more =
      let longer : length more ≡ length known + 1 = length-append known (c ∷ []) in
      let here : IsLow (length more) c = record { some = omega (arith, next); number = omega (arith, longer, next); parent = omega (arith, longer, parent_low) } in
      let old : AllByRecursion (IsLow (length more)) known =
      all-then (IsLow (length known)) (IsLow (length more)) (λ e low. record { some = low.some; number = omega (arith, low.number, longer); parent = omega (arith, low.parent, longer) }) known kept.low in
      record {
        low = all-append (IsLow (length more)) known (c ∷ []) old (here, tt);
        placed = all-append (IsPlaced more) known (c ∷ []) (all_still known kept.low kept.placed) (new_placed, tt);
        fields = all-append (λ (e : Class). AreFields e.fields) known (c ∷ []) kept.fields (accepts.has.fields, tt);
        few = all-append (λ (e : Class). length e.fields ≤ field_limit) known (c ∷ []) kept.few (accepts.few, tt);
        family = subst IsFamily (sym (reverse-append known (c ∷ []))) (continues, kept.family);
      }

kept_behind : (cs known : List Class) → AreKept known → AreCheckedBehind known cs → AreKept (known ++ cs)
kept_behind [] known kept checked = subst AreKept (sym (append-nil known)) kept
kept_behind (c ∷ cs) known kept checked = subst AreKept (append_assoc known (c ∷ []) cs) (kept_behind cs (known ++ c ∷ []) (kept_more known kept c checked.0) checked.1)

pub kept_all : (cs : List Class) → AreChecked cs → AreKept cs
kept_all cs checked = kept_behind cs [] (record { low = tt; placed = tt; fields = tt; few = tt; family = tt }) checked
