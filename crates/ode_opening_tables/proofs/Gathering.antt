-- Tables that are read trigger by trigger and class by class.
use Rattle.std.proofs.Common.{◌≡◌, ◌<◌, ◌≤◌, ℕ, zero, suc, ◌+◌, List, [], ◌∷◌, ◌++◌, map, length, take, drop, get_or, Option, Some, None, Ok, Err, refl, sym, ap, subst, ◌∙◌, ⊎_elim, arith, append_assoc, length-append}
use Rattle.std.specs.Prelude.{slice_get}
use Rattle.std.specs.List.{AllByRecursion, AllZip, enumerate_from}
use Rattle.std.specs.Option.{IsSomeAnd}
use Rattle.std.proofs.lemmas.Bool.{cases_lt}
use Rattle.std.proofs.lemmas.Grind.{flat_map-append}
use Rattle.std.proofs.lemmas.List.{append-nil, take-append-drop, take_all, take_more}
use Rattle.std.proofs.lemmas.Option.{slice_get-get_or, slice_get_within}
use Rattle.ode_keep.specs.Entries.{Entries}
use Rattle.ode_opening.specs.Building.{triggers_of}
use Rattle.ode_opening_tables.proofs.Placing.{get_left, get_right}
use Rattle.ode_opening_tables.specs.Answers.{AreBehind, AreBeside, AreBuiltFrom, ReadsTo, TableFor, Tells}
use Rattle.ode_opening_tables.specs.Tables.{HasTable, LackTable, all_triggers, places_from}
use Rattle.ode_passes.specs.declared.cause.Cause.{Cause}
use Rattle.ode_passes.specs.declared.error.OpenError.{OpenError}
use Rattle.ode_passes.specs.declared.error.OpenError.TheVariants as error
use Rattle.ode_value.specs.Classes.{Trigger, own_triggers, trigger_of}
use Rattle.ode_value.specs.Tables.{Means, Table}
use Rattle.ode_value.specs.declared.class.Class.{Class}
use Rattle.ode_value.specs.declared.member.TriggerDecl.{TriggerDecl}

-- ---- lists place by place

zip_append : {X Y : Type 0} (R : X → Y → Type 0) (xs zs : List X) (ys ws : List Y) → AllZip R xs ys → AllZip R zs ws → AllZip R (xs ++ zs) (ys ++ ws)
zip_append R [] zs [] ws one other = other
zip_append R [] zs (y ∷ ys) ws one other = absurd one
zip_append R (x ∷ xs) zs [] ws one other = absurd one
zip_append R (x ∷ xs) zs (y ∷ ys) ws one other = (one.0, zip_append R xs zs ys ws one.1 other)

-- what holds of the one at a place holds of the one that is read there
pub at_place : {X : Type 0} (P : X → Type 0) (xs : List X) (i : ℕ) (x : X) → i < length xs → x ≡ get_or xs i x → IsSomeAnd (slice_get xs i) P → P x
at_place {X = X} P xs i x inside is some =
    subst (λ (o : Option X). IsSomeAnd o P) (slice_get-get_or xs i x inside ∙ ap (λ (y : X). Some y) (sym is)) some

pub all_at : {X : Type 0} (P : X → Type 0) (xs : List X) (i : ℕ) (x : X) → AllByRecursion P xs → i < length xs → x ≡ get_or xs i x → P x
all_at P [] i x all inside is = absurd (omega (arith, inside))
all_at P (y ∷ xs) zero x all inside is = subst P (sym is) all.0
all_at P (y ∷ xs) (suc i) x all inside is = all_at P xs i x all.1 (omega (arith, inside)) is

module _ (entries : Entries) where
  -- ---- triggers, one behind the other

  pub none_behind : (before : List Table) → AreBehind entries [] before before
  none_behind before = record { own = []; are = sym (append-nil before); have = tt }

  pub more_behind : (ts us : List Trigger) (before mid behind : List Table) → AreBehind entries ts before mid → AreBehind entries us mid behind → AreBehind entries (ts ++ us) before behind
  more_behind ts us before mid behind one two = record {
    own = one.own ++ two.own;
    are = two.are ∙ ap (λ xs. xs ++ two.own) one.are ∙ append_assoc before one.own two.own;
    have = zip_append (HasTable entries) ts us one.own two.own one.have two.have;
  }

  -- the first that has none is the first behind those that have theirs
  pub lack_behind : (ts us : List Trigger) (before mid : List Table) (why : Cause) → AreBehind entries ts before mid → LackTable entries us why → LackTable entries (ts ++ us) why
  lack_behind ts us before mid why one lack = record {
    before = ts ++ lack.before;
    trigger = lack.trigger;
    behind = lack.behind;
    are = ap (λ xs. ts ++ xs) lack.are ∙ sym (append_assoc ts lack.before (lack.trigger ∷ lack.behind));
    tables = one.own ++ lack.tables;
    have = zip_append (HasTable entries) ts lack.before one.own lack.tables one.have lack.have;
    lacks = lack.lacks;
    is = lack.is;
  }

  -- and stays so, whatever comes behind
  pub lack_before : (ts us : List Trigger) (why : Cause) → LackTable entries ts why → LackTable entries (ts ++ us) why
  lack_before ts us why lack = record {
    before = lack.before;
    trigger = lack.trigger;
    behind = lack.behind ++ us;
    are = ap (λ xs. xs ++ us) lack.are ∙ append_assoc lack.before (lack.trigger ∷ lack.behind) us;
    tables = lack.tables;
    have = lack.have;
    lacks = lack.lacks;
    is = lack.is;
  }

  -- ---- one trigger

  pub one_read : (t : Trigger) (before : List Table) (table : Table) → HasTable entries t table → AreBehind entries (t ∷ []) before (before ++ table ∷ [])
  one_read t before table has = record { own = table ∷ []; are = refl; have = (has, tt) }

  pub one_lacks : (t : Trigger) (before behind : List Table) (e : OpenError) → TableFor entries t (Err e) → ReadsTo entries (t ∷ []) before behind (Err e)
  one_lacks t before behind (error.BadFile why) none =
      record { before = []; trigger = t; behind = []; are = refl; tables = []; have = tt; lacks = none.0; is = none.1 }
  one_lacks t before behind error.DiskFault none = tt
  one_lacks t before behind error.Memory none = tt

  -- ---- some triggers, of which so many were read

  pub reads_no_more : (ts us vs : List Trigger) (before mid behind : List Table) (e : OpenError) → AreBehind entries ts before mid → ReadsTo entries us mid behind (Err e)
      → ReadsTo entries (ts ++ us ++ vs) before behind (Err e)
  reads_no_more ts us vs before mid behind (error.BadFile why) one lack = lack_before (ts ++ us) vs why (lack_behind ts us before mid why one lack)
  reads_no_more ts us vs before mid behind error.DiskFault one lack = tt
  reads_no_more ts us vs before mid behind error.Memory one lack = tt

  pub tells_none : (ts : List Trigger) (before behind : List Table) (e : OpenError) → ReadsTo entries ts before behind (Err e) → Tells entries ts (Err e)
  tells_none ts before behind (error.BadFile why) lack = lack
  tells_none ts before behind error.DiskFault lack = tt
  tells_none ts before behind error.Memory lack = tt

  pub tells_all : (ts : List Trigger) (tables : List Table) (maps : List ℕ) → AreBehind entries ts [] tables → Tells entries ts (Ok (tables, maps))
  tells_all ts tables maps all = subst (AllZip (HasTable entries) ts) (sym all.are) all.have

-- ---- beside the built ones

before_seam : {X : Type 0} (xs ys : List X) (k : ℕ) → k < length xs → slice_get (xs ++ ys) k ≡ slice_get xs k
before_seam [] ys k less = absurd (omega (arith, less))
before_seam (x ∷ xs) ys zero less = refl
before_seam (x ∷ xs) ys (suc k) less = before_seam xs ys k (omega (arith, less))

module _ (built stored : List Table) (its table : Table) (beside : AreBeside built stored) (inside : length stored < length built) (is : its ≡ get_or built (length stored) its)
    (same : table.symbols ≡ its.symbols) where
  -- the one more is beside its own
  last_beside : (at : ℕ) (t : Table) → length stored ≤ at → slice_get (stored ++ table ∷ []) at ≡ Some t → IsSomeAnd (slice_get built at) (λ b. t.symbols ≡ b.symbols)
  last_beside at t late there =
      let within : at < length (stored ++ table ∷ []) = slice_get_within (stored ++ table ∷ []) at t there in
      let here : length stored + 0 ≡ at = omega (arith, late, within, length-append stored (table ∷ [])) in
      let at_end : length stored ≡ at = omega (arith, here) in
      let own : Some table ≡ Some t = sym (get_right stored (table ∷ []) 0) ∙ (ap (slice_get (stored ++ table ∷ [])) here ∙ there) in
      let symbols : t.symbols ≡ its.symbols = let one : table ≡ t = cc (own) in sym (ap (λ (x : Table). x.symbols) one) ∙ same in
      let found : Some its ≡ slice_get built at =
      sym (slice_get-get_or built (length stored) its inside ∙ ap (λ (x : Table). Some x) (sym is)) ∙ ap (slice_get built) at_end in
      subst (λ (o : Option Table). IsSomeAnd o (λ b. t.symbols ≡ b.symbols)) found symbols

  pub beside_more : AreBeside built (stored ++ table ∷ [])
  beside_more = λ at t there. ⊎_elim
      (λ (before : at < length stored). beside at t (sym (before_seam stored (table ∷ []) at before) ∙ there))
      (λ (late : length stored ≤ at). last_beside at t late there)
      (cases_lt at (length stored))

-- there are no more of them than built ones
pub no_more : (built stored : List Table) → AreBeside built stored → length stored ≤ length built
no_more built [] beside = omega arith
no_more [] (s ∷ stored) beside = absurd (beside 0 s refl)
no_more (b ∷ built) (s ∷ stored) beside = omega (arith, no_more built stored (λ at t there. beside (suc at) t there))

-- ---- a class's triggers

pub there_at : {X : Type 0} (xs : List X) (i : ℕ) → i < length xs → (x : X) × (slice_get xs i ≡ Some x)
there_at [] i less = absurd (omega (arith, less))
there_at (x ∷ xs) zero less = (x, refl)
there_at (x ∷ xs) (suc i) less = there_at xs i (omega (arith, less))

own_from : (number first : ℕ) (ts : List TriggerDecl) (i : ℕ) (t : TriggerDecl) → slice_get ts i ≡ Some t
    → take (i + 1) (map (trigger_of number) (enumerate_from first ts)) ≡ take i (map (trigger_of number) (enumerate_from first ts)) ++ trigger_of number (first + i, t) ∷ []
own_from number first [] i t is = absurd (cc (is))
own_from number first (u ∷ ts) zero t is =
    let same : u ≡ t = cc (is) in
    let at : first ≡ first + 0 = omega arith in
    ap (λ (d : TriggerDecl). trigger_of number (first, d) ∷ []) same ∙ ap (λ n. trigger_of number (n, t) ∷ []) at
own_from number first (u ∷ ts) (suc i) t is =
    let at : first + 1 + i ≡ first + suc i = omega arith in
    let long : suc i + 1 ≡ suc (i + 1) = omega arith in
    let own = map (trigger_of number) (enumerate_from first (u ∷ ts)) in
    let more = own_from number (first + 1) ts i t is in
    ap (λ n. take n own) long
    ∙ ap (λ xs. trigger_of number (first, u) ∷ xs) more
    ∙ ap (λ n. trigger_of number (first, u) ∷ (take i (map (trigger_of number) (enumerate_from (first + 1) ts)) ++ trigger_of number (n, t) ∷ [])) at

-- the triggers up to one, and that one
pub own_more : (c : Class) (i : ℕ) (t : TriggerDecl) → slice_get c.triggers i ≡ Some t → take (i + 1) (own_triggers c) ≡ take i (own_triggers c) ++ trigger_of c.number (i, t) ∷ []
own_more c i t is =
    let at : 0 + i ≡ i = omega arith in
    own_from c.number 0 c.triggers i t is ∙ ap (λ n. take i (own_triggers c) ++ trigger_of c.number (n, t) ∷ []) at

own_length : (number first : ℕ) (ts : List TriggerDecl) → length (map (trigger_of number) (enumerate_from first ts)) ≡ length ts
own_length number first [] = refl
own_length number first (t ∷ ts) = ap suc (own_length number (first + 1) ts)

pub all_own : (c : Class) (n : ℕ) → length c.triggers ≤ n → take n (own_triggers c) ≡ own_triggers c
all_own c n long = take_all n (own_triggers c) (omega (arith, long, own_length c.number 0 c.triggers))

pub some_within : {X : Type 0} (P : X → Type 0) (xs : List X) (i : ℕ) → IsSomeAnd (slice_get xs i) P → i < length xs
some_within {X = X} P xs i some = by (slice_get xs i) refl some
  where
    by : (o : Option X) → slice_get xs i ≡ o → IsSomeAnd o P → i < length xs
    by None is here = absurd here
    by (Some x) is here = slice_get_within xs i x is

module _ (c : Class) (i : ℕ) (less : i < length c.triggers) where
  -- the trigger at a place
  abbrev pub next_of : Trigger
  next_of = trigger_of c.number (i, (there_at c.triggers i less).0)

  so_far : take (i + 1) (own_triggers c) ≡ take i (own_triggers c) ++ next_of ∷ []
  so_far = own_more c i (there_at c.triggers i less).0 (there_at c.triggers i less).1

  -- its table was built
  pub some_next : (built before mid : List Table) → length mid ≡ length before + i → AreBuiltFrom built (length before) c.triggers
      → IsSomeAnd (slice_get built (length mid)) (λ table. Means table next_of.decl.event)
  some_next built before mid at all =
      subst (λ (n : ℕ). IsSomeAnd (slice_get built n) (λ table. Means table next_of.decl.event)) (sym at) (all i (there_at c.triggers i less).0 (there_at c.triggers i less).1)

module _ (entries : Entries) (c : Class) (i : ℕ) (less : i < length c.triggers) (before mid : List Table) (one : AreBehind entries (take i (own_triggers c)) before mid) where
  pub own_stops : (behind : List Table) (e : OpenError) → ReadsTo entries (next_of c i less ∷ []) mid behind (Err e) → ReadsTo entries (own_triggers c) before behind (Err e)
  own_stops behind e lacks =
      let split : own_triggers c ≡ take i (own_triggers c) ++ (next_of c i less ∷ []) ++ drop (i + 1) (own_triggers c) =
      sym (take-append-drop (i + 1) (own_triggers c)) ∙ ap (λ (ts : List Trigger). ts ++ drop (i + 1) (own_triggers c)) (so_far c i less) in
      subst (λ (ts : List Trigger). ReadsTo entries ts before behind (Err e)) (sym split)
      (reads_no_more entries (take i (own_triggers c)) (next_of c i less ∷ []) (drop (i + 1) (own_triggers c)) before mid behind e one lacks)

  pub own_goes : (behind : List Table) → AreBehind entries (next_of c i less ∷ []) mid behind → AreBehind entries (take (i + 1) (own_triggers c)) before behind
  own_goes behind more =
      subst (λ (ts : List Trigger). AreBehind entries ts before behind) (sym (so_far c i less))
      (more_behind entries (take i (own_triggers c)) (next_of c i less ∷ []) before mid behind one more)

-- ---- all classes

places_more : (first : ℕ) (cs : List Class) (c : Class) → places_from first (cs ++ c ∷ []) ≡ places_from first cs ++ (first + length (triggers_of cs)) ∷ []
places_more first [] c = let at : first ≡ first + 0 = omega arith in ap (λ n. n ∷ []) at
places_more first (d ∷ cs) c =
    let at : first + length d.triggers + length (triggers_of cs) ≡ first + length (d.triggers ++ triggers_of cs) = omega (arith, length-append d.triggers (triggers_of cs)) in
    ap (λ xs. first ∷ xs) (places_more (first + length d.triggers) cs c ∙ ap (λ n. places_from (first + length d.triggers) cs ++ n ∷ []) at)

module _ (classes : List Class) (i : ℕ) (c : Class) (inside : i < length classes) (is : c ≡ get_or classes i c) where
  one_class_more : take (i + 1) classes ≡ take i classes ++ c ∷ []
  one_class_more = take_more classes i c inside ∙ ap (λ (d : Class). take i classes ++ d ∷ []) (sym is)

  pub triggers_so_far : all_triggers (take (i + 1) classes) ≡ all_triggers (take i classes) ++ own_triggers c
  triggers_so_far =
      ap all_triggers one_class_more ∙ flat_map-append own_triggers (take i classes) (c ∷ []) ∙ ap (λ (ts : List Trigger). all_triggers (take i classes) ++ ts) (append-nil (own_triggers c))

  pub decls_so_far : triggers_of (take (i + 1) classes) ≡ triggers_of (take i classes) ++ c.triggers
  decls_so_far =
      ap triggers_of one_class_more
      ∙ flat_map-append (λ (d : Class). d.triggers) (take i classes) (c ∷ [])
      ∙ ap (λ (ts : List TriggerDecl). triggers_of (take i classes) ++ ts) (append-nil c.triggers)

  pub triggers_split : all_triggers classes ≡ all_triggers (take i classes) ++ own_triggers c ++ all_triggers (drop (i + 1) classes)
  triggers_split =
      ap all_triggers (sym (take-append-drop (i + 1) classes))
      ∙ flat_map-append own_triggers (take (i + 1) classes) (drop (i + 1) classes)
      ∙ ap (λ (ts : List Trigger). ts ++ all_triggers (drop (i + 1) classes)) triggers_so_far

  decls_split : triggers_of classes ≡ triggers_of (take i classes) ++ (c.triggers ++ triggers_of (drop (i + 1) classes))
  decls_split =
      ap triggers_of (sym (take-append-drop (i + 1) classes))
      ∙ flat_map-append (λ (d : Class). d.triggers) (take (i + 1) classes) (drop (i + 1) classes)
      ∙ ap (λ (ts : List TriggerDecl). ts ++ triggers_of (drop (i + 1) classes)) decls_so_far
      ∙ append_assoc (triggers_of (take i classes)) c.triggers (triggers_of (drop (i + 1) classes))

  pub places_so_far : places_from 0 (take (i + 1) classes) ≡ places_from 0 (take i classes) ++ length (triggers_of (take i classes)) ∷ []
  places_so_far =
      let at : 0 + length (triggers_of (take i classes)) ≡ length (triggers_of (take i classes)) = omega arith in
      ap (places_from 0) one_class_more ∙ places_more 0 (take i classes) c ∙ ap (λ n. places_from 0 (take i classes) ++ n ∷ []) at

  -- the tables of a class are built from the place on where those of the classes before it end
  pub built_own : (built : List Table) (first : ℕ) → first ≡ length (triggers_of (take i classes)) → AreBuiltFrom built 0 (triggers_of classes) → AreBuiltFrom built first c.triggers
  built_own built first at all = λ place t there.
      let its : slice_get (triggers_of classes) (length (triggers_of (take i classes)) + place) ≡ Some t =
      ap (λ (ts : List TriggerDecl). slice_get ts (length (triggers_of (take i classes)) + place)) decls_split
      ∙ get_right (triggers_of (take i classes)) (c.triggers ++ triggers_of (drop (i + 1) classes)) place
      ∙ get_left c.triggers (triggers_of (drop (i + 1) classes)) place t there in
      let same : 0 + (length (triggers_of (take i classes)) + place) ≡ first + place = omega (arith, at) in
      subst (λ (k : ℕ). IsSomeAnd (slice_get built k) (λ table. Means table t.event)) same (all (length (triggers_of (take i classes)) + place) t its)
