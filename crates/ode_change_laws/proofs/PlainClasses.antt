-- What is found among classes, by number, by name and by inheritance, is the same where one of them gets fields.
use Rattle.std.proofs.Common.{◌≡◌, ℕ, zero, suc, ◌+◌, Bool, true, false, cond, List, [], ◌∷◌, ◌++◌, map, Option, Some, None, refl, ap, sym, ◌∙◌, subst}
use Rattle.std.specs.Prelude.{◌||◌, ◌==◌, reverse, slice_get}
use Rattle.std.specs.List.{AllZip, enumerate_from, find, flat_map, list_any}
use Rattle.std.specs.Option.{IsSome, option_and_then, option_map, unwrap_or}
use Rattle.std.specs.Str.{bytes_eq}
use Rattle.std.proofs.lemmas.List.{map-append, reverse-append}
use Rattle.ode_value.specs.declared.class.Class.{Class}
use Rattle.ode_value.specs.declared.class.Field.{Field}
use Rattle.ode_value.specs.declared.event.EventExpr.{EventExpr}
use Rattle.ode_value.specs.declared.member.TriggerDecl.{TriggerDecl}
use Rattle.ode_value.specs.Classes.{Trigger, family, is_a, line_of, own_triggers, trigger_at, trigger_of, triggers_of, upward}
use Rattle.ode_value.specs.Firings.{is_of}
use Rattle.ode_value.specs.Fitting.{trigger_in}
use Rattle.ode_value.specs.Objects.{Activation}
use Rattle.ode_value.specs.Worlds.{Declared, class_named, class_numbered}
use Rattle.ode_change_laws.specs.Moves.{AreAnew, IsAnew, IsClassAnew}
use Rattle.ode_change_laws.specs.Plain.{plain, plain_class, plain_decl, plain_trigger}

-- ---- classes that are checked anew

decls-plain : (f : EventExpr → EventExpr) (ts us : List TriggerDecl) → AllZip (IsAnew f) ts us → map plain_decl us ≡ map plain_decl ts
decls-plain f [] [] all = refl
decls-plain f [] (u ∷ us) all = absurd all
decls-plain f (t ∷ ts) [] all = absurd all
decls-plain f (t ∷ ts) (u ∷ us) all =
    let is = all.0 in
    λ i. record (plain_decl t) {
      name = is.name i;
      initial = is.initial i;
      perpetual = is.perpetual i;
      whole = is.whole i;
      mode = is.mode i;
      params = is.params i;
    } ∷ decls-plain f ts us all.1 i

plain-anew : (at : ℕ) (new : List Field) (gets : Bool) (c d : Declared) → IsClassAnew at new gets c d → plain d ≡ plain c
plain-anew at new gets c d is =
    let triggers = decls-plain _ c.class.triggers d.class.triggers is.triggers in
    λ i. record {
      class = record (plain_class c.class) {
        number = is.number i;
        name = is.name i;
        parent = is.parent i;
        kinds = is.kinds i;
        triggers = triggers i;
      };
      tree = is.tree i;
    }

pub all-plain-anew : (at : ℕ) (new : List Field) (test : ℕ → Bool) (cs ds : List Declared) → AreAnew at new test cs ds → map plain ds ≡ map plain cs
all-plain-anew at new test [] [] all = refl
all-plain-anew at new test [] (d ∷ ds) all = absurd all
all-plain-anew at new test (c ∷ cs) [] all = absurd all
all-plain-anew at new test (c ∷ cs) (d ∷ ds) all =
    λ i. plain-anew at new (test c.class.number) c d all.0 i ∷ all-plain-anew at new test cs ds all.1 i

-- ---- inheritance

reverse-plain : {A B : Type 0} (f : A → B) (xs : List A) → reverse (map f xs) ≡ map f (reverse xs)
reverse-plain f [] = refl
reverse-plain f (x ∷ xs) =
    reverse-append (f x ∷ []) (map f xs) ∙ ap (λ r. r ++ f x ∷ []) (reverse-plain f xs) ∙ sym (map-append f (reverse xs) (x ∷ []))
    ∙ ap (map f) (sym (reverse-append (x ∷ []) xs))

upward-plain : (cs : List Declared) (n : ℕ) → upward n (map plain cs) ≡ map plain_class (upward n cs)
upward-plain [] n = refl
upward-plain (c ∷ cs) n = by (c.class.number == n) (upward-plain cs)
  where
    by : (t : Bool) → ((m : ℕ) → upward m (map plain cs) ≡ map plain_class (upward m cs))
        → cond t (plain_class c.class ∷ upward (unwrap_or c.class.parent 0) (map plain cs)) (upward n (map plain cs))
        ≡ map plain_class (cond t (c.class ∷ upward (unwrap_or c.class.parent 0) cs) (upward n cs))
    by true rest = ap (λ line. plain_class c.class ∷ line) (rest (unwrap_or c.class.parent 0))
    by false rest = rest n

line-plain : (cs : List Declared) (n : ℕ) → line_of (map plain cs) n ≡ map plain_class (line_of cs n)
line-plain cs n = ap (upward n) (reverse-plain plain cs) ∙ upward-plain (reverse cs) n

family-plain : (cs : List Declared) (n : ℕ) → family (map plain cs) n ≡ map plain_class (family cs n)
family-plain cs n = ap reverse (line-plain cs n) ∙ reverse-plain plain_class (line_of cs n)

any-plain : (name : List ℕ) (cs : List Class) → list_any (λ (c : Class). bytes_eq c.name name) (map plain_class cs) ≡ list_any (λ (c : Class). bytes_eq c.name name) cs
any-plain name [] = refl
any-plain name (c ∷ cs) = ap (λ r. bytes_eq c.name name || r) (any-plain name cs)

is_a-plain : (cs : List Declared) (n : ℕ) (name : List ℕ) → is_a (map plain cs) n name ≡ is_a cs n name
is_a-plain cs n name = ap (list_any (λ (c : Class). bytes_eq c.name name)) (line-plain cs n) ∙ any-plain name (line_of cs n)

-- ---- triggers

own-from : (n k : ℕ) (ts : List TriggerDecl) → map (trigger_of n) (enumerate_from k (map plain_decl ts)) ≡ map plain_trigger (map (trigger_of n) (enumerate_from k ts))
own-from n k [] = refl
own-from n k (t ∷ ts) = ap (λ rest. trigger_of n (k, plain_decl t) ∷ rest) (own-from n (k + 1) ts)

own-plain : (cs : List Class) → flat_map own_triggers (map plain_class cs) ≡ map plain_trigger (flat_map own_triggers cs)
own-plain [] = refl
own-plain (c ∷ cs) =
    (λ i. own-from c.number 0 c.triggers i ++ own-plain cs i) ∙ sym (map-append plain_trigger (own_triggers c) (flat_map own_triggers cs))

find-plain : (a : Activation) (ts : List Trigger) → find (λ t. is_of t a) (map plain_trigger ts) ≡ option_map plain_trigger (find (λ t. is_of t a) ts)
find-plain a [] = refl
find-plain a (t ∷ ts) = by (is_of t a) (find-plain a ts)
  where
    by : (b : Bool) → find (λ u. is_of u a) (map plain_trigger ts) ≡ option_map plain_trigger (find (λ u. is_of u a) ts)
        → cond b (Some (plain_trigger t)) (find (λ u. is_of u a) (map plain_trigger ts)) ≡ option_map plain_trigger (cond b (Some t) (find (λ u. is_of u a) ts))
    by true rest = refl
    by false rest = rest

in-plain : (cs : List Declared) (n : ℕ) (a : Activation) → trigger_in (map plain cs) n a ≡ option_map plain_trigger (trigger_in cs n a)
in-plain cs n a =
    ap (λ fs. find (λ t. is_of t a) (flat_map own_triggers fs)) (family-plain cs n)
    ∙ ap (find (λ t. is_of t a)) (own-plain (family cs n))
    ∙ find-plain a (triggers_of cs n)

-- ---- by number and by name

numbered-plain : (n : ℕ) (cs : List Declared) → class_numbered n (map plain cs) ≡ option_map plain_class (class_numbered n cs)
numbered-plain n [] = refl
numbered-plain n (c ∷ cs) = by (c.class.number == n) (numbered-plain n cs)
  where
    by : (t : Bool) → class_numbered n (map plain cs) ≡ option_map plain_class (class_numbered n cs)
        → cond t (Some (plain_class c.class)) (class_numbered n (map plain cs)) ≡ option_map plain_class (cond t (Some c.class) (class_numbered n cs))
    by true rest = refl
    by false rest = rest

named-plain : (name : List ℕ) (cs : List Declared) → class_named name (map plain cs) ≡ option_map plain_class (class_named name cs)
named-plain name [] = refl
named-plain name (c ∷ cs) = by (bytes_eq c.class.name name) (named-plain name cs)
  where
    by : (t : Bool) → class_named name (map plain cs) ≡ option_map plain_class (class_named name cs)
        → cond t (Some (plain_class c.class)) (class_named name (map plain cs)) ≡ option_map plain_class (cond t (Some c.class) (class_named name cs))
    by true rest = refl
    by false rest = rest

get-plain : (k : ℕ) (ts : List TriggerDecl) → slice_get (map plain_decl ts) k ≡ option_map plain_decl (slice_get ts k)
get-plain k [] = none k
  where
    none : (n : ℕ) → slice_get (map plain_decl []) n ≡ option_map plain_decl (slice_get [] n)
    none zero = refl
    none (suc n) = refl
get-plain zero (t ∷ ts) = refl
get-plain (suc k) (t ∷ ts) = get-plain k ts

at-plain : (cs : List Declared) (n k : ℕ) → trigger_at (map plain cs) n k ≡ option_map plain_trigger (trigger_at cs n k)
at-plain cs n k = ap (λ x. option_map (λ t. trigger_of n (k, t)) (option_and_then (λ (c : Class). slice_get c.triggers k) x)) (numbered-plain n cs) ∙ by (class_numbered n cs)
  where
    made : (x : Option TriggerDecl) → option_map (λ t. trigger_of n (k, t)) (option_map plain_decl x) ≡ option_map plain_trigger (option_map (λ t. trigger_of n (k, t)) x)
    made None = refl
    made (Some t) = refl

    by : (x : Option Class) → option_map (λ t. trigger_of n (k, t)) (option_and_then (λ (c : Class). slice_get c.triggers k) (option_map plain_class x))
        ≡ option_map plain_trigger (option_map (λ t. trigger_of n (k, t)) (option_and_then (λ (c : Class). slice_get c.triggers k) x))
    by None = refl
    by (Some c) = ap (option_map (λ t. trigger_of n (k, t))) (get-plain k c.triggers) ∙ made (slice_get c.triggers k)

-- ---- what is known of two lists of classes that are the same but for that

some-plain : {A : Type 0} (f : A → A) (x : Option A) → IsSome x → IsSome (option_map f x)
some-plain f None some = absurd (cc (some))
some-plain f (Some x) some = some

of-plain : {A : Type 0} (f : A → A) (x : Option A) → IsSome (option_map f x) → IsSome x
of-plain f None some = absurd (cc (some))
of-plain f (Some x) some = some

module _ (cs ds : List Declared) (same : map plain ds ≡ map plain cs) where
  pub is_a-same : (n : ℕ) (name : List ℕ) → is_a ds n name ≡ is_a cs n name
  is_a-same n name = sym (is_a-plain ds n name) ∙ ap (λ xs. is_a xs n name) same ∙ is_a-plain cs n name

  pub trigger_in-same : (n : ℕ) (a : Activation) → option_map plain_trigger (trigger_in ds n a) ≡ option_map plain_trigger (trigger_in cs n a)
  trigger_in-same n a = sym (in-plain ds n a) ∙ ap (λ xs. trigger_in xs n a) same ∙ in-plain cs n a

  pub trigger_at-same : (n k : ℕ) → option_map plain_trigger (trigger_at ds n k) ≡ option_map plain_trigger (trigger_at cs n k)
  trigger_at-same n k = sym (at-plain ds n k) ∙ ap (λ xs. trigger_at xs n k) same ∙ at-plain cs n k

  pub numbered-same : (n : ℕ) → IsSome (class_numbered n cs) → IsSome (class_numbered n ds)
  numbered-same n some =
      let plain_one = sym (numbered-plain n cs) ∙ sym (ap (class_numbered n) same) ∙ numbered-plain n ds in
      of-plain plain_class (class_numbered n ds) (subst IsSome plain_one (some-plain plain_class (class_numbered n cs) some))

  pub named-same : (name : List ℕ) → IsSome (class_named name cs) → IsSome (class_named name ds)
  named-same name some =
      let plain_one = sym (named-plain name cs) ∙ sym (ap (class_named name) same) ∙ named-plain name ds in
      of-plain plain_class (class_named name ds) (subst IsSome plain_one (some-plain plain_class (class_named name cs) some))

  pub trigger_in-some : (n : ℕ) (a : Activation) → IsSome (trigger_in cs n a) → IsSome (trigger_in ds n a)
  trigger_in-some n a some =
      of-plain plain_trigger (trigger_in ds n a) (subst IsSome (sym (trigger_in-same n a)) (some-plain plain_trigger (trigger_in cs n a) some))
