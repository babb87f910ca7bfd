-- Keys of other kinds are apart from those that are held, of entries and of the counters.
use Rattle.std.proofs.Common.{◌≡◌, ◌==◌, inl, inr, ℕ, ◌+◌, List, [], ◌∷◌, false, cond, Option, Some, None, refl, ap, ◌∙◌, arith}
use Rattle.std.proofs.lemmas.Bool.Decides.{nat_tests}
use Rattle.std.specs.Prelude.{◌||◌}
use Rattle.std.specs.BTreeMap.{is_at}
use Rattle.std.specs.List.{AllByRecursion}
use Rattle.ode_codec.specs.declared.record.Record.TheVariants as of
use Rattle.ode_codec.specs.Spelling.{value_of}
use Rattle.ode_overlay.specs.After.{counted_after, held_after, is_among, queued_after, ran_after, value_after}
use Rattle.ode_overlay.specs.Layers.{Layer}
use Rattle.ode_overlay.specs.Records.{becomes, counters_after, entry_by}
use Rattle.ode_overlay.specs.declared.origin.Origin.{Origin}
use Rattle.ode_overlay.specs.declared.origin.Origin.TheVariants as from
use Rattle.ode_overlay.specs.declared.overlay.Collected.{Collected}
use Rattle.ode_settling_laws.specs.Formed.{IsOwn}
use Rattle.ode_value.specs.Keys.{activation_key, counters_key, entry_key, key_cmp, object_key, version_key}
use Rattle.ode_value.specs.declared.key.Key.{Key}

abbrev Value : Type 0
Value = Option (List ℕ)

-- keys of two kinds
pub apart_kinds : (k q : Key) → (k.kind == q.kind) ≡ false → is_at (key_cmp k) q ≡ false
apart_kinds k q out = grind (arith, nat_tests)

-- ---- entries

pub no_entry : (n : ℕ) (cs : List Collected) (q : Key) (below : Value) → (9 == q.kind) ≡ false → queued_after n cs q below ≡ below
no_entry n [] q below out = refl
no_entry n (c ∷ more) q below out =
    ap (λ t. queued_after (n + 1) more q (cond t (Some (value_of (of.Entry n (entry_by c)))) below)) (apart_kinds (entry_key n) q out) ∙ no_entry (n + 1) more q below out

pub not_ran : (origin : Origin) (q : Key) (below : Value) → (9 == q.kind) ≡ false → ran_after origin q below ≡ below
not_ran (from.Entry number generation) q below out = ap (λ t. cond t None below) (apart_kinds (entry_key number) q out)
not_ran from.Script q below out = refl
not_ran (from.Tick instant object place) q below out = refl
not_ran (from.Move instant) q below out = refl

-- ---- the counters

pub not_counted : (x : Layer) (q : Key) (below : Value) → (1 == q.kind) ≡ false → counted_after x q below ≡ below
not_counted x q below out = ap (λ t. cond t (Some (value_of (of.Counters (counters_after x)))) below) (apart_kinds counters_key q out)

-- ---- keys that are held

-- it is apart from each key of an object, a version or an activation
abbrev pub IsOutside : Key → Type 0
IsOutside q = ((id : ℕ) → is_at (key_cmp (object_key id)) q ≡ false) × ((id n : ℕ) → is_at (key_cmp (version_key id n)) q ≡ false) × ((id n : ℕ) → is_at (key_cmp (activation_key id n)) q ≡ false)

own_outside : (k q : Key) → IsOwn k → IsOutside q → is_at (key_cmp k) q ≡ false
own_outside k q (inl is) out = ap (λ l. is_at (key_cmp l) q) is ∙ out.0 k.a
own_outside k q (inr (inl is)) out = ap (λ l. is_at (key_cmp l) q) is ∙ out.1 k.a k.b
own_outside k q (inr (inr is)) out = ap (λ l. is_at (key_cmp l) q) is ∙ out.2 k.a k.b

not_among : (ks : List Key) (q : Key) → AllByRecursion IsOwn ks → IsOutside q → is_among q ks ≡ false
not_among [] q own out = refl
not_among (k ∷ ks) q own out = ap (λ t. t || is_among q ks) (own_outside k q own.0 out) ∙ not_among ks q own.1 out

pub not_held : (x : Layer) (q : Key) (below : Value) → AllByRecursion IsOwn x.keys → IsOutside q → held_after x q below ≡ below
not_held x q below own out = ap (λ t. cond t (value_after (becomes x q) below) below) (not_among x.keys q own out)

pub outside_kinds : (q : Key) → (6 == q.kind) ≡ false → (7 == q.kind) ≡ false → (8 == q.kind) ≡ false → IsOutside q
outside_kinds q a6 a7 a8 = ((λ id. apart_kinds (object_key id) q a6), (λ id n. apart_kinds (version_key id n) q a7), (λ id n. apart_kinds (activation_key id n) q a8))

-- a key of an object's kind with a second number
pub outside_objects : (q : Key) → q.kind ≡ 6 → (q.b == 0) ≡ false → IsOutside q
outside_objects q is out = ((λ id. second id q is out), (λ id n. apart_kinds (version_key id n) q (ap (λ m. 7 == m) is)), (λ id n. apart_kinds (activation_key id n) q (ap (λ m. 8 == m) is))) where
  second : (id : ℕ) (k : Key) → k.kind ≡ 6 → (k.b == 0) ≡ false → is_at (key_cmp (object_key id)) k ≡ false
  second id k kind other = grind (arith, nat_tests)
