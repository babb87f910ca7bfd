-- Tracked objects by their numbers, and which of them an abort leaves.
use Rattle.std.proofs.Common.{◌≡◌, ℕ, List, [], ◌∷◌, Bool, true, false, cond, Option, Some, None, refl, sym, ap, ◌∙◌, arith}
use Rattle.std.proofs.lemmas.Bool.Decides.{nat_tests}
use Rattle.std.proofs.lemmas.Cmp.{nat_cmp_total}
use Rattle.std.specs.BTreeMap.{is_at}
use Rattle.std.specs.List.{AllByRecursion}
use Rattle.std.specs.List.Sorted.{IsStrictlySortedBy}
use Rattle.std.specs.Map.{keys_of, lookup}
use Rattle.std.specs.Option.{option_and_then}
use Rattle.std.specs.Ordering.{nat_cmp}
use Rattle.std.specs.declared.cmp.Ordering.TheVariants.{Less}
use Rattle.ode_keep.proofs.Maps.{lookup_put}
use Rattle.ode_objects.specs.Rewinding.{rewound}
use Rattle.ode_objects.specs.declared.tracked.Tracked.{Tracked}
use Rattle.ode_overlay.specs.Changing.{either}
use Rattle.ode_overlay.specs.Rewinding.{put_rewound, rewound_from}
use Rattle.ode_value.specs.declared.class.Class.{Class}

abbrev Entries : Type 0
Entries = List (ℕ × Tracked)

abbrev at : ℕ → Entries → Option Tracked
at q es = lookup (is_at (nat_cmp q)) es

apart : (k q l : ℕ) → is_at (nat_cmp k) q ≡ true → nat_cmp k l ≡ Less → is_at (nat_cmp q) l ≡ false
apart k q l same less = grind (arith, nat_tests)

none_behind : (k q : ℕ) (es : Entries) → is_at (nat_cmp k) q ≡ true → AllByRecursion (λ l. nat_cmp k l ≡ Less) (keys_of es) → at q es ≡ None
none_behind k q [] same above = refl
none_behind k q (e ∷ es) same above = ap (λ (b : Bool). cond b (Some e.1) (at q es)) (apart k q e.0 same above.0) ∙ none_behind k q es same above.1

turned : (k q : ℕ) → is_at (nat_cmp q) k ≡ is_at (nat_cmp k) q
turned k q = grind (arith, nat_tests)

same_number : (n : ℕ) → is_at (nat_cmp n) n ≡ true
same_number n = grind (arith, nat_tests)

below : (k q : ℕ) → nat_cmp k q ≡ Less → is_at (nat_cmp q) k ≡ false
below k q less = grind (arith, nat_tests)

abbrev pub AreFound : Entries → Entries → Type 0
AreFound all es = AllByRecursion (λ (e : ℕ × Tracked). at e.0 all ≡ Some e.1) es

found_behind : (e : ℕ × Tracked) (es fs : Entries) → AllByRecursion (λ l. nat_cmp e.0 l ≡ Less) (keys_of fs) → AreFound es fs → AreFound (e ∷ es) fs
found_behind e es [] above found = tt
found_behind e es (f ∷ fs) above found =
    (ap (λ (b : Bool). cond b (Some e.1) (at f.0 es)) (below e.0 f.0 above.0) ∙ found.0, found_behind e es fs above.1 found.1)

-- each is found by its number
pub all_found : (es : Entries) → IsStrictlySortedBy nat_cmp (keys_of es) → AreFound es es
unfolding IsStrictlySortedBy
all_found [] rising = tt
all_found (e ∷ es) rising = (ap (λ (b : Bool). cond b (Some e.1) (at e.0 es)) (same_number e.0), found_behind e es es rising.0 (all_found es rising.1))

module _ (classes : List Class) where
  abbrev back : Option Tracked → Option Tracked
  back f = option_and_then (rewound classes) f

  put_at : (k q : ℕ) (f : Option Tracked) (done : Entries) → at q (put_rewound k f done) ≡ cond (is_at (nat_cmp k) q) (either f (at q done)) (at q done)
  put_at k q None done = by_test (is_at (nat_cmp k) q) where
    by_test : (b : Bool) → at q done ≡ cond b (at q done) (at q done)
    by_test true = refl
    by_test false = refl
  put_at k q (Some t) done = lookup_put nat_cmp_total k t q done

  none_then : (f : Option Tracked) → either f None ≡ f
  none_then None = refl
  none_then (Some t) = refl

  -- behind what is done
  rewound_behind : (q : ℕ) (es done : Entries) → IsStrictlySortedBy nat_cmp (keys_of es) → at q (rewound_from classes done es) ≡ either (back (at q es)) (at q done)
  unfolding IsStrictlySortedBy
  rewound_behind q [] done rising = refl
  rewound_behind q (e ∷ es) done rising =
      rewound_behind q es (put_rewound e.0 (rewound classes e.1) done) rising.1
      ∙ ap (λ (f : Option Tracked). either (back (at q es)) f) (put_at e.0 q (rewound classes e.1) done)
      ∙ by_test (is_at (nat_cmp e.0) q) refl
      ∙ sym (ap (λ (b : Bool). either (back (cond b (Some e.1) (at q es))) (at q done)) (turned e.0 q))
    where
      by_test : (b : Bool) → is_at (nat_cmp e.0) q ≡ b
          → either (back (at q es)) (cond b (either (rewound classes e.1) (at q done)) (at q done)) ≡ either (back (cond b (Some e.1) (at q es))) (at q done)
      by_test true same = ap (λ (f : Option Tracked). either (back f) (either (rewound classes e.1) (at q done))) (none_behind e.0 q es same rising.0)
      by_test false other = refl

  pub rewound_at : (q : ℕ) (es : Entries) → IsStrictlySortedBy nat_cmp (keys_of es) → at q (rewound_from classes [] es) ≡ back (at q es)
  rewound_at q es rising = rewound_behind q es [] rising ∙ none_then (back (at q es))
