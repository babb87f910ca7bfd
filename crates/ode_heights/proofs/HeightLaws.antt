-- Heights: an action keeps their order, and lowers none.
use Rattle.std.proofs.Common.{◌≡◌, ◌≤◌, ℕ, ◌+◌, max, Bool, true, false, if◌then◌else◌, List, [], ◌∷◌, zero, suc, refl, sym, subst, le_refl, le_trans, arith}
use Rattle.ode_grammar.specs.Stacks.{top, rest}
use Rattle.ode_heights.specs.declared.effect.Effect.{Effect}
use Rattle.ode_heights.specs.declared.effect.Effect.TheVariants as effect
use Rattle.ode_heights.specs.declared.height.Height.{Height}
use Rattle.ode_heights.specs.declared.height.Heights.{Heights}
use Rattle.ode_heights.specs.Heights.{leaf, in_pair, above, high, joined, greatest, greatest_own, highest, raised, tops}

-- the greatest is on top or among the others
pub greatest_own-under : (hs : List Height) → greatest_own hs ≤ max (high hs) (greatest_own (rest hs))
greatest_own-under [] = omega arith
greatest_own-under (h ∷ hs) = omega arith

pub greatest_own-rest : (hs : List Height) → greatest_own (rest hs) ≤ greatest_own hs
greatest_own-rest [] = omega arith
greatest_own-rest (h ∷ hs) = omega arith

pub high-greatest : (hs : List Height) → high hs ≤ max 1 (greatest_own hs)
high-greatest [] = omega arith
high-greatest (h ∷ hs) = omega arith

pub greatest-under : (ns : List ℕ) → greatest ns ≤ max (top 0 ns) (greatest (rest ns))
greatest-under [] = omega arith
greatest-under (n ∷ ns) = omega arith

pub greatest-rest : (ns : List ℕ) → greatest (rest ns) ≤ greatest ns
greatest-rest [] = omega arith
greatest-rest (n ∷ ns) = omega arith

pub top-greatest : (ns : List ℕ) → top 0 ns ≤ greatest ns
top-greatest [] = omega arith
top-greatest (n ∷ ns) = omega arith

pub ruleset top_laws = (greatest_own-rest, high-greatest, greatest-rest, top-greatest)

-- ---- THE ORDER: at each place of each stack, and in brackets too

abbrev pub at : {A : Type 0} → A → List A → ℕ → A
at d [] i = d
at d (x ∷ xs) zero = x
at d (x ∷ xs) (suc i) = at d xs i

module _ {A : Type 0} (d : A) (R : A → A → Type 0) where
  abbrev pub Along : List A → List A → Type 0
  Along xs ys = (i : ℕ) → R (at d xs i) (at d ys i)

  pub along_cons : (x y : A) (xs ys : List A) → R x y → Along xs ys → Along (x ∷ xs) (y ∷ ys)
  along_cons x y xs ys r f zero = r
  along_cons x y xs ys r f (suc i) = f i

  at-rest : (xs : List A) (i : ℕ) → at d (rest xs) i ≡ at d xs (suc i)
  at-rest [] i = refl
  at-rest (x ∷ xs) i = refl

  at-top : (xs : List A) → at d xs zero ≡ top d xs
  at-top [] = refl
  at-top (x ∷ xs) = refl

  pub along_rest : (xs ys : List A) → Along xs ys → Along (rest xs) (rest ys)
  along_rest xs ys f i = subst (λ a. R a (at d (rest ys) i)) (sym (at-rest xs i)) (subst (λ b. R (at d xs (suc i)) b) (sym (at-rest ys i)) (f (suc i)))

  pub along_top : (xs ys : List A) → Along xs ys → R (top d xs) (top d ys)
  along_top xs ys f = subst (λ a. R a (top d ys)) (at-top xs) (subst (λ b. R (at d xs zero) b) (at-top ys) (f zero))

module _ {A : Type 0} (d : A) (R : A → A → Type 0) (same : (x : A) → R x x) where
  -- what stands on top raised
  pub along_raised : (y : A) (xs : List A) → R (top d xs) y → Along d R xs (y ∷ rest xs)
  along_raised y [] r zero = r
  along_raised y [] r (suc i) = same d
  along_raised y (x ∷ xs) r zero = r
  along_raised y (x ∷ xs) r (suc i) = same (at d xs i)

pub record Below (a b : Height) : Type 0 where
  pub own : a.own ≤ b.own
  pub pair : in_pair a ≤ in_pair b

abbrev pub Shapes : List Height → List Height → Type 0
Shapes xs ys = Along leaf Below xs ys

abbrev pub Numbers : List ℕ → List ℕ → Type 0
Numbers xs ys = Along 0 ◌≤◌ xs ys

pub record Low (g h : Heights) : Type 0 where
  pub shaped : Shapes g.shaped h.shaped
  pub plain : Numbers g.plain h.plain

pub below_refl : (h : Height) → Below h h
below_refl h = record { own = le_refl h.own; pair = le_refl (in_pair h) }

pub shapes_same : (xs : List Height) → Shapes xs xs
shapes_same xs i = below_refl _

pub numbers_same : (xs : List ℕ) → Numbers xs xs
numbers_same xs i = le_refl _

pub low_refl : (h : Heights) → Low h h
low_refl h = record { shaped = λ i. below_refl _; plain = λ i. le_refl _ }

pub low_trans : (f g h : Heights) → Low f g → Low g h → Low f h
low_trans f g h x y = record {
  shaped = λ i. record { own = le_trans (x.shaped i).own (y.shaped i).own; pair = le_trans (x.shaped i).pair (y.shaped i).pair };
  plain = λ i. le_trans (x.plain i) (y.plain i);
}

-- ---- an action keeps the order

above_low : (m n : ℕ) → m ≤ n → Below (above m) (above n)
above_low m n h = record { own = omega arith; pair = omega arith }

paired_low : (a b : Height) → Below a b → Below (record { own = in_pair a; bare = true }) (record { own = in_pair b; bare = true })
paired_low a b h = record { own = h.pair; pair = let p = h.pair in omega arith }

max_low : (a b m n : ℕ) → a ≤ b → m ≤ n → max a m ≤ max b n
max_low a b m n h l = omega arith

more_low : (m n : ℕ) → m ≤ n → m + 1 ≤ n + 1
more_low m n h = omega arith

module _ (xs ys : List Height) (f : Shapes xs ys) where
  high_low : high xs ≤ high ys
  high_low = (along_top leaf Below xs ys f).own

  rest_low : Shapes (rest xs) (rest ys)
  rest_low = along_rest leaf Below xs ys f

module _ (ms ns : List ℕ) (f : Numbers ms ns) where
  joined_low : joined ms ≤ joined ns
  joined_low = along_top 0 ◌≤◌ ms ns f

  others_low : Numbers (rest ms) (rest ns)
  others_low = along_rest 0 ◌≤◌ ms ns f

cons_shape : (m n : ℕ) (xs ys : List Height) → m ≤ n → Shapes xs ys → Shapes (above m ∷ xs) (above n ∷ ys)
cons_shape m n xs ys l f = along_cons leaf Below (above m) (above n) xs ys (above_low m n l) f

cons_number : (m n : ℕ) (xs ys : List ℕ) → m ≤ n → Numbers xs ys → Numbers (m ∷ xs) (n ∷ ys)
cons_number m n xs ys l f = along_cons 0 ◌≤◌ m n xs ys l f

pub raised_low : (e : Effect) (g h : Heights) → Low g h → Low (raised e g) (raised e h)
unfolding raised
raised_low effect.Leaf g h f = record { shaped = along_cons leaf Below leaf leaf g.shaped h.shaped (below_refl leaf) f.shaped; plain = f.plain }
raised_low effect.Pair g h f = record {
  shaped = along_cons leaf Below _ _ (rest g.shaped) (rest h.shaped) (paired_low (top leaf g.shaped) (top leaf h.shaped) (along_top leaf Below g.shaped h.shaped f.shaped))
      (rest_low g.shaped h.shaped f.shaped);
  plain = f.plain;
}
raised_low effect.Over g h f = record { shaped = cons_shape _ _ (rest g.shaped) (rest h.shaped) (high_low g.shaped h.shaped f.shaped) (rest_low g.shaped h.shaped f.shaped); plain = f.plain }
raised_low effect.OverTwo g h f =
    let r = rest_low g.shaped h.shaped f.shaped in
    record {
      shaped = cons_shape _ _ (rest (rest g.shaped)) (rest (rest h.shaped))
          (max_low _ _ _ _ (high_low (rest g.shaped) (rest h.shaped) r) (high_low g.shaped h.shaped f.shaped)) (rest_low (rest g.shaped) (rest h.shaped) r);
      plain = f.plain;
    }
raised_low effect.OverThree g h f =
    let r = rest_low g.shaped h.shaped f.shaped in
    let s = rest_low (rest g.shaped) (rest h.shaped) r in
    record {
      shaped = cons_shape _ _ (rest (rest (rest g.shaped))) (rest (rest (rest h.shaped)))
          (max_low _ _ _ _ (high_low (rest (rest g.shaped)) (rest (rest h.shaped)) s)
          (max_low _ _ _ _ (high_low (rest g.shaped) (rest h.shaped) r) (high_low g.shaped h.shaped f.shaped)))
          (rest_low (rest (rest g.shaped)) (rest (rest h.shaped)) s);
      plain = f.plain;
    }
raised_low effect.Mask g h f = record {
  shaped = cons_shape _ _ (rest g.shaped) (rest h.shaped) (max_low 1 1 _ _ (le_refl 1) (high_low g.shaped h.shaped f.shaped)) (rest_low g.shaped h.shaped f.shaped);
  plain = f.plain;
}
raised_low effect.Plain g h f = record {
  shaped = rest_low g.shaped h.shaped f.shaped;
  plain = cons_number _ _ g.plain h.plain (high_low g.shaped h.shaped f.shaped) f.plain;
}
raised_low effect.Zero g h f = record { shaped = f.shaped; plain = cons_number 0 0 g.plain h.plain (le_refl 0) f.plain }
raised_low effect.Body g h f = record { shaped = f.shaped; plain = cons_number 1 1 g.plain h.plain (le_refl 1) f.plain }
raised_low effect.Join g h f = record {
  shaped = rest_low g.shaped h.shaped f.shaped;
  plain = cons_number _ _ (rest g.plain) (rest h.plain) (max_low _ _ _ _ (joined_low g.plain h.plain f.plain) (high_low g.shaped h.shaped f.shaped)) (others_low g.plain h.plain f.plain);
}
raised_low effect.JoinBody g h f =
    let r = others_low g.plain h.plain f.plain in
    record {
      shaped = f.shaped;
      plain = cons_number _ _ (rest (rest g.plain)) (rest (rest h.plain)) (max_low _ _ _ _ (joined_low (rest g.plain) (rest h.plain) r) (joined_low g.plain h.plain f.plain))
          (others_low (rest g.plain) (rest h.plain) r);
    }
raised_low effect.JoinBoth g h f =
    let r = others_low g.plain h.plain f.plain in
    record {
      shaped = rest_low g.shaped h.shaped f.shaped;
      plain = cons_number _ _ (rest (rest g.plain)) (rest (rest h.plain))
          (max_low _ _ _ _ (high_low g.shaped h.shaped f.shaped) (max_low _ _ _ _ (joined_low (rest g.plain) (rest h.plain) r) (joined_low g.plain h.plain f.plain)))
          (others_low (rest g.plain) (rest h.plain) r);
    }
raised_low effect.Two g h f =
    let r = rest_low g.shaped h.shaped f.shaped in
    record {
      shaped = rest_low (rest g.shaped) (rest h.shaped) r;
      plain = cons_number _ _ g.plain h.plain (max_low _ _ _ _ (high_low (rest g.shaped) (rest h.shaped) r) (high_low g.shaped h.shaped f.shaped)) f.plain;
    }
raised_low effect.Dotted g h f = record {
  shaped = rest_low g.shaped h.shaped f.shaped;
  plain = cons_number _ _ (rest g.plain) (rest h.plain) (max_low _ _ _ _ (more_low _ _ (high_low g.shaped h.shaped f.shaped)) (joined_low g.plain h.plain f.plain)) (others_low g.plain h.plain f.plain);
}
raised_low effect.Append g h f =
    let r = others_low g.plain h.plain f.plain in
    record {
      shaped = f.shaped;
      plain = cons_number _ _ (rest (rest g.plain)) (rest (rest h.plain)) (max_low _ _ _ _ (joined_low (rest g.plain) (rest h.plain) r) (more_low _ _ (joined_low g.plain h.plain f.plain)))
          (others_low (rest g.plain) (rest h.plain) r);
    }
raised_low effect.Nothing g h f = f

in_pair-above : (m : ℕ) (b : Bool) (n : ℕ) → m ≤ n → (if b then m + 1 else m) ≤ n + 1
in_pair-above m true n l = omega arith
in_pair-above m false n l = omega arith

pub above_top : (h : Height) (n : ℕ) → h.own ≤ n → Below h (above n)
above_top h n l = record { own = omega arith; pair = in_pair-above h.own h.bare n l }

-- ---- an action lowers the greatest height never

in_pair-own : (n : ℕ) (b : Bool) → n ≤ (if b then n + 1 else n)
in_pair-own n true = omega arith
in_pair-own n false = omega arith

pub raised_highest : (e : Effect) (h : Heights) → highest h ≤ highest (raised e h)
unfolding raised
raised_highest effect.Leaf h = omega arith
raised_highest effect.Pair h = omega (arith, greatest_own-under h.shaped, in_pair-own (top leaf h.shaped).own (top leaf h.shaped).bare)
raised_highest effect.Over h = omega (arith, greatest_own-under h.shaped)
raised_highest effect.OverTwo h = omega (arith, greatest_own-under h.shaped, greatest_own-under (rest h.shaped))
raised_highest effect.OverThree h = omega (arith, greatest_own-under h.shaped, greatest_own-under (rest h.shaped), greatest_own-under (rest (rest h.shaped)))
raised_highest effect.Mask h = omega (arith, greatest_own-under h.shaped)
raised_highest effect.Plain h = omega (arith, greatest_own-under h.shaped)
raised_highest effect.Zero h = omega arith
raised_highest effect.Body h = omega arith
raised_highest effect.Join h = omega (arith, greatest_own-under h.shaped, greatest-under h.plain)
raised_highest effect.JoinBody h = omega (arith, greatest-under h.plain, greatest-under (rest h.plain))
raised_highest effect.JoinBoth h = omega (arith, greatest_own-under h.shaped, greatest-under h.plain, greatest-under (rest h.plain))
raised_highest effect.Two h = omega (arith, greatest_own-under h.shaped, greatest_own-under (rest h.shaped))
raised_highest effect.Dotted h = omega (arith, greatest_own-under h.shaped, greatest-under h.plain)
raised_highest effect.Append h = omega (arith, greatest-under h.plain, greatest-under (rest h.plain))
raised_highest effect.Nothing h = omega arith

-- what is no lower has no lower greatest height (a height of 1 stands for nothing)
at_greatest : (ns : List ℕ) (i : ℕ) → at 0 ns i ≤ greatest ns
at_greatest [] i = omega arith
at_greatest (n ∷ ns) zero = omega arith
at_greatest (n ∷ ns) (suc i) = let h = at_greatest ns i in omega arith

greatest_low : (ms ns : List ℕ) → Numbers ms ns → greatest ms ≤ greatest ns
greatest_low ms ns f = go ms (λ i. le_trans (f i) (at_greatest ns i))
  where
    go : (ks : List ℕ) → ((i : ℕ) → at 0 ks i ≤ greatest ns) → greatest ks ≤ greatest ns
    go [] g = omega arith
    go (k ∷ ks) g = let h = go ks (λ i. g (suc i)) in let l = g zero in omega arith

at_greatest_own : (hs : List Height) (i : ℕ) → (at leaf hs i).own ≤ max 1 (greatest_own hs)
at_greatest_own [] i = omega arith
at_greatest_own (h ∷ hs) zero = omega arith
at_greatest_own (h ∷ hs) (suc i) = let l = at_greatest_own hs i in omega arith

greatest_own_low : (gs hs : List Height) → Shapes gs hs → greatest_own gs ≤ max 1 (greatest_own hs)
greatest_own_low gs hs f = go gs (λ i. le_trans (f i).own (at_greatest_own hs i))
  where
    go : (ks : List Height) → ((i : ℕ) → (at leaf ks i).own ≤ max 1 (greatest_own hs)) → greatest_own ks ≤ max 1 (greatest_own hs)
    go [] g = omega arith
    go (k ∷ ks) g = let h = go ks (λ i. g (suc i)) in let l = g zero in omega arith

pub low_highest : (g h : Heights) → Low g h → highest g ≤ max 1 (highest h)
low_highest g h f =
    let a = greatest_own_low g.shaped h.shaped f.shaped in
    let b = greatest_low g.plain h.plain f.plain in
    omega arith

-- what an action makes is on top
pub raised_tops : (e : Effect) (h : Heights) → highest (raised e h) ≤ max (highest h) (tops (raised e h))
unfolding raised
raised_tops effect.Leaf h = omega arith
raised_tops effect.Pair h = omega (arith, greatest_own-rest h.shaped)
raised_tops effect.Over h = omega (arith, greatest_own-rest h.shaped)
raised_tops effect.OverTwo h = omega (arith, greatest_own-rest h.shaped, greatest_own-rest (rest h.shaped))
raised_tops effect.OverThree h = omega (arith, greatest_own-rest h.shaped, greatest_own-rest (rest h.shaped), greatest_own-rest (rest (rest h.shaped)))
raised_tops effect.Mask h = omega (arith, greatest_own-rest h.shaped)
raised_tops effect.Plain h = omega (arith, greatest_own-rest h.shaped)
raised_tops effect.Zero h = omega arith
raised_tops effect.Body h = omega arith
raised_tops effect.Join h = omega (arith, greatest_own-rest h.shaped, greatest-rest h.plain)
raised_tops effect.JoinBody h = omega (arith, greatest-rest h.plain, greatest-rest (rest h.plain))
raised_tops effect.JoinBoth h = omega (arith, greatest_own-rest h.shaped, greatest-rest h.plain, greatest-rest (rest h.plain))
raised_tops effect.Two h = omega (arith, greatest_own-rest h.shaped, greatest_own-rest (rest h.shaped))
raised_tops effect.Dotted h = omega (arith, greatest_own-rest h.shaped, greatest-rest h.plain)
raised_tops effect.Append h = omega (arith, greatest-rest h.plain, greatest-rest (rest h.plain))
raised_tops effect.Nothing h = omega arith

pub tops_highest : (h : Heights) → tops h ≤ max 1 (highest h)
tops_highest h = omega (arith, high-greatest h.shaped, top-greatest h.plain)
