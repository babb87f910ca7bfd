-- Rows that come between others.
use Rattle.std.proofs.Common.{◌≡◌, ◌<◌, ◌≤◌, ℕ, ◌+◌, List, [], ◌∷◌, ◌++◌, refl, sym, ◌∙◌, ap, arith, append_assoc, subst}
use Rattle.std.specs.BTreeMap.{insert_entry}
use Rattle.std.specs.Cmp.{nat_cmp_is}
use Rattle.std.specs.List.{AllByRecursion}
use Rattle.std.specs.Ordering.{match_ordering, nat_cmp, ordering_then}
use Rattle.std.specs.declared.cmp.Ordering.{Ordering}
use Rattle.std.specs.declared.cmp.Ordering.TheVariants.{Equal, Greater, Less}
use Rattle.ode_keep.specs.Entries.{Entries, applied}
use Rattle.ode_value.specs.Keys.{key, key_cmp}
use Rattle.ode_value.specs.Records.{Row}
use Rattle.ode_value.specs.declared.key.Key.{Key}
use Rattle.ode_class_records.specs.Puts.{puts}
use Rattle.ode_class_records.proofs.ClimbLaws.{Climbs}
use Rattle.ode_laws.proofs.Each.{all-append}

-- all of these are below a key, or above it
abbrev pub Under : Key → Entries → Type 0
Under k es = AllByRecursion (λ (e : Row). key_cmp k e.0 ≡ Greater) es

abbrev pub Over : Key → Entries → Type 0
Over k es = AllByRecursion (λ (e : Row). key_cmp k e.0 ≡ Less) es

insert_first : (k : Key) (v : List ℕ) (es : Entries) → Over k es → insert_entry key_cmp es k v ≡ (k, v) ∷ es
insert_first k v [] over = refl
insert_first k v (e ∷ es) over = ap (λ o. match_ordering o ((k, v) ∷ e ∷ es) ((e.0, v) ∷ es) (e ∷ insert_entry key_cmp es k v)) over.0

insert_between : (k : Key) (v : List ℕ) (low high : Entries) → Under k low → Over k high → insert_entry key_cmp (low ++ high) k v ≡ low ++ (k, v) ∷ high
insert_between k v [] high under over = insert_first k v high over
insert_between k v (e ∷ low) high under over =
    ap (λ o. match_ordering o ((k, v) ∷ e ∷ (low ++ high)) ((e.0, v) ∷ (low ++ high)) (e ∷ insert_entry key_cmp (low ++ high) k v)) under.0
    ∙ ap (λ (es : Entries). e ∷ es) (insert_between k v low high under.1 over)

-- ---- the order of keys

above_kind : (k l : Key) → l.kind < k.kind → key_cmp k l ≡ Greater
above_kind k l less = ap (λ (o : Ordering). ordering_then o (ordering_then (nat_cmp k.a l.a) (nat_cmp k.b l.b))) (sym (nat_cmp_is k.kind l.kind Greater less))

below_kind : (k l : Key) → k.kind < l.kind → key_cmp k l ≡ Less
below_kind k l less = ap (λ (o : Ordering). ordering_then o (ordering_then (nat_cmp k.a l.a) (nat_cmp k.b l.b))) (sym (nat_cmp_is k.kind l.kind Less less))

above_a : (k l : Key) → k.kind ≡ l.kind → l.a < k.a → key_cmp k l ≡ Greater
above_a k l same less =
    ap (λ (o : Ordering). ordering_then o (ordering_then (nat_cmp k.a l.a) (nat_cmp k.b l.b))) (sym (nat_cmp_is k.kind l.kind Equal same))
    ∙ ap (λ (o : Ordering). ordering_then o (nat_cmp k.b l.b)) (sym (nat_cmp_is k.a l.a Greater less))

above_b : (k l : Key) → k.kind ≡ l.kind → k.a ≡ l.a → l.b < k.b → key_cmp k l ≡ Greater
above_b k l same class less =
    ap (λ (o : Ordering). ordering_then o (ordering_then (nat_cmp k.a l.a) (nat_cmp k.b l.b))) (sym (nat_cmp_is k.kind l.kind Equal same))
    ∙ ap (λ (o : Ordering). ordering_then o (nat_cmp k.b l.b)) (sym (nat_cmp_is k.a l.a Equal class))
    ∙ sym (nat_cmp_is k.b l.b Greater less)

-- rows of lower kinds, of higher ones, and those of earlier classes of one kind
abbrev pub Lower : ℕ → Entries → Type 0
Lower kind es = AllByRecursion (λ (e : Row). e.0.kind < kind) es

abbrev pub Higher : ℕ → Entries → Type 0
Higher kind es = AllByRecursion (λ (e : Row). kind < e.0.kind) es

abbrev pub Earlier : ℕ → ℕ → Entries → Type 0
Earlier kind class es = AllByRecursion (λ (e : Row). (e.0.kind ≡ kind) × (e.0.a < class)) es

pub under_lower : (kind a b : ℕ) (es : Entries) → Lower kind es → Under (key kind a b) es
under_lower kind a b [] all = tt
under_lower kind a b (e ∷ es) all = (above_kind (key kind a b) e.0 all.0, under_lower kind a b es all.1)

pub over_higher : (kind a b : ℕ) (es : Entries) → Higher kind es → Over (key kind a b) es
over_higher kind a b [] all = tt
over_higher kind a b (e ∷ es) all = (below_kind (key kind a b) e.0 all.0, over_higher kind a b es all.1)

pub under_earlier : (kind class b : ℕ) (es : Entries) → Earlier kind class es → Under (key kind class b) es
under_earlier kind class b [] all = tt
under_earlier kind class b (e ∷ es) all = (above_a (key kind class b) e.0 (sym all.0.0) all.0.1, under_earlier kind class b es all.1)

pub lower_earlier : (kind class top : ℕ) (es : Entries) → kind < top → Earlier kind class es → Lower top es
lower_earlier kind class top [] less all = tt
lower_earlier kind class top (e ∷ es) less all = (omega (arith, less, all.0.0), lower_earlier kind class top es less all.1)

pub higher_earlier : (kind class low : ℕ) (es : Entries) → low < kind → Earlier kind class es → Higher low es
higher_earlier kind class low [] less all = tt
higher_earlier kind class low (e ∷ es) less all = (omega (arith, less, all.0.0), higher_earlier kind class low es less all.1)

pub lower_climbs : (kind a low high top : ℕ) (rs : List Row) → kind < top → Climbs kind a low high rs → Lower top rs
lower_climbs kind a low high top [] less c = tt
lower_climbs kind a low high top (r ∷ rs) less c = (omega (arith, less, c.0), lower_climbs kind a (r.0.b + 1) high top rs less c.3)

-- ---- rows of one class, between those below them and those above

module _ (kind class : ℕ) (high : Entries) (above : (b : ℕ) → Over (key kind class b) high) where
  pub between : (low top : ℕ) (rs : List Row) (es : Entries) → Climbs kind class low top rs → ((b : ℕ) → low ≤ b → Under (key kind class b) es)
      → applied (puts rs) (es ++ high) ≡ es ++ (rs ++ high)
  between low top [] es c below = refl
  between low top (r ∷ rs) es c below =
      let is : key kind class r.0.b ≡ r.0 = λ i. record { kind = sym c.0 i; a = sym c.1 i; b = r.0.b } in
      let under : Under r.0 es = subst (λ k. Under k es) is (below r.0.b c.2) in
      let over : Over r.0 high = subst (λ k. Over k high) is (above r.0.b) in
      let next : (b : ℕ) → r.0.b + 1 ≤ b → Under (key kind class b) (es ++ r ∷ []) =
      λ b le.
      let lower : low ≤ b = omega (arith, le, c.2) in
      all-append (λ (e : Row). key_cmp (key kind class b) e.0 ≡ Greater) es (r ∷ []) (below b lower)
      (above_b (key kind class b) r.0 (sym c.0) (sym c.1) (omega (arith, le)), tt) in
      ap (applied (puts rs)) (insert_between r.0 r.1 es high under over ∙ sym (append_assoc es (r ∷ []) high))
      ∙ between (r.0.b + 1) top rs (es ++ r ∷ []) c.3 next
      ∙ append_assoc es (r ∷ []) (rs ++ high)

-- they come behind the rows of earlier classes of their kind
pub behind_earlier : (kind class top : ℕ) (rs : List Row) (es seg rest : Entries) → Climbs kind class 0 top rs → Lower kind es → Earlier kind class seg → Higher kind rest
    → applied (puts rs) (es ++ (seg ++ rest)) ≡ (es ++ (seg ++ rs)) ++ rest
behind_earlier kind class top rs es seg rest climbs lower earlier higher =
    ap (applied (puts rs)) (sym (append_assoc es seg rest))
    ∙ between kind class rest (λ b. over_higher kind class b rest higher) 0 top rs (es ++ seg) climbs
    (λ b le. all-append (λ (e : Row). key_cmp (key kind class b) e.0 ≡ Greater) es seg (under_lower kind class b es lower) (under_earlier kind class b seg earlier))
    ∙ sym (append_assoc (es ++ seg) rs rest)
    ∙ ap (λ (front : Entries). front ++ rest) (append_assoc es seg rs)

pub applied_both : (rs ss : List Row) (es : Entries) → applied (puts (rs ++ ss)) es ≡ applied (puts ss) (applied (puts rs) es)
applied_both [] ss es = refl
applied_both (r ∷ rs) ss es = applied_both rs ss (insert_entry key_cmp es r.0 r.1)
