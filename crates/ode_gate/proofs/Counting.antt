-- What stands in a slot is one thing, and so is what an image says.
use Rattle.std.proofs.Common.{◌≡◌, ◌≤◌, ◌⊎◌, inl, inr, ⊎_elim, ℕ, List, [], ◌∷◌, Some, None, Ok, Err, Result, refl, sym, ◌∙◌, ap, subst, arith}
use Rattle.std.specs.Prelude.{is_some}
use Rattle.std.specs.Int.{w32}
use Rattle.std.proofs.lemmas.Bool.{cases_eq}
use Rattle.std.proofs.lemmas.Bool.Decides.{nat_tests}
use Rattle.std.proofs.lemmas.Nat.{from_be_bytes-to_be_bytes_4}
use Rattle.ode_host.specs.Fields.{number_at}
use Rattle.ode_gate.specs.declared.error.GateError.{GateError}
use Rattle.ode_gate.specs.declared.error.GateError.TheVariants.{DiskFault, NoDatabase, BadHeader, NewerFormat}
use Rattle.ode_gate.specs.declared.header.Header.{Header}
use Rattle.ode_gate.specs.declared.slot.Slot.{Slot}
use Rattle.ode_gate.specs.declared.slot.Slot.TheVariants.{Shut, Newer, Broken, Good}
use Rattle.ode_gate.specs.Headers.{IsHeader, IsOfAreas, IsOfPages, header_bytes, next_generation}
use Rattle.ode_gate.specs.Slots.{Counts, HasOpenSlot, HoldsHeader, IsBroken, IsNewer, IsOpen, IsShut, Leads, bytes_of, open_body, other_slot, place_of}
use Rattle.ode_gate.specs.Readings.{HasNone, IsBadAt, IsFirstNewer, NoneNewer, ReadsAs, Says, later_of, said_by}
use Rattle.ode_gate.proofs.Slotted.{opens}
use Rattle.ode_gate.proofs.Spelling.{is_in_range, moved_header, same_header}
use Rattle.ode_gate.specs.declared.places.TheConstants.{FORMAT, FORMAT_AT}
use Rattle.ode_gate.specs.declared.gate.TheConstants.{OPEN}

pub shut_open : (bytes : List ℕ) → IsShut bytes → IsOpen bytes → ⊥
shut_open bytes shut opened = cc (shut, opened)

pub holds_open : (bytes : List ℕ) (h : Header) → HoldsHeader bytes h → IsOpen bytes
holds_open bytes h holds = ap is_some holds.spells

pub holds_one : (bytes : List ℕ) (g h : Header) → HoldsHeader bytes g → HoldsHeader bytes h → g.slot ≡ h.slot → g ≡ h
holds_one bytes g h first second slot =
    let both : Some (header_bytes g) ≡ Some (header_bytes h) = sym first.spells ∙ second.spells in
    let same : header_bytes g ≡ header_bytes h = cc (both) in
    same_header g h (is_in_range g first.rules) (is_in_range h second.rules) same slot

format_at : (gate : ℕ) (h : Header) → IsHeader h → number_at w32 (gate ∷ header_bytes h) FORMAT_AT ≡ h.format
unfolding header_bytes
format_at gate h rules = from_be_bytes-to_be_bytes_4 h.format (is_in_range h rules).format

known_format : (h : Header) → IsHeader h → h.format ≤ FORMAT
known_format h rules = ⊎_elim (λ (areas : IsOfAreas h). omega (arith, areas.format)) (λ (pages : IsOfPages h). pages.format.1) rules.layout

-- a header that keeps the rules has a known format
pub holds_newer : (bytes : List ℕ) (h : Header) (format : ℕ) → HoldsHeader bytes h → IsNewer bytes format → ⊥
holds_newer [] h format holds newer = let no : None ≡ Some (header_bytes h) = holds.spells in cc (no)
holds_newer (gate ∷ body) h format holds newer = ⊎_elim
    (λ (shut : open_body (gate ∷ body) ≡ None). let no : None ≡ Some (header_bytes h) = sym shut ∙ holds.spells in cc (no))
    (λ (opened : (gate ≡ OPEN) × (open_body (gate ∷ body) ≡ Some body)).
    let both : Some body ≡ Some (header_bytes h) = sym opened.1 ∙ holds.spells in
    let is : body ≡ header_bytes h = cc (both) in
    let its : format ≡ h.format = newer.says ∙ ap (λ (l : List ℕ). number_at w32 (gate ∷ l) FORMAT_AT) is ∙ format_at gate h holds.rules in
    omega (arith, its, newer.above, known_format h holds.rules))
    (opens gate body)

-- a slot reads as one thing
pub reads_one : (slot : ℕ) (bytes : List ℕ) (x y : Slot) → ReadsAs slot bytes x → ReadsAs slot bytes y → x ≡ y
reads_one slot bytes Shut Shut a b = refl
reads_one slot bytes Shut (Newer f) a b = absurd (shut_open bytes a b.opened)
reads_one slot bytes Shut Broken a b = absurd (shut_open bytes a b.0.opened)
reads_one slot bytes Shut (Good h) a b = absurd (shut_open bytes a (holds_open bytes h b.1))
reads_one slot bytes (Newer f) Shut a b = absurd (shut_open bytes b a.opened)
reads_one slot bytes (Newer f) (Newer g) a b = ap Newer (a.says ∙ sym b.says)
reads_one slot bytes (Newer f) Broken a b = absurd (b.1 f a)
reads_one slot bytes (Newer f) (Good h) a b = absurd (holds_newer bytes h f b.1 a)
reads_one slot bytes Broken Shut a b = absurd (shut_open bytes b a.0.opened)
reads_one slot bytes Broken (Newer g) a b = absurd (a.1 g b)
reads_one slot bytes Broken Broken a b = refl
reads_one slot bytes Broken (Good h) a b = absurd (a.0.holds_none h b.1)
reads_one slot bytes (Good h) Shut a b = absurd (shut_open bytes b (holds_open bytes h a.1))
reads_one slot bytes (Good h) (Newer g) a b = absurd (holds_newer bytes h g a.1 b)
reads_one slot bytes (Good h) Broken a b = absurd (b.0.holds_none h a.1)
reads_one slot bytes (Good g) (Good h) a b = ap Good (holds_one bytes g h a.1 b.1 (a.0 ∙ sym b.0))

-- an image says one thing
pub says_one : (image : List ℕ) (a b : Result Header GateError) → Says image a → Says image b → a ≡ b
says_one image a b x y =
    let first : x.first ≡ y.first = reads_one 0 (bytes_of 0 image) x.first y.first x.reads_first y.reads_first in
    let second : x.second ≡ y.second = reads_one 1 (bytes_of 1 image) x.second y.second x.reads_second y.reads_second in
    x.said ∙ ap (λ (s : Slot). said_by s x.second) first ∙ ap (λ (s : Slot). said_by y.first s) second ∙ sym y.said

-- of two generations in their range one alone comes after the other
later_first : (g h : Header) → IsHeader g → IsHeader h → g.generation ≡ next_generation h.generation → Ok g ≡ later_of g h
later_first g h g_rules h_rules next = grind (arith, nat_tests)

later_second : (g h : Header) → IsHeader g → IsHeader h → h.generation ≡ next_generation g.generation → Ok h ≡ later_of g h
later_second g h g_rules h_rules next = grind (arith, nat_tests)

-- the header that counts is what the image says
pub says_counts : (image : List ℕ) (h : Header) → Counts image h → Says image (Ok h)
says_counts image h counts = ⊎_elim (λ (zero : h.slot ≡ 0). first zero) (λ (one : h.slot ≡ 1). second one) by_slot
  where
    by_slot : (h.slot ≡ 0) ⊎ (h.slot ≡ 1)
    by_slot = elim (cases_eq h.slot 0) [ inl zero ↦ inl zero | inr more ↦ inr (omega (arith, more, counts.slot)) ]

    first : h.slot ≡ 0 → Says image (Ok h)
    first zero =
        let leads : Leads (bytes_of 0 image) (bytes_of 1 image) h = subst (λ (k : ℕ). Leads (bytes_of k image) (bytes_of (other_slot k) image) h) zero counts.leads in
        ⊎_elim
        (λ (shut : IsShut (bytes_of 1 image)). record { first = Good h; second = Shut; reads_first = (zero, leads.holds); reads_second = shut; said = refl })
        (λ (older : (o : Header) × HoldsHeader (bytes_of 1 image) o × (h.generation ≡ next_generation o.generation)).
        let there = moved_header older.0 1 older.1.rules in
        record {
          first = Good h;
          second = Good (record older.0 { slot = 1 });
          reads_first = (zero, leads.holds);
          reads_second = (refl, record { spells = older.1.spells ∙ ap Some (sym there.1); rules = there.0 });
          said = later_first h (record older.0 { slot = 1 }) leads.holds.rules there.0 older.2;
        })
        leads.over

    second : h.slot ≡ 1 → Says image (Ok h)
    second one =
        let leads : Leads (bytes_of 1 image) (bytes_of 0 image) h = subst (λ (k : ℕ). Leads (bytes_of k image) (bytes_of (other_slot k) image) h) one counts.leads in
        ⊎_elim
        (λ (shut : IsShut (bytes_of 0 image)). record { first = Shut; second = Good h; reads_first = shut; reads_second = (one, leads.holds); said = refl })
        (λ (older : (o : Header) × HoldsHeader (bytes_of 0 image) o × (h.generation ≡ next_generation o.generation)).
        let there = moved_header older.0 0 older.1.rules in
        record {
          first = Good (record older.0 { slot = 0 });
          second = Good h;
          reads_first = (refl, record { spells = older.1.spells ∙ ap Some (sym there.1); rules = there.0 });
          reads_second = (one, leads.holds);
          said = later_second (record older.0 { slot = 0 }) h there.0 leads.holds.rules older.2;
        })
        leads.over

later_same : (g h : Header) → g.generation ≡ h.generation → later_of g h ≡ Err (BadHeader (place_of 0))
later_same g h same = grind (arith, nat_tests)

-- one of two headers counts, or both have one generation
later_cases : (g h : Header) → IsHeader g → IsHeader h
    → ((g.generation ≡ h.generation) × (later_of g h ≡ Err (BadHeader (place_of 0))))
    ⊎ ((g.generation ≡ next_generation h.generation) × (later_of g h ≡ Ok g))
    ⊎ ((h.generation ≡ next_generation g.generation) × (later_of g h ≡ Ok h))
later_cases g h g_rules h_rules = elim (cases_eq g.generation h.generation) [
  | inl same ↦ inl (same, later_same g h same)
  | inr differ ↦ elim (cases_eq g.generation (next_generation h.generation)) [
    | inl next ↦ inr (inl (next, sym (later_first g h g_rules h_rules next)))
    | inr other ↦
        let before : h.generation ≡ next_generation g.generation = omega (arith, differ, other, g_rules.generation, h_rules.generation) in
        inr (inr (before, sym (later_second g h g_rules h_rules before)))
  ]
]

-- the first of two slots counts, or the second
abbrev CountsAmong : List ℕ → List ℕ → Header → Type 0
CountsAmong a b h = ((h.slot ≡ 0) × Leads a b h) ⊎ ((h.slot ≡ 1) × Leads b a h)

found_later : (a b : List ℕ) (h g k : Header) → ReadsAs 0 a (Good g) → ReadsAs 1 b (Good k) → Ok h ≡ later_of g k → CountsAmong a b h
found_later a b h g k x y said = ⊎_elim
    (λ (same : (g.generation ≡ k.generation) × (later_of g k ≡ Err (BadHeader (place_of 0)))). let no = said ∙ same.1 in absurd (cc (no)))
    (λ (one : ((g.generation ≡ next_generation k.generation) × (later_of g k ≡ Ok g)) ⊎ ((k.generation ≡ next_generation g.generation) × (later_of g k ≡ Ok k))). ⊎_elim
    (λ (first : (g.generation ≡ next_generation k.generation) × (later_of g k ≡ Ok g)).
    let both = said ∙ first.1 in
    let is : g ≡ h = cc (both) in
    subst (λ (z : Header). CountsAmong a b z) is (inl (x.0, record { holds = x.1; over = inr (k, y.1, first.0) })))
    (λ (second : (k.generation ≡ next_generation g.generation) × (later_of g k ≡ Ok k)).
    let both = said ∙ second.1 in
    let is : k ≡ h = cc (both) in
    subst (λ (z : Header). CountsAmong a b z) is (inr (y.0, record { holds = y.1; over = inr (g, x.1, second.0) })))
    one)
    (later_cases g k x.1.rules y.1.rules)

found_from : (a b : List ℕ) (h : Header) (x y : Slot) → ReadsAs 0 a x → ReadsAs 1 b y → Ok h ≡ said_by x y → CountsAmong a b h
found_from a b h (Newer f) y r s said = absurd (cc (said))
found_from a b h Broken (Newer f) r s said = absurd (cc (said))
found_from a b h Broken Broken r s said = absurd (cc (said))
found_from a b h Broken Shut r s said = absurd (cc (said))
found_from a b h Broken (Good k) r s said = absurd (cc (said))
found_from a b h Shut (Newer f) r s said = absurd (cc (said))
found_from a b h Shut Broken r s said = absurd (cc (said))
found_from a b h Shut Shut r s said = absurd (cc (said))
found_from a b h Shut (Good k) r s said = let is : k ≡ h = cc (said) in subst (λ (z : Header). CountsAmong a b z) is (inr (s.0, record { holds = s.1; over = inl r }))
found_from a b h (Good g) (Newer f) r s said = absurd (cc (said))
found_from a b h (Good g) Broken r s said = absurd (cc (said))
found_from a b h (Good g) Shut r s said = let is : g ≡ h = cc (said) in subst (λ (z : Header). CountsAmong a b z) is (inl (r.0, record { holds = r.1; over = inl s }))
found_from a b h (Good g) (Good k) r s said = found_later a b h g k r s said

-- what two slots say keeps the rules
pub rules_from : (a b : List ℕ) (h : Header) (x y : Slot) → ReadsAs 0 a x → ReadsAs 1 b y → Ok h ≡ said_by x y → IsHeader h
rules_from a b h x y r s said = ⊎_elim
    (λ (first : (h.slot ≡ 0) × Leads a b h). first.1.holds.rules)
    (λ (second : (h.slot ≡ 1) × Leads b a h). second.1.holds.rules)
    (found_from a b h x y r s said)

-- and counts
pub says_found : (image : List ℕ) (h : Header) → Says image (Ok h) → Counts image h
says_found image h says = ⊎_elim
    (λ (zero : (h.slot ≡ 0) × Leads (bytes_of 0 image) (bytes_of 1 image) h). record {
      slot = omega (arith, zero.0);
      leads = subst (λ (k : ℕ). Leads (bytes_of k image) (bytes_of (other_slot k) image) h) (sym zero.0) zero.1;
    })
    (λ (one : (h.slot ≡ 1) × Leads (bytes_of 1 image) (bytes_of 0 image) h). record {
      slot = omega (arith, one.0);
      leads = subst (λ (k : ℕ). Leads (bytes_of k image) (bytes_of (other_slot k) image) h) (sym one.0) one.1;
    })
    (found_from (bytes_of 0 image) (bytes_of 1 image) h says.first says.second says.reads_first says.reads_second says.said)

-- one header alone counts
pub one_counts : (image : List ℕ) (g h : Header) → Counts image g → Counts image h → g ≡ h
one_counts image g h first second =
    let same = says_one image (Ok g) (Ok h) (says_counts image g first) (says_counts image h second) in
    cc (same)

-- and its slot is open
pub open_from_counts : (image : List ℕ) (h : Header) → Counts image h → HasOpenSlot image
open_from_counts image h counts = ⊎_elim
    (λ (first : (h.slot ≡ 0) × Leads (bytes_of 0 image) (bytes_of 1 image) h). inl (holds_open (bytes_of 0 image) h first.1.holds))
    (λ (second : (h.slot ≡ 1) × Leads (bytes_of 1 image) (bytes_of 0 image) h). inr (holds_open (bytes_of 1 image) h second.1.holds))
    (let says = says_counts image h counts in found_from (bytes_of 0 image) (bytes_of 1 image) h says.first says.second says.reads_first says.reads_second says.said)

-- ---- why none does

-- why an image has no header that counts; a fault of the disk is none of its own
abbrev pub IsReason : List ℕ → GateError → Type 0
IsReason image DiskFault = Unit {0}
IsReason image NoDatabase = HasNone image
IsReason image (NewerFormat format) = IsFirstNewer image format
IsReason image (BadHeader at) = NoneNewer image × IsBadAt image at

no_later : (g h : Header) (e : GateError) → IsHeader g → IsHeader h → Err e ≡ later_of g h → (e ≡ BadHeader (place_of 0)) × (g.generation ≡ h.generation)
no_later g h e g_rules h_rules said = ⊎_elim
    (λ (same : (g.generation ≡ h.generation) × (later_of g h ≡ Err (BadHeader (place_of 0)))). let is = said ∙ same.1 in (cc (is), same.0))
    (λ (one : ((g.generation ≡ next_generation h.generation) × (later_of g h ≡ Ok g)) ⊎ ((h.generation ≡ next_generation g.generation) × (later_of g h ≡ Ok h))). ⊎_elim
    (λ (first : (g.generation ≡ next_generation h.generation) × (later_of g h ≡ Ok g)). let no = said ∙ first.1 in absurd (cc (no)))
    (λ (second : (h.generation ≡ next_generation g.generation) × (later_of g h ≡ Ok h)). let no = said ∙ second.1 in absurd (cc (no)))
    one)
    (later_cases g h g_rules h_rules)

shut_newer : (bytes : List ℕ) (f : ℕ) → IsShut bytes → IsNewer bytes f → ⊥
shut_newer bytes f shut newer = shut_open bytes shut newer.opened

shut_broken : (bytes : List ℕ) → IsShut bytes → IsBroken bytes → ⊥
shut_broken bytes shut broken = shut_open bytes shut broken.opened

neither : (a b : List ℕ) → ((f : ℕ) → IsNewer a f → ⊥) → ((f : ℕ) → IsNewer b f → ⊥) → (f : ℕ) → IsNewer a f ⊎ IsNewer b f → ⊥
neither a b first second f newer = ⊎_elim (first f) (second f) newer

reason_from : (image : List ℕ) (e : GateError) (x y : Slot) → ReadsAs 0 (bytes_of 0 image) x → ReadsAs 1 (bytes_of 1 image) y → Err e ≡ said_by x y → IsReason image e
reason_from image e (Newer f) y r s said = let is : NewerFormat f ≡ e = cc (said) in subst (IsReason image) is (inl r)
reason_from image e Broken (Newer f) r s said = let is : NewerFormat f ≡ e = cc (said) in subst (IsReason image) is (inr (r.1, s))
reason_from image e Broken Broken r s said =
    let is : BadHeader (place_of 0) ≡ e = cc (said) in
    subst (IsReason image) is (neither (bytes_of 0 image) (bytes_of 1 image) r.1 s.1, inl (refl, r.0))
reason_from image e Broken Shut r s said =
    let is : BadHeader (place_of 0) ≡ e = cc (said) in
    subst (IsReason image) is (neither (bytes_of 0 image) (bytes_of 1 image) r.1 (λ f. shut_newer (bytes_of 1 image) f s), inl (refl, r.0))
reason_from image e Broken (Good k) r s said =
    let is : BadHeader (place_of 0) ≡ e = cc (said) in
    subst (IsReason image) is (neither (bytes_of 0 image) (bytes_of 1 image) r.1 (λ f. holds_newer (bytes_of 1 image) k f s.1), inl (refl, r.0))
reason_from image e Shut (Newer f) r s said =
    let is : NewerFormat f ≡ e = cc (said) in
    subst (IsReason image) is (inr (λ g. shut_newer (bytes_of 0 image) g r, s))
reason_from image e Shut Broken r s said =
    let is : BadHeader (place_of 1) ≡ e = cc (said) in
    subst (IsReason image) is (neither (bytes_of 0 image) (bytes_of 1 image) (λ f. shut_newer (bytes_of 0 image) f r) s.1, inr (inl (refl, shut_broken (bytes_of 0 image) r, s.0)))
reason_from image e Shut Shut r s said = let is : NoDatabase ≡ e = cc (said) in subst (IsReason image) is (r, s)
reason_from image e Shut (Good k) r s said = absurd (cc (said))
reason_from image e (Good g) (Newer f) r s said =
    let is : NewerFormat f ≡ e = cc (said) in
    subst (IsReason image) is (inr (λ f. holds_newer (bytes_of 0 image) g f r.1, s))
reason_from image e (Good g) Broken r s said =
    let is : BadHeader (place_of 1) ≡ e = cc (said) in
    subst (IsReason image) is
    (neither (bytes_of 0 image) (bytes_of 1 image) (λ f. holds_newer (bytes_of 0 image) g f r.1) s.1, inr (inl (refl, λ broken. broken.holds_none g r.1, s.0)))
reason_from image e (Good g) Shut r s said = absurd (cc (said))
reason_from image e (Good g) (Good k) r s said =
    let why = no_later g k e r.1.rules s.1.rules said in
    subst (IsReason image) (sym why.0) (
      neither (bytes_of 0 image) (bytes_of 1 image) (λ f. holds_newer (bytes_of 0 image) g f r.1) (λ f. holds_newer (bytes_of 1 image) k f s.1),
      inr (inr (refl, record { h = g; older = k; first_holds = r.1; second_holds = s.1; same = why.1 })),
    )

-- an image that has no header that counts says why
pub says_reason : (image : List ℕ) (e : GateError) → Says image (Err e) → IsReason image e
says_reason image e says = reason_from image e says.first says.second says.reads_first says.reads_second says.said
