-- Words of visits.
use Rattle.std.proofs.Common.{◌≡◌, ℕ, ◌+◌, ◌<◌, List, [], ◌∷◌, ◌++◌, length, refl, sym, ap, ◌∙◌, arith}
use Rattle.std.specs.Prelude.{All, reverse}
use Rattle.std.proofs.lemmas.List.{reverse-append}
use Rattle.std.proofs.lemmas.List.Elements.{All-nil, All-cons, All-append}
use Rattle.std.proofs.lemmas.List.Sums.{fold-append}
use Rattle.ode_value.specs.Tables.{Table, next_state, run}
use Rattle.ode_walk.specs.declared.visit.Visit.{Visit}
use Rattle.ode_walk.specs.Relation.{Leads}
use Rattle.ode_walk.specs.Search.{visit_at, IsTree}

-- by a word the visit at `place` leads to the one at `at`
pub record IsBehind (stored built : Table) (visits : List Visit) (at place : ℕ) (word : List ℕ) : Type 0 where
  pub symbols : All (λ s. s < stored.symbols) word
  pub to_stored : run stored (visit_at visits place).stored word ≡ (visit_at visits at).stored
  pub to_built : run built (visit_at visits place).built word ≡ (visit_at visits at).built
  pub length : length word + (visit_at visits place).length ≡ (visit_at visits at).length

pub behind_none : (stored built : Table) (visits : List Visit) (at : ℕ) → IsBehind stored built visits at at []
behind_none stored built visits at = record {
  symbols = All-nil (λ s. s < stored.symbols);
  to_stored = refl;
  to_built = refl;
  length = omega arith;
}

pub behind_more : (stored built : Table) (visits : List Visit) (at place : ℕ) (word : List ℕ) → IsTree stored built visits → 0 < place → place < length visits
    → IsBehind stored built visits at place word → IsBehind stored built visits at (visit_at visits place).from ((visit_at visits place).symbol ∷ word)
behind_more stored built visits at place word tree after within h =
    let step = tree.steps place after within in
    let v = visit_at visits place in
    record {
      symbols = All-cons (λ s. s < stored.symbols) v.symbol word step.symbol h.symbols;
      to_stored = ap (λ q. run stored q word) (sym step.stored_next) ∙ h.to_stored;
      to_built = ap (λ q. run built q word) (sym step.built_next) ∙ h.to_built;
      length = omega (arith, step.length, h.length);
    }

pub reverse_push : (word : List ℕ) (s : ℕ) → reverse (word ++ s ∷ []) ≡ s ∷ reverse word
reverse_push word s = reverse-append word (s ∷ [])

pub leads_all : (stored built : Table) (visits : List Visit) (at : ℕ) (word : List ℕ) → IsTree stored built visits → IsBehind stored built visits at 0 word
    → Leads stored built word (visit_at visits at).stored (visit_at visits at).built
leads_all stored built visits at word tree h = record {
  symbols = h.symbols;
  to_stored = ap (λ (v : Visit). run stored v.stored word) (sym tree.first) ∙ h.to_stored;
  to_built = ap (λ (v : Visit). run built v.built word) (sym tree.first) ∙ h.to_built;
}

pub length_all : (stored built : Table) (visits : List Visit) (at : ℕ) (word : List ℕ) → IsTree stored built visits → IsBehind stored built visits at 0 word
    → length word ≡ (visit_at visits at).length
length_all stored built visits at word tree h =
    let none : (visit_at visits 0).length ≡ 0 = ap (λ (v : Visit). v.length) tree.first in
    omega (arith, h.length, none)

-- one more symbol
pub leads_more : (stored built : Table) (word : List ℕ) (q r s : ℕ) → s < stored.symbols → Leads stored built word q r
    → Leads stored built (word ++ s ∷ []) (next_state stored q s) (next_state built r s)
leads_more stored built word q r s below h = record {
  symbols = All-append-one;
  to_stored = fold-append (next_state stored) 0 word (s ∷ []) ∙ ap (λ x. next_state stored x s) h.to_stored;
  to_built = fold-append (next_state built) 0 word (s ∷ []) ∙ ap (λ x. next_state built x s) h.to_built;
} where
  All-append-one : All (λ x. x < stored.symbols) (word ++ s ∷ [])
  All-append-one = All-append (λ x. x < stored.symbols) word (s ∷ []) h.symbols (All-cons (λ x. x < stored.symbols) s [] below (All-nil (λ x. x < stored.symbols)))
