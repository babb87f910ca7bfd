-- What a search says of the tables.
use Rattle.std.proofs.Common.{◌≡◌, ◌≢◌, ℕ, zero, suc, ◌+◌, ◌<◌, ◌≤◌, Bool, List, [], ◌∷◌, ◌++◌, length, refl, sym, ap, ◌∙◌, subst, arith, inl, inr, ◌⊎◌, Option, Some, None}
use Rattle.std.specs.Prelude.{All, IsSome, reverse, slice_index_or, true}
use Rattle.std.proofs.lemmas.Bool.{cases_lt}
use Rattle.std.proofs.lemmas.List.{length_push, length-reverse}
use Rattle.std.proofs.lemmas.List.Elements.{All-nil, All-tail}
use Rattle.ode_value.specs.Tables.{Table, run, says_yes}
use Rattle.ode_walk.specs.declared.visit.Visit.{Visit}
use Rattle.ode_walk.specs.Relation.{is_lower, Leads, IsAlike, Agrees, IsPartner, IsRelation, IsShortest}
use Rattle.ode_walk.specs.Search.{visit_at, IsLonger, IsMet, IsStepped, IsSearch, IsExplored}
use Rattle.ode_walk.proofs.OrderLaws.{done_lower}
use Rattle.ode_walk.proofs.SearchLaws.{few}
use Rattle.ode_walk.proofs.VisitLaws.{leads_more}

-- Where the visits of words shorter than a limit were stepped.
module _ (stored built : Table) (visits : List Visit) (limit : ℕ)
    (done : (k s : ℕ) → k < length visits → (visit_at visits k).length < limit → s < stored.symbols → IsStepped stored built visits (visit_at visits k) s) where
  -- the tables agree on words up to that length
  alike_from : (word : List ℕ) (j : ℕ) → j < length visits → All (λ s. s < stored.symbols) word → 0 < length word → (visit_at visits j).length + length word ≤ limit
      → says_yes stored (run stored (visit_at visits j).stored word) ≡ says_yes built (run built (visit_at visits j).built word)
  alike_from [] j within all some short = absurd (omega arith)
  alike_from (s ∷ []) j within all some short = (done j s within (omega arith) (all 0 0 (omega arith))).answers
  alike_from (s ∷ x ∷ word) j within all some short =
      let there = (done j s within (omega arith) (all 0 0 (omega arith))).visited in
      ap (λ q. says_yes stored (run stored q (x ∷ word))) (sym there.stored)
      ∙ alike_from (x ∷ word) there.place there.within (All-tail (λ n. n < stored.symbols) s (x ∷ word) all) (omega arith) (omega (arith, there.length))
      ∙ ap (λ q. says_yes built (run built q (x ∷ word))) there.built

  -- and what these words lead to was visited
  met_from : (word : List ℕ) (j : ℕ) → j < length visits → All (λ s. s < stored.symbols) word → (visit_at visits j).length + length word ≤ limit
      → IsMet visits (run stored (visit_at visits j).stored word) (run built (visit_at visits j).built word)
  met_from [] j within all short = record { place = j; within = within; stored = refl; built = refl }
  met_from (s ∷ word) j within all short =
      let there = (done j s within (omega arith) (all 0 0 (omega arith))).visited in
      let rest = met_from word there.place there.within (All-tail (λ n. n < stored.symbols) s word all) (omega (arith, there.length)) in
      record {
        place = rest.place;
        within = rest.within;
        stored = rest.stored ∙ ap (λ q. run stored q word) there.stored;
        built = rest.built ∙ ap (λ q. run built q word) there.built;
      }

-- ---- a shortest word

pub shortest : (stored built : Table) (visits : List Visit) (seen : List Bool) (head upto p q : ℕ) (word : List ℕ) → head < length visits → IsSearch stored built visits seen head upto
    → Leads stored built word p q → length word ≡ (visit_at visits head).length + 1 → IsLonger visits head upto word → says_yes stored p ≢ says_yes built q → IsShortest stored built word
shortest stored built visits seen head upto p q word within h leads long longer differs = record {
  is_word = record { some = omega arith; each = leads.symbols };
  differs = λ same. differs (ap (says_yes stored) (sym leads.to_stored) ∙ same ∙ ap (says_yes built) leads.to_built);
  shortest = λ other is short.
      let none : (visit_at visits 0).length ≡ 0 = ap (λ (v : Visit). v.length) h.tree.first in
      let alike = alike_from stored built visits (visit_at visits head).length done other 0 h.some is.each is.some (omega arith) in
      ap (λ (v : Visit). says_yes stored (run stored v.stored other)) (sym h.tree.first) ∙ alike ∙ ap (λ (v : Visit). says_yes built (run built v.built other)) h.tree.first;
  least = λ other is same low.
      let length_is : length word ≡ length longer.back + 1 = ap length longer.is ∙ length_push (reverse longer.back) upto ∙ ap (λ n. n + 1) (length-reverse longer.back) in
      (done_lower stored built visits seen head upto within h longer.back longer.of other (same ∙ length_is) (subst (λ l. is_lower other l ≡ true) longer.is low) is.each).answers;
  limit = omega (arith, long, h.short head, few stored built visits seen head upto h);
} where
  done : (k s : ℕ) → k < length visits → (visit_at visits k).length < (visit_at visits head).length → s < stored.symbols → IsStepped stored built visits (visit_at visits k) s
  done k s inside shorter below = by_place (cases_lt k head) where
    by_place : (k < head) ⊎ (head ≤ k) → IsStepped stored built visits (visit_at visits k) s
    by_place (inl before) = h.stepped k s before below
    by_place (inr after) = absurd (omega (arith, h.rising head k after inside))

-- ---- all pairs

module _ (stored built : Table) (visits : List Visit) (h : IsExplored stored built visits) where
  done_all : (limit k s : ℕ) → k < length visits → (visit_at visits k).length < limit → s < stored.symbols → IsStepped stored built visits (visit_at visits k) s
  done_all limit k s within short below = h.stepped k s within below

  alike_at : (k : ℕ) → k < length visits → IsAlike stored (visit_at visits k).stored built (visit_at visits k).built
  alike_at k within = λ word is.
      let limit = (visit_at visits k).length + length word in
      alike_from stored built visits limit (done_all limit) word k within is.each is.some (omega arith)

  pub agrees : Agrees stored built
  agrees = λ word is.
      ap (λ (v : Visit). says_yes stored (run stored v.stored word)) (sym h.tree.first) ∙ alike_at 0 h.some word is ∙ ap (λ (v : Visit). says_yes built (run built v.built word)) h.tree.first

  met : (word : List ℕ) → All (λ s. s < stored.symbols) word → IsMet visits (run stored 0 word) (run built 0 word)
  met word all =
      let limit = (visit_at visits 0).length + length word in
      let there = met_from stored built visits limit (done_all limit) word 0 h.some all (omega arith) in
      record {
        place = there.place;
        within = there.within;
        stored = there.stored ∙ ap (λ (v : Visit). run stored v.stored word) h.tree.first;
        built = there.built ∙ ap (λ (v : Visit). run built v.built word) h.tree.first;
      }

  -- each visit has a word
  record HasWord (v : Visit) : Type 0 where
    pub word : List ℕ
    pub leads : Leads stored built word v.stored v.built

  word_below : (n k : ℕ) → k < n → k < length visits → HasWord (visit_at visits k)
  word_below zero k low within = absurd (omega arith)
  word_below (suc n) zero low within = record {
    word = [];
    leads = record {
      symbols = All-nil (λ s. s < stored.symbols);
      to_stored = ap (λ (v : Visit). v.stored) (sym h.tree.first);
      to_built = ap (λ (v : Visit). v.built) (sym h.tree.first);
    };
  }
  word_below (suc n) (suc k) low within =
      let back = h.tree.back (suc k) (omega arith) within in
      let step = h.tree.steps (suc k) (omega arith) within in
      let v = visit_at visits (suc k) in
      let u = visit_at visits v.from in
      let before = word_below n v.from (omega arith) (omega arith) in
      let leads = leads_more stored built before.word u.stored u.built v.symbol step.symbol before.leads in
      record {
        word = before.word ++ v.symbol ∷ [];
        leads = record { symbols = leads.symbols; to_stored = leads.to_stored ∙ sym step.stored_next; to_built = leads.to_built ∙ sym step.built_next };
      }

  partner : (q r : ℕ) → IsMet visits q r → IsPartner stored built q r
  partner q r there =
      let has = word_below (there.place + 1) there.place (omega arith) there.within in
      record {
        word = has.word;
        leads = record { symbols = has.leads.symbols; to_stored = has.leads.to_stored ∙ there.stored; to_built = has.leads.to_built ∙ there.built };
        state = subst (λ x. x < built.states) there.built (h.built_below there.place);
        alike = λ word is.
            ap (λ x. says_yes stored (run stored x word)) (sym there.stored) ∙ alike_at there.place there.within word is ∙ ap (λ x. says_yes built (run built x word)) there.built;
      }

  pub relation : (numbers : List (Option ℕ)) → length numbers ≡ stored.states → ((q r : ℕ) → slice_index_or numbers q None ≡ Some r → IsMet visits q r)
      → ((k : ℕ) → k < length visits → IsSome (slice_index_or numbers (visit_at visits k).stored None)) → IsRelation stored built numbers
  relation numbers long given each = record {
    states = long;
    reached = λ q is.
        let there = met is.word is.symbols in
        subst (λ x. IsSome (slice_index_or numbers x None)) (there.stored ∙ is.reached) (each there.place there.within);
    partners = λ q r is. partner q r (given q r is);
  }
