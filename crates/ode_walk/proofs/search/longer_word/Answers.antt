use Rattle.std.proofs.Common.{◌≡◌, ◌∷◌, ◌++◌, [], length, ap, sym, ◌∙◌, subst, arith}
use Rattle.std.specs.Prelude.{reverse}
use Rattle.std.proofs.lemmas.List.{length_push, reverse-reverse}
use Rattle.ode_value.specs.Tables.{next_state}
use Rattle.ode_walk.specs.Relation.{Leads}
use Rattle.ode_walk.specs.Search.{visit_at}
use Rattle.ode_walk.proofs.VisitLaws.{leads_more}
use Rattle.ode_walk.proofs.search.longer_word.Goals as goal

pub returns-clause-leads : goal.returns-clause-leads
returns-clause-leads c = λ stored built tree below.
    let v = visit_at c.args.visits.now c.args.at in
    let is : c.from_vec.result ≡ c.in_ok-word.word.items ++ c.args.symbol ∷ [] = c.from_vec.ensures ∙ c.in_ok-push.ensures.items in
    subst (λ word. Leads stored built word (next_state stored v.stored c.args.symbol) (next_state built v.built c.args.symbol)) (sym is)
    (leads_more stored built c.in_ok-word.word.items v.stored v.built c.args.symbol below (c.in_ok-word.ensures.leads stored built tree))

pub returns-clause-length : goal.returns-clause-length
returns-clause-length c = λ stored built tree.
    let is : c.from_vec.result ≡ c.in_ok-word.word.items ++ c.args.symbol ∷ [] = c.from_vec.ensures ∙ c.in_ok-push.ensures.items in
    omega (arith, ap length is, length_push c.in_ok-word.word.items c.args.symbol, c.in_ok-word.ensures.length stored built tree)

pub returns-clause-longer : goal.returns-clause-longer
returns-clause-longer c =
    let items = c.in_ok-word.word.items in
    record {
      back = reverse items;
      of = c.in_ok-word.ensures.back;
      is = c.from_vec.ensures ∙ c.in_ok-push.ensures.items ∙ ap (λ l. l ++ c.args.symbol ∷ []) (sym (reverse-reverse items));
    }
