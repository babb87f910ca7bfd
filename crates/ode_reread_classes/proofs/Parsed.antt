-- A text that is read is parsed so, and isn't refused.
use Rattle.std.proofs.Common.{◌≡◌, ℕ, ◌+◌, List, map, take, drop, refl, sym, ◌∙◌, subst}
use Rattle.std.proofs.lemmas.List.{take-append-drop}
use Rattle.ode_lex.specs.declared.token.Token.{Token}
use Rattle.ode_lex.specs.Tokens.{lexed, NoToken, Tokens}
use Rattle.ode_grammar.specs.declared.reader.Start.{Start}
use Rattle.ode_grammar.specs.Grammar.{items_of}
use Rattle.ode_grammar.proofs.Follows.{start_well}
use Rattle.ode_grammar.proofs.Runs.{one_meaning}
use Rattle.ode_heights.specs.declared.height.TheConstants.{HEIGHT_LIMIT}
use Rattle.ode_heights.specs.Depths.{BeginsWithin, IsTextWithin}
use Rattle.ode_terminals.specs.declared.seen.Place.{Place}
use Rattle.ode_syntax.specs.declared.trees.Trees.{Trees}
use Rattle.ode_syntax.specs.Kept.{spelled}
use Rattle.ode_syntax.specs.Trees.{no_trees, trees}
use Rattle.ode_eventsyn.specs.declared.error.SyntaxError.{SyntaxError}
use Rattle.ode_eventsyn.specs.declared.error.SyntaxError.TheVariants as error
use Rattle.ode_eventsyn.specs.Parsing.{seen, AreTree, IsWhyWhole}
use Rattle.ode_classyn.specs.Texts.{IsParsed, IsUnparsed, IsWhyNot, Standing}
use Rattle.ode_reread.proofs.Longest.{is_text, one_lexing}

-- the same trees, wherever the text is parsed
pub one_tree : (s : Start) (standing : Standing) (text : List ℕ) (x y : Trees) → IsParsed s standing text x → IsParsed s standing text y → x ≡ y
one_tree s standing text x y p q =
    let same = one_lexing q.tokens p.tokens (sym q.lexed_as ∙ p.lexed_as) in
    let r = subst (λ ts. AreTree s (standing text ts) text ts y) same q.is_tree in
    one_meaning trees (items_of s) no_trees (map (spelled (standing text p.tokens) text) p.tokens) x y (start_well s) p.is_tree.makes r.makes

not_why : (s : Start) (place : Place) (text : List ℕ) (tokens : List Token) → IsTextWithin HEIGHT_LIMIT s (seen place text tokens) → (e : SyntaxError) → IsWhyWhole s place text tokens e
    → e ≡ error.Memory
not_why s place text tokens w error.Memory h = refl
not_why s place text tokens w (error.NoToken at) h = absurd h
not_why s place text tokens w (error.At at) h = absurd (h.1.no_text (is_text w.is_text))
not_why s place text tokens w (error.TooDeep at) h =
    let ts = seen place text tokens in
    let n = h.0 + 1 in
    let begun : BeginsWithin HEIGHT_LIMIT s (take n ts) = record { more = drop n ts; is_text = subst (IsTextWithin HEIGHT_LIMIT s) (sym (take-append-drop n ts)) w } in
    absurd (h.1.high.deep begun)

unparsed : (s : Start) (standing : Standing) (text : List ℕ) (made : Trees) → IsParsed s standing text made → (e : SyntaxError) → IsUnparsed s standing text e → e ≡ error.Memory
unparsed s standing text made p e h =
    let same = one_lexing h.tokens p.tokens (sym h.lexed_as ∙ p.lexed_as) in
    not_why s (standing text p.tokens) text p.tokens p.is_tree.within e (subst (λ ts. IsWhyWhole s (standing text ts) text ts e) same h.why)

no_token : (text : List ℕ) (tokens : List Token) (at : ℕ) → lexed text ≡ Tokens tokens → lexed text ≡ NoToken at → ⊥
no_token text tokens at e f = absurd (cc)

pub not_refused : (s : Start) (standing : Standing) (text : List ℕ) (made : Trees) → IsParsed s standing text made → (e : SyntaxError) → IsWhyNot s standing text e → e ≡ error.Memory
not_refused s standing text made p error.Memory h = refl
not_refused s standing text made p (error.NoToken at) h = absurd (no_token text p.tokens at p.lexed_as h)
not_refused s standing text made p (error.At at) h = unparsed s standing text made p (error.At at) h
not_refused s standing text made p (error.TooDeep at) h = unparsed s standing text made p (error.TooDeep at) h
