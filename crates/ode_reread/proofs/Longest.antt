-- A text that is read is the longest text in front, and isn't refused.
use Rattle.std.proofs.Common.{◌≡◌, ◌≤◌, ◌<◌, ◌⊎◌, inl, inr, ℕ, suc, ◌+◌, List, [], ◌∷◌, length, map, take, drop, take_all, arith, refl, sym, ◌∙◌, ap, subst}
use Rattle.std.proofs.lemmas.Bool.{cases_lt}
use Rattle.std.proofs.lemmas.List.{take-append-drop}
use Rattle.ode_lex.specs.declared.token.Token.{Token}
use Rattle.ode_lex.specs.Tokens.{lexed, Lexed, NoToken, Tokens}
use Rattle.ode_grammar.specs.declared.item.Item.{Item}
use Rattle.ode_grammar.specs.declared.reader.Start.{Start}
use Rattle.ode_grammar.specs.declared.terminal.Terminal.{Terminal}
use Rattle.ode_grammar.specs.Grammar.{items_of}
use Rattle.ode_grammar.specs.Texts.{plain, Begins, Derives, Done, IsText, Make, Next, Rule, Skip}
use Rattle.ode_grammar.proofs.Follows.{start_well}
use Rattle.ode_grammar.proofs.Runs.{one_meaning}
use Rattle.ode_heights.specs.declared.height.Heights.{Heights}
use Rattle.ode_heights.specs.declared.height.TheConstants.{HEIGHT_LIMIT}
use Rattle.ode_heights.specs.Depths.{BeginsWithin, IsTextWithin}
use Rattle.ode_heights.specs.Heights.{heights as of_heights}
use Rattle.ode_terminals.specs.declared.seen.Place.{Place}
use Rattle.ode_syntax.specs.declared.trees.Trees.{Trees}
use Rattle.ode_syntax.specs.Kept.{spelled}
use Rattle.ode_syntax.specs.Trees.{no_trees, trees, Makes}
use Rattle.ode_eventsyn.specs.declared.error.SyntaxError.{SyntaxError}
use Rattle.ode_eventsyn.specs.declared.error.SyntaxError.TheVariants as error
use Rattle.ode_eventsyn.specs.Parsing.{seen, IsLongest, IsWhy}
use Rattle.ode_reread.specs.Rereading.{IsRead}

-- ---- a text, and what begins one

pub is_text : {items : List Item} {m : Heights} {ts : List Terminal} {out : Heights} → Derives of_heights items m ts out → Derives plain items tt ts tt
is_text Done = Done
is_text (Next k e d) = Next k e (is_text d)
is_text (Make a d) = Make a (is_text d)
is_text (Rule p row e d) = Rule p row e (is_text d)
is_text (Skip p a e d) = Skip p a e (is_text d)

begins : (s : Start) (ts : List Terminal) (n : ℕ) → IsText s ts → Begins s (take n ts)
begins s ts n w = record { more = drop n ts; is_text = subst (IsText s) (sym (take-append-drop n ts)) w }

begins_within : (most : ℕ) (s : Start) (ts : List Terminal) (n : ℕ) → IsTextWithin most s ts → BeginsWithin most s (take n ts)
begins_within most s ts n w = record { more = drop n ts; is_text = subst (IsTextWithin most s) (sym (take-append-drop n ts)) w }

-- where texts go on up to a place and no further, a text ends there
at_end : (s : Start) (ts : List Terminal) (n : ℕ) → IsText s ts → n ≤ length ts → (n < length ts → Begins s (take (n + 1) ts) → ⊥) → n ≡ length ts
at_end s ts n w l behind = cases (cases_lt n (length ts))
  where
    cases : (n < length ts) ⊎ (length ts ≤ n) → n ≡ length ts
    cases (inl h) = absurd (behind h (begins s ts (n + 1) w))
    cases (inr h) = omega arith

tokens_of : Lexed → List Token
tokens_of (Tokens ts) = ts
tokens_of (NoToken at) = []

pub one_lexing : (x y : List Token) → Tokens x ≡ Tokens y → x ≡ y
unfolding tokens_of
one_lexing x y e = ap tokens_of e

length_seen : (place : Place) (text : List ℕ) (tokens : List Token) → length (seen place text tokens) ≡ length tokens
length_seen place text [] = refl
length_seen place text (t ∷ ts) = ap suc (length_seen place text ts)

-- what was read of these tokens
record Whole (s : Start) (place : Place) (text : List ℕ) (tokens : List Token) (made : Trees) : Type 0 where
  pub makes : Makes s (map (spelled place text) tokens) made
  pub within : IsTextWithin HEIGHT_LIMIT s (seen place text tokens)

whole : (s : Start) (place : Place) (text : List ℕ) (tokens : List Token) (made : Trees) → lexed text ≡ Tokens tokens → IsRead HEIGHT_LIMIT s place text made
    → Whole s place text tokens made
whole s place text tokens made e r =
    let same = one_lexing r.tokens tokens (sym r.lexed_as ∙ e) in
    subst (λ ts. Whole s place text ts made) same (record { makes = r.makes; within = r.within })

pub longest_again : (s : Start) (place : Place) (text : List ℕ) (tokens : List Token) (again : Trees) → lexed text ≡ Tokens tokens → IsRead HEIGHT_LIMIT s place text again
    → (end : ℕ) (made : Trees) → IsLongest s place text tokens end made → (made ≡ again) × (end ≡ length tokens)
longest_again s place text tokens again e r end made x =
    let w = whole s place text tokens again e r in
    let text_is = is_text w.within.is_text in
    let size = length_seen place text tokens in
    let inside : end ≤ length (seen place text tokens) = subst (λ n. end ≤ n) (sym size) x.inside in
    let last = at_end s (seen place text tokens) end text_is inside (λ l b. x.behind (subst (λ n. end < n) size l) b) ∙ size in
    let front : take end tokens ≡ tokens = take_all end tokens (omega (arith, last)) in
    let makes = subst (λ ts. Makes s (map (spelled place text) ts) made) front x.is_tree.makes in
    (one_meaning trees (items_of s) no_trees (map (spelled place text) tokens) made again (start_well s) makes w.makes, last)

pub not_refused : (s : Start) (place : Place) (text : List ℕ) (tokens : List Token) (again : Trees) → lexed text ≡ Tokens tokens → IsRead HEIGHT_LIMIT s place text again
    → (x : SyntaxError) → IsWhy s place text tokens x → x ≡ error.Memory
not_refused s place text tokens again e r error.Memory h = refl
not_refused s place text tokens again e r (error.NoToken at) h = absurd h
not_refused s place text tokens again e r (error.At at) h =
    let w = whole s place text tokens again e r in
    let ts = seen place text tokens in
    let text_is = is_text w.within.is_text in
    let last = at_end s ts h.0 text_is h.1.within h.1.behind in
    absurd (h.1.no_text refl (subst (IsText s) (sym (take_all h.0 ts (omega (arith, last)))) text_is))
not_refused s place text tokens again e r (error.TooDeep at) h =
    let w = whole s place text tokens again e r in
    let ts = seen place text tokens in
    let x = h.1 in
    let last = at_end s ts x.end (is_text w.within.is_text) x.longest.within x.longest.behind in
    let front : ts ≡ take x.end ts = sym (take_all x.end ts (omega (arith, last))) in
    absurd (x.high.deep (begins_within HEIGHT_LIMIT s (take x.end ts) (h.0 + 1) (subst (IsTextWithin HEIGHT_LIMIT s) front w.within)))
