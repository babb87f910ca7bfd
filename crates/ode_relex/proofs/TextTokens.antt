-- A printed text in front of a text is one token, whose content is that text.
use Rattle.std.proofs.Common.{◌≡◌, ℕ, ◌+◌, ◌<◌, Bool, true, false, not, ◌||◌, ◌==◌, cond, nat_le, List, [], ◌∷◌, ◌++◌, length, Some, arith, refl, ◌∙◌, ap, append_assoc, length-append}
use Rattle.std.specs.List.{flat_map, list_all}
use Rattle.ode_lex.specs.Texts.{content, is_escaped, text_length, with_front}
use Rattle.ode_lex.specs.Tokens.{gap_at, text_at, token_at}
use Rattle.ode_lex.specs.declared.token.TokenKind.TheVariants as kind
use Rattle.ode_value.specs.Text.{is_bad_byte}
use Rattle.ode_value.specs.Texts.{escaped, value_text}
use Rattle.ode_value.specs.declared.value.Value.TheVariants as value
use Rattle.ode_relex.specs.Ends.{is_text, IsToken}
use Rattle.ode_relex.proofs.WordTokens.{both_true, either_false, is_false}

closed_content : (rest : List ℕ) → content (34 ∷ rest) ≡ Some ([], 1)
closed_content [] = refl
closed_content (b ∷ rest) = refl

-- a byte that is escaped, and one that isn't
escaped_content : (b : ℕ) (rest : List ℕ) → is_escaped b ≡ true → content (92 ∷ b ∷ rest) ≡ with_front b 2 (content rest)
escaped_content b rest e = rw e refl

plain_content : (b : ℕ) (rest : List ℕ) → 0 < length rest → (b == 34) ≡ false → (b == 92) ≡ false → is_bad_byte b ≡ false → content (b ∷ rest) ≡ with_front b 1 (content rest)
plain_content b [] l e f g = absurd (omega arith)
plain_content b (c ∷ rest) l e f g = rw (e, f, g) refl

-- a byte and what is behind it
front_content : (b : ℕ) (rest : List ℕ) → 0 < length rest → is_bad_byte b ≡ false → (n : ℕ) × (n ≡ length (escaped b)) × (content (escaped b ++ rest) ≡ with_front b n (content rest))
front_content b rest l g = cases (b == 34 || b == 92) refl
  where
    cases : (c : Bool) → (b == 34 || b == 92) ≡ c
        → (n : ℕ) × (n ≡ length (cond c (92 ∷ b ∷ []) (b ∷ []))) × (content (cond c (92 ∷ b ∷ []) (b ∷ []) ++ rest) ≡ with_front b n (content rest))
    cases true e = (2, refl, escaped_content b rest e)
    cases false e = let x = either_false (b == 34) (b == 92) e in (1, refl, plain_content b rest l x.0 x.1 g)

some_behind : (t rest : List ℕ) → 0 < length (flat_map escaped t ++ 34 ∷ rest)
some_behind t rest = let e = length-append (flat_map escaped t) (34 ∷ rest) in omega arith

pub text_content : (t rest : List ℕ) → list_all (λ b. not (is_bad_byte b)) t ≡ true
    → content (flat_map escaped t ++ 34 ∷ rest) ≡ Some (t, length (flat_map escaped t) + 1)
text_content [] rest h = closed_content rest
text_content (b ∷ t) rest h =
    let x = both_true (not (is_bad_byte b)) (list_all (λ b. not (is_bad_byte b)) t) h in
    let f = front_content b (flat_map escaped t ++ 34 ∷ rest) (some_behind t rest) (is_false (is_bad_byte b) x.0) in
    let n : f.0 + (length (flat_map escaped t) + 1) ≡ length (escaped b ++ flat_map escaped t) + 1 = omega (arith, length-append (escaped b) (flat_map escaped t), f.1) in
    ap content (append_assoc (escaped b) (flat_map escaped t) (34 ∷ rest)) ∙ (f.2 ∙ (ap (with_front b f.0) (text_content t rest x.1) ∙ ap (λ k. Some (b ∷ t, k)) n))

text_row : (bytes t : List ℕ) (n : ℕ) → content bytes ≡ Some (t, n) → nat_le (length t) 2048 ≡ true → token_at (34 ∷ bytes) ≡ Some (kind.Text, 1 + n)
unfolding token_at text_at text_length
text_row bytes t n e l = rw (e, l) refl

quote_gap : (bytes : List ℕ) → gap_at (34 ∷ bytes) ≡ 0
unfolding gap_at
quote_gap bytes = refl

pub text_token : (t rest : List ℕ) → is_text t ≡ true → IsToken kind.Text (value_text (value.Text t)) rest
text_token t rest h =
    let x = both_true (nat_le (length t) 2048) (list_all (λ b. not (is_bad_byte b)) t) h in
    let bytes = append_assoc (flat_map escaped t) (34 ∷ []) rest in
    let n : 1 + (length (flat_map escaped t) + 1) ≡ length (34 ∷ (flat_map escaped t ++ 34 ∷ [])) = omega (arith, length-append (flat_map escaped t) (34 ∷ [])) in
    record {
      some = omega arith;
      no_gap = quote_gap _;
      found = ap (λ bs. token_at (34 ∷ bs)) bytes ∙ (text_row _ t _ (text_content t rest x.1) x.0 ∙ ap (λ k. Some (kind.Text, k)) n);
    }
