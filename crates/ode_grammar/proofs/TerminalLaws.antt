-- Terminals with one number are one terminal.
use Rattle.std.proofs.Common.{◌≡◌, Bool, true, false, ◌||◌, ◌⊎◌, inl, inr, List, [], ◌∷◌, refl, sym, ◌∙◌, ap, subst, get_or, ◌<◌, length, lit<}
use Rattle.std.proofs.lemmas.Bool.{eqb-true, false≢true}
use Rattle.ode_grammar.specs.declared.item.Part.{Part}
use Rattle.ode_grammar.specs.declared.item.Part.TheVariants as part
use Rattle.ode_grammar.specs.declared.terminal.Terminal.{Terminal}
use Rattle.ode_grammar.specs.declared.terminal.Terminal.TheVariants as terminal
use Rattle.ode_grammar.specs.Grammar.{standing}
use Rattle.ode_grammar.specs.Terminals.{named, number, same_terminal, stands_for}

abbrev pub terminals : List Terminal
terminals =
    terminal.Leaf ∷ terminal.Number ∷ terminal.Seconds ∷ terminal.Count ∷ terminal.Text ∷ terminal.Instant ∷ terminal.Name ∷
    terminal.Stray ∷ terminal.OpenBrace ∷ terminal.CloseBrace ∷ terminal.OpenParen ∷ terminal.CloseParen ∷ terminal.Semi ∷
    terminal.Comma ∷ terminal.Dot ∷ terminal.Colon ∷ terminal.Assign ∷ terminal.Arrow ∷ terminal.Not ∷ terminal.Minus ∷
    terminal.Plus ∷ terminal.Times ∷ terminal.Compares ∷ terminal.AndAnd ∷ terminal.OrOr ∷ terminal.Abort ∷ terminal.Activate ∷
    terminal.After ∷ terminal.And ∷ terminal.Any ∷ terminal.At ∷ terminal.Before ∷ terminal.Begin ∷ terminal.By ∷ terminal.Change ∷ terminal.Choose ∷
    terminal.Class ∷ terminal.Clock ∷ terminal.Commit ∷ terminal.Constraint ∷ terminal.Create ∷ terminal.Deactivate ∷
    terminal.Delete ∷ terminal.DropVersion ∷ terminal.Else ∷ terminal.Event ∷ terminal.Every ∷ terminal.Fa ∷ terminal.FaAbs ∷
    terminal.First ∷ terminal.For ∷ terminal.If ∷ terminal.In ∷ terminal.Initial ∷ terminal.Lasting ∷ terminal.Let ∷ terminal.Mode ∷ terminal.NewVersion ∷
    terminal.Or ∷ terminal.PDelete ∷ terminal.Pipe ∷ terminal.PNew ∷ terminal.Prior ∷ terminal.Ref ∷ terminal.Relative ∷
    terminal.RelPlus ∷ terminal.Return ∷ terminal.Same ∷ terminal.Say ∷ terminal.Scope ∷ terminal.Sequence ∷ terminal.Show ∷ terminal.Soft ∷
    terminal.SortWord ∷ terminal.SuchThat ∷ terminal.TAbort ∷ terminal.TBegin ∷ terminal.TCommit ∷ terminal.TComplete ∷ terminal.Time ∷
    terminal.Trigger ∷ terminal.Version ∷ terminal.Void ∷ []

pub back : (k : Terminal) → get_or terminals (number k) terminal.Leaf ≡ k
back terminal.Leaf = refl
back other = refl

pub below : (k : Terminal) → number k < length terminals
below terminal.Leaf = lit< tt
below other = lit< tt

pub same_terminal-true : (a b : Terminal) → same_terminal a b ≡ true → a ≡ b
same_terminal-true a b h = sym (back a) ∙ (ap (λ n. get_or terminals n terminal.Leaf) (eqb-true (number a) (number b) h) ∙ back b)

pub same_terminal-itself : (a : Terminal) → same_terminal a a ≡ true
same_terminal-itself terminal.Leaf = refl
same_terminal-itself other = refl

-- ---- words that aren't reserved

pub named-named : (k : Terminal) → named (named k) ≡ named k
named-named terminal.Leaf = refl
named-named other = refl

either : (x y : Bool) → (x || y) ≡ true → (x ≡ true) ⊎ (y ≡ true)
either true y h = inl refl
either false y h = inr h

or_right : (x y : Bool) → y ≡ true → (x || y) ≡ true
or_right true y h = refl
or_right false y h = h

pub stands_for-itself : (k : Terminal) → stands_for k k ≡ true
stands_for-itself k = ap (λ b. b || same_terminal (named k) k) (same_terminal-itself k)

pub stands_for-named : (t k : Terminal) → named t ≡ k → stands_for t k ≡ true
stands_for-named t k e = or_right (same_terminal t k) (same_terminal (named t) k) (ap (λ j. same_terminal j k) e ∙ same_terminal-itself k)

-- what stands somewhere is asked for by itself or as a name
pub stands_for-either : (t k : Terminal) → stands_for t k ≡ true → (t ≡ k) ⊎ (named t ≡ k)
stands_for-either t k h = go (either (same_terminal t k) (same_terminal (named t) k) h)
  where
    go : (same_terminal t k ≡ true) ⊎ (same_terminal (named t) k ≡ true) → (t ≡ k) ⊎ (named t ≡ k)
    go (inl e) = inl (same_terminal-true t k e)
    go (inr e) = inr (same_terminal-true (named t) k e)

-- and as a name it is the same
pub stands_for-same : (t k : Terminal) → stands_for t k ≡ true → named t ≡ named k
stands_for-same t k h = go (stands_for-either t k h)
  where
    go : (t ≡ k) ⊎ (named t ≡ k) → named t ≡ named k
    go (inl e) = ap named e
    go (inr e) = sym (named-named t) ∙ ap named e

pub stands_for-trans : (t j k : Terminal) → stands_for t j ≡ true → stands_for j k ≡ true → stands_for t k ≡ true
stands_for-trans t j k s h = go (stands_for-either j k h)
  where
    go : (j ≡ k) ⊎ (named j ≡ k) → stands_for t k ≡ true
    go (inl e) = subst (λ i. stands_for t i ≡ true) e s
    go (inr e) = stands_for-named t k (stands_for-same t j s ∙ e)

-- what is no name is asked for by itself
named_exactly : (p : Terminal → Bool) → p terminal.Name ≡ false → (t k : Terminal) → named t ≡ k → p k ≡ true → t ≡ k
named_exactly p f terminal.By k e h = absurd (false≢true (sym f ∙ (ap p e ∙ h)))
named_exactly p f terminal.Change k e h = absurd (false≢true (sym f ∙ (ap p e ∙ h)))
named_exactly p f terminal.FaAbs k e h = absurd (false≢true (sym f ∙ (ap p e ∙ h)))
named_exactly p f terminal.For k e h = absurd (false≢true (sym f ∙ (ap p e ∙ h)))
named_exactly p f terminal.In k e h = absurd (false≢true (sym f ∙ (ap p e ∙ h)))
named_exactly p f terminal.Pipe k e h = absurd (false≢true (sym f ∙ (ap p e ∙ h)))
named_exactly p f terminal.RelPlus k e h = absurd (false≢true (sym f ∙ (ap p e ∙ h)))
named_exactly p f terminal.Same k e h = absurd (false≢true (sym f ∙ (ap p e ∙ h)))
named_exactly p f terminal.SuchThat k e h = absurd (false≢true (sym f ∙ (ap p e ∙ h)))
named_exactly p f other k e h = e

pub stands_for-exactly : (p : Terminal → Bool) → p terminal.Name ≡ false → (t k : Terminal) → stands_for t k ≡ true → p k ≡ true → t ≡ k
stands_for-exactly p f t k s h = go (stands_for-either t k s)
  where
    go : (t ≡ k) ⊎ (named t ≡ k) → t ≡ k
    go (inl e) = e
    go (inr e) = named_exactly p f t k e h

-- at a part
pub stands_at : (p : Part) (t : Terminal) → stands_for t (standing p t) ≡ true
stands_at part.EventUnary t = stands_for-itself t
stands_at part.SuchThat t = stands_for-itself t
stands_at part.By t = stands_for-itself t
stands_at other t = stands_for-named t (named t) refl
