-- An expression begins as an operand does.
use Rattle.std.proofs.Common.{◌≡◌, List, ◌∷◌, ◌++◌, append_assoc, Option, Some, None, refl, sym, ap, subst, ◌∙◌}
use Rattle.std.proofs.lemmas.Option.{none-some}
use Rattle.ode_grammar.specs.declared.item.Part.TheVariants as part
use Rattle.ode_grammar.specs.declared.item.Action.{Action}
use Rattle.ode_grammar.specs.declared.item.Item.{Item}
use Rattle.ode_grammar.specs.declared.item.Item.TheVariants as item
use Rattle.ode_grammar.specs.declared.terminal.Terminal.{Terminal}
use Rattle.ode_grammar.specs.declared.terminal.Terminal.TheVariants as terminal
use Rattle.ode_grammar.specs.Expressions.{behind_unary}
use Rattle.ode_grammar.specs.Grammar.{row_of, skipped}
use Rattle.ode_grammar.specs.Terminals.{named}
use Rattle.ode_grammar.specs.Texts.{Derives, Rule, Skip}
use Rattle.ode_syntax.specs.Kept.{Spelled}
use Rattle.ode_reread.proofs.Both.{Both, both}

abbrev pub longer : List Item → Option (List Item) → Option (List Item)
longer more None = None
longer more (Some row) = Some (row ++ more)

-- the rows of an expression are those of an operand, and what follows it
pub rows : (k : Terminal) → row_of part.Expr k ≡ longer behind_unary (row_of part.Unary k)
unfolding row_of
rows terminal.Leaf = refl
rows terminal.Number = refl
rows terminal.Seconds = refl
rows terminal.Count = refl
rows terminal.Text = refl
rows terminal.Instant = refl
rows terminal.Name = refl
rows terminal.Stray = refl
rows terminal.OpenBrace = refl
rows terminal.CloseBrace = refl
rows terminal.OpenParen = refl
rows terminal.CloseParen = refl
rows terminal.Semi = refl
rows terminal.Comma = refl
rows terminal.Dot = refl
rows terminal.Colon = refl
rows terminal.Assign = refl
rows terminal.Arrow = refl
rows terminal.Not = refl
rows terminal.Minus = refl
rows terminal.Plus = refl
rows terminal.Times = refl
rows terminal.Compares = refl
rows terminal.AndAnd = refl
rows terminal.OrOr = refl
rows terminal.Abort = refl
rows terminal.Activate = refl
rows terminal.After = refl
rows terminal.And = refl
rows terminal.Any = refl
rows terminal.At = refl
rows terminal.Before = refl
rows terminal.Begin = refl
rows terminal.By = refl
rows terminal.Change = refl
rows terminal.Choose = refl
rows terminal.Class = refl
rows terminal.Clock = refl
rows terminal.Commit = refl
rows terminal.Constraint = refl
rows terminal.Create = refl
rows terminal.Deactivate = refl
rows terminal.Delete = refl
rows terminal.DropVersion = refl
rows terminal.Else = refl
rows terminal.Event = refl
rows terminal.Every = refl
rows terminal.Fa = refl
rows terminal.FaAbs = refl
rows terminal.First = refl
rows terminal.For = refl
rows terminal.If = refl
rows terminal.In = refl
rows terminal.Initial = refl
rows terminal.Lasting = refl
rows terminal.Let = refl
rows terminal.Mode = refl
rows terminal.NewVersion = refl
rows terminal.Or = refl
rows terminal.PDelete = refl
rows terminal.Pipe = refl
rows terminal.PNew = refl
rows terminal.Prior = refl
rows terminal.Ref = refl
rows terminal.Relative = refl
rows terminal.RelPlus = refl
rows terminal.Return = refl
rows terminal.Same = refl
rows terminal.Say = refl
rows terminal.Scope = refl
rows terminal.Sequence = refl
rows terminal.Show = refl
rows terminal.Soft = refl
rows terminal.SortWord = refl
rows terminal.SuchThat = refl
rows terminal.TAbort = refl
rows terminal.TBegin = refl
rows terminal.TCommit = refl
rows terminal.TComplete = refl
rows terminal.Time = refl
rows terminal.Trigger = refl
rows terminal.Version = refl
rows terminal.Void = refl

no_skip : (a : Action) → skipped part.Unary ≡ Some a → ⊥
unfolding skipped
no_skip a e = none-some a e

pub begins : {items : List Item} {b : Both} {ts : List Spelled} {out : Both}
    → Derives both (item.Part part.Unary ∷ behind_unary ++ items) b ts out → Derives both (item.Part part.Expr ∷ items) b ts out
begins {items = items} {b = b} {out = out} (Rule {t = t} {ts = ts} p row e d) =
    Rule part.Expr (row ++ behind_unary) (rows (named t.terminal) ∙ ap (longer behind_unary) e)
    (subst (λ is. Derives both is (both.keep t b) ts out) (sym (append_assoc row behind_unary items)) d)
begins (Skip p a e d) = absurd (no_skip a e)
