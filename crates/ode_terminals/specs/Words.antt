-- Words that have a place of their own, and what the grammar sees of them.
use Rattle.std.specs.Prelude.{ℕ, List, [], ◌∷◌, ◌++◌, cond, codes}
use Rattle.std.specs.Str.{bytes_eq}
use Rattle.ode_grammar.specs.declared.terminal.Terminal.{Terminal}
use Rattle.ode_grammar.specs.declared.terminal.Terminal.TheVariants as terminal

-- each reserved word with its terminal
abbrev pub rows : List (List ℕ × Terminal)
rows =
    (codes "abort", terminal.Abort)
    ∷ (codes "activate", terminal.Activate)
    ∷ (codes "after", terminal.After)
    ∷ (codes "and", terminal.And)
    ∷ (codes "any", terminal.Any)
    ∷ (codes "at", terminal.At)
    ∷ (codes "before", terminal.Before)
    ∷ (codes "begin", terminal.Begin)
    ∷ (codes "bool", terminal.SortWord)
    ∷ (codes "choose", terminal.Choose)
    ∷ (codes "class", terminal.Class)
    ∷ (codes "clock", terminal.Clock)
    ∷ (codes "commit", terminal.Commit)
    ∷ (codes "committed", terminal.Scope)
    ∷ (codes "constraint", terminal.Constraint)
    ∷ (codes "create", terminal.Create)
    ∷ (codes "deactivate", terminal.Deactivate)
    ∷ (codes "deferred", terminal.Mode)
    ∷ (codes "delete", terminal.Delete)
    ∷ (codes "delversion", terminal.DropVersion)
    ∷ (codes "dependent", terminal.Mode)
    ∷ (codes "else", terminal.Else)
    ∷ (codes "event", terminal.Event)
    ∷ (codes "every", terminal.Every)
    ∷ (codes "fa", terminal.Fa)
    ∷ (codes "false", terminal.Leaf)
    ∷ (codes "first", terminal.First)
    ∷ (codes "if", terminal.If)
    ∷ (codes "immediate", terminal.Mode)
    ∷ (codes "independent", terminal.Mode)
    ∷ (codes "initial", terminal.Initial)
    ∷ (codes "int", terminal.SortWord)
    ∷ (codes "let", terminal.Let)
    ∷ (codes "newversion", terminal.NewVersion)
    ∷ (codes "null", terminal.Leaf)
    ∷ (codes "once", terminal.Lasting)
    ∷ (codes "or", terminal.Or)
    ∷ (codes "pdelete", terminal.PDelete)
    ∷ (codes "perpetual", terminal.Lasting)
    ∷ (codes "pnew", terminal.PNew)
    ∷ (codes "prior", terminal.Prior)
    ∷ (codes "ref", terminal.Ref)
    ∷ (codes "relative", terminal.Relative)
    ∷ (codes "return", terminal.Return)
    ∷ (codes "say", terminal.Say)
    ∷ (codes "sequence", terminal.Sequence)
    ∷ (codes "show", terminal.Show)
    ∷ (codes "soft", terminal.Soft)
    ∷ (codes "tabort", terminal.TAbort)
    ∷ (codes "tbegin", terminal.TBegin)
    ∷ (codes "tcommit", terminal.TCommit)
    ∷ (codes "tcomplete", terminal.TComplete)
    ∷ (codes "text", terminal.SortWord)
    ∷ (codes "this", terminal.Leaf)
    ∷ (codes "time", terminal.Time)
    ∷ (codes "trigger", terminal.Trigger)
    ∷ (codes "true", terminal.Leaf)
    ∷ (codes "version", terminal.Version)
    ∷ (codes "void", terminal.Void)
    ∷ (codes "whole", terminal.Scope)
    ∷ []

-- the words that aren't reserved and begin a change of a class, an event expression, a comparison of two, or a part of a query
abbrev pub free_words : List (List ℕ × Terminal)
free_words =
    (codes "by", terminal.By)
    ∷ (codes "change", terminal.Change)
    ∷ (codes "faabs", terminal.FaAbs)
    ∷ (codes "for", terminal.For)
    ∷ (codes "in", terminal.In)
    ∷ (codes "pipe", terminal.Pipe)
    ∷ (codes "relplus", terminal.RelPlus)
    ∷ (codes "same", terminal.Same)
    ∷ (codes "suchthat", terminal.SuchThat)
    ∷ []

-- what a word has in a table, and a name where it isn't there
abbrev pub looked_up : List (List ℕ × Terminal) → List ℕ → Terminal
looked_up [] word = terminal.Name
looked_up (row ∷ rows) word = cond (bytes_eq row.0 word) row.1 (looked_up rows word)

unfoldable pub word_terminal : List ℕ → Terminal
word_terminal word = looked_up (rows ++ free_words) word
