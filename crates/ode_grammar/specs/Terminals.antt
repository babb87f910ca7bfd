-- Terminals by their numbers.
use Rattle.std.specs.Prelude.{ℕ, Bool, ◌||◌, nat_eq}
use Rattle.ode_grammar.specs.declared.terminal.Terminal.{Terminal}
use Rattle.ode_grammar.specs.declared.terminal.Terminal.TheVariants as terminal

abbrev pub number : Terminal → ℕ
number terminal.Leaf = 0
number terminal.Number = 1
number terminal.Seconds = 2
number terminal.Count = 3
number terminal.Text = 4
number terminal.Instant = 5
number terminal.Name = 6
number terminal.Stray = 7
number terminal.OpenBrace = 8
number terminal.CloseBrace = 9
number terminal.OpenParen = 10
number terminal.CloseParen = 11
number terminal.Semi = 12
number terminal.Comma = 13
number terminal.Dot = 14
number terminal.Colon = 15
number terminal.Assign = 16
number terminal.Arrow = 17
number terminal.Not = 18
number terminal.Minus = 19
number terminal.Plus = 20
number terminal.Times = 21
number terminal.Compares = 22
number terminal.AndAnd = 23
number terminal.OrOr = 24
number terminal.Abort = 25
number terminal.Activate = 26
number terminal.After = 27
number terminal.And = 28
number terminal.Any = 29
number terminal.At = 30
number terminal.Before = 31
number terminal.Begin = 32
number terminal.By = 33
number terminal.Change = 34
number terminal.Choose = 35
number terminal.Class = 36
number terminal.Clock = 37
number terminal.Commit = 38
number terminal.Constraint = 39
number terminal.Create = 40
number terminal.Deactivate = 41
number terminal.Delete = 42
number terminal.DropVersion = 43
number terminal.Else = 44
number terminal.Event = 45
number terminal.Every = 46
number terminal.Fa = 47
number terminal.FaAbs = 48
number terminal.First = 49
number terminal.For = 50
number terminal.If = 51
number terminal.In = 52
number terminal.Initial = 53
number terminal.Lasting = 54
number terminal.Let = 55
number terminal.Mode = 56
number terminal.NewVersion = 57
number terminal.Or = 58
number terminal.PDelete = 59
number terminal.Pipe = 60
number terminal.PNew = 61
number terminal.Prior = 62
number terminal.Ref = 63
number terminal.Relative = 64
number terminal.RelPlus = 65
number terminal.Return = 66
number terminal.Same = 67
number terminal.Say = 68
number terminal.Scope = 69
number terminal.Sequence = 70
number terminal.Show = 71
number terminal.Soft = 72
number terminal.SortWord = 73
number terminal.SuchThat = 74
number terminal.TAbort = 75
number terminal.TBegin = 76
number terminal.TCommit = 77
number terminal.TComplete = 78
number terminal.Time = 79
number terminal.Trigger = 80
number terminal.Version = 81
number terminal.Void = 82

-- the two terminals are one
abbrev pub same_terminal : Terminal → Terminal → Bool
same_terminal a b = nat_eq (number a) (number b)

-- a word that isn't reserved, as a name
abbrev pub named : Terminal → Terminal
named terminal.By = terminal.Name
named terminal.Change = terminal.Name
named terminal.FaAbs = terminal.Name
named terminal.For = terminal.Name
named terminal.In = terminal.Name
named terminal.Pipe = terminal.Name
named terminal.RelPlus = terminal.Name
named terminal.Same = terminal.Name
named terminal.SuchThat = terminal.Name
named other = other

-- the first stands where the second is asked for: as itself or as a name
abbrev pub stands_for : Terminal → Terminal → Bool
stands_for a b = same_terminal a b || same_terminal (named a) b
