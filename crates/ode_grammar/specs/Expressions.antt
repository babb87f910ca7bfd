-- The rows of expressions: what follows a token at each part. A row that takes `more` goes on with it.
use Rattle.std.specs.Prelude.{List, [], ◌∷◌, ◌++◌, Option, Some, None}
use Rattle.ode_grammar.specs.declared.terminal.Terminal.{Terminal}
use Rattle.ode_grammar.specs.declared.terminal.Terminal.TheVariants as terminal
use Rattle.ode_grammar.specs.declared.item.Part.TheVariants as part
use Rattle.ode_grammar.specs.declared.item.Action.TheVariants as action
use Rattle.ode_grammar.specs.declared.item.Item.{Item}
use Rattle.ode_grammar.specs.declared.item.Item.TheVariants.{Token, Part as A, Build}

-- term := unary { ("*"|"/"|"%") unary } · sum := term { ("+"|"-") term } · comp := sum [ ("=="|"!="|"<"|"<="|">"|">=") sum ]
-- conj := comp { "&&" comp } · expr := conj { "||" conj }
abbrev pub term : List Item
term = A part.Unary ∷ A part.Factors ∷ []

abbrev pub sum : List Item
sum = term ++ A part.Sums ∷ []

abbrev pub comp : List Item
comp = sum ++ A part.Compare ∷ []

abbrev pub conj : List Item
conj = comp ++ A part.Ands ∷ []

-- what may follow the first unary of an expression, of its first comparison and of its first conjunction
abbrev pub behind_unary : List Item
behind_unary = A part.Factors ∷ A part.Sums ∷ A part.Compare ∷ A part.Ands ∷ A part.Ors ∷ []

abbrev pub behind_term : List Item
behind_term = A part.Sums ∷ A part.Compare ∷ A part.Ands ∷ A part.Ors ∷ []

abbrev pub behind_comp : List Item
behind_comp = A part.Ands ∷ A part.Ors ∷ []

abbrev pub behind_conj : List Item
behind_conj = A part.Ors ∷ []

-- atom := NUMBER | TEXT | "true" | "false" | "null" | REFERENCE | "this" | "(" expr ")" | "version" "(" expr ")", and NAME
abbrev pub atom : List Item → Terminal → Option (List Item)
atom more terminal.Leaf = Some (Build action.Leaf ∷ more)
atom more terminal.Number = Some (Build action.Leaf ∷ more)
atom more terminal.Seconds = Some (Build action.Leaf ∷ more)
atom more terminal.Count = Some (Build action.Leaf ∷ more)
atom more terminal.Text = Some (Build action.Leaf ∷ more)
atom more terminal.Instant = Some (Build action.Leaf ∷ more)
atom more terminal.OpenParen = Some (A part.Expr ∷ Token terminal.CloseParen ∷ Build action.Pair ∷ more)
atom more terminal.Version = Some (Token terminal.OpenParen ∷ A part.Expr ∷ Token terminal.CloseParen ∷ Build action.Version ∷ more)
atom more other = None

-- unary := ("-"|"!") unary | chain · chain := atom { "." NAME }
abbrev pub unary : List Item → Terminal → Option (List Item)
unary more terminal.Minus = Some (A part.Unary ∷ Build action.Sign ∷ more)
unary more terminal.Not = Some (A part.Unary ∷ Build action.Sign ∷ more)
unary more terminal.Name = Some (Build action.Variable ∷ A part.Dots ∷ more)
unary more other = atom (A part.Dots ∷ more) other

abbrev pub expr : List Item → Terminal → Option (List Item)
expr more k = unary (behind_unary ++ more) k

-- an operator and what follows it in an expression whose first unary was read; `first` is what is made before
abbrev pub operator : List Item → List Item → Terminal → Option (List Item)
operator first more terminal.Times = Some (first ++ A part.Unary ∷ Build action.Binary ∷ behind_unary ++ more)
operator first more terminal.Plus = Some (first ++ term ++ Build action.Binary ∷ behind_term ++ more)
operator first more terminal.Minus = Some (first ++ term ++ Build action.Binary ∷ behind_term ++ more)
operator first more terminal.Compares = Some (first ++ sum ++ Build action.Binary ∷ behind_comp ++ more)
operator first more terminal.AndAnd = Some (first ++ comp ++ Build action.Binary ∷ behind_comp ++ more)
operator first more terminal.OrOr = Some (first ++ conj ++ Build action.Binary ∷ behind_conj ++ more)
operator first more other = None

abbrev pub expr_after : Terminal → Option (List Item)
expr_after k = expr [] k

abbrev pub unary_after : Terminal → Option (List Item)
unary_after k = unary [] k

abbrev pub dots_after : Terminal → Option (List Item)
dots_after terminal.Dot = Some (Token terminal.Name ∷ Build action.Field ∷ A part.Dots ∷ [])
dots_after other = None

abbrev pub factors_after : Terminal → Option (List Item)
factors_after terminal.Times = Some (A part.Unary ∷ Build action.Binary ∷ A part.Factors ∷ [])
factors_after other = None

abbrev pub sums_after : Terminal → Option (List Item)
sums_after terminal.Plus = Some (term ++ Build action.Binary ∷ A part.Sums ∷ [])
sums_after terminal.Minus = Some (term ++ Build action.Binary ∷ A part.Sums ∷ [])
sums_after other = None

abbrev pub compare_after : Terminal → Option (List Item)
compare_after terminal.Compares = Some (sum ++ Build action.Binary ∷ [])
compare_after other = None

abbrev pub ands_after : Terminal → Option (List Item)
ands_after terminal.AndAnd = Some (comp ++ Build action.Binary ∷ A part.Ands ∷ [])
ands_after other = None

abbrev pub ors_after : Terminal → Option (List Item)
ors_after terminal.OrOr = Some (conj ++ Build action.Binary ∷ A part.Ors ∷ [])
ors_after other = None

-- [ args ] ")" · args := expr { "," expr }
abbrev pub arguments : List Item
arguments = Build action.Arguments ∷ A part.Args ∷ []

abbrev pub args_after : Terminal → Option (List Item)
args_after terminal.CloseParen = Some []
args_after other = expr (Build action.Argument ∷ A part.MoreArgs ∷ []) other

abbrev pub more_args_after : Terminal → Option (List Item)
more_args_after terminal.Comma = Some (A part.Expr ∷ Build action.Argument ∷ A part.MoreArgs ∷ [])
more_args_after terminal.CloseParen = Some []
more_args_after other = None
