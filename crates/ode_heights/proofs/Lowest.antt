-- No text that goes on from here is lower than the one that ends at once.
use Rattle.std.proofs.Common.{◌≡◌, ◌≤◌, ◌<◌, nat_le, ℕ, ◌+◌, max, true, false, List, [], ◌∷◌, ◌++◌, Some, zero, suc, length, drop, get_or, refl, sym, ap, subst, ◌∙◌, le_refl, le_trans, lit≤, arith}
use Rattle.std.proofs.lemmas.Bool.Decides.{nat_tests}
use Rattle.ode_grammar.specs.declared.terminal.Terminal.{Terminal}
use Rattle.ode_grammar.specs.declared.terminal.Terminal.TheVariants as terminal
use Rattle.ode_grammar.specs.declared.item.Action.{Action}
use Rattle.ode_grammar.specs.declared.item.Action.TheVariants as action
use Rattle.ode_grammar.specs.declared.item.Part.{Part}
use Rattle.ode_grammar.specs.declared.item.Part.TheVariants as part
use Rattle.ode_grammar.specs.declared.item.Item.{Item}
use Rattle.ode_grammar.specs.declared.item.Item.TheVariants as item
use Rattle.ode_grammar.specs.Grammar.{after, row_of, skipped, standing}
use Rattle.ode_grammar.specs.Texts.{Derives, Done, Next, Make, Rule, Skip}
use Rattle.ode_grammar.proofs.Follows.{IfRow}
use Rattle.ode_grammar.specs.Stacks.{top, rest}
use Rattle.ode_heights.specs.declared.effect.Effect.{Effect}
use Rattle.ode_heights.specs.declared.height.TheConstants.{HEIGHT_LIMIT}
use Rattle.ode_heights.specs.declared.height.Height.{Height}
use Rattle.ode_heights.specs.declared.height.Heights.{Heights}
use Rattle.ode_heights.specs.Effects.{effect_of}
use Rattle.ode_heights.specs.Heights.{leaf, above, high, joined, heights, highest, raised, risen, tops}
use Rattle.ode_heights.specs.Lowest.{least_effects, raised_all, low_of, lowest}
use Rattle.ode_heights.proofs.HeightLaws.{along_cons, along_raised, Below, below_refl, above_top, Shapes, Numbers, shapes_same, numbers_same, Low, raised_highest, raised_tops, tops_highest, low_refl, low_trans, raised_low}

-- ---- what items make keeps the order

raised_all_low : (es : List Effect) (g h : Heights) → Low g h → Low (raised_all es g) (raised_all es h)
raised_all_low [] g h f = f
raised_all_low (e ∷ es) g h f = raised_all_low es (raised e g) (raised e h) (raised_low e g h f)

pub lowest_low : (items : List Item) (g h : Heights) → Low g h → Low (lowest items g) (lowest items h)
lowest_low [] g h f = f
lowest_low (item.Token k ∷ items) g h f = lowest_low items g h f
lowest_low (item.Build a ∷ items) g h f = lowest_low items (risen a g) (risen a h) (raised_low (effect_of a) g h f)
lowest_low (item.Part p ∷ items) g h f = lowest_low items (low_of p g) (low_of p h) (raised_all_low (least_effects p) g h f)

lowest-append : (xs ys : List Item) (h : Heights) → lowest (xs ++ ys) h ≡ lowest ys (lowest xs h)
lowest-append [] ys h = refl
lowest-append (item.Token k ∷ xs) ys h = lowest-append xs ys h
lowest-append (item.Build a ∷ xs) ys h = lowest-append xs ys (risen a h)
lowest-append (item.Part p ∷ xs) ys h = lowest-append xs ys (low_of p h)

-- ---- THE ROWS: no row of a part is lower than the part's lowest text

raised_shape : (n : ℕ) (xs : List Height) → high xs ≤ n → Shapes xs (above n ∷ rest xs)
raised_shape n xs l = along_raised leaf Below below_refl (above n) xs (above_top (top leaf xs) n l)

cons_leaf : (a : Height) (xs : List Height) → Below leaf a → Shapes (leaf ∷ xs) (a ∷ xs)
cons_leaf a xs b = along_cons leaf Below leaf a xs xs b (shapes_same xs)

raised_number : (n : ℕ) (ns : List ℕ) → joined ns ≤ n → Numbers ns (n ∷ rest ns)
raised_number n ns l = along_raised 0 ◌≤◌ le_refl n ns l

cons_more : (m n : ℕ) (ns : List ℕ) → m ≤ n → Numbers (m ∷ ns) (n ∷ ns)
cons_more m n ns l = along_cons 0 ◌≤◌ m n ns ns l (numbers_same ns)

row_low : (p : Part) (k : Terminal) (h : Heights) → IfRow (λ row. Low (low_of p h) (lowest row h)) (row_of p k)
unfolding row_of raised
row_low part.Statement terminal.Class h = low_refl _
row_low part.Statement terminal.Begin h = low_refl _
row_low part.Statement terminal.Commit h = low_refl _
row_low part.Statement terminal.Abort h = low_refl _
row_low part.Statement terminal.Clock h = low_refl _
row_low part.Statement terminal.Semi h = low_refl _
row_low part.Statement terminal.Show h = low_refl _
row_low part.Statement terminal.Say h = record { shaped = shapes_same h.shaped; plain = cons_more 0 1 h.plain (omega arith) }
row_low part.Statement terminal.PDelete h = record { shaped = shapes_same h.shaped; plain = cons_more 0 1 h.plain (omega arith) }
row_low part.Statement terminal.DropVersion h = record { shaped = shapes_same h.shaped; plain = cons_more 0 1 h.plain (omega arith) }
row_low part.Statement terminal.Deactivate h = record { shaped = shapes_same h.shaped; plain = cons_more 0 (max 1 1) h.plain (omega arith) }
row_low part.Statement terminal.PNew h = low_refl _
row_low part.Statement terminal.NewVersion h = record { shaped = shapes_same h.shaped; plain = cons_more 0 1 h.plain (omega arith) }
row_low part.Statement terminal.Activate h = record { shaped = shapes_same h.shaped; plain = cons_more 0 (max (1 + 1) 0) h.plain (omega arith) }
row_low part.Statement terminal.Name h = record { shaped = shapes_same h.shaped; plain = cons_more 0 (max (1 + 1) 0) h.plain (omega arith) }
row_low part.Statement terminal.Leaf h = record { shaped = shapes_same h.shaped; plain = cons_more 0 (max (1 + 1) 0) h.plain (omega arith) }
row_low part.Statement terminal.Number h = record { shaped = shapes_same h.shaped; plain = cons_more 0 (max (1 + 1) 0) h.plain (omega arith) }
row_low part.Statement terminal.Seconds h = record { shaped = shapes_same h.shaped; plain = cons_more 0 (max (1 + 1) 0) h.plain (omega arith) }
row_low part.Statement terminal.Count h = record { shaped = shapes_same h.shaped; plain = cons_more 0 (max (1 + 1) 0) h.plain (omega arith) }
row_low part.Statement terminal.Text h = record { shaped = shapes_same h.shaped; plain = cons_more 0 (max (1 + 1) 0) h.plain (omega arith) }
row_low part.Statement terminal.Instant h = record { shaped = shapes_same h.shaped; plain = cons_more 0 (max (1 + 1) 0) h.plain (omega arith) }
row_low part.Statement terminal.OpenParen h = record { shaped = shapes_same h.shaped; plain = cons_more 0 (max (2 + 1) 0) h.plain (omega arith) }
row_low part.Statement terminal.Version h = record { shaped = shapes_same h.shaped; plain = cons_more 0 (max ((1 + 1) + 1) 0) h.plain (omega arith) }
row_low part.ClockText terminal.Text h = low_refl _
row_low part.ClockText terminal.Instant h = low_refl _
row_low part.Inners terminal.Show h = record { shaped = shapes_same h.shaped; plain = raised_number (max (joined h.plain) (0 + 1)) h.plain (omega arith) }
row_low part.Inners terminal.Say h = record { shaped = shapes_same h.shaped; plain = raised_number (max (joined h.plain) (1 + 1)) h.plain (omega arith) }
row_low part.Inners terminal.PDelete h = record { shaped = shapes_same h.shaped; plain = raised_number (max (joined h.plain) (1 + 1)) h.plain (omega arith) }
row_low part.Inners terminal.DropVersion h = record { shaped = shapes_same h.shaped; plain = raised_number (max (joined h.plain) (1 + 1)) h.plain (omega arith) }
row_low part.Inners terminal.Deactivate h = record { shaped = shapes_same h.shaped; plain = raised_number (max (joined h.plain) ((max 1 1) + 1)) h.plain (omega arith) }
row_low part.Inners terminal.PNew h = record { shaped = shapes_same h.shaped; plain = raised_number (max (joined h.plain) (0 + 1)) h.plain (omega arith) }
row_low part.Inners terminal.NewVersion h = record { shaped = shapes_same h.shaped; plain = raised_number (max (joined h.plain) (1 + 1)) h.plain (omega arith) }
row_low part.Inners terminal.Activate h = record { shaped = shapes_same h.shaped; plain = raised_number (max (joined h.plain) ((max (1 + 1) 0) + 1)) h.plain (omega arith) }
row_low part.Inners terminal.Leaf h = record { shaped = shapes_same h.shaped; plain = raised_number (max (joined h.plain) ((max (1 + 1) 0) + 1)) h.plain (omega arith) }
row_low part.Inners terminal.Number h = record { shaped = shapes_same h.shaped; plain = raised_number (max (joined h.plain) ((max (1 + 1) 0) + 1)) h.plain (omega arith) }
row_low part.Inners terminal.Seconds h = record { shaped = shapes_same h.shaped; plain = raised_number (max (joined h.plain) ((max (1 + 1) 0) + 1)) h.plain (omega arith) }
row_low part.Inners terminal.Count h = record { shaped = shapes_same h.shaped; plain = raised_number (max (joined h.plain) ((max (1 + 1) 0) + 1)) h.plain (omega arith) }
row_low part.Inners terminal.Text h = record { shaped = shapes_same h.shaped; plain = raised_number (max (joined h.plain) ((max (1 + 1) 0) + 1)) h.plain (omega arith) }
row_low part.Inners terminal.Instant h = record { shaped = shapes_same h.shaped; plain = raised_number (max (joined h.plain) ((max (1 + 1) 0) + 1)) h.plain (omega arith) }
row_low part.Inners terminal.OpenParen h = record { shaped = shapes_same h.shaped; plain = raised_number (max (joined h.plain) ((max (2 + 1) 0) + 1)) h.plain (omega arith) }
row_low part.Inners terminal.Version h = record { shaped = shapes_same h.shaped; plain = raised_number (max (joined h.plain) ((max ((1 + 1) + 1) 0) + 1)) h.plain (omega arith) }
row_low part.Inners terminal.Name h = record { shaped = shapes_same h.shaped; plain = raised_number (max (joined h.plain) (0 + 1)) h.plain (omega arith) }
row_low part.Inners terminal.Let h = record { shaped = shapes_same h.shaped; plain = raised_number (max (joined h.plain) (0 + 1)) h.plain (omega arith) }
row_low part.Inners terminal.If h = record { shaped = shapes_same h.shaped; plain = raised_number (max (joined h.plain) ((max 1 (max 1 0)) + 1)) h.plain (omega arith) }
row_low part.Inners terminal.Return h = record { shaped = shapes_same h.shaped; plain = raised_number (max (joined h.plain) (0 + 1)) h.plain (omega arith) }
row_low part.Inners terminal.TAbort h = record { shaped = shapes_same h.shaped; plain = raised_number (max (joined h.plain) (0 + 1)) h.plain (omega arith) }
row_low part.InnerName terminal.Assign h = low_refl _
row_low part.InnerName terminal.OpenParen h = low_refl _
row_low part.InnerName terminal.Dot h = record { shaped = shapes_same h.shaped; plain = cons_more 0 (max (1 + 1) 0) h.plain (omega arith) }
row_low part.ReturnValue terminal.Semi h = low_refl _
row_low part.ReturnValue terminal.Minus h = record { shaped = shapes_same h.shaped; plain = cons_more 0 (1 + 1) h.plain (omega arith) }
row_low part.ReturnValue terminal.Not h = record { shaped = shapes_same h.shaped; plain = cons_more 0 (1 + 1) h.plain (omega arith) }
row_low part.ReturnValue terminal.Name h = record { shaped = shapes_same h.shaped; plain = cons_more 0 1 h.plain (omega arith) }
row_low part.ReturnValue terminal.Leaf h = record { shaped = shapes_same h.shaped; plain = cons_more 0 1 h.plain (omega arith) }
row_low part.ReturnValue terminal.Number h = record { shaped = shapes_same h.shaped; plain = cons_more 0 1 h.plain (omega arith) }
row_low part.ReturnValue terminal.Seconds h = record { shaped = shapes_same h.shaped; plain = cons_more 0 1 h.plain (omega arith) }
row_low part.ReturnValue terminal.Count h = record { shaped = shapes_same h.shaped; plain = cons_more 0 1 h.plain (omega arith) }
row_low part.ReturnValue terminal.Text h = record { shaped = shapes_same h.shaped; plain = cons_more 0 1 h.plain (omega arith) }
row_low part.ReturnValue terminal.Instant h = record { shaped = shapes_same h.shaped; plain = cons_more 0 1 h.plain (omega arith) }
row_low part.ReturnValue terminal.OpenParen h = record { shaped = shapes_same h.shaped; plain = cons_more 0 2 h.plain (omega arith) }
row_low part.ReturnValue terminal.Version h = record { shaped = shapes_same h.shaped; plain = cons_more 0 (1 + 1) h.plain (omega arith) }
row_low part.Else terminal.Else h = record { shaped = shapes_same h.shaped; plain = cons_more 0 1 h.plain (omega arith) }
row_low part.Chained terminal.Name h = low_refl _
row_low part.Chained terminal.Leaf h = low_refl _
row_low part.Chained terminal.Number h = low_refl _
row_low part.Chained terminal.Seconds h = low_refl _
row_low part.Chained terminal.Count h = low_refl _
row_low part.Chained terminal.Text h = low_refl _
row_low part.Chained terminal.Instant h = low_refl _
row_low part.Chained terminal.OpenParen h = record { shaped = cons_leaf (record { own = 2; bare = true }) h.shaped (record { own = lit≤ tt; pair = lit≤ tt }); plain = numbers_same (0 ∷ h.plain) }
row_low part.Chained terminal.Version h = record { shaped = cons_leaf (above 1) h.shaped (record { own = lit≤ tt; pair = lit≤ tt }); plain = numbers_same (0 ∷ h.plain) }
row_low part.CallDot terminal.Dot h = record { shaped = raised_shape (high h.shaped) h.shaped (omega arith); plain = numbers_same (0 ∷ h.plain) }
row_low part.CallDot terminal.OpenParen h = low_refl _
row_low part.Sets terminal.Name h = record { shaped = shapes_same h.shaped; plain = raised_number (max (joined h.plain) 1) h.plain (omega arith) }
row_low part.Sets terminal.CloseParen h = low_refl _
row_low part.MoreSets terminal.Comma h = record { shaped = shapes_same h.shaped; plain = raised_number (max (joined h.plain) 1) h.plain (omega arith) }
row_low part.MoreSets terminal.CloseParen h = low_refl _
row_low part.Rhs terminal.PNew h = low_refl _
row_low part.Rhs terminal.NewVersion h = record { shaped = shapes_same h.shaped; plain = cons_more 0 1 h.plain (omega arith) }
row_low part.Rhs terminal.Activate h = record { shaped = shapes_same h.shaped; plain = cons_more 0 (max (1 + 1) 0) h.plain (omega arith) }
row_low part.Rhs terminal.Minus h = record { shaped = shapes_same h.shaped; plain = cons_more 0 (1 + 1) h.plain (omega arith) }
row_low part.Rhs terminal.Not h = record { shaped = shapes_same h.shaped; plain = cons_more 0 (1 + 1) h.plain (omega arith) }
row_low part.Rhs terminal.Name h = low_refl _
row_low part.Rhs terminal.Leaf h = record { shaped = shapes_same h.shaped; plain = cons_more 0 1 h.plain (omega arith) }
row_low part.Rhs terminal.Number h = record { shaped = shapes_same h.shaped; plain = cons_more 0 1 h.plain (omega arith) }
row_low part.Rhs terminal.Seconds h = record { shaped = shapes_same h.shaped; plain = cons_more 0 1 h.plain (omega arith) }
row_low part.Rhs terminal.Count h = record { shaped = shapes_same h.shaped; plain = cons_more 0 1 h.plain (omega arith) }
row_low part.Rhs terminal.Text h = record { shaped = shapes_same h.shaped; plain = cons_more 0 1 h.plain (omega arith) }
row_low part.Rhs terminal.Instant h = record { shaped = shapes_same h.shaped; plain = cons_more 0 1 h.plain (omega arith) }
row_low part.Rhs terminal.OpenParen h = record { shaped = shapes_same h.shaped; plain = cons_more 0 2 h.plain (omega arith) }
row_low part.Rhs terminal.Version h = record { shaped = shapes_same h.shaped; plain = cons_more 0 (1 + 1) h.plain (omega arith) }
row_low part.ScriptRhs terminal.PNew h = low_refl _
row_low part.ScriptRhs terminal.NewVersion h = record { shaped = shapes_same h.shaped; plain = cons_more 0 1 h.plain (omega arith) }
row_low part.ScriptRhs terminal.Activate h = record { shaped = shapes_same h.shaped; plain = cons_more 0 (max (1 + 1) 0) h.plain (omega arith) }
row_low part.ScriptRhs terminal.Minus h = record { shaped = shapes_same h.shaped; plain = cons_more 0 (1 + 1) h.plain (omega arith) }
row_low part.ScriptRhs terminal.Not h = record { shaped = shapes_same h.shaped; plain = cons_more 0 (1 + 1) h.plain (omega arith) }
row_low part.ScriptRhs terminal.Name h = record { shaped = shapes_same h.shaped; plain = cons_more 0 1 h.plain (omega arith) }
row_low part.ScriptRhs terminal.Leaf h = record { shaped = shapes_same h.shaped; plain = cons_more 0 1 h.plain (omega arith) }
row_low part.ScriptRhs terminal.Number h = record { shaped = shapes_same h.shaped; plain = cons_more 0 1 h.plain (omega arith) }
row_low part.ScriptRhs terminal.Seconds h = record { shaped = shapes_same h.shaped; plain = cons_more 0 1 h.plain (omega arith) }
row_low part.ScriptRhs terminal.Count h = record { shaped = shapes_same h.shaped; plain = cons_more 0 1 h.plain (omega arith) }
row_low part.ScriptRhs terminal.Text h = record { shaped = shapes_same h.shaped; plain = cons_more 0 1 h.plain (omega arith) }
row_low part.ScriptRhs terminal.Instant h = record { shaped = shapes_same h.shaped; plain = cons_more 0 1 h.plain (omega arith) }
row_low part.ScriptRhs terminal.OpenParen h = record { shaped = shapes_same h.shaped; plain = cons_more 0 2 h.plain (omega arith) }
row_low part.ScriptRhs terminal.Version h = record { shaped = shapes_same h.shaped; plain = cons_more 0 (1 + 1) h.plain (omega arith) }
row_low part.RhsDots terminal.Dot h = record { shaped = shapes_same (rest h.shaped); plain = cons_more (high h.shaped) ((high h.shaped) + 1) h.plain (omega arith) }
row_low part.RhsDots terminal.Semi h = low_refl _
row_low part.RhsDots terminal.Times h = record { shaped = shapes_same (rest h.shaped); plain = cons_more (high h.shaped) ((max (high h.shaped) 1) + 1) h.plain (omega arith) }
row_low part.RhsDots terminal.Plus h = record { shaped = shapes_same (rest h.shaped); plain = cons_more (high h.shaped) ((max (high h.shaped) 1) + 1) h.plain (omega arith) }
row_low part.RhsDots terminal.Minus h = record { shaped = shapes_same (rest h.shaped); plain = cons_more (high h.shaped) ((max (high h.shaped) 1) + 1) h.plain (omega arith) }
row_low part.RhsDots terminal.Compares h = record { shaped = shapes_same (rest h.shaped); plain = cons_more (high h.shaped) ((max (high h.shaped) 1) + 1) h.plain (omega arith) }
row_low part.RhsDots terminal.AndAnd h = record { shaped = shapes_same (rest h.shaped); plain = cons_more (high h.shaped) ((max (high h.shaped) 1) + 1) h.plain (omega arith) }
row_low part.RhsDots terminal.OrOr h = record { shaped = shapes_same (rest h.shaped); plain = cons_more (high h.shaped) ((max (high h.shaped) 1) + 1) h.plain (omega arith) }
row_low part.RhsDot terminal.Dot h = record { shaped = shapes_same (rest h.shaped); plain = cons_more ((high h.shaped) + 1) (((high h.shaped) + 1) + 1) h.plain (omega arith) }
row_low part.RhsDot terminal.Semi h = low_refl _
row_low part.RhsDot terminal.OpenParen h = record { shaped = shapes_same (rest h.shaped); plain = cons_more ((high h.shaped) + 1) (max ((high h.shaped) + 1) 0) h.plain (omega arith) }
row_low part.RhsDot terminal.Times h = record { shaped = shapes_same (rest h.shaped); plain = cons_more ((high h.shaped) + 1) ((max ((high h.shaped) + 1) 1) + 1) h.plain (omega arith) }
row_low part.RhsDot terminal.Plus h = record { shaped = shapes_same (rest h.shaped); plain = cons_more ((high h.shaped) + 1) ((max ((high h.shaped) + 1) 1) + 1) h.plain (omega arith) }
row_low part.RhsDot terminal.Minus h = record { shaped = shapes_same (rest h.shaped); plain = cons_more ((high h.shaped) + 1) ((max ((high h.shaped) + 1) 1) + 1) h.plain (omega arith) }
row_low part.RhsDot terminal.Compares h = record { shaped = shapes_same (rest h.shaped); plain = cons_more ((high h.shaped) + 1) ((max ((high h.shaped) + 1) 1) + 1) h.plain (omega arith) }
row_low part.RhsDot terminal.AndAnd h = record { shaped = shapes_same (rest h.shaped); plain = cons_more ((high h.shaped) + 1) ((max ((high h.shaped) + 1) 1) + 1) h.plain (omega arith) }
row_low part.RhsDot terminal.OrOr h = record { shaped = shapes_same (rest h.shaped); plain = cons_more ((high h.shaped) + 1) ((max ((high h.shaped) + 1) 1) + 1) h.plain (omega arith) }
row_low part.RhsName terminal.Dot h = record { shaped = shapes_same h.shaped; plain = cons_more 0 (1 + 1) h.plain (omega arith) }
row_low part.RhsName terminal.Semi h = record { shaped = shapes_same h.shaped; plain = cons_more 0 1 h.plain (omega arith) }
row_low part.RhsName terminal.OpenParen h = low_refl _
row_low part.RhsName terminal.Times h = record { shaped = shapes_same h.shaped; plain = cons_more 0 ((max 1 1) + 1) h.plain (omega arith) }
row_low part.RhsName terminal.Plus h = record { shaped = shapes_same h.shaped; plain = cons_more 0 ((max 1 1) + 1) h.plain (omega arith) }
row_low part.RhsName terminal.Minus h = record { shaped = shapes_same h.shaped; plain = cons_more 0 ((max 1 1) + 1) h.plain (omega arith) }
row_low part.RhsName terminal.Compares h = record { shaped = shapes_same h.shaped; plain = cons_more 0 ((max 1 1) + 1) h.plain (omega arith) }
row_low part.RhsName terminal.AndAnd h = record { shaped = shapes_same h.shaped; plain = cons_more 0 ((max 1 1) + 1) h.plain (omega arith) }
row_low part.RhsName terminal.OrOr h = record { shaped = shapes_same h.shaped; plain = cons_more 0 ((max 1 1) + 1) h.plain (omega arith) }
row_low part.Class terminal.Class h = low_refl _
row_low part.Additions terminal.SortWord h = low_refl _
row_low part.Additions terminal.Ref h = low_refl _
row_low part.Literal terminal.Leaf h = low_refl _
row_low part.Literal terminal.Number h = low_refl _
row_low part.Literal terminal.Seconds h = low_refl _
row_low part.Literal terminal.Count h = low_refl _
row_low part.Literal terminal.Text h = low_refl _
row_low part.Literal terminal.Instant h = low_refl _
row_low part.Literal terminal.Minus h = low_refl _
row_low part.Negative terminal.Number h = low_refl _
row_low part.Negative terminal.Seconds h = low_refl _
row_low part.Negative terminal.Count h = low_refl _
row_low part.Parent terminal.Colon h = low_refl _
row_low part.Members terminal.SortWord h = low_refl _
row_low part.Members terminal.Ref h = low_refl _
row_low part.Members terminal.Void h = record { shaped = shapes_same h.shaped; plain = raised_number (max (joined h.plain) 1) h.plain (omega arith) }
row_low part.Members terminal.Soft h = record { shaped = shapes_same h.shaped; plain = raised_number (max (joined h.plain) 1) h.plain (omega arith) }
row_low part.Members terminal.Constraint h = record { shaped = shapes_same h.shaped; plain = raised_number (max (joined h.plain) 1) h.plain (omega arith) }
row_low part.Members terminal.Event h = low_refl _
row_low part.Members terminal.Trigger h = record { shaped = shapes_same h.shaped; plain = raised_number (max 1 (max (joined h.plain) 1)) h.plain (omega arith) }
row_low part.FieldOrMethod terminal.Semi h = low_refl _
row_low part.FieldOrMethod terminal.OpenParen h = record { shaped = shapes_same h.shaped; plain = raised_number (max (joined h.plain) 1) h.plain (omega arith) }
row_low part.MoreKinds terminal.Comma h = low_refl _
row_low part.MoreKinds terminal.Semi h = low_refl _
row_low part.Initial terminal.Initial h = low_refl _
row_low part.Lasting terminal.Lasting h = low_refl _
row_low part.Scope terminal.Scope h = low_refl _
row_low part.Mode terminal.Mode h = low_refl _
row_low part.Sort terminal.SortWord h = low_refl _
row_low part.Sort terminal.Ref h = low_refl _
row_low part.Params terminal.CloseParen h = low_refl _
row_low part.Params terminal.SortWord h = low_refl _
row_low part.Params terminal.Ref h = low_refl _
row_low part.SecondParam terminal.Comma h = low_refl _
row_low part.SecondParam terminal.CloseParen h = low_refl _
row_low part.ThirdParam terminal.Comma h = low_refl _
row_low part.ThirdParam terminal.CloseParen h = low_refl _
row_low part.FourthParam terminal.Comma h = low_refl _
row_low part.FourthParam terminal.CloseParen h = low_refl _
row_low part.FifthParam terminal.Comma h = low_refl _
row_low part.FifthParam terminal.CloseParen h = low_refl _
row_low part.SixthParam terminal.Comma h = low_refl _
row_low part.SixthParam terminal.CloseParen h = low_refl _
row_low part.SeventhParam terminal.Comma h = low_refl _
row_low part.SeventhParam terminal.CloseParen h = low_refl _
row_low part.EighthParam terminal.Comma h = low_refl _
row_low part.EighthParam terminal.CloseParen h = low_refl _
row_low part.NinthParam terminal.Comma h = low_refl _
row_low part.NinthParam terminal.CloseParen h = low_refl _
row_low part.TenthParam terminal.Comma h = low_refl _
row_low part.TenthParam terminal.CloseParen h = low_refl _
row_low part.EleventhParam terminal.Comma h = low_refl _
row_low part.EleventhParam terminal.CloseParen h = low_refl _
row_low part.TwelfthParam terminal.Comma h = low_refl _
row_low part.TwelfthParam terminal.CloseParen h = low_refl _
row_low part.ThirteenthParam terminal.Comma h = low_refl _
row_low part.ThirteenthParam terminal.CloseParen h = low_refl _
row_low part.FourteenthParam terminal.Comma h = low_refl _
row_low part.FourteenthParam terminal.CloseParen h = low_refl _
row_low part.FifteenthParam terminal.Comma h = low_refl _
row_low part.FifteenthParam terminal.CloseParen h = low_refl _
row_low part.SixteenthParam terminal.Comma h = low_refl _
row_low part.SixteenthParam terminal.CloseParen h = low_refl _
row_low part.SecondRange terminal.Comma h = low_refl _
row_low part.ThirdRange terminal.Comma h = low_refl _
row_low part.FourthRange terminal.Comma h = low_refl _
row_low part.SuchThat terminal.SuchThat h = record { shaped = shapes_same h.shaped; plain = raised_number (max (joined h.plain) 1) h.plain (omega arith) }
row_low part.By terminal.By h = record { shaped = shapes_same h.shaped; plain = raised_number (max (joined h.plain) 1) h.plain (omega arith) }
row_low part.MoreExprs terminal.Comma h = record { shaped = shapes_same h.shaped; plain = raised_number (max (joined h.plain) 1) h.plain (omega arith) }
row_low part.EventUnary terminal.Not h = record { shaped = cons_leaf (above 1) h.shaped (record { own = lit≤ tt; pair = lit≤ tt }); plain = numbers_same h.plain }
row_low part.EventUnary terminal.OpenParen h = record { shaped = cons_leaf (record { own = 2; bare = true }) h.shaped (record { own = lit≤ tt; pair = lit≤ tt }); plain = numbers_same h.plain }
row_low part.EventUnary terminal.Any h = low_refl _
row_low part.EventUnary terminal.First h = low_refl _
row_low part.EventUnary terminal.After h = low_refl _
row_low part.EventUnary terminal.Before h = low_refl _
row_low part.EventUnary terminal.Time h = low_refl _
row_low part.EventUnary terminal.Relative h = record { shaped = cons_leaf (above (max 1 1)) h.shaped (record { own = lit≤ tt; pair = lit≤ tt }); plain = numbers_same h.plain }
row_low part.EventUnary terminal.Prior h = record { shaped = cons_leaf (above (max 1 1)) h.shaped (record { own = lit≤ tt; pair = lit≤ tt }); plain = numbers_same h.plain }
row_low part.EventUnary terminal.Sequence h = record { shaped = cons_leaf (above (max 1 1)) h.shaped (record { own = lit≤ tt; pair = lit≤ tt }); plain = numbers_same h.plain }
row_low part.EventUnary terminal.Choose h = record { shaped = cons_leaf (above 1) h.shaped (record { own = lit≤ tt; pair = lit≤ tt }); plain = numbers_same h.plain }
row_low part.EventUnary terminal.Every h = record { shaped = cons_leaf (above 1) h.shaped (record { own = lit≤ tt; pair = lit≤ tt }); plain = numbers_same h.plain }
row_low part.EventUnary terminal.Fa h = record { shaped = cons_leaf (above (max 1 (max 1 1))) h.shaped (record { own = lit≤ tt; pair = lit≤ tt }); plain = numbers_same h.plain }
row_low part.EventUnary terminal.FaAbs h = record { shaped = cons_leaf (above (max 1 (max 1 1))) h.shaped (record { own = lit≤ tt; pair = lit≤ tt }); plain = numbers_same h.plain }
row_low part.EventUnary terminal.RelPlus h = record { shaped = cons_leaf (above 1) h.shaped (record { own = lit≤ tt; pair = lit≤ tt }); plain = numbers_same h.plain }
row_low part.EventUnary terminal.Pipe h = record { shaped = cons_leaf (above (max 1 1)) h.shaped (record { own = lit≤ tt; pair = lit≤ tt }); plain = numbers_same h.plain }
row_low part.EventAnds terminal.And h = record { shaped = raised_shape (max (high h.shaped) 1) h.shaped (omega arith); plain = numbers_same h.plain }
row_low part.EventOrs terminal.Or h = record { shaped = raised_shape (max (high h.shaped) 1) h.shaped (omega arith); plain = numbers_same h.plain }
row_low part.MoreRelative terminal.Comma h = record { shaped = raised_shape (max (high h.shaped) 1) h.shaped (omega arith); plain = numbers_same h.plain }
row_low part.MoreRelative terminal.CloseParen h = low_refl _
row_low part.MorePrior terminal.Comma h = record { shaped = raised_shape (max (high h.shaped) 1) h.shaped (omega arith); plain = numbers_same h.plain }
row_low part.MorePrior terminal.CloseParen h = low_refl _
row_low part.MoreSequence terminal.Comma h = record { shaped = raised_shape (max (high h.shaped) 1) h.shaped (omega arith); plain = numbers_same h.plain }
row_low part.MoreSequence terminal.CloseParen h = low_refl _
row_low part.Mask terminal.AndAnd h = record { shaped = cons_leaf (above (max 1 1)) h.shaped (record { own = lit≤ tt; pair = lit≤ tt }); plain = numbers_same h.plain }
row_low part.EventMask terminal.AndAnd h = record { shaped = raised_shape (max (high h.shaped) 1) h.shaped (omega arith); plain = numbers_same h.plain }
row_low part.Kind terminal.After h = low_refl _
row_low part.Kind terminal.Before h = low_refl _
row_low part.Kind terminal.Time h = low_refl _
row_low part.AfterWhat terminal.Create h = low_refl _
row_low part.AfterWhat terminal.Name h = low_refl _
row_low part.AfterWhat terminal.TBegin h = low_refl _
row_low part.AfterWhat terminal.TCommit h = low_refl _
row_low part.AfterWhat terminal.TAbort h = low_refl _
row_low part.AfterWhat terminal.NewVersion h = low_refl _
row_low part.BeforeWhat terminal.Delete h = low_refl _
row_low part.BeforeWhat terminal.Name h = low_refl _
row_low part.BeforeWhat terminal.TComplete h = low_refl _
row_low part.BeforeWhat terminal.DropVersion h = low_refl _
row_low part.TimeWhat terminal.Every h = low_refl _
row_low part.TimeWhat terminal.At h = low_refl _
row_low part.Period terminal.Seconds h = low_refl _
row_low part.Period terminal.Count h = low_refl _
row_low part.Expr terminal.Minus h = record { shaped = cons_leaf (above 1) h.shaped (record { own = lit≤ tt; pair = lit≤ tt }); plain = numbers_same h.plain }
row_low part.Expr terminal.Not h = record { shaped = cons_leaf (above 1) h.shaped (record { own = lit≤ tt; pair = lit≤ tt }); plain = numbers_same h.plain }
row_low part.Expr terminal.Name h = low_refl _
row_low part.Expr terminal.Leaf h = low_refl _
row_low part.Expr terminal.Number h = low_refl _
row_low part.Expr terminal.Seconds h = low_refl _
row_low part.Expr terminal.Count h = low_refl _
row_low part.Expr terminal.Text h = low_refl _
row_low part.Expr terminal.Instant h = low_refl _
row_low part.Expr terminal.OpenParen h = record { shaped = cons_leaf (record { own = 2; bare = true }) h.shaped (record { own = lit≤ tt; pair = lit≤ tt }); plain = numbers_same h.plain }
row_low part.Expr terminal.Version h = record { shaped = cons_leaf (above 1) h.shaped (record { own = lit≤ tt; pair = lit≤ tt }); plain = numbers_same h.plain }
row_low part.Unary terminal.Minus h = record { shaped = cons_leaf (above 1) h.shaped (record { own = lit≤ tt; pair = lit≤ tt }); plain = numbers_same h.plain }
row_low part.Unary terminal.Not h = record { shaped = cons_leaf (above 1) h.shaped (record { own = lit≤ tt; pair = lit≤ tt }); plain = numbers_same h.plain }
row_low part.Unary terminal.Name h = low_refl _
row_low part.Unary terminal.Leaf h = low_refl _
row_low part.Unary terminal.Number h = low_refl _
row_low part.Unary terminal.Seconds h = low_refl _
row_low part.Unary terminal.Count h = low_refl _
row_low part.Unary terminal.Text h = low_refl _
row_low part.Unary terminal.Instant h = low_refl _
row_low part.Unary terminal.OpenParen h = record { shaped = cons_leaf (record { own = 2; bare = true }) h.shaped (record { own = lit≤ tt; pair = lit≤ tt }); plain = numbers_same h.plain }
row_low part.Unary terminal.Version h = record { shaped = cons_leaf (above 1) h.shaped (record { own = lit≤ tt; pair = lit≤ tt }); plain = numbers_same h.plain }
row_low part.Dots terminal.Dot h = record { shaped = raised_shape (high h.shaped) h.shaped (omega arith); plain = numbers_same h.plain }
row_low part.Factors terminal.Times h = record { shaped = raised_shape (max (high h.shaped) 1) h.shaped (omega arith); plain = numbers_same h.plain }
row_low part.Sums terminal.Plus h = record { shaped = raised_shape (max (high h.shaped) 1) h.shaped (omega arith); plain = numbers_same h.plain }
row_low part.Sums terminal.Minus h = record { shaped = raised_shape (max (high h.shaped) 1) h.shaped (omega arith); plain = numbers_same h.plain }
row_low part.Compare terminal.Compares h = record { shaped = raised_shape (max (high h.shaped) 1) h.shaped (omega arith); plain = numbers_same h.plain }
row_low part.Ands terminal.AndAnd h = record { shaped = raised_shape (max (high h.shaped) 1) h.shaped (omega arith); plain = numbers_same h.plain }
row_low part.Ors terminal.OrOr h = record { shaped = raised_shape (max (high h.shaped) 1) h.shaped (omega arith); plain = numbers_same h.plain }
row_low part.Args terminal.CloseParen h = low_refl _
row_low part.Args terminal.Minus h = record { shaped = shapes_same h.shaped; plain = raised_number (max (joined h.plain) (1 + 1)) h.plain (omega arith) }
row_low part.Args terminal.Not h = record { shaped = shapes_same h.shaped; plain = raised_number (max (joined h.plain) (1 + 1)) h.plain (omega arith) }
row_low part.Args terminal.Name h = record { shaped = shapes_same h.shaped; plain = raised_number (max (joined h.plain) 1) h.plain (omega arith) }
row_low part.Args terminal.Leaf h = record { shaped = shapes_same h.shaped; plain = raised_number (max (joined h.plain) 1) h.plain (omega arith) }
row_low part.Args terminal.Number h = record { shaped = shapes_same h.shaped; plain = raised_number (max (joined h.plain) 1) h.plain (omega arith) }
row_low part.Args terminal.Seconds h = record { shaped = shapes_same h.shaped; plain = raised_number (max (joined h.plain) 1) h.plain (omega arith) }
row_low part.Args terminal.Count h = record { shaped = shapes_same h.shaped; plain = raised_number (max (joined h.plain) 1) h.plain (omega arith) }
row_low part.Args terminal.Text h = record { shaped = shapes_same h.shaped; plain = raised_number (max (joined h.plain) 1) h.plain (omega arith) }
row_low part.Args terminal.Instant h = record { shaped = shapes_same h.shaped; plain = raised_number (max (joined h.plain) 1) h.plain (omega arith) }
row_low part.Args terminal.OpenParen h = record { shaped = shapes_same h.shaped; plain = raised_number (max (joined h.plain) 2) h.plain (omega arith) }
row_low part.Args terminal.Version h = record { shaped = shapes_same h.shaped; plain = raised_number (max (joined h.plain) (1 + 1)) h.plain (omega arith) }
row_low part.MoreArgs terminal.Comma h = record { shaped = shapes_same h.shaped; plain = raised_number (max (joined h.plain) 1) h.plain (omega arith) }
row_low part.MoreArgs terminal.CloseParen h = low_refl _
row_low other others h = tt

pub skip_low : (p : Part) (a : Action) (h : Heights) → skipped p ≡ Some a → low_of p h ≡ risen a h
unfolding skipped raised
skip_low part.Inners a h e = let x : action.Nothing ≡ a = cc in ap (λ b. risen b h) x
skip_low part.Else a h e = let x : action.Absent ≡ a = cc in ap (λ b. risen b h) x
skip_low part.Parent a h e = let x : action.NoParent ≡ a = cc in ap (λ b. risen b h) x
skip_low part.Additions a h e = let x : action.Nothing ≡ a = cc in ap (λ b. risen b h) x
skip_low part.Members a h e = let x : action.Nothing ≡ a = cc in ap (λ b. risen b h) x
skip_low part.SecondRange a h e = let x : action.Nothing ≡ a = cc in ap (λ b. risen b h) x
skip_low part.ThirdRange a h e = let x : action.Nothing ≡ a = cc in ap (λ b. risen b h) x
skip_low part.FourthRange a h e = let x : action.Nothing ≡ a = cc in ap (λ b. risen b h) x
skip_low part.SuchThat a h e = let x : action.Nothing ≡ a = cc in ap (λ b. risen b h) x
skip_low part.By a h e = let x : action.Nothing ≡ a = cc in ap (λ b. risen b h) x
skip_low part.MoreExprs a h e = let x : action.Nothing ≡ a = cc in ap (λ b. risen b h) x
skip_low part.Initial a h e = let x : action.NotInitial ≡ a = cc in ap (λ b. risen b h) x
skip_low part.Lasting a h e = let x : action.Once ≡ a = cc in ap (λ b. risen b h) x
skip_low part.Scope a h e = let x : action.Committed ≡ a = cc in ap (λ b. risen b h) x
skip_low part.Mode a h e = let x : action.Immediate ≡ a = cc in ap (λ b. risen b h) x
skip_low part.EventAnds a h e = let x : action.Nothing ≡ a = cc in ap (λ b. risen b h) x
skip_low part.EventOrs a h e = let x : action.Nothing ≡ a = cc in ap (λ b. risen b h) x
skip_low part.Mask a h e = let x : action.Unmasked ≡ a = cc in ap (λ b. risen b h) x
skip_low part.EventMask a h e = let x : action.Nothing ≡ a = cc in ap (λ b. risen b h) x
skip_low part.Dots a h e = let x : action.Nothing ≡ a = cc in ap (λ b. risen b h) x
skip_low part.Factors a h e = let x : action.Nothing ≡ a = cc in ap (λ b. risen b h) x
skip_low part.Sums a h e = let x : action.Nothing ≡ a = cc in ap (λ b. risen b h) x
skip_low part.Compare a h e = let x : action.Nothing ≡ a = cc in ap (λ b. risen b h) x
skip_low part.Ands a h e = let x : action.Nothing ≡ a = cc in ap (λ b. risen b h) x
skip_low part.Ors a h e = let x : action.Nothing ≡ a = cc in ap (λ b. risen b h) x
skip_low other a h e = cc

row_low-at : (p : Part) (k : Terminal) (row : List Item) (h : Heights) → after p k ≡ Some row → Low (low_of p h) (lowest row h)
row_low-at p k row h e = subst (λ r. IfRow (λ row. Low (low_of p h) (lowest row h)) r) e (row_low p (standing p k) h)

-- ---- no text that goes on is lower

next_low : (items : List Item) (h : Heights) (out : Heights) (p : Part) (k : Terminal) (row : List Item)
    → after p k ≡ Some row → Low (lowest (row ++ items) h) out → Low (lowest (item.Part p ∷ items) h) out
next_low items h out p k row e f =
    low_trans _ (lowest items (lowest row h)) out (lowest_low items (low_of p h) (lowest row h) (row_low-at p k row h e))
    (subst (λ g. Low g out) (lowest-append row items h) f)

pub derived_low : {items : List Item} {m : Heights} {ts : List Terminal} {out : Heights} → Derives heights items m ts out → Low (lowest items m) out
derived_low {m = m} Done = low_refl m
derived_low (Next k e d) = derived_low d
derived_low (Make a d) = derived_low d
derived_low {m = m} {out = out} (Rule {items = items} {t = t} p row e d) = next_low items m out p t row e (derived_low d)
derived_low {m = m} {out = out} (Skip {items = items} p a e d) = subst (λ h. Low (lowest items h) out) (sym (skip_low p a m e)) (derived_low d)

-- ---- and the greatest height never falls

pub raised_all_highest : (es : List Effect) (h : Heights) → highest h ≤ highest (raised_all es h)
raised_all_highest [] h = le_refl _
raised_all_highest (e ∷ es) h = le_trans (raised_highest e h) (raised_all_highest es (raised e h))

pub lowest_highest : (items : List Item) (h : Heights) → highest h ≤ highest (lowest items h)
lowest_highest [] h = le_refl _
lowest_highest (item.Token k ∷ items) h = lowest_highest items h
lowest_highest (item.Build a ∷ items) h = le_trans (raised_highest (effect_of a) h) (lowest_highest items (risen a h))
lowest_highest (item.Part p ∷ items) h = le_trans (raised_all_highest (least_effects p) h) (lowest_highest items (low_of p h))

-- ---- the loops that work the least height out

pub high_goes_on : (items : List Item) (h g : Heights) → lowest items h ≡ g → HEIGHT_LIMIT < highest h → HEIGHT_LIMIT < highest g
high_goes_on items h g e l = let a = lowest_highest items h in let d : highest (lowest items h) ≡ highest g = ap highest e in omega arith

pub build_step : (items old : List Item) (i : Item) (a : Action) (e : Effect) (h g : Heights) → old ≡ i ∷ items → i ≡ item.Build a → e ≡ effect_of a → lowest old h ≡ g
    → lowest items (raised_all (e ∷ []) h) ≡ g
build_step items old i a e h g o f k s =
    ap (λ x. lowest items (raised x h)) k ∙ (sym (ap (λ is. lowest is h) (o ∙ ap (λ j. j ∷ items) f)) ∙ s)

pub part_step : (items old : List Item) (i : Item) (p : Part) (es : List Effect) (h g : Heights) → old ≡ i ∷ items → i ≡ item.Part p → es ≡ least_effects p → lowest old h ≡ g
    → lowest items (raised_all es h) ≡ g
part_step items old i p es h g o f k s =
    ap (λ x. lowest items (raised_all x h)) k ∙ (sym (ap (λ is. lowest is h) (o ∙ ap (λ j. j ∷ items) f)) ∙ s)

pub raise_step : (es : List Effect) (i : ℕ) (d : Effect) (h k g : Heights) → i < length es → k ≡ raised (get_or es i d) h → raised_all (drop i es) h ≡ g → raised_all (drop (i + 1) es) k ≡ g
raise_step [] i d h k g l e f = absurd (omega arith)
raise_step (x ∷ es) zero d h k g l e f = ap (raised_all es) e ∙ f
raise_step (x ∷ es) (suc i) d h k g l e f =
    let P : ℕ → Type 0 = λ j. raised_all (drop j (x ∷ es)) k ≡ g in
    let n : suc (i + 1) ≡ suc i + 1 = omega arith in
    subst P n (raise_step es i d h k g (omega arith) e f)

pub too_high : (es : List Effect) (h : Heights) → nat_le (tops h) HEIGHT_LIMIT ≡ false → HEIGHT_LIMIT < highest (raised_all es h)
too_high es h f = let a = tops_highest h in let b = raised_all_highest es h in grind (arith, nat_tests)

pub still_within : (e : Effect) (h k : Heights) → k ≡ raised e h → highest h ≤ HEIGHT_LIMIT → nat_le (tops k) HEIGHT_LIMIT ≡ true → highest k ≤ HEIGHT_LIMIT
still_within e h k f l t = let b = subst (λ (j : Heights). highest j ≤ max (highest h) (tops j)) (sym f) (raised_tops e h) in grind (arith, nat_tests)

-- ---- a row that is no higher than its part

abbrev pub SameLowest : List Item → List Effect → Type 0
SameLowest items es = (h : Heights) → lowest items h ≡ raised_all es h

pub least_step : (row : List Item) (i : ℕ) (d : Item) (es more : List Effect) → i < length row
    → ((h : Heights) → raised_all es h ≡ raised_all more (lowest (get_or row i d ∷ []) h)) → SameLowest (drop (i + 1) row) more → SameLowest (drop i row) es
least_step [] i d es more l f g = absurd (omega arith)
least_step (x ∷ row) zero d es more l f g = λ h. lowest-append (x ∷ []) row h ∙ (g (lowest (x ∷ []) h) ∙ sym (f h))
least_step (x ∷ row) (suc i) d es more l f g =
    let P : ℕ → Type 0 = λ j. SameLowest (drop j (x ∷ row)) more in
    let n : suc i + 1 ≡ suc (i + 1) = omega arith in
    least_step row i d es more (omega arith) f (subst P n g)

pub level_row : (items old row : List Item) (i : Item) (p : Part) (m : Heights) → old ≡ i ∷ items → i ≡ item.Part p
    → SameLowest row (least_effects p) → lowest (row ++ items) m ≡ lowest old m
level_row items old row i p m e g f =
    lowest-append row items m ∙ (ap (lowest items) (f m) ∙ sym (ap (λ is. lowest is m) (e ∙ ap (λ j. j ∷ items) g)))
