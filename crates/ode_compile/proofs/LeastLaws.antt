-- The least tables of compiled triggers.
use Rattle.std.proofs.Common.{List, [], ◌∷◌, ◌++◌, subst, ◌∙◌, arith}
use Rattle.std.specs.List.{AllByRecursion}
use Rattle.ode_value.specs.Symbols.{Alphabet}
use Rattle.ode_value.specs.Tables.{IsWord, Means, Table}
use Rattle.ode_value.specs.declared.event.EventExpr.{EventExpr}
use Rattle.ode_value.specs.declared.member.TriggerDecl.{TriggerDecl}
use Rattle.ode_minimal.specs.Minimal.{AnswersAs}
use Rattle.ode_compile.specs.Compiling.{AreCompiled, AreLeastOf, IsCompiled, IsLeastOf, IsShrunk}

-- one more table
pub least_more : (tables least : List Table) (t small : Table) → AreLeastOf tables least → IsLeastOf t small → AreLeastOf (tables ++ t ∷ []) (least ++ small ∷ [])
least_more [] [] t small all one = (one, tt)
least_more [] (y ∷ ys) t small all one = absurd all
least_more (x ∷ xs) [] t small all one = absurd all
least_more (x ∷ xs) (y ∷ ys) t small all one = (all.0, least_more xs ys t small all.1 one)

pub least_shrunk : (tables least : List Table) → AreLeastOf tables least → AllByRecursion IsShrunk least
least_shrunk [] [] all = tt
least_shrunk [] (y ∷ ys) all = absurd all
least_shrunk (x ∷ xs) [] all = absurd all
least_shrunk (x ∷ xs) (y ∷ ys) all = (all.0.shrunk, least_shrunk xs ys all.1)

-- a table with the same answers means the same event
means_as : (large small : Table) (e : EventExpr) → AnswersAs large small → Means large e → Means small e
means_as large small e same means = record {
  symbols = same.symbols ∙ means.symbols;
  answers = λ word is.
      let own : IsWord large.symbols word = subst (λ n. IsWord n word) same.symbols is in
      same.answers word own.each ∙ means.answers word own;
}

compiled_as : (t : TriggerDecl) (large small : Table) (rows : Alphabet) → IsLeastOf large small → IsCompiled t large rows → IsCompiled t small rows
compiled_as t large small rows least is = record {
  whole = least.whole;
  means = means_as large small t.event least.answers is.means;
  states = omega (arith, least.few, is.states);
  alphabet_is = is.alphabet_is;
}

pub least_compiled : (ts : List TriggerDecl) (tables least : List Table) (alphabets : List Alphabet) → AreLeastOf tables least → AreCompiled ts tables alphabets → AreCompiled ts least alphabets
least_compiled [] [] [] [] all is = tt
least_compiled [] [] [] (a ∷ more) all is = absurd is
least_compiled [] [] (y ∷ ys) more all is = absurd all
least_compiled [] (x ∷ xs) least more all is = absurd is
least_compiled (t ∷ ts) [] least more all is = absurd is
least_compiled (t ∷ ts) (x ∷ xs) [] more all is = absurd all
least_compiled (t ∷ ts) (x ∷ xs) (y ∷ ys) [] all is = absurd is
least_compiled (t ∷ ts) (x ∷ xs) (y ∷ ys) (a ∷ more) all is = (compiled_as t x y a all.0 is.0, least_compiled ts xs ys more all.1 is.1)
