-- What is to be seen of a text that is read.
use Rattle.std.specs.Prelude.{ℕ, List, drop}
use Rattle.ode_gen.specs.declared.text_source.TextSource.{TextSource}

-- what is left of its bytes
abbrev pub left_of : TextSource → List ℕ
left_of source = drop source.at source.text
