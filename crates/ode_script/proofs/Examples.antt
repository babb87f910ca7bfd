-- Scripts, and the pieces into which they are cut.
use Rattle.std.proofs.Common.{◌≡◌, [], refl}
use Rattle.std.specs.Prelude.{codes}
use Rattle.ode_value.specs.Limits.{script_limit, statement_limit}
use Rattle.ode_script.specs.Cutting.{Then, Ended, End, LongScript, pieces, pieces_from}

pub two_statements : pieces (codes "show 1;\n\n show 2;\n") ≡ Then 1 (codes "show 1;") (Then 3 (codes "show 2;") (Ended End))
unfolding script_limit statement_limit
two_statements = refl

pub no_space : pieces [] ≡ Ended End
unfolding script_limit statement_limit
no_space = refl

pub blank : pieces (codes " \t\r\n\n") ≡ Ended End
unfolding script_limit statement_limit
blank = refl

pub semicolon_in_text : pieces (codes "say \"a;b\";") ≡ Then 1 (codes "say \"a;b\";") (Ended End)
unfolding script_limit statement_limit
semicolon_in_text = refl

pub quote_in_text : pieces (codes "\"\\\";\";;") ≡ Then 1 (codes "\"\\\";\";") (Then 1 (codes ";") (Ended End))
unfolding script_limit statement_limit
quote_in_text = refl

pub text_to_line_end : pieces (codes "\"a\\\n;") ≡ Then 1 (codes "\"a\\\n;") (Ended End)
unfolding script_limit statement_limit
text_to_line_end = refl

pub semicolon_in_comment : pieces (codes "a//;\n;\n") ≡ Then 1 (codes "a//;\n;") (Ended End)
unfolding script_limit statement_limit
semicolon_in_comment = refl

pub comment_begins : pieces (codes "\n//;\nb;") ≡ Then 2 (codes "//;\nb;") (Ended End)
unfolding script_limit statement_limit
comment_begins = refl

pub braces : pieces (codes "{ ; } ;") ≡ Then 1 (codes "{ ; } ;") (Ended End)
unfolding script_limit statement_limit
braces = refl

pub brace_closed_twice : pieces (codes "}{;};") ≡ Then 1 (codes "}{;};") (Ended End)
unfolding script_limit statement_limit
brace_closed_twice = refl

pub rest : pieces (codes "a; show 1\n") ≡ Then 1 (codes "a;") (Then 1 (codes "show 1\n") (Ended End))
unfolding script_limit statement_limit
rest = refl

pub comment_rest : pieces (codes "a; // b") ≡ Then 1 (codes "a;") (Ended End)
unfolding script_limit statement_limit
comment_rest = refl

pub slash_rest : pieces (codes "//\n/") ≡ Then 1 (codes "//\n/") (Ended End)
unfolding script_limit statement_limit
slash_rest = refl

pub at_limit : pieces_from 2 1 (codes "a;") ≡ Then 1 (codes "a;") (Ended End)
unfolding statement_limit
at_limit = refl

pub past_limit : pieces_from 2 1 (codes "a; ") ≡ Then 1 (codes "a;") (Ended LongScript)
unfolding statement_limit
past_limit = refl
