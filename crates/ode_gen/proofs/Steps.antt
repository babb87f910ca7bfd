-- How the lines of a script follow one another.
use Rattle.std.proofs.Common.{◌≡◌, ℕ, zero, suc, ◌+◌, ◌-◌, ◌<◌, ◌≤◌, [], ◌++◌, ap, arith, sym, ◌∙◌}
use Rattle.std.specs.Prelude.{◌/◌}
use Rattle.ode_gen.specs.Generating.{lines_from, call_line, drawn}

-- none is left behind the last
pub no_lines : (n i x : ℕ) → n ≤ i → lines_from (n - i) x ≡ []
unfolding lines_from
no_lines n i x over = let none : n - i ≡ zero = omega arith in ap (λ k. lines_from k x) none

-- before that one is next
pub next_line : (n i x y : ℕ) → i < n → y ≡ drawn x → lines_from (n - i) x ≡ call_line (y / 65536) ++ lines_from (n - (i + 1)) y
unfolding lines_from
next_line n i x y before is =
    let more : n - i ≡ suc (n - (i + 1)) = omega arith in
    ap (λ k. lines_from k x) more ∙ ap (λ z. call_line (z / 65536) ++ lines_from (n - (i + 1)) z) (sym is)
