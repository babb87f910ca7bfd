use Rattle.std.proofs.Common.{◌≡◌, map, take}
use Rattle.ode_terminals.specs.Seen.{terminal_of}
use Rattle.ode_terminals.proofs.seen.terminals.Given as goal

-- the tokens so far are seen
abbrev pub invariant-loop-token : goal.invariant-loop-token
invariant-loop-token l = l.seen.items ≡ map (terminal_of l.place l.text) (take l.token-index l.tokens)
