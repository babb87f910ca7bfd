use Rattle.std.proofs.Common.{refl}
use Rattle.ode_script.proofs.Chunks.{takes_still}
use Rattle.ode_script.proofs.reader.Reader.read_statement.Goals as goal

pub returns-clause-piece : goal.returns-clause-piece
returns-clause-piece g c ps has = takes_still ps c.read_piece-piece.new.self _ _ c.read_piece-piece.result refl refl refl (c.read_piece-piece.ensures.piece ps has)
