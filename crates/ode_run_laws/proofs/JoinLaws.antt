-- Runs join, and what is printed before a transaction is the beginning of the whole text.
use Rattle.std.proofs.Common.{◌≡◌, ℕ, zero, suc, List, [], ◌∷◌, ◌++◌, refl, sym, ap, ◌∙◌}
use Rattle.std.proofs.lemmas.List.{append_assoc}
use Rattle.ode_machine.specs.Sessions.{Session}
use Rattle.ode_script.specs.Cutting.{Pieces}
use Rattle.ode_machine.specs.Runs.{Item, Settles, Refuses, piece_stretch, followed_by, pieces_items, text_of, text_until, final, worlds}
use Rattle.ode_value.specs.Language.{Language, ListWorld}
use Rattle.ode_run_laws.specs.Joining.{before_pieces, pieces_stretch, BeginsWith}

pub pieces_join : (l : Language) (ps : List (ℕ × List ℕ)) (rest : Pieces) (session : Session) → pieces_items l (before_pieces ps rest) session ≡ followed_by l (pieces_stretch l ps session) (pieces_items l rest)
unfolding pieces_items
pieces_join l [] rest session = refl
pieces_join l (p ∷ ps) rest session =
    ap (λ items. (piece_stretch l session p.0 p.1).1 ++ items) (pieces_join l ps rest (piece_stretch l session p.0 p.1).0)
    ∙ sym (append_assoc (piece_stretch l session p.0 p.1).1 (pieces_stretch l ps (piece_stretch l session p.0 p.1).0).1 (pieces_items l rest (pieces_stretch l ps (piece_stretch l session p.0 p.1).0).0))

pub texts_join : (items more : List Item) → text_of (items ++ more) ≡ text_of items ++ text_of more
texts_join [] more = refl
texts_join (Refuses line ∷ items) more = ap (λ t. line ++ t) (texts_join items more) ∙ sym (append_assoc line (text_of items) (text_of more))
texts_join (Settles world text ∷ items) more = ap (λ t. text ++ t) (texts_join items more) ∙ sym (append_assoc text (text_of items) (text_of more))

pub worlds_join : (items more : List Item) → worlds (items ++ more) ≡ worlds items ++ worlds more
worlds_join [] more = refl
worlds_join (Refuses line ∷ items) more = worlds_join items more
worlds_join (Settles world text ∷ items) more = ap (λ ws. world ∷ ws) (worlds_join items more)

pub final_join : (w : ListWorld) (items more : List Item) → final w (items ++ more) ≡ final (final w items) more
final_join w [] more = refl
final_join w (Refuses line ∷ items) more = final_join w items more
final_join w (Settles world text ∷ items) more = final_join world items more

begins_behind : (line whole first : List ℕ) → BeginsWith whole first → BeginsWith (line ++ whole) (line ++ first)
begins_behind line whole first b = record { more = b.more; is = ap (λ t. line ++ t) b.is ∙ sym (append_assoc line first b.more) }

pub text_begins : (k : ℕ) (items : List Item) → BeginsWith (text_of items) (text_until k items)
text_begins k [] = record { more = []; is = refl }
text_begins k (Refuses line ∷ items) = begins_behind line (text_of items) (text_until k items) (text_begins k items)
text_begins zero (Settles world text ∷ items) = record { more = text_of (Settles world text ∷ items); is = refl }
text_begins (suc k) (Settles world text ∷ items) = begins_behind text (text_of items) (text_until k items) (text_begins k items)
