-- What a reader holds.
use Rattle.std.proofs.Common.{◌≡◌, ℕ, ◌<◌, ◌≤◌, suc, List, [], ◌∷◌, ◌++◌, length, take, drop, get_or, Option, Some, Result, Ok, Err, sym, ap, ◌∙◌, subst, drop-cons}
use Rattle.std.proofs.lemmas.List.{get_or-take, length-take-le}
use Rattle.ode_script.specs.declared.reader.Reader.{Reader}
use Rattle.ode_script.specs.declared.reader.Piece.{Piece}
use Rattle.ode_script.specs.declared.reader.Piece.TheVariants as P
use Rattle.ode_script.specs.declared.reader.ScriptError.{ScriptError}
use Rattle.ode_script.specs.Cutting.{Pieces, pieces_from}
use Rattle.ode_script.specs.Left.{held, HasLeft, HasPieces, IsNext, TakesPiece}

-- the byte at the reader's place is the first that it holds
held-cons : (bs : List ℕ) (at end : ℕ) → at < end → end ≤ length bs → drop at (take end bs) ≡ get_or bs at 0 ∷ drop (suc at) (take end bs)
held-cons bs at end below within =
    let there : at < length (take end bs) = rw (length-take-le end bs within) below in
    drop-cons (take end bs) at 0 there ∙ ap (λ b. b ∷ drop (suc at) (take end bs)) (get_or-take end bs at 0 below)

pub next_held : (r : Reader) → r.at < r.end → 0 < r.allowed → IsNext r (get_or r.buffer r.at 0)
next_held r below some = record { more = drop (suc r.at) (take r.end r.buffer); is = held-cons r.buffer r.at r.end below r.in_buffer; some = some }

-- where a byte is held, it is the first of the bytes that are left
pub next_left : (r : Reader) (source : Option (List ℕ)) (rest : List ℕ) → r.at < r.end → HasLeft r source rest → (more : List ℕ) × (rest ≡ get_or r.buffer r.at 0 ∷ more) × HasLeft r source (get_or r.buffer r.at 0 ∷ more)
next_left r source rest below left =
    let is : rest ≡ get_or r.buffer r.at 0 ∷ (drop (suc r.at) (take r.end r.buffer) ++ left.behind)
    = left.is ∙ ap (λ bs. bs ++ left.behind) (held-cons r.buffer r.at r.end below r.in_buffer) in
    (drop (suc r.at) (take r.end r.buffer) ++ left.behind, is, subst (HasLeft r source) is left)

-- the byte is taken from what is left
pub taken_left : (old new : Reader) (source : Option (List ℕ)) (b : ℕ) (more : List ℕ) → held old ≡ b ∷ held new → HasLeft old source (b ∷ more) → HasLeft new source more
taken_left old new source b more is left =
    let both : b ∷ more ≡ b ∷ (held new ++ left.behind) = left.is ∙ ap (λ bs. bs ++ left.behind) is in
    record { behind = left.behind; told = left.told; is = cc (both) }

no_front : (xs ys : List ℕ) → [] ≡ xs ++ ys → ys ≡ []
no_front [] ys is = sym is
no_front (x ∷ xs) ys is = cc (is)

-- where nothing is left, the source has nothing
pub none_left : (r : Reader) (source : Option (List ℕ)) → HasLeft r source [] → source ≡ Some []
none_left r source left = left.told ∙ ap Some (no_front (held r) left.behind left.is)

-- what is left is left to a reader at the same place
same_left : (old new : Reader) (source : Option (List ℕ)) (ps : Pieces) → held old ≡ held new → old.allowed ≡ new.allowed → old.line ≡ new.line → HasPieces old source ps → HasPieces new source ps
same_left old new source ps held_is allowed_is line_is has = record {
  rest = has.rest;
  left = record { behind = has.left.behind; told = has.left.told; is = has.left.is ∙ ap (λ bs. bs ++ has.left.behind) held_is };
  are = has.are ∙ ap (λ n. pieces_from n old.line has.rest) allowed_is ∙ ap (λ l. pieces_from new.allowed l has.rest) line_is;
}

pub takes_still : (ps : Pieces) (old new : Reader) (source : Option (List ℕ)) (result : Result Piece ScriptError) → held old ≡ held new → old.allowed ≡ new.allowed → old.line ≡ new.line
    → TakesPiece ps old source result → TakesPiece ps new source result
takes_still ps old new source (Ok (P.Statement text line)) held_is allowed_is line_is takes = (takes.0, takes.1, same_left old new source takes.0 held_is allowed_is line_is takes.2)
takes_still ps old new source (Ok P.End) held_is allowed_is line_is takes = takes
takes_still ps old new source (Err e) held_is allowed_is line_is takes = takes
