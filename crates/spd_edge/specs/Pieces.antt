-- Pieces of a text that are written one after another.
use Rattle.std.specs.Prelude.{ℕ, List, flat_map}
use Rattle.std.specs.Borrow.{Bor}

-- the bytes of pieces, one after another
abbrev pub text_of_pieces : List (Bor (List ℕ)) → List ℕ
text_of_pieces pieces = flat_map (λ (piece : Bor (List ℕ)). piece.now) pieces
