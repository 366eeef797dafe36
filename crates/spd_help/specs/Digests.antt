-- The digests of two model files, as they are shown.
use Rattle.std.specs.Prelude.{◌≡◌, ℕ, List, [], ◌∷◌, ◌++◌, codes}
use Rattle.hex.specs.Hex.{encode_lower}
use Rattle.spd_help.specs.Shown.{shown}

-- a digest on a line of its own, in hexadecimal digits
abbrev pub digest_line : List ℕ → List ℕ
digest_line digest = shown (codes "    " ++ encode_lower digest) ++ 10 ∷ []

-- what a screen showed, then more, with the line of the digest that was found and below it that of the one that was wanted
pub record ShowsDigests (found wanted before now : List ℕ) : Type 0 where
  pub lead : List ℕ
  pub more : List ℕ
  pub shows : now ≡ before ++ lead ++ digest_line found ++ digest_line wanted ++ more
