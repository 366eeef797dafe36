-- How a key is spelled in the table, and where its search starts.
use Rattle.std.specs.Prelude.{ℕ, ◌+◌, ◌*◌, ◌/◌, ◌%◌, ◌^◌, ◌<◌, ℤ, List, [], ◌∷◌, bit_xor, FitsSigned}
use Rattle.std.specs.Int.{w64, w128, cast_unsigned, rotate_left}
use Rattle.std.specs.List.{fold}
use Rattle.spd_cons_core.specs.declared.key.Key.{Key}
use Rattle.spd_cons_core.specs.declared.key.Key.TheVariants.{Test, Num, Pair, Act}

-- the low 64 bits of a number's two's complement of 128 bits
abbrev pub low : ℤ → ℕ
low n = cast_unsigned w128 n % 2 ^ 64

-- its high 64 bits
abbrev pub high : ℤ → ℕ
high n = cast_unsigned w128 n / 2 ^ 64

-- the five words of a key
abbrev pub words_of : Key → List ℕ
words_of (Test level on_yes on_no) = (1 + 16 * level) ∷ on_yes.0 ∷ on_no.0 ∷ 0 ∷ 0 ∷ []
words_of (Num n) = 2 ∷ low n ∷ high n ∷ 0 ∷ 0 ∷ []
words_of (Pair m n) = 3 ∷ low m ∷ high m ∷ low n ∷ high n ∷ []
words_of (Act action) = 4 ∷ action ∷ 0 ∷ 0 ∷ 0 ∷ []

-- the numbers of a key are in the ranges of their types
abbrev pub IsKey : Key → Type 0
IsKey (Test level on_yes on_no) = (level < 2 ^ 16) × (on_yes.0 < 2 ^ 32) × (on_no.0 < 2 ^ 32)
IsKey (Num n) = FitsSigned w128 n
IsKey (Pair m n) = FitsSigned w128 m × FitsSigned w128 n
IsKey (Act action) = action < 2 ^ 32

-- a hash with one more word in it
unfoldable pub mixed : ℕ → ℕ → ℕ
mixed hash word = (rotate_left w64 (bit_xor hash word) 29 * 0x9E3779B97F4A7C15) % 2 ^ 64

-- the hash of a key's words
abbrev pub hash_of : List ℕ → ℕ
hash_of words = fold mixed 0 words

-- the bucket at which the search for a key starts, of so many buckets: as far into the buckets as
-- the hash of its words is into the numbers of 64 bits. For 2 ^ b buckets it is the hash's first b bits.
unfoldable pub first_bucket : List ℕ → ℕ → ℕ
first_bucket words count = hash_of words * count / 2 ^ 64
