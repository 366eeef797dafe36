-- The digest that bytes name, by its place.
use Rattle.std.specs.Prelude.{ℕ, ◌==◌, nat_lt, if◌then◌else◌, List, ◌∷◌, ◌++◌, length, take, drop, slice_index, codes, bytes_eq, Option, None}
use Rattle.spd_cert.specs.Words.{digest_of}

-- what stands before the digest of version 2: 19 bytes
abbrev pub before_digest : List ℕ
before_digest = codes "spd result 2" ++ 10 ∷ codes "model "

-- the digest of 64 digits behind these bytes and before an LF
unfoldable pub named_of : List ℕ → Option (List ℕ)
named_of bytes =
    if nat_lt (length bytes) 84 then None
    else (if bytes_eq (take 19 bytes) before_digest then (if slice_index bytes 83 == 10 then digest_of (take 64 (drop 19 bytes)) else None) else None)
