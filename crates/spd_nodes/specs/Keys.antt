-- Keys in the order in which they came.
use Rattle.std.specs.Prelude.{◌≡◌, ℕ, ◌<◌, ◌⊎◌, ◌≢◌, List, [], ◌∷◌, ◌++◌, length, slice_index_or}
use Rattle.spd_cons_core.specs.declared.key.Key.{Key}
use Rattle.spd_cons_core.specs.declared.key.Key.TheVariants as K

-- a key stands at a place
pub record IsPlace (keys : List Key) (key : Key) (place : ℕ) : Type 0 where
  pub within : place < length keys
  pub is : slice_index_or keys place (K.Act 0) ≡ key

-- a key stands at no place
abbrev pub IsAbsent : List Key → Key → Type 0
IsAbsent keys key = (i : ℕ) → i < length keys → slice_index_or keys i (K.Act 0) ≢ key

-- a key stood at a place, or it stood nowhere and was put in the last place
abbrev pub PlacesKey : List Key → List Key → Key → ℕ → Type 0
PlacesKey old new key place =
    ((new ≡ old) × IsPlace old key place)
    ⊎ ((new ≡ old ++ key ∷ []) × IsAbsent old key × (place ≡ length old))
