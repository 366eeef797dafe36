-- What a memo keeps.
use Rattle.std.specs.Prelude.{ℕ, ◌<◌, ◌≤◌, ◌==◌, ◌&&◌, Bool, List, ◌∷◌, Option, Contains, length, take, ◌-◌}
use Rattle.std.specs.List.{IsDistinct}
use Rattle.std.specs.Map.{keys_of, lookup, lookup_entry, remove_entry}
use Rattle.std.specs.Option.{option_map_or}
use Rattle.spd_cons_core.specs.declared.key.Entry.{Entry}
use Rattle.lru.specs.LruCache.{promoted}

-- the pairs with their answers, the most recently used first, and how many may be kept
pub record KeptAnswers : Type 0 where
  pub pairs : List ((Entry × Entry) × Entry)
  pub capacity : ℕ

-- whether a pair is this one
abbrev pub is_same_pair : Entry → Entry → Entry × Entry → Bool
is_same_pair f g q = (f.0 == q.0.0) && (g.0 == q.1.0)

-- the answer that is kept for a pair
abbrev pub answer_in : List ((Entry × Entry) × Entry) → Entry → Entry → Option Entry
answer_in pairs f g = lookup (is_same_pair f g) pairs

-- the pairs with this one in front, if it is kept
abbrev pub promoted_in : List ((Entry × Entry) × Entry) → Entry → Entry → List ((Entry × Entry) × Entry)
promoted_in pairs f g = promoted (is_same_pair f g) pairs

-- the pair in front with this answer; where it is new, behind it as many of the others as fit
abbrev pub pairs_put : KeptAnswers → Entry → Entry → Entry → List ((Entry × Entry) × Entry)
pairs_put k f g r = option_map_or (λ e. (e.0, r) ∷ remove_entry (is_same_pair f g) k.pairs) (lookup_entry (is_same_pair f g) k.pairs) (((f, g), r) ∷ take (k.capacity - 1) k.pairs)

-- the memo after an answer was put
abbrev pub put_in : KeptAnswers → Entry → Entry → Entry → KeptAnswers
put_in k f g r = record { pairs = pairs_put k f g r; capacity = k.capacity }

-- no pair is kept twice, and no more than the capacity, which is at least 1
pub record IsKept (k : KeptAnswers) : Type 0 where
  pub once : IsDistinct (λ (p q : Entry × Entry). is_same_pair p.0 p.1 q) (keys_of k.pairs)
  pub few : length k.pairs ≤ k.capacity
  pub some : 0 < k.capacity

-- a pair is kept, with some answer
abbrev pub Keeps : KeptAnswers → Entry → Entry → Type 0
Keeps k f g = (r : Entry) × Contains k.pairs ((f, g), r)
