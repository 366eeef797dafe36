-- The test trees of the entries that a seat of a table knows.
use Rattle.std.specs.Prelude.{◌≡◌, ◌≢◌, ℕ, ◌+◌, ◌<◌, ◌≤◌, ◌⊎◌, ◌==◌, true, cond, List, [], ◌∷◌}
use Rattle.std.proofs.Common.{zero, suc}
use Rattle.std.specs.List.{Contains, list_any}
use Rattle.spd_cons_core.specs.declared.key.Entry.{Entry}
use Rattle.spd_cons_core.specs.declared.key.Key.{Key}
use Rattle.spd_cons_core.specs.declared.key.Key.TheVariants as K
use Rattle.spd_cons_core.specs.declared.mind.Known.{Known}
use Rattle.spd_cons_core.specs.Seats.{is_known, parts_known}
use Rattle.spd_cons.specs.Values.{SeatValue}
use Rattle.spd_nodes.specs.declared.leaf.Leaf.TheVariants as L
use Rattle.spd_nodes.specs.Levels.{levels_of, slots, after, is_first}
use Rattle.spd_nodes.specs.Trees.{Tree, Ends, Tests}
use Rattle.spd_nodes.specs.Shown.{Shown}

-- the key with which an entry is known
abbrev pub key_of : List Known → Entry → Key
key_of [] e = K.Act 0
key_of (k ∷ ks) e = cond (k.entry.0 == e.0) k.key (key_of ks e)

-- the tree of a key over the keys that are known, down to so many tests
abbrev pub key_tree : ℕ → List Known → Key → Tree
key_tree zero knows key = Ends (L.Act 0)
key_tree (suc n) knows (K.Test l y m) = Tests l (key_tree n knows (key_of knows y)) (key_tree n knows (key_of knows m))
key_tree (suc n) knows (K.Num a) = Ends (L.Num a)
key_tree (suc n) knows (K.Pair a b) = Ends (L.Pair a b)
key_tree (suc n) knows (K.Act a) = Ends (L.Act a)

-- the tree of an entry: one of a layout has at most as many tests one below the other as there are levels
abbrev pub known_tree : List ℕ → List Known → Entry → Tree
known_tree ds knows e = key_tree (suc (levels_of ds)) knows (key_of knows e)

-- a leaf, or a test of a slot's first value from this level on
abbrev pub KeyFrom : List ℕ → ℕ → Key → Type 0
KeyFrom ds e (K.Test l y n) = (e ≤ l) × (is_first ds l ≡ true)
KeyFrom ds e (K.Num a) = Unit {0}
KeyFrom ds e (K.Pair a b) = Unit {0}
KeyFrom ds e (K.Act a) = Unit {0}

-- a test of this level
abbrev pub KeyAt : ℕ → Key → Type 0
KeyAt k (K.Test l y n) = l ≡ k
KeyAt k (K.Num a) = ⊥
KeyAt k (K.Pair a b) = ⊥
KeyAt k (K.Act a) = ⊥

-- A key that is a node of a layout: the level of a test is one of the layout, its children differ, the one where it holds is
-- whole and past the test's slot, and the other one is that too, or is the slot's next test.
abbrev pub FitsIn : List ℕ → List Known → Key → Type 0
FitsIn ds knows (K.Test l y n) =
    (l < levels_of ds) × (y.0 ≢ n.0) × KeyFrom ds (after ds l) (key_of knows y) × (KeyFrom ds (after ds l) (key_of knows n) ⊎ (KeyAt (l + 1) (key_of knows n) × (l + 1 < after ds l)))
FitsIn ds knows (K.Num a) = Unit {0}
FitsIn ds knows (K.Pair a b) = Unit {0}
FitsIn ds knows (K.Act a) = Unit {0}

-- all keys that are known are nodes of a layout
pub record AllFitIn (ds : List ℕ) (knows : List Known) : Type 0 where
  pub all : (k : Known) → Contains knows k → FitsIn ds knows k.key

-- a key that is a node of a layout, whose children are known
pub record CanBeMade (ds : List ℕ) (knows : List Known) (key : Key) : Type 0 where
  pub fits : FitsIn ds knows key
  pub parts : parts_known knows key ≡ true

-- what a seat shows as a forest; it is full where it has met the end of the claims
abbrev pub shown_by : List ℕ → SeatValue → Shown
shown_by sizes s = record {
  sizes = sizes;
  knows = λ r. is_known s.mind.knows r;
  tree = λ r. known_tree (slots sizes) s.mind.knows r;
  published = λ r. list_any (λ p. p.0 == r.0) s.mind.published;
  full = s.mind.ended;
}
