-- A function of the next state in place of the present one, and the tests of its tree.
use Rattle.std.specs.Prelude.{◌≡◌, ℕ, ◌+◌, ◌-◌, ◌*◌, Bool, true, false, cond, nat_lt, List, [], ◌∷◌}
use Rattle.spd_cons_core.specs.declared.key.Entry.{Entry}
use Rattle.spd_nodes.specs.Shown.{Shown}
use Rattle.spd_nodes.specs.Trees.{Tree, Ends, Tests, join}
use Rattle.spd_nodes.specs.States.{Function}

-- a function's value at the next state: each plain name primed
abbrev pub primed : Function → Function
primed f s t = f t t

-- whether a level tests a plain value
abbrev pub is_plain_level : List ℕ → ℕ → Bool
is_plain_level [] l = false
is_plain_level (d ∷ ds) l = cond (nat_lt l (d - 1)) false (cond (nat_lt l (2 * (d - 1))) true (is_plain_level ds (l - 2 * (d - 1))))

-- the level of the primed test of a plain level's value
abbrev pub primed_level : List ℕ → ℕ → ℕ
primed_level [] l = l
primed_level (d ∷ ds) l = cond (nat_lt l (2 * (d - 1))) (l - (d - 1)) (2 * (d - 1) + primed_level ds (l - 2 * (d - 1)))

-- a tree tests no primed level
abbrev pub TestsNoPrimed : List ℕ → Tree → Type 0
TestsNoPrimed sizes (Ends a) = Unit {0}
TestsNoPrimed sizes (Tests l y n) = (is_plain_level sizes l ≡ true) × TestsNoPrimed sizes y × TestsNoPrimed sizes n

-- where an entry is a test, it tests a plain value
pub record IsPlainRoot (s : Shown) (q : Entry) : Type 0 where
  pub plain : (l : ℕ) (y n : Tree) → s.tree q ≡ Tests l y n → is_plain_level s.sizes l ≡ true

-- a tree with each plain test primed
abbrev pub primed_tree : List ℕ → Tree → Tree
primed_tree sizes (Ends a) = Ends a
primed_tree sizes (Tests l y n) = join (primed_level sizes l) (primed_tree sizes y) (primed_tree sizes n)

-- which trees a priming may meet
pub record MayPrime (own sizes : List ℕ) (t : Tree) : Type 0 where
  pub same : own ≡ sizes
  pub plain : TestsNoPrimed sizes t
