-- Where the test of a level leads, by its variable, kind and value.
use Rattle.std.proofs.Common.{◌≡◌, ℕ, zero, suc, ◌+◌, ◌-◌, ◌*◌, ◌<◌, ◌≤◌, ◌==◌, Bool, true, false, cond, List, [], ◌∷◌, length, get_or, take, refl, arith}
use Rattle.std.specs.Prelude.{nat_lt}
use Rattle.std.proofs.lemmas.Bool.Decides.{nat_tests}
use Rattle.spd_nodes.specs.Levels.{levels_of, level_at, IsTestOf}
use Rattle.spd_nodes.proofs.CallerLemmas.{level-plain, level-primed}
use Rattle.spd_search.specs.declared.looking.Turn.TheVariants.{Free, Both, Yes, No}
use Rattle.spd_search.specs.inner.Looking.{turn_of}

-- a test of a later variable, among the variables after the first one
record Later (d : ℕ) (ds : List ℕ) (l var value : ℕ) (primed : Bool) : Type 0 where
  past : (d - 1) + (d - 1) ≤ l
  test : IsTestOf ds (l - (d - 1) - (d - 1)) var primed value

later : (d : ℕ) (ds : List ℕ) (l var value : ℕ) (primed : Bool) → IsTestOf (d ∷ ds) l (suc var) primed value → Later d ds l var value primed
later d ds l var value true t =
    let all : level_at (d ∷ ds) (suc var) true value ≡ 2 * levels_of (take (suc var) (d ∷ ds)) + value = level-primed (d ∷ ds) (suc var) value in
    let some : level_at ds var true value ≡ 2 * levels_of (take var ds) + value = level-primed ds var value in
    record { past = omega (arith, t.level_is); test = record { var_in = omega (arith, t.var_in); value_in = omega (arith, t.value_in); level_is = omega (arith, t.level_is) } }
later d ds l var value false t =
    let near : var < length ds = omega (arith, t.var_in) in
    let all : level_at (d ∷ ds) (suc var) false value ≡ 2 * levels_of (take (suc var) (d ∷ ds)) + (get_or (d ∷ ds) (suc var) 0 - 1) + value = level-plain (d ∷ ds) (suc var) value t.var_in in
    let some : level_at ds var false value ≡ 2 * levels_of (take var ds) + (get_or ds var 0 - 1) + value = level-plain ds var value near in
    record { past = omega (arith, t.level_is); test = record { var_in = near; value_in = omega (arith, t.value_in); level_is = omega (arith, t.level_is) } }

-- past a variable, its tests are no matter
pub turn-skip : (d : ℕ) (ds : List ℕ) (v : ℕ) (first : List ℕ) (l : ℕ) → (d - 1) + (d - 1) ≤ l → turn_of (d ∷ ds) (v ∷ first) l ≡ turn_of ds first (l - (d - 1) - (d - 1))
turn-skip d ds v first l h =
    let a : nat_lt l (d - 1) ≡ false = grind (arith, nat_tests) in
    let b : nat_lt (l - (d - 1)) (d - 1) ≡ false = grind (arith, nat_tests) in
    rw (a, b) refl

-- a test of a next value
pub turn-next : (d : ℕ) (ds : List ℕ) (v : ℕ) (first : List ℕ) (l : ℕ) → l < d - 1 → turn_of (d ∷ ds) (v ∷ first) l ≡ Both
turn-next d ds v first l h =
    let a : nat_lt l (d - 1) ≡ true = grind (arith, nat_tests) in
    rw a refl

-- a test of a present value that is given
pub turn-given : (d : ℕ) (ds : List ℕ) (v : ℕ) (first : List ℕ) (l k : ℕ) → l ≡ (d - 1) + k → k < d - 1 → turn_of (d ∷ ds) (v ∷ first) l ≡ cond (v == k) Yes No
turn-given d ds v first l k e h =
    let a : nat_lt l (d - 1) ≡ false = grind (arith, nat_tests) in
    let b : l - (d - 1) ≡ k = omega arith in
    let c : nat_lt k (d - 1) ≡ true = grind (arith, nat_tests) in
    rw (a, b, c) refl

-- a variable whose value isn't given
pub turn-past : (sizes first : List ℕ) (l var value : ℕ) (primed : Bool) → IsTestOf sizes l var primed value → length first ≤ var → turn_of sizes first l ≡ Free
turn-past [] [] l var value primed t h = refl
turn-past (d ∷ ds) [] l var value primed t h = refl
turn-past [] (v ∷ first) l var value primed t h = refl
turn-past (d ∷ ds) (v ∷ first) l zero value primed t h = absurd (omega arith)
turn-past (d ∷ ds) (v ∷ first) l (suc var) value primed t h =
    let next = later d ds l var value primed t in
    rw (turn-skip d ds v first l next.past) (turn-past ds first (l - (d - 1) - (d - 1)) var value primed next.test (omega arith))

-- a next value, or a present one, of a variable whose present value is given
pub turn-primed : (sizes first : List ℕ) (l var value : ℕ) → IsTestOf sizes l var true value → var < length first → turn_of sizes first l ≡ Both
turn-primed sizes [] l var value t h = absurd (omega arith)
turn-primed [] (v ∷ first) l var value t h = absurd (omega (arith, t.var_in))
turn-primed (d ∷ ds) (v ∷ first) l zero value t h =
    let at : level_at (d ∷ ds) 0 true value ≡ 2 * levels_of (take 0 (d ∷ ds)) + value = level-primed (d ∷ ds) 0 value in
    turn-next d ds v first l (omega (arith, t.level_is, t.value_in))
turn-primed (d ∷ ds) (v ∷ first) l (suc var) value t h =
    let next = later d ds l var value true t in
    rw (turn-skip d ds v first l next.past) (turn-primed ds first (l - (d - 1) - (d - 1)) var value next.test (omega arith))

pub turn-plain : (sizes first : List ℕ) (l var value : ℕ) → IsTestOf sizes l var false value → var < length first → turn_of sizes first l ≡ cond (get_or first var 0 == value) Yes No
turn-plain sizes [] l var value t h = absurd (omega arith)
turn-plain [] (v ∷ first) l var value t h = absurd (omega (arith, t.var_in))
turn-plain (d ∷ ds) (v ∷ first) l zero value t h =
    let at : level_at (d ∷ ds) 0 false value ≡ 2 * levels_of (take 0 (d ∷ ds)) + (get_or (d ∷ ds) 0 0 - 1) + value = level-plain (d ∷ ds) 0 value (omega arith) in
    turn-given d ds v first l value (omega (arith, t.level_is)) (omega (arith, t.value_in))
turn-plain (d ∷ ds) (v ∷ first) l (suc var) value t h =
    let next = later d ds l var value false t in
    rw (turn-skip d ds v first l next.past) (turn-plain ds first (l - (d - 1) - (d - 1)) var value next.test (omega arith))
