-- Levels where all variables have two values.
use Rattle.std.proofs.Common.{◌≡◌, ℕ, zero, suc, ◌+◌, ◌-◌, ◌*◌, ◌<◌, ◌≤◌, ◌==◌, Bool, true, false, cond, length, get_or, take, refl, arith}
use Rattle.std.specs.Prelude.{nat_lt}
use Rattle.std.proofs.lemmas.Bool.Decides.{nat_tests}
use Rattle.spd_nodes.specs.Levels.{levels_of, after, is_first, slots, level_at}
use Rattle.spd_nodes.proofs.CallerLemmas.{level-plain}
use Rattle.spd_restrict.specs.Primed.{is_plain_level}
use Rattle.spd_bench.specs.Built.{twos}

length-twos : (n : ℕ) → length (twos n) ≡ n
length-twos zero = refl
length-twos (suc n) = let e : length (twos n) ≡ n = length-twos n in omega arith

pub get-twos : (n v : ℕ) → v < n → get_or (twos n) v 0 ≡ 2
get-twos zero v h = absurd (omega arith)
get-twos (suc n) zero h = refl
get-twos (suc n) (suc v) h = get-twos n v (omega arith)

levels-twos : (n v : ℕ) → v ≤ n → levels_of (take v (twos n)) ≡ v
levels-twos n zero h = refl
levels-twos zero (suc v) h = absurd (omega arith)
levels-twos (suc n) (suc v) h = let e : levels_of (take v (twos n)) ≡ v = levels-twos n v (omega arith) in omega arith

-- the level of a variable's plain test
pub level-twos : (n v : ℕ) → v < n → level_at (twos n) v false 0 ≡ 2 * v + 1
level-twos n v h =
    let e : level_at (twos n) v false 0 ≡ 2 * levels_of (take v (twos n)) + (get_or (twos n) v 0 - 1) + 0 = level-plain (twos n) v 0 (omega (arith, length-twos n)) in
    omega (arith, levels-twos n v (omega arith), get-twos n v h)

-- a level has one test
pub after-twos : (n l : ℕ) → l < 2 * n → after (slots (twos n)) l ≡ l + 1
after-twos zero l h = absurd (omega arith)
after-twos (suc n) l h = go (nat_lt l 1) (nat_lt (l - 1) 1) refl refl (after-twos n (l - 1 - 1))
  where
    go : (a b : Bool) → nat_lt l 1 ≡ a → nat_lt (l - 1) 1 ≡ b → (l - 1 - 1 < 2 * n → after (slots (twos n)) (l - 1 - 1) ≡ l - 1 - 1 + 1) → cond a 1 (1 + cond b 1 (1 + after (slots (twos n)) (l - 1 - 1))) ≡ l + 1
    go true b e f i = grind (arith, nat_tests)
    go false true e f i = grind (arith, nat_tests)
    go false false e f i =
        let big : 2 ≤ l = grind (arith, nat_tests) in
        let r : after (slots (twos n)) (l - 1 - 1) ≡ l - 1 - 1 + 1 = i (omega arith) in
        omega arith

pub first-twos : (n l : ℕ) → is_first (slots (twos n)) l ≡ true
first-twos zero l = refl
first-twos (suc n) l = go (nat_lt l 1) (nat_lt (l - 1) 1) refl refl (first-twos n (l - 1 - 1))
  where
    go : (a b : Bool) → nat_lt l 1 ≡ a → nat_lt (l - 1) 1 ≡ b → is_first (slots (twos n)) (l - 1 - 1) ≡ true → cond a (l == 0) (cond b (l - 1 == 0) (is_first (slots (twos n)) (l - 1 - 1))) ≡ true
    go true b e f i = grind (arith, nat_tests)
    go false true e f i = grind (arith, nat_tests)
    go false false e f i = i

-- it is plain
pub plain-twos : (n v : ℕ) → v < n → is_plain_level (twos n) (2 * v + 1) ≡ true
plain-twos zero v h = absurd (omega arith)
plain-twos (suc n) zero h = refl
plain-twos (suc n) (suc v) h = go (nat_lt (2 * suc v + 1) 1) (nat_lt (2 * suc v + 1) 2) refl refl (plain-twos n v (omega arith))
  where
    go : (a b : Bool) → nat_lt (2 * suc v + 1) 1 ≡ a → nat_lt (2 * suc v + 1) 2 ≡ b → is_plain_level (twos n) (2 * v + 1) ≡ true → cond a false (cond b true (is_plain_level (twos n) (2 * suc v + 1 - 2))) ≡ true
    go true b e f i = absurd (let z : 2 * suc v + 1 < 1 = grind (arith, nat_tests) in omega arith)
    go false true e f i = refl
    go false false e f i = let z : 2 * suc v + 1 - 2 ≡ 2 * v + 1 = omega arith in rw z i
