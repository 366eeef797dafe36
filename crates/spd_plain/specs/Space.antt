-- The limit on the states of a model, and the product of leading variables' sizes that passes it.
use Rattle.std.specs.Prelude.{ℕ, suc, nat_lt, List, length, map, take, find, Option}
use Rattle.spd_model.specs.Process.{Process}
use Rattle.spd_model.specs.Numbers.{numbers_below}
use Rattle.spd_model.specs.States.{sizes, state_count}

-- the greatest number of states that tables are made of
abbrev pub state_limit : ℕ
state_limit = 4096

-- the numbers of states of the first variables: of the first one, of the first two, and so on
abbrev pub products_of : Process → List ℕ
products_of m = map (λ n. state_count (take (suc n) (sizes m))) (numbers_below (length m.vars))

-- the first of them that passes the limit
abbrev pub first_large_product : Process → Option ℕ
first_large_product m = find (nat_lt state_limit) (products_of m)
