-- The operations and maps of leaves. Where a leaf is of another kind, an operation isn't defined, and its value here is the
-- first leaf.
use Rattle.std.specs.Prelude.{ℕ, ◌^◌, Bool, true, false, cond, nat_lt, ℤ, pos, negsuc, int_le, unsigned_abs}
use Rattle.std.specs.Ordering.{int_eq}
use Rattle.spd_nodes.specs.declared.leaf.Leaf.{Leaf}
use Rattle.spd_nodes.specs.declared.leaf.Leaf.TheVariants.{Num, Pair, Act}

-- whether a number is in the range of an `i128`, from -2^127 to 2^127 - 1
abbrev pub in_i128 : ℤ → Bool
in_i128 (pos n) = nat_lt n (2 ^ 127)
in_i128 (negsuc n) = nat_lt n (2 ^ 127)

-- whether both leaves are Num
abbrev pub are_nums : Leaf → Leaf → Bool
are_nums (Num a) (Num b) = true
are_nums (Num a) (Pair b y) = false
are_nums (Num a) (Act b) = false
are_nums (Pair a x) b = false
are_nums (Act a) b = false

-- an operation on the numbers of two Num
abbrev pub num_of : (ℤ → ℤ → ℤ) → Leaf → Leaf → Leaf
num_of op (Num a) (Num b) = Num (op a b)
num_of op (Num a) (Pair b y) = Num a
num_of op (Num a) (Act b) = Num a
num_of op (Pair a x) b = Pair a x
num_of op (Act a) b = Act a

-- whether both are Num and the answer is in range
abbrev pub num_fits : (ℤ → ℤ → ℤ) → Leaf → Leaf → Bool
num_fits op (Num a) (Num b) = in_i128 (op a b)
num_fits op (Num a) (Pair b y) = false
num_fits op (Num a) (Act b) = false
num_fits op (Pair a x) b = false
num_fits op (Act a) b = false

-- the pair of two numbers
abbrev pub pair_of : Leaf → Leaf → Leaf
pair_of (Num a) (Num b) = Pair a b
pair_of (Num a) (Pair b y) = Num a
pair_of (Num a) (Act b) = Num a
pair_of (Pair a x) b = Pair a x
pair_of (Act a) b = Act a

-- whether both leaves are pairs
abbrev pub are_pairs : Leaf → Leaf → Bool
are_pairs (Pair a x) (Pair b y) = true
are_pairs (Pair a x) (Num b) = false
are_pairs (Pair a x) (Act b) = false
are_pairs (Num a) b = false
are_pairs (Act a) b = false

-- the left pair where its first number is at least the right one's, else the right pair
abbrev pub first_greater : Leaf → Leaf → Leaf
first_greater (Pair a x) (Pair b y) = cond (int_le b a) (Pair a x) (Pair b y)
first_greater (Pair a x) (Num b) = Pair a x
first_greater (Pair a x) (Act b) = Pair a x
first_greater (Num a) b = Num a
first_greater (Act a) b = Act a

-- whether the left leaf is a pair and the right one a Num
abbrev pub is_pair_and_num : Leaf → Leaf → Bool
is_pair_and_num (Pair a x) (Num b) = true
is_pair_and_num (Pair a x) (Pair b y) = false
is_pair_and_num (Pair a x) (Act b) = false
is_pair_and_num (Num a) b = false
is_pair_and_num (Act a) b = false

-- the pair of a number and what is kept: the new value where the pair's first number is this one, else the old one
abbrev pub kept_of : ℕ → Leaf → Leaf → Leaf
kept_of number (Pair a x) (Num y) = Pair a (cond (int_eq a (pos number)) y x)
kept_of number (Pair a x) (Pair b y) = Pair a x
kept_of number (Pair a x) (Act b) = Pair a x
kept_of number (Num a) b = Num a
kept_of number (Act a) b = Act a

-- whether a leaf is a pair
abbrev pub is_pair : Leaf → Bool
is_pair (Num a) = false
is_pair (Pair a x) = true
is_pair (Act a) = false

-- the first number of a pair, the second one, and the second one as an action
abbrev pub first_of_pair : Leaf → Leaf
first_of_pair (Num a) = Num a
first_of_pair (Pair a x) = Num a
first_of_pair (Act a) = Act a

abbrev pub second_of_pair : Leaf → Leaf
second_of_pair (Num a) = Num a
second_of_pair (Pair a x) = Num x
second_of_pair (Act a) = Act a

abbrev pub second_as_act : Leaf → Leaf
second_as_act (Num a) = Num a
second_as_act (Pair a x) = Act (unsigned_abs x)
second_as_act (Act a) = Act a

-- whether a number is that of an action, 0 to 2^32 - 1
abbrev pub in_u32 : ℤ → Bool
in_u32 (pos n) = nat_lt n (2 ^ 32)
in_u32 (negsuc n) = false

-- whether a leaf is a pair whose second number is that of an action
abbrev pub is_pair_with_act : Leaf → Bool
is_pair_with_act (Num a) = false
is_pair_with_act (Pair a x) = in_u32 x
is_pair_with_act (Act a) = false

-- whether a leaf is an action
abbrev pub is_act : Leaf → Bool
is_act (Num a) = false
is_act (Pair a x) = false
is_act (Act a) = true

-- the number of an action
abbrev pub act_number : Leaf → Leaf
act_number (Num a) = Num a
act_number (Pair a x) = Pair a x
act_number (Act a) = Num (pos a)
