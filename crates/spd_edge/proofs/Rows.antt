-- The definitions, computed by hand on small values.
use Rattle.std.proofs.Common.{◌≡◌, ℕ, ◌-◌, ◌^◌, List, [], ◌∷◌, None, Some, true, false, refl, lit≤}
use Rattle.spd_edge.specs.Counts.{Rose}
use Rattle.spd_edge.specs.Told.{Gave, Took, TookFront}
use Rattle.spd_edge.specs.Names.{is_among, updated}
use Rattle.spd_edge.specs.MemoryPlace.{Shelf, closed_on, counting, opened_on, refused_on}
use Rattle.spd_edge.specs.declared.outside.Stage.TheVariants as Stage
use Rattle.spd_edge.specs.Memory.{Input, Output, is_failing, number_after, bytes_given, after_giving, is_refusing, bytes_taken, after_taking}

-- a count that rises, and one that stands at its last value
rose : Rose 0 1
rose = lit≤ tt

rose_at_last : Rose (2 ^ 64 - 1) (2 ^ 64 - 1)
rose_at_last = lit≤ tt

-- of the bytes 1, 2, 3 the first two are read
gave : Gave (Some (1 ∷ 2 ∷ 3 ∷ [])) (1 ∷ 2 ∷ []) (Some (3 ∷ []))
gave = refl

gave_untold : Gave None (1 ∷ 2 ∷ []) None
gave_untold = refl

-- after 1, 2 the byte 3 is written
took : Took (Some (1 ∷ 2 ∷ [])) (3 ∷ []) (Some (1 ∷ 2 ∷ 3 ∷ []))
took = refl

-- of the bytes 2, 3 the first is written
took_front : TookFront (Some (1 ∷ [])) (2 ∷ 3 ∷ []) (Some (1 ∷ 2 ∷ []))
took_front = (1, lit≤ tt, refl)

-- five bytes, two a call, of which the third call fails
five : Input
five = record { name = []; left = 1 ∷ 2 ∷ 3 ∷ 4 ∷ 5 ∷ []; most = 2; fail = 2 ∷ []; next = Some 0; faults = 0 }

first_read : bytes_given five 4 ≡ 1 ∷ 2 ∷ []
unfolding five
first_read = refl

short_read : bytes_given five 1 ≡ 1 ∷ []
unfolding five
short_read = refl

second_call : (after_giving five (1 ∷ 2 ∷ [])).next ≡ Some 1
unfolding five
second_call = refl

third_call : is_failing (2 ∷ []) (Some 2) ≡ true
third_call = refl

fourth_call : is_failing (2 ∷ []) (Some 3) ≡ false
fourth_call = refl

last_call : number_after (Some (2 ^ 64 - 1)) ≡ None
last_call = refl

-- room for three bytes, of which two were taken
narrow : Output
narrow = record { name = []; taken = 1 ∷ 2 ∷ []; room = 3; most = 4; fail = []; next = Some 1; faults = 0 }

one_more : bytes_taken narrow (3 ∷ 4 ∷ []) ≡ 3 ∷ []
unfolding narrow
one_more = refl

full : is_refusing (after_taking narrow (3 ∷ [])) (4 ∷ []) ≡ true
unfolding narrow
full = refl

empty_piece : is_refusing (after_taking narrow (3 ∷ [])) [] ≡ false
unfolding narrow
empty_piece = refl

-- whether a name is among two
among : is_among ((97 ∷ []) ∷ (98 ∷ []) ∷ []) (98 ∷ []) ≡ true
among = refl

-- one name's value is another
abbrev a : List ℕ
a = 97 ∷ []

abbrev b : List ℕ
b = 98 ∷ []

abbrev c : List ℕ
c = 99 ∷ []

changed : updated {X = ℕ} (λ _. 0) a 5 a ≡ 5
changed = refl

unchanged : updated {X = ℕ} (λ _. 0) a 5 b ≡ 0
unchanged = refl

-- under a stands 3, whose count is 2; all other names share the count 1
one_put : Shelf ℕ
one_put = record { put = updated (λ _. None) a (Some 3); closed = λ _. None; stage = λ _. None; faults = updated (λ _. 1) a 2 }

own_count : (counting one_put a 4).faults a ≡ 6
unfolding one_put
own_count = refl

count_of_others : (counting one_put a 4).faults b ≡ 1
unfolding one_put
count_of_others = refl

shared_count : (counting one_put b 4).faults c ≡ 5
unfolding one_put
shared_count = refl

count_not_shared : (counting one_put b 4).faults a ≡ 2
unfolding one_put
count_not_shared = refl

opened : (opened_on one_put a).stage a ≡ Some Stage.Open
unfolding one_put
opened = refl

refused : (refused_on one_put b).stage b ≡ Some Stage.Unopened
unfolding one_put
refused = refl

refused_count : (refused_on one_put b).faults b ≡ 2
unfolding one_put
refused_count = refl

closed : (closed_on one_put a 7 1).closed a ≡ Some 7
unfolding one_put
closed = refl

closed_count : (closed_on one_put a 7 1).faults a ≡ 3
unfolding one_put
closed_count = refl
