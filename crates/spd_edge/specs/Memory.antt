-- Sources and sinks in memory. Their calls are numbered from 0, and they say which numbers fail.
use Rattle.std.specs.Prelude.{ℕ, ◌+◌, ◌-◌, ◌^◌, List, ◌++◌, length, take, drop, min, Option, None, Some, Bool, false, ◌==◌, ◌&&◌, ◌||◌, nat_lt, nat_le, if◌then◌else◌}
use Rattle.std.specs.List.{list_any}
use Rattle.spd_edge.specs.Counts.{counted}

-- whether the call of this number is one of those that fail; past the last number, 2^64 - 1, none is
abbrev pub is_failing : List ℕ → Option ℕ → Bool
is_failing fail None = false
is_failing fail (Some number) = list_any (λ failing. failing == number) fail

-- the number of the call after the one of this number
abbrev pub number_after : Option ℕ → Option ℕ
number_after None = None
number_after (Some number) = if nat_lt number (2 ^ 64 - 1) then Some (number + 1) else None

-- a source in memory: its name, the bytes that it has left, how many it gives at most in one call,
-- which calls fail, the number of the next call, and the count of its faults
pub record Input : Type 0 where
  pub name : List ℕ
  pub left : List ℕ
  pub most : ℕ
  pub fail : List ℕ
  pub next : Option ℕ
  pub faults : ℕ

-- the bytes that the next call gives into a buffer of this length, where it doesn't fail
abbrev pub bytes_given : Input → ℕ → List ℕ
bytes_given input room = take (min input.most room) input.left

-- the source after a call that gave these bytes
abbrev pub after_giving : Input → List ℕ → Input
after_giving input bytes = record input { left = drop (length bytes) input.left; next = number_after input.next }

-- the source after a call that failed
abbrev pub after_no_read : Input → Input
after_no_read input = record input { next = number_after input.next; faults = counted input.faults 1 }

-- a sink in memory: its name, the bytes that it took, how many it takes in all, how many it takes
-- at most in one call, which calls fail, the number of the next call, and the count of its faults
pub record Output : Type 0 where
  pub name : List ℕ
  pub taken : List ℕ
  pub room : ℕ
  pub most : ℕ
  pub fail : List ℕ
  pub next : Option ℕ
  pub faults : ℕ

-- whether a sink has no room for a piece that isn't empty
abbrev pub is_out_of_room : Output → List ℕ → Bool
is_out_of_room output piece = nat_lt 0 (length piece) && nat_le output.room (length output.taken)

-- whether the next call fails with this piece
abbrev pub is_refusing : Output → List ℕ → Bool
is_refusing output piece = is_failing output.fail output.next || is_out_of_room output piece

-- the bytes of the piece that the next call takes, where it doesn't fail
abbrev pub bytes_taken : Output → List ℕ → List ℕ
bytes_taken output piece = take (min output.most (output.room - length output.taken)) piece

-- the sink after a call that took these bytes
abbrev pub after_taking : Output → List ℕ → Output
after_taking output bytes = record output { taken = output.taken ++ bytes; next = number_after output.next }

-- the sink after a call that failed
abbrev pub after_no_write : Output → Output
after_no_write output = record output { next = number_after output.next; faults = counted output.faults 1 }
