-- The ten commands: their words, the operands and the options that each takes.
use Rattle.std.specs.Prelude.{ℕ, ◌%◌, ◌==◌, nat_lt, Bool, true, false, if◌then◌else◌, List, Option, Some, None, codes, bytes_eq}
use Rattle.spd_words.specs.declared.verb.Verb.{Verb}
use Rattle.spd_words.specs.declared.verb.Verb.TheVariants.{Solve, Ask, Check, Plain, Gen, Ring, Upgrade, Horizon, Evaluate, Bounded}
use Rattle.spd_words.specs.declared.verb.Key.{Key}
use Rattle.spd_words.specs.declared.verb.Key.TheVariants.{Workers, Nodes, Turns, Span, Memo, Steps, Rounds, Sweeps}
use Rattle.spd_words.specs.declared.verb.Role.{Role}
use Rattle.spd_words.specs.declared.verb.Role.TheVariants.{Input, Output, Size}

-- the command of this word
unfoldable pub verb_named : List ℕ → Option Verb
verb_named word =
    if bytes_eq word (codes "solve") then Some Solve
    else (if bytes_eq word (codes "ask") then Some Ask
    else (if bytes_eq word (codes "check") then Some Check
    else (if bytes_eq word (codes "plain") then Some Plain
    else (if bytes_eq word (codes "gen") then Some Gen
    else (if bytes_eq word (codes "ring") then Some Ring
    else (if bytes_eq word (codes "upgrade") then Some Upgrade
    else (if bytes_eq word (codes "horizon") then Some Horizon
    else (if bytes_eq word (codes "evaluate") then Some Evaluate
    else (if bytes_eq word (codes "bounded") then Some Bounded
    else None)))))))))

-- the option of this word
unfoldable pub key_named : List ℕ → Option Key
key_named word =
    if bytes_eq word (codes "--workers") then Some Workers
    else (if bytes_eq word (codes "--nodes") then Some Nodes
    else (if bytes_eq word (codes "--turns") then Some Turns
    else (if bytes_eq word (codes "--span") then Some Span
    else (if bytes_eq word (codes "--memo") then Some Memo
    else (if bytes_eq word (codes "--steps") then Some Steps
    else (if bytes_eq word (codes "--rounds") then Some Rounds
    else (if bytes_eq word (codes "--sweeps") then Some Sweeps
    else None)))))))

-- ---- options

-- an option of a run: workers, nodes, turns, span, memo
abbrev pub is_of_run : Key → Bool
is_of_run Steps = false
is_of_run Rounds = false
is_of_run Sweeps = false
is_of_run key = true

-- an option of a store of nodes and its memo
abbrev pub is_of_store : Key → Bool
is_of_store Nodes = true
is_of_store Memo = true
is_of_store key = false

-- an option of a run over tables
abbrev pub is_of_tables : Key → Bool
is_of_tables Turns = true
is_of_tables Span = true
is_of_tables key = false

abbrev pub is_of_horizon : Key → Bool
is_of_horizon Steps = true
is_of_horizon key = is_of_store key

abbrev pub is_of_bounded : Key → Bool
is_of_bounded Turns = true
is_of_bounded key = is_of_store key

abbrev pub is_of_evaluate : Key → Bool
is_of_evaluate Rounds = true
is_of_evaluate Sweeps = true
is_of_evaluate key = is_of_bounded key

-- the command takes the option
abbrev pub takes : Verb → Key → Bool
takes Solve key = is_of_run key
takes Ask key = is_of_run key
takes Check key = is_of_store key
takes Plain key = is_of_tables key
takes Gen key = false
takes Ring key = is_of_run key
takes Upgrade key = is_of_store key
takes Horizon key = is_of_horizon key
takes Evaluate key = is_of_evaluate key
takes Bounded key = is_of_bounded key

-- ---- operands

-- FILE alone
abbrev pub one_input : ℕ → Option Role
one_input n = if nat_lt n 1 then Some Input else None

-- FILE, and CERT or UPPER
abbrev pub two_inputs : ℕ → Option Role
two_inputs n = if nat_lt n 2 then Some Input else None

-- N alone
abbrev pub one_size : ℕ → Option Role
one_size n = if nat_lt n 1 then Some Size else None

-- FILE, and 64 pairs of QUERIES and ANSWERS
abbrev pub pairs_of_files : ℕ → Option Role
pairs_of_files n =
    if n == 0 then Some Input
    else (if nat_lt 128 n then None
    else (if n % 2 == 1 then Some Input else Some Output))

-- what an operand is behind so many others, or nothing where it is one too many
abbrev pub role_of : Verb → ℕ → Option Role
role_of Solve n = one_input n
role_of Ask n = pairs_of_files n
role_of Check n = two_inputs n
role_of Plain n = one_input n
role_of Gen n = one_size n
role_of Ring n = one_size n
role_of Upgrade n = two_inputs n
role_of Horizon n = one_input n
role_of Evaluate n = two_inputs n
role_of Bounded n = two_inputs n

-- it is this role
abbrev pub is_role : Option Role → Role → Bool
is_role (Some Input) Input = true
is_role (Some Output) Output = true
is_role (Some Size) Size = true
is_role other role = false
