-- Reading a certificate from left to right, with the first refusal that is met.
use Rattle.std.specs.Prelude.{◌≡◌, ℕ, zero, suc, ◌+◌, ◌-◌, ◌==◌, ◌||◌, ◌&&◌, nat_le, not, Bool, if◌then◌else◌, List, [], ◌∷◌, ◌++◌, length, take, drop, position, slice_index, slice_index_or, bytes_eq, codes, decimal, Option, Some, None, Result, Ok, Err, ℤ, pos}
use Rattle.spd_model.specs.declared.process.Var.{Var}
use Rattle.spd_model.specs.declared.Why.{Why}
use Rattle.spd_model.specs.Process.{Process}
use Rattle.spd_model.specs.States.{sizes}
use Rattle.spd_model.specs.Reduced.{Node}
use Rattle.spd_model.specs.Turns.{Place}
use Rattle.spd_nodes.specs.declared.leaf.Leaf.{Leaf}
use Rattle.spd_nodes.specs.declared.leaf.Leaf.TheVariants.{Num}
use Rattle.spd_cert.specs.declared.cert.Cert.{Cert}
use Rattle.spd_cert.specs.declared.head.Head.{Head}
use Rattle.spd_cert.specs.declared.nodes.Part.{Part}
use Rattle.spd_cert.specs.declared.nodes.Part.TheVariants as part
use Rattle.spd_cert.specs.declared.refusal.CertRefusal.{CertRefusal}
use Rattle.spd_cert.specs.declared.refusal.CertRefusal.TheVariants as refusal
use Rattle.spd_cert.specs.declared.refusal.Uncert.{Uncert}
use Rattle.spd_cert.specs.declared.refusal.Uncert.TheVariants as uncert
use Rattle.spd_cert.specs.declared.ending.Ending.{Ending}
use Rattle.spd_cert.specs.declared.ending.Ending.TheVariants as endings
use Rattle.spd_cert.specs.declared.ending.Kind.{Kind}
use Rattle.spd_cert.specs.declared.ending.Kind.TheVariants.{Expected, Unknown, Order, Number, End}
use Rattle.spd_cert.specs.declared.ending.Stop.{Stop}
use Rattle.spd_cert.specs.declared.word.Ender.{Ender}
use Rattle.spd_cert.specs.declared.word.Ender.TheVariants.{Space, Line}
use Rattle.spd_cert.specs.declared.word.Word.{Word as StoredWord}
use Rattle.spd_cert.specs.Words.{is_whole, whole_in, number_below, distance_of, var_number, action_number, is_pair, pair_value, version_of, why_of, side_of, digest_of, part_word, leaf_of, follows}

-- one step after another, up to the first at which reading stops
infixl 10 ◌>>=◌
abbrev pub ◌>>=◌ : {A B : Type 0} → Result A Stop → (A → Result B Stop) → Result B Stop
(Ok x) >>= f = f x
(Err e) >>= f = Err e

-- reading stops where so many bytes of the file are left
abbrev pub stop : {A : Type 0} → Kind → ℕ → Result A Stop
stop kind left = Err (record { kind = kind; left = left })

-- what a function returned, seen by view, is what reading gives, unless memory ran out
abbrev pub Fails : {Y : Type 0} → Ending → Result Y Stop → Type 0
Fails endings.Memory read = Unit {0}
Fails (endings.Stopped s) read = read ≡ Err s

abbrev pub Gives : {X Y : Type 0} → (X → Y) → Result X Ending → Result Y Stop → Type 0
Gives view (Ok x) read = read ≡ Ok (view x)
Gives view (Err e) read = Fails e read

-- ---- words

-- A word: how many bytes of the file stand from its first one on, its bytes, what ends it, and what stands behind that.
pub record Word : Type 0 where
  pub left : ℕ
  pub text : List ℕ
  pub ender : Ender
  pub rest : List ℕ

abbrev pub seen : StoredWord → Word
seen w = record { left = w.left; text = w.text.now; ender = w.ender; rest = w.rest.now }

-- space and LF
abbrev pub is_break : ℕ → Bool
is_break byte = byte == 32 || byte == 10

abbrev pub ender_of : ℕ → Ender
ender_of byte = if byte == 10 then Line else Space

abbrev pub word_of : List ℕ → Option ℕ → Result Word Stop
word_of bytes None = stop End 0
word_of bytes (Some n) =
    Ok (record { left = length bytes; text = take n bytes; ender = ender_of (slice_index bytes n); rest = drop (n + 1) bytes })

-- the word that stands first, up to the first space or LF
unfoldable pub word_at : List ℕ → Result Word Stop
word_at bytes = word_of bytes (position is_break bytes)

-- what stands behind a word that another one follows: where a line ends, a word is missing
abbrev pub behind_space : Ender → List ℕ → Result (List ℕ) Stop
behind_space Space rest = Ok rest
behind_space Line rest = stop Expected (length rest + 1)

abbrev pub goes_on : Word → Result (List ℕ) Stop
goes_on w = behind_space w.ender w.rest

-- what stands behind the last word of a line: where a space ends it, the next word is one too many
abbrev pub behind_line : Ender → List ℕ → Result (List ℕ) Stop
behind_line Line rest = Ok rest
behind_line Space rest = word_at rest >>= λ more. stop Expected more.left

abbrev pub ends : Word → Result (List ℕ) Stop
ends w = behind_line w.ender w.rest

abbrev pub followed_by : Ender → Word → Result (List ℕ) Stop
followed_by Space w = goes_on w
followed_by Line w = ends w

-- an empty word is expected to be another one
abbrev pub refused : Word → Kind → Stop
refused w kind = record { kind = (if length w.text == 0 then Expected else kind); left = w.left }

-- the value of a word, where it has one
abbrev pub wanted : {A : Type 0} → Word → Kind → Option A → Result A Stop
wanted w kind (Some x) = Ok x
wanted w kind None = Err (refused w kind)

-- what stands behind this word of the grammar and a space
unfoldable pub keyword : List ℕ → List ℕ → Result (List ℕ) Stop
keyword text bytes = do
  w ← word_at bytes
  if bytes_eq w.text text then goes_on w else stop Expected w.left

-- the word behind this word of the grammar
abbrev pub field : List ℕ → List ℕ → Result Word Stop
field text bytes = keyword text bytes >>= word_at

-- the value of the last word of a line
abbrev pub last : {A : Type 0} → Kind → (List ℕ → Option A) → Word → Result (A × List ℕ) Stop
last kind value w = do
  x ← wanted w kind (value w.text)
  rest ← ends w
  Ok (x, rest)

-- a line of a word of the grammar and a value
unfoldable pub field_at : {A : Type 0} → List ℕ → Kind → (List ℕ → Option A) → List ℕ → Result (A × List ℕ) Stop
field_at text kind value bytes = field text bytes >>= last kind value

-- ---- the lines before the diagrams

unfoldable pub version_at : List ℕ → Result (ℕ × List ℕ) Stop
version_at bytes = keyword (codes "spd") bytes >>= field_at (codes "result") Expected version_of

-- version 2 has a line of the digest
unfoldable pub digest_at : ℕ → List ℕ → Result (Option (List ℕ) × List ℕ) Stop
digest_at version bytes =
    if version == 1 then Ok (None, bytes)
    else (field_at (codes "model") Expected digest_of bytes >>= λ x. Ok (Some x.0, x.1))

unfoldable pub why_at : List ℕ → Result (Why × List ℕ) Stop
why_at bytes = field_at (codes "status") Expected why_of bytes

unfoldable pub turn_at : List ℕ → Result (ℕ × List ℕ) Stop
turn_at bytes = field_at (codes "turn") Number (whole_in 0 1000000) bytes

unfoldable pub distance_at : List ℕ → List ℕ → Result (ℤ × List ℕ) Stop
distance_at text bytes = field_at text Number distance_of bytes

unfoldable pub head_at : List ℕ → Result (Head × List ℕ) Stop
head_at bytes = do
  version ← version_at bytes
  digest ← digest_at version.0 version.1
  why ← why_at digest.1
  turn ← turn_at why.1
  residual ← distance_at (codes "residual") turn.1
  Ok (record { version = version.0; digest = digest.0; why = why.0; turn = turn.0; residual = residual.0 }, residual.1)

-- ---- the place

-- the word `variable=value`, and what stands behind its space
unfoldable pub pair_at : Var → List ℕ → Result (ℕ × List ℕ) Stop
pair_at var bytes = do
  w ← word_at bytes
  if is_pair w.text
      then (wanted w Unknown (pair_value var w.text) >>= λ v. goes_on w >>= λ rest. Ok (v, rest))
      else stop Expected w.left

-- such words of all variables in order, behind those of the variables before, whose values are `state`
unfoldable pub state_at : List Var → List ℕ → List ℕ → Result (List ℕ × List ℕ) Stop
state_at [] state bytes = Ok (state, bytes)
state_at (var ∷ vars) state bytes = do
  v ← pair_at var bytes
  state_at vars (state ++ v.0 ∷ []) v.1

unfoldable pub place_at : Process → List ℕ → Result (Place × List ℕ) Stop
place_at m bytes = do
  pairs ← keyword (codes "at") bytes
  state ← state_at m.vars [] pairs
  w ← word_at state.1
  side ← wanted w Expected (side_of w.text)
  rest ← goes_on w
  action ← word_at rest >>= last Unknown (action_number m.actions)
  Ok (record { state = state.0; side = side; action = action.0 }, action.1)

-- ---- the diagrams

-- what is wrong with a word that says no leaf
abbrev pub leaf_kind : Part → Kind
leaf_kind part.Value = Number
leaf_kind part.Policy = Unknown

-- the end of a line of a leaf
unfoldable pub leaf_at : Process → Part → List ℕ → Result (Node Leaf × List ℕ) Stop
leaf_at m p bytes = do
  x ← word_at bytes >>= last (leaf_kind p) (leaf_of m p)
  Ok (Node.leaf x.0, x.1)

-- the kid of this number, if there is one, may follow a branch on a variable
abbrev pub kid_from : List (Node Leaf) → ℕ → ℕ → Option ℕ → Result ℕ Stop
kid_from nodes var left None = stop Order left
kid_from nodes var left (Some k) = if follows var (slice_index_or nodes k (Node.leaf (Num (pos 0)))) then Ok k else stop Order left

-- the number of a kid that a word says, of a branch on a variable behind these nodes
unfoldable pub kid_of : List (Node Leaf) → ℕ → Word → Result ℕ Stop
kid_of nodes var w = if is_whole w.text then kid_from nodes var w.left (number_below (length nodes) w.text) else Err (refused w Number)

unfoldable pub kid_at : List (Node Leaf) → ℕ → Ender → List ℕ → Result (ℕ × List ℕ) Stop
kid_at nodes var ender bytes = do
  w ← word_at bytes
  kid ← kid_of nodes var w
  rest ← followed_by ender w
  Ok (kid, rest)

-- what ends the word of a kid, behind which so many more stand
abbrev pub kid_ender : ℕ → Ender
kid_ender more = if more == 0 then Line else Space

-- the words of so many kids, behind those of `kids`
unfoldable pub kids_at : List (Node Leaf) → ℕ → ℕ → List ℕ → List ℕ → Result (List ℕ × List ℕ) Stop
kids_at nodes var zero kids bytes = Ok (kids, bytes)
kids_at nodes var (suc more) kids bytes = do
  kid ← kid_at nodes var (kid_ender more) bytes
  kids_at nodes var more (kids ++ kid.0 ∷ []) kid.1

-- the end of a line of a branch
unfoldable pub branch_at : Process → List (Node Leaf) → List ℕ → Result (Node Leaf × List ℕ) Stop
branch_at m nodes bytes = do
  w ← word_at bytes
  var ← wanted w Unknown (var_number m.vars w.text)
  rest ← goes_on w
  kids ← kids_at nodes var (slice_index (sizes m) var) [] rest
  Ok (Node.branch var kids.0, kids.1)

abbrev pub node_of : Process → Part → List (Node Leaf) → Word → Result (Node Leaf × List ℕ) Stop
node_of m p nodes w =
    if bytes_eq w.text (codes "leaf") then goes_on w >>= leaf_at m p
    else (if bytes_eq w.text (codes "branch") then goes_on w >>= branch_at m nodes else stop Expected w.left)

-- the line of the node behind these nodes
unfoldable pub node_at : Process → Part → List (Node Leaf) → List ℕ → Result (Node Leaf × List ℕ) Stop
node_at m p nodes bytes = field (decimal (length nodes)) bytes >>= node_of m p nodes

-- the lines of so many nodes, behind those of `nodes`
unfoldable pub nodes_at : Process → Part → ℕ → List (Node Leaf) → List ℕ → Result (List (Node Leaf) × List ℕ) Stop
nodes_at m p zero nodes bytes = Ok (nodes, bytes)
nodes_at m p (suc more) nodes bytes = do
  node ← node_at m p nodes bytes
  nodes_at m p more (nodes ++ node.0 ∷ []) node.1

-- the lines of a diagram
unfoldable pub list_at : Process → Part → List ℕ → Result (List (Node Leaf) × List ℕ) Stop
list_at m p bytes = do
  count ← field_at (part_word p) Number (whole_in 1 999999999) bytes
  nodes_at m p count.0 [] count.1

-- ---- the whole

-- the last line, behind which nothing stands
unfoldable pub end_at : List ℕ → Result (List ℕ) Stop
end_at bytes = do
  w ← word_at bytes
  if bytes_eq w.text (codes "end")
      then (ends w >>= λ rest. if length rest == 0 then Ok [] else stop End (length rest))
      else stop Expected w.left

unfoldable pub cert_at : Process → List ℕ → Result Cert Stop
cert_at m bytes = do
  head ← head_at bytes
  place ← place_at m head.1
  error ← distance_at (codes "error") place.1
  value ← list_at m part.Value error.1
  policy ← list_at m part.Policy value.1
  nothing ← end_at policy.1
  Ok (record {
    version = head.0.version;
    digest = head.0.digest;
    why = head.0.why;
    turn = head.0.turn;
    residual = head.0.residual;
    place = place.0.state;
    side = place.0.side;
    action = place.0.action;
    error = error.0;
    value = value.0;
    policy = policy.0;
  })

-- a byte other than LF and 0x20 to 0x7E
abbrev pub is_bad : ℕ → Bool
is_bad byte = not (byte == 10 || (nat_le 32 byte && nat_le byte 126))

-- a refusal in a file of so many bytes
abbrev pub placed : ℕ → Stop → CertRefusal
placed len s = elim s.kind [
  | Expected ↦ refusal.Expected (len - s.left)
  | Unknown ↦ refusal.Unknown (len - s.left)
  | Order ↦ refusal.Order (len - s.left)
  | Number ↦ refusal.Number (len - s.left)
  | End ↦ refusal.End (len - s.left)
]

abbrev pub judged_from : Process → List ℕ → Option ℕ → Result Cert CertRefusal
judged_from m file (Some at) = Err (refusal.BadByte at)
judged_from m file None = elim (cert_at m file) [ Ok c ↦ Ok c | Err s ↦ Err (placed (length file) s) ]

-- The certificate that a file is, or the first place at which it is none: a bad byte wherever it stands, and else where reading stops.
abbrev pub judged : Process → List ℕ → Result Cert CertRefusal
judged m file = judged_from m file (position is_bad file)

-- what a function returned is what is judged, unless memory ran out
abbrev pub Tells : Result Cert Uncert → Result Cert CertRefusal → Type 0
Tells (Ok c) judgement = judgement ≡ Ok c
Tells (Err uncert.Memory) judgement = Unit {0}
Tells (Err (uncert.Refused r)) judgement = judgement ≡ Err r
