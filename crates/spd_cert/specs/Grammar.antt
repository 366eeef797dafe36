-- The text of a certificate: which bytes are a certificate of a model.
use Rattle.std.specs.Prelude.{ℕ, ◌≡◌, not, true, List, [], ◌∷◌, ◌++◌, length, position, codes, decimal, Option, Some, None, ℤ}
use Rattle.std.specs.List.{list_all}
use Rattle.hex.specs.Hex.{IsBytes, encode_lower}
use Rattle.spd_model.specs.Process.{Process}
use Rattle.spd_model.specs.Reduced.{Node}
use Rattle.spd_model.specs.Turns.{Place}
use Rattle.spd_model.specs.ResultText.{line, why_text, action_name, var_name, place_line, nodes_text}
use Rattle.spd_nodes.specs.declared.leaf.Leaf.{Leaf}
use Rattle.spd_nodes.specs.declared.leaf.Leaf.TheVariants.{Num, Pair, Act}
use Rattle.spd_cert.specs.declared.cert.Cert.{Cert}
use Rattle.spd_cert.specs.declared.nodes.Part.{Part}
use Rattle.spd_cert.specs.declared.nodes.Part.TheVariants.{Value, Policy}
use Rattle.spd_cert.specs.Words.{units_of}
use Rattle.spd_cert.specs.Certificates.{FitsModel}
use Rattle.spd_cert.specs.Reading.{is_break, is_bad}

-- a word has no space and no LF
abbrev pub IsWord : List ℕ → Type 0
IsWord word = list_all (λ c. not (is_break c)) word ≡ true

-- a word is a decimal of so many units of 10^-9
abbrev pub Says : List ℕ → ℤ → Type 0
Says word x = IsWord word × (units_of word ≡ Some x)

-- a word is the leaf of a diagram: any decimal of a value's number, and the name of a policy's action
abbrev pub SaysLeaf : Process → Part → List ℕ → Leaf → Type 0
SaysLeaf m Value word (Num x) = Says word x
SaysLeaf m Value word (Pair x y) = ⊥
SaysLeaf m Value word (Act a) = ⊥
SaysLeaf m Policy word (Num x) = ⊥
SaysLeaf m Policy word (Pair x y) = ⊥
SaysLeaf m Policy word (Act a) = word ≡ action_name m a

-- nodes whose leaves are words, and what they say
abbrev pub SaysNode : Process → Part → Node (List ℕ) → Node Leaf → Type 0
SaysNode m p (Node.leaf word) (Node.leaf x) = SaysLeaf m p word x
SaysNode m p (Node.leaf word) (Node.branch var kids) = ⊥
SaysNode m p (Node.branch var kids) (Node.leaf x) = ⊥
SaysNode m p (Node.branch var kids) (Node.branch w others) = (var ≡ w) × (kids ≡ others)

abbrev pub SayNodes : Process → Part → List (Node (List ℕ)) → List (Node Leaf) → Type 0
SayNodes m p [] [] = Unit {0}
SayNodes m p [] (node ∷ nodes) = ⊥
SayNodes m p (word ∷ words) [] = ⊥
SayNodes m p (word ∷ words) (node ∷ nodes) = SaysNode m p word node × SayNodes m p words nodes

-- the words of a certificate that may be spelled in more than one way: its decimals
pub record Spelling : Type 0 where
  pub residual : List ℕ
  pub error : List ℕ
  pub value : List (Node (List ℕ))
  pub policy : List (Node (List ℕ))

-- they say what the certificate does
pub record SaysAll (m : Process) (w : Spelling) (c : Cert) : Type 0 where
  pub residual : Says w.residual c.residual
  pub error : Says w.error c.error
  pub value : SayNodes m Value w.value c.value
  pub policy : SayNodes m Policy w.policy c.policy

-- the lines of the version, and of the digest in version 2
abbrev pub version_lines : Option (List ℕ) → List ℕ
version_lines None = line (codes "spd" ∷ codes "result" ∷ codes "1" ∷ [])
version_lines (Some digest) = line (codes "spd" ∷ codes "result" ∷ codes "2" ∷ []) ++ line (codes "model" ∷ encode_lower digest ∷ [])

abbrev pub place_of : Cert → Place
place_of c = record { state = c.place; side = c.side; action = c.action }

-- The text of a certificate of these words. A line's words are parted by one space, and it ends in LF.
abbrev pub cert_text : Process → Cert → Spelling → List ℕ
cert_text m c w =
    version_lines c.digest
    ++ line (codes "status" ∷ why_text c.why ∷ [])
    ++ line (codes "turn" ∷ decimal c.turn ∷ [])
    ++ line (codes "residual" ∷ w.residual ∷ [])
    ++ place_line m (place_of c)
    ++ line (codes "error" ∷ w.error ∷ [])
    ++ nodes_text (λ word. word) (var_name m) (codes "value") w.value
    ++ nodes_text (λ word. word) (var_name m) (codes "policy") w.policy
    ++ line (codes "end" ∷ [])

-- The bytes are this certificate of a model: its text in one of its spellings, all bytes LF or 0x20 to 0x7E.
pub record IsWritten (m : Process) (bytes : List ℕ) (c : Cert) : Type 0 where
  pub fits : FitsModel m c
  pub words : Spelling
  pub say : SaysAll m words c
  pub spelled : bytes ≡ cert_text m c words
  pub clean : position is_bad bytes ≡ None

-- the bytes begin with the lines of version 2 and of this digest
pub record NamesModel (bytes digest : List ℕ) : Type 0 where
  pub rest : List ℕ
  pub begins : bytes ≡ version_lines (Some digest) ++ rest
  pub long : length digest ≡ 32
  pub digits : IsBytes digest
