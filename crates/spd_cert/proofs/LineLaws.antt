-- Lines as their words one after the other, and what stands behind them.
use Rattle.std.proofs.Common.{◌≡◌, ℕ, ◌+◌, List, [], ◌∷◌, ◌++◌, map, codes, decimal, refl, ap, ◌∙◌, append_assoc}
use Rattle.std.specs.Prelude.{flat_map}
use Rattle.std.specs.List.{join_with_byte, enumerate_from}
use Rattle.spd_model.specs.Reduced.{Node}
use Rattle.spd_model.specs.ResultText.{line, node_line}

-- words parted by one space and ended by LF, and what stands behind
abbrev pub words_text : List (List ℕ) → List ℕ → List ℕ
words_text [] rest = 10 ∷ rest
words_text (w ∷ []) rest = w ++ 10 ∷ rest
words_text (w ∷ v ∷ ws) rest = w ++ 32 ∷ words_text (v ∷ ws) rest

pub line_is : (ws : List (List ℕ)) (rest : List ℕ) → line ws ++ rest ≡ words_text ws rest
line_is [] rest = refl
line_is (w ∷ []) rest = append_assoc w (10 ∷ []) rest
line_is (w ∷ v ∷ ws) rest =
    let tail = join_with_byte 32 (v ∷ ws) in
    ap (λ (t : List ℕ). t ++ rest) (append_assoc w (32 ∷ tail) (10 ∷ [])) ∙ append_assoc w (32 ∷ (tail ++ 10 ∷ [])) rest ∙ ap (λ (t : List ℕ). w ++ 32 ∷ t) (line_is (v ∷ ws) rest)

-- words each of which a space ends, and what stands behind
abbrev pub spaced : List (List ℕ) → List ℕ → List ℕ
spaced [] rest = rest
spaced (w ∷ ws) rest = w ++ 32 ∷ spaced ws rest

pub words_front : (ws : List (List ℕ)) (a : List ℕ) (bs : List (List ℕ)) (rest : List ℕ) → words_text (ws ++ a ∷ bs) rest ≡ spaced ws (words_text (a ∷ bs) rest)
words_front [] a bs rest = refl
words_front (w ∷ []) a bs rest = refl
words_front (w ∷ v ∷ vs) a bs rest = ap (λ (t : List ℕ). w ++ 32 ∷ t) (words_front (v ∷ vs) a bs rest)

-- ---- the lines of nodes

module _ {X : Type 0} (text : X → List ℕ) (name : ℕ → List ℕ) where
  abbrev pub node_words : ℕ → Node X → List (List ℕ)
  node_words i (Node.leaf x) = decimal i ∷ codes "leaf" ∷ text x ∷ []
  node_words i (Node.branch var kids) = decimal i ∷ codes "branch" ∷ name var ∷ map decimal kids

  node_line_is : (i : ℕ) (node : Node X) → node_line text name i node ≡ line (node_words i node)
  node_line_is i (Node.leaf x) = refl
  node_line_is i (Node.branch var kids) = refl

  -- the lines of nodes, the first of which has this number, and what stands behind
  abbrev pub nodes_from : ℕ → List (Node X) → List ℕ → List ℕ
  nodes_from i [] rest = rest
  nodes_from i (node ∷ nodes) rest = words_text (node_words i node) (nodes_from (i + 1) nodes rest)

  pub nodes_is : (i : ℕ) (nodes : List (Node X)) (rest : List ℕ) → flat_map (λ x. node_line text name x.0 x.1) (enumerate_from i nodes) ++ rest ≡ nodes_from i nodes rest
  nodes_is i [] rest = refl
  nodes_is i (node ∷ nodes) rest =
      let more = flat_map (λ x. node_line text name x.0 x.1) (enumerate_from (i + 1) nodes) in
      append_assoc (node_line text name i node) more rest
      ∙ ap (λ (t : List ℕ). node_line text name i node ++ t) (nodes_is (i + 1) nodes rest)
      ∙ ap (λ (t : List ℕ). t ++ nodes_from (i + 1) nodes rest) (node_line_is i node)
      ∙ line_is (node_words i node) (nodes_from (i + 1) nodes rest)
