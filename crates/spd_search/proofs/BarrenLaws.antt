-- What is kept of entries below which nothing was found.
use Rattle.std.proofs.Common.{◌≡◌, ℕ, Bool, inl, inr, Option, None, List, sym, ap, ◌∙◌}
use Rattle.std.specs.Option.{option_or}
use Rattle.spd_cons_core.specs.declared.key.Entry.{Entry}
use Rattle.spd_nodes.specs.declared.leaf.Leaf.{Leaf}
use Rattle.spd_nodes.specs.Trees.{Tree, Tests}
use Rattle.spd_nodes.specs.Shown.{Shown}
use Rattle.spd_search.specs.declared.looking.Turn.{Turn}
use Rattle.spd_search.specs.inner.Looking.{leaf_in, leaf_under, turn_of, by_turn}
use Rattle.spd_search.specs.inner.Barren.{AreBarren, NotesBarren}

pub barren-notes : (look : Tree → Option Leaf) (s : Shown) (old new : List Entry) (r : Entry) (found : Option Leaf) → AreBarren look s old → NotesBarren old new r found → found ≡ look (s.tree r) → AreBarren look s new
barren-notes look s old new r found b n e = record {
  none = λ q c. elim (n.only q c) [ inl i ↦ b.none q i | inr i ↦ ap (λ (x : Entry). look (s.tree x)) i.0 ∙ sym e ∙ i.1 ];
}

-- nothing on one side, so what the other side has
pub in-test : (wants : Leaf → Bool) (t y n : Tree) (l : ℕ) (a b : Option Leaf) → t ≡ Tests l y n → a ≡ leaf_in wants y → a ≡ None → b ≡ leaf_in wants n → b ≡ leaf_in wants t
in-test wants t y n l a b e p q r = r ∙ ap (λ (o : Option Leaf). option_or o (leaf_in wants n)) (sym q ∙ p) ∙ ap (leaf_in wants) (sym e)

-- what is below a test, by where it leads
pub under-test : (sizes : List ℕ) (wants : Leaf → Bool) (first : List ℕ) (t y n : Tree) (l : ℕ) (turn : Turn) (found : Option Leaf) → t ≡ Tests l y n → turn_of sizes first l ≡ turn
    → found ≡ by_turn turn (option_or (leaf_in wants y) (leaf_in wants n)) (leaf_under sizes wants first y) (leaf_under sizes wants first n) → found ≡ leaf_under sizes wants first t
under-test sizes wants first t y n l turn found e i f =
    f
    ∙ ap (λ (u : Turn). by_turn u (option_or (leaf_in wants y) (leaf_in wants n)) (leaf_under sizes wants first y) (leaf_under sizes wants first n)) (sym i)
    ∙ ap (leaf_under sizes wants first) (sym e)
