-- Completing what follows the values at the root of a diagram, one value after the other.
use Rattle.std.proofs.Common.{◌≡◌, ℕ, ◌+◌, ◌-◌, ◌<◌, ◌≤◌, Bool, true, false, List, [], ◌∷◌, ◌++◌, length, map, refl, sym, ◌∙◌, ap, subst, arith, add-one}
use Rattle.std.specs.Prelude.{nat_lt}
use Rattle.std.proofs.lemmas.Bool.Decides.{nat_tests}
use Rattle.std.proofs.lemmas.List.{length-map}
use Rattle.spd_cons_core.specs.declared.key.Entry.{Entry}
use Rattle.spd_model.proofs.CallerLemmas.Lists.{length-numbers_below}
use Rattle.spd_model.specs.Numbers.{numbers_below}
use Rattle.spd_model.specs.Reduced.{Diagram, subtrees_of, Node, nodes_after_all, node_number}
use Rattle.spd_nodes.specs.declared.leaf.Leaf.{Leaf}
use Rattle.spd_nodes.specs.Levels.{slots, slot_of, after, IsTestOf}
use Rattle.spd_nodes.specs.Trees.{Tree, leaf_eq, IsFrom, IsAt, tree_rank}
use Rattle.spd_nodes.specs.Shown.{Shown, IsSound, IsWhole}
use Rattle.spd_nodes.proofs.CallerLemmas.{IsFrom-lower}
use Rattle.spd_frozen.specs.Frozen.{diagrams}
use Rattle.spd_frozen.specs.inner.Kids.{yes_at, no_at, rest_after, kid_tree}
use Rattle.spd_frozen.specs.inner.Unique.{HasSubtreesAmong, AreAmong}
use Rattle.spd_frozen.specs.inner.Completed.{slot_diagram, HoldsNodes, kids_of, IsCompleted, IsNext}
use Rattle.spd_frozen.proofs.Places.{D}
use Rattle.spd_frozen.proofs.Reading.{length-diagrams_after}
use Rattle.spd_frozen.proofs.Completion.{nodes_after_all-is}
use Rattle.spd_frozen.proofs.TableLaws.{kids-more, chooses}
use Rattle.spd_frozen.proofs.TreeDiagrams.{tree_diagram}
use Rattle.spd_frozen.proofs.KidLaws.{some-tests, kid-fits, kid-rank, branch-diagram}
use Rattle.spd_frozen.proofs.FreezeLaws.{slot_diagram-is}

-- the diagram that follows a value at an entry's root, which tests the levels from l to below `end`
abbrev pub kid_diagram : Shown → Entry → ℕ → ℕ → ℕ → D
kid_diagram s r l end v = tree_diagram (slots s.sizes) 0 0 (kid_tree (end - l) l (s.tree r) v)

-- what follows the values before a test was completed; `rest` is what follows the others
pub record KidsDone (s : Shown) (r : Entry) (l end test : ℕ) (rest : Entry) (old : List (Node Leaf)) (refs : List Entry) (nodes : List (Node Leaf)) (kids : List ℕ) : Type 0 where
  pub from : l ≤ test
  pub up_to : test ≤ end
  pub known : s.knows rest ≡ true
  pub rest_is : s.tree rest ≡ rest_after (test - l) l (s.tree r)
  pub holds : HoldsNodes s refs nodes
  pub nodes_are : diagrams nodes ≡ nodes_after_all leaf_eq (diagrams old) (subtrees_of (map (kid_diagram s r l end) (numbers_below (test - l))))
  pub numbers : kids ≡ map (node_number leaf_eq (diagrams nodes)) (map (kid_diagram s r l end) (numbers_below (test - l)))

-- an entry that may be completed next
pub record IsKid (s : Shown) (r : Entry) (l end v : ℕ) (q : Entry) : Type 0 where
  pub whole : IsWhole s q
  pub rank : tree_rank (slots s.sizes) (s.tree q) < tree_rank (slots s.sizes) (s.tree r)
  pub diagram : slot_diagram s q ≡ kid_diagram s r l end v

module _ (s : Shown) (o : IsSound s) (r : Entry) (known : s.knows r ≡ true) (root : IsWhole s r) (l var value end : ℕ) (primed : Bool) (at : IsAt l (s.tree r)) (is : IsTestOf s.sizes l var primed value)
    (e : end ≡ after (slots s.sizes) l) where
  kid-is : (q : Entry) (v : ℕ) → s.knows q ≡ true → s.tree q ≡ kid_tree (end - l) l (s.tree r) v → l + v ≤ end → IsKid s r l end v q
  kid-is q v k t h =
      let fits = kid-fits s.sizes (s.tree r) l var value end primed (o.reduced r known) root at is e v h in
      let whole : IsWhole s q = subst (λ (x : Tree). IsFrom (slots s.sizes) 0 0 x) (sym t) (IsFrom-lower (slots s.sizes) 0 end (kid_tree (end - l) l (s.tree r) v) (omega arith) fits.1) in
      record {
        whole = whole;
        rank = subst (λ (x : Tree). tree_rank (slots s.sizes) x < tree_rank (slots s.sizes) (s.tree r)) (sym t) (kid-rank s.sizes (s.tree r) l var value end primed (o.reduced r known) root at is e v h);
        diagram = slot_diagram-is s o q (k, whole) ∙ ap (tree_diagram (slots s.sizes) 0 0) t;
      }

  pub kids-start : (nodes : List (Node Leaf)) (refs : List Entry) → HoldsNodes s refs nodes → KidsDone s r l end l r nodes refs nodes []
  kids-start nodes refs holds =
      let z : l - l ≡ 0 = omega arith in
      record {
        from = omega arith;
        up_to = omega (arith, some-tests s.sizes (s.tree r) l var value end primed (o.reduced r known) root at is e);
        known = known;
        rest_is = rw z refl;
        holds = holds;
        nodes_are = rw z refl;
        numbers = rw z refl;
      }

  module _ (test : ℕ) (rest : Entry) (old : List (Node Leaf)) (refs : List Entry) (nodes : List (Node Leaf)) (kids : List ℕ) (done : KidsDone s r l end test rest old refs nodes kids) where
    pub yes-kid : (y : Entry) → test < end → s.knows y ≡ true → s.tree y ≡ yes_at test (s.tree rest) → IsKid s r l end (test - l) y
    yes-kid y h k t =
        let from = done.from in
        let w : nat_lt (test - l) (end - l) ≡ true = grind (arith, nat_tests) in
        let z : l + (test - l) ≡ test = omega arith in
        let there : yes_at test (rest_after (test - l) l (s.tree r)) ≡ kid_tree (end - l) l (s.tree r) (test - l) = rw (w, z) refl in
        kid-is y (test - l) k (t ∙ ap (yes_at test) done.rest_is ∙ there) (omega arith)

    pub rest-kid : end ≤ test → IsKid s r l end (test - l) rest
    rest-kid h =
        let from = done.from in
        let up = done.up_to in
        let w : nat_lt (test - l) (end - l) ≡ false = grind (arith, nat_tests) in
        let there : rest_after (test - l) l (s.tree r) ≡ kid_tree (end - l) l (s.tree r) (test - l) = rw w refl in
        kid-is rest (test - l) done.known (done.rest_is ∙ there) (omega arith)

    pub kids-next : (y n : Entry) (new_refs : List Entry) (new : List (Node Leaf)) (number : ℕ) → test < end → IsKid s r l end (test - l) y → s.knows n ≡ true → s.tree n ≡ no_at test (s.tree rest)
        → IsCompleted s nodes new_refs new (slot_diagram s y) number → KidsDone s r l end (test + 1) n old new_refs new (kids ++ number ∷ [])
    kids-next y n new_refs new number h kid k t c =
        let from = done.from in
        let v : (test - l) + 1 ≡ (test + 1) - l = omega arith in
        let z : l + (test - l) ≡ test = omega arith in
        let step : rest_after ((test - l) + 1) l (s.tree r) ≡ no_at (l + (test - l)) (rest_after (test - l) l (s.tree r)) = rw add-one refl in
        let more = kids-more (kid_diagram s r l end) (test - l) (diagrams old) (diagrams nodes) (diagrams new) kids number (slot_diagram s y) done.nodes_are done.numbers kid.diagram c.nodes_are c.number_is in
        record {
          from = omega arith;
          up_to = omega arith;
          known = k;
          rest_is = t ∙ ap (no_at test) done.rest_is ∙ ap (λ (m : ℕ). no_at m (rest_after (test - l) l (s.tree r))) (sym z) ∙ sym step ∙ ap (λ (m : ℕ). rest_after m l (s.tree r)) v;
          holds = c.holds;
          nodes_are = more.0 ∙ ap (λ (m : ℕ). nodes_after_all leaf_eq (diagrams old) (subtrees_of (map (kid_diagram s r l end) (numbers_below m)))) v;
          numbers = more.1 ∙ ap (λ (m : ℕ). map (node_number leaf_eq (diagrams new)) (map (kid_diagram s r l end) (numbers_below m))) v;
        }

    pub kids-last : (old_refs new_refs : List Entry) (new : List (Node Leaf)) (number : ℕ) → end ≤ test → HoldsNodes s old_refs old → IsCompleted s nodes new_refs new (slot_diagram s rest) number
        → IsNext s old new_refs new (slot_diagram s r) (Node.branch (slot_of var primed) (kids ++ number ∷ []))
    kids-last old_refs new_refs new number h before c =
        let from = done.from in
        let up = done.up_to in
        let v : (test - l) + 1 ≡ end - l + 1 = omega arith in
        let K = kid_diagram s r l end in
        let all = map K (numbers_below (end - l + 1)) in
        let more = kids-more K (test - l) (diagrams old) (diagrams nodes) (diagrams new) kids number (slot_diagram s rest) done.nodes_are done.numbers (rest-kid h).diagram c.nodes_are c.number_is in
        let nodes_are : diagrams new ≡ nodes_after_all leaf_eq (diagrams old) (subtrees_of all) = more.0 ∙ ap (λ (m : ℕ). nodes_after_all leaf_eq (diagrams old) (subtrees_of (map K (numbers_below m)))) v in
        let numbers : kids ++ number ∷ [] ≡ map (node_number leaf_eq (diagrams new)) all = more.1 ∙ ap (λ (m : ℕ). map (node_number leaf_eq (diagrams new)) (map K (numbers_below m))) v in
        let some : 0 < length all = omega (arith, length-map (numbers_below (end - l + 1)) K, length-numbers_below (end - l + 1)) in
        let ch = chooses (slot_of var primed) (diagrams old) (diagrams new) (kids ++ number ∷ []) all before.closed nodes_are numbers some in
        let whole : slot_diagram s r ≡ Diagram.branch (slot_of var primed) (subtrees_of all) = slot_diagram-is s o r (known, root) ∙ branch-diagram s.sizes (s.tree r) l var value end primed (o.reduced r known) root at is e in
        let among : AreAmong (diagrams new) (subtrees_of all) = subst (λ (x : List D). AreAmong x (subtrees_of all)) (sym nodes_are) (nodes_after_all-is (diagrams old) (subtrees_of all)).there in
        let long : length (diagrams new) ≡ length new = length-diagrams_after [] new ∙ omega arith in
        record {
          holds = c.holds;
          nodes_are = nodes_are ∙ ap (λ (d : D). nodes_after_all leaf_eq (diagrams old) (kids_of d)) (sym whole);
          below = λ i d q. (let low = ch.below i d q in omega (arith, low, long));
          among = subst (HasSubtreesAmong (diagrams new)) (sym whole) among;
          stands = ch.read ∙ sym whole;
        }
