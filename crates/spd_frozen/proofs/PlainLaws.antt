-- A list over the variables, with its branches on the slots of present values: it is a diagram, fits the slots and has the same leaves.
use Rattle.std.proofs.Common.{◌≡◌, ℕ, zero, suc, ◌+◌, ◌-◌, ◌*◌, ◌<◌, List, [], ◌∷◌, ◌++◌, length, map, get_or, Some, refl, sym, ◌∙◌, ap, subst, arith, pos}
use Rattle.std.specs.Prelude.{slice_get, slice_index}
use Rattle.std.proofs.lemmas.List.{length-map, get_or-map, get_or_default, map-append}
use Rattle.std.proofs.lemmas.List.Elements.{All-map, All-weaker}
use Rattle.std.proofs.lemmas.Option.{slice_get-get_or, slice_get_within}
use Rattle.std.proofs.lemmas.Simd.{map-map}
use Rattle.spd_model.specs.Reduced.{Diagram, Subtrees, none, also, subtrees_of, Node}
use Rattle.spd_model.specs.States.{IsState}
use Rattle.spd_nodes.specs.declared.leaf.Leaf.{Leaf}
use Rattle.spd_nodes.specs.declared.leaf.Leaf.TheVariants.{Num}
use Rattle.spd_nodes.specs.Levels.{slots}
use Rattle.spd_nodes.specs.States.{point}
use Rattle.spd_frozen.specs.Fits.{FitsNode, FitsSizes}
use Rattle.spd_frozen.specs.Frozen.{IsAfter, IsNodeAt, IsFrozen, diagram_of, diagrams_after, diagrams, reached, reached_among, leaf_at}
use Rattle.spd_frozen.specs.Mixed.{on_plain_slot}
use Rattle.spd_frozen.proofs.MovedLaws.{changed, changed_all, changed_all-list, map-same}
use Rattle.spd_frozen.proofs.MixedLaws.{plain_slot, same_leaf}
use Rattle.spd_frozen.proofs.Places.{D}
use Rattle.spd_frozen.proofs.Reading.{nothing, kid_at}

plain-at : (nodes : List (Node Leaf)) (k : ℕ) (m : Node Leaf) → k < length nodes → get_or nodes k m ≡ m → slice_get (map on_plain_slot nodes) k ≡ Some (on_plain_slot m)
plain-at nodes k m h e =
    slice_get-get_or (map on_plain_slot nodes) k (on_plain_slot m) (omega (arith, length-map nodes on_plain_slot))
    ∙ ap Some (get_or-map on_plain_slot nodes k m (on_plain_slot m) h ∙ ap on_plain_slot e)

plain-after : (v : ℕ) (m : Node Leaf) → IsAfter v (Some m) → IsAfter (plain_slot v) (Some (on_plain_slot m))
plain-after v (Node.leaf x) h = tt
plain-after v (Node.branch w kids) h = omega arith

plain-node-at : (nodes : List (Node Leaf)) (i : ℕ) (n : Node Leaf) → i < length nodes → IsNodeAt nodes i n → IsNodeAt (map on_plain_slot nodes) i (on_plain_slot n)
plain-node-at nodes i (Node.leaf x) low h = tt
plain-node-at nodes i (Node.branch v kids) low h = (
  h.0,
  λ j d q. (let both = h.1 j d q in
      let k = get_or kids j d in
      let within : k < length nodes = omega (arith, both.0) in
      let zero' : Node Leaf = Node.leaf (Num (pos 0)) in
      let m = get_or nodes k zero' in
      let here : get_or nodes k m ≡ m = get_or_default nodes k m zero' within in
      (both.0, subst (IsAfter (plain_slot v)) (sym (plain-at nodes k m within here)) (plain-after v m (subst (IsAfter v) (slice_get-get_or nodes k zero' within) both.1)))),
)

pub plain-frozen : (nodes : List (Node Leaf)) → IsFrozen nodes → IsFrozen (map on_plain_slot nodes)
plain-frozen nodes h = record {
  some = omega (arith, h.some, length-map nodes on_plain_slot);
  each = λ i n e. (
      let within : i < length nodes = omega (arith, slice_get_within (map on_plain_slot nodes) i n e, length-map nodes on_plain_slot) in
      let zero' : Node Leaf = Node.leaf (Num (pos 0)) in
      let m = get_or nodes i zero' in
      let here : get_or nodes i m ≡ m = get_or_default nodes i m zero' within in
      let same : n ≡ on_plain_slot m = cc (plain-at nodes i m within here) in
      subst (IsNodeAt (map on_plain_slot nodes) i) (sym same) (plain-node-at nodes i m within (h.each i m (slice_get-get_or nodes i zero' within)))
      );
}

slot-size : (ds : List ℕ) (var : ℕ) → var < length ds → (2 * var + 1 < length (slots ds)) × (get_or (slots ds) (2 * var + 1) 0 ≡ get_or ds var 0)
slot-size [] var h = absurd (omega arith)
slot-size (d ∷ ds) zero h = (omega arith, refl)
slot-size (d ∷ ds) (suc var) h =
    let e : 2 * suc var + 1 ≡ suc (suc (2 * var + 1)) = omega arith in
    let i = slot-size ds var (omega arith) in
    rw e (omega (arith, i.0), i.1)

plain-fits-node : (sizes : List ℕ) (n : Node Leaf) → FitsNode sizes n → FitsNode (slots sizes) (on_plain_slot n)
plain-fits-node sizes (Node.leaf x) h = tt
plain-fits-node sizes (Node.branch v kids) h = let s = slot-size sizes v h.0 in (s.0, h.1 ∙ sym s.1)

pub plain-fits : (sizes : List ℕ) (nodes : List (Node Leaf)) → FitsSizes sizes nodes → FitsSizes (slots sizes) (map on_plain_slot nodes)
plain-fits sizes nodes h =
    All-map (FitsNode (slots sizes)) on_plain_slot nodes (All-weaker (FitsNode sizes) (λ n. FitsNode (slots sizes) (on_plain_slot n)) (plain-fits-node sizes) nodes h)

-- the diagrams of the nodes
get-changed : (before : List D) (k : ℕ) → get_or (map (changed same_leaf plain_slot) before) k nothing ≡ changed same_leaf plain_slot (get_or before k nothing)
get-changed [] k = refl
get-changed (d ∷ before) zero = refl
get-changed (d ∷ before) (suc k) = get-changed before k

diagram-plain : (before : List D) (n : Node Leaf) → diagram_of (map (changed same_leaf plain_slot) before) (on_plain_slot n) ≡ changed same_leaf plain_slot (diagram_of before n)
diagram-plain before (Node.leaf x) = refl
diagram-plain before (Node.branch v kids) =
    ap (λ (ds : List D). Diagram.branch (plain_slot v) (subtrees_of ds))
    (map-same (λ k. get_or (map (changed same_leaf plain_slot) before) k nothing) (λ k. changed same_leaf plain_slot (get_or before k nothing)) (get-changed before) kids
    ∙ sym (map-map (changed same_leaf plain_slot) (kid_at before) kids))
    ∙ ap (Diagram.branch (plain_slot v)) (sym (changed_all-list same_leaf plain_slot (map (kid_at before) kids)))

diagrams-plain : (before : List D) (nodes : List (Node Leaf)) → diagrams_after (map (changed same_leaf plain_slot) before) (map on_plain_slot nodes) ≡ map (changed same_leaf plain_slot) (diagrams_after before nodes)
diagrams-plain before [] = refl
diagrams-plain before (n ∷ nodes) =
    ap (λ (l : List D). diagrams_after l (map on_plain_slot nodes))
    (ap (λ (d : D). map (changed same_leaf plain_slot) before ++ d ∷ []) (diagram-plain before n) ∙ sym (map-append (changed same_leaf plain_slot) before (diagram_of before n ∷ [])))
    ∙ diagrams-plain (before ++ diagram_of before n ∷ []) nodes

-- the value of a point in the slot of a variable's present value
point-plain : (sizes s t : List ℕ) (var : ℕ) → IsState sizes s → IsState sizes t → get_or (point s t) (2 * var + 1) 0 ≡ get_or s var 0
point-plain [] [] t var p q = refl
point-plain [] (x ∷ s) t var p q = absurd p
point-plain (d ∷ ds) [] t var p q = absurd p
point-plain (d ∷ ds) (x ∷ s) [] var p q = absurd q
point-plain (d ∷ ds) (x ∷ s) (y ∷ t) zero p q = refl
point-plain (d ∷ ds) (x ∷ s) (y ∷ t) (suc var) p q =
    let e : 2 * suc var + 1 ≡ suc (suc (2 * var + 1)) = omega arith in
    rw e (point-plain ds s t var p.1 q.1)

module _ (s p : List ℕ) (at : (v : ℕ) → slice_index p (plain_slot v) ≡ slice_index s v) where
  mutual
    reached-plain : (d : D) → reached p (changed same_leaf plain_slot d) ≡ reached s d
    reached-plain (Diagram.leaf x) = refl
    reached-plain (Diagram.branch v es) = ap (λ (k : ℕ). reached_among p k (changed_all same_leaf plain_slot es)) (at v) ∙ among-plain (slice_index s v) es

    among-plain : (k : ℕ) (es : Subtrees Leaf) → reached_among p k (changed_all same_leaf plain_slot es) ≡ reached_among s k es
    among-plain k none = refl
    among-plain zero (also e es) = reached-plain e
    among-plain (suc k) (also e es) = among-plain k es

pub plain-leaf : (sizes s t : List ℕ) (nodes : List (Node Leaf)) → IsState sizes s → IsState sizes t → leaf_at (map on_plain_slot nodes) (point s t) ≡ leaf_at nodes s
plain-leaf sizes s t nodes p q =
    let long : length (map on_plain_slot nodes) ≡ length nodes = length-map nodes on_plain_slot in
    ap (λ (k : ℕ). reached (point s t) (get_or (diagrams (map on_plain_slot nodes)) (k - 1) nothing)) long
    ∙ ap (λ (ds : List D). reached (point s t) (get_or ds (length nodes - 1) nothing)) (diagrams-plain [] nodes)
    ∙ ap (reached (point s t)) (get-changed (diagrams nodes) (length nodes - 1))
    ∙ reached-plain s (point s t) (λ v. point-plain sizes s t v p q) (get_or (diagrams nodes) (length nodes - 1) nothing)
