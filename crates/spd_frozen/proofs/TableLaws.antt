-- The reduced diagram of a table, from the diagrams of its parts.
use Rattle.std.proofs.Common.{◌≡◌, ℕ, suc, ◌+◌, ◌*◌, ◌-◌, ◌<◌, ◌≤◌, Bool, true, false, List, [], ◌∷◌, ◌++◌, length, map, drop, get_or, refl, ap, sym, ◌∙◌, subst, arith, add-one, pos}
use Rattle.std.specs.Prelude.{All, Contains, slice_range}
use Rattle.std.specs.List.{list_all}
use Rattle.std.proofs.lemmas.List.{map-append, get_or-take, get_or-drop, length-take, length-drop}
use Rattle.std.proofs.Math.Nat.{mul-le-mul_right}
use Rattle.std.proofs.lemmas.List.Elements.{All-head, All-tail, All-cons, All-nil}
use Rattle.spd_model.proofs.CallerLemmas.Diagrams.{reduced-agree}
use Rattle.spd_model.proofs.CallerLemmas.StateOrder.{rank_below}
use Rattle.spd_model.specs.Numbers.{numbers_below}
use Rattle.spd_model.specs.Reduced.{Diagram, subtrees_of, Node, is_equal, choice_of, reduced_from, nodes_after, nodes_after_all, node_number}
use Rattle.spd_model.specs.States.{state_count, rank}
use Rattle.spd_nodes.specs.Trees.{leaf_eq}
use Rattle.spd_nodes.specs.declared.leaf.Leaf.{Leaf}
use Rattle.spd_nodes.specs.declared.leaf.Leaf.TheVariants.{Num}
use Rattle.spd_frozen.specs.Frozen.{entry_at, diagram_of}
use Rattle.spd_model.specs.declared.process.Var.{Var}
use Rattle.spd_frozen.specs.inner.Unique.{AreAmong, IsClosed, subdiagram, sizes_of}
use Rattle.std.proofs.lemmas.Bool.{and_parts}
use Rattle.spd_frozen.proofs.Places.{D, is_equal-refl, is_equal-true, number-is, number-below, number-append}
use Rattle.spd_frozen.proofs.Completion.{GoesOn, nodes_after-is, nodes_after_all-is, nodes_after_all-append, left_out-nodes, kept-nodes}
use Rattle.spd_frozen.proofs.Reading.{nothing, kid_at}

-- a part of a table is the table of what follows a value
pub part-is : (var size : ℕ) (sizes : List ℕ) (leaves : List Leaf) (v block : ℕ) → block ≡ state_count sizes
    → reduced_from leaf_eq (var + 1) sizes (entry_at sizes (slice_range leaves (v * block) ((v + 1) * block))) ≡ subdiagram var size sizes leaves v
part-is var size sizes leaves v block e =
    rw (add-one var) (reduced-agree leaf_eq (suc var) sizes (entry_at sizes (slice_range leaves (v * block) ((v + 1) * block))) (λ s. entry_at (size ∷ sizes) leaves (v ∷ s))
    (λ s h. (let below : rank sizes s < (v + 1) * block - v * block = omega (arith, rank_below sizes s h) in
    get_or-take ((v + 1) * block - v * block) (drop (v * block) leaves) (rank sizes s) (Num (pos 0)) below
    ∙ get_or-drop (v * block) leaves (rank sizes s) (Num (pos 0))
    ∙ ap (λ (b : ℕ). get_or leaves (v * b + rank sizes s) (Num (pos 0))) e)))

-- numbers of diagrams that are there are equal where the diagrams are
pub all-equal : (ds : List D) (d : D) (es : List D) (x : ℕ) → Contains ds d → AreAmong ds (subtrees_of es) → x ≡ node_number leaf_eq ds d
    → All (λ k. k ≡ x) (map (node_number leaf_eq ds) es) → list_all (is_equal leaf_eq d) es ≡ true
all-equal ds d [] x c h e all = refl
all-equal ds d (f ∷ es) x c h e all =
    let n : node_number leaf_eq ds f ≡ node_number leaf_eq ds d = All-head (λ k. k ≡ x) (node_number leaf_eq ds f) (map (node_number leaf_eq ds) es) all ∙ e in
    let same : f ≡ d = sym (number-is ds f nothing h.0) ∙ ap (λ (k : ℕ). get_or ds k nothing) n ∙ number-is ds d nothing c in
    let first : is_equal leaf_eq d f ≡ true = subst (λ (g : D). is_equal leaf_eq d g ≡ true) (sym same) (is_equal-refl d) in
    rw (first, all-equal ds d es x c h.1 e (All-tail (λ k. k ≡ x) (node_number leaf_eq ds f) (map (node_number leaf_eq ds) es) all)) refl

pub equal-all : (ds : List D) (d : D) (es : List D) (x : ℕ) → x ≡ node_number leaf_eq ds d → list_all (is_equal leaf_eq d) es ≡ true
    → All (λ k. k ≡ x) (map (node_number leaf_eq ds) es)
equal-all ds d [] x e h = All-nil (λ k. k ≡ x)
equal-all ds d (f ∷ es) x e h =
    let both = and_parts (is_equal leaf_eq d f) (list_all (is_equal leaf_eq d) es) h in
    let first : node_number leaf_eq ds f ≡ x = ap (node_number leaf_eq ds) (sym (is_equal-true d f both.0)) ∙ sym e in
    All-cons (λ k. k ≡ x) (node_number leaf_eq ds f) (map (node_number leaf_eq ds) es) first (equal-all ds d es x e both.1)

-- the length of a part of a table
pub length-part : (leaves : List Leaf) (v size block count : ℕ) → v < size → block ≡ count → length leaves ≡ size * count
    → length (slice_range leaves (v * block) ((v + 1) * block)) ≡ count
length-part leaves v size block count h e long =
    let whole : (v + 1) * count ≤ size * count = mul-le-mul_right count (omega arith) in
    rw e (simp (length-take, length-drop) (omega (arith, long, whole)))

-- numbers of diagrams that are there, among more diagrams
numbers-on : (xs ys : List D) (ds : List D) → GoesOn xs ys → AreAmong xs (subtrees_of ds) → map (node_number leaf_eq xs) ds ≡ map (node_number leaf_eq ys) ds
numbers-on xs ys [] g h = refl
numbers-on xs ys (d ∷ ds) g h =
    let first : node_number leaf_eq xs d ≡ node_number leaf_eq ys d = sym (ap (λ (l : List D). node_number leaf_eq l d) g.is ∙ number-append xs g.more d h.0) in
    let others = numbers-on xs ys ds g h.1 in
    λ i. first i ∷ others i

-- the diagrams of one value more
pub kids-more : (sub : ℕ → D) (v : ℕ) (before old new : List D) (kids : List ℕ) (number : ℕ) (d : D)
    → old ≡ nodes_after_all leaf_eq before (subtrees_of (map sub (numbers_below v))) → kids ≡ map (node_number leaf_eq old) (map sub (numbers_below v))
    → d ≡ sub v → new ≡ nodes_after leaf_eq old d → number ≡ node_number leaf_eq new d
    → (new ≡ nodes_after_all leaf_eq before (subtrees_of (map sub (numbers_below (v + 1))))) × (kids ++ number ∷ [] ≡ map (node_number leaf_eq new) (map sub (numbers_below (v + 1))))
kids-more sub v before old new kids number d nodes numbers is more last =
    let ds = map sub (numbers_below v) in
    let all : map sub (numbers_below (v + 1)) ≡ ds ++ d ∷ [] = rw add-one (map-append sub (numbers_below v) (v ∷ []) ∙ ap (λ (x : D). ds ++ x ∷ []) (sym is)) in
    let done = nodes_after_all-is before (subtrees_of ds) in
    let among : AreAmong old (subtrees_of ds) = subst (λ (l : List D). AreAmong l (subtrees_of ds)) (sym nodes) done.there in
    let on : GoesOn old new = subst (λ (l : List D). GoesOn old l) (sym more) (nodes_after-is old d).goes_on in (
      more ∙ ap (λ (l : List D). nodes_after leaf_eq l d) nodes ∙ sym (nodes_after_all-append before ds (d ∷ [])) ∙ ap (λ (l : List D). nodes_after_all leaf_eq before (subtrees_of l)) (sym all),
      ap (λ (l : List ℕ). l ++ number ∷ []) (numbers ∙ numbers-on old new ds on among) ∙ ap (λ (n : ℕ). map (node_number leaf_eq new) ds ++ n ∷ []) last
          ∙ sym (map-append (node_number leaf_eq new) ds (d ∷ [])) ∙ ap (map (node_number leaf_eq new)) (sym all),
    )

-- numbers of diagrams that are there
numbers-below : (all : List D) (ds : List D) → AreAmong all (subtrees_of ds) → All (λ k. k < length all) (map (node_number leaf_eq all) ds)
numbers-below all [] h = All-nil (λ k. k < length all)
numbers-below all (d ∷ ds) h = All-cons (λ k. k < length all) (node_number leaf_eq all d) (map (node_number leaf_eq all) ds) (number-below all d h.0) (numbers-below all ds h.1)

numbers-read : (all : List D) (ds : List D) → AreAmong all (subtrees_of ds) → map (kid_at all) (map (node_number leaf_eq all) ds) ≡ ds
numbers-read all [] h = refl
numbers-read all (d ∷ ds) h =
    let first : kid_at all (node_number leaf_eq all d) ≡ d = number-is all d nothing h.0 in
    let others = numbers-read all ds h.1 in
    λ i. first i ∷ others i

-- what the numbers of a branch's subtrees say of the branch
pub record Chooses (var : ℕ) (before all : List D) (kids : List ℕ) (ds : List D) : Type 0 where
  pub some : 0 < length kids
  pub below : All (λ k. k < length all) kids
  pub equal : All (λ k. k ≡ get_or kids 0 0) kids → (all ≡ nodes_after leaf_eq before (choice_of leaf_eq var ds)) × (get_or kids 0 0 ≡ node_number leaf_eq all (choice_of leaf_eq var ds))
  pub differ : ¬ All (λ k. k ≡ get_or kids 0 0) kids → choice_of leaf_eq var ds ≡ Diagram.branch var (subtrees_of ds)
  pub read : diagram_of all (Node.branch var kids) ≡ Diagram.branch var (subtrees_of ds)

pub chooses : (var : ℕ) (before all : List D) (kids : List ℕ) (ds : List D) → IsClosed before → all ≡ nodes_after_all leaf_eq before (subtrees_of ds) → kids ≡ map (node_number leaf_eq all) ds → 0 < length ds
    → Chooses var before all kids ds
chooses var before all kids [] closed nodes numbers some = absurd (omega arith)
chooses var before all kids (d ∷ ds) closed nodes numbers some =
    subst (λ (l : List ℕ). Chooses var before all l (d ∷ ds)) (sym numbers) (record {
      some = omega arith;
      below = numbers-below all (d ∷ ds) among;
      equal = λ same. (
          let rest : list_all (is_equal leaf_eq d) ds ≡ true = all-equal all d ds first among.0 among.1 refl (All-tail (λ k. k ≡ first) first (map (node_number leaf_eq all) ds) same) in
          let out = left_out-nodes before var d ds closed rest in
          (nodes ∙ out.1 ∙ ap (nodes_after leaf_eq before) (sym out.0), ap (node_number leaf_eq all) (sym out.0))
          );
      differ = λ other. kept-nodes var d ds (not-all (list_all (is_equal leaf_eq d) ds) refl other);
      read = ap (λ (l : List D). Diagram.branch var (subtrees_of l)) (numbers-read all (d ∷ ds) among);
    })
  where
    first : ℕ
    first = node_number leaf_eq all d

    among : AreAmong all (subtrees_of (d ∷ ds))
    among = subst (λ (l : List D). AreAmong l (subtrees_of (d ∷ ds))) (sym nodes) (nodes_after_all-is before (subtrees_of (d ∷ ds))).there

    not-all : (b : Bool) → list_all (is_equal leaf_eq d) ds ≡ b → ¬ All (λ k. k ≡ first) (map (node_number leaf_eq all) (d ∷ ds)) → list_all (is_equal leaf_eq d) ds ≡ false
    not-all true e other = absurd (other (All-cons (λ k. k ≡ first) first (map (node_number leaf_eq all) ds) refl (equal-all all d ds first refl e)))
    not-all false e other = e

-- the reduced diagram of a table over the first of some variables and the others
pub choice-is : (var : ℕ) (vars : List Var) (first : Var) (rest : List Var) (size : ℕ) (leaves : List Leaf) → vars ≡ first ∷ rest → size ≡ length first.values
    → reduced_from leaf_eq var (sizes_of vars) (entry_at (sizes_of vars) leaves) ≡ choice_of leaf_eq var (map (subdiagram var size (sizes_of rest) leaves) (numbers_below size))
choice-is var vars first rest size leaves e n =
    ap (λ (vs : List Var). reduced_from leaf_eq var (sizes_of vs) (entry_at (sizes_of vs) leaves)) e
    ∙ ap (λ (m : ℕ). choice_of leaf_eq var (map (subdiagram var m (sizes_of rest) leaves) (numbers_below m))) (sym n)
