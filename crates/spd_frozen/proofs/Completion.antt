-- The nodes of a diagram, in order of first completion.
use Rattle.std.proofs.Common.{◌≡◌, ℕ, inl, inr, true, false, List, [], ◌∷◌, ◌++◌, refl, ap, sym, ◌∙◌, subst, append_assoc, append-nil}
use Rattle.std.specs.Prelude.{Contains, All}
use Rattle.std.specs.List.{list_all}
use Rattle.std.proofs.lemmas.Bool.{and_parts}
use Rattle.std.proofs.lemmas.List.Elements.{All-push, All-weaker, All-contains, All-nil, Contains-append_left, Contains-push}
use Rattle.spd_model.specs.Reduced.{Diagram, Subtrees, none, also, subtrees_of, is_equal, with_node, nodes_after, nodes_after_all, nodes_of, choice_of}
use Rattle.spd_nodes.specs.Trees.{leaf_eq}
use Rattle.spd_nodes.specs.declared.leaf.Leaf.{Leaf}
use Rattle.spd_frozen.specs.inner.Unique.{AreAmong, HasSubtreesAmong, IsClosed}
use Rattle.spd_frozen.proofs.Places.{D, is_equal-true, there-or-new, with_node-there, with_node-new}

-- subtrees that are among some diagrams are among more
pub AreAmong-append : (xs ys : List D) (es : Subtrees Leaf) → AreAmong xs es → AreAmong (xs ++ ys) es
AreAmong-append xs ys none h = tt
AreAmong-append xs ys (also e es) h = (Contains-append_left xs ys e h.0, AreAmong-append xs ys es h.1)

pub HasSubtreesAmong-append : (xs ys : List D) (d : D) → HasSubtreesAmong xs d → HasSubtreesAmong (xs ++ ys) d
HasSubtreesAmong-append xs ys (Diagram.leaf x) h = tt
HasSubtreesAmong-append xs ys (Diagram.branch v es) h = AreAmong-append xs ys es h

-- diagrams that follow some others, subtrees first
abbrev pub AreInOrder : List D → List D → Type 0
AreInOrder before [] = Unit {0}
AreInOrder before (d ∷ ds) = HasSubtreesAmong before d × AreInOrder (before ++ d ∷ []) ds

AreInOrder-append : (before xs ys : List D) → AreInOrder before xs → AreInOrder (before ++ xs) ys → AreInOrder before (xs ++ ys)
AreInOrder-append before [] ys h k = rw append-nil at k
AreInOrder-append before (x ∷ xs) ys h k =
    (h.0, AreInOrder-append (before ++ x ∷ []) xs ys h.1 (subst (λ (b : List D). AreInOrder b ys) (sym (append_assoc before (x ∷ []) xs)) k))

-- a list goes on with more diagrams, subtrees first
pub record GoesOn (xs ys : List D) : Type 0 where
  pub more : List D
  pub is : ys ≡ xs ++ more
  pub order : AreInOrder xs more

goes_on-none : (xs : List D) → GoesOn xs xs
goes_on-none xs = record { more = []; is = sym (append-nil xs); order = tt }

goes_on-both : (xs ys zs : List D) → GoesOn xs ys → GoesOn ys zs → GoesOn xs zs
goes_on-both xs ys zs a b = record {
  more = a.more ++ b.more;
  is = b.is ∙ ap (λ (l : List D). l ++ b.more) a.is ∙ append_assoc xs a.more b.more;
  order = AreInOrder-append xs a.more b.more a.order (subst (λ (l : List D). AreInOrder l b.more) a.is b.order);
}

Contains-goes_on : (xs ys : List D) (d : D) → GoesOn xs ys → Contains xs d → Contains ys d
Contains-goes_on xs ys d g c = subst (λ (l : List D). Contains l d) (sym g.is) (Contains-append_left xs g.more d c)

AreAmong-goes_on : (xs ys : List D) (es : Subtrees Leaf) → GoesOn xs ys → AreAmong xs es → AreAmong ys es
AreAmong-goes_on xs ys es g h = subst (λ (l : List D). AreAmong l es) (sym g.is) (AreAmong-append xs g.more es h)

-- one diagram more, whose subtrees are there
pub record WithNode (ds : List D) (d : D) (new : List D) : Type 0 where
  pub goes_on : GoesOn ds new
  pub there : Contains new d
  pub closed : IsClosed ds → IsClosed new

pub with_node-is : (ds : List D) (d : D) → HasSubtreesAmong ds d → WithNode ds d (with_node leaf_eq ds d)
with_node-is ds d h = elim (there-or-new ds d) [
  | inl c ↦ subst (λ (l : List D). WithNode ds d l) (sym (with_node-there ds d c)) (record { goes_on = goes_on-none ds; there = c; closed = λ k. k })
  | inr n ↦ subst (λ (l : List D). WithNode ds d l) (sym (with_node-new ds d n)) (record {
    goes_on = record { more = d ∷ []; is = refl; order = (h, tt) };
    there = Contains-push ds d;
    closed = λ k. All-push (HasSubtreesAmong (ds ++ d ∷ [])) ds d
        (All-weaker (HasSubtreesAmong ds) (HasSubtreesAmong (ds ++ d ∷ [])) (λ e p. HasSubtreesAmong-append ds (d ∷ []) e p) ds k)
        (HasSubtreesAmong-append ds (d ∷ []) d h);
  })
]

-- what completing diagrams does to a list
pub record AllDone (ds : List D) (es : Subtrees Leaf) (new : List D) : Type 0 where
  pub goes_on : GoesOn ds new
  pub there : AreAmong new es
  pub closed : IsClosed ds → IsClosed new

mutual
  pub nodes_after-is : (before : List D) (d : D) → WithNode before d (nodes_after leaf_eq before d)
  nodes_after-is before (Diagram.leaf x) = with_node-is before (Diagram.leaf x) tt
  nodes_after-is before (Diagram.branch v es) =
      let all = nodes_after_all-is before es in
      let one = with_node-is (nodes_after_all leaf_eq before es) (Diagram.branch v es) all.there in
      record {
        goes_on = goes_on-both before (nodes_after_all leaf_eq before es) (nodes_after leaf_eq before (Diagram.branch v es)) all.goes_on one.goes_on;
        there = one.there;
        closed = λ k. one.closed (all.closed k);
      }

  pub nodes_after_all-is : (before : List D) (es : Subtrees Leaf) → AllDone before es (nodes_after_all leaf_eq before es)
  nodes_after_all-is before none = record { goes_on = goes_on-none before; there = tt; closed = λ k. k }
  nodes_after_all-is before (also e es) =
      let first = nodes_after leaf_eq before e in
      let new = nodes_after_all leaf_eq first es in
      let one = nodes_after-is before e in
      let all = nodes_after_all-is first es in
      record {
        goes_on = goes_on-both before first new one.goes_on all.goes_on;
        there = (Contains-goes_on first new e all.goes_on one.there, all.there);
        closed = λ k. all.closed (one.closed k);
      }

-- what is there needs no completing
mutual
  pub nodes_after-there : (ds : List D) (d : D) → IsClosed ds → Contains ds d → nodes_after leaf_eq ds d ≡ ds
  nodes_after-there ds (Diagram.leaf x) closed c = with_node-there ds (Diagram.leaf x) c
  nodes_after-there ds (Diagram.branch v es) closed c =
      ap (λ (l : List D). with_node leaf_eq l (Diagram.branch v es)) (nodes_after_all-there ds es closed (All-contains (HasSubtreesAmong ds) ds (Diagram.branch v es) closed c))
      ∙ with_node-there ds (Diagram.branch v es) c

  pub nodes_after_all-there : (ds : List D) (es : Subtrees Leaf) → IsClosed ds → AreAmong ds es → nodes_after_all leaf_eq ds es ≡ ds
  nodes_after_all-there ds none closed h = refl
  nodes_after_all-there ds (also e es) closed h =
      ap (λ (l : List D). nodes_after_all leaf_eq l es) (nodes_after-there ds e closed h.0) ∙ nodes_after_all-there ds es closed h.1

-- one list of subtrees after another
pub nodes_after_all-append : (before xs ys : List D) → nodes_after_all leaf_eq before (subtrees_of (xs ++ ys)) ≡ nodes_after_all leaf_eq (nodes_after_all leaf_eq before (subtrees_of xs)) (subtrees_of ys)
nodes_after_all-append before [] ys = refl
nodes_after_all-append before (x ∷ xs) ys = nodes_after_all-append (nodes_after leaf_eq before x) xs ys

equal-among : (ds : List D) (d : D) (es : List D) → Contains ds d → list_all (is_equal leaf_eq d) es ≡ true → AreAmong ds (subtrees_of es)
equal-among ds d [] c h = tt
equal-among ds d (e ∷ es) c h =
    let both = and_parts (is_equal leaf_eq d e) (list_all (is_equal leaf_eq d) es) h in
    (subst (λ (x : D). Contains ds x) (is_equal-true d e both.0) c, equal-among ds d es c both.1)

-- the nodes of a branch that is left out, and of one that isn't
pub left_out-nodes : (before : List D) (var : ℕ) (d : D) (ds : List D) → IsClosed before → list_all (is_equal leaf_eq d) ds ≡ true
    → (choice_of leaf_eq var (d ∷ ds) ≡ d) × (nodes_after_all leaf_eq before (subtrees_of (d ∷ ds)) ≡ nodes_after leaf_eq before d)
left_out-nodes before var d ds closed h =
    let one = nodes_after-is before d in
    (rw h refl, nodes_after_all-there (nodes_after leaf_eq before d) (subtrees_of ds) (one.closed closed) (equal-among (nodes_after leaf_eq before d) d ds one.there h))

pub kept-nodes : (var : ℕ) (d : D) (ds : List D) → list_all (is_equal leaf_eq d) ds ≡ false → choice_of leaf_eq var (d ∷ ds) ≡ Diagram.branch var (subtrees_of (d ∷ ds))
kept-nodes var d ds h = rw h refl

-- what holds of a diagram and of its subtrees holds of all of its nodes
pub record IsInherited (P : D → Type 0) (Q : Subtrees Leaf → Type 0) : Type 0 where
  pub branch : (v : ℕ) (es : Subtrees Leaf) → P (Diagram.branch v es) → Q es
  pub also : (e : D) (es : Subtrees Leaf) → Q (Subtrees.also e es) → P e × Q es

module _ (P : D → Type 0) (Q : Subtrees Leaf → Type 0) (inherited : IsInherited P Q) where
  All-with_node : (ds : List D) (d : D) → All P ds → P d → All P (with_node leaf_eq ds d)
  All-with_node ds d h p = elim (there-or-new ds d) [
    | inl c ↦ subst (λ (l : List D). All P l) (sym (with_node-there ds d c)) h
    | inr n ↦ subst (λ (l : List D). All P l) (sym (with_node-new ds d n)) (All-push P ds d h p)
  ]

  mutual
    pub All-nodes_after : (before : List D) (d : D) → All P before → P d → All P (nodes_after leaf_eq before d)
    All-nodes_after before (Diagram.leaf x) h p = All-with_node before (Diagram.leaf x) h p
    All-nodes_after before (Diagram.branch v es) h p =
        All-with_node (nodes_after_all leaf_eq before es) (Diagram.branch v es) (All-nodes_after_all before es h (inherited.branch v es p)) p

    pub All-nodes_after_all : (before : List D) (es : Subtrees Leaf) → All P before → Q es → All P (nodes_after_all leaf_eq before es)
    All-nodes_after_all before none h q = h
    All-nodes_after_all before (also e es) h q =
        let both = inherited.also e es q in
        All-nodes_after_all (nodes_after leaf_eq before e) es (All-nodes_after before e h both.0) both.1

  pub All-nodes_of : (d : D) → P d → All P (nodes_of leaf_eq d)
  All-nodes_of d p = All-nodes_after [] d (All-nil P) p
