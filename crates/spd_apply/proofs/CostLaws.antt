-- How many find-or-make calls the recursion takes.
use Rattle.std.proofs.Common.{◌≡◌, ℕ, suc, ◌+◌, ◌*◌, ◌<◌, ◌≤◌, inl, inr, ◌==◌, Bool, true, false, cond, ◌∷◌, All, length, take, Result, Ok, Err, OnOk, OnErr, IsErr, None, refl, ap, sym, ◌∙◌, subst, arith}
use Rattle.std.specs.Prelude.{Contains}
use Rattle.std.proofs.lemmas.List.Elements.{All-nil, All-cons, All-map, All-weaker}
use Rattle.std.specs.Map.{keys_of}
use Rattle.std.proofs.lemmas.List.{length-take}
use Rattle.std.proofs.lemmas.Map.Entries.{length-keys_of}
use native.Mathlib.Nat.{mul-add, mul-le-mul_left}
use Rattle.spd_cons_core.specs.declared.key.Entry.{Entry}
use Rattle.spd_memo.specs.Kept.{KeptAnswers, IsKept, Keeps, answer_in, promoted_in, put_in}
use Rattle.spd_memo.proofs.CallerLemmas.{Contains-promoted_in, Contains-put, keeps-not, newest-promoted, newest-put, length-promoted, length-put, distinct-newest, distinct-with}
use Rattle.spd_nodes.specs.declared.forest.StoreFault.{StoreFault}
use Rattle.spd_nodes.specs.Levels.{slots}
use Rattle.spd_nodes.specs.Trees.{Tree, IsNode, Itself, InYes, InNo}
use Rattle.spd_nodes.specs.Shown.{Shown, IsSound, Grows, test_steps}
use Rattle.spd_nodes.proofs.CallerLemmas.{grows-none}
use Rattle.spd_apply.specs.Halves.{pair_rank}
use Rattle.spd_apply.specs.declared.rule.Below.{Below}
use Rattle.spd_apply.specs.declared.rule.Below.TheVariants as B
use Rattle.spd_apply.specs.Rules.{Making, HoldsAnswers, IsBelow, IsOfNodes}
use Rattle.spd_apply.proofs.PairLaws.{pairs-few}
use Rattle.spd_apply.specs.Costs.{pair_count, ArePart, IsPart, HasNewest, Took, Counts, unkept_of, AddsLower}

-- ---- pairs of nodes

node-trans : {x t u : Tree} → IsNode x t → IsNode t u → IsNode x u
node-trans h Itself = h
node-trans h (InYes k) = InYes (node-trans h k)
node-trans h (InNo k) = InNo (node-trans h k)

part-grows : (s w : Shown) (t u : Tree) (p : Entry × Entry) → Grows s w → ArePart s t u p → ArePart w t u p
part-grows s w t u p h a = record {
  left_known = h.knows p.0 a.left_known;
  right_known = h.knows p.1 a.right_known;
  left = rw (h.trees p.0 a.left_known) a.left;
  right = rw (h.trees p.1 a.right_known) a.right;
}

newest-grows : (s w : Shown) (t u : Tree) (k : KeptAnswers) (n : ℕ) → Grows s w → HasNewest s t u k n → HasNewest w t u k n
newest-grows s w t u k n h a = record {
  kept = a.kept;
  there = a.there;
  each = All-weaker (λ e. ArePart s t u e.0) (λ e. ArePart w t u e.0) (λ e p. part-grows s w t u e.0 h p) (take n k.pairs) a.each;
}

-- what is below a pair of nodes is a pair of nodes
pub part-below : (may : Tree → Tree → Type 0) (s : Shown) (t u : Tree) (f g : Entry) (b : Below) → ArePart s t u (f, g) → IsOfNodes s f g b
    → IsBelow may s b → IsPart s t u b
part-below may s t u f g (B.Known r) a nodes goes = tt
part-below may s t u f g (B.Pair x y) a nodes goes = record {
  left_known = goes.left;
  right_known = goes.right;
  left = node-trans nodes.0 a.left;
  right = node-trans nodes.1 a.right;
}

-- ---- there are no more pairs than nodes of the one times nodes of the other

few-pairs : (s : Shown) (o : IsSound s) (t u : Tree) (k : KeptAnswers) (n : ℕ) → HasNewest s t u k n → n ≤ pair_count t u
few-pairs s o t u k n h =
    let newest = take n k.pairs in
    let few = pairs-few s o t u (keys_of newest) (All-map (ArePart s t u) (λ (e : (Entry × Entry) × Entry). e.0) newest h.each) (distinct-newest n k h.kept) in
    omega (arith, few, length-keys_of newest, length-take n k.pairs, h.there)

room-for : (s : Shown) (o : IsSound s) (t u : Tree) (k : KeptAnswers) (n : ℕ) (f g : Entry) → HasNewest s t u k n → ArePart s t u (f, g) → (Keeps k f g → ⊥)
    → n + 1 ≤ pair_count t u
room-for s o t u k n f g h a absent =
    let newest = take n k.pairs in
    let parts = All-map (ArePart s t u) (λ (e : (Entry × Entry) × Entry). e.0) newest h.each in
    let few = pairs-few s o t u ((f, g) ∷ keys_of newest) (All-cons (ArePart s t u) (f, g) (keys_of newest) a parts) (distinct-with n k f g h.kept absent) in
    omega (arith, few, length-keys_of newest, length-take n k.pairs, h.there)

-- ---- what a call took

took-start : (s : Shown) (o : IsSound s) (t u : Tree) (k : KeptAnswers) (before each n : ℕ) → HasNewest s t u k n → Took s t u k before before each n 0
took-start s o t u k before each n h = record { newest = n; has = h; steps = let e : n + 0 ≡ n = omega arith in rw e (omega arith); room = omega (arith, few-pairs s o t u k n h) }

took-then : (s w : Shown) (t u : Tree) (k l : KeptAnswers) (before mid after each n unkept : ℕ) (first : Took s t u k before mid each n 0)
    → Took w t u l mid after each first.newest unkept → Took w t u l before after each n unkept
took-then s w t u k l before mid after each n unkept first second =
    let e : first.newest + 0 ≡ first.newest = omega arith in
    record { newest = second.newest; has = second.has; steps = let h = rw e at first.steps in omega (arith, second.steps); room = second.room }

one-more : (each n : ℕ) → each * (n + 1) ≡ each * (n + 0) + each
one-more each n = let e : n + 0 ≡ n = omega arith in rw e (omega (arith, mul-add each n 1))

-- the last steps of a pair that isn't kept yet
took-last : (s w : Shown) (o : IsSound w) (t u : Tree) (k : KeptAnswers) (before mid after each n : ℕ) (f g : Entry) → Took s t u k before mid each n 0
    → Grows s w → after ≤ mid + each → ArePart w t u (f, g) → (Keeps k f g → ⊥) → Took w t u k before after each n 1
took-last s w o t u k before mid after each n f g h grows few part absent =
    let has = newest-grows s w t u k h.newest grows h.has in
    record {
      newest = h.newest;
      has = has;
      steps = omega (arith, h.steps, one-more each h.newest);
      room = room-for w o t u k h.newest f g has part absent;
    }

-- ---- which pairs a call adds

lower-same : (s : Shown) (k : KeptAnswers) (levels : ℕ) → AddsLower s k k levels
lower-same s k levels = record { each = λ f g r h. inl (r, h) }

rank-stays : (s w : Shown) (f g : Entry) → Grows s w → s.knows f ≡ true → s.knows g ≡ true
    → pair_rank (slots w.sizes) (w.tree f) (w.tree g) ≡ pair_rank (slots s.sizes) (s.tree f) (s.tree g)
rank-stays s w f g h kf kg = rw (h.sizes, h.trees f kf, h.trees g kg) refl

pub lower-grows : (making : Making) (s w : Shown) (k l : KeptAnswers) (levels more : ℕ) → Grows s w → HoldsAnswers making s l → levels ≤ more → AddsLower s k l levels
    → AddsLower w k l more
lower-grows making s w k l levels more grows holds up h = record {
  each = λ f g r there. elim (h.each f g r there) [
    | inl old ↦ inl old
    | inr low ↦ let known = holds.each f g r there in let e = rank-stays s w f g grows known.left known.right in inr (omega (arith, e, low))
  ];
}

-- one call after another one
pub lower-then : (making : Making) (s w : Shown) (k l m : KeptAnswers) (levels : ℕ) → Grows s w → HoldsAnswers making s l → AddsLower s k l levels → AddsLower w l m levels
    → AddsLower w k m levels
lower-then making s w k l m levels grows holds first second = record {
  each = λ f g r there. elim (second.each f g r there) [
    | inl old ↦ (lower-grows making s w k l levels levels grows holds (omega arith) first).each f g old.0 old.1
    | inr low ↦ inr low
  ];
}

-- a pair that wasn't kept still isn't where only pairs of fewer levels were added
pub still-absent : (s w : Shown) (k l : KeptAnswers) (f g : Entry) → Grows s w → s.knows f ≡ true → s.knows g ≡ true
    → AddsLower w k l (pair_rank (slots s.sizes) (s.tree f) (s.tree g)) → (Keeps k f g → ⊥) → Keeps l f g → ⊥
still-absent s w k l f g grows kf kg h absent there = elim (h.each f g there.0 there.1) [
  | inl old ↦ absent old
  | inr low ↦ let e = rank-stays s w f g grows kf kg in absurd (omega (arith, e, low))
]

-- ---- a pair that the memo keeps

pub lower-recalled : (s : Shown) (k l : KeptAnswers) (f g : Entry) (levels : ℕ) → l.pairs ≡ promoted_in k.pairs f g → AddsLower s k l levels
lower-recalled s k l f g levels pairs = record {
  each = λ x y r there. inl (r, Contains-promoted_in k.pairs f g ((x, y), r) (subst (λ ps. Contains ps ((x, y), r)) pairs there));
}

newest-recalled : (s : Shown) (t u : Tree) (k l : KeptAnswers) (n : ℕ) (f g : Entry) → IsKept l → l.pairs ≡ promoted_in k.pairs f g → ArePart s t u (f, g)
    → HasNewest s t u k n → HasNewest s t u l n
newest-recalled s t u k l n f g kept pairs part has = record {
  kept = kept;
  there = let e : length l.pairs ≡ length k.pairs = ap length pairs ∙ length-promoted k f g in omega (arith, has.there);
  each = subst (λ ps. All (λ (e : (Entry × Entry) × Entry). ArePart s t u e.0) (take n ps)) (sym pairs) (newest-promoted (ArePart s t u) n k f g part has.each);
}

pub counts-recalled : (s : Shown) (o : IsSound s) (k l : KeptAnswers) (f g : Entry) (before each : ℕ) → IsKept l → l.pairs ≡ promoted_in k.pairs f g
    → Counts s s k l before before each (B.Pair f g) 0
counts-recalled s o k l f g before each kept pairs = record {
  at = λ t u n part room has. took-start s o t u l before each n (newest-recalled s t u k l n f g kept pairs part has);
}

-- ---- a pair that it doesn't keep

pub absent-recalled : (k l : KeptAnswers) (f g : Entry) → answer_in k.pairs f g ≡ None → l.pairs ≡ promoted_in k.pairs f g → Keeps l f g → ⊥
absent-recalled k l f g none pairs there =
    keeps-not k f g none (there.0, Contains-promoted_in k.pairs f g ((f, g), there.0) (subst (λ ps. Contains ps ((f, g), there.0)) pairs there.1))

module _ (s w : Shown) (k l m : KeptAnswers) (f g : Entry) (kept : IsKept l) (pairs : l.pairs ≡ promoted_in k.pairs f g) where
  pub lower-missed : (levels : ℕ) → AddsLower w l m levels → AddsLower w k m (1 + levels)
  lower-missed levels h = record {
    each = λ x y r there. elim (h.each x y r there) [
      | inl old ↦ inl (old.0, Contains-promoted_in k.pairs f g ((x, y), old.0) (subst (λ ps. Contains ps ((x, y), old.0)) pairs old.1))
      | inr low ↦ inr (omega (arith, low))
    ];
  }

  pub counts-missed : (before after each unkept : ℕ) → l.capacity ≡ k.capacity → Counts s w l m before after each (B.Pair f g) unkept
      → Counts s w k m before after each (B.Pair f g) unkept
  counts-missed before after each unkept same h = record {
    at = λ t u n part room has. h.at t u n part (omega arith) (newest-recalled s t u k l n f g kept pairs part has);
  }

-- the answer is kept, or there is no memory for it
module _ (s w : Shown) (k m kept : KeptAnswers) (f g r : Entry) (grows : Grows s w) (kf : s.knows f ≡ true) (kg : s.knows g ≡ true) where
  lower-put : AddsLower w k m (1 + pair_rank (slots s.sizes) (s.tree f) (s.tree g)) → AddsLower w k (put_in m f g r) (1 + pair_rank (slots s.sizes) (s.tree f) (s.tree g))
  lower-put h = record {
    each = λ x y q there. elim (Contains-put m f g r ((x, y), q) there) [
      | inl old ↦ h.each x y q old
      | inr new ↦ inr
          (subst (λ (z : (Entry × Entry) × Entry). pair_rank (slots w.sizes) (w.tree z.0.0) (w.tree z.0.1) < 1 + pair_rank (slots s.sizes) (s.tree f) (s.tree g)) (sym new)
          (omega (arith, rank-stays s w f g grows kf kg)))
    ];
  }

  pub lower-kept : (result : Result Entry StoreFault) → OnOk result (kept ≡ put_in m f g r) → OnErr result (kept ≡ m)
      → AddsLower w k m (1 + pair_rank (slots s.sizes) (s.tree f) (s.tree g)) → AddsLower w k kept (1 + pair_rank (slots s.sizes) (s.tree f) (s.tree g))
  lower-kept (Ok q) put same h = rw put (lower-put h)
  lower-kept (Err e) put same h = rw same h

  module _ (absent : Keeps m f g → ⊥) (valid : IsKept kept) (room : m.capacity ≡ k.capacity) (before after each : ℕ) (h : Counts s w k m before after each (B.Pair f g) 1) where
    took-put : kept ≡ put_in m f g r → (t u : Tree) (n : ℕ) → ArePart s t u (f, g) → pair_count t u ≤ k.capacity → HasNewest s t u k n
        → Took w t u kept before after each n 0
    took-put put t u n part fits has =
        let took = h.at t u n part fits has in
        let within : suc took.newest ≤ m.capacity = omega (arith, took.room) in
        let one : took.newest + 1 ≡ suc took.newest = omega arith in
        let none : suc took.newest + 0 ≡ suc took.newest = omega arith in
        record {
          newest = suc took.newest;
          has = record {
            kept = valid;
            there = subst (λ (z : KeptAnswers). suc took.newest ≤ length z.pairs) (sym put) (length-put took.newest m f g r absent took.has.there within);
            each = subst (λ (z : KeptAnswers). All (λ (e : (Entry × Entry) × Entry). ArePart w t u e.0) (take (suc took.newest) z.pairs)) (sym put)
                (newest-put (ArePart w t u) took.newest m f g (part-grows s w t u (f, g) grows part) took.has.each r absent within);
          };
          steps = rw none (rw one at took.steps);
          room = omega (arith, took.room);
        }

    pub counts-kept : (result : Result Entry StoreFault) → OnOk result (kept ≡ put_in m f g r) → OnErr result (kept ≡ m)
        → Counts s w k kept before after each (B.Pair f g) (unkept_of result)
    counts-kept (Ok q) put same = record { at = took-put put }
    counts-kept (Err e) put same = rw same h

-- ---- what is made of a pair that isn't kept

module _ (making : Making) (may : Tree → Tree → Type 0) (s : Shown) (o : IsSound s) (k : KeptAnswers) (f g : Entry) (kf : s.knows f ≡ true) (kg : s.knows g ≡ true)
    (absent : Keeps k f g → ⊥) (each : ℕ) where
  abbrev levels : ℕ
  levels = pair_rank (slots s.sizes) (s.tree f) (s.tree g)

  -- some steps, and nothing is kept
  pub counts-here : (w : Shown) → IsSound w → (before after : ℕ) → Grows s w → after ≤ before + each → Counts s w k k before after each (B.Pair f g) 1
  counts-here w p before after grows few = record {
    at = λ t u n part room has.
        took-last s w p t u k before before after each n f g (took-start s o t u k before each n has) grows few (part-grows s w t u (f, g) grows part) absent;
  }

  module _ (w : Shown) (p : IsSound w) (l : KeptAnswers) (grows : Grows s w) (lower : AddsLower w k l levels) where
    absent-later : Keeps l f g → ⊥
    absent-later = still-absent s w k l f g grows kf kg lower absent

    finish : (t u : Tree) (before after n : ℕ) → ArePart s t u (f, g) → (r : Result Entry StoreFault) → Took w t u l before after each n (unkept_of r)
        → Took w t u l before after each n 1
    finish t u before after n part (Ok r) took =
        took-last w w p t u l before after after each n f g took (grows-none w) (omega arith) (part-grows s w t u (f, g) grows part) absent-later
    finish t u before after n part (Err e) took = took

    -- what is made below
    pub counts-below : (b : Below) → IsOfNodes s f g b → IsBelow may s b → (before after : ℕ) (r : Result Entry StoreFault)
        → Counts s w k l before after each b (unkept_of r) → Counts s w k l before after each (B.Pair f g) 1
    counts-below b nodes goes before after r h = record {
      at = λ t u n part room has. finish t u before after n part r (h.at t u n (part-below may s t u f g b part nodes goes) room has);
    }

  -- a test, of which the part where it holds is made
  module _ (yes no : Below) (yes-nodes : IsOfNodes s f g yes) (no-nodes : IsOfNodes s f g no) (yes-goes : IsBelow may s yes) (no-goes : IsBelow may s no)
      (v : Shown) (l m : KeptAnswers) (first-grows : Grows s v) (same : l.capacity ≡ k.capacity) (before mid after : ℕ)
      (first : Counts s v k l before mid each yes 0) where
    part-later : (t u : Tree) (b : Below) → IsPart s t u b → IsPart v t u b
    part-later t u (B.Known r) h = tt
    part-later t u (B.Pair x y) h = part-grows s v t u (x, y) first-grows h

    both : (w : Shown) (unkept : ℕ) → Counts v w l m mid after each no unkept → (t u : Tree) (n : ℕ) → ArePart s t u (f, g) → pair_count t u ≤ k.capacity
        → HasNewest s t u k n → Took w t u m before after each n unkept
    both w unkept second t u n part room has =
        let one = first.at t u n (part-below may s t u f g yes part yes-nodes yes-goes) room has in
        took-then v w t u l m before mid after each n unkept one
        (second.at t u one.newest (part-later t u no (part-below may s t u f g no part no-nodes no-goes)) (omega arith) one.has)

    pub counts-no : (w : Shown) → Counts v w l m mid after each no 1 → Counts s w k m before after each (B.Pair f g) 1
    counts-no w second = record { at = both w 1 second }

    pub counts-test : (w z : Shown) → IsSound z → (last : ℕ) → Counts v w l m mid after each no 0 → Grows s w → Grows w z → last ≤ after + each → AddsLower w k m levels
        → Counts s z k m before last each (B.Pair f g) 1
    counts-test w z p last second grows more few lower = record {
      at = λ t u n part room has.
          took-last w z p t u m before after last each n f g (both w 0 second t u n part room has) more few
          (part-grows w z t u (f, g) more (part-grows s w t u (f, g) grows part)) (still-absent s w k m f g grows kf kg lower absent);
    }

-- a test takes at most one step
pub test_steps-few : (y n : Entry) → test_steps y n ≤ 1
test_steps-few y n = go (y.0 == n.0)
  where
    go : (b : Bool) → cond b 0 1 ≤ 1
    go true = omega arith
    go false = omega arith

-- ---- the whole

-- what a call took whose memo had no newest pair of the two trees to begin with
pub few-steps : (s w : Shown) (f g : Entry) (k l : KeptAnswers) (before after each unkept : ℕ) → s.knows f ≡ true → s.knows g ≡ true → IsKept k
    → Counts s w k l before after each (B.Pair f g) unkept → pair_count (s.tree f) (s.tree g) ≤ k.capacity
    → after ≤ before + each * pair_count (s.tree f) (s.tree g)
few-steps s w f g k l before after each unkept kf kg kept h room =
    let took = h.at (s.tree f) (s.tree g) 0 (record { left_known = kf; right_known = kg; left = Itself; right = Itself }) room
    (record { kept = kept; there = omega arith; each = All-nil (λ (e : (Entry × Entry) × Entry). ArePart s (s.tree f) (s.tree g) e.0) }) in
    let most : each * (took.newest + unkept) ≤ each * pair_count (s.tree f) (s.tree g) = mul-le-mul_left each took.room in
    omega (arith, took.steps, most)

pub lower-up : (s : Shown) (k l : KeptAnswers) (levels more : ℕ) → levels ≤ more → AddsLower s k l levels → AddsLower s k l more
lower-up s k l levels more up h = record { each = λ f g r there. elim (h.each f g r there) [ inl old ↦ inl old | inr low ↦ inr (omega (arith, low)) ] }

-- what is known counts nothing
pub counts-known : (s : Shown) (o : IsSound s) (k : KeptAnswers) (before each : ℕ) (b : Below) → Counts s s k k before before each b 0
counts-known s o k before each b = record { at = λ t u n part room has. took-start s o t u k before each n has }

pub unkept-err : (r : Result Entry StoreFault) → IsErr r → unkept_of r ≡ 1
unkept-err (Ok q) h = cc
unkept-err (Err e) h = refl
