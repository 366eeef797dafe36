-- One sweep over pairs in order makes their groups.
use Rattle.std.proofs.Common.{◌≡◌, ℕ, ◌+◌, ◌<◌, ◌≤◌, true, false, ℤ, ◌+ℤ◌, List, [], ◌∷◌, ◌++◌, map, drop, get_or, length, sym, ap, ◌∙◌, subst, arith}
use Rattle.std.specs.Prelude.{int_le, All, AllPairs}
use Rattle.std.specs.Int.{int_max}
use Rattle.std.proofs.lemmas.List.{append_assoc, drop_all, drop_more}
use Rattle.spd_model.specs.Ranges.{Range, groups_of}
use Rattle.spd_nodes.specs.declared.leaf.Leaf.{Leaf}
use Rattle.spd_ranges.specs.declared.groups.Group.{Group}
use Rattle.spd_ranges.specs.Merging.{range_at}
use Rattle.spd_ranges.specs.inner.Groups.{begun_by, is_range, told_by}
use Rattle.spd_apply.specs.Leaves.{leaf_before}
use Rattle.spd_ranges.proofs.GroupLaws.{InOrder, swept, swept-all, swept-ends, swept-ordered, swept-takes}
use Rattle.spd_ranges.proofs.LeafLaws.{leaves-ascend}
use Rattle.spd_ranges.proofs.OrderLaws.{Ascends}

-- what a sweep makes of the pairs from a place on, after some groups and one that is begun
abbrev pub sweeps : ℤ → List Group → Group → ℕ → List Leaf → List Group
sweeps span gs g i rest = gs ++ swept span g (map range_at (drop i rest))

pub sweep-first : (span : ℤ) (first : Leaf) (rest pairs : List Leaf) (gs : List Group) (g : Group) → pairs ≡ first ∷ rest → gs ≡ [] → g ≡ begun_by (range_at first)
    → sweeps span gs g 0 rest ≡ map told_by (groups_of span (map range_at pairs))
sweep-first span first rest pairs gs g e n b = rw (e, n, b) (sym (swept-all span (range_at first) (map range_at rest)))

module _ (span : ℤ) (gs : List Group) (g : Group) (rest : List Leaf) (i : ℕ) (d : Leaf) (within : i < length rest) where
  abbrev pair : Leaf
  pair = get_or rest i d

  more : map range_at (drop i rest) ≡ range_at pair ∷ map range_at (drop (i + 1) rest)
  more = ap (map range_at) (drop_more rest i d within)

  -- the group takes the next pair
  pub sweep-takes : int_le (int_max g.high (begun_by (range_at pair)).high) (g.low +ℤ span) ≡ true
      → sweeps span gs (record { low = g.low; first_high = g.first_high; high = int_max g.high (begun_by (range_at pair)).high }) (i + 1) rest ≡ sweeps span gs g i rest
  sweep-takes h = ap (λ hs. gs ++ hs) (swept-takes span g (range_at pair) (map range_at (drop (i + 1) rest)) h ∙ ap (swept span g) (sym more))

  -- the group ends before it
  pub sweep-ends : int_le (int_max g.high (begun_by (range_at pair)).high) (g.low +ℤ span) ≡ false
      → sweeps span (gs ++ g ∷ []) (begun_by (range_at pair)) (i + 1) rest ≡ sweeps span gs g i rest
  sweep-ends h =
      append_assoc gs (g ∷ []) (swept span (begun_by (range_at pair)) (map range_at (drop (i + 1) rest)))
      ∙ ap (λ hs. gs ++ hs) (swept-ends span g (range_at pair) (map range_at (drop (i + 1) rest)) h ∙ ap (swept span g) (sym more))

-- the last group ends
pub sweep-last : (span : ℤ) {x : ℤ} (gs : List Group) (g : Group) (rest : List Leaf) (i : ℕ) → x ≡ span → length rest ≤ i → (pairs : List Leaf)
    → sweeps x gs g i rest ≡ map told_by (groups_of x (map range_at pairs)) → gs ++ g ∷ [] ≡ map told_by (groups_of span (map range_at pairs))
sweep-last span {x = x} gs g rest i e h pairs k =
    ap (λ ps. gs ++ swept x g (map range_at ps)) (sym (drop_all i rest h)) ∙ k ∙ ap (λ y. map told_by (groups_of y (map range_at pairs))) e

-- groups of pairs in order stand in order
pub told-ordered : (span : ℤ) (pairs : List Leaf) → All (λ a. is_range a ≡ true) pairs → AllPairs (λ a b. leaf_before a b ≡ true) pairs → InOrder (map told_by (groups_of span (map range_at pairs)))
told-ordered span pairs all o = ordered (map range_at pairs) (leaves-ascend pairs all o)
  where
    ordered : (ps : List Range) → Ascends ps → InOrder (map told_by (groups_of span ps))
    ordered [] a = λ i j d h k. absurd (omega arith)
    ordered (p ∷ ps) a = subst InOrder (sym (swept-all span p ps)) (swept-ordered span p p.high ps a)
