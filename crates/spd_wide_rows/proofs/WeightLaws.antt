-- Equal weights whose sum is one.
use Rattle.std.proofs.Common.{◌≡◌, ◌∙◌, ◌<◌, ◌≤◌, ◌+◌, ◌*◌, ℕ, zero, suc, true, List, map, replicate, length, ap, sym, subst, refl, arith, rules, pos, ◌+ℤ◌, suc-mul, zero-mul}
use Rattle.std.proofs.lemmas.List.{length-map, length-replicate}
use Rattle.spd_cons_core.specs.declared.key.Entry.{Entry}
use Rattle.spd_model.specs.Chances.{one}
use Rattle.spd_model.specs.Numbers.{sum_below}
use Rattle.spd_nodes.specs.declared.leaf.Leaf.{Leaf}
use Rattle.spd_nodes.specs.declared.leaf.Leaf.TheVariants.{Num}
use Rattle.spd_nodes.specs.Levels.{slots}
use Rattle.spd_nodes.specs.Shown.{Shown, meaning}
use Rattle.spd_nodes.specs.States.{point, Function}
use Rattle.spd_nodes.specs.Trees.{Tree, Ends, value_at}
use Rattle.spd_restrict.specs.Chosen.{function_at}
use Rattle.spd_restrict.specs.Restricted.{restricted}
use Rattle.spd_weigh.specs.Leaves.{number_of, IsWeight}
use Rattle.spd_weigh.specs.Weighing.{AreWeights, weight_at}

module _ (s : Shown) (r : Entry) (x : ℕ) (leaf : s.tree r ≡ Ends (Num (pos x))) (var : ℕ) where
  abbrev equal : ℕ → List Function
  equal n = map (meaning s) (replicate n r)

  function-is : (n v : ℕ) → v < n → function_at (equal n) v ≡ meaning s r
  function-is zero v h = absurd (omega arith)
  function-is (suc n) zero h = refl
  function-is (suc n) (suc v) h = function-is n v (omega arith)

  number-is : (a b : List ℕ) → meaning s r a b ≡ Num (pos x)
  number-is a b = ap (λ (t : Tree). value_at (slots s.sizes) 0 t (point a b)) leaf

  weight-is : (n v : ℕ) → v < n → (a b : List ℕ) → weight_at var (equal n) v a b ≡ Num (pos x)
  weight-is n v h a b = ap (λ (g : Function). restricted var true v g a b) (function-is n v h) ∙ number-is a _

  sum-is : (n m : ℕ) → m ≤ n → (a b : List ℕ) → sum_below m (λ v. number_of (weight_at var (equal n) v a b)) ≡ pos (m * x)
  sum-is n zero h a b = ap pos (sym (zero-mul x))
  sum-is n (suc m) h a b =
      let before : sum_below m (λ v. number_of (weight_at var (equal n) v a b)) ≡ pos (m * x) = sum-is n m (omega arith) a b in
      let here : number_of (weight_at var (equal n) m a b) ≡ pos x = ap number_of (weight-is n m (omega arith) a b) in
      (λ i. before i +ℤ here i) ∙ ap pos (sym (suc-mul m x))

  length-is : (n : ℕ) → length (equal n) ≡ n
  length-is n = length-map (replicate n r) (meaning s) ∙ length-replicate n r

  pub equal-weights : (n : ℕ) → n * x ≡ 1000000000000 → AreWeights s.sizes var (map (meaning s) (replicate n r))
  equal-weights n h = record {
    each = λ v near a b p q. subst IsWeight (sym (weight-is n v (subst (λ (k : ℕ). v < k) (length-is n) near) a b)) (search rules);
    sum = λ a b p q. ap (λ (k : ℕ). sum_below k (λ v. number_of (weight_at var (equal n) v a b))) (length-is n) ∙ sum-is n n (omega arith) a b ∙ ap pos h;
  }
