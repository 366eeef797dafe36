use Rattle.std.proofs.Common.{◌≡◌, ◌+◌, ◌-◌, ◌<◌, ◌≤◌, ℕ, zero, suc, List, [], length, drop, get_or, slice_index, ap, sym, ◌∙◌, refl, arith}
use Rattle.std.proofs.lemmas.List.{get_or-map}
use Rattle.std.proofs.Math.ListN.{drop_of_length-le}
use Rattle.spd_model.specs.declared.process.Var.{Var}
use Rattle.spd_model.specs.Process.{Process}
use Rattle.spd_model.specs.States.{sizes, IsState, rank, state_count}
use Rattle.spd_model.proofs.CallerLemmas.StateOrder.{length-IsState, length-sizes}
use Rattle.spd_model.proofs.Steps.{last_more}
use Rattle.spd_model.proofs.process.Model.last_raisable.Goals as goal

-- behind the last variable nothing is left
nothing_left : (sizes s : List ℕ) (n : ℕ) → IsState sizes s → n ≡ length s → rank (drop n sizes) (drop n s) + 1 ≡ state_count (drop n sizes)
nothing_left sizes s n is count =
    let none : drop n sizes ≡ [] = drop_of_length-le sizes (omega (arith, length-IsState sizes s is)) in rw none refl

-- the number of values of a variable
size_is : (m : Process) (vars : List Var) (var : Var) (k n : ℕ) → vars ≡ m.vars → k < length vars → n ≡ length (get_or vars k var).values
    → slice_index (sizes m) k ≡ n
size_is m vars var k n is near count =
    get_or-map (λ (x : Var). length x.values) m.vars k var 0 (omega (arith, ap length is))
    ∙ sym (count ∙ ap (λ (l : List Var). length (get_or l k var).values) is)

-- one variable before those that have their last values
one_more : (sizes s : List ℕ) (is : IsState sizes s) (var before : ℕ) → 0 < var → before ≡ var - 1 → var ≤ length sizes
    → rank (drop var sizes) (drop var s) + 1 ≡ state_count (drop var sizes) → slice_index sizes before ≤ slice_index s before + 1
    → rank (drop before sizes) (drop before s) + 1 ≡ state_count (drop before sizes)
one_more sizes s is zero before some at near last high = absurd (omega arith)
one_more sizes s is (suc k) before some at near last high =
    let here : before ≡ k = omega arith in
    rw here (last_more sizes s is k (omega arith) last (rw here at high))

pub loop-var-init : goal.loop-var-init
loop-var-init c = record {
  near = omega (arith, length-IsState (sizes c.args.self.now) c.args.s.now c.requires, c.len-var.ensures);
  last = nothing_left (sizes c.args.self.now) c.args.s.now c.len-var.result c.requires c.len-var.ensures;
}

pub get-requires : goal.get-requires
get-requires c = omega (arith, length-IsState (sizes c.args.self.now) c.args.s.now c.requires, c.loop-var.invariant.near)

pub loop-var-preserved : goal.loop-var-preserved
loop-var-preserved c =
    let m = c.args.self.now in
    let vars_are = c.as_slice.ensures ∙ ap (λ (p : Process). p.vars) c.self.view_is in
    let near : c.loop-var.var - 1 < length c.as_slice.result.now =
    omega (arith, c.loop-var.invariant.near, length-sizes m, ap length vars_are) in
    let size = size_is m c.as_slice.result.now c.index-as_slice-var.result (c.loop-var.var - 1) c.len.result vars_are near c.len.ensures in
    record {
      near = omega (arith, c.loop-var.invariant.near);
      last = one_more (sizes m) c.args.s.now c.requires c.loop-var.var (c.loop-var.var - 1) c.loop-var-test.true refl c.loop-var.invariant.near c.loop-var.invariant.last
          (omega (arith, size, c.get.ensures));
    }
