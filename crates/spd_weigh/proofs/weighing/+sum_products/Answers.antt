use Rattle.std.proofs.Common.{rules, arith, sym, ◌∙◌, ◌+◌, ◌<◌, length, pos, FitsSigned, ◌≡◌, ◌*ℤ◌, ◌+ℤ◌, drop, true}
use Rattle.std.specs.Int.{w128}
use Rattle.std.proofs.lemmas.Int.{to_z-of_z}
use Rattle.spd_weigh.specs.Summed.{each_fits, products}
use Rattle.spd_weigh.proofs.NumberLaws.{sum-goes, sum-skips, drop-end, leaves_of}
use Rattle.spd_weigh.proofs.weighing.+sum_products.Goals as goal

pub returns-then-at-list-clause-sum : goal.returns-then-at-list-clause-sum
returns-then-at-list-clause-sum g t c = sym (drop-end (g.F.Forest.shows c.args.forest.now) c.args.list.now c.args.at (search (rules, arith)))

pub sum_products-sum-requires : goal.sum_products-sum-requires
sum_products-sum-requires g t c κs within =
    let n = rw c.number_of-w.ensures.same at c.number_of-f.ensures.number in
    let lt : c.args.at + 1 < length c.args.list.now = search (rules, arith) in
    let q = sum-goes (g.F.Forest.shows c.args.forest.now) c.args.list.now c.args.at _ _ c.number_of-w.result c.number_of-f.result lt c.requires.fit c.requires.total c.number_of-w.ensures.number n in
    let e = c.number_of-f.ensures.same ∙ c.number_of-w.ensures.same in
    let a : each_fits (leaves_of (g.F.Forest.shows c.number_of-f.new.forest) (drop (c.args.at + 2) c.args.list.now)) ≡ true = rw e q.rest_fits in
    let b = q.rest_total in
    search (rules, arith)

pub overflow_mul-result : goal.overflow_mul-result
overflow_mul-result g t c =
    let n = rw c.number_of-w.ensures.same at c.number_of-f.ensures.number in
    let lt : c.args.at + 1 < length c.args.list.now = search (rules, arith) in
    let q = sum-goes (g.F.Forest.shows c.args.forest.now) c.args.list.now c.args.at _ _ c.number_of-w.result c.number_of-f.result lt c.requires.fit c.requires.total c.number_of-w.ensures.number n in
    let fw : FitsSigned w128 c.number_of-w.result = search rules in
    let ff : FitsSigned w128 c.number_of-f.result = search rules in
    rw (to_z-of_z w128 c.number_of-w.result fw, to_z-of_z w128 c.number_of-f.result ff) q.product_fits

pub overflow_add-result : goal.overflow_add-result
overflow_add-result g t c =
    let n = rw c.number_of-w.ensures.same at c.number_of-f.ensures.number in
    let lt : c.args.at + 1 < length c.args.list.now = search (rules, arith) in
    let q = sum-goes (g.F.Forest.shows c.args.forest.now) c.args.list.now c.args.at _ _ c.number_of-w.result c.number_of-f.result lt c.requires.fit c.requires.total c.number_of-w.ensures.number n in
    let fw : FitsSigned w128 c.number_of-w.result = search rules in
    let ff : FitsSigned w128 c.number_of-f.result = search rules in
    let e = c.number_of-f.ensures.same ∙ c.number_of-w.ensures.same in
    let z = rw e at c.sum_products-sum.ensures.sum in
    let fs : FitsSigned w128 c.sum_products-sum.result = search rules in
    rw (to_z-of_z w128 c.number_of-w.result fw, to_z-of_z w128 c.number_of-f.result ff, to_z-of_z w128 (c.number_of-w.result *ℤ c.number_of-f.result) q.product_fits, to_z-of_z w128 c.sum_products-sum.result fs, z) q.sum_fits

pub returns-clause-sum : goal.returns-clause-sum
returns-clause-sum g t c =
    let n = rw c.number_of-w.ensures.same at c.number_of-f.ensures.number in
    let lt : c.args.at + 1 < length c.args.list.now = search (rules, arith) in
    let q = sum-goes (g.F.Forest.shows c.args.forest.now) c.args.list.now c.args.at _ _ c.number_of-w.result c.number_of-f.result lt c.requires.fit c.requires.total c.number_of-w.ensures.number n in
    let fw : FitsSigned w128 c.number_of-w.result = search rules in
    let ff : FitsSigned w128 c.number_of-f.result = search rules in
    let e = c.number_of-f.ensures.same ∙ c.number_of-w.ensures.same in
    let z = rw e at c.sum_products-sum.ensures.sum in
    let fs : FitsSigned w128 c.sum_products-sum.result = search rules in
    let sf : FitsSigned w128 ((c.number_of-w.result *ℤ c.number_of-f.result) +ℤ c.sum_products-sum.result) = rw z q.sum_fits in
    let is : (c.number_of-w.result *ℤ c.number_of-f.result) +ℤ c.sum_products-sum.result ≡ products (leaves_of (g.F.Forest.shows c.args.forest.now) (drop c.args.at c.args.list.now)) = rw z q.sum_is in
    rw (to_z-of_z w128 c.number_of-w.result fw, to_z-of_z w128 c.number_of-f.result ff, to_z-of_z w128 (c.number_of-w.result *ℤ c.number_of-f.result) q.product_fits, to_z-of_z w128 c.sum_products-sum.result fs, to_z-of_z w128 ((c.number_of-w.result *ℤ c.number_of-f.result) +ℤ c.sum_products-sum.result) sf) is

pub sum_products-requires : goal.sum_products-requires
sum_products-requires g t c κs within =
    let lt : c.args.at + 1 < length c.args.list.now = search (rules, arith) in
    let none : c.number_of-w.result ≡ pos 0 = search rules in
    let q = sum-skips (g.F.Forest.shows c.args.forest.now) c.args.list.now c.args.at _ c.number_of-w.result lt c.requires.fit c.requires.total c.number_of-w.ensures.number none in
    let a : each_fits (leaves_of (g.F.Forest.shows c.number_of-w.new.forest) (drop (c.args.at + 2) c.args.list.now)) ≡ true = rw c.number_of-w.ensures.same q.0 in
    let b = q.1 in
    search (rules, arith)

pub returns-then-w-eq0-clause-sum : goal.returns-then-w-eq0-clause-sum
returns-then-w-eq0-clause-sum g t c =
    let lt : c.args.at + 1 < length c.args.list.now = search (rules, arith) in
    let none : c.number_of-w.result ≡ pos 0 = search rules in
    let q = sum-skips (g.F.Forest.shows c.args.forest.now) c.args.list.now c.args.at _ c.number_of-w.result lt c.requires.fit c.requires.total c.number_of-w.ensures.number none in
    let sum = rw c.number_of-w.ensures.same at c.sum_products.ensures.sum in
    let fs : FitsSigned w128 c.sum_products.result = search rules in
    rw (to_z-of_z w128 c.sum_products.result fs) (sum ∙ q.2)
