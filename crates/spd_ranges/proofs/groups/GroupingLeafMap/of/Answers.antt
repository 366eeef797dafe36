use Rattle.std.proofs.Common.{◌≡◌, ◌<◌, ◌≤◌, ◌-◌, ℕ, List, take, get_or, length, sym, subst, ap, ◌∙◌, rules, of_calls}
use Rattle.std.specs.List.Sorted.{IsPartitionedBy}
use Rattle.std.proofs.lemmas.Fn.{always_returns_same}
use Rattle.spd_model.specs.Ranges.{Range}
use Rattle.spd_nodes.specs.declared.leaf.Leaf.TheVariants.{Pair}
use Rattle.spd_ranges.specs.declared.groups.Group.{Group}
use Rattle.spd_ranges.specs.inner.Groups.{begins_by, found_in}
use Rattle.spd_ranges.proofs.GroupLaws.{IsSplitAt, begun-parted, point-none, point-some}
use Rattle.spd_ranges.proofs.groups.GroupingLeafMap.of.Goals as goal

pub returns-in-Some : goal.returns-in-Some
returns-in-Some c =
    let groups : List Group = c.args.self.now.groups.items in
    let k : ℕ = c.partition_point-begun.result in
    let g : Group = c.in-Some.group.now in
    let p : Range = record { low = c.in-Pair.low; high = c.in-Pair.high } in
    let slice : c.deref.result.now ≡ groups = c.deref.ensures.value in
    let part : c.deref-in-Pair.result.now ≡ groups = c.deref-in-Pair.ensures.value in
    let key = always_returns_same _ _ _ (λ a r f k. search (rules, of_calls)) in
    let parted : IsPartitionedBy (begins_by p) c.deref.result.now = subst (λ (v : List Group). IsPartitionedBy (begins_by p) v) (sym slice) (begun-parted p groups c.args.self.now.in_order) in
    let split : IsSplitAt p groups k = subst (λ (v : List Group). IsSplitAt p v k) slice (c.partition_point-begun.ensures.bound, c.partition_point-begun.ensures.partitioned (begins_by p) key parted) in
    let item = c.in-Some.ensures.item in
    let some : 0 < length (take k groups) = subst (λ (v : List Group). 0 < length (take k v)) part item.3.0 in
    let last : g ≡ get_or (take k groups) (length (take k groups) - 1) g = subst (λ (v : List Group). g ≡ get_or (take k v) (length (take k v) - 1) g) part item.1 in
    c.range.ensures ∙ point-some p groups (Pair c.in-Pair.low c.in-Pair.high) k g split some last ∙ ap (found_in groups) (sym c.in-Pair.is)

pub returns-in-None : goal.returns-in-None
returns-in-None c =
    let groups : List Group = c.args.self.now.groups.items in
    let k : ℕ = c.partition_point-begun.result in
    let p : Range = record { low = c.in-Pair.low; high = c.in-Pair.high } in
    let slice : c.deref.result.now ≡ groups = c.deref.ensures.value in
    let part : c.deref-in-Pair.result.now ≡ groups = c.deref-in-Pair.ensures.value in
    let key = always_returns_same _ _ _ (λ a r f k. search (rules, of_calls)) in
    let parted : IsPartitionedBy (begins_by p) c.deref.result.now = subst (λ (v : List Group). IsPartitionedBy (begins_by p) v) (sym slice) (begun-parted p groups c.args.self.now.in_order) in
    let split : IsSplitAt p groups k = subst (λ (v : List Group). IsSplitAt p v k) slice (c.partition_point-begun.ensures.bound, c.partition_point-begun.ensures.partitioned (begins_by p) key parted) in
    let none : length (take k groups) ≤ 0 = subst (λ (v : List Group). length (take k v) ≤ 0) part c.in-None.ensures.item.3 in
    point-none p groups (Pair c.in-Pair.low c.in-Pair.high) k split none ∙ ap (found_in groups) (sym c.in-Pair.is)
