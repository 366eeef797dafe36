use Rattle.std.proofs.Common.{List, subst, inl, inr}
use Rattle.std.specs.Prelude.{Contains}
use Rattle.std.proofs.lemmas.List.Elements.{Contains-append_left, Contains-append_right, Contains-append_cases}
use Rattle.spd_gather.specs.Rows.{Row}
use Rattle.spd_gather.proofs.table.Table.put.Goals as goal

pub returns-then-list-eq-SHORT : goal.returns-then-list-eq-SHORT
returns-then-list-eq-SHORT c row m =
    let i = c.self.inside in
    elim (Contains-append_cases i.long c.put.new.self row m) [
      | inl b ↦ inl (subst (λ (l : List Row). Contains l row) c.self.view_is (Contains-append_left i.long i.short row b))
      | inr b ↦ elim (c.put.ensures row b) [
        | inl d ↦ inl (subst (λ (l : List Row). Contains l row) c.self.view_is (Contains-append_right i.long i.short row d))
        | inr d ↦ inr d
      ]
    ]

pub returns-else-list-eq-SHORT : goal.returns-else-list-eq-SHORT
returns-else-list-eq-SHORT c row m =
    let i = c.self.inside in
    elim (Contains-append_cases c.put-else-list-eq-SHORT.new.self i.short row m) [
      | inl b ↦ elim (c.put-else-list-eq-SHORT.ensures row b) [
        | inl d ↦ inl (subst (λ (l : List Row). Contains l row) c.self.view_is (Contains-append_left i.long i.short row d))
        | inr d ↦ inr d
      ]
      | inr b ↦ inl (subst (λ (l : List Row). Contains l row) c.self.view_is (Contains-append_right i.long i.short row b))
    ]
