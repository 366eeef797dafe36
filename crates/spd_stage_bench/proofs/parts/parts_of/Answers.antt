use Rattle.std.proofs.Common.{pos, subst}
use Rattle.spd_model.specs.Lawful.{IsLawful}
use Rattle.spd_model.proofs.CallerLemmas.Validity.{is_valid}
use Rattle.spd_turn.specs.Turn.{value_of_turn}
use Rattle.spd_stage_bench.proofs.PartsLaws.{start-list}
use Rattle.spd_stage_bench.proofs.parts.parts_of.Goals as goal

pub thaw_parts-requires-clause-valid : goal.thaw_parts-requires-clause-valid
thaw_parts-requires-clause-valid g c =
    let b = c.requires.built in
    is_valid c.args.model.now (subst IsLawful c.model.view_is c.model.invariant) b.sums b.rewards

pub thaw_parts-requires-clause-value : goal.thaw_parts-requires-clause-value
thaw_parts-requires-clause-value g c =
    let m = c.args.model.now in
    let b = c.requires.built in
    let law = subst IsLawful c.model.view_is c.model.invariant in
    record { value = value_of_turn m (pos 0) 0; is = start-list m law (is_valid m law b.sums b.rewards) c.args.built.now b.parts }

pub returns : goal.returns
returns g c =
    let m = c.args.model.now in
    let b = c.requires.built in
    let law = subst IsLawful c.model.view_is c.model.invariant in
    let list = start-list m law (is_valid m law b.sums b.rewards) c.args.built.now b.parts in
    record { process = m; value = value_of_turn m (pos 0) 0; parts = (c.in_ok-thaw_parts.ensures.made (value_of_turn m (pos 0) 0) list).ok }
