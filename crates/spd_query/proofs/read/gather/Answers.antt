use Rattle.std.proofs.Common.{◌≡◌, ℕ, Some, None, length, take, map, sym, ap, ◌∙◌, arith}
use Rattle.std.proofs.lemmas.List.{take_all}
use Rattle.std.proofs.lemmas.Option.{slice_get-get_or}
use Rattle.spd_query.specs.Lines.{gathered}
use Rattle.spd_query.proofs.GivenLaws.{gathered-none, gathered-all}
use Rattle.spd_query.proofs.read.gather.Goals as goal

pub returns-in-None : goal.returns-in-None
returns-in-None c = sym (gathered-none c.args.given.now c.loop-var.var (slice_get-get_or c.args.given.now c.loop-var.var None c.loop-var-test.true ∙ ap Some c.in-None.is))

pub returns : goal.returns
returns c =
    let given = c.args.given.now in
    let n = length given in
    let i = c.loop-var.var in
    let values = c.loop-var.values in
    let last : i ≡ n = omega (arith, c.loop-var-test.false, c.loop-var.auto.var-end) in
    let all : map Some (take n values) ≡ given =
    ap (λ (k : ℕ). map Some (take k values)) (sym last) ∙ c.loop-var.invariant.so_far ∙ take_all i given c.loop-var-test.false in
    ap Some c.of.ensures ∙ sym (gathered-all (take n values)) ∙ ap gathered all
