use Rattle.std.proofs.Common.{◌≤◌, ◌++◌, length, take, ℕ, List, ap, arith, rules, ◌∙◌}
use Rattle.spd_scaled.specs.Units.{last_digits}
use Rattle.spd_scaled.proofs.CallerLemmas.UnitsLaws.{padded_text, length-last_digits, without_first}
use Rattle.spd_scaled.proofs.text.put_places.Goals as goal

pub slice_bounds-put-count : goal.slice_bounds-put-count
slice_bounds-put-count c =
    let padded = padded_text c.args.places c.args.n c.units_of_one-one.result _ c.requires.places c.units_of_one-one.ensures (c.as_bytes-padded.ensures.value ∙ c.format.ensures.text) in
    rw padded (omega arith)

pub slice_bounds-put-start : goal.slice_bounds-put-start
slice_bounds-put-start c =
    let padded = padded_text c.args.places c.args.n c.units_of_one-one.result _ c.requires.places c.units_of_one-one.ensures (c.as_bytes-padded.ensures.value ∙ c.format.ensures.text) in
    let some : 1 ≤ length c.as_bytes-padded.result.now = rw padded (omega arith) in
    search rules

pub put-requires : goal.put-requires
put-requires c =
    let padded = padded_text c.args.places c.args.n c.units_of_one-one.result _ c.requires.places c.units_of_one-one.ensures (c.as_bytes-padded.ensures.value ∙ c.format.ensures.text) in
    let digits = without_first 49 _ (last_digits c.args.places c.args.n) padded in
    let few : c.args.places ≤ 12 = omega arith in
    rw digits (omega (arith, length-last_digits c.args.places c.args.n))

pub returns-clause-end : goal.returns-clause-end
returns-clause-end c =
    let padded = padded_text c.args.places c.args.n c.units_of_one-one.result _ c.requires.places c.units_of_one-one.ensures (c.as_bytes-padded.ensures.value ∙ c.format.ensures.text) in
    let digits = without_first 49 _ (last_digits c.args.places c.args.n) padded in
    omega (arith, ap length digits, length-last_digits c.args.places c.args.n)

pub returns-clause-text : goal.returns-clause-text
returns-clause-text c =
    let padded = padded_text c.args.places c.args.n c.units_of_one-one.result _ c.requires.places c.units_of_one-one.ensures (c.as_bytes-padded.ensures.value ∙ c.format.ensures.text) in
    let digits = without_first 49 _ (last_digits c.args.places c.args.n) padded in
    c.put.ensures.text ∙ ap (λ (ds : List ℕ). take c.args.at c.args.buf.now ++ ds) digits
