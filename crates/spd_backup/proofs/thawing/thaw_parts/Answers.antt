use Rattle.std.proofs.Common.{rules, ◌≡◌, ◌<◌, ◌∙◌, List, ℕ, length, map, take, arith, sym, subst, Err, Vec, Global, All}
use Rattle.std.specs.List.{AllZip}
use Rattle.std.proofs.lemmas.List.{length-map, take_all}
use Rattle.spd_cons_core.specs.declared.key.Entry.{Entry}
use Rattle.spd_nodes.specs.Made.{MakesAll}
use Rattle.spd_nodes.specs.Shown.{StandsFor}
use Rattle.spd_nodes.proofs.CallerLemmas.{all-out, has-made, has-none, has-then, part-failed}
use Rattle.spd_backup.proofs.BuiltLaws.{among-at, stand-next}
use Rattle.spd_backup.proofs.thawing.thaw_parts.Goals as goal

pub thaw_part-requires-clause-fit : goal.thaw_part-requires-clause-fit
thaw_part-requires-clause-fit g c =
    subst (λ (z : List ℕ). All (λ p. g.P.Listed.fits p z) c.args.parts.now) (sym c.loop-at.invariant.made.grows.sizes) c.requires.fit

pub thaw_part-requires-clause-stand : goal.thaw_part-requires-clause-stand
thaw_part-requires-clause-stand g c =
    subst (λ (l : List Entry). AllZip (StandsFor (g.F.Forest.shows c.loop-at.forest)) l (take c.loop-at.at (map g.P.Listed.function c.args.parts.now))) (sym c.deref.ensures.value) c.loop-at.invariant.stand

pub returns-in_err-refs-clause-made : goal.returns-in_err-refs-clause-made
returns-in_err-refs-clause-made g c =
    let s = g.F.Forest.shows c.args.forest.now in
    let fs = map g.P.Listed.function c.args.parts.now in
    let made : MakesAll {A = Vec Entry Global} s s fs (Err c.in_err-refs.field-0.0) = all-out c.in_err-refs.field-0.0 c.in_err-refs.ensures.memory (has-none s c.layout.ensures.sound fs) in
    search rules

pub returns-in_err-made-clause-made : goal.returns-in_err-made-clause-made
returns-in_err-made-clause-made g c =
    let old = g.F.Forest.shows c.args.forest.now in
    let fs = map g.P.Listed.function c.args.parts.now in
    let near : c.loop-at.at < length fs = omega (arith, c.loop-at-test.true, length-map c.args.parts.now g.P.Listed.function) in
    let made : MakesAll {A = Vec Entry Global} old (g.F.Forest.shows c.thaw_part.new.forest) fs (Err c.in_err-made.field-0.0) =
    part-failed c.in_err-made.field-0.0 (among-at fs c.loop-at.at near) c.loop-at.invariant.made c.in_err-made.ensures.made in
    search rules

pub returns-in_err-push-clause-made : goal.returns-in_err-push-clause-made
returns-in_err-push-clause-made g c =
    let old = g.F.Forest.shows c.args.forest.now in
    let fs = map g.P.Listed.function c.args.parts.now in
    let near : c.loop-at.at < length fs = omega (arith, c.loop-at-test.true, length-map c.args.parts.now g.P.Listed.function) in
    let made : MakesAll {A = Vec Entry Global} old (g.F.Forest.shows c.thaw_part.new.forest) fs (Err c.in_err-push.field-0.0) =
    all-out c.in_err-push.field-0.0 c.in_err-push.ensures.memory (has-then (among-at fs c.loop-at.at near) c.loop-at.invariant.made (has-made c.in_ok-made.ensures.made)) in
    search rules

pub loop-at-preserved : goal.loop-at-preserved
loop-at-preserved g c =
    let fs = map g.P.Listed.function c.args.parts.now in
    let s = g.F.Forest.shows c.loop-at.forest in
    let t = g.F.Forest.shows c.thaw_part.new.forest in
    let i = c.loop-at.at in
    let here = c.loop-at.invariant in
    let new = c.in_ok-made.ensures.made in
    let near : i < length fs = omega (arith, c.loop-at-test.true, length-map c.args.parts.now g.P.Listed.function) in
    record {
      made = has-then (among-at fs i near) here.made (has-made new);
      stand = rw c.in_ok-push.ensures.items (stand-next s t c.loop-at.refs.items fs i c.in_ok-made.made new.grows here.stand near new.ok);
      keeps = c.thaw_part.ensures.keeps ∙ here.keeps;
    }

pub returns-clause-stand : goal.returns-clause-stand
returns-clause-stand g c =
    let fs = map g.P.Listed.function c.args.parts.now in
    let all : take c.loop-at.at fs ≡ fs = take_all c.loop-at.at fs (omega (arith, length-map c.args.parts.now g.P.Listed.function)) in
    subst (AllZip (StandsFor (g.F.Forest.shows c.loop-at.forest)) c.loop-at.refs.items) all c.loop-at.invariant.stand
