use Rattle.std.proofs.Common.{◌++◌, ◌∷◌, [], ◌∙◌, ap, sym, true≢false}
use Rattle.std.proofs.lemmas.Result.{on_ok_weaker}
use Rattle.spd_gather.proofs.SplitLaws.{split-leaf, split-before, split-same, split-later}
use Rattle.spd_gather.proofs.halves.Sides.add.Goals as goal

pub returns-in-Leaf : goal.returns-in-Leaf
returns-in-Leaf g c =
    let root = rw c.in-Leaf.is at c.requires.root in
    on_ok_weaker c.push.result
    (λ p. split-leaf (g.F.Forest.shows c.args.forest.now) c.args.before.now c.args.self.now c.push.new.self c.args.name c.in-Leaf.field-0 c.requires.split root c.requires.known c.push.ensures.low p.0 p.1)
    c.push.ensures.sides

pub returns-in_ok-restart-in-Test : goal.returns-in_ok-restart-in-Test
returns-in_ok-restart-in-Test g c =
    let root = rw c.in-Test.is at c.requires.root in
    on_ok_weaker c.push-then-is_before.result
    (λ p. split-before (g.F.Forest.shows c.args.forest.now) c.args.before.now c.args.self.now c.push-then-is_before.new.self c.args.name c.in-Test.yes c.in-Test.no c.in-Test.level c.requires.split c.requires.before_known root.0 root.1 root.2 (c.is_before.ensures.0 c.if-is_before.true)
    (c.push-then-is_before.ensures.low ∙ c.in_ok-restart-in-Test.ensures.low) (p.0 ∙ ap (λ v. v ++ c.in-Test.yes ∷ []) c.in_ok-restart-in-Test.ensures.yes) (p.1 ∙ ap (λ v. v ++ c.in-Test.no ∷ []) c.in_ok-restart-in-Test.ensures.no))
    c.push-then-is_before.ensures.sides

pub returns-then-is_lowest : goal.returns-then-is_lowest
returns-then-is_lowest g c =
    let root = rw c.in-Test.is at c.requires.root in
    on_ok_weaker c.push-then-is_lowest.result
    (λ p. split-same (g.F.Forest.shows c.args.forest.now) c.args.before.now c.args.self.now c.push-then-is_lowest.new.self c.args.name c.in-Test.yes c.in-Test.no c.in-Test.level c.requires.split root.0 root.1 root.2
    (λ b. true≢false (sym (c.is_before.ensures.1 b) ∙ c.if-is_before.false)) (c.is_lowest.ensures.0 c.if-is_lowest.true) c.push-then-is_lowest.ensures.low p.0 p.1)
    c.push-then-is_lowest.ensures.sides

pub returns-else-is_lowest : goal.returns-else-is_lowest
returns-else-is_lowest g c =
    let root = rw c.in-Test.is at c.requires.root in
    on_ok_weaker c.push-else-is_lowest.result
    (λ p. split-later (g.F.Forest.shows c.args.forest.now) c.args.before.now c.args.self.now c.push-else-is_lowest.new.self c.args.name c.in-Test.yes c.in-Test.no c.in-Test.level c.requires.split root.0 c.requires.known
    (λ b. true≢false (sym (c.is_before.ensures.1 b) ∙ c.if-is_before.false)) (λ b. true≢false (sym (c.is_lowest.ensures.1 b) ∙ c.if-is_lowest.false)) c.push-else-is_lowest.ensures.low p.0 p.1)
    c.push-else-is_lowest.ensures.sides
