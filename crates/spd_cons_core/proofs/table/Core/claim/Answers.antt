use Rattle.std.proofs.Common.{◌≡◌, ap, arith}
use Rattle.spd_cons_core.proofs.Bounds.{claims_below}
use Rattle.spd_cons_core.proofs.table.Core.claim.Goals as goal

pub overflow_add-self : goal.overflow_add-self
overflow_add-self c =
    let now = c.args.self.now in
    let same : c.self.inside.claims ≡ now.claims = ap (λ m. m.claims) c.self.view_is in
    let below = claims_below now c.requires.sound in
    let limit = c.requires.sized.limit_high in
    let most = c.requires.sized.most_high in
    omega arith
