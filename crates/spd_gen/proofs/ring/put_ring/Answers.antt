use Rattle.spd_gen.proofs.TextLaws.{whole-is}
use Rattle.spd_gen.proofs.WritingLaws.{writes-as}
use Rattle.spd_gen.proofs.ring.put_ring.Goals as goal

pub returns : goal.returns
returns g c =
    let w = writes-as _ _ _ _ _ (whole-is c.args.n) c.put_file.ensures in
    record { all = w.all; ok = w.ok; front = w.front; failed = w.failed; never_falls = w.never_falls; named = w.named }
