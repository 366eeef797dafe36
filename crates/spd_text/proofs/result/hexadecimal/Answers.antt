use Rattle.std.proofs.Common.{arith, ap, ◌∙◌, length}
use Rattle.hex.specs.Hex.{encode_lower}
use Rattle.spd_text.proofs.WritingLaws.{on-ok}
use Rattle.spd_text.proofs.result.hexadecimal.Goals as goal

pub returns : goal.returns
returns c =
    let e = c.encode_to_slice.ensures in
    on-ok c.encode_to_slice.result (e.fits.1 (omega (arith, c.told-digest, ap length c.as_slice.ensures))) e.written ∙ ap encode_lower c.as_slice.ensures
