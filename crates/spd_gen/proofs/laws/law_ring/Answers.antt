use Rattle.spd_gen.proofs.LawfulLaws.{ring-lawful}
use Rattle.spd_gen.proofs.ValidLaws.{ring-valid}
use Rattle.spd_gen.proofs.FileText.{ring-short, ring-reads}
use Rattle.spd_gen.proofs.laws.law_ring.Goals as goal

pub returns : goal.returns
returns c = record { short = λ n low high. ring-short n high; read = ring-reads; lawful = ring-lawful; valid = λ n low high. ring-valid n high }
