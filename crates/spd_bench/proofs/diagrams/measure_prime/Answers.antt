use Rattle.spd_bench.proofs.CountLaws.{count-plain}
use Rattle.spd_bench.proofs.diagrams.measure_prime.Goals as goal

pub prime-requires-clause-plain : goal.prime-requires-clause-plain
prime-requires-clause-plain g c = count-plain c.requires.sum
