use Rattle.std.proofs.Common.{◌≡◌, length, map, take, Some}
use Rattle.spd_query.proofs.read.gather.Given as goal

abbrev pub invariant-loop-var : goal.invariant-loop-var
invariant-loop-var l = record { room : length l.values ≡ 100; so_far : map Some (take l.var l.values) ≡ take l.var l.given }
