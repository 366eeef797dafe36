use Rattle.std.proofs.Common.{[], ◌∷◌}
use Rattle.spd_syntax.specs.Positions.{file_begins}
use Rattle.spd_syntax.proofs.FrontLaws.{fault-front, front_stays}
use Rattle.spd_syntax.proofs.laws.law_front.Goals as goal

pub returns : goal.returns
returns c = record {
  stays = λ file front behind r. front_stays file front behind (file_begins ∷ []) r;
  joined = λ file front behind. fault-front file front behind (file_begins ∷ []);
}
