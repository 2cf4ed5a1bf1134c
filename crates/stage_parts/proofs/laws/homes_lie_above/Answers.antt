use Rattle.stage_parts.proofs.Tops.{near, near_root, homes-above}
use Rattle.stage_parts.proofs.laws.homes_lie_above.Goals as goal

pub returns : goal.returns
returns c = record {
  near = near;
  near_root = near_root;
  above = λ gathers ins homes j forest are b. (homes-above gathers ins homes forest are j b).above;
  most = λ gathers ins homes j forest are b. (homes-above gathers ins homes forest are j b).most;
  home_gathers = λ gathers ins homes j forest are b. (homes-above gathers ins homes forest are j b).gathering;
}
