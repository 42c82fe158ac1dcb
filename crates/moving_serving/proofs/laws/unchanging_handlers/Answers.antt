use Rattle.moving_runs.proofs.Alike.{met_alike}
use Rattle.moving_serving.proofs.Unchanged.{serves_alike}
use Rattle.moving_serving.proofs.laws.unchanging_handlers.Goals as goal

pub returns : goal.returns
returns g c = λ only tells w v first turns result before after x.
    let all = met_alike g.M.MovingHandlers.meets only tells w v first x.met.messages x.sheets x.calls x.met.met in
    serves_alike only x.sheets all first turns result before after x.serves
