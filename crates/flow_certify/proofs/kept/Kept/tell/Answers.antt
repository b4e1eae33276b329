use Rattle.std.specs.Prelude.{[]}
use Rattle.flow_shop.proofs.DirectionsSound.{proved_is_lower_bound}
use Rattle.flow_directions.specs.Search.{directions_of}
use Rattle.flow_certify.proofs.Shown.{shows-bound}
use Rattle.flow_certify.proofs.kept.Kept.tell.Goals as goal

pub tell-requires : goal.tell-requires
tell-requires g c =
    let shop = c.args.shared.now.instance.now in
    let lower = c.args.self.now.run.lower in (
      proved_is_lower_bound shop lower (directions_of shop lower [] [])
          (shows-bound shop lower c.requires.searched),
      (c.args.self.now.best, c.requires.best, c.requires.attained),
    )
