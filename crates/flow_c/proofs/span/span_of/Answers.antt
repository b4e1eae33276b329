use Rattle.std.proofs.Common.{refl}
use Rattle.flow_shop.proofs.Fronts.{front-empty}
use Rattle.flow_c.proofs.span.span_of.Goals as goal

pub loop-pair-init : goal.loop-pair-init
loop-pair-init c = record { length = refl; front = λ machine from to. front-empty c.args.instance.now machine }
