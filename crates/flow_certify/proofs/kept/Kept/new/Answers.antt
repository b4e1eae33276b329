use Rattle.std.proofs.Common.{rules}
use Rattle.flow_certify.proofs.Shown.{reaches-none, writes-none}
use Rattle.flow_certify.proofs.kept.Kept.new.Goals as goal

pub returns-clause-proved : goal.returns-clause-proved
returns-clause-proved c =
    let shop = c.args.instance.now in
    record {
      start = search rules;
      best = search rules;
      before = search rules;
      attained = search rules;
      searched = rw (c.new.ensures.lower) (reaches-none shop);
      keeps = rw (c.new.ensures.lower, writes-none shop) c.none.ensures.none;
      few = rw (c.new.ensures.lower, writes-none shop) (search rules);
    }
