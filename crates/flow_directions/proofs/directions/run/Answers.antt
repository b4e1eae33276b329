use Rattle.std.proofs.Common.{arith}
use Rattle.flow_directions.proofs.directions.run.Goals as goal

pub search-requires-clause-tree : goal.search-requires-clause-tree
search-requires-clause-tree g c =
    let at = c.requires.at in
    c.in_ok-open.ensures.tree c.args.terms.threshold at.0 at.1 at.2 at.3
    (c.in_ok-tree.ensures.tree c.args.terms.threshold c.limit_of.ensures (omega (arith, c.limit_of.ensures, c.requires.cap)))

pub search-requires-clause-at : goal.search-requires-clause-at
search-requires-clause-at g c =
    let at = c.requires.at in (
      at.0,
      at.1,
      at.2.are_jobs,
      c.in_ok-open.ensures.at c.args.terms.threshold at.0 at.1 at.2 at.3
          (c.in_ok-tree.ensures.tree c.args.terms.threshold c.limit_of.ensures
          (omega (arith, c.limit_of.ensures, c.requires.cap))),
    )

pub open-requires-clause-at : goal.open-requires-clause-at
open-requires-clause-at g c =
    let at = c.requires.at in (
      c.args.terms.threshold,
      at.0,
      at.1,
      at.2,
      at.3,
      c.in_ok-tree.ensures.tree c.args.terms.threshold c.limit_of.ensures (omega (arith, c.limit_of.ensures, c.requires.cap)),
    )
