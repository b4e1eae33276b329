use Rattle.std.proofs.Common.{rules, ◌≡◌, ℕ, ◌*◌, ◌<◌, arith}
use Rattle.flow_nodes.specs.Marks.{mark}
use Rattle.flow_nodes.proofs.MarkSteps.{chosen-first, cleared-fewer, none-chosen}
use Rattle.flow_nodes.proofs.marks.Marks.pop.Goals as goal

pub returns-clause-fewer : goal.returns-clause-fewer
returns-clause-fewer c place marked =
    cleared-fewer c.args.self.now.words c.clear.new.self.words c.in-Some.first c.in-Some.ensures.marked
    c.clear.ensures.same c.clear.ensures.others place marked

pub returns-clause-first : goal.returns-clause-first
returns-clause-first c names size =
    chosen-first c.args.self.now.words c.clear.new.self.words c.in-Some.first c.in-Some.ensures.marked
    c.clear.ensures.same c.clear.ensures.others names (omega (arith, size, c.in-Some.ensures.within))
    c.in-Some.ensures.least

pub returns-in_default-clause-none : goal.returns-in_default-clause-none
returns-in_default-clause-none c names size =
    let none : (other : ℕ) → other < c.args.words * 16 → mark c.args.self.now.words other ≡ 0 = search rules in
    none-chosen c.args.self.now.words names (λ i low. none i (omega (arith, size, low)))
