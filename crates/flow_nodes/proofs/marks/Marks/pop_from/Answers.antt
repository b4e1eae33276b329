use Rattle.std.proofs.Common.{rules, ◌≡◌, ℕ, ◌*◌, ◌<◌, ◌≤◌, ap, ◌∙◌, inl, inr, arith}
use Rattle.std.proofs.lemmas.Bool.{cases_lt, cases_eq}
use Rattle.flow_nodes.specs.Marks.{mark}
use Rattle.flow_nodes.proofs.MarkSteps.{chosen-first, cleared-fewer, none-chosen}
use Rattle.flow_nodes.proofs.marks.Marks.pop_from.Goals as goal

pub returns-clause-fewer : goal.returns-clause-fewer
returns-clause-fewer c place marked =
    cleared-fewer c.args.self.now.words c.clear.new.self.words c.in-Some.place c.in-Some.ensures.marked
    c.clear.ensures.same c.clear.ensures.others place marked

pub returns-clause-first : goal.returns-clause-first
returns-clause-first c names size =
    chosen-first c.args.self.now.words c.clear.new.self.words c.in-Some.place c.in-Some.ensures.marked
    c.clear.ensures.same c.clear.ensures.others names (omega (arith, size, c.in-Some.ensures.within))
    (λ i low. elim (cases_lt i c.args.from) [
      | inl before ↦ c.requires.before i before
      | inr behind ↦ c.in-Some.ensures.least i behind low
    ])

pub returns-clause-before : goal.returns-clause-before
returns-clause-before c other low = elim (cases_eq other c.in-Some.place) [
  | inl same ↦ ap (mark c.clear.new.self.words) same ∙ c.clear.ensures.same
  | inr apart ↦
      c.clear.ensures.others other apart ∙ (elim (cases_lt other c.args.from) [
        | inl before ↦ c.requires.before other before
        | inr behind ↦ c.in-Some.ensures.least other behind (omega (arith, low, apart))
      ])
]

pub returns-in_default-clause-none : goal.returns-in_default-clause-none
returns-in_default-clause-none c names size =
    let none : (other : ℕ) → c.args.from ≤ other → other < c.args.words * 16 → mark c.args.self.now.words other ≡ 0 =
    search rules in
    none-chosen c.args.self.now.words names (λ i low. elim (cases_lt i c.args.from) [
      | inl before ↦ c.requires.before i before
      | inr behind ↦ none i behind (omega (arith, size, low))
    ])
