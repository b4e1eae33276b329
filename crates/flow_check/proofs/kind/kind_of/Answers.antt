use Rattle.std.proofs.Common.{length, drop, sym, ◌∙◌}
use Rattle.std.proofs.lemmas.Bool.{false≢true}
use Rattle.std.proofs.lemmas.Bool.Decides.{Decides-eqb}
use Rattle.std.proofs.lemmas.Slice.Eq.{starts_is}
use Rattle.flow_check.specs.TwoEnded.{two_ended_title}
use Rattle.flow_check.specs.Counted.{counted_title}
use Rattle.flow_check.proofs.kind.kind_of.Goals as goal

pub returns-then-starts_with : goal.returns-then-starts_with
returns-then-starts_with c = (
  drop (length two_ended_title) c.args.bytes.now,
  (starts_is Decides-eqb c.args.bytes.now two_ended_title c.starts_with.result c.starts_with.ensures.value).0
      c.if-starts_with.true,
)

pub returns-then-starts_with-2 : goal.returns-then-starts_with-2
returns-then-starts_with-2 c = (
  drop (length counted_title) c.args.bytes.now,
  (starts_is Decides-eqb c.args.bytes.now counted_title c.starts_with-else-starts_with.result
      c.starts_with-else-starts_with.ensures.value).0 c.if-starts_with-2.true,
)

pub returns-else-starts_with-2 : goal.returns-else-starts_with-2
returns-else-starts_with-2 c = (
  λ opens. false≢true (sym c.if-starts_with.false ∙ (starts_is Decides-eqb c.args.bytes.now two_ended_title
      c.starts_with.result c.starts_with.ensures.value).1 opens.0 opens.1),
  λ opens. false≢true (sym c.if-starts_with-2.false ∙ (starts_is Decides-eqb c.args.bytes.now counted_title
      c.starts_with-else-starts_with.result c.starts_with-else-starts_with.ensures.value).1 opens.0 opens.1),
)
