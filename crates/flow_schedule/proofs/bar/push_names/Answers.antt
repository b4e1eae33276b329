use Rattle.std.proofs.Common.{codes}
use Rattle.flow_schedule.proofs.Texts.{two-numbers}
use Rattle.flow_schedule.proofs.bar.push_names.Goals as goal

pub returns : goal.returns
returns c =
    two-numbers c.args.out.now.items c.push_words.new.out.items c.push_words-2.new.out.items
    (codes "\"><title>job ") (codes ", machine ") c.from.result c.from-2.result c.args.operation.now.job
    c.args.operation.now.machine c.in_ok-push_words.ensures c.in_ok-push_words-2.ensures c.from.ensures
    c.from-2.ensures
