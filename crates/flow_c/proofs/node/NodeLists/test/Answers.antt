use Rattle.std.proofs.Common.{[], length, ap, sym, ◌∙◌, zero-add}
use Rattle.std.specs.Option.{option_map}
use Rattle.flow_shop.proofs.JobLists.{none-taken}
use Rattle.flow_c.specs.declared.fault.Fault.TheVariants.{Sequence}
use Rattle.flow_c.proofs.Joined.{at-first, at-last}
use Rattle.flow_c.proofs.node.NodeLists.test.Goals as goal

pub insert_all-requires : goal.insert_all-requires
insert_all-requires c =
    ([], none-taken c.args.instance.now c.none-taken.result c.none-taken.ensures.size c.none-taken.ensures.empty)

pub returns-in-Some-clause-refused : goal.returns-in-Some-clause-refused
returns-in-Some-clause-refused c =
    let none = none-taken c.args.instance.now c.none-taken.result c.none-taken.ensures.size
    c.none-taken.ensures.empty in
    ap (option_map Sequence)
    (at-first c.args.instance.now.jobs c.args.self.now.first.now c.args.self.now.last.now c.in-Some.fault
    (sym (c.in-Some.ensures.fault [] none)))

pub insert_all-requires-2 : goal.insert_all-requires-2
insert_all-requires-2 c =
    let first = c.args.self.now.first.now in
    let none = none-taken c.args.instance.now c.none-taken.result c.none-taken.ensures.size
    c.none-taken.ensures.empty in
    (first, rw (zero-add (length first)) at c.in_default.ensures.taken [] none)

pub returns-in-Some-insert_all-clause-refused : goal.returns-in-Some-insert_all-clause-refused
returns-in-Some-insert_all-clause-refused c =
    let first = c.args.self.now.first.now in
    let none = none-taken c.args.instance.now c.none-taken.result c.none-taken.ensures.size
    c.none-taken.ensures.empty in
    let taken = rw (zero-add (length first)) at c.in_default.ensures.taken [] none in
    ap (option_map Sequence)
    (at-last c.args.instance.now.jobs first c.args.self.now.last.now (sym (c.in_default.ensures.fault [] none))
    ∙ sym (c.in-Some-insert_all.ensures.fault first taken))

pub returns-in-None-clause-accepted : goal.returns-in-None-clause-accepted
returns-in-None-clause-accepted c =
    let first = c.args.self.now.first.now in
    let none = none-taken c.args.instance.now c.none-taken.result c.none-taken.ensures.size
    c.none-taken.ensures.empty in
    let taken = rw (zero-add (length first)) at c.in_default.ensures.taken [] none in
    at-last c.args.instance.now.jobs first c.args.self.now.last.now (sym (c.in_default.ensures.fault [] none))
    ∙ sym (c.in-None.ensures.fault first taken)

pub returns-in-None-clause-jobs : goal.returns-in-None-clause-jobs
returns-in-None-clause-jobs c =
    let first = c.args.self.now.first.now in
    let none = none-taken c.args.instance.now c.none-taken.result c.none-taken.ensures.size
    c.none-taken.ensures.empty in
    (c.in-None.ensures.taken first (rw (zero-add (length first)) at c.in_default.ensures.taken [] none)).are_jobs
