use Rattle.std.proofs.Common.{◌≡◌, ◌+◌, ◌-◌, ◌*◌, ◌≤◌, length, take, drop, subst, ap, sym, ◌∙◌, arith}
use Rattle.flow_shop.specs.Sequences.{AreJobs}
use Rattle.flow_search.specs.Plans.{Planned, prefixes_of, prefix_of}
use Rattle.flow_search.specs.internal.Stored.{IsStored}
use Rattle.flow_search.proofs.CutLemmas.{joined-fits}
use Rattle.flow_search.proofs.Prefixes.{IsPrefix, prefix-is, stored-size, stored-prefix}
use Rattle.flow_search.proofs.plan.Plan.prefix.Goals as goal

pub slice_bounds-result-end : goal.slice_bounds-result-end
slice_bounds-result-end c =
    let plan : Planned = c.args.self.now in
    let stored : IsStored plan c.self.inside.count c.self.inside.lists.items c.self.inside.rows.items =
    subst (λ p. IsStored p c.self.inside.count c.self.inside.lists.items c.self.inside.rows.items) c.self.view_is
    c.self.invariant in
    let depth : c.depth-depth.result ≡ plan.options.depth = c.depth-depth.ensures.value
    ∙ ap (λ p. p.options.depth) c.self.view_is in
    let size : length c.deref.result.now ≡ length (prefixes_of plan) * c.depth-depth.result =
    ap length c.deref.ensures.value
    ∙ stored-size plan c.self.inside.count c.self.inside.lists.items c.self.inside.rows.items stored
    ∙ ap (λ d. length (prefixes_of plan) * d) (sym depth) in
    let fits : c.args.number * c.depth-depth.result + c.depth-depth.result
    ≤ length (prefixes_of plan) * c.depth-depth.result =
    joined-fits c.depth-depth.result (length (prefixes_of plan)) c.args.number c.requires in
    omega (arith, size, fits)

pub returns-clause-value : goal.returns-clause-value
returns-clause-value c =
    let plan : Planned = c.args.self.now in
    let stored : IsStored plan c.self.inside.count c.self.inside.lists.items c.self.inside.rows.items =
    subst (λ p. IsStored p c.self.inside.count c.self.inside.lists.items c.self.inside.rows.items) c.self.view_is
    c.self.invariant in
    let depth : c.depth-depth.result ≡ plan.options.depth = c.depth-depth.ensures.value
    ∙ ap (λ p. p.options.depth) c.self.view_is in
    ap (λ d. take (c.args.number * d + d - c.args.number * d) (drop (c.args.number * d) c.deref.result.now)) depth
    ∙ ap (λ xs. take (c.args.number * plan.options.depth
    + plan.options.depth - c.args.number * plan.options.depth) (drop
    (c.args.number * plan.options.depth) xs)) c.deref.ensures.value
    ∙ stored-prefix plan c.self.inside.count c.self.inside.lists.items c.self.inside.rows.items c.args.number
    stored c.requires

pub returns-clause-jobs : goal.returns-clause-jobs
returns-clause-jobs c =
    let is : IsPrefix c.args.self.now.shop.jobs c.args.self.now.options.depth
    (prefix_of c.args.self.now c.args.number) = prefix-is c.args.self.now c.args.number c.requires in
    subst (AreJobs c.args.self.now.shop.jobs) (sym (returns-clause-value c)) is.jobs
