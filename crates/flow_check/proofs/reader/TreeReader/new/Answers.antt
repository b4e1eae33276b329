use Rattle.std.proofs.Common.{◌≡◌, ◌<◌, suc, ◌-◌, [], length, replicate, ap, sym, subst, ◌∙◌, arith}
use Rattle.std.proofs.lemmas.List.{get_or-replicate, length-replicate}
use Rattle.flow_check.specs.internal.Links.{AreLinks}
use Rattle.flow_check.specs.internal.Nodes.{IsListNode}
use Rattle.flow_check.specs.internal.Reader.{frame_at}
use Rattle.flow_check.specs.declared.reader.ListFrame.{ListFrame}
use Rattle.flow_check.proofs.Readers.{only-none, all-unknown, none-kept}
use Rattle.flow_check.proofs.reader.TreeReader.new.Goals as goal

pub returns : goal.returns
returns c =
    let shop = c.args.instance.now in
    let child_left = c.jobs-jobs.result - 1 in
    let value : c.jobs-jobs.result ≡ shop.jobs = c.jobs-jobs.ensures.value in
    let count : shop.jobs ≡ suc child_left = omega (arith, value, c.jobs-jobs.ensures.limits) in
    let root : ListFrame = record { node = c.root.result; job = 0; last = 0 } in
    let frames : c.in_ok-frames.frames.items ≡ replicate c.jobs-jobs.result root =
    c.in_ok-frames.ensures.items_if_clones_equal (λ y e. e) in
    let within : child_left < c.jobs-jobs.result = omega (arith, value, count) in
    let here : frame_at c.in_ok-frames.frames.items child_left ≡ root =
    ap (λ fs. frame_at fs child_left) frames ∙ get_or-replicate c.jobs-jobs.result child_left root _ within in
    record {
      at = record {
        is_node = subst (λ node. IsListNode shop [] node (suc child_left)) (sym (ap (λ f. f.node) here))
            (subst (IsListNode shop [] c.root.result) count c.root.ensures);
        are_links = subst (λ jobs. AreLinks jobs [] c.in_ok-links.links.items) value c.in_ok-links.ensures;
      };
      room = ap length frames ∙ length-replicate c.jobs-jobs.result root ∙ value;
      lags = none-kept shop [] c.in_ok-lags.lags.items (all-unknown _ c.in_ok-lags.lags.items
          (c.in_ok-lags.ensures.items_if_clones_equal (only-none _ (λ known e. e))));
    }
