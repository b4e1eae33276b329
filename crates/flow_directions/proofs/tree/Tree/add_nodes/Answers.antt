use Rattle.std.proofs.Common.{◌≡◌, ◌∷◌, [], length, length-append, take, slice_index_or, ap, sym, ◌∙◌}
use Rattle.std.proofs.Common.{subst, arith}
use Rattle.std.proofs.lemmas.List.{take-append-le}
use Rattle.flow_nodes.specs.Open.{HasRoomToOpen}
use Rattle.flow_directions.proofs.TreeSteps.{each-push}
use Rattle.flow_directions.proofs.tree.Tree.add_nodes.Goals as goal

pub nodes-preserved : goal.nodes-preserved
nodes-preserved g c =
    let shop = c.args.instance.now in
    let packs = c.nodes.self.packs.items in
    let old = c.nodes.self.nodes.items in
    let node = c.in_ok-node.node in
    let items = c.in_ok-push.ensures.items in
    let count : c.len-in-nodes.result ≡ length packs =
    omega (arith, c.len-in-nodes.ensures, c.nodes.self.packs.ok.0) in
    let room = subst (λ n. HasRoomToOpen shop n node) count c.in_ok-node.ensures in
    record {
      packs = c.nodes.invariant.packs;
      tree = λ threshold tree.
          let before = c.nodes.invariant.tree threshold tree in
          record {
            limit = before.limit;
            capped = before.capped;
            opener = before.opener;
            packs = before.packs;
            nodes = λ place none low.
                subst (λ ns. HasRoomToOpen shop (length packs) (slice_index_or ns place none)) (sym items)
                (each-push (λ _ n. HasRoomToOpen shop (length packs) n) old node room before.nodes place none
                (omega (arith, low, ap length items)));
          };
      more = omega (arith, c.nodes.invariant.more, ap length items, length-append old (node ∷ []));
      begin =
          ap (take (length c.args.self.now.nodes.items)) items
          ∙ take-append-le (length c.args.self.now.nodes.items) old (node ∷ []) c.nodes.invariant.more
          ∙ c.nodes.invariant.begin;
    }

pub returns-in_err-push-clause-tree : goal.returns-in_err-push-clause-tree
returns-in_err-push-clause-tree g c threshold tree =
    let before = c.nodes.invariant.tree threshold tree in
    let items = c.in_err-push.ensures.items in
    record {
      limit = before.limit;
      capped = before.capped;
      opener = before.opener;
      packs = before.packs;
      nodes = λ place none low.
          subst (λ ns. HasRoomToOpen c.args.instance.now (length c.nodes.self.packs.items)
          (slice_index_or ns place none)) (sym items) (before.nodes place none (omega (arith, low, ap length items)));
    }
