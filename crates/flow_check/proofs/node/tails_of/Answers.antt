use Rattle.std.proofs.Common.{◌∙◌, inl, inr}
use Rattle.flow_check.proofs.NodeSteps.{known-more}
use Rattle.flow_check.proofs.node.tails_of.Goals as goal

pub find_tails-two-requires-clause-links : goal.find_tails-two-requires-clause-links
find_tails-two-requires-clause-links c = (c.requires.at.0, c.requires.at.2.are_links)

pub returns-then-known-clause-tails : goal.returns-then-known-clause-tails
returns-then-known-clause-tails c list left at =
    elim (at.is_node.known.each c.args.machine c.requires.machine.0 c.requires.machine.1) [
      | inl none ↦ absurd (c.if-known.true (c.at-known.ensures.least ∙ none))
      | inr two ↦ (c.at-known.ensures.least ∙ two.0, c.at-known.ensures.second ∙ two.1)
    ]

pub returns-clause-tails : goal.returns-clause-tails
returns-clause-tails c list left at = c.find_tails-two.ensures list at.are_links

pub returns-clause-kept : goal.returns-clause-kept
returns-clause-kept c list left at = record {
  is_node = known-more c.args.text.now.shop.now list c.args.node.now left c.args.machine c.find_tails-two.result
      c.args.text.now.are_rows.limits at.is_node c.requires.machine.0 c.requires.machine.1
      (c.find_tails-two.ensures list
      at.are_links);
  are_links = at.are_links;
}
