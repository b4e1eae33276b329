use Rattle.flow_c.proofs.beam.flowshop_beam.Goals as goal

pub returns : goal.returns
returns c = c.answer.ensures.gives _ _ _ c.beam_of-found.ensures
