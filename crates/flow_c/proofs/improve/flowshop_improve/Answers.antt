use Rattle.flow_c.proofs.improve.flowshop_improve.Goals as goal

pub returns : goal.returns
returns c = c.answer.ensures.gives _ _ _ c.improve_numbers-found.ensures
