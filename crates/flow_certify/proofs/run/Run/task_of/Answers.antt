use Rattle.flow_certify.proofs.run.Run.task_of.Goals as goal

pub returns-in-NarrowBeam-clause-asked : goal.returns-in-NarrowBeam-clause-asked
returns-in-NarrowBeam-clause-asked c = c.beam.ensures.asked c.args.self.now c.requires

pub returns-in-WideBeam-clause-asked : goal.returns-in-WideBeam-clause-asked
returns-in-WideBeam-clause-asked c = c.beam-in-WideBeam.ensures.asked c.args.self.now c.requires

pub returns-in-Aim-clause-asked : goal.returns-in-Aim-clause-asked
returns-in-Aim-clause-asked c = c.beam-in-Aim.ensures.asked c.args.self.now c.requires

pub returns-in_ok-halved-in-Halve-clause-asked : goal.returns-in_ok-halved-in-Halve-clause-asked
returns-in_ok-halved-in-Halve-clause-asked c = c.beam-in-Halve.ensures.asked c.args.self.now c.requires
