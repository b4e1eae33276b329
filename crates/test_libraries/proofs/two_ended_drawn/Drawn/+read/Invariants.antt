use Rattle.test_libraries.proofs.two_ended_drawn.Drawn.+read.Given as goal

abbrev pub decreases-read : goal.decreases-read
decreases-read l = l.left
