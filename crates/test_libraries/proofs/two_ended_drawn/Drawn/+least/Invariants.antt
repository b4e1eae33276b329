use Rattle.test_libraries.proofs.two_ended_drawn.Drawn.+least.Given as goal

abbrev pub decreases-least : goal.decreases-least
decreases-least l = l.left
