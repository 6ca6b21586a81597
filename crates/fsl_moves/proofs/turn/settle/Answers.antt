use Rattle.fsl_moves.proofs.turn.settle.Goals as goal

pub returns-in-Turns-clause-settled : goal.returns-in-Turns-clause-settled
returns-in-Turns-clause-settled c = λ p stmt is. rw (c.requires.alone, c.in-Turns.is) (c.pass.ensures p stmt)
