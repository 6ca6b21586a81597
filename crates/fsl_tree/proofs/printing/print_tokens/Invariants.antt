use Rattle.std.proofs.Common.{◌≡◌, ◌++◌, length}
use Rattle.fsl_tree.specs.Printing.{printed, AreHeld}
use Rattle.fsl_tree.proofs.printing.print_tokens.Given as goal

-- what is printed and what is left to print are the whole
abbrev pub invariant-loop-token : goal.invariant-loop-token
invariant-loop-token l = (l.text ++ printed l.bytes l.rest ≡ printed l.bytes l.tokens) × AreHeld l.bytes l.rest

abbrev pub decreases-loop-token : goal.decreases-loop-token
decreases-loop-token l = length l.rest
