use Rattle.std.proofs.Common.{◌≤◌, length}
use Rattle.fsl_grammar.specs.ReadStatements.{is_step_next, read_step_line}
use Rattle.fsl_grammar.proofs.Turns.{Going}
use Rattle.fsl_parse.proofs.parser.Parser.step_lines.Given as goal

abbrev pub invariant-steps : goal.invariant-steps
invariant-steps l = record {
  shorter : length l.self.rest.now ≤ length l.fn.self.rest.now;
  going : Going is_step_next (read_step_line l.room) l.fn.self.rest.now l.more l.self.rest.now;
}

abbrev pub decreases-steps : goal.decreases-steps
decreases-steps l = length l.self.rest.now
