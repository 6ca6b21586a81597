use Rattle.std.proofs.Common.{◌≤◌, ◌*◌, ◌+◌, length}
use Rattle.fsl_grammar.specs.ReadStatements.{goes_on, read_statement}
use Rattle.fsl_grammar.proofs.Turns.{Going}
use Rattle.fsl_parse.proofs.parser.Parser.+statement.Given as goal

abbrev pub decreases-statements : goal.decreases-statements
decreases-statements l = 6 * l.room + 5

abbrev pub decreases-statement : goal.decreases-statement
decreases-statement l = 6 * l.room + 4

abbrev pub decreases-if_statement : goal.decreases-if_statement
decreases-if_statement l = 6 * l.room + 3

abbrev pub decreases-while_statement : goal.decreases-while_statement
decreases-while_statement l = 6 * l.room + 3

abbrev pub decreases-guarded : goal.decreases-guarded
decreases-guarded l = 6 * l.room + 1

abbrev pub decreases-optional_otherwise : goal.decreases-optional_otherwise
decreases-optional_otherwise l = 6 * l.room + 1

abbrev pub decreases-block : goal.decreases-block
decreases-block l = 6 * l.room + 0

abbrev pub invariant-statements-statements : goal.invariant-statements-statements
invariant-statements-statements l = record {
  shorter : length l.self.rest.now ≤ length l.fn.self.rest.now;
  going : Going goes_on (read_statement l.room) l.fn.self.rest.now l.more l.self.rest.now;
}

abbrev pub decreases-statements-statements : goal.decreases-statements-statements
decreases-statements-statements l = length l.self.rest.now
