use Rattle.std.proofs.Common.{◌≤◌, ◌*◌, ◌+◌, length}
use Rattle.fsl_token.specs.declared.kind.TokenKind.TheVariants as kind
use Rattle.fsl_grammar.specs.Heads.{is_next}
use Rattle.fsl_grammar.specs.ReadAssertions.{read_conjunct, read_atom}
use Rattle.fsl_grammar.proofs.Turns.{Going}
use Rattle.fsl_parse.proofs.parser.Parser.+assertion.Given as goal

abbrev pub decreases-assertion : goal.decreases-assertion
decreases-assertion l = 7 * l.room + 6

abbrev pub decreases-conjuncts : goal.decreases-conjuncts
decreases-conjuncts l = 7 * l.room + 5

abbrev pub decreases-conjunct : goal.decreases-conjunct
decreases-conjunct l = 7 * l.room + 4

abbrev pub decreases-atom : goal.decreases-atom
decreases-atom l = 7 * l.room + 3

abbrev pub decreases-choice : goal.decreases-choice
decreases-choice l = 7 * l.room + 2

abbrev pub decreases-arm : goal.decreases-arm
decreases-arm l = 7 * l.room + 1

abbrev pub decreases-raised : goal.decreases-raised
decreases-raised l = 7 * l.room + 1

abbrev pub decreases-lowered : goal.decreases-lowered
decreases-lowered l = 7 * l.room + 1

abbrev pub decreases-clause : goal.decreases-clause
decreases-clause l = 7 * l.room + 0

abbrev pub decreases-part : goal.decreases-part
decreases-part l = 7 * l.room + 0

abbrev pub invariant-conjuncts-conjuncts : goal.invariant-conjuncts-conjuncts
invariant-conjuncts-conjuncts l = record {
  shorter : length l.self.rest.now ≤ length l.fn.self.rest.now;
  going : Going (is_next kind.Separate) (read_conjunct (read_atom l.room)) l.fn.self.rest.now l.more l.self.rest.now;
}

abbrev pub decreases-conjuncts-conjuncts : goal.decreases-conjuncts-conjuncts
decreases-conjuncts-conjuncts l = length l.self.rest.now
