use Rattle.std.proofs.Common.{◌≤◌, ◌*◌, ◌+◌, length}
use Rattle.fsl_token.specs.declared.kind.TokenKind.TheVariants as kind
use Rattle.fsl_grammar.specs.Heads.{is_next}
use Rattle.fsl_grammar.specs.ReadExpressions.{is_sign_next, read_addend, read_multiplier, read_factor}
use Rattle.fsl_grammar.proofs.Turns.{Going}
use Rattle.fsl_parse.proofs.parser.Parser.+expression.Given as goal

abbrev pub decreases-expression : goal.decreases-expression
decreases-expression l = 8 * l.room + 7

abbrev pub decreases-addends : goal.decreases-addends
decreases-addends l = 8 * l.room + 6

abbrev pub decreases-addend : goal.decreases-addend
decreases-addend l = 8 * l.room + 5

abbrev pub decreases-term : goal.decreases-term
decreases-term l = 8 * l.room + 4

abbrev pub decreases-multipliers : goal.decreases-multipliers
decreases-multipliers l = 8 * l.room + 3

abbrev pub decreases-multiplier : goal.decreases-multiplier
decreases-multiplier l = 8 * l.room + 2

abbrev pub decreases-factor : goal.decreases-factor
decreases-factor l = 8 * l.room + 1

abbrev pub decreases-negative : goal.decreases-negative
decreases-negative l = 8 * l.room + 0

abbrev pub decreases-group : goal.decreases-group
decreases-group l = 8 * l.room + 0

abbrev pub invariant-addends-addends : goal.invariant-addends-addends
invariant-addends-addends l = record {
  shorter : length l.self.rest.now ≤ length l.fn.self.rest.now;
  going : Going is_sign_next (read_addend (read_factor l.room)) l.fn.self.rest.now l.more l.self.rest.now;
}

abbrev pub decreases-addends-addends : goal.decreases-addends-addends
decreases-addends-addends l = length l.self.rest.now

abbrev pub invariant-multipliers-multipliers : goal.invariant-multipliers-multipliers
invariant-multipliers-multipliers l = record {
  shorter : length l.self.rest.now ≤ length l.fn.self.rest.now;
  going : Going (is_next kind.Star) (read_multiplier (read_factor l.room)) l.fn.self.rest.now l.more l.self.rest.now;
}

abbrev pub decreases-multipliers-multipliers : goal.decreases-multipliers-multipliers
decreases-multipliers-multipliers l = length l.self.rest.now
