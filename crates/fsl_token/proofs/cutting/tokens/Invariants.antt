use Rattle.std.proofs.Common.{◌≡◌, ◌+◌, length}
use Rattle.std.specs.Str.{IsUtf8}
use Rattle.fsl_token.specs.Tokens.{tokens_from}
use Rattle.fsl_token.proofs.Lexing.{append_tokens}
use Rattle.fsl_token.proofs.cutting.tokens.Given as goal

abbrev pub invariant-loop-rest : goal.invariant-loop-rest
invariant-loop-rest l = record {
  utf8 : IsUtf8 l.rest;
  so_far : append_tokens l.tokens (tokens_from l.at 0 l.rest) ≡ tokens_from 0 0 l.text;
  place : l.at + length l.rest ≡ length l.text;
}

abbrev pub decreases-loop-rest : goal.decreases-loop-rest
decreases-loop-rest l = length l.rest
