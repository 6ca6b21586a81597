-- What comes next, for the private functions of the parser; no public contract names it.
use Rattle.std.specs.Prelude.{Bool, true, false, ◌&&◌, ◌==◌, List, [], ◌∷◌}
use denote.Enum.Bare.{sameb}
use Rattle.fsl_token.specs.contracts.kind.TokenKind.{the_type}
use Rattle.fsl_token.specs.declared.kind.Token.{Token}
use Rattle.fsl_token.specs.declared.kind.TokenKind.{TokenKind}
use Rattle.fsl_token.specs.declared.kind.TokenKind.TheVariants as kind
use Rattle.fsl_tree.specs.SpelledExpressions.{Tokens}

-- a token of a kind that has no value
abbrev pub is_fixed : TokenKind → Token → Bool
is_fixed kind token = sameb the_type token.kind kind && token.number == 0

-- such a token comes first
abbrev pub is_next : TokenKind → Tokens → Bool
is_next kind [] = false
is_next kind (token ∷ tokens) = is_fixed kind token

abbrev pub is_number_next : Tokens → Bool
is_number_next [] = false
is_number_next (token ∷ tokens) = sameb the_type token.kind kind.Number

-- a name and a parenthesis come first
abbrev pub is_use_next : Tokens → Bool
is_use_next [] = false
is_use_next (token ∷ tokens) = is_fixed kind.Name token && is_next kind.OpenParen tokens

abbrev pub is_more : Tokens → Bool
is_more [] = false
is_more (token ∷ tokens) = true
