-- The nesting at each token: how many brackets are open there, and unary signs whose factor hasn't ended.
use Rattle.std.specs.Prelude.{ℕ, Bool, true, false, if◌then◌else◌, List, [], ◌∷◌, length, max}
use Rattle.fsl_token.specs.declared.kind.TokenKind.{TokenKind}
use Rattle.fsl_token.specs.declared.kind.TokenKind.TheVariants as kind
use Rattle.fsl_tree.specs.SpelledExpressions.{Tokens}

pub data Opened : Type 0 where
  Bracket : Opened
  Negation : Opened

-- what is open after some tokens, the innermost first, and whether the last of them ended a factor
pub record Open : Type 0 where
  pub opened : List Opened
  pub ended : Bool

-- the signs before a factor end with it
abbrev pub factor_ends : List Opened → List Opened
factor_ends [] = []
factor_ends (Bracket ∷ opened) = Bracket ∷ opened
factor_ends (Negation ∷ opened) = factor_ends opened

abbrev pub bracket_closes : List Opened → List Opened
bracket_closes [] = []
bracket_closes (first ∷ opened) = opened

-- a `-` is a sign where no factor has just ended
abbrev pub opened_after : TokenKind → List Opened → Bool → List Opened
opened_after kind.OpenParen opened ended = Bracket ∷ opened
opened_after kind.OpenBrace opened ended = Bracket ∷ opened
opened_after kind.OpenBracket opened ended = Bracket ∷ opened
opened_after kind.CloseParen opened ended = factor_ends (bracket_closes opened)
opened_after kind.CloseBrace opened ended = bracket_closes opened
opened_after kind.CloseBracket opened ended = bracket_closes opened
opened_after kind.Number opened ended = factor_ends opened
opened_after kind.Name opened ended = factor_ends opened
opened_after kind.ResultWord opened ended = factor_ends opened
opened_after kind.Minus opened ended = if ended then opened else Negation ∷ opened
opened_after which opened ended = opened

abbrev pub ends_factor : TokenKind → Bool
ends_factor kind.Number = true
ends_factor kind.Name = true
ends_factor kind.ResultWord = true
ends_factor kind.CloseParen = true
ends_factor which = false

abbrev pub after_one : TokenKind → Open → Open
after_one which o = record { opened = opened_after which o.opened o.ended; ended = ends_factor which }

-- the greatest nesting at a token, where so much is open before the first
abbrev pub deepest_from : Open → Tokens → ℕ
deepest_from o [] = 0
deepest_from o (token ∷ tokens) = max (length (after_one token.kind o).opened) (deepest_from (after_one token.kind o) tokens)

abbrev pub deepest : Tokens → ℕ
deepest = deepest_from (record { opened = []; ended = false })
