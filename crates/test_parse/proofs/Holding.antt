-- The tokens of a tree that was read are held by the text that they were cut from.
use Rattle.std.proofs.Common.{ℕ, ◌≡◌, List, sym, subst}
use Rattle.fsl_token.specs.Reading.{AreTokensOf}
use Rattle.fsl_tree.specs.SpelledExpressions.{Tokens}
use Rattle.fsl_tree.specs.Printing.{AreHeld, TokensAreHeld}

pub held : (law : TokensAreHeld) (bytes : List ℕ) (tokens spelled : Tokens) → AreTokensOf 0 bytes tokens → spelled ≡ tokens → AreHeld bytes spelled
held law bytes tokens spelled are is = subst (AreHeld bytes) (sym is) (law bytes tokens are)
