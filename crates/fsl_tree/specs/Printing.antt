-- The text of a tree: the texts of its tokens, one space between two, and LF at the end.
use Rattle.std.specs.Prelude.{ℕ, ◌-◌, ◌≡◌, ◌<◌, ◌≤◌, List, [], ◌∷◌, ◌++◌, Option, Some, None, Ok, length, take, drop}
use Rattle.std.specs.Fmt.{decimal}
use Rattle.fsl_base.specs.declared.span.Span.{Span}
use Rattle.fsl_token.specs.declared.kind.Token.{Token}
use Rattle.fsl_token.specs.declared.kind.TokenKind.{TokenKind}
use Rattle.fsl_token.specs.declared.kind.TokenKind.TheVariants as kind
use Rattle.fsl_token.specs.Words.{fixed_text}
use Rattle.fsl_token.specs.Reading.{IsName, AreTokensOf}
use Rattle.fsl_token.specs.Tokens.{lexed}
use Rattle.fsl_tree.specs.declared.file.File.{File}
use Rattle.fsl_tree.specs.SpelledExpressions.{Tokens}
use Rattle.fsl_tree.specs.Spelling.{spelling}

-- the bytes of a span
abbrev pub part_of : List ℕ → Span → List ℕ
part_of bytes span = take (span.to - span.from) (drop span.from bytes)

-- a word or a symbol has its text; else it is a number, or a name, whose text is that of its span
abbrev pub variable_text : List ℕ → TokenKind → Span → ℕ → List ℕ
variable_text bytes kind.Number span number = decimal number
variable_text bytes _ span number = part_of bytes span

abbrev pub text_or : Option (List ℕ) → List ℕ → List ℕ
text_or (Some text) other = text
text_or None other = other

abbrev pub token_text : List ℕ → Token → List ℕ
token_text bytes t = text_or (fixed_text t.kind) (variable_text bytes t.kind t.span t.number)

abbrev pub printed : List ℕ → Tokens → List ℕ
printed bytes [] = 10 ∷ []
printed bytes (t ∷ []) = token_text bytes t ++ 10 ∷ []
printed bytes (t ∷ u ∷ ts) = token_text bytes t ++ 32 ∷ printed bytes (u ∷ ts)

-- a name stands at its span, a number is one that can be written, and nothing else has a value
pub record IsHeld (bytes : List ℕ) (t : Token) : Type 0 where
  pub name : t.kind ≡ kind.Name → (t.span.from < t.span.to) × (t.span.to ≤ length bytes) × IsName t.kind t.number (part_of bytes t.span)
  pub number : t.kind ≡ kind.Number → t.number ≤ 9223372036854775808
  pub other : (t.kind ≡ kind.Number → ⊥) → t.number ≡ 0

abbrev pub AreHeld : List ℕ → Tokens → Type 0
AreHeld bytes [] = Unit {0}
AreHeld bytes (t ∷ ts) = IsHeld bytes t × AreHeld bytes ts

-- the tokens that a text was cut into are held by it
abbrev pub TokensAreHeld : Type 0
TokensAreHeld = (bytes : List ℕ) (tokens : Tokens) → AreTokensOf 0 bytes tokens → AreHeld bytes tokens

-- a token of `bytes` and one of `text` have the same kind, value and text: they differ in spans alone
pub record IsAlike (bytes : List ℕ) (t : Token) (text : List ℕ) (u : Token) : Type 0 where
  pub same_kind : t.kind ≡ u.kind
  pub same_number : t.number ≡ u.number
  pub same_text : token_text bytes t ≡ token_text text u

-- the tokens are alike one by one
abbrev pub AreAlike : List ℕ → Tokens → List ℕ → Tokens → Type 0
AreAlike bytes [] text [] = Unit {0}
AreAlike bytes [] text (u ∷ us) = ⊥
AreAlike bytes (t ∷ ts) text [] = ⊥
AreAlike bytes (t ∷ ts) text (u ∷ us) = IsAlike bytes t text u × AreAlike bytes ts text us

-- the text is cut into the tokens of a tree that differs from the file in spans alone
abbrev pub ReadsBack : List ℕ → File → List ℕ → Type 0
ReadsBack bytes file text = (again : File) × (lexed text ≡ Ok (spelling again)) × AreAlike bytes (spelling file) text (spelling again)

-- what is printed of a file reads back
abbrev pub PrintingReadsBack : Type 0
PrintingReadsBack = (bytes : List ℕ) (file : File) → AreHeld bytes (spelling file) → ReadsBack bytes file (printed bytes (spelling file))
