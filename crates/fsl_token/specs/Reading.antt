-- What tokens say of the text that they were cut from: it is a gap, the first token's text, a gap, and so on.
use Rattle.std.specs.Prelude.{◌≡◌, ℕ, ◌+◌, ◌<◌, ◌≤◌, ◌⊎◌, true, List, [], ◌∷◌, ◌++◌, Some, length, codes, All}
use Rattle.std.specs.List.{concat}
use Rattle.std.specs.Str.{IsUtf8}
use Rattle.std.specs.Str.Parse.{digits_value}
use Rattle.fsl_token.specs.declared.kind.Token.{Token}
use Rattle.fsl_token.specs.declared.kind.TokenKind.{TokenKind}
use Rattle.fsl_token.specs.Tokens.{is_blank, comment_len, leading_digits, leading_name}
use Rattle.fsl_token.specs.Words.{fixed_text, word_kind}

abbrev pub IsBlank : List ℕ → Type 0
IsBlank part = (b : ℕ) × (is_blank b ≡ true) × (part ≡ b ∷ [])

-- `//` and a text without LF
abbrev pub IsComment : List ℕ → Type 0
IsComment part = (text : List ℕ) × (part ≡ codes "//" ++ text) × (comment_len text ≡ length text)

abbrev pub IsBlankOrComment : List ℕ → Type 0
IsBlankOrComment part = IsBlank part ⊎ IsComment part

-- blanks and comments
abbrev pub IsGap : List ℕ → Type 0
IsGap gap = (parts : List (List ℕ)) × (concat parts ≡ gap) × All IsBlankOrComment parts

-- a reserved word or a symbol
abbrev pub IsFixed : TokenKind → ℕ → List ℕ → Type 0
IsFixed kind number text = (fixed_text kind ≡ Some text) × (number ≡ 0)

-- a name that is no reserved word, as UTF-8
abbrev pub IsName : TokenKind → ℕ → List ℕ → Type 0
IsName kind number text = (kind ≡ TokenKind.Name) × (word_kind text ≡ TokenKind.Name) × (leading_name text ≡ text) × (length text ≤ 64) × (number ≡ 0) × IsUtf8 text

-- digits, with the number that they write
abbrev pub IsNumber : TokenKind → ℕ → List ℕ → Type 0
IsNumber kind number text = (kind ≡ TokenKind.Number) × (leading_digits text ≡ text) × (digits_value 10 text ≡ number) × (number ≤ 9223372036854775808)

-- the text is one of a token of this kind and value
abbrev pub IsTextOf : TokenKind → ℕ → List ℕ → Type 0
IsTextOf kind number text = IsFixed kind number text ⊎ (IsName kind number text ⊎ IsNumber kind number text)

-- the bytes from the number `at` on are gaps and the tokens' texts in turn, each at its span, and a gap at the end
abbrev pub AreTokensOf : ℕ → List ℕ → List Token → Type 0
AreTokensOf at bytes [] = IsGap bytes
AreTokensOf at bytes (t ∷ ts) = (gap : List ℕ) × (text : List ℕ) × (rest : List ℕ) × (bytes ≡ gap ++ (text ++ rest)) × IsGap gap × (0 < length text)
    × (t.span.from ≡ at + length gap) × (t.span.to ≡ t.span.from + length text) × IsTextOf t.kind t.number text × AreTokensOf t.span.to rest ts
