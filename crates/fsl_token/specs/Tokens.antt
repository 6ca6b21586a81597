-- How a text is cut into tokens. The texts are lists of bytes in UTF-8.
use Rattle.std.specs.Prelude.{ℕ, zero, suc, ◌+◌, ◌-◌, Bool, List, [], ◌∷◌, Option, Some, None, Result, Ok, Err, length, nat_le, nat_lt, nat_eq, ◌==◌, ◌||◌, if◌then◌else◌, slice_index, codes}
use Rattle.std.specs.Char.{is_ascii_digit, is_newline}
use Rattle.std.specs.List.{take_while, position_or_len, starts_with}
use Rattle.std.specs.Str.{chars, encode_utf8_all, is_utf8}
use Rattle.std.specs.Str.Lossy.{utf8_valid_len}
use Rattle.std.specs.Str.Parse.{digits_value}
use Rattle.unicode_ident.specs.Ident.{is_xid_start, is_xid_continue}
use Rattle.fsl_token.specs.declared.kind.Token.{Token}
use Rattle.fsl_token.specs.declared.kind.TokenKind.{TokenKind}
use Rattle.fsl_token.specs.declared.fault.LexFault.{LexFault}
use Rattle.fsl_token.specs.declared.piece.Piece.{Piece}
use Rattle.fsl_token.specs.Words.{word_kind, symbol_kind, fixed_len}

-- a space, a tab, CR or LF
abbrev pub is_blank : ℕ → Bool
is_blank b = ((b == 32 || b == 9) || b == 13) || b == 10

-- a comment begins with `//`, and goes on up to the next LF or the end
abbrev pub begins_comment : List ℕ → Bool
begins_comment text = starts_with nat_eq text (codes "//")

abbrev pub comment_len : List ℕ → ℕ
comment_len text = position_or_len is_newline text

-- the digits that begin the text
abbrev pub leading_digits : List ℕ → List ℕ
leading_digits text = take_while is_ascii_digit text

-- a number is at most 2^63
abbrev pub number_piece : List ℕ → Piece
number_piece digits =
    if nat_le (digits_value 10 digits) 9223372036854775808 then Piece.Token TokenKind.Number (length digits) (digits_value 10 digits) else Piece.LongNumber

-- `_`, or a character with the Unicode property XID_Start
abbrev pub starts_name : ℕ → Bool
starts_name c = is_xid_start c || c == 95

-- the name that begins these characters, as long as possible: after its first one come those with the property XID_Continue
abbrev pub name_chars : List ℕ → List ℕ
name_chars [] = []
name_chars (c ∷ cs) = if starts_name c then c ∷ take_while is_xid_continue cs else []

-- the bytes of the name that begins the text, none where no name does
abbrev pub leading_name : List ℕ → List ℕ
leading_name text = encode_utf8_all (name_chars (chars text))

-- a name has at most 64 bytes
abbrev pub name_piece : List ℕ → Piece
name_piece name = if nat_le (length name) 64 then Piece.Token (word_kind name) (length name) 0 else Piece.LongName

abbrev pub symbol_piece : Option TokenKind → Piece
symbol_piece None = Piece.BadChar
symbol_piece (Some kind) = Piece.Token kind (fixed_len kind) 0

-- what begins a text that isn't empty
abbrev pub first_piece : List ℕ → Piece
first_piece text =
    if is_blank (slice_index text 0) then Piece.Gap 1
    else (if begins_comment text then Piece.Gap (comment_len text)
    else (if is_ascii_digit (slice_index text 0) then number_piece (leading_digits text)
    else (if nat_lt 0 (length (leading_name text)) then name_piece (leading_name text)
    else symbol_piece (symbol_kind text))))

-- how many bytes it takes
abbrev pub piece_len : Piece → ℕ
piece_len (Piece.Gap len) = len
piece_len (Piece.Token kind len number) = len
piece_len Piece.BadChar = 1
piece_len Piece.LongNumber = 1
piece_len Piece.LongName = 1

-- more tokens, behind one
abbrev pub cons_token : Token → Result (List Token) LexFault → Result (List Token) LexFault
cons_token token (Ok tokens) = Ok (token ∷ tokens)
cons_token token (Err fault) = Err fault

-- the piece stands at the byte `at`, and `rest` is what comes of the bytes behind it
abbrev pub with_piece : ℕ → Piece → Result (List Token) LexFault → Result (List Token) LexFault
with_piece at (Piece.Gap len) rest = rest
with_piece at (Piece.Token kind len number) rest = cons_token (record { kind = kind; span = record { from = at; to = at + len }; number = number }) rest
with_piece at Piece.BadChar rest = Err (LexFault.BadChar at)
with_piece at Piece.LongNumber rest = Err (LexFault.LongNumber at)
with_piece at Piece.LongName rest = Err (LexFault.LongName at)

-- the tokens of the bytes from the number `at` on, of which the first `inside` belong to the piece before
abbrev pub tokens_from : ℕ → ℕ → List ℕ → Result (List Token) LexFault
tokens_from at inside [] = Ok []
tokens_from at (suc inside) (b ∷ bs) = tokens_from (at + 1) inside bs
tokens_from at zero (b ∷ bs) = with_piece at (first_piece (b ∷ bs)) (tokens_from (at + 1) (piece_len (first_piece (b ∷ bs)) - 1) bs)

-- the tokens of a file, or the first fault by place; bytes that are no text have no tokens
abbrev pub lexed : List ℕ → Result (List Token) LexFault
lexed bytes = if is_utf8 bytes then tokens_from 0 0 bytes else Err (LexFault.NotText (utf8_valid_len bytes))
