-- A token's text with a space or LF behind it is cut off as that token.
use Rattle.std.proofs.Common.{◌≡◌, ℕ, zero, suc, ◌+◌, ◌<◌, ◌≤◌, ◌⊎◌, inl, inr, ⊎_elim, Bool, true, false, cond, Some, None, List, [], ◌∷◌, ◌++◌, length, get_or, refl, sym, ap, ◌∙◌, subst, arith, nat_eq, nat_lt, nat_le, ◌&&◌, ◌||◌, ◌==◌, not, length-append}
use Rattle.std.proofs.lemmas.Bool.{and_parts, and_right, cases_lt, true≢false, lt-ltb, lt-leb, le-leb, leb-true, ltb-true, ne_eqb, eqb-true, eqb-false, or_cases, not-true, false≢true}
use Rattle.std.proofs.lemmas.List.Sums.{take_while-cons}
use Rattle.std.proofs.lemmas.List.{get_or_append_left}
use Rattle.std.proofs.lemmas.Str.{chars-append, chars-nil, chars-IsAscii, encodes-IsAscii, encodes_same, encodes-chars, char_from_byte, IsUtf8-nil, IsUtf8-from_ascii}
use Rattle.std.proofs.Math.Seq.{drop-append_seam}
use Rattle.std.specs.Char.{is_ascii_digit, is_ascii_alphabetic}
use Rattle.std.specs.Int.{is_in_range}
use Rattle.std.specs.List.{take_while, list_all}
use Rattle.std.specs.Option.{unwrap_or}
use Rattle.std.specs.Str.{IsUtf8, IsAscii, chars, encode_utf8_all}
use Rattle.std.specs.Str.Parse.{digits_value}
use Rattle.unicode_ident.specs.Ident.{is_xid_continue}
use Rattle.unicode_ident.proofs.IdentLemmas.{is_xid_start-ascii, is_xid_continue-ascii}
use Rattle.fsl_token.specs.declared.kind.TokenKind.{TokenKind}
use Rattle.fsl_token.specs.declared.piece.Piece.{Piece}
use Rattle.fsl_token.specs.Words.{fixed_text, symbol_kind, word_kind}
use Rattle.fsl_token.specs.Tokens.{is_blank, begins_comment, leading_digits, number_piece, starts_name, name_chars, leading_name, name_piece, symbol_piece, first_piece, cons_token, tokens_from}
use Rattle.fsl_token.specs.Reading.{IsFixed, IsName, IsNumber, IsTextOf}
use Rattle.fsl_token.proofs.Pieces.{first_way, third_way, fourth_way}
use Rattle.fsl_token.proofs.Lexing.{tokens_step}

-- a space or LF
abbrev pub IsSpace : ℕ → Type 0
IsSpace b = (b ≡ 32) ⊎ (b ≡ 10)

space_small : (b : ℕ) → IsSpace b → b < 33
space_small b space = ⊎_elim (λ e. omega arith) (λ e. omega arith) space

-- ---- a run of items that pass a test, with one behind it that doesn't

kept_parts : {A : Type 0} (b : Bool) (x : A) (us zs : List A) → cond b (x ∷ us) [] ≡ x ∷ zs → (b ≡ true) × (us ≡ zs)
kept_parts true x us zs e = (refl, cc)
kept_parts false x us zs e = absurd cc

kept : {A : Type 0} (p : A → Bool) (xs : List A) (y : A) (ys : List A) → take_while p xs ≡ xs → p y ≡ false → take_while p (xs ++ y ∷ ys) ≡ xs
kept p [] y ys all ends = take_while-cons p y ys ∙ ap (λ b. cond b (y ∷ take_while p ys) []) ends
kept p (x ∷ xs) y ys all ends =
    let parts = kept_parts (p x) x (take_while p xs) xs (sym (take_while-cons p x xs) ∙ all) in
    take_while-cons p x (xs ++ y ∷ ys) ∙ ap (λ b. cond b (x ∷ take_while p (xs ++ y ∷ ys)) []) parts.0 ∙ ap (λ l. x ∷ l) (kept p xs y ys parts.1 ends)

-- ---- names

-- what is below the letters begins no name, and continues none unless it is a digit
no_letter : (c : ℕ) → c < 65 → starts_name c ≡ false
no_letter c small =
    let first = is_xid_start-ascii c (omega arith) in
    let high : nat_le 65 c ≡ false = lt-leb 65 c small in
    let low : nat_le 97 c ≡ false = lt-leb 97 c (omega arith) in
    let other : nat_eq c 95 ≡ false = ne_eqb c 95 (omega arith) in
    rw (first, high, low, other) refl

no_more : (c : ℕ) → c < 48 → is_xid_continue c ≡ false
no_more c small =
    let first = is_xid_continue-ascii c (omega arith) in
    let digit : nat_le 48 c ≡ false = lt-leb 48 c small in
    let high : nat_le 65 c ≡ false = lt-leb 65 c (omega arith) in
    let low : nat_le 97 c ≡ false = lt-leb 97 c (omega arith) in
    let other : nat_eq c 95 ≡ false = ne_eqb c 95 (omega arith) in
    rw (first, digit, high, low, other) refl

name_chars_kept : (cs : List ℕ) (b : ℕ) (ds : List ℕ) → name_chars cs ≡ cs → 0 < length cs → is_xid_continue b ≡ false → name_chars (cs ++ b ∷ ds) ≡ cs
name_chars_kept [] b ds all some ends = absurd (omega arith)
name_chars_kept (c ∷ cs) b ds all some ends =
    let parts = kept_parts (starts_name c) c (take_while is_xid_continue cs) cs all in
    ap (λ x. cond x (c ∷ take_while is_xid_continue (cs ++ b ∷ ds)) []) parts.0 ∙ ap (λ l. c ∷ l) (kept is_xid_continue cs b ds parts.1 ends)

-- ---- texts

is_ascii_text : List ℕ → Bool
is_ascii_text text = list_all (λ b. nat_lt b 128) text

ascii_all : (text : List ℕ) → is_ascii_text text ≡ true → IsAscii text
unfolding is_ascii_text
ascii_all [] all i = omega arith
ascii_all (b ∷ bs) all zero = ltb-true b 128 (and_parts _ _ all).0
ascii_all (b ∷ bs) all (suc i) = ascii_all bs (and_parts _ _ all).1 i

pub alone : (b : ℕ) → b < 128 → IsAscii (b ∷ [])
alone b small zero = small
alone b small (suc i) = omega arith

-- the characters of a text with an ASCII byte behind it
chars_more : (text rest : List ℕ) (b : ℕ) → IsUtf8 text → b < 128 → chars (text ++ b ∷ rest) ≡ chars text ++ b ∷ chars rest
chars_more text rest b utf8 small =
    let one = alone b small in
    chars-append text (b ∷ rest) utf8 ∙ ap (λ l. chars text ++ l) (chars-append (b ∷ []) rest (IsUtf8-from_ascii (b ∷ []) one) ∙ ap (λ l. l ++ chars rest) (chars-IsAscii (b ∷ []) one))

some_of : (cs text : List ℕ) → encode_utf8_all cs ≡ text → 0 < length text → 0 < length cs
some_of [] text e some = let none = ap length e in absurd (omega arith)
some_of (c ∷ cs) text e some = omega arith

-- the name that begins a name with such a byte behind it is the name
name_kept : (text rest : List ℕ) (b : ℕ) → leading_name text ≡ text → IsUtf8 text → 0 < length text → b < 48 → leading_name (text ++ b ∷ rest) ≡ text
name_kept text rest b whole utf8 some small =
    let all : name_chars (chars text) ≡ chars text = encodes_same _ _ (whole ∙ sym (encodes-chars text utf8)) in
    ap (λ cs. encode_utf8_all (name_chars cs)) (chars_more text rest b utf8 (omega arith))
    ∙ ap encode_utf8_all (name_chars_kept (chars text) b (chars rest) all (some_of (chars text) text (encodes-chars text utf8) some) (no_more b small)) ∙ encodes-chars text utf8

-- its first byte is no blank, no slash and no digit
high_of : (cs text : List ℕ) → encode_utf8_all cs ≡ text → name_chars cs ≡ cs → 0 < length text → 65 ≤ get_or text 0 0
high_of [] text e all some = let none = ap length e in absurd (omega arith)
high_of (c ∷ cs) text e all some =
    let begins = (kept_parts (starts_name c) c (take_while is_xid_continue cs) cs all).0 in
    ⊎_elim
    (λ low.
    let same : c ≡ get_or text 0 0 = char_from_byte text (encode_utf8_all cs) c (sym e) (omega arith) some in
    let none : starts_name c ≡ false = no_letter c (omega arith) in
    absurd (true≢false (sym begins ∙ none)))
    (λ high. high) (cases_lt (get_or text 0 0) 65)

high : (text : List ℕ) → leading_name text ≡ text → IsUtf8 text → 0 < length text → 65 ≤ get_or text 0 0
high text whole utf8 some =
    high_of (chars text) text (encodes-chars text utf8) (encodes_same _ _ (whole ∙ sym (encodes-chars text utf8))) some

-- ---- what begins a text, by its first byte

no_blank : (b : ℕ) → 33 ≤ b → is_blank b ≡ false
no_blank b large =
    let space : nat_eq b 32 ≡ false = ne_eqb b 32 (omega arith) in
    let tab : nat_eq b 9 ≡ false = ne_eqb b 9 (omega arith) in
    let cr : nat_eq b 13 ≡ false = ne_eqb b 13 (omega arith) in
    let lf : nat_eq b 10 ≡ false = ne_eqb b 10 (omega arith) in
    rw (space, tab, cr, lf) refl

no_comment : (text : List ℕ) → (47 ≡ get_or text 0 0 → ⊥) → begins_comment text ≡ false
no_comment [] other = refl
no_comment (b ∷ bs) other = let differs : nat_eq 47 b ≡ false = ne_eqb 47 b other in rw differs refl

no_digit : (b : ℕ) → 58 ≤ b → is_ascii_digit b ≡ false
no_digit b large =
    let above : nat_le b 57 ≡ false = lt-leb b 57 large in ap (λ x. nat_le 48 b && x) above ∙ and_right (nat_le 48 b) false refl

-- a name or a reserved word, with what follows it
name_first : (text rest : List ℕ) (b : ℕ) → leading_name text ≡ text → IsUtf8 text → 0 < length text → b < 48 → first_piece (text ++ b ∷ rest) ≡ name_piece text
name_first text rest b whole utf8 some small =
    let large : 65 ≤ get_or (text ++ b ∷ rest) 0 0 = subst (λ n. 65 ≤ n) (sym (get_or_append_left text (b ∷ rest) 0 0 some)) (high text whole utf8 some) in
    let first = get_or (text ++ b ∷ rest) 0 0 in
    let name = name_kept text rest b whole utf8 some small in
    fourth_way _ _ _ _ _ _ _ (no_blank first (omega arith)) (no_comment (text ++ b ∷ rest) (λ slash. absurd (omega arith))) (no_digit first (omega arith))
    ∙ ap (λ (n : List ℕ). cond (nat_lt 0 (length n)) (name_piece n) (symbol_piece (symbol_kind (text ++ b ∷ rest)))) name
    ∙ ap (λ x. cond x (name_piece text) (symbol_piece (symbol_kind (text ++ b ∷ rest)))) (lt-ltb 0 (length text) some)

word_piece : (text : List ℕ) → length text ≤ 64 → name_piece text ≡ Piece.Token (word_kind text) (length text) 0
word_piece text short = ap (λ x. cond x (Piece.Token (word_kind text) (length text) 0) Piece.LongName) (le-leb (length text) 64 short)

-- digits, with what follows them
first_digit : (text : List ℕ) → leading_digits text ≡ text → 0 < length text → is_ascii_digit (get_or text 0 0) ≡ true
first_digit [] whole some = absurd (omega arith)
first_digit (d ∷ ds) whole some = (kept_parts (is_ascii_digit d) d (leading_digits ds) ds (sym (take_while-cons is_ascii_digit d ds) ∙ whole)).0

number_first : (text rest : List ℕ) (b : ℕ) → leading_digits text ≡ text → 0 < length text → is_ascii_digit b ≡ false → first_piece (text ++ b ∷ rest) ≡ number_piece text
number_first text rest b whole some ends =
    let same = get_or_append_left text (b ∷ rest) 0 0 some in
    let digit : is_ascii_digit (get_or (text ++ b ∷ rest) 0 0) ≡ true = ap is_ascii_digit same ∙ first_digit text whole some in
    let first = get_or (text ++ b ∷ rest) 0 0 in
    let large : 48 ≤ get_or (text ++ b ∷ rest) 0 0 = leb-true 48 _ (and_parts _ _ digit).0 in
    third_way _ _ _ _ _ _ _ (no_blank first (omega arith)) (no_comment (text ++ b ∷ rest) (λ slash. absurd (omega arith))) digit
    ∙ ap number_piece (kept is_ascii_digit text b rest whole ends)

-- ---- reserved words and symbols

-- the fixed text, empty where there is none
abbrev text_of : TokenKind → List ℕ
text_of kind = unwrap_or (fixed_text kind) []

-- letters and `_`
is_letter : ℕ → Bool
is_letter c = is_ascii_alphabetic c || c == 95

is_word : List ℕ → Bool
is_word text = nat_lt 0 (length text) && (nat_le (length text) 64 && list_all is_letter text)

-- a reserved word, which is the first of its text
abbrev IsWord : TokenKind → Type 0
IsWord kind = (is_word (text_of kind) ≡ true) × (word_kind (text_of kind) ≡ kind)

-- a symbol's first byte, which begins nothing else
is_mark : ℕ → Bool
is_mark c = nat_lt c 128 && (not (is_blank c) && (not (c == 47) && (not (is_ascii_digit c) && not (is_letter c))))

is_symbol : List ℕ → Bool
is_symbol text = nat_lt 0 (length text) && (is_mark (get_or text 0 0) && is_ascii_text text)

-- a symbol, which is the longest one that begins its text with a space or LF behind it
abbrev IsSymbol : TokenKind → Type 0
IsSymbol kind = (is_symbol (text_of kind) ≡ true) × ((rest : List ℕ) → symbol_kind (text_of kind ++ 32 ∷ rest) ≡ Some kind) × ((rest : List ℕ) → symbol_kind (text_of kind ++ 10 ∷ rest) ≡ Some kind)

-- each kind is a word, a symbol, or one with no fixed text
sorted : (kind : TokenKind) → IsWord kind ⊎ (IsSymbol kind ⊎ (fixed_text kind ≡ None))
unfolding is_word is_letter is_symbol is_mark is_ascii_text
sorted TokenKind.Separate = inr (inl (refl, (λ rest. refl), (λ rest. refl)))
sorted TokenKind.PointsTo = inr (inl (refl, (λ rest. refl), (λ rest. refl)))
sorted TokenKind.Equal = inr (inl (refl, (λ rest. refl), (λ rest. refl)))
sorted TokenKind.NotEqual = inr (inl (refl, (λ rest. refl), (λ rest. refl)))
sorted TokenKind.AtMost = inr (inl (refl, (λ rest. refl), (λ rest. refl)))
sorted TokenKind.AtLeast = inr (inl (refl, (λ rest. refl), (λ rest. refl)))
sorted TokenKind.Less = inr (inl (refl, (λ rest. refl), (λ rest. refl)))
sorted TokenKind.Greater = inr (inl (refl, (λ rest. refl), (λ rest. refl)))
sorted TokenKind.Assign = inr (inl (refl, (λ rest. refl), (λ rest. refl)))
sorted TokenKind.Plus = inr (inl (refl, (λ rest. refl), (λ rest. refl)))
sorted TokenKind.Minus = inr (inl (refl, (λ rest. refl), (λ rest. refl)))
sorted TokenKind.Star = inr (inl (refl, (λ rest. refl), (λ rest. refl)))
sorted TokenKind.Question = inr (inl (refl, (λ rest. refl), (λ rest. refl)))
sorted TokenKind.OpenParen = inr (inl (refl, (λ rest. refl), (λ rest. refl)))
sorted TokenKind.CloseParen = inr (inl (refl, (λ rest. refl), (λ rest. refl)))
sorted TokenKind.OpenBrace = inr (inl (refl, (λ rest. refl), (λ rest. refl)))
sorted TokenKind.CloseBrace = inr (inl (refl, (λ rest. refl), (λ rest. refl)))
sorted TokenKind.OpenBracket = inr (inl (refl, (λ rest. refl), (λ rest. refl)))
sorted TokenKind.CloseBracket = inr (inl (refl, (λ rest. refl), (λ rest. refl)))
sorted TokenKind.Comma = inr (inl (refl, (λ rest. refl), (λ rest. refl)))
sorted TokenKind.Semicolon = inr (inl (refl, (λ rest. refl), (λ rest. refl)))
sorted TokenKind.Name = inr (inr refl)
sorted TokenKind.Number = inr (inr refl)
sorted word = inl (refl, refl)

at_most : (c low top : ℕ) → is_in_range low top c ≡ true → c ≤ top
at_most c low top within = leb-true c top (and_parts (nat_le low c) (nat_le c top) within).1

letter_small : (c : ℕ) → is_letter c ≡ true → c < 128
unfolding is_letter
letter_small c letter =
    let upper = λ (h : is_in_range 65 90 c ≡ true). let le = at_most c 65 90 h in let less : c < 128 = omega arith in less in
    let lower = λ (h : is_in_range 97 122 c ≡ true). let le = at_most c 97 122 h in let less : c < 128 = omega arith in less in
    let mark = λ (h : nat_eq c 95 ≡ true). let same = eqb-true c 95 h in let less : c < 128 = omega arith in less in
    ⊎_elim (λ range. ⊎_elim upper lower (or_cases (is_in_range 65 90 c) (is_in_range 97 122 c) range)) mark (or_cases (is_ascii_alphabetic c) (nat_eq c 95) letter)

starts_letter : (c : ℕ) → is_letter c ≡ true → starts_name c ≡ true
unfolding is_letter
starts_letter c letter = ap (λ x. x || c == 95) (is_xid_start-ascii c (letter_small c letter)) ∙ letter

one_more : (w x y z : Bool) → ((x || y) || z) ≡ true → (((w || x) || y) || z) ≡ true
one_more true x y z some = refl
one_more false x y z some = some

letter_on : (c : ℕ) → is_letter c ≡ true → is_xid_continue c ≡ true
unfolding is_letter
letter_on c letter = is_xid_continue-ascii c (letter_small c letter) ∙ one_more (is_ascii_digit c) _ _ _ letter

letters_ascii : (text : List ℕ) → list_all is_letter text ≡ true → IsAscii text
letters_ascii [] all i = omega arith
letters_ascii (c ∷ cs) all zero = letter_small c (and_parts _ _ all).0
letters_ascii (c ∷ cs) all (suc i) = letters_ascii cs (and_parts _ _ all).1 i

letters_kept : (cs : List ℕ) → list_all is_letter cs ≡ true → take_while is_xid_continue cs ≡ cs
letters_kept [] all = refl
letters_kept (c ∷ cs) all =
    let parts = and_parts _ _ all in
    take_while-cons is_xid_continue c cs ∙ ap (λ x. cond x (c ∷ take_while is_xid_continue cs) []) (letter_on c parts.0) ∙ ap (λ l. c ∷ l) (letters_kept cs parts.1)

letters_name : (cs : List ℕ) → list_all is_letter cs ≡ true → name_chars cs ≡ cs
letters_name [] all = refl
letters_name (c ∷ cs) all =
    let parts = and_parts _ _ all in
    ap (λ x. cond x (c ∷ take_while is_xid_continue cs) []) (starts_letter c parts.0) ∙ ap (λ l. c ∷ l) (letters_kept cs parts.1)

letters_whole : (text : List ℕ) → list_all is_letter text ≡ true → leading_name text ≡ text
letters_whole text all =
    let ascii = letters_ascii text all in
    ap (λ cs. encode_utf8_all (name_chars cs)) (chars-IsAscii text ascii) ∙ ap encode_utf8_all (letters_name text all) ∙ encodes-IsAscii text ascii

word_first : (kind : TokenKind) (rest : List ℕ) (b : ℕ) → IsWord kind → b < 48 → first_piece (text_of kind ++ b ∷ rest) ≡ Piece.Token kind (length (text_of kind)) 0
unfolding is_word
word_first kind rest b word small =
    let parts = and_parts _ _ word.0 in
    let more = and_parts _ _ parts.1 in
    let text = text_of kind in
    name_first text rest b (letters_whole text more.1) (IsUtf8-from_ascii text (letters_ascii text more.1)) (ltb-true 0 (length text) parts.0) small
    ∙ word_piece text (leb-true (length text) 64 more.0) ∙ ap (λ k. Piece.Token k (length text) 0) word.1

no_name : (c : ℕ) (cs : List ℕ) → c < 128 → starts_name c ≡ false → leading_name (c ∷ cs) ≡ []
no_name c cs small none =
    ap (λ l. encode_utf8_all (name_chars l)) (chars_more [] cs c IsUtf8-nil small ∙ ap (λ l. l ++ c ∷ chars cs) chars-nil)
    ∙ ap (λ x. encode_utf8_all (cond x (c ∷ take_while is_xid_continue (chars cs)) [])) none

mark_no_name : (c : ℕ) → c < 128 → is_letter c ≡ false → starts_name c ≡ false
unfolding is_letter
mark_no_name c small none = ap (λ x. x || c == 95) (is_xid_start-ascii c small) ∙ none

symbol_first : (text rest : List ℕ) → is_symbol text ≡ true → first_piece (text ++ rest) ≡ symbol_piece (symbol_kind (text ++ rest))
unfolding is_symbol is_mark
symbol_first [] rest symbol = absurd (false≢true symbol)
symbol_first (c ∷ cs) rest symbol =
    let mark = (and_parts _ _ (and_parts _ _ symbol).1).0 in
    let small = ltb-true c 128 (and_parts _ _ mark).0 in
    let blank = and_parts _ _ (and_parts _ _ mark).1 in
    let slash = and_parts _ _ blank.1 in
    let digit = and_parts _ _ slash.1 in
    let no_slash : nat_eq c 47 ≡ false = not-true _ slash.0 in
    let none = no_name c (cs ++ rest) small (mark_no_name c small (not-true _ digit.1)) in
    fourth_way _ _ _ _ _ _ _ (not-true _ blank.0) (no_comment (c ∷ (cs ++ rest)) (λ same. absurd (eqb-false c 47 no_slash (sym same)))) (not-true _ digit.0)
    ∙ ap (λ (n : List ℕ). cond (nat_lt 0 (length n)) (name_piece n) (symbol_piece (symbol_kind (c ∷ (cs ++ rest))))) none

-- what begins a reserved word or a symbol with a space or LF behind it
fixed_first : (kind : TokenKind) (text rest : List ℕ) (b : ℕ) → IsSpace b → fixed_text kind ≡ Some text → first_piece (text ++ b ∷ rest) ≡ Piece.Token kind (length text) 0
fixed_first kind text rest b space is =
    let same : text_of kind ≡ text = ap (λ o. unwrap_or o []) is in
    let symbol_found = λ (s : IsSymbol kind). ⊎_elim (λ (e : b ≡ 32). ap (λ c. symbol_kind (text_of kind ++ c ∷ rest)) e ∙ s.1 rest) (λ (e : b ≡ 10). ap (λ c. symbol_kind (text_of kind ++ c ∷ rest)) e ∙ s.2 rest) space in
    subst (λ (t : List ℕ). first_piece (t ++ b ∷ rest) ≡ Piece.Token kind (length t) 0) same
    (⊎_elim (λ (w : IsWord kind). let small = space_small b space in word_first kind rest b w (omega arith))
    (λ other. ⊎_elim (λ (s : IsSymbol kind). symbol_first (text_of kind) (b ∷ rest) s.0 ∙ ap symbol_piece (symbol_found s)) (λ (none : fixed_text kind ≡ None). absurd cc) other)
    (sorted kind))

-- a token's text with a space or LF behind it is cut off as that token
pub cut_off : (kind : TokenKind) (number : ℕ) (text rest : List ℕ) (b : ℕ) → IsSpace b → IsTextOf kind number text → 0 < length text → first_piece (text ++ b ∷ rest) ≡ Piece.Token kind (length text) number
cut_off kind number text rest b space is some =
    let small = space_small b space in
    ⊎_elim (λ (f : IsFixed kind number text). fixed_first kind text rest b space f.0 ∙ ap (Piece.Token kind (length text)) (sym f.1))
    (λ other. ⊎_elim (λ (n : IsName kind number text).
    let alike : Piece.Token (word_kind text) (length text) 0 ≡ Piece.Token kind (length text) number = cc in
    name_first text rest b n.2 n.5 some (omega arith) ∙ word_piece text n.3 ∙ alike)
    (λ (n : IsNumber kind number text).
    let fits : nat_le (digits_value 10 text) 9223372036854775808 ≡ true = le-leb _ _ (omega (arith, n.2, n.3)) in
    let alike : Piece.Token TokenKind.Number (length text) (digits_value 10 text) ≡ Piece.Token kind (length text) number = cc in
    let below : nat_le 48 b ≡ false = lt-leb 48 b (omega arith) in
    number_first text rest b n.1 some (ap (λ x. x && nat_le b 57) below) ∙ ap (λ x. cond x (Piece.Token TokenKind.Number (length text) (digits_value 10 text)) Piece.LongNumber) fits ∙ alike) other) is

gap_first : (b : ℕ) (rest : List ℕ) → is_blank b ≡ true → first_piece (b ∷ rest) ≡ Piece.Gap 1
gap_first b rest blank = first_way _ _ _ blank

-- so it is the first token, and those of the bytes behind them follow
pub token_apart : (at : ℕ) (kind : TokenKind) (number : ℕ) (text rest : List ℕ) (b : ℕ) → IsSpace b → IsTextOf kind number text → 0 < length text
    → tokens_from at 0 (text ++ b ∷ rest) ≡ cons_token (record { kind = kind; span = record { from = at; to = at + length text }; number = number }) (tokens_from (at + length text + 1) 0 rest)
token_apart at kind number text rest b space is some =
    let long = length-append text (b ∷ rest) in
    let token = tokens_step at (text ++ b ∷ rest) (Piece.Token kind (length text) number) (cut_off kind number text rest b space is some) some (omega arith) in
    let behind = ap (tokens_from (at + length text) 0) (drop-append_seam text (b ∷ rest)) in
    let blank : is_blank b ≡ true = ⊎_elim (λ (e : b ≡ 32). ap is_blank e) (λ (e : b ≡ 10). ap is_blank e) space in
    let gap = tokens_step (at + length text) (b ∷ rest) (Piece.Gap 1) (gap_first b rest blank) (omega arith) (omega arith) in
    token ∙ ap (cons_token (record { kind = kind; span = record { from = at; to = at + length text }; number = number })) (behind ∙ gap)

digits_ascii : (ds : List ℕ) → leading_digits ds ≡ ds → IsAscii ds
digits_ascii [] whole i = omega arith
digits_ascii (d ∷ ds) whole zero = let parts = kept_parts (is_ascii_digit d) d (leading_digits ds) ds (sym (take_while-cons is_ascii_digit d ds) ∙ whole) in let le = at_most d 48 57 parts.0 in omega arith
digits_ascii (d ∷ ds) whole (suc i) = digits_ascii ds (kept_parts (is_ascii_digit d) d (leading_digits ds) ds (sym (take_while-cons is_ascii_digit d ds) ∙ whole)).1 i

fixed_utf8 : (kind : TokenKind) (text : List ℕ) → fixed_text kind ≡ Some text → IsUtf8 text
unfolding is_word is_symbol
fixed_utf8 kind text is =
    let same : text_of kind ≡ text = ap (λ o. unwrap_or o []) is in
    subst IsUtf8 same (⊎_elim (λ (w : IsWord kind). IsUtf8-from_ascii (text_of kind) (letters_ascii (text_of kind) (and_parts _ _ (and_parts _ _ w.0).1).1))
    (λ other. ⊎_elim (λ (s : IsSymbol kind). IsUtf8-from_ascii (text_of kind) (ascii_all (text_of kind) (and_parts _ _ (and_parts _ _ s.0).1).1)) (λ (none : fixed_text kind ≡ None). absurd cc) other) (sorted kind))

-- the text of a token is UTF-8
pub text_utf8 : (kind : TokenKind) (number : ℕ) (text : List ℕ) → IsTextOf kind number text → IsUtf8 text
text_utf8 kind number text is = ⊎_elim (λ (f : IsFixed kind number text). fixed_utf8 kind text f.0)
    (λ other. ⊎_elim (λ (n : IsName kind number text). n.5) (λ (n : IsNumber kind number text). IsUtf8-from_ascii text (digits_ascii text n.1)) other) is
