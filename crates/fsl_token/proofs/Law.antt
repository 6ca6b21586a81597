-- The tokens say what the text is.
use Rattle.std.proofs.Common.{◌≡◌, ℕ, zero, suc, ◌+◌, ◌<◌, ◌≤◌, ◌⊎◌, inl, inr, Bool, true, List, [], ◌∷◌, ◌++◌, Option, Some, None, length, take, drop, get_or, ⊎_elim, refl, sym, ap, ◌∙◌, subst, arith, append_assoc, length-append, length-drop, length-take-le, take-append-drop, nat_eq, nat_lt, nat_le, not}
use Rattle.std.specs.Prelude.{Result, Ok, Err, IfOk, codes}
use Rattle.std.proofs.lemmas.Bool.{leb-true, false≢true}
use Rattle.std.proofs.lemmas.Bool.Decides.{Decides-eqb}
use Rattle.std.proofs.lemmas.List.Elements.{All-nil, All-cons}
use Rattle.std.proofs.lemmas.List.Sums.{take_while-cons}
use Rattle.std.proofs.lemmas.List.Folds.{length-prefix_len}
use Rattle.std.proofs.lemmas.Slice.Eq.{starts_is, bytes_eq-Decides}
use Rattle.std.proofs.lemmas.Str.{IsUtf8-drop}
use Rattle.std.proofs.Math.Seq.{take-append_seam}
use Rattle.std.specs.Char.{is_ascii_digit, is_newline}
use Rattle.std.specs.List.{take_while, prefix_len, starts_with}
use Rattle.std.specs.Option.{unwrap_or}
use Rattle.std.specs.Str.{IsUtf8, bytes_eq}
use Rattle.std.specs.Str.Parse.{digits_value}
use Rattle.fsl_token.specs.declared.fault.LexFault.{LexFault}
use Rattle.fsl_token.specs.declared.kind.Token.{Token}
use Rattle.fsl_token.specs.declared.kind.TokenKind.{TokenKind}
use Rattle.fsl_token.specs.declared.piece.Piece.{Piece}
use Rattle.fsl_token.specs.Words.{fixed_text, fits, begins, is_text, words, symbols, symbol_kind, word_kind}
use Rattle.fsl_token.specs.Tokens.{is_blank, begins_comment, comment_len, leading_digits, number_piece, leading_name, name_piece, symbol_piece, first_piece, cons_token, tokens_from}
use Rattle.fsl_token.specs.Reading.{IsBlank, IsComment, IsBlankOrComment, IsGap, IsTextOf, AreTokensOf}
use Rattle.fsl_token.proofs.Names.{run_again, name_taken, name_again, name_utf8}
use Rattle.fsl_token.proofs.Pieces.{CutsBy, piece_cut, either, found}
use Rattle.fsl_token.proofs.Lexing.{tokens_step, tokens_fault}

-- what a piece says of the bytes that it takes
abbrev Says : List ℕ → Piece → Type 0
Says text (Piece.Gap len) = IsBlankOrComment (take len text)
Says text (Piece.Token kind len number) = IsTextOf kind number (take len text)
Says text Piece.BadChar = Unit {0}
Says text Piece.LongNumber = Unit {0}
Says text Piece.LongName = Unit {0}

-- text that isn't LF
abbrev goes_on : ℕ → Bool
goes_on c = not (is_newline c)

run_length : {A : Type 0} (p : A → Bool) (xs : List A) → prefix_len p (take_while p xs) ≡ length (take_while p xs)
run_length p xs = sym (length-prefix_len p (take_while p xs)) ∙ ap length (run_again p xs)

blank_says : (text : List ℕ) → 0 < length text → is_blank (get_or text 0 0) ≡ true → IsBlank (take 1 text)
blank_says [] some blank = absurd (omega arith)
blank_says (b ∷ bs) some blank = (b, blank, refl)

comment_says : (text : List ℕ) → begins_comment text ≡ true → IsComment (take (comment_len text) text)
comment_says text comment =
    let split : text ≡ codes "//" ++ drop 2 text = (starts_is Decides-eqb text (codes "//") _ refl).0 comment in
    let first = take_while-cons goes_on 47 (47 ∷ drop 2 text) in
    let second = take_while-cons goes_on 47 (drop 2 text) in
    (take_while goes_on (drop 2 text), ap (take_while goes_on) split ∙ first ∙ ap (λ (l : List ℕ). 47 ∷ l) second, run_length goes_on (drop 2 text))

number_says : (text : List ℕ) → Says text (number_piece (leading_digits text))
number_says text = either (Says text) (nat_le (digits_value 10 (leading_digits text)) 9223372036854775808) (Piece.Token TokenKind.Number (length (leading_digits text)) (digits_value 10 (leading_digits text))) Piece.LongNumber
    (λ small. subst (IsTextOf TokenKind.Number (digits_value 10 (leading_digits text))) (ap (λ n. take n text) (sym (length-prefix_len is_ascii_digit text)))
    (inr (inr (refl, run_again is_ascii_digit text, refl, leb-true _ _ small)))) (λ _. tt)

fixed_is : (o : Option (List ℕ)) (text : List ℕ) → fits o (λ fixed. bytes_eq text fixed) ≡ true → o ≡ Some text
fixed_is None text same = absurd (false≢true same)
fixed_is (Some fixed) text same = ap Some (sym ((bytes_eq-Decides text fixed).0 same))

-- a name or a reserved word
word_says : (name : List ℕ) → leading_name name ≡ name → length name ≤ 64 → IsUtf8 name → IsTextOf (word_kind name) 0 name
word_says name whole short utf8 = found (λ o. unwrap_or o TokenKind.Name ≡ word_kind name → IsTextOf (unwrap_or o TokenKind.Name) 0 name) (is_text name) (λ _. true) words refl
    (λ e. inr (inl (refl, sym e, whole, short, refl, utf8))) (λ kind same _ _. inl (fixed_is (fixed_text kind) name same, refl)) refl

name_says : (text : List ℕ) → IsUtf8 text → Says text (name_piece (leading_name text))
name_says text utf8 = either (Says text) (nat_le (length (leading_name text)) 64) (Piece.Token (word_kind (leading_name text)) (length (leading_name text)) 0) Piece.LongName
    (λ short. subst (IsTextOf (word_kind (leading_name text)) 0) (sym (name_taken text (length (leading_name text)) utf8 refl).1) (word_says (leading_name text) (name_again text utf8) (leb-true _ _ short) (name_utf8 text utf8))) (λ _. tt)

symbol_is : (o : Option (List ℕ)) (text : List ℕ) → fits o (starts_with nat_eq text) ≡ true → o ≡ Some (take (length (unwrap_or o [])) text)
symbol_is None text begun = absurd (false≢true begun)
symbol_is (Some fixed) text begun = ap Some (subst (λ t. fixed ≡ take (length fixed) t) (sym ((starts_is Decides-eqb text fixed _ refl).0 begun)) (sym (take-append_seam fixed (drop (length fixed) text))))

symbol_says : (text : List ℕ) → Says text (symbol_piece (symbol_kind text))
symbol_says text = found (λ o. Says text (symbol_piece o)) (begins text) (λ _. true) symbols refl tt (λ kind begun _. inl (symbol_is (fixed_text kind) text begun, refl))

piece_says : (text : List ℕ) → IsUtf8 text → 0 < length text → Says text (first_piece text)
piece_says text utf8 some =
    either (Says text) (is_blank (get_or text 0 0)) _ _ (λ blank. inl (blank_says text some blank))
    (λ _. either (Says text) (begins_comment text) _ _ (λ comment. inr (comment_says text comment))
    (λ _. either (Says text) (is_ascii_digit (get_or text 0 0)) _ _ (λ _. number_says text)
    (λ _. either (Says text) (nat_lt 0 (length (leading_name text))) _ _ (λ _. name_says text utf8)
    (λ _. symbol_says text))))

no_gap : IsGap []
no_gap = ([], refl, All-nil IsBlankOrComment)

-- a blank or a comment before a gap
wider : (part gap : List ℕ) → IsBlankOrComment part → IsGap gap → IsGap (part ++ gap)
wider part gap says is = (part ∷ is.0, ap (λ l. part ++ l) is.1, All-cons IsBlankOrComment part is.0 says is.2)

gap_before : (at : ℕ) (part rest : List ℕ) (ts : List Token) → IsBlankOrComment part → AreTokensOf (at + length part) rest ts → AreTokensOf at (part ++ rest) ts
gap_before at part rest [] says are = wider part rest says are
gap_before at part rest (t ∷ ts) says are =
    let place : t.span.from ≡ at + length (part ++ are.0) = omega (arith, are.6, length-append part are.0) in
    (part ++ are.0, are.1, are.2, ap (λ l. part ++ l) are.3 ∙ sym (append_assoc part are.0 (are.1 ++ are.2)), wider part are.0 says are.4, are.5, place, are.7, are.8, are.9)

uncons : (t : Token) (r : Result (List Token) LexFault) (ts : List Token) → cons_token t r ≡ Ok ts → (us : List Token) × (r ≡ Ok us) × (t ∷ us ≡ ts)
uncons t (Ok us) ts e = (us, refl, cc)
uncons t (Err fault) ts e = absurd (cc)

module _ (n at : ℕ) (bs : List ℕ) (ts : List Token) (utf8 : IsUtf8 bs) (some : 0 < length bs) (short : length bs ≤ n + 1) (lexed : tokens_from at 0 bs ≡ Ok ts)
    (shorter : (k : ℕ) (rest : List ℕ) (us : List Token) → length rest ≤ n → IsUtf8 rest → tokens_from k 0 rest ≡ Ok us → AreTokensOf k rest us) where
  by_piece : (p : Piece) → first_piece bs ≡ p → CutsBy bs p → Says bs p → AreTokensOf at bs ts
  by_piece (Piece.Gap len) is cuts says =
      let step = tokens_step at bs (Piece.Gap len) is cuts.0 cuts.1.0 in
      let fewer : length (drop len bs) ≤ n = omega (arith, length-drop len bs, cuts.0) in
      let place : length (take len bs) ≡ len = length-take-le len bs cuts.1.0 in
      let rest = shorter (at + len) (drop len bs) ts fewer (IsUtf8-drop bs len utf8 cuts.1) (sym step ∙ lexed) in
      subst (λ t. AreTokensOf at t ts) (take-append-drop len bs) (gap_before at (take len bs) (drop len bs) ts says (subst (λ k. AreTokensOf (at + k) (drop len bs) ts) (sym place) rest))
  by_piece (Piece.Token kind len number) is cuts says =
      let step = tokens_step at bs (Piece.Token kind len number) is cuts.0 cuts.1.0 in
      let fewer : length (drop len bs) ≤ n = omega (arith, length-drop len bs, cuts.0) in
      let place : length (take len bs) ≡ len = length-take-le len bs cuts.1.0 in
      let parts = uncons _ _ ts (sym step ∙ lexed) in
      let rest = shorter (at + len) (drop len bs) parts.0 fewer (IsUtf8-drop bs len utf8 cuts.1) parts.1 in
      let behind : at + len ≡ at + length (take len bs) = omega arith in
      let begin : at ≡ at + 0 = omega arith in
      let positive : 0 < length (take len bs) = omega (arith, cuts.0) in
      subst (AreTokensOf at bs) parts.2 ([], take len bs, drop len bs, sym (take-append-drop len bs), no_gap, positive, begin, behind, says, rest)
  by_piece Piece.BadChar is cuts says = let fault = tokens_fault at bs Piece.BadChar (LexFault.BadChar at) is some (λ _. refl) in absurd (cc)
  by_piece Piece.LongNumber is cuts says = let fault = tokens_fault at bs Piece.LongNumber (LexFault.LongNumber at) is some (λ _. refl) in absurd (cc)
  by_piece Piece.LongName is cuts says = let fault = tokens_fault at bs Piece.LongName (LexFault.LongName at) is some (λ _. refl) in absurd (cc)

are_tokens_within : (n at : ℕ) (bs : List ℕ) (ts : List Token) → length bs ≤ n → IsUtf8 bs → tokens_from at 0 bs ≡ Ok ts → AreTokensOf at bs ts
are_tokens_within n at [] ts short utf8 lexed = let same : [] ≡ ts = cc in subst (AreTokensOf at []) same no_gap
are_tokens_within zero at (b ∷ bs) ts short utf8 lexed = absurd (omega arith)
are_tokens_within (suc n) at (b ∷ bs) ts short utf8 lexed =
    by_piece n at (b ∷ bs) ts utf8 (omega arith) (omega arith) lexed (λ k rest us fewer text are. are_tokens_within n k rest us fewer text are)
    (first_piece (b ∷ bs)) refl (piece_cut (b ∷ bs) utf8 (omega arith)) (piece_says (b ∷ bs) utf8 (omega arith))

-- the tokens of a text are read off it
pub are_tokens : (bs : List ℕ) (ts : List Token) → IsUtf8 bs → tokens_from 0 0 bs ≡ Ok ts → AreTokensOf 0 bs ts
are_tokens bs ts utf8 lexed = are_tokens_within (length bs) 0 bs ts (omega arith) utf8 lexed

-- and so are those of an answer
pub answer_reads : (bs : List ℕ) (r : Result (List Token) LexFault) → IsUtf8 bs → (r ≡ Err LexFault.NoMemory) ⊎ (r ≡ tokens_from 0 0 bs) → IfOk r (λ ts. AreTokensOf 0 bs ts)
answer_reads bs (Ok ts) utf8 is = ⊎_elim (λ e. absurd (cc)) (λ e. are_tokens bs ts utf8 (sym e)) is
answer_reads bs (Err fault) utf8 is = tt
