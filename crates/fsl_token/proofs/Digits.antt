-- Numbers that begin a text.
use Rattle.std.proofs.Common.{◌≡◌, ℕ, ◌+◌, ◌-◌, ◌<◌, ◌≤◌, ◌^◌, Bool, true, cond, List, [], ◌∷◌, length, get_or, sym, ap, subst, arith, nat_le, ⊎_elim, get_or-take}
use Rattle.std.specs.Prelude.{Result, Err}
use Rattle.std.specs.Result.{OkIff}
use Rattle.std.specs.Int.{IsInRange}
use Rattle.fsl_token.specs.declared.kind.TokenKind.{TokenKind}
use Rattle.std.proofs.lemmas.Bool.{and_parts, leb-true, lt-leb, cases_lt}
use Rattle.std.proofs.lemmas.List.Sums.{prefix_len-le-length, prefix_len_passes}
use Rattle.std.proofs.lemmas.List.Folds.{length-prefix_len}
use Rattle.std.proofs.lemmas.Str.{IsCharBoundary-after_ascii}
use Rattle.std.proofs.lemmas.Str.Parse.{IsNumeralModel, numerals_by_value, tells_by_index, parse_digits}
use Rattle.std.specs.Char.{is_ascii_digit}
use Rattle.std.specs.List.{prefix_len}
use Rattle.std.specs.Str.{IsUtf8, IsCharBoundary}
use Rattle.std.specs.Str.Parse.{digits_value, ParsesUnsigned}
use Rattle.fsl_token.specs.declared.piece.Piece.{Piece}
use Rattle.fsl_token.specs.Tokens.{leading_digits, number_piece}

digit_small : (b : ℕ) → is_ascii_digit b ≡ true → b < 128
digit_small b digit = let small : b ≤ 57 = leb-true b 57 (and_parts (nat_le 48 b) (nat_le b 57) digit).1 in omega arith

pub run_begun : (p : ℕ → Bool) (xs : List ℕ) → 0 < length xs → p (get_or xs 0 0) ≡ true → 0 < prefix_len p xs
run_begun p [] some passes = absurd (omega arith)
run_begun p (x ∷ xs) some passes = subst (λ b. 0 < cond b (1 + prefix_len p xs) 0) (sym passes) (omega arith)

-- the text may be cut behind its digits
pub digits_cut : (text : List ℕ) (n : ℕ) → IsUtf8 text → 0 < length text → is_ascii_digit (get_or text 0 0) ≡ true → n ≡ prefix_len is_ascii_digit text → (0 < n) × IsCharBoundary text n
digits_cut text n utf8 some digit len =
    let positive : 0 < n = let begun = run_begun is_ascii_digit text some digit in omega arith in
    let within : n ≤ length text = let le = prefix_len-le-length is_ascii_digit text in omega arith in
    let before : n - 1 + 1 ≡ n = omega arith in
    let last = digit_small _ (prefix_len_passes is_ascii_digit text (n - 1) 0 (omega arith)) in
    (positive, subst (IsCharBoundary text) before (IsCharBoundary-after_ascii text (n - 1) utf8 (omega arith) last))

digit_range : (b : ℕ) → is_ascii_digit b ≡ true → IsInRange 48 57 b
digit_range b digit = (leb-true 48 b (and_parts _ _ digit).0, leb-true b 57 (and_parts _ _ digit).1)

-- each of the leading digits is one
each_digit : (text : List ℕ) (i : ℕ) → i < length (leading_digits text) → IsInRange 48 57 (get_or (leading_digits text) i 0)
each_digit text i below =
    let short : i < prefix_len is_ascii_digit text = let len = length-prefix_len is_ascii_digit text in omega arith in
    subst (IsInRange 48 57) (sym (get_or-take (prefix_len is_ascii_digit text) text i 0 short)) (digit_range _ (prefix_len_passes is_ascii_digit text i 0 short))

numerals : IsNumeralModel (λ ds. (i : ℕ) → i < length ds → IsInRange 48 57 (get_or ds i 0)) (digits_value 10)
numerals = numerals_by_value _ tells_by_index

not_number : (digits : List ℕ) → 9223372036854775808 < digits_value 10 digits → Piece.LongNumber ≡ number_piece digits
not_number digits above = ap (λ b. cond b (Piece.Token TokenKind.Number (length digits) (digits_value 10 digits)) Piece.LongNumber) (sym (lt-leb (digits_value 10 digits) 9223372036854775808 above))

-- digits that don't fit 64 bits are a number that is too large
pub too_long : {E : Type 0} (text digits : List ℕ) (e : E) (r : Result ℕ E) → digits ≡ leading_digits text → 0 < length digits → ParsesUnsigned 64 10 digits r → r ≡ Err e → Piece.LongNumber ≡ number_piece (leading_digits text)
too_long text digits e r are some parses fails =
    let each = subst (λ (ds : List ℕ). (i : ℕ) → i < length ds → IsInRange 48 57 (get_or ds i 0)) (sym are) (each_digit text) in
    let no = subst (λ r. OkIff r ((0 < length digits) × (digits_value 10 digits < 2 ^ 64)) (digits_value 10 digits)) fails (parse_digits numerals 64 digits r parses each) in
    subst (λ ds. Piece.LongNumber ≡ number_piece ds) are
    (not_number digits (⊎_elim (λ below. absurd (no (some, below))) (λ above. omega arith) (cases_lt (digits_value 10 digits) (2 ^ 64))))
