-- Each piece ends where the text may be cut.
use Rattle.std.proofs.Common.{◌≡◌, ℕ, ◌+◌, ◌-◌, ◌<◌, ◌≤◌, Bool, true, false, cond, ⊎_elim, Option, Some, None, List, [], ◌∷◌, ◌++◌, length, drop, get_or, refl, sym, ap, ◌∙◌, subst, arith, nat_eq, nat_lt, nat_le, not, ◌&&◌, length-append}
use Rattle.std.proofs.lemmas.Bool.{and_parts, or_cases, eqb-true, ltb-true, cases_Bool, true≢false, false≢true, not-false}
use Rattle.std.proofs.lemmas.List.Sums.{prefix_len-le-length, prefix_len_stops}
use Rattle.std.proofs.lemmas.List.Folds.{length-prefix_len, list_all_at}
use Rattle.std.proofs.lemmas.List.{get_or_append_left}
use Rattle.std.proofs.lemmas.Bool.Decides.{Decides-eqb}
use Rattle.std.proofs.lemmas.Slice.Eq.{starts_is}
use Rattle.std.proofs.lemmas.Str.{IsCharBoundary-after_ascii, IsCharBoundary-at_seam}
use Rattle.std.specs.Char.{is_ascii_digit, is_newline}
use Rattle.std.specs.List.{list_all, find, starts_with}
use Rattle.std.specs.Option.{unwrap_or}
use Rattle.std.specs.Str.{IsUtf8, IsCharBoundary}
use Rattle.std.specs.Str.Parse.{digits_value}
use Rattle.fsl_token.specs.declared.kind.TokenKind.{TokenKind}
use Rattle.fsl_token.specs.declared.piece.Piece.{Piece}
use Rattle.fsl_token.specs.Words.{fixed_text, fits, begins, symbols, symbol_kind, word_kind}
use Rattle.fsl_token.specs.Tokens.{is_blank, begins_comment, comment_len, leading_digits, number_piece, leading_name, name_piece, symbol_piece, first_piece}
use Rattle.fsl_token.proofs.Digits.{run_begun, digits_cut}
use Rattle.fsl_token.proofs.Names.{name_split, after_name, after_name_utf8}

-- the text may be cut behind its first n bytes, of which there are some
abbrev pub Cuts : List ℕ → ℕ → Type 0
Cuts text n = (0 < n) × IsCharBoundary text n

-- a piece that isn't a fault cuts the text
abbrev pub CutsBy : List ℕ → Piece → Type 0
CutsBy text (Piece.Gap len) = Cuts text len
CutsBy text (Piece.Token kind len number) = Cuts text len
CutsBy text Piece.BadChar = Unit {0}
CutsBy text Piece.LongNumber = Unit {0}
CutsBy text Piece.LongName = Unit {0}

-- what holds of both choices holds of the chosen one
pub either : {A : Type 0} (P : A → Type 0) (b : Bool) (x y : A) → (b ≡ true → P x) → (b ≡ false → P y) → P (cond b x y)
either P true x y p q = p refl
either P false x y p q = q refl

-- a text may be cut behind an ASCII byte
ascii_cut : (text : List ℕ) (n : ℕ) → IsUtf8 text → 0 < n → n ≤ length text → get_or text (n - 1) 0 < 128 → Cuts text n
ascii_cut text n utf8 some within last =
    let before : n - 1 + 1 ≡ n = omega arith in
    (some, subst (IsCharBoundary text) before (IsCharBoundary-after_ascii text (n - 1) utf8 (omega arith) last))

blank_small : (b : ℕ) → is_blank b ≡ true → b < 128
blank_small b blank =
    let is = λ (k : ℕ) (small : k < 128) (e : nat_eq b k ≡ true). let same : b ≡ k = eqb-true b k e in let less : b < 128 = omega arith in less in
    ⊎_elim (λ h. ⊎_elim (λ h. ⊎_elim (is 32 (omega arith)) (is 9 (omega arith)) (or_cases _ _ h)) (is 13 (omega arith)) (or_cases _ _ h)) (is 10 (omega arith)) (or_cases _ _ blank)

first_slash : (text : List ℕ) → begins_comment text ≡ true → 0 < length text × (is_newline (get_or text 0 0) ≡ false)
first_slash [] comment = absurd (false≢true comment)
first_slash (b ∷ bs) comment =
    let slash : 47 ≡ b = eqb-true 47 b (and_parts _ _ comment).0 in
    (omega arith, subst (λ x. is_newline x ≡ false) slash refl)

-- a comment ends before an LF or at the end
comment_cut : (text : List ℕ) → begins_comment text ≡ true → Cuts text (comment_len text)
comment_cut text comment =
    let begun = first_slash text comment in
    let some : 0 < comment_len text = run_begun (λ b. not (is_newline b)) text begun.0 (ap not begun.1) in
    let within : comment_len text ≤ length text = prefix_len-le-length (λ b. not (is_newline b)) text in (
      some,
      (
        within,
        λ below high.
            let newline : get_or text (comment_len text) 0 ≡ 10 = eqb-true _ 10 (not-false _ (prefix_len_stops (λ b. not (is_newline b)) text 0 below)) in
            omega arith,
      ),
    )

number_cut : (text : List ℕ) → IsUtf8 text → 0 < length text → is_ascii_digit (get_or text 0 0) ≡ true → CutsBy text (number_piece (leading_digits text))
number_cut text utf8 some digit = either (CutsBy text) (nat_le (digits_value 10 (leading_digits text)) 9223372036854775808) (Piece.Token TokenKind.Number (length (leading_digits text)) (digits_value 10 (leading_digits text))) Piece.LongNumber
    (λ _. digits_cut text (length (leading_digits text)) utf8 some digit (length-prefix_len is_ascii_digit text)) (λ _. tt)

name_cut : (text : List ℕ) → IsUtf8 text → 0 < length (leading_name text) → CutsBy text (name_piece (leading_name text))
name_cut text utf8 some = either (CutsBy text) (nat_le (length (leading_name text)) 64) (Piece.Token (word_kind (leading_name text)) (length (leading_name text)) 0) Piece.LongName
    (λ _. (some, IsCharBoundary-at_seam text (leading_name text) (after_name text) (sym (name_split text utf8)) (after_name_utf8 text utf8))) (λ _. tt)

-- some ASCII bytes
is_ascii_text : List ℕ → Bool
is_ascii_text text = nat_lt 0 (length text) && list_all (λ b. nat_lt b 128) text

all_at : {A : Type 0} (p : A → Bool) (xs : List A) (i : ℕ) (d : A) → list_all p xs ≡ true → i < length xs → p (get_or xs i d) ≡ true
all_at p xs i d all below = ⊎_elim (λ e. e) (λ e. absurd (true≢false (sym all ∙ list_all_at p xs i d below e))) (cases_Bool (p (get_or xs i d)))

text_cut : (text fixed : List ℕ) → IsUtf8 text → text ≡ fixed ++ drop (length fixed) text → 0 < length fixed → list_all (λ b. nat_lt b 128) fixed ≡ true → Cuts text (length fixed)
text_cut text fixed utf8 is some ascii =
    let long = ap length is ∙ length-append fixed (drop (length fixed) text) in
    let last : get_or text (length fixed - 1) 0 < 128 =
    subst (λ t. get_or t (length fixed - 1) 0 < 128) (sym is) (subst (λ b. b < 128) (sym (get_or_append_left fixed (drop (length fixed) text) 0 (length fixed - 1) (omega arith))) (ltb-true _ 128 (all_at (λ b. nat_lt b 128) fixed (length fixed - 1) 0 ascii (omega arith)))) in
    ascii_cut text (length fixed) utf8 some (omega arith) last

fixed_cut : (text : List ℕ) (fixed : Option (List ℕ)) → IsUtf8 text → fits fixed (starts_with nat_eq text) ≡ true → fits fixed is_ascii_text ≡ true → Cuts text (length (unwrap_or fixed []))
unfolding is_ascii_text
fixed_cut text None utf8 begun ascii = absurd (false≢true begun)
fixed_cut text (Some fixed) utf8 begun ascii = text_cut text fixed utf8 ((starts_is Decides-eqb text fixed _ refl).0 begun) (ltb-true _ _ (and_parts _ _ ascii).0) (and_parts _ _ ascii).1

-- what is found passes the test, and any other test that all items pass
pub found : {A : Type 0} (P : Option A → Type 0) (p q : A → Bool) (xs : List A) → list_all q xs ≡ true → P None → ((x : A) → p x ≡ true → q x ≡ true → P (Some x)) → P (find p xs)
found P p q [] all none some = none
found P p q (x ∷ xs) all none some = either P (p x) (Some x) (find p xs) (λ passes. some x passes (and_parts _ _ all).0) (λ _. found P p q xs (and_parts _ _ all).1 none some)

all_ascii : list_all (λ kind. fits (fixed_text kind) is_ascii_text) symbols ≡ true
unfolding is_ascii_text
all_ascii = refl

symbol_cut : (text : List ℕ) → IsUtf8 text → CutsBy text (symbol_piece (symbol_kind text))
symbol_cut text utf8 = found (λ o. CutsBy text (symbol_piece o)) (begins text) (λ kind. fits (fixed_text kind) is_ascii_text) symbols all_ascii tt (λ kind begun ascii. fixed_cut text (fixed_text kind) utf8 begun ascii)

pub piece_cut : (text : List ℕ) → IsUtf8 text → 0 < length text → CutsBy text (first_piece text)
piece_cut text utf8 some =
    either (CutsBy text) (is_blank (get_or text 0 0)) _ _ (λ blank. ascii_cut text 1 utf8 (omega arith) (omega arith) (blank_small _ blank))
    (λ _. either (CutsBy text) (begins_comment text) _ _ (λ comment. comment_cut text comment)
    (λ _. either (CutsBy text) (is_ascii_digit (get_or text 0 0)) _ _ (λ digit. number_cut text utf8 some digit)
    (λ _. either (CutsBy text) (nat_lt 0 (length (leading_name text))) _ _ (λ named. name_cut text utf8 (ltb-true _ _ named))
    (λ _. symbol_cut text utf8))))

-- which piece it is where it is a blank
pub first_way : {A : Type 0} (x : Bool) (a b : A) → x ≡ true → cond x a b ≡ a
first_way x a b e = rw e refl

-- where it is no gap and no number
pub fourth_way : {A : Type 0} (x y z : Bool) (a b c d : A) → x ≡ false → y ≡ false → z ≡ false → cond x a (cond y b (cond z c d)) ≡ d
fourth_way x y z a b c d ex ey ez = rw (ex, ey, ez) refl

-- and where it is a number
pub third_way : {A : Type 0} (x y z : Bool) (a b c d : A) → x ≡ false → y ≡ false → z ≡ true → cond x a (cond y b (cond z c d)) ≡ c
third_way x y z a b c d ex ey ez = rw (ex, ey, ez) refl
