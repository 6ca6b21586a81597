-- What is printed is cut into tokens that are alike.
use Rattle.std.proofs.Common.{ℕ, ◌≡◌, ◌+◌, ◌-◌, ◌<◌, ◌≤◌, inl, inr, true, cond, List, [], ◌∷◌, ◌++◌, length, drop, refl, sym, ap, ◌∙◌, arith, append_assoc, length-append, length-drop, length-take-le, nat_le}
use Rattle.std.specs.Prelude.{Ok}
use Rattle.std.specs.Char.{is_ascii_digit}
use Rattle.std.specs.Fmt.{decimal}
use Rattle.std.specs.List.{take_while}
use Rattle.std.specs.Str.{IsUtf8}
use Rattle.std.specs.Str.Parse.{AllDigits}
use Rattle.std.proofs.lemmas.Bool.{le-leb, and_from}
use Rattle.std.proofs.lemmas.Fmt.{decimal_nonempty, decimal_is_IsNumeral}
use Rattle.std.proofs.lemmas.List.Sums.{take_while-cons}
use Rattle.std.proofs.lemmas.Str.{IsUtf8-append, IsUtf8-from_ascii}
use Rattle.std.proofs.lemmas.Str.Parse.{digit_from_value}
use Rattle.fsl_base.specs.declared.span.Span.{Span}
use Rattle.fsl_token.specs.declared.kind.Token.{Token}
use Rattle.fsl_token.specs.declared.kind.TokenKind.{TokenKind}
use Rattle.fsl_token.specs.declared.kind.TokenKind.TheVariants as kind
use Rattle.fsl_token.specs.Words.{fixed_text}
use Rattle.fsl_token.specs.Reading.{IsName, IsTextOf}
use Rattle.fsl_token.specs.Tokens.{cons_token, tokens_from, lexed}
use Rattle.fsl_token.proofs.Apart.{alone, IsSpace, token_apart, text_utf8}
use Rattle.fsl_token.proofs.Lexing.{lexed_text}
use Rattle.fsl_tree.specs.SpelledExpressions.{Tokens}
use Rattle.fsl_tree.specs.Printing.{part_of, text_or, variable_text, token_text, printed, IsHeld, AreHeld, IsAlike, AreAlike}
use Rattle.fsl_tree.proofs.Held.{between}

digits_kept : (ds : List ℕ) → AllDigits 10 ds → take_while is_ascii_digit ds ≡ ds
digits_kept [] all = refl
digits_kept (d ∷ ds) all =
    let range = digit_from_value d all.0 in
    let digit : is_ascii_digit d ≡ true = and_from (nat_le 48 d) (nat_le d 57) (le-leb 48 d (omega arith)) (le-leb d 57 (omega arith)) in
    take_while-cons is_ascii_digit d ds ∙ ap (λ b. cond b (d ∷ take_while is_ascii_digit ds) []) digit ∙ ap (λ l. d ∷ l) (digits_kept ds all.1)

-- a number's text is written with the digits that write it
number_text : (n : ℕ) → n ≤ 9223372036854775808 → IsTextOf kind.Number n (decimal n) × (0 < length (decimal n))
number_text n small =
    let numeral = decimal_is_IsNumeral n (omega arith) in
    (inr (inr (refl, digits_kept (decimal n) numeral.0.1, numeral.1, small)), decimal_nonempty n (omega arith))

-- the text of a token that is held is one of its kind and value
text_of_kind : (k : TokenKind) (span : Span) (number : ℕ) (bytes : List ℕ)
    → (k ≡ kind.Name → (span.from < span.to) × (span.to ≤ length bytes) × IsName k number (part_of bytes span))
    → (k ≡ kind.Number → number ≤ 9223372036854775808) → ((k ≡ kind.Number → ⊥) → number ≡ 0)
    → IsTextOf k number (text_or (fixed_text k) (variable_text bytes k span number)) × (0 < length (text_or (fixed_text k) (variable_text bytes k span number)))
text_of_kind kind.Name span number bytes name numeral other =
    let is = name refl in
    let all = length-drop span.from bytes in
    let long = length-take-le (span.to - span.from) (drop span.from bytes) (omega (arith, is.0, is.1)) in
    (inr (inl is.2), omega (arith, is.0))
text_of_kind kind.Number span number bytes name numeral other = number_text number (numeral refl)
text_of_kind word span number bytes name numeral other = (inl (refl, other (λ (e : word ≡ kind.Number). absurd cc)), omega arith)

held_text : (bytes : List ℕ) (t : Token) → IsHeld bytes t → IsTextOf t.kind t.number (token_text bytes t) × (0 < length (token_text bytes t))
held_text bytes t held = text_of_kind t.kind t.span t.number bytes held.name held.number held.other

-- a token with the same text at its span has the same text
text_again : (k : TokenKind) (span again : Span) (number : ℕ) (bytes text : List ℕ)
    → part_of text again ≡ text_or (fixed_text k) (variable_text bytes k span number)
    → text_or (fixed_text k) (variable_text bytes k span number) ≡ text_or (fixed_text k) (variable_text text k again number)
text_again kind.Name span again number bytes text stands = sym stands
text_again kind.Number span again number bytes text stands = refl
text_again word span again number bytes text stands = refl

-- one token, cut from the text that has `before` in front of it
module _ (bytes text before rest : List ℕ) (t : Token) (b at : ℕ) (space : IsSpace b) (held : IsHeld bytes t) (whole : text ≡ before ++ (token_text bytes t ++ b ∷ rest)) (place : at ≡ length before) where
  abbrev copy : Token
  copy = record { kind = t.kind; span = record { from = at; to = at + length (token_text bytes t) }; number = t.number }

  copy_cut : (us : Tokens) → tokens_from (at + length (token_text bytes t) + 1) 0 rest ≡ Ok us → tokens_from at 0 (token_text bytes t ++ b ∷ rest) ≡ Ok (copy ∷ us)
  copy_cut us e =
      let is = held_text bytes t held in
      token_apart at t.kind t.number (token_text bytes t) rest b space is.0 is.1 ∙ ap (cons_token copy) e

  copy_alike : IsAlike bytes t text copy
  copy_alike =
      let stands = ap (λ l. part_of l copy.span) whole ∙ between before (token_text bytes t) (b ∷ rest) at (at + length (token_text bytes t)) place refl in
      record { same_kind = refl; same_number = refl; same_text = text_again t.kind t.span copy.span t.number bytes text stands }

cut_again : (bytes text before : List ℕ) (tokens : Tokens) (at : ℕ) → text ≡ before ++ printed bytes tokens → at ≡ length before → AreHeld bytes tokens
    → (again : Tokens) × (tokens_from at 0 (printed bytes tokens) ≡ Ok again) × AreAlike bytes tokens text again
cut_again bytes text before [] at whole place held = ([], refl, tt)
cut_again bytes text before (t ∷ []) at whole place held =
    (copy bytes text before [] t 10 at (inr refl) held.0 whole place ∷ [], copy_cut bytes text before [] t 10 at (inr refl) held.0 whole place [] refl, (copy_alike bytes text before [] t 10 at (inr refl) held.0 whole place, tt))
cut_again bytes text before (t ∷ u ∷ us) at whole place held =
    let rest = printed bytes (u ∷ us) in
    let front = before ++ (token_text bytes t ++ 32 ∷ []) in
    let next : text ≡ front ++ rest = whole ∙ ap (λ l. before ++ l) (sym (append_assoc (token_text bytes t) (32 ∷ []) rest)) ∙ sym (append_assoc before (token_text bytes t ++ 32 ∷ []) rest) in
    let behind : at + length (token_text bytes t) + 1 ≡ length front = omega (arith, length-append before (token_text bytes t ++ 32 ∷ []), length-append (token_text bytes t) (32 ∷ []), place) in
    let others = cut_again bytes text front (u ∷ us) (at + length (token_text bytes t) + 1) next behind held.1 in
    (copy bytes text before rest t 32 at (inl refl) held.0 whole place ∷ others.0, copy_cut bytes text before rest t 32 at (inl refl) held.0 whole place others.0 others.1, (copy_alike bytes text before rest t 32 at (inl refl) held.0 whole place, others.2))

line_end : IsUtf8 (10 ∷ [])
line_end = IsUtf8-from_ascii (10 ∷ []) (alone 10 (omega arith))

space : IsUtf8 (32 ∷ [])
space = IsUtf8-from_ascii (32 ∷ []) (alone 32 (omega arith))

printed_utf8 : (bytes : List ℕ) (tokens : Tokens) → AreHeld bytes tokens → IsUtf8 (printed bytes tokens)
printed_utf8 bytes [] held = line_end
printed_utf8 bytes (t ∷ []) held = IsUtf8-append (token_text bytes t) (10 ∷ []) (text_utf8 t.kind t.number (token_text bytes t) (held_text bytes t held.0).0) (printed_utf8 bytes [] tt)
printed_utf8 bytes (t ∷ u ∷ us) held =
    IsUtf8-append (token_text bytes t) (32 ∷ printed bytes (u ∷ us)) (text_utf8 t.kind t.number (token_text bytes t) (held_text bytes t held.0).0)
    (IsUtf8-append (32 ∷ []) (printed bytes (u ∷ us)) space (printed_utf8 bytes (u ∷ us) held.1))

-- what is printed of tokens is cut into tokens that are alike
pub tokens_again : (bytes : List ℕ) (tokens : Tokens) → AreHeld bytes tokens → (again : Tokens) × (lexed (printed bytes tokens) ≡ Ok again) × AreAlike bytes tokens (printed bytes tokens) again
tokens_again bytes tokens held =
    let cut = cut_again bytes (printed bytes tokens) [] tokens 0 refl refl held in
    (cut.0, sym (lexed_text (printed bytes tokens) (printed_utf8 bytes tokens held)) ∙ cut.1, cut.2)
