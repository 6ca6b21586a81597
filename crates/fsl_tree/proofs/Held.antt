-- The tokens that a text was cut into stand at their spans.
use Rattle.std.proofs.Common.{ℕ, ◌≡◌, ◌+◌, ◌-◌, ◌≤◌, List, [], ◌∷◌, ◌++◌, length, take, drop, refl, sym, ap, ◌∙◌, subst, ⊎_elim, arith, append_assoc, length-append}
use Rattle.std.proofs.Math.Seq.{take-append_seam, drop-append_seam}
use Rattle.fsl_token.specs.declared.kind.TokenKind.{TokenKind}
use Rattle.fsl_token.specs.declared.kind.TokenKind.TheVariants as kind
use Rattle.fsl_token.specs.Words.{fixed_text}
use Rattle.fsl_token.specs.Reading.{IsFixed, IsName, IsNumber, IsTextOf, AreTokensOf}
use Rattle.fsl_tree.specs.SpelledExpressions.{Tokens}
use Rattle.fsl_tree.specs.Printing.{part_of, AreHeld, TokensAreHeld}

-- what stands between two stretches of bytes
pub between : (before text after : List ℕ) (from to : ℕ) → from ≡ length before → to ≡ from + length text → take (to - from) (drop from (before ++ (text ++ after))) ≡ text
between before text after from to starts ends =
    ap (λ (n : ℕ). take n (drop from (before ++ (text ++ after)))) (let long : to - from ≡ length text = omega (arith, ends) in long)
    ∙ ap (λ (n : ℕ). take (length text) (drop n (before ++ (text ++ after)))) starts
    ∙ ap (λ (bs : List ℕ). take (length text) bs) (drop-append_seam before (text ++ after)) ∙ take-append_seam text after

fixed_is_no_name : (k : TokenKind) (number : ℕ) (text : List ℕ) → k ≡ kind.Name → IsFixed k number text → IsName k number text
fixed_is_no_name k number text name fixed = let none = ap fixed_text name in let some = fixed.0 in absurd cc

number_is_no_name : (k : TokenKind) (number : ℕ) (text : List ℕ) → k ≡ kind.Name → IsNumber k number text → IsName k number text
number_is_no_name k number text name is = let other = is.0 in absurd cc

name_of : (k : TokenKind) (number : ℕ) (text : List ℕ) → k ≡ kind.Name → IsTextOf k number text → IsName k number text
name_of k number text name is = ⊎_elim (fixed_is_no_name k number text name) (λ other. ⊎_elim (λ (n : IsName k number text). n) (number_is_no_name k number text name) other) is

fixed_is_no_number : (k : TokenKind) (number : ℕ) (text : List ℕ) → k ≡ kind.Number → IsFixed k number text → number ≤ 9223372036854775808
fixed_is_no_number k number text is fixed = let none = ap fixed_text is in let some = fixed.0 in absurd cc

name_is_no_number : (k : TokenKind) (number : ℕ) (text : List ℕ) → k ≡ kind.Number → IsName k number text → number ≤ 9223372036854775808
name_is_no_number k number text is name = let other = name.0 in absurd cc

number_of : (k : TokenKind) (number : ℕ) (text : List ℕ) → k ≡ kind.Number → IsTextOf k number text → number ≤ 9223372036854775808
number_of k number text is of = ⊎_elim (fixed_is_no_number k number text is) (λ other. ⊎_elim (name_is_no_number k number text is) (λ (n : IsNumber k number text). n.3) other) of

other_value : (k : TokenKind) (number : ℕ) (text : List ℕ) → (k ≡ kind.Number → ⊥) → IsTextOf k number text → number ≡ 0
other_value k number text other is =
    ⊎_elim (λ (f : IsFixed k number text). f.1) (λ rest. ⊎_elim (λ (n : IsName k number text). n.4) (λ (n : IsNumber k number text). absurd (other n.0)) rest) is

held_from : (tokens : Tokens) (bytes before after : List ℕ) (at : ℕ) → bytes ≡ before ++ after → at ≡ length before → AreTokensOf at after tokens → AreHeld bytes tokens
held_from [] bytes before after at whole counted are = tt
held_from (t ∷ ts) bytes before after at whole counted are =
    let gap = are.0 in let text = are.1 in let rest = are.2 in let split = are.3 in
    let begins = are.6 in let ends = are.7 in let is = are.8 in let others = are.9 in
    let front : List ℕ = before ++ gap in
    let bytes_are : bytes ≡ front ++ (text ++ rest) = whole ∙ ap (λ (bs : List ℕ). before ++ bs) split ∙ sym (append_assoc before gap (text ++ rest)) in
    let long : length front ≡ length before + length gap = length-append before gap in
    let from : t.span.from ≡ length front = omega (arith, begins, counted, long) in
    let part : part_of bytes t.span ≡ text = ap (λ (bs : List ℕ). part_of bs t.span) bytes_are ∙ between front text rest t.span.from t.span.to from ends in
    let all : length bytes ≡ length front + length (text ++ rest) = ap length bytes_are ∙ length-append front (text ++ rest) in
    let behind : length (text ++ rest) ≡ length text + length rest = length-append text rest in
    let next : bytes ≡ (front ++ text) ++ rest = bytes_are ∙ sym (append_assoc front text rest) in
    let upto : length (front ++ text) ≡ length front + length text = length-append front text in (
      record {
        name = λ name. (omega (arith, ends, are.5), omega (arith, from, ends, all, behind), subst (IsName t.kind t.number) (sym part) (name_of t.kind t.number text name is));
        number = λ number. number_of t.kind t.number text number is;
        other = λ other. other_value t.kind t.number text other is;
      },
      held_from ts bytes (front ++ text) rest t.span.to next (omega (arith, from, ends, upto)) others,
    )

pub tokens_are_held : TokensAreHeld
tokens_are_held bytes tokens are = held_from tokens bytes [] bytes 0 refl refl are
