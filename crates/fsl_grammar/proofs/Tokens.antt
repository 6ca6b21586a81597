-- A token that is of a kind without a value is the one that the kind and its place make.
use Rattle.std.proofs.Common.{ℕ, ◌≡◌, ◌∙◌, ap, true, ◌==◌, rules}
use Rattle.std.proofs.lemmas.Bool.{and_parts}
use Rattle.std.proofs.lemmas.Bool.Decides.{Decides-eqb}
use denote.Enum.Bare.{sameb, same_true}
use Rattle.fsl_token.specs.contracts.kind.TokenKind.{the_type}
use Rattle.fsl_token.specs.declared.kind.Token.{Token}
use Rattle.fsl_token.specs.declared.kind.TokenKind.{TokenKind}
use Rattle.fsl_token.specs.declared.kind.TokenKind.TheVariants as kind
use Rattle.fsl_tree.specs.SpelledExpressions.{fixed, numeral}
use Rattle.fsl_grammar.specs.Heads.{is_fixed}

pub made : (token : Token) (kind : TokenKind) → token.kind ≡ kind → token.number ≡ 0 → token ≡ fixed kind token.span
made token kind same zero =
    ap (λ (k : TokenKind). let t : Token = record { kind = k; span = token.span; number = token.number } in t) same
    ∙ ap (λ (n : ℕ). let t : Token = record { kind = kind; span = token.span; number = n } in t) zero

pub is_fixed_token : (kind : TokenKind) (token : Token) → is_fixed kind token ≡ true → token ≡ fixed kind token.span
is_fixed_token kind token holds =
    let parts = and_parts (sameb the_type token.kind kind) (token.number == 0) holds in
    made token kind (same_true the_type (search rules) _ _ parts.0) ((Decides-eqb token.number 0).0 parts.1)

pub is_number_token : (token : Token) → sameb the_type token.kind kind.Number ≡ true → token ≡ numeral token.span token.number
is_number_token token holds =
    ap (λ (k : TokenKind). let t : Token = record { kind = k; span = token.span; number = token.number } in t)
    (same_true the_type (search rules) token.kind kind.Number holds)
