use Rattle.std.proofs.Common.{◌≡◌, ℕ, List, true, false, cond, ◌∙◌, sym, ap, subst, length, nat_lt, slice_index, arith, ◌<◌, ◌≤◌, eqb}
use Rattle.std.specs.Char.{is_ascii_digit}
use Rattle.std.specs.Prelude.{codes}
use Rattle.std.proofs.lemmas.Str.Pattern.{starts_text}
use Rattle.std.proofs.lemmas.Bool.{lt-ltb, le-ltb, eqb-true, eqb-false}
use Rattle.fsl_token.specs.Words.{symbol_kind}
use Rattle.fsl_token.specs.Tokens.{is_blank, begins_comment, leading_name, name_piece, symbol_piece, first_piece}
use Rattle.fsl_token.proofs.Pieces.{fourth_way}
use Rattle.fsl_token.proofs.piece.Piece.first.Goals as goal
use Rattle.fsl_token.proofs.piece.Piece.first.Goals.{After-is_empty}

-- no gap and no number begins the text
other : (c : After-is_empty) → first_piece c.args.text.now ≡ cond (nat_lt 0 (length (leading_name c.args.text.now))) (name_piece (leading_name c.args.text.now)) (symbol_piece (symbol_kind c.args.text.now))
other c =
    let text = c.args.text.now in
    let same = c.as_bytes-bytes.ensures.value in
    let blank : is_blank (slice_index text 0) ≡ false = subst (λ (t : List ℕ). is_blank (slice_index t 0) ≡ false) same (sym c.is_blank.ensures ∙ c.if-is_blank.false) in
    let comment : begins_comment text ≡ false = sym (starts_text c.starts_with.result (codes "//") text c.starts_with.ensures.cases) ∙ c.if-starts_with.false in
    let digit : is_ascii_digit (slice_index text 0) ≡ false = subst (λ (t : List ℕ). is_ascii_digit (slice_index t 0) ≡ false) same (sym c.is_ascii_digit.ensures.value ∙ c.if-is_ascii_digit.false) in
    fourth_way _ _ _ _ _ _ _ blank comment digit

pub returns-then-not-is_empty : goal.returns-then-not-is_empty
returns-then-not-is_empty c =
    let name = c.leading_name-name.ensures in
    let full : eqb (length c.leading_name-name.result.now) 0 ≡ false = sym c.is_empty.ensures ∙ c.if-not-is_empty.true in
    let some : 0 < length (leading_name c.args.text.now) = omega (arith, eqb-false _ 0 full, ap length name) in
    c.name.ensures ∙ ap name_piece name ∙ sym (other (goal.at.returns-then-not-is_empty c).After-is_empty ∙ ap (λ b. cond b (name_piece (leading_name c.args.text.now)) (symbol_piece (symbol_kind c.args.text.now))) (lt-ltb 0 _ some))

pub returns : goal.returns
returns c =
    let empty : eqb (length c.leading_name-name.result.now) 0 ≡ true = sym c.is_empty.ensures ∙ c.if-not-is_empty.false in
    let none : length (leading_name c.args.text.now) ≤ 0 = omega (arith, eqb-true _ 0 empty, ap length c.leading_name-name.ensures) in
    c.symbol.ensures ∙ sym (other (goal.at.returns c).After-is_empty ∙ ap (λ b. cond b (name_piece (leading_name c.args.text.now)) (symbol_piece (symbol_kind c.args.text.now))) (le-ltb 0 _ none))
