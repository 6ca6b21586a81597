use Rattle.std.proofs.Common.{◌≡◌, take, ◌∙◌, ap, arith}
use Rattle.std.specs.Char.{is_ascii_digit}
use Rattle.std.specs.List.{prefix_len}
use Rattle.fsl_token.proofs.Digits.{digits_cut, too_long}
use Rattle.fsl_token.proofs.piece.Piece.number.Goals as goal
use Rattle.fsl_token.proofs.piece.Piece.number.Goals.{After-digits_len}

-- how many digits there are
count : (c : After-digits_len) → c.digits_len.result ≡ prefix_len is_ascii_digit c.args.text.now
count c = c.digits_len.ensures ∙ ap (prefix_len is_ascii_digit) c.as_bytes.ensures.value

pub split_at-requires : goal.split_at-requires
split_at-requires c = (digits_cut c.args.text.now c.digits_len.result c.utf8.text c.requires.some c.requires.digit (count (goal.at.split_at-requires c).After-digits_len)).1

-- they don't fit 64 bits
pub returns-in_default-2 : goal.returns-in_default-2
returns-in_default-2 c =
    let len = count (goal.at.returns-in_default-2 c).After-digits_len in
    let some = (digits_cut c.args.text.now c.digits_len.result c.utf8.text c.requires.some c.requires.digit len).0 in
    too_long c.args.text.now c.split_at.result.0.now c.in_default.field-0 c.parse.result (c.split_at.ensures.front ∙ ap (λ n. take n c.args.text.now) len) (omega (arith, c.split_at.ensures.front_len)) c.parse.ensures.value.0 c.in_default.is
