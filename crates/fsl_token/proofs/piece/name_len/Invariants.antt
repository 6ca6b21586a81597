use Rattle.std.proofs.Common.{◌≡◌, ◌≤◌, ◌+◌, length}
use Rattle.std.specs.Str.{IsUtf8, chars, encode_utf8_all}
use Rattle.std.specs.Str.Iter.{chars_rest}
use Rattle.std.specs.List.{take_while}
use Rattle.unicode_ident.specs.Ident.{is_xid_continue}
use Rattle.fsl_token.specs.Tokens.{leading_name}
use Rattle.fsl_token.proofs.piece.name_len.Given as goal

abbrev pub invariant-loop-c : goal.invariant-loop-c
invariant-loop-c l = record {
  can : (goal.iterator-loop-c).can_next l.rest;
  finite : (goal.iterator-loop-c).is_finite l.rest;
  utf8 : IsUtf8 (chars_rest l.rest);
  so_far : l.len + length (encode_utf8_all (take_while is_xid_continue (chars (chars_rest l.rest)))) ≡ length (leading_name l.text);
  room : l.len + length (chars_rest l.rest) ≤ length l.text;
}
