use Rattle.std.proofs.Common.{◌≡◌, ◌++◌, true, sym, ◌∙◌, arith}
use Rattle.std.specs.Str.Iter.{chars_rest}
use Rattle.std.specs.Char.{encode_utf8}
use Rattle.std.proofs.lemmas.Str.{IsUtf8-past_char}
use Rattle.unicode_ident.specs.Ident.{is_xid_continue}
use Rattle.fsl_token.specs.Tokens.{starts_name}
use Rattle.fsl_token.proofs.Names.{name_begun, name_more, past_char_len}
use Rattle.fsl_token.proofs.piece.name_len.Goals as goal

-- the first character is in the name
pub loop-c-init : goal.loop-c-init
loop-c-init c =
    let next : c.args.text.now ≡ encode_utf8 c.in-Some.first ++ chars_rest c.next.new.self = sym c.chars-rest.ensures.rest ∙ c.in-Some.ensures.steps.0 in
    let begins : starts_name c.in-Some.first ≡ true = sym c.starts_name.ensures ∙ c.if-not-starts_name.false in
    let taken = past_char_len _ _ _ next in
    let name = name_begun _ _ _ c.utf8.text next begins in
    record {
      can = tt;
      finite = tt;
      utf8 = IsUtf8-past_char _ _ _ c.utf8.text next;
      so_far = omega (arith, c.len_utf8-len.ensures.value);
      room = omega (arith, c.len_utf8-len.ensures.value);
    }

-- one more character is
pub loop-c-preserved : goal.loop-c-preserved
loop-c-preserved c =
    let next : chars_rest c.loop-c.rest ≡ encode_utf8 c.in-Some-next.c ++ chars_rest c.next-in-loop-c.new.self = c.in-Some-next.ensures.steps.0 in
    let continues : is_xid_continue c.in-Some-next.c ≡ true = sym c.is_xid_continue.ensures.value ∙ c.if-not-is_xid_continue.false in
    let taken = past_char_len _ _ _ next in
    let more = name_more _ _ _ c.loop-c.invariant.utf8 next continues in
    record {
      can = tt;
      finite = tt;
      utf8 = IsUtf8-past_char _ _ _ c.loop-c.invariant.utf8 next;
      so_far = omega (arith, c.len_utf8-len-in-Some-next.ensures.value, c.loop-c.invariant.so_far);
      room = omega (arith, c.len_utf8-len-in-Some-next.ensures.value, c.loop-c.invariant.room);
    }
