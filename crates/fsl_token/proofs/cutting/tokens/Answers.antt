use Rattle.std.proofs.Common.{◌≡◌, ◌<◌, ◌+◌, length, eqb, false, sym, ◌∙◌, subst, arith}
use Rattle.std.proofs.lemmas.Bool.{eqb-false}
use Rattle.std.proofs.lemmas.Str.{IsUtf8-drop}
use Rattle.std.specs.Str.{IsUtf8}
use Rattle.fsl_token.specs.Tokens.{tokens_from}
use Rattle.fsl_token.proofs.Lexing.{Steps, append_tokens, gap_steps, token_steps, token_within}
use Rattle.fsl_token.proofs.cutting.tokens.Goals as goal
use Rattle.fsl_token.proofs.cutting.tokens.Goals.{in-Gap, in-Token+in_ok-push-in-Token, After-first, Joined-first}

-- some bytes are left
some : (c : After-first) → 0 < length c.loop-rest.rest.now
some c = let full : eqb (length c.loop-rest.rest.now) 0 ≡ false = sym c.is_empty.ensures ∙ c.loop-rest-test.true in omega (arith, eqb-false _ 0 full)

pub overflow_cast-span : goal.overflow_cast-span
overflow_cast-span c =
    let within = token_within _ _ _ _ c.first.result c.loop-rest.invariant.utf8 (some (goal.at.overflow_cast-span c).After-first) c.first.ensures c.in-Token.is in
    omega (arith, c.loop-rest.invariant.place, c.requires)

pub overflow_add-span : goal.overflow_add-span
overflow_add-span c =
    let within = token_within _ _ _ _ c.first.result c.loop-rest.invariant.utf8 (some (goal.at.overflow_add-span c).After-first) c.first.ensures c.in-Token.is in
    omega (arith, c.loop-rest.invariant.place, c.requires)

-- the piece was cut off, and its token is there
steps : (c : Joined-first) (left : 0 < length c.loop-rest.rest.now) → Steps c.args.text.now c.loop-rest.rest.now c.match-first.tokens c.loop-rest.at c.match-first.len
steps c left = elim c.match-first.branch [
  | in-Gap w ↦ subst (Steps c.args.text.now c.loop-rest.rest.now c.match-first.tokens c.loop-rest.at) (sym w.len-is)
      (gap_steps _ _ c.loop-rest.tokens c.loop-rest.at c.loop-rest.invariant.utf8 left c.loop-rest.invariant.so_far c.match-first.tokens w.in-Gap.len c.first.result c.first.ensures w.in-Gap.is w.tokens-is)
  | in-Token+in_ok-push-in-Token w ↦ subst (Steps c.args.text.now c.loop-rest.rest.now c.match-first.tokens c.loop-rest.at) (sym w.len-is)
      (token_steps _ _ c.loop-rest.tokens c.loop-rest.at c.loop-rest.invariant.utf8 left c.loop-rest.invariant.so_far c.match-first.tokens w.in-Token.kind w.in-Token.len w.in-Token.number c.first.result c.first.ensures w.in-Token.is (w.tokens-is ∙ w.in_ok-push-in-Token.ensures.pushed))
]

pub split_at-requires : goal.split_at-requires
split_at-requires c = (steps c (some (goal.at.split_at-requires c).After-first)).cuts.1

pub loop-rest-smaller : goal.loop-rest-smaller
loop-rest-smaller c =
    let cuts = (steps (goal.at.loop-rest-smaller c).Joined-first (some (goal.at.loop-rest-smaller c).After-first)).cuts in
    let positive = cuts.0 in
    omega (arith, c.split_at.ensures.back_len)

pub loop-rest-preserved : goal.loop-rest-preserved
loop-rest-preserved c =
    let step = steps (goal.at.loop-rest-preserved c).Joined-first (some (goal.at.loop-rest-preserved c).After-first) in
    let back = c.split_at.ensures.back in
    record {
      utf8 = subst IsUtf8 (sym back) (IsUtf8-drop c.loop-rest.rest.now c.match-first.len c.loop-rest.invariant.utf8 step.cuts.1);
      so_far = subst (λ t. append_tokens c.match-first.tokens (tokens_from (c.loop-rest.at + c.match-first.len) 0 t) ≡ tokens_from 0 0 c.args.text.now) (sym back) step.so_far;
      place = omega (arith, c.split_at.ensures.back_len, c.loop-rest.invariant.place);
    }
