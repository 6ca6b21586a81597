-- The same of the groups that several productions share.
use Rattle.std.proofs.Common.{ℕ}
use Rattle.fsl_token.specs.declared.kind.TokenKind.{TokenKind}
use Rattle.fsl_grammar.specs.ReadGroups.{read_enclosed, read_test, read_held, read_excluded_set, read_pair, read_triple}
use Rattle.fsl_token.specs.declared.kind.TokenKind.TheVariants as kind
use Rattle.fsl_grammar.proofs.Local.{Rooms, inner, Local, found_local, and_then, take_local, open_local}
use Rattle.fsl_grammar.proofs.LocalExpressions.{expression_local, condition_local, next_argument_local, optional_arguments_local, usage_local}

pub enclosed_local : {P : Type 0} {n m : ℕ} (word : TokenKind) → Rooms P n m → Local P 1 (read_enclosed word n) (read_enclosed word m)
unfolding read_enclosed
enclosed_local word rooms =
    and_then (take_local word) (λ place. and_then (open_local kind.OpenParen rooms) (λ start. and_then (expression_local (inner rooms)) (λ inside.
    and_then (take_local kind.CloseParen) (λ end. found_local _))))

pub test_local : {P : Type 0} {n m : ℕ} (word : TokenKind) → Rooms P n m → Local P 1 (read_test word n) (read_test word m)
unfolding read_test
test_local word rooms =
    and_then (take_local word) (λ place. and_then (open_local kind.OpenParen rooms) (λ start. and_then (condition_local (inner rooms)) (λ inside.
    and_then (take_local kind.CloseParen) (λ end. found_local _))))

pub held_local : {P : Type 0} {n m : ℕ} → Rooms P n m → Local P 1 (read_held n) (read_held m)
unfolding read_held
held_local rooms =
    and_then (expression_local rooms) (λ location. and_then (take_local kind.Comma) (λ comma.
    and_then (usage_local rooms) (λ invariant. found_local _)))

pub excluded_set_local : {P : Type 0} {n m : ℕ} → Rooms P n m → Local P 1 (read_excluded_set n) (read_excluded_set m)
unfolding read_excluded_set
excluded_set_local rooms =
    and_then (open_local kind.OpenBrace rooms) (λ start. and_then (optional_arguments_local (inner rooms)) (λ excluded.
    and_then (take_local kind.CloseBrace) (λ end. found_local _)))

pub pair_local : {P : Type 0} {n m : ℕ} → Rooms P n m → Local P 1 (read_pair n) (read_pair m)
unfolding read_pair
pair_local rooms =
    and_then (open_local kind.OpenParen rooms) (λ start. and_then (expression_local (inner rooms)) (λ location.
    and_then (next_argument_local (inner rooms)) (λ value. and_then (take_local kind.CloseParen) (λ end. found_local _))))

pub triple_local : {P : Type 0} {n m : ℕ} → Rooms P n m → Local P 1 (read_triple n) (read_triple m)
unfolding read_triple
triple_local rooms =
    and_then (open_local kind.OpenParen rooms) (λ start. and_then (expression_local (inner rooms)) (λ location.
    and_then (next_argument_local (inner rooms)) (λ expected. and_then (next_argument_local (inner rooms)) (λ new.
    and_then (take_local kind.CloseParen) (λ end. found_local _)))))
