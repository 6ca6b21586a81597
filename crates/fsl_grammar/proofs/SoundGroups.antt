-- What is read as a group that several productions share has its tokens, and nests no deeper than there was room for.
use Rattle.std.proofs.Common.{ℕ, ◌-◌, arith}
use Rattle.fsl_token.specs.declared.kind.TokenKind.{TokenKind}
use Rattle.fsl_grammar.proofs.GroupTokens.{enclosed, in_enclosed, test, in_test, held, in_held, excluded_set, in_excluded_set, pair, in_pair, triple, in_triple}
use Rattle.fsl_grammar.specs.ReadGroups.{read_enclosed, read_test, read_held, read_excluded_set, read_pair, read_triple}
use Rattle.fsl_token.specs.declared.kind.TokenKind.TheVariants as kind
use Rattle.fsl_grammar.proofs.Sound.{is_read, found, and_then, Sound, take_sound, open_sound}
use Rattle.fsl_grammar.proofs.SoundExpressions.{expression_sound, condition_sound, next_argument_sound, optional_arguments_sound, usage_sound}

pub enclosed_sound : (word : TokenKind) (room : ℕ) → Sound (enclosed word) in_enclosed room (read_enclosed word room)
unfolding read_enclosed
enclosed_sound word room ts =
    and_then (take_sound word ts) (λ place l1 e1. and_then (open_sound kind.OpenParen room l1) (λ start l2 e2.
    and_then (expression_sound (room - 1) l2) (λ inside l3 e3. and_then (take_sound kind.CloseParen l3) (λ end l4 e4.
    found _ _ (is_read (cc) (omega arith) (omega arith))))))

pub test_sound : (word : TokenKind) (room : ℕ) → Sound (test word) in_test room (read_test word room)
unfolding read_test
test_sound word room ts =
    and_then (take_sound word ts) (λ place l1 e1. and_then (open_sound kind.OpenParen room l1) (λ start l2 e2.
    and_then (condition_sound (room - 1) l2) (λ inside l3 e3. and_then (take_sound kind.CloseParen l3) (λ end l4 e4.
    found _ _ (is_read (cc) (omega arith) (omega arith))))))

pub held_sound : (room : ℕ) → Sound held in_held room (read_held room)
unfolding read_held
held_sound room ts =
    and_then (expression_sound room ts) (λ location l1 e1. and_then (take_sound kind.Comma l1) (λ comma l2 e2.
    and_then (usage_sound room l2) (λ invariant l3 e3. found _ _ (is_read (cc) (omega arith) (omega arith)))))

pub excluded_set_sound : (room : ℕ) → Sound excluded_set in_excluded_set room (read_excluded_set room)
unfolding read_excluded_set
excluded_set_sound room ts =
    and_then (open_sound kind.OpenBrace room ts) (λ start l1 e1. and_then (optional_arguments_sound (room - 1) l1) (λ excluded l2 e2.
    and_then (take_sound kind.CloseBrace l2) (λ end l3 e3. found _ _ (is_read (cc) (omega arith) (omega arith)))))

pub pair_sound : (room : ℕ) → Sound pair in_pair room (read_pair room)
unfolding read_pair
pair_sound room ts =
    and_then (open_sound kind.OpenParen room ts) (λ start l1 e1. and_then (expression_sound (room - 1) l1) (λ location l2 e2.
    and_then (next_argument_sound (room - 1) l2) (λ value l3 e3. and_then (take_sound kind.CloseParen l3) (λ end l4 e4.
    found _ _ (is_read (cc) (omega arith) (omega arith))))))

pub triple_sound : (room : ℕ) → Sound triple in_triple room (read_triple room)
unfolding read_triple
triple_sound room ts =
    and_then (open_sound kind.OpenParen room ts) (λ start l1 e1. and_then (expression_sound (room - 1) l1) (λ location l2 e2.
    and_then (next_argument_sound (room - 1) l2) (λ expected l3 e3. and_then (next_argument_sound (room - 1) l3) (λ new l4 e4.
    and_then (take_sound kind.CloseParen l4) (λ end l5 e5. found _ _ (is_read (cc) (omega arith) (omega arith)))))))
