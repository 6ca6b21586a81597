-- The same of the groups that several productions share.
use Rattle.std.proofs.Common.{ℕ, List, refl}
use Rattle.fsl_token.specs.declared.kind.TokenKind.{TokenKind}
use Rattle.fsl_grammar.specs.ReadGroups.{read_enclosed, read_test, read_held, read_excluded_set, read_pair, read_triple}
use Rattle.fsl_grammar.specs.Levels.{Opened}
use Rattle.fsl_token.specs.declared.kind.TokenKind.TheVariants as kind
use Rattle.fsl_grammar.proofs.Level.{LevelOf, Fits, inside, IsPlain, Any, NotEnded, done, and_then, take_plain, close_paren, close_brace, open_level}
use Rattle.fsl_grammar.proofs.LevelExpressions.{expression_level, condition_level, next_argument_level, optional_arguments_level, usage_level}

pub enclosed_level : {n room : ℕ} {F : List Opened} (word : TokenKind) → IsPlain word → Fits n room F → LevelOf n F Any Any (read_enclosed word room)
unfolding read_enclosed
enclosed_level word plain fits flag ts q =
    and_then (take_plain word plain fits flag ts) (λ place l1 f1 q1.
    and_then (open_level kind.OpenParen (λ b. refl) fits.fits f1 l1) (λ start l2 f2 q2.
    and_then (expression_level (inside fits q2.roomy) f2 l2 q2.closed) (λ inside l3 f3 q3. and_then (close_paren fits f3 l3) (λ end l4 f4 q4.
    done f4 tt))))

pub test_level : {n room : ℕ} {F : List Opened} (word : TokenKind) → IsPlain word → Fits n room F → LevelOf n F Any Any (read_test word room)
unfolding read_test
test_level word plain fits flag ts q =
    and_then (take_plain word plain fits flag ts) (λ place l1 f1 q1.
    and_then (open_level kind.OpenParen (λ b. refl) fits.fits f1 l1) (λ start l2 f2 q2.
    and_then (condition_level (inside fits q2.roomy) f2 l2 q2.closed) (λ inside l3 f3 q3. and_then (close_paren fits f3 l3) (λ end l4 f4 q4.
    done f4 tt))))

pub held_level : {n room : ℕ} {F : List Opened} → Fits n room F → LevelOf n F NotEnded Any (read_held room)
unfolding read_held
held_level fits flag ts q =
    and_then (expression_level fits flag ts q) (λ location l1 f1 q1. and_then (take_plain kind.Comma (λ F b. refl) fits f1 l1) (λ comma l2 f2 q2.
    and_then (usage_level fits f2 l2 tt) (λ invariant l3 f3 q3. done f3 tt)))

pub excluded_set_level : {n room : ℕ} {F : List Opened} → Fits n room F → LevelOf n F Any Any (read_excluded_set room)
unfolding read_excluded_set
excluded_set_level fits flag ts q =
    and_then (open_level kind.OpenBrace (λ b. refl) fits.fits flag ts) (λ start l1 f1 q1.
    and_then (optional_arguments_level (inside fits q1.roomy) f1 l1 q1.closed) (λ excluded l2 f2 q2.
    and_then (close_brace fits f2 l2) (λ end l3 f3 q3. done f3 tt)))

pub pair_level : {n room : ℕ} {F : List Opened} → Fits n room F → LevelOf n F Any Any (read_pair room)
unfolding read_pair
pair_level fits flag ts q =
    and_then (open_level kind.OpenParen (λ b. refl) fits.fits flag ts) (λ start l1 f1 q1.
    and_then (expression_level (inside fits q1.roomy) f1 l1 q1.closed) (λ location l2 f2 q2.
    and_then (next_argument_level (inside fits q1.roomy) f2 l2 tt) (λ value l3 f3 q3. and_then (close_paren fits f3 l3) (λ end l4 f4 q4.
    done f4 tt))))

pub triple_level : {n room : ℕ} {F : List Opened} → Fits n room F → LevelOf n F Any Any (read_triple room)
unfolding read_triple
triple_level fits flag ts q =
    and_then (open_level kind.OpenParen (λ b. refl) fits.fits flag ts) (λ start l1 f1 q1.
    and_then (expression_level (inside fits q1.roomy) f1 l1 q1.closed) (λ location l2 f2 q2.
    and_then (next_argument_level (inside fits q1.roomy) f2 l2 tt) (λ expected l3 f3 q3.
    and_then (next_argument_level (inside fits q1.roomy) f3 l3 tt) (λ new l4 f4 q4. and_then (close_paren fits f4 l4) (λ end l5 f5 q5.
    done f5 tt)))))
