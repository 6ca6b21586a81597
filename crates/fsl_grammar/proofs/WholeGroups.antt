-- The same of the groups that several productions share.
use Rattle.std.proofs.Common.{ℕ, ◌+◌, ◌-◌, ◌≡◌, ◌≤◌, ◌<◌, Bool, true, false, List, [], ◌∷◌, length, max, refl, arith}
use Rattle.fsl_token.specs.declared.kind.TokenKind.{TokenKind}
use Rattle.fsl_token.specs.declared.kind.TokenKind.TheVariants as kind
use Rattle.fsl_tree.specs.SpelledExpressions.{Tokens, Spelled, fixed, expression, condition, next_argument, optional_arguments, usage}
use Rattle.fsl_tree.specs.Nesting.{in_expression, in_condition, in_next_argument, in_arguments, in_use}
use Rattle.fsl_grammar.specs.declared.groups.Enclosed.{Enclosed}
use Rattle.fsl_grammar.specs.declared.groups.Test.{Test}
use Rattle.fsl_grammar.specs.declared.groups.Held.{Held}
use Rattle.fsl_grammar.specs.declared.groups.ExcludedSet.{ExcludedSet}
use Rattle.fsl_grammar.specs.declared.groups.Pair.{Pair}
use Rattle.fsl_grammar.specs.declared.groups.Triple.{Triple}
use Rattle.fsl_grammar.proofs.GroupTokens.{enclosed, in_enclosed, test, in_test, held, in_held, excluded_set, in_excluded_set, pair, in_pair, triple, in_triple}
use Rattle.fsl_grammar.specs.Readers.{Outcome, Found, Reader, bind, take, open_at}
use Rattle.fsl_grammar.specs.ReadExpressions.{read_expression, read_condition, read_next_argument, read_optional_arguments, read_usage, read_addend, read_arguments, read_compared, read_comparison, read_expression_of, read_group, read_multiplier, read_negative, read_sign, read_term}
use Rattle.fsl_grammar.specs.ReadGroups.{read_enclosed, read_test, read_held, read_excluded_set, read_pair, read_triple}
use Rattle.fsl_grammar.proofs.Whole.{Reads, take_reads, open_reads}
use Rattle.fsl_grammar.proofs.WholeExpressions.{EndsExpression, expression_reads}
use Rattle.fsl_grammar.proofs.WholeUses.{condition_reads, next_argument_reads, optional_arguments_read, usage_reads}

pub enclosed_reads : (word : TokenKind) (room : ℕ) (e : Enclosed) (after : Tokens) → in_enclosed e ≤ room
    → Reads (read_enclosed word room) (enclosed word e) e after
unfolding read_addend read_enclosed read_expression_of read_group read_multiplier read_negative read_sign read_term
enclosed_reads word room e after fits =
    let inner = expression_reads (room - 1) e.expression (fixed kind.CloseParen e.close ∷ after) (omega arith) (record { no_star = refl; no_sign = refl }) in
    let g = inner.grows in let roomy : 0 < room = omega arith in
    record { reads = rw (take_reads, open_reads, inner.reads) refl; grows = omega arith }

pub test_reads : (word : TokenKind) (room : ℕ) (t : Test) (after : Tokens) → in_test t ≤ room
    → Reads (read_test word room) (test word t) t after
unfolding read_addend read_compared read_comparison read_condition read_expression_of read_group read_multiplier read_negative read_sign read_term read_test
test_reads word room t after fits =
    let inner = condition_reads (room - 1) t.condition (fixed kind.CloseParen t.close ∷ after) (omega arith) (record { no_star = refl; no_sign = refl }) in
    let g = inner.grows in let roomy : 0 < room = omega arith in
    record { reads = rw (take_reads, open_reads, inner.reads) refl; grows = omega arith }

pub held_reads : (room : ℕ) (h : Held) (after : Tokens) → in_held h ≤ room → Reads (read_held room) (held h) h after
unfolding read_addend read_arguments read_expression_of read_group read_held read_multiplier read_negative read_next_argument read_optional_arguments read_sign read_term read_usage
held_reads room h after fits =
    let second = usage_reads room h.invariant after (omega arith) in
    let first = expression_reads room h.location (fixed kind.Comma h.comma ∷ usage h.invariant after) (omega arith) (record { no_star = refl; no_sign = refl }) in
    let g = first.grows in let g' = second.grows in
    record { reads = rw (first.reads, second.reads) refl; grows = omega arith }

pub excluded_set_reads : (room : ℕ) (s : ExcludedSet) (after : Tokens) → in_excluded_set s ≤ room
    → Reads (read_excluded_set room) (excluded_set s) s after
unfolding read_addend read_arguments read_excluded_set read_expression_of read_group read_multiplier read_negative read_next_argument read_optional_arguments read_sign read_term
excluded_set_reads room s after fits =
    let inner = optional_arguments_read (room - 1) s.excluded (fixed kind.CloseBrace s.close ∷ after) (omega arith)
    (record { no_star = refl; no_sign = refl }) refl refl in
    let g = inner.grows in let roomy : 0 < room = omega arith in
    record { reads = rw (open_reads, inner.reads) refl; grows = omega arith }

pub pair_reads : (room : ℕ) (p : Pair) (after : Tokens) → in_pair p ≤ room → Reads (read_pair room) (pair p) p after
unfolding read_addend read_expression_of read_group read_multiplier read_negative read_next_argument read_pair read_sign read_term
pair_reads room p after fits =
    let second = next_argument_reads (room - 1) p.value (fixed kind.CloseParen p.close ∷ after) (omega arith) (record { no_star = refl; no_sign = refl }) in
    let first = expression_reads (room - 1) p.location (next_argument p.value (fixed kind.CloseParen p.close ∷ after)) (omega arith) (record { no_star = refl; no_sign = refl }) in
    let g = first.grows in let g' = second.grows in let roomy : 0 < room = omega arith in
    record { reads = rw (open_reads, first.reads, second.reads) refl; grows = omega arith }

pub triple_reads : (room : ℕ) (t : Triple) (after : Tokens) → in_triple t ≤ room → Reads (read_triple room) (triple t) t after
unfolding read_addend read_expression_of read_group read_multiplier read_negative read_next_argument read_sign read_term read_triple
triple_reads room t after fits =
    let third = next_argument_reads (room - 1) t.new (fixed kind.CloseParen t.close ∷ after) (omega arith) (record { no_star = refl; no_sign = refl }) in
    let second = next_argument_reads (room - 1) t.expected (next_argument t.new (fixed kind.CloseParen t.close ∷ after)) (omega arith) (record { no_star = refl; no_sign = refl }) in
    let first = expression_reads (room - 1) t.location (next_argument t.expected (next_argument t.new (fixed kind.CloseParen t.close ∷ after))) (omega arith) (record { no_star = refl; no_sign = refl }) in
    let g = first.grows in let g' = second.grows in let g'' = third.grows in let roomy : 0 < room = omega arith in
    record { reads = rw (open_reads, first.reads, second.reads, third.reads) refl; grows = omega arith }
