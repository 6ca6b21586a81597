-- The same of conditions, arguments and uses; and how expressions begin.
use Rattle.std.proofs.Common.{ℕ, zero, suc, ◌+◌, ◌-◌, ◌≡◌, ◌≤◌, ◌<◌, ◌∙◌, Bool, true, false, ◌||◌, List, [], ◌∷◌, map, length, max, refl, sym, ap, subst, arith, Option, Some, None}
use Rattle.fsl_base.specs.declared.span.Span.{Span}
use Rattle.fsl_token.specs.declared.kind.Token.{Token}
use Rattle.fsl_token.specs.declared.kind.TokenKind.{TokenKind}
use Rattle.fsl_token.specs.declared.kind.TokenKind.TheVariants as kind
use Rattle.fsl_tree.specs.declared.expression.Comparison.{Comparison}
use Rattle.fsl_tree.specs.declared.expression.Comparison.TheVariants as comparisons
use Rattle.fsl_tree.specs.declared.expression.Condition.{Condition}
use Rattle.fsl_tree.specs.declared.expression.Condition.TheVariants as conditions
use Rattle.fsl_tree.specs.declared.expression.Arguments.{Arguments}
use Rattle.fsl_tree.specs.declared.expression.NextArgument.{NextArgument}
use Rattle.fsl_tree.specs.declared.expression.Use.{Use}
use Rattle.fsl_tree.specs.declared.expression.Expression.{Expression}
use Rattle.fsl_tree.specs.SpelledExpressions.{Tokens, Spelled, fixed, numeral, all, comparison_token, expression, condition, next_argument, arguments, optional_arguments, usage}
use Rattle.fsl_tree.specs.Nesting.{greatest, in_expression, in_condition, in_next_argument, in_arguments, in_use}
use Rattle.fsl_grammar.specs.Heads.{is_next, is_number_next}
use Rattle.fsl_grammar.specs.Readers.{Outcome, Found, Wrong, Reader, bind, take, open_at, number, many}
use Rattle.fsl_grammar.specs.ReadExpressions.{is_sign_next, read_expression, read_comparison, read_compared, read_condition, read_next_argument, read_arguments, read_optional_arguments, read_usage, read_addend, read_expression_of, read_group, read_multiplier, read_negative, read_sign, read_term}
use Rattle.fsl_grammar.proofs.Whole.{Reads, ManyRead, many_read, take_reads, open_reads}
use Rattle.fsl_grammar.proofs.WholeExpressions.{EndsExpression, expression_reads, not_start}

-- ---- comparisons

pub comparison_reads : (c : Comparison) (after : Tokens) → read_comparison (comparison_token c ∷ after) ≡ Found c after
unfolding read_comparison
comparison_reads (comparisons.Equal place) after = refl
comparison_reads (comparisons.NotEqual place) after = refl
comparison_reads (comparisons.Less place) after = refl
comparison_reads (comparisons.AtMost place) after = refl
comparison_reads (comparisons.Greater place) after = refl
comparison_reads (comparisons.AtLeast place) after = refl

pub comparison_ends : (c : Comparison) (after : Tokens) → EndsExpression (comparison_token c ∷ after)
comparison_ends (comparisons.Equal place) after = record { no_star = refl; no_sign = refl }
comparison_ends (comparisons.NotEqual place) after = record { no_star = refl; no_sign = refl }
comparison_ends (comparisons.Less place) after = record { no_star = refl; no_sign = refl }
comparison_ends (comparisons.AtMost place) after = record { no_star = refl; no_sign = refl }
comparison_ends (comparisons.Greater place) after = record { no_star = refl; no_sign = refl }
comparison_ends (comparisons.AtLeast place) after = record { no_star = refl; no_sign = refl }

pub comparison_no_use : (c : Comparison) (after : Tokens) → is_next kind.OpenParen (comparison_token c ∷ after) ≡ false
comparison_no_use (comparisons.Equal place) after = refl
comparison_no_use (comparisons.NotEqual place) after = refl
comparison_no_use (comparisons.Less place) after = refl
comparison_no_use (comparisons.AtMost place) after = refl
comparison_no_use (comparisons.Greater place) after = refl
comparison_no_use (comparisons.AtLeast place) after = refl

pub comparison_no_arrow : (c : Comparison) (after : Tokens) → is_next kind.PointsTo (comparison_token c ∷ after) ≡ false
comparison_no_arrow (comparisons.Equal place) after = refl
comparison_no_arrow (comparisons.NotEqual place) after = refl
comparison_no_arrow (comparisons.Less place) after = refl
comparison_no_arrow (comparisons.AtMost place) after = refl
comparison_no_arrow (comparisons.Greater place) after = refl
comparison_no_arrow (comparisons.AtLeast place) after = refl

-- ---- conditions

pub condition_reads : (room : ℕ) (c : Condition) (after : Tokens) → in_condition c ≤ room → EndsExpression after
    → Reads (read_condition room) (condition c) c after
unfolding read_addend read_compared read_comparison read_condition read_expression_of read_group read_multiplier read_negative read_sign read_term
condition_reads room (conditions.Always place) after fits ends = record { reads = refl; grows = omega arith }
condition_reads room (conditions.Never place) after fits ends = record { reads = refl; grows = omega arith }
condition_reads room (conditions.Compared left comparison right) after fits ends =
    let second = expression_reads room right after (omega arith) ends in
    let first = expression_reads room left (comparison_token comparison ∷ expression right after) (omega arith) (comparison_ends comparison (expression right after)) in
    let g = first.grows in let g' = second.grows in
    record {
      reads = rw (
        not_start kind.True refl left (comparison_token comparison ∷ expression right after),
        not_start kind.False refl left (comparison_token comparison ∷ expression right after),
        first.reads,
        comparison_reads comparison (expression right after),
        second.reads,
      ) refl;
      grows = omega arith;
    }

-- ---- arguments

pub next_argument_reads : (room : ℕ) (a : NextArgument) (after : Tokens) → in_next_argument a ≤ room → EndsExpression after
    → Reads (read_next_argument room) (next_argument a) a after
unfolding read_addend read_expression_of read_group read_multiplier read_negative read_next_argument read_sign read_term
next_argument_reads room a after fits ends =
    let one = expression_reads room a.value after fits ends in let g = one.grows in
    record { reads = rw (one.reads) refl; grows = omega arith }

pub arguments_read : (room : ℕ) (a : Arguments) (after : Tokens) → in_arguments (Some a) ≤ room → EndsExpression after → is_next kind.Comma after ≡ false
    → Reads (read_arguments room) (arguments a) a after
unfolding read_addend read_arguments read_expression_of read_group read_multiplier read_negative read_next_argument read_sign read_term
arguments_read room a after fits ends stops =
    let others = many_read (is_next kind.Comma) (read_next_argument room) next_argument in_next_argument room EndsExpression
    (λ b after. refl) (λ b after. record { no_star = refl; no_sign = refl }) (next_argument_reads room) a.more after (omega arith) ends stops in
    let first = expression_reads room a.first (all (map next_argument a.more) after) (omega arith) others.ends in
    let e = others.reads (length (all (map next_argument a.more) after)) (omega arith) in
    let g = first.grows in let g' = others.grows in
    record { reads = rw (first.reads, e) refl; grows = omega arith }

pub record OptionReads {A : Type 0} (reader : Reader A) (spelled : Spelled) (part : A) (after : Tokens) : Type 0 where
  pub reads : reader (spelled after) ≡ Found part after
  pub grows : length after ≤ length (spelled after)

-- arguments that may be absent, before a parenthesis or a brace
pub optional_arguments_read : (room : ℕ) (a : Option Arguments) (after : Tokens) → in_arguments a ≤ room → EndsExpression after → is_next kind.Comma after ≡ false
    → (is_next kind.CloseParen after || is_next kind.CloseBrace after) ≡ true
    → OptionReads (read_optional_arguments room) (optional_arguments a) a after
unfolding read_addend read_arguments read_expression_of read_group read_multiplier read_negative read_next_argument read_optional_arguments read_sign read_term
optional_arguments_read room None after fits ends stops closes = record { reads = rw (closes) refl; grows = omega arith }
optional_arguments_read room (Some a) after fits ends stops closes =
    let one = arguments_read room a after fits ends stops in let g = one.grows in
    record {
      reads = rw (
        not_start kind.CloseParen refl a.first (all (map next_argument a.more) after),
        not_start kind.CloseBrace refl a.first (all (map next_argument a.more) after),
        one.reads,
      ) refl;
      grows = omega arith;
    }

-- ---- uses

pub usage_reads : (room : ℕ) (u : Use) (after : Tokens) → in_use u ≤ room → Reads (read_usage room) (usage u) u after
unfolding read_addend read_arguments read_expression_of read_group read_multiplier read_negative read_next_argument read_optional_arguments read_sign read_term read_usage
usage_reads room u after fits =
    let given = optional_arguments_read (room - 1) u.arguments (fixed kind.CloseParen u.close ∷ after) (omega arith)
    (record { no_star = refl; no_sign = refl }) refl refl in
    let g = given.grows in
    record {
      reads = rw (
        open_reads kind.OpenParen room u.open (optional_arguments u.arguments (fixed kind.CloseParen u.close ∷ after)) (omega arith),
        given.reads,
      ) refl;
      grows = omega arith;
    }
