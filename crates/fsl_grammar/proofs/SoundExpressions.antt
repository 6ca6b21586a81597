-- What is read as an expression or a use has its tokens, and nests no deeper than there was room for.
use Rattle.std.proofs.Common.{ℕ, zero, suc, ◌-◌, ◌||◌, refl, subst, arith}
use Rattle.fsl_tree.specs.SpelledExpressions.{sign_token, factor, addend, expression, multiplier, term, comparison_token, condition, next_argument, arguments, optional_arguments, usage}
use Rattle.fsl_tree.specs.declared.expression.Factor.{Factor}
use Rattle.fsl_tree.specs.declared.expression.Factor.TheOpen.{Factor-F}
use Rattle.fsl_grammar.specs.Heads.{is_next, is_number_next}
use Rattle.fsl_grammar.specs.Readers.{Wrong, Reader}
use Rattle.fsl_tree.specs.Nesting.{in_factor, in_addend, in_expression, in_multiplier, in_term, in_condition, in_next_argument, in_arguments, in_use}
use Rattle.fsl_grammar.specs.ReadExpressions.{read_sign, read_multiplier, read_term, is_sign_next, read_addend, read_expression_of, read_negative, read_group, read_factor_of, read_factor, read_expression, read_comparison, read_compared, read_condition, read_next_argument, read_arguments, read_optional_arguments, read_usage}
use Rattle.fsl_token.specs.declared.kind.TokenKind.TheVariants as kind
use Rattle.fsl_grammar.proofs.Layers.{factor_spells, factor_nests, addend_spells, addend_nests, expression_spells, expression_nests, multiplier_spells, multiplier_nests, term_spells, term_nests}
use Rattle.fsl_grammar.proofs.Sound.{is_read, maybe_read, found, wrong, and_then, when, Sound, SoundIfThere, one, none, take_sound, open_sound, number_sound, many_of_sound, in_some_arguments}

pub sign_sound : (room : ℕ) → Sound (one sign_token) none room read_sign
unfolding read_sign
sign_sound room ts =
    when (is_next kind.Plus ts) (λ h. and_then (take_sound kind.Plus ts) (λ place l1 e1. found _ _ (is_read (cc) (omega arith) (omega arith))))
    (λ h. and_then (take_sound kind.Minus ts) (λ place l1 e1. found _ _ (is_read (cc) (omega arith) (omega arith))))

pub multiplier_sound : (room : ℕ) (reader : Reader Factor) → Sound factor in_factor room reader
    → Sound multiplier in_multiplier room (read_multiplier reader)
unfolding read_multiplier
multiplier_sound room reader each ts =
    and_then (take_sound kind.Star ts) (λ star l1 e1. and_then (each l1) (λ f l2 e2.
    let spells = multiplier_spells (record { star = star; factor = f }) l2 in let nests = multiplier_nests (record { star = star; factor = f }) in
    found _ _ (is_read (cc) (omega arith) (omega arith))))

pub term_sound : (room : ℕ) (reader : Reader Factor) → Sound factor in_factor room reader → Sound term in_term room (read_term reader)
unfolding read_term
term_sound room reader each ts =
    and_then (each ts) (λ first l1 e1. and_then (many_of_sound (is_next kind.Star) (multiplier_sound room reader each) l1) (λ more l2 e2.
    let spells = term_spells (record { first = first; more = more }) l2 in let nests = term_nests (record { first = first; more = more }) in
    found _ _ (is_read (cc) (omega arith) (omega arith))))

pub addend_sound : (room : ℕ) (reader : Reader Factor) → Sound factor in_factor room reader → Sound addend in_addend room (read_addend reader)
unfolding read_addend
addend_sound room reader each ts =
    and_then (sign_sound room ts) (λ sign l1 e1. and_then (term_sound room reader each l1) (λ term l2 e2.
    let spells = addend_spells (record { sign = sign; term = term }) l2 in let nests = addend_nests (record { sign = sign; term = term }) in
    found _ _ (is_read (cc) (omega arith) (omega arith))))

pub expression_of_sound : (room : ℕ) (reader : Reader Factor) → Sound factor in_factor room reader
    → Sound expression in_expression room (read_expression_of reader)
unfolding read_expression_of
expression_of_sound room reader each ts =
    and_then (term_sound room reader each ts) (λ first l1 e1. and_then (many_of_sound is_sign_next (addend_sound room reader each) l1) (λ more l2 e2.
    let spells = expression_spells (record { first = first; more = more }) l2 in
    let nests = expression_nests (record { first = first; more = more }) in found _ _ (is_read (cc) (omega arith) (omega arith))))

pub negative_sound : (room : ℕ) (inner : Reader Factor) → Sound factor in_factor (room - 1) inner
    → Sound factor in_factor room (read_negative room inner)
unfolding read_negative
negative_sound room inner each ts =
    and_then (open_sound kind.Minus room ts) (λ minus l1 e1. and_then (each l1) (λ factor l2 e2.
    let spells = factor_spells (Factor-F.Negative minus factor) l2 in let nests = factor_nests (Factor-F.Negative minus factor) in
    found _ _ (is_read (cc) (omega arith) (omega arith))))

pub group_sound : (room : ℕ) (inner : Reader Factor) → Sound factor in_factor (room - 1) inner → Sound factor in_factor room (read_group room inner)
unfolding read_group
group_sound room inner each ts =
    and_then (open_sound kind.OpenParen room ts) (λ start l1 e1. and_then (expression_of_sound (room - 1) inner each l1) (λ inside l2 e2.
    and_then (take_sound kind.CloseParen l2) (λ end l3 e3. let spells = factor_spells (Factor-F.Group start inside end) l3 in
    let nests = factor_nests (Factor-F.Group start inside end) in found _ _ (is_read (cc) (omega arith) (omega arith)))))

pub factor_of_sound : (room : ℕ) (inner : Reader Factor) → Sound factor in_factor (room - 1) inner
    → Sound factor in_factor room (read_factor_of room inner)
factor_of_sound room inner each ts =
    when (is_number_next ts) (λ h. and_then (number_sound ts) (λ n l1 e1. let spells = factor_spells (Factor-F.Number n.place n.value) l1 in
    let nests = factor_nests (Factor-F.Number n.place n.value) in found _ _ (is_read (cc) (omega arith) (omega arith))))
    (λ h. when (is_next kind.Name ts) (λ h. and_then (take_sound kind.Name ts) (λ place l1 e1. let spells = factor_spells (Factor-F.Name place) l1 in
    let nests = factor_nests (Factor-F.Name place) in found _ _ (is_read (cc) (omega arith) (omega arith))))
    (λ h. when (is_next kind.ResultWord ts) (λ h. and_then (take_sound kind.ResultWord ts) (λ place l1 e1.
    let spells = factor_spells (Factor-F.Outcome place) l1 in let nests = factor_nests (Factor-F.Outcome place) in
    found _ _ (is_read (cc) (omega arith) (omega arith))))
    (λ h. when (is_next kind.Minus ts) (λ h. negative_sound room inner each ts)
    (λ h. group_sound room inner each ts))))

pub factor_sound : (room : ℕ) → Sound factor in_factor room (read_factor room)
factor_sound zero = factor_of_sound 0 (λ tokens. Wrong tokens) (λ tokens. wrong tokens)
factor_sound (suc room) = factor_of_sound (suc room) (read_factor room)
    (subst (λ (k : ℕ). Sound factor in_factor k (read_factor room)) (omega arith) (factor_sound room))

pub expression_sound : (room : ℕ) → Sound expression in_expression room (read_expression room)
expression_sound room = expression_of_sound room (read_factor room) (factor_sound room)

pub comparison_sound : (room : ℕ) → Sound (one comparison_token) none room read_comparison
unfolding read_comparison
comparison_sound room ts =
    when (is_next kind.Equal ts) (λ h. and_then (take_sound kind.Equal ts) (λ place l1 e1. found _ _ (is_read (cc) (omega arith) (omega arith))))
    (λ h. when (is_next kind.NotEqual ts) (λ h. and_then (take_sound kind.NotEqual ts) (λ place l1 e1.
    found _ _ (is_read (cc) (omega arith) (omega arith))))
    (λ h. when (is_next kind.Less ts) (λ h. and_then (take_sound kind.Less ts) (λ place l1 e1. found _ _ (is_read (cc) (omega arith) (omega arith))))
    (λ h. when (is_next kind.AtMost ts) (λ h. and_then (take_sound kind.AtMost ts) (λ place l1 e1.
    found _ _ (is_read (cc) (omega arith) (omega arith))))
    (λ h. when (is_next kind.Greater ts) (λ h. and_then (take_sound kind.Greater ts) (λ place l1 e1.
    found _ _ (is_read (cc) (omega arith) (omega arith))))
    (λ h. and_then (take_sound kind.AtLeast ts) (λ place l1 e1. found _ _ (is_read (cc) (omega arith) (omega arith))))))))

pub compared_sound : (room : ℕ) → Sound condition in_condition room (read_compared room)
unfolding read_compared
compared_sound room ts =
    and_then (expression_sound room ts) (λ left_side l1 e1. and_then (comparison_sound room l1) (λ comparison l2 e2.
    and_then (expression_sound room l2) (λ right l3 e3. found _ _ (is_read (cc) (omega arith) (omega arith)))))

pub condition_sound : (room : ℕ) → Sound condition in_condition room (read_condition room)
unfolding read_condition
condition_sound room ts =
    when (is_next kind.True ts) (λ h. and_then (take_sound kind.True ts) (λ place l1 e1. found _ _ (is_read (cc) (omega arith) (omega arith))))
    (λ h. when (is_next kind.False ts) (λ h. and_then (take_sound kind.False ts) (λ place l1 e1.
    found _ _ (is_read (cc) (omega arith) (omega arith))))
    (λ h. compared_sound room ts))

pub next_argument_sound : (room : ℕ) → Sound next_argument in_next_argument room (read_next_argument room)
unfolding read_next_argument
next_argument_sound room ts =
    and_then (take_sound kind.Comma ts) (λ comma l1 e1. and_then (expression_sound room l1) (λ value l2 e2.
    found _ _ (is_read (cc) (omega arith) (omega arith))))

pub arguments_sound : (room : ℕ) → Sound arguments in_some_arguments room (read_arguments room)
unfolding read_arguments
arguments_sound room ts =
    and_then (expression_sound room ts) (λ first l1 e1. and_then (many_of_sound (is_next kind.Comma) (next_argument_sound room) l1) (λ more l2 e2.
    found _ _ (is_read (cc) (omega arith) (omega arith))))

pub optional_arguments_sound : (room : ℕ) → SoundIfThere optional_arguments in_arguments room (read_optional_arguments room)
unfolding read_optional_arguments
optional_arguments_sound room ts =
    when (is_next kind.CloseParen ts || is_next kind.CloseBrace ts) (λ h. found _ _ (maybe_read refl (omega arith) (omega arith)))
    (λ h. and_then (arguments_sound room ts) (λ a l1 e1. found _ _ (maybe_read (cc) (omega arith) (omega arith))))

pub usage_sound : (room : ℕ) → Sound usage in_use room (read_usage room)
unfolding read_usage
usage_sound room ts =
    and_then (take_sound kind.Name ts) (λ name l1 e1. and_then (open_sound kind.OpenParen room l1) (λ start l2 e2.
    and_then (optional_arguments_sound (room - 1) l2) (λ given l3 e3. and_then (take_sound kind.CloseParen l3) (λ end l4 e4.
    found _ _ (is_read (cc) (omega arith) (omega arith))))))
