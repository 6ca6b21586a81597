-- The same of expressions and uses.
use Rattle.std.proofs.Common.{ℕ, zero, suc, ◌+◌, ◌-◌, ◌≡◌, Bool, false, ◌||◌, List, ◌∷◌, length, refl, subst, arith}
use Rattle.fsl_tree.specs.SpelledExpressions.{Tokens}
use Rattle.fsl_tree.specs.declared.expression.Factor.{Factor}
use Rattle.fsl_grammar.specs.Heads.{is_next, is_number_next}
use Rattle.fsl_grammar.specs.Readers.{Wrong, Reader}
use Rattle.fsl_grammar.specs.ReadExpressions.{read_sign, read_multiplier, read_term, is_sign_next, read_addend, read_expression_of, read_negative, read_group, read_factor_of, read_factor, read_expression, read_comparison, read_compared, read_condition, read_next_argument, read_arguments, read_optional_arguments, read_usage}
use Rattle.fsl_grammar.specs.Levels.{Opened, Bracket, Negation, factor_ends}
use Rattle.fsl_token.specs.declared.kind.TokenKind.TheVariants as kind
use Rattle.fsl_grammar.proofs.Level.{Level, LevelOf, Fits, inside, Any, IsEnded, NotEnded, at, done, off, and_then, when, settle, take_plain, take_name, take_minus, take_operand, number_operand, close_paren, close_group, open_level, sign_level_open, many_of_level}

pub sign_level : {n room : ℕ} {F : List Opened} → Fits n room F → LevelOf n F IsEnded NotEnded read_sign
unfolding read_sign
sign_level fits flag ts q =
    when (is_next kind.Plus ts) (and_then (take_plain kind.Plus (λ F b. refl) fits flag ts) (λ place l1 f1 q1. done f1 q1))
    (and_then (take_minus fits flag ts q) (λ place l1 f1 q1. done f1 q1))

-- a factor that is read ends the signs that are open before it
abbrev pub FactorLevel : ℕ → ℕ → Reader Factor → Type 0
FactorLevel n room reader = (F : List Opened) → length F + room ≡ n → (flag : Bool) (ts : Tokens) → flag ≡ false
    → Level n (at F flag) ts (factor_ends F) IsEnded (reader ts)

pub multiplier_level : {n room : ℕ} {F : List Opened} {reader : Reader Factor} → FactorLevel n room reader → Fits n room F
    → LevelOf n F IsEnded IsEnded (read_multiplier reader)
unfolding read_multiplier
multiplier_level each fits flag ts q =
    and_then (take_plain kind.Star (λ F b. refl) fits flag ts) (λ star l1 f1 q1. and_then (settle fits (each _ fits.fits f1 l1 q1)) (λ f l2 f2 q2.
    done f2 q2))

pub term_level : {n room : ℕ} {F : List Opened} {reader : Reader Factor} → FactorLevel n room reader → Fits n room F
    → LevelOf n F NotEnded IsEnded (read_term reader)
unfolding read_term
term_level each fits flag ts q =
    and_then (settle fits (each _ fits.fits flag ts q)) (λ first l1 f1 q1.
    and_then (many_of_level {Q = IsEnded} (is_next kind.Star) (multiplier_level each fits) f1 l1 q1) (λ more l2 f2 q2. done f2 q2))

pub addend_level : {n room : ℕ} {F : List Opened} {reader : Reader Factor} → FactorLevel n room reader → Fits n room F
    → LevelOf n F IsEnded IsEnded (read_addend reader)
unfolding read_addend
addend_level each fits flag ts q =
    and_then (sign_level fits flag ts q) (λ sign l1 f1 q1. and_then (term_level each fits f1 l1 q1) (λ term l2 f2 q2. done f2 q2))

pub expression_of_level : {n room : ℕ} {F : List Opened} {reader : Reader Factor} → FactorLevel n room reader → Fits n room F
    → LevelOf n F NotEnded IsEnded (read_expression_of reader)
unfolding read_expression_of
expression_of_level each fits flag ts q =
    and_then (term_level each fits flag ts q) (λ first l1 f1 q1.
    and_then (many_of_level {Q = IsEnded} is_sign_next (addend_level each fits) f1 l1 q1) (λ more l2 f2 q2. done f2 q2))

pub negative_level : {n : ℕ} (room : ℕ) {inner : Reader Factor} → FactorLevel n (room - 1) inner → FactorLevel n room (read_negative room inner)
unfolding read_negative
negative_level room each F fits flag ts q =
    and_then (sign_level_open fits flag ts q) (λ minus l1 f1 q1. let r = q1.roomy in
    and_then (each (Negation ∷ F) (omega arith) f1 l1 q1.closed) (λ factor l2 f2 q2. done f2 q2))

pub group_level : {n : ℕ} (room : ℕ) {inner : Reader Factor} → FactorLevel n (room - 1) inner → FactorLevel n room (read_group room inner)
unfolding read_group
group_level {n = n} room each F fits flag ts q =
    and_then (open_level kind.OpenParen (λ b. refl) fits flag ts) (λ start l1 f1 q1. let r = q1.roomy in
    let within : Fits n (room - 1) (Bracket ∷ F) = record { settled = refl; fits = omega arith } in
    and_then (expression_of_level each within f1 l1 q1.closed) (λ inside l2 f2 q2.
    and_then (close_group (omega arith) f2 l2) (λ end l3 f3 q3. done f3 q3)))

pub factor_of_level : {n : ℕ} (room : ℕ) {inner : Reader Factor} → FactorLevel n (room - 1) inner → FactorLevel n room (read_factor_of room inner)
factor_of_level room each F fits flag ts q =
    when (is_number_next ts) (and_then (number_operand (omega arith) flag ts) (λ n l1 f1 q1. done f1 q1))
    (when (is_next kind.Name ts) (and_then (take_operand kind.Name (λ F b. refl) (omega arith) flag ts) (λ place l1 f1 q1. done f1 q1))
    (when (is_next kind.ResultWord ts) (and_then (take_operand kind.ResultWord (λ F b. refl) (omega arith) flag ts) (λ place l1 f1 q1. done f1 q1))
    (when (is_next kind.Minus ts) (negative_level room each F fits flag ts q)
    (group_level room each F fits flag ts q))))

pub factor_level : (n room : ℕ) → FactorLevel n room (read_factor room)
factor_level n zero F fits = factor_of_level 0 {inner = λ tokens. Wrong tokens} (λ G h flag ts q. off) F fits
factor_level n (suc room) F fits = factor_of_level (suc room) {inner = read_factor room}
    (subst (λ (k : ℕ). FactorLevel n k (read_factor room)) (omega arith) (factor_level n room)) F fits

pub expression_level : {n room : ℕ} {F : List Opened} → Fits n room F → LevelOf n F NotEnded IsEnded (read_expression room)
expression_level {n = n} {room = room} fits = expression_of_level (factor_level n room) fits

pub comparison_level : {n room : ℕ} {F : List Opened} → Fits n room F → LevelOf n F Any NotEnded read_comparison
unfolding read_comparison
comparison_level fits flag ts q =
    when (is_next kind.Equal ts) (and_then (take_plain kind.Equal (λ F b. refl) fits flag ts) (λ place l1 f1 q1. done f1 q1))
    (when (is_next kind.NotEqual ts) (and_then (take_plain kind.NotEqual (λ F b. refl) fits flag ts) (λ place l1 f1 q1. done f1 q1))
    (when (is_next kind.Less ts) (and_then (take_plain kind.Less (λ F b. refl) fits flag ts) (λ place l1 f1 q1. done f1 q1))
    (when (is_next kind.AtMost ts) (and_then (take_plain kind.AtMost (λ F b. refl) fits flag ts) (λ place l1 f1 q1. done f1 q1))
    (when (is_next kind.Greater ts) (and_then (take_plain kind.Greater (λ F b. refl) fits flag ts) (λ place l1 f1 q1. done f1 q1))
    (and_then (take_plain kind.AtLeast (λ F b. refl) fits flag ts) (λ place l1 f1 q1. done f1 q1))))))

pub compared_level : {n room : ℕ} {F : List Opened} → Fits n room F → LevelOf n F NotEnded Any (read_compared room)
unfolding read_compared
compared_level fits flag ts q =
    and_then (expression_level fits flag ts q) (λ left_side l1 f1 q1. and_then (comparison_level fits f1 l1 tt) (λ comparison l2 f2 q2.
    and_then (expression_level fits f2 l2 q2) (λ right l3 f3 q3. done f3 tt)))

pub condition_level : {n room : ℕ} {F : List Opened} → Fits n room F → LevelOf n F NotEnded Any (read_condition room)
unfolding read_condition
condition_level fits flag ts q =
    when (is_next kind.True ts) (and_then (take_plain kind.True (λ F b. refl) fits flag ts) (λ place l1 f1 q1. done f1 tt))
    (when (is_next kind.False ts) (and_then (take_plain kind.False (λ F b. refl) fits flag ts) (λ place l1 f1 q1. done f1 tt))
    (compared_level fits flag ts q))

pub next_argument_level : {n room : ℕ} {F : List Opened} → Fits n room F → LevelOf n F Any Any (read_next_argument room)
unfolding read_next_argument
next_argument_level fits flag ts q =
    and_then (take_plain kind.Comma (λ F b. refl) fits flag ts) (λ comma l1 f1 q1. and_then (expression_level fits f1 l1 q1) (λ value l2 f2 q2.
    done f2 tt))

pub arguments_level : {n room : ℕ} {F : List Opened} → Fits n room F → LevelOf n F NotEnded Any (read_arguments room)
unfolding read_arguments
arguments_level fits flag ts q =
    and_then (expression_level fits flag ts q) (λ first l1 f1 q1.
    and_then (many_of_level {Q = Any} (is_next kind.Comma) (next_argument_level fits) f1 l1 tt) (λ more l2 f2 q2. done f2 tt))

pub optional_arguments_level : {n room : ℕ} {F : List Opened} → Fits n room F → LevelOf n F NotEnded Any (read_optional_arguments room)
unfolding read_optional_arguments
optional_arguments_level fits flag ts q =
    when (is_next kind.CloseParen ts || is_next kind.CloseBrace ts) (done flag tt)
    (and_then (arguments_level fits flag ts q) (λ a l1 f1 q1. done f1 tt))

pub usage_level : {n room : ℕ} {F : List Opened} → Fits n room F → LevelOf n F Any Any (read_usage room)
unfolding read_usage
usage_level fits flag ts q =
    and_then (take_name fits flag ts) (λ name l1 f1 q1. and_then (open_level kind.OpenParen (λ b. refl) fits.fits f1 l1) (λ start l2 f2 q2.
    and_then (optional_arguments_level (inside fits q2.roomy) f2 l2 q2.closed) (λ given l3 f3 q3.
    and_then (close_paren fits f3 l3) (λ end l4 f4 q4. done f4 tt))))
