-- The same of expressions and uses.
use Rattle.std.proofs.Common.{ℕ, zero, suc, ◌≡◌, Bool, if◌then◌else◌, refl, ap, subst, arith}
use Rattle.std.proofs.Math.Path.{fun_ext}
use Rattle.fsl_token.specs.declared.kind.TokenKind.{TokenKind}
use Rattle.fsl_tree.specs.SpelledExpressions.{Tokens}
use Rattle.fsl_tree.specs.declared.expression.Factor.{Factor}
use Rattle.fsl_grammar.specs.Heads.{is_next, is_number_next}
use Rattle.fsl_grammar.specs.Readers.{Outcome, Found, Wrong, Reader, bind, take, open_at}
use Rattle.fsl_grammar.specs.ReadExpressions.{read_sign, read_multiplier, read_term, read_addend, read_expression_of, read_negative, read_group, read_factor_of, read_factor, read_expression, read_comparison, read_compared, read_condition, read_next_argument, read_arguments, read_optional_arguments, read_usage}
use Rattle.fsl_base.specs.declared.span.Span.{Span}
use Rattle.fsl_token.specs.declared.kind.TokenKind.TheVariants as kind
use Rattle.fsl_grammar.proofs.Local.{Rooms, inner, Local, loose, found_local, wrong_local, and_then, when, next_by_head, number_by_head, or_by_head, take_local, number_local, open_local, many_local}
use Rattle.fsl_grammar.proofs.Local.{never, none_in, Skips, skips_then}
use Rattle.fsl_tree.specs.SpelledExpressions.{fixed}

pub sign_local : {P : Type 0} → Local P 1 read_sign read_sign
unfolding read_sign
sign_local =
    when (next_by_head kind.Plus) (and_then (take_local kind.Plus) (λ place. found_local _))
    (and_then (take_local kind.Minus) (λ place. found_local _))

pub multiplier_local : {P : Type 0} {reader also : Reader Factor} → Local P 1 reader also → Local P 1 (read_multiplier reader) (read_multiplier also)
unfolding read_multiplier
multiplier_local each =
    and_then (take_local kind.Star) (λ star. and_then each (λ f. found_local _))

pub term_local : {P : Type 0} {reader also : Reader Factor} → Local P 1 reader also → Local P 1 (read_term reader) (read_term also)
unfolding read_term
term_local each =
    and_then each (λ first. and_then (many_local (next_by_head kind.Star) (multiplier_local each)) (λ more. found_local _))

pub addend_local : {P : Type 0} {reader also : Reader Factor} → Local P 1 reader also → Local P 1 (read_addend reader) (read_addend also)
unfolding read_addend
addend_local each =
    and_then sign_local (λ sign. and_then (term_local each) (λ term. found_local _))

pub expression_of_local : {P : Type 0} {reader also : Reader Factor} → Local P 1 reader also
    → Local P 1 (read_expression_of reader) (read_expression_of also)
unfolding read_expression_of
expression_of_local each =
    and_then (term_local each) (λ first.
    and_then (many_local (or_by_head (next_by_head kind.Plus) (next_by_head kind.Minus)) (addend_local each)) (λ more. found_local _))

pub negative_local : {P : Type 0} {n m : ℕ} {reader also : Reader Factor} → Rooms P n m → Local P 1 reader also
    → Local P 1 (read_negative n reader) (read_negative m also)
unfolding read_negative
negative_local rooms each =
    and_then (open_local kind.Minus rooms) (λ minus. and_then each (λ factor. found_local _))

pub group_local : {P : Type 0} {n m : ℕ} {reader also : Reader Factor} → Rooms P n m → Local P 1 reader also
    → Local P 1 (read_group n reader) (read_group m also)
unfolding read_group
group_local rooms each =
    and_then (open_local kind.OpenParen rooms) (λ start. and_then (expression_of_local each) (λ inside.
    and_then (take_local kind.CloseParen) (λ end. found_local _)))

pub factor_of_local : {P : Type 0} {n m : ℕ} {reader also : Reader Factor} → Rooms P n m → Local P 1 reader also
    → Local P 1 (read_factor_of n reader) (read_factor_of m also)
factor_of_local rooms each =
    when number_by_head (and_then number_local (λ n. found_local _))
    (when (next_by_head kind.Name) (and_then (take_local kind.Name) (λ place. found_local _))
    (when (next_by_head kind.ResultWord) (and_then (take_local kind.ResultWord) (λ place. found_local _))
    (when (next_by_head kind.Minus) (negative_local rooms each)
    (group_local rooms each))))

-- ---- with no room nothing is read inside

pub none_opened : (kind : TokenKind) (ts : Tokens) (x : Span) (left : Tokens) → open_at kind 0 ts ≡ Found x left → ⊥
none_opened kind ts x left e = none_in (is_next kind ts) ts x left e

pub shut : {A : Type 0} (kind : TokenKind) (ts : Tokens) (f g : Span → Reader A) → bind (open_at kind 0 ts) f ≡ bind (open_at kind 0 ts) g
shut kind ts f g = never (open_at kind 0 ts) f g (none_opened kind ts)

pub same_rest : {A : Type 0} (c : Bool) (x y z : Outcome A) → y ≡ z → (if c then x else y) ≡ (if c then x else z)
same_rest {A = A} c x y z e = ap (λ (u : Outcome A). if c then x else u) e

pub same_both : {A : Type 0} (c : Bool) (w x y z : Outcome A) → w ≡ x → y ≡ z → (if c then w else y) ≡ (if c then x else z)
same_both c w x y z d e = rw (d, e) refl

no_factor_inside : (i j : Reader Factor) (ts : Tokens) → read_factor_of 0 i ts ≡ read_factor_of 0 j ts
unfolding read_negative read_group
no_factor_inside i j ts = same_rest (is_number_next ts) _ _ _ (same_rest (is_next kind.Name ts) _ _ _ (same_rest (is_next kind.ResultWord ts) _ _ _
    (same_both (is_next kind.Minus ts) _ _ _ _ (shut kind.Minus ts _ _) (shut kind.OpenParen ts _ _))))

-- ---- factors

pub factor_local : {P : Type 0} {n m : ℕ} → Rooms P n m → Local P 1 (read_factor n) (read_factor m)
factor_local {n = zero} {m = zero} rooms = factor_of_local rooms wrong_local
factor_local {P = P} {n = zero} {m = suc m} rooms =
    subst (λ (r : Reader Factor). Local P 1 r (read_factor (suc m))) (fun_ext (λ ts. no_factor_inside (read_factor m) (λ tokens. Wrong tokens) ts))
    (factor_of_local rooms (factor_local {P = P} {n = m} {m = m} (record { more = omega arith; same = λ p. refl })))
factor_local {n = suc n} {m = zero} rooms = let h = rooms.more in absurd (omega arith)
factor_local {P = P} {n = suc n} {m = suc m} rooms = factor_of_local rooms (factor_local {P = P} {n = n} {m = m}
    (let h = rooms.more in record { more = omega arith; same = λ p. let e = rooms.same p in omega arith }))

pub expression_local : {P : Type 0} {n m : ℕ} → Rooms P n m → Local P 1 (read_expression n) (read_expression m)
expression_local rooms = expression_of_local (factor_local rooms)

-- ---- a name that comes first is taken

name_factor_skips : (n : ℕ) (place : Span) → Skips (fixed kind.Name place) (read_factor n)
name_factor_skips zero place = record { skips = λ a. omega arith }
name_factor_skips (suc n) place = record { skips = λ a. omega arith }

pub name_expression_skips : (n : ℕ) (place : Span) → Skips (fixed kind.Name place) (read_expression n)
unfolding read_expression_of read_term
name_expression_skips n place =
    let rooms : Rooms (Unit {0}) n n = record { more = omega arith; same = λ p. refl } in
    let each : Local (Unit {0}) 1 (read_factor n) (read_factor n) = factor_local rooms in
    skips_then (skips_then (name_factor_skips n place) (λ first.
    and_then (many_local (next_by_head kind.Star) (multiplier_local each)) (λ more. found_local _)))
    (λ first. and_then (many_local (or_by_head (next_by_head kind.Plus) (next_by_head kind.Minus)) (addend_local each)) (λ more. found_local _))

-- ---- comparisons, conditions, arguments and uses

pub comparison_local : {P : Type 0} → Local P 1 read_comparison read_comparison
unfolding read_comparison
comparison_local =
    when (next_by_head kind.Equal) (and_then (take_local kind.Equal) (λ place. found_local _))
    (when (next_by_head kind.NotEqual) (and_then (take_local kind.NotEqual) (λ place. found_local _))
    (when (next_by_head kind.Less) (and_then (take_local kind.Less) (λ place. found_local _))
    (when (next_by_head kind.AtMost) (and_then (take_local kind.AtMost) (λ place. found_local _))
    (when (next_by_head kind.Greater) (and_then (take_local kind.Greater) (λ place. found_local _))
    (and_then (take_local kind.AtLeast) (λ place. found_local _))))))

pub compared_local : {P : Type 0} {n m : ℕ} → Rooms P n m → Local P 1 (read_compared n) (read_compared m)
unfolding read_compared
compared_local rooms =
    and_then (expression_local rooms) (λ left_side. and_then comparison_local (λ comparison.
    and_then (expression_local rooms) (λ right. found_local _)))

pub condition_local : {P : Type 0} {n m : ℕ} → Rooms P n m → Local P 1 (read_condition n) (read_condition m)
unfolding read_condition
condition_local rooms =
    when (next_by_head kind.True) (and_then (take_local kind.True) (λ place. found_local _))
    (when (next_by_head kind.False) (and_then (take_local kind.False) (λ place. found_local _))
    (compared_local rooms))

pub next_argument_local : {P : Type 0} {n m : ℕ} → Rooms P n m → Local P 1 (read_next_argument n) (read_next_argument m)
unfolding read_next_argument
next_argument_local rooms =
    and_then (take_local kind.Comma) (λ comma. and_then (expression_local rooms) (λ value. found_local _))

pub arguments_local : {P : Type 0} {n m : ℕ} → Rooms P n m → Local P 1 (read_arguments n) (read_arguments m)
unfolding read_arguments
arguments_local rooms =
    and_then (expression_local rooms) (λ first. and_then (many_local (next_by_head kind.Comma) (next_argument_local rooms)) (λ more. found_local _))

pub optional_arguments_local : {P : Type 0} {n m : ℕ} → Rooms P n m → Local P 0 (read_optional_arguments n) (read_optional_arguments m)
unfolding read_optional_arguments
optional_arguments_local rooms =
    when (or_by_head (next_by_head kind.CloseParen) (next_by_head kind.CloseBrace)) (found_local _)
    (loose (and_then (arguments_local rooms) (λ a. found_local _)))

pub usage_local : {P : Type 0} {n m : ℕ} → Rooms P n m → Local P 1 (read_usage n) (read_usage m)
unfolding read_usage
usage_local rooms =
    and_then (take_local kind.Name) (λ name. and_then (open_local kind.OpenParen rooms) (λ start.
    and_then (optional_arguments_local (inner rooms)) (λ given.
    and_then (take_local kind.CloseParen) (λ end. found_local _))))

pub name_usage_skips : (n : ℕ) (place : Span) → Skips (fixed kind.Name place) (read_usage n)
unfolding read_usage
name_usage_skips n place =
    let rooms : Rooms (Unit {0}) n n = record { more = omega arith; same = λ p. refl } in
    let name : Skips (fixed kind.Name place) (take kind.Name) = record { skips = λ a. omega arith } in
    skips_then name (λ name. and_then (open_local kind.OpenParen rooms) (λ start. and_then (optional_arguments_local (inner rooms)) (λ given.
    and_then (take_local kind.CloseParen) (λ end. found_local _))))
