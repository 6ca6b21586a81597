-- The same of expressions.
use Rattle.std.proofs.Common.{ℕ, zero, suc, ◌+◌, ◌≡◌, ◌≤◌, ◌<◌, ◌∙◌, Bool, true, false, ◌&&◌, ◌==◌, rules, List, [], ◌∷◌, map, length, max, refl, sym, ap, subst, arith}
use denote.Enum.Bare.{sameb, same_true}
use Rattle.fsl_base.specs.declared.span.Span.{Span}
use Rattle.fsl_token.specs.contracts.kind.TokenKind.{the_type}
use Rattle.fsl_token.specs.declared.kind.Token.{Token}
use Rattle.fsl_token.specs.declared.kind.TokenKind.{TokenKind}
use Rattle.fsl_token.specs.declared.kind.TokenKind.TheVariants as kind
use Rattle.fsl_tree.specs.declared.expression.Sign.{Sign}
use Rattle.fsl_tree.specs.declared.expression.Sign.TheVariants as signs
use Rattle.fsl_tree.specs.declared.expression.Expression.{Expression}
use Rattle.fsl_tree.specs.declared.expression.Addend.{Addend}
use Rattle.fsl_tree.specs.declared.expression.Term.{Term}
use Rattle.fsl_tree.specs.declared.expression.Multiplier.{Multiplier}
use Rattle.fsl_tree.specs.declared.expression.Factor.{Factor}
use Rattle.fsl_tree.specs.declared.expression.Factor.TheOpen.{Factor-F, Addend-F, Expression-F, Multiplier-F, Term-F}
use Rattle.fsl_tree.specs.declared.expression.Factor.TheViews.{roll-Factor, roll-Addend, roll-Multiplier, roll-Term, roll-Expression, out-Factor, out-Addend, out-Multiplier, out-Term, out-Expression, roll-out-Factor, roll-out-Addend, roll-out-Multiplier, roll-out-Term, roll-out-Expression}
use Rattle.fsl_tree.specs.declared.expression.Factor.TheFolds.{fold-roll-Factor, fold-roll-Addend, fold-roll-Multiplier, fold-roll-Term, fold-roll-Expression}
use Rattle.fsl_tree.specs.SpelledExpressions.{Tokens, Spelled, fixed, numeral, all, sign_token, factor_step, addend_step, expression_step, multiplier_step, term_step, factor, addend, expression, multiplier, term}
use Rattle.fsl_tree.specs.Nesting.{greatest, factor_depth, addend_depth, expression_depth, multiplier_depth, term_depth, in_factor, in_addend, in_expression, in_multiplier, in_term}
use Rattle.fsl_grammar.specs.Heads.{is_fixed, is_next, is_number_next, is_use_next}
use Rattle.fsl_grammar.specs.Readers.{Outcome, Found, Wrong, Reader, bind, take, open_at, number, many}
use Rattle.fsl_grammar.specs.ReadExpressions.{read_sign, read_multiplier, read_term, is_sign_next, read_addend, read_expression_of, read_negative, read_group, read_factor_of, read_factor, read_expression}
use Rattle.fsl_grammar.proofs.Whole.{Reads, ManyRead, many_read, take_reads, open_reads}

abbrev FactorLayer : Type 0
FactorLayer = Factor-F Factor Addend Expression Multiplier Term

abbrev AddendLayer : Type 0
AddendLayer = Addend-F Factor Addend Expression Multiplier Term

abbrev MultiplierLayer : Type 0
MultiplierLayer = Multiplier-F Factor Addend Expression Multiplier Term

abbrev TermLayer : Type 0
TermLayer = Term-F Factor Addend Expression Multiplier Term

abbrev ExpressionLayer : Type 0
ExpressionLayer = Expression-F Factor Addend Expression Multiplier Term

-- ---- one level's tokens and nesting

multiplier_spelled : (x : MultiplierLayer) → multiplier (roll-Multiplier x) ≡ (λ after. fixed kind.Star x.star ∷ factor x.factor after)
unfolding factor addend expression multiplier term
multiplier_spelled x = fold-roll-Multiplier Spelled Spelled Spelled Spelled Spelled factor_step addend_step expression_step multiplier_step term_step x

multiplier_nested : (x : MultiplierLayer) → in_multiplier (roll-Multiplier x) ≡ in_factor x.factor
unfolding in_factor in_addend in_expression in_multiplier in_term
multiplier_nested x = fold-roll-Multiplier ℕ ℕ ℕ ℕ ℕ factor_depth addend_depth expression_depth multiplier_depth term_depth x

term_spelled : (x : TermLayer) → term (roll-Term x) ≡ (λ after. factor x.first (all (map multiplier x.more) after))
unfolding factor addend expression multiplier term
term_spelled x = fold-roll-Term Spelled Spelled Spelled Spelled Spelled factor_step addend_step expression_step multiplier_step term_step x

term_nested : (x : TermLayer) → in_term (roll-Term x) ≡ max (in_factor x.first) (greatest (map in_multiplier x.more))
unfolding in_factor in_addend in_expression in_multiplier in_term
term_nested x = fold-roll-Term ℕ ℕ ℕ ℕ ℕ factor_depth addend_depth expression_depth multiplier_depth term_depth x

addend_spelled : (x : AddendLayer) → addend (roll-Addend x) ≡ (λ after. sign_token x.sign ∷ term x.term after)
unfolding factor addend expression multiplier term
addend_spelled x = fold-roll-Addend Spelled Spelled Spelled Spelled Spelled factor_step addend_step expression_step multiplier_step term_step x

addend_nested : (x : AddendLayer) → in_addend (roll-Addend x) ≡ in_term x.term
unfolding in_factor in_addend in_expression in_multiplier in_term
addend_nested x = fold-roll-Addend ℕ ℕ ℕ ℕ ℕ factor_depth addend_depth expression_depth multiplier_depth term_depth x

expression_spelled : (x : ExpressionLayer) → expression (roll-Expression x) ≡ (λ after. term x.first (all (map addend x.more) after))
unfolding factor addend expression multiplier term
expression_spelled x = fold-roll-Expression Spelled Spelled Spelled Spelled Spelled factor_step addend_step expression_step multiplier_step term_step x

expression_nested : (x : ExpressionLayer) → in_expression (roll-Expression x) ≡ max (in_term x.first) (greatest (map in_addend x.more))
unfolding in_factor in_addend in_expression in_multiplier in_term
expression_nested x = fold-roll-Expression ℕ ℕ ℕ ℕ ℕ factor_depth addend_depth expression_depth multiplier_depth term_depth x

-- ---- signs

sign_reads : (s : Sign) (after : Tokens) → read_sign (sign_token s ∷ after) ≡ Found s after
unfolding read_sign
sign_reads (signs.Plus place) after = refl
sign_reads (signs.Minus place) after = refl

sign_begins : (s : Sign) (after : Tokens) → is_sign_next (sign_token s ∷ after) ≡ true
sign_begins (signs.Plus place) after = refl
sign_begins (signs.Minus place) after = refl

sign_no_star : (s : Sign) (after : Tokens) → is_next kind.Star (sign_token s ∷ after) ≡ false
sign_no_star (signs.Plus place) after = refl
sign_no_star (signs.Minus place) after = refl

-- ---- what holds factors

abbrev pub FactorsRead : ℕ → Reader Factor → Type 0
FactorsRead room reader = (f : Factor) (after : Tokens) → in_factor f ≤ room → Reads reader (factor f) f after

abbrev NoStar : Tokens → Type 0
NoStar after = is_next kind.Star after ≡ false

multiplier_layer : (room : ℕ) (reader : Reader Factor) → FactorsRead room reader → (x : MultiplierLayer) (after : Tokens)
    → in_multiplier (roll-Multiplier x) ≤ room → Reads (read_multiplier reader) (multiplier (roll-Multiplier x)) (roll-Multiplier x) after
unfolding read_multiplier
multiplier_layer room reader each x after fits =
    let deep = multiplier_nested x in
    let inner = each x.factor after (omega arith) in let g = inner.grows in
    rw (multiplier_spelled x) (record { reads = rw (inner.reads) refl; grows = omega arith })

multiplier_reads : (room : ℕ) (reader : Reader Factor) → FactorsRead room reader → (m : Multiplier) (after : Tokens) → in_multiplier m ≤ room
    → Reads (read_multiplier reader) (multiplier m) m after
unfolding read_multiplier
multiplier_reads room reader each m after =
    subst (λ (u : Multiplier). in_multiplier u ≤ room → Reads (read_multiplier reader) (multiplier u) u after) (roll-out-Multiplier m)
    (multiplier_layer room reader each (out-Multiplier m) after)

multiplier_begins : (m : Multiplier) (after : Tokens) → is_next kind.Star (multiplier m after) ≡ true
multiplier_begins m after = subst (λ (u : Multiplier). is_next kind.Star (multiplier u after) ≡ true) (roll-out-Multiplier m)
    (rw (multiplier_spelled (out-Multiplier m)) refl)

multipliers_read : (room : ℕ) (reader : Reader Factor) → FactorsRead room reader → (ms : List Multiplier) (after : Tokens)
    → greatest (map in_multiplier ms) ≤ room → NoStar after
    → ManyRead (is_next kind.Star) (read_multiplier reader) multiplier (λ after. Unit {0}) ms after
unfolding read_multiplier
multipliers_read room reader each ms after fits ends =
    many_read (is_next kind.Star) (read_multiplier reader) multiplier in_multiplier room (λ after. Unit {0})
    multiplier_begins (λ m after. tt) (λ m after fits ends. multiplier_reads room reader each m after fits) ms after fits tt ends

term_layer : (room : ℕ) (reader : Reader Factor) → FactorsRead room reader → (x : TermLayer) (after : Tokens)
    → in_term (roll-Term x) ≤ room → NoStar after → Reads (read_term reader) (term (roll-Term x)) (roll-Term x) after
unfolding read_multiplier read_term
term_layer room reader each x after fits ends =
    let deep = term_nested x in
    let others = multipliers_read room reader each x.more after (omega arith) ends in
    let first = each x.first (all (map multiplier x.more) after) (omega arith) in
    let e = others.reads (length (all (map multiplier x.more) after)) (omega arith) in
    let g = first.grows in let g' = others.grows in
    rw (term_spelled x) (record { reads = rw (first.reads, e) refl; grows = omega arith })

term_reads : (room : ℕ) (reader : Reader Factor) → FactorsRead room reader → (t : Term) (after : Tokens)
    → in_term t ≤ room → NoStar after → Reads (read_term reader) (term t) t after
unfolding read_multiplier read_term
term_reads room reader each t after =
    subst (λ (u : Term). in_term u ≤ room → NoStar after → Reads (read_term reader) (term u) u after) (roll-out-Term t)
    (term_layer room reader each (out-Term t) after)

addend_layer : (room : ℕ) (reader : Reader Factor) → FactorsRead room reader → (x : AddendLayer) (after : Tokens)
    → in_addend (roll-Addend x) ≤ room → NoStar after → Reads (read_addend reader) (addend (roll-Addend x)) (roll-Addend x) after
unfolding read_addend read_multiplier read_sign read_term
addend_layer room reader each x after fits ends =
    let deep = addend_nested x in
    let inner = term_reads room reader each x.term after (omega arith) ends in let g = inner.grows in
    rw (addend_spelled x) (record { reads = rw (sign_reads x.sign (term x.term after), inner.reads) refl; grows = omega arith })

addend_reads : (room : ℕ) (reader : Reader Factor) → FactorsRead room reader → (a : Addend) (after : Tokens)
    → in_addend a ≤ room → NoStar after → Reads (read_addend reader) (addend a) a after
unfolding read_addend read_multiplier read_sign read_term
addend_reads room reader each a after =
    subst (λ (u : Addend). in_addend u ≤ room → NoStar after → Reads (read_addend reader) (addend u) u after) (roll-out-Addend a)
    (addend_layer room reader each (out-Addend a) after)

addend_begins : (a : Addend) (after : Tokens) → is_sign_next (addend a after) ≡ true
addend_begins a after = subst (λ (u : Addend). is_sign_next (addend u after) ≡ true) (roll-out-Addend a)
    (rw (addend_spelled (out-Addend a)) (sign_begins (out-Addend a).sign (term (out-Addend a).term after)))

addend_no_star : (a : Addend) (after : Tokens) → NoStar (addend a after)
addend_no_star a after = subst (λ (u : Addend). is_next kind.Star (addend u after) ≡ false) (roll-out-Addend a)
    (rw (addend_spelled (out-Addend a)) (sign_no_star (out-Addend a).sign (term (out-Addend a).term after)))

-- what may follow an expression
pub record EndsExpression (after : Tokens) : Type 0 where
  pub no_star : is_next kind.Star after ≡ false
  pub no_sign : is_sign_next after ≡ false

addends_read : (room : ℕ) (reader : Reader Factor) → FactorsRead room reader → (xs : List Addend) (after : Tokens)
    → greatest (map in_addend xs) ≤ room → EndsExpression after
    → ManyRead is_sign_next (read_addend reader) addend NoStar xs after
unfolding read_addend read_multiplier read_sign read_term
addends_read room reader each xs after fits ends =
    many_read is_sign_next (read_addend reader) addend in_addend room NoStar addend_begins addend_no_star
    (addend_reads room reader each) xs after fits ends.no_star ends.no_sign

expression_layer : (room : ℕ) (reader : Reader Factor) → FactorsRead room reader → (x : ExpressionLayer) (after : Tokens)
    → in_expression (roll-Expression x) ≤ room → EndsExpression after
    → Reads (read_expression_of reader) (expression (roll-Expression x)) (roll-Expression x) after
unfolding read_addend read_expression_of read_multiplier read_sign read_term
expression_layer room reader each x after fits ends =
    let deep = expression_nested x in
    let others = addends_read room reader each x.more after (omega arith) ends in
    let first = term_reads room reader each x.first (all (map addend x.more) after) (omega arith) others.ends in
    let e = others.reads (length (all (map addend x.more) after)) (omega arith) in
    let g = first.grows in let g' = others.grows in
    rw (expression_spelled x) (record { reads = rw (first.reads, e) refl; grows = omega arith })

pub expression_of_reads : (room : ℕ) (reader : Reader Factor) → FactorsRead room reader → (e : Expression) (after : Tokens)
    → in_expression e ≤ room → EndsExpression after → Reads (read_expression_of reader) (expression e) e after
unfolding read_addend read_expression_of read_multiplier read_sign read_term
expression_of_reads room reader each e after =
    subst (λ (u : Expression). in_expression u ≤ room → EndsExpression after → Reads (read_expression_of reader) (expression u) u after)
    (roll-out-Expression e) (expression_layer room reader each (out-Expression e) after)

-- ---- factors

group_spelled : (start : Span) (e : Expression) (end : Span)
    → factor (roll-Factor (Factor-F.Group start e end)) ≡ (λ after. fixed kind.OpenParen start ∷ expression e (fixed kind.CloseParen end ∷ after))
unfolding factor addend expression multiplier term
group_spelled start e end = fold-roll-Factor Spelled Spelled Spelled Spelled Spelled factor_step addend_step expression_step multiplier_step term_step (Factor-F.Group start e end)

group_nested : (start : Span) (e : Expression) (end : Span) → in_factor (roll-Factor (Factor-F.Group start e end)) ≡ 1 + in_expression e
unfolding in_factor in_addend in_expression in_multiplier in_term
group_nested start e end = fold-roll-Factor ℕ ℕ ℕ ℕ ℕ factor_depth addend_depth expression_depth multiplier_depth term_depth (Factor-F.Group start e end)

negative_spelled : (minus : Span) (f : Factor) → factor (roll-Factor (Factor-F.Negative minus f)) ≡ (λ after. fixed kind.Minus minus ∷ factor f after)
unfolding factor addend expression multiplier term
negative_spelled minus f = fold-roll-Factor Spelled Spelled Spelled Spelled Spelled factor_step addend_step expression_step multiplier_step term_step (Factor-F.Negative minus f)

negative_nested : (minus : Span) (f : Factor) → in_factor (roll-Factor (Factor-F.Negative minus f)) ≡ 1 + in_factor f
unfolding in_factor in_addend in_expression in_multiplier in_term
negative_nested minus f = fold-roll-Factor ℕ ℕ ℕ ℕ ℕ factor_depth addend_depth expression_depth multiplier_depth term_depth (Factor-F.Negative minus f)

number_spelled : (place : Span) (value : ℕ) → factor (roll-Factor (Factor-F.Number place value)) ≡ (λ after. numeral place value ∷ after)
unfolding factor addend expression multiplier term
number_spelled place value = fold-roll-Factor Spelled Spelled Spelled Spelled Spelled factor_step addend_step expression_step multiplier_step term_step (Factor-F.Number place value)

name_spelled : (place : Span) → factor (roll-Factor (Factor-F.Name place)) ≡ (λ after. fixed kind.Name place ∷ after)
unfolding factor addend expression multiplier term
name_spelled place = fold-roll-Factor Spelled Spelled Spelled Spelled Spelled factor_step addend_step expression_step multiplier_step term_step (Factor-F.Name place)

outcome_spelled : (place : Span) → factor (roll-Factor (Factor-F.Outcome place)) ≡ (λ after. fixed kind.ResultWord place ∷ after)
unfolding factor addend expression multiplier term
outcome_spelled place = fold-roll-Factor Spelled Spelled Spelled Spelled Spelled factor_step addend_step expression_step multiplier_step term_step (Factor-F.Outcome place)

-- a factor of one level, where those that nest are read with one level less room
factor_layer : (room : ℕ) (reader inner : Reader Factor)
    → ((tokens : Tokens) → reader tokens ≡ read_factor_of room inner tokens)
    → ((n : ℕ) → room ≡ suc n → FactorsRead n inner)
    → (x : FactorLayer) (after : Tokens) → in_factor (roll-Factor x) ≤ room → Reads reader (factor (roll-Factor x)) (roll-Factor x) after
unfolding read_addend read_expression_of read_group read_multiplier read_negative read_sign read_term
factor_layer room reader inner is each (Factor-F.Number place value) after fits =
    rw (number_spelled place value) (record { reads = is (numeral place value ∷ after) ∙ refl; grows = omega arith })
factor_layer room reader inner is each (Factor-F.Name place) after fits =
    rw (name_spelled place) (record { reads = is (fixed kind.Name place ∷ after) ∙ refl; grows = omega arith })
factor_layer room reader inner is each (Factor-F.Outcome place) after fits =
    rw (outcome_spelled place) (record { reads = is (fixed kind.ResultWord place ∷ after) ∙ refl; grows = omega arith })
factor_layer zero reader inner is each (Factor-F.Negative minus f) after fits =
    let deep = negative_nested minus f in absurd (omega arith)
factor_layer (suc n) reader inner is each (Factor-F.Negative minus f) after fits =
    let deep = negative_nested minus f in
    let one = each n refl f after (omega arith) in let g = one.grows in
    rw (negative_spelled minus f) (record { reads = is (fixed kind.Minus minus ∷ factor f after) ∙ rw (one.reads) refl; grows = omega arith })
factor_layer zero reader inner is each (Factor-F.Group start e end) after fits =
    let deep = group_nested start e end in absurd (omega arith)
factor_layer (suc n) reader inner is each (Factor-F.Group start e end) after fits =
    let deep = group_nested start e end in
    let one = expression_of_reads n inner (each n refl) e (fixed kind.CloseParen end ∷ after) (omega arith) (record { no_star = refl; no_sign = refl }) in
    let g = one.grows in
    rw (group_spelled start e end) (record {
      reads = is (fixed kind.OpenParen start ∷ expression e (fixed kind.CloseParen end ∷ after)) ∙ rw (one.reads) refl;
      grows = omega arith;
    })

pub factors_read : (room : ℕ) → FactorsRead room (read_factor room)
unfolding read_addend read_expression_of read_group read_multiplier read_negative read_sign read_term
factors_read zero f after =
    subst (λ (u : Factor). in_factor u ≤ 0 → Reads (read_factor 0) (factor u) u after) (roll-out-Factor f)
    (factor_layer 0 (read_factor 0) (λ tokens. Wrong tokens) (λ tokens. refl) (λ n e. cc) (out-Factor f) after)
factors_read (suc room) f after =
    subst (λ (u : Factor). in_factor u ≤ suc room → Reads (read_factor (suc room)) (factor u) u after) (roll-out-Factor f)
    (factor_layer (suc room) (read_factor (suc room)) (read_factor room) (λ tokens. refl)
    (λ n e. subst (λ (k : ℕ). FactorsRead k (read_factor room)) (omega arith) (factors_read room)) (out-Factor f) after)

pub expression_reads : (room : ℕ) (e : Expression) (after : Tokens) → in_expression e ≤ room → EndsExpression after
    → Reads (read_expression room) (expression e) e after
unfolding read_addend read_expression_of read_group read_multiplier read_negative read_sign read_term
expression_reads room = expression_of_reads room (read_factor room) (factors_read room)

-- ---- how an expression begins

-- the kinds of token that may stand first
abbrev pub starts : TokenKind → Bool
starts kind.Number = true
starts kind.Name = true
starts kind.ResultWord = true
starts kind.Minus = true
starts kind.OpenParen = true
starts which = false

pub record Begins (tokens : Tokens) : Type 0 where
  pub first : Token
  pub others : Tokens
  pub is : tokens ≡ first ∷ others
  pub fits : starts first.kind ≡ true

factor_layer_begins : (x : FactorLayer) (after : Tokens) → Begins (factor (roll-Factor x) after)
factor_layer_begins (Factor-F.Number place value) after = record { first = numeral place value; others = after; is = ap (λ (s : Spelled). s after) (number_spelled place value); fits = refl }
factor_layer_begins (Factor-F.Name place) after = record { first = fixed kind.Name place; others = after; is = ap (λ (s : Spelled). s after) (name_spelled place); fits = refl }
factor_layer_begins (Factor-F.Outcome place) after = record { first = fixed kind.ResultWord place; others = after; is = ap (λ (s : Spelled). s after) (outcome_spelled place); fits = refl }
factor_layer_begins (Factor-F.Negative minus f) after = record { first = fixed kind.Minus minus; others = factor f after; is = ap (λ (s : Spelled). s after) (negative_spelled minus f); fits = refl }
factor_layer_begins (Factor-F.Group start e end) after =
    record { first = fixed kind.OpenParen start; others = expression e (fixed kind.CloseParen end ∷ after); is = ap (λ (s : Spelled). s after) (group_spelled start e end); fits = refl }

factor_begins : (f : Factor) (after : Tokens) → Begins (factor f after)
factor_begins f after = subst (λ (u : Factor). Begins (factor u after)) (roll-out-Factor f) (factor_layer_begins (out-Factor f) after)

term_begins : (t : Term) (after : Tokens) → Begins (term t after)
term_begins t after = subst (λ (u : Term). Begins (term u after)) (roll-out-Term t)
    (rw (term_spelled (out-Term t)) (factor_begins (out-Term t).first (all (map multiplier (out-Term t).more) after)))

pub expression_begins : (e : Expression) (after : Tokens) → Begins (expression e after)
expression_begins e after = subst (λ (u : Expression). Begins (expression u after)) (roll-out-Expression e)
    (rw (expression_spelled (out-Expression e)) (term_begins (out-Expression e).first (all (map addend (out-Expression e).more) after)))

differs : (a b : Bool) → (a ≡ true → ⊥) → (a && b) ≡ false
differs true b f = absurd (f refl)
differs false b f = refl

-- a token of a kind that begins expressions is of no kind that doesn't
no_start : (which : TokenKind) (token : Token) → starts which ≡ false → starts token.kind ≡ true → is_fixed which token ≡ false
no_start which token not does = differs (sameb the_type token.kind which) (token.number == 0)
    (λ same. let e : starts token.kind ≡ starts which = ap starts (same_true the_type (search rules) token.kind which same) in cc)

pub not_start : (which : TokenKind) → starts which ≡ false → (e : Expression) (after : Tokens) → is_next which (expression e after) ≡ false
not_start which not e after =
    let b = expression_begins e after in
    subst (λ (ts : Tokens). is_next which ts ≡ false) (sym b.is) (no_start which b.first not b.fits)

-- ---- no expression begins with a name and a parenthesis

no_paren : {A : Type 0} (s : A → Spelled) → ((a : A) (after : Tokens) → is_next kind.OpenParen (s a after) ≡ false)
    → (xs : List A) (after : Tokens) → is_next kind.OpenParen after ≡ false → is_next kind.OpenParen (all (map s xs) after) ≡ false
no_paren s each [] after h = h
no_paren s each (x ∷ xs) after h = each x (all (map s xs) after)

multiplier_no_paren : (m : Multiplier) (after : Tokens) → is_next kind.OpenParen (multiplier m after) ≡ false
multiplier_no_paren m after = subst (λ (u : Multiplier). is_next kind.OpenParen (multiplier u after) ≡ false) (roll-out-Multiplier m)
    (rw (multiplier_spelled (out-Multiplier m)) refl)

sign_no_paren : (s : Sign) (after : Tokens) → is_next kind.OpenParen (sign_token s ∷ after) ≡ false
sign_no_paren (signs.Plus place) after = refl
sign_no_paren (signs.Minus place) after = refl

addend_no_paren : (a : Addend) (after : Tokens) → is_next kind.OpenParen (addend a after) ≡ false
addend_no_paren a after = subst (λ (u : Addend). is_next kind.OpenParen (addend u after) ≡ false) (roll-out-Addend a)
    (rw (addend_spelled (out-Addend a)) (sign_no_paren (out-Addend a).sign (term (out-Addend a).term after)))

factor_layer_no_use : (x : FactorLayer) (after : Tokens) → is_next kind.OpenParen after ≡ false → is_use_next (factor (roll-Factor x) after) ≡ false
factor_layer_no_use (Factor-F.Number place value) after h = rw (number_spelled place value) refl
factor_layer_no_use (Factor-F.Name place) after h = rw (name_spelled place) h
factor_layer_no_use (Factor-F.Outcome place) after h = rw (outcome_spelled place) refl
factor_layer_no_use (Factor-F.Negative minus f) after h = rw (negative_spelled minus f) refl
factor_layer_no_use (Factor-F.Group start e end) after h = rw (group_spelled start e end) refl

factor_no_use : (f : Factor) (after : Tokens) → is_next kind.OpenParen after ≡ false → is_use_next (factor f after) ≡ false
factor_no_use f after = subst (λ (u : Factor). is_next kind.OpenParen after ≡ false → is_use_next (factor u after) ≡ false) (roll-out-Factor f)
    (factor_layer_no_use (out-Factor f) after)

term_no_use : (t : Term) (after : Tokens) → is_next kind.OpenParen after ≡ false → is_use_next (term t after) ≡ false
term_no_use t after h = subst (λ (u : Term). is_use_next (term u after) ≡ false) (roll-out-Term t)
    (rw (term_spelled (out-Term t)) (factor_no_use (out-Term t).first (all (map multiplier (out-Term t).more) after)
    (no_paren multiplier multiplier_no_paren (out-Term t).more after h)))

pub expression_no_use : (e : Expression) (after : Tokens) → is_next kind.OpenParen after ≡ false → is_use_next (expression e after) ≡ false
expression_no_use e after h = subst (λ (u : Expression). is_use_next (expression u after) ≡ false) (roll-out-Expression e)
    (rw (expression_spelled (out-Expression e)) (term_no_use (out-Expression e).first (all (map addend (out-Expression e).more) after)
    (no_paren addend addend_no_paren (out-Expression e).more after h)))
