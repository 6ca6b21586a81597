-- Tokens alike those of a part of a tree are those of a part that differs in spans alone.
use Rattle.std.proofs.Common.{ℕ, ◌≡◌, List, [], ◌∷◌, map, refl, sym, ap, ◌∙◌, subst}
use Rattle.fsl_base.specs.declared.span.Span.{Span}
use Rattle.fsl_token.specs.declared.kind.Token.{Token}
use Rattle.fsl_token.specs.declared.kind.TokenKind.{TokenKind}
use Rattle.fsl_token.specs.declared.kind.TokenKind.TheVariants as kind
use Rattle.fsl_tree.specs.SpelledExpressions.{Tokens, Spelled, fixed, numeral, all}
use Rattle.fsl_tree.specs.Printing.{AreAlike}

-- tokens of `text` are those of a part, in front of some that are alike those `after` it
pub record Leads {A : Type 0} (bytes text : List ℕ) (spelled : A → Spelled) (after us : Tokens) : Type 0 where
  pub part : A
  pub rest : Tokens
  pub whole : us ≡ spelled part rest
  pub alike : AreAlike bytes after text rest

-- whatever is alike a part's tokens and those after them begins with the tokens of such a part
pub record Again {A : Type 0} (spelled : A → Spelled) (part : A) : Type 0 where
  pub leads : (bytes text : List ℕ) (after us : Tokens) → AreAlike bytes (spelled part after) text us → Leads bytes text spelled after us

-- a part of which this holds
abbrev pub With : (A : Type 0) → (A → Spelled) → Type 0
With A spelled = (part : A) × Again spelled part

-- ---- one token

placed : TokenKind → ℕ → Span → Token
placed which value place = record { kind = which; span = place; number = value }

token_leads : (which : TokenKind) (value : ℕ) (place : Span) (bytes text : List ℕ) (after us : Tokens) → AreAlike bytes (placed which value place ∷ after) text us
    → Leads bytes text (λ (again : Span) rest. placed which value again ∷ rest) after us
unfolding placed
token_leads which value place bytes text after [] alike = absurd alike
token_leads which value place bytes text after (u ∷ us) alike =
    let k = alike.0.same_kind in
    let n = alike.0.same_number in
    let same : placed which value u.span ∷ us ≡ u ∷ us = (λ i. record { kind = k i; span = u.span; number = n i } ∷ us) in
    record { part = u.span; rest = us; whole = sym same; alike = alike.1 }

pub token : (which : TokenKind) (place : Span) → Again (λ (again : Span) after. fixed which again ∷ after) place
unfolding placed
token which place = record { leads = token_leads which 0 place }

pub number : (value : ℕ) (place : Span) → Again (λ (again : Span) after. numeral again value ∷ after) place
unfolding placed
number value place = record { leads = token_leads kind.Number value place }

-- ---- parts of parts

pub and_then : {A B : Type 0} {s : A → Spelled} {t : B → Spelled} {a : A} {b : B} → Again s a → Again t b → Again (λ (p : A × B) after. s p.0 (t p.1 after)) (a, b)
and_then {s = s} {t = t} {a = a} {b = b} first second = record {
  leads = λ bytes text after us alike.
      let one = first.leads bytes text (t b after) us alike in
      let two = second.leads bytes text after one.rest one.alike in
      record { part = (one.part, two.part); rest = two.rest; whole = one.whole ∙ ap (s one.part) two.whole; alike = two.alike };
}

-- what is made of a part and has its tokens
pub made : {A B : Type 0} {s : A → Spelled} {t : B → Spelled} {a : A} → Again s a → (make : A → B) → ((x : A) (after : Tokens) → t (make x) after ≡ s x after) → Again t (make a)
made {s = s} {t = t} {a = a} again make spells = record {
  leads = λ bytes text after us alike.
      let one = again.leads bytes text after us (subst (λ (ts : Tokens). AreAlike bytes ts text us) (spells a after) alike) in
      record { part = make one.part; rest = one.rest; whole = one.whole ∙ sym (spells one.part one.rest); alike = one.alike };
}

-- what has no tokens
pub nothing : {A : Type 0} {s : A → Spelled} (a : A) → ((after : Tokens) → s a after ≡ after) → Again s a
nothing {s = s} a spells = record {
  leads = λ bytes text after us alike. record { part = a; rest = us; whole = sym (spells us); alike = subst (λ (ts : Tokens). AreAlike bytes ts text us) (spells after) alike };
}

-- one part after the other
pub many : {A : Type 0} {s : A → Spelled} (parts : List (With A s)) → Again (λ (xs : List A) after. all (map s xs) after) (map (λ p. p.0) parts)
many [] = nothing [] (λ after. refl)
many (part ∷ parts) = made (and_then part.1 (many parts)) (λ t. t.0 ∷ t.1) (λ t after. refl)

pub each : {A : Type 0} {s : A → Spelled} → ((a : A) → Again s a) → (parts : List A) → Again (λ (xs : List A) after. all (map s xs) after) parts
each again [] = nothing [] (λ after. refl)
each again (part ∷ parts) = made (and_then (again part) (each again parts)) (λ t. t.0 ∷ t.1) (λ t after. refl)
