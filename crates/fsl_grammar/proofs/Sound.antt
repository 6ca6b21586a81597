-- What was read is spelled by the tokens up to those that are left: the rules, one for each way to make a reader.
use Rattle.std.proofs.Common.{ℕ, zero, suc, ◌≡◌, ◌≤◌, ◌<◌, Bool, true, false, if◌then◌else◌, List, [], ◌∷◌, map, length, refl, ap, subst, arith, Some}
use Rattle.fsl_base.specs.declared.span.Span.{Span}
use Rattle.fsl_token.specs.declared.kind.Token.{Token}
use Rattle.fsl_token.specs.declared.kind.TokenKind.{TokenKind}
use Rattle.fsl_tree.specs.declared.expression.Arguments.{Arguments}
use Rattle.fsl_tree.specs.declared.assertion.Share.{Share}
use Rattle.fsl_tree.specs.declared.right_side.With.{With}
use Rattle.fsl_tree.specs.declared.declaration.Parameters.{Parameters}
use Rattle.fsl_tree.specs.SpelledExpressions.{Tokens, Spelled, fixed, numeral, all}
use Rattle.fsl_tree.specs.SpelledAssertions.{optional_share}
use Rattle.fsl_tree.specs.SpelledStatements.{optional_with}
use Rattle.fsl_tree.specs.Spelling.{optional_parameters}
use Rattle.fsl_tree.specs.Nesting.{greatest, in_arguments, in_share, in_with}
use Rattle.fsl_grammar.specs.declared.groups.Numeral.{Numeral}
use Rattle.fsl_grammar.specs.Heads.{is_fixed, is_next, is_number_next}
use Rattle.fsl_grammar.specs.Readers.{Outcome, Found, Wrong, Deep, Reader, bind, take, open_at, number, many, many_of}
use Rattle.fsl_grammar.proofs.Tokens.{is_fixed_token, is_number_token}

-- A part of the tree was read: it is spelled by the tokens from `before` up to those that are left, which are fewer, and it
-- nests within the levels that there was room for.
pub record IsRead (part : Spelled) (depth room : ℕ) (before left : Tokens) : Type 0 where
  pub found : before ≡ part left
  pub within : depth ≤ room
  pub shorter : length left < length before

-- the same of a part that may have no token
pub record IsReadIfThere (part : Spelled) (depth room : ℕ) (before left : Tokens) : Type 0 where
  pub found : before ≡ part left
  pub within : depth ≤ room
  pub shorter : length left ≤ length before

-- what is found, and the tokens that are left, are so
pub record OnFound {A : Type 0} (P : A → Tokens → Type 0) (o : Outcome A) : Type 0 where
  pub holds : (x : A) (left : Tokens) → o ≡ Found x left → P x left

pub found : {A : Type 0} {P : A → Tokens → Type 0} (x : A) (left : Tokens) → P x left → OnFound P (Found x left)
found {A = A} {P = P} x left p = record { holds = λ y rest e. subst (λ (u : A). P u rest) (cc) (subst (λ (u : Tokens). P x u) (cc) p) }

pub wrong : {A : Type 0} {P : A → Tokens → Type 0} (left : Tokens) → OnFound P (Wrong left)
wrong left = record { holds = λ y rest e. cc }

deep : {A : Type 0} {P : A → Tokens → Type 0} (left : Tokens) → OnFound P (Deep left)
deep left = record { holds = λ y rest e. cc }

pub and_then : {A B : Type 0} {P : A → Tokens → Type 0} {Q : B → Tokens → Type 0} {o : Outcome A} {next : A → Reader B}
    → OnFound P o → ((a : A) (left : Tokens) → P a left → OnFound Q (next a left)) → OnFound Q (bind o next)
and_then {o = Found x left} h each = each x left (h.holds x left refl)
and_then {o = Wrong left} h each = wrong left
and_then {o = Deep left} h each = deep left

pub when : {A : Type 0} {P : A → Tokens → Type 0} (test : Bool) {a b : Outcome A}
    → (test ≡ true → OnFound P a) → (test ≡ false → OnFound P b) → OnFound P (if test then a else b)
when true a b = a refl
when false a b = b refl

pub both : {A : Type 0} {P Q : A → Tokens → Type 0} {o : Outcome A} → OnFound P o → OnFound Q o
    → OnFound (λ (x : A) (left : Tokens). P x left × Q x left) o
both p q = record { holds = λ x left e. (p.holds x left e, q.holds x left e) }

-- ---- one token

pub record Takes (kind : TokenKind) (place : Span) (before left : Tokens) : Type 0 where
  pub found : before ≡ fixed kind place ∷ left
  pub shorter : length left < length before

pub take_sound : (kind : TokenKind) (ts : Tokens) → OnFound (λ place left. Takes kind place ts left) (take kind ts)
take_sound kind [] = wrong []
take_sound kind (token ∷ ts) = when (is_fixed kind token)
    (λ h. found token.span ts (record { found = ap (λ (t : Token). t ∷ ts) (is_fixed_token kind token h); shorter = omega arith }))
    (λ h. wrong (token ∷ ts))

pub record Opens (kind : TokenKind) (room : ℕ) (place : Span) (before left : Tokens) : Type 0 where
  pub found : before ≡ fixed kind place ∷ left
  pub roomy : 0 < room
  pub shorter : length left < length before

pub open_sound : (kind : TokenKind) (room : ℕ) (ts : Tokens) → OnFound (λ place left. Opens kind room place ts left) (open_at kind room ts)
open_sound kind zero ts = when (is_next kind ts) (λ h. deep ts) (λ h. wrong ts)
open_sound kind (suc room) ts = record {
  holds = λ place left e.
      let t = (take_sound kind ts).holds place left e in record { found = t.found; roomy = omega arith; shorter = t.shorter };
}

pub record TakesNumber (n : Numeral) (before left : Tokens) : Type 0 where
  pub found : before ≡ numeral n.place n.value ∷ left
  pub shorter : length left < length before

pub number_sound : (ts : Tokens) → OnFound (λ n left. TakesNumber n ts left) (number ts)
number_sound [] = wrong []
number_sound (token ∷ ts) = when (is_number_next (token ∷ ts))
    (λ h. found _ _ (record { found = ap (λ (t : Token). t ∷ ts) (is_number_token token h); shorter = omega arith }))
    (λ h. wrong (token ∷ ts))

-- ---- parts, and parts that may be absent

abbrev pub Sound : {A : Type 0} → (A → Spelled) → (A → ℕ) → ℕ → Reader A → Type 0
Sound {A = A} spelled depth room reader =
    (ts : Tokens) → OnFound (λ (x : A) (left : Tokens). IsRead (spelled x) (depth x) room ts left) (reader ts)

abbrev pub SoundIfThere : {A : Type 0} → (A → Spelled) → (A → ℕ) → ℕ → Reader A → Type 0
SoundIfThere {A = A} spelled depth room reader =
    (ts : Tokens) → OnFound (λ (x : A) (left : Tokens). IsReadIfThere (spelled x) (depth x) room ts left) (reader ts)

pub is_read : {part : Spelled} {depth room : ℕ} {before left : Tokens}
    → before ≡ part left → depth ≤ room → length left < length before → IsRead part depth room before left
is_read found within shorter = record { found = found; within = within; shorter = shorter }

pub maybe_read : {part : Spelled} {depth room : ℕ} {before left : Tokens}
    → before ≡ part left → depth ≤ room → length left ≤ length before → IsReadIfThere part depth room before left
maybe_read found within shorter = record { found = found; within = within; shorter = shorter }

many_sound : {A : Type 0} {spelled : A → Spelled} {depth : A → ℕ} {room : ℕ} {item : Reader A} (more : Tokens → Bool)
    → Sound spelled depth room item → (turns : ℕ)
    → SoundIfThere (λ (xs : List A). all (map spelled xs)) (λ (xs : List A). greatest (map depth xs)) room (many more item turns)
many_sound more each zero ts = found [] ts (maybe_read refl (omega arith) (omega arith))
many_sound more each (suc turns) ts = when (more ts)
    (λ h. and_then (each ts) (λ a l1 e1. and_then (many_sound more each turns l1) (λ others l2 e2.
    found _ _ (maybe_read (cc) (omega arith) (omega arith)))))
    (λ h. found [] ts (maybe_read refl (omega arith) (omega arith)))

pub many_of_sound : {A : Type 0} {spelled : A → Spelled} {depth : A → ℕ} {room : ℕ} {item : Reader A} (more : Tokens → Bool)
    → Sound spelled depth room item
    → SoundIfThere (λ (xs : List A). all (map spelled xs)) (λ (xs : List A). greatest (map depth xs)) room (many_of more item)
many_of_sound more each ts = many_sound more each (length ts) ts

-- ---- the tokens and the nesting of small parts

abbrev pub one : {A : Type 0} → (A → Token) → A → Spelled
one token x after = token x ∷ after

abbrev pub none : {A : Type 0} → A → ℕ
none x = 0

abbrev pub one_level : {A : Type 0} → A → ℕ
one_level x = 1

abbrev pub in_some_arguments : Arguments → ℕ
in_some_arguments a = in_arguments (Some a)

abbrev pub some_share : Share → Spelled
some_share s = optional_share (Some s)

abbrev pub in_some_share : Share → ℕ
in_some_share s = in_share (Some s)

abbrev pub some_with : With → Spelled
some_with w = optional_with (Some w)

abbrev pub in_some_with : With → ℕ
in_some_with w = in_with (Some w)

abbrev pub some_parameters : Parameters → Spelled
some_parameters p = optional_parameters (Some p)
