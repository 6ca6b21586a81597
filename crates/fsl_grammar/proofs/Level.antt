-- How deep the tokens nest that were read, by the brackets and signs among them: the rules, one for each way to make a
-- reader.
use Rattle.std.proofs.Common.{ℕ, zero, suc, ◌+◌, ◌-◌, ◌≡◌, ◌≤◌, ◌<◌, ◌∙◌, Bool, true, false, if◌then◌else◌, List, [], ◌∷◌, ◌++◌, length, max, refl, sym, ap, subst, arith, append_assoc}
use Rattle.fsl_base.specs.declared.span.Span.{Span}
use Rattle.fsl_token.specs.declared.kind.Token.{Token}
use Rattle.fsl_token.specs.declared.kind.TokenKind.{TokenKind}
use Rattle.fsl_token.specs.declared.kind.TokenKind.TheVariants as kind
use Rattle.fsl_tree.specs.SpelledExpressions.{Tokens}
use Rattle.fsl_grammar.specs.Heads.{is_fixed, is_number_next}
use Rattle.fsl_grammar.specs.Levels.{Opened, Bracket, Negation, Open, factor_ends, after_one, deepest_from}
use Rattle.fsl_grammar.specs.Readers.{Outcome, Found, Wrong, Deep, Reader, bind, take, open_at, number, many, many_of}
use Rattle.fsl_grammar.proofs.Tokens.{is_fixed_token, is_number_token}

abbrev pub open_after : Open → Tokens → Open
open_after o [] = o
open_after o (token ∷ tokens) = open_after (after_one token.kind o) tokens

pub deepest_append : (o : Open) (ts us : Tokens) → deepest_from o (ts ++ us) ≡ max (deepest_from o ts) (deepest_from (open_after o ts) us)
deepest_append o [] us = omega arith
deepest_append o (t ∷ ts) us = let e = deepest_append (after_one t.kind o) ts us in omega arith

open_append : (o : Open) (ts us : Tokens) → open_after o (ts ++ us) ≡ open_after (open_after o ts) us
open_append o [] us = refl
open_append o (t ∷ ts) us = open_append (after_one t.kind o) ts us

-- the tokens from `ts` up to `left` keep within the levels, and lead from what is open to what is then
pub record Passes (n : ℕ) (o : Open) (ts : Tokens) (p : Open) (left : Tokens) : Type 0 where
  pub front : Tokens
  pub is : ts ≡ front ++ left
  pub within : deepest_from o front ≤ n
  pub leads : open_after o front ≡ p

stays : (n : ℕ) (o : Open) (ts : Tokens) → Passes n o ts o ts
stays n o ts = record { front = []; is = refl; within = omega arith; leads = refl }

passes_on : {n : ℕ} {o p q : Open} {ts mid left : Tokens} → Passes n o ts p mid → Passes n p mid q left → Passes n o ts q left
passes_on {n = n} {o = o} {left = left} h k = record {
  front = h.front ++ k.front;
  is = h.is ∙ ap (λ (u : Tokens). h.front ++ u) k.is ∙ sym (append_assoc h.front k.front left);
  within = let e = deepest_append o h.front k.front in
      let f : deepest_from (open_after o h.front) k.front ≤ n = subst (λ (u : Open). deepest_from u k.front ≤ n) (sym h.leads) k.within in
      let g = h.within in omega arith;
  leads = open_append o h.front k.front ∙ ap (λ (u : Open). open_after u k.front) h.leads ∙ k.leads;
}

abbrev pub at : List Opened → Bool → Open
at opened ended = record { opened = opened; ended = ended }

pub data Level {A : Type 0} (n : ℕ) (o : Open) (ts : Tokens) (end : List Opened) (Q : Bool → Type 0) (out : Outcome A) : Type 0 where
  On : (x : A) (left : Tokens) (flag : Bool) → out ≡ Found x left → Q flag → Passes n o ts (at end flag) left → Level n o ts end Q out
  Off : (left : Tokens) (p : Open) → out ≡ Wrong left → Passes n o ts p left → Level n o ts end Q out
  Over : (left : Tokens) (p : Open) (token : Token) (back : Tokens) → out ≡ Deep left → left ≡ token ∷ back → Passes n o ts p left
      → n < length (after_one token.kind p).opened → Level n o ts end Q out

pub done : {A : Type 0} {n : ℕ} {left : Tokens} {end : List Opened} {Q : Bool → Type 0} {x : A} (flag : Bool) → Q flag
    → Level n (at end flag) left end Q (Found x left)
done {n = n} {left = left} {end = end} {x = x} flag q = On x left flag refl q (stays n (at end flag) left)

pub off : {A : Type 0} {n : ℕ} {o : Open} {ts : Tokens} {end : List Opened} {Q : Bool → Type 0} → Level {A = A} n o ts end Q (Wrong ts)
off {n = n} {o = o} {ts = ts} = Off ts o refl (stays n o ts)

level_on : {A : Type 0} {n : ℕ} {o p : Open} {ts mid : Tokens} {end : List Opened} {Q : Bool → Type 0} {out : Outcome A} → Passes n o ts p mid
    → Level n p mid end Q out → Level n o ts end Q out
level_on h (On x left flag e q k) = On x left flag e q (passes_on h k)
level_on h (Off left p e k) = Off left p e (passes_on h k)
level_on h (Over left p token back e f k d) = Over left p token back e f (passes_on h k) d

pub and_then : {A B : Type 0} {n : ℕ} {o : Open} {ts : Tokens} {mid end : List Opened} {Q R : Bool → Type 0} {out : Outcome A} {next : A → Reader B}
    → Level n o ts mid Q out → ((x : A) (left : Tokens) (flag : Bool) → Q flag → Level n (at mid flag) left end R (next x left))
    → Level n o ts end R (bind out next)
and_then (On x left flag e q h) k = rw e (level_on h (k x left flag q))
and_then (Off left p e h) k = Off left p (rw e refl) h
and_then (Over left p token back e f h d) k = Over left p token back (rw e refl) f h d

pub when : {A : Type 0} {n : ℕ} {o : Open} {ts : Tokens} {end : List Opened} {Q : Bool → Type 0} (test : Bool) {a b : Outcome A}
    → Level n o ts end Q a → Level n o ts end Q b → Level n o ts end Q (if test then a else b)
when true h k = h
when false h k = k

-- ---- what the last token did

abbrev pub Any : Bool → Type 0
Any flag = Unit {0}

abbrev pub IsEnded : Bool → Type 0
IsEnded flag = flag ≡ true

abbrev pub NotEnded : Bool → Type 0
NotEnded flag = flag ≡ false

pub record IsOpen (room : ℕ) (flag : Bool) : Type 0 where
  pub closed : flag ≡ false
  pub roomy : 0 < room

-- ---- one token

one_level : {A : Type 0} {n : ℕ} {F G : List Opened} {b c : Bool} (test : Bool) (token : Token) (ts : Tokens) (x : A)
    → (test ≡ true → after_one token.kind (at F b) ≡ at G c) → length G ≤ n
    → Level n (at F b) (token ∷ ts) G (λ d. d ≡ c) (if test then Found x ts else Wrong (token ∷ ts))
one_level {n = n} {F = F} {G = G} {b = b} {c = c} true token ts x h fits = On x ts c refl refl (record {
  front = token ∷ [];
  is = refl;
  within = let e : length (after_one token.kind (at F b)).opened ≡ length G = ap
      (λ (u : Open). length u.opened) (h refl) in omega arith;
  leads = h refl;
})
one_level false token ts x h fits = off

pub take_level : {n : ℕ} {F G : List Opened} {b c : Bool} (which : TokenKind) → after_one which (at F b) ≡ at G c → length G ≤ n
    → (ts : Tokens) → Level n (at F b) ts G (λ d. d ≡ c) (take which ts)
take_level which is fits [] = off
take_level {F = F} {G = G} {b = b} {c = c} which is fits (token ∷ ts) = one_level (is_fixed which token) token ts token.span
    (λ h. let e = is_fixed_token which token h in
    subst (λ (u : Token). after_one u.kind (at F b) ≡ at G c) (sym e) is) fits

-- so much is open, and there is room for so many levels more
pub record Fits (n room : ℕ) (F : List Opened) : Type 0 where
  pub settled : factor_ends F ≡ F
  pub fits : length F + room ≡ n

pub inside : {n room : ℕ} {F : List Opened} → Fits n room F → 0 < room → Fits n (room - 1) (Bracket ∷ F)
inside h roomy = let e = h.fits in record { settled = refl; fits = omega arith }

abbrev pub IsPlain : TokenKind → Type 0
IsPlain which = (F : List Opened) (b : Bool) → after_one which (at F b) ≡ at F false

pub take_plain : {n room : ℕ} {F : List Opened} (which : TokenKind) → IsPlain which → Fits n room F → (flag : Bool) (ts : Tokens)
    → Level n (at F flag) ts F NotEnded (take which ts)
take_plain {F = F} which plain fits flag ts = let e = fits.fits in take_level which (plain F flag) (omega arith) ts

pub take_name : {n room : ℕ} {F : List Opened} → Fits n room F → (flag : Bool) (ts : Tokens) → Level n (at F flag) ts F IsEnded (take kind.Name ts)
take_name {F = F} fits flag ts = let e = fits.fits in take_level kind.Name (ap (λ (G : List Opened). at G true) fits.settled) (omega arith) ts

pub close_paren : {n room : ℕ} {F : List Opened} → Fits n room F → (flag : Bool) (ts : Tokens)
    → Level n (at (Bracket ∷ F) flag) ts F IsEnded (take kind.CloseParen ts)
close_paren {F = F} fits flag ts = let e = fits.fits in take_level kind.CloseParen (ap (λ (G : List Opened). at G true) fits.settled) (omega arith) ts

pub close_brace : {n room : ℕ} {F : List Opened} → Fits n room F → (flag : Bool) (ts : Tokens)
    → Level n (at (Bracket ∷ F) flag) ts F NotEnded (take kind.CloseBrace ts)
close_brace fits flag ts = let e = fits.fits in take_level kind.CloseBrace refl (omega arith) ts

pub close_bracket : {n room : ℕ} {F : List Opened} → Fits n room F → (flag : Bool) (ts : Tokens)
    → Level n (at (Bracket ∷ F) flag) ts F NotEnded (take kind.CloseBracket ts)
close_bracket fits flag ts = let e = fits.fits in take_level kind.CloseBracket refl (omega arith) ts

pub take_minus : {n room : ℕ} {F : List Opened} → Fits n room F → (flag : Bool) (ts : Tokens) → flag ≡ true
    → Level n (at F flag) ts F NotEnded (take kind.Minus ts)
take_minus {F = F} fits flag ts q = let e = fits.fits in
    take_level kind.Minus (ap (λ (b : Bool). at (if b then F else Negation ∷ F) false) q) (omega arith) ts

-- ---- a token that ends the signs before it

pub ends_short : (F : List Opened) → length (factor_ends F) ≤ length F
ends_short [] = omega arith
ends_short (Bracket ∷ F) = omega arith
ends_short (Negation ∷ F) = let e = ends_short F in omega arith

abbrev pub IsOperand : TokenKind → Type 0
IsOperand which = (F : List Opened) (b : Bool) → after_one which (at F b) ≡ at (factor_ends F) true

pub take_operand : {n : ℕ} {F : List Opened} (which : TokenKind) → IsOperand which → length F ≤ n → (flag : Bool) (ts : Tokens)
    → Level n (at F flag) ts (factor_ends F) IsEnded (take which ts)
take_operand {F = F} which is fits flag ts = let e = ends_short F in take_level which (is F flag) (omega arith) ts

pub close_group : {n : ℕ} {F : List Opened} → length F ≤ n → (flag : Bool) (ts : Tokens)
    → Level n (at (Bracket ∷ F) flag) ts (factor_ends F) IsEnded (take kind.CloseParen ts)
close_group {F = F} fits flag ts = let e = ends_short F in take_level kind.CloseParen refl (omega arith) ts

pub number_operand : {n : ℕ} {F : List Opened} → length F ≤ n → (flag : Bool) (ts : Tokens)
    → Level n (at F flag) ts (factor_ends F) IsEnded (number ts)
number_operand fits flag [] = off
number_operand {F = F} fits flag (token ∷ ts) = let f = ends_short F in
    one_level (is_number_next (token ∷ ts)) token ts (record { place = token.span; value = token.number })
    (λ h. subst (λ (u : Token). after_one u.kind (at F flag) ≡ at (factor_ends F) true) (sym (is_number_token token h)) refl) (omega arith)

-- where no sign is open, none ends
pub settle : {A : Type 0} {n room : ℕ} {o : Open} {ts : Tokens} {F : List Opened} {Q : Bool → Type 0} {out : Outcome A} → Fits n room F
    → Level n o ts (factor_ends F) Q out → Level n o ts F Q out
settle {n = n} {o = o} {ts = ts} {Q = Q} {out = out} fits h = subst (λ (G : List Opened). Level n o ts G Q out) fits.settled h

pub number_level : {n room : ℕ} {F : List Opened} → Fits n room F → (flag : Bool) (ts : Tokens) → Level n (at F flag) ts F IsEnded (number ts)
number_level fits flag ts = let e = fits.fits in settle fits (number_operand (omega arith) flag ts)

-- ---- a token that nests

shut_level : {n : ℕ} {o : Open} {end : List Opened} {Q : Bool → Type 0} (which : TokenKind) (token : Token) (ts : Tokens) (c : Bool)
    → is_fixed which token ≡ c → n < length (after_one which o).opened
    → Level {A = Span} n o (token ∷ ts) end Q (if c then Deep (token ∷ ts) else Wrong (token ∷ ts))
shut_level {n = n} {o = o} which token ts true h over = Over (token ∷ ts) o token ts refl refl (stays n o (token ∷ ts))
    (subst (λ (u : Token). n < length (after_one u.kind o).opened) (sym (is_fixed_token which token h)) over)
shut_level which token ts false h over = off

opens : {A : Type 0} {n room : ℕ} {o : Open} {ts : Tokens} {end : List Opened} {out : Outcome A}
    → Level n o ts end (λ d. d ≡ false) out → Level n o ts end (IsOpen (suc room)) out
opens (On x left flag e q h) = On x left flag e (record { closed = q; roomy = omega arith }) h
opens (Off left p e h) = Off left p e h
opens (Over left p token back e f h d) = Over left p token back e f h d

opened_level : {n : ℕ} {F G : List Opened} {b : Bool} (which : TokenKind) (room : ℕ) → after_one which (at F b) ≡ at G false
    → length G ≡ 1 + length F → length F + room ≡ n → (ts : Tokens) → Level n (at F b) ts G (IsOpen room) (open_at which room ts)
opened_level which zero is one fits [] = off
opened_level {n = n} {F = F} {G = G} {b = b} which zero is one fits (token ∷ ts) =
    let e : length (after_one which (at F b)).opened ≡ length G = ap (λ (u : Open). length u.opened) is in
    shut_level which token ts (is_fixed which token) refl (omega arith)
opened_level which (suc room) is one fits ts = opens (take_level which is (omega arith) ts)

pub open_level : {n room : ℕ} {F : List Opened} (which : TokenKind) → ((b : Bool) → after_one which (at F b) ≡ at (Bracket ∷ F) false)
    → length F + room ≡ n
    → (flag : Bool) (ts : Tokens) → Level n (at F flag) ts (Bracket ∷ F) (IsOpen room) (open_at which room ts)
open_level {room = room} which is fits flag ts = opened_level which room (is flag) (omega arith) fits ts

pub sign_level_open : {n room : ℕ} {F : List Opened} → length F + room ≡ n → (flag : Bool) (ts : Tokens) → flag ≡ false
    → Level n (at F flag) ts (Negation ∷ F) (IsOpen room) (open_at kind.Minus room ts)
sign_level_open {room = room} {F = F} fits flag ts q =
    opened_level kind.Minus room (ap (λ (b : Bool). at (if b then F else Negation ∷ F) false) q) (omega arith) fits ts

-- ---- parts

abbrev pub LevelOf : {A : Type 0} → ℕ → List Opened → (Bool → Type 0) → (Bool → Type 0) → Reader A → Type 0
LevelOf n F Q R reader = (flag : Bool) (ts : Tokens) → Q flag → Level n (at F flag) ts F R (reader ts)

many_level : {A : Type 0} {n : ℕ} {F : List Opened} {Q : Bool → Type 0} {item : Reader A} (more : Tokens → Bool) → LevelOf n F Q Q item
    → (turns : ℕ) → LevelOf n F Q Q (many more item turns)
many_level more each zero flag ts q = done flag q
many_level more each (suc turns) flag ts q = when (more ts)
    (and_then (each flag ts q) (λ x left f q. and_then (many_level more each turns f left q) (λ others left f q. done f q)))
    (done flag q)

pub many_of_level : {A : Type 0} {n : ℕ} {F : List Opened} {Q : Bool → Type 0} {item : Reader A} (more : Tokens → Bool) → LevelOf n F Q Q item
    → LevelOf n F Q Q (many_of more item)
many_of_level more each flag ts q = many_level more each (length ts) flag ts q
