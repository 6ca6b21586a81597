-- The tokens before a fault begin the spelling of some part: the rules, one for each way to make a reader.
use Rattle.std.proofs.Common.{ℕ, zero, suc, ◌≡◌, ◌∙◌, Bool, true, false, if◌then◌else◌, List, [], ◌∷◌, ◌++◌, map, length, refl, sym, ap, append_assoc}
use Rattle.fsl_base.specs.declared.span.Span.{Span}
use Rattle.fsl_token.specs.declared.kind.Token.{Token}
use Rattle.fsl_token.specs.declared.kind.TokenKind.{TokenKind}
use Rattle.fsl_tree.specs.SpelledExpressions.{Tokens, Spelled, fixed, numeral, all}
use Rattle.fsl_grammar.specs.declared.groups.Numeral.{Numeral}
use Rattle.fsl_grammar.specs.Heads.{is_fixed, is_number_next}
use Rattle.fsl_grammar.specs.Readers.{Outcome, Found, Wrong, Deep, Reader, bind, take, open_at, number, many, many_of}
use Rattle.fsl_grammar.proofs.Sound.{one}
use Rattle.fsl_grammar.proofs.Tokens.{is_fixed_token, is_number_token}

-- these tokens in front of those that follow
pub record IsPrefix (f : Spelled) : Type 0 where
  pub front : Tokens
  pub is : (after : Tokens) → f after ≡ front ++ after

abbrev pub nothing : Spelled
nothing after = after

nothing_prefix : IsPrefix nothing
nothing_prefix = record { front = []; is = λ after. refl }

token_prefix : (token : Token) → IsPrefix (λ after. token ∷ after)
token_prefix token = record { front = token ∷ []; is = λ after. refl }

both_prefix : {f g : Spelled} → IsPrefix f → IsPrefix g → IsPrefix (λ after. f (g after))
both_prefix {f = f} {g = g} h k = record {
  front = h.front ++ k.front;
  is = λ after. h.is (g after) ∙ ap (λ (u : Tokens). h.front ++ u) (k.is after) ∙ sym (append_assoc h.front k.front after);
}

-- the rest of a part was read, after tokens of it that are given
pub record Went {A : Type 0} (spelled : A → Spelled) (before : Spelled) (ts : Tokens) (part : A) (left : Tokens) : Type 0 where
  pub own : Spelled
  pub prefix : IsPrefix own
  pub is : ts ≡ own left
  pub same : (after : Tokens) → spelled part after ≡ before (own after)

-- some part's spelling begins with the tokens before those that are left
pub record Begun {A : Type 0} (spelled : A → Spelled) (before : Spelled) (ts left : Tokens) : Type 0 where
  pub front : Spelled
  pub prefix : IsPrefix front
  pub is : ts ≡ front left
  pub part : A
  pub rest : Spelled
  pub same : (after : Tokens) → spelled part after ≡ before (front (rest after))

-- and with the first of those
pub record BegunDeep {A : Type 0} (spelled : A → Spelled) (before : Spelled) (ts left : Tokens) : Type 0 where
  pub front : Spelled
  pub prefix : IsPrefix front
  pub is : ts ≡ front left
  pub token : Token
  pub back : Tokens
  pub first : left ≡ token ∷ back
  pub part : A
  pub rest : Spelled
  pub same : (after : Tokens) → spelled part after ≡ before (front (token ∷ rest after))

pub data Goes {A : Type 0} (spelled : A → Spelled) (before : Spelled) (ts : Tokens) (o : Outcome A) : Type 0 where
  GoesOn : (part : A) (left : Tokens) → o ≡ Found part left → Went spelled before ts part left → Goes spelled before ts o
  Fails : (left : Tokens) → o ≡ Wrong left → Begun spelled before ts left → Goes spelled before ts o
  TooDeep : (left : Tokens) → o ≡ Deep left → BegunDeep spelled before ts left → Goes spelled before ts o

abbrev pub AllGo : {A : Type 0} → (A → Spelled) → Reader A → Type 0
AllGo spelled reader = (ts : Tokens) → Goes spelled nothing ts (reader ts)

-- a whole with a part in its place
pub record Completes {B : Type 0} (spelled : B → Spelled) (before part : Spelled) : Type 0 where
  pub whole : B
  pub rest : Spelled
  pub same : (after : Tokens) → spelled whole after ≡ before (part (rest after))

pub complete : {B : Type 0} {spelled : B → Spelled} {before part : Spelled} (whole : B) (rest : Spelled)
    → ((after : Tokens) → spelled whole after ≡ before (part (rest after))) → Completes spelled before part
complete whole rest same = record { whole = whole; rest = rest; same = same }

-- the same of one level of a tree
pub complete_by : {X B : Type 0} {spelled : B → Spelled} {layer : X → Spelled} {before part : Spelled} (roll : X → B)
    → ((x : X) (after : Tokens) → spelled (roll x) after ≡ layer x after) → (x : X) (rest : Spelled)
    → ((after : Tokens) → layer x after ≡ before (part (rest after))) → Completes spelled before part
complete_by roll spells x rest same = record { whole = roll x; rest = rest; same = λ after. spells x after ∙ same after }

pub done : {A : Type 0} {spelled : A → Spelled} {before : Spelled} {left : Tokens} (part : A)
    → ((after : Tokens) → spelled part after ≡ before after) → Goes spelled before left (Found part left)
done {left = left} part same = GoesOn part left refl (record { own = nothing; prefix = nothing_prefix; is = refl; same = same })

pub done_by : {X B : Type 0} {spelled : B → Spelled} {layer : X → Spelled} {before : Spelled} {left : Tokens} (roll : X → B)
    → ((x : X) (after : Tokens) → spelled (roll x) after ≡ layer x after) → (x : X)
    → ((after : Tokens) → layer x after ≡ before after) → Goes spelled before left (Found (roll x) left)
done_by roll spells x same = done (roll x) (λ after. spells x after ∙ same after)

pub fails : {A : Type 0} {spelled : A → Spelled} (part : A) (ts : Tokens) → Goes spelled nothing ts (Wrong ts)
fails {spelled = spelled} part ts = Fails ts refl (record {
  front = nothing;
  prefix = nothing_prefix;
  is = refl;
  part = part;
  rest = spelled part;
  same = λ after. refl;
})

joined : {A B : Type 0} {first : A → Spelled} {spelled : B → Spelled} {before : Spelled} {ts mid : Tokens} {a : A} {o : Outcome B}
    → Went first nothing ts a mid → Goes spelled (λ after. before (first a after)) mid o → Goes spelled before ts o
joined {before = before} w (GoesOn part left e g) = GoesOn part left e (record {
  own = λ after. w.own (g.own after);
  prefix = both_prefix w.prefix g.prefix;
  is = w.is ∙ ap w.own g.is;
  same = λ after. g.same after ∙ ap before (w.same (g.own after));
})
joined {before = before} w (Fails left e g) = Fails left e (record {
  front = λ after. w.own (g.front after);
  prefix = both_prefix w.prefix g.prefix;
  is = w.is ∙ ap w.own g.is;
  part = g.part;
  rest = g.rest;
  same = λ after. g.same after ∙ ap before (w.same (g.front (g.rest after)));
})
joined {before = before} w (TooDeep left e g) = TooDeep left e (record {
  front = λ after. w.own (g.front after);
  prefix = both_prefix w.prefix g.prefix;
  is = w.is ∙ ap w.own g.is;
  token = g.token;
  back = g.back;
  first = g.first;
  part = g.part;
  rest = g.rest;
  same = λ after. g.same after ∙ ap before (w.same (g.front (g.token ∷ g.rest after)));
})

pub and_then : {A B : Type 0} {first : A → Spelled} {spelled : B → Spelled} {before : Spelled} {ts : Tokens} {o : Outcome A} {next : A → Reader B}
    → Goes first nothing ts o → ((a : A) → Completes spelled before (first a))
    → ((a : A) (left : Tokens) → Goes spelled (λ after. before (first a after)) left (next a left)) → Goes spelled before ts (bind o next)
and_then {next = next} (GoesOn a mid e w) h k = rw e (joined w (k a mid))
and_then {before = before} (Fails left e g) h k = let c = h g.part in Fails left (rw e refl) (record {
  front = g.front;
  prefix = g.prefix;
  is = g.is;
  part = c.whole;
  rest = λ after. g.rest (c.rest after);
  same = λ after. c.same after ∙ ap before (g.same (c.rest after));
})
and_then {before = before} (TooDeep left e g) h k = let c = h g.part in TooDeep left (rw e refl) (record {
  front = g.front;
  prefix = g.prefix;
  is = g.is;
  token = g.token;
  back = g.back;
  first = g.first;
  part = c.whole;
  rest = λ after. g.rest (c.rest after);
  same = λ after. c.same after ∙ ap before (g.same (c.rest after));
})

pub when : {A : Type 0} {spelled : A → Spelled} {before : Spelled} {ts : Tokens} (test : Bool) {o p : Outcome A}
    → Goes spelled before ts o → Goes spelled before ts p → Goes spelled before ts (if test then o else p)
when true h k = h
when false h k = k

-- ---- one token

pub nowhere : Span
nowhere = record { from = 0; to = 0 }

one_goes : {A : Type 0} {token_of : A → Token} (c : Bool) (token : Token) (ts : Tokens) (a other : A) → (c ≡ true → token ≡ token_of a)
    → Goes (one token_of) nothing (token ∷ ts) (if c then Found a ts else Wrong (token ∷ ts))
one_goes true token ts a other h = GoesOn a ts refl (record {
  own = λ after. token ∷ after;
  prefix = token_prefix token;
  is = refl;
  same = λ after. ap (λ (t : Token). t ∷ after) (sym (h refl));
})
one_goes false token ts a other h = fails other (token ∷ ts)

pub take_goes : (kind : TokenKind) (ts : Tokens) → Goes (one (fixed kind)) nothing ts (take kind ts)
take_goes kind [] = fails nowhere []
take_goes kind (token ∷ ts) = one_goes (is_fixed kind token) token ts token.span nowhere (is_fixed_token kind token)

abbrev pub numeral_token : Numeral → Token
numeral_token n = numeral n.place n.value

pub some_numeral : Numeral
some_numeral = record { place = nowhere; value = 0 }

pub number_goes : (ts : Tokens) → Goes (one numeral_token) nothing ts (number ts)
number_goes [] = fails some_numeral []
number_goes (token ∷ ts) = one_goes (is_number_next (token ∷ ts)) token ts (record {
  place = token.span;
  value = token.number;
}) some_numeral (is_number_token token)

shut_goes : (kind : TokenKind) (token : Token) (ts : Tokens) (c : Bool) → is_fixed kind token ≡ c
    → Goes (one (fixed kind)) nothing (token ∷ ts) (if c then Deep (token ∷ ts) else Wrong (token ∷ ts))
shut_goes kind token ts true h = TooDeep (token ∷ ts) refl (record {
  front = nothing;
  prefix = nothing_prefix;
  is = refl;
  token = token;
  back = ts;
  first = refl;
  part = token.span;
  rest = nothing;
  same = λ after. ap (λ (t : Token). t ∷ after) (sym (is_fixed_token kind token h));
})
shut_goes kind token ts false h = fails nowhere (token ∷ ts)

pub open_goes : (kind : TokenKind) (room : ℕ) (ts : Tokens) → Goes (one (fixed kind)) nothing ts (open_at kind room ts)
open_goes kind zero [] = fails nowhere []
open_goes kind zero (token ∷ ts) = shut_goes kind token ts (is_fixed kind token) refl
open_goes kind (suc room) ts = take_goes kind ts

-- ---- several parts

many_goes : {A : Type 0} {spelled : A → Spelled} {item : Reader A} (more : Tokens → Bool) → AllGo spelled item
    → (turns : ℕ) (ts : Tokens) → Goes (λ (xs : List A). all (map spelled xs)) nothing ts (many more item turns ts)
many_goes more each zero ts = done [] (λ after. refl)
many_goes more each (suc turns) ts = when (more ts)
    (and_then (each ts) (λ a. complete (a ∷ []) _ (λ after. refl)) (λ a left.
    and_then (many_goes more each turns left) (λ others. complete (a ∷ others) _ (λ after. refl)) (λ others left.
    done (a ∷ others) (λ after. refl))))
    (done [] (λ after. refl))

pub many_of_goes : {A : Type 0} {spelled : A → Spelled} {item : Reader A} (more : Tokens → Bool) → AllGo spelled item
    → (ts : Tokens) → Goes (λ (xs : List A). all (map spelled xs)) nothing ts (many_of more item ts)
many_of_goes more each ts = many_goes more each (length ts) ts
