-- What is read depends on nothing that follows the token after it, and more room changes no fault but `Deep`: the
-- rules, one for each way to make a reader.
use Rattle.std.proofs.Common.{ℕ, zero, suc, ◌+◌, ◌-◌, ◌≡◌, ◌≤◌, ◌∙◌, Bool, true, false, not, ◌||◌, ◌&&◌, if◌then◌else◌, List, [], ◌∷◌, ◌++◌, length, refl, sym, ap, subst, arith, append_assoc, length-append}
use Rattle.fsl_base.specs.declared.span.Span.{Span}
use Rattle.fsl_grammar.specs.declared.groups.Numeral.{Numeral}
use Rattle.fsl_token.specs.declared.kind.Token.{Token}
use Rattle.fsl_token.specs.declared.kind.TokenKind.{TokenKind}
use Rattle.fsl_tree.specs.SpelledExpressions.{Tokens}
use Rattle.fsl_grammar.specs.Heads.{is_fixed, is_next, is_number_next, is_more}
use Rattle.fsl_grammar.specs.Readers.{Outcome, Found, Wrong, Deep, Reader, bind, take, open_at, number, many, many_of}

-- ---- what is left

abbrev pub left_of : {A : Type 0} → Outcome A → Tokens
left_of (Found x left) = left
left_of (Wrong left) = left
left_of (Deep left) = left

pub record IsEnd (left ts : Tokens) : Type 0 where
  pub front : Tokens
  pub is : ts ≡ front ++ left

pub end_whole : (ts : Tokens) → IsEnd ts ts
end_whole ts = record { front = []; is = refl }

pub end_rest : (token : Token) (ts : Tokens) → IsEnd ts (token ∷ ts)
end_rest token ts = record { front = token ∷ []; is = refl }

pub end_of_end : {a b c : Tokens} → IsEnd a b → IsEnd b c → IsEnd a c
end_of_end {a = a} h k = record {
  front = k.front ++ h.front;
  is = k.is ∙ ap
      (λ (u : Tokens). k.front ++ u) h.is ∙ sym (append_assoc k.front h.front a);
}

pub end_length : {a b : Tokens} → IsEnd a b → length a ≤ length b
end_length {a = a} h = omega (arith, ap length h.is, length-append h.front a)

-- ---- two outcomes, where the tokens after `token` are `a` once and `b` once, and the room is the same if `P`

pub data Same {A : Type 0} (P : Type 0) (token : Token) (a b : Tokens) (o p : Outcome A) : Type 0 where
  Finds : (x : A) (front : Tokens) → o ≡ Found x (front ++ token ∷ a) → p ≡ Found x (front ++ token ∷ b) → Same P token a b o p
  Wrongs : (front : Tokens) → o ≡ Wrong (front ++ token ∷ a) → p ≡ Wrong (front ++ token ∷ b) → Same P token a b o p
  Deeps : (front : Tokens) → o ≡ Deep (front ++ token ∷ a) → (P → p ≡ Deep (front ++ token ∷ b)) → Same P token a b o p
  Past : length (left_of o) ≤ length a → Same P token a b o p

-- two outcomes on the same tokens, the second with no less room
pub data Steady {A : Type 0} (o p : Outcome A) : Type 0 where
  Kept : p ≡ o → Steady o p
  Deeper : (left : Tokens) → o ≡ Deep left → Steady o p

-- two readers, or one with room once for fewer levels; what is found takes at least so many tokens
pub record Local {A : Type 0} (P : Type 0) (least : ℕ) (r s : Reader A) : Type 0 where
  pub ends : (ts : Tokens) → IsEnd (left_of (r ts)) ts
  pub ends_too : (ts : Tokens) → IsEnd (left_of (s ts)) ts
  pub takes : (ts : Tokens) (x : A) (left : Tokens) → r ts ≡ Found x left → length left + least ≤ length ts
  pub takes_too : (ts : Tokens) (x : A) (left : Tokens) → s ts ≡ Found x left → length left + least ≤ length ts
  pub alike : (token : Token) (a b front : Tokens) → Same P token a b (r (front ++ token ∷ a)) (s (front ++ token ∷ b))
  pub steady : (ts : Tokens) → Steady (r ts) (s ts)

pub record Rooms (P : Type 0) (n m : ℕ) : Type 0 where
  pub more : n ≤ m
  pub same : P → n ≡ m

pub inner : {P : Type 0} {n m : ℕ} → Rooms P n m → Rooms P (n - 1) (m - 1)
inner rooms = record { more = omega arith; same = λ p. let e = rooms.same p in omega arith }

pub loose : {A P : Type 0} {least : ℕ} {r s : Reader A} → Local P least r s → Local P 0 r s
loose h = record {
  ends = h.ends;
  ends_too = h.ends_too;
  takes = λ ts x left e. let k = h.takes ts x left e in omega arith;
  takes_too = λ ts x left e. let k = h.takes_too ts x left e in omega arith;
  alike = h.alike;
  steady = h.steady;
}

-- ---- nothing more to read

-- two outcomes, the first of which finds nothing
pub never : {A B : Type 0} (o : Outcome A) (f g : A → Reader B) → ((x : A) (left : Tokens) → o ≡ Found x left → ⊥) → bind o f ≡ bind o g
never (Found x left) f g h = absurd (h x left refl)
never (Wrong left) f g h = refl
never (Deep left) f g h = refl

pub none_in : {A : Type 0} (c : Bool) (ts : Tokens) (x : A) (left : Tokens) → (if c then Deep ts else Wrong ts) ≡ Found x left → ⊥
none_in true ts x left e = cc
none_in false ts x left e = cc

pub none_then : {A B : Type 0} (o : Outcome A) (next : A → Reader B) → ((x : A) (left : Tokens) → o ≡ Found x left → ⊥)
    → (y : B) (left : Tokens) → bind o next ≡ Found y left → ⊥
none_then (Found x us) next h y left e = h x us refl
none_then (Wrong us) next h y left e = cc
none_then (Deep us) next h y left e = cc

pub none_after : {A B : Type 0} (o : Outcome A) (next : A → Reader B) → ((x : A) (us : Tokens) (y : B) (left : Tokens) → next x us ≡ Found y left → ⊥)
    → (y : B) (left : Tokens) → bind o next ≡ Found y left → ⊥
none_after (Found x us) next h y left e = h x us y left e
none_after (Wrong us) next h y left e = cc
none_after (Deep us) next h y left e = cc

pub same_next : {A B : Type 0} (o : Outcome A) (f g : A → Reader B) → ((x : A) (us : Tokens) → f x us ≡ g x us) → bind o f ≡ bind o g
same_next (Found x us) f g h = h x us
same_next (Wrong us) f g h = refl
same_next (Deep us) f g h = refl

pub found_local : {A P : Type 0} (x : A) → Local P 0 (λ left. Found x left) (λ left. Found x left)
found_local x = record {
  ends = end_whole;
  ends_too = end_whole;
  takes = λ ts y left e. let k : ts ≡ left = cc in omega (arith, ap length k);
  takes_too = λ ts y left e. let k : ts ≡ left = cc in omega (arith, ap length k);
  alike = λ token a b front. Finds x front refl refl;
  steady = λ ts. Kept refl;
}

pub wrong_local : {A P : Type 0} {least : ℕ} → Local {A = A} P least (λ left. Wrong left) (λ left. Wrong left)
wrong_local = record {
  ends = end_whole;
  ends_too = end_whole;
  takes = λ ts y left e. cc;
  takes_too = λ ts y left e. cc;
  alike = λ token a b front. Wrongs front refl refl;
  steady = λ ts. Kept refl;
}

-- ---- first one part, then what reads on

pub end_bind : {A B : Type 0} (o : Outcome A) (next : A → Reader B) → ((x : A) (ts : Tokens) → IsEnd (left_of (next x ts)) ts)
    → IsEnd (left_of (bind o next)) (left_of o)
end_bind (Found x left) next h = h x left
end_bind (Wrong left) next h = end_whole left
end_bind (Deep left) next h = end_whole left

takes_bind : {A B : Type 0} (least most : ℕ) (ts : Tokens) (o : Outcome A) (next : A → Reader B)
    → ((x : A) (left : Tokens) → o ≡ Found x left → length left + least ≤ length ts)
    → ((x : A) (us : Tokens) (y : B) (left : Tokens) → next x us ≡ Found y left → length left + most ≤ length us)
    → (y : B) (left : Tokens) → bind o next ≡ Found y left → length left + least ≤ length ts
takes_bind least most ts (Found x us) next h k y left e = let i = h x us refl in let j = k x us y left e in omega arith
takes_bind least most ts (Wrong us) next h k y left e = cc
takes_bind least most ts (Deep us) next h k y left e = cc

steady_next : {A B : Type 0} (o : Outcome A) (next also : A → Reader B) → ((x : A) (ts : Tokens) → Steady (next x ts) (also x ts))
    → Steady (bind o next) (bind o also)
steady_next (Found x left) next also h = h x left
steady_next (Wrong left) next also h = Kept refl
steady_next (Deep left) next also h = Kept refl

steady_bind : {A B : Type 0} (o p : Outcome A) (next also : A → Reader B) → Steady o p → ((x : A) (ts : Tokens) → Steady (next x ts) (also x ts))
    → Steady (bind o next) (bind p also)
steady_bind {A = A} o p next also (Kept e) h = subst (λ (u : Outcome A). Steady (bind o next) (bind u also)) (sym e) (steady_next o next also h)
steady_bind o p next also (Deeper left e) h = Deeper left (rw e refl)

same_bind : {A B P : Type 0} {least : ℕ} {token : Token} {a b : Tokens} {o p : Outcome A} {next also : A → Reader B} → Same P token a b o p
    → ((x : A) → Local P least (next x) (also x)) → Same P token a b (bind o next) (bind p also)
same_bind {token = token} {a = a} {b = b} (Finds x front e f) h = rw (e, f) ((h x).alike token a b front)
same_bind (Wrongs front e f) h = Wrongs front (rw e refl) (rw f refl)
same_bind (Deeps front e f) h = Deeps front (rw e refl) (λ p. let k = f p in rw k refl)
same_bind {o = o} {next = next} (Past short) h = Past (let k = end_length (end_bind o next (λ x. (h x).ends)) in omega arith)

pub and_then : {A B P : Type 0} {least most : ℕ} {r s : Reader A} {next also : A → Reader B} → Local P least r s
    → ((x : A) → Local P most (next x) (also x)) → Local P least (λ ts. bind (r ts) next) (λ ts. bind (s ts) also)
and_then {least = least} {most = most} {r = r} {s = s} {next = next} {also = also} h k = record {
  ends = λ ts. end_of_end (end_bind (r ts) next (λ x. (k x).ends)) (h.ends ts);
  ends_too = λ ts. end_of_end (end_bind (s ts) also (λ x. (k x).ends_too)) (h.ends_too ts);
  takes = λ ts. takes_bind least most ts (r ts) next (h.takes ts) (λ x. (k x).takes);
  takes_too = λ ts. takes_bind least most ts (s ts) also (h.takes_too ts) (λ x. (k x).takes_too);
  alike = λ token a b front. same_bind (h.alike token a b front) k;
  steady = λ ts. steady_bind (r ts) (s ts) next also (h.steady ts) (λ x. (k x).steady);
}

-- ---- a first token that is taken whatever comes of the rest

pub record Skips {A : Type 0} (token : Token) (r : Reader A) : Type 0 where
  pub skips : (a : Tokens) → length (left_of (r (token ∷ a))) ≤ length a

pub skips_then : {A B P : Type 0} {least : ℕ} {token : Token} {r : Reader A} {next also : A → Reader B} → Skips token r
    → ((x : A) → Local P least (next x) (also x)) → Skips token (λ ts. bind (r ts) next)
skips_then {token = token} {r = r} {next = next} h k = record {
  skips = λ a.
      let e = end_length (end_bind (r (token ∷ a)) next (λ x. (k x).ends)) in let f = h.skips a in omega arith;
}

pub skips_if : {A : Type 0} (c : Bool) (o p : Outcome A) (n : ℕ) → length (left_of o) ≤ n → length (left_of p) ≤ n
    → length (left_of (if c then o else p)) ≤ n
skips_if true o p n h k = h
skips_if false o p n h k = k

-- ---- what comes next decides

-- a test of the first token
pub record ByHead (test : Tokens → Bool) : Type 0 where
  pub same : (token : Token) (a b front : Tokens) → test (front ++ token ∷ a) ≡ test (front ++ token ∷ b)

pub next_same : (kind : TokenKind) (token : Token) (a b front : Tokens) → is_next kind (front ++ token ∷ a) ≡ is_next kind (front ++ token ∷ b)
next_same kind token a b [] = refl
next_same kind token a b (t ∷ ts) = refl

number_same : (token : Token) (a b front : Tokens) → is_number_next (front ++ token ∷ a) ≡ is_number_next (front ++ token ∷ b)
number_same token a b [] = refl
number_same token a b (t ∷ ts) = refl

more_same : (token : Token) (a b front : Tokens) → is_more (front ++ token ∷ a) ≡ is_more (front ++ token ∷ b)
more_same token a b [] = refl
more_same token a b (t ∷ ts) = refl

pub next_by_head : (kind : TokenKind) → ByHead (is_next kind)
next_by_head kind = record { same = next_same kind }

pub number_by_head : ByHead is_number_next
number_by_head = record { same = number_same }

pub more_by_head : ByHead is_more
more_by_head = record { same = more_same }

pub or_by_head : {f g : Tokens → Bool} → ByHead f → ByHead g → ByHead (λ ts. f ts || g ts)
or_by_head h k = record { same = λ token a b front. rw (h.same token a b front, k.same token a b front) refl }

pub and_by_head : {f g : Tokens → Bool} → ByHead f → ByHead g → ByHead (λ ts. f ts && g ts)
and_by_head h k = record { same = λ token a b front. rw (h.same token a b front, k.same token a b front) refl }

pub not_by_head : {f : Tokens → Bool} → ByHead f → ByHead (λ ts. not (f ts))
not_by_head h = record { same = λ token a b front. rw (h.same token a b front) refl }

pub end_if : {A : Type 0} (c : Bool) (o p : Outcome A) (ts : Tokens) → IsEnd (left_of o) ts → IsEnd (left_of p) ts
    → IsEnd (left_of (if c then o else p)) ts
end_if true o p ts h k = h
end_if false o p ts h k = k

pub takes_if : {A : Type 0} (c : Bool) (o p : Outcome A) (n : ℕ) (ts : Tokens)
    → ((x : A) (left : Tokens) → o ≡ Found x left → length left + n ≤ length ts)
    → ((x : A) (left : Tokens) → p ≡ Found x left → length left + n ≤ length ts)
    → (x : A) (left : Tokens) → (if c then o else p) ≡ Found x left → length left + n ≤ length ts
takes_if true o p n ts h k = h
takes_if false o p n ts h k = k

pub same_if : {A P : Type 0} {token : Token} {a b : Tokens} {o p q r : Outcome A} (c d : Bool) → c ≡ d → Same P token a b o q → Same P token a b p r
    → Same P token a b (if c then o else p) (if d then q else r)
same_if true true e h k = h
same_if false false e h k = k
same_if true false e h k = absurd (cc)
same_if false true e h k = absurd (cc)

pub steady_if : {A : Type 0} (c : Bool) {o p q r : Outcome A} → Steady o q → Steady p r → Steady (if c then o else p) (if c then q else r)
steady_if true h k = h
steady_if false h k = k

pub when : {A P : Type 0} {least : ℕ} {test : Tokens → Bool} {r s t u : Reader A} → ByHead test → Local P least r t → Local P least s u
    → Local P least (λ ts. if test ts then r ts else s ts) (λ ts. if test ts then t ts else u ts)
when {least = least} {test = test} {r = r} {s = s} {t = t} {u = u} same h k = record {
  ends = λ ts. end_if (test ts) (r ts) (s ts) ts (h.ends ts) (k.ends ts);
  ends_too = λ ts. end_if (test ts) (t ts) (u ts) ts (h.ends_too ts) (k.ends_too ts);
  takes = λ ts. takes_if (test ts) (r ts) (s ts) least ts (h.takes ts) (k.takes ts);
  takes_too = λ ts. takes_if (test ts) (t ts) (u ts) least ts (h.takes_too ts) (k.takes_too ts);
  alike = λ token a b front. same_if (test (front ++ token ∷ a)) (test (front ++ token ∷ b)) (same.same token a b front) (h.alike token a b front)
      (k.alike token a b front);
  steady = λ ts. steady_if (test ts) (h.steady ts) (k.steady ts);
}

-- ---- one token

take_ends : (kind : TokenKind) (ts : Tokens) → IsEnd (left_of (take kind ts)) ts
take_ends kind [] = end_whole []
take_ends kind (t ∷ ts) = end_if (is_fixed kind t) (Found t.span ts) (Wrong (t ∷ ts)) (t ∷ ts) (end_rest t ts) (end_whole (t ∷ ts))

one_taken : {A : Type 0} (c : Bool) (y : A) (t : Token) (ts : Tokens) (x : A) (left : Tokens)
    → (if c then Found y ts else Wrong (t ∷ ts)) ≡ Found x left → length left + 1 ≤ length (t ∷ ts)
one_taken true y t ts x left e = let k : ts ≡ left = cc in omega (arith, ap length k)
one_taken false y t ts x left e = cc

take_takes : (kind : TokenKind) (ts : Tokens) (x : Span) (left : Tokens) → take kind ts ≡ Found x left → length left + 1 ≤ length ts
take_takes kind [] x left e = cc
take_takes kind (t ∷ ts) x left e = one_taken (is_fixed kind t) t.span t ts x left e

take_alike : (P : Type 0) (kind : TokenKind) (token : Token) (a b front : Tokens)
    → Same P token a b (take kind (front ++ token ∷ a)) (take kind (front ++ token ∷ b))
take_alike P kind token a b [] = same_if (is_fixed kind token) (is_fixed kind token) refl (Past (omega arith)) (Wrongs [] refl refl)
take_alike P kind token a b (t ∷ ts) = same_if (is_fixed kind t) (is_fixed kind t) refl (Finds t.span ts refl refl) (Wrongs (t ∷ ts) refl refl)

pub take_local : {P : Type 0} (kind : TokenKind) → Local P 1 (take kind) (take kind)
take_local {P = P} kind = record {
  ends = take_ends kind;
  ends_too = take_ends kind;
  takes = take_takes kind;
  takes_too = take_takes kind;
  alike = take_alike P kind;
  steady = λ ts. Kept refl;
}

number_ends : (ts : Tokens) → IsEnd (left_of (number ts)) ts
number_ends [] = end_whole []
number_ends (t ∷ ts) = end_if (is_number_next (t ∷ ts)) (Found (record {
  place = t.span;
  value = t.number;
}) ts) (Wrong (t ∷ ts)) (t ∷ ts) (end_rest t ts) (end_whole (t ∷ ts))

number_takes : (ts : Tokens) (x : Numeral) (left : Tokens) → number ts ≡ Found x left → length left + 1 ≤ length ts
number_takes [] x left e = cc
number_takes (t ∷ ts) x left e = one_taken (is_number_next (t ∷ ts)) (record { place = t.span; value = t.number }) t ts x left e

number_alike : (P : Type 0) (token : Token) (a b front : Tokens) → Same P token a b (number (front ++ token ∷ a)) (number (front ++ token ∷ b))
number_alike P token a b [] = same_if (is_number_next (token ∷ a)) (is_number_next (token ∷ b)) refl (Past (omega arith)) (Wrongs [] refl refl)
number_alike P token a b (t ∷ ts) = same_if (is_number_next (t ∷ ts)) (is_number_next (t ∷ ts)) refl (Finds (record {
  place = t.span;
  value = t.number;
}) ts refl refl) (Wrongs (t ∷ ts) refl refl)

pub number_local : {P : Type 0} → Local P 1 number number
number_local {P = P} = record {
  ends = number_ends;
  ends_too = number_ends;
  takes = number_takes;
  takes_too = number_takes;
  alike = number_alike P;
  steady = λ ts. Kept refl;
}

-- ---- a token that nests

open_ends : (kind : TokenKind) (n : ℕ) (ts : Tokens) → IsEnd (left_of (open_at kind n ts)) ts
open_ends kind zero ts = end_if {A = Span} (is_next kind ts) (Deep ts) (Wrong ts) ts (end_whole ts) (end_whole ts)
open_ends kind (suc n) ts = take_ends kind ts

none_found : {A : Type 0} (c : Bool) (ts : Tokens) (x : A) (left : Tokens) (n : ℕ) → (if c then Deep ts else Wrong ts) ≡ Found x left
    → length left + n ≤ length ts
none_found true ts x left n e = cc
none_found false ts x left n e = cc

open_takes : (kind : TokenKind) (n : ℕ) (ts : Tokens) (x : Span) (left : Tokens) → open_at kind n ts ≡ Found x left → length left + 1 ≤ length ts
open_takes kind zero ts x left e = none_found (is_next kind ts) ts x left 1 e
open_takes kind (suc n) ts x left e = take_takes kind ts x left e

not_taken : (kind : TokenKind) (ts : Tokens) → is_next kind ts ≡ false → take kind ts ≡ Wrong ts
not_taken kind [] h = refl
not_taken kind (t ∷ ts) h = rw h refl

-- no room once: the token is too deep, or wrong with any room
shut_alike : (P : Type 0) (kind : TokenKind) (m : ℕ) (token : Token) (a b front : Tokens) → (P → 0 ≡ m) → (c : Bool)
    → is_next kind (front ++ token ∷ a) ≡ c → is_next kind (front ++ token ∷ b) ≡ c
    → Same P token a b (open_at kind 0 (front ++ token ∷ a)) (open_at kind m (front ++ token ∷ b))
shut_alike P kind m token a b front same true e f =
    Deeps front (rw e refl) (λ p. let k = same p in subst (λ (u : ℕ). open_at kind u (front ++ token ∷ b) ≡ Deep (front ++ token ∷ b)) k (rw f refl))
shut_alike P kind zero token a b front same false e f = Wrongs front (rw e refl) (rw f refl)
shut_alike P kind (suc m) token a b front same false e f = Wrongs front (rw e refl) (not_taken kind (front ++ token ∷ b) f)

open_alike : (P : Type 0) (kind : TokenKind) (n m : ℕ) → Rooms P n m → (token : Token) (a b front : Tokens)
    → Same P token a b (open_at kind n (front ++ token ∷ a)) (open_at kind m (front ++ token ∷ b))
open_alike P kind zero m rooms token a b front =
    shut_alike P kind m token a b front rooms.same (is_next kind (front ++ token ∷ a)) refl (sym (next_same kind token a b front))
open_alike P kind (suc n) zero rooms token a b front = let h = rooms.more in absurd (omega arith)
open_alike P kind (suc n) (suc m) rooms token a b front = take_alike P kind token a b front

shut_steady : (kind : TokenKind) (m : ℕ) (ts : Tokens) (c : Bool) → is_next kind ts ≡ c → Steady (open_at kind 0 ts) (open_at kind m ts)
shut_steady kind m ts true e = Deeper ts (rw e refl)
shut_steady kind zero ts false e = Kept refl
shut_steady kind (suc m) ts false e = Kept (not_taken kind ts e ∙ sym (rw e refl))

open_steady : (P : Type 0) (kind : TokenKind) (n m : ℕ) → Rooms P n m → (ts : Tokens) → Steady (open_at kind n ts) (open_at kind m ts)
open_steady P kind zero m rooms ts = shut_steady kind m ts (is_next kind ts) refl
open_steady P kind (suc n) zero rooms ts = let h = rooms.more in absurd (omega arith)
open_steady P kind (suc n) (suc m) rooms ts = Kept refl

pub open_local : {P : Type 0} {n m : ℕ} (kind : TokenKind) → Rooms P n m → Local P 1 (open_at kind n) (open_at kind m)
open_local {P = P} {n = n} {m = m} kind rooms = record {
  ends = open_ends kind n;
  ends_too = open_ends kind m;
  takes = open_takes kind n;
  takes_too = open_takes kind m;
  alike = open_alike P kind n m rooms;
  steady = open_steady P kind n m rooms;
}

-- ---- several parts

many_ends : {A : Type 0} (more : Tokens → Bool) (item : Reader A) → ((ts : Tokens) → IsEnd (left_of (item ts)) ts) → (turns : ℕ) (ts : Tokens)
    → IsEnd (left_of (many more item turns ts)) ts
many_ends more item h zero ts = end_whole ts
many_ends {A = A} more item h (suc turns) ts =
    let rest : (x : A) (us : Tokens) → IsEnd (left_of (bind (many more item turns us) (λ others left. Found (x ∷ others) left))) us =
    λ x us. end_of_end (end_bind (many more item turns us) (λ (others : List A) (left : Tokens). Found (x ∷ others) left)
    (λ others ts. end_whole ts)) (many_ends more item h turns us) in
    end_if (more ts) (bind (item ts) (λ x left. bind (many more item turns left) (λ others end. Found (x ∷ others) end))) (Found [] ts) ts
    (end_of_end (end_bind (item ts) (λ (x : A) (left : Tokens). bind (many more item turns left)
    (λ others end. Found (x ∷ others) end)) rest) (h ts))
    (end_whole ts)

rest_ends : {A : Type 0} (more : Tokens → Bool) (item : Reader A) → ((ts : Tokens) → IsEnd (left_of (item ts)) ts) → (turns : ℕ) (x : A) (ts : Tokens)
    → IsEnd (left_of (bind (many more item turns ts) (λ others left. Found (x ∷ others) left))) ts
rest_ends {A = A} more item h turns x ts =
    end_of_end (end_bind (many more item turns ts) (λ (others : List A) (left : Tokens). Found (x ∷ others) left)
    (λ others us. end_whole us)) (many_ends more item h turns ts)

many_takes : {A : Type 0} (more : Tokens → Bool) (item : Reader A) → ((ts : Tokens) → IsEnd (left_of (item ts)) ts) → (turns : ℕ) (ts : Tokens)
    → (xs : List A) (left : Tokens) → many more item turns ts ≡ Found xs left → length left + 0 ≤ length ts
many_takes more item h turns ts xs left e = let k = end_length (many_ends more item h turns ts) in
    let l : left_of (many more item turns ts) ≡ left = rw e refl in omega (arith, ap length l)

one_alike : {A P : Type 0} (more : Tokens → Bool) (item also : Reader A) (token : Token) (a b : Tokens) (n m : ℕ) (o p : Outcome A)
    → Same P token a b o p → ((x : A) (left : Tokens) → o ≡ Found x left → length left ≤ n) → ((x : A) (left : Tokens) → p ≡ Found x left
    → length left ≤ m)
    → ((ts : Tokens) → IsEnd (left_of (item ts)) ts)
    → ((front : Tokens) → length (front ++ token ∷ a) ≤ n → length (front ++ token ∷ b) ≤ m
    → Same P token a b (many more item n (front ++ token ∷ a)) (many more also m (front ++ token ∷ b)))
    → Same P token a b (bind o (λ x left. bind (many more item n left) (λ others end. Found (x ∷ others) end)))
    (bind p (λ x left. bind (many more also m left) (λ others end. Found (x ∷ others) end)))
one_alike more item also token a b n m o p (Finds x front e f) short too ends again =
    rw (e, f) (same_bind (again front (short x (front ++ token ∷ a) e) (too x (front ++ token ∷ b) f)) (λ others. found_local (x ∷ others)))
one_alike more item also token a b n m o p (Wrongs front e f) short too ends again = Wrongs front (rw e refl) (rw f refl)
one_alike more item also token a b n m o p (Deeps front e f) short too ends again = Deeps front (rw e refl) (λ q. let k = f q in rw k refl)
one_alike {A = A} more item also token a b n m o p (Past h) short too ends again =
    Past (let k = end_length (end_bind o (λ (x : A) (left : Tokens). bind (many more item n left) (λ others end. Found (x ∷ others) end))
    (λ x ts. rest_ends more item ends n x ts)) in omega arith)

-- the same outcomes, whatever the turns if they are enough
many_alike : {A P : Type 0} (more : Tokens → Bool) (item also : Reader A) → ByHead more → Local P 1 item also
    → (token : Token) (a b : Tokens) (n m : ℕ) (front : Tokens)
    → length (front ++ token ∷ a) ≤ n → length (front ++ token ∷ b) ≤ m
    → Same P token a b (many more item n (front ++ token ∷ a)) (many more also m (front ++ token ∷ b))
many_alike more item also same h token a b zero m front enough too = absurd (omega (arith, length-append front (token ∷ a)))
many_alike more item also same h token a b (suc n) zero front enough too = absurd (omega (arith, length-append front (token ∷ b)))
many_alike {A = A} {P = P} more item also same h token a b (suc n) (suc m) front enough too =
    same_if (more (front ++ token ∷ a)) (more (front ++ token ∷ b)) (same.same token a b front)
    (one_alike more item also token a b n m (item (front ++ token ∷ a)) (also (front ++ token ∷ b)) (h.alike token a b front)
    (λ x left e. let k = h.takes (front ++ token ∷ a) x left e in omega arith)
    (λ x left e. let k = h.takes_too (front ++ token ∷ b) x left e in omega arith)
    h.ends (many_alike more item also same h token a b n m))
    (Finds [] front refl refl)

many_steady : {A : Type 0} (more : Tokens → Bool) (item also : Reader A) → ((ts : Tokens) → Steady (item ts) (also ts)) → (turns : ℕ) (ts : Tokens)
    → Steady (many more item turns ts) (many more also turns ts)
many_steady more item also h zero ts = Kept refl
many_steady more item also h (suc turns) ts = steady_if (more ts)
    (steady_bind (item ts) (also ts) _ _ (h ts)
    (λ x us. steady_bind (many more item turns us) (many more also turns us) _ _ (many_steady more item also h turns us)
    (λ others vs. Kept refl)))
    (Kept refl)

pub many_local : {A P : Type 0} {more : Tokens → Bool} {item also : Reader A} → ByHead more → Local P 1 item also
    → Local P 0 (many_of more item) (many_of more also)
many_local {more = more} {item = item} {also = also} same h = record {
  ends = λ ts. many_ends more item h.ends (length ts) ts;
  ends_too = λ ts. many_ends more also h.ends_too (length ts) ts;
  takes = λ ts. many_takes more item h.ends (length ts) ts;
  takes_too = λ ts. many_takes more also h.ends_too (length ts) ts;
  alike = λ token a b front. many_alike more item also same h token a b (length (front ++ token ∷ a)) (length (front ++ token ∷ b)) front
      (omega arith) (omega arith);
  steady = λ ts. many_steady more item also h.steady (length ts) ts;
}
