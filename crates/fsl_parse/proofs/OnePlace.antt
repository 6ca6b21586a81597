-- Tokens have one fault at one place, and none where a file within the levels has these tokens.
use Rattle.std.proofs.Common.{ℕ, ◌≡◌, ◌≤◌, ◌<◌, ◌∙◌, List, [], ◌∷◌, ◌++◌, max, refl, sym, ap, subst, arith, append_assoc}
use Rattle.std.proofs.lemmas.List.{append-nil}
use Rattle.fsl_token.specs.declared.kind.Token.{Token}
use Rattle.fsl_tree.specs.declared.file.File.{File}
use Rattle.fsl_tree.specs.SpelledExpressions.{Tokens}
use Rattle.fsl_tree.specs.Spelling.{spelling}
use Rattle.fsl_tree.specs.Nesting.{nesting}
use Rattle.fsl_grammar.specs.Levels.{deepest}
use Rattle.fsl_parse.specs.Refusal.{BeginsFile, StopsThere, IsUnexpected, IsDeep}
use Rattle.fsl_parse.proofs.Depth.{depth_of_tokens, not_stopped}
use Rattle.fsl_grammar.proofs.Level.{deepest_append, open_after}
use Rattle.fsl_parse.proofs.Place.{start}

-- of two beginnings of the same tokens one begins with the other
data Beside (a x b y : Tokens) : Type 0 where
  Even : a ≡ b → x ≡ y → Beside a x b y
  Shorter : (t : Token) (m : Tokens) → b ≡ a ++ t ∷ m → x ≡ t ∷ m ++ y → Beside a x b y
  Longer : (t : Token) (m : Tokens) → a ≡ b ++ t ∷ m → y ≡ t ∷ m ++ x → Beside a x b y

one_more : {t : Token} {a x b y : Tokens} → Beside a x b y → Beside (t ∷ a) x (t ∷ b) y
one_more {t = t} (Even e f) = Even (ap (λ (u : Tokens). t ∷ u) e) f
one_more {t = t} (Shorter s m e f) = Shorter s m (ap (λ (u : Tokens). t ∷ u) e) f
one_more {t = t} (Longer s m e f) = Longer s m (ap (λ (u : Tokens). t ∷ u) e) f

beside : (a x b y : Tokens) → a ++ x ≡ b ++ y → Beside a x b y
beside [] x [] y e = Even refl e
beside [] x (t ∷ b) y e = Shorter t b refl e
beside (t ∷ a) x [] y e = Longer t a refl (sym e)
beside (t ∷ a) x (s ∷ b) y e =
    let same : t ≡ s = cc in let rest : a ++ x ≡ b ++ y = cc in
    subst (λ (u : Token). Beside (t ∷ a) x (u ∷ b) y) same (one_more (beside a x b y rest))

-- a beginning of a beginning
begins_less : (a m : Tokens) (t : Token) {b : Tokens} → BeginsFile b → b ≡ a ++ t ∷ m → BeginsFile (a ++ t ∷ [])
begins_less a m t h e = record {
  file = h.file;
  rest = m ++ h.rest;
  is = h.is ∙ ap (λ (u : Tokens). u ++ h.rest) (e ∙ sym (append_assoc a (t ∷ []) m)) ∙ append_assoc (a ++ t ∷ []) m h.rest;
}

-- what has begun goes on past no unexpected token
no_further : (a m y : Tokens) (t : Token) {b x : Tokens} → StopsThere a x → BeginsFile b → b ≡ a ++ t ∷ m → x ≡ t ∷ y → ⊥
no_further a m y t stops h e f = (subst (λ (u : Tokens). StopsThere a u) f stops) (begins_less a m t h e)

-- what keeps within the levels goes on past no token that is too deep
not_within : (a m rest back : Tokens) (s t : Token) {b x : Tokens} → 64 < deepest (a ++ s ∷ []) → deepest b ≤ 64 → b ≡ a ++ t ∷ m
    → x ≡ t ∷ m ++ rest → x ≡ s ∷ back → ⊥
not_within a m rest back s t {b = b} deeper within e f g =
    let heads : t ∷ m ++ rest ≡ s ∷ back = sym f ∙ g in let same : t ≡ s = cc in
    let whole : b ≡ (a ++ s ∷ []) ++ m = e ∙ ap (λ (u : Token). a ++ u ∷ m) same ∙ sym (append_assoc a (s ∷ []) m) in
    let d = deepest_append start (a ++ s ∷ []) m in
    let k : deepest ((a ++ s ∷ []) ++ m) ≤ 64 = subst (λ (u : Tokens). deepest u ≤ 64) whole within in
    omega arith

both_unexpected : {ts x y : Tokens} (h : IsUnexpected ts x) (k : IsUnexpected ts y) → Beside h.front x k.front y → x ≡ y
both_unexpected h k (Even e f) = f
both_unexpected {y = y} h k (Shorter t m e f) = absurd (no_further h.front m (m ++ y) t h.stops k.begins e f)
both_unexpected {x = x} h k (Longer t m e f) = absurd (no_further k.front m (m ++ x) t k.stops h.begins e f)

both_deep : {ts x y : Tokens} (h : IsDeep ts x) (k : IsDeep ts y) → Beside h.front x k.front y → x ≡ y
both_deep h k (Even e f) = f
both_deep {y = y} h k (Shorter t m e f) = absurd (not_within h.front m y h.back h.token t h.deeper k.within e f h.first)
both_deep {x = x} h k (Longer t m e f) = absurd (not_within k.front m x k.back k.token t k.deeper h.within e f k.first)

one_each : {ts x y : Tokens} (h : IsUnexpected ts x) (k : IsDeep ts y) → Beside h.front x k.front y → ⊥
one_each h k (Even e f) =
    no_further h.front [] k.back k.token h.stops k.begins (ap (λ (u : Tokens). u ++ k.token ∷ []) (sym e)) (f ∙ k.first)
one_each {y = y} h k (Shorter t m e f) =
    no_further h.front (m ++ k.token ∷ []) (m ++ y) t h.stops k.begins
    (ap (λ (u : Tokens). u ++ k.token ∷ []) e ∙ append_assoc h.front (t ∷ m) (k.token ∷ [])) f
one_each {x = x} h k (Longer t m e f) = not_within k.front m x k.back k.token t k.deeper h.within e f k.first

pub one_unexpected : (ts x y : Tokens) → IsUnexpected ts x → IsUnexpected ts y → x ≡ y
one_unexpected ts x y h k = both_unexpected h k (beside h.front x k.front y (sym h.is ∙ k.is))

pub one_deep : (ts x y : Tokens) → IsDeep ts x → IsDeep ts y → x ≡ y
one_deep ts x y h k = both_deep h k (beside h.front x k.front y (sym h.is ∙ k.is))

pub not_both : (ts x y : Tokens) → IsUnexpected ts x → IsDeep ts y → ⊥
not_both ts x y h k = one_each h k (beside h.front x k.front y (sym h.is ∙ k.is))

pub no_unexpected : (file : File) (x : Tokens) → IsUnexpected (spelling file) x → ⊥
no_unexpected file x h = not_stopped h.front x file h.stops h.is

pub no_deep : (file : File) (x : Tokens) → IsDeep (spelling file) x → 64 < nesting file
no_deep file x h =
    let whole : spelling file ≡ (h.front ++ h.token ∷ []) ++ h.back =
    h.is ∙ ap (λ (u : Tokens). h.front ++ u) h.first ∙ sym (append_assoc h.front (h.token ∷ []) h.back) in
    let d = deepest_append start (h.front ++ h.token ∷ []) h.back in
    let e = depth_of_tokens file in
    let k : deepest (spelling file) ≡ deepest ((h.front ++ h.token ∷ []) ++ h.back) = ap deepest whole in
    let g = h.deeper in omega arith
