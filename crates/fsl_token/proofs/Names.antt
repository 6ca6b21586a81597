-- The name that begins a text, and what follows it.
use Rattle.std.proofs.Common.{◌≡◌, ℕ, ◌+◌, ◌≤◌, Bool, true, false, cond, List, [], ◌∷◌, ◌++◌, length, take, drop, refl, sym, ap, ◌∙◌, subst, arith, length-append, take-append-drop}
use Rattle.std.proofs.lemmas.Bool.{and_parts, and_from}
use Rattle.std.proofs.lemmas.Str.{chars-encodes, encodes-append, encodes-chars, scalars-chars, chars_past_char, length-encode}
use Rattle.std.proofs.lemmas.List.Sums.{take_while-cons}
use Rattle.std.proofs.lemmas.List.Folds.{length-prefix_len}
use Rattle.std.proofs.Math.Seq.{take-append_seam}
use Rattle.std.proofs.Math.Utf8.{scalars}
use Rattle.std.specs.Char.{encode_utf8, len_utf8}
use Rattle.std.specs.List.{take_while, prefix_len}
use Rattle.std.specs.Str.{IsUtf8, chars, encode_utf8_all}
use Rattle.unicode_ident.specs.Ident.{is_xid_continue}
use Rattle.fsl_token.specs.Tokens.{starts_name, name_chars, leading_name}

-- the first items that pass a test, and those behind them
run_split : {A : Type 0} (p : A → Bool) (xs : List A) → take_while p xs ++ drop (length (take_while p xs)) xs ≡ xs
run_split p xs = ap (λ n. take_while p xs ++ drop n xs) (length-prefix_len p xs) ∙ take-append-drop (prefix_len p xs) xs

starts : (b : Bool) (c : ℕ) (cs : List ℕ) → cond b (c ∷ take_while is_xid_continue cs) [] ++ drop (length (cond b (c ∷ take_while is_xid_continue cs) [])) (c ∷ cs) ≡ c ∷ cs
starts true c cs = ap (λ l. c ∷ l) (run_split is_xid_continue cs)
starts false c cs = refl

pub name_chars_split : (cs : List ℕ) → name_chars cs ++ drop (length (name_chars cs)) cs ≡ cs
name_chars_split [] = refl
name_chars_split (c ∷ cs) = starts (starts_name c) c cs

scalars_after : (xs ys : List ℕ) → scalars (xs ++ ys) ≡ true → scalars ys ≡ true
scalars_after [] ys all = all
scalars_after (x ∷ xs) ys all = scalars_after xs ys (and_parts _ _ all).1

-- the bytes behind the name
abbrev pub after_name : List ℕ → List ℕ
after_name text = encode_utf8_all (drop (length (name_chars (chars text))) (chars text))

pub name_split : (text : List ℕ) → IsUtf8 text → leading_name text ++ after_name text ≡ text
name_split text utf8 = sym (encodes-append (name_chars (chars text)) (drop (length (name_chars (chars text))) (chars text))) ∙ ap encode_utf8_all (name_chars_split (chars text)) ∙ encodes-chars text utf8

pub after_name_utf8 : (text : List ℕ) → IsUtf8 text → IsUtf8 (after_name text)
after_name_utf8 text utf8 = (_, (scalars_after (name_chars (chars text)) _ (ap scalars (name_chars_split (chars text)) ∙ scalars-chars text utf8), refl))

-- as many bytes as the name has, taken from the text, are the name
pub name_taken : (text : List ℕ) (n : ℕ) → IsUtf8 text → n ≡ length (leading_name text) → (n ≤ length text) × (take n text ≡ leading_name text)
name_taken text n utf8 len =
    let split = name_split text utf8 in
    let seam = take-append_seam (leading_name text) (after_name text) in
    let long = ap length split in
    (omega (arith, long, length-append (leading_name text) (after_name text)), subst (λ t. take n t ≡ leading_name text) split (ap (λ k. take k (leading_name text ++ after_name text)) len ∙ seam))

-- one more character that continues the name
pub name_more : (before rest : List ℕ) (c : ℕ) → IsUtf8 before → before ≡ encode_utf8 c ++ rest → is_xid_continue c ≡ true
    → length (encode_utf8_all (take_while is_xid_continue (chars before))) ≡ len_utf8 c + length (encode_utf8_all (take_while is_xid_continue (chars rest)))
name_more before rest c utf8 next continues =
    let more : take_while is_xid_continue (chars before) ≡ c ∷ take_while is_xid_continue (chars rest) =
    ap (take_while is_xid_continue) (chars_past_char before rest c utf8 next) ∙ take_while-cons is_xid_continue c (chars rest) ∙ ap (λ b. cond b (c ∷ take_while is_xid_continue (chars rest)) []) continues in
    ap (λ cs. length (encode_utf8_all cs)) more ∙ length-append (encode_utf8 c) _ ∙ ap (λ n. n + length (encode_utf8_all (take_while is_xid_continue (chars rest)))) (length-encode c)

-- no more of them
pub name_over : (before rest : List ℕ) (c : ℕ) → IsUtf8 before → before ≡ encode_utf8 c ++ rest → is_xid_continue c ≡ false
    → length (encode_utf8_all (take_while is_xid_continue (chars before))) ≡ 0
name_over before rest c utf8 next stops =
    ap (λ cs. length (encode_utf8_all (take_while is_xid_continue cs))) (chars_past_char before rest c utf8 next) ∙ ap (λ cs. length (encode_utf8_all cs)) (take_while-cons is_xid_continue c (chars rest) ∙ ap (λ b. cond b (c ∷ take_while is_xid_continue (chars rest)) []) stops)

-- the first character of a name
pub name_begun : (text rest : List ℕ) (c : ℕ) → IsUtf8 text → text ≡ encode_utf8 c ++ rest → starts_name c ≡ true
    → len_utf8 c + length (encode_utf8_all (take_while is_xid_continue (chars rest))) ≡ length (leading_name text)
name_begun text rest c utf8 next begins =
    let name : name_chars (chars text) ≡ c ∷ take_while is_xid_continue (chars rest) =
    ap name_chars (chars_past_char text rest c utf8 next) ∙ ap (λ b. cond b (c ∷ take_while is_xid_continue (chars rest)) []) begins in
    sym (ap (λ cs. length (encode_utf8_all cs)) name ∙ length-append (encode_utf8 c) _ ∙ ap (λ n. n + length (encode_utf8_all (take_while is_xid_continue (chars rest)))) (length-encode c))

-- a step over a character takes its bytes from the text
pub past_char_len : (before rest : List ℕ) (c : ℕ) → before ≡ encode_utf8 c ++ rest → length before ≡ len_utf8 c + length rest
past_char_len before rest c next = ap length next ∙ length-append (encode_utf8 c) rest ∙ ap (λ n. n + length rest) (length-encode c)

again : {A : Type 0} (p : A → Bool) (b : Bool) (x : A) (xs : List A) → p x ≡ b → take_while p xs ≡ xs → take_while p (cond b (x ∷ xs) []) ≡ cond b (x ∷ xs) []
again p true x xs passes rest = take_while-cons p x xs ∙ ap (λ b. cond b (x ∷ take_while p xs) []) passes ∙ ap (λ ys. x ∷ ys) rest
again p false x xs passes rest = refl

-- what passes a test passes it again
pub run_again : {A : Type 0} (p : A → Bool) (xs : List A) → take_while p (take_while p xs) ≡ take_while p xs
run_again p [] = refl
run_again p (x ∷ xs) = ap (take_while p) (take_while-cons p x xs) ∙ again p (p x) x (take_while p xs) refl (run_again p xs) ∙ sym (take_while-cons p x xs)

named_again : (b : Bool) (c : ℕ) (cs : List ℕ) → starts_name c ≡ b → name_chars (cond b (c ∷ take_while is_xid_continue cs) []) ≡ cond b (c ∷ take_while is_xid_continue cs) []
named_again true c cs starts = ap (λ b. cond b (c ∷ take_while is_xid_continue (take_while is_xid_continue cs)) []) starts ∙ ap (λ ys. c ∷ ys) (run_again is_xid_continue cs)
named_again false c cs starts = refl

name_chars_again : (cs : List ℕ) → name_chars (name_chars cs) ≡ name_chars cs
name_chars_again [] = refl
name_chars_again (c ∷ cs) = named_again (starts_name c) c cs refl

scalars_before : (xs ys : List ℕ) → scalars (xs ++ ys) ≡ true → scalars xs ≡ true
scalars_before [] ys all = refl
scalars_before (x ∷ xs) ys all = and_from _ _ (and_parts _ _ all).0 (scalars_before xs ys (and_parts _ _ all).1)

-- a name is the name that begins it
pub name_again : (text : List ℕ) → IsUtf8 text → leading_name (leading_name text) ≡ leading_name text
name_again text utf8 =
    let whole : chars (leading_name text) ≡ name_chars (chars text) = chars-encodes (name_chars (chars text)) (scalars_before (name_chars (chars text)) _ (ap scalars (name_chars_split (chars text)) ∙ scalars-chars text utf8)) in
    ap (λ cs. encode_utf8_all (name_chars cs)) whole ∙ ap encode_utf8_all (name_chars_again (chars text))

pub name_utf8 : (text : List ℕ) → IsUtf8 text → IsUtf8 (leading_name text)
name_utf8 text utf8 = (name_chars (chars text), (scalars_before (name_chars (chars text)) _ (ap scalars (name_chars_split (chars text)) ∙ scalars-chars text utf8), refl))
