-- Lines and columns, counted from character to character and from byte to byte.
use Rattle.std.proofs.Common.{◌≡◌, ℕ, ◌+◌, ◌/◌, ◌%◌, ◌<◌, ◌≤◌, Bool, true, false, cond, not, ◌&&◌, nat_le, nat_lt, List, [], ◌∷◌, ◌++◌, take, refl, sym, ap, ◌∙◌, arith, append_assoc}
use Rattle.std.proofs.lemmas.Bool.{lt-leb, le-leb, le-ltb, lt-ltb, ne_eqb, ltb-false, ltb-true, and_from, and_left, and_right}
use Rattle.std.proofs.lemmas.List.{reverse-append, append-nil}
use Rattle.std.proofs.lemmas.List.Sums.{sum_by-append}
use Rattle.std.proofs.lemmas.Str.{encodes-chars, IsUtf8-take}
use Rattle.std.specs.Char.{is_newline, encode_utf8}
use Rattle.std.specs.List.{count_by, suffix_len, prefix_len}
use Rattle.std.specs.Str.{IsUtf8, IsCharBoundary, chars, encode_utf8_all}
use Rattle.fsl_token.specs.declared.places.Place.{Place}
use Rattle.fsl_token.specs.Places.{place_behind, place_of, is_continuation, next_line, next_col, walk_bytes}

-- the place behind one more character
abbrev after : Place → ℕ → Place
after p c = cond (is_newline c) (next_line p) (next_col p)

abbrev walk : Place → List ℕ → Place
walk p [] = p
walk p (c ∷ cs) = walk (after p c) cs

abbrev at_place : ℕ → ℕ → Place
at_place line col = record { line = line; col = col }

counted : (b : Bool) (line col lines cols : ℕ) → lines ≡ line + cond b 1 0 → cols ≡ cond (not b) (1 + col) 0
    → at_place (1 + lines) (1 + cols) ≡ cond b (at_place (1 + line + 1) 1) (at_place (1 + line) (1 + col + 1))
counted true line col lines cols e f = let l : 1 + lines ≡ 1 + line + 1 = omega arith in let k : 1 + cols ≡ 1 = omega arith in (λ i. at_place (l i) (k i))
counted false line col lines cols e f = let l : 1 + lines ≡ 1 + line = omega arith in let k : 1 + cols ≡ 1 + col + 1 = omega arith in (λ i. at_place (l i) (k i))

behind_more : (cs : List ℕ) (c : ℕ) → place_behind (cs ++ c ∷ []) ≡ after (place_behind cs) c
behind_more cs c =
    let alone : 0 + cond (is_newline c) 1 0 ≡ cond (is_newline c) 1 0 = omega arith in
    counted (is_newline c) (count_by is_newline cs) (suffix_len (λ c. not (is_newline c)) cs) _ _ (sum_by-append _ cs (c ∷ []) ∙ ap (λ n. count_by is_newline cs + n) alone) (ap (prefix_len (λ c. not (is_newline c))) (reverse-append cs (c ∷ [])))

walk_on : (before cs : List ℕ) → walk (place_behind before) cs ≡ place_behind (before ++ cs)
walk_on before [] = ap place_behind (sym (append-nil before))
walk_on before (c ∷ cs) = ap (λ p. walk p cs) (sym (behind_more before c)) ∙ walk_on (before ++ c ∷ []) cs ∙ ap place_behind (append_assoc before (c ∷ []) cs)

-- a first byte past ASCII counts, and those behind it don't
first_byte : (p : Place) (b : ℕ) (bs : List ℕ) → 192 ≤ b → walk_bytes p (b ∷ bs) ≡ walk_bytes (next_col p) bs
first_byte p b bs high =
    let no_newline : is_newline b ≡ false = ne_eqb b 10 (omega arith) in
    let first : is_continuation b ≡ false = ap (λ x. nat_le 128 b && x) (le-ltb b 192 high) ∙ and_right (nat_le 128 b) false refl in
    ap (λ q. walk_bytes q bs) (ap (λ x. cond x (next_line p) (cond (is_continuation b) p (next_col p))) no_newline ∙ ap (λ x. cond x p (next_col p)) first)

later_byte : (p : Place) (n : ℕ) (bs : List ℕ) → walk_bytes p ((128 + n % 64) ∷ bs) ≡ walk_bytes p bs
later_byte p n bs =
    let bound : n % 64 < 64 = omega arith in
    let no_newline : is_newline (128 + n % 64) ≡ false = ne_eqb (128 + n % 64) 10 (omega arith) in
    let later : is_continuation (128 + n % 64) ≡ true = and_from _ _ (le-leb 128 (128 + n % 64) (omega arith)) (lt-ltb (128 + n % 64) 192 (omega arith)) in
    ap (λ q. walk_bytes q bs) (ap (λ x. cond x (next_line p) (cond (is_continuation (128 + n % 64)) p (next_col p))) no_newline ∙ ap (λ x. cond x p (next_col p)) later)

-- a character past ASCII is no LF
counts : (p : Place) (c : ℕ) → nat_lt c 128 ≡ false → next_col p ≡ after p c
counts p c large = let high : 128 ≤ c = ltb-false c 128 large in let no_newline : is_newline c ≡ false = ne_eqb c 10 (omega arith) in ap (λ x. cond x (next_line p) (next_col p)) (sym no_newline)

one_char : (x y z : Bool) (p : Place) (c : ℕ) (bs : List ℕ) → nat_lt c 128 ≡ x
    → walk_bytes p (cond x (c ∷ []) (cond y ((192 + c / 64) ∷ (128 + c % 64) ∷ []) (cond z ((224 + c / 4096) ∷ (128 + c / 64 % 64) ∷ (128 + c % 64) ∷ []) ((240 + c / 262144) ∷ (128 + c / 4096 % 64) ∷ (128 + c / 64 % 64) ∷ (128 + c % 64) ∷ []))) ++ bs)
    ≡ walk_bytes (after p c) bs
one_char true y z p c bs small =
    let first : is_continuation c ≡ false = and_left _ _ (lt-leb 128 c (ltb-true c 128 small)) in
    ap (λ q. walk_bytes q bs) (ap (λ x. cond (is_newline c) (next_line p) (cond x p (next_col p))) first)
one_char false true z p c bs large = first_byte p (192 + c / 64) ((128 + c % 64) ∷ bs) (omega arith) ∙ later_byte (next_col p) c bs ∙ ap (λ q. walk_bytes q bs) (counts p c large)
one_char false false true p c bs large =
    first_byte p (224 + c / 4096) ((128 + c / 64 % 64) ∷ (128 + c % 64) ∷ bs) (omega arith) ∙ later_byte (next_col p) (c / 64) ((128 + c % 64) ∷ bs) ∙ later_byte (next_col p) c bs
    ∙ ap (λ q. walk_bytes q bs) (counts p c large)
one_char false false false p c bs large =
    first_byte p (240 + c / 262144) ((128 + c / 4096 % 64) ∷ (128 + c / 64 % 64) ∷ (128 + c % 64) ∷ bs) (omega arith) ∙ later_byte (next_col p) (c / 4096) ((128 + c / 64 % 64) ∷ (128 + c % 64) ∷ bs)
    ∙ later_byte (next_col p) (c / 64) ((128 + c % 64) ∷ bs) ∙ later_byte (next_col p) c bs
    ∙ ap (λ q. walk_bytes q bs) (counts p c large)

walk_char : (p : Place) (c : ℕ) (bs : List ℕ) → walk_bytes p (encode_utf8 c ++ bs) ≡ walk_bytes (after p c) bs
unfolding encode_utf8
walk_char p c bs = one_char (nat_lt c 128) (nat_lt c 2048) (nat_lt c 65536) p c bs refl

walk_chars : (p : Place) (cs : List ℕ) → walk_bytes p (encode_utf8_all cs) ≡ walk p cs
walk_chars p [] = refl
walk_chars p (c ∷ cs) = walk_char p c (encode_utf8_all cs) ∙ walk_chars (after p c) cs

-- the bytes before a character are counted to its place
pub bytes_place : (bytes : List ℕ) (at : ℕ) → IsUtf8 bytes → IsCharBoundary bytes at → walk_bytes (record { line = 1; col = 1 }) (take at bytes) ≡ place_of bytes at
bytes_place bytes at utf8 begins =
    let start : walk_bytes (record { line = 1; col = 1 }) (take at bytes) ≡ walk_bytes (record { line = 1; col = 1 }) (encode_utf8_all (chars (take at bytes))) = ap (walk_bytes (record { line = 1; col = 1 })) (sym (encodes-chars (take at bytes) (IsUtf8-take bytes at utf8 begins))) in
    start ∙ walk_chars (record { line = 1; col = 1 }) (chars (take at bytes)) ∙ walk_on [] (chars (take at bytes))
