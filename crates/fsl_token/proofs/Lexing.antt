-- Steps from piece to piece.
use Rattle.std.proofs.Common.{◌≡◌, ℕ, zero, suc, ◌+◌, ◌-◌, ◌<◌, ◌≤◌, List, [], ◌∷◌, ◌++◌, length, drop, refl, sym, ap, ◌∙◌, subst, arith, append_assoc, add-zero, cond, false, ⊎_elim}
use Rattle.std.specs.Prelude.{Result, Ok, Err}
use Rattle.fsl_token.specs.declared.kind.Token.{Token}
use Rattle.fsl_token.specs.declared.fault.LexFault.{LexFault}
use Rattle.fsl_token.specs.declared.piece.Piece.{Piece}
use Rattle.std.proofs.lemmas.Str.{is_utf8-from_IsUtf8, IsUtf8-from_is_utf8}
use Rattle.std.proofs.lemmas.Bool.{cases_Bool}
use Rattle.std.specs.Str.{IsUtf8, is_utf8}
use Rattle.std.specs.Str.Lossy.{utf8_valid_len}
use Rattle.fsl_token.specs.declared.kind.TokenKind.{TokenKind}
use Rattle.fsl_token.proofs.Pieces.{Cuts, CutsBy, piece_cut}
use Rattle.fsl_token.specs.Tokens.{lexed, tokens_from, with_piece, first_piece, piece_len, cons_token}

-- more tokens, behind those that are there
abbrev pub append_tokens : List Token → Result (List Token) LexFault → Result (List Token) LexFault
append_tokens tokens (Ok more) = Ok (tokens ++ more)
append_tokens tokens (Err fault) = Err fault

pub append_none : (r : Result (List Token) LexFault) → append_tokens [] r ≡ r
append_none (Ok more) = refl
append_none (Err fault) = refl

pub append_cons : (tokens : List Token) (t : Token) (r : Result (List Token) LexFault) → append_tokens (tokens ++ t ∷ []) r ≡ append_tokens tokens (cons_token t r)
append_cons tokens t (Ok more) = ap Ok (append_assoc tokens (t ∷ []) more)
append_cons tokens t (Err fault) = refl

-- the bytes of the piece before are passed over
skipped : (at inside : ℕ) (bs : List ℕ) → inside ≤ length bs → tokens_from at inside bs ≡ tokens_from (at + inside) 0 (drop inside bs)
skipped at zero bs within = ap (λ n. tokens_from n 0 bs) (sym (add-zero at))
skipped at (suc inside) [] within = absurd (omega arith)
skipped at (suc inside) (b ∷ bs) within = skipped (at + 1) inside bs (omega arith) ∙ ap (λ n. tokens_from n 0 (drop inside bs)) (omega arith)

behind : (b : ℕ) (bs : List ℕ) (n : ℕ) → 0 < n → drop (n - 1) bs ≡ drop n (b ∷ bs)
behind b bs zero some = absurd (omega arith)
behind b bs (suc n) some = ap (λ k. drop k bs) (omega arith)

-- the first piece, then what comes of the bytes behind it
pub tokens_step : (at : ℕ) (bs : List ℕ) (p : Piece) → first_piece bs ≡ p → 0 < piece_len p → piece_len p ≤ length bs
    → tokens_from at 0 bs ≡ with_piece at p (tokens_from (at + piece_len p) 0 (drop (piece_len p) bs))
tokens_step at [] p is some within = absurd (omega arith)
tokens_step at (b ∷ bs) p is some within =
    let first = ap (λ q. with_piece at q (tokens_from (at + 1) (piece_len q - 1) bs)) is in
    let rest = skipped (at + 1) (piece_len p - 1) bs (omega arith) in
    let place : at + 1 + (piece_len p - 1) ≡ at + piece_len p = omega arith in
    let left : drop (piece_len p - 1) bs ≡ drop (piece_len p) (b ∷ bs) = behind b bs (piece_len p) some in
    first ∙ ap (with_piece at p) (rest ∙ ap (λ n. tokens_from n 0 (drop (piece_len p - 1) bs)) place ∙ ap (λ t. tokens_from (at + piece_len p) 0 t) left)

-- a fault ends it
pub tokens_fault : (at : ℕ) (bs : List ℕ) (p : Piece) (fault : LexFault) → first_piece bs ≡ p → 0 < length bs → ((r : Result (List Token) LexFault) → with_piece at p r ≡ Err fault) → tokens_from at 0 bs ≡ Err fault
tokens_fault at [] p fault is some ends = absurd (omega arith)
tokens_fault at (b ∷ bs) p fault is some ends = ap (λ q. with_piece at q (tokens_from (at + 1) (piece_len q - 1) bs)) is ∙ ends _

-- one piece of `len` bytes was cut off `rest`, which begins at `at`, and `tokens` are those up to its end
pub record Steps (text rest : List ℕ) (tokens : List Token) (at len : ℕ) : Type 0 where
  pub cuts : Cuts rest len
  pub so_far : append_tokens tokens (tokens_from (at + len) 0 (drop len rest)) ≡ tokens_from 0 0 text

module _ (text rest : List ℕ) (before : List Token) (at : ℕ) (utf8 : IsUtf8 rest) (some : 0 < length rest) (so_far : append_tokens before (tokens_from at 0 rest) ≡ tokens_from 0 0 text) where
  pub gap_steps : (tokens : List Token) (len : ℕ) (p : Piece) → p ≡ first_piece rest → p ≡ Piece.Gap len → tokens ≡ before → Steps text rest tokens at len
  gap_steps tokens len p first is same =
      let cuts = subst (CutsBy rest) (sym first ∙ is) (piece_cut rest utf8 some) in
      let step = tokens_step at rest (Piece.Gap len) (sym first ∙ is) cuts.0 cuts.1.0 in
      record { cuts = cuts; so_far = ap (λ ts. append_tokens ts (tokens_from (at + len) 0 (drop len rest))) same ∙ ap (append_tokens before) (sym step) ∙ so_far }

  pub token_steps : (tokens : List Token) (kind : TokenKind) (len number : ℕ) (p : Piece) → p ≡ first_piece rest → p ≡ Piece.Token kind len number
      → tokens ≡ before ++ (record { kind = kind; span = record { from = at; to = at + len }; number = number }) ∷ [] → Steps text rest tokens at len
  token_steps tokens kind len number p first is more =
      let cuts = subst (CutsBy rest) (sym first ∙ is) (piece_cut rest utf8 some) in
      let step = tokens_step at rest (Piece.Token kind len number) (sym first ∙ is) cuts.0 cuts.1.0 in
      record { cuts = cuts; so_far = ap (λ ts. append_tokens ts (tokens_from (at + len) 0 (drop len rest))) more ∙ append_cons before _ _ ∙ ap (append_tokens before) (sym step) ∙ so_far }

-- the tokens of a file
pub lexed_text : (bytes : List ℕ) → IsUtf8 bytes → tokens_from 0 0 bytes ≡ lexed bytes
lexed_text bytes utf8 = ap (λ b. cond b (tokens_from 0 0 bytes) (Err (LexFault.NotText (utf8_valid_len bytes)))) (sym (is_utf8-from_IsUtf8 bytes utf8))

pub lexed_not_text : (bytes : List ℕ) (n : ℕ) → (IsUtf8 bytes → ⊥) → n ≡ utf8_valid_len bytes → Err (LexFault.NotText n) ≡ lexed bytes
lexed_not_text bytes n not_utf8 len =
    let no : is_utf8 bytes ≡ false = ⊎_elim (λ yes_utf8. absurd (not_utf8 (IsUtf8-from_is_utf8 bytes yes_utf8))) (λ e. e) (cases_Bool (is_utf8 bytes)) in
    ap (λ k. Err (LexFault.NotText k)) len ∙ ap (λ b. cond b (tokens_from 0 0 bytes) (Err (LexFault.NotText (utf8_valid_len bytes)))) (sym no)

-- a token lies within the text
pub token_within : (rest : List ℕ) (kind : TokenKind) (len number : ℕ) (p : Piece) → IsUtf8 rest → 0 < length rest → p ≡ first_piece rest → p ≡ Piece.Token kind len number → len ≤ length rest
token_within rest kind len number p utf8 some first is = (subst (CutsBy rest) (sym first ∙ is) (piece_cut rest utf8 some)).1.0
