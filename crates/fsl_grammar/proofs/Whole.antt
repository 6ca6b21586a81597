-- A part's own tokens are read as that part, whatever follows that doesn't go on with it.
use Rattle.std.proofs.Common.{ℕ, zero, suc, ◌≡◌, ◌≤◌, ◌<◌, ◌∙◌, Bool, true, false, List, [], ◌∷◌, map, length, max, refl, sym, ap, subst, arith}
use Rattle.fsl_base.specs.declared.span.Span.{Span}
use Rattle.fsl_token.specs.declared.kind.TokenKind.{TokenKind}
use Rattle.fsl_token.specs.contracts.kind.TokenKind.{the_type}
use denote.Enum.Bare.{sameb, true_same}
use Rattle.fsl_tree.specs.SpelledExpressions.{Tokens, Spelled, fixed, all}
use Rattle.fsl_tree.specs.Nesting.{greatest}
use Rattle.fsl_grammar.specs.Heads.{is_fixed, is_next}
use Rattle.fsl_grammar.specs.Readers.{Outcome, Found, Reader, bind, take, open_at, many}

pub record Reads {A : Type 0} (reader : Reader A) (spelled : Spelled) (part : A) (after : Tokens) : Type 0 where
  pub reads : reader (spelled after) ≡ Found part after
  pub grows : length after < length (spelled after)

-- ---- one token

pub fixed_is : (kind : TokenKind) (place : Span) → is_fixed kind (fixed kind place) ≡ true
fixed_is kind place = rw (true_same the_type kind kind refl) refl

pub take_reads : (kind : TokenKind) (place : Span) (after : Tokens) → take kind (fixed kind place ∷ after) ≡ Found place after
take_reads kind place after = rw (fixed_is kind place) refl

pub open_reads : (kind : TokenKind) (room : ℕ) (place : Span) (after : Tokens) → 0 < room
    → open_at kind room (fixed kind place ∷ after) ≡ Found place after
open_reads kind zero place after h = absurd (omega arith)
open_reads kind (suc room) place after h = take_reads kind place after

-- ---- several parts

pub record ManyRead {A : Type 0} (more : Tokens → Bool) (item : Reader A) (spelled : A → Spelled) (Ends : Tokens → Type 0)
    (parts : List A) (after : Tokens) : Type 0 where
  pub reads : (turns : ℕ) → length (all (map spelled parts) after) ≤ turns → many more item turns (all (map spelled parts) after) ≡ Found parts after
  pub grows : length after ≤ length (all (map spelled parts) after)
  pub ends : Ends (all (map spelled parts) after)

none_read : {A : Type 0} (more : Tokens → Bool) (item : Reader A) (after : Tokens) → more after ≡ false → (turns : ℕ)
    → many more item turns after ≡ Found [] after
none_read more item after h zero = refl
none_read more item after h (suc turns) = rw h refl

one_more : {A : Type 0} (more : Tokens → Bool) (item : Reader A) (spelled : A → Spelled) (part : A) (parts : List A) (rest after : Tokens)
    → more (spelled part rest) ≡ true → Reads item (spelled part) part rest
    → ((turns : ℕ) → length rest ≤ turns → many more item turns rest ≡ Found parts after)
    → (turns : ℕ) → length (spelled part rest) ≤ turns → many more item turns (spelled part rest) ≡ Found (part ∷ parts) after
one_more more item spelled part parts rest after h one others zero short = let g = one.grows in absurd (omega arith)
one_more more item spelled part parts rest after h one others (suc turns) short =
    let g = one.grows in
    let e : many more item turns rest ≡ Found parts after = others turns (omega arith) in
    rw (h, one.reads, e) refl

pub many_read : {A : Type 0} (more : Tokens → Bool) (item : Reader A) (spelled : A → Spelled) (depth : A → ℕ) (room : ℕ) (Ends : Tokens → Type 0)
    (begins : (a : A) (after : Tokens) → more (spelled a after) ≡ true)
    (goes_on : (a : A) (after : Tokens) → Ends (spelled a after))
    (one : (a : A) (after : Tokens) → depth a ≤ room → Ends after → Reads item (spelled a) a after)
    (parts : List A) (after : Tokens) → greatest (map depth parts) ≤ room → Ends after → more after ≡ false
    → ManyRead more item spelled Ends parts after
many_read more item spelled depth room Ends begins goes_on one [] after fits ends stops =
    record { reads = λ turns short. none_read more item after stops turns; grows = omega arith; ends = ends }
many_read more item spelled depth room Ends begins goes_on one (part ∷ parts) after fits ends stops =
    let others = many_read more item spelled depth room Ends begins goes_on one parts after (omega arith) ends stops in
    let this : Reads item (spelled part) part (all (map spelled parts) after) = one part (all (map spelled parts) after) (omega arith) others.ends in
    let g = this.grows in let g' = others.grows in
    record {
      reads = one_more more item spelled part parts (all (map spelled parts) after) after (begins part (all (map spelled parts) after)) this others.reads;
      grows = omega arith;
      ends = goes_on part (all (map spelled parts) after);
    }
