-- Printing one token more.
use Rattle.std.proofs.Common.{ℕ, ◌≡◌, List, [], ◌∷◌, ◌++◌, refl, sym, ap, ◌∙◌, append_assoc, subst}
use Rattle.fsl_token.specs.declared.kind.Token.{Token}
use Rattle.fsl_tree.specs.SpelledExpressions.{Tokens}
use Rattle.fsl_tree.specs.Printing.{token_text, printed, IsHeld, AreHeld}

pub held_first : (bytes : List ℕ) (rest : Tokens) (t : Token) (ts : Tokens) → rest ≡ t ∷ ts → AreHeld bytes rest → IsHeld bytes t
held_first bytes rest t ts is held = (subst (AreHeld bytes) is held).0

pub held_others : (bytes : List ℕ) (rest : Tokens) (t : Token) (ts : Tokens) → rest ≡ t ∷ ts → AreHeld bytes rest → AreHeld bytes ts
held_others bytes rest t ts is held = (subst (AreHeld bytes) is held).1

-- `before` and the text of the last token
pub printed_last : (bytes : List ℕ) (rest : Tokens) (t : Token) (ts : Tokens) (before whole : List ℕ) → rest ≡ t ∷ ts → ts ≡ [] → before ++ printed bytes rest ≡ whole → (before ++ token_text bytes t) ++ printed bytes ts ≡ whole
printed_last bytes rest t [] before whole is last all = append_assoc before (token_text bytes t) (10 ∷ []) ∙ ap (λ (r : Tokens). before ++ printed bytes r) (sym is) ∙ all
printed_last bytes rest t (u ∷ us) before whole is last all = absurd cc

pub printed_next : (bytes : List ℕ) (rest : Tokens) (t : Token) (ts : Tokens) (before whole : List ℕ) → rest ≡ t ∷ ts → (ts ≡ [] → ⊥) → before ++ printed bytes rest ≡ whole → ((before ++ token_text bytes t) ++ 32 ∷ []) ++ printed bytes ts ≡ whole
printed_next bytes rest t [] before whole is more all = absurd (more refl)
printed_next bytes rest t (u ∷ us) before whole is more all =
    append_assoc (before ++ token_text bytes t) (32 ∷ []) (printed bytes (u ∷ us)) ∙ append_assoc before (token_text bytes t) (32 ∷ printed bytes (u ∷ us))
    ∙ ap (λ (r : Tokens). before ++ printed bytes r) (sym is) ∙ all
