-- The names of invariants and procedures are text.
use Rattle.std.proofs.Common.{◌≡◌, ℕ, Bool, true, false, List, [], Result, Ok, Err, IfOk, if◌then◌else◌, sym, ap, ◌∙◌}
use Rattle.std.proofs.lemmas.Bool.{false_from_ne_true}
use Rattle.std.proofs.lemmas.Str.{is_utf8-from_IsUtf8, IsUtf8-from_is_utf8}
use Rattle.std.specs.Str.{IsUtf8, is_utf8}
use Rattle.fsl_base.specs.declared.span.Span.{Span}
use Rattle.fsl_types.specs.Names.{text_at}
use Rattle.fsl_types.specs.Programs.{name_at}

name_by : (bytes : List ℕ) (name : Span) (b : Bool) → is_utf8 (text_at bytes name) ≡ b → name_at bytes name ≡ (if b then text_at bytes name else [])
name_by bytes name b is = ap (λ c. if c then text_at bytes name else []) is

pub copied_name : {E : Type 0} (bytes : List ℕ) (name : Span) (found text : List ℕ) (result : Result (List ℕ) E) → found ≡ text_at bytes name
    → text ≡ found → IsUtf8 found → IfOk result (λ copy. copy ≡ text) → IfOk result (λ t. t ≡ name_at bytes name)
copied_name bytes name found text (Err e) there same utf8 is = tt
copied_name bytes name found text (Ok t) there same utf8 is =
    let at : is_utf8 (text_at bytes name) ≡ true = ap is_utf8 (sym there) ∙ is_utf8-from_IsUtf8 found utf8 in
    is ∙ same ∙ there ∙ sym (name_by bytes name true at)

pub no_name : (bytes : List ℕ) (name : Span) (found text : List ℕ) → found ≡ text_at bytes name → (IsUtf8 found → ⊥) → text ≡ [] → text ≡ name_at bytes name
no_name bytes name found text there none is =
    let not_text : is_utf8 found ≡ false = false_from_ne_true (is_utf8 found) (λ at. none (IsUtf8-from_is_utf8 found at)) in
    is ∙ sym (name_by bytes name false (ap is_utf8 (sym there) ∙ not_text))
