-- Reading from the left: what comes of it, and how readers of parts make the reader of the whole. Readers are
-- what the private functions of the parser are held to; no public contract names them.
use Rattle.std.specs.Prelude.{◌≡◌, ℕ, zero, suc, Bool, true, false, if◌then◌else◌, ◌||◌, List, [], ◌∷◌, ◌++◌, length, Result, Ok, Err}
use Rattle.fsl_base.specs.declared.span.Span.{Span}
use Rattle.fsl_token.specs.declared.kind.TokenKind.{TokenKind}
use Rattle.fsl_tree.specs.SpelledExpressions.{Tokens}
use Rattle.fsl_grammar.specs.declared.fault.Fault.{Fault}
use Rattle.fsl_grammar.specs.declared.fault.Fault.TheVariants as fault
use Rattle.fsl_grammar.specs.declared.groups.Numeral.{Numeral}
use Rattle.fsl_grammar.specs.Heads.{is_fixed, is_next, is_number_next}

-- a part and the tokens that are left, or a fault at the first of those that are left
pub data Outcome (A : Type 0) : Type 0 where
  Found : A → Tokens → Outcome A
  Wrong : Tokens → Outcome A
  Deep : Tokens → Outcome A

abbrev pub Reader : Type 0 → Type 0
Reader A = Tokens → Outcome A

-- what a call answered, where it didn't want for memory, and else the outcome that it would have had
abbrev pub seen : {A : Type 0} → Result A Fault → Tokens → Outcome A → Outcome A
seen (Ok a) left o = Found a left
seen (Err fault.Unexpected) left o = Wrong left
seen (Err fault.Deep) left o = Deep left
seen (Err fault.NoMemory) left o = o

-- a call answered as the reader does, and left what it leaves, where it didn't want for memory
abbrev pub ReadsAs : {A : Type 0} → Result A Fault → Tokens → Reader A → Tokens → Type 0
ReadsAs result left reader tokens = seen result left (reader tokens) ≡ reader tokens

-- first one part, then what reads on
abbrev pub bind : {A B : Type 0} → Outcome A → (A → Reader B) → Outcome B
bind (Found a left) next = next a left
bind (Wrong left) next = Wrong left
bind (Deep left) next = Deep left

abbrev pub take : TokenKind → Reader Span
take kind [] = Wrong []
take kind (token ∷ tokens) = if is_fixed kind token then Found token.span tokens else Wrong (token ∷ tokens)

-- a token that nests, where there is room for so many levels more
abbrev pub open_at : TokenKind → ℕ → Reader Span
open_at kind zero tokens = if is_next kind tokens then Deep tokens else Wrong tokens
open_at kind (suc room) tokens = take kind tokens

abbrev pub number : Reader Numeral
number [] = Wrong []
number (token ∷ tokens) = if is_number_next (token ∷ tokens) then Found (record { place = token.span; value = token.number }) tokens else Wrong (token ∷ tokens)

-- as long as more comes next, at most so often
abbrev pub many : {A : Type 0} → (Tokens → Bool) → Reader A → ℕ → Reader (List A)
many more item zero tokens = Found [] tokens
many more item (suc turns) tokens =
    if more tokens then bind (item tokens) (λ a left. bind (many more item turns left) (λ others end. Found (a ∷ others) end)) else Found [] tokens

abbrev pub many_of : {A : Type 0} → (Tokens → Bool) → Reader A → Reader (List A)
many_of more item tokens = many more item (length tokens) tokens
