-- Reading several parts one by one: what is left, read from here, gives what the whole gives.
use Rattle.std.proofs.Common.{ℕ, zero, suc, ◌+◌, ◌-◌, ◌≡◌, ◌≤◌, ◌<◌, ◌∙◌, Bool, true, false, List, [], ◌∷◌, ◌++◌, map, length, refl, sym, ap, subst, arith, Result, Ok, Err, append_assoc, IsErrAnd}
use Rattle.std.proofs.lemmas.List.{append-nil}
use Rattle.fsl_tree.specs.SpelledExpressions.{Tokens}
use Rattle.fsl_grammar.specs.declared.fault.Fault.{Fault}
use Rattle.fsl_grammar.specs.declared.fault.Fault.TheVariants as fault
use Rattle.fsl_grammar.specs.Readers.{Outcome, Found, Wrong, Deep, Reader, seen, ReadsAs, bind, many, many_of}

-- parts read before others
abbrev pub before : {A : Type 0} → List A → Outcome (List A) → Outcome (List A)
before parts (Found others left) = Found (parts ++ others) left
before parts (Wrong left) = Wrong left
before parts (Deep left) = Deep left

pub record Going {A : Type 0} (more : Tokens → Bool) (item : Reader A) (start : Tokens) (parts : List A) (left : Tokens) : Type 0 where
  pub turns : ℕ
  pub same : many more item (length start) start ≡ before parts (many more item turns left)
  pub enough : length left ≤ turns

nothing_before : {A : Type 0} (o : Outcome (List A)) → o ≡ before [] o
nothing_before (Found others left) = refl
nothing_before (Wrong left) = refl
nothing_before (Deep left) = refl

one_before : {A : Type 0} (parts : List A) (part : A) (o : Outcome (List A))
    → before parts (bind o (λ others end. Found (part ∷ others) end)) ≡ before (parts ++ part ∷ []) o
one_before parts part (Found others left) = ap (λ xs. Found xs left) (sym (append_assoc parts (part ∷ []) others))
one_before parts part (Wrong left) = refl
one_before parts part (Deep left) = refl

empty_length : (ts : Tokens) → length ts ≤ 0 → ts ≡ []
empty_length [] h = refl
empty_length (t ∷ ts) h = absurd (omega arith)

step_by : {A : Type 0} (turns : ℕ) (more : Tokens → Bool) (item : Reader A) (start : Tokens) (parts : List A) (left : Tokens) (part : A) (rest : Tokens)
    → many more item (length start) start ≡ before parts (many more item turns left) → length left ≤ turns
    → more left ≡ true → Found part rest ≡ item left → length rest < length left → Going more item start (parts ++ part ∷ []) rest
step_by zero more item start parts left part rest same enough h one shorter = absurd (omega arith)
step_by (suc turns) more item start parts left part rest same enough h one shorter =
    let this : many more item (suc turns) left ≡ bind (many more item turns rest) (λ others end. Found (part ∷ others) end) = rw (h, ← one) refl in
    record { turns = turns; same = same ∙ ap (before parts) this ∙ one_before parts part (many more item turns rest); enough = omega arith }

stop_by : {A : Type 0} (turns : ℕ) (more : Tokens → Bool) (item : Reader A) (parts : List A) (left : Tokens) → more left ≡ false
    → before parts (many more item turns left) ≡ Found parts left
stop_by zero more item parts left h = ap (λ xs. Found xs left) (append-nil parts)
stop_by (suc turns) more item parts left h = rw (h) (ap (λ xs. Found xs left) (append-nil parts))

fault_by : {A : Type 0} (e : Fault) (turns : ℕ) (more : Tokens → Bool) (item : Reader A) (start : Tokens) (parts : List A) (left rest : Tokens)
    → many more item (length start) start ≡ before parts (many more item turns left) → length left ≤ turns
    → more left ≡ true → more [] ≡ false → seen (Err e) rest (item left) ≡ item left
    → seen (Err e) rest (many more item (length start) start) ≡ many more item (length start) start
fault_by fault.NoMemory turns more item start parts left rest same enough h none one = refl
fault_by fault.Unexpected zero more item start parts left rest same enough h none one =
    let e = empty_length left enough in let c : more left ≡ more [] = ap more e in cc
fault_by fault.Deep zero more item start parts left rest same enough h none one =
    let e = empty_length left enough in let c : more left ≡ more [] = ap more e in cc
fault_by fault.Unexpected (suc turns) more item start parts left rest same enough h none one =
    let this : many more item (suc turns) left ≡ Wrong rest = rw (h, ← one) refl in rw (same, this) refl
fault_by fault.Deep (suc turns) more item start parts left rest same enough h none one =
    let this : many more item (suc turns) left ≡ Deep rest = rw (h, ← one) refl in rw (same, this) refl

pub going_start : {A : Type 0} (more : Tokens → Bool) (item : Reader A) (start : Tokens) → Going more item start [] start
going_start more item start = record { turns = length start; same = nothing_before (many more item (length start) start); enough = omega arith }

pub going_step : {A : Type 0} (more : Tokens → Bool) (item : Reader A) (start : Tokens) (parts : List A) (left : Tokens) (part : A) (rest : Tokens)
    → Going more item start parts left → more left ≡ true → Found part rest ≡ item left → length rest < length left
    → Going more item start (parts ++ part ∷ []) rest
going_step more item start parts left part rest going h one shorter = step_by going.turns more item start parts left part rest going.same going.enough h one shorter

pub going_stop : {A : Type 0} (more : Tokens → Bool) (item : Reader A) (start : Tokens) (parts : List A) (left : Tokens)
    → Going more item start parts left → more left ≡ false → many more item (length start) start ≡ Found parts left
going_stop more item start parts left going h = going.same ∙ stop_by going.turns more item parts left h

pub going_fault : {A : Type 0} (more : Tokens → Bool) (item : Reader A) (start : Tokens) (parts : List A) (left : Tokens) (e : Fault) (rest : Tokens)
    → Going more item start parts left → more left ≡ true → more [] ≡ false → seen (Err e) rest (item left) ≡ item left
    → seen (Err e) rest (many more item (length start) start) ≡ many more item (length start) start
going_fault more item start parts left e rest going h none one = fault_by e going.turns more item start parts left rest going.same going.enough h none one

-- the same of the answer that a loop gives then
pub going_failed : {A : Type 0} (more : Tokens → Bool) (item : Reader A) (start : Tokens) (parts : List A) (left : Tokens) (e : Fault) (rest : Tokens)
    (result : Result (List A) Fault) → IsErrAnd result (λ x. x ≡ e) → Going more item start parts left → more left ≡ true → more [] ≡ false
    → seen (Err e) rest (item left) ≡ item left → ReadsAs result rest (many_of more item) start
going_failed more item start parts left e rest (Ok x) is going h none one = absurd is
going_failed more item start parts left e rest (Err x) is going h none one =
    rw (is) (going_fault more item start parts left e rest going h none one)

-- a fault of the first part is one of the whole
pub fault_passes : {A B : Type 0} (e : Fault) (left : Tokens) (o : Outcome A) (next : A → Reader B)
    → seen (Err e) left o ≡ o → seen (Err e) left (bind o next) ≡ bind o next
fault_passes fault.Unexpected left o next h = rw (← h) refl
fault_passes fault.Deep left o next h = rw (← h) refl
fault_passes fault.NoMemory left o next h = refl
