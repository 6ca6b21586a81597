-- A file nests as deep as its tokens, counted by the brackets and signs that are open at each.
use Rattle.std.proofs.Common.{ℕ, ◌+◌, ◌≡◌, ◌≤◌, ◌<◌, ◌∙◌, List, [], ◌∷◌, ◌++◌, max, length, refl, sym, ap, subst, arith, append_assoc}
use Rattle.std.proofs.lemmas.List.{append-nil}
use Rattle.fsl_token.specs.declared.kind.Token.{Token}
use Rattle.fsl_tree.specs.declared.file.File.{File}
use Rattle.fsl_tree.specs.SpelledExpressions.{Tokens}
use Rattle.fsl_tree.specs.Spelling.{spelling}
use Rattle.fsl_tree.specs.Nesting.{nesting}
use Rattle.fsl_grammar.specs.Levels.{Open, after_one, deepest_from, deepest}
use Rattle.fsl_grammar.specs.Readers.{Outcome, Found, Wrong, Deep}
use Rattle.fsl_grammar.specs.ReadDeclarations.{read_file}
use Rattle.fsl_parse.specs.Refusal.{StopsThere}
use Rattle.fsl_grammar.proofs.Level.{Level, On, Off, Over, Passes, Any, open_after, deepest_append}
use Rattle.fsl_parse.proofs.Place.{start, levels}
use Rattle.fsl_grammar.proofs.SoundDeclarations.{file_sound}
use Rattle.fsl_parse.proofs.Stops.{wrong_stops}
use Rattle.fsl_grammar.proofs.WholeDeclarations.{file_reads, one_spelling}

-- ---- a file within some levels has tokens within them

found_within : {n : ℕ} {ts : Tokens} {file : File} {o : Outcome File} → Level n start ts [] Any o → o ≡ Found file [] → deepest ts ≤ n
found_within {n = n} {ts = ts} {file = file} (On x left flag e q h) k =
    let same : Found x left ≡ Found file [] = sym e ∙ k in let none : left ≡ [] = cc in
    let whole : ts ≡ h.front = h.is ∙ ap (λ (u : Tokens). h.front ++ u) none ∙ append-nil h.front in
    subst (λ (u : Tokens). deepest u ≤ n) (sym whole) h.within
found_within (Off left p e h) k = absurd (cc)
found_within (Over left p token back e f h d) k = absurd (cc)

no_deeper : (n : ℕ) (file : File) → nesting file ≤ n → deepest (spelling file) ≤ n
no_deeper n file fits = found_within (levels n (spelling file)) (file_reads n file fits)

-- ---- and the other way round

pub not_stopped : (front left : Tokens) (file : File) → StopsThere front left → spelling file ≡ front ++ left → ⊥
not_stopped front [] file stops same = stops file (same ∙ append-nil front)
not_stopped front (token ∷ left) file stops same =
    stops (record { file = file; rest = left; is = same ∙ sym (append_assoc front (token ∷ []) left) })

too_much : {n : ℕ} {ts left : Tokens} {p : Open} {token : Token} {back : Tokens} → Passes n start ts p left → left ≡ token ∷ back
    → n < length (after_one token.kind p).opened → n < deepest ts
too_much {n = n} {ts = ts} {left = left} {p = p} {token = token} {back = back} h first over =
    let is : ts ≡ h.front ++ token ∷ back = h.is ∙ ap (λ (u : Tokens). h.front ++ u) first in
    let e = deepest_append start h.front (token ∷ back) in
    let f : n < length (after_one token.kind (open_after start h.front)).opened =
    subst (λ (u : Open). n < length (after_one token.kind u).opened) (sym h.leads) over in
    subst (λ (u : Tokens). n < deepest u) (sym is) (omega arith)

read_within : (n : ℕ) (file : File) (o : Outcome File) → read_file n (spelling file) ≡ o → Level n start (spelling file) [] Any o
    → deepest (spelling file) ≤ n → nesting file ≤ n
read_within n file o k (On x left flag e q h) fits =
    let r = (file_sound n (spelling file)).holds x left (k ∙ e) in
    subst (λ (u : File). nesting u ≤ n) (sym (one_spelling file x r.found)) r.within
read_within n file o k (Off left p e h) fits =
    absurd (not_stopped h.front left file
    (wrong_stops n h.front left (subst (λ (u : Tokens). read_file n u ≡ Wrong left) h.is (k ∙ e))) h.is)
read_within n file o k (Over left p token back e f h d) fits = let g = too_much h f d in absurd (omega arith)

pub depth_of_tokens : (file : File) → deepest (spelling file) ≡ nesting file
depth_of_tokens file =
    let a = no_deeper (nesting file) file (omega arith) in
    let m = deepest (spelling file) in
    let b : nesting file ≤ deepest (spelling file) =
    read_within m file (read_file m (spelling file)) refl (levels m (spelling file)) (omega arith) in
    omega arith
