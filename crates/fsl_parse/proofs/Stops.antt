-- Where the reading stops for a token that it doesn't expect, no file begins with the tokens up to and with that one;
-- where it stops for a token that nests too deeply, none begins so that nests within the room.
use Rattle.std.proofs.Common.{ℕ, ◌≡◌, ◌≤◌, ◌∙◌, [], ◌∷◌, ◌++◌, length, max, refl, sym, ap, arith, append_assoc}
use Rattle.std.proofs.lemmas.List.{append-nil}
use Rattle.fsl_token.specs.declared.kind.Token.{Token}
use Rattle.fsl_tree.specs.declared.file.File.{File}
use Rattle.fsl_tree.specs.SpelledExpressions.{Tokens}
use Rattle.fsl_tree.specs.Spelling.{spelling}
use Rattle.fsl_tree.specs.Nesting.{nesting}
use Rattle.fsl_grammar.specs.Readers.{Outcome, Found, Wrong, Deep}
use Rattle.fsl_grammar.specs.ReadDeclarations.{read_file}
use Rattle.fsl_parse.specs.Refusal.{BeginsFile, StopsThere}
use Rattle.fsl_grammar.proofs.Local.{left_of, Same, Finds, Wrongs, Deeps, Past, Steady, Kept, Deeper, Rooms}
use Rattle.fsl_grammar.proofs.LocalDeclarations.{file_local}
use Rattle.fsl_grammar.proofs.WholeDeclarations.{file_reads}

no_less : {token : Token} {back : Tokens} {o : Outcome File} → o ≡ Wrong (token ∷ back) → length (left_of o) ≤ length back → ⊥
no_less {token = token} {back = back} {o = o} e h = let k : left_of o ≡ token ∷ back = rw e refl in omega (arith, ap length k)

no_less_deep : {token : Token} {back : Tokens} {o : Outcome File} → o ≡ Deep (token ∷ back) → length (left_of o) ≤ length back → ⊥
no_less_deep {token = token} {back = back} {o = o} e h = let k : left_of o ≡ token ∷ back = rw e refl in omega (arith, ap length k)

apart : {token : Token} {a b : Tokens} {o p : Outcome File} {file : File} → Same ⊥ token a b o p → o ≡ Wrong (token ∷ a) → p ≡ Found file [] → ⊥
apart (Finds x front e f) h k = cc
apart (Wrongs front e f) h k = cc
apart (Deeps front e f) h k = cc
apart (Past short) h k = no_less h short

apart_deep : {token : Token} {a b : Tokens} {o p : Outcome File} {file : File} → Same (Unit {0}) token a b o p → o ≡ Deep (token ∷ a)
    → p ≡ Found file [] → ⊥
apart_deep (Finds x front e f) h k = cc
apart_deep (Wrongs front e f) h k = cc
apart_deep (Deeps front e f) h k = let g = f tt in cc
apart_deep (Past short) h k = no_less_deep h short

kept : {o p : Outcome File} {file : File} → Steady o p → o ≡ Wrong [] → p ≡ Found file [] → ⊥
kept (Kept e) h k = cc
kept (Deeper left e) h k = cc

end_stops : (room : ℕ) (front : Tokens) → read_file room (front ++ []) ≡ Wrong [] → StopsThere front []
end_stops room front h file same =
    let most = max room (nesting file) in
    let rooms : Rooms ⊥ room most = record { more = omega arith; same = λ p. absurd p } in
    let whole : front ≡ front ++ [] = sym (append-nil front) in
    let k : read_file most (front ++ []) ≡ Found file [] = ap (read_file most) (sym (same ∙ whole)) ∙ file_reads most file (omega arith) in
    kept ((file_local rooms).steady (front ++ [])) h k

token_stops : (room : ℕ) (token : Token) (front back : Tokens) → read_file room (front ++ token ∷ back) ≡ Wrong (token ∷ back)
    → StopsThere front (token ∷ back)
token_stops room token front back h begins =
    let most = max room (nesting begins.file) in
    let rooms : Rooms ⊥ room most = record { more = omega arith; same = λ p. absurd p } in
    let is : spelling begins.file ≡ front ++ token ∷ begins.rest = begins.is ∙ append_assoc front (token ∷ []) begins.rest in
    let k : read_file most (front ++ token ∷ begins.rest) ≡ Found begins.file [] = ap (read_file most) (sym is) ∙ file_reads most begins.file
    (omega arith) in
    apart ((file_local rooms).alike token back begins.rest front) h k

pub wrong_stops : (room : ℕ) (front left : Tokens) → read_file room (front ++ left) ≡ Wrong left → StopsThere front left
wrong_stops room front [] h = end_stops room front h
wrong_stops room front (token ∷ back) h = token_stops room token front back h

pub deep_stops : (room : ℕ) (token : Token) (front back : Tokens) → read_file room (front ++ token ∷ back) ≡ Deep (token ∷ back)
    → (begins : BeginsFile (front ++ token ∷ [])) → nesting begins.file ≤ room → ⊥
deep_stops room token front back h begins fits =
    let rooms : Rooms (Unit {0}) room room = record { more = omega arith; same = λ p. refl } in
    let is : spelling begins.file ≡ front ++ token ∷ begins.rest = begins.is ∙ append_assoc front (token ∷ []) begins.rest in
    let k : read_file room (front ++ token ∷ begins.rest) ≡ Found begins.file [] = ap (read_file room) (sym is) ∙ file_reads room begins.file fits in
    apart_deep ((file_local rooms).alike token back begins.rest front) h k
