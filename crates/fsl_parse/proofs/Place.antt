-- Where the reader stops is where the fault stands.
use Rattle.std.proofs.Common.{ℕ, ◌≡◌, ◌≤◌, ◌<◌, ◌∙◌, false, [], ◌∷◌, ◌++◌, map, length, refl, sym, ap, subst, arith, append_assoc, Err}
use Rattle.std.proofs.lemmas.List.{append_cancel_right}
use Rattle.fsl_token.specs.declared.kind.Token.{Token}
use Rattle.fsl_tree.specs.declared.file.File.{File}
use Rattle.fsl_tree.specs.SpelledExpressions.{Tokens, Spelled, all}
use Rattle.fsl_tree.specs.Spelling.{declaration, spelling}
use Rattle.fsl_grammar.specs.declared.fault.Fault.{Fault}
use Rattle.fsl_grammar.specs.declared.fault.Fault.TheVariants as stops
use Rattle.fsl_grammar.specs.Levels.{Open, after_one, deepest}
use Rattle.fsl_grammar.specs.Readers.{Outcome, Found, Wrong, Deep, seen}
use Rattle.fsl_grammar.specs.ReadDeclarations.{read_file}
use Rattle.fsl_parse.specs.Refusal.{BeginsFile, IsUnexpected, IsDeep, IsPlaced, placed}
use Rattle.fsl_grammar.proofs.Begun.{nothing, Goes, GoesOn, Fails, TooDeep}
use Rattle.fsl_grammar.proofs.BegunDeclarations.{file_goes}
use Rattle.fsl_grammar.proofs.Level.{Level, On, Off, Over, Passes, Fits, Any, at, open_after, deepest_append}
use Rattle.fsl_grammar.proofs.LevelDeclarations.{file_level}
use Rattle.fsl_grammar.proofs.SoundDeclarations.{file_sound}
use Rattle.fsl_parse.proofs.Stops.{wrong_stops}
use Rattle.fsl_grammar.proofs.WholeDeclarations.{one_spelling}

abbrev file_tokens : File → Spelled
file_tokens f after = all (map declaration f.declarations) after

-- ---- the tokens before a fault, and what they begin

record Wrongly (tokens left : Tokens) : Type 0 where
  front : Tokens
  is : tokens ≡ front ++ left
  begins : BeginsFile front

wrongly : {tokens left : Tokens} {o : Outcome File} → Goes file_tokens nothing tokens o → o ≡ Wrong left → Wrongly tokens left
wrongly (GoesOn file rest e w) h = absurd (cc)
wrongly {tokens = tokens} {left = left} (Fails rest e b) h =
    let same : Wrong rest ≡ Wrong left = sym e ∙ h in let k : rest ≡ left = cc in
    subst (λ (u : Tokens). Wrongly tokens u) k (record {
      front = b.prefix.front;
      is = b.is ∙ b.prefix.is rest;
      begins = record { file = b.part; rest = b.rest []; is = b.same [] ∙ b.prefix.is (b.rest []) };
    })
wrongly (TooDeep rest e b) h = absurd (cc)

record Deeply (tokens left : Tokens) : Type 0 where
  front : Tokens
  token : Token
  back : Tokens
  first : left ≡ token ∷ back
  is : tokens ≡ front ++ left
  begins : BeginsFile (front ++ token ∷ [])

deeply : {tokens left : Tokens} {o : Outcome File} → Goes file_tokens nothing tokens o → o ≡ Deep left → Deeply tokens left
deeply (GoesOn file rest e w) h = absurd (cc)
deeply (Fails rest e b) h = absurd (cc)
deeply {tokens = tokens} {left = left} (TooDeep rest e b) h =
    let same : Deep rest ≡ Deep left = sym e ∙ h in let k : rest ≡ left = cc in
    subst (λ (u : Tokens). Deeply tokens u) k (record {
      front = b.prefix.front;
      token = b.token;
      back = b.back;
      first = b.first;
      is = b.is ∙ b.prefix.is rest;
      begins = record {
        file = b.part;
        rest = b.rest [];
        is = b.same [] ∙ b.prefix.is (b.token ∷ b.rest []) ∙ sym (append_assoc b.prefix.front (b.token ∷ []) (b.rest []));
      };
    })

-- ---- how deep they nest

abbrev pub start : Open
start = at [] false

nothing_open : (n : ℕ) → Fits n n []
nothing_open n = record { settled = refl; fits = omega arith }

pub levels : (n : ℕ) (tokens : Tokens) → Level n start tokens [] Any (read_file n tokens)
levels n tokens = file_level (nothing_open n) false tokens tt

below : {n : ℕ} {tokens left : Tokens} {p : Open} → Passes n start tokens p left → (front : Tokens) → tokens ≡ front ++ left → deepest front ≤ n
below {n = n} {left = left} h front is =
    subst (λ (u : Tokens). deepest u ≤ n) (append_cancel_right h.front front left (sym h.is ∙ is)) h.within

wrong_below : {n : ℕ} {tokens left : Tokens} {o : Outcome File} → Level n start tokens [] Any o → o ≡ Wrong left
    → (front : Tokens) → tokens ≡ front ++ left → deepest front ≤ n
wrong_below (On file rest flag e q h) k front is = absurd (cc)
wrong_below {n = n} {tokens = tokens} {left = left} (Off rest p e h) k front is =
    let same : Wrong rest ≡ Wrong left = sym e ∙ k in let l : rest ≡ left = cc in
    below (subst (λ (u : Tokens). Passes n start tokens p u) l h) front is
wrong_below (Over rest p token back e f h d) k front is = absurd (cc)

-- the first too deep is the one at which the reader stops
record Beyond (n : ℕ) (front : Tokens) (token : Token) : Type 0 where
  within : deepest front ≤ n
  deeper : n < deepest (front ++ token ∷ [])

beyond : {n : ℕ} {tokens : Tokens} {token : Token} {back : Tokens} {p : Open} → Passes n start tokens p (token ∷ back)
    → n < length (after_one token.kind p).opened → (front : Tokens) → tokens ≡ front ++ token ∷ back → Beyond n front token
beyond {n = n} {token = token} {back = back} h over front is =
    let same : h.front ≡ front = append_cancel_right h.front front (token ∷ back) (sym h.is ∙ is) in
    let e = deepest_append start h.front (token ∷ []) in
    let f : n < length (after_one token.kind (open_after start h.front)).opened =
    subst (λ (u : Open). n < length (after_one token.kind u).opened) (sym h.leads) over in
    let whole : Beyond n h.front token = record { within = h.within; deeper = omega arith } in
    subst (λ (u : Tokens). Beyond n u token) same whole

deep_beyond : {n : ℕ} {tokens left : Tokens} {token : Token} {back : Tokens} {o : Outcome File} → Level n start tokens [] Any o → o ≡ Deep left
    → left ≡ token ∷ back → (front : Tokens) → tokens ≡ front ++ left → Beyond n front token
deep_beyond (On file rest flag e q h) k first front is = absurd (cc)
deep_beyond (Off rest p e h) k first front is = absurd (cc)
deep_beyond {n = n} {tokens = tokens} {left = left} {token = token} {back = back} (Over rest p other others e f h d) k first front is =
    let same : Deep rest ≡ Deep left = sym e ∙ k in
    let heads : token ∷ back ≡ other ∷ others = cc in let one : other ≡ token = cc in let l : rest ≡ token ∷ back = cc in
    beyond (subst (λ (u : Tokens). Passes n start tokens p u) l h) (subst (λ (u : Token). n < length (after_one u.kind p).opened) one d) front
    (is ∙ ap (λ (u : Tokens). front ++ u) first)

-- ---- the faults of a file

pub unexpected : (tokens left : Tokens) → read_file 64 tokens ≡ Wrong left → IsUnexpected tokens left
unexpected tokens left h =
    let w = wrongly (file_goes 64 tokens) h in
    record {
      front = w.front;
      is = w.is;
      begins = w.begins;
      within = wrong_below (levels 64 tokens) h w.front w.is;
      stops = wrong_stops 64 w.front left (subst (λ (u : Tokens). read_file 64 u ≡ Wrong left) w.is h);
    }

pub too_deep : (tokens left : Tokens) → read_file 64 tokens ≡ Deep left → IsDeep tokens left
too_deep tokens left h =
    let w = deeply (file_goes 64 tokens) h in
    let b = deep_beyond (levels 64 tokens) h w.first w.front w.is in
    record { front = w.front; token = w.token; back = w.back; first = w.first; is = w.is; begins = w.begins; within = b.within; deeper = b.deeper }

pub stands : (e : Fault) (left : Tokens) (end : ℕ) (tokens : Tokens) → seen (Err e) left (read_file 64 tokens) ≡ read_file 64 tokens
    → IsPlaced (placed e left end) tokens end
stands stops.Unexpected left end tokens h = record { left = left; holds = unexpected tokens left (sym h); there = refl }
stands stops.Deep left end tokens h = record { left = left; holds = too_deep tokens left (sym h); there = refl }
stands stops.NoMemory left end tokens h = tt

-- ---- what is found is the only file of its tokens

pub alone : (file : File) (left tokens : Tokens) → Found file left ≡ read_file 64 tokens → (other : File) → spelling other ≡ tokens → other ≡ file
alone file left tokens h other same = one_spelling other file (same ∙ ((file_sound 64 tokens).holds file left (sym h)).found)
