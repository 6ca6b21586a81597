-- The permissions for a location among the chunks.
use Rattle.std.proofs.Common.{◌≡◌, ◌≤◌, ℕ, zero, suc, ◌+◌, Bool, true, false, List, [], ◌∷◌, ◌++◌, length, drop, slice_get, Option, Some, None, refl, sym, ap, ◌∙◌, append_assoc, append-nil, add-one}
use Rattle.std.specs.Prelude.{is_some}
use Rattle.std.proofs.Math.ListN.{drop_of_length-le}
use Rattle.fsl_core.specs.declared.chunk.Chunk.{Chunk}
use Rattle.fsl_core.specs.declared.chunk.Chunk.TheVariants as chunk
use Rattle.fsl_core.specs.logic.Chunks.{Permission, when, leave}
use Rattle.fsl_core.specs.logic.Deciding.{proves_equal}
use Rattle.fsl_core.specs.logic.Accesses.{permission_at, placed, permissions}
use Rattle.fsl_lin.specs.Combination.{Combination}
use Rattle.fsl_lin.specs.declared.fact.Fact.{Fact}

-- the chunk at a number, and those behind it
next_at : (cs : List Chunk) (n : ℕ) (c : Chunk) → slice_get cs n ≡ Some c → drop n cs ≡ c ∷ drop (suc n) cs
next_at [] n c h = absurd cc
next_at (x ∷ xs) zero c h = let same : x ≡ c = cc in ap (λ (y : Chunk). y ∷ xs) same
next_at (x ∷ xs) (suc n) c h = next_at xs n c h

next_chunk : (cs : List Chunk) (n : ℕ) (c : Chunk) → slice_get cs n ≡ Some c → drop n cs ≡ c ∷ drop (n + 1) cs
next_chunk cs n c h = rw add-one (next_at cs n c h)

some_when : {X : Type 0} (test : Bool) (x : X) → is_some (when test x) ≡ test
some_when true x = refl
some_when false x = refl

-- a chunk is a permission where it stands for the location
pub stands_for : (facts : List Fact) (at a : Combination) (inv : ℕ) (args : List Combination) (part : ℕ) (out : List Combination) (c : Chunk) (b : Bool)
    → c ≡ chunk.Acq a inv args part out → b ≡ proves_equal facts a at → b ≡ is_some (permission_at at facts c)
stands_for facts at a inv args part out c b e h =
    rw e (h ∙ sym (some_when (proves_equal facts a at) (record { leave = leave a inv args; part = part; out = out })))

placed_one : (o : Option Permission) (n : ℕ) (places : List ℕ) → is_some o ≡ true → placed o n places ≡ n ∷ places
placed_one (Some x) n places h = refl
placed_one None n places h = absurd cc

placed_none : (o : Option Permission) (n : ℕ) (places : List ℕ) → is_some o ≡ false → placed o n places ≡ places
placed_none None n places h = refl
placed_none (Some x) n places h = absurd cc

pub place_more : (facts : List Fact) (at : Combination) (cs : List Chunk) (n : ℕ) (c : Chunk) (out more whole : List ℕ) → slice_get cs n ≡ Some c
    → is_some (permission_at at facts c) ≡ true → more ≡ out ++ n ∷ [] → out ++ permissions facts at n (drop n cs) ≡ whole
    → more ++ permissions facts at (n + 1) (drop (n + 1) cs) ≡ whole
place_more facts at cs n c out more whole h is e so =
    let rest : List ℕ = permissions facts at (n + 1) (drop (n + 1) cs) in
    ap (λ (xs : List ℕ). xs ++ rest) e ∙ append_assoc out (n ∷ []) rest
    ∙ ap (λ (xs : List ℕ). out ++ xs) (sym (placed_one (permission_at at facts c) n rest is))
    ∙ ap (λ (xs : List Chunk). out ++ permissions facts at n xs) (sym (next_chunk cs n c h)) ∙ so

pub place_less : (facts : List Fact) (at : Combination) (cs : List Chunk) (n : ℕ) (c : Chunk) (out whole : List ℕ) → slice_get cs n ≡ Some c
    → is_some (permission_at at facts c) ≡ false → out ++ permissions facts at n (drop n cs) ≡ whole
    → out ++ permissions facts at (n + 1) (drop (n + 1) cs) ≡ whole
place_less facts at cs n c out whole h is so =
    let rest : List ℕ = permissions facts at (n + 1) (drop (n + 1) cs) in
    ap (λ (xs : List ℕ). out ++ xs) (sym (placed_none (permission_at at facts c) n rest is))
    ∙ ap (λ (xs : List Chunk). out ++ permissions facts at n xs) (sym (next_chunk cs n c h)) ∙ so

pub places_end : (facts : List Fact) (at : Combination) (cs : List Chunk) (n : ℕ) (out whole : List ℕ) → length cs ≤ n
    → out ++ permissions facts at n (drop n cs) ≡ whole → out ≡ whole
places_end facts at cs n out whole past so =
    sym (append-nil out) ∙ ap (λ (xs : List Chunk). out ++ permissions facts at n xs) (sym (drop_of_length-le cs past)) ∙ so
