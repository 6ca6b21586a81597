-- Going through the numbers of one kind and rung finds the first chunk that fits.
use Rattle.std.proofs.Common.{◌≡◌, ℕ, zero, suc, ◌+◌, ◌<◌, Bool, true, false, ◌&&◌, List, [], ◌∷◌, ◌++◌, length, get_or, Option, Some, None, refl, sym, ap, ◌∙◌, append_assoc, arith}
use Rattle.std.proofs.lemmas.Grind.{common_steps}
use Rattle.std.specs.Prelude.{if◌then◌else◌, is_some, slice_get}
use Rattle.fsl_core.specs.declared.chunk.Chunk.{Chunk}
use Rattle.fsl_core.specs.declared.chunk.Chunk.TheVariants as chunk
use Rattle.fsl_core.specs.declared.mode.Rung.{Rung}
use Rattle.fsl_core.specs.logic.Chunks.{Found, found, first, when, same_rung}
use Rattle.fsl_lin.specs.declared.fact.Fact.{Fact}
use Rattle.fsl_chunk.specs.declared.kind.ChunkKind.{ChunkKind}
use Rattle.fsl_chunk.specs.declared.want.Want.{Want}
use Rattle.fsl_chunk.specs.declared.want.Want.TheVariants as want
use Rattle.fsl_chunk.specs.Kind.{is_of, numbers_from, numbers_of}
use Rattle.fsl_chunk.specs.Fits.{found_number, reading, sought, fits, kind_sought, rung_sought}
use Rattle.fsl_chunk.proofs.FoundItems.{get_middle}

-- ---- the first of some numbers

abbrev pub holds_at : {C : Type 0} → (C → Bool) → Option C → Bool
holds_at p None = false
holds_at p (Some c) = p c

-- the first number whose item passes
abbrev pub first_in : {C : Type 0} → (C → Bool) → List C → List ℕ → Option ℕ
first_in p cs [] = None
first_in p cs (n ∷ ns) = if holds_at p (slice_get cs n) then Some n else first_in p cs ns

-- the number of the first item that passes
abbrev position_from : {C : Type 0} → ℕ → (C → Bool) → List C → Option ℕ
position_from n p [] = None
position_from n p (c ∷ cs) = if p c then Some n else position_from (n + 1) p cs

search_step : {C : Type 0} (p : C → Bool) (xs : List C) (b : Bool) (n : ℕ) (c : C) (ns : List ℕ) (o : Option ℕ) → (b ≡ false → p c ≡ false)
    → slice_get xs n ≡ Some c → first_in p xs ns ≡ o → first_in p xs (if b then n ∷ ns else ns) ≡ (if p c then Some n else o)
search_step p xs true n c ns o only e h =
    ap (λ x. if holds_at p x then Some n else first_in p xs ns) e ∙ ap (λ r. if p c then Some n else r) h
search_step p xs false n c ns o only e h = h ∙ sym (ap (λ t. if t then Some n else o) (only refl))

search_all : {C : Type 0} (p test : C → Bool) (ds cs : List C) (n : ℕ) → ((c : C) → test c ≡ false → p c ≡ false) → length ds ≡ n
    → first_in p (ds ++ cs) (numbers_from n test cs) ≡ position_from n p cs
search_all p test ds [] n only l = refl
search_all p test ds (c ∷ cs) n only l =
    let here : slice_get (ds ++ c ∷ cs) n ≡ Some c = rw (← l) (get_middle ds c cs) in
    let longer : length (ds ++ c ∷ []) ≡ n + 1 = grind (arith, common_steps) in
    let later : first_in p ((ds ++ c ∷ []) ++ cs) (numbers_from (n + 1) test cs) ≡ position_from (n + 1) p cs = search_all p test (ds ++ c ∷ []) cs (n + 1) only longer in
    search_step p (ds ++ c ∷ cs) (test c) n c (numbers_from (n + 1) test cs) (position_from (n + 1) p cs) (only c) here
    (ap (λ xs. first_in p xs (numbers_from (n + 1) test cs)) (sym (append_assoc ds (c ∷ []) cs)) ∙ later)

abbrev shift : ℕ → Option ℕ → Option ℕ
shift n None = None
shift n (Some k) = Some (n + k)

shift_none : (o : Option ℕ) → o ≡ shift 0 o
shift_none None = refl
shift_none (Some k) = ap Some (omega arith)

number_step : {C X : Type 0} (n : ℕ) (o : Option X) (c : C) (cs : List C) (later : Option (Found C X)) (q : Option ℕ) → shift (n + 1) (found_number later) ≡ q
    → shift n (found_number (found o c cs later)) ≡ (if is_some o then Some n else q)
number_step n (Some x) c cs later q h = ap Some (omega arith)
number_step n None c cs None q h = h
number_step n None c cs (Some f) q h = ap Some (omega arith) ∙ h

number_from : {C X : Type 0} (n : ℕ) (reads : C → Option X) (cs : List C) → shift n (found_number (first reads cs)) ≡ position_from n (λ c. is_some (reads c)) cs
number_from n reads [] = refl
number_from n reads (c ∷ cs) =
    number_step n (reads c) c cs (first reads cs) (position_from (n + 1) (λ d. is_some (reads d)) cs) (number_from (n + 1) reads cs)

first_number : {C X : Type 0} (reads : C → Option X) (cs : List C) → found_number (first reads cs) ≡ position_from 0 (λ c. is_some (reads c)) cs
first_number reads cs = shift_none (found_number (first reads cs)) ∙ number_from 0 reads cs

-- ---- what is sought

sought_is : (w : Want) (facts : List Fact) (cs : List Chunk) → sought w facts cs ≡ position_from 0 (fits w facts) cs
sought_is (want.Points rung at) facts cs = first_number (reading (want.Points rung at) facts) cs
sought_is (want.Enough rung at share) facts cs = first_number (reading (want.Enough rung at share) facts) cs
sought_is (want.Init rung at) facts cs = first_number (reading (want.Init rung at) facts) cs
sought_is (want.Rel at) facts cs = first_number (reading (want.Rel at) facts) cs
sought_is (want.RmwAcq at) facts cs = first_number (reading (want.RmwAcq at) facts) cs
sought_is (want.RelOf l) facts cs = first_number (reading (want.RelOf l) facts) cs
sought_is (want.RmwOf l) facts cs = first_number (reading (want.RmwOf l) facts) cs
sought_is (want.AcqOf l part out) facts cs = first_number (reading (want.AcqOf l part out) facts) cs
sought_is (want.Tok bank) facts cs = first_number (reading (want.Tok bank) facts) cs
sought_is (want.Auth bank) facts cs = first_number (reading (want.Auth bank) facts) cs

no_rung : {X : Type 0} (b t : Bool) (x : X) → b ≡ false → is_some (when (b && t) x) ≡ false
no_rung b t x h = ap (λ a. is_some (when (a && t) x)) h

-- a chunk of another kind or rung doesn't fit
only_of : (w : Want) (facts : List Fact) (c : Chunk) → is_of (kind_sought w) (rung_sought w) c ≡ false → fits w facts c ≡ false
only_of (want.Points rung at) facts (chunk.Points r a share value) h = no_rung (same_rung r rung) _ _ h
only_of (want.Points rung at) facts (chunk.Init r a) h = refl
only_of (want.Points rung at) facts (chunk.Rel a inv args) h = refl
only_of (want.Points rung at) facts (chunk.Acq a inv args part out) h = refl
only_of (want.Points rung at) facts (chunk.RmwAcq a inv args) h = refl
only_of (want.Points rung at) facts (chunk.Tok bank n) h = refl
only_of (want.Points rung at) facts (chunk.Auth bank n) h = refl
only_of (want.Enough rung at share) facts (chunk.Points r a held value) h = no_rung (same_rung r rung) _ _ h
only_of (want.Enough rung at share) facts (chunk.Init r a) h = refl
only_of (want.Enough rung at share) facts (chunk.Rel a inv args) h = refl
only_of (want.Enough rung at share) facts (chunk.Acq a inv args part out) h = refl
only_of (want.Enough rung at share) facts (chunk.RmwAcq a inv args) h = refl
only_of (want.Enough rung at share) facts (chunk.Tok bank n) h = refl
only_of (want.Enough rung at share) facts (chunk.Auth bank n) h = refl
only_of (want.Init rung at) facts (chunk.Points r a share value) h = refl
only_of (want.Init rung at) facts (chunk.Init r a) h = no_rung (same_rung r rung) _ _ h
only_of (want.Init rung at) facts (chunk.Rel a inv args) h = refl
only_of (want.Init rung at) facts (chunk.Acq a inv args part out) h = refl
only_of (want.Init rung at) facts (chunk.RmwAcq a inv args) h = refl
only_of (want.Init rung at) facts (chunk.Tok bank n) h = refl
only_of (want.Init rung at) facts (chunk.Auth bank n) h = refl
only_of (want.Rel at) facts (chunk.Points r a share value) h = refl
only_of (want.Rel at) facts (chunk.Init r a) h = refl
only_of (want.Rel at) facts (chunk.Rel a inv args) h = absurd cc
only_of (want.Rel at) facts (chunk.Acq a inv args part out) h = refl
only_of (want.Rel at) facts (chunk.RmwAcq a inv args) h = refl
only_of (want.Rel at) facts (chunk.Tok bank n) h = refl
only_of (want.Rel at) facts (chunk.Auth bank n) h = refl
only_of (want.RmwAcq at) facts (chunk.Points r a share value) h = refl
only_of (want.RmwAcq at) facts (chunk.Init r a) h = refl
only_of (want.RmwAcq at) facts (chunk.Rel a inv args) h = refl
only_of (want.RmwAcq at) facts (chunk.Acq a inv args part out) h = refl
only_of (want.RmwAcq at) facts (chunk.RmwAcq a inv args) h = absurd cc
only_of (want.RmwAcq at) facts (chunk.Tok bank n) h = refl
only_of (want.RmwAcq at) facts (chunk.Auth bank n) h = refl
only_of (want.RelOf l) facts (chunk.Points r a share value) h = refl
only_of (want.RelOf l) facts (chunk.Init r a) h = refl
only_of (want.RelOf l) facts (chunk.Rel a inv args) h = absurd cc
only_of (want.RelOf l) facts (chunk.Acq a inv args part out) h = refl
only_of (want.RelOf l) facts (chunk.RmwAcq a inv args) h = refl
only_of (want.RelOf l) facts (chunk.Tok bank n) h = refl
only_of (want.RelOf l) facts (chunk.Auth bank n) h = refl
only_of (want.RmwOf l) facts (chunk.Points r a share value) h = refl
only_of (want.RmwOf l) facts (chunk.Init r a) h = refl
only_of (want.RmwOf l) facts (chunk.Rel a inv args) h = refl
only_of (want.RmwOf l) facts (chunk.Acq a inv args part out) h = refl
only_of (want.RmwOf l) facts (chunk.RmwAcq a inv args) h = absurd cc
only_of (want.RmwOf l) facts (chunk.Tok bank n) h = refl
only_of (want.RmwOf l) facts (chunk.Auth bank n) h = refl
only_of (want.AcqOf l p o) facts (chunk.Points r a share value) h = refl
only_of (want.AcqOf l p o) facts (chunk.Init r a) h = refl
only_of (want.AcqOf l p o) facts (chunk.Rel a inv args) h = refl
only_of (want.AcqOf l p o) facts (chunk.Acq a inv args part out) h = absurd cc
only_of (want.AcqOf l p o) facts (chunk.RmwAcq a inv args) h = refl
only_of (want.AcqOf l p o) facts (chunk.Tok bank n) h = refl
only_of (want.AcqOf l p o) facts (chunk.Auth bank n) h = refl
only_of (want.Tok g) facts (chunk.Points r a share value) h = refl
only_of (want.Tok g) facts (chunk.Init r a) h = refl
only_of (want.Tok g) facts (chunk.Rel a inv args) h = refl
only_of (want.Tok g) facts (chunk.Acq a inv args part out) h = refl
only_of (want.Tok g) facts (chunk.RmwAcq a inv args) h = refl
only_of (want.Tok g) facts (chunk.Tok bank n) h = absurd cc
only_of (want.Tok g) facts (chunk.Auth bank n) h = refl
only_of (want.Auth g) facts (chunk.Points r a share value) h = refl
only_of (want.Auth g) facts (chunk.Init r a) h = refl
only_of (want.Auth g) facts (chunk.Rel a inv args) h = refl
only_of (want.Auth g) facts (chunk.Acq a inv args part out) h = refl
only_of (want.Auth g) facts (chunk.RmwAcq a inv args) h = refl
only_of (want.Auth g) facts (chunk.Tok bank n) h = refl
only_of (want.Auth g) facts (chunk.Auth bank n) h = absurd cc

pub search_listed : (w : Want) (facts : List Fact) (cs : List Chunk)
    → first_in (fits w facts) cs (numbers_of (kind_sought w) (rung_sought w) cs) ≡ sought w facts cs
search_listed w facts cs =
    search_all (fits w facts) (is_of (kind_sought w) (rung_sought w)) [] cs 0 (only_of w facts) refl ∙ sym (sought_is w facts cs)

-- ---- numbers of items stand below the length of the list

below_or : (b : Bool) (n m k : ℕ) (ns : List ℕ) → k < length (if b then n ∷ ns else ns) → n < m
    → ((j : ℕ) → j < length ns → get_or ns j 0 < m) → get_or (if b then n ∷ ns else ns) k 0 < m
below_or true n m zero ns h l each = l
below_or true n m (suc k) ns h l each = each k (omega (arith, h))
below_or false n m k ns h l each = each k h

number_below : {C : Type 0} (test : C → Bool) (cs : List C) (n m k : ℕ) → n + length cs ≡ m → k < length (numbers_from n test cs)
    → get_or (numbers_from n test cs) k 0 < m
number_below test [] n m k e h = absurd (omega (arith, h))
number_below test (c ∷ cs) n m k e h =
    below_or (test c) n m k (numbers_from (n + 1) test cs) h (omega (arith, e)) (λ j l. number_below test cs (n + 1) m j (omega (arith, e)) l)

pub numbers_below : (kind : ChunkKind) (rung : Rung) (cs : List Chunk) (k : ℕ) → k < length (numbers_of kind rung cs) → get_or (numbers_of kind rung cs) k 0 < length cs
numbers_below kind rung cs k h = number_below (is_of kind rung) cs 0 (length cs) k (omega arith) h
