-- The authority over a bank: the tokens that it bounds, one chunk after the other.
use Rattle.std.proofs.Common.{◌≡◌, ◌≤◌, ℕ, zero, suc, ◌+◌, true, false, List, [], ◌∷◌, length, drop, Option, Some, None, pos, slice_get, remove, refl, sym, ap, ◌∙◌, append-nil, add-one}
use Rattle.std.proofs.Math.ListN.{drop_of_length-le}
use Rattle.fsl_asrt.specs.declared.counts.FoundCount.{FoundCount}
use Rattle.fsl_asrt.specs.Cells.{take_at}
use Rattle.fsl_asrt.specs.Counts.{IsCounted, IsCountedBy, bounding, sole, authority_taken}
use Rattle.fsl_asrt.proofs.Sought.{found_at, found_none}
use Rattle.fsl_asrt.proofs.CountsLemmas.{finds, finds_none}
use Rattle.fsl_asrt.proofs.Keeping.{AreKept, followed_same, goes_kept, demand_kept, at_most_kept}
use Rattle.fsl_asrt.proofs.Laws.{then_goes, then_infeasible, then_fails}
use Rattle.fsl_chunk.specs.Fits.{number_of}
use Rattle.fsl_chunk.specs.declared.kind.ChunkKind.TheVariants.{Auth}
use Rattle.fsl_core.specs.declared.chunk.Chunk.{Chunk}
use Rattle.fsl_core.specs.declared.chunk.Chunk.TheVariants as chunk
use Rattle.fsl_core.specs.declared.verdict.Kind.{Kind}
use Rattle.fsl_core.specs.declared.verdict.Kind.TheVariants as kind
use Rattle.fsl_core.specs.logic.States.{State, goes, fails, Branches, followed, ◌>>◌}
use Rattle.fsl_core.specs.logic.Deciding.{proves_equal, assume_at_most}
use Rattle.fsl_core.specs.logic.Chunks.{Count, Found, first, take, add, tokens_of, authority_of}
use Rattle.fsl_core.specs.logic.Joining.{nought, counted, assume_count, assume_counts, assume_alone}
use Rattle.fsl_core.specs.logic.Consuming.{demand_equal, consume_authority}
use Rattle.fsl_lin.specs.Combination.{Combination, constant}
use Rattle.fsl_lin.specs.declared.fact.Fact.{Fact}

-- ---- one authority

sole_by : (g n : Combination) (s : State) (o : Option (Found Chunk Count)) → first (authority_of g s.facts) s.chunks ≡ o
    → sole g n s ≡ (assume_alone o >> bounding g n) s
sole_by g n s o h = rw h (append-nil ((assume_alone o >> bounding g n) s))

pub second : (g n : Combination) (s : State) (k : ℕ) → Some k ≡ number_of (authority_of g) s.facts s.chunks
    → (assume_at_most (constant (pos 1)) (pos 0) nought >> bounding g n) s ≡ sole g n s
second g n s k h =
    let f = found_at k (first (authority_of g s.facts) s.chunks) h in
    sym (sole_by g n s (Some f.found) f.is)

pub only : (g n : Combination) (s : State) → None ≡ number_of (authority_of g) s.facts s.chunks → bounding g n s ≡ sole g n s
only g n s h =
    sym (sole_by g n s None (found_none (first (authority_of g s.facts) s.chunks) h) ∙ append-nil (bounding g n s))

-- ---- the tokens that are there

bounding_by : (g n : Combination) (s : State) → bounding g n s ≡ followed (assume_counts g n s.chunks s) (λ _. add (chunk.Auth g n))
bounding_by g n s = append-nil (followed (assume_counts g n s.chunks s) (λ _. add (chunk.Auth g n)))

pub bounded : (g n : Combination) (s t : State) → goes tt t ∷ [] ≡ assume_counts g n s.chunks s → add (chunk.Auth g n) t ≡ bounding g n s
bounded g n s t h = sym (bounding_by g n s ∙ then_goes (assume_counts g n s.chunks s) tt t (λ _. add (chunk.Auth g n)) h)

pub bounded_none : (g n : Combination) (s : State) → [] ≡ assume_counts g n s.chunks s → [] ≡ bounding g n s
bounded_none g n s h = sym (bounding_by g n s ∙ then_infeasible (assume_counts g n s.chunks s) (λ _. add (chunk.Auth g n)) h)

pub bounded_fails : (g n : Combination) (s : State) (kind : Kind) → fails kind ∷ [] ≡ assume_counts g n s.chunks s → fails kind ∷ [] ≡ bounding g n s
bounded_fails g n s kind h = sym (bounding_by g n s ∙ then_fails (assume_counts g n s.chunks s) (λ _. add (chunk.Auth g n)) kind h)

drop_next : {C : Type 0} (cs : List C) (i : ℕ) (c : C) → slice_get cs i ≡ Some c → drop i cs ≡ c ∷ drop (suc i) cs
drop_next [] i c h = absurd cc
drop_next (d ∷ ds) zero c h = let e : d ≡ c = cc in ap (λ x. x ∷ ds) e
drop_next (d ∷ ds) (suc i) c h = drop_next ds i c h

drop_at : {C : Type 0} (cs : List C) (i : ℕ) (c : C) → slice_get cs i ≡ Some c → drop i cs ≡ c ∷ drop (i + 1) cs
drop_at cs i c h = rw add-one (drop_next cs i c h)

count_kept : (k : Option Combination) (n : Combination) (s : State) → AreKept s (assume_count k (Some n) s)
count_kept None n s = (refl, tt)
count_kept (Some k) n s = at_most_kept k (pos 0) n s

counts_step : (g n : Combination) (c : Chunk) (cs : List Chunk) (s : State)
    → assume_counts g n (c ∷ cs) s ≡ followed (assume_count (counted (tokens_of g s.facts c)) (Some n) s) (λ _. assume_counts g n cs)
counts_step g n c cs s = append-nil (followed (assume_count (counted (tokens_of g s.facts c)) (Some n) s) (λ _. assume_counts g n cs))

-- the chunks behind one, from the state that it leaves
pub counted_on : (g n : Combination) (cs : List Chunk) (i : ℕ) (c : Chunk) (s t : State) (whole : Branches (Unit {0})) → slice_get cs i ≡ Some c
    → goes tt t ∷ [] ≡ assume_count (counted (tokens_of g s.facts c)) (Some n) s → assume_counts g n (drop i cs) s ≡ whole
    → assume_counts g n (drop (i + 1) cs) t ≡ whole
counted_on g n cs i c s t whole h k so =
    sym (then_goes (assume_count (counted (tokens_of g s.facts c)) (Some n) s) tt t (λ _. assume_counts g n (drop (i + 1) cs)) k)
    ∙ sym (counts_step g n c (drop (i + 1) cs) s) ∙ ap (λ xs. assume_counts g n xs s) (sym (drop_at cs i c h)) ∙ so

pub counted_kept : (k : Option Combination) (n : Combination) (s t : State) → goes tt t ∷ [] ≡ assume_count k (Some n) s → t.chunks ≡ s.chunks
counted_kept k n s t h = goes_kept s (assume_count k (Some n) s) tt t (count_kept k n s) h

pub counted_none : (g n : Combination) (cs : List Chunk) (i : ℕ) (c : Chunk) (s : State) (whole : Branches (Unit {0})) → slice_get cs i ≡ Some c
    → [] ≡ assume_count (counted (tokens_of g s.facts c)) (Some n) s → assume_counts g n (drop i cs) s ≡ whole → [] ≡ whole
counted_none g n cs i c s whole h k so =
    sym (then_infeasible (assume_count (counted (tokens_of g s.facts c)) (Some n) s) (λ _. assume_counts g n (drop (i + 1) cs)) k)
    ∙ sym (counts_step g n c (drop (i + 1) cs) s) ∙ ap (λ xs. assume_counts g n xs s) (sym (drop_at cs i c h)) ∙ so

pub counted_fails : (g n : Combination) (cs : List Chunk) (i : ℕ) (c : Chunk) (s : State) (kind : Kind) (whole : Branches (Unit {0})) → slice_get cs i ≡ Some c
    → fails kind ∷ [] ≡ assume_count (counted (tokens_of g s.facts c)) (Some n) s → assume_counts g n (drop i cs) s ≡ whole → fails kind ∷ [] ≡ whole
counted_fails g n cs i c s kind whole h k so =
    sym (then_fails (assume_count (counted (tokens_of g s.facts c)) (Some n) s) (λ _. assume_counts g n (drop (i + 1) cs)) kind k)
    ∙ sym (counts_step g n c (drop (i + 1) cs) s) ∙ ap (λ xs. assume_counts g n xs s) (sym (drop_at cs i c h)) ∙ so

pub counted_all : (g n : Combination) (cs : List Chunk) (i : ℕ) (s : State) (whole : Branches (Unit {0})) → length cs ≤ i
    → assume_counts g n (drop i cs) s ≡ whole → goes tt s ∷ [] ≡ whole
counted_all g n cs i s whole past so = ap (λ xs. assume_counts g n xs s) (sym (drop_of_length-le cs past)) ∙ so

-- ---- an authority that is taken

consumed_by : (g n : Combination) (s : State) (f : Found Chunk Count) → first (authority_of g s.facts) s.chunks ≡ Some f
    → consume_authority g n s ≡ (demand_equal kind.Token f.is.n n >> take f) s
consumed_by g n s f h = rw h (append-nil ((demand_equal kind.Token f.is.n n >> take f) s))

taken_same : (s t : State) (f : Found Chunk Count) (a : FoundCount) → IsCounted Auth s.chunks f a → t.chunks ≡ s.chunks → take_at a.number t ≡ take f t
taken_same s t f a h e = ap (λ (cs : List Chunk). goes tt (record t { chunks = cs }) ∷ []) (rw e h.taken)

pub taken_authority : (g n : Combination) (s : State) (a : FoundCount) → IsCountedBy Auth s.chunks (first (authority_of g s.facts) s.chunks) (Some a)
    → (demand_equal kind.Token a.n n >> take_at a.number) s ≡ consume_authority g n s
taken_authority g n s a i =
    let f = finds Auth s.chunks (first (authority_of g s.facts) s.chunks) a i in
    followed_same s (demand_equal kind.Token a.n n s) _ _ (demand_kept kind.Token (proves_equal s.facts a.n n) s) (λ _ t e. taken_same s t f.found a f.same e)
    ∙ ap (λ (x : Count). (demand_equal kind.Token x.n n >> take f.found) s) f.same.is ∙ sym (consumed_by g n s f.found f.is)

pub no_authority : (g n : Combination) (s : State) → IsCountedBy Auth s.chunks (first (authority_of g s.facts) s.chunks) None
    → fails kind.Token ∷ [] ≡ consume_authority g n s
no_authority g n s i = rw (finds_none Auth s.chunks (first (authority_of g s.facts) s.chunks) i) refl

pub allows : (a : FoundCount) (n : Combination) (s t : State) → proves_equal s.facts a.n n ≡ true → t ≡ record s { chunks = remove s.chunks a.number }
    → goes tt t ∷ [] ≡ authority_taken a n s
allows a n s t h e = rw (h, e) refl

pub allows_other : (a : FoundCount) (n : Combination) (s : State) → proves_equal s.facts a.n n ≡ false → fails kind.Token ∷ [] ≡ authority_taken a n s
allows_other a n s h = rw h refl

-- ---- what a chunk holds of a bank

pub held_some : (g bank n : Combination) (facts : List Fact) (c : Chunk) → c ≡ chunk.Tok bank n → proves_equal facts bank g ≡ true
    → Some n ≡ counted (tokens_of g facts c)
held_some g bank n facts c h k = rw (h, k) refl

pub held_none : (g bank n : Combination) (facts : List Fact) (c : Chunk) → c ≡ chunk.Tok bank n → proves_equal facts bank g ≡ false
    → None ≡ counted (tokens_of g facts c)
held_none g bank n facts c h k = rw (h, k) refl
