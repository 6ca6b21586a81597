-- Rules that look for a chunk, by the number of the first one that fits. They are no file's of `src/` alone.
use Rattle.std.proofs.Common.{◌≡◌, ℕ, [], ◌∷◌, ◌++◌, Option, Some, None, remove, refl, sym, ap, ◌∙◌, append-nil}
use Rattle.fsl_asrt.specs.Cells.{take_at}
use Rattle.fsl_chunk.specs.Fits.{found_number, number_of}
use Rattle.fsl_chunk.proofs.FoundItems.{taken_found}
use Rattle.fsl_core.specs.declared.chunk.Chunk.{Chunk}
use Rattle.fsl_core.specs.declared.verdict.Kind.{Kind}
use Rattle.fsl_core.specs.logic.States.{State, goes, fails, Rule, followed, ◌>>=◌, ◌>>◌, give}
use Rattle.fsl_core.specs.logic.Chunks.{Found, Reading, first, find, find_or, take, add}
use Rattle.fsl_core.specs.logic.Joining.{add_once}

-- the item of a number
pub record Numbered {C X : Type 0} (n : ℕ) (o : Option (Found C X)) : Type 0 where
  pub found : Found C X
  pub is : o ≡ Some found

pub found_at : {C X : Type 0} (n : ℕ) (o : Option (Found C X)) → Some n ≡ found_number o → Numbered n o
found_at n None h = absurd cc
found_at n (Some f) h = record { found = f; is = refl }

pub found_none : {C X : Type 0} (o : Option (Found C X)) → None ≡ found_number o → o ≡ None
found_none None h = refl
found_none (Some f) h = absurd cc

-- ---- a chunk that is added once

once_some : {X : Type 0} (c : Chunk) (o : Option X) (x : X) (s : State) → o ≡ Some x → followed (goes o s ∷ []) (add_once c) ≡ goes tt s ∷ []
once_some c o x s h = rw h refl

once_none : {X : Type 0} (c : Chunk) (o : Option X) (s : State) → o ≡ None → followed (goes o s ∷ []) (add_once c) ≡ add c s
once_none c o s h = rw h (append-nil (add c s))

pub stays : {X : Type 0} (reads : Reading X) (c : Chunk) (s : State) (n : ℕ) → Some n ≡ number_of reads s.facts s.chunks
    → goes tt s ∷ [] ≡ (find reads >>= add_once c) s
stays reads c s n h =
    let f = found_at n (first (reads s.facts) s.chunks) h in
    sym (once_some c (first (reads s.facts) s.chunks) f.found s f.is)

pub is_added : {X : Type 0} (reads : Reading X) (c : Chunk) (s : State) → None ≡ number_of reads s.facts s.chunks
    → add c s ≡ (find reads >>= add_once c) s
is_added reads c s h = sym (once_none c (first (reads s.facts) s.chunks) s (found_none (first (reads s.facts) s.chunks) h))

-- ---- a chunk that has to be there

sought_some : {X Y : Type 0} (kind : Kind) (reads : Reading X) (s : State) (f : Found Chunk X) (after : Found Chunk X → Rule Y)
    → first (reads s.facts) s.chunks ≡ Some f → (find_or kind reads >>= after) s ≡ after f s
sought_some kind reads s f after h = rw h (append-nil (after f s))

sought_none : {X Y : Type 0} (kind : Kind) (reads : Reading X) (s : State) (after : Found Chunk X → Rule Y)
    → first (reads s.facts) s.chunks ≡ None → (find_or kind reads >>= after) s ≡ fails kind ∷ []
sought_none kind reads s after h = rw h refl

pub is_there : {X Y : Type 0} (kind : Kind) (reads : Reading X) (s : State) (n : ℕ) (y : Y) → Some n ≡ number_of reads s.facts s.chunks
    → goes y s ∷ [] ≡ (find_or kind reads >> give y) s
is_there kind reads s n y h =
    let f = found_at n (first (reads s.facts) s.chunks) h in
    sym (sought_some kind reads s f.found (λ _. give y) f.is)

pub is_missing : {X Y : Type 0} (kind : Kind) (reads : Reading X) (s : State) (after : Found Chunk X → Rule Y) → None ≡ number_of reads s.facts s.chunks
    → fails kind ∷ [] ≡ (find_or kind reads >>= after) s
is_missing kind reads s after h =
    sym (sought_none kind reads s after (found_none (first (reads s.facts) s.chunks) h))

-- it is taken out
taken_by : {X : Type 0} (reads : Reading X) (s : State) (n : ℕ) (f : Found Chunk X) → first (reads s.facts) s.chunks ≡ Some f → Some n ≡ found_number (first (reads s.facts) s.chunks)
    → remove s.chunks n ≡ f.before ++ f.behind
taken_by reads s n f h k =
    let l : Some n ≡ found_number (Some f) = rw h at k in
    let m = taken_found (reads s.facts) s.chunks f h in
    cc

pub is_taken : {X Y : Type 0} (kind : Kind) (reads : Reading X) (s : State) (n : ℕ) (y : Y) → Some n ≡ number_of reads s.facts s.chunks
    → (take_at n >> give y) s ≡ (find_or kind reads >>= (λ f. take f >> give y)) s
is_taken kind reads s n y h =
    let f = found_at n (first (reads s.facts) s.chunks) h in
    ap (λ cs. goes y (record s { chunks = cs }) ∷ []) (taken_by reads s n f.found f.is h)
    ∙ sym (sought_some kind reads s f.found (λ f. take f >> give y) f.is)
