-- Chunks of locations that are looked for.
use Rattle.std.proofs.Common.{◌≡◌, ℕ, Bool, true, false, List, [], ◌∷◌, length, slice_get, Option, Some, None, refl, ap, ◌∙◌, append-nil}
use Rattle.std.specs.Prelude.{is_some}
use Rattle.fsl_core.specs.declared.chunk.Chunk.{Chunk}
use Rattle.fsl_core.specs.declared.chunk.Chunk.TheVariants as chunk
use Rattle.fsl_core.specs.declared.verdict.Kind.{Kind}
use Rattle.fsl_core.specs.logic.States.{State, fails, Rule, Branches, followed, ◌>>=◌, demand_some}
use Rattle.fsl_core.specs.logic.Chunks.{Found, Reading, Leave, leave, first, find_or, when, rel_at}
use Rattle.fsl_core.specs.logic.Deciding.{proves_equal}
use Rattle.fsl_lin.specs.Combination.{Combination}
use Rattle.fsl_lin.specs.declared.fact.Fact.{Fact}
use Rattle.fsl_asrt.proofs.Laws.{got, lacked}
use Rattle.fsl_chunk.specs.Fits.{found_number}
use Rattle.fsl_chunk.proofs.FoundItems.{found_reads}
use Rattle.fsl_access.specs.Location.{rel_in, what_is}

-- ---- what is found, and what is done with it

sought : {X Y : Type 0} (k : Kind) (reads : Reading X) (s : State) (after : X → Rule Y)
    → (find_or k reads >>= (λ f. after f.is)) s ≡ followed (demand_some k (first (reads s.facts) s.chunks) s) (λ f. after f.is)
sought {X = X} k reads s after =
    ap (λ (bs : Branches (Found Chunk X)). followed bs (λ f. after f.is)) (append-nil (demand_some k (first (reads s.facts) s.chunks) s))

some_by : {X Y : Type 0} (k : Kind) (s : State) (after : X → Rule Y) (x : X) (o p : Option (Found Chunk X)) → o ≡ p → Some x ≡ what_is p
    → followed (demand_some k o s) (λ f. after f.is) ≡ after x s
some_by k s after x o None e h = absurd cc
some_by k s after x o (Some f) e h =
    let same : f.is ≡ x = cc in
    got k o f s (λ g. after g.is) e ∙ ap (λ y. after y s) same

pub found_some : {X Y : Type 0} (k : Kind) (reads : Reading X) (s : State) (after : X → Rule Y) (x : X) → Some x ≡ what_is (first (reads s.facts) s.chunks)
    → (find_or k reads >>= (λ f. after f.is)) s ≡ after x s
found_some k reads s after x h =
    sought k reads s after ∙ some_by k s after x (first (reads s.facts) s.chunks) (first (reads s.facts) s.chunks) refl h

none_by : {X Y : Type 0} (k : Kind) (s : State) (after : X → Rule Y) (o p : Option (Found Chunk X)) → o ≡ p → None ≡ what_is p
    → followed (demand_some k o s) (λ f. after f.is) ≡ fails k ∷ []
none_by k s after o None e h = lacked k o s (λ f. after f.is) e
none_by k s after o (Some f) e h = absurd cc

pub found_none : {X Y : Type 0} (k : Kind) (reads : Reading X) (s : State) (after : X → Rule Y) → None ≡ what_is (first (reads s.facts) s.chunks)
    → (find_or k reads >>= (λ f. after f.is)) s ≡ fails k ∷ []
found_none k reads s after h =
    sought k reads s after ∙ none_by k s after (first (reads s.facts) s.chunks) (first (reads s.facts) s.chunks) refl h

-- ---- by the number of a chunk

pub when_is : {X : Type 0} (test : Bool) (x y : X) → when test x ≡ Some y → x ≡ y
when_is true x y h = cc
when_is false x y h = absurd cc

pub rel_reads : (at : Combination) (facts : List Fact) (c : Chunk) (x : Leave) → rel_at at facts c ≡ Some x → rel_in c ≡ Some x
rel_reads at facts (chunk.Points r a k v) x h = absurd cc
rel_reads at facts (chunk.Init r a) x h = absurd cc
rel_reads at facts (chunk.Rel a i args) x h = ap Some (when_is (proves_equal facts a at) (leave a i args) x h)
rel_reads at facts (chunk.Acq a i args p out) x h = absurd cc
rel_reads at facts (chunk.RmwAcq a i args) x h = absurd cc
rel_reads at facts (chunk.Tok g n) x h = absurd cc
rel_reads at facts (chunk.Auth g n) x h = absurd cc

number_by : {X : Type 0} (reads inside : Chunk → Option X) (cs : List Chunk) (n : ℕ) (ch : Chunk) (o : Option (Found Chunk X))
    → ((c : Chunk) (x : X) → reads c ≡ Some x → inside c ≡ Some x) → first reads cs ≡ o → Some n ≡ found_number o → slice_get cs n ≡ Some ch
    → inside ch ≡ what_is o
number_by reads inside cs n ch None q e h g = absurd cc
number_by reads inside cs n ch (Some f) q e h g =
    let l : n ≡ length f.before = cc in
    q ch f.is (found_reads reads cs f ch e (rw (← l) g))

pub found_at : {X : Type 0} (reads inside : Chunk → Option X) (cs : List Chunk) (n : ℕ) (ch : Chunk)
    → ((c : Chunk) (x : X) → reads c ≡ Some x → inside c ≡ Some x) → Some n ≡ found_number (first reads cs) → slice_get cs n ≡ Some ch
    → inside ch ≡ what_is (first reads cs)
found_at reads inside cs n ch q h g = number_by reads inside cs n ch (first reads cs) q refl h g

nowhere_by : {X : Type 0} (o : Option (Found Chunk X)) → None ≡ found_number o → None ≡ what_is o
nowhere_by None h = refl
nowhere_by (Some f) h = absurd cc

pub nowhere : {X : Type 0} (reads : Chunk → Option X) (cs : List Chunk) → None ≡ found_number (first reads cs) → None ≡ what_is (first reads cs)
nowhere reads cs h = nowhere_by (first reads cs) h

-- ---- a location that has been written

pub number_found : {X : Type 0} (reads : Chunk → Option X) (cs : List Chunk) → is_some (found_number (first reads cs)) ≡ is_some (first reads cs)
number_found {X = X} reads cs = by (first reads cs)
  where
    by : (o : Option (Found Chunk X)) → is_some (found_number o) ≡ is_some o
    by None = refl
    by (Some f) = refl
