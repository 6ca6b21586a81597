-- Fences, by parts of the rule.
use Rattle.std.proofs.Common.{arith, ◌≡◌, ◌≤◌, ◌<◌, ℕ, zero, suc, ◌+◌, ◌-◌, Bool, true, false, not, filter, List, [], ◌∷◌, ◌++◌, map, take, drop, length, remove, slice_get, Some, refl, sym, ap, ◌∙◌, append_assoc, append-nil}
use Rattle.std.proofs.Math.ListN.{drop_of_length-le}
use Rattle.std.proofs.lemmas.List.Edits.{length-remove}
use Rattle.fsl_core.specs.declared.chunk.Chunk.{Chunk}
use Rattle.fsl_core.specs.declared.mode.Rung.TheVariants.{Plain, Up, Down}
use Rattle.fsl_core.specs.declared.verdict.Kind.{Kind}
use Rattle.fsl_core.specs.declared.verdict.Mood.TheVariants as mood
use Rattle.fsl_core.specs.logic.States.{Env, State, goes, fails, Branches, followed, ◌>>◌, done}
use Rattle.fsl_core.specs.logic.Assertions.{Assertion}
use Rattle.fsl_core.specs.logic.Joining.{at_rung, produce_chunk, produce_chunks}
use Rattle.fsl_core.specs.logic.Fences.{is_at, acquire, release}
use Rattle.fsl_asrt.proofs.Laws.{from_here, then_goes, then_infeasible, then_fails}
use Rattle.fsl_access.proofs.PiecesLemmas.{dropped}
use Rattle.fsl_access.specs.Fences.{part_produced}

-- ---- chunks that are taken out

-- those before n that stay, with those that stay of the others
abbrev pub staying : {X : Type 0} → (X → Bool) → ℕ → List X → List X
staying test n xs = take n xs ++ filter (λ x. not (test x)) (drop n xs)

pub item_gone : {X : Type 0} (test : X → Bool) (n : ℕ) (xs : List X) (x : X) → slice_get xs n ≡ Some x → test x ≡ true
    → staying test n (remove xs n) ≡ staying test n xs
item_gone test n [] x h k = absurd cc
item_gone test zero (y ∷ ys) x h k = let same : x ≡ y = cc in rw (← same, k) refl
item_gone test (suc n) (y ∷ ys) x h k = ap (λ zs. y ∷ zs) (item_gone test n ys x h k)

pub item_stays : {X : Type 0} (test : X → Bool) (n : ℕ) (xs : List X) (x : X) → slice_get xs n ≡ Some x → test x ≡ false
    → staying test (suc n) xs ≡ staying test n xs
item_stays test n [] x h k = absurd cc
item_stays test zero (y ∷ ys) x h k = let same : x ≡ y = cc in rw (← same, k) refl
item_stays test (suc n) (y ∷ ys) x h k = ap (λ zs. y ∷ zs) (item_stays test n ys x h k)

pub item_taken : {X : Type 0} (test : X → Bool) (n : ℕ) (xs : List X) (x : X) → slice_get xs n ≡ Some x → test x ≡ true
    → filter test (drop n xs) ≡ x ∷ filter test (drop n (remove xs n))
item_taken test n [] x h k = absurd cc
item_taken test zero (y ∷ ys) x h k = let same : x ≡ y = cc in rw (← same, k) refl
item_taken test (suc n) (y ∷ ys) x h k = item_taken test n ys x h k

pub item_left : {X : Type 0} (test : X → Bool) (n : ℕ) (xs : List X) (x : X) → slice_get xs n ≡ Some x → test x ≡ false
    → filter test (drop n xs) ≡ filter test (drop (suc n) xs)
item_left test n [] x h k = absurd cc
item_left test zero (y ∷ ys) x h k = let same : x ≡ y = cc in rw (← same, k) refl
item_left test (suc n) (y ∷ ys) x h k = item_left test n ys x h k

pub kept_end : {X : Type 0} (test : X → Bool) (n : ℕ) (xs : List X) → length xs ≤ n → staying test n xs ≡ xs
kept_end test zero [] h = refl
kept_end test (suc n) [] h = refl
kept_end test zero (y ∷ ys) h = absurd (omega arith)
kept_end test (suc n) (y ∷ ys) h = ap (λ zs. y ∷ zs) (kept_end test n ys (omega arith))

pub taken_end : {X Y : Type 0} (f : X → Y) (test : X → Bool) (n : ℕ) (xs : List X) (out : List Y) → length xs ≤ n
    → out ++ map f (filter test (drop n xs)) ≡ out
taken_end f test n xs out h = ap (λ ys. out ++ map f (filter test ys)) (drop_of_length-le xs h) ∙ append-nil out

-- one more is taken
pub one_taken : {X Y : Type 0} (f : X → Y) (test : X → Bool) (n : ℕ) (xs : List X) (x : X) (out more : List Y) (whole : List Y) → slice_get xs n ≡ Some x → test x ≡ true
    → more ≡ out ++ f x ∷ [] → out ++ map f (filter test (drop n xs)) ≡ whole → more ++ map f (filter test (drop n (remove xs n))) ≡ whole
one_taken f test n xs x out more whole h k e so =
    let rest = map f (filter test (drop n (remove xs n))) in
    ap (λ ys. ys ++ rest) e ∙ append_assoc out (f x ∷ []) rest
    ∙ ap (λ ys. out ++ map f ys) (sym (item_taken test n xs x h k)) ∙ so

-- fewer are left
pub fewer : {X : Type 0} (n : ℕ) (xs ys : List X) → n < length xs → ys ≡ remove xs n → length ys - n < length xs - n
fewer n xs ys below h =
    let k : length (remove xs n) + 1 ≡ length xs = length-remove xs n below in
    let l : length ys ≡ length (remove xs n) = ap length h in
    omega (arith, below, k, l)

-- nothing else changes
pub still_rest : (s t u : State) (cs : List Chunk) → t ≡ record s { chunks = t.chunks } → u ≡ record t { chunks = cs } → u ≡ record s { chunks = u.chunks }
still_rest s t u cs h k = k ∙ ap (λ (x : State). record x { chunks = cs }) h ∙ sym (ap (λ (x : State). record s { chunks = x.chunks }) k)

-- ---- an acquire fence

pub acquired : (s : State) → acquire s ≡ produce_chunks (map (at_rung Plain) (filter (is_at Down) s.chunks)) (record s { chunks = filter (λ c. not (is_at Down c)) s.chunks })
acquired s = append-nil (produce_chunks (map (at_rung Plain) (filter (is_at Down) s.chunks)) (record s { chunks = filter (λ c. not (is_at Down c)) s.chunks }))

pub chunks_more : (c : Chunk) (cs : List Chunk) (s t : State) (whole : Branches (Unit {0})) → goes tt t ∷ [] ≡ produce_chunk c s
    → produce_chunks (c ∷ cs) s ≡ whole → produce_chunks cs t ≡ whole
chunks_more c cs s t whole h so = sym (then_goes (produce_chunk c s) tt t (λ _. produce_chunks cs) h) ∙ so

pub chunks_infeasible : (c : Chunk) (cs : List Chunk) (s : State) (whole : Branches (Unit {0})) → [] ≡ produce_chunk c s
    → produce_chunks (c ∷ cs) s ≡ whole → [] ≡ whole
chunks_infeasible c cs s whole h so = sym (then_infeasible (produce_chunk c s) (λ _. produce_chunks cs) h) ∙ so

pub chunks_fail : (c : Chunk) (cs : List Chunk) (s : State) (k : Kind) (whole : Branches (Unit {0})) → fails k ∷ [] ≡ produce_chunk c s
    → produce_chunks (c ∷ cs) s ≡ whole → fails k ∷ [] ≡ whole
chunks_fail c cs s k whole h so = sym (then_fails (produce_chunk c s) (λ _. produce_chunks cs) k h) ∙ so

-- ---- a release fence

released : (a : Assertion) (s : State)
    → release a s ≡ followed (followed (a.consume mood.Cond Plain s.env s) (λ _. done)) (λ _. part_produced Up s.env a)
released a s =
    from_here (λ env. a.consume mood.Cond Plain env >> part_produced Up env a) s
    ∙ sym (dropped (a.consume mood.Cond Plain s.env s) (part_produced Up s.env a))

pub released_by : (a : Assertion) (s : State) (env own : Env) (given : Branches Env) (before : Branches (Unit {0})) → env ≡ s.env → own ≡ env
    → given ≡ a.consume mood.Cond Plain own s → before ≡ followed given (λ _. done) → followed before (λ _. part_produced Up env a) ≡ release a s
released_by a s env own given before h k l m =
    ap (λ (bs : Branches (Unit {0})). followed bs (λ _. part_produced Up env a))
    (m ∙ ap (λ (bs : Branches Env). followed bs (λ _. done)) (l ∙ ap (λ (e : Env). a.consume mood.Cond Plain e s) (k ∙ h)))
    ∙ ap (λ (e : Env). followed (followed (a.consume mood.Cond Plain s.env s) (λ _. done)) (λ _. part_produced Up e a)) h
    ∙ sym (released a s)
