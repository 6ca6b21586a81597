-- A count that was found among the chunks, by its number.
use Rattle.std.proofs.Common.{◌≡◌, ℕ, Bool, true, false, List, [], ◌∷◌, ◌++◌, length, Option, Some, None, pos, slice_get, slice_set, IfSome, refl, sym, ap, ◌∙◌, append-nil}
use Rattle.std.specs.Option.{option_map}
use Rattle.fsl_asrt.specs.declared.counts.FoundCount.{FoundCount}
use Rattle.fsl_asrt.specs.Cells.{put_at}
use Rattle.fsl_asrt.specs.Counts.{count_of, counted_in, IsOf, IsCounted, IsCountedBy, allowed, joining, summed_to, more_at, fewer_at, taken_at}
use Rattle.fsl_asrt.proofs.Keeping.{followed_same, demand_kept, fitting_kept}
use Rattle.fsl_asrt.proofs.Laws.{followed_twice, followed_equal}
use Rattle.fsl_chunk.specs.Kind.{kind_of, rung_of}
use Rattle.fsl_chunk.specs.Fits.{found_number}
use Rattle.fsl_chunk.specs.declared.kind.ChunkKind.{ChunkKind}
use Rattle.fsl_chunk.specs.declared.kind.ChunkKind.TheVariants.{Tok, Auth}
use Rattle.fsl_chunk.proofs.FoundItems.{found_within, found_reads, put_found, taken_found}
use Rattle.fsl_core.specs.declared.chunk.Chunk.{Chunk}
use Rattle.fsl_core.specs.declared.chunk.Chunk.TheVariants as chunk
use Rattle.fsl_core.specs.declared.mode.Rung.TheVariants.{Plain}
use Rattle.fsl_core.specs.declared.verdict.Kind.TheVariants as kind
use Rattle.fsl_core.specs.logic.States.{State, goes, fails, Branches, Action, followed, ◌>>=◌, ◌>>◌, give}
use Rattle.fsl_core.specs.logic.Terms.{fitting}
use Rattle.fsl_core.specs.logic.Deciding.{proves_equal, proves_at_most, assume_at_most}
use Rattle.fsl_core.specs.logic.Chunks.{Count, Found, first, when, put, add, tokens_of, authority_of}
use Rattle.fsl_core.specs.logic.Joining.{nought, join_tokens}
use Rattle.fsl_core.specs.logic.Consuming.{demand_at_most, consume_tokens}
use Rattle.fsl_lin.specs.Combination.{Combination, plus, minus}
use Rattle.fsl_lin.specs.declared.fact.Fact.{Fact}

-- ---- the first count that fits

-- a chunk that is read as this count
pub record IsCount (kind : ChunkKind) (c : Chunk) (x : Count) : Type 0 where
  pub of : kind_of c ≡ kind
  pub stands : rung_of c ≡ Plain
  pub is : counted_in c ≡ Some x

abbrev pub ReadsCounts : ChunkKind → (Chunk → Option Count) → Type 0
ReadsCounts kind reads = (c : Chunk) (x : Count) → reads c ≡ Some x → IsCount kind c x

when_is : {X : Type 0} (test : Bool) (x y : X) → when test x ≡ Some y → Some x ≡ Some y
when_is true x y h = h
when_is false x y h = absurd cc

pub tokens_read : (g : Combination) (facts : List Fact) → ReadsCounts Tok (tokens_of g facts)
tokens_read g facts (chunk.Points r a k v) x h = absurd cc
tokens_read g facts (chunk.Init r a) x h = absurd cc
tokens_read g facts (chunk.Rel a i args) x h = absurd cc
tokens_read g facts (chunk.Acq a i args p out) x h = absurd cc
tokens_read g facts (chunk.RmwAcq a i args) x h = absurd cc
tokens_read g facts (chunk.Tok bank n) x h = record { of = refl; stands = refl; is = when_is (proves_equal facts bank g) (record { bank = bank; n = n }) x h }
tokens_read g facts (chunk.Auth bank n) x h = absurd cc

pub authority_read : (g : Combination) (facts : List Fact) → ReadsCounts Auth (authority_of g facts)
authority_read g facts (chunk.Points r a k v) x h = absurd cc
authority_read g facts (chunk.Init r a) x h = absurd cc
authority_read g facts (chunk.Rel a i args) x h = absurd cc
authority_read g facts (chunk.Acq a i args p out) x h = absurd cc
authority_read g facts (chunk.RmwAcq a i args) x h = absurd cc
authority_read g facts (chunk.Tok bank n) x h = absurd cc
authority_read g facts (chunk.Auth bank n) x h = record { of = refl; stands = refl; is = when_is (proves_equal facts bank g) (record { bank = bank; n = n }) x h }

found_by : (kind : ChunkKind) (reads : Chunk → Option Count) (cs : List Chunk) (n : ℕ) (ch : Chunk) (o : Option (Found Chunk Count)) (r : Option FoundCount)
    → ReadsCounts kind reads → first reads cs ≡ o → Some n ≡ found_number o → slice_get cs n ≡ Some ch
    → option_map count_of r ≡ counted_in ch → IfSome r (λ c. c.number ≡ n) → IsCountedBy kind cs o r
found_by kind reads cs n ch None r q e h g i k = absurd cc
found_by kind reads cs n ch (Some f) None q e h g i k =
    let l : n ≡ length f.before = cc in
    let x : IsCount kind ch f.is = q ch f.is (found_reads reads cs f ch e (rw (← l) g)) in
    let y : counted_in ch ≡ Some f.is = x.is in
    absurd cc
found_by kind reads cs n ch (Some f) (Some c) q e h g i k =
    let l : n ≡ length f.before = cc in
    let m : c.number ≡ length f.before = k ∙ l in
    let there : slice_get cs c.number ≡ Some ch = rw k g in
    let x : IsCount kind ch f.is = q ch f.is (found_reads reads cs f ch e (rw (← l) g)) in
    let y : counted_in ch ≡ Some f.is = x.is in
    record {
      is = cc;
      there = record { within = rw m (found_within reads cs f e); of = rw there (ap Some x.of); stands = rw there (ap Some x.stands) };
      put = λ by. rw m (put_found reads cs f by e);
      taken = rw m (taken_found reads cs f e);
    }

pub found_count : (kind : ChunkKind) (reads : Chunk → Option Count) (cs : List Chunk) (n : ℕ) (ch : Chunk) (r : Option FoundCount)
    → ReadsCounts kind reads → Some n ≡ found_number (first reads cs) → slice_get cs n ≡ Some ch
    → option_map count_of r ≡ counted_in ch → IfSome r (λ c. c.number ≡ n) → IsCountedBy kind cs (first reads cs) r
found_count kind reads cs n ch r q h g i k = found_by kind reads cs n ch (first reads cs) r q refl h g i k

none_by : (kind : ChunkKind) (cs : List Chunk) (o : Option (Found Chunk Count)) → None ≡ found_number o → IsCountedBy kind cs o None
none_by kind cs None h = tt
none_by kind cs (Some f) h = absurd cc

pub no_count : (kind : ChunkKind) (reads : Chunk → Option Count) (cs : List Chunk) → None ≡ found_number (first reads cs) → IsCountedBy kind cs (first reads cs) None
no_count kind reads cs h = none_by kind cs (first reads cs) h

pub there_by : (kind : ChunkKind) (cs : List Chunk) (o : Option (Found Chunk Count)) (c : FoundCount) → IsCountedBy kind cs o (Some c) → IsOf kind c.number cs
there_by kind cs None c i = absurd i
there_by kind cs (Some f) c i = i.there

-- the one that was found
pub record Finds (kind : ChunkKind) (cs : List Chunk) (o : Option (Found Chunk Count)) (c : FoundCount) : Type 0 where
  pub found : Found Chunk Count
  pub is : o ≡ Some found
  pub same : IsCounted kind cs found c

pub finds : (kind : ChunkKind) (cs : List Chunk) (o : Option (Found Chunk Count)) (c : FoundCount) → IsCountedBy kind cs o (Some c) → Finds kind cs o c
finds kind cs None c i = absurd i
finds kind cs (Some f) c i = record { found = f; is = refl; same = i }

pub finds_none : (kind : ChunkKind) (cs : List Chunk) (o : Option (Found Chunk Count)) → IsCountedBy kind cs o None → o ≡ None
finds_none kind cs None i = refl
finds_none kind cs (Some f) i = absurd i

-- ---- what the authority allows

allowed_at : (g sum : Combination) (s : State) (f : Found Chunk Count) → first (authority_of g s.facts) s.chunks ≡ Some f
    → allowed g sum s ≡ assume_at_most sum (pos 0) f.is.n s
allowed_at g sum s f h = rw h (append-nil (assume_at_most sum (pos 0) f.is.n s))

pub allowed_by : (g sum : Combination) (s : State) (a : FoundCount) → IsCountedBy Auth s.chunks (first (authority_of g s.facts) s.chunks) (Some a)
    → assume_at_most sum (pos 0) a.n s ≡ allowed g sum s
allowed_by g sum s a i =
    let f = finds Auth s.chunks (first (authority_of g s.facts) s.chunks) a i in
    ap (λ (x : Count). assume_at_most sum (pos 0) x.n s) f.same.is ∙ sym (allowed_at g sum s f.found f.is)

pub allowed_all : (g sum : Combination) (s : State) → IsCountedBy Auth s.chunks (first (authority_of g s.facts) s.chunks) None
    → goes tt s ∷ [] ≡ allowed g sum s
allowed_all g sum s i = rw (finds_none Auth s.chunks (first (authority_of g s.facts) s.chunks) i) refl

-- ---- tokens that join

after_join : (g k : Combination) (s : State) (o : Option (Found Chunk Count)) → first (tokens_of g s.facts) s.chunks ≡ o
    → joining g k s ≡ (join_tokens g k o >>= allowed g) s
after_join g k s o h = rw h (append-nil ((join_tokens g k o >>= allowed g) s))

pub joined_new : (g k : Combination) (s : State) → IsCountedBy Tok s.chunks (first (tokens_of g s.facts) s.chunks) None
    → (add (chunk.Tok g k) >> allowed g k) s ≡ joining g k s
joined_new g k s i =
    let e = after_join g k s None (finds_none Tok s.chunks (first (tokens_of g s.facts) s.chunks) i) in
    let t : (join_tokens g k None >>= allowed g) s ≡ followed (add (chunk.Tok g k) s) (λ _. give k >>= allowed g) =
    followed_twice (add (chunk.Tok g k) s) (λ _. give k) (allowed g) in
    let u : followed (add (chunk.Tok g k) s) (λ _. give k >>= allowed g) ≡ (add (chunk.Tok g k) >> allowed g k) s =
    followed_equal (add (chunk.Tok g k) s) (λ _. give k >>= allowed g) (λ _. allowed g k) (λ _ v. append-nil (allowed g k v)) in
    sym (e ∙ t ∙ u)

-- a sum in the place of a chunk
put_same : (s t : State) (f : Found Chunk Count) (c : FoundCount) (by : Chunk) → IsCounted Tok s.chunks f c
    → t.chunks ≡ s.chunks → put_at c.number by t ≡ put f by t
put_same s t f c by h e = ap (λ (cs : List Chunk). goes tt (record t { chunks = cs }) ∷ []) (rw e (h.put by))

-- the sum in its place, and what it may be
pub sum_put : (g sum : Combination) (c : FoundCount) (s t : State) (by : Chunk) → t ≡ record s { chunks = slice_set s.chunks c.number by }
    → by ≡ chunk.Tok c.bank sum → allowed g sum t ≡ summed_to g c sum s
sum_put g sum c s t by e h =
    let put : State = record s { chunks = slice_set s.chunks c.number (chunk.Tok c.bank sum) } in
    ap (λ (u : State). allowed g sum u) (e ∙ ap (λ (b : Chunk). record s { chunks = slice_set s.chunks c.number b }) h)
    ∙ sym (append-nil (allowed g sum put))

abbrev joined_by : (Chunk → Action) → Combination → Count → Combination → Action
joined_by puts g x k = do
  sum ← fitting (plus x.n k)
  puts (chunk.Tok x.bank sum)
  allowed g sum

joins : (g k : Combination) (f : Found Chunk Count) (s : State) → (join_tokens g k (Some f) >>= allowed g) s ≡ joined_by (put f) g f.is k s
joins g k f s =
    followed_twice (fitting (plus f.is.n k) s) (λ sum. put f (chunk.Tok f.is.bank sum) >> give sum) (allowed g)
    ∙ followed_equal (fitting (plus f.is.n k) s) (λ sum. (put f (chunk.Tok f.is.bank sum) >> give sum) >>= allowed g) (λ sum. put f (chunk.Tok f.is.bank sum) >> allowed g sum)
    (λ sum t. refl)

pub joined_more : (g k : Combination) (s : State) (c : FoundCount) → IsCountedBy Tok s.chunks (first (tokens_of g s.facts) s.chunks) (Some c)
    → more_at g c k s ≡ joining g k s
joined_more g k s c i =
    let f = finds Tok s.chunks (first (tokens_of g s.facts) s.chunks) c i in
    let a : joined_by (put_at c.number) g (count_of c) k s ≡ joined_by (put f.found) g (count_of c) k s =
    followed_same s (fitting (plus c.n k) s) _ _ (fitting_kept (plus c.n k) s) (λ sum t e.
    ap (λ (bs : Branches (Unit {0})). followed bs (λ _. allowed g sum)) (put_same s t f.found c (chunk.Tok c.bank sum) f.same e)) in
    a ∙ ap (λ (x : Count). joined_by (put f.found) g x k s) f.same.is
    ∙ sym (after_join g k s (Some f.found) f.is ∙ joins g k f.found s)

-- ---- tokens that are taken

abbrev rest_by : (Chunk → Action) → Count → Combination → Action
rest_by puts x k = do
  demand_at_most kind.Token k x.n
  r ← fitting (minus x.n k)
  puts (chunk.Tok x.bank r)

consumed_by : (g k : Combination) (s : State) (f : Found Chunk Count) → first (tokens_of g s.facts) s.chunks ≡ Some f
    → proves_at_most s.facts nought (pos 0) k ≡ true → consume_tokens g k s ≡ rest_by (put f) f.is k s
consumed_by g k s f h l = rw (l, h) (append-nil (rest_by (put f) f.is k s ++ []) ∙ append-nil (rest_by (put f) f.is k s))

-- what is left, put in the place of the chunk
rest_put : (s t : State) (f : Found Chunk Count) (c : FoundCount) (k : Combination) → IsCounted Tok s.chunks f c → t.chunks ≡ s.chunks
    → fewer_at c k t ≡ (fitting (minus c.n k) >>= (λ r. put f (chunk.Tok c.bank r))) t
rest_put s t f c k h e =
    followed_same t (fitting (minus c.n k) t) (λ r. put_at c.number (chunk.Tok c.bank r)) (λ r. put f (chunk.Tok c.bank r))
    (fitting_kept (minus c.n k) t) (λ r u m. put_same s u f c (chunk.Tok c.bank r) h (m ∙ e))

pub consumed_count : (g k : Combination) (s : State) (c : FoundCount) → IsCountedBy Tok s.chunks (first (tokens_of g s.facts) s.chunks) (Some c)
    → proves_at_most s.facts nought (pos 0) k ≡ true → taken_at c k s ≡ consume_tokens g k s
consumed_count g k s c i l =
    let f = finds Tok s.chunks (first (tokens_of g s.facts) s.chunks) c i in
    let a : taken_at c k s ≡ rest_by (put f.found) (count_of c) k s =
    followed_same s (demand_at_most kind.Token k c.n s) (λ _. fewer_at c k) (λ _. fitting (minus c.n k) >>= (λ r. put f.found (chunk.Tok c.bank r)))
    (demand_kept kind.Token (proves_at_most s.facts k (pos 0) c.n) s) (λ _ t e. rest_put s t f.found c k f.same e) in
    a ∙ ap (λ (x : Count). rest_by (put f.found) x k s) f.same.is ∙ sym (consumed_by g k s f.found f.is l)

pub too_few : (g k : Combination) (s : State) → IsCountedBy Tok s.chunks (first (tokens_of g s.facts) s.chunks) None
    → proves_at_most s.facts nought (pos 0) k ≡ true → fails kind.Token ∷ [] ≡ consume_tokens g k s
too_few g k s i l = rw (l, finds_none Tok s.chunks (first (tokens_of g s.facts) s.chunks) i) refl

pub not_counted : (g k : Combination) (s : State) → proves_at_most s.facts nought (pos 0) k ≡ false → fails kind.Token ∷ [] ≡ consume_tokens g k s
not_counted g k s l = rw l refl

pub enough : (c : FoundCount) (k : Combination) (s : State) → proves_at_most s.facts k (pos 0) c.n ≡ true → fewer_at c k s ≡ taken_at c k s
enough c k s h = rw h (sym (append-nil (fewer_at c k s)))

pub few : (c : FoundCount) (k : Combination) (s : State) → proves_at_most s.facts k (pos 0) c.n ≡ false → fails kind.Token ∷ [] ≡ taken_at c k s
few c k s h = rw h refl
