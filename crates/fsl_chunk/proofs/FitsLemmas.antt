-- Whether a chunk reads as something, by what is asked of it.
use Rattle.std.proofs.Common.{◌≡◌, ◌==◌, Bool, true, false, ◌&&◌, List, Option, pos}
use Rattle.std.specs.Prelude.{is_some, ℕ}
use Rattle.fsl_core.specs.declared.chunk.Chunk.{Chunk}
use Rattle.fsl_core.specs.declared.chunk.Chunk.TheVariants as chunk
use Rattle.fsl_core.specs.declared.mode.Rung.{Rung}
use Rattle.fsl_core.specs.logic.Chunks.{when, same_rung, Leave, Permission, leave, same_leave, cell_at, enough_at, init_at, rel_at, rmw_at, rel_of, rmw_of, tokens_of, authority_of}
use Rattle.fsl_core.specs.logic.Consuming.{excludes_no_more, permission_of}
use Rattle.fsl_core.specs.logic.Deciding.{proves_equal, proves_at_most}
use Rattle.fsl_lin.specs.Combination.{Combination}
use Rattle.fsl_lin.specs.declared.fact.Fact.{Fact}

reads_where : {X : Type 0} (x : X) (answer test : Bool) → answer ≡ test → answer ≡ is_some (when test x)
reads_where x answer true h = h
reads_where x answer false h = h

pub cell_reads : (rung : Rung) (at : Combination) (r : Rung) (a share : Combination) (value : Option Combination) (facts : List Fact) (c : Chunk) (answer : Bool) → c ≡ chunk.Points r a share value
    → answer ≡ (same_rung r rung && proves_equal facts a at) → answer ≡ is_some (cell_at rung at facts c)
cell_reads rung at r a share value facts c answer e h = rw e (reads_where (record { at = a; share = share; value = value }) answer (same_rung r rung && proves_equal facts a at) h)

pub enough_reads : (rung : Rung) (at k : Combination) (r : Rung) (a share : Combination) (value : Option Combination) (facts : List Fact) (c : Chunk) (answer : Bool) → c ≡ chunk.Points r a share value
    → answer ≡ (same_rung r rung && (proves_equal facts a at && proves_at_most facts k (pos 0) share)) → answer ≡ is_some (enough_at rung at k facts c)
enough_reads rung at k r a share value facts c answer e h = rw e (reads_where (record { at = a; share = share; value = value }) answer (same_rung r rung && (proves_equal facts a at && proves_at_most facts k (pos 0) share)) h)

pub init_reads : (rung : Rung) (at : Combination) (r : Rung) (a : Combination) (facts : List Fact) (c : Chunk) (answer : Bool) → c ≡ chunk.Init r a
    → answer ≡ (same_rung r rung && proves_equal facts a at) → answer ≡ is_some (init_at rung at facts c)
init_reads rung at r a facts c answer e h = rw e (reads_where (a) answer (same_rung r rung && proves_equal facts a at) h)

pub rel_reads : (at a : Combination) (inv : ℕ) (args : List Combination) (facts : List Fact) (c : Chunk) (answer : Bool) → c ≡ chunk.Rel a inv args
    → answer ≡ (proves_equal facts a at) → answer ≡ is_some (rel_at at facts c)
rel_reads at a inv args facts c answer e h = rw e (reads_where (leave a inv args) answer (proves_equal facts a at) h)

pub rmw_reads : (at a : Combination) (inv : ℕ) (args : List Combination) (facts : List Fact) (c : Chunk) (answer : Bool) → c ≡ chunk.RmwAcq a inv args
    → answer ≡ (proves_equal facts a at) → answer ≡ is_some (rmw_at at facts c)
rmw_reads at a inv args facts c answer e h = rw e (reads_where (leave a inv args) answer (proves_equal facts a at) h)

pub rel_of_reads : (l : Leave) (a : Combination) (inv : ℕ) (args : List Combination) (facts : List Fact) (c : Chunk) (answer : Bool) → c ≡ chunk.Rel a inv args
    → answer ≡ same_leave facts (leave a inv args) l → answer ≡ is_some (rel_of l facts c)
rel_of_reads l a inv args facts c answer e h = rw e (reads_where (leave a inv args) answer (same_leave facts (leave a inv args) l) h)

pub rmw_of_reads : (l : Leave) (a : Combination) (inv : ℕ) (args : List Combination) (facts : List Fact) (c : Chunk) (answer : Bool) → c ≡ chunk.RmwAcq a inv args
    → answer ≡ same_leave facts (leave a inv args) l → answer ≡ is_some (rmw_of l facts c)
rmw_of_reads l a inv args facts c answer e h = rw e (reads_where (leave a inv args) answer (same_leave facts (leave a inv args) l) h)

pub permission_reads : (p : Permission) (a : Combination) (inv : ℕ) (args : List Combination) (part : ℕ) (out : List Combination) (facts : List Fact) (c : Chunk) (answer : Bool)
    → c ≡ chunk.Acq a inv args part out
    → answer ≡ (same_leave facts (leave a inv args) p.leave && (part == p.part && excludes_no_more facts out p.out)) → answer ≡ is_some (permission_of p facts c)
permission_reads p a inv args part out facts c answer e h =
    rw e (reads_where (record { leave = leave a inv args; part = part; out = out }) answer
    (same_leave facts (leave a inv args) p.leave && (part == p.part && excludes_no_more facts out p.out)) h)

pub tokens_read : (g bank n : Combination) (facts : List Fact) (c : Chunk) (answer : Bool) → c ≡ chunk.Tok bank n
    → answer ≡ (proves_equal facts bank g) → answer ≡ is_some (tokens_of g facts c)
tokens_read g bank n facts c answer e h = rw e (reads_where (record { bank = bank; n = n }) answer (proves_equal facts bank g) h)

pub authority_reads : (g bank n : Combination) (facts : List Fact) (c : Chunk) (answer : Bool) → c ≡ chunk.Auth bank n
    → answer ≡ (proves_equal facts bank g) → answer ≡ is_some (authority_of g facts c)
authority_reads g bank n facts c answer e h = rw e (reads_where (record { bank = bank; n = n }) answer (proves_equal facts bank g) h)
