-- What each reading of a chunk has read.
use Rattle.std.proofs.Common.{◌≡◌, ℕ, ◌==◌, Bool, true, false, ◌&&◌, List, [], ◌∷◌, Some, None, ℤ, pos, refl, ap, subst, ◌∙◌}
use Rattle.std.proofs.lemmas.Bool.{and_parts, eqb-true}
use Rattle.fsl_core.specs.declared.chunk.Chunk.{Chunk}
use Rattle.fsl_core.specs.declared.chunk.Chunk.TheVariants as chunk
use Rattle.fsl_core.specs.declared.mode.Rung.{Rung}
use Rattle.fsl_core.specs.logic.Deciding.{proves_equal, proves_at_most}
use Rattle.fsl_core.specs.logic.Chunks.{when, same_rung, all_equal, Cell, Leave, Permission, Count, cell_chunk, cell_at, enough_at, init_at, leave, rel_at, rmw_at, same_leave, rel_of, rmw_of, tokens_of, authority_of}
use Rattle.fsl_core.specs.logic.Consuming.{excludes_no_more, permission_of}
use Rattle.fsl_lin.specs.Combination.{Combination}
use Rattle.fsl_lin.specs.Numbers.{Numbers}
use Rattle.fsl_lin.specs.declared.fact.Fact.{Fact}
use Rattle.fsl_meaning.specs.Means.{EachMeans, AllMean, HoldAll}
use Rattle.fsl_meaning.proofs.Facts.{proved_equal}
use Rattle.fsl_meaning.proofs.Heaps.{same_rung_is}

pub when_is : {X : Type 0} (b : Bool) (x y : X) → when b x ≡ Some y → (b ≡ true) × (x ≡ y)
when_is true x y h = let e : Some x ≡ Some y = h in (refl, (cc))
when_is false x y h = absurd (let d : None ≡ Some y = h in cc)

pub nothing_read : {X : Type 0} (P : Type 0) (x : X) → None ≡ Some x → P
nothing_read P x h = absurd (cc)

abbrev pub IsCell : Rung → Combination → List Fact → Chunk → Cell → Type 0
IsCell rung at facts c x = (c ≡ cell_chunk rung x) × (proves_equal facts x.at at ≡ true)

pub cell_read : (rung : Rung) (at : Combination) (facts : List Fact) (c : Chunk) (x : Cell) → cell_at rung at facts c ≡ Some x → IsCell rung at facts c x
cell_read rung at facts (chunk.Points r a share value) x h =
    let m : Cell = record { at = a; share = share; value = value } in
    let p = when_is (same_rung r rung && proves_equal facts a at) m x h in
    let q = and_parts (same_rung r rung) (proves_equal facts a at) p.0 in
    (ap (cell_chunk r) p.1 ∙ ap (λ (z : Rung). cell_chunk z x) (same_rung_is r rung q.0), subst (λ (z : Cell). proves_equal facts z.at at ≡ true) p.1 q.1)
cell_read rung at facts (chunk.Init r a) x h = nothing_read _ x h
cell_read rung at facts (chunk.Rel a inv args) x h = nothing_read _ x h
cell_read rung at facts (chunk.Acq a inv args part out) x h = nothing_read _ x h
cell_read rung at facts (chunk.RmwAcq a inv args) x h = nothing_read _ x h
cell_read rung at facts (chunk.Tok bank n) x h = nothing_read _ x h
cell_read rung at facts (chunk.Auth bank n) x h = nothing_read _ x h

abbrev pub IsEnough : Rung → Combination → Combination → List Fact → Chunk → Cell → Type 0
IsEnough rung at k facts c x = (c ≡ cell_chunk rung x) × (proves_equal facts x.at at ≡ true) × (proves_at_most facts k (pos 0) x.share ≡ true)

pub enough_read : (rung : Rung) (at k : Combination) (facts : List Fact) (c : Chunk) (x : Cell) → enough_at rung at k facts c ≡ Some x → IsEnough rung at k facts c x
enough_read rung at k facts (chunk.Points r a share value) x h =
    let m : Cell = record { at = a; share = share; value = value } in
    let p = when_is (same_rung r rung && (proves_equal facts a at && proves_at_most facts k (pos 0) share)) m x h in
    let q = and_parts (same_rung r rung) (proves_equal facts a at && proves_at_most facts k (pos 0) share) p.0 in
    let t = and_parts (proves_equal facts a at) (proves_at_most facts k (pos 0) share) q.1 in (
      ap (cell_chunk r) p.1 ∙ ap (λ (z : Rung). cell_chunk z x) (same_rung_is r rung q.0),
      subst (λ (z : Cell). proves_equal facts z.at at ≡ true) p.1 t.0,
      subst (λ (z : Cell). proves_at_most facts k (pos 0) z.share ≡ true) p.1 t.1,
    )
enough_read rung at k facts (chunk.Init r a) x h = nothing_read _ x h
enough_read rung at k facts (chunk.Rel a inv args) x h = nothing_read _ x h
enough_read rung at k facts (chunk.Acq a inv args part out) x h = nothing_read _ x h
enough_read rung at k facts (chunk.RmwAcq a inv args) x h = nothing_read _ x h
enough_read rung at k facts (chunk.Tok bank n) x h = nothing_read _ x h
enough_read rung at k facts (chunk.Auth bank n) x h = nothing_read _ x h

pub init_read : (rung : Rung) (at : Combination) (facts : List Fact) (c : Chunk) (x : Combination) → init_at rung at facts c ≡ Some x → (c ≡ chunk.Init rung x) × (proves_equal facts x at ≡ true)
init_read rung at facts (chunk.Points r a share value) x h = nothing_read _ x h
init_read rung at facts (chunk.Init r a) x h =
    let p = when_is (same_rung r rung && proves_equal facts a at) a x h in
    let q = and_parts (same_rung r rung) (proves_equal facts a at) p.0 in
    (ap (chunk.Init r) p.1 ∙ ap (λ (z : Rung). chunk.Init z x) (same_rung_is r rung q.0), subst (λ (z : Combination). proves_equal facts z at ≡ true) p.1 q.1)
init_read rung at facts (chunk.Rel a inv args) x h = nothing_read _ x h
init_read rung at facts (chunk.Acq a inv args part out) x h = nothing_read _ x h
init_read rung at facts (chunk.RmwAcq a inv args) x h = nothing_read _ x h
init_read rung at facts (chunk.Tok bank n) x h = nothing_read _ x h
init_read rung at facts (chunk.Auth bank n) x h = nothing_read _ x h

abbrev pub rel_chunk : Leave → Chunk
rel_chunk l = chunk.Rel l.at l.inv l.args

abbrev pub rmw_chunk : Leave → Chunk
rmw_chunk l = chunk.RmwAcq l.at l.inv l.args

pub rel_read : (at : Combination) (facts : List Fact) (c : Chunk) (x : Leave) → rel_at at facts c ≡ Some x → (c ≡ rel_chunk x) × (proves_equal facts x.at at ≡ true)
rel_read at facts (chunk.Points r a share value) x h = nothing_read _ x h
rel_read at facts (chunk.Init r a) x h = nothing_read _ x h
rel_read at facts (chunk.Rel a inv args) x h =
    let p = when_is (proves_equal facts a at) (leave a inv args) x h in
    (ap rel_chunk p.1, subst (λ (z : Leave). proves_equal facts z.at at ≡ true) p.1 p.0)
rel_read at facts (chunk.Acq a inv args part out) x h = nothing_read _ x h
rel_read at facts (chunk.RmwAcq a inv args) x h = nothing_read _ x h
rel_read at facts (chunk.Tok bank n) x h = nothing_read _ x h
rel_read at facts (chunk.Auth bank n) x h = nothing_read _ x h

pub rmw_read : (at : Combination) (facts : List Fact) (c : Chunk) (x : Leave) → rmw_at at facts c ≡ Some x → (c ≡ rmw_chunk x) × (proves_equal facts x.at at ≡ true)
rmw_read at facts (chunk.Points r a share value) x h = nothing_read _ x h
rmw_read at facts (chunk.Init r a) x h = nothing_read _ x h
rmw_read at facts (chunk.Rel a inv args) x h = nothing_read _ x h
rmw_read at facts (chunk.Acq a inv args part out) x h = nothing_read _ x h
rmw_read at facts (chunk.RmwAcq a inv args) x h =
    let p = when_is (proves_equal facts a at) (leave a inv args) x h in
    (ap rmw_chunk p.1, subst (λ (z : Leave). proves_equal facts z.at at ≡ true) p.1 p.0)
rmw_read at facts (chunk.Tok bank n) x h = nothing_read _ x h
rmw_read at facts (chunk.Auth bank n) x h = nothing_read _ x h

pub same_rel_read : (l : Leave) (facts : List Fact) (c : Chunk) (x : Leave) → rel_of l facts c ≡ Some x → (c ≡ rel_chunk x) × (same_leave facts x l ≡ true)
same_rel_read l facts (chunk.Points r a share value) x h = nothing_read _ x h
same_rel_read l facts (chunk.Init r a) x h = nothing_read _ x h
same_rel_read l facts (chunk.Rel a inv args) x h =
    let p = when_is (same_leave facts (leave a inv args) l) (leave a inv args) x h in
    (ap rel_chunk p.1, subst (λ (z : Leave). same_leave facts z l ≡ true) p.1 p.0)
same_rel_read l facts (chunk.Acq a inv args part out) x h = nothing_read _ x h
same_rel_read l facts (chunk.RmwAcq a inv args) x h = nothing_read _ x h
same_rel_read l facts (chunk.Tok bank n) x h = nothing_read _ x h
same_rel_read l facts (chunk.Auth bank n) x h = nothing_read _ x h

pub same_rmw_read : (l : Leave) (facts : List Fact) (c : Chunk) (x : Leave) → rmw_of l facts c ≡ Some x → (c ≡ rmw_chunk x) × (same_leave facts x l ≡ true)
same_rmw_read l facts (chunk.Points r a share value) x h = nothing_read _ x h
same_rmw_read l facts (chunk.Init r a) x h = nothing_read _ x h
same_rmw_read l facts (chunk.Rel a inv args) x h = nothing_read _ x h
same_rmw_read l facts (chunk.Acq a inv args part out) x h = nothing_read _ x h
same_rmw_read l facts (chunk.RmwAcq a inv args) x h =
    let p = when_is (same_leave facts (leave a inv args) l) (leave a inv args) x h in
    (ap rmw_chunk p.1, subst (λ (z : Leave). same_leave facts z l ≡ true) p.1 p.0)
same_rmw_read l facts (chunk.Tok bank n) x h = nothing_read _ x h
same_rmw_read l facts (chunk.Auth bank n) x h = nothing_read _ x h

pub tokens_read : (g : Combination) (facts : List Fact) (c : Chunk) (x : Count) → tokens_of g facts c ≡ Some x → (c ≡ chunk.Tok x.bank x.n) × (proves_equal facts x.bank g ≡ true)
tokens_read g facts (chunk.Points r a share value) x h = nothing_read _ x h
tokens_read g facts (chunk.Init r a) x h = nothing_read _ x h
tokens_read g facts (chunk.Rel a inv args) x h = nothing_read _ x h
tokens_read g facts (chunk.Acq a inv args part out) x h = nothing_read _ x h
tokens_read g facts (chunk.RmwAcq a inv args) x h = nothing_read _ x h
tokens_read g facts (chunk.Tok bank n) x h =
    let m : Count = record { bank = bank; n = n } in
    let p = when_is (proves_equal facts bank g) m x h in
    (ap (λ (z : Count). chunk.Tok z.bank z.n) p.1, subst (λ (z : Count). proves_equal facts z.bank g ≡ true) p.1 p.0)
tokens_read g facts (chunk.Auth bank n) x h = nothing_read _ x h

pub authority_read : (g : Combination) (facts : List Fact) (c : Chunk) (x : Count) → authority_of g facts c ≡ Some x → (c ≡ chunk.Auth x.bank x.n) × (proves_equal facts x.bank g ≡ true)
authority_read g facts (chunk.Points r a share value) x h = nothing_read _ x h
authority_read g facts (chunk.Init r a) x h = nothing_read _ x h
authority_read g facts (chunk.Rel a inv args) x h = nothing_read _ x h
authority_read g facts (chunk.Acq a inv args part out) x h = nothing_read _ x h
authority_read g facts (chunk.RmwAcq a inv args) x h = nothing_read _ x h
authority_read g facts (chunk.Tok bank n) x h = nothing_read _ x h
authority_read g facts (chunk.Auth bank n) x h =
    let m : Count = record { bank = bank; n = n } in
    let p = when_is (proves_equal facts bank g) m x h in
    (ap (λ (z : Count). chunk.Auth z.bank z.n) p.1, subst (λ (z : Count). proves_equal facts z.bank g ≡ true) p.1 p.0)

abbrev pub acq_chunk : Permission → Chunk
acq_chunk p = chunk.Acq p.leave.at p.leave.inv p.leave.args p.part p.out

pub record IsPermission (p : Permission) (facts : List Fact) (c : Chunk) (x : Permission) : Type 0 where
  pub chunk_is : c ≡ acq_chunk x
  pub leave_is : same_leave facts x.leave p.leave ≡ true
  pub part_is : x.part ≡ p.part
  pub no_more : excludes_no_more facts x.out p.out ≡ true

pub permission_read : (p : Permission) (facts : List Fact) (c : Chunk) (x : Permission) → permission_of p facts c ≡ Some x → IsPermission p facts c x
permission_read p facts (chunk.Points r a share value) x h = nothing_read _ x h
permission_read p facts (chunk.Init r a) x h = nothing_read _ x h
permission_read p facts (chunk.Rel a inv args) x h = nothing_read _ x h
permission_read p facts (chunk.Acq a inv args part out) x h =
    let m : Permission = record { leave = leave a inv args; part = part; out = out } in
    let t = when_is (same_leave facts (leave a inv args) p.leave && (part == p.part && excludes_no_more facts out p.out)) m x h in
    let q = and_parts (same_leave facts (leave a inv args) p.leave) (part == p.part && excludes_no_more facts out p.out) t.0 in
    let u = and_parts (part == p.part) (excludes_no_more facts out p.out) q.1 in
    subst (λ (z : Permission). IsPermission p facts (chunk.Acq a inv args part out) z) t.1
    (record { chunk_is = refl; leave_is = q.0; part_is = eqb-true part p.part u.0; no_more = u.1 })
permission_read p facts (chunk.RmwAcq a inv args) x h = nothing_read _ x h
permission_read p facts (chunk.Tok bank n) x h = nothing_read _ x h
permission_read p facts (chunk.Auth bank n) x h = nothing_read _ x h

-- ---- leaves and arguments that are proved to be the same

each_equal_is : {n : ℕ} {v : Numbers} {fs : List Fact} (ts us : List Combination) (xs ys : List ℤ) → v 0 ≡ pos 1 → HoldAll n v fs → EachMeans n v ts xs → EachMeans n v us ys
    → all_equal fs ts us ≡ true → xs ≡ ys
each_equal_is [] [] [] [] one hold h k e = refl
each_equal_is [] [] [] (y ∷ ys) one hold h k e = absurd k
each_equal_is [] us (x ∷ xs) ys one hold h k e = absurd h
each_equal_is [] (u ∷ us) [] ys one hold h k e = absurd (let f : false ≡ true = e in cc)
each_equal_is (t ∷ ts) us [] ys one hold h k e = absurd h
each_equal_is (t ∷ ts) [] (x ∷ xs) ys one hold h k e = absurd (let f : false ≡ true = e in cc)
each_equal_is (t ∷ ts) (u ∷ us) (x ∷ xs) [] one hold h k e = absurd k
each_equal_is {fs = fs} (t ∷ ts) (u ∷ us) (x ∷ xs) (y ∷ ys) one hold h k e =
    let p = and_parts (proves_equal fs t u) (all_equal fs ts us) e in
    λ i. proved_equal one hold h.0 k.0 p.0 i ∷ each_equal_is ts us xs ys one hold h.1 k.1 p.1 i

pub all_equal_is : {n : ℕ} {v : Numbers} {fs : List Fact} {ts us : List Combination} {xs ys : List ℤ} → v 0 ≡ pos 1 → HoldAll n v fs → AllMean n v ts xs → AllMean n v us ys
    → all_equal fs ts us ≡ true → xs ≡ ys
all_equal_is {ts = ts} {us = us} {xs = xs} {ys = ys} one hold h k e = each_equal_is ts us xs ys one hold h.each k.each e

pub record IsSameLeave (facts : List Fact) (x y : Leave) : Type 0 where
  pub at_is : proves_equal facts x.at y.at ≡ true
  pub inv_is : x.inv ≡ y.inv
  pub args_are : all_equal facts x.args y.args ≡ true

pub same_leave_is : (facts : List Fact) (x y : Leave) → same_leave facts x y ≡ true → IsSameLeave facts x y
same_leave_is facts x y h =
    let p = and_parts (proves_equal facts x.at y.at) (x.inv == y.inv && all_equal facts x.args y.args) h in
    let q = and_parts (x.inv == y.inv) (all_equal facts x.args y.args) p.1 in
    record { at_is = p.0; inv_is = eqb-true x.inv y.inv q.0; args_are = q.1 }
