-- A cell that was found among the chunks, by its number.
use Rattle.std.proofs.Common.{◌≡◌, ℕ, Bool, true, false, ◌&&◌, List, length, Option, Some, None, pos, slice_get, IfSome, refl, ap, ◌∙◌}
use Rattle.std.proofs.lemmas.Bool.{and_parts}
use Rattle.std.specs.Option.{option_map}
use Rattle.fsl_asrt.specs.declared.cells.FoundCell.{FoundCell}
use Rattle.fsl_asrt.specs.Cells.{cell_in, cell_of, IsPoints, IsFoundBy}
use Rattle.fsl_chunk.specs.Kind.{kind_of, rung_of}
use Rattle.fsl_chunk.specs.Fits.{found_number}
use Rattle.fsl_chunk.specs.declared.kind.ChunkKind.TheVariants.{Points}
use Rattle.fsl_chunk.proofs.FoundItems.{found_within, found_reads, put_found, taken_found}
use Rattle.fsl_core.specs.declared.chunk.Chunk.{Chunk}
use Rattle.fsl_core.specs.declared.chunk.Chunk.TheVariants as chunk
use Rattle.fsl_core.specs.declared.mode.Rung.{Rung}
use Rattle.fsl_core.specs.declared.mode.Rung.TheVariants.{Plain, Up, Down, Msg}
use Rattle.fsl_core.specs.logic.Chunks.{Cell, Found, first, when, same_rung, cell_at, enough_at}
use Rattle.fsl_core.specs.logic.Deciding.{proves_equal, proves_at_most}
use Rattle.fsl_lin.specs.Combination.{Combination}
use Rattle.fsl_lin.specs.declared.fact.Fact.{Fact}

-- a chunk that is read as this cell
pub record IsCell (rung : Rung) (c : Chunk) (x : Cell) : Type 0 where
  pub kind : kind_of c ≡ Points
  pub stands : rung_of c ≡ rung
  pub is : cell_in c ≡ Some x

abbrev pub ReadsCells : Rung → (Chunk → Option Cell) → Type 0
ReadsCells rung reads = (c : Chunk) (x : Cell) → reads c ≡ Some x → IsCell rung c x

pub record IsWhen {X : Type 0} (test : Bool) (x y : X) : Type 0 where
  pub holds : test ≡ true
  pub is : x ≡ y

when_some : {X : Type 0} (test : Bool) (x y : X) → when test x ≡ Some y → IsWhen test x y
when_some true x y h = record { holds = refl; is = cc }
when_some false x y h = absurd cc

same_rungs : (r q : Rung) → same_rung r q ≡ true → r ≡ q
same_rungs Plain Plain h = refl
same_rungs Up Up h = refl
same_rungs Down Down h = refl
same_rungs Msg Msg h = refl
same_rungs Plain Up h = absurd cc
same_rungs Plain Down h = absurd cc
same_rungs Plain Msg h = absurd cc
same_rungs Up Plain h = absurd cc
same_rungs Up Down h = absurd cc
same_rungs Up Msg h = absurd cc
same_rungs Down Plain h = absurd cc
same_rungs Down Up h = absurd cc
same_rungs Down Msg h = absurd cc
same_rungs Msg Plain h = absurd cc
same_rungs Msg Up h = absurd cc
same_rungs Msg Down h = absurd cc

cell_by : (rung r : Rung) (a k : Combination) (v : Option Combination) (test : Bool) (x : Cell)
    → when (same_rung r rung && test) (record { at = a; share = k; value = v }) ≡ Some x → IsCell rung (chunk.Points r a k v) x
cell_by rung r a k v test x h =
    let w : IsWhen (same_rung r rung && test) (record { at = a; share = k; value = v }) x = when_some _ _ _ h in
    record { kind = refl; stands = same_rungs r rung ((and_parts (same_rung r rung) test w.holds).0); is = ap Some w.is }

pub cell_at_reads : (rung : Rung) (at : Combination) (facts : List Fact) → ReadsCells rung (cell_at rung at facts)
cell_at_reads rung at facts (chunk.Points r a k v) x h = cell_by rung r a k v (proves_equal facts a at) x h
cell_at_reads rung at facts (chunk.Init r a) x h = absurd cc
cell_at_reads rung at facts (chunk.Rel a i args) x h = absurd cc
cell_at_reads rung at facts (chunk.Acq a i args p out) x h = absurd cc
cell_at_reads rung at facts (chunk.RmwAcq a i args) x h = absurd cc
cell_at_reads rung at facts (chunk.Tok g n) x h = absurd cc
cell_at_reads rung at facts (chunk.Auth g n) x h = absurd cc

pub enough_at_reads : (rung : Rung) (at share : Combination) (facts : List Fact) → ReadsCells rung (enough_at rung at share facts)
enough_at_reads rung at share facts (chunk.Points r a k v) x h =
    cell_by rung r a k v (proves_equal facts a at && proves_at_most facts share (pos 0) k) x h
enough_at_reads rung at share facts (chunk.Init r a) x h = absurd cc
enough_at_reads rung at share facts (chunk.Rel a i args) x h = absurd cc
enough_at_reads rung at share facts (chunk.Acq a i args p out) x h = absurd cc
enough_at_reads rung at share facts (chunk.RmwAcq a i args) x h = absurd cc
enough_at_reads rung at share facts (chunk.Tok g n) x h = absurd cc
enough_at_reads rung at share facts (chunk.Auth g n) x h = absurd cc

found_cell_by : (rung : Rung) (reads : Chunk → Option Cell) (cs : List Chunk) (n : ℕ) (ch : Chunk) (o : Option (Found Chunk Cell)) (r : Option FoundCell)
    → ReadsCells rung reads → first reads cs ≡ o → Some n ≡ found_number o → slice_get cs n ≡ Some ch
    → option_map cell_of r ≡ cell_in ch → IfSome r (λ c. c.number ≡ n) → IsFoundBy rung cs o r
found_cell_by rung reads cs n ch None r q e h g i k = absurd cc
found_cell_by rung reads cs n ch (Some f) None q e h g i k =
    let l : n ≡ length f.before = cc in
    let x : IsCell rung ch f.is = q ch f.is (found_reads reads cs f ch e (rw (← l) g)) in
    let y : cell_in ch ≡ Some f.is = x.is in
    absurd cc
found_cell_by rung reads cs n ch (Some f) (Some c) q e h g i k =
    let l : n ≡ length f.before = cc in
    let m : c.number ≡ length f.before = k ∙ l in
    let there : slice_get cs c.number ≡ Some ch = rw k g in
    let x : IsCell rung ch f.is = q ch f.is (found_reads reads cs f ch e (rw (← l) g)) in
    let y : cell_in ch ≡ Some f.is = x.is in
    record {
      is = cc;
      points = record { within = rw m (found_within reads cs f e); kind = rw there (ap Some x.kind); stands = rw there (ap Some x.stands) };
      put = λ by. rw m (put_found reads cs f by e);
      taken = rw m (taken_found reads cs f e);
    }

pub found_cell : (rung : Rung) (reads : Chunk → Option Cell) (cs : List Chunk) (n : ℕ) (ch : Chunk) (r : Option FoundCell)
    → ReadsCells rung reads → Some n ≡ found_number (first reads cs) → slice_get cs n ≡ Some ch
    → option_map cell_of r ≡ cell_in ch → IfSome r (λ c. c.number ≡ n) → IsFoundBy rung cs (first reads cs) r
found_cell rung reads cs n ch r q h g i k = found_cell_by rung reads cs n ch (first reads cs) r q refl h g i k

none_by : (rung : Rung) (cs : List Chunk) (o : Option (Found Chunk Cell)) → None ≡ found_number o → IsFoundBy rung cs o None
none_by rung cs None h = tt
none_by rung cs (Some f) h = absurd cc

pub no_cell : (rung : Rung) (reads : Chunk → Option Cell) (cs : List Chunk) → None ≡ found_number (first reads cs) → IsFoundBy rung cs (first reads cs) None
no_cell rung reads cs h = none_by rung cs (first reads cs) h

pub points_of : (rung : Rung) (cs : List Chunk) (o : Option (Found Chunk Cell)) (c : FoundCell) → IsFoundBy rung cs o (Some c) → IsPoints rung c.number cs
points_of rung cs None c i = absurd i
points_of rung cs (Some f) c i = i.points
