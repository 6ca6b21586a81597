-- What a message holds: chunks at msg, one taken out or changed, at later places of a path.
use Rattle.std.proofs.Common.{◌≡◌, inl, ℕ, ◌+◌, ◌≤◌, Bool, true, false, ◌&&◌, List, [], ◌∷◌, ◌++◌, ℤ, if◌then◌else◌, refl, ap, arith}
use Rattle.std.specs.Ordering.{int_eq}
use Rattle.fsl_core.specs.declared.chunk.Chunk.{Chunk}
use Rattle.fsl_core.specs.declared.chunk.Chunk.TheVariants as chunk
use Rattle.fsl_core.specs.declared.mode.Rung.{Rung}
use Rattle.fsl_core.specs.declared.mode.Rung.TheVariants.{Msg}
use Rattle.fsl_core.specs.logic.Chunks.{same_rung}
use Rattle.fsl_core.specs.logic.Messages.{Held}
use Rattle.fsl_lin.specs.Numbers.{Numbers}
use Rattle.fsl_meaning.specs.Means.{Grows}
use Rattle.fsl_meaning.specs.Heaps.{Key, Key as key, Heap, nothing, same_key, some_of, Claim, Ground, AllKnown}
use Rattle.fsl_meaning.proofs.Terms.{means_more}
use Rattle.fsl_meaning.proofs.Heaps.{same_rung_self}
use Rattle.fsl_kept.specs.Changes.{lifted}
use Rattle.fsl_passed.specs.Passing.{chunks_of, Touched, IsHeld, EachHeld, AllHeld, AllPassed}

-- ---- later

line_less : (a b c : ℕ) → a ≤ b → b ≤ c → a ≤ c
line_less a b c h k = omega arith

touched_more : (n m : ℕ) (v w : Numbers) (past more : Heap) (c : Chunk) → Grows n v m w → ((k : Key) → past k ≤ more k) → Touched n v past c → Touched m w more c
touched_more n m v w past more (chunk.Points rung at share value) g l t =
    record { loc = t.loc; at_is = means_more g t.at_is; some = line_less 1 (past (key.Cell Msg t.loc)) (more (key.Cell Msg t.loc)) t.some (l (key.Cell Msg t.loc)) }
touched_more n m v w past more (chunk.Init rung at) g l t = tt
touched_more n m v w past more (chunk.Rel at inv args) g l t = tt
touched_more n m v w past more (chunk.Acq at inv args part out) g l t = tt
touched_more n m v w past more (chunk.RmwAcq at inv args) g l t = tt
touched_more n m v w past more (chunk.Tok bank k) g l t = tt
touched_more n m v w past more (chunk.Auth bank k) g l t = tt

each_held_more : (n m : ℕ) (v w : Numbers) (past more : Heap) (held : List Held) → Grows n v m w → ((k : Key) → past k ≤ more k) → EachHeld n v past held → EachHeld m w more held
each_held_more n m v w past more [] g l e = tt
each_held_more n m v w past more (h ∷ hs) g l e =
    (record { at_msg = e.0.at_msg; touched = λ t. touched_more n m v w past more h.chunk g l (e.0.touched t) }, each_held_more n m v w past more hs g l e.1)

pub held_more : {n m : ℕ} {v w : Numbers} {past : Heap} {held : List Held} (more : Heap) → Grows n v m w → ((k : Key) → past k ≤ more k) → AllHeld n v past held → AllHeld m w more held
held_more {n = n} {m = m} {v = v} {w = w} {past = past} {held = held} more g l e = record { each = each_held_more n m v w past more held g l e.each }

-- ---- one of them

pub chunks_between : (before : List Held) (h : Held) (behind : List Held) → chunks_of (before ++ h ∷ behind) ≡ chunks_of before ++ h.chunk ∷ chunks_of behind
chunks_between [] h behind = refl
chunks_between (b ∷ bs) h behind = ap (λ (cs : List Chunk). b.chunk ∷ cs) (chunks_between bs h behind)

pub chunks_without : (before behind : List Held) → chunks_of (before ++ behind) ≡ chunks_of before ++ chunks_of behind
chunks_without [] behind = refl
chunks_without (b ∷ bs) behind = ap (λ (cs : List Chunk). b.chunk ∷ cs) (chunks_without bs behind)

pub held_without : (n : ℕ) (v : Numbers) (past : Heap) (before : List Held) (h : Held) (behind : List Held) → EachHeld n v past (before ++ h ∷ behind) → EachHeld n v past (before ++ behind)
held_without n v past [] h behind e = e.1
held_without n v past (b ∷ bs) h behind e = (e.0, held_without n v past bs h behind e.1)

pub held_with : (n : ℕ) (v : Numbers) (past : Heap) (before : List Held) (h : Held) (behind : List Held) → IsHeld n v past h → EachHeld n v past (before ++ behind) → EachHeld n v past
    (before ++ h ∷ behind)
held_with n v past [] h behind i e = (i, e)
held_with n v past (b ∷ bs) h behind i e = (e.0, held_with n v past bs h behind i e.1)

-- ---- heaps at another rung

if_nothing : (b : Bool) (n : ℕ) → (if b then n else n) ≡ n
if_nothing true n = refl
if_nothing false n = refl

pub lifted_nothing : (from to : Rung) (k : Key) → lifted from to nothing k ≡ 0
lifted_nothing from to (key.Cell r l) = if_nothing (same_rung to r) 0
lifted_nothing from to (key.Permission l p) = refl
lifted_nothing from to (key.Tokens b) = refl
lifted_nothing from to (key.Bank b) = refl

some_by : (b c d : Bool) (n : ℕ) → d ≡ true → (if b && c then n else 0) ≡ (if b then (if d && c then n else 0) else 0)
some_by true c true n e = refl
some_by true c false n e = absurd (cc)
some_by false c d n e = refl

pub lifted_some : (from to : Rung) (loc : ℤ) (n : ℕ) (k : Key) → some_of (key.Cell to loc) n k ≡ lifted from to (some_of (key.Cell from loc) n) k
lifted_some from to loc n (key.Cell r l) = some_by (same_rung to r) (int_eq loc l) (same_rung from from) n (same_rung_self from)
lifted_some from to loc n (key.Permission l p) = refl
lifted_some from to loc n (key.Tokens b) = refl
lifted_some from to loc n (key.Bank b) = refl

both_by : (b : Bool) (x y : ℕ) → (if b then x else 0) + (if b then y else 0) ≡ (if b then x + y else 0)
both_by true x y = refl
both_by false x y = omega arith

line_zero : (n : ℕ) → n + 0 ≡ n
line_zero n = omega arith

pub lifted_both : (from to : Rung) (g h : Heap) (k : Key) → lifted from to g k + lifted from to h k ≡ lifted from to (λ q. g q + h q) k
lifted_both from to g h (key.Cell r l) = both_by (same_rung to r) (g (key.Cell from l)) (h (key.Cell from l))
lifted_both from to g h (key.Permission l p) = line_zero 0
lifted_both from to g h (key.Tokens b) = line_zero 0
lifted_both from to g h (key.Bank b) = line_zero 0

pub some_both : (k : Key) (a b : ℕ) (q : Key) → some_of k a q + some_of k b q ≡ some_of k (a + b) q
some_both k a b q = both_by (same_key k q) a b

-- ---- claims

pub passed_known : (g : Ground) (second : Rung) (cs : List Claim) → AllKnown g cs → AllPassed g second cs
passed_known g second [] k = tt
passed_known g second (c ∷ cs) k = (inl k.0, passed_known g second cs k.1)

pub passed_both : (g : Ground) (second : Rung) (cs ds : List Claim) → AllPassed g second cs → AllPassed g second ds → AllPassed g second (cs ++ ds)
passed_both g second [] ds k l = l
passed_both g second (c ∷ cs) ds k l = (k.0, passed_both g second cs ds k.1 l)
