-- A value is read and replaced: what its message has comes, tokens are minted and burned, what the new value asks for
-- is passed on, and the rest is kept.
use Rattle.std.proofs.Common.{◌≡◌, inl, inr, ℕ, ◌+◌, ◌≤◌, Bool, true, false, ◌&&◌, ◌||◌, List, [], ◌∷◌, map, ℤ, refl, subst, arith}
use Rattle.std.specs.Prelude.{slice_set}
use Rattle.std.proofs.lemmas.Bool.{and_from, or_left, or_right}
use Rattle.fsl_core.specs.declared.act.Step.{Step}
use Rattle.fsl_core.specs.declared.mode.Mode.{Mode}
use Rattle.fsl_core.specs.declared.mode.Rung.{Rung}
use Rattle.fsl_core.specs.declared.mode.Rung.TheVariants.{Plain, Up, Down, Msg}
use Rattle.fsl_core.specs.Modes.{acquires}
use Rattle.fsl_core.specs.Programs.{Program}
use Rattle.fsl_core.specs.logic.States.{State, set}
use Rattle.fsl_core.specs.logic.Terms.{expr_of}
use Rattle.fsl_core.specs.logic.Assertions.{asrt_of}
use Rattle.fsl_core.specs.logic.Accesses.{gaining, giving}
use Rattle.fsl_core.specs.logic.Chunks.{same_rung, Leave}
use Rattle.fsl_core.specs.logic.Locations.{setting_of, parts_at}
use Rattle.fsl_core.specs.logic.Messages.{untouched}
use Rattle.fsl_core.specs.logic.Tokens.{step_of}
use Rattle.fsl_core.specs.logic.Updates.{Leaves, replace}
use Rattle.fsl_lin.specs.Combination.{Combination}
use Rattle.fsl_lin.specs.Numbers.{Numbers}
use Rattle.fsl_meaning.specs.Means.{Means, AllMean}
use Rattle.fsl_meaning.specs.Heaps.{Key, Key as key, Heap, nothing, Truth, Claim, Claim as claim, Ground, Knows, KnowsMore, Agrees}
use Rattle.fsl_meaning.specs.States.{All, Fits}
use Rattle.fsl_meaning.specs.Branches.{Lands}
use Rattle.fsl_meaning.proofs.Terms.{grows_then, means_more}
use Rattle.fsl_meaning.proofs.Calculus.{lands_then, lands_as}
use Rattle.fsl_meaning.proofs.Heaps.{same_rung_self}
use Rattle.fsl_meaning.proofs.Kept.{agrees_less, knows_less, owns_kept, fits_kept}
use Rattle.fsl_kept.specs.Changes.{grounded, lifted, without}
use Rattle.fsl_kept.specs.Parts.{Part, parts_in, ArePieces}
use Rattle.fsl_kept.proofs.Locals.{lands_set}
use Rattle.fsl_kept.proofs.Parts.{parts_are, parts_produced}
use Rattle.fsl_passed.specs.Passing.{IsPassed, AllPassed}
use Rattle.fsl_passed.proofs.Keeping.{keep_fits}
use Rattle.fsl_passed.proofs.Parts.{parts_passed}
use Rattle.fsl_updated.specs.Grounds.{learns, learning}
use Rattle.fsl_updated.specs.Steps.{steps_truth, steps_heap}
use Rattle.fsl_updated.specs.Updates.{LeavesMean, Reads, Replaces}
use Rattle.fsl_updated.proofs.Finding.{leaves_more}
use Rattle.fsl_updated.proofs.Forgetting.{lands_forget, lands_apart}
use Rattle.fsl_updated.proofs.Stepping.{steps_cell, steps_fit}

-- ---- heaps

line_right : (n : ℕ) → 0 + n ≡ n
line_right n = omega arith

line_left : (n : ℕ) → n + 0 ≡ n
line_left n = omega arith

-- the message and the thread are all
divided : (h : Heap) (k : Key) → lifted Msg Msg h k + without Msg h k ≡ h k
divided h (key.Cell Plain l) = line_right (h (key.Cell Plain l))
divided h (key.Cell Up l) = line_right (h (key.Cell Up l))
divided h (key.Cell Down l) = line_right (h (key.Cell Down l))
divided h (key.Cell Msg l) = line_left (h (key.Cell Msg l))
divided h (key.Permission l p) = line_right (h (key.Permission l p))
divided h (key.Tokens b) = line_right (h (key.Tokens b))
divided h (key.Bank b) = line_right (h (key.Bank b))

line_less : (a b h : ℕ) → a + b ≡ h → b ≤ h
line_less a b h e = omega arith

without_less : (h : Heap) (k : Key) → without Msg h k ≤ h k
without_less h k = line_less (lifted Msg Msg h k) (without Msg h k) (h k) (divided h k)

line_room : (n w h m : ℕ) → w ≤ h → n + h ≤ m → n + w ≤ m
line_room n w h m l k = omega arith

line_both : (m t h a g l d : ℕ) → m + t ≡ h → m ≡ a + g → t ≡ l + d → a + l ≤ h
line_both m t h a g l d e i j = omega arith

line_message : (n m a g x y : ℕ) → m ≡ n → m ≡ a + g → x + y ≤ a → x + (y + g) ≤ n
line_message n m a g x y i e l = omega arith

line_got : (n : ℕ) → 1 ≤ 0 + n → 1 ≤ n
line_got n h = omega arith

-- ---- what is known

from_either : (a b : Bool) → ((a && b) || b) ≡ true → b ≡ true
from_either true true h = refl
from_either true false h = h
from_either false b h = h

-- what the message knew is known where the read puts it
learned : (g : Ground) (t : Truth) (rung : Rung) (l : ℤ) → Knows (grounded (learning rung g) t) (claim.IsInit Msg l) → Knows (grounded (learning rung g) t) (claim.IsInit rung l)
learned g t rung l h =
    let here = g.knows (claim.IsInit Msg l) in
    or_left (same_rung rung rung && here) (g.knows (claim.IsInit rung l)) (and_from (same_rung rung rung) here (same_rung_self rung) (from_either (same_rung Msg rung) here h))

learns_more : (g : Ground) (t : Truth) (rung : Rung) (h : Heap) → KnowsMore (grounded g t) (grounded (learning rung g) t) h
learns_more g t rung h = record { more = λ c n k. or_right (learns rung g c) (g.knows c) k }

agrees_self : (t : Truth) (h : Heap) → Agrees t t h
agrees_self t h = record { value = λ r l x some e. e; out = λ l p some. refl; bank = λ b some. refl }

passed_as : (g : Ground) (t : Truth) (second : Rung) (c : Claim) → IsPassed (grounded g t) second c → IsPassed g second c
passed_as g t second c (inl k) = inl k
passed_as g t second c (inr k) = inr (record { loc = k.loc; is = k.is; known = k.known })

all_passed_as : (g : Ground) (t : Truth) (second : Rung) (cs : List Claim) → AllPassed (grounded g t) second cs → AllPassed g second cs
all_passed_as g t second [] k = tt
all_passed_as g t second (c ∷ cs) k = (passed_as g t second c k.0, all_passed_as g t second cs k.1)

-- ---- the pieces

pieces_of : {n : ℕ} {v : Numbers} {t : Combination} {args : List ℤ} {x : ℤ} (p : Program) (l : Leave) (inv : ℕ) → l.inv ≡ inv → AllMean n v l.args args → Means n v t x
    → ArePieces n v (parts_at (setting_of asrt_of p) l t) (parts_in p inv args x)
pieces_of {n = n} {v = v} {t = t} {args = args} {x = x} p l inv e all is =
    subst (λ (i : ℕ). ArePieces n v (parts_at (setting_of asrt_of p) l t) (parts_in p i args x)) e (parts_are p l all is)

-- ---- the rule

line_self : (a : ℕ) → a ≤ a
line_self a = omega arith

pub replace_fits : {g : Ground} {slots : List ℤ} {v : Numbers} {s : State} {h : Heap} {inv : ℕ} {args : List ℤ} {x y : ℤ} (p : Program) (read : Ground) (m : Mode) (steps : List Step)
    (l : Leaves) (o new : Combination) (more : Heap)
    → LeavesMean s.next v l inv args → Means s.next v o x → Means s.next v new y → Reads g read (parts_in p inv args x) h more → Fits slots (All g h) v s
    → Lands s.next v (λ u t w. Replaces read m steps slots (parts_in p inv args y) more slots t w) (replace (setting_of asrt_of p) m (map (step_of expr_of) steps) l o new s)
replace_fits {slots = slots} {h = h} {inv = inv} {args = args} {x = x} {y = y} p read m steps l o new more leaves o_is new_is reads fit =
    let thread = without Msg h in
    let truth = steps_truth slots steps read.truth in
    let after = steps_heap slots steps more in
    let last = grounded (learning (gaining m) read) truth in
    lands_then (lands_forget fit) (λ cs0 s1 w1 r1 f1.
    let f2 = fits_kept read (knows_less thread h (without_less h) reads.knows) (agrees_less thread h (without_less h) reads.agrees) f1 in
    let leaves1 = leaves_more r1 leaves in
    lands_then (parts_produced {ps = parts_in p inv args x} Msg reads.need more f2 (pieces_of p l.rmw inv leaves1.rmw_inv leaves1.rmw_args (means_more r1 o_is)) reads.is reads.known
    (λ k. line_room (reads.need.heap k) (thread k) (h k) (more k) (without_less h k) (reads.room k)) reads.bounded) (λ u3 s3 w3 r3 f3.
    lands_then (steps_fit steps reads.bounded f3) (λ u4 s4 w4 r4 made.
    lands_then (lands_apart made.fits) (λ cs s5 w5 r5 apart.
    let r = grows_then r1 (grows_then r3 (grows_then r4 r5)) in
    let leaves5 = leaves_more r leaves in
    lands_then (parts_passed {ps = parts_in p inv args y} (giving m) nothing (lifted Msg Msg after) (map untouched cs) apart.fits
    (pieces_of p l.rel inv leaves5.rel_inv leaves5.rel_args (means_more r new_is)) apart.owns apart.held) (λ held s6 w6 r6 b.
    lands_as (keep_fits {g = last} (acquires m) (λ k. nothing k + b.given k) b.kept after held (learned read truth (gaining m))
    (fits_kept last (learns_more read truth (gaining m) b.left) (agrees_self truth b.left) b.fits)
    (owns_kept last (learns_more read truth (gaining m) b.kept) (agrees_self truth b.kept) b.owns) b.held
    (λ k. line_both (lifted Msg Msg after k) (without Msg after k) (after k) (b.kept k) (b.given k) (b.left k) (b.added k) (divided after k) (b.message_is k) (b.thread_is k)) made.bounded)
    (λ u7 s7 w7 r7 c. record {
      may = made.may;
      need = b.need;
      is = b.is;
      known = all_passed_as read truth (giving m) b.need.claims b.known;
      given = b.given;
      added = b.added;
      need_is = b.need_is;
      kept = c.kept;
      joined = c.joined;
      message = λ z. let q = key.Cell Msg z in line_message (more q) (after q) (b.kept q) (b.given q) (c.kept q) (c.joined q) (steps_cell slots steps more Msg z) (b.message_is q) (c.within q);
      left = b.left;
      thread = b.thread_is;
      shared = λ z n. let q = c.shared z n in (q.0, line_got (b.given (key.Cell Msg z)) q.1);
      fits = c.fits;
    }))))))

-- and the old value is the variable's
pub lands_set_replaced : {read : Ground} {m : Mode} {steps : List Step} {slots : List ℤ} {parts : List Part} {more : Heap} {later : List ℤ} {s : State} {w : Numbers} {o : Combination}
    {x : ℤ} (slot : ℕ)
    → Replaces read m steps slots parts more later s w → Means s.next w o x → Lands s.next w (λ u t w2. Replaces read m steps slots parts more (slice_set later slot x) t w2) (set slot o s)
lands_set_replaced slot q is = lands_as (lands_set slot q.fits is) (λ u t w r fits. record {
  may = q.may;
  need = q.need;
  is = q.is;
  known = q.known;
  given = q.given;
  added = q.added;
  need_is = q.need_is;
  kept = q.kept;
  joined = q.joined;
  message = q.message;
  left = q.left;
  thread = q.thread;
  shared = q.shared;
  fits = fits;
})
