-- Read-modify-writes pass a message on: what the parts of the invariant ask for at the new value goes with the message that is
-- written, from the one that was read and from the thread.
use Rattle.std.proofs.Common.{◌≡◌, inl, inr, ℕ, ◌+◌, ◌≤◌, Bool, true, false, List, [], ◌∷◌, ◌++◌, Some, ℤ, refl, sym, ap, subst, ◌∙◌, arith}
use Rattle.fsl_core.specs.declared.act.Step.{Step}
use Rattle.fsl_core.specs.declared.mode.Mode.{Mode}
use Rattle.fsl_core.specs.declared.mode.Rung.{Rung}
use Rattle.fsl_core.specs.declared.mode.Rung.TheVariants.{Plain, Up, Down, Msg}
use Rattle.fsl_core.specs.Moves.{Config, failed}
use Rattle.fsl_core.specs.logic.Chunks.{same_rung}
use Rattle.fsl_core.specs.logic.Accesses as rule
use Rattle.fsl_core.specs.logic.States.{State}
use Rattle.fsl_lin.specs.Numbers.{Numbers}
use Rattle.fsl_meaning.specs.Heaps.{Key, Key as key, Heap, Truth, Claim, Ground}
use Rattle.fsl_meaning.specs.States.{All, Fits}
use Rattle.fsl_kept.specs.Changes.{grounded, lifted, without}
use Rattle.fsl_kept.specs.Parts.{parts_in, parts_asked}
use Rattle.fsl_passed.specs.Passing.{IsPassed, AllPassed}
use Rattle.fsl_updated.specs.Grounds.{learning}
use Rattle.fsl_updated.specs.Steps.{tokens_stepped, step_heap, steps_truth, steps_heap}
use Rattle.fsl_updated.specs.Updates.{Replaces}
use Rattle.fsl_own.specs.Owning.{Resource as resource}
use Rattle.fsl_own.specs.Atoms.{Atom}
use Rattle.fsl_good.specs.Pieces.{together, Level, AtPlain, Piece, demand_at, IsPossible}
use Rattle.fsl_good.specs.Good.{gaining, giving, Passes}
use Rattle.fsl_held.specs.Heaps.{heap_of, value_in, Kept}
use Rattle.fsl_held.specs.Parts.{rung_of, HasCellsAt, atoms_of, Cut}
use Rattle.fsl_held.specs.Asked.{InvariantAsks}
use Rattle.fsl_held.proofs.Cutting.{heap_cut}
use Rattle.fsl_held.proofs.Fronts.{possible_behind}
use Rattle.fsl_walk.specs.Stances.{Activation, IsGood, Stance}
use Rattle.fsl_walk.proofs.Steps.{good_possible}
use Rattle.fsl_walk.proofs.Parting.{AreInvsWell, parts_plain}
use Rattle.fsl_walk.proofs.Sending.{giving_rung}
use Rattle.fsl_walk.proofs.Gaining.{gaining_rung}
use Rattle.fsl_walk.proofs.Meeting.{Meets}
use Rattle.fsl_walk.proofs.Possible.{entailed_possible}
use Rattle.fsl_walk.proofs.Agreeing.{entails_front}
use Rattle.fsl_walk.proofs.Telling.{Telling, telling, without_less}
use Rattle.fsl_walk.proofs.Dividing.{Shares, share_out}
use Rattle.fsl_walk.proofs.Wanting.{parts_stand, Wanted, wanted}
use Rattle.fsl_walk.proofs.Remaining.{remaining, Remains, remains}

-- ---- token steps leave cells as they are

step_cells : (mint : Bool) (number : ℤ) (n : ℕ) (h : Heap) (r : Rung) (l : ℤ) → tokens_stepped mint number n h (key.Cell r l) ≡ h (key.Cell r l)
step_cells true number n h r l = omega arith
step_cells false number n h r l = omega arith

pub steps_cells : (slots : List ℤ) (steps : List Step) (h : Heap) (r : Rung) (l : ℤ) → steps_heap slots steps h (key.Cell r l) ≡ h (key.Cell r l)
steps_cells slots [] h r l = refl
steps_cells slots (x ∷ xs) h r l = steps_cells slots xs (step_heap slots x h) r l ∙ step_cells x.mint _ _ h r l

-- ---- the message is passed on

line_first : (k j g m : ℕ) → k + (j + g) ≤ m → k ≤ m
line_first k j g m h = omega arith

line_second : (k j g m : ℕ) → k + (j + g) ≤ m → j ≤ m
line_second k j g m h = omega arith

line_third : (k j g m : ℕ) → k + (j + g) ≤ m → g ≤ m
line_third k j g m h = omega arith

line_all : (n m s : ℕ) → n ≤ m → m ≤ s → n ≤ s
line_all n m s p q = omega arith

line_as : (n m s : ℕ) → n ≤ m → s ≡ m → n ≤ s
line_as n m s p e = omega arith

line_added : (a l w : ℕ) → w ≡ l + a → a ≤ w
line_added a l w e = omega arith

line_left : (a l w : ℕ) → w ≡ l + a → l ≤ w
line_left a l w e = omega arith

line_within : (a u h : ℕ) → a + u ≤ h → a ≤ h
line_within a u h p = omega arith

line_none : (n g a : ℕ) → n ≡ g + a → n ≡ 0 → a ≡ 0
line_none n g a e z = omega arith

line_rest : (w l a u h r : ℕ) → w ≡ l + a → w + u ≤ h → h ≡ r + a → 1 ≤ l → 1 ≤ r
line_rest w l a u h r e p q o = omega arith

line_same : (n m : ℕ) → 1 ≤ n → n ≡ m → 1 ≤ m
line_same n m p e = omega arith

-- what is passed on doesn't look at what is so
passed_as : (g : Ground) (t : Truth) (second : Rung) (c : Claim) → IsPassed g second c → IsPassed (grounded g t) second c
passed_as g t second c (inl k) = inl k
passed_as g t second c (inr i) = inr (record { loc = i.loc; is = i.is; known = i.known })

passed_here : (g : Ground) (t : Truth) (second : Rung) (cs : List Claim) → AllPassed g second cs → AllPassed (grounded g t) second cs
passed_here g t second [] p = tt
passed_here g t second (c ∷ cs) p = (passed_as g t second c p.0, passed_here g t second cs p.1)

pub replaces_pass : {read : Ground} {more under : Heap} {pool : List Atom} {zs : List Piece} {slots later : List ℤ} {inv : ℕ} {args : List ℤ} {y : ℤ} {s : State} {w : Numbers}
    (u : Activation) (m : ℕ) (next : Config) (md : Mode) (steps : List Step) → AreInvsWell u.program → (next ≡ failed → ⊥)
    → Meets (grounded read (steps_truth slots steps read.truth)) (steps_heap slots steps more) under pool zs
    → Replaces read md steps slots (parts_in u.program inv args y) more later s w
    → ((fs : List Piece) → Kept zs under fs → Stance fs under later w s → IsGood u m next fs)
    → Passes (InvariantAsks u.program) md y inv args (IsGood u m next) pool zs
replaces_pass {read = read} {more = more} {under = under} {pool = pool} {zs = zs} {slots = slots} {later = later} {inv = inv} {args = args} {y = y} {s = s} {w = w} u m next md steps well good meets is goes =
    passes (telling meets)
  where
    here : Ground
    here = grounded read (steps_truth slots steps read.truth)

    behind : Heap
    behind = steps_heap slots steps more

    message_has : (l : ℤ) → is.kept (key.Cell Msg l) + (is.joined (key.Cell Msg l) + is.given (key.Cell Msg l)) ≤ behind (key.Cell Msg l)
    message_has l = line_as (is.kept (key.Cell Msg l) + (is.joined (key.Cell Msg l) + is.given (key.Cell Msg l))) (more (key.Cell Msg l)) (behind (key.Cell Msg l)) (is.message l) (steps_cells slots steps more Msg l)

    wants : parts_asked here.truth (rung_of (giving md)) (parts_in u.program inv args y) ≡ Some is.need
    wants = subst (λ (r : Rung). parts_asked here.truth r (parts_in u.program inv args y) ≡ Some is.need) (sym (giving_rung md)) is.is

    need_parts : (k : Key) → is.need.heap k ≡ lifted Msg (rung_of (giving md)) is.given k + is.added k
    need_parts = subst (λ (r : Rung). (k : Key) → is.need.heap k ≡ lifted Msg r is.given k + is.added k) (sym (giving_rung md)) is.need_is

    alone : HasCellsAt (rung_of (giving md)) is.added
    alone r l other =
        line_none (is.need.heap (key.Cell r l)) (lifted Msg (rung_of (giving md)) is.given (key.Cell r l)) (is.added (key.Cell r l)) (need_parts (key.Cell r l))
        ((parts_stand u.program.invs here.truth (rung_of (giving md)) (parts_in u.program inv args y) is.need (parts_plain u.program inv args y well) wants).alone r l other)

    added_less : (k : Key) → is.added k ≤ without Msg behind k
    added_less k = line_added (is.added k) (is.left k) (without Msg behind k) (is.thread k)

    passes : {message thread : List Piece} → Telling here behind under pool zs message thread → Passes (InvariantAsks u.program) md y inv args (IsGood u m next) pool zs
    passes {message = message} {thread = thread} tells = shared
        (share_out is.given is.kept is.joined message (entailed_possible (message ++ thread) message (entails_front message thread) tells.possible) (λ l. line_all _ (behind (key.Cell Msg l)) (heap_of message (key.Cell Plain l)) (message_has l) (tells.shares l)))
        (heap_cut (giving md) is.added thread (possible_behind message thread tells.possible) alone (λ k.
        line_all (is.added k) (without Msg behind k) (heap_of thread k) (added_less k) (line_within (without Msg behind k) (under k) (heap_of thread k) (tells.holds k))))
      where
        shared : (sh : Shares is.given is.kept is.joined message) → (c : Cut (giving md) is.added thread) → Passes (InvariantAsks u.program) md y inv args (IsGood u m next) pool zs
        shared sh c =
            let parts = parts_in u.program inv args y in
            let filled : Wanted parts sh.on c.atoms = wanted u.program.invs (giving md) parts is.need (parts_plain u.program inv args y well) wants
            (subst (λ (r : Rung). AllPassed here r is.need.claims) (sym (giving_rung md)) (passed_here read (steps_truth slots steps read.truth) (rule.giving md) is.need.claims is.known)) need_parts tells sh c
            (λ l. line_third (is.kept (key.Cell Msg l)) (is.joined (key.Cell Msg l)) (is.given (key.Cell Msg l)) (behind (key.Cell Msg l)) (message_has l)) added_less
            (λ k. line_all (is.added k) (without Msg behind k) (behind k) (added_less k) (without_less behind k)) in
            record {
              message = atoms_of message;
              thread = thread;
              told = tells.told;
              on = sh.on;
              kept = sh.left;
              joins = sh.joins;
              mine = c.atoms;
              rest = c.rest;
              atoms = together filled.atoms;
              divides = sh.divides;
              gives = c.is.gives;
              meets = filled.meets;
              asked = record { atoms = filled.atoms; are = refl; each = filled.each };
              shares = sh.are_shares;
              joined = λ l some.
                  let both = is.shared l (line_same _ (is.joined (key.Cell Msg l)) some (sh.joins_are l)) in (
                    line_rest (without Msg behind (key.Cell Plain l)) (is.left (key.Cell Plain l)) (is.added (key.Cell Plain l)) (under (key.Cell Plain l)) (heap_of thread (key.Cell Plain l))
                        (demand_at AtPlain c.rest (resource.Cell l)) (is.thread (key.Cell Plain l)) (tells.holds (key.Cell Plain l)) (c.is.left (key.Cell Plain l)) both.0,
                    line_same (is.given (key.Cell Msg l)) _ both.1 (sym (sh.on_is l)),
                  );
              next = good_possible u m next (remaining (gaining md) sh.left sh.joins c.rest) good (λ possible.
                  let so : Remains zs under later w s (remaining (gaining md) sh.left sh.joins c.rest) = remains (gaining md) is.left tells sh c
                  (λ l. line_first (is.kept (key.Cell Msg l)) (is.joined (key.Cell Msg l)) (is.given (key.Cell Msg l)) (behind (key.Cell Msg l)) (message_has l))
                  (λ l. line_second (is.kept (key.Cell Msg l)) (is.joined (key.Cell Msg l)) (is.given (key.Cell Msg l)) (behind (key.Cell Msg l)) (message_has l)) is.thread
                  (λ k. line_all (is.left k) (without Msg behind k) (behind k) (line_left (is.added k) (is.left k) (without Msg behind k) (is.thread k)) (without_less behind k))
                  (subst (λ (r : Rung). Fits later (All (learning r here) (λ k. lifted Msg r is.kept k + (lifted Msg Plain is.joined k + is.left k))) w s) (sym (gaining_rung md)) is.fits) possible in
                  goes (remaining (gaining md) sh.left sh.joins c.rest) so.kept so.stance);
            }
