-- Good moves of a thread that starts others, that joins them, and that ends.
use Rattle.std.proofs.Common.{◌≡◌, ℕ, zero, suc, ◌≤◌, List, [], ◌++◌, length, Some, ℤ, ap, subst, arith}
use Rattle.fsl_core.specs.declared.label.Ended.{Ended}
use Rattle.fsl_core.specs.declared.label.Label.{Label}
use Rattle.fsl_core.specs.declared.label.Label.TheVariants as label
use Rattle.fsl_core.specs.declared.need.Need.{Need}
use Rattle.fsl_core.specs.declared.need.Need.TheVariants as need
use Rattle.fsl_core.specs.declared.need.Reply.{Reply}
use Rattle.fsl_core.specs.declared.need.Reply.TheVariants as reply
use Rattle.fsl_core.specs.declared.need.Started.{Started as Start}
use Rattle.fsl_core.specs.Programs.{Program}
use Rattle.fsl_core.specs.Moves.{Config, Frame, running, joining, returned, Moved, showing, numbers_from, joined_from, results_reply, threads_reply, forking, ending}
use Rattle.fsl_own.specs.Atoms.{Atom}
use Rattle.fsl_good.specs.Pieces.{together, AtPlain, Piece, all_placed}
use Rattle.fsl_good.specs.Good.{Logic, EachPays, Spawns, Ends, Allows, Good}
use Rattle.fsl_held.specs.Asked.{logic_of}
use Rattle.fsl_walk.specs.Stances.{Activation, IsGoodMove}
use Rattle.fsl_walk.proofs.Steps.{quiet, shows_so}

-- a label that is shown by a thread that waits for others
shows_to : (l : Logic) (p : Program) (o : l.Owed) (n : Need) (k : ℕ) (waits : List l.Owed) (xs : List Piece) (shown other : Label) (c next : Config) → showing shown c ≡ showing other next
    → Allows l o n shown (Good l p o k c) waits xs → Allows l o n other (Good l p o k next) waits xs
shows_to l p o n k waits xs shown other c next e h =
    let is : Some shown ≡ Some other = ap (λ (m : Moved). m.label) e in
    let same : shown ≡ other = cc in
    subst (λ (d : Config). Allows l o n other (Good l p o k d) waits xs) (ap (λ (m : Moved). m.config) e) (subst (λ (d : Label). Allows l o n d (Good l p o k c) waits xs) same h)

-- ---- threads that are waited for

joining_shows : (l : Logic) (p : Program) (o : l.Owed) (k first count : ℕ) (f : Frame) (fs : List Frame) (waits : List l.Owed) (xs : List Piece)
    → ((rs : List Ended) (yss : List (List Atom)) → EachPays l waits rs yss → Good l p o k (running f fs) [] (all_placed AtPlain (together yss) ++ xs))
    → (r : Reply) (shown : Label) (next : Config) → results_reply r (λ vs. showing (label.Join (joined_from first vs)) (running f fs)) ≡ showing shown next
    → Allows l o (need.Join (numbers_from first count)) shown (Good l p o k next) waits xs
joining_shows l p o k first count f fs waits xs h (reply.Results vs) shown next e =
    shows_to l p o (need.Join (numbers_from first count)) k waits xs (label.Join (joined_from first vs)) shown (running f fs) next e (λ yss pays. h (joined_from first vs) yss pays)
joining_shows l p o k first count f fs waits xs h reply.Nothing shown next e = absurd (quiet e)
joining_shows l p o k first count f fs waits xs h (reply.Place x) shown next e = absurd (quiet e)
joining_shows l p o k first count f fs waits xs h (reply.Read x) shown next e = absurd (quiet e)
joining_shows l p o k first count f fs waits xs h (reply.Threads x) shown next e = absurd (quiet e)

pub joining_good : (l : Logic) (p : Program) (o : l.Owed) (m first count : ℕ) (f : Frame) (fs : List Frame) (waits : List l.Owed) (xs : List Piece)
    → ((k : ℕ) → k ≤ m → (rs : List Ended) (yss : List (List Atom)) → EachPays l waits rs yss → Good l p o k (running f fs) [] (all_placed AtPlain (together yss) ++ xs))
    → Good l p o m (joining first count f fs) waits xs
joining_good l p o zero first count f fs waits xs h = λ e. absurd (cc)
joining_good l p o (suc k) first count f fs waits xs h = λ possible. (
  (λ e. absurd (cc)),
  (λ e. absurd (cc)),
  joining_shows l p o k first count f fs waits xs (λ rs yss pays. h k (line_less k) rs yss pays),
)
  where
    line_less : (n : ℕ) → n ≤ suc n
    line_less n = omega arith

-- ---- threads that are started

forking_shows : (u : Activation) (m : ℕ) (ds : List Start) (after : ℕ → Config) (xs : List Piece)
    → ((first : ℕ) → Spawns (logic_of u.program) ds (λ waits ys. Good (logic_of u.program) u.program u.debt m (after first) waits ys) xs)
    → (r : Reply) (shown : Label) (next : Config) → threads_reply r (λ first. showing (label.Fork (numbers_from first (length ds))) (after first)) ≡ showing shown next
    → Allows (logic_of u.program) u.debt (need.Fork ds) shown (λ waits ys. Good (logic_of u.program) u.program u.debt m next waits ys) [] xs
forking_shows u m ds after xs h (reply.Threads first) shown next e =
    shows_so u m (need.Fork ds) (label.Fork (numbers_from first (length ds))) shown (after first) next xs e
    (λ calls same.
    let is : ds ≡ calls = cc in
    subst (λ (cs : List Start). Spawns (logic_of u.program) cs (λ waits ys. Good (logic_of u.program) u.program u.debt m (after first) waits ys) xs) is (h first))
forking_shows u m ds after xs h reply.Nothing shown next e = absurd (quiet e)
forking_shows u m ds after xs h (reply.Place x) shown next e = absurd (quiet e)
forking_shows u m ds after xs h (reply.Read x) shown next e = absurd (quiet e)
forking_shows u m ds after xs h (reply.Results x) shown next e = absurd (quiet e)

pub forking_good : (u : Activation) (m : ℕ) (ds : List Start) (after : ℕ → Config) (xs : List Piece)
    → ((first : ℕ) → Spawns (logic_of u.program) ds (λ waits ys. Good (logic_of u.program) u.program u.debt m (after first) waits ys) xs) → IsGoodMove u m (forking (Some ds) after) xs
forking_good u m ds after xs h = ((λ e. absurd (cc)), forking_shows u m ds after xs h)

-- ---- the end of a thread

pub ending_good : (u : Activation) (m : ℕ) (x : ℤ) (xs : List Piece) → Ends (logic_of u.program) u.debt x xs → IsGoodMove u m (ending x) xs
ending_good u m x xs h = (
  (λ e. absurd (cc)),
  (λ r shown next e. shows_so u m (need.End x) (label.End x) shown (returned x) next xs e h),
)
