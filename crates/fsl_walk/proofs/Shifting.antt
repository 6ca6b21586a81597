-- All token steps of a read-modify-write, one after the other: what the message and the thread say stays, but for the
-- numbers of banks.
use Rattle.std.proofs.Common.{◌≡◌, ℕ, ◌+◌, ◌-◌, ◌≤◌, Bool, true, false, if◌then◌else◌, List, [], ◌∷◌, ◌++◌, Option, Some, None, ℤ, pos, refl, sym, ap, subst, ◌∙◌, arith}
use Rattle.std.specs.Ordering.{int_eq}
use Rattle.fsl_core.specs.declared.act.Step.{Step}
use Rattle.fsl_core.specs.declared.mode.Rung.{Rung}
use Rattle.fsl_core.specs.declared.mode.Rung.TheVariants.{Msg}
use Rattle.fsl_core.specs.logic.Chunks.{same_rung}
use Rattle.fsl_meaning.specs.Heaps.{Key, Key as key, Heap, Holds, Truth, Claim, Claim as claim, Ground, Knows, Needs}
use Rattle.fsl_asserted.specs.Exact.{exact}
use Rattle.fsl_asserted.specs.Needs.{bank_number}
use Rattle.fsl_kept.specs.Changes.{grounded, allowing, without}
use Rattle.fsl_updated.specs.Grounds.{of_message}
use Rattle.fsl_updated.specs.Steps.{amount_of, stepped, tokens_stepped, step_truth, step_heap, steps_truth, steps_heap, AllMayStep}
use Rattle.fsl_own.specs.Owning.{Resource as resource}
use Rattle.fsl_own.specs.Atoms.{Atom, demand}
use Rattle.fsl_good.specs.Pieces.{AtPlain, Piece, all_placed, IsPossible}
use Rattle.fsl_good.specs.Good.{Shifts, Shifts as shift}
use Rattle.fsl_held.specs.Heaps.{heap_of, truth_of, ground_of, knows_in, or_else, value_by, value_in, bank_in, Kept}
use Rattle.fsl_held.proofs.Fronts.{front_is_kept}
use Rattle.fsl_walk.proofs.Meeting.{Meets}
use Rattle.fsl_walk.proofs.Renumbering.{Renumbered, step_shifts}
use Rattle.fsl_walk.proofs.Rounds.{kept_self, kept_then}

-- ---- heaps behind a step

line_more : (n : ℕ) → 0 + n ≡ n
line_more n = omega arith

line_less : (n : ℕ) → n - 0 ≡ n
line_less n = omega arith

-- all but tokens
abbrev IsStill : Key → Type 0
IsStill (key.Tokens b) = ⊥
IsStill _ = Unit {0}

stepped_still : (mint : Bool) (number : ℤ) (n : ℕ) (h : Heap) (k : Key) → IsStill k → tokens_stepped mint number n h k ≡ h k
stepped_still true number n h (key.Cell r l) still = line_more (h (key.Cell r l))
stepped_still true number n h (key.Permission l p) still = line_more (h (key.Permission l p))
stepped_still true number n h (key.Bank b) still = line_more (h (key.Bank b))
stepped_still true number n h (key.Tokens b) still = absurd still
stepped_still false number n h (key.Cell r l) still = line_less (h (key.Cell r l))
stepped_still false number n h (key.Permission l p) still = line_less (h (key.Permission l p))
stepped_still false number n h (key.Bank b) still = line_less (h (key.Bank b))
stepped_still false number n h (key.Tokens b) still = absurd still

-- a step leaves the message's cells alone
without_stepped : (mint : Bool) (number : ℤ) (n : ℕ) (h : Heap) (k : Key) → tokens_stepped mint number n (without Msg h) k ≡ without Msg (tokens_stepped mint number n h) k
without_stepped mint number n h (key.Cell r l) =
    let k = key.Cell r l in
    stepped_still mint number n (without Msg h) k tt ∙ ap (λ (m : ℕ). if same_rung Msg r then 0 else m) (sym (stepped_still mint number n h k tt))
without_stepped mint number n h (key.Permission l p) =
    let k = key.Permission l p in stepped_still mint number n (without Msg h) k tt ∙ sym (stepped_still mint number n h k tt)
without_stepped mint number n h (key.Bank b) = let k = key.Bank b in stepped_still mint number n (without Msg h) k tt ∙ sym (stepped_still mint number n h k tt)
without_stepped true number n h (key.Tokens b) = refl
without_stepped false number n h (key.Tokens b) = refl

-- what stands beside a claim is a permission
needs_as : (a b : Heap) → ((l : ℤ) (p : ℕ) → a (key.Permission l p) ≡ b (key.Permission l p)) → (c : Claim) → Needs a c → Needs b c
needs_as a b same (claim.IsInit r l) n = tt
needs_as a b same (claim.MayWrite l i xs) n = tt
needs_as a b same (claim.MayUpdate l i xs) n = tt
needs_as a b same (claim.MayRead l i xs) n = (n.0, subst (λ (m : ℕ). 1 ≤ m) (same l n.0) n.1)

-- ---- while steps are made

-- as `Meets`, but of the thread's pieces alone it is known that they are possible
record Stepping (read : Ground) (t : Truth) (more under : Heap) (pool : List Atom) (zs : List Piece) : Type 0 where
  pub possible : IsPossible zs
  pub values : (r : Rung) (l x : ℤ) → 1 ≤ more (key.Cell r l) → t.value l ≡ Some x → value_in (all_placed AtPlain pool ++ zs) l ≡ Some x
  pub out : (l : ℤ) (p : ℕ) → 1 ≤ more (key.Permission l p) → (truth_of zs).out l p ≡ t.out l p
  pub bank : (b : ℤ) → 1 ≤ more (key.Bank b) → bank_in zs b ≡ t.bank b
  pub message : (l : ℤ) → more (key.Cell Msg l) ≤ demand pool (resource.Cell l)
  pub thread : Holds (without Msg more) under (heap_of zs)
  pub given : (l : ℤ) → Knows read (claim.IsInit Msg l) → knows_in (all_placed AtPlain pool) (claim.IsInit Msg l) ≡ true
  pub knows : (c : Claim) → of_message c ≡ false → Needs more c → Knows read c → Knows (ground_of zs) c

line_there : (m u x : ℕ) → 1 ≤ m → m + u ≤ x → 1 ≤ x
line_there m u x a b = omega arith

-- what the path has of the thread is there
thread_has : (more under : Heap) (zs : List Piece) → Holds (without Msg more) under (heap_of zs) → (k : Key) → 1 ≤ without Msg more k → 1 ≤ heap_of zs k
thread_has more under zs thread k some = line_there (without Msg more k) (under k) (heap_of zs k) some (thread k)

begins : {read : Ground} {more under : Heap} {pool : List Atom} {zs : List Piece} → Meets read more under pool zs → Stepping read read.truth more under pool zs
begins {more = more} {under = under} {pool = pool} {zs = zs} meets =
    let f = front_is_kept (all_placed AtPlain pool) zs meets.possible in
    let has = thread_has more under zs meets.thread in
    record {
      possible = f.possible;
      values = meets.agrees.value;
      out = λ l p some. sym (f.behind.agrees.out l p (has (key.Permission l p) some)) ∙ meets.agrees.out l p some;
      bank = λ b some. sym (f.behind.agrees.bank b (has (key.Bank b) some)) ∙ meets.agrees.bank b some;
      message = meets.message;
      thread = meets.thread;
      given = meets.given;
      knows = meets.knows;
    }

ends : {read : Ground} {t : Truth} {more under : Heap} {pool : List Atom} {zs : List Piece} → Stepping read t more under pool zs → IsPossible (all_placed AtPlain pool ++ zs)
    → Meets (grounded read t) more under pool zs
ends {more = more} {under = under} {pool = pool} {zs = zs} now possible =
    let f = front_is_kept (all_placed AtPlain pool) zs possible in
    let has = thread_has more under zs now.thread in
    record {
      possible = possible;
      agrees = record {
        value = now.values;
        out = λ l p some. f.behind.agrees.out l p (has (key.Permission l p) some) ∙ now.out l p some;
        bank = λ b some. f.behind.agrees.bank b (has (key.Bank b) some) ∙ now.bank b some;
      };
      message = now.message;
      thread = now.thread;
      given = now.given;
      knows = now.knows;
    }

-- ---- one step

-- behind the message, what the thread says of values is said still
values_then : (ps zs ws : List Piece) (l x : ℤ) → (value_in zs l ≡ Some x → value_in ws l ≡ Some x) → value_in (ps ++ zs) l ≡ Some x → value_in (ps ++ ws) l ≡ Some x
values_then [] zs ws l x f h = f h
values_then (p ∷ ps) zs ws l x f h = by_case (value_by p.atom l) h (values_then ps zs ws l x f)
  where
    by_case : (o : Option ℤ) → or_else o (value_in (ps ++ zs) l) ≡ Some x → (value_in (ps ++ zs) l ≡ Some x → value_in (ps ++ ws) l ≡ Some x) → or_else o (value_in (ps ++ ws) l) ≡ Some x
    by_case None e more = more e
    by_case (Some w) e more = e

step_made : {read : Ground} {t : Truth} {more under : Heap} {pool : List Atom} {zs ws : List Piece} (mint : Bool) (number : ℤ) (n : ℕ) → 1 ≤ more (key.Bank number)
    → Stepping read t more under pool zs → Renumbered number (stepped mint (bank_in zs number) (pos n)) (tokens_stepped mint number n (without Msg more)) under zs ws
    → Stepping read (allowing number (stepped mint (t.bank number) (pos n)) t) (tokens_stepped mint number n more) under pool ws
step_made {read = read} {t = t} {more = more} {under = under} {pool = pool} {zs = zs} {ws = ws} mint number n there now made = record {
  possible = made.possible;
  values = λ r l x some is. values_then (all_placed AtPlain pool) zs ws l x (made.values l x) (now.values r l x (before (key.Cell r l) tt some) is);
  out = λ l p some. made.agrees.out l p (threads (key.Permission l p) tt some) ∙ now.out l p (before (key.Permission l p) tt some);
  bank = λ b some.
      made.agrees.bank b (threads (key.Bank b) tt some)
      ∙ ap (λ (y : ℤ). if int_eq b number then stepped mint y (pos n) else bank_in zs b) (now.bank number there)
      ∙ ap (λ (y : ℤ). if int_eq b number then stepped mint (t.bank number) (pos n) else y) (now.bank b (before (key.Bank b) tt some));
  message = λ l. subst (λ (m : ℕ). m ≤ demand pool (resource.Cell l)) (sym (stepped_still mint number n more (key.Cell Msg l) tt)) (now.message l);
  thread = λ k. subst (λ (m : ℕ). m + under k ≤ heap_of ws k) (without_stepped mint number n more k) (made.parts k);
  given = now.given;
  knows = knows;
}
  where
    before : (k : Key) → IsStill k → 1 ≤ tokens_stepped mint number n more k → 1 ≤ more k
    before k still some = subst (λ (m : ℕ). 1 ≤ m) (stepped_still mint number n more k still) some

    -- a key that isn't a cell of the message
    threads : (k : Key) → IsStill k → 1 ≤ without Msg (tokens_stepped mint number n more) k → 1 ≤ tokens_stepped mint number n (without Msg more) k
    threads k still some = subst (λ (m : ℕ). 1 ≤ m) (sym (without_stepped mint number n more k)) some

    knows : (c : Claim) → of_message c ≡ false → Needs (tokens_stepped mint number n more) c → Knows read c → Knows (ground_of ws) c
    knows c other needs known =
        let was = needs_as (tokens_stepped mint number n more) more (λ l p. stepped_still mint number n more (key.Permission l p) tt) c needs in
        let is = needs_as more (tokens_stepped mint number n (without Msg more)) (λ l p. sym (stepped_still mint number n (without Msg more) (key.Permission l p) tt)) c was in
        made.knows c is (now.knows c other was known)

-- ---- all steps

shift_all : {K : List Piece → Type 0} {read : Ground} {under : Heap} {pool : List Atom} (slots : List ℤ) (steps : List Step) (t : Truth) (more : Heap) {zs : List Piece} → Stepping read t more under pool zs → AllMayStep slots steps more
    → ((ws : List Piece) → Kept zs under ws → Stepping read (steps_truth slots steps t) (steps_heap slots steps more) under pool ws → K ws) → Shifts K zs
shift_all {under = under} slots [] t more {zs = zs} now may goes = shift.stays (goes zs (kept_self zs under) now)
shift_all {read = read} {under = under} {pool = pool} slots (x ∷ xs) t more now may goes =
    let number = bank_number x.bank slots in
    let n = amount_of (exact x.n slots) in
    step_shifts (without Msg more) x.mint number n now.possible now.thread may.0.there may.0.enough (λ ws made.
    let next = step_made x.mint number n may.0.there now made in
    shift_all slots xs (step_truth slots x t) (step_heap slots x more)
    (subst (λ (z : ℤ). Stepping read (allowing number (stepped x.mint (t.bank number) z) t) (tokens_stepped x.mint number n more) under pool ws) (sym may.0.is) next) may.1
    (λ vs kept last. goes vs (kept_then made.kept kept) last))

-- tokens are minted and burned as the path does; behind the last step, the message and the thread still meet
pub steps_shift : {read : Ground} {more under : Heap} {pool : List Atom} {zs : List Piece} (slots : List ℤ) (steps : List Step) (K : List Piece → Type 0)
    → Meets read more under pool zs → AllMayStep slots steps more
    → ((ws : List Piece) → Kept zs under ws → (IsPossible (all_placed AtPlain pool ++ ws) → Meets (grounded read (steps_truth slots steps read.truth)) (steps_heap slots steps more) under pool ws) → K ws)
    → Shifts K zs
steps_shift {read = read} {more = more} slots steps K meets may goes = shift_all slots steps read.truth more (begins meets) may (λ ws kept last. goes ws kept (λ both. ends last both))
