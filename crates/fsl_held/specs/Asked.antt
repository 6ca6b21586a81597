-- Assertions and contracts over atoms: what it is that atoms satisfy an assertion, and the logic of a program, in which
-- a thread starts with its `requires`, owes its `ensures`, and messages hold the parts of invariants.
use Rattle.std.specs.Prelude.{ℕ, ◌≡◌, ◌+◌, ◌≤◌, Bool, true, false, List, [], ◌∷◌, ◌++◌, length, Option, Some, None, ℤ, slice_get}
use Rattle.fsl_core.specs.declared.assertion.Asrt.{Asrt}
use Rattle.fsl_core.specs.declared.declaration.Proc.{Proc}
use Rattle.fsl_core.specs.declared.mode.Rung.TheVariants.{Plain}
use Rattle.fsl_core.specs.declared.need.Started.{Started}
use Rattle.fsl_core.specs.Programs.{Program}
use Rattle.fsl_core.specs.Scopes.{Sees, in_body, behind_requires}
use Rattle.fsl_meaning.specs.Heaps.{Key, AllKnown}
use Rattle.fsl_meaning.specs.Means.{padded_numbers}
use Rattle.fsl_asserted.specs.Needs.{Need, asks}
use Rattle.fsl_asserted.specs.Carried.{IsPlain}
use Rattle.fsl_kept.specs.Parts.{Part, parts_in}
use Rattle.fsl_own.specs.Owning.{Deal}
use Rattle.fsl_own.specs.Atoms.{Atom}
use Rattle.fsl_good.specs.Pieces.{together, AtPlain, Piece, all_placed, Entails, IsPossible}
use Rattle.fsl_good.specs.Good.{Logic}
use Rattle.fsl_held.specs.Heaps.{heap_of, truth_of, ground_of, Kept}

-- by what the pieces say, an assertion asks for a need at plain, whose claims are known
pub record Asked (xs : List Piece) (a : Asrt) (env : List ℤ) (n : Need) : Type 0 where
  pub is : asks (truth_of xs) a Plain env ≡ Some n
  pub known : AllKnown (ground_of xs) n.claims

-- atoms have what an assertion asks for, by what they say themselves
pub record Satisfies (a : Asrt) (env : List ℤ) (n : Need) (ys : List Atom) : Type 0 where
  pub asked : Asked (all_placed AtPlain ys) a env n
  pub enough : (k : Key) → n.heap k ≤ heap_of (all_placed AtPlain ys) k

-- what an assertion asks for was taken out of the pieces `xs`
pub record Parted (a : Asrt) (env : List ℤ) (n : Need) (xs : List Piece) : Type 0 where
  pub atoms : List Atom
  pub rest : List Piece
  pub gives : Entails xs (all_placed AtPlain atoms ++ rest)
  pub satisfies : Satisfies a env n atoms
  pub left : (k : Key) → heap_of xs k ≡ heap_of rest k + n.heap k
  pub kept : Kept xs (heap_of rest) rest
  pub possible : IsPossible rest

-- ---- the logic of a program

-- what a thread owes: an `ensures` with the numbers that its `requires` left; `main` owes nothing
pub data Debt : Type 0 where
  owes_nothing : Debt
  owes : (post : Asrt) (env : List ℤ) → Debt

abbrev pub OwedFor : Program → Debt → Proc → List ℤ → Type 0
OwedFor p owes_nothing q env = Unit {0}
OwedFor p (owes post e) q env = (post ≡ q.post) × (e ≡ env) × IsPlain p.invs post

-- the atoms are the `requires` of a call, for some numbers of its parameters: those of the call, where code reads them
pub record StartsWith (p : Program) (o : Debt) (call : Started) (ys : List Atom) : Type 0 where
  pub proc : Proc
  pub is : slice_get p.procs call.proc ≡ Some proc
  pub numbers : List ℤ
  pub long : length numbers ≡ proc.params
  pub given : length call.args ≡ proc.params
  pub need : Need
  pub satisfies : Satisfies proc.pre (padded_numbers proc.slots numbers) need ys
  pub sees : Sees (in_body (behind_requires proc)) (padded_numbers proc.slots call.args) need.env
  pub owed : OwedFor p o proc need.env

abbrev pub Pays : Debt → ℤ → List Atom → Type 0
Pays owes_nothing v ys = Unit {0}
Pays (owes post env) v ys = (n : Need) × Satisfies post (env ++ v ∷ []) n ys

-- the part of an invariant, where there is one
abbrev pub PartAsks : Option Part → List Atom → Type 0
PartAsks None ys = Unit {0}
PartAsks (Some part) ys = (n : Need) × Satisfies part.asrt part.numbers n ys

abbrev pub EachAsks : List Part → List (List Atom) → Type 0
EachAsks [] [] = Unit {0}
EachAsks (part ∷ parts) (ys ∷ yss) = PartAsks (Some part) ys × EachAsks parts yss
EachAsks _ _ = ⊥

-- all parts together
pub record AllAsk (parts : List Part) (ys : List Atom) : Type 0 where
  pub atoms : List (List Atom)
  pub are : ys ≡ together atoms
  pub each : EachAsks parts atoms

-- a read-modify-write takes all parts, and a load one of them
abbrev pub AsksBy : Bool → List Part → ℕ → List Atom → Type 0
AsksBy true parts part ys = AllAsk parts ys
AsksBy false parts part ys = PartAsks (slice_get parts part) ys

abbrev pub InvariantAsks : Program → Deal → ℕ → ℤ → List Atom → Type 0
InvariantAsks p d part v ys = AsksBy d.rmw (parts_in p d.inv d.args v) part ys

abbrev pub logic_of : Program → Logic
logic_of p = record { Owed = Debt; starts = StartsWith p; pays = Pays; asks = InvariantAsks p }
