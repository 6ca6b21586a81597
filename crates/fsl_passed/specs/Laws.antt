-- The laws of passing on and of keeping, as words.
use Rattle.std.specs.Prelude.{Bool, List, [], ℤ}
use Rattle.fsl_core.specs.declared.assertion.Asrt.{Asrt}
use Rattle.fsl_core.specs.declared.mode.Rung.{Rung}
use Rattle.fsl_core.specs.declared.mode.Rung.TheVariants.{Msg}
use Rattle.fsl_core.specs.logic.Assertions.{asrt_of}
use Rattle.fsl_core.specs.logic.Locations.{Piece, pass_parts}
use Rattle.fsl_core.specs.logic.Messages.{Held}
use Rattle.fsl_core.specs.logic.States.{State}
use Rattle.fsl_core.specs.logic.Updates.{keep}
use Rattle.fsl_lin.specs.Numbers.{Numbers}
use Rattle.fsl_meaning.specs.Heaps.{Heap, Holds, IsInit, Ground, Knows, IsBounded}
use Rattle.fsl_meaning.specs.States.{Owns, All, Fits}
use Rattle.fsl_meaning.specs.Branches.{Lands}
use Rattle.fsl_asserted.specs.Needs.{asks}
use Rattle.fsl_kept.specs.Parts.{Part, parts_asked, ArePieces}
use Rattle.fsl_passed.specs.Passing.{chunks_of, AllHeld, Passes, PassFits}
use Rattle.fsl_passed.specs.Keeping.{gained_at, Keeps}

-- passed on, an assertion takes what it asks for from the message first, and what lacks from the thread
abbrev pub AsrtPasses : Type 0
AsrtPasses = (g : Ground) (a : Asrt) → PassFits g (asrt_of a).pass (asks g.truth a)

-- so do all parts of an invariant, one after the other
abbrev pub PartsPass : Type 0
PartsPass = (g : Ground) (second : Rung) (past message thread : Heap) (slots : List ℤ) (v : Numbers) (s : State) (xs : List Piece) (ps : List Part) (held : List Held)
    → Fits slots (All g thread) v s
    → ArePieces s.next v xs ps → Owns g s.next v (chunks_of held) message → AllHeld s.next v past held
    → Lands s.next v (λ hs t w. Passes g slots second past (parts_asked g.truth second ps) message thread (record { env = []; held = hs }) t w) (pass_parts second xs held s)

-- what is left of the message is the thread's, where it may be
abbrev pub KeepFits : Type 0
KeepFits = (g : Ground) (slots : List ℤ) (acquiring : Bool) (past message thread more : Heap) (v : Numbers) (s : State) (held : List Held)
    → ((l : ℤ) → Knows g (IsInit Msg l) → Knows g (IsInit (gained_at acquiring) l)) → Fits slots (All g thread) v s → Owns g s.next v (chunks_of held) message → AllHeld s.next v past held
    → Holds message thread more → IsBounded g.truth more → Lands s.next v (λ u t w. Keeps g slots acquiring past message thread t w) (keep acquiring held s)
