-- All parts of an invariant passed on.
use Rattle.std.proofs.Common.{◌≡◌, ℕ, ◌+◌, ◌≤◌, List, [], ◌∷◌, ℤ, refl, sym, subst, ◌∙◌, arith}
use Rattle.fsl_core.specs.declared.mode.Rung.{Rung}
use Rattle.fsl_core.specs.declared.mode.Rung.TheVariants.{Msg}
use Rattle.fsl_core.specs.logic.States.{State}
use Rattle.fsl_core.specs.logic.Assertions.{Assertion}
use Rattle.fsl_core.specs.logic.Locations.{Piece, pass_parts}
use Rattle.fsl_core.specs.logic.Messages.{Held}
use Rattle.fsl_lin.specs.Numbers.{Numbers}
use Rattle.fsl_meaning.specs.Heaps.{Heap, nothing, Ground}
use Rattle.fsl_meaning.specs.States.{Owns, All, Fits}
use Rattle.fsl_meaning.specs.Branches.{Lands}
use Rattle.fsl_meaning.proofs.Terms.{grows_here, all_none}
use Rattle.fsl_meaning.proofs.Calculus.{lands_then, lands_give, lands_as}
use Rattle.fsl_asserted.specs.Needs.{need, asks, both_asked}
use Rattle.fsl_asserted.proofs.Asking.{value_is}
use Rattle.fsl_kept.specs.Changes.{lifted}
use Rattle.fsl_kept.specs.Parts.{Part, parts_asked, EachPiece, ArePieces}
use Rattle.fsl_kept.proofs.Parts.{pieces_more}
use Rattle.fsl_passed.specs.Passing.{chunks_of, AllHeld, Passes}
use Rattle.fsl_passed.proofs.Holding.{held_more, lifted_nothing, lifted_both, passed_both}
use Rattle.fsl_passed.proofs.Passes.{line_parts, line_needs, line_past, pass_fits}

line_none : (a : ℕ) → a ≡ a + 0
line_none a = omega arith

line_same : (n a : ℕ) → n ≡ 0 → a ≡ n + a
line_same n a e = omega arith

line_more : (a b : ℕ) → a ≤ a + b
line_more a b = omega arith

each_passed : (g : Ground) {slots : List ℤ} {v : Numbers} {s : State} (second : Rung) (past message thread : Heap) (xs : List Piece) (ps : List Part) (held : List Held)
    → Fits slots (All g thread) v s
    → EachPiece s.next v xs ps → Owns g s.next v (chunks_of held) message → AllHeld s.next v past held
    → Lands s.next v (λ hs t w. Passes g slots second past (parts_asked g.truth second ps) message thread (record { env = []; held = hs }) t w) (pass_parts second xs held s)
each_passed g {s = s} second past message thread [] [] held fit each owns is_held = lands_give held s (record {
  need = need nothing [] [];
  is = refl;
  known = tt;
  given = nothing;
  kept = message;
  added = nothing;
  left = thread;
  message_is = λ q. line_none (message q);
  thread_is = λ q. line_none (thread q);
  need_is = λ q. line_same (lifted Msg second nothing q) (nothing q) (lifted_nothing Msg second q);
  fits = fit;
  owns = owns;
  held = held_more (λ q. past q + nothing q) grows_here (λ q. line_more (past q) (nothing q)) is_held;
  env = all_none;
})
each_passed g second past message thread [] (p ∷ ps) held fit each owns is_held = absurd each
each_passed g second past message thread (x ∷ xs) [] held fit each owns is_held = absurd each
each_passed g {slots = slots} {v = v} {s = s} second past message thread (x ∷ xs) (p ∷ ps) held fit each owns is_held =
    let asked = asks g.truth p.asrt second p.numbers in
    let first : Lands s.next v (λ t u w. Passes g slots second past asked message thread t u w) (x.asrt.pass second (record { env = x.env; held = held }) s) =
    subst (λ (q : Assertion). Lands s.next v (λ t u w. Passes g slots second past asked message thread t u w) (q.pass second (record { env = x.env; held = held }) s)) (sym each.0)
    (pass_fits g p.asrt second past message thread slots v s x.env held p.numbers fit owns is_held each.1) in
    lands_then first (λ t u w r a.
    lands_as (each_passed g second (λ k. past k + a.given k) a.kept a.left xs ps t.held a.fits (pieces_more {xs = xs} {ps = ps} r (record { each = each.2 })).each a.owns a.held)
    (λ hs u2 w2 r2 b. record {
      need = both_asked a.need b.need;
      is = value_is asked a.need _ a.is ∙ value_is (parts_asked g.truth second ps) b.need _ b.is;
      known = passed_both g second a.need.claims b.need.claims a.known b.known;
      given = λ k. a.given k + b.given k;
      kept = b.kept;
      added = λ k. a.added k + b.added k;
      left = b.left;
      message_is = λ k. line_parts (message k) (a.kept k) (a.given k) (b.kept k) (b.given k) (a.message_is k) (b.message_is k);
      thread_is = λ k. line_parts (thread k) (a.left k) (a.added k) (b.left k) (b.added k) (a.thread_is k) (b.thread_is k);
      need_is = λ k. line_needs (a.need.heap k) (b.need.heap k) (lifted Msg second a.given k) (a.added k) (lifted Msg second b.given k) (b.added k) (lifted Msg second (λ j. a.given j + b.given j) k)
          (a.need_is k) (b.need_is k) (lifted_both Msg second a.given b.given k);
      fits = b.fits;
      owns = b.owns;
      held = held_more (λ k. past k + (a.given k + b.given k)) grows_here (λ k. line_past (past k) (a.given k) (b.given k)) b.held;
      env = b.env;
    }))

pub parts_passed : {g : Ground} {slots : List ℤ} {v : Numbers} {s : State} {thread : Heap} {xs : List Piece} {ps : List Part} (second : Rung) (past message : Heap) (held : List Held)
    → Fits slots (All g thread) v s
    → ArePieces s.next v xs ps → Owns g s.next v (chunks_of held) message → AllHeld s.next v past held
    → Lands s.next v (λ hs t w. Passes g slots second past (parts_asked g.truth second ps) message thread (record { env = []; held = hs }) t w) (pass_parts second xs held s)
parts_passed {g = g} {thread = thread} {xs = xs} {ps = ps} second past message held fit are owns is_held = each_passed g second past message thread xs ps held fit are.each owns is_held
