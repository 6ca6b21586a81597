-- The graph of the moves so far is an execution.
use Rattle.std.proofs.Common.{◌≡◌, ℕ, zero, suc, true, List, [], ◌∷◌, Some, pos, ◌<ℤ◌, refl, ap, sym, subst, ◌∙◌, arith}
use Rattle.std.proofs.lemmas.Bool.{and_parts}
use Rattle.std.proofs.lemmas.Int.{ints}
use Rattle.std.specs.Prelude.{codes}
use Rattle.std.specs.Str.{bytes_eq}
use Rattle.fsl_core.specs.declared.label.Label.TheVariants as label
use Rattle.fsl_core.specs.declared.declaration.Proc.{Proc}
use Rattle.fsl_core.specs.Programs.{Program, main_of, named_from}
use Rattle.fsl_core.specs.Moves.{Config, start_of}
use Rattle.fsl_core.specs.Straight.{is_straight_proc, is_one_straight, is_straight, is_empty}
use Rattle.fsl_graph.specs.declared.graph.Thread.{Thread}
use Rattle.fsl_graph.specs.Execution.{Runs, IsExecution, IsThread, events_of, Starts}
use Rattle.fsl_graph.specs.Lone.{is_plain}
use Rattle.fsl_machine.specs.Serial.{IsSerial, IsPlaced}
use Rattle.fsl_machine.specs.States.{lone_graph}
use Rattle.fsl_machine.specs.History.{Trace}

named_main : (q : Proc) (qs : List Proc) → is_straight_proc q ≡ true → named_from 0 (q ∷ qs) ≡ Some 0
named_main q qs h =
    let name : bytes_eq q.name (codes "main") ≡ true = (and_parts _ _ (and_parts _ _ (and_parts _ _ (and_parts _ _ (and_parts _ _ (and_parts _ _ h).0).0).0).0).0).0 in
    rw name refl

main_first : (procs : List Proc) → is_one_straight procs ≡ true → named_from 0 procs ≡ Some 0
main_first [] h = cc
main_first (q ∷ []) h = named_main q [] h
main_first (q ∷ (r ∷ qs)) h = cc

-- the procedure of a straight program is `main`
pub main_is : (p : Program) → is_straight p ≡ true → main_of p ≡ Some 0
main_is p h = main_first p.procs ((and_parts (is_empty p.invs) (is_one_straight p.procs) h).1)

none_forked : (m : ℕ) (t : Trace) (e u : ℕ) → IsSerial t.events t.mo → Starts (lone_graph m t) e u → ⊥
none_forked m t e u kept s =
    let plain : is_plain (label.Fork s.children) ≡ true = sym (ap is_plain s.forks) ∙ kept.plain e s.event s.is in
    cc

only_thread : (m : ℕ) (t : Trace) (i : ℕ) (thread : Thread) → IsThread (lone_graph m t) i thread → (i ≡ 0) × (record { proc = 0; args = []; moves = m } ≡ thread)
only_thread m t zero thread is = (refl, cc)
only_thread m t (suc i) thread is = cc

positive : (i : ℕ) → pos 0 <ℤ pos (suc i)
positive i = omega (arith, ints)

pub is_execution : (p : Program) (m : ℕ) (t : Trace) (n : ℕ) (c : Config) → is_straight p ≡ true → IsSerial t.events t.mo → IsPlaced t.events n
    → Runs p (lone_graph m t) (start_of p 0 []) m (events_of (lone_graph m t) 0) c → IsExecution p (lone_graph m t) (λ i. c)
is_execution p m t n c straight kept placed runs = record {
  main = (record { proc = 0; args = []; moves = m }, refl, main_is p straight, refl);
  forked = λ i more under. absurd (omega arith);
  first = λ e s. none_forked m t e 0 kept s;
  once = λ d e i s r. absurd (none_forked m t d i kept s);
  known = λ e x is. (let zero_is = kept.thread e x is in omega arith);
  moves = λ i thread is. (let only = only_thread m t i thread is in
      subst (λ (x : Thread). Runs p (lone_graph m t) (start_of p x.proc x.args) x.moves (events_of (lone_graph m t) i) c) only.1
      (subst (λ j. Runs p (lone_graph m t) (start_of p 0 []) m (events_of (lone_graph m t) j) c) (sym only.0) runs));
  joined = λ e i v a. (let plain : is_plain (label.Join a.results) ≡ true = sym (ap is_plain a.joins) ∙ kept.plain e a.event a.is in cc);
  positive = λ e k l a. (let at = placed.within e k l (record { event = a.event; is = a.is; places = a.allocates }) in rw at.2 (positive at.0));
  distinct = λ d e j k l a b. placed.once d e j k l (record { event = a.event; is = a.is; places = a.allocates })
      (record { event = b.event; is = b.is; places = b.allocates });
}
