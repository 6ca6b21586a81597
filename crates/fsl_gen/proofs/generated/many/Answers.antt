use Rattle.std.proofs.Common.{codes, ◌++◌, ap, ◌∙◌}
use Rattle.fsl_gen.specs.Generated.{call, counter, each, flag, numbered, passing, spin_lock}
use Rattle.fsl_gen.proofs.GeneratedLemmas.{in_a_row}
use Rattle.fsl_gen.proofs.generated.many.Goals as goal

pub returns : goal.returns
returns c =
    in_a_row flag (each passing 1 c.args.n) (spin_lock (codes "lock")) (counter (codes "count")) (codes "proc main() {\n")
    (each (λ i. call (numbered (codes "pair") i)) 1 c.args.n) (call (codes "lock") ++ (call (codes "count") ++ codes "}\n")) _ _ _ _ _ _
    (c.in_ok-push_pairs.ensures ∙ ap (λ xs. xs ++ each passing 1 c.args.n) c.in_ok-text.ensures) c.in_ok-push_str.ensures.pushed c.in_ok-push_str-2.ensures.pushed c.in_ok-push_str-3.ensures.pushed
    c.in_ok-push_calls.ensures c.in_ok-push_str-4.ensures.pushed
