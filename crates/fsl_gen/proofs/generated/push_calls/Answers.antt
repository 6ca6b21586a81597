use Rattle.std.proofs.Common.{rules, codes, ◌≡◌, ◌+◌}
use Rattle.fsl_gen.specs.Generated.{call, numbered}
use Rattle.fsl_gen.proofs.GeneratedLemmas.{each_next}
use Rattle.fsl_gen.proofs.generated.push_calls.Goals as goal

pub loop-i-preserved : goal.loop-i-preserved
loop-i-preserved c =
    let line : c.as_str.result.now ≡ call (numbered (codes "pair") (c.loop-i.i + 1)) = search rules in
    each_next (λ i. call (numbered (codes "pair") i)) _ _ _ _ c.loop-i.i c.args.n c.loop-i-test.true line c.in_ok-push_str.ensures.pushed c.loop-i.invariant
