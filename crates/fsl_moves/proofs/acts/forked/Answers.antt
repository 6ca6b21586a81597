use Rattle.std.proofs.Common.{◌≡◌, true, rules, arith, subst}
use Rattle.std.specs.Option.{is_some}
use Rattle.fsl_core.specs.declared.act.Act.TheOpen.{Act-F}
use Rattle.fsl_core.specs.declared.need.Reply.{Reply}
use Rattle.fsl_core.specs.Moves.{started_of}
use Rattle.fsl_moves.specs.Moves.{CanNumber}
use Rattle.fsl_moves.proofs.ActsLemmas.{have_numbers, starts}
use Rattle.fsl_moves.proofs.acts.forked.Goals as goal

pub overflow_cast-count : goal.overflow_cast-count
overflow_cast-count c =
    let p = c.args.p.now in
    let calls = c.args.calls.now in
    let possible : is_some (started_of p calls c.args.env.now) ≡ true = search rules in
    let numbers = have_numbers p calls c.args.env.now c.in-Threads.first possible
    (subst (λ (r : Reply). CanNumber p (Act-F.Par calls) c.args.env.now r) c.in-Threads.is c.requires) in
    omega (arith, numbers, c.len-count.ensures)

pub numbers-requires : goal.numbers-requires
numbers-requires c =
    let p = c.args.p.now in
    let calls = c.args.calls.now in
    let possible : is_some (started_of p calls c.args.env.now) ≡ true = search rules in
    let numbers = have_numbers p calls c.args.env.now c.in-Threads.first possible
    (subst (λ (r : Reply). CanNumber p (Act-F.Par calls) c.args.env.now r) c.in-Threads.is c.requires) in
    omega (arith, numbers, c.len-count.ensures)

pub returns-clause-done : goal.returns-clause-done
returns-clause-done c = λ stmt rest target fs.
    let p = c.args.p.now in
    let calls = c.args.calls.now in
    let possible : is_some (started_of p calls c.args.env.now) ≡ true = search rules in
    rw (c.in-Threads.is, c.in_ok-numbers.ensures, c.len-count.ensures)
    (starts p calls c.args.env.now c.in-Threads.first possible stmt rest target fs)

pub returns-clause-numbered : goal.returns-clause-numbered
returns-clause-numbered c =
    let p = c.args.p.now in
    let calls = c.args.calls.now in
    let possible : is_some (started_of p calls c.args.env.now) ≡ true = search rules in
    let numbers = have_numbers p calls c.args.env.now c.in-Threads.first possible
    (subst (λ (r : Reply). CanNumber p (Act-F.Par calls) c.args.env.now r) c.in-Threads.is c.requires) in
    omega (arith, numbers, c.len-count.ensures)
