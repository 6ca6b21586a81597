use Rattle.std.proofs.Common.{rules, arith, ◌≡◌, ◌<◌, ◌≤◌, List, All, length, sym, ap, subst, ◌∙◌}
use Rattle.fsl_core.specs.declared.verdict.Verdict.TheVariants.{Accepted}
use Rattle.fsl_check.specs.Ends.{EndsWell, IsEnded}
use Rattle.fsl_check.proofs.Judging.{accepted, failed, not_lost}
use Rattle.fsl_check.proofs.check.check_all.Goals as goal
use Rattle.fsl_check.proofs.check.check_all.Goals.{In_ok-passes}

-- what the workers left, by the clause of the closure that each of them ran
ended : (g : _) (c : In_ok-passes g) → IsEnded c.in_ok-claims.field-0.claims (g.W.Work.outcomes c.args.work.now) (length c.from_vec.result) c.in_ok-passes.field-0
ended g c = c.in_ok-passes.ensures c.in_ok-claims.field-0.claims (g.W.Work.outcomes c.args.work.now)
    (subst (All (EndsWell c.in_ok-claims.field-0.claims (g.W.Work.outcomes c.args.work.now))) (sym c.from_vec.ensures)
    (λ i d below. (c.in_ok-ends.ensures.each i d (omega (arith, below, c.in_ok-ends.ensures.len))).1.call.met))

count : (g : _) (c : In_ok-passes g) → length c.in_ok-passes.field-0.passes ≡ c.args.workers
count g c = let all = (ended g c).count in let ends = ap length c.from_vec.ensures in let len = c.in_ok-ends.ensures.len in let jobs = ap length c.into_vec.ensures in let made = c.in_ok-claims.ensures.count in
    omega (arith, all, ends, len, jobs, made)

some_pass : (g : _) (c : In_ok-passes g) → 0 < length c.in_ok-passes.field-0.passes
some_pass g c = let all = count g c in let least = c.requires.0 in omega (arith, all, least)

size : (g : _) (c : In_ok-passes g) → c.in_ok-claims.field-0.claims.units ≡ length (g.W.Work.outcomes c.args.work.now)
size g c = c.in_ok-claims.ensures.claims.0 ∙ c.units-units.ensures

pub gather-requires-clause-of : goal.gather-requires-clause-of
gather-requires-clause-of g c = λ k d below. ((ended g c).each k d below).of_claims

pub gather-requires-clause-all : goal.gather-requires-clause-all
gather-requires-clause-all g c = count g c ∙ sym c.in_ok-claims.ensures.claims.1

pub returns-in_default : goal.returns-in_default
returns-in_default g c = let b = (goal.at.returns-in_default g c).In_ok-passes in let e = ended g b in
    ap Accepted (sym c.in_ok-claims.ensures.claims.0) ∙ accepted _ _ _ e.each (some_pass g b) _ (size g b) c.in_default.ensures.seen c.in_default.ensures.drawn c.in_default.ensures.none_below

pub unreachable-requires : goal.unreachable-requires
unreachable-requires g c = let b = (goal.at.unreachable-requires g c).In_ok-passes in let e = ended g b in
    not_lost _ _ _ e.each (some_pass g b) _ (size g b) c.in-Some.ensures.seen c.in-Some.ensures.drawn _ _ c.in-Some.ensures.some.0 c.in-Some.ensures.some.1 c.in_default-failure.is e.finds

pub returns : goal.returns
returns g c = let b = (goal.at.returns g c).In_ok-passes in let e = ended g b in
    c.verdict.ensures ∙ failed _ _ _ e.each (some_pass g b) _ (size g b) c.in-Some.ensures.seen c.in-Some.ensures.drawn c.in-Some-failure.failure _ c.in-Some-failure.is e.finds
