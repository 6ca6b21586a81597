use Rattle.std.proofs.Common.{◌≡◌, ◌∙◌, ap, rules, slice_set, ℤ, w64, to_z, of_z, SFits}
use Rattle.std.proofs.lemmas.Int.{to_z-of_z}
use Rattle.fsl_moves.proofs.MovesLemmas.{exchanges_as}
use Rattle.fsl_moves.proofs.accesses.exchanged.Goals as goal

pub returns-in-Read : goal.returns-in-Read
returns-in-Read c = λ p steps.
    let read = c.in-Read.value in
    let whole : (x : ℤ) → SFits w64 x → to_z w64 (of_z w64 x) ≡ x = λ x fits. to_z-of_z w64 x fits in
    let at = whole c.in-Some.loc (search rules) in
    let from = whole c.in-Some-eval.old (search rules) in
    let into = whole c.in-Some-eval-2.new (search rules) in
    let same = whole read (search rules) in
    let sets = c.set.ensures ∙ ap (λ (v : ℤ). slice_set c.args.env.now c.args.slot v) same in
    exchanges_as p c.args.slot c.args.modes.0 c.args.modes.1 c.args.at.now c.args.old.now c.args.new.now steps c.args.env.now c.set.new.env c.args.reply.now
    c.in-Some.loc c.in-Some-eval.old c.in-Some-eval-2.new read _ _ _ c.shown.result
    c.in-Some.ensures c.in-Some-eval.ensures c.in-Some-eval-2.ensures c.in-Read.is sets at from into c.shown.ensures
