use Rattle.std.proofs.Common.{refl, sym, ◌∙◌, ap}
use Rattle.std.specs.Str.{bytes_eq}
use Rattle.std.proofs.lemmas.Option.{slice_get_read}
use Rattle.fsl_base.proofs.Shelves.{found, at_start}
use Rattle.fsl_base.proofs.mem_shelf.find.Goals as goal

pub returns-then-eq-clause-found : goal.returns-then-eq-clause-found
returns-then-eq-clause-found c =
    let there = slice_get_read c.args.files.now _ c.loop-number.number c.index-files-number.result refl c.loop-number-test.true c.index-files-number.is in
    let same = ap (λ name. bytes_eq name c.args.name.now) (sym c.as_str.ensures) ∙ sym c.eq.ensures ∙ c.if-eq.true in
    found c.args.files.now c.loop-number.number c.index-files-number.result c.args.name.now there same c.loop-number.invariant

pub returns-then-eq-clause-placed : goal.returns-then-eq-clause-placed
returns-then-eq-clause-placed c =
    let there = slice_get_read c.args.files.now _ c.loop-number.number c.index-files-number.result refl c.loop-number-test.true c.index-files-number.is in
    at_start c.args.files.now c.loop-number.number c.index-files-number.result there
