use Rattle.fsl_types.proofs.NamesLemmas.{copied_name, no_name}
use Rattle.fsl_types.proofs.declarations.name_text.Goals as goal

pub returns-in-Ok : goal.returns-in-Ok
returns-in-Ok c =
    copied_name c.args.bytes.now c.args.name c.text_at.result.now c.in-Ok.text.now c.from_str.result c.text_at.ensures c.in-Ok.ensures.cases.0 c.in-Ok.ensures.cases.1 c.from_str.ensures

pub returns-in-Err : goal.returns-in-Err
returns-in-Err c = no_name c.args.bytes.now c.args.name c.text_at.result.now c.new.result c.text_at.ensures c.in-Err.ensures.cases.0 c.new.ensures
