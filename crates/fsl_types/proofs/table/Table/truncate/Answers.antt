use Rattle.std.proofs.Common.{◌≡◌, take, sym, ap, ◌∙◌, is_some}
use Rattle.std.specs.Option.{option_copied}
use Rattle.std.specs.Str.{bytes_eq}
use Rattle.fsl_types.specs.Names.{found, with_name}
use Rattle.std.proofs.lemmas.List.{take-map}
use Rattle.fsl_types.proofs.TableLemmas.{in_sight}
use Rattle.fsl_types.proofs.table.Table.truncate.Goals as goal

pub returns : goal.returns
returns g c =
    ap in_sight c.truncate.ensures.entries ∙ sym (take-map _ c.args.len c.self.inside.names.entries)
    ∙ ap (λ es. take c.args.len es) c.self.view_is
