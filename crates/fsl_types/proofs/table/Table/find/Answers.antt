use Rattle.std.proofs.Common.{◌≡◌, take, sym, ap, ◌∙◌, is_some}
use Rattle.std.specs.Option.{option_copied}
use Rattle.std.specs.Str.{bytes_eq}
use Rattle.fsl_types.specs.Names.{found, with_name}
use Rattle.fsl_types.proofs.TableLemmas.{lookup_in_sight}
use Rattle.fsl_types.proofs.table.Table.find.Goals as goal

pub returns : goal.returns
returns g c =
    c.get.ensures.value ∙ lookup_in_sight (bytes_eq c.args.name.now) c.self.inside.names.entries
    ∙ ap (λ es. found c.args.name.now es) c.self.view_is
