use Rattle.std.proofs.Common.{◌≡◌, take, sym, ap, ◌∙◌, is_some}
use Rattle.std.specs.Option.{option_copied}
use Rattle.std.specs.Str.{bytes_eq}
use Rattle.fsl_types.specs.Names.{found, with_name}
use Rattle.fsl_types.proofs.TableLemmas.{in_sight, lookup_in_sight, is_some_copied, inserted_name, with_name_there}
use Rattle.fsl_types.proofs.table.Table.declare.Goals as goal

pub returns-then-is_some : goal.returns-then-is_some
returns-then-is_some g c =
    let found_is = c.get.ensures.value ∙ lookup_in_sight (bytes_eq c.args.name.now) c.self.inside.names.entries ∙ ap (λ es. found c.args.name.now es) c.self.view_is in
    record { declared = with_name_there c.args.name.now c.args.value c.args.self.now (sym (ap is_some found_is) ∙ sym (is_some_copied c.get.result) ∙ sym c.is_some.ensures ∙ c.if-is_some.true) }

pub returns : goal.returns
returns g c =
    let found_is = c.get.ensures.value ∙ lookup_in_sight (bytes_eq c.args.name.now) c.self.inside.names.entries ∙ ap (λ es. found c.args.name.now es) c.self.view_is in
    record { declared = ap in_sight c.in_ok-insert.ensures.entries ∙ inserted_name c.self.inside.names c.args.name c.args.value c.args.self.now c.self.view_is (sym (ap is_some found_is) ∙ sym (is_some_copied c.get.result) ∙ sym c.is_some.ensures ∙ c.if-is_some.false) }
