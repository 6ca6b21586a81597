use Rattle.std.proofs.Common.{rules}
use Rattle.std.proofs.lemmas.Fn.{always_returns_same}
use Rattle.fsl_view.specs.declared.entry.Entry.{Entry}
use Rattle.fsl_view.proofs.EntriesLemmas.{index_from}
use Rattle.fsl_view.proofs.entries.find.Goals as goal

pub returns : goal.returns
returns c =
    index_from _ _ _ c.binary_search_by_key.ensures.bound
    (c.binary_search_by_key.ensures.position (λ (e : Entry). e.loc) (always_returns_same _ _ _ (λ a r q k. search rules)))
    c.requires.ascends
