use Rattle.std.proofs.Common.{rules}
use Rattle.test_facts.proofs.facts.marks.marks_are_put_back.Goals as goal

pub back-requires : goal.back-requires
back-requires g c = search rules
