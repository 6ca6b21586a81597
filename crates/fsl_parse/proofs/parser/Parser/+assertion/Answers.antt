use Rattle.std.proofs.Common.{◌≡◌, ◌∙◌, sym, refl, ◌-◌}
use Rattle.fsl_token.specs.declared.kind.TokenKind.TheVariants as kind
use Rattle.fsl_grammar.specs.Heads.{is_next}
use Rattle.fsl_grammar.specs.ReadAssertions.{read_conjunct, read_atom, read_choice, read_raised, read_lowered, read_named_or_related}
use Rattle.fsl_grammar.proofs.Rooms.{agrees_by, is_choice, is_raised, is_lowered, is_named}
use Rattle.fsl_grammar.proofs.Turns.{going_stop, going_failed}
use Rattle.fsl_parse.proofs.parser.Parser.+assertion.Goals as goal

pub conjuncts-returns-in_err-conjunct-clause-agrees : goal.conjuncts-returns-in_err-conjunct-clause-agrees
conjuncts-returns-in_err-conjunct-clause-agrees n c =
    going_failed (is_next kind.Separate) (read_conjunct (read_atom c.args.room)) _ _ _ _ _ _ c.from_residual.ensures.1 c.conjuncts.invariant.going
    (sym c.is_next.ensures ∙ c.conjuncts-test.true) refl c.in_err-conjunct.ensures.agrees

pub conjuncts-returns-clause-agrees : goal.conjuncts-returns-clause-agrees
conjuncts-returns-clause-agrees n c =
    sym (going_stop (is_next kind.Separate) (read_conjunct (read_atom c.args.room)) _ _ _ c.conjuncts.invariant.going (sym c.is_next.ensures ∙ c.conjuncts-test.false))

pub atom-returns-then-is_next-2-clause-agrees : goal.atom-returns-then-is_next-2-clause-agrees
atom-returns-then-is_next-2-clause-agrees n c =
    agrees_by c.choice.result c.choice.new.self.rest.now (read_atom c.args.room) (read_choice c.args.room (read_atom (c.args.room - 1))) c.args.self.now.rest.now
    (is_choice c.args.room c.args.self.now.rest.now (sym c.is_next.ensures ∙ c.if-is_next.false) (sym c.is_next-else-is_next.ensures ∙ c.if-is_next-2.true))
    c.choice.ensures.agrees

pub atom-returns-then-is_next-3-clause-agrees : goal.atom-returns-then-is_next-3-clause-agrees
atom-returns-then-is_next-3-clause-agrees n c =
    agrees_by c.raised.result c.raised.new.self.rest.now (read_atom c.args.room) (read_raised c.args.room (read_atom (c.args.room - 1))) c.args.self.now.rest.now
    (is_raised c.args.room c.args.self.now.rest.now (sym c.is_next.ensures ∙ c.if-is_next.false) (sym c.is_next-else-is_next.ensures ∙ c.if-is_next-2.false) (sym c.is_next-else-is_next-2.ensures ∙ c.if-is_next-3.true))
    c.raised.ensures.agrees

pub atom-returns-then-is_next-4-clause-agrees : goal.atom-returns-then-is_next-4-clause-agrees
atom-returns-then-is_next-4-clause-agrees n c =
    agrees_by c.lowered.result c.lowered.new.self.rest.now (read_atom c.args.room) (read_lowered c.args.room (read_atom (c.args.room - 1))) c.args.self.now.rest.now
    (is_lowered c.args.room c.args.self.now.rest.now (sym c.is_next.ensures ∙ c.if-is_next.false) (sym c.is_next-else-is_next.ensures ∙ c.if-is_next-2.false) (sym c.is_next-else-is_next-2.ensures ∙ c.if-is_next-3.false) (sym c.is_next-else-is_next-3.ensures ∙ c.if-is_next-4.true))
    c.lowered.ensures.agrees

pub atom-returns-else-is_bank_next-clause-agrees : goal.atom-returns-else-is_bank_next-clause-agrees
atom-returns-else-is_bank_next-clause-agrees n c =
    agrees_by c.named_or_related.result c.named_or_related.new.self.rest.now (read_atom c.args.room) (read_named_or_related c.args.room) c.args.self.now.rest.now
    (is_named c.args.room c.args.self.now.rest.now (sym c.is_next.ensures ∙ c.if-is_next.false) (sym c.is_next-else-is_next.ensures ∙ c.if-is_next-2.false) (sym c.is_next-else-is_next-2.ensures ∙ c.if-is_next-3.false) (sym c.is_next-else-is_next-3.ensures ∙ c.if-is_next-4.false) (sym c.is_next-else-is_next-4.ensures ∙ c.if-is_next-5.false) (sym c.is_next-else-is_next-5.ensures ∙ c.if-is_next-6.false) (sym c.is_next-else-is_next-6.ensures ∙ c.if-is_next-7.false) (sym c.is_next-else-is_next-7.ensures ∙ c.if-is_next-8.false) (sym c.is_bank_next.ensures ∙ c.if-is_bank_next.false))
    c.named_or_related.ensures.agrees
