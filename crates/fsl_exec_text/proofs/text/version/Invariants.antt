use Rattle.std.proofs.Common.{◌≡◌, drop}
use Rattle.std.specs.List.{list_any}
use Rattle.fsl_exec_text.specs.Texts.{is_free}
use Rattle.fsl_exec_text.proofs.text.version.Given as goal

-- no event so far frees
abbrev pub invariant-loop-event : goal.invariant-loop-event
invariant-loop-event l = list_any (λ x. is_free x.label) (drop l.event-index l.events) ≡ list_any (λ x. is_free x.label) l.events
