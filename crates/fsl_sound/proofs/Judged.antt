-- A verdict of the rules on a program that is well formed comes with its safety.
use Rattle.std.proofs.Common.{◌≡◌, true, Result, Ok, Err, IfOk}
use Rattle.fsl_core.specs.declared.verdict.Verdict.{Verdict}
use Rattle.fsl_core.specs.Programs.{Program}
use Rattle.fsl_core.specs.WellFormed.{is_well_formed}
use Rattle.fsl_core.specs.logic.Verdicts.{verdict_of}
use Rattle.fsl_derived.proofs.Safety.{accepted_are_safe}
use Rattle.fsl_sound.specs.Judged.{IsJudged}

pub is_judged : {E : Type 0} (p : Program) → is_well_formed p ≡ true → (result : Result Verdict E) → IfOk result (λ v. v ≡ verdict_of p) → IfOk result (IsJudged p)
is_judged p well (Ok v) is = record { is = is; safe = accepted_are_safe p well }
is_judged p well (Err e) is = tt
