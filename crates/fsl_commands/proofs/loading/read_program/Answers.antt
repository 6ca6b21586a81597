use Rattle.std.proofs.Common.{◌≡◌, ℕ, List, subst}
use Rattle.fsl_types.specs.Reading.{ReadsAs}
use Rattle.fsl_commands.specs.declared.loading.Fault.{Fault}
use Rattle.fsl_commands.specs.declared.loading.Fault.TheVariants as faults
use Rattle.fsl_commands.specs.Loading.{IsFault, IsOnly, IsRefused}
use Rattle.fsl_commands.proofs.LoadingLemmas.{cause_of}
use Rattle.fsl_commands.proofs.loading.read_program.Goals as goal

pub returns-in-Ok-program_of-clause-program : goal.returns-in-Ok-program_of-clause-program
returns-in-Ok-program_of-clause-program g c =
    let Reads : List ℕ → Type 0 = λ bytes. ReadsAs bytes c.in-Ok-program_of.program in
    let Only : List ℕ → Type 0 = λ bytes. IsOnly bytes c.in-Ok-program_of.program in
    record {
      file = c.in-Ok.ensures.file;
      reads = subst Reads c.as_slice.ensures c.in-Ok-program_of.ensures.reads;
      only = subst Only c.as_slice.ensures c.in-Ok-program_of.ensures.only;
      supported = c.in-Ok-program_of.ensures.supported;
    }

pub returns-in-Err-clause-cause : goal.returns-in-Err-clause-cause
returns-in-Err-clause-cause g c = c.in-Err.ensures.cause c.args.command

pub returns-in-Err-Refused-clause-cause : goal.returns-in-Err-Refused-clause-cause
returns-in-Err-Refused-clause-cause g c =
    let bytes : List ℕ = c.as_slice.result.now in
    let field = c.in-Err-Refused.field-0-is in
    let why = c.in-Err-Refused.why-is in
    let same : c.in-Err-Refused.field-0 ≡ faults.Refused c.in-Err-Refused.why = cc in
    let Of : Fault → Type 0 = λ fault. IsFault c.args.command bytes fault in
    let In : List ℕ → Type 0 = λ bytes. IsRefused c.args.command bytes c.in-Err-Refused.why in
    cause_of c.args.command _ c.in-Ok.bytes c.in-Err-Refused.why c.in-Ok.ensures.file
    (subst In c.as_slice.ensures (subst Of same c.in-Err-Refused.ensures.fault))
