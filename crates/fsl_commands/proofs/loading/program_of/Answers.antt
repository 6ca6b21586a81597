use Rattle.fsl_commands.proofs.loading.program_of.Goals as goal

-- the fault is one for every command
pub returns-in-Err-clause-fault : goal.returns-in-Err-clause-fault
returns-in-Err-clause-fault c = c.in-Err.ensures.fault c.args.command
