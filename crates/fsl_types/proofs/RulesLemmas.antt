-- Where no fault is named there is none.
use Rattle.std.proofs.Common.{◌≡◌, List, [], ◌∷◌, None, refl}
use Rattle.fsl_types.specs.declared.fault.Fault.{Fault}
use Rattle.fsl_types.specs.Faults.{least_fault}

pub none_named : (faults : List Fault) → least_fault faults ≡ None → faults ≡ []
none_named [] none = refl
none_named (f ∷ fs) none = absurd cc
