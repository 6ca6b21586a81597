-- A body sets nothing of its contract, and starts with no variable of its own.
use Rattle.std.proofs.Common.{◌≡◌, inl, inr, ℕ, ◌==◌, Bool, true, false, List, [], ◌∷◌, map, ap, ◌∙◌, sym, subst, refl, eqb-true}
use Rattle.std.proofs.lemmas.Bool.{and_parts, or_cases}
use Rattle.std.specs.List.{list_all, list_any}
use Rattle.fsl_core.specs.declared.declaration.Proc.{Proc}
use Rattle.fsl_core.specs.declared.scope.Sight.{Sight}
use Rattle.fsl_core.specs.declared.scope.Sight.TheVariants as sight
use Rattle.fsl_core.specs.Scopes.{is_settable, sight_at, kept, in_body, behind_requires, parameters_of}
use Rattle.fsl_core.specs.logic.Paths.{stmt_of, all_sets}
use Rattle.fsl_scoped.specs.Assertions.{is_shared}
use Rattle.fsl_scoped.specs.Procedures.{BodiesKeepContracts, BodiesAreDeclared, ContractsAreOutside}
use Rattle.fsl_scoped.proofs.Binding.{asrt_binds}
use Rattle.fsl_scoped.proofs.Parameters.{no_local, parameters_outside, proc_fits, body_sight}
use Rattle.fsl_scoped.proofs.Setting.{blocks_set_their_own}

no_locals : (q : Proc) (slot : ℕ) → sight_at (behind_requires q) slot ≡ sight.Local → ⊥
no_locals q slot e = no_local q slot ((asrt_binds q.pre).local (parameters_of q) slot e)

one_of : (f : ℕ → Bool) (slots : List ℕ) (slot : ℕ) → list_all f slots ≡ true → list_any (λ s. s == slot) slots ≡ true → f slot ≡ true
one_of f [] slot h k = absurd (let d : false ≡ true = k in cc)
one_of f (s ∷ slots) slot h k =
    let both = and_parts (f s) (list_all f slots) h in
    elim (or_cases (s == slot) (list_any (λ x. x == slot) slots) k) [
      | inl e ↦ subst (λ (x : ℕ). f x ≡ true) (eqb-true s slot e) both.0
      | inr m ↦ one_of f slots slot both.1 m
    ]

-- what a body may set is none of the contract's
settable_not_shared : (s : Sight) → (s ≡ sight.Local → ⊥) → is_settable (kept s) ≡ true → is_shared s ≡ false
settable_not_shared sight.Free unlike h = refl
settable_not_shared sight.Kept unlike h = refl
settable_not_shared sight.Local unlike h = absurd (unlike refl)
settable_not_shared sight.Given unlike h = absurd (let d : false ≡ true = h in cc)
settable_not_shared sight.Bound unlike h = absurd (let d : false ≡ true = h in cc)
settable_not_shared sight.Bank unlike h = absurd (let d : false ≡ true = h in cc)
settable_not_shared sight.Either unlike h = absurd (let d : false ≡ true = h in cc)

kept_local : (s : Sight) → kept s ≡ sight.Local → s ≡ sight.Local
kept_local sight.Bound h = absurd (let d : sight.Kept ≡ sight.Local = h in cc)
kept_local sight.Free h = h
kept_local sight.Kept h = h
kept_local sight.Given h = h
kept_local sight.Local h = h
kept_local sight.Bank h = h
kept_local sight.Either h = h

pub bodies_keep_contracts : BodiesKeepContracts
bodies_keep_contracts procs q r slot scoped set =
    let scope = in_body (behind_requires q) in
    let own = blocks_set_their_own procs r q.body scope (proc_fits procs q scoped).body in
    let may = one_of (λ s. is_settable (sight_at scope s)) (all_sets (map (stmt_of r) q.body)) slot own set in
    settable_not_shared (sight_at (behind_requires q) slot) (no_locals q slot) (sym (ap is_settable (body_sight (behind_requires q) slot)) ∙ may)

pub bodies_are_declared : BodiesAreDeclared
bodies_are_declared procs q slot e =
    absurd (no_locals q slot (kept_local (sight_at (behind_requires q) slot) (sym (body_sight (behind_requires q) slot) ∙ e)))

pub contracts_outside : ContractsAreOutside
contracts_outside q = (asrt_binds q.pre).outside (parameters_of q) ∙ parameters_outside q
