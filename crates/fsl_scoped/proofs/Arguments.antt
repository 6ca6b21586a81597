-- The arguments of a run and of a path.
use Rattle.std.proofs.Common.{◌≡◌, ℕ, zero, suc, ◌+◌, ◌-◌, ◌==◌, Bool, true, false, List, [], ◌∷◌, ◌++◌, length, replicate, Some, ℤ, pos, slice_get, ap, ◌∙◌, sym, subst, refl, arith}
use Rattle.std.proofs.lemmas.Bool.{and_parts}
use Rattle.std.specs.List.{list_any}
use Rattle.fsl_core.specs.declared.expr.Expr.{Expr}
use Rattle.fsl_core.specs.declared.scope.Scope.{Scope}
use Rattle.fsl_core.specs.Moves.{argument, arguments_from}
use Rattle.fsl_core.specs.Scopes.{Sees, argument_fits, arguments_fit, parameters_of}
use Rattle.fsl_meaning.specs.Means.{padded_numbers}
use Rattle.fsl_asserted.specs.Exact.{exact, exact_all}
use Rattle.fsl_asserted.proofs.Asking.{some_is, value_asked}
use Rattle.fsl_scoped.specs.Arguments.{ArgumentsAreExact, StartsAreSeen}
use Rattle.fsl_scoped.proofs.Lists.{append_alike}
use Rattle.fsl_scoped.proofs.Exactly.{reads_exact}
use Rattle.fsl_scoped.proofs.Numbers.{asrt_keeps}
use Rattle.fsl_scoped.proofs.Parameters.{number_parameter, proc_fits, start_number}

-- those for parameters from `slot` on, which are numbers
record Passed (banks : List ℕ) (slot : ℕ) (vs xs : List ℤ) : Type 0 where
  long : length vs ≡ length xs
  same : (k at : ℕ) → at ≡ slot + k → list_any (λ bank. bank == at) banks ≡ false → slice_get vs k ≡ slice_get xs k

number_passed : (scope : Scope) (env slots : List ℤ) → Sees scope env slots → (bank : Bool) (e : Expr) (x : ℤ) → bank ≡ false
    → argument_fits scope bank e ≡ true → argument bank e env ≡ Some x → x ≡ exact e slots
number_passed scope env slots sees true e x h fit is = absurd (let d : true ≡ false = h in cc)
number_passed scope env slots sees false e x h fit is = sym (reads_exact scope env slots sees e x fit is)

args_passed : (scope : Scope) (env slots : List ℤ) → Sees scope env slots → (banks : List ℕ) (slot : ℕ) (args : List Expr) (vs : List ℤ)
    → arguments_fit scope banks slot args ≡ true → arguments_from banks slot args env ≡ Some vs → Passed banks slot vs (exact_all args slots)
args_passed scope env slots sees banks slot [] vs fit h =
    subst (λ (zs : List ℤ). Passed banks slot zs []) (some_is h) (record { long = refl; same = λ k at e n. refl })
args_passed scope env slots sees banks slot (e ∷ es) vs fit h =
    let bank = list_any (λ bank. bank == slot) banks in
    let both = and_parts (argument_fits scope bank e) (arguments_fit scope banks (slot + 1) es) fit in
    let i = value_asked (argument bank e env) _ vs h in
    let j = value_asked (arguments_from banks (slot + 1) es env) _ vs i.then_is in
    let rest = args_passed scope env slots sees banks (slot + 1) es j.value both.1 j.is in
    subst (λ (zs : List ℤ). Passed banks slot zs (exact_all (e ∷ es) slots)) (some_is j.then_is)
    (record { long = ap suc rest.long; same = λ k at is none. item i.value j.value i.is both.0 rest k at is none })
  where
    item : (v : ℤ) (ws : List ℤ) → argument (list_any (λ bank. bank == slot) banks) e env ≡ Some v → argument_fits scope (list_any (λ bank. bank == slot) banks) e ≡ true
        → Passed banks (slot + 1) ws (exact_all es slots) → (k at : ℕ) → at ≡ slot + k → list_any (λ bank. bank == at) banks ≡ false
        → slice_get (v ∷ ws) k ≡ slice_get (exact_all (e ∷ es) slots) k
    item v ws value fits rest zero at is none =
        let here : at ≡ slot = omega (arith, is) in
        let number : list_any (λ bank. bank == slot) banks ≡ false = ap (λ (n : ℕ). list_any (λ bank. bank == n) banks) (sym here) ∙ none in
        ap Some (number_passed scope env slots sees (list_any (λ bank. bank == slot) banks) e v number fits value)
    item v ws value fits rest (suc k) at is none = rest.same k at (omega (arith, is)) none

padded_alike : (slots k : ℕ) (vs xs : List ℤ) → length vs ≡ length xs → slice_get vs k ≡ slice_get xs k → slice_get (padded_numbers slots vs) k ≡ slice_get (padded_numbers slots xs) k
padded_alike slots k vs xs long same =
    append_alike vs xs (replicate (slots - length vs) (pos 0)) k long same
    ∙ ap (λ (n : ℕ). slice_get (xs ++ replicate (slots - n) (pos 0)) k) long

length_all : (es : List Expr) (xs : List ℤ) → length (exact_all es xs) ≡ length es
length_all [] xs = refl
length_all (e ∷ es) xs = ap suc (length_all es xs)

pub arguments_exact : ArgumentsAreExact
arguments_exact procs q scope args env slots vs scoped out count fit sees h =
    let passed = args_passed scope env slots sees q.banks 0 args vs fit h in (
      passed.long ∙ length_all args slots ∙ count,
      λ slot number.
          let start = start_number procs q slot (proc_fits procs q scoped) number in
          let parameter = number_parameter q slot start.number in
          padded_alike q.slots slot vs (exact_all args slots) passed.long (passed.same slot slot (omega arith) parameter.number),
    )

pub starts_seen : StartsAreSeen
starts_seen procs q scope args env slots vs t rung n scoped out count fit sees h asked =
    let passed = arguments_exact procs q scope args env slots vs scoped out count fit sees h in
    let fits = proc_fits procs q scoped in
    let keeps = asrt_keeps t q.pre (parameters_of q) rung (padded_numbers q.slots (exact_all args slots)) n fits.pre asked in
    (passed.0, λ slot number. passed.1 slot number ∙ sym (keeps.same slot (start_number procs q slot fits number).shut))
