-- The move that starts threads.
use Rattle.std.proofs.Common.{◌≡◌, ℕ, ◌+◌, ◌<◌, ◌^◌, true, List, length, Option, Some, None, refl, ap, subst}
use Rattle.std.specs.Option.{is_some}
use Rattle.fsl_core.specs.declared.act.Act.TheOpen.{Act-F}
use Rattle.fsl_core.specs.declared.act.Called.{Called}
use Rattle.fsl_core.specs.declared.label.Label.TheVariants as label
use Rattle.fsl_core.specs.declared.need.Reply.TheVariants as reply
use Rattle.fsl_core.specs.declared.need.Started.{Started}
use Rattle.fsl_core.specs.Programs.{Program}
use Rattle.fsl_core.specs.Moves.{Values, Config, showing, forking, numbers_from, started_of}
use Rattle.fsl_moves.specs.declared.done.Done.TheVariants as done
use Rattle.fsl_moves.specs.Done.{Ends}
use Rattle.fsl_moves.specs.Moves.{CanStart, CanNumber}
use Rattle.fsl_moves.proofs.ListsLemmas.{started_length}

counted : (o : Option (List Started)) (n first : ℕ) → ((ts : List Started) → o ≡ Some ts → length ts ≡ n) → is_some o ≡ true
    → CanStart o (reply.Threads first) → first + n < 2 ^ 32
counted None n first each is can = cc
counted (Some ts) n first each is can = subst (λ k. first + k < 2 ^ 32) (each ts refl) can

pub have_numbers : (p : Program) (calls : List Called) (env : Values) (first : ℕ) → is_some (started_of p calls env) ≡ true
    → CanNumber p (Act-F.Par calls) env (reply.Threads first) → first + length calls < 2 ^ 32
have_numbers p calls env first is can =
    counted (started_of p calls env) (length calls) first (λ ts h. started_length p calls env ts h) is can

started : (o : Option (List Started)) (n first : ℕ) (to : ℕ → Config) → ((ts : List Started) → o ≡ Some ts → length ts ≡ n) → is_some o ≡ true
    → (forking o to).answered (reply.Threads first) ≡ showing (label.Fork (numbers_from first n)) (to first)
started None n first to each is = cc
started (Some ts) n first to each is =
    ap (λ k. showing (label.Fork (numbers_from first k)) (to first)) (each ts refl)

pub starts : (p : Program) (calls : List Called) (env : Values) (first : ℕ) → is_some (started_of p calls env) ≡ true
    → Ends p (Act-F.Par calls) env (reply.Threads first) env
    (done.Starts (record { first = first; count = length calls }) (label.Fork (numbers_from first (length calls))))
starts p calls env first is stmt rest target fs =
    started (started_of p calls env) (length calls) first _ (λ ts h. started_length p calls env ts h) is
